-- The rows of the table of refusals, documents 01 and 02: the number of each, and the code of a check.
use Rattle.std.specs.Prelude.{ℕ, Result, Ok, Err}
use Rattle.refusal.specs.declared.Refusal.{Refusal}
use Rattle.refusal.specs.declared.Refusal.TheVariants.{ShortFile, Mark, Version, Machines, Capacity, Blocks, FileLength, LeastCopies, Spread, OverBudget, OverPlaces, ShortBuffer, NoSuchMachine, CopyCount, TooFewDomains, OverCapacity, PairByte, PairTogether, NoSuchBlock, TickGap, FullList, Feeds, UnusableBudget, NewBlock, NoMachine, ShortText}

-- The row's number.
abbrev pub number_of : Refusal → ℕ
number_of ShortFile = 1
number_of Mark = 2
number_of Version = 3
number_of Machines = 4
number_of Capacity = 5
number_of Blocks = 6
number_of FileLength = 7
number_of LeastCopies = 8
number_of Spread = 9
number_of OverBudget = 10
number_of OverPlaces = 11
number_of ShortBuffer = 12
number_of NoSuchMachine = 13
number_of CopyCount = 14
number_of TooFewDomains = 15
number_of OverCapacity = 16
number_of PairByte = 17
number_of PairTogether = 18
number_of NoSuchBlock = 19
number_of TickGap = 20
number_of FullList = 21
number_of Feeds = 22
number_of UnusableBudget = 23
number_of NewBlock = 24
number_of NoMachine = 25
number_of ShortText = 255

-- A check's code: the number of the row that refuses, and 0 where it passes.
abbrev pub code_of : {A : Type 0} → Result A Refusal → ℕ
code_of (Ok passed) = 0
code_of (Err refusal) = number_of refusal

-- Every row's number is positive, so a check passes exactly where its code is 0.
-- Assumes nothing.
use mathlib.Core.Path.{◌≡◌}
use Prim.Native.Nat.{◌≤◌}
use native.Mathlib.Omega.{arith}
use Rattle.refusal.specs.Rows.{number_of}
use Rattle.refusal.specs.declared.Refusal.{Refusal}
use Rattle.refusal.specs.declared.Refusal.TheVariants.{ShortFile, Mark, Version, Machines, Capacity, Blocks, FileLength, LeastCopies, Spread, OverBudget, OverPlaces, ShortBuffer, NoSuchMachine, CopyCount, TooFewDomains, OverCapacity, PairByte, PairTogether, NoSuchBlock, TickGap, FullList, Feeds, UnusableBudget, NewBlock, NoMachine, ShortText}

pub number_of-pos : (refusal : Refusal) → 1 ≤ number_of refusal
number_of-pos ShortFile = omega arith
number_of-pos Mark = omega arith
number_of-pos Version = omega arith
number_of-pos Machines = omega arith
number_of-pos Capacity = omega arith
number_of-pos Blocks = omega arith
number_of-pos FileLength = omega arith
number_of-pos LeastCopies = omega arith
number_of-pos Spread = omega arith
number_of-pos OverBudget = omega arith
number_of-pos OverPlaces = omega arith
number_of-pos ShortBuffer = omega arith
number_of-pos NoSuchMachine = omega arith
number_of-pos CopyCount = omega arith
number_of-pos TooFewDomains = omega arith
number_of-pos OverCapacity = omega arith
number_of-pos PairByte = omega arith
number_of-pos PairTogether = omega arith
number_of-pos NoSuchBlock = omega arith
number_of-pos TickGap = omega arith
number_of-pos FullList = omega arith
number_of-pos Feeds = omega arith
number_of-pos UnusableBudget = omega arith
number_of-pos NewBlock = omega arith
number_of-pos NoMachine = omega arith
number_of-pos ShortText = omega arith

pub number_of-some : (refusal : Refusal) → number_of refusal ≡ 0 → ⊥
number_of-some refusal e = omega (arith, number_of-pos refusal)

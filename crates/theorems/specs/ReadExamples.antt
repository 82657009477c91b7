-- Document 02, U2: small examples of reads, each on a plan's bytes and a list of a few records. H has blocks 0 to 2, the pair's plan has a
-- pair of blocks 0 and 1, and block 2.
use Rattle.std.specs.Prelude.{◌≡◌, List, [], ◌∷◌, ℕ}
use Rattle.model.specs.declared.Entry.{Entry}
use Rattle.model.specs.Calls.{OutcomeOver, answered, refuse}
use Rattle.model.specs.ReadLog.{entry, no_entry, read_call, popularity_call}
use Rattle.theorems.specs.Trials.{plan-H}
use Rattle.theorems.specs.RowExamples.{H-with, plan-pair}

abbrev pub leaves : ℕ → List Entry → OutcomeOver Entry ℕ
leaves n list = record { answer = answered n; items = list }

-- A list with one entry, at tick 5, and room for two more.
abbrev pub one_entry : List Entry
one_entry = entry 2 5 ∷ no_entry ∷ no_entry ∷ []

-- A list of four entries.
abbrev pub four-entries : List Entry
four-entries = entry 0 1 ∷ entry 1 2 ∷ entry 1 3 ∷ entry 2 4 ∷ []

pub record ReadExamples : Type 0 where
  -- the first read of an empty list, whatever its records hold; later records become 0
  pub first : read_call plan-H 2 5 (entry 7 7 ∷ entry 8 8 ∷ []) 0 ≡ leaves 1 (entry 2 5 ∷ no_entry ∷ [])
  -- a read counts while its age is below 7,200,000
  pub stands : read_call plan-H 1 7200004 one_entry 1 ≡ leaves 2 (entry 2 5 ∷ entry 1 7200004 ∷ no_entry ∷ [])
  pub dropped : read_call plan-H 1 7200005 one_entry 1 ≡ leaves 1 (entry 1 7200005 ∷ no_entry ∷ no_entry ∷ [])
  -- the tick starts over
  pub over : read_call plan-H 0 4 (entry 1 4294967295 ∷ no_entry ∷ []) 1 ≡ leaves 2 (entry 1 4294967295 ∷ entry 0 4 ∷ [])
  -- those kept move to the front in order
  pub moved : read_call plan-H 0 7200003 (entry 0 1 ∷ entry 1 4 ∷ entry 2 2 ∷ entry 0 5 ∷ []) 4
      ≡ leaves 3 (entry 1 4 ∷ entry 0 5 ∷ entry 0 7200003 ∷ no_entry ∷ [])
  pub row19 : read_call plan-H 3 6 one_entry 1 ≡ refuse 19 one_entry
  -- the last tick's age is 2 to the power 31, or one less
  pub row20 : read_call plan-H 1 2147483653 one_entry 1 ≡ refuse 20 one_entry
  pub before-row20 : read_call plan-H 1 2147483652 one_entry 1 ≡ leaves 1 (entry 1 2147483652 ∷ no_entry ∷ no_entry ∷ [])
  -- the list is full after the dropping; a full list that one entry leaves; a list without records
  pub row21 : read_call plan-H 1 5 four-entries 4 ≡ refuse 21 four-entries
  pub after-dropping : read_call plan-H 1 7200001 four-entries 4
      ≡ leaves 4 (entry 1 2 ∷ entry 1 3 ∷ entry 2 4 ∷ entry 1 7200001 ∷ [])
  pub no-records : read_call plan-H 1 5 [] 0 ≡ refuse 21 []
  -- a count above the usable length is taken as it
  pub count-above : read_call plan-H 1 5 four-entries 9 ≡ refuse 21 four-entries
  -- the plan's refusals come first, then 19, then 20
  pub plan-first : read_call (H-with 0 0) 3 2147483653 one_entry 1 ≡ refuse 2 one_entry
  pub nineteen-first : read_call plan-H 3 2147483653 one_entry 1 ≡ refuse 19 one_entry
  -- the number of a block's entries, for both of a pair the larger
  pub counted : popularity_call plan-H 1 four-entries 4 ≡ leaves 2 four-entries
  pub in_count : popularity_call plan-H 1 four-entries 2 ≡ leaves 1 four-entries
  pub of_pair : popularity_call plan-pair 0 four-entries 4 ≡ leaves 2 four-entries
  pub of-second : popularity_call plan-pair 1 four-entries 4 ≡ leaves 2 four-entries
  pub unpaired : popularity_call plan-pair 2 four-entries 4 ≡ leaves 1 four-entries
  pub popularity-row19 : popularity_call plan-H 3 four-entries 4 ≡ refuse 19 four-entries

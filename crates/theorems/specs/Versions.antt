-- Document 02, U1 and U4 to U7: plans of two versions with the same fields are equal but for the version, and what a call answers goes by
-- the version's most copies and by row 23 alone: where these say the same of both versions, all calls but the converter's answer the same.
use Rattle.std.specs.Prelude.{◌≡◌, List, ℕ, ◌*◌, ◌<◌, ◌≤◌, min, length}
use Rattle.model.specs.declared.Entry.{Entry}
use Rattle.model.specs.Plan.{Plan, machines, places, max_replicas, mark_in, version_in, racks_in, rack_size_in, feeds_in, capacity_in, budget_in, block_count_in, latest_version, format_of, record_at, block_in}
use Rattle.model.specs.Refusal.{check23, refusal, Verdict, refused, accepted, judge}
use Rattle.model.specs.Replication.{chosen}
use Rattle.model.specs.Placement.{first_placement}
use Rattle.model.specs.Steps.{next_step, run}
use Rattle.model.specs.Calls.{counts_call, first_call, check_call, report_call, step_call, run_call}
use Rattle.model.specs.ReadLog.{read_call, popularity_call}
use Rattle.model.specs.Listing.{listing_of, printed}
use Rattle.model.specs.Writing.{plan_bytes}
use Rattle.model.specs.Conversion.{with_version}
use Rattle.theory.specs.Refusal.{PastRow23}
use Rattle.theory.specs.Writing.{AreBytes}

-- The verdict that accepts the same plan in another version.
abbrev pub verdict_with : ℕ → Verdict → Verdict
verdict_with version (refused code) = refused code
verdict_with version (accepted p) = accepted (with_version version p)

-- Both versions allow as many copies on so many machines.
abbrev pub SameUpper : ℕ → ℕ → ℕ → Type 0
SameUpper from to machines = min (max_replicas to) machines ≡ min (max_replicas from) machines

-- Row 23 says the same of a budget in both versions.
abbrev pub SameRow23 : ℕ → ℕ → ℕ → ℕ → Type 0
SameRow23 from to room budget = check23 to room budget ≡ check23 from room budget

-- Versions 1 and 2 allow as many copies on any number of machines, versions 3 and 4, too, and all versions on up to 8. Row 23 says the same
-- of any budget in versions before 4, and in all versions of a budget that can be used.
pub record Comparable : Type 0 where
  pub early : (machines : ℕ) → SameUpper 1 2 machines
  pub later : (machines : ℕ) → SameUpper 4 3 machines
  pub few : (from to machines : ℕ) → machines ≤ 8 → SameUpper from to machines
  pub unjudged : (from to room budget : ℕ) → from < 4 → to < 4 → SameRow23 from to room budget
  pub usable : (from to room budget : ℕ) → budget ≤ room → SameRow23 from to room budget

-- What a plan says is the same in another version.
pub record VersionFree (version : ℕ) (p : Plan) : Type 0 where
  pub counts : chosen (with_version version p) ≡ chosen p
  pub first : first_placement (with_version version p) ≡ first_placement p
  pub next : (words : List ℕ) → next_step (with_version version p) words ≡ next_step p words
  pub runs : (limit : ℕ) (words : List ℕ) → run (with_version version p) limit words ≡ run p limit words
  pub listing : (limit : ℕ) → listing_of (with_version version p) limit ≡ listing_of p limit

-- It is where both versions allow as many copies.
abbrev pub VersionsFree : Type 0
VersionsFree = (version : ℕ) (p : Plan) → SameUpper p.version version (machines p) → VersionFree version p

-- A version that is read.
pub record Described (version : ℕ) : Type 0 where
  pub version-pos : 1 ≤ version
  pub version-max : version ≤ latest_version

-- Bytes of one version, and bytes of another with the same fields, each as long as its version wants. A record without a pair byte equals
-- one whose pair byte is 0, and a header without F one whose F is R.
pub record SameFields (from to : ℕ) (old new : List ℕ) : Type 0 where
  pub mark-same : mark_in new ≡ mark_in old
  pub old-version : version_in old ≡ from
  pub new-version : version_in new ≡ to
  pub racks-same : racks_in new ≡ racks_in old
  pub size_same : rack_size_in new ≡ rack_size_in old
  pub feeds-same : feeds_in new ≡ feeds_in old
  pub capacity-same : capacity_in new ≡ capacity_in old
  pub budget-same : budget_in new ≡ budget_in old
  pub blocks-same : block_count_in new ≡ block_count_in old
  pub records-same : (i : ℕ) → i < block_count_in old → block_in (format_of to) new i ≡ block_in (format_of from) old i
  pub old-length : length old ≡ record_at (format_of from) (block_count_in old)
  pub new-length : length new ≡ record_at (format_of to) (block_count_in old)

-- The verdict is the same but for the plan's version, and so is what every call but the converter's answers and leaves, and what is printed.
pub record SameAnswers (to : ℕ) (old new : List ℕ) : Type 0 where
  pub verdict : judge new ≡ verdict_with to (judge old)
  pub counts : (items : List ℕ) → counts_call new items ≡ counts_call old items
  pub first : (words : List ℕ) → first_call new words ≡ first_call old words
  pub check : (words : List ℕ) → check_call new words ≡ check_call old words
  pub report : (words : List ℕ) → report_call new words ≡ report_call old words
  pub step : (words : List ℕ) → step_call new words ≡ step_call old words
  pub run : (words : List ℕ) (limit : ℕ) → run_call new words limit ≡ run_call old words limit
  pub read : (block tick : ℕ) (list : List Entry) (count : ℕ) → read_call new block tick list count ≡ read_call old block tick list count
  pub popularity : (block : ℕ) (list : List Entry) (count : ℕ) → popularity_call new block list count ≡ popularity_call old block list count
  pub listing : (limit : ℕ) → printed new limit ≡ printed old limit

abbrev pub Versions : Type 0
Versions =
    (from to : ℕ) → Described from → Described to → (old new : List ℕ) → SameFields from to old new
    → SameUpper from to (racks_in old * rack_size_in old)
    → SameRow23 from to (racks_in old * rack_size_in old * capacity_in old) (budget_in old)
    → SameAnswers to old new

-- Where row 23 does not say the same: a version before 4, version 4, and a budget above M × C. A refusal by a row before 23 stays, and
-- whatever else was answered, acceptance too, becomes 23.
pub record TurnedBack (old new : List ℕ) : Type 0 where
  pub earlier : (PastRow23 (refusal old) → ⊥) → refusal new ≡ refusal old
  pub later : PastRow23 (refusal old) → refusal new ≡ 23

abbrev pub VersionsApart : Type 0
VersionsApart =
    (from : ℕ) → Described from → from < 4 → (old new : List ℕ) → SameFields from 4 old new
    → SameUpper from 4 (racks_in old * rack_size_in old)
    → racks_in old * rack_size_in old * capacity_in old < budget_in old
    → TurnedBack old new

-- The twin of an accepted plan in another version: a plan that is accepted, is equal but for the version, and on which every call but the
-- converter's answers the same, counts, first placement, steps, reads and listing among them.
pub record Twin (version : ℕ) (bytes : List ℕ) (p : Plan) : Type 0 where
  pub accepts : judge (plan_bytes (with_version version p)) ≡ accepted (with_version version p)
  pub same : SameAnswers version bytes (plan_bytes (with_version version p))

-- Every accepted version 4 plan with F = R has a version 3 twin.
abbrev pub Twins : Type 0
Twins =
    (bytes : List ℕ) → AreBytes bytes → (p : Plan) → judge bytes ≡ accepted p → p.version ≡ 4 → p.feeds ≡ p.racks
    → Twin 3 bytes p

-- The converse fails exactly by 23: an accepted version 3 plan has a version 4 twin, with F = R, where its budget can be used, and
-- otherwise that file is refused 23.
pub record LaterTwin (bytes : List ℕ) (p : Plan) : Type 0 where
  pub usable : p.budget ≤ places p → Twin 4 bytes p
  pub unusable : places p < p.budget → judge (plan_bytes (with_version 4 p)) ≡ refused 23

abbrev pub LaterTwins : Type 0
LaterTwins =
    (bytes : List ℕ) → AreBytes bytes → (p : Plan) → judge bytes ≡ accepted p → p.version ≡ 3
    → LaterTwin bytes p

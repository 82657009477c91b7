-- Demand 3: the claim about a list of calls (`Claim` in model/specs/Claims.antt), from the first placement, the lists that it is sure to be
-- about, and its bounds at rest written out. X is the hottest load after the list, Y that of any lawful placement at any lawful counts, s the
-- largest share after the list.
use Rattle.std.specs.Prelude.{◌≡◌, List, [], ◌∷◌, ◌⊎◌, ℕ, ◌+◌, ◌*◌, ◌-◌, ◌<◌, ◌≤◌}
use Rattle.model.specs.Plan.{Plan, machines, block_count, block_of}
use Rattle.model.specs.Refusal.{judge, refused, accepted}
use Rattle.model.specs.Replication.{chosen}
use Rattle.model.specs.Placement.{Feasible, used, max_load_of, max_share}
use Rattle.model.specs.Steps.{AtRest}
use Rattle.model.specs.Calls.{answered, first_call}
use Rattle.model.specs.Claims.{Call, checked, play, Allowed, After}

-- Making a first placement begins a new list: where that call answers, the claim is of the words that it left.
abbrev pub FirstClaim : Type 0
FirstClaim =
    (bytes lent : List ℕ) (blocks : ℕ) → (first_call bytes lent).answer ≡ answered blocks
    → (p : Plan) × (judge bytes ≡ accepted p)
    × ((calls : List Call) → Allowed bytes (block_count p) calls (first_call bytes lent).items
    → After p (first_call bytes lent).items (play checked calls (first_call bytes lent).items))

-- Every call of the list gets the plan's own bytes, or bytes that are refused as a plan.
unfoldable pub OwnOrRefused : List ℕ → List Call → Type 0
OwnOrRefused plan [] = Unit {0}
OwnOrRefused plan (call ∷ calls) =
    ((call.bytes ≡ plan) ⊎ ((code : ℕ) × (judge call.bytes ≡ refused code))) × OwnOrRefused plan calls

-- Each such list is allowed, with any words: with the plan's bytes and fewer than B words a call is refused too.
abbrev pub EveryList : Type 0
EveryList =
    (bytes : List ℕ) (p : Plan) → judge bytes ≡ accepted p
    → (calls : List Call) → OwnOrRefused bytes calls → (words : List ℕ) → Allowed bytes (block_count p) calls words

-- The words after a list of calls from a lawful placement of an accepted plan, where they are at rest.
pub record RestAfter (p : Plan) (after : List ℕ) : Type 0 where
  pub bytes : List ℕ
  pub words : List ℕ
  pub calls : List Call
  pub reads : judge bytes ≡ accepted p
  pub feasible : Feasible p (chosen p) words
  pub allowed : Allowed bytes (block_count p) calls words
  pub after_is : after ≡ (play checked calls words).words
  pub rests : AtRest p after

-- M × X is at most M × Y + (M - 1) × s if every spread is one.
abbrev pub ClaimOneSpread : Type 0
ClaimOneSpread =
    (p : Plan) (after : List ℕ) → RestAfter p after
    → (count : ℕ → ℕ) (other : List ℕ) → Feasible p count other
    → ((i : ℕ) → i < block_count p → (block_of p i).min_domains ≡ 1)
    → machines p * max_load_of p after ≤ machines p * max_load_of p other + (machines p - 1) * max_share p after

-- M × X is at most M × Y + 3 × (M - 1) × s with larger spreads and no machine full.
abbrev pub ClaimLargerSpreads : Type 0
ClaimLargerSpreads =
    (p : Plan) (after : List ℕ) → RestAfter p after
    → (count : ℕ → ℕ) (other : List ℕ) → Feasible p count other
    → ((m : ℕ) → m < machines p → used p after m < p.capacity)
    → machines p * max_load_of p after ≤ machines p * max_load_of p other + 3 * (machines p - 1) * max_share p after

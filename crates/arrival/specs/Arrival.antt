-- The choice of machines for a new block: what it is asked with, and what its parts give.
use Rattle.std.specs.Prelude.{◌≡◌, Bool, cond, List, ℕ, ◌+◌, ◌*◌, ◌^◌, ◌<◌, ◌≤◌, ltb, eqb, length, get_or, Result, IfOk}
use Rattle.order.specs.Sum.{sum, delta}
use Rattle.model.specs.Plan.{Block, Plan, machines, domains, domain}
use Rattle.model.specs.Refusal.{max_machines}
use Rattle.model.specs.Placement.{bit, replicas_in, used, load}
use Rattle.model.specs.Recordings.{free_word, check25, domain_load, spread_word, arrival_word}
use Rattle.theory.specs.Widths.{load_bound}
use Rattle.refusal.specs.declared.Refusal.{Refusal}
use Rattle.refusal.specs.Rows.{code_of}
use Rattle.cluster.specs.declared.Cluster.{Cluster}
use Rattle.cluster.specs.Cluster.{machines_in, domain_in, InRange, ClusterOf}
use Rattle.loads.specs.declared.Loads.{Loads}

-- ── Sets ─────────────────────────────────────────────────────────────────────────────────────────

-- The numbers below n that pass the test, as the set bits of a word.
abbrev pub set_of : (ℕ → Bool) → ℕ → ℕ
set_of test n = sum n (λ k. cond (test k) (2 ^ k) 0)

-- A set that has a number, and a weight for each of 64.
pub record LightestAsked (set : ℕ) (weights : List ℕ) : Type 0 where
  pub some : 0 < set
  pub weight-room : max_machines ≤ length weights

-- r is the lightest number of the set, of several the lowest.
pub record LightestOf (set : ℕ) (weights : List ℕ) (r : ℕ) : Type 0 where
  pub below : r < max_machines
  pub on : bit set r ≡ 1
  pub none-lighter : (k : ℕ) → bit set k ≡ 1 → get_or weights r 0 ≤ get_or weights k 0
  pub lowest : (k : ℕ) → k < r → bit set k ≡ 1 → get_or weights r 0 < get_or weights k 0

-- ── Machines and domains ─────────────────────────────────────────────────────────────────────────

-- The machines with a free place: those that hold fewer than C copies.
abbrev pub free_in : Loads → Cluster → ℕ
free_in l c = set_of (λ m. ltb (get_or l.copies m 0) c.capacity) (machines_in c)

-- The machines of the word that lie in each domain.
pub record PartedTo (word : ℕ) (c : Cluster) (parts : List ℕ) : Type 0 where
  pub sized : length parts ≡ max_machines
  pub are : (d : ℕ) → d < max_machines → (k : ℕ) → bit (get_or parts d 0) k ≡ delta (domain_in c k) d * bit word k

-- Of so many parts, the roomy ones: those that have a machine.
abbrev pub roomy_in : List ℕ → ℕ → ℕ
roomy_in parts = set_of (λ d. ltb 0 (get_or parts d 0))

-- Each domain weighs the sum of its machines' loads, full machines included.
pub record WeightsOf (l : Loads) (c : Cluster) (weights : List ℕ) : Type 0 where
  pub sized : length weights ≡ max_machines
  pub are : (d : ℕ) → d < max_machines
      → get_or weights d 0 ≡ sum (machines_in c) (λ m. cond (eqb (domain_in c m) d) (get_or l.load m 0) 0)

-- ── The copies ───────────────────────────────────────────────────────────────────────────────────

-- Parts that share no machine, and as many roomy ones as copies are to be spread.
pub record SpreadAsked (parts weights loads : List ℕ) (roomy spread : ℕ) : Type 0 where
  pub parts-sized : length parts ≡ max_machines
  pub weights-sized : length weights ≡ max_machines
  pub loads-sized : length loads ≡ max_machines
  pub apart : (d e k : ℕ) → d < max_machines → e < max_machines → bit (get_or parts d 0) k ≡ 1 → bit (get_or parts e 0) k ≡ 1 → d ≡ e
  pub roomy-some : (d : ℕ) → bit roomy d ≡ 1 → 0 < get_or parts d 0
  pub enough : spread ≤ sum max_machines (bit roomy)

-- In plan p: the machines with a free place in each domain, what each domain weighs, the loads, and the domains with a free place.
pub record SpreadOf (p : Plan) (words parts weights loads : List ℕ) (roomy : ℕ) : Type 0 where
  pub parts_are : (d : ℕ) → d < domains p → (k : ℕ) → bit (get_or parts d 0) k ≡ delta (domain p k) d * bit (free_word p words) k
  pub weights-are : (d : ℕ) → d < domains p → get_or weights d 0 ≡ domain_load p words d
  pub loads-are : (m : ℕ) → m < machines p → get_or loads m 0 ≡ load p words m
  pub roomy-is : roomy ≡ set_of (λ d. ltb 0 (replicas_in p (free_word p words) d)) (domains p)

-- As many copies as were asked for, each on a machine of a part; those of the plan's spread.
pub record SpreadAs (parts weights loads : List ℕ) (roomy spread r : ℕ) : Type 0 where
  pub inside : (k : ℕ) → bit r k ≡ 1 → (d : ℕ) × (d < max_machines) × (bit (get_or parts d 0) k ≡ 1)
  pub copies-are : sum max_machines (bit r) ≡ spread
  pub is : (p : Plan) (words : List ℕ) → SpreadOf p words parts weights loads roomy → r ≡ spread_word p words spread

-- A word on free machines, and as many free machines left as copies are to follow.
pub record FillAsked (free word : ℕ) (loads : List ℕ) (others : ℕ) : Type 0 where
  pub loads-sized : length loads ≡ max_machines
  pub inside : (k : ℕ) → bit word k ≤ bit free k
  pub enough : sum max_machines (bit word) + others ≤ sum max_machines (bit free)

-- The machines of plan p with a free place, and the loads of its machines.
pub record FillOf (p : Plan) (words : List ℕ) (free : ℕ) (loads : List ℕ) : Type 0 where
  pub free-is : free ≡ free_word p words
  pub loads-are : (m : ℕ) → m < machines p → get_or loads m 0 ≡ load p words m

-- ── The choice ───────────────────────────────────────────────────────────────────────────────────

-- Loads in their range, and no more domains asked for than copies.
pub record PlaceAsked (l : Loads) (c : Cluster) (least spread : ℕ) : Type 0 where
  pub in-range : InRange c
  pub load-narrow : (m : ℕ) → m < max_machines → get_or l.load m 0 < load_bound
  pub spread-max : spread ≤ least

-- The loads and copies of plan p's machines.
pub record MachinesOf (p : Plan) (words : List ℕ) (c : Cluster) (l : Loads) : Type 0 where
  pub cluster-of : ClusterOf p c
  pub loads-are : (m : ℕ) → m < machines_in c → get_or l.load m 0 ≡ load p words m
  pub copies-are : (m : ℕ) → m < machines_in c → get_or l.copies m 0 ≡ used p words m

-- Refusal 25 and the word of block b.
pub record PlacedAs (p : Plan) (words : List ℕ) (b : Block) (r : Result ℕ Refusal) : Type 0 where
  pub code_is : code_of r ≡ check25 p words b 0
  pub word-is : IfOk r (λ word. word ≡ arrival_word p words b)

-- They are those of every block with these least copies and this spread, in every plan with these loads and copies.
pub record PlacedOf (l : Loads) (c : Cluster) (least spread : ℕ) (r : Result ℕ Refusal) : Type 0 where
  pub is : (p : Plan) (words : List ℕ) (b : Block) → MachinesOf p words c l → b.min_replicas ≡ least → b.min_domains ≡ spread
      → PlacedAs p words b r

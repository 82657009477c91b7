-- The loads of the machines and the copies on each, as sums over the words.
use Rattle.std.specs.Prelude.{◌≡◌, List, ◌↔◌, ℕ, ◌+◌, ◌*◌, ◌<◌, ◌≤◌, length, get_or}
use Rattle.order.specs.Sum.{sum, delta}
use Rattle.order.specs.Search.{largest, smallest}
use Rattle.model.specs.Refusal.{max_machines, max_blocks}
use Rattle.model.specs.Placement.{bit, held}
use Rattle.theory.specs.Widths.{share_bound, load_bound}
use Rattle.cluster.specs.declared.Cluster.{Cluster}
use Rattle.cluster.specs.Cluster.{machines_in}
use Rattle.cluster.specs.Blocks.{share_in}
use Rattle.loads.specs.declared.Loads.{Loads}
use Rattle.loads.specs.declared.LoadReport.{LoadReport}

-- Room for one more share and one more copy on every machine.
pub record AddAsked (loads copies : List ℕ) (share : ℕ) : Type 0 where
  pub loads-sized : length loads ≡ max_machines
  pub copies-sized : length copies ≡ max_machines
  pub load-room : (m : ℕ) → m < max_machines → get_or loads m 0 < load_bound
  pub copies-room : (m : ℕ) → m < max_machines → get_or copies m 0 ≤ max_blocks
  pub share-narrow : share < share_bound

-- Every machine that the word names has the share and the copy more.
pub record AddedTo (loads copies : List ℕ) (word share : ℕ) (loads' copies' : List ℕ) : Type 0 where
  pub loads-sized : length loads' ≡ max_machines
  pub copies-sized : length copies' ≡ max_machines
  pub load_is : (m : ℕ) → m < max_machines → get_or loads' m 0 ≡ get_or loads m 0 + bit word m * share
  pub copies-are : (m : ℕ) → m < max_machines → get_or copies' m 0 ≡ get_or copies m 0 + bit word m

-- The sums over the first B words.
abbrev pub load_sum : Cluster → List ℕ → List ℕ → ℕ → ℕ
load_sum c words profiles m = sum c.blocks (λ i. held words m i * share_in (get_or profiles i 0))

abbrev pub copy_sum : Cluster → List ℕ → ℕ → ℕ
copy_sum c words m = sum c.blocks (held words m)

-- The loads and copies of a placement, on all 64 machines.
pub record LoadsOf (c : Cluster) (words profiles loads copies : List ℕ) : Type 0 where
  pub loads-sized : length loads ≡ max_machines
  pub copies-sized : length copies ≡ max_machines
  pub load_is : (m : ℕ) → m < max_machines → get_or loads m 0 ≡ load_sum c words profiles m
  pub copies-are : (m : ℕ) → m < max_machines → get_or copies m 0 ≡ copy_sum c words m

-- A share that passes from m, which has it, to n.
pub record LoadShiftAsked (l : Loads) (m n share : ℕ) : Type 0 where
  pub m-below : m < max_machines
  pub n-below : n < max_machines
  pub has-share : share ≤ get_or l.load m 0
  pub has-copy : 1 ≤ get_or l.copies m 0
  pub load-room : (k : ℕ) → k < max_machines → get_or l.load k 0 < load_bound
  pub copies-room : (k : ℕ) → k < max_machines → get_or l.copies k 0 ≤ max_blocks

pub record ShiftedTo (l : Loads) (m n share : ℕ) (r : Loads) : Type 0 where
  pub loads-sized : length r.load ≡ max_machines
  pub copies-sized : length r.copies ≡ max_machines
  pub load_is : (k : ℕ) → k < max_machines
      → get_or r.load k 0 + delta k m * share ≡ get_or l.load k 0 + delta k n * share
  pub copies-are : (k : ℕ) → k < max_machines → get_or r.copies k 0 + delta k m ≡ get_or l.copies k 0 + delta k n

-- Loads in their range.
pub record ReportAsked (l : Loads) (c : Cluster) : Type 0 where
  pub machines-max : machines_in c ≤ max_machines
  pub load-narrow : (m : ℕ) → m < max_machines → get_or l.load m 0 < load_bound

-- The largest, the smallest and the sum of the loads of the cluster's machines.
pub record ReportOf (l : Loads) (c : Cluster) (r : LoadReport) : Type 0 where
  pub max-is : r.max_load ≡ largest (machines_in c) (λ m. get_or l.load m 0)
  pub min-is : r.min_load ≡ smallest (machines_in c) (λ m. get_or l.load m 0)
  pub total-is : r.total_load ≡ sum (machines_in c) (λ m. get_or l.load m 0)

-- Of the machines before `end` those with room are the set bits of r.
pub record RoomTo (c : Cluster) (copies : List ℕ) (end r : ℕ) : Type 0 where
  pub is : (n : ℕ) → n < end → (bit r n ≡ 1) ↔ (get_or copies n 0 < c.capacity)
  pub past : (n : ℕ) → end ≤ n → bit r n ≡ 0

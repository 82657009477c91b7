-- The sums over the words are the loads and copies of the plan's machines, and stay in their range.
-- Assumes nothing.
use mathlib.Core.Path.{◌≡◌, ap, ◌∙◌}
use mathlib.Core.List.{List}
use Prim.Native.Nat.{ℕ, ◌*◌, ◌-◌, ◌≤◌, ◌<◌}
use native.Mathlib.Nat.{mul-le-mul_right}
use native.Mathlib.Omega.{arith}
use lib.ListN.{get_or}
use Rattle.order.specs.Sum.{sum}
use Rattle.order.proofs.Sums.{sum-cong, sum_mono, sum-const, sum_ones}
use Rattle.model.specs.Plan.{Plan}
use Rattle.model.specs.Refusal.{max_machines, max_blocks}
use Rattle.model.specs.Placement.{word_of, held, used, share_of, load}
use Rattle.theory.specs.Widths.{share_bound, load_bound}
use Rattle.theory.proofs.Placement.{bit_le}
use Rattle.cluster.specs.declared.Cluster.{Cluster}
use Rattle.cluster.specs.Cluster.{machines_in, InRange, ClusterOf}
use Rattle.cluster.specs.Blocks.{share_in, ProfilesFit, PlacementOf}
use Rattle.cluster.proofs.Laws.{cluster-blocks, cluster-range, placement-share}
use Rattle.loads.specs.Loads.{load_sum, copy_sum, LoadsOf}

-- ── load_sum, copy_sum ───────────────────────────────────────────────────────────────────────────────────────────────────

-- held times a share is at most the share
term-max : (h s : ℕ) → h ≤ 1 → h * s ≤ s
term-max h s l = let e = mul-le-mul_right s l in omega arith

pub load_sum-narrow : (c : Cluster) (words profiles : List ℕ) → c.blocks ≤ max_blocks
    → ((i : ℕ) → i < c.blocks → share_in (get_or profiles i 0) < share_bound) → (m : ℕ) → load_sum c words profiles m < load_bound
load_sum-narrow c words profiles few narrow m =
    let most = sum_mono c.blocks (λ i. held words m i * share_in (get_or profiles i 0)) (λ i. share_bound - 1)
    (λ i l.
    let term = term-max (held words m i) (share_in (get_or profiles i 0)) (bit_le (word_of words i) m) in
    omega (arith, narrow i l))
    in
    omega (arith, sum-const c.blocks (share_bound - 1), few)

pub copy_sum-max : (c : Cluster) (words : List ℕ) → c.blocks ≤ max_blocks → (m : ℕ) → copy_sum c words m ≤ max_blocks
copy_sum-max c words few m =
    let most = sum_mono c.blocks (held words m) (λ i. 1) (λ i l. bit_le (word_of words i) m) in
    omega (arith, sum_ones c.blocks, few)

-- ── LoadsOf ────────────────────────────────────────────────────────────────────────────────────────────────────────────

module _ (c : Cluster) (words profiles loads copies : List ℕ) (of : LoadsOf c words profiles loads copies) where
  pub loads-narrow : ProfilesFit c profiles → (m : ℕ) → m < max_machines → get_or loads m 0 < load_bound
  loads-narrow fit m l = rw (of.load_is m l) (load_sum-narrow c words profiles fit.in-range.blocks-max fit.narrow m)

  pub copies-max : InRange c → (m : ℕ) → m < max_machines → get_or copies m 0 ≤ max_blocks
  copies-max in-range m l = rw (of.copies-are m l) (copy_sum-max c words in-range.blocks-max m)

  -- of a plan's cluster they are its machines' copies
  pub copies-used : (p : Plan) → ClusterOf p c → (m : ℕ) → m < machines_in c → get_or copies m 0 ≡ used p words m
  unfolding used
  copies-used p cluster m l =
      of.copies-are m (omega (arith, (cluster-range p c cluster).machines-max))
      ∙ ap (λ (n : ℕ). sum n (held words m)) (cluster-blocks p c cluster)

  -- and of a placement of the plan its machines' loads
  pub loads-load : (p : Plan) (count : ℕ → ℕ) → PlacementOf p count c words profiles
      → (m : ℕ) → m < machines_in c → get_or loads m 0 ≡ load p words m
  unfolding load
  loads-load p count placement m l =
      let cluster = placement.profiles-of.cluster in
      of.load_is m (omega (arith, (cluster-range p c cluster).machines-max))
      ∙ sum-cong c.blocks _ (λ i. held words m i * share_of p words i)
      (λ i h. ap (λ (s : ℕ). held words m i * s) (placement-share p count c words profiles placement i h))
      ∙ ap (λ (n : ℕ). sum n (λ i. held words m i * share_of p words i)) (cluster-blocks p c cluster)

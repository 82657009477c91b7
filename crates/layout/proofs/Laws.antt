-- The circle of positions: a cursor's rack and level against its position, and the words that are laid from it on.
-- Assumes nothing.
use mathlib.Core.List.{[]}
use mathlib.Core.Path.{◌≡◌, refl, ap, ap₂, sym, ◌∙◌}
use Prim.Native.Nat.{ℕ, ◌+◌, ◌*◌, ◌/◌, ◌%◌, ◌^◌, ◌<◌}
use native.Mathlib.Nat.{mul_comm, add_assoc, add-zero, le_trans, lt_of_lt_of_le, mod-lt, mod-eq_of_lt, mod_self, mod-add-mod, one-le-mul, div-add-mod', div-lt_iff_lt-mul, zero-mod, zero-div}
use native.Mathlib.Omega.{arith}
use lib.Arith.{digits_lt, digits_div, digits_mod}
use lib.Dec.{lit≤}
use Rattle.order.specs.Sum.{sum}
use Rattle.order.proofs.Sums.{sum-zero, sum_step, sum-cong}
use Rattle.model.specs.Plan.{Plan, machines}
use Rattle.model.specs.Refusal.{max_machines}
use Rattle.model.specs.Replication.{chosen}
use Rattle.model.specs.Placement.{bit, position, laid_word, first_word}
use Rattle.theory.specs.Refusal.{Shaped}
use Rattle.theory.proofs.Plan.{upper-machines}
use Rattle.theory.proofs.Replication.{chosen-counts}
use Rattle.theory.proofs.PlacementFirst.{machine_of, machine_of-below, laid_word-step, laid_word-fresh}
use Rattle.cluster.specs.declared.Cluster.{Cluster}
use Rattle.cluster.specs.Cluster.{machines_in, InRange, ClusterOf}
use Rattle.cluster.proofs.Laws.{cluster-range, cluster-blocks, cluster-machines}
use Rattle.layout.specs.Circle.{OnCircle, cursor_at, visit_at, LayAsked, LaidAs}
use Rattle.layout.specs.declared.Cursor.{Cursor}
use Rattle.layout.specs.declared.Visit.{Visit}
use Rattle.layout.specs.declared.LaidBlock.{LaidBlock}

-- ── cursor_at ───────────────────────────────────────────────────────────────────────────────────────────────────────────

-- A cursor by its fields, its position, and the number of positions of its circle.
abbrev cursor_with : Cluster → ℕ → ℕ → Cursor
cursor_with c rack level = record { cluster = c; rack = rack; level = level }

abbrev place_of : Cursor → ℕ
place_of c = c.level * c.cluster.racks + c.rack

abbrev around : Cursor → ℕ
around c = machines_in c.cluster

pub cursor_at-start : (c : Cluster) → cursor_at c 0 ≡ cursor_with c 0 0
unfolding cursor_at
cursor_at-start c = rw (zero-mod c.racks, zero-div c.racks)

-- a cursor's position has its rack and level
cursor_at-place : (c : Cursor) → c.rack < c.cluster.racks → c.level < c.cluster.rack_size
    → cursor_at c.cluster (place_of c % around c) ≡ c
unfolding cursor_at
cursor_at-place c r l =
    let below : place_of c < around c = rw (mul_comm c.cluster.racks c.cluster.rack_size) (digits_lt l r) in
    rw (mod-eq_of_lt below, digits_mod c.level r, digits_div c.level r)

-- a cursor at a position is on the circle
cursor_at-circle : (c : Cluster) (t : ℕ) → InRange c → t < machines_in c → OnCircle (cursor_at c t)
unfolding cursor_at
cursor_at-circle c t in-range l =
    record {
      in-range = in-range;
      rack-below = mod-lt t in-range.racks-pos;
      level-below = (div-lt_iff_lt-mul in-range.racks-pos).1 (rw (mul_comm c.rack_size c.racks) l);
    }

-- ── visit_at ────────────────────────────────────────────────────────────────────────────────────────────────────────────

-- The three ways on from a cursor at position t.
module _ (c : Cursor) (circle : OnCircle c) (t : ℕ) (at : c ≡ cursor_at c.cluster t) where
  rack-is : c.rack ≡ t % c.cluster.racks
  unfolding cursor_at
  rack-is = ap (λ (x : Cursor). x.rack) at

  level-is : c.level ≡ t / c.cluster.racks
  unfolding cursor_at
  level-is = ap (λ (x : Cursor). x.level) at

  place_is : place_of c ≡ t
  place_is = ap₂ (λ (level rack : ℕ). level * c.cluster.racks + rack) level-is rack-is ∙ div-add-mod' t c.cluster.racks

  -- the machine, and the rack and level of the next position
  abbrev On : ℕ → ℕ → Type 0
  On rack level =
      record { machine = c.rack * c.cluster.rack_size + c.level; cursor = cursor_with c.cluster rack level }
      ≡ visit_at c.cluster t

  on : (rack level : ℕ) → cursor_at c.cluster ((t + 1) % around c) ≡ cursor_with c.cluster rack level → On rack level
  unfolding visit_at
  on rack level e = rw (rack-is, level-is, ← e)

  on-place : (rack level : ℕ) → rack < c.cluster.racks → level < c.cluster.rack_size → level * c.cluster.racks + rack ≡ t + 1
      → On rack level
  on-place rack level r l e =
      on rack level
      (ap (λ (x : ℕ). cursor_at c.cluster (x % around c)) (sym e) ∙ cursor_at-place (cursor_with c.cluster rack level) r l)

  -- the next rack, the first rack of the next level, or position 0
  pub on-rack : c.rack + 1 < c.cluster.racks → On (c.rack + 1) c.level
  on-rack l = on-place (c.rack + 1) c.level l circle.level-below (omega (arith, place_is))

  pub on-level : c.rack + 1 ≡ c.cluster.racks → c.level + 1 < c.cluster.rack_size → On 0 (c.level + 1)
  on-level e l = on-place 0 (c.level + 1) (omega arith) l (omega (arith, place_is))

  pub on-round : c.rack + 1 ≡ c.cluster.racks → c.level + 1 ≡ c.cluster.rack_size → On 0 0
  on-round e l =
      let all : t + 1 ≡ around c = rw (← l) (omega (arith, place_is)) in
      on 0 0
      (ap (cursor_at c.cluster) (ap (λ (x : ℕ). x % around c) all ∙ mod_self (around c)) ∙ cursor_at-start c.cluster)

-- ── LaidAs ─────────────────────────────────────────────────────────────────────────────────────────────────────────────

-- A plan that has the cluster's racks: the model's laws are about plans, and a word is laid by their racks alone.
abbrev bare : Cluster → Plan
bare c = record { version = 1; racks = c.racks; rack_size = c.rack_size; feeds = c.feeds; capacity = 1; budget = 0; blocks = [] }

bare-shaped : (c : Cluster) → InRange c → Shaped (bare c)
bare-shaped c in-range =
    record {
      racks-pos = in-range.racks-pos;
      size-pos = in-range.size-pos;
      feeds-pos = in-range.feeds-pos;
      feeds-divide = in-range.feeds-divide;
      machines-max = in-range.machines-max;
      capacity-pos = lit≤ tt;
      capacity-max = lit≤ tt;
      blocks-max = lit≤ tt;
      block = λ i l. absurd (omega arith);
      pair = λ i l. absurd (omega arith);
    }

bare-laid : (p : Plan) (c : Cluster) → ClusterOf p c → (start k : ℕ) → laid_word (bare c) (start % machines_in c) k ≡ laid_word p start k
unfolding laid_word position
bare-laid p c of start k =
    rw of.is
    (sum-cong k _ _ (λ j l. ap (λ (q : ℕ). 2 ^ position p q) (mod-add-mod start (machines p) j)))

-- k copies are laid from cursor c on: their word, and the cursor past them.
pub record Laying (c : Cursor) (k word : ℕ) (at : Cursor) : Type 0 where
  pub word-is : word ≡ laid_word (bare c.cluster) (place_of c) k
  pub at-is : at ≡ cursor_at c.cluster ((place_of c + k) % around c)

module _ (c : Cursor) (circle : OnCircle c) where
  within : (q : ℕ) → q % around c < around c
  within q = mod-lt q (one-le-mul circle.in-range.racks-pos circle.in-range.size-pos)

  pub laying-none : Laying c 0 0 c
  unfolding laid_word sum
  laying-none =
      record { word-is = refl; at-is = rw (add-zero (place_of c)) (sym (cursor_at-place c circle.rack-below circle.level-below)) }

  -- once all are laid
  pub laying-all : (count word : ℕ) (at : Cursor) → Laying c count word at → LaidAs c count (record { word = word; cursor = at })
  laying-all count word at laid =
      record {
        word-is = λ p start of here.
            laid.word-is
            ∙ ap (λ (q : ℕ). laid_word (bare c.cluster) q count) (place_is c circle _ here)
            ∙ bare-laid p c.cluster of start count;
        cursor-is = λ t l here. laid.at-is ∙ ap (λ (q : ℕ). cursor_at c.cluster ((q + count) % around c)) (place_is c circle t here);
      }

  -- one copy more
  module _ (k word : ℕ) (at : Cursor) (so_far : Laying c k word at) where
    pub laying-circle : OnCircle at
    laying-circle = rw so_far.at-is (cursor_at-circle c.cluster _ circle.in-range (within (place_of c + k)))

    module _ (visit : Visit) (next : (t : ℕ) → t < around at → at ≡ cursor_at at.cluster t → visit ≡ visit_at at.cluster t) where
      visit-is : visit ≡ visit_at c.cluster ((place_of c + k) % around c)
      unfolding cursor_at
      visit-is = (rw so_far.at-is at next) ((place_of c + k) % around c) (within (place_of c + k)) refl

      machine-is : visit.machine ≡ machine_of (bare c.cluster) (place_of c + k)
      unfolding visit_at position
      machine-is = ap (λ (x : Visit). x.machine) visit-is

      pub laying-more : Laying c (k + 1) (word + 2 ^ visit.machine) visit.cursor
      unfolding visit_at
      laying-more =
          record {
            word-is = ap₂ (λ (w m : ℕ). w + 2 ^ m) so_far.word-is machine-is
                ∙ sym (laid_word-step (bare c.cluster) (bare-shaped c.cluster circle.in-range) (place_of c) k);
            at-is = ap (λ (x : Visit). x.cursor) visit-is
                ∙ ap (cursor_at c.cluster)
                (mod-add-mod (place_of c + k) (around c) 1 ∙ ap (λ (q : ℕ). q % around c) (add_assoc (place_of c) k 1));
          }

      -- the machine holds none of the k copies
      pub laying-fresh : k < around c → (visit.machine < max_machines) × (bit word visit.machine ≡ 0)
      laying-fresh few =
          let shaped = bare-shaped c.cluster circle.in-range in
          rw (machine-is, so_far.word-is) (
            lt_of_lt_of_le (machine_of-below (bare c.cluster) shaped (place_of c + k)) circle.in-range.machines-max,
            laid_word-fresh (bare c.cluster) shaped (place_of c) k few,
          )

-- ── The first placement ────────────────────────────────────────────────────────────────────────────────────────────────

-- Where the copies of block i begin: past those of the blocks before it.
abbrev pub cursor_for : Plan → Cluster → ℕ → Cursor
cursor_for p c i = cursor_at c (sum i (chosen p) % machines_in c)

pub cursor_for-first : (p : Plan) (c : Cluster) → cursor_at c 0 ≡ cursor_for p c 0
cursor_for-first p c = rw (sum-zero (chosen p), zero-mod (machines_in c))

-- Laying its chosen count from there makes its word of the first placement, and ends where the next block begins.
module _ (p : Plan) (c : Cluster) (of : ClusterOf p c) (i : ℕ) where
  begin-below : sum i (chosen p) % machines_in c < machines_in c
  begin-below = let r = cluster-range p c of in mod-lt (sum i (chosen p)) (one-le-mul r.racks-pos r.size-pos)

  cursor_for-asked : i < c.blocks → LayAsked (cursor_for p c i) (chosen p i)
  unfolding cursor_at
  cursor_for-asked l =
      record {
        circle = cursor_at-circle c (sum i (chosen p) % machines_in c) (cluster-range p c of) begin-below;
        count-max =
            rw (cluster-machines p c of)
            (le_trans ((chosen-counts p of.valid).feasible.at_most i (rw (cluster-blocks p c of) at l)) (upper-machines p i));
      }

  cursor_for-laid : (laid : LaidBlock) → LaidAs (cursor_for p c i) (chosen p i) laid
      → (laid.word ≡ first_word p i) × (laid.cursor ≡ cursor_for p c (i + 1))
  unfolding cursor_at first_word
  cursor_for-laid laid says = (
    says.word-is p (sum i (chosen p)) of refl,
    says.cursor-is (sum i (chosen p) % machines_in c) begin-below refl
        ∙ ap (cursor_at c)
        (mod-add-mod (sum i (chosen p)) (machines_in c) (chosen p i) ∙ ap (λ (q : ℕ). q % machines_in c) (sym (sum_step i (chosen p)))),
  )

  module _ (cursor : Cursor) (at : cursor ≡ cursor_for p c i) where
    pub block-asked : i < c.blocks → LayAsked cursor (chosen p i)
    block-asked l = rw at (cursor_for-asked l)

    pub block-laid : (laid : LaidBlock) → LaidAs cursor (chosen p i) laid → (laid.word ≡ first_word p i) × (laid.cursor ≡ cursor_for p c (i + 1))
    block-laid laid says = cursor_for-laid laid (rw at at says)

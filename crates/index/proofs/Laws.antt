-- Laws of the index: one mark in a part, the blocks entered one after the other, the loads beside the order, and the free blocks of a word.
-- Assumes nothing.
use mathlib.Core.Path.{◌≡◌, refl, sym, ◌∙◌}
use mathlib.Core.List.{List}
use mathlib.Core.Logic.{inl, inr}
use Prim.Native.Nat.{ℕ, ◌+◌, ◌*◌, ◌-◌, ◌/◌, ◌%◌, ◌^◌, ◌<◌, ◌≤◌}
use native.Mathlib.Nat.{zero-mul, one-mul}
use native.Mathlib.Decide.{ℕ_discrete, dec_lt}
use native.Mathlib.Omega.{arith}
use lib.ListN.{length, get_or, set}
use lib.Seq.{get_or-set_same, get_or-set_other}
use Rattle.order.proofs.Sums.{delta-same, delta-other}
use Rattle.model.specs.Refusal.{max_machines, max_blocks}
use Rattle.model.specs.Placement.{bit, held}
use Rattle.theory.proofs.Placement.{bit-add, bit-take, bit_le, bit-cases, bit-above-from, bit-zero}
use Rattle.cluster.specs.declared.Cluster.{Cluster}
use Rattle.bits.specs.Words.{Lowest}
use Rattle.bits.proofs.Laws.{bit-from}
use Rattle.ranking.specs.Ranks.{Ranked, RanksOf}
use Rattle.ranking.proofs.Laws.{key_share-rises, ranks-share, ranks-apart}
use Rattle.index.specs.declared.Index.{Index}
use Rattle.index.specs.Index.{spot, Ordered, Indexed, Kept, MarkedAt, Marked}

-- ── spot ───────────────────────────────────────────────────────────────────────────────────────────────────────────────

-- the word with the bit of machine m at place i
abbrev pub cell : ℕ → ℕ → ℕ
cell m i = m * 16 + i / 64

-- that bit set
abbrev pub mark : List ℕ → ℕ → ℕ → List ℕ
mark part m i = set part (cell m i) (get_or part (cell m i) 0 + 2 ^ (i % 64))

-- a mark changes one bit
module _ (part : List ℕ) (a i : ℕ) (room : cell a i < length part) (clear : spot part a i ≡ 0) where
  spot-mark : spot (mark part a i) a i ≡ 1
  unfolding spot
  spot-mark =
      let w = get_or part (cell a i) 0 in
      let d = delta-same (i % 64) (i % 64) refl in
      rw (get_or-set_same part (cell a i) (w + 2 ^ (i % 64)) 0 room) (omega (arith, bit-add w (i % 64) clear (i % 64)))

  spot-mark-other : (m k : ℕ) → (cell m k ≡ cell a i → k % 64 ≡ i % 64 → ⊥) → spot (mark part a i) m k ≡ spot part m k
  unfolding spot
  spot-mark-other m k apart =
      let w = get_or part (cell a i) 0 in
      elim (ℕ_discrete (cell m k) (cell a i)) [
        | yes e ↦
            let d = delta-other (k % 64) (i % 64) (apart e) in
            rw (e, get_or-set_same part (cell a i) (w + 2 ^ (i % 64)) 0 room) (omega (arith, bit-add w (i % 64) clear (k % 64)))
        | no d ↦ rw (get_or-set_other part (cell a i) (cell m k) (w + 2 ^ (i % 64)) 0 d)
      ]

  pub mark-marked : i < max_blocks → MarkedAt part a i (mark part a i)
  mark-marked il =
      record {
        here = spot-mark;
        others = λ n k nl kl apart. spot-mark-other n k (λ q r. apart (omega arith, omega arith));
      }

-- ── Marked ─────────────────────────────────────────────────────────────────────────────────────────────────────────────

-- place i of a part is entered at the machines that have left `rest`, and nothing else of the part has changed
pub record Marking (entry part : List ℕ) (word rest i : ℕ) : Type 0 where
  pub here : (m : ℕ) → m < max_machines → spot part m i + bit rest m ≡ bit word m
  pub others : (m k : ℕ) → m < max_machines → k < max_blocks → (k ≡ i → ⊥) → spot part m k ≡ spot entry m k

module _ {entry part : List ℕ} {word rest i a : ℕ} (low : Lowest rest a) (past : Marking entry part word rest i) where
  -- the machine of the lowest bit has no entry yet
  pub marking-clear : spot part a i ≡ 0
  marking-clear = omega (arith, past.here a low.below, low.on, bit_le word a)

  -- the place is entered there
  pub marking_step : i < max_blocks → {later : List ℕ} → MarkedAt part a i later → Marking entry later word (rest - 2 ^ a) i
  marking_step il marked =
      let taken = (bit-take rest a low.on).1 in
      record {
        here = λ m l. elim (ℕ_discrete m a) [
          | yes e ↦
              let clear = marking-clear in
              let d = delta-same a a refl in
              rw e (omega (arith, taken a, past.here a low.below, marked.here))
          | no e ↦
              let d = delta-other m a e in
              omega (arith, taken m, past.here m l, marked.others m i l il (λ p. e p.0))
        ];
        others = λ m k ml kl apart. marked.others m k ml kl (λ p. apart p.1) ∙ past.others m k ml kl apart;
      }

-- where no bit is left, the place is entered at every machine of the word
pub marking-done : {entry part : List ℕ} {word rest i : ℕ} → rest ≡ 0 → Marking entry part word rest i → Marked entry word i part
marking-done e past =
    record { here = λ m l. let z = rw e at (past.here m l) in omega (arith, bit-zero m); others = past.others }

-- ── Indexed ────────────────────────────────────────────────────────────────────────────────────────────────────────────

-- the first i blocks are entered in a part as their words say, block k at place k; at no other place is an entry
pub record Filed (words part : List ℕ) (place : ℕ → ℕ) (i : ℕ) : Type 0 where
  pub is : (m k : ℕ) → m < max_machines → k < i → spot part m (place k) ≡ held words m k
  pub clear : (m r : ℕ) → m < max_machines → r < max_blocks → ((k : ℕ) → k < i → place k ≡ r → ⊥) → spot part m r ≡ 0

pub filed-none : (words part : List ℕ) (place : ℕ → ℕ) → ((k : ℕ) → get_or part k 0 ≡ 0) → Filed words part place 0
unfolding spot
filed-none words part place zeros =
    record {
      is = λ m k ml kl. absurd (omega arith);
      clear = λ m r ml rl free. rw (zeros (cell m r)) (bit-zero (r % 64));
    }

module _ {words part : List ℕ} {i : ℕ} {place : ℕ → ℕ} (past : Filed words part place i)
    (below : (k : ℕ) → k < i + 1 → place k < max_blocks) (apart : (k : ℕ) → k < i → place k ≡ place i → ⊥) where
  -- the next block is not entered yet
  pub filed-clear : (m : ℕ) → m < max_machines → spot part m (place i) ≡ 0
  filed-clear m ml = past.clear m (place i) ml (below i (omega arith)) apart

  -- one block more
  pub filed-step : {later : List ℕ} → Marked part (get_or words i 0) (place i) later → Filed words later place (i + 1)
  filed-step marked =
      record {
        is = λ m k ml l. elim (ℕ_discrete k i) [
          | yes e ↦ rw e (marked.here m ml)
          | no d ↦
              let before : k < i = omega arith in
              marked.others m (place k) ml (below k l) (apart k before) ∙ past.is m k ml before
        ];
        clear = λ m r ml l free.
            marked.others m r ml l (λ e. free i (omega arith) (sym e)) ∙ past.clear m r ml l (λ k h. free k (omega arith));
      }

-- ── Ordered ────────────────────────────────────────────────────────────────────────────────────────────────────────────

-- an index with the ranked keys and the ranks
pub ranked-ordered : {c : Cluster} {profiles : List ℕ} {index : Index} → c.blocks ≤ max_blocks → Ranked c profiles index.keys
    → RanksOf c profiles index.keys index.ranks → Ordered c profiles index
ranked-ordered few ranked of =
    record {
      rank_below = of.below;
      rank-share = ranks-share few of;
      rank-apart = ranks-apart few of;
      rising = λ r q l h. key_share-rises _ _ (ranked.sorted r q l h);
    }

-- the order is what the keys and the ranks say
pub ordered-kept : {c : Cluster} {profiles : List ℕ} {entry later : Index} → Kept entry later → Ordered c profiles entry
    → Ordered c profiles later
ordered-kept kept order =
    rw (kept.keys, kept.ranks) (record {
      rank_below = order.rank_below;
      rank-share = order.rank-share;
      rank-apart = order.rank-apart;
      rising = order.rising;
    })

-- the loads say nothing of an index's blocks
pub indexed-loaded : {c : Cluster} {words profiles : List ℕ} {entry : Index} (loads : List ℕ) → Indexed c words profiles entry
    → Indexed c words profiles
    (record { by_number = entry.by_number; by_rank = entry.by_rank; keys = entry.keys; ranks = entry.ranks; loads = loads })
indexed-loaded loads indexed =
    let order = indexed.ordered in
    record {
      ordered = record {
        rank_below = order.rank_below;
        rank-share = order.rank-share;
        rank-apart = order.rank-apart;
        rising = order.rising;
      };
      by_number = indexed.by_number;
      by_rank = indexed.by_rank;
    }

-- ── NextOf ─────────────────────────────────────────────────────────────────────────────────────────────────────────────

-- a bit that is one and that the other lacks
free-both : (w k b : ℕ) → bit w k * (1 - b) ≡ 1 → (bit w k ≡ 1) × (b ≡ 0)
free-both w k b e = elim (bit-cases w k) [
  | inl off ↦ absurd (let z = rw (off, zero-mul (1 - b)) at e in omega arith)
  | inr on ↦ (on, let z = rw (on, one-mul (1 - b)) at e in omega arith)
]

-- the places of the word at place k, from k on: d are those of m that n lacks
module _ (part : List ℕ) (m n k d : ℕ)
    (is : (y : ℕ) → bit d y ≡ bit (get_or part (cell m k) 0) y * (1 - bit (get_or part (cell n k) 0) y)) where
  free-at : (j : ℕ) → k ≤ j → k % 64 + (j - k) < 64 → bit (d / 2 ^ (k % 64)) (j - k) ≡ spot part m j * (1 - spot part n j)
  unfolding spot
  free-at j h l =
      let q : j / 64 ≡ k / 64 = omega arith in
      let r : j % 64 ≡ k % 64 + (j - k) = omega arith in
      rw (q, r) (sym (bit-from d (k % 64) (j - k)) ∙ is (k % 64 + (j - k)))

  pub next-passed : (j : ℕ) → k ≤ j → k % 64 + (j - k) < 64 → bit (d / 2 ^ (k % 64)) (j - k) ≡ 0
      → spot part m j ≡ 1 → spot part n j ≡ 0 → ⊥
  next-passed j h l off holds lacks = let z = rw (holds, lacks) at (free-at j h l) in omega arith

  pub next-found : (j : ℕ) → k ≤ j → k % 64 + (j - k) < 64 → bit (d / 2 ^ (k % 64)) (j - k) ≡ 1
      → (spot part m j ≡ 1) × (spot part n j ≡ 0)
  unfolding spot
  next-found j h l one = free-both (get_or part (cell m j) 0) (j % 64) (spot part n j) (sym (free-at j h l) ∙ one)

-- a set bit of a shifted word lies within the word
pub next-within : (d s t : ℕ) → d < 2 ^ 64 → bit (d / 2 ^ s) t ≡ 1 → s + t < 64
next-within d s t h on = elim (dec_lt (s + t) 64) [
  | yes l ↦ l
  | no l ↦
      let off = bit-above-from d 64 h (s + t) (omega arith) in
      absurd (omega (arith, bit-from d s t))
]

-- Rows 13 to 16 and 18 as the code tests them, block by block or machine by machine, are the model's tests of a placement.
-- Assumes nothing.
use mathlib.Core.Path.{◌≡◌, refl, ap, ap₂, sym, ◌∙◌}
use mathlib.Core.Bool.{Bool, true, false}
use mathlib.Core.List.{List}
use mathlib.Core.Logic.{◌⊎◌, inl, inr}
use Prim.Native.Nat.{ℕ, zero, suc, ◌+◌, ◌<◌, ◌≤◌, ◌^◌}
use native.Mathlib.Nat.{le_trans}
use native.Mathlib.Decide.{dec_lt}
use borrow.Author.Tests.{le-leb}
use native.Mathlib.Omega.{arith}
use lib.Dec.{leb, ltb, eqb}
use lib.ListN.{get_or, length, take}
use Rattle.std.specs.Bool.{MatchBool}
use Rattle.std.specs.List.{list_all, range_with_len, AllWithin, HoldsAt}
use Rattle.std.proofs.lemmas.List.Folds.{list_all_more}
use Rattle.std.proofs.lemmas.List.FromFn.{length-range_with_len, get_or-range_with_len}
use native.Mathlib.Numerals.{add-one}
use Rattle.std.proofs.Math.Bool.{and_comm}
use Rattle.std.proofs.Common.{zero-add, subst}
use Rattle.order.specs.Search.{allb}
use Rattle.order.proofs.Sums.{sum-none, sum-index}
use Rattle.order.proofs.Booleans.{bool_cases, not_so}
use Rattle.order.proofs.Extremes.{allb-cong}
use Rattle.model.specs.Plan.{Plan, machines, block_count, is_paired, partner}
use Rattle.model.specs.Replication.{need}
use Rattle.model.specs.Placement.{bit, word_of, replicas, count_of, domains_used, all_within, all_spread, all_fit, all_apart}
use Rattle.theory.specs.Refusal.{Shaped}
use Rattle.theory.proofs.Placement.{bit_le, bit-above-from, domains_used-pos, all_within-iff, all_apart-iff}
use Rattle.theory.proofs.Plan.{partner-below, partner-other}
use Rattle.cluster.specs.declared.Cluster.{Cluster}
use Rattle.cluster.specs.Cluster.{machines_in, ClusterOf}
use Rattle.cluster.specs.Blocks.{linked_to, mate, spread_in, copies_in, DemandsOf, ProfilesOf}
use Rattle.cluster.proofs.Laws.{cluster-capacity, cluster-blocks, cluster-machines, mate-paired, mate-single, copies_in-within, profiles-spread, profiles-mate}
use Rattle.needs.specs.Needs.{NeedOf}
use Rattle.needs.proofs.Laws.{need-of}
use Rattle.loads.specs.declared.Loads.{Loads}
use Rattle.validation.specs.Validation.{all_counted_at, HeldAt, CopiesOf, Apart}

-- what `all` answers for the first n items of a list
pub allb-front : (test : ℕ → Bool) (xs : List ℕ) (n : ℕ) → n ≤ length xs → list_all test (take n xs) ≡ allb n (λ i. test (get_or xs i 0))
unfolding allb
allb-front test xs zero l = refl
allb-front test xs (suc n) l =
    rw (← add-one, list_all_more test xs n 0 (omega arith), allb-front test xs n (omega arith)) (and_comm (allb n (λ i. test (get_or xs i 0))) (test (get_or xs n 0)))

-- what it answers for the numbers below n
abbrev pub TestedBelow : ℕ → Bool → (ℕ → Type 0) → (ℕ → Type 0) → Type 0
TestedBelow n r Yes No = let all = range_with_len 0 n in MatchBool r (AllWithin Yes all 0 (length all)) ((k : ℕ) × (k < length all) × HoldsAt No all k)

pub tested_each : (n : ℕ) (Yes No : ℕ → Type 0) → TestedBelow n true Yes No → (i : ℕ) → i < n → Yes i
tested_each n Yes No all i l = subst Yes (get_or-range_with_len 0 n i 0 l ∙ zero-add i) (all i 0 (omega arith) (rw (length-range_with_len 0 n) l))

pub tested_one : (n : ℕ) (Yes No : ℕ → Type 0) → TestedBelow n false Yes No → (i : ℕ) × (i < n) × No i
tested_one n Yes No some =
    let l : some.0 < n = rw (length-range_with_len 0 n) at some.1 in
    (some.0, l, subst No (get_or-range_with_len 0 n some.0 0 l ∙ zero-add some.0) (some.2 0))

pub tested_below : (n : ℕ) (r so : Bool) (Yes No : ℕ → Type 0) → TestedBelow n r Yes No
    → (((i : ℕ) → i < n → Yes i) → so ≡ true) → ((i : ℕ) → i < n → No i → so ≡ false) → r ≡ so
tested_below n true so Yes No all passes fails = sym (passes (tested_each n Yes No all))
tested_below n false so Yes No some passes fails = let one = tested_one n Yes No some in sym (fails one.0 one.1 one.2)

-- row 13
abbrev pub is_within : List ℕ → ℕ → ℕ → Bool
is_within words M i = ltb (word_of words i) (2 ^ M)

-- row 14
abbrev pub is_counted : Plan → List ℕ → ℕ → ℕ → Bool
is_counted p words figure i = eqb (count_of p words i) (need p figure i)

-- row 15
abbrev pub is_spread : Plan → List ℕ → List ℕ → ℕ → Bool
is_spread p words profiles i = leb (spread_in (get_or profiles i 0)) (domains_used p (word_of words i))

-- row 16
abbrev pub is_fit : List ℕ → ℕ → ℕ → Bool
is_fit copies capacity m = leb (get_or copies m 0) capacity

-- a spread of one is met by every word that has a copy
pub spread-one : (p : Plan) → Shaped p → (word spread : ℕ) → spread ≤ 1 → 1 ≤ replicas p word → leb spread (domains_used p word) ≡ true
unfolding replicas
spread-one p shaped word spread one some =
    let found = sum-index (machines p) (λ m. 0) (bit word) (rw (sum-none (machines p)) some) in
    let on : bit word found.0 ≡ 1 = omega (arith, found.2, bit_le word found.0) in
    le-leb spread (domains_used p word) (le_trans one (domains_used-pos p shaped word found.0 found.1 on))

module _ (p : Plan) (words : List ℕ) (c : Cluster) where
  pub within-row : ClusterOf p c → allb c.blocks (is_within words (machines_in c)) ≡ all_within p words
  unfolding all_within
  within-row of = rw (cluster-blocks p c of, cluster-machines p c of)

  -- the copies that a word names and those that its block needs are the model's
  pub counted-at : (demands : List ℕ) (figure : ℕ) → DemandsOf p c demands → all_within p words ≡ true
      → (i k : ℕ) → i < c.blocks → NeedOf (get_or demands i 0) figure k
      → is_counted p words figure i ≡ eqb (copies_in (word_of words i)) k
  counted-at demands figure of within i k l found =
      let i-in : i < block_count p = rw (cluster-blocks p c of.cluster) at l in
      let held =
      copies_in-within p of.cluster.valid.shaped.machines-max (word_of words i) ((all_within-iff p words).0 within i i-in)
      in
      ap₂ eqb (sym held) (sym (need-of p c demands of i figure k l found).0)

  pub counted-row : (figure : ℕ) → ClusterOf p c
      → allb c.blocks (is_counted p words figure) ≡ all_counted_at p (need p figure) words
  unfolding all_counted_at
  counted-row figure of = rw (cluster-blocks p c of)

  module _ (count : ℕ → ℕ) (profiles : List ℕ) (held : HeldAt p count c words profiles) where
    of : ProfilesOf p count c profiles
    of = held.profiles-of

    in-cluster : (i : ℕ) → i < block_count p → i < c.blocks
    in-cluster i l = rw (cluster-blocks p c of.cluster) l

    pub spread_row : allb c.blocks (is_spread p words profiles) ≡ all_spread p words
    unfolding all_spread
    spread_row =
        rw (cluster-blocks p c of.cluster)
        (allb-cong (block_count p) _ _
        (λ i l.
        ap (λ (n : ℕ). leb n (domains_used p (word_of words i))) (profiles-spread p count c profiles of held.at_most i (in-cluster i l))))

    -- row 18
    module _ (within : all_within p words ≡ true) where
      mate-is : (i : ℕ) → i < c.blocks → linked_to (get_or profiles i 0) i ≡ mate p i
      mate-is = profiles-mate p count c profiles of

      in-plan : (i : ℕ) → i < c.blocks → i < block_count p
      in-plan i l = rw (cluster-blocks p c of.cluster) at l

      pub apart-passes : ((i : ℕ) → i < c.blocks → Apart words profiles i) → all_apart p words ≡ true
      apart-passes each =
          (all_apart-iff p words).1
          (λ i l paired m h.
          let other : linked_to (get_or profiles i 0) i ≡ partner p i = mate-is i (in-cluster i l) ∙ mate-paired p i paired in
          rw other at
          (each i (in-cluster i l) (λ same. partner-other p of.cluster.valid.shaped i l paired (sym other ∙ same)) m))

      pub apart-fails : (i : ℕ) → i < c.blocks → (Apart words profiles i → ⊥) → all_apart p words ≡ false
      apart-fails i l meets = not_so (all_apart p words) (λ all. meets (λ other k. at all other k (bool_cases (is_paired p i)) (dec_lt k (machines p))))
        where
          at : all_apart p words ≡ true → (linked_to (get_or profiles i 0) i ≡ i → ⊥) → (k : ℕ)
              → (is_paired p i ≡ true) ⊎ (is_paired p i ≡ false) → Dec (k < machines p)
              → bit (word_of words i) k + bit (word_of words (linked_to (get_or profiles i 0) i)) k ≤ 1
          at all other k (inr alone) below = absurd (other (mate-is i l ∙ mate-single p i alone))
          at all other k (inl paired) (yes below) =
              rw (mate-is i l, mate-paired p i paired) ((all_apart-iff p words).0 all i (in-plan i l) paired k below)
          at all other k (inl paired) (no above) =
              let words-within = (all_within-iff p words).0 within in
              let partner-in = partner-below p of.cluster.valid.shaped i (in-plan i l) paired in
              let own = bit-above-from (word_of words i) (machines p) (words-within i (in-plan i l)) k (omega arith) in
              let its = bit-above-from (word_of words (partner p i)) (machines p) (words-within (partner p i) partner-in) k (omega arith) in
              rw (mate-is i l, mate-paired p i paired) (omega arith)

  pub fit_row : (loads : Loads) → CopiesOf p words c loads → allb (machines_in c) (is_fit loads.copies c.capacity) ≡ all_fit p words
  unfolding all_fit
  fit_row loads of =
      let cluster = of.cluster-of in
      rw (cluster-machines p c cluster, cluster-capacity p c cluster)
      (allb-cong (machines p) _ _ (λ m l. ap (λ (x : ℕ). leb x p.capacity) (of.copies-are m (rw (cluster-machines p c cluster) l))))

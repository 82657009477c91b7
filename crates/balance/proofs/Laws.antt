-- What a step that was found lets be shifted, and what it keeps: the loads as they follow, the placement, the run.
-- Assumes nothing.
use mathlib.Core.Path.{◌≡◌, refl, ap, sym, ◌∙◌}
use mathlib.Core.Bool.{Bool, true, false}
use mathlib.Core.List.{List}
use mathlib.Core.Logic.{◌⊎◌, inl, inr}
use Prim.Native.Nat.{ℕ, ◌+◌, ◌*◌, ◌-◌, ◌<◌, ◌≤◌}
use Rattle.std.proofs.Common.{Option, Some, None}
use native.Mathlib.Nat.{add-zero, zero-add, sub-zero}
use native.Mathlib.Omega.{arith}
use lib.ListN.{length, get_or}
use Rattle.order.specs.Sum.{delta}
use Rattle.order.proofs.Sums.{sum-term}
use Rattle.order.proofs.SumChanges.{sum-change}
use Rattle.model.specs.Plan.{Plan}
use Rattle.model.specs.Refusal.{max_machines}
use Rattle.model.specs.Placement.{bit, held}
use Rattle.model.specs.Steps.{none, relocate, exchange, is_step, next_step, after_move, after_swap, after, Run, run}
use Rattle.theory.proofs.StepsNext.{next_step-feasible, run-zero, run_none, run-suc}
use Rattle.theory.proofs.Steps.{after-length, after_move-held, after_move-other, after_move-length}
use Rattle.theory.proofs.Placement.{held-apart}
use Rattle.cluster.specs.declared.Cluster.{Cluster}
use Rattle.cluster.specs.Blocks.{share_in, ProfilesFit, PlacementOf}
use Rattle.loads.specs.declared.Loads.{Loads}
use Rattle.loads.specs.Loads.{load_sum, copy_sum, LoadShiftAsked, ShiftedTo}
use Rattle.loads.proofs.Laws.{loads-narrow, copies-max}
use Rattle.transfers.specs.Route.{Shift}
use Rattle.search.specs.declared.Step.{Step}
use Rattle.search.specs.declared.Step.TheVariants.{Move, Swap, RackMove, RackSwap}
use Rattle.search.specs.Scene.{step_of, NextFound}
use Rattle.balance.specs.declared.Ran.TheVariants.{Rested, Spent}
use Rattle.balance.specs.Standing.{StepAsked, ShiftAsked, Shifted, Followed, ran_of}

-- ── Followed ───────────────────────────────────────────────────────────────────────────────────────────────────────────

abbrev share_at : List ℕ → ℕ → ℕ
share_at profiles i = share_in (get_or profiles i 0)

module _ {c : Cluster} {words profiles : List ℕ} {l : Loads} (asked : StepAsked c words profiles l)
    {m n i : ℕ} (s : Shift c words m n i) where
  range : ProfilesFit c profiles
  range = asked.fits.profiles-fit

  m-max : m < max_machines
  m-max = omega (arith, s.m-below, range.in-range.machines-max)

  n-max : n < max_machines
  n-max = omega (arith, s.n-below, range.in-range.machines-max)

  -- m has the share and the copy that are to be shifted
  pub loads-asked : LoadShiftAsked l m n (share_at profiles i)
  loads-asked =
      let term : held words m i * share_at profiles i ≡ share_at profiles i = rw s.holds (omega arith) in
      let on = s.holds in
      record {
        m-below = m-max;
        n-below = n-max;
        has-share = rw (asked.loads-of.load_is m m-max)
            (omega (arith, sum-term c.blocks (λ b. held words m b * share_at profiles b) i s.i-below));
        has-copy = rw (asked.loads-of.copies-are m m-max) (omega (arith, sum-term c.blocks (held words m) i s.i-below));
        load-room = loads-narrow c words profiles l.load l.copies asked.loads-of range;
        copies-room = copies-max c words profiles l.load l.copies asked.loads-of range.in-range;
      }

  -- the sums over the words once the copy is shifted
  load_moved : (k : ℕ) → load_sum c (after_move words m n i) profiles k + delta k m * share_at profiles i
      ≡ load_sum c words profiles k + delta k n * share_at profiles i
  load_moved k =
      sum-change c.blocks i i (λ b. held words k b * share_at profiles b) (λ b. held (after_move words m n i) k b * share_at profiles b)
      (λ b. delta k m * share_at profiles b) (λ b. delta k n * share_at profiles b) s.i-below s.i-below
      (λ b h. let e = ap (λ (x : ℕ). x * share_at profiles b) (after_move-held words m n i s.holds s.lacks k b) in omega arith)

  copies-moved : (k : ℕ) → copy_sum c (after_move words m n i) k + delta k m ≡ copy_sum c words k + delta k n
  copies-moved k =
      sum-change c.blocks i i (held words k) (held (after_move words m n i) k) (λ b. delta k m) (λ b. delta k n)
      s.i-below s.i-below (λ b h. after_move-held words m n i s.holds s.lacks k b)

  -- are what the shifted loads say
  asked-shifted : {r : Loads} → ShiftedTo l m n (share_at profiles i) r → StepAsked c (after_move words m n i) profiles r
  asked-shifted to =
      record {
        fits =
            record {
              profiles-fit = asked.fits.profiles-fit;
              word_room = rw (after_move-length words m n i) asked.fits.word_room;
            };
        loads-of =
            record {
              loads-sized = to.loads-sized;
              copies-sized = to.copies-sized;
              load_is = λ k h. omega (arith, to.load_is k h, asked.loads-of.load_is k h, load_moved k);
              copies-are = λ k h. omega (arith, to.copies-are k h, asked.loads-of.copies-are k h, copies-moved k);
            };
      }

  -- a block that m lacks stays where it is while another leaves m, so an exchange's second shift can still be made
  stays : (j : ℕ) → held words m j ≡ 0 → (k : ℕ) → held (after_move words m n i) k j ≡ held words k j
  stays j off k = ap (λ (w : ℕ). bit w k) (after_move-other words m n i j (held-apart words m i j s.holds off))

  shift_back : {j : ℕ} → Shift c words n m j → Shift c (after_move words m n i) n m j
  shift_back {j} two =
      record {
        m-below = two.m-below;
        n-below = two.n-below;
        i-below = two.i-below;
        holds = stays j two.lacks n ∙ two.holds;
        lacks = stays j two.lacks m ∙ two.lacks;
      }

module _ {words profiles : List ℕ} {l : Loads} {m n i : ℕ} {later : List ℕ} {given : Loads} where
  pub shifted-words : later ≡ after_move words m n i → ShiftedTo l m n (share_at profiles i) given
      → Shifted words profiles l m n i later given
  shifted-words e to = record { words_are = e; loads-follow = λ c asked s. rw e (asked-shifted asked s to) }

  module _ (one : Shifted words profiles l m n i later given) where
    pub followed-move : {step : Step} {across : Bool} → step_of (Some step) ≡ relocate across m n i → Followed words profiles l step later given
    unfolding after
    followed-move e = record { words_are = rw e one.words_are; loads-follow = λ c asked s. one.loads-follow c asked (rw e at s) }

    -- the second shift of an exchange follows its first
    back : {j : ℕ} {c : Cluster} → StepAsked c words profiles l → Shift c words m n i × Shift c words n m j → Shift c later n m j
    back asked s = rw one.words_are (shift_back asked s.0 s.1)

    pub follow-back : {j : ℕ} {c : Cluster} → StepAsked c words profiles l → Shift c words m n i × Shift c words n m j
        → ShiftAsked later profiles given n m j
    follow-back {j} {c} asked s = record { cluster = c; asked = one.loads-follow c asked s.0; copy = back asked s }

    pub followed-swap : {j : ℕ} {last : List ℕ} {r : Loads} → Shifted later profiles given n m j last r
        → {step : Step} {across : Bool} → step_of (Some step) ≡ exchange across m n i j → Followed words profiles l step last r
    unfolding after after_swap
    followed-swap two e =
        record {
          words_are = rw (e, ← one.words_are) two.words_are;
          loads-follow = λ c asked s. let at = rw e at s in two.loads-follow c (one.loads-follow c asked at.0) (back asked at);
        }

-- a move and an exchange, within a rack or across racks
module _ {step : Step} {m n i : ℕ} where
  pub is_move : (step ≡ Move m n i) ⊎ (step ≡ RackMove m n i) → (across : Bool) × (step_of (Some step) ≡ relocate across m n i)
  unfolding step_of
  is_move (inl e) = (false, rw e)
  is_move (inr e) = (true, rw e)

  pub is_swap : {j : ℕ} → (step ≡ Swap m n i j) ⊎ (step ≡ RackSwap m n i j) → (across : Bool) × (step_of (Some step) ≡ exchange across m n i j)
  unfolding step_of
  is_swap (inl e) = (false, rw e)
  is_swap (inr e) = (true, rw e)

-- ── run ────────────────────────────────────────────────────────────────────────────────────────────────────────────────

-- a run after so many steps more
abbrev extended : ℕ → Run → Run
extended n r = record { rested = r.rested; steps = n + r.steps; words = r.words }

-- a run as far as it has come: the steps taken, and the run that is left
abbrev Coming : Plan → ℕ → List ℕ → ℕ → List ℕ → Type 0
Coming p limit first steps words = run p limit first ≡ extended steps (run p (limit - steps) words)

pub record Along (c : Cluster) (first profiles : List ℕ) (limit steps : ℕ) (words : List ℕ) : Type 0 where
  pub within : steps ≤ limit
  pub same_length : length words ≡ length first
  pub placement : (p : Plan) (count : ℕ → ℕ) → PlacementOf p count c first profiles → PlacementOf p count c words profiles
  pub coming : (p : Plan) (count : ℕ → ℕ) → PlacementOf p count c first profiles → Coming p limit first steps words

-- a step keeps a placement at its counts
placement-next : (p : Plan) (count : ℕ → ℕ) (c : Cluster) (words profiles : List ℕ) → PlacementOf p count c words profiles
    → PlacementOf p count c (after words (next_step p words)) profiles
placement-next p count c words profiles placement =
    record { profiles-of = placement.profiles-of; feasible = next_step-feasible p count words placement.feasible }

pub along-first : {c : Cluster} {words profiles : List ℕ} {limit : ℕ} → Along c words profiles limit 0 words
along-first {c} {words} {profiles} {limit} =
    record {
      within = omega arith;
      same_length = refl;
      placement = λ p count at. at;
      coming = λ p count at. rw (sub-zero limit, zero-add (run p limit words).steps);
    }

some-is_step : (s : Step) → is_step (step_of (Some s)) ≡ true
unfolding step_of
some-is_step (Move m n i) = refl
some-is_step (Swap m n i j) = refl
some-is_step (RackMove m n i) = refl
some-is_step (RackSwap m n i j) = refl

module _ {c : Cluster} {first profiles words : List ℕ} {limit steps : ℕ} (along : Along c first profiles limit steps words) where
  step_is : (r : Option Step) → NextFound c words profiles r
      → (p : Plan) (count : ℕ → ℕ) → PlacementOf p count c first profiles → step_of r ≡ next_step p words
  step_is r next p count at = next.is p count (along.placement p count at)

  -- one step more, taken
  pub along-more : steps < limit → (s : Step) → NextFound c words profiles (Some s)
      → Along c first profiles limit (steps + 1) (after words (step_of (Some s)))
  along-more l s next =
      record {
        within = omega arith;
        same_length = after-length words (step_of (Some s)) ∙ along.same_length;
        placement = λ p count at. rw (step_is _ next p count at) (placement-next p count c words profiles (along.placement p count at));
        coming = λ p count at.
            rw (step_is _ next p count at) (more p (sym (ap is_step (step_is _ next p count at)) ∙ some-is_step s) (along.coming p count at));
      }
    where
      counted : ℕ → Run → Run
      counted n r = record { rested = r.rested; steps = n; words = r.words }

      more : (p : Plan) → is_step (next_step p words) ≡ true → Coming p limit first steps words
          → Coming p limit first (steps + 1) (after words (next_step p words))
      more p is e =
          let later = run p (limit - (steps + 1)) (after words (next_step p words)) in
          e
          ∙ ap (λ (n : ℕ). extended steps (run p n words)) (omega arith)
          ∙ ap (extended steps) (run-suc p words (limit - (steps + 1)) is)
          ∙ ap (λ (n : ℕ). counted n later) (omega arith)

  -- no step is left
  pub along-rest : NextFound c words profiles None → (p : Plan) (count : ℕ → ℕ) → PlacementOf p count c first profiles
      → ran_of (Rested steps) words ≡ run p limit first
  unfolding ran_of step_of
  along-rest next p count at =
      let rest : next_step p words ≡ none = sym (step_is None next p count at) in
      sym (along.coming p count at ∙ (rw (run_none p words (limit - steps) rest, add-zero steps)))

  -- one is left, and the limit is used
  pub along-end : limit ≤ steps → (s : Step) → NextFound c words profiles (Some s) → (p : Plan) (count : ℕ → ℕ)
      → PlacementOf p count c first profiles → ran_of (Spent steps) words ≡ run p limit first
  unfolding ran_of
  along-end l s next p count at =
      let all : limit - steps ≡ 0 = omega (arith, along.within) in
      sym (along.coming p count at
      ∙ (rw (all, run-zero p words, add-zero steps, ← (step_is _ next p count at), some-is_step s)))

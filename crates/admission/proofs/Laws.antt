-- From an accepted plan's demands and the loads of the words to what the calls work with.
-- Assumes nothing.
use mathlib.Core.Path.{◌≡◌, refl, ap, sym, ◌∙◌}
use mathlib.Core.Bool.{Bool, true, false, not}
use mathlib.Core.List.{List}
use Rattle.std.specs.Prelude.{Result, Ok, Err}
use Prim.Native.Nat.{ℕ, zero, suc, ◌*◌, ◌<◌, ◌≤◌, min}
use native.Mathlib.Omega.{arith}
use lib.Dec.{eqb}
use lib.ListN.{length, get_or}
use Rattle.order.proofs.Extremes.{allb-cong}
use Rattle.order.proofs.Tables.{get_d-filled}
use Rattle.model.specs.Plan.{Plan, block_count}
use Rattle.model.specs.Refusal.{refuse_if, or_else, judge, accepted}
use Rattle.model.specs.Replication.{copy_limit as limit_of, need, chosen}
use Rattle.model.specs.Placement.{count_of, all_within}
use Rattle.model.specs.Calls.{all_counted, placement_refusal}
use Rattle.theory.proofs.Refusal.{check12-enough}
use Rattle.theory.proofs.Placement.{feasible-own, all_within-iff}
use Rattle.theory.proofs.Calls.{call_refusal-accepted, placement_refusal-feasible}
use Rattle.cluster.specs.declared.Cluster.{Cluster}
use Rattle.cluster.specs.Cluster.{machines_in, ClusterOf}
use Rattle.refusal.specs.declared.Refusal.{Refusal}
use Rattle.cluster.specs.Blocks.{DemandsOf, CountsFit, PlacementFits}
use Rattle.cluster.proofs.Laws.{cluster-blocks, cluster-machines, counts-upper, counts-pos}
use Rattle.header.specs.declared.Header.{Header}
use Rattle.plan.specs.Reading.{plan_of, Decoded, AcceptedHeader}
use Rattle.replication.specs.Choice.{LimitedDemands, FigureOf, FilledAs}
use Rattle.validation.specs.Validation.{all_counted_at, counts_refusal, layout_refusal, HeldAt}
use Rattle.admission.specs.declared.Intake.{Intake}
use Rattle.admission.specs.declared.Placement.{Placement}
use Rattle.admission.specs.Admission.{Prepared, PlanReady, WeighedAs, Weighed, PlacementReady, PlacementAdmitted}

-- the demands of an accepted plan, and the copies that it allows
pub limited-of : (bytes : List ℕ) (h : Header) → AcceptedHeader bytes h → (demands₀ demands : List ℕ) → Decoded bytes h demands₀ demands
    → (allowed : ℕ) → allowed ≡ min h.budget (machines_in h.cluster * h.cluster.capacity)
    → LimitedDemands (plan_of bytes h) h.cluster demands allowed
unfolding limit_of plan_of
limited-of bytes h laws demands₀ demands decoded allowed e =
    record {
      demands-of =
          record {
            cluster = laws.cluster-of;
            are = λ i l. ap (λ (s : List ℕ). get_or s i 0) decoded.are ∙ get_d-filled h.cluster.blocks _ demands₀ i 0 l;
          };
      limit_is = e;
    }

-- the profiles that were put in their place, at whatever counts
pub prepared-of : (p : Plan) (count : ℕ → ℕ) (c : Cluster) → ClusterOf p c → (profiles₀ profiles : List ℕ) (top : ℕ)
    → FilledAs p count c profiles₀ profiles top → Prepared p count c profiles top
prepared-of p count c cluster profiles₀ profiles top made =
    record {
      profiles-of =
          record {
            cluster = cluster;
            are =
                λ i l.
                ap (λ (s : List ℕ). get_or s i 0) made.are
                ∙ get_d-filled (block_count p) _ profiles₀ i 0 (rw (cluster-blocks p c cluster) at l);
          };
      fit = made.fit;
      top-is = made.top-is;
    }

-- ── the rows of a placement in two parts ─────────────────────────────────────────────────────────
-- at the needs within the figure row 14 is the model's
counted-chosen : (p : Plan) (figure : ℕ) (words : List ℕ) → FigureOf p figure → all_counted_at p (need p figure) words ≡ all_counted p words
unfolding all_counted_at all_counted
counted-chosen p figure words of = allb-cong (block_count p) _ _ (λ i l. ap (λ (n : ℕ). eqb (count_of p words i) n) (of.counts-are i l))

-- rows 12 to 16 and 18 are 12, then 13 and 14, then the others
module _ (p : Plan) (figure : ℕ) (words : List ℕ) (of : FigureOf p figure) (enough : block_count p ≤ length words) where
  pub rows_apart : placement_refusal words p ≡ or_else (counts_refusal p (need p figure) words) (layout_refusal p words)
  unfolding placement_refusal counts_refusal layout_refusal
  rows_apart =
      check12-enough (length words) (block_count p) _ enough
      ∙ go (all_within p words) (all_counted_at p (need p figure) words) (all_counted p words) (counted-chosen p figure words of) (layout_refusal p words)
    where
      go : (within counted chosen : Bool) → counted ≡ chosen → (later : ℕ)
          → refuse_if (not within) 13 (refuse_if (not chosen) 14 later) ≡ or_else (refuse_if (not within) 13 (refuse_if (not counted) 14 0)) later
      go false counted chosen e later = refl
      go true false chosen e later = rw (sym e) refl
      go true true chosen e later = rw (sym e) refl

  pub rows-counts : (code : ℕ) → code ≡ counts_refusal p (need p figure) words → 1 ≤ code → placement_refusal words p ≡ code
  rows-counts zero e l = absurd (omega arith)
  rows-counts (suc code) e l = rows_apart ∙ (rw (sym e) refl)

  pub rows-layout : counts_refusal p (need p figure) words ≡ 0 → placement_refusal words p ≡ layout_refusal p words
  rows-layout e = rows_apart ∙ (rw e refl)

-- words whose counts have passed are admitted by the other rows
module _ (p : Plan) (bytes : List ℕ) (reads : judge bytes ≡ accepted p) (words : List ℕ)
    (rows : placement_refusal words p ≡ layout_refusal p words) where
  ready_of : (c : Cluster) (profiles : List ℕ) (r : Placement) → block_count p ≤ length words → WeighedAs p c words profiles r
      → PlacementReady bytes words profiles r
  ready_of c profiles r enough made =
      let of = made.prepared.profiles-of in
      let passes = rows ∙ made.passes in
      record {
        plan = p;
        reads = reads;
        passes = passes;
        prepared = made.prepared;
        fits = record { profiles-fit = made.prepared.fit; word_room = rw (cluster-blocks p _ of.cluster) enough };
        placement =
            record {
              profiles-of = of;
              feasible = feasible-own p (chosen p) words (placement_refusal-feasible p of.cluster.valid words passes);
            };
        loads-of = made.loads-of;
      }

  pub admitted-of : (c : Cluster) (profiles : List ℕ) (r : Result Placement Refusal) → block_count p ≤ length words
      → Weighed p c words profiles r → PlacementAdmitted bytes words profiles r
  admitted-of c profiles (Err refusal) enough number = number ∙ sym (call_refusal-accepted _ p (placement_refusal words) reads ∙ rows)
  admitted-of c profiles (Ok r) enough made = ready_of c profiles r enough made

-- the words lent to an admitted plan, with its profiles
pub fits-of : (bytes words profiles : List ℕ) (r : Intake) → PlanReady bytes (length words) profiles r
    → PlacementFits r.cluster words profiles
fits-of bytes words profiles r ready =
    record {
      profiles-fit = ready.prepared.fit;
      word_room = rw (cluster-blocks _ _ ready.prepared.profiles-of.cluster) ready.enough;
    }

-- words that have passed rows 13 and 14, with the profiles at the counts that they hold
module _ (p : Plan) (c : Cluster) (words demands : List ℕ) (of : DemandsOf p c demands) (fit : CountsFit c words demands) where
  inside : (i : ℕ) → i < block_count p → i < c.blocks
  inside i l = rw (cluster-blocks p _ of.cluster) l

  pub within-all : all_within p words ≡ true
  within-all = (all_within-iff p words).1 (λ i l. rw (cluster-machines p _ of.cluster) at (fit.within i (inside i l)))

  pub held-at : (profiles : List ℕ) (top : ℕ) → FilledAs p (count_of p words) c demands profiles top → HeldAt p (count_of p words) c words profiles
  held-at profiles top made =
      record {
        profiles-of = (prepared-of p _ _ of.cluster _ _ _ made).profiles-of;
        at_most = λ i l. counts-upper p _ _ _ of fit i (inside i l);
        some = λ i l. counts-pos p _ _ _ of fit i (inside i l);
      }

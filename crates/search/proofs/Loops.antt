-- Searches over the machines, for loops that return what they find: what is known once the first few are passed.
-- Assumes nothing.
use mathlib.Core.Path.{◌≡◌, ap, sym, ◌∙◌}
use mathlib.Core.Bool.{true, false}
use mathlib.Core.List.{List}
use Prim.Native.Nat.{ℕ, ◌+◌, ◌≤◌, ◌<◌}
use native.Mathlib.Decide.{dec_lt}
use native.Mathlib.Omega.{arith}
use borrow.Author.Count.{below_more}
use Rattle.model.specs.Plan.{Plan, machines}
use Rattle.model.specs.Steps.{Step, none, is_step, first}
use Rattle.cluster.specs.declared.Cluster.{Cluster}
use Rattle.cluster.specs.Cluster.{machines_in}
use Rattle.cluster.specs.Blocks.{PlacementOf}
use Rattle.cluster.proofs.Laws.{cluster-machines, placement-machine}
use Rattle.transfers.proofs.Searches.{step-found, none_found}
use Rattle.search.specs.Scene.{FoundIs}

-- the definition's search `f` finds nothing at the first n machines
pub record Passed (c : Cluster) (words profiles : List ℕ) (f : Plan → ℕ → Step) (n : ℕ) : Type 0 where
  pub within : n ≤ machines_in c
  pub none-at : (k : ℕ) → k < n → (p : Plan) (count : ℕ → ℕ) → PlacementOf p count c words profiles → is_step (f p k) ≡ false

pub passed_first : {c : Cluster} {words profiles : List ℕ} {f : Plan → ℕ → Step} → Passed c words profiles f 0
passed_first = record { within = omega arith; none-at = λ k l. absurd (omega arith) }

module _ {c : Cluster} {words profiles : List ℕ} {f : Plan → ℕ → Step} {n : ℕ} (passed : Passed c words profiles f n) where
  -- what is found at the next machine, if anything
  module _ {s : Step} (l : n < machines_in c) (found : FoundIs c words profiles (λ p. f p n) s) where
    pub passed-more : is_step s ≡ false → Passed c words profiles f (n + 1)
    passed-more e =
        record {
          within = omega arith;
          none-at = below_more _ n passed.none-at (λ p count placement. ap is_step (sym (found.is p count placement)) ∙ e);
        }

    pub passed-found : is_step s ≡ true → FoundIs c words profiles (λ p. first (machines p) (f p)) s
    passed-found e =
        record {
          sound = found.sound;
          is = λ p count placement.
              sym (step-found (machines p) n (f p) s (placement-machine p count c words profiles placement n l)
              (λ k h. passed.none-at k h p count placement) (sym (found.is p count placement)) e);
        }

  -- nothing at the later machines, or no later ones
  pub passed-rest : ((k : ℕ) → n ≤ k → k < machines_in c → (p : Plan) (count : ℕ → ℕ) → PlacementOf p count c words profiles → is_step (f p k) ≡ false)
      → FoundIs c words profiles (λ p. first (machines p) (f p)) none
  passed-rest later =
      record {
        sound = tt;
        is = λ p count placement.
            sym (none_found (machines p) (f p)
            (λ k h.
            let below : k < machines_in c = omega (arith, cluster-machines p c placement.profiles-of.cluster) in
            elim (dec_lt k n) [
              | yes l ↦ passed.none-at k l p count placement
              | no l ↦ later k (omega arith) below p count placement
            ]));
      }

  pub passed-all : machines_in c ≤ n → FoundIs c words profiles (λ p. first (machines p) (f p)) none
  passed-all l = passed-rest (λ k h below. absurd (omega arith))

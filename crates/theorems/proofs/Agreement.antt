-- Only the first B words of a placement count: those that agree on them are feasible alike, and at rest alike.
-- Assumes nothing.
use mathlib.Core.Path.{◌≡◌, ap, ap₂}
use mathlib.Core.Bool.{true}
use mathlib.Core.List.{List}
use Prim.Native.Nat.{ℕ, ◌*◌, ◌<◌}
use Rattle.order.proofs.Sums.{sum-cong}
use Rattle.model.specs.Plan.{Plan, block_count, block_of, is_paired, partner}
use Rattle.model.specs.Replication.{share}
use Rattle.model.specs.Placement.{bit, word_of, replicas, used, Feasible, share_of, load}
use Rattle.model.specs.Steps.{AtRest}
use Rattle.theory.specs.Refusal.{Shaped}
use Rattle.theory.proofs.Plan.{partner-below}
use Rattle.theorems.specs.Bounds.{Settled}
use Rattle.theorems.proofs.Settled.{rest-settled}

abbrev pub Agree : Plan → List ℕ → List ℕ → Type 0
Agree p v w = (i : ℕ) → i < block_count p → word_of v i ≡ word_of w i

module _ (p : Plan) (shaped : Shaped p) (v w : List ℕ) (same : Agree p v w) where
  pub agree-share : (i : ℕ) → i < block_count p → share_of p v i ≡ share_of p w i
  unfolding share_of
  agree-share i l = ap (λ (x : ℕ). share (block_of p i).popularity (replicas p x)) (same i l)

  pub agree-used : (m : ℕ) → used p v m ≡ used p w m
  unfolding used
  agree-used m = sum-cong (block_count p) _ _ (λ i l. ap (λ (x : ℕ). bit x m) (same i l))

  pub agree-load : (m : ℕ) → load p v m ≡ load p w m
  unfolding load
  agree-load m = sum-cong (block_count p) _ _ (λ i l. ap₂ ◌*◌ (ap (λ (x : ℕ). bit x m) (same i l)) (agree-share i l))

  pub agree-partner : (i : ℕ) → i < block_count p → is_paired p i ≡ true → word_of v (partner p i) ≡ word_of w (partner p i)
  agree-partner i l paired = same (partner p i) (partner-below p shaped i l paired)

  pub agree-feasible : (count : ℕ → ℕ) → Feasible p count v → Feasible p count w
  agree-feasible count f =
      record {
        counts = f.counts;
        within = λ i l. rw (same i l) at (f.within i l);
        counted = λ i l. rw (same i l) at (f.counted i l);
        spread = λ i l. rw (same i l) at (f.spread i l);
        fits = λ m l. rw (agree-used m) at (f.fits m l);
        apart = λ i l paired m h. rw (same i l, agree-partner i l paired) at (f.apart i l paired m h);
      }

  agree-settled : (slack : ℕ) → Settled p v slack → Settled p w slack
  agree-settled slack s =
      record {
        no_move = λ m n i ml nl il on off room positive spread apart.
            rw (← agree-load m, ← agree-load n, ← agree-share i il)
            (s.no_move m n i ml nl il (rw (same i il) on) (rw (same i il) off) (rw (agree-used n) room)
            (rw (agree-share i il) positive) (rw (same i il) spread)
            (λ paired. rw (agree-partner i il paired) (apart paired)));
        no-swap = λ m n i j ml nl il jl i-on i-off j-on j-off gain i-spread j-spread i-apart j-apart.
            rw (← agree-load m, ← agree-load n, ← agree-share i il, ← agree-share j jl)
            (s.no-swap m n i j ml nl il jl (rw (same i il) i-on) (rw (same i il) i-off) (rw (same j jl) j-on) (rw (same j jl) j-off)
            (rw (agree-share i il, agree-share j jl) gain) (rw (same i il) i-spread) (rw (same j jl) j-spread)
            (λ paired other. rw (agree-partner i il paired) (i-apart paired other))
            (λ paired other. rw (agree-partner j jl paired) (j-apart paired other)));
      }

  pub agree-rest : (count : ℕ → ℕ) → Feasible p count v → AtRest p v → AtRest p w
  agree-rest count f rest =
      (rest-settled p shaped count w (agree-feasible count f)).1 (agree-settled 0 ((rest-settled p shaped count v f).0 rest))

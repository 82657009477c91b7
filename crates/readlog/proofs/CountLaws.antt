-- Laws of how often a block stands among the first records of a list, and of what a test counts.
-- Assumes nothing.
use mathlib.Core.Path.{◌≡◌, refl, sym, ◌∙◌, ap}
use mathlib.Core.Bool.{Bool, true, false, cond}
use mathlib.Core.List.{List, [], ◌∷◌}
use Prim.Native.Nat.{ℕ, zero, suc, ◌+◌, ◌≤◌, ◌<◌, zero-le}
use native.Mathlib.Nat.{le_of_suc-le-suc, not-suc-le-zero}
use native.Mathlib.Numerals.{add-one}
use native.Mathlib.Omega.{arith}
use lib.Dec.{eqb}
use lib.ListN.{length, get_or, take}
use Rattle.std.specs.Int.{from_bool}
use Rattle.order.specs.Select.{select}
use Rattle.model.specs.declared.Entry.{Entry}
use Rattle.model.specs.ReadLog.{reads_of, no_entry}

-- a test counts one at most
pub at_most_one : (more : ℕ) (test : Bool) → more ≡ from_bool test → more ≤ 1
at_most_one more true adds = omega (arith, adds)
at_most_one more false adds = omega (arith, adds)

-- the number with one record more
abbrev pub tallied : ℕ → ℕ → ℕ → ℕ
tallied before found block = cond (eqb found block) (before + 1) before

-- ── reads_of ────────────────────────────────────────────────────────────────────────────────────────────────────────────

pub reads_of-[] : (block : ℕ) → reads_of block [] ≡ 0
unfolding reads_of select
reads_of-[] block = refl

-- one entry in front counts as it does behind those of the others
pub reads_of-∷ : (block : ℕ) (e : Entry) (list : List Entry) → reads_of block (e ∷ list) ≡ tallied (reads_of block list) e.block block
unfolding reads_of select
reads_of-∷ block e list = by-test (eqb e.block block) (select (λ e'. eqb e'.block block) list)
  where
    by-test : (t : Bool) (later : List Entry) → length (cond t (e ∷ later) later) ≡ cond t (length later + 1) (length later)
    by-test true later = sym (add-one (length later))
    by-test false later = refl

tallied-tallied : (n found found' block : ℕ) → tallied (tallied n found block) found' block ≡ tallied (tallied n found' block) found block
tallied-tallied n found found' block = by_tests (eqb found block) (eqb found' block)
  where
    by_tests : (s t : Bool) → cond t (cond s (n + 1) n + 1) (cond s (n + 1) n) ≡ cond s (cond t (n + 1) n + 1) (cond t (n + 1) n)
    by_tests true true = refl
    by_tests true false = refl
    by_tests false true = refl
    by_tests false false = refl

tallied-le : (n found block : ℕ) → tallied n found block ≤ n + 1
tallied-le n found block = by-test (eqb found block)
  where
    by-test : (t : Bool) → cond t (n + 1) n ≤ n + 1
    by-test true = omega arith
    by-test false = omega arith

-- one record further
reads_of-suc : (block : ℕ) (list : List Entry) (i : ℕ) → i < length list → reads_of block (take (suc i) list) ≡ tallied (reads_of block (take i list)) (get_or list i no_entry).block block
reads_of-suc block [] i l = absurd (not-suc-le-zero l)
reads_of-suc block (e ∷ list) zero l = reads_of-∷ block e []
reads_of-suc block (e ∷ list) (suc i) l =
    reads_of-∷ block e (take (suc i) list) ∙ ap (λ (n : ℕ). tallied n e.block block) (reads_of-suc block list i (le_of_suc-le-suc l)) ∙
    tallied-tallied (reads_of block (take i list)) (get_or list i no_entry).block e.block block ∙
    ap (λ (n : ℕ). tallied n (get_or list i no_entry).block block) (sym (reads_of-∷ block e (take i list)))

pub reads_of-take : (block : ℕ) (list : List Entry) (i : ℕ) → i < length list → reads_of block (take (i + 1) list) ≡ tallied (reads_of block (take i list)) (get_or list i no_entry).block block
reads_of-take block list i l = rw (add-one i) (reads_of-suc block list i l)

pub reads_of-le : (block : ℕ) (list : List Entry) (i : ℕ) → reads_of block (take i list) ≤ i
reads_of-le block list zero = rw (reads_of-[] block) zero-le
reads_of-le block [] (suc i) = rw (reads_of-[] block) zero-le
reads_of-le block (e ∷ list) (suc i) =
    let step = tallied-le (reads_of block (take i list)) e.block block in
    let later = reads_of-le block list i in
    rw (reads_of-∷ block e (take i list)) omega arith

-- A list that was swept and then cleared behind what is kept is compacted.
-- Assumes nothing.
use mathlib.Core.Path.{◌≡◌, refl, sym, ap, ap₂, ◌∙◌}
use mathlib.Core.Bool.{Bool, true, false, cond}
use mathlib.Core.List.{List, [], ◌∷◌, ◌++◌, append_assoc, append-nil}
use Prim.Native.Nat.{ℕ, zero, suc, ◌+◌, ◌-◌, ◌<◌, ◌≤◌}
use native.Mathlib.Omega.{arith}
use lib.ListN.{length, get_or, set, take, drop, replicate, length-append}
use lib.Seq.{take-suc, set_at, take-suc-set, take-set-le, drop-set-lt, drop-drop, get_or-drop}
use Rattle.order.specs.Select.{select}
use Rattle.order.proofs.Selects.{select-snoc}
use Rattle.model.specs.declared.Entry.{Entry}
use Rattle.model.specs.ReadLog.{no_entry, in_window, current}
use Rattle.readwindow.specs.Window.{kept_with}
use Rattle.readlog.specs.Records.{Swept, sweep, swept, SweptTo, compacted, CompactedAs}
use Rattle.readlog.proofs.SweptLaws.{swept-length, swept_kept}

-- Kept entries, n cleared records, and the rest of the list.
abbrev pub shape : List Entry → ℕ → List Entry → List Entry
shape kept n rest = kept ++ replicate n no_entry ++ rest

-- an entry is stored behind those kept
pub shape-keep : (kept : List Entry) (n k : ℕ) (e : Entry) (rest : List Entry) → length kept ≡ k
    → set (shape kept (suc n) rest) k e ≡ shape (kept ++ (e ∷ [])) n rest
shape-keep kept n k e rest same =
    ap (λ (l : List Entry). set l k e) (append_assoc kept (replicate (suc n) no_entry) rest)
    ∙ set_at kept no_entry (replicate n no_entry ++ rest) e k same
    ∙ sym (append_assoc kept (e ∷ []) (replicate n no_entry ++ rest))
    ∙ sym (append_assoc (kept ++ (e ∷ [])) (replicate n no_entry) rest)

module _ (tick : ℕ) (list : List Entry) where
  -- What is kept of the first i records.
  abbrev kept_of : ℕ → List Entry
  kept_of i = current tick (take i list)

  -- As far as the sweep has come: how many are kept, that they stand in front, and that the rest was not reached.
  record Front (i : ℕ) (s : Swept) : Type 0 where
    number : s.kept ≡ length (kept_of i)
    front : take s.kept s.list ≡ kept_of i
    rest : drop i s.list ≡ drop i list

  -- one record more, at a list that is known so far
  front-more : (i : ℕ) (l : List Entry) (k : ℕ) → i < length list → length l ≡ length list → k ≤ i → Front i (record { list = l; kept = k })
      → Front (suc i) (sweep tick i (record { list = l; kept = k }))
  unfolding sweep kept_with in_window
  front-more i l k below same max at =
      let e = get_or list i no_entry in
      let here : get_or l i no_entry ≡ e
      = (let none : i + 0 ≡ i = omega arith in
      ap (λ (n : ℕ). get_or l n no_entry) (sym none) ∙ sym (get_or-drop i l 0 no_entry)
      ∙ ap (λ (r : List Entry). get_or r 0 no_entry) at.rest
      ∙ get_or-drop i list 0 no_entry ∙ ap (λ (n : ℕ). get_or list n no_entry) none) in
      let next : kept_of (suc i) ≡ kept_of i ++ cond (in_window tick e) (e ∷ []) []
      = ap (current tick) (take-suc list i no_entry below) ∙ select-snoc (in_window tick) (take i list) e in
      let left : drop (suc i) (set l k e) ≡ drop (suc i) list
      = (let one : i + 1 ≡ suc i = omega arith in
      drop-set-lt (suc i) l k e (omega arith)
      ∙ ap (λ (n : ℕ). drop n l) (sym one) ∙ sym (drop-drop 1 i l) ∙ ap (drop 1) at.rest ∙ drop-drop 1 i list ∙ ap (λ (n : ℕ). drop n list) one) in
      rw here (go (in_window tick e) next left)
    where
      go : (b : Bool)
          → kept_of (suc i) ≡ kept_of i ++ cond b (get_or list i no_entry ∷ []) []
          → drop (suc i) (set l k (get_or list i no_entry)) ≡ drop (suc i) list
          → Front (suc i) (record { list = set l k (get_or list i no_entry); kept = cond b (k + 1) k })
      go true next left =
          let e = get_or list i no_entry in
          let one : k + 1 ≡ suc k = omega arith in
          let longer = length-append (kept_of i) (e ∷ []) in
          record {
            number = rw next (let n = at.number in omega (arith, n, longer));
            front =
                ap (λ (n : ℕ). take n (set l k e)) one
                ∙ take-suc-set l k e (omega (arith, same))
                ∙ ap (λ (r : List Entry). r ++ (e ∷ [])) at.front
                ∙ sym next;
            rest = left;
          }
      go false next left =
          let e = get_or list i no_entry in
          let none = append-nil (kept_of i) in
          record {
            number = at.number ∙ ap length (sym none ∙ sym next);
            front = take-set-le k l k e (omega arith) ∙ at.front ∙ sym none ∙ sym next;
            rest = left;
          }

  swept-front : (i : ℕ) → i ≤ length list → Front i (swept tick list i)
  unfolding swept select
  swept-front zero below = record { number = refl; front = refl; rest = refl }
  swept-front (suc i) below =
      front-more i (swept tick list i).list (swept tick list i).kept below (swept-length tick list i) (swept_kept tick list i)
      (swept-front i (omega arith))

pub cleared-compacted : (tick span count : ℕ) (list list' : List Entry) (kept : ℕ) → span ≤ length list → count ≤ span
    → SweptTo tick count list list' kept → CompactedAs tick span count list (take kept list' ++ replicate (span - kept) no_entry ++ drop span list') kept
unfolding compacted
cleared-compacted tick span count list list' kept room below to =
    let at = swept-front tick list count (omega arith) in
    let number : kept ≡ length (current tick (take count list)) = to.kept-is ∙ at.number in
    let front : take kept list' ≡ current tick (take count list)
    = ap₂ (λ (n : ℕ) (l : List Entry). take n l) to.kept-is to.list-is ∙ at.front in
    let split : count + (span - count) ≡ span = omega arith in
    let rest : drop span list' ≡ drop span list
    = ap (drop span) to.list-is
    ∙ ap (λ (n : ℕ). drop n (swept tick list count).list) (sym split)
    ∙ sym (drop-drop (span - count) count (swept tick list count).list)
    ∙ ap (drop (span - count)) at.rest
    ∙ drop-drop (span - count) count list
    ∙ ap (λ (n : ℕ). drop n list) split in
    record {
      list-is =
          ap₂ (λ (f r : List Entry). f ++ replicate (span - kept) no_entry ++ r) front rest
          ∙ ap (λ (n : ℕ). current tick (take count list) ++ replicate (span - n) no_entry ++ drop span list) number;
      kept-is = number;
    }

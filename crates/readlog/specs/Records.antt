-- What the functions over a lent list do, record by record and as a whole.
use Rattle.std.specs.Prelude.{◌≡◌, cond, List, ◌++◌, ℕ, zero, suc, ◌-◌, ltb, length, get_or, set, take, drop, replicate, Option, option_map, slice_get}
use Rattle.model.specs.declared.Entry.{Entry}
use Rattle.model.specs.ReadLog.{no_entry, current}
use Rattle.readwindow.specs.Window.{kept_with}

-- The tick of the last entry, if there is one.
abbrev pub last_in : List Entry → Option ℕ
last_in list = option_map (λ (e : Entry). e.tick) (slice_get list (length list - 1))

-- The list and the number of entries kept, after so many records.
pub record Swept : Type 0 where
  pub list : List Entry
  pub kept : ℕ

-- One record more: it is stored behind those kept, and is one of them if it is in the window.
unfoldable pub sweep : ℕ → ℕ → Swept → Swept
sweep tick i s =
    let e = get_or s.list i no_entry in
    record { list = set s.list s.kept e; kept = kept_with s.kept tick e.tick }

unfoldable pub swept : ℕ → List Entry → ℕ → Swept
swept tick list zero = record { list = list; kept = 0 }
swept tick list (suc i) = sweep tick i (swept tick list i)

pub record SweptTo (tick count : ℕ) (list list' : List Entry) (kept : ℕ) : Type 0 where
  pub list-is : list' ≡ (swept tick list count).list
  pub kept-is : kept ≡ (swept tick list count).kept

-- The entries kept of the first `count`, cleared records up to `span`, and the list's own behind them.
unfoldable pub compacted : ℕ → ℕ → ℕ → List Entry → List Entry
compacted tick span count list =
    let kept = current tick (take count list) in
    kept ++ replicate (span - length kept) no_entry ++ drop span list

pub record CompactedAs (tick span count : ℕ) (list list' : List Entry) (kept : ℕ) : Type 0 where
  pub list-is : list' ≡ compacted tick span count list
  pub kept-is : kept ≡ length (current tick (take count list))

-- The list with an entry at a place below `span`.
unfoldable pub appended : Entry → ℕ → ℕ → List Entry → List Entry
appended e at span list = cond (ltb at span) (set list at e) list

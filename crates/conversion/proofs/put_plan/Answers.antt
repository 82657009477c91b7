-- `conversion::put_plan` meets its contract: the new header, and behind it the new records.
-- Assumes nothing.
use mathlib.Core.Path.{◌≡◌}
use mathlib.Core.List.{List, ◌++◌}
use Prim.Native.Nat.{ℕ}
use Rattle.model.specs.Plan.{Format, format_of}
use Rattle.model.specs.Conversion.{written_version, converted}
use Rattle.text.specs.Pasted.{Room}
use Rattle.text.proofs.Laws.{room-first, room_next, put_then}
use Rattle.plan.specs.declared.passed.Accepted.{Accepted}
use Rattle.plan.specs.Verdict.{accepted_plan}
use Rattle.encoding.specs.Pieces.{header_with}
use Rattle.conversion.specs.Pieces.{new_records}
use Rattle.conversion.proofs.Laws.{converted-parts}
use Rattle.conversion.proofs.put_plan.Goals as goal

-- room for the header and the records
parts-room : (a : Accepted) (new : Format) (buffer : List ℕ) → new ≡ format_of written_version → Room 0 (converted (accepted_plan a)) buffer
    → Room 0 (header_with written_version new a.header ++ new_records new (accepted_plan a)) buffer
parts-room a new buffer same room = rw (same, ← (converted-parts a.records.bytes.now a.header)) room

pub put_header-next-requires : goal.put_header-next-requires
put_header-next-requires c = room-first _ _ _ _ (parts-room c.args.plan.now _ _ c.requires.0 c.requires.1)

pub put_records-requires : goal.put_records-requires
put_records-requires c = room_next _ _ _ _ (parts-room c.args.plan.now _ _ c.requires.0 c.requires.1) _ _ c.put_header-next.ensures

pub returns : goal.returns
returns c =
    let plan = c.args.plan.now in
    rw (converted-parts plan.records.bytes.now plan.header, ← c.requires.0)
    (put_then _ _ _ _ (parts-room plan _ _ c.requires.0 c.requires.1) _ _ _ _ c.put_header-next.ensures c.put_records.ensures)

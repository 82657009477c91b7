-- `place::list` meets its contract: a text with room is never refused, and begins with what is printed.
-- Assumes nothing.
use Rattle.std.proofs.Common.{ap, sym, ◌∙◌, length}
use Rattle.place.proofs.Laws.{print_call-never, print_call-size, print_call-part}
use Rattle.place.proofs.list.Goals as goal

pub returns-in_default : goal.returns-in_default
returns-in_default c = absurd (print_call-never _ _ _ c.requires _ c.in_default.ensures)

pub slice_bounds-result-end-2 : goal.slice_bounds-result-end-2
slice_bounds-result-end-2 c =
    print_call-size _ _ _ c.requires _ c.in-Ok.ensures ∙ sym (ap length (print_call-part _ _ _ c.requires _ c.in-Ok.ensures))

pub returns : goal.returns
returns c = print_call-part _ _ _ c.requires _ c.in-Ok.ensures

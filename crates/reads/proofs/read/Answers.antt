-- `reads::read` meets its contract: what its parts come to are the laws `read-refused` and `read-passed`.
-- Assumes nothing.
use Rattle.std.proofs.Common.{◌≡◌, ℕ, List, Option, Result, Err, length, take}
use Rattle.std.proofs.lemmas.Result.{err_from_is_err_and}
use Rattle.model.specs.declared.Entry.{Entry}
use Rattle.model.specs.Refusal.{judge}
use Rattle.model.specs.ReadLog.{entry, usable, standing, read_call}
use Rattle.refusal.specs.declared.Refusal.{Refusal}
use Rattle.refusal.specs.Rows.{number_of}
use Rattle.readwindow.specs.Window.{read_number}
use Rattle.readlookup.specs.Lookup.{read_code}
use Rattle.readlog.specs.Records.{last_in, CompactedAs, appended}
use Rattle.reads.specs.Answers.{reads_outcome}
use Rattle.reads.proofs.Laws.{read-refused, read-passed}
use Rattle.reads.proofs.read.Goals as goal

-- what the steps before the dropping found
module _ (bytes : List ℕ) (block tick count held : ℕ) (last : Option ℕ) (list : List Entry) (stands : held ≡ standing (length list) count) (found : last ≡ last_in (take held list)) where
  refused : (refusal : Refusal) → number_of refusal ≡ read_code (judge bytes) block tick last
      → reads_outcome (Err refusal) list ≡ read_call bytes block tick list count
  refused refusal code = read-refused bytes block tick count list refusal (rw (found, stands) at code)

  passed : (span kept : ℕ) (list' list'' : List Entry) (answer : Result ℕ Refusal) → span ≡ usable (length list)
      → 0 ≡ read_code (judge bytes) block tick last → CompactedAs tick span held list list' kept
      → answer ≡ read_number kept span → list'' ≡ appended (entry block tick) kept span list'
      → reads_outcome answer list'' ≡ read_call bytes block tick list count
  passed span kept list' list'' answer wide code done told stored =
      rw (told, stored, wide)
      (read-passed bytes block tick count list kept list' (rw (found, stands) at code) (rw (wide, stands) at done))

pub returns-in_err-check_read : goal.returns-in_err-check_read
returns-in_err-check_read c =
    let p = err_from_is_err_and c.from_residual.result c.from_residual.ensures.1 in
    rw (p.1, p.2)
    (refused _ _ _ _ _ _ _ c.standing-standing.ensures c.last_tick-last.ensures _ c.in_err-check_read.ensures)

pub returns : goal.returns
returns c =
    passed _ _ _ _ _ _ _ c.standing-standing.ensures c.last_tick-last.ensures _ _ _ _ _ c.usable-span.ensures
    c.in_ok-check_read.ensures c.drop_old-kept.ensures c.append.ensures.answer c.append.ensures.list

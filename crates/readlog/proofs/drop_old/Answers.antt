-- `readlog::drop_old` meets its contract: what `compact` and the clearing come to is the law `cleared-compacted`.
-- Assumes nothing.
use Rattle.std.proofs.Common.{◌≡◌, ◌≤◌, ◌+◌, ◌-◌, ◌++◌, ℕ, List, length, take, drop, replicate, sym, append_assoc, length-drop, arith}
use lib.Seq.{length-take-le, drop-drop}
use borrow.Rule.Slice.PartMut.{put_mid}
use Rattle.model.specs.declared.Entry.{Entry}
use Rattle.model.specs.ReadLog.{no_entry}
use Rattle.readlog.proofs.CompactLaws.{cleared-compacted}
use Rattle.readlog.proofs.drop_old.Goals as goal

-- the part behind those kept, written as a whole
written : (list part : List Entry) (start span : ℕ) → start ≤ span → span ≤ length list
    → part ≡ replicate (length (take (span - start) (drop start list))) no_entry
    → put_mid start (span - start) list part ≡ take start list ++ replicate (span - start) no_entry ++ drop span list
written list part start span below room is =
    let size : length (take (span - start) (drop start list)) ≡ span - start
    = length-take-le (span - start) (drop start list) (omega (arith, length-drop start list)) in
    let split : start + (span - start) ≡ span = omega arith in
    rw (is, size, drop-drop (span - start) start list, split)
    (sym (append_assoc (take start list) (replicate (span - start) no_entry) (drop span list)))

pub returns : goal.returns
returns c =
    rw (written c.compact-kept.new.list c.fill.new.self c.compact-kept.result c.args.span (omega arith) (omega arith) (c.fill.ensures.after (λ y same. same)))
    (cleared-compacted c.args.tick c.args.span c.args.count _ _ _ c.requires.0 c.requires.1 c.compact-kept.ensures.swept)

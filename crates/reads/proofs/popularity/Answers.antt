-- `reads::popularity` meets its contract: what its parts come to is the law `popularity-is`.
-- Assumes nothing.
use Rattle.std.proofs.Common.{◌≡◌, ℕ, List, Ok, max, length, take, ap, ◌∙◌, arith}
use Rattle.std.proofs.lemmas.Result.{err_from_is_err_and}
use Rattle.model.specs.declared.Entry.{Entry}
use Rattle.model.specs.Calls.{answered}
use Rattle.model.specs.Refusal.{judge}
use Rattle.model.specs.ReadLog.{reads_of, popularity_call}
use Rattle.readlookup.specs.declared.Searched.{Searched}
use Rattle.readlookup.specs.Lookup.{searched}
use Rattle.reads.proofs.Laws.{counted, searched-room, popularity-is}
use Rattle.reads.specs.Answers.{reads_outcome}
use Rattle.reads.proofs.popularity.Goals as goal

-- the larger of what the two searches found
larger : (plan : List ℕ) (block count own other n : ℕ) (list : List Entry) {s : Searched} → own ≡ reads_of block (take s.own list)
    → other ≡ reads_of s.mate (take s.other list) → answered s ≡ searched (judge plan) block (length list) count → n ≡ max own other
    → reads_outcome (Ok n) list ≡ popularity_call plan block list count
unfolding reads_outcome
larger plan block count own other n list first second found is =
    rw (is, first, second) (ap (counted block count list) found ∙ popularity-is block count list plan)

pub returns-in_err-searched : goal.returns-in_err-searched
unfolding reads_outcome
returns-in_err-searched c =
    let p = err_from_is_err_and c.from_residual.result c.from_residual.ensures.1 in
    rw (p.1, p.2)
    (ap (counted c.args.block c.args.count c.args.list.now) c.in_err-searched.ensures
    ∙ popularity-is c.args.block c.args.count c.args.list.now c.args.plan.now)

pub reads_of-own-requires : goal.reads_of-own-requires
reads_of-own-requires c = (searched-room _ _ _ _ _ c.in_ok-searched.ensures).0

pub reads_of-other-requires : goal.reads_of-other-requires
reads_of-other-requires c = (searched-room _ _ _ _ _ c.in_ok-searched.ensures).1

pub returns : goal.returns
returns c =
    larger _ _ _ _ _ _ _ c.reads_of-own.ensures c.reads_of-other.ensures c.in_ok-searched.ensures (omega arith)

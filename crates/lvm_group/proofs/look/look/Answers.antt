use Rattle.std.proofs.Common.{ℕ, ap, subst, ◌∙◌}
use Rattle.std.proofs.lemmas.Result.{err_from_is_err_and}
use Rattle.lvm_num.specs.Buffer.{Buffer}
use Rattle.lvm_transfer.specs.Reading.{IsReadStuck}
use Rattle.lvm_transfer.proofs.ReadingLemmas.Following.{only_none}
use Rattle.lvm_group.specs.Steps.{HasOnlyRead}
use Rattle.lvm_group.proofs.ShownLemmas.{survey_of, lets_begin, refuses_found}
use Rattle.lvm_group.proofs.look.look.Goals as goal

pub returns-in_default-clause-only : goal.returns-in_default-clause-only
returns-in_default-clause-only g c = only_none c.args.patience.now.left (g.S.Shelf.device c.args.shelf.now)

pub returns-in_err-judge-in-Ended : goal.returns-in_err-judge-in-Ended
returns-in_err-judge-in-Ended g c =
    let e = c.in-Ended.ensures in
    let old = g.S.Shelf.device c.args.shelf.now in
    let new = g.S.Shelf.device c.survey_disks.new.shelf in
    let reads : HasOnlyRead old new = record { unwritten = e.only.unwritten; rested = e.ends.0 } in
    let p = err_from_is_err_and c.from_residual.result c.from_residual.ensures.1 in
    record {
      gives = rw (p.1, p.2) (refuses_found old new c.in-Ended.survey (survey_of old new c.in-Ended.survey e.ends.1 e.small) c.args.force c.args.moment c.args.patience.now.left reads c.in_err-judge-in-Ended.field-0.0 c.in_err-judge-in-Ended.ensures.refused);
      only = e.only;
    }

pub returns-in-Ended : goal.returns-in-Ended
returns-in-Ended g c =
    let e = c.in-Ended.ensures in
    let old = g.S.Shelf.device c.args.shelf.now in
    let new = g.S.Shelf.device c.survey_disks.new.shelf in
    let reads : HasOnlyRead old new = record { unwritten = e.only.unwritten; rested = e.ends.0 } in
    record {
      gives = lets_begin old new c.in-Ended.survey (survey_of old new c.in-Ended.survey e.ends.1 e.small) c.args.force c.args.moment (record { homes = c.homes_of.result; buf = c.in-Ended.buf }) reads c.homes_of.ensures.spare (e.ends.2 ∙ ap (λ (b : Buffer). b.number) c.in-Ok.ensures) (c.in_ok-judge-in-Ended.ensures.lets);
      only = e.only;
    }

pub returns-in-Dark : goal.returns-in-Dark
returns-in-Dark g c = let e = c.in-Dark.ensures in record { gives = (e.only.unwritten, e.ends); only = e.only }

pub returns-in-Stuck : goal.returns-in-Stuck
returns-in-Stuck g c =
    let e = c.in-Stuck.ensures in
    let n = ap (λ (b : Buffer). b.number) c.in-Ok.ensures in
    record { gives = (e.only.unwritten, subst (λ (k : ℕ). IsReadStuck k c.args.patience.now.left (g.S.Shelf.device c.args.shelf.now) (g.S.Shelf.device c.survey_disks.new.shelf)) n e.ends); only = e.only }

pub returns : goal.returns
returns g c = let e = c.in-Memory.ensures in record { gives = record { unwritten = e.only.unwritten; rested = e.ends.0 }; only = e.only }

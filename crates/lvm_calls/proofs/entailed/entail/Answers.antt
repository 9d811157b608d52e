use Rattle.std.proofs.Common.{sym, subst}
use Rattle.lvm_session.specs.Fields.{core_of}
use Rattle.lvm_session.specs.Marks.{due_of, is_among}
use Rattle.lvm_calls.specs.Ending.{MayEndCopy}
use Rattle.lvm_calls.proofs.EndingLemmas.{may_still}
use Rattle.lvm_calls.proofs.LosingLemmas.{entails_are, some_there}
use Rattle.lvm_calls.proofs.entailed.entail.Goals as goal

pub end_copy_if-requires : goal.end_copy_if-requires
end_copy_if-requires c =
    let core = core_of c.args.session.now in
    let it = some_there core.requests c.args.place c.requires.mark.within in
    subst MayEndCopy (sym c.mark_due.ensures.core) (may_still core (is_among (due_of core it.0.request)) c.mark_due.new.session.updater c.requires.copy (c.mark_due.ensures.marks it.0 it.1))

pub returns-clause-core : goal.returns-clause-core
returns-clause-core c o there =
    entails_are (core_of c.args.session.now) (core_of c.mark_due.new.session) (core_of c.end_copy_if.new.session) o c.args.ok c.args.pp c.end_by_write-end.result c.mark_due.ensures.core (c.end_by_write-end.ensures o there)
    (c.mark_due.ensures.marks o there) c.end_copy_if.ensures.core c.end_copy_if.ensures.marks

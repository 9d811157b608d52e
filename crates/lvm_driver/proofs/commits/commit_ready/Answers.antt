use Rattle.std.proofs.Common.{sym, ◌∙◌, subst}
use Rattle.lvm_num.specs.declared.descriptor.Descriptor.{Descriptor}
use Rattle.lvm_commit.specs.Settling.{IsContentOf, MayCommit}
use Rattle.lvm_session.specs.Fields.{core_of}
use Rattle.lvm_session.specs.State.{state}
use Rattle.lvm_driver.proofs.CommitsLemmas.{content_is, opens_commit}
use Rattle.lvm_driver.proofs.commits.commit_ready.Goals as goal

pub commit_move-answer-requires-clause-may : goal.commit_move-answer-requires-clause-may
commit_move-answer-requires-clause-may g c =
    subst (λ (d : Descriptor). MayCommit 2 d c.args.session.now.updater (g.S.Shelf.device c.args.shelf.now)) (sym c.into_parts-next.ensures.descriptor) c.requires.ready.may.may

pub commit_move-answer-requires-clause-content : goal.commit_move-answer-requires-clause-content
commit_move-answer-requires-clause-content g c =
    subst (λ (d : Descriptor). IsContentOf d c.as_slice.result.now) (sym c.into_parts-next.ensures.descriptor)
    (subst (IsContentOf c.args.next) (sym (c.as_slice.ensures ∙ c.into_parts-next.ensures.bytes)) (content_is c.args.next c.into_parts-next.ensures.valid))

pub returns-clause-commits : goal.returns-clause-commits
returns-clause-commits g c =
    let device = g.S.Shelf.device in
    let wrote = c.commit_move-answer in
    opens_commit c.args.patience.now.left wrote.new.patience.left (state (device c.args.shelf.now) (core_of c.args.session.now)) (state (device wrote.new.shelf) (core_of wrote.new.session)) (core_of c.close_after.new.session) wrote.result c.args.next c.into_parts-next.result.0 c.as_slice.result.now
    c.requires.ready.ready c.into_parts-next.ensures.descriptor (c.as_slice.ensures ∙ c.into_parts-next.ensures.bytes) wrote.ensures.does c.close_after.ensures.is
    (g.met.S.Shelf.sectors_are_whole wrote.new.shelf)

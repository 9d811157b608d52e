use Rattle.std.proofs.Common.{◌∙◌, Option, Some, ap, refl, subst, sym}
use Rattle.lvm_status.specs.Members.{HasItsRows}
use Rattle.lvm_status.specs.Runs.{IsSoundStatus}
use Rattle.lvm_status.specs.Update.{seen}
use Rattle.lvm_session.specs.declared.bringing.OpenCopy.{OpenCopy}
use Rattle.lvm_session.specs.declared.bringing.Step.TheVariants as stage
use Rattle.lvm_session.specs.declared.flown.Owner.TheVariants as owner
use Rattle.lvm_session.specs.Fields.{core_of}
use Rattle.lvm_session.specs.State.{Core}
use Rattle.lvm_session_turn.proofs.Ended.{is_out, within}
use Rattle.lvm_session_turn.proofs.EndsLemmas.{fails_so, its_open, may_end}
use Rattle.lvm_session_turn.proofs.cases.fail.Goals as goal

pub return_flight-requires-clause-within : goal.return_flight-requires-clause-within
return_flight-requires-clause-within c = within (core_of c.args.session.now) c.args.at owner.Copy c.args.buf.number c.requires

pub return_flight-requires-clause-out : goal.return_flight-requires-clause-out
return_flight-requires-clause-out c = is_out (core_of c.args.session.now) c.args.at owner.Copy c.args.buf.number c.requires

pub end_copy-requires : goal.end_copy-requires
end_copy-requires c =
    let core = core_of c.args.session.now in
    let it = its_open core c.args.at c.args.buf.number c.requires in
    let back = c.return_flight.ensures.core in
    may_end core c.args.at c.args.buf.number c.requires it.0 it.1 _ (record it.0 { step = stage.Idle }) (c.settle.ensures it.0 (ap (λ (x : Core). x.copy) back ∙ it.1)) refl refl
    (subst (λ (x : Core). IsSoundStatus (seen x.status)) (sym back) c.requires.going.status) (subst (λ (x : Core). HasItsRows core.descriptor x.status.wanted) (sym back) c.requires.going.fitting.rows)

pub returns-clause-fails : goal.returns-clause-fails
returns-clause-fails c d is =
    let back = c.return_flight.ensures.core in
    let now =
    ap (λ (m : Option OpenCopy). record (core_of c.return_flight.new.session) { copy = m }) (c.settle.ensures d (ap (λ (x : Core). x.copy) back ∙ is))
    ∙ ap (λ (x : Core). record x { copy = Some (record d { step = stage.Idle }) }) back in
    fails_so (core_of c.args.session.now) c.args.at d c.args.buf is _ (core_of c.end_copy.new.session) now c.end_copy.ensures.core c.end_copy.ensures.marks

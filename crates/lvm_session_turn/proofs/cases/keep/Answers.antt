use Rattle.std.proofs.Common.{◌∙◌, Option, Some, ap}
use Rattle.lvm_session.specs.declared.bringing.OpenCopy.{OpenCopy}
use Rattle.lvm_session.specs.declared.bringing.Step.TheVariants as stage
use Rattle.lvm_session.specs.declared.flown.Owner.TheVariants as owner
use Rattle.lvm_session.specs.Fields.{core_of}
use Rattle.lvm_session.specs.State.{Core}
use Rattle.lvm_session_turn.proofs.Ended.{within}
use Rattle.lvm_session_turn.proofs.cases.keep.Goals as goal

pub end_flight-requires : goal.end_flight-requires
end_flight-requires c = within (core_of c.args.session.now) c.args.at owner.Copy c.args.buf.number c.requires

pub returns-clause-core : goal.returns-clause-core
returns-clause-core c d is =
    let out = c.end_flight.ensures.core in
    ap (λ (m : Option OpenCopy). record (core_of c.end_flight.new.session) { copy = m }) (c.hold.ensures d (ap (λ (x : Core). x.copy) out ∙ is))
    ∙ ap (λ (x : Core). record x { copy = Some (record d { step = stage.Read c.args.buf }) }) out

use Rattle.std.proofs.Common.{false, sym, ◌∙◌, arith}
use Rattle.std.proofs.lemmas.Bool.{not-true}
use Rattle.lvm_session.specs.Fields.{core_of}
use Rattle.lvm_due.proofs.due.Due.fill.Goals as goal

pub returns : goal.returns
returns c =
    let all = c.all.ensures (core_of c.args.session.now) (omega (arith, c.len.ensures)) in
    record { landing = all.landing; admission = all.admission; pinning = all.pinning; note = all.note; «data» = all.data; unfailing = λ is. sym c.any_is_failing.ensures ∙ not-true c.any_is_failing.result is }

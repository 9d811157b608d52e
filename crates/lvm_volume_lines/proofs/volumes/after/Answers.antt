use Rattle.std.proofs.Common.{◌≡◌, ◌∙◌, [], Bool, Result, Err, false, sym, ap, subst}
use Rattle.lvm_range_lines.specs.passed.VolumePlan.{GroupFault, is_over}
use Rattle.lvm_range_lines.specs.passed.VolumePlanFaultGroupFault as fault
use Rattle.lvm_volume_lines.specs.Commands.{IsLeftAs, IsLeftOn}
use Rattle.lvm_volume_lines.proofs.volumes.after.Goals as goal

pub go_on-requires-clause-may : goal.go_on-requires-clause-may
go_on-requires-clause-may g c =
    let goes : is_over c.args.done ≡ false = ap (λ (r : Result g.row.T.Denot GroupFault). is_over r) c.in-Ok.is in
    ((c.requires.may goes).0, λ none. (c.requires.may goes).1)

pub after_fault-requires-clause-dark : goal.after_fault-requires-clause-dark
after_fault-requires-clause-dark g c = λ dark. c.requires.dark (let failed : c.args.done ≡ Err c.in-Err.why = c.in-Err.is in cc (failed, dark))

pub after_fault-requires-clause-lit : goal.after_fault-requires-clause-lit
after_fault-requires-clause-lit g c = λ over other.
    let failed : c.args.done ≡ Err c.in-Err.why = c.in-Err.is in
    c.requires.lit (ap (λ (r : Result g.row.T.Denot GroupFault). is_over r) failed ∙ over) (λ is. other (let same : c.in-Err.why ≡ fault.Dark = cc (failed, is) in same))

pub after_fault-requires-clause-rows : goal.after_fault-requires-clause-rows
after_fault-requires-clause-rows g c = λ goes. c.requires.rows (ap (λ (r : Result g.row.T.Denot GroupFault). is_over r) c.in-Err.is ∙ goes)

pub after_fault-requires-clause-may : goal.after_fault-requires-clause-may
after_fault-requires-clause-may g c = λ goes.
    let may = c.requires.may (ap (λ (r : Result g.row.T.Denot GroupFault). is_over r) c.in-Err.is ∙ goes) in
    (may.0, λ none. may.1)

pub returns-in-Ok-clause-stage : goal.returns-in-Ok-clause-stage
returns-in-Ok-clause-stage g c =
    subst (λ (b : Bool). IsLeftAs g.S.Shelf.device b [] c.args.driver c.args.posts c.args.bytes c.answered.result.stage) (sym (ap (λ (r : Result g.row.T.Denot GroupFault). is_over r) c.in-Ok.is))
    (subst (IsLeftOn g.S.Shelf.device [] c.args.driver c.args.posts c.args.bytes) (sym c.answered.ensures.stage) c.go_on.ensures)

pub returns-in-Err-clause-stage : goal.returns-in-Err-clause-stage
returns-in-Err-clause-stage g c =
    subst (λ (b : Bool). IsLeftAs g.S.Shelf.device b [] c.args.driver c.args.posts c.args.bytes c.after_fault.result.stage) (sym (ap (λ (r : Result g.row.T.Denot GroupFault). is_over r) c.in-Err.is))
    c.after_fault.ensures.stage

use Rattle.std.proofs.Common.{◌≡◌, ◌∙◌, [], Bool, Result, Err, sym, ap, subst}
use Rattle.lvm_member_plan.specs.declared.fault.ReduceFault.{ReduceFault}
use Rattle.lvm_reduce.specs.Answers.{is_over}
use Rattle.lvm_member_plan.specs.declared.fault.ReduceFault.TheVariants as fault
use Rattle.lvm_volume_lines.specs.Commands.{IsLeftAs, IsLeftOn}
use Rattle.lvm_member_lines.proofs.reducing.after_reduce.Goals as goal

pub go_on-requires-clause-rows : goal.go_on-requires-clause-rows
go_on-requires-clause-rows g c = c.requires.rows (ap (λ (r : Result (Unit {0}) ReduceFault). is_over r) c.in-Ok.is)

pub go_on-requires-clause-may : goal.go_on-requires-clause-may
go_on-requires-clause-may g c = c.requires.may (ap (λ (r : Result (Unit {0}) ReduceFault). is_over r) c.in-Ok.is)

pub after_reduce_fault-requires-clause-dark : goal.after_reduce_fault-requires-clause-dark
after_reduce_fault-requires-clause-dark g c = λ dark. c.requires.dark (c.in-Err.is ∙ ap (λ (w : ReduceFault). Err w) dark)

pub after_reduce_fault-requires-clause-lit : goal.after_reduce_fault-requires-clause-lit
after_reduce_fault-requires-clause-lit g c = λ over other.
    let failed : c.args.done ≡ Err c.in-Err.why = c.in-Err.is in
    c.requires.lit (ap (λ (r : Result (Unit {0}) ReduceFault). is_over r) failed ∙ over) (λ is. other (let same : c.in-Err.why ≡ fault.Dark = cc (failed, is) in same))

pub after_reduce_fault-requires-clause-rows : goal.after_reduce_fault-requires-clause-rows
after_reduce_fault-requires-clause-rows g c = λ goes. c.requires.rows (ap (λ (r : Result (Unit {0}) ReduceFault). is_over r) c.in-Err.is ∙ goes)

pub after_reduce_fault-requires-clause-may : goal.after_reduce_fault-requires-clause-may
after_reduce_fault-requires-clause-may g c = λ goes. c.requires.may (ap (λ (r : Result (Unit {0}) ReduceFault). is_over r) c.in-Err.is ∙ goes)

pub returns-in-Ok-clause-stage : goal.returns-in-Ok-clause-stage
returns-in-Ok-clause-stage g c =
    subst (λ (b : Bool). IsLeftAs g.S.Shelf.device b [] c.args.driver c.args.posts c.args.bytes c.answered.result.stage) (sym (ap (λ (r : Result (Unit {0}) ReduceFault). is_over r) c.in-Ok.is))
    (subst (IsLeftOn g.S.Shelf.device [] c.args.driver c.args.posts c.args.bytes) (sym c.answered.ensures.stage) c.go_on.ensures)

pub returns-in-Err-clause-stage : goal.returns-in-Err-clause-stage
returns-in-Err-clause-stage g c =
    subst (λ (b : Bool). IsLeftAs g.S.Shelf.device b [] c.args.driver c.args.posts c.args.bytes c.after_reduce_fault.result.stage) (sym (ap (λ (r : Result (Unit {0}) ReduceFault). is_over r) c.in-Err.is))
    c.after_reduce_fault.ensures.stage

use Rattle.std.proofs.Common.{[], Bool, sym, subst}
use Rattle.lvm_volume_lines.specs.Commands.{IsLeftAs, IsLeftOff, IsLeftOn}
use Rattle.lvm_member_lines.proofs.reducing.after_reduce_fault.Goals as goal

pub close_after-requires-clause-dark : goal.close_after-requires-clause-dark
close_after-requires-clause-dark g c = λ dark. c.requires.dark (c.in-Some.ensures.dark.0 dark)

pub close_after-requires-clause-lit : goal.close_after-requires-clause-lit
close_after-requires-clause-lit g c = λ other. c.requires.lit c.in-Some.ensures.ends (λ dark. other (c.in-Some.ensures.dark.1 dark))

pub go_on-requires-clause-rows : goal.go_on-requires-clause-rows
go_on-requires-clause-rows g c = c.requires.rows c.in-None.ensures.goes

pub go_on-requires-clause-may : goal.go_on-requires-clause-may
go_on-requires-clause-may g c = c.requires.may c.in-None.ensures.goes

pub returns-in-Some-clause-stage : goal.returns-in-Some-clause-stage
returns-in-Some-clause-stage g c =
    subst (λ (b : Bool). IsLeftAs g.S.Shelf.device b [] c.args.driver c.args.posts c.args.bytes c.refused.result.stage) (sym c.in-Some.ensures.ends)
    (subst (IsLeftOff g.S.Shelf.device c.args.driver c.args.posts c.args.bytes) (sym c.refused.ensures.stage) c.close_after.ensures)

pub returns-in-None-clause-stage : goal.returns-in-None-clause-stage
returns-in-None-clause-stage g c =
    subst (λ (b : Bool). IsLeftAs g.S.Shelf.device b [] c.args.driver c.args.posts c.args.bytes c.refused-in-None.result.stage) (sym c.in-None.ensures.goes)
    (subst (IsLeftOn g.S.Shelf.device [] c.args.driver c.args.posts c.args.bytes) (sym c.refused-in-None.ensures.stage) c.go_on.ensures)

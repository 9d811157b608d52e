use Rattle.std.proofs.Common.{◌≡◌, ◌∙◌, [], Bool, true, false, sym, subst}
use Rattle.lvm_volume_lines.specs.Commands.{IsLeftAs, IsLeftOff, IsLeftOn}
use Rattle.lvm_volume_lines.proofs.volumes.after_fault.Goals as goal
use Rattle.lvm_range_lines.specs.passed.VolumePlan.{ends_session}

pub close_after-requires-clause-dark : goal.close_after-requires-clause-dark
close_after-requires-clause-dark g c = c.requires.dark

pub close_after-requires-clause-lit : goal.close_after-requires-clause-lit
close_after-requires-clause-lit g c = c.requires.lit (sym c.ends_session.ensures ∙ c.if-ends_session.true)

pub returns-then-ends_session-clause-stage : goal.returns-then-ends_session-clause-stage
returns-then-ends_session-clause-stage g c =
    let ends : ends_session c.args.why ≡ true = sym c.ends_session.ensures ∙ c.if-ends_session.true in
    subst (λ (b : Bool). IsLeftAs g.S.Shelf.device b [] c.args.driver c.args.posts c.args.bytes c.refused.result.stage) (sym ends)
    (subst (IsLeftOff g.S.Shelf.device c.args.driver c.args.posts c.args.bytes) (sym c.refused.ensures.stage) c.close_after.ensures)

pub go_on-requires-clause-rows : goal.go_on-requires-clause-rows
go_on-requires-clause-rows g c = c.requires.rows (sym c.ends_session.ensures ∙ c.if-ends_session.false)

pub go_on-requires-clause-may : goal.go_on-requires-clause-may
go_on-requires-clause-may g c = c.requires.may (sym c.ends_session.ensures ∙ c.if-ends_session.false)

pub returns-else-ends_session-clause-stage : goal.returns-else-ends_session-clause-stage
returns-else-ends_session-clause-stage g c =
    let goes : ends_session c.args.why ≡ false = sym c.ends_session.ensures ∙ c.if-ends_session.false in
    subst (λ (b : Bool). IsLeftAs g.S.Shelf.device b [] c.args.driver c.args.posts c.args.bytes c.refused-else-ends_session.result.stage) (sym goes)
    (subst (IsLeftOn g.S.Shelf.device [] c.args.driver c.args.posts c.args.bytes) (sym c.refused-else-ends_session.ensures.stage) c.go_on.ensures)

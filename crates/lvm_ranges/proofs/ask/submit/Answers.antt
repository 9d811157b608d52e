use Rattle.std.proofs.Common.{◌≡◌, sym, ◌∙◌}
use Rattle.std.specs.Prelude.{option_copied}
use Rattle.lvm_session.specs.declared.open.Power.TheVariants as power
use Rattle.lvm_ranges.proofs.PiecesLemmas.{never_refused, taken_so}
use Rattle.lvm_ranges.proofs.ask.submit.Goals as goal

pub submit-requires-clause-unstuck : goal.submit-requires-clause-unstuck
submit-requires-clause-unstuck g c = λ stuck. let both : power.On ≡ power.Stuck = sym c.requires.on ∙ stuck in absurd (cc both)

pub unreachable-requires : goal.unreachable-requires
unreachable-requires g c = never_refused c.args.driver.now.1 c.submit.new.self.1 c.args.ask (option_copied c.args.bytes) c.in-Err.field-0 c.requires.may c.in-Err.ensures.gives

pub returns-clause-id : goal.returns-clause-id
returns-clause-id g c = (taken_so c.args.driver.now.1 c.submit.new.self.1 c.args.ask (option_copied c.args.bytes) c.in-Ok.id c.requires.may c.in-Ok.ensures.gives).0

pub returns-clause-is : goal.returns-clause-is
returns-clause-is g c = (taken_so c.args.driver.now.1 c.submit.new.self.1 c.args.ask (option_copied c.args.bytes) c.in-Ok.id c.requires.may c.in-Ok.ensures.gives).1

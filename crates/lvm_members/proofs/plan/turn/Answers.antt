use Rattle.lvm_members.proofs.plan.turn.Goals as goal

pub returns-in-Ok-clause-planned : goal.returns-in-Ok-clause-planned
returns-in-Ok-clause-planned g c = (
  c.requires.group,
  c.requires.may,
  c.in-Ok.ensures.next,
  c.in-Ok.ensures.ready,
)

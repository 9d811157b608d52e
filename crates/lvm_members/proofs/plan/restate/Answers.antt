use Rattle.std.proofs.Common.{ap}
use Rattle.lvm_num.specs.declared.descriptor.Descriptor.{Descriptor}
use Rattle.lvm_members.proofs.plan.restate.Goals as goal

pub prepare-requires-clause-id : goal.prepare-requires-clause-id
prepare-requires-clause-id g c = ap (λ (d : Descriptor). d.id) c.requires.same

pub returns-in-Ok-clause-planned : goal.returns-in-Ok-clause-planned
returns-in-Ok-clause-planned g c = (c.requires.group, c.requires.may, c.in-Ok.ensures, c.requires.same)

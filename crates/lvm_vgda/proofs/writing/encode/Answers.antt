use Rattle.std.proofs.Common.{arith}
use Rattle.lvm_num.proofs.DescriptorLemmas.Bounds.{few_members, few_volumes}
use Rattle.lvm_vgda.proofs.writing.encode.Goals as goal

pub head-requires : goal.head-requires
head-requires c = record { members = omega (arith, c.requires.head.members, few_members c.args.d.now.big); volumes = omega (arith, c.requires.head.volumes, few_volumes c.args.d.now.big) }

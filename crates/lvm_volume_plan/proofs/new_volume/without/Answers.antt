use Rattle.std.proofs.Common.{sym, subst}
use Rattle.lvm_num.specs.Descriptor.{IsValid}
use Rattle.lvm_volume_plan.proofs.NewVolumeLemmas.OldDescriptor.{valid_without}
use Rattle.lvm_volume_plan.proofs.new_volume.without.Goals as goal

pub prepare-requires-clause-valid : goal.prepare-requires-clause-valid
prepare-requires-clause-valid g c = subst IsValid (sym c.in_ok-without_volume.ensures) (valid_without c.descriptor.result.now c.args.lv c.descriptor.ensures.valid)

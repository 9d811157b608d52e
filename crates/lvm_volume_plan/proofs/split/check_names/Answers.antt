use Rattle.std.proofs.Common.{arith}
use Rattle.lvm_core.specs.Looking.{HasNoVolumeNamed}
use Rattle.lvm_volume_plan.proofs.NewVolumeLemmas.Refusals.{if_none}
use Rattle.lvm_volume_plan.proofs.split.check_names.Goals as goal

pub returns-clause-may : goal.returns-clause-may
returns-clause-may g c = record {
  named = record { found = c.requires.found; new = if_none c.volume.result (HasNoVolumeNamed c.args.driver.now.1.descriptor.lvs c.args.name) c.volume.ensures.none c.if-is_some.ensures };
  are = record { some = omega (arith, c.if-copies-lt1.false); fewer = omega (arith, c.if-copies-row.false) };
}

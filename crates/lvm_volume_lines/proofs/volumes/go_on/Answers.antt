use Rattle.std.proofs.Common.{refl}
use Rattle.lvm_volume_lines.proofs.volumes.go_on.Goals as goal

pub returns : goal.returns
returns g c = record { by = c.hold-holder.result; held = c.hold-holder.ensures; is = refl }

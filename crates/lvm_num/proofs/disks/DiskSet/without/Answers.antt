use Rattle.std.proofs.Common.{◌&&◌, not, ◌==◌, ap, ◌∙◌}
use Rattle.lvm_num.specs.Disks.{has}
use Rattle.lvm_num.proofs.DisksLemmas.{has-without}
use Rattle.lvm_num.proofs.disks.DiskSet.without.Goals as goal

pub returns : goal.returns
returns c = λ other. has-without c.self.inside.0 c.args.disk c.self.invariant c.requires other ∙ ap (λ set. has set other && not (other == c.args.disk)) c.self.view_is

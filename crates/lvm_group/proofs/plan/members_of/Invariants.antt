use Rattle.std.proofs.Common.{◌≡◌, take}
use Rattle.std.specs.Prelude.{map}
use Rattle.lvm_group.specs.NewGroup.{member_for}
use Rattle.lvm_group.proofs.plan.members_of.Given as goal

abbrev pub invariant-loop-disk : goal.invariant-loop-disk
invariant-loop-disk g l = l.rows.items ≡ map (member_for (g.S.Shelf.device l.shelf).sizes l.mib) (take l.disk-index l.disks)

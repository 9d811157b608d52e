use Rattle.std.proofs.Common.{◌≡◌, ◌-◌, []}
use Rattle.lvm_num.specs.DescriptorBytes.{volumes_at}
use Rattle.lvm_fields.specs.Reading.{rest_of}
use Rattle.lvm_vgda.proofs.rows.volumes_at.Given as goal

abbrev pub invariant-loop : goal.invariant-loop
invariant-loop l = volumes_at l.big (l.count - l.counter) l.rows.items (rest_of l.rest) ≡ volumes_at l.big l.count [] (rest_of l.fn.unread)

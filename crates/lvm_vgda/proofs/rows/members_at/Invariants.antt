use Rattle.std.proofs.Common.{◌≡◌, ◌-◌, []}
use Rattle.lvm_num.specs.DescriptorBytes.{members_at}
use Rattle.lvm_fields.specs.Reading.{rest_of}
use Rattle.lvm_vgda.proofs.rows.members_at.Given as goal

abbrev pub invariant-loop : goal.invariant-loop
invariant-loop l = members_at (l.count - l.counter) l.rows.items (rest_of l.rest) ≡ members_at l.count [] (rest_of l.fn.unread)

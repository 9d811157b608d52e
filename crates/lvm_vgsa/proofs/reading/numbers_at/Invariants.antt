use Rattle.std.proofs.Common.{◌≡◌, ◌-◌, [], length}
use Rattle.lvm_num.specs.StatusBytes.{numbers_at}
use Rattle.lvm_fields.specs.Reading.{rest_of}
use Rattle.lvm_vgsa.proofs.reading.numbers_at.Given as goal

abbrev pub invariant-loop : goal.invariant-loop
invariant-loop l =
    (length l.numbers ≡ l.counter)
    × (numbers_at (l.count - l.counter) l.numbers (rest_of l.rest) ≡ numbers_at l.count [] (rest_of l.unread))

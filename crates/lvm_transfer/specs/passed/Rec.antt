-- Passed on from `lvm_rec`.
pub use Rattle.lvm_kept.specs.passed.Rec.{Flips, next_slot, second_slots, IsHome, home_of, stamped_found, under, noted_of, BothBefore, MayWrite, held, newest_on, read_under, slot_for, slot_of, Homes, Found, Latest}

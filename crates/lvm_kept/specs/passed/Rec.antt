-- Passed on from `lvm_rec`.
pub use Rattle.lvm_rec.specs.Homes.{Flips, next_slot, second_slots}
pub use Rattle.lvm_rec.specs.Latest.{IsHome, home_of, stamped_found, under}
pub use Rattle.lvm_rec.specs.Note.{noted_of}
pub use Rattle.lvm_rec.specs.Slots.{BothBefore, MayWrite, held, newest_on, read_under, slot_for, slot_of, slot_to_write}
pub use Rattle.lvm_rec.specs.declared.homes.Homes.{Homes}
pub use Rattle.lvm_rec.specs.declared.latest.Found.{Found}
pub use Rattle.lvm_rec.specs.declared.latest.Latest.{Latest}

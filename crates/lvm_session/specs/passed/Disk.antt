-- Passed on from `lvm_disk`.
pub use Rattle.lvm_kept.specs.passed.Disk.{Arrange, ArrangeGives, Device, Flight, GoesDark, IsNewTicket, Media, Orders, Range, Starts, with_order}

-- Passed on from `lvm_disk`.
pub use Rattle.lvm_disk.specs.Counts.{Counts, Rose}
pub use Rattle.lvm_disk.specs.Device.{AreSectors, Device, Flight, HasSectors, Image, IsCrashImage, IsInFlight, IsWholeImage, MayLeave, Media, Orders, Range, SameDisks, image_of, written}
pub use Rattle.lvm_disk.specs.Images.{DiffersBy, LeavesNoMore}
pub use Rattle.lvm_disk.specs.Paths.{DeviceStep, Here, Path, Then}
pub use Rattle.lvm_disk.specs.Steps.{ArrangeGives, BothTold, EndsDone, EndsFailed, GoesDark, IsNewTicket, IsRange, Puts, PutsSome, ReadsRange, Starts, Waits, with_order}
pub use Rattle.lvm_disk.specs.declared.shelf.Arrange.{Arrange}

-- Passed on from `lvm_disk`.
pub use Rattle.lvm_disk.specs.Counts.{Rose}
pub use Rattle.lvm_disk.specs.Device.{Device, Image, IsReady, IsWholeImage, Media, image_of}
pub use Rattle.lvm_disk.specs.Paths.{DeviceStep, Here, Path}

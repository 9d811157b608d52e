-- Disks of zeros.
use Rattle.std.specs.Prelude.{◌≡◌, [], Some}
use Rattle.lvm_disk.specs.Device.{Media, Device, image_of}
use Rattle.lvm_kept.specs.Changes.{IsBlank}

-- it is told what stands on the disks of a still shelf, and these are all zeros
pub record IsToldBlank (device : Device) : Type 0 where
  pub media : Media
  pub told : device.media ≡ Some media
  pub still : device.flights ≡ []
  pub blank : IsBlank (image_of device.sizes media)

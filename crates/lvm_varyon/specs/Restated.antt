-- What holds between two moments of disks that are told.
use Rattle.std.specs.Prelude.{◌≡◌, ◌++◌, List, Some}
use Rattle.lvm_disk.specs.Device.{Media, Range, Device, image_of}
use Rattle.lvm_kept.specs.Contents.{Contents, contents_of}

-- this holds of what the disks show at two moments and of the ranges that were written between them, where the media and the ranges are told
abbrev pub WhereTold : Device → Device → (Contents → List Range → Contents → Type 0) → Type 0
WhereTold old new P =
    (was is : Media) (ranges more : List Range) → old.media ≡ Some was → new.media ≡ Some is → old.wrote ≡ Some ranges → new.wrote ≡ Some (ranges ++ more)
    → P (contents_of (image_of old.sizes was)) more (contents_of (image_of new.sizes is))

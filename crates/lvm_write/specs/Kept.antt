-- What was kept with a history is kept at each moment of the writes of a beginning, whatever became of them.
use Rattle.std.specs.Prelude.{Bool, IfSome}
use Rattle.lvm_num.specs.declared.descriptor.Descriptor.{Descriptor}
use Rattle.lvm_num.specs.declared.status.Status.{Status}
use Rattle.lvm_num.specs.Disks.{Disks}
use Rattle.lvm_num.specs.Record.{Stamped}
use Rattle.lvm_disk.specs.Device.{Device, image_of}
use Rattle.lvm_disk.specs.Paths.{DeviceStep, Path}
use Rattle.lvm_steps.specs.Moments.{StaysKept}
use Rattle.lvm_write.specs.Beginning.{Beginning, MayBeginNew, MayBeginAgain}

-- a new group's, where what stands on the media lets them be made
abbrev pub NewStaysKept : Beginning → Device → Device → Type 0
NewStaysKept b old new = (group : Descriptor) (status : Status) → IfSome old.media (λ media. MayBeginNew b group status (image_of old.sizes media)) → Path DeviceStep (StaysKept old) old new

-- those of one that was there
abbrev pub AgainStaysKept : Beginning → Bool → Device → Device → Type 0
AgainStaysKept b forget old new =
    (group : Descriptor) (status : Status) (disks : Disks) (was : Stamped Status) → IfSome old.media (λ media. MayBeginAgain b forget group status disks was (image_of old.sizes media))
    → Path DeviceStep (StaysKept old) old new

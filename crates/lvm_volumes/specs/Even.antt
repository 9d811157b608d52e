-- Group commands keep usable copies even, by what they may write.
use Rattle.std.specs.Prelude.{◌≡◌, ℕ, ◌≤◌, List, Option, Some, IsTrue}
use Rattle.lvm_num.specs.declared.place.Pp.{Pp}
use Rattle.lvm_num.specs.declared.descriptor.Mode.TheVariants.{Off}
use Rattle.lvm_num.specs.declared.descriptor.LvRow.{LvRow}
use Rattle.lvm_num.specs.declared.descriptor.Descriptor.{Descriptor}
use Rattle.lvm_num.specs.declared.status.Status.{Status}
use Rattle.lvm_num.specs.Disks.{Disks}
use Rattle.lvm_num.specs.Record.{Stamped}
use Rattle.lvm_disk.specs.Device.{Device, Media, image_of}
use Rattle.lvm_kept.specs.Contents.{Contents, contents_of}
use Rattle.lvm_kept.specs.Group.{IsOneOf}
use Rattle.lvm_commit.specs.LawsOfData.{IsFree}
use Rattle.lvm_write.specs.Written.{KeepsShelf}
use Rattle.lvm_session.specs.State.{State, is_there}
use Rattle.lvm_core.specs.Leaves.{NoVolume}
use Rattle.lvm_volumes.specs.passed.Core.{NoPartition, IsOfCommand, KeepsStatus}
use Rattle.lvm_volumes.specs.passed.VolumePlan.{row_for, with_volume, without_volume, NewVolume}
use Rattle.lvm_volumes.specs.Volumes.{AreZeroed, IsWith, IsChosen}
use Rattle.lvm_even.specs.Even.{IsEven}

-- a status that is wanted before and one that is after
pub record AreWanted (old new : State) (stood stands : Stamped Status) : Type 0 where
  pub before : stood.value ≡ old.core.status.wanted
  pub after : stands.value ≡ new.core.status.wanted
  pub fewer : (d : ℕ) → IsTrue (is_there new.core d) → IsTrue (is_there old.core d)

-- Of the volumes that were there, whatever the answer of mklv,
abbrev pub MklvKeepsEven : Type 0
MklvKeepsEven = (v : NewVolume) (old new : State) (was is : Media) (stood stands : Stamped Status)
    → KeepsShelf (is_there old.core) (IsOfCommand (IsWith v old.core) (IsChosen v old.core) old new) old.device new.device → KeepsStatus (IsWith v old.core) NoPartition (IsChosen v old.core) NoVolume old new
    → ((pp : Pp) → IsChosen v old.core pp → IsFree old.core.descriptor pp)
    → old.device.media ≡ Some was → new.device.media ≡ Some is → AreWanted old new stood stands
    → IsEven (contents_of (image_of old.device.sizes was)) old.core.descriptor (Some stood) (is_there old.core)
    → IsEven (contents_of (image_of new.device.sizes is)) old.core.descriptor (Some stands) (is_there new.core)

-- and of rmlv.
abbrev pub RmlvKeepsEven : Type 0
RmlvKeepsEven = (lv : ℕ) (old new : State) (was is : Media) (stood stands : Stamped Status)
    → KeepsShelf (is_there old.core) (IsOfCommand (λ next. next ≡ without_volume old.core.descriptor lv) NoPartition old new) old.device new.device → KeepsStatus (λ next. next ≡ without_volume old.core.descriptor lv) NoPartition NoPartition (λ n. n ≡ lv) old new
    → old.device.media ≡ Some was → new.device.media ≡ Some is → AreWanted old new stood stands
    → IsEven (contents_of (image_of old.device.sizes was)) old.core.descriptor (Some stood) (is_there old.core)
    → IsEven (contents_of (image_of new.device.sizes is)) old.core.descriptor (Some stands) (is_there new.core)

-- ---- where all modes are off

-- A group whose volumes are all in mode off is even, as a new one is, which has none;
abbrev pub OffIsEven : Type 0
OffIsEven = (c : Contents) (group : Descriptor) (status : Option (Stamped Status)) (there : Disks) → ((row : LvRow) → IsOneOf group.lvs row → row.mode ≡ Off) → IsEven c group status there

-- it stays so with one volume more, of which all partitions are zeros,
abbrev pub ZeroedVolumeIsEven : Type 0
ZeroedVolumeIsEven = (device : Device) (media : Media) (group : Descriptor) (status : Option (Stamped Status)) (there : Disks) (v : NewVolume) (lv : ℕ) (map : List Pp)
    → 1 ≤ group.mib → device.media ≡ Some media → AreZeroed group.mib map device → IsEven (contents_of (image_of device.sizes media)) group status there
    → IsEven (contents_of (image_of device.sizes media)) (with_volume group (row_for v lv map)) status there

-- and with one of any mode less.
abbrev pub FewerAreEven : Type 0
FewerAreEven = (c : Contents) (group : Descriptor) (status : Option (Stamped Status)) (there : Disks) (lv : ℕ) → IsEven c group status there → IsEven c (without_volume group lv) status there

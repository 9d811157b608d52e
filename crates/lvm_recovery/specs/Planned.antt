-- The copies that make a group's usable copies equal.
use Rattle.std.specs.Prelude.{◌≡◌, ℕ, ◌*◌, List, ◌∷◌, Option, Some, IsTrue}
use Rattle.lvm_num.specs.declared.place.Pp.{Pp}
use Rattle.lvm_num.specs.declared.descriptor.LvRow.{LvRow}
use Rattle.lvm_num.specs.declared.descriptor.Descriptor.{Descriptor}
use Rattle.lvm_num.specs.declared.status.Status.{Status}
use Rattle.lvm_num.specs.Buffer.{Sector}
use Rattle.lvm_num.specs.Disks.{Disks}
use Rattle.lvm_num.specs.Descriptor.{IsValid}
use Rattle.lvm_num.specs.Record.{Stamped}
use Rattle.lvm_disk.specs.Device.{Media, Device, image_of}
use Rattle.lvm_kept.specs.Contents.{Contents, contents_of}
use Rattle.lvm_kept.specs.Group.{fresh_on, is_named, IsBlockOf, IsOneOf}
use Rattle.lvm_kept.specs.Plans.{ChangesBy}
use Rattle.lvm_map.specs.Places.{place_on}
use Rattle.lvm_recover.specs.Recopied.{IsToEqual, IsFromFirst, AreEqualled}
use Rattle.lvm_recovery.specs.declared.copying.Recopy.{Recopy}
use Rattle.lvm_recovery.specs.Copying.{IsOfCopies, IsCopied, AreApart}

-- a member that is there names the track group of the volume
abbrev pub IsNamedByOne : Contents → Disks → ℕ → ℕ → Type 0
IsNamedByOne c there lv g = (d : ℕ) × IsTrue (there d) × IsTrue (is_named c d lv g)

-- A track group of a volume that is to be made equal, from the first usable copy of its logical partition to a further one.
pub record IsPlannedCopy (c : Contents) (group : Descriptor) (status : Option (Stamped Status)) (there : Disks) (one : Recopy) : Type 0 where
  pub row : LvRow
  pub lp : ℕ
  pub g : ℕ
  pub volume : IsOneOf group.lvs row
  pub inside : IsBlockOf group.mib row lp (g * 256)
  pub made : IsToEqual c status there row.mode row.number (g * 256)
  pub first : Pp
  pub others : List Pp
  pub usable : fresh_on there status row lp ≡ first ∷ others
  pub copy : Pp
  pub further : IsOneOf others copy
  pub from : one.from ≡ place_on group.mib first (g * 256)
  pub into : one.into ≡ place_on group.mib copy (g * 256)

-- exactly those are planned
pub record ArePlanned (c : Contents) (group : Descriptor) (status : Option (Stamped Status)) (there : Disks) (copies : List Recopy) : Type 0 where
  pub each : (one : Recopy) → IsOneOf copies one → IsPlannedCopy c group status there one
  pub all : (one : Recopy) → IsPlannedCopy c group status there one → IsOneOf copies one

-- ---- laws

-- Planned copies are apart,
abbrev pub PlannedAreApart : Type 0
PlannedAreApart = (c : Contents) (group : Descriptor) (status : Option (Stamped Status)) (there : Disks) (copies : List Recopy)
    → IsValid group → ((one : Recopy) → IsOneOf copies one → IsPlannedCopy c group status there one) → AreApart copies

-- what they bring is from the first copies,
abbrev pub PlannedAreFromFirst : Type 0
PlannedAreFromFirst = (group : Descriptor) (status : Option (Stamped Status)) (there : Disks) (copies : List Recopy) (old : Device) (media : Media)
    → IsValid group → old.media ≡ Some media → ((one : Recopy) → IsOneOf copies one → IsPlannedCopy (contents_of (image_of old.sizes media)) group status there one)
    → (d s : ℕ) (value : Sector) → IsOfCopies old copies d s value → IsFromFirst (contents_of (image_of old.sizes media)) group status there d s value

-- and once all are made each block is that is to be made equal.
abbrev pub PlannedAreEqualled : Type 0
PlannedAreEqualled = (group : Descriptor) (status : Option (Stamped Status)) (there : Disks) (copies : List Recopy) (old new : Device) (was is : Media)
    → IsValid group → old.media ≡ Some was → new.media ≡ Some is → ArePlanned (contents_of (image_of old.sizes was)) group status there copies
    → ChangesBy (IsOfCopies old copies) (image_of old.sizes was) (image_of new.sizes is) → ((one : Recopy) → IsOneOf copies one → IsCopied old new one)
    → AreEqualled (contents_of (image_of old.sizes was)) group status there (contents_of (image_of new.sizes is))

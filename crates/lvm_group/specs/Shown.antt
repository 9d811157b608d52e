-- What the disks show that stands against a new group.
use Rattle.std.specs.Prelude.{◌≡◌, ◌⊎◌, ℕ, ◌<◌, ◌≤◌, ◌+◌, Bool, true, [], Some, IfSome, length}
use Rattle.lvm_num.specs.declared.descriptor.Descriptor.{Descriptor}
use Rattle.lvm_num.specs.declared.status.Status.{Status}
use Rattle.lvm_num.specs.Record.{Stamped, last_moment}
use Rattle.lvm_disk.specs.Counts.{Rose}
use Rattle.lvm_disk.specs.Device.{Device, image_of}
use Rattle.lvm_kept.specs.Contents.{Contents, contents_of, has_records}
use Rattle.lvm_rec.specs.declared.homes.Homes.{Homes}
use Rattle.lvm_write.specs.Homes.{SparesNewest}
use Rattle.lvm_group.specs.NewGroup.{NewGroup, MayMakeGroup}
use Rattle.lvm_vol.specs.Log.{Log, spare_entries}

-- what the disks show, where that is told
abbrev pub IfShown : Device → (Contents → Type 0) → Type 0
IfShown device P = IfSome device.media (λ media. P (contents_of (image_of device.sizes media)))

-- ---- a group

-- a disk is in a group; with force, in one that has a volume
pub record HasGroup (c : Contents) (force : Bool) : Type 0 where
  pub disk : ℕ
  pub newest : Stamped Descriptor
  pub on : c.descriptor disk ≡ Some newest
  pub with_force : force ≡ true → newest.value.lvs ≡ [] → ⊥

-- ---- a moment that isn't later

-- a disk shows this moment: as the epoch of a descriptor, as the id of a group, or as the epoch of a status
abbrev pub ShowsMoment : Contents → ℕ → Type 0
ShowsMoment c moment =
    ((d : ℕ) × (r : Stamped Descriptor) × (c.descriptor d ≡ Some r) × (r.stamp.epoch ≡ moment))
    ⊎ ((d : ℕ) × (r : Stamped Descriptor) × (c.descriptor d ≡ Some r) × (r.value.id ≡ moment))
    ⊎ ((d : ℕ) × (r : Stamped Status) × (c.status d ≡ Some r) × (r.stamp.epoch ≡ moment))

-- each moment that the disks show is before this one
abbrev pub ShowsEarlier : Contents → ℕ → Type 0
ShowsEarlier c moment = (shown : ℕ) → ShowsMoment c shown → shown < moment

-- no moment that the disks show is later than this one, which they show
abbrev pub IsLastShown : Contents → ℕ → Type 0
IsLastShown c seen = ShowsMoment c seen × ShowsEarlier c (seen + 1)

-- The clock is back: its moment is the last that there is, or isn't later than the last one that the disks show.
abbrev pub IsClockBehindDisks : Device → ℕ → ℕ → Type 0
IsClockBehindDisks device moment seen = ((moment ≡ last_moment) × (seen ≡ last_moment)) ⊎ ((moment < last_moment) × (moment ≤ seen) × IfShown device (λ c. IsLastShown c seen))

-- ---- a disk that can't be read

-- the lowest disk of which a read of the records failed
pub record IsUnread (old new : Device) (disk : ℕ) : Type 0 where
  pub there : disk < length old.sizes
  pub rose : Rose (old.counts.misses disk) (new.counts.misses disk)
  pub lowest : (d : ℕ) → d < disk → new.counts.misses d ≡ old.counts.misses d

-- ---- in their order

-- no read of the records of a disk failed
abbrev pub AllRead : Device → Device → Type 0
AllRead old new = (d : ℕ) → new.counts.misses d ≡ old.counts.misses d

-- so it is, and none is in a group that may not give way
pub record AreFree (w : NewGroup) (log : Log) (old new : Device) : Type 0 where
  pub may : MayMakeGroup old.sizes (spare_entries log) w.disks w.mib
  pub read : AllRead old new
  pub free : IfShown old (λ c. HasGroup c w.force → ⊥)

-- no refusal holds up to the first write
pub record IsClear (w : NewGroup) (log : Log) (old new : Device) : Type 0 where
  pub free : AreFree w log old new
  pub moment : w.moment < last_moment
  pub later : IfShown old (λ c. ShowsEarlier c w.moment)

-- the next record of each kind spares the newest on each disk with records, where that is told
abbrev pub SparesTold : Homes → Device → Type 0
SparesTold homes device = IfSome device.media (λ media. (d : ℕ) → has_records (image_of device.sizes media) d ≡ true → SparesNewest homes (image_of device.sizes media) d)

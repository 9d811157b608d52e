-- What reading the shelf finds: which disks answer, and what they show.
use Rattle.std.specs.Prelude.{◌≡◌, ℕ, if◌then◌else◌, [], length, None, slice_index_or, IsTrue, IsFalse, IfSome}
use Rattle.lvm_num.specs.Disks.{Disks}
use Rattle.lvm_disk.specs.Counts.{Rose}
use Rattle.lvm_disk.specs.Device.{Device, image_of}
use Rattle.lvm_kept.specs.Contents.{Contents, contents_of}
use Rattle.lvm_write.specs.Written.{HasRoom}

-- The disks that answered between two moments of the shelf: those with room for records of which no read of records failed.
pub record HaveAnswered (old new : Device) (disks : Disks) : Type 0 where
  pub room : (d : ℕ) → IsTrue (disks d) → HasRoom old d
  pub well : (d : ℕ) → IsTrue (disks d) → new.counts.misses d ≡ old.counts.misses d
  pub badly : (d : ℕ) → HasRoom old d → IsFalse (disks d) → Rose (old.counts.misses d) (new.counts.misses d)

-- what these disks show in their records, and how large all disks are
abbrev pub records_on : Disks → Contents → Contents
records_on disks c = record {
  disks = c.disks;
  size = c.size;
  descriptor = λ d. if disks d then c.descriptor d else None;
  status = λ d. if disks d then c.status d else None;
  note = λ d. if disks d then c.note d else None;
  block = λ d s. [];
}

-- The disks that answered, and what was found on them: where the media is told, what their records show.
pub record Found (old new : Device) : Type 0 where
  pub answered : Disks
  pub have : HaveAnswered old new answered
  pub shown : Contents
  pub disks : shown.disks ≡ length old.sizes
  pub size : shown.size ≡ (λ d. slice_index_or old.sizes d 0)
  pub told : IfSome old.media (λ media. shown ≡ records_on answered (contents_of (image_of old.sizes media)))

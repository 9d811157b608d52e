-- A descriptor in which one volume more or less is named, as it is being made or removed.
use Rattle.std.specs.Prelude.{◌≡◌, ℕ, ◌<◌, ◌++◌, ◌∷◌, true, List, [], Some, IsTrue, is_some}
use Rattle.lvm_num.specs.declared.record.Kind.TheVariants as kind
use Rattle.lvm_num.specs.declared.descriptor.LvRow.{LvRow}
use Rattle.lvm_num.specs.declared.descriptor.Descriptor.{Descriptor}
use Rattle.lvm_num.specs.Disks.{Disks}
use Rattle.lvm_num.specs.Descriptor.{volume_of}
use Rattle.lvm_num.specs.DescriptorBytes.{descriptor_of}
use Rattle.lvm_num.specs.Votes.{all_disks}
use Rattle.lvm_num.specs.Record.{Stamped, stamp_lt}
use Rattle.lvm_vol.specs.declared.entry.Vol.TheVariants.{Lv}
use Rattle.lvm_vol.specs.Facts.{Fact, Cut}
use Rattle.lvm_vol.specs.May.{known}
use Rattle.lvm_vol.specs.Standing.{volumes_in}
use Rattle.lvm_kept.specs.passed.Disk.{Device, image_of, DeviceStep, Path}
use Rattle.lvm_kept.specs.Contents.{Contents, contents_of}
use Rattle.lvm_kept.specs.Group.{IsFound, members_in, status_by, ReadsGroup, fresh_on, IsBlockOf, IsOneOf, IsSome}
use Rattle.lvm_kept.specs.Committed.{IsWithinDisks}
use Rattle.lvm_kept.specs.Kept.{StandsAs, IsBlockKept, Kept}
use Rattle.lvm_kept.specs.Torn.{RecordWrite, MayWriteAll, written as as_read, DescriptorsChange, Alone}
use Rattle.lvm_steps.specs.Moments.{ImagesKept}
use Rattle.lvm_steps.specs.Making.{IsWritten}
use Rattle.lvm_steps.specs.VaryingOn.{AreShowing}

-- ---- which descriptors differ by one volume

-- The two differ in their volumes alone, and of these in the one of this number alone.
pub record DiffersInVolume (lv : ℕ) (group next : Descriptor) : Type 0 where
  pub alone : next ≡ record group { lvs = next.lvs }
  pub rows : (row : LvRow) → IsOneOf next.lvs row → (row.number ≡ lv → ⊥) → IsOneOf group.lvs row
  pub volumes : (number : ℕ) → (number ≡ lv → ⊥) → volume_of next number ≡ volume_of group number

-- ---- what the disks must hold of it

-- Whatever status a quorum of the group finds, the volume's blocks on its fresh copies are kept by it, and each logical partition has one.
pub record VolumeIsServed (c : Contents) (facts : List Fact) (group : Descriptor) (row : LvRow) : Type 0 where
  pub status : (b : Disks) (k : Descriptor) → ReadsGroup c b group.id k → IsTrue (is_some (status_by c b group.id k))
  pub blocks : (b : Disks) (k : Descriptor) → ReadsGroup c b group.id k → (lp n : ℕ) → IsBlockOf group.mib row lp n
      → IsBlockKept c group.mib (status_by c b group.id k) row (fresh_on (members_in c all_disks group.id group) (status_by c b group.id k) row lp) (known (facts ++ Cut ∷ []) (Lv row.number) n) n
  pub some : (b : Disks) (k : Descriptor) → ReadsGroup c b group.id k → (lp : ℕ) → lp < row.lps → IsSome (fresh_on (members_in c all_disks group.id group) (status_by c b group.id k) row lp)

-- What lets the next descriptor of a session be written to disks that show the group.
pub record MayCommit (c : Contents) (facts : List Fact) (group : Descriptor) (lv : ℕ) (targets : Disks) (next : Stamped Descriptor) : Type 0 where
  -- the session's descriptor, which the disks that it was varied on with find
  pub found : IsFound c group.id group
  pub differs : DiffersInVolume lv group next.value
  -- by the history it may be named, or not, as the next descriptor says: as where it is being made or removed, or where it stays with its shape
  pub stands : StandsAs group.mib (volumes_in facts lv).standing (volumes_in facts lv).shape (volume_of next.value lv)
  -- where it is named, its blocks are zeros, and the status that was committed calls none of its partitions stale
  pub served : (row : LvRow) → IsOneOf next.value.lvs row → row.number ≡ lv → VolumeIsServed c facts group row
  pub showing : AreShowing c group.id targets
  -- by the stamps of the session, which rise
  pub later : (d : ℕ) (r : Stamped Descriptor) → c.descriptor d ≡ Some r → r.value.id ≡ group.id → stamp_lt r.stamp next.stamp ≡ true

-- Then it may be, and whatever of it has landed keeps the history.
abbrev pub CommitKeeps : Type 0
CommitKeeps = (group : Descriptor) (lv : ℕ) (targets : Disks) (next : Stamped Descriptor) (old new : Contents) (facts : List Fact)
    → IsWithinDisks old → MayCommit old facts group lv targets next → DescriptorsChange targets next old new → Kept old facts → Kept new facts

-- So it is at each moment while it is written.
abbrev pub CommitGoesOn : Type 0
CommitGoesOn = (group : Descriptor) (lv : ℕ) (w : RecordWrite) (next : Descriptor) (old new : Device) (facts : List Fact) (written : IsWritten (Alone w) old new)
    → w.kind ≡ kind.Descriptor → MayWriteAll Descriptor descriptor_of w next (image_of old.sizes written.media)
    → MayCommit (contents_of (image_of old.sizes written.media)) facts group lv w.targets (as_read w next) → ImagesKept old facts → Path DeviceStep (λ d. ImagesKept d facts) old new

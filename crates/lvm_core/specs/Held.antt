-- What stands on the disks of a session at which nothing is under way, where the media is told.
use Rattle.std.specs.Prelude.{◌≡◌, ℕ, IfSome, IsTrue}
use Rattle.lvm_disk.specs.Device.{Image, Device, image_of}
use Rattle.lvm_kept.specs.Contents.{contents_of}
use Rattle.lvm_kept.specs.Group.{is_named}
use Rattle.lvm_mwc.specs.Cache.{is_named as is_named_by}
use Rattle.lvm_commit.specs.Committed.{HoldsCommitted}
use Rattle.lvm_session.specs.State.{Core, is_there}

-- they hold what the session says is committed
abbrev pub IsHeld : Device → Core → Type 0
IsHeld device core = IfSome device.media (λ media. HoldsCommitted (image_of device.sizes media) core.descriptor core.status.committed (is_there core) core.status.stamp core.homes)

-- the note of each member that isn't missing names the track groups that the session's cache says it does
abbrev pub NotesAreHome : Core → Image → Type 0
NotesAreHome core image = (d lv group : ℕ) → IsTrue (is_there core d) → is_named (contents_of image) d lv group ≡ is_named_by core.cache d lv group

abbrev pub AreNotesHome : Device → Core → Type 0
AreNotesHome device core = IfSome device.media (λ media. NotesAreHome core (image_of device.sizes media))

-- The disks hold what the session says is committed, and their notes name what its cache does, as where a session begins.
pub record StartsHeld (device : Device) (core : Core) : Type 0 where
  pub held : IsHeld device core
  pub notes : AreNotesHome device core

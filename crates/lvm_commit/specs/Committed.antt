-- What stands on the disks of a session at which nothing is under way: they hold what the session says is committed.
use Rattle.std.specs.Prelude.{◌≡◌, ◌⊎◌, ℕ, ◌+◌, ◌<◌, ◌&&◌, not, true, Some, IsTrue, IsFalse, filter}
use Rattle.lvm_num.specs.declared.place.Pp.{Pp}
use Rattle.lvm_num.specs.declared.record.Stamp.{Stamp}
use Rattle.lvm_num.specs.declared.descriptor.Mode.TheVariants.{Passive}
use Rattle.lvm_num.specs.declared.descriptor.LvRow.{LvRow}
use Rattle.lvm_num.specs.declared.descriptor.Descriptor.{Descriptor}
use Rattle.lvm_num.specs.declared.status.Status.{Status}
use Rattle.lvm_num.specs.Disks.{Disks}
use Rattle.lvm_num.specs.Descriptor.{copies_of}
use Rattle.lvm_num.specs.Record.{Stamped, stamp_lt}
use Rattle.lvm_num.specs.Status.{calls_stale, calls_dirty}
use Rattle.lvm_num.specs.Votes.{all_disks}
use Rattle.lvm_disk.specs.Device.{Image}
use Rattle.lvm_kept.specs.Contents.{Contents, contents_of, has_records}
use Rattle.lvm_kept.specs.Group.{has_room, Finds, members_in, IsBlockOf, IsOneOf, HoldOne}
pub use Rattle.lvm_kept.specs.Group.{IsAlike}
use Rattle.lvm_rec.specs.declared.homes.Homes.{Homes}
use Rattle.lvm_write.specs.Homes.{SparesNewest}
use Rattle.lvm_steps.specs.Behind.{StampsBefore}

-- the stamp after this one in its session
abbrev pub next_stamp : Stamp → Stamp
next_stamp stamp = record stamp { seq = stamp.seq + 1 }

-- By this status the fresh copies of the volume on members that show the group hold one value at each block.
abbrev pub AreOne : Contents → Descriptor → Status → LvRow → Type 0
AreOne c group status row =
    (lp b : ℕ) → IsBlockOf group.mib row lp b → HoldOne c group.mib (filter (λ p. members_in c all_disks group.id group p.disk && not (calls_stale status p)) (copies_of row lp)) b

-- The next status has the marks of the one before on the group's copies, and calls further copies stale only where another one of the logical partition stays
-- fresh on a member that shows the group. Of its volumes in mode passive those are dirty that were, but for some whose fresh copies hold one value.
pub record MayMark (c : Contents) (group : Descriptor) (was next : Status) : Type 0 where
  pub stale : (row : LvRow) (lp : ℕ) (p : Pp) → IsOneOf group.lvs row → IsOneOf (copies_of row lp) p → IsTrue (calls_stale was p) → IsTrue (calls_stale next p)
  pub added : (row : LvRow) (lp : ℕ) (p : Pp) → IsOneOf group.lvs row → lp < row.lps → IsOneOf (copies_of row lp) p → IsTrue (calls_stale next p)
      → IsTrue (calls_stale was p) ⊎ ((q : Pp) × IsOneOf (copies_of row lp) q × IsFalse (calls_stale next q) × IsTrue (members_in c all_disks group.id group q.disk))
  pub dirty : (row : LvRow) → IsOneOf group.lvs row → row.mode ≡ Passive → IsTrue (calls_dirty was row.number) → IsTrue (calls_dirty next row.number) ⊎ AreOne c group was row

-- The disks show what is committed: all together find the group by it, and whichever disks find the group find it so; each member that isn't missing has the
-- descriptor and the status, and the sectors that its partitions need, and no disk shows a later record of the group. A member that is missing may show an
-- earlier one; with quorum checking off all of them must be found, so the members that aren't missing may be too few to find it by themselves.
pub record ShowsCommitted (c : Contents) (group : Descriptor) (status : Status) (there : Disks) : Type 0 where
  pub found : Finds c all_disks group.id group
  pub only : (disks : Disks) (k : Descriptor) → Finds c disks group.id k → k ≡ group
  pub descriptor : Stamped Descriptor
  pub value : descriptor.value ≡ group
  pub latest : (d : ℕ) (r : Stamped Descriptor) → c.descriptor d ≡ Some r → r.value.id ≡ group.id → (stamp_lt r.stamp descriptor.stamp ≡ true) ⊎ (r ≡ descriptor)
  pub described : (d : ℕ) → IsTrue (there d) → c.descriptor d ≡ Some descriptor
  pub room : (d : ℕ) → IsTrue (there d) → IsTrue (has_room c d group)
  pub own : status.id ≡ group.id
  pub stands : Stamped Status
  pub committed : stands.value ≡ status
  pub stated : (d : ℕ) → IsTrue (there d) → c.status d ≡ Some stands
  pub last : (d : ℕ) (r : Stamped Status) → c.status d ≡ Some r → r.value.id ≡ group.id → (stamp_lt r.stamp stands.stamp ≡ true) ⊎ (r ≡ stands)

-- So it is, all stamps are of this session's last record or earlier ones, and the next record of each kind spares the newest.
pub record HoldsCommitted (image : Image) (group : Descriptor) (status : Status) (present : Disks) (stamp : Stamp) (slots : Homes) : Type 0 where
  pub shows : ShowsCommitted (contents_of image) group status present
  pub stamps : StampsBefore (next_stamp stamp) image
  pub there : (d : ℕ) → IsTrue (present d) → has_records image d ≡ true
  pub homes : (d : ℕ) → IsTrue (present d) → SparesNewest slots image d

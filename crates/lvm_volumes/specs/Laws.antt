-- Laws of copies that are added and removed.
use Rattle.std.specs.Prelude.{ℕ, ◌<◌, List, take, Some, IsTrue, IsFalse}
use Rattle.lvm_num.specs.declared.place.Pp.{Pp}
use Rattle.lvm_num.specs.declared.descriptor.LvRow.{LvRow}
use Rattle.lvm_num.specs.declared.status.Status.{Status}
use Rattle.lvm_num.specs.Disks.{Disks}
use Rattle.lvm_num.specs.Record.{Stamped}
use Rattle.lvm_num.specs.Descriptor.{IsValid, copies_of}
use Rattle.lvm_num.specs.Status.{calls_stale}
use Rattle.lvm_num.specs.Votes.{all_disks}
use Rattle.lvm_vol.specs.Facts.{Fact}
use Rattle.lvm_kept.specs.Contents.{Contents}
use Rattle.lvm_kept.specs.Committed.{IsWithinDisks}
use Rattle.lvm_kept.specs.Group.{members_in, IsOneOf}
use Rattle.lvm_kept.specs.Kept.{Kept}
use Rattle.lvm_session.specs.State.{Core, State, is_there}
use Rattle.lvm_volume_plan.specs.passed.Core.{IsSettled}
use Rattle.lvm_volume_plan.specs.passed.Commit.{ShowsCommitted}
use Rattle.lvm_even.specs.Even.{IsEven}
use Rattle.lvm_volume_plan.specs.Copies.{with_copies, first_copies}
use Rattle.lvm_volume_plan.specs.CopiesFaults.{MayBeAdded, LosesNone, MayBeTaken}
use Rattle.lvm_volumes.specs.Mirrors.{IsFurther}

-- Where nothing is under way in a session, and its disks keep a history, each logical partition of a volume that loses none with its copies behind the first
-- ones keeps a fresh one on a member that shows the group.
abbrev pub RemovalIsShown : Type 0
RemovalIsShown = (c : Contents) (facts : List Fact) (lv copies : ℕ) (core : Core) (row : LvRow) → IsSettled core → IsValid core.descriptor → IsWithinDisks c
    → ShowsCommitted c core.descriptor core.status.committed (is_there core) → Kept c facts → LosesNone lv copies core row → (lp : ℕ) → lp < row.lps
    → (p : Pp) × IsOneOf (take copies (copies_of row lp)) p × IsFalse (calls_stale core.status.committed p) × IsTrue (members_in c all_disks core.descriptor.id core.descriptor p.disk)

-- A group stays even with more copies of a volume where the further ones are stale,
abbrev pub MoreAreEven : Type 0
MoreAreEven = (c : Contents) (s : State) (lv copies : ℕ) (row : LvRow) (pps : List Pp) (status : Stamped Status) (there : Disks) → IsValid s.core.descriptor → MayBeAdded lv copies s.core row pps
    → ((p : Pp) → IsFurther lv copies s.core p → IsTrue (calls_stale status.value p))
    → IsEven c s.core.descriptor (Some status) there → IsEven c (with_copies s.core.descriptor lv copies pps) (Some status) there

-- and with fewer.
abbrev pub FirstAreEven : Type 0
FirstAreEven = (c : Contents) (s : State) (lv copies : ℕ) (row : LvRow) (status : Stamped Status) (there : Disks) → IsValid s.core.descriptor → MayBeTaken lv copies s.core row
    → IsEven c s.core.descriptor (Some status) there → IsEven c (with_copies s.core.descriptor lv copies (first_copies row copies)) (Some status) there

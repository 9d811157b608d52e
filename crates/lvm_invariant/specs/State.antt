-- A session, seen without bytes: what the disks show, and what the driver is about.
use Rattle.std.specs.Prelude.{◌≡◌, ◌⊎◌, ℕ, ◌+◌, Bool, true, false, ◌&&◌, not, nat_lt, nat_le, ◌==◌, List, Option, Some, None, option_map, find, IsTrue, IsFalse}
use Rattle.lvm_num.specs.declared.place.Pp.{Pp}
use Rattle.lvm_num.specs.Geometry.{track_group_of}
use Rattle.lvm_num.specs.Record.{Stamped}
use Rattle.lvm_vol.specs.Facts.{Request, same_request, block_of, Fact}
use Rattle.lvm_vol.specs.May.{Known, known}
use Rattle.lvm_num.specs.Buffer.{Sector}
use Rattle.lvm_vol.specs.declared.entry.Vol.TheVariants.{Lv}

-- which partitions a status calls stale, and which volumes dirty
pub record Marks : Type 0 where
  pub stale : Pp → Bool
  pub dirty : ℕ → Bool

-- track groups of volumes
abbrev pub Groups : Type 0
Groups = ℕ → ℕ → Bool

-- What the disks show: block b of a volume on a copy, the track groups that each disk's note names, each disk's newest status.
pub record View : Type 0 where
  pub block : ℕ → ℕ → Pp → List ℕ
  pub names : ℕ → Groups
  pub status : ℕ → Option (Stamped Marks)

-- a transfer of a request to or from a copy
pub data Stage : Type 0 where
  Todo : Stage
  Flying : Stage
  Well : Stage
  Badly : Stage

-- Ready: it waits for its record or, where it needs none, for its first transfer. Going: a transfer was started.
pub data ModelPhase : Type 0 where
  Held : ModelPhase
  WantEntry : ModelPhase
  Ready : ModelPhase
  Going : ModelPhase
  Landed : ModelPhase

pub record Queued : Type 0 where
  pub lv : ℕ
  pub first : ℕ
  pub count : ℕ
  pub write : Bool
  -- it is a step of a copy, and no request of the history
  pub step : Bool
  pub value : ℕ → List ℕ
  pub phase : ModelPhase
  -- more than one target
  pub several : Bool
  pub targets : Pp → Option Stage
  -- what a read got
  pub got : Option (ℕ → List ℕ)

-- the copy that is being brought up, and the track groups of its logical partition that it has passed
pub record ModelCopy : Type 0 where
  pub target : Pp
  pub passed : Groups

-- a step's blocks are being written to a copy (also after the copy has ended)
pub record StepWrite : Type 0 where
  pub target : Pp
  pub place : ℕ

-- a partition that no volume of the group has yet, and the blocks for which it is to stand
pub record Beside : Type 0 where
  pub place : Pp
  pub its : ℕ → ℕ → Bool

pub record ModelState : Type 0 where
  pub media : View
  pub queue : ℕ → Option Queued
  pub facts : List Fact
  -- the names of the places of the queue in the history (a copy step's is none of the history's)
  pub name : ℕ → Request
  -- the copies of the logical partition of a block of a volume, and whether the volume keeps notes
  pub is_copy : ℕ → ℕ → Pp → Bool
  pub is_active : ℕ → Bool
  -- the volume is marked dirty in the status while its copies may differ
  pub is_passive : ℕ → Bool
  pub committed : Stamped Marks
  pub in_flight : Option (Stamped Marks)
  pub wanted : Marks
  pub status_flying : ℕ → Bool
  pub missing : ℕ → Bool
  pub cache : Groups
  pub home_note : ℕ → Groups
  pub flying_note : ℕ → Option Groups
  pub open_copy : Option ModelCopy
  pub step_write : Option StepWrite
  -- the partition that is brought up beside the group's copies: it is a copy of the state, and counts as stale whatever statuses say
  pub beside : Option Beside

abbrev pub covers : Queued → ℕ → ℕ → Bool
covers r lv b = r.lv == lv && nat_le r.first b && nat_lt b (r.first + r.count)

-- what the open write of this name brings to the block, if there is one
abbrev pub write_in : ℕ → List Request → Request → Option Sector
write_in b writes request = option_map (λ (w : Request). block_of w.blocks w.at b) (find (same_request request) writes)

abbrev pub write_of : ℕ → Known → Request → Option Sector
write_of b k request = write_in b k.open_writes request

-- what is known of a block of a volume
abbrev pub told : ModelState → ℕ → ℕ → Known
told s lv b = known s.facts (Lv lv) b

-- the request of this number in the history
abbrev pub request_of : ModelState → ℕ → Request
request_of s i = s.name i

abbrev pub is_held : ModelPhase → Bool
is_held Held = true
is_held _ = false

abbrev pub has_landed : ModelPhase → Bool
has_landed Landed = true
has_landed _ = false

abbrev pub is_past : ModelPhase → Bool
is_past p = not (is_held p) && not (has_landed p)

-- a write that has its entry in the cache pinned
abbrev pub is_pinning : ModelPhase → Bool
is_pinning Held = false
is_pinning WantEntry = false
is_pinning Ready = true
is_pinning Going = true
is_pinning Landed = false

-- stale by the committed status, and by the one in flight, if any
abbrev pub stale_in : Option (Stamped Marks) → Pp → Bool
stale_in None c = true
stale_in (Some u) c = u.value.stale c

abbrev pub is_settled_stale : ModelState → Pp → Bool
is_settled_stale s c = s.committed.value.stale c && stale_in s.in_flight c

abbrev pub is_usable : ModelState → Pp → Bool
is_usable s c = not (s.committed.value.stale c) && not (s.missing c.disk)

-- the copy that is being brought up has passed the track group
pub record HasPassed (s : ModelState) (lv g : ℕ) (c : Pp) : Type 0 where
  pub copy : ModelCopy
  pub is_open : s.open_copy ≡ Some copy
  pub target : copy.target ≡ c
  pub passed : IsTrue (copy.passed lv g)

-- a copy of the block that the committed status, or the one in flight, calls fresh, or that is being brought up and has passed it
pub record Live (s : ModelState) (lv b : ℕ) (c : Pp) : Type 0 where
  pub copy : IsTrue (s.is_copy lv b c)
  pub counts : IsFalse (is_settled_stale s c) ⊎ HasPassed s lv (track_group_of b) c

-- each note that the disk may have names the track group
pub record Named (s : ModelState) (d lv g : ℕ) : Type 0 where
  pub home : IsTrue (s.media.names d lv g)
  pub flying : (n : Groups) → s.flying_note d ≡ Some n → IsTrue (n lv g)

-- an open write that has started
pub record Started (s : ModelState) (i : ℕ) (r : Queued) : Type 0 where
  pub there : s.queue i ≡ Some r
  pub write : IsTrue r.write
  pub going : r.phase ≡ Going

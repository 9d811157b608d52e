-- What the commit of a move does to a session.
use Rattle.std.specs.Prelude.{◌≡◌, ◌≤◌, ℕ, List, Option, Some, None, Result, Ok, Err, length, replicate, slice_set, false, if◌then◌else◌}
use Rattle.std.specs.List.{AllByRecursion}
use Rattle.std.specs.Option.{option_map_or}
use Rattle.lvm_num.specs.declared.descriptor.Descriptor.{Descriptor}
use Rattle.lvm_commit.specs.declared.commit.CommitEnd.{CommitEnd}
use Rattle.lvm_commit.specs.declared.commit.CommitEnd.TheVariants as commit_end
use Rattle.lvm_commit.specs.Settling.{CommitFindsNoMore, CommitLeaves, DescriptorEnds, DescriptorStaysKept, HoldsWithin, IsForgotten, IsOfCommit}
use Rattle.lvm_core.specs.declared.fault.CommitFault.{CommitFault}
use Rattle.lvm_core.specs.declared.fault.CommitFault.TheVariants as fault
use Rattle.lvm_core.specs.Committing.{with_one_out}
use Rattle.lvm_session.specs.declared.bringing.OpenCopy.{OpenCopy}
use Rattle.lvm_session.specs.declared.open.Open.{Open}
use Rattle.lvm_session.specs.State.{Core, State}
use Rattle.lvm_session.specs.Judging.{is_missing}
use Rattle.lvm_session.specs.Dark.{AreTold, all_dark, all_off, hand_of_copy}
use Rattle.lvm_session.specs.Marks.{Reviews}
use Rattle.lvm_rec.specs.declared.homes.Homes.{Homes}
use Rattle.lvm_status.specs.Update.{Stored}

-- ---- when it may be made

-- the disk of the copy that is open, where it is missing
abbrev pub missing_destination : Core → Option ℕ
missing_destination core = option_map_or (λ (c : OpenCopy). if is_missing core c.pp.disk then Some c.pp.disk else None) core.copy None

-- The table is as the history tells, and neither a request nor the copy has a buffer in hand: the session may end whatever else is out.
pub record CanBreakOff (core : Core) : Type 0 where
  pub told : AreTold core.history.facts core.requests
  pub copy : hand_of_copy core.copy ≡ None
  pub requests : AllByRecursion (λ (o : Open). o.got ≡ None) core.requests

-- What a commit of a move needs of its session: that it may end, that all its buffers are in, and that no write of an update is told apart.
pub record MayWriteMove (core : Core) : Type 0 where
  pub ends : CanBreakOff core
  pub forgotten : IsForgotten core.status
  pub a_buffer : 1 ≤ length core.pool
  pub buffers : core.pool ≡ replicate (length core.pool) false

-- ---- after the records

-- The buffer is back where it comes back. Where the votes are lost all that waited has landed as Off, and where the power was cut as Dark.
abbrev pub MoveEndsAs : Core → Core → CommitEnd → Result (Unit {0}) CommitFault → Type 0
MoveEndsAs old new (commit_end.Done back) answer = (answer ≡ Ok tt) × (new ≡ record old { pool = slice_set old.pool back.number false })
MoveEndsAs old new (commit_end.WentOff have total back) answer = (answer ≡ Err (fault.WentOff have total)) × (new ≡ all_off (record old { pool = slice_set old.pool back.number false }))
MoveEndsAs old new commit_end.Dark answer = (answer ≡ Err fault.Dark) × (new ≡ all_dark old)
MoveEndsAs old new commit_end.Stuck answer = (answer ≡ Err fault.Stuck) × (new ≡ old)

-- so it is where the records were written well
abbrev pub IfDone : CommitEnd → Type 0 → Type 0
IfDone (commit_end.Done back) P = P
IfDone (commit_end.WentOff have total back) P = Unit {0}
IfDone commit_end.Dark P = Unit {0}
IfDone commit_end.Stuck P = Unit {0}

-- the session has this descriptor and no copy open; that may leave others behind, of which staleness is wanted
abbrev pub GoesOnMoved : Descriptor → Core → Core → Type 0
GoesOnMoved next old new = Reviews (record old { descriptor = next; copy = None }) new

-- so it is where it is committed
abbrev pub MoveEndsWith : Descriptor → Core → Core → CommitEnd → Result (Unit {0}) CommitFault → Type 0
MoveEndsWith next old new (commit_end.Done back) answer = (answer ≡ Ok tt) × GoesOnMoved next (record old { pool = slice_set old.pool back.number false }) new
MoveEndsWith next old new (commit_end.WentOff have total back) answer = MoveEndsAs old new (commit_end.WentOff have total back) answer
MoveEndsWith next old new commit_end.Dark answer = MoveEndsAs old new commit_end.Dark answer
MoveEndsWith next old new commit_end.Stuck answer = MoveEndsAs old new commit_end.Stuck answer

-- By the status and the slots that the records left: the descriptor is committed and the copy closed; the session has ended; or a transfer is out of which nothing
-- was heard.
abbrev pub MoveEnds : Descriptor → Stored → Homes → Core → Core → CommitEnd → Result (Unit {0}) CommitFault → Type 0
MoveEnds next last homes old new (commit_end.Done back) answer = (answer ≡ Ok tt) × GoesOnMoved next (record old { status = last; homes = homes }) new
MoveEnds next last homes old new (commit_end.WentOff have total back) answer = (answer ≡ Err (fault.WentOff have total)) × (new ≡ all_off (record old { status = last; homes = homes }))
MoveEnds next last homes old new commit_end.Dark answer = (answer ≡ Err fault.Dark) × (new ≡ all_dark (record old { pool = with_one_out old.pool; status = last; homes = homes }))
MoveEnds next last homes old new commit_end.Stuck answer = (answer ≡ Err fault.Stuck) × (new ≡ record old { pool = with_one_out old.pool; status = last; homes = homes })

-- ---- the whole

-- The descriptor of these bytes was written, and the status where a member was lost, from the first buffer; the session goes on as that ended.
pub record WritesMove (next : Descriptor) (content : List ℕ) (before after : ℕ) (old new : State) (answer : Result (Unit {0}) CommitFault) : Type 0 where
  pub how : CommitEnd
  pub last : Stored
  pub homes : Homes
  pub ends : DescriptorEnds content 0 before old.core.status last old.core.homes homes old.device new.device how
  pub leaves : CommitLeaves next (IsOfCommit content old.core.status last) before after old.core.status last old.device new.device
  pub finds : CommitFindsNoMore content old.core.status old.core.homes old.device new.device
  pub kept : DescriptorStaysKept content old.core.status old.core.homes old.device new.device
  pub held : HoldsWithin old.core.status last
  pub goes : MoveEnds next last homes old.core new.core how answer

-- Where the destination's disk is missing nothing changes, and else the descriptor is written.
pub data CommitsMove (next : Descriptor) (content : List ℕ) (before after : ℕ) (old new : State) (answer : Result (Unit {0}) CommitFault) : Type 0 where
  Misses : (disk : ℕ) → missing_destination old.core ≡ Some disk → answer ≡ Err (fault.DiskFailed disk) → new ≡ old → after ≡ before → CommitsMove next content before after old new answer
  Writes : missing_destination old.core ≡ None → WritesMove next content before after old new answer → CommitsMove next content before after old new answer

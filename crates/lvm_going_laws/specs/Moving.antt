-- The theorem of a session of which copies move: what its way leaves from one moment of it to a later one.
use Rattle.std.specs.Prelude.{◌≡◌, ◌≢◌, ◌⊎◌, ℕ, [], List, Result}
use Rattle.lvm_num.specs.declared.descriptor.Descriptor.{Descriptor}
use Rattle.lvm_disk.specs.Counts.{NoneFalls}
use Rattle.lvm_disk.specs.Device.{Device, Image, MayLeave}
use Rattle.lvm_vol.specs.Facts.{Fact}
use Rattle.lvm_vol.specs.Legal.{IsLater}
use Rattle.lvm_kept.specs.Contents.{contents_of}
use Rattle.lvm_kept.specs.Group.{IsAlike, IsFound}
use Rattle.lvm_kept.specs.Moments.{Moment}
use Rattle.lvm_status.specs.Table.{has_row}
use Rattle.lvm_steps.specs.Behind.{StampsAreEarlier}
use Rattle.lvm_steps.specs.Moments.{RunBegins}
use Rattle.lvm_core.specs.declared.fault.CommitFault.{CommitFault}
use Rattle.lvm_session.specs.declared.bringing.OpenCopy.{OpenCopy}
use Rattle.lvm_session.specs.declared.open.Power.TheVariants as power
use Rattle.lvm_session.specs.Sound.{IsSound}
use Rattle.lvm_session.specs.State.{State}
use Rattle.lvm_disk.specs.Paths.{Here, Then}
use Rattle.lvm_move_keeps.specs.Drained.{IsDrainedMoving}
use Rattle.lvm_going.specs.Going.{CommitsItsMove, CommitsOpenMove, MovingStep}
pub use Rattle.lvm_going.specs.Going.{LeavesMoving, LeavesSession}
use Rattle.lvm_tie.specs.Landings.{HasCausesSince}
use Rattle.lvm_tie.specs.Running.{GoesOffByCut, GoesOnOrEnds, IsBefore, KeepsOrigin}
use Rattle.lvm_tie.specs.Spares.{LeavesDescriptors, SparesDescriptors}
use Rattle.lvm_tie.specs.Stamps.{KeepsEpoch}
use Rattle.lvm_tie.specs.Tied.{IsGood, IsTied}
pub use Rattle.lvm_move_tie.specs.Going.{IsGoodSparing, SparingGoesOn}

-- ---- commits

-- this descriptor was being committed in the step, whatever was answered,
abbrev pub IsNextOf : {old new : State} → MovingStep old new → Descriptor → Type 0
IsNextOf (CommitsItsMove before after answer c drained epoch commits) k = k ≡ commits.next
IsNextOf other k = ⊥

-- and in a step of the way
abbrev pub IsCommittedOn : {first last : State} → LeavesMoving first last → Descriptor → Type 0
IsCommittedOn (Here any) k = ⊥
IsCommittedOn (Then path step any) k = IsCommittedOn path k ⊎ IsNextOf step k

-- ---- what stays

-- It is of the run and the rooms that it was given, on disks as large, whose counts never fall and whose power goes off by a cut alone; of the same group, in which
-- copies may stand elsewhere; and it goes on, is over, or isn't heard of.
pub record KeepsMovedShape (old new : State) : Type 0 where
  pub sizes : new.device.sizes ≡ old.device.sizes
  pub counts : NoneFalls old.device.counts new.device.counts
  pub cut : GoesOffByCut old.device new.device
  pub log : record new.core.history { facts = [] } ≡ record old.core.history { facts = [] }
  pub alike : IsAlike new.core.descriptor old.core.descriptor
  pub volumes : new.core.descriptor.lvs ≡ [] → old.core.descriptor.lvs ≡ []
  pub origin : KeepsOrigin old.core.origin new.core.origin
  pub rows : (disk : ℕ) → has_row new.core.origin.table disk ≡ has_row old.core.origin.table disk
  pub power : GoesOnOrEnds old.core new.core ⊎ ((old.core.power ≡ power.On) × (new.core.power ≡ power.Stuck))

-- What stands on its media is of sessions from before this moment; and while it is on, so are its crash images, and it is one of them itself.
pub record IsLeftBefore (moment : ℕ) (s : State) : Type 0 where
  pub stands : StampsAreEarlier moment s.device
  pub on : s.core.power ≡ power.On → IsBefore moment s

-- What each turn and each call leaves, each copy that begins to move and each commit of a move: a good session is good, and its span goes on; what is later than its
-- disks and its history stays so; and each landing has its cause. Where a transfer isn't heard of, that may be one to a slot of descriptors.
pub record MovesOn (old new : State) : Type 0 where
  pub good : SparingGoesOn old.core.history.run old new
  pub descriptors : LeavesDescriptors old.device → (new.core.power ≡ power.Stuck → ⊥) → LeavesDescriptors new.device
  pub before : (moment : ℕ) → IsLeftBefore moment old → IsLeftBefore moment new
  pub epoch : new.core.power ≡ power.On → KeepsEpoch old.core.status new.core.status
  pub later : (moment : ℕ) → IsLater old.core.history.facts moment → IsLater new.core.history.facts moment
  pub causes : (first : List Fact) → HasCausesSince first old → HasCausesSince first new
  pub keeps : KeepsMovedShape old new

-- So it is where no copy moves,
abbrev pub LeavesMoveOn : Type 0
LeavesMoveOn = (first last : State) → IsSound first → LeavesSession first last → MovesOn first last

-- and over a move that is committed, however that ends.
abbrev pub CommitMovesOn : Type 0
CommitMovesOn = (old new : State) (before after : ℕ) (answer : Result (Unit {0}) CommitFault) (c : OpenCopy) → IsDrainedMoving old c → old.core.status.stamp.epoch ≢ 0 → CommitsOpenMove before after old new answer
    → IsSound old → IsSound new → MovesOn old new

-- So it is where copies move, and the session is sound behind it.
abbrev pub GoingMovesOn : Type 0
GoingMovesOn = (first last : State) → IsSound first → LeavesMoving first last → IsSound last × MovesOn first last

-- ---- what is found

-- some crash image of it is found by this descriptor
abbrev pub FoundOn : Device → ℕ → Descriptor → Type 0
FoundOn device id k = (image : Image) × MayLeave device image × IsFound (contents_of image) id k

-- A commit of a tied session leaves found what was found before, or the descriptor that was to be committed.
abbrev pub CommitFindsNext : Type 0
CommitFindsNext = (past : List Fact) (old new : State) (before after : ℕ) (answer : Result (Unit {0}) CommitFault) (c : OpenCopy) → IsDrainedMoving old c → old.core.status.stamp.epoch ≢ 0 → (commits : CommitsOpenMove before after old new answer)
    → IsTied past old → SparesDescriptors old → (id : ℕ) (k : Descriptor) → FoundOn new.device id k → FoundOn old.device id k ⊎ ((id ≡ old.core.descriptor.id) × (k ≡ commits.next))

-- So the way of a good session leaves found what was found before, or one that was being committed on it.
abbrev pub MovesFindTheirs : Type 0
MovesFindTheirs = (moment : Moment) (past : List Fact) (first last : State) (leaves : LeavesMoving first last) → IsSound first → LeavesDescriptors first.device → IsGood first.core.history.run moment first
    → RunBegins first.core.history.run past moment → SparesDescriptors first
    → (id : ℕ) (k : Descriptor) → FoundOn last.device id k → FoundOn first.device id k ⊎ ((id ≡ first.core.descriptor.id) × IsCommittedOn leaves k)

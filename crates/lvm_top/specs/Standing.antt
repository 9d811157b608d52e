-- Which descriptors may be found after a line, and after the lines of a script.
use Rattle.std.specs.Prelude.{◌≡◌, ◌⊎◌, ◌≤◌, ◌∷◌, ◌++◌, ℕ, Bool, true, false, List, Option, Some, Result, Ok, IfSome, IsSomeAnd, length}
use Rattle.lvm_num.specs.declared.descriptor.Descriptor.{Descriptor}
use Rattle.lvm_disk.specs.Device.{Device}
use Rattle.lvm_vol.specs.Facts.{Fact}
use Rattle.lvm_vol.specs.Log.{Log}
use Rattle.lvm_kept.specs.Moments.{Moment}
use Rattle.lvm_steps.specs.Moments.{RunBegins}
use Rattle.lvm_parse.specs.declared.command.Command.{Command}
use Rattle.lvm_parse.specs.declared.command.Command.TheVariants as command
use Rattle.lvm_parse.specs.declared.rest.Misfit.{Misfit}
use Rattle.lvm_parse.specs.Grammar.{line_of}
use Rattle.lvm_core.specs.declared.parts.Room.{Room}
use Rattle.lvm_core.specs.Held.{IsHeld}
use Rattle.lvm_core.specs.Looking.{IsNumberOf}
use Rattle.lvm_session.specs.State.{Core, State}
use Rattle.lvm_line.specs.passed.Group.{new_group}
use Rattle.lvm_line.specs.passed.Volumes.{IsWith, IsWithFirst, IsWithMore}
use Rattle.lvm_line.specs.passed.Members.{as_big, with_quorum}
use Rattle.lvm_line.specs.passed.Splitting.{IsSplit}
use Rattle.lvm_core.specs.Leaves.{MayBeFound}
use Rattle.lvm_line.specs.passed.MoveLines.{IsAsked, MayHaveMoved, PlannedMove, after_moves, planned_moves}
use Rattle.lvm_line.specs.passed.GroupLines.{asked_for, IsAlone, IsBrokenOff, OfRequests, Role, IsAtRest, StandsBy, ScriptState, Reply}
use Rattle.lvm_line.specs.passed.VolumeLines.{Drains, wanted}
use Rattle.lvm_line.specs.passed.ReplyVariants as reply
use Rattle.lvm_line.specs.passed.MemberLines.{IsReducedBy}
use Rattle.lvm_top.specs.Script.{Script, NoLine, NextLine, Ends, AtLine, InLine}
use Rattle.lvm_volume_plan.specs.NewVolume.{without_volume}

-- ---- one line

-- the session on which a command was made: that which was on, after the turns by which what was under way in it was ended; none where nothing was
pub record WasDrained (old : ScriptState) (core : Core) (mid : State) : Type 0 where
  pub on : old.session ≡ Some core
  pub left : ℕ
  pub drains : Drains core old left mid

-- The first of the moves that are planned for this group have been made, one or more of them.
pub record HasMovedSome (d : Descriptor) (lv : Option ℕ) (from to : ℕ) (k : Descriptor) : Type 0 where
  pub first : PlannedMove
  pub moved : List PlannedMove
  pub rest : List PlannedMove
  pub all : planned_moves d lv from to ≡ (first ∷ moved) ++ rest
  pub is : k ≡ after_moves d (first ∷ moved)

-- the descriptor that a line was to commit: of the group that is made, or of that which is on with quorum checking switched, as a big one, without members or some of them, with a volume more
-- or without one, with more or fewer copies, with a volume split, or with copies that have moved
abbrev pub IsToCommit : Result (Option Command) Misfit → ScriptState → ScriptState → Descriptor → Type 0
IsToCommit (Ok (Some (command.Mkvg force name mib disks))) old new k = k ≡ new_group old.moment.device.sizes (asked_for name mib disks force new.last)
IsToCommit (Ok (Some (command.ChvgQuorum on name))) old new k = IsSomeAnd old.session (λ core. k ≡ with_quorum on core.descriptor)
IsToCommit (Ok (Some (command.ChvgBig name))) old new k = IsSomeAnd old.session (λ core. k ≡ as_big core.descriptor)
IsToCommit (Ok (Some (command.Reducevg name disks))) old new k = IsSomeAnd old.session (λ core. IsReducedBy disks core.descriptor k)
IsToCommit (Ok (Some (command.Mklv name copies mode policy group lps))) old new k = (core : Core) × (mid : State) × WasDrained old core mid × IsWith (wanted name copies mode policy lps) mid.core k
IsToCommit (Ok (Some (command.Rmlv name))) old new k = IsSomeAnd old.session (λ core. (lv : ℕ) × IsNumberOf core.descriptor.lvs name lv × (k ≡ without_volume core.descriptor lv))
IsToCommit (Ok (Some (command.Mklvcopy name copies))) old new k = (core : Core) × (mid : State) × WasDrained old core mid × ((lv : ℕ) × IsNumberOf core.descriptor.lvs name lv × IsWithMore lv copies mid.core k)
IsToCommit (Ok (Some (command.Rmlvcopy name copies))) old new k = IsSomeAnd old.session (λ core. (lv : ℕ) × IsNumberOf core.descriptor.lvs name lv × IsWithFirst lv copies core k)
IsToCommit (Ok (Some (command.Splitlvcopy made name copies))) old new k = (core : Core) × (mid : State) × WasDrained old core mid × ((lv : ℕ) × IsNumberOf core.descriptor.lvs name lv × IsSplit lv made copies mid.core k)
IsToCommit (Ok (Some (command.Migratepv volume from to))) old new k = IsSomeAnd old.session (λ core. (lv : Option ℕ) × IsAsked core.descriptor volume from to lv × HasMovedSome core.descriptor lv from to k)
IsToCommit other old new k = ⊥

-- it was answered as done, or as broken off; copies may have moved before other answers too
abbrev pub MayHaveTried : Result (Option Command) Misfit → Reply → Type 0
MayHaveTried (Ok (Some (command.Migratepv volume from to))) answer = MayHaveMoved answer
MayHaveTried read answer = (answer ≡ reply.Ok) ⊎ IsBrokenOff answer

-- The line was answered so that it may have tried, and was to commit this descriptor of the group.
pub record MayHaveCommitted (read : Result (Option Command) Misfit) (answer : Reply) (old new : ScriptState) (id : ℕ) (k : Descriptor) : Type 0 where
  pub tried : MayHaveTried read answer
  pub own : id ≡ k.id
  pub is : IsToCommit read old new k

-- the disks of a session hold what it says is committed
abbrev pub AreHeld : ScriptState → Type 0
AreHeld s = IfSome s.session (λ core. IsHeld s.moment.device core)

-- What stands before a line that acts on the session so: nothing is under way, and the disks hold what the session says; or they stand by it after some earlier
-- history, and no other group is found where that is asked.
pub data StoodBefore (run : ℕ) (role : Role) (old new : ScriptState) : Type 0 where
  HeldAtRest : IsAtRest old → AreHeld old → StoodBefore run role old new
  StandsSince : (past : List Fact) (first : Moment) → StandsBy run first old → RunBegins run past first → IsAlone role old new → StoodBefore run role old new

-- What is asked beside of a line on which copies move: the disks stand by its session after some earlier history.
pub record StandsForMoves (run : ℕ) (role : Role) (old new : ScriptState) : Type 0 where
  pub past : List Fact
  pub first : Moment
  pub stands : StandsBy run first old
  pub begins : RunBegins run past first
  pub alone : IsAlone role old new

abbrev pub MayMoveCopies : ℕ → Result (Option Command) Misfit → ScriptState → ScriptState → Type 0
MayMoveCopies run (Ok (Some (command.Migratepv volume from to))) old new = StandsForMoves run OfRequests old new
MayMoveCopies run read old new = Unit {0}

-- the commands after which a group is on: it was made, varied on, changed, given a volume or copies more or less, or had a volume split
abbrev pub is_group_command : Command → Bool
is_group_command (command.Mkvg force name mib disks) = true
is_group_command (command.Varyon name) = true
is_group_command (command.ChvgQuorum on name) = true
is_group_command (command.ChvgBig name) = true
is_group_command (command.Reducevg name disks) = true
is_group_command (command.Mklv name copies mode policy group lps) = true
is_group_command (command.Rmlv name) = true
is_group_command (command.Mklvcopy name copies) = true
is_group_command (command.Rmlvcopy name copies) = true
is_group_command (command.Splitlvcopy made name copies) = true
is_group_command _ = false

-- such a command was answered as done, or copies have moved as they were to
abbrev pub is_acknowledged : Result (Option Command) Misfit → Reply → Bool
is_acknowledged (Ok (Some c)) reply.Ok = is_group_command c
is_acknowledged (Ok (Some (command.Migratepv volume from to))) (reply.Migrated moved) = true
is_acknowledged read answer = false

-- of the group of the session its descriptor alone, and of another group what there was
pub data StandsOf (core : Core) (Before : ℕ → Descriptor → Type 0) (id : ℕ) (k : Descriptor) : Type 0 where
  IsCommitted : id ≡ core.descriptor.id → k ≡ core.descriptor → StandsOf core Before id k
  OfAnother : (id ≡ core.descriptor.id → ⊥) → Before id k → StandsOf core Before id k

-- What may stand after a line, by what may stand before it: an acknowledged group command leaves of its group what it has committed alone; after another
-- line there may be what there was, or what the line may have committed.
abbrev pub StandsAfter : Bool → Result (Option Command) Misfit → Reply → ScriptState → ScriptState → (ℕ → Descriptor → Type 0) → ℕ → Descriptor → Type 0
StandsAfter true read answer old new Before id k = IsSomeAnd new.session (λ core. StandsOf core Before id k)
StandsAfter false read answer old new Before id k = Before id k ⊎ MayHaveCommitted read answer old new id k

-- ---- the lines of a script

-- What may stand of a group after these lines: what could be found before the first of them; since the last acknowledged command on it what that has
-- committed, and what was being committed since.
abbrev pub DescriptorMayStand : {log : Log} {room : Room} {first : ScriptState} {lines : List (List ℕ)} {replies : List Reply} {last : ScriptState} → Script log room first lines replies last → ℕ → Descriptor → Type 0
DescriptorMayStand {first = first} NoLine id k = MayBeFound first.moment.device id k
DescriptorMayStand (NextLine {mid = mid} {new = new} line answer said goes says before does) id k = StandsAfter (is_acknowledged (line_of line) answer) (line_of line) answer mid new (DescriptorMayStand before) id k

-- What may stand once a run has ended behind these lines, perhaps in one line more whose reply wasn't written in full.
abbrev pub MayStandAtEnd : {log : Log} {room : Room} {mid last : ScriptState} {done : List (List ℕ)} {said : List Reply} {front : List ℕ} → Ends log room mid last done said front → (ℕ → Descriptor → Type 0) → ℕ → Descriptor → Type 0
MayStandAtEnd (AtLine same) Before id k = Before id k
MayStandAtEnd {mid = mid} {last = last} (InLine line answer said front rest says split does) Before id k = StandsAfter (is_acknowledged (line_of line) answer) (line_of line) answer mid last Before id k

-- ---- shelves

-- the shelf has at most 128 disks, as each has
abbrev pub HasFewDisks : Device → Type 0
HasFewDisks device = length device.sizes ≤ 128

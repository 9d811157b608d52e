-- Lines, by how they are read.
use Rattle.std.proofs.Common.{◌≡◌, ◌≤◌, ℕ, List, Bool, true, false, Option, Some, None, IfSome, IsSome, Result, Ok, refl, sym, ◌∙◌, ap, subst, arith}
use Rattle.lvm_disk.specs.Device.{Device, HasSectors}
use Rattle.lvm_io.specs.Count.{next_count}
use Rattle.lvm_vol.specs.Log.{Log}
use Rattle.lvm_parse.specs.declared.command.Command.{Command}
use Rattle.lvm_parse.specs.declared.command.Command.TheVariants as command
use Rattle.lvm_parse.specs.declared.rest.Misfit.{Misfit}
use Rattle.lvm_parse.specs.Grammar.{line_of}
use Rattle.lvm_parse.specs.Answering.{IsMkvgLine, IsReducevgLine}
use Rattle.lvm_core.specs.declared.parts.Room.{Room}
use Rattle.lvm_session.specs.State.{Core}
use Rattle.lvm_volume_lines.specs.passed.GroupLines.{Aside, CommandEnds, EndsUnasked, LineGoesOn, Holder, InFull, IsAsked, IsBetween, IsBetweenStage, IsFittingStage, IsLeftBy, IsNotOn, Reply, ScriptState, Shows, Stage, WithoutMemory, history_in, history_of, is_unheard, most_refusals, session_in, session_of, shelf_in, state_in, without_facts, DiskOfGroup, DiskShows, GroupShows, GroupThatIsOn, ListsGroup, ListsMember, ListsVolume, MkvgDoes, NoGroupForDisk, NoGroupForVolume, NoGroupToList, NoMemoryForLine, NoMkvgWhileOn, NoSuchMember, NoSuchVolume, OtherGroup, VolumeOfGroup, VolumeShows}
use Rattle.lvm_line.specs.Lines.{CommandDoes, CommandIsDone, LineDoes, IsLine, IsOrder, asked_after, role_of}
use Rattle.lvm_member_lines.specs.Reducing.{NoGroupForReducevg, NoMemoryForReducevg, ReducevgDoes}
use Rattle.lvm_volume_lines.specs.passed.HolderVariants as holder
use Rattle.lvm_volume_lines.specs.passed.RefusalVariants as refusal
use Rattle.lvm_volume_lines.specs.passed.ReplyVariants as reply
use Rattle.lvm_volume_lines.proofs.passed.GroupLines.{left_still, one_refused, same_goes, asked_goes}

-- ---- how many refusals a listing answers

one_shown : (text : List ℕ) (answer : Reply) → Shows text answer → most_refusals answer ≤ 1
one_shown text answer (InFull is) = subst (λ (a : Reply). most_refusals a ≤ 1) (sym is) (omega arith)
one_shown text answer (WithoutMemory is) = one_refused answer refusal.Memory is

pub one_group : (volumes : Bool) (name : List ℕ) (session : Option Core) (answer : Reply) → GroupShows volumes name session answer → most_refusals answer ≤ 1
one_group volumes name session answer (NoGroupToList none is) = one_refused answer refusal.NoGroup is
one_group volumes name session answer (GroupThatIsOn core some (OtherGroup other is)) = one_refused answer refusal.NoGroup is
one_group volumes name session answer (GroupThatIsOn core some (ListsGroup its shows)) = one_shown _ answer shows

pub one_volume : (name : List ℕ) (session : Option Core) (answer : Reply) → VolumeShows name session answer → most_refusals answer ≤ 1
one_volume name session answer (NoGroupForVolume none is) = one_refused answer refusal.NoGroup is
one_volume name session answer (VolumeOfGroup core some (NoSuchVolume none is)) = one_refused answer refusal.NoVolume is
one_volume name session answer (VolumeOfGroup core some (ListsVolume lv its shows)) = one_shown _ answer shows

pub one_disk : (disk disks : ℕ) (session : Option Core) (answer : Reply) → DiskShows disk disks session answer → most_refusals answer ≤ 1
one_disk disk disks session answer (NoGroupForDisk none is) = one_refused answer refusal.NoGroup is
one_disk disk disks session answer (DiskOfGroup core some (NoSuchMember none is)) = one_refused answer (refusal.NoDisk disk) is
one_disk disk disks session answer (DiskOfGroup core some (ListsMember row there its shows)) = one_shown _ answer shows

-- ---- of a listing something was heard

heard_shown : (text : List ℕ) (answer : Reply) → Shows text answer → is_unheard answer ≡ false
heard_shown text answer (InFull is) = ap is_unheard is
heard_shown text answer (WithoutMemory is) = ap is_unheard is

pub heard_group : (volumes : Bool) (name : List ℕ) (session : Option Core) (answer : Reply) → GroupShows volumes name session answer → is_unheard answer ≡ false
heard_group volumes name session answer (NoGroupToList none is) = ap is_unheard is
heard_group volumes name session answer (GroupThatIsOn core some (OtherGroup other is)) = ap is_unheard is
heard_group volumes name session answer (GroupThatIsOn core some (ListsGroup its shows)) = heard_shown _ answer shows

pub heard_volume : (name : List ℕ) (session : Option Core) (answer : Reply) → VolumeShows name session answer → is_unheard answer ≡ false
heard_volume name session answer (NoGroupForVolume none is) = ap is_unheard is
heard_volume name session answer (VolumeOfGroup core some (NoSuchVolume none is)) = ap is_unheard is
heard_volume name session answer (VolumeOfGroup core some (ListsVolume lv its shows)) = heard_shown _ answer shows

pub heard_disk : (disk disks : ℕ) (session : Option Core) (answer : Reply) → DiskShows disk disks session answer → is_unheard answer ≡ false
heard_disk disk disks session answer (NoGroupForDisk none is) = ap is_unheard is
heard_disk disk disks session answer (DiskOfGroup core some (NoSuchMember none is)) = ap is_unheard is
heard_disk disk disks session answer (DiskOfGroup core some (ListsMember row there its shows)) = heard_shown _ answer shows

-- ---- lines

-- a session that is on is of the stage's run
pub stage_named : {S : Type 0} (stage : Stage S) → IfSome (session_in stage) (λ core. core.history.run ≡ (history_in stage).run)
stage_named {S} stage = by stage.holder
  where
    by : (h : Holder S) → IfSome (session_of h) (λ core. core.history.run ≡ (history_of h).run)
    by (holder.Off shelf history) = tt
    by (holder.Empty driver) = refl
    by (holder.Serving driver) = refl

-- what stands before a line
pub record Before (log : Log) (old : ScriptState) : Type 0 where
  pub whole : HasSectors old.moment.device
  pub between : IsBetween old.moment old.session old.posts
  pub named : IfSome old.session (λ core. core.history.run ≡ log.run)

-- a line that is read so
pub line_read :
    (log : Log) (room : Room) (line : List ℕ) (read : Result (Option Command) Misfit) (answer : Reply) (old new : ScriptState) → line_of line ≡ read → LineDoes log room read old new answer → LineGoesOn log.run (role_of read) answer old new
    → ((IsOrder read → ⊥) → new.moment.device.orders ≡ old.moment.device.orders) → Before log old → IsLine log room line answer old new
line_read log room line read answer old new is does goes orders before = record {
  does = subst (λ (r : Result (Option Command) Misfit). LineDoes log room r old new answer) (sym is) does;
  goes = subst (λ (r : Result (Option Command) Misfit). LineGoesOn log.run (role_of r) answer old new) (sym is) goes;
  orders = subst (λ (r : Result (Option Command) Misfit). (IsOrder r → ⊥) → new.moment.device.orders ≡ old.moment.device.orders) (sym is) orders;
  whole = before.whole;
  between = before.between;
  named = before.named;
}

-- a line that changes nothing
pub line_still :
    (log : Log) (room : Room) (line : List ℕ) (read : Result (Option Command) Misfit) (answer : Reply) (old new : ScriptState) → line_of line ≡ read → LineDoes log room read old new answer → most_refusals answer ≤ 1 → new ≡ old → Before log old
    → IsLine log room line answer old new
line_still log room line read answer old new is does one same before =
    line_read log room line read answer old new is does (same_goes log.run (role_of read) answer old new before.between one same) (λ no_order. ap (λ (s : ScriptState). s.moment.device.orders) same) before

-- a `mkvg` for which no memory was found, while a group is on or none is
pub line_unread :
    (log : Log) (room : Room) (line : List ℕ) (answer : Reply) (old new : ScriptState) → IsMkvgLine (line_of line) → (IsSome old.session → answer ≡ reply.Refused refusal.GroupOn) → (old.session ≡ None → answer ≡ reply.Refused refusal.Memory) → IsAsked old new
    → Before log old → IsLine log room line answer old new
line_unread log room line answer old new mkvg on off asked before = record {
  does = of_mkvg (line_of line) mkvg;
  goes = asked_goes log.run (role_of (line_of line)) answer old new before.between (one old.session refl) asked;
  orders = λ no_order. ap (λ (s : ScriptState). s.moment.device.orders) asked.same;
  whole = before.whole;
  between = before.between;
  named = before.named;
}
  where
    one : (session : Option Core) → old.session ≡ session → most_refusals answer ≤ 1
    one None is = one_refused answer refusal.Memory (off is)
    one (Some core) is = one_refused answer refusal.GroupOn (on (subst IsSome (sym is) refl))

    by_session : (force : Bool) (name : List ℕ) (mib : Option ℕ) (disks : List ℕ) (session : Option Core) → old.session ≡ session → MkvgDoes log room force name mib disks old new answer
    by_session force name mib disks None is = NoMemoryForLine is (off is) asked
    by_session force name mib disks (Some core) is = let some : IsSome old.session = subst IsSome (sym is) refl in NoMkvgWhileOn some (on some) asked

    of_mkvg : (read : Result (Option Command) Misfit) → IsMkvgLine read → LineDoes log room read old new answer
    of_mkvg (Ok (Some (command.Mkvg force name mib disks))) is = by_session force name mib disks old.session refl
    of_mkvg read is = absurd is

-- so a `reducevg`
pub reducevg_unread :
    (log : Log) (room : Room) (line : List ℕ) (answer : Reply) (old new : ScriptState) → IsReducevgLine (line_of line) → (IsSome old.session → answer ≡ reply.Refused refusal.Memory) → (old.session ≡ None → answer ≡ reply.Refused refusal.NoGroup) → new ≡ old
    → Before log old → IsLine log room line answer old new
reducevg_unread log room line answer old new reducevg on off same before = line_still log room line (line_of line) answer old new refl (of_reducevg (line_of line) reducevg) (one old.session refl) same before
  where
    one : (session : Option Core) → old.session ≡ session → most_refusals answer ≤ 1
    one None is = one_refused answer refusal.NoGroup (off is)
    one (Some core) is = one_refused answer refusal.Memory (on (subst IsSome (sym is) refl))

    by_session : (name disks : List ℕ) (session : Option Core) → old.session ≡ session → ReducevgDoes name disks old new answer
    by_session name disks None is = NoGroupForReducevg (subst (IsNotOn name) (sym is) tt) (off is, same)
    by_session name disks (Some core) is = let some : IsSome old.session = subst IsSome (sym is) refl in NoMemoryForReducevg some (on some, same)

    of_reducevg : (read : Result (Option Command) Misfit) → IsReducevgLine read → LineDoes log room read old new answer
    of_reducevg (Ok (Some (command.Reducevg name disks))) is = by_session name disks old.session refl
    of_reducevg read is = absurd is

-- the clock wasn't asked
pub asked_never : (read : Result (Option Command) Misfit) (before : ℕ) → IsReducevgLine read → before ≡ asked_after read before
asked_never (Ok (Some (command.Reducevg name disks))) before is = refl
asked_never read before is = absurd is

-- the clock was asked once more, as by a `mkvg`
pub asked_once : (read : Result (Option Command) Misfit) (before after : ℕ) → IsMkvgLine read → after ≡ next_count before → after ≡ asked_after read before
asked_once (Ok (Some (command.Mkvg force name mib disks))) before after is once = once
asked_once read before after is once = absurd is

-- the line is read so
pub asked_so : (read other : Result (Option Command) Misfit) (before after : ℕ) → read ≡ other → after ≡ asked_after other before → after ≡ asked_after read before
asked_so read other before after is so = subst (λ (r : Result (Option Command) Misfit). after ≡ asked_after r before) (sym is) so

-- a command that is this one
pub of_command : (log : Log) (room : Room) (it other : Command) (old new : ScriptState) (answer : Reply) → it ≡ other → CommandDoes log room other old new answer → CommandDoes log room it old new answer
of_command log room it other old new answer is does = subst (λ (c : Command). CommandDoes log room c old new answer) (sym is) does

-- so it ends,
pub done_by : {S : Type 0} (device : S → Device) (room : Room) (it other : Command) (old new : Stage S) (answer : Reply) (before after asked now : ℕ) → it ≡ other
    → CommandEnds device (λ log. CommandDoes log room other) (IsOrder (Ok (Some other))) (role_of (Ok (Some other))) old new answer before after → now ≡ asked_after (Ok (Some other)) asked → CommandIsDone device room it old new answer before after asked now
done_by device room it other old new answer before after asked now is ends count =
    subst (λ (c : Command). CommandIsDone device room c old new answer before after asked now) (sym is) (record { ends = ends; asked = count })

-- so one whose stage was left
pub served_by : {S : Type 0} (device : S → Device) (room : Room) (it other : Command) (old kept : Stage S) (answer : Reply) (new : Stage S) (says : Reply) (last asked : ℕ) → it ≡ other → IsLeftBy device kept answer new → says ≡ answer
    → CommandEnds device (λ log. CommandDoes log room other) (IsOrder (Ok (Some other))) (role_of (Ok (Some other))) old new answer last last → asked ≡ asked_after (Ok (Some other)) asked → CommandIsDone device room it old new says last last asked asked
served_by device room it other old kept answer new says last asked is left same ends count =
    done_by device room it other old new says last last asked asked is
    (subst (λ (r : Reply). CommandEnds device (λ log. CommandDoes log room other) (IsOrder (Ok (Some other))) (role_of (Ok (Some other))) old new r last last) (sym same) ends) count

-- an order of which something was heard goes on as it is
pub order_left : {S : Type 0} (device : S → Device) (Does : Log → ScriptState → ScriptState → Reply → Type 0) (old kept : Stage S) (answer : Reply) → EndsUnasked device Does (Unit {0}) Aside old kept answer → is_unheard answer ≡ false
    → (left : Stage S) → IsLeftBy device kept answer left → EndsUnasked device Does (Unit {0}) Aside old left answer
order_left device Does old kept answer ends heard left its = subst (λ (s : Stage _). EndsUnasked device Does (Unit {0}) Aside old s answer) (sym (left_still device kept answer heard between left its)) ends
  where
    between : IsBetweenStage device kept
    between = (ends 0).goes.between (λ stuck. let e : true ≡ false = sym (ap is_unheard stuck) ∙ heard in cc e)

-- and one that changes nothing
pub listed_by : {S : Type 0} (device : S → Device) (room : Room) (it other : Command) (old new : Stage S) (answer : Reply) (last asked : ℕ) → it ≡ other → IsFittingStage old → IsBetweenStage device old → new ≡ old → most_refusals answer ≤ 1
    → ((log : Log) → state_in device new last ≡ state_in device old last → CommandDoes log room other (state_in device old last) (state_in device new last) answer) → asked ≡ asked_after (Ok (Some other)) asked
    → CommandIsDone device room it old new answer last last asked asked
listed_by device room it other old new answer last asked is fits between same one does count =
    done_by device room it other old new answer last last asked asked is
    (record {
      does = does (without_facts (history_in old)) (ap (λ (s : Stage _). state_in device s last) same);
      goes = same_goes (history_in old).run (role_of (Ok (Some other))) answer (state_in device old last) (state_in device new last) between one (ap (λ (s : Stage _). state_in device s last) same);
      rooms = ap (λ (s : Stage _). without_facts (history_in s)) same;
      fits = subst IsFittingStage (sym same) fits;
      orders = λ none. ap (λ (s : Stage _). (device (shelf_in s)).orders) same;
    })
    count

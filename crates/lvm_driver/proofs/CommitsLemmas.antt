-- A move that is done is committed, once turns find nothing to do.
use Rattle.std.proofs.Common.{◌≡◌, ◌≢◌, ℕ, Bool, true, false, List, length, length-set, Option, None, Some, if◌then◌else◌, refl, sym, ap, subst, ◌∙◌}
use Rattle.std.specs.Prelude.{Err, IfErr, IfSome, Ok, Result}
use Rattle.std.specs.Option.{option_map_or}
use Rattle.lvm_num.specs.declared.descriptor.Descriptor.{Descriptor}
use Rattle.lvm_num.specs.Descriptor.{IsValid}
use Rattle.lvm_num.specs.DescriptorBytes.{descriptor_bytes}
use Rattle.lvm_moved.specs.Moved.{moved_descriptor}
use Rattle.lvm_disk.specs.Device.{Device, HasSectors}
use Rattle.lvm_commit.specs.declared.commit.CommitEnd.{CommitEnd}
use Rattle.lvm_commit.specs.declared.commit.CommitEnd.TheVariants as commit_end
use Rattle.lvm_commit.specs.Settling.{IsContentOf}
use Rattle.lvm_commit.proofs.passed.Vgda.{spelled_is_read}
use Rattle.lvm_session.specs.declared.answers.CopyState.TheVariants as stage
use Rattle.lvm_session.specs.declared.bringing.OpenCopy.{OpenCopy}
use Rattle.lvm_session.specs.declared.session.Session.{Session}
use Rattle.lvm_session.specs.Bringing.{with_back}
use Rattle.lvm_session.specs.Calls.{copy_state}
use Rattle.lvm_session.specs.Dark.{hand_of_copy, with_hands}
use Rattle.lvm_session.specs.Fields.{core_of}
use Rattle.lvm_session.specs.Rooms.{SameRooms}
use Rattle.lvm_session.specs.Sound.{IsCopy, IsSound}
use Rattle.lvm_session.specs.State.{Core, State, state}
use Rattle.lvm_core.specs.Committing.{with_one_out}
use Rattle.lvm_core.specs.declared.fault.CommitFault.{CommitFault}
use Rattle.lvm_core.specs.declared.fault.CommitFault.TheVariants as fault
use Rattle.lvm_core.proofs.RecordLemmas.{descriptor_fits}
use Rattle.lvm_keeps_events.specs.Telling.{SameRoom}
use Rattle.lvm_keeps_events.proofs.passed.Keeps.{back_long, hands_long}
use Rattle.lvm_move.specs.Moving.{CommitsMove, Misses, MoveEnds, Writes, missing_destination}
use Rattle.lvm_move_keeps.specs.Drained.{IsDrainedMoving}
use Rattle.lvm_move_keeps.specs.Keeping.{HasMovedTo}
use Rattle.lvm_move_keeps.proofs.DrainedLemmas.{done_is_judged, done_may_commit, drained_is_done}
use Rattle.lvm_move_keeps.proofs.StandsLemmas.{move_has_moved}
use Rattle.lvm_going.specs.Frames.{is_moving}
use Rattle.lvm_going.specs.Going.{CommitsItsMove, CommitsOpenMove, LeavesMoving, MovingStep, closed_after}
use Rattle.lvm_going.specs.Moves.{next_in, next_of}
use Rattle.lvm_going.proofs.GoingLemmas.{moving_keeps}
use Rattle.lvm_going.proofs.JoinsLemmas.{moving_one}
use Rattle.lvm_driver.specs.Commits.{IsReadyMove}
use Rattle.lvm_driver.specs.Drains.{IsDrained}
use Rattle.lvm_driver.proofs.FieldsLemmas.{AreSound, Stay}
use Rattle.lvm_driver.proofs.RoomsLemmas.{rooms_stay}

-- ---- the copy that moves

record IsMovingCopy (core : Core) : Type 0 where
  copy : OpenCopy
  is_open : core.copy ≡ Some copy
  moves : copy.moves ≡ true

moving_copy : (core : Core) → is_moving core ≡ true → IsMovingCopy core
moving_copy core moves = by core.copy refl
  where
    by : (m : Option OpenCopy) → core.copy ≡ m → IsMovingCopy core
    by None is = absurd (let e : false ≡ true = sym (ap (λ m. option_map_or (λ (c : OpenCopy). c.moves) m false) is) ∙ moves in cc e)
    by (Some c) is = record { copy = c; is_open = is; moves = sym (ap (λ m. option_map_or (λ (c : OpenCopy). c.moves) m false) is) ∙ moves }

-- ---- when it may be committed

-- the copy that moves, once turns find nothing to do
pub record IsDrainedMove (s : State) (next : Descriptor) : Type 0 where
  pub copy : OpenCopy
  pub drained : IsDrainedMoving s copy
  pub is : IsReadyMove s next

pub drained_move : (s : State) (next : Descriptor) → IsSound s → IsDrained s → is_moving s.core ≡ true → copy_state s.core ≡ stage.Done → s.core.status.stamp.epoch ≢ 0 → Some next ≡ next_of s.core → IsDrainedMove s next
drained_move s next sound drained moves done epoch ready =
    record { copy = c; drained = now; is = record { ready = sym ready; may = done_may_commit s c next sound now moved epoch; settled = (drained_is_done s c sound now).committed } }
  where
    its : IsMovingCopy s.core
    its = moving_copy s.core moves

    c : OpenCopy
    c = its.copy

    copy : IsCopy s.core c
    copy = subst (λ m. IfSome m (IsCopy s.core)) its.is_open (sound.on drained.on).going.copy

    now : IsDrainedMoving s c
    now = record {
      on = drained.on;
      votes = drained.votes;
      none = drained.none;
      idle = drained.idle;
      is_open = its.is_open;
      done = done_is_judged s c sound drained.on its.is_open its.moves done;
    }

    by_flag : (b : Bool) → b ≡ true → Some next ≡ (if b then Some (moved_descriptor s.core.descriptor c.lv c.lp c.copy c.pp) else None) → next ≡ moved_descriptor s.core.descriptor c.lv c.lp c.copy c.pp
    by_flag true is e = cc e
    by_flag false is e = absurd (cc is)

    is : next ≡ moved_descriptor s.core.descriptor c.lv c.lp c.copy c.pp
    is = by_flag c.moves its.moves (ready ∙ ap (next_in s.core.descriptor) its.is_open)

    moved : HasMovedTo c.lv c.lp c.pp s.core.descriptor next
    moved = subst (HasMovedTo c.lv c.lp c.pp s.core.descriptor) (sym is) (move_has_moved s.core c sound.fitting.valid copy its.moves)

-- the bytes with which a descriptor is ready are those of its record
pub content_is : (d : Descriptor) → IsValid d → IsContentOf d (descriptor_bytes d)
content_is d valid = record { fits = descriptor_fits d valid; describes = spelled_is_read d valid }

-- ---- what the commit leaves

one_out_long : (pool : List Bool) → length (with_one_out pool) ≡ length pool
one_out_long pool = length-set pool 0 true

module _ (next : Descriptor) (content : List ℕ) (before after : ℕ) (old new : State) (answer : Result (Unit {0}) CommitFault) where
  commit_room : CommitsMove next content before after old new answer → SameRoom old.core new.core
  commit_room (Misses disk missing is same patience) = record { most = ap (λ (s : State). s.core.most) same; long = ap (λ (s : State). length s.core.pool) same }
  commit_room (Writes there w) = by w.how w.goes
    where
      back : (pool : List Bool) → length pool ≡ length old.core.pool → length (with_hands (with_back pool (hand_of_copy old.core.copy)) old.core.requests) ≡ length old.core.pool
      back pool long = hands_long old.core.requests (with_back pool (hand_of_copy old.core.copy)) ∙ back_long pool (hand_of_copy old.core.copy) ∙ long

      by : (how : CommitEnd) → MoveEnds next w.last w.homes old.core new.core how answer → SameRoom old.core new.core
      by (commit_end.Done buf) goes = record { most = ap (λ (c : Core). c.most) goes.1.is; long = ap (λ (c : Core). length c.pool) goes.1.is }
      by (commit_end.WentOff have total buf) goes = record { most = ap (λ (c : Core). c.most) goes.1; long = ap (λ (c : Core). length c.pool) goes.1 ∙ back old.core.pool refl }
      by commit_end.Dark goes = record { most = ap (λ (c : Core). c.most) goes.1; long = ap (λ (c : Core). length c.pool) goes.1 ∙ back (with_one_out old.core.pool) (one_out_long old.core.pool) }
      by commit_end.Stuck goes = record { most = ap (λ (c : Core). c.most) goes.1; long = ap (λ (c : Core). length c.pool) goes.1 ∙ one_out_long old.core.pool }

  -- its destination isn't missing
  disk_stays : missing_destination old.core ≡ None → CommitsMove next content before after old new answer → IfErr answer (λ why. (disk : ℕ) → why ≡ fault.DiskFailed disk → ⊥)
  disk_stays there does = told answer (none does)
    where
      told : (a : Result (Unit {0}) CommitFault) → ((disk : ℕ) → a ≡ Err (fault.DiskFailed disk) → ⊥) → IfErr a (λ why. (disk : ℕ) → why ≡ fault.DiskFailed disk → ⊥)
      told (Ok done) never = tt
      told (Err why) never = λ disk is. never disk (ap (λ (x : CommitFault). Err x) is)

      none : CommitsMove next content before after old new answer → (disk : ℕ) → answer ≡ Err (fault.DiskFailed disk) → ⊥
      none (Misses lost missing is same patience) disk says = let e : Some lost ≡ None = sym missing ∙ there in cc e
      none (Writes there w) disk says = by w.how w.goes
        where
          by : (how : CommitEnd) → MoveEnds next w.last w.homes old.core new.core how answer → ⊥
          by (commit_end.Done buf) goes = let e : Ok tt ≡ Err (fault.DiskFailed disk) = sym goes.0 ∙ says in cc e
          by (commit_end.WentOff have total buf) goes = let e : Err (fault.WentOff have total) ≡ Err (fault.DiskFailed disk) = sym goes.0 ∙ says in cc e
          by commit_end.Dark goes = let e : Err fault.Dark ≡ Err (fault.DiskFailed disk) = sym goes.0 ∙ says in cc e
          by commit_end.Stuck goes = let e : Err fault.Stuck ≡ Err (fault.DiskFailed disk) = sym goes.0 ∙ says in cc e

-- the copy is closed, and the room stays
closed_room : (answer : Result (Unit {0}) CommitFault) (core : Core) → SameRoom core (closed_after answer core)
closed_room (Ok done) core = record { most = refl; long = refl }
closed_room (Err fault.Stuck) core = record { most = refl; long = refl }
closed_room (Err fault.Dark) core = record { most = refl; long = refl }
closed_room (Err (fault.WentOff have total)) core = record { most = refl; long = refl }
closed_room (Err (fault.DiskFailed disk)) core = record { most = refl; long = refl }

none_open : (answer : Result (Unit {0}) CommitFault) (core : Core) → (closed_after answer core).copy ≡ None
none_open (Ok done) core = refl
none_open (Err fault.Stuck) core = refl
none_open (Err fault.Dark) core = refl
none_open (Err (fault.WentOff have total)) core = refl
none_open (Err (fault.DiskFailed disk)) core = refl

-- it is committed from the bytes with which it is ready
pub opens_commit : (before after : ℕ) (old written : State) (new : Core) (answer : Result (Unit {0}) CommitFault) (next d : Descriptor) (content : List ℕ) → next_of old.core ≡ Some next → d ≡ next → content ≡ descriptor_bytes next
    → CommitsMove d content before after old written answer → new ≡ closed_after answer written.core → HasSectors written.device → CommitsOpenMove before after old (state written.device new) answer
opens_commit before after old written new answer next d content ready same bytes does closed sectors = record {
  next = next;
  ready = ready;
  written = written;
  commits = subst (λ (xs : List ℕ). CommitsMove next xs before after old written answer) bytes (subst (λ (x : Descriptor). CommitsMove x content before after old written answer) same does);
  is = ap (state written.device) closed;
  sectors = sectors;
}

-- ---- the parts of a driver then

module _ (before after : ℕ) (old new : State) (answer : Result (Unit {0}) CommitFault) (it : CommitsOpenMove before after old new answer) where
  pub closes : new.core.copy ≡ None
  closes = ap (λ (s : State). s.core.copy) it.is ∙ none_open answer it.written.core

  room_stays : SameRoom old.core new.core
  room_stays =
      let one = commit_room it.next (descriptor_bytes it.next) before after old it.written answer it.commits in
      let two = subst (λ (s : State). SameRoom it.written.core s.core) (sym it.is) (closed_room answer it.written.core) in
      record { most = two.most ∙ one.most; long = two.long ∙ one.long }

pub ready : {next : Descriptor} (device : Device) (old : Session) → AreSound device old (Some next) → IsDrained (state device (core_of old)) → is_moving (core_of old) ≡ true → copy_state (core_of old) ≡ stage.Done → old.updater.stamp.epoch ≢ 0
    → IsReadyMove (state device (core_of old)) next
ready {next} device old it drained moves done epoch = (drained_move (state device (core_of old)) next it.1 drained moves done epoch it.2).is

module _ {next : Descriptor} (device now : Device) (old new : Session) (it : AreSound device old (Some next)) (same : SameRooms old new) (drained : IsDrained (state device (core_of old)))
    (moves : is_moving (core_of old) ≡ true) (done : copy_state (core_of old) ≡ stage.Done) (epoch : old.updater.stamp.epoch ≢ 0) where
  abbrev was : State
  was = state device (core_of old)

  abbrev is : State
  is = state now (core_of new)

  drained_now : IsDrainedMove was next
  drained_now = drained_move was next it.1 drained moves done epoch it.2

  pub commit_on : (before after : ℕ) (answer : Result (Unit {0}) CommitFault) → CommitsOpenMove before after was is answer → Stay LeavesMoving device now old new None
  commit_on before after answer commits = record {
    sound = (
      rooms_stay old new (room_stays before after was is answer commits) same it.0,
      moving_keeps was is it.1 step,
      sym (ap (next_in (core_of new).descriptor) (closes before after was is answer commits)),
    );
    left = moving_one step;
  }
    where
      step : MovingStep was is
      step = CommitsItsMove before after answer drained_now.copy drained_now.drained epoch commits

  pub no_disk_fails : (before after : ℕ) (answer : Result (Unit {0}) CommitFault) → CommitsOpenMove before after was is answer → IfErr answer (λ why. (disk : ℕ) → why ≡ fault.DiskFailed disk → ⊥)
  no_disk_fails before after answer commits = disk_stays commits.next (descriptor_bytes commits.next) before after was commits.written answer drained_now.is.may.there commits.commits

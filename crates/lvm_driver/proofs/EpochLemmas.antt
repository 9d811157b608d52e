-- The stamp stays one of the same epoch over turns, and where a move begins or is committed.
use Rattle.std.proofs.Common.{◌≡◌, ◌⊎◌, inl, inr, ℕ, Bool, true, false, ◌&&◌, not, if◌then◌else◌, Option, Some, None, refl, sym, ap, ◌∙◌}
use Rattle.std.specs.Prelude.{MatchOption, Result, Ok, Err}
use Rattle.lvm_num.specs.Buffer.{Buffer}
use Rattle.lvm_num.specs.DescriptorBytes.{descriptor_bytes}
use Rattle.lvm_num.specs.declared.place.Pp.{Pp}
use Rattle.lvm_num.specs.declared.record.Stamp.{Stamp}
use Rattle.lvm_num.specs.declared.status.Status.{Status}
use Rattle.lvm_disk.specs.Counts.{Counts}
use Rattle.lvm_disk.specs.Paths.{Here, Path, Then}
use Rattle.lvm_status.specs.declared.change.Change.{Change}
use Rattle.lvm_status.specs.declared.change.Change.TheVariants as change
use Rattle.lvm_status.specs.Update.{Stored, Updates, is_held, is_owed, no_disks, seen}
use Rattle.lvm_status.specs.Calls.{after_end, closed, comes_held, given_up, with_commit, with_end as with_write_end, with_start as with_write_start, with_wanted}
use Rattle.lvm_commit.specs.declared.commit.CommitEnd.{CommitEnd}
use Rattle.lvm_commit.specs.declared.commit.CommitEnd.TheVariants as commit_end
use Rattle.lvm_core.specs.declared.fault.CommitFault.TheVariants as fault
use Rattle.lvm_session.specs.declared.answers.OpenFault.{OpenFault}
use Rattle.lvm_session.specs.declared.answers.OpenFault.TheVariants as denial
use Rattle.lvm_session.specs.declared.answers.Turned.{Turned}
use Rattle.lvm_session.specs.declared.answers.Turned.TheVariants as turned
use Rattle.lvm_session.specs.declared.bringing.OpenCopy.{OpenCopy}
use Rattle.lvm_session.specs.declared.bringing.Step.{Step}
use Rattle.lvm_session.specs.declared.bringing.Step.TheVariants as step
use Rattle.lvm_session.specs.declared.event.Event.{Event}
use Rattle.lvm_session.specs.declared.event.Event.TheVariants as event
use Rattle.lvm_session.specs.declared.flown.Owner.{Owner}
use Rattle.lvm_session.specs.declared.flown.Owner.TheVariants as owner
use Rattle.lvm_session.specs.declared.open.Power.TheVariants as power
use Rattle.lvm_session.specs.State.{Core, State}
use Rattle.lvm_session.specs.Bringing.{is_whole}
use Rattle.lvm_session.specs.Calls.{OpenMoveGives, OpensMove, move_fault}
use Rattle.lvm_session.specs.Ends.{CopyStepsOn, Learns, NoteLeaves, StepLearns, StepLeaves}
use Rattle.lvm_session.specs.Events.{PutsInFlight, StartsStatus}
use Rattle.lvm_session.specs.Judging.{is_running}
use Rattle.lvm_session.specs.Marks.{WantsDirtyIf, WantsStale}
use Rattle.lvm_session.specs.Turns.{Darkens, FinishMakes, Finishes, Makes, Moves, NoStart, OnMakes, TurnMakes, WasDark, WasOff, WasOn}
use Rattle.lvm_move.specs.Moving.{CommitsMove, Misses, MoveEnds, Writes}
use Rattle.lvm_going.specs.Going.{CommitsOpenMove}
use Rattle.lvm_driver.specs.Drains.{IsTurn}

-- ---- what is noted of updates

-- the stamp stays
abbrev Stays : Updates → Updates → Type 0
Stays a b = b.stamp ≡ a.stamp

closed_stays : (u : Updates) → Stays u (closed u)
closed_stays u = by (is_held u && not (is_owed u))
  where
    by : (b : Bool) → Stays u (if b then record u { in_flight = None; unstarted = no_disks; started = no_disks; written = no_disks; failed = no_disks } else u)
    by true = refl
    by false = refl

wanted_stays : (u : Updates) (what : Change) (wanted : Status) → Stays u (with_wanted u what wanted)
wanted_stays u what wanted = closed_stays (record u { wanted = wanted; unstarted = given_up what u.unstarted })

after_stays : (u : Updates) (disk : ℕ) (ok : Bool) (wanted : Status) → Stays u (after_end u disk ok wanted)
after_stays u disk ok wanted = by ok (comes_held u (with_write_end u disk ok wanted))
  where
    by : (well commits : Bool) → Stays u (closed (if commits then with_commit (with_write_end u disk well wanted) else with_write_end u disk well wanted))
    by true true = closed_stays (with_commit (with_write_end u disk true wanted))
    by true false = closed_stays (with_write_end u disk true wanted)
    by false true = closed_stays (with_commit (with_write_end u disk false wanted))
    by false false = closed_stays (with_write_end u disk false wanted)

-- ---- the stored status

abbrev StampStays : Stored → Stored → Type 0
StampStays old new = new.stamp ≡ old.stamp

of_seen : (old new : Stored) (u : Updates) → Stays (seen old) u → seen new ≡ u → StampStays old new
of_seen old new u stays is = ap (λ (x : Updates). x.stamp) is ∙ stays

at_once : (old new : Stored) → new ≡ old → StampStays old new
at_once old new same = ap (λ (s : Stored). s.stamp) same

stale_stays : (due : Pp → Bool) (old new : Stored) → WantsStale due old new → StampStays old new
stale_stays due old new it = of_seen old new (record (seen old) { wanted = new.wanted }) refl it.rest

-- ---- the ends of transfers

note_stays : (disk : ℕ) (ok : Bool) (old new : Core) → NoteLeaves ok disk old new → StampStays old.status new.status
note_stays disk true old new is = at_once old.status new.status (ap (λ (c : Core). c.status) is)
note_stays disk false old new it =
    stale_stays _ it.0 new.status it.2.marks ∙ of_seen old.status it.0 (with_wanted (seen old.status) (change.Missing disk) it.0.wanted) (wanted_stays (seen old.status) (change.Missing disk) it.0.wanted) it.1.rest

on_stays : (whole : Bool) (core next : Core) (c : OpenCopy) → CopyStepsOn whole core c next → StampStays core.status next.status
on_stays false core next c is = at_once core.status next.status (ap (λ (x : Core). x.status) is)
on_stays true core next c it = of_seen core.status next.status (with_wanted (seen core.status) (change.Fresh c.pp) next.status.wanted) (wanted_stays (seen core.status) (change.Fresh c.pp) next.status.wanted) it.0.rest

step_stays : (at_step : Step) (ok : Bool) (old new : Core) (at : ℕ) (c : OpenCopy) (buf : Buffer) → StepLeaves at_step ok old at c buf new → StampStays old.status new.status
step_stays step.Idle ok old new at c buf it = absurd it
step_stays (step.Read hand) ok old new at c buf it = absurd it
step_stays (step.Reading source) true old new at c buf is = at_once old.status new.status (ap (λ (x : Core). x.status) is)
step_stays (step.Reading source) false old new at c buf it = stale_stays _ old.status new.status it.reviews.marks
step_stays step.Writing true old new at c buf it = stale_stays _ it.on.status new.status it.reviews.marks ∙ on_stays (is_whole old it.next) _ it.on it.next it.goes
step_stays step.Writing false old new at c buf it = stale_stays _ old.status new.status it.marks

copy_stays : (runs ok : Bool) (old new : Core) (at : ℕ) (c : OpenCopy) (buf : Buffer) → StepLearns runs old at c ok buf new → StampStays old.status new.status
copy_stays true ok old new at c buf it = step_stays c.step ok old new at c buf it
copy_stays false ok old new at c buf is = at_once old.status new.status (ap (λ (x : Core). x.status) is)

learned_stays : (whose : Owner) (ok : Bool) (old new : Core) (at : ℕ) (buf : Buffer) → Learns whose old at ok buf new → StampStays old.status new.status
learned_stays (owner.Data id target) ok old new at buf it = stale_stays _ old.status new.status it.entails.marks
learned_stays (owner.Status disk) ok old new at buf it =
    stale_stays _ it.status new.status it.reviews.marks ∙ of_seen old.status it.status (after_end (seen old.status) disk ok it.status.wanted) (after_stays (seen old.status) disk ok it.status.wanted) it.ended
learned_stays (owner.Note disk) ok old new at buf it = note_stays disk ok _ new it
learned_stays owner.Copy ok old new at buf it = copy_stays (is_running it.copy) ok old new at it.copy buf it.learns

-- ---- turns

-- the epoch stays
abbrev pub EpochStays : Core → Core → Type 0
EpochStays old new = new.status.stamp.epoch ≡ old.status.stamp.epoch

of_stamp : (old new : Core) → StampStays old.status new.status → EpochStays old new
of_stamp old new same = ap (λ (s : Stamp). s.epoch) same

-- an update begins under the next stamp
start_epoch : (old new : State) → StartsStatus old new → EpochStays old.core new.core
start_epoch old new made = by made.begins
  where
    by : PutsInFlight old.core.status made.begun → EpochStays old.core new.core
    by (inl same) = of_stamp old.core new.core (ap (λ (x : Updates). x.stamp) (made.started ∙ ap (λ (s : Stored). with_write_start (seen s) (Some made.disk)) same.1))
    by (inr begins) = ap (λ (x : Updates). x.stamp.epoch) (made.started ∙ ap (λ (x : Updates). with_write_start x (Some made.disk)) begins.1)

module _ (old new : State) where
  dirty_epoch : (is : Bool) (lv : ℕ) → WantsDirtyIf is lv old.core.status new.core.status → EpochStays old.core new.core
  dirty_epoch false lv same = of_stamp old.core new.core (at_once old.core.status new.core.status same)
  dirty_epoch true lv dirty = of_stamp old.core new.core
      (of_seen old.core.status new.core.status (with_wanted (seen old.core.status) (change.Dirty lv) new.core.status.wanted) (wanted_stays (seen old.core.status) (change.Dirty lv) new.core.status.wanted) dirty.rest)

  still_epoch : new.core.status ≡ old.core.status → EpochStays old.core new.core
  still_epoch same = ap (λ (s : Stored). s.stamp.epoch) same

  event_epoch : (it : Event) → Makes it old new → EpochStays old.core new.core
  event_epoch (event.Land place how) made = still_epoch (ap (λ (s : State). s.core.status) made.is)
  event_epoch (event.Admit place) made = dirty_epoch _ _ made.dirty
  event_epoch (event.Pin place) made = still_epoch (ap (λ (s : State). s.core.status) made.is)
  event_epoch event.StartStatus made = start_epoch old new made
  event_epoch (event.StartNote place disk) made = still_epoch (ap (λ (s : State). s.core.status) made.is)
  event_epoch (event.StartData place target) made = still_epoch (ap (λ (s : State). s.core.status) made.is)
  event_epoch event.ReadCopy made = still_epoch (ap (λ (s : State). s.core.status) made.is)
  event_epoch event.WriteCopy made = still_epoch (ap (λ (s : State). s.core.status) made.is)

  dark_is : Darkens old new → new.core.power ≡ power.Dark
  dark_is it = ap (λ (c : Core). c.power) it.is

  finish_epoch : (new.core.power ≡ power.Dark → ⊥) → (answered : Turned) → FinishMakes old new answered → EpochStays old.core new.core
  finish_epoch lit turned.Moved made = of_stamp old.core new.core (learned_stays made.1.row.owner made.1.ok old.core new.core made.0 made.1.buf made.1.learns)
  finish_epoch lit turned.Idle (inl finds) = still_epoch (ap (λ (c : Core). c.status) finds.is)
  finish_epoch lit turned.Idle (inr nothing) = still_epoch (ap (λ (s : State). s.core.status) nothing.is)
  finish_epoch lit turned.Dark made = absurd (lit (dark_is made.1))
  finish_epoch lit turned.Off made = still_epoch (ap (λ (s : State). s.core.status) made.is)

  on_epoch : (new.core.power ≡ power.Dark → ⊥) → (answered : Turned) → OnMakes old new answered → EpochStays old.core new.core
  on_epoch lit answered (Moves it event made is) = event_epoch it made
  on_epoch lit answered (NoStart it event start dark is) = absurd (lit (dark_is dark))
  on_epoch lit answered (Finishes none made) = finish_epoch lit answered made

  -- over a turn by which the session doesn't go dark
  pub turn_epoch : (answered : Turned) → (new.core.power ≡ power.Dark → ⊥) → TurnMakes old new answered → EpochStays old.core new.core
  turn_epoch answered lit (WasDark dark is same) = still_epoch (ap (λ (s : State). s.core.status) same)
  turn_epoch answered lit (WasOff off is same) = still_epoch (ap (λ (s : State). s.core.status) same)
  turn_epoch answered lit (WasOn on made) = on_epoch lit answered made

-- a session that was dark is so behind each turn
dark_on : (old new : State) (answered : Turned) → TurnMakes old new answered → old.core.power ≡ power.Dark → new.core.power ≡ power.Dark
dark_on old new answered (WasDark dark is same) was = ap (λ (s : State). s.core.power) same ∙ was
dark_on old new answered (WasOff off is same) was = ap (λ (s : State). s.core.power) same ∙ was
dark_on old new answered (WasOn on made) was = absurd (let e : power.On ≡ power.Dark = sym on ∙ was in cc e)

-- over turns behind which it isn't dark
pub turns_epoch : {P : State → Type 0} {first last : State} → (last.core.power ≡ power.Dark → ⊥) → Path IsTurn P first last → EpochStays first.core last.core
turns_epoch lit (Here here) = refl
turns_epoch {first = first} {last = last} lit (Then {m = mid} path turn there) =
    turn_epoch mid last turn.0 lit turn.1 ∙ turns_epoch (λ was. lit (dark_on mid last turn.0 turn.1 was)) path

-- ---- moves

-- where a move begins
pub opened_epoch : (counts : Counts) (old new : Core) (lv lp number : ℕ) (to : Pp) (answer : Result (Unit {0}) OpenFault) → OpenMoveGives counts old new lv lp number to answer → EpochStays old new
opened_epoch counts old new lv lp number to answer = by (move_fault old lv lp number to)
  where
    by : (m : Option OpenFault) → MatchOption m (((answer ≡ Ok tt) × OpensMove counts old new lv lp number to) ⊎ ((answer ≡ Err denial.Memory) × (new ≡ old))) (λ (why : OpenFault). (answer ≡ Err why) × (new ≡ old)) → EpochStays old new
    by None (inl it) = ap (λ (c : Core). c.status.stamp.epoch) it.1.is
    by None (inr it) = ap (λ (c : Core). c.status.stamp.epoch) it.1
    by (Some why) it = ap (λ (c : Core). c.status.stamp.epoch) it.1

-- and where one is committed
module _ (before after : ℕ) (old new : State) (it : CommitsOpenMove before after old new (Ok tt)) where
  written_epoch : CommitsMove it.next (descriptor_bytes it.next) before after old it.written (Ok tt) → EpochStays old.core it.written.core
  written_epoch (Misses disk missing is same patience) = absurd (let e : Ok tt ≡ Err (fault.DiskFailed disk) = is in cc e)
  written_epoch (Writes there w) = by w.how w.goes
    where
      by : (how : CommitEnd) → MoveEnds it.next w.last w.homes old.core it.written.core how (Ok tt) → EpochStays old.core it.written.core
      by (commit_end.Done back) goes = of_stamp (record old.core { status = w.last }) it.written.core (stale_stays _ w.last it.written.core.status goes.1.marks) ∙ w.leaves.numbers.epoch
      by (commit_end.WentOff have total back) goes = absurd (let e : Ok tt ≡ Err (fault.WentOff have total) = goes.0 in cc e)
      by commit_end.Dark goes = absurd (let e : Ok tt ≡ Err fault.Dark = goes.0 in cc e)
      by commit_end.Stuck goes = absurd (let e : Ok tt ≡ Err fault.Stuck = goes.0 in cc e)

  pub committed_epoch : EpochStays old.core new.core
  committed_epoch = ap (λ (s : State). s.core.status.stamp.epoch) it.is ∙ written_epoch it.commits

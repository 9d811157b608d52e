-- What a session leaves on its disks stays behind each moment after its own.
use Rattle.std.proofs.Common.{◌≡◌, inl, inr, ⊎_elim, ℕ, ◌+◌, ◌-◌, ◌^◌, ◌<◌, ◌≤◌, Bool, true, false, ◌&&◌, not, if◌then◌else◌, List, [], ◌∷◌, ◌++◌, length, Option, Some, None, refl, sym, ap, subst, ◌∙◌, arith, ◌⊎◌}
use Rattle.std.specs.Prelude.{IfSome, MatchOption, Result, Ok, Err, position, slice_get, ◌≢◌}
use Rattle.lvm_num.specs.declared.place.Pp.{Pp}
use Rattle.lvm_num.specs.declared.record.Kind.TheVariants as kind
use Rattle.lvm_num.specs.declared.record.Stamp.{Stamp}
use Rattle.lvm_num.specs.declared.status.Status.{Status}
use Rattle.lvm_num.specs.Buffer.{Buffer, Sector}
use Rattle.lvm_num.specs.Geometry.{data_start, sector_of}
use Rattle.lvm_num.specs.Record.{Frames, frame, record_sectors, slot_start, stamp_lt}
use Rattle.lvm_num.specs.Status.{IsValidStatus}
use Rattle.lvm_num.specs.StatusBytes.{status_bytes}
use Rattle.lvm_num.proofs.Lists.{all_at}
use Rattle.lvm_vol.specs.declared.entry.Outcome.{Outcome}
use Rattle.lvm_vol.specs.declared.entry.Outcome.TheVariants as outcome
use Rattle.lvm_vol.specs.Facts.{Cut, Fact}
use Rattle.lvm_vol.specs.Legal.{IsLater}
use Rattle.lvm_vol.specs.Log.{Log, cut_log, is_uncut, landed_fact, next_id, with_fact}
use Rattle.lvm_disk.specs.declared.shelf.Arrange.{Arrange}
use Rattle.lvm_disk.specs.Counts.{Counts}
use Rattle.lvm_disk.specs.Device.{Device, Flight, MayLeave, written}
use Rattle.lvm_disk.specs.Images.{LeavesNoMore}
use Rattle.lvm_disk.specs.Steps.{ArrangeGives, GoesDark, Starts}
use Rattle.lvm_disk.proofs.DeviceLemmas.{cut_leaves, done_leaves, failed_leaves, start_leaves}
use Rattle.lvm_disk.proofs.StepsLemmas.{arrange_leaves}
use Rattle.lvm_kept.specs.Contents.{note_sector}
use Rattle.lvm_kept.specs.Torn.{RecordWrite}
use Rattle.lvm_steps.specs.Behind.{beginning_at}
use Rattle.lvm_steps.specs.Laws.{IsOtherOrEarlier, LeavesBefore}
use Rattle.lvm_steps.proofs.LawsLemmas.Clock.{later_joins}
use Rattle.lvm_steps.proofs.LawsLemmas.Stamps.{session_is_before_later}
use Rattle.lvm_steps.proofs.LawsLemmas.Writes.{earlier_keep_before, notes_and_data_are_outside}
use Rattle.lvm_status.specs.declared.change.Change.{Change}
use Rattle.lvm_status.specs.declared.change.Change.TheVariants as change
use Rattle.lvm_status.specs.Update.{Stored, Updates, is_held, is_owed, no_disks, seen}
use Rattle.lvm_status.specs.Calls.{after_end, closed, comes_held, given_up, with_commit, with_end as with_write_end, with_start as with_write_start, with_update, with_wanted}
use Rattle.lvm_commit.proofs.RecordLemmas.{status_fits}
use Rattle.lvm_rec.specs.Homes.{next_slot}
use Rattle.lvm_path.specs.declared.ask.Ask.{Ask}
use Rattle.lvm_path.specs.declared.target.Target.{Target}
use Rattle.lvm_path.specs.Asks.{at_of}
use Rattle.lvm_path.specs.Targets.{is_begun}
use Rattle.lvm_session.specs.declared.answers.AskFault.{AskFault}
use Rattle.lvm_session.specs.declared.answers.CopyFault.{CopyFault}
use Rattle.lvm_session.specs.declared.answers.OpenFault.{OpenFault}
use Rattle.lvm_session.specs.declared.answers.OpenFault.TheVariants as denial
use Rattle.lvm_session.specs.declared.answers.Taken.{Taken}
use Rattle.lvm_session.specs.declared.answers.Taken.TheVariants as answer
use Rattle.lvm_session.specs.declared.answers.Turned.{Turned}
use Rattle.lvm_session.specs.declared.answers.Turned.TheVariants as turned
use Rattle.lvm_session.specs.declared.bringing.OpenCopy.{OpenCopy}
use Rattle.lvm_session.specs.declared.bringing.Step.{Step}
use Rattle.lvm_session.specs.declared.bringing.Step.TheVariants as step
use Rattle.lvm_session.specs.declared.event.Event.{Event}
use Rattle.lvm_session.specs.declared.event.Event.TheVariants as event
use Rattle.lvm_session.specs.declared.flown.Owner.{Owner}
use Rattle.lvm_session.specs.declared.flown.Owner.TheVariants as owner
use Rattle.lvm_session.specs.declared.open.Open.{Open}
use Rattle.lvm_session.specs.declared.open.Power.TheVariants as power
use Rattle.lvm_session.specs.State.{Core, State}
use Rattle.lvm_session.specs.Bringing.{is_whole}
use Rattle.lvm_session.specs.Calls.{OpenGives, OpenMoveGives, Opens, OpensMove, move_fault, SubmitGives, TakeAt, TakeGives, TakesLanded, ask_fault, copy_fault, is_asked, submitted}
use Rattle.lvm_session.specs.Dark.{all_dark, is_cut, landings}
use Rattle.lvm_session.specs.Enabled.{target_next}
use Rattle.lvm_session.specs.Ends.{Ends, EndsAs, CopyStepsOn, Learns, NoteLeaves, StepLearns, StepLeaves}
use Rattle.lvm_session.specs.Events.{PutsInFlight, StartsStatus}
use Rattle.lvm_session.specs.Judging.{is_running, is_waiting}
use Rattle.lvm_session.specs.Marks.{WantsDirtyIf, WantsStale}
use Rattle.lvm_session.specs.Requests.{IsOpenOne, IsTarget}
use Rattle.lvm_session.specs.Turns.{ArrangesSession, Darkens, FinishMakes, Finishes, Makes, Moves, NoStart, OnMakes, TurnMakes, WasDark, WasOff, WasOn}
use Rattle.lvm_session.specs.Sound.{IsSound}
use Rattle.lvm_crash.proofs.DeviceLemmas.{writes_at}
use Rattle.lvm_crash.proofs.OwnedLemmas.{reads_none}
use Rattle.lvm_tie.specs.Stamps.{AreValid, ArrangeLeavesBefore, CallsStay, IsStamped, KeepsEpoch, StaysOf, TurnIsEarlier, TurnKeepsEpoch, TurnLeavesBefore}
use Rattle.lvm_tie.proofs.SessionEndsLemmas.Grounds.{Ground, learned_same}
use Rattle.lvm_tie.proofs.LandingsLemmas.Causes.{waits_unless}

-- ---- the stamp

-- the stamp stays, and no update is in flight that wasn't
abbrev Goes : Updates → Updates → Type 0
Goes a b = (b.stamp ≡ a.stamp) × ((u : Status) → b.in_flight ≡ Some u → a.in_flight ≡ Some u)

then_goes : (a b c : Updates) → Goes a b → Goes b c → Goes a c
then_goes a b c one two = (two.0 ∙ one.0, λ u flies. one.1 u (two.1 u flies))

closed_goes : (u : Updates) → Goes u (closed u)
closed_goes u = by (is_held u && not (is_owed u))
  where
    by : (b : Bool) → Goes u (if b then record u { in_flight = None; unstarted = no_disks; started = no_disks; written = no_disks; failed = no_disks } else u)
    by true = (refl, λ x e. absurd (cc e))
    by false = (refl, λ x e. e)

wanted_goes : (u : Updates) (what : Change) (wanted : Status) → Goes u (with_wanted u what wanted)
wanted_goes u what wanted = closed_goes (record u { wanted = wanted; unstarted = given_up what u.unstarted })

after_goes : (u : Updates) (disk : ℕ) (ok : Bool) (wanted : Status) → Goes u (after_end u disk ok wanted)
after_goes u disk ok wanted = by ok (comes_held u (with_write_end u disk ok wanted))
  where
    by : (well commits : Bool) → Goes u (closed (if commits then with_commit (with_write_end u disk well wanted) else with_write_end u disk well wanted))
    by true true = closed_goes (with_commit (with_write_end u disk true wanted))
    by true false = closed_goes (with_write_end u disk true wanted)
    by false true = closed_goes (with_commit (with_write_end u disk false wanted))
    by false false = closed_goes (with_write_end u disk false wanted)

of_seen : (old new : Stored) (u : Updates) → Goes (seen old) u → seen new ≡ u → Goes (seen old) (seen new)
of_seen old new u goes is = subst (λ (x : Updates). Goes (seen old) x) (sym is) goes

at_once : (old new : Stored) → new ≡ old → Goes (seen old) (seen new)
at_once old new same = of_seen old new (seen old) (refl, λ u e. e) (ap seen same)

stale_goes : (due : Pp → Bool) (old new : Stored) → WantsStale due old new → Goes (seen old) (seen new)
stale_goes due old new it = of_seen old new (record (seen old) { wanted = new.wanted }) (refl, λ u e. e) it.rest

-- ---- the ends of transfers

note_goes : (disk : ℕ) (ok : Bool) (old new : Core) → NoteLeaves ok disk old new → Goes (seen old.status) (seen new.status)
note_goes disk true old new is = at_once old.status new.status (ap (λ (c : Core). c.status) is)
note_goes disk false old new it = then_goes (seen old.status) (seen it.0) (seen new.status)
    (of_seen old.status it.0 (with_wanted (seen old.status) (change.Missing disk) it.0.wanted) (wanted_goes (seen old.status) (change.Missing disk) it.0.wanted) it.1.rest)
    (stale_goes _ it.0 new.status it.2.marks)

on_goes : (whole : Bool) (core next : Core) (c : OpenCopy) → CopyStepsOn whole core c next → Goes (seen core.status) (seen next.status)
on_goes false core next c is = at_once core.status next.status (ap (λ (x : Core). x.status) is)
on_goes true core next c it = of_seen core.status next.status (with_wanted (seen core.status) (change.Fresh c.pp) next.status.wanted) (wanted_goes (seen core.status) (change.Fresh c.pp) next.status.wanted) it.0.rest

step_goes : (at_step : Step) (ok : Bool) (old new : Core) (at : ℕ) (c : OpenCopy) (buf : Buffer) → StepLeaves at_step ok old at c buf new → Goes (seen old.status) (seen new.status)
step_goes step.Idle ok old new at c buf it = absurd it
step_goes (step.Read hand) ok old new at c buf it = absurd it
step_goes (step.Reading source) true old new at c buf is = at_once old.status new.status (ap (λ (x : Core). x.status) is)
step_goes (step.Reading source) false old new at c buf it = stale_goes _ old.status new.status it.reviews.marks
step_goes step.Writing true old new at c buf it = then_goes (seen old.status) (seen it.on.status) (seen new.status) (on_goes (is_whole old it.next) _ it.on it.next it.goes) (stale_goes _ it.on.status new.status it.reviews.marks)
step_goes step.Writing false old new at c buf it = stale_goes _ old.status new.status it.marks

copy_goes : (runs ok : Bool) (old new : Core) (at : ℕ) (c : OpenCopy) (buf : Buffer) → StepLearns runs old at c ok buf new → Goes (seen old.status) (seen new.status)
copy_goes true ok old new at c buf it = step_goes c.step ok old new at c buf it
copy_goes false ok old new at c buf is = at_once old.status new.status (ap (λ (x : Core). x.status) is)

learned_goes : (whose : Owner) (ok : Bool) (old new : Core) (at : ℕ) (buf : Buffer) → Learns whose old at ok buf new → Goes (seen old.status) (seen new.status)
learned_goes (owner.Data id target) ok old new at buf it = stale_goes _ old.status new.status it.entails.marks
learned_goes (owner.Status disk) ok old new at buf it = then_goes (seen old.status) (seen it.status) (seen new.status)
    (of_seen old.status it.status (after_end (seen old.status) disk ok it.status.wanted) (after_goes (seen old.status) disk ok it.status.wanted) it.ended)
    (stale_goes _ it.status new.status it.reviews.marks)
learned_goes (owner.Note disk) ok old new at buf it = note_goes disk ok _ new it
learned_goes owner.Copy ok old new at buf it = copy_goes (is_running it.copy) ok old new at it.copy buf it.learns

-- ---- the epoch

of_goes : (old new : Stored) → Goes (seen old) (seen new) → KeepsEpoch old new
of_goes old new goes = record {
  epoch = ap (λ (s : Stamp). s.epoch) goes.0;
  stamped = λ is. record {
    some_epoch = subst (λ (s : Stamp). s.epoch ≢ 0) (sym goes.0) is.some_epoch;
    epoch = subst (λ (s : Stamp). s.epoch < 2 ^ 64) (sym goes.0) is.epoch;
    begun = λ u flies. subst (λ (s : Stamp). s.seq ≢ 0) (sym goes.0) (is.begun u (goes.1 u flies));
  };
}

same_epoch : (old new : Stored) → new ≡ old → KeepsEpoch old new
same_epoch old new same = of_goes old new (at_once old new same)

-- an update begins under the next stamp
start_epoch : (old new : State) → StartsStatus old new → KeepsEpoch old.core.status new.core.status
start_epoch old new made = by made.begins
  where
    by : PutsInFlight old.core.status made.begun → KeepsEpoch old.core.status new.core.status
    by (inl same) = of_goes old.core.status new.core.status
        (of_seen old.core.status new.core.status (with_write_start (seen old.core.status) (Some made.disk)) (refl, λ u e. e) (made.started ∙ ap (λ (s : Stored). with_write_start (seen s) (Some made.disk)) same.1))
    by (inr begins) =
        let stamp : new.core.status.stamp ≡ record old.core.status.stamp { seq = old.core.status.stamp.seq + 1 } = ap (λ (x : Updates). x.stamp) (made.started ∙ ap (λ (x : Updates). with_write_start x (Some made.disk)) begins.1) in
        record {
          epoch = ap (λ (s : Stamp). s.epoch) stamp;
          stamped = λ is. record {
            some_epoch = subst (λ (s : Stamp). s.epoch ≢ 0) (sym stamp) is.some_epoch;
            epoch = subst (λ (s : Stamp). s.epoch < 2 ^ 64) (sym stamp) is.epoch;
            begun = λ u flies. subst (λ (s : Stamp). s.seq ≢ 0) (sym stamp) (λ e. omega (arith, e));
          };
        }

module _ (old new : State) where
  dirty_epoch : (is : Bool) (lv : ℕ) → WantsDirtyIf is lv old.core.status new.core.status → KeepsEpoch old.core.status new.core.status
  dirty_epoch false lv same = same_epoch old.core.status new.core.status same
  dirty_epoch true lv dirty = of_goes old.core.status new.core.status
      (of_seen old.core.status new.core.status (with_wanted (seen old.core.status) (change.Dirty lv) new.core.status.wanted) (wanted_goes (seen old.core.status) (change.Dirty lv) new.core.status.wanted) dirty.rest)

  still_epoch : new.core.status ≡ old.core.status → KeepsEpoch old.core.status new.core.status
  still_epoch same = same_epoch old.core.status new.core.status same

  event_epoch : (it : Event) → Makes it old new → KeepsEpoch old.core.status new.core.status
  event_epoch (event.Land place how) made = still_epoch (ap (λ (s : State). s.core.status) made.is)
  event_epoch (event.Admit place) made = dirty_epoch _ _ made.dirty
  event_epoch (event.Pin place) made = still_epoch (ap (λ (s : State). s.core.status) made.is)
  event_epoch event.StartStatus made = start_epoch old new made
  event_epoch (event.StartNote place disk) made = still_epoch (ap (λ (s : State). s.core.status) made.is)
  event_epoch (event.StartData place target) made = still_epoch (ap (λ (s : State). s.core.status) made.is)
  event_epoch event.ReadCopy made = still_epoch (ap (λ (s : State). s.core.status) made.is)
  event_epoch event.WriteCopy made = still_epoch (ap (λ (s : State). s.core.status) made.is)

  dark_is : Darkens old new → new.core.power ≡ power.Dark
  dark_is it = ap (λ (c : Core). c.power) it.is

  finish_epoch : (new.core.power ≡ power.Dark → ⊥) → (answered : Turned) → FinishMakes old new answered → KeepsEpoch old.core.status new.core.status
  finish_epoch lit turned.Moved made = of_goes old.core.status new.core.status (learned_goes made.1.row.owner made.1.ok old.core new.core made.0 made.1.buf made.1.learns)
  finish_epoch lit turned.Idle (inl finds) = still_epoch (ap (λ (c : Core). c.status) finds.is)
  finish_epoch lit turned.Idle (inr nothing) = still_epoch (ap (λ (s : State). s.core.status) nothing.is)
  finish_epoch lit turned.Dark made = absurd (lit (dark_is made.1))
  finish_epoch lit turned.Off made = still_epoch (ap (λ (s : State). s.core.status) made.is)

  on_epoch : (new.core.power ≡ power.Dark → ⊥) → (answered : Turned) → OnMakes old new answered → KeepsEpoch old.core.status new.core.status
  on_epoch lit answered (Moves it event made is) = event_epoch it made
  on_epoch lit answered (NoStart it event start dark is) = absurd (lit (dark_is dark))
  on_epoch lit answered (Finishes none made) = finish_epoch lit answered made

pub turn_keeps_epoch : TurnKeepsEpoch
turn_keeps_epoch old new answered (WasDark dark is same) lit = still_epoch old new (ap (λ (s : State). s.core.status) same)
turn_keeps_epoch old new answered (WasOff off is same) lit = still_epoch old new (ap (λ (s : State). s.core.status) same)
turn_keeps_epoch old new answered (WasOn on made) lit = on_epoch old new lit answered made

-- ---- the history

landings_later : (moment : ℕ) (how : Outcome) (facts : List Fact) (os : List Open) → IsLater (landings how facts os) moment
landings_later moment how facts [] = tt
landings_later moment how facts (o ∷ os) = by (is_waiting o) (landings_later moment how facts os)
  where
    by : (b : Bool) → IsLater (landings how facts os) moment → IsLater (if b then landed_fact facts o.request.id how (is_begun o.request.targets.items) ∷ landings how facts os else landings how facts os) moment
    by true rest = rest
    by false rest = rest

dark_later : (moment : ℕ) (old new middle : Core) → middle.history ≡ old.history → new ≡ all_dark middle → IsLater old.history.facts moment → IsLater new.history.facts moment
dark_later moment old new middle same is was =
    subst (λ (fs : List Fact). IsLater fs moment) (sym (ap (λ (c : Core). c.history.facts) is))
    (later_joins moment (cut_log middle.history).facts (landings outcome.Dark (cut_log middle.history).facts middle.requests)
    (subst (λ (h : Log). IsLater (cut_log h).facts moment) (sym same) (by (is_uncut old.history.facts)))
    (landings_later moment outcome.Dark (cut_log middle.history).facts middle.requests))
  where
    by : (b : Bool) → IsLater (if b then with_fact old.history Cut else old.history).facts moment
    by true = later_joins moment old.history.facts (Cut ∷ []) was tt
    by false = was

module _ (moment : ℕ) (old new : State) (was : IsLater old.core.history.facts moment) where
  same_later : new.core.history.facts ≡ old.core.history.facts → IsLater new.core.history.facts moment
  same_later same = subst (λ (fs : List Fact). IsLater fs moment) (sym same) was

  cut_later : Darkens old new → IsLater new.core.history.facts moment
  cut_later it = dark_later moment old.core new.core (record old.core { status = new.core.status; cache = new.core.cache }) refl it.is was

  event_later : (it : Event) → Makes it old new → IsLater new.core.history.facts moment
  event_later (event.Land place how) made = subst (λ (fs : List Fact). IsLater fs moment) (sym (ap (λ (s : State). s.core.history.facts) made.is)) (later_joins moment old.core.history.facts _ was tt)
  event_later (event.Admit place) made = same_later (ap (λ (s : State). s.core.history.facts) made.is)
  event_later (event.Pin place) made = same_later (ap (λ (s : State). s.core.history.facts) made.is)
  event_later event.StartStatus made = same_later (ap (λ (s : State). s.core.history.facts) made.is)
  event_later (event.StartNote place disk) made = same_later (ap (λ (s : State). s.core.history.facts) made.is)
  event_later (event.StartData place target) made = same_later (ap (λ (s : State). s.core.history.facts) made.is)
  event_later event.ReadCopy made = same_later (ap (λ (s : State). s.core.history.facts) made.is)
  event_later event.WriteCopy made = same_later (ap (λ (s : State). s.core.history.facts) made.is)

  finish_later : (answered : Turned) → FinishMakes old new answered → IsLater new.core.history.facts moment
  finish_later turned.Moved made = same_later (ap (λ (g : Ground). g.2) (learned_same made.1.row.owner made.1.ok old.core new.core made.0 made.1.buf made.1.learns))
  finish_later turned.Idle (inl finds) = same_later (ap (λ (c : Core). c.history.facts) finds.is)
  finish_later turned.Idle (inr nothing) = same_later (ap (λ (s : State). s.core.history.facts) nothing.is)
  finish_later turned.Dark made = cut_later made.1
  finish_later turned.Off made = subst (λ (fs : List Fact). IsLater fs moment) (sym (ap (λ (s : State). s.core.history.facts) made.is))
      (later_joins moment old.core.history.facts (landings outcome.Off old.core.history.facts old.core.requests) was (landings_later moment outcome.Off old.core.history.facts old.core.requests))

  on_later : (answered : Turned) → OnMakes old new answered → IsLater new.core.history.facts moment
  on_later answered (Moves it event made is) = event_later it made
  on_later answered (NoStart it event start dark is) = cut_later dark
  on_later answered (Finishes none made) = finish_later answered made

pub turn_is_earlier : TurnIsEarlier
turn_is_earlier moment old new answered (WasDark dark is same) was = same_later moment old new was (ap (λ (s : State). s.core.history.facts) same)
turn_is_earlier moment old new answered (WasOff off is same) was = same_later moment old new was (ap (λ (s : State). s.core.history.facts) same)
turn_is_earlier moment old new answered (WasOn on made) was = on_later moment old new was answered made

-- ---- what is left

-- where no crash image is new
no_more_left : (stamp : Stamp) (old new : Device) → LeavesNoMore old new → LeavesBefore stamp old → LeavesBefore stamp new
no_more_left stamp old new no_more before image may = before image (no_more image may)

same_left : (stamp : Stamp) (old new : Device) → new ≡ old → LeavesBefore stamp old → LeavesBefore stamp new
same_left stamp old new same before = subst (λ (d : Device). LeavesBefore stamp d) (sym same) before

-- where a transfer starts that brings only such values
start_left : (stamp : Stamp) (old new : Device) (f : Flight) → Starts old new f → ((d s : ℕ) (value : Sector) → written f d s ≡ Some value → IsOtherOrEarlier stamp d s value) → LeavesBefore stamp old → LeavesBefore stamp new
start_left stamp old new f starts brings before image may =
    let from = start_leaves old new f starts image may in
    earlier_keep_before stamp from.0 image (record { same = from.2.same; each = λ d s. ⊎_elim (λ same. inl same) (λ put. inr (brings d s (image.sector d s) put)) (from.2.each d s) }) (before from.0 from.1)

dark_left : (stamp : Stamp) (old new : Device) → GoesDark old new → LeavesBefore stamp old → LeavesBefore stamp new
dark_left stamp old new (inl off) before = same_left stamp old new off.1 before
dark_left stamp old new (inr cuts) before = no_more_left stamp old new (cut_leaves old new cuts) before

pub arrange_leaves_before : ArrangeLeavesBefore
arrange_leaves_before stamp old new what done it before = by done it.device
  where
    by : (b : Bool) → ArrangeGives old.device new.device what b → LeavesBefore stamp new.device
    by true made = no_more_left stamp old.device new.device (arrange_leaves old.device new.device what made.1) before
    by false made = same_left stamp old.device new.device made.1 before

-- data and a note are outside the slots, and a read brings nothing
data_brings : (stamp : Stamp) (f : Flight) → data_start ≤ f.first → (d s : ℕ) (value : Sector) → written f d s ≡ Some value → IsOtherOrEarlier stamp d s value
data_brings stamp f low d s value brings = inl (λ k. notes_and_data_are_outside k d s value (inr (let from : f.first ≤ s = (writes_at f d s value brings).low in omega (arith, from, low))))

note_brings : (stamp : Stamp) (f : Flight) → f.first ≡ note_sector → f.count ≡ 1 → (d s : ℕ) (value : Sector) → written f d s ≡ Some value → IsOtherOrEarlier stamp d s value
note_brings stamp f first count d s value brings =
    let is = writes_at f d s value brings in
    let low : f.first ≤ s = is.low in
    let high : s < f.first + f.count = is.high in
    inl (λ k. notes_and_data_are_outside k d s value (inl (omega (arith, low, high, first, count))))

some_status : (a b : Status) → Some a ≡ Some b → a ≡ b
some_status a b e = cc

-- the status that is written is valid
module _ (old new : State) (made : StartsStatus old new) (valid : AreValid old.core.status) where
  pub valid_started : IsValidStatus made.status
  valid_started = by made.begins
    where
      in_flight_is : (m : Option Status) → m ≡ Some made.status → IfSome m IsValidStatus → IsValidStatus made.status
      in_flight_is None is its = absurd (cc is)
      in_flight_is (Some u) is its = subst IsValidStatus (some_status u made.status is) its

      by : PutsInFlight old.core.status made.begun → IsValidStatus made.status
      by (inl same) =
          let is : seen new.core.status ≡ with_write_start (seen old.core.status) (Some made.disk) = made.started ∙ ap (λ (s : Stored). with_write_start (seen s) (Some made.disk)) same.1 in
          in_flight_is old.core.status.in_flight (sym (ap (λ (x : Updates). x.in_flight) is) ∙ made.flies) valid.in_flight
      by (inr begins) =
          let is : seen new.core.status ≡ with_write_start (with_update (seen old.core.status)) (Some made.disk) = made.started ∙ ap (λ (x : Updates). with_write_start x (Some made.disk)) begins.1 in
          subst IsValidStatus (some_status old.core.status.wanted made.status (sym (ap (λ (x : Updates). x.in_flight) is) ∙ made.flies)) valid.wanted

-- the write of an update is one of the session's moment
module _ (moment : ℕ) (old new : State) (made : StartsStatus old new) (on : new.core.power ≡ power.On) (sound : IsSound new) (stamped : IsStamped old.core.status) (valid : AreValid old.core.status)
    (earlier : old.core.status.stamp.epoch < moment) where
  abbrev f : Flight
  f = made.flight

  abbrev w : RecordWrite
  w = record { kind = kind.Status; framed = record { stamp = new.core.status.stamp; content = status_bytes made.status }; targets = λ d. true; slots = next_slot kind.Status new.core.homes }

  stamped_now : IsStamped new.core.status
  stamped_now = (start_epoch old new made).stamped stamped

  valid_now : IsValidStatus made.status
  valid_now = valid_started old new made valid

  frames : Frames w.kind w.framed
  frames = record {
    some_epoch = stamped_now.some_epoch;
    epoch = stamped_now.epoch;
    some_seq = stamped_now.begun made.status made.flies;
    seq = let low = (sound.on on).going.numbers in omega (arith, low);
    content = status_fits made.status valid_now;
  }

  before_it : stamp_lt new.core.status.stamp (beginning_at moment) ≡ true
  before_it = session_is_before_later moment new.core.status.stamp (subst (λ n. n < moment) (sym (start_epoch old new made).epoch) earlier)

  status_brings : (d s : ℕ) (value : Sector) → written f d s ≡ Some value → IsOtherOrEarlier (beginning_at moment) d s value
  status_brings d s value brings =
      let is = writes_at f d s value brings in
      let low : f.first ≤ s = is.low in
      let high : s < f.first + f.count = is.high in
      let count : f.count ≡ record_sectors (length (status_bytes made.status)) = made.writes.count in
      let disk : d ≡ made.disk = sym is.disk ∙ made.writes.disk_is in
      let first : f.first ≡ slot_start kind.Status (next_slot kind.Status new.core.homes d) = made.writes.first ∙ ap (λ n. slot_start kind.Status (next_slot kind.Status new.core.homes n)) (sym disk) in
      let within : s - f.first < f.count = omega (arith, low, high) in
      inr (record {
        write = w;
        frames = frames;
        earlier = before_it;
        its = record {
          target = refl;
          its = record {
            part = s - f.first;
            inside = subst (λ n. s - f.first < n) count within;
            place = omega (arith, low, first);
            is = let e : Some value ≡ Some (frame kind.Status new.core.status.stamp (status_bytes made.status) (s - f.first)) = sym is.there ∙ made.writes.carries (s - f.first) within in cc;
          };
        };
      })

module _ (moment : ℕ) (old new : State) (was_sound : IsSound old) (sound : IsSound new) (stamped : IsStamped old.core.status) (valid : AreValid old.core.status) (earlier : old.core.status.stamp.epoch < moment)
    (before : LeavesBefore (beginning_at moment) old.device) where
  still_left : new.device ≡ old.device → LeavesBefore (beginning_at moment) new.device
  still_left same = same_left (beginning_at moment) old.device new.device same before

  started_left : (g : Flight) → Starts old.device new.device g → ((d s : ℕ) (value : Sector) → written g d s ≡ Some value → IsOtherOrEarlier (beginning_at moment) d s value) → LeavesBefore (beginning_at moment) new.device
  started_left g starts brings = start_left (beginning_at moment) old.device new.device g starts brings before

  -- the transfer of a request goes to data
  data_low : old.core.power ≡ power.On → (place target : ℕ) (o : Open) → slice_get old.core.requests place ≡ Some o → is_waiting o ≡ true → (aim : Target) → slice_get o.request.targets.items target ≡ Some aim → data_start ≤ aim.sector
  data_low on place target o there waits aim aim_is =
      let its = all_at (IsOpenOne old.core) old.core.requests place o (was_sound.on on).going.requests there in
      let one = all_at (IsTarget old.core o.request.ask) o.request.targets.items target aim (its.waits waits).shape.targets aim_is in
      let sector : aim.sector ≡ sector_of old.core.descriptor.mib aim.pp.pp (at_of o.request.ask) = one.sector in
      omega (arith, sector)

  event_left : old.core.power ≡ power.On → (it : Event) → Makes it old new → LeavesBefore (beginning_at moment) new.device
  event_left on (event.Land place how) made = still_left (ap (λ (s : State). s.device) made.is)
  event_left on (event.Admit place) made = still_left (ap (λ (s : State). s.device) made.is)
  event_left on (event.Pin place) made = still_left (ap (λ (s : State). s.device) made.is)
  event_left on event.StartStatus made = started_left made.flight made.launches.starts (status_brings moment old new made (ap (λ (s : State). s.core.power) made.is ∙ on) sound stamped valid earlier)
  event_left on (event.StartNote place disk) made = started_left made.flight made.launches.starts (note_brings (beginning_at moment) made.flight made.writes.first made.writes.count)
  event_left on (event.StartData place target) made = started_left made.flight made.launches.starts
      (data_brings (beginning_at moment) made.flight (subst (λ n. data_start ≤ n) (sym made.moves.first) (data_low on place target made.its.request made.its.there waits made.its.aim made.its.aim_is)))
    where
      waits : is_waiting made.its.request ≡ true
      waits = waits_unless old was_sound on place made.its.request made.its.there (λ e. let no : Some target ≡ None = sym made.its.due ∙ ap target_next e in cc)
  event_left on event.ReadCopy made = started_left made.flight made.launches.starts (λ d s value brings. absurd (reads_none made.flight d s value made.reads.write_is brings))
  event_left on event.WriteCopy made = started_left made.flight made.starts (data_brings (beginning_at moment) made.flight (subst (λ n. data_start ≤ n) (sym made.writes.first) (omega arith)))

  end_left : (at : ℕ) → Ends old new at → LeavesBefore (beginning_at moment) new.device
  end_left at it = by it.ok it.returns.ends
    where
      by : (ok : Bool) → EndsAs ok old.device new.device it.row.ticket it.buf → LeavesBefore (beginning_at moment) new.device
      by true ended = no_more_left (beginning_at moment) old.device new.device (done_leaves old.device new.device it.row.ticket it.buf ended) before
      by false ended = no_more_left (beginning_at moment) old.device new.device (failed_leaves old.device new.device it.row.ticket it.buf ended) before

  finish_left : (answered : Turned) → FinishMakes old new answered → LeavesBefore (beginning_at moment) new.device
  finish_left turned.Moved made = end_left made.0 made.1
  finish_left turned.Idle (inl finds) = no_more_left (beginning_at moment) old.device new.device (λ image may. subst (λ (d : Device). MayLeave d image) finds.waits.new_is may) before
  finish_left turned.Idle (inr nothing) = still_left (ap (λ (s : State). s.device) nothing.is)
  finish_left turned.Dark made = dark_left (beginning_at moment) old.device new.device made.1.device before
  finish_left turned.Off made = still_left (ap (λ (s : State). s.device) made.is)

  on_left : old.core.power ≡ power.On → (answered : Turned) → OnMakes old new answered → LeavesBefore (beginning_at moment) new.device
  on_left on answered (Moves it event made is) = event_left on it made
  on_left on answered (NoStart it event start dark is) = dark_left (beginning_at moment) old.device new.device dark.device before
  on_left on answered (Finishes none made) = finish_left answered made

  turn_left : (answered : Turned) → TurnMakes old new answered → LeavesBefore (beginning_at moment) new.device
  turn_left answered (WasDark dark is same) = still_left (ap (λ (s : State). s.device) same)
  turn_left answered (WasOff off is same) = still_left (ap (λ (s : State). s.device) same)
  turn_left answered (WasOn on made) = on_left on answered made

pub turn_leaves_before : TurnLeavesBefore
turn_leaves_before moment old new answered was_sound sound stamped valid earlier before made = turn_left moment old new was_sound sound stamped valid earlier before answered made

-- ---- the calls of a client

module _ (old new : Core) where
  -- entries follow that name no moment
  stays_of : new.status ≡ old.status → (more : List Fact) → new.history.facts ≡ old.history.facts ++ more → ((moment : ℕ) → IsLater more moment) → StaysOf old new
  stays_of status more facts later = record { status = status; later = λ moment was. subst (λ (fs : List Fact). IsLater fs moment) (sym facts) (later_joins moment old.history.facts more was (later moment)) }

  same_of : new ≡ old → StaysOf old new
  same_of same = record { status = ap (λ (c : Core). c.status) same; later = λ moment was. subst (λ (fs : List Fact). IsLater fs moment) (sym (ap (λ (c : Core). c.history.facts) same)) was }

  submit_stays : (client : ℕ) (ask : Ask) (bytes : Option (List ℕ)) (answered : Result ℕ AskFault) → SubmitGives old new client ask bytes answered → StaysOf old new
  submit_stays client ask bytes answered = by (ask_fault old ask)
    where
      by : (m : Option AskFault) → MatchOption m ((answered ≡ Ok (next_id old.history)) × (new ≡ submitted old client ask bytes)) (λ (why : AskFault). (answered ≡ Err why) × (new ≡ old)) → StaysOf old new
      by None it = stays_of (ap (λ (c : Core). c.status) it.1) _ (ap (λ (c : Core). c.history.facts) it.1) (λ moment. tt)
      by (Some why) it = same_of it.1

  landed_stays : (place : ℕ) (o : Open) (answered : Taken) (how : Option Outcome) → TakesLanded old new place o answered how → StaysOf old new
  landed_stays place o answered None it = same_of it.1
  landed_stays place o answered (Some how) it = stays_of (ap (λ (c : Core). c.status) it.1) _ (ap (λ (c : Core). c.history.facts) it.1) (λ moment. tt)

  take_stays : (client id : ℕ) (answered : Taken) → TakeGives old new client id answered → StaysOf old new
  take_stays client id answered = by (position (is_asked client id) old.requests)
    where
      by : (m : Option ℕ) → MatchOption m ((answered ≡ answer.Unknown) × (new ≡ old)) (λ (place : ℕ). TakeAt old new place answered) → StaysOf old new
      by None it = same_of it.1
      by (Some place) it = landed_stays place it.0 answered it.0.landed it.2

  open_stays : (counts : Counts) (lv lp number : ℕ) (answered : Result (Unit {0}) CopyFault) → OpenGives counts old new lv lp number answered → StaysOf old new
  open_stays counts lv lp number answered = by (copy_fault old lv lp number)
    where
      by : (m : Option CopyFault) → MatchOption m ((answered ≡ Ok tt) × Opens counts old new lv lp number) (λ (why : CopyFault). (answered ≡ Err why) × (new ≡ old)) → StaysOf old new
      by None it = record { status = ap (λ (c : Core). c.status) it.1.is; later = λ moment was. subst (λ (fs : List Fact). IsLater fs moment) (sym (ap (λ (c : Core). c.history.facts) it.1.is)) was }
      by (Some why) it = same_of it.1

  move_stays : (counts : Counts) (lv lp number : ℕ) (to : Pp) (answered : Result (Unit {0}) OpenFault) → OpenMoveGives counts old new lv lp number to answered → StaysOf old new
  move_stays counts lv lp number to answered = by (move_fault old lv lp number to)
    where
      by : (m : Option OpenFault) → MatchOption m (((answered ≡ Ok tt) × OpensMove counts old new lv lp number to) ⊎ ((answered ≡ Err denial.Memory) × (new ≡ old))) (λ (why : OpenFault). (answered ≡ Err why) × (new ≡ old)) → StaysOf old new
      by None (inl it) = record { status = ap (λ (c : Core). c.status) it.1.is; later = λ moment was. subst (λ (fs : List Fact). IsLater fs moment) (sym (ap (λ (c : Core). c.history.facts) it.1.is)) was }
      by None (inr it) = same_of it.1
      by (Some why) it = same_of it.1

arrange_stays : (old new : State) (what : Arrange) (done : Bool) → ArrangesSession old new what done → StaysOf old.core new.core
arrange_stays old new what done it = by (done && is_cut what) it.is
  where
    by : (b : Bool) → new.core ≡ (if b then all_dark old.core else old.core) → StaysOf old.core new.core
    by true is = record { status = ap (λ (c : Core). c.status) is; later = λ moment was. dark_later moment old.core new.core old.core refl is was }
    by false is = same_of old.core new.core is

pub calls_stay : CallsStay
calls_stay = record {
  submit = λ client ask bytes answered old new gives. submit_stays old new client ask bytes answered gives;
  take = λ client id answered old new gives. take_stays old new client id answered gives;
  open_copy = λ counts lv lp number answered old new gives. open_stays old new counts lv lp number answered gives;
  open_move = λ counts lv lp number to answered old new gives. move_stays old new counts lv lp number to answered gives;
  close_copy = λ old new closes. record { status = ap (λ (c : Core). c.status) closes.is; later = λ moment was. subst (λ (fs : List Fact). IsLater fs moment) (sym (ap (λ (c : Core). c.history.facts) closes.is)) was };
  arrange = arrange_stays;
}

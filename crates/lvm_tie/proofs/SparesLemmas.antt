-- The next descriptors of a session go on to spare the newest ones.
use Rattle.std.proofs.Common.{◌≡◌, ◌⊎◌, inl, inr, ⊎_elim, ℕ, ◌+◌, ◌<◌, ◌≤◌, Bool, true, false, ◌&&◌, not, List, Option, Some, None, is_some, refl, sym, ap, subst, ◌∙◌, arith}
use Rattle.std.specs.Prelude.{Err, IfSome, IsSomeAnd, IsTrue, MatchOption, Ok, Result, if◌then◌else◌, position}
use Rattle.std.specs.Option.{option_map_or}
use Rattle.std.proofs.lemmas.Bool.{and_parts}
use Rattle.lvm_num.specs.declared.descriptor.Descriptor.{Descriptor}
use Rattle.lvm_num.specs.declared.place.Pp.{Pp}
use Rattle.lvm_num.specs.declared.record.Kind.TheVariants as kind
use Rattle.lvm_num.specs.declared.status.Status.{Status}
use Rattle.lvm_num.specs.Buffer.{Buffer}
use Rattle.lvm_num.specs.Descriptor.{is_member}
use Rattle.lvm_num.specs.DescriptorBytes.{descriptor_of}
use Rattle.lvm_num.specs.Record.{slot_size, slot_start}
use Rattle.lvm_num.specs.Status.{calls_missing}
use Rattle.lvm_vol.specs.declared.entry.Outcome.{Outcome}
use Rattle.lvm_vol.specs.Log.{next_id}
use Rattle.lvm_disk.specs.declared.shelf.Arrange.{Arrange}
use Rattle.lvm_disk.specs.Counts.{Counts}
use Rattle.lvm_disk.specs.Device.{Device, Flight, IsCrashImage, IsInFlight, MayLeave, Media, image_of}
use Rattle.lvm_disk.specs.Images.{LeavesNoMore}
use Rattle.lvm_disk.specs.Paths.{Broke, DeviceStep, Ended, Started, Waited, WasCut}
use Rattle.lvm_disk.specs.Steps.{BothTold, GoesDark, Starts}
use Rattle.lvm_disk.proofs.StepsLemmas.{arrange_step, step_leaves, step_same}
use Rattle.lvm_mwc.specs.Cache.{after_end as after_note_end}
use Rattle.lvm_status.specs.Update.{Stored, Updates}
use Rattle.lvm_rec.specs.declared.homes.Homes.{Homes}
use Rattle.lvm_rec.specs.Homes.{next_slot}
use Rattle.lvm_rec.proofs.SlotsLemmas.Next.{slot_for_same}
use Rattle.lvm_path.specs.declared.ask.Ask.{Ask}
use Rattle.lvm_session.specs.declared.answers.AskFault.{AskFault}
use Rattle.lvm_session.specs.declared.answers.CopyFault.{CopyFault}
use Rattle.lvm_session.specs.declared.answers.OpenFault.{OpenFault}
use Rattle.lvm_session.specs.declared.answers.OpenFault.TheVariants as denial
use Rattle.lvm_session.specs.declared.answers.Taken.{Taken}
use Rattle.lvm_session.specs.declared.answers.Taken.TheVariants as answer
use Rattle.lvm_session.specs.declared.answers.Turned.{Turned}
use Rattle.lvm_session.specs.declared.answers.Turned.TheVariants as turned
use Rattle.lvm_session.specs.declared.bringing.CopyEnd.{CopyEnd}
use Rattle.lvm_session.specs.declared.bringing.CopyEnd.TheVariants as ending
use Rattle.lvm_session.specs.declared.bringing.OpenCopy.{OpenCopy}
use Rattle.lvm_session.specs.declared.bringing.Step.{Step}
use Rattle.lvm_session.specs.declared.bringing.Step.TheVariants as step
use Rattle.lvm_session.specs.declared.event.Event.{Event}
use Rattle.lvm_session.specs.declared.event.Event.TheVariants as event
use Rattle.lvm_session.specs.declared.flown.Owner.{Owner}
use Rattle.lvm_session.specs.declared.flown.Owner.TheVariants as owner
use Rattle.lvm_session.specs.declared.open.Open.{Open}
use Rattle.lvm_session.specs.State.{Core, State, is_there, state}
use Rattle.lvm_session.specs.Bringing.{after_copy_end, copy_ends, is_whole, with_end}
use Rattle.lvm_session.specs.Calls.{OpenGives, OpenMoveGives, Opens, OpensMove, move_fault, SubmitGives, TakeAt, TakeGives, TakesLanded, ask_fault, copy_fault, is_asked, submitted}
use Rattle.lvm_session.specs.Dark.{all_dark, is_cut}
use Rattle.lvm_session.specs.Ends.{Ends, EndsAs, FlipsIf, CopyStepsOn, Learns, NoteLeaves, StatusLearns, StepLearns, StepLeaves, with_copy, with_return, without_step}
use Rattle.lvm_session.specs.Events.{PutsInFlight, StartsStatus}
use Rattle.lvm_session.specs.Judging.{is_running}
use Rattle.lvm_session.specs.Marks.{Reviews, WantsDirtyIf, WantsStale}
use Rattle.lvm_session.specs.Turns.{ArrangesSession, Darkens, FinishMakes, Finishes, Makes, Moves, NoStart, OnMakes, TurnMakes, WasDark, WasOff, WasOn}
use Rattle.lvm_tie.specs.Spares.{CallsSpareDescriptors, LeavesDescriptors, OverLeavesDescriptors, SparesDescriptors, SparesOn, TiedLeavesDescriptors, TurnSparesDescriptors}
use Rattle.lvm_tie.proofs.UpdateLemmas.{missing_then}
use Rattle.lvm_tie.proofs.TiedLemmas.Tied.{tied_matches}
use Rattle.lvm_tie.proofs.AmongLemmas.{not_true}

-- ---- the shelf

pub tied_leaves_descriptors : TiedLeavesDescriptors
tied_leaves_descriptors past s tied = (tied_matches past s tied).out.descriptors

pub over_leaves_descriptors : OverLeavesDescriptors
over_leaves_descriptors s sound over d at value flies = absurd (subst (λ (fs : List Flight). IsInFlight fs d at value) (sound.over over).flights flies)

-- the slots of descriptors hold what they held
abbrev SameSlots : Media → Media → Type 0
SameSlots m n = (d s : ℕ) → slot_start kind.Descriptor 0 ≤ s → s < slot_start kind.Descriptor 1 + slot_size kind.Descriptor → n d s ≡ m d s

-- where the media stay
same_media : (m n : Option Media) → n ≡ m → BothTold m n SameSlots
same_media m n same = subst (λ (o : Option Media). BothTold m o SameSlots) (sym same) (at_once m)
  where
    at_once : (o : Option Media) → BothTold o o SameSlots
    at_once None = tt
    at_once (Some media) = λ d s from to. refl

-- what the media are is a crash image
abbrev MayLeaveMedia : Device → Option Media → Media → Type 0
MayLeaveMedia device o n = IsSomeAnd o (λ media. IsCrashImage (image_of device.sizes media) device.flights (image_of device.sizes n))

-- where no crash image is new
same_slots : (old new : Device) → LeavesDescriptors old → LeavesNoMore old new → is_some new.media ≡ is_some old.media → BothTold old.media new.media SameSlots
same_slots old new outside no_more told = by old.media refl new.media refl told
  where
    by : (m : Option Media) → old.media ≡ m → (n : Option Media) → new.media ≡ n → is_some n ≡ is_some m → BothTold m n SameSlots
    by None old_is None new_is both = tt
    by None old_is (Some n) new_is both = absurd cc
    by (Some m) old_is None new_is both = absurd cc
    by (Some m) old_is (Some n) new_is both = λ d s from to.
        let may : MayLeave new (image_of new.sizes n) = subst (λ (o : Option Media). MayLeaveMedia new o n) (sym new_is) (record { same = record { disks = refl; size = λ x. refl }; each = λ x y. inl refl }) in
        let was : IsCrashImage (image_of old.sizes m) old.flights (image_of new.sizes n) =
        subst (λ (o : Option Media). IsSomeAnd o (λ media. IsCrashImage (image_of old.sizes media) old.flights (image_of new.sizes n))) old_is (no_more (image_of new.sizes n) may) in
        inside d s from to (was.each d s)
      where
        inside : (d s : ℕ) → slot_start kind.Descriptor 0 ≤ s → s < slot_start kind.Descriptor 1 + slot_size kind.Descriptor → (n d s ≡ m d s) ⊎ IsInFlight old.flights d s (n d s) → n d s ≡ m d s
        inside d s from to (inl same) = same
        inside d s from to (inr flies) = absurd (⊎_elim (λ low. let e : s < slot_start kind.Descriptor 0 = low in omega arith) (λ high. let e : slot_start kind.Descriptor 1 + slot_size kind.Descriptor ≤ s = high in omega arith) (outside d s (n d s) flies))

-- each step of the shelf
step_slots : (old new : Device) → LeavesDescriptors old → DeviceStep old new → BothTold old.media new.media SameSlots
step_slots old new outside made = by (step_leaves old new made)
  where
    by : LeavesNoMore old new ⊎ ((f : Flight) × Starts old new f) → BothTold old.media new.media SameSlots
    by (inl no_more) = same_slots old new outside no_more (step_same old new made).told
    by (inr start) = same_media old.media new.media (ap (λ (d : Device). d.media) start.1.new_is)

dark_slots : (old new : Device) → LeavesDescriptors old → GoesDark old new → BothTold old.media new.media SameSlots
dark_slots old new outside (inl off) = same_media old.media new.media (ap (λ (d : Device). d.media) off.1)
dark_slots old new outside (inr cuts) = step_slots old new outside (WasCut cuts)

-- ---- the session

-- the next descriptors go where they went, and none is there that wasn't
record Stays (old new : Core) : Type 0 where
  pub slots : (d : ℕ) → next_slot kind.Descriptor new.homes d ≡ next_slot kind.Descriptor old.homes d
  pub fewer : (d : ℕ) → IsTrue (is_there new d) → IsTrue (is_there old d)

then_stays : (a b c : Core) → Stays a b → Stays b c → Stays a c
then_stays a b c one two = record { slots = λ d. two.slots d ∙ one.slots d; fewer = λ d there. one.fewer d (two.fewer d there) }

by_parts : (old new : Core) → new.descriptor ≡ old.descriptor → ((d : ℕ) → next_slot kind.Descriptor new.homes d ≡ next_slot kind.Descriptor old.homes d)
    → ((d : ℕ) → calls_missing new.status.wanted d ≡ false → calls_missing old.status.wanted d ≡ false) → Stays old new
by_parts old new descriptor slots missing = record {
  slots = slots;
  fewer = λ d there.
      let both = and_parts (is_member new.descriptor d) (not (calls_missing new.status.wanted d)) there in
      let member : is_member old.descriptor d ≡ true = ap (λ (g : Descriptor). is_member g d) (sym descriptor) ∙ both.0 in
      let present : calls_missing old.status.wanted d ≡ false = missing d (not_true (calls_missing new.status.wanted d) both.1) in
      λ t. member t && not (present t);
}

-- what an event leaves of these leaves all of it
abbrev Kept : Type 0
Kept = Descriptor × Homes

abbrev kept : Core → Kept
kept core = (core.descriptor, core.homes)

of_kept : (old new : Core) → kept new ≡ kept old → ((d : ℕ) → calls_missing new.status.wanted d ≡ false → calls_missing old.status.wanted d ≡ false) → Stays old new
of_kept old new same missing = by_parts old new (ap (λ (k : Kept). k.0) same) (λ d. ap (λ (k : Kept). next_slot kind.Descriptor k.1 d) same) missing

of_wanted : (old new : Core) → kept new ≡ kept old → new.status.wanted ≡ old.status.wanted → Stays old new
of_wanted old new same wanted = of_kept old new same (λ d gone. ap (λ (s : Status). calls_missing s d) (sym wanted) ∙ gone)

abbrev still : Core → Descriptor × Homes × Status
still core = (core.descriptor, core.homes, core.status.wanted)

of_still : (old new : Core) → still new ≡ still old → Stays old new
of_still old new same = of_wanted old new (ap (λ (k : Descriptor × Homes × Status). let r : Kept = (k.0, k.1) in r) same) (ap (λ (k : Descriptor × Homes × Status). k.2) same)

-- ---- the end of the copy

ended_same : (core : Core) (how : Option CopyEnd) → kept (with_end core how) ≡ kept core
ended_same core None = refl
ended_same core (Some how) = by core.copy
  where
    by : (m : Option OpenCopy) → kept (option_map_or (λ (c : OpenCopy). after_copy_end core c how) m core) ≡ kept core
    by None = refl
    by (Some c) = refl

marked_stays : (due : Pp → Bool) (old new : Core) (how : Option CopyEnd) → WantsStale due old.status new.status → new ≡ record (with_end old how) { status = new.status } → Stays old new
marked_stays due old new how marks is = of_kept old new (ap kept is ∙ ended_same old how) (λ d gone. sym (marks.missing d) ∙ gone)

reviewed_stays : (old new : Core) → Reviews old new → Stays old new
reviewed_stays old new it = marked_stays _ old new (copy_ends old) it.marks it.is

-- ---- the ends of transfers

differ : kind.Descriptor ≡ kind.Status → ⊥
differ e = absurd cc

flipped : (ok : Bool) (disk : ℕ) (old new : Homes) → FlipsIf ok disk old new → (d : ℕ) → next_slot kind.Descriptor new d ≡ next_slot kind.Descriptor old d
flipped false disk old new same d = ap (λ (h : Homes). next_slot kind.Descriptor h d) same
flipped true disk old new flips d = ap (λ (b : Bool). if b then 1 else 0) (flips.other kind.Descriptor differ d)

status_stays : (old new : Core) (at disk : ℕ) (ok : Bool) (buf : Buffer) → StatusLearns old at disk ok buf new → Stays old new
status_stays old new at disk ok buf it =
    let mid : Core = record (with_return old at buf) { status = it.status; homes = it.homes } in
    then_stays old mid new
    (by_parts old mid refl (flipped ok disk old.homes it.homes it.flips) (missing_then disk ok old.status.wanted it.status.wanted it.wants))
    (reviewed_stays mid new it.reviews)

note_stays : (old new : Core) (disk : ℕ) (ok : Bool) → NoteLeaves ok disk old new → Stays old new
note_stays old new disk true is = of_still old new (ap still is)
note_stays old new disk false it =
    let mid : Core = record old { status = it.0 } in
    then_stays old mid new (of_kept old mid refl (missing_then disk false old.status.wanted it.0.wanted it.1.wants)) (reviewed_stays mid new it.2)

goes_stays : (whole : Bool) (core next : Core) (c : OpenCopy) → CopyStepsOn whole core c next → Stays core next
goes_stays false core next c is = of_still core next (ap still is)
goes_stays true core next c it = of_kept core next (ap kept it.1) (λ d gone. sym (it.0.wants.missing d) ∙ gone)

step_stays : (at_step : Step) (ok : Bool) (old new : Core) (at : ℕ) (c : OpenCopy) (buf : Buffer) → StepLeaves at_step ok old at c buf new → Stays old new
step_stays step.Idle ok old new at c buf it = absurd it
step_stays (step.Read hand) ok old new at c buf it = absurd it
step_stays (step.Reading source) true old new at c buf is = of_still old new (ap still is)
step_stays (step.Reading source) false old new at c buf it =
    let mid : Core = with_copy (with_return old at buf) (record c { step = step.Idle; tried = it.tried }) in
    then_stays old mid new (of_still old mid refl) (reviewed_stays mid new it.reviews)
step_stays step.Writing true old new at c buf it =
    let mid : Core = without_step (with_return old at buf) c in
    then_stays old it.on new (then_stays old mid it.on (of_still old mid refl) (goes_stays (is_whole old it.next) mid it.on it.next it.goes)) (reviewed_stays it.on new it.reviews)
step_stays step.Writing false old new at c buf it =
    let mid : Core = with_copy (with_return old at buf) (record c { step = step.Idle }) in
    then_stays old mid new (of_still old mid refl) (of_kept mid new (ap kept it.is ∙ ended_same mid (Some ending.SyncFailed)) (λ d gone. sym (it.marks.missing d) ∙ gone))

copy_stays : (runs ok : Bool) (old new : Core) (at : ℕ) (c : OpenCopy) (buf : Buffer) → StepLearns runs old at c ok buf new → Stays old new
copy_stays true ok old new at c buf it = step_stays c.step ok old new at c buf it
copy_stays false ok old new at c buf is = of_still old new (ap still is)

learned_stays : (whose : Owner) (ok : Bool) (old new : Core) (at : ℕ) (buf : Buffer) → Learns whose old at ok buf new → Stays old new
learned_stays (owner.Data id target) ok old new at buf it = of_kept old new (ap kept it.entails.is ∙ ended_same _ _) (λ d gone. sym (it.entails.marks.missing d) ∙ gone)
learned_stays (owner.Status disk) ok old new at buf it = status_stays old new at disk ok buf it
learned_stays (owner.Note disk) ok old new at buf it =
    let mid : Core = record (with_return old at buf) { cache = after_note_end old.cache disk ok } in
    then_stays old mid new (of_still old mid refl) (note_stays mid new disk ok it)
learned_stays owner.Copy ok old new at buf it = copy_stays (is_running it.copy) ok old new at it.copy buf it.learns

-- ---- a start of the update

begun_wants : (old begun : Stored) → PutsInFlight old begun → begun.wanted ≡ old.wanted
begun_wants old begun (inl same) = ap (λ (s : Stored). s.wanted) same.1
begun_wants old begun (inr starts) = ap (λ (u : Updates). u.wanted) starts.1

status_starts : (old new : State) → StartsStatus old new → Stays old.core new.core
status_starts old new made = of_wanted old.core new.core (ap (λ (s : State). kept s.core) made.is) (ap (λ (u : Updates). u.wanted) made.started ∙ begun_wants old.core.status made.begun made.begins)

-- ---- both

slots_in : (slot s : ℕ) → slot < 2 → slot_start kind.Descriptor slot ≤ s → s < slot_start kind.Descriptor slot + slot_size kind.Descriptor
    → (slot_start kind.Descriptor 0 ≤ s) × (s < slot_start kind.Descriptor 1 + slot_size kind.Descriptor)
slots_in slot s two low high = (omega arith, omega arith)

-- where the slots hold what they held, what spared the newest ones spares them
spares_on : (old new : State) → Stays old.core new.core → BothTold old.device.media new.device.media SameSlots → SparesDescriptors old → SparesDescriptors new
spares_on old new stays same spares = by old.device.media new.device.media same spares
  where
    by : (m n : Option Media) → BothTold m n SameSlots → IfSome m (SparesOn old.core) → IfSome n (SparesOn new.core)
    by None None both spared = tt
    by None (Some n) both spared = absurd both
    by (Some m) None both spared = absurd both
    by (Some m) (Some n) both spared = λ d there.
        stays.slots d ∙ spared d (stays.fewer d there)
        ∙ sym (slot_for_same descriptor_of kind.Descriptor (m d) (n d) (λ slot s two low high. let in_both = slots_in slot s two low high in both d s in_both.0 in_both.1))

-- ---- a turn

module _ (old new : State) (outside : LeavesDescriptors old.device) (spares : SparesDescriptors old) where
  stays_still : Stays old.core new.core → new.device ≡ old.device → SparesDescriptors new
  stays_still stays is = spares_on old new stays (same_media old.device.media new.device.media (ap (λ (d : Device). d.media) is)) spares

  all_still : new.device ≡ old.device → still new.core ≡ still old.core → SparesDescriptors new
  all_still is same = stays_still (of_still old.core new.core same) is

  started : (f : Flight) → Starts old.device new.device f → Stays old.core new.core → SparesDescriptors new
  started f starts stays = spares_on old new stays (step_slots old.device new.device outside (Started f starts)) spares

  dirty_stays : (is : Bool) (lv : ℕ) → WantsDirtyIf is lv old.core.status new.core.status → kept new.core ≡ kept old.core → Stays old.core new.core
  dirty_stays false lv same is = of_wanted old.core new.core is (ap (λ (s : Stored). s.wanted) same)
  dirty_stays true lv dirty is = of_kept old.core new.core is (λ d gone. sym (dirty.wants.missing d) ∙ gone)

  event_spares : (it : Event) → Makes it old new → SparesDescriptors new
  event_spares (event.Land place how) made = all_still (ap (λ (s : State). s.device) made.is) (ap (λ (s : State). still s.core) made.is)
  event_spares (event.Admit place) made = stays_still (dirty_stays _ _ made.dirty (ap (λ (s : State). kept s.core) made.is)) (ap (λ (s : State). s.device) made.is)
  event_spares (event.Pin place) made = all_still (ap (λ (s : State). s.device) made.is) (ap (λ (s : State). still s.core) made.is)
  event_spares event.StartStatus made = started made.flight made.launches.starts (status_starts old new made)
  event_spares (event.StartNote place disk) made = started made.flight made.launches.starts (of_still old.core new.core (ap (λ (s : State). still s.core) made.is))
  event_spares (event.StartData place target) made = started made.flight made.launches.starts (of_still old.core new.core (ap (λ (s : State). still s.core) made.is))
  event_spares event.ReadCopy made = started made.flight made.launches.starts (of_still old.core new.core (ap (λ (s : State). still s.core) made.is))
  event_spares event.WriteCopy made = started made.flight made.starts (of_still old.core new.core (ap (λ (s : State). still s.core) made.is))

  end_spares : (at : ℕ) → Ends old new at → SparesDescriptors new
  end_spares at it = spares_on old new (learned_stays it.row.owner it.ok old.core new.core at it.buf it.learns) (by it.ok it.returns.ends) spares
    where
      by : (ok : Bool) → EndsAs ok old.device new.device it.row.ticket it.buf → BothTold old.device.media new.device.media SameSlots
      by true ended = step_slots old.device new.device outside (Ended it.row.ticket it.buf ended)
      by false ended = step_slots old.device new.device outside (Broke it.row.ticket it.buf ended)

  dark_spares : Darkens old new → SparesDescriptors new
  dark_spares it = spares_on old new (of_wanted old.core new.core (ap kept it.is) it.status.wanted) (dark_slots old.device new.device outside it.device) spares

  finish_spares : (answer : Turned) → FinishMakes old new answer → SparesDescriptors new
  finish_spares turned.Moved made = end_spares made.0 made.1
  finish_spares turned.Idle (inl finds) = spares_on old new (of_still old.core new.core (ap still finds.is)) (step_slots old.device new.device outside (Waited finds.waits)) spares
  finish_spares turned.Idle (inr nothing) = all_still (ap (λ (s : State). s.device) nothing.is) (ap (λ (s : State). still s.core) nothing.is)
  finish_spares turned.Dark made = dark_spares made.1
  finish_spares turned.Off made = all_still (ap (λ (s : State). s.device) made.is) (ap (λ (s : State). still s.core) made.is)

  on_spares : (answer : Turned) → OnMakes old new answer → SparesDescriptors new
  on_spares answer (Moves it event made is) = event_spares it made
  on_spares answer (NoStart it event start dark is) = dark_spares dark
  on_spares answer (Finishes none made) = finish_spares answer made

  turn_spares : (answer : Turned) → TurnMakes old new answer → SparesDescriptors new
  turn_spares answer (WasDark dark is same) = all_still (ap (λ (s : State). s.device) same) (ap (λ (s : State). still s.core) same)
  turn_spares answer (WasOff off is same) = all_still (ap (λ (s : State). s.device) same) (ap (λ (s : State). still s.core) same)
  turn_spares answer (WasOn on made) = on_spares answer made

  -- ---- an order

  order_slots : (what : Arrange) (done : Bool) → ArrangesSession old new what done → BothTold old.device.media new.device.media SameSlots
  order_slots what done it = by (arrange_step old.device new.device what done it.device)
    where
      by : (new.device ≡ old.device) ⊎ DeviceStep old.device new.device → BothTold old.device.media new.device.media SameSlots
      by (inl is) = same_media old.device.media new.device.media (ap (λ (d : Device). d.media) is)
      by (inr made) = step_slots old.device new.device outside made

  order_spares : (what : Arrange) (done : Bool) → ArrangesSession old new what done → SparesDescriptors new
  order_spares what done it = by (done && is_cut what) it.is
    where
      by : (b : Bool) → new.core ≡ (if b then all_dark old.core else old.core) → SparesDescriptors new
      by true is = spares_on old new (of_still old.core new.core (ap still is)) (order_slots what done it) spares
      by false is = spares_on old new (of_still old.core new.core (ap still is)) (order_slots what done it) spares

pub turn_spares_descriptors : TurnSparesDescriptors
turn_spares_descriptors old new answer outside made spares = turn_spares old new outside spares answer made

-- ---- the calls of a client

module _ (s : State) (new : Core) (spares : SparesDescriptors s) where
  same_spares : still new ≡ still s.core → SparesDescriptors (state s.device new)
  same_spares same = spares_on s (state s.device new) (of_still s.core new same) (same_media s.device.media s.device.media refl) spares

  submits : (client : ℕ) (ask : Ask) (bytes : Option (List ℕ)) (answered : Result ℕ AskFault) → SubmitGives s.core new client ask bytes answered → SparesDescriptors (state s.device new)
  submits client ask bytes answered = by (ask_fault s.core ask)
    where
      by : (m : Option AskFault) → MatchOption m ((answered ≡ Ok (next_id s.core.history)) × (new ≡ submitted s.core client ask bytes)) (λ (why : AskFault). (answered ≡ Err why) × (new ≡ s.core)) → SparesDescriptors (state s.device new)
      by None it = same_spares (ap still it.1)
      by (Some why) it = same_spares (ap still it.1)

  takes_landed : (place : ℕ) (o : Open) (answered : Taken) (how : Option Outcome) → TakesLanded s.core new place o answered how → SparesDescriptors (state s.device new)
  takes_landed place o answered None it = same_spares (ap still it.1)
  takes_landed place o answered (Some how) it = same_spares (ap still it.1)

  takes : (client id : ℕ) (answered : Taken) → TakeGives s.core new client id answered → SparesDescriptors (state s.device new)
  takes client id answered = by (position (is_asked client id) s.core.requests)
    where
      by : (m : Option ℕ) → MatchOption m ((answered ≡ answer.Unknown) × (new ≡ s.core)) (λ (place : ℕ). TakeAt s.core new place answered) → SparesDescriptors (state s.device new)
      by None it = same_spares (ap still it.1)
      by (Some place) it = takes_landed place it.0 answered it.0.landed it.2

  opens : (counts : Counts) (lv lp number : ℕ) (answered : Result (Unit {0}) CopyFault) → OpenGives counts s.core new lv lp number answered → SparesDescriptors (state s.device new)
  opens counts lv lp number answered = by (copy_fault s.core lv lp number)
    where
      by : (m : Option CopyFault) → MatchOption m ((answered ≡ Ok tt) × Opens counts s.core new lv lp number) (λ (why : CopyFault). (answered ≡ Err why) × (new ≡ s.core)) → SparesDescriptors (state s.device new)
      by None it = same_spares (ap still it.1.is)
      by (Some why) it = same_spares (ap still it.1)

  opens_move : (counts : Counts) (lv lp number : ℕ) (to : Pp) (answered : Result (Unit {0}) OpenFault) → OpenMoveGives counts s.core new lv lp number to answered → SparesDescriptors (state s.device new)
  opens_move counts lv lp number to answered = by (move_fault s.core lv lp number to)
    where
      by : (m : Option OpenFault) → MatchOption m (((answered ≡ Ok tt) × OpensMove counts s.core new lv lp number to) ⊎ ((answered ≡ Err denial.Memory) × (new ≡ s.core))) (λ (why : OpenFault). (answered ≡ Err why) × (new ≡ s.core)) → SparesDescriptors (state s.device new)
      by None (inl it) = same_spares (ap still it.1.is)
      by None (inr it) = same_spares (ap still it.1)
      by (Some why) it = same_spares (ap still it.1)

pub calls_spare_descriptors : CallsSpareDescriptors
calls_spare_descriptors = record {
  submit = λ client ask bytes answered s new gives spares. submits s new spares client ask bytes answered gives;
  take = λ client id answered s new gives spares. takes s new spares client id answered gives;
  open_copy = λ counts lv lp number answered s new gives spares. opens s new spares counts lv lp number answered gives;
  open_move = λ counts lv lp number to answered s new gives spares. opens_move s new spares counts lv lp number to answered gives;
  close_copy = λ s new closes spares. same_spares s new spares (ap still closes.is);
  arrange = λ old new what done outside order spares. order_spares old new outside spares what done order;
}

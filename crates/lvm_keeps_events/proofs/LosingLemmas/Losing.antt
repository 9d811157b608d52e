-- By what a turn makes disks missing.
use Rattle.std.proofs.Common.{◌≡◌, ◌⊎◌, inl, inr, ◌==◌, ℕ, Bool, true, false, refl, sym, ◌∙◌, ap, subst, if◌then◌else◌}
use Rattle.std.proofs.lemmas.Bool.{eqb-true}
use Rattle.lvm_num.specs.Buffer.{Buffer}
use Rattle.lvm_num.specs.Status.{calls_missing}
use Rattle.lvm_num.specs.declared.status.Status.{Status}
use Rattle.lvm_disk.proofs.CountingLemmas.{rose_after, rose_before}
use Rattle.lvm_status.specs.Table.{SameMissing}
use Rattle.lvm_status.specs.Calls.{BecomesMissing, WantsAtEnd}
use Rattle.lvm_status.specs.Update.{Stored, Updates}
use Rattle.lvm_path.specs.Asks.{lv_of}
use Rattle.lvm_session.specs.declared.answers.Turned.{Turned}
use Rattle.lvm_session.specs.declared.answers.Turned.TheVariants as turned
use Rattle.lvm_session.specs.declared.bringing.OpenCopy.{OpenCopy}
use Rattle.lvm_session.specs.declared.bringing.Step.{Step}
use Rattle.lvm_session.specs.declared.bringing.Step.TheVariants as step
use Rattle.lvm_session.specs.declared.event.Event.{Event}
use Rattle.lvm_session.specs.declared.event.Event.TheVariants as event
use Rattle.lvm_session.specs.declared.flown.Flown.{Flown}
use Rattle.lvm_session.specs.declared.flown.Owner.{Owner}
use Rattle.lvm_session.specs.declared.flown.Owner.TheVariants as owner
use Rattle.lvm_session.specs.declared.open.Power.TheVariants as power
use Rattle.lvm_session.specs.Bringing.{is_whole}
use Rattle.lvm_session.specs.Ends.{CopyLearns, Ends, CopyStepsOn, Learns, NoteLearns, Returns, StepLearns, StepLeaves, with_return, without_step}
use Rattle.lvm_session.specs.Events.{PutsInFlight}
use Rattle.lvm_session.specs.Judging.{is_missing, is_running}
use Rattle.lvm_session.specs.Marks.{WantsDirtyIf}
use Rattle.lvm_session.specs.Owners.{IsNoteOf, IsStatusOf, IsTransferOf}
use Rattle.lvm_session.specs.Sound.{IsSound}
use Rattle.lvm_session.specs.State.{Core, State}
use Rattle.lvm_session.specs.Turns.{Darkens, FinishMakes, Finishes, Makes, Moves, NoStart, OnMakes, WasDark, WasOff, WasOn}
use Rattle.lvm_keeps_events.proofs.StatusEndsLemmas.NoteFail.{faulted}
use Rattle.lvm_keeps_events.proofs.OwnersLemmas.Removal.{taken_out}
use Rattle.lvm_keeps_events.specs.Losing.{HasFailedOn, LosesByFaults, LossesJoin, TurnsLoseByFaults}

module _ (old new : State) where
  -- what is wanted calls the same disks missing as before
  same_missing : SameMissing old.core.status.wanted new.core.status.wanted → LosesByFaults old new
  same_missing same disk gone = inl (sym (same disk) ∙ gone)

  stay : new.core.status ≡ old.core.status → LosesByFaults old new
  stay same = same_missing (λ disk. ap (λ (s : Stored). calls_missing s.wanted disk) same)

  -- this one may be missing besides, of which a transfer has failed
  one_more : (disk : ℕ) (mid : Status) → BecomesMissing disk old.core.status.wanted mid → SameMissing mid new.core.status.wanted → HasFailedOn old new disk → LosesByFaults old new
  one_more disk mid becomes same failed d gone = by (d == disk) refl (sym (becomes.missing d) ∙ sym (same d) ∙ gone)
    where
      by : (b : Bool) → (d == disk) ≡ b → (if b then true else is_missing old.core d) ≡ true → (is_missing old.core d ≡ true) ⊎ HasFailedOn old new d
      by true is i = inr (subst (λ n. HasFailedOn old new n) (sym (eqb-true d disk is)) failed)
      by false is i = inl i

  -- ---- the events

  begun_missing : (begun : Stored) (disk : ℕ) → PutsInFlight old.core.status begun → calls_missing begun.wanted disk ≡ calls_missing old.core.status.wanted disk
  begun_missing begun disk (inl same) = ap (λ (s : Stored). calls_missing s.wanted disk) same.1
  begun_missing begun disk (inr more) = ap (λ (u : Updates). calls_missing u.wanted disk) more.1

  event_loses : (it : Event) → Makes it old new → LosesByFaults old new
  event_loses (event.Land place how) made = stay (ap (λ (s : State). s.core.status) made.is)
  event_loses (event.Admit place) made = by _ made.dirty
    where
      by : (b : Bool) → WantsDirtyIf b (lv_of made.request.request.ask) old.core.status new.core.status → LosesByFaults old new
      by false same = stay same
      by true wants = same_missing wants.wants.missing
  event_loses (event.Pin place) made = stay (ap (λ (s : State). s.core.status) made.is)
  event_loses event.StartStatus made = same_missing (λ disk. ap (λ (u : Updates). calls_missing u.wanted disk) made.started ∙ begun_missing made.begun disk made.begins)
  event_loses (event.StartNote place disk) made = stay (ap (λ (s : State). s.core.status) made.is)
  event_loses (event.StartData place target) made = stay (ap (λ (s : State). s.core.status) made.is)
  event_loses event.ReadCopy made = stay (ap (λ (s : State). s.core.status) made.is)
  event_loses event.WriteCopy made = stay (ap (λ (s : State). s.core.status) made.is)

  -- ---- the ends of transfers

  module _ (sound : IsSound old) (on : old.core.power ≡ power.On) (at : ℕ) (row : Flown) (buf : Buffer) where
    -- a transfer that has failed is that of its owner
    flew : (returns : Returns old new at row false buf) → IsTransferOf old.core row.owner returns.ends.flight
    flew returns = (taken_out old.core old.core.flying old.device.flights new.device.flights at row returns.ends.flight (sound.on on).rows (sound.on on).going.tickets returns.there returns.ends.flights returns.ends.its).own.own

    note_failed : (disk : ℕ) → row.owner ≡ owner.Note disk → Returns old new at row false buf → HasFailedOn old new disk
    note_failed disk own returns =
        let its : IsNoteOf old.core disk returns.ends.flight = subst (λ who. IsTransferOf old.core who returns.ends.flight) own (flew returns) in
        faulted returns.ends.flight disk old.device.counts new.device.counts its.write its.disk_is returns.ends.counts

    status_failed : (disk : ℕ) → row.owner ≡ owner.Status disk → Returns old new at row false buf → HasFailedOn old new disk
    status_failed disk own returns =
        let its : IsStatusOf old.core disk returns.ends.flight = subst (λ who. IsTransferOf old.core who returns.ends.flight) own (flew returns) in
        faulted returns.ends.flight disk old.device.counts new.device.counts its.writes.write its.writes.disk_is returns.ends.counts

    note_loses : (disk : ℕ) (ok : Bool) → row.owner ≡ owner.Note disk → Returns old new at row ok buf → NoteLearns old.core at disk ok buf new.core → LosesByFaults old new
    note_loses disk true own returns it = stay (ap (λ (c : Core). c.status) it)
    note_loses disk false own returns it = one_more disk it.0.wanted it.1.wants it.2.marks.missing (note_failed disk own returns)

    status_loses : (disk : ℕ) (ok : Bool) (mid : Status) → row.owner ≡ owner.Status disk → Returns old new at row ok buf → WantsAtEnd disk ok old.core.status.wanted mid → SameMissing mid new.core.status.wanted → LosesByFaults old new
    status_loses disk true mid own returns same after = same_missing (λ d. after d ∙ ap (λ (w : Status). calls_missing w d) same)
    status_loses disk false mid own returns becomes after = one_more disk mid becomes after (status_failed disk own returns)

  on_missing : (whole : Bool) (core on : Core) (c : OpenCopy) → core.status ≡ old.core.status → CopyStepsOn whole core c on → SameMissing old.core.status.wanted on.status.wanted
  on_missing false core on c same is = λ disk. ap (λ (k : Core). calls_missing k.status.wanted disk) is ∙ ap (λ (s : Stored). calls_missing s.wanted disk) same
  on_missing true core on c same it = λ disk. it.0.wants.missing disk ∙ ap (λ (s : Stored). calls_missing s.wanted disk) same

  step_loses : (at_step : Step) (ok : Bool) (at : ℕ) (c : OpenCopy) (buf : Buffer) → StepLeaves at_step ok old.core at c buf new.core → LosesByFaults old new
  step_loses step.Idle ok at c buf it = absurd it
  step_loses (step.Read hand) ok at c buf it = absurd it
  step_loses (step.Reading source) true at c buf is = stay (ap (λ (k : Core). k.status) is)
  step_loses (step.Reading source) false at c buf it = same_missing it.reviews.marks.missing
  step_loses step.Writing true at c buf it =
      let before = on_missing (is_whole (without_step (with_return old.core at buf) c) it.next) (without_step (with_return old.core at buf) c) it.on it.next refl it.goes in
      same_missing (λ disk. it.reviews.marks.missing disk ∙ before disk)
  step_loses step.Writing false at c buf it = same_missing it.marks.missing

  copy_loses : (at : ℕ) (ok : Bool) (buf : Buffer) → CopyLearns old.core at ok buf new.core → LosesByFaults old new
  copy_loses at ok buf it = by (is_running it.copy) it.learns
    where
      by : (b : Bool) → StepLearns b old.core at it.copy ok buf new.core → LosesByFaults old new
      by true leaves = step_loses it.copy.step ok at it.copy buf leaves
      by false quits = stay (ap (λ (k : Core). k.status) quits)

  end_loses : IsSound old → old.core.power ≡ power.On → (at : ℕ) → Ends old new at → LosesByFaults old new
  end_loses sound on at it = by it.row.owner refl it.learns
    where
      by : (who : Owner) → it.row.owner ≡ who → Learns who old.core at it.ok it.buf new.core → LosesByFaults old new
      by (owner.Data id target) own learns = same_missing learns.entails.marks.missing
      by (owner.Status disk) own learns = status_loses sound on at it.row it.buf disk it.ok learns.status.wanted own it.returns learns.wants learns.reviews.marks.missing
      by (owner.Note disk) own learns = note_loses sound on at it.row it.buf disk it.ok own it.returns learns
      by owner.Copy own learns = copy_loses at it.ok it.buf learns

  -- ---- a turn

  dark_loses : Darkens old new → LosesByFaults old new
  dark_loses it = same_missing (λ disk. ap (λ (w : Status). calls_missing w disk) it.status.wanted)

  finish_loses : IsSound old → old.core.power ≡ power.On → (answer : Turned) → FinishMakes old new answer → LosesByFaults old new
  finish_loses sound on turned.Moved made = end_loses sound on made.0 made.1
  finish_loses sound on turned.Idle (inl finds) = stay (ap (λ (c : Core). c.status) finds.is)
  finish_loses sound on turned.Idle (inr nothing) = stay (ap (λ (s : State). s.core.status) nothing.is)
  finish_loses sound on turned.Dark made = dark_loses made.1
  finish_loses sound on turned.Off made = stay (ap (λ (s : State). s.core.status) made.is)

  on_loses : IsSound old → old.core.power ≡ power.On → (answer : Turned) → OnMakes old new answer → LosesByFaults old new
  on_loses sound on answer (Moves it first made is) = event_loses it made
  on_loses sound on answer (NoStart it first start dark is) = dark_loses dark
  on_loses sound on answer (Finishes none made) = finish_loses sound on answer made

pub turn_loses : TurnsLoseByFaults
turn_loses old new answer sound (WasDark dark is same) = stay old new (ap (λ (s : State). s.core.status) same)
turn_loses old new answer sound (WasOff off is same) = stay old new (ap (λ (s : State). s.core.status) same)
turn_loses old new answer sound (WasOn on made) = on_loses old new sound on answer made

-- ---- one behind the other

pub loses_none : (s : State) → LosesByFaults s s
loses_none s disk gone = inl gone

pub loses_both : LossesJoin
loses_both old mid new earlier later one two disk gone = late (two disk gone)
  where
    early : (is_missing old.core disk ≡ true) ⊎ HasFailedOn old mid disk → (is_missing old.core disk ≡ true) ⊎ HasFailedOn old new disk
    early (inl was) = inl was
    early (inr rose) = inr (rose_after rose (later.faults disk))

    late : (is_missing mid.core disk ≡ true) ⊎ HasFailedOn mid new disk → (is_missing old.core disk ≡ true) ⊎ HasFailedOn old new disk
    late (inl was) = early (one disk was)
    late (inr rose) = inr (rose_before (earlier.faults disk) rose)

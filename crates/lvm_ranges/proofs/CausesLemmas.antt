-- What has happened where copies aren't brought up.
use Rattle.std.proofs.Common.{◌||◌, ◌≡◌, ◌⊎◌, inl, inr, ⊎_elim, ◌≤◌, ◌-◌, ℕ, Bool, true, false, List, [], Option, None, Some, Result, Ok, Err, if◌then◌else◌, nat_lt, length, slice_index_or, refl, sym, ap, subst, ◌∙◌, arith}
use Rattle.std.specs.Prelude.{IfSome, IfErr, is_some}
use Rattle.std.specs.Option.{option_map_or}
use Rattle.lvm_num.specs.declared.descriptor.Descriptor.{Descriptor}
use Rattle.lvm_num.specs.declared.descriptor.LvRow.{LvRow}
use Rattle.lvm_num.specs.declared.place.Pp.{Pp}
use Rattle.lvm_num.specs.Descriptor.{IsValid, copies_of, volume_of}
use Rattle.lvm_disk.specs.Counts.{Rose}
use Rattle.lvm_disk.specs.Device.{Device}
use Rattle.lvm_disk.specs.Paths.{Broke, Ended, Here, Started, Then, Waited, WasCut}
use Rattle.lvm_disk.specs.Steps.{GoesDark}
use Rattle.lvm_disk.proofs.CountingLemmas.{rose_after, rose_before}
use Rattle.lvm_disk.proofs.StepsLemmas.{step_same}
use Rattle.lvm_due.proofs.DescriptorLemmas.Members.{few_in}
use Rattle.lvm_session.specs.declared.answers.CopyState.{CopyState}
use Rattle.lvm_session.specs.declared.answers.CopyState.TheVariants as copy
use Rattle.lvm_session.specs.declared.answers.Turned.{Turned}
use Rattle.lvm_session.specs.declared.answers.Turned.TheVariants as turned
use Rattle.lvm_session.specs.declared.bringing.CopyEnd.{CopyEnd}
use Rattle.lvm_session.specs.declared.bringing.CopyEnd.TheVariants as ending
use Rattle.lvm_session.specs.declared.bringing.OpenCopy.{OpenCopy}
use Rattle.lvm_session.specs.declared.event.Event.{Event}
use Rattle.lvm_session.specs.declared.event.Event.TheVariants as event
use Rattle.lvm_session.specs.declared.open.Power.{Power}
use Rattle.lvm_session.specs.declared.open.Power.TheVariants as power
use Rattle.lvm_session.specs.declared.origin.Origin.{Origin}
use Rattle.lvm_session.specs.Bringing.{is_out}
use Rattle.lvm_session.specs.Calls.{copy_at, has_numbers, state_at_end, state_of_copy, is_still_aimed}
use Rattle.lvm_session.specs.Causes.{FailedSinceOpening, HaveSourcesFailed, IsCausedAmong, faults_at_first, faults_at_opening, OwnFailedSinceOpening, own_faults}
use Rattle.lvm_session.specs.Ends.{Ends, EndsAs}
use Rattle.lvm_session.specs.Judging.{copies_in, is_move_done}
use Rattle.lvm_session.specs.State.{Core, State}
use Rattle.lvm_session.specs.Turns.{FinishMakes, Finishes, Makes, Moves, NoStart, OnMakes, TurnMakes, WasDark, WasOff, WasOn}
use Rattle.lvm_ranges.specs.passed.Calls.{counts_seen, faults_seen}
use Rattle.lvm_ranges.proofs.passed.KeepsEvents.{turn_counts, at_place, counted_at, last_count}
use Rattle.lvm_ranges.proofs.passed.Going.{Given, given, turn_goes}
use Rattle.lvm_ranges.specs.declared.copies.Passed.{Passed}
use Rattle.lvm_ranges.specs.declared.copies.Passed.TheVariants as passed
use Rattle.lvm_ranges.specs.declared.fault.SyncFault.{SyncFault}
use Rattle.lvm_ranges.specs.declared.fault.SyncFault.TheVariants as fault
use Rattle.lvm_ranges.specs.declared.tally.Tally.{Tally}
use Rattle.lvm_ranges.specs.Causes.{AnyFails, SyncCause}
use Rattle.lvm_ranges.specs.Passing.{Copy, EachTurnWhile, FailedFor, IsBroughtUp, HasEndedFor, IsOpened, IsSameCopy, IsUnsettled, PassesCopy, RefusedFor, Runs}
use Rattle.lvm_ranges.specs.Syncing.{ArePassed, IsAnswer, NonePassed, OnePassed, PassesCopies, StopsAmong, fault_by, fault_on, group_fault, no_tally, numbers_fault, or_first, partition_fault, volume_fault, with_passed}
use Rattle.lvm_ranges.proofs.PassingLemmas.Making.{as_opened}
use Rattle.lvm_ranges.proofs.TurningLemmas.{TurnsIn, turns_in}

-- ---- a turn leaves the disks as they are

same_sizes : (old new : Device) → new ≡ old → new.sizes ≡ old.sizes
same_sizes old new is = ap (λ (d : Device). d.sizes) is

dark_sizes : (old new : Device) → GoesDark old new → new.sizes ≡ old.sizes
dark_sizes old new (inl off) = same_sizes old new off.1
dark_sizes old new (inr cuts) = (step_same old new (WasCut cuts)).sizes

event_sizes : (it : Event) (old new : State) → Makes it old new → new.device.sizes ≡ old.device.sizes
event_sizes (event.Land place how) old new made = same_sizes old.device new.device (ap (λ (s : State). s.device) made.is)
event_sizes (event.Admit place) old new made = same_sizes old.device new.device (ap (λ (s : State). s.device) made.is)
event_sizes (event.Pin place) old new made = same_sizes old.device new.device (ap (λ (s : State). s.device) made.is)
event_sizes event.StartStatus old new made = (step_same old.device new.device (Started made.flight made.launches.starts)).sizes
event_sizes (event.StartNote place disk) old new made = (step_same old.device new.device (Started made.flight made.launches.starts)).sizes
event_sizes (event.StartData place target) old new made = (step_same old.device new.device (Started made.flight made.launches.starts)).sizes
event_sizes event.ReadCopy old new made = (step_same old.device new.device (Started made.flight made.launches.starts)).sizes
event_sizes event.WriteCopy old new made = (step_same old.device new.device (Started made.flight made.starts)).sizes

module _ (old new : State) where
  end_sizes : (at : ℕ) → Ends old new at → new.device.sizes ≡ old.device.sizes
  end_sizes at it = by it.ok it.returns.ends
    where
      by : (ok : Bool) → EndsAs ok old.device new.device it.row.ticket it.buf → new.device.sizes ≡ old.device.sizes
      by true ended = (step_same old.device new.device (Ended it.row.ticket it.buf ended)).sizes
      by false ended = (step_same old.device new.device (Broke it.row.ticket it.buf ended)).sizes

  finish_sizes : (answer : Turned) → FinishMakes old new answer → new.device.sizes ≡ old.device.sizes
  finish_sizes turned.Moved made = end_sizes made.0 made.1
  finish_sizes turned.Idle (inl finds) = (step_same old.device new.device (Waited finds.waits)).sizes
  finish_sizes turned.Idle (inr nothing) = same_sizes old.device new.device (ap (λ (s : State). s.device) nothing.is)
  finish_sizes turned.Dark made = dark_sizes old.device new.device made.1.device
  finish_sizes turned.Off made = same_sizes old.device new.device (ap (λ (s : State). s.device) made.is)

  on_sizes : (answer : Turned) → OnMakes old new answer → new.device.sizes ≡ old.device.sizes
  on_sizes answer (Moves it first made is) = event_sizes it old new made
  on_sizes answer (NoStart it first start dark is) = dark_sizes old.device new.device dark.device
  on_sizes answer (Finishes none made) = finish_sizes answer made

  turn_sizes : (answer : Turned) → TurnMakes old new answer → new.device.sizes ≡ old.device.sizes
  turn_sizes answer (WasDark dark is same) = same_sizes old.device new.device (ap (λ (s : State). s.device) same)
  turn_sizes answer (WasOff off is same) = same_sizes old.device new.device (ap (λ (s : State). s.device) same)
  turn_sizes answer (WasOn on made) = on_sizes answer made

-- ---- what stays, and what never falls

-- the disks are as large, the group and what was told of its first moment are the same, and no count of faults has fallen
record Since (old new : State) : Type 0 where
  sizes : new.device.sizes ≡ old.device.sizes
  given_is : given new.core ≡ given old.core
  faults : (d : ℕ) → old.device.counts.faults d ≤ new.device.counts.faults d

since_same : (s : State) → Since s s
since_same s = record { sizes = refl; given_is = refl; faults = λ d. omega arith }

since_both : (old mid new : State) → Since old mid → Since mid new → Since old new
since_both old mid new one two = record { sizes = two.sizes ∙ one.sizes; given_is = two.given_is ∙ one.given_is; faults = λ d. let a = one.faults d in let b = two.faults d in omega (arith, a, b) }

since_path : (Is : Core → Type 0) (old new : State) → TurnsIn Is old new → Since old new
since_path Is old new (Here any) = since_same old
since_path Is old new (Then {m} path step any) = since_both old m new (since_path Is old m path)
    (record { sizes = turn_sizes m new step.1.0 step.1.1; given_is = (turn_goes m new step.1.0 step.1.1).given_is; faults = (turn_counts m new step.1.0 step.1.1).faults })

since_turns : (Is : Core → Type 0) {patience left : ℕ} (old new : State) → EachTurnWhile Is patience left old new → Since old new
since_turns Is old new turns = since_path Is old new (turns_in Is turns)

-- by a call, which makes no transfer
since_call : (old new : State) → new.device ≡ old.device → given new.core ≡ given old.core → Since old new
since_call old new same given_is = record { sizes = same_sizes old.device new.device same; given_is = given_is; faults = λ d. subst (λ (x : Device). old.device.counts.faults d ≤ x.counts.faults d) (sym same) (omega arith) }

since_opened : (c : Copy) {patience left : ℕ} (old opened : State) (it : IsOpened c patience left old opened) → Since old opened
since_opened c old opened it = since_both old it.judged opened (since_turns (IsUnsettled c) old it.judged it.settles) (since_call it.judged opened it.device (ap given it.opens.is))

since_ended : (how : CopyState) {patience left : ℕ} (opened new : State) → HasEndedFor patience left opened new how → Since opened new
since_ended how opened new it = since_both opened it.ended new (since_turns Runs opened it.ended it.turns) (since_call it.ended new (ap (λ (s : State). s.device) it.is) (ap (λ (s : State). given s.core) it.is))

since_brought : (how : CopyState) (c : Copy) {patience left : ℕ} (old new : State) → IsBroughtUp c patience left old new how → Since old new
since_brought how c old new it = since_both old it.opened new (since_opened c old it.opened it.opens) (since_ended how it.opened new it.ends)

since_refused : (c : Copy) (patience left : ℕ) (old new : State) (why : SyncFault) → RefusedFor c patience left old new why → Since old new
since_refused c patience left old new (fault.NoFresh lp) it = since_turns (IsUnsettled c) old new it.1.settles
since_refused c patience left old new (fault.Missing disk) it = since_turns (IsUnsettled c) old new it.settles
since_refused c patience left old new fault.Dark it = absurd it
since_refused c patience left old new fault.Off it = absurd it
since_refused c patience left old new fault.Stuck it = absurd it
since_refused c patience left old new fault.Busy it = absurd it
since_refused c patience left old new fault.NoVolume it = absurd it
since_refused c patience left old new fault.OutOfRange it = absurd it
since_refused c patience left old new fault.HistoryFull it = absurd it
since_refused c patience left old new (fault.SyncFailed disk) it = absurd it

since_failed : (c : Copy) (patience left : ℕ) (old new : State) (why : SyncFault) → FailedFor c patience left old new why → Since old new
since_failed c patience left old new (fault.SyncFailed disk) it = since_brought (copy.SyncFailed disk) c old new it
since_failed c patience left old new (fault.NoFresh lp) it = since_brought copy.NoFresh c old new it.1
since_failed c patience left old new (fault.Missing disk) it = absurd it
since_failed c patience left old new fault.Dark it = absurd it
since_failed c patience left old new fault.Off it = absurd it
since_failed c patience left old new fault.Stuck it = absurd it
since_failed c patience left old new fault.Busy it = absurd it
since_failed c patience left old new fault.NoVolume it = absurd it
since_failed c patience left old new fault.OutOfRange it = absurd it
since_failed c patience left old new fault.HistoryFull it = absurd it

since_passed : (c : Copy) (patience left : ℕ) (old new : State) (how : Passed) → PassesCopy c patience left old new how → Since old new
since_passed c patience left old new passed.Fresh it = since_turns (IsUnsettled c) old new it.settles
since_passed c patience left old new passed.Made it = since_brought copy.Done c old new it.brings
since_passed c patience left old new (passed.Failed why) (inl it) = since_refused c patience left old new why it
since_passed c patience left old new (passed.Failed why) (inr it) = since_failed c patience left old new why it

since_passes : (first : State) (from : Tally) {patience left : ℕ} (copies : List Copy) (now : State) (tally : Tally) → PassesCopies first from patience copies now tally left → Since first now
since_passes first from all now total NonePassed = since_same first
since_passes first from all now total (OnePassed {copies} {old} {new} {tally} {before} {left} c how rest it) = since_both first old new (since_passes first from copies old tally rest) (since_passed c before left old new how it)

-- ---- what has failed

-- what is seen of the counts never falls
seen_more : (old new : State) → Since old new → (d : ℕ) → faults_seen old.device old.core d ≤ faults_seen new.device new.core d
seen_more old new it d = subst (λ (l : List ℕ). faults_seen old.device old.core d ≤ (if nat_lt d (length l) then new.device.counts.faults d else faults_at_first new.core d)) (sym it.sizes) (by (nat_lt d (length old.device.sizes)))
  where
    first_same : faults_at_first new.core d ≡ faults_at_first old.core d
    first_same = ap (λ (g : Given). let o : Origin = g.1 in slice_index_or o.faults d 0) it.given_is

    by : (b : Bool) → (if b then old.device.counts.faults d else faults_at_first old.core d) ≤ (if b then new.device.counts.faults d else faults_at_first new.core d)
    by true = it.faults d
    by false = omega (arith, first_same)

fails_later : (old mid new : State) → Since old mid → AnyFails mid new → AnyFails old new
fails_later old mid new since fails = (fails.0, rose_before (seen_more old mid since fails.0) fails.1)

fails_still : (old mid new : State) → AnyFails old mid → Since mid new → AnyFails old new
fails_still old mid new fails since = (fails.0, rose_after fails.1 (since.faults fails.0))

-- one that has ended as failed, and rests
failed_end : (core : Core) (c : OpenCopy) (disk : ℕ) → state_of_copy core c ≡ copy.SyncFailed disk → c.end ≡ Some ending.SyncFailed
failed_end core c disk e = by (is_out c.step || is_still_aimed core c) (is_move_done core c) c.end refl e
  where
    by : (b d : Bool) (m : Option CopyEnd) → c.end ≡ m → (if b then copy.Running c.cursor else if d then copy.Done else option_map_or (state_at_end c) m (copy.Running c.cursor)) ≡ copy.SyncFailed disk → c.end ≡ Some ending.SyncFailed
    by true d m is f = absurd (cc f)
    by false true m is f = absurd (cc f)
    by false false None is f = absurd (cc f)
    by false false (Some ending.Done) is f = absurd (cc f)
    by false false (Some ending.SyncFailed) is f = is
    by false false (Some ending.NoFresh) is f = absurd (cc f)
    by false false (Some ending.Ended) is f = absurd (cc f)

module _ (c : Copy) (old new : State) (disk : ℕ) (valid : IsValid old.core.descriptor) {patience left : ℕ} (it : IsBroughtUp c patience left old new (copy.SyncFailed disk)) where
  abbrev pps : List Pp
  pps = copies_of it.opens.opens.row c.lp

  abbrev begun : OpenCopy
  begun = as_opened (counts_seen it.opens.judged.device it.opens.judged.core) it.opens.judged.core it.opened.core c.lv c.lp c.number it.opens.opens

  settled : Since old it.opens.judged
  settled = since_turns (IsUnsettled c) old it.opens.judged it.opens.settles

  its : IfSome it.ends.ended.core.copy (IsSameCopy begun)
  its = subst (λ (m : Option OpenCopy). IfSome m (λ (k : OpenCopy). IfSome it.ends.ended.core.copy (IsSameCopy k))) (ap (λ (k : Core). k.copy) it.opens.opens.is) it.ends.same

  its_copies : copies_in it.opens.judged.core.descriptor c.lv c.lp ≡ pps
  its_copies = ap (λ (m : Option LvRow). option_map_or (λ (r : LvRow). copies_of r c.lp) m []) it.opens.opens.volume

  few : length pps ≤ 3
  few = subst (λ (ps : List Pp). length ps ≤ 3) its_copies (few_in it.opens.judged.core.descriptor c.lv c.lp (subst IsValid (sym (ap (λ (g : Given). let d : Descriptor = g.0 in d) settled.given_is)) valid))

  brought : Since it.opens.judged it.ends.ended
  brought = since_both it.opens.judged it.opened it.ends.ended (since_call it.opens.judged it.opened it.opens.device (ap given it.opens.opens.is)) (since_turns Runs it.opened it.ends.ended it.ends.turns)

  its_copies_then : copies_in it.ends.ended.core.descriptor c.lv c.lp ≡ pps
  its_copies_then = ap (λ (g : Given). let d : Descriptor = g.0 in copies_in d c.lv c.lp) brought.given_is ∙ its_copies

  module _ (k : OpenCopy) (is : it.ends.ended.core.copy ≡ Some k) (how : state_of_copy it.ends.ended.core k ≡ copy.SyncFailed disk) where
    same : IsSameCopy begun k
    same = subst (λ (m : Option OpenCopy). IfSome m (IsSameCopy begun)) is its

    its_own : copies_in it.ends.ended.core.descriptor k.lv k.lp ≡ pps
    its_own = ap (λ (n : ℕ). copies_in it.ends.ended.core.descriptor n k.lp) same.1 ∙ ap (λ (n : ℕ). copies_in it.ends.ended.core.descriptor c.lv n) same.2 ∙ its_copies_then

    rose : (n : ℕ) (p : Pp) → copy_at pps n ≡ Some p → FailedSinceOpening it.ends.ended.device k n p → AnyFails it.opens.judged it.ends.ended
    rose n p at since = (p.disk, subst (λ (x : ℕ). Rose x (it.ends.ended.device.counts.faults p.disk)) seen since)
      where
        seen : faults_at_opening k n ≡ faults_seen it.opens.judged.device it.opens.judged.core p.disk
        seen = ap (λ (fs : List ℕ). slice_index_or fs (n - 1) 0) same.4 ∙ counted_at (counts_seen it.opens.judged.device it.opens.judged.core) pps it.opens.opens.pp (n - 1) p few (at_place pps n p at)

    own_rose : OwnFailedSinceOpening it.ends.ended.device k → AnyFails it.opens.judged it.ends.ended
    own_rose since = (k.pp.disk, subst (λ (x : ℕ). Rose x (it.ends.ended.device.counts.faults k.pp.disk)) seen since)
      where
        seen : own_faults k ≡ faults_seen it.opens.judged.device it.opens.judged.core k.pp.disk
        seen = ap (λ (fs : List ℕ). slice_index_or fs 3 0) same.4 ∙ last_count (counts_seen it.opens.judged.device it.opens.judged.core) pps it.opens.opens.pp
            ∙ ap (λ (p : Pp). faults_seen it.opens.judged.device it.opens.judged.core p.disk) (sym same.0)

    caused : IsCausedAmong it.ends.ended (copies_in it.ends.ended.core.descriptor k.lv k.lp) k
    caused = subst (λ (m : Option OpenCopy). IfSome m (λ (x : OpenCopy). IsCausedAmong it.ends.ended (copies_in it.ends.ended.core.descriptor x.lv x.lp) x)) is it.ends.caused

    failed : AnyFails it.opens.judged it.ends.ended
    failed = by (caused.failed (failed_end it.ends.ended.core k disk how))
      where
        by : OwnFailedSinceOpening it.ends.ended.device k ⊎ HaveSourcesFailed it.ends.ended (copies_in it.ends.ended.core.descriptor k.lv k.lp) k → AnyFails it.opens.judged it.ends.ended
        by (inl own) = own_rose own
        by (inr sources) = rose sources.number sources.source (ap (λ (ps : List Pp). copy_at ps sources.number) (sym its_own) ∙ sources.source_is) sources.one

  brought_fails : AnyFails old new
  brought_fails = fails_later old it.opens.judged new settled (fails_still it.opens.judged it.ends.ended new (by it.ends.ended.core.copy refl) closes)
    where
      closes : Since it.ends.ended new
      closes = since_call it.ends.ended new (ap (λ (s : State). s.device) it.ends.is) (ap (λ (s : State). given s.core) it.ends.is)

      by : (m : Option OpenCopy) → it.ends.ended.core.copy ≡ m → AnyFails it.opens.judged it.ends.ended
      by None is = absurd (let e : copy.Closed ≡ copy.SyncFailed disk = sym (ap (λ (m : Option OpenCopy). option_map_or (state_of_copy it.ends.ended.core) m copy.Closed) is) ∙ it.ends.how_is in cc e)
      by (Some k) is = failed k is (sym (ap (λ (m : Option OpenCopy). option_map_or (state_of_copy it.ends.ended.core) m copy.Closed) is) ∙ it.ends.how_is)

-- ---- why copies stay stale

-- a transfer has failed, or none had to
abbrev StaysFor : State → State → SyncFault → Type 0
StaysFor old new (fault.SyncFailed disk) = AnyFails old new
StaysFor old new (fault.NoFresh lp) = Unit {0}
StaysFor old new (fault.Missing disk) = Unit {0}
StaysFor old new other = ⊥

stays_still : (old mid new : State) (why : SyncFault) → Since mid new → StaysFor old mid why → StaysFor old new why
stays_still old mid new (fault.SyncFailed disk) since it = fails_still old mid new it since
stays_still old mid new (fault.NoFresh lp) since it = tt
stays_still old mid new (fault.Missing disk) since it = tt
stays_still old mid new fault.Dark since it = absurd it
stays_still old mid new fault.Off since it = absurd it
stays_still old mid new fault.Stuck since it = absurd it
stays_still old mid new fault.Busy since it = absurd it
stays_still old mid new fault.NoVolume since it = absurd it
stays_still old mid new fault.OutOfRange since it = absurd it
stays_still old mid new fault.HistoryFull since it = absurd it

one_stays : (c : Copy) (patience left : ℕ) (first old new : State) (why : SyncFault) → IsValid old.core.descriptor → Since first old → RefusedFor c patience left old new why ⊎ FailedFor c patience left old new why → StaysFor first new why
one_stays c patience left first old new (fault.SyncFailed disk) valid since (inl none) = absurd none
one_stays c patience left first old new (fault.SyncFailed disk) valid since (inr it) = fails_later first old new since (brought_fails c old new disk valid it)
one_stays c patience left first old new (fault.NoFresh lp) valid since it = tt
one_stays c patience left first old new (fault.Missing disk) valid since it = tt
one_stays c patience left first old new fault.Dark valid since it = ⊎_elim (λ none. absurd none) (λ none. absurd none) it
one_stays c patience left first old new fault.Off valid since it = ⊎_elim (λ none. absurd none) (λ none. absurd none) it
one_stays c patience left first old new fault.Stuck valid since it = ⊎_elim (λ none. absurd none) (λ none. absurd none) it
one_stays c patience left first old new fault.Busy valid since it = ⊎_elim (λ none. absurd none) (λ none. absurd none) it
one_stays c patience left first old new fault.NoVolume valid since it = ⊎_elim (λ none. absurd none) (λ none. absurd none) it
one_stays c patience left first old new fault.OutOfRange valid since it = ⊎_elim (λ none. absurd none) (λ none. absurd none) it
one_stays c patience left first old new fault.HistoryFull valid since it = ⊎_elim (λ none. absurd none) (λ none. absurd none) it

module _ (first : State) (valid : IsValid first.core.descriptor) (c : Copy) (before left : ℕ) (old new : State) (since : Since first old) where
  stays_then : (how : Passed) → PassesCopy c before left old new how → (m : Option SyncFault) → IfSome m (StaysFor first old) → IfSome m (StaysFor first new)
  stays_then how it None stays = tt
  stays_then how it (Some why) stays = stays_still first old new why (since_passed c before left old new how it) stays

  or_stays : (why : SyncFault) → PassesCopy c before left old new (passed.Failed why) → (m : Option SyncFault) → IfSome m (StaysFor first old) → IfSome (or_first m why) (StaysFor first new)
  or_stays why it None stays = one_stays c before left first old new why (subst IsValid (sym (ap (λ (g : Given). let d : Descriptor = g.0 in d) since.given_is)) valid) since it
  or_stays why it (Some w) stays = stays_then (passed.Failed why) it (Some w) stays

  passed_stay : (tally : Tally) → IfSome tally.fault (StaysFor first old) → (how : Passed) → PassesCopy c before left old new how → IfSome (with_passed tally how).fault (StaysFor first new)
  passed_stay tally so_far passed.Fresh it = stays_then passed.Fresh it tally.fault so_far
  passed_stay tally so_far passed.Made it = stays_then passed.Made it tally.fault so_far
  passed_stay tally so_far (passed.Failed why) it = or_stays why it tally.fault so_far

passes_stay : (first : State) → IsValid first.core.descriptor → (patience : ℕ) (copies : List Copy) (now : State) (tally : Tally) (left : ℕ) → PassesCopies first no_tally patience copies now tally left → IfSome tally.fault (StaysFor first now)
passes_stay first valid patience all now total rest NonePassed = tt
passes_stay first valid patience all now total spare (OnePassed {copies} {old} {new} {tally} {before} {left} c how rest it) =
    passed_stay first valid c before left old new (since_passes first no_tally copies old tally rest) tally (passes_stay first valid patience copies old tally before rest) how it

-- ---- the answer

stays_cause : (left : ℕ) (old new : State) (why : SyncFault) → StaysFor old new why → SyncCause left old new why
stays_cause left old new (fault.SyncFailed disk) it = it
stays_cause left old new (fault.NoFresh lp) it = tt
stays_cause left old new (fault.Missing disk) it = tt
stays_cause left old new fault.Dark it = absurd it
stays_cause left old new fault.Off it = absurd it
stays_cause left old new fault.Stuck it = absurd it
stays_cause left old new fault.Busy it = tt
stays_cause left old new fault.NoVolume it = tt
stays_cause left old new fault.OutOfRange it = tt
stays_cause left old new fault.HistoryFull it = absurd it

pub synced_caused : (copies : List Copy) (patience left : ℕ) (old new : State) (tally : Tally) (answer : Result ℕ SyncFault) → IsValid old.core.descriptor → ArePassed copies patience left old new no_tally tally tt → IsAnswer tally answer → IfErr answer (SyncCause left old new)
synced_caused copies patience left old new tally (Ok made) valid passed is = tt
synced_caused copies patience left old new tally (Err why) valid passed is =
    stays_cause left old new why (subst (λ (m : Option SyncFault). IfSome m (StaysFor old new)) (ap (λ (t : Tally). t.fault) is) (passes_stay old valid patience copies new tally left passed.0))

-- it ended before
pub stopped_caused : (copies : List Copy) (patience left : ℕ) (old new : State) (why : SyncFault) → StopsAmong copies patience left old new no_tally why → SyncCause left old new why
stopped_caused copies patience left old new fault.Dark it = it.stops.0
stopped_caused copies patience left old new fault.Off it = it.stops.0
stopped_caused copies patience left old new fault.Stuck it = it.stops.0
stopped_caused copies patience left old new fault.HistoryFull it = it.stops.0.0
stopped_caused copies patience left old new fault.Busy it = tt
stopped_caused copies patience left old new fault.NoVolume it = tt
stopped_caused copies patience left old new fault.OutOfRange it = tt
stopped_caused copies patience left old new (fault.SyncFailed disk) it = absurd it.stops.0
stopped_caused copies patience left old new (fault.NoFresh lp) it = tt
stopped_caused copies patience left old new (fault.Missing disk) it = tt

-- it wasn't begun
module _ (left : ℕ) (s : State) where
  abbrev Caused : Option SyncFault → Type 0
  Caused refused = IfSome refused (SyncCause left s s)

  numbers_caused : Caused (numbers_fault s.core)
  numbers_caused = by (has_numbers s.core) refl
    where
      by : (b : Bool) → has_numbers s.core ≡ b → Caused (if b then None else Some fault.HistoryFull)
      by true is = tt
      by false is = is

  on_caused : (further : Option SyncFault) → Caused further → Caused (fault_by s.core.power (fault_on s.core further))
  on_caused further its = by s.core.power refl
    where
      on : (m : Option OpenCopy) → Caused (if is_some m then Some fault.Busy else further)
      on None = its
      on (Some c) = tt

      by : (p : Power) → s.core.power ≡ p → Caused (fault_by p (fault_on s.core further))
      by power.Dark is = is
      by power.Off is = is
      by power.On is = on s.core.copy
      by power.Stuck is = on s.core.copy

  pub group_caused : Caused (group_fault s.core)
  group_caused = on_caused (numbers_fault s.core) numbers_caused

  pub volume_caused : (lv : ℕ) → Caused (volume_fault s.core lv)
  volume_caused lv = on_caused (option_map_or (λ (row : LvRow). numbers_fault s.core) (volume_of s.core.descriptor lv) (Some fault.NoVolume)) (by (volume_of s.core.descriptor lv))
    where
      by : (m : Option LvRow) → Caused (option_map_or (λ (row : LvRow). numbers_fault s.core) m (Some fault.NoVolume))
      by None = tt
      by (Some row) = numbers_caused

  pub partition_caused : (lv lp : ℕ) → Caused (partition_fault s.core lv lp)
  partition_caused lv lp = on_caused (option_map_or (λ (row : LvRow). if nat_lt lp row.lps then numbers_fault s.core else Some fault.OutOfRange) (volume_of s.core.descriptor lv) (Some fault.NoVolume)) (by (volume_of s.core.descriptor lv))
    where
      inside : (b : Bool) → Caused (if b then numbers_fault s.core else Some fault.OutOfRange)
      inside true = numbers_caused
      inside false = tt

      by : (m : Option LvRow) → Caused (option_map_or (λ (row : LvRow). if nat_lt lp row.lps then numbers_fault s.core else Some fault.OutOfRange) m (Some fault.NoVolume))
      by None = tt
      by (Some row) = inside (nat_lt lp row.lps)

  pub refused_caused : (refused : Option SyncFault) (why : SyncFault) → Caused refused → refused ≡ Some why → SyncCause left s s why
  refused_caused refused why its is = subst Caused is its

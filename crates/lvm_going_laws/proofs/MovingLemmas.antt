-- What the theorem of a session says of its way as one on which copies may move.
use Rattle.std.proofs.Common.{◌≡◌, ◌⊎◌, inl, inr, ⊎_elim, ℕ, Bool, true, List, [], ◌∷◌, Option, Some, None, Result, Ok, Err, refl, sym, subst, ◌∙◌, ap}
use Rattle.std.specs.Prelude.{MatchOption}
use Rattle.lvm_num.specs.declared.descriptor.Descriptor.{Descriptor}
use Rattle.lvm_disk.specs.Counts.{Counts}
use Rattle.lvm_num.specs.declared.place.Pp.{Pp}
use Rattle.lvm_disk.specs.declared.shelf.Arrange.{Arrange}
use Rattle.lvm_disk.specs.Device.{Device}
use Rattle.lvm_disk.specs.Paths.{Here, Then}
use Rattle.lvm_disk.proofs.CountingLemmas.{none_falls_at_once, none_falls_on}
use Rattle.lvm_vol.specs.Facts.{Fact}
use Rattle.lvm_vol.specs.Log.{Log}
use Rattle.lvm_status.specs.Table.{has_row}
use Rattle.lvm_status.proofs.MarkingLemmas.{has_row-same}
use Rattle.lvm_steps.specs.Behind.{StampsAreEarlier, beginning_at}
use Rattle.lvm_steps.proofs.LawsLemmas.Shelves.{left_is_before, still_keeps_before}
use Rattle.lvm_session.specs.declared.open.Power.{Power}
use Rattle.lvm_session.specs.declared.open.Power.TheVariants as power
use Rattle.lvm_session.specs.declared.origin.Origin.{Origin}
use Rattle.lvm_session.specs.declared.answers.OpenFault.{OpenFault}
use Rattle.lvm_session.specs.declared.answers.OpenFault.TheVariants as denial
use Rattle.lvm_session.specs.Calls.{OpenMoveGives, OpensMove, move_fault}
use Rattle.lvm_session.specs.Causes.{is_over}
use Rattle.lvm_session.specs.Sound.{IsSound}
use Rattle.lvm_session.specs.Turns.{ArrangesSession, WasDark, WasOff, WasOn}
use Rattle.lvm_session.specs.State.{Core, State, state}
use Rattle.lvm_going.specs.Going.{AnyStep, BeginsMove, ClosesCopy, CommitsItsMove, Leaves, LeavesSession, MakesTurn, MovingStep, OpensCopy, Orders, Runs, Submits, Takes, TakesEarlier}
use Rattle.lvm_going.specs.Statuses.{IsStamped}
use Rattle.lvm_going.proofs.GoingLemmas.{moving_keeps, path_keeps, path_shape}
use Rattle.lvm_going.proofs.ShelvesLemmas.{cut_both}
use Rattle.lvm_tie.specs.Running.{GoesOnOrEnds, KeepsOrigin}
use Rattle.lvm_tie.specs.Spares.{LeavesDescriptors, SparesDescriptors}
use Rattle.lvm_tie.specs.Tied.{IsTied}
use Rattle.lvm_tie.proofs.LawsLemmas.Calls.{calls_run_on}
use Rattle.lvm_tie.proofs.LawsLemmas.Running.{keeps_power, origin_same, was_on}
use Rattle.lvm_tie.proofs.SparesLemmas.{over_leaves_descriptors, tied_leaves_descriptors}
use Rattle.lvm_tie.proofs.StampsLemmas.{arrange_leaves_before}
use Rattle.lvm_going_laws.specs.Laws.{StaysGood}
use Rattle.lvm_going_laws.specs.Moving.{FoundOn, GoingMovesOn, IsLeftBefore, IsNextOf, LeavesMoveOn, MovesFindTheirs, MovesOn, SparingGoesOn}
use Rattle.lvm_going_laws.proofs.CommitLemmas.{commit_finds_next, commit_moves_on}
use Rattle.lvm_going_laws.proofs.GoingLemmas.{going_leaves}
use Rattle.lvm_going_laws.proofs.StatusesLemmas.{is_stamped}

-- ---- where no copy moves

-- what is on was on, and is heard of
heard_of : (core : Core) → core.power ≡ power.On → core.power ≡ power.Stuck → ⊥
heard_of core on stuck = let e : power.On ≡ power.Stuck = sym on ∙ stuck in cc

lit_now : (core : Core) → core.power ≡ power.On → core.power ≡ power.Dark → ⊥
lit_now core on dark = let e : power.On ≡ power.Dark = sym on ∙ dark in cc

stays_moves_on : (first last : State) → StaysGood first last → (rows : (disk : ℕ) → has_row last.core.origin.table disk ≡ has_row first.core.origin.table disk)
    → ((moment : ℕ) → IsLeftBefore moment first → IsLeftBefore moment last) → MovesOn first last
stays_moves_on first last stays rows before = record {
  good = λ from was.
      let plain = stays.good from (λ on past begins. (was on past begins).0) in (
        λ on past begins.
            let tied = was (was_on first.core last.core stays.keeps.power on) past begins in
            (plain.0 on past begins, (stays.descriptors (tied_leaves_descriptors past first tied.0)).spares tied.1),
        plain.1,
      );
  descriptors = λ leaves heard. (stays.descriptors leaves).leaves;
  before = before;
  epoch = λ on. stays.epoch (lit_now last.core on);
  later = stays.later;
  causes = stays.causes;
  keeps = record {
    sizes = stays.keeps.sizes;
    counts = stays.keeps.counts;
    cut = stays.keeps.cut;
    log = stays.keeps.log;
    alike = ap (λ (d : Descriptor). record d { lvs = [] }) stays.keeps.descriptor;
    volumes = λ none. sym (ap (λ (d : Descriptor). d.lvs) stays.keeps.descriptor) ∙ none;
    origin = stays.keeps.origin;
    rows = rows;
    power = inl stays.keeps.power;
  };
}

-- what happens to a session that isn't on: nothing to the shelf, unless an order is given
abbrev Idles : State → State → Type 0
Idles old new = (new.device ≡ old.device) ⊎ ((old.core.power ≡ power.Stuck → ⊥) × (what : Arrange) × (done : Bool) × ArrangesSession old new what done)

idle_step : (old new : State) → (old.core.power ≡ power.On → ⊥) → AnyStep old new → Idles old new
idle_step old new off (Runs (MakesTurn answer valid sectors (WasDark dark is same))) = inl (ap (λ (s : State). s.device) same)
idle_step old new off (Runs (MakesTurn answer valid sectors (WasOff was is same))) = inl (ap (λ (s : State). s.device) same)
idle_step old new off (Runs (MakesTurn answer valid sectors (WasOn on made))) = absurd (off on)
idle_step old new off (Runs (Submits client ask bytes answer unstuck asks gives same)) = inl same
idle_step old new off (Runs (Takes client id answer gives same)) = inl same
idle_step old new off (Runs (ClosesCopy closes same)) = inl same
idle_step old new off (Runs (TakesEarlier id it same)) = inl same
idle_step old new off (OpensCopy lv lp number answer unstuck gives same) = inl same
idle_step old new off (Orders what done unstuck it) = inr (unstuck, what, done, it)

module _ (old new : State) (was_sound : IsSound old) (step : AnyStep old new) where
  step_stays : StaysGood old new
  step_stays = (going_leaves old new was_sound (Then (Here tt) step tt)).1

  step_was_on : new.core.power ≡ power.On → old.core.power ≡ power.On
  step_was_on = was_on old.core new.core step_stays.keeps.power

  -- what stands goes on to be from before the moment
  module _ (moment : ℕ) (was : IsLeftBefore moment old) where
    idle_stands : (is_over old.core.power ≡ true) ⊎ (old.core.power ≡ power.Stuck) → Idles old new → StampsAreEarlier moment new.device
    idle_stands over (inl same) = subst (StampsAreEarlier moment) (sym same) was.stands
    idle_stands (inr stuck) (inr order) = absurd (order.0 stuck)
    idle_stands (inl over) (inr order) = left_is_before (beginning_at moment) new.device
        (arrange_leaves_before (beginning_at moment) old new order.1 order.2 order.3 (still_keeps_before (beginning_at moment) old.device (was_sound.over over).flights was.stands))

    step_stands : (p : Power) → old.core.power ≡ p → StampsAreEarlier moment new.device
    step_stands power.On on = left_is_before (beginning_at moment) new.device (step_stays.before moment (was.on on)).leaves
    step_stands power.Off is = idle_stands (inl (ap is_over is)) (idle_step old new (λ on. let e : power.Off ≡ power.On = sym is ∙ on in cc) step)
    step_stands power.Dark is = idle_stands (inl (ap is_over is)) (idle_step old new (λ on. let e : power.Dark ≡ power.On = sym is ∙ on in cc) step)
    step_stands power.Stuck is = idle_stands (inr is) (idle_step old new (λ on. let e : power.Stuck ≡ power.On = sym is ∙ on in cc) step)

    step_left : IsLeftBefore moment new
    step_left = record { stands = step_stands old.core.power refl; on = λ on. step_stays.before moment (was.on (step_was_on on)) }

path_left : {first last : State} → IsSound first → LeavesSession first last → (moment : ℕ) → IsLeftBefore moment first → IsLeftBefore moment last
path_left sound (Here any) moment was = was
path_left {last = last} sound (Then {m = mid} path step any) moment was = step_left mid last (path_keeps sound path) step moment (path_left sound path moment was)

pub leaves_move_on : LeavesMoveOn
leaves_move_on first last sound leaves = stays_moves_on first last (going_leaves first last sound leaves).1 (λ disk. ap (λ (o : Origin). has_row o.table disk) (path_shape leaves).origin) (path_left sound leaves)

-- ---- nothing, and one thing after another

moves_none : (s : State) → MovesOn s s
moves_none s = record {
  good = λ from was. (was, λ span. span);
  descriptors = λ leaves heard. leaves;
  before = λ moment was. was;
  epoch = λ on. record { epoch = refl; stamped = λ is. is };
  later = λ moment was. was;
  causes = λ first has. has;
  keeps = record { sizes = refl; counts = none_falls_at_once s.device.counts; cut = keeps_power s.device s.device refl; log = refl; alike = refl; volumes = λ none. none; origin = origin_same refl; rows = λ disk. refl; power = inl (inl refl) };
}

-- it goes on, is over, or isn't heard of
abbrev Goes : Core → Core → Type 0
Goes old new = GoesOnOrEnds old new ⊎ ((old.power ≡ power.On) × (new.power ≡ power.Stuck))

ends_on : (old mid new : Core) → GoesOnOrEnds old mid → GoesOnOrEnds mid new → GoesOnOrEnds old new
ends_on old mid new one (inr (inl dark)) = inr (inl dark)
ends_on old mid new (inl one) (inl two) = inl (two ∙ one)
ends_on old mid new (inl one) (inr (inr two)) = inr (inr (sym one ∙ two.0, two.1))
ends_on old mid new (inr (inl one)) (inl two) = inr (inl (two ∙ one))
ends_on old mid new (inr (inl one)) (inr (inr two)) = absurd (let e : power.Dark ≡ power.On = sym one ∙ two.0 in cc)
ends_on old mid new (inr (inr one)) (inl two) = inr (inr (one.0, two ∙ one.1))
ends_on old mid new (inr (inr one)) (inr (inr two)) = absurd (let e : power.Off ≡ power.On = sym one.1 ∙ two.0 in cc)

-- what wasn't heard of goes on so, or is over
stuck_goes : (old mid new : Core) → old.power ≡ power.On → mid.power ≡ power.Stuck → GoesOnOrEnds mid new → Goes old new
stuck_goes old mid new on stuck (inl same) = inr (on, same ∙ stuck)
stuck_goes old mid new on stuck (inr (inl dark)) = inl (inr (inl dark))
stuck_goes old mid new on stuck (inr (inr off)) = absurd (let e : power.Stuck ≡ power.On = sym stuck ∙ off.0 in cc e)

goes_on_both : (old mid new : Core) → Goes old mid → Goes mid new → Goes old new
goes_on_both old mid new (inl one) (inr stuck) = inr (was_on old mid one stuck.0, stuck.1)
goes_on_both old mid new (inr one) (inr stuck) = absurd (let e : power.Stuck ≡ power.On = sym one.1 ∙ stuck.0 in cc e)
goes_on_both old mid new (inl one) (inl two) = inl (ends_on old mid new one two)
goes_on_both old mid new (inr one) (inl two) = stuck_goes old mid new one.0 one.1 two

-- what is on was on
was_going : (old new : Core) → Goes old new → new.power ≡ power.On → old.power ≡ power.On
was_going old new (inl goes) on = was_on old new goes on
was_going old new (inr stuck) on = stuck.0

origin_both : {old mid new : Origin} → KeepsOrigin old mid → KeepsOrigin mid new → KeepsOrigin old new
origin_both one two = record { faults = two.faults ∙ one.faults; missing = λ disk. two.missing disk ∙ one.missing disk; stale = λ p was. two.stale p (one.stale p was) }

moves_both : (old mid new : State) → IsSound new → MovesOn old mid → MovesOn mid new → MovesOn old new
moves_both old mid new sound one two = record {
  good = λ from was.
      let a = one.good from was in
      let b = (subst (λ (run : ℕ). SparingGoesOn run mid new) (ap (λ (log : Log). log.run) one.keeps.log) two.good) from a.0 in
      (b.0, λ span. b.1 (a.1 span));
  descriptors = λ leaves heard. by_power leaves heard new.core.power refl;
  before = λ moment was. two.before moment (one.before moment was);
  epoch = λ on.
      let a = one.epoch (was_going mid.core new.core two.keeps.power on) in
      let b = two.epoch on in
      record { epoch = b.epoch ∙ a.epoch; stamped = λ is. b.stamped (a.stamped is) };
  later = λ moment was. two.later moment (one.later moment was);
  causes = λ first has. two.causes first (one.causes first has);
  keeps = record {
    sizes = two.keeps.sizes ∙ one.keeps.sizes;
    counts = none_falls_on one.keeps.counts two.keeps.counts;
    cut = cut_both old.device mid.device new.device one.keeps.counts two.keeps.counts one.keeps.cut two.keeps.cut;
    log = two.keeps.log ∙ one.keeps.log;
    alike = two.keeps.alike ∙ one.keeps.alike;
    volumes = λ none. one.keeps.volumes (two.keeps.volumes none);
    origin = origin_both one.keeps.origin two.keeps.origin;
    rows = λ disk. two.keeps.rows disk ∙ one.keeps.rows disk;
    power = goes_on_both old.core mid.core new.core one.keeps.power two.keeps.power;
  };
}
  where
    by_power : LeavesDescriptors old.device → (new.core.power ≡ power.Stuck → ⊥) → (p : Power) → new.core.power ≡ p → LeavesDescriptors new.device
    by_power leaves heard power.On on = two.descriptors (one.descriptors leaves (heard_of mid.core (was_going mid.core new.core two.keeps.power on))) heard
    by_power leaves heard power.Off is = over_leaves_descriptors new sound (ap is_over is)
    by_power leaves heard power.Dark is = over_leaves_descriptors new sound (ap is_over is)
    by_power leaves heard power.Stuck is = absurd (heard is)

-- the stamp of a session that is on goes on to be of its epoch
pub moved_stamped : (old new : State) → MovesOn old new → new.core.power ≡ power.On → IsStamped old.core.status → IsStamped new.core.status
moved_stamped old new moves on it =
    let then = (moves.epoch on).stamped (is_stamped old.core.status it) in
    record { some_epoch = then.some_epoch; epoch = then.epoch; begun = then.begun }

-- ---- a copy begins to move

module _ (old new : State) (was_sound : IsSound old) (sound : IsSound new) (same : new.device ≡ old.device) where
  sound_there : IsSound (state old.device new.core)
  sound_there = subst (λ (d : Device). IsSound (state d new.core)) same sound

  begin_moves_on : (counts : Counts) (lv lp number : ℕ) (to : Pp) (answer : Result (Unit {0}) OpenFault) → OpenMoveGives counts old.core new.core lv lp number to answer → MovesOn old new
  begin_moves_on counts lv lp number to answer gives = subst (λ (d : Device). MovesOn old (state d new.core)) (sym same)
      (stays_moves_on old (state old.device new.core) stays rows (λ moment was. record { stands = was.stands; on = λ on. stays.before moment (was.on (was_on old.core new.core stays.keeps.power on)) }))
    where
      stays : StaysGood old (state old.device new.core)
      stays = calls_run_on.open_move old new.core counts lv lp number to answer sound_there gives

      by : (m : Option OpenFault) → MatchOption m (((answer ≡ Ok tt) × OpensMove counts old.core new.core lv lp number to) ⊎ ((answer ≡ Err denial.Memory) × (new.core ≡ old.core))) (λ (why : OpenFault). (answer ≡ Err why) × (new.core ≡ old.core))
          → (disk : ℕ) → has_row new.core.origin.table disk ≡ has_row old.core.origin.table disk
      by None (inl opens) disk = ap (λ (c : Core). has_row c.origin.table disk) opens.1.is ∙ has_row-same old.core.origin.table new.core.origin.table opens.1.called.table.members disk
      by None (inr lacks) disk = ap (λ (c : Core). has_row c.origin.table disk) lacks.1
      by (Some why) it disk = ap (λ (c : Core). has_row c.origin.table disk) it.1

      rows : (disk : ℕ) → has_row new.core.origin.table disk ≡ has_row old.core.origin.table disk
      rows = by (move_fault old.core lv lp number to) gives

-- ---- one step after another

step_moves_on : (old new : State) → IsSound old → IsSound new → MovingStep old new → MovesOn old new
step_moves_on old new was_sound sound (Leaves it) = leaves_move_on old new was_sound (Then (Here tt) it tt)
step_moves_on old new was_sound sound (CommitsItsMove before after answer c drained epoch it) = commit_moves_on old new before after answer c drained epoch it was_sound sound
step_moves_on old new was_sound sound (BeginsMove lv lp number to answer unstuck apart gives same) = begin_moves_on old new was_sound sound same _ lv lp number to answer gives

pub going_moves_on : GoingMovesOn
going_moves_on first last sound (Here any) = (sound, moves_none first)
going_moves_on first last sound (Then {m = mid} path step any) =
    let so_far = going_moves_on first mid sound path in
    let now = moving_keeps mid last so_far.0 step in
    (now, moves_both first mid last now so_far.1 (step_moves_on mid last so_far.0 now step))

-- ---- what is found

-- where a session isn't heard of its shelf stays
stuck_finds : (old new : State) (step : AnyStep old new) → old.core.power ≡ power.Stuck → (id : ℕ) (k : Descriptor) → FoundOn new.device id k → FoundOn old.device id k
stuck_finds old new step stuck id k found = ⊎_elim
    (λ (same : new.device ≡ old.device). subst (λ (d : Device). FoundOn d id k) same found)
    (λ order. absurd (order.0 stuck))
    (idle_step old new (λ on. let e : power.Stuck ≡ power.On = sym stuck ∙ on in cc) step)

leave_finds : (old new : State) → IsSound old → AnyStep old new → ((old.core.power ≡ power.Stuck → ⊥) → LeavesDescriptors old.device) → (p : Power) → old.core.power ≡ p
    → (id : ℕ) (k : Descriptor) → FoundOn new.device id k → FoundOn old.device id k
leave_finds old new sound step leaves power.Stuck is id k found = stuck_finds old new step is id k found
leave_finds old new sound step leaves power.On is id k found = ((step_stays old new sound step).descriptors (leaves (λ stuck. let e : power.On ≡ power.Stuck = sym is ∙ stuck in cc))).finds id k found.0 found.1 found.2
leave_finds old new sound step leaves power.Off is id k found = ((step_stays old new sound step).descriptors (leaves (λ stuck. let e : power.Off ≡ power.Stuck = sym is ∙ stuck in cc))).finds id k found.0 found.1 found.2
leave_finds old new sound step leaves power.Dark is id k found = ((step_stays old new sound step).descriptors (leaves (λ stuck. let e : power.Dark ≡ power.Stuck = sym is ∙ stuck in cc))).finds id k found.0 found.1 found.2

step_finds : (past : List Fact) (old new : State) (step : MovingStep old new) → IsSound old → ((old.core.power ≡ power.Stuck → ⊥) → LeavesDescriptors old.device)
    → (old.core.power ≡ power.On → IsTied past old × SparesDescriptors old) → (id : ℕ) (k : Descriptor) → FoundOn new.device id k → FoundOn old.device id k ⊎ ((id ≡ old.core.descriptor.id) × IsNextOf step k)
step_finds past old new (Leaves it) sound leaves good id k found = inl (leave_finds old new sound it leaves old.core.power refl id k found)
step_finds past old new (CommitsItsMove before after answer c drained epoch it) sound leaves good id k found =
    let tied = good drained.on in commit_finds_next past old new before after answer c drained epoch it tied.0 tied.1 id k found
step_finds past old new (BeginsMove lv lp number to answer unstuck apart gives same) sound leaves good id k found = inl (subst (λ (d : Device). FoundOn d id k) same found)

pub moves_find_theirs : MovesFindTheirs
moves_find_theirs moment past first last (Here any) sound leaves good begins spares id k found = inl found
moves_find_theirs moment past first last (Then {m = mid} path step any) sound leaves good begins spares id k found =
    let so_far = going_moves_on first mid sound path in
    ⊎_elim
    (λ before. ⊎_elim
    (λ first_found. inl first_found)
    (λ on_way. inr (on_way.0, inl on_way.1))
    (moves_find_theirs moment past first mid path sound leaves good begins spares id k before))
    (λ next. inr (next.0 ∙ ap (λ (d : Descriptor). d.id) so_far.1.keeps.alike, inr next.1))
    (step_finds past mid last step so_far.0 (so_far.1.descriptors leaves) (λ on. (so_far.1.good moment (λ was_going_on earlier began. (good was_going_on earlier began, spares))).0 on past begins) id k found)

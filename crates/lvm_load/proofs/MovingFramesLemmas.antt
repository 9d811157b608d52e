-- What stays of a session over a way on which copies move.
use Rattle.std.proofs.Common.{◌≡◌, ◌⊎◌, inl, inr, ℕ, Bool, true, false, List, [], Option, Some, None, refl, sym, ◌∙◌, ap, subst}
use Rattle.std.specs.Prelude.{Err, MatchOption, Ok, Result}
use Rattle.lvm_num.specs.declared.descriptor.Descriptor.{Descriptor}
use Rattle.lvm_num.specs.declared.place.Pp.{Pp}
use Rattle.lvm_disk.specs.declared.shelf.Arrange.{Arrange}
use Rattle.lvm_disk.specs.declared.shelf.Arrange.TheVariants as arrange
use Rattle.lvm_disk.specs.Counts.{Counts, NoneFalls}
use Rattle.lvm_disk.specs.Device.{Device}
use Rattle.lvm_disk.specs.Paths.{Arranged, Broke, DeviceStep, Ended, Freed, Here, Lit, Path, Started, Then, Waited, WasCut}
use Rattle.lvm_disk.specs.Steps.{Arranges}
use Rattle.lvm_disk.proofs.CountingLemmas.{none_falls_at_once, none_falls_on}
use Rattle.lvm_disk.proofs.StepsLemmas.{step_counts}
use Rattle.lvm_vol.specs.Log.{Log}
use Rattle.lvm_commit.specs.declared.commit.CommitEnd.{CommitEnd}
use Rattle.lvm_commit.specs.declared.commit.CommitEnd.TheVariants as commit_end
use Rattle.lvm_core.specs.declared.fault.CommitFault.{CommitFault}
use Rattle.lvm_core.specs.declared.fault.CommitFault.TheVariants as fault
use Rattle.lvm_core.proofs.CommittingLemmas.Spanning.{path_falls}
use Rattle.lvm_move.specs.Moving.{CommitsMove, Misses, MoveEnds, Writes, WritesMove}
use Rattle.lvm_session.specs.declared.answers.OpenFault.{OpenFault}
use Rattle.lvm_session.specs.declared.answers.OpenFault.TheVariants as denial
use Rattle.lvm_session.specs.declared.open.Power.TheVariants as power
use Rattle.lvm_session.specs.declared.open.Power.{Power}
use Rattle.lvm_session.specs.declared.origin.Origin.{Origin}
use Rattle.lvm_session.specs.Calls.{OpenMoveGives, OpensMove, closed, move_fault}
use Rattle.lvm_session.specs.State.{Core, State}
use Rattle.lvm_going.specs.Frames.{GoesOffByCut, GoesOnOrEnds, KeepsShape}
use Rattle.lvm_going.specs.Going.{BeginsMove, CommitsItsMove, CommitsOpenMove, Leaves, MovingStep, closed_after}
use Rattle.lvm_load.specs.MovingFrames.{KeepsMovingFrame, MovesFrame}
use Rattle.lvm_going.proofs.GoingLemmas.{step_shape}
use Rattle.lvm_going.proofs.ShapesLemmas.{Given, dark_given}
use Rattle.lvm_going.proofs.ShelvesLemmas.{cut_both, keeps_power}

-- ---- the power of a shelf

arranged_cuts : (old new : Device) (what : Arrange) → Arranges old new what → GoesOffByCut old new
arranged_cuts old new (arrange.Fail disk) is = keeps_power old new (ap (λ (d : Device). d.power) is)
arranged_cuts old new (arrange.Heal disk) is = keeps_power old new (ap (λ (d : Device). d.power) is)
arranged_cuts old new (arrange.Cut word) (off, inl was) = λ lit went. absurd (let e : true ≡ false = sym lit ∙ was.0 in cc e)
arranged_cuts old new (arrange.Cut word) (off, inr cuts) = λ lit went. cuts.cuts

device_cuts : (old new : Device) → DeviceStep old new → GoesOffByCut old new
device_cuts old new (Started f starts) = keeps_power old new (ap (λ (d : Device). d.power) starts.new_is)
device_cuts old new (WasCut cuts) = λ lit off. cuts.cuts
device_cuts old new (Ended ticket buf ends) = keeps_power old new (ap (λ (d : Device). d.power) ends.new_is)
device_cuts old new (Broke ticket buf ends) = keeps_power old new (ap (λ (d : Device). d.power) ends.new_is)
device_cuts old new (Waited waits) = keeps_power old new (ap (λ (d : Device). d.power) waits.new_is)
device_cuts old new (Freed buf some) = keeps_power old new (sym (ap (λ (d : Device). d.power) some))
device_cuts old new (Lit none freed lights) = λ lit off. absurd (let e : true ≡ false = sym (ap (λ (d : Device). d.power) lights) ∙ off in cc e)
device_cuts old new (Arranged what arranges) = arranged_cuts old new what arranges

path_cuts : {P : Device → Type 0} (old new : Device) → Path DeviceStep P old new → GoesOffByCut old new
path_cuts old new (Here here) = keeps_power old old refl
path_cuts old new (Then {m = mid} path step there) = cut_both old mid new (path_falls old mid path) (step_counts mid new step) (path_cuts old mid path) (device_cuts mid new step)

-- ---- a copy begins to move

of_shape : (old new : State) → KeepsShape old new → KeepsMovingFrame old new
of_shape old new keeps = record {
  sizes = keeps.sizes;
  counts = keeps.counts;
  cut = keeps.cut;
  log = keeps.log;
  faults = ap (λ (o : Origin). o.faults) keeps.origin;
  power = inl keeps.power;
}

-- what a call leaves of it
pub record CallLeaves (old new : Core) : Type 0 where
  pub history : new.history ≡ old.history
  pub faults : new.origin.faults ≡ old.origin.faults
  pub power : new.power ≡ old.power

pub begin_leaves : (counts : Counts) (old new : State) (lv lp number : ℕ) (to : Pp) (answer : Result (Unit {0}) OpenFault) → OpenMoveGives counts old.core new.core lv lp number to answer → CallLeaves old.core new.core
begin_leaves counts old new lv lp number to answer = by (move_fault old.core lv lp number to)
  where
    same : new.core ≡ old.core → CallLeaves old.core new.core
    same is = record { history = ap (λ (c : Core). c.history) is; faults = ap (λ (c : Core). c.origin.faults) is; power = ap (λ (c : Core). c.power) is }

    by : (m : Option OpenFault) → MatchOption m (((answer ≡ Ok tt) × OpensMove counts old.core new.core lv lp number to) ⊎ ((answer ≡ Err denial.Memory) × (new.core ≡ old.core))) (λ (why : OpenFault). (answer ≡ Err why) × (new.core ≡ old.core)) → CallLeaves old.core new.core
    by None (inl opens) = record {
      history = ap (λ (c : Core). c.history) opens.1.is;
      faults = ap (λ (c : Core). c.origin.faults) opens.1.is ∙ opens.1.called.faults;
      power = ap (λ (c : Core). c.power) opens.1.is;
    }
    by None (inr lacks) = same lacks.1
    by (Some why) it = same it.1

begin_frame : (old new : State) → new.device ≡ old.device → CallLeaves old.core new.core → KeepsMovingFrame old new
begin_frame old new same it = record {
  sizes = ap (λ (d : Device). d.sizes) same;
  counts = subst (λ (d : Device). NoneFalls old.device.counts d.counts) (sym same) (none_falls_at_once old.device.counts);
  cut = keeps_power old.device new.device (ap (λ (d : Device). d.power) same);
  log = ap (λ (l : Log). record l { facts = [] }) it.history;
  faults = it.faults;
  power = inl (inl it.power);
}

-- ---- a move is committed

-- the session goes on with the history that it has, or is over, and then the answer isn't that nothing was heard
abbrev WentOn : Result (Unit {0}) CommitFault → Core → Core → Type 0
WentOn answer old new = ((new.power ≡ old.power) × (new.history.facts ≡ old.history.facts)) ⊎ ((((new.power ≡ power.Dark) ⊎ (new.power ≡ power.Off))) × (answer ≡ Err fault.Stuck → ⊥))

record RecordsLeave (answer : Result (Unit {0}) CommitFault) (old new : State) : Type 0 where
  sizes : new.device.sizes ≡ old.device.sizes
  counts : NoneFalls old.device.counts new.device.counts
  cut : GoesOffByCut old.device new.device
  log : record new.core.history { facts = [] } ≡ record old.core.history { facts = [] }
  faults : new.core.origin.faults ≡ old.core.origin.faults
  power : WentOn answer old.core new.core

-- what the end of a commit leaves of the session
record EndLeaves (answer : Result (Unit {0}) CommitFault) (old new : Core) : Type 0 where
  log : record new.history { facts = [] } ≡ record old.history { facts = [] }
  faults : new.origin.faults ≡ old.origin.faults
  power : WentOn answer old new

module _ (next : Descriptor) (content : List ℕ) (before after : ℕ) (old new : State) (answer : Result (Unit {0}) CommitFault) (w : WritesMove next content before after old new answer) where
  end_leaves : (how : CommitEnd) → MoveEnds next w.last w.homes old.core new.core how answer → EndLeaves answer old.core new.core
  end_leaves (commit_end.Done back) goes = record {
    log = ap (λ (c : Core). record c.history { facts = [] }) goes.1.is;
    faults = ap (λ (c : Core). c.origin.faults) goes.1.is;
    power = inl (ap (λ (c : Core). c.power) goes.1.is, ap (λ (c : Core). c.history.facts) goes.1.is);
  }
  end_leaves (commit_end.WentOff have total back) goes = record {
    log = ap (λ (c : Core). record c.history { facts = [] }) goes.1;
    faults = ap (λ (c : Core). c.origin.faults) goes.1;
    power = inr (inr (ap (λ (c : Core). c.power) goes.1), λ stuck. let no : Err (fault.WentOff have total) ≡ Err fault.Stuck = sym goes.0 ∙ stuck in cc no);
  }
  end_leaves commit_end.Dark goes = record {
    log = ap (λ (c : Core). record c.history { facts = [] }) goes.1 ∙ ap (λ (g : Given). g.2) (dark_given (record old.core { status = w.last; homes = w.homes }));
    faults = ap (λ (c : Core). c.origin.faults) goes.1;
    power = inr (inl (ap (λ (c : Core). c.power) goes.1), λ stuck. let no : Err fault.Dark ≡ Err fault.Stuck = sym goes.0 ∙ stuck in cc no);
  }
  end_leaves commit_end.Stuck goes = record {
    log = ap (λ (c : Core). record c.history { facts = [] }) goes.1;
    faults = ap (λ (c : Core). c.origin.faults) goes.1;
    power = inl (ap (λ (c : Core). c.power) goes.1, ap (λ (c : Core). c.history.facts) goes.1);
  }

records_leave : (next : Descriptor) (content : List ℕ) (before after : ℕ) (old new : State) (answer : Result (Unit {0}) CommitFault) → CommitsMove next content before after old new answer → RecordsLeave answer old new
records_leave next content before after old new answer (Misses disk missing is same patience) = record {
  sizes = ap (λ (s : State). s.device.sizes) same;
  counts = subst (λ (s : State). NoneFalls old.device.counts s.device.counts) (sym same) (none_falls_at_once old.device.counts);
  cut = keeps_power old.device new.device (ap (λ (s : State). s.device.power) same);
  log = ap (λ (s : State). record s.core.history { facts = [] }) same;
  faults = ap (λ (s : State). s.core.origin.faults) same;
  power = inl (ap (λ (s : State). s.core.power) same, ap (λ (s : State). s.core.history.facts) same);
}
records_leave next content before after old new answer (Writes there w) =
    let its = end_leaves next content before after old new answer w w.how w.goes in
    record {
      sizes = w.leaves.keeps.sizes;
      counts = path_falls old.device new.device w.kept;
      cut = path_cuts old.device new.device w.kept;
      log = its.log;
      faults = its.faults;
      power = its.power;
    }

-- what is closed keeps its history; where nothing was heard it is stuck
record Closed (answer : Result (Unit {0}) CommitFault) (old new : Core) : Type 0 where
  history : new.history ≡ old.history
  origin : new.origin ≡ old.origin
  power : (new.power ≡ old.power) ⊎ ((answer ≡ Err fault.Stuck) × (new.power ≡ power.Stuck))

closed_leaves : (answer : Result (Unit {0}) CommitFault) (core : Core) → Closed answer core (closed_after answer core)
closed_leaves (Ok done) core = record { history = refl; origin = refl; power = inl refl }
closed_leaves (Err fault.Stuck) core = record { history = refl; origin = refl; power = inr (refl, refl) }
closed_leaves (Err fault.Dark) core = record { history = refl; origin = refl; power = inl refl }
closed_leaves (Err (fault.WentOff have total)) core = record { history = refl; origin = refl; power = inl refl }
closed_leaves (Err (fault.DiskFailed disk)) core = record { history = refl; origin = refl; power = inl refl }

-- A commit leaves the frame; and the history too, unless the session is over.
pub record CommitFrame (old new : State) : Type 0 where
  pub keeps : KeepsMovingFrame old new
  pub facts : (new.core.power ≡ power.Dark → ⊥) → (new.core.power ≡ power.Off → ⊥) → new.core.history.facts ≡ old.core.history.facts

module _ (before after : ℕ) (old new : State) (answer : Result (Unit {0}) CommitFault) (on : old.core.power ≡ power.On) (it : CommitsOpenMove before after old new answer) where
  leaves : RecordsLeave answer old it.written
  leaves = records_leave it.next _ before after old it.written answer it.commits

  after_close : Closed answer it.written.core (closed_after answer it.written.core)
  after_close = closed_leaves answer it.written.core

  core_is : new.core ≡ closed_after answer it.written.core
  core_is = ap (λ (s : State). s.core) it.is

  device_is : new.device ≡ it.written.device
  device_is = ap (λ (s : State). s.device) it.is

  facts_are : new.core.history.facts ≡ it.written.core.history.facts
  facts_are = ap (λ (c : Core). c.history.facts) core_is ∙ ap (λ (l : Log). l.facts) after_close.history

  abbrev Goes : Type 0
  Goes = GoesOnOrEnds old.core new.core ⊎ ((old.core.power ≡ power.On) × (new.core.power ≡ power.Stuck))

  abbrev SameFacts : Type 0
  SameFacts = (new.core.power ≡ power.Dark → ⊥) → (new.core.power ≡ power.Off → ⊥) → new.core.history.facts ≡ old.core.history.facts

  power_is : closed_after answer it.written.core ≡ new.core
  power_is = sym core_is

  by_power : WentOn answer old.core it.written.core → ((closed_after answer it.written.core).power ≡ it.written.core.power) ⊎ ((answer ≡ Err fault.Stuck) × ((closed_after answer it.written.core).power ≡ power.Stuck)) → Goes × SameFacts
  by_power (inl same) (inl kept) = (inl (inl (ap (λ (c : Core). c.power) core_is ∙ kept ∙ same.0)), λ lit going. facts_are ∙ same.1)
  by_power (inl same) (inr stuck) = (inr (on, ap (λ (c : Core). c.power) core_is ∙ stuck.1), λ lit going. facts_are ∙ same.1)
  by_power (inr (inl dark, heard)) (inl kept) = let is : new.core.power ≡ power.Dark = ap (λ (c : Core). c.power) core_is ∙ kept ∙ dark in (inl (inr (inl is)), λ lit going. absurd (lit is))
  by_power (inr (inr off, heard)) (inl kept) = let is : new.core.power ≡ power.Off = ap (λ (c : Core). c.power) core_is ∙ kept ∙ off in (inl (inr (inr (on, is))), λ lit going. absurd (going is))
  by_power (inr (over, heard)) (inr stuck) = absurd (heard stuck.0)

  goes : Goes × SameFacts
  goes = by_power leaves.power after_close.power

  pub commit_frame : CommitFrame old new
  commit_frame = record {
    keeps = record {
      sizes = ap (λ (d : Device). d.sizes) device_is ∙ leaves.sizes;
      counts = subst (λ (d : Device). NoneFalls old.device.counts d.counts) (sym device_is) leaves.counts;
      cut = subst (λ (d : Device). GoesOffByCut old.device d) (sym device_is) leaves.cut;
      log = ap (λ (c : Core). record c.history { facts = [] }) core_is ∙ ap (λ (l : Log). record l { facts = [] }) after_close.history ∙ leaves.log;
      faults = ap (λ (c : Core). c.origin.faults) core_is ∙ ap (λ (o : Origin). o.faults) after_close.origin ∙ leaves.faults;
      power = goes.0;
    };
    facts = goes.1;
  }

-- ---- each step, and all of them

pub moving_frame : (old new : State) → MovingStep old new → KeepsMovingFrame old new
moving_frame old new (Leaves it) = of_shape old new (step_shape old new it)
moving_frame old new (CommitsItsMove before after answer c drained epoch it) = (commit_frame before after old new answer drained.on it).keeps
moving_frame old new (BeginsMove lv lp number to answer unstuck apart gives same) = begin_frame old new same (begin_leaves _ old new lv lp number to answer gives)

ends_on : (old mid new : Core) → GoesOnOrEnds old mid → GoesOnOrEnds mid new → GoesOnOrEnds old new
ends_on old mid new one (inr (inl dark)) = inr (inl dark)
ends_on old mid new (inl one) (inl two) = inl (two ∙ one)
ends_on old mid new (inl one) (inr (inr two)) = inr (inr (sym one ∙ two.0, two.1))
ends_on old mid new (inr (inl one)) (inl two) = inr (inl (two ∙ one))
ends_on old mid new (inr (inl one)) (inr (inr two)) = absurd (let e : power.Dark ≡ power.On = sym one ∙ two.0 in cc)
ends_on old mid new (inr (inr one)) (inl two) = inr (inr (one.0, two ∙ one.1))
ends_on old mid new (inr (inr one)) (inr (inr two)) = absurd (let e : power.Off ≡ power.On = sym one.1 ∙ two.0 in cc)

stuck_on : (old mid new : Core) → GoesOnOrEnds old mid → mid.power ≡ power.On → old.power ≡ power.On
stuck_on old mid new (inl same) on = sym same ∙ on
stuck_on old mid new (inr (inl dark)) on = absurd (let no : power.Dark ≡ power.On = sym dark ∙ on in cc no)
stuck_on old mid new (inr (inr off)) on = off.0

goes_both : (old mid new : Core) → GoesOnOrEnds old mid ⊎ ((old.power ≡ power.On) × (mid.power ≡ power.Stuck)) → GoesOnOrEnds mid new ⊎ ((mid.power ≡ power.On) × (new.power ≡ power.Stuck))
    → GoesOnOrEnds old new ⊎ ((old.power ≡ power.On) × (new.power ≡ power.Stuck))
goes_both old mid new (inl one) (inl two) = inl (ends_on old mid new one two)
goes_both old mid new (inl one) (inr two) = inr (stuck_on old mid new one two.0, two.1)
goes_both old mid new (inr one) (inl (inl same)) = inr (one.0, same ∙ one.1)
goes_both old mid new (inr one) (inl (inr (inl dark))) = inl (inr (inl dark))
goes_both old mid new (inr one) (inl (inr (inr off))) = absurd (let no : power.Stuck ≡ power.On = sym one.1 ∙ off.0 in cc no)
goes_both old mid new (inr one) (inr two) = absurd (let no : power.Stuck ≡ power.On = sym one.1 ∙ two.0 in cc no)

frame_on : (old mid new : State) → KeepsMovingFrame old mid → KeepsMovingFrame mid new → KeepsMovingFrame old new
frame_on old mid new one two = record {
  sizes = two.sizes ∙ one.sizes;
  counts = none_falls_on one.counts two.counts;
  cut = cut_both old.device mid.device new.device one.counts two.counts one.cut two.cut;
  log = two.log ∙ one.log;
  faults = two.faults ∙ one.faults;
  power = goes_both old.core mid.core new.core one.power two.power;
}

pub moves_frame : MovesFrame
moves_frame first last (Here here) = record {
  sizes = refl;
  counts = none_falls_at_once first.device.counts;
  cut = keeps_power first.device first.device refl;
  log = refl;
  faults = refl;
  power = inl (inl refl);
}
moves_frame first last (Then {m = mid} path step there) = frame_on first mid last (moves_frame first mid path) (moving_frame mid last step)

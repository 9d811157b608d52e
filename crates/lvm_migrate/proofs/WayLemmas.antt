-- What is being committed on the way, and what is left open.
use Rattle.std.proofs.Common.{◌≡◌, ◌≢◌, ◌⊎◌, inl, inr, ⊎_elim, ◌++◌, ℕ, Bool, true, false, List, [], ◌∷◌, append-nil, append_assoc, Option, Some, None, refl, sym, ap, subst, ◌∙◌}
use Rattle.std.specs.Prelude.{Ok, Err, Result, IfErr}
use Rattle.std.specs.List.{AllByRecursion}
use Rattle.std.specs.Option.{option_map_or}
use Rattle.lvm_num.specs.Among.{IsOneOf}
use Rattle.lvm_num.specs.declared.descriptor.Descriptor.{Descriptor}
use Rattle.lvm_num.specs.DescriptorBytes.{descriptor_bytes}
use Rattle.lvm_num.specs.Status.{calls_missing}
use Rattle.lvm_disk.specs.Counts.{NoneFalls, Rose}
use Rattle.lvm_disk.specs.Device.{Device}
use Rattle.lvm_disk.specs.Paths.{Here, Path, Then}
use Rattle.lvm_disk.proofs.CountingLemmas.{none_falls_at_once, none_falls_on}
use Rattle.lvm_commit.specs.declared.commit.CommitEnd.{CommitEnd}
use Rattle.lvm_commit.specs.declared.commit.CommitEnd.TheVariants as commit_end
use Rattle.lvm_core.specs.declared.fault.CommitFault.{CommitFault}
use Rattle.lvm_core.specs.declared.fault.CommitFault.TheVariants as commit
use Rattle.lvm_move.specs.Moving.{CommitsMove, Misses, MoveEnds, Writes}
use Rattle.lvm_move_keeps.specs.Drained.{IsDrainedMoving}
use Rattle.lvm_move_keeps.proofs.DrainedLemmas.{done_is_judged}
use Rattle.lvm_session.specs.declared.answers.CopyState.{CopyState}
use Rattle.lvm_session.specs.declared.answers.CopyState.TheVariants as copy
use Rattle.lvm_session.specs.declared.bringing.OpenCopy.{OpenCopy}
use Rattle.lvm_session.specs.declared.open.Power.TheVariants as power
use Rattle.lvm_session.specs.Calls.{closed, copy_state}
use Rattle.lvm_session.specs.Judging.{is_missing, is_moving}
use Rattle.lvm_session.specs.Sound.{IsSound}
use Rattle.lvm_session.specs.State.{Core, State, state}
use Rattle.lvm_keeps_events.specs.Losing.{HasFailedOn, LosesByFaults}
use Rattle.lvm_keeps_events.specs.Opening.{IsApart}
use Rattle.lvm_keeps_events.specs.passed.Calls.{counts_seen}
use Rattle.lvm_keeps_events.proofs.LosingLemmas.Losing.{loses_both, loses_none, turn_loses}
use Rattle.lvm_keeps_events.proofs.CountsLemmas.{turn_counts}
use Rattle.lvm_keeps_events.proofs.TurningLemmas.{turn_keeps}
use Rattle.lvm_going.specs.Going.{BeginsMove, CommitsItsMove, CommitsOpenMove, Leaves, LeavesMoving, MovingStep, Runs, RunsOn, RunStep, closed_after}
use Rattle.lvm_going.specs.Moves.{next_of}
use Rattle.lvm_driver.specs.Drains.{DrainEnds, FailsSo, IsDrained, IsTurn}
use Rattle.lvm_move_plan.specs.declared.plan.PlannedMove.{PlannedMove}
use Rattle.lvm_move_plan.specs.Laws.{after_move, after_moves}
use Rattle.lvm_migrate.specs.declared.fault.MoveFault.{MoveFault}
use Rattle.lvm_migrate.specs.declared.fault.MoveFault.TheVariants as fault
use Rattle.lvm_migrate.specs.Faults.{commit_fault_is}
use Rattle.lvm_migrate.specs.Committed.{GoesCommitting, MovesAsPlanned, committed_on, next_on, stages}
use Rattle.lvm_migrate.specs.Migrating.{IsLeftShut}
use Rattle.lvm_migrate.specs.Moving.{HasFailed, Opens, ended_fault}
use Rattle.lvm_migrate.proofs.CommittedLemmas.{written_well}
use Rattle.lvm_migrate.proofs.MovingLemmas.{opened_so}

-- ---- lists

all_both : {X : Type 0} (P : X → Type 0) (xs ys : List X) → AllByRecursion P xs → AllByRecursion P ys → AllByRecursion P (xs ++ ys)
all_both P [] ys one two = two
all_both P (x ∷ xs) ys one two = (one.0, all_both P xs ys one.1 two)

all_some : {X : Type 0} (P Q : X → Type 0) → ((x : X) → P x → Q x) → (xs : List X) → AllByRecursion P xs → AllByRecursion Q xs
all_some P Q weaker [] all = tt
all_some P Q weaker (x ∷ xs) all = (weaker x all.0, all_some P Q weaker xs all.1)

-- ---- ways, with what is being committed on them

record Way (first last : State) (these : List Descriptor) : Type 0 where
  leaves : LeavesMoving first last
  are : committed_on leaves ≡ these

way_both : {first mid last : State} {these those : List Descriptor} → Way first mid these → (path : LeavesMoving mid last) → committed_on path ≡ those → Way first last (these ++ those)
way_both {these = these} one (Here here) are = record { leaves = one.leaves; are = one.are ∙ sym (append-nil these) ∙ ap (λ (l : List Descriptor). these ++ l) are }
way_both {these = these} one (Then path step there) are =
    let before = way_both one path refl in
    record { leaves = Then before.leaves step tt; are = ap (λ (l : List Descriptor). l ++ next_on step) before.are ∙ append_assoc these (committed_on path) (next_on step) ∙ ap (λ (l : List Descriptor). these ++ l) are }

way_runs : {first last : State} → RunsOn first last → Way first last []
way_runs (Here here) = record { leaves = Here tt; are = refl }
way_runs (Then path step there) = let before = way_runs path in record { leaves = Then before.leaves (Leaves (Runs step)) tt; are = ap (λ (l : List Descriptor). l ++ []) before.are }

way_step : {first last : State} (step : MovingStep first last) → Way first last (next_on step)
way_step step = record { leaves = Then (Here tt) step tt; are = refl }

-- ---- so with what is asked of them

pub going_none : (Is : Descriptor → Type 0) (s : State) → GoesCommitting Is s s
going_none Is s = record { leaves = Here tt; planned = tt; loses = loses_none s }

of_way : (Is : Descriptor → Type 0) {first last : State} {these : List Descriptor} → Way first last these → AllByRecursion Is these → LosesByFaults first last → GoesCommitting Is first last
of_way Is way all loses = record { leaves = way.leaves; planned = subst (AllByRecursion Is) (sym way.are) all; loses = loses }

pub going_both : (Is : Descriptor → Type 0) (old mid new : State) → NoneFalls old.device.counts mid.device.counts → NoneFalls mid.device.counts new.device.counts → GoesCommitting Is old mid → GoesCommitting Is mid new → GoesCommitting Is old new
going_both Is old mid new before after one two =
    of_way Is (way_both (record { leaves = one.leaves; are = refl }) two.leaves refl) (all_both Is (committed_on one.leaves) (committed_on two.leaves) one.planned two.planned) (loses_both old mid new before after one.loses two.loses)

pub going_some : (Is So : Descriptor → Type 0) → ((k : Descriptor) → Is k → So k) → (old new : State) → GoesCommitting Is old new → GoesCommitting So old new
going_some Is So weaker old new it = record { leaves = it.leaves; planned = all_some Is So weaker (committed_on it.leaves) it.planned; loses = it.loses }

-- ---- what happens

same_loses : (old new : State) → new.device ≡ old.device → ((disk : ℕ) → is_missing new.core disk ≡ is_missing old.core disk) → LosesByFaults old new
same_loses old new device same disk gone = inl (sym (same disk) ∙ gone)

-- a copy begins to move
pub going_opened : (Is : Descriptor → Type 0) (m : PlannedMove) (old mid : State) → (old.core.power ≡ power.Stuck → ⊥) → IsApart old.core.descriptor m.copy.lv m.copy.lp m.copy.number m.to → Opens old mid m (Ok tt) → GoesCommitting Is old mid
going_opened Is m old mid unstuck apart opens =
    of_way Is (way_step (BeginsMove m.copy.lv m.copy.lp m.copy.number m.to (Ok tt) unstuck apart opens.1 opens.2)) tt
    (same_loses old mid opens.2 (λ disk. ap (λ (c : Core). is_missing c disk) (opened_so old mid m opens).is))

-- turns are made
turns_lose : {P : State → Type 0} {first last : State} → IsSound first → Path IsTurn P first last → LosesByFaults first last × NoneFalls first.device.counts last.device.counts × IsSound last
turns_lose {first = first} sound (Here here) = (loses_none first, none_falls_at_once first.device.counts, sound)
turns_lose {first = first} {last = last} sound (Then {m = mid} path turn there) =
    let before = turns_lose sound path in
    let counts = turn_counts mid last turn.0 turn.1 in (
      loses_both first mid last before.1 counts before.0 (turn_loses mid last turn.0 before.2 turn.1),
      none_falls_on before.1 counts,
      turn_keeps mid last turn.0 before.2 turn.1,
    )

pub going_turns : {P : State → Type 0} (Is : Descriptor → Type 0) (old new : State) → IsSound old → Path IsTurn P old new → RunsOn old new → GoesCommitting Is old new
going_turns Is old new sound turns runs = of_way Is (way_runs runs) tt (turns_lose sound turns).0

-- the move is given up
pub going_closed : (Is : Descriptor → Type 0) (old new : State) → new ≡ state old.device (closed old.core) → RunsOn old new → GoesCommitting Is old new
going_closed Is old new is runs = of_way Is (way_runs runs) tt (same_loses old new (ap (λ (s : State). s.device) is) (λ disk. ap (λ (s : State). is_missing s.core disk) is))

-- it is committed
module _ (before after : ℕ) (old new : State) (answer : Result (Unit {0}) CommitFault) (it : CommitsOpenMove before after old new answer) where
  commit_loses : LosesByFaults old new
  commit_loses disk gone = of it.commits (sym (closes answer it.written.core) ∙ sym (ap (λ (s : State). is_missing s.core disk) it.is) ∙ gone)
    where
      closes : (how : Result (Unit {0}) CommitFault) (core : Core) → is_missing (closed_after how core) disk ≡ is_missing core disk
      closes (Ok done) core = refl
      closes (Err commit.Stuck) core = refl
      closes (Err commit.Dark) core = refl
      closes (Err (commit.WentOff have total)) core = refl
      closes (Err (commit.DiskFailed lost)) core = refl

      rose_now : Rose (old.device.counts.faults disk) (it.written.device.counts.faults disk) → HasFailedOn old new disk
      rose_now rose = subst (λ (s : State). Rose (old.device.counts.faults disk) (s.device.counts.faults disk)) (sym it.is) rose

      of : CommitsMove it.next (descriptor_bytes it.next) before after old it.written answer → is_missing it.written.core disk ≡ true → (is_missing old.core disk ≡ true) ⊎ HasFailedOn old new disk
      of (Misses lost missing is same patience) now = inl (sym (ap (λ (s : State). is_missing s.core disk) same) ∙ now)
      of (Writes there w) now = by w.how w.goes
        where
          so : calls_missing w.last.wanted disk ≡ true → (is_missing old.core disk ≡ true) ⊎ HasFailedOn old new disk
          so lost = at (is_missing old.core disk) refl
            where
              at : (b : Bool) → is_missing old.core disk ≡ b → (is_missing old.core disk ≡ true) ⊎ HasFailedOn old new disk
              at true was = inl was
              at false was = inr (rose_now (w.leaves.loses.lost disk lost was).1)

          by : (how : CommitEnd) → MoveEnds it.next w.last w.homes old.core it.written.core how answer → (is_missing old.core disk ≡ true) ⊎ HasFailedOn old new disk
          by (commit_end.Done back) goes = so (sym (goes.1.marks.missing disk) ∙ now)
          by (commit_end.WentOff have total back) goes = so (sym (ap (λ (c : Core). is_missing c disk) goes.1) ∙ now)
          by commit_end.Dark goes = so (sym (ap (λ (c : Core). is_missing c disk) goes.1) ∙ now)
          by commit_end.Stuck goes = so (sym (ap (λ (c : Core). is_missing c disk) goes.1) ∙ now)

  pub going_committed : (c : OpenCopy) → IsDrainedMoving old c → old.core.status.stamp.epoch ≢ 0 → GoesCommitting (λ (k : Descriptor). Some k ≡ next_of old.core) old new
  going_committed c drained epoch = of_way (λ (k : Descriptor). Some k ≡ next_of old.core) (way_step (CommitsItsMove before after answer c drained epoch it)) (sym it.ready, tt) commit_loses

-- the copy that moves, once it is done and turns find nothing to do
record IsMovingDone (s : State) : Type 0 where
  copy : OpenCopy
  drained : IsDrainedMoving s copy

moving_done : (s : State) → IsSound s → IsDrained s → is_moving s.core ≡ true → copy_state s.core ≡ copy.Done → IsMovingDone s
moving_done s sound drained moves done = by s.core.copy refl
  where
    by : (o : Option OpenCopy) → s.core.copy ≡ o → IsMovingDone s
    by None is = absurd (let e : false ≡ true = sym (ap (λ m. option_map_or (λ (c : OpenCopy). c.moves) m false) is) ∙ moves in cc e)
    by (Some c) is = record {
      copy = c;
      drained = record { on = drained.on; votes = drained.votes; none = drained.none; idle = drained.idle; is_open = is; done = done_is_judged s c sound drained.on is (sym (ap (λ m. option_map_or (λ (c : OpenCopy). c.moves) m false) is) ∙ moves) done };
    }

pub going_done : (before after : ℕ) (old new : State) (answer : Result (Unit {0}) CommitFault) → IsSound old → IsDrained old → is_moving old.core ≡ true → copy_state old.core ≡ copy.Done → old.core.status.stamp.epoch ≢ 0 → CommitsOpenMove before after old new answer
    → GoesCommitting (λ (k : Descriptor). Some k ≡ next_of old.core) old new
going_done before after old new answer sound drained moves done epoch it = let its = moving_done old sound drained moves done in going_committed before after old new answer it its.copy its.drained epoch

-- ---- stages

-- the next one of a plan is one of its stages
pub stage_of : (d : Descriptor) (front : List PlannedMove) (m : PlannedMove) (rest : List PlannedMove) → IsOneOf (stages d (front ++ m ∷ rest)) (after_move (after_moves d front) m)
stage_of d [] m rest = inl refl
stage_of d (x ∷ front) m rest = inr (stage_of (after_move d x) front m rest)

-- ---- what is left open

module _ (core : Core) where
  pub shut_err : (A : Type 0) (why : MoveFault) → (core.power ≡ power.On → core.copy ≡ None) → (core.power ≡ power.Stuck → ⊥) → IsLeftShut {A = A} core (Err why)
  shut_err A fault.Stuck shut unstuck = tt
  shut_err A fault.Dark shut unstuck = (shut, unstuck)
  shut_err A (fault.WentOff have total) shut unstuck = (shut, unstuck)
  shut_err A fault.Busy shut unstuck = (shut, unstuck)
  shut_err A (fault.Missing disk) shut unstuck = (shut, unstuck)
  shut_err A (fault.Strict lp) shut unstuck = (shut, unstuck)
  shut_err A (fault.NoRoom free) shut unstuck = (shut, unstuck)
  shut_err A fault.HistoryFull shut unstuck = (shut, unstuck)
  shut_err A (fault.SyncFailed disk) shut unstuck = (shut, unstuck)
  shut_err A (fault.NoFresh lp) shut unstuck = (shut, unstuck)
  shut_err A fault.Memory shut unstuck = (shut, unstuck)

  -- where another answer would have been given
  pub shut_same : (A B : Type 0) (why : MoveFault) → IsLeftShut {A = B} core (Err why) → IsLeftShut {A = A} core (Err why)
  shut_same A B fault.Stuck it = tt
  shut_same A B fault.Dark it = it
  shut_same A B (fault.WentOff have total) it = it
  shut_same A B fault.Busy it = it
  shut_same A B (fault.Missing disk) it = it
  shut_same A B (fault.Strict lp) it = it
  shut_same A B (fault.NoRoom free) it = it
  shut_same A B fault.HistoryFull it = it
  shut_same A B (fault.SyncFailed disk) it = it
  shut_same A B (fault.NoFresh lp) it = it
  shut_same A B fault.Memory it = it

  dark_shut : core.power ≡ power.Dark → (core.power ≡ power.On → core.copy ≡ None) × (core.power ≡ power.Stuck → ⊥)
  dark_shut dark = (λ on. absurd (let e : power.Dark ≡ power.On = sym dark ∙ on in cc e), λ stuck. let e : power.Dark ≡ power.Stuck = sym dark ∙ stuck in cc e)

  off_shut : core.power ≡ power.Off → (core.power ≡ power.On → core.copy ≡ None) × (core.power ≡ power.Stuck → ⊥)
  off_shut off = (λ on. absurd (let e : power.Off ≡ power.On = sym off ∙ on in cc e), λ stuck. let e : power.Off ≡ power.Stuck = sym off ∙ stuck in cc e)

  -- where turns break off
  pub shut_turns : (device : Device) (left : ℕ) (why : CommitFault) → DrainEnds left (state device core) (Err why) → IsLeftShut {A = Unit {0}} core (Err (commit_fault_is why))
  shut_turns device left commit.Dark ends = dark_shut ends
  shut_turns device left (commit.WentOff have total) ends = off_shut ends.power_is
  shut_turns device left commit.Stuck ends = tt
  shut_turns device left (commit.DiskFailed disk) ends = absurd ends

-- where it is committed
pub shut_well : (before after : ℕ) (old new : State) → IsDrained old → CommitsOpenMove before after old new (Ok tt) → IsLeftShut {A = Unit {0}} new.core (Ok tt)
shut_well before after old new drained it = (
  ap (λ (s : State). s.core.power) it.is ∙ ap (λ (c : Core). c.power) (written_well before after old new it).goes.is ∙ drained.on,
  ap (λ (s : State). s.core.copy) it.is,
)

pub shut_not : (before after : ℕ) (old new : State) (why : CommitFault) → CommitsOpenMove before after old new (Err why) → ((disk : ℕ) → why ≡ commit.DiskFailed disk → ⊥) → IsLeftShut {A = Unit {0}} new.core (Err (commit_fault_is why))
shut_not before after old new why it there = of it.commits
  where
    so : (u : CommitFault) → ◌≡◌ {A = Result (Unit {0}) CommitFault} (Err why) (Err u) → (new.core ≡ closed_after (Err u) it.written.core → IsLeftShut {A = Unit {0}} new.core (Err (commit_fault_is u))) → IsLeftShut {A = Unit {0}} new.core (Err (commit_fault_is why))
    so u e shut =
        let same : why ≡ u = cc e in
        subst (λ (x : CommitFault). IsLeftShut {A = Unit {0}} new.core (Err (commit_fault_is x))) (sym same) (shut (ap (λ (s : State). s.core) it.is ∙ ap (λ (x : CommitFault). closed_after (Err x) it.written.core) same))

    of : CommitsMove it.next (descriptor_bytes it.next) before after old it.written (Err why) → IsLeftShut {A = Unit {0}} new.core (Err (commit_fault_is why))
    of (Misses disk missing is same patience) = absurd (there disk (let e : why ≡ commit.DiskFailed disk = cc is in e))
    of (Writes none w) = by w.how w.goes
      where
        by : (end : CommitEnd) → MoveEnds it.next w.last w.homes old.core it.written.core end (Err why) → IsLeftShut {A = Unit {0}} new.core (Err (commit_fault_is why))
        by (commit_end.Done back) goes = absurd (let e : ◌≡◌ {A = Result (Unit {0}) CommitFault} (Err why) (Ok tt) = goes.0 in cc e)
        by (commit_end.WentOff have total back) goes = so (commit.WentOff have total) goes.0 (λ is. off_shut new.core (ap (λ (c : Core). c.power) is ∙ ap (λ (c : Core). c.power) goes.1))
        by commit_end.Dark goes = so commit.Dark goes.0 (λ is. dark_shut new.core (ap (λ (c : Core). c.power) is ∙ ap (λ (c : Core). c.power) goes.1))
        by commit_end.Stuck goes = so commit.Stuck goes.0 (λ is. tt)

-- where it is given up
pub shut_given_up : (lp : ℕ) (old new : State) (how : CopyState) → IsDrained old → HasFailed how → new ≡ state old.device (closed old.core) → IsLeftShut {A = Unit {0}} new.core (Err (ended_fault how lp))
shut_given_up lp old new how drained failed is =
    let on : new.core.power ≡ power.On = ap (λ (s : State). s.core.power) is ∙ drained.on in
    shut_err new.core (Unit {0}) (ended_fault how lp) (λ was_on. ap (λ (s : State). s.core.copy) is) (λ stuck. let e : power.On ≡ power.Stuck = sym on ∙ stuck in cc e)

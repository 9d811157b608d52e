-- One copy moves: it is opened, turns are made until nothing is to be made, and it is committed where it is done.
use Rattle.std.proofs.Common.{◌≡◌, ◌≢◌, ◌⊎◌, inl, inr, ◌≤◌, ◌-◌, ◌||◌, ℕ, Bool, true, false, Option, Some, None, if◌then◌else◌, refl, sym, ap, subst, ◌∙◌}
use Rattle.std.specs.Prelude.{IfErr, IfOk, Ok, Err, Result, length}
use Rattle.std.specs.Option.{option_map_or}
use Rattle.lvm_num.specs.Votes.{total_votes}
use Rattle.lvm_disk.specs.Device.{Device}
use Rattle.lvm_disk.specs.Paths.{Path}
use Rattle.lvm_core.specs.declared.fault.CommitFault.{CommitFault}
use Rattle.lvm_core.specs.declared.fault.CommitFault.TheVariants as commit
use Rattle.lvm_session.specs.declared.answers.CopyState.{CopyState}
use Rattle.lvm_session.specs.declared.answers.CopyState.TheVariants as copy
use Rattle.lvm_session.specs.declared.answers.OpenFault.{OpenFault}
use Rattle.lvm_num.specs.Descriptor.{copies_of}
use Rattle.lvm_session.specs.declared.answers.OpenFault.TheVariants as denial
use Rattle.lvm_session.specs.declared.bringing.CopyEnd.{CopyEnd}
use Rattle.lvm_session.specs.declared.bringing.CopyEnd.TheVariants as ending
use Rattle.lvm_session.specs.declared.bringing.OpenCopy.{OpenCopy}
use Rattle.lvm_session.specs.declared.open.Power.TheVariants as power
use Rattle.lvm_session.specs.Bringing.{is_out, step_place}
use Rattle.lvm_session.specs.Calls.{OpenMoveGives, OpensMove, closed, copy_state, faults_of, is_still_aimed, opened, state_at_end, state_of_copy}
use Rattle.lvm_session.specs.Judging.{is_move_done, is_moving}
use Rattle.lvm_session.specs.Sound.{IsSound}
use Rattle.lvm_session.specs.State.{Core, State, state, votes_there}
use Rattle.lvm_keeps_events.specs.passed.Calls.{counts_seen}
use Rattle.lvm_going.specs.Going.{CommitsOpenMove, LeavesMoving, RunsOn}
use Rattle.lvm_driver.specs.Answers.{IsCopyCaused}
use Rattle.lvm_driver.specs.Drains.{DrainCosts, DrainEnds, FailsSo, IsAny, IsDrained, IsTurn}
use Rattle.lvm_driver.proofs.EndedLemmas.{drained_has_ended}
use Rattle.lvm_driver.proofs.EpochLemmas.{committed_epoch, opened_epoch, turns_epoch}
use Rattle.lvm_move_plan.specs.declared.plan.PlannedMove.{PlannedMove}
use Rattle.lvm_migrate.specs.declared.fault.MoveFault.{MoveFault}
use Rattle.lvm_migrate.specs.declared.fault.MoveFault.TheVariants as fault
use Rattle.lvm_migrate.specs.Faults.{IsAgainst, IsOfOpening, commit_fault_is, opening_fault_is}
use Rattle.lvm_migrate.specs.Moving.{BreaksOff, CommitGives, CommitsIt, Concludes, EndsSo, GivesItUp, HasFailed, IsAnswerOf, IsDeniedBy, IsNotOpened, MayConclude, MayOpen, MovesOne, Opens, StopsAt, TurnsEnd, ended_fault, fault_of_move}
use Rattle.lvm_migrate.proofs.OpeningLemmas.{denied_so, opened_fine}
use Rattle.lvm_migrate.proofs.TurnsLemmas.{IsOpenMove, turns_open}

-- ---- it is opened, or isn't

module _ (old new : State) (m : PlannedMove) where
  abbrev Gives : Result (Unit {0}) OpenFault → Type 0
  Gives answer = OpenMoveGives (counts_seen old.device old.core) old.core new.core m.copy.lv m.copy.lp m.copy.number m.to answer

  abbrev Denied : OpenFault → Type 0
  Denied why = ((fault_of_move old.core m ≡ None) × (why ≡ denial.Memory) × (new.core ≡ old.core)) ⊎ ((fault_of_move old.core m ≡ Some why) × (new.core ≡ old.core))

  denied : (why : OpenFault) → Gives (Err why) → Denied why
  denied why gives = denied_so (counts_seen old.device old.core) old.core new.core m why gives

  against_of : (why : OpenFault) → IsAgainst why → IsOfOpening why
  against_of denial.Dark is = tt
  against_of denial.Off is = tt
  against_of (denial.Missing disk) is = tt
  against_of denial.NoFresh is = tt
  against_of denial.HistoryFull is = tt
  against_of denial.Memory is = tt
  against_of denial.Busy is = is
  against_of denial.NoVolume is = is
  against_of denial.OutOfRange is = is
  against_of denial.InUse is = is

  -- what it may be refused for
  pub of_opening : (why : OpenFault) → MayOpen old.core m → Gives (Err why) → IsOfOpening why
  of_opening why may gives = by (denied why gives)
    where
      by : Denied why → IsOfOpening why
      by (inl it) = subst IsOfOpening (sym it.1) tt
      by (inr it) = against_of why (may why it.0)

  pub opens_well : new.device ≡ old.device → Gives (Ok tt) → Opens old new m (Ok tt)
  opens_well device gives = ((opened_fine (counts_seen old.device old.core) old.core new.core m gives).0, gives, device)

  never_memory : (why : OpenFault) → (why ≡ denial.Memory → ⊥) → Denied why → fault_of_move old.core m ≡ Some why
  never_memory why other (inl it) = absurd (other it.1)
  never_memory why other (inr it) = it.0

  denied_by : (why : OpenFault) → MayOpen old.core m → Denied why → IsDeniedBy old.core m why
  denied_by denial.Memory may (inl it) = it.0
  denied_by denial.Memory may (inr it) = absurd (may denial.Memory it.0)
  denied_by denial.Dark may it = never_memory denial.Dark (λ e. cc e) it
  denied_by denial.Off may it = never_memory denial.Off (λ e. cc e) it
  denied_by (denial.Missing disk) may it = never_memory (denial.Missing disk) (λ e. cc e) it
  denied_by denial.NoFresh may it = never_memory denial.NoFresh (λ e. cc e) it
  denied_by denial.HistoryFull may it = never_memory denial.HistoryFull (λ e. cc e) it
  denied_by denial.Busy may it = never_memory denial.Busy (λ e. cc e) it
  denied_by denial.NoVolume may it = never_memory denial.NoVolume (λ e. cc e) it
  denied_by denial.OutOfRange may it = never_memory denial.OutOfRange (λ e. cc e) it
  denied_by denial.InUse may it = never_memory denial.InUse (λ e. cc e) it

  same_core : (why : OpenFault) → Denied why → new.core ≡ old.core
  same_core why (inl it) = it.2
  same_core why (inr it) = it.1

  pub opens_not : (why : OpenFault) (answer : MoveFault) → MayOpen old.core m → new.device ≡ old.device → Gives (Err why) → answer ≡ opening_fault_is why m.copy.lp (votes_there old.core, total_votes old.core.descriptor) → Opens old new m (Err answer)
  opens_not why answer may device gives is =
      let it = denied why gives in
      ((λ t. state (device t) (same_core why it t)), (why, of_opening why may gives, denied_by why may it, is))

-- ---- the one that is open

module _ (old mid : State) (m : PlannedMove) (opens : Opens old mid m (Ok tt)) where
  pub opened_so : OpensMove (counts_seen old.device old.core) old.core mid.core m.copy.lv m.copy.lp m.copy.number m.to
  opened_so = (opened_fine (counts_seen old.device old.core) old.core mid.core m opens.1).1

  abbrev pub begun : OpenCopy
  begun = opened true m.to m.copy.lv m.copy.lp m.copy.number opened_so.tried (faults_of (counts_seen old.device old.core) (copies_of opened_so.row m.copy.lp) m.to) (step_place old.core)

  pub just : IsOpenMove begun mid.core
  just = record { copy = begun; is_open = ap (λ (c : Core). c.copy) opened_so.is; its = (refl, refl, refl, refl, refl, refl); goes = λ e. cc e }

  pub still_unstuck : (old.core.power ≡ power.Stuck → ⊥) → mid.core.power ≡ power.Stuck → ⊥
  still_unstuck unstuck stuck = unstuck (sym (ap (λ (c : Core). c.power) opened_so.is) ∙ stuck)

  module _ (new : State) (turns : Path IsTurn IsAny mid new) where
    pub turns_end : (patience left : ℕ) (how : Result (Unit {0}) CommitFault) → DrainEnds left new how → DrainCosts patience left mid new how → TurnsEnd m patience left old new how
    turns_end patience left how ends costs = record { opened = mid; fine = opens.0; opens = opens.1; device = opens.2; turns = turns; ends = ends; costs = costs }

    module _ (sound : IsSound new) (drained : IsDrained new) where
      pub still : IsOpenMove begun new.core
      still = turns_open begun just turns drained.on

      abbrev c : OpenCopy
      c = still.copy

      state_is : copy_state new.core ≡ state_of_copy new.core c
      state_is = ap (λ m. option_map_or (state_of_copy new.core) m copy.Closed) still.is_open

      ends_so : (copy_state new.core ≡ copy.Done) ⊎ HasFailed (copy_state new.core)
      ends_so = by (is_out c.step || is_still_aimed new.core c) (is_move_done new.core c) c.end refl refl refl
        where
          running : copy_state new.core ≡ copy.Running c.cursor → (copy_state new.core ≡ copy.Done) ⊎ HasFailed (copy_state new.core)
          running e = absurd (drained_has_ended new sound drained c.cursor e)

          told : (b d : Bool) (o : Option CopyEnd) → (is_out c.step || is_still_aimed new.core c) ≡ b → is_move_done new.core c ≡ d → c.end ≡ o
              → copy_state new.core ≡ (if b then copy.Running c.cursor else if d then copy.Done else option_map_or (state_at_end c) o (copy.Running c.cursor))
          told b d o is_b is_d is_o = state_is ∙ (λ t. if is_b t then copy.Running c.cursor else if is_d t then copy.Done else option_map_or (state_at_end c) (is_o t) (copy.Running c.cursor))

          by : (b d : Bool) (o : Option CopyEnd) → (is_out c.step || is_still_aimed new.core c) ≡ b → is_move_done new.core c ≡ d → c.end ≡ o → (copy_state new.core ≡ copy.Done) ⊎ HasFailed (copy_state new.core)
          by true d o is_b is_d is_o = running (told true d o is_b is_d is_o)
          by false true o is_b is_d is_o = inl (told false true o is_b is_d is_o)
          by false false None is_b is_d is_o = running (told false false None is_b is_d is_o)
          by false false (Some ending.Done) is_b is_d is_o = inl (told false false (Some ending.Done) is_b is_d is_o)
          by false false (Some ending.SyncFailed) is_b is_d is_o = inr (subst HasFailed (sym (told false false (Some ending.SyncFailed) is_b is_d is_o)) tt)
          by false false (Some ending.NoFresh) is_b is_d is_o = inr (subst HasFailed (sym (told false false (Some ending.NoFresh) is_b is_d is_o)) tt)
          by false false (Some ending.Ended) is_b is_d is_o = absurd (still.goes is_o)

      lit : new.core.power ≡ power.Dark → ⊥
      lit dark = let e : power.On ≡ power.Dark = sym drained.on ∙ dark in cc e

      pub epoch_is : new.core.status.stamp.epoch ≡ old.core.status.stamp.epoch
      epoch_is = turns_epoch lit turns ∙ opened_epoch (counts_seen old.device old.core) old.core mid.core m.copy.lv m.copy.lp m.copy.number m.to (Ok tt) opens.1

      pub may_conclude : old.core.status.stamp.epoch ≢ 0 → MayConclude new
      may_conclude epoch = record {
        drained = drained;
        moves = ap (λ m. option_map_or (λ (d : OpenCopy). d.moves) m false) still.is_open ∙ still.its.5;
        ends = ends_so;
        epoch = λ e. epoch (sym epoch_is ∙ e);
      }

-- ---- how it ends

-- what was opened and drained is committed, or closed
module _ (m : PlannedMove) (patience between left : ℕ) (old ended new : State) (turns : TurnsEnd m patience between old ended (Ok tt)) where
  commits_so : (how : Result (Unit {0}) CommitFault) → copy_state ended.core ≡ copy.Done → CommitsOpenMove between left ended new how → CommitGives m patience left old new how
  commits_so how done commits = record { ended = ended; between = between; turns = turns; done = done; commits = commits }

  stops_so : (why : CommitFault) → ((disk : ℕ) → why ≡ commit.DiskFailed disk → ⊥) → CommitGives m patience left old new (Err why) → StopsAt m patience left old new (commit_fault_is why)
  stops_so commit.Dark there gives = inr (inr gives)
  stops_so (commit.WentOff have total) there gives = inr (inr gives)
  stops_so commit.Stuck there gives = inr gives
  stops_so (commit.DiskFailed disk) there gives = absurd (there disk refl)

  committed : (answer : Result (Unit {0}) MoveFault) → CommitsIt between left ended new answer → MovesOne m patience left old new answer
  committed answer it = by it.how it.commits it.there it.answer_is
    where
      by : (how : Result (Unit {0}) CommitFault) → CommitsOpenMove between left ended new how → IfErr how (λ why. (disk : ℕ) → why ≡ commit.DiskFailed disk → ⊥) → IsAnswerOf how answer → MovesOne m patience left old new answer
      by (Ok tt) commits there is = subst (MovesOne m patience left old new) (sym is) (commits_so (Ok tt) it.done commits)
      by (Err why) commits there is = subst (MovesOne m patience left old new) (sym is) (stops_so why there (commits_so (Err why) it.done commits))

  given_up : (answer : Result (Unit {0}) MoveFault) → GivesItUp m.copy.lp between left ended new answer → MovesOne m patience left old new answer
  given_up answer it = subst (MovesOne m patience left old new) (sym it.answer_is) (by (copy_state ended.core) refl it.failed)
    where
      so : (how : CopyState) → copy_state ended.core ≡ how → EndsSo m patience left old new how
      so how is = record { ended = ended; turns = subst (λ (n : ℕ). TurnsEnd m patience n old ended (Ok tt)) (sym it.same) turns; how_is = is; caused = it.caused; is = it.is }

      by : (how : CopyState) → copy_state ended.core ≡ how → HasFailed how → MovesOne m patience left old new (Err (ended_fault how m.copy.lp))
      by (copy.SyncFailed disk) is failed = so (copy.SyncFailed disk) is
      by copy.NoFresh is failed = (refl, inr (so copy.NoFresh is))
      by copy.Closed is failed = absurd failed
      by (copy.Running cursor) is failed = absurd failed
      by copy.Done is failed = absurd failed
      by copy.Ended is failed = absurd failed

  pub concluded : (answer : Result (Unit {0}) MoveFault) → Concludes m.copy.lp between left ended new answer → MovesOne m patience left old new answer
  concluded answer (inl it) = committed answer it
  concluded answer (inr it) = given_up answer it

-- the turns break off
pub broken_off : (m : PlannedMove) (patience left : ℕ) (old new : State) (why : CommitFault) → TurnsEnd m patience left old new (Err why) → StopsAt m patience left old new (commit_fault_is why)
broken_off m patience left old new commit.Dark it = inr (inl it)
broken_off m patience left old new (commit.WentOff have total) it = inr (inl it)
broken_off m patience left old new commit.Stuck it = inl it
broken_off m patience left old new (commit.DiskFailed disk) it = absurd it.ends

-- it isn't opened
pub not_opened : (m : PlannedMove) (patience left : ℕ) (old new : State) (why : MoveFault) → left ≡ patience → Opens old new m (Err why) → StopsAt m patience left old new why
not_opened m patience left old new why stays opens = subst (StopsAt m patience left old new) (sym opens.1.3) (by opens.1.0 opens.1.2 opens.1.1)
  where
    so : (denied : OpenFault) → fault_of_move old.core m ≡ Some denied → IsNotOpened m patience left old new denied
    so denied is = record { why_is = is; same = opens.0; left_is = stays }

    by : (denied : OpenFault) → IsDeniedBy old.core m denied → IsOfOpening denied → StopsAt m patience left old new (opening_fault_is denied m.copy.lp (votes_there old.core, total_votes old.core.descriptor))
    by denial.Dark is of = inl (so denial.Dark is)
    by denial.Off is of = inl (so denial.Off is, refl, refl)
    by (denial.Missing disk) is of = so (denial.Missing disk) is
    by denial.NoFresh is of = (refl, inl (so denial.NoFresh is))
    by denial.HistoryFull is of = so denial.HistoryFull is
    by denial.Memory is of = (is, opens.0, stays)
    by denial.Busy is of = absurd of
    by denial.NoVolume is of = absurd of
    by denial.OutOfRange is of = absurd of
    by denial.InUse is of = absurd of

-- ---- what becomes of it

-- it doesn't run
pub no_run : (s : State) → (copy_state s.core ≡ copy.Done) ⊎ HasFailed (copy_state s.core) → (cursor : ℕ) → copy_state s.core ≡ copy.Running cursor → ⊥
no_run s (inl done) cursor runs = absurd (let e : copy.Done ≡ copy.Running cursor = sym done ∙ runs in cc e)
no_run s (inr failed) cursor runs = absurd (subst HasFailed runs failed)

pub failed_of : (s : State) (how : CopyState) → how ≡ copy_state s.core → (copy_state s.core ≡ copy.Done) ⊎ HasFailed (copy_state s.core) → (how ≡ copy.Done → ⊥) → HasFailed how
failed_of s how is (inl done) other = absurd (other (is ∙ done))
failed_of s how is (inr failed) other = subst HasFailed (sym is) failed

module _ (lp patience left : ℕ) (old new : State) where
  pub commits_well : copy_state old.core ≡ copy.Done → CommitsOpenMove patience left old new (Ok tt) → Concludes lp patience left old new (Ok tt)
  commits_well done commits = inl (record { done = done; how = Ok tt; commits = commits; there = tt; answer_is = refl })

  pub commits_not : (why : CommitFault) → copy_state old.core ≡ copy.Done → CommitsOpenMove patience left old new (Err why) → ((disk : ℕ) → why ≡ commit.DiskFailed disk → ⊥) → Concludes lp patience left old new (Err (commit_fault_is why))
  commits_not why done commits there = inl (record { done = done; how = Err why; commits = commits; there = there; answer_is = refl })

  pub gives_up : (how : CopyState) → how ≡ copy_state old.core → HasFailed how → IsCopyCaused old → new ≡ state old.device (closed old.core) → left ≡ patience → Concludes lp patience left old new (Err (ended_fault how lp))
  gives_up how is failed caused closes same = inr (record {
    failed = subst HasFailed is failed;
    caused = caused;
    is = closes;
    same = same;
    answer_is = ap (λ (h : CopyState). Err (ended_fault h lp)) is;
  })

pub closed_state : {S : Type 0} (device : S → Device) (old new : S × Core) → new.0 ≡ old.0 → new.1 ≡ closed old.1 → state (device new.0) new.1 ≡ state (device old.0) (closed old.1)
closed_state device old new shelf core = ap (λ (d : Device). state d new.1) (ap device shelf) ∙ ap (λ (x : Core). state (device old.0) x) core

-- What is known of a session behind the command by which disks leave, by its answer.
use Rattle.std.proofs.Common.{◌≡◌, ◌⊎◌, inl, inr, ⊎_elim, ℕ, Bool, true, false, List, [], ◌∷◌, Result, Ok, Err, refl, sym, ◌∙◌, ap, subst}
use Rattle.lvm_num.specs.Descriptor.{is_member}
use Rattle.lvm_disk.specs.Device.{IsReady}
use Rattle.lvm_vol.specs.declared.entry.Vol.TheVariants.{Disk}
use Rattle.lvm_vol.specs.Facts.{Fact, Removed}
use Rattle.lvm_vol.specs.Log.{Log, cut_log, with_fact}
use Rattle.lvm_status.specs.Members.{HasItsRows}
use Rattle.lvm_session.specs.declared.open.Power.TheVariants as power
use Rattle.lvm_session.specs.State.{Core, State}
use Rattle.lvm_core.specs.declared.fault.CommitFault.TheVariants as commit
use Rattle.lvm_core.specs.Committing.{HasGoneDark, IsLeftOut}
use Rattle.lvm_core.specs.Sound.{HasNoneOpen}
use Rattle.lvm_member_plan.specs.declared.fault.ReduceFault.{ReduceFault}
use Rattle.lvm_member_plan.specs.declared.fault.ReduceFault.TheVariants as fault
use Rattle.lvm_reduce.specs.Answers.{IsReduceRefused, ReduceGives, is_over}
use Rattle.lvm_member_steps.specs.Steps.{BreaksFrom, BreaksOff, HasComeTo, with_removed}
use Rattle.lvm_volume_lines.proofs.passed.GroupLines.{Bears, bears_cut, bears_given_up}
use Rattle.lvm_volume_lines.proofs.ChangingLemmas.Giving.{cut_entered}
use Rattle.lvm_volume_lines.proofs.Ending.{KeepsRows}

-- ---- what has happened

-- What has happened to the shelf, by the answer: where the power was cut nothing is out, where the votes were lost it is ready, and where nothing was heard it is on;
-- where it was refused nothing has.
abbrev pub ReduceFacts : Result (Unit {0}) ReduceFault → State → State → Type 0
ReduceFacts (Ok done) old new = IsReady new.device
ReduceFacts (Err fault.Dark) old new = new.device.flights ≡ []
ReduceFacts (Err (fault.WentOff have total)) old new = IsReady new.device
ReduceFacts (Err fault.Stuck) old new = (new.device.power ≡ true) × (new.device.freed ≡ [])
ReduceFacts (Err _) old new = new ≡ old

-- what has been entered into the history: that nothing is known of disks that left, and at most a cut
pub data EntersRemoved (old new : State) : Type 0 where
  OnlyRemoved : (disks : List ℕ) → new.core.history ≡ with_removed disks old.core.history → EntersRemoved old new
  RemovedAndCut : (disks : List ℕ) → new.core.history ≡ cut_log (with_removed disks old.core.history) → EntersRemoved old new

-- what is known of it
pub record IsKnownOfReduce (old new : State) (given : Result (Unit {0}) ReduceFault) : Type 0 where
  pub facts : ReduceFacts given old new
  pub enters : EntersRemoved old new
  pub rows : is_over given ≡ false → KeepsRows old new

-- such entries leave this true
bears_removed : (P : List Fact → Type 0) → Bears P → (disks : List ℕ) (log : Log) → P log.facts → P (with_removed disks log).facts
bears_removed P bears [] log holds = holds
bears_removed P bears (x ∷ disks) log holds = bears_removed P bears disks (with_fact log (Removed (Disk x))) (bears_given_up P bears log.facts (x ∷ []) holds)

pub removed_bear : (P : List Fact → Type 0) → Bears P → (old new : State) → EntersRemoved old new → P old.core.history.facts → P new.core.history.facts
removed_bear P bears old new (OnlyRemoved disks is) holds = subst (λ (l : Log). P l.facts) (sym is) (bears_removed P bears disks old.core.history holds)
removed_bear P bears old new (RemovedAndCut disks is) holds = subst (λ (l : Log). P l.facts) (sym is) (bears_cut P bears (with_removed disks old.core.history) (bears_removed P bears disks old.core.history holds))

-- ---- by its contract

module _ (disks : List ℕ) (patience : ℕ) (old new : State) (on : old.core.power ≡ power.On) (none : HasNoneOpen old.core) where
  as_before : (given : Result (Unit {0}) ReduceFault) → new ≡ old → ReduceFacts given old new → IsKnownOfReduce old new given
  as_before given same facts = record {
    facts = facts;
    enters = OnlyRemoved [] (ap (λ (s : State). s.core.history) same);
    rows = λ goes rows. subst (λ (s : State). HasItsRows s.core.descriptor s.core.origin.table) (sym same) rows;
  }

  -- a session that is on isn't refused for being over
  refused_dark : IsReduceRefused disks fault.Dark old new → ⊥
  refused_dark refused = let dark = refused.1 in absurd (cc (on, dark))

  refused_off : (have total : ℕ) → IsReduceRefused disks (fault.WentOff have total) old new → ⊥
  refused_off have total refused = let off = refused.1.0 in absurd (cc (on, off))

  -- where it broke off nothing is open
  none_at : (disks : List ℕ) (left : ℕ) (mid : State) → HasComeTo disks patience left old mid → HasNoneOpen mid.core
  none_at disks left mid come = record { requests = ap (λ (c : Core). c.requests) come.is ∙ none.requests; copy = ap (λ (c : Core). c.copy) come.is ∙ none.copy }

  went_dark : BreaksOff disks patience old new commit.Dark → IsKnownOfReduce old new (Err fault.Dark)
  went_dark broke = record {
    facts = let dark : HasGoneDark broke.mid new = broke.breaks in dark.cut.flights;
    enters = RemovedAndCut broke.come.entered (cut_entered broke.mid new (none_at disks broke.left broke.mid broke.come) broke.breaks ∙ ap cut_log broke.come.history);
    rows = λ goes. absurd (cc goes);
  }

  off_from : (have total : ℕ) (left : ℕ) (mid : State) → HasComeTo disks patience left old mid → BreaksFrom disks left old mid new (commit.WentOff have total) → IsKnownOfReduce old new (Err (fault.WentOff have total))
  off_from have total left mid come (inl between) = record {
    facts = between.off.ready;
    enters = OnlyRemoved come.entered (ap (λ (c : Core). c.history) between.off.is ∙ come.history);
    rows = λ goes. absurd (cc goes);
  }
  off_from have total left mid come (inr (next, way, few)) = record {
    facts = subst (λ (s : State). IsReady s.device) (sym few.is) come.ready;
    enters = OnlyRemoved come.entered (ap (λ (s : State). s.core.history) few.is ∙ come.history);
    rows = λ goes. absurd (cc goes);
  }

  went_stuck : BreaksOff disks patience old new commit.Stuck → IsKnownOfReduce old new (Err fault.Stuck)
  went_stuck broke =
      let out : IsLeftOut broke.left broke.mid new = broke.breaks in
      record {
        facts = (out.out.power, out.out.freed);
        enters = OnlyRemoved broke.come.entered (ap (λ (c : Core). c.history) out.is ∙ broke.come.history);
        rows = λ goes. absurd (cc goes);
      }

  pub reduce_known : (given : Result (Unit {0}) ReduceFault) → ReduceGives disks patience old new given → IsKnownOfReduce old new given
  reduce_known (Ok done) gives = record {
    facts = gives.1.ready;
    enters = OnlyRemoved gives.1.entered gives.1.enters.history;
    rows = λ goes rows d. gives.1.origin_is.rows d ∙ sym (ap (λ (c : Core). is_member c.descriptor d) gives.1.is);
  }
  reduce_known (Err fault.Dark) gives = ⊎_elim (λ refused. absurd (refused_dark refused)) (λ broke. went_dark broke.1) gives
  reduce_known (Err (fault.WentOff have total)) gives = ⊎_elim (λ refused. absurd (refused_off have total refused)) (λ broke. off_from have total broke.1.left broke.1.mid broke.1.come broke.1.breaks) gives
  reduce_known (Err fault.Stuck) gives = went_stuck gives.1
  reduce_known (Err fault.Busy) gives = as_before (Err fault.Busy) gives.0 gives.0
  reduce_known (Err (fault.NoDisk disk)) gives = as_before (Err (fault.NoDisk disk)) gives.0 gives.0
  reduce_known (Err fault.LastDisk) gives = as_before (Err fault.LastDisk) gives.0 gives.0
  reduce_known (Err (fault.DiskInUse disk)) gives = as_before (Err (fault.DiskInUse disk)) gives.0 gives.0
  reduce_known (Err (fault.NoQuorum have total)) gives = as_before (Err (fault.NoQuorum have total)) gives.0 gives.0
  reduce_known (Err fault.HistoryFull) gives = as_before (Err fault.HistoryFull) gives.0 gives.0
  reduce_known (Err fault.Memory) gives = as_before (Err fault.Memory) gives.0 gives.0

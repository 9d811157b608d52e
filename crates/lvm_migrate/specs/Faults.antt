-- What is answered by why something below wasn't done.
use Rattle.std.specs.Prelude.{ℕ}
use Rattle.lvm_core.specs.declared.fault.CommitFault.{CommitFault}
use Rattle.lvm_core.specs.declared.fault.CommitFault.TheVariants as commit
use Rattle.lvm_session.specs.declared.answers.OpenFault.{OpenFault}
use Rattle.lvm_session.specs.declared.answers.OpenFault.TheVariants as denial
use Rattle.lvm_move_plan.specs.declared.plan.PlanFault.{PlanFault}
use Rattle.lvm_move_plan.specs.declared.plan.PlanFault.TheVariants as plan
use Rattle.lvm_migrate.specs.declared.fault.MoveFault.{MoveFault}
use Rattle.lvm_migrate.specs.declared.fault.MoveFault.TheVariants as fault

-- why there is no plan
abbrev pub plan_fault_is : PlanFault → MoveFault
plan_fault_is (plan.Strict lp) = fault.Strict lp
plan_fault_is (plan.NoRoom free) = fault.NoRoom free
plan_fault_is plan.Memory = fault.Memory

-- why turns or a commit have ended
abbrev pub commit_fault_is : CommitFault → MoveFault
commit_fault_is commit.Dark = fault.Dark
commit_fault_is (commit.WentOff have total) = fault.WentOff have total
commit_fault_is (commit.DiskFailed disk) = fault.SyncFailed disk
commit_fault_is commit.Stuck = fault.Stuck

-- why a copy that is planned to move isn't opened: of these the plan lets none be
abbrev pub IsOfOpening : OpenFault → Type 0
IsOfOpening denial.Busy = ⊥
IsOfOpening denial.NoVolume = ⊥
IsOfOpening denial.OutOfRange = ⊥
IsOfOpening denial.InUse = ⊥
IsOfOpening _ = Unit {0}

-- and of these memory isn't against it
abbrev pub IsAgainst : OpenFault → Type 0
IsAgainst denial.Memory = ⊥
IsAgainst why = IsOfOpening why

abbrev pub opening_fault_is : OpenFault → ℕ → ℕ × ℕ → MoveFault
opening_fault_is denial.Dark lp off = fault.Dark
opening_fault_is denial.Off lp off = fault.WentOff off.0 off.1
opening_fault_is (denial.Missing disk) lp off = fault.Missing disk
opening_fault_is denial.NoFresh lp off = fault.NoFresh lp
opening_fault_is denial.HistoryFull lp off = fault.HistoryFull
opening_fault_is denial.Memory lp off = fault.Memory
opening_fault_is _ lp off = fault.Busy

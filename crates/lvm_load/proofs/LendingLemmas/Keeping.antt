-- A session that is lent goes on as it was given.
use Rattle.std.proofs.Common.{◌≡◌, Bool, true, false, refl, sym, ap, ◌∙◌}
use Rattle.lvm_session.specs.declared.open.Power.TheVariants as power
use Rattle.lvm_session.specs.State.{State}
use Rattle.lvm_vol.specs.Log.{Log}
use Rattle.lvm_driver.specs.passed.Going.{LeavesSession, RunsOn}
use Rattle.lvm_driver.proofs.passed.Going.{goes_any, leaves_both, leaves_none, path_frames, path_shape, stays_unstuck}
use Rattle.lvm_load.specs.Lending.{KeepsServing}

-- ---- what is kept of it: the only places that look into what a session leaves

pub unstuck_still : (old new : State) → LeavesSession old new → (old.core.power ≡ power.Stuck → ⊥) → new.core.power ≡ power.Stuck → ⊥
unstuck_still old new leaves unstuck = stays_unstuck old.core new.core (path_shape leaves).power unstuck

pub same_run : (old new : State) → LeavesSession old new → new.core.history.run ≡ old.core.history.run
same_run old new leaves = ap (λ (l : Log). l.run) (path_shape leaves).log

-- ---- one thing after another

pub keeps_none : (sync : Bool) (s : State) → KeepsServing sync s s
keeps_none sync s = record { leaves = leaves_none s; orders = refl; copy = λ off none. none }

pub keeps_both : (sync : Bool) (old mid new : State) → KeepsServing sync old mid → KeepsServing sync mid new → KeepsServing sync old new
keeps_both sync old mid new one two = record {
  leaves = leaves_both old mid new one.leaves two.leaves;
  orders = two.orders ∙ one.orders;
  copy = λ off none. two.copy off (one.copy off none);
}

-- ---- turns and calls

pub keeps_runs : (sync : Bool) (old new : State) → RunsOn old new → KeepsServing sync old new
keeps_runs sync old new runs = record { leaves = goes_any runs; orders = (path_frames runs).orders; copy = λ off. (path_frames runs).copy }

-- where copies are brought up one may be opened
pub keeps_brought : (sync : Bool) (old new : State) → sync ≡ true → LeavesSession old new → new.device.orders ≡ old.device.orders → KeepsServing sync old new
keeps_brought sync old new on leaves orders = record { leaves = leaves; orders = orders; copy = λ off none. absurd (let e : true ≡ false = sym on ∙ off in cc e) }

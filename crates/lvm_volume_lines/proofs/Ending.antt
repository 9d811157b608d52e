-- How `mklv` and `rmlv` end.
use Rattle.std.proofs.Common.{◌≡◌, ◌==◌, ◌≤◌, ◌⊎◌, ⊎_elim, [], ℕ, List, true, false, Err, refl, sym, ◌∙◌, ap, subst, Result, Ok, arith}
use Rattle.std.specs.List.{list_any}
use Rattle.lvm_num.specs.declared.descriptor.PvRow.{PvRow}
use Rattle.lvm_disk.specs.Counts.{Rose}
use Rattle.lvm_disk.specs.Device.{Device, IsReady}
use Rattle.lvm_transfer.specs.Transfer.{Relights}
use Rattle.lvm_write.specs.Written.{IsGivenUp}
use Rattle.lvm_commit.specs.Settling.{HasLostQuorum}
use Rattle.lvm_session.specs.declared.open.Power.TheVariants as power
use Rattle.lvm_session.specs.State.{Core, State}
use Rattle.lvm_status.specs.Table.{has_row}
use Rattle.lvm_status.specs.Members.{HasItsRows}
use Rattle.lvm_range_lines.specs.passed.Volumes.{MklvGives, RmlvGives}
use Rattle.lvm_range_lines.specs.passed.RefusalVariants as refusal
use Rattle.lvm_range_lines.specs.passed.ReplyVariants as reply
use Rattle.lvm_range_lines.specs.passed.GroupLines.{most_refusals}
use Rattle.lvm_volume_lines.proofs.Commanding.{ClosesWell, closes_dark, closes_lit}
use Rattle.lvm_volume_lines.specs.Volumes.{volume_reply}
use Rattle.lvm_range_lines.specs.passed.VolumePlan.{GroupFault, NewVolume, is_over}
use Rattle.lvm_range_lines.specs.passed.VolumePlanFaultGroupFault as fault

-- ---- what is known by the answer

-- what has happened to the shelf where a fault comes from it; else nothing has, but where a command may have halted behind a status that it committed
abbrev pub FaultFacts : GroupFault → ℕ → State → State → Type 0
FaultFacts fault.Dark patience old new = (new.device.flights ≡ []) × Rose old.device.counts.cuts new.device.counts.cuts
FaultFacts (fault.WentOff have total) patience old new = HasLostQuorum old.core.status new.core.status old.device new.device have total × IsReady new.device
FaultFacts fault.Stuck patience old new = IsGivenUp 0 patience old.device new.device
FaultFacts (fault.DiskFailed disk) patience old new = Rose (old.device.counts.faults disk) (new.device.counts.faults disk) × IsReady new.device
FaultFacts (fault.StaleCopy lp) patience old new = (new ≡ old) ⊎ IsReady new.device
FaultFacts (fault.LastFresh lp) patience old new = (new ≡ old) ⊎ IsReady new.device
FaultFacts _ patience old new = new ≡ old

abbrev pub Facts : {X : Type 0} → Result X GroupFault → ℕ → State → State → Type 0
Facts (Ok done) patience old new = IsReady new.device
Facts (Err why) patience old new = FaultFacts why patience old new

-- no command is refused for a session that is over where it is on
not_dark : (old : State) → old.core.power ≡ power.On → old.core.power ≡ power.Dark → ⊥
not_dark old on dark = cc (on, dark)

not_off : (old : State) → old.core.power ≡ power.On → old.core.power ≡ power.Off → ⊥
not_off old on off = cc (on, off)

module _ (v : NewVolume) (patience : ℕ) (old new : State) (on : old.core.power ≡ power.On) where
  pub mklv_facts : (given : Result ℕ GroupFault) → MklvGives v patience old new given → Facts given patience old new
  mklv_facts (Ok lv) made = made.ready
  mklv_facts (Err fault.Dark) gives = ⊎_elim (λ refused. absurd (not_dark old on refused.1)) (λ making. (making.ends.cut.flights, making.ends.cut.cuts)) gives
  mklv_facts (Err (fault.WentOff have total)) gives = ⊎_elim (λ refused. absurd (not_off old on refused.1.0)) (λ making. (making.ends.lost, making.ends.ready)) gives
  mklv_facts (Err fault.Stuck) making = making.ends.out
  mklv_facts (Err (fault.DiskFailed disk)) fails = (fails.ends.fault, fails.ends.ready)
  mklv_facts (Err fault.NoVolume) none = absurd none
  mklv_facts (Err (fault.StaleCopy lp)) none = absurd none
  mklv_facts (Err (fault.LastFresh lp)) none = absurd none
  mklv_facts (Err _) refused = refused.0

module _ (lv patience : ℕ) (old new : State) (on : old.core.power ≡ power.On) where
  pub rmlv_facts : (given : Result (Unit {0}) GroupFault) → RmlvGives lv patience old new given → Facts given patience old new
  rmlv_facts (Ok done) removed = removed.ready
  rmlv_facts (Err fault.Dark) gives = ⊎_elim (λ refused. absurd (not_dark old on refused.1)) (λ gone. ⊎_elim (λ before. (before.cut.flights, before.cut.cuts)) (λ behind. (behind.cut.flights, behind.cut.cuts)) gone.ends) gives
  rmlv_facts (Err (fault.WentOff have total)) gives = ⊎_elim (λ refused. absurd (not_off old on refused.1.0)) (λ gone. ⊎_elim (λ before. (before.lost, before.ready)) (λ behind. (behind.lost, behind.ready)) gone.ends) gives
  rmlv_facts (Err fault.Stuck) gone = ⊎_elim (λ before. before.out) (λ behind. behind.out) gone.ends
  rmlv_facts (Err fault.Busy) refused = refused.0
  rmlv_facts (Err fault.NoVolume) refused = refused.0
  rmlv_facts (Err fault.HistoryFull) refused = refused.0
  rmlv_facts (Err fault.Memory) refused = refused.0
  rmlv_facts (Err _) none = absurd none

-- ---- what follows for the shelf

as_is : (old new : State) → IsReady old.device → new ≡ old → IsReady new.device
as_is old new ready same = subst (λ (s : State). IsReady s.device) (sym same) ready

module _ {X : Type 0} (patience : ℕ) (old new : State) where
  -- where the power was cut nothing is out,
  pub dark_still : (given : Result X GroupFault) → Facts given patience old new → given ≡ Err fault.Dark → new.device.flights ≡ []
  dark_still given facts dark = (subst (λ (r : Result X GroupFault). Facts r patience old new) dark facts).0

  -- and where the session ended otherwise it is on;
  pub lit_still : (given : Result X GroupFault) → Facts given patience old new → is_over given ≡ true → (given ≡ Err fault.Dark → ⊥) → (new.device.power ≡ true) × (new.device.freed ≡ [])
  lit_still (Err fault.Dark) facts ends other = absurd (other refl)
  lit_still (Err (fault.WentOff have total)) facts ends other = (facts.1.power, facts.1.freed)
  lit_still (Err fault.Stuck) facts ends other = (facts.power, facts.freed)
  lit_still given facts ends other = absurd (cc (ends))

  -- it is ready where the session goes on,
  pub ready_still : (given : Result X GroupFault) → IsReady old.device → Facts given patience old new → is_over given ≡ false → IsReady new.device
  ready_still (Ok done) ready facts ends = facts
  ready_still (Err fault.Dark) ready facts ends = absurd (cc (ends))
  ready_still (Err (fault.WentOff have total)) ready facts ends = absurd (cc (ends))
  ready_still (Err fault.Stuck) ready facts ends = absurd (cc (ends))
  ready_still (Err (fault.DiskFailed disk)) ready facts ends = facts.1
  ready_still (Err (fault.StaleCopy lp)) ready facts ends = ⊎_elim (as_is old new ready) (λ now. now) facts
  ready_still (Err (fault.LastFresh lp)) ready facts ends = ⊎_elim (as_is old new ready) (λ now. now) facts
  ready_still (Err _) ready facts ends = as_is old new ready facts

  -- and once it was closed and lit again.
  pub closes_after : (given : Result X GroupFault) (shelf : Device) → Facts given patience old new → is_over given ≡ true → Relights new.device shelf → ClosesWell (volume_reply given) new.device shelf
  closes_after (Err fault.Dark) shelf facts ends lit = closes_dark (reply.Refused refusal.Dark) new.device shelf facts.0 lit
  closes_after (Err (fault.WentOff have total)) shelf facts ends lit = closes_lit (reply.Refused (refusal.WentOff have total)) new.device shelf facts.1.power facts.1.freed (λ heard. facts.1) lit
  closes_after (Err fault.Stuck) shelf facts ends lit = closes_lit (reply.Refused refusal.Stuck) new.device shelf facts.power facts.freed (λ heard. absurd (heard refl)) lit
  closes_after given shelf facts ends lit = absurd (cc (ends))

  -- one refusal is answered at most
  pub one_answer : (given : Result X GroupFault) → most_refusals (volume_reply given) ≤ 1
  one_answer (Ok done) = omega arith
  one_answer (Err why) = omega arith

-- ---- what stays of the session

-- its beginning, and the members of its group
pub record SameShape (old new : State) : Type 0 where
  pub origin : new.core.origin ≡ old.core.origin
  pub pvs : new.core.descriptor.pvs ≡ old.core.descriptor.pvs

pub shape_as : (old new : State) → new ≡ old → SameShape old new
shape_as old new same = record { origin = ap (λ (s : State). s.core.origin) same; pvs = ap (λ (s : State). s.core.descriptor.pvs) same }

pub mklv_shape : (v : NewVolume) (patience : ℕ) (old new : State) (given : Result ℕ GroupFault) → MklvGives v patience old new given → is_over given ≡ false → SameShape old new
mklv_shape v patience old new (Ok lv) made goes = record { origin = ap (λ (c : Core). c.origin) made.is; pvs = ap (λ (c : Core). c.descriptor.pvs) made.is }
mklv_shape v patience old new (Err fault.Dark) gives goes = absurd (cc (goes))
mklv_shape v patience old new (Err (fault.WentOff have total)) gives goes = absurd (cc (goes))
mklv_shape v patience old new (Err fault.Stuck) gives goes = absurd (cc (goes))
mklv_shape v patience old new (Err (fault.DiskFailed disk)) fails goes = record { origin = ap (λ (c : Core). c.origin) fails.ends.is; pvs = ap (λ (c : Core). c.descriptor.pvs) fails.ends.is }
mklv_shape v patience old new (Err fault.NoVolume) none goes = absurd none
mklv_shape v patience old new (Err (fault.StaleCopy lp)) none goes = absurd none
mklv_shape v patience old new (Err (fault.LastFresh lp)) none goes = absurd none
mklv_shape v patience old new (Err _) refused goes = shape_as old new refused.0

pub rmlv_shape : (lv patience : ℕ) (old new : State) (given : Result (Unit {0}) GroupFault) → RmlvGives lv patience old new given → is_over given ≡ false → SameShape old new
rmlv_shape lv patience old new (Ok done) made goes = record { origin = ap (λ (c : Core). c.origin) made.is; pvs = ap (λ (c : Core). c.descriptor.pvs) made.is }
rmlv_shape lv patience old new (Err fault.Dark) gives goes = absurd (cc (goes))
rmlv_shape lv patience old new (Err (fault.WentOff have total)) gives goes = absurd (cc (goes))
rmlv_shape lv patience old new (Err fault.Stuck) gives goes = absurd (cc (goes))
rmlv_shape lv patience old new (Err fault.Busy) refused goes = shape_as old new refused.0
rmlv_shape lv patience old new (Err fault.NoVolume) refused goes = shape_as old new refused.0
rmlv_shape lv patience old new (Err fault.HistoryFull) refused goes = shape_as old new refused.0
rmlv_shape lv patience old new (Err fault.Memory) refused goes = shape_as old new refused.0
rmlv_shape lv patience old new (Err _) none goes = absurd none

-- the status with which it began has the rows of the members, where it had
abbrev pub KeepsRows : State → State → Type 0
KeepsRows old new = HasItsRows old.core.descriptor old.core.origin.table → HasItsRows new.core.descriptor new.core.origin.table

pub rows_stay : (old new : State) → SameShape old new → KeepsRows old new
rows_stay old new same rows disk = ap (λ o. has_row o.table disk) same.origin ∙ rows disk ∙ ap (λ (pvs : List PvRow). list_any (λ (row : PvRow). row.disk == disk) pvs) (sym same.pvs)

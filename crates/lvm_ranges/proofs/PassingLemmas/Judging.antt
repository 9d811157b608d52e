-- A copy is judged: turns are made until it is settled, and it is opened where it is stale.
use Rattle.lvm_ranges.proofs.passed.Going.{path_shape}
use Rattle.std.proofs.Common.{◌≡◌, inl, inr, ◌<◌, ◌-◌, ◌||◌, ℕ, suc, true, false, List, [], ◌∷◌, None, Some, Result, Ok, map, length, refl, sym, ap, subst, ◌∙◌}
use Rattle.std.specs.List.{list_any}
use Rattle.lvm_num.specs.declared.descriptor.Descriptor.{Descriptor}
use Rattle.lvm_num.specs.declared.descriptor.LvRow.{LvRow}
use Rattle.lvm_num.specs.Descriptor.{volume_of}
use Rattle.lvm_disk.specs.Counts.{RoseBy}
use Rattle.lvm_disk.specs.Device.{Device}
use Rattle.lvm_session.specs.declared.answers.CopyFault.{CopyFault}
use Rattle.lvm_session.specs.declared.answers.CopyFault.TheVariants as refusal
use Rattle.lvm_session.specs.declared.bringing.OpenCopy.{OpenCopy}
use Rattle.lvm_session.specs.declared.open.Open.{Open}
use Rattle.lvm_session.specs.declared.open.Power.TheVariants as power
use Rattle.lvm_session.specs.Calls.{OpenGives, Opens, aged, copy_at, copy_fault, is_asked}
use Rattle.lvm_session.specs.Ends.{with_step}
use Rattle.lvm_session.specs.Judging.{copies_in, is_missing, is_stale}
use Rattle.lvm_session.specs.Sound.{IsSound}
use Rattle.lvm_session.specs.State.{Core, State, state}
use Rattle.lvm_ranges.specs.passed.Calls.{counts_seen}
use Rattle.lvm_ranges.specs.passed.Driver.{NoTurn}
use Rattle.lvm_ranges.specs.passed.Going.{LeavesSession}
use Rattle.lvm_ranges.specs.Keeping.{KeepsTable}
use Rattle.lvm_ranges.specs.declared.copies.Opening.{Opening}
use Rattle.lvm_ranges.specs.declared.fault.SyncFault.{SyncFault}
use Rattle.lvm_ranges.specs.declared.fault.SyncFault.TheVariants as fault
use Rattle.lvm_ranges.specs.Passing.{Copy, EndsOr, IsAnsweredBy, IsJudged, IsOpened, IsUnsettled, MayPass, MayRefuse, EachTurnWhile, EndsTurning, EndsAtCopy, StopsRunning}
use Rattle.lvm_ranges.specs.Turning.{GoesBeside, IsOverFor, IsUnderWay, MakesLast, MakesTurn}
use Rattle.lvm_ranges.proofs.CallsLemmas.{IsRefusedSo, opened_so, refused_so, settled_alone}
use Rattle.lvm_ranges.proofs.PassingLemmas.Standing.{still_settled}
use Rattle.lvm_ranges.proofs.TurningLemmas.{beside_both, beside_none, last_turn, one_turn, unstuck_beside}

-- So far turns were made while it wasn't settled, and no copy is open.
pub record JudgedSoFar (c : Copy) (first now : State) (patience left : ℕ) : Type 0 where
  pub settles : EachTurnWhile (IsUnsettled c) patience left first now
  pub may : MayPass now.core c
  pub unstuck : now.core.power ≡ power.Stuck → ⊥
  pub beside : GoesBeside first now patience left

pub begins : (c : Copy) (first : State) (left : ℕ) → (first.core.power ≡ power.Stuck → ⊥) → MayPass first.core c → JudgedSoFar c first first left left
begins c first left unstuck may = record { settles = NoTurn; may = may; unstuck = unstuck; beside = beside_none first left }

-- a state whose parts are the same is the same
pub same_state : {S : Type 0} (device : S → Device) (old new : S × Core) → new.0 ≡ old.0 → new.1 ≡ old.1 → state (device new.0) new.1 ≡ state (device old.0) old.1
same_state device old new shelf core = ap (λ (d : Device). state d new.1) (ap device shelf) ∙ ap (λ (x : Core). state (device old.0) x) core

-- it is one of the copies still
pub may_still : (c : Copy) (old new : Core) → new.descriptor ≡ old.descriptor → new.copy ≡ None → MayPass old c → MayPass new c
may_still c old new same none may = record {
  none = none;
  its = subst (λ (d : Descriptor). copy_at (copies_in d c.lv c.lp) c.number ≡ Some c.pp) (sym same) may.its;
  within = subst (λ (d : Descriptor). (row : LvRow) → volume_of d c.lv ≡ Some row → c.lp < row.lps) (sym same) may.within;
}

-- where the session or the patience is at its end while it isn't settled,
judged_off : (c : Copy) (patience left : ℕ) (old new : State) (why : SyncFault) → IsOverFor left new.core why → EndsTurning (IsUnsettled c) patience left old new why → EndsAtCopy c patience left old new why
judged_off c patience left old new fault.Dark is turns = (is, inl turns)
judged_off c patience left old new fault.Off is turns = (is, inl turns)
judged_off c patience left old new fault.Stuck is turns = (is, inl turns)
judged_off c patience left old new fault.Busy is turns = absurd is
judged_off c patience left old new fault.NoVolume is turns = absurd is
judged_off c patience left old new fault.OutOfRange is turns = absurd is
judged_off c patience left old new fault.HistoryFull is turns = absurd is
judged_off c patience left old new (fault.SyncFailed disk) is turns = absurd is
judged_off c patience left old new (fault.NoFresh lp) is turns = absurd is
judged_off c patience left old new (fault.Missing disk) is turns = absurd is

-- and while it runs
pub running_off : (c : Copy) (patience before left : ℕ) (old opened new : State) (why : SyncFault) → IsOpened c patience before old opened → StopsRunning before left opened new why → EndsAtCopy c patience left old new why
running_off c patience before left old opened new fault.Dark opens (is, turns) = (is, inr (record { opened = opened; before = before; opens = opens; turns = turns }))
running_off c patience before left old opened new fault.Off opens (is, turns) = (is, inr (record { opened = opened; before = before; opens = opens; turns = turns }))
running_off c patience before left old opened new fault.Stuck opens (is, turns) = (is, inr (record { opened = opened; before = before; opens = opens; turns = turns }))
running_off c patience before left old opened new fault.Busy opens (is, turns) = absurd is
running_off c patience before left old opened new fault.NoVolume opens (is, turns) = absurd is
running_off c patience before left old opened new fault.OutOfRange opens (is, turns) = absurd is
running_off c patience before left old opened new fault.HistoryFull opens (is, turns) = absurd is
running_off c patience before left old opened new (fault.SyncFailed disk) opens (is, turns) = absurd is
running_off c patience before left old opened new (fault.NoFresh lp) opens (is, turns) = absurd is
running_off c patience before left old opened new (fault.Missing disk) opens (is, turns) = absurd is

-- while it isn't settled something is under way
pub under_way : (c : Copy) (s : State) → IsSound s → MayPass s.core c → is_stale s.core c.pp ≡ true → copy_fault s.core c.lv c.lp c.number ≡ Some refusal.AlreadyFresh → IsUnderWay s
under_way c s sound may stale fresh drained =
    let settled = settled_alone s.core c.pp (still_settled s sound drained may.none) stale in
    let open_so = refused_so s.core c may refusal.AlreadyFresh fresh in
    let e : true ≡ false = sym settled ∙ open_so in cc e

-- ---- a copy is opened

aged_asked : (client id : ℕ) (os : List Open) → list_any (is_asked client id) (map aged os) ≡ list_any (is_asked client id) os
aged_asked client id [] = refl
aged_asked client id (o ∷ os) = ap (λ b. is_asked client id o || b) (aged_asked client id os)

aged_long : (os : List Open) → length (map aged os) ≡ length os
aged_long [] = refl
aged_long (o ∷ os) = ap suc (aged_long os)

opened_table : (old : Core) (c : OpenCopy) → KeepsTable old (with_step (record old { requests = map aged old.requests }) c)
opened_table old c = record {
  asked = λ client id. aged_asked client id old.requests;
  long = aged_long old.requests;
  answered = λ client id is. is;
  requests = record { landed = λ id is. is; reads = λ id place count is. is };
}

pub opened_beside : (old new : State) (left lv lp number : ℕ) → Opens (counts_seen old.device old.core) old.core new.core lv lp number → new.device ≡ old.device → LeavesSession old new → GoesBeside old new left left
opened_beside old new left lv lp number opens same leaves = record {
  leaves = leaves;
  table = subst (KeepsTable old.core) (sym opens.is) (opened_table old.core _);
  orders = ap (λ (d : Device). d.orders) same;
  loses = λ disk gone. inl (ap (λ (c : Core). is_missing c disk) (sym opens.is) ∙ gone);
  fewer = (beside_none old left).fewer;
  waited = subst (λ (d : Device). RoseBy (left - left) old.device.counts.waits d.counts.waits) (sym same) (beside_none old left).waited;
}

-- a turn is made of the session, which an opening that was refused has left as it was
module _ (c : Copy) (first old mid new : State) (patience left after : ℕ) (so_far : JudgedSoFar c first old patience left) (same : mid ≡ old) where
  pub beside_then : GoesBeside mid new left after → GoesBeside first new patience after
  beside_then beside = beside_both first old new patience left after so_far.beside (subst (λ (s : State). GoesBeside s new left after) same beside)

  pub turned : IsUnsettled c old.core → MakesTurn mid new left after → (mid.core.copy ≡ None → new.core.copy ≡ None) → GoesBeside mid new left after → JudgedSoFar c first new patience after
  turned unsettled made none beside =
      let on = subst (λ (s : State). GoesBeside s new left after) same beside in
      record {
        settles = one_turn (IsUnsettled c) patience left after first old new so_far.settles unsettled (subst (λ (s : State). MakesTurn s new left after) same made);
        may = may_still c old.core new.core (path_shape on.leaves).descriptor (none (ap (λ (s : State). s.core.copy) same ∙ so_far.may.none)) so_far.may;
        unstuck = unstuck_beside old new left after on so_far.unstuck;
        beside = beside_then beside;
      }

  -- behind which the session or the patience is at its end
  pub broken_off : IsUnsettled c old.core → (why : SyncFault) → IsOverFor after new.core why → MakesLast mid new left after why → EndsAtCopy c patience after first new why
  broken_off unsettled why is made = judged_off c patience after first new why is (last_turn (IsUnsettled c) patience left after first old new so_far.settles unsettled why (subst (λ (s : State). MakesLast s new left after why) same made))

module _ (c : Copy) (first old new : State) (patience left : ℕ) (so_far : JudgedSoFar c first old patience left) where
  pub opens : is_stale old.core c.pp ≡ true → new.device ≡ old.device → LeavesSession old new → OpenGives (counts_seen old.device old.core) old.core new.core c.lv c.lp c.number (Ok tt)
      → IsOpened c patience left first new × GoesBeside first new patience left
  opens stale same leaves gives =
      let it = opened_so (counts_seen old.device old.core) old.core new.core c.lv c.lp c.number gives in (
        record { judged = old; settles = so_far.settles; stale = stale; may = it.0; its = so_far.may.its; opens = it.1; device = same },
        beside_both first old new patience left left so_far.beside (opened_beside old new left c.lv c.lp c.number it.1 same leaves),
      )

-- ---- it isn't opened

module _ (c : Copy) (first now : State) (patience left : ℕ) (so_far : JudgedSoFar c first now patience left) (why : CopyFault) (stale : is_stale now.core c.pp ≡ true) (fault_is : copy_fault now.core c.lv c.lp c.number ≡ Some why) where
  pub may_refuse : (why ≡ refusal.AlreadyFresh → ⊥) → MayRefuse now.core why
  may_refuse other = by why (refused_so now.core c so_far.may why fault_is) other
    where
      by : (w : CopyFault) → IsRefusedSo now.core c.pp w → (w ≡ refusal.AlreadyFresh → ⊥) → MayRefuse now.core w
      by refusal.AlreadyFresh so differs = differs refl
      by refusal.Dark so differs = so
      by refusal.Off so differs = so
      by refusal.HistoryFull so differs = so
      by (refusal.Missing disk) so differs = tt
      by refusal.NoFresh so differs = tt
      by refusal.Busy so differs = so
      by refusal.NoVolume so differs = so
      by refusal.OutOfRange so differs = so

  pub answers : (answer : Result Opening SyncFault) → IsAnsweredBy c.lp why answer → EndsOr (IsJudged c patience left first now) (EndsAtCopy c patience left first now) answer
  answers answer is = by why fault_is (refused_so now.core c so_far.may why fault_is) is
    where
      Judged : Result Opening SyncFault → Type 0
      Judged = EndsOr (IsJudged c patience left first now) (EndsAtCopy c patience left first now)

      by : (w : CopyFault) → copy_fault now.core c.lv c.lp c.number ≡ Some w → IsRefusedSo now.core c.pp w → IsAnsweredBy c.lp w answer → Judged answer
      by refusal.AlreadyFresh at so it = absurd it
      by refusal.Dark at so it = subst Judged (sym it) (so, inl (inl so_far.settles))
      by refusal.Off at so it = subst Judged (sym it) (so, inl (inl so_far.settles))
      by refusal.HistoryFull at so it = subst Judged (sym it) ((so, so_far.may.none), record { settles = so_far.settles; stale = stale; why_is = at })
      by (refusal.Missing disk) at so it = subst Judged (sym it) (record { settles = so_far.settles; stale = stale; why_is = at }, so_far.may.none)
      by refusal.NoFresh at so it = subst Judged (sym it) ((refl, record { settles = so_far.settles; stale = stale; why_is = at }), so_far.may.none)
      by refusal.Busy at so it = absurd it
      by refusal.NoVolume at so it = absurd it
      by refusal.OutOfRange at so it = absurd it

-- The transfers of a write, first and further, and those of a read, tied.
use Rattle.std.proofs.Common.{◌≡◌, inl, ℕ, ◌≤◌, Bool, true, false, List, Some, refl, sym, ap, subst, ◌∙◌, arith}
use Rattle.std.specs.Prelude.{IsTrue, if◌then◌else◌, nat_le}
use Rattle.lvm_num.specs.Geometry.{sector_of, data_start}
use Rattle.lvm_vol.specs.Facts.{Fact}
use Rattle.lvm_sched.specs.declared.writes.TargetState.TheVariants as target
use Rattle.lvm_path.specs.declared.request.Phase.{Phase}
use Rattle.lvm_path.specs.declared.request.Phase.TheVariants as phase
use Rattle.lvm_path.specs.declared.target.Target.{Target}
use Rattle.lvm_path.specs.Asks.{at_of, is_write}
use Rattle.lvm_path.specs.Targets.{is_begun, with_state}
use Rattle.lvm_path.specs.Next.{with_start}
use Rattle.lvm_session.specs.declared.open.Open.{Open}
use Rattle.lvm_session.specs.State.{State}
use Rattle.lvm_session.specs.Judging.{is_waiting as is_open_waiting, place_of}
use Rattle.lvm_session.specs.Events.{StartsData}
use Rattle.lvm_invariant.specs.State.{Flying, Well, Going, Queued, ModelState, is_past}
use Rattle.lvm_invariant.specs.Updates.{staged}
use Rattle.lvm_num.specs.Descriptor.{is_pp}
use Rattle.lvm_invariant.specs.Transfer.{Restages}
use Rattle.lvm_invariant.specs.Read.{ReadsFromCopy}
use Rattle.lvm_invariant.specs.Events.{Transfer, Read, StartWrite}
use Rattle.lvm_tie.proofs.SeenLemmas.Changing.{stage_after, same_long}
use Rattle.lvm_tie.proofs.TiedLemmas.Orderly.{HasTargets, begun_by, numbers_of, targets_of}
use Rattle.lvm_tie.proofs.TiedLemmas.Tied.{stage_found}
use Rattle.lvm_tie.specs.Seen.{stage_seen, phase_seen, SeesRequest}
use Rattle.lvm_tie.specs.Tied.{IsOrderly, IsTied}
use Rattle.lvm_tie.proofs.StartWriteLemmas.{may_start}
use Rattle.lvm_tie.proofs.OutLemmas.Ties.{started_ties}
use Rattle.lvm_tie.proofs.EndsLemmas.{state_there}

module _ (past : List Fact) (old new : State) (place number : ℕ) (starts : StartsData old new place number) (tied : IsTied past old) (waits : is_open_waiting starts.its.request ≡ true) where
  abbrev o : Open
  o = starts.its.request

  abbrev t : Target
  t = starts.its.aim

  abbrev ts : List Target
  ts = o.request.targets.items

  pub its : HasTargets old.core o
  its = targets_of old tied.write tied.orderly place o starts.its.there waits

  pub low : data_start ≤ starts.flight.first
  low =
      let first : starts.flight.first ≡ t.sector = starts.moves.first in
      let sector : t.sector ≡ sector_of old.core.descriptor.mib t.pp.pp (at_of o.request.ask) = its.sectors number t starts.its.aim_is in
      omega arith

  pub found : (q : Queued) → SeesRequest o q → q.targets t.pp ≡ Some (stage_seen t.state)
  found q sees = sees.targets t.pp ∙ stage_found ts number t its.differ starts.its.aim_is

  -- the request as the state sees it then
  pub sees_started : (q : Queued) → SeesRequest o q → SeesRequest (record o { request = with_start o.request number }) (record q { phase = Going; targets = staged q.targets t.pp Flying })
  sees_started q sees = record {
    lv = sees.lv;
    first = sees.first;
    count = sees.count;
    write = sees.write;
    step = sees.step;
    phase = ap (λ b. phase_seen phase.Data b) (sym (begun_by (with_state ts number target.Flying) number (record t { state = target.Flying }) (state_there ts number t target.Flying starts.its.aim_is) refl));
    several = sees.several ∙ ap (nat_le 2) (sym (same_long ts number target.Flying));
    targets = λ e. ap (λ x. if is_pp e t.pp then Some Flying else x) (sees.targets e) ∙ sym (stage_after ts number t target.Flying its.differ starts.its.aim_is e);
    got = sees.got;
  }

-- the first transfer of a write
pub first_start_ties : (past : List Fact) (old new : State) (place number : ℕ) (starts : StartsData old new place number) (tied : IsTied past old) → is_open_waiting starts.its.request ≡ true
    → is_write starts.its.request.request.ask ≡ true → is_begun starts.its.request.request.targets.items ≡ false → IsOrderly new tied.write → IsTied past new
first_start_ties past old new place number starts tied waits writes early orderly =
    let o : Open = starts.its.request in
    let seen = tied.sees.queue.requests place o starts.its.there in
    let q : Queued = seen.0 in
    let may = may_start past old tied o number starts.its.aim q place starts.its.there writes early starts.its.due starts.its.aim_is seen.1 seen.2 in
    let c = starts.its.aim.pp in
    subst (IsTied past) (sym starts.is)
    (started_ties past old new.device place number o starts.its.aim q (record q { phase = Going; targets = staged q.targets c Flying }) starts.flight new.core.pool tied (numbers_of old tied.write tied.orderly) starts.its.there starts.its.aim_is seen.1 starts.launches.starts
    (low past old new place number starts tied waits) (sees_started past old new place number starts tied waits q seen.2)
    (StartWrite (place_of o.request.id) q c) (may, refl) tt (subst (λ (x : State). IsOrderly x tied.write) starts.is orderly))

-- a further one
pub later_start_ties : (past : List Fact) (old new : State) (place number : ℕ) (starts : StartsData old new place number) (tied : IsTied past old) → is_open_waiting starts.its.request ≡ true
    → is_write starts.its.request.request.ask ≡ true → starts.its.request.request.phase ≡ phase.Data → is_begun starts.its.request.request.targets.items ≡ true → IsOrderly new tied.write → IsTied past new
later_start_ties past old new place number starts tied waits writes moving begun orderly =
    let o : Open = starts.its.request in
    let c = starts.its.aim.pp in
    let i : ℕ = place_of o.request.id in
    let seen = tied.sees.queue.requests place o starts.its.there in
    let q : Queued = seen.0 in
    let sees : SeesRequest o q = seen.2 in
    let v : ModelState = tied.view in
    let going : q.phase ≡ Going = sees.phase ∙ ap (λ (p : Phase). phase_seen p (is_begun o.request.targets.items)) moving ∙ ap (phase_seen phase.Data) begun in
    let same : (record q { targets = staged q.targets c Flying }) ≡ (record q { phase = Going; targets = staged q.targets c Flying }) = λ k. record q { phase = going k; targets = staged q.targets c Flying } in
    let may : Restages v i q c Flying v.media.block = record { started = record { there = seen.1; write = sees.write ∙ writes; going = going }; was = (stage_seen starts.its.aim.state, found past old new place number starts tied waits q sees); media = λ lv b e. inl refl; well = λ is. absurd (let e : Flying ≡ Well = is in cc) } in
    subst (IsTied past) (sym starts.is)
    (started_ties past old new.device place number o starts.its.aim q (record q { targets = staged q.targets c Flying }) starts.flight new.core.pool tied (numbers_of old tied.write tied.orderly) starts.its.there starts.its.aim_is seen.1 starts.launches.starts
    (low past old new place number starts tied waits) (subst (SeesRequest (record o { request = with_start o.request number })) (sym same) (sees_started past old new place number starts tied waits q sees))
    (Transfer i q c Flying v.media.block) (may, refl) tt (subst (λ (x : State). IsOrderly x tied.write) starts.is orderly))

past_either : (b : Bool) → IsTrue (is_past (phase_seen phase.Data b))
past_either true = refl
past_either false = refl

-- one of a read
pub read_start_ties : (past : List Fact) (old new : State) (place number : ℕ) (starts : StartsData old new place number) (tied : IsTied past old) → is_open_waiting starts.its.request ≡ true
    → is_write starts.its.request.request.ask ≡ false → starts.its.request.request.phase ≡ phase.Data → IsOrderly new tied.write → IsTied past new
read_start_ties past old new place number starts tied waits reads moving orderly =
    let o : Open = starts.its.request in
    let c = starts.its.aim.pp in
    let i : ℕ = place_of o.request.id in
    let seen = tied.sees.queue.requests place o starts.its.there in
    let q : Queued = seen.0 in
    let sees : SeesRequest o q = seen.2 in
    let v : ModelState = tied.view in
    let on : IsTrue (is_past q.phase) = ap is_past (sees.phase ∙ ap (λ (p : Phase). phase_seen p (is_begun o.request.targets.items)) moving) ∙ past_either (is_begun o.request.targets.items) in
    let may : ReadsFromCopy v i q c q.got = record { there = seen.1; read = sees.write ∙ reads; past = on; was = (stage_seen starts.its.aim.state, found past old new place number starts tied waits q sees); gets = λ value is. inl is } in
    subst (IsTied past) (sym starts.is)
    (started_ties past old new.device place number o starts.its.aim q (record q { phase = Going; targets = staged q.targets c Flying }) starts.flight new.core.pool tied (numbers_of old tied.write tied.orderly) starts.its.there starts.its.aim_is seen.1 starts.launches.starts
    (low past old new place number starts tied waits) (sees_started past old new place number starts tied waits q sees)
    (Read i q c Flying q.got) (may, refl) tt (subst (λ (x : State). IsOrderly x tied.write) starts.is orderly))

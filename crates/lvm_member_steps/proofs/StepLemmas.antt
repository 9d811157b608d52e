-- When a step may be made, and how it ends.
use Rattle.std.proofs.Common.{◌≡◌, ◌⊎◌, inl, inr, ⊎_elim, ℕ, Bool, true, false, ◌&&◌, not, List, [], ◌∷◌, if◌then◌else◌, refl, sym, ◌∙◌, ap}
use Rattle.std.specs.Prelude.{Option, Result, Ok, Err, IsTrue}
use Rattle.std.proofs.lemmas.Bool.{false≢true}
use Rattle.lvm_num.specs.declared.descriptor.PvRow.{PvRow}
use Rattle.lvm_num.specs.declared.descriptor.Descriptor.{Descriptor}
use Rattle.lvm_num.specs.Disks.{Disks}
use Rattle.lvm_num.specs.Descriptor.{is_member}
use Rattle.lvm_num.specs.Votes.{CanWrite}
use Rattle.lvm_num.specs.Status.{calls_missing}
use Rattle.lvm_disk.specs.Device.{IsReady}
use Rattle.lvm_disk.proofs.CountingLemmas.{none_falls_at_once}
use Rattle.lvm_write.proofs.PartsLemmas.Transfers.{spends_none}
use Rattle.lvm_commit.specs.Settling.{MarksLeft}
use Rattle.lvm_session.specs.State.{State, is_there}
use Rattle.lvm_core.specs.declared.fault.CommitFault.{CommitFault}
use Rattle.lvm_core.specs.declared.fault.CommitFault.TheVariants as fault
use Rattle.lvm_core.specs.Committing.{is_in}
use Rattle.lvm_core.specs.Sound.{IsSoundAtRest}
use Rattle.lvm_change_laws.specs.Rule.{MayChange, staying, unspared}
use Rattle.lvm_change_laws.proofs.StayingLemmas.{staying_member}
use Rattle.lvm_turnover.specs.declared.change.Leaving.{Leaving}
use Rattle.lvm_turnover.specs.Changing.{EndsFrom, IsNext, LeavesWithin, with_descriptor}
use Rattle.lvm_turnover.specs.Turning.{disks_leaving, state_after}
use Rattle.lvm_member_plan.specs.Descriptors.{IsReducedBy}
use Rattle.lvm_member_plan.specs.Steps.{IsStep}
use Rattle.lvm_member_steps.specs.Steps.{StepEnds, HasComeTo, BreaksOff, WentOffAtOnce}
use Rattle.lvm_member_steps.proofs.ComingLemmas.{come_here}
use Rattle.lvm_member_steps.proofs.HoldingLemmas.{step_before, step_fresh, step_still}

-- ---- before it

-- which members are spares doesn't tell which stay
unspared_stay : (leaves : Disks) (rows : List PvRow) → unspared (staying leaves rows) ≡ staying leaves (unspared rows)
unspared_stay leaves [] = refl
unspared_stay leaves (row ∷ rows) = by (leaves row.disk) (unspared_stay leaves rows)
  where
    by : (gone : Bool) → unspared (staying leaves rows) ≡ staying leaves (unspared rows)
        → unspared (if not gone then row ∷ staying leaves rows else staying leaves rows) ≡ (if not gone then record row { spare = false } ∷ staying leaves (unspared rows) else staying leaves (unspared rows))
    by true rest = rest
    by false rest = ap (λ (others : List PvRow). record row { spare = false } ∷ others) rest

pub may_step : (leaving : List ℕ) (group next : Descriptor) (there : Disks) → IsStep leaving group next → CanWrite group there → CanWrite next there → MayChange (is_in leaving) group next there
may_step leaving group next there step enough enough_too = record {
  valid = step.valid;
  valid_next = step.valid_next;
  differs = step.is ∙ (λ t. record group { pvs = pvs_is t; quorum = quorum_is t; even = next.even; big = big_is t });
  members = ap unspared (sym pvs_is) ∙ unspared_stay (is_in leaving) group.pvs;
  near = step.near;
  enough = enough;
  enough_too = enough_too;
  found = by_quorum group.quorum refl;
}
  where
    group_pvs : List PvRow
    group_pvs = staying (is_in leaving) group.pvs

    pvs_is : group_pvs ≡ next.pvs
    pvs_is = sym (ap (λ (g : Descriptor). g.pvs) step.is)

    quorum_is : group.quorum ≡ next.quorum
    quorum_is = sym (ap (λ (g : Descriptor). g.quorum) step.is)

    big_is : group.big ≡ next.big
    big_is = sym (ap (λ (g : Descriptor). g.big) step.is)

    by_quorum : (b : Bool) → group.quorum ≡ b → (next.quorum ≡ true) ⊎ (group.quorum ≡ false) ⊎ ((d : ℕ) → IsTrue (is_member next d) → IsTrue (there d))
    by_quorum true is = inl (sym quorum_is ∙ is)
    by_quorum false is = inr (inl is)

-- ---- how it ends

module _ (leaving : Option Leaving) (next : Descriptor) (p q : ℕ) (old new : State) (ready : IsReady old.device) (step : IsStep (disks_leaving leaving) old.core.descriptor next) where
  abbrev over : State
  over = state_after leaving old

  come_over : (disks : List ℕ) → HasComeTo disks p p old over
  come_over disks = record {
    is = refl;
    descriptor = inl refl;
    entered = [];
    among = λ x is. absurd (false≢true is);
    history = refl;
    before = λ d is. is;
    ready = ready;
    cuts = refl;
    falls = none_falls_at_once old.device.counts;
    spends = spends_none p old.device;
  }

  come_next : (disks : List ℕ) → IsReducedBy disks old.core.descriptor next → HasComeTo disks p p old (with_descriptor next over)
  come_next disks its = record {
    is = refl;
    descriptor = inr its;
    entered = [];
    among = λ x is. absurd (false≢true is);
    history = refl;
    before = λ d is. fewer_by (is_member old.core.descriptor d) (is_in (disks_leaving leaving) d) (not (calls_missing old.core.status.wanted d))
        (ap (λ (b : Bool). b && not (calls_missing old.core.status.wanted d)) (sym (ap (λ (g : Descriptor). is_member g d) step.is ∙ staying_member (is_in (disks_leaving leaving)) d old.core.descriptor.pvs)) ∙ is);
    ready = ready;
    cuts = refl;
    falls = none_falls_at_once old.device.counts;
    spends = spends_none p old.device;
  }
    where
      fewer_by : (m g n : Bool) → (m && not g) && n ≡ true → m && n ≡ true
      fewer_by true false n is = is
      fewer_by true true n is = absurd (false≢true is)
      fewer_by false g n is = absurd (false≢true is)

  went_off : (have total : ℕ) (disks : List ℕ) → IsReducedBy disks old.core.descriptor next → EndsFrom next p old over new (Err (fault.WentOff have total)) → BreaksOff disks p old new (fault.WentOff have total)
  went_off have total disks its (inl it) = record { mid = old; left = p; come = come_here (is_there old.core) disks p old ready; breaks = inl (record { by = old.core.descriptor; has = old.core.descriptor; by_is = inl refl; has_is = inl refl; off = it }) }
  went_off have total disks its (inr (inl it)) = record { mid = old; left = p; come = come_here (is_there old.core) disks p old ready; breaks = inl (record { by = next; has = old.core.descriptor; by_is = inr its; has_is = inl refl; off = it.0 }) }
  went_off have total disks its (inr (inr it)) = record { mid = over; left = p; come = come_over disks; breaks = inl (record { by = next; has = next; by_is = inr its; has_is = inr its; off = it }) }

  pub step_ends : (answer : Result (Unit {0}) CommitFault) → MarksLeft next old.core.status new.core.status → LeavesWithin 3 (IsNext next) [] (disks_leaving leaving) p q old new → IsSoundAtRest new
      → EndsFrom next p old over new answer → StepEnds leaving next p old new answer
  step_ends (Ok done) left leaves sound ends = record {
    settled = ends.settled;
    group = record { valid = sound.fitting.valid; status = sound.fitting.group };
    is = ends.is;
    before = step_before next leaving p q old new step left leaves ends;
    ready = ends.ready;
    cuts = ends.cuts;
    still = step_still next leaving p q old new step left leaves ends;
    fresh = step_fresh next leaving p q old new step left leaves ends;
  }
  step_ends (Err fault.Dark) left leaves sound ends = λ disks its. ⊎_elim
      (λ dark. record { mid = old; left = p; come = come_here (is_there old.core) disks p old ready; breaks = dark })
      (λ dark. record { mid = with_descriptor next over; left = p; come = come_next disks its; breaks = dark })
      ends
  step_ends (Err fault.Stuck) left leaves sound ends = λ disks its. ⊎_elim
      (λ out. record { mid = old; left = p; come = come_here (is_there old.core) disks p old ready; breaks = out })
      (λ out. record { mid = with_descriptor next over; left = p; come = come_next disks its; breaks = out })
      ends
  step_ends (Err (fault.WentOff have total)) left leaves sound ends = λ disks its. went_off have total disks its ends
  step_ends (Err (fault.DiskFailed disk)) left leaves sound ends = λ disks its. absurd ends

  -- nothing was written
  pub at_once : (have total : ℕ) → WentOffAtOnce next have total old new → StepEnds leaving next p old new (Err (fault.WentOff have total))
  at_once have total it disks its = record { mid = old; left = p; come = come_here (is_there old.core) disks p old ready; breaks = inr (next, its, it) }

-- A session in which a write of the status is out is tied.
use Rattle.std.proofs.Common.{◌≡◌, inr, ℕ, zero, suc, ◌<◌, Bool, true, false, ◌&&◌, ◌||◌, ◌==◌, not, Some, length, refl, sym, ap, ◌∙◌, arith, eqb-true}
use Rattle.std.specs.Prelude.{if◌then◌else◌, slice_get}
use Rattle.std.proofs.lemmas.Bool.{ne_eqb}
use Rattle.lvm_num.specs.declared.descriptor.Mode.TheVariants.{Passive}
use Rattle.lvm_num.specs.declared.record.Kind.TheVariants as kind
use Rattle.lvm_num.specs.declared.status.Status.{Status}
use Rattle.lvm_num.specs.Bits.{has_bit}
use Rattle.lvm_num.specs.Disks.{has}
use Rattle.lvm_num.specs.Votes.{votes_by}
use Rattle.lvm_num.specs.Record.{frame}
use Rattle.lvm_num.specs.StatusBytes.{status_bytes}
use Rattle.lvm_num.proofs.DisksLemmas.{has-zero, has-with}
use Rattle.lvm_invariant.specs.First.{two_disks}
use Rattle.lvm_disk.specs.Steps.{Starts}
use Rattle.lvm_status.specs.Update.{Stored, seen}
use Rattle.lvm_status.specs.Calls.{with_update, with_start}
use Rattle.lvm_session.specs.Events.{PutsInFlight, IsStatusWrite, StartsStatus}
use Rattle.lvm_keeps_events.proofs.KeepsLemmas.StatusStart.{status_start_keeps}
use Rattle.lvm_tie.proofs.RecordsLemmas.StatusTies.{status_start_ties}
use Rattle.lvm_tie.specs.Worked.{making, marked, record_write, recording, updated, updating, UpdatingIsTied}
use Rattle.lvm_tie.proofs.WorkedLemmas.Admitted.{admitted_are_tied, dirty_table, marked_is_sound, valid}
use Rattle.lvm_tie.proofs.WorkedLemmas.Seen.{there}

-- ---- sets of disks

first_disk : (d : ℕ) → has 1 d ≡ (d == 0)
first_disk d = has-with 0 0 (omega arith) d ∙ ap (λ (t : Bool). t || d == 0) (has-zero d)

second_disk : (d : ℕ) → has 2 d ≡ (d == 1)
second_disk d = has-with 0 1 (omega arith) d ∙ ap (λ (t : Bool). t || d == 1) (has-zero d)

both_disks : (d : ℕ) → has 3 d ≡ two_disks d
both_disks d = has-with 1 1 (omega arith) d ∙ ap (λ (t : Bool). t || d == 1) (first_disk d)

but_first : (d : ℕ) → (d == 1) ≡ two_disks d && not (d == 0)
but_first d = by (d == 0) (d == 1) refl refl
  where
    by : (a b : Bool) → (d == 0) ≡ a → (d == 1) ≡ b → b ≡ (a || b) && not a
    by true true e f = let none = eqb-true d 0 e in let one = eqb-true d 1 f in absurd (omega (arith, none, one))
    by true false e f = refl
    by false true e f = refl
    by false false e f = refl

-- ---- the update

-- it goes to both disks
abbrev planned : Stored
planned = updated (record { unstarted = 3; started = 0; written = 0; failed = 0 })

put : seen planned ≡ with_update (seen marked.core.status)
put = λ t. record {
  group = planned.group;
  committed = planned.committed;
  wanted = planned.wanted;
  in_flight = planned.in_flight;
  unstarted = λ d. (both_disks d ∙ sym (there Passive false d)) t;
  started = λ d. has-zero d t;
  written = λ d. has-zero d t;
  failed = λ d. has-zero d t;
  stamp = planned.stamp;
}

begins : PutsInFlight marked.core.status planned
begins = inr (record { none = refl; differs = λ e. differ (ap (λ (s : Status). length s.dirty) e) }, put)
  where
    differ : ◌≡◌ {A = ℕ} 1 0 → ⊥
    differ e = absurd (omega (arith, e))

started : seen updating.core.status ≡ with_start (seen planned) (Some 0)
started = λ t. record {
  group = planned.group;
  committed = planned.committed;
  wanted = planned.wanted;
  in_flight = planned.in_flight;
  unstarted = λ d. (second_disk d ∙ but_first d ∙ sym (ap (λ (s : Bool). s && not (d == 0)) (both_disks d))) t;
  started = λ d. has-with 0 0 (omega arith) d t;
  written = has 0;
  failed = has 0;
  stamp = planned.stamp;
}

starts : Starts marked.device recording record_write
starts = record {
  power = refl;
  fresh = tt;
  starts = record { here = record { later = omega arith; risen = omega arith }; once = refl; elsewhere = λ d other. ap (λ (t : Bool). if t then 1 else 0) (ne_eqb d 0 other) };
  wrote = tt;
  new_is = refl;
}

writes : IsStatusWrite updating.core dirty_table 0 record_write
unfolding has
writes = record { disk_is = refl; first = refl; count = refl; write = refl; carries = carried }
  where
    carried : (k : ℕ) → k < 1 → slice_get record_write.buf.sectors k ≡ Some (frame kind.Status updating.core.status.stamp (status_bytes dirty_table) k)
    carried zero low = refl
    carried (suc k) low = absurd (omega (arith, low))

event : StartsStatus marked updating
unfolding votes_by has_bit has
event = record {
  due = refl;
  begun = planned;
  begins = begins;
  disk = 0;
  lowest = (refl, λ other low. absurd (omega (arith, low)));
  started = started;
  status = dirty_table;
  flies = refl;
  flight = record_write;
  writes = writes;
  launches = record { long = refl; taken = record { free = refl; lowest = λ n low. absurd (omega (arith, low)); new_is = refl }; starts = starts };
  is = refl;
}

pub updating_is_tied : UpdatingIsTied
updating_is_tied = status_start_ties (making Passive) marked updating admitted_are_tied.dirty (status_start_keeps marked updating marked_is_sound refl event) valid event

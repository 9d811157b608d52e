-- A session in which the write of a copy is out is tied.
use Rattle.std.proofs.Common.{◌≡◌, ℕ, zero, suc, ◌<◌, Bool, true, false, refl, ap, arith}
use Rattle.std.specs.Prelude.{if◌then◌else◌, slice_get}
use Rattle.std.proofs.lemmas.Bool.{ne_eqb}
use Rattle.lvm_num.specs.declared.descriptor.Mode.TheVariants.{Off}
use Rattle.lvm_num.specs.declared.descriptor.Policy.TheVariants.{Parallel}
use Rattle.lvm_num.specs.Bits.{has_bit}
use Rattle.lvm_num.specs.Disks.{has}
use Rattle.lvm_num.specs.Votes.{votes_by}
use Rattle.lvm_disk.specs.Steps.{Starts}
use Rattle.lvm_vol.specs.Log.{request_of}
use Rattle.lvm_path.specs.declared.target.Target.{Target}
use Rattle.lvm_sched.specs.declared.writes.TargetState.TheVariants as stage
use Rattle.lvm_session.specs.declared.open.Open.{Open}
use Rattle.lvm_session.specs.Calls.{new_open}
use Rattle.lvm_session.specs.Events.{admitted_as, IsDataTransfer, IsDueAt, StartsData}
use Rattle.lvm_keeps_events.proofs.KeepsLemmas.DataStart.{data_start_keeps}
use Rattle.lvm_tie.proofs.StartsLemmas.Datas.{data_start_ties}
use Rattle.lvm_tie.specs.Worked.{making, a_write, targets, admitted, transfer, launched, writing, WritingIsTied}
use Rattle.lvm_tie.proofs.WorkedLemmas.Admitted.{admitted_are_tied, off_is_sound}

-- the write as it was admitted, and its first target
abbrev its : Open
its = admitted_as Parallel Off (targets Off false) (new_open 1 0 a_write 0)

abbrev first : Target
first = record { pp = record { disk = 0; pp = 0 }; sector = 4096; usable = true; moves = false; faults = 0; state = stage.Waiting }

due : IsDueAt (admitted Off false).core 0 0
unfolding votes_by has_bit has
due = record { request = its; there = refl; due = refl; aim = first; aim_is = refl }

starts : Starts (admitted Off false).device launched transfer
starts = record {
  power = refl;
  fresh = tt;
  starts = record { here = record { later = omega arith; risen = omega arith }; once = refl; elsewhere = λ d other. ap (λ (t : Bool). if t then 1 else 0) (ne_eqb d 0 other) };
  wrote = tt;
  new_is = refl;
}

moves : IsDataTransfer (admitted Off false).core its.request first transfer
moves = record { disk_is = refl; first = refl; count = refl; write = refl; carries = λ is. carried }
  where
    carried : (k : ℕ) → k < 1 → slice_get transfer.buf.sectors k ≡ slice_get (request_of (admitted Off false).core.history.facts 1).blocks k
    carried zero low = refl
    carried (suc k) low = absurd (omega (arith, low))

event : StartsData (admitted Off false) writing 0 0
unfolding votes_by has_bit has due
event = record {
  its = due;
  flight = transfer;
  moves = moves;
  launches = record { long = refl; taken = record { free = refl; lowest = λ n low. absurd (omega (arith, low)); new_is = refl }; starts = starts };
  is = refl;
}

pub writing_is_tied : WritingIsTied
writing_is_tied = data_start_ties 0 0 (making Off) (admitted Off false) writing (admitted_are_tied.off false) (data_start_keeps 0 0 (admitted Off false) writing (off_is_sound false) refl event) event

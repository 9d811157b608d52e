-- A call begins.
use Rattle.std.proofs.Common.{◌≡◌, ℕ, List, Bool, length, ◌∙◌, ap}
use Rattle.lvm_memory.specs.Injection.{Injection, due, next_call, begun}
use Rattle.lvm_num.specs.Buffer.{Sector}
use Rattle.lvm_disk.specs.Device.{Flight}
use Rattle.lvm_memory.specs.Tally.{Tallied}
use Rattle.lvm_memory.specs.Sound.{IsSound}
use Rattle.lvm_memory.proofs.InjectionLemmas.{length-after_acts}

-- a call that begins leaves the list of failing disks as long
pub sound_begun :
    (disks : List (List Sector)) (flights : List Flight) (freed flights_room freed_room : ℕ) (power : Bool) (tally : Tallied) (old new : Injection)
    → IsSound disks flights freed flights_room freed_room power tally old → new ≡ begun old → IsSound disks flights freed flights_room freed_room power tally new
sound_begun disks flights freed flights_room freed_room power tally old new sound is = record {
  some = sound.some;
  most = sound.most;
  sectors = sound.sectors;
  lie = sound.lie;
  few = sound.few;
  few_freed = sound.few_freed;
  room = sound.room;
  room_freed = sound.room_freed;
  on = sound.on;
  off = sound.off;
  starts = sound.starts;
  misses = sound.misses;
  faults = sound.faults;
  failing = ap (λ (i : Injection). length i.failing) is ∙ length-after_acts (due (next_call old) old.plan) (record old { calls = next_call old }) ∙ sound.failing;
}

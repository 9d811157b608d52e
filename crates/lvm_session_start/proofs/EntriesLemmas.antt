-- A session that begins with its parts is sound.
use Rattle.std.proofs.Common.{◌≡◌, ◌≤◌, ℕ, zero, suc, Bool, true, false, cond, nat_lt, if◌then◌else◌, List, [], Option, Some, None, length, replicate, slice_index_or, refl, sym, ◌∙◌, ap, subst, arith}
use Rattle.std.specs.Prelude.{is_some, option_and_then}
use Rattle.std.proofs.lemmas.List.{length-replicate}
use Rattle.std.proofs.lemmas.List.Elements.{All-nil}
use Rattle.lvm_num.specs.declared.descriptor.Descriptor.{Descriptor}
use Rattle.lvm_num.specs.declared.record.Stamp.{Stamp}
use Rattle.lvm_num.specs.declared.status.Status.{Status}
use Rattle.lvm_num.specs.Descriptor.{is_member}
use Rattle.lvm_status.specs.passed.Status.{has_row}
use Rattle.lvm_disk.specs.Device.{Device}
use Rattle.lvm_vol.specs.Facts.{On}
use Rattle.lvm_vol.specs.Log.{Log}
use Rattle.lvm_vol.proofs.FactsLemmas.Order.{ordered-push}
use Rattle.lvm_hold.specs.Waiting.{Waiting}
use Rattle.lvm_mwc.specs.declared.notes.DiskNotes.{DiskNotes}
use Rattle.lvm_mwc.specs.Entries.{AreEntries}
use Rattle.lvm_mwc.specs.Cache.{Cached, flight_on, has_disk, no_notes}
use Rattle.lvm_status.specs.Calls.{first_updates}
use Rattle.lvm_status.specs.Runs.{SetStamp, IsSoundStatus}
use Rattle.lvm_status.specs.Update.{Updates, seen}
use Rattle.lvm_status.proofs.RunsLemmas.Sound.{first_is_sound, steps_stay_sound}
use Rattle.lvm_keeps.specs.passed.Rec.{Homes}
use Rattle.lvm_keeps.specs.passed.Session.{Open, Core, state, faults_at_first, IsFitting, IsSound}
use Rattle.lvm_keeps.specs.Begins.{SessionBegins}
use Rattle.lvm_keeps.proofs.BeginsLemmas.{beginning_is_sound}
use Rattle.lvm_keeps.proofs.SoundLemmas.Telling.{open_still}
use Rattle.lvm_session_start.specs.declared.parts.Parts.{Parts}
use Rattle.lvm_session_start.specs.Parts.{IsEmptyCache, IsReserved}
use Rattle.lvm_session_start.specs.Beginning.{AreFaults, MayBeginSession, first_core}

-- ---- an empty cache

pub no_entries : AreEntries []
no_entries = record { most = omega arith; differ = tt; counting = All-nil _ }

pub notes_fit : (d : Descriptor) (c : Cached) → IsEmptyCache d c → (disk : ℕ) → has_disk c disk ≡ is_member d disk
notes_fit d c empty disk = ap (λ (o : Option DiskNotes). is_some o) (empty.notes disk) ∙ by_test (is_member d disk)
  where
    by_test : (b : Bool) → is_some (cond b (Some (no_notes disk)) None) ≡ b
    by_test true = refl
    by_test false = refl

none_flies : (d : Descriptor) (c : Cached) → IsEmptyCache d c → (disk : ℕ) → flight_on c disk ≡ None
none_flies d c empty disk = ap (λ (o : Option DiskNotes). option_and_then (λ (n : DiskNotes). n.flight) o) (empty.notes disk) ∙ by_test (is_member d disk)
  where
    by_test : (b : Bool) → option_and_then (λ (n : DiskNotes). n.flight) (cond b (Some (no_notes disk)) None) ≡ None
    by_test true = refl
    by_test false = refl

-- ---- the faults by then

-- none is asked yet
pub none_asked : (count : ℕ → ℕ) (disk : ℕ) → ◌≡◌ {A = ℕ} (slice_index_or (replicate 128 0) disk 0) (if nat_lt disk 0 then count disk else 0)
none_asked count disk = zeros 128 disk ∙ sym (ap (λ b. if b then count disk else 0) (below disk))
  where
    zeros : (n k : ℕ) → ◌≡◌ {A = ℕ} (slice_index_or (replicate n 0) k 0) 0
    zeros zero k = refl
    zeros (suc n) zero = refl
    zeros (suc n) (suc k) = zeros n k

    below : (n : ℕ) → nat_lt n 0 ≡ false
    below n = grind (arith)

-- ---- the session

-- it has as many buffers as its room says
pub pool_size : (p : Parts) → IsReserved p.descriptor p.table p.room p → length p.pool ≡ p.room.pool
pool_size p its = ap length its.pool ∙ length-replicate p.room.pool false

module _ (device : Device) (history : Log) (stamp : Stamp) (homes : Homes) (p : Parts) (may : MayBeginSession device history stamp homes p) (faults : List ℕ) (are : AreFaults device faults) where
  abbrev core : Core
  core = first_core p history stamp homes faults

  its : IsReserved p.descriptor p.table p.room p
  its = may.reserved

  buffers : length p.pool ≡ p.room.pool
  buffers = pool_size p its

  fitting : IsFitting core
  fitting = record {
    valid = may.valid;
    id = ap (λ (u : Updates). u.wanted.id) its.status ∙ may.group.id;
    rows = λ disk. ap (λ (x : Status). has_row x disk) (ap (λ (u : Updates). u.wanted) its.status) ∙ may.group.rows disk;
    group = ap (λ (u : Updates). u.group) its.status;
    entries = subst AreEntries (sym its.cache.entries) no_entries;
    notes = notes_fit p.descriptor p.cache its.cache;
    table = subst (λ (os : List Open). length os ≤ p.room.table) (sym its.requests) (omega arith);
    most = may.room.requests;
    queue = ap (λ (w : Waiting). w.room) its.queue;
    a_buffer = subst (λ n. 1 ≤ n) (sym buffers) may.room.a_buffer;
    buffers = subst (λ n. n ≤ 1024) (sym buffers) may.room.buffers;
    last = length-replicate {A = ℕ} 512 0;
    room = may.few;
  }

  status_sound : IsSoundStatus (seen core.status)
  status_sound = subst (λ (u : Updates). IsSoundStatus (record u { stamp = stamp })) (sym its.status)
      (steps_stay_sound (SetStamp stamp) (first_updates p.table p.descriptor) (record (first_updates p.table p.descriptor) { stamp = stamp }) (first_is_sound p.table p.descriptor) (refl, refl))

  few_faults : (disk : ℕ) → faults_at_first core disk ≤ device.counts.faults disk
  few_faults disk = subst (λ n. n ≤ device.counts.faults disk) (sym (are.each disk)) (by_test (nat_lt disk (length device.sizes)))
    where
      by_test : (b : Bool) → (if b then device.counts.faults disk else 0) ≤ device.counts.faults disk
      by_test true = omega arith
      by_test false = omega arith

  begins : SessionBegins (state device core)
  begins = record {
    fitting = fitting;
    ordered = ordered-push history.run [] history.facts (On stamp.epoch) may.ordered tt;
    landed = λ id. open_still history.facts (On stamp.epoch) refl id refl ∙ may.landed id;
    unused = record {
      requests = its.requests;
      rows = ap (λ (w : Waiting). w.rows) its.queue;
      copy = refl;
      pool = its.pool ∙ ap (λ n. replicate n false) (sym buffers);
      flying = its.flying;
      entries = its.cache.entries;
      started = λ disk. ap (λ (u : Updates). u.started disk) its.status;
      notes = none_flies p.descriptor p.cache its.cache;
    };
    calm = record {
      sound = status_sound;
      committed = ap (λ (u : Updates). u.committed) its.status;
      wanted = ap (λ (u : Updates). u.wanted) its.status;
      in_flight = ap (λ (u : Updates). u.in_flight) its.status;
    };
    power = refl;
    lit = may.lit;
    idle = may.idle;
    placed = may.placed;
    faults = few_faults;
    votes = may.votes;
    behind = may.behind;
    numbers = may.numbers;
  }

  pub is_sound : IsSound (state device core)
  is_sound = beginning_is_sound (state device core) begins

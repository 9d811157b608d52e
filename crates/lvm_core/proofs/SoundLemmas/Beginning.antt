-- A session that starts is sound.
use Rattle.std.proofs.Common.{◌≡◌, ◌≤◌, ℕ, false, List, length, replicate, refl, sym, ◌∙◌, ap, subst}
use Rattle.std.proofs.lemmas.List.{length-replicate}
use Rattle.lvm_num.specs.declared.record.Stamp.{Stamp}
use Rattle.lvm_num.specs.declared.status.Status.{Status}
use Rattle.lvm_disk.specs.Device.{Device, IsReady}
use Rattle.lvm_vol.specs.Facts.{On}
use Rattle.lvm_vol.specs.Log.{Log}
use Rattle.lvm_status.specs.Table.{has_row}
use Rattle.lvm_session_start.specs.passed.Hold.{Waiting}
use Rattle.lvm_mwc.specs.Entries.{AreEntries}
use Rattle.lvm_status.specs.Update.{Updates}
use Rattle.lvm_rec.specs.declared.homes.Homes.{Homes}
use Rattle.lvm_session.specs.declared.open.Power.TheVariants as power
use Rattle.lvm_session.specs.State.{Core, state}
use Rattle.lvm_session.specs.Placed.{ArePlaced}
use Rattle.lvm_session_start.specs.declared.parts.Parts.{Parts}
use Rattle.lvm_session_start.specs.Parts.{IsReserved}
use Rattle.lvm_session_start.specs.Beginning.{first_core}
use Rattle.lvm_session_start.proofs.EntriesLemmas.{notes_fit, pool_size}
pub use Rattle.lvm_session_start.proofs.EntriesLemmas.{no_entries}
use Rattle.lvm_core.specs.Sound.{HaveAllLanded, IsFittingAtRest, IsSoundAtRest}
use Rattle.lvm_core.specs.Starting.{AreReserved}
use Rattle.lvm_core.proofs.SoundLemmas.Dark.{landed_still}
use Rattle.lvm_core.proofs.SoundLemmas.Own.{sound_ready}

module _ (device : Device) (p : Parts) (history : Log) (stamp : Stamp) (homes : Homes) (faults : List ℕ) (are : AreReserved p) where
  abbrev core : Core
  core = first_core p history stamp homes faults

  its : IsReserved p.descriptor p.table p.room p
  its = are.reserved

  buffers : length p.pool ≡ p.room.pool
  buffers = pool_size p its

  fits_first : IsFittingAtRest core
  fits_first = record {
    valid = are.valid;
    id = ap (λ (u : Updates). u.wanted.id) its.status ∙ are.group.id;
    rows = λ disk. ap (λ (x : Status). has_row x disk) (ap (λ (u : Updates). u.wanted) its.status) ∙ are.group.rows disk;
    group = ap (λ (u : Updates). u.group) its.status;
    entries = subst AreEntries (sym its.cache.entries) no_entries;
    notes = notes_fit p.descriptor p.cache its.cache;
    most = are.room.requests;
    queue = ap (λ (w : Waiting). w.room) its.queue;
    a_buffer = subst (λ n. 1 ≤ n) (sym buffers) are.room.a_buffer;
    buffers = subst (λ n. n ≤ 1024) (sym buffers) are.room.buffers;
    last = length-replicate {A = ℕ} 512 0;
    forgotten = λ none disk. (ap (λ (u : Updates). u.unstarted disk) its.status, ap (λ (u : Updates). u.started disk) its.status, ap (λ (u : Updates). u.written disk) its.status, ap (λ (u : Updates). u.failed disk) its.status);
  }

  pub sound_first : HaveAllLanded history.facts → IsReady device → ArePlaced device.sizes p.descriptor p.updater.wanted → IsSoundAtRest (state device core)
  sound_first landed ready placed = sound_ready device core fits_first
      (record { requests = its.requests; copy = refl })
      (landed_still history.facts (On stamp.epoch) refl (λ id. refl) landed)
      placed
      (its.pool ∙ ap (λ n. replicate n false) (sym buffers))
      refl
      (λ stuck. absurd (let e : power.On ≡ power.Stuck = stuck in cc))
      ready

-- A session that starts may be told to commit something.
use Rattle.std.proofs.Common.{◌≡◌, ◌≢◌, ℕ, ◌≤◌, List, Bool, true, false, not, Some, None, length, replicate, refl, sym, ◌∙◌, ap, subst, arith}
use Rattle.std.specs.Prelude.{if◌then◌else◌, option_and_then}
use Rattle.std.proofs.lemmas.List.{length-replicate}
use Rattle.std.proofs.lemmas.List.Sums.{count_by-le-length}
use Rattle.lvm_num.specs.declared.descriptor.PvRow.{PvRow}
use Rattle.lvm_num.specs.declared.descriptor.Descriptor.{Descriptor}
use Rattle.lvm_num.specs.declared.record.Stamp.{Stamp}
use Rattle.lvm_num.specs.declared.status.Status.{Status}
use Rattle.lvm_num.specs.Descriptor.{IsValid, is_member, most_members}
use Rattle.lvm_num.specs.Status.{calls_missing}
use Rattle.lvm_num.specs.Votes.{CanWrite}
use Rattle.lvm_num.proofs.DescriptorLemmas.Bounds.{few_members}
use Rattle.lvm_vol.specs.Log.{Log}
use Rattle.lvm_mwc.specs.declared.notes.DiskNotes.{DiskNotes}
use Rattle.lvm_mwc.specs.Cache.{no_notes}
use Rattle.lvm_status.specs.Update.{Updates, members_there}
use Rattle.lvm_rec.specs.declared.homes.Homes.{Homes}
use Rattle.lvm_core.specs.declared.parts.Room.{Room}
use Rattle.lvm_core.specs.Sound.{HasNothingUnderWay}
use Rattle.lvm_core.specs.Settled.{IsSettled, HasSpareNumbers}
use Rattle.lvm_session_start.specs.declared.parts.Parts.{Parts}
use Rattle.lvm_core.specs.Starting.{IsReservedFor}
use Rattle.lvm_session_start.specs.Beginning.{first_core}

module _ (d : Descriptor) (s : Status) (room : Room) (r : Parts) (log : Log) (stamp : Stamp) (homes : Homes) (faults : List ℕ) (reserved : IsReservedFor d s room r) where
  -- an empty note has none in flight
  none_out : (disk : ℕ) (b : Bool) → option_and_then (λ (n : DiskNotes). n.flight) (if b then Some (no_notes disk) else None) ≡ None
  none_out disk true = refl
  none_out disk false = refl

  -- nothing is under way
  pub starts_quiet : HasNothingUnderWay (first_core r log stamp homes faults)
  starts_quiet = record {
    requests = reserved.requests;
    copy = refl;
    status = ap (λ (u : Updates). u.in_flight) reserved.status;
    notes = λ disk. ap (option_and_then (λ (n : DiskNotes). n.flight)) (reserved.cache.notes disk) ∙ none_out disk (is_member d disk);
    buffers = reserved.pool ∙ ap (λ n. replicate n false) (sym (ap length reserved.pool ∙ length-replicate room.pool false));
  }

  pub starts_settled : stamp.epoch ≢ 0 → CanWrite d (members_there d s) → IsSettled (first_core r log stamp homes faults)
  starts_settled epoch votes = record {
    power = refl;
    quiet = starts_quiet;
    committed = ap (λ (u : Updates). u.committed) reserved.status ∙ sym (ap (λ (u : Updates). u.wanted) reserved.status);
    epoch = epoch;
    votes = subst (λ (g : Descriptor). CanWrite g (members_there g r.updater.wanted)) (sym reserved.descriptor)
        (subst (λ (t : Status). CanWrite d (members_there d t)) (sym (ap (λ (u : Updates). u.wanted) reserved.status)) votes);
  }

  pub starts_numbered : IsValid d → stamp.seq ≤ 2 → HasSpareNumbers (first_core r log stamp homes faults)
  starts_numbered valid low =
      let few = count_by-le-length (λ (row : PvRow). not (calls_missing r.updater.wanted row.disk)) r.updater.group.pvs in
      let members : length r.updater.group.pvs ≤ most_members d.big = subst (λ (g : Descriptor). length g.pvs ≤ most_members d.big) (sym (ap (λ (u : Updates). u.group) reserved.status)) valid.head.members in
      let most = few_members d.big in
      omega (arith, few, members, most, low)

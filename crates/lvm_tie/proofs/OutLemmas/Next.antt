-- The next update may be written where only data has changed.
use Rattle.std.proofs.Common.{◌≡◌, ℕ, ◌+◌, ◌<◌, ◌≤◌, sym, ◌∙◌, arith}
use Rattle.lvm_num.specs.declared.descriptor.Descriptor.{Descriptor}
use Rattle.lvm_num.specs.declared.record.Kind.TheVariants as kind
use Rattle.lvm_num.specs.Record.{slot_size, slot_start}
use Rattle.lvm_num.specs.StatusBytes.{status_of}
use Rattle.lvm_num.specs.Torn.{Sectors}
use Rattle.lvm_num.proofs.RecordLemmas.Records.{joined-same}
use Rattle.lvm_rec.specs.Slots.{held, slot_for, slot_of, slot_to_write}
use Rattle.lvm_disk.specs.Device.{Image, IsWholeImage}
use Rattle.lvm_kept.specs.Places.{SameRecords}
use Rattle.lvm_steps.proofs.LawsLemmas.Writes.{data_keeps_before}
use Rattle.lvm_commit.specs.Committed.{next_stamp}
use Rattle.lvm_status.specs.Update.{Stored}
use Rattle.lvm_rec.specs.declared.homes.Homes.{Homes}
use Rattle.lvm_tie.specs.Out.{MayUpdate}

slot_for_same : (old new : Sectors) → ((s : ℕ) → slot_start kind.Status 0 ≤ s → s < slot_start kind.Status 1 + slot_size kind.Status → new s ≡ old s) → slot_for status_of kind.Status new ≡ slot_for status_of kind.Status old
slot_for_same old new same =
    let first : slot_of kind.Status 0 new ≡ slot_of kind.Status 0 old = joined-same new old (slot_start kind.Status 0) (slot_size kind.Status) (λ s from to. same s (omega arith) (omega arith)) in
    let second : slot_of kind.Status 1 new ≡ slot_of kind.Status 1 old = joined-same new old (slot_start kind.Status 1) (slot_size kind.Status) (λ s from to. same s (omega arith) (omega arith)) in
    λ t. slot_to_write (held status_of kind.Status (first t)) (held status_of kind.Status (second t))

pub next_by_data : (group : Descriptor) (status : Stored) (homes : Homes) (old new : Image) → IsWholeImage new → SameRecords old new → MayUpdate group status homes old → MayUpdate group status homes new
next_by_data group status homes old new whole same may = record {
  some_epoch = may.some_epoch;
  epoch = may.epoch;
  whole = whole;
  before = data_keeps_before (next_stamp status.stamp) old new (record { same = same.same; sectors = λ d s has low. same.sectors d s low }) may.before;
  spare = λ d there owed. may.spare d there owed ∙ sym (slot_for_same (old.sector d) (new.sector d) (λ s from to. same.sectors d s (omega arith)));
}

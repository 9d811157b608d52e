-- Which slot comes next stays where the sectors of both do.
use Rattle.std.proofs.Common.{◌≡◌, ℕ, ◌+◌, ◌<◌, ◌≤◌, List, Result, arith}
use Rattle.lvm_num.specs.declared.record.Kind.{Kind}
use Rattle.lvm_num.specs.Record.{slot_start, slot_size}
use Rattle.lvm_num.specs.Torn.{Sectors}
use Rattle.lvm_num.proofs.RecordLemmas.Records.{joined-same}
use Rattle.lvm_rec.specs.Slots.{held, slot_of, slot_to_write, slot_for}

-- where the sectors of both slots are the same, so is the slot that comes next
pub slot_for_same : {X : Type 0} (content_of : List ℕ → Result X ℕ) (kind : Kind) (old new : Sectors)
    → ((slot s : ℕ) → slot < 2 → slot_start kind slot ≤ s → s < slot_start kind slot + slot_size kind → new s ≡ old s) → slot_for content_of kind new ≡ slot_for content_of kind old
slot_for_same content_of kind old new same =
    let first : slot_of kind 0 new ≡ slot_of kind 0 old = joined-same new old (slot_start kind 0) (slot_size kind) (λ s from to. same 0 s (omega arith) from to) in
    let second : slot_of kind 1 new ≡ slot_of kind 1 old = joined-same new old (slot_start kind 1) (slot_size kind) (λ s from to. same 1 s (omega arith) from to) in
    λ t. slot_to_write (held content_of kind (first t)) (held content_of kind (second t))

use Rattle.std.proofs.Common.{◌≡◌, ℕ, List, Some, sym, subst, ◌∙◌}
use Rattle.lvm_num.specs.Record.{record_in}
use Rattle.lvm_rec.proofs.RecordLemmas.Slot.{no_record, held_record, other_record}
use Rattle.lvm_rec.proofs.frames.read_slot.Goals as goal

pub returns-in_default : goal.returns-in_default
returns-in_default c = no_record c.args.kind c.args.bytes.now c.type_inv.bytes c.in_default.ensures.none

pub returns-then-not-begins_with : goal.returns-then-not-begins_with
returns-then-not-begins_with c =
    other_record c.args.kind c.args.bytes.now c.in-Some.stamp c.in-Some.len c.deref.result.now c.type_inv.bytes c.in-Some.ensures.may
    (c.deref.ensures.value ∙ c.in_ok-content.ensures)
    (λ front. absurd cc (sym c.if-not-begins_with.true ∙ c.begins_with.ensures.1 front))

pub returns : goal.returns
returns c = subst (λ (x : List ℕ). Some (record { stamp = c.in-Some.stamp; content = x }) ≡ record_in c.args.kind c.args.bytes.now) (c.deref.ensures.value ∙ sym c.new.ensures)
    (held_record c.args.kind c.args.bytes.now c.in-Some.stamp c.in-Some.len c.deref.result.now c.in-Some.ensures.may
    (c.deref.ensures.value ∙ c.in_ok-content.ensures)
    (c.begins_with.ensures.0 c.if-not-begins_with.false))

use Rattle.std.proofs.Common.{ℕ, not, slice_get, ap, subst, ◌∙◌}
use Rattle.std.specs.Prelude.{◌==◌}
use Rattle.lvm_num.specs.Buffer.{Buffer, zero_sector}
use Rattle.lvm_transfer.specs.declared.moves.Moved.TheVariants as moved
use Rattle.lvm_write.specs.Parts.{DoesPart}
use Rattle.lvm_write.proofs.NotesLemmas.{first_put}
use Rattle.lvm_write.proofs.PartsLemmas.Transfers.{part_then, not_done}
use Rattle.lvm_erase.specs.Erasing.{slot_number, ZeroesSlots, IsErased}
use Rattle.lvm_erase.proofs.ErasingLemmas.{below_two, first_in_order, both_in_order}
use Rattle.lvm_erase.proofs.erase.erase_descriptor.Goals as goal

pub zero_slot-requires-clause-zeros : goal.zero_slot-requires-clause-zeros
zero_slot-requires-clause-zeros g c = ap (λ (b : Buffer). slice_get b.sectors 0) c.set_sector.ensures.set ∙ first_put c.args.buf.sectors zero_sector c.set_sector.ensures.length

pub zero_slot-requires-in-Done-clause-zeros : goal.zero_slot-requires-in-Done-clause-zeros
zero_slot-requires-in-Done-clause-zeros g c =
    ap (λ (b : Buffer). slice_get b.sectors 0) c.in-Done.ensures.back ∙ ap (λ (b : Buffer). slice_get b.sectors 0) c.set_sector.ensures.set ∙ first_put c.args.buf.sectors zero_sector c.set_sector.ensures.length

pub returns-in-Done-clause-part : goal.returns-in-Done-clause-part
returns-in-Done-clause-part g c =
    let disk = c.args.disk in
    let old = g.S.Shelf.device c.args.shelf.now in
    let mid = g.S.Shelf.device c.zero_slot.new.shelf in
    part_then (λ d. d == disk) (ZeroesSlots disk) disk c.args.buf.number c.args.patience.now.left c.zero_slot.new.patience.left c.zero_slot-in-Done.new.patience.left old mid (g.S.Shelf.device c.zero_slot-in-Done.new.shelf) c.in-Done.back c.zero_slot-in-Done.result
    (subst (λ (n : ℕ). DoesPart (λ d. d == disk) (ZeroesSlots disk) disk n c.args.patience.now.left c.zero_slot.new.patience.left old mid (moved.Done c.in-Done.back)) (ap (λ (b : Buffer). b.number) c.set_sector.ensures.set) c.in-Done.ensures.part)
    c.zero_slot-in-Done.ensures.part

pub returns-in-Done-clause-order : goal.returns-in-Done-clause-order
returns-in-Done-clause-order g c =
    let second = c.args.second_is_older in
    both_in_order c.args.disk (slot_number second) (slot_number (not second)) (g.S.Shelf.device c.args.shelf.now) (g.S.Shelf.device c.zero_slot.new.shelf) (g.S.Shelf.device c.zero_slot-in-Done.new.shelf)
    (below_two second) (below_two (not second)) c.in-Done.ensures.part.keeps c.in-Done.ensures.stands c.in-Done.ensures.alone c.zero_slot-in-Done.ensures.alone

pub returns-in_default : goal.returns-in_default
returns-in_default g c =
    let disk = c.args.disk in
    let old = g.S.Shelf.device c.args.shelf.now in
    let new = g.S.Shelf.device c.zero_slot.new.shelf in
    record {
      part = subst (λ (n : ℕ). DoesPart (λ d. d == disk) (ZeroesSlots disk) disk n c.args.patience.now.left c.zero_slot.new.patience.left old new c.zero_slot.result) (ap (λ (b : Buffer). b.number) c.set_sector.ensures.set) c.zero_slot.ensures.part;
      erased = not_done c.zero_slot.result (λ (back : Buffer). IsErased disk new) c.in_default.not-Done;
      order = first_in_order disk (slot_number c.args.second_is_older) old new c.zero_slot.ensures.alone;
    }

use Rattle.std.proofs.Common.{◌≡◌, ◌<◌, ◌≤◌, sym, Some, None, length, arith}
use Rattle.std.proofs.lemmas.Bool.{eqb-true, eqb-false}
use Rattle.std.specs.List.{position, remove}
use Rattle.lvm_mwc.specs.Entries.{is_entry, is_unpinned}
use Rattle.lvm_mwc.proofs.FirstsLemmas.{looked_for}
use Rattle.lvm_mwc.proofs.EntriesLemmas.Entries.{few_left, room_own, room_free, room_put_out, room_none}
use Rattle.lvm_mwc.proofs.entries.make_room.Goals as goal

pub returns-in-Some : goal.returns-in-Some
returns-in-Some c =
    let es = c.args.entries.now.items in
    let at : position (is_entry c.args.lv c.args.group) es ≡ Some c.in-Some.place = looked_for (is_entry c.args.lv c.args.group) es c.deref.result.now (Some c.in-Some.place) c.deref.ensures.0 c.in-Some.ensures in
    let few : length (remove es c.in-Some.place) < 62 = few_left es c.deref.result.now c.remove.new.self.items c.in-Some.place c.deref.ensures.0 c.deref.ensures.1 c.remove.ensures.items c.remove.ensures.len in
    rw c.remove.ensures.items (room_own es c.args.lv c.args.group c.in-Some.place c.remove.result at c.remove.ensures.value few)

pub returns-in_err-place : goal.returns-in_err-place
returns-in_err-place c =
    let es = c.args.entries.now.items in
    let at : position (is_entry c.args.lv c.args.group) es ≡ None = looked_for (is_entry c.args.lv c.args.group) es c.deref.result.now None c.deref.ensures.0 c.in_default.ensures in
    let unpinned : position is_unpinned es ≡ None = looked_for is_unpinned es c.deref-then-is_full.result.now None c.deref-then-is_full.ensures.0 c.in_err-place.ensures in
    let full : length es ≡ 62 = eqb-true (length es) 62 (sym c.if-is_full.ensures.value) in
    rw c.from_residual.ensures (room_none es c.args.lv c.args.group at full unpinned)

pub returns-in_ok-place : goal.returns-in_ok-place
returns-in_ok-place c =
    let es = c.args.entries.now.items in
    let at : position (is_entry c.args.lv c.args.group) es ≡ None = looked_for (is_entry c.args.lv c.args.group) es c.deref.result.now None c.deref.ensures.0 c.in_default.ensures in
    let unpinned : position is_unpinned es ≡ Some c.in_ok-place.place = looked_for is_unpinned es c.deref-then-is_full.result.now (Some c.in_ok-place.place) c.deref-then-is_full.ensures.0 c.in_ok-place.ensures in
    let full : length es ≡ 62 = eqb-true (length es) 62 (sym c.if-is_full.ensures.value) in
    let few : length (remove es c.in_ok-place.place) < 62 = few_left es c.deref.result.now c.remove-then-is_full.new.self.items c.in_ok-place.place c.deref.ensures.0 c.deref.ensures.1 c.remove-then-is_full.ensures.items c.remove-then-is_full.ensures.len in
    rw c.remove-then-is_full.ensures.items (room_put_out es c.args.lv c.args.group c.in_ok-place.place at (omega arith) (omega arith) unpinned few c.remove-then-is_full.result)

pub returns-else-is_full : goal.returns-else-is_full
returns-else-is_full c =
    let es = c.args.entries.now.items in
    let at : position (is_entry c.args.lv c.args.group) es ≡ None = looked_for (is_entry c.args.lv c.args.group) es c.deref.result.now None c.deref.ensures.0 c.in_default.ensures in
    let most : length es ≤ 62 = c.is_full.ensures.fits in
    let not_full : length es ≡ 62 → ⊥ = eqb-false (length es) 62 (sym c.if-is_full.ensures.value) in
    room_free es c.args.lv c.args.group at (omega (arith, most, not_full))

use Rattle.std.proofs.Common.{◌≡◌, ◌<◌, ◌+◌, ◌^◌, ◌∙◌, refl, sym, get_or, arith}
use Rattle.lvm_mwc.specs.Entries.{is_entry, pins_of}
use Rattle.lvm_mwc.specs.Filled.{blank}
use Rattle.lvm_mwc.proofs.EntriesLemmas.Entries.{pins_there}
use Rattle.lvm_mwc.proofs.FilledLemmas.{answer_at, pinned_there, takes, takes_none}
use Rattle.lvm_mwc.proofs.FirstsLemmas.{none_at}
use Rattle.lvm_mwc.proofs.filled.Filled.pin.Goals as goal

pub move_to_end-requires-clause-room : goal.move_to_end-requires-clause-room
move_to_end-requires-clause-room c =
    let had : (get_or c.args.self.now c.in-Some.place blank).pins ≡ pins_of c.args.self.now c.args.lv c.args.group = pins_there c.args.self.now c.args.self.now c.args.lv c.args.group c.in-Some.place blank refl (sym c.in-Some.ensures.place) in
    let low : (get_or c.args.self.now c.in-Some.place blank).pins + 1 < 2 ^ 32 = omega (arith, had, c.requires.room) in
    low

pub returns-in-Some-clause-answer : goal.returns-in-Some-clause-answer
returns-in-Some-clause-answer c = answer_at c.args.self.now c.args.lv c.args.group c.in-Some.place (sym c.in-Some.ensures.place)

pub returns-in-Some-clause-pinned : goal.returns-in-Some-clause-pinned
returns-in-Some-clause-pinned c = c.move_to_end.ensures ∙ pinned_there c.args.self.now c.args.lv c.args.group c.in-Some.place (sym c.in-Some.ensures.place)

pub put_for-requires-clause-new : goal.put_for-requires-clause-new
put_for-requires-clause-new c = (none_at (is_entry c.args.lv c.args.group) c.args.self.now (sym c.in_default.ensures.place)).any

pub returns-in-None-clause-answer : goal.returns-in-None-clause-answer
returns-in-None-clause-answer c = (takes_none c.args.self.now c.args.lv c.args.group (sym c.in_default.ensures.place) (sym c.in-None.ensures)).answer

pub returns-in-None-clause-pinned : goal.returns-in-None-clause-pinned
returns-in-None-clause-pinned c = (takes_none c.args.self.now c.args.lv c.args.group (sym c.in_default.ensures.place) (sym c.in-None.ensures)).same

pub returns-in_ok-put_for-in-Some-place_to_take-clause-answer : goal.returns-in_ok-put_for-in-Some-place_to_take-clause-answer
returns-in_ok-put_for-in-Some-place_to_take-clause-answer c = (takes c.args.self.now c.args.lv c.args.group c.in-Some-place_to_take.place (sym c.in_default.ensures.place) (sym c.in-Some-place_to_take.ensures)).answer

pub returns-in_ok-put_for-in-Some-place_to_take-clause-pinned : goal.returns-in_ok-put_for-in-Some-place_to_take-clause-pinned
returns-in_ok-put_for-in-Some-place_to_take-clause-pinned c = c.in_ok-put_for-in-Some-place_to_take.ensures.done ∙ (takes c.args.self.now c.args.lv c.args.group c.in-Some-place_to_take.place (sym c.in_default.ensures.place) (sym c.in-Some-place_to_take.ensures)).done

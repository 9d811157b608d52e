use Rattle.std.proofs.Common.{◌≡◌, ◌∙◌, arith}
use Rattle.lvm_mwc.specs.Entries.{pins_of}
use Rattle.lvm_mwc.proofs.FormsLemmas.{answer_map, pin_map, pins_map, still_map}
use Rattle.lvm_mwc.proofs.forms.Entries.pin.Goals as goal

pub pin-requires : goal.pin-requires
pin-requires c =
    let same : pins_of c.self.inside.filled c.args.lv c.args.group ≡ pins_of c.args.self.now c.args.lv c.args.group = pins_map c.self.inside.is_plain c.self.inside.plain.items c.self.inside.filled c.args.self.now c.self.view_is c.if-self.false c.args.lv c.args.group c.requires.volume in
    record { room = omega (arith, same, c.requires.room) }

pub returns-in-Ok-clause-answer : goal.returns-in-Ok-clause-answer
returns-in-Ok-clause-answer c = answer_map c.self.inside.is_plain c.self.inside.plain.items c.self.inside.filled c.args.self.now c.self.view_is c.if-self.false c.args.lv c.args.group c.in-Ok.pin c.requires.volume c.in-Ok.ensures.full c.in-Ok.ensures.answer

pub returns-in-Ok-clause-entries : goal.returns-in-Ok-clause-entries
returns-in-Ok-clause-entries c =
    still_map c.self.inside.is_plain c.self.inside.plain.items c.self.inside.filled c.args.self.now c.self.view_is c.if-self.false c.pin.new.self
    ∙ pin_map c.self.inside.is_plain c.self.inside.plain.items c.self.inside.filled c.args.self.now c.self.view_is c.if-self.false c.args.lv c.args.group c.pin.new.self c.requires.volume c.in-Ok.ensures.full c.in-Ok.ensures.pinned

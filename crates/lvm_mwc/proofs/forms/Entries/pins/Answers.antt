use Rattle.std.proofs.Common.{◌∙◌}
use Rattle.lvm_mwc.proofs.FormsLemmas.{pins_map, pins_zero}
use Rattle.lvm_mwc.proofs.forms.Entries.pins.Goals as goal

pub returns-then-lv-eq0 : goal.returns-then-lv-eq0
returns-then-lv-eq0 c = pins_zero c.self.inside.is_plain c.self.inside.plain.items c.self.inside.filled c.args.self.now c.self.view_is c.if-self.false c.args.lv c.args.group c.if-lv-eq0.true

pub returns-else-lv-eq0 : goal.returns-else-lv-eq0
returns-else-lv-eq0 c = c.pins.ensures ∙ pins_map c.self.inside.is_plain c.self.inside.plain.items c.self.inside.filled c.args.self.now c.self.view_is c.if-self.false c.args.lv c.args.group c.if-lv-eq0.false

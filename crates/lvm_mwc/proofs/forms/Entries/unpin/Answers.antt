use Rattle.std.proofs.Common.{◌<◌, ◌∙◌, ℕ, sym, subst}
use Rattle.lvm_mwc.proofs.FormsLemmas.{no_filler, pins_map, still_map, unpin_map}
use Rattle.lvm_mwc.proofs.forms.Entries.unpin.Goals as goal

pub unpin-requires : goal.unpin-requires
unpin-requires c =
    subst (λ (n : ℕ). 0 < n)
    (sym (pins_map c.self.inside.is_plain c.self.inside.plain.items c.self.inside.filled c.args.self.now c.self.view_is c.if-self.false c.args.lv c.args.group (no_filler c.self.inside.is_plain c.self.inside.plain.items c.self.inside.filled c.args.self.now c.self.view_is c.if-self.false c.args.lv c.args.group c.requires)))
    c.requires

pub returns-else-self : goal.returns-else-self
returns-else-self c =
    still_map c.self.inside.is_plain c.self.inside.plain.items c.self.inside.filled c.args.self.now c.self.view_is c.if-self.false c.unpin.new.self
    ∙ unpin_map c.self.inside.is_plain c.self.inside.plain.items c.self.inside.filled c.args.self.now c.self.view_is c.if-self.false c.args.lv c.args.group c.unpin.new.self c.requires c.unpin.ensures

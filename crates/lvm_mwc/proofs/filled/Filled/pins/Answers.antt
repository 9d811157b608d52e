use Rattle.std.proofs.Common.{◌∙◌, List, ap, sym}
use Rattle.std.specs.List.{position}
use Rattle.lvm_mwc.specs.declared.entries.CacheEntry.{CacheEntry}
use Rattle.lvm_mwc.specs.Entries.{is_entry, pins_of}
use Rattle.lvm_mwc.proofs.EntriesLemmas.Entries.{pins_nowhere}
use Rattle.lvm_mwc.proofs.LaidLemmas.{pins_laid}
use Rattle.lvm_mwc.proofs.filled.Filled.pins.Goals as goal

pub returns-in-None : goal.returns-in-None
returns-in-None c = pins_nowhere c.args.self.now c.args.lv c.args.group (sym c.in-None.ensures.place)

pub returns-in-Some : goal.returns-in-Some
returns-in-Some c =
    pins_laid c.self.inside.keys.entries c.args.lv c.args.group c.in-Some.place c.index.result.now (ap (position (is_entry c.args.lv c.args.group)) c.self.view_is ∙ sym c.in-Some.ensures.place) c.index.ensures
    ∙ ap (λ (l : List CacheEntry). pins_of l c.args.lv c.args.group) c.self.view_is

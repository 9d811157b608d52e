use Rattle.std.proofs.Common.{◌≡◌, ◌<◌, ◌-◌, ◌∙◌, List, ap, sym, arith}
use Rattle.std.specs.List.{position}
use Rattle.indexmap.proofs.CallerLemmas.{index_map_len-with_value_at}
use Rattle.lvm_mwc.specs.declared.entries.CacheEntry.{CacheEntry}
use Rattle.lvm_mwc.specs.Entries.{is_entry, pins_of}
use Rattle.lvm_mwc.proofs.EntriesLemmas.Entries.{not_there}
use Rattle.lvm_mwc.proofs.LaidLemmas.{pins_laid, unpinned_laid}
use Rattle.lvm_mwc.proofs.filled.Filled.unpin.Goals as goal

pub overflow_sub-index_mut : goal.overflow_sub-index_mut
overflow_sub-index_mut c =
    let had : c.index_mut.result.now ≡ pins_of c.args.self.now c.args.lv c.args.group =
    pins_laid c.self.inside.keys.entries c.args.lv c.args.group c.in-Some.place c.index_mut.result.now (ap (position (is_entry c.args.lv c.args.group)) c.self.view_is ∙ sym c.in-Some.ensures.place) c.index_mut.ensures.value
    ∙ ap (λ (l : List CacheEntry). pins_of l c.args.lv c.args.group) c.self.view_is in
    let some : 0 < pins_of c.args.self.now c.args.lv c.args.group = c.requires in
    omega (arith, had, some)

pub invariant_of-self : goal.invariant_of-self
invariant_of-self c = index_map_len-with_value_at c.self.inside.keys c.in-Some.place (c.index_mut.result.now - 1) ∙ c.self.invariant

pub returns-in-Some : goal.returns-in-Some
returns-in-Some c = unpinned_laid c.self.inside.keys.entries c.args.self.now c.args.lv c.args.group c.in-Some.place c.index_mut.result.now c.self.view_is (sym c.in-Some.ensures.place) c.index_mut.ensures.value

pub returns-in_default : goal.returns-in_default
returns-in_default c = sym (not_there c.args.self.now c.args.lv c.args.group (sym c.in_default.ensures.place))

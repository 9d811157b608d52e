use Rattle.std.proofs.Common.{◌≡◌, ◌∙◌, List, false, length, remove, ap}
use Rattle.lvm_mwc.specs.declared.entries.CacheEntry.{CacheEntry}
use Rattle.lvm_mwc.specs.Entries.{has_entry}
use Rattle.lvm_mwc.specs.Filled.{new_last}
use Rattle.lvm_mwc.specs.Laid.{laid}
use Rattle.lvm_mwc.proofs.LaidLemmas.{inside, key, put_last, replaced, replaced_long}
use Rattle.lvm_mwc.proofs.filled.Filled.put_for.Goals as goal

pub invariant_of-self-2 : goal.invariant_of-self-2
invariant_of-self-2 c =
    let es = c.self.inside.keys.entries in
    let absent : has_entry (laid es) c.args.lv c.args.group ≡ false = ap (λ (l : List CacheEntry). has_entry l c.args.lv c.args.group) c.self.view_is ∙ c.requires.new in
    ap length c.shift_remove_index.ensures.entries
    ∙ replaced_long es c.insert.new.self.entries (key c.args.lv c.args.group, 1) c.args.place (c.in_ok-insert.ensures.entries ∙ put_last c.self.inside.keys c.args.lv c.args.group 1 absent) (inside es c.args.self.now c.args.place c.self.view_is c.requires.within)
    ∙ c.self.invariant

pub returns-clause-done : goal.returns-clause-done
returns-clause-done c =
    let es = c.self.inside.keys.entries in
    let absent : has_entry (laid es) c.args.lv c.args.group ≡ false = ap (λ (l : List CacheEntry). has_entry l c.args.lv c.args.group) c.self.view_is ∙ c.requires.new in
    ap laid c.shift_remove_index.ensures.entries
    ∙ replaced es c.insert.new.self.entries (key c.args.lv c.args.group, 1) c.args.place (c.in_ok-insert.ensures.entries ∙ put_last c.self.inside.keys c.args.lv c.args.group 1 absent) (inside es c.args.self.now c.args.place c.self.view_is c.requires.within)
    ∙ ap (λ (l : List CacheEntry). new_last (remove l c.args.place) c.args.lv c.args.group 1) c.self.view_is

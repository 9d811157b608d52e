use Rattle.std.proofs.Common.{◌∙◌, List, ap, sym, subst}
use Rattle.lvm_mwc.specs.declared.entries.CacheEntry.{CacheEntry}
use Rattle.lvm_mwc.specs.Entries.{AreEntries}
use Rattle.lvm_mwc.specs.Cache.{Cached, after_unpin}
use Rattle.lvm_mwc.proofs.CacheLemmas.{cached}
use Rattle.lvm_mwc.proofs.EntriesLemmas.Entries.{unpinned_entries}
use Rattle.lvm_mwc.proofs.cache.Cache.unpin.Goals as goal

pub invariant_of-self : goal.invariant_of-self
invariant_of-self c = (subst AreEntries (sym c.unpin.ensures) (unpinned_entries c.self.inside.entries c.args.lv c.args.group c.self.invariant.0), c.self.invariant.1, c.self.invariant.2, c.self.invariant.3, c.self.invariant.4)

pub returns-clause-cache : goal.returns-clause-cache
returns-clause-cache c = ap (λ (es : List CacheEntry). cached es c.self.inside.notes.items) c.unpin.ensures ∙ ap (λ (s : Cached). after_unpin s c.args.lv c.args.group) c.self.view_is

pub returns-clause-entries : goal.returns-clause-entries
returns-clause-entries c = subst AreEntries (sym c.unpin.ensures) (unpinned_entries c.self.inside.entries c.args.lv c.args.group c.self.invariant.0)

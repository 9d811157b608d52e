use Rattle.std.proofs.Common.{◌∙◌, List, ap, sym, subst}
use Rattle.lvm_mwc.specs.declared.entries.CacheEntry.{CacheEntry}
use Rattle.lvm_mwc.specs.Entries.{AreEntries}
use Rattle.lvm_mwc.specs.Cache.{Cached, after_pin}
use Rattle.lvm_mwc.proofs.CacheLemmas.{cached}
use Rattle.lvm_mwc.proofs.PinLemmas.{pin_keeps, pinned_cache}
use Rattle.lvm_mwc.proofs.cache.Cache.pin.Goals as goal

pub invariant_of-self : goal.invariant_of-self
invariant_of-self c = (subst AreEntries (sym c.pin.ensures.entries) (pin_keeps c.self.inside.entries c.args.lv c.args.group c.self.invariant.0 c.requires.volume c.ranges.lv.fits c.ranges.group.fits), c.self.invariant.1, c.self.invariant.2, c.self.invariant.3, c.self.invariant.4)

pub returns-clause-cache : goal.returns-clause-cache
returns-clause-cache c =
    ap (λ (es : List CacheEntry). cached es c.self.inside.notes.items) c.pin.ensures.entries
    ∙ pinned_cache (cached c.self.inside.entries c.self.inside.notes.items) c.args.lv c.args.group
    ∙ ap (λ (s : Cached). after_pin s c.args.lv c.args.group) c.self.view_is

pub returns-clause-entries : goal.returns-clause-entries
returns-clause-entries c = subst AreEntries (sym c.pin.ensures.entries) (pin_keeps c.self.inside.entries c.args.lv c.args.group c.self.invariant.0 c.requires.volume c.ranges.lv.fits c.ranges.group.fits)

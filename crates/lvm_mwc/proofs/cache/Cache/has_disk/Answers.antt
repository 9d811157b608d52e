use Rattle.std.proofs.Common.{◌∙◌, ap}
use Rattle.lvm_mwc.specs.Cache.{Cached, has_disk}
use Rattle.lvm_mwc.proofs.CacheLemmas.{cached, looked_up, there_on}
use Rattle.lvm_mwc.proofs.cache.Cache.has_disk.Goals as goal

pub returns : goal.returns
returns c =
    let notes = c.self.inside.notes.items in
    c.is_some.ensures
    ∙ there_on (cached c.self.inside.entries notes) c.args.disk c.place_of_disk.result
    (looked_up c.args.disk notes c.self.inside.disks.items c.deref.result.now c.place_of_disk.result c.self.invariant.2 c.deref.ensures.value c.place_of_disk.ensures)
    ∙ ap (λ (s : Cached). has_disk s c.args.disk) c.self.view_is

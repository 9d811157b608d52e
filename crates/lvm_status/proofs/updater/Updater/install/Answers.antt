use Rattle.std.proofs.Common.{List, ap}
use Rattle.lvm_num.specs.declared.descriptor.LvRow.{LvRow}
use Rattle.lvm_status.specs.Calls.{first_updates}
use Rattle.lvm_status.proofs.updater.Updater.install.Goals as goal

pub returns : goal.returns
returns c =
    let writes = c.none-self-inside.ensures in
    rw (← c.tables.view_is, ← c.self.view_is, c.copy_from.ensures, writes.unstarted, writes.started, writes.written, writes.failed)
    (ap (λ (vs : List LvRow). record (first_updates c.tables.inside.told c.tables.inside.group) { group = record c.tables.inside.group { lvs = vs }; stamp = c.self.inside.stamp }) c.tables.invariant.no_volumes)

use Rattle.std.proofs.Common.{◌<◌, All, List, sym, subst}
use Rattle.lvm_num.specs.declared.descriptor.LvRow.{LvRow}
use Rattle.lvm_recovery.proofs.RowsLemmas.{rows_places}
use Rattle.lvm_recovery.proofs.clean.is_still_dirty.Goals as goal

pub any_still_dirty-requires-clause-places : goal.any_still_dirty-requires-clause-places
any_still_dirty-requires-clause-places c = subst (λ (rows : List LvRow). All (λ (row : LvRow). All (λ p. p.disk < 128) row.map) rows) (sym c.as_slice.ensures) (rows_places c.args.group.now c.requires)

use Rattle.std.proofs.Common.{refl}
use Rattle.lvm_num.specs.declared.status.StatusRow.{StatusRow}
use Rattle.lvm_status.proofs.RowsLemmas.Places.{with_row_at-same, marked}
use Rattle.lvm_status.proofs.table.StaleTable.mark.Goals as goal

-- the row that is put over the one there
abbrev row : goal.After-put → StatusRow
row c = record { disk = c.row_of-place.result.1.disk; missing = c.row_of-place.result.1.missing; stale = c.set_bit.new.bits }

pub put-requires : goal.put-requires
put-requires c = let at = c.row_of-place.ensures.at in (c.row_of-place.result.1, record { within = at.within; there = at.there; its = refl })

pub returns-clause-stale : goal.returns-clause-stale
returns-clause-stale c =
    rw c.put.ensures.is
    (marked c.args.self.now c.args.pp c.row_of-place.result.0 c.row_of-place.result.1 (row c) c.row_of-place.ensures.valid c.row_of-place.ensures.at refl (rw (← c.from.ensures) c.set_bit.ensures))

pub returns-clause-missing : goal.returns-clause-missing
returns-clause-missing c =
    rw c.put.ensures.is
    (with_row_at-same c.args.self.now c.args.pp.disk c.row_of-place.result.0 c.row_of-place.result.1 (row c) c.row_of-place.ensures.valid c.row_of-place.ensures.at refl (λ (r : StatusRow). r.missing) refl)

use Rattle.std.proofs.Common.{refl}
use Rattle.lvm_num.specs.declared.place.Pp.{Pp}
use Rattle.lvm_num.specs.declared.status.StatusRow.{StatusRow}
use Rattle.lvm_num.specs.Bits.{has_bit}
use Rattle.lvm_status.proofs.RowsLemmas.Places.{with_row_at-same, set_missing-same, set_missing-says}
use Rattle.lvm_status.proofs.table.StaleTable.set_missing.Goals as goal

-- the row that is put over the one there
abbrev row : goal.After-put → StatusRow
row c = record { disk = c.row_of-place.result.1.disk; missing = c.args.yes; stale = c.row_of-place.result.1.stale }

pub put-requires : goal.put-requires
put-requires c = let at = c.row_of-place.ensures.at in (c.row_of-place.result.1, record { within = at.within; there = at.there; its = refl })

pub returns-clause-stale : goal.returns-clause-stale
returns-clause-stale c =
    rw c.put.ensures.is
    (λ (p : Pp). with_row_at-same c.args.self.now c.args.disk c.row_of-place.result.0 c.row_of-place.result.1 (row c) c.row_of-place.ensures.valid c.row_of-place.ensures.at refl (λ (r : StatusRow). has_bit r.stale p.pp) refl p.disk)

pub returns-clause-missing : goal.returns-clause-missing
returns-clause-missing c =
    rw c.put.ensures.is
    (set_missing-says c.args.self.now c.args.disk c.row_of-place.result.0 c.row_of-place.result.1 (row c) c.args.yes c.row_of-place.ensures.valid c.row_of-place.ensures.at refl refl)

pub returns-clause-same : goal.returns-clause-same
returns-clause-same c =
    rw c.put.ensures.is
    (λ said. set_missing-same c.args.self.now c.args.disk c.row_of-place.result.0 c.row_of-place.result.1 c.args.yes c.row_of-place.ensures.valid c.row_of-place.ensures.at said)

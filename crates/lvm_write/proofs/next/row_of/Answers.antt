use Rattle.std.proofs.Common.{List, ◌≡◌, ◌==◌, sym, ◌∙◌, ap}
use Rattle.std.specs.Prelude.{Some, None, find}
use Rattle.lvm_num.specs.declared.status.StatusRow.{StatusRow}
use Rattle.lvm_num.specs.Bits.{has_bit}
use Rattle.lvm_num.specs.Status.{IsStatusRow}
use Rattle.lvm_write.proofs.RowsLemmas.{found_one, row_says, no_row_says}
use Rattle.lvm_write.proofs.next.row_of.Goals as goal

pub returns-in-Some-clause-size : goal.returns-in-Some-clause-size
returns-in-Some-clause-size c =
    let found : find (λ (r : StatusRow). r.disk == c.args.disk) c.args.was.now.rows ≡ Some c.in-Some.row.now = ap (λ (xs : List StatusRow). find (λ (r : StatusRow). r.disk == c.args.disk) xs) (sym c.as_slice.ensures) ∙ sym c.in-Some.ensures in
    (found_one IsStatusRow (λ (r : StatusRow). r.disk == c.args.disk) c.args.was.now.rows c.in-Some.row.now found c.requires.status.rows.each).size

pub returns-in-Some-clause-stale : goal.returns-in-Some-clause-stale
returns-in-Some-clause-stale c k =
    let found : find (λ (r : StatusRow). r.disk == c.args.disk) c.args.was.now.rows ≡ Some c.in-Some.row.now = ap (λ (xs : List StatusRow). find (λ (r : StatusRow). r.disk == c.args.disk) xs) (sym c.as_slice.ensures) ∙ sym c.in-Some.ensures in
    sym (row_says (λ (r : StatusRow). has_bit r.stale k) c.args.was.now.rows c.args.disk c.in-Some.row.now c.requires.status.rows.disks_rise found)

pub returns-in-None-clause-stale : goal.returns-in-None-clause-stale
returns-in-None-clause-stale c k =
    let found : find (λ (r : StatusRow). r.disk == c.args.disk) c.args.was.now.rows ≡ None = ap (λ (xs : List StatusRow). find (λ (r : StatusRow). r.disk == c.args.disk) xs) (sym c.as_slice.ensures) ∙ sym c.in-None.ensures in
    c.no_marks-stale.ensures k ∙ sym (no_row_says (λ (r : StatusRow). has_bit r.stale k) c.args.was.now.rows c.args.disk found)

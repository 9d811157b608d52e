use Rattle.std.proofs.Common.{sym, ◌∙◌}
use Rattle.lvm_status.proofs.updater.Updater.fill.Goals as goal

pub invariant_of-tables : goal.invariant_of-tables
invariant_of-tables c =
    let was = c.tables.invariant in
    let is = c.copy_rows.ensures.rows c.tables.inside.group was.rows in
    record {
      valid = was.valid;
      no_volumes = was.no_volumes;
      rows = record { big = is.big; rows = is.rows };
      as_many = was.as_many ∙ sym c.copy_rows.ensures.many;
      as_many_flying = was.as_many_flying ∙ sym c.copy_rows.ensures.many;
    }

pub returns-clause-told : goal.returns-clause-told
returns-clause-told c = rw (← c.tables.view_is, ← c.self.view_is) (c.copy_rows.ensures.rows c.tables.inside.group c.tables.invariant.rows)

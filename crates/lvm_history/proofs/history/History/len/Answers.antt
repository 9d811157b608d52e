use Rattle.std.proofs.Common.{arith}
use Rattle.lvm_history.specs.Opened.{kept_of}
use Rattle.lvm_history.proofs.KeepingLemmas.{length_rows, rows_few}
use Rattle.lvm_history.proofs.history.History.len.Goals as goal

pub overflow_cast-result : goal.overflow_cast-result
overflow_cast-result c = omega (arith, rows_few (kept_of c.self.inside) c.self.invariant.kept, c.self.inside.rows.ok.0, c.len.ensures)

pub returns : goal.returns
returns c = omega (arith, length_rows (kept_of c.self.inside) c.args.self.now c.self.invariant.kept c.self.view_is, c.self.inside.rows.ok.0, c.len.ensures)

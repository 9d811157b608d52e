use Rattle.lvm_quorum.proofs.ReadingLemmas.{Rows}
use Rattle.lvm_quorum.proofs.survey.survey_rows.Given as goal

abbrev pub invariant-loop-disk : goal.invariant-loop-disk
invariant-loop-disk g l = Rows l.disk l.fn.patience.left l.patience.left l.fn.buf.number (g.S.Shelf.device l.fn.shelf) (g.S.Shelf.device l.shelf) l.rows.items l.back.number

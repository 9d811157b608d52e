use Rattle.std.proofs.Common.{arith, ◌∙◌}
use Rattle.lvm_memory.proofs.PiecesLemmas.Pieces.{pushed}
use Rattle.lvm_memory.proofs.piece.keep.Goals as goal

pub returns-in-Ok-clause-items : goal.returns-in-Ok-clause-items
returns-in-Ok-clause-items c = c.in-Ok.ensures.items ∙ pushed c.args.sectors.now.items c.args.at c.args.sector.now (omega arith)

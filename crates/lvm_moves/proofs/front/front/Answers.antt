use Rattle.std.proofs.Common.{◌∙◌, ap}
use Rattle.std.specs.Simd.{first_chunks}
use Rattle.lvm_moves.proofs.Fronts.{front_chunks}
use Rattle.lvm_moves.proofs.front.front.Goals as goal

pub returns-clause-blocks : goal.returns-clause-blocks
returns-clause-blocks c = ap (first_chunks 512 c.args.count) c.front.ensures.bytes ∙ front_chunks c.args.buf.now.sectors c.args.count c.are_whole.ensures

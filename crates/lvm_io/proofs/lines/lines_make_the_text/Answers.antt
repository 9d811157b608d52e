use Rattle.lvm_io.proofs.LinesLemmas.Making.{lines_make}
use Rattle.lvm_io.proofs.lines.lines_make_the_text.Goals as goal

pub returns : goal.returns
returns c = lines_make

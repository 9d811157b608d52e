use Rattle.lvm_top.proofs.LawsLemmas.Lines.{line_finds_no_more}
use Rattle.lvm_top.proofs.found_laws.lines_find_no_more.Goals as goal

pub returns : goal.returns
returns c = line_finds_no_more

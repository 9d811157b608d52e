use Rattle.lvm_commit.proofs.LawsOfFindingLemmas.NoMore.{descriptor_finds_no_more, rest_finds_nothing_new, transfer_finds_nothing_new}
use Rattle.lvm_commit.proofs.LawsOfFindingLemmas.Finding.{status_write_finds_nothing_new, descriptor_write_finds_no_more}
use Rattle.lvm_commit.proofs.laws.nothing_else_is_found.Goals as goal

pub returns : goal.returns
returns c = record {
  descriptor = descriptor_finds_no_more;
  rest = rest_finds_nothing_new;
  states = status_write_finds_nothing_new;
  describes = descriptor_write_finds_no_more;
  transfer = transfer_finds_nothing_new;
}

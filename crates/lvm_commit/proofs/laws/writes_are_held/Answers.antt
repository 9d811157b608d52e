use Rattle.lvm_commit.proofs.LawsOfWritesLemmas.Writes.{status_may_go, descriptor_may_go, status_write_keeps, descriptor_write_keeps, status_is_held, descriptor_is_held, status_write_leaves_others, descriptor_write_leaves_others}
use Rattle.lvm_commit.proofs.laws.writes_are_held.Goals as goal

pub returns : goal.returns
returns c = record {
  may_state = status_may_go;
  may_describe = descriptor_may_go;
  stating = status_write_keeps;
  describing = descriptor_write_keeps;
  states = status_is_held;
  describes = descriptor_is_held;
  stated = status_write_leaves_others;
  described = descriptor_write_leaves_others;
}

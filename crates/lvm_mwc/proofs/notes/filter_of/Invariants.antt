use Rattle.std.proofs.Common.{◌≡◌, length, take}
use Rattle.lvm_mwc.specs.Filters.{PassesAll}
use Rattle.lvm_mwc.proofs.notes.filter_of.Given as goal

abbrev pub invariant-loop-entry : goal.invariant-loop-entry
invariant-loop-entry l = record {
  long : length l.filter ≡ 512;
  pass : PassesAll l.filter (take l.entry-index l.note);
}

use Rattle.lvm_invariant.proofs.WrongLemmas.{starts_unrecorded, note_lacks_entry, done_unsettled, cleared_unpassed, copy_is_skipped, committed_early, ended_uncommitted, two_votes}
use Rattle.lvm_invariant.proofs.laws.conditions_are_needed.Goals as goal

pub returns : goal.returns
returns c = record {
  unrecorded = starts_unrecorded;
  note = note_lacks_entry;
  unsettled = done_unsettled;
  unpassed = cleared_unpassed;
  skipped = copy_is_skipped;
  early = committed_early;
  uncommitted = ended_uncommitted;
  votes = two_votes;
}

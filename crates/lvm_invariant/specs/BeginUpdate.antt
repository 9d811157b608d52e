-- An update of the status begins.
use Rattle.std.specs.Prelude.{◌≡◌, true, Some, None}
use Rattle.lvm_num.specs.Record.{Stamped, stamp_lt}
use Rattle.lvm_invariant.specs.Found.{Votes}
use Rattle.lvm_invariant.specs.State.{Marks, ModelState}
use Rattle.lvm_invariant.specs.Good.{Good}

-- none is in flight; it carries what is wanted, under a later stamp
pub record BeginsUpdate (s : ModelState) (u : Stamped Marks) : Type 0 where
  pub none : s.in_flight ≡ None
  pub value : u.value ≡ s.wanted
  pub later : stamp_lt s.committed.stamp u.stamp ≡ true

abbrev pub BeginUpdateKeeps : Type 0
BeginUpdateKeeps = (votes : Votes) (s : ModelState) (u : Stamped Marks) → BeginsUpdate s u → Good votes s → Good votes (record s { in_flight = Some u })

-- What is always true of a session that is on.
use Rattle.lvm_invariant.specs.Found.{Votes, Found}
use Rattle.lvm_invariant.specs.Told.{Told}
use Rattle.lvm_invariant.specs.State.{ModelState}
use Rattle.lvm_invariant.specs.Sound.{Sound}

pub record Good (votes : Votes) (s : ModelState) : Type 0 where
  pub sound : Sound s
  pub found : Found votes s
  pub told : Told s.queue s.name s.facts

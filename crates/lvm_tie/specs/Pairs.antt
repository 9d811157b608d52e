-- Sessions at rest, worked by hand: of the two disks that mirror a volume. (That what is asked of one at rest can be met.)
use Rattle.std.specs.Prelude.{Bool}
use Rattle.lvm_num.specs.declared.descriptor.Mode.{Mode}
use Rattle.lvm_num.specs.Buffer.{zero_sector}
use Rattle.lvm_session.specs.State.{State, state}
use Rattle.lvm_session.specs.Sound.{IsSound}
use Rattle.lvm_even.specs.Examples.{Pair, device_of, even_pair, media_of, naming, past_of}
use Rattle.lvm_settled.specs.Examples.{core_of, noted_core}
use Rattle.lvm_tie.specs.Tied.{IsTied}
use Rattle.lvm_tie.specs.Begins.{FollowsOn, IsCoreAtRest, MembersShow, StandsAtRest}

-- what stands on its disks is what is asked of a session at rest
pub record IsRestingPair (s : State) (pair : Pair) (mode : Mode) (cut : Bool) : Type 0 where
  pub rests : IsCoreAtRest s.core
  pub stands : StandsAtRest s (media_of pair)
  pub members : MembersShow s (media_of pair)
  pub follows : FollowsOn (past_of mode cut) s

-- and it is sound, so that it is tied
pub record IsTiedPair (s : State) (pair : Pair) (mode : Mode) (cut : Bool) : Type 0 where
  pub resting : IsRestingPair s pair mode cut
  pub sound : IsSound s
  pub tied : IsTied (past_of mode cut) s

-- So it is in each mode, dirty or not, also where a member is lost, and after a cut while the first block was written. And what stands on the disks is so
-- where the volume was written, too, and the notes of both name its track group.
pub record PairsAreTied : Type 0 where
  pub first : (mode : Mode) (dirty lost cut : Bool) → let pair = even_pair mode dirty lost zero_sector in IsTiedPair (state (device_of pair) (core_of pair)) pair mode cut
  pub noted : (mode : Mode) (dirty lost cut : Bool) → let pair = even_pair mode dirty lost naming in IsRestingPair (state (device_of pair) (noted_core pair)) pair mode cut

-- Sessions that meet what is asked, worked by hand: of the two disks that mirror a volume.
use Rattle.std.specs.Prelude.{◌≡◌, Bool, true, false, IsTrue, IsFalse, count_by}
use Rattle.lvm_num.specs.declared.descriptor.Mode.{Mode}
use Rattle.lvm_num.specs.Buffer.{zero_sector}
use Rattle.lvm_vol.specs.Legal.{begins_in}
use Rattle.lvm_commit.specs.LawsOfVolumes.{IsOneFoundOn}
use Rattle.lvm_session.specs.State.{State, state, is_there}
use Rattle.lvm_session_start.specs.Beginning.{AreFaults}
use Rattle.lvm_tie.specs.passed.Even.{Pair, device_of, even_pair, media_of, past_of}
use Rattle.lvm_tie.specs.Tied.{IsTied}
use Rattle.lvm_settled.specs.Examples.{core_of}
use Rattle.lvm_members.specs.passed.Change.{LosesVotes, as_big, with_quorum}
use Rattle.lvm_members.specs.Commands.{MayBeChanged}
use Rattle.lvm_tie_commands.specs.Coming.{IsDriven, IsMadeEven}
use Rattle.lvm_tie_commands.specs.Settled.{IsSettledAfter, MayBeLeft, MayServe}

-- the session that has come on over these disks, and nothing has happened since
abbrev pub session_of : Pair → State
session_of pair = state (device_of pair) (core_of pair)

-- With this earlier history it is settled and may serve, so it is tied; and it may be left. What the calls that begin a session don't say of it holds of it too.
pub record IsServingPair (pair : Pair) (mode : Mode) (cut : Bool) : Type 0 where
  pub settled : IsSettledAfter (past_of mode cut) (session_of pair) (media_of pair)
  pub may : MayServe (session_of pair) (media_of pair)
  pub own : count_by (begins_in 50) (past_of mode cut) ≡ 0
  pub tied : IsTied (past_of mode cut) (session_of pair)
  pub left : MayBeLeft (past_of mode cut) (session_of pair) (media_of pair)
  pub driven : IsDriven (session_of pair) (media_of pair)
  pub faults : AreFaults (device_of pair) (core_of pair).origin.faults
  pub only : IsOneFoundOn (device_of pair)
  pub even : IsMadeEven (session_of pair) (media_of pair)

-- So it is in each mode, dirty or not, with both members or one that is lost, after a cut while the first block was written or not.
abbrev pub PairsServe : Type 0
PairsServe = (mode : Mode) (dirty lost cut : Bool) → IsServingPair (even_pair mode dirty lost zero_sector) mode cut

-- Such a session's group may become big, and be checked; checking may be switched off where no member is missing, and where one is it asks for more than there is.
pub record MayChangePair (pair : Pair) : Type 0 where
  pub big : MayBeChanged (as_big (core_of pair).descriptor) (core_of pair)
  pub checked : MayBeChanged (with_quorum true (core_of pair).descriptor) (core_of pair)
  pub unchecked : IsFalse pair.lost → MayBeChanged (with_quorum false (core_of pair).descriptor) (core_of pair)
  pub refused : IsTrue pair.lost → LosesVotes (core_of pair).descriptor (with_quorum false (core_of pair).descriptor) (is_there (core_of pair))

-- So it is in each mode, dirty or not, with both members or one that is lost.
abbrev pub PairsMayChange : Type 0
PairsMayChange = (mode : Mode) (dirty lost : Bool) → MayChangePair (even_pair mode dirty lost zero_sector)

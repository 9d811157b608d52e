-- A session may begin at the groups that are worked by hand.
use Rattle.std.specs.Prelude.{◌≡◌, List, None}
use Rattle.lvm_vol.specs.Facts.{Fact}
use Rattle.lvm_kept.specs.Examples.{two}
use Rattle.lvm_even.specs.Examples.{Pair, IsRestingPair, device_of, media_of}
use Rattle.lvm_invariant.specs.State.{ModelState}
use Rattle.lvm_invariant.specs.Found.{Votes}
use Rattle.lvm_invariant.specs.Good.{Good}
use Rattle.lvm_crash.specs.Session.{AreVotesOf}
use Rattle.lvm_crash.specs.Flights.{Matches}

-- Where such a group is at rest there is a good state with its history that matches its disks.
abbrev pub PairsAreGood : Type 0
PairsAreGood = (pair : Pair) (facts : List Fact) → IsRestingPair pair facts → (votes : Votes) → AreVotesOf (two pair.mode) votes
    → (s : ModelState) × (s.facts ≡ facts) × Good votes s × Matches s s.facts (two pair.mode) None (device_of pair) (media_of pair)

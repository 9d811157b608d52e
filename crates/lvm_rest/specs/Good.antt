-- A session at rest is in a good state exactly where the disks keep the history and its copies are even.
use Rattle.std.specs.Prelude.{◌≡◌, [], List, None, Some}
use Rattle.lvm_num.specs.declared.descriptor.Descriptor.{Descriptor}
use Rattle.lvm_num.specs.declared.status.Status.{Status}
use Rattle.lvm_num.specs.Disks.{Disks}
use Rattle.lvm_num.specs.Descriptor.{IsValid}
use Rattle.lvm_num.specs.Record.{Stamped}
use Rattle.lvm_num.specs.Votes.{CanWrite}
use Rattle.lvm_vol.specs.Facts.{Fact}
use Rattle.lvm_disk.specs.Device.{Media, Device, image_of}
use Rattle.lvm_kept.specs.Contents.{Contents, contents_of}
use Rattle.lvm_kept.specs.Committed.{IsWithinDisks}
use Rattle.lvm_commit.specs.Committed.{ShowsCommitted}
use Rattle.lvm_invariant.specs.State.{ModelState}
use Rattle.lvm_invariant.specs.Found.{Votes}
use Rattle.lvm_invariant.specs.Good.{Good}
use Rattle.lvm_crash.specs.Session.{AreVotesOf, Describes}
use Rattle.lvm_crash.specs.Flights.{Matches}
use Rattle.lvm_rest.specs.Rest.{IsModelAtRest, SeesThat}
use Rattle.lvm_even.specs.Even.{AreClosed, HoldsAtRest}

-- For each group there is a state at which nothing is under way that sees what stands on its disks.
abbrev pub RestIsSeen : Type 0
RestIsSeen = (facts : List Fact) (group : Descriptor) (stands : Stamped Status) (there : Disks) (c : Contents)
    → IsValid group → (s : ModelState) × (s.facts ≡ facts) × IsModelAtRest s × SeesThat s group stands there c

-- Where nothing is under way, the state sees what stands on the disks, these show what is committed to members with votes enough to write, and
-- they are at rest with the history, in which no write is open: the state is good and describes them.
abbrev pub RestIsGood : Type 0
RestIsGood =
    (votes : Votes) (s : ModelState) (group : Descriptor) (status : Status) (there : Disks) (c : Contents)
    → AreVotesOf group votes → IsValid group → IsWithinDisks c → CanWrite group there → (shows : ShowsCommitted c group status there)
    → IsModelAtRest s → SeesThat s group shows.stands there c → AreClosed s.facts group → HoldsAtRest c s.facts group (Some shows.stands) there
    → Good votes s × Describes s s.facts group None c

-- And the other way round.
abbrev pub GoodIsRest : Type 0
GoodIsRest =
    (votes : Votes) (s : ModelState) (group : Descriptor) (status : Status) (there : Disks) (c : Contents)
    → AreVotesOf group votes → IsValid group → IsWithinDisks c → (shows : ShowsCommitted c group status there)
    → IsModelAtRest s → SeesThat s group shows.stands there c → Good votes s → Describes s s.facts group None c
    → HoldsAtRest c s.facts group (Some shows.stands) there

-- On a shelf at which nothing is out the state then matches it.
abbrev pub StillMatches : Type 0
StillMatches =
    (s : ModelState) (facts : List Fact) (group : Descriptor) (device : Device) (media : Media)
    → device.media ≡ Some media → device.flights ≡ [] → Describes s facts group None (contents_of (image_of device.sizes media)) → Matches s facts group None device media

-- On a still shelf: a session at rest is good, and matches it.
abbrev pub RestMatches : Type 0
RestMatches =
    (votes : Votes) (s : ModelState) (group : Descriptor) (status : Status) (there : Disks) (device : Device) (media : Media)
    → device.media ≡ Some media → device.flights ≡ [] → AreVotesOf group votes → IsValid group → CanWrite group there
    → (shows : ShowsCommitted (contents_of (image_of device.sizes media)) group status there)
    → IsModelAtRest s → SeesThat s group shows.stands there (contents_of (image_of device.sizes media)) → AreClosed s.facts group
    → HoldsAtRest (contents_of (image_of device.sizes media)) s.facts group (Some shows.stands) there
    → Good votes s × Matches s s.facts group None device media

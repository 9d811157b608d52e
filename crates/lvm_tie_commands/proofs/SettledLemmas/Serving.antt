-- A settled session is tied.
use Rattle.std.proofs.Common.{◌≡◌, List, [], ◌∷◌, refl}
use Rattle.std.specs.Prelude.{count_by}
use Rattle.lvm_disk.specs.Device.{Flight, Media}
use Rattle.lvm_vol.specs.Facts.{Fact}
use Rattle.lvm_vol.specs.Legal.{begins_in}
use Rattle.lvm_session.specs.declared.flown.Flown.{Flown}
use Rattle.lvm_session.specs.State.{Core, State}
use Rattle.lvm_session.specs.Owners.{AreRows}
use Rattle.lvm_tie.specs.Tied.{IsTied}
use Rattle.lvm_tie.specs.Begins.{FollowsOn, IsCoreAtRest, StandsAtRest}
use Rattle.lvm_tie.proofs.BeginsLemmas.Resting.{rest_ties}
use Rattle.lvm_tie_commands.specs.Settled.{IsSettledAfter, MayServe, SettledServes, SettledTies}

-- where no transfer is out, none is the session's
pub none_flown : (core : Core) (rows : List Flown) (flights : List Flight) → AreRows core rows flights → flights ≡ [] → rows ≡ []
none_flown core [] flights are none = refl
none_flown core (row ∷ rows) [] are none = absurd are
none_flown core (row ∷ rows) (f ∷ flights) are none = absurd (cc none)

module _ (past : List Fact) (s : State) (media : Media) (is : IsSettledAfter past s media) (may : MayServe s media)
    (own : count_by (begins_in s.core.history.run) past ≡ 0) where
  rests : IsCoreAtRest s.core
  rests = record {
    requests = is.known.settled.quiet.requests;
    copy = is.known.settled.quiet.copy;
    flying = none_flown s.core s.core.flying s.device.flights (may.sound.on is.known.settled.power).rows (is.known.sound.quiet is.known.settled.quiet);
    in_flight = is.known.settled.quiet.status;
    committed = is.known.settled.committed;
    notes = is.known.settled.quiet.notes;
  }

  stands : StandsAtRest s media
  stands = record {
    told = is.known.told;
    sectors = may.sectors;
    some_epoch = is.known.settled.epoch;
    epoch = may.epoch;
    votes = is.known.settled.votes;
    held = is.known.held;
    only = is.known.only;
    notes = may.notes;
    even = is.carried.even;
    behind = is.carried.behind;
  }

  follows : FollowsOn past s
  follows = record { holds = is.known.holds; calm = is.carried.calm; own = own }

  pub ties : IsTied past s
  ties = rest_ties past s media may.sound is.known.settled.power rests stands may.members follows

pub settled_ties : SettledTies
settled_ties past s media is may own = ties past s media is may own

pub settled_serves : SettledServes
settled_serves first s media after may on past begins = ties past s media (after past begins) may begins.own

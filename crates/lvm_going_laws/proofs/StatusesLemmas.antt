-- What is asked of a status, in the words of the tie.
use Rattle.std.proofs.Common.{◌≡◌}
use Rattle.lvm_status.specs.Update.{Stored}
use Rattle.lvm_session.specs.declared.open.Power.TheVariants as power
use Rattle.lvm_session.specs.State.{State}
use Rattle.lvm_going.specs.Statuses.{AreValid, IsStamped}
use Rattle.lvm_tie.specs.Stamps.{AreValid as AreValidInTie, IsStamped as IsStampedInTie}
use Rattle.lvm_going_laws.specs.Laws.{StaysGood}

pub are_valid : (s : Stored) → AreValid s → AreValidInTie s
are_valid s it = record { wanted = it.wanted; in_flight = it.in_flight }

pub is_stamped : (s : Stored) → IsStamped s → IsStampedInTie s
is_stamped s it = record { some_epoch = it.some_epoch; epoch = it.epoch; begun = it.begun }

-- the stamp of a session that isn't dark goes on to be of its epoch
pub stays_stamped : (old new : State) → StaysGood old new → (new.core.power ≡ power.Dark → ⊥) → IsStamped old.core.status → IsStamped new.core.status
stays_stamped old new good lit it =
    let then = (good.epoch lit).stamped (is_stamped old.core.status it) in
    record { some_epoch = then.some_epoch; epoch = then.epoch; begun = then.begun }

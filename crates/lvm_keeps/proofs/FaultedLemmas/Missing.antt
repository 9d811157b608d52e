-- A disk is missing.
use Rattle.std.proofs.Common.{◌≡◌, ◌<◌, ◌+◌, ◌^◌, Bool, true, false, ◌||◌, Some, refl, arith}
use Rattle.lvm_num.specs.Bits.{has_bit}
use Rattle.lvm_num.specs.Disks.{has}
use Rattle.lvm_num.specs.Votes.{votes_by}
use Rattle.lvm_num.specs.declared.descriptor.Mode.{Mode}
use Rattle.lvm_num.specs.declared.descriptor.Mode.TheVariants as mode
use Rattle.lvm_num.specs.Status.{calls_stale}
use Rattle.lvm_num.proofs.Booleans.{not_so, not_either}
use Rattle.lvm_status.specs.Update.{seen}
use Rattle.lvm_status.specs.Runs.{IsSoundStatus}
use Rattle.lvm_session.specs.declared.event.Event.TheVariants as event
use Rattle.lvm_session.specs.Enabled.{first_event, is_lost}
use Rattle.lvm_session.specs.Left.{updates_left}
use Rattle.lvm_session.specs.Sound.{IsGoing, IsSound, stays_fresh}
use Rattle.lvm_session.specs.Worked.{HeldWritesAreSound, first_copy, fresh, status_of}
use Rattle.lvm_keeps.specs.Faulted.{MissingDisksAreSound, missing_disk, wanting}
use Rattle.lvm_session.proofs.WorkedLemmas.Parts.{idle_is_sound, none_written, has_fresh, none_missing_at_first as none_missing}
use Rattle.lvm_session.proofs.SoundLemmas.{sound_while_on}
use Rattle.lvm_keeps.proofs.FaultedLemmas.Parts.{behind, fitting, none_stale, origin, request, told}

first_stays : (m : Mode) → stays_fresh (wanting m false) first_copy ≡ true
unfolding has_bit
first_stays m = refl

numbers : (m : Mode) → 3 + updates_left (wanting m false) < 2 ^ 32
unfolding has_bit has
numbers mode.Active = omega arith
numbers mode.Passive = omega arith
numbers mode.Off = omega arith

status : (m : Mode) → IsSoundStatus (seen (wanting m false).status)
unfolding votes_by has_bit has
status m = idle_is_sound _ refl none_written refl (λ disk is. none_missing disk is)

votes : (m : Mode) → is_lost (missing_disk m).core ≡ false
unfolding votes_by has_bit has
votes m = refl

next : (m : Mode) → first_event (missing_disk m).core ≡ Some event.StartStatus
unfolding votes_by has_bit has
next mode.Active = refl
next mode.Passive = refl
next mode.Off = refl

-- nothing is stale yet
none_held : {X : Type 0} (a : Bool) → a ≡ false → a || a ≡ true → X
none_held true none is = not_either none
none_held false none is = not_so is

module _ (held : HeldWritesAreSound) (m : Mode) where
  going : IsGoing (wanting m false)
  going = let g = ((held m).on refl).going in record {
    fitting = fitting held m false;
    told = told held m false;
    status = status m;
    owned = g.owned;
    tickets = tt;
    queue = refl;
    pinned = g.pinned;
    requests = (request held m false, tt);
    copy = tt;
    hands = g.hands;
    behind = behind m false;
    reviewed = refl;
    fresh = has_fresh m (wanting m false) (first_stays m);
    clearings = λ p is. none_held (calls_stale (status_of fresh) p) (none_stale p) is;
    numbers = numbers m;
  }

  sound : IsSound (missing_disk m)
  sound = let before = held m in
      sound_while_on _ refl (record { power = refl; freed = refl }) (fitting held m false) (told held m false) before.placed (before.none_lost refl) (record { going = going; rows = tt; caused = (λ waits. tt, tt); chosen = tt })
      (record { counted = (tt, tt); answered = (tt, tt); copy = tt; origin = origin held m false })

pub missing_disks_are_sound : HeldWritesAreSound → MissingDisksAreSound
missing_disks_are_sound held = record { sound = sound held; votes = votes; next = next }

-- A copy that is brought up.
use Rattle.std.proofs.Common.{◌≡◌, inl, ◌<◌, ◌+◌, ◌-◌, ◌^◌, true, None, refl, sym, ◌∙◌, arith}
use Rattle.lvm_num.specs.Bits.{has_bit}
use Rattle.lvm_num.specs.Disks.{has}
use Rattle.lvm_num.specs.declared.descriptor.Mode.{Mode}
use Rattle.lvm_num.specs.declared.descriptor.Mode.TheVariants as mode
use Rattle.lvm_num.specs.Descriptor.{copies_of}
use Rattle.lvm_num.specs.Status.{calls_stale}
use Rattle.lvm_num.specs.Votes.{votes_by, votes_in, is_enough_to_write}
use Rattle.lvm_num.proofs.Booleans.{not_so, not_either, twice_fails, thrice_holds}
use Rattle.lvm_kept.specs.Examples.{mirror}
use Rattle.lvm_status.specs.Update.{members_there}
use Rattle.lvm_session.specs.State.{state}
use Rattle.lvm_session.specs.declared.flown.Owner.TheVariants as owner
use Rattle.lvm_session.specs.Bringing.{copy_ends}
use Rattle.lvm_session.specs.Owners.{AreOwned}
use Rattle.lvm_session.specs.Left.{updates_left}
use Rattle.lvm_session.specs.Causes.{IsCausedAmong}
use Rattle.lvm_session.specs.Sound.{stays_fresh, IsCopy, IsFitting, IsTold, IsGoing}
use Rattle.lvm_session.specs.Worked.{mirrored, first_copy, bringing_up, bringing, core_of, status_of, behind, faultless, CopiesAreSound}
use Rattle.lvm_session.proofs.Small.{not_none}
use Rattle.lvm_session.proofs.SoundLemmas.{sound_while_on}
use Rattle.lvm_session.proofs.WorkedLemmas.Parts.{placed, not_marked, status_is_sound, none_behind, none_missing, has_fresh, notes_fit, none_out, no_fault, zeros_at}
use Rattle.lvm_session.proofs.WorkedLemmas.Whole.{no_entries, fitting, owned}

module _ (m : Mode) where
  fits : IsFitting (core_of (bringing m))
  fits = fitting (bringing m) (omega arith) (omega arith) (omega arith) no_entries (notes_fit m)

  told : IsTold (core_of (bringing m))
  told = record { ordered = tt; table = record { ascending = tt; still = tt }; each = λ id. refl; requests = tt }

  owns : AreOwned (core_of (bringing m))
  owns (owner.Data id target) = refl
  owns (owner.Status disk) = owned m (owner.Status disk)
  owns (owner.Note disk) = owned m (owner.Note disk)
  owns owner.Copy = refl

  copy : IsCopy (core_of (bringing m)) (bringing_up 3 None)
  unfolding has_bit
  copy = record {
    row = mirror m;
    volume = refl;
    lp = omega arith;
    kind = record { its = refl; stale = λ runs part. (refl, refl); clearing = λ runs whole. not_so whole };
    cursor = omega arith;
    faults = refl;
    place = (0, omega arith, refl);
    room = tt;
    free = λ idle. not_either idle;
    hand = λ ended. not_either ended;
    tried = λ disk is. not_marked disk is;
    source = tt;
    under_way = λ runs busy. not_either busy;
  }

  caused : IsCausedAmong (state faultless (core_of (bringing m))) (copies_of (mirror m) 0) (bringing_up 3 None)
  caused = record {
    began = λ number p is. let first = zeros_at 128 p.disk in omega (arith, first);
    since = λ number p is. let none = zeros_at 4 (number - 1) in omega (arith, none);
    tried = λ number p is tried. not_marked p.disk tried;
    own_began = omega arith;
    own_since = omega arith;
    failed = λ e. not_none e;
  }

  runs_on : copy_ends (core_of (bringing m)) ≡ None
  unfolding has_bit has
  runs_on = refl

first_stays : (m : Mode) → stays_fresh (core_of (bringing m)) first_copy ≡ true
unfolding has_bit
first_stays m = refl

numbers : (m : Mode) → 3 + updates_left (core_of (bringing m)) < 2 ^ 32
unfolding has_bit has
numbers mode.Active = omega arith
numbers mode.Passive = omega arith
numbers mode.Off = omega arith

goes_on : (m : Mode) → IsGoing (core_of (bringing m))
goes_on m = record {
  fitting = fits m;
  told = told m;
  status = status_is_sound m behind;
  owned = owns m;
  tickets = tt;
  queue = refl;
  pinned = λ lv group. refl;
  requests = tt;
  copy = copy m;
  hands = λ n. omega arith;
  behind = λ p is. none_behind m true p is;
  reviewed = runs_on m;
  fresh = has_fresh m (core_of (bringing m)) (first_stays m);
  clearings = λ p held clear. twice_fails (calls_stale (status_of behind) p) held clear;
  numbers = numbers m;
}

votes : (m : Mode) → is_enough_to_write (mirrored m) (votes_in (mirrored m) (members_there (mirrored m) (status_of behind))) ≡ true
unfolding votes_by has_bit has
votes m = refl

pub copies_are_sound : CopiesAreSound
copies_are_sound m =
    sound_while_on _ refl (record { power = refl; freed = refl }) (fits m) (told m) (placed m (status_of behind)) none_out (record { going = goes_on m; rows = tt; caused = tt; chosen = tt })
    (record {
      counted = tt;
      answered = tt;
      copy = caused m;
      origin = record {
        since = no_fault m;
        votes = votes m;
        rows = λ disk. refl;
        still_missing = λ disk is. not_so (sym (none_missing true disk) ∙ is);
        missing = λ disk is. inl is;
        stale = λ p is. inl (thrice_holds (calls_stale (status_of behind) p) is);
      };
    })

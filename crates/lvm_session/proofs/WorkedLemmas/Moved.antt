-- A copy that moves.
use Rattle.std.proofs.Common.{◌≡◌, inl, ℕ, ◌<◌, ◌+◌, ◌-◌, ◌^◌, ◌==◌, ◌&&◌, ◌||◌, ◌∙◌, Bool, true, false, Option, Some, None, refl, sym, ap, arith}
use Rattle.std.specs.Prelude.{slice_index_or}
use Rattle.lvm_num.specs.Bits.{has_bit}
use Rattle.lvm_num.specs.declared.place.Pp.{Pp}
use Rattle.lvm_num.proofs.BitsLemmas.{has-none}
use Rattle.lvm_num.specs.Disks.{has}
use Rattle.lvm_num.specs.declared.descriptor.Mode.{Mode}
use Rattle.lvm_num.specs.declared.descriptor.Mode.TheVariants as mode
use Rattle.lvm_num.specs.Descriptor.{copies_of}
use Rattle.lvm_num.specs.Status.{calls_stale}
use Rattle.lvm_num.proofs.Booleans.{not_so, not_either, twice_fails, thrice_holds}
use Rattle.lvm_kept.specs.Examples.{member, mirror}
use Rattle.lvm_session.specs.State.{state}
use Rattle.lvm_session.specs.declared.bringing.CopyEnd.{CopyEnd}
use Rattle.lvm_session.specs.declared.bringing.CopyEnd.TheVariants as ending
use Rattle.lvm_session.specs.declared.answers.CopyState.TheVariants as copy
use Rattle.lvm_session.specs.declared.flown.Owner.TheVariants as owner
use Rattle.lvm_session.specs.Judging.{is_held_by_move}
use Rattle.lvm_session.specs.Bringing.{copy_ends}
use Rattle.lvm_session.specs.Calls.{copy_state}
use Rattle.lvm_session.specs.Owners.{AreOwned}
use Rattle.lvm_session.specs.Left.{updates_left}
use Rattle.lvm_session.specs.Causes.{IsCausedAmong}
use Rattle.lvm_session.specs.Sound.{stays_fresh, IsCopy, IsFitting, IsTold, IsGoing, IsSound}
use Rattle.lvm_session.specs.Worked.{a_write, core_of, faultless, first_copy, fresh, second_copy, status_of}
use Rattle.lvm_session.specs.WorkedMoves.{MovesAreSound, ended_move, moving_to, open_move, destination_stale, third_fails, whole_move}
use Rattle.lvm_session.proofs.Small.{not_none}
use Rattle.lvm_session.proofs.SoundLemmas.{sound_while_on}
use Rattle.lvm_session.proofs.WorkedLemmas.Parts.{has_fresh, none_behind, none_out, not_marked, notes_fit, placed, status_is_sound, zeros_at}
use Rattle.lvm_session.proofs.WorkedLemmas.Whole.{fitting, no_entries, owned, true_to_origin}

none_stale : (p : Pp) → calls_stale (status_of fresh) p ≡ false
none_stale p = ap (λ (z : Bool). (0 == p.disk && z) || ((1 == p.disk && z) || ((2 == p.disk && z) || false))) (has-none 127 p.pp) ∙ by (0 == p.disk) (1 == p.disk) (2 == p.disk)
  where
    by : (a b c : Bool) → (a && false) || ((b && false) || ((c && false) || false)) ≡ false
    by true true true = refl
    by true true false = refl
    by true false true = refl
    by true false false = refl
    by false true true = refl
    by false true false = refl
    by false false true = refl
    by false false false = refl

-- nothing is stale, or wanted so
pub none_wanted : {X : Type 0} (p : Pp) → (calls_stale (status_of fresh) p || calls_stale (status_of fresh) p) || calls_stale (status_of fresh) p ≡ true → X
none_wanted p is = not_so (sym (none_stale p) ∙ thrice_holds (calls_stale (status_of fresh) p) is)

-- the counts of faults as it was opened
pub none_at_opening : (cursor number : ℕ) (end : Option CopyEnd) → slice_index_or (moving_to cursor end).faults (number - 1) 0 ≡ 0
none_at_opening cursor number end = zeros_at 4 (number - 1)

-- ---- it is open

module _ (m : Mode) where
  open_fits : IsFitting (core_of (open_move m))
  open_fits = fitting (open_move m) (omega arith) (omega arith) (omega arith) no_entries (notes_fit m)

  open_told : IsTold (core_of (open_move m))
  open_told = record { ordered = tt; table = record { ascending = tt; still = tt }; each = λ id. refl; requests = tt }

  open_owns : AreOwned (core_of (open_move m))
  open_owns (owner.Data id target) = refl
  open_owns (owner.Status disk) = owned m (owner.Status disk)
  open_owns (owner.Note disk) = owned m (owner.Note disk)
  open_owns owner.Copy = refl

  open_copy : IsCopy (core_of (open_move m)) (moving_to 3 None)
  unfolding has_bit
  open_copy = record {
    row = mirror m;
    volume = refl;
    lp = omega arith;
    kind = record {
      from = second_copy;
      its = refl;
      free = refl;
      member = member 2;
      member_is = refl;
      inside = omega arith;
      apart = refl;
      there = refl;
      called = refl;
      clear = λ runs whole. not_so whole;
      fresh = refl;
      ends = λ e. not_none e;
    };
    cursor = omega arith;
    faults = refl;
    place = (0, omega arith, refl);
    room = tt;
    free = λ idle. not_either idle;
    hand = λ ended. not_either ended;
    tried = λ disk is. not_marked disk is;
    source = tt;
    under_way = λ runs busy. not_either busy;
  }

  open_caused : IsCausedAmong (state faultless (core_of (open_move m))) (copies_of (mirror m) 0) (moving_to 3 None)
  open_caused = record {
    began = λ number p is. let first = zeros_at 128 p.disk in omega (arith, first);
    since = λ number p is. let none = none_at_opening 3 number None in omega (arith, none);
    tried = λ number p is tried. not_marked p.disk tried;
    own_began = omega arith;
    own_since = omega arith;
    failed = λ e. not_none e;
  }

  open_runs : copy_ends (core_of (open_move m)) ≡ None
  unfolding has_bit has
  open_runs = refl

open_stays : (m : Mode) → stays_fresh (core_of (open_move m)) first_copy ≡ true
unfolding has_bit
open_stays m = refl

open_numbers : (m : Mode) → 3 + updates_left (core_of (open_move m)) < 2 ^ 32
unfolding has_bit has
open_numbers mode.Active = omega arith
open_numbers mode.Passive = omega arith
open_numbers mode.Off = omega arith

open_goes : (m : Mode) → IsGoing (core_of (open_move m))
open_goes m = record {
  fitting = open_fits m;
  told = open_told m;
  status = status_is_sound m fresh;
  owned = open_owns m;
  tickets = tt;
  queue = refl;
  pinned = λ lv group. refl;
  requests = tt;
  copy = open_copy m;
  hands = λ n. omega arith;
  behind = λ p is. none_behind m false p is;
  reviewed = open_runs m;
  fresh = has_fresh m (core_of (open_move m)) (open_stays m);
  clearings = λ p held clear. twice_fails (calls_stale (status_of fresh) p) held clear;
  numbers = open_numbers m;
}

open_is_sound : (m : Mode) → IsSound (state faultless (core_of (open_move m)))
open_is_sound m = let origin = true_to_origin m in
    sound_while_on _ refl (record { power = refl; freed = refl }) (open_fits m) (open_told m) (placed m (status_of destination_stale)) none_out (record { going = open_goes m; rows = tt; caused = tt; chosen = tt })
    (record { counted = tt; answered = tt; copy = open_caused m; origin = record { since = origin.since; votes = origin.votes; rows = origin.rows; still_missing = origin.still_missing; missing = origin.missing; stale = λ p is. none_wanted p is } })

-- ---- all is copied

module _ (m : Mode) where
  whole_fits : IsFitting (core_of (whole_move m))
  whole_fits = fitting (whole_move m) (omega arith) (omega arith) (omega arith) no_entries (notes_fit m)

  whole_told : IsTold (core_of (whole_move m))
  whole_told = record { ordered = tt; table = record { ascending = tt; still = tt }; each = λ id. refl; requests = tt }

  whole_owns : AreOwned (core_of (whole_move m))
  whole_owns (owner.Data id target) = refl
  whole_owns (owner.Status disk) = owned m (owner.Status disk)
  whole_owns (owner.Note disk) = owned m (owner.Note disk)
  whole_owns owner.Copy = refl

  whole_copy : IsCopy (core_of (whole_move m)) (moving_to 8 None)
  unfolding has_bit
  whole_copy = record {
    row = mirror m;
    volume = refl;
    lp = omega arith;
    kind = record {
      from = second_copy;
      its = refl;
      free = refl;
      member = member 2;
      member_is = refl;
      inside = omega arith;
      apart = refl;
      there = refl;
      called = refl;
      clear = λ runs whole. refl;
      fresh = refl;
      ends = λ e. not_none e;
    };
    cursor = omega arith;
    faults = refl;
    place = (0, omega arith, refl);
    room = tt;
    free = λ idle. not_either idle;
    hand = λ ended. not_either ended;
    tried = λ disk is. not_marked disk is;
    source = tt;
    under_way = λ runs busy. not_either busy;
  }

  whole_caused : IsCausedAmong (state faultless (core_of (whole_move m))) (copies_of (mirror m) 0) (moving_to 8 None)
  whole_caused = record {
    began = λ number p is. let first = zeros_at 128 p.disk in omega (arith, first);
    since = λ number p is. let none = none_at_opening 8 number None in omega (arith, none);
    tried = λ number p is tried. not_marked p.disk tried;
    own_began = omega arith;
    own_since = omega arith;
    failed = λ e. not_none e;
  }

  whole_runs : copy_ends (core_of (whole_move m)) ≡ None
  unfolding has_bit has
  whole_runs = refl

  -- so that what is asked waits for its commit
  whole_done : copy_state (core_of (whole_move m)) ≡ copy.Done
  unfolding has_bit
  whole_done = refl

  whole_waits : is_held_by_move (core_of (whole_move m)) a_write ≡ true
  unfolding has_bit
  whole_waits = refl

whole_stays : (m : Mode) → stays_fresh (core_of (whole_move m)) first_copy ≡ true
unfolding has_bit
whole_stays m = refl

whole_numbers : (m : Mode) → 3 + updates_left (core_of (whole_move m)) < 2 ^ 32
unfolding has_bit has
whole_numbers mode.Active = omega arith
whole_numbers mode.Passive = omega arith
whole_numbers mode.Off = omega arith

whole_goes : (m : Mode) → IsGoing (core_of (whole_move m))
whole_goes m = record {
  fitting = whole_fits m;
  told = whole_told m;
  status = status_is_sound m fresh;
  owned = whole_owns m;
  tickets = tt;
  queue = refl;
  pinned = λ lv group. refl;
  requests = tt;
  copy = whole_copy m;
  hands = λ n. omega arith;
  behind = λ p is. none_behind m false p is;
  reviewed = whole_runs m;
  fresh = has_fresh m (core_of (whole_move m)) (whole_stays m);
  clearings = λ p held clear. twice_fails (calls_stale (status_of fresh) p) held clear;
  numbers = whole_numbers m;
}

whole_is_sound : (m : Mode) → IsSound (state faultless (core_of (whole_move m)))
whole_is_sound m = let origin = true_to_origin m in
    sound_while_on _ refl (record { power = refl; freed = refl }) (whole_fits m) (whole_told m) (placed m (status_of destination_stale)) none_out (record { going = whole_goes m; rows = tt; caused = tt; chosen = tt })
    (record { counted = tt; answered = tt; copy = whole_caused m; origin = record { since = origin.since; votes = origin.votes; rows = origin.rows; still_missing = origin.still_missing; missing = origin.missing; stale = λ p is. none_wanted p is } })

-- ---- it has ended

module _ (m : Mode) where
  ended_fits : IsFitting (core_of (ended_move m))
  ended_fits = fitting (ended_move m) (omega arith) (omega arith) (omega arith) no_entries (notes_fit m)

  ended_told : IsTold (core_of (ended_move m))
  ended_told = record { ordered = tt; table = record { ascending = tt; still = tt }; each = λ id. refl; requests = tt }

  ended_owns : AreOwned (core_of (ended_move m))
  ended_owns (owner.Data id target) = refl
  ended_owns (owner.Status disk) = owned m (owner.Status disk)
  ended_owns (owner.Note disk) = owned m (owner.Note disk)
  ended_owns owner.Copy = refl

  ended_copy : IsCopy (core_of (ended_move m)) (moving_to 3 (Some ending.SyncFailed))
  unfolding has_bit
  ended_copy = record {
    row = mirror m;
    volume = refl;
    lp = omega arith;
    kind = record {
      from = second_copy;
      its = refl;
      free = refl;
      member = member 2;
      member_is = refl;
      inside = omega arith;
      apart = refl;
      there = refl;
      called = refl;
      clear = λ runs whole. not_so whole;
      fresh = refl;
      ends = λ e. let failed_is : Some ending.SyncFailed ≡ Some ending.Done = e in cc;
    };
    cursor = omega arith;
    faults = refl;
    place = (0, omega arith, refl);
    room = tt;
    free = λ idle. not_either idle;
    hand = λ ended. refl;
    tried = λ disk is. not_marked disk is;
    source = tt;
    under_way = λ runs busy. not_either busy;
  }

  ended_caused : IsCausedAmong (state third_fails (core_of (ended_move m))) (copies_of (mirror m) 0) (moving_to 3 (Some ending.SyncFailed))
  ended_caused = record {
    began = λ number p is. let first = zeros_at 128 p.disk in omega (arith, first);
    since = λ number p is. let none = none_at_opening 3 number (Some ending.SyncFailed) in omega (arith, none);
    tried = λ number p is tried. not_marked p.disk tried;
    own_began = omega arith;
    own_since = omega arith;
    failed = λ e. inl (omega arith);
  }

ended_stays : (m : Mode) → stays_fresh (core_of (ended_move m)) first_copy ≡ true
unfolding has_bit
ended_stays m = refl

ended_numbers : (m : Mode) → 3 + updates_left (core_of (ended_move m)) < 2 ^ 32
unfolding has_bit has
ended_numbers mode.Active = omega arith
ended_numbers mode.Passive = omega arith
ended_numbers mode.Off = omega arith

ended_goes : (m : Mode) → IsGoing (core_of (ended_move m))
ended_goes m = record {
  fitting = ended_fits m;
  told = ended_told m;
  status = status_is_sound m fresh;
  owned = ended_owns m;
  tickets = tt;
  queue = refl;
  pinned = λ lv group. refl;
  requests = tt;
  copy = ended_copy m;
  hands = λ n. omega arith;
  behind = λ p is. none_behind m false p is;
  reviewed = refl;
  fresh = has_fresh m (core_of (ended_move m)) (ended_stays m);
  clearings = λ p held clear. twice_fails (calls_stale (status_of fresh) p) held clear;
  numbers = ended_numbers m;
}

ended_is_sound : (m : Mode) → IsSound (state third_fails (core_of (ended_move m)))
ended_is_sound m = let origin = true_to_origin m in
    sound_while_on _ refl (record { power = refl; freed = refl }) (ended_fits m) (ended_told m) (placed m (status_of destination_stale)) none_out (record { going = ended_goes m; rows = tt; caused = tt; chosen = tt })
    (record { counted = tt; answered = tt; copy = ended_caused m; origin = record { since = λ disk. let none = zeros_at 128 disk in omega (arith, none); votes = origin.votes; rows = origin.rows; still_missing = origin.still_missing; missing = λ disk is. inl is; stale = λ p is. none_wanted p is } })

pub moves_are_sound : MovesAreSound
moves_are_sound m = record { open_is = open_is_sound m; whole_is = whole_is_sound m; ended_is = ended_is_sound m; done = whole_done m; waits = whole_waits m }

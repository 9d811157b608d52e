-- A session with a write that has missed the destination of a move.
use Rattle.std.proofs.Common.{◌≡◌, inl, ◌<◌, ◌+◌, ◌-◌, ◌^◌, ℕ, zero, suc, Bool, true, false, ◌&&◌, ◌||◌, [], ◌∷◌, Some, None, refl, ap, sym, ◌∙◌, arith}
use Rattle.std.specs.Prelude.{◌≢◌, ◌==◌, is_some, if◌then◌else◌, slice_index_or}
use Rattle.lvm_num.specs.Bits.{has_bit}
use Rattle.lvm_num.specs.Disks.{has}
use Rattle.lvm_num.specs.Votes.{votes_by}
use Rattle.lvm_num.specs.Descriptor.{copies_of, is_pp}
use Rattle.lvm_num.specs.declared.place.Pp.{Pp}
use Rattle.lvm_num.specs.declared.descriptor.Mode.TheVariants as mode
use Rattle.lvm_num.specs.Status.{calls_stale}
use Rattle.lvm_num.proofs.BitsLemmas.{has-none}
use Rattle.lvm_num.proofs.Booleans.{not_so, not_either}
use Rattle.lvm_kept.specs.Examples.{member, mirror}
use Rattle.lvm_kept.specs.passed.Vol.{Begun}
use Rattle.lvm_path.specs.declared.target.Target.{Target}
use Rattle.lvm_status.specs.Runs.{IsSoundStatus}
use Rattle.lvm_status.specs.Update.{seen}
use Rattle.lvm_session.specs.declared.answers.CopyState.TheVariants as copy
use Rattle.lvm_session.specs.declared.bringing.CopyEnd.TheVariants as ending
use Rattle.lvm_session.specs.declared.flown.Owner.TheVariants as owner
use Rattle.lvm_session.specs.State.{Core}
use Rattle.lvm_session.specs.Calls.{copy_state}
use Rattle.lvm_session.specs.Enabled.{first_event}
use Rattle.lvm_session.specs.declared.event.Event.TheVariants as event
use Rattle.lvm_session.specs.Left.{updates_left}
use Rattle.lvm_session.specs.Owners.{AreOwned, target_flies}
use Rattle.lvm_session.specs.Requests.{IsOpenOne, is_left_out}
use Rattle.lvm_session.specs.Causes.{AreCaused, AreCounted, IsCausedAmong, IsChosenSince, IsTrueToOrigin, faults_at_opening}
use Rattle.lvm_session.specs.Sound.{IsAsked, IsCopy, IsFitting, IsGoing, IsSound, IsTold, count_if, stays_fresh}
use Rattle.lvm_session.specs.Worked.{a_write, begun_write, first_copy, fresh, second_copy, status_of}
use Rattle.lvm_session.specs.WorkedMoves.{free_destination, moving_to, destination_stale}
use Rattle.lvm_session.proofs.RequestsLemmas.{laid_in, shaped, waits_with}
use Rattle.lvm_session.proofs.SoundLemmas.{sound_while_on}
use Rattle.lvm_session.proofs.WorkedLemmas.Parts.{has_fresh, idle_is_sound, none_behind, none_out, none_written, not_marked, notes_fit, placed, zeros_at}
use Rattle.lvm_session.proofs.WorkedLemmas.Whole.{begun_so, fitting, no_entries, owned, true_to_origin}
use Rattle.lvm_keeps_events.specs.Missed.{MissedWritesWait, missed_write, missing, missing_moment}

abbrev here : Core
here = (missing destination_stale).core

-- no partition is stale by what is committed
none_stale : (p : Pp) → calls_stale (status_of fresh) p ≡ false
none_stale p = ap (λ (z : Bool). (0 == p.disk && z) || ((1 == p.disk && z) || ((2 == p.disk && z) || false))) (has-none 127 p.pp) ∙ by (0 == p.disk) (1 == p.disk) (2 == p.disk)
  where
    by : (a b c : Bool) → (a && false) || ((b && false) || ((c && false) || false)) ≡ false
    by true true true = refl
    by true true false = refl
    by true false true = refl
    by true false false = refl
    by false true true = refl
    by false true false = refl
    by false false true = refl
    by false false false = refl

-- ---- the request

differ : (i j : ℕ) (d : Target) → i < j → j < 3 → (slice_index_or missed_write.request.targets.items i d).pp ≢ (slice_index_or missed_write.request.targets.items j d).pp
differ zero zero d below within e = absurd (omega (arith, below))
differ zero (suc zero) d below within e = let disks : 0 ≡ 1 = ap (λ (p : Pp). p.disk) e in absurd (omega (arith, disks))
differ zero (suc (suc zero)) d below within e = let disks : 0 ≡ 2 = ap (λ (p : Pp). p.disk) e in absurd (omega (arith, disks))
differ zero (suc (suc (suc j))) d below within e = absurd (omega (arith, within))
differ (suc zero) zero d below within e = absurd (omega (arith, below))
differ (suc zero) (suc zero) d below within e = absurd (omega (arith, below))
differ (suc zero) (suc (suc zero)) d below within e = let disks : 1 ≡ 2 = ap (λ (p : Pp). p.disk) e in absurd (omega (arith, disks))
differ (suc zero) (suc (suc (suc j))) d below within e = absurd (omega (arith, within))
differ (suc (suc i)) j d below within e = absurd (omega (arith, below, within))

asked_so : IsAsked (Begun begun_write ∷ []) missed_write
asked_so = record { request = begun_write; told = refl; client = refl; vol = refl; at = refl; count = refl; write = refl; length = λ e. refl; place = refl; outcome = refl; answered = λ e. not_either e }

-- a copy is one of its targets
is_target : (p : Pp) → is_pp p first_copy || (is_pp p second_copy || false) ≡ true → (is_pp p first_copy || (is_pp p second_copy || (is_pp p free_destination || false))) || is_left_out here a_write p ≡ true
is_target p = by (is_pp p first_copy) (is_pp p second_copy) (is_pp p free_destination) (is_left_out here a_write p)
  where
    by : (a b c d : Bool) → a || (b || false) ≡ true → (a || (b || (c || false))) || d ≡ true
    by true b c d e = refl
    by false true c d e = refl
    by false false c d e = not_so e

request : IsOpenOne here missed_write
unfolding has_bit
request =
    waits_with refl (laid_in (mirror mode.Off) refl (omega arith) (omega arith) (omega arith) (omega arith) (omega arith) (omega arith))
    (record {
      shape = shaped (record { copy = refl; sector = refl; there = refl }, (record { copy = refl; sector = refl; there = refl }, (record { copy = (refl, refl, refl); sector = refl; there = refl }, tt))) (refl, refl) refl tt differ (λ past. refl) (λ read. not_either read);
      ready = record { free = λ past. refl; recorded = (refl, refl, refl); wanted = λ past two. refl; named = λ has two. refl; dirty = λ has two. refl };
      judged = λ write. record { uncaught = (refl, (refl, (refl, tt))); due = λ waits. refl; missed = λ waits. (refl, (refl, (refl, tt))); all = λ begun p among. is_target p among; place = λ begun p among. not_so among };
    })

caused : AreCaused (missing destination_stale).device here missed_write
unfolding has_bit
caused waits = (λ e. not_so e, (λ e. not_so e, (λ e. omega arith, tt)))

counted : AreCounted (missing destination_stale) missed_write
counted = (record { began = omega arith; since = omega arith }, (record { began = omega arith; since = omega arith }, (record { began = omega arith; since = omega arith }, tt)))

-- ---- the move

move : IsCopy here (moving_to 3 (Some ending.SyncFailed))
unfolding has_bit
move = record {
  row = mirror mode.Off;
  volume = refl;
  lp = omega arith;
  kind = record {
    from = second_copy;
    its = refl;
    free = refl;
    member = member 2;
    member_is = refl;
    inside = omega arith;
    apart = refl;
    there = refl;
    called = refl;
    clear = λ runs whole. not_so whole;
    fresh = refl;
    ends = λ e. let failed_is : Some ending.SyncFailed ≡ Some ending.Done = e in cc;
  };
  cursor = omega arith;
  faults = refl;
  place = (0, omega arith, refl);
  room = tt;
  free = λ idle. not_either idle;
  hand = λ ended. refl;
  tried = λ disk is. not_marked disk is;
  source = tt;
  under_way = λ runs busy. not_either busy;
}

none_at_opening : (number : ℕ) → faults_at_opening (moving_to 3 (Some ending.SyncFailed)) number ≡ 0
none_at_opening number = zeros_at 4 (number - 1)

move_caused : IsCausedAmong (missing destination_stale) (copies_of (mirror mode.Off) 0) (moving_to 3 (Some ending.SyncFailed))
move_caused = record {
  began = λ number p is. let first = zeros_at 128 p.disk in omega (arith, first);
  since = λ number p is. let none = none_at_opening number in omega (arith, none);
  tried = λ number p is tried. not_marked p.disk tried;
  own_began = omega arith;
  own_since = omega arith;
  failed = λ e. inl (omega arith);
}

chosen : IsChosenSince here (moving_to 3 (Some ending.SyncFailed)) missed_write
chosen waits older number p is = let none = none_at_opening number in ((λ e. omega (arith, none), λ e. omega arith), ((λ e. omega (arith, none), λ e. omega arith), ((λ e. omega (arith, none), λ e. omega arith), tt)))

-- ---- the session

fits : IsFitting here
fits = fitting (missing_moment destination_stale) (omega arith) (omega arith) (omega arith) no_entries (notes_fit mode.Off)

told : IsTold here
told = record { ordered = begun_so; table = record { ascending = (tt, tt); still = (λ e. refl, tt) }; each = λ id. by (1 == id); requests = (asked_so, tt) }
  where
    by : (t : Bool) → is_some (if t then Some begun_write else None) && true ≡ t || false
    by true = refl
    by false = refl

none_flies : (target : ℕ) → target_flies target missed_write ≡ false
none_flies zero = refl
none_flies (suc zero) = refl
none_flies (suc (suc zero)) = refl
none_flies (suc (suc (suc target))) = refl

owns : AreOwned here
owns (owner.Data id target) = by (1 == id) (target_flies target missed_write) (none_flies target)
  where
    by : (s t : Bool) → t ≡ false → ◌≡◌ {A = ℕ} 0 (count_if (s && t || false))
    by true t e = sym (ap (λ (u : Bool). count_if (u || false)) e)
    by false t e = refl
owns (owner.Status disk) = owned mode.Off (owner.Status disk)
owns (owner.Note disk) = owned mode.Off (owner.Note disk)
owns owner.Copy = refl

status_is_sound : IsSoundStatus (seen here.status)
unfolding votes_by has_bit has
status_is_sound = idle_is_sound _ refl none_written refl (λ disk is. is)

stays : stays_fresh here first_copy ≡ true
unfolding has_bit
stays = refl

numbers : 3 + updates_left here < 2 ^ 32
unfolding has_bit has
numbers = omega arith

going : IsGoing here
going = record {
  fitting = fits;
  told = told;
  status = status_is_sound;
  owned = owns;
  tickets = tt;
  queue = refl;
  pinned = λ lv group. refl;
  requests = (request, tt);
  copy = move;
  hands = λ n. omega arith;
  behind = λ p is. none_behind mode.Off false p is;
  reviewed = refl;
  fresh = has_fresh mode.Off here stays;
  clearings = λ p held clear. not_so (sym (ap (λ b. b || b) (none_stale p)) ∙ held);
  numbers = numbers;
}

origin : IsTrueToOrigin (missing destination_stale)
origin = let o = true_to_origin mode.Off in record {
  since = λ disk. let none = zeros_at 128 disk in omega (arith, none);
  votes = o.votes;
  rows = o.rows;
  still_missing = o.still_missing;
  missing = λ disk is. inl is;
  stale = λ p is. inl (sym (ap (λ b. (b || b) || calls_stale (status_of destination_stale) p) (none_stale p)) ∙ is);
}

is_sound : IsSound (missing destination_stale)
is_sound =
    sound_while_on _ refl (record { power = refl; freed = refl }) fits told (placed mode.Off (status_of destination_stale)) none_out (record { going = going; rows = tt; caused = (caused, tt); chosen = (chosen, tt) })
    (record { counted = (counted, tt); answered = (tt, tt); copy = move_caused; origin = origin })

-- ---- what comes next

next_one : first_event here ≡ Some event.StartStatus
unfolding votes_by has_bit has
next_one = refl

-- it has ended, and is told as running
still_runs : copy_state here ≡ copy.Running 3
unfolding has_bit
still_runs = refl

none_next : first_event (missing fresh).core ≡ None
unfolding votes_by has_bit has
none_next = refl

pub missed_writes_wait : MissedWritesWait
unfolding has_bit
missed_writes_wait = record { sound = is_sound; next = next_one; runs = still_runs; waits = none_next; unsound = λ r. not_so (sym ((r.judged refl).missed refl).1.1.0) }

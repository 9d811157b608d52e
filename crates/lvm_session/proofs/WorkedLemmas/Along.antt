-- A write that goes to the place of a move too.
use Rattle.std.proofs.Common.{◌≡◌, ℕ, zero, suc, ◌<◌, ◌+◌, ◌^◌, Bool, true, false, ◌&&◌, ◌||◌, [], ◌∷◌, Some, None, refl, sym, ap, ◌∙◌, arith}
use Rattle.std.specs.Prelude.{◌≢◌, ◌==◌, is_some, slice_get, slice_index_or, if◌then◌else◌}
use Rattle.std.proofs.lemmas.Bool.Decides.{nat_tests}
use Rattle.lvm_num.specs.Bits.{has_bit}
use Rattle.lvm_num.specs.Disks.{has}
use Rattle.lvm_num.specs.Descriptor.{copies_of, is_pp}
use Rattle.lvm_num.specs.declared.place.Pp.{Pp}
use Rattle.lvm_num.specs.declared.descriptor.Mode.TheVariants as mode
use Rattle.lvm_num.specs.Status.{calls_stale}
use Rattle.lvm_num.proofs.DisksLemmas.{has-zero}
use Rattle.lvm_num.proofs.Booleans.{same_turned, not_so, not_either, twice_fails}
use Rattle.lvm_kept.specs.Examples.{member, mirror}
use Rattle.lvm_kept.specs.passed.Vol.{Begun}
use Rattle.lvm_path.specs.passed.SchedWritesTargetState as stage
use Rattle.lvm_path.specs.declared.target.Target.{Target}
use Rattle.lvm_session.specs.declared.flown.Owner.TheVariants as owner
use Rattle.lvm_session.specs.State.{Core, State, state}
use Rattle.lvm_session.specs.Judging.{destination_aims}
use Rattle.lvm_session.specs.Bringing.{copy_ends}
use Rattle.lvm_session.specs.Owners.{AreOwned, IsDataOf, target_flies}
use Rattle.lvm_session.specs.Left.{updates_left}
use Rattle.lvm_session.specs.Requests.{IsOpenOne, is_left_out}
use Rattle.lvm_session.specs.Causes.{AreCaused, AreCounted, IsCausedAmong, IsChosenSince, IsTrueToOrigin}
use Rattle.lvm_session.specs.Sound.{count_if, out_with, stays_fresh, IsAsked, IsCopy, IsFitting, IsTold, IsGoing, IsSound}
use Rattle.lvm_session.specs.Worked.{a_write, begun_write, core_of, faultless, first_copy, fresh, second_copy, status_of}
use Rattle.lvm_session.specs.WorkedMoves.{WritesGoAlong, along, free_destination, moving_to, on_destination, destination_flight, destination_stale, write_along}
use Rattle.lvm_session.proofs.Small.{not_none}
use Rattle.lvm_session.proofs.SoundLemmas.{sound_while_on}
use Rattle.lvm_session.proofs.RequestsLemmas.{laid_in, shaped, waits_with}
use Rattle.lvm_session.proofs.WorkedLemmas.Parts.{has_fresh, no_note_flies, none_behind, not_marked, notes_fit, placed, status_is_sound, zeros_at}
use Rattle.lvm_session.proofs.WorkedLemmas.Whole.{begun_so, fitting, no_entries, true_to_origin}
use Rattle.lvm_session.proofs.WorkedLemmas.Moved.{none_at_opening, none_wanted}

abbrev here : Core
here = core_of along

abbrev out : State
out = state (record faultless { flights = destination_flight ∷ [] }) here

-- ---- its transfer

first_not : (k : ℕ) → (0 == suc k) ≡ false
first_not k = grind (arith, nat_tests)

last_not : (k : ℕ) → (suc (suc (suc k)) == 2) ≡ false
last_not k = grind (arith, nat_tests)

-- that of the third target is out, and no other
third_flies : (target : ℕ) → target_flies target write_along ≡ (target == 2)
third_flies zero = refl
third_flies (suc zero) = refl
third_flies (suc (suc zero)) = refl
third_flies (suc (suc (suc target))) = sym (last_not target)

owned : AreOwned here
owned (owner.Data id target) = by (id == 1) (target == 2) (1 == id) (target_flies target write_along) (same_turned 1 id) (third_flies target)
  where
    by : (a b c d : Bool) → c ≡ a → d ≡ b → 0 + count_if (a && b) ≡ count_if (c && d || false)
    by true true c d e f = sym (ap (λ (t : Bool). count_if (t && d || false)) e ∙ ap (λ (t : Bool). count_if (t || false)) f)
    by true false c d e f = sym (ap (λ (t : Bool). count_if (t && d || false)) e ∙ ap (λ (t : Bool). count_if (t || false)) f)
    by false b c d e f = sym (ap (λ (t : Bool). count_if (t && d || false)) e)
owned (owner.Status disk) = sym (ap (λ (t : Bool). count_if t) (has-zero disk))
owned (owner.Note disk) = sym (ap (λ n. count_if (is_some n)) (no_note_flies mode.Off disk))
owned owner.Copy = refl

carries : (k : ℕ) → k < 1 → slice_get destination_flight.buf.sectors k ≡ slice_get begun_write.blocks k
carries zero below = refl
carries (suc k) below = absurd (omega (arith, below))

its : IsDataOf here 1 2 destination_flight
its = record {
  place = 0;
  request = write_along;
  there = refl;
  own = refl;
  aim = on_destination stage.Flying;
  aim_is = refl;
  moves = record { disk_is = refl; first = refl; count = refl; write = refl; carries = λ write k below. carries k below };
}

one_out : (n : ℕ) → out_with (record faultless { flights = destination_flight ∷ [] }) here n ≡ count_if (slice_index_or here.pool n false)
one_out zero = refl
one_out (suc n) = ap (λ (t : Bool). 0 + count_if t + 0 + 0) (first_not n)

-- ---- its request

asked_so : IsAsked (Begun begun_write ∷ []) write_along
asked_so = record { request = begun_write; told = refl; client = refl; vol = refl; at = refl; count = refl; write = refl; length = λ e. refl; place = refl; outcome = refl; answered = λ e. not_either e }

told : IsTold here
told = record { ordered = begun_so; table = record { ascending = (tt, tt); still = (λ e. refl, tt) }; each = λ id. by (1 == id); requests = (asked_so, tt) }
  where
    by : (t : Bool) → is_some (if t then Some begun_write else None) && true ≡ t || false
    by true = refl
    by false = refl

differ : (i j : ℕ) (d : Target) → i < j → j < 3 → (slice_index_or write_along.request.targets.items i d).pp ≢ (slice_index_or write_along.request.targets.items j d).pp
differ zero zero d below within e = absurd (omega (arith, below))
differ zero (suc zero) d below within e = let disks : 0 ≡ 1 = ap (λ (p : Pp). p.disk) e in absurd (omega (arith, disks))
differ zero (suc (suc zero)) d below within e = let disks : 0 ≡ 2 = ap (λ (p : Pp). p.disk) e in absurd (omega (arith, disks))
differ zero (suc (suc (suc j))) d below within e = absurd (omega (arith, within))
differ (suc zero) zero d below within e = absurd (omega (arith, below))
differ (suc zero) (suc zero) d below within e = absurd (omega (arith, below))
differ (suc zero) (suc (suc zero)) d below within e = let disks : 1 ≡ 2 = ap (λ (p : Pp). p.disk) e in absurd (omega (arith, disks))
differ (suc zero) (suc (suc (suc j))) d below within e = absurd (omega (arith, within))
differ (suc (suc i)) j d below within e = absurd (omega (arith, below, within))

-- each copy, and the place, is one of its targets
is_target : (p : Pp) → is_pp p first_copy || (is_pp p second_copy || false) ≡ true → (is_pp p first_copy || (is_pp p second_copy || (is_pp p free_destination || false))) || is_left_out here a_write p ≡ true
is_target p = by (is_pp p first_copy) (is_pp p second_copy) (is_pp p free_destination) (is_left_out here a_write p)
  where
    by : (a b c d : Bool) → a || (b || false) ≡ true → (a || (b || (c || false))) || d ≡ true
    by true b c d e = refl
    by false true c d e = refl
    by false false c d e = not_so e

is_along : (p : Pp) → is_pp p free_destination || false ≡ true → is_pp p first_copy || (is_pp p second_copy || (is_pp p free_destination || false)) ≡ true
is_along p = by (is_pp p first_copy) (is_pp p second_copy) (is_pp p free_destination)
  where
    by : (a b c : Bool) → c || false ≡ true → a || (b || (c || false)) ≡ true
    by true b c e = refl
    by false true c e = refl
    by false false c e = e

request : IsOpenOne here write_along
unfolding has_bit
request =
    waits_with refl (laid_in (mirror mode.Off) refl (omega arith) (omega arith) (omega arith) (omega arith) (omega arith) (omega arith))
    (record {
      shape = shaped (record { copy = refl; sector = refl; there = refl }, (record { copy = refl; sector = refl; there = refl }, (record { copy = (refl, refl, refl); sector = refl; there = refl }, tt))) (omega arith, λ write. refl) refl tt differ (λ past. refl) (λ read. not_either read);
      ready = record { free = λ past. refl; recorded = (refl, refl, refl); wanted = λ past two. refl; named = λ has two. refl; dirty = λ has two. refl };
      judged = λ write. record { uncaught = (refl, (refl, (refl, tt))); due = λ waits. not_so waits; missed = λ waits. not_so waits; all = λ begun p among. is_target p among; place = λ begun p among. is_along p among };
    })

caused : AreCaused out.device here write_along
unfolding has_bit
caused waits = (λ e. not_so e, (λ e. not_so e, (λ e. not_so e, tt)))

counted : AreCounted out write_along
counted = (record { began = omega arith; since = omega arith }, (record { began = omega arith; since = omega arith }, (record { began = omega arith; since = omega arith }, tt)))

-- ---- the move

move : IsCopy here (moving_to 3 None)
unfolding has_bit
move = record {
  row = mirror mode.Off;
  volume = refl;
  lp = omega arith;
  kind = record {
    from = second_copy;
    its = refl;
    free = refl;
    member = member 2;
    member_is = refl;
    inside = omega arith;
    apart = refl;
    there = refl;
    called = refl;
    clear = λ runs whole. not_so whole;
    fresh = refl;
    ends = λ e. not_none e;
  };
  cursor = omega arith;
  faults = refl;
  place = (0, omega arith, refl);
  room = tt;
  free = λ idle. not_either idle;
  hand = λ ended. not_either ended;
  tried = λ disk is. not_marked disk is;
  source = tt;
  under_way = λ runs busy. not_either busy;
}

move_caused : IsCausedAmong out (copies_of (mirror mode.Off) 0) (moving_to 3 None)
move_caused = record {
  began = λ number p is. let first = zeros_at 128 p.disk in omega (arith, first);
  since = λ number p is. let none = none_at_opening 3 number None in omega (arith, none);
  tried = λ number p is tried. not_marked p.disk tried;
  own_began = omega arith;
  own_since = omega arith;
  failed = λ e. not_none e;
}

chosen : IsChosenSince here (moving_to 3 None) write_along
chosen waits older number p is = let none = none_at_opening 3 number None in ((λ e. omega (arith, none), λ e. omega arith), ((λ e. omega (arith, none), λ e. omega arith), ((λ e. omega (arith, none), λ e. omega arith), tt)))

-- ---- the session

fits : IsFitting here
fits = fitting along (omega arith) (omega arith) (omega arith) no_entries (notes_fit mode.Off)

stays : stays_fresh here first_copy ≡ true
unfolding has_bit
stays = refl

runs_on : copy_ends here ≡ None
unfolding has_bit has
runs_on = refl

numbers : 3 + updates_left here < 2 ^ 32
unfolding has_bit has
numbers = omega arith

going : IsGoing here
going = record {
  fitting = fits;
  told = told;
  status = status_is_sound mode.Off fresh;
  owned = owned;
  tickets = (refl, tt);
  queue = refl;
  pinned = λ lv group. refl;
  requests = (request, tt);
  copy = move;
  hands = λ n. omega arith;
  behind = λ p is. none_behind mode.Off false p is;
  reviewed = runs_on;
  fresh = has_fresh mode.Off here stays;
  clearings = λ p held clear. twice_fails (calls_stale (status_of fresh) p) held clear;
  numbers = numbers;
}

origin : IsTrueToOrigin out
origin = let o = true_to_origin mode.Off in record { since = o.since; votes = o.votes; rows = o.rows; still_missing = o.still_missing; missing = o.missing; stale = λ p is. none_wanted p is }

is_sound : IsSound out
is_sound =
    sound_while_on _ refl (record { power = refl; freed = refl }) fits told (placed mode.Off (status_of destination_stale)) one_out
    (record { going = going; rows = (record { ticket = refl; long = refl; disk = refl; own = its }, tt); caused = (caused, tt); chosen = (chosen, tt) })
    (record { counted = (counted, tt); answered = (tt, tt); copy = move_caused; origin = origin })

goes_along : destination_aims here a_write ≡ free_destination ∷ []
goes_along = refl

pub writes_go_along : WritesGoAlong
writes_go_along = record { aims = goes_along; sound = is_sound; unsound = λ r. not_so ((r.judged refl).place refl free_destination refl) }

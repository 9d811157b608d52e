-- A write that waits for its entry.
use Rattle.std.proofs.Common.{◌≡◌, ℕ, zero, suc, ◌<◌, ◌+◌, ◌^◌, Bool, true, false, ◌&&◌, ◌||◌, [], ◌∷◌, Some, None, refl, sym, ap, arith}
use Rattle.std.specs.Prelude.{◌≢◌, ◌==◌, is_some, slice_index_or, if◌then◌else◌}
use Rattle.lvm_num.specs.Bits.{has_bit}
use Rattle.lvm_num.specs.Disks.{has}
use Rattle.lvm_num.specs.Votes.{votes_by}
use Rattle.lvm_num.specs.declared.place.Pp.{Pp}
use Rattle.lvm_num.specs.declared.descriptor.Mode.TheVariants as mode
use Rattle.lvm_num.specs.Status.{calls_stale}
use Rattle.lvm_num.proofs.Booleans.{not_so, not_either, twice_fails}
use Rattle.lvm_kept.specs.Examples.{mirror}
use Rattle.lvm_kept.specs.passed.Vol.{Begun}
use Rattle.lvm_path.specs.passed.SchedWritesTargetState as stage
use Rattle.lvm_path.specs.declared.target.Target.{Target}
use Rattle.lvm_path.specs.declared.request.Phase.TheVariants as phase
use Rattle.lvm_session.specs.declared.flown.Owner.TheVariants as owner
use Rattle.lvm_session.specs.declared.open.Open.{Open}
use Rattle.lvm_session.specs.State.{state}
use Rattle.lvm_session.specs.Enabled.{pinning}
use Rattle.lvm_session.specs.declared.event.Event.TheVariants as event
use Rattle.lvm_session.specs.Owners.{AreOwned, target_flies}
use Rattle.lvm_session.specs.Left.{updates_left}
use Rattle.lvm_session.specs.Requests.{IsOpenOne}
use Rattle.lvm_session.specs.Causes.{IsCaused, IsCounted}
use Rattle.lvm_session.specs.Sound.{count_if, IsAsked, IsFitting, IsTold, IsGoing, IsSound}
use Rattle.lvm_session.specs.Worked.{first_copy, second_copy, target_on, two_targets, waiting, asking, a_write, begun_write, core_of, status_of, fresh, faultless, WaitingWritesPin}
use Rattle.lvm_session.proofs.SoundLemmas.{sound_while_on}
use Rattle.lvm_session.proofs.RequestsLemmas.{laid_in, shaped, waits_with}
use Rattle.lvm_session.proofs.WorkedLemmas.Parts.{has_fresh, placed, status_is_sound, none_behind, notes_fit, none_out}
use Rattle.lvm_session.proofs.WorkedLemmas.Whole.{no_entries, begun_so, first_stays, fitting, owned, true_to_origin}

abbrev entering : Open
entering = asking 1 a_write phase.WantEntry two_targets

none_flies : (target : ℕ) → target_flies target entering ≡ false
none_flies zero = refl
none_flies (suc zero) = refl
none_flies (suc (suc target)) = refl

owns : AreOwned (core_of waiting)
owns (owner.Data id target) = by (1 == id) (target_flies target entering) (none_flies target)
  where
    by : (s t : Bool) → t ≡ false → ◌≡◌ {A = ℕ} 0 (count_if (s && t || false))
    by true t e = sym (ap (λ (u : Bool). count_if (u || false)) e)
    by false t e = refl
owns (owner.Status disk) = owned mode.Active (owner.Status disk)
owns (owner.Note disk) = owned mode.Active (owner.Note disk)
owns owner.Copy = refl

asked_so : IsAsked (Begun begun_write ∷ []) entering
asked_so = record { request = begun_write; told = refl; client = refl; vol = refl; at = refl; count = refl; write = refl; length = λ e. refl; place = refl; outcome = refl; answered = λ e. not_either e }

told : IsTold (core_of waiting)
told = record { ordered = begun_so; table = record { ascending = (tt, tt); still = (λ e. refl, tt) }; each = λ id. by (1 == id); requests = (asked_so, tt) }
  where
    by : (t : Bool) → is_some (if t then Some begun_write else None) && true ≡ t || false
    by true = refl
    by false = refl

differ : (i j : ℕ) (d : Target) → i < j → j < 2 → (slice_index_or two_targets i d).pp ≢ (slice_index_or two_targets j d).pp
differ zero zero d below within e = absurd (omega (arith, below))
differ zero (suc zero) d below within e = let disks : 0 ≡ 1 = ap (λ (p : Pp). p.disk) e in absurd (omega (arith, disks))
differ zero (suc (suc j)) d below within e = absurd (omega (arith, within))
differ (suc i) j d below within e = absurd (omega (arith, below, within))

request : IsOpenOne (core_of waiting) entering
unfolding has_bit
request =
    waits_with refl (laid_in (mirror mode.Active) refl (omega arith) (omega arith) (omega arith) (omega arith) (omega arith) (omega arith))
    (record {
      shape = shaped (record { copy = refl; sector = refl; there = refl }, (record { copy = refl; sector = refl; there = refl }, tt)) (refl, refl, refl, omega arith) refl tt differ (λ past. refl) (λ read. not_either read);
      ready = record { free = λ past. refl; recorded = tt; wanted = λ past two. refl; named = λ has two. not_so has; dirty = λ has two. not_so has };
      judged = λ write. record { uncaught = (refl, (refl, tt)); due = λ waits. not_so waits; missed = λ waits. not_so waits; all = λ begun. not_so begun; place = λ begun. not_so begun };
    })

first_caused : IsCaused faultless (core_of waiting) (target_on first_copy stage.Waiting)
unfolding has_bit
first_caused e = not_so e

second_caused : IsCaused faultless (core_of waiting) (target_on second_copy stage.Waiting)
unfolding has_bit
second_caused e = not_so e

first_counted : IsCounted (state faultless (core_of waiting)) (target_on first_copy stage.Waiting)
first_counted = record { began = omega arith; since = omega arith }

second_counted : IsCounted (state faultless (core_of waiting)) (target_on second_copy stage.Waiting)
second_counted = record { began = omega arith; since = omega arith }

numbers : 3 + updates_left (core_of waiting) < 2 ^ 32
unfolding has_bit has
numbers = omega arith

fits : IsFitting (core_of waiting)
fits = fitting waiting (omega arith) (omega arith) (omega arith) no_entries (notes_fit mode.Active)

goes_on : IsGoing (core_of waiting)
goes_on = record {
  fitting = fits;
  told = told;
  status = status_is_sound mode.Active fresh;
  owned = owns;
  tickets = tt;
  queue = refl;
  pinned = λ lv group. refl;
  requests = (request, tt);
  copy = tt;
  hands = λ n. omega arith;
  behind = λ p is. none_behind mode.Active false p is;
  reviewed = refl;
  fresh = has_fresh mode.Active (core_of waiting) (first_stays mode.Active);
  clearings = λ p held clear. twice_fails (calls_stale (status_of fresh) p) held clear;
  numbers = numbers;
}

is_sound : IsSound (state faultless (core_of waiting))
is_sound = let origin = true_to_origin mode.Active in
    sound_while_on _ refl (record { power = refl; freed = refl }) fits told (placed mode.Active (status_of fresh)) none_out (record { going = goes_on; rows = tt; caused = (λ waits. (first_caused, (second_caused, tt)), tt); chosen = tt })
    (record { counted = ((record { began = first_counted.began; since = first_counted.since }, (record { began = second_counted.began; since = second_counted.since }, tt)), tt); answered = (tt, tt); copy = tt; origin = record { since = origin.since; votes = origin.votes; rows = origin.rows; still_missing = origin.still_missing; missing = origin.missing; stale = origin.stale } })

pins_next : pinning (core_of waiting) ≡ Some (event.Pin 0)
unfolding votes_by has_bit has
pins_next = refl

pub waiting_writes_pin : WaitingWritesPin
waiting_writes_pin = record { sound = is_sound; pins = pins_next }

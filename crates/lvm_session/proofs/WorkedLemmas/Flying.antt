-- A write whose first transfer is out.
use Rattle.std.proofs.Common.{◌≡◌, inl, ℕ, zero, suc, ◌<◌, ◌+◌, ◌^◌, Bool, true, false, ◌&&◌, ◌||◌, [], ◌∷◌, Some, None, refl, sym, ap, ◌∙◌, arith}
use Rattle.std.specs.Prelude.{◌≢◌, ◌==◌, is_some, slice_get, slice_index_or, option_and_then, if◌then◌else◌}
use Rattle.std.specs.Option.{option_map_or}
use Rattle.std.proofs.lemmas.Bool.Decides.{nat_tests}
use Rattle.std.proofs.lemmas.List.Elements.{All-nil, All-cons}
use Rattle.lvm_num.specs.Bits.{has_bit}
use Rattle.lvm_num.specs.Note.{IsEntry}
use Rattle.lvm_mwc.specs.Entries.{AreEntries}
use Rattle.lvm_num.specs.Disks.{has}
use Rattle.lvm_num.specs.declared.place.Pp.{Pp}
use Rattle.lvm_num.specs.declared.descriptor.Mode.TheVariants as mode
use Rattle.lvm_num.specs.Descriptor.{is_member}
use Rattle.lvm_num.specs.Status.{calls_stale}
use Rattle.lvm_num.proofs.DisksLemmas.{has-zero}
use Rattle.lvm_num.proofs.Booleans.{same_turned, not_so, not_either, or_left, twice_fails, not_first}
use Rattle.lvm_kept.specs.Examples.{mirror}
use Rattle.lvm_kept.specs.passed.Vol.{Begun}
use Rattle.lvm_mwc.specs.declared.entries.CacheEntry.{CacheEntry}
use Rattle.lvm_mwc.specs.declared.notes.DiskNotes.{DiskNotes}
use Rattle.lvm_mwc.specs.Cache.{has_disk, flight_on, no_notes}
use Rattle.lvm_path.specs.passed.SchedWritesTargetState as stage
use Rattle.lvm_path.specs.declared.target.Target.{Target}
use Rattle.lvm_session.specs.declared.flown.Owner.TheVariants as owner
use Rattle.lvm_session.specs.State.{state}
use Rattle.lvm_session.specs.Owners.{AreOwned, IsDataOf, target_flies}
use Rattle.lvm_session.specs.Left.{updates_left}
use Rattle.lvm_session.specs.Requests.{IsOpenOne}
use Rattle.lvm_session.specs.Causes.{IsCaused, IsCounted}
use Rattle.lvm_session.specs.Sound.{count_if, out_with, IsAsked, IsFitting, IsTold, IsGoing}
use Rattle.lvm_session.specs.Worked.{mirrored, first_copy, second_copy, target_on, flying_write, naming, flying, first_flight, begun_write, core_of, status_of, fresh, faultless, FlyingWritesAreSound}
use Rattle.lvm_session.proofs.SoundLemmas.{sound_while_on}
use Rattle.lvm_session.proofs.RequestsLemmas.{laid_in, shaped, waits_with}
use Rattle.lvm_session.proofs.WorkedLemmas.Parts.{has_fresh, placed, status_is_sound, none_behind}
use Rattle.lvm_session.proofs.WorkedLemmas.Whole.{begun_so, first_stays, fitting, true_to_origin}

-- ---- its notes

pub notes_named : (disk : ℕ) → has_disk (core_of flying).cache disk ≡ is_member (mirrored mode.Active) disk
notes_named disk = by (0 == disk) (1 == disk) (2 == disk)
  where
    by : (a b c : Bool) → is_some (if a then Some (naming 0) else if b then Some (naming 1) else if c then Some (no_notes 2) else None) ≡ a || (b || (c || false))
    by true b c = refl
    by false true c = refl
    by false false true = refl
    by false false false = refl

pub no_note_flies : (disk : ℕ) → flight_on (core_of flying).cache disk ≡ None
no_note_flies disk = by (0 == disk) (1 == disk) (2 == disk)
  where
    by : (a b c : Bool) → option_and_then (λ (n : DiskNotes). n.flight) (if a then Some (naming 0) else if b then Some (naming 1) else if c then Some (no_notes 2) else None) ≡ None
    by true b c = refl
    by false true c = refl
    by false false true = refl
    by false false false = refl

-- ---- its transfer

first_not : (k : ℕ) → (0 == suc k) ≡ false
first_not k = grind (arith, nat_tests)

-- the first target's transfer is out, and no other
first_flies : (target : ℕ) → target_flies target flying_write ≡ (target == 0)
first_flies zero = refl
first_flies (suc zero) = refl
first_flies (suc (suc target)) = sym (not_first (suc target))

owned : AreOwned (core_of flying)
owned (owner.Data id target) = by (id == 1) (target == 0) (1 == id) (target_flies target flying_write) (same_turned 1 id) (first_flies target)
  where
    by : (a b c d : Bool) → c ≡ a → d ≡ b → 0 + count_if (a && b) ≡ count_if (c && d || false)
    by true true c d e f = sym (ap (λ (t : Bool). count_if (t && d || false)) e ∙ ap (λ (t : Bool). count_if (t || false)) f)
    by true false c d e f = sym (ap (λ (t : Bool). count_if (t && d || false)) e ∙ ap (λ (t : Bool). count_if (t || false)) f)
    by false b c d e f = sym (ap (λ (t : Bool). count_if (t && d || false)) e)
owned (owner.Status disk) = sym (ap (λ (t : Bool). count_if t) (has-zero disk))
owned (owner.Note disk) = sym (ap (λ n. count_if (is_some n)) (no_note_flies disk))
owned owner.Copy = refl

carries : (k : ℕ) → k < 1 → slice_get first_flight.buf.sectors k ≡ slice_get begun_write.blocks k
carries zero below = refl
carries (suc k) below = absurd (omega (arith, below))

its : IsDataOf (core_of flying) 1 0 first_flight
its = record {
  place = 0;
  request = flying_write;
  there = refl;
  own = refl;
  aim = target_on first_copy stage.Flying;
  aim_is = refl;
  moves = record { disk_is = refl; first = refl; count = refl; write = refl; carries = λ write k below. carries k below };
}

out : (n : ℕ) → out_with (record faultless { flights = first_flight ∷ [] }) (core_of flying) n ≡ count_if (slice_index_or (core_of flying).pool n false)
out zero = refl
out (suc n) = ap (λ (t : Bool). 0 + count_if t + 0 + 0) (first_not n)

-- ---- its request

asked_so : IsAsked (Begun begun_write ∷ []) flying_write
asked_so = record { request = begun_write; told = refl; client = refl; vol = refl; at = refl; count = refl; write = refl; length = λ e. refl; place = refl; outcome = refl; answered = λ e. not_either e }

told : IsTold (core_of flying)
told = record { ordered = begun_so; table = record { ascending = (tt, tt); still = (λ e. refl, tt) }; each = λ id. by (1 == id); requests = (asked_so, tt) }
  where
    by : (t : Bool) → is_some (if t then Some begun_write else None) && true ≡ t || false
    by true = refl
    by false = refl

differ : (i j : ℕ) (d : Target) → i < j → j < 2 → (slice_index_or flying_write.request.targets.items i d).pp ≢ (slice_index_or flying_write.request.targets.items j d).pp
differ zero zero d below within e = absurd (omega (arith, below))
differ zero (suc zero) d below within e = let disks : 0 ≡ 1 = ap (λ (p : Pp). p.disk) e in absurd (omega (arith, disks))
differ zero (suc (suc j)) d below within e = absurd (omega (arith, within))
differ (suc i) j d below within e = absurd (omega (arith, below, within))

request : IsOpenOne (core_of flying) flying_write
unfolding has_bit
request =
    waits_with refl (laid_in (mirror mode.Active) refl (omega arith) (omega arith) (omega arith) (omega arith) (omega arith) (omega arith))
    (record {
      shape = shaped (record { copy = refl; sector = refl; there = refl }, (record { copy = refl; sector = refl; there = refl }, tt)) (omega arith, λ write. refl) refl tt differ (λ past. refl) (λ read. not_either read);
      ready = record { free = λ past. refl; recorded = inl refl; wanted = λ past two. refl; named = λ has two. refl; dirty = λ has two. refl };
      judged = λ write. record { uncaught = (refl, (refl, tt)); due = λ waits. not_so waits; missed = λ waits. not_so waits; all = λ begun p among. or_left _ among; place = λ begun p among. not_so among };
    })

first_caused : IsCaused faultless (core_of flying) (target_on first_copy stage.Flying)
unfolding has_bit
first_caused e = not_so e

second_caused : IsCaused faultless (core_of flying) (target_on second_copy stage.Waiting)
unfolding has_bit
second_caused e = not_so e

first_counted : IsCounted (state faultless (core_of flying)) (target_on first_copy stage.Flying)
first_counted = record { began = omega arith; since = omega arith }

second_counted : IsCounted (state faultless (core_of flying)) (target_on second_copy stage.Waiting)
second_counted = record { began = omega arith; since = omega arith }

numbers : 3 + updates_left (core_of flying) < 2 ^ 32
unfolding has_bit has
numbers = omega arith

pub one_entry : AreEntries (core_of flying).cache.entries
one_entry = record { most = omega arith; differ = (refl, tt); counting = All-cons IsEntry (record { lv = 1; group = 0 }) [] (record { some_lv = λ e. omega (arith, e); lv = omega arith; group = omega arith }) (All-nil IsEntry) }

fits : IsFitting (core_of flying)
fits = fitting flying (omega arith) (omega arith) (omega arith) one_entry notes_named

pub one_pin : (lv group : ℕ) → option_map_or (λ (e : CacheEntry). e.pins) (if 1 == lv && 0 == group then Some (record { lv = 1; group = 0; pins = 1 }) else None) 0 ≡ 0 + count_if (1 == lv && 0 == group)
one_pin lv group = by (1 == lv && 0 == group)
  where
    by : (t : Bool) → option_map_or (λ (e : CacheEntry). e.pins) (if t then Some (record { lv = 1; group = 0; pins = 1 }) else None) 0 ≡ 0 + count_if t
    by true = refl
    by false = refl

goes_on : IsGoing (core_of flying)
goes_on = record {
  fitting = fits;
  told = told;
  status = status_is_sound mode.Active fresh;
  owned = owned;
  tickets = (refl, tt);
  queue = refl;
  pinned = one_pin;
  requests = (request, tt);
  copy = tt;
  hands = λ n. omega arith;
  behind = λ p is. none_behind mode.Active false p is;
  reviewed = refl;
  fresh = has_fresh mode.Active (core_of flying) (first_stays mode.Active);
  clearings = λ p held clear. twice_fails (calls_stale (status_of fresh) p) held clear;
  numbers = numbers;
}

pub flying_writes_are_sound : FlyingWritesAreSound
flying_writes_are_sound = let origin = true_to_origin mode.Active in
    sound_while_on _ refl (record { power = refl; freed = refl }) fits told (placed mode.Active (status_of fresh)) out (record { going = goes_on; rows = (record { ticket = refl; long = refl; disk = refl; own = its }, tt); caused = (λ waits. (first_caused, (second_caused, tt)), tt); chosen = tt })
    (record { counted = ((record { began = first_counted.began; since = first_counted.since }, (record { began = second_counted.began; since = second_counted.since }, tt)), tt); answered = (tt, tt); copy = tt; origin = record { since = origin.since; votes = origin.votes; rows = origin.rows; still_missing = origin.still_missing; missing = origin.missing; stale = origin.stale } })

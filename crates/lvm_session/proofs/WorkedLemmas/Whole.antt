-- The sessions that are sound.
use Rattle.std.proofs.Common.{◌≡◌, inl, ℕ, zero, suc, ◌<◌, ◌≤◌, ◌+◌, ◌^◌, Bool, true, false, ◌&&◌, ◌||◌, [], ◌∷◌, Some, None, length, refl, sym, ap, arith}
use Rattle.std.specs.Prelude.{◌==◌, is_some, if◌then◌else◌}
use Rattle.lvm_num.specs.Bits.{has_bit}
use Rattle.lvm_num.specs.Disks.{has}
use Rattle.lvm_num.specs.Votes.{votes_by}
use Rattle.lvm_num.specs.declared.descriptor.Mode.{Mode}
use Rattle.lvm_num.specs.declared.descriptor.Mode.TheVariants as mode
use Rattle.std.proofs.lemmas.List.Elements.{All-nil}
use Rattle.lvm_num.specs.Note.{IsEntry}
use Rattle.lvm_num.specs.Descriptor.{is_member}
use Rattle.lvm_num.specs.Status.{calls_stale}
use Rattle.lvm_num.proofs.DisksLemmas.{has-zero}
use Rattle.lvm_num.proofs.Booleans.{not_so, not_either, twice_fails, thrice_holds}
use Rattle.lvm_kept.specs.Examples.{mirror}
use Rattle.lvm_kept.specs.passed.Vol.{Begun, Ordered}
use Rattle.lvm_mwc.specs.Entries.{AreEntries}
use Rattle.lvm_mwc.specs.Cache.{has_disk}
use Rattle.lvm_path.specs.declared.request.Phase.TheVariants as phase
use Rattle.lvm_session.specs.declared.flown.Owner.TheVariants as owner
use Rattle.lvm_session.specs.State.{state}
use Rattle.lvm_session.specs.Owners.{AreOwned, target_flies}
use Rattle.lvm_session.specs.Left.{updates_left}
use Rattle.lvm_session.specs.Requests.{IsOpenOne, IsRecorded}
use Rattle.lvm_session.specs.Causes.{IsTrueToOrigin}
use Rattle.lvm_session.specs.Sound.{count_if, stays_fresh, IsAsked, IsFitting, IsTold, IsGoing}
use Rattle.lvm_session.specs.Worked.{Moment, mirrored, first_copy, calm, held_write, asking, a_write, begun_write, core_of, status_of, fresh, faultless, BeginningsAreSound, HeldWritesAreSound}
use Rattle.lvm_session.proofs.SoundLemmas.{sound_while_on}
use Rattle.lvm_session.proofs.RequestsLemmas.{laid_in, shaped, waits_with}
use Rattle.lvm_session.proofs.WorkedLemmas.Parts.{valid, placed, notes_fit, no_note_flies, status_is_sound, none_behind, none_missing_at_first, has_fresh, none_out, no_fault}

pub no_entries : AreEntries []
no_entries = record { most = omega arith; differ = tt; counting = All-nil IsEntry }

-- ---- as it begins

pub fitting : (w : Moment) → length w.requests ≤ 4 → 1 ≤ length w.pool → length w.pool ≤ 1024 → AreEntries w.cache.entries → ((disk : ℕ) → has_disk w.cache disk ≡ is_member (mirrored w.mode) disk) → IsFitting (core_of w)
fitting w table a_buffer buffers entries notes = record {
  valid = valid w.mode;
  id = refl;
  rows = λ disk. refl;
  group = refl;
  entries = entries;
  notes = notes;
  table = table;
  most = omega arith;
  queue = refl;
  a_buffer = a_buffer;
  buffers = buffers;
  last = refl;
  room = omega arith;
}

module _ (m : Mode) where
  fits : IsFitting (core_of (calm m))
  fits = fitting (calm m) (omega arith) (omega arith) (omega arith) no_entries (notes_fit m)

  told : IsTold (core_of (calm m))
  told = record { ordered = tt; table = record { ascending = tt; still = tt }; each = λ id. refl; requests = tt }

  pub owned : AreOwned (core_of (calm m))
  owned (owner.Data id target) = refl
  owned (owner.Status disk) = sym (ap (λ (t : Bool). if t then 1 else 0) (has-zero disk))
  owned (owner.Note disk) = sym (ap (λ n. if is_some n then 1 else 0) (no_note_flies m disk))
  owned owner.Copy = refl

pub first_stays : (m : Mode) → stays_fresh (core_of (calm m)) first_copy ≡ true
unfolding has_bit
first_stays m = refl

numbers : (m : Mode) → 3 + updates_left (core_of (calm m)) < 2 ^ 32
unfolding has_bit has
numbers mode.Active = omega arith
numbers mode.Passive = omega arith
numbers mode.Off = omega arith

goes_on : (m : Mode) → IsGoing (core_of (calm m))
goes_on m = record {
  fitting = fits m;
  told = told m;
  status = status_is_sound m fresh;
  owned = owned m;
  tickets = tt;
  queue = refl;
  pinned = λ lv group. refl;
  requests = tt;
  copy = tt;
  hands = λ n. omega arith;
  behind = λ p is. none_behind m false p is;
  reviewed = refl;
  fresh = has_fresh m (core_of (calm m)) (first_stays m);
  clearings = λ p held clear. twice_fails (calls_stale (status_of fresh) p) held clear;
  numbers = numbers m;
}

pub true_to_origin : (m : Mode) → IsTrueToOrigin (state faultless (core_of (calm m)))
unfolding votes_by has_bit has
true_to_origin m = record {
  since = no_fault m;
  votes = refl;
  rows = λ disk. refl;
  still_missing = λ disk is. none_missing_at_first disk is;
  missing = λ disk is. inl is;
  stale = λ p is. inl (thrice_holds (calls_stale (status_of fresh) p) is);
}

pub beginnings_are_sound : BeginningsAreSound
beginnings_are_sound m =
    sound_while_on _ refl (record { power = refl; freed = refl }) (fits m) (told m) (placed m (status_of fresh)) none_out (record { going = goes_on m; rows = tt; caused = tt; chosen = tt })
    (record { counted = tt; answered = tt; copy = tt; origin = true_to_origin m })

-- ---- with a write that is held

-- none of its targets, of which there are none, has a transfer out
none_there : (target : ℕ) → target_flies target (asking 1 a_write phase.Held []) ≡ false
none_there zero = refl
none_there (suc target) = refl

-- it is the first request of its run
pub begun_so : Ordered 50 [] (Begun begun_write ∷ [])
begun_so = ((refl, refl, (refl, omega arith)), tt)

pub one_is_asked : IsAsked (Begun begun_write ∷ []) (asking 1 a_write phase.Held [])
one_is_asked = record {
  request = begun_write;
  told = refl;
  client = refl;
  vol = refl;
  at = refl;
  count = refl;
  write = refl;
  length = λ e. refl;
  place = refl;
  outcome = refl;
  answered = λ e. not_either e;
}

module _ (m : Mode) where
  held_fits : IsFitting (core_of (held_write m))
  held_fits = fitting (held_write m) (omega arith) (omega arith) (omega arith) no_entries (notes_fit m)

  held_is_told : IsTold (core_of (held_write m))
  held_is_told = record { ordered = begun_so; table = record { ascending = (tt, tt); still = (λ e. refl, tt) }; each = λ id. by (1 == id); requests = (one_is_asked, tt) }
    where
      by : (t : Bool) → is_some (if t then Some begun_write else None) && true ≡ t || false
      by true = refl
      by false = refl

  held_owns : AreOwned (core_of (held_write m))
  held_owns (owner.Data id target) = by (1 == id) (target_flies target (asking 1 a_write phase.Held [])) (none_there target)
    where
      by : (s t : Bool) → t ≡ false → ◌≡◌ {A = ℕ} 0 (count_if (s && t || false))
      by true t e = sym (ap (λ (u : Bool). count_if (u || false)) e)
      by false t e = refl
  held_owns (owner.Status disk) = owned m (owner.Status disk)
  held_owns (owner.Note disk) = owned m (owner.Note disk)
  held_owns owner.Copy = refl

  unrecorded : (k : Mode) → IsRecorded k phase.Held (asking 1 a_write phase.Held []).request
  unrecorded mode.Active = tt
  unrecorded mode.Passive = (refl, refl)
  unrecorded mode.Off = (refl, refl, refl)

  held_request : IsOpenOne (core_of (held_write m)) (asking 1 a_write phase.Held [])
  held_request =
      waits_with refl (laid_in (mirror m) refl (omega arith) (omega arith) (omega arith) (omega arith) (omega arith) (omega arith))
      (record {
        shape = shaped tt (refl, refl) refl tt (λ i j d below within. absurd (omega (arith, below, within))) (λ past. not_so past) (λ read. not_either read);
        ready = record { free = λ past. not_so past; recorded = unrecorded m; wanted = λ past two. not_so past; named = λ has two. not_so has; dirty = λ has two. not_so has };
        judged = λ write. record { uncaught = tt; due = λ waits. not_so waits; missed = λ waits. not_so waits; all = λ begun. not_so begun; place = λ begun. not_so begun };
      })

held_numbers : (m : Mode) → 3 + updates_left (core_of (held_write m)) < 2 ^ 32
unfolding has_bit has
held_numbers mode.Active = omega arith
held_numbers mode.Passive = omega arith
held_numbers mode.Off = omega arith

held_goes_on : (m : Mode) → IsGoing (core_of (held_write m))
held_goes_on m = record {
  fitting = held_fits m;
  told = held_is_told m;
  status = status_is_sound m fresh;
  owned = held_owns m;
  tickets = tt;
  queue = refl;
  pinned = λ lv group. refl;
  requests = (held_request m, tt);
  copy = tt;
  hands = λ n. omega arith;
  behind = λ p is. none_behind m false p is;
  reviewed = refl;
  fresh = has_fresh m (core_of (held_write m)) (first_stays m);
  clearings = λ p held clear. twice_fails (calls_stale (status_of fresh) p) held clear;
  numbers = held_numbers m;
}

pub held_writes_are_sound : HeldWritesAreSound
held_writes_are_sound m = let origin = true_to_origin m in
    sound_while_on _ refl (record { power = refl; freed = refl }) (held_fits m) (held_is_told m) (placed m (status_of fresh)) none_out (record { going = held_goes_on m; rows = tt; caused = (λ waits. tt, tt); chosen = tt })
    (record { counted = (tt, tt); answered = (tt, tt); copy = tt; origin = record { since = origin.since; votes = origin.votes; rows = origin.rows; still_missing = origin.still_missing; missing = origin.missing; stale = origin.stale } })

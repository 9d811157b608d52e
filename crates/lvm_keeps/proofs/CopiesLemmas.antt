-- Copies whose clearing is in flight, and that fail by it.
use Rattle.std.proofs.Common.{◌≡◌, ◌⊎◌, inl, inr, ◌<◌, ◌+◌, ◌-◌, ◌^◌, ℕ, Bool, true, false, ◌&&◌, ◌||◌, not, ◌∷◌, Some, None, refl, ap, sym, subst, ◌∙◌, arith}
use Rattle.std.specs.Prelude.{◌==◌, replicate}
use Rattle.std.specs.List.{list_any}
use Rattle.std.proofs.lemmas.Bool.{eqb-true}
use Rattle.lvm_num.specs.Bits.{has_bit}
use Rattle.lvm_num.specs.Disks.{has}
use Rattle.lvm_num.specs.Votes.{votes_by}
use Rattle.lvm_num.specs.declared.place.Pp.{Pp}
use Rattle.lvm_num.specs.declared.descriptor.Mode.{Mode}
use Rattle.lvm_num.specs.declared.descriptor.Mode.TheVariants as mode
use Rattle.lvm_num.specs.declared.status.Status.{Status}
use Rattle.lvm_num.specs.Descriptor.{copies_of, is_pp}
use Rattle.lvm_num.specs.Status.{calls_stale, calls_missing}
use Rattle.lvm_num.proofs.BitsLemmas.{has-none, has-set}
use Rattle.lvm_num.proofs.DisksLemmas.{has-zero, has-with}
use Rattle.lvm_num.proofs.Booleans.{not_so, not_either}
use Rattle.lvm_kept.specs.Examples.{mirror}
use Rattle.lvm_status.specs.Update.{is_there, seen}
use Rattle.lvm_status.specs.Runs.{IsSoundStatus}
use Rattle.lvm_session.specs.declared.bringing.CopyEnd.TheVariants as ending
use Rattle.lvm_session.specs.declared.event.Event.TheVariants as event
use Rattle.lvm_session.specs.declared.flown.Owner.TheVariants as owner
use Rattle.lvm_session.specs.State.{state}
use Rattle.lvm_session.specs.Judging.{is_missing, is_stale}
use Rattle.lvm_session.specs.Bringing.{copy_ends}
use Rattle.lvm_session.specs.Enabled.{first_event}
use Rattle.lvm_session.specs.Calls.{Closes, closed}
use Rattle.lvm_session.specs.Marks.{can_replace, is_among, is_entailed}
use Rattle.lvm_session.specs.Owners.{AreOwned}
use Rattle.lvm_session.specs.Left.{updates_left}
use Rattle.lvm_session.specs.Causes.{FailedSince, IsCausedAmong}
use Rattle.lvm_session.specs.Sound.{IsCopy, IsFitting, IsGoing, IsSound, IsTold, stays_fresh}
use Rattle.lvm_session.specs.Worked.{CopiesAreSound, behind, bringing_up, first_copy, fresh, second_copy, status_of}
use Rattle.lvm_keeps.proofs.KeepsLemmas.Close.{close_keeps}
use Rattle.lvm_keeps.specs.Faulted.{without_disks}
use Rattle.lvm_keeps.specs.Copies.{CarriedWritesAreUnsound, FailedCopiesAreSound, WholeCopiesAreSound, failed, whole}
use Rattle.lvm_session.proofs.Small.{not_none}
use Rattle.lvm_session.proofs.WorkedLemmas.Parts.{update_is_sound, both_copies, has_fresh, not_marked, zeros_at, none_missing_at_first as none_missing}
use Rattle.lvm_session.proofs.SoundLemmas.{sound_while_on}
use Rattle.lvm_keeps.proofs.FaultedLemmas.Parts.{entailed, is_missing_so, none_stale, rose_once, stale_with_disk, which_missing}
use Rattle.lvm_keeps.proofs.FailingLemmas.{each_is, none_missing_behind, one_or_two, stale_there, untouched}
use Rattle.lvm_keeps.proofs.FaultedLemmas.Losing.{on_third}

some_is_there : {A X : Type 0} {a : A} → Some a ≡ None → X
some_is_there e = absurd cc

some_same : (t : Status) → Some (status_of fresh) ≡ Some t → status_of fresh ≡ t
some_same t e = cc e

-- the copy that is stale is the second
is_second : (p : Pp) → calls_stale (status_of behind) p ≡ true → is_pp p second_copy ≡ true
is_second p is = ap (λ d. d == 1 && p.pp == 0) (stale_there p is) ∙ sym (has-set (replicate 127 0) 0 (omega arith) p.pp ∙ ap (λ t. t || p.pp == 0) (has-none 127 p.pp)) ∙ by (1 == p.disk) (0 == p.disk) (2 == p.disk) (has_bit (replicate 127 0) p.pp) (has_bit (1 ∷ replicate 126 0) p.pp) (has-none 127 p.pp) is
  where
    by : (y x z t b : Bool) → t ≡ false → x && t || (y && b || (z && t || false)) ≡ true → b ≡ true
    by y x z t true none is = refl
    by y x z true false none is = not_either none
    by true true true false false none is = is
    by true true false false false none is = is
    by true false true false false none is = is
    by true false false false false none is = is
    by false true true false false none is = is
    by false true false false false none is = is
    by false false true false false none is = is
    by false false false false false none is = is

-- it is stale by what is committed, where it isn't by what is in flight
from_committed : (a b : Bool) → b ≡ false → a || b ≡ true → a ≡ true
from_committed true b none is = refl
from_committed false b none is = sym none ∙ is

from_any : (a b : Bool) → b ≡ false → (a || b) || b ≡ true → a ≡ true
from_any true b none is = refl
from_any false true none is = not_either none
from_any false false none is = is

from_both : (a b : Bool) → b ≡ false → (a || b) || a ≡ true → a ≡ true
from_both true b none is = refl
from_both false true none is = not_either none
from_both false false none is = is

-- ---- all of it is copied

whole_behind : (m : Mode) (p : Pp) {X : Type 0} → is_entailed (whole m).core p ≡ true → X
whole_behind m p is =
    let core = (whole m).core in
    none_missing p.disk (entailed (is_among both_copies p) (not (is_stale core p)) (is_missing core p.disk) (list_any (can_replace core) both_copies) is).1

whole_status : (m : Mode) → IsSoundStatus (seen (whole m).core.status)
unfolding votes_by has_bit has
whole_status m = update_is_sound _ _ refl (λ disk is. untouched disk (one_or_two disk is)) has-zero has-zero each_is refl refl (λ disk is. none_missing_behind disk is) (λ disk is. none_missing disk is)

whole_stays : (m : Mode) → stays_fresh (whole m).core first_copy ≡ true
unfolding has_bit
whole_stays m = refl

whole_numbers : (m : Mode) → 3 + updates_left (whole m).core < 2 ^ 32
unfolding has_bit has
whole_numbers mode.Active = omega arith
whole_numbers mode.Passive = omega arith
whole_numbers mode.Off = omega arith

whole_next : (m : Mode) → first_event (whole m).core ≡ Some event.StartStatus
unfolding votes_by has_bit has
whole_next mode.Active = refl
whole_next mode.Passive = refl
whole_next mode.Off = refl

whole_runs : (m : Mode) → copy_ends (whole m).core ≡ None
unfolding has_bit has
whole_runs m = refl

whole_copy : (m : Mode) → IsCopy (whole m).core (bringing_up 8 None)
unfolding has_bit
whole_copy m = record {
  row = mirror m;
  volume = refl;
  lp = omega arith;
  kind = record { its = refl; stale = λ runs part. not_either part; clearing = λ runs all. (refl, refl) };
  cursor = omega arith;
  faults = refl;
  place = (0, omega arith, refl);
  room = tt;
  free = λ idle. not_either idle;
  under_way = λ runs idle. not_either idle;
  hand = λ ended. not_either ended;
  tried = λ disk is. not_marked disk is;
  source = tt;
}

whole_caused : (m : Mode) → IsCausedAmong (whole m) (copies_of (mirror m) 0) (bringing_up 8 None)
whole_caused m = record {
  began = λ number p is. let first = zeros_at 128 p.disk in omega (arith, first);
  since = λ number p is. let none = zeros_at 4 (number - 1) in omega (arith, none);
  tried = λ number p is tried. not_marked p.disk tried;
  own_began = omega arith;
  own_since = omega arith;
  failed = λ e. not_none e;
}

module _ (copies : CopiesAreSound) (m : Mode) where
  whole_fits : IsFitting (whole m).core
  whole_fits = let f = (copies m).fitting in record { valid = f.valid; id = refl; rows = λ disk. refl; group = refl; entries = f.entries; notes = f.notes; table = f.table; most = f.most; queue = refl; a_buffer = f.a_buffer; buffers = f.buffers; last = f.last; room = f.room }

  whole_told : IsTold (whole m).core
  whole_told = record { ordered = tt; table = record { ascending = tt; still = tt }; each = λ id. refl; requests = tt }

  whole_owned : AreOwned (whole m).core
  whole_owned (owner.Data id target) = refl
  whole_owned (owner.Status disk) = (((copies m).on refl).going.owned) (owner.Status disk)
  whole_owned (owner.Note disk) = (((copies m).on refl).going.owned) (owner.Note disk)
  whole_owned owner.Copy = refl

  whole_going : IsGoing (whole m).core
  whole_going = record {
    fitting = whole_fits;
    told = whole_told;
    status = whole_status m;
    owned = whole_owned;
    tickets = tt;
    queue = refl;
    pinned = λ lv group. refl;
    requests = tt;
    copy = whole_copy m;
    hands = λ n. omega arith;
    behind = λ p is. whole_behind m p is;
    reviewed = whole_runs m;
    fresh = has_fresh m (whole m).core (whole_stays m);
    clearings = λ p is not. is_second p (from_committed (calls_stale (status_of behind) p) (calls_stale (status_of fresh) p) (none_stale p) is);
    numbers = whole_numbers m;
  }

  whole_sound : IsSound (whole m)
  whole_sound = let before = copies m in let o = before.origin in
      sound_while_on _ refl (record { power = refl; freed = refl }) whole_fits whole_told before.placed (before.none_lost refl) (record { going = whole_going; rows = tt; caused = tt; chosen = tt })
      (record {
        counted = tt;
        answered = tt;
        copy = whole_caused m;
        origin = record {
          since = o.since;
          votes = o.votes;
          rows = o.rows;
          still_missing = λ disk is. none_missing_behind disk is;
          missing = λ disk is. none_missing disk is;
          stale = λ p is. inl (from_any (calls_stale (status_of behind) p) (calls_stale (status_of fresh) p) (none_stale p) is);
        };
      })

pub whole_copies_are_sound : CopiesAreSound → WholeCopiesAreSound
whole_copies_are_sound copies = record { sound = whole_sound copies; next = whole_next }

-- ---- its disk has failed

-- the second disk alone
on_second : (disk : ℕ) → has 2 disk ≡ true → disk ≡ 1
on_second disk is = eqb-true disk 1 (by (disk == 1) (has-with 0 1 (omega arith) disk ∙ ap (λ t. t || disk == 1) (has-zero disk)))
  where
    by : (t : Bool) → has 2 disk ≡ t → t ≡ true
    by t same = sym same ∙ is

abbrev Unstarted : Mode → ℕ → Type 0
Unstarted m disk = (is_there (seen (failed m).core.status) disk ≡ true) × (has 0 disk ≡ false) × (has 1 disk ≡ false) × (has 2 disk ≡ false)

unstarted : (m : Mode) (disk : ℕ) → disk ≡ 2 → Unstarted m disk
unfolding has has_bit
unstarted m disk is = subst (Unstarted m) (sym is) (refl, refl, refl, refl)

abbrev Has : ℕ → Type 0
Has d = has 4 d || (has 0 d || has 1 d) ≡ true

-- a member that isn't missing has the update, or is to be written
has_or_owes : (m : Mode) (disk : ℕ) → is_there (seen (failed m).core.status) disk ≡ true → Has disk
unfolding has has_bit
has_or_owes m disk is = by (0 == disk) (1 == disk) (2 == disk) refl refl is
  where
    by : (a b c : Bool) → (0 == disk) ≡ a → (2 == disk) ≡ c → (a || (b || (c || false))) && not ((a && false) || ((b && true) || ((c && false) || false))) ≡ true → Has disk
    by true b c p r e = subst Has (eqb-true 0 disk p) refl
    by false b true p r e = subst Has (eqb-true 2 disk r) refl
    by false true false p r e = not_so e
    by false false false p r e = not_so e

failed_status : (m : Mode) → IsSoundStatus (seen (failed m).core.status)
unfolding votes_by has_bit has
failed_status m = record {
  unstarted = λ disk is. unstarted m disk (on_third disk is);
  started = λ disk is. not_marked disk is;
  failed = λ disk is. is_missing_so false disk (inl (on_second disk is));
  each = λ t e. has_or_owes m;
  idle = λ e. some_is_there e;
  held = λ is. not_so is;
  open_still = λ t e. inl refl;
  committed_missing = λ disk is. none_missing_behind disk is;
  in_flight_missing = λ t e disk is. none_missing disk (ap (λ (u : Status). calls_missing u disk) (some_same t e) ∙ is);
}

failed_behind : (m : Mode) (p : Pp) → is_entailed (failed m).core p ≡ true → calls_stale (without_disks false) p ≡ true
failed_behind m p is =
    let core = (failed m).core in
    let parts = entailed (is_among both_copies p) (not (is_stale core p)) (is_missing core p.disk) (list_any (can_replace core) both_copies) is in
    stale_with_disk false p parts.0 parts.1

failed_stays : (m : Mode) → stays_fresh (failed m).core first_copy ≡ true
unfolding has_bit
failed_stays m = refl

failed_numbers : (m : Mode) → 3 + updates_left (failed m).core < 2 ^ 32
unfolding has_bit has
failed_numbers mode.Active = omega arith
failed_numbers mode.Passive = omega arith
failed_numbers mode.Off = omega arith

failed_next : (m : Mode) → first_event (failed m).core ≡ Some event.StartStatus
unfolding votes_by has_bit has
failed_next mode.Active = refl
failed_next mode.Passive = refl
failed_next mode.Off = refl

failed_copy : (m : Mode) → IsCopy (failed m).core (bringing_up 8 (Some ending.SyncFailed))
failed_copy m = record {
  row = mirror m;
  volume = refl;
  lp = omega arith;
  kind = record { its = refl; stale = λ runs part. not_so runs; clearing = λ runs all. not_so runs };
  cursor = omega arith;
  faults = refl;
  place = (0, omega arith, refl);
  room = tt;
  free = λ idle. not_either idle;
  under_way = λ runs idle. not_either idle;
  hand = λ ended. refl;
  tried = λ disk is. not_marked disk is;
  source = tt;
}

failed_caused : (m : Mode) → IsCausedAmong (failed m) (copies_of (mirror m) 0) (bringing_up 8 (Some ending.SyncFailed))
failed_caused m = record {
  began = λ number p is. let first = zeros_at 128 p.disk in omega (arith, first);
  since = λ number p is. let none = zeros_at 4 (number - 1) in omega (arith, none);
  tried = λ number p is tried. not_marked p.disk tried;
  own_began = omega arith;
  own_since = omega arith;
  failed = λ e. inl rose_once;
}

second_since : (m : Mode) (disk : ℕ) → disk ≡ 1 → FailedSince (failed m) disk
second_since m disk is = subst (λ d. FailedSince (failed m) d) (sym is) rose_once

only_second : (disk : ℕ) → (disk ≡ 1) ⊎ ((disk ≡ 2) × (false ≡ true)) → disk ≡ 1
only_second disk (inl one) = one
only_second disk (inr two) = not_so two.1

closes : (m : Mode) → Closes (failed m).core (closed (failed m).core)
closes m = record { ended = λ cursor e. absurd cc; is = refl }

none_cleared : (a b : Bool) {X : Type 0} → b ≡ false → a || b ≡ true → a ≡ false → X
none_cleared true b none is not = not_either not
none_cleared false true none is not = not_either none
none_cleared false false none is not = not_so is

module _ (copies : CopiesAreSound) (m : Mode) where
  failed_fits : IsFitting (failed m).core
  failed_fits = let f = (copies m).fitting in record { valid = f.valid; id = refl; rows = λ disk. refl; group = refl; entries = f.entries; notes = f.notes; table = f.table; most = f.most; queue = refl; a_buffer = f.a_buffer; buffers = f.buffers; last = f.last; room = f.room }

  failed_told : IsTold (failed m).core
  failed_told = record { ordered = tt; table = record { ascending = tt; still = tt }; each = λ id. refl; requests = tt }

  failed_owned : AreOwned (failed m).core
  failed_owned (owner.Data id target) = refl
  failed_owned (owner.Status disk) = (((copies m).on refl).going.owned) (owner.Status disk)
  failed_owned (owner.Note disk) = (((copies m).on refl).going.owned) (owner.Note disk)
  failed_owned owner.Copy = refl

  failed_going : IsGoing (failed m).core
  failed_going = record {
    fitting = failed_fits;
    told = failed_told;
    status = failed_status m;
    owned = failed_owned;
    tickets = tt;
    queue = refl;
    pinned = λ lv group. refl;
    requests = tt;
    copy = failed_copy m;
    hands = λ n. omega arith;
    behind = failed_behind m;
    reviewed = refl;
    fresh = has_fresh m (failed m).core (failed_stays m);
    clearings = λ p is not. none_cleared (calls_stale (status_of behind) p) (calls_stale (status_of fresh) p) (none_stale p) is not;
    numbers = failed_numbers m;
  }

  failed_sound : IsSound (failed m)
  failed_sound = let before = copies m in let o = before.origin in
      sound_while_on _ refl (record { power = refl; freed = refl }) failed_fits failed_told before.placed (before.none_lost refl) (record { going = failed_going; rows = tt; caused = tt; chosen = tt })
      (record {
        counted = tt;
        answered = tt;
        copy = failed_caused m;
        origin = record {
          since = λ disk. let none = zeros_at 128 disk in omega (arith, none);
          votes = o.votes;
          rows = o.rows;
          still_missing = λ disk is. none_missing_behind disk is;
          missing = λ disk is. inr (second_since m disk (only_second disk (which_missing false disk is)));
          stale = λ p is. inl (from_both (calls_stale (status_of behind) p) (calls_stale (status_of fresh) p) (none_stale p) is);
        };
      })

  after : IsSound (state (failed m).device (closed (failed m).core))
  after = close_keeps (failed m) (closed (failed m).core) failed_sound (closes m)

pub failed_copies_are_sound : CopiesAreSound → FailedCopiesAreSound
failed_copies_are_sound copies = record { sound = failed_sound copies; next = failed_next; closes = closes; after = after copies }

-- ---- a write that is done on the copy alone

pub carried_writes_are_unsound : CarriedWritesAreUnsound
unfolding votes_by has_bit has
carried_writes_are_unsound = record { waits = refl; unsound = λ r. not_so ((r.judged refl).due refl) }

-- The votes are lost, and the session is over.
use Rattle.std.proofs.Common.{◌≡◌, ◌⊎◌, inl, inr, ◌<◌, ◌+◌, ◌^◌, ℕ, Bool, true, false, ◌&&◌, ◌||◌, not, Some, None, refl, ap, sym, subst, ◌∙◌, arith}
use Rattle.std.specs.Prelude.{◌==◌}
use Rattle.std.proofs.lemmas.Bool.{eqb-true}
use Rattle.lvm_num.specs.Bits.{has_bit}
use Rattle.lvm_num.specs.Disks.{has}
use Rattle.lvm_num.specs.Votes.{votes_by}
use Rattle.lvm_num.specs.declared.descriptor.Mode.{Mode}
use Rattle.lvm_num.specs.declared.descriptor.Mode.TheVariants as mode
use Rattle.lvm_num.specs.declared.status.Status.{Status}
use Rattle.lvm_num.specs.Status.{calls_stale, calls_missing}
use Rattle.lvm_num.proofs.DisksLemmas.{has-zero, has-with}
use Rattle.lvm_num.proofs.Booleans.{not_so, not_either, neither_holds, second_of_three}
use Rattle.lvm_disk.specs.declared.shelf.Arrange.TheVariants as arrange
use Rattle.lvm_status.specs.Update.{is_there, seen}
use Rattle.lvm_status.specs.Runs.{IsSoundStatus}
use Rattle.lvm_session.specs.Enabled.{first_event, is_lost}
use Rattle.lvm_session.specs.Turns.{ArrangesSession, GoesOff}
use Rattle.lvm_session.specs.Left.{updates_left}
use Rattle.lvm_session.specs.Causes.{IsTrueToOrigin}
use Rattle.lvm_session.specs.Sound.{IsFitting, IsGoing, IsSound, IsTold, stays_fresh}
use Rattle.lvm_session.specs.Worked.{HeldWritesAreSound, first_copy, fresh, status_of}
use Rattle.lvm_keeps.proofs.KeepsLemmas.Off.{off_keeps}
use Rattle.lvm_keeps.proofs.KeepsLemmas.Orders.{order_keeps}
use Rattle.lvm_keeps.proofs.KeepsLemmas.Losing.{loss_is_caused}
use Rattle.lvm_keeps.specs.Faulted.{EndedSessionsAreSound, LostVotesAreSound, lost, off, dark, without_disks}
use Rattle.lvm_session.proofs.WorkedLemmas.Parts.{has_fresh, not_marked, none_missing_at_first as none_missing}
use Rattle.lvm_session.proofs.SoundLemmas.{sound_while_on}
use Rattle.lvm_keeps.proofs.FaultedLemmas.Parts.{behind, fitting, is_missing_so, none_stale, origin, request, stale_there, told, which_missing}

first_stays : (m : Mode) → stays_fresh (lost m).core first_copy ≡ true
unfolding has_bit
first_stays m = refl

numbers : (m : Mode) → 3 + updates_left (lost m).core < 2 ^ 32
unfolding has_bit has
numbers mode.Active = omega arith
numbers mode.Passive = omega arith
numbers mode.Off = omega arith

-- the third disk alone
pub on_third : (disk : ℕ) → has 4 disk ≡ true → disk ≡ 2
on_third disk is = eqb-true disk 2 (by (disk == 2) (has-with 0 2 (omega arith) disk ∙ ap (λ t. t || disk == 2) (has-zero disk)))
  where
    by : (t : Bool) → has 4 disk ≡ t → t ≡ true
    by t same = sym same ∙ is

-- the member that isn't missing has the update
there_has : (m : Mode) (disk : ℕ) → is_there (seen (lost m).core.status) disk ≡ true → has 0 disk || (has 0 disk || has 1 disk) ≡ true
unfolding has has_bit
there_has m disk is = subst (λ d. has 0 d || (has 0 d || has 1 d) ≡ true) (by (0 == disk) (1 == disk) (2 == disk) refl is) refl
  where
    by : (a b c : Bool) → (0 == disk) ≡ a → (a || (b || (c || false))) && not ((a && false) || ((b && true) || ((c && true) || false))) ≡ true → 0 ≡ disk
    by true b c e is = eqb-true 0 disk e
    by false true true e is = not_so is
    by false true false e is = not_so is
    by false false true e is = not_so is
    by false false false e is = not_so is

status : (m : Mode) → IsSoundStatus (seen (lost m).core.status)
unfolding votes_by has_bit has
status m = record {
  unstarted = λ disk is. not_marked disk is;
  started = λ disk is. not_marked disk is;
  failed = λ disk is. is_missing_so true disk (inr (on_third disk is, refl));
  each = λ t e. there_has m;
  idle = λ e. some_is_there e;
  held = λ is. not_so is;
  open_still = λ t e. inr refl;
  committed_missing = λ disk is. none_missing disk is;
  in_flight_missing = λ t e disk is. is_missing_so true disk (more disk (which_missing false disk (ap (λ (u : Status). calls_missing u disk) (some_same t e) ∙ is)));
}
  where
    some_is_there : {A X : Type 0} {a : A} → Some a ≡ None → X
    some_is_there e = absurd cc

    some_same : (t : Status) → Some (without_disks false) ≡ Some t → without_disks false ≡ t
    some_same t e = cc e

    more : (disk : ℕ) → (disk ≡ 1) ⊎ ((disk ≡ 2) × (false ≡ true)) → (disk ≡ 1) ⊎ ((disk ≡ 2) × (true ≡ true))
    more disk (inl one) = inl one
    more disk (inr two) = not_so two.1

is_lost_so : (m : Mode) → is_lost (lost m).core ≡ true
unfolding votes_by has_bit has
is_lost_so m = refl

none_made : (m : Mode) → first_event (lost m).core ≡ None
unfolding votes_by has_bit has
none_made m = refl

ends : (m : Mode) → GoesOff (lost m) (off m)
ends m = record { lost = is_lost_so m; idle = refl; is = refl }

module _ (held : HeldWritesAreSound) (m : Mode) where
  fits : IsFitting (lost m).core
  fits = let f = fitting held m true in record { valid = f.valid; id = refl; rows = f.rows; group = refl; entries = f.entries; notes = f.notes; table = f.table; most = f.most; queue = refl; a_buffer = f.a_buffer; buffers = f.buffers; last = f.last; room = f.room }

  is_told : IsTold (lost m).core
  is_told = let t = told held m true in record { ordered = t.ordered; table = t.table; each = t.each; requests = t.requests }

  going : IsGoing (lost m).core
  going = let g = ((held m).on refl).going in let r = request held m true in record {
    fitting = fits;
    told = is_told;
    status = status m;
    owned = g.owned;
    tickets = tt;
    queue = refl;
    pinned = g.pinned;
    requests = (
      record {
        laid = record { within = r.laid.within; blocks = r.laid.blocks; most = r.laid.most; id = r.laid.id };
        waits = λ e. let w = r.waits e in record {
          shape = record { targets = tt; phase_is = w.shape.phase_is; hand = w.shape.hand; room = tt; differ = w.shape.differ; usable = w.shape.usable; one = w.shape.one };
          ready = record { free = w.ready.free; recorded = w.ready.recorded; wanted = λ past two. not_so past; named = λ has two. not_so has; dirty = λ has two. not_so has };
          judged = λ write. record { uncaught = tt; due = λ waits. not_so waits; missed = λ waits. not_so waits; all = λ begun. not_so begun; place = λ begun. not_so begun };
        };
        over = λ e. not_either e;
        still = λ e. not_either e;
      },
      tt,
    );
    copy = tt;
    hands = g.hands;
    behind = behind m true;
    reviewed = refl;
    fresh = has_fresh m (lost m).core (first_stays m);
    clearings = λ p is not. neither_holds (calls_stale (status_of fresh) p) (calls_stale (without_disks false) p) (none_stale p) is not;
    numbers = numbers m;
  }

  is_true : IsTrueToOrigin (lost m)
  is_true = let o = origin held m true in record {
    since = o.since;
    votes = o.votes;
    rows = o.rows;
    still_missing = o.still_missing;
    missing = o.missing;
    stale = λ p is. inr (inl (is_missing_so true p.disk (inl (stale_there true p (second_of_three (calls_stale (status_of fresh) p) (calls_stale (without_disks true) p) (none_stale p) is)))));
  }

  sound : IsSound (lost m)
  sound = let before = held m in
      sound_while_on _ refl (record { power = refl; freed = refl }) fits is_told before.placed (before.none_lost refl) (record { going = going; rows = tt; caused = (λ waits. tt, tt); chosen = tt })
      (record { counted = (tt, tt); answered = (tt, tt); copy = tt; origin = is_true })

  off_is_sound : IsSound (off m)
  off_is_sound = off_keeps (lost m) (off m) sound refl (ends m)

cut : (m : Mode) → ArrangesSession (off m) (dark m) (arrange.Cut 0) true
cut m = record { device = (refl, (refl, inr (record { power = refl; media = tt; cuts = record { later = omega arith; risen = omega arith }; once = refl; ordered = tt; new_is = refl }))); is = refl }

pub lost_votes_are_sound : HeldWritesAreSound → LostVotesAreSound
lost_votes_are_sound held = record { sound = sound held; is_lost = is_lost_so; caused = λ m. loss_is_caused (lost m) (sound held m) (is_lost_so m); none = none_made; ends = ends }

pub ended_sessions_are_sound : HeldWritesAreSound → EndedSessionsAreSound
ended_sessions_are_sound held = record {
  over = off_is_sound held;
  landed = λ m. refl;
  cut = cut;
  after = λ m. order_keeps (off m) (dark m) (arrange.Cut 0) true (off_is_sound held m) (cut m);
  still = λ m. refl;
}

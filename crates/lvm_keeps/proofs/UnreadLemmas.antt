-- Requests that find no copy to go on with.
use Rattle.std.proofs.Common.{◌≡◌, inl, inr, ◌<◌, ◌+◌, ◌^◌, ℕ, zero, suc, Bool, true, false, ◌&&◌, ◌||◌, not, [], ◌∷◌, Some, None, refl, ap, sym, subst, ◌∙◌, arith}
use Rattle.std.specs.Prelude.{◌≢◌, ◌==◌, is_some, if◌then◌else◌, slice_index_or}
use Rattle.std.specs.List.{list_any}
use Rattle.std.proofs.lemmas.Bool.{eqb-true}
use Rattle.lvm_num.specs.Bits.{has_bit}
use Rattle.lvm_num.specs.Disks.{has}
use Rattle.lvm_num.specs.Votes.{votes_by, votes_in, is_enough_to_write}
use Rattle.lvm_num.specs.declared.place.Pp.{Pp}
use Rattle.lvm_num.specs.declared.descriptor.Mode.{Mode}
use Rattle.lvm_num.specs.declared.descriptor.Mode.TheVariants as mode
use Rattle.lvm_num.specs.Status.{calls_stale, calls_missing}
use Rattle.lvm_num.proofs.Booleans.{not_so, not_either, twice_fails, thrice_holds}
use Rattle.lvm_kept.specs.Examples.{mirror}
use Rattle.lvm_vol.specs.declared.entry.Outcome.TheVariants as outcome
use Rattle.lvm_vol.specs.Facts.{Begun}
use Rattle.lvm_vol.specs.Order.{Ordered}
use Rattle.lvm_status.specs.Update.{members_there, seen}
use Rattle.lvm_status.specs.Runs.{IsSoundStatus}
use Rattle.lvm_path.specs.declared.facts.Next.TheVariants as next
use Rattle.lvm_path.specs.declared.target.Target.{Target}
use Rattle.lvm_session.specs.declared.event.Event.TheVariants as event
use Rattle.lvm_session.specs.declared.flown.Owner.TheVariants as owner
use Rattle.lvm_session.specs.Judging.{is_missing, is_stale, next_for}
use Rattle.lvm_session.specs.Enabled.{first_event}
use Rattle.lvm_session.specs.Events.{Lands}
use Rattle.lvm_session.specs.Marks.{can_replace, is_among, is_entailed}
use Rattle.lvm_session.specs.Owners.{AreOwned, target_flies}
use Rattle.lvm_session.specs.Left.{updates_left}
use Rattle.lvm_session.specs.Requests.{IsOpenOne}
use Rattle.lvm_session.specs.Causes.{AreCaused, AreCounted, FailedSince}
use Rattle.lvm_session.specs.Sound.{IsAsked, IsFitting, IsGoing, IsSound, IsTold, count_if, stays_fresh}
use Rattle.lvm_session.specs.Worked.{HeldWritesAreSound, behind, first_copy, fresh, mirrored, status_of}
use Rattle.lvm_keeps.proofs.KeepsLemmas.Landing.{landing_is_caused}
use Rattle.lvm_keeps.specs.Unread.{FailedReadsAreSound, WritesWithoutCopyAreSound, begun_read, failed_read, held, read_in_vain, refused, unread, without_copy}
use Rattle.lvm_session.proofs.RequestsLemmas.{laid_in, shaped, waits_with}
use Rattle.lvm_session.proofs.WorkedLemmas.Parts.{idle_is_sound, none_written, both_copies, has_fresh, zeros_at, none_missing_at_first as none_missing}
use Rattle.lvm_session.proofs.SoundLemmas.{sound_while_on}
use Rattle.lvm_keeps.proofs.FaultedLemmas.Parts.{none_stale, rose_once}
use Rattle.lvm_keeps.proofs.FailingLemmas.{none_missing_behind}

-- ---- no copy is left

only_first : (disk : ℕ) → calls_missing (status_of (record behind { missing = true })) disk ≡ true → disk ≡ 0
only_first disk is = by (0 == disk) refl (1 == disk) (2 == disk) is
  where
    by : (a : Bool) → (0 == disk) ≡ a → (b c : Bool) → (a && true) || ((b && false) || ((c && false) || false)) ≡ true → disk ≡ 0
    by true e b c is = sym (eqb-true 0 disk e)
    by false e true true is = not_so is
    by false e true false is = not_so is
    by false e false true is = not_so is
    by false e false false is = not_so is

no_replacement : (m : Mode) → list_any (can_replace (without_copy m).core) both_copies ≡ false
unfolding has_bit
no_replacement m = refl

none_entailed : (m : Mode) (p : Pp) {X : Type 0} → is_entailed (without_copy m).core p ≡ true → X
none_entailed m p is =
    let core = (without_copy m).core in
    by (is_among both_copies p) (not (is_stale core p)) (is_missing core p.disk) (list_any (can_replace core) both_copies) (no_replacement m) is
  where
    by : (a b c d : Bool) {X : Type 0} → d ≡ false → a && b && c && d || false || false ≡ true → X
    by a b c true none is = not_either none
    by true true true false none is = not_so is
    by true true false false none is = not_so is
    by true false c false none is = not_so is
    by false b c false none is = not_so is

status : (m : Mode) → IsSoundStatus (seen (without_copy m).core.status)
unfolding votes_by has_bit has
status m = idle_is_sound _ refl none_written refl (λ disk is. none_missing_behind disk is)

stays : (m : Mode) → stays_fresh (without_copy m).core first_copy ≡ true
unfolding has_bit
stays m = refl

numbers : (m : Mode) → 3 + updates_left (without_copy m).core < 2 ^ 32
unfolding has_bit has
numbers mode.Active = omega arith
numbers mode.Passive = omega arith
numbers mode.Off = omega arith

lands_next : (m : Mode) → first_event (without_copy m).core ≡ Some (event.Land 0 outcome.NoFresh)
unfolding votes_by has_bit has
lands_next mode.Active = refl
lands_next mode.Passive = refl
lands_next mode.Off = refl

does_next : (m : Mode) → next_for (without_copy m).core held ≡ next.Land outcome.NoFresh
unfolding votes_by has_bit has
does_next mode.Active = refl
does_next mode.Passive = refl
does_next mode.Off = refl

lands : (m : Mode) → Lands (without_copy m) (refused m) 0 outcome.NoFresh
lands m = record { request = held; there = refl; lands = does_next m; is = refl }

votes : (m : Mode) → is_enough_to_write (mirrored m) (votes_in (mirrored m) (members_there (mirrored m) (status_of behind))) ≡ true
unfolding votes_by has_bit has
votes m = refl

first_since : (m : Mode) (disk : ℕ) → disk ≡ 0 → FailedSince (without_copy m) disk
first_since m disk is = subst (λ d. FailedSince (without_copy m) d) (sym is) rose_once

module _ (writes : HeldWritesAreSound) (m : Mode) where
  fits : IsFitting (without_copy m).core
  fits = let f = (writes m).fitting in record { valid = f.valid; id = refl; rows = λ disk. refl; group = refl; entries = f.entries; notes = f.notes; table = f.table; most = f.most; queue = refl; a_buffer = f.a_buffer; buffers = f.buffers; last = f.last; room = f.room }

  told : IsTold (without_copy m).core
  told = let t = (writes m).told in record { ordered = t.ordered; table = t.table; each = t.each; requests = t.requests }

  request : IsOpenOne (without_copy m).core held
  request = let r = ((writes m).on refl).going.requests.0 in record {
    laid = record { within = r.laid.within; blocks = r.laid.blocks; most = r.laid.most; id = r.laid.id };
    waits = λ e. let w = r.waits e in record {
      shape = record { targets = tt; phase_is = w.shape.phase_is; hand = w.shape.hand; room = tt; differ = w.shape.differ; usable = w.shape.usable; one = w.shape.one };
      ready = record { free = w.ready.free; recorded = w.ready.recorded; wanted = λ past two. not_so past; named = λ has two. not_so has; dirty = λ has two. not_so has };
      judged = λ write. record { uncaught = tt; due = λ waits. not_so waits; missed = λ waits. not_so waits; all = λ begun. not_so begun; place = λ begun. not_so begun };
    };
    over = λ e. not_either e;
    still = λ e. not_either e;
  }

  going : IsGoing (without_copy m).core
  going = let g = ((writes m).on refl).going in record {
    fitting = fits;
    told = told;
    status = status m;
    owned = g.owned;
    tickets = tt;
    queue = refl;
    pinned = g.pinned;
    requests = (request, tt);
    copy = tt;
    hands = g.hands;
    behind = λ p is. none_entailed m p is;
    reviewed = refl;
    fresh = has_fresh m (without_copy m).core (stays m);
    clearings = λ p is not. twice_fails (calls_stale (status_of behind) p) is not;
    numbers = numbers m;
  }

  sound : IsSound (without_copy m)
  sound = let before = writes m in
      sound_while_on _ refl (record { power = refl; freed = refl }) fits told before.placed (before.none_lost refl) (record { going = going; rows = tt; caused = (λ waits. tt, tt); chosen = tt })
      (record {
        counted = (tt, tt);
        answered = (tt, tt);
        copy = tt;
        origin = record {
          since = λ disk. let none = zeros_at 128 disk in omega (arith, none);
          votes = votes m;
          rows = λ disk. refl;
          still_missing = λ disk is. none_missing_behind disk is;
          missing = λ disk is. inr (first_since m disk (only_first disk is));
          stale = λ p is. inl (thrice_holds (calls_stale (status_of behind) p) is);
        };
      })

pub writes_without_copy_are_sound : HeldWritesAreSound → WritesWithoutCopyAreSound
unfolding has_bit lands
writes_without_copy_are_sound writes = record {
  sound = sound writes;
  next = lands_next;
  lands = lands;
  caused = λ m. landing_is_caused 0 outcome.NoFresh (without_copy m) (refused m) (sound writes m) refl (lands m);
}

-- ---- each copy was read in vain

differ : (i j : ℕ) (d : Target) → i < j → j < 2 → (slice_index_or failed_read.request.targets.items i d).pp ≢ (slice_index_or failed_read.request.targets.items j d).pp
differ zero zero d below within e = absurd (omega (arith, below))
differ zero (suc zero) d below within e = let disks : 0 ≡ 1 = ap (λ (p : Pp). p.disk) e in absurd (omega (arith, disks))
differ zero (suc (suc j)) d below within e = absurd (omega (arith, within))
differ (suc i) j d below within e = absurd (omega (arith, below, within))

none_flies : (target : ℕ) → target_flies target failed_read ≡ false
none_flies zero = refl
none_flies (suc zero) = refl
none_flies (suc (suc target)) = refl

read_asked : IsAsked (Begun begun_read ∷ []) failed_read
read_asked = record { request = begun_read; told = refl; client = refl; vol = refl; at = refl; count = refl; write = refl; length = λ e. not_so e; place = refl; outcome = refl; answered = λ e. not_either e }

read_ordered : Ordered 50 [] (Begun begun_read ∷ [])
read_ordered = ((refl, refl, (refl, omega arith)), tt)

read_told : (m : Mode) → IsTold (unread m).core
read_told m = record { ordered = read_ordered; table = record { ascending = (tt, tt); still = (λ e. refl, tt) }; each = λ id. by (1 == id); requests = (read_asked, tt) }
  where
    by : (t : Bool) → is_some (if t then Some begun_read else None) && true ≡ t || false
    by true = refl
    by false = refl

read_request : (m : Mode) → IsOpenOne (unread m).core failed_read
unfolding has_bit
read_request m =
    waits_with refl (laid_in (mirror m) refl (omega arith) (omega arith) (omega arith) (omega arith) (omega arith) (omega arith))
    (record {
      shape = shaped (record { copy = refl; sector = refl; there = refl }, (record { copy = refl; sector = refl; there = refl }, tt)) (omega arith, λ write. not_so write) refl tt differ (λ past. refl) (λ read. omega arith);
      ready = record { free = λ past. refl; recorded = (refl, refl, refl); wanted = λ past two. refl; named = λ has two. refl; dirty = λ has two. refl };
      judged = λ write. not_so write;
    })

read_caused : (m : Mode) → AreCaused (unread m).device (unread m).core failed_read
read_caused m waits = (λ e. rose_once, (λ e. rose_once, tt))

read_counted : (m : Mode) → AreCounted (unread m) failed_read
read_counted m = (record { began = omega arith; since = omega arith }, (record { began = omega arith; since = omega arith }, tt))

read_numbers : (m : Mode) → 3 + updates_left (unread m).core < 2 ^ 32
unfolding has_bit has
read_numbers mode.Active = omega arith
read_numbers mode.Passive = omega arith
read_numbers mode.Off = omega arith

read_lands_next : (m : Mode) → first_event (unread m).core ≡ Some (event.Land 0 outcome.ReadFailed)
unfolding votes_by has_bit has
read_lands_next mode.Active = refl
read_lands_next mode.Passive = refl
read_lands_next mode.Off = refl

read_lands : (m : Mode) → Lands (unread m) (read_in_vain m) 0 outcome.ReadFailed
read_lands m = record { request = failed_read; there = refl; lands = refl; is = refl }

module _ (writes : HeldWritesAreSound) (m : Mode) where
  read_fits : IsFitting (unread m).core
  read_fits = let f = (writes m).fitting in record { valid = f.valid; id = f.id; rows = f.rows; group = refl; entries = f.entries; notes = f.notes; table = f.table; most = f.most; queue = refl; a_buffer = f.a_buffer; buffers = f.buffers; last = f.last; room = f.room }

  read_owned : AreOwned (unread m).core
  read_owned (owner.Data id target) = by (1 == id) (target_flies target failed_read) (none_flies target)
    where
      by : (s t : Bool) → t ≡ false → ◌≡◌ {A = ℕ} 0 (count_if (s && t || false))
      by true t e = sym (ap (λ (u : Bool). count_if (u || false)) e)
      by false t e = refl
  read_owned (owner.Status disk) = (((writes m).on refl).going.owned) (owner.Status disk)
  read_owned (owner.Note disk) = (((writes m).on refl).going.owned) (owner.Note disk)
  read_owned owner.Copy = refl

  read_going : IsGoing (unread m).core
  read_going = let g = ((writes m).on refl).going in record {
    fitting = read_fits;
    told = read_told m;
    status = g.status;
    owned = read_owned;
    tickets = tt;
    queue = refl;
    pinned = g.pinned;
    requests = (read_request m, tt);
    copy = tt;
    hands = g.hands;
    behind = g.behind;
    reviewed = refl;
    fresh = g.fresh;
    clearings = g.clearings;
    numbers = read_numbers m;
  }

  read_sound : IsSound (unread m)
  read_sound = let before = writes m in let o = before.origin in
      sound_while_on _ refl (record { power = refl; freed = refl }) read_fits (read_told m) before.placed (before.none_lost refl) (record { going = read_going; rows = tt; caused = (read_caused m, tt); chosen = tt })
      (record {
        counted = (read_counted m, tt);
        answered = (tt, tt);
        copy = tt;
        origin = record {
          since = λ disk. let none = zeros_at 128 disk in omega (arith, none);
          votes = o.votes;
          rows = o.rows;
          still_missing = λ disk is. none_missing disk is;
          missing = λ disk is. none_missing disk is;
          stale = λ p is. not_so (sym (none_stale p) ∙ thrice_holds (calls_stale (status_of fresh) p) is);
        };
      })

pub failed_reads_are_sound : HeldWritesAreSound → FailedReadsAreSound
unfolding read_lands
failed_reads_are_sound writes = record {
  sound = read_sound writes;
  next = read_lands_next;
  lands = read_lands;
  caused = λ m. landing_is_caused 0 outcome.ReadFailed (unread m) (read_in_vain m) (read_sound writes m) refl (read_lands m);
}

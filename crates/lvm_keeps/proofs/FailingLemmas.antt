-- Writes of which transfers have failed.
use Rattle.std.proofs.Common.{◌≡◌, ◌⊎◌, inl, inr, ◌<◌, ◌+◌, ◌^◌, ℕ, zero, suc, Bool, true, false, ◌&&◌, ◌||◌, not, [], ◌∷◌, Option, Some, None, refl, ap, sym, subst, ◌∙◌, arith}
use Rattle.std.specs.Prelude.{◌≢◌, ◌==◌, replicate, slice_index_or}
use Rattle.std.specs.List.{list_any}
use Rattle.std.proofs.lemmas.Bool.{eqb-true}
use Rattle.lvm_num.specs.Bits.{has_bit}
use Rattle.lvm_num.specs.Disks.{has}
use Rattle.lvm_num.specs.Votes.{votes_by}
use Rattle.lvm_num.specs.declared.place.Pp.{Pp}
use Rattle.lvm_num.specs.declared.descriptor.Mode.TheVariants as mode
use Rattle.lvm_num.specs.Status.{calls_stale, calls_missing}
use Rattle.lvm_num.proofs.BitsLemmas.{has-none}
use Rattle.lvm_num.proofs.DisksLemmas.{has-zero, has-with}
use Rattle.lvm_num.proofs.Booleans.{not_so, not_either, or_left, neither_holds, twice_fails, second_of_three, thrice_holds}
use Rattle.lvm_disk.specs.Counts.{Rose}
use Rattle.lvm_disk.specs.Device.{Device}
use Rattle.lvm_kept.specs.Examples.{mirror}
use Rattle.lvm_vol.specs.declared.entry.Outcome.TheVariants as outcome
use Rattle.lvm_vol.specs.Facts.{Begun}
use Rattle.lvm_status.specs.declared.writes.Writes.{Writes}
use Rattle.lvm_status.specs.Update.{is_there, seen}
use Rattle.lvm_status.specs.Runs.{IsSoundStatus}
use Rattle.lvm_sched.specs.declared.writes.TargetState.{TargetState}
use Rattle.lvm_sched.specs.declared.writes.TargetState.TheVariants as stage
use Rattle.lvm_path.specs.declared.target.Target.{Target}
use Rattle.lvm_path.specs.Targets.{is_over}
use Rattle.lvm_session.specs.declared.event.Event.TheVariants as event
use Rattle.lvm_session.specs.declared.flown.Owner.TheVariants as owner
use Rattle.lvm_session.specs.State.{state}
use Rattle.lvm_session.specs.Judging.{is_missing, is_stale}
use Rattle.lvm_session.specs.Enabled.{first_event}
use Rattle.lvm_session.specs.Events.{Lands}
use Rattle.lvm_session.specs.Marks.{can_replace, is_among, is_entailed}
use Rattle.lvm_session.specs.Owners.{AreOwned, target_flies}
use Rattle.lvm_session.specs.Left.{updates_left}
use Rattle.lvm_session.specs.Requests.{IsOpenOne, is_wanted_due}
use Rattle.lvm_session.specs.Causes.{AreCaused, AreCounted, FailedSince, IsTrueToOrigin}
use Rattle.lvm_session.specs.Sound.{IsAsked, IsFitting, IsSound, IsTold, count_if, stays_fresh}
use Rattle.lvm_session.specs.Worked.{HeldWritesAreSound, Says, begun_write, behind, core_of, first_copy, fresh, second_copy, status_of}
use Rattle.lvm_keeps.proofs.KeepsLemmas.Landing.{landing_is_caused}
use Rattle.lvm_keeps.specs.Failing.{KeptWritesAreSound, LostWritesAreSound, UnsettledWritesAreSound, ended, ended_write, kept, landed, lost_on_both, no_writes, unsettled}
use Rattle.lvm_session.proofs.RequestsLemmas.{laid_in, shaped, waits_with}
use Rattle.lvm_session.proofs.WorkedLemmas.Parts.{update_is_sound, idle_is_sound, none_written, has_fresh, zeros_at, none_missing_at_first as none_missing}
use Rattle.lvm_session.proofs.SoundLemmas.{sound_while_on}
use Rattle.lvm_keeps.proofs.FaultedLemmas.Parts.{none_stale, rose_once}

-- no disk is missing by a status that calls the second copy stale
pub none_missing_behind : (disk : ℕ) {X : Type 0} → calls_missing (status_of behind) disk ≡ true → X
none_missing_behind disk is = none_missing disk is

-- what it calls stale stands on the second disk
pub stale_there : (p : Pp) → calls_stale (status_of behind) p ≡ true → p.disk ≡ 1
stale_there p is = by (1 == p.disk) refl (0 == p.disk) (2 == p.disk) (has_bit (replicate 127 0) p.pp) (has-none 127 p.pp) is
  where
    by : (y : Bool) → (1 == p.disk) ≡ y → (x z t : Bool) → t ≡ false → x && t || (y && has_bit (1 ∷ replicate 126 0) p.pp || (z && t || false)) ≡ true → p.disk ≡ 1
    by true e x z t none is = sym (eqb-true 1 p.disk e)
    by false e x z true none is = not_either none
    by false e true true false none is = not_so is
    by false e true false false none is = not_so is
    by false e false true false none is = not_so is
    by false e false false false none is = not_so is

-- ---- the request

differ : (first : TargetState) (i j : ℕ) (d : Target) → i < j → j < 2 → (slice_index_or (ended_write first).request.targets.items i d).pp ≢ (slice_index_or (ended_write first).request.targets.items j d).pp
differ first zero zero d below within e = absurd (omega (arith, below))
differ first zero (suc zero) d below within e = let disks : 0 ≡ 1 = ap (λ (p : Pp). p.disk) e in absurd (omega (arith, disks))
differ first zero (suc (suc j)) d below within e = absurd (omega (arith, within))
differ first (suc i) j d below within e = absurd (omega (arith, below, within))

asked_so : (first : TargetState) → IsAsked (Begun begun_write ∷ []) (ended_write first)
asked_so first = record { request = begun_write; told = refl; client = refl; vol = refl; at = refl; count = refl; write = refl; length = λ e. refl; place = refl; outcome = refl; answered = λ e. not_either e }

none_flies : (first : TargetState) → is_over first ≡ true → (target : ℕ) → target_flies target (ended_write first) ≡ false
none_flies stage.Waiting over target = not_so over
none_flies stage.Flying over target = not_so over
none_flies stage.Done over zero = refl
none_flies stage.Done over (suc zero) = refl
none_flies stage.Done over (suc (suc target)) = refl
none_flies stage.Failed over zero = refl
none_flies stage.Failed over (suc zero) = refl
none_flies stage.Failed over (suc (suc target)) = refl

-- nothing is left to be wanted
none_behind : (committed : Says) (flies : Option Says) (writes : Writes) (first : TargetState) (p : Pp) {X : Type 0} → is_entailed (core_of (ended committed flies writes first)) p ≡ true → X
none_behind committed flies writes first p is =
    let core = core_of (ended committed flies writes first) in
    none_missing_behind p.disk (by (is_among (first_copy ∷ second_copy ∷ []) p) (not (is_stale core p)) (is_missing core p.disk) (list_any (can_replace core) (first_copy ∷ second_copy ∷ [])) is)
  where
    by : (a b c d : Bool) → a && b && c && d || false || false ≡ true → c ≡ true
    by true true true d is = refl
    by true true false d is = is
    by true false true d is = refl
    by true false false d is = is
    by false b true d is = refl
    by false b false d is = is

module _ (held : HeldWritesAreSound) (committed : Says) (flies : Option Says) (writes : Writes) (first : TargetState) where
  fits : IsFitting (core_of (ended committed flies writes first))
  fits = let f = (held mode.Off).fitting in record { valid = f.valid; id = refl; rows = λ disk. refl; group = refl; entries = f.entries; notes = f.notes; table = f.table; most = f.most; queue = refl; a_buffer = f.a_buffer; buffers = f.buffers; last = f.last; room = f.room }

  told : IsTold (core_of (ended committed flies writes first))
  told = let t = (held mode.Off).told in record { ordered = t.ordered; table = record { ascending = t.table.ascending; still = t.table.still }; each = t.each; requests = (asked_so first, tt) }

  owned : is_over first ≡ true → writes.started ≡ 0 → AreOwned (core_of (ended committed flies writes first))
  owned over none (owner.Data id target) = by (1 == id) (target_flies target (ended_write first)) (none_flies first over target)
    where
      by : (s t : Bool) → t ≡ false → ◌≡◌ {A = ℕ} 0 (count_if (s && t || false))
      by true t e = sym (ap (λ (u : Bool). count_if (u || false)) e)
      by false t e = refl
  owned over none (owner.Status disk) = sym (ap (λ (n : ℕ). count_if (has n disk)) none ∙ ap (λ (t : Bool). count_if t) (has-zero disk))
  owned over none (owner.Note disk) = (((held mode.Off).on refl).going.owned) (owner.Note disk)
  owned over none owner.Copy = refl

  request : is_over first ≡ true → is_wanted_due (core_of (ended committed flies writes first)) (ended_write first).request ≡ true → IsOpenOne (core_of (ended committed flies writes first)) (ended_write first)
  request over due =
      waits_with refl (laid_in (mirror mode.Off) refl (omega arith) (omega arith) (omega arith) (omega arith) (omega arith) (omega arith))
      (record {
        shape = shaped (record { copy = refl; sector = refl; there = refl }, (record { copy = refl; sector = refl; there = refl }, tt)) (refl, ap (λ t. t && true) over) refl tt (differ first) (λ past. refl) (λ read. not_either read);
        ready = record { free = λ past. refl; recorded = (refl, refl, refl); wanted = λ past two. refl; named = λ has two. refl; dirty = λ has two. refl };
        judged = λ write. record { uncaught = (none_caught _, (refl, tt)); due = λ waits. due; missed = λ waits. (refl, (refl, tt)); all = λ begun p among. or_left _ among; place = λ begun p among. not_so among };
      })
    where
      none_caught : (a : Bool) → a && false ≡ false
      none_caught true = refl
      none_caught false = refl

-- ---- its status isn't settled

on_others : (disk : ℕ) → has 6 disk ≡ (disk == 1 || disk == 2)
on_others disk = has-with 2 2 (omega arith) disk ∙ ap (λ t. t || disk == 2) (has-with 0 1 (omega arith) disk ∙ ap (λ t. t || disk == 1) (has-zero disk))

pub one_or_two : (disk : ℕ) → has 6 disk ≡ true → (disk ≡ 1) ⊎ (disk ≡ 2)
one_or_two disk is = by (disk == 1) (disk == 2) refl refl (sym (on_others disk) ∙ is)
  where
    by : (a b : Bool) → (disk == 1) ≡ a → (disk == 2) ≡ b → a || b ≡ true → (disk ≡ 1) ⊎ (disk ≡ 2)
    by true b p q e = inl (eqb-true disk 1 p)
    by false true p q e = inr (eqb-true disk 2 q)
    by false false p q e = not_so e

abbrev pub Untouched : ℕ → Type 0
Untouched disk = (is_there (seen unsettled.core.status) disk ≡ true) × (has 0 disk ≡ false) × (has 1 disk ≡ false) × (has 0 disk ≡ false)

pub untouched : (disk : ℕ) → (disk ≡ 1) ⊎ (disk ≡ 2) → Untouched disk
unfolding has has_bit
untouched disk (inl is) = subst Untouched (sym is) (refl, refl, refl, refl)
untouched disk (inr is) = subst Untouched (sym is) (refl, refl, refl, refl)

abbrev Has : ℕ → Type 0
Has d = has 6 d || (has 0 d || has 1 d) ≡ true

-- a member has the update, or is to be written
pub each_is : (disk : ℕ) → is_there (seen unsettled.core.status) disk ≡ true → has 6 disk || (has 0 disk || has 1 disk) ≡ true
unfolding has has_bit
each_is disk is = by (0 == disk) (1 == disk) (2 == disk) (calls_missing unsettled.core.status.wanted disk) refl refl refl is
  where
    by : (a b c d : Bool) → (0 == disk) ≡ a → (1 == disk) ≡ b → (2 == disk) ≡ c → (a || (b || (c || false))) && not d ≡ true → has 6 disk || (has 0 disk || has 1 disk) ≡ true
    by true b c d p q r e = subst Has (eqb-true 0 disk p) refl
    by false true c d p q r e = subst Has (eqb-true 1 disk q) refl
    by false false true d p q r e = subst Has (eqb-true 2 disk r) refl
    by false false false d p q r e = not_so e

unsettled_status : IsSoundStatus (seen unsettled.core.status)
unfolding votes_by has_bit has
unsettled_status = update_is_sound _ _ refl (λ disk is. untouched disk (one_or_two disk is)) has-zero has-zero each_is refl refl (λ disk is. none_missing disk is) (λ disk is. none_missing_behind disk is)

unsettled_next : first_event unsettled.core ≡ Some event.StartStatus
unfolding votes_by has_bit has
unsettled_next = refl

-- ---- it is settled

settled_status : (first : TargetState) → IsSoundStatus (seen (core_of (ended behind None no_writes first)).status)
unfolding votes_by has_bit has
settled_status first = idle_is_sound _ refl none_written refl (λ disk is. is)

kept_next : first_event kept.core ≡ Some (event.Land 0 outcome.Done)
unfolding votes_by has_bit has
kept_next = refl

kept_lands : Lands kept (landed kept stage.Done outcome.Done) 0 outcome.Done
unfolding votes_by has_bit has
kept_lands = record { request = ended_write stage.Done; there = refl; lands = refl; is = refl }

lost_next : first_event lost_on_both.core ≡ Some (event.Land 0 outcome.Lost)
unfolding votes_by has_bit has
lost_next = refl

lost_lands : Lands lost_on_both (landed lost_on_both stage.Failed outcome.Lost) 0 outcome.Lost
unfolding votes_by has_bit has
lost_lands = record { request = ended_write stage.Failed; there = refl; lands = refl; is = refl }

-- ---- what is asked of each

dues : (is_wanted_due unsettled.core (ended_write stage.Done).request ≡ true) × (is_wanted_due kept.core (ended_write stage.Done).request ≡ true) × (is_wanted_due lost_on_both.core (ended_write stage.Failed).request ≡ true)
unfolding has_bit
dues = (refl, refl, refl)

stays : (stays_fresh unsettled.core first_copy ≡ true) × (stays_fresh kept.core first_copy ≡ true) × (stays_fresh lost_on_both.core first_copy ≡ true)
unfolding has_bit
stays = (refl, refl, refl)

unsettled_numbers : 3 + updates_left unsettled.core < 2 ^ 32
unfolding has_bit has
unsettled_numbers = omega arith

kept_numbers : 3 + updates_left kept.core < 2 ^ 32
unfolding has_bit has
kept_numbers = omega arith

lost_numbers : 3 + updates_left lost_on_both.core < 2 ^ 32
unfolding has_bit has
lost_numbers = omega arith

unsettled_caused : AreCaused unsettled.device unsettled.core (ended_write stage.Done)
unfolding has_bit
unsettled_caused waits = (λ e. not_so e, (λ e. rose_once, tt))

kept_caused : AreCaused kept.device kept.core (ended_write stage.Done)
unfolding has_bit
kept_caused waits = (λ e. not_so e, (λ e. rose_once, tt))

lost_caused : AreCaused lost_on_both.device lost_on_both.core (ended_write stage.Failed)
lost_caused waits = (λ e. rose_once, (λ e. rose_once, tt))

unsettled_counted : AreCounted unsettled (ended_write stage.Done)
unsettled_counted = (record { began = omega arith; since = omega arith }, (record { began = omega arith; since = omega arith }, tt))

kept_counted : AreCounted kept (ended_write stage.Done)
kept_counted = (record { began = omega arith; since = omega arith }, (record { began = omega arith; since = omega arith }, tt))

lost_counted : AreCounted lost_on_both (ended_write stage.Failed)
lost_counted = (record { began = omega arith; since = omega arith }, (record { began = omega arith; since = omega arith }, tt))

second_failed : (device : Device) → device.counts.faults 1 ≡ 1 → (committed : Says) (flies : Option Says) (writes : Writes) (first : TargetState) (disk : ℕ) → disk ≡ 1 → FailedSince (state device (core_of (ended committed flies writes first))) disk
second_failed device one committed flies writes first disk is = subst (λ d. FailedSince (state device (core_of (ended committed flies writes first))) d) (sym is) (subst (λ n. Rose 0 n) (sym one) rose_once)

-- ---- they are sound

module _ (held : HeldWritesAreSound) where
  unsettled_origin : IsTrueToOrigin unsettled
  unsettled_origin = let o = (held mode.Off).origin in record {
    since = λ disk. let none = zeros_at 128 disk in omega (arith, none);
    votes = o.votes;
    rows = o.rows;
    still_missing = λ disk is. none_missing disk is;
    missing = λ disk is. none_missing_behind disk is;
    stale = λ p is. inr (inr (second_failed unsettled.device refl fresh (Some behind) unsettled.core.status.writes stage.Done p.disk (stale_there p (second_of_three (calls_stale (status_of fresh) p) (calls_stale (status_of behind) p) (none_stale p) is))));
  }

  unsettled_sound : IsSound unsettled
  unsettled_sound = let before = held mode.Off in
      sound_while_on _ refl (record { power = refl; freed = refl }) (fits held fresh (Some behind) unsettled.core.status.writes stage.Done) (told held fresh (Some behind) unsettled.core.status.writes stage.Done) before.placed (before.none_lost refl) (record {
        going = record {
          fitting = fits held fresh (Some behind) unsettled.core.status.writes stage.Done;
          told = told held fresh (Some behind) unsettled.core.status.writes stage.Done;
          status = unsettled_status;
          owned = owned held fresh (Some behind) unsettled.core.status.writes stage.Done refl refl;
          tickets = tt;
          queue = refl;
          pinned = (before.on refl).going.pinned;
          requests = (request held fresh (Some behind) unsettled.core.status.writes stage.Done refl dues.0, tt);
          copy = tt;
          hands = (before.on refl).going.hands;
          behind = λ p is. none_behind fresh (Some behind) unsettled.core.status.writes stage.Done p is;
          reviewed = refl;
          fresh = has_fresh mode.Off unsettled.core stays.0;
          clearings = λ p is not. neither_holds (calls_stale (status_of fresh) p) (calls_stale (status_of behind) p) (none_stale p) is not;
          numbers = unsettled_numbers;
        };
        rows = tt;
        caused = (unsettled_caused, tt);
        chosen = tt;
      })
      (record { counted = (unsettled_counted, tt); answered = (tt, tt); copy = tt; origin = unsettled_origin })

  kept_origin : IsTrueToOrigin kept
  kept_origin = let o = (held mode.Off).origin in record {
    since = λ disk. let none = zeros_at 128 disk in omega (arith, none);
    votes = o.votes;
    rows = o.rows;
    still_missing = λ disk is. none_missing disk is;
    missing = λ disk is. none_missing_behind disk is;
    stale = λ p is. inr (inr (second_failed kept.device refl behind None no_writes stage.Done p.disk (stale_there p (thrice_holds (calls_stale (status_of behind) p) is))));
  }

  kept_sound : IsSound kept
  kept_sound = let before = held mode.Off in
      sound_while_on _ refl (record { power = refl; freed = refl }) (fits held behind None no_writes stage.Done) (told held behind None no_writes stage.Done) before.placed (before.none_lost refl) (record {
        going = record {
          fitting = fits held behind None no_writes stage.Done;
          told = told held behind None no_writes stage.Done;
          status = settled_status stage.Done;
          owned = owned held behind None no_writes stage.Done refl refl;
          tickets = tt;
          queue = refl;
          pinned = (before.on refl).going.pinned;
          requests = (request held behind None no_writes stage.Done refl dues.1, tt);
          copy = tt;
          hands = (before.on refl).going.hands;
          behind = λ p is. none_behind behind None no_writes stage.Done p is;
          reviewed = refl;
          fresh = has_fresh mode.Off kept.core stays.1;
          clearings = λ p is not. twice_fails (calls_stale (status_of behind) p) is not;
          numbers = kept_numbers;
        };
        rows = tt;
        caused = (kept_caused, tt);
        chosen = tt;
      })
      (record { counted = (kept_counted, tt); answered = (tt, tt); copy = tt; origin = kept_origin })

  lost_origin : IsTrueToOrigin lost_on_both
  lost_origin = let o = (held mode.Off).origin in record {
    since = λ disk. let none = zeros_at 128 disk in omega (arith, none);
    votes = o.votes;
    rows = o.rows;
    still_missing = λ disk is. none_missing disk is;
    missing = λ disk is. none_missing_behind disk is;
    stale = λ p is. inr (inr (second_failed lost_on_both.device refl behind None no_writes stage.Failed p.disk (stale_there p (thrice_holds (calls_stale (status_of behind) p) is))));
  }

  lost_sound : IsSound lost_on_both
  lost_sound = let before = held mode.Off in
      sound_while_on _ refl (record { power = refl; freed = refl }) (fits held behind None no_writes stage.Failed) (told held behind None no_writes stage.Failed) before.placed (before.none_lost refl) (record {
        going = record {
          fitting = fits held behind None no_writes stage.Failed;
          told = told held behind None no_writes stage.Failed;
          status = settled_status stage.Failed;
          owned = owned held behind None no_writes stage.Failed refl refl;
          tickets = tt;
          queue = refl;
          pinned = (before.on refl).going.pinned;
          requests = (request held behind None no_writes stage.Failed refl dues.2, tt);
          copy = tt;
          hands = (before.on refl).going.hands;
          behind = λ p is. none_behind behind None no_writes stage.Failed p is;
          reviewed = refl;
          fresh = has_fresh mode.Off lost_on_both.core stays.2;
          clearings = λ p is not. twice_fails (calls_stale (status_of behind) p) is not;
          numbers = lost_numbers;
        };
        rows = tt;
        caused = (lost_caused, tt);
        chosen = tt;
      })
      (record { counted = (lost_counted, tt); answered = (tt, tt); copy = tt; origin = lost_origin })

pub unsettled_writes_are_sound : HeldWritesAreSound → UnsettledWritesAreSound
unsettled_writes_are_sound held = record { sound = unsettled_sound held; next = unsettled_next }

pub kept_writes_are_sound : HeldWritesAreSound → KeptWritesAreSound
kept_writes_are_sound held = record { sound = kept_sound held; next = kept_next; lands = kept_lands }

pub lost_writes_are_sound : HeldWritesAreSound → LostWritesAreSound
unfolding lost_lands
lost_writes_are_sound held = record {
  sound = lost_sound held;
  next = lost_next;
  lands = lost_lands;
  caused = landing_is_caused 0 outcome.Lost lost_on_both (landed lost_on_both stage.Failed outcome.Lost) (lost_sound held) refl lost_lands;
}

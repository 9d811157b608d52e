-- The written-out session is sound, and its move is done.
use Rattle.std.proofs.Common.{◌≡◌, ℕ, zero, suc, ◌<◌, ◌+◌, ◌-◌, ◌*◌, take, ◌^◌, ◌==◌, ◌||◌, ◌∙◌, Bool, true, false, List, [], ◌∷◌, Some, None, if◌then◌else◌, refl, sym, ap, arith}
use Rattle.std.specs.List.{list_any}
use Rattle.std.specs.Option.{option_map_or}
use Rattle.std.proofs.lemmas.List.{drop_all}
use Rattle.lvm_num.specs.Bits.{has_bit}
use Rattle.lvm_num.specs.Disks.{has}
use Rattle.lvm_num.specs.Votes.{votes_by}
use Rattle.lvm_num.specs.declared.descriptor.LvRow.{LvRow}
use Rattle.lvm_num.specs.declared.descriptor.Mode.{Mode}
use Rattle.lvm_num.specs.declared.descriptor.Mode.TheVariants.{Active, Passive, Off}
use Rattle.lvm_num.specs.declared.place.Pp.{Pp}
use Rattle.lvm_num.specs.Descriptor.{copies_of}
use Rattle.lvm_num.specs.Record.{Stamped}
use Rattle.lvm_num.specs.Status.{calls_stale}
use Rattle.lvm_num.proofs.Booleans.{not_either, not_so, thrice_holds}
use Rattle.lvm_kept.specs.Examples.{member, mirror, two}
use Rattle.lvm_invariant.specs.State.{Marks}
use Rattle.lvm_crash.proofs.WorkedLemmas.Worked.{its_marks}
use Rattle.lvm_session.specs.declared.flown.Owner.TheVariants as owner
use Rattle.lvm_session.specs.Bringing.{copy_ends}
use Rattle.lvm_session.specs.Causes.{IsCausedAmong, IsTrueToOrigin}
use Rattle.lvm_session.specs.Enabled.{first_event, is_lost}
use Rattle.lvm_session.specs.Judging.{copies_in, is_move_done}
use Rattle.lvm_session.specs.Left.{updates_left}
use Rattle.lvm_session.specs.Owners.{AreOwned}
use Rattle.lvm_session.specs.Sound.{IsCopy, IsFitting, IsGoing, IsSound, IsTold, may_be_fresh, stays_fresh}
use Rattle.lvm_session.specs.State.{Core}
use Rattle.lvm_session.specs.Worked.{first_copy, second_copy}
use Rattle.lvm_session.proofs.Small.{not_none}
use Rattle.lvm_session.proofs.SoundLemmas.{sound_while_on}
use Rattle.lvm_session.proofs.WorkedLemmas.Parts.{none_out, not_marked, zeros_at}
use Rattle.lvm_move_keeps.specs.Drained.{IsDrainedMoving}
use Rattle.lvm_tie.specs.Worked.{begun, core_of, shown, table}
use Rattle.lvm_tie.proofs.WorkedLemmas.Parts.{is_sound as begun_is_sound}
use Rattle.lvm_tied_moves.specs.Worked.{moved, moving}

-- nothing is stale
none_stale : (mode : Mode) (p : Pp) → calls_stale (table mode false) p ≡ false
none_stale mode p = ap (λ (m : Stamped Marks). m.value.stale p) (its_marks (shown mode false))

stays : (mode : Mode) → stays_fresh (moved mode).core first_copy ≡ true
unfolding has_bit
stays mode = refl

numbers : (mode : Mode) → 2 + updates_left (moved mode).core < 2 ^ 32
unfolding has_bit has
numbers Active = omega arith
numbers Passive = omega arith
numbers Off = omega arith

module _ (mode : Mode) where
  abbrev core : Core
  core = (moved mode).core

  -- as it was when it began
  was : IsSound (begun mode false)
  was = begun_is_sound mode false

  was_going : IsGoing (core_of mode false)
  was_going = (was.on refl).going

  fits : IsFitting core
  fits = let f = was.fitting in record {
    valid = f.valid;
    id = f.id;
    rows = f.rows;
    group = f.group;
    entries = f.entries;
    notes = f.notes;
    table = f.table;
    most = f.most;
    queue = f.queue;
    a_buffer = f.a_buffer;
    buffers = f.buffers;
    last = f.last;
    room = f.room;
  }

  told : IsTold core
  told = let t = was.told in record { ordered = t.ordered; table = t.table; each = t.each; requests = t.requests }

  owns : AreOwned core
  owns (owner.Data id target) = refl
  owns (owner.Status disk) = was_going.owned (owner.Status disk)
  owns (owner.Note disk) = was_going.owned (owner.Note disk)
  owns owner.Copy = refl

  its_copy : IsCopy core moving
  unfolding has_bit
  its_copy = record {
    row = mirror mode;
    volume = refl;
    lp = omega arith;
    kind = record {
      from = second_copy;
      its = refl;
      free = refl;
      member = member 1;
      member_is = refl;
      inside = omega arith;
      apart = refl;
      there = refl;
      called = refl;
      clear = λ runs whole. refl;
      fresh = refl;
      ends = λ e. not_none e;
    };
    cursor = omega arith;
    faults = refl;
    place = (0, omega arith, refl);
    room = tt;
    free = λ idle. not_either idle;
    hand = λ ended. not_either ended;
    tried = λ disk is. not_marked disk is;
    source = tt;
    under_way = λ runs busy. not_either busy;
  }

  caused : IsCausedAmong (moved mode) (copies_of (mirror mode) 0) moving
  caused = record {
    began = λ number p is. let first = zeros_at 128 p.disk in omega (arith, first);
    since = λ number p is. let none = zeros_at 4 (number - 1) in omega (arith, none);
    tried = λ number p is tried. not_marked p.disk tried;
    own_began = omega arith;
    own_since = omega arith;
    failed = λ e. not_none e;
  }

  runs : copy_ends core ≡ None
  unfolding has_bit has
  runs = refl

  -- its one logical partition has a copy that stays fresh
  has_fresh : (lv lp : ℕ) → list_any (may_be_fresh core) (copies_in (two mode) lv lp) ≡ true → list_any (stays_fresh core) (copies_in (two mode) lv lp) ≡ true
  has_fresh lv lp = by_volume (1 == lv) lp
    where
      copies : Bool → ℕ → List Pp
      copies is n = option_map_or (λ (row : LvRow). copies_of row n) (if is then Some (mirror mode) else None) []

      by_volume : (is : Bool) (n : ℕ) → list_any (may_be_fresh core) (copies is n) ≡ true → list_any (stays_fresh core) (copies is n) ≡ true
      by_volume true zero e = ap (λ (b : Bool). b || list_any (stays_fresh core) (second_copy ∷ [])) (stays mode)
      by_volume true (suc n) e = not_so (sym (ap (λ (ps : List Pp). list_any (may_be_fresh core) (take 2 ps)) (drop_all (suc n * 2) (first_copy ∷ second_copy ∷ []) (omega arith))) ∙ e)
      by_volume false n e = not_so e

  going : IsGoing core
  going = record {
    fitting = fits;
    told = told;
    status = was_going.status;
    owned = owns;
    tickets = tt;
    queue = refl;
    pinned = λ lv group. refl;
    requests = tt;
    copy = its_copy;
    hands = λ n. omega arith;
    behind = λ p is. was_going.behind p is;
    reviewed = runs;
    fresh = has_fresh;
    clearings = λ p held clear. not_so (was_going.clearings p held clear);
    numbers = numbers mode;
  }

  to_origin : IsTrueToOrigin (moved mode)
  to_origin = let o = was.origin in record {
    since = o.since;
    votes = o.votes;
    rows = o.rows;
    still_missing = o.still_missing;
    missing = o.missing;
    stale = λ p is. not_so (sym (none_stale mode p) ∙ thrice_holds (calls_stale (table mode false) p) is);
  }

  pub sound : IsSound (moved mode)
  sound = sound_while_on (moved mode) refl (record { power = refl; freed = refl }) fits told was.placed none_out (record { going = going; rows = tt; caused = tt; chosen = tt }) (record { counted = tt; answered = tt; copy = caused; origin = to_origin })

  votes : is_lost core ≡ false
  unfolding votes_by has_bit has
  votes = refl

  move_done : is_move_done core moving ≡ true
  unfolding has_bit
  move_done = refl

none_made : (mode : Mode) → first_event (moved mode).core ≡ None
unfolding votes_by has_bit has
none_made Active = refl
none_made Passive = refl
none_made Off = refl

pub drained : (mode : Mode) → IsDrainedMoving (moved mode) moving
drained mode = record { on = refl; votes = votes mode; none = none_made mode; idle = refl; is_open = refl; done = move_done mode }

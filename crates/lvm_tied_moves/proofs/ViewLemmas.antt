-- The state as which the written-out session is seen, which is good.
use Rattle.std.proofs.Common.{◌≡◌, ◌⊎◌, inl, inr, ⊎_elim, ℕ, Bool, true, false, ◌||◌, ◌==◌, not, if◌then◌else◌, [], ◌∷◌, Option, Some, None, refl, sym, ap, ◌∙◌, eqb-true}
use Rattle.std.specs.Prelude.{IsTrue, IsFalse}
use Rattle.lvm_num.specs.declared.place.Pp.{Pp}
use Rattle.lvm_num.specs.declared.descriptor.Mode.{Mode}
use Rattle.lvm_num.specs.declared.descriptor.Mode.TheVariants.{Active, Passive, Off}
use Rattle.lvm_num.specs.declared.status.Status.{Status}
use Rattle.lvm_num.specs.Buffer.{zero_sector}
use Rattle.lvm_num.specs.Descriptor.{is_pp}
use Rattle.lvm_num.specs.Modes.{is_active, is_passive}
use Rattle.lvm_num.specs.Record.{Stamped}
use Rattle.lvm_num.specs.Status.{calls_stale}
use Rattle.lvm_num.proofs.Booleans.{clash_gives, first_holds, not_so, second_holds}
use Rattle.lvm_vol.specs.May.{IsValue, Known, is_off, unknown}
use Rattle.lvm_kept.specs.Examples.{either_of, two}
use Rattle.lvm_even.proofs.Lists.{both_of}
use Rattle.lvm_invariant.specs.State.{Marks, ModelCopy, ModelState}
use Rattle.lvm_invariant.specs.First.{first_copy, is_either, second_copy, two_disks}
use Rattle.lvm_invariant.specs.Found.{Votes}
use Rattle.lvm_invariant.specs.Good.{Good}
use Rattle.lvm_invariant.specs.Sound.{Sound}
use Rattle.lvm_invariant.proofs.ToldLemmas.{told_of_none}
use Rattle.lvm_crash.specs.Session.{AreVotesOf, as_marks, marks_of, marks_shown}
use Rattle.lvm_crash.specs.Worked.{status_shown}
use Rattle.lvm_crash.proofs.WorkedLemmas.Worked.{enough, its_marks, on_either}
use Rattle.lvm_tie.specs.Seen.{passed_by}
use Rattle.lvm_tie.specs.Worked.{shown}
use Rattle.lvm_move_tie.specs.Worked.{free_partition, is_block, its_place, moved_state}
use Rattle.lvm_tied_moves.specs.Worked.{moving}

-- what both disks show
abbrev pub its_status : Mode → Stamped Status
its_status mode = status_shown (shown mode false)

-- with the stamps that stand on the disks, all other disks missing, and just its track groups passed
abbrev pub seen_as : Mode → ModelState
seen_as mode = record (moved_state mode) {
  media = record (moved_state mode).media { status = λ d. marks_shown (Some its_place) 50 (if either_of 0 1 d then Some (its_status mode) else None) };
  committed = as_marks (Some its_place) (its_status mode);
  wanted = marks_of (Some its_place) (its_status mode).value;
  missing = λ d. not (two_disks d);
  open_copy = Some (record { target = free_partition; passed = passed_by 8 moving });
}

nothing : {X A : Type 0} (a : A) → None ≡ Some a → X
nothing a e = absurd cc

-- ---- the marks

none_stale : (mode : Mode) (p : Pp) → calls_stale (its_status mode).value p ≡ false
none_stale mode p = ap (λ (m : Stamped Marks). m.value.stale p) (its_marks (shown mode false))

-- but the free partition is seen so
seen_stale : (mode : Mode) (p : Pp) → (marks_of (Some its_place) (its_status mode).value).stale p ≡ is_pp p free_partition
seen_stale mode p = ap (λ (t : Bool). is_pp p free_partition || t) (none_stale mode p) ∙ or_false (is_pp p free_partition)
  where
    or_false : (b : Bool) → b || false ≡ b
    or_false true = refl
    or_false false = refl

-- ---- what is known of a block once the volume is made, if the block is one of it

abbrev known_by : Mode → Bool → Known
known_by mode inside = if inside then record { values = Some (zero_sector ∷ []); open_writes = []; loose = false; mode = mode } else unknown

zeros_there : (mode : Mode) (inside : Bool) → IsTrue inside → IsValue (known_by mode inside) zero_sector
zeros_there mode true h = inl refl
zeros_there mode false h = not_so h

not_loose : (mode : Mode) (inside : Bool) → IsFalse (known_by mode inside).loose
not_loose mode true = refl
not_loose mode false = refl

its_mode : (mode : Mode) (inside : Bool) → IsTrue inside → IsFalse (is_active mode) → IsFalse (is_passive mode) → IsTrue (is_off (known_by mode inside).mode)
its_mode Off true h notes mark = refl
its_mode Active true h notes mark = absurd cc
its_mode Passive true h notes mark = absurd cc
its_mode mode false h notes mark = not_so h

-- ---- its copies

abbrev is_third : Pp → Bool
is_third p = is_either p || is_pp p free_partition

either_way : (x y : Bool) → IsTrue (x || y) → IsTrue x ⊎ IsTrue y
either_way true y h = inl refl
either_way false y h = inr h

-- aren't missing
none_lost : {X : Type 0} (p : Pp) → IsTrue (is_third p) → IsTrue (not (two_disks p.disk)) → X
none_lost p is missing = ⊎_elim
    (λ (old : IsTrue (is_either p)). ⊎_elim
    (λ (e : p ≡ first_copy). not_so (sym (ap (λ (q : Pp). not (two_disks q.disk)) e) ∙ missing))
    (λ (e : p ≡ second_copy). not_so (sym (ap (λ (q : Pp). not (two_disks q.disk)) e) ∙ missing))
    (on_either p old))
    (λ (new : IsTrue (is_pp p free_partition)). not_so (sym (ap (λ (n : ℕ). not (two_disks n)) (on_its_disk p new)) ∙ missing))
    (either_way (is_either p) (is_pp p free_partition) is)
  where
    on_its_disk : (q : Pp) → IsTrue (is_pp q free_partition) → q.disk ≡ 1
    on_its_disk q at = eqb-true q.disk 1 (first_holds (q.disk == 1) (q.pp == 1) at)

-- ---- it is good

module _ (mode : Mode) where
  abbrev s : ModelState
  s = seen_as mode

  abbrev its_open : ModelCopy
  its_open = record { target = free_partition; passed = passed_by 8 moving }

  same : (o : ModelCopy) → Some its_open ≡ Some o → o ≡ its_open
  same o is = cc

  is_sound : Sound s
  is_sound = record {
    blocks = record {
      each = λ lv b. inl (record {
        calm = λ i r started over. nothing r started.there;
        allowed = λ c live. zeros_there mode (is_block lv b) (first_holds (is_block lv b) (is_third c) live.copy);
        equal = inl (zero_sector, λ c live. refl);
      });
      busy = λ i lv b r started over. nothing r started.there;
      recorded = λ i lv b r started over. nothing r started.there;
    };
    tied = record {
      open_writes = λ i r there write un lv b. nothing r there;
      modes = λ lv b c copy off soft. its_mode mode (is_block lv b) (first_holds (is_block lv b) (is_third c) copy) off soft;
      tight = λ lv b c copy on. not_loose mode (is_block lv b);
      owner = λ lv b l d c e x y z. both_of (is_block lv b) (is_third e) (first_holds (is_block lv b) (is_third c) x) (second_holds (is_block l d) (is_third e) z);
      inside = λ i r there lv b over. nothing r there;
      place = λ i r there lv b over. nothing r there;
    };
    statuses = record {
      stale_flies = λ c u flies old fresh. nothing u flies;
      stale_is_wanted = λ c old n. clash_gives ((marks_of (Some its_place) (its_status mode).value).stale c) old n;
      flying_is_wanted = λ c u flies old n. nothing u flies;
      kept = λ lv b c copy. (
        first_copy,
        both_of (is_block lv b) true (first_holds (is_block lv b) (is_third c) copy) refl,
        record { committed = seen_stale mode first_copy; flying = λ u flies. nothing u flies; wanted = seen_stale mode first_copy },
      );
      open_there = λ o is. ap (λ (x : ModelCopy). not (two_disks x.target.disk)) (same o is);
      open_stale = λ o is. inl (seen_stale mode o.target ∙ ap (λ (x : ModelCopy). is_pp x.target free_partition) (same o is));
      dirty_flies = λ lv u flies h. nothing u flies;
      dirty_is_wanted = λ lv h. h;
      dirty_flying_is_wanted = λ lv u flies h. nothing u flies;
    };
    behind = record { left_behind = λ lv b c e copy fresh gone other usable kept. none_lost c (second_holds (is_block lv b) (is_third c) copy) gone };
    notes = record { home = λ d lv g there. refl; pinned = λ i r there write pins on several. nothing r there };
    holds = record {
      order = λ i j r e at_i at_j low conflict past. nothing r at_i;
      reads = λ i lv b r there read past over c x at. nothing r there;
      got = λ i lv b r value there read past got over. nothing r there;
    };
  }

  -- both disks show the committed status
  abbrev seen_with : Bool → Bool → Option (Stamped Marks)
  seen_with a b = marks_shown (Some its_place) 50 (if (if a then true else b) then Some (its_status mode) else None)

  on_two : (a b : Bool) → IsTrue (a || b) → seen_with a b ≡ Some (as_marks (Some its_place) (its_status mode))
  on_two true b h = refl
  on_two false true h = refl
  on_two false false h = not_so h

  one_status : (a b : Bool) (r : Stamped Marks) → seen_with a b ≡ Some r → r ≡ as_marks (Some its_place) (its_status mode)
  one_status true b r is = cc
  one_status false true r is = cc
  one_status false false r is = nothing r is

  pub good : (votes : Votes) → AreVotesOf (two mode) votes → Good votes s
  good votes are = record {
    sound = is_sound;
    found = record {
      set = two_disks;
      enough = are.writes two_disks ∙ enough mode;
      have = λ d h. inl (on_two (d == 0) (d == 1) h);
      only = λ d r is. inr (inl (one_status (d == 0) (d == 1) r is));
      newer = λ u flies. nothing u flies;
    };
    told = told_of_none _ _ _ (λ i r there. nothing r there) (tt, (tt, tt));
  }

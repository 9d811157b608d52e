-- The written-out session whose second copy has moved meets what is asked of one.
use Rattle.std.proofs.Common.{◌≡◌, ◌⊎◌, ◌↔◌, inl, inr, ⊎_elim, ℕ, zero, suc, ◌<◌, ◌/◌, Bool, true, false, ◌||◌, ◌==◌, if◌then◌else◌, [], ◌∷◌, Option, Some, None, refl, sym, ap, subst, ◌∙◌, arith, eqb-true, eq-eqb}
use Rattle.std.specs.Prelude.{IsTrue, IsFalse, nat_lt, slice_get}
use Rattle.std.proofs.lemmas.Bool.Decides.{nat_tests}
use Rattle.lvm_num.specs.declared.place.Pp.{Pp}
use Rattle.lvm_num.specs.declared.descriptor.Mode.{Mode}
use Rattle.lvm_num.specs.declared.descriptor.Mode.TheVariants.{Active, Passive, Off}
use Rattle.lvm_num.specs.declared.descriptor.LvRow.{LvRow}
use Rattle.lvm_num.specs.declared.status.Status.{Status}
use Rattle.lvm_num.specs.Buffer.{zero_sector}
use Rattle.lvm_num.specs.Descriptor.{copies_of, is_pp}
use Rattle.lvm_num.specs.Geometry.{partition_of}
use Rattle.lvm_num.specs.Modes.{is_active, is_passive}
use Rattle.lvm_num.specs.Record.{Stamped}
use Rattle.lvm_num.specs.Status.{calls_stale}
use Rattle.lvm_num.proofs.Booleans.{clash_gives, first_holds, not_so, second_holds, some_if}
use Rattle.lvm_vol.specs.May.{IsValue, Known, is_off, unknown}
use Rattle.lvm_kept.specs.Contents.{Contents}
use Rattle.lvm_kept.specs.Examples.{either_of, mirror, two}
use Rattle.lvm_kept.specs.Group.{IsOneOf}
use Rattle.lvm_even.specs.Members.{members_showing}
use Rattle.lvm_even.proofs.ExamplesLemmas.Examples.{valid}
use Rattle.lvm_even.proofs.ExamplesLemmas.Slots.{first_partition}
use Rattle.lvm_even.proofs.Lists.{both_of}
use Rattle.lvm_invariant.specs.State.{Beside, Marks, ModelCopy, ModelState}
use Rattle.lvm_invariant.specs.First.{first_copy, is_either, second_copy, two_disks}
use Rattle.lvm_invariant.specs.Found.{HasIt, Votes}
use Rattle.lvm_invariant.specs.Good.{Good}
use Rattle.lvm_invariant.specs.Sound.{Sound}
use Rattle.lvm_invariant.proofs.ToldLemmas.{told_of_none}
use Rattle.lvm_crash.specs.Session.{AreVotesOf, Describes, HasStatuses, HasVolumes, IsFreePlace, IsPlaceOf, as_marks, marks_of, marks_shown}
use Rattle.lvm_crash.proofs.WorkedLemmas.Worked.{enough, its_marks, on_either, stands, volumes}
use Rattle.lvm_places.specs.Places.{SeesRecords, placed}
use Rattle.lvm_places.specs.Laws.{AgreesBut, Replaces, copies_without}
use Rattle.lvm_moved.specs.Moved.{MayStandOn}
use Rattle.lvm_move_laws.specs.Moving.{IsFor}
use Rattle.lvm_move_laws.specs.Committing.{MayTakePlace}
use Rattle.lvm_move_tie.specs.Worked.{PlacesMayBeTaken, as_they_stand, free_partition, is_block, its_place, moved_group, moved_state, nothing_stale, shown_disks}
use Rattle.lvm_move_tie.proofs.MovedLemmas.{differs_in, moves_in}

nothing : {X A : Type 0} (a : A) → None ≡ Some a → X
nothing a e = absurd cc

-- ---- the marks

-- no partition is stale
none_stale : (p : Pp) → calls_stale nothing_stale.value p ≡ false
none_stale p = ap (λ (m : Stamped Marks). m.value.stale p) (its_marks (record { mode = Active; stale = false; dirty = false; named = false }))

-- but the free one is seen so
seen_stale : (p : Pp) → (marks_of (Some its_place) nothing_stale.value).stale p ≡ is_pp p free_partition
seen_stale p = ap (λ (t : Bool). is_pp p free_partition || t) (none_stale p) ∙ or_false (is_pp p free_partition)
  where
    or_false : (b : Bool) → b || false ≡ b
    or_false true = refl
    or_false false = refl

-- ---- what is known of a block once the volume is made, if the block is one of it

abbrev known_by : Mode → Bool → Known
known_by mode inside = if inside then record { values = Some (zero_sector ∷ []); open_writes = []; loose = false; mode = mode } else unknown

zeros_there : (mode : Mode) (inside : Bool) → IsTrue inside → IsValue (known_by mode inside) zero_sector
zeros_there mode true h = inl refl
zeros_there mode false h = not_so h

not_loose : (mode : Mode) (inside : Bool) → IsFalse (known_by mode inside).loose
not_loose mode true = refl
not_loose mode false = refl

its_mode : (mode : Mode) (inside : Bool) → IsTrue inside → IsFalse (is_active mode) → IsFalse (is_passive mode) → IsTrue (is_off (known_by mode inside).mode)
its_mode Off true h notes mark = refl
its_mode Active true h notes mark = absurd cc
its_mode Passive true h notes mark = absurd cc
its_mode mode false h notes mark = not_so h

-- ---- it is good

module _ (mode : Mode) where
  abbrev s : ModelState
  s = moved_state mode

  abbrev is_third : Pp → Bool
  is_third p = is_either p || is_pp p free_partition

  is_sound : Sound s
  is_sound = record {
    blocks = record {
      each = λ lv b. inl (record {
        calm = λ i r started over. nothing r started.there;
        allowed = λ c live. zeros_there mode (is_block lv b) (first_holds (is_block lv b) (is_third c) live.copy);
        equal = inl (zero_sector, λ c live. refl);
      });
      busy = λ i lv b r started over. nothing r started.there;
      recorded = λ i lv b r started over. nothing r started.there;
    };
    tied = record {
      open_writes = λ i r there write un lv b. nothing r there;
      modes = λ lv b c copy off soft. its_mode mode (is_block lv b) (first_holds (is_block lv b) (is_third c) copy) off soft;
      tight = λ lv b c copy on. not_loose mode (is_block lv b);
      owner = λ lv b l d c e x y z. both_of (is_block lv b) (is_third e) (first_holds (is_block lv b) (is_third c) x) (second_holds (is_block l d) (is_third e) z);
      inside = λ i r there lv b over. nothing r there;
      place = λ i r there lv b over. nothing r there;
    };
    statuses = record {
      stale_flies = λ c u flies old fresh. nothing u flies;
      stale_is_wanted = λ c old n. clash_gives ((marks_of (Some its_place) nothing_stale.value).stale c) old n;
      flying_is_wanted = λ c u flies old n. nothing u flies;
      kept = λ lv b c copy. (
        first_copy,
        both_of (is_block lv b) true (first_holds (is_block lv b) (is_third c) copy) refl,
        record { committed = seen_stale first_copy; flying = λ u flies. nothing u flies; wanted = seen_stale first_copy },
      );
      open_there = λ o is. refl;
      open_stale = λ o is. inl (seen_stale o.target ∙ ap (λ (x : ModelCopy). is_pp x.target free_partition) (same o is));
      dirty_flies = λ lv u flies h. nothing u flies;
      dirty_is_wanted = λ lv h. h;
      dirty_flying_is_wanted = λ lv u flies h. nothing u flies;
    };
    behind = record { left_behind = λ lv b c e copy fresh gone other usable kept. not_so gone };
    notes = record { home = λ d lv g there. refl; pinned = λ i r there write pins on several. nothing r there };
    holds = record {
      order = λ i j r e at_i at_j low conflict past. nothing r at_i;
      reads = λ i lv b r there read past over c x at. nothing r there;
      got = λ i lv b r value there read past got over. nothing r there;
    };
  }
    where
      same : (o : ModelCopy) → Some (record { target = free_partition; passed = λ lv g. true }) ≡ Some o → o ≡ record { target = free_partition; passed = λ lv g. true }
      same o is = cc

  -- both disks show the committed status, as it is seen and as it stands
  abbrev seen_with : Option Beside → Bool → Bool → Option (Stamped Marks)
  seen_with beside a b = marks_shown beside 50 (if (if a then true else b) then Some nothing_stale else None)

  on_two : (beside : Option Beside) (a b : Bool) → IsTrue (a || b) → seen_with beside a b ≡ Some (as_marks beside nothing_stale)
  on_two beside true b h = refl
  on_two beside false true h = refl
  on_two beside false false h = not_so h

  one_status : (beside : Option Beside) (a b : Bool) (r : Stamped Marks) → seen_with beside a b ≡ Some r → (a || b ≡ true) × (r ≡ as_marks beside nothing_stale)
  one_status beside true b r is = (refl, cc)
  one_status beside false true r is = (refl, cc)
  one_status beside false false r is = nothing r is

  good : (votes : Votes) → AreVotesOf (two mode) votes → Good votes s
  good votes are = record {
    sound = is_sound;
    found = record {
      set = two_disks;
      enough = are.writes two_disks ∙ enough mode;
      have = λ d h. inl (on_two (Some its_place) (d == 0) (d == 1) h);
      only = λ d r is. inr (inl (one_status (Some its_place) (d == 0) (d == 1) r is).1);
      newer = λ u flies. nothing u flies;
    };
    told = told_of_none _ _ _ (λ i r there. nothing r there) (tt, (tt, tt));
  }

  -- ---- it describes the disks

  abbrev c : Contents
  c = shown_disks mode

  the_row : (row : LvRow) → IsOneOf (two mode).lvs row → row ≡ mirror mode
  the_row row (inl is) = is
  the_row row (inr none) = absurd none

  same_pp : (a b : Pp) → IsTrue (is_pp a b) → a ≡ b
  same_pp a b is =
      let disk : a.disk ≡ b.disk = eqb-true a.disk b.disk (first_holds (a.disk == b.disk) (a.pp == b.pp) is) in
      let pp : a.pp ≡ b.pp = eqb-true a.pp b.pp (second_holds (a.disk == b.disk) (a.pp == b.pp) is) in
      λ t. record { disk = disk t; pp = pp t }

  within : (b : ℕ) → b / 2048 ≡ 0 → IsTrue (nat_lt b 2048)
  within b is = grind (arith, nat_tests)

  without : (b : ℕ) → IsTrue (nat_lt b 2048) → b / 2048 ≡ 0
  without b is = let low : b < 2048 = grind (arith, nat_tests) in omega arith

  abbrev shows : Pp → Type 0
  shows p = IsTrue (members_showing c (two mode) p.disk)

  either_way : (x y : Bool) → IsTrue (x || y) → IsTrue x ⊎ IsTrue y
  either_way true y h = inl refl
  either_way false y h = inr h

  -- what the copies of the logical partition are
  abbrev is_place : Bool → Pp → Type 0
  is_place block p = IsOneOf (copies_of (mirror mode) 0) p ⊎ ((p ≡ free_partition) × IsTrue block)

  place_is : (block : Bool) (p : Pp) → IsTrue block → IsTrue (is_third p) → is_place block p × shows p
  place_is block p inside is = ⊎_elim
      (λ (old : IsTrue (is_either p)). ⊎_elim
      (λ (e : p ≡ first_copy). subst (λ (q : Pp). is_place block q × shows q) (sym e) (inl (inl refl), refl))
      (λ (e : p ≡ second_copy). subst (λ (q : Pp). is_place block q × shows q) (sym e) (inl (inr (inl refl)), refl))
      (on_either p old))
      (λ (new : IsTrue (is_pp p free_partition)). let e = same_pp p free_partition new in subst (λ (q : Pp). is_place block q × shows q) (sym e) (inr (refl, inside), refl))
      (either_way (is_either p) (is_pp p free_partition) is)

  is_of_place : (block : Bool) (p : Pp) → is_place block p → IsTrue (is_third p)
  is_of_place block p (inl (inl e)) = ap is_third e
  is_of_place block p (inl (inr (inl e))) = ap is_third e
  is_of_place block p (inl (inr (inr none))) = absurd none
  is_of_place block p (inr at) = ap is_third at.0

  copies_at : (row : LvRow) → row ≡ mirror mode → (lp b : ℕ) (p : Pp) → lp ≡ 0 → b / 2048 ≡ lp → IsTrue (s.is_copy row.number b p) ↔ (IsPlaceOf (Some its_place) row lp b p × shows p)
  copies_at row is lp b p none part = subst (λ (r : LvRow). IsTrue (s.is_copy r.number b p) ↔ (IsPlaceOf (Some its_place) r lp b p × shows p)) (sym is)
      (subst (λ (n : ℕ). IsTrue (s.is_copy 1 b p) ↔ (IsPlaceOf (Some its_place) (mirror mode) n b p × shows p)) (sym none)
      (λ h. place_is (nat_lt b 2048) p (within b (part ∙ none)) (second_holds (nat_lt b 2048) (is_third p) h), λ h. both_of (nat_lt b 2048) (is_third p) (within b (part ∙ none)) (is_of_place (nat_lt b 2048) p h.0)))

  in_block : (lv b : ℕ) → IsTrue (is_block lv b) → (lv ≡ 1) × (partition_of 1 b ≡ 0)
  in_block lv b its = (sym (eqb-true 1 lv (first_holds (1 == lv) (nat_lt b 2048) its)), without b (second_holds (1 == lv) (nat_lt b 2048) its))

  no_copy : (row : LvRow) (lp : ℕ) → row ≡ mirror mode → lp ≡ 0 → IsOneOf (copies_of row lp) free_partition → ⊥
  no_copy row lp is none one = absent (subst (λ (n : ℕ). IsOneOf (copies_of (mirror mode) n) free_partition) none (subst (λ (r : LvRow). IsOneOf (copies_of r lp) free_partition) is one))
    where
      absent : IsOneOf (copies_of (mirror mode) 0) free_partition → ⊥
      absent (inl e) = absurd (let k : ◌≡◌ {A = ℕ} 1 0 = ap (λ (p : Pp). p.disk) e in omega (arith, k))
      absent (inr (inl e)) = absurd (let k : ◌≡◌ {A = ℕ} 1 0 = ap (λ (p : Pp). p.pp) e in omega (arith, k))
      absent (inr (inr none)) = absurd none

  free_place : IsFreePlace (two mode) its_place
  free_place = record {
    free = λ row lp one low at. let is = the_row row one in no_copy row lp is (first_partition lp (subst (λ (r : LvRow). lp < r.lps) is low)) at;
    one = λ a b l d x y. let m = in_block a b x in let n = in_block l d y in (m.0 ∙ sym n.0, m.1 ∙ sym n.1);
  }

  one_beside : (o : Beside) → Some its_place ≡ Some o → its_place ≡ o
  one_beside o e = cc

  has_volumes : HasVolumes s s.facts (two mode) (members_showing c (two mode))
  has_volumes =
      let old = volumes mode false in
      record {
        free = λ o is. subst (IsFreePlace (two mode)) (one_beside o is) free_place;
        copies = λ row lp b p one inside. copies_at row (the_row row one) lp b p (first_partition lp (subst (λ (r : LvRow). lp < r.lps) (the_row row one) inside.inside)) inside.partition;
        inside = λ lv b p copy.
            let its = first_holds (is_block lv b) (is_third p) copy in
            let at = in_block lv b its in
            record { row = mirror mode; lp = 0; volume = inl refl; number = sym at.0; inside = record { inside = omega arith; partition = at.1 } };
        some = old.some;
        notes = old.notes;
        mark = old.mark;
        modes = old.modes;
        history = old.history;
      }

  the_status : (d : ℕ) (r : Stamped Status) → c.status d ≡ Some r → r ≡ nothing_stale
  the_status d r is = some_if (either_of 0 1 d) nothing_stale r is

  statuses : HasStatuses s (two mode) None c
  statuses = record {
    same = refl;
    own = λ u e. nothing u e;
    once = λ d e r u is also ids stamps. the_status d r is ∙ sym (the_status e u also);
    new = λ u d r e is ids stamps. nothing u e;
  }

  describes : Describes s s.facts (two mode) None c
  describes = record {
    stands = stands mode;
    volumes = has_volumes;
    shown = record { blocks = λ lv b p copy. refl; names = λ d lv g. refl; status = λ d. refl; statuses = statuses };
    raw = λ d b low none from to. tt;
  }

  -- ---- it takes the place

  may_stand : MayStandOn (two mode) 1 0 2 free_partition
  may_stand = record {
    row = mirror mode;
    volume = refl;
    within = omega arith;
    some = omega arith;
    copy = omega arith;
    free = refl;
    inside = (record { disk = 1; pps = 6; spare = false }, refl, omega arith);
    apart = λ k p at other same. elsewhere k p at other same;
  }
    where
      elsewhere : (k : ℕ) (p : Pp) → slice_get (copies_of (mirror mode) 0) k ≡ Some p → (k ≡ 1 → ⊥) → p.disk ≡ 1 → ⊥
      elsewhere zero p at other same = absurd (let e : first_copy ≡ p = cc at in let k : ◌≡◌ {A = ℕ} 0 1 = ap (λ (q : Pp). q.disk) e ∙ same in omega (arith, k))
      elsewhere (suc zero) p at other same = other refl
      elsewhere (suc (suc k)) p at other same = nothing p at

  agrees : AgreesBut s free_partition (as_they_stand mode)
  agrees = record {
    committed = λ p off. none_stale p ∙ sym (seen_stale p ∙ off);
    dirty = λ lv. refl;
    flying = λ u flies. nothing u flies;
    none = λ none. refl;
  }

  records : SeesRecords s (placed s (copies_without s.is_copy second_copy) s.media.block (as_they_stand mode) None None)
  records = record {
    have = have;
    only = λ d r is. inr (inl (one_status None (d == 0) (d == 1) r is).1);
    newer = λ u flies. nothing u flies;
  }
    where
      have : (d : ℕ) → HasIt s d → HasIt (placed s (copies_without s.is_copy second_copy) s.media.block (as_they_stand mode) None None) d
      have d (inl it) = inl (on_two None (d == 0) (d == 1) (one_status (Some its_place) (d == 0) (d == 1) (as_marks (Some its_place) nothing_stale) it).0)
      have d (inr u) = nothing u.0 u.1

  takes : Replaces s second_copy free_partition (as_they_stand mode)
  takes = record {
    complete = record { copy = record { target = free_partition; passed = λ lv g. true }; is_open = refl; target = refl; passed = λ lv b copy. refl };
    apart = refl;
    alone = λ lv b h. h;
    agrees = agrees;
    committed = none_stale free_partition;
    flying = λ u flies. nothing u flies;
    fresh = none_stale free_partition;
    still = λ p off wanted. clash_gives (is_pp p free_partition) (sym (seen_stale p) ∙ wanted) off;
    added = λ p off wanted. clash_gives (calls_stale nothing_stale.value p) wanted (none_stale p);
    wanted_dirty = λ lv h. h;
    behind = λ lv b p to copy off apart fresh gone. not_so gone;
    records = records;
  }

  is_for : IsFor 1 1 0 its_place
  is_for = record {
    its = λ l b at. in_block l b at;
    all = λ l b lv lp. both_of (1 == l) (nat_lt b 2048) (eq-eqb 1 l (sym lv)) (within b lp);
  }

  pub may_take : (votes : Votes) → AreVotesOf (two mode) votes → MayTakePlace votes s (as_they_stand mode) its_place (two mode) (moved_group mode) 1 0 second_copy c
  unfolding may_stand
  may_take votes are = record {
    are_votes = are;
    good = good votes are;
    describes = describes;
    beside = refl;
    its = is_for;
    differs = differs_in 1 0 2 free_partition (two mode);
    moves = moves_in (two mode) 1 0 2 second_copy free_partition (valid mode) may_stand refl;
    takes = takes;
    member = refl;
    marks = λ d. refl;
    idle = refl;
  }

pub places_may_be_taken : PlacesMayBeTaken
places_may_be_taken mode votes are = may_take mode votes are

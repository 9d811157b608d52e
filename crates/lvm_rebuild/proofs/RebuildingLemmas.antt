-- The copies that stand on missing disks move to spares, one after the other.
use Rattle.std.proofs.Common.{◌≡◌, ◌≢◌, ◌⊎◌, inl, inr, ⊎_elim, ◌≤◌, ◌<◌, ◌+◌, ◌++◌, ℕ, zero, suc, Bool, true, false, List, [], ◌∷◌, length, get_or, take, drop, map, Option, Some, None, if◌then◌else◌, refl, sym, ap, subst, ◌∙◌, arith}
use Rattle.std.specs.Prelude.{◌==◌, ◌||◌, IfOk, is_some, nat_lt, not, Ok, Err, Result}
use Rattle.std.specs.List.{list_any}
use Rattle.std.specs.Option.{option_map_or}
use Rattle.std.proofs.lemmas.Bool.{cases_Bool, or_left}
use Rattle.lvm_num.specs.Among.{IsOneOf}
use Rattle.lvm_num.specs.declared.place.Pp.{Pp}
use Rattle.lvm_num.specs.declared.descriptor.PvRow.{PvRow}
use Rattle.lvm_num.specs.declared.descriptor.LvRow.{LvRow}
use Rattle.lvm_num.specs.declared.descriptor.Descriptor.{Descriptor}
use Rattle.lvm_num.specs.Descriptor.{IsValid, is_member, is_pp}
use Rattle.lvm_num.specs.Votes.{total_votes}
use Rattle.lvm_num.proofs.DescriptorLemmas.Partitions.{one_partition, same_partition}
use Rattle.lvm_disk.specs.Counts.{NoneFalls}
use Rattle.lvm_moved.specs.Moved.{MayStandOn, moved_row, with_copy_on}
use Rattle.lvm_session.specs.declared.bringing.OpenCopy.{OpenCopy}
use Rattle.lvm_session.specs.declared.open.Power.{Power}
use Rattle.lvm_session.specs.declared.open.Power.TheVariants as power
use Rattle.lvm_session.specs.Calls.{has_numbers}
use Rattle.lvm_session.specs.Causes.{is_held_stale}
use Rattle.lvm_session.specs.Judging.{is_stale, is_wanted_stale}
use Rattle.lvm_session.specs.Sound.{IsSound}
use Rattle.lvm_session.specs.State.{Core, State, votes_there}
use Rattle.lvm_move_plan.specs.declared.standing.VolumeCopy.{VolumeCopy}
use Rattle.lvm_move_plan.specs.declared.plan.PlannedMove.{PlannedMove}
use Rattle.lvm_move_plan.specs.Laws.{after_move, after_moves}
use Rattle.lvm_move_plan.specs.Standing.{StandsAmong, listed, standing_among}
use Rattle.lvm_move_plan.proofs.LeavingLemmas.{copies_left, stands}
use Rattle.lvm_migrate.specs.declared.fault.MoveFault.{MoveFault}
use Rattle.lvm_migrate.specs.declared.fault.MoveFault.TheVariants as move
use Rattle.lvm_migrate.specs.Committed.{GoesCommitting, MovesAsPlanned, stages}
use Rattle.lvm_migrate.specs.Migrating.{GoesBesideMoving, HaveMoved, MoveCause, NoneMoved, OneMoved, refusal_by}
use Rattle.lvm_migrate.specs.Moving.{CommitGives}
use Rattle.lvm_migrate.proofs.BesideLemmas.{beside_both, beside_none}
use Rattle.lvm_migrate.proofs.CausesLemmas.{IsLater, cause_since, later_both, later_moved, later_same}
use Rattle.lvm_migrate.proofs.CommittedLemmas.{descriptor_is, epoch_stays, goes_on_still, is_shut, moved_stand}
use Rattle.lvm_migrate.proofs.MarksLemmas.{IsCleanSince, IsThereSince}
use Rattle.lvm_migrate.proofs.MigratingLemmas.{clean_new, members_new, place_new}
use Rattle.lvm_migrate.proofs.WayLemmas.{going_both, going_none, going_some, shut_err, stage_of}
use Rattle.lvm_rebuild.specs.declared.fault.RebuildFault.{RebuildFault}
use Rattle.lvm_rebuild.specs.declared.fault.RebuildFault.TheVariants as fault
use Rattle.lvm_rebuild.specs.Choosing.{choice_of, has_fresh, spare_for}
use Rattle.lvm_rebuild.specs.Rebuilding.{AreRebuilt, HaveRebuilt, IsGroupAfter, IsLeftShutBy, IsPlanned, IsRefused, LacksMemory, NoneRebuilt, RebuildGives, busy_or_full, has_entries, is_busy, rebuild_refusal, OneRebuilt, RebuildCause, RebuildsAll, StandRebuilt, StopsAtCopy, StopsRebuilding, copies_moved, move_to, unplaced}
use Rattle.lvm_rebuild.proofs.ChoosingLemmas.{IsChosen, chosen, is_there, its_member, may_stand, off_lost}

-- ---- lists

one_of_both : {X : Type 0} (xs : List X) (y x : X) → IsOneOf (xs ++ y ∷ []) x → IsOneOf xs x ⊎ (x ≡ y)
one_of_both [] y x (inl is) = inr is
one_of_both [] y x (inr none) = absurd none
one_of_both (z ∷ zs) y x (inl is) = inl (inl is)
one_of_both (z ∷ zs) y x (inr one) = ⊎_elim (λ there. inl (inr there)) (λ is. inr is) (one_of_both zs y x one)

one_got : {X : Type 0} (xs : List X) (k : ℕ) (d : X) → k < length xs → IsOneOf xs (get_or xs k d)
one_got [] k d lt = absurd (omega (arith, lt))
one_got (x ∷ xs) zero d lt = inl refl
one_got (x ∷ xs) (suc k) d lt = inr (one_got xs k d (omega (arith, lt)))

mapped_both : (moves : List PlannedMove) (m : PlannedMove) → copies_moved (moves ++ m ∷ []) ≡ copies_moved moves ++ m.copy ∷ []
mapped_both [] m = refl
mapped_both (x ∷ moves) m = ap (λ (l : List VolumeCopy). x.copy ∷ l) (mapped_both moves m)

taken : {X : Type 0} (xs : List X) (k : ℕ) (d : X) → k < length xs → take (suc k) xs ≡ take k xs ++ get_or xs k d ∷ []
taken [] k d lt = absurd (omega (arith, lt))
taken (x ∷ xs) zero d lt = refl
taken (x ∷ xs) (suc k) d lt = ap (λ l. x ∷ l) (taken xs k d (omega (arith, lt)))

dropped : {X : Type 0} (xs : List X) (k : ℕ) (d : X) → k < length xs → drop k xs ≡ get_or xs k d ∷ drop (suc k) xs
dropped [] k d lt = absurd (omega (arith, lt))
dropped (x ∷ xs) zero d lt = refl
dropped (x ∷ xs) (suc k) d lt = dropped xs k d (omega (arith, lt))

whole : {X : Type 0} (xs : List X) (n : ℕ) → take n xs ++ drop n xs ≡ xs
whole [] zero = refl
whole [] (suc n) = refl
whole (x ∷ xs) zero = refl
whole (x ∷ xs) (suc n) = ap (λ l. x ∷ l) (whole xs n)

all_taken : {X : Type 0} (xs : List X) (n : ℕ) → length xs ≤ n → take n xs ≡ xs
all_taken [] zero le = refl
all_taken [] (suc n) le = refl
all_taken (x ∷ xs) zero le = absurd (omega (arith, le))
all_taken (x ∷ xs) (suc n) le = ap (λ l. x ∷ l) (all_taken xs n (omega (arith, le)))

none_left : {X : Type 0} (xs : List X) (n : ℕ) → length xs ≤ n → drop n xs ≡ []
none_left [] zero le = refl
none_left [] (suc n) le = refl
none_left (x ∷ xs) zero le = absurd (omega (arith, le))
none_left (x ∷ xs) (suc n) le = none_left xs n (omega (arith, le))

-- ---- where copies stand

-- the group but for where its copies stand stays
unplaced_after : (d : Descriptor) (m : PlannedMove) → unplaced (after_move d m) ≡ unplaced d
unplaced_after d m = ap (λ (rows : List LvRow). record d { lvs = rows }) (each d.lvs)
  where
    row_same : (row : LvRow) (b : Bool) (n : ℕ) → record (if b then with_copy_on row m.copy.lp n m.to else row) { map = [] } ≡ record row { map = [] }
    row_same row true n = refl
    row_same row false n = refl

    each : (rows : List LvRow) → map (λ (row : LvRow). record row { map = [] }) (map (moved_row m.copy.lv m.copy.lp m.copy.number m.to) rows) ≡ map (λ (row : LvRow). record row { map = [] }) rows
    each [] = refl
    each (row ∷ rows) = λ t. row_same row (row.number == m.copy.lv) m.copy.number t ∷ each rows t

pub unplaced_same : (d : Descriptor) (moves : List PlannedMove) → unplaced (after_moves d moves) ≡ unplaced d
unplaced_same d [] = refl
unplaced_same d (m ∷ moves) = unplaced_same (after_move d m) moves ∙ unplaced_after d m

pub stand_alike : (copies : List VolumeCopy) (d new : Descriptor) → StandRebuilt copies d new → unplaced new ≡ unplaced d
stand_alike copies d new it = ap unplaced it.is ∙ unplaced_same d it.moves

-- none has moved
pub stand_none : (copies : List VolumeCopy) (d : Descriptor) → StandRebuilt copies d d
stand_none copies d = record { moves = []; rest = copies; all = refl; is = refl }

-- in each group of the way some have
stand_stage : (d : Descriptor) (moves : List PlannedMove) (rest : List VolumeCopy) (k : Descriptor) → IsOneOf (stages d moves) k → StandRebuilt (copies_moved moves ++ rest) d k
stand_stage d [] rest k one = absurd one
stand_stage d (m ∷ moves) rest k (inl is) = record { moves = m ∷ []; rest = copies_moved moves ++ rest; all = refl; is = is }
stand_stage d (m ∷ moves) rest k (inr one) =
    let its = stand_stage (after_move d m) moves rest k one in record { moves = m ∷ its.moves; rest = its.rest; all = ap (λ (l : List VolumeCopy). m.copy ∷ l) its.all; is = its.is }

-- those of fewer moves are among those of more
stages_more : (d : Descriptor) (moves : List PlannedMove) (m : PlannedMove) (k : Descriptor) → IsOneOf (stages d moves) k → IsOneOf (stages d (moves ++ m ∷ [])) k
stages_more d [] m k one = absurd one
stages_more d (x ∷ moves) m k (inl is) = inl is
stages_more d (x ∷ moves) m k (inr one) = inr (stages_more (after_move d x) moves m k one)

-- those that were rebuilt have moved
have_moved : {lost : List ℕ} {first : State} {patience : ℕ} {moves : List PlannedMove} {now : State} {left : ℕ} → HaveRebuilt lost first patience moves now left → HaveMoved first patience moves now left
have_moved NoneRebuilt = NoneMoved
have_moved (OneRebuilt m have chosen gives) = OneMoved m (have_moved have) gives

-- ---- all that were rebuilt so far

-- The first of these copies have been moved, so many, and the others stand where they stood.
pub record RebuiltSoFar (lost : List ℕ) (first now : State) (patience left : ℕ) (copies : List VolumeCopy) (k : ℕ) : Type 0 where
  pub moves : List PlannedMove
  pub moved : copies_moved moves ≡ take k copies
  pub have : HaveRebuilt lost first patience moves now left
  pub others : standing_among now.core.descriptor None (listed lost) ≡ drop k copies
  pub shut : now.core.copy ≡ None
  pub on : now.core.power ≡ power.On
  pub epoch : now.core.status.stamp.epoch ≢ 0
  pub beside : GoesBesideMoving first now patience left
  pub later : IsLater first now
  pub way : MovesAsPlanned moves first now
  pub members : now.core.descriptor.pvs ≡ first.core.descriptor.pvs
  pub inside : (m : PlannedMove) → IsOneOf moves m → is_member first.core.descriptor m.to.disk ≡ true
  pub clean : (m : PlannedMove) → IsOneOf moves m → IsCleanSince first now m.to

pub none_so_far : (lost : List ℕ) (first : State) (left : ℕ) (copies : List VolumeCopy) → standing_among first.core.descriptor None (listed lost) ≡ copies → first.core.copy ≡ None → first.core.power ≡ power.On
    → first.core.status.stamp.epoch ≢ 0 → RebuiltSoFar lost first first left left copies 0
none_so_far lost first left copies listed_are shut on epoch = record {
  moves = [];
  moved = none_taken copies;
  have = NoneRebuilt;
  others = listed_are ∙ all_dropped copies;
  shut = shut;
  on = on;
  epoch = epoch;
  beside = beside_none first left;
  later = later_same first;
  way = going_none (λ (x : Descriptor). IsOneOf (stages first.core.descriptor []) x) first;
  members = refl;
  inside = λ m none. absurd none;
  clean = λ m none. absurd none;
}
  where
    none_taken : (xs : List VolumeCopy) → [] ≡ take 0 xs
    none_taken [] = refl
    none_taken (x ∷ xs) = refl

    all_dropped : (xs : List VolumeCopy) → xs ≡ drop 0 xs
    all_dropped [] = refl
    all_dropped (x ∷ xs) = refl

pub shown : {lost : List ℕ} {first now : State} {patience left : ℕ} {copies : List VolumeCopy} {k : ℕ} (it : RebuiltSoFar lost first now patience left copies k) → now.core.descriptor ≡ after_moves first.core.descriptor it.moves
shown it = moved_stand (have_moved it.have)

pub stand_so_far : (lost : List ℕ) (first now : State) (patience left : ℕ) (copies : List VolumeCopy) (k : ℕ) (it : RebuiltSoFar lost first now patience left copies k) → StandRebuilt copies first.core.descriptor now.core.descriptor
stand_so_far lost first now patience left copies k it = record { moves = it.moves; rest = drop k copies; all = sym (whole copies k) ∙ ap (λ (l : List VolumeCopy). l ++ drop k copies) (sym it.moved); is = shown it }

pub way_so_far : (lost : List ℕ) (first now : State) (patience left : ℕ) (copies : List VolumeCopy) (k : ℕ) (it : RebuiltSoFar lost first now patience left copies k) → GoesCommitting (StandRebuilt copies first.core.descriptor) first now
way_so_far lost first now patience left copies k it = going_some (λ (x : Descriptor). IsOneOf (stages first.core.descriptor it.moves) x) (StandRebuilt copies first.core.descriptor) here first now it.way
  where
    here : (x : Descriptor) → IsOneOf (stages first.core.descriptor it.moves) x → StandRebuilt copies first.core.descriptor x
    here x one = subst (λ (l : List VolumeCopy). StandRebuilt l first.core.descriptor x) (ap (λ (l : List VolumeCopy). l ++ drop k copies) it.moved ∙ whole copies k) (stand_stage first.core.descriptor it.moves (drop k copies) x one)

-- the next one
module _ (lost : List ℕ) (first old : State) (patience left : ℕ) (copies : List VolumeCopy) (k : ℕ) (d : VolumeCopy) (lt : k < length copies) (so_far : RebuiltSoFar lost first old patience left copies k) where
  abbrev pub c : VolumeCopy
  c = get_or copies k d

  others_are : standing_among old.core.descriptor None (listed lost) ≡ c ∷ drop (suc k) copies
  others_are = so_far.others ∙ dropped copies k d lt

  pub stands_next : IsValid old.core.descriptor → StandsAmong old.core.descriptor None (listed lost) c
  stands_next valid = stands old.core.descriptor None (listed lost) valid c (drop (suc k) copies) others_are

  whole_here : copies ≡ copies_moved so_far.moves ++ c ∷ drop (suc k) copies
  whole_here = sym (whole copies k) ∙ (λ t. sym so_far.moved t ++ dropped copies k d lt t)

  pub stops_here : (after : ℕ) (new : State) (why : RebuildFault) → StopsAtCopy lost c left after old new why → new.core.descriptor ≡ old.core.descriptor → NoneFalls old.device.counts new.device.counts
      → GoesCommitting (IsGroupAfter lost c old.core) old new → StopsRebuilding lost copies patience after first new why
  stops_here after new why stops same counts way = record {
    moves = so_far.moves;
    one = c;
    rest = drop (suc k) copies;
    all = whole_here;
    mid = old;
    before = left;
    have = so_far.have;
    stops = stops;
    stand = same ∙ shown so_far;
    way = going_both Was first old new so_far.beside.counts counts (going_some (λ (x : Descriptor). IsOneOf (stages first.core.descriptor so_far.moves) x) Was (λ x one. inl one) first old so_far.way)
        (going_some (IsGroupAfter lost c old.core) Was (λ x is. inr is) old new way);
  }
    where
      Was : Descriptor → Type 0
      Was x = IsOneOf (stages first.core.descriptor so_far.moves) x ⊎ IsGroupAfter lost c old.core x

  after_last : (g : Descriptor) (moves : List PlannedMove) (m : PlannedMove) → after_moves g (moves ++ m ∷ []) ≡ after_move (after_moves g moves) m
  after_last g [] m = refl
  after_last g (x ∷ moves) m = after_last (after_move g x) moves m

  -- what is being committed then is a group in which it stands elsewhere too
  pub way_next : (new : State) → NoneFalls old.device.counts new.device.counts → GoesCommitting (IsGroupAfter lost c old.core) old new → GoesCommitting (StandRebuilt copies first.core.descriptor) first new
  way_next new counts way =
      going_both (StandRebuilt copies first.core.descriptor) first old new so_far.beside.counts counts (way_so_far lost first old patience left copies k so_far) (going_some (IsGroupAfter lost c old.core) (StandRebuilt copies first.core.descriptor) here old new way)
    where
      here : (x : Descriptor) → IsGroupAfter lost c old.core x → StandRebuilt copies first.core.descriptor x
      here x (pp, chosen_is, is) = record {
        moves = so_far.moves ++ move_to c pp ∷ [];
        rest = drop (suc k) copies;
        all = whole_here ∙ joined (copies_moved so_far.moves) c (drop (suc k) copies) ∙ ap (λ (l : List VolumeCopy). l ++ drop (suc k) copies) (sym (mapped_both so_far.moves (move_to c pp)));
        is = is ∙ ap (λ (g : Descriptor). after_move g (move_to c pp)) (shown so_far) ∙ sym (after_last first.core.descriptor so_far.moves (move_to c pp));
      }
        where
          joined : (xs : List VolumeCopy) (y : VolumeCopy) (ys : List VolumeCopy) → xs ++ y ∷ ys ≡ (xs ++ y ∷ []) ++ ys
          joined [] y ys = refl
          joined (x ∷ xs) y ys = ap (λ (l : List VolumeCopy). x ∷ l) (joined xs y ys)

  -- it has moved
  module _ (after : ℕ) (new : State) (sound : IsSound old) (to : Pp) (is : choice_of old.core lost c ≡ Ok to) (gives : CommitGives (move_to c to) left after old new (Ok tt)) (beside : GoesBesideMoving old new left after)
      (way : GoesCommitting (IsGroupAfter lost c old.core) old new) where
    abbrev m : PlannedMove
    m = move_to c to

    its : IsChosen old.core lost c to
    its = chosen old.core lost c to is

    valid : IsValid old.core.descriptor
    valid = sound.fitting.valid

    may : MayStandOn old.core.descriptor c.lv c.lp c.number to
    may = may_stand old.core lost c to its (stands_next valid) valid

    unstuck : old.core.power ≡ power.Stuck → ⊥
    unstuck stuck = let e : power.On ≡ power.Stuck = sym so_far.on ∙ stuck in cc e

    there : IsThereSince first old to.disk
    there = record { gone = λ gone. absurd (let e : false ≡ true = sym (is_there old.core lost c to its) ∙ gone in cc e); later = so_far.later.faults to.disk }

    member_old : (disk : ℕ) → is_member first.core.descriptor disk ≡ true → is_member old.core.descriptor disk ≡ true
    member_old disk inside = ap (λ (rows : List PvRow). list_any (λ (row : PvRow). row.disk == disk) rows) so_far.members ∙ inside

    member_first : is_member first.core.descriptor to.disk ≡ true
    member_first = ap (λ (rows : List PvRow). list_any (λ (row : PvRow). row.disk == to.disk) rows) (sym so_far.members) ∙ its_member old.core lost c to its

    placed : IsCleanSince first new to
    placed = place_new first m left after old new sound unstuck may gives (its_member old.core lost c to its) there

    cleaned : (p : Pp) → is_member first.core.descriptor p.disk ≡ true → IsCleanSince first old p → IsCleanSince first new p
    cleaned p inside was = elim (cases_Bool (is_pp p to)) [
      | inl same ↦ subst (IsCleanSince first new) (sym (one_partition p to same)) placed
      | inr other ↦ clean_new first m left after old new sound unstuck may gives p (λ e. let yes : false ≡ true = sym other ∙ same_partition p to e in cc yes) (member_old p.disk inside) was
    ]

    pub one_more : RebuiltSoFar lost first new patience after copies (k + 1)
    one_more = record {
      moves = so_far.moves ++ m ∷ [];
      moved = mapped_both so_far.moves m ∙ ap (λ (l : List VolumeCopy). l ++ c ∷ []) so_far.moved ∙ sym (taken copies k d lt) ∙ ap (λ (n : ℕ). take n copies) next;
      have = OneRebuilt m so_far.have is gives;
      others = ap (λ (g : Descriptor). standing_among g None (listed lost)) (descriptor_is m left after old new gives)
          ∙ copies_left old.core.descriptor None (listed lost) valid c (drop (suc k) copies) others_are to may (off_lost old.core lost c to its) ∙ ap (λ (n : ℕ). drop n copies) next;
      shut = is_shut m left after old new gives;
      on = goes_on_still m left after old new gives;
      epoch = λ none. so_far.epoch (sym (epoch_stays m left after old new gives) ∙ none);
      beside = beside_both first old new patience left after so_far.beside beside;
      later = later_both first old new so_far.later (later_moved m left after old new gives);
      way = going_both Is first old new so_far.beside.counts beside.counts (going_some (λ (x : Descriptor). IsOneOf (stages first.core.descriptor so_far.moves) x) Is (λ x one. stages_more first.core.descriptor so_far.moves m x one) first old so_far.way)
          (going_some (IsGroupAfter lost c old.core) Is here old new way);
      members = members_new first m left after old new sound unstuck may gives ∙ so_far.members;
      inside = λ x one. ⊎_elim (λ was. so_far.inside x was) (λ same. ap (λ (y : PlannedMove). is_member first.core.descriptor y.to.disk) same ∙ member_first) (one_of_both so_far.moves m x one);
      clean = λ x one. ⊎_elim (λ was. cleaned x.to (so_far.inside x was) (so_far.clean x was)) (λ same. subst (λ (y : PlannedMove). IsCleanSince first new y.to) (sym same) placed) (one_of_both so_far.moves m x one);
    }
      where
        next : suc k ≡ k + 1
        next = omega arith

        Is : Descriptor → Type 0
        Is x = IsOneOf (stages first.core.descriptor (so_far.moves ++ m ∷ [])) x

        here : (x : Descriptor) → IsGroupAfter lost c old.core x → Is x
        here x (pp, chosen_is, its_is) =
            let both : Ok pp ≡ Ok to = sym chosen_is ∙ is in
            let same : pp ≡ to = cc both in
            subst (IsOneOf (stages first.core.descriptor (so_far.moves ++ m ∷ []))) (sym (its_is ∙ (λ t. after_move (shown so_far t) (move_to c (same t))))) (stage_of first.core.descriptor so_far.moves m [])

-- ---- all of them

module _ (lost : List ℕ) (first now : State) (patience left : ℕ) (copies : List VolumeCopy) (k : ℕ) (so_far : RebuiltSoFar lost first now patience left copies k) (all : length copies ≤ k) where
  all_moved : copies_moved so_far.moves ≡ copies
  all_moved = so_far.moved ∙ all_taken copies k all

  pub are_rebuilt : AreRebuilt lost copies patience left first now
  are_rebuilt = record {
    moves = so_far.moves;
    all = all_moved;
    have = so_far.have;
    stand = shown so_far;
    none = so_far.others ∙ none_left copies k all;
    way = so_far.way;
    fresh = λ j e less stale. (so_far.clean (get_or so_far.moves j e) (one_got so_far.moves j e less)).marked
        (or_left (is_held_stale now.core (get_or so_far.moves j e).to) (is_wanted_stale now.core (get_or so_far.moves j e).to) (or_left (is_stale now.core (get_or so_far.moves j e).to) _ stale));
  }

pub if_rebuilt : (lost : List ℕ) (copies : List VolumeCopy) (patience left : ℕ) (old new : State) (answer : Result ℕ RebuildFault) → RebuildsAll lost copies patience left old new answer
    → IfOk answer (λ count. AreRebuilt lost copies patience left old new)
if_rebuilt lost copies patience left old new (Ok count) gives = gives.0
if_rebuilt lost copies patience left old new (Err why) gives = tt

-- ---- causes

pub rebuild_cause_since : (first mid new : State) (patience between : ℕ) (why : RebuildFault) → IsLater first mid → GoesBesideMoving first mid patience between → RebuildCause between mid new why → RebuildCause patience first new why
rebuild_cause_since first mid new patience between (fault.NoSpare lp) later beside cause = tt
rebuild_cause_since first mid new patience between (fault.Move move.HistoryFull) later beside cause = cause
rebuild_cause_since first mid new patience between (fault.Move move.Dark) later beside cause = cause_since first mid new patience between move.Dark later beside cause
rebuild_cause_since first mid new patience between (fault.Move (move.WentOff have total)) later beside cause = cause_since first mid new patience between (move.WentOff have total) later beside cause
rebuild_cause_since first mid new patience between (fault.Move move.Stuck) later beside cause = cause_since first mid new patience between move.Stuck later beside cause
rebuild_cause_since first mid new patience between (fault.Move (move.Missing disk)) later beside cause = cause_since first mid new patience between (move.Missing disk) later beside cause
rebuild_cause_since first mid new patience between (fault.Move (move.SyncFailed disk)) later beside cause = cause_since first mid new patience between (move.SyncFailed disk) later beside cause
rebuild_cause_since first mid new patience between (fault.Move (move.NoFresh lp)) later beside cause = tt
rebuild_cause_since first mid new patience between (fault.Move move.Busy) later beside cause = tt
rebuild_cause_since first mid new patience between (fault.Move (move.Strict lp)) later beside cause = tt
rebuild_cause_since first mid new patience between (fault.Move (move.NoRoom free)) later beside cause = tt
rebuild_cause_since first mid new patience between (fault.Move move.Memory) later beside cause = tt

-- as a move's
pub move_cause : (patience : ℕ) (old new : State) (why : MoveFault) → MoveCause patience old new why → RebuildCause patience old new (fault.Move why)
move_cause patience old new move.HistoryFull cause = inl cause
move_cause patience old new move.Dark cause = cause
move_cause patience old new (move.WentOff have total) cause = cause
move_cause patience old new move.Stuck cause = cause
move_cause patience old new (move.Missing disk) cause = cause
move_cause patience old new (move.SyncFailed disk) cause = cause
move_cause patience old new (move.NoFresh lp) cause = tt
move_cause patience old new move.Busy cause = tt
move_cause patience old new (move.Strict lp) cause = tt
move_cause patience old new (move.NoRoom free) cause = tt
move_cause patience old new move.Memory cause = tt

-- why there is no partition for a copy
pub choice_cause : (patience : ℕ) (s : State) (lost : List ℕ) (c : VolumeCopy) (why : RebuildFault) → choice_of s.core lost c ≡ Err why → RebuildCause patience s s why
choice_cause patience s lost c why is = by (has_numbers s.core) (has_fresh s.core c) (spare_for s.core lost c) refl is
  where
    by : (n f : Bool) (o : Option Pp) → has_numbers s.core ≡ n
        → (if not n then Err (fault.Move move.HistoryFull) else if not f then Err (fault.Move (move.NoFresh c.lp)) else option_map_or (λ (pp : Pp). let r : Result Pp RebuildFault = Ok pp in r) o (Err (fault.NoSpare c.lp))) ≡ Err why
        → RebuildCause patience s s why
    by false f o few e = let same : fault.Move move.HistoryFull ≡ why = cc e in subst (RebuildCause patience s s) same (inl few)
    by true false o few e = let same : fault.Move (move.NoFresh c.lp) ≡ why = cc e in subst (RebuildCause patience s s) same tt
    by true true None few e = let same : fault.NoSpare c.lp ≡ why = cc e in subst (RebuildCause patience s s) same tt
    by true true (Some pp) few e = absurd (cc e)

-- ---- no copy is left open

pub shut_by : (A : Type 0) (core : Core) (why : RebuildFault) → (core.power ≡ power.On → core.copy ≡ None) → (core.power ≡ power.Stuck → ⊥) → IsLeftShutBy {A = A} core (Err why)
shut_by A core (fault.NoSpare lp) shut unstuck = (shut, unstuck)
shut_by A core (fault.Move why) shut unstuck = shut_err core (Unit {0}) why shut unstuck

pub shut_as : (A B : Type 0) (core : Core) (why : RebuildFault) → IsLeftShutBy {A = A} core (Err why) → IsLeftShutBy {A = B} core (Err why)
shut_as A B core (fault.NoSpare lp) shut = shut
shut_as A B core (fault.Move why) shut = shut

-- ---- where it ends

-- those before the last have moved
pub stand_here : (lost : List ℕ) (first old : State) (patience left : ℕ) (copies : List VolumeCopy) (k : ℕ) (it : RebuiltSoFar lost first old patience left copies k) (new : Descriptor) → new ≡ old.core.descriptor
    → StandRebuilt copies first.core.descriptor new
stand_here lost first old patience left copies k it new same = subst (StandRebuilt copies first.core.descriptor) (sym same) (stand_so_far lost first old patience left copies k it)

-- ---- why none is begun

module _ (patience : ℕ) (s : State) where
  so : (u why : MoveFault) → Some u ≡ Some why → RebuildCause patience s s (fault.Move u) → RebuildCause patience s s (fault.Move why)
  so u why is cause = let same : u ≡ why = cc is in subst (λ (w : MoveFault). RebuildCause patience s s (fault.Move w)) same cause

  refusal_cause : (why : MoveFault) → rebuild_refusal s.core ≡ Some why → RebuildCause patience s s (fault.Move why)
  refusal_cause why e = by s.core.power refl e
    where
      on : busy_or_full s.core ≡ Some why → RebuildCause patience s s (fault.Move why)
      on f = at (is_busy s.core) (has_entries s.core) (has_numbers s.core) refl refl f
        where
          at : (b h n : Bool) → has_entries s.core ≡ h → has_numbers s.core ≡ n → (if b then Some move.Busy else if h then (if n then None else Some move.HistoryFull) else Some move.HistoryFull) ≡ Some why → RebuildCause patience s s (fault.Move why)
          at true h n few short g = so move.Busy why g tt
          at false true true few short g = absurd (cc g)
          at false true false few short g = so move.HistoryFull why g (inl short)
          at false false n few short g = so move.HistoryFull why g (inr few)

      by : (p : Power) → s.core.power ≡ p → refusal_by p s.core (busy_or_full s.core) ≡ Some why → RebuildCause patience s s (fault.Move why)
      by power.Dark is f = so move.Dark why f is
      by power.Off is f = so (move.WentOff (votes_there s.core) (total_votes s.core.descriptor)) why f (is, refl, refl)
      by power.Stuck is f = on f
      by power.On is f = on f

  pub refused_gives : (why : RebuildFault) → IsPlanned s.core (Err why) → RebuildGives patience patience s s (Err why)
  refused_gives why (inl (w, against, is)) = IsRefused w against (ap (λ (x : RebuildFault). let r : Result ℕ RebuildFault = Err x in r) is, refl, refl)
  refused_gives why (inr (none, is)) = LacksMemory none (ap (λ (x : RebuildFault). let r : Result ℕ RebuildFault = Err x in r) is, refl, refl)

  pub refused_cause : (why : RebuildFault) → IsPlanned s.core (Err why) → RebuildCause patience s s why
  refused_cause why (inl (w, against, is)) = subst (RebuildCause patience s s) (sym is) (refusal_cause w against)
  refused_cause why (inr (none, is)) = subst (RebuildCause patience s s) (sym is) tt

-- nothing stands against it
pub may_begin : (core : Core) → rebuild_refusal core ≡ None → ((core.power ≡ power.Stuck → ⊥) → core.power ≡ power.On) × (core.copy ≡ None)
may_begin core none = by core.power refl none
  where
    shut : busy_or_full core ≡ None → core.copy ≡ None
    shut e = at core.copy (nat_lt 0 (length core.requests)) refl e
      where
        at : (o : Option OpenCopy) (r : Bool) → core.copy ≡ o → (if is_some o || r then Some move.Busy else if has_entries core then (if has_numbers core then None else Some move.HistoryFull) else Some move.HistoryFull) ≡ None → core.copy ≡ None
        at None r is f = is
        at (Some c) r is f = absurd (cc f)

    by : (p : Power) → core.power ≡ p → refusal_by p core (busy_or_full core) ≡ None → ((core.power ≡ power.Stuck → ⊥) → core.power ≡ power.On) × (core.copy ≡ None)
    by power.Dark is e = absurd (cc e)
    by power.Off is e = absurd (cc e)
    by power.Stuck is e = (λ unstuck. absurd (unstuck is), shut e)
    by power.On is e = (λ unstuck. is, shut e)

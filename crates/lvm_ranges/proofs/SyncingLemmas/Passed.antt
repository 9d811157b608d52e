-- How a copy was passed, and the copies at a place.
use Rattle.std.proofs.Common.{◌≡◌, inr, ◌+◌, ℕ, List, [], ◌∷◌, Option, None, Some, slice_get, refl, sym, ap, subst}
use Rattle.std.specs.Option.{option_map, option_map_or}
use Rattle.lvm_num.specs.declared.descriptor.Descriptor.{Descriptor}
use Rattle.lvm_num.specs.declared.descriptor.LvRow.{LvRow}
use Rattle.lvm_num.specs.declared.place.Pp.{Pp}
use Rattle.lvm_session.specs.declared.answers.CopyState.{CopyState}
use Rattle.lvm_session.specs.declared.answers.CopyState.TheVariants as copy
use Rattle.lvm_session.specs.Calls.{copy_at}
use Rattle.lvm_session.specs.Judging.{copies_in}
use Rattle.lvm_session.specs.State.{Core, State}
use Rattle.lvm_ranges.proofs.passed.KeepsEvents.{of_place}
use Rattle.lvm_ranges.specs.declared.copies.Passed.{Passed}
use Rattle.lvm_ranges.specs.declared.fault.SyncFault.{SyncFault}
use Rattle.lvm_ranges.specs.declared.tally.Tally.{Tally}
use Rattle.lvm_ranges.specs.Passing.{Copy, HasEndedFor, IsJustOpened, IsOpened, IsPassed, IsPassedBy, EndsAtCopy, copy_of}
use Rattle.lvm_ranges.specs.Syncing.{ArePassed, NonePassed, OnePassed, StopsAmong, copies_at, copy_in, volume_copies, with_passed}
use Rattle.lvm_ranges.proofs.PassingLemmas.Making.{made_fresh}

-- one that was opened runs
pub opened_just : (c : Copy) (patience left : ℕ) (old opened : State) → IsOpened c patience left old opened → IsJustOpened opened.core
opened_just c patience left old opened opens = (_, ap (λ (k : Core). k.copy) opens.opens.is, refl, refl)

module _ (c : Copy) (patience before left : ℕ) (old opened new : State) (opens : IsOpened c patience before old opened) where
  -- it is passed as it has ended
  pub passed_so : (how : CopyState) (result : Passed) → HasEndedFor before left opened new how → IsPassedBy c.lp how result → IsPassed c patience left old new result
  passed_so copy.Done result ends is = subst (IsPassed c patience left old new) (sym is) (made_fresh c patience before left old opened new opens ends, ap (λ (s : State). s.core.copy) ends.is)
  passed_so (copy.SyncFailed disk) result ends is = subst (IsPassed c patience left old new) (sym is) (inr (record { opened = opened; before = before; opens = opens; ends = ends }), ap (λ (s : State). s.core.copy) ends.is)
  passed_so copy.NoFresh result ends is = subst (IsPassed c patience left old new) (sym is) (inr (refl, record { opened = opened; before = before; opens = opens; ends = ends }), ap (λ (s : State). s.core.copy) ends.is)
  passed_so copy.Closed result ends is = absurd is
  passed_so (copy.Running cursor) result ends is = absurd is
  passed_so copy.Ended result ends is = absurd is

-- ---- the volume at a place

module _ (d : Descriptor) (place : ℕ) where
  pub no_volume_there : option_map (λ (row : LvRow). row.number) (slice_get d.lvs place) ≡ None → copies_at d place ≡ []
  no_volume_there at = by (slice_get d.lvs place) at
    where
      by : (m : Option LvRow) → option_map (λ (row : LvRow). row.number) m ≡ None → option_map_or (λ (row : LvRow). volume_copies d row.number) m [] ≡ []
      by None e = refl
      by (Some row) e = absurd (cc e)

  pub volume_there : (lv : ℕ) → option_map (λ (row : LvRow). row.number) (slice_get d.lvs place) ≡ Some lv → copies_at d place ≡ volume_copies d lv
  volume_there lv at = by (slice_get d.lvs place) at
    where
      by : (m : Option LvRow) → option_map (λ (row : LvRow). row.number) m ≡ Some lv → option_map_or (λ (row : LvRow). volume_copies d row.number) m [] ≡ volume_copies d lv
      by None e = absurd (cc e)
      by (Some row) e = ap (volume_copies d) (let number : row.number ≡ lv = cc e in number)

-- ---- the copy at a place

module _ (d : Descriptor) (lv lp place : ℕ) where
  pub its_place : (p : Pp) → slice_get (copies_in d lv lp) place ≡ Some p → copy_at (copies_in d lv lp) (place + 1) ≡ Some p
  its_place p at = of_place (copies_in d lv lp) place p at

  copies_here : (m : Option Pp) → slice_get (copies_in d lv lp) place ≡ m → copy_in d lv lp place ≡ option_map_or (λ (p : Pp). copy_of lv lp (place + 1) p ∷ []) m []
  copies_here m at = ap (λ (x : Option Pp). option_map_or (λ (p : Pp). copy_of lv lp (place + 1) p ∷ []) x []) at

  -- none is there
  pub none_there : (patience : ℕ) (old : State) (t : Tally) → slice_get (copies_in d lv lp) place ≡ None → old.core.copy ≡ None → ArePassed (copy_in d lv lp place) patience patience old old t t tt
  none_there patience old t at none = subst (λ (copies : List Copy). ArePassed copies patience patience old old t t tt) (sym (copies_here None at)) (NonePassed, none)

  -- one is
  pub one_there : (p : Pp) (patience left : ℕ) (old new : State) (t to : Tally) (how : Passed) → slice_get (copies_in d lv lp) place ≡ Some p → IsPassed (copy_of lv lp (place + 1) p) patience left old new how → to ≡ with_passed t how
      → ArePassed (copy_in d lv lp place) patience left old new t to tt
  one_there p patience left old new t to how at it adds =
      subst (λ (x : Tally). ArePassed (copy_in d lv lp place) patience left old new t x tt) (sym adds)
      (subst (λ (copies : List Copy). ArePassed copies patience left old new t (with_passed t how) tt) (sym (copies_here (Some p) at)) (OnePassed (copy_of lv lp (place + 1) p) how NonePassed it.0, it.1))

  -- the resync ends at it
  pub stops_there : (p : Pp) (patience left : ℕ) (old new : State) (t : Tally) (why : SyncFault) → slice_get (copies_in d lv lp) place ≡ Some p → EndsAtCopy (copy_of lv lp (place + 1) p) patience left old new why
      → StopsAmong (copy_in d lv lp place) patience left old new t why
  stops_there p patience left old new t why at it = record { passed = []; one = copy_of lv lp (place + 1) p; rest = []; all = copies_here (Some p) at; mid = old; tally = t; before = patience; passes = NonePassed; stops = it }

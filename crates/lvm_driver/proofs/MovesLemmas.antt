-- The descriptor that is ready while a copy moves.
use Rattle.std.proofs.Common.{◌≡◌, ◌≢◌, inl, inr, ℕ, zero, suc, ◌-◌, ◌≤◌, Bool, true, false, ◌&&◌, not, List, [], drop, ◌*◌, get_or, Option, None, Some, slice_get, refl, sym, ap, subst, ◌∙◌, arith}
use Rattle.std.specs.Prelude.{◌==◌, ◌↔◌, AllPairs, IsTrue, if◌then◌else◌, is_some}
use Rattle.std.specs.List.{list_any}
use Rattle.std.specs.Option.{option_map_or}
use Rattle.std.proofs.lemmas.Bool.{and_from, cases_lt, eq-eqb, false≢true, ne_eqb, not-true}
use Rattle.std.proofs.lemmas.List.{length-take}
use Rattle.std.proofs.lemmas.List.Folds.{list_any_at}
use Rattle.std.proofs.lemmas.Option.{get_or_from_slice_get, slice_get_within}
use Rattle.lvm_num.specs.declared.descriptor.Descriptor.{Descriptor}
use Rattle.lvm_num.specs.declared.descriptor.LvRow.{LvRow}
use Rattle.lvm_num.specs.declared.place.Pp.{Pp}
use Rattle.lvm_num.specs.Descriptor.{IsValid, copies_of, is_pp, volume_of}
use Rattle.lvm_due.proofs.DescriptorLemmas.Laid.{laid_out}
use Rattle.lvm_moved.specs.Moved.{MayStandOn}
use Rattle.lvm_session.specs.Asking.{IsAwake}
use Rattle.lvm_session.specs.Calls.{copy_at, move_fault}
use Rattle.lvm_session.specs.Judging.{copies_in}
use Rattle.lvm_session.specs.State.{Core}
use Rattle.lvm_calls.specs.Opening.{HasCopy}
use Rattle.lvm_calls.proofs.MovingLemmas.{move_taken}
use Rattle.lvm_keeps_events.specs.Opening.{IsApart}
use Rattle.lvm_going.specs.Frames.{is_moving}
use Rattle.lvm_going.specs.Moves.{next_of}
use Rattle.lvm_going.proofs.FramesLemmas.{moving_is}
use Rattle.lvm_driver.specs.Moves.{AreApartFrom}

-- where no copy moves none is to be ready
pub none_ready : (core : Core) → is_moving core ≡ false → None ≡ next_of core
none_ready core still = by (next_of core) (sym (moving_is core) ∙ still)
  where
    by : (m : Option Descriptor) → is_some m ≡ false → None ≡ m
    by None none = refl
    by (Some d) some = absurd (cc some)

-- one is ready where a copy moves
pub ready_is : (core : Core) (next : Option Descriptor) → next ≡ next_of core → is_some next ≡ is_moving core
ready_is core next is = ap (λ (m : Option Descriptor). is_some m) is ∙ sym (moving_is core)

-- the copy of a number, from 1, is the one at the place before it
record IsNumbered (copies : List Pp) (number : ℕ) (p : Pp) : Type 0 where
  some : 1 ≤ number
  there : slice_get copies (number - 1) ≡ Some p

some_number : (n : ℕ) → (n == 0) ≡ false → 1 ≤ n
some_number zero is = absurd (cc is)
some_number (suc n) is = omega arith

numbered : (copies : List Pp) (number : ℕ) (p : Pp) → copy_at copies number ≡ Some p → IsNumbered copies number p
numbered copies number p is = by (number == 0) refl is
  where
    by : (t : Bool) → (number == 0) ≡ t → (if t then None else slice_get copies (number - 1)) ≡ Some p → IsNumbered copies number p
    by true none there = absurd (cc there)
    by false some there = record { some = some_number number some; there = there }

-- a copy of another number stands on another disk than the partition
module _ (d : Descriptor) (lv lp number : ℕ) (to : Pp) (valid : IsValid d) (its : HasCopy d lv lp number) (apart : IsApart d lv lp number to) where
  abbrev copies : List Pp
  copies = copies_of its.row lp

  found : IsNumbered copies number its.pp
  found = numbered copies number its.pp its.copy_is

  in_copies : copies_in d lv lp ≡ copies
  in_copies = ap (λ m. option_map_or (λ (row : LvRow). copies_of row lp) m []) its.volume

  few : number ≤ its.row.copies
  few = let at = slice_get_within copies (number - 1) its.pp found.there in omega (arith, at, found.some, length-take its.row.copies (drop (lp * its.row.copies) its.row.map))

  none : list_any (λ (p : Pp). not (is_pp p its.pp) && p.disk == to.disk) copies ≡ false
  none = ap (list_any (λ (p : Pp). not (is_pp p its.pp) && p.disk == to.disk)) (sym in_copies) ∙ apart its.pp (ap (λ (ps : List Pp). copy_at ps number) in_copies ∙ its.copy_is)

  strict : AllPairs (λ (a b : Pp). a.disk ≢ b.disk) copies
  strict = (laid_out d lv its.row valid its.volume).strict lp its.within

  apart_from : (k : ℕ) (p : Pp) → slice_get copies k ≡ Some p → k ≢ number - 1 → p.disk ≢ its.pp.disk
  apart_from k p at other same =
      let k-in = slice_get_within copies k p at in
      let from-in = slice_get_within copies (number - 1) its.pp found.there in
      let p-is : get_or copies k p ≡ p = get_or_from_slice_get copies k p p at in
      let from-is : get_or copies (number - 1) p ≡ its.pp = get_or_from_slice_get copies (number - 1) its.pp p found.there in
      elim (cases_lt k (number - 1)) [
        | inl before ↦ strict k (number - 1) p before from-in (ap (λ (q : Pp). q.disk) p-is ∙ same ∙ ap (λ (q : Pp). q.disk) (sym from-is))
        | inr behind ↦ strict (number - 1) k p (omega (arith, behind, other)) k-in (ap (λ (q : Pp). q.disk) from-is ∙ sym same ∙ ap (λ (q : Pp). q.disk) (sym p-is))
      ]

  others : (k : ℕ) (p : Pp) → slice_get copies k ≡ Some p → k ≢ number - 1 → p.disk ≢ to.disk
  others k p at other on =
      let differs : is_pp p its.pp ≡ false = ap (λ (b : Bool). b && p.pp == its.pp.pp) (ne_eqb p.disk its.pp.disk (apart_from k p at other)) in
      let here : not (is_pp p its.pp) && p.disk == to.disk ≡ true = and_from (not (is_pp p its.pp)) (p.disk == to.disk) (ap not differs) (eq-eqb p.disk to.disk on) in
      let is : get_or copies k p ≡ p = get_or_from_slice_get copies k p p at in
      false≢true (sym none ∙ list_any_at (λ (q : Pp). not (is_pp q its.pp) && q.disk == to.disk) copies k p (slice_get_within copies k p at)
      (ap (λ (q : Pp). not (is_pp q its.pp) && q.disk == to.disk) is ∙ here))

-- where nothing is against a move, its descriptor is one that may stand
pub may_stand : (core : Core) (lv lp number : ℕ) (to : Pp) → IsAwake core → IsApart core.descriptor lv lp number to → None ≡ move_fault core lv lp number to → MayStandOn core.descriptor lv lp number to
may_stand core lv lp number to awake apart fine =
    let it = move_taken core lv lp number to awake fine in
    let valid = awake.fitting.valid in
    record {
      row = it.its.row;
      volume = it.its.volume;
      within = it.its.within;
      some = (found core.descriptor lv lp number to valid it.its apart).some;
      copy = few core.descriptor lv lp number to valid it.its apart;
      free = it.fine.unused.free;
      inside = it.fine.unused.inside;
      apart = others core.descriptor lv lp number to valid it.its apart;
    }

-- whether another copy than that of the number stands on the disk
pub apart_by : (copies : List Pp) (number disk : ℕ) (p : Pp) (other : Bool) → (number ≡ 0 → ⊥) → slice_get copies (number - 1) ≡ Some p
    → other ≡ list_any (λ (q : Pp). not (is_pp q p) && q.disk == disk) copies → IsTrue (not other) ↔ AreApartFrom copies number disk
apart_by copies number disk p other some at is =
    let there : copy_at copies number ≡ Some p = ap (λ (b : Bool). if b then None else slice_get copies (number - 1)) (ne_eqb number 0 some) ∙ at in (
      λ none from here.
          let same : p ≡ from = cc (sym there ∙ here) in
          subst (λ (f : Pp). list_any (λ (q : Pp). not (is_pp q f) && q.disk == disk) copies ≡ false) same (sym is ∙ not-true other none),
      λ apart. ap not (is ∙ apart p there),
    )

-- of the volume's copies
pub apart_of : (d : Descriptor) (lv lp number : ℕ) (to : Pp) (row : LvRow) (is : Bool) → Some row ≡ volume_of d lv → IsTrue is ↔ AreApartFrom (copies_of row lp) number to.disk → IsTrue is ↔ IsApart d lv lp number to
apart_of d lv lp number to row is volume its = subst (λ (m : Option LvRow). IsTrue is ↔ AreApartFrom (option_map_or (λ (r : LvRow). copies_of r lp) m []) number to.disk) volume its

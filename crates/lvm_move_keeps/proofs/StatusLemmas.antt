-- The status of a session after the descriptor of its move is committed: what is fresh, left behind and to be cleared.
use Rattle.std.proofs.Common.{◌≡◌, ◌⊎◌, inl, inr, ⊎_elim, ◌&&◌, ◌||◌, ℕ, suc, Bool, true, false, not, List, [], ◌∷◌, Option, Some, None, slice_get, refl, sym, ap, subst, ◌∙◌}
use Rattle.std.specs.Prelude.{unwrap_or}
use Rattle.std.specs.List.{list_any}
use Rattle.std.specs.Option.{option_map_or}
use Rattle.std.proofs.lemmas.Bool.{and_from as and_of, or_left, or_right}
use Rattle.std.proofs.lemmas.Map.Keys.{any_passes_from_place}
use Rattle.lvm_num.specs.declared.descriptor.LvRow.{LvRow}
use Rattle.lvm_num.specs.declared.descriptor.Descriptor.{Descriptor}
use Rattle.lvm_num.specs.declared.place.Pp.{Pp}
use Rattle.lvm_num.specs.declared.status.Status.{Status}
use Rattle.lvm_num.specs.Descriptor.{copies_of, is_pp}
use Rattle.lvm_num.specs.Status.{calls_stale}
use Rattle.lvm_num.proofs.Booleans.{not_so}
use Rattle.lvm_kept.specs.Group.{IsOneOf}
use Rattle.lvm_rec.specs.declared.homes.Homes.{Homes}
use Rattle.lvm_status.specs.Update.{Stored}
use Rattle.lvm_commit.specs.Settling.{IsCommitted, IsPassedOver, MarksLeft}
use Rattle.lvm_session.specs.declared.bringing.OpenCopy.{OpenCopy}
use Rattle.lvm_session.specs.Causes.{is_held_stale, was_fresh}
use Rattle.lvm_session.specs.Judging.{copies_in, is_missing, is_settled, is_stale, is_usable, is_wanted_stale, stays_fresh}
use Rattle.lvm_session.specs.Marks.{WantsStale, can_replace, is_among, is_entailed}
use Rattle.lvm_session.specs.Sound.{IsGoing, may_be_fresh}
use Rattle.lvm_session.specs.State.{Core}
use Rattle.lvm_keeps.proofs.Small.{both, is_false}
use Rattle.lvm_keeps_events.proofs.EndsLemmas.CopyReadFail.{pp_is}
use Rattle.lvm_keeps_events.proofs.Finding.{found, row_found}
use Rattle.lvm_keeps_events.proofs.JudgingLemmas.DuesMarks.{own_pp}
use Rattle.lvm_keeps_events.proofs.JudgingLemmas.Review.{IsLeft, entailed_on, left_behind}
use Rattle.lvm_keeps_events.proofs.OnePlace.{one_lp}
use Rattle.lvm_move_keeps.specs.Keeping.{HasMovedTo}

-- ---- tests

place_of_one : {X : Type 0} (xs : List X) (x : X) → IsOneOf xs x → (i : ℕ) × (slice_get xs i ≡ Some x)
place_of_one [] x one = absurd one
place_of_one (y ∷ ys) x (inl here) = (0, ap (λ z. Some z) (sym here))
place_of_one (y ∷ ys) x (inr there) = let at = place_of_one ys x there in (suc at.0, at.1)

among_one : (ps : List Pp) (p : Pp) → IsOneOf ps p → is_among ps p ≡ true
among_one ps p one = let at = place_of_one ps p one in any_passes_from_place (is_pp p) ps at.0 p at.1 (own_pp p)

-- ---- after the commit

module _ (old : Core) (next : Descriptor) (c : OpenCopy) (last st : Stored) (homes : Homes) (moved : HasMovedTo c.lv c.lp c.pp old.descriptor next) (left : MarksLeft next old.status last) (committed : IsCommitted last) where
  -- before what it leaves behind is wanted stale
  abbrev pub mid : Core
  mid = record old { descriptor = next; copy = None; status = last; homes = homes }

  module _ (wants : WantsStale (λ p. is_entailed mid p || false) last st) where
    abbrev pub core : Core
    core = record old { descriptor = next; copy = None; status = st; homes = homes }

    -- ---- the statuses

    pub idle : st.in_flight ≡ None
    idle = ap (λ u. u.in_flight) wants.rest ∙ committed.idle

    says : st.committed ≡ last.wanted
    says = ap (λ u. u.committed) wants.rest ∙ committed.same

    pub stale_is : (p : Pp) → is_stale core p ≡ calls_stale last.wanted p
    stale_is p = ap (λ (t : Status). calls_stale t p) says

    flies_is : (p : Pp) → calls_stale (unwrap_or st.in_flight st.committed) p ≡ calls_stale last.wanted p
    flies_is p = ap (λ (m : Option Status). calls_stale (unwrap_or m st.committed) p) idle ∙ stale_is p

    pub held_is : (p : Pp) → is_held_stale core p ≡ calls_stale last.wanted p
    held_is p = ap (λ b. b || calls_stale (unwrap_or st.in_flight st.committed) p) (stale_is p) ∙ ap (λ b. calls_stale last.wanted p || b) (flies_is p) ∙ twice (calls_stale last.wanted p)
      where
        twice : (b : Bool) → b || b ≡ b
        twice true = refl
        twice false = refl

    pub wanted_on : (p : Pp) → calls_stale last.wanted p ≡ true → is_wanted_stale core p ≡ true
    wanted_on p is = wants.stale p ∙ or_left (calls_stale last.wanted p) (is_entailed mid p || false) is

    pub wanted_by : (p : Pp) → is_wanted_stale core p ≡ true → (calls_stale last.wanted p ≡ true) ⊎ (is_entailed mid p ≡ true)
    wanted_by p is = by (calls_stale last.wanted p) (is_entailed mid p) refl refl (sym (wants.stale p) ∙ is)
      where
        by : (a b : Bool) → calls_stale last.wanted p ≡ a → is_entailed mid p ≡ b → a || (b || false) ≡ true → (calls_stale last.wanted p ≡ true) ⊎ (is_entailed mid p ≡ true)
        by true b i j e = inl i
        by false true i j e = inr j
        by false false i j e = not_so e

    -- ---- copies

    -- the copies of a volume of the next descriptor
    copies_are : (row : LvRow) (i lp : ℕ) → slice_get next.lvs i ≡ Some row → copies_in next row.number lp ≡ copies_of row lp
    copies_are row i lp there = ap (λ m. option_map_or (λ (r : LvRow). copies_of r lp) m []) (row_found next.lvs i row moved.valid.volumes.numbers_rise there)

    -- a copy of this logical partition that is fresh
    abbrev IsFreshIn : ℕ → ℕ → Type 0
    IsFreshIn l n = (q : Pp) × (is_among (copies_in next l n) q ≡ true) × (calls_stale last.wanted q ≡ false)

    -- one that became stale was passed over, so that another is fresh
    of_passed : (l n : ℕ) (p : Pp) → is_among (copies_in next l n) p ≡ true → IsPassedOver next old.status last p → IsFreshIn l n
    of_passed l n p among passed =
        let its = passed.its in
        let at = place_of_one next.lvs its.row its.volume in
        let same = copies_are its.row at.0 its.lp at.1 in
        let one = one_lp next moved.valid l n its.row.number its.lp p among (ap (λ ps. is_among ps p) same ∙ among_one (copies_of its.row its.lp) p its.one) in
        (its.other, ap (λ m. is_among (copies_in next m n) its.other) one.0 ∙ ap (λ m. is_among (copies_in next its.row.number m) its.other) one.1 ∙ ap (λ ps. is_among ps its.other) same ∙ among_one (copies_of its.row its.lp) its.other its.among, passed.fresh)

    -- so where one was wanted fresh one is
    of_wanted : (l n : ℕ) (p : Pp) → is_among (copies_in next l n) p ≡ true → is_wanted_stale old p ≡ false → IsFreshIn l n
    of_wanted l n p among was = by (calls_stale last.wanted p) refl
      where
        by : (b : Bool) → calls_stale last.wanted p ≡ b → IsFreshIn l n
        by false is = (p, among, is)
        by true is = ⊎_elim (λ (stale : calls_stale old.status.wanted p ≡ true). not_so (sym was ∙ stale)) (of_passed l n p among) (left.only p is)

    -- one that isn't left behind stays fresh
    stays : (p : Pp) → calls_stale last.wanted p ≡ false → is_entailed mid p ≡ false → stays_fresh core p ≡ true
    stays p is entailed = and_of (not (is_held_stale core p)) (not (is_wanted_stale core p)) (ap not (held_is p ∙ is)) (ap not (wants.stale p ∙ ap (λ b. b || (is_entailed mid p || false)) is ∙ ap (λ b. b || false) entailed))

    -- and so does one that can stand in for another
    stays_other : (q : Pp) → can_replace mid q ≡ true → stays_fresh core q ≡ true
    stays_other q can = stays q (is_false (is_wanted_stale mid q) a.1) (by (is_entailed mid q) refl)
      where
        a : (is_usable mid q ≡ true) × (not (is_wanted_stale mid q) ≡ true)
        a = both (is_usable mid q) (not (is_wanted_stale mid q)) can

        b : (not (is_stale mid q) ≡ true) × (not (is_missing mid q.disk) ≡ true)
        b = both (not (is_stale mid q)) (not (is_missing mid q.disk)) a.0

        by : (e : Bool) → is_entailed mid q ≡ e → is_entailed mid q ≡ false
        by false is = is
        by true is = not_so (sym (is_false (is_missing mid q.disk) b.1) ∙ (left_behind mid q is).gone)

    -- a logical partition with a fresh copy keeps one
    keeps_one : (l n : ℕ) → IsFreshIn l n → list_any (stays_fresh core) (copies_in next l n) ≡ true
    keeps_one l n fresh = by (is_entailed mid fresh.0) refl
      where
        in_place : (q : Pp) × (i : ℕ) × (slice_get (copies_in next l n) i ≡ Some q) × (is_pp fresh.0 q ≡ true)
        in_place = found (is_pp fresh.0) (copies_in next l n) fresh.1

        at : slice_get (copies_in next l n) in_place.1 ≡ Some fresh.0
        at = in_place.2 ∙ ap (λ (q : Pp). Some q) (pp_is fresh.0 in_place.0 in_place.3)

        by : (b : Bool) → is_entailed mid fresh.0 ≡ b → list_any (stays_fresh core) (copies_in next l n) ≡ true
        by false is = any_passes_from_place (stays_fresh core) (copies_in next l n) in_place.1 fresh.0 at (stays fresh.0 fresh.2 is)
        by true is = subst (λ ps. list_any (stays_fresh core) ps ≡ true) (sym same) (any_passes_from_place (stays_fresh core) (copies_of behind.row behind.lp) other.1 other.0 other.2 (stays_other other.0 other.3))
          where
            behind : IsLeft mid fresh.0
            behind = left_behind mid fresh.0 is

            other : (q : Pp) × (i : ℕ) × (slice_get (copies_of behind.row behind.lp) i ≡ Some q) × (can_replace mid q ≡ true)
            other = found (can_replace mid) (copies_of behind.row behind.lp) behind.other

            its : copies_in next behind.row.number behind.lp ≡ copies_of behind.row behind.lp
            its = copies_are behind.row behind.place behind.lp behind.there

            same : copies_in next l n ≡ copies_of behind.row behind.lp
            same =
                let one = one_lp next moved.valid l n behind.row.number behind.lp fresh.0 fresh.1 (ap (λ ps. is_among ps fresh.0) its ∙ behind.among) in
                ap (λ m. copies_in next m n) one.0 ∙ ap (λ m. copies_in next behind.row.number m) one.1 ∙ its

    -- ---- a logical partition of which a copy may be fresh has one that is

    module _ (going : IsGoing old) (clear : stays_fresh old c.pp ≡ true) where
      wanted_fresh : (p : Pp) → stays_fresh old p ≡ true → is_wanted_stale old p ≡ false
      wanted_fresh p is = is_false (is_wanted_stale old p) (both (not (is_held_stale old p)) (not (is_wanted_stale old p)) is).1

      -- the destination stands in for the copy that has gone
      of_place : IsFreshIn c.lv c.lp
      of_place = of_wanted c.lv c.lp c.pp moved.here (wanted_fresh c.pp clear)

      of_kept : (l n : ℕ) (p : Pp) → is_among (copies_in old.descriptor l n) p ≡ true → stays_fresh old p ≡ true → IsFreshIn l n
      of_kept l n p among is = ⊎_elim
          (λ (kept : is_among (copies_in next l n) p ≡ true). of_wanted l n p kept (wanted_fresh p is))
          (λ (its : (l ≡ c.lv) × (n ≡ c.lp)). subst (λ m. IsFreshIn m n) (sym its.0) (subst (λ m. IsFreshIn c.lv m) (sym its.1) of_place))
          (moved.comes l n p among)

      of_first : (l n : ℕ) (p : Pp) → is_among (copies_in next l n) p ≡ true → was_fresh old p ≡ true → IsFreshIn l n
      of_first l n p among was = ⊎_elim
          (λ (of_old : is_among (copies_in old.descriptor l n) p ≡ true).
          let one = found (is_pp p) (copies_in old.descriptor l n) of_old in
          let some = going.fresh l n (any_passes_from_place (may_be_fresh old) (copies_in old.descriptor l n) one.1 p (one.2 ∙ ap (λ (q : Pp). Some q) (pp_is p one.0 one.3)) (or_left (was_fresh old p) (not (is_settled old p && is_wanted_stale old p)) was)) in
          let fresh = found (stays_fresh old) (copies_in old.descriptor l n) some in
          of_kept l n fresh.0 (any_passes_from_place (is_pp fresh.0) (copies_in old.descriptor l n) fresh.1 fresh.0 fresh.2 (own_pp fresh.0)) fresh.3)
          (λ (to : p ≡ c.pp). of_wanted l n p among (ap (is_wanted_stale old) to ∙ wanted_fresh c.pp clear))
          (moved.goes l n p among)

      pub fresh : (l n : ℕ) → list_any (may_be_fresh core) (copies_in next l n) ≡ true → list_any (stays_fresh core) (copies_in next l n) ≡ true
      fresh l n some = keeps_one l n (by (calls_stale last.wanted one.0) (was_fresh old one.0) refl refl)
        where
          one : (p : Pp) × (i : ℕ) × (slice_get (copies_in next l n) i ≡ Some p) × (may_be_fresh core p ≡ true)
          one = found (may_be_fresh core) (copies_in next l n) some

          among : is_among (copies_in next l n) one.0 ≡ true
          among = any_passes_from_place (is_pp one.0) (copies_in next l n) one.1 one.0 one.2 (own_pp one.0)

          by : (a b : Bool) → calls_stale last.wanted one.0 ≡ a → was_fresh old one.0 ≡ b → IsFreshIn l n
          by false b is was = (one.0, among, is)
          by true true is was = of_first l n one.0 among was
          by true false is was = not_so (sym (
              ap (λ x. x || not (is_settled core one.0 && is_wanted_stale core one.0)) was
              ∙ ap (λ x. not ((x && calls_stale (unwrap_or st.in_flight st.committed) one.0) && is_wanted_stale core one.0)) (stale_is one.0 ∙ is)
              ∙ ap (λ x. not (x && is_wanted_stale core one.0)) (flies_is one.0 ∙ is)
              ∙ ap not (wanted_on one.0 is)
              ) ∙ one.3)

    -- ---- what missing disks leave behind is wanted stale

    pub behind : (p : Pp) → is_entailed core p ≡ true → is_wanted_stale core p ≡ true
    behind p is = wants.stale p ∙ or_right (calls_stale last.wanted p) (is_entailed mid p || false) (or_left (is_entailed mid p) false
        (entailed_on core mid p moved.valid refl (λ fresh. stale_same p ∙ fresh) (λ gone. sym (wants.missing p.disk) ∙ gone) (λ q copy. replaces q) is))
      where
        stale_same : (q : Pp) → is_stale mid q ≡ is_stale core q
        stale_same q = ap (λ (t : Status). calls_stale t q) (sym (ap (λ u. u.committed) wants.rest))

        unwanted : (a b : Bool) → a || (b || false) ≡ false → a ≡ false
        unwanted true b e = not_so (sym e)
        unwanted false b e = refl

        replaces : (q : Pp) → can_replace core q ≡ true → can_replace mid q ≡ true
        replaces q can =
            let a = both (is_usable core q) (not (is_wanted_stale core q)) can in
            and_of (is_usable mid q) (not (is_wanted_stale mid q))
            (ap (λ b. not b && not (is_missing mid q.disk)) (stale_same q) ∙ ap (λ b. not (is_stale core q) && not b) (sym (wants.missing q.disk)) ∙ a.0)
            (ap not (unwanted (calls_stale last.wanted q) (is_entailed mid q) (sym (wants.stale q) ∙ is_false (is_wanted_stale core q) a.1)))

    -- nothing is to be cleared
    pub clearings : (p : Pp) → is_held_stale core p ≡ true → is_wanted_stale core p ≡ false → ⊥
    clearings p held clear = not_so (sym clear ∙ wanted_on p (sym (held_is p) ∙ held))

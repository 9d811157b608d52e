-- The copies of both volumes, where what stood against the split is gone.
use Rattle.std.proofs.Common.{◌≡◌, ◌⊎◌, inl, inr, ⊎_elim, ℕ, ◌<◌, Bool, true, false, ◌&&◌, ◌||◌, List, [], ◌∷◌, take, drop, Some, refl, sym, ap, subst, ◌∙◌}
use Rattle.std.specs.Prelude.{not, IsTrue, IsFalse}
use Rattle.std.specs.List.{list_any}
use Rattle.std.proofs.lemmas.Bool.{cases_lt, and_parts, not-false, not-true, not_from_false, or_parts}
use Rattle.lvm_num.specs.declared.place.Pp.{Pp}
use Rattle.lvm_num.specs.declared.descriptor.LvRow.{LvRow}
use Rattle.lvm_num.specs.declared.descriptor.Descriptor.{Descriptor}
use Rattle.lvm_num.specs.declared.status.Status.{Status}
use Rattle.lvm_num.specs.Descriptor.{IsValid, copies_of, is_member, volume_of}
use Rattle.lvm_num.specs.Status.{calls_stale, calls_missing}
use Rattle.lvm_num.proofs.AmongLemmas.{any_one, one_any}
use Rattle.lvm_kept.specs.Group.{IsOneOf}
use Rattle.lvm_status.specs.Marking.{IsLeftBelow}
use Rattle.lvm_status.specs.Update.{Stored}
use Rattle.lvm_write.proofs.NextLemmas.{copy_is_placed, is_member_of}
use Rattle.lvm_commit.specs.Settling.{NoneIsLeft, there}
use Rattle.lvm_volume_plan.specs.NewVolume.{IsLowestFree, IsInOrder}
use Rattle.lvm_volume_plan.specs.CopiesFaults.{AreFewer, has_fresh, has_usable}
use Rattle.lvm_volume_plan.specs.Split.{MayServeBoth, kept_row, split_row, with_split}
use Rattle.lvm_volume_plan.proofs.CopiesLemmas.Rows.{one_found}
use Rattle.lvm_map.proofs.PlacesLemmas.{laid_out}
use Rattle.lvm_volume_plan.proofs.CopiesLemmas.More.{none_past}
use Rattle.lvm_volume_plan.proofs.CopiesLemmas.Fewer as fewer
use Rattle.lvm_volume_plan.proofs.SplitLemmas.Behind as behind
use Rattle.lvm_volume_plan.proofs.SplitLemmas.Both as both
use Rattle.lvm_parted.specs.Parted.{HasPartOf, IsSplitInto}

-- none of these is so
each_isnt : (test : Pp → Bool) (ps : List Pp) (p : Pp) → IsFalse (list_any test ps) → IsOneOf ps p → IsFalse (test p)
each_isnt test [] p none one = absurd one
each_isnt test (x ∷ xs) p none (inl here) = ap test here ∙ (or_parts (test x) (list_any test xs) none).0
each_isnt test (x ∷ xs) p none (inr there) = each_isnt test xs p (or_parts (test x) (list_any test xs) none).1 there

not_lost : (goes stays : Bool) → IsTrue goes → IsFalse (goes && not stays) → IsTrue stays
not_lost true stays fresh none = not-false stays none
not_lost false stays fresh none = let no : false ≡ true = fresh in cc no

module _ (d : Descriptor) (copies number : ℕ) (name : List ℕ) (row : LvRow) (valid : IsValid d) (volume : volume_of d row.number ≡ Some row) (are : AreFewer row copies)
    (lowest : IsLowestFree d number) (order : IsInOrder d number) where
  abbrev stays : LvRow
  stays = kept_row row copies

  abbrev new : LvRow
  new = split_row row copies number name

  its_row : IsOneOf d.lvs row
  its_row = one_found row.number d.lvs row volume

  pub stays_part : HasPartOf row stays
  stays_part = record { mode = refl; lps = refl; copies = λ lp p one. fewer.old_copies d row.number copies row valid volume are.fewer lp p one }

  pub new_part : HasPartOf row new
  new_part = record { mode = refl; lps = refl; copies = λ lp p one. behind.old_copies d copies row valid volume are.fewer number name lp p one }

  pub is_split_into : IsSplitInto d (with_split d row copies number name) row stays new
  is_split_into = record {
    alone = refl;
    was = volume;
    is = both.stays_found d copies number name row valid volume are lowest order;
    more = both.new_found d copies number name row valid volume are lowest order;
    rows = λ r one. both.rows_are d copies number name row valid volume are lowest order r one;
    volumes = λ n not_old not_new. both.others_found d copies number name row valid volume are lowest order n not_old not_new;
  }

  -- a copy of what stays is one of a logical partition that is there
  pub stays_inside : (lp : ℕ) (p : Pp) → IsOneOf (copies_of stays lp) p → lp < row.lps
  stays_inside lp p one = elim (cases_lt lp row.lps) [
    | inl lt ↦ lt
    | inr past ↦ absurd (none_past row lp p (laid_out d row.number row valid volume).whole past (fewer.old_copies d row.number copies row valid volume are.fewer lp p one))
  ]

  -- ---- which can be used

  module _ (status : Status) (serve : MayServeBoth status row copies) where
    -- each copy of the new one is fresh, on a member that isn't missing
    pub new_usable : (lp : ℕ) (p : Pp) → IsOneOf (copies_of new lp) p → IsFalse (calls_stale status p) × IsFalse (calls_missing status p.disk) × IsTrue (is_member d p.disk)
    new_usable lp p one =
        let it = behind.is_behind d copies row valid volume are.fewer number name lp p one in
        let none = each_isnt (λ (q : Pp). calls_stale status q || calls_missing status q.disk) (drop copies (copies_of row lp)) p (serve.usable lp it.0) it.1 in
        let parts = or_parts (calls_stale status p) (calls_missing status p.disk) none in
        (parts.0, parts.1, is_member_of d p (copy_is_placed d valid row lp p its_row (behind.old_copies d copies row valid volume are.fewer number name lp p one)))

    -- and one of each logical partition of the other
    pub stays_usable : (lp : ℕ) → lp < row.lps → (p : Pp) × IsOneOf (copies_of stays lp) p × IsFalse (calls_stale status p)
    stays_usable lp lt =
        let one = behind.some_copy d copies row valid volume are.fewer number name lp lt in
        let its = behind.is_behind d copies row valid volume are.fewer number name lp one.0 one.1 in
        let goes : has_fresh status (drop copies (copies_of row lp)) ≡ true =
        one_any (λ (q : Pp). not (calls_stale status q)) (drop copies (copies_of row lp)) one.0 its.1 (not_from_false (calls_stale status one.0) (new_usable lp one.0 one.1).0) in
        let keeps : has_usable status (take copies (copies_of row lp)) ≡ true =
        not_lost (has_fresh status (drop copies (copies_of row lp))) (has_usable status (take copies (copies_of row lp))) goes (serve.kept lp lt) in
        let p = any_one (λ (q : Pp). not (calls_stale status q) && not (calls_missing status q.disk)) (take copies (copies_of row lp)) keeps in
        let parts = and_parts (not (calls_stale status p.0)) (not (calls_missing status p.0.disk)) p.2 in
        (p.0, subst (λ (xs : List Pp). IsOneOf xs p.0) (sym (fewer.first_are d row.number copies row valid volume are.fewer lp lt)) p.1, not-true (calls_stale status p.0) parts.0)

  -- ---- which are left behind

  -- none is that wasn't
  pub none_left : (u : Stored) → NoneIsLeft d u → NoneIsLeft (with_split d row copies number name) u
  none_left u none p is = ⊎_elim
      (λ (was : IsOneOf d.lvs is.row × ((is.row.number ≡ row.number → ⊥) × (is.row.number ≡ number → ⊥))). none p (record { row = is.row; volume = was.0; left = is.left }))
      (⊎_elim
      (λ (it : is.row ≡ stays). of_part stays stays_part (subst (λ (r : LvRow). IsLeftBelow (there u) u.wanted r r.lps p) it is.left))
      (λ (it : is.row ≡ new). of_part new new_part (subst (λ (r : LvRow). IsLeftBelow (there u) u.wanted r r.lps p) it is.left)))
      (both.rows_are d copies number name row valid volume are lowest order is.row is.volume)
    where
      of_part : (r : LvRow) → HasPartOf row r → IsLeftBelow (there u) u.wanted r r.lps p → IsTrue (calls_stale u.wanted p)
      of_part r part left =
          let q = any_one (λ (x : Pp). there u x.disk && not (calls_stale u.wanted x)) (copies_of r left.lp) left.left.served in
          none p (record {
            row = row;
            volume = its_row;
            left = record {
              lp = left.lp;
              below = subst (λ (n : ℕ). left.lp < n) part.lps left.below;
              left = record {
                one = part.copies left.lp p left.left.one;
                absent = left.left.absent;
                served = one_any (λ (x : Pp). there u x.disk && not (calls_stale u.wanted x)) (copies_of row left.lp) q.0 (part.copies left.lp q.0 q.1) q.2;
              };
            };
          })

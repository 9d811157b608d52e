-- Which copies are left behind where a volume has other copies.
use Rattle.std.proofs.Common.{◌≡◌, ◌⊎◌, ⊎_elim, ℕ, true, false, ◌&&◌, List, Some, sym, ap, subst, ◌∙◌}
use Rattle.std.specs.Prelude.{◌==◌, not, IsTrue}
use Rattle.std.specs.List.{list_any}
use Rattle.std.proofs.lemmas.Bool.{eqb-true, false≢true, eq-eqb}
use Rattle.lvm_num.specs.declared.place.Pp.{Pp}
use Rattle.lvm_num.specs.declared.descriptor.LvRow.{LvRow}
use Rattle.lvm_num.specs.declared.descriptor.Descriptor.{Descriptor}
use Rattle.lvm_num.specs.Descriptor.{IsValid, copies_of, volume_of}
use Rattle.lvm_num.specs.Status.{calls_stale}
use Rattle.lvm_num.proofs.AmongLemmas.{any_one}
use Rattle.lvm_kept.specs.Group.{IsOneOf}
use Rattle.lvm_status.specs.Marking.{IsLeftBelow}
use Rattle.lvm_status.specs.Update.{Stored}
use Rattle.lvm_steps.proofs.RecordLemmas.{either, split}
use Rattle.lvm_commit.specs.Settling.{there, NoneIsLeft}
use Rattle.lvm_volumes.proofs.EndingsLemmas.Fresh.{one_any}
use Rattle.lvm_volume_plan.specs.Copies.{with_map, with_copies}
use Rattle.lvm_volume_plan.proofs.CopiesLemmas.Rows.{one_found, one_other, own_row}

-- Where each copy is an old one or stale, none is left behind that wasn't.
pub none_left : (d : Descriptor) (lv copies : ℕ) (row : LvRow) (pps : List Pp) (u : Stored) → IsValid d → volume_of d lv ≡ Some row
    → ((lp : ℕ) (p : Pp) → IsOneOf (copies_of (with_map row copies pps) lp) p → IsOneOf (copies_of row lp) p ⊎ IsTrue (calls_stale u.wanted p))
    → NoneIsLeft d u → NoneIsLeft (with_copies d lv copies pps) u
none_left d lv copies row pps u valid volume old none p is = ⊎_elim
    (λ (its : (is.row.number == lv) ≡ true).
    let same : is.row ≡ with_map row copies pps = own_row lv copies pps d.lvs row is.row valid.volumes.numbers_rise volume is.volume (eqb-true is.row.number lv its) in
    here (subst (λ (r : LvRow). IsLeftBelow (there u) u.wanted r r.lps p) same is.left))
    (λ (other : (is.row.number == lv) ≡ false). none p (record {
      row = is.row;
      volume = one_other lv copies pps d.lvs is.row is.volume (λ same. false≢true (sym other ∙ eq-eqb is.row.number lv same));
      left = is.left;
    }))
    (either (is.row.number == lv))
  where
    -- whatever serves is an old copy
    served : (lp : ℕ) → IsTrue (list_any (λ (q : Pp). there u q.disk && not (calls_stale u.wanted q)) (copies_of (with_map row copies pps) lp)) → IsTrue (list_any (λ (q : Pp). there u q.disk && not (calls_stale u.wanted q)) (copies_of row lp))
    served lp is =
        let q = any_one (λ (q : Pp). there u q.disk && not (calls_stale u.wanted q)) (copies_of (with_map row copies pps) lp) is in
        let both = split (there u q.0.disk) (not (calls_stale u.wanted q.0)) q.2 in
        one_any (λ (q : Pp). there u q.disk && not (calls_stale u.wanted q)) (copies_of row lp) q.0
        (⊎_elim (λ one. one) (λ stale. absurd (false≢true (sym (ap not stale) ∙ both.1))) (old lp q.0 q.1)) q.2

    here : IsLeftBelow (there u) u.wanted (with_map row copies pps) row.lps p → IsTrue (calls_stale u.wanted p)
    here left = ⊎_elim
        (λ one. none p (record {
          row = row;
          volume = one_found lv d.lvs row volume;
          left = record { lp = left.lp; below = left.below; left = record { one = one; absent = left.left.absent; served = served left.lp left.left.served } };
        }))
        (λ stale. stale)
        (old left.lp p left.left.one)

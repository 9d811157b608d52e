-- What stays marked of the copies that are left behind, by a next descriptor with the same volumes.
use Rattle.std.proofs.Common.{◌≡◌, inl, inr, ⊎_elim, ℕ, Bool, ◌&&◌, ◌||◌, not, List, [], ◌∷◌, refl, sym, ◌∙◌, ap, subst}
use Rattle.std.specs.Prelude.{IsTrue}
use Rattle.std.specs.List.{list_any}
use Rattle.lvm_num.specs.declared.place.Pp.{Pp}
use Rattle.lvm_num.specs.declared.descriptor.LvRow.{LvRow}
use Rattle.lvm_num.specs.declared.descriptor.Descriptor.{Descriptor}
use Rattle.lvm_num.specs.Descriptor.{copies_of}
use Rattle.lvm_num.specs.Status.{calls_stale}
use Rattle.lvm_kept.specs.Group.{IsOneOf}
use Rattle.lvm_status.specs.passed.Status.{IsLeftIn}
use Rattle.lvm_status.specs.Marking.{is_served}
use Rattle.lvm_status.specs.Update.{Stored}
use Rattle.lvm_commit.specs.Settling.{there, NoneIsLeft, IsPassedOver, MarksLeft}

any_same : {X : Type 0} (p q : X → Bool) (xs : List X) → ((x : X) → IsOneOf xs x → p x ≡ q x) → list_any p xs ≡ list_any q xs
any_same p q [] same = refl
any_same p q (x ∷ xs) same = λ t. same x (inl refl) t || any_same p q xs (λ y one. same y (inr one)) t

-- of the copies of the group's volumes the status first says what the old one does
module _ (next g : Descriptor) (old first last : Stored) (volumes : g.lvs ≡ next.lvs)
    (there_is : (row : LvRow) (lp : ℕ) (p : Pp) → IsOneOf g.lvs row → IsOneOf (copies_of row lp) p → there first p.disk ≡ there old p.disk)
    (stale : (row : LvRow) (lp : ℕ) (p : Pp) → IsOneOf g.lvs row → IsOneOf (copies_of row lp) p → calls_stale first.wanted p ≡ calls_stale old.wanted p)
    (stale_from : (p : Pp) → IsTrue (calls_stale first.wanted p) → IsTrue (calls_stale old.wanted p)) where
  served_same : (row : LvRow) (lp : ℕ) → IsOneOf g.lvs row → is_served (there first) first.wanted (copies_of row lp) ≡ is_served (there old) old.wanted (copies_of row lp)
  served_same row lp volume = any_same (λ (q : Pp). there first q.disk && not (calls_stale first.wanted q)) (λ (q : Pp). there old q.disk && not (calls_stale old.wanted q)) (copies_of row lp)
      (λ q one. ap (λ (b : Bool). b && not (calls_stale first.wanted q)) (there_is row lp q volume one) ∙ ap (λ (b : Bool). there old q.disk && not b) (stale row lp q volume one))

  left_before : (p : Pp) → IsLeftIn (there first) first.wanted g.lvs p → IsLeftIn (there old) old.wanted next.lvs p
  left_before p is = subst (λ (rows : List LvRow). IsLeftIn (there old) old.wanted rows p) volumes (record {
    row = is.row;
    volume = is.volume;
    left = record {
      lp = is.left.lp;
      below = is.left.below;
      left = record {
        one = is.left.left.one;
        absent = sym (there_is is.row is.left.lp p is.volume is.left.left.one) ∙ is.left.left.absent;
        served = sym (served_same is.row is.left.lp is.volume) ∙ is.left.left.served;
      };
    };
  })

  none_first : NoneIsLeft next old → NoneIsLeft g first
  none_first none p is = stale is.row is.left.lp p is.volume is.left.left.one ∙ none p (left_before p is)

  passed : (p : Pp) → IsPassedOver g first last p → IsPassedOver next old last p
  passed p is = record {
    its = record { row = is.its.row; lp = is.its.lp; volume = subst (λ (rows : List LvRow). IsOneOf rows is.its.row) volumes is.its.volume; inside = is.its.inside; one = is.its.one; other = is.its.other; among = is.its.among };
    absent = is.absent;
    fresh = is.fresh;
    was_there = sym (there_is is.its.row is.its.lp is.its.other is.its.volume is.its.among) ∙ is.was_there;
  }

  pub left_so : MarksLeft g first last → MarksLeft next old last
  left_so left = record {
    none = λ none p is. left.none (none_first none) p (subst (λ (rows : List LvRow). IsLeftIn (there last) last.wanted rows p) (sym volumes) is);
    only = λ p is. ⊎_elim (λ was. inl (stale_from p was)) (λ (over : IsPassedOver g first last p). inr (passed p over)) (left.only p is);
  }

-- The copies of a group in which a volume has other ones.
use Rattle.std.proofs.Common.{◌≡◌, ◌⊎◌, inl, inr, ⊎_elim, ℕ, ◌==◌, ◌&&◌, Bool, true, false, List, Some, refl, sym, ap, subst, ◌∙◌}
use Rattle.std.specs.Prelude.{Contains, IsTrue}
use Rattle.std.proofs.lemmas.Bool.{eq-eqb, eqb-true, false≢true}
use Rattle.std.proofs.lemmas.List.Folds.{list_any_at}
use Rattle.lvm_num.specs.declared.descriptor.Descriptor.{Descriptor}
use Rattle.lvm_num.specs.declared.descriptor.LvRow.{LvRow}
use Rattle.lvm_num.specs.declared.place.Pp.{Pp}
use Rattle.lvm_num.specs.Descriptor.{IsValid, copies_of, volume_of, is_pp}
use Rattle.lvm_kept.specs.Group.{IsOneOf}
use Rattle.lvm_session.specs.Marks.{is_among}
use Rattle.lvm_volumes.specs.passed.VolumePlan.{with_copies, with_map}
use Rattle.lvm_volumes.proofs.passed.VolumePlan.{one_found, one_other, own_row}

-- the partition is a copy of a volume of that number
pub record IsCopyIn (d : Descriptor) (number lp : ℕ) (p : Pp) : Type 0 where
  pub row : LvRow
  pub volume : IsOneOf d.lvs row
  pub number_is : row.number ≡ number
  pub one : IsOneOf (copies_of row lp) p

-- where the volume's copies are old ones or of which X holds, so are those of all volumes
module _ (d : Descriptor) (valid : IsValid d) (lv copies : ℕ) (row : LvRow) (pps : List Pp) (volume : volume_of d lv ≡ Some row) (X : Pp → Type 0)
    (old_or : (lp : ℕ) (p : Pp) → IsOneOf (copies_of (with_map row copies pps) lp) p → IsOneOf (copies_of row lp) p ⊎ X p) where
  pub were_or : (r : LvRow) (lp : ℕ) (p : Pp) → IsOneOf (with_copies d lv copies pps).lvs r → IsOneOf (copies_of r lp) p → IsCopyIn d r.number lp p ⊎ X p
  were_or r lp p there one = by (r.number == lv) refl
    where
      by : (t : Bool) → (r.number == lv) ≡ t → IsCopyIn d r.number lp p ⊎ X p
      by true same =
          let is : r ≡ with_map row copies pps = own_row lv copies pps d.lvs row r valid.volumes.numbers_rise volume there (eqb-true r.number lv same) in
          ⊎_elim
          (λ (old : IsOneOf (copies_of row lp) p). inl (record { row = row; volume = one_found lv d.lvs row volume; number_is = sym (ap (λ (x : LvRow). x.number) is); one = old }))
          (λ (new : X p). inr new)
          (old_or lp p (subst (λ (x : LvRow). IsOneOf (copies_of x lp) p) is one))
      by false apart = inl (record { row = r; volume = one_other lv copies pps d.lvs r there (λ same. false≢true (sym apart ∙ eq-eqb r.number lv same)); number_is = refl; one = one })

pub among_is : (xs : List Pp) (p : Pp) → Contains xs p → IsTrue (is_among xs p)
among_is xs p has = list_any_at (is_pp p) xs has.0 p has.1 (ap (is_pp p) has.2 ∙ ap (λ (t : Bool). t && (p.pp == p.pp)) (eq-eqb p.disk p.disk refl) ∙ eq-eqb p.pp p.pp refl)

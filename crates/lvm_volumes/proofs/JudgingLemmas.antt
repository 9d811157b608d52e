-- Each logical partition keeps a fresh copy where a volume has other copies.
use Rattle.std.proofs.Common.{◌≡◌, ◌⊎◌, inl, inr, ⊎_elim, ℕ, ◌*◌, ◌<◌, List, [], Option, Some, None, length, sym, ap, subst, ◌∙◌}
use Rattle.std.specs.Prelude.{IsTrue, IsFalse}
use Rattle.std.specs.Option.{option_map_or}
use Rattle.std.proofs.lemmas.Bool.{cases_lt}
use Rattle.std.proofs.lemmas.List.Elements.{All-contains}
use Rattle.lvm_num.specs.declared.place.Pp.{Pp}
use Rattle.lvm_num.specs.declared.descriptor.LvRow.{LvRow}
use Rattle.lvm_num.specs.declared.descriptor.Descriptor.{Descriptor}
use Rattle.lvm_num.specs.Descriptor.{IsLaidOut, IsValid, copies_of, volume_of}
use Rattle.lvm_num.specs.Status.{calls_stale}
use Rattle.lvm_kept.specs.Group.{IsOneOf}
use Rattle.lvm_steps.specs.Committing.{DiffersInVolume}
use Rattle.lvm_commit.specs.Settling.{IsPassedOver, MarksLeft}
use Rattle.lvm_commit.proofs.AmongLemmas.{contains, one_place}
use Rattle.lvm_session.specs.Judging.{copies_in}
use Rattle.lvm_session.specs.State.{State}
use Rattle.lvm_volumes.specs.Endings.{HasFresh, KeepsFresh}
use Rattle.lvm_volumes.proofs.EndingsLemmas.Fresh.{HasOnePlaceEach, one_stays, keeps_others}
use Rattle.lvm_volume_plan.specs.Copies.{with_map, with_copies}
use Rattle.lvm_volume_plan.proofs.CopiesLemmas.More.{none_past}
use Rattle.lvm_volume_plan.proofs.CopiesLemmas.Rows.{one_found, named, differs}

pub copies_by : (d : Descriptor) (lv lp : ℕ) (row : LvRow) → volume_of d lv ≡ Some row → copies_in d lv lp ≡ copies_of row lp
copies_by d lv lp row volume = ap (λ (o : Option LvRow). option_map_or (λ (r : LvRow). copies_of r lp) o []) volume

not_none : (o : Option LvRow) (row : LvRow) → o ≡ Some row → o ≡ None → ⊥
not_none None row some none = absurd cc
not_none (Some r) row some none = absurd cc

-- a copy is one of a logical partition that is there
inside : (d : Descriptor) (lv : ℕ) (row : LvRow) (lp : ℕ) (p : Pp) → IsValid d → volume_of d lv ≡ Some row → IsOneOf (copies_of row lp) p → lp < row.lps
inside d lv row lp p valid volume one =
    let whole : length row.map ≡ row.lps * row.copies = (All-contains IsLaidOut d.lvs row valid.maps.laid_out (contains d.lvs row (one_found lv d.lvs row volume))).whole in
    elim (cases_lt lp row.lps) [
      | inl lt ↦ lt
      | inr past ↦ absurd (none_past row lp p whole past one)
    ]

module _ (lv copies : ℕ) (row : LvRow) (pps : List Pp) (a b : State) (volume : volume_of a.core.descriptor lv ≡ Some row) (next : Descriptor) (is : next ≡ with_copies a.core.descriptor lv copies pps)
    (now : b.core.descriptor ≡ next) (valid : IsValid next) (left : MarksLeft next a.core.status b.core.status) where
  named_now : volume_of next lv ≡ Some (with_map row copies pps)
  named_now = ap (λ (x : Descriptor). volume_of x lv) is ∙ named lv copies pps a.core.descriptor.lvs row volume

  places : HasOnePlaceEach next
  places r other lp at p = one_place next r other lp at p valid

  only : (r : LvRow) (lp : ℕ) (p : Pp) → IsOneOf next.lvs r → IsOneOf (copies_of r lp) p → IsTrue (calls_stale b.core.status.wanted p) → IsTrue (calls_stale a.core.status.wanted p) ⊎ IsPassedOver next a.core.status b.core.status p
  only r lp p one copy stale = left.only p stale

  -- where one of the volume's copies was fresh, one of those is that it has now
  pub keeps_with : ((lp : ℕ) → lp < row.lps → HasFresh a.core lv lp → (q : Pp) × IsOneOf (copies_of (with_map row copies pps) lp) q × IsFalse (calls_stale a.core.status.wanted q))
      → KeepsFresh a b
  keeps_with fresh = keeps_others next a b now places only lv
      (subst (DiffersInVolume lv a.core.descriptor) (sym is) (differs lv copies pps a.core.descriptor))
      (λ lp p one how. ⊎_elim
      (λ none. absurd (not_none (volume_of a.core.descriptor lv) row volume none))
      (λ has.
      let q = fresh lp (inside next lv (with_map row copies pps) lp p valid named_now (subst (λ (ps : List Pp). IsOneOf ps p) (copies_by next lv lp (with_map row copies pps) named_now) one)) has in
      one_stays next a b now places only lv lp q.0 (subst (λ (ps : List Pp). IsOneOf ps q.0) (sym (copies_by next lv lp (with_map row copies pps) named_now)) q.1) q.2)
      how)

-- Which copies are left behind with one volume more, and with one less.
use Rattle.std.proofs.Common.{◌≡◌, ⊎_elim, ℕ, ◌-◌, Bool, true, ◌&&◌, List, get_or, refl, ap, subst, ◌∙◌, eq-eqb}
use Rattle.std.specs.Prelude.{◌==◌, not, IsTrue, IsFalse, All, Contains}
use Rattle.std.proofs.lemmas.List.Elements.{All-contains}
use Rattle.lvm_num.specs.declared.place.Pp.{Pp}
use Rattle.lvm_num.specs.declared.descriptor.LvRow.{LvRow}
use Rattle.lvm_num.specs.declared.descriptor.Descriptor.{Descriptor}
use Rattle.lvm_num.specs.Descriptor.{copies_of, partitions_used, is_pp}
use Rattle.lvm_num.specs.Status.{calls_stale}
use Rattle.lvm_kept.specs.Group.{IsOneOf}
use Rattle.lvm_status.specs.Update.{Stored}
use Rattle.lvm_steps.proofs.RecordLemmas.{either, clash}
use Rattle.lvm_volume_plan.specs.passed.Commit.{there, NoneIsLeft, MarksLeft}
use Rattle.lvm_volume_plan.proofs.passed.Commit.{contains, of_map, of_rows}
use Rattle.lvm_volume_plan.specs.declared.new_volume.NewVolume.{NewVolume}
use Rattle.lvm_volume_plan.specs.NewVolume.{row_for, with_volume, without_volume}
use Rattle.lvm_volume_plan.proofs.Sublists.{one_insert, one_filter}

pub itself : (p : Pp) → is_pp p p ≡ true
itself p = ap (λ (t : Bool). t && (p.pp == p.pp)) (eq-eqb p.disk p.disk refl) ∙ eq-eqb p.pp p.pp refl

-- a copy's partition is used
pub is_used : (d : Descriptor) (row : LvRow) (lp : ℕ) (p : Pp) → IsOneOf d.lvs row → IsOneOf (copies_of row lp) p → Contains (partitions_used d) p
is_used d row lp p volume one = contains (partitions_used d) p (of_rows d.lvs row p volume (of_map row lp p one))

module _ (d : Descriptor) (v : NewVolume) (lv : ℕ) (map : List Pp) where
  abbrev row : LvRow
  row = row_for v lv map

  -- the new copies are all on members that aren't missing
  pub none_with : (u : Stored) → All (λ (pp : Pp). IsTrue (there u pp.disk)) map → NoneIsLeft d u → NoneIsLeft (with_volume d row) u
  none_with u here none p is = ⊎_elim
      (λ new. absurd (clash (there u p.disk)
      (All-contains (λ (pp : Pp). IsTrue (there u pp.disk)) map p here (contains map p (subst (λ (r : LvRow). IsOneOf r.map p) new (of_map is.row is.left.lp p is.left.left.one))))
      is.left.left.absent))
      (λ old. none p (record { row = is.row; volume = old; left = is.left }))
      (one_insert d.lvs (lv - 1) row is.row is.volume)

  -- and only one on a member that has become missing is left behind
  pub fresh_with : (first last : Stored) → All (λ (pp : Pp). IsFalse (calls_stale first.wanted pp)) map → MarksLeft (with_volume d row) first last
      → All (λ (pp : Pp). IsTrue (there last pp.disk) → IsFalse (calls_stale last.wanted pp)) map
  fresh_with first last fresh left k e lt here = ⊎_elim
      (λ stale. ⊎_elim
      (λ before. absurd (clash (calls_stale first.wanted (get_or map k e)) before (fresh k e lt)))
      (λ passed. absurd (clash (there last (get_or map k e).disk) here passed.absent))
      (left.only (get_or map k e) stale))
      (λ still. still)
      (either (calls_stale last.wanted (get_or map k e)))

-- with fewer volumes there are fewer copies
pub none_left_without : (d : Descriptor) (lv : ℕ) (u : Stored) → NoneIsLeft d u → NoneIsLeft (without_volume d lv) u
none_left_without d lv u none p is = none p (record { row = is.row; volume = one_filter (λ (r : LvRow). not (r.number == lv)) d.lvs is.row is.volume; left = is.left })

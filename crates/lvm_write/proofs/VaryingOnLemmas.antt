-- What a quorum finds once its voters show the new stamp: the same voters, the same status.
use Rattle.std.proofs.Common.{◌≡◌, ◌⊎◌, inl, inr, ⊎_elim, ℕ, ◌&&◌, Option, Some, None, IsTrue, IsFalse, sym, ◌∙◌, ap, subst, eq-eqb}
use Rattle.std.specs.Prelude.{if◌then◌else◌}
use Rattle.lvm_num.specs.declared.descriptor.Descriptor.{Descriptor}
use Rattle.lvm_num.specs.declared.status.Status.{Status}
use Rattle.lvm_num.specs.Disks.{Disks}
use Rattle.lvm_num.specs.Record.{Stamped, newest_below}
use Rattle.lvm_kept.specs.Contents.{Contents}
use Rattle.lvm_kept.specs.Group.{if_passes, passes, is_of, is_status_of, has_room, is_voter, status_among, Finds, members_in, fresh_on, fresh, IsSome}
use Rattle.lvm_kept.specs.Torn.{DescriptorsChange}
use Rattle.lvm_kept.proofs.CommittedLemmas.Finding.{finding_reads}
use Rattle.lvm_steps.specs.VaryingOn.{AreShowing, MayRestamp, HasNewest, CarriesMarks, MayRestate}

module _ (old : Contents) (shown : ℕ → Option (Stamped Descriptor)) (group : Descriptor) (disks targets : Disks) (next : Stamped Descriptor)
    (own : (d : ℕ) → (shown d ≡ old.descriptor d) ⊎ (IsTrue (targets d) × (shown d ≡ Some next))) (value : next.value ≡ group) (showing : AreShowing old group.id targets) (found : Finds old disks group.id group) where
  abbrev id : ℕ
  id = group.id

  abbrev now : Contents
  now = record old { descriptor = shown }

  shows_same : (d : ℕ) → passes (is_of id) (shown d) ≡ passes (is_of id) (old.descriptor d)
  shows_same d = ⊎_elim
      (λ same. ap (passes (is_of id)) same)
      (λ (is : IsTrue (targets d) × (shown d ≡ Some next)). ap (passes (is_of id)) is.1 ∙ eq-eqb next.value.id id (ap (λ (g : Descriptor). g.id) value) ∙ sym (showing d is.0))
      (own d)

  showing_now : AreShowing now id targets
  showing_now d target = shows_same d ∙ showing d target

  members_same : members_in now disks id group ≡ members_in old disks id group
  members_same = λ t d. disks d && shows_same d t && has_room old d group

  module _ (has : HasNewest now group disks next) where
    voters_same : is_voter now disks id ≡ is_voter old disks id
    voters_same = (finding_reads now disks id group has.found).voters ∙ members_same ∙ sym (finding_reads old disks id group found).voters

    status_same : status_among now disks id ≡ status_among old disks id
    status_same = (finding_reads now disks id group has.found).status ∙ (λ t. newest_below (λ d. if members_same t d then if_passes (is_status_of id) (old.status d) else None) old.disks) ∙ sym (finding_reads old disks id group found).status

    carries_now : (was status : Status) → CarriesMarks old group disks was status → CarriesMarks now group disks was status
    carries_now was status marks = record {
      stale = marks.stale;
      dirty = marks.dirty;
      only = λ row lp p volume one called. ⊎_elim
          (λ before. inl before)
          (λ (left : IsFalse (is_voter old disks id p.disk) × IsSome (fresh old disks id row lp)). inr (
            ap (λ (v : Disks). v p.disk) voters_same ∙ left.0,
            subst (λ (v : Disks). IsSome (fresh_on v (status_among now disks id) row lp)) (sym voters_same)
                (subst (λ (s : Option (Stamped Status)). IsSome (fresh_on (is_voter old disks id) s row lp)) (sym status_same) left.1),
          ))
          (marks.only row lp p volume one called);
    }

-- then the next status may be written
pub may_restate :
    (group : Descriptor) (disks targets : Disks) (next : Stamped Descriptor) (was status : Stamped Status) (old new : Contents) → Finds old disks group.id group → MayRestamp old group targets next → DescriptorsChange targets next old new
    → HasNewest new group disks next → status.value.id ≡ group.id → status_among old disks group.id ≡ Some was → CarriesMarks old group disks was.value status.value
    → ((d : ℕ) (r : Stamped Status) → old.status d ≡ Some r → r.value.id ≡ group.id → Rattle.lvm_num.specs.Record.stamp_lt r.stamp status.stamp ≡ Rattle.std.specs.Prelude.true) → MayRestate new group disks targets next was status
may_restate group disks targets next was status old new found restamp change has own was_found marks later =
    subst (λ (c : Contents). MayRestate c group disks targets next was status) (sym change.rest)
    (let has_now = subst (λ (c : Contents). HasNewest c group disks next) change.rest has in
    record {
      newest_is = has_now;
      own = own;
      status = status_same old new.descriptor group disks targets next change.own restamp.value restamp.showing found has_now ∙ was_found;
      showing = showing_now old new.descriptor group disks targets next change.own restamp.value restamp.showing found;
      marks = carries_now old new.descriptor group disks targets next change.own restamp.value restamp.showing found has_now was.value status.value marks;
      later = later;
    })

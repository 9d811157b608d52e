-- The disks go on holding what a session says once its rule of votes, its size or its spares have changed, and each logical partition keeps a fresh copy.
use Rattle.std.proofs.Common.{◌≡◌, inl, inr, ⊎_elim, ℕ, Bool, true, false, ◌&&◌, List, [], None, refl, sym, ◌∙◌, ap, subst}
use Rattle.std.proofs.lemmas.Bool.{false≢true}
use Rattle.lvm_num.specs.Buffer.{Sector}
use Rattle.lvm_num.specs.declared.descriptor.LvRow.{LvRow}
use Rattle.lvm_num.specs.declared.descriptor.Descriptor.{Descriptor}
use Rattle.lvm_num.specs.Descriptor.{is_member, volume_of}
use Rattle.lvm_status.specs.passed.Status.{IsLeftIn}
use Rattle.lvm_write.specs.Written.{KeepsShelf}
use Rattle.lvm_commit.specs.LawsOfVolumes.{IsOnlyGroupOn}
use Rattle.lvm_commit.specs.Settling.{there, MarksLeft, NoneIsLeft}
use Rattle.lvm_commit.proofs.AmongLemmas.{one_place}
use Rattle.lvm_commit.proofs.SettlingLemmas.Chaining.{keeps_wider}
use Rattle.lvm_session.specs.State.{Core, State, is_there}
use Rattle.lvm_core.specs.Committing.{HasStated}
use Rattle.lvm_core.specs.Leaves.{IsOfCommand, NoPartition, MayBeFound}
use Rattle.lvm_change_laws.specs.Rule.{MayChange, no_member}
use Rattle.lvm_change_laws.proofs.RuleLemmas.{member_next}
use Rattle.lvm_turnover.specs.Changing.{IsNext, IsOfChange, ChangeLeaves}
use Rattle.lvm_volumes.specs.Endings.{StillHeld, KeepsFresh}
use Rattle.lvm_volumes.proofs.EndingsLemmas.Fresh.{HasOnePlaceEach, no_copy, volume_stays}
use Rattle.lvm_volumes.proofs.EndingsLemmas.Notes.{command_spares, still_missing, notes_stay}

module _ (next : Descriptor) (p q : ℕ) (old new : State) (may : MayChange no_member old.core.descriptor next (is_there old.core)) (left : MarksLeft next old.core.status new.core.status) (leaves : ChangeLeaves (IsNext next) [] [] p q old new) (done : HasStated next old new) where
  abbrev was : Descriptor
  was = old.core.descriptor

  now : new.core.descriptor ≡ next
  now = ap (λ (k : Core). k.descriptor) done.is

  same_id : next.id ≡ was.id
  same_id = ap (λ (g : Descriptor). g.id) may.differs

  same_volumes : next.lvs ≡ was.lvs
  same_volumes = ap (λ (g : Descriptor). g.lvs) may.differs

  volume_same : (lv : ℕ) → volume_of next lv ≡ volume_of was lv
  volume_same lv = ap (λ (g : Descriptor). volume_of g lv) may.differs

  places : HasOnePlaceEach next
  places row other lp at pp one two here there = one_place next row other lp at pp may.valid_next one two here there

  pub rule_fresh : KeepsFresh old new
  rule_fresh lv lp pp one how = ⊎_elim
      (λ (none : volume_of was lv ≡ None). absurd (no_copy new.core.descriptor lv lp pp (ap (λ (g : Descriptor). volume_of g lv) now ∙ volume_same lv ∙ none) one))
      (λ fresh. volume_stays next old new now places (λ row n x volume copy is. left.only x is) lv lp (volume_same lv) fresh)
      how

  writes : KeepsShelf (is_there old.core) (IsOfCommand (λ k. k ≡ next) NoPartition old new) old.device new.device
  writes = keeps_wider (is_there old.core) (is_there old.core) (IsOfChange (IsNext next) [] [] old new) (IsOfCommand (λ k. k ≡ next) NoPartition old new) old.device new.device (λ d off. off) as_command leaves.writes
    where
      as_command : (d s : ℕ) (value : Sector) → IsOfChange (IsNext next) [] [] old new d s value → IsOfCommand (λ k. k ≡ next) NoPartition old new d s value
      as_command d s value (inl it) = inl it
      as_command d s value (inr (inl it)) = inr (inl it)
      as_command d s value (inr (inr it)) = absurd (false≢true it.0)

  members : (d : ℕ) → is_member new.core.descriptor d ≡ is_member was d
  members d = ap (λ (g : Descriptor). is_member g d) now ∙ member_next no_member was next (is_there old.core) may d ∙ stays (is_member was d)
    where
      stays : (b : Bool) → (b && true) ≡ b
      stays true = refl
      stays false = refl

  none_next : NoneIsLeft was old.core.status → NoneIsLeft next old.core.status
  none_next none pp is = none pp (subst (λ (rows : List LvRow). IsLeftIn (there old.core.status) old.core.status.wanted rows pp) same_volumes is)

  pub rule_still : StillHeld old new
  rule_still = record {
    held = done.held;
    notes = notes_stay (is_there old.core) (IsOfCommand (λ k. k ≡ next) NoPartition old new) (command_spares (λ k. k ≡ next) NoPartition old new) old new writes (still_missing old new members (λ d is. leaves.status.stays d refl is)) (ap (λ (k : Core). k.cache) done.is);
    only = λ held only. subst (λ (n : ℕ). IsOnlyGroupOn new.device n) (sym (ap (λ (g : Descriptor). g.id) now ∙ same_id)) (λ image may other k is. ⊎_elim
        (λ (before : MayBeFound old.device other k). only before.0 before.1 other k before.2)
        (λ (its : (other ≡ k.id) × (k ≡ next)). its.0 ∙ ap (λ (g : Descriptor). g.id) its.1 ∙ same_id)
        (leaves.finds held other k (image, may, is)));
    left = λ none. subst (λ (d : Descriptor). NoneIsLeft d new.core.status) (sym now) (left.none (none_next none));
  }

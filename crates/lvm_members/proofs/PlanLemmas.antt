-- What stands against a change.
use Rattle.std.proofs.Common.{◌≡◌, ◌⊎◌, inl, inr, ℕ, true, false, refl, ◌∙◌, subst}
use Rattle.std.specs.Prelude.{Bool, IsTrue}
use Rattle.lvm_num.specs.declared.descriptor.Descriptor.{Descriptor}
use Rattle.lvm_num.specs.Descriptor.{IsValid, is_member}
use Rattle.lvm_num.specs.Disks.{Disks}
use Rattle.lvm_num.specs.declared.status.Status.{Status}
use Rattle.lvm_status.specs.Update.{members_there}
use Rattle.lvm_session.specs.State.{Core, is_there}
use Rattle.lvm_core.specs.Settled.{IsSettled}
use Rattle.lvm_change_laws.specs.Rule.{MayChangeRule}

-- the members that a session's committed status doesn't call missing are those that aren't
pub there_by : (core : Core) (there : Disks) (d : Descriptor) (s : Status) → IsSettled core → there ≡ members_there d s → d ≡ core.descriptor → s ≡ core.status.committed → there ≡ is_there core
there_by core there d s settled is group committed = is ∙ (λ t. members_there (group t) ((committed ∙ settled.committed) t))

-- what holds by them, and by a descriptor that is the session's, holds by the session
pub at_core : (core : Core) (there : Disks) (d : Descriptor) → d ≡ core.descriptor → there ≡ is_there core → (P : Descriptor → Disks → Type 0) → P d there → P core.descriptor (is_there core)
at_core core there d group is P holds = subst (λ (g : Descriptor). P g (is_there core)) group (subst (P d) is holds)

-- a settled session's group may stay as it is
pub may_stay : (core : Core) → IsValid core.descriptor → IsSettled core → MayChangeRule core.descriptor core.descriptor (is_there core)
may_stay core valid settled = record {
  valid = valid;
  valid_next = valid;
  differs = refl;
  enough = settled.votes;
  enough_too = settled.votes;
  found = by_quorum core.descriptor.quorum refl;
}
  where
    by_quorum : (b : Bool) → core.descriptor.quorum ≡ b → (core.descriptor.quorum ≡ true) ⊎ (core.descriptor.quorum ≡ false) ⊎ ((d : ℕ) → IsTrue (is_member core.descriptor d) → IsTrue (is_there core d))
    by_quorum true is = inl is
    by_quorum false is = inr (inl is)

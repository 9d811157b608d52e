-- Zeros in one of several partitions.
use Rattle.std.proofs.Common.{◌≡◌, ℕ, List, sym, ap, subst, arith}
use Rattle.std.specs.Prelude.{Contains}
use Rattle.lvm_num.specs.declared.place.Pp.{Pp}
use Rattle.lvm_num.specs.Descriptor.{is_member}
use Rattle.lvm_volume_plan.specs.passed.Commit.{NoneIsLeft}
use Rattle.lvm_volume_plan.specs.passed.Core.{KeepsRecords, NoDescriptor, Leaves, zeroing}
use Rattle.lvm_session.specs.State.{Core, State}
use Rattle.lvm_volumes.specs.Endings.{StillHeld, commanding}
use Rattle.lvm_volumes.proofs.EndingsLemmas.Holding.{still_by}
use Rattle.lvm_volumes.proofs.Leaving.{leaves_wider}

module _ (map : List Pp) (pp : Pp) (inside : Contains map pp) (p q : ℕ) (a b : State) (leaves : Leaves (zeroing pp) p q a b) where
  pub zero_among : Leaves (commanding NoDescriptor (Contains map) 0) p q a b
  zero_among = leaves_wider (zeroing pp) (commanding NoDescriptor (Contains map) 0) (λ d none. none) (λ x is. subst (Contains map) (sym is) inside) (λ x none. none) (λ x none. absurd none) (λ lv none. none) (omega arith) p q a b
      (λ run first held only. tt) leaves

  pub zero_still : KeepsRecords a b → b.core ≡ a.core → StillHeld a b
  zero_still records core = still_by (zeroing pp) p q a b leaves (λ k none. absurd none) (ap (λ (c : Core). c.descriptor.id) core) (λ d. ap (λ (c : Core). is_member c.descriptor d) core) (ap (λ (c : Core). c.cache) core)
      records.held (λ none. subst (λ (c : Core). NoneIsLeft c.descriptor c.status) (sym core) none)

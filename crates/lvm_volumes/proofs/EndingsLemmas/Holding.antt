-- The disks go on holding what a session says, by what a call leaves.
use Rattle.std.proofs.Common.{◌≡◌, ⊎_elim, ℕ, sym, subst, ◌∙◌}
use Rattle.lvm_num.specs.declared.descriptor.Descriptor.{Descriptor}
use Rattle.lvm_num.specs.Descriptor.{is_member}
use Rattle.lvm_volume_plan.specs.passed.Commit.{IsOnlyGroupOn, NoneIsLeft}
use Rattle.lvm_volume_plan.specs.passed.Core.{IsHeld, Scope, IsOfCommand, MayBeFound, FindsOnly, Leaves}
use Rattle.lvm_session.specs.State.{State, is_there}
use Rattle.lvm_volumes.specs.Endings.{StillHeld}
use Rattle.lvm_volumes.proofs.EndingsLemmas.Notes.{command_spares, still_missing, notes_stay}

-- No other group is found where nothing but what was found, or a descriptor of the group, is.
only_still : (N : Descriptor → Type 0) (a b : State) (id : ℕ) → ((k : Descriptor) → N k → k.id ≡ id) → IsHeld a.device a.core → FindsOnly N a b → IsOnlyGroupOn a.device id → IsOnlyGroupOn b.device id
only_still N a b id its held finds only image may other k is = ⊎_elim
    (λ (was : MayBeFound a.device other k). only was.0 was.1 other k was.2)
    (λ (new : (other ≡ k.id) × N k). new.0 ∙ its k new.1)
    (finds held other k (image, may, is))

module _ (W : Scope) (p q : ℕ) (a b : State) (leaves : Leaves W p q a b) (ids : (k : Descriptor) → W.next k → k.id ≡ a.core.descriptor.id) (id : b.core.descriptor.id ≡ a.core.descriptor.id)
    (members : (d : ℕ) → is_member b.core.descriptor d ≡ is_member a.core.descriptor d) (cache : b.core.cache ≡ a.core.cache) where
  pub still_by : (IsHeld a.device a.core → IsHeld b.device b.core) → (NoneIsLeft a.core.descriptor a.core.status → NoneIsLeft b.core.descriptor b.core.status) → StillHeld a b
  still_by held none = record {
    held = held;
    notes = notes_stay (is_there a.core) (IsOfCommand W.next W.zeros a b) (command_spares W.next W.zeros a b) a b leaves.writes (still_missing a b members leaves.status.stays) cache;
    only = λ h only. subst (λ (n : ℕ). IsOnlyGroupOn b.device n) (sym id) (only_still W.next a b a.core.descriptor.id ids h leaves.finds only);
    left = none;
  }

-- ---- one call after another

pub still_then : (a b c : State) → StillHeld a b → StillHeld b c → StillHeld a c
still_then a b c one two = record { held = λ held. two.held (one.held held); notes = λ home. two.notes (one.notes home); only = λ held only. two.only (one.held held) (one.only held only); left = λ none. two.left (one.left none) }

pub still_none : (a : State) → StillHeld a a
still_none a = record { held = λ held. held; notes = λ home. home; only = λ held only. only; left = λ none. none }

-- What may be moved where a line asks for it.
use Rattle.std.proofs.Common.{◌≡◌, ◌≢◌, ℕ, Bool, true, false, List, Option, Some, None, if◌then◌else◌, refl, subst}
use Rattle.std.specs.Prelude.{IsSome}
use Rattle.lvm_num.specs.declared.descriptor.Descriptor.{Descriptor}
use Rattle.lvm_num.specs.Descriptor.{is_member, volume_of}
use Rattle.lvm_migrate.specs.Migrating.{MayMigrate}
use Rattle.lvm_range_lines.proofs.passed.GroupLines.{there}
use Rattle.lvm_move_lines.specs.Asking.{IsAsked, IsNamed, first_outside}

-- both disks are members
are_members : (d : Descriptor) (from to : ℕ) → first_outside d from to ≡ None → (is_member d from ≡ true) × (is_member d to ≡ true)
are_members d from to none = by (is_member d from) (is_member d to) none
  where
    by : (a b : Bool) → (if a then (if b then None else Some to) else Some from) ≡ None → (a ≡ true) × (b ≡ true)
    by true true e = (refl, refl)
    by true false e = absurd (cc e)
    by false b e = absurd (cc e)

-- the volume is there
is_there : (d : Descriptor) (volume : Option (List ℕ)) (lv : Option ℕ) → IsNamed d.lvs volume lv → (n : ℕ) → lv ≡ Some n → IsSome (volume_of d n)
is_there d None None named n is = absurd (cc is)
is_there d None (Some m) named n is = absurd named
is_there d (Some name) None named n is = absurd named
is_there d (Some name) (Some m) named n is = let same : m ≡ n = cc is in subst (λ (k : ℕ). IsSome (volume_of d k)) same (there d.lvs name m named)

pub may_migrate : (d : Descriptor) (volume : Option (List ℕ)) (from to : ℕ) (lv : Option ℕ) → from ≢ to → IsAsked d volume from to lv → MayMigrate d lv from to
may_migrate d volume from to lv differ asked =
    let members = are_members d from to asked.members in
    record { first = members.0; second = members.1; differ = differ; volume = is_there d volume lv asked.named }

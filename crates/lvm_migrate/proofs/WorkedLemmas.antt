-- A copy of a session that is written out may leave its disk.
use Rattle.std.proofs.Common.{◌≡◌, ℕ, Some, refl, sym, subst}
use Rattle.std.specs.Prelude.{IsSome}
use Rattle.lvm_num.specs.declared.descriptor.Mode.{Mode}
use Rattle.lvm_num.specs.declared.descriptor.Mode.TheVariants as mode
use Rattle.lvm_num.specs.Descriptor.{volume_of}
use Rattle.lvm_session.specs.Worked.{mirrored}
use Rattle.lvm_migrate.specs.Migrating.{MayMigrate}
use Rattle.lvm_migrate.specs.Worked.{MayMigrateSo, MirrorsMayMigrate}

asked_of : (m : Mode) → MayMigrate (mirrored m) (Some 1) 1 2
asked_of m = record {
  first = refl;
  second = refl;
  differ = λ same. cc same;
  volume = λ n is. let one : 1 ≡ n = cc is in subst (λ (k : ℕ). IsSome (volume_of (mirrored m) k)) one refl;
}

pub mirrors_may_migrate : MirrorsMayMigrate
mirrors_may_migrate mode.Active = record { asked = asked_of mode.Active; on = refl; epoch = λ none. cc none; fine = refl; moves = refl; beside = refl }
mirrors_may_migrate mode.Passive = record { asked = asked_of mode.Passive; on = refl; epoch = λ none. cc none; fine = refl; moves = refl; beside = refl }
mirrors_may_migrate mode.Off = record { asked = asked_of mode.Off; on = refl; epoch = λ none. cc none; fine = refl; moves = refl; beside = refl }

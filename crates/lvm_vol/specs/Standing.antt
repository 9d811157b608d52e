-- Which volumes there are after a history, and which are being made or removed.
use Rattle.std.specs.Prelude.{ℕ, ◌==◌, if◌then◌else◌, List, [], ◌∷◌, Option, Some, None}
use Rattle.lvm_num.specs.declared.descriptor.Mode.{Mode}
use Rattle.lvm_vol.specs.declared.entry.Vol.{Vol}
use Rattle.lvm_vol.specs.declared.entry.Vol.TheVariants.{Disk, Lv}
use Rattle.lvm_vol.specs.Facts.{Fact, Making, Made, Split, Removing, Removed, Begun}

-- A settled volume is there, an absent one isn't, and an open one may be.
pub data Standing : Type 0 where
  Absent : Standing
  Open : Standing
  Settled : Standing

-- the blocks and the mode with which a volume was made
pub record Shape : Type 0 where
  pub blocks : ℕ
  pub mode : Mode

pub record Volume : Type 0 where
  pub standing : Standing
  pub shape : Option Shape

abbrev pub no_volumes : ℕ → Volume
no_volumes lv = record { standing = Absent; shape = None }

-- the volume stands so, and the others as they did
abbrev pub put : Vol → Standing → (ℕ → Volume) → ℕ → Volume
put (Lv n) standing volumes lv = if n == lv then record (volumes lv) { standing = standing } else volumes lv
put (Disk n) standing volumes lv = volumes lv

abbrev pub volumes_after_fact : Fact → (ℕ → Volume) → ℕ → Volume
volumes_after_fact (Making n blocks mode) volumes lv = if n == lv then record { standing = Open; shape = Some (record { blocks = blocks; mode = mode }) } else volumes lv
volumes_after_fact (Split from n) volumes lv = if n == lv then record { standing = Open; shape = (volumes from).shape } else volumes lv
volumes_after_fact (Made n) volumes lv = put (Lv n) Settled volumes lv
volumes_after_fact (Removing vol) volumes lv = put vol Open volumes lv
volumes_after_fact (Removed vol) volumes lv = put vol Absent volumes lv
volumes_after_fact (Begun r) volumes lv = put r.vol Settled volumes lv
volumes_after_fact _ volumes lv = volumes lv

abbrev pub volumes_after : (ℕ → Volume) → List Fact → ℕ → Volume
volumes_after volumes [] = volumes
volumes_after volumes (f ∷ facts) = volumes_after (volumes_after_fact f volumes) facts

-- how each volume stands after the history
abbrev pub volumes_in : List Fact → ℕ → Volume
volumes_in facts = volumes_after no_volumes facts

-- Disks are made one after another.
use Rattle.std.proofs.Common.{◌≡◌, [], ◌∷◌, ◌++◌, ℕ, zero, suc, List, map, take, arith}
use Rattle.lvm_num.specs.Buffer.{Sector}
use Rattle.lvm_disk.specs.Device.{AreSectors}
use Rattle.lvm_memory.specs.Media.{media_of, sizes_of, AllSectors}

-- the disks that were made so far, each from one of some items
pub record MadeSoFar {X : Type 0} (f : X → List Sector) (items : List X) (disks : List (List Sector)) (i : ℕ) : Type 0 where
  pub is : disks ≡ map f (take i items)
  pub sectors : AreSectors (sizes_of disks) (media_of disks)

pub sectors_more : (disks : List (List Sector)) (disk : List Sector) → AreSectors (sizes_of disks) (media_of disks) → AllSectors disk → AreSectors (sizes_of (disks ++ disk ∷ [])) (media_of (disks ++ disk ∷ []))
sectors_more [] disk each last zero s below = last s below
sectors_more [] disk each last (suc d) s below = absurd (omega arith)
sectors_more (x ∷ disks) disk each last zero s below = each zero s below
sectors_more (x ∷ disks) disk each last (suc d) s below = sectors_more disks disk (λ e. each (suc e)) last d s below

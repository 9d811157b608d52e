-- A transfer's sectors on a row of disks.
use Rattle.std.proofs.Common.{◌≡◌, ◌<◌, [], ◌∷◌, ℕ, zero, suc, List, slice_set, slice_index_or, length, refl, sym, ◌∙◌, ap, arith}
use Rattle.lvm_num.specs.Buffer.{IsSector, Sector}
use Rattle.lvm_disk.specs.Device.{AreSectors}
use Rattle.lvm_memory.specs.Media.{AllSectors, KeepsDisks, media_of, sizes_of}

abbrev Disks : Type 0
Disks = List (List Sector)

pub size_at : (disks : Disks) (d : ℕ) → slice_index_or (sizes_of disks) d 0 ≡ length (slice_index_or disks d [])
size_at [] d = refl
size_at (x ∷ disks) zero = refl
size_at (x ∷ disks) (suc d) = size_at disks d

pub length-sizes : (disks : Disks) → length (sizes_of disks) ≡ length disks
length-sizes [] = refl
length-sizes (x ∷ disks) = ap suc (length-sizes disks)

-- the disk that was found there
pub disk_at : (disks : Disks) (d : ℕ) (x : List Sector) → x ≡ slice_index_or disks d x → d < length disks → slice_index_or disks d [] ≡ x
disk_at [] d x is within = absurd (omega arith)
disk_at (y ∷ disks) zero x is within = sym is
disk_at (y ∷ disks) (suc d) x is within = disk_at disks d x is (omega arith)

-- a disk is replaced by one as large
pub sizes-set : (disks : Disks) (d : ℕ) (old new : List Sector) → old ≡ slice_index_or disks d old → length new ≡ length old → sizes_of (slice_set disks d new) ≡ sizes_of disks
sizes-set [] d old new is same = refl
sizes-set (x ∷ disks) zero old new is same = ap (λ (n : ℕ). n ∷ sizes_of disks) (same ∙ ap length is)
sizes-set (x ∷ disks) (suc d) old new is same = ap (λ (l : List ℕ). length x ∷ l) (sizes-set disks d old new is same)

sectors-set : (disks : Disks) (d : ℕ) (new : List Sector) → AllSectors new → AreSectors (sizes_of disks) (media_of disks)
    → (e s : ℕ) → s < slice_index_or (sizes_of (slice_set disks d new)) e 0 → IsSector (media_of (slice_set disks d new) e s)
sectors-set [] d new whole sectors e s less = sectors e s less
sectors-set (x ∷ disks) zero new whole sectors zero s less = whole s less
sectors-set (x ∷ disks) zero new whole sectors (suc e) s less = sectors (suc e) s less
sectors-set (x ∷ disks) (suc d) new whole sectors zero s less = sectors zero s less
sectors-set (x ∷ disks) (suc d) new whole sectors (suc e) s less = sectors-set disks d new whole (λ f t. sectors (suc f) t) e s less

pub keeps-set : (disks : Disks) (d : ℕ) (old new : List Sector) → old ≡ slice_index_or disks d old → length new ≡ length old → AllSectors new → AreSectors (sizes_of disks) (media_of disks) → KeepsDisks disks (slice_set disks d new)
keeps-set disks d old new is same whole sectors = record { sizes = sizes-set disks d old new is same; sectors = sectors-set disks d new whole sectors }

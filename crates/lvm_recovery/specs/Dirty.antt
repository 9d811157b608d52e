-- How the copies of a dirty volume are found, one by one.
use Rattle.std.specs.Prelude.{◌≡◌, ℕ, ◌+◌, Bool, if◌then◌else◌, List, [], ◌∷◌, Option, Some, None, drop, slice_get, filter}
use Rattle.lvm_num.specs.declared.place.Pp.{Pp}
use Rattle.lvm_num.specs.declared.place.Place.{Place}
use Rattle.lvm_num.specs.declared.status.Status.{Status}
use Rattle.lvm_num.specs.Disks.{Disks}
use Rattle.lvm_map.specs.Places.{place_on}
use Rattle.lvm_recovery.specs.declared.copying.Recopy.{Recopy}
use Rattle.lvm_recovery.specs.Plan.{usable_by}

-- the copy from this place to one of a logical partition, where it is usable
abbrev pub one_to : ℕ → ℕ → Place → Pp → Recopy
one_to mib block from p = record { from = from; into = place_on mib p block }

abbrev pub copy_to : ℕ → ℕ → Status → Disks → Place → Pp → List Recopy
copy_to mib block status disks from p = if usable_by status disks p then one_to mib block from p ∷ [] else []

-- the first one that passes was found
pub record IsFirstAt (u : Pp → Bool) (pps : List Pp) (k : ℕ) : Type 0 where
  pub first : Pp
  pub at : slice_get pps k ≡ Some first
  pub is : filter u pps ≡ first ∷ filter u (drop (k + 1) pps)

abbrev pub FindsUsable : (Pp → Bool) → List Pp → Option ℕ → Type 0
FindsUsable u pps None = filter u pps ≡ []
FindsUsable u pps (Some k) = IsFirstAt u pps k

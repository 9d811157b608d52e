-- The sectors of the disks that are worked by hand.
use Rattle.std.proofs.Common.{◌≡◌, ℕ, zero, suc, ◌<◌, Bool, true, false, ◌&&◌, ◌==◌, if◌then◌else◌, List, [], ◌∷◌, get_or, length, refl, arith}
use Rattle.std.specs.Prelude.{nat_lt}
use Rattle.std.specs.List.{list_all}
use Rattle.std.proofs.lemmas.Bool.Decides.{nat_tests}
use Rattle.lvm_num.specs.declared.descriptor.Mode.{Mode}
use Rattle.lvm_num.specs.declared.descriptor.Mode.TheVariants as mode
use Rattle.lvm_num.specs.declared.record.Kind.TheVariants as kind
use Rattle.lvm_num.specs.Buffer.{IsSector, Sector, zero_sector}
use Rattle.lvm_num.specs.Record.{frame, slot_start}
use Rattle.lvm_disk.specs.Device.{AreSectors}
use Rattle.lvm_kept.specs.Contents.{note_sector}
use Rattle.lvm_kept.proofs.TornLemmas.Standing.{zeros-sector}
use Rattle.lvm_tie.specs.passed.Even.{Pair, even_pair, framed_group, framed_status, media_of, pair_sizes}

are_small : (bytes : List ℕ) → list_all (λ (b : ℕ). nat_lt b 256) bytes ≡ true → (i : ℕ) → get_or bytes i 0 < 256
are_small [] all i = omega arith
are_small (b ∷ bytes) all zero = let one : nat_lt b 256 ≡ true = left (nat_lt b 256) (list_all (λ (b : ℕ). nat_lt b 256) bytes) all in grind (arith, nat_tests)
  where
    left : (s t : Bool) → s && t ≡ true → s ≡ true
    left true t is = refl
    left false t is = absurd (cc is)
are_small (b ∷ bytes) all (suc i) = are_small bytes (right (nat_lt b 256) (list_all (λ (b : ℕ). nat_lt b 256) bytes) all) i
  where
    right : (s t : Bool) → s && t ≡ true → t ≡ true
    right true t is = is
    right false t is = absurd (cc is)

sector_of : (bytes : List ℕ) → length bytes ≡ 512 → list_all (λ (b : ℕ). nat_lt b 256) bytes ≡ true → IsSector bytes
sector_of bytes long all = record { long = long; bytes = are_small bytes all }

-- each record's one sector
abbrev group_sector : Pair → Sector
group_sector x = frame kind.Descriptor (framed_group x).stamp (framed_group x).content 0

abbrev status_sector : Pair → Sector
status_sector x = frame kind.Status (framed_status x).stamp (framed_status x).content 0

group_is : (dirty lost : Bool) (m : Mode) → IsSector (group_sector (even_pair m dirty lost zero_sector))
group_is dirty lost mode.Active = sector_of _ refl refl
group_is dirty lost mode.Passive = sector_of _ refl refl
group_is dirty lost mode.Off = sector_of _ refl refl

status_is : (m : Mode) (dirty lost : Bool) → IsSector (status_sector (even_pair m dirty lost zero_sector))
status_is m true true = sector_of _ refl refl
status_is m true false = sector_of _ refl refl
status_is m false true = sector_of _ refl refl
status_is m false false = sector_of _ refl refl

module _ (m : Mode) (dirty lost : Bool) where
  abbrev x : Pair
  x = even_pair m dirty lost zero_sector

  one_of_them : (a b c : Bool) → IsSector (if a then group_sector x else if b then status_sector x else if c then zero_sector else zero_sector)
  one_of_them true b c = group_is dirty lost m
  one_of_them false true c = status_is m dirty lost
  one_of_them false false true = zeros-sector
  one_of_them false false false = zeros-sector

  pub are_sectors : AreSectors pair_sizes (media_of x)
  are_sectors d s low = one_of_them (s == slot_start kind.Descriptor 0) (s == slot_start kind.Status 0) (s == note_sector)

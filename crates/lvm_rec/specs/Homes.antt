-- To which slot of each disk its next record goes.
use Rattle.std.specs.Prelude.{◌≡◌, ℕ, not, if◌then◌else◌}
use Rattle.lvm_num.specs.declared.record.Kind.{Kind}
use Rattle.lvm_num.specs.declared.record.Kind.TheVariants as kind
use Rattle.lvm_num.specs.Disks.{Disks, has}
use Rattle.lvm_rec.specs.declared.homes.Homes.{Homes}

-- the disks whose next write of the kind goes to slot 1
abbrev pub second_slots : Kind → Homes → Disks
second_slots kind.Descriptor homes = has homes.descriptor
second_slots kind.Status homes = has homes.status

-- the slot that is written next
abbrev pub next_slot : Kind → Homes → ℕ → ℕ
next_slot kind homes d = if second_slots kind homes d then 1 else 0

-- the next write of the kind goes to the other slot of these disks; all else is as it was
pub record Flips (kind : Kind) (disks : Disks) (old new : Homes) : Type 0 where
  pub own : (d : ℕ) → second_slots kind new d ≡ (if disks d then not (second_slots kind old d) else second_slots kind old d)
  pub other : (k : Kind) → (k ≡ kind → ⊥) → (d : ℕ) → second_slots k new d ≡ second_slots k old d

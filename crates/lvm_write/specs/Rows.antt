-- The rows of a status for the members of a group.
use Rattle.std.specs.Prelude.{◌≡◌, ℕ, ◌<◌, ◌&&◌, ◌==◌, not, nat_lt, List, All}
use Rattle.std.specs.List.{list_any}
use Rattle.lvm_num.specs.declared.place.Pp.{Pp}
use Rattle.lvm_num.specs.declared.descriptor.Descriptor.{Descriptor}
use Rattle.lvm_num.specs.declared.status.StatusRow.{StatusRow}
use Rattle.lvm_num.specs.declared.status.Status.{Status}
use Rattle.lvm_num.specs.Bits.{has_bit}
use Rattle.lvm_num.specs.Descriptor.{is_member}
use Rattle.lvm_num.specs.Disks.{Disks}
use Rattle.lvm_num.specs.Status.{AreStatusRows, calls_stale}

-- Rows in the order of their disks, for exactly the members below a disk: missing are those that don't answer, stale is what a status calls so.
pub record AreMemberRows (group : Descriptor) (answering : Disks) (was : Status) (below : ℕ) (rows : List StatusRow) : Type 0 where
  pub rows_rise : AreStatusRows rows
  pub low : All (λ (row : StatusRow). row.disk < below) rows
  pub have : (d : ℕ) → list_any (λ (row : StatusRow). row.disk == d) rows ≡ (nat_lt d below && is_member group d)
  pub missing : (d : ℕ) → list_any (λ (row : StatusRow). row.disk == d && row.missing) rows ≡ (nat_lt d below && is_member group d && not (answering d))
  pub stale : (p : Pp) → list_any (λ (row : StatusRow). row.disk == p.disk && has_bit row.stale p.pp) rows ≡ (nat_lt p.disk below && is_member group p.disk && calls_stale was p)

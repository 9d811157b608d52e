-- A buffer that is filled sector by sector.
use Rattle.std.proofs.Common.{◌≡◌, ◌<◌, ℕ, slice_set, sym, ◌∙◌, subst, length-set}
use Rattle.lvm_num.specs.Buffer.{Buffer, Sector}
use Rattle.lvm_disk.specs.Steps.{ChangedAtMost}
use Rattle.lvm_memory.proofs.FlightsLemmas.Ending.{set_drop}

-- one more of the first sectors is written over
pub one_read : (count : ℕ) (old now new : Buffer) (i : ℕ) (x : Sector) → ChangedAtMost count old now → i < count → new ≡ record now { sectors = slice_set now.sectors i x } → ChangedAtMost count old new
one_read count old now new i x so_far below set_it = subst (λ (b : Buffer). ChangedAtMost count old b) (sym set_it) (record {
  number = so_far.number;
  long = length-set now.sectors i x ∙ so_far.long;
  rest = set_drop now.sectors i count x below ∙ so_far.rest;
})

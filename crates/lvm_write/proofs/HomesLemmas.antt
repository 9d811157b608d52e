-- The disks whose newest record stands in slot 0, row by row.
use Rattle.std.proofs.Common.{◌≡◌, ℕ, ◌≤◌, Bool, false, length, Option, Some, ap, arith}
use Rattle.std.specs.Prelude.{◌==◌, slice_get}
use Rattle.std.specs.Option.{option_map_or}
use Rattle.std.proofs.lemmas.Option.{slice_get_past}
use Rattle.lvm_num.specs.declared.record.Kind.{Kind}
use Rattle.lvm_quorum.specs.declared.row.SurveyRow.{SurveyRow}
use Rattle.lvm_quorum.specs.declared.row.Survey.{Survey}
use Rattle.lvm_write.specs.Homes.{home_by, in_first_slot}
use Rattle.lvm_quorum.proofs.Passing.{PassBelow, all_pass}

pub home_told : (kind : Kind) (s : Survey) (d : ℕ) (row : SurveyRow) → slice_get s.rows d ≡ Some row → in_first_slot kind s d ≡ (home_by kind row == 0)
home_told kind s d row at = ap (λ (o : Option SurveyRow). option_map_or (λ (r : SurveyRow). home_by kind r == 0) o false) at

pub all_homes : (kind : Kind) (s : Survey) (n : ℕ) (set : ℕ → Bool) → length s.rows ≤ n → PassBelow (in_first_slot kind s) n set → (d : ℕ) → set d ≡ in_first_slot kind s d
all_homes kind s n set all pass = all_pass (in_first_slot kind s) set n (λ d past. past_rows kind s d (omega (arith, all, past))) pass
  where
    past_rows : (kind : Kind) (s : Survey) (d : ℕ) → length s.rows ≤ d → in_first_slot kind s d ≡ false
    past_rows kind s d past = ap (λ (o : Option SurveyRow). option_map_or (λ (r : SurveyRow). home_by kind r == 0) o false) (slice_get_past s.rows d past)

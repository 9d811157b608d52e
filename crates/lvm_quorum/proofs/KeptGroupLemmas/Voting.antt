-- The voters, row by row.
use Rattle.std.proofs.Common.{◌≡◌, inl, inr, ℕ, ◌+◌, ◌<◌, ◌≤◌, Bool, true, false, ◌&&◌, ◌||◌, length, Option, Some, None, refl, sym, ap, ◌∙◌, arith}
use Rattle.std.specs.Prelude.{◌==◌, nat_lt, nat_le, slice_get}
use Rattle.std.specs.List.{list_any}
use Rattle.std.proofs.lemmas.Bool.{cases_lt}
use Rattle.std.proofs.lemmas.Bool.Decides.{nat_tests, eqb_tells}
use Rattle.lvm_num.specs.declared.descriptor.PvRow.{PvRow}
use Rattle.lvm_num.specs.declared.descriptor.Descriptor.{Descriptor}
use Rattle.lvm_num.specs.Geometry.{sectors_needed}
use Rattle.lvm_num.specs.Record.{Stamped}
use Rattle.lvm_num.specs.Votes.{all_disks}
use Rattle.lvm_quorum.specs.passed.Transfer.{Contents, passes, is_of, has_room, members_in, descriptor_among, is_voter}
use Rattle.lvm_quorum.specs.Reading.{under}
use Rattle.lvm_quorum.specs.declared.row.SurveyRow.{SurveyRow}
use Rattle.lvm_quorum.specs.declared.row.Survey.{Survey}
use Rattle.lvm_quorum.specs.Surveyed.{surveyed}
use Rattle.lvm_quorum.specs.Rows.{AreRows}
use Rattle.lvm_quorum.proofs.SurveyedLemmas.SurveyRows.{descriptor_shown, size_shown, descriptor_past}
use Rattle.lvm_quorum.proofs.Passing.{neither, PassBelow, all_pass}

past_rows : (s : Survey) (id : ℕ) (g : Descriptor) (d : ℕ) → length s.rows ≤ d → members_in (surveyed s) all_disks id g d ≡ false
past_rows s id g d past = ap (λ (o : Option (Stamped Descriptor)). passes (is_of id) o && has_room (surveyed s) d g) (descriptor_past s d past)

pub all_taken : (s : Survey) (id : ℕ) (g : Descriptor) (n : ℕ) (set : ℕ → Bool) → length s.rows ≤ n → PassBelow (members_in (surveyed s) all_disks id g) n set → (d : ℕ) → set d ≡ members_in (surveyed s) all_disks id g d
all_taken s id g n set all pass = all_pass (members_in (surveyed s) all_disks id g) set n (λ d past. past_rows s id g d (omega (arith, all, past))) pass

-- what a row tells is whether its disk is one
pub member_told :
    (s : Survey) (id : ℕ) (g : Descriptor) (d : ℕ) (row : SurveyRow) → AreRows s → slice_get s.rows d ≡ Some row
    → (passes (is_of id) (under row.descriptor row.descriptor_stamp) && list_any (λ (member : PvRow). member.disk == row.disk && nat_le (sectors_needed g.mib member.pps) row.sectors) g.pvs) ≡ members_in (surveyed s) all_disks id g d
member_told s id g d row rows at =
    ap (λ (o : Option (Stamped Descriptor)). passes (is_of id) o && list_any (λ (member : PvRow). member.disk == row.disk && nat_le (sectors_needed g.mib member.pps) row.sectors) g.pvs) (sym (descriptor_shown s d row at))
    ∙ ap (λ (n : ℕ). passes (is_of id) ((surveyed s).descriptor d) && list_any (λ (member : PvRow). member.disk == n && nat_le (sectors_needed g.mib member.pps) row.sectors) g.pvs) (rows.own d row at)
    ∙ ap (λ (n : ℕ). passes (is_of id) ((surveyed s).descriptor d) && list_any (λ (member : PvRow). member.disk == d && nat_le (sectors_needed g.mib member.pps) n) g.pvs) (sym (size_shown s d row at))

-- by the newest descriptor the voters are the members
pub voters_are : (c : Contents) (id : ℕ) (r : Stamped Descriptor) → descriptor_among c all_disks id ≡ Some r → (d : ℕ) → is_voter c all_disks id d ≡ members_in c all_disks id r.value d
unfolding is_voter
voters_are c id r e d = ap (λ (o : Option (Stamped Descriptor)). passes (is_of id) (c.descriptor d) && passes (has_room c d) o) e

-- without a descriptor there are none
pub no_voters : (c : Contents) (id : ℕ) → descriptor_among c all_disks id ≡ None → (d : ℕ) → is_voter c all_disks id d ≡ false
unfolding is_voter
no_voters c id e d = neither (passes (is_of id) (c.descriptor d)) (passes (has_room c d) (descriptor_among c all_disks id)) (ap (passes (has_room c d)) e)

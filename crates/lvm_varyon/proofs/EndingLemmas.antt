-- The members that answer have the sectors that their partitions need.
use Rattle.std.proofs.Common.{◌≡◌, ◌≢◌, inl, inr, ℕ, ◌≤◌, Bool, true, false, ◌&&◌, ◌==◌, suc, List, [], ◌∷◌, get_or, Option, Some, refl, sym, ap, subst, ◌∙◌, arith}
use Rattle.std.specs.Prelude.{IsTrue, nat_le, unwrap_or, option_map, find, slice_get, if◌then◌else◌, Contains, AllPairs}
use Rattle.std.specs.List.{list_any}
use Rattle.std.proofs.lemmas.Bool.{cases_lt, eqb-true, eq-eqb, and_parts}
use Rattle.std.proofs.lemmas.Bool.Decides.{nat_tests}
use Rattle.std.proofs.lemmas.List.{get_or_default}
use Rattle.std.proofs.lemmas.List.Folds.{list_any_at, Any-from_list_any}
use Rattle.std.proofs.lemmas.Option.{slice_get_within}
use Rattle.lvm_num.specs.declared.descriptor.PvRow.{PvRow}
use Rattle.lvm_num.specs.declared.descriptor.Descriptor.{Descriptor}
use Rattle.lvm_num.specs.declared.status.Status.{Status}
use Rattle.lvm_num.specs.Descriptor.{is_member}
use Rattle.lvm_num.specs.Disks.{has}
use Rattle.lvm_num.specs.Geometry.{sectors_needed}
use Rattle.lvm_num.specs.Status.{calls_missing}
use Rattle.lvm_num.proofs.Booleans.{second_with_first}
use Rattle.lvm_disk.specs.Device.{Device}
use Rattle.lvm_quorum.specs.declared.row.SurveyRow.{SurveyRow}
use Rattle.lvm_quorum.specs.declared.row.Survey.{Survey}
use Rattle.lvm_quorum.specs.Surveyed.{surveyed}
use Rattle.lvm_status.specs.Update.{Updates}
use Rattle.lvm_varyon.specs.passed.Core.{Room}
use Rattle.lvm_varyon.specs.passed.Session.{IsPlaced, ArePlaced}
use Rattle.lvm_varyon.specs.passed.Recovery.{HaveSectors}
use Rattle.lvm_varyon.specs.Second.{status_after}
use Rattle.lvm_varyon.proofs.SecondLemmas.{same_missing}
use Rattle.lvm_varyon.specs.declared.plan.Plan.{Plan}
use Rattle.lvm_varyon.specs.Planned.{IsPlan}
use Rattle.lvm_varyon.specs.Parts.{IsSurveyOf}
use Rattle.lvm_varyon.proofs.Beginning.{target_row, target_room}

-- the one row of a disk passes, where some row of it does
row_passes : (rows : List PvRow) (row : PvRow) (test : PvRow → Bool) → AllPairs (λ (a b : PvRow). a.disk ≢ b.disk) rows → Contains rows row → list_any (λ (r : PvRow). r.disk == row.disk && test r) rows ≡ true → IsTrue (test row)
row_passes rows row test differ there some =
    let found = Any-from_list_any (λ (r : PvRow). r.disk == row.disk && test r) rows some in
    let two = and_parts (found.1.disk == row.disk) (test found.1) found.4 in
    let same : found.1.disk ≡ row.disk = eqb-true found.1.disk row.disk two.0 in
    let here : get_or rows found.0 row ≡ found.1 = get_or_default rows found.0 row found.1 found.2 ∙ found.3 in
    let its : (get_or rows found.0 row).disk ≡ row.disk = ap (λ (r : PvRow). r.disk) here ∙ same in
    let it : (get_or rows there.0 row).disk ≡ row.disk = ap (λ (r : PvRow). r.disk) there.2 in
    elim (cases_lt found.0 there.0) [
      | inl less ↦ absurd (differ found.0 there.0 row less there.1 (its ∙ sym it))
      | inr more ↦ elim (cases_lt there.0 found.0) [
        | inl less ↦ absurd (differ there.0 found.0 row less found.2 (it ∙ sym its))
        | inr equal ↦
            let e : found.0 ≡ there.0 = omega (arith, more, equal) in
            subst (λ (r : PvRow). IsTrue (test r)) (sym here ∙ ap (λ (n : ℕ). get_or rows n row) e ∙ there.2) two.1
      ]
    ]

member_there : (rows : List PvRow) (row : PvRow) → Contains rows row → list_any (λ (r : PvRow). r.disk == row.disk) rows ≡ true
member_there rows row there = list_any_at (λ (r : PvRow). r.disk == row.disk) rows there.0 row there.1 (ap (λ (r : PvRow). r.disk == row.disk) there.2 ∙ eq-eqb row.disk row.disk refl)

-- the row that is found of a disk
row_found : (rows : List PvRow) (d : ℕ) (row : PvRow) → find (λ (r : PvRow). r.disk == d) rows ≡ Some row → Contains rows row × (row.disk ≡ d)
row_found [] d row e = absurd cc
row_found (r ∷ rs) d row e = by_test (r.disk == d) refl e (row_found rs d row)
  where
    by_test : (t : Bool) → (r.disk == d) ≡ t → (if t then Some r else find (λ (x : PvRow). x.disk == d) rs) ≡ Some row → (find (λ (x : PvRow). x.disk == d) rs ≡ Some row → Contains rs row × (row.disk ≡ d)) → Contains (r ∷ rs) row × (row.disk ≡ d)
    by_test true is found rest = let same : r ≡ row = cc (found) in ((0, omega arith, same), ap (λ (x : PvRow). x.disk) (sym same) ∙ eqb-true r.disk d is)
    by_test false is found rest = let it = rest found in let low = it.0.1 in ((suc it.0.0, omega (arith, low), it.0.2), it.1)

module _ (old read : Device) (survey : Survey) (is : IsSurveyOf old read survey) (name : List ℕ) (moment : ℕ) (some : moment ≢ 0) (room : Room) (plan : Plan) (by : IsPlan survey name moment room plan) where
  -- the disk of a member that answers is as large as its partitions need
  large_enough : (row : PvRow) → Contains by.group.pvs row → IsTrue (has plan.targets row.disk) → (r : SurveyRow) × (slice_get old.sizes row.disk ≡ Some r.sectors) × (sectors_needed by.group.mib row.pps ≤ r.sectors)
  large_enough row there answers =
      let r = target_row old read survey is name moment some room plan by row.disk answers in
      let enough : IsTrue (nat_le (sectors_needed by.group.mib row.pps) ((surveyed survey).size row.disk)) =
      row_passes by.group.pvs row (λ (x : PvRow). nat_le (sectors_needed by.group.mib x.pps) ((surveyed survey).size row.disk)) by.valid.members.disks_differ there
      (target_room old read survey is name moment some room plan by row.disk answers) in
      let size : (surveyed survey).size row.disk ≡ r.0.sectors = ap (λ (o : Option SurveyRow). unwrap_or (option_map (λ (x : SurveyRow). x.sectors) o) 0) r.1 in
      (r.0, (is.each row.disk r.0 r.1).sectors, fits (sectors_needed by.group.mib row.pps) r.0.sectors (ap (nat_le (sectors_needed by.group.mib row.pps)) (sym size) ∙ enough))
    where
      fits : (m n : ℕ) → nat_le m n ≡ true → m ≤ n
      fits m n e = grind (arith, nat_tests)

  place : (row : PvRow) → Contains by.group.pvs row → calls_missing by.next row.disk ≡ false → IsPlaced old.sizes by.group.mib row
  place row there present =
      let answers : IsTrue (has plan.targets row.disk) = second_with_first (is_member by.group row.disk) (has plan.targets row.disk) (member_there by.group.pvs row there) (sym (by.next_is.missing row.disk) ∙ present) in
      let r = large_enough row there answers in
      record {
        there = slice_get_within old.sizes row.disk r.0.sectors r.1;
        within = λ n e. subst (λ (m : ℕ). sectors_needed by.group.mib row.pps ≤ m) (some_same r.0.sectors n (sym r.1 ∙ e)) r.2;
      }
    where
      some_same : (m n : ℕ) → Some m ≡ Some n → m ≡ n
      some_same m n e = cc

  pub have_sectors : HaveSectors read.sizes by.group (has plan.targets)
  have_sectors d row target its =
      let at = row_found by.group.pvs d row its in
      let r = large_enough row at.0 (subst (λ (n : ℕ). IsTrue (has plan.targets n)) (sym at.1) target) in
      (r.0.sectors, ap (λ (sizes : List ℕ). slice_get sizes d) is.unwritten.sizes ∙ subst (λ (n : ℕ). slice_get old.sizes n ≡ Some r.0.sectors) at.1 r.1, r.2)

  pub placed : (new : Device) → new.sizes ≡ old.sizes → ArePlaced new.sizes plan.parts.descriptor plan.parts.updater.wanted
  placed new same =
      let wanted : plan.parts.updater.wanted ≡ status_after by.next by.clean = ap (λ (u : Updates). u.wanted) by.parts.status in
      subst (λ (sizes : List ℕ). ArePlaced sizes plan.parts.descriptor plan.parts.updater.wanted) (sym same)
      (subst (λ (d : Descriptor). ArePlaced old.sizes d plan.parts.updater.wanted) (sym by.parts.descriptor)
      (subst (λ (s : Status). ArePlaced old.sizes by.group s) (sym wanted)
      (λ row there present. place row there (sym (same_missing by.group (has plan.targets) moment by.next by.clean by.clean_is row.disk) ∙ present))))

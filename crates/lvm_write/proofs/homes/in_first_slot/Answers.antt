use Rattle.std.proofs.Common.{◌≡◌, ℕ, ◌||◌, length, false, sym, ap, ◌∙◌, arith, eq-eqb}
use Rattle.std.specs.Prelude.{◌==◌}
use Rattle.std.proofs.lemmas.Bool.Decides.{nat_tests}
use Rattle.lvm_num.specs.Disks.{has}
use Rattle.lvm_quorum.specs.declared.row.SurveyRow.{SurveyRow}
use Rattle.lvm_write.specs.Homes.{in_first_slot}
use Rattle.lvm_quorum.proofs.SurveyedLemmas.SurveyRows.{row_read}
use Rattle.lvm_quorum.proofs.Passing.{one_taken, one_left}
use Rattle.lvm_write.proofs.HomesLemmas.{home_told, all_homes}
use Rattle.lvm_write.proofs.homes.in_first_slot.Goals as goal
use Rattle.lvm_write.proofs.homes.in_first_slot.Goals.{then-home-eq0, else-home-eq0}

not_zero : (n : ℕ) → (n ≡ 0 → ⊥) → (n == 0) ≡ false
not_zero n some = grind (arith, nat_tests)

pub loop-row-preserved : goal.loop-row-preserved
loop-row-preserved c =
    let s = c.args.survey.now in
    let i = c.loop-row.row-index in
    let row = c.row-item.result in
    let at = row_read s c.as_slice-row-items.result.now i row c.as_slice-row-items.ensures (omega arith) c.row-item.is in
    let test = in_first_slot c.args.kind s in
    let told : test i ≡ (c.home.result == 0) = home_told c.args.kind s i row at ∙ ap (λ (n : ℕ). n == 0) (sym c.home.ensures) in
    elim c.if-home-eq0.branch [
      | then-home-eq0 w ↦
          one_taken test (has c.loop-row.disks) (has c.if-home-eq0.disks) i c.loop-row.invariant (told ∙ eq-eqb c.home.result 0 w.if-home-eq0.true)
          (λ d. ap (λ (v : ℕ). has v d) w.disks-is ∙ w.with-disks.ensures d ∙ ap (λ (n : ℕ). has c.loop-row.disks d || d == n) (c.requires.own i row at))
      | else-home-eq0 w ↦
          λ d. ap (λ (v : ℕ). has v d) w.disks-is ∙ one_left test (has c.loop-row.disks) i c.loop-row.invariant (told ∙ not_zero c.home.result w.if-home-eq0.false) d
    ]

pub returns : goal.returns
returns c =
    let s = c.args.survey.now in
    let size : length c.as_slice-row-items.result.now ≡ length s.rows = ap (length {A = SurveyRow}) c.as_slice-row-items.ensures in
    all_homes c.args.kind s c.loop-row.row-index (has c.loop-row.disks) (omega (arith, size)) c.loop-row.invariant

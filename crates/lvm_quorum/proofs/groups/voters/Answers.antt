use Rattle.std.proofs.Common.{◌≡◌, ℕ, ◌||◌, length, sym, ap, ◌∙◌, arith}
use Rattle.std.specs.Prelude.{◌==◌}
use Rattle.lvm_num.specs.Disks.{has}
use Rattle.lvm_num.specs.Votes.{all_disks}
use Rattle.lvm_quorum.specs.passed.Transfer.{members_in}
use Rattle.lvm_quorum.specs.declared.row.SurveyRow.{SurveyRow}
use Rattle.lvm_quorum.specs.Surveyed.{surveyed}
use Rattle.lvm_quorum.proofs.SurveyedLemmas.SurveyRows.{row_read}
use Rattle.lvm_quorum.proofs.Passing.{one_taken, one_left}
use Rattle.lvm_quorum.proofs.KeptGroupLemmas.Voting.{all_taken, member_told}
use Rattle.lvm_quorum.proofs.groups.voters.Goals as goal
use Rattle.lvm_quorum.proofs.groups.voters.Goals.{then-is_voter, else-is_voter}

pub loop-row-preserved : goal.loop-row-preserved
loop-row-preserved c =
    let s = c.args.survey.now in
    let g = c.args.group.now in
    let i = c.loop-row.row-index in
    let row = c.row-item.result in
    let at = row_read s c.as_slice-row-items.result.now i row c.as_slice-row-items.ensures (omega arith) c.row-item.is in
    let test = members_in (surveyed s) all_disks c.args.id g in
    let told : test i ≡ c.is_voter.result = sym (member_told s c.args.id g i row c.requires at) ∙ sym c.is_voter.ensures in
    elim c.if-is_voter.branch [
      | then-is_voter w ↦
          one_taken test (has c.loop-row.voters) (has c.if-is_voter.voters) i c.loop-row.invariant (told ∙ w.if-is_voter.true)
          (λ d. ap (λ (v : ℕ). has v d) w.voters-is ∙ w.with-voters.ensures d ∙ ap (λ (n : ℕ). has c.loop-row.voters d || d == n) (c.requires.own i row at))
      | else-is_voter w ↦
          λ d. ap (λ (v : ℕ). has v d) w.voters-is ∙ one_left test (has c.loop-row.voters) i c.loop-row.invariant (told ∙ w.if-is_voter.false) d
    ]

pub returns : goal.returns
returns c =
    let s = c.args.survey.now in
    let size : length c.as_slice-row-items.result.now ≡ length s.rows = ap (length {A = SurveyRow}) c.as_slice-row-items.ensures in
    all_taken s c.args.id c.args.group.now c.loop-row.row-index (has c.loop-row.voters) (omega (arith, size)) c.loop-row.invariant

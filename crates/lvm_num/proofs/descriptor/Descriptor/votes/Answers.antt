use Rattle.std.proofs.Common.{◌≡◌, inl, inr, List, true, false, length, get_or, sym, ap, ◌∙◌, arith}
use Rattle.std.specs.Prelude.{◌==◌}
use Rattle.std.specs.List.{list_any}
use Rattle.lvm_num.specs.declared.descriptor.PvRow.{PvRow}
use Rattle.lvm_num.proofs.VotesLemmas.{votes_by-none, votes_by-first, votes_by-other}
use Rattle.lvm_num.proofs.descriptor.Descriptor.votes.Goals as goal
use Rattle.lvm_num.proofs.descriptor.Descriptor.votes.Goals.{else-first-via-then-first+then-pvs-lt3+else-not-self, else-first-via-then-first+else-pvs-lt3, else-first-via-else-first}

abbrev no_row : PvRow
no_row = record { disk = 0; pps = 0; spare = false }

pub returns-then-not-has_member : goal.returns-then-not-has_member
returns-then-not-has_member c =
    let d = c.args.self.now in
    let none : list_any (λ (row : PvRow). row.disk == c.args.disk) d.pvs ≡ false =
    ap (list_any (λ (row : PvRow). row.disk == c.args.disk)) (sym c.as_slice-pvs.ensures) ∙ sym c.has_member.ensures ∙ c.if-not-has_member.true in
    sym (votes_by-none d.even d.pvs c.args.disk none)

pub returns-then-not-self : goal.returns-then-not-self
returns-then-not-self c =
    let d = c.args.self.now in
    let size = ap (length {A = PvRow}) c.as_slice-pvs.ensures in
    let first : (get_or d.pvs 0 no_row).disk ≡ c.args.disk = ap (λ (rows : List PvRow). (get_or rows 0 no_row).disk) (sym c.as_slice-pvs.ensures) ∙ c.if-first.true in
    sym (votes_by-first d.even d.pvs no_row c.args.disk c.requires.head.a_member (omega (arith, size)) c.if-not-self.true first)

pub returns-else-first : goal.returns-else-first
returns-else-first c =
    let d = c.args.self.now in
    let size = ap (length {A = PvRow}) c.as_slice-pvs.ensures in
    let first = ap (λ (rows : List PvRow). (get_or rows 0 no_row).disk) (sym c.as_slice-pvs.ensures) in
    let is : list_any (λ (row : PvRow). row.disk == c.args.disk) d.pvs ≡ true =
    ap (list_any (λ (row : PvRow). row.disk == c.args.disk)) (sym c.as_slice-pvs.ensures) ∙ sym c.has_member.ensures ∙ c.if-not-has_member.false in
    let other = votes_by-other d.even d.pvs no_row c.args.disk is in
    sym (elim c.else-first.branch [
      | else-first-via-then-first+then-pvs-lt3+else-not-self w ↦ other (inr (inr (w.if-not-self.false, c.requires.head.even w.if-not-self.false)))
      | else-first-via-then-first+else-pvs-lt3 w ↦ other (inr (inl (omega (arith, size, w.if-pvs-lt3.false))))
      | else-first-via-else-first w ↦ other (inl (λ e. w.if-first.false (sym first ∙ e)))
    ])

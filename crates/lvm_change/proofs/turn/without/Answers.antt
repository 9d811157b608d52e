use Rattle.std.proofs.Common.{Bool, ◌&&◌, not, sym, ap, ◌∙◌, arith}
use Rattle.std.specs.Prelude.{◌==◌, nat_lt}
use Rattle.std.proofs.lemmas.Bool.{eqb-true}
use Rattle.lvm_num.specs.Disks.{has}
use Rattle.lvm_change.proofs.SievingLemmas.{below_next, is_below, taken, left, sieved}
use Rattle.lvm_change.proofs.turn.without.Goals as goal
use Rattle.lvm_change.proofs.turn.without.Goals.{then-has, else-has}

pub loop-disk-preserved : goal.loop-disk-preserved
loop-disk-preserved c = record {
  left = λ k.
      let at = c.loop-disk.disk in
      let next = ap (λ (b : Bool). has c.args.disks k && not (has c.args.others k && b)) (sym (below_next k at)) in
      elim c.if-has.branch [
        | then-has w ↦
            ap (λ set. has set k) w.left-is ∙ w.without-left.ensures k ∙ ap (λ (b : Bool). b && not (k == at)) (c.loop-disk.invariant.left k)
            ∙ taken (has c.args.disks k) (has c.args.others k) (k == at) (nat_lt k at) (λ e. ap (has c.args.others) (eqb-true k at e) ∙ sym c.has.ensures.member ∙ w.if-has.true)
            ∙ next
        | else-has w ↦
            ap (λ set. has set k) w.left-is ∙ c.loop-disk.invariant.left k
            ∙ left (has c.args.disks k) (has c.args.others k) (k == at) (nat_lt k at) (λ e. ap (has c.args.others) (eqb-true k at e) ∙ sym c.has.ensures.member ∙ w.if-has.false)
            ∙ next
      ];
  few = λ some k is. c.has.ensures.disks k is;
}

pub returns : goal.returns
returns c = λ t k. (c.loop-disk.invariant.left k ∙ sieved (has c.args.disks k) (has c.args.others k) (nat_lt k c.loop-disk.disk) (λ is.
    let few = c.loop-disk.invariant.few (omega arith) k is in is_below k c.loop-disk.disk (omega (arith, few)))) t

use Rattle.std.proofs.Common.{◌-◌, take, sym, ap, subst, ◌∙◌, arith}
use Rattle.std.proofs.lemmas.Bool.{false≢true}
use Rattle.std.proofs.lemmas.List.{get_or_default}
use Rattle.lvm_num.specs.declared.descriptor.LvRow.{LvRow}
use Rattle.lvm_num.specs.Descriptor.{IsVolume}
use Rattle.lvm_num.proofs.DescriptorLemmas.Volumes.{HasName, volumes-more, unnamed_before}
use Rattle.lvm_num.proofs.valid.are_volumes.Goals as goal
use Rattle.lvm_num.proofs.valid.are_volumes.Goals.{then-not-is_volume-via-then-not-is_volume, then-not-is_volume-via-else-not-is_volume+then-has_name, else-k-gt0-via-then-k-gt0+else-lvs-k, else-k-gt0-via-else-k-gt0}

pub returns-then-not-is_volume : goal.returns-then-not-is_volume
returns-then-not-is_volume c = (
  λ e. absurd (false≢true e),
  λ all.
      let row = c.index-lvs-k.result in
      let k = c.loop-k.k in
      let lvs = c.args.lvs.now in
      absurd (elim c.then-not-is_volume.branch [
        | then-not-is_volume-via-then-not-is_volume w ↦
            false≢true (sym w.if-not-is_volume.true ∙ c.is_volume.ensures.1 (subst (IsVolume c.args.big) (sym c.index-lvs-k.is) (all.each k row (omega arith))))
        | then-not-is_volume-via-else-not-is_volume+then-has_name w ↦
            unnamed_before c.args.big lvs k row (omega arith) all
            (subst (HasName (take k lvs)) (ap (λ (r : LvRow). r.name) c.index-lvs-k.is) (w.has_name.ensures.0 w.if-has_name.true))
      ]),
)

pub loop-k-preserved : goal.loop-k-preserved
loop-k-preserved c =
    let row = c.index-lvs-k.result in
    let k = c.loop-k.k in
    let lvs = c.args.lvs.now in
    volumes-more c.args.big lvs k row (omega arith) c.loop-k.invariant (subst (IsVolume c.args.big) c.index-lvs-k.is (c.is_volume.ensures.0 c.if-not-is_volume.false))
    (λ some. elim c.else-k-gt0.branch [
      | else-k-gt0-via-then-k-gt0+else-lvs-k w ↦
          let before = ap (λ (r : LvRow). r.number) (get_or_default lvs (k - 1) w.index-lvs-k-then-k-gt0.result row (omega arith)) in
          let here = ap (λ (r : LvRow). r.number) c.index-lvs-k.is in
          omega (arith, w.if-lvs-k.false, before, here)
      | else-k-gt0-via-else-k-gt0 w ↦ absurd (omega (arith, w.if-k-gt0.false, some))
    ])
    (λ named. false≢true (sym c.if-has_name.false ∙ c.has_name.ensures.1 (subst (HasName (take k lvs)) (sym (ap (λ (r : LvRow). r.name) c.index-lvs-k.is)) named)))

use Rattle.std.proofs.Common.{ap, sym, ◌∙◌, arith, refl, length}
use Rattle.std.proofs.lemmas.Bool.{false≢true}
use Rattle.lvm_num.specs.declared.descriptor.Descriptor.{Descriptor}
use Rattle.lvm_num.specs.Descriptor.{most_volumes}
use Rattle.lvm_core.specs.Looking.{HasNoVolumeNamed}
use Rattle.lvm_volume_plan.specs.Faults.{TakesCommands}
use Rattle.lvm_volume_plan.proofs.NewVolumeLemmas.Refusals.{if_none}
use Rattle.lvm_volume_plan.proofs.new_volume.check.Goals as goal

pub returns-then-not-may_have-clause-refused : goal.returns-then-not-may_have-clause-refused
returns-then-not-may_have-clause-refused g c =
    let takes : TakesCommands c.args.driver.now.1 = c.in_ok-takes_commands.ensures.takes in
    let new : HasNoVolumeNamed c.args.driver.now.1.descriptor.lvs c.args.v.now.name = if_none c.volume.result (HasNoVolumeNamed c.args.driver.now.1.descriptor.lvs c.args.v.now.name) c.volume.ensures.none c.if-is_some.ensures in
    (record { takes = takes; new = new }, λ may. false≢true (sym c.if-not-may_have.true ∙ c.may_have.ensures.1 may), refl)

pub returns-then-len-limit-clause-refused : goal.returns-then-len-limit-clause-refused
returns-then-len-limit-clause-refused g c =
    let takes : TakesCommands c.args.driver.now.1 = c.in_ok-takes_commands.ensures.takes in
    let new : HasNoVolumeNamed c.args.driver.now.1.descriptor.lvs c.args.v.now.name = if_none c.volume.result (HasNoVolumeNamed c.args.driver.now.1.descriptor.lvs c.args.v.now.name) c.volume.ensures.none c.if-is_some.ensures in
    let same = c.descriptor-group.ensures.same in
    let limit = c.most_volumes-limit.ensures ∙ ap (λ (d : Descriptor). most_volumes d.big) same in
    (record { named = record { takes = takes; new = new }; copies = c.may_have.ensures.0 c.if-not-may_have.false }, limit, omega (arith, c.if-len-limit.true, c.len.ensures ∙ ap (λ (d : Descriptor). length d.lvs) same))

pub returns-clause-may : goal.returns-clause-may
returns-clause-may g c =
    let takes : TakesCommands c.args.driver.now.1 = c.in_ok-takes_commands.ensures.takes in
    let new : HasNoVolumeNamed c.args.driver.now.1.descriptor.lvs c.args.v.now.name = if_none c.volume.result (HasNoVolumeNamed c.args.driver.now.1.descriptor.lvs c.args.v.now.name) c.volume.ensures.none c.if-is_some.ensures in
    let same = c.descriptor-group.ensures.same in
    record { counted = record { named = record { takes = takes; new = new }; copies = c.may_have.ensures.0 c.if-not-may_have.false }; fewer = omega (arith, c.if-len-limit.false, c.len.ensures ∙ ap (λ (d : Descriptor). length d.lvs) same, c.most_volumes-limit.ensures ∙ ap (λ (d : Descriptor). most_volumes d.big) same) }

use Rattle.std.proofs.Common.{◌≡◌, sym, ap, subst, ◌∙◌, arith}
use Rattle.std.proofs.lemmas.Result.{IfOk-weaker}
use Rattle.lvm_num.specs.declared.descriptor.LvRow.{LvRow}
use Rattle.lvm_num.specs.Descriptor.{IsValid, volume_of}
use Rattle.lvm_map.proofs.PlacesLemmas.{volume_is, laid_out}
use Rattle.lvm_volume_plan.specs.Copies.{with_copies, first_copies}
use Rattle.lvm_volume_plan.specs.CopiesFaults.{MayBeTaken}
use Rattle.lvm_volume_plan.specs.PlannedCopies.{IsWithFewer}
use Rattle.lvm_volume_plan.proofs.CopiesLemmas.Fewer.{valid_fewer}
use Rattle.lvm_volume_plan.proofs.DescriptorLemmas.{found_is, one_volume}
use Rattle.lvm_volume_plan.proofs.copies.fewer.Goals as goal

pub first_copies-requires-clause-whole : goal.first_copies-requires-clause-whole
first_copies-requires-clause-whole g c =
    (laid_out c.descriptor-group.result.now c.args.lv c.in-Some.row.now c.descriptor-group.ensures.valid (volume_is c.descriptor-group.result.now c.args.lv c.as_slice.result.now c.in-Some.row.now c.in-Some.ensures c.as_slice.ensures)).whole

pub first_copies-requires-clause-fewer : goal.first_copies-requires-clause-fewer
first_copies-requires-clause-fewer g c =
    let core = c.args.driver.now.1 in
    let volume = found_is core.descriptor c.descriptor-group.result.now c.args.lv c.as_slice.result.now c.in-Some.row.now c.in-Some.ensures c.as_slice.ensures c.descriptor-group.ensures.same in
    let same = one_volume (volume_of core.descriptor c.args.lv) c.requires.may.0 c.in-Some.row.now c.requires.may.1.keeps.shrinks.found.volume volume in
    let copies = ap (λ (r : LvRow). r.copies) same in
    omega (arith, c.requires.may.1.keeps.shrinks.are.fewer, copies)

pub prepare-requires-clause-valid : goal.prepare-requires-clause-valid
prepare-requires-clause-valid g c =
    let core = c.args.driver.now.1 in
    let row = c.in-Some.row.now in
    let volume = found_is core.descriptor c.descriptor-group.result.now c.args.lv c.as_slice.result.now row c.in-Some.ensures c.as_slice.ensures c.descriptor-group.ensures.same in
    let same = one_volume (volume_of core.descriptor c.args.lv) c.requires.may.0 row c.requires.may.1.keeps.shrinks.found.volume volume in
    let may : MayBeTaken c.args.lv c.args.copies core row = subst (λ (r : LvRow). MayBeTaken c.args.lv c.args.copies core r) same c.requires.may.1 in
    let is : c.in_ok-with_copies.field-0 ≡ with_copies core.descriptor c.args.lv c.args.copies (first_copies row c.args.copies) =
    c.in_ok-with_copies.ensures ∙ (λ t. with_copies (c.descriptor-group.ensures.same t) c.args.lv c.args.copies ((c.as_slice-2.ensures.value ∙ c.in_ok-map.ensures) t)) in
    subst IsValid (sym is) (valid_fewer core.descriptor c.args.lv c.args.copies row c.requires.group.valid volume may.keeps.shrinks.are.fewer may.keeps.shrinks.are.some)

pub returns : goal.returns
returns g c =
    let core = c.args.driver.now.1 in
    let row = c.in-Some.row.now in
    let volume = found_is core.descriptor c.descriptor-group.result.now c.args.lv c.as_slice.result.now row c.in-Some.ensures c.as_slice.ensures c.descriptor-group.ensures.same in
    let same = one_volume (volume_of core.descriptor c.args.lv) c.requires.may.0 row c.requires.may.1.keeps.shrinks.found.volume volume in
    let may : MayBeTaken c.args.lv c.args.copies core row = subst (λ (r : LvRow). MayBeTaken c.args.lv c.args.copies core r) same c.requires.may.1 in
    let is : c.in_ok-with_copies.field-0 ≡ with_copies core.descriptor c.args.lv c.args.copies (first_copies row c.args.copies) =
    c.in_ok-with_copies.ensures ∙ (λ t. with_copies (c.descriptor-group.ensures.same t) c.args.lv c.args.copies ((c.as_slice-2.ensures.value ∙ c.in_ok-map.ensures) t)) in
    let valid = valid_fewer core.descriptor c.args.lv c.args.copies row c.requires.group.valid volume may.keeps.shrinks.are.fewer may.keeps.shrinks.are.some in
    IfOk-weaker c.prepare.result (λ next. next ≡ c.in_ok-with_copies.field-0) (IsWithFewer c.args.lv c.args.copies core)
    (λ next its. record { group = c.requires.group; row = row; may = may; is = its ∙ is; valid = subst IsValid (sym (its ∙ is)) valid }) c.prepare.ensures

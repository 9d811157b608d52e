use Rattle.std.proofs.Common.{◌≡◌, length, true, sym, ap, subst, ◌∙◌, arith}
use Rattle.lvm_num.specs.Name.{is_name, unpadded, IsPadded}
use Rattle.lvm_num.proofs.NameLemmas.{length-name, length-front, written-is, padded-is, unpadded-padded}
use Rattle.lvm_num.proofs.name.Name.read.Goals as goal

pub slice_bounds-field-end : goal.slice_bounds-field-end
slice_bounds-field-end c = omega (arith, length-name c.args.bytes.now (sym c.is_name.ensures ∙ c.if-not-is_name.false))

pub slice_bounds-copy_from_slice-end : goal.slice_bounds-copy_from_slice-end
slice_bounds-copy_from_slice-end c =
    sym (length-front (length c.args.bytes.now) (length-name c.args.bytes.now (sym c.is_name.ensures ∙ c.if-not-is_name.false)))

pub copy_from_slice-requires : goal.copy_from_slice-requires
copy_from_slice-requires c = length-front (length c.args.bytes.now) (length-name c.args.bytes.now (sym c.is_name.ensures ∙ c.if-not-is_name.false))

pub invariant_of-result : goal.invariant_of-result
invariant_of-result c =
    let is : is_name c.args.bytes.now ≡ true = sym c.is_name.ensures ∙ c.if-not-is_name.false in
    subst IsPadded (sym (written-is c.args.bytes.now c.copy_from_slice.new.self c.copy_from_slice.ensures.after)) (padded-is c.args.bytes.now is)

pub returns : goal.returns
returns c =
    let is : is_name c.args.bytes.now ≡ true = sym c.is_name.ensures ∙ c.if-not-is_name.false in
    (is, ap unpadded (written-is c.args.bytes.now c.copy_from_slice.new.self c.copy_from_slice.ensures.after) ∙ unpadded-padded c.args.bytes.now is)

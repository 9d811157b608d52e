use Rattle.std.proofs.Common.{◌≡◌, List, length, sym, ap, subst, ◌∙◌}
use Rattle.lvm_num.specs.declared.place.Pp.{Pp}
use Rattle.lvm_num.specs.declared.descriptor.LvRow.{LvRow}
use Rattle.lvm_num.specs.Descriptor.{IsValid, volume_of}
use Rattle.lvm_session.specs.State.{is_there}
use Rattle.lvm_volume_plan.specs.Copies.{with_map, with_copies, further_copies}
use Rattle.lvm_volume_plan.specs.CopiesFaults.{MayBeAdded}
use Rattle.lvm_volume_plan.proofs.CopiesLemmas.More.{valid_more}
use Rattle.lvm_volume_plan.proofs.DescriptorLemmas.{found_is, one_volume}
use Rattle.lvm_volume_plan.proofs.copies.more.Goals as goal

pub further_copies-requires-clause-whole : goal.further_copies-requires-clause-whole
further_copies-requires-clause-whole g c =
    let core = c.args.driver.now.1 in
    let volume = found_is core.descriptor c.descriptor-group.result.now c.args.lv c.as_slice.result.now c.in-Some.row.now c.in-Some.ensures c.as_slice.ensures c.descriptor-group.ensures.same in
    let same = one_volume (volume_of core.descriptor c.args.lv) c.requires.may.0 c.in-Some.row.now c.requires.may.1.places.grows.found.volume volume in
    let may : MayBeAdded c.args.lv c.args.copies core c.in-Some.row.now c.args.map = subst (λ (r : LvRow). MayBeAdded c.args.lv c.args.copies core r c.args.map) same c.requires.may.1 in
    ap (λ (m : List Pp). length m) c.as_slice-places.ensures ∙ may.places.placed.whole

pub prepare-requires-clause-valid : goal.prepare-requires-clause-valid
prepare-requires-clause-valid g c =
    let core = c.args.driver.now.1 in
    let row = c.in-Some.row.now in
    let volume = found_is core.descriptor c.descriptor-group.result.now c.args.lv c.as_slice.result.now row c.in-Some.ensures c.as_slice.ensures c.descriptor-group.ensures.same in
    let same = one_volume (volume_of core.descriptor c.args.lv) c.requires.may.0 row c.requires.may.1.places.grows.found.volume volume in
    let may : MayBeAdded c.args.lv c.args.copies core row c.args.map = subst (λ (r : LvRow). MayBeAdded c.args.lv c.args.copies core r c.args.map) same c.requires.may.1 in
    let is : c.in_ok-with_copies.field-0 ≡ with_copies core.descriptor c.args.lv c.args.copies c.args.map =
    c.in_ok-with_copies.ensures ∙ (λ t. with_copies (c.descriptor-group.ensures.same t) c.args.lv c.args.copies (c.as_slice-places.ensures t)) in
    subst IsValid (sym is) (valid_more core.descriptor (is_there core) c.args.lv c.args.copies row c.args.map c.requires.group.valid volume may.places.grows.are.more may.places.placed may.places.grows.are.most)

pub returns : goal.returns
returns g c =
    let core = c.args.driver.now.1 in
    let row = c.in-Some.row.now in
    let volume = found_is core.descriptor c.descriptor-group.result.now c.args.lv c.as_slice.result.now row c.in-Some.ensures c.as_slice.ensures c.descriptor-group.ensures.same in
    let same = one_volume (volume_of core.descriptor c.args.lv) c.requires.may.0 row c.requires.may.1.places.grows.found.volume volume in
    let may : MayBeAdded c.args.lv c.args.copies core row c.args.map = subst (λ (r : LvRow). MayBeAdded c.args.lv c.args.copies core r c.args.map) same c.requires.may.1 in
    let is : c.in_ok-next.next ≡ with_copies core.descriptor c.args.lv c.args.copies c.args.map =
    c.in_ok-next.ensures ∙ c.in_ok-with_copies.ensures ∙ (λ t. with_copies (c.descriptor-group.ensures.same t) c.args.lv c.args.copies (c.as_slice-places.ensures t)) in
    record {
      group = c.requires.group;
      row = row;
      pps = c.args.map;
      may = may;
      added_is = c.new.ensures ∙ c.in_ok-added.ensures ∙ ap (λ (m : List Pp). further_copies (with_map row c.args.copies m) row.copies) c.as_slice-places.ensures;
      is = is;
      valid = subst IsValid (sym is) (valid_more core.descriptor (is_there core) c.args.lv c.args.copies row c.args.map c.requires.group.valid volume may.places.grows.are.more may.places.placed may.places.grows.are.most);
    }

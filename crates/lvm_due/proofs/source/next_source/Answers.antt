use Rattle.std.proofs.Common.{slice_index_or, not, sym, ◌∙◌, subst, arith}
use Rattle.std.specs.Prelude.{◌&&◌, All}
use Rattle.lvm_num.specs.declared.place.Pp.{Pp}
use Rattle.lvm_num.specs.Descriptor.{IsPartitionOf, is_pp}
use Rattle.lvm_num.specs.Disks.{has}
use Rattle.lvm_session.specs.Fields.{core_of}
use Rattle.lvm_session.specs.Judging.{copies_in, is_usable}
use Rattle.lvm_due.proofs.passed.Due.{copies_in_are, place_of}
use Rattle.lvm_due.specs.Plain.{is_source}
use Rattle.lvm_due.proofs.Steps.{find_left, found_here, found_later, found_none, index_same}
use Rattle.lvm_due.proofs.source.next_source.Goals as goal

pub is_source-requires : goal.is_source-requires
is_source-requires c =
    let d = c.args.session.now.descriptor in
    let test = c.loop-k-test.true in
    let all = subst (All (IsPartitionOf d)) (sym c.copies_beside-copies.ensures) (copies_in_are d c.args.copy.now.lv c.args.copy.now.lp c.requires.valid) in
    (place_of d (slice_index_or c.copies_beside-copies.result.now c.loop-k.k (record { disk = 0; pp = 0 })) c.requires.valid (all c.loop-k.k (record { disk = 0; pp = 0 }) test)).disk

pub returns-then-is_source : goal.returns-then-is_source
returns-then-is_source c =
    let core = core_of c.args.session.now in
    let ps = c.copies_beside-copies.result.now in
    let p = slice_index_or ps c.loop-k.k (record { disk = 0; pp = 0 }) in
    let within = c.loop-k-test.true in
    sym (found_here (is_source core c.args.copy.now) ps c.loop-k.k p within (index_same ps c.loop-k.k (record { disk = 0; pp = 0 }) within) (sym c.is_source.ensures ∙ c.if-is_source.true))
    ∙ c.loop-k.invariant
    ∙ sym (find_left (λ (q : Pp). not (is_pp q c.args.copy.now.pp) && is_usable core q) (λ (q : Pp). not (has c.args.copy.now.tried q.disk)) (copies_in core.descriptor c.args.copy.now.lv c.args.copy.now.lp))

pub loop-k-preserved : goal.loop-k-preserved
loop-k-preserved c =
    let core = core_of c.args.session.now in
    let ps = c.copies_beside-copies.result.now in
    let p = slice_index_or ps c.loop-k.k (record { disk = 0; pp = 0 }) in
    let within = c.loop-k-test.true in
    sym (found_later (is_source core c.args.copy.now) ps c.loop-k.k p within (index_same ps c.loop-k.k (record { disk = 0; pp = 0 }) within) (sym c.is_source.ensures ∙ c.if-is_source.false)) ∙ c.loop-k.invariant

pub returns : goal.returns
returns c =
    let core = core_of c.args.session.now in
    let ps = c.copies_beside-copies.result.now in
    let test = c.loop-k-test.false in
    sym (found_none (is_source core c.args.copy.now) ps c.loop-k.k (omega (arith, test)))
    ∙ c.loop-k.invariant
    ∙ sym (find_left (λ (q : Pp). not (is_pp q c.args.copy.now.pp) && is_usable core q) (λ (q : Pp). not (has c.args.copy.now.tried q.disk)) (copies_in core.descriptor c.args.copy.now.lv c.args.copy.now.lp))

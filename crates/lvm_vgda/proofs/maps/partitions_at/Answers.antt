use Rattle.std.proofs.Common.{◌≡◌, ◌-◌, ◌++◌, [], List, append-nil, Ok, sym, ap, subst, ◌∙◌, arith}
use Rattle.std.proofs.lemmas.Result.{err_from_is_err_and}
use Rattle.lvm_num.specs.declared.place.Pp.{Pp}
use Rattle.lvm_num.specs.DescriptorBytes.{partition_at, partitions_at}
use Rattle.lvm_vgda.specs.passed.Fields.{rest_of, Fails}
use Rattle.lvm_vgda.specs.Used.{Uses}
use Rattle.lvm_vgda.proofs.passed.Fields.{goes_on, ends, is_done}
use Rattle.lvm_vgda.proofs.RepeatsLemmas.{partitions_repeat}
use Rattle.lvm_vgda.proofs.UsedLemmas.{uses-more}
use Rattle.lvm_vgda.proofs.maps.partitions_at.Goals as goal

pub loop-init : goal.loop-init
loop-init c = λ pps uses.
    let none : pps ++ c.new-own.result.items ≡ pps = ap (λ (own : List Pp). pps ++ own) c.new-own.ensures.items ∙ append-nil pps in
    let left : c.args.count - 0 ≡ c.args.count = omega arith in (
      subst (Uses c.args.used.now) (sym none) uses,
      ap (λ n. partitions_at c.args.members.now pps c.args.copies n c.new-own.result.items (rest_of c.args.unread)) left
          ∙ ap (λ (own : List Pp). partitions_at c.args.members.now pps c.args.copies c.args.count own (rest_of c.args.unread)) c.new-own.ensures.items,
    )

pub returns-clause-used : goal.returns-clause-used
returns-clause-used c = λ pps uses. (c.loop.invariant pps uses).0

pub returns-in_err-pp-clause-read : goal.returns-in_err-pp-clause-read
returns-in_err-pp-clause-read c = λ pps uses.
    let p = err_from_is_err_and c.from_residual.result c.from_residual.ensures.1 in
    let members = c.args.members.now in
    let so_far = c.loop.invariant pps uses in
    let there : Uses c.loop.used (pps ++ c.deref.result.now) = subst (λ (own : List Pp). Uses c.loop.used (pps ++ own)) (sym c.deref.ensures.value) so_far.0 in
    let fails : Fails c.in_err-pp.field-0.0 (partition_at c.args.members.now pps c.args.copies c.loop.own.items (rest_of c.loop.rest)) =
    subst (λ (own : List Pp). Fails c.in_err-pp.field-0.0 (partition_at c.args.members.now pps c.args.copies own (rest_of c.loop.rest))) c.deref.ensures.value (c.in_err-pp.ensures.read pps there) in
    rw (p.1, p.2) (ends (partition_at members pps c.args.copies) (partitions_at members pps c.args.copies) (partitions_repeat members pps c.args.copies)
    c.in_err-pp.field-0.0 c.args.count c.loop.counter c.loop.own.items (rest_of c.loop.rest) (partitions_at members pps c.args.copies c.args.count [] (rest_of c.args.unread)) c.loop-test.true fails so_far.1)

pub loop-preserved : goal.loop-preserved
loop-preserved c = λ pps uses.
    let members = c.args.members.now in
    let so_far = c.loop.invariant pps uses in
    let there : Uses c.loop.used (pps ++ c.deref.result.now) = subst (λ (own : List Pp). Uses c.loop.used (pps ++ own)) (sym c.deref.ensures.value) so_far.0 in
    let here : partition_at c.args.members.now pps c.args.copies c.loop.own.items (rest_of c.loop.rest) ≡ Ok (c.in_ok-pp.pp, rest_of c.in_ok-pp.after) =
    subst (λ (own : List Pp). partition_at c.args.members.now pps c.args.copies own (rest_of c.loop.rest) ≡ Ok (c.in_ok-pp.pp, rest_of c.in_ok-pp.after)) c.deref.ensures.value (c.in_ok-pp.ensures.read pps there) in
    rw c.in_ok-push.ensures.items (
      uses-more c.loop.used c.put.new.self pps c.loop.own.items c.in_ok-pp.pp so_far.0 c.put.ensures,
      goes_on (partition_at members pps c.args.copies) (partitions_at members pps c.args.copies) (partitions_repeat members pps c.args.copies) c.args.count c.loop.counter c.loop.own.items (rest_of c.loop.rest)
          c.in_ok-pp.pp (rest_of c.in_ok-pp.after) (partitions_at members pps c.args.copies c.args.count [] (rest_of c.args.unread)) c.loop-test.true here so_far.1,
    )

pub returns-clause-read : goal.returns-clause-read
returns-clause-read c = λ pps uses.
    let members = c.args.members.now in
    is_done (partition_at members pps c.args.copies) (partitions_at members pps c.args.copies) (partitions_repeat members pps c.args.copies) c.args.count c.loop.counter c.loop.own.items (rest_of c.loop.rest)
    (partitions_at members pps c.args.copies c.args.count [] (rest_of c.args.unread)) c.loop-test.false (c.loop.invariant pps uses).1

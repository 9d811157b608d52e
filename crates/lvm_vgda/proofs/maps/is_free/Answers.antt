use Rattle.std.proofs.Common.{sym, ◌∙◌}
use Rattle.lvm_vgda.proofs.UsedLemmas.{its_member, free_is}
use Rattle.lvm_vgda.proofs.maps.is_free.Goals as goal

pub has-requires-clause-disk : goal.has-requires-clause-disk
has-requires-clause-disk c = (its_member c.args.members.now c.args.pp.disk c.args.pp.pp c.requires (sym c.has_partition.ensures ∙ c.if-has_partition.true)).0

pub has-requires-clause-partition : goal.has-requires-clause-partition
has-requires-clause-partition c = (its_member c.args.members.now c.args.pp.disk c.args.pp.pp c.requires (sym c.has_partition.ensures ∙ c.if-has_partition.true)).1

pub returns-then-has_partition-clause-free : goal.returns-then-has_partition-clause-free
returns-then-has_partition-clause-free c = λ pps uses.
    let some = sym c.has_partition.ensures ∙ c.if-has_partition.true in
    let its = its_member c.args.members.now c.args.pp.disk c.args.pp.pp c.requires some in
    free_is _ _ _ some (c.has.ensures ∙ uses c.args.pp.disk c.args.pp.pp its.1)

pub returns-then-has_partition-clause-disk : goal.returns-then-has_partition-clause-disk
returns-then-has_partition-clause-disk c = λ free. (its_member c.args.members.now c.args.pp.disk c.args.pp.pp c.requires (sym c.has_partition.ensures ∙ c.if-has_partition.true)).0

pub returns-then-has_partition-clause-partition : goal.returns-then-has_partition-clause-partition
returns-then-has_partition-clause-partition c = λ free. (its_member c.args.members.now c.args.pp.disk c.args.pp.pp c.requires (sym c.has_partition.ensures ∙ c.if-has_partition.true)).1

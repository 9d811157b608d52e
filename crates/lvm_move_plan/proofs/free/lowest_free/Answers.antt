use Rattle.std.proofs.Common.{not, sym, ap, ◌∙◌, arith}
use Rattle.lvm_num.specs.declared.place.Pp.{Pp}
use Rattle.lvm_num.specs.Descriptor.{partitions_used}
use Rattle.lvm_map.specs.FirstFit.{is_among}
use Rattle.lvm_move_plan.proofs.LowestLemmas.{here_first, none_more}
use Rattle.lvm_move_plan.proofs.free.lowest_free.Goals as goal

pub returns-then-not-is_used : goal.returns-then-not-is_used
returns-then-not-is_used c =
    sym (here_first (λ (x : Pp). not (is_among (partitions_used c.args.d.now) x)) c.args.row.disk c.loop-k.k c.args.row.pps (omega arith) c.loop-k.invariant (ap not (sym c.is_used.ensures ∙ c.if-not-is_used.true)))

pub loop-k-preserved : goal.loop-k-preserved
loop-k-preserved c =
    none_more (λ (x : Pp). not (is_among (partitions_used c.args.d.now) x)) c.args.row.disk c.loop-k.k c.loop-k.invariant (ap not (sym c.is_used.ensures ∙ c.if-not-is_used.false))

use Rattle.std.proofs.Common.{◌||◌, ap, ◌∙◌, arith}
use Rattle.std.specs.Prelude.{◌==◌}
use Rattle.lvm_num.specs.declared.place.Pp.{Pp}
use Rattle.lvm_num.specs.Bits.{has_bit}
use Rattle.lvm_num.proofs.MarksLemmas.Marks.{marked-more}
use Rattle.lvm_map.proofs.free_partitions.mark_all.Goals as goal

abbrev no_pp : Pp
no_pp = record { disk = 0; pp = 0 }

pub loop-pp-preserved : goal.loop-pp-preserved
loop-pp-preserved c =
    marked-more c.args.marks.now c.loop-pp.marks c.set_bit.new.bits c.args.map.now c.loop-pp.pp-index no_pp (omega arith) c.loop-pp.invariant
    (λ k. c.set_bit.ensures k ∙ ap (λ n. has_bit c.loop-pp.marks k || k == n) c.spot_of.ensures)

use Rattle.lvm_vol.specs.Log.{entries_of}
use Rattle.lvm_load.specs.declared.totals.Kind.TheVariants as kind
use Rattle.lvm_load.specs.Totals.{is_of}
use Rattle.lvm_load.proofs.Counting.{Counts}
use Rattle.lvm_load.proofs.totals.totals_since.Given as goal

abbrev pub invariant-loop-k : goal.invariant-loop-k
invariant-loop-k l =
    let es = entries_of l.history.facts in
    Counts (is_of kind.Begun) es l.from l.k l.begun × Counts (is_of kind.Done) es l.from l.k l.done × Counts (is_of kind.Got) es l.from l.k l.got
    × Counts (is_of kind.Lost) es l.from l.k l.lost × Counts (is_of kind.Refused) es l.from l.k l.refused

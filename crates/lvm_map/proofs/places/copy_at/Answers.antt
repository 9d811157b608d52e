use Rattle.std.proofs.Common.{sym, ap, arith}
use Rattle.lvm_num.specs.declared.place.Pp.{Pp}
use Rattle.lvm_map.specs.Places.{copy_at}
use Rattle.lvm_map.proofs.PlacesLemmas.{copy_there, no_copy, no_partition}
use Rattle.lvm_map.proofs.places.copy_at.Goals as goal
use Rattle.lvm_map.proofs.places.copy_at.Goals.{then-copy-eq0-via-then-copy-eq0, then-copy-eq0-via-else-copy-eq0+then-copy-row, then-copy-eq0-via-else-copy-eq0+else-copy-row+then-lp-from}

pub returns-then-copy-eq0 : goal.returns-then-copy-eq0
returns-then-copy-eq0 c = elim c.then-copy-eq0.branch [
  | then-copy-eq0-via-then-copy-eq0 w ↦ ap (copy_at c.args.row.now c.args.lp) (sym w.if-copy-eq0.true)
  | then-copy-eq0-via-else-copy-eq0+then-copy-row w ↦ sym (no_copy c.args.row.now c.args.lp c.args.copy w.if-copy-row.true)
  | then-copy-eq0-via-else-copy-eq0+else-copy-row+then-lp-from w ↦
      sym (no_partition c.args.row.now c.args.lp c.args.copy c.requires.whole (omega (arith, w.if-lp-from.true, w.from.ensures)))
]

abbrev no_pp : Pp
no_pp = record { disk = 0; pp = 0 }

pub returns : goal.returns
returns c =
    let there = copy_there c.args.row.now c.args.lp c.args.copy no_pp c.requires.whole (omega (arith, c.if-lp-from.false, c.from.ensures)) (omega arith) (omega arith) in
    rw (c.as_slice.ensures, c.from-2.ensures, c.from-3.ensures) (sym there)

use Rattle.std.proofs.Common.{◌≡◌, ◌||◌, false, true, get_or, sym, ap, ◌∙◌, arith}
use Rattle.std.specs.Prelude.{◌==◌}
use Rattle.std.proofs.lemmas.Bool.{false≢true}
use Rattle.lvm_num.specs.declared.place.Pp.{Pp}
use Rattle.lvm_num.specs.Bits.{has_bit}
use Rattle.lvm_num.specs.Marks.{IsWithinDisk, spot}
use Rattle.lvm_num.proofs.MarksLemmas.Marks.{free-more, marked-more, marked_not_free}
use Rattle.lvm_num.proofs.valid.mark_all.Goals as goal

abbrev no_pp : Pp
no_pp = record { disk = 0; pp = 0 }

pub returns-then-has_bit-clause-free : goal.returns-then-has_bit-clause-free
returns-then-has_bit-clause-free c = (
  λ e. absurd (false≢true e),
  λ free.
      let is : has_bit c.loop-pp.marks (spot (get_or c.args.map.now c.loop-pp.pp-index no_pp)) ≡ true = ap (has_bit c.loop-pp.marks) (sym c.spot_of-spot.ensures) ∙ sym c.has_bit.ensures ∙ c.if-has_bit.true in
      absurd (marked_not_free c.args.counts.now c.args.marks.now c.loop-pp.marks c.args.map.now c.loop-pp.pp-index no_pp (omega arith) c.loop-pp.invariant.1 is free),
)

pub loop-pp-preserved : goal.loop-pp-preserved
loop-pp-preserved c =
    let isnt : has_bit c.loop-pp.marks (spot (get_or c.args.map.now c.loop-pp.pp-index no_pp)) ≡ false = ap (has_bit c.loop-pp.marks) (sym c.spot_of-spot.ensures) ∙ sym c.has_bit.ensures ∙ c.if-has_bit.false in
    let count = ap (λ n. get_or c.args.counts.now n 0) c.from-else-from-ge-PLACES.ensures in
    let here : IsWithinDisk c.args.counts.now (get_or c.args.map.now c.loop-pp.pp-index no_pp) = record { disk = omega arith; partition = omega (arith, count) } in (
      free-more c.args.counts.now c.args.marks.now c.loop-pp.marks c.args.map.now c.loop-pp.pp-index no_pp (omega arith) c.loop-pp.invariant.0 c.loop-pp.invariant.1 here isnt,
      marked-more c.args.marks.now c.loop-pp.marks c.set_bit.new.bits c.args.map.now c.loop-pp.pp-index no_pp (omega arith) c.loop-pp.invariant.1
          (λ k. c.set_bit.ensures k ∙ ap (λ n. has_bit c.loop-pp.marks k || k == n) c.spot_of-spot.ensures),
    )

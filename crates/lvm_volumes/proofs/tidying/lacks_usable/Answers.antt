use Rattle.std.proofs.Common.{◌≡◌, ◌*◌, List, take, drop, false, sym, ap, ◌∙◌, arith}
use Rattle.lvm_num.specs.declared.place.Pp.{Pp}
use Rattle.lvm_num.specs.Descriptor.{copies_of}
use Rattle.lvm_volume_plan.specs.CopiesFaults.{has_usable}
use Rattle.lvm_volumes.proofs.TidyingLemmas.{none_lacks, some_lacks}
use Rattle.lvm_volumes.proofs.tidying.lacks_usable.Goals as goal

pub returns-then-not-has_usable : goal.returns-then-not-has_usable
returns-then-not-has_usable c =
    let row = c.args.row.now in
    let lp = c.loop-lp.lp in
    let all : c.copies_at.result.now ≡ copies_of row lp = c.copies_at.ensures ∙ ap (λ (m : List Pp). take row.copies (drop (lp * row.copies) m)) c.as_slice.ensures in
    let none : has_usable c.args.table.now (copies_of row lp) ≡ false = ap (has_usable c.args.table.now) (sym all) ∙ sym c.has_usable.ensures ∙ c.if-not-has_usable.true in
    sym (some_lacks c.args.table.now row lp (omega (arith, c.loop-lp-test.true)) none)

pub returns : goal.returns
returns c = sym (none_lacks c.args.table.now c.args.row.now (λ lp lt. c.loop-lp.invariant lp (omega (arith, lt, c.loop-lp-test.false))))

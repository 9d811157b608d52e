use Rattle.std.proofs.Common.{◌≡◌, ◌≤◌, ◌+◌, ◌-◌, ℕ, cond, length, sym, ◌∙◌, ap, subst, arith}
use Rattle.std.specs.Prelude.{count_by}
use Rattle.lvm_vol.specs.Log.{entries_of}
use Rattle.lvm_load.specs.declared.totals.Kind.{Kind}
use Rattle.lvm_load.specs.declared.totals.Kind.TheVariants as kind
use Rattle.lvm_load.specs.declared.totals.Totals.{Totals}
use Rattle.lvm_load.specs.Totals.{entries_since, is_of}
use Rattle.lvm_load.proofs.Counting.{Counts, counts_all, counts_next, entries_long}
use Rattle.lvm_load.proofs.totals.totals_since.Goals as goal

pub loop-k-preserved : goal.loop-k-preserved
loop-k-preserved c =
    let es = entries_of c.args.history.now.facts in
    let next : (which : Kind) (n m : ℕ) → m ≡ cond (is_of which c.entry-entry.result) (n + 1) n → Counts (is_of which) es c.args.from c.loop-k.k n → Counts (is_of which) es c.args.from (c.loop-k.k + 1) m
    = λ which n m is so_far. subst (λ (l : ℕ). Counts (is_of which) es c.args.from (c.loop-k.k + 1) l) (sym is) (counts_next (is_of which) es c.args.from c.loop-k.k n so_far c.entry-entry.result c.entry-entry.ensures) in (
      next kind.Begun c.loop-k.begun c.counted-begun.result c.counted-begun.ensures c.loop-k.invariant.0,
      next kind.Done c.loop-k.done c.counted-done.result c.counted-done.ensures c.loop-k.invariant.1,
      next kind.Got c.loop-k.got c.counted-got.result c.counted-got.ensures c.loop-k.invariant.2,
      next kind.Lost c.loop-k.lost c.counted-lost.result c.counted-lost.ensures c.loop-k.invariant.3,
      next kind.Refused c.loop-k.refused c.counted-refused.result c.counted-refused.ensures c.loop-k.invariant.4,
    )

pub returns : goal.returns
returns c =
    let es = entries_of c.args.history.now.facts in
    let from = c.args.from in
    let requests = c.args.requests in
    let long : length es ≡ length c.args.history.now.facts = entries_long 0 c.args.history.now.facts in
    let test = c.loop-k-test.false in
    let len = c.len-k-end.ensures in
    let past : length es ≤ c.loop-k.k = omega (arith, long, test, len) in
    let begun = counts_all (is_of kind.Begun) es from c.loop-k.k c.loop-k.begun c.loop-k.invariant.0 past in
    let done = counts_all (is_of kind.Done) es from c.loop-k.k c.loop-k.done c.loop-k.invariant.1 past in
    let got = counts_all (is_of kind.Got) es from c.loop-k.k c.loop-k.got c.loop-k.invariant.2 past in
    let lost = counts_all (is_of kind.Lost) es from c.loop-k.k c.loop-k.lost c.loop-k.invariant.3 past in
    let refused = counts_all (is_of kind.Refused) es from c.loop-k.k c.loop-k.refused c.loop-k.invariant.4 past in
    let those : Kind → ℕ = λ which. count_by (is_of which) (entries_since from c.args.history.now.facts) in
    rw (begun, done, got, lost, refused)
    (ap (λ (n : ℕ). let t : Totals = record { begun = those kind.Begun; done = those kind.Done; got = those kind.Got; lost = those kind.Lost; refused = those kind.Refused; unbegun = n } in t)
    (c.saturating_sub.ensures ∙ ap (λ (n : ℕ). requests - n) begun))

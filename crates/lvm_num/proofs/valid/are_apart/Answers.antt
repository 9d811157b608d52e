use Rattle.std.proofs.Common.{◌≡◌, ◌≢◌, false, true, get_or, take, refl, sym, ◌∙◌, arith}
use Rattle.std.specs.Prelude.{◌==◌}
use Rattle.std.specs.List.{list_any}
use Rattle.std.proofs.lemmas.Bool.{eq-eqb, eqb-true, false≢true}
use Rattle.lvm_num.specs.declared.place.Pp.{Pp}
use Rattle.lvm_num.proofs.Pairs.{AllPairs-more, AllPairs-all, none_before, some_before}
use Rattle.lvm_num.proofs.valid.are_apart.Goals as goal

abbrev no_pp : Pp
no_pp = record { disk = 0; pp = 0 }

pub returns-then-has_partition_on : goal.returns-then-has_partition_on
returns-then-has_partition_on c = (
  λ e. absurd (false≢true e),
  λ apart.
      let copies = c.args.copies.now in
      let k = c.loop-k.k in
      let on : list_any (λ (pp : Pp). pp.disk == (get_or copies k no_pp).disk) (take k copies) ≡ true = sym c.has_partition_on.ensures ∙ c.if-has_partition_on.true in
      let found = some_before (λ (pp : Pp). pp.disk == (get_or copies k no_pp).disk) copies k (omega arith) on in
      absurd (apart found.0 k no_pp found.1 (omega arith) (eqb-true (get_or copies found.0 no_pp).disk (get_or copies k no_pp).disk (found.2 no_pp))),
)

pub loop-k-preserved : goal.loop-k-preserved
loop-k-preserved c =
    let copies = c.args.copies.now in
    let k = c.loop-k.k in
    let off : list_any (λ (pp : Pp). pp.disk == (get_or copies k no_pp).disk) (take k copies) ≡ false = sym c.has_partition_on.ensures ∙ c.if-has_partition_on.false in
    AllPairs-more (λ (a b : Pp). a.disk ≢ b.disk) copies k no_pp (omega arith) c.loop-k.invariant
    (λ i lt same. false≢true
    (sym (none_before (λ (pp : Pp). pp.disk == (get_or copies k no_pp).disk) copies k (omega arith) off i no_pp lt)
    ∙ eq-eqb (get_or copies i no_pp).disk (get_or copies k no_pp).disk same))

pub returns : goal.returns
returns c = (λ e. AllPairs-all (λ (a b : Pp). a.disk ≢ b.disk) c.args.copies.now c.loop-k.k (omega arith) c.loop-k.invariant, λ apart. refl)

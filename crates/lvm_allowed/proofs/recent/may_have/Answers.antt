use Rattle.std.proofs.Common.{◌≡◌, ◌-◌, ◌+◌, ◌≤◌, ◌<◌, ◌||◌, ◌∙◌, ℕ, Bool, true, false, length, take, get_or, sym, ap, subst, refl, arith, List}
use Rattle.lvm_vol.proofs.passed.Num.{or_false}
use Rattle.lvm_vol.specs.declared.entry.Vol.{Vol}
use Rattle.lvm_vol.specs.May.{known}
use Rattle.lvm_allowed.specs.declared.row.Row.{Row}
use Rattle.lvm_allowed.specs.declared.recent.Told.TheVariants.{Fixed, Also}
use Rattle.lvm_allowed.specs.Rows.{facts_of}
use Rattle.lvm_allowed.specs.Seen.{seen_of}
use Rattle.lvm_allowed.specs.Told.{allows}
use Rattle.lvm_allowed.proofs.SeenLemmas.{tells}
use Rattle.lvm_allowed.proofs.ToldLemmas.{told_back, seen_all, or_again}
use Rattle.lvm_allowed.proofs.recent.may_have.Goals as goal

pub loop-k-init : goal.loop-k-init
loop-k-init c = record {
  within = omega arith;
  told = λ run.
      ap allows (seen_all run c.args.asks.now c.args.blocks.now c.args.rows.now c.args.block.number c.args.value.now c.args.block.vol)
      ∙ sym (or_false (allows (seen_of (known (facts_of run c.args.asks.now c.args.blocks.now (take (length c.args.rows.now) c.args.rows.now)) c.args.block.vol c.args.block.number) c.args.value.now)));
}

pub loop-k-preserved : goal.loop-k-preserved
loop-k-preserved c = record {
  within = omega (arith, c.loop-k.invariant.within);
  told = λ run.
      c.loop-k.invariant.told run
      ∙ ap (λ (t : Bool). t || c.loop-k.also)
      (told_back run c.args.asks.now c.args.blocks.now c.args.rows.now c.args.block.number c.args.value.now c.loop-k.k _ c.loop-k.vol (Also c.in-Also.allowed) c.loop-k-test.true c.loop-k.invariant.within (c.in-Also.ensures run))
      ∙ or_again _ c.in-Also.allowed c.loop-k.also c.either-also.result c.either-also.ensures
      ∙ ap (λ (v : Vol). allows (seen_of (known (facts_of run c.args.asks.now c.args.blocks.now (take (c.loop-k.k - 1) c.args.rows.now)) v c.args.block.number) c.args.value.now) || c.either-also.result) (sym c.source_of-vol.ensures);
}

pub returns-in-Fixed : goal.returns-in-Fixed
returns-in-Fixed c = λ run.
    let told = told_back run c.args.asks.now c.args.blocks.now c.args.rows.now c.args.block.number c.args.value.now c.loop-k.k _ c.loop-k.vol (Fixed c.in-Fixed.allowed) c.loop-k-test.true c.loop-k.invariant.within (c.in-Fixed.ensures run) in
    tells (known (facts_of run c.args.asks.now c.args.blocks.now c.args.rows.now) c.args.block.vol c.args.block.number) c.args.value.now _ c.either.result refl
    (c.either.ensures ∙ ap (λ (t : Bool). t || c.loop-k.also) (sym told) ∙ sym (c.loop-k.invariant.told run))

pub returns : goal.returns
returns c = λ run.
    let none : c.loop-k.k ≡ 0 = omega (arith, c.loop-k-test.false) in
    let at_start = subst (λ (n : ℕ). allows (seen_of (known (facts_of run c.args.asks.now c.args.blocks.now c.args.rows.now) c.args.block.vol c.args.block.number) c.args.value.now)
    ≡ (allows (seen_of (known (facts_of run c.args.asks.now c.args.blocks.now (take n c.args.rows.now)) c.loop-k.vol c.args.block.number) c.args.value.now) || c.loop-k.also)) none (c.loop-k.invariant.told run) in
    tells (known (facts_of run c.args.asks.now c.args.blocks.now c.args.rows.now) c.args.block.vol c.args.block.number) c.args.value.now _ true refl (sym at_start)

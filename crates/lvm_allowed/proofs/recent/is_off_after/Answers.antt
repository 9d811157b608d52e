use Rattle.std.proofs.Common.{◌≡◌, ◌-◌, ◌≤◌, ◌<◌, ◌∙◌, ℕ, [], Bool, false, Option, Some, None, length, take, sym, ap, subst, refl, arith}
use Rattle.std.specs.Option.{unwrap_or}
use Rattle.lvm_vol.specs.declared.entry.Vol.{Vol}
use Rattle.lvm_vol.specs.May.{is_off, known}
use Rattle.lvm_allowed.specs.declared.values.Seen.{Seen}
use Rattle.lvm_allowed.specs.Rows.{facts_of}
use Rattle.lvm_allowed.proofs.ToldLemmas.{off_back, seen_all}
use Rattle.lvm_allowed.proofs.recent.is_off_after.Goals as goal

kept : (o : Option Bool) (a b : Bool) → None ≡ o → a ≡ unwrap_or o b → a ≡ b
kept None a b none is = is
kept (Some off) a b none is = cc

told : (o : Option Bool) (a b off : Bool) → Some off ≡ o → a ≡ unwrap_or o b → off ≡ a
told (Some other) a b off some is = let same : off ≡ other = cc in same ∙ sym is
told None a b off some is = cc

pub loop-k-init : goal.loop-k-init
loop-k-init c = record {
  within = omega arith;
  same = λ run. ap (λ (s : Seen). s.off) (seen_all run c.args.asks.now c.args.blocks.now c.args.rows.now c.args.block.number [] c.args.block.vol);
}

pub loop-k-preserved : goal.loop-k-preserved
loop-k-preserved c = record {
  within = omega (arith, c.loop-k.invariant.within);
  same = λ run.
      c.loop-k.invariant.same run
      ∙ kept _ _ _ c.in_default.ensures (off_back run c.args.asks.now c.args.blocks.now c.args.rows.now c.args.block.number [] c.loop-k.k _ c.loop-k.vol c.loop-k-test.true c.loop-k.invariant.within)
      ∙ ap (λ (v : Vol). is_off (known (facts_of run c.args.asks.now c.args.blocks.now (take (c.loop-k.k - 1) c.args.rows.now)) v c.args.block.number).mode) (sym c.source_of-vol.ensures);
}

pub returns-in-Some : goal.returns-in-Some
returns-in-Some c = λ run.
    told _ _ _ c.in-Some.off c.in-Some.ensures (off_back run c.args.asks.now c.args.blocks.now c.args.rows.now c.args.block.number [] c.loop-k.k _ c.loop-k.vol c.loop-k-test.true c.loop-k.invariant.within)
    ∙ sym (c.loop-k.invariant.same run)

pub returns : goal.returns
returns c = λ run.
    let none : c.loop-k.k ≡ 0 = omega (arith, c.loop-k-test.false) in
    sym (subst (λ (n : ℕ). is_off (known (facts_of run c.args.asks.now c.args.blocks.now c.args.rows.now) c.args.block.vol c.args.block.number).mode
    ≡ is_off (known (facts_of run c.args.asks.now c.args.blocks.now (take n c.args.rows.now)) c.loop-k.vol c.args.block.number).mode) none (c.loop-k.invariant.same run))

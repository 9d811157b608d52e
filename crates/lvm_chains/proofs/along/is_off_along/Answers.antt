use Rattle.std.proofs.Common.{◌≡◌, ◌-◌, ◌≤◌, ◌<◌, ◌∙◌, ℕ, [], Bool, false, Option, Some, None, take, sym, ap, subst, arith}
use Rattle.std.specs.Option.{unwrap_or}
use Rattle.lvm_vol.specs.declared.entry.Vol.{Vol}
use Rattle.lvm_vol.specs.May.{is_off, known}
use Rattle.lvm_allowed.specs.Rows.{facts_of}
use Rattle.lvm_allowed.proofs.ToldLemmas.{off_back}
use Rattle.lvm_chains.proofs.AlongLemmas.{calm_between, shaping_newest, off_still}
use Rattle.lvm_chains.proofs.along.is_off_along.Goals as goal

kept : (o : Option Bool) (a b : Bool) → None ≡ o → a ≡ unwrap_or o b → a ≡ b
kept None a b none is = is
kept (Some off) a b none is = cc

told : (o : Option Bool) (a b off : Bool) → Some off ≡ o → a ≡ unwrap_or o b → off ≡ a
told (Some other) a b off some is = let same : off ≡ other = cc in same ∙ sym is
told None a b off some is = cc

pub loop-place-init : goal.loop-place-init
loop-place-init c =
    let at = shaping_newest c.args.index.now.chains c.args.among c.args.shaping c.requires.shaping in
    record {
      within = at.0;
      newest_is = at.1;
      same = λ run. off_still run c.args.asks.now c.args.blocks.now c.args.rows.now c.args.block.vol c.args.block.number [] c.args.among c.args.shaping at.0 c.requires.among
          (λ i from to. calm_between c.args.asks.now c.args.rows.now c.args.block.vol c.args.block.number c.args.index.now c.requires.indexed c.args.among c.args.shaping i c.requires.among c.requires.shaping from to);
    }

pub loop-place-preserved : goal.loop-place-preserved
loop-place-preserved c =
    let at = shaping_newest c.args.index.now.chains (c.loop-place.place - 1) c.older-place.result c.older-place.ensures in
    let few = at.0 in
    let within = c.loop-place.invariant.within in
    record {
      within = omega (arith, few, within);
      newest_is = at.1;
      same = λ run.
          c.loop-place.invariant.same run
          ∙ kept _ _ _ c.in_default.ensures (off_back run c.args.asks.now c.args.blocks.now c.args.rows.now c.args.block.number [] c.loop-place.place _ c.loop-place.vol c.loop-place-test.true (omega (arith, within, c.requires.among)))
          ∙ ap (λ (v : Vol). is_off (known (facts_of run c.args.asks.now c.args.blocks.now (take (c.loop-place.place - 1) c.args.rows.now)) v c.args.block.number).mode) (sym c.source_of-vol.ensures)
          ∙ off_still run c.args.asks.now c.args.blocks.now c.args.rows.now c.source_of-vol.result c.args.block.number [] (c.loop-place.place - 1) c.older-place.result at.0 (omega (arith, within, c.requires.among))
          (λ i from to. calm_between c.args.asks.now c.args.rows.now c.source_of-vol.result c.args.block.number c.args.index.now c.requires.indexed (c.loop-place.place - 1) c.older-place.result i (omega (arith, within, c.requires.among)) c.older-place.ensures from to);
    }

pub loop-place-smaller : goal.loop-place-smaller
loop-place-smaller c =
    let at = shaping_newest c.args.index.now.chains (c.loop-place.place - 1) c.older-place.result c.older-place.ensures in
    let few = at.0 in omega (arith, few, c.loop-place-test.true)

pub returns-in-Some : goal.returns-in-Some
returns-in-Some c = λ run.
    let within = c.loop-place.invariant.within in
    told _ _ _ c.in-Some.off c.in-Some.ensures (off_back run c.args.asks.now c.args.blocks.now c.args.rows.now c.args.block.number [] c.loop-place.place _ c.loop-place.vol c.loop-place-test.true (omega (arith, within, c.requires.among)))
    ∙ sym (c.loop-place.invariant.same run)

pub returns : goal.returns
returns c = λ run.
    let none : c.loop-place.place ≡ 0 = omega (arith, c.loop-place-test.false) in
    sym (subst (λ (n : ℕ). is_off (known (facts_of run c.args.asks.now c.args.blocks.now (take c.args.among c.args.rows.now)) c.args.block.vol c.args.block.number).mode
    ≡ is_off (known (facts_of run c.args.asks.now c.args.blocks.now (take n c.args.rows.now)) c.loop-place.vol c.args.block.number).mode) none (c.loop-place.invariant.same run))

use Rattle.std.proofs.Common.{◌≡◌, ◌-◌, ◌/◌, ◌≤◌, ◌<◌, ◌∙◌, ℕ, true, false, take, sym, ap, subst, arith}
use Rattle.lvm_vol.specs.declared.entry.Vol.{Vol}
use Rattle.lvm_vol.specs.May.{known}
use Rattle.lvm_allowed.specs.declared.values.Seen.{Seen}
use Rattle.lvm_allowed.specs.Rows.{facts_of}
use Rattle.lvm_allowed.proofs.ToldLemmas.{seen_at}
use Rattle.lvm_chains.proofs.AlongLemmas.{newer_places, nothing_between}
use Rattle.lvm_chains.proofs.LooseLemmas.{loose_back, loose_by}
use Rattle.lvm_chains.proofs.along.is_loosened_along.Goals as goal

pub loop-place-init : goal.loop-place-init
loop-place-init c =
    let at = newer_places c.args.asks.now c.args.rows.now c.args.block.vol c.args.block.number c.args.index.now c.requires.indexed c.args.among c.newer-place.result c.args.places c.requires.places c.newer-place.ensures in
    record {
      within = at.0;
      places = at.1;
      same = λ run off.
          let none = nothing_between run c.args.asks.now c.args.blocks.now c.args.rows.now c.args.block.vol c.args.block.number c.args.value.now c.args.index.now c.args.among c.newer-place.result c.args.places c.requires.indexed c.requires.among c.requires.places c.newer-place.ensures in
          (sym (ap (λ (s : Seen). s.off) none) ∙ off, ap (λ (s : Seen). s.loose) none);
    }

pub loop-place-preserved : goal.loop-place-preserved
loop-place-preserved c =
    let within = c.loop-place.invariant.within in
    let at = newer_places c.args.asks.now c.args.rows.now c.source_of-source.result c.args.block.number c.args.index.now c.requires.indexed (c.loop-place.place - 1) c.newer-place-in-loop-place.result c.followed-at.result c.followed-at.ensures c.newer-place-in-loop-place.ensures in
    let few = at.0 in
    record {
      within = omega (arith, few, within);
      places = at.1;
      same = λ run off.
          let was = c.loop-place.invariant.same run off in
          let back = loose_back run c.args.asks.now c.args.blocks.now c.args.rows.now c.args.block.number c.args.value.now c.loop-place.place _ c.loop-place.vol c.loop-place-test.true (omega (arith, within, c.requires.among)) c.in_default.ensures was.0 in
          let same = ap (λ (v : Vol). seen_at run c.args.asks.now c.args.blocks.now c.args.rows.now c.args.block.number c.args.value.now (c.loop-place.place - 1) v) (sym c.source_of-source.ensures)
          ∙ nothing_between run c.args.asks.now c.args.blocks.now c.args.rows.now c.source_of-source.result c.args.block.number c.args.value.now c.args.index.now (c.loop-place.place - 1) c.newer-place-in-loop-place.result c.followed-at.result c.requires.indexed
          (omega (arith, within, c.requires.among)) c.followed-at.ensures c.newer-place-in-loop-place.ensures in
          (sym (ap (λ (s : Seen). s.off) same) ∙ back.0, was.1 ∙ back.1 ∙ ap (λ (s : Seen). s.loose) same);
    }

pub loop-place-smaller : goal.loop-place-smaller
loop-place-smaller c =
    let at = newer_places c.args.asks.now c.args.rows.now c.source_of-source.result c.args.block.number c.args.index.now c.requires.indexed (c.loop-place.place - 1) c.newer-place-in-loop-place.result c.followed-at.result c.followed-at.ensures c.newer-place-in-loop-place.ensures in
    let few = at.0 in omega (arith, few, c.loop-place-test.true)

pub returns-in-Some : goal.returns-in-Some
returns-in-Some c = λ run off.
    let within = c.loop-place.invariant.within in
    let was = c.loop-place.invariant.same run off in
    sym (was.1 ∙ loose_by run c.args.asks.now c.args.blocks.now c.args.rows.now c.args.block.number c.args.value.now c.loop-place.place _ c.loop-place.vol c.in-Some.loose c.loop-place-test.true (omega (arith, within, c.requires.among)) c.in-Some.ensures was.0)

pub returns : goal.returns
returns c = λ run off.
    let none : c.loop-place.place ≡ 0 = omega (arith, c.loop-place-test.false) in
    let was = c.loop-place.invariant.same run off in
    sym (subst (λ (n : ℕ). (known (facts_of run c.args.asks.now c.args.blocks.now (take c.args.among c.args.rows.now)) c.args.block.vol c.args.block.number).loose
    ≡ (known (facts_of run c.args.asks.now c.args.blocks.now (take n c.args.rows.now)) c.loop-place.vol c.args.block.number).loose) none was.1)

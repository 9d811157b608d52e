use Rattle.std.proofs.Common.{◌≡◌, ◌-◌, ◌+◌, ◌/◌, ◌≤◌, ◌<◌, ◌||◌, ◌∙◌, ℕ, Bool, true, false, length, take, sym, ap, subst, refl, arith}
use Rattle.lvm_vol.proofs.passed.Num.{or_false}
use Rattle.lvm_vol.specs.declared.entry.Vol.{Vol}
use Rattle.lvm_vol.specs.May.{known}
use Rattle.lvm_allowed.specs.declared.recent.Told.TheVariants.{Fixed, Also}
use Rattle.lvm_allowed.specs.Rows.{facts_of}
use Rattle.lvm_allowed.specs.Seen.{seen_of}
use Rattle.lvm_allowed.specs.Told.{allows}
use Rattle.lvm_chains.specs.Along.{ArePlaces}
use Rattle.lvm_allowed.proofs.SeenLemmas.{tells}
use Rattle.lvm_allowed.proofs.ToldLemmas.{told_back, seen_all, or_again}
use Rattle.lvm_chains.proofs.AlongLemmas.{newer_places, nothing_between, chains_count}
use Rattle.lvm_chains.proofs.along.may_have_along.Goals as goal

pub loop-place-init : goal.loop-place-init
loop-place-init c =
    let size = chains_count c.args.index.now c.args.asks.now c.args.rows.now c.requires.indexed in
    let are = subst (λ (n : ℕ). ArePlaces c.args.index.now c.args.block.vol (c.args.block.number / 256) n c.newest_of-places.result) size c.newest_of-places.ensures in
    let at = newer_places c.args.asks.now c.args.rows.now c.args.block.vol c.args.block.number c.args.index.now c.requires.indexed (length c.args.rows.now) c.newer-place.result c.newest_of-places.result are c.newer-place.ensures in
    record {
      within = at.0;
      places = at.1;
      newer = c.newer-place.ensures;
      told = λ run.
          ap allows (seen_all run c.args.asks.now c.args.blocks.now c.args.rows.now c.args.block.number c.args.value.now c.args.block.vol
          ∙ nothing_between run c.args.asks.now c.args.blocks.now c.args.rows.now c.args.block.vol c.args.block.number c.args.value.now
          c.args.index.now (length c.args.rows.now) c.newer-place.result c.newest_of-places.result c.requires.indexed (omega arith) are c.newer-place.ensures)
          ∙ sym (or_false (allows (seen_of (known (facts_of run c.args.asks.now c.args.blocks.now (take c.newer-place.result c.args.rows.now)) c.args.block.vol c.args.block.number) c.args.value.now)));
    }

pub older-before-requires-clause-among : goal.older-before-requires-clause-among
older-before-requires-clause-among c =
    omega (arith, chains_count c.args.index.now c.args.asks.now c.args.rows.now c.requires.indexed, c.loop-place.invariant.within, c.loop-place-test.true)

pub older-before-requires-clause-places : goal.older-before-requires-clause-places
older-before-requires-clause-places c =
    subst (λ (n : ℕ). ArePlaces c.args.index.now c.loop-place.vol (c.args.block.number / 256) n c.loop-place.places) (let e : c.loop-place.place ≡ c.loop-place.place - 1 + 1 = omega (arith, c.loop-place-test.true) in e) c.loop-place.invariant.places

pub followed-places-requires-clause-among : goal.followed-places-requires-clause-among
followed-places-requires-clause-among c =
    omega (arith, chains_count c.args.index.now c.args.asks.now c.args.rows.now c.requires.indexed, c.loop-place.invariant.within, c.loop-place-test.true)

pub loop-place-preserved : goal.loop-place-preserved
loop-place-preserved c =
    let within = c.loop-place.invariant.within in
    let at = newer_places c.args.asks.now c.args.rows.now c.source_of-source.result c.args.block.number c.args.index.now c.requires.indexed (c.loop-place.place - 1) c.newer-place-in-loop-place.result c.followed-places.result c.followed-places.ensures c.newer-place-in-loop-place.ensures in
    record {
      within = let few = at.0 in omega (arith, few, within);
      places = at.1;
      newer = c.newer-place-in-loop-place.ensures;
      told = λ run.
          c.loop-place.invariant.told run
          ∙ ap (λ (t : Bool). t || c.loop-place.also)
          (told_back run c.args.asks.now c.args.blocks.now c.args.rows.now c.args.block.number c.args.value.now c.loop-place.place _ c.loop-place.vol (Also c.in-Also.allowed) c.loop-place-test.true within (c.in-Also.ensures run))
          ∙ or_again _ c.in-Also.allowed c.loop-place.also c.either-also.result c.either-also.ensures
          ∙ ap (λ (v : Vol). allows (seen_of (known (facts_of run c.args.asks.now c.args.blocks.now (take (c.loop-place.place - 1) c.args.rows.now)) v c.args.block.number) c.args.value.now) || c.either-also.result) (sym c.source_of-source.ensures)
          ∙ ap (λ (t : Bool). t || c.either-also.result)
          (ap allows (nothing_between run c.args.asks.now c.args.blocks.now c.args.rows.now c.source_of-source.result c.args.block.number c.args.value.now
          c.args.index.now (c.loop-place.place - 1) c.newer-place-in-loop-place.result c.followed-places.result c.requires.indexed (omega (arith, within)) c.followed-places.ensures c.newer-place-in-loop-place.ensures));
    }

pub loop-place-smaller : goal.loop-place-smaller
loop-place-smaller c =
    let at = newer_places c.args.asks.now c.args.rows.now c.source_of-source.result c.args.block.number c.args.index.now c.requires.indexed (c.loop-place.place - 1) c.newer-place-in-loop-place.result c.followed-places.result c.followed-places.ensures c.newer-place-in-loop-place.ensures in
    let few = at.0 in omega (arith, few, c.loop-place-test.true)

pub returns-in-Fixed : goal.returns-in-Fixed
returns-in-Fixed c = λ run.
    let told = told_back run c.args.asks.now c.args.blocks.now c.args.rows.now c.args.block.number c.args.value.now c.loop-place.place _ c.loop-place.vol (Fixed c.in-Fixed.allowed) c.loop-place-test.true c.loop-place.invariant.within (c.in-Fixed.ensures run) in
    tells (known (facts_of run c.args.asks.now c.args.blocks.now c.args.rows.now) c.args.block.vol c.args.block.number) c.args.value.now _ c.either.result refl
    (c.either.ensures ∙ ap (λ (t : Bool). t || c.loop-place.also) (sym told) ∙ sym (c.loop-place.invariant.told run))

pub returns : goal.returns
returns c = λ run.
    let none : c.loop-place.place ≡ 0 = omega (arith, c.loop-place-test.false) in
    let at_start = subst (λ (n : ℕ). allows (seen_of (known (facts_of run c.args.asks.now c.args.blocks.now c.args.rows.now) c.args.block.vol c.args.block.number) c.args.value.now)
    ≡ (allows (seen_of (known (facts_of run c.args.asks.now c.args.blocks.now (take n c.args.rows.now)) c.loop-place.vol c.args.block.number) c.args.value.now) || c.loop-place.also)) none (c.loop-place.invariant.told run) in
    tells (known (facts_of run c.args.asks.now c.args.blocks.now c.args.rows.now) c.args.block.vol c.args.block.number) c.args.value.now _ true refl (sym at_start)

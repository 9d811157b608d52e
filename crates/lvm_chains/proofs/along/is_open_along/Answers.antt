use Rattle.std.proofs.Common.{◌≡◌, ◌-◌, ◌/◌, ◌≤◌, ◌<◌, ℕ, arith}
use Rattle.lvm_chains.proofs.AlongLemmas.{quiet_between, newer_places}
use Rattle.lvm_chains.proofs.OpenLemmas.{searched_start, searched_quiet, searched_row, found_open, none_before, none_at_all}
use Rattle.lvm_chains.proofs.along.is_open_along.Goals as goal

pub loop-place-init : goal.loop-place-init
loop-place-init c =
    let start = searched_start c.args.sought c.args.asks.now c.args.blocks.now c.args.block.vol c.args.block.number c.args.value.now c.args.rows.now c.args.among c.requires.among in
    let at = newer_places c.args.asks.now c.args.rows.now c.args.block.vol c.args.block.number c.args.index.now c.requires.indexed c.args.among c.newer-place.result c.args.places c.requires.places c.newer-place.ensures in
    record {
      searched = searched_quiet c.args.sought c.args.asks.now c.args.blocks.now c.args.block.vol c.args.block.number c.args.value.now c.args.rows.now c.args.among c.requires.among
          c.args.among c.newer-place.result c.requires.indexed.groups start at.0
          (quiet_between c.args.asks.now c.args.rows.now c.args.block.vol c.args.block.number c.args.index.now c.requires.indexed c.args.among c.newer-place.result c.args.places c.requires.among c.requires.places c.newer-place.ensures);
      places = at.1;
    }

pub loop-place-preserved : goal.loop-place-preserved
loop-place-preserved c =
    let high = c.loop-place.invariant.searched.within in
    let row = searched_row c.args.sought c.args.asks.now c.args.blocks.now c.args.block.vol c.args.block.number c.args.value.now c.args.rows.now c.args.among c.requires.among
    c.args.index.now c.requires.indexed c.requires.in_turn c.loop-place.place (c.loop-place.place - 1) _ c.opens_unlanded.result c.closes.result (omega (arith, c.loop-place-test.true))
    c.loop-place.invariant.searched c.opens_unlanded.ensures c.if-opens_unlanded.false c.closes.ensures c.if-closes.false in
    let at = newer_places c.args.asks.now c.args.rows.now c.args.block.vol c.args.block.number c.args.index.now c.requires.indexed (c.loop-place.place - 1) c.newer-place-in-loop-place.result c.older-at.result c.older-at.ensures c.newer-place-in-loop-place.ensures in
    record {
      searched = searched_quiet c.args.sought c.args.asks.now c.args.blocks.now c.args.block.vol c.args.block.number c.args.value.now c.args.rows.now c.args.among c.requires.among
          (c.loop-place.place - 1) c.newer-place-in-loop-place.result c.requires.indexed.groups row at.0
          (quiet_between c.args.asks.now c.args.rows.now c.args.block.vol c.args.block.number c.args.index.now c.requires.indexed (c.loop-place.place - 1) c.newer-place-in-loop-place.result c.older-at.result (omega (arith, high, c.requires.among)) c.older-at.ensures c.newer-place-in-loop-place.ensures);
      places = at.1;
    }

pub loop-place-smaller : goal.loop-place-smaller
loop-place-smaller c =
    let at = newer_places c.args.asks.now c.args.rows.now c.args.block.vol c.args.block.number c.args.index.now c.requires.indexed (c.loop-place.place - 1) c.newer-place-in-loop-place.result c.older-at.result c.older-at.ensures c.newer-place-in-loop-place.ensures in
    let few = at.0 in omega (arith, few, c.loop-place-test.true)

pub returns-then-opens_unlanded : goal.returns-then-opens_unlanded
returns-then-opens_unlanded c =
    found_open c.args.sought c.args.asks.now c.args.blocks.now c.args.block.vol c.args.block.number c.args.value.now c.args.rows.now c.args.among c.requires.among
    c.args.index.now c.requires.indexed c.requires.in_turn c.loop-place.place (c.loop-place.place - 1) _ c.opens_unlanded.result (omega (arith, c.loop-place-test.true))
    c.loop-place.invariant.searched c.opens_unlanded.ensures c.if-opens_unlanded.true

pub returns-then-closes : goal.returns-then-closes
returns-then-closes c =
    none_before c.args.sought c.args.asks.now c.args.blocks.now c.args.block.vol c.args.block.number c.args.value.now c.args.rows.now c.args.among c.requires.among
    c.loop-place.place (c.loop-place.place - 1) _ c.closes.result (omega (arith, c.loop-place-test.true))
    c.loop-place.invariant.searched c.closes.ensures c.if-closes.true

pub returns : goal.returns
returns c =
    none_at_all c.args.sought c.args.asks.now c.args.blocks.now c.args.block.vol c.args.block.number c.args.value.now c.args.rows.now c.args.among c.requires.among
    c.loop-place.place (omega (arith, c.loop-place-test.false)) c.loop-place.invariant.searched

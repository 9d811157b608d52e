use Rattle.std.proofs.Common.{◌≡◌, ◌+◌, List, drop, ap, ◌∙◌}
use Rattle.std.proofs.lemmas.List.{take_rest}
use Rattle.lvm_vol.specs.passed.NumDescriptorMode.{Active}
use Rattle.lvm_allowed.specs.declared.row.Row.{Row}
use Rattle.lvm_allowed.specs.declared.row.Row.TheVariants.{Making}
use Rattle.lvm_allowed.specs.Seen.{origin_of}
use Rattle.lvm_allowed.proofs.SeenLemmas.{seen_more, followed_from, looked_through}
use Rattle.lvm_allowed.proofs.values.seen_after.Goals as goal

pub loop-k-preserved : goal.loop-k-preserved
loop-k-preserved c =
    let there : c.followed-here.result ≡ origin_of (drop (c.loop-k.k + 1) c.args.rows.now) c.args.block.vol =
    c.followed-here.ensures ∙ ap (λ (l : List Row). origin_of l c.args.block.vol) (take_rest c.args.rows.now (c.loop-k.k + 1)) in
    record {
      followed = there;
      seen = λ run. c.after_row-seen.ensures
          ∙ seen_more run c.args.asks.now c.args.blocks.now c.args.rows.now c.loop-k.k (Making 0 0 Active) c.loop-k.here c.followed-here.result c.args.block.number c.args.value.now c.loop-k.seen c.loop-k-test.true
          (followed_from c.args.rows.now c.loop-k.k (Making 0 0 Active) c.loop-k.here c.followed-here.result c.args.block.vol c.loop-k-test.true c.loop-k.invariant.followed there)
          (c.loop-k.invariant.seen run);
    }

pub returns : goal.returns
returns c = λ run. looked_through run c.args.asks.now c.args.blocks.now c.args.rows.now c.loop-k.k c.loop-k.here c.args.block.vol c.args.block.number c.args.value.now c.loop-k.seen c.loop-k-test.false c.loop-k.invariant.followed (c.loop-k.invariant.seen run)

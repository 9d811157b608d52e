use Rattle.std.proofs.Common.{◌∙◌, ◌++◌, ℕ, List, ap, sym, arith}
use Rattle.std.proofs.lemmas.List.{append-nil}
use Rattle.lvm_mwc.specs.declared.entries.CacheEntry.{CacheEntry}
use Rattle.lvm_mwc.specs.declared.filled.Key.{Key}
use Rattle.lvm_mwc.specs.Filled.{listed}
use Rattle.lvm_mwc.specs.Laid.{laid}
use Rattle.lvm_mwc.proofs.LaidLemmas.{all_there, listed_few, listed_kept, listed_left}
use Rattle.lvm_mwc.proofs.filled.Filled.list.Goals as goal

pub loop-key-init : goal.loop-key-init
loop-key-init c =
    ap (λ (l : List CacheEntry). l ++ listed (laid c.into_iter-key-iterator.result)) c.new-list.ensures
    ∙ ap (λ (es : List (Key × ℕ)). listed (laid es)) (c.into_iter-key-iterator.ensures.into_iter_gives ∙ c.iter-key-items.ensures.rest) ∙ ap listed c.self.view_is

pub push-requires : goal.push-requires
push-requires c = (
  omega arith,
  listed_few c.loop-key.list.items (c.in-Some.key.now, c.in-Some.pins.now) c.loop-key.key-iterator c.next.new.self c.args.self.now c.if-key-ne0.true c.in-Some.ensures.steps c.loop-key.invariant
      (all_there c.self.inside.keys.entries c.args.self.now c.self.view_is c.self.invariant),
)

pub loop-key-preserved-then-key-ne0 : goal.loop-key-preserved-then-key-ne0
loop-key-preserved-then-key-ne0 c =
    rw c.push.ensures.items (listed_kept c.loop-key.list.items (c.in-Some.key.now, c.in-Some.pins.now) c.loop-key.key-iterator c.next.new.self _ c.if-key-ne0.true c.in-Some.ensures.steps c.loop-key.invariant)

pub loop-key-preserved : goal.loop-key-preserved
loop-key-preserved c = listed_left c.loop-key.list.items (c.in-Some.key.now, c.in-Some.pins.now) c.loop-key.key-iterator c.next.new.self _ c.if-key-ne0.false c.in-Some.ensures.steps c.loop-key.invariant

pub returns : goal.returns
returns c = sym (append-nil c.loop-key.list.items) ∙ ap (λ (es : List (Key × ℕ)). c.loop-key.list.items ++ listed (laid es)) (sym c.in-None.ensures.steps.0) ∙ c.loop-key.invariant

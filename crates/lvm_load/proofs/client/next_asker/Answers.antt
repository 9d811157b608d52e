use Rattle.std.proofs.Common.{refl, sym, ◌∙◌, arith}
use Rattle.lvm_load.proofs.WaitingLemmas.Others.{not_its, others_on}
use Rattle.lvm_load.proofs.RequestsLemmas.{open_there}
use Rattle.lvm_load.proofs.client.next_asker.Goals as goal

pub loop-k-init : goal.loop-k-init
loop-k-init c = record { low = omega arith; high = c.requires.from; others = λ j low high has. omega (arith, low, high) }

pub loop-k-preserved : goal.loop-k-preserved
loop-k-preserved c = record {
  low = let low = c.loop-k.invariant.low in omega (arith, low);
  high = let test = c.loop-k-test.true in omega (arith, test);
  others = others_on c.args.clients.now c.args.from c.loop-k.k c.args.id c.loop-k.invariant.others
      (λ is. not_its _ c.args.id (sym c.has_asked.ensures ∙ c.if-not-has_asked.true) (sym (open_there c.args.clients.now c.loop-k.k _ c.loop-k-test.true refl) ∙ is));
}

pub returns-else-not-has_asked-clause-others : goal.returns-else-not-has_asked-clause-others
returns-else-not-has_asked-clause-others c = c.loop-k.invariant.others

pub returns-after-loop-k-clause-others : goal.returns-after-loop-k-clause-others
returns-after-loop-k-clause-others c = c.loop-k.invariant.others

use Rattle.std.proofs.Common.{◌∙◌}
use Rattle.lvm_io.proofs.StreamLemmas.Texts.{text_goes_on}
use Rattle.lvm_io.proofs.lines.write_all.Goals as goal

pub loop-rest-preserved : goal.loop-rest-preserved
loop-rest-preserved g c = (
  text_goes_on (g.O.Sink.held c.args.out.now) (g.O.Sink.held c.loop-rest.out) (g.O.Sink.held c.write.new.self) c.args.text.now c.loop-rest.rest.now c.split_at.result.1.now
      (g.O.Sink.faults c.args.out.now) (g.O.Sink.faults c.loop-rest.out) (g.O.Sink.faults c.write.new.self) c.in-Took.count c.loop-rest.invariant.0 c.in-Took.ensures.bytes.2 c.split_at.ensures.back (c.in-Took.ensures.well (λ is. (cc (is)))),
  (c.write.ensures.image.0 ∙ c.loop-rest.invariant.1.0, c.write.ensures.image.1 ∙ c.loop-rest.invariant.1.1),
)

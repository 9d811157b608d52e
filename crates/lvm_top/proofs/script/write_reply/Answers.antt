use Rattle.std.proofs.Common.{◌∙◌, sym, arith}
use Rattle.lvm_line.specs.passed.GroupLines.{reply_text}
use Rattle.lvm_top.specs.Script.{passage}
use Rattle.lvm_top.proofs.TurnLemmas.{wrote, took_all, failed, stops_stuck, goes_only, ends_for}
use Rattle.lvm_top.proofs.ScriptLemmas.Scripting.{said_few}
use Rattle.lvm_top.proofs.script.write_reply.Goals as goal

pub returns : goal.returns
returns g c =
    let stop = c.stop_after-stop.ensures in
    let fails = sym c.is_err.ensures.value in
    record {
      said = c.say-said.result.0;
      says = c.say-said.ensures.says;
      counted = c.with_refusals-refused.ensures;
      text = wrote c.say-said.result.1 (reply_text c.say-said.result.0) (g.O.Sink.held c.args.out.now) (g.O.Sink.held c.say-said.new.out) (g.O.Sink.faults c.args.out.now) (g.O.Sink.faults c.say-said.new.out) c.say-said.ensures.whole c.say-said.ensures.front c.say-said.ensures.cause;
      stuck = stops_stuck c.is_stuck-stuck.result c.is_err.result c.stop_after-stop.result _ c.is_stuck-stuck.ensures stop;
      goes_on = λ none.
          let well = fails ∙ goes_only c.is_stuck-stuck.result c.is_err.result c.stop_after-stop.result stop none in
          record { whole = took_all c.say-said.result.1 _ well c.say-said.ensures.whole; well = took_all c.say-said.result.1 _ well c.say-said.ensures.well };
      ends = ends_for c.is_stuck-stuck.result c.is_err.result c.stop_after-stop.result (passage g.O.Sink.held g.O.Sink.faults c.args.out.now c.say-said.new.out) stop (λ is. failed c.say-said.result.1 _ (fails ∙ is) c.say-said.ensures.cause);
    }

pub with_refusals-refused-requires : goal.with_refusals-refused-requires
with_refusals-refused-requires g c = let most = said_few c.args.answer c.say-said.result.0 c.say-said.ensures.says in let fits = c.requires in omega (arith, most, fits)

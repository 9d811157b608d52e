use Rattle.std.proofs.Common.{◌∙◌}
use Rattle.lvm_program.proofs.WovenLemmas.Woven.{told_all, told_first, told_none, told_some}
use Rattle.lvm_program.proofs.workload.tell_woven.Goals as goal

pub returns-in_default : goal.returns-in_default
returns-in_default g c =
    told_none c.args.woven.now c.args.requests c.status_woven.result (g.O.Sink.held c.args.out.now) (g.O.Sink.faults c.args.out.now) c.as_bytes.result.now (g.O.Sink.held c.write_all.new.out) (g.O.Sink.faults c.write_all.new.out)
    c.status_woven.ensures (c.as_bytes.ensures.value ∙ c.refusal_text.ensures) c.in_default.ensures.front c.in_default.ensures.cause

pub returns-in_default-totals_text : goal.returns-in_default-totals_text
returns-in_default-totals_text g c =
    told_first c.args.woven.now c.args.requests c.status_woven-in_default-totals_text.result (g.O.Sink.held c.args.out.now) (g.O.Sink.faults c.args.out.now) c.as_bytes.result.now (g.O.Sink.held c.write_all.new.out) (g.O.Sink.faults c.write_all.new.out)
    (c.as_bytes.ensures.value ∙ c.refusal_text.ensures) c.in-Ok.ensures.whole c.in-Ok.ensures.well c.status_woven-in_default-totals_text.ensures

pub returns-in-Ok-write_all : goal.returns-in-Ok-write_all
returns-in-Ok-write_all g c =
    told_all c.args.woven.now c.args.requests c.status_woven-in-Ok-write_all.result (g.O.Sink.held c.args.out.now) (g.O.Sink.faults c.args.out.now) c.as_bytes.result.now (g.O.Sink.held c.write_all.new.out) (g.O.Sink.faults c.write_all.new.out)
    (c.as_bytes.ensures.value ∙ c.refusal_text.ensures) c.in-Ok.ensures.whole c.in-Ok.ensures.well c.as_bytes-2.result.now (c.as_bytes-2.ensures.value ∙ c.in-Ok-totals_text.ensures)
    (g.O.Sink.held c.write_all-2.new.out) (g.O.Sink.faults c.write_all-2.new.out) c.status_woven-in-Ok-write_all.ensures c.in-Ok-write_all.ensures.whole c.in-Ok-write_all.ensures.well

pub returns : goal.returns
returns g c =
    told_some c.args.woven.now c.args.requests c.status_woven-in-Err.result (g.O.Sink.held c.args.out.now) (g.O.Sink.faults c.args.out.now) c.as_bytes.result.now (g.O.Sink.held c.write_all.new.out) (g.O.Sink.faults c.write_all.new.out)
    (c.as_bytes.ensures.value ∙ c.refusal_text.ensures) c.in-Ok.ensures.whole c.in-Ok.ensures.well c.as_bytes-2.result.now (c.as_bytes-2.ensures.value ∙ c.in-Ok-totals_text.ensures)
    (g.O.Sink.held c.write_all-2.new.out) (g.O.Sink.faults c.write_all-2.new.out) c.status_woven-in-Err.ensures c.in-Err.ensures.front c.in-Err.ensures.cause

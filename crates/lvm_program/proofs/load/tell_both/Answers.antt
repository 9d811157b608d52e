use Rattle.std.proofs.Common.{◌+◌, ap}
use Rattle.lvm_program.proofs.LoadedLemmas.Telling.{failed_first, told_both}
use Rattle.lvm_program.proofs.load.tell_both.Goals as goal

pub returns-then-is_some : goal.returns-then-is_some
returns-then-is_some g c =
    failed_first c.args.why c.args.woven.now c.args.requests c.write_reply-refused.result.1 c.write_reply-refused.result.0 (record { before = record { content = g.O.Sink.held c.args.out.now; faults = g.O.Sink.faults c.args.out.now }; after = record { content = g.O.Sink.held c.write_reply-refused.new.out; faults = g.O.Sink.faults c.write_reply-refused.new.out } })
    c.write_reply-refused.ensures c.is_some.result c.is_some.ensures c.if-is_some.true c.status_of.result c.status_of.ensures

pub returns : goal.returns
returns g c =
    told_both c.args.why c.args.woven.now c.args.requests c.write_reply-refused.result.1 (record { content = g.O.Sink.held c.args.out.now; faults = g.O.Sink.faults c.args.out.now })
    (record { content = g.O.Sink.held c.write_reply-refused.new.out; faults = g.O.Sink.faults c.write_reply-refused.new.out }) (record { content = g.O.Sink.held c.tell_woven-status.new.out; faults = g.O.Sink.faults c.tell_woven-status.new.out })
    c.write_reply-refused.result.0 c.write_reply-refused.ensures c.is_some.result c.is_some.ensures c.if-is_some.false c.tell_woven-status.result c.tell_woven-status.ensures c.with_refusal.result c.with_refusal.ensures
    (c.write_reply-refused.result.0 + c.refusals_told.result) (ap (λ n. c.write_reply-refused.result.0 + n) c.refusals_told.ensures)

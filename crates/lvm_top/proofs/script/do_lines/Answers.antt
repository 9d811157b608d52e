use Rattle.std.proofs.Common.{◌∙◌, ℕ, sym, refl, subst, arith}
use Rattle.lvm_io.specs.Reading.{Reading}
use Rattle.lvm_line.specs.Lines.{DoesInPlace}
use Rattle.lvm_line.specs.declared.line.InPlace.{InPlace}
use Rattle.lvm_line.specs.passed.GroupLines.{history_in, state_in, without_facts}
use Rattle.lvm_line.proofs.LinesLemmas.Asking.{line_unasked}
use Rattle.lvm_top.specs.Turn.{ReadsLine, ReadsNone, Tells}
use Rattle.lvm_top.proofs.ScriptLemmas.Scripting.{AskedSoFar, asked_at_start, through, none_read, line_told, line_ends}
use Rattle.lvm_top.proofs.TurnLemmas.{asked_renamed, renamed, stuck_is_off, no_end, ended_not}
use Rattle.lvm_top.proofs.script.do_lines.Goals as goal

pub loop-init : goal.loop-init
loop-init g c = record {
  done = subst (λ (r : Reading). AskedSoFar (without_facts (history_in c.args.stage)) c.args.room (state_in g.S.Shelf.device c.args.stage (g.C.Clock.last c.args.clock.now)) (state_in g.S.Shelf.device c.args.stage (g.C.Clock.last c.args.clock.now)) r (g.I.Source.left c.args.input.now) (g.I.Source.left c.args.input.now) (g.O.Sink.held c.args.out.now) (g.O.Sink.held c.args.out.now) 0 0 (g.C.Clock.asked c.args.clock.now) (g.C.Clock.asked c.args.clock.now)) (sym c.requires.unread)
      (asked_at_start (without_facts (history_in c.args.stage)) c.args.room (state_in g.S.Shelf.device c.args.stage (g.C.Clock.last c.args.clock.now)) (g.I.Source.left c.args.input.now) (g.O.Sink.held c.args.out.now) (g.C.Clock.asked c.args.clock.now) c.requires.none);
  between = c.requires.between;
  fits = c.requires.fits;
  rooms = refl;
  source = refl;
  sink = refl;
}

pub returns-in-Err-clause-goes : goal.returns-in-Err-clause-goes
returns-in-Err-clause-goes g c =
    none_read (without_facts (history_in c.args.stage)) c.args.room (state_in g.S.Shelf.device c.args.stage (g.C.Clock.last c.args.clock.now)) (state_in g.S.Shelf.device c.loop.stage (g.C.Clock.last c.loop.clock)) c.loop.lines (g.I.Source.left c.args.input.now) (g.I.Source.left c.loop.input) (g.O.Sink.held c.args.out.now) (g.O.Sink.held c.loop.out) c.loop.refused c.loop.counter c.loop.invariant.done.far (g.C.Clock.asked c.args.clock.now) (g.C.Clock.asked c.loop.clock) c.loop.invariant.done.count c.in-Err.stop c.read_line.new.lines (g.I.Source.left c.read_line.new.input) (g.I.Source.faults c.args.input.now) (g.I.Source.faults c.read_line.new.input) (g.O.Sink.faults c.args.out.now) (g.O.Sink.faults c.loop.out) c.loop.invariant.sink
    (subst (λ (f : ℕ). ReadsNone c.loop.lines c.read_line.new.lines (through (g.I.Source.left c.loop.input) f (g.I.Source.left c.read_line.new.input) (g.I.Source.faults c.read_line.new.input)) c.in-Err.stop) c.loop.invariant.source c.in-Err.ensures.none)

pub returns-then-is_some-clause-goes : goal.returns-then-is_some-clause-goes
returns-then-is_some-clause-goes g c =
    line_ends (without_facts (history_in c.args.stage)) c.args.room (state_in g.S.Shelf.device c.args.stage (g.C.Clock.last c.args.clock.now)) (state_in g.S.Shelf.device c.loop.stage (g.C.Clock.last c.loop.clock)) c.loop.lines (g.I.Source.left c.args.input.now) (g.I.Source.left c.loop.input) (g.O.Sink.held c.args.out.now) (g.O.Sink.held c.loop.out) c.loop.refused c.loop.counter c.loop.invariant.done.far (g.C.Clock.asked c.args.clock.now) (g.C.Clock.asked c.loop.clock) c.loop.invariant.done.count
    (state_in g.S.Shelf.device c.answer_line.new.stage (g.C.Clock.last c.loop.clock)) c.read_line.new.lines (g.I.Source.left c.read_line.new.input) (g.O.Sink.held c.write_reply-count.new.out) (g.I.Source.faults c.args.input.now) (g.I.Source.faults c.read_line.new.input) (g.O.Sink.faults c.args.out.now) (g.O.Sink.faults c.write_reply-count.new.out) c.write_reply-count.result.0 (g.C.Clock.asked c.loop.clock) c.in-Ok.line c.in-Done.reply c.write_reply-count.result.1
    (sym c.is_some.ensures ∙ c.if-is_some.true) (renamed (without_facts (history_in c.loop.stage)) (without_facts (history_in c.args.stage)) c.args.room c.as_slice-text.result.now c.in-Ok.line c.in-Done.reply (state_in g.S.Shelf.device c.loop.stage (g.C.Clock.last c.loop.clock)) (state_in g.S.Shelf.device c.answer_line.new.stage (g.C.Clock.last c.loop.clock)) c.loop.invariant.rooms c.as_slice-text.ensures ((subst (λ (it : InPlace). DoesInPlace g.S.Shelf.device c.as_slice-text.result.now c.loop.stage c.answer_line.new.stage it) c.in-Done.is c.answer_line.ensures).0 c.args.room (g.C.Clock.last c.loop.clock)).is_line)
    (asked_renamed c.as_slice-text.result.now c.in-Ok.line (g.C.Clock.asked c.loop.clock) (g.C.Clock.asked c.loop.clock) c.as_slice-text.ensures (sym (line_unasked g.S.Shelf.device c.args.room c.as_slice-text.result.now c.loop.stage c.answer_line.new.stage c.in-Done.reply ((subst (λ (it : InPlace). DoesInPlace g.S.Shelf.device c.as_slice-text.result.now c.loop.stage c.answer_line.new.stage it) c.in-Done.is c.answer_line.ensures).0 c.args.room 0) (g.C.Clock.asked c.loop.clock))))
    (subst (λ (f : ℕ). ReadsLine c.loop.lines c.read_line.new.lines (through (g.I.Source.left c.loop.input) f (g.I.Source.left c.read_line.new.input) (g.I.Source.faults c.read_line.new.input)) c.in-Ok.line) c.loop.invariant.source c.in-Ok.ensures.line)
    (subst (λ (h : ℕ). Tells c.in-Done.reply c.loop.refused c.write_reply-count.result.0 (through (g.O.Sink.held c.loop.out) h (g.O.Sink.held c.write_reply-count.new.out) (g.O.Sink.faults c.write_reply-count.new.out)) c.write_reply-count.result.1) c.loop.invariant.sink c.write_reply-count.ensures)

pub loop-preserved-in-Done : goal.loop-preserved-in-Done
loop-preserved-in-Done g c =
    let line = renamed (without_facts (history_in c.loop.stage)) (without_facts (history_in c.args.stage)) c.args.room c.as_slice-text.result.now c.in-Ok.line c.in-Done.reply (state_in g.S.Shelf.device c.loop.stage (g.C.Clock.last c.loop.clock)) (state_in g.S.Shelf.device c.answer_line.new.stage (g.C.Clock.last c.loop.clock)) c.loop.invariant.rooms c.as_slice-text.ensures ((subst (λ (it : InPlace). DoesInPlace g.S.Shelf.device c.as_slice-text.result.now c.loop.stage c.answer_line.new.stage it) c.in-Done.is c.answer_line.ensures).0 c.args.room (g.C.Clock.last c.loop.clock)).is_line in
    record {
      done = line_told (without_facts (history_in c.args.stage)) c.args.room (state_in g.S.Shelf.device c.args.stage (g.C.Clock.last c.args.clock.now)) (state_in g.S.Shelf.device c.loop.stage (g.C.Clock.last c.loop.clock)) c.loop.lines (g.I.Source.left c.args.input.now) (g.I.Source.left c.loop.input) (g.O.Sink.held c.args.out.now) (g.O.Sink.held c.loop.out) c.loop.refused c.loop.counter c.loop.invariant.done.far (g.C.Clock.asked c.args.clock.now) (g.C.Clock.asked c.loop.clock) c.loop.invariant.done.count
          (state_in g.S.Shelf.device c.answer_line.new.stage (g.C.Clock.last c.loop.clock)) c.read_line.new.lines (g.I.Source.left c.read_line.new.input) (g.O.Sink.held c.write_reply-count.new.out) (g.I.Source.faults c.args.input.now) (g.I.Source.faults c.read_line.new.input) (g.O.Sink.faults c.args.out.now) (g.O.Sink.faults c.write_reply-count.new.out) c.write_reply-count.result.0 (g.C.Clock.asked c.loop.clock) c.in-Ok.line c.in-Done.reply c.write_reply-count.result.1
          (sym c.is_some.ensures ∙ c.if-is_some.false) line
          (asked_renamed c.as_slice-text.result.now c.in-Ok.line (g.C.Clock.asked c.loop.clock) (g.C.Clock.asked c.loop.clock) c.as_slice-text.ensures (sym (line_unasked g.S.Shelf.device c.args.room c.as_slice-text.result.now c.loop.stage c.answer_line.new.stage c.in-Done.reply ((subst (λ (it : InPlace). DoesInPlace g.S.Shelf.device c.as_slice-text.result.now c.loop.stage c.answer_line.new.stage it) c.in-Done.is c.answer_line.ensures).0 c.args.room 0) (g.C.Clock.asked c.loop.clock))))
          (subst (λ (f : ℕ). ReadsLine c.loop.lines c.read_line.new.lines (through (g.I.Source.left c.loop.input) f (g.I.Source.left c.read_line.new.input) (g.I.Source.faults c.read_line.new.input)) c.in-Ok.line) c.loop.invariant.source c.in-Ok.ensures.line)
          (subst (λ (h : ℕ). Tells c.in-Done.reply c.loop.refused c.write_reply-count.result.0 (through (g.O.Sink.held c.loop.out) h (g.O.Sink.held c.write_reply-count.new.out) (g.O.Sink.faults c.write_reply-count.new.out)) c.write_reply-count.result.1) c.loop.invariant.sink c.write_reply-count.ensures);
      between = line.goes.between (subst (λ (it : InPlace). DoesInPlace g.S.Shelf.device c.as_slice-text.result.now c.loop.stage c.answer_line.new.stage it) c.in-Done.is c.answer_line.ensures).1;
      fits = ((subst (λ (it : InPlace). DoesInPlace g.S.Shelf.device c.as_slice-text.result.now c.loop.stage c.answer_line.new.stage it) c.in-Done.is c.answer_line.ensures).0 c.args.room (g.C.Clock.last c.loop.clock)).fits;
      rooms = ((subst (λ (it : InPlace). DoesInPlace g.S.Shelf.device c.as_slice-text.result.now c.loop.stage c.answer_line.new.stage it) c.in-Done.is c.answer_line.ensures).0 c.args.room (g.C.Clock.last c.loop.clock)).rooms ∙ c.loop.invariant.rooms;
      source = c.in-Ok.ensures.line.well ∙ c.loop.invariant.source;
      sink = (c.write_reply-count.ensures.goes_on (ended_not c.write_reply-count.result.1 (sym c.is_some.ensures ∙ c.if-is_some.false))).well ∙ c.loop.invariant.sink;
    }

pub returns-then-is_some-2-clause-goes : goal.returns-then-is_some-2-clause-goes
returns-then-is_some-2-clause-goes g c =
    line_ends (without_facts (history_in c.args.stage)) c.args.room (state_in g.S.Shelf.device c.args.stage (g.C.Clock.last c.args.clock.now)) (state_in g.S.Shelf.device c.loop.stage (g.C.Clock.last c.loop.clock)) c.loop.lines (g.I.Source.left c.args.input.now) (g.I.Source.left c.loop.input) (g.O.Sink.held c.args.out.now) (g.O.Sink.held c.loop.out) c.loop.refused c.loop.counter c.loop.invariant.done.far (g.C.Clock.asked c.args.clock.now) (g.C.Clock.asked c.loop.clock) c.loop.invariant.done.count
    (state_in g.S.Shelf.device c.finish_line-answered.result.stage (g.C.Clock.last c.finish_line-answered.new.clock)) c.read_line.new.lines (g.I.Source.left c.read_line.new.input) (g.O.Sink.held c.write_reply-count-in-loop.new.out) (g.I.Source.faults c.args.input.now) (g.I.Source.faults c.read_line.new.input) (g.O.Sink.faults c.args.out.now) (g.O.Sink.faults c.write_reply-count-in-loop.new.out) c.write_reply-count-in-loop.result.0 (g.C.Clock.asked c.finish_line-answered.new.clock) c.in-Ok.line c.finish_line-answered.result.reply c.write_reply-count-in-loop.result.1
    (sym c.is_some-in-loop.ensures ∙ c.if-is_some-2.true) (renamed (without_facts (history_in c.loop.stage)) (without_facts (history_in c.args.stage)) c.args.room c.as_slice-text.result.now c.in-Ok.line c.finish_line-answered.result.reply (state_in g.S.Shelf.device c.loop.stage (g.C.Clock.last c.loop.clock)) (state_in g.S.Shelf.device c.finish_line-answered.result.stage (g.C.Clock.last c.finish_line-answered.new.clock)) c.loop.invariant.rooms c.as_slice-text.ensures (c.finish_line-answered.ensures.line c.loop.stage c.answer_line.ensures).is_line)
    (asked_renamed c.as_slice-text.result.now c.in-Ok.line (g.C.Clock.asked c.finish_line-answered.new.clock) (g.C.Clock.asked c.loop.clock) c.as_slice-text.ensures (c.finish_line-answered.ensures.asked c.loop.stage c.answer_line.ensures))
    (subst (λ (f : ℕ). ReadsLine c.loop.lines c.read_line.new.lines (through (g.I.Source.left c.loop.input) f (g.I.Source.left c.read_line.new.input) (g.I.Source.faults c.read_line.new.input)) c.in-Ok.line) c.loop.invariant.source c.in-Ok.ensures.line)
    (subst (λ (h : ℕ). Tells c.finish_line-answered.result.reply c.loop.refused c.write_reply-count-in-loop.result.0 (through (g.O.Sink.held c.loop.out) h (g.O.Sink.held c.write_reply-count-in-loop.new.out) (g.O.Sink.faults c.write_reply-count-in-loop.new.out)) c.write_reply-count-in-loop.result.1) c.loop.invariant.sink c.write_reply-count-in-loop.ensures)

pub loop-preserved : goal.loop-preserved
loop-preserved g c =
    let line = renamed (without_facts (history_in c.loop.stage)) (without_facts (history_in c.args.stage)) c.args.room c.as_slice-text.result.now c.in-Ok.line c.finish_line-answered.result.reply (state_in g.S.Shelf.device c.loop.stage (g.C.Clock.last c.loop.clock)) (state_in g.S.Shelf.device c.finish_line-answered.result.stage (g.C.Clock.last c.finish_line-answered.new.clock)) c.loop.invariant.rooms c.as_slice-text.ensures (c.finish_line-answered.ensures.line c.loop.stage c.answer_line.ensures).is_line in
    record {
      done = line_told (without_facts (history_in c.args.stage)) c.args.room (state_in g.S.Shelf.device c.args.stage (g.C.Clock.last c.args.clock.now)) (state_in g.S.Shelf.device c.loop.stage (g.C.Clock.last c.loop.clock)) c.loop.lines (g.I.Source.left c.args.input.now) (g.I.Source.left c.loop.input) (g.O.Sink.held c.args.out.now) (g.O.Sink.held c.loop.out) c.loop.refused c.loop.counter c.loop.invariant.done.far (g.C.Clock.asked c.args.clock.now) (g.C.Clock.asked c.loop.clock) c.loop.invariant.done.count
          (state_in g.S.Shelf.device c.finish_line-answered.result.stage (g.C.Clock.last c.finish_line-answered.new.clock)) c.read_line.new.lines (g.I.Source.left c.read_line.new.input) (g.O.Sink.held c.write_reply-count-in-loop.new.out) (g.I.Source.faults c.args.input.now) (g.I.Source.faults c.read_line.new.input) (g.O.Sink.faults c.args.out.now) (g.O.Sink.faults c.write_reply-count-in-loop.new.out) c.write_reply-count-in-loop.result.0 (g.C.Clock.asked c.finish_line-answered.new.clock) c.in-Ok.line c.finish_line-answered.result.reply c.write_reply-count-in-loop.result.1
          (sym c.is_some-in-loop.ensures ∙ c.if-is_some-2.false) line
          (asked_renamed c.as_slice-text.result.now c.in-Ok.line (g.C.Clock.asked c.finish_line-answered.new.clock) (g.C.Clock.asked c.loop.clock) c.as_slice-text.ensures (c.finish_line-answered.ensures.asked c.loop.stage c.answer_line.ensures))
          (subst (λ (f : ℕ). ReadsLine c.loop.lines c.read_line.new.lines (through (g.I.Source.left c.loop.input) f (g.I.Source.left c.read_line.new.input) (g.I.Source.faults c.read_line.new.input)) c.in-Ok.line) c.loop.invariant.source c.in-Ok.ensures.line)
          (subst (λ (h : ℕ). Tells c.finish_line-answered.result.reply c.loop.refused c.write_reply-count-in-loop.result.0 (through (g.O.Sink.held c.loop.out) h (g.O.Sink.held c.write_reply-count-in-loop.new.out) (g.O.Sink.faults c.write_reply-count-in-loop.new.out)) c.write_reply-count-in-loop.result.1) c.loop.invariant.sink c.write_reply-count-in-loop.ensures);
      fits = (c.finish_line-answered.ensures.line c.loop.stage c.answer_line.ensures).fits;
      between = line.goes.between (λ is. no_end c.write_reply-count-in-loop.result.1 (sym c.is_some-in-loop.ensures ∙ c.if-is_some-2.false) (c.write_reply-count-in-loop.ensures.stuck.1 is));
      rooms = (c.finish_line-answered.ensures.line c.loop.stage c.answer_line.ensures).rooms ∙ c.loop.invariant.rooms;
      source = c.in-Ok.ensures.line.well ∙ c.loop.invariant.source;
      sink = (c.write_reply-count-in-loop.ensures.goes_on (ended_not c.write_reply-count-in-loop.result.1 (sym c.is_some-in-loop.ensures ∙ c.if-is_some-2.false))).well ∙ c.loop.invariant.sink;
    }

pub returns-then-is_some-clause-off : goal.returns-then-is_some-clause-off
returns-then-is_some-clause-off g c is = absurd ((subst (λ (it : InPlace). DoesInPlace g.S.Shelf.device c.as_slice-text.result.now c.loop.stage c.answer_line.new.stage it) c.in-Done.is c.answer_line.ensures).1 (c.write_reply-count.ensures.stuck.0 is))

pub returns-then-is_some-clause-between : goal.returns-then-is_some-clause-between
returns-then-is_some-clause-between g c goes = let done = (subst (λ (it : InPlace). DoesInPlace g.S.Shelf.device c.as_slice-text.result.now c.loop.stage c.answer_line.new.stage it) c.in-Done.is c.answer_line.ensures) in (done.0 c.args.room (g.C.Clock.last c.loop.clock)).is_line.goes.between done.1

pub returns-then-is_some-clause-fits : goal.returns-then-is_some-clause-fits
returns-then-is_some-clause-fits g c = ((subst (λ (it : InPlace). DoesInPlace g.S.Shelf.device c.as_slice-text.result.now c.loop.stage c.answer_line.new.stage it) c.in-Done.is c.answer_line.ensures).0 c.args.room (g.C.Clock.last c.loop.clock)).fits

pub returns-then-is_some-clause-rooms : goal.returns-then-is_some-clause-rooms
returns-then-is_some-clause-rooms g c = ((subst (λ (it : InPlace). DoesInPlace g.S.Shelf.device c.as_slice-text.result.now c.loop.stage c.answer_line.new.stage it) c.in-Done.is c.answer_line.ensures).0 c.args.room (g.C.Clock.last c.loop.clock)).rooms ∙ c.loop.invariant.rooms

pub returns-then-is_some-2-clause-off : goal.returns-then-is_some-2-clause-off
returns-then-is_some-2-clause-off g c is =
    stuck_is_off (without_facts (history_in c.loop.stage)) c.args.room c.as_slice-text.result.now (state_in g.S.Shelf.device c.loop.stage (g.C.Clock.last c.loop.clock)) (state_in g.S.Shelf.device c.finish_line-answered.result.stage (g.C.Clock.last c.finish_line-answered.new.clock)) c.finish_line-answered.result.reply (c.finish_line-answered.ensures.line c.loop.stage c.answer_line.ensures).is_line (c.write_reply-count-in-loop.ensures.stuck.0 is)

pub returns-then-is_some-2-clause-between : goal.returns-then-is_some-2-clause-between
returns-then-is_some-2-clause-between g c goes = (c.finish_line-answered.ensures.line c.loop.stage c.answer_line.ensures).is_line.goes.between (λ is. goes (c.write_reply-count-in-loop.ensures.stuck.1 is))

pub write_reply-count-requires : goal.write_reply-count-requires
write_reply-count-requires g c =
    let line = ((subst (λ (it : InPlace). DoesInPlace g.S.Shelf.device c.as_slice-text.result.now c.loop.stage c.answer_line.new.stage it) c.in-Done.is c.answer_line.ensures).0 c.args.room (g.C.Clock.last c.loop.clock)).is_line in
    let one = line.goes.few in
    let few = c.loop.invariant.done.far.few in
    let bounded = c.loop.invariant.done.far.bounded in
    omega (arith, one, few, bounded)

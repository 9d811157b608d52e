use Rattle.std.proofs.Common.{◌≡◌, ◌≤◌, ◌∙◌, ap, refl, sym, subst, arith, None, Some, Ok, Option}
use Rattle.lvm_parse.specs.declared.command.Command.{Command}
use Rattle.lvm_parse.specs.Reading.{misfit}
use Rattle.lvm_volume_lines.specs.passed.GroupLines.{most_refusals, shelf_in, history_in, state_in, without_facts, Reply, Stage}
use Rattle.lvm_volume_lines.specs.passed.RefusalVariants as refusal
use Rattle.lvm_volume_lines.specs.passed.ReplyVariants as reply
use Rattle.lvm_volume_lines.proofs.passed.GroupLines.{one_refused, asked_stays}
use Rattle.lvm_parse.proofs.WithinLemmas.{line_is_within}
use Rattle.lvm_line.proofs.LinesLemmas.Lining.{line_read, line_still, line_unread, reducevg_unread, asked_never, asked_once, asked_so, stage_named}
use Rattle.lvm_line.proofs.line.do_line.Goals as goal

pub do_command-requires-clause-within : goal.do_command-requires-clause-within
do_command-requires-clause-within g c = line_is_within c.args.line.now c.in-Ok-Some.command (c.in-Ok-Some.ensures.read ∙ ap (λ (o : Option Command). Ok o) c.in-Ok-Some.field-0-is)

pub returns-in-Ok-None-clause-line : goal.returns-in-Ok-None-clause-line
returns-in-Ok-None-clause-line g c =
    line_still (without_facts (history_in c.args.stage)) c.args.room c.args.line.now (Ok None) c.answered.result.reply _ _ (c.in-Ok-None.ensures.read ∙ ap (λ (o : Option Command). Ok o) c.in-Ok-None.field-0-is)
    (c.answered.ensures.reply, ap (λ (s : Stage g.row.S.Denot). state_in g.S.Shelf.device s (g.C.Clock.last c.args.clock.now)) c.answered.ensures.stage) (subst (λ (r : Reply). most_refusals r ≤ 1) (sym c.answered.ensures.reply) (omega arith))
    (ap (λ (s : Stage g.row.S.Denot). state_in g.S.Shelf.device s (g.C.Clock.last c.args.clock.now)) c.answered.ensures.stage) (record { whole = g.met.S.Shelf.sectors_are_whole (shelf_in c.args.stage); between = c.requires.between; named = stage_named c.args.stage })

pub returns-in-Ok-Some-clause-line : goal.returns-in-Ok-Some-clause-line
returns-in-Ok-Some-clause-line g c =
    line_read (without_facts (history_in c.args.stage)) c.args.room c.args.line.now (Ok (Some c.in-Ok-Some.command)) c.do_command.result.reply _ _ (c.in-Ok-Some.ensures.read ∙ ap (λ (o : Option Command). Ok o) c.in-Ok-Some.field-0-is)
    c.do_command.ensures.ends.does c.do_command.ensures.ends.goes c.do_command.ensures.ends.orders (record { whole = g.met.S.Shelf.sectors_are_whole (shelf_in c.args.stage); between = c.requires.between; named = stage_named c.args.stage })

pub returns-in-Err-BadLine-clause-line : goal.returns-in-Err-BadLine-clause-line
returns-in-Err-BadLine-clause-line g c =
    let says : c.refused.result.reply ≡ reply.Refused (refusal.BadLine c.in-Err-BadLine.column) = cc in
    line_still (without_facts (history_in c.args.stage)) c.args.room c.args.line.now (misfit c.in-Err-BadLine.column) c.refused.result.reply _ _ ((c.parse.ensures.bad_line c.in-Err-BadLine.column).0 (cc))
    (says, ap (λ (s : Stage g.row.S.Denot). state_in g.S.Shelf.device s (g.C.Clock.last c.args.clock.now)) c.refused.ensures.stage) (one_refused c.refused.result.reply (refusal.BadLine c.in-Err-BadLine.column) says)
    (ap (λ (s : Stage g.row.S.Denot). state_in g.S.Shelf.device s (g.C.Clock.last c.args.clock.now)) c.refused.ensures.stage) (record { whole = g.met.S.Shelf.sectors_are_whole (shelf_in c.args.stage); between = c.requires.between; named = stage_named c.args.stage })

pub returns-in-Err-MkvgMemory-clause-line : goal.returns-in-Err-MkvgMemory-clause-line
returns-in-Err-MkvgMemory-clause-line g c =
    line_unread (without_facts (history_in c.args.stage)) c.args.room c.args.line.now c.refuse_unread.result.reply _ _ (c.parse.ensures.mkvg_memory (cc)) c.refuse_unread.ensures.on c.refuse_unread.ensures.off
    (asked_stays g.S.Shelf.device c.args.stage c.refuse_unread.result.stage (g.C.Clock.last c.args.clock.now) (g.C.Clock.last c.now.new.self) c.now.result c.now.ensures.later c.now.ensures.last c.refuse_unread.ensures.stage)
    (record { whole = g.met.S.Shelf.sectors_are_whole (shelf_in c.args.stage); between = c.requires.between; named = stage_named c.args.stage })

pub returns-in-Err-ReducevgMemory-clause-line : goal.returns-in-Err-ReducevgMemory-clause-line
returns-in-Err-ReducevgMemory-clause-line g c =
    reducevg_unread (without_facts (history_in c.args.stage)) c.args.room c.args.line.now c.refuse_unread-in-Err-ReducevgMemory.result.reply _ _ (c.parse.ensures.reducevg_memory (cc)) c.refuse_unread-in-Err-ReducevgMemory.ensures.on c.refuse_unread-in-Err-ReducevgMemory.ensures.off
    (ap (λ (s : Stage g.row.S.Denot). state_in g.S.Shelf.device s (g.C.Clock.last c.args.clock.now)) c.refuse_unread-in-Err-ReducevgMemory.ensures.stage)
    (record { whole = g.met.S.Shelf.sectors_are_whole (shelf_in c.args.stage); between = c.requires.between; named = stage_named c.args.stage })

pub returns-in-Ok-None-clause-asked : goal.returns-in-Ok-None-clause-asked
returns-in-Ok-None-clause-asked g c = asked_so _ (Ok None) (g.C.Clock.asked c.args.clock.now) (g.C.Clock.asked c.args.clock.now) (c.in-Ok-None.ensures.read ∙ ap (λ (o : Option Command). Ok o) c.in-Ok-None.field-0-is) refl

pub returns-in-Ok-Some-clause-asked : goal.returns-in-Ok-Some-clause-asked
returns-in-Ok-Some-clause-asked g c = asked_so _ (Ok (Some c.in-Ok-Some.command)) (g.C.Clock.asked c.args.clock.now) (g.C.Clock.asked c.do_command.new.clock) (c.in-Ok-Some.ensures.read ∙ ap (λ (o : Option Command). Ok o) c.in-Ok-Some.field-0-is) c.do_command.ensures.asked

pub returns-in-Err-BadLine-clause-asked : goal.returns-in-Err-BadLine-clause-asked
returns-in-Err-BadLine-clause-asked g c = asked_so _ (misfit c.in-Err-BadLine.column) (g.C.Clock.asked c.args.clock.now) (g.C.Clock.asked c.args.clock.now) ((c.parse.ensures.bad_line c.in-Err-BadLine.column).0 (cc)) refl

pub returns-in-Err-MkvgMemory-clause-asked : goal.returns-in-Err-MkvgMemory-clause-asked
returns-in-Err-MkvgMemory-clause-asked g c = asked_once _ (g.C.Clock.asked c.args.clock.now) (g.C.Clock.asked c.now.new.self) (c.parse.ensures.mkvg_memory (cc)) c.now.ensures.asked

pub returns-in-Err-ReducevgMemory-clause-asked : goal.returns-in-Err-ReducevgMemory-clause-asked
returns-in-Err-ReducevgMemory-clause-asked g c = asked_never _ (g.C.Clock.asked c.args.clock.now) (c.parse.ensures.reducevg_memory (cc))

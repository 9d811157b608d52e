use Rattle.std.proofs.Common.{inl, inr, refl, sym, ◌∙◌, ap, subst}
use Rattle.lvm_parse.specs.Grammar.{line_of}
use Rattle.lvm_top.specs.passed.Lines.{IsLine, asked_after}
use Rattle.lvm_top.specs.passed.GroupLines.{IsStuck, Reply, history_in, state_in, without_facts}
use Rattle.lvm_top.specs.passed.ReplyVariants as reply
use Rattle.lvm_program.specs.Woven.{HasGroup, NoGroup}
use Rattle.lvm_top.proofs.TurnLemmas.{renamed}
use Rattle.lvm_program.proofs.workload.make_volume.Goals as goal

pub do_line-made-requires-in-Ok-clause-between : goal.do_line-made-requires-in-Ok-clause-between
do_line-made-requires-in-Ok-clause-between g c = c.do_line-made.ensures.line.goes.between (λ stuck. let e : IsStuck reply.Ok = sym c.in-Ok.is ∙ stuck in cc e)

pub returns-in-Ok-clause-made : goal.returns-in-Ok-clause-made
returns-in-Ok-clause-made g c =
    let device = g.S.Shelf.device in
    let log = without_facts (history_in c.args.stage) in
    let first = state_in device c.args.stage (g.C.Clock.last c.args.clock.now) in
    let mid = state_in device c.do_line-made.result.stage (g.C.Clock.last c.do_line-made.new.clock) in
    let last = state_in device c.do_line-made-in-Ok.result.stage (g.C.Clock.last c.do_line-made-in-Ok.new.clock) in
    HasGroup mid (subst (λ (a : Reply). IsLine log c.args.room c.args.group.now a first mid) c.in-Ok.is c.do_line-made.ensures.line)
    (renamed (without_facts (history_in c.do_line-made.result.stage)) log c.args.room c.args.volume.now c.args.volume.now c.do_line-made-in-Ok.result.reply mid last c.do_line-made.ensures.rooms refl c.do_line-made-in-Ok.ensures.line)

pub returns-in_default-clause-made : goal.returns-in_default-clause-made
returns-in_default-clause-made g c = NoGroup c.in_default.not-Ok c.do_line-made.ensures.line

pub returns-in-Ok-clause-asked : goal.returns-in-Ok-clause-asked
returns-in-Ok-clause-asked g c = inr (c.do_line-made-in-Ok.ensures.asked ∙ ap (asked_after (line_of c.args.volume.now)) c.do_line-made.ensures.asked)

pub returns-in_default-clause-asked : goal.returns-in_default-clause-asked
returns-in_default-clause-asked g c = inl c.do_line-made.ensures.asked

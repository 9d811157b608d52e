use Rattle.std.proofs.Common.{◌∙◌, arith, ap, subst, sym, refl, None, Ok, Option}
use Rattle.lvm_parse.specs.declared.command.Command.{Command}
use Rattle.lvm_parse.specs.Grammar.{line_of}
use Rattle.lvm_parse.proofs.WithinLemmas.{line_is_within}
use Rattle.lvm_parse.specs.Reading.{misfit}
use Rattle.lvm_volume_lines.specs.passed.GroupLines.{Reply, shelf_in}
use Rattle.lvm_volume_lines.specs.passed.ReplyVariants as reply
use Rattle.lvm_line.specs.Lines.{CommandInPlace, IsLeftToDo}
use Rattle.lvm_line.proofs.LinesLemmas.Answering.{mkvg_left, reducevg_left}
use Rattle.lvm_line.proofs.LinesLemmas.Staying.{done_in_place, still_in_place}
use Rattle.lvm_line.proofs.line.answer_line.Goals as goal

pub serve-requires-clause-within : goal.serve-requires-clause-within
serve-requires-clause-within g c = line_is_within c.args.line.now c.in-Ok-Some.command (c.in-Ok-Some.ensures.read ∙ ap (λ (o : Option Command). Ok o) c.in-Ok-Some.field-0-is)

pub returns-in-Ok-None : goal.returns-in-Ok-None
returns-in-Ok-None g c = (
  still_in_place g.S.Shelf.device c.args.stage.now c.requires.fits c.requires.between c.args.line.now (g.met.S.Shelf.sectors_are_whole (shelf_in c.args.stage.now)) (Ok None) reply.Silent
      (c.in-Ok-None.ensures.read ∙ ap (λ (o : Option Command). Ok o) c.in-Ok-None.field-0-is) (λ log room last. (refl, refl)) (omega arith),
  λ stuck. cc stuck,
)

pub returns-in-Some : goal.returns-in-Some
returns-in-Some g c =
    done_in_place g.S.Shelf.device c.args.stage.now c.requires.fits c.requires.between c.args.line.now (g.met.S.Shelf.sectors_are_whole (shelf_in c.args.stage.now)) c.in-Ok-Some.command c.serve.new.stage c.in-Some.reply c.behind.result
    (c.in-Ok-Some.ensures.read ∙ ap (λ (o : Option Command). Ok o) c.in-Ok-Some.field-0-is)
    (subst (λ (o : Option Reply). CommandInPlace g.S.Shelf.device c.in-Ok-Some.command c.args.stage.now c.serve.new.stage o) c.in-Some.is c.serve.ensures) c.behind.ensures

pub returns-in-None : goal.returns-in-None
returns-in-None g c =
    let left = subst (λ (o : Option Reply). CommandInPlace g.S.Shelf.device c.in-Ok-Some.command c.args.stage.now c.serve.new.stage o) c.in-None.is c.serve.ensures in
    (left.0, subst IsLeftToDo (sym (c.in-Ok-Some.ensures.read ∙ ap (λ (o : Option Command). Ok o) c.in-Ok-Some.field-0-is)) left.1)

pub returns-in-Err-BadLine : goal.returns-in-Err-BadLine
returns-in-Err-BadLine g c = (
  still_in_place g.S.Shelf.device c.args.stage.now c.requires.fits c.requires.between c.args.line.now (g.met.S.Shelf.sectors_are_whole (shelf_in c.args.stage.now)) (misfit c.in-Err-BadLine.column)
      _ ((c.parse.ensures.bad_line c.in-Err-BadLine.column).0 (cc)) (λ log room last. (cc (c.in-Err-BadLine.column-is), refl)) (omega arith),
  λ stuck. cc stuck,
)

pub returns-in-Err-MkvgMemory : goal.returns-in-Err-MkvgMemory
returns-in-Err-MkvgMemory g c = (refl, mkvg_left (line_of c.args.line.now) (c.parse.ensures.mkvg_memory (cc)))

pub returns-in-Err-ReducevgMemory : goal.returns-in-Err-ReducevgMemory
returns-in-Err-ReducevgMemory g c = (refl, reducevg_left (line_of c.args.line.now) (c.parse.ensures.reducevg_memory (cc)))

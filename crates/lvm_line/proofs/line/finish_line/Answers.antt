use Rattle.std.proofs.Common.{sym, subst}
use Rattle.lvm_volume_lines.specs.passed.GroupLines.{Reply}
use Rattle.lvm_line.specs.Lines.{DoesInPlace, IsFinished}
use Rattle.lvm_line.specs.declared.line.InPlace.{InPlace}
use Rattle.lvm_line.proofs.LinesLemmas.Asking.{line_unasked}
use Rattle.lvm_line.proofs.LinesLemmas.Staying.{finished_as, finished_from}
use Rattle.lvm_line.proofs.line.finish_line.Goals as goal

pub returns-in-Done-clause-line : goal.returns-in-Done-clause-line
returns-in-Done-clause-line g c = λ old did.
    let done = subst (λ (it : InPlace). DoesInPlace g.S.Shelf.device c.args.line.now old c.args.stage it) c.in-Done.is did in
    finished_as g.S.Shelf.device c.args.room c.args.line.now old c.answered.result.stage c.args.stage c.answered.result.reply c.in-Done.reply (g.C.Clock.last c.args.clock.now) c.answered.ensures.stage c.answered.ensures.reply (done.0 c.args.room (g.C.Clock.last c.args.clock.now))

pub returns-in-Over-clause-line : goal.returns-in-Over-clause-line
returns-in-Over-clause-line g c = λ old did.
    let done = subst (λ (it : InPlace). DoesInPlace g.S.Shelf.device c.args.line.now old c.args.stage it) c.in-Over.is did in
    subst (λ (r : Reply). IsFinished g.S.Shelf.device c.args.room c.args.line.now old c.left.result.stage r (g.C.Clock.last c.args.clock.now) (g.C.Clock.last c.args.clock.now)) (sym c.left.ensures.reply) (done c.left.result.stage c.left.ensures.left c.args.room (g.C.Clock.last c.args.clock.now))

pub returns-in-Left-clause-line : goal.returns-in-Left-clause-line
returns-in-Left-clause-line g c = λ old did.
    let done = subst (λ (it : InPlace). DoesInPlace g.S.Shelf.device c.args.line.now old c.args.stage it) c.in-Left.is did in
    finished_from g.S.Shelf.device c.args.room c.args.line.now old c.args.stage c.do_line.result.stage c.do_line.result.reply (g.C.Clock.last c.args.clock.now) (g.C.Clock.last c.do_line.new.clock) done.0
    (record { is_line = c.do_line.ensures.line; rooms = c.do_line.ensures.rooms; fits = c.do_line.ensures.fits })

pub do_line-requires-clause-between : goal.do_line-requires-clause-between
do_line-requires-clause-between g c = c.requires.between c.in-Left.is

pub do_line-requires-clause-fits : goal.do_line-requires-clause-fits
do_line-requires-clause-fits g c = c.requires.fits c.in-Left.is

pub returns-in-Done-clause-asked : goal.returns-in-Done-clause-asked
returns-in-Done-clause-asked g c = λ old did.
    let done = subst (λ (it : InPlace). DoesInPlace g.S.Shelf.device c.args.line.now old c.args.stage it) c.in-Done.is did in
    sym (line_unasked g.S.Shelf.device c.args.room c.args.line.now old c.args.stage c.in-Done.reply (done.0 c.args.room 0) (g.C.Clock.asked c.args.clock.now))

pub returns-in-Over-clause-asked : goal.returns-in-Over-clause-asked
returns-in-Over-clause-asked g c = λ old did.
    let done = subst (λ (it : InPlace). DoesInPlace g.S.Shelf.device c.args.line.now old c.args.stage it) c.in-Over.is did in
    sym (line_unasked g.S.Shelf.device c.args.room c.args.line.now old c.left.result.stage c.in-Over.reply (done c.left.result.stage c.left.ensures.left c.args.room 0) (g.C.Clock.asked c.args.clock.now))

pub returns-in-Left-clause-asked : goal.returns-in-Left-clause-asked
returns-in-Left-clause-asked g c = λ old did. c.do_line.ensures.asked

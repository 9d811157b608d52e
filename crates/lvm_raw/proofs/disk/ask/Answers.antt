use Rattle.std.proofs.Common.{◌≡◌, slice_index_or, Err, inl, refl, arith}
use Rattle.std.proofs.lemmas.Option.{slice_get_within}
use Rattle.lvm_num.specs.Buffer.{Buffer}
use Rattle.lvm_steps.specs.Requests.{at as moment_of}
use Rattle.lvm_transfer.proofs.RecordLemmas.{or_got}
use Rattle.lvm_raw.proofs.PiecesLemmas.{range_none}
use Rattle.lvm_raw.proofs.RawLemmas.Refusing.{rejected_rose}
use Rattle.lvm_raw.proofs.disk.ask.Goals as goal

pub look-requires-clause-there : goal.look-requires-clause-there
look-requires-clause-there g c = slice_get_within (g.S.Shelf.device c.args.shelf.now).sizes c.args.disk c.in-Ok.ensures.ok.inside.size c.in-Ok.ensures.ok.inside.is

pub look-requires-clause-large : goal.look-requires-clause-large
look-requires-clause-large g c =
    let inside = c.in-Ok.ensures.ok.inside in
    let here : slice_index_or (g.S.Shelf.device c.args.shelf.now).sizes c.args.disk 0 ≡ inside.size = or_got (g.S.Shelf.device c.args.shelf.now).sizes c.args.disk 0 inside.size inside.is in
    omega (arith, here, inside.low, inside.high)

pub returns-in-Err-clause-unasked : goal.returns-in-Err-clause-unasked
returns-in-Err-clause-unasked g c = inl (c.in-Err.ensures.err, refl, refl)

pub returns-in-Err-clause-keeps : goal.returns-in-Err-clause-keeps
returns-in-Err-clause-keeps g c =
    let device = g.S.Shelf.device c.args.shelf.now in
    range_none {X = Buffer} c.args.history.now.run c.args.disk c.args.patience.now.left (moment_of device c.args.history.now.facts) (Err c.in-Err.why) c.requires.ready
    (rejected_rose Buffer device c.args.history.now c.args.disk c.args.at c.args.count c.args.patience.now.left device.counts device.counts c.in-Err.why c.in-Err.ensures.err)

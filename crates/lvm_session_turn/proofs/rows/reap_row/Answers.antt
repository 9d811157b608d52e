use Rattle.lvm_session.specs.Fields.{core_of}
use Rattle.lvm_session_turn.proofs.Listing.{is_listed}
use Rattle.lvm_session_turn.proofs.rows.reap_row.Goals as goal

pub ended-requires : goal.ended-requires
ended-requires g c =
    let done = c.in-Done.ensures in
    is_listed (core_of c.args.session.now) c.args.session.now.flying.items (g.S.Shelf.device c.args.shelf.now).flights (g.S.Shelf.device c.reap.new.self).flights done.flight c.in-Done.ticket c.requires.rows done.flights done.its

pub ended-requires-in-Failed : goal.ended-requires-in-Failed
ended-requires-in-Failed g c =
    let failed = c.in-Failed.ensures in
    is_listed (core_of c.args.session.now) c.args.session.now.flying.items (g.S.Shelf.device c.args.shelf.now).flights (g.S.Shelf.device c.reap.new.self).flights failed.flight c.in-Failed.ticket c.requires.rows failed.flights failed.its

use Rattle.std.proofs.Common.{refl}
use Rattle.lvm_vol.specs.Facts.{Landed}
use Rattle.lvm_vol.specs.Log.{request_of, got_without_bytes}
use Rattle.lvm_raw.proofs.LogLemmas.{took}
use Rattle.lvm_raw.proofs.request.land_and_take.Goals as goal

pub returns : goal.returns
returns c =
    let h = c.args.history.now in
    let r = request_of h.facts c.args.id in
    took h c.land.new.self c.taken.new.self c.args.id (Landed r c.args.outcome c.args.started (got_without_bytes r c.args.outcome)) refl c.land.ensures.entered c.taken.ensures

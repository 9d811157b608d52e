use Rattle.std.proofs.Common.{refl, true}
use Rattle.std.specs.Simd.{first_chunks}
use Rattle.lvm_vol.specs.Facts.{Landed}
use Rattle.lvm_vol.specs.Log.{request_of}
use Rattle.lvm_vol.specs.declared.entry.Outcome.TheVariants as outcome
use Rattle.lvm_raw.proofs.LogLemmas.{took}
use Rattle.lvm_raw.proofs.request.got_and_take.Goals as goal

pub returns : goal.returns
returns c =
    let h = c.args.history.now in
    let r = request_of h.facts c.args.id in
    took h c.land_read.new.self c.taken.new.self c.args.id (Landed r outcome.Got true (first_chunks 512 r.count c.args.bytes.now)) refl c.land_read.ensures.entered c.taken.ensures

use Rattle.std.proofs.Common.{Ok, Err, refl, sym, subst}
use Rattle.lvm_vol.specs.Log.{Log}
use Rattle.lvm_steps.specs.Requests.{at as moment_of}
use Rattle.lvm_transfer.proofs.ReadingLemmas.Following.{only_none, rested_none, untouched_none}
use Rattle.lvm_raw.specs.declared.fault.RawFault.TheVariants as fault
use Rattle.lvm_raw.specs.Keeping.{RangeKeeps}
use Rattle.lvm_raw.proofs.LookingLemmas.{looked, looked_dark, none_here, shown_none, shown_some}
use Rattle.lvm_raw.proofs.look.look.Goals as goal

pub returns-in_default-clause-fails : goal.returns-in_default-clause-fails
returns-in_default-clause-fails g c = let old = g.S.Shelf.device c.args.shelf.now in (record { left = c.args.patience.now.left; only = only_none c.args.patience.now.left old; elsewhere = λ d other. untouched_none d old }, record { rested = rested_none old c.requires.ready; misses = refl })

pub returns-in_default-clause-keeps : goal.returns-in_default-clause-keeps
returns-in_default-clause-keeps g c =
    let old = g.S.Shelf.device c.args.shelf.now in
    looked c.args.patience.now.left c.args.patience.now.left old old (only_none c.args.patience.now.left old) c.args.history.now.run c.args.disk c.args.history.now.facts (Err fault.Memory) c.requires.ready.power (λ unstuck. c.requires.ready) tt

pub returns-in-Ok-None-default-clause-keeps : goal.returns-in-Ok-None-default-clause-keeps
returns-in-Ok-None-default-clause-keeps g c =
    let old = g.S.Shelf.device c.args.shelf.now in
    looked c.args.patience.now.left c.read_descriptor.new.patience.left old (g.S.Shelf.device c.read_descriptor.new.shelf) c.in-Ok-None-default.ensures.reads.only c.args.history.now.run c.args.disk c.args.history.now.facts (Ok c.in-Ok-None-default.back) c.in-Ok-None-default.ensures.reads.gives.0.rested.ready.power (λ unstuck. c.in-Ok-None-default.ensures.reads.gives.0.rested.ready) tt

pub returns-in-Ok-Some-default-clause-keeps : goal.returns-in-Ok-Some-default-clause-keeps
returns-in-Ok-Some-default-clause-keeps g c =
    let old = g.S.Shelf.device c.args.shelf.now in
    looked c.args.patience.now.left c.read_descriptor.new.patience.left old (g.S.Shelf.device c.read_descriptor.new.shelf) c.in-Ok-Some-default.ensures.reads.only c.args.history.now.run c.args.disk c.args.history.now.facts (Err (fault.InGroup c.args.disk)) c.in-Ok-Some-default.ensures.reads.gives.0.rested.ready.power (λ unstuck. c.in-Ok-Some-default.ensures.reads.gives.0.rested.ready) tt

pub returns-in-Err-Failed-clause-keeps : goal.returns-in-Err-Failed-clause-keeps
returns-in-Err-Failed-clause-keeps g c =
    let old = g.S.Shelf.device c.args.shelf.now in
    let gives = (rw c.in-Err-Failed.field-0-is at c.in-Err-Failed.ensures.reads).gives in
    looked c.args.patience.now.left c.read_descriptor.new.patience.left old (g.S.Shelf.device c.read_descriptor.new.shelf) c.in-Err-Failed.ensures.reads.only c.args.history.now.run c.args.disk c.args.history.now.facts (Err (fault.DiskFailed c.args.disk)) gives.0.rested.ready.power (λ unstuck. gives.0.rested.ready) gives.0.misses

pub returns-in-Err-Stopped-Memory-clause-keeps : goal.returns-in-Err-Stopped-Memory-clause-keeps
returns-in-Err-Stopped-Memory-clause-keeps g c =
    let old = g.S.Shelf.device c.args.shelf.now in
    let gives = (rw (c.in-Err-Stopped-Memory.field-0-is, c.in-Err-Stopped-Memory.field-0-0-is) at c.in-Err-Stopped-Memory.ensures.reads).gives in
    looked c.args.patience.now.left c.read_descriptor.new.patience.left old (g.S.Shelf.device c.read_descriptor.new.shelf) c.in-Err-Stopped-Memory.ensures.reads.only c.args.history.now.run c.args.disk c.args.history.now.facts (Err fault.Memory) gives.0.rested.ready.power (λ unstuck. gives.0.rested.ready) tt

pub returns-in-Err-Stopped-Stuck-clause-keeps : goal.returns-in-Err-Stopped-Stuck-clause-keeps
returns-in-Err-Stopped-Stuck-clause-keeps g c =
    let old = g.S.Shelf.device c.args.shelf.now in
    let gives = (rw (c.in-Err-Stopped-Stuck.field-0-is, c.in-Err-Stopped-Stuck.field-0-0-is) at c.in-Err-Stopped-Stuck.ensures.reads).gives in
    looked c.args.patience.now.left c.read_descriptor.new.patience.left old (g.S.Shelf.device c.read_descriptor.new.shelf) c.in-Err-Stopped-Stuck.ensures.reads.only c.args.history.now.run c.args.disk c.args.history.now.facts (Err fault.Stuck) gives.power (λ unstuck. absurd (unstuck refl)) gives.waits

pub returns-clause-keeps : goal.returns-clause-keeps
returns-clause-keeps g c =
    let h = c.args.history.now in
    let old = g.S.Shelf.device c.args.shelf.now in
    let dark = g.S.Shelf.device c.read_descriptor.new.shelf in
    let new = g.S.Shelf.device c.relight.new.shelf in
    let off = (rw (c.in-Err-Stopped-Dark.field-0-is, c.in-Err-Stopped-Dark.field-0-0-is) at c.in-Err-Stopped-Dark.ensures.reads).gives in
    subst (λ (l : Log). RangeKeeps h.run c.args.disk c.args.patience.now.left c.read_descriptor.new.patience.left (moment_of old h.facts) (moment_of new l.facts) (Err fault.Dark)) (sym c.cut.ensures)
    (looked_dark h.run c.args.disk c.args.patience.now.left c.read_descriptor.new.patience.left old dark new h (Err fault.Dark) refl c.in-Err-Stopped-Dark.ensures.reads.only off c.relight.ensures.lit c.relight.ensures.moments)

pub returns-in-Ok-None-default-clause-found : goal.returns-in-Ok-None-default-clause-found
returns-in-Ok-None-default-clause-found g c =
    let old = g.S.Shelf.device c.args.shelf.now in
    let new = g.S.Shelf.device c.read_descriptor.new.shelf in
    let says = c.in-Ok-None-default.ensures in
    let same = says.reads.only.unwritten in
    let shown = rw c.in-Ok-None-default.field-0-0-is at says.shown in
    record {
      reads = record { left = c.read_descriptor.new.patience.left; only = says.reads.only; elsewhere = says.reads.elsewhere };
      all = says.reads.gives.0;
      whole = says.whole;
      none = none_here old new c.args.disk c.requires.ready.flights says.reads.gives.0.rested.ready.flights same.sizes same.media (shown_none old c.args.disk c.requires.ready.flights shown);
    }

pub returns-in-Ok-Some-default-clause-fails : goal.returns-in-Ok-Some-default-clause-fails
returns-in-Ok-Some-default-clause-fails g c =
    let says = c.in-Ok-Some-default.ensures in
    let shown = rw c.in-Ok-Some-default.field-0-0-is at says.shown in
    (refl, record { left = c.read_descriptor.new.patience.left; only = says.reads.only; elsewhere = says.reads.elsewhere }, says.reads.gives.0, shown_some (g.S.Shelf.device c.args.shelf.now) c.args.disk c.in-Ok-Some-default.field-0-0-0 shown, says.whole)

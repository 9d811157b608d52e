use Rattle.std.proofs.Common.{refl}
use Rattle.lvm_session.specs.Fields.{core_of}
use Rattle.lvm_due.proofs.AtPlaces.{stands}
use Rattle.lvm_due.specs.Due.{is_freed, waits_entry_if}
use Rattle.lvm_due.proofs.EnabledLemmas.Unmade.{land_none}
use Rattle.lvm_due.proofs.DueLemmas.Moving.{landed_might_not, landing_moves}
use Rattle.lvm_due.proofs.DueLemmas.Spanning.{skipped_due}
use Rattle.lvm_due.proofs.due.Due.landed.Goals as goal

pub returns : goal.returns
returns c old how going holds lands due =
    let o = c.index.result.now in
    let core = core_of c.args.session.now in
    let there = stands c.args.session.now.requests.items c.args.place o c.requires.there c.index.ensures in
    skipped_due core c.args.place o _ _ there (land_none core c.args.place o (landed_might_not old core c.args.place how lands o there)) c.skip.ensures refl
    (c.moved_if.ensures (is_freed o.request.ask) (waits_entry_if c.args.pinned) old.core c.freed_by-freed.ensures c.entries_if.ensures (λ is. landing_moves old core c.args.place how going lands (c.is_quiet-still.ensures is) c.args.pinned holds o there) due)

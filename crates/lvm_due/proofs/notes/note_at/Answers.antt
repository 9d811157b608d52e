use Rattle.lvm_due.specs.passed.Session.{core_of}
use Rattle.lvm_due.proofs.Nexts.{one}
use Rattle.lvm_due.proofs.AtPlaces.{stands}
use Rattle.lvm_due.proofs.notes.note_at.Goals as goal

pub note_due-requires : goal.note_due-requires
note_due-requires c = (one (core_of c.args.session.now) c.requires.going c.args.place c.index.result.now (stands c.args.session.now.requests.items c.args.place c.index.result.now c.requires.there c.index.ensures)).laid.within.fits

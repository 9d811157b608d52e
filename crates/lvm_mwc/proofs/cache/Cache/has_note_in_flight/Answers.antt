use Rattle.std.proofs.Common.{◌≡◌, ◌∙◌, sym, ap, Some, None}
use Rattle.std.specs.Prelude.{is_some}
use Rattle.std.specs.List.{position}
use Rattle.lvm_mwc.specs.declared.notes.DiskNotes.{DiskNotes}
use Rattle.lvm_mwc.specs.Notes.{is_of_disk}
use Rattle.lvm_mwc.specs.Cache.{Cached, flight_on}
use Rattle.lvm_mwc.proofs.CacheLemmas.{cached, flight_at, looked_up, no_flight}
use Rattle.lvm_mwc.proofs.cache.Cache.has_note_in_flight.Goals as goal

pub returns-in-None : goal.returns-in-None
returns-in-None c =
    sym (no_flight c.args.self.now c.args.disk
    (ap (λ (s : Cached). position (is_of_disk c.args.disk) s.notes) (sym c.self.view_is) ∙ looked_up c.args.disk c.self.inside.notes.items c.self.inside.disks.items c.deref.result.now None c.self.invariant.2 c.deref.ensures.value c.in-None.ensures))

pub returns-in-Some : goal.returns-in-Some
returns-in-Some c =
    let notes = c.self.inside.notes.items in
    let n = c.index.result.now in
    let at : position (is_of_disk c.args.disk) notes ≡ Some c.in-Some.place = looked_up c.args.disk notes c.self.inside.disks.items c.deref.result.now (Some c.in-Some.place) c.self.invariant.2 c.deref.ensures.value c.in-Some.ensures in
    c.is_some.ensures ∙ ap (λ (m : DiskNotes). is_some m.flight) c.index.ensures ∙ sym (flight_at (cached c.self.inside.entries notes) c.args.disk c.in-Some.place n at) ∙ ap (λ (s : Cached). is_some (flight_on s c.args.disk)) c.self.view_is

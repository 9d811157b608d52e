use Rattle.std.proofs.Common.{◌≡◌, ◌<◌, ◌∙◌, refl, sym, ap, subst, length, None, Some}
use Rattle.std.specs.List.{position}
use Rattle.std.proofs.lemmas.Grind.{get_or-set_at}
use Rattle.lvm_mwc.specs.declared.notes.DiskNotes.{DiskNotes}
use Rattle.lvm_mwc.specs.Filters.{PassesAll}
use Rattle.lvm_mwc.specs.Notes.{is_of_disk}
use Rattle.lvm_mwc.specs.Cache.{Cached, ended}
use Rattle.lvm_mwc.proofs.FiltersLemmas.{filters_set}
use Rattle.lvm_mwc.proofs.FirstsLemmas.{first_at}
use Rattle.lvm_mwc.proofs.CacheLemmas.{looked_up, changed_at, disks_ended, not_ended}
use Rattle.lvm_mwc.proofs.cache.Cache.end_note.Goals as goal

pub returns-in_default : goal.returns-in_default
returns-in_default c =
    not_ended c.args.self.now c.args.disk c.args.ok
    (ap (λ (s : Cached). position (is_of_disk c.args.disk) s.notes) (sym c.self.view_is) ∙ looked_up c.args.disk c.self.inside.notes.items c.self.inside.disks.items c.deref.result.now None c.self.invariant.2 c.deref.ensures.value c.in_default.ensures)

pub returns-in-Some : goal.returns-in-Some
returns-in-Some c =
    changed_at c.args.self.now c.self.inside.entries c.self.inside.notes.items c.args.disk c.in-Some.place (ended c.args.ok) c.end_flight.new.notes c.index_mut.result.now c.self.view_is
    (looked_up c.args.disk c.self.inside.notes.items c.self.inside.disks.items c.deref.result.now (Some c.in-Some.place) c.self.invariant.2 c.deref.ensures.value c.in-Some.ensures) (c.end_flight.ensures ∙ ap (ended c.args.ok) c.index_mut.ensures.value)

pub invariant_of-self : goal.invariant_of-self
invariant_of-self c =
    let notes = c.self.inside.notes.items in
    let at = c.in-Some.place in
    let row = c.end_flight.new.notes in
    let within : at < length notes = (first_at (is_of_disk c.args.disk) notes row at (looked_up c.args.disk notes c.self.inside.disks.items c.deref.result.now (Some at) c.self.invariant.2 c.deref.ensures.value c.in-Some.ensures)).within in
    let is : c.index.result.now ≡ row = c.index.ensures ∙ get_or-set_at notes at at row c.index.result.now refl within in
    let pass : PassesAll c.filter_of.result row.written.items = subst (PassesAll c.filter_of.result) (c.deref-in-Some.ensures.0 ∙ ap (λ (n : DiskNotes). n.written.items) is) c.filter_of.ensures in (
      c.self.invariant.0,
      filters_set notes c.self.inside.filters.items at row c.self.invariant.1 within c.filter_of.result pass,
      disks_ended c.args.ok notes c.self.inside.disks.items at row c.index_mut.result.now c.self.invariant.2 (c.end_flight.ensures ∙ ap (ended c.args.ok) c.index_mut.ensures.value),
      c.self.invariant.3,
      c.self.invariant.4,
    )

use Rattle.std.proofs.Common.{◌∙◌, sym, ap, Some, None}
use Rattle.std.specs.List.{position}
use Rattle.lvm_mwc.specs.declared.notes.DiskNotes.{DiskNotes}
use Rattle.lvm_mwc.specs.Notes.{is_of_disk}
use Rattle.lvm_mwc.specs.Cache.{Cached}
use Rattle.lvm_mwc.proofs.FiltersLemmas.{filters_kept}
use Rattle.lvm_mwc.proofs.FirstsLemmas.{first_at}
use Rattle.lvm_mwc.proofs.CacheLemmas.{looked_up, disks_same, not_started, started_at}
use Rattle.lvm_mwc.proofs.cache.Cache.start_note.Goals as goal
use Rattle.lvm_mwc.proofs.cache.Cache.start_note.Goals.{in-Some, in_default}

pub returns-clause-cache : goal.returns-clause-cache
returns-clause-cache c =
    elim c.match-place_of_disk.branch [
      | in-Some w ↦ rw w.self-inside-is
          (started_at c.args.self.now c.self.inside.entries c.self.inside.notes.items c.args.disk w.in-Some.place w.index_mut.result.now w.note.result c.self.view_is
          (looked_up c.args.disk c.self.inside.notes.items c.self.inside.disks.items c.deref.result.now (Some w.in-Some.place) c.self.invariant.2 c.deref.ensures.value w.in-Some.ensures)
          w.index_mut.ensures.value w.note.ensures)
      | in_default w ↦ rw (w.self-inside-is, c.self.view_is)
          (not_started c.args.self.now c.args.disk
          (ap (λ (s : Cached). position (is_of_disk c.args.disk) s.notes) (sym c.self.view_is) ∙ looked_up c.args.disk c.self.inside.notes.items c.self.inside.disks.items c.deref.result.now None c.self.invariant.2 c.deref.ensures.value w.in_default.ensures))
    ]

pub invariant_of-self : goal.invariant_of-self
invariant_of-self c =
    elim c.match-place_of_disk.branch [
      | in-Some w ↦
          let notes = c.self.inside.notes.items in
          let row = w.index_mut.result.now in
          let first = first_at (is_of_disk c.args.disk) notes row w.in-Some.place (looked_up c.args.disk notes c.self.inside.disks.items c.deref.result.now (Some w.in-Some.place) c.self.invariant.2 c.deref.ensures.value w.in-Some.ensures) in
          rw w.self-inside-is (
            c.self.invariant.0,
            filters_kept notes c.self.inside.filters.items w.in-Some.place _ c.self.invariant.1 first.within row (ap (λ (n : DiskNotes). n.written) w.index_mut.ensures.value),
            disks_same notes c.self.inside.disks.items w.in-Some.place _ row c.self.invariant.2 (ap (λ (n : DiskNotes). n.disk) w.index_mut.ensures.value),
            c.self.invariant.3,
            c.self.invariant.4,
          )
      | in_default w ↦ rw w.self-inside-is c.self.invariant
    ]

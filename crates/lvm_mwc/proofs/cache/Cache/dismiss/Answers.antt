use Rattle.std.proofs.Common.{◌≡◌, ◌≢◌, ◌<◌, ℕ, List, Some, None, length, ap, sym, subst, ◌∙◌, arith}
use Rattle.std.specs.Prelude.{AllPairs}
use Rattle.std.specs.List.{position, remove}
use Rattle.lvm_mwc.specs.Notes.{AreDisks, disks_of, is_of_disk}
use Rattle.lvm_mwc.specs.Cache.{Cached, no_notes}
use Rattle.lvm_mwc.proofs.FirstsLemmas.{first_at}
use Rattle.lvm_mwc.proofs.FiltersLemmas.{filters_less}
use Rattle.lvm_mwc.proofs.CacheLemmas.{as_many, dismissed, go_in_notes, looked_up, not_dismissed, one_goes}
use Rattle.lvm_mwc.proofs.cache.Cache.dismiss.Goals as goal

pub invariant_of-self : goal.invariant_of-self
invariant_of-self c =
    let inside = c.self.inside in
    let notes = inside.notes.items in
    let place = c.in-Some.place in
    let at : position (is_of_disk c.args.disk) notes ≡ Some place = looked_up c.args.disk notes inside.disks.items c.deref.result.now (Some place) c.self.invariant.2 c.deref.ensures.value c.in-Some.ensures in
    let within : place < length notes = (first_at (is_of_disk c.args.disk) notes (no_notes 0) place at).within in
    let within_too : place < length inside.disks.items = omega (arith, within, as_many notes, ap (λ (l : List ℕ). length l) c.self.invariant.2) in (
      c.self.invariant.0,
      rw (c.remove-in-Some.ensures.items, c.remove-in-Some-2.ensures.items) (filters_less notes inside.filters.items place within c.self.invariant.1),
      c.remove.ensures.items ∙ ap (λ (l : List ℕ). remove l place) c.self.invariant.2 ∙ go_in_notes notes place ∙ sym (ap disks_of c.remove-in-Some.ensures.items),
      subst (AreDisks 128) (sym c.remove.ensures.items) (one_goes inside.disks.items place within_too c.self.invariant.3),
      record {
        disks = omega (arith, c.remove.ensures.capacity, c.self.invariant.4.disks);
        notes = omega (arith, c.remove-in-Some.ensures.capacity, c.self.invariant.4.notes);
        filters = omega (arith, c.remove-in-Some-2.ensures.capacity, c.self.invariant.4.filters);
      },
    )

pub returns-in-Some : goal.returns-in-Some
returns-in-Some c =
    let inside = c.self.inside in
    dismissed c.args.self.now inside.entries inside.notes.items c.args.disk c.in-Some.place c.remove-in-Some.new.self.items c.self.view_is
    (looked_up c.args.disk inside.notes.items inside.disks.items c.deref.result.now (Some c.in-Some.place) c.self.invariant.2 c.deref.ensures.value c.in-Some.ensures)
    (subst (AllPairs (λ (a b : ℕ). a ≢ b)) c.self.invariant.2 c.self.invariant.3.differ) c.remove-in-Some.ensures.items

pub returns-in_default : goal.returns-in_default
returns-in_default c =
    not_dismissed c.args.self.now c.args.disk
    (ap (λ (s : Cached). position (is_of_disk c.args.disk) s.notes) (sym c.self.view_is) ∙ looked_up c.args.disk c.self.inside.notes.items c.self.inside.disks.items c.deref.result.now None c.self.invariant.2 c.deref.ensures.value c.in_default.ensures)

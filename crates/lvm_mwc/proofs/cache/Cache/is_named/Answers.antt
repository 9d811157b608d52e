use Rattle.std.proofs.Common.{◌≡◌, ◌∙◌, sym, ap, [], Some, None, get_or}
use Rattle.std.specs.List.{position}
use Rattle.std.proofs.lemmas.Option.{slice_get-get_or}
use Rattle.lvm_mwc.specs.declared.notes.DiskNotes.{DiskNotes}
use Rattle.lvm_mwc.specs.Notes.{is_of_disk, both_name}
use Rattle.lvm_mwc.specs.Cache.{Cached, is_named}
use Rattle.lvm_mwc.proofs.FirstsLemmas.{first_at}
use Rattle.lvm_mwc.proofs.CacheLemmas.{looked_up, cached, named_at, not_named}
use Rattle.lvm_mwc.proofs.FiltersLemmas.{not_passed}
use Rattle.lvm_mwc.proofs.cache.Cache.is_named.Goals as goal

pub returns-in-None : goal.returns-in-None
returns-in-None c =
    sym (not_named c.args.self.now c.args.disk c.args.lv c.args.group
    (ap (λ (s : Cached). position (is_of_disk c.args.disk) s.notes) (sym c.self.view_is) ∙ looked_up c.args.disk c.self.inside.notes.items c.self.inside.disks.items c.deref.result.now None c.self.invariant.2 c.deref.ensures.value c.in-None.ensures))

pub returns-then-passes : goal.returns-then-passes
returns-then-passes c =
    let notes = c.self.inside.notes.items in
    let n = c.index-then-passes.result.now in
    let at : position (is_of_disk c.args.disk) notes ≡ Some c.in-Some.place = looked_up c.args.disk notes c.self.inside.disks.items c.deref.result.now (Some c.in-Some.place) c.self.invariant.2 c.deref.ensures.value c.in-Some.ensures in
    c.both_name.ensures ∙ ap (both_name c.args.lv c.args.group) c.index-then-passes.ensures ∙ sym (named_at (cached c.self.inside.entries notes) c.args.disk c.args.lv c.args.group c.in-Some.place n at)
    ∙ ap (λ (s : Cached). is_named s c.args.disk c.args.lv c.args.group) c.self.view_is

pub returns-else-passes : goal.returns-else-passes
returns-else-passes c =
    let notes = c.self.inside.notes.items in
    let at : position (is_of_disk c.args.disk) notes ≡ Some c.in-Some.place = looked_up c.args.disk notes c.self.inside.disks.items c.deref.result.now (Some c.in-Some.place) c.self.invariant.2 c.deref.ensures.value c.in-Some.ensures in
    let blank : DiskNotes = record { disk = 0; written = record { items = [] }; flight = None } in
    let first = first_at (is_of_disk c.args.disk) notes blank c.in-Some.place at in
    c.if-passes.false
    ∙ sym (not_passed notes c.self.inside.filters.items c.in-Some.place c.args.lv c.args.group (get_or notes c.in-Some.place blank) c.index.result.now c.self.invariant.1 (slice_get-get_or notes c.in-Some.place blank first.within)
    c.index.ensures (sym c.passes.ensures ∙ c.if-passes.false))
    ∙ sym (named_at (cached c.self.inside.entries notes) c.args.disk c.args.lv c.args.group c.in-Some.place blank at) ∙ ap (λ (s : Cached). is_named s c.args.disk c.args.lv c.args.group) c.self.view_is

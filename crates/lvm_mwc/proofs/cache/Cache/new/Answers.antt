use Rattle.std.proofs.Common.{◌≡◌, ◌∙◌, List, Bool, false, length, replicate, ap, sym, subst, arith}
use Rattle.std.proofs.lemmas.List.{length-replicate}
use Rattle.lvm_mwc.specs.Notes.{AreDisks, disks_of}
use Rattle.lvm_mwc.proofs.EntriesLemmas.Entries.{no_entries}
use Rattle.lvm_mwc.proofs.FiltersLemmas.{filters_blank}
use Rattle.lvm_mwc.proofs.cache.Cache.new.Goals as goal

pub invariant_of-result : goal.invariant_of-result
invariant_of-result c =
    let notes = c.in_ok-notes.notes.items in
    let filters = c.in_ok-filters.filters.items in
    let long : length filters ≡ length notes = omega (arith, ap (λ (l : List (List Bool)). length l) c.in_ok-filters.ensures.closed, length-replicate c.len.result (replicate 512 false), c.len.ensures) in
    let disks : c.in_ok-disks.disks.items ≡ disks_of notes = c.in_ok-disks.ensures.disks ∙ ap disks_of c.deref.ensures.value in (
      no_entries c.in_ok-entries.entries c.in_ok-entries.ensures,
      filters_blank notes filters long c.in_ok-notes.ensures.blank,
      disks,
      subst (AreDisks 128) (sym disks) c.in_ok-notes.ensures.disks,
      record { disks = c.in_ok-disks.ensures.room; notes = c.in_ok-notes.ensures.room; filters = c.in_ok-filters.ensures.room },
    )

pub returns : goal.returns
returns c = record { entries = c.in_ok-entries.ensures; notes = c.in_ok-notes.ensures.new.notes }

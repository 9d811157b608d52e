use Rattle.std.proofs.Common.{◌≡◌, ◌<◌, ◌≤◌, [], ℕ, IsTrue}
use Rattle.std.specs.Prelude.{vec_capacity}
use Rattle.std.specs.List.{All}
use Rattle.lvm_num.specs.Disks.{has}
use Rattle.lvm_mwc.specs.declared.notes.DiskNotes.{DiskNotes}
use Rattle.lvm_mwc.specs.Notes.{AreDisks, disks_of}
use Rattle.lvm_mwc.proofs.CacheLemmas.{AreFirst}
use Rattle.lvm_mwc.proofs.cache.blank_notes.Given as goal

abbrev pub invariant-loop-disk : goal.invariant-loop-disk
invariant-loop-disk l = record {
  first : AreFirst l.disks l.disk l.notes.items;
  few : 0 < l.disk → (d : ℕ) → IsTrue (has l.disks d) → d < 128;
  blank : All (λ (n : DiskNotes). n.written.items ≡ []) l.notes.items;
  disks : AreDisks l.disk (disks_of l.notes.items);
  room : 128 ≤ vec_capacity l.notes;
}

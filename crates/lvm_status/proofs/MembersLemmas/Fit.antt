-- What is true of an updater's tables and sets stays so.
use Rattle.std.proofs.Common.{◌≡◌, ℕ, Bool, true, false, ◌&&◌, not, length, refl, sym, ap, ◌∙◌, arith}
use Rattle.std.specs.Prelude.{◌==◌}
use Rattle.std.proofs.lemmas.List.{length-map}
use Rattle.lvm_status.specs.passed.Num.{Descriptor, StatusRow, Status, has}
use Rattle.lvm_status.specs.Table.{SameMembers}
use Rattle.lvm_status.proofs.MarkingLemmas.{has_row-same}
use Rattle.lvm_status.specs.declared.writes.Writes.{Writes}
use Rattle.lvm_status.specs.Members.{IsFit}

pub as_many : (old new : Status) → SameMembers old new → length new.rows ≡ length old.rows
as_many old new same =
    omega (arith, ap (λ disks. length {A = ℕ} disks) same.disks, length-map new.rows (λ (row : StatusRow). row.disk), length-map old.rows (λ (row : StatusRow). row.disk))

-- another wanted status of the same members, and no more to write
pub fit_next : (d : Descriptor) (committed wanted flying new : Status) (writes next : Writes) (known : Bool) → IsFit d committed wanted flying writes known → SameMembers wanted new
    → ((disk : ℕ) → has next.unstarted disk ≡ true → has writes.unstarted disk ≡ true)
    → ((disk : ℕ) → has next.started disk ≡ true → has writes.started disk ≡ true)
    → IsFit d committed new flying next false
fit_next d committed wanted flying new writes next known fit same unstarted started = record {
  valid = fit.valid;
  rows = λ disk. has_row-same wanted new same disk ∙ fit.rows disk;
  as_many = fit.as_many ∙ sym (as_many wanted new same);
  as_many_flying = fit.as_many_flying ∙ sym (as_many wanted new same);
  unstarted_members = λ disk is. fit.unstarted_members disk (unstarted disk is);
  started_members = λ disk is. fit.started_members disk (started disk is);
  same = λ is. absurd (cc is);
}

-- and what is wanted is known to be committed where it is
pub fit_known : (d : Descriptor) (committed wanted flying : Status) (writes : Writes) (known now : Bool) → IsFit d committed wanted flying writes known → (now ≡ true → wanted ≡ committed)
    → IsFit d committed wanted flying writes now
fit_known d committed wanted flying writes known now fit same = record {
  valid = fit.valid;
  rows = fit.rows;
  as_many = fit.as_many;
  as_many_flying = fit.as_many_flying;
  unstarted_members = fit.unstarted_members;
  started_members = fit.started_members;
  same = same;
}

-- a disk of what is left of a set is one of the set
pub stays : (set left : ℕ) (gone : ℕ) → ((disk : ℕ) → has left disk ≡ has set disk && not (disk == gone)) → (disk : ℕ) → has left disk ≡ true → has set disk ≡ true
stays set left gone is disk among = by_test (has set disk) (disk == gone) (sym (is disk) ∙ among)
  where
    by_test : (a b : Bool) → a && not b ≡ true → a ≡ true
    by_test true b e = refl
    by_test false b e = e

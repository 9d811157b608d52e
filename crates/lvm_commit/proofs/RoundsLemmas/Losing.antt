-- Members become missing.
use Rattle.std.proofs.Common.{◌≡◌, ℕ, true, false, ◌||◌, IsFalse, refl, sym, ◌∙◌, ap, subst}
use Rattle.std.specs.Prelude.{◌==◌, if◌then◌else◌}
use Rattle.std.proofs.lemmas.Bool.{false≢true}
use Rattle.lvm_num.specs.declared.status.Status.{Status}
use Rattle.lvm_num.specs.Disks.{Disks}
use Rattle.lvm_num.specs.Status.{calls_missing}
use Rattle.lvm_num.proofs.Booleans.{or_false}
use Rattle.lvm_status.specs.Calls.{BecomesMissing}
use Rattle.lvm_commit.specs.Rounds.{Misses}

-- none do,
pub misses_none : (failed : Disks) (s : Status) → ((d : ℕ) → failed d ≡ false) → Misses failed s s
misses_none failed s none = record {
  rows = record { id = refl; big = refl; disks = refl };
  stale = λ p. refl;
  dirty = refl;
  missing = λ d. sym (ap (λ b. calls_missing s d || b) (none d) ∙ or_false (calls_missing s d));
  same = λ all. refl;
}

-- no more do,
pub misses_same : (failed next : Disks) (a b c : Status) → Misses failed a b → c ≡ b → ((d : ℕ) → next d ≡ failed d) → Misses next a c
misses_same failed next a b c one is same = record {
  rows = record { id = ap (λ (s : Status). s.id) is ∙ one.rows.id; big = ap (λ (s : Status). s.big) is ∙ one.rows.big; disks = ap (λ (s : Status). Rattle.std.proofs.Common.map (λ (row : Rattle.lvm_num.specs.declared.status.StatusRow.StatusRow). row.disk) s.rows) is ∙ one.rows.disks };
  stale = λ p. ap (λ (s : Status). Rattle.lvm_num.specs.Status.calls_stale s p) is ∙ one.stale p;
  dirty = ap (λ (s : Status). s.dirty) is ∙ one.dirty;
  missing = λ d. ap (λ (s : Status). calls_missing s d) is ∙ one.missing d ∙ ap (λ b. calls_missing a d || b) (sym (same d));
  same = λ none. is ∙ one.same (λ d. sym (same d) ∙ none d);
}

-- and one more does.
pub misses_more : (failed next : Disks) (disk : ℕ) (a b c : Status) → Misses failed a b → BecomesMissing disk b c → ((d : ℕ) → calls_missing a d || next d ≡ (if d == disk then true else calls_missing a d || failed d)) → next disk ≡ true
    → Misses next a c
misses_more failed next disk a b c one two more is = record {
  rows = record { id = two.members.id ∙ one.rows.id; big = two.members.big ∙ one.rows.big; disks = two.members.disks ∙ one.rows.disks };
  stale = λ p. two.stale p ∙ one.stale p;
  dirty = two.dirty ∙ one.dirty;
  missing = λ d. two.missing d ∙ ap (λ b. if d == disk then true else b) (one.missing d) ∙ sym (more d);
  same = λ none. absurd (false≢true (sym (none disk) ∙ is));
}

-- what was wanted before is the same
pub misses_at : (failed : Disks) (x a b : Status) → x ≡ a → Misses failed x b → Misses failed a b
misses_at failed x a b is misses = subst (λ (s : Status). Misses failed s b) is misses

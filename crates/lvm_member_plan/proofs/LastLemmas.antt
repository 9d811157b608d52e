-- The last descriptor is valid, where the members are free to leave.
use Rattle.std.proofs.Common.{◌≡◌, ℕ, ◌<◌, ◌≤◌, Bool, true, false, ◌&&◌, ◌||◌, not, List, [], ◌∷◌, length, get_or, Option, Some, None, refl, sym, ◌∙◌, ap, subst, arith}
use Rattle.std.specs.Prelude.{◌==◌, IsFalse, if◌then◌else◌, find}
use Rattle.std.specs.List.{list_all}
use Rattle.std.proofs.lemmas.Bool.{eq-eqb, eqb-true, false≢true}
use Rattle.lvm_num.specs.declared.place.Pp.{Pp}
use Rattle.lvm_num.specs.declared.descriptor.PvRow.{PvRow}
use Rattle.lvm_num.specs.declared.descriptor.Descriptor.{Descriptor}
use Rattle.lvm_num.specs.Descriptor.{IsValid, partitions_used}
use Rattle.lvm_num.specs.Disks.{Disks}
use Rattle.lvm_core.specs.Committing.{is_in}
use Rattle.lvm_change_laws.specs.Rule.{staying}
use Rattle.lvm_member_plan.specs.Descriptors.{reduced, is_used}
use Rattle.lvm_member_plan.specs.Refusals.{AreFree}
use Rattle.lvm_member_plan.proofs.ValidityLemmas.{without_valid}
use Rattle.lvm_member_plan.proofs.StepsLemmas.{unused_all}

-- where no disk passes, each of them fails
pub none_passes : (t : ℕ → Bool) (xs : List ℕ) → find t xs ≡ None → (x : ℕ) → is_in xs x ≡ true → t x ≡ false
none_passes t [] none x on = absurd (false≢true on)
none_passes t (y ∷ ys) none x on = by (t y) (x == y) refl refl (none_passes t ys)
  where
    by : (passes same : Bool) → t y ≡ passes → (x == y) ≡ same → (find t ys ≡ None → (d : ℕ) → is_in ys d ≡ true → t d ≡ false) → t x ≡ false
    by true same p s rest = absurd (ends (sym (ap (λ (b : Bool). if b then Some y else find t ys) p) ∙ none))
      where
        ends : Some y ≡ None → ⊥
        ends is = cc is
    by false true p s rest = ap t (eqb-true x y s) ∙ p
    by false false p s rest = rest (sym (ap (λ (b : Bool). if b then Some y else find t ys) p) ∙ none) x (sym (ap (λ (b : Bool). b || is_in ys x) s) ∙ on)

-- where not all are named, one stays
one_stays : (leaves : Disks) (rows : List PvRow) → list_all (λ (row : PvRow). leaves row.disk) rows ≡ false → 1 ≤ length (staying leaves rows)
one_stays leaves [] some = absurd (false≢true (sym some))
one_stays leaves (row ∷ rows) some = by (leaves row.disk) refl (one_stays leaves rows)
  where
    by : (goes : Bool) → leaves row.disk ≡ goes → (list_all (λ (r : PvRow). leaves r.disk) rows ≡ false → 1 ≤ length (staying leaves rows)) → 1 ≤ length (staying leaves (row ∷ rows))
    by true is rest = subst (λ (b : Bool). 1 ≤ length (if not b then row ∷ staying leaves rows else staying leaves rows)) (sym is)
        (rest (sym (ap (λ (b : Bool). b && list_all (λ (r : PvRow). leaves r.disk) rows) is) ∙ some))
    by false is rest = subst (λ (b : Bool). 1 ≤ length (if not b then row ∷ staying leaves rows else staying leaves rows)) (sym is) (omega arith)

pub last_valid : (d : Descriptor) (disks : List ℕ) → IsValid d → AreFree d disks → IsValid (reduced disks d)
last_valid d disks valid free = without_valid disks false d valid (one_stays (is_in disks) d.pvs free.some_stay) (λ is. absurd (false≢true is))
    (λ k e few. off (get_or (partitions_used d) k e).disk (λ unused. unused_all (get_or (partitions_used d) k e).disk d.lvs unused k e few))
  where
    off : (disk : ℕ) → (is_used d disk ≡ false → (disk == disk) ≡ false) → IsFalse (is_in disks disk)
    off disk apart = by (is_in disks disk) refl
      where
        by : (named : Bool) → is_in disks disk ≡ named → IsFalse (is_in disks disk)
        by false is = is
        by true is = absurd (false≢true (sym (apart (none_passes (is_used d) disks free.unused disk is)) ∙ eq-eqb disk disk refl))

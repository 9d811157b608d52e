-- Members once some have left, and rows of statuses.
use Rattle.std.proofs.Common.{◌≡◌, inl, inr, ℕ, zero, suc, ◌<◌, ◌==◌, Bool, true, false, ◌&&◌, ◌||◌, not, List, [], ◌∷◌, length, if◌then◌else◌, arith, refl, sym, ap, ◌∙◌}
use Rattle.std.specs.Prelude.{IsTrue, IsFalse, Contains, filter, slice_index_or}
use Rattle.std.specs.List.{list_any}
use Rattle.std.proofs.lemmas.Bool.{eqb-true, eq-eqb}
use Rattle.lvm_num.specs.declared.descriptor.PvRow.{PvRow}
use Rattle.lvm_num.specs.declared.descriptor.Descriptor.{Descriptor}
use Rattle.lvm_num.specs.declared.place.Pp.{Pp}
use Rattle.lvm_num.specs.declared.status.Status.{Status}
use Rattle.lvm_num.specs.declared.status.StatusRow.{StatusRow}
use Rattle.lvm_num.specs.Bits.{has_bit}
use Rattle.lvm_num.specs.Descriptor.{is_member}
use Rattle.lvm_num.specs.Status.{calls_stale, calls_missing}
use Rattle.lvm_num.proofs.Booleans.{and_false}
use Rattle.lvm_num.proofs.AmongLemmas.{one_any}
use Rattle.lvm_kept.specs.Group.{IsOneOf}
use Rattle.lvm_commit.proofs.AmongLemmas.{contains}
use Rattle.lvm_core.specs.Committing.{is_in}
use Rattle.lvm_status.specs.Table.{has_row}
use Rattle.lvm_member_plan.specs.Descriptors.{reduced}

-- ---- members

abbrev stays : List ℕ → PvRow → Bool
stays disks row = not (is_in disks row.disk)

abbrev has : ℕ → PvRow → Bool
has disk row = row.disk == disk

member_filtered : (disks : List ℕ) (rows : List PvRow) (disk : ℕ) → list_any (has disk) (filter (stays disks) rows) ≡ (list_any (has disk) rows && not (is_in disks disk))
member_filtered disks [] disk = refl
member_filtered disks (row ∷ rows) disk = by (member_filtered disks rows disk) (row.disk == disk) (not (is_in disks row.disk)) refl refl
  where
    by : list_any (has disk) (filter (stays disks) rows) ≡ (list_any (has disk) rows && not (is_in disks disk)) → (t k : Bool) → (row.disk == disk) ≡ t → not (is_in disks row.disk) ≡ k → list_any (has disk) (if k then row ∷ (filter (stays disks) rows) else (filter (stays disks) rows)) ≡ ((t || list_any (has disk) rows) && not (is_in disks disk))
    by rest true true is keeps = ap (λ (b : Bool). b || list_any (has disk) (filter (stays disks) rows)) is ∙ sym (sym (ap (λ (d : ℕ). not (is_in disks d)) (eqb-true row.disk disk is)) ∙ keeps)
    by rest true false is goes =
        let gone : not (is_in disks disk) ≡ false = sym (ap (λ (d : ℕ). not (is_in disks d)) (eqb-true row.disk disk is)) ∙ goes in
        rest ∙ ap (λ (b : Bool). list_any (has disk) rows && b) gone ∙ and_false (list_any (has disk) rows) ∙ sym gone
    by rest false true isnt keeps = ap (λ (b : Bool). b || list_any (has disk) (filter (stays disks) rows)) isnt ∙ rest
    by rest false false isnt goes = rest

-- those that stay are members that don't leave
pub member_reduced : (disks : List ℕ) (d : Descriptor) (disk : ℕ) → is_member (reduced disks d) disk ≡ (is_member d disk && not (is_in disks disk))
member_reduced disks d disk = member_filtered disks d.pvs disk

both : (a b : Bool) → a && b ≡ true → (a ≡ true) × (b ≡ true)
both true b is = (refl, is)
both false b is = absurd (cc is)

not_true : (b : Bool) → not b ≡ true → b ≡ false
not_true true is = absurd (cc is)
not_true false is = refl

pub was_member : (disks : List ℕ) (d : Descriptor) (disk : ℕ) → IsTrue (is_member (reduced disks d) disk) → IsTrue (is_member d disk)
was_member disks d disk is = (both (is_member d disk) (not (is_in disks disk)) (sym (member_reduced disks d disk) ∙ is)).0

pub not_leaving : (disks : List ℕ) (d : Descriptor) (disk : ℕ) → IsTrue (is_member (reduced disks d) disk) → IsFalse (is_in disks disk)
not_leaving disks d disk is = not_true (is_in disks disk) (both (is_member d disk) (not (is_in disks disk)) (sym (member_reduced disks d disk) ∙ is)).1

pub left_out : (disks : List ℕ) (d : Descriptor) (disk : ℕ) → IsTrue (is_in disks disk) → IsFalse (is_member (reduced disks d) disk)
left_out disks d disk leaves = member_reduced disks d disk ∙ ap (λ (b : Bool). is_member d disk && not b) leaves ∙ and_false (is_member d disk)

-- ---- those that are contained

one_of : {X : Type 0} (xs : List X) (x : X) (k : ℕ) → k < length xs → slice_index_or xs k x ≡ x → IsOneOf xs x
one_of [] x k less at = absurd (omega (arith, less))
one_of (y ∷ ys) x zero less at = inl (sym at)
one_of (y ∷ ys) x (suc k) less at = inr (one_of ys x k (omega (arith, less)) at)

one_unfiltered : {X : Type 0} (test : X → Bool) (xs : List X) (x : X) → IsOneOf (filter test xs) x → IsOneOf xs x
one_unfiltered test [] x one = absurd one
one_unfiltered test (y ∷ ys) x one = by (one_unfiltered test ys x) (test y) one
  where
    by : (IsOneOf (filter test ys) x → IsOneOf ys x) → (t : Bool) → IsOneOf (if t then y ∷ filter test ys else filter test ys) x → IsOneOf (y ∷ ys) x
    by behind true (inl here) = inl here
    by behind true (inr there) = inr (behind there)
    by behind false there = inr (behind there)

-- a row that stays is one of those that there were
pub kept_contained : (disks : List ℕ) (rows : List PvRow) (row : PvRow) → Contains (filter (λ (r : PvRow). not (is_in disks r.disk)) rows) row → Contains rows row
kept_contained disks rows row among = contains rows row (one_unfiltered (stays disks) rows row (one_of (filter (stays disks) rows) row among.0 among.1 among.2))

-- and the disk of each is a member's
pub contained_is : (rows : List PvRow) (row : PvRow) → Contains rows row → list_any (λ (r : PvRow). r.disk == row.disk) rows ≡ true
contained_is rows row among = one_any (λ (r : PvRow). r.disk == row.disk) rows row (one_of rows row among.0 among.1 among.2) (eq-eqb row.disk row.disk refl)

-- ---- rows

any_first : (rows : List StatusRow) (disk : ℕ) (more : StatusRow → Bool) → list_any (λ (row : StatusRow). row.disk == disk && more row) rows ≡ true → list_any (λ (row : StatusRow). row.disk == disk) rows ≡ true
any_first [] disk more is = absurd (cc is)
any_first (row ∷ rows) disk more is = by (row.disk == disk) (more row) is (any_first rows disk more)
  where
    by : (t m : Bool) → (t && m) || list_any (λ (r : StatusRow). r.disk == disk && more r) rows ≡ true
        → (list_any (λ (r : StatusRow). r.disk == disk && more r) rows ≡ true → list_any (λ (r : StatusRow). r.disk == disk) rows ≡ true) → t || list_any (λ (r : StatusRow). r.disk == disk) rows ≡ true
    by true m is rest = refl
    by false m is rest = rest is

-- what is said of a disk is said in its row
pub missing_has_row : (s : Status) (disk : ℕ) → IsTrue (calls_missing s disk) → IsTrue (has_row s disk)
missing_has_row s disk is = any_first s.rows disk (λ (row : StatusRow). row.missing) is

pub stale_has_row : (s : Status) (p : Pp) → IsTrue (calls_stale s p) → IsTrue (has_row s p.disk)
stale_has_row s p is = any_first s.rows p.disk (λ (row : StatusRow). has_bit row.stale p.pp) is

-- The plan of a varyon, and the status with which its group goes on.
use Rattle.std.proofs.Common.{◌≡◌, ℕ, suc, ◌≤◌, ◌++◌, Bool, true, false, List, [], ◌∷◌, length, filter, Option, Some, None, Result, Ok, Err, refl, sym, ap, subst, ◌∙◌, arith}
use Rattle.std.specs.Prelude.{IfOk, IfSome, if◌then◌else◌, nat_lt, option_map}
use Rattle.std.proofs.lemmas.Bool.{ltb-true}
use Rattle.std.proofs.lemmas.Bool.Decides.{nat_tests}
use Rattle.lvm_num.specs.declared.Memory.{Memory}
use Rattle.lvm_num.specs.declared.record.Stamp.{Stamp}
use Rattle.lvm_num.specs.declared.descriptor.Descriptor.{Descriptor}
use Rattle.lvm_num.specs.declared.status.Status.{Status}
use Rattle.lvm_num.specs.Descriptor.{IsValid}
use Rattle.lvm_num.specs.Disks.{Disks, has}
use Rattle.lvm_num.specs.Status.{IsValidStatus}
use Rattle.lvm_num.specs.StatusBytes.{status_bytes}
use Rattle.lvm_quorum.specs.declared.row.Survey.{Survey}
use Rattle.lvm_quorum.specs.Surveyed.{surveyed}
use Rattle.lvm_quorum.specs.declared.choice.Choice.{Choice}
use Rattle.lvm_rec.specs.declared.homes.Homes.{Homes}
use Rattle.lvm_core.specs.Starting.{IsReservedFor}
use Rattle.lvm_write.specs.Next.{IsNextStatus}
use Rattle.lvm_recovery.specs.Clean.{is_still_dirty, left_dirty}
use Rattle.lvm_recovery.specs.Plan.{ArePlannedInOrder, copies_dirty}
use Rattle.lvm_varyon.specs.passed.Recovery.{ArePlanned, Recopy}
use Rattle.lvm_varyon.specs.passed.Tidying.{IsCleaned}
use Rattle.lvm_varyon.specs.passed.Core.{Room}
use Rattle.lvm_varyon.proofs.passed.Recovery.{left_dirty_is_cleaned, left_dirty_valid}
use Rattle.lvm_varyon.specs.declared.plan.Copying.{Copying}
use Rattle.lvm_varyon.specs.declared.plan.Plan.{Plan}
use Rattle.lvm_varyon.specs.Copied.{all_copies}
use Rattle.lvm_varyon.specs.Planned.{IsCopyingOf, IsPlanFor, IsPlanOfChoice}
use Rattle.lvm_varyon.specs.Second.{IsSecond, status_after}

-- ---- numbers that are left

fewer : (q : ℕ → Bool) (xs : List ℕ) → length (filter q xs) ≤ length xs
fewer q [] = omega arith
fewer q (x ∷ xs) = by (q x) (fewer q xs)
  where
    by : (t : Bool) → length (filter q xs) ≤ length xs → length (if t then x ∷ filter q xs else filter q xs) ≤ suc (length xs)
    by true less = omega (arith, less)
    by false less = omega (arith, less)

-- where they are as many they are the same
all_left : (q : ℕ → Bool) (xs : List ℕ) → length xs ≤ length (filter q xs) → filter q xs ≡ xs
all_left q [] all = refl
all_left q (x ∷ xs) all = by (q x) (all_left q xs) all
  where
    by : (t : Bool) → (length xs ≤ length (filter q xs) → filter q xs ≡ xs) → suc (length xs) ≤ length (if t then x ∷ filter q xs else filter q xs) → (if t then x ∷ filter q xs else filter q xs) ≡ x ∷ xs
    by true again less = ap (λ (l : List ℕ). x ∷ l) (again (omega (arith, less)))
    by false again less = let most = fewer q xs in absurd (omega (arith, less, most))

-- ---- the status with which the group goes on

module _ (group : Descriptor) (was next : Status) (there : Disks) where
  abbrev left : Status
  left = left_dirty group was there next

  abbrev goes : Bool
  goes = nat_lt (length left.dirty) (length next.dirty)

  -- where marks go
  abbrev pub clean_of : Bool → Option Status
  clean_of true = Some left
  clean_of false = None

  same_left : nat_lt (length (filter (is_still_dirty group was there) next.dirty)) (length next.dirty) ≡ false → left ≡ next
  same_left none = ap (λ (l : List ℕ). record next { dirty = l }) (all_left (is_still_dirty group was there) next.dirty (grind (arith, nat_tests, none)))

  pub is_second : (stamp : Stamp) → IsCleaned group there (record { stamp = stamp; value = next }) left → (t : Bool) → goes ≡ t → IsSecond group there (record { stamp = stamp; value = next }) (clean_of t)
  is_second stamp cleaned true some = (cleaned, λ e. let less = ltb-true (length left.dirty) (length next.dirty) some in let same = ap (λ (s : Status). length s.dirty) e in absurd (omega (arith, less, same)))
  is_second stamp cleaned false none = subst (IsCleaned group there (record { stamp = stamp; value = next })) (same_left none) cleaned

  pub is_good : IsValidStatus next → (t : Bool) → IfSome (clean_of t) IsValidStatus
  is_good valid true = left_dirty_valid group was next there valid
  is_good valid false = tt

  pub same_bytes : (t : Bool) → (if t then Some (status_bytes left) else None) ≡ option_map status_bytes (clean_of t)
  same_bytes true = refl
  same_bytes false = refl

  pub after_is : (t : Bool) → goes ≡ t → left ≡ status_after next (clean_of t)
  after_is true some = refl
  after_is false none = same_left none

-- the plan with the next status is the one of the choice
pub planned_for : (survey : Survey) (choice : Choice) (copying : Copying) (next : Status) (homes : Homes) (room : Room) → IsValid choice.descriptor
    → ((stamp : Stamp) → IsNextStatus choice.descriptor (has choice.answering) (record { stamp = stamp; value = choice.status }) next)
    → IsCopyingOf survey choice copying
    → (r : Result Plan Memory) → IfOk r (IsPlanOfChoice (record choice { status = next }) copying homes room) → IfOk r (IsPlanFor survey choice homes room)
planned_for survey choice copying next homes room valid next_is of (Err why) is = tt
planned_for survey choice copying next homes room valid next_is of (Ok plan) is = record {
  next = next;
  next_is = next_is;
  clean = clean_of group choice.status next there t;
  clean_is = λ stamp. is_second group choice.status next there stamp (cleaned stamp) t refl;
  clean_valid = is_good group choice.status next there (next_is no_stamp).valid t;
  descriptor = is.descriptor;
  status = is.status;
  second = is.last.second ∙ ap (λ (s : Status). if nat_lt (length s.dirty) (length next.dirty) then Some (status_bytes s) else None) left_is ∙ same_bytes group choice.status next there t;
  targets = is.targets;
  copies = λ stamp. subst (λ (l : List Recopy). ArePlanned (surveyed survey) group (Some (record { stamp = stamp; value = choice.status })) there l) (sym copies_are) (of.planned stamp);
  order = subst (λ (l : List Recopy). ArePlannedInOrder (surveyed survey) group choice.status there l) (sym copies_are) of.order;
  same_homes = is.same_homes;
  parts = subst (λ (s : Status). IsReservedFor group s room plan.parts) (left_is ∙ after_is group choice.status next there t refl) is.last.parts;
}
  where
    no_stamp : Stamp
    no_stamp = record { epoch = 0; seq = 0 }

    group : Descriptor
    group = choice.descriptor

    there : Disks
    there = has choice.answering

    t : Bool
    t = nat_lt (length (left_dirty choice.descriptor choice.status (has choice.answering) next).dirty) (length next.dirty)

    cleaned : (stamp : Stamp) → IsCleaned choice.descriptor (has choice.answering) (record { stamp = stamp; value = next }) (left_dirty choice.descriptor choice.status (has choice.answering) next)
    cleaned stamp = (left_dirty_is_cleaned choice.descriptor (record { stamp = stamp; value = choice.status }) (record { stamp = stamp; value = next }) (has choice.answering) valid (next_is stamp)).cleaned

    left_is : is.last.clean ≡ left_dirty choice.descriptor choice.status (has choice.answering) next
    left_is = is.last.is ∙ ap (λ (s : Status). left_dirty choice.descriptor s (has choice.answering) next) of.table

    copies_are : all_copies plan ≡ copying.copies ++ copies_dirty choice.descriptor choice.status (has choice.answering)
    copies_are = (λ i. (is.same_copying i).copies ++ copies_dirty plan.parts.descriptor (is.same_copying i).table (has plan.targets))
        ∙ (λ i. copying.copies ++ copies_dirty (is.last.parts.descriptor i) (of.table i) (has (is.targets i)))

-- What is found in a descriptor.
use Rattle.std.proofs.Common.{◌≡◌, ◌≤◌, length, subst, arith, ℕ, List, [], ◌∷◌, Bool, true, false, ◌||◌, Option, Some, None, is_some, if◌then◌else◌, eq-eqb, refl, sym, ◌∙◌, ap}
use Rattle.std.specs.Prelude.{◌==◌, IsSome, Contains}
use Rattle.std.specs.List.{find, list_any}
use Rattle.std.proofs.lemmas.List.Elements.{All-contains}
use Rattle.lvm_num.proofs.MarksLemmas.Maps.{find-None}
use Rattle.lvm_num.specs.declared.descriptor.Descriptor.{Descriptor}
use Rattle.lvm_num.specs.declared.descriptor.LvRow.{LvRow}
use Rattle.lvm_num.specs.declared.descriptor.PvRow.{PvRow}
use Rattle.lvm_num.specs.declared.status.Status.{Status}
use Rattle.lvm_core.specs.Looking.{IsNumberOf}

-- some element passes exactly where one is found
pub found_where_any : {X : Type 0} (p : X → Bool) (xs : List X) → list_any p xs ≡ is_some (find p xs)
found_where_any p [] = refl
found_where_any {X} p (x ∷ xs) = go (p x) refl (found_where_any p xs)
  where
    go : (b : Bool) → p x ≡ b → list_any p xs ≡ is_some (find p xs) → list_any p (x ∷ xs) ≡ is_some (find p (x ∷ xs))
    go true is rest = ap (λ (b : Bool). b || list_any p xs) is ∙ sym (ap (λ (b : Bool). is_some (if b then Some x else find p xs)) is)
    go false is rest = ap (λ (b : Bool). b || list_any p xs) is ∙ rest ∙ sym (ap (λ (b : Bool). is_some (if b then Some x else find p xs)) is)

-- what is found where an element of the list passes
passes_found : {X : Type 0} (p : X → Bool) (xs : List X) (x : X) → Contains xs x → p x ≡ true → IsSome (find p xs)
passes_found {X} p xs x among passes = go (find p xs) refl
  where
    go : (o : Option X) → find p xs ≡ o → IsSome (find p xs)
    go (Some y) is = ap is_some is
    go None is = let fails = All-contains (λ y. p y ≡ false) xs x (find-None p xs is) among in absurd (cc (fails, passes))

-- a volume of the number is there
pub there : (lvs : List LvRow) (name : List ℕ) (lv : ℕ) → IsNumberOf lvs name lv → IsSome (find (λ (row : LvRow). row.number == lv) lvs)
there lvs name lv its = passes_found (λ (row : LvRow). row.number == lv) lvs its.row its.among (eq-eqb its.row.number lv its.its)

-- the member that is there
pub a_member : (o : Option PvRow) → is_some o ≡ true → (row : PvRow) × (o ≡ Some row)
a_member (Some row) is = (row, refl)
a_member None is = absurd (cc (is))

pub no_member : (o : Option PvRow) → is_some o ≡ false → o ≡ None
no_member None is = refl
no_member (Some row) is = absurd (cc (is))

-- what is shown of a group with its status, by another name of both
pub shown_as : (P : Descriptor → Status → Type 0) (group other : Descriptor) (status its : Status) → group ≡ other → status ≡ its → P group status → P other its
shown_as P group other status its same_group same_status shows = subst (λ (t : Status). P other t) same_status (subst (λ (d : Descriptor). P d status) same_group shows)

-- no rows
pub none_few : {X : Type 0} (xs : List X) → length xs ≤ 0 → xs ≡ []
none_few [] few = refl
none_few (x ∷ xs) few = absurd (omega (arith, few))

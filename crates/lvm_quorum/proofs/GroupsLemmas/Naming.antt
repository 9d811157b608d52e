-- Which groups have a name, row by row.
use Rattle.std.proofs.Common.{◌≡◌, inl, inr, ℕ, ◌+◌, ◌<◌, ◌≤◌, List, length, Option, Some, None, sym, ap, subst, ◌∙◌, arith, below_more}
use Rattle.std.specs.Prelude.{slice_get}
use Rattle.std.proofs.lemmas.Bool.{cases_lt}
use Rattle.lvm_num.specs.declared.descriptor.Descriptor.{Descriptor}
use Rattle.lvm_num.specs.Record.{Stamped}
use Rattle.lvm_quorum.specs.declared.row.SurveyRow.{SurveyRow}
use Rattle.lvm_quorum.specs.declared.row.Survey.{Survey}
use Rattle.lvm_quorum.specs.Surveyed.{surveyed}
use Rattle.lvm_quorum.specs.Reading.{under}
use Rattle.lvm_quorum.specs.Choosing.{HasName}
use Rattle.lvm_quorum.specs.Groups.{IsNamedBy}
use Rattle.lvm_quorum.proofs.SurveyedLemmas.SurveyRows.{descriptor_shown, descriptor_past}

-- a disk gives the name to one group
pub one_id : (o : Option (Stamped Descriptor)) (name : List ℕ) (a b : ℕ) → IsNamedBy o name a → IsNamedBy o name b → a ≡ b
one_id o name a b x y = let same : x.newest ≡ y.newest = cc in sym x.its ∙ ap (λ (r : Stamped Descriptor). r.value.id) same ∙ y.its

-- what holds of the groups that the rows before and the next one name
pub named_more :
    (s : Survey) (name : List ℕ) (P : ℕ → Type 0) (i : ℕ) (row : SurveyRow) → slice_get s.rows i ≡ Some row
    → ((d : ℕ) → d < i → (id : ℕ) → IsNamedBy ((surveyed s).descriptor d) name id → P id)
    → ((id : ℕ) → IsNamedBy (under row.descriptor row.descriptor_stamp) name id → P id)
    → (d : ℕ) → d < i + 1 → (id : ℕ) → IsNamedBy ((surveyed s).descriptor d) name id → P id
named_more s name P i row at below here =
    below_more (λ d. (id : ℕ) → IsNamedBy ((surveyed s).descriptor d) name id → P id) i below
    (λ id named. here id (subst (λ (o : Option (Stamped Descriptor)). IsNamedBy o name id) (descriptor_shown s i row at) named))

-- and of those that all rows name
pub named_all :
    (s : Survey) (name : List ℕ) (P : ℕ → Type 0) (n : ℕ) → length s.rows ≤ n
    → ((d : ℕ) → d < n → (id : ℕ) → IsNamedBy ((surveyed s).descriptor d) name id → P id)
    → (id : ℕ) → HasName (surveyed s) name id → P id
named_all s name P n all below id named = elim (cases_lt named.disk n) [
  | inl less ↦ below named.disk less id (record { newest = named.newest; on = named.on; its = named.its; name = named.name })
  | inr more ↦ absurd (nothing ((surveyed s).descriptor named.disk) (descriptor_past s named.disk (omega arith)) named.newest named.on)
]
  where
    nothing : (o : Option (Stamped Descriptor)) → o ≡ None → (r : Stamped Descriptor) → o ≡ Some r → ⊥
    nothing o none r some = cc

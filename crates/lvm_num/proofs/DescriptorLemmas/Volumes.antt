-- The rows of volumes and of members, one after the other.
use Rattle.std.proofs.Common.{◌≡◌, ◌≢◌, ℕ, ◌+◌, ◌-◌, ◌<◌, Bool, List, length, get_or, take, sym, ap, ◌∙◌, arith}
use Rattle.std.specs.Prelude.{Any}
use Rattle.std.proofs.lemmas.List.{get_or-take, length-take-le, get_or_default}
use Rattle.std.proofs.lemmas.List.Elements.{All-more}
use Rattle.lvm_num.specs.declared.descriptor.LvRow.{LvRow}
use Rattle.lvm_num.specs.Descriptor.{IsVolume, AreVolumes}
use Rattle.lvm_num.proofs.Pairs.{AllPairs-more, rises-more}

-- a name among the first k volumes
abbrev pub HasName : List LvRow → List ℕ → Type 0
HasName rows name = Any (λ (row : LvRow). row.name ≡ name) rows

pub volumes-more : (big : Bool) (lvs : List LvRow) (k : ℕ) (e : LvRow) → k < length lvs
    → AreVolumes big (take k lvs) → IsVolume big (get_or lvs k e) → (0 < k → (get_or lvs (k - 1) e).number < (get_or lvs k e).number)
    → (HasName (take k lvs) (get_or lvs k e).name → ⊥) → AreVolumes big (take (k + 1) lvs)
volumes-more big lvs k e lt old here next unnamed = record {
  each = All-more (IsVolume big) lvs k e lt old.each here;
  numbers_rise = rises-more (λ (row : LvRow). row.number) lvs k e lt old.numbers_rise next;
  names_differ = AllPairs-more (λ (a b : LvRow). a.name ≢ b.name) lvs k e lt old.names_differ
      (λ i less same.
      let size : length (take k lvs) ≡ k = length-take-le k lvs (omega arith) in
      let there : get_or (take k lvs) i (get_or lvs i e) ≡ get_or lvs i e =
      get_or-take k lvs i (get_or lvs i e) less ∙ get_or_default lvs i (get_or lvs i e) e (omega arith) in
      unnamed (i, get_or lvs i e, omega arith, there, same));
}

-- among valid volumes no name comes twice
pub unnamed_before : (big : Bool) (lvs : List LvRow) (k : ℕ) (e : LvRow) → k < length lvs
    → AreVolumes big lvs → HasName (take k lvs) (get_or lvs k e).name → ⊥
unnamed_before big lvs k e lt all named =
    let size : length (take k lvs) ≡ k = length-take-le k lvs (omega arith) in
    let less : named.0 < k = omega (arith, named.2) in
    let there : get_or lvs named.0 e ≡ named.1 =
    get_or_default lvs named.0 e named.1 (omega arith) ∙ sym (get_or-take k lvs named.0 named.1 less) ∙ named.3 in
    all.names_differ named.0 k e less lt (ap (λ (row : LvRow). row.name) there ∙ named.4)

use Rattle.std.proofs.Common.{◌≡◌, ◌⊎◌, inl, inr, ⊎_elim, ℕ, ◌<◌, ◌≤◌, max, true, false, Option, Some, None, refl, sym, ap, ◌∙◌, arith}
use Rattle.std.specs.Prelude.{is_some}
use Rattle.std.proofs.lemmas.Bool.{cases_lt}
use Rattle.lvm_num.specs.declared.descriptor.Descriptor.{Descriptor}
use Rattle.lvm_num.specs.declared.status.Status.{Status}
use Rattle.lvm_quorum.specs.declared.row.SurveyRow.{SurveyRow}
use Rattle.lvm_group.specs.Judged.{HasMoment, IsLastOf}
use Rattle.lvm_group.proofs.judge.last_of.Goals as goal
use Rattle.lvm_group.proofs.judge.last_of.Goals.{then-is_some, else-is_some}

-- the epoch of the status, 0 where there is none
record IsStatusMoment (row : SurveyRow) (m : ℕ) : Type 0 where
  pub all : (status : Status) → row.status ≡ Some status → row.status_stamp.epoch ≤ m
  pub one : (m ≡ 0) ⊎ ((status : Status) × (row.status ≡ Some status) × (row.status_stamp.epoch ≡ m))

some_status : (o : Option Status) → is_some o ≡ true → (status : Status) × (o ≡ Some status)
some_status None is = absurd cc
some_status (Some status) is = (status, refl)

no_status : (o : Option Status) (status : Status) → is_some o ≡ false → o ≡ Some status → ⊥
no_status None status is same = cc
no_status (Some other) status is same = cc

with_status : (row : SurveyRow) (m : ℕ) → is_some row.status ≡ true → m ≡ row.status_stamp.epoch → IsStatusMoment row m
with_status row m is same = let status = some_status row.status is in record { all = λ other on. omega (arith, same); one = inr (status.0, status.1, sym same) }

without_status : (row : SurveyRow) (m : ℕ) → is_some row.status ≡ false → m ≡ 0 → IsStatusMoment row m
without_status row m is same = record { all = λ status on. absurd (no_status row.status status is on); one = inl same }

-- the greater of that and of the moments of a descriptor
with_descriptor : (row : SurveyRow) (group : Descriptor) (m n last : ℕ) → row.descriptor ≡ Some group → IsStatusMoment row m → n ≡ max m row.descriptor_stamp.epoch → last ≡ max n group.id → IsLastOf row last
with_descriptor row group m n last on status n-is last-is = record {
  all = λ moment has. all moment has;
  one = ⊎_elim
      (λ (id : n < group.id). inr (inr (inl (group, on, omega (arith, last-is, id)))))
      (λ (other : group.id ≤ n). ⊎_elim
      (λ (epoch : m < row.descriptor_stamp.epoch). inr (inl (group, on, omega (arith, last-is, n-is, other, epoch))))
      (λ (its : row.descriptor_stamp.epoch ≤ m).
      let same : last ≡ m = omega (arith, last-is, n-is, other, its) in
      ⊎_elim (λ (z : m ≡ 0). inl (same ∙ z)) (λ (has : (s : Status) × (row.status ≡ Some s) × (row.status_stamp.epoch ≡ m)). inr (inr (inr (has.0, has.1, has.2 ∙ sym same)))) status.one)
      (cases_lt m row.descriptor_stamp.epoch))
      (cases_lt n group.id);
}
  where
    same_group : (a b : Descriptor) → Some a ≡ Some b → a ≡ b
    same_group a b e = cc

    all : (moment : ℕ) → HasMoment row moment → moment ≤ last
    all moment (inl epoch) = let e = epoch.2 in omega (arith, e, last-is, n-is)
    all moment (inr (inl id)) =
        let same : group.id ≡ id.0.id = ap (λ (g : Descriptor). g.id) (same_group group id.0 (sym on ∙ id.1)) in
        let e = id.2 in omega (arith, e, same, last-is, n-is)
    all moment (inr (inr its)) = let le = status.all its.0 its.1 in let e = its.2 in omega (arith, e, le, last-is, n-is)

pub returns-in-Some : goal.returns-in-Some
returns-in-Some c =
    let row = c.args.row.now in
    let status : IsStatusMoment row c.if-is_some.status = elim c.if-is_some.branch [
      | then-is_some w ↦ with_status row c.if-is_some.status (sym c.is_some.ensures ∙ w.if-is_some.true) w.status-is
      | else-is_some w ↦ without_status row c.if-is_some.status (sym c.is_some.ensures ∙ w.if-is_some.false) w.status-is
    ] in
    with_descriptor row c.in-Some.group c.if-is_some.status c.max.result c.max-in-Some.result c.in-Some.is status c.max.ensures c.max-in-Some.ensures

use Rattle.std.proofs.Common.{◌≡◌, ◌⊎◌, inl, inr, ⊎_elim, ℕ, ◌<◌, ◌≤◌, max, true, false, Option, Some, None, refl, sym, ◌∙◌, arith}
use Rattle.std.specs.Prelude.{is_some}
use Rattle.std.proofs.lemmas.Bool.{cases_lt}
use Rattle.lvm_num.specs.declared.status.Status.{Status}
use Rattle.lvm_quorum.specs.declared.row.SurveyRow.{SurveyRow}
use Rattle.lvm_extend_plan.specs.Judged.{HasEpoch, IsLastOf}
use Rattle.lvm_extend_plan.proofs.shown.last_of.Goals as goal
use Rattle.lvm_extend_plan.proofs.shown.last_of.Goals.{then-is_some, else-is_some}

-- the epoch of the status, 0 where there is none
record IsStatusEpoch (row : SurveyRow) (m : ℕ) : Type 0 where
  pub all : (status : Status) → row.status ≡ Some status → row.status_stamp.epoch ≤ m
  pub one : (m ≡ 0) ⊎ ((status : Status) × (row.status ≡ Some status) × (row.status_stamp.epoch ≡ m))

some_one : {X : Type 0} (o : Option X) → is_some o ≡ true → (x : X) × (o ≡ Some x)
some_one None is = absurd cc
some_one (Some x) is = (x, refl)

no_one : {X : Type 0} (o : Option X) (x : X) → is_some o ≡ false → o ≡ Some x → ⊥
no_one None x is same = cc
no_one (Some other) x is same = cc

with_status : (row : SurveyRow) (m : ℕ) → is_some row.status ≡ true → m ≡ row.status_stamp.epoch → IsStatusEpoch row m
with_status row m is same = let status = some_one row.status is in record { all = λ other on. omega (arith, same); one = inr (status.0, status.1, sym same) }

without_status : (row : SurveyRow) (m : ℕ) → is_some row.status ≡ false → m ≡ 0 → IsStatusEpoch row m
without_status row m is same = record { all = λ status on. absurd (no_one row.status status is on); one = inl same }

-- the greater of that and of the moment of a descriptor
with_descriptor : (row : SurveyRow) (m last : ℕ) → is_some row.descriptor ≡ true → IsStatusEpoch row m → last ≡ max m row.descriptor_stamp.epoch → IsLastOf row last
with_descriptor row m last some status last-is = record {
  all = λ moment has. all moment has;
  one = ⊎_elim (λ (epoch : m < row.descriptor_stamp.epoch). inr (inl ((some_one row.descriptor some).0, (some_one row.descriptor some).1, omega (arith, last-is, epoch))))
      (λ (its : row.descriptor_stamp.epoch ≤ m).
      let same : last ≡ m = omega (arith, last-is, its) in
      ⊎_elim (λ (z : m ≡ 0). inl (same ∙ z)) (λ (has : (s : Status) × (row.status ≡ Some s) × (row.status_stamp.epoch ≡ m)). inr (inr (has.0, has.1, has.2 ∙ sym same))) status.one)
      (cases_lt m row.descriptor_stamp.epoch);
}
  where
    all : (moment : ℕ) → HasEpoch row moment → moment ≤ last
    all moment (inl epoch) = let e = epoch.2 in omega (arith, e, last-is)
    all moment (inr its) = let le = status.all its.0 its.1 in let e = its.2 in omega (arith, e, le, last-is)

-- or that alone
without_descriptor : (row : SurveyRow) (m : ℕ) → is_some row.descriptor ≡ false → IsStatusEpoch row m → IsLastOf row m
without_descriptor row m none status = record {
  all = λ moment has. all moment has;
  one = ⊎_elim (λ (z : m ≡ 0). inl z) (λ (has : (s : Status) × (row.status ≡ Some s) × (row.status_stamp.epoch ≡ m)). inr (inr has)) status.one;
}
  where
    all : (moment : ℕ) → HasEpoch row moment → moment ≤ m
    all moment (inl epoch) = absurd (no_one row.descriptor epoch.0 none epoch.1)
    all moment (inr its) = let le = status.all its.0 its.1 in let e = its.2 in omega (arith, e, le)

pub returns-then-is_some-2 : goal.returns-then-is_some-2
returns-then-is_some-2 c =
    let row = c.args.row.now in
    let status : IsStatusEpoch row c.if-is_some.status = elim c.if-is_some.branch [
      | then-is_some w ↦ with_status row c.if-is_some.status (sym c.is_some.ensures ∙ w.if-is_some.true) w.status-is
      | else-is_some w ↦ without_status row c.if-is_some.status (sym c.is_some.ensures ∙ w.if-is_some.false) w.status-is
    ] in
    with_descriptor row c.if-is_some.status c.max.result (sym c.is_some-2.ensures ∙ c.if-is_some-2.true) status c.max.ensures

pub returns-else-is_some-2 : goal.returns-else-is_some-2
returns-else-is_some-2 c =
    let row = c.args.row.now in
    let status : IsStatusEpoch row c.if-is_some.status = elim c.if-is_some.branch [
      | then-is_some w ↦ with_status row c.if-is_some.status (sym c.is_some.ensures ∙ w.if-is_some.true) w.status-is
      | else-is_some w ↦ without_status row c.if-is_some.status (sym c.is_some.ensures ∙ w.if-is_some.false) w.status-is
    ] in
    without_descriptor row c.if-is_some.status (sym c.is_some-2.ensures ∙ c.if-is_some-2.false) status

-- Two statuses that a test calls equal are one.
use Rattle.std.proofs.Common.{◌≡◌, Bool, true, false, ◌&&◌, refl, subst, eqb}
use Rattle.std.proofs.Math.Bool.{beq}
use Rattle.std.proofs.lemmas.Bool.{eq-eqb, eqb-true, false≢true, and_from}
use lib.Pointwise.{pointwise, pointwise_decides, bytes_decides}
use Rattle.lvm_status.specs.passed.Num.{StatusRow, Status}
use Rattle.lvm_status.proofs.passed.Num.{first_holds, second_holds}

bools : (a b : Bool) → beq a b ≡ true → a ≡ b
bools true true e = refl
bools true false e = absurd (false≢true e)
bools false true e = absurd (false≢true e)
bools false false e = refl

bools_own : (a : Bool) → beq a a ≡ true
bools_own true = refl
bools_own false = refl

-- ---- rows

abbrev same_row : StatusRow → StatusRow → Bool
same_row x y = eqb x.disk y.disk && (beq x.missing y.missing && pointwise eqb x.stale y.stale)

rows_one : (x y : StatusRow) → same_row x y ≡ true → x ≡ y
rows_one x y e =
    let rest : beq x.missing y.missing && pointwise eqb x.stale y.stale ≡ true = second_holds (eqb x.disk y.disk) (beq x.missing y.missing && pointwise eqb x.stale y.stale) e in
    let disk = eqb-true x.disk y.disk (first_holds (eqb x.disk y.disk) (beq x.missing y.missing && pointwise eqb x.stale y.stale) e) in
    let missing = bools x.missing y.missing (first_holds (beq x.missing y.missing) (pointwise eqb x.stale y.stale) rest) in
    let stale = (bytes_decides x.stale y.stale).0 (second_holds (beq x.missing y.missing) (pointwise eqb x.stale y.stale) rest) in
    λ t. record { disk = disk t; missing = missing t; stale = stale t }

row_own : (x : StatusRow) → same_row x x ≡ true
row_own x =
    and_from (eqb x.disk x.disk) (beq x.missing x.missing && pointwise eqb x.stale x.stale) (eq-eqb x.disk x.disk refl)
    (and_from (beq x.missing x.missing) (pointwise eqb x.stale x.stale) (bools_own x.missing) ((bytes_decides x.stale x.stale).1 refl))

rows_decide : (x y : StatusRow) → (same_row x y ≡ true → x ≡ y) × (x ≡ y → same_row x y ≡ true)
rows_decide x y = (rows_one x y, λ e. subst (λ (z : StatusRow). same_row x z ≡ true) e (row_own x))

-- ---- statuses

abbrev pub same_status : Status → Status → Bool
same_status x y = eqb x.id y.id && (beq x.big y.big && (pointwise eqb x.dirty y.dirty && pointwise same_row x.rows y.rows))

pub status_one : (x y : Status) → same_status x y ≡ true → x ≡ y
status_one x y e =
    let rest = second_holds (eqb x.id y.id) (beq x.big y.big && (pointwise eqb x.dirty y.dirty && pointwise same_row x.rows y.rows)) e in
    let last = second_holds (beq x.big y.big) (pointwise eqb x.dirty y.dirty && pointwise same_row x.rows y.rows) rest in
    let id = eqb-true x.id y.id (first_holds (eqb x.id y.id) (beq x.big y.big && (pointwise eqb x.dirty y.dirty && pointwise same_row x.rows y.rows)) e) in
    let big = bools x.big y.big (first_holds (beq x.big y.big) (pointwise eqb x.dirty y.dirty && pointwise same_row x.rows y.rows) rest) in
    let dirty = (bytes_decides x.dirty y.dirty).0 (first_holds (pointwise eqb x.dirty y.dirty) (pointwise same_row x.rows y.rows) last) in
    let rows = (pointwise_decides rows_decide x.rows y.rows).0 (second_holds (pointwise eqb x.dirty y.dirty) (pointwise same_row x.rows y.rows) last) in
    λ t. record { id = id t; big = big t; dirty = dirty t; rows = rows t }

pub status_own : (x : Status) → same_status x x ≡ true
status_own x =
    and_from (eqb x.id x.id) (beq x.big x.big && (pointwise eqb x.dirty x.dirty && pointwise same_row x.rows x.rows)) (eq-eqb x.id x.id refl)
    (and_from (beq x.big x.big) (pointwise eqb x.dirty x.dirty && pointwise same_row x.rows x.rows) (bools_own x.big)
    (and_from (pointwise eqb x.dirty x.dirty) (pointwise same_row x.rows x.rows) ((bytes_decides x.dirty x.dirty).1 refl) ((pointwise_decides rows_decide x.rows x.rows).1 refl)))

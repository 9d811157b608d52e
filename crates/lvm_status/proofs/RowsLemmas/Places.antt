-- The rows of a table, of which one is put over the one at its place.
use Rattle.std.proofs.Common.{◌≡◌, ◌≢◌, inl, inr, ℕ, zero, suc, ◌<◌, Bool, true, false, ◌&&◌, ◌||◌, not, List, [], ◌∷◌, length, map, get_or, set, refl, sym, ap, ◌∙◌, arith}
use Rattle.std.specs.Prelude.{◌==◌, if◌then◌else◌, AllPairs}
use Rattle.std.specs.List.{list_any}
use Rattle.std.proofs.lemmas.Bool.{cases_eq, eq-eqb, ne_eqb}
use Rattle.std.proofs.lemmas.Bool.Decides.{eqb_tells}
use Rattle.std.proofs.lemmas.List.{length-set}
use Rattle.std.proofs.lemmas.List.Elements.{All-set}
use Rattle.std.proofs.lemmas.List.Folds.{list_any_none}
use Rattle.lvm_num.specs.declared.place.Pp.{Pp}
use Rattle.lvm_num.specs.declared.status.StatusRow.{StatusRow}
use Rattle.lvm_num.specs.declared.status.Status.{Status}
use Rattle.lvm_num.specs.Bits.{has_bit}
use Rattle.lvm_num.specs.Status.{calls_stale, calls_missing, IsStatusRow, IsValidStatus}
use Rattle.lvm_num.proofs.Pairs.{AllPairs-right}
use Rattle.lvm_status.specs.Rows.{IsRowAt, with_row_at}
use Rattle.lvm_status.specs.Table.{SameMembers}
use Rattle.lvm_num.specs.Descriptor.{is_pp}
use Rattle.lvm_num.proofs.DisksLemmas.{or-false, and-true}

-- disks that rise
abbrev pub Rise : List StatusRow → Type 0
Rise rows = AllPairs (λ (a b : StatusRow). a.disk < b.disk) rows

pub rise-tail : (first : StatusRow) (rows : List StatusRow) → Rise (first ∷ rows) → Rise rows
rise-tail first rows rise = AllPairs-right (λ (a b : StatusRow). a.disk < b.disk) (first ∷ []) rows rise

-- a later row is that of a greater disk
later : (first : StatusRow) (rows : List StatusRow) → Rise (first ∷ rows) → (k : ℕ) (d : StatusRow) → k < length rows → first.disk < (get_or rows k d).disk
later first rows rise k d lt = rise 0 (suc k) d (omega arith) (omega (arith, lt))

-- what a test says of one disk
abbrev pub says : (StatusRow → Bool) → ℕ → List StatusRow → Bool
says f disk rows = list_any (λ (row : StatusRow). row.disk == disk && f row) rows

-- no later row is that of the first one's disk
pub silent : (f : StatusRow → Bool) (first : StatusRow) (rows : List StatusRow) → Rise (first ∷ rows) → says f first.disk rows ≡ false
silent f first rows rise =
    list_any_none (λ (row : StatusRow). row.disk == first.disk && f row) rows
    (λ k d lt. let less : first.disk < (get_or rows k d).disk = later first rows rise k d lt in
    ap (λ b. b && f (get_or rows k d)) (ne_eqb (get_or rows k d).disk first.disk (omega arith)))

head-case : (f : StatusRow → Bool) (disk : ℕ) (row first : StatusRow) (rows : List StatusRow) → row.disk ≡ first.disk → Rise (first ∷ rows)
    → (row.disk == disk && f row) || says f disk rows ≡ (if row.disk == disk then f row else (first.disk == disk && f first) || says f disk rows)
head-case f disk row first rows same rise = elim (eqb_tells row.disk disk) [
  | inl is ↦
      let none : says f disk rows ≡ false = ap (λ n. says f n rows) (sym is.1 ∙ same) ∙ silent f first rows rise in
      rw (is.0, none) (or_nothing (f row))
  | inr isnt ↦
      let other : first.disk == disk ≡ false = ap (λ n. n == disk) (sym same) ∙ isnt.0 in
      rw (isnt.0, other) refl
]
  where
    or_nothing : (b : Bool) → b || false ≡ b
    or_nothing true = refl
    or_nothing false = refl

tail-case : (f : StatusRow → Bool) (disk : ℕ) (row first : StatusRow) (rows : List StatusRow) (now : Bool) → first.disk < row.disk
    → now ≡ (if row.disk == disk then f row else says f disk rows)
    → (first.disk == disk && f first) || now ≡ (if row.disk == disk then f row else (first.disk == disk && f first) || says f disk rows)
tail-case f disk row first rows now less is = elim (eqb_tells row.disk disk) [
  | inl same ↦
      let other : first.disk == disk ≡ false = ne_eqb first.disk disk (omega (arith, same.1)) in
      rw (is, same.0, other) refl
  | inr isnt ↦ rw (is, isnt.0) refl
]

-- what a test says of a disk after one row was put over another of its disk
pub says-set : (f : StatusRow → Bool) (disk : ℕ) (rows : List StatusRow) (i : ℕ) (row : StatusRow) → Rise rows → i < length rows → (get_or rows i row).disk ≡ row.disk
    → says f disk (set rows i row) ≡ (if row.disk == disk then f row else says f disk rows)
says-set f disk [] i row rise lt its = absurd (omega (arith, lt))
says-set f disk (first ∷ rows) zero row rise lt its = head-case f disk row first rows (sym its) rise
says-set f disk (first ∷ rows) (suc i) row rise lt its =
    let less : first.disk < row.disk = omega (arith, later first rows rise i row (omega (arith, lt)), its) in
    tail-case f disk row first rows (says f disk (set rows i row)) less (says-set f disk rows i row (rise-tail first rows rise) (omega (arith, lt)) its)

-- a row put over itself
set-itself : {X : Type 0} (xs : List X) (i : ℕ) (x : X) → get_or xs i x ≡ x → set xs i x ≡ xs
set-itself [] i x is = refl
set-itself (y ∷ ys) zero x is = ap (λ z. z ∷ ys) (sym is)
set-itself (y ∷ ys) (suc i) x is = ap (λ zs. y ∷ zs) (set-itself ys i x is)

-- what a test says of a disk by its row
pub says-at : (f : StatusRow → Bool) (disk : ℕ) (rows : List StatusRow) (i : ℕ) (row : StatusRow) → Rise rows → i < length rows → get_or rows i row ≡ row
    → says f disk rows ≡ (if row.disk == disk then f row else says f disk rows)
says-at f disk rows i row rise lt is =
    ap (says f disk) (sym (set-itself rows i row is)) ∙ says-set f disk rows i row rise lt (ap (λ (r : StatusRow). r.disk) is)

-- the disks are those that were there
map-set_same : (rows : List StatusRow) (i : ℕ) (row : StatusRow) → i < length rows → (get_or rows i row).disk ≡ row.disk
    → map (λ (r : StatusRow). r.disk) (set rows i row) ≡ map (λ (r : StatusRow). r.disk) rows
map-set_same [] i row lt its = absurd (omega (arith, lt))
map-set_same (first ∷ rows) zero row lt its = ap (λ n. n ∷ map (λ (r : StatusRow). r.disk) rows) (sym its)
map-set_same (first ∷ rows) (suc i) row lt its = ap (λ ns. first.disk ∷ ns) (map-set_same rows i row (omega (arith, lt)) its)

disk-set : (rows : List StatusRow) (i : ℕ) (row : StatusRow) (k : ℕ) (d : StatusRow) → k < length rows → (get_or rows i row).disk ≡ row.disk
    → (get_or (set rows i row) k d).disk ≡ (get_or rows k d).disk
disk-set [] i row k d lt its = refl
disk-set (first ∷ rows) zero row zero d lt its = sym its
disk-set (first ∷ rows) zero row (suc k) d lt its = refl
disk-set (first ∷ rows) (suc i) row zero d lt its = refl
disk-set (first ∷ rows) (suc i) row (suc k) d lt its = disk-set rows i row k d (omega (arith, lt)) its

rise-set : (rows : List StatusRow) (i : ℕ) (row : StatusRow) → (get_or rows i row).disk ≡ row.disk → Rise rows → Rise (set rows i row)
rise-set rows i row its rise a b d less lt =
    let within : b < length rows = omega (arith, lt, length-set {A = StatusRow}) in
    let a-is = disk-set rows i row a d (omega arith) its in
    let b-is = disk-set rows i row b d within its in
    let old = rise a b d less within in
    omega (arith, a-is, b-is, old)

pub with_row_at-members : (s : Status) (disk place : ℕ) (was row : StatusRow) → IsValidStatus s → IsRowAt s.rows disk place was → row.disk ≡ was.disk → length row.stale ≡ 127
    → SameMembers s (with_row_at s place row)
with_row_at-members s disk place was row valid at same size =
    let its : (get_or s.rows place row).disk ≡ row.disk = ap (λ (r : StatusRow). r.disk) (at.there row) ∙ sym same in
    let here : IsStatusRow row = record {
      disk = omega (arith, valid.rows.each place row at.within, its);
      size = size;
    } in
    let count = length-set s.rows place row in
    record {
      id = refl;
      big = refl;
      disks = map-set_same s.rows place row at.within its;
      valid = record {
        some_id = valid.some_id;
        id = valid.id;
        a_row = omega (arith, valid.a_row, count);
        rows_fit = rw count valid.rows_fit;
        rows = record {
          each = All-set IsStatusRow s.rows place row here valid.rows.each;
          disks_rise = rise-set s.rows place row its valid.rows.disks_rise;
        };
        dirty = valid.dirty;
      };
    }

-- what a test says after a change of one disk's row
module _ (s : Status) (disk place : ℕ) (was row : StatusRow) (valid : IsValidStatus s) (at : IsRowAt s.rows disk place was) (same : row.disk ≡ was.disk) where
  after : (f : StatusRow → Bool) (d : ℕ) → says f d (set s.rows place row) ≡ (if row.disk == d then f row else says f d s.rows)
  after f d = says-set f d s.rows place row valid.rows.disks_rise at.within (ap (λ (r : StatusRow). r.disk) (at.there row) ∙ sym same)

  before : (f : StatusRow → Bool) (d : ℕ) → says f d s.rows ≡ (if was.disk == d then f was else says f d s.rows)
  before f d = says-at f d s.rows place was valid.rows.disks_rise at.within (at.there was)

-- a test that says the same of the new row says the same
pub with_row_at-same : (s : Status) (disk place : ℕ) (was row : StatusRow) → IsValidStatus s → IsRowAt s.rows disk place was → row.disk ≡ was.disk
    → (f : StatusRow → Bool) → f row ≡ f was → (d : ℕ) → says f d (set s.rows place row) ≡ says f d s.rows
with_row_at-same s disk place was row valid at same f is d =
    after s disk place was row valid at same f d
    ∙ ap (λ b. if row.disk == d then b else says f d s.rows) is
    ∙ ap (λ n. if n == d then f was else says f d s.rows) same
    ∙ sym (before s disk place was row valid at same f d)

-- what is said of the disk itself, and of another
pub with_row_at-its : (s : Status) (disk place : ℕ) (was row : StatusRow) → IsValidStatus s → IsRowAt s.rows disk place was → row.disk ≡ was.disk
    → (f : StatusRow → Bool) → (d : ℕ) → disk ≡ d → (says f d (set s.rows place row) ≡ f row) × (says f d s.rows ≡ f was)
with_row_at-its s disk place was row valid at same f d it =
    let was-is : was.disk == d ≡ true = eq-eqb was.disk d (at.its ∙ it) in
    let row-is : row.disk == d ≡ true = eq-eqb row.disk d (same ∙ at.its ∙ it) in (
      after s disk place was row valid at same f d ∙ ap (λ b. if b then f row else says f d s.rows) row-is,
      before s disk place was row valid at same f d ∙ ap (λ b. if b then f was else says f d s.rows) was-is,
    )

pub with_row_at-other : (s : Status) (disk place : ℕ) (was row : StatusRow) → IsValidStatus s → IsRowAt s.rows disk place was → row.disk ≡ was.disk
    → (f : StatusRow → Bool) → (d : ℕ) → disk ≢ d → says f d (set s.rows place row) ≡ says f d s.rows
with_row_at-other s disk place was row valid at same f d apart =
    let row-is : row.disk == d ≡ false = ne_eqb row.disk d (λ e. apart (sym at.its ∙ sym same ∙ e)) in
    after s disk place was row valid at same f d ∙ ap (λ b. if b then f row else says f d s.rows) row-is

-- ---- what each change says

-- the partitions of another disk are others
another : (p pp : Pp) → pp.disk ≢ p.disk → is_pp p pp ≡ false
another p pp apart = ap (λ b. b && p.pp == pp.pp) (ne_eqb p.disk pp.disk (λ e. apart (sym e)))

its_number : (p pp : Pp) → pp.disk ≡ p.disk → is_pp p pp ≡ (p.pp == pp.pp)
its_number p pp is = ap (λ b. b && p.pp == pp.pp) (eq-eqb p.disk pp.disk (sym is))

pub marked : (s : Status) (pp : Pp) (place : ℕ) (was row : StatusRow) → IsValidStatus s → IsRowAt s.rows pp.disk place was → row.disk ≡ was.disk
    → ((k : ℕ) → has_bit row.stale k ≡ has_bit was.stale k || k == pp.pp) → (p : Pp) → calls_stale (with_row_at s place row) p ≡ calls_stale s p || is_pp p pp
marked s pp place was row valid at same bits p = elim (cases_eq pp.disk p.disk) [
  | inl it ↦
      let both = with_row_at-its s pp.disk place was row valid at same (λ (r : StatusRow). has_bit r.stale p.pp) p.disk it in
      both.0 ∙ bits p.pp ∙ ap (λ b. b || p.pp == pp.pp) (sym both.1) ∙ ap (λ b. calls_stale s p || b) (sym (its_number p pp it))
  | inr apart ↦
      with_row_at-other s pp.disk place was row valid at same (λ (r : StatusRow). has_bit r.stale p.pp) p.disk apart
      ∙ or-false (calls_stale s p) (is_pp p pp) (another p pp apart)
]

pub cleared : (s : Status) (pp : Pp) (place : ℕ) (was row : StatusRow) → IsValidStatus s → IsRowAt s.rows pp.disk place was → row.disk ≡ was.disk
    → ((k : ℕ) → has_bit row.stale k ≡ has_bit was.stale k && not (k == pp.pp)) → (p : Pp) → calls_stale (with_row_at s place row) p ≡ calls_stale s p && not (is_pp p pp)
cleared s pp place was row valid at same bits p = elim (cases_eq pp.disk p.disk) [
  | inl it ↦
      let both = with_row_at-its s pp.disk place was row valid at same (λ (r : StatusRow). has_bit r.stale p.pp) p.disk it in
      both.0 ∙ bits p.pp ∙ ap (λ b. b && not (p.pp == pp.pp)) (sym both.1) ∙ ap (λ b. calls_stale s p && not b) (sym (its_number p pp it))
  | inr apart ↦
      with_row_at-other s pp.disk place was row valid at same (λ (r : StatusRow). has_bit r.stale p.pp) p.disk apart
      ∙ and-true (calls_stale s p) (is_pp p pp) (another p pp apart)
]

pub set_missing-says : (s : Status) (disk place : ℕ) (was row : StatusRow) (is : Bool) → IsValidStatus s → IsRowAt s.rows disk place was → row.disk ≡ was.disk
    → row.missing ≡ is → (d : ℕ) → calls_missing (with_row_at s place row) d ≡ (if d == disk then is else calls_missing s d)
set_missing-says s disk place was row is valid at same now d = elim (cases_eq disk d) [
  | inl it ↦
      (with_row_at-its s disk place was row valid at same (λ (r : StatusRow). r.missing) d it).0 ∙ now
      ∙ ap (λ b. if b then is else calls_missing s d) (sym (eq-eqb d disk (sym it)))
  | inr apart ↦
      with_row_at-other s disk place was row valid at same (λ (r : StatusRow). r.missing) d apart
      ∙ ap (λ b. if b then is else calls_missing s d) (sym (ne_eqb d disk (λ e. apart (sym e))))
]

-- a disk that is missing already, or is there, leaves the table as it is
pub set_missing-same : (s : Status) (disk place : ℕ) (was : StatusRow) (is : Bool) → IsValidStatus s → IsRowAt s.rows disk place was → calls_missing s disk ≡ is → with_row_at s place (record was { missing = is }) ≡ s
set_missing-same s disk place was is valid at said =
    let now : was.missing ≡ is = sym (with_row_at-its s disk place was was valid at refl (λ (r : StatusRow). r.missing) disk refl).1 ∙ said in
    ap (λ (b : Bool). with_row_at s place (record was { missing = b })) (sym now) ∙ ap (λ (rows : List StatusRow). record s { rows = rows }) (set-itself s.rows place was (at.there was))

-- The row that is found of a disk, and rows to which one is added.
use Rattle.std.proofs.Common.{◌≡◌, ◌⊎◌, inl, inr, ℕ, ◌+◌, ◌<◌, Bool, true, false, ◌||◌, ◌&&◌, ◌==◌, List, [], ◌∷◌, ◌++◌, length, get_or, Some, None, refl, sym, ap, subst, ◌∙◌, arith}
use Rattle.std.specs.Prelude.{if◌then◌else◌, not, nat_lt, find, All, AllPairs}
use Rattle.std.specs.List.{list_any}
use Rattle.std.proofs.lemmas.Option.{none-some}
use Rattle.std.proofs.lemmas.Bool.{cases_lt, cases_eq, eqb-true, and_left}
use Rattle.std.proofs.lemmas.Bool.Decides.{nat_tests}
use Rattle.std.proofs.lemmas.List.Elements.{All-tail, All-append, All-cons, All-nil}
use Rattle.std.proofs.lemmas.List.Folds.{list_any-append, list_any_none}
use Rattle.std.proofs.lemmas.List.Quantifiers.{all_pairs_push}
use Rattle.lvm_num.specs.declared.descriptor.Descriptor.{Descriptor}
use Rattle.lvm_num.specs.declared.status.StatusRow.{StatusRow}
use Rattle.lvm_num.specs.declared.status.Status.{Status}
use Rattle.lvm_num.specs.Bits.{has_bit}
use Rattle.lvm_num.specs.Descriptor.{is_member}
use Rattle.lvm_num.specs.Disks.{Disks}
use Rattle.lvm_num.specs.Status.{IsStatusRow, calls_stale}
use Rattle.lvm_num.proofs.MarksLemmas.Maps.{find-None}
use Rattle.lvm_num.proofs.Booleans.{and_true, or_when_false}
use Rattle.lvm_num.proofs.Lists.{pairs_head, pairs_tail}
use Rattle.lvm_write.specs.Rows.{AreMemberRows}

-- ---- the row of a disk

pub found_one : {X : Type 0} (P : X → Type 0) (p : X → Bool) (xs : List X) (x : X) → find p xs ≡ Some x → All P xs → P x
found_one P p [] x e all = absurd (none-some x e)
found_one P p (y ∷ ys) x e all = by_test (p y) e (λ is. found_one P p ys x is (All-tail P y ys all))
  where
    by_test : (t : Bool) → (if t then Some y else find p ys) ≡ Some x → (find p ys ≡ Some x → P x) → P x
    by_test true is rest = let same : y ≡ x = cc in subst P same (all 0 y (omega arith))
    by_test false is rest = rest is

-- whether a row says so of a disk
says : (StatusRow → Bool) → ℕ → StatusRow → Bool
says mark disk row = row.disk == disk && mark row

-- of rows in the order of their disks at most one is that of the disk
pub row_says : (mark : StatusRow → Bool) (rows : List StatusRow) (disk : ℕ) (row : StatusRow) → AllPairs (λ (a b : StatusRow). a.disk < b.disk) rows
    → find (λ (r : StatusRow). r.disk == disk) rows ≡ Some row → list_any (λ (r : StatusRow). r.disk == disk && mark r) rows ≡ mark row
row_says mark [] disk row rise e = absurd (none-some row e)
row_says mark (r ∷ rs) disk row rise e = by_test (r.disk == disk) refl e (λ is. row_says mark rs disk row (pairs_tail (λ (a b : StatusRow). a.disk < b.disk) r rs rise) is)
  where
    later : (a b : ℕ) → a < b → a ≡ disk → (b == disk) ≡ false
    later a b less at = grind (arith, nat_tests)

    by_test : (t : Bool) → (r.disk == disk) ≡ t → (if t then Some r else find (λ (x : StatusRow). x.disk == disk) rs) ≡ Some row
        → (find (λ (x : StatusRow). x.disk == disk) rs ≡ Some row → list_any (λ (x : StatusRow). x.disk == disk && mark x) rs ≡ mark row)
        → (t && mark r) || list_any (λ (x : StatusRow). x.disk == disk && mark x) rs ≡ mark row
    by_test true here is rest =
        let same : r ≡ row = cc in
        let own : r.disk ≡ disk = eqb-true r.disk disk here in
        let none : list_any (λ (x : StatusRow). x.disk == disk && mark x) rs ≡ false = list_any_none (λ (x : StatusRow). x.disk == disk && mark x) rs
        (λ k d lt. let above = pairs_head (λ (a b : StatusRow). a.disk < b.disk) r rs rise k d lt in
        and_left ((get_or rs k d).disk == disk) (mark (get_or rs k d)) (later r.disk (get_or rs k d).disk above own)) in
        or_when_false (mark r) (list_any (λ (x : StatusRow). x.disk == disk && mark x) rs) none ∙ ap mark same
    by_test false here is rest = rest is

pub no_row_says : (mark : StatusRow → Bool) (rows : List StatusRow) (disk : ℕ) → find (λ (r : StatusRow). r.disk == disk) rows ≡ None → list_any (λ (r : StatusRow). r.disk == disk && mark r) rows ≡ false
no_row_says mark rows disk none = list_any_none (λ (r : StatusRow). r.disk == disk && mark r) rows
    (λ k d lt. and_left ((get_or rows k d).disk == disk) (mark (get_or rows k d)) (find-None (λ (r : StatusRow). r.disk == disk) rows none k d lt))

-- ---- one more disk

-- what is said of the disks below one more, of which the last is said so
combine : (p q e x y : Bool) → ((p ≡ true) × (q ≡ true) × (e ≡ false)) ⊎ ((p ≡ false) × (q ≡ true) × (e ≡ true) × (y ≡ x)) ⊎ ((p ≡ false) × (q ≡ false) × (e ≡ false)) → (p && x) || (e && y) ≡ q && x
combine p q e x y (inl (a, b, c)) = rw (a, b, c) (drop x)
  where
    drop : (x : Bool) → x || false ≡ x
    drop true = refl
    drop false = refl
combine p q e x y (inr (inl (a, b, c, d))) = rw (a, b, c) d
combine p q e x y (inr (inr (a, b, c))) = rw (a, b, c) refl

pub one_more : (n d : ℕ) (x y : Bool) → (d ≡ n → y ≡ x) → (nat_lt d n && x) || ((n == d) && y) ≡ nat_lt d (n + 1) && x
one_more n d x y same = combine (nat_lt d n) (nat_lt d (n + 1)) (n == d) x y (elim (cases_lt d n) [
  | inl lt ↦ inl (grind (arith, nat_tests), grind (arith, nat_tests), grind (arith, nat_tests))
  | inr ge ↦ elim (cases_eq d n) [
    | inl eq ↦ inr (inl (grind (arith, nat_tests), grind (arith, nat_tests), grind (arith, nat_tests), same eq))
    | inr ne ↦ inr (inr (grind (arith, nat_tests), grind (arith, nat_tests), grind (arith, nat_tests)))
  ]
])

pub none_more : (n d : ℕ) (x : Bool) → (d ≡ n → x ≡ false) → nat_lt d n && x ≡ nat_lt d (n + 1) && x
none_more n d x none = sym (or_when_false (nat_lt d n && x) ((n == d) && false) (and_none (n == d))) ∙ one_more n d x false (λ e. sym (none e))
  where
    and_none : (a : Bool) → a && false ≡ false
    and_none true = refl
    and_none false = refl

assoc : (a b c : Bool) → (a && b) && c ≡ a && (b && c)
assoc true b c = refl
assoc false b c = refl

module _ (group : Descriptor) (answering : Disks) (was : Status) (n : ℕ) (rows : List StatusRow) (are : AreMemberRows group answering was n rows) where
  pub rows_same : is_member group n ≡ false → AreMemberRows group answering was (n + 1) rows
  rows_same none = record {
    rows_rise = are.rows_rise;
    low = λ k d lt. (let low = are.low k d lt in omega (arith, low));
    have = λ d. are.have d ∙ none_more n d (is_member group d) (λ e. ap (is_member group) e ∙ none);
    missing = λ d. are.missing d ∙ assoc (nat_lt d n) (is_member group d) (not (answering d)) ∙ none_more n d (is_member group d && not (answering d)) (λ e. and_left (is_member group d) (not (answering d)) (ap (is_member group) e ∙ none))
        ∙ sym (assoc (nat_lt d (n + 1)) (is_member group d) (not (answering d)));
    stale = λ p. are.stale p ∙ assoc (nat_lt p.disk n) (is_member group p.disk) (calls_stale was p) ∙ none_more n p.disk (is_member group p.disk && calls_stale was p) (λ e. and_left (is_member group p.disk) (calls_stale was p) (ap (is_member group) e ∙ none))
        ∙ sym (assoc (nat_lt p.disk (n + 1)) (is_member group p.disk) (calls_stale was p));
  }

  -- the row is that of the next disk
  module _ (row : StatusRow) (here : row.disk ≡ n) (low : n < 128) (gone : row.missing ≡ not (answering n)) (size : length row.stale ≡ 127)
      (marks : (k : ℕ) → has_bit row.stale k ≡ calls_stale was (record { disk = n; pp = k })) (member : is_member group n ≡ true) where
    last : (mark : StatusRow → Bool) (d : ℕ) → list_any (λ (r : StatusRow). r.disk == d && mark r) (rows ++ row ∷ []) ≡ list_any (λ (r : StatusRow). r.disk == d && mark r) rows || ((n == d) && mark row)
    last mark d = list_any-append (λ (r : StatusRow). r.disk == d && mark r) rows (row ∷ [])
        ∙ ap (λ (b : Bool). list_any (λ (r : StatusRow). r.disk == d && mark r) rows || b) (or_when_false (row.disk == d && mark row) false refl ∙ ap (λ (m : ℕ). (m == d) && mark row) here)

    pub rows_more : AreMemberRows group answering was (n + 1) (rows ++ row ∷ [])
    rows_more = record {
      rows_rise = record {
        each = All-append IsStatusRow rows (row ∷ []) are.rows_rise.each (All-cons IsStatusRow row [] (record { disk = omega (arith, here, low); size = size }) (All-nil IsStatusRow));
        disks_rise = all_pairs_push (λ (a b : StatusRow). a.disk < b.disk) rows row are.rows_rise.disks_rise (λ k d lt. (let less = are.low k d lt in omega (arith, less, here)));
      };
      low = All-append (λ (r : StatusRow). r.disk < n + 1) rows (row ∷ []) (λ k d lt. (let less = are.low k d lt in omega (arith, less)))
          (All-cons (λ (r : StatusRow). r.disk < n + 1) row [] (omega (arith, here)) (All-nil (λ (r : StatusRow). r.disk < n + 1)));
      have = λ d. list_any-append (λ (r : StatusRow). r.disk == d) rows (row ∷ []) ∙ ap (λ (b : Bool). b || ((row.disk == d) || false)) (are.have d)
          ∙ ap (λ (b : Bool). (nat_lt d n && is_member group d) || b) (or_when_false (row.disk == d) false refl ∙ ap (λ (m : ℕ). m == d) here ∙ sym (and_true (n == d)))
          ∙ one_more n d (is_member group d) true (λ e. sym (ap (is_member group) e ∙ member));
      missing = λ d. last (λ (r : StatusRow). r.missing) d ∙ ap (λ (b : Bool). b || ((n == d) && row.missing)) (are.missing d ∙ assoc (nat_lt d n) (is_member group d) (not (answering d)))
          ∙ one_more n d (is_member group d && not (answering d)) row.missing (λ e. gone ∙ sym (ap (λ (m : ℕ). is_member group m && not (answering m)) e ∙ ap (λ (b : Bool). b && not (answering n)) member))
          ∙ sym (assoc (nat_lt d (n + 1)) (is_member group d) (not (answering d)));
      stale = λ p. last (λ (r : StatusRow). has_bit r.stale p.pp) p.disk ∙ ap (λ (b : Bool). b || ((n == p.disk) && has_bit row.stale p.pp)) (are.stale p ∙ assoc (nat_lt p.disk n) (is_member group p.disk) (calls_stale was p))
          ∙ one_more n p.disk (is_member group p.disk && calls_stale was p) (has_bit row.stale p.pp)
          (λ e. marks p.pp ∙ ap (λ (m : ℕ). calls_stale was (record { disk = m; pp = p.pp })) (sym e) ∙ sym (ap (λ (b : Bool). b && calls_stale was p) (ap (is_member group) e ∙ member)))
          ∙ sym (assoc (nat_lt p.disk (n + 1)) (is_member group p.disk) (calls_stale was p));
    }

pub no_rows : (group : Descriptor) (answering : Disks) (was : Status) → AreMemberRows group answering was 0 []
no_rows group answering was = record {
  rows_rise = record { each = All-nil IsStatusRow; disks_rise = λ i j d less lt. absurd (omega (arith, lt)) };
  low = All-nil (λ (r : StatusRow). r.disk < 0);
  have = λ d. sym (and_left (nat_lt d 0) (is_member group d) (nothing d));
  missing = λ d. sym (and_left (nat_lt d 0 && is_member group d) (not (answering d)) (and_left (nat_lt d 0) (is_member group d) (nothing d)));
  stale = λ p. sym (and_left (nat_lt p.disk 0 && is_member group p.disk) (calls_stale was p) (and_left (nat_lt p.disk 0) (is_member group p.disk) (nothing p.disk)));
}
  where
    nothing : (d : ℕ) → nat_lt d 0 ≡ false
    nothing d = grind (arith, nat_tests)

-- Copies that missing disks leave behind are marked one after the other.
use Rattle.std.proofs.Common.{◌≡◌, ◌<◌, ◌+◌, ℕ, suc, Bool, true, false, not, List, [], ◌∷◌, ◌++◌, length, get_or, take, refl, sym, ◌∙◌, ap, arith}
use Rattle.std.specs.Prelude.{◌&&◌, ◌||◌}
use Rattle.std.specs.List.{list_any, range_with_len}
use Rattle.std.proofs.lemmas.Grind.{common_steps}
use Rattle.std.proofs.lemmas.List.Folds.{list_any-append, list_any_more}
use Rattle.lvm_num.specs.declared.place.Pp.{Pp}
use Rattle.lvm_num.specs.declared.descriptor.LvRow.{LvRow}
use Rattle.lvm_num.specs.declared.status.Status.{Status}
use Rattle.lvm_num.specs.Descriptor.{copies_of, is_pp}
use Rattle.lvm_num.specs.Status.{calls_missing, calls_stale}
use Rattle.lvm_num.proofs.Lists.{range_next}
use Rattle.lvm_status.specs.Update.{Stored, Updates}
use Rattle.lvm_session.specs.Marks.{WantsStale, is_among}
use Rattle.lvm_calls.proofs.MarksLemmas.{already, same_due, then_marked}
use Rattle.lvm_calls.specs.Left.{can_stand_in, is_gone, is_left_among, is_left_below, is_left_of}

-- ---- partitions on missing disks alone are marked

-- all that is due stands on missing disks
abbrev pub IsOfMissing : Stored → (Pp → Bool) → Type 0
IsOfMissing s due = (p : Pp) → due p ≡ true → calls_missing s.wanted p.disk ≡ true

module _ (due : Pp → Bool) (old new : Stored) (marks : WantsStale due old new) where
  committed : new.committed ≡ old.committed
  committed = ap (λ (u : Updates). u.committed) marks.rest

  pub gone_same : (p : Pp) → is_gone new p ≡ is_gone old p
  gone_same p = ap (λ (s : Status). not (calls_stale s p) && calls_missing new.wanted p.disk) committed ∙ ap (λ (b : Bool). not (calls_stale old.committed p) && b) (marks.missing p.disk)

  stands_same : IsOfMissing old due → (p : Pp) → can_stand_in new p ≡ can_stand_in old p
  stands_same of p =
      ap (λ (s : Status). (not (calls_stale s p) && not (calls_missing new.wanted p.disk)) && not (calls_stale new.wanted p)) committed
      ∙ ap (λ (b : Bool). (not (calls_stale old.committed p) && not b) && not (calls_stale new.wanted p)) (marks.missing p.disk)
      ∙ ap (λ (b : Bool). (not (calls_stale old.committed p) && not (calls_missing old.wanted p.disk)) && not b) (marks.stale p)
      ∙ by_test (calls_stale old.committed p) (calls_missing old.wanted p.disk) (calls_stale old.wanted p) (due p) (of p)
    where
      by_test : (a m s d : Bool) → (d ≡ true → m ≡ true) → ((not a && not m) && not (s || d)) ≡ ((not a && not m) && not s)
      by_test true m s d is = refl
      by_test false true s d is = refl
      by_test false false true d is = refl
      by_test false false false true is = absurd (cc (is refl))
      by_test false false false false is = refl

  among_same : IsOfMissing old due → (copies : List Pp) (p : Pp) → is_left_among new copies p ≡ is_left_among old copies p
  among_same of copies p =
      ap (λ (s : Status). is_among copies p && not (calls_stale s p) && calls_missing new.wanted p.disk && list_any (can_stand_in new) copies) committed
      ∙ ap (λ (b : Bool). is_among copies p && not (calls_stale old.committed p) && b && list_any (can_stand_in new) copies) (marks.missing p.disk)
      ∙ (λ i. is_among copies p && not (calls_stale old.committed p) && calls_missing old.wanted p.disk && list_any (λ (q : Pp). stands_same of q i) copies)

  below_same : IsOfMissing old due → (row : LvRow) (most : ℕ) (p : Pp) → is_left_below new row most p ≡ is_left_below old row most p
  below_same of row most p = λ i. list_any (λ (lp : ℕ). among_same of (copies_of row lp) p i) (range_with_len 0 most)

any_gives : {X : Type 0} (f : X → Bool) (P : Type 0) (xs : List X) → ((x : X) → f x ≡ true → P) → list_any f xs ≡ true → P
any_gives f P [] gives any = absurd (cc any)
any_gives f P (x ∷ xs) gives any = by_test (any_gives f P xs gives) (f x) refl any
  where
    by_test : (list_any f xs ≡ true → P) → (b : Bool) → f x ≡ b → (b || list_any f xs) ≡ true → P
    by_test rest true is any = gives x is
    by_test rest false is any = rest any

among_missing : (s : Stored) (copies : List Pp) → IsOfMissing s (is_left_among s copies)
among_missing s copies p is = by_tests (is_among copies p) (not (calls_stale s.committed p)) (calls_missing s.wanted p.disk) is
  where
    by_tests : (a b m : Bool) → (a && b && m && list_any (can_stand_in s) copies) ≡ true → m ≡ true
    by_tests true true true is = refl
    by_tests true true false is = absurd (cc is)
    by_tests true false m is = absurd (cc is)
    by_tests false b m is = absurd (cc is)

below_missing : (s : Stored) (row : LvRow) (most : ℕ) → IsOfMissing s (is_left_below s row most)
below_missing s row most p is = any_gives (λ (lp : ℕ). is_left_among s (copies_of row lp) p) (calls_missing s.wanted p.disk ≡ true) (range_with_len 0 most) (λ lp its. among_missing s (copies_of row lp) p its) is

of_missing : (s : Stored) (rows : List LvRow) → IsOfMissing s (is_left_of s rows)
of_missing s rows p is = any_gives (λ (row : LvRow). is_left_below s row row.lps p) (calls_missing s.wanted p.disk ≡ true) rows (λ row its. below_missing s row row.lps p its) is

-- ---- one more

pub one_gone : (pp : Pp) (old new : Stored) → is_gone old pp ≡ true → WantsStale (λ (p : Pp). is_pp p pp) old new → WantsStale (λ (p : Pp). is_pp p pp && is_gone old pp) old new
one_gone pp old new is marks = same_due (λ (p : Pp). is_pp p pp) (λ (p : Pp). is_pp p pp && is_gone old pp) old new (λ p. sym (ap (λ (b : Bool). is_pp p pp && b) is ∙ whole (is_pp p pp))) marks
  where
    whole : (a : Bool) → (a && true) ≡ a
    whole true = refl
    whole false = refl

never : (a b : Bool) → b ≡ false → (a && b) ≡ true → ⊥
never true b is both = cc (is, both)
never false b is both = cc both

pub none_gone : (pp : Pp) (old : Stored) → is_gone old pp ≡ false → WantsStale (λ (p : Pp). is_pp p pp && is_gone old pp) old old
none_gone pp old is = already (λ (p : Pp). is_pp p pp && is_gone old pp) old (λ p both. absurd (never (is_pp p pp) (is_gone old pp) is both))

-- the next of the copies
pub gone_more : (first now new : Stored) (copies : List Pp) (i : ℕ) (d : Pp) → i < length copies → WantsStale (λ (p : Pp). is_among (take i copies) p && is_gone first p) first now
    → WantsStale (λ (p : Pp). is_pp p (get_or copies i d) && is_gone now (get_or copies i d)) now new → WantsStale (λ (p : Pp). is_among (take (i + 1) copies) p && is_gone first p) first new
gone_more first now new copies i d less before here =
    same_due _ (λ (p : Pp). is_among (take (i + 1) copies) p && is_gone first p) first new
    (λ p.
    ap (λ (b : Bool). (is_among (take i copies) p && is_gone first p) || (is_pp p x && b)) (gone_same _ first now before x)
    ∙ ap (λ (b : Bool). (is_among (take i copies) p && is_gone first p) || b) (its_own p (is_pp p x) refl)
    ∙ together (is_among (take i copies) p) (is_pp p x) (is_gone first p)
    ∙ sym (ap (λ (b : Bool). b && is_gone first p) (list_any_more (is_pp p) copies i d less)))
    (then_marked (λ (p : Pp). is_among (take i copies) p && is_gone first p) (λ (p : Pp). is_pp p x && is_gone now x) first now new before here)
  where
    x : Pp
    x = get_or copies i d

    same : (p q : Pp) → is_pp p q ≡ true → p ≡ q
    same p q is = grind (arith, common_steps, is)

    its_own : (p : Pp) (b : Bool) → is_pp p x ≡ b → (b && is_gone first x) ≡ (b && is_gone first p)
    its_own p true is = ap (is_gone first) (sym (same p x is))
    its_own p false is = refl

    together : (a b g : Bool) → ((a && g) || (b && g)) ≡ ((a || b) && g)
    together true b true = refl
    together true true false = refl
    together true false false = refl
    together false b g = refl

-- those of a logical partition
pub copies_left : (copies : List Pp) (old new : Stored) → list_any (can_stand_in old) copies ≡ true → WantsStale (λ (p : Pp). is_among copies p && is_gone old p) old new → WantsStale (is_left_among old copies) old new
copies_left copies old new some marks =
    same_due (λ (p : Pp). is_among copies p && is_gone old p) (is_left_among old copies) old new
    (λ p. sym (ap (λ (b : Bool). is_among copies p && not (calls_stale old.committed p) && calls_missing old.wanted p.disk && b) some
    ∙ whole (is_among copies p) (not (calls_stale old.committed p)) (calls_missing old.wanted p.disk))) marks
  where
    whole : (a b m : Bool) → (a && b && m && true) ≡ (a && (b && m))
    whole true true true = refl
    whole true true false = refl
    whole true false m = refl
    whole false b m = refl

pub none_left : (copies : List Pp) (old : Stored) → list_any (can_stand_in old) copies ≡ false → WantsStale (is_left_among old copies) old old
none_left copies old none = already (is_left_among old copies) old (λ p is. absurd (no_test (is_among copies p) (not (calls_stale old.committed p)) (calls_missing old.wanted p.disk) (list_any (can_stand_in old) copies) none is))
  where
    no_test : (a b m s : Bool) → s ≡ false → (a && b && m && s) ≡ true → ⊥
    no_test true true true s none is = cc (none, is)
    no_test true true false s none is = cc is
    no_test true false m s none is = cc is
    no_test false b m s none is = cc is

below_next : (s : Stored) (row : LvRow) (n : ℕ) (p : Pp) → (is_left_below s row n p || is_left_among s (copies_of row n) p) ≡ is_left_below s row (n + 1) p
below_next s row n p =
    let next : suc n ≡ n + 1 = omega arith in
    let none : 0 + n ≡ n = omega arith in
    ap (λ (b : Bool). is_left_below s row n p || b) (sym (alone (is_left_among s (copies_of row n) p)))
    ∙ sym (list_any-append f (range_with_len 0 n) (n ∷ []))
    ∙ ap (λ (m : ℕ). list_any f (range_with_len 0 n ++ m ∷ [])) (sym none)
    ∙ ap (list_any f) (sym (range_next 0 n))
    ∙ ap (λ (m : ℕ). list_any f (range_with_len 0 m)) next
  where
    f : ℕ → Bool
    f lp = is_left_among s (copies_of row lp) p

    alone : (b : Bool) → (b || false) ≡ b
    alone true = refl
    alone false = refl

pub below_more : (first now new : Stored) (row : LvRow) (n : ℕ) → WantsStale (is_left_below first row n) first now → WantsStale (is_left_among now (copies_of row n)) now new → WantsStale (is_left_below first row (n + 1)) first new
below_more first now new row n before here =
    same_due _ (is_left_below first row (n + 1)) first new
    (λ p. ap (λ (b : Bool). is_left_below first row n p || b) (among_same (is_left_below first row n) first now before (below_missing first row n) (copies_of row n) p) ∙ below_next first row n p)
    (then_marked (is_left_below first row n) (is_left_among now (copies_of row n)) first now new before here)

-- the next volume
pub volumes_more : (first now new : Stored) (rows : List LvRow) (i : ℕ) (row : LvRow) → i < length rows → row ≡ get_or rows i row → WantsStale (is_left_of first (take i rows)) first now
    → WantsStale (is_left_below now row row.lps) now new → WantsStale (is_left_of first (take (i + 1) rows)) first new
volumes_more first now new rows i row less is before here =
    same_due _ (is_left_of first (take (i + 1) rows)) first new
    (λ p.
    ap (λ (b : Bool). is_left_of first (take i rows) p || b) (below_same (is_left_of first (take i rows)) first now before (of_missing first (take i rows)) row row.lps p)
    ∙ ap (λ (r : LvRow). is_left_of first (take i rows) p || is_left_below first r r.lps p) is
    ∙ sym (list_any_more (λ (r : LvRow). is_left_below first r r.lps p) rows i row less))
    (then_marked (is_left_of first (take i rows)) (is_left_below now row row.lps) first now new before here)

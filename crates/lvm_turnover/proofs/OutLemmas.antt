-- The session without a member that leaves: rows of those that stay, and notes.
use Rattle.std.proofs.Common.{◌≡◌, inl, inr, ℕ, zero, suc, ◌+◌, ◌<◌, ◌≤◌, count_by, Bool, true, false, ◌&&◌, ◌||◌, not, List, [], ◌∷◌, length, Option, Some, None, refl, sym, ◌∙◌, ap, subst, arith}
use Rattle.std.specs.Prelude.{◌==◌, if◌then◌else◌, filter, find, is_some, option_and_then, Contains, slice_index_or}
use Rattle.std.specs.List.{list_any}
use Rattle.std.proofs.lemmas.Bool.{eqb-true, false≢true}
use Rattle.std.proofs.lemmas.List.Sums.{sum_by-cons}
use Rattle.lvm_num.specs.declared.descriptor.PvRow.{PvRow}
use Rattle.lvm_num.specs.declared.status.StatusRow.{StatusRow}
use Rattle.lvm_num.specs.Disks.{Disks}
use Rattle.lvm_num.specs.Among.{IsOneOf}
use Rattle.lvm_num.proofs.AmongLemmas.{filter_one, one_any}
use Rattle.lvm_num.proofs.Booleans.{same_itself, or_false, and_true}
use Rattle.lvm_mwc.specs.declared.notes.DiskNotes.{DiskNotes}
use Rattle.lvm_mwc.specs.Cache.{Cached, has_disk, flight_on, notes_on}
use Rattle.lvm_mwc.specs.Entries.{AreEntries}
use Rattle.lvm_mwc.specs.Notes.{is_of_disk}
use Rattle.lvm_commit.proofs.AmongLemmas.{contains}
use Rattle.lvm_core.specs.Committing.{is_in}
use Rattle.lvm_change_laws.specs.Rule.{staying, unspared}
use Rattle.lvm_change_laws.proofs.UnsparedLemmas.{unspared_row}
use Rattle.lvm_turnover.specs.declared.change.Leaving.{Leaving}
use Rattle.lvm_turnover.specs.Turning.{cache_after, disks_leaving}

-- ---- rows

one_in : {X : Type 0} (xs : List X) (x : X) (k : ℕ) → k < length xs → slice_index_or xs k x ≡ x → IsOneOf xs x
one_in [] x k few is = absurd (omega (arith, few))
one_in (y ∷ ys) x zero few is = inl (sym is)
one_in (y ∷ ys) x (suc k) few is = inr (one_in ys x k (omega (arith, few)) is)

pub one_of : {X : Type 0} (xs : List X) (x : X) → Contains xs x → IsOneOf xs x
one_of xs x (k, few, is) = one_in xs x k few is

-- a member that was there before has as many partitions, whether it is a spare or not
pub record HasAsMany (rows : List PvRow) (row : PvRow) : Type 0 where
  pub was : PvRow
  pub inside : Contains rows was
  pub same : unspared_row was ≡ unspared_row row

one_unspared : (rows : List PvRow) (row : PvRow) → IsOneOf rows row → IsOneOf (unspared rows) (unspared_row row)
one_unspared [] row one = absurd one
one_unspared (x ∷ xs) row (inl is) = inl (ap unspared_row is)
one_unspared (x ∷ xs) row (inr one) = inr (one_unspared xs row one)

one_spared : (rows : List PvRow) (row : PvRow) → IsOneOf (unspared rows) row → (was : PvRow) × IsOneOf rows was × (unspared_row was ≡ row)
one_spared [] row one = absurd one
one_spared (x ∷ xs) row (inl is) = (x, inl refl, sym is)
one_spared (x ∷ xs) row (inr one) = let it = one_spared xs row one in (it.0, inr it.1, it.2)

pub had_as_many : (leaves : Disks) (old next : List PvRow) → unspared next ≡ staying leaves (unspared old) → (row : PvRow) → Contains next row → HasAsMany old row
had_as_many leaves old next same row inside =
    let stays : IsOneOf (staying leaves (unspared old)) (unspared_row row) = subst (λ (rows : List PvRow). IsOneOf rows (unspared_row row)) same (one_unspared next row (one_of next row inside)) in
    let was = one_spared old (unspared_row row) (filter_one (λ (r : PvRow). not (leaves r.disk)) (unspared old) (unspared_row row) stays).0 in
    record { was = was.0; inside = contains old was.0 was.1; same = was.2 }

pub is_inside : (rows : List PvRow) (row : PvRow) → Contains rows row → list_any (λ (r : PvRow). r.disk == row.disk) rows ≡ true
is_inside rows row inside = one_any (λ (r : PvRow). r.disk == row.disk) rows row (one_of rows row inside) (same_itself row.disk)

-- ---- notes

abbrev others : ℕ → List DiskNotes → List DiskNotes
others x notes = filter (λ n. not (is_of_disk x n)) notes

-- those of another disk are found as before, and those of the disk aren't
find_without : (x d : ℕ) (notes : List DiskNotes) → find (is_of_disk d) (filter (λ n. not (is_of_disk x n)) notes) ≡ (if d == x then None else find (is_of_disk d) notes)
find_without x d [] = by (d == x)
  where
    by : (b : Bool) → ◌≡◌ {A = Option DiskNotes} None (if b then None else None)
    by true = refl
    by false = refl
find_without x d (n ∷ notes) = by (n.disk == x) (n.disk == d) (d == x) refl refl refl (find_without x d notes)
  where
    by : (goes same one : Bool) → (n.disk == x) ≡ goes → (n.disk == d) ≡ same → (d == x) ≡ one → find (is_of_disk d) (others x notes) ≡ (if one then None else find (is_of_disk d) notes)
        → find (is_of_disk d) (if not goes then n ∷ others x notes else others x notes) ≡ (if one then None else (if same then Some n else find (is_of_disk d) notes))
    by true true true goes same one ih = ih
    by true true false goes same one ih = absurd (false≢true (sym one ∙ ap (λ (k : ℕ). k == x) (sym (eqb-true n.disk d same)) ∙ goes))
    by true false one goes same is ih = ih ∙ other one
      where
        other : (b : Bool) → ◌≡◌ {A = Option DiskNotes} (if b then None else find (is_of_disk d) notes) (if b then None else find (is_of_disk d) notes)
        other b = refl
    by false true true goes same one ih = absurd (false≢true (sym goes ∙ ap (λ (k : ℕ). k == x) (eqb-true n.disk d same) ∙ one))
    by false true false goes same one ih = ap (λ (b : Bool). if b then Some n else find (is_of_disk d) (others x notes)) same
    by false false one goes same is ih = ap (λ (b : Bool). if b then Some n else find (is_of_disk d) (others x notes)) same ∙ ih

pub without_disk : (x : ℕ) (cache : Cached) (d : ℕ) → has_disk (record cache { notes = filter (λ n. not (is_of_disk x n)) cache.notes }) d ≡ (has_disk cache d && not (d == x))
without_disk x cache d = ap is_some (find_without x d cache.notes) ∙ by (d == x) (notes_on cache d)
  where
    by : (b : Bool) (o : Option DiskNotes) → is_some (if b then None else o) ≡ (is_some o && not b)
    by true (Some n) = refl
    by true None = refl
    by false o = sym (and_true (is_some o))

pub flight_without : (x : ℕ) (cache : Cached) (d : ℕ) → flight_on cache d ≡ None → flight_on (record cache { notes = filter (λ n. not (is_of_disk x n)) cache.notes }) d ≡ None
flight_without x cache d none = ap (option_and_then (λ (n : DiskNotes). n.flight)) (find_without x d cache.notes) ∙ by (d == x) (notes_on cache d) none
  where
    by : (b : Bool) (o : Option DiskNotes) → option_and_then (λ (n : DiskNotes). n.flight) o ≡ None → option_and_then (λ (n : DiskNotes). n.flight) (if b then None else o) ≡ None
    by true o is = refl
    by false o is = is

-- ---- by who leaves

pub has_after : (leaving : Option Leaving) (cache : Cached) (d : ℕ) → has_disk (cache_after leaving cache) d ≡ (has_disk cache d && not (is_in (disks_leaving leaving) d))
has_after None cache d = sym (and_true (has_disk cache d))
has_after (Some out) cache d = without_disk out.disk cache d ∙ ap (λ (b : Bool). has_disk cache d && not b) (sym (or_false (d == out.disk)))

pub still_after : (leaving : Option Leaving) (cache : Cached) (d : ℕ) → flight_on cache d ≡ None → flight_on (cache_after leaving cache) d ≡ None
still_after None cache d none = none
still_after (Some out) cache d none = flight_without out.disk cache d none

pub entries_after : (leaving : Option Leaving) (cache : Cached) → AreEntries cache.entries → AreEntries (cache_after leaving cache).entries
entries_after None cache are = are
entries_after (Some out) cache are = are

-- ---- how many

abbrev one_if : Bool → ℕ
one_if b = if b then 1 else 0

count_cons : {X : Type 0} (p : X → Bool) (x : X) (xs : List X) → count_by p (x ∷ xs) ≡ one_if (p x) + count_by p xs
count_cons p x xs = sum_by-cons (λ y. one_if (p y)) x xs

pub count_same : {X : Type 0} (p q : X → Bool) (xs : List X) → ((x : X) → IsOneOf xs x → p x ≡ q x) → count_by p xs ≡ count_by q xs
count_same p q [] same = refl
count_same p q (x ∷ xs) same =
    let here : one_if (p x) ≡ one_if (q x) = ap one_if (same x (inl refl)) in
    let rest = count_same p q xs (λ y one. same y (inr one)) in
    omega (arith, count_cons p x xs, count_cons q x xs, here, rest)

pub count_staying : (p : PvRow → Bool) (leaves : Disks) (rows : List PvRow) → count_by p (staying leaves rows) ≤ count_by p rows
count_staying p leaves [] = omega arith
count_staying p leaves (row ∷ rows) = by (leaves row.disk) (count_staying p leaves rows)
  where
    by : (goes : Bool) → count_by p (staying leaves rows) ≤ count_by p rows → count_by p (if not goes then row ∷ staying leaves rows else staying leaves rows) ≤ count_by p (row ∷ rows)
    by true rest = omega (arith, rest, count_cons p row rows)
    by false rest = omega (arith, rest, count_cons p row rows, count_cons p row (staying leaves rows))

pub count_unspared : (p : ℕ → Bool) (rows : List PvRow) → count_by (λ (row : PvRow). p row.disk) (unspared rows) ≡ count_by (λ (row : PvRow). p row.disk) rows
count_unspared p [] = refl
count_unspared p (row ∷ rows) =
    let rest = count_unspared p rows in
    omega (arith, rest, count_cons (λ (r : PvRow). p r.disk) row rows, count_cons (λ (r : PvRow). p r.disk) (unspared_row row) (unspared rows))

-- ---- what a status says of a disk

-- what a row of a disk says, the disk has a row
pub said_in_row : (says : StatusRow → Bool) (disk : ℕ) (rows : List StatusRow) → list_any (λ (row : StatusRow). row.disk == disk && says row) rows ≡ true → list_any (λ (row : StatusRow). row.disk == disk) rows ≡ true
said_in_row says disk [] is = is
said_in_row says disk (row ∷ rows) is = by (row.disk == disk) (says row) (said_in_row says disk rows) is
  where
    by : (t s : Bool) → (list_any (λ (r : StatusRow). r.disk == disk && says r) rows ≡ true → list_any (λ (r : StatusRow). r.disk == disk) rows ≡ true) → (t && s) || list_any (λ (r : StatusRow). r.disk == disk && says r) rows ≡ true
        → t || list_any (λ (r : StatusRow). r.disk == disk) rows ≡ true
    by true s rest is = refl
    by false s rest is = rest is

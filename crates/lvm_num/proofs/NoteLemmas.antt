-- The sector of a note.
use Rattle.std.proofs.Common.{◌≡◌, ◌≢◌, ℕ, zero, suc, ◌+◌, ◌-◌, ◌*◌, ◌<◌, ◌≤◌, Bool, true, false, ◌&&◌, not, List, [], ◌∷◌, ◌++◌, append-nil, append_assoc, length, get_or, take, drop, replicate, Some, refl, sym, ap, ◌∙◌, arith}
use Rattle.std.specs.Prelude.{◌==◌, if◌then◌else◌, flat_map}
use Rattle.std.specs.Bool.{then_some}
use Rattle.std.specs.Int.{w16, w32, w64, to_be_bytes, from_be_bytes}
use Rattle.std.proofs.lemmas.Bool.{false≢true, eq-eqb}
use Rattle.std.proofs.lemmas.Bool.Decides.{nat_tests}
use Rattle.std.proofs.lemmas.List.{take_at, drop_at, drop-drop, get_or-drop, take_all, take_more, length-append, length-replicate, replicate-append-replicate, drop-replicate, drop-append-le}
use Rattle.std.proofs.lemmas.Nat.{from_be_bytes-to_be_bytes_2, from_be_bytes-to_be_bytes_4, from_be_bytes-to_be_bytes_8}
use Rattle.lvm_num.specs.declared.record.NoteEntry.{NoteEntry}
use Rattle.lvm_num.specs.Note.{Noted, entry_bytes, note_bytes, entry_at, entries_below, IsEntry, IsNote, WrittenIsRead}

-- ---- a place, from its first byte on

-- the entry that bytes begin with, if it counts
entry_from : List ℕ → List NoteEntry
entry_from bytes =
    let entry : NoteEntry = record { lv = from_be_bytes w16 (take 2 bytes); group = from_be_bytes w32 (take 4 (drop 4 bytes)) } in
    if not (entry.lv == 0) && get_or bytes 2 0 == 0 && get_or bytes 3 0 == 0 then entry ∷ [] else []

entry_at-from : (sector : List ℕ) (k : ℕ) → entry_at sector k ≡ entry_from (drop (8 + 8 * k) sector)
unfolding entry_from
entry_at-from sector k =
    let at = 8 + 8 * k in
    let entry = λ (group : ℕ). let e : NoteEntry = record { lv = from_be_bytes w16 (take 2 (drop at sector)); group = group } in e in
    ap (λ (g : ℕ). if not ((entry g).lv == 0) && get_or sector (at + 2) 0 == 0 && get_or sector (at + 3) 0 == 0 then entry g ∷ [] else [])
    (ap (λ (x : List ℕ). from_be_bytes w32 (take 4 x)) (sym (drop-drop 4 at sector)))
    ∙ ap (λ (b : ℕ). if not (from_be_bytes w16 (take 2 (drop at sector)) == 0) && b == 0 && get_or sector (at + 3) 0 == 0 then entry (from_be_bytes w32 (take 4 (drop 4 (drop at sector)))) ∷ [] else [])
    (sym (get_or-drop at sector 2 0))
    ∙ ap (λ (b : ℕ). if not (from_be_bytes w16 (take 2 (drop at sector)) == 0) && get_or (drop at sector) 2 0 == 0 && b == 0 then entry (from_be_bytes w32 (take 4 (drop 4 (drop at sector)))) ∷ [] else [])
    (sym (get_or-drop at sector 3 0))

abbrev entry_if : ℕ → ℕ → List NoteEntry
entry_if lv group = let entry : NoteEntry = record { lv = lv; group = group } in if not (lv == 0) && true && true then entry ∷ [] else []

entry_from-bytes : (e : NoteEntry) (rest : List ℕ) → IsEntry e → entry_from (entry_bytes e ++ rest) ≡ e ∷ []
unfolding entry_from
entry_from-bytes e rest is =
    ap (λ n. entry_if n (from_be_bytes w32 (to_be_bytes w32 e.group))) (from_be_bytes-to_be_bytes_2 e.lv is.lv)
    ∙ ap (entry_if e.lv) (from_be_bytes-to_be_bytes_4 e.group is.group)
    ∙ by_test (e.lv == 0) (not-zero e.lv is.some_lv)
  where
    not-zero : (n : ℕ) → n ≢ 0 → n == 0 ≡ false
    not-zero n apart = grind (arith, nat_tests)

    by_test : (b : Bool) → b ≡ false → (if not b && true && true then e ∷ [] else []) ≡ e ∷ []
    by_test true h = absurd (false≢true (sym h))
    by_test false h = refl

entry_from-zeros : (rest : List ℕ) → entry_from (replicate 8 0 ++ rest) ≡ []
unfolding entry_from
entry_from-zeros rest = refl

-- ---- the places of a written note

-- the bytes of the entries from one on begin with that entry
from_entry : (es : List NoteEntry) (k : ℕ) (e : NoteEntry) (tail : List ℕ) → k < length es
    → (rest : List ℕ) × (drop (8 * k) (flat_map entry_bytes es ++ tail) ≡ entry_bytes (get_or es k e) ++ rest)
from_entry [] k e tail lt = absurd (omega arith)
from_entry (x ∷ xs) zero e tail lt = (flat_map entry_bytes xs ++ tail, append_assoc (entry_bytes x) (flat_map entry_bytes xs) tail)
from_entry (x ∷ xs) (suc k) e tail lt =
    let next : 8 * suc k ≡ 8 + 8 * k = omega arith in
    let there = from_entry xs k e tail (omega arith) in (
      there.0,
      ap (λ n. drop n ((entry_bytes x ++ flat_map entry_bytes xs) ++ tail)) next
          ∙ sym (drop-drop (8 * k) 8 ((entry_bytes x ++ flat_map entry_bytes xs) ++ tail))
          ∙ ap (λ (l : List ℕ). drop (8 * k) (drop 8 l)) (append_assoc (entry_bytes x) (flat_map entry_bytes xs) tail)
          ∙ ap (drop (8 * k)) (drop_at (entry_bytes x) (flat_map entry_bytes xs ++ tail) 8 refl)
          ∙ there.1,
    )

pub length-entries : (es : List NoteEntry) → length (flat_map entry_bytes es) ≡ 8 * length es
length-entries [] = refl
length-entries (x ∷ xs) = length-append (entry_bytes x) (flat_map entry_bytes xs) ∙ (let rest = length-entries xs in omega (arith, rest))

-- zeros from a place on, of which eight are its own
some_zeros : (m n : ℕ) (tail : List ℕ) → m + 8 ≤ n → drop m (replicate n 0 ++ tail) ≡ replicate 8 0 ++ (replicate (n - m - 8) 0 ++ tail)
some_zeros m n tail le =
    let size : length (replicate {A = ℕ} n 0) ≡ n = length-replicate {A = ℕ} n 0 in
    let left : n - m ≡ 8 + (n - m - 8) = omega arith in
    drop-append-le m (replicate n 0) tail (omega (arith, size))
    ∙ ap (λ (l : List ℕ). l ++ tail) (drop-replicate m n 0)
    ∙ ap (λ k. replicate k 0 ++ tail) left
    ∙ ap (λ (l : List ℕ). l ++ tail) (sym (replicate-append-replicate 8 (n - m - 8) 0))
    ∙ append_assoc (replicate 8 0) (replicate (n - m - 8) 0) tail

-- behind the entries stand zeros
from_zeros : (n k : ℕ) (tail : List ℕ) → n ≤ k → k < 62 → (rest : List ℕ) × (drop (8 * (k - n)) (replicate (496 - 8 * n) 0 ++ tail) ≡ replicate 8 0 ++ rest)
from_zeros n k tail le lt = (replicate (496 - 8 * n - 8 * (k - n) - 8) 0 ++ tail, some_zeros (8 * (k - n)) (496 - 8 * n) tail (omega arith))

module _ (note : Noted) (is : IsNote note) where
  parts : note_bytes note ≡ to_be_bytes w64 note.stamp ++ (flat_map entry_bytes note.entries ++ (replicate (496 - 8 * length note.entries) 0 ++ to_be_bytes w64 note.stamp))
  parts =
      append_assoc (to_be_bytes w64 note.stamp ++ flat_map entry_bytes note.entries) (replicate (496 - 8 * length note.entries) 0) (to_be_bytes w64 note.stamp)
      ∙ append_assoc (to_be_bytes w64 note.stamp) (flat_map entry_bytes note.entries) (replicate (496 - 8 * length note.entries) 0 ++ to_be_bytes w64 note.stamp)

  -- what stands from a place on
  behind : (k : ℕ) → drop (8 + 8 * k) (note_bytes note) ≡ drop (8 * k) (flat_map entry_bytes note.entries ++ (replicate (496 - 8 * length note.entries) 0 ++ to_be_bytes w64 note.stamp))
  behind k =
      sym (drop-drop (8 * k) 8 (note_bytes note))
      ∙ ap (λ (l : List ℕ). drop (8 * k) (drop 8 l)) parts
      ∙ ap (drop (8 * k)) (drop_at (to_be_bytes w64 note.stamp) (flat_map entry_bytes note.entries ++ (replicate (496 - 8 * length note.entries) 0 ++ to_be_bytes w64 note.stamp)) 8 refl)

  at-entry : (k : ℕ) (e : NoteEntry) → k < length note.entries → entry_at (note_bytes note) k ≡ get_or note.entries k e ∷ []
  at-entry k e lt =
      let there = from_entry note.entries k e (replicate (496 - 8 * length note.entries) 0 ++ to_be_bytes w64 note.stamp) lt in
      entry_at-from (note_bytes note) k ∙ ap entry_from (behind k ∙ there.1) ∙ entry_from-bytes (get_or note.entries k e) there.0 (is.entries k e lt)

  at-zeros : (k : ℕ) → length note.entries ≤ k → k < 62 → entry_at (note_bytes note) k ≡ []
  at-zeros k le lt =
      let n = length note.entries in
      let there = from_zeros n k (to_be_bytes w64 note.stamp) le lt in
      let size = length-entries note.entries in
      let split : 8 * k ≡ 8 * n + 8 * (k - n) = omega arith in
      entry_at-from (note_bytes note) k
      ∙ ap entry_from
      (behind k
      ∙ ap (λ m. drop m (flat_map entry_bytes note.entries ++ (replicate (496 - 8 * n) 0 ++ to_be_bytes w64 note.stamp))) split
      ∙ sym (drop-drop (8 * (k - n)) (8 * n) (flat_map entry_bytes note.entries ++ (replicate (496 - 8 * n) 0 ++ to_be_bytes w64 note.stamp)))
      ∙ ap (drop (8 * (k - n))) (drop_at (flat_map entry_bytes note.entries) (replicate (496 - 8 * n) 0 ++ to_be_bytes w64 note.stamp) (8 * n) size)
      ∙ there.1)
      ∙ entry_from-zeros there.0

  below-entries : (k : ℕ) → k ≤ length note.entries → entries_below (note_bytes note) k ≡ take k note.entries
  unfolding entries_below
  below-entries zero le = refl
  below-entries (suc k) le =
      let e = first note.entries (omega arith) in
      let more : k + 1 ≡ suc k = omega arith in
      ap (λ (l : List NoteEntry). l ++ entry_at (note_bytes note) k) (below-entries k (omega arith))
      ∙ ap (λ (l : List NoteEntry). take k note.entries ++ l) (at-entry k e (omega arith))
      ∙ sym (take_more note.entries k e (omega arith))
      ∙ ap (λ n. take n note.entries) more
    where
      first : (es : List NoteEntry) → 0 < length es → NoteEntry
      first [] some = absurd (omega arith)
      first (x ∷ xs) some = x

  below-all : (m : ℕ) → length note.entries + m ≤ 62 → entries_below (note_bytes note) (length note.entries + m) ≡ note.entries
  unfolding entries_below
  below-all zero le =
      let none : length note.entries + 0 ≡ length note.entries = omega arith in
      ap (entries_below (note_bytes note)) none ∙ below-entries (length note.entries) (omega arith) ∙ take_all (length note.entries) note.entries (omega arith)
  below-all (suc m) le =
      let next : length note.entries + suc m ≡ suc (length note.entries + m) = omega arith in
      ap (entries_below (note_bytes note)) next
      ∙ ap (λ (l : List NoteEntry). entries_below (note_bytes note) (length note.entries + m) ++ l) (at-zeros (length note.entries + m) (omega arith) (omega arith))
      ∙ append-nil (entries_below (note_bytes note) (length note.entries + m))
      ∙ below-all m (omega arith)

  stamp-is : from_be_bytes w64 (take 8 (note_bytes note)) ≡ note.stamp
  stamp-is =
      ap (λ (l : List ℕ). from_be_bytes w64 (take 8 l)) parts
      ∙ ap (from_be_bytes w64) (take_at (to_be_bytes w64 note.stamp) (flat_map entry_bytes note.entries ++ (replicate (496 - 8 * length note.entries) 0 ++ to_be_bytes w64 note.stamp)) 8 refl)
      ∙ from_be_bytes-to_be_bytes_8 note.stamp is.stamp

  again : from_be_bytes w64 (take 8 (drop 504 (note_bytes note))) ≡ note.stamp
  again =
      let size = length-entries note.entries in
      let zeros : length (replicate {A = ℕ} (496 - 8 * length note.entries) 0) ≡ 496 - 8 * length note.entries = length-replicate {A = ℕ} (496 - 8 * length note.entries) 0 in
      let front = to_be_bytes w64 note.stamp ++ flat_map entry_bytes note.entries ++ replicate (496 - 8 * length note.entries) 0 in
      let long : length front ≡ 504 =
      omega (arith, length-append (to_be_bytes w64 note.stamp ++ flat_map entry_bytes note.entries) (replicate (496 - 8 * length note.entries) 0), length-append (to_be_bytes w64 note.stamp) (flat_map entry_bytes note.entries), size, zeros, is.count) in
      ap (λ (l : List ℕ). from_be_bytes w64 (take 8 l)) (drop_at front (to_be_bytes w64 note.stamp) 504 long)
      ∙ ap (from_be_bytes w64) (take_all 8 (to_be_bytes w64 note.stamp) (omega arith))
      ∙ from_be_bytes-to_be_bytes_8 note.stamp is.stamp

  entries-are : entries_below (note_bytes note) 62 ≡ note.entries
  entries-are =
      let all : 62 ≡ length note.entries + (62 - length note.entries) = omega (arith, is.count) in
      ap (entries_below (note_bytes note)) all ∙ below-all (62 - length note.entries) (omega (arith, is.count))

pub written_is_read : WrittenIsRead
written_is_read note is =
    let first = stamp-is note is in
    let last = again note is in
    let entries = entries-are note is in
    let same : from_be_bytes w64 (take 8 (note_bytes note)) == from_be_bytes w64 (take 8 (drop 504 (note_bytes note))) ≡ true =
    eq-eqb (from_be_bytes w64 (take 8 (note_bytes note))) (from_be_bytes w64 (take 8 (drop 504 (note_bytes note)))) (first ∙ sym last) in
    let read : (n : ℕ) (es : List NoteEntry) → Noted = λ n es. record { stamp = n; entries = es } in
    ap (λ b. then_some b (read (from_be_bytes w64 (take 8 (note_bytes note))) (entries_below (note_bytes note) 62))) same
    ∙ ap (λ n. Some (read n (entries_below (note_bytes note) 62))) first
    ∙ ap (λ (es : List NoteEntry). Some (read note.stamp es)) entries

-- one more place
pub entries_below-more : (sector : List ℕ) (k : ℕ) → entries_below sector (k + 1) ≡ entries_below sector k ++ entry_at sector k
unfolding entries_below
entries_below-more sector k =
    let next : k + 1 ≡ suc k = omega arith in
    ap (entries_below sector) next

pub entries_below-none : (sector : List ℕ) → entries_below sector 0 ≡ []
unfolding entries_below
entries_below-none sector = refl

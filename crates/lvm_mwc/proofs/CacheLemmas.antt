-- The notes of a disk among those of all.
use Rattle.std.proofs.Common.{◌≡◌, ◌≢◌, ◌<◌, ◌≤◌, ◌+◌, eqb, drop, subst, ◌++◌, ◌&&◌, ◌||◌, ◌==◌, ℕ, zero, suc, List, [], ◌∷◌, Some, None, Option, Bool, true, false, cond, not, nat_lt, length, reverse, get_or, set, take, refl, sym, ◌∙◌, ap, arith, inl, inr, IsTrue}
use Rattle.std.specs.Prelude.{is_some, option_and_then, filter, All, AllPairs}
use Rattle.std.specs.List.{find, list_any, position, position_or_len, remove, IsDistinct}
use Rattle.std.specs.Option.{option_map_or, option_or}
use Rattle.std.proofs.lemmas.Bool.{cases_order, lt-ltb, le-ltb, eq-eqb, ne_eqb, eqb-true, eqb-false, and_right}
use Rattle.std.proofs.lemmas.List.Elements.{All-append, All-cons, All-drop, All-push, All-tail, All-take, recursion_from_All}
use Rattle.std.proofs.lemmas.List.Folds.{Any-from_list_any, find-append, list_any-append}
use Rattle.std.proofs.lemmas.List.Quantifiers.{all_pairs_push, all_pairs_remove}
use Rattle.std.proofs.lemmas.Map.Steps.{length-le_from_distinct_below}
use Rattle.std.proofs.Math.Seq.{map-set_same}
use Rattle.lvm_num.specs.declared.record.NoteEntry.{NoteEntry}
use Rattle.lvm_num.specs.Disks.{has}
use Rattle.arrayvec.specs.ArrayVec.{ArrayVec}
use Rattle.lvm_mwc.specs.declared.entries.CacheEntry.{CacheEntry}
use Rattle.lvm_mwc.specs.declared.notes.DiskNotes.{DiskNotes}
use Rattle.lvm_mwc.specs.Firsts.{with_first, without_first}
use Rattle.lvm_mwc.specs.Entries.{note_of}
use Rattle.std.proofs.lemmas.List.{length-append, length-take, map-append, reverse-append}
use Rattle.std.proofs.lemmas.List.Sums.{length-filter, count_by-le-length}
use Rattle.lvm_mwc.specs.Notes.{is_of_disk, is_in_flight, both_name, names_group, common, disks_of, AreDisks}
use Rattle.lvm_mwc.specs.Cache.{Cached, has_disk, flight_on, flight_names, is_named, after_start, after_end, started, ended, ended_as, no_notes, IsNew}
use Rattle.lvm_num.proofs.Lists.{pairs_head, pairs_tail}
use Rattle.lvm_mwc.proofs.FirstsLemmas.{first_at, none_at}

abbrev pub cached : List CacheEntry → List DiskNotes → Cached
cached entries notes = record { entries = entries; notes = notes }

abbrev pub notes_of : ℕ → ArrayVec NoteEntry → Option (ArrayVec NoteEntry) → DiskNotes
notes_of disk written flight = record { disk = disk; written = written; flight = flight }

-- ---- where the notes of a disk stand

first_on : (disk : ℕ) (notes : List DiskNotes) → position_or_len (λ (d : ℕ). d == disk) (disks_of notes) ≡ position_or_len (is_of_disk disk) notes
first_on disk [] = refl
first_on disk (n ∷ notes) = ap (λ (k : ℕ). cond (not (n.disk == disk)) (1 + k) 0) (first_on disk notes)

pub as_many : (notes : List DiskNotes) → length (disks_of notes) ≡ length notes
as_many [] = refl
as_many (n ∷ notes) = ap suc (as_many notes)

place_on : (disk : ℕ) (notes : List DiskNotes) → position (λ (d : ℕ). d == disk) (disks_of notes) ≡ position (is_of_disk disk) notes
place_on disk notes = let first = first_on disk notes in let long = as_many notes in rw (first, long) refl

-- the place of a disk among the disks is that of its notes
pub looked_up : (disk : ℕ) (notes : List DiskNotes) (disks now : List ℕ) (place : Option ℕ) → disks ≡ disks_of notes → now ≡ disks → place ≡ position (λ (d : ℕ). d == disk) now → position (is_of_disk disk) notes ≡ place
looked_up disk notes disks now place are is answer =
    sym (place_on disk notes) ∙ ap (position (λ (d : ℕ). d == disk)) (sym (is ∙ are)) ∙ sym answer

-- ---- a note that is looked through from its end

either_way : (a b : Bool) → (a || (b || false)) ≡ (b || a)
either_way true true = refl
either_way true false = refl
either_way false true = refl
either_way false false = refl

pub any_from_end : (p : NoteEntry → Bool) (note : List NoteEntry) → list_any p (reverse note) ≡ list_any p note
any_from_end p [] = refl
any_from_end p (e ∷ note) =
    ap (list_any p) (reverse-append (e ∷ []) note) ∙ list_any-append p (reverse note) (e ∷ []) ∙ ap (λ (b : Bool). b || (p e || false)) (any_from_end p note) ∙ either_way (list_any p note) (p e)

-- ---- whether a disk has notes

pub there_on : (s : Cached) (disk : ℕ) (place : Option ℕ) → position (is_of_disk disk) s.notes ≡ place → is_some place ≡ has_disk s disk
there_on s disk None at = sym (ap (λ (o : Option DiskNotes). is_some o) (none_at (is_of_disk disk) s.notes at).found)
there_on s disk (Some k) at = sym (ap (λ (o : Option DiskNotes). is_some o) (first_at (is_of_disk disk) s.notes (no_notes 0) k at).found)

-- ---- what is in flight

pub no_flight : (s : Cached) (disk : ℕ) → position (is_of_disk disk) s.notes ≡ None → is_some (flight_on s disk) ≡ false
no_flight s disk at = ap (λ (o : Option DiskNotes). is_some (option_and_then (λ (n : DiskNotes). n.flight) o)) (none_at (is_of_disk disk) s.notes at).found

pub flight_at : (s : Cached) (disk k : ℕ) (d : DiskNotes) → position (is_of_disk disk) s.notes ≡ Some k → is_some (flight_on s disk) ≡ is_some (get_or s.notes k d).flight
flight_at s disk k d at = ap (λ (o : Option DiskNotes). is_some (option_and_then (λ (n : DiskNotes). n.flight) o)) (first_at (is_of_disk disk) s.notes d k at).found

-- whether the note in flight on a disk names a track group
abbrev names_in_flight : ℕ → ℕ → Option DiskNotes → Bool
names_in_flight lv group o = option_map_or (λ (note : ArrayVec NoteEntry). names_group note.items lv group) (option_and_then (λ (n : DiskNotes). n.flight) o) false

pub not_flying : (s : Cached) (disk lv group : ℕ) → position (is_of_disk disk) s.notes ≡ None → flight_names s disk lv group ≡ false
not_flying s disk lv group at = ap (names_in_flight lv group) (none_at (is_of_disk disk) s.notes at).found

pub flying_at : (s : Cached) (disk lv group k : ℕ) (d : DiskNotes) → position (is_of_disk disk) s.notes ≡ Some k → flight_names s disk lv group ≡ is_in_flight lv group (get_or s.notes k d)
flying_at s disk lv group k d at = ap (names_in_flight lv group) (first_at (is_of_disk disk) s.notes d k at).found

-- ---- what is named

pub not_named : (s : Cached) (disk lv group : ℕ) → position (is_of_disk disk) s.notes ≡ None → is_named s disk lv group ≡ false
not_named s disk lv group at = ap (λ (o : Option DiskNotes). option_map_or (both_name lv group) o false) (none_at (is_of_disk disk) s.notes at).found

pub named_at : (s : Cached) (disk lv group k : ℕ) (d : DiskNotes) → position (is_of_disk disk) s.notes ≡ Some k → is_named s disk lv group ≡ both_name lv group (get_or s.notes k d)
named_at s disk lv group k d at = ap (λ (o : Option DiskNotes). option_map_or (both_name lv group) o false) (first_at (is_of_disk disk) s.notes d k at).found

-- ---- one disk's notes change

pub changed_at : (s : Cached) (es : List CacheEntry) (ns : List DiskNotes) (disk k : ℕ) (f : DiskNotes → DiskNotes) (row d : DiskNotes) → cached es ns ≡ s → position (is_of_disk disk) ns ≡ Some k → row ≡ f (get_or ns k d) → cached es (set ns k row) ≡ record s { notes = with_first (is_of_disk disk) f s.notes }
changed_at s es ns disk k f row d seen at is = rw (← seen) (rw is (ap (cached es) ((first_at (is_of_disk disk) ns d k at).changed f)))

pub started_at : (s : Cached) (es : List CacheEntry) (ns : List DiskNotes) (disk k : ℕ) (r : DiskNotes) (note : ArrayVec NoteEntry) → cached es ns ≡ s → position (is_of_disk disk) ns ≡ Some k → r ≡ get_or ns k r → note.items ≡ note_of es
    → cached es (set ns k (notes_of r.disk r.written (Some note))) ≡ after_start s disk
started_at s es ns disk k r note seen at there is =
    let named : note ≡ record { items = note_of s.entries } = ap (λ (items : List NoteEntry). let v : ArrayVec NoteEntry = record { items = items } in v) (is ∙ ap (λ (c : Cached). note_of c.entries) seen) in
    changed_at s es ns disk k (started s.entries) (notes_of r.disk r.written (Some note)) r seen at
    (ap (λ (v : ArrayVec NoteEntry). notes_of r.disk r.written (Some v)) named ∙ ap (started s.entries) there)

pub not_started : (s : Cached) (disk : ℕ) → position (is_of_disk disk) s.notes ≡ None → s ≡ after_start s disk
not_started s disk at = ap (cached s.entries) (sym ((none_at (is_of_disk disk) s.notes at).changed (started s.entries)))

pub not_ended : (s : Cached) (disk : ℕ) (ok : Bool) → position (is_of_disk disk) s.notes ≡ None → s ≡ after_end s disk ok
not_ended s disk ok at = ap (cached s.entries) (sym ((none_at (is_of_disk disk) s.notes at).changed (ended ok)))

-- its disk stays
pub ended_on : (ok : Bool) (n : DiskNotes) → (ended ok n).disk ≡ n.disk
ended_on ok n = by n.flight
  where
    by : (flight : Option (ArrayVec NoteEntry)) → (option_map_or (λ (f : ArrayVec NoteEntry). record n { written = record { items = ended_as ok n.written.items f.items }; flight = None }) flight n).disk ≡ n.disk
    by None = refl
    by (Some f) = refl

pub disks_same : (notes : List DiskNotes) (disks : List ℕ) (k : ℕ) (row d : DiskNotes) → disks ≡ disks_of notes → row.disk ≡ (get_or notes k d).disk → disks ≡ disks_of (set notes k row)
disks_same notes disks k row d are same = are ∙ sym (map-set_same (λ (n : DiskNotes). n.disk) notes k row d same)

pub disks_ended : (ok : Bool) (notes : List DiskNotes) (disks : List ℕ) (k : ℕ) (row d : DiskNotes) → disks ≡ disks_of notes → row ≡ ended ok (get_or notes k d) → disks ≡ disks_of (set notes k row)
disks_ended ok notes disks k row d are is = disks_same notes disks k row d are (ap (λ (n : DiskNotes). n.disk) is ∙ ended_on ok (get_or notes k d))

-- ---- the disks of a new cache

-- the disks of a set that are below a number have notes, which name nothing
abbrev pub AreFirst : ℕ → ℕ → List DiskNotes → Type 0
AreFirst disks n notes = (d : ℕ) → find (is_of_disk d) notes ≡ cond (nat_lt d n && has disks d) (Some (no_notes d)) None

first_test : (has : Bool) (d : ℕ) → option_or (cond has (Some (no_notes d)) None) None ≡ cond has (Some (no_notes d)) None
first_test true d = refl
first_test false d = refl

pub one_more : (disks n : ℕ) (notes : List DiskNotes) → has disks n ≡ true → AreFirst disks n notes → AreFirst disks (n + 1) (notes ++ no_notes n ∷ [])
one_more disks n notes there first d =
    find-append (is_of_disk d) notes (no_notes n ∷ []) ∙ ap (λ (o : Option DiskNotes). option_or o (cond (n == d) (Some (no_notes n)) None)) (first d)
    ∙ elim (cases_order d n) [
      | inl same ↦
          let at : (n == d) ≡ true = eq-eqb n d (sym same) in
          let below : nat_lt d n ≡ false = le-ltb d n (omega arith) in
          let below_next : nat_lt d (n + 1) ≡ true = lt-ltb d (n + 1) (omega arith) in
          let its : has disks d ≡ true = rw same there in
          rw (at, below, below_next, its) (ap (λ (x : ℕ). Some (no_notes x)) (sym same))
      | inr other ↦ elim other [
        | inl less ↦
            let at : (n == d) ≡ false = ne_eqb n d (λ same. absurd (omega arith)) in
            let below : nat_lt d n ≡ true = lt-ltb d n less in
            let below_next : nat_lt d (n + 1) ≡ true = lt-ltb d (n + 1) (omega arith) in
            rw (at, below, below_next) (first_test (has disks d) d)
        | inr more ↦
            let at : (n == d) ≡ false = ne_eqb n d (λ same. absurd (omega arith)) in
            let below : nat_lt d n ≡ false = le-ltb d n (omega arith) in
            let below_next : nat_lt d (n + 1) ≡ false = le-ltb d (n + 1) (omega arith) in
            rw (at, below, below_next) refl
      ]
    ]

pub none_more : (disks n : ℕ) (notes : List DiskNotes) → has disks n ≡ false → AreFirst disks n notes → AreFirst disks (n + 1) notes
none_more disks n notes there first d =
    first d ∙ elim (cases_order d n) [
      | inl same ↦
          let below : nat_lt d n ≡ false = le-ltb d n (omega arith) in
          let below_next : nat_lt d (n + 1) ≡ true = lt-ltb d (n + 1) (omega arith) in
          let its : has disks d ≡ false = rw same there in
          rw (below, below_next, its) refl
      | inr other ↦ elim other [
        | inl less ↦
            let below : nat_lt d n ≡ true = lt-ltb d n less in
            let below_next : nat_lt d (n + 1) ≡ true = lt-ltb d (n + 1) (omega arith) in
            rw (below, below_next) refl
        | inr more ↦
            let below : nat_lt d n ≡ false = le-ltb d n (omega arith) in
            let below_next : nat_lt d (n + 1) ≡ false = le-ltb d (n + 1) (omega arith) in
            rw (below, below_next) refl
      ]
    ]

-- ---- what two notes share

pub common_few : (written flight : List NoteEntry) (i : ℕ) → i < length written → length written ≤ 62 → length (common (take i written) flight) < 62
common_few written flight i within most =
    let p : NoteEntry → Bool = λ e. names_group flight e.lv e.group in
    omega (arith, length-filter p (take i written), count_by-le-length p (take i written), length-take i written)

in_set : (there : Bool) (d n : ℕ) → (IsTrue there → d < n) → (nat_lt d n && there) ≡ there
in_set true d n below = rw (lt-ltb d n (below refl)) refl
in_set false d n below = and_right (nat_lt d n) false refl

pub new_disks : (disks n : ℕ) (es : List CacheEntry) (notes : List DiskNotes) → 128 ≤ n → ((d : ℕ) → IsTrue (has disks d) → d < 128) → es ≡ [] → AreFirst disks n notes → IsNew disks (cached es notes)
new_disks disks n es notes all few none first = record {
  entries = none;
  notes = λ d. first d ∙ ap (λ (b : Bool). cond b (Some (no_notes d)) None) (in_set (has disks d) d n (λ there. omega (arith, few d there, all)));
}

pub none_first : (disks : ℕ) → AreFirst disks 0 []
none_first disks d = rw (le-ltb d 0 (omega arith)) refl

pub no_disks : AreDisks 0 []
no_disks = record { low = λ k d lt. absurd (omega (arith, lt)); differ = λ i j d less lt. absurd (omega (arith, lt)) }

pub next_disk : (n : ℕ) (notes : List DiskNotes) → AreDisks n (disks_of notes) → AreDisks (n + 1) (disks_of (notes ++ no_notes n ∷ []))
next_disk n notes are = subst (AreDisks (n + 1)) (sym (map-append (λ (m : DiskNotes). m.disk) notes (no_notes n ∷ []))) (record {
  low = All-push (λ (d : ℕ). d < n + 1) (disks_of notes) n (λ k d lt. (let low = are.low k d lt in omega (arith, low))) (omega arith);
  differ = all_pairs_push (λ (a b : ℕ). a ≢ b) (disks_of notes) n are.differ (λ k d lt same. (let low = are.low k d lt in omega (arith, low, same)));
})

pub no_next_disk : (n : ℕ) (disks : List ℕ) → AreDisks n disks → AreDisks (n + 1) disks
no_next_disk n disks are = record { low = λ k d lt. (let low = are.low k d lt in omega (arith, low)); differ = are.differ }

pub all_disks : (n : ℕ) (disks : List ℕ) → n ≤ 128 → AreDisks n disks → AreDisks 128 disks
all_disks n disks most are = record { low = λ k d lt. (let low = are.low k d lt in omega (arith, low, most)); differ = are.differ }

-- ---- a disk comes

-- none of the notes is that of a disk that isn't there
pub absent : (disk : ℕ) (notes : List DiskNotes) → is_some (find (is_of_disk disk) notes) ≡ false → All (λ (d : ℕ). d ≢ disk) (disks_of notes)
absent disk [] none = λ k d lt. absurd (omega (arith, lt))
absent disk (n ∷ notes) none = by_test (n.disk == disk) refl none (absent disk notes)
  where
    by_test : (t : Bool) → (n.disk == disk) ≡ t → is_some (cond t (Some n) (find (is_of_disk disk) notes)) ≡ false
        → (is_some (find (is_of_disk disk) notes) ≡ false → All (λ (d : ℕ). d ≢ disk) (disks_of notes)) → All (λ (d : ℕ). d ≢ disk) (disks_of (n ∷ notes))
    by_test true is none rest = absurd cc
    by_test false is none rest = All-cons (λ (d : ℕ). d ≢ disk) n.disk (disks_of notes) (eqb-false n.disk disk is) (rest none)

-- none of the disks is it
pub strange : (s : Cached) (es : List CacheEntry) (notes : List DiskNotes) (disks : List ℕ) (disk : ℕ) → cached es notes ≡ s → disks ≡ disks_of notes → has_disk s disk ≡ false → All (λ (d : ℕ). d ≢ disk) disks
strange s es notes disks disk seen are apart = subst (All (λ (d : ℕ). d ≢ disk)) (sym are) (absent disk notes (ap (λ (c : Cached). has_disk c disk) seen ∙ apart))

pub one_comes : (disks : List ℕ) (disk : ℕ) → AreDisks 128 disks → disk < 128 → All (λ (d : ℕ). d ≢ disk) disks → AreDisks 128 (disks ++ disk ∷ [])
one_comes disks disk are low apart = record {
  low = All-push (λ (d : ℕ). d < 128) disks disk are.low low;
  differ = all_pairs_push (λ (a b : ℕ). a ≢ b) disks disk are.differ apart;
}

distinct : (xs : List ℕ) → AllPairs (λ (a b : ℕ). a ≢ b) xs → IsDistinct eqb xs
unfolding IsDistinct
distinct [] apart = tt
distinct (x ∷ xs) apart = (
  recursion_from_All (λ y. eqb x y ≡ false) xs (λ k d lt. ne_eqb x (get_or xs k d) (apart 0 (suc k) d (omega arith) (omega (arith, lt)))),
  distinct xs (pairs_tail (λ (a b : ℕ). a ≢ b) x xs apart),
)

few_disks : (xs : List ℕ) → AreDisks 128 xs → length xs ≤ 128
few_disks xs are =
    length-le_from_distinct_below xs 128 (distinct xs are.differ)
    (λ q some.
    let found = Any-from_list_any (eqb q) xs some in
    let low = are.low found.0 found.1 found.2 in
    omega (arith, low, found.3, eqb-true q found.1 found.4))

-- there is room for it
pub room_for_one : (disks : List ℕ) (disk : ℕ) → AreDisks 128 disks → disk < 128 → All (λ (d : ℕ). d ≢ disk) disks → length disks < 128
room_for_one disks disk are low apart = omega (arith, few_disks (disks ++ disk ∷ []) (one_comes disks disk are low apart), length-append disks (disk ∷ []))

pub room_there : (s : Cached) (es : List CacheEntry) (notes : List DiskNotes) (disks : List ℕ) (disk : ℕ) → cached es notes ≡ s → disks ≡ disks_of notes → AreDisks 128 disks → disk < 128 → has_disk s disk ≡ false
    → length disks < 128
room_there s es notes disks disk seen are all low apart = room_for_one disks disk all low (strange s es notes disks disk seen are apart)

pub come_in_notes : (notes : List DiskNotes) (row : DiskNotes) → disks_of notes ++ row.disk ∷ [] ≡ disks_of (notes ++ row ∷ [])
come_in_notes notes row = sym (map-append (λ (n : DiskNotes). n.disk) notes (row ∷ []))

-- ---- a disk goes

others : (disk : ℕ) (notes : List DiskNotes) → All (λ (d : ℕ). d ≢ disk) (disks_of notes) → filter (λ (n : DiskNotes). not (is_of_disk disk n)) notes ≡ notes
others disk [] none = refl
others disk (n ∷ notes) none =
    let is : (n.disk == disk) ≡ false = ne_eqb n.disk disk (none 0 n.disk (omega arith)) in
    let rest = filter (λ (m : DiskNotes). not (is_of_disk disk m)) notes in
    ap (λ (b : Bool). cond (not b) (n ∷ rest) rest) is ∙ ap (λ (l : List DiskNotes). n ∷ l) (others disk notes (All-tail (λ (d : ℕ). d ≢ disk) n.disk (disks_of notes) none))

-- where disks differ the first notes of one are all of it
pub all_but : (disk : ℕ) (notes : List DiskNotes) → AllPairs (λ (a b : ℕ). a ≢ b) (disks_of notes) → without_first (is_of_disk disk) notes ≡ filter (λ (n : DiskNotes). not (is_of_disk disk n)) notes
all_but disk [] differ = refl
all_but disk (n ∷ notes) differ = by_test (n.disk == disk) refl (all_but disk notes (pairs_tail (λ (a b : ℕ). a ≢ b) n.disk (disks_of notes) differ))
  where
    by_test : (t : Bool) → (n.disk == disk) ≡ t → without_first (is_of_disk disk) notes ≡ filter (λ (m : DiskNotes). not (is_of_disk disk m)) notes
        → cond t notes (n ∷ without_first (is_of_disk disk) notes) ≡ cond (not t) (n ∷ filter (λ (m : DiskNotes). not (is_of_disk disk m)) notes) (filter (λ (m : DiskNotes). not (is_of_disk disk m)) notes)
    by_test true is rest = sym (others disk notes (λ k d lt same. pairs_head (λ (a b : ℕ). a ≢ b) n.disk (disks_of notes) differ k d lt (eqb-true n.disk disk is ∙ sym same)))
    by_test false is rest = ap (λ (l : List DiskNotes). n ∷ l) rest

pub dismissed : (s : Cached) (es : List CacheEntry) (ns : List DiskNotes) (disk k : ℕ) (now : List DiskNotes) → cached es ns ≡ s → position (is_of_disk disk) ns ≡ Some k → AllPairs (λ (a b : ℕ). a ≢ b) (disks_of ns) → now ≡ remove ns k
    → cached es now ≡ record s { notes = filter (λ (n : DiskNotes). not (is_of_disk disk n)) s.notes }
dismissed s es ns disk k now seen at differ is = rw (← seen) (ap (cached es) (is ∙ (first_at (is_of_disk disk) ns (no_notes 0) k at).removed ∙ all_but disk ns differ))

pub not_dismissed : (s : Cached) (disk : ℕ) → position (is_of_disk disk) s.notes ≡ None → s ≡ record s { notes = filter (λ (n : DiskNotes). not (is_of_disk disk n)) s.notes }
not_dismissed s disk at = ap (cached s.entries) (sym (others disk s.notes (absent disk s.notes (ap (λ (o : Option DiskNotes). is_some o) (none_at (is_of_disk disk) s.notes at).found))))

pub go_in_notes : (notes : List DiskNotes) (k : ℕ) → remove (disks_of notes) k ≡ disks_of (remove notes k)
go_in_notes [] zero = refl
go_in_notes [] (suc k) = refl
go_in_notes (n ∷ notes) zero = refl
go_in_notes (n ∷ notes) (suc k) = ap (λ (l : List ℕ). n.disk ∷ l) (go_in_notes notes k)

pub one_goes : (disks : List ℕ) (k : ℕ) → k < length disks → AreDisks 128 disks → AreDisks 128 (remove disks k)
one_goes disks k within are = record {
  low = All-append (λ (d : ℕ). d < 128) (take k disks) (drop (suc k) disks) (All-take (λ (d : ℕ). d < 128) k disks are.low) (All-drop (λ (d : ℕ). d < 128) (suc k) disks are.low);
  differ = all_pairs_remove (λ (a b : ℕ). a ≢ b) disks k within are.differ;
}

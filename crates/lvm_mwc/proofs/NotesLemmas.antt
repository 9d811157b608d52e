-- What is named on a disk through calls of a cache.
use Rattle.std.proofs.Common.{◌≡◌, ◌<◌, ◌++◌, ◌&&◌, ◌==◌, ℕ, List, [], ◌∷◌, Some, None, Option, Bool, true, false, cond, refl, sym, ◌∙◌, ap, option_map}
use Rattle.std.specs.List.{list_all, find}
use Rattle.std.specs.Option.{option_map_or, option_to_list, option_and_then}
use Rattle.std.proofs.lemmas.Bool.{and_parts, and_from, and_right, eqb-true}
use Rattle.std.proofs.lemmas.List.{append-nil}
use Rattle.std.proofs.lemmas.Option.{same_Some, none-some}
use Rattle.lvm_num.specs.declared.record.NoteEntry.{NoteEntry}
use Rattle.lvm_num.specs.Disks.{has}
use Rattle.lvm_num.proofs.Lists.{not_nil}
use Rattle.arrayvec.specs.ArrayVec.{ArrayVec}
use Rattle.lvm_mwc.specs.declared.entries.CacheEntry.{CacheEntry}
use Rattle.lvm_mwc.specs.declared.notes.DiskNotes.{DiskNotes}
use Rattle.lvm_mwc.specs.Firsts.{with_first}
use Rattle.lvm_mwc.specs.Entries.{has_entry, pins_of, are_all_pinned, with_pin, note_of}
use Rattle.lvm_mwc.specs.Notes.{is_of_disk, names_group, both_name, common, NoteMayStand}
use Rattle.lvm_mwc.specs.Cache.{Cached, IsNew, notes_on, is_named, no_notes, after_start, after_end, started, ended}
use Rattle.lvm_mwc.specs.Runs.{Call, Pins, Unpins, StartsNote, NoteEnds, after, after_all, IsPinnedBefore, Sectors, no_sectors, sectors_ended, sectors_in, sectors_after, Knows}
use Rattle.lvm_mwc.proofs.FirstsLemmas.{find-with, find-with_other}
use Rattle.lvm_mwc.proofs.CacheLemmas.{notes_of, ended_on}
use Rattle.lvm_mwc.proofs.EntriesLemmas.Pins.{note-names, pinned_is_there}

-- ---- what two notes share

common_test : (kept own : Bool) (e : NoteEntry) (es flight : List NoteEntry) (lv group : ℕ) → names_group flight e.lv e.group ≡ kept → (e.lv == lv && e.group == group) ≡ own
    → names_group (common es flight) lv group ≡ (names_group es lv group && names_group flight lv group)
    → names_group (cond kept (e ∷ common es flight) (common es flight)) lv group ≡ (names_group (e ∷ es) lv group && names_group flight lv group)
common_test true true e es flight lv group kept own rest =
    let both = and_parts (e.lv == lv) (e.group == group) own in
    let same_lv : e.lv ≡ lv = eqb-true e.lv lv both.0 in
    let same_group : e.group ≡ group = eqb-true e.group group both.1 in
    let named : names_group flight lv group ≡ true = rw (← same_lv, ← same_group) kept in
    rw (own, named) refl
common_test true false e es flight lv group kept own rest = rw own rest
common_test false true e es flight lv group kept own rest =
    let both = and_parts (e.lv == lv) (e.group == group) own in
    let same_lv : e.lv ≡ lv = eqb-true e.lv lv both.0 in
    let same_group : e.group ≡ group = eqb-true e.group group both.1 in
    let named : names_group flight lv group ≡ false = rw (← same_lv, ← same_group) kept in
    let none : (names_group es lv group && names_group flight lv group) ≡ false = and_right (names_group es lv group) (names_group flight lv group) named in
    rw (own, named) (rest ∙ none)
common_test false false e es flight lv group kept own rest = rw own rest

names-common : (written flight : List NoteEntry) (lv group : ℕ) → names_group (common written flight) lv group ≡ (names_group written lv group && names_group flight lv group)
names-common [] flight lv group = refl
names-common (e ∷ es) flight lv group = common_test (names_group flight e.lv e.group) (e.lv == lv && e.group == group) e es flight lv group refl refl (names-common es flight lv group)

-- ---- one disk's notes change

same_disk : (d disk : ℕ) (n : DiskNotes) → (d == disk) ≡ false → is_of_disk d n ≡ true → is_of_disk disk n ≡ false
same_disk d disk n other on = rw (eqb-true n.disk d on) other

on_other : (c : Cached) (d disk : ℕ) (f : DiskNotes → DiskNotes) → ((n : DiskNotes) → (f n).disk ≡ n.disk) → (d == disk) ≡ false → find (is_of_disk disk) (with_first (is_of_disk d) f c.notes) ≡ notes_on c disk
on_other c d disk f stays other = find-with_other (is_of_disk disk) (is_of_disk d) f c.notes (λ n on. let it = same_disk d disk n other on in (it, ap (λ (m : ℕ). m == disk) (stays n) ∙ it))

on_same : (c : Cached) (d disk : ℕ) (f : DiskNotes → DiskNotes) → ((n : DiskNotes) → (f n).disk ≡ n.disk) → (d == disk) ≡ true → find (is_of_disk disk) (with_first (is_of_disk d) f c.notes) ≡ option_map f (notes_on c disk)
on_same c d disk f stays same = rw (eqb-true d disk same) (find-with (is_of_disk disk) f c.notes (λ n on. ap (λ (m : ℕ). m == disk) (stays n) ∙ on))

ended_there : (ok : Bool) (flight : Option (ArrayVec NoteEntry)) (disk : ℕ) (written : ArrayVec NoteEntry) → (ended ok (notes_of disk written flight)).disk ≡ disk
ended_there ok None disk written = refl
ended_there ok (Some f) disk written = refl

-- ---- what is named stays named

abbrev named_in : ℕ → ℕ → Option DiskNotes → Bool
named_in lv group o = option_map_or (both_name lv group) o false

named_started : (es : List CacheEntry) (lv group : ℕ) (o : Option DiskNotes) → has_entry es lv group ≡ true → named_in lv group o ≡ true → named_in lv group (option_map (started es) o) ≡ true
named_started es lv group None there named = cc
named_started es lv group (Some n) there named =
    let written : names_group n.written.items lv group ≡ true = (and_parts (names_group n.written.items lv group) (option_map_or (λ (flight : ArrayVec NoteEntry). names_group flight.items lv group) n.flight true) named).0 in
    and_from (names_group n.written.items lv group) (names_group (note_of es) lv group) written (note-names es lv group ∙ there)

named_ended_of : (ok : Bool) (flight : Option (ArrayVec NoteEntry)) (disk : ℕ) (written : ArrayVec NoteEntry) (lv group : ℕ) → both_name lv group (notes_of disk written flight) ≡ true → both_name lv group (ended ok (notes_of disk written flight)) ≡ true
named_ended_of ok None disk written lv group named = named
named_ended_of true (Some f) disk written lv group named = and_from (names_group f.items lv group) true (and_parts (names_group written.items lv group) (names_group f.items lv group) named).1 refl
named_ended_of false (Some f) disk written lv group named = and_from (names_group (common written.items f.items) lv group) true (names-common written.items f.items lv group ∙ named) refl

named_ended : (ok : Bool) (lv group : ℕ) (o : Option DiskNotes) → named_in lv group o ≡ true → named_in lv group (option_map (ended ok) o) ≡ true
named_ended ok lv group None named = cc
named_ended ok lv group (Some n) named = named_ended_of ok n.flight n.disk n.written lv group named

named_after_pin : (all : Bool) (c : Cached) (l g disk lv group : ℕ) → is_named c disk lv group ≡ true → is_named (cond all c (record c { entries = with_pin c.entries l g })) disk lv group ≡ true
named_after_pin true c l g disk lv group named = named
named_after_pin false c l g disk lv group named = named

named_after_start : (own : Bool) (c : Cached) (d disk lv group : ℕ) → (d == disk) ≡ own → has_entry c.entries lv group ≡ true → is_named c disk lv group ≡ true → is_named (after_start c d) disk lv group ≡ true
named_after_start true c d disk lv group same there named = ap (named_in lv group) (on_same c d disk (started c.entries) (λ n. refl) same) ∙ named_started c.entries lv group (notes_on c disk) there named
named_after_start false c d disk lv group other there named = ap (named_in lv group) (on_other c d disk (started c.entries) (λ n. refl) other) ∙ named

named_after_end : (own : Bool) (c : Cached) (d disk : ℕ) (ok : Bool) (lv group : ℕ) → (d == disk) ≡ own → is_named c disk lv group ≡ true → is_named (after_end c d ok) disk lv group ≡ true
named_after_end true c d disk ok lv group same named = ap (named_in lv group) (on_same c d disk (ended ok) (ended_on ok) same) ∙ named_ended ok lv group (notes_on c disk) named
named_after_end false c d disk ok lv group other named = ap (named_in lv group) (on_other c d disk (ended ok) (ended_on ok) other) ∙ named

named_after : (c : Cached) (call : Call) (disk lv group : ℕ) → 0 < pins_of c.entries lv group → is_named c disk lv group ≡ true → is_named (after c call) disk lv group ≡ true
named_after c (Pins l g) disk lv group pinned named = named_after_pin (are_all_pinned c.entries l g) c l g disk lv group named
named_after c (Unpins l g) disk lv group pinned named = named
named_after c (StartsNote d) disk lv group pinned named = named_after_start (d == disk) c d disk lv group refl (pinned_is_there c.entries lv group pinned) named
named_after c (NoteEnds d ok) disk lv group pinned named = named_after_end (d == disk) c d disk ok lv group refl named

pub named_after_all : (c : Cached) (calls : List Call) (disk lv group : ℕ) → IsPinnedBefore c calls lv group → is_named c disk lv group ≡ true → is_named (after_all c calls) disk lv group ≡ true
named_after_all c [] disk lv group pinned named = named
named_after_all c (call ∷ calls) disk lv group pinned named = named_after_all (after c call) calls disk lv group pinned.1 (named_after c call disk lv group pinned.0 named)

-- ---- what may stand on a disk

-- the notes of a disk say what these sectors say
record Tracks (n : DiskNotes) (s : Sectors) : Type 0 where
  named : (lv group : ℕ) → names_group n.written.items lv group ≡ list_all (λ (sector : List NoteEntry). names_group sector lv group) (s.last ∷ s.failed)
  written : s.failed ≡ [] → n.written.items ≡ s.last
  flight : option_map (λ (note : ArrayVec NoteEntry). note.items) n.flight ≡ s.flight

record TracksOn (c : Cached) (disk : ℕ) (s : Sectors) : Type 0 where
  notes : DiskNotes
  there : notes_on c disk ≡ Some notes
  tracks : Tracks notes s

and_true : (b : Bool) → b ≡ (b && true)
and_true true = refl
and_true false = refl

and_turn : (a b c : Bool) → (a && (b && c)) ≡ ((a && b) && c)
and_turn true b c = refl
and_turn false b c = refl

all-push : {X : Type 0} (p : X → Bool) (xs : List X) (x : X) → list_all p (xs ++ x ∷ []) ≡ (list_all p xs && p x)
all-push p [] x = sym (and_true (p x))
all-push p (y ∷ ys) x = ap (λ (b : Bool). p y && b) (all-push p ys x) ∙ and_turn (p y) (list_all p ys) (p x)

tracks_ended_of : (ok : Bool) (flight : Option (ArrayVec NoteEntry)) (disk : ℕ) (written : ArrayVec NoteEntry) (last : List NoteEntry) (failed : List (List NoteEntry))
    → ((lv group : ℕ) → names_group written.items lv group ≡ list_all (λ (sector : List NoteEntry). names_group sector lv group) (last ∷ failed)) → (failed ≡ [] → written.items ≡ last)
    → Tracks (ended ok (notes_of disk written flight)) (sectors_ended ok (record { last = last; failed = failed; flight = option_map (λ (note : ArrayVec NoteEntry). note.items) flight }))
tracks_ended_of ok None disk written last failed named one = record { named = named; written = one; flight = refl }
tracks_ended_of true (Some f) disk written last failed named one = record { named = λ lv group. and_true (names_group f.items lv group); written = λ _. refl; flight = refl }
tracks_ended_of false (Some f) disk written last failed named one = record {
  named = λ lv group.
      names-common written.items f.items lv group ∙ ap (λ (b : Bool). b && names_group f.items lv group) (named lv group)
      ∙ sym (all-push (λ (sector : List NoteEntry). names_group sector lv group) (last ∷ failed) f.items);
  written = λ none. absurd (not_nil failed f.items none);
  flight = refl;
}

tracks_ended : (ok : Bool) (n : DiskNotes) (s : Sectors) → Tracks n s → Tracks (ended ok n) (sectors_ended ok s)
tracks_ended ok n s tracks =
    let same : s ≡ record { last = s.last; failed = s.failed; flight = option_map (λ (note : ArrayVec NoteEntry). note.items) n.flight } = ap (λ (flight : Option (List NoteEntry)). let t : Sectors = record { last = s.last; failed = s.failed; flight = flight } in t) (sym tracks.flight) in
    rw same (tracks_ended_of ok n.flight n.disk n.written s.last s.failed tracks.named tracks.written)

tracks_start : (own : Bool) (c : Cached) (d disk : ℕ) (s : Sectors) → (d == disk) ≡ own → TracksOn c disk s → TracksOn (after_start c d) disk (cond own (record s { flight = Some (note_of c.entries) }) s)
tracks_start true c d disk s same on = record {
  notes = started c.entries on.notes;
  there = on_same c d disk (started c.entries) (λ n. refl) same ∙ ap (option_map (started c.entries)) on.there;
  tracks = record { named = on.tracks.named; written = on.tracks.written; flight = refl };
}
tracks_start false c d disk s other on = record {
  notes = on.notes;
  there = on_other c d disk (started c.entries) (λ n. refl) other ∙ on.there;
  tracks = on.tracks;
}

tracks_end : (own : Bool) (c : Cached) (d disk : ℕ) (ok : Bool) (s : Sectors) → (d == disk) ≡ own → TracksOn c disk s → TracksOn (after_end c d ok) disk (cond own (sectors_ended ok s) s)
tracks_end true c d disk ok s same on = record {
  notes = ended ok on.notes;
  there = on_same c d disk (ended ok) (ended_on ok) same ∙ ap (option_map (ended ok)) on.there;
  tracks = tracks_ended ok on.notes s on.tracks;
}
tracks_end false c d disk ok s other on = record {
  notes = on.notes;
  there = on_other c d disk (ended ok) (ended_on ok) other ∙ on.there;
  tracks = on.tracks;
}

tracks_pin : (all : Bool) (c : Cached) (l g disk : ℕ) (s : Sectors) → TracksOn c disk s → TracksOn (cond all c (record c { entries = with_pin c.entries l g })) disk s
tracks_pin true c l g disk s on = on
tracks_pin false c l g disk s on = record { notes = on.notes; there = on.there; tracks = on.tracks }

tracks_after : (c : Cached) (call : Call) (disk : ℕ) (s : Sectors) → TracksOn c disk s → TracksOn (after c call) disk (sectors_in c disk s call)
tracks_after c (Pins l g) disk s on = tracks_pin (are_all_pinned c.entries l g) c l g disk s on
tracks_after c (Unpins l g) disk s on = record { notes = on.notes; there = on.there; tracks = on.tracks }
tracks_after c (StartsNote d) disk s on = tracks_start (d == disk) c d disk s refl on
tracks_after c (NoteEnds d ok) disk s on = tracks_end (d == disk) c d disk ok s refl on

tracks_after_all : (c : Cached) (calls : List Call) (disk : ℕ) (s : Sectors) → TracksOn c disk s → TracksOn (after_all c calls) disk (sectors_after c disk s calls)
tracks_after_all c [] disk s on = on
tracks_after_all c (call ∷ calls) disk s on = tracks_after_all (after c call) calls disk (sectors_in c disk s call) (tracks_after c call disk s on)

all-possible : (p : List NoteEntry → Bool) (xs : List (List NoteEntry)) (flight : Option (ArrayVec NoteEntry))
    → (list_all p xs && option_map_or (λ (note : ArrayVec NoteEntry). p note.items) flight true) ≡ list_all p (xs ++ option_to_list (option_map (λ (note : ArrayVec NoteEntry). note.items) flight))
all-possible p xs None = sym (and_true (list_all p xs)) ∙ ap (list_all p) (sym (append-nil xs))
all-possible p xs (Some f) = sym (all-push p xs f.items)

knows : (c : Cached) (disk : ℕ) (s : Sectors) → TracksOn c disk s → Knows c disk s
knows c disk s on = record {
  named = λ lv group.
      let p : List NoteEntry → Bool = λ sector. names_group sector lv group in
      ap (named_in lv group) on.there
      ∙ ap (λ (b : Bool). b && option_map_or (λ (note : ArrayVec NoteEntry). names_group note.items lv group) on.notes.flight true) (on.tracks.named lv group)
      ∙ all-possible p (s.last ∷ s.failed) on.notes.flight
      ∙ ap (λ (flight : Option (List NoteEntry)). list_all p ((s.last ∷ s.failed) ++ option_to_list flight)) on.tracks.flight;
  written = λ none. ap (option_map (λ (n : DiskNotes). n.written.items)) on.there ∙ ap (λ (items : List NoteEntry). Some items) (on.tracks.written none);
  flight = ap (λ (o : Option DiskNotes). option_map (λ (note : ArrayVec NoteEntry). note.items) (option_and_then (λ (n : DiskNotes). n.flight) o)) on.there ∙ on.tracks.flight;
}

new_tracks : (disks : ℕ) (c : Cached) (disk : ℕ) → IsNew disks c → has disks disk ≡ true → TracksOn c disk no_sectors
new_tracks disks c disk new there = record {
  notes = no_notes disk;
  there = new.notes disk ∙ rw there refl;
  tracks = record { named = λ lv group. refl; written = λ _. refl; flight = refl };
}

pub known_after_all : (disks : ℕ) (c : Cached) (disk : ℕ) (calls : List Call) → IsNew disks c → has disks disk ≡ true → Knows (after_all c calls) disk (sectors_after c disk no_sectors calls)
known_after_all disks c disk calls new there = knows (after_all c calls) disk (sectors_after c disk no_sectors calls) (tracks_after_all c calls disk no_sectors (new_tracks disks c disk new there))

-- ---- a sector that may stand there

pub named_stands : (n : DiskNotes) (sector : List NoteEntry) (lv group : ℕ) → NoteMayStand n sector → both_name lv group n ≡ true → names_group sector lv group ≡ true
named_stands n sector lv group stands named = stands lv group (and_parts (names_group n.written.items lv group) (option_map_or (λ (note : ArrayVec NoteEntry). names_group note.items lv group) n.flight true) named).0

pub named_flies : (n : DiskNotes) (note : ArrayVec NoteEntry) (lv group : ℕ) → n.flight ≡ Some note → both_name lv group n ≡ true → names_group note.items lv group ≡ true
named_flies n note lv group flies named =
    sym (ap (λ (o : Option (ArrayVec NoteEntry)). option_map_or (λ (v : ArrayVec NoteEntry). names_group v.items lv group) o true) flies)
    ∙ (and_parts (names_group n.written.items lv group) (option_map_or (λ (v : ArrayVec NoteEntry). names_group v.items lv group) n.flight true) named).1

ended_stands_of : (ok : Bool) (flight : Option (ArrayVec NoteEntry)) (disk : ℕ) (written note : ArrayVec NoteEntry) → flight ≡ Some note → NoteMayStand (ended ok (notes_of disk written flight)) note.items
ended_stands_of ok None disk written note flies lv group named = absurd (none-some note flies)
ended_stands_of true (Some f) disk written note flies lv group named = ap (λ (v : ArrayVec NoteEntry). names_group v.items lv group) (sym (same_Some f note flies)) ∙ named
ended_stands_of false (Some f) disk written note flies lv group named =
    ap (λ (v : ArrayVec NoteEntry). names_group v.items lv group) (sym (same_Some f note flies))
    ∙ (and_parts (names_group written.items lv group) (names_group f.items lv group) (sym (names-common written.items f.items lv group) ∙ named)).1

pub ended_stands : (n : DiskNotes) (note : ArrayVec NoteEntry) (ok : Bool) → n.flight ≡ Some note → NoteMayStand (ended ok n) note.items
ended_stands n note ok flies = ended_stands_of ok n.flight n.disk n.written note flies

failed_leaves_of : (flight : Option (ArrayVec NoteEntry)) (disk : ℕ) (written : ArrayVec NoteEntry) (sector : List NoteEntry) → NoteMayStand (notes_of disk written flight) sector → NoteMayStand (ended false (notes_of disk written flight)) sector
failed_leaves_of None disk written sector stands lv group named = stands lv group named
failed_leaves_of (Some f) disk written sector stands lv group named =
    stands lv group (and_parts (names_group written.items lv group) (names_group f.items lv group) (sym (names-common written.items f.items lv group) ∙ named)).0

pub failed_leaves : (n : DiskNotes) (sector : List NoteEntry) → NoteMayStand n sector → NoteMayStand (ended false n) sector
failed_leaves n sector stands = failed_leaves_of n.flight n.disk n.written sector stands

-- The notes of a cache after the start of one.
use Rattle.std.proofs.Common.{◌≡◌, ◌==◌, ◌≤◌, ◌*◌, ◌&&◌, ◌||◌, ℕ, zero, suc, Bool, true, false, List, [], ◌∷◌, ◌++◌, Option, Some, None, refl, sym, ◌∙◌, ap, subst, if◌then◌else◌}
use Rattle.std.specs.Prelude.{drop, find, is_some, option_and_then, take}
use Rattle.std.specs.List.{AllByRecursion}
use Rattle.std.specs.Option.{option_map, option_map_or}
use Rattle.std.proofs.lemmas.Bool.{eqb-true, eqb-false, ne_eqb}
use Rattle.lvm_num.specs.declared.place.Pp.{Pp}
use Rattle.lvm_num.specs.declared.descriptor.Descriptor.{Descriptor}
use Rattle.lvm_num.specs.declared.descriptor.LvRow.{LvRow}
use Rattle.lvm_num.specs.declared.descriptor.PvRow.{PvRow}
use Rattle.lvm_num.specs.Descriptor.{IsPartitionOf, IsValid, copies_of, is_member, is_pp, partitions_in, partitions_used, volume_of}
use Rattle.lvm_num.proofs.Booleans.{not_so}
use Rattle.lvm_num.proofs.Lists.{all_false, all_weaker, by_place, found_any}
use Rattle.lvm_mwc.specs.declared.notes.DiskNotes.{DiskNotes}
use Rattle.lvm_mwc.specs.Cache.{Cached, after_start, flight_on, has_disk, is_named, notes_on, started}
use Rattle.lvm_mwc.specs.Entries.{note_of, pins_of}
use Rattle.lvm_mwc.specs.Notes.{is_of_disk}
use Rattle.lvm_mwc.specs.Runs.{StartsNote as Starting}
use Rattle.lvm_mwc.proofs.FirstsLemmas.{find-with, find-with_other}
use Rattle.lvm_mwc.proofs.NotesLemmas.{named_after_all}
use Rattle.lvm_path.specs.declared.ask.Ask.{Ask}
use Rattle.lvm_path.specs.declared.target.Target.{Target}
use Rattle.lvm_path.specs.Asks.{lv_of}
use Rattle.lvm_session.specs.State.{Core}
use Rattle.lvm_session.specs.Judging.{copies_in, lp_of}
use Rattle.lvm_session.specs.Marks.{is_among}
use Rattle.lvm_session.specs.Requests.{IsAimed, IsTarget}
use Rattle.lvm_session.specs.Sound.{IsGoing}
use Rattle.lvm_session.proofs.MovesLemmas.{move_of, move_partition, open_one, place_open}

-- ---- its disk, and the others

module _ (c : Cached) (disk : ℕ) where
  here : notes_on (after_start c disk) disk ≡ option_map (started c.entries) (notes_on c disk)
  here = find-with (is_of_disk disk) (started c.entries) c.notes (λ n e. e)

  pub flight_here : has_disk c disk ≡ true → flight_on (after_start c disk) disk ≡ Some (record { items = note_of c.entries })
  flight_here has = ap (λ m. option_and_then (λ (n : DiskNotes). n.flight) m) here ∙ by (notes_on c disk) has
    where
      by : (m : Option DiskNotes) → is_some m ≡ true → option_and_then (λ (n : DiskNotes). n.flight) (option_map (started c.entries) m) ≡ Some (record { items = note_of c.entries })
      by None none = not_so none
      by (Some n) some = refl

  beside : (d : ℕ) → (d == disk) ≡ false → notes_on (after_start c disk) d ≡ notes_on c d
  beside d other = find-with_other (is_of_disk d) (is_of_disk disk) (started c.entries) c.notes (λ n e. (apart n e, apart n e))
    where
      apart : (n : DiskNotes) → (n.disk == disk) ≡ true → (n.disk == d) ≡ false
      apart n e = ne_eqb n.disk d (λ same. eqb-false d disk other (sym same ∙ eqb-true n.disk disk e))

  pub flight_beside : (d : ℕ) → (d == disk) ≡ false → flight_on (after_start c disk) d ≡ flight_on c d
  flight_beside d other = ap (λ m. option_and_then (λ (n : DiskNotes). n.flight) m) (beside d other)

  pub same_disks : (d : ℕ) → has_disk (after_start c disk) d ≡ has_disk c d
  same_disks d = by (d == disk) refl
    where
      kept : (m : Option DiskNotes) → is_some (option_map (started c.entries) m) ≡ is_some m
      kept None = refl
      kept (Some n) = refl

      by : (b : Bool) → (d == disk) ≡ b → has_disk (after_start c disk) d ≡ has_disk c d
      by true is = let same = eqb-true d disk is in ap (has_disk (after_start c disk)) same ∙ ap (λ m. is_some m) here ∙ kept (notes_on c disk) ∙ ap (has_disk c) (sym same)
      by false is = ap (λ m. is_some m) (beside d is)

  pub named_still : (d lv group : ℕ) → 1 ≤ pins_of c.entries lv group → is_named c d lv group ≡ true → is_named (after_start c disk) d lv group ≡ true
  named_still d lv group pinned named = named_after_all c (Starting disk ∷ []) d lv group (pinned, tt) named

-- ---- copies stand on members

module _ {A : Type 0} (P : A → Type 0) where
  all_left : (xs ys : List A) → AllByRecursion P (xs ++ ys) → AllByRecursion P xs
  all_left [] ys all = tt
  all_left (x ∷ xs) ys all = (all.0, all_left xs ys all.1)

  all_right : (xs ys : List A) → AllByRecursion P (xs ++ ys) → AllByRecursion P ys
  all_right [] ys all = all
  all_right (x ∷ xs) ys all = all_right xs ys all.1

  all_taken : (n : ℕ) (xs : List A) → AllByRecursion P xs → AllByRecursion P (take n xs)
  all_taken zero xs all = tt
  all_taken (suc n) [] all = tt
  all_taken (suc n) (x ∷ xs) all = (all.0, all_taken n xs all.1)

  all_dropped : (n : ℕ) (xs : List A) → AllByRecursion P xs → AllByRecursion P (drop n xs)
  all_dropped zero xs all = all
  all_dropped (suc n) [] all = tt
  all_dropped (suc n) (x ∷ xs) all = all_dropped n xs all.1

  -- what is found passes, and so holds of it what holds of all
  pub found_all : (t : A → Bool) (xs : List A) (x : A) → find t xs ≡ Some x → AllByRecursion P xs → (t x ≡ true) × P x
  found_all t [] x is all = absurd (cc is)
  found_all t (y ∷ xs) x is all = by (λ e. found_all t xs x e all.1) (t y) refl is
    where
      by : (find t xs ≡ Some x → (t x ≡ true) × P x) → (b : Bool) → t y ≡ b → (if b then Some y else find t xs) ≡ Some x → (t x ≡ true) × P x
      by rest true passes e = let same : y ≡ x = cc e in (sym (ap t same) ∙ passes, subst P same all.0)
      by rest false passes e = rest e

abbrev IsOnMember : Descriptor → Pp → Type 0
IsOnMember d p = is_member d p.disk ≡ true

-- what holds of all partitions that volumes have holds of those of one
of_volume : (P : Pp → Type 0) (rows : List LvRow) (row : LvRow) (lv : ℕ) → find (λ (r : LvRow). r.number == lv) rows ≡ Some row → AllByRecursion P (partitions_in rows) → AllByRecursion P row.map
of_volume P [] row lv is all = absurd (cc is)
of_volume P (r ∷ rows) row lv is all = by (λ e. of_volume P rows row lv e (all_right P r.map (partitions_in rows) all)) (r.number == lv) is
  where
    by : (find (λ (x : LvRow). x.number == lv) rows ≡ Some row → AllByRecursion P row.map) → (b : Bool) → (if b then Some r else find (λ (x : LvRow). x.number == lv) rows) ≡ Some row → AllByRecursion P row.map
    by rest true e = let same : r ≡ row = cc e in subst (λ (x : LvRow). AllByRecursion P x.map) same (all_left P r.map (partitions_in rows) all)
    by rest false e = rest e

member_found : (d : Descriptor) (p : Pp) → IsPartitionOf d p → IsOnMember d p
member_found d p its = found_any (λ (row : PvRow). row.disk == p.disk) d.pvs its.0 its.1

among_all : (d : Descriptor) (ps : List Pp) (p : Pp) → is_among ps p ≡ true → AllByRecursion (IsOnMember d) ps → IsOnMember d p
among_all d [] p is all = not_so is
among_all d (q ∷ ps) p is all = by (λ e. among_all d ps p e all.1) (p.disk == q.disk) (p.pp == q.pp) refl is
  where
    by : (is_among ps p ≡ true → IsOnMember d p) → (a b : Bool) → (p.disk == q.disk) ≡ a → (a && b) || is_among ps p ≡ true → IsOnMember d p
    by rest true b same e = ap (is_member d) (eqb-true p.disk q.disk same) ∙ all.0
    by rest false b same e = rest e

pub copies_on_members : (d : Descriptor) (lv lp : ℕ) (p : Pp) → IsValid d → is_among (copies_in d lv lp) p ≡ true → is_member d p.disk ≡ true
copies_on_members d lv lp p valid among = by (volume_of d lv) refl among
  where
    all_places : AllByRecursion (IsOnMember d) (partitions_in d.lvs)
    all_places = all_weaker (IsPartitionOf d) (IsOnMember d) (member_found d) (partitions_in d.lvs) (by_place (IsPartitionOf d) (partitions_in d.lvs) valid.maps.places)

    by : (m : Option LvRow) → volume_of d lv ≡ m → is_among (option_map_or (λ (row : LvRow). copies_of row lp) m []) p ≡ true → is_member d p.disk ≡ true
    by None none e = not_so e
    by (Some row) is e = among_all d (copies_of row lp) p e (all_taken (IsOnMember d) row.copies (drop (lp * row.copies) row.map) (all_dropped (IsOnMember d) (lp * row.copies) row.map (of_volume (IsOnMember d) d.lvs row lv is all_places)))

-- so do the targets of a request, also the destination of a move
pub target_on_member : (core : Core) (ask : Ask) (t : Target) → IsGoing core → IsTarget core ask t → is_member core.descriptor t.pp.disk ≡ true
target_on_member core ask t going its = by t.moves its.copy
  where
    by : (b : Bool) → IsAimed b core ask t → is_member core.descriptor t.pp.disk ≡ true
    by false among = copies_on_members core.descriptor (lv_of ask) (lp_of core ask) t.pp going.fitting.valid among
    by true place =
        let at = place_open core ask t.pp place.0 in
        ap (λ (p : Pp). is_member core.descriptor p.disk) at.is ∙ member_found core.descriptor at.copy.pp (move_partition core at.copy (move_of core at.copy (open_one core at.copy at.is_open going.copy) at.moves))

-- a partition that no volume has is none of its copies
pub no_copy : (d : Descriptor) (lv lp : ℕ) (p : Pp) → is_among (partitions_used d) p ≡ false → is_among (copies_in d lv lp) p ≡ false
no_copy d lv lp p free = by (volume_of d lv) refl
  where
    Apart : Pp → Type 0
    Apart q = is_pp p q ≡ false

    none : (ps : List Pp) → AllByRecursion Apart ps → is_among ps p ≡ false
    none [] all = refl
    none (q ∷ ps) all = ap (λ b. b || is_among ps p) all.0 ∙ none ps all.1

    by : (m : Option LvRow) → volume_of d lv ≡ m → is_among (option_map_or (λ (row : LvRow). copies_of row lp) m []) p ≡ false
    by None e = refl
    by (Some row) e = none (copies_of row lp) (all_taken Apart row.copies (drop (lp * row.copies) row.map) (all_dropped Apart (lp * row.copies) row.map (of_volume Apart d.lvs row lv e (all_false (is_pp p) (partitions_used d) free))))

-- so a target on a copy is no place to which one moves
pub no_place : (core : Core) → IsGoing core → (lv lp : ℕ) (p : Pp) → is_among (copies_in core.descriptor lv lp) p ≡ true → (ask : Ask) (t : Target) → IsTarget core ask t → p ≡ t.pp → t.moves ≡ false
no_place core going lv lp p copy ask t its is = by t.moves refl its.copy
  where
    by : (b : Bool) → t.moves ≡ b → IsAimed b core ask t → t.moves ≡ false
    by false e aimed = e
    by true e aimed =
        let at = place_open core ask t.pp aimed.0 in
        let move = move_of core at.copy (open_one core at.copy at.is_open going.copy) at.moves in
        not_so (sym (no_copy core.descriptor lv lp at.copy.pp move.free) ∙ ap (is_among (copies_in core.descriptor lv lp)) (sym (is ∙ at.is)) ∙ copy)

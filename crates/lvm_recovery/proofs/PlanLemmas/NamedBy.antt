-- What the notes of some disks name, found row by row.
use Rattle.std.proofs.Common.{◌≡◌, ◌⊎◌, inl, inr, ⊎_elim, ℕ, ◌+◌, ◌<◌, ◌≤◌, ◌==◌, ◌&&◌, ◌||◌, ◌++◌, Bool, true, false, List, [], ◌∷◌, Option, Some, None, length, slice_get, slice_index_or, map, refl, sym, ap, subst, ◌∙◌, arith, eq-eqb, IsPermutation}
use Rattle.std.specs.Prelude.{IsTrue}
use Rattle.std.specs.List.{list_any, Contains, dedup}
use Rattle.std.specs.Cmp.{IsEquivalence}
use Rattle.std.specs.List.Retain.{IsFiltered, DiffersFromLast}
use Rattle.std.specs.Option.{option_and_then, option_map}
use Rattle.std.proofs.lemmas.Bool.{eqb-true, cases_lt}
use Rattle.std.proofs.lemmas.List.Sorted.{Contains-permutation}
use Rattle.std.proofs.lemmas.List.Kept.{Contains-dedup, Contains-from_dedup}
use Rattle.std.proofs.lemmas.List.Filters.{dedup_is}
use Rattle.lvm_num.specs.declared.record.NoteEntry.{NoteEntry}
use Rattle.lvm_num.specs.Disks.{Disks}
use Rattle.lvm_num.proofs.Booleans.{clash, same_answer}
use Rattle.lvm_num.proofs.AmongLemmas.{one_of_left, one_of_right, one_of_either, one_at}
use Rattle.lvm_rec.specs.declared.notes.Note.{Note}
use Rattle.lvm_rec.specs.Note.{noted_of}
use Rattle.lvm_kept.specs.Group.{IsOneOf, is_named, names_if}
use Rattle.lvm_quorum.specs.declared.row.Survey.{Survey}
use Rattle.lvm_quorum.specs.declared.row.SurveyRow.{SurveyRow}
use Rattle.lvm_quorum.specs.Rows.{AreRows}
use Rattle.lvm_quorum.specs.Surveyed.{surveyed}
use Rattle.lvm_recover.proofs.passed.Commit.{contains}
use Rattle.lvm_recovery.specs.declared.plan.TrackGroup.{TrackGroup}
use Rattle.lvm_recovery.specs.Plan.{group_of, AreNamed}
use Rattle.lvm_recovery.proofs.CopyingLemmas.AllCopied.{at_index}
use Rattle.lvm_recovery.proofs.PlanLemmas.Naming.{both}

-- a row below one names it
pub record IsNamedBelow (s : Survey) (disks : Disks) (k : ℕ) (one : TrackGroup) : Type 0 where
  pub d : ℕ
  pub below : d < k
  pub disk : IsTrue (disks d)
  pub named : IsTrue (is_named (surveyed s) d one.volume one.group)

pub record AreNamedBelow (s : Survey) (disks : Disks) (groups : List TrackGroup) (k : ℕ) : Type 0 where
  pub each : (one : TrackGroup) → IsOneOf groups one → IsNamedBelow s disks k one
  pub all : (one : TrackGroup) → IsNamedBelow s disks k one → IsOneOf groups one

-- ---- the row at hand

pub row_at : (s : Survey) (rows : List SurveyRow) (k : ℕ) (row : SurveyRow) → rows ≡ s.rows → k < length rows → row ≡ slice_index_or rows k row → slice_get s.rows k ≡ Some row
row_at s rows k row same low is = ap (λ (l : List SurveyRow). slice_get l k) (sym same) ∙ at_index rows k row low ∙ ap Some (sym is)

note_is : (s : Survey) (k : ℕ) (row : SurveyRow) → slice_get s.rows k ≡ Some row → (lv g : ℕ) → is_named (surveyed s) k lv g ≡ names_if (option_map noted_of row.note) lv g
note_is s k row at lv g = ap (λ (o : Option SurveyRow). names_if (option_and_then (λ (r : SurveyRow). option_map noted_of r.note) o) lv g) at

-- nothing is named there
pub none_more : (s : Survey) (disks : Disks) (groups : List TrackGroup) (k : ℕ) → AreNamedBelow s disks groups k → ((one : TrackGroup) → IsTrue (disks k) → IsTrue (is_named (surveyed s) k one.volume one.group) → ⊥) → AreNamedBelow s disks groups (k + 1)
none_more s disks groups k so_far none = record {
  each = λ one among. let it = so_far.each one among in let low = it.below in record { d = it.d; below = omega (arith, low); disk = it.disk; named = it.named };
  all = λ one it. let low = it.below in ⊎_elim
      (λ (less : it.d < k). so_far.all one (record { d = it.d; below = less; disk = it.disk; named = it.named }))
      (λ (more : k ≤ it.d). let here : it.d ≡ k = omega (arith, low, more) in absurd (none one (subst (λ (n : ℕ). IsTrue (disks n)) here it.disk) (subst (λ (n : ℕ). IsTrue (is_named (surveyed s) n one.volume one.group)) here it.named)))
      (cases_lt it.d k);
}

pub off_more : (s : Survey) (disks : Disks) (groups : List TrackGroup) (k : ℕ) (row : SurveyRow) → AreRows s → AreNamedBelow s disks groups k → slice_get s.rows k ≡ Some row → disks row.disk ≡ false → AreNamedBelow s disks groups (k + 1)
off_more s disks groups k row own so_far at off = none_more s disks groups k so_far (λ one on named. clash (disks k) on (ap disks (sym (own.own k row at)) ∙ off))

pub empty_more : (s : Survey) (disks : Disks) (groups : List TrackGroup) (k : ℕ) (row : SurveyRow) → AreNamedBelow s disks groups k → slice_get s.rows k ≡ Some row → row.note ≡ None → AreNamedBelow s disks groups (k + 1)
empty_more s disks groups k row so_far at none = none_more s disks groups k so_far (λ one on named. clash (is_named (surveyed s) k one.volume one.group) named (note_is s k row at one.volume one.group ∙ ap (λ (o : Option Note). names_if (option_map noted_of o) one.volume one.group) none))

-- an entry that names it
entry_of : (entries : List NoteEntry) (one : TrackGroup) → IsTrue (list_any (λ (e : NoteEntry). e.lv == one.volume && e.group == one.group) entries) → IsOneOf (map group_of entries) one
entry_of [] one is = absurd cc
entry_of (e ∷ entries) one is = by (e.lv == one.volume && e.group == one.group) refl (entry_of entries one) is
  where
    by : (t : Bool) → (e.lv == one.volume && e.group == one.group) ≡ t → (IsTrue (list_any (λ (x : NoteEntry). x.lv == one.volume && x.group == one.group) entries) → IsOneOf (map group_of entries) one)
        → IsTrue (t || list_any (λ (x : NoteEntry). x.lv == one.volume && x.group == one.group) entries) → IsOneOf (map group_of (e ∷ entries)) one
    by true here rest is =
        let parts = both (e.lv == one.volume) (e.group == one.group) here in
        inl (sym (ap (λ (n : ℕ). record { volume = n; group = e.group }) (eqb-true e.lv one.volume parts.0) ∙ ap (λ (n : ℕ). record { volume = one.volume; group = n }) (eqb-true e.group one.group parts.1)))
    by false here rest is = inr (rest is)

its_entry : (entries : List NoteEntry) (one : TrackGroup) → IsOneOf (map group_of entries) one → IsTrue (list_any (λ (e : NoteEntry). e.lv == one.volume && e.group == one.group) entries)
its_entry [] one among = absurd among
its_entry (e ∷ entries) one (inl same) =
    let lv : (e.lv == one.volume) ≡ true = eq-eqb e.lv one.volume (sym (ap (λ (t : TrackGroup). t.volume) same)) in
    let group : (e.group == one.group) ≡ true = eq-eqb e.group one.group (sym (ap (λ (t : TrackGroup). t.group) same)) in
    ap (λ (t : Bool). (t && e.group == one.group) || list_any (λ (x : NoteEntry). x.lv == one.volume && x.group == one.group) entries) lv ∙ ap (λ (t : Bool). t || list_any (λ (x : NoteEntry). x.lv == one.volume && x.group == one.group) entries) group
its_entry (e ∷ entries) one (inr among) = or_true (e.lv == one.volume && e.group == one.group) (list_any (λ (x : NoteEntry). x.lv == one.volume && x.group == one.group) entries) (its_entry entries one among)
  where
    or_true : (p q : Bool) → IsTrue q → IsTrue (p || q)
    or_true true q is = refl
    or_true false q is = is

pub note_more : (s : Survey) (disks : Disks) (groups new : List TrackGroup) (k : ℕ) (row : SurveyRow) (note : Note) → AreRows s → AreNamedBelow s disks groups k → slice_get s.rows k ≡ Some row → disks row.disk ≡ true → row.note ≡ Some note
    → new ≡ groups ++ map group_of note.entries.items → AreNamedBelow s disks new (k + 1)
note_more s disks groups new k row note own so_far at on noted is = record {
  each = λ one among. ⊎_elim
      (λ (old : IsOneOf groups one). let it = so_far.each one old in let low = it.below in record { d = it.d; below = omega (arith, low); disk = it.disk; named = it.named })
      (λ (here : IsOneOf (map group_of note.entries.items) one). record { d = k; below = omega arith; disk = ap disks (sym (own.own k row at)) ∙ on; named = says one ∙ its_entry note.entries.items one here })
      (one_of_either groups (map group_of note.entries.items) one (subst (λ (l : List TrackGroup). IsOneOf l one) is among));
  all = λ one it. let low = it.below in subst (λ (l : List TrackGroup). IsOneOf l one) (sym is) (⊎_elim
      (λ (less : it.d < k). one_of_left groups (map group_of note.entries.items) one (so_far.all one (record { d = it.d; below = less; disk = it.disk; named = it.named })))
      (λ (more : k ≤ it.d). let here : it.d ≡ k = omega (arith, low, more) in
      one_of_right groups (map group_of note.entries.items) one (entry_of note.entries.items one (sym (says one) ∙ subst (λ (n : ℕ). IsTrue (is_named (surveyed s) n one.volume one.group)) here it.named)))
      (cases_lt it.d k));
}
  where
    says : (one : TrackGroup) → is_named (surveyed s) k one.volume one.group ≡ list_any (λ (e : NoteEntry). e.lv == one.volume && e.group == one.group) note.entries.items
    says one = note_is s k row at one.volume one.group ∙ ap (λ (o : Option Note). names_if (option_map noted_of o) one.volume one.group) noted

-- ---- all of them

one_of : {X : Type 0} (l : List X) (x : X) → Contains l x → IsOneOf l x
one_of l x it = one_at l it.0 x (at_index l it.0 x it.1 ∙ ap Some it.2)

row_is_there : (s : Survey) (d : ℕ) (one : TrackGroup) → IsTrue (is_named (surveyed s) d one.volume one.group) → d < length s.rows
row_is_there s d one named = by (slice_get s.rows d) refl named
  where
    by : (o : Option SurveyRow) → slice_get s.rows d ≡ o → IsTrue (names_if (option_and_then (λ (r : SurveyRow). option_map noted_of r.note) o) one.volume one.group) → d < length s.rows
    by None at is = absurd cc
    by (Some row) at is = Rattle.std.proofs.lemmas.Option.slice_get_within s.rows d row at

pub all_named : (s : Survey) (disks : Disks) (items sorted final : List TrackGroup) (k : ℕ) {E : TrackGroup → TrackGroup → Bool} → IsEquivalence E → ((x y : TrackGroup) → E x y ≡ true → x ≡ y)
    → length s.rows ≤ k → AreNamedBelow s disks items k → IsPermutation items sorted → IsPermutation sorted items → IsFiltered (DiffersFromLast E) [] sorted final → AreNamed (surveyed s) disks final
all_named s disks items sorted final k {E} e same whole so_far there back filtered =
    let is : final ≡ dedup E sorted = dedup_is E sorted final filtered in
    record {
      exactly = λ one. (
        (λ among.
            let it = so_far.each one (one_of items one (Contains-permutation sorted items one back (Contains-from_dedup E sorted one (subst (λ (l : List TrackGroup). Contains l one) is (contains final one among))))) in
            (it.d, it.disk, it.named)),
        (λ named.
            let low = row_is_there s named.0 one named.2 in
            one_of final one (subst (λ (l : List TrackGroup). Contains l one) (sym is) (Contains-dedup e same sorted one (Contains-permutation items sorted one there (contains items one (so_far.all one (record { d = named.0; below = omega (arith, low, whole); disk = named.1; named = named.2 }))))))),
      );
    }

-- ---- which are one

abbrev pub same_group : TrackGroup → TrackGroup → Bool
same_group x y = x.volume == y.volume && x.group == y.group

pub is_same : (x y : TrackGroup) → same_group x y ≡ true → x ≡ y
is_same x y is =
    let parts = both (x.volume == y.volume) (x.group == y.group) is in
    ap (λ (n : ℕ). record { volume = n; group = x.group }) (eqb-true x.volume y.volume parts.0) ∙ ap (λ (n : ℕ). record { volume = y.volume; group = n }) (eqb-true x.group y.group parts.1)

pub same_self : (x : TrackGroup) → same_group x x ≡ true
same_self x = ap (λ (t : Bool). t && x.group == x.group) (eq-eqb x.volume x.volume refl) ∙ eq-eqb x.group x.group refl

pub same_is_equivalence : IsEquivalence same_group
same_is_equivalence = record {
  refl = same_self;
  symm = λ x y. same_answer (same_group x y) (same_group y x) (λ is. subst (λ (z : TrackGroup). same_group z x ≡ true) (is_same x y is) (same_self x)) (λ is. subst (λ (z : TrackGroup). same_group z y ≡ true) (is_same y x is) (same_self y));
  congr = λ x y z is. ap (λ (w : TrackGroup). same_group w z) (is_same x y is);
}

-- Partitions that are marked one after another in the status with which a session began.
use Rattle.std.proofs.Common.{◌≡◌, ◌==◌, ℕ, ◌+◌, ◌<◌, Bool, true, false, ◌||◌, ◌&&◌, if◌then◌else◌, List, [], length, take, get_or, refl, sym, ◌∙◌, ap, subst}
use Rattle.std.specs.List.{list_any}
use Rattle.std.proofs.lemmas.Bool.{eq-eqb, eqb-true}
use Rattle.std.proofs.lemmas.List.Folds.{list_any_more}
use Rattle.lvm_num.specs.declared.descriptor.PvRow.{PvRow}
use Rattle.lvm_num.specs.declared.place.Pp.{Pp}
use Rattle.lvm_num.specs.declared.status.Status.{Status}
use Rattle.lvm_num.specs.Status.{calls_missing, calls_stale}
use Rattle.lvm_status.specs.Table.{SameMembers, SameMissing, SameStale, has_row}
use Rattle.lvm_num.specs.Descriptor.{is_pp}
use Rattle.lvm_status.specs.Calls.{IsMarkable}
use Rattle.lvm_commit.proofs.RoundsLemmas.Wanting.{row_stays}
use Rattle.lvm_session.specs.Marks.{is_among}
use Rattle.lvm_session.specs.State.{Core}
use Rattle.lvm_handover.specs.Serving.{OriginIsMarked, MarksAdded, MarksMissing, MarksMore}

pub markable_still : (old now : Status) (p : Pp) → ((disk : ℕ) → has_row now disk ≡ has_row old disk) → IsMarkable old p → IsMarkable now p
markable_still old now p rows may = record { row = rows p.disk ∙ may.row; partition = may.partition }

-- what isn't in the rows stays, where one step more leaves it
is_then : (old now new : Status) → now ≡ record old { rows = now.rows } → SameMembers now new → new.dirty ≡ now.dirty → new ≡ record old { rows = new.rows }
is_then old now new is same dirty =
    ap (λ (n : ℕ). record new { id = n }) (same.id ∙ ap (λ (s : Status). s.id) is) ∙ ap (λ (b : Bool). record new { id = old.id; big = b }) (same.big ∙ ap (λ (s : Status). s.big) is)
    ∙ ap (λ (ns : List ℕ). record new { id = old.id; big = old.big; dirty = ns }) (dirty ∙ ap (λ (s : Status). s.dirty) is)

pub none_added : (old : Status) → MarksAdded [] old old
none_added old = record { stale = λ p. or_none (calls_stale old p); missing = λ disk. refl; rows = λ disk. refl; is = refl }
  where
    or_none : (b : Bool) → b ≡ (b || false)
    or_none true = refl
    or_none false = refl

pub one_added : (added : List Pp) (i : ℕ) (p : Pp) → i < length added → p ≡ get_or added i p → (old now new : Status) → MarksAdded (take i added) old now → SameMembers now new
    → ((q : Pp) → calls_stale new q ≡ (calls_stale now q || is_pp q p)) → SameMissing now new → new.dirty ≡ now.dirty → MarksAdded (take (i + 1) added) old new
one_added added i p within its old now new so_far members stale missing dirty = record {
  stale = λ q.
      stale q ∙ ap (λ (b : Bool). b || is_pp q p) (so_far.stale q) ∙ regroup (calls_stale old q) (is_among (take i added) q) (is_pp q p)
      ∙ ap (λ (b : Bool). calls_stale old q || b) (sym (list_any_more (is_pp q) added i p within ∙ ap (λ (r : Pp). is_among (take i added) q || is_pp q r) (sym its)));
  missing = λ disk. missing disk ∙ so_far.missing disk;
  rows = λ disk. row_stays now new (record { id = members.id; big = members.big; disks = members.disks }) disk ∙ so_far.rows disk;
  is = is_then old now new so_far.is members dirty;
}
  where
    regroup : (a b c : Bool) → (a || b) || c ≡ (a || (b || c))
    regroup true b c = refl
    regroup false b c = refl

-- ---- members that are missing

pub none_missing : (now old : Status) → MarksMissing [] now old old
none_missing now old = record { stale = λ p. refl; missing = λ disk. or_none (calls_missing old disk); rows = λ disk. refl; is = refl }
  where
    or_none : (b : Bool) → b ≡ (b || false)
    or_none true = refl
    or_none false = refl

module _ (members : List PvRow) (i : ℕ) (row : PvRow) (within : i < length members) (its : row ≡ get_or members i row) (now old mid : Status) (so_far : MarksMissing (take i members) now old mid) where
  abbrev before : ℕ → Bool
  before disk = list_any (λ (r : PvRow). r.disk == disk) (take i members)

  more : (disk : ℕ) → list_any (λ (r : PvRow). r.disk == disk) (take (i + 1) members) ≡ (before disk || row.disk == disk)
  more disk = list_any_more (λ (r : PvRow). r.disk == disk) members i row within ∙ ap (λ (r : PvRow). before disk || r.disk == disk) (sym its)

  pub one_missing : (new : Status) → calls_missing now row.disk ≡ true → SameMembers mid new → SameStale mid new
      → ((disk : ℕ) → calls_missing new disk ≡ (if disk == row.disk then true else calls_missing mid disk)) → new.dirty ≡ mid.dirty → MarksMissing (take (i + 1) members) now old new
  one_missing new gone kept stale missing dirty = record {
    stale = λ p. stale p ∙ so_far.stale p;
    missing = λ disk. by disk (disk == row.disk) (row.disk == disk) refl refl;
    rows = λ disk. row_stays mid new (record { id = kept.id; big = kept.big; disks = kept.disks }) disk ∙ so_far.rows disk;
    is = is_then old mid new so_far.is kept dirty;
  }
    where
      all_true : (x a n : Bool) → n ≡ true → true ≡ (x || ((a || true) && n))
      all_true true a n is = refl
      all_true false true true is = refl
      all_true false false true is = refl
      all_true false a false is = absurd (cc is)

      no_more : (a : Bool) → (a || false) ≡ a
      no_more true = refl
      no_more false = refl

      by : (disk : ℕ) (here there : Bool) → (disk == row.disk) ≡ here → (row.disk == disk) ≡ there
          → calls_missing new disk ≡ (calls_missing old disk || (list_any (λ (r : PvRow). r.disk == disk) (take (i + 1) members) && calls_missing now disk))
      by disk true true here there =
          missing disk ∙ ap (λ (b : Bool). if b then true else calls_missing mid disk) here
          ∙ all_true (calls_missing old disk) (before disk) (calls_missing now disk) (ap (calls_missing now) (eqb-true disk row.disk here) ∙ gone)
          ∙ sym (ap (λ (b : Bool). calls_missing old disk || (b && calls_missing now disk)) (more disk ∙ ap (λ (b : Bool). before disk || b) there))
      by disk true false here there = absurd (let no : false ≡ true = sym there ∙ eq-eqb row.disk disk (sym (eqb-true disk row.disk here)) in cc no)
      by disk false true here there = absurd (let no : false ≡ true = sym here ∙ eq-eqb disk row.disk (sym (eqb-true row.disk disk there)) in cc no)
      by disk false false here there =
          missing disk ∙ ap (λ (b : Bool). if b then true else calls_missing mid disk) here ∙ so_far.missing disk
          ∙ sym (ap (λ (b : Bool). calls_missing old disk || (b && calls_missing now disk)) (more disk ∙ ap (λ (b : Bool). before disk || b) there ∙ no_more (before disk)))

  pub none_more : calls_missing now row.disk ≡ false → MarksMissing (take (i + 1) members) now old mid
  none_more there = record {
    stale = so_far.stale;
    missing = λ disk. so_far.missing disk ∙ ap (λ (b : Bool). calls_missing old disk || b) (by disk (row.disk == disk) refl);
    rows = so_far.rows;
    is = so_far.is;
  }
    where
      neither : (a n : Bool) → n ≡ false → a && n ≡ (a || true) && n
      neither true true is = refl
      neither false true is = absurd (cc is)
      neither true false is = refl
      neither false false is = refl

      same : (a n : Bool) → a && n ≡ (a || false) && n
      same true n = refl
      same false n = refl

      by : (disk : ℕ) (b : Bool) → (row.disk == disk) ≡ b → before disk && calls_missing now disk ≡ list_any (λ (r : PvRow). r.disk == disk) (take (i + 1) members) && calls_missing now disk
      by disk true is =
          neither (before disk) (calls_missing now disk) (ap (calls_missing now) (sym (eqb-true row.disk disk is)) ∙ there)
          ∙ sym (ap (λ (b : Bool). b && calls_missing now disk) (more disk ∙ ap (λ (b : Bool). before disk || b) is))
      by disk false is = same (before disk) (calls_missing now disk) ∙ sym (ap (λ (b : Bool). b && calls_missing now disk) (more disk ∙ ap (λ (b : Bool). before disk || b) is))

-- ---- both

pub both_marked : (added : List Pp) (members : List PvRow) (now old mid new : Status) → MarksAdded added old mid → MarksMissing members now mid new
    → MarksMore added (λ (disk : ℕ). list_any (λ (row : PvRow). row.disk == disk) members && calls_missing now disk) old new
both_marked added members now old mid new first second = record {
  stale = λ p. second.stale p ∙ first.stale p;
  missing = λ disk. second.missing disk ∙ ap (λ (b : Bool). b || (list_any (λ (row : PvRow). row.disk == disk) members && calls_missing now disk)) (first.missing disk);
  rows = λ disk. second.rows disk ∙ first.rows disk;
  is = second.is ∙ ap (λ (s : Status). record s { rows = new.rows }) first.is;
}

pub served_with : (added : List Pp) (core : Core) (wanted mid new : Status) → wanted ≡ core.status.wanted → MarksAdded added core.origin.table mid → MarksMissing core.descriptor.pvs wanted mid new
    → OriginIsMarked added core (record core { origin = record core.origin { table = new } })
served_with added core wanted mid new is first second = record {
  marks = both_marked added core.descriptor.pvs core.status.wanted core.origin.table mid new first (subst (λ (t : Status). MarksMissing core.descriptor.pvs t mid new) is second);
  is = refl;
}

-- A session that has just begun is seen as a good state.
use Rattle.std.proofs.Common.{◌≡◌, inl, ⊎_elim, ℕ, zero, suc, Bool, true, false, ◌&&◌, ◌||◌, ◌==◌, not, [], Some, None, refl, sym, ap, subst, ◌∙◌}
use Rattle.std.specs.Prelude.{IsTrue, slice_get, if◌then◌else◌, nat_lt}
use Rattle.std.proofs.lemmas.Option.{same_Some}
use Rattle.lvm_num.specs.declared.place.Pp.{Pp}
use Rattle.lvm_num.specs.declared.descriptor.Mode.{Mode}
use Rattle.lvm_num.specs.Descriptor.{is_member}
use Rattle.lvm_num.specs.Record.{Stamped}
use Rattle.lvm_num.proofs.DisksLemmas.{has-zero}
use Rattle.lvm_num.proofs.Booleans.{same_turned, not_so}
use Rattle.lvm_kept.specs.Contents.{contents_of}
use Rattle.lvm_kept.specs.Examples.{two}
use Rattle.lvm_mwc.specs.declared.notes.DiskNotes.{DiskNotes}
use Rattle.lvm_mwc.specs.Notes.{names_group}
use Rattle.lvm_mwc.specs.Cache.{notes_on, no_notes}
use Rattle.lvm_session.specs.State.{is_there}
use Rattle.lvm_invariant.specs.State.{Marks, ModelState}
use Rattle.lvm_invariant.specs.Found.{Votes}
use Rattle.lvm_invariant.specs.Good.{Good}
use Rattle.lvm_invariant.specs.First.{two_disks, first_copy, second_copy, is_either, marks_with, at_rest}
use Rattle.lvm_invariant.specs.Want.{Wants}
use Rattle.lvm_invariant.proofs.EventsLemmas.Each.{want_keeps}
use Rattle.lvm_invariant.proofs.FirstLemmas.{first_is_good}
use Rattle.lvm_crash.specs.Session.{marks_of, AreVotesOf, Describes}
use Rattle.lvm_even.proofs.Lists.{right_of}
use Rattle.lvm_crash.proofs.WorkedLemmas.Worked.{enough, its_marks, on_either}
use Rattle.lvm_crash.proofs.WorkedLemmas.Shelf.{image, describes, fits_still}
use Rattle.lvm_session.proofs.WorkedLemmas.Parts.{not_marked}
use Rattle.lvm_tie.specs.Seen.{SeesNote, Sees}
use Rattle.lvm_tie.specs.Worked.{shown, table, making, core_of}
use Rattle.lvm_tie.proofs.WorkedLemmas.Parts.{no_note_flies, none_missing}

-- all disks but the two are missing to it
abbrev pub seen_as : Mode → Bool → ModelState
seen_as mode stale = record (at_rest mode stale) { missing = λ d. not (two_disks d) }

-- ---- it is good

-- its copies aren't missing
none_lost : (p : Pp) {X : Type 0} → IsTrue (is_either p) → IsTrue (not (two_disks p.disk)) → X
none_lost p is missing = ⊎_elim (λ (e : p ≡ first_copy). not_so (sym (ap (λ (q : Pp). not (two_disks q.disk)) e) ∙ missing)) (λ (e : p ≡ second_copy). not_so (sym (ap (λ (q : Pp). not (two_disks q.disk)) e) ∙ missing)) (on_either p is)

wants : (mode : Mode) (stale : Bool) → Wants (at_rest mode stale) (marks_with stale false) (λ d. not (two_disks d)) None
wants mode stale = record {
  missing_still = λ d is. not_so is;
  still = λ c is. is;
  still_dirty = λ lv is. is;
  added = λ c is. inl is;
  open_same = inl refl;
  open_there = λ o e. absurd cc;
  behind = λ lv b c e copy fresh missing other usable kept. none_lost c (right_of (1 == lv && nat_lt b 2048) (is_either c) copy) missing;
}

pub is_good : (votes : Votes) (mode : Mode) (stale : Bool) → AreVotesOf (two mode) votes → Good votes (seen_as mode stale)
is_good votes mode stale are = want_keeps votes (at_rest mode stale) (marks_with stale false) (λ d. not (two_disks d)) None (wants mode stale) (first_is_good votes mode stale (are.writes two_disks ∙ enough mode))

pub it_describes : (mode : Mode) (stale : Bool) → Describes (seen_as mode stale) (seen_as mode stale).facts (two mode) None (contents_of (image (shown mode stale)))
it_describes mode stale = let w = shown mode stale in describes w (seen_as mode stale) None (fits_still w (seen_as mode stale) (λ lv b p. refl) (λ d lv g. refl) (λ d. refl) refl refl)

-- ---- it is the session's

none_at : {A X : Type 0} (k : ℕ) (x : A) → slice_get [] k ≡ Some x → X
none_at zero x e = absurd cc
none_at (suc k) x e = absurd cc

module _ (mode : Mode) (stale : Bool) where
  pub there : (d : ℕ) → is_there (core_of mode stale) d ≡ two_disks d
  there d = ap (λ (t : Bool). is_member (two mode) d && not t) (none_missing mode stale d) ∙ by (0 == d) (1 == d) ∙ (λ t. same_turned 0 d t || same_turned 1 d t)
    where
      by : (a b : Bool) → (a || (b || false)) && true ≡ a || b
      by true b = refl
      by false true = refl
      by false false = refl

  named : (d lv g : ℕ) (n : DiskNotes) → notes_on (core_of mode stale).cache d ≡ Some n → false ≡ names_group n.written.items lv g
  named d lv g n is = by (0 == d) (1 == d) is
    where
      by : (a b : Bool) → (if a then Some (no_notes 0) else if b then Some (no_notes 1) else None) ≡ Some n → false ≡ names_group n.written.items lv g
      by true b e = ap (λ (m : DiskNotes). names_group m.written.items lv g) (same_Some (no_notes 0) n e)
      by false true e = ap (λ (m : DiskNotes). names_group m.written.items lv g) (same_Some (no_notes 1) n e)
      by false false e = absurd cc

  marks : marks_with stale false ≡ marks_of None (table mode stale)
  marks = sym (ap (λ (r : Stamped Marks). r.value) (its_marks (shown mode stale)))

  pub sees : Sees (making mode) (core_of mode stale) (seen_as mode stale)
  sees = record {
    queue = record {
      requests = λ place o is. none_at place o is;
      a_step = λ c is row. absurd cc;
      only = λ i q is. absurd cc;
      names = λ place o is. none_at place o is;
    };
    facts = refl;
    status = record {
      committed = marks;
      in_flight = refl;
      wanted = marks;
      started = λ d. sym (has-zero d);
      written = λ d is. not_marked d is;
      held = λ u is held. absurd cc;
      missing = λ d. ap not (sym (there d));
    };
    notes = record {
      cache = λ lv g. refl;
      home = λ d lv g n is on. named d lv g n on;
      flying = λ d. subst (SeesNote None) (sym (no_note_flies mode stale d)) tt;
    };
    open_copy = refl;
    step_write = refl;
    beside = refl;
  }

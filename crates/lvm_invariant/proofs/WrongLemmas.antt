-- What wrong steps would leave.
use Rattle.std.proofs.Common.{◌≡◌, ◌⊎◌, inl, inr, ⊎_elim, ℕ, Bool, true, false, ◌||◌, List, ◌++◌, get_or, Option, Some, None, refl, sym, ap, ◌∙◌, arith, eqb-true, ◌+◌, ◌<◌, [], subst, ◌∷◌, ◌&&◌}
use Rattle.std.specs.Prelude.{IsTrue, ◌==◌, if◌then◌else◌, nat_le, nat_lt}
use Rattle.std.specs.Option.{option_map_or}
use Rattle.lvm_num.specs.declared.descriptor.Mode.{Mode}
use Rattle.lvm_num.specs.declared.descriptor.Mode.TheVariants.{Active, Passive, Off}
use Rattle.lvm_num.specs.Buffer.{zero_sector}
use Rattle.lvm_num.specs.Record.{Stamped, stamp_lt}
use Rattle.lvm_num.specs.declared.place.Pp.{Pp}
use Rattle.lvm_num.specs.Geometry.{track_group_of}
use Rattle.lvm_vol.specs.May.{Known, unknown, cut, IsValue}
use Rattle.std.proofs.lemmas.Bool.Decides.{nat_tests}
use Rattle.lvm_num.specs.Descriptor.{is_pp}
use Rattle.lvm_num.proofs.Booleans.{clash_gives, not_so}
use Rattle.lvm_invariant.specs.State.{Marks, Groups, View, Flying, ModelState, covers, told, Started}
use Rattle.lvm_invariant.specs.Found.{Votes}
use Rattle.lvm_invariant.specs.Good.{Good}
use Rattle.lvm_invariant.specs.Crash.{IsCrash, IsPossible, Fresh, MayDifferAfter, EachKept, Brings, CopyBrings}
use Rattle.lvm_invariant.specs.Events.{Event, CommitUpdate, EndUpdate, AllowsAll, after_all}
use Rattle.lvm_invariant.specs.First.{two_disks, first_copy, second_copy, is_either, marks_with, stamped, on_both, at_rest}
use Rattle.lvm_invariant.specs.Worked.{ones, held, both_out, only, recording, written, writing, all_passed, asked, first_group}
use Rattle.lvm_invariant.specs.Wrong.{asking, going_out, StartsUnrecorded, empty_note, NoteLacksEntry, half_done, DoneUnsettled, ClearedUnpassed, CopyIsSkipped, one_reads, both_write, halfway, Misleads, CommittedEarly, EndedUncommitted, TwoVotes, LeftFresh, none_is_fresh, NoneFresh, differing, NamesAreNeeded}
use Rattle.lvm_invariant.proofs.FirstLemmas.{nothing, left, right, both, first_is_good, bringing_up_is_good}
use Rattle.lvm_invariant.proofs.WorkedLemmas.Worked.{leads}
use Rattle.lvm_invariant.proofs.WorkedLemmas.Writes.{submits, admits, recorded, brought, brought_whole, second_wanted, each_mode_writes, write_ends}

ones_differ : {X : Type 0} → ones ≡ zero_sector → X
ones_differ e = absurd (omega (arith, ap (λ (l : List ℕ). get_or l 0 0) e))

-- ---- a write that isn't recorded

-- the transfer to the first copy has come there, that to the second hasn't
abbrev half_there : ModelState → View
half_there s = record s.media { block = written }

-- it flies to the first copy
half_comes : (s : ModelState) → ((lv b : ℕ) (c : Pp) → zero_sector ≡ s.media.block lv b c) → Started s 1 both_out → (lv b : ℕ) (c : Pp)
    → (written lv b c ≡ s.media.block lv b c) ⊎ Brings s lv b c (written lv b c) ⊎ CopyBrings s lv b c (written lv b c)
half_comes s zeros started lv b c = ⊎_elim
    (λ (same : written lv b c ≡ zero_sector). inl (same ∙ zeros lv b c))
    (λ (by : IsTrue (covers held lv b) × (c ≡ first_copy) × (written lv b c ≡ held.value b)).
    inr (inl (record { id = 1; req = both_out; started = started; over = by.0; flies = ap both_out.targets by.1; is = by.2 })))
    (brought lv b c)

comes_there : (mode : Mode) → IsCrash (after_all going_out (after_all (asking mode) (at_rest mode false))) (half_there (after_all going_out (after_all (asking mode) (at_rest mode false))))
comes_there mode = record {
  block = λ lv b c copy. half_comes _ (λ lv b c. refl) (record { there = refl; write = refl; going = refl }) lv b c;
  names = λ d. inl refl;
  status = λ d. inl refl;
}

-- two copies of block 0 don't hold one value
two_values : {X : Type 0} (value : List ℕ) → ones ≡ value → zero_sector ≡ value → X
two_values value first second = ones_differ (first ∙ sym second)

pub starts_unrecorded : StartsUnrecorded
starts_unrecorded votes mode on enough = record {
  good = (leads votes (asking mode) (at_rest mode false) (first_is_good votes mode false enough) (submits mode, (admits mode, tt))).reached.good;
  broken = broken mode on;
}
  where
    broken : (mode : Mode) → (mode ≡ Off → ⊥) → EachKept (after_all going_out (after_all (asking mode) (at_rest mode false))) → ⊥
    broken Off on kept = on refl
    broken Active on kept = ⊎_elim
        (λ one. two_values one.0 (one.1 first_copy (record { copy = refl; fresh = refl })) (one.1 second_copy (record { copy = refl; fresh = refl })))
        (λ differ. not_so (differ second_copy (record { copy = refl; fresh = refl })))
        (kept _ (marks_with false false) 1 0 (comes_there Active) (inl refl)).equal
    broken Passive on kept = ⊎_elim
        (λ one. two_values one.0 (one.1 first_copy (record { copy = refl; fresh = refl })) (one.1 second_copy (record { copy = refl; fresh = refl })))
        (λ differ. ⊎_elim (λ loose. not_so loose) (λ dirty. not_so dirty.1) differ)
        (kept _ (marks_with false false) 1 0 (comes_there Passive) (inl refl)).equal

-- ---- a note that lacks an entry

abbrev without_entry : ModelState
without_entry = after_all going_out (record (after_all (asking Active ++ recording Active) (at_rest Active false)) { flying_note = empty_note })

abbrev unnamed : View
unnamed = record without_entry.media { block = written; names = λ d. if d == 1 then (λ lv g. false) else without_entry.media.names d }

note_comes : IsCrash without_entry unnamed
note_comes = record {
  block = λ lv b c copy. half_comes _ (λ lv b c. refl) (record { there = refl; write = refl; going = refl }) lv b c;
  names = λ d. by d (d == 1) refl;
  status = λ d. inl refl;
}
  where
    by : (d : ℕ) (t : Bool) → (d == 1) ≡ t → (unnamed.names d ≡ without_entry.media.names d) ⊎ ((n : Groups) × (empty_note d ≡ Some n) × (unnamed.names d ≡ n))
    by d true is = inr ((λ lv g. false), ap (λ (t : Bool). if t then Some (λ lv g. false) else None) is, ap {B = Groups} (λ (t : Bool). if t then (λ lv g. false) else without_entry.media.names d) is)
    by d false is = inl (ap {B = Groups} (λ (t : Bool). if t then (λ lv g. false) else without_entry.media.names d) is)

pub note_lacks_entry : NoteLacksEntry
note_lacks_entry votes enough = record {
  good = (leads votes (asking Active ++ recording Active) (at_rest Active false) (first_is_good votes Active false enough) (submits Active, (admits Active, recorded votes Active enough))).reached.good;
  broken = λ kept. ⊎_elim
      (λ one. two_values one.0 (one.1 first_copy (record { copy = refl; fresh = refl })) (one.1 second_copy (record { copy = refl; fresh = refl })))
      (λ differ. not_so (differ second_copy (record { copy = refl; fresh = refl })))
      (kept unnamed (marks_with false false) 1 0 note_comes (inl refl)).equal;
}

-- ---- what stands is not allowed

as_it_stands : (s : ModelState) → IsCrash s s.media
as_it_stands s = record { block = λ lv b c copy. inl refl; names = λ d. inl refl; status = λ d. inl refl }

pub done_unsettled : DoneUnsettled
done_unsettled votes enough = record {
  good = (leads votes half_done (writing Active) (each_mode_writes votes Active enough).0.reached.good (
    record { started = record { there = refl; write = refl; going = refl }; was = (Flying, refl); media = brought; well = λ is lv b over. brought_whole lv b over },
    (record { started = record { there = refl; write = refl; going = refl }; was = (Flying, refl); media = λ lv b e. inl refl; well = λ is. absurd cc }, tt),
  )).reached.good;
  broken = λ kept. ⊎_elim (λ (is : ones ≡ zero_sector). ones_differ is) (λ none. none) ((kept _ (marks_with false false) 1 0 (as_it_stands _) (inl refl)).allowed second_copy (record { copy = refl; fresh = refl }));
}

pub cleared_unpassed : ClearedUnpassed
cleared_unpassed votes enough = record {
  good = (write_ends votes enough).0.reached.good;
  broken = λ kept. ⊎_elim (λ (is : ones ≡ zero_sector). ones_differ is) (λ none. none) ((kept _ (marks_with false false) 1 0 (as_it_stands _) (inl refl)).allowed second_copy (record { copy = refl; fresh = refl }));
}

pub copy_is_skipped : CopyIsSkipped
copy_is_skipped votes mode enough = record {
  good = bringing_up_is_good votes mode all_passed enough;
  broken = λ kept. ⊎_elim (λ (is : ones ≡ zero_sector). ones_differ is) (λ none. none) ((kept _ (marks_with false false) 1 0 (as_it_stands _) (inl refl)).allowed second_copy (record { copy = refl; fresh = refl }));
}

-- ---- statuses

marks_differ : {X : Type 0} → marks_with true false ≡ marks_with false false → X
marks_differ e = not_so (sym (ap (λ (m : Marks). m.stale second_copy) e))

halfway_allowed : (votes : Votes) (mode : Mode) → AllowsAll votes halfway (at_rest mode false)
halfway_allowed votes mode = (
  second_wanted _ refl (λ c. refl) (λ c. refl) refl (λ d. refl),
  (record { none = refl; value = refl; later = refl }, (record { flies = refl; each = λ d. by (d == 0) d }, tt)),
)
  where
    by : (t : Bool) (d : ℕ) → ((if t then Some (stamped 2 (marks_with true false)) else on_both (stamped 1 (marks_with false false)) d) ≡ on_both (stamped 1 (marks_with false false)) d)
        ⊎ ((if t then Some (stamped 2 (marks_with true false)) else on_both (stamped 1 (marks_with false false)) d) ≡ Some (stamped 2 (marks_with true false)))
    by true d = inr refl
    by false d = inl refl

halfway_good : (votes : Votes) (mode : Mode) → votes.writes ≡ both_write → Good votes (after_all halfway (at_rest mode false))
halfway_good votes mode two =
    (leads votes halfway (at_rest mode false) (first_is_good votes mode false (ap (λ (f : (ℕ → Bool) → Bool). f two_disks) two)) (halfway_allowed votes mode)).reached.good

-- what the one disk shows is the newest there
alone_is_newest : (s : ModelState) (disk : ℕ) (r : Stamped Marks) → s.media.status disk ≡ Some r → stamp_lt r.stamp r.stamp ≡ false → (d : ℕ) (other : Stamped Marks) → d ≡ disk → s.media.status d ≡ Some other
    → stamp_lt r.stamp other.stamp ≡ false
alone_is_newest s disk r shows same d other is there = ap (λ (o : Option (Stamped Marks)). option_map_or (λ x. stamp_lt r.stamp x.stamp) o false) (sym there ∙ ap s.media.status is ∙ shows) ∙ same

-- So they mislead where what the one disk shows is neither committed nor in flight.
halfway_misleads : (votes : Votes) (mode : Mode) (events : List Event) (disk : ℕ) (found : Stamped Marks) → votes.writes ≡ both_write → IsTrue (votes.reads (only disk)) → IsTrue (only disk disk)
    → IsCrash (after_all events (after_all halfway (at_rest mode false))) (after_all halfway (at_rest mode false)).media → (after_all halfway (at_rest mode false)).media.status disk ≡ Some found → stamp_lt found.stamp found.stamp ≡ false
    → (IsPossible (after_all events (after_all halfway (at_rest mode false))) found.value → ⊥) → Misleads votes (after_all halfway (at_rest mode false)) events
halfway_misleads votes mode events disk found two reads inside crash shown same other = record {
  good = halfway_good votes mode two;
  view = (after_all halfway (at_rest mode false)).media;
  crash = crash;
  set = only disk;
  reads = reads;
  found = found;
  newest = record { disk = disk; inside = inside; shown = shown; last = λ d r within there. alone_is_newest (after_all halfway (at_rest mode false)) disk found shown same d r (eqb-true d disk within) there };
  other = other;
}

pub committed_early : CommittedEarly
committed_early votes mode one two =
    halfway_misleads votes mode (CommitUpdate (stamped 2 (marks_with true false)) (only 0) None (marks_with true false) None ∷ EndUpdate ∷ []) 1 (stamped 1 (marks_with false false)) two
    (ap (λ (f : (ℕ → Bool) → Bool). f (only 1)) one) refl (as_it_stands _) refl refl
    (λ possible. ⊎_elim (λ (is : marks_with false false ≡ marks_with true false). marks_differ (sym is)) (λ u. nothing u.0 u.1) possible)

pub ended_uncommitted : EndedUncommitted
ended_uncommitted votes mode one two =
    halfway_misleads votes mode (EndUpdate ∷ []) 0 (stamped 2 (marks_with true false)) two (ap (λ (f : (ℕ → Bool) → Bool). f (only 0)) one) refl (as_it_stands _) refl refl
    (λ possible. ⊎_elim (λ (is : marks_with true false ≡ marks_with false false). marks_differ is) (λ u. nothing u.0 u.1) possible)

pub two_votes : TwoVotes
two_votes = record { votes = record { reads = one_reads; writes = both_write; meet = λ a b read write. meet a b read write }; one = refl; two = refl }
  where
    meet : (a b : ℕ → Bool) → IsTrue (one_reads a) → IsTrue (both_write b) → (d : ℕ) × IsTrue (a d) × IsTrue (b d)
    meet a b read write = by (a 0) refl read
      where
        by : (t : Bool) → a 0 ≡ t → IsTrue (t || a 1) → (d : ℕ) × IsTrue (a d) × IsTrue (b d)
        by true is h = (0, is, left (b 0) (b 1) write)
        by false is h = (1, h, right (b 0) (b 1) write)

-- ---- fresh copies

pub left_fresh : LeftFresh
left_fresh votes mode enough = record {
  good = first_is_good votes mode false enough;
  broken = λ kept. ⊎_elim (λ (is : ones ≡ zero_sector). ones_differ is) (λ none. none) ((kept _ (marks_with false false) 1 0 (as_it_stands _) (inl refl)).allowed second_copy (record { copy = refl; fresh = refl }));
}

pub none_fresh : NoneFresh
none_fresh votes mode enough = record {
  good = first_is_good votes mode false enough;
  broken = λ kept. let one = (kept _ none_is_fresh 1 0 (as_it_stands _) (inl refl)).some first_copy refl in clash_gives (is_either one.0) one.1.copy one.1.fresh;
}

-- ---- names

-- what is known of a block of the volume at its beginning
abbrev fresh_by : Bool → Known
fresh_by inside = if inside then record { values = Some (zero_sector ∷ []); open_writes = []; loose = false; mode = Active } else unknown

-- what stands on a copy is allowed: zeros, and what the write brought
may_be : (b : ℕ) (inside over first : Bool) → IsTrue inside
    → IsValue (cut b (cut b (if over then record (fresh_by inside) { open_writes = asked ∷ (fresh_by inside).open_writes } else fresh_by inside))) (if over && first then held.value b else zero_sector)
may_be b true true true h = inr (inl refl)
may_be b true true false h = inl refl
may_be b true false first h = inl refl
may_be b false over first h = not_so h

zero_if : (b : ℕ) (over first : Bool) → over ≡ false → (if over && first then held.value b else zero_sector) ≡ zero_sector
zero_if b false first h = refl
zero_if b true first h = absurd cc

named_if : (lv b : ℕ) → IsTrue (covers held lv b) → IsTrue (first_group lv (track_group_of b))
named_if lv b over =
    let volume : lv ≡ 1 = sym (eqb-true 1 lv (left (1 == lv) (nat_le 0 b) (left (1 == lv && nat_le 0 b) (nat_lt b (0 + 1)) over))) in
    let inside : IsTrue (nat_lt b (0 + 1)) = right (1 == lv && nat_le 0 b) (nat_lt b (0 + 1)) over in
    let low : b < 0 + 1 = grind (arith, nat_tests) in
    let is : b ≡ 0 = omega (arith, low) in
    ap (λ (n : ℕ). n == 1 && track_group_of b == 0) volume ∙ ap (λ (n : ℕ). track_group_of n == 0) is

-- nothing is out
stays : (named : Bool) (v : View) (lv b : ℕ) (c : Pp) → IsCrash (differing named) v → IsTrue ((differing named).is_copy lv b c) → v.block lv b c ≡ written lv b c
stays named v lv b c crash copy = elim (crash.block lv b c copy) [
  | inl same ↦ same
  | inr rest ↦ elim rest [
    | inl brings ↦ nothing brings.req brings.started.there
    | inr step ↦ nothing step.step step.flies
  ]
]

names_stay : (v : View) (d lv g : ℕ) → IsCrash (differing true) v → v.names d lv g ≡ first_group lv g
names_stay v d lv g crash = elim (crash.names d) [
  | inl same ↦ ap (λ (n : Groups). n lv g) same
  | inr flies ↦ nothing flies.0 flies.1
]

is_committed : (named : Bool) (marks : Marks) → IsPossible (differing named) marks → marks ≡ marks_with false false
is_committed named marks possible = ⊎_elim (λ is. is) (λ u. nothing u.0 u.1) possible

pub names_are_needed : NamesAreNeeded
names_are_needed = record {
  named = λ v marks lv b crash possible. record {
    allowed = λ c fresh. subst (IsValue (cut b (told (differing true) lv b))) (sym (stays true v lv b c crash fresh.copy))
        (may_be b (1 == lv && nat_lt b 2048) (covers held lv b) (is_pp c first_copy) (left (1 == lv && nat_lt b 2048) (is_either c) fresh.copy));
    equal = by v lv b marks crash (covers held lv b) refl;
    some = λ c copy. (
      first_copy,
      record {
        copy = both (1 == lv && nat_lt b 2048) true (left (1 == lv && nat_lt b 2048) (is_either c) copy) refl;
        fresh = ap (λ (m : Marks). m.stale first_copy) (is_committed true marks possible);
      },
    );
  };
  unnamed = λ kept. ⊎_elim
      (λ one. two_values one.0 (one.1 first_copy (record { copy = refl; fresh = refl })) (one.1 second_copy (record { copy = refl; fresh = refl })))
      (λ differ. not_so (differ second_copy (record { copy = refl; fresh = refl })))
      (kept _ (marks_with false false) 1 0 (as_it_stands _) (inl refl)).equal;
}
  where
    by : (v : View) (lv b : ℕ) (marks : Marks) → IsCrash (differing true) v → (over : Bool) → covers held lv b ≡ over
        → ((value : List ℕ) × ((c : Pp) → Fresh (differing true) marks lv b c → v.block lv b c ≡ value)) ⊎ MayDifferAfter (differing true) v marks (cut b (told (differing true) lv b)) lv b true
    by v lv b marks crash true over = inr (λ c fresh. names_stay v c.disk lv (track_group_of b) crash ∙ named_if lv b over)
    by v lv b marks crash false over = inl (zero_sector, λ c fresh. stays true v lv b c crash fresh.copy ∙ zero_if b (covers held lv b) (is_pp c first_copy) over)

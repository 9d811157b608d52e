-- Reads, a copy that is brought up, disks that are lost, and what comes after an end.
use Rattle.std.proofs.Common.{◌≡◌, inl, inr, ⊎_elim, ℕ, ◌+◌, ◌<◌, Bool, true, false, ◌&&◌, List, [], ◌∷◌, Some, None, refl, sym, ap, subst, ◌∙◌, arith, eqb-true}
use Rattle.std.specs.Prelude.{IsTrue, IsFalse, ◌==◌, nat_le, nat_lt, if◌then◌else◌}
use Rattle.std.proofs.lemmas.Bool.Decides.{nat_tests}
use Rattle.lvm_num.specs.declared.place.Pp.{Pp}
use Rattle.lvm_num.specs.declared.descriptor.Mode.{Mode}
use Rattle.lvm_num.specs.declared.descriptor.Mode.TheVariants.{Active, Passive, Off}
use Rattle.lvm_num.specs.Buffer.{zero_sector}
use Rattle.lvm_num.specs.Geometry.{track_group_of}
use Rattle.lvm_vol.specs.declared.entry.Vol.TheVariants.{Lv}
use Rattle.lvm_vol.specs.Facts.{block_of}
use Rattle.lvm_vol.specs.May.{Known, known}
use Rattle.lvm_invariant.specs.State.{Stage, Todo, Flying, Well, Badly, Ready, Queued, ModelState, covers, has_landed, is_usable, told}
use Rattle.lvm_num.specs.Descriptor.{is_pp}
use Rattle.lvm_num.proofs.Booleans.{not_so}
use Rattle.lvm_invariant.specs.Found.{Votes}
use Rattle.lvm_invariant.specs.Good.{Good}
use Rattle.lvm_invariant.specs.Submit.{Submits}
use Rattle.lvm_invariant.specs.Over.{IsUnlanded, is_going, AreOpen}
use Rattle.lvm_invariant.specs.Events.{AllowsAll, Admit, Read, TakeEarlier, LandGot, LandReadFailed, LandNoFresh}
use Rattle.lvm_invariant.specs.First.{two_disks, first_copy, second_copy, marks_with, stamped, at_rest, bringing_up}
use Rattle.lvm_invariant.specs.Worked.{held, waiting, ready, one_out, both_out, asked_read, held_read, first_at, chosen, reading_first, zero_blocks, failed_first, second_at, chosen_again, reading_second, has_read, read_out, read_gets, read_fails, none_passed, passed_by, step_held, step_read, step_out, stepping, step_ends, all_passed, clearing, first_group, disks_lost, none_fresh, after_loss, with_earlier, writing, ReadEnds, CopyIsBroughtUp, DisksAreLost, CutMeetsWrite, EarlierIsTaken}
use Rattle.lvm_invariant.proofs.FirstLemmas.{nothing, left, right, both, first_is_good, bringing_up_is_good}
use Rattle.lvm_invariant.proofs.SoundLemmas.Whole.{told_core}
use Rattle.lvm_invariant.proofs.WorkedLemmas.Worked.{leads, allows_append, first_put, none_below, pp_is, at_either, placed, update_allowed}
use Rattle.lvm_invariant.proofs.ToldLemmas.{told_of_none}
use Rattle.lvm_invariant.proofs.WorkedLemmas.Writes.{submits}

-- ---- a read

reads_submit : (mode : Mode) (stale : Bool) → Submits (at_rest mode stale) 1 asked_read held_read
reads_submit mode stale = record {
  held = refl;
  newest = λ j e is. nothing e is;
  placed = placed mode stale None 1 false false held_read.value (omega arith);
  request = refl;
  same = record { vol = refl; over = λ lv b. refl; write = refl; value = λ lv b write over. not_so write };
  next = refl;
}

-- one copy alone is chosen
is_first : (c : Pp) (x stage : Stage) → first_at x c ≡ Some stage → (c ≡ first_copy) × (stage ≡ x)
is_first c x stage at = let h = at_either x (is_pp c first_copy) stage at in (pp_is c first_copy h.0, h.1)

is_second : (c : Pp) (x stage : Stage) → second_at x c ≡ Some stage → (c ≡ second_copy) × (stage ≡ x)
is_second c x stage at = let h = at_either x (is_pp c second_copy) stage at in (pp_is c second_copy h.0, h.1)

first_usable : (mode : Mode) (stale : Bool) → IsTrue (is_usable (at_rest mode stale) first_copy)
first_usable mode true = refl
first_usable mode false = refl

read_goes_out : (votes : Votes) (mode : Mode) (stale : Bool) → AllowsAll votes read_out (at_rest mode stale)
read_goes_out votes mode stale = (
  reads_submit mode stale,
  (
    record {
      there = refl;
      early = inl refl;
      phase_now = inr (refl, λ write on several. not_so write);
      free = λ j e is low conflict. none_below j (first_put 1 held_read j e is).0 low;
      usable = λ read c x at. let h = is_first c Todo x at in (ap (λ (p : Pp). (at_rest mode stale).is_copy 1 0 p) h.0, ap (λ (p : Pp). is_usable (at_rest mode stale) p) h.0 ∙ first_usable mode stale);
    },
    (record { there = refl; read = refl; past = refl; was = (Todo, refl); gets = λ value is. nothing value is }, tt),
  ),
)

same_blocks : (value : ℕ → List ℕ) → Some zero_blocks ≡ Some value → value ≡ zero_blocks
same_blocks value is = cc

one_block : (lv b : ℕ) → IsTrue (covers held_read lv b) → block_of (zero_sector ∷ []) 0 b ≡ zero_sector
one_block lv b over =
    let inside : IsTrue (nat_lt b (0 + 1)) = right (1 == lv && nat_le 0 b) (nat_lt b (0 + 1)) over in
    let low : b < 0 + 1 = grind (arith, nat_tests) in
    let is : b ≡ 0 = omega (arith, low) in
    ap (block_of (zero_sector ∷ []) 0) is

-- the place has had the request in other forms before
only_failed : (t : Bool) (e : Queued) → (if t then Some failed_first else if t then Some reading_first else if t then Some chosen else if t then Some held_read else None) ≡ Some e → IsTrue t
only_failed true e h = refl
only_failed false e h = nothing e h

read_gets_allowed : (votes : Votes) (mode : Mode) → AllowsAll votes read_gets (at_rest mode false)
read_gets_allowed votes mode = allows_append votes read_out
    (Read 1 reading_first first_copy Badly None ∷ Admit 1 failed_first Ready false (second_at Todo) ∷ Read 1 chosen_again second_copy Flying None
    ∷ Read 1 reading_second second_copy Well (Some zero_blocks) ∷ LandGot 1 has_read (zero_sector ∷ []) ∷ []) (at_rest mode false) (read_goes_out votes mode false) (
      record { there = refl; read = refl; past = refl; was = (Flying, refl); gets = λ value is. nothing value is },
      (
        record {
          there = refl;
          early = inr (inr (inr (refl, refl, refl)));
          phase_now = inr (refl, λ write on several. not_so write);
          free = λ j e is low conflict. none_below j (eqb-true j 1 (only_failed (j == 1) e is)) low;
          usable = λ read c x at. let h = is_second c Todo x at in (ap (λ (p : Pp). (at_rest mode false).is_copy 1 0 p) h.0, ap (λ (p : Pp). is_usable (at_rest mode false) p) h.0);
        },
        (
          record { there = refl; read = refl; past = refl; was = (Todo, refl); gets = λ value is. nothing value is },
          (
            record { there = refl; read = refl; past = refl; was = (Flying, refl); gets = λ value is. inr (λ lv b over. ap (λ (f : ℕ → List ℕ). f b) (same_blocks value is)) },
            (record { there = refl; request = refl; read = refl; past = refl; value = zero_blocks; has = refl; whole = refl; blocks = one_block }, tt),
          ),
        ),
      ),
    )

pub read_fails_allowed : (votes : Votes) (mode : Mode) → AllowsAll votes read_fails (at_rest mode true)
read_fails_allowed votes mode = allows_append votes read_out (Read 1 reading_first first_copy Badly None ∷ LandReadFailed 1 failed_first ∷ []) (at_rest mode true) (read_goes_out votes mode true) (
  record { there = refl; read = refl; past = refl; was = (Flying, refl); gets = λ value is. nothing value is },
  (record { there = refl; request = refl; read = refl; past = refl; failed = λ c stage at. by (is_pp c first_copy) stage at }, tt),
)
  where
    by : (t : Bool) (stage : Stage) → (if t then Some Badly else if t then Some Flying else if t then Some Todo else None) ≡ Some stage → stage ≡ Badly
    by true stage h = cc
    by false stage h = nothing stage h

pub read_ends : ReadEnds
read_ends votes mode enough =
    (leads votes read_gets (at_rest mode false) (first_is_good votes mode false enough) (read_gets_allowed votes mode), leads votes read_fails (at_rest mode true) (first_is_good votes mode true enough) (read_fails_allowed votes mode))

-- ---- a copy is brought up

step_out_allowed : (votes : Votes) (mode : Mode) → AllowsAll votes step_out (at_rest mode true)
step_out_allowed votes mode = (
  record { none = refl; there = refl; stale = refl; passed = λ lv g. refl },
  (
    record { held = refl; newest = λ j e is. nothing e is; placed = placed mode true (Some (passed_by none_passed)) 256 false true step_held.value (omega arith); step = refl; reads = refl },
    (
      record {
        there = refl;
        early = inl refl;
        phase_now = inr (refl, λ write on several. not_so write);
        free = λ j e is low conflict. none_below j (first_put 1 step_held j e is).0 low;
        usable = λ read c x at. let h = is_first c Todo x at in (ap (λ (p : Pp). (at_rest mode true).is_copy 1 0 p) h.0, ap (λ (p : Pp). is_usable (at_rest mode true) p) h.0);
      },
      (
        record { there = refl; read = refl; past = refl; was = (Todo, refl); gets = λ value is. nothing value is },
        (
          record { there = refl; read = refl; past = refl; was = (Flying, refl); gets = λ value is. inr (λ lv b over. ap (λ (f : ℕ → List ℕ). f b) (same_blocks value is)) },
          (record { there = refl; read = refl; past = refl; got = refl; media = λ lv b e. inl refl; open_now = inl refl }, tt),
        ),
      ),
    ),
  ),
)

-- the blocks of the first track group are those of the step
of_group : (lv b : ℕ) → IsTrue (first_group lv (track_group_of b)) → IsTrue (covers step_read lv b)
of_group lv b is =
    let group : track_group_of b ≡ 0 = eqb-true (track_group_of b) 0 (right (lv == 1) (track_group_of b == 0) is) in
    let low : b < 0 + 256 = omega (arith, group) in
    let volume : lv ≡ 1 = eqb-true lv 1 (left (lv == 1) (track_group_of b == 0) is) in
    let inside : IsTrue (nat_lt b (0 + 256)) = grind (arith, nat_tests) in
    let from : IsTrue (nat_le 0 b) = grind (arith, nat_tests) in
    both (1 == lv && nat_le 0 b) (nat_lt b (0 + 256)) (both (1 == lv) (nat_le 0 b) (ap (λ (n : ℕ). 1 == n) volume) from) inside

step_ends_allowed : (votes : Votes) (mode : Mode) → AllowsAll votes step_ends (stepping mode)
step_ends_allowed votes mode = (
  record {
    there = refl;
    read = refl;
    past = refl;
    got = refl;
    media = λ lv b e. inl refl;
    open_now = inr (record {
      old = passed_by none_passed;
      new = passed_by first_group;
      is_open = refl;
      is_now = refl;
      own = refl;
      same_target = refl;
      still = λ lv g h. not_so h;
      passes = λ lv b passed. inr (λ copy. (of_group lv b passed, refl));
    });
  },
  (record { there = refl; step = refl; unlanded = refl }, (record { there = refl; landed = refl }, tt)),
)

clearing_allowed : (votes : Votes) (mode : Mode) → IsTrue (votes.writes two_disks) → AllowsAll votes clearing (bringing_up mode all_passed)
clearing_allowed votes mode enough = (
  record {
    complete = record { copy = passed_by all_passed; is_open = refl; target = refl; passed = λ lv b copy. refl };
    stale = refl;
    still = λ e h. inr (pp_is e second_copy h);
    added = λ e h. not_so h;
    still_dirty = λ lv h. h;
    behind = λ lv b d e copy fresh gone other usable kept. not_so gone;
  },
  update_allowed votes _ (stamped 1 (marks_with true false)) 2 (marks_with false false) enough refl refl refl refl (λ d. refl) (λ o is. refl),
)

pub copy_is_brought_up : CopyIsBroughtUp
copy_is_brought_up votes mode enough =
    let out = leads votes step_out (at_rest mode true) (first_is_good votes mode true enough) (step_out_allowed votes mode) in (
      out,
      leads votes step_ends (stepping mode) out.reached.good (step_ends_allowed votes mode),
      leads votes clearing (bringing_up mode all_passed) (bringing_up_is_good votes mode all_passed enough) (clearing_allowed votes mode enough),
    )

-- ---- disks are lost

disks_lost_allowed : (votes : Votes) (mode : Mode) → AllowsAll votes disks_lost (at_rest mode false)
disks_lost_allowed votes mode = (
  submits mode,
  (
    record {
      missing_still = λ d h. refl;
      still = λ c h. h;
      still_dirty = λ lv h. h;
      added = λ c h. not_so h;
      open_same = inl refl;
      open_there = λ o is. nothing o is;
      behind = λ lv b c e copy fresh gone other usable kept. not_so usable;
    },
    tt,
  ),
)

pub none_fresh_allowed : (votes : Votes) (mode : Mode) → AllowsAll votes none_fresh (at_rest mode false)
none_fresh_allowed votes mode = allows_append votes disks_lost (LandNoFresh 1 held ∷ []) (at_rest mode false) (disks_lost_allowed votes mode) (record { there = refl; request = refl; early = inl refl; none = λ c copy. refl }, tt)

-- the one place of the queue is open
one_open : (s : ModelState) (r : Queued) (started : Bool) → s.queue 1 ≡ Some r → IsFalse r.step → IsFalse (has_landed r.phase) → ((j : ℕ) (e : Queued) → s.queue j ≡ Some e → (j ≡ 1) × (e ≡ r))
    → started ≡ is_going r.phase → AreOpen s (1 ∷ []) (λ i. started)
one_open s r started there request unlanded only going = record {
  once = (λ none. none, tt);
  each = λ i h. ⊎_elim (λ (is : 1 ≡ i). subst (IsUnlanded s) is (record { req = r; there = there; request = request; unlanded = unlanded })) (λ none. absurd none) h;
  all = λ i e at asked open_now. inl (sym (only i e at).0);
  begun_data = λ i e at write. going ∙ ap (λ (q : Queued). is_going q.phase) (sym (only i e at).1);
}

pub disks_are_lost : DisksAreLost
disks_are_lost votes mode enough none = (
  leads votes none_fresh (at_rest mode false) (first_is_good votes mode false enough) (none_fresh_allowed votes mode),
  record {
    lost = none;
    no_data = λ i r c there flies. untouched r c (first_put 1 held i r there).1 flies;
    no_status = λ d. refl;
    no_note = λ d. refl;
    no_copy = refl;
    requests = one_open (after_loss mode) held false refl refl refl (λ j e there. first_put 1 held j e there) refl;
  },
)
  where
    untouched : (r : Queued) (c : Pp) → r ≡ held → r.targets c ≡ Some Flying → ⊥
    untouched r c is flies = nothing Flying (sym (ap (λ (q : Queued). q.targets c) is) ∙ flies)

-- ---- a cut

last_put : (e : Queued) → Some both_out ≡ Some e → e ≡ both_out
last_put e h = cc

-- the place has had other forms of the request before
after_pin : (t : Bool) (e : Queued) → (if t then Some both_out else if t then Some one_out else if t then Some ready else if t then Some (waiting Active) else if t then Some held else None) ≡ Some e
    → IsTrue t × (e ≡ both_out)
after_pin true e h = (refl, last_put e h)
after_pin false e h = nothing e h

after_admission : (t : Bool) (e : Queued) → (if t then Some both_out else if t then Some one_out else if t then Some ready else if t then Some held else None) ≡ Some e → IsTrue t × (e ≡ both_out)
after_admission true e h = (refl, last_put e h)
after_admission false e h = nothing e h

at_first_place : (j : ℕ) (e : Queued) → IsTrue (j == 1) × (e ≡ both_out) → (j ≡ 1) × (e ≡ both_out)
at_first_place j e h = (eqb-true j 1 h.0, h.1)

pub cut_meets_write : CutMeetsWrite
cut_meets_write Active = one_open (writing Active) both_out true refl refl refl (λ j e there. at_first_place j e (after_pin (j == 1) e there)) refl
cut_meets_write Passive = one_open (writing Passive) both_out true refl refl refl (λ j e there. at_first_place j e (after_admission (j == 1) e there)) refl
cut_meets_write Off = one_open (writing Off) both_out true refl refl refl (λ j e there. at_first_place j e (after_admission (j == 1) e there)) refl

-- ---- an earlier session

earlier_is_good : (votes : Votes) (mode : Mode) → IsTrue (votes.writes two_disks) → Good votes (with_earlier mode)
earlier_is_good votes mode enough =
    let rest = first_is_good votes mode false enough in
    record {
      sound = told_core (at_rest mode false) rest.sound (with_earlier mode).facts (λ lv b. same lv b);
      found = let f = rest.found in record { set = f.set; enough = f.enough; have = f.have; only = f.only; newer = f.newer };
      told = told_of_none _ _ _ (λ i r there. nothing r there) (tt, (tt, (refl, (record { began = inr (inr (inl refl)); first = refl; kind = tt; reads = tt }, tt))));
    }
  where
    by : (t : Bool) (k : Known) → (if t then k else k) ≡ k
    by true k = refl
    by false k = refl

    same : (lv b : ℕ) → known (with_earlier mode).facts (Lv lv) b ≡ told (at_rest mode false) lv b
    same lv b = by (1 == lv && nat_le 0 b && nat_lt b (0 + 1)) (told (at_rest mode false) lv b)

pub earlier_is_taken : EarlierIsTaken
earlier_is_taken votes mode enough = leads votes (TakeEarlier asked_read ∷ []) (with_earlier mode) (earlier_is_good votes mode enough)
    (record { once = record { began = inr (inr (inl refl)); answered = refl; first = refl }; other = λ i r there asked. nothing r there }, tt)

-- A write in each mode, and its end.
use Rattle.std.proofs.Common.{◌≡◌, ◌⊎◌, inl, inr, ⊎_elim, ℕ, Bool, true, false, ◌&&◌, ◌||◌, [], ◌∷◌, Option, Some, None, refl, sym, ap, ◌∙◌, arith, eqb-true}
use Rattle.std.specs.Prelude.{IsTrue, IsFalse, ◌==◌, if◌then◌else◌}
use Rattle.lvm_num.specs.declared.place.Pp.{Pp}
use Rattle.lvm_num.specs.declared.descriptor.Mode.{Mode}
use Rattle.lvm_num.specs.declared.descriptor.Mode.TheVariants.{Active, Passive, Off}
use Rattle.lvm_num.specs.Buffer.{zero_sector}
use Rattle.lvm_num.specs.Record.{Stamped}
use Rattle.lvm_invariant.specs.State.{Marks, Stage, Todo, Flying, Well, Badly, WantEntry, Ready, Queued, ModelState, covers, stale_in, is_usable, Groups}
use Rattle.lvm_invariant.specs.Updates.{land}
use Rattle.lvm_num.specs.Descriptor.{is_pp}
use Rattle.lvm_num.proofs.Booleans.{clash_gives, not_so, not_either}
use Rattle.lvm_invariant.specs.Found.{Votes}
use Rattle.lvm_invariant.specs.Submit.{Submits}
use Rattle.lvm_invariant.specs.Admit.{Admits}
use Rattle.lvm_invariant.specs.Want.{Wants}
use Rattle.lvm_invariant.specs.LandDone.{IsDropped}
use Rattle.lvm_invariant.specs.Events.{AllowsAll, after_all, made, Submit, Admit, StartWrite, Transfer, LandDone, LandLost, Take}
use Rattle.lvm_invariant.specs.First.{two_disks, no_disk, first_copy, second_copy, is_either, marks_with, stamped, at_rest}
use Rattle.lvm_invariant.specs.Worked.{asked, held, both_at, phase_in, ready, one_out, both_out, first_group, named_on, only, note_to, no_note, update, recording, zeros, writing_out, writing, written, one_failed, one_fails, both_failed, both_fail, updating_out, noting_out, IsWriting, EachModeWrites, RecordsGoOut, WriteEnds}
use Rattle.lvm_invariant.proofs.FirstLemmas.{nothing, left, right, both, first_is_good}
use Rattle.lvm_invariant.proofs.WorkedLemmas.Worked.{leads, allows_append, first_put, none_below, pp_is, on_two, at_either, placed, note_ends, update_allowed}
use Rattle.lvm_invariant.specs.StartWrite.{MayStartWrite}

-- ---- it is asked and admitted

pub submits : (mode : Mode) → Submits (at_rest mode false) 1 asked held
submits mode = record {
  held = refl;
  newest = λ j e is. nothing e is;
  placed = placed mode false None 1 true false held.value (omega arith);
  request = refl;
  same = record { vol = refl; over = λ lv b. refl; write = refl; value = λ lv b write over. refl };
  next = refl;
}

abbrev submitted : Mode → ModelState
submitted mode = made (Submit 1 asked held) (at_rest mode false)

pub admits : (mode : Mode) → Admits (submitted mode) 1 held (phase_in mode) true (both_at Todo)
admits mode = record {
  there = refl;
  early = inl refl;
  phase_now = phase_now mode;
  free = λ j e is low conflict. none_below j (first_put 1 held j e is).0 low;
  usable = λ read c x at. not_either read;
}
  where
    phase_now : (mode : Mode) → (phase_in mode ≡ WantEntry) ⊎ ((phase_in mode ≡ Ready) × (IsTrue held.write → IsTrue ((submitted mode).is_active held.lv) → IsTrue true → ⊥))
    phase_now Active = inl refl
    phase_now Passive = inr (refl, λ write on several. not_so on)
    phase_now Off = inr (refl, λ write on several. not_so on)

abbrev admitted_in : Mode → ModelState
admitted_in mode = made (Admit 1 held (phase_in mode) true (both_at Todo)) (submitted mode)

-- ---- it is recorded

now_true : (e : ℕ) → (e == 1) ≡ true → two_disks e ≡ true
now_true e is = by (e == 0) (e == 1) is
  where
    by : (a b : Bool) → b ≡ true → a || b ≡ true
    by true b h = refl
    by false b h = h

still_first : (e : ℕ) → (e == 1) ≡ false → two_disks e ≡ only 0 e
still_first e is = by (e == 0) (e == 1) is
  where
    by : (a b : Bool) → b ≡ false → a || b ≡ a
    by true b h = refl
    by false b h = h

note_flies : (n d : ℕ) → (note_to n d ≡ None) ⊎ ((d ≡ n) × (note_to n d ≡ Some first_group))
note_flies n d = by (d == n) refl
  where
    by : (t : Bool) → (d == n) ≡ t → ((if t then Some first_group else None) ≡ None) ⊎ ((d ≡ n) × ((if t then Some first_group else None) ≡ Some first_group))
    by true is = inr (eqb-true d n is, refl)
    by false is = inl refl

note_lands : (n d : ℕ) → (None ≡ note_to n d) ⊎ ((d ≡ n) × (no_note d ≡ None))
note_lands n d = by (d == n) refl
  where
    by : (t : Bool) → (d == n) ≡ t → (None ≡ (if t then Some first_group else None)) ⊎ ((d ≡ n) × (no_note d ≡ None))
    by true is = inr (eqb-true d n is, refl)
    by false is = inl refl

twice : (old new : ℕ → Bool) (e n : ℕ) → (named_on new e ≡ named_on old e) ⊎ ((e ≡ n) × (named_on new e ≡ first_group))
    → ((named_on new e ≡ named_on old e) × (named_on new e ≡ named_on old e)) ⊎ ((named_on new e ≡ first_group) × (named_on new e ≡ first_group))
twice old new e n (inl h) = inl (h, h)
twice old new e n (inr h) = inr (h.1, h.1)

pub recorded : (votes : Votes) (mode : Mode) → IsTrue (votes.writes two_disks) → AllowsAll votes (recording mode) (admitted_in mode)
recorded votes Off enough = tt
recorded votes Passive enough = (
  record {
    missing_still = λ d h. h;
    still = λ c h. h;
    still_dirty = λ lv h. not_so h;
    added = λ c h. not_so h;
    open_same = inl refl;
    open_there = λ o is. nothing o is;
    behind = λ lv b c e copy fresh gone other usable kept. not_so gone;
  },
  update_allowed votes _ (stamped 1 (marks_with false false)) 2 (marks_with false true) enough refl refl refl refl (λ d. refl) (λ o is. nothing o is),
)
recorded votes Active enough = (
  record { there = refl; waits = refl; has = refl; keeps = λ j e at write pinning on several cached. not_so cached },
  (
    record { disk = 0; there = refl; none = refl; each = λ d. note_flies 0 d },
    (
      record {
        note = first_group;
        was = refl;
        names_now = λ e. note_ends no_disk (only 0) 0 (λ e is. is) (λ e is. is) e;
        home_now = λ e there. twice no_disk (only 0) e 0 (note_ends no_disk (only 0) 0 (λ e is. is) (λ e is. is) e);
        flying_now = λ e. note_lands 0 e;
      },
      (
        record { disk = 1; there = refl; none = refl; each = λ d. note_flies 1 d },
        (
          record {
            note = first_group;
            was = refl;
            names_now = λ e. note_ends (only 0) two_disks 1 now_true still_first e;
            home_now = λ e there. twice (only 0) two_disks e 1 (note_ends (only 0) two_disks 1 now_true still_first e);
            flying_now = λ e. note_lands 1 e;
          },
          tt,
        ),
      ),
    ),
  ),
)

-- ---- it goes out

abbrev recorded_in : Mode → ModelState
recorded_in mode = after_all (recording mode) (admitted_in mode)

-- its targets are the two copies
aimed : (e : Pp) (stage : Stage) → both_at Todo e ≡ Some stage → IsTrue (is_either e) × (stage ≡ Todo)
aimed e stage at = at_either Todo (is_either e) stage at

its_target : (e : Pp) → IsTrue (is_either e) → both_at Todo e ≡ Some Todo
its_target e is = ap (λ (t : Bool). if t then Some Todo else None) is

-- where both copies are usable and none is wanted stale, a write may start its first transfer, given that it is recorded
may_go : (s : ModelState) → s.queue 1 ≡ Some ready → ((e : Pp) → s.is_copy 1 0 e ≡ is_either e) → ((e : Pp) → IsTrue (is_usable s e)) → ((e : Pp) → IsFalse (s.wanted.stale e))
    → (IsTrue (s.is_active 1) → (e : Pp) → IsTrue (is_either e) → IsTrue (s.home_note e.disk 1 0) × ((n : Groups) → s.flying_note e.disk ≡ Some n → IsTrue (n 1 0)))
    → (IsTrue (s.is_passive 1) → IsTrue (s.committed.value.dirty 1)) → MayStartWrite s 1 ready first_copy
may_go s there copies usable unwanted named dirty = record {
  there = there;
  write = refl;
  ready = refl;
  target = refl;
  unstarted = λ e stage at. (aimed e stage at).1;
  source = first_copy;
  source_copy = copies first_copy;
  source_usable = usable first_copy;
  usable = λ e stage at. inl (usable e);
  each = λ e copy is. its_target e (sym (copies e) ∙ copy);
  quiet = λ e copy stale. clash_gives (s.wanted.stale e) stale (unwanted e);
  named = λ on several e stage at. named on e (aimed e stage at).0;
  dirty = λ soft several. dirty soft;
  single = λ one e f x y at_e at_f. not_either one;
}

goes_out : (votes : Votes) (mode : Mode) → AllowsAll votes (StartWrite 1 ready first_copy ∷ Transfer 1 one_out second_copy Flying zeros ∷ []) (recorded_in mode)
goes_out votes Active = (
  may_go _ refl (λ e. refl) (λ e. refl) (λ e. refl) (λ on e is. (both (two_disks e.disk) true (on_two e is) refl, λ n flies. nothing n flies)) (λ soft. not_so soft),
  (record { started = record { there = refl; write = refl; going = refl }; was = (Todo, refl); media = λ lv b e. inl refl; well = λ is. absurd cc }, tt),
)
goes_out votes Passive = (
  may_go _ refl (λ e. refl) (λ e. refl) (λ e. refl) (λ on. not_so on) (λ soft. refl),
  (record { started = record { there = refl; write = refl; going = refl }; was = (Todo, refl); media = λ lv b e. inl refl; well = λ is. absurd cc }, tt),
)
goes_out votes Off = (
  may_go _ refl (λ e. refl) (λ e. refl) (λ e. refl) (λ on. not_so on) (λ soft. not_so soft),
  (record { started = record { there = refl; write = refl; going = refl }; was = (Todo, refl); media = λ lv b e. inl refl; well = λ is. absurd cc }, tt),
)

pub each_mode_writes : EachModeWrites
each_mode_writes votes mode enough = (
  leads votes (writing_out mode) (at_rest mode false) (first_is_good votes mode false enough)
      (submits mode, (admits mode, allows_append votes (recording mode) _ (admitted_in mode) (recorded votes mode enough) (goes_out votes mode))),
  is_writing mode,
)
  where
    is_writing : (mode : Mode) → IsWriting (writing mode)
    is_writing Active = record { request = both_out; there = refl; write = refl; is_going = refl; first = refl; second = refl }
    is_writing Passive = record { request = both_out; there = refl; write = refl; is_going = refl; first = refl; second = refl }
    is_writing Off = record { request = both_out; there = refl; write = refl; is_going = refl; first = refl; second = refl }

-- ---- it ends

pub brought : (lv b : ℕ) (e : Pp) → (written lv b e ≡ zero_sector) ⊎ (IsTrue (covers held lv b) × (e ≡ first_copy) × (written lv b e ≡ held.value b))
brought lv b e = by (covers held lv b && is_pp e first_copy) refl
  where
    by : (t : Bool) → (covers held lv b && is_pp e first_copy) ≡ t
        → ((if t then held.value b else zero_sector) ≡ zero_sector) ⊎ (IsTrue (covers held lv b) × (e ≡ first_copy) × ((if t then held.value b else zero_sector) ≡ held.value b))
    by true is = inr (left (covers held lv b) (is_pp e first_copy) is, pp_is e first_copy (right (covers held lv b) (is_pp e first_copy) is), refl)
    by false is = inl refl

pub brought_whole : (lv b : ℕ) → IsTrue (covers held lv b) → written lv b first_copy ≡ held.value b
brought_whole lv b over = ap (λ (t : Bool). if t then held.value b else zero_sector) (both (covers held lv b) true over refl)

-- the second copy becomes wanted stale, in whose place is the first
module _ (s : ModelState) (none_open : s.open_copy ≡ None) (copy_is : (c : Pp) → s.is_copy 1 0 c ≡ is_either c) (none_stale : (c : Pp) → IsFalse (s.committed.value.stale c))
    (none_wanted : s.wanted ≡ marks_with false false) (none_missing : (d : ℕ) → IsFalse (s.missing d)) where
  pub second_wanted : Wants s (marks_with true false) no_disk None
  second_wanted = record {
    missing_still = λ d h. absurd (clash_gives (s.missing d) h (none_missing d));
    still = λ c h. not_so (sym (ap (λ (m : Marks). m.stale c) none_wanted) ∙ h);
    still_dirty = λ lv h. not_so (sym (ap (λ (m : Marks). m.dirty lv) none_wanted) ∙ h);
    added = λ c h. inr (inl (record {
      lv = 1;
      block = 0;
      other = first_copy;
      copy = copy_is c ∙ ap is_either (pp_is c second_copy h);
      other_copy = copy_is first_copy;
      fresh = none_stale first_copy;
      kept = refl;
    }));
    open_same = inl (sym none_open);
    open_there = λ o is. nothing o is;
    behind = λ lv b c e copy fresh gone other usable kept. not_so gone;
  }

dropped : (s : ModelState) (r : Queued) (c : Pp) → s.committed.value ≡ marks_with true false → s.in_flight ≡ None → s.open_copy ≡ None → IsTrue (is_pp c second_copy) → IsDropped s r c
dropped s r c committed in_flight none is = record {
  stale = both (s.committed.value.stale c) (stale_in s.in_flight c) (ap (λ (m : Marks). m.stale c) committed ∙ is) (ap (λ (o : Option (Stamped Marks)). stale_in o c) in_flight);
  uncaught = λ p. nothing p.copy (sym none ∙ p.is_open);
}

one_ends : (s : ModelState) (r : Queued) (c : Pp) (stage : Stage) → ((x : IsTrue (is_pp c second_copy)) → IsDropped s r c) → one_failed.targets c ≡ Some stage → (stage ≡ Well) ⊎ ((stage ≡ Badly) × IsDropped s r c)
one_ends s r c stage drop at = by (is_pp c second_copy) (is_pp c first_copy) refl at
  where
    same : (x : Stage) → Some x ≡ Some stage → stage ≡ x
    same x h = cc

    by : (x y : Bool) → is_pp c second_copy ≡ x → (if x then Some Badly else if y then Some Well else if x then Some Flying else if y then Some Flying else if y || x then Some Todo else None) ≡ Some stage
        → (stage ≡ Well) ⊎ ((stage ≡ Badly) × IsDropped s r c)
    by true y is h = inr (same Badly h, drop is)
    by false true is h = inl (same Well h)
    by false false is h = nothing stage h

both_end : (c : Pp) (stage : Stage) → both_failed.targets c ≡ Some stage → (stage ≡ Badly) × ((c ≡ first_copy) ⊎ IsTrue (is_pp c second_copy))
both_end c stage at = by (is_pp c second_copy) (is_pp c first_copy) refl refl at
  where
    same : (x : Stage) → Some x ≡ Some stage → stage ≡ x
    same x h = cc

    by : (x y : Bool) → is_pp c second_copy ≡ x → is_pp c first_copy ≡ y → (if x then Some Badly else if y then Some Badly else if x then Some Flying else if y then Some Flying else if y || x then Some Todo else None) ≡ Some stage
        → (stage ≡ Badly) × ((c ≡ first_copy) ⊎ IsTrue (is_pp c second_copy))
    by true y is also h = (same Badly h, inr is)
    by false true is also h = (same Badly h, inl (pp_is c first_copy also))
    by false false is also h = nothing stage h

one_fails_allowed : (votes : Votes) → IsTrue (votes.writes two_disks) → AllowsAll votes one_fails (writing Active)
one_fails_allowed votes enough = (
  record { started = record { there = refl; write = refl; going = refl }; was = (Flying, refl); media = brought; well = λ is lv b over. brought_whole lv b over },
  (
    record { started = record { there = refl; write = refl; going = refl }; was = (Flying, refl); media = λ lv b e. inl refl; well = λ is. absurd cc },
    (
      second_wanted _ refl (λ c. refl) (λ c. refl) refl (λ d. refl),
      allows_append votes (update (stamped 1 (marks_with false false)) 2 (marks_with true false)) (LandDone 1 one_failed ∷ Take 1 (land one_failed) ∷ []) _
          (update_allowed votes _ (stamped 1 (marks_with false false)) 2 (marks_with true false) enough refl refl refl refl (λ d. refl) (λ o is. nothing o is)) (
            record { started = record { there = refl; write = refl; going = refl }; ended = λ c stage at. one_ends _ one_failed c stage (λ is. dropped _ one_failed c refl refl refl is) at },
            (record { there = refl; landed = refl }, tt),
          ),
    ),
  ),
)

both_fail_allowed : (votes : Votes) → IsTrue (votes.writes two_disks) → AllowsAll votes both_fail (writing Active)
both_fail_allowed votes enough = (
  record { started = record { there = refl; write = refl; going = refl }; was = (Flying, refl); media = λ lv b e. inl refl; well = λ is. absurd cc },
  (
    record { started = record { there = refl; write = refl; going = refl }; was = (Flying, refl); media = λ lv b e. inl refl; well = λ is. absurd cc },
    (
      second_wanted _ refl (λ c. refl) (λ c. refl) refl (λ d. refl),
      allows_append votes (update (stamped 1 (marks_with false false)) 2 (marks_with true false)) (LandLost 1 both_failed ∷ []) _
          (update_allowed votes _ (stamped 1 (marks_with false false)) 2 (marks_with true false) enough refl refl refl refl (λ d. refl) (λ o is. nothing o is)) (
            record {
              started = record { there = refl; write = refl; going = refl };
              kept = first_copy;
              ended = λ c stage at. inr (both_end c stage at).0;
              dropped = λ c stage at. ⊎_elim (λ (is : c ≡ first_copy). inl is) (λ (is : IsTrue (is_pp c second_copy)). inr (dropped _ both_failed c refl refl refl is)) (both_end c stage at).1;
            },
            tt,
          ),
    ),
  ),
)

pub write_ends : WriteEnds
write_ends votes enough =
    let good = (each_mode_writes votes Active enough).0.reached.good in
    (leads votes one_fails (writing Active) good (one_fails_allowed votes enough), leads votes both_fail (writing Active) good (both_fail_allowed votes enough))

-- ---- a record is out

pub records_go_out : RecordsGoOut
records_go_out votes mode enough = (
  leads votes updating_out (at_rest mode false) (first_is_good votes mode false enough)
      (second_wanted _ refl (λ c. refl) (λ c. refl) refl (λ d. refl), (record { none = refl; value = refl; later = refl }, (record { flies = refl; each = λ d. inl refl }, tt))),
  leads votes noting_out (at_rest Active false) (first_is_good votes Active false enough) (
    submits Active,
    (
      admits Active,
      (record { there = refl; waits = refl; has = refl; keeps = λ j e at write pinning on several cached. not_so cached }, (record { disk = 0; there = refl; none = refl; each = λ d. note_flies 0 d }, tt)),
    ),
  ),
)

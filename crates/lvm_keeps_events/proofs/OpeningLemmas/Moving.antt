-- A copy begins to move.
use Rattle.std.proofs.Common.{◌≡◌, ◌⊎◌, inl, inr, ◌≤◌, ◌<◌, ℕ, Bool, true, false, ◌&&◌, ◌||◌, not, List, [], ◌∷◌, Option, Some, None, slice_index_or, refl, sym, ◌∙◌, ap, subst}
use Rattle.std.specs.Prelude.{Err, MatchOption, Ok}
use Rattle.std.specs.List.{list_any}
use Rattle.lvm_num.specs.declared.descriptor.LvRow.{LvRow}
use Rattle.lvm_num.specs.declared.place.Pp.{Pp}
use Rattle.lvm_num.specs.Descriptor.{copies_of, is_pp}
use Rattle.lvm_num.specs.Status.{calls_missing, calls_stale}
use Rattle.lvm_num.proofs.Booleans.{not_so, or_true}
use Rattle.lvm_num.proofs.DescriptorLemmas.Partitions.{one_partition, same_partition}
use Rattle.lvm_disk.specs.Counts.{Counts}
use Rattle.lvm_session.specs.declared.answers.OpenFault.{OpenFault}
use Rattle.lvm_session.specs.declared.answers.OpenFault.TheVariants as denial
use Rattle.lvm_session.specs.State.{Core, State, state}
use Rattle.lvm_session.specs.Judging.{copies_in, is_usable}
use Rattle.lvm_session.specs.Bringing.{step_place}
use Rattle.lvm_session.specs.Marks.{is_among}
use Rattle.lvm_session.specs.Calls.{OpensMove, copy_at, faults_of, move_fault, opened}
use Rattle.lvm_session.specs.Causes.{faults_at_first}
use Rattle.lvm_session.specs.declared.bringing.CopyEnd.TheVariants as ending
use Rattle.lvm_session.specs.Sound.{IsMove, IsSound, may_be_fresh}
use Rattle.lvm_calls.specs.Opening.{counts_seen}
use Rattle.lvm_calls.proofs.OpeningLemmas.{copies_are}
use Rattle.lvm_calls.proofs.MovingLemmas.{IsFineMove, IsMoveTaken, move_taken}
use Rattle.lvm_keeps.proofs.CacheLemmas.{no_copy}
use Rattle.lvm_keeps_events.specs.Opening.{IsApart, OpenMoveKeeps}
use Rattle.lvm_keeps_events.proofs.Lists.{any_on}
use Rattle.lvm_keeps_events.proofs.OpeningLemmas.Calling.{called_sound}
use Rattle.lvm_keeps_events.proofs.OpeningLemmas.Opening.{IsReadable, keeps, not_whole, same_row, seen_high, seen_low}
use Rattle.lvm_keeps_events.proofs.Usable.{usable_may}

-- none of these copies is the place, so each that is usable is another
other_usable : (core : Core) (to : Pp) (copies : List Pp) → is_among copies to ≡ false → list_any (is_usable core) copies ≡ true → list_any (λ (q : Pp). not (is_pp q to) && is_usable core q) copies ≡ true
other_usable core to [] apart some = some
other_usable core to (q ∷ qs) apart some = by (is_pp q to) refl (is_pp to q) (is_usable core q) refl apart some (other_usable core to qs)
  where
    turned : is_pp q to ≡ true → is_pp to q ≡ true
    turned same = same_partition to q (sym (one_partition q to same))

    by : (a : Bool) → is_pp q to ≡ a → (b u : Bool) → is_pp to q ≡ b → b || is_among qs to ≡ false → u || list_any (is_usable core) qs ≡ true
        → (is_among qs to ≡ false → list_any (is_usable core) qs ≡ true → list_any (λ (x : Pp). not (is_pp x to) && is_usable core x) qs ≡ true)
        → (not a && u) || list_any (λ (x : Pp). not (is_pp x to) && is_usable core x) qs ≡ true
    by a first true u other none any rest = absurd (cc none)
    by true first false u other none any rest = not_so (sym other ∙ turned first)
    by false first false true other none any rest = refl
    by false first false false other none any rest = rest none any

module _ (s : State) (new : Core) (lv lp number : ℕ) (to : Pp) (counts : Counts) (low : (disk : ℕ) → faults_at_first s.core disk ≤ counts.faults disk) (high : (disk : ℕ) → counts.faults disk ≤ s.device.counts.faults disk)
    (sound : IsSound s) (apart : IsApart s.core.descriptor lv lp number to) (it : IsMoveTaken s.core lv lp number to) (event : OpensMove counts s.core new lv lp number to) where
  -- the place counts as stale since the session began
  abbrev called : State
  called = state s.device (record s.core { origin = new.origin })

  sound_called : IsSound called
  sound_called = called_sound s sound it.on it.none to new.origin event.called

  rows : it.its.row ≡ event.row
  rows = same_row s.core lv it.its.row event.row it.its.volume event.volume

  within : lp < event.row.lps
  within = subst (λ (r : LvRow). lp < r.lps) rows it.its.within

  fine : IsFineMove s.core to (copies_of event.row lp)
  fine = subst (λ (r : LvRow). IsFineMove s.core to (copies_of r lp)) rows it.fine

  copies : copies_in s.core.descriptor lv lp ≡ copies_of event.row lp
  copies = copies_are s.core.descriptor lv lp event.row event.volume

  copy_is : copy_at (copies_in s.core.descriptor lv lp) number ≡ Some it.its.pp
  copy_is = ap (λ (ps : List Pp). copy_at ps number) (copies ∙ ap (λ (r : LvRow). copies_of r lp) (sym rows)) ∙ it.its.copy_is

  no_copy_there : is_among (copies_of event.row lp) to ≡ false
  no_copy_there = ap (λ (ps : List Pp). is_among ps to) (sym copies) ∙ no_copy s.core.descriptor lv lp to fine.unused.free

  other : list_any (λ (q : Pp). not (is_pp q to) && is_usable s.core q) (copies_of event.row lp) ≡ true
  other = other_usable s.core to (copies_of event.row lp) no_copy_there fine.usable

  readable : IsReadable called.core (copies_of event.row lp) to
  readable = record { there = fine.there; other = other; numbers = fine.numbers }

  there : calls_missing new.origin.table to.disk ≡ false
  there = event.called.table.missing to.disk ∙ by (calls_missing s.core.origin.table to.disk) refl
    where
      by : (b : Bool) → calls_missing s.core.origin.table to.disk ≡ b → b ≡ false
      by true is = not_so (sym fine.there ∙ sound.origin.still_missing to.disk is)
      by false is = refl

  kind : IsMove called.core (opened true to lv lp number event.tried (faults_of counts (copies_of event.row lp) to) (step_place s.core))
  kind = record {
    from = it.its.pp;
    its = copy_is;
    free = fine.unused.free;
    member = fine.unused.inside.0;
    member_is = fine.unused.inside.1;
    inside = fine.unused.inside.2;
    apart = apart it.its.pp copy_is;
    there = there;
    called = event.called.table.stale to ∙ ap (λ b. calls_stale s.core.origin.table to || b) (same_partition to to refl) ∙ or_true (calls_stale s.core.origin.table to);
    clear = λ runs whole. not_so (sym (not_whole s.core sound.fitting) ∙ whole);
    fresh = (sound_called.on it.on).going.fresh lv lp (any_on (λ (q : Pp). not (is_pp q to) && is_usable called.core q) (may_be_fresh called.core) (usable_may called.core to) (copies_in s.core.descriptor lv lp)
        (ap (list_any (λ (q : Pp). not (is_pp q to) && is_usable s.core q)) copies ∙ other));
    ends = λ e. let none : None ≡ Some ending.Done = e in cc;
  }

  low_called : (disk : ℕ) → faults_at_first called.core disk ≤ counts.faults disk
  low_called disk = subst (λ (faults : List ℕ). slice_index_or faults disk 0 ≤ counts.faults disk) (sym event.called.faults) (low disk)

  moves_keep : IsSound (state s.device new)
  moves_keep = subst (λ (core : Core). IsSound (state s.device core)) (sym event.is)
      (keeps called sound_called it.on it.none true lv lp number event.row event.volume within to readable event.tried event.nothing counts kind low_called high)

-- ---- or is refused

pub open_move_keeps : OpenMoveKeeps
open_move_keeps s new lv lp number to answer sound awake apart gives = by (move_fault s.core lv lp number to) refl gives
  where
    same_sound : new ≡ s.core → IsSound (state s.device new)
    same_sound same = subst (λ (core : Core). IsSound (state s.device core)) (sym same) sound

    opens : None ≡ move_fault s.core lv lp number to → ((answer ≡ Ok tt) × OpensMove (counts_seen s.device s.core) s.core new lv lp number to) ⊎ ((answer ≡ Err denial.Memory) × (new ≡ s.core)) → IsSound (state s.device new)
    opens unrefused (inl event) = moves_keep s new lv lp number to (counts_seen s.device s.core) (seen_low s sound) (seen_high s sound) sound apart (move_taken s.core lv lp number to awake unrefused) event.1
    opens unrefused (inr same) = same_sound same.1

    by : (f : Option OpenFault) → move_fault s.core lv lp number to ≡ f
        → MatchOption f (((answer ≡ Ok tt) × OpensMove (counts_seen s.device s.core) s.core new lv lp number to) ⊎ ((answer ≡ Err denial.Memory) × (new ≡ s.core))) (λ (why : OpenFault). (answer ≡ Err why) × (new ≡ s.core)) → IsSound (state s.device new)
    by None is event = opens (sym is) event
    by (Some why) is same = same_sound same.1

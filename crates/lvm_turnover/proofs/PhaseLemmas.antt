-- What the two records of a session's turn do, however that ended.
use Rattle.std.proofs.Common.{◌≡◌, inl, inr, ⊎_elim, ℕ, ◌+◌, ◌≤◌, Bool, true, false, ◌&&◌, ◌||◌, not, List, [], ◌∷◌, refl, sym, ◌∙◌, ap, subst, arith}
use Rattle.std.specs.Prelude.{◌==◌, IsTrue, IsFalse}
use Rattle.std.specs.List.{list_any}
use Rattle.std.proofs.lemmas.Bool.{false≢true, eqb-true}
use Rattle.lvm_num.specs.declared.record.Framed.{Framed}
use Rattle.lvm_num.specs.declared.record.Stamp.{Stamp}
use Rattle.lvm_num.specs.declared.descriptor.PvRow.{PvRow}
use Rattle.lvm_num.specs.declared.descriptor.Descriptor.{Descriptor}
use Rattle.lvm_num.specs.declared.status.Status.{Status}
use Rattle.lvm_num.specs.Buffer.{Buffer, Sector}
use Rattle.lvm_num.specs.Disks.{Disks, has}
use Rattle.lvm_num.specs.DescriptorBytes.{descriptor_bytes}
use Rattle.lvm_num.specs.Votes.{votes_in, is_enough_to_write, CanWrite}
use Rattle.lvm_num.proofs.VotesLemmas.{more_have_more, more_is_enough}
use Rattle.lvm_disk.specs.Counts.{Rose, NoneFalls}
use Rattle.lvm_disk.specs.Device.{Device}
use Rattle.lvm_disk.specs.Paths.{DeviceStep, Path}
use Rattle.lvm_disk.proofs.PathsLemmas.{map-path}
use Rattle.lvm_status.specs.Rerowed.{IsRerowed}
use Rattle.lvm_status.specs.Update.{Stored}
use Rattle.lvm_steps.specs.Moments.{StaysKept}
use Rattle.lvm_steps.proofs.RecordLemmas.{either, clash}
use Rattle.lvm_rec.specs.declared.homes.Homes.{Homes}
use Rattle.lvm_write.specs.Written.{KeepsShelf}
use Rattle.lvm_commit.specs.Committed.{next_stamp}
use Rattle.lvm_commit.specs.LawsOfFinding.{FindsNoMoreOn}
use Rattle.lvm_commit.specs.Settling.{IsOfCommit, OnlyLoses, MarksLeft, many_there}
use Rattle.lvm_commit.proofs.RoundsLemmas.Leaving.{left_same_as}
use Rattle.lvm_commit.proofs.SettlingLemmas.Chaining.{keeps_wider, path_counts, loses_same}
use Rattle.lvm_commit.proofs.SettlingLemmas.Round.{no_more_there}
use Rattle.lvm_session.specs.State.{Core, State, state, is_there}
use Rattle.lvm_core.specs.Held.{IsHeld}
use Rattle.lvm_change.specs.declared.turn.Transition.{Transition}
use Rattle.lvm_change.specs.declared.turn.TransitionEnd.{TransitionEnd}
use Rattle.lvm_change.specs.Transition.{HoldsBy, IsBefore, IsOfTransition, ComesBack, TransitionGives}
use Rattle.lvm_turnover.specs.declared.change.Change.{Change}
use Rattle.lvm_turnover.specs.Changing.{IsNext}
use Rattle.lvm_turnover.specs.Turning.{IsTurnBy, MayTurnSession, after_turn, disks_leaving, stamped_twice, unreached}
use Rattle.lvm_turnover.proofs.BeginningLemmas.{next, session_there, copy_apart}
use Rattle.lvm_turnover.proofs.LeavingLemmas.{Writes}
use Rattle.lvm_turnover.proofs.MarksLemmas.{marks_kept}

module _ (c : Change) (old : State) (may : MayTurnSession c old) (turn : Transition) (by : IsTurnBy c old.core.descriptor turn) (slots : Homes) (p q : ℕ) (m : Device) (t : TransitionEnd)
    (gives : TransitionGives turn (is_there old.core) old.core.status.stamp old.core.homes slots 0 p q old.device m t) where
  abbrev goal : Descriptor
  goal = next c old may

  abbrev stamp : Stamp
  stamp = old.core.status.stamp

  pub before_held : IsHeld old.device old.core → IsBefore turn (is_there old.core) stamp old.core.homes old.device
  before_held held = (
    old.core.status.committed,
    subst (λ (g : Descriptor). IsRerowed g old.core.status.committed turn.told.now) (sym by.next) (subst (λ (x : Status). IsRerowed goal old.core.status.committed x) (sym by.told) may.ready.told),
    subst (λ (g : Descriptor). HoldsBy old.device g old.core.status.committed (is_there old.core) stamp old.core.homes) (sym by.was_is) held,
  )

  pub turn_kept : Path DeviceStep (λ d. IsHeld old.device old.core → StaysKept old.device d) old.device m
  turn_kept = map-path (λ d. IsHeld old.device old.core → StaysKept old.device d) (λ d is held. is (before_held held)) gives.kept

  pub turn_finds : IsHeld old.device old.core → FindsNoMoreOn goal old.device m
  turn_finds held = subst (λ (g : Descriptor). FindsNoMoreOn g old.device m) by.next (gives.finds (before_held held))

  pub turn_rises : NoneFalls old.device.counts m.counts
  turn_rises = path_counts gives.kept

  -- ---- what is written

  module _ (last : Stored) (latest : stamp.seq + 2 ≤ last.stamp.seq) where
    of_commit : (d s : ℕ) (value : Sector) → IsOfTransition turn (is_there old.core) (next_stamp stamp) (next_stamp (next_stamp stamp)) d s value → IsOfCommit (descriptor_bytes goal) old.core.status last d s value
    of_commit d s value it = ⊎_elim
        (λ states. (
          it.write,
          inr (record { kind = states.0; status = turn.told.now; own = ap (λ (x : Status). x.id) by.told ∙ may.ready.told.id ∙ ap (λ (x : Status). x.id) may.settled ∙ may.commit.settle.id; content = ap (λ (f : Framed). f.content) states.1 }),
          (let seq = ap (λ (f : Framed). f.stamp.seq) states.1 in record {
            frames = it.frames;
            slots = it.slots;
            targets = λ disk is. subst (λ (set : Disks). IsTrue (set disk)) (sym (session_there c old may)) (it.targets disk is);
            epoch = ap (λ (f : Framed). f.stamp.epoch) states.1;
            later = omega (arith, seq);
            latest = omega (arith, seq, latest);
            its = it.its;
          }),
        ))
        (λ describes. (
          it.write,
          inl (record { kind = describes.0; content_is = ap (λ (f : Framed). f.content) describes.1 ∙ ap descriptor_bytes by.next }),
          (let seq = ap (λ (f : Framed). f.stamp.seq) describes.1 in record {
            frames = it.frames;
            slots = it.slots;
            targets = λ disk is. subst (λ (set : Disks). IsTrue (set disk)) (sym (session_there c old may)) (it.targets disk is);
            epoch = ap (λ (f : Framed). f.stamp.epoch) describes.1;
            later = omega (arith, seq);
            latest = omega (arith, seq, latest);
            its = it.its;
          }),
        ))
        it.which

    pub turn_writes : KeepsShelf (is_there old.core) (IsOfCommit (descriptor_bytes goal) old.core.status last) old.device m
    turn_writes = keeps_wider (is_there old.core) (is_there old.core) (IsOfTransition turn (is_there old.core) (next_stamp stamp) (next_stamp (next_stamp stamp))) (IsOfCommit (descriptor_bytes goal) old.core.status last) old.device m (λ d off. off) of_commit gives.keeps

  -- ---- where the descriptor stays

  abbrev erases : List ℕ
  erases = disks_leaving c.leaving

  module _ (core : Core) (stamped : core.status.stamp ≡ after_turn stamp) (loses : OnlyLoses (stamped_twice old.core) core.status old.device m) (left : MarksLeft old.core.descriptor (stamped_twice old.core) core.status) where
    few : many_there core.status ≤ many_there old.core.status
    few = no_more_there (stamped_twice old.core) core.status loses.group loses.stays

    pub turn_only : Writes goal erases p q old (state m core)
    turn_only = record {
      writes = turn_writes core.status (let seq = ap (λ (x : Stamp). x.seq) stamped in omega (arith, seq));
      status = marks_kept (IsNext goal) erases old.core.descriptor old (state m core) (stamped_twice old.core) (inl refl) (inl refl) (λ e off is. is) (λ e is. is) (λ e off is. is) (λ e is. is) refl (λ e is. subst (λ (set : Disks). IsTrue (set e)) (session_there c old may) is)
          (session_there c old may) (copy_apart c old may) loses left;
      numbers = (let seq = ap (λ (x : Stamp). x.seq) stamped in let less = few in record { epoch = ap (λ (x : Stamp). x.epoch) stamped; rises = omega (arith, seq); most = omega (arith, seq, less) });
      kept = turn_kept;
      finds = turn_finds;
      spends = gives.spends;
    }

  -- no member was lost
  pub turn_stopped : (core : Core) → core.status ≡ stamped_twice old.core → Writes goal erases p q old (state m core)
  turn_stopped core is = turn_only core (ap (λ (u : Stored). u.stamp) is) (loses_same (stamped_twice old.core) core.status old.device m (ap (λ (u : Stored). u.group) is) (ap (λ (u : Stored). u.wanted) is))
      (subst (λ (u : Stored). MarksLeft old.core.descriptor (stamped_twice old.core) u) (sym is) (left_same_as old.core.descriptor (stamped_twice old.core)))

-- ---- those that weren't reached

module _ (old : State) (written : ℕ) (m : Device) (buf : Buffer) (back : ComesBack (is_there old.core) (has written) 0 old.device m buf) where
  parts_of : (a b : Bool) → a && not b ≡ true → (a ≡ true) × (b ≡ false)
  parts_of true true is = absurd (false≢true is)
  parts_of true false is = (refl, refl)
  parts_of false b is = absurd (false≢true is)

  pub unreached_failed : (e : ℕ) → IsTrue (unreached old.core.descriptor old.core written e) → IsTrue (is_there old.core e) × Rose (old.device.counts.faults e) (m.counts.faults e)
  unreached_failed e is = let two = parts_of (is_there old.core e) (has written e) is in (two.0, back.badly e two.0 two.1)

  some_row : (p : PvRow → Bool) (rows : List PvRow) → list_any p rows ≡ true → (row : PvRow) × (p row ≡ true)
  some_row p [] any = absurd (false≢true any)
  some_row p (row ∷ rows) any = by_head (some_row p rows) (p row) refl any
    where
      by_head : (list_any p rows ≡ true → (r : PvRow) × (p r ≡ true)) → (b : Bool) → p row ≡ b → b || list_any p rows ≡ true → (r : PvRow) × (p r ≡ true)
      by_head rest true is any = (row, is)
      by_head rest false is any = rest any

  none_row : (p : ℕ → Bool) (rows : List PvRow) → list_any (λ (row : PvRow). p row.disk) rows ≡ false → (e : ℕ) → list_any (λ (row : PvRow). row.disk == e) rows ≡ true → p e ≡ false
  none_row p [] none e member = absurd (false≢true member)
  none_row p (row ∷ rows) none e member = by_head (λ rest its. none_row p rows rest e its) (p row.disk) (row.disk == e) refl refl none member
    where
      by_head : (list_any (λ (r : PvRow). p r.disk) rows ≡ false → list_any (λ (r : PvRow). r.disk == e) rows ≡ true → p e ≡ false) → (b s : Bool) → p row.disk ≡ b → (row.disk == e) ≡ s
          → b || list_any (λ (r : PvRow). p r.disk) rows ≡ false → s || list_any (λ (r : PvRow). r.disk == e) rows ≡ true → p e ≡ false
      by_head rest true s is same none its = absurd (false≢true (sym none))
      by_head rest false true is same none its = ap p (sym (eqb-true row.disk e same)) ∙ is
      by_head rest false false is same none its = rest none its

  -- where all that were there have votes enough by a descriptor, and those that were reached don't, some weren't
  pub some_unreached : (g : Descriptor) → CanWrite g (is_there old.core) → IsFalse (is_enough_to_write g (votes_in g (has written))) → (e : ℕ) × IsTrue (unreached old.core.descriptor old.core written e)
  some_unreached g enough few = ⊎_elim
      (λ any. let row = some_row (λ (r : PvRow). unreached old.core.descriptor old.core written r.disk) g.pvs any in (row.0.disk, row.1))
      (λ none. absurd (clash (is_enough_to_write g (votes_in g (has written)))
      (more_is_enough.write g (votes_in g (is_there old.core)) (votes_in g (has written)) (more_have_more g (is_there old.core) (has written) (λ e member is. reached e is (none_row (unreached old.core.descriptor old.core written) g.pvs none e member))) enough) few))
      (either (list_any (λ (r : PvRow). unreached old.core.descriptor old.core written r.disk) g.pvs))
    where
      reached : (e : ℕ) → IsTrue (is_there old.core e) → unreached old.core.descriptor old.core written e ≡ false → IsTrue (has written e)
      reached e is isnt = by (is_there old.core e) (has written e) is isnt
        where
          by : (a b : Bool) → a ≡ true → a && not b ≡ false → b ≡ true
          by true true is isnt = refl
          by true false is isnt = absurd (false≢true (sym isnt))
          by false b is isnt = absurd (false≢true is)

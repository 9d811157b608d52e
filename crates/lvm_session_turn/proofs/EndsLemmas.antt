-- What comes of a transfer of the copy, put together from its steps.
use Rattle.std.proofs.Common.{◌≡◌, ◌<◌, ◌+◌, ◌*◌, ◌^◌, ◌==◌, ℕ, Bool, true, false, not, nat_lt, List, [], ◌∷◌, Option, Some, None, refl, sym, ◌∙◌, ap, subst, arith}
use Rattle.std.specs.Prelude.{◌&&◌, ◌||◌, IfSome}
use Rattle.std.specs.List.{AllByRecursion, list_any}
use Rattle.std.specs.Option.{option_map_or}
use Rattle.std.proofs.Math.Nat.{div-le_self}
use Rattle.std.proofs.lemmas.Bool.{eqb-true}
use Rattle.std.proofs.lemmas.Bool.Decides.{nat_tests}
use Rattle.lvm_num.specs.Buffer.{Buffer}
use Rattle.lvm_num.specs.declared.descriptor.Descriptor.{Descriptor}
use Rattle.lvm_num.specs.declared.place.Pp.{Pp}
use Rattle.lvm_num.specs.declared.status.Status.{Status}
use Rattle.lvm_num.specs.Descriptor.{IsPartitionOf, IsValid, is_size, volume_of, is_pp}
use Rattle.lvm_status.proofs.MarkingLemmas.{has_row-same}
use Rattle.lvm_status.specs.Table.{SameMembers}
use Rattle.lvm_status.specs.declared.change.Change.TheVariants as change
use Rattle.lvm_status.specs.Calls.{IsMarkable}
use Rattle.lvm_status.specs.Members.{HasItsRows}
use Rattle.lvm_status.specs.Runs.{IsSoundStatus, Want}
use Rattle.lvm_status.specs.Update.{Stored, seen}
use Rattle.lvm_status.proofs.RunsLemmas.Sound.{steps_stay_sound}
use Rattle.lvm_session.specs.declared.bringing.OpenCopy.{OpenCopy}
use Rattle.lvm_session.specs.declared.bringing.CopyEnd.TheVariants as ending
use Rattle.lvm_session.specs.declared.bringing.Step.{Step}
use Rattle.lvm_session.specs.declared.bringing.Step.TheVariants as step
use Rattle.lvm_session.specs.declared.flown.Owner.TheVariants as owner
use Rattle.lvm_session.specs.State.{Core}
use Rattle.lvm_session.specs.Judging.{copies_in, is_running}
use Rattle.lvm_session.specs.Bringing.{hand_of, is_out, is_whole, marked_by_end, step_place, with_end, is_held_stale}
use Rattle.lvm_session.specs.Ends.{CopyLearns, FailsCopy, CopyStepsOn, PassesGroup, StepLearns, StepLeaves, after_quit, with_copy, with_return, without_step}
use Rattle.lvm_session.specs.Marks.{Reviews, WantsStale}
use Rattle.lvm_session_turn.proofs.passed.Calls.{same_due, markable}
use Rattle.lvm_session_turn.proofs.passed.Due.{copies_in_are, place_of}
use Rattle.lvm_session_turn.specs.passed.Session.{IsOutIf}
use Rattle.lvm_session_turn.specs.passed.Calls.{CanEnd, MayEndCopy, IsLocated, MayReview}
use Rattle.lvm_session.specs.Sound.{IsCopy, IsReadFrom}
use Rattle.lvm_session_turn.specs.Ended.{TransferHasEnded}
use Rattle.lvm_session_turn.proofs.Ended.{among_all, its_copy, its_place, was_out}
use Rattle.lvm_session_turn.specs.Carried.{MayPass, CopyGoesOn}
use Rattle.lvm_session_turn.proofs.WaitingLemmas.{left_before, left_room}

-- ---- how far its cursor goes

small_one : (mib : ℕ) (sizes : List ℕ) → AllByRecursion (λ (n : ℕ). n < 2 ^ 16) sizes → list_any (λ (size : ℕ). size == mib) sizes ≡ true → mib < 2 ^ 16
small_one mib [] small any = absurd (cc any)
small_one mib (n ∷ ns) small any = by_test (small_one mib ns small.1) (n == mib) refl any
  where
    by_test : (list_any (λ (size : ℕ). size == mib) ns ≡ true → mib < 2 ^ 16) → (b : Bool) → (n == mib) ≡ b → (b || list_any (λ (size : ℕ). size == mib) ns) ≡ true → mib < 2 ^ 16
    by_test rest true its any = let same = eqb-true n mib its in let less = small.0 in omega (arith, same, less)
    by_test rest false its any = rest any

size_below : (mib : ℕ) → is_size mib ≡ true → mib < 2 ^ 16
size_below mib is =
    small_one mib (1 ∷ 2 ∷ 4 ∷ 8 ∷ 16 ∷ 32 ∷ 64 ∷ 128 ∷ 256 ∷ 512 ∷ 1024 ∷ [])
    (low 1 refl, (low 2 refl, (low 4 refl, (low 8 refl, (low 16 refl, (low 32 refl, (low 64 refl, (low 128 refl, (low 256 refl, (low 512 refl, (low 1024 refl, tt))))))))))) is
  where
    low : (n : ℕ) → nat_lt n 65536 ≡ true → n < 2 ^ 16
    low n less = grind (arith, nat_tests, less)

-- ---- as its transfer has ended

pub its_open : (core : Core) (at number : ℕ) → TransferHasEnded core at owner.Copy number → (c : OpenCopy) × (core.copy ≡ Some c)
its_open core at number ended = by_copy core.copy refl (was_out core at owner.Copy number ended)
  where
    by_copy : (copy : Option OpenCopy) → core.copy ≡ copy → option_map_or (λ (d : OpenCopy). is_out d.step) copy false ≡ true → (c : OpenCopy) × (core.copy ≡ Some c)
    by_copy None is none = absurd (cc none)
    by_copy (Some c) is out = (c, is)

module _ (core : Core) (at number : ℕ) (ended : TransferHasEnded core at owner.Copy number) (c : OpenCopy) (is_open : core.copy ≡ Some c) where
  its : IsCopy core c
  its = its_copy core at owner.Copy number ended c is_open

  pub is_under_way : is_out c.step ≡ true
  is_under_way = subst (λ (m : Option OpenCopy). option_map_or (λ (d : OpenCopy). is_out d.step) m false ≡ true) is_open (was_out core at owner.Copy number ended)

  pub far : c.cursor + 1 < 2 ^ 32
  far =
      let most = its.cursor in
      let mib = core.descriptor.mib in
      let groups = div-le_self (2048 * mib) 256 in
      let small = size_below mib ended.going.fitting.valid.head.size in
      omega (arith, most, groups, small)

  pub its_markable : (status : Stored) → HasItsRows core.descriptor status.wanted → IsMarkable status.wanted c.pp
  its_markable status rows = markable core.descriptor status.wanted c.pp ended.going.fitting.valid rows (its_place core at owner.Copy number ended c is_open)

  -- the copy that it has become can end
  pub may_end : (new : Core) (next : OpenCopy) → new.copy ≡ Some next → next.pp ≡ c.pp → hand_of next.step ≡ None → IsSoundStatus (seen new.status) → HasItsRows core.descriptor new.status.wanted → MayEndCopy new
  may_end new next copy pp hand sound rows = record {
    sound = sound;
    copy = subst (λ (m : Option OpenCopy). IfSome m (CanEnd new)) (sym copy)
        (record { hand = subst (IsOutIf new.pool) (sym hand) tt; markable = subst (IsMarkable new.status.wanted) (sym pp) (its_markable new.status rows) });
  }

  pub may_review : (new : Core) (next : OpenCopy) → new.descriptor ≡ core.descriptor → new.copy ≡ Some next → next.pp ≡ c.pp → next.lv ≡ c.lv → next.lp ≡ c.lp → hand_of next.step ≡ None
      → IsSoundStatus (seen new.status) → HasItsRows core.descriptor new.status.wanted → MayReview new
  may_review new next descriptor copy pp lv lp hand sound rows = record {
    valid = subst IsValid (sym descriptor) ended.going.fitting.valid;
    rows = subst (λ (d : Descriptor). HasItsRows d new.status.wanted) (sym descriptor) rows;
    copy = may_end new next copy pp hand sound rows;
    located = subst (λ (m : Option OpenCopy). IfSome m (IsLocated new.descriptor)) (sym copy)
        (subst (λ (d : Descriptor). IsLocated d next) (sym descriptor) (record {
          row = its.row;
          volume = ap (volume_of core.descriptor) lv ∙ its.volume;
          lp = subst (λ n. n < its.row.lps) (sym lp) its.lp;
        }));
  }

  -- what it read is a partition of a member
  pub source_within : (source : Pp) → c.step ≡ step.Reading source → source.disk < 128
  source_within source reads =
      let from : IsReadFrom (step.Reading source) (copies_in core.descriptor c.lv c.lp) c = subst (λ (s : Step). IsReadFrom s (copies_in core.descriptor c.lv c.lp) c) reads its.source in
      let of = among_all (IsPartitionOf core.descriptor) (copies_in core.descriptor c.lv c.lp) source (copies_in_are core.descriptor c.lv c.lp ended.going.fitting.valid) from.0 in
      (place_of core.descriptor source ended.going.fitting.valid of).disk

-- ---- the next track group

module _ (core : Core) (at : ℕ) (c : OpenCopy) (buf : Buffer) where
  abbrev left : Core
  left = without_step (with_return core at buf) c

  -- nothing of it is under way, and its step has left
  abbrev pub settled : Core
  settled = with_copy left (record c { step = step.Idle })

  goes_same : (b : Bool) (next : OpenCopy) (on : Core) → CopyStepsOn b settled next on → CopyStepsOn b left next on
  goes_same true next on goes = goes
  goes_same false next on goes = goes

  pub passes_group : (on new : Core) → CopyGoesOn settled on → Reviews on new → PassesGroup core at c buf new
  passes_group on new passes reviews =
      let same : record c { step = step.Idle } ≡ passes.copy = (let e : ◌≡◌ {A = Option OpenCopy} (Some (record c { step = step.Idle })) (Some passes.copy) = passes.is_open in cc e) in
      record {
        next = passes.next;
        moves = record {
          tried = passes.moves.tried;
          is = passes.moves.is ∙ ap (λ (d : OpenCopy). record d { cursor = d.cursor + 1; step = step.Idle; tried = passes.next.tried; place = step_place core }) (sym same);
        };
        on = on;
        goes = goes_same (is_whole core passes.next) passes.next on passes.goes;
        reviews = reviews;
      }

  pub fails_so : core.copy ≡ Some c → (mid new : Core) → mid ≡ with_copy (with_return core at buf) (record c { step = step.Idle })
      → new ≡ record (with_end mid (Some ending.SyncFailed)) { status = new.status } → WantsStale (marked_by_end mid (Some ending.SyncFailed)) mid.status new.status → FailsCopy core at c buf new
  fails_so is_open mid new mids is marks = record {
    marks = same_due (marked_by_end mid (Some ending.SyncFailed)) (marked_by_end core (Some ending.SyncFailed)) core.status new.status
        (λ p. ap (λ (x : Core). marked_by_end x (Some ending.SyncFailed) p) mids ∙ sym (ap (λ (m : Option OpenCopy). option_map_or (λ (d : OpenCopy). is_whole core d && is_pp p d.pp && (not d.moves || is_held_stale core d.pp)) m false) is_open))
        (subst (λ (s : Stored). WantsStale (marked_by_end mid (Some ending.SyncFailed)) s new.status) (ap (λ (x : Core). x.status) mids) marks);
    is = is ∙ ap (λ (x : Core). record (with_end x (Some ending.SyncFailed)) { status = new.status }) mids;
  }

-- what is wanted once it goes on
rows_same : (d : Descriptor) (old new : Status) → SameMembers old new → HasItsRows d old → HasItsRows d new
rows_same d old new same rows disk = has_row-same old new same disk ∙ rows disk

pub record IsOnWith (core : Core) (next : OpenCopy) (on : Core) : Type 0 where
  pub descriptor : on.descriptor ≡ core.descriptor
  pub copy : on.copy ≡ Some next
  pub sound : IsSoundStatus (seen on.status)
  pub rows : HasItsRows core.descriptor on.status.wanted

pub goes_on : (core : Core) (next : OpenCopy) (on : Core) (b : Bool) → IsSoundStatus (seen core.status) → HasItsRows core.descriptor core.status.wanted → CopyStepsOn b core next on → IsOnWith core next on
goes_on core next on true sound rows goes = record {
  descriptor = ap (λ (x : Core). x.descriptor) goes.1;
  copy = ap (λ (x : Core). x.copy) goes.1;
  sound = steps_stay_sound (Want (change.Fresh next.pp)) (seen core.status) (seen on.status) sound (goes.0.wants, goes.0.rest);
  rows = rows_same core.descriptor core.status.wanted on.status.wanted goes.0.wants.members rows;
}
goes_on core next on false sound rows goes = record {
  descriptor = ap (λ (x : Core). x.descriptor) goes;
  copy = ap (λ (x : Core). x.copy) goes;
  sound = subst (λ (x : Core). IsSoundStatus (seen x.status)) (sym goes) sound;
  rows = subst (λ (x : Core). HasItsRows core.descriptor x.status.wanted) (sym goes) rows;
}

module _ (core : Core) (at number : ℕ) (ended : TransferHasEnded core at owner.Copy number) (c : OpenCopy) (is_open : core.copy ≡ Some c) (buf : Buffer) where
  pub may_pass : MayPass (settled core at c buf)
  may_pass =
      let copy = its_copy core at owner.Copy number ended c is_open in
      let out = is_under_way core at number ended c is_open in
      record {
        copy = record c { step = step.Idle };
        is_open = refl;
        cursor = far core at number ended c is_open;
        ordered = ended.going.told.ordered;
        room = left_room core ended.going c is_open copy out;
        last = left_before core ended.going c is_open copy out;
        markable = its_markable core at number ended c is_open core.status ended.going.fitting.rows;
      }

  pub reviewed_after : (on : Core) → CopyGoesOn (settled core at c buf) on → MayReview on
  reviewed_after on passes =
      let same : record c { step = step.Idle } ≡ passes.copy = (let e : ◌≡◌ {A = Option OpenCopy} (Some (record c { step = step.Idle })) (Some passes.copy) = passes.is_open in cc e) in
      let next = passes.moves.is ∙ ap (λ (d : OpenCopy). record d { cursor = d.cursor + 1; step = step.Idle; tried = passes.next.tried; place = step_place core }) (sym same) in
      let goes = goes_on (settled core at c buf) passes.next on (is_whole core passes.next) ended.going.status ended.going.fitting.rows passes.goes in
      may_review core at number ended c is_open on passes.next goes.descriptor goes.copy (ap (λ (d : OpenCopy). d.pp) next) (ap (λ (d : OpenCopy). d.lv) next) (ap (λ (d : OpenCopy). d.lp) next) (ap (λ (d : OpenCopy). hand_of d.step) next)
      goes.sound goes.rows

-- ---- which of them it was

pub learns_late : (core new : Core) (at : ℕ) (ok : Bool) (c : OpenCopy) (buf : Buffer) → core.copy ≡ Some c → is_running c ≡ false → new ≡ after_quit core at c buf → CopyLearns core at ok buf new
learns_late core new at ok c buf is_open late is = record { copy = c; is_open = is_open; learns = subst (λ (b : Bool). StepLearns b core at c ok buf new) (sym late) is }

pub learns_as : (core new : Core) (at : ℕ) (ok b : Bool) (c : OpenCopy) (buf : Buffer) (s : Step) → ok ≡ b → core.copy ≡ Some c → is_running c ≡ true → c.step ≡ s → StepLeaves s b core at c buf new → CopyLearns core at ok buf new
learns_as core new at ok b c buf s ends is_open runs is leaves = record {
  copy = c;
  is_open = is_open;
  learns = subst (λ (t : Bool). StepLearns t core at c ok buf new) (sym runs) (subst (λ (t : Bool). StepLeaves c.step t core at c buf new) (sym ends) (subst (λ (x : Step). StepLeaves x b core at c buf new) (sym is) leaves));
}

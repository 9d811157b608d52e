-- Where the code would start the first transfer of a write, the write may start.
use Rattle.std.proofs.Common.{◌≡◌, ◌⊎◌, inl, inr, ⊎_elim, ℕ, Bool, true, false, ◌&&◌, ◌||◌, not, List, length, ◌++◌, Option, Some, None, refl, sym, ap, subst, ◌∙◌, arith}
use Rattle.std.specs.Prelude.{IsTrue, IsFalse, if◌then◌else◌, nat_le, slice_get, option_and_then}
use Rattle.std.specs.List.{list_any, list_all}
use Rattle.std.specs.Option.{option_map_or}
use Rattle.std.proofs.lemmas.Bool.{and_parts, not-false}
use Rattle.std.proofs.lemmas.Bool.Decides.{nat_tests}
use Rattle.lvm_num.specs.declared.place.Pp.{Pp}
use Rattle.lvm_num.specs.declared.record.NoteEntry.{NoteEntry}
use Rattle.lvm_num.specs.declared.descriptor.Mode.{Mode}
use Rattle.lvm_num.specs.declared.descriptor.Mode.TheVariants as mode
use Rattle.lvm_num.specs.Geometry.{track_group_of}
use Rattle.lvm_num.specs.Status.{calls_dirty}
use Rattle.lvm_num.proofs.AmongLemmas.{filter_one, one_any, one_of_either, one_of_left, one_of_right}
use Rattle.lvm_vol.specs.Facts.{Fact}
use Rattle.lvm_vol.specs.declared.entry.Outcome.TheVariants as outcome
use Rattle.lvm_kept.specs.Group.{IsOneOf}
use Rattle.arrayvec.specs.ArrayVec.{ArrayVec}
use Rattle.lvm_mwc.specs.declared.notes.DiskNotes.{DiskNotes}
use Rattle.lvm_mwc.specs.Notes.{names_group, both_name}
use Rattle.lvm_mwc.specs.Cache.{notes_on, flight_on, is_named}
use Rattle.lvm_path.specs.declared.facts.Facts.{Facts}
use Rattle.lvm_path.specs.declared.facts.Next.{Next}
use Rattle.lvm_path.specs.declared.facts.Next.TheVariants as next
use Rattle.lvm_path.specs.declared.ask.Ask.{Ask}
use Rattle.lvm_path.specs.declared.request.Phase.{Phase}
use Rattle.lvm_path.specs.declared.request.Phase.TheVariants as phase
use Rattle.lvm_path.specs.declared.request.Request.{Request}
use Rattle.lvm_path.specs.declared.target.Target.{Target}
use Rattle.lvm_path.specs.Asks.{lv_of, at_of, is_write}
use Rattle.lvm_path.specs.Targets.{is_begun}
use Rattle.lvm_path.specs.Next.{next_write, next_chosen, next_data, next_read, next_in, next_of}
use Rattle.lvm_session.specs.declared.open.Open.{Open}
use Rattle.lvm_session.specs.State.{Core, State, is_there}
use Rattle.lvm_session.specs.Judging.{copies_for, group_in, group_of, mode_of, is_usable, is_caught, is_missing, is_wanted_stale, is_settled, is_held_by_move, aims, destination_aims, destinations_for, pps_of, same_pps, has_names, has_dirty_mark, place_of, facts_of, IsWithinVolume}
use Rattle.lvm_session.specs.Enabled.{target_due, target_next}
use Rattle.lvm_invariant.specs.State.{Stage, Todo, Ready, Groups, Marks, Queued, ModelState, is_usable as sees_usable, is_settled_stale, HasPassed}
use Rattle.lvm_invariant.specs.StartWrite.{MayStartWrite}
use Rattle.lvm_keeps_events.proofs.passed.Keeps.{first_start_is_noted}
use Rattle.lvm_num.specs.Descriptor.{is_pp}
use Rattle.lvm_num.proofs.Booleans.{clash_gives}
use Rattle.lvm_session.specs.Marks.{is_among}
use Rattle.lvm_crash.specs.Session.{is_beside}
use Rattle.lvm_crash.proofs.WritingLemmas.{same_pp}
use Rattle.lvm_tie.proofs.StateLemmas.{beside_is_stale, beside_settled, caught_passed, copy_destination, copy_is_one, destination_beside_it, one_beside, passed_caught, settled_seen, there_is_copy, usable_one, wanted_seen}
use Rattle.lvm_tie.proofs.ModesLemmas.{active_is, active_mode, passive_is, passive_mode}
use Rattle.lvm_tie.proofs.TiedLemmas.Orderly.{open_one}
use Rattle.lvm_tie.proofs.AmongLemmas.{or_left, or_either, or_true, not_true, and_not, any_one, any_none, all_one, one_filter, same_lists, stage_of_one, one_todo, its_pp, target_of, few_same}
use Rattle.lvm_tie.specs.Seen.{phase_seen, SeesRequest, SeesNote}
use Rattle.lvm_tie.specs.Tied.{IsTied}

-- ---- what a start tells

-- nothing is pending, its targets are those that it must have, and it waits for no record
pub record StartTells (k : Facts) (r : Request) : Type 0 where
  pub pending : k.pending ≡ false
  pub usable : k.usable ≡ true
  pub changed : k.changed ≡ false
  pub record_is : ((r.phase ≡ phase.WantRecord) × (k.named ≡ true) × (k.dirty ≡ true)) ⊎ (r.phase ≡ phase.Data)

-- what a write that hasn't begun does next, where that is a start
chosen : (k : Facts) (on : Next) (number : ℕ) → target_next (next_chosen k on) ≡ Some number → (k.pending ≡ true → target_next on ≡ None)
    → (k.pending ≡ false) × (k.usable ≡ true) × (k.changed ≡ false) × (target_next on ≡ Some number)
chosen k on number is waits = by k.pending refl k.usable refl k.changed refl is
  where
    by : (p : Bool) → k.pending ≡ p → (u : Bool) → k.usable ≡ u → (c : Bool) → k.changed ≡ c → target_next (if p then on else if not u then next.Land outcome.NoFresh else if c then next.Admit else on) ≡ Some number
        → (k.pending ≡ false) × (k.usable ≡ true) × (k.changed ≡ false) × (target_next on ≡ Some number)
    by true wp u wu c wc start = absurd (let e : None ≡ Some number = sym (waits wp) ∙ start in cc)
    by false wp false wu c wc start = absurd cc
    by false wp true wu true wc start = absurd cc
    by false wp true wu false wc start = (wp, wu, wc, start)

no_start : (b : Bool) (n : Next) (number : ℕ) → target_next (if b then n else next.Wait) ≡ Some number → b ≡ true
no_start true n number is = refl
no_start false n number is = absurd cc

start_tells : (k : Facts) (r : Request) (number : ℕ) → is_write r.ask ≡ true → is_begun r.targets.items ≡ false → target_next (next_of r k) ≡ Some number → StartTells k r
start_tells k r number writes early is = by r.phase refl is
  where
    by : (p : Phase) → r.phase ≡ p → target_next (next_in p k r) ≡ Some number → StartTells k r
    by phase.Held at start = absurd (held (k.blocked || k.pending) k.usable start)
      where
        held : (a b : Bool) → target_next (if a then next.Wait else if b then next.Admit else next.Land outcome.NoFresh) ≡ Some number → ⊥
        held true b h = absurd cc
        held false true h = absurd cc
        held false false h = absurd cc
    by phase.WantEntry at start =
        let none : (b : Bool) → target_next (if b then next.Wait else next.Pin) ≡ None = entry in
        let c = chosen k (if k.pinned then next.Wait else next.Pin) number start (λ p. none k.pinned) in
        absurd (let e : None ≡ Some number = sym (none k.pinned) ∙ c.3 in cc)
      where
        entry : (b : Bool) → target_next (if b then next.Wait else next.Pin) ≡ None
        entry true = refl
        entry false = refl
    by phase.WantRecord at start =
        let on = if k.named && k.dirty && not k.pending then next_write r.policy r.targets.items else next.Wait in
        let c = chosen k on number start (λ p. waiting k.named k.dirty k.pending p) in
        let both = and_parts (k.named && k.dirty) (not k.pending) (no_start (k.named && k.dirty && not k.pending) (next_write r.policy r.targets.items) number c.3) in
        let two = and_parts k.named k.dirty both.0 in
        record { pending = c.0; usable = c.1; changed = c.2; record_is = inl (at, two.0, two.1) }
      where
        waiting : (a b p : Bool) → p ≡ true → target_next (if a && b && not p then next_write r.policy r.targets.items else next.Wait) ≡ None
        waiting true true true h = refl
        waiting true false true h = refl
        waiting false b true h = refl
        waiting a b false h = absurd cc
    by phase.Data at start =
        let going = subst (λ (b : Bool). target_next (if b then next_data k r else next_read r.targets.items) ≡ Some number) writes start in
        let not_begun = subst (λ (b : Bool). target_next (if b then next_write r.policy r.targets.items else next_chosen k (if k.pending then next.Wait else next_write r.policy r.targets.items)) ≡ Some number) early going in
        let c = chosen k (if k.pending then next.Wait else next_write r.policy r.targets.items) number not_begun (λ p. waiting k.pending p) in
        record { pending = c.0; usable = c.1; changed = c.2; record_is = inr at }
      where
        waiting : (p : Bool) → p ≡ true → target_next (if p then next.Wait else next_write r.policy r.targets.items) ≡ None
        waiting true h = refl
        waiting false h = absurd cc
    by phase.WantStatus at start = absurd (marked k.marked start)
      where
        marked : (m : Bool) → target_next (if m then next.Land (if k.kept then outcome.Done else outcome.Lost) else next.Wait) ≡ Some number → ⊥
        marked true h = absurd cc
        marked false h = absurd cc
    by phase.Landed at start = absurd cc

-- ---- the start

module _ (past : List Fact) (s : State) (tied : IsTied past s) (o : Open) (number : ℕ) (t : Target) (q : Queued)
    (place : ℕ) (here : slice_get s.core.requests place ≡ Some o)
    (writes : is_write o.request.ask ≡ true) (early : is_begun o.request.targets.items ≡ false) (due : target_due s.core o ≡ Some number) (aim : slice_get o.request.targets.items number ≡ Some t)
    (there : tied.view.queue (place_of o.request.id) ≡ Some q) (sees : SeesRequest o q) where
  abbrev v : ModelState
  v = tied.view

  abbrev core : Core
  core = s.core

  abbrev ask : Ask
  ask = o.request.ask

  abbrev ts : List Target
  ts = o.request.targets.items

  inside : IsWithinVolume core.descriptor ask
  inside = (open_one s tied.write tied.orderly place o here).laid.within

  tells : StartTells (facts_of core o.request) o.request
  tells = start_tells (facts_of core o.request) o.request number writes early due

  ready : q.phase ≡ Ready
  ready = sees.phase ∙ ⊎_elim
      (λ (is : (o.request.phase ≡ phase.WantRecord) × _ × _). ap (λ (p : Phase). phase_seen p (is_begun ts)) is.0)
      (λ (is : o.request.phase ≡ phase.Data). ap (λ (p : Phase). phase_seen p (is_begun ts)) is ∙ ap (phase_seen phase.Data) early)
      tells.record_is

  -- its targets are the copies to which it must go, and the destination of a move
  aims_are : pps_of ts ≡ aims core ask ++ destination_aims core ask
  aims_are = same_lists (pps_of ts) (aims core ask ++ destination_aims core ask) (and_not (is_write ask) (same_pps (pps_of ts) (aims core ask ++ destination_aims core ask)) tells.changed writes)

  -- a target is a copy that is usable, or being brought up and has passed the track group, or the destination of a move that has
  pub data IsAim (e : Pp) : Type 0 where
    Copy : IsOneOf (copies_for core ask) e → (is_usable core e ≡ true) ⊎ (is_caught core (group_in core ask) e ≡ true) → IsAim e
    Destination : is_among (destinations_for core ask) e ≡ true → is_caught core (group_in core ask) e ≡ true → IsAim e

  aim_of : (e : Pp) → IsOneOf (pps_of ts) e → IsAim e
  aim_of e one = ⊎_elim
      (λ (here : IsOneOf (aims core ask) e).
      let of = filter_one (λ (p : Pp). is_usable core p || is_caught core (group_in core ask) p) (copies_for core ask) e here in
      Copy of.0 (or_either (is_usable core e) (is_caught core (group_in core ask) e) of.1))
      (λ (there : IsOneOf (destination_aims core ask) e).
      let of = filter_one (is_caught core (group_in core ask)) (destinations_for core ask) e there in
      Destination (one_any (is_pp e) (destinations_for core ask) e of.0 (same_pp e e refl)) of.1)
      (one_of_either (aims core ask) (destination_aims core ask) e (subst (λ (ps : List Pp). IsOneOf ps e) aims_are one))

  passed_here : (e : Pp) → HasPassed v (lv_of ask) (track_group_of (at_of ask)) e → HasPassed v q.lv (track_group_of q.first) e
  passed_here e p = record { copy = p.copy; is_open = p.is_open; target = p.target; passed = (λ t. p.copy.passed (sees.lv t) (track_group_of (sees.first t))) ∙ p.passed }

  passed_there : (e : Pp) → HasPassed v q.lv (track_group_of q.first) e → HasPassed v (lv_of ask) (track_group_of (at_of ask)) e
  passed_there e p = record { copy = p.copy; is_open = p.is_open; target = p.target; passed = sym (λ t. p.copy.passed (sees.lv t) (track_group_of (sees.first t))) ∙ p.passed }

  counts_seen : (e : Pp) → IsAim e → IsTrue (sees_usable v e) ⊎ HasPassed v q.lv (track_group_of q.first) e
  counts_seen e (Copy one (inl usable)) = inl (usable_one past s tied ask inside e one ∙ usable)
  counts_seen e (Copy one (inr caught)) = inr (passed_here e (caught_passed past s tied ask inside e (one_beside past s tied ask inside e one) caught))
  counts_seen e (Destination among caught) = inr (passed_here e (caught_passed past s tied ask inside e (destination_beside_it past s tied ask inside e among) caught))

  -- its disk is there
  there_too : (e : Pp) → IsAim e → IsTrue (is_there core e.disk)
  there_too e a = ⊎_elim
      (λ (usable : IsTrue (sees_usable v e)). by_missing (v.missing e.disk) refl (and_parts (not (v.committed.value.stale e)) (not (v.missing e.disk)) usable).1)
      (λ (p : HasPassed v q.lv (track_group_of q.first) e). by_missing (v.missing e.disk) refl (ap not (subst (λ (c : Pp). IsFalse (v.missing c.disk)) p.target (tied.good.sound.statuses.open_there p.copy p.is_open))))
      (counts_seen e a)
    where
      by_missing : (b : Bool) → v.missing e.disk ≡ b → not (v.missing e.disk) ≡ true → IsTrue (is_there core e.disk)
      by_missing b is gone = not-false (is_there core e.disk) (sym (tied.sees.status.missing e.disk) ∙ not_true (v.missing e.disk) gone)

  listed : (e : Pp) (stage : Stage) → q.targets e ≡ Some stage → IsOneOf (pps_of ts) e × (stage ≡ Todo)
  listed e stage is = stage_of_one ts e stage early (sym (sees.targets e) ∙ is)

  to_do : (e : Pp) → IsOneOf (pps_of ts) e → q.targets e ≡ Some Todo
  to_do e one = sees.targets e ∙ one_todo ts e early one

  copy_at_first : (e : Pp) → IsTrue (v.is_copy q.lv q.first e) → IsTrue (v.is_copy (lv_of ask) (at_of ask) e)
  copy_at_first e copy = sym (λ t. v.is_copy (sees.lv t) (sees.first t) e) ∙ copy

  each : (e : Pp) → IsTrue (v.is_copy q.lv q.first e) → IsTrue (sees_usable v e) ⊎ HasPassed v q.lv (track_group_of q.first) e → q.targets e ≡ Some Todo
  each e copy counts = to_do e (subst (λ (ps : List Pp). IsOneOf ps e) (sym aims_are) (by (is_beside v.beside e) refl))
    where
      -- the destination of a move isn't usable, so it has passed
      beside_passed : IsTrue (is_beside v.beside e) → IsTrue (sees_usable v e) ⊎ HasPassed v q.lv (track_group_of q.first) e → HasPassed v q.lv (track_group_of q.first) e
      beside_passed is (inr passed) = passed
      beside_passed is (inl usable) = clash_gives (v.committed.value.stale e) (beside_is_stale past s tied e is) (not_true (v.committed.value.stale e) (and_parts (not (v.committed.value.stale e)) (not (v.missing e.disk)) usable).0)

      by : (b : Bool) → is_beside v.beside e ≡ b → IsOneOf (aims core ask ++ destination_aims core ask) e
      by false off =
          let one = copy_is_one past s tied ask inside e off (copy_at_first e copy) in
          let passes : (is_usable core e || is_caught core (group_in core ask) e) ≡ true = or_true (is_usable core e) (is_caught core (group_in core ask) e) (⊎_elim
          (λ usable. inl (sym (usable_one past s tied ask inside e one) ∙ usable))
          (λ p. inr (passed_caught past s tied ask inside e (one_beside past s tied ask inside e one) (passed_there e p)))
          counts) in
          one_of_left (aims core ask) (destination_aims core ask) e (one_filter (λ (p : Pp). is_usable core p || is_caught core (group_in core ask) p) (copies_for core ask) e one passes)
      by true is =
          let at = copy_destination past s tied ask inside e is (copy_at_first e copy) in
          let caught = passed_caught past s tied ask inside e (destination_beside_it past s tied ask inside e (one_any (is_pp e) (destinations_for core ask) e at (same_pp e e refl))) (passed_there e (beside_passed is counts)) in
          one_of_right (aims core ask) (destination_aims core ask) e (one_filter (is_caught core (group_in core ask)) (destinations_for core ask) e at caught)

  rest_false : (a b : Bool) → a || b ≡ false → b ≡ false
  rest_false true b e = absurd (cc e)
  rest_false false b e = e

  quiet : (e : Pp) → IsTrue (v.is_copy q.lv q.first e) → IsTrue (v.wanted.stale e) → IsTrue (is_settled_stale v e)
  quiet e copy wanted = by (is_beside v.beside e) refl
    where
      by : (b : Bool) → is_beside v.beside e ≡ b → IsTrue (is_settled_stale v e)
      by true is = beside_settled past s tied e is
      by false off =
          let one = copy_is_one past s tied ask inside e off (copy_at_first e copy) in
          let none = or_left (list_any (λ (p : Pp). is_wanted_stale core p && not (is_settled core p)) (copies_for core ask)) _ (rest_false (is_held_by_move core ask) _ tells.pending) in
          settled_seen past s tied e (and_not (is_wanted_stale core e) (is_settled core e) (any_none (λ (p : Pp). is_wanted_stale core p && not (is_settled core p)) (copies_for core ask) e none.0 one) (sym (wanted_seen past s tied e off) ∙ wanted))

  source : (p : Pp) × IsTrue (v.is_copy q.lv q.first p) × IsTrue (sees_usable v p)
  source =
      let found = any_one (is_usable core) (copies_for core ask) tells.usable in
      let missing : is_missing core found.0.disk ≡ false = not_true (is_missing core found.0.disk) (and_parts _ (not (is_missing core found.0.disk)) found.2).1 in
      (found.0, (λ t. v.is_copy (sees.lv t) (sees.first t) found.0) ∙ there_is_copy past s tied ask inside found.0 found.1 missing, usable_one past s tied ask inside found.0 found.1 ∙ found.2)

  -- one of several targets has the records that its volume keeps
  recorded : nat_le 2 (length ts) ≡ true → (has_names core (mode_of core ask) o.request ≡ true) × (has_dirty_mark core (mode_of core ask) o.request ≡ true)
  recorded several = first_start_is_noted s place number o tied.orderly.sound tied.orderly.on here due writes early (let h : nat_le 2 (length ts) ≡ true = several in grind (arith, nat_tests))

  names_of : (d : ℕ) (n : Option DiskNotes) → option_map_or (both_name (lv_of ask) (group_of ask)) n false ≡ true → (m : DiskNotes) × (n ≡ Some m) × (both_name (lv_of ask) (group_of ask) m ≡ true)
  names_of d None h = absurd cc
  names_of d (Some m) h = (m, refl, h)

  named : IsTrue (v.is_active q.lv) → IsTrue q.several → (e : Pp) (stage : Stage) → q.targets e ≡ Some stage
      → IsTrue (v.home_note e.disk q.lv (track_group_of q.first)) × ((n : Groups) → v.flying_note e.disk ≡ Some n → IsTrue (n q.lv (track_group_of q.first)))
  named active several e stage is =
      let m : mode_of core ask ≡ mode.Active = active_mode (mode_of core ask) (sym (active_is past s tied ask inside) ∙ ap v.is_active (sym sees.lv) ∙ active) in
      let its = recorded (sym sees.several ∙ several) in
      let all : list_all (λ (u : Target). is_named core.cache u.pp.disk (lv_of ask) (group_of ask)) ts ≡ true = subst (λ (x : Mode). has_names core x o.request ≡ true) m its.0 in
      let one = (listed e stage is).0 in
      let target = target_of ts e one in
      let on_disk : is_named core.cache e.disk (lv_of ask) (group_of ask) ≡ true = subst (λ (p : Pp). is_named core.cache p.disk (lv_of ask) (group_of ask) ≡ true) target.2 (all_one (λ (u : Target). is_named core.cache u.pp.disk (lv_of ask) (group_of ask)) ts target.0 all target.1) in
      let notes = names_of e.disk (notes_on core.cache e.disk) on_disk in
      let both = and_parts (names_group notes.0.written.items (lv_of ask) (group_of ask)) (option_map_or (λ (flight : ArrayVec NoteEntry). names_group flight.items (lv_of ask) (group_of ask)) notes.0.flight true) notes.2 in
      let flight_is : flight_on core.cache e.disk ≡ notes.0.flight = ap (λ (x : Option DiskNotes). option_and_then (λ (n : DiskNotes). n.flight) x) notes.1 in (
        (λ t. v.home_note e.disk (sees.lv t) (track_group_of (sees.first t))) ∙ tied.sees.notes.home e.disk (lv_of ask) (group_of ask) notes.0 (there_too e (aim_of e one)) notes.1 ∙ both.0,
        λ n flies. (λ t. n (sees.lv t) (track_group_of (sees.first t))) ∙ in_flight n notes.0.flight both.1 (subst (λ x. SeesNote x notes.0.flight) flies (subst (SeesNote (v.flying_note e.disk)) flight_is (tied.sees.notes.flying e.disk))),
      )
    where
      in_flight : (n : Groups) (f : Option (ArrayVec NoteEntry)) → option_map_or (λ (flight : ArrayVec NoteEntry). names_group flight.items (lv_of ask) (group_of ask)) f true ≡ true → SeesNote (Some n) f → IsTrue (n (lv_of ask) (group_of ask))
      in_flight n None h none = absurd none
      in_flight n (Some f) h same = same (lv_of ask) (group_of ask) ∙ h

  dirty : IsTrue (v.is_passive q.lv) → IsTrue q.several → IsTrue (v.committed.value.dirty q.lv)
  dirty passive several =
      let m : mode_of core ask ≡ mode.Passive = passive_mode (mode_of core ask) (sym (passive_is past s tied ask inside) ∙ ap v.is_passive (sym sees.lv) ∙ passive) in
      let its = recorded (sym sees.several ∙ several) in
      let mark = subst (λ (x : Mode). has_dirty_mark core x o.request ≡ true) m its.1 in
      let both = and_parts (calls_dirty core.status.committed (lv_of ask)) _ mark in
      ap (λ (x : Marks). x.dirty q.lv) tied.sees.status.committed ∙ ap (calls_dirty core.status.committed) sees.lv ∙ both.0

  pub may_start : MayStartWrite v (place_of o.request.id) q t.pp
  may_start = record {
    there = there;
    write = sees.write ∙ writes;
    ready = ready;
    target = to_do t.pp (its_pp ts number t aim).0;
    unstarted = λ e stage is. (listed e stage is).1;
    source = source.0;
    source_copy = source.1;
    source_usable = source.2;
    usable = λ e stage is. counts_seen e (aim_of e (listed e stage is).0);
    each = each;
    quiet = quiet;
    named = named;
    dirty = dirty;
    single = λ few e f x y at too. few_same ts e f (sym sees.several ∙ few) (listed e x at).0 (listed f y too).0;
  }

-- A move that is closed, tied: its destination is no copy of the state then.
use Rattle.std.proofs.Common.{◌≡◌, ◌⊎◌, inl, inr, ⊎_elim, ℕ, Bool, true, false, ◌&&◌, ◌||◌, not, if◌then◌else◌, List, [], ◌∷◌, Option, Some, None, refl, sym, ap, subst, ◌∙◌}
use Rattle.std.specs.Prelude.{IsTrue, IsFalse, is_none, unwrap_or}
use Rattle.std.specs.Option.{option_map, option_map_or}
use Rattle.std.proofs.lemmas.Bool.{and_parts}
use Rattle.lvm_num.specs.declared.descriptor.Descriptor.{Descriptor}
use Rattle.lvm_num.specs.declared.place.Pp.{Pp}
use Rattle.lvm_num.specs.declared.status.Status.{Status}
use Rattle.lvm_num.specs.Descriptor.{is_pp}
use Rattle.lvm_num.specs.Disks.{has}
use Rattle.lvm_num.specs.Record.{Stamped, stamp_lt}
use Rattle.lvm_num.specs.Status.{calls_stale}
use Rattle.lvm_num.proofs.Booleans.{clash_gives}
use Rattle.lvm_vol.specs.Facts.{Fact}
use Rattle.lvm_disk.specs.Device.{Flight, image_of}
use Rattle.lvm_kept.specs.Contents.{Contents, contents_of}
use Rattle.lvm_session.specs.declared.bringing.OpenCopy.{OpenCopy}
use Rattle.lvm_session.specs.declared.bringing.CopyEnd.{CopyEnd}
use Rattle.lvm_session.specs.declared.flown.Flown.{Flown}
use Rattle.lvm_session.specs.declared.flown.Owner.{Owner}
use Rattle.lvm_session.specs.declared.flown.Owner.TheVariants as owner
use Rattle.lvm_session.specs.declared.answers.CopyState.{CopyState}
use Rattle.lvm_session.specs.declared.answers.CopyState.TheVariants as copy
use Rattle.lvm_session.specs.State.{Core, State, state}
use Rattle.lvm_session.specs.Judging.{is_held_stale, is_move_done, is_running, is_stale, is_under_way, is_wanted_stale, stays_fresh}
use Rattle.lvm_session.specs.Bringing.{groups_of, has_row, is_out, is_whole}
use Rattle.lvm_session.specs.Calls.{closed, copy_state, is_still_aimed, state_at_end, state_of_copy}
use Rattle.lvm_session.specs.Sound.{IsGoing, IsSound}
use Rattle.lvm_invariant.specs.State.{Beside, Marks, ModelCopy, ModelState}
use Rattle.lvm_invariant.specs.Found.{HasIt}
use Rattle.lvm_invariant.specs.Good.{Good}
use Rattle.lvm_crash.specs.Session.{Describes, as_marks, is_beside, marks_of, marks_shown}
use Rattle.lvm_crash.proofs.WritingLemmas.{same_pp}
use Rattle.lvm_places.specs.Places.{Marking, SeesRecords}
use Rattle.lvm_places.specs.Laws.{AgreesBut, Goes, gone}
use Rattle.lvm_places.proofs.LawsLemmas.{place_goes}
use Rattle.lvm_places.proofs.DescribedLemmas.{gone_is_described}
use Rattle.lvm_tie.specs.Out.{CarriesStep, CarryTheirs}
use Rattle.lvm_tie.specs.Seen.{IsRequestAt, IsStepAt, Sees, SeesCopy, SeesRunning, its_blocks, step_write_in, update_of}
use Rattle.lvm_tie.specs.Tied.{IsTied}
use Rattle.lvm_tie.proofs.StateLemmas.{beside_is_stale, stale_seen, wanted_seen}
use Rattle.lvm_tie.proofs.SeenLemmas.Beside.{destination_beside, moving_beside, stale_apart}
use Rattle.lvm_tie.proofs.TiedLemmas.Orderly.{orderly_same}
use Rattle.lvm_tie.proofs.TiedLemmas.Recorded.{shown_of, shows_own, shows_update}
use Rattle.lvm_tie.proofs.NearLemmas.{no_write as step_none}
use Rattle.lvm_tie.proofs.AmongLemmas.{not_true}

-- a move that isn't running by what a caller sees has ended or is done, and nothing of it is out
pub record IsLeft (core : Core) (c : OpenCopy) : Type 0 where
  pub still : is_out c.step ≡ false
  pub over : (is_running c ≡ false) ⊎ (is_move_done core c ≡ true)

is_left : (core : Core) (c : OpenCopy) → ((cursor : ℕ) → state_of_copy core c ≡ copy.Running cursor → ⊥) → IsLeft core c
is_left core c ended = by (is_out c.step) (is_still_aimed core c) (is_move_done core c) c.end refl refl refl refl
  where
    told : Bool → Bool → Bool → Option CopyEnd → CopyState
    told out aimed done end = if out || aimed then copy.Running c.cursor else if done then copy.Done else option_map_or (state_at_end c) end (copy.Running c.cursor)

    shown : (out aimed done : Bool) (end : Option CopyEnd) → is_out c.step ≡ out → is_still_aimed core c ≡ aimed → is_move_done core c ≡ done → c.end ≡ end → state_of_copy core c ≡ told out aimed done end
    shown out aimed done end a b d e =
        ap (λ x. told x (is_still_aimed core c) (is_move_done core c) c.end) a ∙ ap (λ x. told out x (is_move_done core c) c.end) b ∙ ap (λ x. told out aimed x c.end) d ∙ ap (told out aimed done) e

    by : (out aimed done : Bool) (end : Option CopyEnd) → is_out c.step ≡ out → is_still_aimed core c ≡ aimed → is_move_done core c ≡ done → c.end ≡ end → IsLeft core c
    by true aimed done end a b d e = absurd (ended c.cursor (shown true aimed done end a b d e))
    by false true done end a b d e = absurd (ended c.cursor (shown false true done end a b d e))
    by false false true end a b d e = record { still = a; over = inr d }
    by false false false None a b d e = absurd (ended c.cursor (shown false false false None a b d e))
    by false false false (Some how) a b d e = record { still = a; over = inl (ap is_none e) }

module _ (past : List Fact) (s : State) (tied : IsTied past s) (ended : (cursor : ℕ) → copy_state s.core ≡ copy.Running cursor → ⊥) (sound : IsSound (state s.device (closed s.core)))
    (c : OpenCopy) (is : s.core.copy ≡ Some c) (moves : c.moves ≡ true) where
  abbrev core : Core
  core = s.core

  abbrev v : ModelState
  v = tied.view

  abbrev group : Descriptor
  group = core.descriptor

  abbrev shown : Contents
  shown = contents_of (image_of s.device.sizes tied.media)

  abbrev to : Pp
  to = c.pp

  left : IsLeft core c
  left = is_left core c (λ cursor h. ended cursor (ap (λ (m : Option OpenCopy). option_map_or (state_of_copy core) m copy.Closed) is ∙ h))

  going : IsGoing core
  going = (tied.orderly.sound.on tied.orderly.on).going

  abbrev o : Beside
  o = record { place = c.pp; its = its_blocks core c }

  beside : v.beside ≡ Some o
  beside = moving_beside core c v.beside tied.sees.beside is moves

  off_beside : (p : Pp) → IsFalse (is_pp p to) → is_beside v.beside p ≡ false
  off_beside p off = ap (λ (m : Option Beside). is_beside m p) beside ∙ off

  -- its staleness is wanted where it stands or is in flight
  settled : is_held_stale core to ≡ true → is_wanted_stale core to ≡ true
  settled held = by (is_wanted_stale core to) refl
    where
      none : {X : Type 0} → is_running c && is_whole core c && is_pp to c.pp ≡ true → X
      none clearing = ⊎_elim
          (λ over. clash_gives (is_running c) (and_parts (is_running c) (is_whole core c) (and_parts (is_running c && is_whole core c) (is_pp to c.pp) clearing).0).0 over)
          (λ done.
          let fresh = (and_parts (c.moves && is_running c && is_whole core c) (stays_fresh core c.pp) (and_parts (c.moves && is_running c && is_whole core c && stays_fresh core c.pp) (not (is_under_way core c)) done).0).1 in
          clash_gives (is_held_stale core to) held (not_true (is_held_stale core to) (and_parts (not (is_held_stale core c.pp)) (not (is_wanted_stale core c.pp)) fresh).0))
          left.over

      by : (b : Bool) → is_wanted_stale core to ≡ b → is_wanted_stale core to ≡ true
      by true wanted = wanted
      by false unwanted = none (sym (ap (λ (m : Option OpenCopy). option_map_or (λ (x : OpenCopy). is_running x && is_whole core x && is_pp to x.pp) m false) is) ∙ going.clearings to held unwanted)

  no_row : has_row core c ≡ false
  no_row = by left.over
    where
      by : (is_running c ≡ false) ⊎ (is_move_done core c ≡ true) → has_row core c ≡ false
      by (inl over) = λ t. left.still t || (over t && not (is_whole core c))
      by (inr done) =
          let all = (and_parts (c.moves && is_running c) (is_whole core c) (and_parts (c.moves && is_running c && is_whole core c) (stays_fresh core c.pp) (and_parts (c.moves && is_running c && is_whole core c && stays_fresh core c.pp) (not (is_under_way core c)) done).0).0).1 in
          (λ t. left.still t || (is_running c && not (all t))) ∙ none_runs (is_running c)
        where
          none_runs : (b : Bool) → b && false ≡ false
          none_runs true = refl
          none_runs false = refl

  -- ---- the marks as they stand

  abbrev k : Marking
  k = record {
    status = λ d. marks_shown None group.id (shown.status d);
    committed = record { stamp = v.committed.stamp; value = marks_of None core.status.committed };
    in_flight = option_map (as_marks None) (update_of core.status);
    wanted = marks_of None core.status.wanted;
  }

  abbrev w : ModelState
  w = gone v to k

  -- the update in flight, as it is seen
  flown : (u : Stamped Status) → update_of core.status ≡ Some u → v.in_flight ≡ Some (as_marks v.beside u)
  flown u flies = tied.sees.status.in_flight ∙ ap (option_map (as_marks v.beside)) flies

  agrees : AgreesBut v to k
  agrees = record {
    committed = λ p off. sym (stale_seen past s tied p (off_beside p off));
    dirty = λ lv. sym (ap (λ (m : Marks). m.dirty lv) tied.sees.status.committed);
    flying = λ u flies. by_flight u (update_of core.status) refl flies;
    none = λ none. by_none (update_of core.status) refl none;
  }
    where
      by_flight : (u : Stamped Marks) (m : Option (Stamped Status)) → update_of core.status ≡ m → option_map (as_marks None) m ≡ Some u
          → (x : Stamped Marks) × (v.in_flight ≡ Some x) × ((p : Pp) → IsFalse (is_pp p to) → u.value.stale p ≡ x.value.stale p) × ((lv : ℕ) → u.value.dirty lv ≡ x.value.dirty lv)
      by_flight u None none e = absurd (cc e)
      by_flight u (Some r) some e =
          let it : as_marks None r ≡ u = cc e in (
            as_marks v.beside r,
            flown r some,
            λ p off. ap (λ (m : Stamped Marks). m.value.stale p) (sym it) ∙ sym (stale_apart v.beside r.value p (off_beside p off)),
            λ lv. ap (λ (m : Stamped Marks). m.value.dirty lv) (sym it),
          )

      by_none : (m : Option (Stamped Status)) → update_of core.status ≡ m → option_map (as_marks None) m ≡ None → v.in_flight ≡ None
      by_none None none e = tied.sees.status.in_flight ∙ ap (option_map (as_marks v.beside)) none
      by_none (Some r) some e = absurd (cc e)

  -- what is under the stamp of the committed status is that status
  one_shown : (d : ℕ) (r : Stamped Status) → shown.status d ≡ Some r → r.value.id ≡ group.id → as_marks v.beside r ≡ v.committed → as_marks None r ≡ k.committed
  one_shown d r stands own same =
      let stamp : r.stamp ≡ v.committed.stamp = ap (λ (m : Stamped Marks). m.stamp) same in
      let value = tied.recorded.committed.stands d r stands own stamp in
      λ t. record { stamp = stamp t; value = marks_of None (value t) }

  one_flies : (u : Stamped Status) → update_of core.status ≡ Some u → as_marks v.beside u ≡ v.committed → as_marks None u ≡ k.committed
  one_flies u flies same =
      let stamp : u.stamp ≡ v.committed.stamp = ap (λ (m : Stamped Marks). m.stamp) same in
      let value = tied.recorded.committed.flies u flies stamp in
      λ t. record { stamp = stamp t; value = marks_of None (value t) }

  -- a disk that shows the marks of the update shows it
  is_update : (u : Stamped Status) (d : ℕ) (r : Stamped Status) → update_of core.status ≡ Some u → shown.status d ≡ Some r → r.value.id ≡ group.id → as_marks v.beside r ≡ as_marks v.beside u → r ≡ u
  is_update u d r flies stands own same = tied.describes.shown.statuses.new u d r flies stands (own ∙ sym (tied.describes.shown.statuses.own u flies)) (ap (λ (m : Stamped Marks). m.stamp) same)

  has_update : (x : Stamped Marks) → v.in_flight ≡ Some x → (u : Stamped Status) × (update_of core.status ≡ Some u) × (as_marks v.beside u ≡ x)
  has_update x flies = by (update_of core.status) refl (sym tied.sees.status.in_flight ∙ flies)
    where
      by : (m : Option (Stamped Status)) → update_of core.status ≡ m → option_map (as_marks v.beside) m ≡ Some x → (u : Stamped Status) × (update_of core.status ≡ Some u) × (as_marks v.beside u ≡ x)
      by None none e = absurd (cc e)
      by (Some u) some e = (u, some, let it : as_marks v.beside u ≡ x = cc e in it)

  records : SeesRecords v w
  records = record {
    have = have;
    only = only;
    newer = λ u flies. newer u (update_of core.status) refl flies;
  }
    where
      shown_now : (d : ℕ) (r : Stamped Status) → shown.status d ≡ Some r → r.value.id ≡ group.id → w.media.status d ≡ Some (as_marks None r)
      shown_now d r stands own = ap (marks_shown None group.id) stands ∙ shows_own None group.id r own

      have : (d : ℕ) → HasIt v d → HasIt w d
      have d (inl same) =
          let r = shown_of v.beside group.id (shown.status d) v.committed (sym (tied.describes.shown.status d) ∙ same) in
          inl (shown_now d r.0 r.1 r.2 ∙ ap (λ (m : Stamped Marks). Some m) (one_shown d r.0 r.1 r.2 r.3))
      have d (inr x) =
          let r = shown_of v.beside group.id (shown.status d) x.0 (sym (tied.describes.shown.status d) ∙ x.2) in
          let u = has_update x.0 x.1 in
          let it = is_update u.0 d r.0 u.1 r.1 r.2 (r.3 ∙ sym u.2) in
          inr (as_marks None u.0, ap (option_map (as_marks None)) u.1, shown_now d r.0 r.1 r.2 ∙ ap (λ (y : Stamped Status). Some (as_marks None y)) it)

      only : (d : ℕ) (r : Stamped Marks) → w.media.status d ≡ Some r → (stamp_lt r.stamp k.committed.stamp ≡ true) ⊎ (r ≡ k.committed) ⊎ (k.in_flight ≡ Some r)
      only d r stands =
          let x = shown_of None group.id (shown.status d) r stands in
          ⊎_elim
          (λ (before : stamp_lt x.0.stamp v.committed.stamp ≡ true). inl (ap (λ (m : Stamped Marks). stamp_lt m.stamp v.committed.stamp) (sym x.3) ∙ before))
          (λ (rest : (as_marks v.beside x.0 ≡ v.committed) ⊎ (v.in_flight ≡ Some (as_marks v.beside x.0))). inr (⊎_elim
          (λ (same : as_marks v.beside x.0 ≡ v.committed). inl (sym x.3 ∙ one_shown d x.0 x.1 x.2 same))
          (λ (flies : v.in_flight ≡ Some (as_marks v.beside x.0)).
          let u = has_update (as_marks v.beside x.0) flies in
          let it = is_update u.0 d x.0 u.1 x.1 x.2 (sym u.2) in
          inr (ap (option_map (as_marks None)) u.1 ∙ ap (λ (y : Stamped Status). Some (as_marks None y)) (sym it) ∙ ap (λ (m : Stamped Marks). Some m) x.3))
          rest))
          (tied.good.found.only d (as_marks v.beside x.0) (tied.describes.shown.status d ∙ ap (marks_shown v.beside group.id) x.1 ∙ shows_own v.beside group.id x.0 x.2))

      newer : (u : Stamped Marks) (m : Option (Stamped Status)) → update_of core.status ≡ m → option_map (as_marks None) m ≡ Some u → (stamp_lt k.committed.stamp u.stamp ≡ true) ⊎ (u ≡ k.committed)
      newer u None none e = absurd (cc e)
      newer u (Some y) some e =
          let it : as_marks None y ≡ u = cc e in
          ⊎_elim
          (λ (later : stamp_lt v.committed.stamp y.stamp ≡ true). inl (ap (λ (m : Stamped Marks). stamp_lt v.committed.stamp m.stamp) (sym it) ∙ later))
          (λ (same : as_marks v.beside y ≡ v.committed). inr (sym it ∙ one_flies y some same))
          (tied.good.found.newer (as_marks v.beside y) (flown y some))

  own : (x : ModelCopy) → v.open_copy ≡ Some x → IsTrue (is_pp x.target to)
  own x at = by (is_running c) (subst (λ (m : Option OpenCopy). SeesCopy (groups_of core) m v.open_copy) is tied.sees.open_copy)
    where
      by : (b : Bool) → SeesRunning b (groups_of core) c v.open_copy → IsTrue (is_pp x.target to)
      by true sees = same_pp x.target to (ap (λ (y : ModelCopy). y.target) (let e : Some x ≡ Some sees.copy = sym at ∙ sees.is_open in let same : x ≡ sees.copy = cc in same) ∙ sees.target)
      by false none = absurd (let e : Some x ≡ None = sym at ∙ none in cc)

  goes : Goes v to k
  goes = record {
    stale = beside_is_stale past s tied to (destination_beside core c v.beside tied.sees.beside is moves);
    own = own;
    agrees = agrees;
    wanted = λ p off. sym (wanted_seen past s tied p (off_beside p off));
    wanted_dirty = λ lv. sym (ap (λ (m : Marks). m.dirty lv) tied.sees.status.wanted);
    stays = λ stale. settled (ap (λ b. b || calls_stale (unwrap_or core.status.in_flight core.status.committed) to) stale);
    flies = λ u flies stale. by u core.status.in_flight refl flies stale;
    records = records;
  }
    where
      or_so : (a b : Bool) → b ≡ true → a || b ≡ true
      or_so true b h = refl
      or_so false b h = h

      by : (u : Stamped Marks) (m : Option Status) → core.status.in_flight ≡ m → option_map (as_marks None) (option_map (λ (t : Status). let r : Stamped Status = record { stamp = core.status.stamp; value = t } in r) m) ≡ Some u
          → IsTrue (u.value.stale to) → is_wanted_stale core to ≡ true
      by u None none e stale = absurd (cc e)
      by u (Some t) some e stale =
          let it : as_marks None (record { stamp = core.status.stamp; value = t }) ≡ u = cc e in
          settled (or_so (is_stale core to) (calls_stale (unwrap_or core.status.in_flight core.status.committed) to)
          (ap (λ (m : Option Status). calls_stale (unwrap_or m core.status.committed) to) some ∙ ap (λ (m : Stamped Marks). m.value.stale to) it ∙ stale))

  good : Good tied.votes w
  good = place_goes tied.votes v to k goes tied.good

  describes : Describes w w.facts group (update_of core.status) shown
  describes = gone_is_described v v.facts group (update_of core.status) shown o k beside (λ d. refl) refl tied.describes

  -- ---- the tie

  sees : Sees past (closed core) w
  sees = record {
    queue = record {
      requests = tied.sees.queue.requests;
      a_step = λ d at. absurd (cc at);
      only = λ j q at. ⊎_elim
          (λ (r : IsRequestAt core j). inl r)
          (λ (r : IsStepAt core j).
          let same : r.copy ≡ c = (let e : Some r.copy ≡ Some c = sym r.is_open ∙ is in cc) in
          clash_gives (has_row core c) (ap (has_row core) (sym same) ∙ r.row) no_row)
          (tied.sees.queue.only j q at);
      names = tied.sees.queue.names;
    };
    facts = tied.sees.facts;
    status = record {
      committed = refl;
      in_flight = refl;
      wanted = refl;
      started = tied.sees.status.started;
      written = λ d had. written d had core.status.in_flight refl;
      held = λ u flies enough. sym (one_flies u flies (sym (tied.sees.status.held u flies enough)));
      missing = tied.sees.status.missing;
    };
    notes = tied.sees.notes;
    open_copy = refl;
    step_write = tied.sees.step_write ∙ ap step_write_in is ∙ step_none c c.step left.still;
    beside = refl;
  }
    where
      written : (d : ℕ) → has core.status.writes.written d ≡ true → (m : Option Status) → core.status.in_flight ≡ m → w.media.status d ≡ k.in_flight
      written d had None none = clash_gives (has core.status.writes.written d) had (going.status.idle none d).2
      written d had (Some t) some =
          let u : Stamped Status = record { stamp = core.status.stamp; value = t } in
          let flies : update_of core.status ≡ Some u = ap (option_map (λ (y : Status). let r : Stamped Status = record { stamp = core.status.stamp; value = y } in r)) some in
          let stands = shows_update v v.facts group u shown (subst (λ (m : Option (Stamped Status)). Describes v v.facts group m shown) flies tied.describes) d (tied.sees.status.written d had ∙ flown u flies) in
          ap (marks_shown None group.id) stands ∙ shows_own None group.id u (tied.describes.shown.statuses.own u flies) ∙ sym (ap (option_map (as_marks None)) flies)

  carry_none : (fs : List Flight) (rows : List Flown) → CarryTheirs (closed core) w fs rows
  carry_none [] rows = tt
  carry_none (f ∷ fs) [] = tt
  carry_none (f ∷ fs) (row ∷ rows) = (by row.owner, carry_none fs rows)
    where
      by : (who : Owner) → CarriesStep (closed core) w f who
      by (owner.Data id n) = tt
      by (owner.Status disk) = tt
      by (owner.Note disk) = tt
      by owner.Copy = λ d q at. absurd (cc at)

  pub move_closes : IsTied past (state s.device (closed core))
  move_closes = record {
    votes = tied.votes;
    media = tied.media;
    setting = tied.setting;
    view = w;
    sees = sees;
    good = good;
    describes = describes;
    write = tied.write;
    orderly = orderly_same s (state s.device (closed core)) tied.write tied.orderly sound refl refl refl;
    since = tied.since;
    recorded = tied.recorded;
    notes = tied.notes;
    copy_aimed = λ d at. absurd (cc at);
    carry = carry_none s.device.flights core.flying;
  }

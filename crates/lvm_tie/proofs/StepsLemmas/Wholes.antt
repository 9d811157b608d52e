-- The write by which a copy is brought up ends well, and all is copied: its clearing is wanted.
use Rattle.std.proofs.Common.{◌≡◌, ◌⊎◌, inl, inr, ⊎_elim, ℕ, ◌+◌, ◌*◌, ◌/◌, ◌%◌, ◌<◌, ◌≤◌, Bool, true, false, ◌&&◌, ◌||◌, ◌==◌, not, if◌then◌else◌, List, Option, Some, None, refl, sym, ap, subst, ◌∙◌, arith}
use Rattle.std.specs.Prelude.{IsTrue, IsFalse, nat_le, nat_lt, slice_get, slice_set}
use Rattle.std.specs.List.{list_any, range_with_len}
use Rattle.std.proofs.lemmas.Bool.{cases_eq, and_parts}
use Rattle.std.proofs.lemmas.Bool.Decides.{nat_tests}
use Rattle.lvm_num.specs.declared.descriptor.LvRow.{LvRow}
use Rattle.lvm_num.specs.declared.place.Pp.{Pp}
use Rattle.lvm_num.specs.declared.status.Status.{Status}
use Rattle.lvm_num.specs.Descriptor.{copies_of, is_pp}
use Rattle.lvm_num.specs.Geometry.{partition_blocks, track_group_of}
use Rattle.lvm_num.specs.Note.{IsNote}
use Rattle.lvm_num.specs.Record.{Stamped}
use Rattle.lvm_num.specs.Status.{calls_stale}
use Rattle.lvm_num.proofs.Booleans.{and_true, clash_gives}
use Rattle.lvm_vol.specs.Facts.{Fact}
use Rattle.lvm_disk.specs.Device.{HasSectors, image_of}
use Rattle.lvm_kept.specs.Group.{IsOneOf}
use Rattle.lvm_num.proofs.AmongLemmas.{of_range, one_any}
use Rattle.lvm_session.proofs.MovesLemmas.{stale_of}
use Rattle.lvm_map.proofs.Parts.{whole}
use Rattle.lvm_map.proofs.PlacesLemmas.{mib_positive}
use Rattle.lvm_status.specs.Table.{SameMissing}
use Rattle.lvm_status.specs.Calls.{BecomesFresh}
use Rattle.lvm_status.specs.Runs.{IsSoundStatus}
use Rattle.lvm_status.specs.Update.{Stored, Updates, no_disks, seen}
use Rattle.lvm_session.specs.declared.bringing.OpenCopy.{OpenCopy}
use Rattle.lvm_session.specs.declared.bringing.CopyEnd.{CopyEnd}
use Rattle.lvm_session.specs.declared.bringing.CopyEnd.TheVariants as ending
use Rattle.lvm_session.specs.State.{Core, State, state}
use Rattle.lvm_session.specs.Judging.{stays_fresh, is_missing, is_running, is_stale, is_usable, is_wanted_stale, place_of}
use Rattle.lvm_session.specs.Bringing.{copy_ends, end_by_sources, ends_if, groups_of, has_row, is_cleared, is_whole, marked_by_end, with_end}
use Rattle.lvm_session.specs.Ends.{CopyStepsOn, with_copy}
use Rattle.lvm_session.specs.Marks.{Reviews, WantsFresh, can_replace, is_among, is_entailed, is_entailed_in, is_left_behind}
use Rattle.lvm_session.specs.Sound.{IsSound}
use Rattle.lvm_keeps_events.specs.GroupEnds.{EndsGroup}
use Rattle.lvm_invariant.specs.State.{Marks, Queued, ModelState}
use Rattle.lvm_invariant.specs.Clear.{Clears}
use Rattle.lvm_invariant.specs.Events.{Clear}
use Rattle.lvm_invariant.specs.Sound.{Complete}
use Rattle.lvm_crash.specs.Session.{Describes, is_beside, marks_of}
use Rattle.lvm_crash.specs.Owned.{OnlyUpdateSince}
use Rattle.lvm_tie.proofs.SeenLemmas.Beside.{copy_apart, destination_beside}
use Rattle.lvm_crash.proofs.WritingLemmas.{pp_same}
use Rattle.lvm_tie.specs.Seen.{Sees, SeesRunning, passed_by, update_of}
use Rattle.lvm_tie.specs.Tied.{IsTied}
use Rattle.lvm_tie.proofs.StateLemmas.{IsOfItsPartition, among_one, copy_is, its_only}
use Rattle.lvm_tie.proofs.TiedLemmas.Orderly.{valid_of}
use Rattle.lvm_tie.proofs.BringingLemmas.{groups_are}
use Rattle.lvm_tie.proofs.OutLemmas.Wanted.{next_same, records_wanted, sees_wanted, stamp_same, stays_open, update_same, write_same, one_wanted}
use Rattle.lvm_tie.proofs.AmongLemmas.{any_one, not_true, or_either, and_false}
use Rattle.lvm_tie.proofs.StepsLemmas.Leaving.{Stands, gone, gone_here, gone_there, quiet}
use Rattle.lvm_tie.proofs.StepsLemmas.Landed.{HasLanded, ended, now, q, since}
use Rattle.lvm_tie.proofs.StepsLemmas.Stepped.{IsStepped, apart, carry_none, sees_stepped}
use Rattle.lvm_tie.proofs.StepsLemmas.Passing.{d, goes, its, landed, left, less, mid, o2, part, so_within, stale, stands_left, there}

-- ---- what is wanted

-- an update in flight of a sound status isn't over, so that where a partition becomes fresh nothing but what is wanted changes
fresh_rest : (p : Pp) (old new : Stored) → IsSoundStatus (seen old) → WantsFresh p old new → seen new ≡ record (seen old) { wanted = new.wanted }
fresh_rest p old new sound wants =
    wants.rest ∙ ap (λ b. if b then record (seen old) { wanted = new.wanted; in_flight = None; unstarted = no_disks; started = no_disks; written = no_disks; failed = no_disks } else record (seen old) { wanted = new.wanted }) (stays_open (seen old) sound)

module _ (past : List Fact) (old new : State) (at : ℕ) (tied : IsTied past old) (sound : IsSound new) (sectors : HasSectors new.device) (event : EndsGroup old new at)
    (full : is_whole old.core (d past old new at tied sectors event) ≡ true) where
  abbrev core : Core
  core = old.core

  abbrev v : ModelState
  v = tied.view

  abbrev c : OpenCopy
  c = event.copy

  -- the copy, with all behind it
  abbrev e : OpenCopy
  e = d past old new at tied sectors event

  abbrev status : Stored
  status = event.passes.on.status

  abbrev core2 : Core
  core2 = with_copy (mid past old new at tied sectors event) e

  abbrev on : Core
  on = record core2 { status = status }

  goes_on : WantsFresh c.pp core.status status × (event.passes.on ≡ on)
  goes_on = by (is_whole core e) full (goes past old new at tied sectors event)
    where
      by : (b : Bool) → b ≡ true → CopyStepsOn b (mid past old new at tied sectors event) e event.passes.on → WantsFresh c.pp core.status status × (event.passes.on ≡ on)
      by true is its = its
      by false is its = absurd (cc is)

  fresher : BecomesFresh c.pp core.status.wanted status.wanted
  fresher = goes_on.0.wants

  rest : seen status ≡ record (seen core.status) { wanted = status.wanted }
  rest = fresh_rest c.pp core.status status (tied.orderly.sound.on tied.orderly.on).going.status goes_on.0

  reviews : Reviews on new.core
  reviews = subst (λ (x : Core). Reviews x new.core) goes_on.1 event.passes.reviews

  -- ---- nothing more follows

  stale_same : (p : Pp) → is_stale on p ≡ is_stale core p
  stale_same p = ap (λ (u : Updates). calls_stale u.committed p) rest

  missing_same : (disk : ℕ) → is_missing on disk ≡ is_missing core disk
  missing_same disk = fresher.missing disk

  -- what is wanted stale is what was, but for its own partition
  other_wanted : (p : Pp) → is_pp p c.pp ≡ false → is_wanted_stale on p ≡ is_wanted_stale core p
  other_wanted p other = fresher.stale p ∙ ap (λ b. is_wanted_stale core p && not b) other ∙ and_true (is_wanted_stale core p)

  -- its partition is stale, or no copy of the group where it moves
  own_stale : c.moves ≡ false → is_stale core c.pp ≡ true
  own_stale stays = (and_parts (is_stale core c.pp) _ ((stale_of core c (copy_is past old tied c event.is_open) stays).stale event.runs (part past old new at tied sectors event)).0).0

  -- so a copy that is fresh is another
  fresh_other : (row : LvRow) (lp : ℕ) (p : Pp) → IsOneOf core.descriptor.lvs row → lp < row.lps → IsOneOf (copies_of row lp) p → is_stale core p ≡ false → is_pp p c.pp ≡ false
  fresh_other row lp p one low copy fresh = by (is_pp p c.pp) refl c.moves refl
    where
      by : (b : Bool) → is_pp p c.pp ≡ b → (m : Bool) → c.moves ≡ m → b ≡ false
      by false is m moves = refl
      by true is false stays = clash_gives (is_stale core p) (ap (is_stale core) (pp_same p c.pp is) ∙ own_stale stays) fresh
      by true is true moves = clash_gives (is_beside v.beside p) (ap (is_beside v.beside) (pp_same p c.pp is) ∙ destination_beside core c v.beside tied.sees.beside event.is_open moves)
          (copy_apart tied.describes.volumes row lp p one low copy)

  -- what missing disks entail then they entailed before
  entailed_was : (p : Pp) → is_entailed on p ≡ true → (is_entailed core p ≡ true) × (is_pp p c.pp ≡ false)
  entailed_was p is =
      let row = any_one (λ (r : LvRow). is_entailed_in on r p) core.descriptor.lvs is in
      let lp = any_one (λ (n : ℕ). is_left_behind on (copies_of row.0 n) p) (range_with_len 0 row.0.lps) row.2 in
      let low : lp.0 < row.0.lps = (let r = of_range 0 row.0.lps lp.0 lp.1 in omega (arith, r)) in
      let copies = copies_of row.0 lp.0 in
      let a = and_parts (is_among copies p && not (is_stale on p) && is_missing on p.disk) (list_any (can_replace on) copies) lp.2 in
      let b = and_parts (is_among copies p && not (is_stale on p)) (is_missing on p.disk) a.0 in
      let d2 = and_parts (is_among copies p) (not (is_stale on p)) b.0 in
      let q = any_one (can_replace on) copies a.1 in
      let f = and_parts (is_usable on q.0) (not (is_wanted_stale on q.0)) q.2 in
      let g = and_parts (not (is_stale on q.0)) (not (is_missing on q.0.disk)) f.0 in
      let q_fresh : is_stale core q.0 ≡ false = sym (stale_same q.0) ∙ not_true (is_stale on q.0) g.0 in
      let q_there : is_missing core q.0.disk ≡ false = sym (missing_same q.0.disk) ∙ not_true (is_missing on q.0.disk) g.1 in
      let q_other = fresh_other row.0 lp.0 q.0 row.1 low q.1 q_fresh in
      let q_kept : is_wanted_stale core q.0 ≡ false = sym (other_wanted q.0 q_other) ∙ not_true (is_wanted_stale on q.0) f.1 in
      let can : can_replace core q.0 ≡ true = (λ t. (not (q_fresh t) && not (q_there t)) && not (q_kept t)) in
      let p_fresh : is_stale core p ≡ false = sym (stale_same p) ∙ not_true (is_stale on p) d2.1 in
      let p_gone : is_missing core p.disk ≡ true = sym (missing_same p.disk) ∙ b.1 in
      let any = one_any (can_replace core) copies q.0 q.1 can in
      let left_behind : is_left_behind core copies p ≡ true = (let among = d2.0 in λ t. among t && not (p_fresh t) && p_gone t && any t) in
      let in_row : is_entailed_in core row.0 p ≡ true = one_any (λ (n : ℕ). is_left_behind core (copies_of row.0 n) p) (range_with_len 0 row.0.lps) lp.0 lp.1 left_behind in
      (one_any (λ (r : LvRow). is_entailed_in core r p) core.descriptor.lvs row.0 row.1 in_row, fresh_other row.0 lp.0 p row.1 low (among_one copies p d2.0) p_fresh)

  entailed_wanted : (p : Pp) → is_entailed on p ≡ true → is_wanted_stale on p ≡ true
  entailed_wanted p is =
      let was_so = entailed_was p is in
      other_wanted p was_so.1 ∙ (tied.orderly.sound.on tied.orderly.on).going.behind p was_so.0

  no_end : copy_ends on ≡ None
  no_end =
      ap (λ b. if not b then None else if is_missing on c.pp.disk then Some ending.SyncFailed else if is_whole on e then ends_if (is_cleared on e) ending.Done else end_by_sources on e) event.runs
      ∙ ap (λ b. if b then Some ending.SyncFailed else if is_whole on e then ends_if (is_cleared on e) ending.Done else end_by_sources on e) (missing_same c.pp.disk ∙ there past old new at tied sectors event)
      ∙ ap (λ b. if b then ends_if (is_cleared on e) ending.Done else end_by_sources on e) full
      ∙ not_cleared c.moves refl
    where
      not_cleared : (m : Bool) → c.moves ≡ m → ends_if (is_cleared on e) ending.Done ≡ None
      not_cleared true moves = ap (λ b. ends_if (not b && stays_fresh on c.pp) ending.Done) moves
      not_cleared false stays = ap (λ b. ends_if (not b && stays_fresh on c.pp) ending.Done) stays
          ∙ ap (λ b. ends_if (not (b || calls_stale (Rattle.std.specs.Prelude.unwrap_or on.status.in_flight on.status.committed) c.pp) && not (is_wanted_stale on c.pp)) ending.Done) (stale_same c.pp ∙ own_stale stays)

  same : new.core.status ≡ status
  same = reviews.marks.same (λ p due. ⊎_elim
      (λ (entailed : is_entailed on p ≡ true). entailed_wanted p entailed)
      (λ marked. clash_gives (marked_by_end on (copy_ends on) p) marked (ap (λ (m : Option CopyEnd). marked_by_end on m p) no_end))
      (or_either (is_entailed on p) (marked_by_end on (copy_ends on) p) due))

  core_is : new.core ≡ on
  core_is = reviews.is ∙ ap (λ (m : Option CopyEnd). record (with_end on m) { status = new.core.status }) no_end ∙ ap (λ (s : Stored). record on { status = s }) same

  -- ---- it is complete

  abbrev group_mib : ℕ
  group_mib = core.descriptor.mib

  all_passed : (lv b : ℕ) → IsTrue (v.is_copy lv b c.pp) → passed_by (groups_of core) e lv (track_group_of b) ≡ true
  all_passed lv b copy =
      let some = mib_positive core.descriptor (valid_of old tied.write tied.orderly) in
      let its_part : IsOfItsPartition core c = its past old new at tied sectors event in
      let only = its_only past old tied c event.is_open lv b copy in
      let size : ℕ = partition_blocks group_mib in
      let low : b % size < size = omega arith in
      let all : b / size * size + b % size ≡ b = whole size b (omega arith) in
      let lp_is : b / size ≡ c.lp = only.1 in
      let product_lp : b / size * size ≡ c.lp * size = ap (λ n. n * size) lp_is in
      let groups : groups_of core ≡ 8 * group_mib = groups_are past old tied c its_part (less past old new at tied sectors event) in
      let product : groups_of core * c.lp ≡ 8 * group_mib * c.lp = ap (λ n. n * c.lp) groups in
      let enough : groups_of core ≤ c.cursor + 1 = (let h : not (nat_lt (c.cursor + 1) (groups_of core)) ≡ true = full in let k : nat_lt (c.cursor + 1) (groups_of core) ≡ false = not_true (nat_lt (c.cursor + 1) (groups_of core)) h in grind (arith, nat_tests)) in
      let b_is : b ≡ c.lp * size + b % size = omega (arith, all, product_lp) in
      let same_lv : (lv == c.lv) ≡ true = (let k : lv ≡ c.lv = only.0 in grind (arith, nat_tests)) in
      so_within (groups_of core * c.lp) (c.cursor + 1) (track_group_of b) (lv == c.lv) same_lv (omega (arith, b_is, product)) (omega (arith, b_is, product, low, groups, enough))

  abbrev was : ModelState
  was = left past old new at tied sectors event

  complete : Complete was c.pp
  complete = record { copy = o2 past old new at tied sectors event; is_open = refl; target = refl; passed = all_passed }

  abbrev marks : Marks
  marks = marks_of v.beside status.wanted

  seen_stale : (p : Pp) → v.wanted.stale p ≡ is_beside v.beside p || calls_stale core.status.wanted p
  seen_stale p = ap (λ (m : Marks). m.stale p) tied.sees.status.wanted

  -- but for itself, what is wanted stale is what was
  others_same : (p : Pp) → is_pp p c.pp ≡ false → marks.stale p ≡ v.wanted.stale p
  others_same p other = ap (λ b. is_beside v.beside p || b) (other_wanted p other) ∙ sym (seen_stale p)

  not_own : (p : Pp) → IsFalse (v.committed.value.stale p) → is_pp p c.pp ≡ false
  not_own p fresh = by (is_pp p c.pp) refl
    where
      by : (b : Bool) → is_pp p c.pp ≡ b → b ≡ false
      by false is = refl
      by true is = clash_gives (v.committed.value.stale p) (ap v.committed.value.stale (pp_same p c.pp is) ∙ stale past old new at tied sectors event) fresh

  clears : Clears was marks c.pp
  clears = record {
    complete = complete;
    stale = stale past old new at tied sectors event;
    still = still;
    added = λ p is. seen_stale p ∙ weaker (is_beside v.beside p) (calls_stale core.status.wanted p) (is_pp p c.pp) (sym (ap (λ b. is_beside v.beside p || b) (fresher.stale p)) ∙ is);
    still_dirty = λ lv is. ap (λ (ns : List ℕ). list_any (λ n. n == lv) ns) fresher.dirty ∙ sym (ap (λ (m : Marks). m.dirty lv) tied.sees.status.wanted) ∙ is;
    behind = λ lv b x y copy fresh missing other usable kept.
        let y_fresh : v.committed.value.stale y ≡ false = not_true (v.committed.value.stale y) (and_parts (not (v.committed.value.stale y)) (not (v.missing y.disk)) usable).0 in
        others_same x (not_own x fresh) ∙ tied.good.sound.behind.left_behind lv b x y copy fresh missing other usable (sym (others_same y (not_own y y_fresh)) ∙ kept);
  }
    where
      weaker : (x y z : Bool) → x || (y && not z) ≡ true → x || y ≡ true
      weaker true y z h = refl
      weaker false y z h = (and_parts y (not z) h).0

      still : (p : Pp) → IsTrue (v.wanted.stale p) → IsTrue (marks.stale p) ⊎ (p ≡ c.pp)
      still p is = by (is_pp p c.pp) refl
        where
          by : (b : Bool) → is_pp p c.pp ≡ b → IsTrue (marks.stale p) ⊎ (p ≡ c.pp)
          by true same_so = inr (pp_same p c.pp same_so)
          by false other = inl (others_same p other ∙ is)

  abbrev w : ModelState
  w = record was { wanted = marks }

  stands : Stands tied.votes core.descriptor (update_of core.status) (now past old new at event.row true event.buf tied event.returns event.own c event.is_open) w
  stands = by c.moves refl
    where
      -- the destination of a move counts as stale in any case, so that nothing changes as it is seen
      same_marks : c.moves ≡ true → (p : Pp) → marks.stale p ≡ v.wanted.stale p
      same_marks moves p = at_pp (is_pp p c.pp) refl
        where
          at_pp : (b : Bool) → is_pp p c.pp ≡ b → marks.stale p ≡ v.wanted.stale p
          at_pp false other = others_same p other
          at_pp true is =
              let beside : is_beside v.beside p ≡ true = ap (is_beside v.beside) (pp_same p c.pp is) ∙ destination_beside core c v.beside tied.sees.beside event.is_open moves in
              ap (λ b. b || calls_stale status.wanted p) beside ∙ sym (ap (λ b. b || calls_stale core.status.wanted p) beside) ∙ sym (seen_stale p)

      same_dirty : (lv : ℕ) → marks.dirty lv ≡ v.wanted.dirty lv
      same_dirty lv = ap (λ (ns : List ℕ). list_any (λ n. n == lv) ns) fresher.dirty ∙ sym (ap (λ (m : Marks). m.dirty lv) tied.sees.status.wanted)

      by : (m : Bool) → c.moves ≡ m → Stands tied.votes core.descriptor (update_of core.status) (now past old new at event.row true event.buf tied event.returns event.own c event.is_open) w
      by false stays = quiet tied.votes core.descriptor (update_of core.status) (now past old new at event.row true event.buf tied event.returns event.own c event.is_open) (Clear marks c.pp) was w (clears, refl) tt refl refl refl (stands_left past old new at tied sectors event)
      by true moves =
          let same : v.wanted ≡ marks = sym (λ t. record { stale = λ p. same_marks moves p t; dirty = λ lv. same_dirty lv t }) in
          subst (λ (m : Marks). Stands tied.votes core.descriptor (update_of core.status) (now past old new at event.row true event.buf tied event.returns event.own c event.is_open) (record was { wanted = m })) same
          (stands_left past old new at tied sectors event)

  -- ---- the tie

  abbrev step_q : Queued
  step_q = q past old new at event.row true event.buf tied event.returns event.own c event.is_open

  no_row : has_row core e ≡ false
  no_row = ap (λ b. is_running e && not b) full ∙ and_false (is_running e)

  stepped : IsStepped core v c e (gone v.queue c.place step_q) v.name (Some (o2 past old new at tied sectors event))
  stepped = record {
    rests = refl;
    same = record { moves = refl; lv = refl; lp = refl; pp = refl };
    queue_still = λ k p at_k. gone_there v.queue c.place step_q (place_of p.request.id) (apart past old new at event.row true event.buf tied event.returns event.own c event.is_open k p at_k);
    name_still = λ k p at_k. refl;
    a_step = λ r. absurd (let k : true ≡ false = sym r ∙ no_row in cc);
    only = λ j x at_j. elim (cases_eq j c.place) [
      | inl is ↦ absurd (let k : Some x ≡ None = sym at_j ∙ ap (gone v.queue c.place step_q) is ∙ gone_here v.queue c.place step_q in cc)
      | inr ne ↦ inl (ne, sym (gone_there v.queue c.place step_q j ne) ∙ at_j)
    ];
    open_seen = subst (λ (b : Bool). SeesRunning b (groups_of core) e (Some (o2 past old new at tied sectors event))) (sym event.runs) (record { copy = o2 past old new at tied sectors event; is_open = refl; target = refl; passed = λ l g. refl });
  }

  its_landed : HasLanded past old new at event.row true event.buf tied event.returns event.own c event.is_open (Some (o2 past old new at tied sectors event))
  its_landed = landed past old new at tied sectors event

  sees_was : Sees past core2 was
  sees_was = sees_stepped past core v c e (slice_set core.pool event.buf.number false) (Rattle.std.specs.List.remove core.flying at) core2.queue (gone v.queue c.place step_q) v.name (landed past old new at tied sectors event).block (Some (o2 past old new at tied sectors event)) tied.sees event.is_open stepped

  same_missing : SameMissing core.status.wanted status.wanted
  same_missing = fresher.missing

  on_tied : IsSound (state new.device on) → IsTied past (state new.device on)
  on_tied sound_on = record {
    votes = tied.votes;
    media = (ended past old new at event.row true event.buf tied event.returns event.own c event.is_open).media;
    setting = record {
      are_votes = tied.setting.are_votes;
      told = (ended past old new at event.row true event.buf tied event.returns event.own c event.is_open).told;
      own = tied.setting.own;
    };
    view = w;
    sees = sees_wanted core.status status rest same_missing past core2 was refl sees_was;
    good = stands.good;
    describes = subst (λ (u : Option (Stamped Status)). Describes w w.facts core.descriptor u (now past old new at event.row true event.buf tied event.returns event.own c event.is_open)) (sym (update_same core.status status rest same_missing)) stands.describes;
    write = tied.write;
    orderly = record { sound = sound_on; on = tied.orderly.on; update = write_same core.status status rest same_missing core.homes tied.write tied.orderly.update };
    since = subst (OnlyUpdateSince new.device tied.write) (sym (update_same core.status status rest same_missing)) (since past old new at event.row true event.buf tied event.returns event.own c event.is_open tied.write (update_of core.status) tied.since);
    recorded = record {
      next = next_same core.status status rest same_missing core.descriptor core.homes (image_of new.device.sizes (ended past old new at event.row true event.buf tied event.returns event.own c event.is_open).media) its_landed.next;
      members = its_landed.members;
      records = records_wanted core.status status rest same_missing core.descriptor (now past old new at event.row true event.buf tied event.returns event.own c event.is_open) its_landed.records;
      committed = one_wanted core.status status rest same_missing its_landed.committed;
    };
    notes = λ disk items flies. subst (λ st. IsNote (record { stamp = st.epoch; entries = items.items })) (sym (stamp_same core.status status rest same_missing)) (tied.notes disk items flies);
    copy_aimed = λ x at_x r. absurd (let same_x : e ≡ x = (let k : Some e ≡ Some x = at_x in cc) in let k : true ≡ false = sym r ∙ (λ t. has_row core (sym same_x t)) ∙ no_row in cc);
    carry = carry_none on w e new.device.flights (Rattle.std.specs.List.remove core.flying at) refl refl;
  }

  pub whole_tied : IsTied past new
  whole_tied =
      let whole : new ≡ state new.device on = λ t. record { device = new.device; core = core_is t } in
      subst (IsTied past) (sym whole) (on_tied (subst IsSound whole sound))

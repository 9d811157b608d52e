-- The destination of a move that is done may take the place of its copy.
use Rattle.std.proofs.Common.{◌≡◌, ◌⊎◌, inl, inr, ⊎_elim, ℕ, ◌+◌, ◌*◌, ◌-◌, ◌/◌, ◌%◌, ◌<◌, ◌≤◌, Bool, true, false, ◌&&◌, ◌||◌, ◌==◌, not, if◌then◌else◌, List, [], Option, Some, None, refl, sym, ap, subst, ◌∙◌, arith, eqb-true}
use Rattle.std.specs.Prelude.{IsTrue, IsFalse, nat_lt, slice_get, unwrap_or}
use Rattle.std.specs.Option.{option_map, option_map_or}
use Rattle.std.proofs.lemmas.Bool.{and_parts, cases_Bool}
use Rattle.std.proofs.lemmas.Bool.Decides.{nat_tests}
use Rattle.lvm_num.specs.declared.place.Pp.{Pp}
use Rattle.lvm_num.specs.declared.descriptor.LvRow.{LvRow}
use Rattle.lvm_num.specs.declared.descriptor.Descriptor.{Descriptor}
use Rattle.lvm_num.specs.declared.status.Status.{Status}
use Rattle.lvm_num.specs.Descriptor.{IsValid, copies_of, is_pp}
use Rattle.lvm_num.specs.Disks.{Disks}
use Rattle.lvm_num.specs.Geometry.{partition_blocks, partition_of, sector_of, track_group_of}
use Rattle.lvm_num.specs.Record.{Stamped, stamp_lt}
use Rattle.lvm_num.specs.Status.{calls_dirty, calls_stale}
use Rattle.lvm_num.proofs.AmongLemmas.{one_any}
use Rattle.lvm_vol.specs.Facts.{Fact}
use Rattle.lvm_disk.specs.Device.{image_of}
use Rattle.lvm_map.proofs.Parts.{parts, whole}
use Rattle.lvm_map.proofs.PlacesLemmas.{mib_positive, volume_at}
use Rattle.lvm_kept.specs.Contents.{Contents, contents_of}
use Rattle.lvm_kept.specs.Group.{IsOneOf}
use Rattle.lvm_kept.proofs.ChangesLemmas.Entries.{volume_is_row}
use Rattle.lvm_session.specs.declared.bringing.OpenCopy.{OpenCopy}
use Rattle.lvm_session.specs.State.{Core, State}
use Rattle.lvm_session.specs.Bringing.{groups_of}
use Rattle.lvm_session.specs.Calls.{copy_at}
use Rattle.lvm_session.specs.Judging.{copies_in, is_held_stale, is_stale, is_wanted_stale}
use Rattle.lvm_session.specs.Marks.{is_among}
use Rattle.lvm_session.specs.Sound.{IsCopy, IsMove}
use Rattle.lvm_session.proofs.MovesLemmas.{move_of}
use Rattle.lvm_keeps.proofs.CacheLemmas.{no_copy}
use Rattle.lvm_invariant.specs.State.{Beside, Marks, ModelState}
use Rattle.lvm_invariant.specs.Found.{HasIt}
use Rattle.lvm_invariant.specs.Sound.{Complete}
use Rattle.lvm_crash.specs.Copies.{IsCopyOf}
use Rattle.lvm_crash.specs.Session.{Describes, HasVolumes, as_marks, is_beside, marks_of, marks_shown}
use Rattle.lvm_crash.proofs.CopiesLemmas.{one_block}
use Rattle.lvm_crash.proofs.WritingLemmas.{pp_same, same_pp}
use Rattle.lvm_even.specs.Members.{members_showing}
use Rattle.lvm_places.specs.Places.{Marking, SeesRecords}
use Rattle.lvm_places.specs.Laws.{AgreesBut, Replaces, replaced}
use Rattle.lvm_moved.specs.Moved.{MayStandOn}
use Rattle.lvm_move_laws.specs.Moving.{IsFor}
use Rattle.lvm_move_laws.specs.Committing.{MayTakePlace}
use Rattle.lvm_move_keeps.specs.Drained.{IsDrainedMoving}
use Rattle.lvm_move_keeps.specs.Keeping.{IsDoneMoving}
use Rattle.lvm_move_keeps.proofs.DrainedLemmas.{drained_is_done}
use Rattle.lvm_move_keeps.proofs.IdleLemmas.{IsWholeMove, whole_move}
use Rattle.lvm_move_keeps.proofs.StandsLemmas.{may_stand}
use Rattle.lvm_tie.specs.Seen.{SeesCopy, SeesOpen, SeesRunning, its_blocks, passed_by, update_of}
use Rattle.lvm_tie.specs.Tied.{IsTied}
use Rattle.lvm_tie.proofs.AmongLemmas.{not_true}
use Rattle.lvm_tie.proofs.StateLemmas.{among_one, copy_is, its_copy, its_member, its_only, its_partition, IsOfItsPartition, stale_seen, wanted_seen}
use Rattle.lvm_tie.proofs.SeenLemmas.Beside.{copy_its, copy_plain, moving_beside}
use Rattle.lvm_tie.proofs.StepsLemmas.Passing.{so_within}
use Rattle.lvm_tie.proofs.TiedLemmas.Orderly.{valid_of}
use Rattle.lvm_tie.proofs.TiedLemmas.Recorded.{no_update_of, shown_of, shows_own}
use Rattle.lvm_move_tie.specs.Taking.{DrainedTakesPlace, next_group}
use Rattle.lvm_move_tie.proofs.MovedLemmas.{differs_in, moves_in, one_of_place}

one_some : {X : Type 0} (a b : X) → Some a ≡ Some b → a ≡ b
one_some a b e = cc

none_some : {X A : Type 0} (o : Option X) (x : X) → o ≡ None → o ≡ Some x → A
none_some o x none some = absurd cc

or_first : (a b : Bool) → a ≡ true → a || b ≡ true
or_first true b h = refl
or_first false b h = absurd (cc h)

or_second : (a b : Bool) → b ≡ true → a || b ≡ true
or_second true b h = refl
or_second false b h = h

or_apart : (a b : Bool) → a || b ≡ true → (a ≡ true) ⊎ (b ≡ true)
or_apart true b h = inl refl
or_apart false b h = inr h

pub or_none : (a b : Bool) → a || b ≡ false → a ≡ false
or_none true b h = absurd (cc h)
or_none false b h = refl

module _ (past : List Fact) (s : State) (c : OpenCopy) (tied : IsTied past s) (drained : IsDrainedMoving s c) where
  abbrev pub core : Core
  core = s.core

  abbrev pub v : ModelState
  v = tied.view

  abbrev pub group : Descriptor
  group = core.descriptor

  abbrev pub shown : Contents
  shown = contents_of (image_of s.device.sizes tied.media)

  abbrev pub members : Disks
  members = members_showing shown group

  abbrev pub to : Pp
  to = c.pp

  pub done : IsDoneMoving s c
  done = drained_is_done s c tied.orderly.sound drained

  pub whole_is : IsWholeMove core c
  whole_is = whole_move core c drained.done

  pub copy : IsCopy core c
  copy = copy_is past s tied c drained.is_open

  pub move : IsMove core c
  move = move_of core c copy whole_is.moves

  abbrev pub from : Pp
  from = move.from

  pub valid : IsValid group
  valid = valid_of s tied.write tied.orderly

  pub its : IsOfItsPartition core c
  its = its_partition core c copy

  pub one_row : IsOneOf group.lvs its.row
  one_row = volume_is_row group c.lv its.row its.volume

  pub row_number : its.row.number ≡ c.lv
  row_number = (volume_at group c.lv its.row its.volume).its

  pub volumes : HasVolumes v v.facts group members
  volumes = tied.describes.volumes

  abbrev pub copies : List Pp
  copies = copies_in group c.lv c.lp

  pub copies_are : copies ≡ copies_of its.row c.lp
  copies_are = ap (λ (m : Option LvRow). option_map_or (λ (row : LvRow). copies_of row c.lp) m []) its.volume

  -- ---- the partition beside

  abbrev pub o : Beside
  o = record { place = to; its = its_blocks core c }

  pub beside : v.beside ≡ Some o
  beside = moving_beside core c v.beside tied.sees.beside drained.is_open whole_is.moves

  pub off_beside : (p : Pp) → IsFalse (is_pp p to) → is_beside v.beside p ≡ false
  off_beside p off = ap (λ (m : Option Beside). is_beside m p) beside ∙ off

  pub is_for : IsFor group.mib c.lv c.lp o
  is_for = record {
    its = λ l b at. let both = and_parts (l == c.lv) (partition_of group.mib b == c.lp) at in (eqb-true l c.lv both.0, eqb-true (partition_of group.mib b) c.lp both.1);
    all = λ l b lv lp.
        let one : (l == c.lv) ≡ true = grind (arith, nat_tests) in
        let two : (partition_of group.mib b == c.lp) ≡ true = grind (arith, nat_tests) in
        λ t. one t && two t;
  }

  -- ---- the copy that moves

  place : slice_get (copies_of its.row c.lp) (c.copy - 1) ≡ Some from
  place = by (c.copy == 0) (ap (λ (ps : List Pp). copy_at ps c.copy) (sym copies_are) ∙ move.its)
    where
      by : (b : Bool) → (if b then None else slice_get (copies_of its.row c.lp) (c.copy - 1)) ≡ Some from → slice_get (copies_of its.row c.lp) (c.copy - 1) ≡ Some from
      by true at = absurd (cc at)
      by false at = at

  from_one : IsOneOf (copies_of its.row c.lp) from
  from_one = one_of_place (copies_of its.row c.lp) (c.copy - 1) from place

  no_copy_to : IsOneOf (copies_of its.row c.lp) to → ⊥
  no_copy_to one = (volumes.free o beside).free its.row c.lp one_row its.lp one

  pub not_to : (p : Pp) → IsOneOf (copies_of its.row c.lp) p → IsFalse (is_pp p to)
  not_to p one = ⊎_elim
      (λ (same : IsTrue (is_pp p to)). absurd (no_copy_to (subst (IsOneOf (copies_of its.row c.lp)) (pp_same p to same) one)))
      (λ (off : IsFalse (is_pp p to)). off)
      (cases_Bool (is_pp p to))

  pub apart : IsFalse (is_pp to from)
  apart = ⊎_elim
      (λ (same : IsTrue (is_pp to from)). absurd (no_copy_to (subst (IsOneOf (copies_of its.row c.lp)) (sym (pp_same to from same)) from_one)))
      (λ (off : IsFalse (is_pp to from)). off)
      (cases_Bool (is_pp to from))

  -- each block of which one of the copies is one is of its logical partition
  pub of_copy : (p : Pp) → IsOneOf (copies_of its.row c.lp) p → (lv b : ℕ) → IsTrue (v.is_copy lv b p) → (lv ≡ c.lv) × (partition_of group.mib b ≡ c.lp)
  of_copy p one lv b at =
      let size = partition_blocks group.mib in
      let some = mib_positive group valid in
      let low : b % size < size = omega arith in
      let b2 : ℕ = c.lp * size + b % size in
      let of_b = parts size b2 c.lp (b % size) low refl in
      let other : IsCopyOf group c.lv b2 p = record { row = its.row; lp = c.lp; volume = one_row; number = row_number; inside = record { inside = its.lp; partition = of_b.0 }; copy = one } in
      let mine = copy_plain volumes lv b p (off_beside p (not_to p one)) at in
      let sector : sector_of group.mib p.pp b ≡ sector_of group.mib p.pp b2 = (let r = of_b.1 in omega (arith, r)) in
      let is = one_block group lv b c.lv b2 p p valid mine other refl sector in
      (is.volume, ap (partition_of group.mib) is.block ∙ of_b.0)

  pub member : IsTrue (members to.disk)
  member = tied.recorded.members to.disk (its_member past s tied c drained.is_open) move.there

  -- the destination is a copy of each of those blocks
  pub there_to : (lv b : ℕ) → lv ≡ c.lv → partition_of group.mib b ≡ c.lp → IsTrue (v.is_copy lv b to)
  there_to lv b same lp = subst (λ (n : ℕ). IsTrue (v.is_copy n b to)) (row_number ∙ sym same) (its_copy past s tied c drained.is_open its move.there b (record { inside = its.lp; partition = lp }))

  -- ---- it is complete

  pub sees_open : SeesOpen (groups_of core) c v.open_copy
  sees_open = subst (λ (b : Bool). SeesRunning b (groups_of core) c v.open_copy) whole_is.runs (subst (λ (m : Option OpenCopy). SeesCopy (groups_of core) m v.open_copy) drained.is_open tied.sees.open_copy)

  all_passed : (lv b : ℕ) → IsTrue (v.is_copy lv b to) → passed_by (groups_of core) c lv (track_group_of b) ≡ true
  all_passed lv b at =
      let some = mib_positive group valid in
      let only = its_only past s tied c drained.is_open lv b at in
      let size : ℕ = partition_blocks group.mib in
      let low : b % size < size = omega arith in
      let all : b / size * size + b % size ≡ b = whole size b (omega arith) in
      let lp_is : b / size ≡ c.lp = only.1 in
      let product_lp : b / size * size ≡ c.lp * size = ap (λ n. n * size) lp_is in
      let groups : groups_of core ≡ 8 * group.mib = omega arith in
      let product : groups_of core * c.lp ≡ 8 * group.mib * c.lp = ap (λ n. n * c.lp) groups in
      let enough : groups_of core ≤ c.cursor = (let h : not (nat_lt c.cursor (groups_of core)) ≡ true = whole_is.whole in let k : nat_lt c.cursor (groups_of core) ≡ false = not_true (nat_lt c.cursor (groups_of core)) h in grind (arith, nat_tests)) in
      let b_is : b ≡ c.lp * size + b % size = omega (arith, all, product_lp) in
      let same_lv : (lv == c.lv) ≡ true = (let k : lv ≡ c.lv = only.0 in grind (arith, nat_tests)) in
      so_within (groups_of core * c.lp) c.cursor (track_group_of b) (lv == c.lv) same_lv (omega (arith, b_is, product)) (omega (arith, b_is, product, low, groups, enough))

  complete : Complete v to
  complete = record { copy = sees_open.copy; is_open = sees_open.is_open; target = sees_open.target; passed = λ lv b at. sees_open.passed lv (track_group_of b) ∙ all_passed lv b at }

  -- ---- the marks as they stand, and those that missing disks entail then

  abbrev pub left : Pp → Bool
  left p = is_among copies p && v.missing p.disk

  abbrev pub k : Marking
  k = record {
    status = λ d. marks_shown None group.id (shown.status d);
    committed = record { stamp = v.committed.stamp; value = marks_of None core.status.committed };
    in_flight = None;
    wanted = record { stale = λ p. calls_stale core.status.wanted p || left p; dirty = calls_dirty core.status.wanted };
  }

  pub no_update : update_of core.status ≡ None
  no_update = no_update_of core.status done.in_flight

  pub none_flies : v.in_flight ≡ None
  none_flies = tied.sees.status.in_flight ∙ ap (option_map (as_marks v.beside)) no_update

  agrees : AgreesBut v to k
  agrees = record {
    committed = λ p off. sym (stale_seen past s tied p (off_beside p off));
    dirty = λ lv. sym (ap (λ (m : Marks). m.dirty lv) tied.sees.status.committed);
    flying = λ u flies. absurd (cc flies);
    none = λ none. none_flies;
  }

  held_fresh : is_held_stale core to ≡ false
  held_fresh = not_true (is_held_stale core to) (and_parts (not (is_held_stale core to)) (not (is_wanted_stale core to)) whole_is.fresh).0

  pub committed_fresh : IsFalse (calls_stale core.status.committed to)
  committed_fresh = or_none (is_stale core to) (calls_stale (unwrap_or core.status.in_flight core.status.committed) to) held_fresh

  pub wanted_fresh : calls_stale core.status.wanted to ≡ false
  wanted_fresh = not_true (is_wanted_stale core to) (and_parts (not (is_held_stale core to)) (not (is_wanted_stale core to)) whole_is.fresh).1

  left_none : left to ≡ false
  left_none = ap (λ (b : Bool). b && v.missing to.disk) (no_copy group c.lv c.lp to move.free)

  fresh : IsFalse (k.wanted.stale to)
  fresh = (λ t. wanted_fresh t || left_none t)

  still : (p : Pp) → IsFalse (is_pp p to) → IsTrue (v.wanted.stale p) → IsTrue (k.wanted.stale p)
  still p off wanted = or_first (calls_stale core.status.wanted p) (left p) (sym (wanted_seen past s tied p (off_beside p off)) ∙ wanted)

  one_of_left : (p : Pp) → left p ≡ true → IsOneOf (copies_of its.row c.lp) p
  one_of_left p is = subst (λ (ps : List Pp). IsOneOf ps p) copies_are (among_one copies p (and_parts (is_among copies p) (v.missing p.disk) is).0)

  added : (p : Pp) → IsFalse (is_pp p to) → IsTrue (k.wanted.stale p) → IsTrue (v.wanted.stale p) ⊎ ((lv b : ℕ) → IsTrue (v.is_copy lv b p) → IsTrue (v.is_copy lv b to))
  added p off wanted = ⊎_elim
      (λ (was : calls_stale core.status.wanted p ≡ true). inl (wanted_seen past s tied p (off_beside p off) ∙ was))
      (λ (is : left p ≡ true). inr (λ lv b at. let where_ = of_copy p (one_of_left p is) lv b at in there_to lv b where_.0 where_.1))
      (or_apart (calls_stale core.status.wanted p) (left p) wanted)

  behind : (lv b : ℕ) (p : Pp) → IsTrue (v.is_copy lv b to) → IsTrue (v.is_copy lv b p) → IsFalse (is_pp p to) → IsTrue (v.missing p.disk) → IsTrue (k.wanted.stale p)
  behind lv b p at also off gone =
      let only = its_only past s tied c drained.is_open lv b at in
      let same : lv ≡ its.row.number = only.0 ∙ sym row_number in
      let one : IsOneOf (copies_of its.row c.lp) p = copy_its volumes its.row c.lp b p one_row (record { inside = its.lp; partition = only.1 }) (off_beside p off) (subst (λ (n : ℕ). IsTrue (v.is_copy n b p)) same also) in
      let among : is_among copies p ≡ true = one_any (is_pp p) copies p (subst (λ (ps : List Pp). IsOneOf ps p) (sym copies_are) one) (same_pp p p refl) in
      or_second (calls_stale core.status.wanted p) (left p) (λ t. among t && gone t)

  -- ---- what the disks show

  -- what is under the stamp of the committed status is that status
  one_shown : (d : ℕ) (r : Stamped Status) → shown.status d ≡ Some r → r.value.id ≡ group.id → as_marks v.beside r ≡ v.committed → as_marks None r ≡ k.committed
  one_shown d r stands own same =
      let stamp : r.stamp ≡ v.committed.stamp = ap (λ (m : Stamped Marks). m.stamp) same in
      let value = tied.recorded.committed.stands d r stands own stamp in
      λ t. record { stamp = stamp t; value = marks_of None (value t) }

  abbrev pub w : ModelState
  w = replaced v from k

  records : SeesRecords v w
  records = record {
    have = have;
    only = only;
    newer = λ u flies. absurd (cc flies);
  }
    where
      shown_now : (d : ℕ) (r : Stamped Status) → shown.status d ≡ Some r → r.value.id ≡ group.id → w.media.status d ≡ Some (as_marks None r)
      shown_now d r stands own = ap (marks_shown None group.id) stands ∙ shows_own None group.id r own

      have : (d : ℕ) → HasIt v d → HasIt w d
      have d (inl same) =
          let r = shown_of v.beside group.id (shown.status d) v.committed (sym (tied.describes.shown.status d) ∙ same) in
          inl (shown_now d r.0 r.1 r.2 ∙ ap (λ (m : Stamped Marks). Some m) (one_shown d r.0 r.1 r.2 r.3))
      have d (inr x) = none_some v.in_flight x.0 none_flies x.1

      only : (d : ℕ) (r : Stamped Marks) → w.media.status d ≡ Some r → (stamp_lt r.stamp k.committed.stamp ≡ true) ⊎ (r ≡ k.committed) ⊎ (k.in_flight ≡ Some r)
      only d r stands =
          let x = shown_of None group.id (shown.status d) r stands in
          ⊎_elim
          (λ (before : stamp_lt x.0.stamp v.committed.stamp ≡ true). inl (ap (λ (m : Stamped Marks). stamp_lt m.stamp v.committed.stamp) (sym x.3) ∙ before))
          (λ (rest : (as_marks v.beside x.0 ≡ v.committed) ⊎ (v.in_flight ≡ Some (as_marks v.beside x.0))). inr (inl (⊎_elim
          (λ (same : as_marks v.beside x.0 ≡ v.committed). sym x.3 ∙ one_shown d x.0 x.1 x.2 same)
          (λ (flies : v.in_flight ≡ Some (as_marks v.beside x.0)). none_some v.in_flight (as_marks v.beside x.0) none_flies flies)
          rest)))
          (tied.good.found.only d (as_marks v.beside x.0) (tied.describes.shown.status d ∙ ap (marks_shown v.beside group.id) x.1 ∙ shows_own v.beside group.id x.0 x.2))

  pub takes : Replaces v from to k
  takes = record {
    complete = complete;
    apart = apart;
    alone = λ lv b at. let where_ = of_copy from from_one lv b at in there_to lv b where_.0 where_.1;
    agrees = agrees;
    committed = committed_fresh;
    flying = λ u flies. absurd (cc flies);
    fresh = fresh;
    still = still;
    added = added;
    wanted_dirty = λ lv h. sym (ap (λ (m : Marks). m.dirty lv) tied.sees.status.wanted) ∙ h;
    behind = λ lv b p at also off other stands gone. behind lv b p at also off gone;
    records = records;
  }

  -- ---- all of it

  pub stand : MayStandOn group c.lv c.lp c.copy to
  stand = may_stand core c valid copy whole_is.moves

  same_row : stand.row ≡ its.row
  same_row = one_some stand.row its.row (sym stand.volume ∙ its.volume)

  pub describes : Describes v v.facts group None shown
  describes = subst (λ (u : Option (Stamped Status)). Describes v v.facts group u shown) no_update tied.describes

  pub may_take : MayTakePlace tied.votes v k o group (next_group s c) c.lv c.lp from shown
  may_take = record {
    are_votes = tied.setting.are_votes;
    good = tied.good;
    describes = describes;
    beside = beside;
    its = is_for;
    differs = differs_in c.lv c.lp c.copy to group;
    moves = moves_in group c.lv c.lp c.copy from to valid stand (ap (λ (row : LvRow). slice_get (copies_of row c.lp) (c.copy - 1)) same_row ∙ place);
    takes = takes;
    member = member;
    marks = λ d. refl;
    idle = refl;
  }

pub drained_takes_place : DrainedTakesPlace
drained_takes_place past s c tied drained = record { from = from past s c tied drained; marking = k past s c tied drained; beside = o past s c tied drained; may = may_take past s c tied drained }

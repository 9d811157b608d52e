-- A copy that begins to move, tied: its destination is one copy more of the state, which counts as stale.
use Rattle.std.proofs.Common.{◌≡◌, ◌⊎◌, inl, inr, ⊎_elim, ℕ, ◌+◌, ◌*◌, ◌%◌, ◌<◌, Bool, true, false, ◌&&◌, ◌||◌, ◌==◌, eqb-true, if◌then◌else◌, List, [], map, Option, Some, None, refl, sym, ap, subst, ◌∙◌, arith}
use Rattle.std.specs.Prelude.{IsTrue, IsFalse, Err, MatchOption, Ok, slice_get}
use Rattle.std.specs.Option.{option_map, option_map_or}
use Rattle.std.proofs.lemmas.Bool.{and_parts, cases_Bool}
use Rattle.std.proofs.lemmas.Bool.Decides.{nat_tests}
use Rattle.lvm_num.specs.declared.descriptor.Descriptor.{Descriptor}
use Rattle.lvm_num.specs.declared.descriptor.LvRow.{LvRow}
use Rattle.lvm_num.specs.declared.place.Pp.{Pp}
use Rattle.lvm_num.specs.declared.status.Status.{Status}
use Rattle.lvm_num.specs.Descriptor.{IsValid, copies_of, is_member, is_pp, volume_of}
use Rattle.lvm_num.specs.Disks.{Disks}
use Rattle.lvm_num.specs.Geometry.{partition_blocks, partition_of, sector_of}
use Rattle.lvm_num.specs.Record.{Stamped}
use Rattle.lvm_num.proofs.AmongLemmas.{one_any}
use Rattle.lvm_num.proofs.Booleans.{clash_gives}
use Rattle.lvm_num.proofs.Lists.{all_at}
use Rattle.lvm_vol.specs.Facts.{Fact}
use Rattle.lvm_disk.specs.Counts.{Counts}
use Rattle.lvm_disk.specs.Device.{image_of}
use Rattle.lvm_map.proofs.Parts.{parts}
use Rattle.lvm_map.proofs.PlacesLemmas.{mib_positive, volume_at}
use Rattle.lvm_kept.specs.Contents.{Contents, contents_of}
use Rattle.lvm_kept.specs.Group.{IsOneOf, block_at}
use Rattle.lvm_kept.proofs.ChangesLemmas.Entries.{volume_is_row}
use Rattle.lvm_path.specs.declared.ask.Ask.{Ask}
use Rattle.lvm_path.specs.declared.request.Phase.{Phase}
use Rattle.lvm_path.specs.declared.target.Target.{Target}
use Rattle.lvm_path.specs.Asks.{lv_of}
use Rattle.lvm_path.specs.Targets.{is_begun}
use Rattle.lvm_session.specs.declared.answers.OpenFault.{OpenFault}
use Rattle.lvm_session.specs.declared.answers.OpenFault.TheVariants as denial
use Rattle.lvm_session.specs.declared.bringing.OpenCopy.{OpenCopy}
use Rattle.lvm_session.specs.declared.open.Open.{Open}
use Rattle.lvm_session.specs.declared.open.Power.TheVariants as power
use Rattle.lvm_session.specs.State.{Core, State, is_there, state}
use Rattle.lvm_session.specs.Asking.{IsAwake}
use Rattle.lvm_session.specs.Bringing.{block_at as step_block, groups_of, step_place}
use Rattle.lvm_session.specs.Calls.{OpensMove, aged, faults_of, move_fault, opened}
use Rattle.lvm_session.specs.Ends.{with_step}
use Rattle.lvm_session.specs.Judging.{copies_for, copies_in, is_missing, is_waiting, lp_of}
use Rattle.lvm_session.specs.Marks.{is_among}
use Rattle.lvm_session.specs.Requests.{IsAimed, IsTarget}
use Rattle.lvm_session.specs.Sound.{IsMove, IsSound}
use Rattle.lvm_session.proofs.MovesLemmas.{move_of, place_open}
use Rattle.lvm_calls.proofs.MovingLemmas.{move_taken}
use Rattle.lvm_keeps.proofs.CacheLemmas.{no_copy}
use Rattle.lvm_invariant.specs.State.{Beside, Marks, Queued, ModelState, Stage, is_past}
use Rattle.lvm_invariant.specs.Good.{Good}
use Rattle.lvm_crash.specs.Copies.{IsCopyOf}
use Rattle.lvm_crash.specs.Session.{Describes, IsFreePlace, as_marks, is_beside, marks_of}
use Rattle.lvm_even.specs.Members.{members_showing}
use Rattle.lvm_crash.proofs.CopiesLemmas.{number_finds, one_block}
use Rattle.lvm_crash.proofs.WritingLemmas.{same_pp}
use Rattle.lvm_places.specs.Places.{BlocksOf, IsUnaimed, Marking}
use Rattle.lvm_places.specs.Laws.{Appears, appeared, as_stale, stale_marking, with_place}
use Rattle.lvm_places.specs.Described.{MayAppear, StandsFor}
use Rattle.lvm_places.proofs.LawsLemmas.{place_appears}
use Rattle.lvm_places.proofs.DescribedLemmas.{appeared_is_described}
use Rattle.lvm_tie.specs.Calls.{OpenMoveTies}
use Rattle.lvm_tie.specs.Seen.{IsRequestAt, IsStepAt, SeesCopy, SeesStatus, its_blocks, phase_seen, stage_at, update_of}
use Rattle.lvm_tie.specs.Tied.{HoldsRecords, IsTied}
use Rattle.lvm_tie.proofs.AmongLemmas.{one_there}
use Rattle.lvm_tie.proofs.BringingLemmas.{first_in, placed_in}
use Rattle.lvm_tie.proofs.JudgingLemmas.Due.{stage_one}
use Rattle.lvm_tie.proofs.StateLemmas.{IsOfItsPartition, found_any, its_partition, missing_seen}
use Rattle.lvm_tie.proofs.SeenLemmas.Beside.{closed_beside, copy_its, copy_plain, copy_seen, same_copies}
use Rattle.lvm_tie.proofs.TiedLemmas.Orderly.{open_one, valid_of, waiting_one}
use Rattle.lvm_tie.proofs.CallsLemmas.Opening.{opening_ties, q}

-- the destination counts as stale: a status is seen so
stale_of : (o : Beside) (m : Option (Stamped Status)) → option_map (as_stale o.place) (option_map (as_marks None) m) ≡ option_map (as_marks (Some o)) m
stale_of o None = refl
stale_of o (Some r) = refl

module _ (past : List Fact) (s : State) (new : Core) (counts : Counts) (lv lp number : ℕ) (to : Pp) (tied : IsTied past s) (sound : IsSound (state s.device new)) (opens : OpensMove counts s.core new lv lp number to)
    (none : s.core.copy ≡ None) (there : is_missing s.core to.disk ≡ false) where
  abbrev core : Core
  core = s.core

  abbrev v : ModelState
  v = tied.view

  abbrev group : Descriptor
  group = core.descriptor

  abbrev shown : Contents
  shown = contents_of (image_of s.device.sizes tied.media)

  abbrev members : Disks
  members = members_showing shown group

  abbrev faults : List ℕ
  faults = faults_of counts (copies_of opens.row lp) to

  abbrev c : OpenCopy
  c = opened true to lv lp number opens.tried faults (step_place core)

  abbrev core2 : Core
  core2 = with_step (record core { requests = map aged core.requests; origin = new.origin }) c

  sound2 : IsSound (state s.device core2)
  sound2 = subst (λ (x : Core). IsSound (state s.device x)) opens.is sound

  valid : IsValid group
  valid = valid_of s tied.write tied.orderly

  its : IsOfItsPartition core c
  its = let t = its_partition core2 c ((sound2.on tied.orderly.on).going.copy) in record { row = t.row; volume = t.volume; lp = t.lp; among = t.among; cursor = t.cursor }

  move : IsMove core2 c
  move = move_of core2 c ((sound2.on tied.orderly.on).going.copy) refl

  some_groups : c.cursor < groups_of core
  some_groups = let e = mib_positive group valid in omega (arith, e)

  row_one : IsOneOf group.lvs its.row
  row_one = volume_is_row group lv its.row its.volume

  row_number : its.row.number ≡ lv
  row_number = (volume_at group lv its.row its.volume).its

  member : is_member group to.disk ≡ true
  member = found_any group.pvs to.disk move.member move.member_is

  shows : IsTrue (members to.disk)
  shows = tied.recorded.members to.disk member (sym (opens.called.table.missing to.disk) ∙ move.there)

  -- ---- no volume has it

  abbrev o : Beside
  o = record { place = to; its = its_blocks core c }

  free : (row : LvRow) (n : ℕ) → IsOneOf group.lvs row → n < row.lps → IsOneOf (copies_of row n) to → ⊥
  free row n one low copy =
      let found : volume_of group row.number ≡ Some row = number_finds group row valid one in
      let are : copies_in group row.number n ≡ copies_of row n = ap (λ (m : Option LvRow). option_map_or (λ (r : LvRow). copies_of r n) m []) found in
      clash_gives (is_among (copies_in group row.number n) to) (ap (λ (ps : List Pp). is_among ps to) are ∙ one_any (is_pp to) (copies_of row n) to copy (same_pp to to refl)) (no_copy group row.number n to move.free)

  none_beside : v.beside ≡ None
  none_beside = tied.sees.beside ∙ closed_beside core none

  plain : (p : Pp) → is_beside v.beside p ≡ false
  plain p = ap (λ (m : Option Beside). is_beside m p) none_beside

  no_destination : IsFreePlace group o
  no_destination = record {
    free = free;
    one = λ a b l d here at.
        let x = both_of a b here in
        let y = both_of l d at in
        (x.0 ∙ sym y.0, x.1 ∙ sym y.1);
  }
    where
      both_of : (a b : ℕ) → IsTrue (its_blocks core c a b) → (a ≡ lv) × (partition_of group.mib b ≡ lp)
      both_of a b here = let both = and_parts (a == lv) (partition_of group.mib b == lp) here in (eqb-true a lv both.0, eqb-true (partition_of group.mib b) lp both.1)

  stands : StandsFor group o its.row lp
  stands a b = (
    λ here. let both = and_parts (a == lv) (partition_of group.mib b == lp) here in
        (eqb-true a lv both.0 ∙ sym row_number, record { inside = its.lp; partition = eqb-true (partition_of group.mib b) lp both.1 }),
    λ at.
        let lv_is : a ≡ lv = at.0 ∙ row_number in
        let lp_is : partition_of group.mib b ≡ lp = at.1.partition in
        let one : (a == lv) ≡ true = grind (arith, nat_tests) in
        let two : (partition_of group.mib b == lp) ≡ true = grind (arith, nat_tests) in
        λ t. one t && two t,
  )

  -- what stands there is what the disks show
  abbrev block : BlocksOf
  block a b p = if is_pp p to then block_at shown group.mib to b else v.media.block a b p

  here : (a b : ℕ) → block a b to ≡ block_at shown group.mib to b
  here a b = ap (λ t. if t then block_at shown group.mib to b else v.media.block a b to) (same_pp to to refl)

  same : (a b : ℕ) (p : Pp) → IsFalse (is_pp p to) → block a b p ≡ v.media.block a b p
  same a b p off = ap (λ t. if t then block_at shown group.mib to b else v.media.block a b p) off

  nowhere : (a b : ℕ) → IsFalse (v.is_copy a b to)
  nowhere a b = ⊎_elim
      (λ (copy : IsTrue (v.is_copy a b to)). let its_copy = copy_plain tied.describes.volumes a b to (plain to) copy in absurd (free its_copy.row its_copy.lp its_copy.volume its_copy.inside.inside its_copy.copy))
      (λ (off : IsFalse (v.is_copy a b to)). off)
      (cases_Bool (v.is_copy a b to))

  -- no request goes there
  unaimed : IsUnaimed v to
  unaimed i r at goes = ⊎_elim
      (λ (k : IsRequestAt core i).
      let seen = tied.sees.queue.requests k.place k.request k.there in
      let same_q : seen.0 ≡ r = (let e : Some seen.0 ≡ Some r = sym seen.1 ∙ ap v.queue k.its ∙ at in cc) in
      ap (λ (x : Queued). x.targets to) (sym same_q) ∙ seen.2.targets to
      ∙ none_there k.place k.request k.there (is_waiting k.request) refl (sym (ap is_past seen.2.phase) ∙ ap (λ (x : Queued). is_past x.phase) same_q ∙ goes))
      (λ (k : IsStepAt core i). absurd (let e : None ≡ Some k.copy = sym none ∙ k.is_open in cc))
      (tied.sees.queue.only i r at)
    where
      -- a target there would be one of the copies, or the destination of a move that is open
      no_target : (ask : Ask) (t : Target) → t.pp ≡ to → IsTarget core ask t → ⊥
      no_target ask t is target = by t.moves target.copy
        where
          by : (b : Bool) → IsAimed b core ask t → ⊥
          by false among = clash_gives (is_among (copies_for core ask) to) (ap (is_among (copies_for core ask)) (sym is) ∙ among) (no_copy group (lv_of ask) (lp_of core ask) to move.free)
          by true aimed = let at_c = place_open core ask t.pp aimed.0 in absurd (let e : None ≡ Some at_c.copy = sym none ∙ at_c.is_open in cc)

      none_there : (place : ℕ) (x : Open) → slice_get core.requests place ≡ Some x → (b : Bool) → is_waiting x ≡ b → IsTrue (is_past (phase_seen x.request.phase (is_begun x.request.targets.items))) → stage_at x.request.targets.items to ≡ None
      none_there place x at_x false over going =
          let landed = ((open_one s tied.write tied.orderly place x at_x).over over).phase_is in
          absurd (let e : false ≡ true = sym (ap (λ (p : Phase). is_past (phase_seen p (is_begun x.request.targets.items))) landed) ∙ going in cc)
      none_there place x at_x true waits going = by (stage_at x.request.targets.items to) refl
        where
          by : (m : Option Stage) → stage_at x.request.targets.items to ≡ m → stage_at x.request.targets.items to ≡ None
          by None is = is
          by (Some stage) is =
              let one = stage_one x.request.targets.items to stage is in
              let at_t = one_there x.request.targets.items one.0 one.1 in
              absurd (no_target x.request.ask one.0 one.2 (all_at (IsTarget core x.request.ask) x.request.targets.items at_t.0 one.0 (waiting_one s tied.write tied.orderly place x at_x waits).shape.targets at_t.1))

  some : (a b : ℕ) → IsTrue (its_blocks core c a b) → (e : Pp) × IsTrue (v.is_copy a b e)
  some a b its_b =
      let at = (stands a b).0 its_b in
      let one = tied.describes.volumes.some its.row lp row_one its.lp in
      (one.0, subst (λ n. IsTrue (v.is_copy n b one.0)) (sym at.0) (copy_seen tied.describes.volumes its.row lp b one.0 row_one at.1 one.1 one.2))

  alike_none : (n a b : ℕ) (x : Beside) → v.beside ≡ Some x → x.its n a ≡ x.its n b
  alike_none n a b x is = absurd (let e : None ≡ Some x = sym none_beside ∙ is in cc)

  appears : Appears v to o.its block
  appears = record {
    nowhere = nowhere;
    unaimed = unaimed;
    closed = subst (λ (m : Option OpenCopy). SeesCopy (groups_of core) m v.open_copy) none tied.sees.open_copy;
    some = some;
    one = λ a b l d here_b at_d.
        let x = (stands a b).0 here_b in
        let y = (stands l d).0 at_d in
        (λ t p. v.is_copy (x.0 t) b p) ∙ (λ t p. same_copies tied.describes.volumes its.row lp b d p row_one x.1 y.1 (alike_none its.row.number b d) t) ∙ sym (λ t p. v.is_copy (y.0 t) d p);
    all = all;
    same = same;
  }
    where
      all : (a b l d : ℕ) (p : Pp) → IsTrue (v.is_copy a b p) → IsTrue (v.is_copy l d p) → IsTrue (its_blocks core c l d) → IsTrue (its_blocks core c a b)
      all a b l d p copy other its_d =
          let at = (stands l d).0 its_d in
          let size = partition_blocks group.mib in
          let some_mib = mib_positive group valid in
          let low : b % size < size = omega arith in
          let b2 : ℕ = lp * size + b % size in
          let of_b = parts size b2 lp (b % size) low refl in
          let mine = copy_plain tied.describes.volumes a b p (plain p) copy in
          let one_of : IsOneOf (copies_of its.row lp) p = copy_its tied.describes.volumes its.row lp d p row_one at.1 (plain p) (subst (λ n. IsTrue (v.is_copy n d p)) at.0 other) in
          let its_own : IsCopyOf group lv b2 p = record { row = its.row; lp = lp; volume = row_one; number = row_number; inside = record { inside = its.lp; partition = of_b.0 }; copy = one_of } in
          let sector : sector_of group.mib p.pp b ≡ sector_of group.mib p.pp b2 = (let r = of_b.1 in omega (arith, r)) in
          let one_is = one_block group a b lv b2 p p valid mine its_own refl sector in
          (stands a b).1 (one_is.volume ∙ sym row_number, record { inside = its.lp; partition = ap (partition_of group.mib) one_is.block ∙ of_b.0 })

  good : Good tied.votes (appeared v to o.its block)
  good = place_appears tied.votes v to o.its block appears tied.good

  may : MayAppear v group shown o block
  may = record { none = none_beside; free = no_destination; row = its.row; one = row_one; lp = lp; stands = stands; member = shows; here = here; same = same }

  describes : Describes (appeared v to o.its block) v.facts group (update_of core.status) shown
  describes = appeared_is_described v v.facts group (update_of core.status) shown o block may tied.describes

  -- ---- the marks

  abbrev marking : Marking
  marking = stale_marking v to

  -- by a status it counts as stale
  marks_now : (m : Marks) (status : Status) → m ≡ marks_of v.beside status → record m { stale = λ p. is_pp p to || m.stale p } ≡ marks_of (Some o) status
  marks_now m status is = (λ t. record (is_plain t) { stale = λ p. is_pp p to || (is_plain t).stale p })
    where
      is_plain : m ≡ marks_of None status
      is_plain = is ∙ ap (λ (x : Option Beside). marks_of x status) none_beside

  flies_now : (m : Option (Stamped Marks)) → m ≡ option_map (as_marks v.beside) (update_of core.status) → option_map (as_stale to) m ≡ option_map (as_marks (Some o)) (update_of core.status)
  flies_now m is = ap (option_map (as_stale to)) (is ∙ ap (λ (x : Option Beside). option_map (as_marks x) (update_of core.status)) none_beside) ∙ stale_of o (update_of core.status)

  status_now : SeesStatus (Some o) core.status (is_there core) marking.committed marking.in_flight marking.wanted v.status_flying marking.status v.missing
  status_now = record {
    committed = marks_now v.committed.value core.status.committed tied.sees.status.committed;
    in_flight = flies_now v.in_flight tied.sees.status.in_flight;
    wanted = marks_now v.wanted core.status.wanted tied.sees.status.wanted;
    started = tied.sees.status.started;
    written = λ d had. ap (option_map (as_stale to)) (tied.sees.status.written d had);
    held = λ u flies enough. ap (as_stale to) (tied.sees.status.held u flies enough ∙ ap (λ (x : Option Beside). as_marks x u) none_beside);
    missing = tied.sees.status.missing;
  }

  stale_now : IsTrue (marking.committed.value.stale to)
  stale_now = ap (λ t. t || v.committed.value.stale to) (same_pp to to refl)

  -- ---- its step

  volumes_alike : (a b : ℕ) → partition_of group.mib a ≡ partition_of group.mib b → (x : Beside) → (appeared v to o.its block).beside ≡ Some x → x.its its.row.number a ≡ x.its its.row.number b
  volumes_alike a b same_part x is = subst (λ (y : Beside). y.its its.row.number a ≡ y.its its.row.number b) (let e : o ≡ x = (let k : Some o ≡ Some x = is in cc) in e) (ap (λ n. (its.row.number == lv) && (n == lp)) same_part)

  aimed : IsTrue (with_place v.is_copy to o.its lv (step_block core c) to)
  aimed = ap (λ t. if t then o.its lv (step_block core c) else v.is_copy lv (step_block core c) to) (same_pp to to refl)
      ∙ (stands lv (step_block core c)).1 (sym row_number, first_in core valid c its some_groups)

  recorded : HoldsRecords v.committed.stamp group new.origin.table core.status core.homes (image_of s.device.sizes tied.media)
  recorded = record {
    next = tied.recorded.next;
    members = λ d is_in first. tied.recorded.members d is_in (sym (opens.called.table.missing d) ∙ first);
    records = tied.recorded.records;
    committed = tied.recorded.committed;
  }

  pub move_opened : IsTied past (state s.device core2)
  move_opened = opening_ties past s tied none new.origin true to lv lp number opens.tried faults sound2 (with_place v.is_copy to o.its) block marking (Some o)
      good describes status_now refl stale_now (missing_seen past s tied to.disk member ∙ there)
      (placed_in core valid c its some_groups (appeared v to o.its block) v.facts members describes.volumes volumes_alike
      (q past s tied none new.origin true to lv lp number opens.tried faults sound2 (with_place v.is_copy to o.its) block marking (Some o)) refl refl refl)
      aimed recorded

pub open_move_ties : OpenMoveTies
open_move_ties past s new counts lv lp number to answer tied sound gives = by (move_fault s.core lv lp number to) refl gives
  where
    awake : IsAwake s.core
    awake = record {
      fitting = tied.orderly.sound.fitting;
      going = λ on. (tied.orderly.sound.on on).going;
      unstuck = λ stuck. absurd (let e : power.On ≡ power.Stuck = sym tied.orderly.on ∙ stuck in cc);
    }

    unchanged : new ≡ s.core → IsTied past (state s.device new)
    unchanged is = subst (λ (x : Core). IsTied past (state s.device x)) (sym is) tied

    opens : move_fault s.core lv lp number to ≡ None → ((answer ≡ Ok tt) × OpensMove counts s.core new lv lp number to) ⊎ ((answer ≡ Err denial.Memory) × (new ≡ s.core)) → IsTied past (state s.device new)
    opens unrefused (inl done) =
        let taken = move_taken s.core lv lp number to awake (sym unrefused) in
        subst (λ (x : Core). IsTied past (state s.device x)) (sym done.1.is) (move_opened past s new counts lv lp number to tied sound done.1 taken.none taken.fine.there)
    opens unrefused (inr same) = unchanged same.1

    by : (m : Option OpenFault) → move_fault s.core lv lp number to ≡ m
        → MatchOption m (((answer ≡ Ok tt) × OpensMove counts s.core new lv lp number to) ⊎ ((answer ≡ Err denial.Memory) × (new ≡ s.core))) (λ (why : OpenFault). (answer ≡ Err why) × (new ≡ s.core)) → IsTied past (state s.device new)
    by None unrefused done = opens unrefused done
    by (Some why) refused done = unchanged done.1

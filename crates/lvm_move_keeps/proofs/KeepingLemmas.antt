-- A session in which the descriptor of a move is committed stays sound.
use Rattle.std.proofs.Common.{◌≡◌, ◌⊎◌, inl, inr, ⊎_elim, ◌&&◌, ◌||◌, ◌≤◌, ◌<◌, ◌+◌, ◌^◌, ℕ, Bool, true, false, not, if◌then◌else◌, List, [], ◌∷◌, Some, None, refl, sym, ap, subst, ◌∙◌, arith}
use Rattle.std.specs.Prelude.{◌==◌, IfSome, IsFalse, Err, Result, count_by, unwrap_or}
use Rattle.std.specs.List.{list_any, AllByRecursion}
use Rattle.std.specs.Option.{option_map_or}
use Rattle.std.proofs.lemmas.Bool.{or_right}
use Rattle.std.proofs.lemmas.Map.Keys.{any_passes_from_place}
use Rattle.lvm_num.specs.Descriptor.{is_pp}
use Rattle.lvm_num.proofs.Booleans.{second_with_first}
use Rattle.lvm_disk.proofs.CountingLemmas.{rose_before}
use Rattle.lvm_path.specs.Targets.{is_failed}
use Rattle.lvm_status.specs.Update.{is_held, members_there}
use Rattle.lvm_commit.specs.declared.commit.CommitEnd.{CommitEnd}
use Rattle.lvm_commit.specs.declared.commit.CommitEnd.TheVariants as commit_end
use Rattle.lvm_commit.specs.Settling.{CommitLeaves, DescriptorEnds, HoldsWithin, IsOfCommit}
use Rattle.lvm_core.specs.declared.fault.CommitFault.{CommitFault}
use Rattle.lvm_core.specs.declared.fault.CommitFault.TheVariants as fault
use Rattle.lvm_write.proofs.NextLemmas.{copy_is_placed, is_member_of}
use Rattle.lvm_core.proofs.CommittingLemmas.Spanning.{path_falls}
use Rattle.lvm_session.proofs.WorkedLemmas.Parts.{idle_is_sound}
use Rattle.lvm_session.specs.Causes.{TargetHasFailed}
use Rattle.lvm_keeps_events.proofs.Finding.{any_known, count_alike, count_with}
use Rattle.lvm_keeps_events.proofs.JudgingLemmas.DuesMarks.{own_pp}
use Rattle.lvm_keeps_events.proofs.JudgingLemmas.Review.{left_behind}
use Rattle.lvm_move.specs.Moving.{Misses, MoveEnds, Writes}
use Rattle.lvm_move.proofs.EndsLemmas.{settled_sound}
use Rattle.lvm_move_keeps.specs.Keeping.{MoveKeepsSound}
use Rattle.lvm_num.specs.declared.descriptor.Descriptor.{Descriptor}
use Rattle.lvm_num.specs.declared.descriptor.LvRow.{LvRow}
use Rattle.lvm_num.specs.declared.descriptor.PvRow.{PvRow}
use Rattle.lvm_num.specs.declared.place.Pp.{Pp}
use Rattle.lvm_num.specs.declared.status.Status.{Status}
use Rattle.lvm_num.specs.Buffer.{Buffer}
use Rattle.lvm_num.specs.Descriptor.{is_member}
use Rattle.lvm_num.specs.Disks.{has}
use Rattle.lvm_num.specs.Geometry.{partition_of, volume_blocks}
use Rattle.lvm_num.specs.Votes.{is_enough_to_write, votes_in}
use Rattle.lvm_num.specs.Modes.{is_passive}
use Rattle.lvm_num.specs.Status.{calls_dirty, calls_missing, calls_stale}
use Rattle.lvm_num.proofs.Booleans.{not_so}
use Rattle.lvm_num.proofs.Lists.{all_weaker}
use Rattle.lvm_disk.specs.Counts.{NoneFalls}
use Rattle.lvm_disk.specs.Device.{Device, Flight, IsReady}
use Rattle.lvm_disk.proofs.CountingLemmas.{rose_after}
use Rattle.lvm_path.specs.declared.ask.Ask.{Ask}
use Rattle.lvm_path.specs.declared.target.Target.{Target}
use Rattle.lvm_path.specs.Asks.{at_of, count_of, lv_of}
use Rattle.lvm_rec.specs.declared.homes.Homes.{Homes}
use Rattle.lvm_status.specs.Runs.{IsSoundStatus}
use Rattle.lvm_status.specs.Update.{Stored, seen}
use Rattle.lvm_commit.specs.Settling.{IsCommitted, IsPassedOver, MarksLeft, OnlyLoses, SpendsNumbers, many_there}
use Rattle.lvm_commit.proofs.RoundsLemmas.Wanting.{row_stays}
use Rattle.lvm_vol.specs.declared.entry.Outcome.{Outcome}
use Rattle.lvm_vol.specs.declared.entry.Outcome.TheVariants as outcome
use Rattle.lvm_session.specs.declared.bringing.OpenCopy.{OpenCopy}
use Rattle.lvm_session.specs.declared.flown.Flown.{Flown}
use Rattle.lvm_session.specs.declared.flown.Owner.{Owner}
use Rattle.lvm_session.specs.declared.flown.Owner.TheVariants as owner
use Rattle.lvm_session.specs.declared.open.Open.{Open}
use Rattle.lvm_session.specs.declared.open.Power.TheVariants as power
use Rattle.lvm_session.specs.Bringing.{hand_of, has_row, is_out, is_whole, step_row}
use Rattle.lvm_session.specs.Causes.{AreCaused, AreCounted, FailedSince, IsAnswered, IsCaused, IsCounted, IsLandedFor, IsTrueToOrigin, is_held_stale, is_over, was_usable}
use Rattle.lvm_session.specs.Dark.{hand_of_copy}
use Rattle.lvm_session.specs.Judging.{IsWithinVolume, copies_for, copies_in, is_missing, is_running, is_wanted_stale}
use Rattle.lvm_session.specs.Left.{clean_volumes, copy_updates, if_open, updates_left}
use Rattle.lvm_session.specs.Marks.{WantsStale, is_among, is_entailed}
use Rattle.lvm_session.specs.Owners.{AreOwned, AreRows, flies, same_owner}
use Rattle.lvm_session.specs.Placed.{ArePlaced}
use Rattle.lvm_session.specs.Requests.{IsOpenOne}
use Rattle.lvm_session.specs.Sound.{IsCopy, IsFitting, IsGoing, IsMove, IsOfKind, IsOn, IsSound, IsTold, count_if, has_number, hands_with, is_dark, is_hand, out_with, waiting_rows, with_row}
use Rattle.lvm_session.specs.State.{Core, State, is_there, state}
use Rattle.lvm_session.specs.Enabled.{same_status}
use Rattle.lvm_keeps.proofs.LeftLemmas.Updates.{one_if}
use Rattle.lvm_keeps.proofs.RequestsLemmas.{if_on}
use Rattle.lvm_keeps.proofs.Small.{both}
use Rattle.lvm_keeps_events.proofs.EndsLemmas.CopyReadFail.{pp_is}
use Rattle.lvm_keeps_events.proofs.Finding.{found}
use Rattle.lvm_move_keeps.specs.Keeping.{HasMovedTo, IsDoneMoving}
use Rattle.lvm_move_keeps.specs.Waiting.{IsUnadmitted}
use Rattle.lvm_move_keeps.proofs.IdleLemmas.{IsWholeMove, copy_is_two, no_hand, rests, whole_move}
use Rattle.lvm_move_keeps.proofs.MembersLemmas.{many_there_is}
use Rattle.lvm_move_keeps.proofs.StatusLemmas.{behind, clearings, fresh as still_fresh, held_is, mid, wanted_by, wanted_on}
use Rattle.lvm_move_keeps.proofs.EndingLemmas.{IsLeftOver, dark_keeps, none_flown, off_keeps}
use Rattle.lvm_move_keeps.proofs.WaitingLemmas.{no_targets, waiting_stays}

-- ---- what is left over

-- What the records leave: members may be lost, of the group and the shelf nothing else changes, and what is wanted is committed but for what it leaves behind.
pub record IsLeftMoved (s : State) (c : OpenCopy) (next : Descriptor) (last st : Stored) (homes : Homes) (device : Device) : Type 0 where
  pub loses : OnlyLoses s.core.status last s.device device
  pub left : MarksLeft next s.core.status last
  pub numbers : SpendsNumbers 1 s.core.status last
  pub committed : IsCommitted last
  pub sound : IsSoundStatus (seen last)
  pub sizes : device.sizes ≡ s.device.sizes
  pub falls : NoneFalls s.device.counts device.counts
  pub ready : IsReady device
  pub wants : WantsStale (λ p. is_entailed (record s.core { descriptor = next; copy = None; status = last; homes = homes }) p || false) last st

module _ (s : State) (c : OpenCopy) (next : Descriptor) (last st : Stored) (homes : Homes) (device : Device) (sound : IsSound s) (may : IsDoneMoving s c) (moved : HasMovedTo c.lv c.lp c.pp s.core.descriptor next)
    (is : IsLeftMoved s c next last st homes device) where
  abbrev old : Core
  old = s.core

  abbrev core : Core
  core = record old { descriptor = next; copy = None; status = st; homes = homes }

  abbrev now : State
  now = state device core

  was_on : IsOn s
  was_on = sound.on may.on

  abbrev going : IsGoing old
  going = was_on.going

  -- ---- the move that is done

  move : IsWholeMove old c
  move = whole_move old c may.done

  its : IsCopy old c
  its = subst (λ m. IfSome m (IsCopy old)) may.is_open going.copy

  still : is_out c.step ≡ false
  still = rests old c its move.runs move.whole

  empty : hand_of c.step ≡ None
  empty = no_hand old c its move.runs move.whole

  of_copy : {A : Type 0} (t : OpenCopy → A) (none : A) → t c ≡ none → option_map_or t old.copy none ≡ none
  of_copy t none same = ap (λ m. option_map_or t m none) may.is_open ∙ same

  -- ---- the parts of the group

  group_is : st.group ≡ record next { lvs = [] }
  group_is = ap (λ u. u.group) is.wants.rest ∙ is.loses.group ∙ sound.fitting.group ∙ sym moved.alike

  members_are : (disk : ℕ) → is_member next disk ≡ is_member old.descriptor disk
  members_are disk = ap (λ (g : Descriptor). is_member g disk) moved.alike

  fitting : IsFitting core
  fitting = let f = sound.fitting in record {
    valid = moved.valid;
    id = is.wants.rows.id ∙ is.loses.rows.id ∙ f.id ∙ sym (ap (λ (g : Descriptor). g.id) moved.alike);
    rows = λ disk. row_stays last.wanted st.wanted is.wants.rows disk ∙ row_stays old.status.wanted last.wanted is.loses.rows disk ∙ f.rows disk ∙ sym (members_are disk);
    group = group_is;
    entries = f.entries;
    notes = λ disk. f.notes disk ∙ sym (members_are disk);
    table = f.table;
    most = f.most;
    queue = f.queue;
    a_buffer = f.a_buffer;
    buffers = f.buffers;
    last = f.last;
    room = f.room;
  }

  told : IsTold core
  told = let t = sound.told in record { ordered = t.ordered; table = t.table; each = t.each; requests = t.requests }

  placed : ArePlaced device.sizes next old.origin.table
  placed = subst (λ (sizes : List ℕ). ArePlaced sizes next old.origin.table) (sym is.sizes) (subst (λ (g : Descriptor). ArePlaced s.device.sizes g old.origin.table) (sym moved.alike) sound.placed)

  -- ---- what is out

  flying : old.flying ≡ []
  flying = none_flown old old.flying s.device.flights was_on.rows may.idle

  unstarted : (disk : ℕ) → has st.writes.started disk ≡ false
  unstarted disk = ap (λ u. u.started disk) is.wants.rest ∙ (is.sound.idle is.committed.idle disk).1

  none_flies : (who : Owner) → flies old who ≡ false
  none_flies who = by (flies old who) (sym (ap (λ (rows : List Flown). count_by (λ (f : Flown). same_owner who f.owner) rows) flying) ∙ going.owned who)
    where
      by : (b : Bool) → count_by (λ (f : Flown). same_owner who f.owner) [] ≡ count_if b → b ≡ false
      by false e = refl
      by true e = absurd (omega (arith, e))

  flies_none : (who : Owner) → flies core who ≡ false
  flies_none (owner.Data id target) = none_flies (owner.Data id target)
  flies_none (owner.Status disk) = unstarted disk
  flies_none (owner.Note disk) = none_flies (owner.Note disk)
  flies_none owner.Copy = refl

  owned : AreOwned core
  owned who = ap (λ (rows : List Flown). count_by (λ (f : Flown). same_owner who f.owner) rows) flying ∙ sym (ap count_if (flies_none who))

  -- ---- buffers

  none_in_hand : (n : ℕ) → count_if (is_hand n (hand_of_copy old.copy)) ≡ 0
  none_in_hand n = ap (λ h. count_if (is_hand n h)) (of_copy (λ (k : OpenCopy). hand_of k.step) None empty)

  hands : (n : ℕ) → hands_with core n ≡ hands_with old n
  hands n = let none = none_in_hand n in omega (arith, none)

  lit : is_over old.power ≡ false
  lit = ap is_over may.on

  out : (n : ℕ) → out_with device core n ≡ out_with s.device old n
  out n =
      let a : count_by (λ (f : Flight). has_number n f.buf) device.flights ≡ 0 = ap (λ (fs : List Flight). count_by (λ (f : Flight). has_number n f.buf) fs) is.ready.flights in
      let b : count_by (has_number n) device.freed ≡ 0 = ap (λ (bs : List Buffer). count_by (has_number n) bs) is.ready.freed in
      let x : count_by (λ (f : Flight). has_number n f.buf) s.device.flights ≡ 0 = ap (λ (fs : List Flight). count_by (λ (f : Flight). has_number n f.buf) fs) may.idle in
      let y : count_by (has_number n) s.device.freed ≡ 0 = ap (λ (bs : List Buffer). count_by (has_number n) bs) (sound.lit not_dark).freed in
      let h = hands n in
      omega (arith, a, b, x, y, h)
    where
      not_dark : is_dark old.power ≡ false
      not_dark = ap is_dark may.on

  -- ---- requests

  no_row : has_row old c ≡ false
  no_row = ap (λ b. b || (is_running c && not (is_whole old c))) still ∙ ap (λ b. is_running c && not b) move.whole ∙ nothing (is_running c)
    where
      nothing : (b : Bool) → b && false ≡ false
      nothing true = refl
      nothing false = refl

  within : (o : Open) → IsWithinVolume old.descriptor o.request.ask → IsWithinVolume next o.request.ask
  within o it =
      let is_in = moved.volumes (lv_of o.request.ask) it.row it.volume in
      record {
        row = is_in.0;
        volume = is_in.1;
        within = subst (λ (n : ℕ). at_of o.request.ask + count_of o.request.ask ≤ volume_blocks next.mib n) (sym is_in.2)
            (subst (λ (m : ℕ). at_of o.request.ask + count_of o.request.ask ≤ volume_blocks m it.row.lps) (sym (ap (λ (g : Descriptor). g.mib) moved.alike)) it.within);
        some = it.some;
        fits = it.fits;
      }

  all_within : AllByRecursion (λ (o : Open). IsWithinVolume next o.request.ask) old.requests
  all_within = all_weaker (IsOpenOne old) (λ (o : Open). IsWithinVolume next o.request.ask) (λ o it. within o it.laid.within) old.requests going.requests

  ones : AllByRecursion (IsOpenOne core) old.requests
  ones = waiting_stays old core old.requests going.requests may.requests all_within

  -- a request that waits has no target, so nothing is held against one
  caused : (os : List Open) → AllByRecursion (IsOpenOne old) os → AllByRecursion IsUnadmitted os → AllByRecursion (AreCaused device core) os
  caused [] all held = tt
  caused (o ∷ os) all held = (
    λ waits. subst (AllByRecursion (IsCaused device core)) (sym (no_targets old core o (all.0.waits waits) (held.0 waits))) tt,
    caused os all.1 held.1,
  )

  -- ---- the status

  unwritten : (disk : ℕ) → (has st.writes.unstarted disk ≡ false) × (has st.writes.started disk ≡ false) × (has st.writes.written disk ≡ false) × (has st.writes.failed disk ≡ false)
  unwritten disk =
      let was = is.sound.idle is.committed.idle disk in (
        ap (λ u. u.unstarted disk) is.wants.rest ∙ was.0,
        ap (λ u. u.started disk) is.wants.rest ∙ was.1,
        ap (λ u. u.written disk) is.wants.rest ∙ was.2,
        ap (λ u. u.failed disk) is.wants.rest ∙ was.3,
      )

  no_update : st.in_flight ≡ None
  no_update = ap (λ u. u.in_flight) is.wants.rest ∙ is.committed.idle

  unheld : is_held (seen st) ≡ false
  unheld = ap is_held is.wants.rest ∙ by (is_held (seen last)) refl
    where
      by : (b : Bool) → is_held (seen last) ≡ b → is_held (seen last) ≡ false
      by false e = e
      by true e = absurd (let some : None ≡ Some last.committed = sym is.committed.idle ∙ is.sound.held e in cc some)

  status : IsSoundStatus (seen st)
  status = idle_is_sound (seen st) no_update unwritten unheld
      (λ disk gone. is.wants.missing disk ∙ ap (λ (t : Status). calls_missing t disk) (sym is.committed.same) ∙ ap (λ u. calls_missing u.committed disk) (sym is.wants.rest) ∙ gone)

  -- ---- numbers for updates

  many_before : many_there old.status ≤ count_by (λ (row : PvRow). is_there old row.disk) old.descriptor.pvs
  many_before = many_there_is old sound.fitting.group

  -- and no more are there now than the status says
  many_now : count_by (λ (row : PvRow). is_there core row.disk) next.pvs ≤ many_there last
  many_now = subst (λ (g : Descriptor). count_by (λ (row : PvRow). is_there core row.disk) next.pvs ≤ count_by (λ (row : PvRow). not (calls_missing last.wanted row.disk)) g.pvs) (sym (is.loses.group ∙ sound.fitting.group ∙ sym moved.alike))
      (count_with (λ (row : PvRow). Unit {0}) (λ (row : PvRow). not (calls_missing last.wanted row.disk)) (λ (row : PvRow). is_there core row.disk)
      (λ row any there. ap not (sym (is.wants.missing row.disk)) ∙ (both (is_member next row.disk) (not (calls_missing st.wanted row.disk)) there).1) next.pvs (any_known next.pvs))

  dirty_is : (lv : ℕ) → calls_dirty st.wanted lv ≡ calls_dirty old.status.wanted lv
  dirty_is lv = ap (λ (ds : List ℕ). list_any (λ (d : ℕ). d == lv) ds) (is.wants.dirty ∙ is.loses.dirty)

  clean_is : clean_volumes core ≡ clean_volumes old
  clean_is = count_alike (λ (row : LvRow). is_passive row.mode && not (calls_dirty st.wanted row.number)) (λ (row : LvRow). is_passive row.mode && not (calls_dirty old.status.wanted row.number))
      (λ row. ap (λ b. is_passive row.mode && not b) (dirty_is row.number)) next.lvs
      ∙ moved.modes (λ number mode. is_passive mode && not (calls_dirty old.status.wanted number))

  its_updates : option_map_or (copy_updates old) old.copy 0 ≡ 2
  its_updates = copy_is_two old c may.is_open move

  numbers : st.stamp.seq + updates_left core < 2 ^ 32
  numbers =
      let was = going.numbers in
      let spent = is.numbers.most in
      let stamp : st.stamp.seq ≡ last.stamp.seq = ap (λ u. u.stamp.seq) is.wants.rest in
      let one = one_if (not (same_status core.status.wanted (unwrap_or core.status.in_flight core.status.committed))) in
      let a = many_before in
      let b = many_now in
      let d = ap (if_open old.requests) clean_is in
      let e = its_updates in
      omega (arith, was, spent, stamp, one, a, b, d, e)

  -- ---- all that holds of it alone

  keeps_going : IsGoing core
  keeps_going = record {
    fitting = fitting;
    told = told;
    status = status;
    owned = owned;
    tickets = going.tickets;
    queue = going.queue ∙ of_copy (λ (k : OpenCopy). if has_row old k then with_row (step_row old k) (waiting_rows old.requests) else waiting_rows old.requests) (waiting_rows old.requests)
        (ap (λ b. if b then with_row (step_row old c) (waiting_rows old.requests) else waiting_rows old.requests) no_row);
    pinned = going.pinned;
    requests = ones;
    copy = tt;
    hands = λ n. let was = going.hands n in let same = hands n in omega (arith, was, same);
    behind = behind old next c last st homes moved is.left is.committed is.wants;
    reviewed = refl;
    fresh = still_fresh old next c last st homes moved is.left is.committed is.wants going move.fresh;
    clearings = λ p held clear. absurd (clearings old next c last st homes moved is.left is.committed is.wants p held clear);
    numbers = numbers;
  }

  keeps_on : IsOn now
  keeps_on = record {
    going = keeps_going;
    rows = subst (λ (rows : List Flown). AreRows core rows device.flights) (sym flying) (subst (AreRows core []) (sym is.ready.flights) tt);
    caused = caused old.requests going.requests may.requests;
    chosen = tt;
  }

  -- ---- faults

  fails_on : (disk : ℕ) → FailedSince s disk → FailedSince now disk
  fails_on disk rose = rose_after rose (is.falls.faults disk)

  missing_on : (disk : ℕ) → is_missing old disk ≡ true → is_missing core disk ≡ true
  missing_on disk gone = is.wants.missing disk ∙ is.loses.stays disk gone

  gone_now : (disk : ℕ) → calls_missing last.wanted disk ≡ true → is_missing core disk ≡ true
  gone_now disk gone = is.wants.missing disk ∙ gone

  counted : (o : Open) → AreCounted s o → AreCounted now o
  counted o all = all_weaker (IsCounted s) (IsCounted now) (λ t one. record { began = one.began; since = let a = one.since in let b = is.falls.faults t.pp.disk in omega (arith, a, b) }) o.request.targets.items all

  its_move : IsMove old c
  its_move = subst (λ b. IsOfKind b old c) move.moves its.kind

  -- no copy was usable where none was
  none_usable : (ask : Ask) → list_any (was_usable old) (copies_for old ask) ≡ false → list_any (was_usable core) (copies_for core ask) ≡ false
  none_usable ask none = by (list_any (was_usable core) (copies_for core ask)) refl
    where
      lp_is : partition_of next.mib (at_of ask) ≡ partition_of old.descriptor.mib (at_of ask)
      lp_is = ap (λ (g : Descriptor). partition_of g.mib (at_of ask)) moved.alike

      by : (b : Bool) → list_any (was_usable core) (copies_for core ask) ≡ b → list_any (was_usable core) (copies_for core ask) ≡ false
      by false e = e
      by true e =
          let one = found (was_usable core) (copies_for core ask) e in
          let among : is_among (copies_in next (lv_of ask) (partition_of old.descriptor.mib (at_of ask))) one.0 ≡ true =
          ap (λ n. is_among (copies_in next (lv_of ask) n) one.0) (sym lp_is) ∙ any_passes_from_place (is_pp one.0) (copies_for core ask) one.1 one.0 one.2 (own_pp one.0) in
          ⊎_elim
          (λ (of_old : is_among (copies_for old ask) one.0 ≡ true).
          let at = found (is_pp one.0) (copies_for old ask) of_old in
          not_so (sym none ∙ any_passes_from_place (was_usable old) (copies_for old ask) at.1 one.0 (at.2 ∙ ap (λ (q : Pp). Some q) (pp_is one.0 at.0 at.3)) one.3))
          (λ (to : one.0 ≡ c.pp). not_so (sym (ap (λ p. not (calls_stale old.origin.table p) && not (calls_missing old.origin.table p.disk)) to ∙ ap (λ b. not b && not (calls_missing old.origin.table c.pp.disk)) its_move.called) ∙ one.3))
          (moved.goes (lv_of ask) (partition_of old.descriptor.mib (at_of ask)) one.0 among)

  target_on : (t : Target) → TargetHasFailed s.device t → TargetHasFailed device t
  target_on t rose = rose_after rose (is.falls.faults t.pp.disk)

  landed_on : (o : Open) (how : Outcome) → IsLandedFor s o how → IsLandedFor now o how
  landed_on o outcome.Done why = why
  landed_on o outcome.Got why = why
  landed_on o outcome.Lost why = (why.0, all_weaker (λ (t : Target). t.usable ≡ true → TargetHasFailed s.device t) (λ (t : Target). t.usable ≡ true → TargetHasFailed device t) (λ t each usable. target_on t (each usable)) o.request.targets.items why.1)
  landed_on o outcome.ReadFailed why = (why.0, all_weaker (λ (t : Target). (is_failed t.state ≡ true) × TargetHasFailed s.device t) (λ (t : Target). (is_failed t.state ≡ true) × TargetHasFailed device t) (λ t each. (each.0, target_on t each.1)) o.request.targets.items why.1)
  landed_on o outcome.NoFresh (inl some) = inl (some.0, fails_on some.0 some.1)
  landed_on o outcome.NoFresh (inr none) = inr (none_usable o.request.ask none)
  landed_on o outcome.Off why = not_so (sym lit ∙ why.0)
  landed_on o outcome.Dark why = why

  -- ---- why disks are missing and copies stale

  is_placed : (p : Pp) → IsPassedOver next old.status last p → is_missing core p.disk ≡ true
  is_placed p passed = gone_now p.disk (second_with_first (is_member next p.disk) (calls_missing last.wanted p.disk)
      (is_member_of next p (copy_is_placed next moved.valid passed.its.row passed.its.lp p passed.its.volume passed.its.one))
      (subst (λ (g : Descriptor). IsFalse (members_there g last.wanted p.disk)) (is.loses.group ∙ sound.fitting.group ∙ sym moved.alike) passed.absent))

  origin : IsTrueToOrigin now
  origin = let was = sound.origin in record {
    since = λ disk. let a = was.since disk in let b = is.falls.faults disk in omega (arith, a, b);
    votes = subst (λ (g : Descriptor). is_enough_to_write g (votes_in g (members_there g old.origin.table)) ≡ true) (sym moved.alike) was.votes;
    rows = λ disk. was.rows disk ∙ sym (members_are disk);
    still_missing = λ disk gone. missing_on disk (was.still_missing disk gone);
    missing = λ disk gone. by_missing disk (calls_missing old.status.wanted disk) refl (sym (is.wants.missing disk) ∙ gone);
    stale = λ p now. by_stale p (wanted_by old next c last st homes moved is.left is.committed is.wants p (wanted_now p (is_held_stale core p) refl now));
  }
    where
      by_missing : (disk : ℕ) (b : Bool) → calls_missing old.status.wanted disk ≡ b → calls_missing last.wanted disk ≡ true → (calls_missing old.origin.table disk ≡ true) ⊎ FailedSince now disk
      by_missing disk true before gone = ⊎_elim (λ first. inl first) (λ rose. inr (fails_on disk rose)) (sound.origin.missing disk before)
      by_missing disk false before gone = inr (rose_before (sound.origin.since disk) (is.loses.lost disk gone before).1)

      wanted_now : (p : Pp) (b : Bool) → is_held_stale core p ≡ b → is_held_stale core p || is_wanted_stale core p ≡ true → is_wanted_stale core p ≡ true
      wanted_now p true held any = wanted_on old next c last st homes moved is.left is.committed is.wants p (sym (held_is old next c last st homes moved is.left is.committed is.wants p) ∙ held)
      wanted_now p false held any = sym (ap (λ b. b || is_wanted_stale core p) held) ∙ any

      before : (p : Pp) → (calls_stale old.origin.table p ≡ true) ⊎ (is_missing old p.disk ≡ true) ⊎ FailedSince s p.disk
          → (calls_stale old.origin.table p ≡ true) ⊎ (is_missing core p.disk ≡ true) ⊎ FailedSince now p.disk
      before p (inl first) = inl first
      before p (inr (inl gone)) = inr (inl (missing_on p.disk gone))
      before p (inr (inr rose)) = inr (inr (fails_on p.disk rose))

      by_stale : (p : Pp) → (calls_stale last.wanted p ≡ true) ⊎ (is_entailed (mid old next c last st homes moved is.left is.committed) p ≡ true)
          → (calls_stale old.origin.table p ≡ true) ⊎ (is_missing core p.disk ≡ true) ⊎ FailedSince now p.disk
      by_stale p (inl stale) = ⊎_elim
          (λ (wanted : calls_stale old.status.wanted p ≡ true). before p (sound.origin.stale p (or_right (is_held_stale old p) (is_wanted_stale old p) wanted)))
          (λ (passed : IsPassedOver next old.status last p). inr (inl (is_placed p passed)))
          (is.left.only p stale)
      by_stale p (inr entailed) = inr (inl (gone_now p.disk (left_behind (record old { descriptor = next; copy = None; status = last; homes = homes }) p entailed).gone))

  pub keeps : IsSound now
  keeps = record {
    fitting = fitting;
    told = told;
    placed = placed;
    buffers = λ n. let same = out n in let was = sound.buffers n in omega (arith, same, was);
    none_lost = λ alight n. out n ∙ sound.none_lost alight n;
    on = λ e. keeps_on;
    lit = λ e. record { power = is.ready.power; freed = is.ready.freed };
    dark = λ e. not_so (sym (ap is_dark may.on) ∙ e);
    off = λ e. absurd (let no : power.On ≡ power.Off = sym may.on ∙ e in cc no);
    over = λ e. not_so (sym lit ∙ e);
    stuck = λ e. absurd (let no : power.On ≡ power.Stuck = sym may.on ∙ e in cc no);
    counted = all_weaker (AreCounted s) (AreCounted now) counted old.requests sound.counted;
    answered = all_weaker (IsAnswered s) (IsAnswered now) (λ o why. if_on (IsLandedFor s o) (IsLandedFor now o) (landed_on o) o.landed why) old.requests sound.answered;
    copy = tt;
    origin = origin;
  }

-- ---- the law

module _ (s : State) (c : OpenCopy) (next : Descriptor) (content : List ℕ) (before after : ℕ) (new : State) (sound : IsSound s) (may : IsDoneMoving s c) (moved : HasMovedTo c.lv c.lp c.pp s.core.descriptor next) (last : Stored) (homes : Homes)
    (leaves : CommitLeaves next (IsOfCommit content s.core.status last) before after s.core.status last s.device new.device) (held : HoldsWithin s.core.status last) (falls : NoneFalls s.device.counts new.device.counts) where
  pub over : IsLeftOver s next last new.device
  over = record { valid = moved.valid; alike = moved.alike; loses = leaves.loses; left = leaves.left; held = held; sizes = leaves.keeps.sizes; falls = falls }

  by_end : (how : CommitEnd) (answer : Result (Unit {0}) CommitFault) → DescriptorEnds content 0 before s.core.status last s.core.homes homes s.device new.device how → MoveEnds next last homes s.core new.core how answer → (answer ≡ Err fault.Stuck → ⊥) → IsSound new
  by_end (commit_end.Done buf) answer ends goes heard = subst (λ (core : Core). IsSound (state new.device core)) (sym goes.1.is)
      (keeps s c next last new.core.status homes new.device sound may moved (record {
        loses = leaves.loses;
        left = leaves.left;
        numbers = leaves.numbers;
        committed = ends.committed;
        sound = settled_sound last ends.committed (leaves.forgotten ((sound.on may.on).going.status.idle));
        sizes = leaves.keeps.sizes;
        falls = falls;
        ready = ends.back.ready;
        wants = goes.1.marks;
      }))
  by_end (commit_end.WentOff have total buf) answer ends goes heard = subst (λ (core : Core). IsSound (state new.device core)) (sym goes.1) (off_keeps s c next last homes new.device have total sound may over ends.back.ready ends.lost)
  by_end commit_end.Dark answer ends goes heard = subst (λ (core : Core). IsSound (state new.device core)) (sym goes.1) (dark_keeps s c next last homes new.device sound may over ends.0)
  by_end commit_end.Stuck answer ends goes heard = absurd (heard goes.0)

pub move_keeps_sound : MoveKeepsSound
move_keeps_sound s c next content before after new answer sound may moved (Misses disk missing is same patience) heard = subst IsSound (sym same) sound
move_keeps_sound s c next content before after new answer sound may moved (Writes there w) heard =
    by_end s c next content before after new sound may moved w.last w.homes w.leaves w.held (path_falls s.device new.device w.kept) w.how answer w.ends w.goes heard

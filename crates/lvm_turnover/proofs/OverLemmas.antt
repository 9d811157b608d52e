-- What a session comes to that is one of the next descriptor, once both records stand.
use Rattle.std.proofs.Common.{◌≡◌, inr, ℕ, ◌<◌, ◌^◌, ◌-◌, Bool, true, false, ◌&&◌, not, List, refl, sym, ◌∙◌, ap, subst, arith}
use Rattle.std.specs.Prelude.{IsTrue, IsFalse, IfSome, [], length, replicate, Result}
use Rattle.std.proofs.lemmas.Bool.{false≢true}
use Rattle.lvm_num.specs.declared.record.Stamp.{Stamp}
use Rattle.lvm_num.specs.declared.descriptor.Descriptor.{Descriptor}
use Rattle.lvm_num.specs.declared.status.Status.{Status}
use Rattle.lvm_num.specs.Buffer.{Buffer, Sector}
use Rattle.lvm_num.specs.Disks.{Disks, has}
use Rattle.lvm_num.specs.DescriptorBytes.{descriptor_bytes}
use Rattle.lvm_num.specs.declared.descriptor.LvRow.{LvRow}
use Rattle.lvm_num.specs.Among.{IsOneOf}
use Rattle.lvm_num.specs.Status.{calls_missing}
use Rattle.lvm_num.specs.Descriptor.{IsValid, is_member}
use Rattle.lvm_disk.specs.Counts.{NoneFalls}
use Rattle.lvm_disk.proofs.CountingLemmas.{rose_after}
use Rattle.lvm_num.proofs.Booleans.{second_holds}
use Rattle.lvm_write.proofs.WrittenLemmas.Writing.{if_told, told_at, both_from}
use Rattle.lvm_disk.specs.Device.{Device, image_of}
use Rattle.lvm_disk.specs.Paths.{DeviceStep, Path}
use Rattle.lvm_disk.proofs.PathsLemmas.{map-path, append-path, last-path}
use Rattle.lvm_kept.specs.Plans.{ChangesBy}
use Rattle.lvm_mwc.specs.Cache.{has_disk}
use Rattle.lvm_mwc.specs.Entries.{AreEntries}
use Rattle.lvm_change_laws.specs.Rule.{members_among, IsShownOn}
use Rattle.lvm_status.specs.Update.{Stored, members_there, seen}
use Rattle.lvm_status.specs.Calls.{first_updates}
use Rattle.lvm_steps.specs.Moments.{StaysKept}
use Rattle.lvm_rec.specs.declared.homes.Homes.{Homes}
use Rattle.lvm_write.specs.Written.{KeepsShelf}
use Rattle.lvm_write.proofs.PartsLemmas.Transfers.{keeps_then, spends_then}
use Rattle.lvm_commit.specs.Committed.{next_stamp}
use Rattle.lvm_commit.specs.LawsOfFinding.{FindsNoMoreOn}
use Rattle.lvm_commit.specs.Settling.{there, IsOfStatus, IsOfCommit, OnlyLoses, MarksLeft, SpendsNumbers, SessionIsHeld, WantsMarks, StatusEnds, CommitLeaves, StaysHeld, AreWell}
use Rattle.lvm_commit.specs.Rounds.{MarksRound}
use Rattle.lvm_commit.proofs.LawsOfFindingLemmas.NoMore.{then_no_more}
use Rattle.lvm_commit.proofs.RoundsLemmas.Leaving.{wants_marks, left_then}
use Rattle.lvm_commit.proofs.SettlingLemmas.Chaining.{keeps_wider, path_counts, loses_less, loses_then}
use Rattle.lvm_commit.proofs.SettlingLemmas.Round.{no_more_there}
use Rattle.lvm_session.specs.State.{Core, State, state, is_there}
use Rattle.lvm_core.specs.declared.fault.CommitFault.{CommitFault}
use Rattle.lvm_core.specs.Held.{IsHeld}
use Rattle.lvm_core.specs.Committing.{is_in, with_one_out}
use Rattle.lvm_core.specs.Steps.{CoreEnds}
use Rattle.lvm_core.proofs.StepsLemmas.Ends.{core_ends, status_ends, status_numbered}
use Rattle.lvm_change.specs.Transition.{HoldsBy, ComesBack, HasChanged, IsBefore, IsOfTransition, TransitionGives}
use Rattle.lvm_change.specs.declared.turn.Transition.{Transition}
use Rattle.lvm_change.specs.declared.turn.TransitionEnd.TheVariants as turned
use Rattle.lvm_change.proofs.PartingLemmas.{parts_loses, parts_only, parts_left, parts_round, parts_forgotten}
use Rattle.lvm_turnover.specs.declared.change.Change.{Change}
use Rattle.lvm_turnover.specs.Changing.{IsNext}
use Rattle.lvm_turnover.specs.Turning.{IsTurnBy, MayTurnSession, after_turn, cache_after, core_after, disks_leaving, unreached, IsSettledBy, TakesOver}
use Rattle.lvm_turnover.proofs.BeginningLemmas.{same_id, same_mib, same_volumes, still_inside, next_member, session_there, begun_group, begun_wanted, begun_missing, begun_dirty, begun_rows, begun_id, begun_forgotten, begun_there, begun_less, begun_many, copy_apart, stale_before, stale_after, missing_before, missing_after, unreached_next, unreached_was, first_there, first_reached, first_group, first_stamp, first_committed}
use Rattle.lvm_turnover.proofs.LeavingLemmas.{Writes}
use Rattle.lvm_turnover.proofs.OutLemmas.{entries_after, has_after, still_after}
use Rattle.lvm_turnover.proofs.MarksLemmas.{marks_kept}
use Rattle.lvm_turnover.proofs.PhaseLemmas.{before_held, turn_kept, turn_finds, turn_rises, turn_writes, unreached_failed}
use Rattle.lvm_turnover.proofs.ShownLemmas.{not_risen, still_shown}
use Rattle.lvm_turnover.proofs.StandingLemmas.{Fits, fits_by}

module _ (c : Change) (old : State) (may : MayTurnSession c old) (turn : Transition) (by : IsTurnBy c old.core.descriptor turn) (slots : Homes) (p q r : ℕ) (m : Device) (written : ℕ) (buf : Buffer)
    (gives : TransitionGives turn (is_there old.core) old.core.status.stamp old.core.homes slots 0 p q old.device m (turned.Done written buf))
    (new : State) (answer : Result (Unit {0}) CommitFault) (over : TakesOver c written slots q r m old new answer) (all : old.core.pool ≡ replicate (length old.core.pool) false) where
  abbrev next : Descriptor
  next = c.next

  abbrev b : Stored
  b = over.parts.begun

  abbrev bi : seen b ≡ record (first_updates c.tables.told c.tables.group) { stamp = after_turn old.core.status.stamp }
  bi = over.parts.begun_is

  abbrev first : Stored
  first = over.first

  -- the session goes on without the member that leaves
  abbrev on : Core
  on = core_after c.leaving old.core

  abbrev s : IsSettledBy q r (state m (record on { descriptor = next; pool = with_one_out old.core.pool; status = first; homes = slots })) new answer
  s = over.settles

  back : ComesBack (is_there old.core) (has written) 0 old.device m buf
  back = gives.ends.0

  has_turned : HasChanged turn (IsBefore turn (is_there old.core) old.core.status.stamp old.core.homes old.device) (has written) (after_turn old.core.status.stamp) old.core.homes slots m
  has_turned = gives.ends.1

  valid : IsValid next
  valid = may.change.valid_next

  there_is : there first ≡ members_among next (has written)
  there_is = first_there c old may b bi written back.within first over.parts.parts

  group : first.group ≡ record next { lvs = [] }
  group = first_group c old may b bi written back.within first over.parts.parts

  reached : (e : ℕ) → IsTrue (there first e) → IsTrue (has written e)
  reached = first_reached c old may b bi written back.within first over.parts.parts

  -- ---- the session

  pub over_ends : CoreEnds next (record on { descriptor = next }) new.core s.how answer
  over_ends = core_ends (record on { descriptor = next }) (record on { descriptor = next; pool = with_one_out old.core.pool; status = s.last; homes = s.homes }) new.core refl all s.how answer
      (status_numbered 0 q first s.last slots s.homes m new.device s.how refl s.ends) s.goes

  same : (new.core.status ≡ s.last) × (new.core.homes ≡ s.homes)
  same = status_ends next (record on { descriptor = next; pool = with_one_out old.core.pool; status = s.last; homes = s.homes }) new.core s.how answer s.goes

  abbrev last : Stored
  last = new.core.status

  pub over_status : StatusEnds 0 q first last slots new.core.homes m new.device s.how
  over_status = subst (λ (u : Stored). StatusEnds 0 q first u slots new.core.homes m new.device s.how) (sym same.0) (subst (λ (h : Homes). StatusEnds 0 q first s.last slots h m new.device s.how) (sym same.1) s.ends)

  leaves : CommitLeaves next (IsOfStatus first last) q r first last m new.device
  leaves = subst (λ (u : Stored). CommitLeaves next (IsOfStatus first u) q r first u m new.device) (sym same.0) s.leaves

  -- ---- what is wanted

  rises : NoneFalls m.counts new.device.counts
  rises = path_counts s.kept

  left_part : (a b : Bool) → a && b ≡ true → a ≡ true
  left_part true b is = refl
  left_part false b is = absurd (false≢true is)

  one : OnlyLoses b first old.device m
  one = parts_only next (unreached next old.core written) b first over.parts.parts old.device m (λ e is. let its = unreached_failed old written m buf back e (unreached_was c old may written e is) in (begun_there c old may b bi e ∙ (left_part (members_there next old.core.status.wanted e) (not (has written e)) is), its.1))

  pub over_loses : OnlyLoses b last old.device new.device
  over_loses = loses_then b first last old.device m new.device (turn_rises c old may turn by slots p q m (turned.Done written buf) gives) rises one leaves.loses

  pub over_left : MarksLeft next b last
  over_left = left_then next b first last valid (loses_less b first old.device m one) (loses_less first last m new.device leaves.loses) (parts_left next (unreached next old.core written) b first over.parts.parts valid (unreached_next c old may written)) leaves.left

  pub over_fits : AreEntries old.core.cache.entries → ((disk : ℕ) → has_disk old.core.cache disk ≡ is_member old.core.descriptor disk) → Fits old next last (cache_after c.leaving old.core.cache) new.device.sizes
  over_fits entries notes = fits_by old next b last (cache_after c.leaving old.core.cache) old.device new.device valid (still_inside c old may) (same_mib c old may) (begun_group c old may b bi) (begun_id c old may b bi) (begun_rows c old may b bi)
      (λ e member is. begun_missing c old may b bi e ∙ ap (λ (t : Bool). t && calls_missing old.core.status.wanted e) member ∙ is) (leaves.forgotten (parts_forgotten next (unreached next old.core written) b first over.parts.parts (begun_forgotten c old may b bi))) over_loses (entries_after c.leaving old.core.cache entries)
      (λ disk. has_after c.leaving old.core.cache disk ∙ ap (λ (t : Bool). t && not (is_in (disks_leaving c.leaving) disk)) (notes disk) ∙ sym (next_member c old may disk)) (λ disk. still_after c.leaving old.core.cache disk (may.still disk))
      new.device.sizes (leaves.keeps.sizes ∙ gives.keeps.sizes)

  pub over_epoch : last.stamp.epoch ≡ old.core.status.stamp.epoch
  over_epoch = leaves.numbers.epoch ∙ ap (λ (x : Stamp). x.epoch) (first_stamp c old may b bi written back.within first over.parts.parts)

  numbers : SpendsNumbers 3 old.core.status last
  numbers =
      let seq = ap (λ (x : Stamp). x.seq) (first_stamp c old may b bi written back.within first over.parts.parts) in
      let goes_up = leaves.numbers.rises in
      let most = leaves.numbers.most in
      let less = no_more_there b first one.group one.stays in
      let many = begun_many c old may b bi in
      record { epoch = over_epoch; rises = omega (arith, seq, goes_up); most = omega (arith, seq, most, less, many) }

  -- ---- what is written

  of_status : (d k : ℕ) (value : Sector) → IsOfStatus first last d k value → IsOfCommit (descriptor_bytes next) old.core.status last d k value
  of_status d k value (write, states, its) =
      let seq = ap (λ (x : Stamp). x.seq) (first_stamp c old may b bi written back.within first over.parts.parts) in
      let low = its.later in (
        write,
        inr (record { kind = states.kind; status = states.status; own = states.own ∙ ap (λ (g : Descriptor). g.id) group ∙ same_id c old may ∙ ap (λ (g : Descriptor). g.id) may.commit.settle.own; content = states.content }),
        record {
          frames = its.frames;
          slots = its.slots;
          targets = λ disk is. subst (λ (set : Disks). IsTrue (set disk)) (sym (session_there c old may)) (back.within disk (reached disk (its.targets disk is)));
          epoch = its.epoch ∙ ap (λ (x : Stamp). x.epoch) (first_stamp c old may b bi written back.within first over.parts.parts);
          later = omega (arith, seq, low);
          latest = its.latest;
          its = its.its;
        },
      )

  outside : (d : ℕ) → IsFalse (is_there old.core d) → IsFalse (there first d)
  outside d off = by_test (there first d) refl
    where
      by_test : (t : Bool) → there first d ≡ t → t ≡ false
      by_test true is = absurd (false≢true (sym off ∙ back.within d (reached d is)))
      by_test false is = refl

  writes : KeepsShelf (is_there old.core) (IsOfCommit (descriptor_bytes next) old.core.status last) old.device new.device
  writes =
      let seq = ap (λ (x : Stamp). x.seq) (first_stamp c old may b bi written back.within first over.parts.parts) in
      let goes_up = leaves.numbers.rises in
      keeps_then (is_there old.core) (IsOfCommit (descriptor_bytes next) old.core.status last) old.device m new.device
      (turn_writes c old may turn by slots p q m (turned.Done written buf) gives last (omega (arith, seq, goes_up)))
      (keeps_wider (there first) (is_there old.core) (IsOfStatus first last) (IsOfCommit (descriptor_bytes next) old.core.status last) m new.device outside of_status leaves.keeps)

  -- ---- what is held and kept

  round : MarksRound next b first
  round = parts_round next (unreached next old.core written) b first over.parts.parts (unreached_next c old may written)

  pub first_held : IsHeld old.device old.core → SessionIsHeld m next first slots
  first_held held =
      let stands = has_turned.held (before_held c old may turn by slots p q m (turned.Done written buf) gives held) in
      let a : HoldsBy m next turn.told.now (members_among next (has written)) (after_turn old.core.status.stamp) slots = subst (λ (g : Descriptor). HoldsBy m g turn.told.now (members_among g (has written)) (after_turn old.core.status.stamp) slots) by.next stands in
      let t : turn.told.now ≡ first.committed = by.told ∙ sym (first_committed c old may b bi written back.within first over.parts.parts) in
      let e : HoldsBy m next first.committed (members_among next (has written)) (after_turn old.core.status.stamp) slots = subst (λ (x : Status). HoldsBy m next x (members_among next (has written)) (after_turn old.core.status.stamp) slots) t a in
      let f : HoldsBy m next first.committed (there first) (after_turn old.core.status.stamp) slots = subst (λ (set : Disks). HoldsBy m next first.committed set (after_turn old.core.status.stamp) slots) (sym there_is) e in
      subst (λ (x : Stamp). HoldsBy m next first.committed (there first) x slots) (sym (first_stamp c old may b bi written back.within first over.parts.parts)) f

  first_wants : SessionIsHeld m next first slots → WantsMarks m next first
  first_wants held = wants_marks next b first valid round c.tables.told (parts_loses next (unreached next old.core written) b first over.parts.parts).stale (parts_loses next (unreached next old.core written) b first over.parts.parts).dirty
      (sym (begun_wanted c old may b bi)) (first_committed c old may b bi written back.within first over.parts.parts) m slots held

  kept : Path DeviceStep (λ d. IsHeld old.device old.core → StaysKept old.device d) old.device new.device
  kept =
      let before = turn_kept c old may turn by slots p q m (turned.Done written buf) gives in
      append-path before (map-path (λ d. IsHeld old.device old.core → StaysKept old.device d) (λ d is held facts was. is (first_wants (first_held held)) (first_held held) facts (last-path before held facts was)) s.kept)

  finds : IsHeld old.device old.core → FindsNoMoreOn next old.device new.device
  finds held = then_no_more old.device m new.device (λ was is. ChangesBy (IsOfTransition turn (is_there old.core) (next_stamp old.core.status.stamp) (after_turn old.core.status.stamp)) (image_of old.device.sizes was) (image_of m.sizes is)) gives.keeps.media
      (s.finds next (sym group) (first_held held)) next (turn_finds c old may turn by slots p q m (turned.Done written buf) gives held)

  pub over_writes : Writes next (disks_leaving c.leaving) p r old new
  over_writes = record {
    writes = writes;
    status = marks_kept (IsNext next) (disks_leaving c.leaving) next old new b (inr refl) (inr (next, refl, begun_group c old may b bi)) (stale_after c old may b bi) (stale_before c old may b bi) (missing_after c old may b bi) (missing_before c old may b bi) (begun_dirty c old may b bi)
        (begun_less c old may b bi) (session_there c old may) (λ row lp pp volume copy. copy_apart c old may row lp pp (subst (λ (rows : List LvRow). IsOneOf rows row) (same_volumes c old may) volume) copy) over_loses over_left;
    numbers = numbers;
    kept = kept;
    finds = finds;
    spends = spends_then p q r old.device m new.device gives.spends leaves.spends;
  }

  -- no transfer to a member that isn't missing has failed
  pub over_well : AreWell last m new.device → AreWell last old.device new.device
  over_well well d is = well d is ∙ back.well d (reached d (loses_less first last m new.device leaves.loses d is))

  pub over_held : StaysHeld first last slots new.core.homes m new.device → IsHeld old.device old.core → SessionIsHeld new.device next last new.core.homes
  over_held stays held = (stays next (sym group) (first_held held)).0

  -- a disk that left goes on showing the next descriptor
  pub over_shown : IsHeld old.device old.core → (disk : ℕ) → IsTrue (has written disk) → is_member next disk ≡ false → IfSome new.device.media (λ media. IsShownOn (image_of new.device.sizes media) next old.core.homes disk)
  over_shown held disk is out = if_told new.device.media (λ media. IsShownOn (image_of new.device.sizes media) next old.core.homes disk) (λ k told.
      let back_to = both_from m.media new.device.media (λ a z. ChangesBy (IsOfStatus first last) (image_of m.sizes a) (image_of new.device.sizes z)) k leaves.keeps.media told in
      let shown = has_turned.shown (before_held c old may turn by slots p q m (turned.Done written buf) gives held) in
      let on_turn : IsShownOn (image_of m.sizes back_to.0) turn.next.now old.core.homes disk = told_at m.media (λ media. (d : ℕ) → IsTrue (has written d) → IsShownOn (image_of m.sizes media) turn.next.now old.core.homes d) back_to.0 back_to.1 shown disk is in
      still_shown first last next old.core.homes (image_of m.sizes back_to.0) (image_of new.device.sizes k) back_to.2 disk apart (subst (λ (g : Descriptor). IsShownOn (image_of m.sizes back_to.0) g old.core.homes disk) by.next on_turn))
    where
      apart : IsFalse (there first disk)
      apart = by_test (there first disk) refl
        where
          by_test : (t : Bool) → there first disk ≡ t → t ≡ false
          by_test true its = absurd (false≢true (sym out ∙ second_holds (has written disk) (is_member next disk) (subst (λ (set : Disks). IsTrue (set disk)) there_is its)))
          by_test false its = refl

  -- it was written where no transfer to it failed
  pub over_written : (disk : ℕ) → IsTrue (is_there old.core disk) → old.device.counts.faults disk < 2 ^ 64 - 1 → new.device.counts.faults disk ≡ old.device.counts.faults disk → IsTrue (has written disk)
  over_written disk was low well = by_test (has written disk) refl
    where
      by_test : (t : Bool) → has written disk ≡ t → t ≡ true
      by_test true is = refl
      by_test false isnt = absurd (not_risen (old.device.counts.faults disk) (new.device.counts.faults disk) low (rose_after (back.badly disk was isnt) (rises.faults disk)) well)

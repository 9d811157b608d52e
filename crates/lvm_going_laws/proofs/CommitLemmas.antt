-- What the commit of a move leaves of its session, however it ends.
use Rattle.std.proofs.Common.{◌≡◌, ◌⊎◌, inl, inr, ⊎_elim, ◌++◌, ℕ, ◌<◌, ◌^◌, Bool, true, false, ◌&&◌, not, if◌then◌else◌, List, [], ◌∷◌, append-nil, map, Option, Some, None, Result, Ok, Err, refl, sym, subst, ◌∙◌, ap}
use Rattle.std.specs.Prelude.{◌≢◌, IfSome}
use Rattle.std.specs.List.{AllByRecursion}
use Rattle.lvm_num.specs.declared.descriptor.Descriptor.{Descriptor}
use Rattle.lvm_num.specs.declared.descriptor.LvRow.{LvRow}
use Rattle.lvm_num.specs.declared.place.Pp.{Pp}
use Rattle.lvm_num.specs.declared.record.Kind.TheVariants as kind
use Rattle.lvm_num.specs.declared.record.Stamp.{Stamp}
use Rattle.lvm_num.specs.declared.status.Status.{Status}
use Rattle.lvm_num.specs.DescriptorBytes.{descriptor_bytes}
use Rattle.lvm_num.specs.Buffer.{Buffer}
use Rattle.lvm_num.specs.Geometry.{partition_of}
use Rattle.lvm_num.specs.Status.{calls_missing, calls_stale}
use Rattle.lvm_num.proofs.Lists.{all_weaker, of_told}
use Rattle.lvm_disk.specs.Counts.{NoneFalls}
use Rattle.lvm_disk.specs.Device.{Device, Flight, Image, IsInFlight, MayLeave, Media, image_of}
use Rattle.lvm_disk.proofs.CountingLemmas.{none_falls_at_once, rose_after, rose_before}
use Rattle.lvm_vol.specs.declared.entry.Outcome.{Outcome}
use Rattle.lvm_vol.specs.declared.entry.Outcome.TheVariants as outcome
use Rattle.lvm_vol.specs.declared.entry.Vol.TheVariants.{Lv}
use Rattle.lvm_vol.specs.Facts.{Request as Asked, Fact, Making, Made, Split, Removing, Removed, Begun, Landed, Taken, Cut, On, is_over}
use Rattle.lvm_vol.specs.Legal.{IsLater}
use Rattle.lvm_vol.specs.Log.{Log, cut_log, is_uncut, landed_fact, with_fact}
use Rattle.lvm_rec.specs.declared.homes.Homes.{Homes}
use Rattle.lvm_kept.specs.Contents.{contents_of}
use Rattle.lvm_kept.specs.Plans.{ChangesBy}
use Rattle.lvm_kept.specs.Group.{IsFound}
use Rattle.lvm_path.specs.Targets.{is_begun}
use Rattle.lvm_status.specs.Table.{has_row}
use Rattle.lvm_status.specs.Update.{Stored, Updates}
use Rattle.lvm_steps.specs.Behind.{StampsAreEarlier, beginning_at}
use Rattle.lvm_steps.specs.Laws.{IsOtherOrEarlier}
use Rattle.lvm_steps.proofs.LawsLemmas.Clock.{later_joins}
use Rattle.lvm_steps.proofs.LawsLemmas.Shelves.{earlier_stays_behind, still_keeps_before}
use Rattle.lvm_steps.proofs.LawsLemmas.Stamps.{session_is_before_later}
use Rattle.lvm_steps.proofs.MakingLemmas.Making.{media_may}
use Rattle.lvm_write.proofs.WrittenLemmas.Writing.{both_map, changes_more}
use Rattle.lvm_commit.specs.declared.commit.CommitEnd.{CommitEnd}
use Rattle.lvm_commit.specs.declared.commit.CommitEnd.TheVariants as commit_end
use Rattle.lvm_commit.specs.Committed.{IsAlike}
use Rattle.lvm_commit.specs.LawsOfFinding.{FindsNoMore}
use Rattle.lvm_commit.specs.Settling.{ComesHeld, CommitLeaves, DescriptorEnds, EndsCommitted, EndsWithoutQuorum, IsOfCommit, IsPlain}
use Rattle.lvm_write.specs.Written.{IsDarkened, IsGivenUp}
use Rattle.lvm_core.specs.Committing.{with_one_out}
use Rattle.lvm_core.specs.declared.fault.CommitFault.{CommitFault}
use Rattle.lvm_core.specs.declared.fault.CommitFault.TheVariants as fault
use Rattle.lvm_core.proofs.CommittingLemmas.Spanning.{path_falls}
use Rattle.lvm_session.specs.declared.bringing.OpenCopy.{OpenCopy}
use Rattle.lvm_session.specs.declared.open.Open.{Open}
use Rattle.lvm_session.specs.declared.open.Power.TheVariants as power
use Rattle.lvm_session.specs.declared.origin.Origin.{Origin}
use Rattle.lvm_session.specs.Calls.{closed}
use Rattle.lvm_session.specs.Causes.{AnyFailedSince, was_usable}
use Rattle.lvm_session.specs.Dark.{all_dark, all_off, landings}
use Rattle.lvm_session.specs.Judging.{copies_in, is_waiting}
use Rattle.lvm_session.specs.Marks.{Reviews, is_among}
use Rattle.lvm_session.specs.Sound.{IsCopy, IsMove, IsSound}
use Rattle.lvm_session.specs.State.{Core, State, state}
use Rattle.lvm_session.proofs.MovesLemmas.{move_of}
use Rattle.lvm_move.specs.Moving.{CommitsMove, MoveEnds, WritesMove}
use Rattle.lvm_move_keeps.specs.Drained.{IsDrainedMoving}
use Rattle.lvm_move_keeps.specs.Keeping.{HasMovedTo}
use Rattle.lvm_move_keeps.proofs.IdleLemmas.{whole_move}
use Rattle.lvm_moved.specs.Moved.{moved_row}
use Rattle.lvm_going.specs.Going.{CommitsOpenMove, closed_after}
use Rattle.lvm_going.proofs.ShapesLemmas.{Given, dark_given}
use Rattle.lvm_tie.specs.Landings.{FailuresAreCaused, HadNone, HasCausesSince, HasLandedFor, IsEntryCaused}
use Rattle.lvm_tie.specs.Running.{GoesOffByCut, GoesOnOrEnds}
use Rattle.lvm_tie.specs.Spares.{SparesDescriptors}
use Rattle.lvm_tie.specs.Stamps.{IsStamped, KeepsEpoch}
use Rattle.lvm_tie.specs.Tied.{IsTied}
use Rattle.lvm_tie.proofs.LandingsLemmas.Causes.{dark_caused, goes_on, request_on, stays_caused}
use Rattle.lvm_tie.proofs.LawsLemmas.Running.{origin_same}
use Rattle.lvm_move_tie.specs.Going.{SparingGoesOn}
use Rattle.lvm_move_tie.specs.Taking.{next_group}
use Rattle.lvm_move_tie.proofs.GoingLemmas.{commit_move_finds, commit_move_goes_on, moved as has_moved, ready_is, written}
use Rattle.lvm_going_laws.specs.Moving.{CommitFindsNext, CommitMovesOn, FoundOn, IsLeftBefore, MovesOn}

-- a session that is on isn't in the dark
on_is_lit : (core : Core) → core.power ≡ power.On → core.power ≡ power.Dark → ⊥
on_is_lit core on dark = let e : power.On ≡ power.Dark = sym on ∙ dark in cc

-- ---- all that waits lands

-- what holds of each such entry holds of all
landings_all : (P : Fact → Type 0) (how : Outcome) (facts : List Fact) → ((o : Open) → P (landed_fact facts o.request.id how (is_begun o.request.targets.items))) → (os : List Open) → AllByRecursion P (landings how facts os)
landings_all P how facts each [] = tt
landings_all P how facts each (o ∷ os) = by (is_waiting o) (landings_all P how facts each os)
  where
    by : (b : Bool) → AllByRecursion P (landings how facts os) → AllByRecursion P (if b then landed_fact facts o.request.id how (is_begun o.request.targets.items) ∷ landings how facts os else landings how facts os)
    by true rest = (each o, rest)
    by false rest = rest

-- they name no moment
landings_later : (moment : ℕ) (how : Outcome) (facts : List Fact) (os : List Open) → IsLater (landings how facts os) moment
landings_later moment how facts [] = tt
landings_later moment how facts (o ∷ os) = by (is_waiting o) (landings_later moment how facts os)
  where
    by : (b : Bool) → IsLater (landings how facts os) moment → IsLater (if b then landed_fact facts o.request.id how (is_begun o.request.targets.items) ∷ landings how facts os else landings how facts os) moment
    by true rest = rest
    by false rest = rest

-- nor does a cut
cut_later : (moment : ℕ) (log : Log) → IsLater log.facts moment → IsLater (cut_log log).facts moment
cut_later moment log was = by (is_uncut log.facts)
  where
    by : (b : Bool) → IsLater (if b then with_fact log Cut else log).facts moment
    by true = later_joins moment log.facts (Cut ∷ []) was tt
    by false = was

none_mapped : {X Y : Type 0} (f : X → Y) (xs : List X) → map f xs ≡ [] → xs ≡ []
none_mapped f [] e = refl
none_mapped f (x ∷ xs) e = absurd (cc e)

-- ---- what is written

module _ (s : State) (c : OpenCopy) (sound : IsSound s) (drained : IsDrainedMoving s c) (content : List ℕ) (before after : ℕ) (last : Stored) (homes : Homes) (device : Device)
    (leaves : CommitLeaves (next_group s c) (IsOfCommit content s.core.status last) before after s.core.status last s.device device) (falls : NoneFalls s.device.counts device.counts) where
  -- it is of the session, and so from before each moment after it
  stands : (moment : ℕ) → IsLeftBefore moment s → StampsAreEarlier moment device
  stands moment was = earlier_stays_behind moment s.device device
      (both_map s.device.media device.media (λ a b. ChangesBy (IsOfCommit content s.core.status last) (image_of s.device.sizes a) (image_of device.sizes b))
      (λ a b. ChangesBy (IsOtherOrEarlier (beginning_at moment)) (image_of s.device.sizes a) (image_of device.sizes b)) leaves.keeps.media
      (λ m n a b by. changes_more (IsOfCommit content s.core.status last) (IsOtherOrEarlier (beginning_at moment)) (image_of s.device.sizes m) (image_of device.sizes n) (λ d k value it.
      inr (record {
        write = it.0;
        frames = it.2.frames;
        earlier = session_is_before_later moment it.0.framed.stamp (subst (λ (e : ℕ). e < moment) (sym it.2.epoch) ((was.on drained.on).session (on_is_lit s.core drained.on)).1);
        its = it.2.its;
      })) by))
      was.stands

  -- what it leaves, by the session that it leaves
  record IsLeftBy (core : Core) : Type 0 where
    good : SparingGoesOn s.core.history.run s (state device core)
    flights : (core.power ≡ power.Stuck → ⊥) → device.flights ≡ []
    cut : GoesOffByCut s.device device
    epoch : core.power ≡ power.On → KeepsEpoch s.core.status core.status
    later : (moment : ℕ) → IsLater s.core.history.facts moment → IsLater core.history.facts moment
    causes : (first : List Fact) → HasCausesSince first s → HasCausesSince first (state device core)
    log : record core.history { facts = [] } ≡ record s.core.history { facts = [] }
    alike : IsAlike core.descriptor s.core.descriptor
    volumes : core.descriptor.lvs ≡ [] → s.core.descriptor.lvs ≡ []
    origin : core.origin ≡ s.core.origin
    power : GoesOnOrEnds s.core core ⊎ ((s.core.power ≡ power.On) × (core.power ≡ power.Stuck))

  module _ (core : Core) (it : IsLeftBy core) where
    still : core.power ≡ power.On → device.flights ≡ []
    still on = it.flights (λ stuck. let e : power.On ≡ power.Stuck = sym on ∙ stuck in cc)

    left_before : (moment : ℕ) → IsLeftBefore moment s → IsLeftBefore moment (state device core)
    left_before moment was = record {
      stands = stands moment was;
      on = λ on. record {
        leaves = still_keeps_before (beginning_at moment) device (still on) (stands moment was);
        session = λ lit.
            let own = (was.on drained.on).session (on_is_lit s.core drained.on) in
            let same = it.epoch on in
            (same.stamped own.0, subst (λ (n : ℕ). n < moment) (sym same.epoch) own.1);
      };
    }

    left_on : MovesOn s (state device core)
    left_on = record {
      good = it.good;
      descriptors = λ was heard d at value flies. absurd (subst (λ (fs : List Flight). IsInFlight fs d at value) (it.flights heard) flies);
      before = left_before;
      epoch = it.epoch;
      later = it.later;
      causes = it.causes;
      keeps = record {
        sizes = leaves.keeps.sizes;
        counts = falls;
        cut = it.cut;
        log = it.log;
        alike = it.alike;
        volumes = it.volumes;
        origin = origin_same it.origin;
        rows = λ disk. ap (λ (o : Origin). has_row o.table disk) it.origin;
        power = it.power;
      };
    }

  -- ---- it is committed

  module _ (moved : HasMovedTo c.lv c.lp c.pp s.core.descriptor (next_group s c)) (st : Stored) where
    abbrev core_moved : Core
    core_moved = record s.core { status = st; homes = homes; descriptor = next_group s c; copy = None }

    its_move : IsMove s.core c
    its_move = move_of s.core c (subst (λ (m : Option OpenCopy). IfSome m (IsCopy s.core)) drained.is_open (sound.on drained.on).going.copy) (whole_move s.core c drained.done).moves

    -- its destination counted as stale from the beginning
    none_moved : (r : Asked) → HadNone s.core r → HadNone core_moved r
    none_moved r none lv b p over among = ⊎_elim
        (λ (was : is_among (copies_in s.core.descriptor lv (partition_of s.core.descriptor.mib b)) p ≡ true). none lv b p over was)
        (λ (to : p ≡ c.pp). ap (λ (q : Pp). was_usable s.core q) to ∙ ap (λ (b : Bool). not b && not (calls_missing s.core.origin.table c.pp.disk)) its_move.called)
        (moved.goes lv (partition_of s.core.descriptor.mib b) p among)

    failed_moved : AnyFailedSince s → AnyFailedSince (state device core_moved)
    failed_moved it = (it.0, rose_after it.1 (falls.faults it.0))

    landed_moved : (r : Asked) (how : Outcome) → HasLandedFor s r how → HasLandedFor (state device core_moved) r how
    landed_moved r outcome.Lost why = failed_moved why
    landed_moved r outcome.ReadFailed why = failed_moved why
    landed_moved r outcome.Off why = failed_moved why
    landed_moved r outcome.NoFresh (inl why) = inl (failed_moved why)
    landed_moved r outcome.NoFresh (inr none) = inr (none_moved r none)
    landed_moved r outcome.Done why = why
    landed_moved r outcome.Got why = why
    landed_moved r outcome.Dark why = why

    entry_moved : (f : Fact) → IsEntryCaused s f → IsEntryCaused (state device core_moved) f
    entry_moved (Landed r how started got) why = landed_moved r how why
    entry_moved (Making lv blocks mode) why = why
    entry_moved (Made lv) why = why
    entry_moved (Split from lv) why = why
    entry_moved (Removing vol) why = why
    entry_moved (Removed vol) why = why
    entry_moved (Begun r) why = why
    entry_moved (Taken r) why = why
    entry_moved Cut why = why
    entry_moved (On moment) why = why

    moved_caused : (first : List Fact) → HasCausesSince first s → HasCausesSince first (state device core_moved)
    moved_caused first was = record {
      since = was.since;
      is = was.is;
      caused = all_weaker (IsEntryCaused s) (IsEntryCaused (state device core_moved)) entry_moved was.since was.caused;
      failed = λ on. all_weaker (FailuresAreCaused s.device) (FailuresAreCaused device) (request_on s.device device falls) s.core.requests (was.failed drained.on);
    }

    none_left : (next_group s c).lvs ≡ [] → s.core.descriptor.lvs ≡ []
    none_left none = none_mapped (moved_row c.lv c.lp c.copy c.pp) s.core.descriptor.lvs none

    module _ (review : Reviews (record s.core { status = last; homes = homes; descriptor = next_group s c; copy = None }) core_moved) (back : Buffer)
        (ends : EndsCommitted (ComesHeld content s.core.status last s.core.homes homes s.device device) (IsPlain kind.Descriptor content s.core.status last s.core.homes s.device device) 0 last s.device device back)
        (good : SparingGoesOn s.core.history.run s (state device core_moved)) where
      epoch_is : st.stamp.epoch ≡ s.core.status.stamp.epoch
      epoch_is = ap (λ (u : Updates). u.stamp.epoch) review.marks.rest ∙ leaves.numbers.epoch

      flies_is : st.in_flight ≡ None
      flies_is = ap (λ (u : Updates). u.in_flight) review.marks.rest ∙ ends.committed.idle

      epoch_moved : KeepsEpoch s.core.status st
      epoch_moved = record {
        epoch = epoch_is;
        stamped = λ was. record {
          some_epoch = λ none. was.some_epoch (sym epoch_is ∙ none);
          epoch = subst (λ (n : ℕ). n < 2 ^ 64) (sym epoch_is) was.epoch;
          begun = λ u flies. absurd (let e : None ≡ Some u = sym flies_is ∙ flies in cc e);
        };
      }

      ends_moved : MovesOn s (state device core_moved)
      ends_moved = left_on core_moved (record {
        good = good;
        flights = λ heard. ends.back.ready.flights;
        cut = λ was off. absurd (let e : true ≡ false = sym ends.back.ready.power ∙ off in cc e);
        epoch = λ on. epoch_moved;
        later = λ moment was. was;
        causes = moved_caused;
        log = refl;
        alike = moved.alike;
        volumes = none_left;
        origin = refl;
        power = inl (inl refl);
      })

  -- ---- the votes are lost

  abbrev core_off : Core
  core_off = closed (all_off (record s.core { status = last; homes = homes }))

  module _ (have total : ℕ) (back : Buffer) (ends : EndsWithoutQuorum 0 s.core.status last s.device device have total back) (good : SparingGoesOn s.core.history.run s (state device core_off)) where
    off_caused : (first : List Fact) → HasCausesSince first s → HasCausesSince first (state device core_off)
    off_caused first was =
        goes_on (state device s.core) (state device core_off) (none_falls_at_once device.counts) refl refl first (landings outcome.Off s.core.history.facts s.core.requests) refl
        (landings_all (IsEntryCaused (state device s.core)) outcome.Off s.core.history.facts (λ o. (ends.lost.disk, rose_before (sound.origin.since ends.lost.disk) ends.lost.failed)) s.core.requests)
        (λ on. absurd (let e : power.Off ≡ power.On = on in cc e))
        (stays_caused first s (state device s.core) falls refl was)

    ends_off : MovesOn s (state device core_off)
    ends_off = left_on core_off (record {
      good = good;
      flights = λ heard. ends.back.ready.flights;
      cut = λ was off. absurd (let e : true ≡ false = sym ends.back.ready.power ∙ off in cc e);
      epoch = λ on. absurd (let e : power.Off ≡ power.On = on in cc e);
      later = λ moment was. later_joins moment s.core.history.facts (landings outcome.Off s.core.history.facts s.core.requests) was (landings_later moment outcome.Off s.core.history.facts s.core.requests);
      causes = off_caused;
      log = refl;
      alike = refl;
      volumes = λ none. none;
      origin = refl;
      power = inl (inr (inr (drained.on, refl)));
    })

  -- ---- the power is cut

  abbrev core_out : Core
  core_out = record s.core { pool = with_one_out s.core.pool; status = last; homes = homes }

  module _ (cut : IsDarkened 0 s.device device) (good : SparingGoesOn s.core.history.run s (state device (closed (all_dark core_out)))) where
    ends_dark : MovesOn s (state device (closed (all_dark core_out)))
    ends_dark = left_on (closed (all_dark core_out)) (record {
      good = good;
      flights = λ heard. cut.flights;
      cut = λ was off. cut.cuts;
      epoch = λ on. absurd (let e : power.Dark ≡ power.On = on in cc e);
      later = λ moment was. later_joins moment (cut_log s.core.history).facts (landings outcome.Dark (cut_log s.core.history).facts s.core.requests) (cut_later moment s.core.history was) (landings_later moment outcome.Dark (cut_log s.core.history).facts s.core.requests);
      causes = λ first was. stays_caused first (state device (all_dark core_out)) (state device (closed (all_dark core_out))) (none_falls_at_once device.counts) refl
          (dark_caused first s (state device (all_dark core_out)) core_out falls refl refl was);
      log = ap (λ (g : Given). g.2) (dark_given core_out);
      alike = refl;
      volumes = λ none. none;
      origin = refl;
      power = inl (inr (inl refl));
    })

  -- ---- a transfer isn't heard of

  abbrev core_stuck : Core
  core_stuck = record (closed core_out) { power = power.Stuck }

  module _ (given_up : IsGivenUp 0 before s.device device) (good : SparingGoesOn s.core.history.run s (state device core_stuck)) where
    ends_stuck : MovesOn s (state device core_stuck)
    ends_stuck = left_on core_stuck (record {
      good = good;
      flights = λ heard. absurd (heard refl);
      cut = λ was off. absurd (let e : true ≡ false = sym given_up.power ∙ off in cc e);
      epoch = λ on. absurd (let e : power.Stuck ≡ power.On = on in cc e);
      later = λ moment was. was;
      causes = λ first was. goes_on s (state device core_stuck) falls refl refl first [] (sym (append-nil s.core.history.facts)) tt (λ on. absurd (let e : power.Stuck ≡ power.On = on in cc e)) was;
      log = refl;
      alike = refl;
      volumes = λ none. none;
      origin = refl;
      power = inr (drained.on, refl);
    })

-- ---- the commit

module _ (s new : State) (c : OpenCopy) (before after : ℕ) (answer : Result (Unit {0}) CommitFault) (sound : IsSound s) (drained : IsDrainedMoving s c) (epoch : s.core.status.stamp.epoch ≢ 0) (written_ : State)
    (w : WritesMove (next_group s c) (descriptor_bytes (next_group s c)) before after s written_ answer) (is : new ≡ state written_.device (closed_after answer written_.core)) (good : SparingGoesOn s.core.history.run s new) where
  abbrev device : Device
  device = written_.device

  abbrev content : List ℕ
  content = descriptor_bytes (next_group s c)

  falls : NoneFalls s.device.counts device.counts
  falls = path_falls s.device device w.kept

  -- by the answer it is this
  new_is : (a : Result (Unit {0}) CommitFault) → answer ≡ a → new ≡ state device (closed_after a written_.core)
  new_is a same = is ∙ ap (λ (x : Result (Unit {0}) CommitFault). state device (closed_after x written_.core)) same

  -- what is so of the session that it is
  as_it_is : (core : Core) → new ≡ state device core → (SparingGoesOn s.core.history.run s (state device core) → MovesOn s (state device core)) → MovesOn s new
  as_it_is core same moves = subst (MovesOn s) (sym same) (moves (subst (SparingGoesOn s.core.history.run s) same good))

  by_end : (how : CommitEnd) → MoveEnds (next_group s c) w.last w.homes s.core written_.core how answer → DescriptorEnds content 0 before s.core.status w.last s.core.homes w.homes s.device device how → MovesOn s new
  by_end (commit_end.Done back) goes ends =
      let st = written_.core.status in
      let core = core_moved s c sound drained content before after w.last w.homes device w.leaves falls (has_moved s c sound drained epoch) st in
      let moved = has_moved s c sound drained epoch in
      let same : new ≡ state device core = new_is (Ok tt) goes.0 ∙ ap (λ (x : Core). state device (closed x)) goes.1.is in
      as_it_is core same (ends_moved s c sound drained content before after w.last w.homes device w.leaves falls moved st (record { marks = goes.1.marks; is = refl }) back ends)
  by_end (commit_end.WentOff have total back) goes ends =
      let core = core_off s c sound drained content before after w.last w.homes device w.leaves falls in
      as_it_is core (new_is (Err (fault.WentOff have total)) goes.0 ∙ ap (λ (x : Core). state device (closed x)) goes.1) (ends_off s c sound drained content before after w.last w.homes device w.leaves falls have total back ends)
  by_end commit_end.Dark goes ends =
      let core = closed (all_dark (core_out s c sound drained content before after w.last w.homes device w.leaves falls)) in
      as_it_is core (new_is (Err fault.Dark) goes.0 ∙ ap (λ (x : Core). state device (closed x)) goes.1) (ends_dark s c sound drained content before after w.last w.homes device w.leaves falls ends.0)
  by_end commit_end.Stuck goes ends =
      let core = core_stuck s c sound drained content before after w.last w.homes device w.leaves falls in
      as_it_is core (new_is (Err fault.Stuck) goes.0 ∙ ap (λ (x : Core). state device (record (closed x) { power = power.Stuck })) goes.1) (ends_stuck s c sound drained content before after w.last w.homes device w.leaves falls ends.0)

module _ (s new : State) (before after : ℕ) (answer : Result (Unit {0}) CommitFault) (c : OpenCopy) (drained : IsDrainedMoving s c) (epoch : s.core.status.stamp.epoch ≢ 0) (commits : CommitsOpenMove before after s new answer) (sound : IsSound s) where
  next_is : commits.next ≡ next_group s c
  next_is = ready_is s c sound drained epoch commits.next commits.ready

  writes : WritesMove (next_group s c) (descriptor_bytes (next_group s c)) before after s commits.written answer
  writes = written s c sound drained epoch (descriptor_bytes (next_group s c)) before after commits.written answer (subst (λ (d : Descriptor). CommitsMove d (descriptor_bytes d) before after s commits.written answer) next_is commits.commits)

  one_moves_on : IsSound new → MovesOn s new
  one_moves_on sound_new = by_end s new c before after answer sound drained epoch commits.written writes commits.is
      (commit_move_goes_on s.core.history.run s new c before after answer sound sound_new drained epoch commits) writes.how writes.goes writes.ends

pub commit_moves_on : CommitMovesOn
commit_moves_on old new before after answer c drained epoch commits sound sound_new = one_moves_on old new before after answer c drained epoch commits sound sound_new

-- ---- what is found

pub commit_finds_next : CommitFindsNext
commit_finds_next past old new before after answer c drained epoch commits tied spares id k found =
    let image = image_of old.device.sizes tied.media in
    let all = commit_move_finds past old new c before after answer tied drained epoch spares commits in
    let of_media = of_told (λ (m : Media). FindsNoMore (next_group old c) (contents_of (image_of old.device.sizes m)) (contents_of found.0)) old.device.media tied.media tied.setting.told (all found.0 found.1) in
    ⊎_elim
    (λ (before_ : IsFound (contents_of image) id k). inl (image, media_may old.device tied.media tied.setting.told, before_))
    (λ next. inr (next.0, next.1 ∙ sym (next_is old new before after answer c drained epoch commits tied.orderly.sound)))
    (of_media id k found.2)

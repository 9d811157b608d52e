-- What a session comes to that turns to its group's next descriptor.
use Rattle.std.proofs.Common.{◌≡◌, inl, inr, ⊎_elim, ℕ, Bool, true, false, ◌&&◌, not, List, [], Option, refl, sym, ◌∙◌, ap, subst, arith}
use Rattle.std.specs.Prelude.{IsTrue, IsFalse, Result, Err}
use Rattle.std.proofs.lemmas.Bool.{false≢true}
use Rattle.lvm_num.specs.declared.descriptor.LvRow.{LvRow}
use Rattle.lvm_num.specs.declared.descriptor.Descriptor.{Descriptor}
use Rattle.lvm_num.specs.Among.{IsOneOf}
use Rattle.lvm_num.specs.Buffer.{Buffer}
use Rattle.lvm_num.specs.declared.status.Status.{Status}
use Rattle.lvm_num.specs.Disks.{Disks, has}
use Rattle.lvm_num.specs.Descriptor.{is_member}
use Rattle.lvm_num.specs.Votes.{votes_in, total_votes, is_enough_to_write, CanWrite}
use Rattle.lvm_disk.specs.Device.{Device}
use Rattle.lvm_disk.proofs.CountingLemmas.{rose_before}
use Rattle.lvm_status.specs.Update.{Stored, members_there}
use Rattle.lvm_rec.specs.declared.homes.Homes.{Homes}
use Rattle.lvm_write.specs.Written.{IsDarkened, IsGivenUp}
use Rattle.lvm_write.proofs.PartsLemmas.Transfers.{darkened_then, given_up_then}
use Rattle.lvm_commit.specs.declared.commit.CommitEnd.{CommitEnd}
use Rattle.lvm_commit.specs.declared.commit.CommitEnd.TheVariants as commit_end
use Rattle.lvm_commit.specs.Settling.{there, IsForgotten, StatusEnds, OnlyLoses, MarksLeft}
use Rattle.lvm_commit.proofs.RoundsLemmas.Leaving.{left_same_as}
use Rattle.lvm_commit.proofs.SettlingLemmas.Chaining.{loses_same}
use Rattle.lvm_session.specs.declared.open.Power.TheVariants as power
use Rattle.lvm_session.specs.declared.origin.Origin.{Origin}
use Rattle.lvm_mwc.specs.Cache.{Cached}
use Rattle.lvm_session.specs.State.{Core, State, state, is_there}
use Rattle.lvm_session.specs.Dark.{all_dark}
use Rattle.lvm_core.specs.declared.fault.CommitFault.{CommitFault}
use Rattle.lvm_core.specs.declared.fault.CommitFault.TheVariants as fault
use Rattle.lvm_core.specs.Held.{IsHeld}
use Rattle.lvm_core.specs.Sound.{HasNoneOpen, IsSoundAtRest}
use Rattle.lvm_core.specs.Settled.{IsSettled, HasSpareNumbers}
use Rattle.lvm_core.specs.Committing.{is_in, with_one_out}
use Rattle.lvm_core.specs.Steps.{CoreEnds}
use Rattle.lvm_core.proofs.SoundLemmas.Dark.{dark_is}
use Rattle.lvm_core.proofs.SoundLemmas.Own.{SameSizes, one_out_long}
use Rattle.lvm_core.proofs.SettlingLemmas.{holds_session, may_commit_now}
use Rattle.lvm_core.proofs.CommittingLemmas.Settled.{there_is}
use Rattle.lvm_change_laws.specs.Rule.{MayChange, no_member}
use Rattle.lvm_change.specs.Transition.{ComesBack, HasFewVotes, TransitionGives}
use Rattle.lvm_change.specs.declared.turn.Transition.{Transition}
use Rattle.lvm_change.specs.declared.turn.TransitionEnd.{TransitionEnd}
use Rattle.lvm_change.specs.declared.turn.TransitionEnd.TheVariants as turned
use Rattle.lvm_change.proofs.PartingLemmas.{parts_only, parts_left, parts_forgotten, parts_stamp, parts_there}
use Rattle.lvm_turnover.specs.declared.change.Change.{Change}
use Rattle.lvm_turnover.specs.declared.change.Leaving.{Leaving}
use Rattle.lvm_turnover.specs.Turning.{ShowsGone, IsMadeFor, IsReady, IsTurnBy, MayTurnSession, TurnsSession, TakesOver, GivesUp, GoesOnWith, cache_after, core_after, disks_leaving, origin_after, stamped_twice, state_after, unreached}
use Rattle.lvm_turnover.specs.Changing.{ChangeEnds, EndsFrom, IsNext, LeavesWithin, HasGoneOffBy, GoesOffFrom}
use Rattle.lvm_turnover.proofs.BeginningLemmas.{same_volumes, copy_there, copy_stale, stale_before, session_there, unreached_member, first_reached}
use Rattle.lvm_turnover.proofs.LeavingLemmas.{IsSameOrCut, change_leaves}
use Rattle.lvm_turnover.proofs.LeftLemmas.{left_so}
use Rattle.lvm_turnover.proofs.OverLemmas.{over_shown, over_written, over_ends, over_status, over_fits, over_epoch, over_left, over_writes, over_well, over_held}
use Rattle.lvm_turnover.proofs.PhaseLemmas.{turn_rises, turn_only, turn_stopped, unreached_failed, some_unreached}
use Rattle.lvm_turnover.proofs.StandingLemmas.{Fits, fits_by, sound_on, sound_off, sound_cut, sound_out, settled_on}

pub record Comes (c : Change) (before after : ℕ) (old new : State) (answer : Result (Unit {0}) CommitFault) : Type 0 where
  pub sound : IsSoundAtRest new
  pub sizes : SameSizes old.core new.core
  pub ends : EndsFrom c.next before old (state_after c.leaving old) new answer
  pub left : MarksLeft c.next old.core.status new.core.status
  pub shown : ShowsGone c.next old new answer
  pub leaves : LeavesWithin 3 (IsNext c.next) [] (disks_leaving c.leaving) before after old new

module _ (c : Change) (old : State) (may : MayTurnSession c old) (settled_is : IsSettled old.core) (sound : IsSoundAtRest old) (turn : Transition) (by : IsTurnBy c old.core.descriptor turn) where
  abbrev next : Descriptor
  next = c.next

  abbrev was : Descriptor
  was = old.core.descriptor

  abbrev u : Stored
  u = stamped_twice old.core

  none_of : (d : Descriptor) (x : Stored) (homes : Homes) → HasNoneOpen (record old.core { descriptor = d; pool = with_one_out old.core.pool; status = x; homes = homes })
  none_of d x homes = record { requests = settled_is.quiet.requests; copy = settled_is.quiet.copy }

  fits_still : (last : Stored) (m : Device) → OnlyLoses u last old.device m → IsForgotten last → m.sizes ≡ old.device.sizes → Fits old was last old.core.cache m.sizes
  fits_still last m loses forgotten same = fits_by old was u last old.core.cache old.device m may.change.valid (λ row inside. record { was = row; inside = inside; same = refl }) refl (sym may.commit.settle.own) (may.commit.settle.id ∙ ap (λ (g : Descriptor). g.id) (sym may.commit.settle.own))
      (λ e. may.commit.settle.rows e ∙ ap (λ (g : Descriptor). is_member g e) (sym may.commit.settle.own)) (λ e member is. is) forgotten loses sound.fitting.entries sound.fitting.notes may.still m.sizes same

  fits_stopped : (m : Device) → m.sizes ≡ old.device.sizes → Fits old was u old.core.cache m.sizes
  fits_stopped m same = fits_still u m (loses_same u u old.device m refl refl) sound.fitting.forgotten same

  volumes_are : was.lvs ≡ next.lvs
  volumes_are = sym (same_volumes c old may)

  left_as_was : (last : Stored) → MarksLeft was u last → MarksLeft next old.core.status last
  left_as_was last left = left_so next was old.core.status u last volumes_are (λ row lp q volume copy. refl) (λ row lp q volume copy. refl) (λ q is. is) left

  left_stopped : (last : Stored) → last ≡ u → MarksLeft next old.core.status last
  left_stopped last is = subst (MarksLeft next old.core.status) (sym is) (left_as_was u (left_same_as was u))

  -- ---- the power was cut, or nothing was heard, before both records stood

  module _ (slots : Homes) (p q : ℕ) (new : State) where
    came_dark : TransitionGives turn (is_there old.core) old.core.status.stamp old.core.homes slots 0 p q old.device new.device turned.Dark → new.core ≡ all_dark (record old.core { pool = with_one_out old.core.pool; status = u; homes = slots })
        → Comes c p q old new (Err fault.Dark)
    came_dark gives is =
        let cut : IsDarkened 0 old.device new.device = gives.ends in
        let flat = is ∙ dark_is (record old.core { pool = with_one_out old.core.pool; status = u; homes = slots }) (none_of was u slots) in
        record {
          sound = subst (λ (k : Core). IsSoundAtRest (state new.device k)) (sym is) (sound_cut old was u slots old.core.cache old.core.origin new.device (fits_stopped new.device gives.keeps.sizes) settled_is sound old.device cut);
          sizes = subst (SameSizes old.core) (sym flat) (record { most = refl; buffers = one_out_long old.core.pool });
          ends = inl (record { cut = cut; is = is ∙ ap (λ (k : Core). all_dark (record old.core { pool = with_one_out old.core.pool; status = k.status; homes = k.homes })) (sym is) });
          shown = tt;
          left = left_stopped new.core.status (ap (λ (k : Core). k.status) is);
          leaves = change_leaves next (disks_leaving c.leaving) p q old new (turn_stopped c old may turn by slots p q new.device turned.Dark gives new.core (ap (λ (k : Core). k.status) is)) (inr (ap (λ (k : Core). k.history) flat));
        }

    came_stuck : TransitionGives turn (is_there old.core) old.core.status.stamp old.core.homes slots 0 p q old.device new.device turned.Stuck → new.core ≡ record old.core { pool = with_one_out old.core.pool; status = u; homes = slots }
        → Comes c p q old new (Err fault.Stuck)
    came_stuck gives is =
        let out : IsGivenUp 0 p old.device new.device = gives.ends in
        record {
          sound = subst (λ (k : Core). IsSoundAtRest (state new.device k)) (sym is) (sound_out old was u slots old.core.cache old.core.origin new.device (fits_stopped new.device gives.keeps.sizes) settled_is sound p old.device out);
          sizes = subst (SameSizes old.core) (sym is) (record { most = refl; buffers = one_out_long old.core.pool });
          ends = inl (record { out = out; is = is ∙ ap (λ (k : Core). record old.core { pool = with_one_out old.core.pool; status = k.status; homes = k.homes }) (sym is) });
          shown = tt;
          left = left_stopped new.core.status (ap (λ (k : Core). k.status) is);
          leaves = change_leaves next (disks_leaving c.leaving) p q old new (turn_stopped c old may turn by slots p q new.device turned.Stuck gives new.core (ap (λ (k : Core). k.status) is)) (inl (ap (λ (k : Core). k.history) is));
        }

    -- ---- the votes were too few

    module _ (have total written : ℕ) (buf : Buffer) (gives : TransitionGives turn (is_there old.core) old.core.status.stamp old.core.homes slots 0 p q old.device new.device (turned.WentOff have total written buf))
        (answer : Result (Unit {0}) CommitFault) (up : GivesUp have total written slots old new answer) where
      back : ComesBack (is_there old.core) (has written) 0 old.device new.device buf
      back = gives.ends.0

      few : HasFewVotes turn.was.now turn.next.now (has written) have total
      few = gives.ends.1

      loses : OnlyLoses u new.core.status old.device new.device
      loses = parts_only was (unreached was old.core written) u new.core.status up.parts old.device new.device
          (λ e is. let its = unreached_failed old written new.device buf back e is in (ap (λ (set : Disks). set e) (session_there c old may) ∙ its.0, its.1))

      left : MarksLeft was u new.core.status
      left = parts_left was (unreached was old.core written) u new.core.status up.parts may.change.valid (unreached_member c old may written)

      fits_here : Fits old was new.core.status old.core.cache new.device.sizes
      fits_here = fits_still new.core.status new.device loses (parts_forgotten was (unreached was old.core written) u new.core.status up.parts sound.fitting.forgotten) gives.keeps.sizes

      reached : (there_was on : Bool) → (on ≡ true → there_was ≡ true) → there_was && not (there_was && not on) ≡ on
      reached true true its = refl
      reached true false its = refl
      reached false true its = absurd (false≢true (its refl))
      reached false false its = refl

      left_there : there new.core.status ≡ has written
      left_there = λ t e. (parts_there was (unreached was old.core written) u new.core.status up.parts e ∙ ap (λ (set : Disks). set e && not (unreached was old.core written e)) (session_there c old may) ∙ reached (is_there old.core e) (has written e) (back.within e)) t

      new_there : is_there new.core ≡ has written
      new_there = ap (λ (k : Core). members_there k.descriptor new.core.status.wanted) up.is ∙ sym (there_is was new.core.status fits_here.own) ∙ left_there

      off_by : CanWrite few.by (is_there old.core) → HasGoneOffBy few.by was have total old new
      off_by enough =
          let short : IsFalse (is_enough_to_write few.by (votes_in few.by (has written))) = subst (λ (n : ℕ). IsFalse (is_enough_to_write few.by n)) few.have_is few.few in
          let lost = some_unreached old written new.device buf back few.by enough short in
          let its = unreached_failed old written new.device buf back lost.0 lost.1 in
          record {
            have_is = few.have_is ∙ ap (votes_in few.by) (sym new_there);
            total_is = few.total_is;
            few = few.few;
            disk = lost.0;
            was = its.0;
            failed = its.1;
            is = up.is ∙ ap (λ (k : Core). record old.core { status = k.status; homes = k.homes; power = power.Off }) (sym up.is);
            well = λ d is. back.well d (subst (λ (set : Disks). IsTrue (set d)) left_there is);
            ready = back.ready;
            cuts = back.cuts;
          }

      goes_off : GoesOffFrom next have total old (state_after c.leaving old) new
      goes_off = ⊎_elim
          (λ (is : few.by ≡ turn.was.now).
          let same : few.by ≡ was = is ∙ by.was_is in
          inl (subst (λ (g : Descriptor). HasGoneOffBy g was have total old new) same (off_by (subst (λ (g : Descriptor). CanWrite g (is_there old.core)) (sym same) may.change.enough))))
          (λ (is : (few.by ≡ turn.next.now) × CanWrite turn.was.now (has written)).
          let same : few.by ≡ next = is.0 ∙ by.next in
          inr (inl (
            subst (λ (g : Descriptor). HasGoneOffBy g was have total old new) same (off_by (subst (λ (g : Descriptor). CanWrite g (is_there old.core)) (sym same) may.change.enough_too)),
            subst (CanWrite was) (sym new_there) (subst (λ (g : Descriptor). CanWrite g (has written)) by.was_is is.1),
          )))
          few.first

      came_off : Comes c p q old new answer
      came_off = record {
        sound = subst (λ (k : Core). IsSoundAtRest (state new.device k)) (sym up.is) (sound_off old was new.core.status slots old.core.cache old.core.origin new.device fits_here settled_is sound back.ready);
        sizes = subst (SameSizes old.core) (sym up.is) (record { most = refl; buffers = refl });
        ends = subst (EndsFrom next p old (state_after c.leaving old) new) (sym up.answer_is) goes_off;
        shown = subst (ShowsGone next old new) (sym up.answer_is) tt;
        left = left_as_was new.core.status left;
        leaves = change_leaves next (disks_leaving c.leaving) p q old new (turn_only c old may turn by slots p q new.device (turned.WentOff have total written buf) gives new.core (parts_stamp was (unreached was old.core written) u new.core.status up.parts) loses left) (inl (ap (λ (k : Core). k.history) up.is));
      }

  -- ---- both records stand

  -- the session without the member that leaves
  abbrev on : Core
  on = core_after c.leaving old.core

  abbrev cache : Cached
  cache = cache_after c.leaving old.core.cache

  abbrev origin : Origin
  origin = origin_after c.leaving old.core.origin

  module _ (slots : Homes) (p q r : ℕ) (m : Device) (written : ℕ) (buf : Buffer) (gives : TransitionGives turn (is_there old.core) old.core.status.stamp old.core.homes slots 0 p q old.device m (turned.Done written buf))
      (new : State) (answer : Result (Unit {0}) CommitFault) (over : TakesOver c written slots q r m old new answer) where
    back_over : ComesBack (is_there old.core) (has written) 0 old.device m buf
    back_over = gives.ends.0

    fits_next : Fits old next new.core.status (cache_after c.leaving old.core.cache) new.device.sizes
    fits_next = over_fits c old may turn by slots p q r m written buf gives new answer over settled_is.quiet.buffers sound.fitting.entries sound.fitting.notes

    leaves_so : IsSameOrCut old.core.history new.core.history → LeavesWithin 3 (IsNext next) [] (disks_leaving c.leaving) p r old new
    leaves_so log = change_leaves next (disks_leaving c.leaving) p r old new (over_writes c old may turn by slots p q r m written buf gives new answer over settled_is.quiet.buffers) log

    left_over : MarksLeft next old.core.status new.core.status
    left_over = left_so next next old.core.status over.parts.begun new.core.status refl (λ row lp q volume copy. copy_there c old may over.parts.begun over.parts.begun_is row lp q (was_volume row volume) copy) (λ row lp q volume copy. copy_stale c old may over.parts.begun over.parts.begun_is row lp q (was_volume row volume) copy)
        (stale_before c old may over.parts.begun over.parts.begun_is) (over_left c old may turn by slots p q r m written buf gives new answer over settled_is.quiet.buffers)
      where
        was_volume : (row : LvRow) → IsOneOf next.lvs row → IsOneOf was.lvs row
        was_volume row volume = subst (λ (rows : List LvRow). IsOneOf rows row) (same_volumes c old may) volume

    next_there : new.core.descriptor ≡ next → is_there new.core ≡ there new.core.status
    next_there is = ap (λ (d : Descriptor). members_there d new.core.status.wanted) is ∙ sym (there_is next new.core.status fits_next.own)

    came_over : Comes c p r old new answer
    came_over = by_how over.settles.how (over_status c old may turn by slots p q r m written buf gives new answer over settled_is.quiet.buffers) (over_ends c old may turn by slots p q r m written buf gives new answer over settled_is.quiet.buffers)
      where
        by_how : (h : CommitEnd) → StatusEnds 0 q over.first new.core.status slots new.core.homes m new.device h → CoreEnds next (record on { descriptor = next }) new.core h answer → Comes c p r old new answer
        by_how (commit_end.Done end) ends goes = record {
          sound = subst (λ (k : Core). IsSoundAtRest (state new.device k)) (sym goes.1) (sound_on old next new.core.status new.core.homes cache origin new.device fits_next settled_is sound ends.back.ready);
          sizes = subst (SameSizes old.core) (sym goes.1) (record { most = refl; buffers = refl });
          ends = subst (EndsFrom next p old (state_after c.leaving old) new) (sym goes.0) (record {
            settled = subst IsSettled (sym goes.1) (settled_on old next new.core.status new.core.homes cache origin new.device fits_next settled_is sound ends.committed (over_epoch c old may turn by slots p q r m written buf gives new answer over settled_is.quiet.buffers));
            is = goes.1;
            well = over_well c old may turn by slots p q r m written buf gives new answer over settled_is.quiet.buffers ends.back.well;
            ready = ends.back.ready;
            cuts = ends.back.cuts ∙ back_over.cuts;
            held = λ held. subst (IsHeld new.device) (sym goes.1) (holds_session new.device on next new.core.status new.core.homes fits_next.own (over_held c old may turn by slots p q r m written buf gives new answer over settled_is.quiet.buffers ends.held held));
          });
          shown = subst (ShowsGone next old new) (sym goes.0) (λ disk was out low well held. over_shown c old may turn by slots p q r m written buf gives new answer over settled_is.quiet.buffers held disk
              (over_written c old may turn by slots p q r m written buf gives new answer over settled_is.quiet.buffers disk was low well) out);
          left = left_over;
          leaves = leaves_so (inl (ap (λ (k : Core). k.history) goes.1));
        }
        by_how (commit_end.WentOff have total end) ends goes =
            let there_now = next_there (ap (λ (k : Core). k.descriptor) goes.1) in
            record {
              sound = subst (λ (k : Core). IsSoundAtRest (state new.device k)) (sym goes.1) (sound_off old next new.core.status new.core.homes cache origin new.device fits_next settled_is sound ends.back.ready);
              sizes = subst (SameSizes old.core) (sym goes.1) (record { most = refl; buffers = refl });
              ends = subst (EndsFrom next p old (state_after c.leaving old) new) (sym goes.0) (inr (inr (record {
                have_is = ends.lost.have_is ∙ ap (λ (g : Descriptor). votes_in g (there new.core.status)) fits_next.own ∙ ap (votes_in next) (sym there_now);
                total_is = ends.lost.total_is ∙ ap total_votes fits_next.own;
                few = subst (λ (g : Descriptor). IsFalse (is_enough_to_write g have)) fits_next.own ends.lost.few;
                disk = ends.lost.disk;
                was = back_over.within ends.lost.disk (first_reached c old may over.parts.begun over.parts.begun_is written back_over.within over.first over.parts.parts ends.lost.disk ends.lost.was);
                failed = rose_before ((turn_rises c old may turn by slots p q m (turned.Done written buf) gives).faults ends.lost.disk) ends.lost.failed;
                is = goes.1;
                well = over_well c old may turn by slots p q r m written buf gives new answer over settled_is.quiet.buffers ends.back.well;
                ready = ends.back.ready;
                cuts = ends.back.cuts ∙ back_over.cuts;
              })));
              shown = subst (ShowsGone next old new) (sym goes.0) tt;
              left = left_over;
              leaves = leaves_so (inl (ap (λ (k : Core). k.history) goes.1));
            }
        by_how commit_end.Dark ends goes =
            let flat = goes.1 ∙ dark_is (record on { descriptor = next; pool = with_one_out old.core.pool; status = new.core.status; homes = new.core.homes }) (record { requests = settled_is.quiet.requests; copy = settled_is.quiet.copy }) in
            record {
              sound = subst (λ (k : Core). IsSoundAtRest (state new.device k)) (sym goes.1) (sound_cut old next new.core.status new.core.homes cache origin new.device fits_next settled_is sound m ends.0);
              sizes = subst (SameSizes old.core) (sym flat) (record { most = refl; buffers = one_out_long old.core.pool });
              ends = subst (EndsFrom next p old (state_after c.leaving old) new) (sym goes.0) (inr (record { cut = darkened_then 0 0 old.device m new.device refl back_over.cuts ends.0; is = goes.1 }));
              shown = subst (ShowsGone next old new) (sym goes.0) tt;
              left = left_over;
              leaves = leaves_so (inr (ap (λ (k : Core). k.history) flat));
            }
        by_how commit_end.Stuck ends goes = record {
          sound = subst (λ (k : Core). IsSoundAtRest (state new.device k)) (sym goes.1) (sound_out old next new.core.status new.core.homes cache origin new.device fits_next settled_is sound q m ends.0);
          sizes = subst (SameSizes old.core) (sym goes.1) (record { most = refl; buffers = one_out_long old.core.pool });
          ends = subst (EndsFrom next p old (state_after c.leaving old) new) (sym goes.0) (inr (record { out = given_up_then 0 0 p q old.device m new.device refl back_over.cuts gives.spends ends.0; is = goes.1 }));
          shown = subst (ShowsGone next old new) (sym goes.0) tt;
          left = left_over;
          leaves = leaves_so (inl (ap (λ (k : Core). k.history) goes.1));
        }

-- ---- by how the records ended

pub session_comes :
    (c : Change) (before after : ℕ) (old new : State) (answer : Result (Unit {0}) CommitFault) → TurnsSession c before after old new answer → MayTurnSession c old → IsSettled old.core → IsSoundAtRest old
    → Comes c before after old new answer
session_comes c before after old new answer w may settled_is sound = by_how w.turned w.gives w.goes
  where
    at_end : (t : TransitionEnd) → new.device ≡ w.device → after ≡ w.middle → TransitionGives w.turn (is_there old.core) old.core.status.stamp old.core.homes w.slots 0 before w.middle old.device w.device t
        → TransitionGives w.turn (is_there old.core) old.core.status.stamp old.core.homes w.slots 0 before after old.device new.device t
    at_end t same still gives = subst (λ (d : Device). TransitionGives w.turn (is_there old.core) old.core.status.stamp old.core.homes w.slots 0 before after old.device d t) (sym same)
        (subst (λ (n : ℕ). TransitionGives w.turn (is_there old.core) old.core.status.stamp old.core.homes w.slots 0 before n old.device w.device t) (sym still) gives)

    by_how : (t : TransitionEnd) → TransitionGives w.turn (is_there old.core) old.core.status.stamp old.core.homes w.slots 0 before w.middle old.device w.device t → GoesOnWith c w.slots w.middle after w.device old new t answer
        → Comes c before after old new answer
    by_how (turned.Done written buf) gives goes = came_over c old may settled_is sound w.turn w.by w.slots before w.middle after w.device written buf gives new answer goes
    by_how (turned.WentOff have total written buf) gives (same, still, up) =
        came_off c old may settled_is sound w.turn w.by w.slots before after new have total written buf (at_end (turned.WentOff have total written buf) same still gives) answer up
    by_how turned.Dark gives (same, still, is, core) =
        subst (Comes c before after old new) (sym is) (came_dark c old may settled_is sound w.turn w.by w.slots before after new (at_end turned.Dark same still gives) core)
    by_how turned.Stuck gives (same, still, is, core) =
        subst (Comes c before after old new) (sym is) (came_stuck c old may settled_is sound w.turn w.by w.slots before after new (at_end turned.Stuck same still gives) core)

-- ---- before the first write

pub may_turn_session :
    (c : Change) (s : State) → IsSoundAtRest s → IsSettled s.core → HasSpareNumbers s.core → IsMadeFor s.core.status.committed c → MayChange (is_in (disks_leaving c.leaving)) s.core.descriptor c.next (is_there s.core) → MayTurnSession c s
may_turn_session c s sound settled_is spare ready change = record { ready = ready; settled = settled_is.committed; change = change; still = settled_is.quiet.notes; commit = may_commit_now s sound settled_is spare 4 (omega arith) }

-- ---- where no member leaves

pub may_of : (c : Change) (s : State) → IsReady c → MayChange no_member s.core.descriptor c.next (is_there s.core) → MayChange (is_in (disks_leaving c.leaving)) s.core.descriptor c.next (is_there s.core)
may_of c s ready may = subst (λ (o : Option Leaving). MayChange (is_in (disks_leaving o)) s.core.descriptor c.next (is_there s.core)) (sym ready.stay) may

pub ends_of : (c : Change) (patience : ℕ) (old new : State) (answer : Result (Unit {0}) CommitFault) → IsReady c → EndsFrom c.next patience old (state_after c.leaving old) new answer → ChangeEnds c.next patience old new answer
ends_of c patience old new answer ready ends = subst (λ (o : Option Leaving). EndsFrom c.next patience old (state_after o old) new answer) ready.stay ends

pub leaves_of : (c : Change) (before after : ℕ) (old new : State) → IsReady c → LeavesWithin 3 (IsNext c.next) [] (disks_leaving c.leaving) before after old new → LeavesWithin 3 (IsNext c.next) [] [] before after old new
leaves_of c before after old new ready leaves = subst (λ (o : Option Leaving). LeavesWithin 3 (IsNext c.next) [] (disks_leaving o) before after old new) ready.stay leaves

-- ---- a change that says what is wanted by now

module _ (c d : Change) (same : d ≡ record c { tables = d.tables }) where
  pub renewed_may : (s : State) → IsMadeFor s.core.status.wanted d → IsSoundAtRest s → IsSettled s.core → HasSpareNumbers s.core → MayChange (is_in (disks_leaving c.leaving)) s.core.descriptor c.next (is_there s.core) → MayTurnSession d s
  renewed_may s made sound settled_is spare may = may_turn_session d s sound settled_is spare (subst (λ (x : Status). IsMadeFor x d) (sym settled_is.committed) made)
      (subst (λ (x : Change). MayChange (is_in (disks_leaving x.leaving)) s.core.descriptor x.next (is_there s.core)) (sym same) may)

  pub renewed_comes : (p q : ℕ) (old new : State) (answer : Result (Unit {0}) CommitFault) → Comes d p q old new answer → Comes c p q old new answer
  renewed_comes p q old new answer comes =
      let is : Comes (record c { tables = d.tables }) p q old new answer = subst (λ (x : Change). Comes x p q old new answer) same comes in
      record { sound = is.sound; sizes = is.sizes; ends = is.ends; left = is.left; shown = is.shown; leaves = is.leaves }

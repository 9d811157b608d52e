-- What a line leaves that has run the session of a group with volumes.
use Rattle.std.proofs.Common.{◌≡◌, ◌≢◌, ◌<◌, ◌≤◌, ◌+◌, ◌^◌, ℕ, Bool, true, false, List, [], Some, None, length, refl, sym, ◌∙◌, ap, subst, arith}
use Rattle.std.specs.Global.{Vec}
use Rattle.std.proofs.lemmas.List.{length-map}
use Rattle.lvm_num.specs.Votes.{total_votes}
use Rattle.lvm_num.specs.Buffer.{Buffer}
use Rattle.lvm_disk.specs.Device.{Device}
use Rattle.lvm_kept.specs.Moments.{Moment}
use Rattle.lvm_steps.specs.Moments.{Keeps}
use Rattle.lvm_steps.specs.Requests.{at}
use Rattle.lvm_steps.specs.Behind.{IsAhead}
use Rattle.lvm_vol.specs.Facts.{Fact}
use Rattle.lvm_vol.specs.Log.{Log}
use Rattle.lvm_session.specs.declared.open.Power.{Power}
use Rattle.lvm_session.specs.declared.open.Power.TheVariants as power
use Rattle.lvm_session.specs.Causes.{is_over}
use Rattle.lvm_session.specs.Sound.{HasPower, IsSound, is_dark}
use Rattle.lvm_group_lines.specs.passed.Tie.{moment_of, LeavesSession, MovesOn, RunsOn}
use Rattle.lvm_session.specs.State.{Core, votes_there, state_of}
use Rattle.lvm_group_lines.proofs.passed.Tie.{goes_any, leaves_move_on, path_frames, path_shape, stays_unstuck}
use Rattle.lvm_posts.specs.declared.posts.Post.{Post}
use Rattle.lvm_posts.specs.Posts.{ended_with}
use Rattle.lvm_posts.proofs.PostsLemmas.{over_answered}
use Rattle.lvm_group_lines.specs.declared.holder.Holder.{Holder}
use Rattle.lvm_group_lines.specs.declared.reply.Reply.{Reply}
use Rattle.lvm_group_lines.specs.declared.stage.Stage.{Stage}
use Rattle.lvm_group_lines.specs.Ends.{EndsUnasked}
use Rattle.lvm_group_lines.specs.Moments.{LineGoesOn, OfRequests}
use Rattle.lvm_group_lines.specs.Replies.{most_refusals}
use Rattle.lvm_group_lines.specs.Stages.{HaveRooms, IsBetweenStage, IsCarriedOn, IsClosed, SessionIsClosed, IsFittingStage, IsOfKind, history_in, moment_in, posts_ended, session_of, shelf_in, state_in}
use Rattle.lvm_group_lines.specs.State.{ArePosted, IsOnBetween, IsTimely, ScriptState, without_facts}
use Rattle.lvm_group_lines.specs.declared.holder.Holder.TheVariants as holder
use Rattle.lvm_group_lines.specs.declared.reply.Refusal.TheVariants as refusal
use Rattle.lvm_group_lines.specs.declared.reply.Reply.TheVariants as reply
use Rattle.lvm_group_lines.proofs.StateLemmas.{end_posts}
use Rattle.lvm_group_lines.proofs.MomentsLemmas.Running.{IsRun, before_end, later_end, over_goes, run_goes, spanned}
use Rattle.lvm_range_lines.specs.Leaving.{IsOverWith, CarriesTo, CarriesBy, serving}

-- ---- as states

pub ended_is_over : {S : Type 0} (device : S → Device) (end : S × Core) (posts : List Post) (stage : Stage S) (last : ℕ) → ArePosted end.1.history.facts (Some end.1) posts → SessionIsClosed device end posts stage → IsOverWith (state_of device end) posts last (state_in device stage last)
ended_is_over device end posts stage last stood ended = record { shelf = ended.shelf; facts = ap (λ (log : Log). log.facts) ended.history; session = ended.session; posted = ended.posted; stood = stood; clock = refl }

carried_leaves_by : {S : Type 0} (device : S → Device) (end : S × Core) (posts : Vec Post) (bytes : Vec ℕ) (p : Power) (stage : Stage S) (last : ℕ) → ArePosted end.1.history.facts (Some end.1) posts.items → end.1.power ≡ p → IsCarriedOn device end posts bytes p stage
    → CarriesBy p (state_of device end) posts.items last (state_in device stage last)
carried_leaves_by device end posts bytes power.On stage last stood is carried = ap (λ (s : Stage _). state_in device s last) carried
carried_leaves_by device end posts bytes power.Off stage last stood is carried = ended_is_over device end posts.items stage last stood carried
carried_leaves_by device end posts bytes power.Dark stage last stood is carried = ended_is_over device end posts.items stage last stood carried
carried_leaves_by device end posts bytes power.Stuck stage last stood is carried = ended_is_over device end posts.items stage last stood carried

pub carried_leaves : {S : Type 0} (device : S → Device) (end : S × Core) (posts : Vec Post) (bytes : Vec ℕ) (stage : Stage S) (last : ℕ) → ArePosted end.1.history.facts (Some end.1) posts.items → IsCarriedOn device end posts bytes end.1.power stage
    → CarriesTo (state_of device end) posts.items last (state_in device stage last)
carried_leaves device end posts bytes stage last stood carried = carried_leaves_by device end posts bytes end.1.power stage last stood refl carried

-- ---- what fits

-- where no session is on nothing is asked of its kind
pub off_kind : {S : Type 0} (h : Holder S) → session_of h ≡ None → IsOfKind h
off_kind (holder.Off shelf history) none = tt
off_kind (holder.Empty driver) none = absurd (cc none)
off_kind (holder.Serving driver) none = absurd (cc none)

pub closed_orders : (p : Power) (old new : Device) → IsClosed p old new → new.orders ≡ old.orders
closed_orders power.On old new is = ap (λ (d : Device). d.orders) is
closed_orders power.Off old new is = ap (λ (d : Device). d.orders) is
closed_orders power.Dark old new is = ap (λ (d : Device). d.orders) is
closed_orders power.Stuck old new is = ap (λ (d : Device). d.orders) is

-- what isn't dark stays as it is, but that buffers are taken back
undark_closed : (p : Power) (old new : Device) → is_dark p ≡ false → IsClosed p old new → new ≡ record old { freed = [] }
undark_closed power.On old new undark is = is
undark_closed power.Off old new undark is = is
undark_closed power.Dark old new undark is = absurd (cc undark)
undark_closed power.Stuck old new undark is = is

-- ---- the line

-- where its session has run to
pub record RunsTo {S : Type 0} (device : S → Device) (first end : S × Core) : Type 0 where
  pub went : IsSound (state_of device first) → MovesOn (state_of device first) (state_of device end)
  pub orders : (device end.0).orders ≡ (device first.0).orders
  pub sound : IsSound (state_of device end)

-- by calls on which no copy moves
pub leave_to : {S : Type 0} (device : S → Device) (first end : S × Core) → LeavesSession (state_of device first) (state_of device end) → IsSound (state_of device first) → MovesOn (state_of device first) (state_of device end)
leave_to device first end leaves sound = leaves_move_on (state_of device first) (state_of device end) sound leaves

pub runs_to : {S : Type 0} (device : S → Device) (first end : S × Core) → RunsOn (state_of device first) (state_of device end) → IsSound (state_of device end) → RunsTo device first end
runs_to device first end runs sound = record { went = leave_to device first end (goes_any runs); orders = (path_frames runs).orders; sound = sound }

module _ {S : Type 0} (device : S → Device) (first : S × Core) (posts : Vec Post) (bytes : Vec ℕ) (fits : IsFittingStage (serving first posts bytes)) (between : IsBetweenStage device (serving first posts bytes)) where
  abbrev old : Stage S
  old = serving first posts bytes

  on_first : IsOnBetween (device first.0) first.1
  on_first = between.session

  -- a session on which no copy moves is heard of
  pub unstuck : (end : S × Core) → LeavesSession (state_of device first) (state_of device end) → end.1.power ≡ power.Stuck → ⊥
  unstuck end leaves = stays_unstuck first.1 end.1 (path_shape leaves).power (λ stuck. let e : power.On ≡ power.Stuck = sym on_first.power ∙ stuck in cc e)

  module _ (end : S × Core) (to : RunsTo device first end) where
    went : MovesOn (state_of device first) (state_of device end)
    went = to.went on_first.sound

    pub its : (last : ℕ) → IsRun OfRequests (state_in device old last) first.1 (state_of device end)
    its last = record { alone = λ new alone. alone.acts tt; session = refl; facts = refl; volumes = fits.kind; between = between; went = went; sound = to.sound }

    same_rooms : without_facts end.1.history ≡ without_facts first.1.history
    same_rooms = went.keeps.log

    room_is : end.1.history.room ≡ first.1.history.room
    room_is = ap (λ (log : Log). log.room) same_rooms

    volumes_stay : end.1.descriptor.lvs ≢ []
    volumes_stay none = fits.kind (went.keeps.volumes none)

    module _ (Does : Log → ScriptState → ScriptState → Reply → Type 0) (posts1 : Vec Post) (bytes1 : Vec ℕ) (rooms : HaveRooms first.1.history.room posts1 bytes1) (stage : Stage S) (answer : Reply)
        (few : most_refusals answer + length posts1.items ≤ length posts.items + 1)
        (does : (last : ℕ) → Does (without_facts first.1.history) (state_in device old last) (state_in device stage last) answer) where
      -- it goes on
      goes_on : end.1.power ≡ power.On → end.1.copy ≡ None → ArePosted end.1.history.facts (Some end.1) posts1.items → stage ≡ serving end posts1 bytes1 → EndsUnasked device Does ⊥ OfRequests old stage answer
      goes_on on shut posted is last = record {
        does = does last;
        goes = subst (λ (s : Stage S). LineGoesOn first.1.history.run OfRequests answer (state_in device old last) (state_in device s last)) (sym is)
            (run_goes OfRequests (state_in device old last) first.1 (state_of device end) (its last) answer (state_in device (serving end posts1 bytes1) last) refl on shut posted (λ not_asking. absurd (not_asking tt)) few);
        rooms = ap (λ (s : Stage S). without_facts (history_in s)) is ∙ same_rooms;
        fits = subst IsFittingStage (sym is) (record {
          kind = volumes_stay;
          few = subst (λ n. n < 2 ^ 32) (sym room_is) fits.few;
          rooms = subst (λ n. HaveRooms n posts1 bytes1) (sym room_is) rooms;
        });
        orders = λ none. ap (λ (s : Stage S). (device (shelf_in s)).orders) is ∙ to.orders;
      }

      -- it has ended
      module _ (ended : SessionIsClosed device end posts1.items stage) (rooms_then : HaveRooms first.1.history.room stage.posts stage.bytes) where
        facts_are : (history_in stage).facts ≡ end.1.history.facts
        facts_are = ap (λ (log : Log). log.facts) ended.history

        few_then : most_refusals answer + length stage.posts.items ≤ length posts.items + 1
        few_then =
            let same = ap (λ (ps : List Post). length ps) ended.posted in
            let long = length-map posts1.items (ended_with (votes_there end.1) (total_votes end.1.descriptor)) in
            omega (arith, few, same, long)

        fits_then : IsFittingStage stage
        fits_then = record {
          kind = off_kind stage.holder ended.session;
          few = subst (λ n. n < 2 ^ 32) (sym (ap (λ (log : Log). log.room) ended.history ∙ room_is)) fits.few;
          rooms = subst (λ n. HaveRooms n stage.posts stage.bytes) (sym (ap (λ (log : Log). log.room) ended.history ∙ room_is)) rooms_then;
        }

        ends_so : ((last : ℕ) → LineGoesOn first.1.history.run OfRequests answer (state_in device old last) (state_in device stage last)) → EndsUnasked device Does ⊥ OfRequests old stage answer
        ends_so goes last = record {
          does = does last;
          goes = goes last;
          rooms = ap without_facts ended.history ∙ same_rooms;
          fits = fits_then;
          orders = λ none. closed_orders end.1.power (device end.0) (device (shelf_in stage)) ended.shelf ∙ to.orders;
        }

        -- since it is over
        module _ (over : is_over end.1.power ≡ true) (posted : ArePosted end.1.history.facts (Some end.1) posts1.items) where
          posted_then : ArePosted (history_in stage).facts None stage.posts.items
          posted_then =
              subst (λ (ps : List Post). ArePosted (history_in stage).facts None ps) (sym ended.posted) (subst (λ (fs : List Fact). ArePosted fs None (posts_ended (Some end.1) posts1.items)) (sym facts_are)
              (end_posts end.1.history.facts end.1.history.facts (λ range answered. answered) end.1 (votes_there end.1) (total_votes end.1.descriptor)
              (λ range some held. over_answered (state_of device end) range to.sound over held) posts1.items posted))

          pub over_ends : EndsUnasked device Does ⊥ OfRequests old stage answer
          over_ends = ends_so (λ last.
              over_goes OfRequests (state_in device old last) first.1 (state_of device end) (its last) answer (state_in device stage last) ended.shelf facts_are ended.session refl
              (λ stuck. let e : is_over power.Stuck ≡ true = sym (ap is_over stuck) ∙ over in cc e) (λ heard. over) posted_then (λ not_asking. absurd (not_asking tt)) few_then)

        -- or since nothing was heard of it
        module _ (undark : is_dark end.1.power ≡ false) (stuck : answer ≡ reply.Refused refusal.Stuck) where
          lit : HasPower (device end.0)
          lit = to.sound.lit undark

          closed : device (shelf_in stage) ≡ record (device end.0) { freed = [] }
          closed = undark_closed end.1.power (device end.0) (device (shelf_in stage)) undark ended.shelf

          same_device : device (shelf_in stage) ≡ device end.0
          same_device = closed ∙ ap (λ (freed : List Buffer). record (device end.0) { freed = freed }) (sym lit.freed)

          same_moment : moment_in device stage ≡ moment_of (state_of device end)
          same_moment = ap (λ (d : Device). at d (history_in stage).facts) same_device ∙ ap (λ (fs : List Fact). at (device end.0) fs) facts_are

          left_behind : (last : ℕ) → IsTimely first.1.history.run (state_in device old last) → IsAhead first.1.history.run (last + 1) (device (shelf_in stage)) (history_in stage).facts
          left_behind last timely = subst (λ (m : Moment). IsAhead first.1.history.run (last + 1) m.device m.facts) (sym same_moment) (record {
            run_is = timely.ahead.run_is;
            later = later_end OfRequests (state_in device old last) first.1 (state_of device end) (its last) timely;
            behind = (before_end OfRequests (state_in device old last) first.1 (state_of device end) (its last) timely).stands;
          })

          pub unheard_ends : EndsUnasked device Does ⊥ OfRequests old stage answer
          unheard_ends = ends_so (λ last. record {
            keeps = λ timely alone began span stands. (
              subst (Keeps first.1.history.run began) (sym same_moment) (spanned OfRequests (state_in device old last) first.1 (state_of device end) (its last) (state_in device stage last) alone began stands span),
              λ heard. absurd (heard stuck),
            );
            timely = λ heard. absurd (heard stuck);
            left = left_behind last;
            between = λ heard. absurd (heard stuck);
            rests = λ not_asking. absurd (not_asking tt);
            begins = λ timely facts kept. tt;
            power = ap (λ (d : Device). d.power) same_device ∙ lit.power;
            waits = let w = went.keeps.counts.waits in let same = ap (λ (d : Device). d.counts.waits) same_device in omega (arith, w, same);
            clock = omega arith;
            few = few_then;
          })

        pub stuck_ends : end.1.power ≡ power.On → answer ≡ reply.Refused refusal.Stuck → EndsUnasked device Does ⊥ OfRequests old stage answer
        stuck_ends on = unheard_ends (ap is_dark on)

      -- whichever it is
      module _ (posted : ArePosted end.1.history.facts (Some end.1) posts1.items) (rooms_then : HaveRooms first.1.history.room stage.posts stage.bytes) (shut : end.1.power ≡ power.On → end.1.copy ≡ None) (heard : end.1.power ≡ power.Stuck → ⊥) where
        by_power : (p : Power) → end.1.power ≡ p → IsCarriedOn device end posts1 bytes1 p stage → EndsUnasked device Does ⊥ OfRequests old stage answer
        by_power power.On is carried = goes_on is (shut is) posted carried
        by_power power.Off is carried = over_ends carried rooms_then (ap is_over is) posted
        by_power power.Dark is carried = over_ends carried rooms_then (ap is_over is) posted
        by_power power.Stuck is carried = absurd (heard is)

        pub carried_ends : IsCarriedOn device end posts1 bytes1 end.1.power stage → EndsUnasked device Does ⊥ OfRequests old stage answer
        carried_ends carried = by_power end.1.power refl carried

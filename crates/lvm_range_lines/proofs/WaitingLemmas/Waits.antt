-- What `wait` leaves of a session that was on.
use Rattle.std.proofs.Common.{◌≡◌, ◌≤◌, ◌+◌, ℕ, true, List, [], Option, Some, length, refl, sym, ◌∙◌, ap, subst, arith}
use Rattle.std.specs.Global.{Vec}
use Rattle.lvm_disk.specs.Device.{Device}
use Rattle.lvm_disk.specs.Paths.{Path}
use Rattle.lvm_vol.specs.Facts.{Fact}
use Rattle.lvm_vol.specs.Log.{Log}
use Rattle.lvm_steps.specs.Requests.{at}
use Rattle.lvm_session.specs.declared.open.Power.{Power}
use Rattle.lvm_session.specs.declared.open.Power.TheVariants as power
use Rattle.lvm_session.specs.Causes.{is_over}
use Rattle.lvm_session.specs.Sound.{IsSound}
use Rattle.lvm_session.specs.State.{Core, state_of}
use Rattle.lvm_group_lines.specs.passed.Driver.{IsAny}
use Rattle.lvm_group_lines.proofs.passed.Ranges.{answered_for}
use Rattle.lvm_group_lines.specs.passed.Tie.{RunsOn}
use Rattle.lvm_group_lines.proofs.passed.Tie.{goes_any, path_frames, runs_both}
use Rattle.lvm_posts.specs.declared.posts.Post.{Post}
use Rattle.lvm_group_lines.specs.declared.reply.Refusal.TheVariants as refusal
use Rattle.lvm_group_lines.specs.declared.reply.Reply.{Reply}
use Rattle.lvm_group_lines.specs.declared.stage.Stage.{Stage}
use Rattle.lvm_group_lines.specs.Ends.{EndsUnasked}
use Rattle.lvm_group_lines.specs.Moments.{LineGoesOn, OfRequests}
use Rattle.lvm_group_lines.specs.Replies.{IsStuck, most_refusals}
use Rattle.lvm_group_lines.specs.Stages.{HaveRooms, IsBetweenStage, IsCarriedOn, SessionIsClosed, IsFittingStage, history_in, shelf_in, state_in}
use Rattle.lvm_group_lines.specs.State.{ArePosted, ScriptState, without_facts}
use Rattle.lvm_group_lines.specs.declared.reply.Reply.TheVariants as reply
use Rattle.lvm_group_lines.proofs.MomentsLemmas.Running.{over_goes}
use Rattle.lvm_range_lines.specs.Leaving.{GoesOnWith, Waited, serving}
use Rattle.lvm_range_lines.specs.Taking.{SessionFollows, IsClosedBehind, LandedEnds}
use Rattle.lvm_range_lines.specs.Waiting.{AllHaveLanded, Awaits, Goes, InVain, IsAwaited, Over, TurnsForPosts, WaitDoes, WaitEnds}
use Rattle.lvm_range_lines.proofs.WaitingLemmas.Behind.{behind_goes, posts_few, waits_off}
use Rattle.lvm_range_lines.proofs.LeavingLemmas.Ending.{RunsTo, carried_ends, closed_orders, ended_is_over, its, runs_to, stuck_ends, unstuck}
use Rattle.lvm_range_lines.proofs.TakingLemmas.Landed.{long_ended, posted_ended}
use Rattle.lvm_range_lines.proofs.RequestsLemmas.Lines.{unfinished_on}

-- no posts are left
pub none_posted : (facts : List Fact) (core : Option Core) (posts : List Post) → posts ≡ [] → ArePosted facts core posts
none_posted facts core posts none = subst (λ (ps : List Post). ArePosted facts core ps) (sym none) (record { each = λ k d less. absurd (omega (arith, less)); rise = λ i j d before less. absurd (omega (arith, less)) })

-- an answer of no post is none of being stuck
pub heard_ok : IsStuck reply.Ok → ⊥
heard_ok stuck = cc stuck

module _ {S : Type 0} (device : S → Device) (first : S × Core) (posts : Vec Post) (bytes : Vec ℕ) (fits : IsFittingStage (serving first posts bytes)) (between : IsBetweenStage device (serving first posts bytes))
    (mid : S × Core) (turns : Path (TurnsForPosts posts.items) IsAny (state_of device first) (state_of device mid)) (runs : RunsOn (state_of device first) (state_of device mid)) (sound : IsSound (state_of device mid))
    (left : ℕ) (waited : Waited left (state_of device first) (state_of device mid)) (posted : ArePosted mid.1.history.facts (Some mid.1) posts.items) where
  abbrev Does : Log → ScriptState → ScriptState → Reply → Type 0
  Does log = WaitDoes

  abbrev old : Stage S
  old = serving first posts bytes

  to_mid : RunsTo device first mid
  to_mid = runs_to device first mid runs sound

  does_so : (stage : Stage S) (answer : Reply) (last : ℕ) → WaitEnds (state_of device mid) left (state_in device old last) (state_in device stage last) answer → WaitDoes (state_in device old last) (state_in device stage last) answer
  does_so stage answer last ends = Awaits first.1 refl fits.kind (record { mid = state_of device mid; turns = turns; runs = runs; sound = sound; left = left; waited = waited; ends = ends })

  -- ---- it goes on

  module _ (landed : AllHaveLanded posts.items (state_of device mid)) (stage : Stage S) (answer : Reply) (fits_then : IsFittingStage stage) where
    module _ (on : mid.1.power ≡ power.On) (goes : SessionFollows device mid stage answer posts.items) where
      all : RunsOn (state_of device first) (state_of device goes.end)
      all = runs_both (state_of device first) (state_of device mid) (state_of device goes.end) runs goes.runs

      to_end : RunsTo device first goes.end
      to_end = runs_to device first goes.end all goes.sound

      room_is : goes.end.1.history.room ≡ first.1.history.room
      room_is = ap (λ (log : Log). log.room) (path_frames all).keeps.log

      rooms1 : HaveRooms first.1.history.room goes.none goes.bytes
      rooms1 = subst (λ n. HaveRooms n goes.none goes.bytes) room_is (subst IsFittingStage goes.is fits_then).rooms

      goes_as : (last : ℕ) → GoesOnWith (state_of device goes.end) [] last (state_in device stage last)
      goes_as last = ap (λ (s : Stage S). state_in device s last) goes.is
          ∙ ap (λ (ps : List Post). record { moment = at (device goes.end.0) goes.end.1.history.facts; session = Some goes.end.1; posts = ps; last = last }) goes.empty

      few_left : most_refusals answer + length goes.none.items ≤ length posts.items + 1
      few_left = let some = posts_few goes.takes answer goes.tells in let none = ap (λ (ps : List Post). length ps) goes.empty in omega (arith, some, none)

      on_ends : EndsUnasked device Does ⊥ OfRequests old stage answer
      on_ends = carried_ends device first posts bytes fits between goes.end to_end Does goes.none goes.bytes rooms1 stage answer few_left
          (λ last. does_so stage answer last (Goes on landed (record { answers = goes.endings; end = state_of device goes.end; takes = goes.takes; runs = goes.runs; sound = goes.sound; goes = goes_as last; tells = goes.tells })))
          (none_posted goes.end.1.history.facts (Some goes.end.1) goes.none.items goes.empty) (subst (λ (s : Stage S). HaveRooms first.1.history.room s.posts s.bytes) (sym goes.is) rooms1) (λ power_is. (path_frames all).copy between.session.copy) (unstuck device first posts bytes fits between goes.end (goes_any all))
          (subst (λ (p : Power). IsCarriedOn device goes.end goes.none goes.bytes p stage) (sym goes.on) goes.is)

    -- ---- it is over

    module _ (over : is_over mid.1.power ≡ true) (behind : IsClosedBehind device mid posts.items stage answer) where
      log_is : history_in behind.closed ≡ mid.1.history
      log_is = behind.ended.history

      long : length behind.closed.posts.items ≡ length posts.items
      long = long_ended device mid posts behind.closed behind.ended

      goes_closed : (last : ℕ) → LineGoesOn first.1.history.run OfRequests reply.Ok (state_in device old last) (state_in device behind.closed last)
      goes_closed last =
          over_goes OfRequests (state_in device old last) first.1 (state_of device mid) (its device first posts bytes fits between mid to_mid last) reply.Ok (state_in device behind.closed last) behind.ended.shelf (ap (λ (log : Log). log.facts) log_is)
          behind.ended.session refl (unstuck device first posts bytes fits between mid (goes_any runs)) (λ heard. over) (posted_ended device mid posts behind.closed behind.ended sound over posted) (λ not_asking. absurd (not_asking tt)) (omega (arith, long))

      run_is : first.1.history.run ≡ (history_in behind.closed).run
      run_is = sym (ap (λ (log : Log). log.run) log_is ∙ ap (λ (log : Log). log.run) (path_frames runs).keeps.log)

      over_ends_so : EndsUnasked device Does ⊥ OfRequests old stage answer
      over_ends_so last = record {
        does = does_so stage answer last (Over landed (record {
          over = over;
          caused = λ id. answered_for (state_of device mid) 1 id sound;
          closed = state_in device behind.closed last;
          ends = ended_is_over device mid posts.items behind.closed last posted behind.ended;
          waits = waits_off device behind.closed stage answer behind.waits behind.ended.session last;
        }));
        goes = behind_goes device first.1.history.run (state_in device old last) behind.closed stage last answer behind.waits behind.ended.session run_is reply.Ok heard_ok (goes_closed last) (omega (arith, long));
        rooms = ap without_facts behind.waits.rooms ∙ ap without_facts log_is ∙ (path_frames runs).keeps.log;
        fits = fits_then;
        orders = λ none. ap (λ (d : Device). d.orders) behind.waits.shelf ∙ closed_orders mid.1.power (device mid.0) (device (shelf_in behind.closed)) behind.ended.shelf ∙ (path_frames runs).orders;
      }

    -- whichever it is
    by_power : (p : Power) → mid.1.power ≡ p → LandedEnds device mid posts bytes p stage answer → EndsUnasked device Does ⊥ OfRequests old stage answer
    by_power power.On is goes = on_ends is goes
    by_power power.Off is behind = over_ends_so (ap is_over is) behind
    by_power power.Dark is behind = over_ends_so (ap is_over is) behind
    by_power power.Stuck is behind = absurd (unstuck device first posts bytes fits between mid (goes_any runs) is)

    pub landed_ends : LandedEnds device mid posts bytes mid.1.power stage answer → EndsUnasked device Does ⊥ OfRequests old stage answer
    landed_ends ends = by_power mid.1.power refl ends

  -- ---- in vain

  module _ (awaited : IsAwaited posts.items (state_of device mid)) (none : left ≡ 0) (stage : Stage S) (ended : SessionIsClosed device mid posts.items stage) (rooms_then : HaveRooms first.1.history.room stage.posts stage.bytes) (answer : Reply)
      (says : answer ≡ reply.Refused refusal.Stuck) where
    pub vain_ends : EndsUnasked device Does ⊥ OfRequests old stage answer
    vain_ends =
        let one : most_refusals answer ≤ 1 = subst (λ (a : Reply). most_refusals a ≤ 1) (sym says) (omega arith) in
        stuck_ends device first posts bytes fits between mid to_mid Does posts bytes fits.rooms stage answer (omega (arith, one))
        (λ last. does_so stage answer last (InVain (record { awaited = awaited; none = none; ends = ended_is_over device mid posts.items stage last posted ended; says = says })))
        ended rooms_then (unfinished_on awaited.post.asked (state_of device mid) sound (unstuck device first posts bytes fits between mid (goes_any runs)) awaited.unfinished) says

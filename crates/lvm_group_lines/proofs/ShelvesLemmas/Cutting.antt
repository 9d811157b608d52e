-- What a power cut that is arranged does to a state between two lines.
use Rattle.std.proofs.Common.{◌≡◌, inl, inr, ◌+◌, ◌≤◌, ◌∷◌, [], ℕ, List, true, Option, Some, None, IfSome, IfNone, length, map, refl, sym, ◌∙◌, ap, subst, arith}
use Rattle.std.specs.Prelude.{◌^◌, ◌<◌}
use Rattle.std.specs.Global.{Vec}
use Rattle.std.specs.Option.{option_map}
use Rattle.std.proofs.lemmas.List.{length-map}
use Rattle.lvm_num.specs.Votes.{total_votes}
use Rattle.lvm_disk.specs.Device.{Device, IsReady}
use Rattle.lvm_disk.specs.Images.{LeavesNoMore}
use Rattle.lvm_disk.specs.Paths.{DeviceStep, Path, Here, Then, Arranged}
use Rattle.lvm_disk.specs.Steps.{Cuts, with_order, Arranges, ArrangeGives}
use Rattle.lvm_disk.specs.declared.shelf.Arrange.TheVariants as arrange
use Rattle.lvm_disk.proofs.PathsLemmas.{last-path, leaves_on}
use Rattle.lvm_disk.proofs.StepsLemmas.{arrange_leaves}
use Rattle.lvm_vol.specs.Facts.{Fact}
use Rattle.lvm_vol.specs.Log.{Log, is_open, cut_log}
use Rattle.lvm_vol.specs.Legal.{IsLater}
use Rattle.lvm_steps.specs.Moments.{Keeps}
use Rattle.lvm_steps.specs.Requests.{at}
use Rattle.lvm_steps.proofs.MomentsLemmas.Spans.{keeps_steps}
use Rattle.lvm_transfer.specs.Transfer.{Relights}
use Rattle.lvm_transfer.proofs.TransferLemmas.Ending.{was_cut}
use Rattle.lvm_session.specs.declared.open.Open.{Open}
use Rattle.lvm_session.specs.Dark.{after_arrange, all_dark}
use Rattle.lvm_session.specs.Sound.{IsSound, waits}
use Rattle.lvm_session.specs.State.{Core, State, state, votes_there}
use Rattle.lvm_session.specs.Turns.{ArrangesSession}
use Rattle.lvm_keeps.proofs.KeepsLemmas.Orders.{order_keeps}
use Rattle.lvm_group_lines.specs.passed.Core.{HaveAllLanded, IsSettled as IsSettledCore}
use Rattle.lvm_group_lines.specs.passed.Posts.{Post, AreAnswered, ended_with}
use Rattle.lvm_group_lines.proofs.passed.Core.{cut_landed}
use Rattle.lvm_group_lines.proofs.passed.Posts.{over_answered}
use Rattle.lvm_group_lines.proofs.passed.Tie.{leaves_move_on, order_leaves}
use Rattle.lvm_group_lines.specs.passed.Quiesce.{IsAheadEach}
use Rattle.lvm_group_lines.proofs.passed.Quiesce.{fewer_stay_behind}
use Rattle.lvm_group_lines.specs.passed.TieCommands.{StandsAfter}
use Rattle.lvm_group_lines.specs.Ends.{EndsUnasked}
use Rattle.lvm_group_lines.specs.Moments.{Aside, LineGoesOn, HasBegunHeld}
use Rattle.lvm_group_lines.specs.Shelves.{IsCut, CutDoes, PowerIsCut}
use Rattle.lvm_group_lines.specs.Replies.{most_refusals}
use Rattle.lvm_group_lines.specs.Stages.{GivesBack, HaveRooms, IsBetweenStage, IsFittingStage, history_after, history_in, history_of, posts_ended, session_in, session_of, shelf_in, shelf_of, state_in}
use Rattle.lvm_group_lines.specs.State.{ArePosted, IsBetween, IsOnBetween, IsTimely, StandsAlone, ScriptState, log_with, without_facts}
use Rattle.lvm_group_lines.specs.declared.holder.Holder.{Holder}
use Rattle.lvm_group_lines.specs.declared.reply.Reply.{Reply}
use Rattle.lvm_group_lines.specs.declared.reply.Reply.TheVariants as reply
use Rattle.lvm_group_lines.specs.declared.stage.Stage.{Stage}
use Rattle.lvm_group_lines.proofs.LogLemmas.{cut_keeps, cut_later, cut_rooms}
use Rattle.lvm_group_lines.proofs.MomentsLemmas.Going.{each_is_ahead, none_begins, relit_path}
use Rattle.lvm_group_lines.proofs.LightingLemmas.{ready_is_lit, still_leaves_descriptors}
use Rattle.lvm_group_lines.proofs.FactsLemmas.{bears_cut}
use Rattle.lvm_group_lines.proofs.StateLemmas.{answered_bears, end_posts, none_held, off_posts}
use Rattle.lvm_group_lines.proofs.MomentsLemmas.Running.{IsRun, over_goes}
use Rattle.lvm_group_lines.proofs.DarkLemmas.{dark_alone, dark_held, dark_is_cut, dark_leaves}
use Rattle.lvm_group_lines.proofs.ShelvesLemmas.Ordering.{unstuck_by, whose}
use Rattle.lvm_group_lines.proofs.DisksLemmas.{off}

-- ---- a cut of the power

module _ (log : Log) (word : ℕ) (old new : ScriptState) (between : IsBetween old.moment old.session old.posts) (cut : IsCut log word old new) where
  abbrev first_device : Device
  first_device = old.moment.device

  cuts : Cuts (with_order first_device (arrange.Cut word)) cut.dark
  cuts = was_cut (with_order first_device (arrange.Cut word)) cut.dark between.lit.power cut.cut.1

  still : cut.dark.flights ≡ []
  still = ap (λ (d : Device). d.flights) cuts.new_is

  path : Path DeviceStep (LeavesNoMore first_device) first_device new.moment.device
  path = leaves_on (Then (Here (λ image may. may)) (Arranged (arrange.Cut word) cut.cut) (arrange_leaves first_device cut.dark (arrange.Cut word) cut.cut)) (relit_path cut.dark new.moment.device still cut.lit)

  ready : IsReady new.moment.device
  ready = record {
    flights = ap (λ (d : Device). d.flights) cut.lit ∙ still;
    freed = ap (λ (d : Device). d.freed) cut.lit;
    power = ap (λ (d : Device). d.power) cut.lit;
  }

  -- where no request is open a cut alone is entered
  module _ (facts : new.moment.facts ≡ (cut_log (log_with log old.moment.facts)).facts) (landed : HaveAllLanded old.moment.facts) (posted : ArePosted new.moment.facts None new.posts) (long : length new.posts ≡ length old.posts)
      (none : old.posts ≡ [] → new.posts ≡ []) (answer : Reply) (one : most_refusals answer ≤ 1) where
    ahead : IsTimely log.run old → IsAheadEach log.run (new.last + 1) new.moment.device new.moment.facts
    ahead timely = subst (λ (n : ℕ). IsAheadEach log.run (n + 1) new.moment.device new.moment.facts) (sym cut.clock) (record {
      run_is = timely.ahead.run_is;
      later = subst (λ (facts : List Fact). IsLater facts (old.last + 1)) (sym facts) (cut_later (old.last + 1) (log_with log old.moment.facts) timely.ahead.later);
      behind = fewer_stay_behind first_device new.moment.device (old.last + 1) (last-path path) timely.ahead.behind;
    })

    landed_then : HaveAllLanded new.moment.facts
    landed_then id = ap (λ (facts : List Fact). is_open facts id) facts ∙ cut_landed (log_with log old.moment.facts) landed id

    quiet_goes : LineGoesOn log.run Aside answer old new
    quiet_goes = record {
      keeps = λ timely alone first span stands. (
        subst (λ (facts : List Fact). Keeps log.run first (at new.moment.device facts)) (sym facts) (cut_keeps log.run first new.moment.device (log_with log old.moment.facts) (keeps_steps log.run first first_device new.moment.device old.moment.facts span path)),
        λ goes past begins. subst (λ (s : Option Core). IfSome s (λ core. StandsAlone new.moment.device core → StandsAfter past new.moment.device core)) (sym cut.session) tt,
      );
      timely = λ goes timely. record { ahead = ahead timely; session = subst (λ (s : Option Core). IfSome s (λ core. core.status.stamp.epoch ≤ new.last)) (sym cut.session) tt };
      left = λ timely. each_is_ahead log.run (new.last + 1) new.moment.device new.moment.facts (ahead timely);
      between = λ goes. record {
        lit = ready_is_lit new.moment.device ready;
        descriptors = still_leaves_descriptors new.moment.device ready.flights;
        landed = subst (λ (s : Option Core). IfNone s (HaveAllLanded new.moment.facts)) (sym cut.session) landed_then;
        session = subst (λ (s : Option Core). IfSome s (IsOnBetween new.moment.device)) (sym cut.session) tt;
        posted = subst (λ (s : Option Core). ArePosted new.moment.facts s new.posts) (sym cut.session) posted;
      };
      rests = λ others goes rests. record { ready = ready; landed = landed_then; session = subst (λ (s : Option Core). IfSome s IsSettledCore) (sym cut.session) tt; posts = none rests.posts };
      begins = λ timely facts kept. subst (λ (s : Option Core). IfNone old.session (IfSome s (HasBegunHeld new.moment.device))) (sym cut.session) (none_begins old.session);
      power = ready.power;
      waits = let same : new.moment.device.counts.waits ≡ old.moment.device.counts.waits = ap (λ (d : Device). d.counts.waits) cut.lit ∙ ap (λ (d : Device). d.counts.waits) cuts.new_is in omega (arith, same);
      clock = let same = cut.clock in omega (arith, same);
      few = omega (arith, one, long);
    }

  -- else they land as Dark
  module _ (core : Core) (is : old.session ≡ Some core) (history : core.history ≡ log_with log old.moment.facts) (more : core.requests ≡ [] → ⊥) (takes : first_device.arranges ≡ true) (answer : Reply) (one : most_refusals answer ≤ 1) where
    abbrev begun : State
    begun = state first_device core

    abbrev end : State
    end = state cut.dark (all_dark core)

    on : IsOnBetween first_device core
    on = subst (λ (s : Option Core). IfSome s (IsOnBetween first_device)) is between.session

    arranges : ArrangesSession begun end (arrange.Cut word) true
    arranges = record { device = (takes, cut.cut); is = refl }

    sound : IsSound end
    sound = order_keeps begun end (arrange.Cut word) true on.sound arranges

    its : IsRun Aside old core end
    its = record {
      alone = λ after alone. subst (λ (s : Option Core). IfSome s (StandsAlone first_device)) (sym is) (λ none. absurd (more none));
      session = is;
      facts = ap (λ (l : Log). l.facts) (sym history);
      volumes = λ none. more (on.empty none).quiet.requests;
      between = between;
      went = leaves_move_on begun end on.sound (order_leaves begun end (arrange.Cut word) true (unstuck_by core on.power) arranges);
      sound = sound;
    }

    facts_are : new.moment.facts ≡ (all_dark core).history.facts
    facts_are = cut.facts ∙ ap (λ (s : Option Core). (history_after (arrange.Cut word) true (cut_log (log_with log old.moment.facts)) s).facts) is

    posts_are : new.posts ≡ map (ended_with (votes_there core) (total_votes core.descriptor)) old.posts
    posts_are = cut.posts ∙ ap (λ (s : Option Core). posts_ended s old.posts) is

    posted_then : ArePosted new.moment.facts None new.posts
    posted_then =
        subst (λ (facts : List Fact). ArePosted facts None new.posts) (sym facts_are)
        (subst (λ (posts : List Post). ArePosted (all_dark core).history.facts None posts) (sym posts_are)
        (end_posts old.moment.facts (all_dark core).history.facts (λ range answered. dark_leaves core range (subst (λ (l : Log). AreAnswered l.facts range) (sym history) answered))
        core (votes_there core) (total_votes core.descriptor) (λ range some held. over_answered end range sound refl (dark_held core range held)) old.posts
        (subst (λ (s : Option Core). ArePosted old.moment.facts s old.posts) is between.posted)))

    open_goes : LineGoesOn log.run Aside answer old new
    open_goes = subst (λ (l : Log). LineGoesOn l.run Aside answer old new) history
        (over_goes Aside old core end its answer new cut.lit facts_are cut.session cut.clock (λ stuck. cc (stuck)) (λ goes. refl) posted_then
        (λ others rests. absurd (more (subst (λ (s : Option Core). IfSome s IsSettledCore) is rests.session).quiet.requests))
        (let same = ap (λ (ps : List Post). length ps) posts_are ∙ length-map old.posts (ended_with (votes_there core) (total_votes core.descriptor)) in omega (arith, one, same)))

  pub cut_goes : ((core : Core) → old.session ≡ Some core → core.history ≡ log_with log old.moment.facts) → first_device.arranges ≡ true → (answer : Reply) → most_refusals answer ≤ 1 → LineGoesOn log.run Aside answer old new
  cut_goes its takes answer one = by_session old.session refl
    where
      by_requests : (core : Core) → old.session ≡ Some core → (os : List Open) → core.requests ≡ os → LineGoesOn log.run Aside answer old new
      by_requests core is (o ∷ os) some = open_goes core is (its core is) (λ none. let e : o ∷ os ≡ [] = sym some ∙ none in cc e) takes answer one
      by_requests core is [] none =
          let facts = cut.facts ∙ ap (λ (s : Option Core). (history_after (arrange.Cut word) true (cut_log (log_with log old.moment.facts)) s).facts) is ∙ ap (λ (l : Log). l.facts) (dark_alone core none) ∙ ap (λ (l : Log). (cut_log l).facts) (its core is) in
          let posts = cut.posts ∙ ap (λ (s : Option Core). posts_ended s old.posts) is in
          let on = subst (λ (s : Option Core). IfSome s (IsOnBetween first_device)) is between.session in
          quiet_goes facts (λ id. ap (λ (l : Log). is_open l.facts id) (sym (its core is)) ∙ on.sound.told.each id ∙ ap (λ (rs : List Open). waits rs id) none)
          (subst (λ (fs : List Fact). ArePosted fs None new.posts) (sym facts) (subst (λ (ps : List Post). ArePosted (cut_log (log_with log old.moment.facts)).facts None ps) (sym posts)
          (end_posts old.moment.facts (cut_log (log_with log old.moment.facts)).facts (λ range. bears_cut (λ fs. AreAnswered fs range) (answered_bears range) (log_with log old.moment.facts)) core (votes_there core) (total_votes core.descriptor)
          (none_held core (cut_log (log_with log old.moment.facts)).facts none) old.posts (subst (λ (s : Option Core). ArePosted old.moment.facts s old.posts) is between.posted))))
          (ap (λ (ps : List Post). length ps) posts ∙ length-map old.posts (ended_with (votes_there core) (total_votes core.descriptor))) (λ empty. posts ∙ ap (map (ended_with (votes_there core) (total_votes core.descriptor))) empty) answer one

      by_session : (session : Option Core) → old.session ≡ session → LineGoesOn log.run Aside answer old new
      by_session (Some core) is = by_requests core is core.requests refl
      by_session None is =
          let facts = cut.facts ∙ ap (λ (s : Option Core). (history_after (arrange.Cut word) true (cut_log (log_with log old.moment.facts)) s).facts) is in
          let posts = cut.posts ∙ ap (λ (s : Option Core). posts_ended s old.posts) is in
          quiet_goes facts (subst (λ (s : Option Core). IfNone s (HaveAllLanded old.moment.facts)) is between.landed)
          (subst (λ (fs : List Fact). ArePosted fs None new.posts) (sym facts) (subst (λ (ps : List Post). ArePosted (cut_log (log_with log old.moment.facts)).facts None ps) (sym posts)
          (off_posts old.moment.facts (cut_log (log_with log old.moment.facts)).facts (λ range. bears_cut (λ fs. AreAnswered fs range) (answered_bears range) (log_with log old.moment.facts)) old.posts
          (subst (λ (s : Option Core). ArePosted old.moment.facts s old.posts) is between.posted))))
          (ap (λ (ps : List Post). length ps) posts) (λ empty. posts ∙ empty) answer one

-- ---- a stage whose power is cut

-- a cut that was entered isn't entered again
cut_after : (word : ℕ) (log : Log) (session : Option Core) → cut_log (history_after (arrange.Cut word) true log session) ≡ history_after (arrange.Cut word) true (cut_log log) session
cut_after word log None = refl
cut_after word log (Some core) = dark_is_cut core

ended_after : (word : ℕ) (session : Option Core) (posts : List Post) → posts_ended (option_map (after_arrange (arrange.Cut word) true) session) posts ≡ posts_ended session posts
ended_after word None posts = refl
ended_after word (Some core) posts = refl

rooms_after : (word : ℕ) (log : Log) (session : Option Core) → ((core : Core) → session ≡ Some core → core.history ≡ log) → without_facts (history_after (arrange.Cut word) true (cut_log log) session) ≡ without_facts log
rooms_after word log None history = cut_rooms log
rooms_after word log (Some core) history = cut_rooms core.history ∙ ap without_facts (history core refl)

-- the power is on again, whether the buffers were taken back before or not
lit_again : (dark closed new : Device) → GivesBack dark closed → Relights closed new → Relights dark new
lit_again dark closed new (inl same) lit = lit ∙ ap (λ (d : Device). record d { freed = []; power = true }) same
lit_again dark closed new (inr back) lit = lit ∙ ap (λ (d : Device). record d { freed = []; power = true }) back

closed_still : (dark closed : Device) → GivesBack dark closed → dark.flights ≡ [] → closed.flights ≡ []
closed_still dark closed (inl same) none = ap (λ (d : Device). d.flights) same ∙ none
closed_still dark closed (inr back) none = ap (λ (d : Device). d.flights) back ∙ none

-- nothing is out of a shelf whose power was cut, and that was closed
pub closed_flights : (old dark closed : Device) (word : ℕ) → old.power ≡ true → Arranges old dark (arrange.Cut word) → GivesBack dark closed → closed.flights ≡ []
closed_flights old dark closed word on cut gives = closed_still dark closed gives (ap (λ (d : Device). d.flights) (was_cut (with_order old (arrange.Cut word)) dark on cut.1).new_is)

module _ {S : Type 0} (device : S → Device) (old : Stage S) (by : Holder S) (word : ℕ) (fits : IsFittingStage old) (between : IsBetweenStage device old)
    (shelf : ArrangeGives (device (shelf_in old)) (device (shelf_of by)) (arrange.Cut word) true)
    (session : session_of by ≡ option_map (after_arrange (arrange.Cut word) true) (session_in old))
    (history : history_of by ≡ history_after (arrange.Cut word) true (history_in old) (session_in old))
    (closed : Device) (gives : GivesBack (device (shelf_of by)) closed) (kept : Log) (kept_is : kept ≡ history_of by)
    (posts : Vec Post) (bytes : Vec ℕ) (ended : posts.items ≡ posts_ended (session_of by) old.posts.items) (rooms : (entries : ℕ) → HaveRooms entries old.posts old.bytes → HaveRooms entries posts bytes)
    (last_shelf : S) (lit : Relights closed (device last_shelf)) (log : Log) (log_is : log ≡ cut_log kept) where
  left_log : log ≡ history_after (arrange.Cut word) true (cut_log (history_in old)) (session_in old)
  left_log = log_is ∙ ap cut_log (kept_is ∙ history) ∙ cut_after word (history_in old) (session_in old)

  rooms_are : without_facts log ≡ without_facts (history_in old)
  rooms_are = ap without_facts left_log ∙ rooms_after word (history_in old) (session_in old) (whose old.holder)

  room_is : log.room ≡ (history_in old).room
  room_is = ap (λ (l : Log). l.room) rooms_are

  stage_cut : (last : ℕ) → IsCut (without_facts (history_in old)) word (state_in device old last) (state_in device (off last_shelf log posts bytes) last)
  stage_cut last = record {
    dark = device (shelf_of by);
    cut = shelf.1;
    lit = lit_again (device (shelf_of by)) closed (device last_shelf) gives lit;
    facts = ap (λ (l : Log). l.facts) left_log;
    session = refl;
    posts = ended ∙ ap (λ (s : Option Core). posts_ended s old.posts.items) session ∙ ended_after word (session_in old) old.posts.items;
    clock = refl;
  }

  module _ (it : Stage S) (is : it ≡ off last_shelf log posts bytes) where
    pub cut_ends : (answer : Reply) → answer ≡ reply.Ok → EndsUnasked device (λ log. CutDoes log word) (Unit {0}) Aside old it answer
    cut_ends answer says = λ last. record {
      does = PowerIsCut shelf.0 says (subst (λ (s : Stage S). IsCut (without_facts (history_in old)) word (state_in device old last) (state_in device s last)) (sym is) (stage_cut last));
      goes = subst (λ (s : Stage S). LineGoesOn (history_in old).run Aside answer (state_in device old last) (state_in device s last)) (sym is)
          (cut_goes (without_facts (history_in old)) word (state_in device old last) (state_in device (off last_shelf log posts bytes) last) between (stage_cut last) (whose old.holder) shelf.0 answer
          (subst (λ (a : Reply). most_refusals a ≤ 1) (sym says) (omega arith)));
      rooms = ap (λ (s : Stage S). without_facts (history_in s)) is ∙ rooms_are;
      fits = subst IsFittingStage (sym is) (record { kind = tt; few = subst (λ (n : ℕ). n < 2 ^ 32) (sym room_is) fits.few; rooms = subst (λ (n : ℕ). HaveRooms n posts bytes) (sym room_is) (rooms (history_in old).room fits.rooms) });
      orders = λ none. absurd (none tt);
    }

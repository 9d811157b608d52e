-- A line whose range is waited for.
use Rattle.std.proofs.Common.{◌≡◌, ◌≤◌, ◌+◌, ℕ, Bool, true, false, List, Option, Some, None, length, refl, sym, ◌∙◌, ap, subst, arith}
use Rattle.std.specs.Prelude.{MatchOption, Result, Ok, Err, IfErr, IfOk}
use Rattle.std.specs.Global.{Vec}
use Rattle.lvm_num.specs.Votes.{total_votes}
use Rattle.lvm_disk.specs.Device.{Device}
use Rattle.lvm_vol.specs.Facts.{Fact}
use Rattle.lvm_vol.specs.Log.{Log}
use Rattle.lvm_vol.specs.declared.entry.Outcome.{Outcome}
use Rattle.lvm_vol.specs.declared.entry.Outcome.TheVariants as outcome
use Rattle.lvm_session.specs.declared.open.Power.{Power}
use Rattle.lvm_session.specs.declared.open.Power.TheVariants as power
use Rattle.lvm_session.specs.Causes.{is_over}
use Rattle.lvm_session.specs.Sound.{IsSound}
use Rattle.lvm_session.specs.State.{Core, State, state, votes_there, state_of}
use Rattle.lvm_group_lines.specs.passed.Tie.{RunsOn}
use Rattle.lvm_group_lines.proofs.passed.Tie.{goes_any, path_frames, runs_both}
use Rattle.lvm_posts.specs.declared.asked.Asked.{Asked}
use Rattle.lvm_posts.specs.declared.fault.RangeFault.{RangeFault}
use Rattle.lvm_posts.specs.declared.fault.RangeFault.TheVariants as fault
use Rattle.lvm_posts.specs.declared.posts.Post.{Post}
use Rattle.lvm_posts.specs.Deciding.{AllWell, FirstFails, RangeEnds, fault_by}
use Rattle.lvm_posts.specs.Pieces.{piece_lp}
use Rattle.lvm_group_lines.specs.passed.Ranges.{AskRangeFault, AskRangeGives, Asks, FinishGives, Finished, IsAskedFor, IsUnfinished, KeepsOthers, RangeCause, WasStuck, range_fault}
use Rattle.lvm_group_lines.proofs.passed.Ranges.{range_cause}
use Rattle.lvm_group_lines.specs.declared.reply.Reply.{Reply}
use Rattle.lvm_group_lines.specs.declared.stage.Stage.{Stage}
use Rattle.lvm_group_lines.specs.Ends.{EndsUnasked}
use Rattle.lvm_group_lines.specs.Moments.{OfRequests}
use Rattle.lvm_group_lines.specs.Replies.{InFull, Shows, WithoutMemory, is_unheard, most_refusals}
use Rattle.lvm_group_lines.specs.Stages.{ComesTo, HaveRooms, IsBetweenStage, IsCarriedOn, IsFittingStage, state_in}
use Rattle.lvm_group_lines.specs.State.{ArePosted, ScriptState}
use Rattle.lvm_group_lines.specs.declared.holder.Holder.TheVariants as holder
use Rattle.lvm_group_lines.specs.declared.reply.Reply.TheVariants as reply
use Rattle.lvm_group_lines.proofs.MomentsLemmas.Running.{over_landed}
use Rattle.lvm_range_lines.specs.Leaving.{EndsBy, FailsIf, KeepsPosts, Waited, serving}
use Rattle.lvm_range_lines.specs.Refusals.{Ending, ending_of, is_stuck, range_refusal, reply_of}
use Rattle.lvm_range_lines.specs.Requests.{AsksByName, EndsWell, Fails, Finishes, IsFinished, NoMemory, OnVolume, ShowsBlocks, ShowsThem, There}
use Rattle.lvm_range_lines.proofs.LeavingLemmas.Ending.{RunsTo, carried_ends, carried_leaves, ended_is_over, runs_to, stuck_ends, unstuck}
use Rattle.lvm_range_lines.proofs.RepliesLemmas.{carried_by, unheard_fault}
use Rattle.lvm_range_lines.proofs.LookingLemmas.{IsTaken, taken_so}
use Rattle.lvm_range_lines.proofs.LeavingLemmas.Posting.{asked_behind, others_posted}

-- ---- one that is stuck

-- an answer that the history tells is none of being stuck
told_heard : (lp have total : ℕ) (how : Outcome) → fault_by lp have total how ≡ Some fault.Stuck → ⊥
told_heard lp have total outcome.Done e = cc e
told_heard lp have total outcome.Got e = cc e
told_heard lp have total outcome.Lost e = cc e
told_heard lp have total outcome.ReadFailed e = cc e
told_heard lp have total outcome.NoFresh e = cc e
told_heard lp have total outcome.Off e = cc e
told_heard lp have total outcome.Dark e = cc e

ends_heard : (facts : List Fact) (asked : Asked) (have total : ℕ) → RangeEnds facts asked have total (Err fault.Stuck) → ⊥
ends_heard facts asked have total (AllWell all is) = cc is
ends_heard facts asked have total (FirstFails k why less before fails is) =
    let same : why ≡ fault.Stuck = cc is in
    told_heard (piece_lp asked k) have total fails.how (fails.fault ∙ ap (λ (w : RangeFault). Some w) same)

-- then some piece hasn't landed,
stuck_unfinished : (asked : Asked) (left : ℕ) (old new : State) → FinishGives asked left old new (Err fault.Stuck) → IsUnfinished asked new
stuck_unfinished asked left old new (Finished mid path table votes takes) = absurd (ends_heard new.core.history.facts asked (votes_there mid.core) (total_votes mid.core.descriptor) takes.ends)
stuck_unfinished asked left old new (WasStuck path table unfinished none is) = unfinished

-- and the session is on
pub unfinished_on : (asked : Asked) (s : State) → IsSound s → (s.core.power ≡ power.Stuck → ⊥) → IsUnfinished asked s → s.core.power ≡ power.On
unfinished_on asked s sound heard unfinished = by s.core.power refl
  where
    over : is_over s.core.power ≡ true → ⊥
    over is = let e : true ≡ false = sym unfinished.waits ∙ over_landed s sound is (asked.first + unfinished.piece) in cc e

    by : (p : Power) → s.core.power ≡ p → p ≡ power.On
    by power.On is = refl
    by power.Off is = absurd (over (ap is_over is))
    by power.Dark is = absurd (over (ap is_over is))
    by power.Stuck is = absurd (heard is)

only_stuck : (why : RangeFault) → is_stuck why ≡ true → why ≡ fault.Stuck
only_stuck fault.Dark e = absurd (cc e)
only_stuck fault.Stuck e = refl
only_stuck (fault.WentOff have total) e = absurd (cc e)
only_stuck fault.Lost e = absurd (cc e)
only_stuck fault.ReadFailed e = absurd (cc e)
only_stuck (fault.NoFresh lp) e = absurd (cc e)

-- ---- the line

module _ {S : Type 0} (device : S → Device) (first : S × Core) (posts : Vec Post) (bytes : Vec ℕ) (fits : IsFittingStage (serving first posts bytes)) (between : IsBetweenStage device (serving first posts bytes))
    (name : List ℕ) (write : Option ℕ) (at count : ℕ) (Says : State → Asked → Reply → Type 0)
    (mid : S × Core) (asked : Asked) (asks : AsksByName name write at count first.1 mid.1 (Ok asked)) (its : IsAskedFor write count first.1 mid.1 asked) (shelf : mid.0 ≡ first.0) (kept : KeepsPosts first.1 mid.1)
    (begins : RunsOn (state_of device first) (state_of device mid))
    (end : S × Core) (others : KeepsOthers asked mid.1 end.1) (runs : RunsOn (state_of device mid) (state_of device end)) (sound : IsSound (state_of device end)) where
  abbrev Does : Log → ScriptState → ScriptState → Reply → Type 0
  Does log old new answer = OnVolume name (λ core lv. Finishes write Says lv at count core old new answer) old new answer

  all : RunsOn (state_of device first) (state_of device end)
  all = runs_both (state_of device first) (state_of device mid) (state_of device end) begins runs

  to : RunsTo device first end
  to = runs_to device first end all sound

  shut : end.1.power ≡ power.On → end.1.copy ≡ None
  shut on = (path_frames all).copy between.session.copy

  posted : ArePosted end.1.history.facts (Some end.1) posts.items
  posted = others_posted mid.1 posts.items asked (kept posts.items between.posted) (asked_behind first.1 write count mid.1 asked posts.items between.session.sound.told.requests between.posted its) end.1 others

  -- why it ended otherwise than well
  caused_so : (left lv : ℕ) (done : Ending) → AskRangeGives write lv at count first.1 mid.1 (Ok asked) → FinishGives asked left (state_of device mid) (state_of device end) done → IfErr done (RangeCause lv left (state_of device first) (state_of device end))
  caused_so left lv (Ok well) gives finishes = tt
  caused_so left lv (Err why) gives finishes = range_cause write lv at count (device first.0) first.1 mid.1 asked left (state_of device end) why between.session.sound.told gives
      (subst (λ (s : S). FinishGives asked left (state (device s) mid.1) (state_of device end) (Err why)) shelf finishes) sound

  module _ (left : ℕ) (done : Ending) (finishes : FinishGives asked left (state_of device mid) (state_of device end) done) (waited : Waited left (state_of device mid) (state_of device end)) where
    finished : (stage : Stage S) (last : ℕ) → EndsBy done (state_of device end) posts.items last (state_in device stage last)
        → (lv : ℕ) → AskRangeGives write lv at count first.1 mid.1 (Ok asked) → IsFinished write lv at count first.1 (state_in device (serving first posts bytes) last) (state_in device stage last) (state_of device end) asked done
    finished stage last ends lv gives = record {
      begun = mid.1;
      gives = gives;
      left = left;
      finishes = subst (λ (s : S). FinishGives asked left (state (device s) mid.1) (state_of device end) done) shelf finishes;
      waited = subst (λ (s : S). Waited left (state (device s) mid.1) (state_of device end)) shelf waited;
      caused = caused_so left lv done gives finishes;
      runs = all;
      sound = sound;
      ends = ends;
    }

  module _ (bytes1 : Vec ℕ) (rooms : HaveRooms first.1.history.room posts bytes1) (stage : Stage S) (answer : Reply) (rooms_then : HaveRooms first.1.history.room stage.posts stage.bytes) where
    few : most_refusals answer ≤ 1 → most_refusals answer + length posts.items ≤ length posts.items + 1
    few one = omega (arith, one)

    taken : IsTaken name write at count first.1 mid.1 asked
    taken = taken_so name write at count first.1 mid.1 asked asks

    module _ (left : ℕ) where
      well : FinishGives asked left (state_of device mid) (state_of device end) (Ok tt) → Waited left (state_of device mid) (state_of device end)
          → IsCarriedOn device end posts bytes1 end.1.power stage → Says (state_of device end) asked answer → most_refusals answer ≤ 1 → EndsUnasked device Does ⊥ OfRequests (serving first posts bytes) stage answer
      well finishes waited carried says one =
          carried_ends device first posts bytes fits between end to Does posts bytes1 rooms stage answer (few one)
          (λ last. There first.1 taken.lv refl taken.named (EndsWell (state_of device end) asked (finished left (Ok tt) finishes waited stage last (carried_leaves device end posts bytes1 stage last posted carried) taken.lv taken.gives) says))
          posted rooms_then shut (unstuck device first posts bytes fits between end (goes_any all)) carried

      fails : (why : RangeFault) → FinishGives asked left (state_of device mid) (state_of device end) (Err why) → Waited left (state_of device mid) (state_of device end)
          → (b : Bool) → is_stuck why ≡ b → ComesTo device b (holder.Serving end) posts bytes1 stage → answer ≡ reply.Refused (range_refusal why) → EndsUnasked device Does ⊥ OfRequests (serving first posts bytes) stage answer
      fails why finishes waited true stuck ended is =
          let same = only_stuck why stuck in
          let on = unfinished_on asked (state_of device end) sound (unstuck device first posts bytes fits between end (goes_any all)) (stuck_unfinished asked left (state_of device mid) (state_of device end) (subst (λ (w : RangeFault). FinishGives asked left (state_of device mid) (state_of device end) (Err w)) same finishes)) in
          stuck_ends device first posts bytes fits between end to Does posts bytes1 rooms stage answer (few (subst (λ (a : Reply). most_refusals a ≤ 1) (sym is) (omega arith)))
          (λ last. There first.1 taken.lv refl taken.named (Fails (state_of device end) asked why (finished left (Err why) finishes waited stage last
          (subst (λ (b : Bool). FailsIf b (state_of device end) posts.items last (state_in device stage last)) (sym stuck) (ended_is_over device end posts.items stage last posted ended)) taken.lv taken.gives) is))
          ended rooms_then on (is ∙ ap (λ (w : RangeFault). reply.Refused (range_refusal w)) same)
      fails why finishes waited false heard carried is =
          carried_ends device first posts bytes fits between end to Does posts bytes1 rooms stage answer (few (subst (λ (a : Reply). most_refusals a ≤ 1) (sym is) (omega arith)))
          (λ last. There first.1 taken.lv refl taken.named (Fails (state_of device end) asked why (finished left (Err why) finishes waited stage last
          (subst (λ (b : Bool). FailsIf b (state_of device end) posts.items last (state_in device stage last)) (sym heard) (carried_leaves device end posts bytes1 stage last posted carried)) taken.lv taken.gives) is))
          posted rooms_then shut (unstuck device first posts bytes fits between end (goes_any all)) carried

    -- whatever it answered
    pub finished_ends : (done : Result Reply RangeFault) → (left : ℕ) × FinishGives asked left (state_of device mid) (state_of device end) (ending_of done) × Waited left (state_of device mid) (state_of device end)
        → ComesTo device (is_unheard answer) (holder.Serving end) posts bytes1 stage → answer ≡ reply_of done → IfOk done (Says (state_of device end) asked)
        → ((a : Reply) → Says (state_of device end) asked a → (most_refusals a ≤ 1) × (is_unheard a ≡ false))
        → EndsUnasked device Does ⊥ OfRequests (serving first posts bytes) stage answer
    finished_ends (Ok says) made comes is its_says one =
        well made.0 made.1 made.2 (carried_by device end posts bytes1 answer says stage is (one says its_says).1 comes)
        (subst (Says (state_of device end) asked) (sym is) its_says) (subst (λ (a : Reply). most_refusals a ≤ 1) (sym is) (one says its_says).0)
    finished_ends (Err why) made comes is its_says one =
        fails made.0 why made.1 made.2 (is_stuck why) refl (subst (λ (b : Bool). ComesTo device b (holder.Serving end) posts bytes1 stage) (ap is_unheard is ∙ unheard_fault why) comes) is

-- ---- the lines of blocks

-- they are one refusal at most
pub blocks_few : (at : ℕ) (end : State) (asked : Asked) (answer : Reply) → ShowsBlocks at end asked answer → most_refusals answer ≤ 1
blocks_few at end asked answer (NoMemory is) = subst (λ (a : Reply). most_refusals a ≤ 1) (sym is) (omega arith)
blocks_few at end asked answer (ShowsThem shows) = by shows.shows
  where
    by : {text : List ℕ} → Shows text answer → most_refusals answer ≤ 1
    by (InFull is) = subst (λ (a : Reply). most_refusals a ≤ 1) (sym is) (omega arith)
    by (WithoutMemory is) = subst (λ (a : Reply). most_refusals a ≤ 1) (sym is) (omega arith)

-- a range begins where it was asked for
pub asks_at : (name : List ℕ) (write : Option ℕ) (at count : ℕ) (old new : Core) (asked : Asked) → AsksByName name write at count old new (Ok asked) → asked.at ≡ at
asks_at name write at count old new asked asks = by_fault (range_fault old taken.lv at count) taken.gives
  where
    taken : IsTaken name write at count old new asked
    taken = taken_so name write at count old new asked asks

    by_fault : (m : Option AskRangeFault) → MatchOption m ((it : Asked) × (◌≡◌ {A = Result Asked AskRangeFault} (Ok asked) (Ok it)) × Asks write taken.lv at count old new it) (λ (why : AskRangeFault). (◌≡◌ {A = Result Asked AskRangeFault} (Ok asked) (Err why)) × (new ≡ old)) → asked.at ≡ at
    by_fault None gives = (let e : asked ≡ gives.0 = let is = gives.1 in cc is in ap (λ (a : Asked). a.at) e) ∙ gives.2.at_is
    by_fault (Some why) gives = absurd (let is = gives.0 in cc is)

pub at_range : (at : ℕ) (asked : Asked) → asked.at ≡ at → (end : State) (done : Result Reply RangeFault) → IfOk done (ShowsBlocks asked.at end asked) → IfOk done (ShowsBlocks at end asked)
at_range at asked is end (Ok answer) shows = subst (λ n. ShowsBlocks n end asked answer) is shows
at_range at asked is end (Err why) shows = tt

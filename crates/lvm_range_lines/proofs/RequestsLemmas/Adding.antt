-- A range that is posted.
use Rattle.std.proofs.Common.{◌≡◌, ◌≤◌, ◌<◌, ◌+◌, ◌++◌, ℕ, List, [], ◌∷◌, Option, Some, None, length, refl, sym, ◌∙◌, ap, subst, arith}
use Rattle.std.specs.Prelude.{MatchOption, Result, Ok, Err, vec_capacity, vec_len}
use Rattle.std.specs.Global.{Vec}
use Rattle.std.proofs.lemmas.List.{length-append}
use Rattle.lvm_disk.specs.Device.{Device}
use Rattle.lvm_vol.specs.Log.{spare_entries}
use Rattle.lvm_posts.specs.passed.Raw.{piece_count}
use Rattle.lvm_session.specs.declared.open.Power.{Power}
use Rattle.lvm_session.specs.declared.open.Power.TheVariants as power
use Rattle.lvm_session.specs.Sound.{IsSound}
use Rattle.lvm_session.specs.State.{Core, state, state_of}
use Rattle.lvm_group_lines.specs.passed.Tie.{RunsOn}
use Rattle.lvm_posts.specs.declared.asked.Asked.{Asked}
use Rattle.lvm_posts.specs.declared.posts.Post.{Post}
use Rattle.lvm_group_lines.specs.passed.Ranges.{AskRangeFault, Asks, IsAskedFor, range_fault}
use Rattle.lvm_group_lines.proofs.passed.Ranges.{room_first}
use Rattle.lvm_group_lines.specs.declared.reply.Reply.{Reply}
use Rattle.lvm_group_lines.specs.declared.stage.Stage.{Stage}
use Rattle.lvm_group_lines.specs.Ends.{EndsUnasked}
use Rattle.lvm_group_lines.specs.Moments.{OfRequests}
use Rattle.lvm_group_lines.specs.Replies.{most_refusals}
use Rattle.lvm_group_lines.specs.Stages.{HaveRooms, IsBetweenStage, IsCarriedOn, IsFittingStage, state_in}
use Rattle.lvm_group_lines.specs.State.{ArePosted}
use Rattle.lvm_group_lines.specs.declared.reply.Reply.TheVariants as reply
use Rattle.lvm_group_lines.proofs.StateLemmas.{posts_need}
use Rattle.lvm_group_lines.proofs.passed.Tie.{goes_any, path_frames}
use Rattle.lvm_range_lines.specs.Leaving.{KeepsPosts, serving}
use Rattle.lvm_range_lines.specs.Requests.{AsksByName, PostDoes, Posted, There, post_of}
use Rattle.lvm_range_lines.proofs.LeavingLemmas.Ending.{carried_ends, runs_to, unstuck}
use Rattle.lvm_range_lines.proofs.LookingLemmas.{IsTaken, taken_so}
use Rattle.lvm_range_lines.proofs.LeavingLemmas.Posting.{asked_behind, posted_behind}

-- a range that is asked for has room for three entries
pub asks_room : (name : List ℕ) (write : Option ℕ) (at count : ℕ) (old new : Core) (asked : Asked) → old.power ≡ power.On → AsksByName name write at count old new (Ok asked) → 1 ≤ asked.pieces → 3 ≤ spare_entries old.history
asks_room name write at count old new asked on asks some = by_fault (range_fault old taken.lv at count) refl taken.gives
  where
    taken : IsTaken name write at count old new asked
    taken = taken_so name write at count old new asked asks

    by_fault : (m : Option AskRangeFault) → range_fault old taken.lv at count ≡ m → MatchOption m ((it : Asked) × (◌≡◌ {A = Result Asked AskRangeFault} (Ok asked) (Ok it)) × Asks write taken.lv at count old new it) (λ (why : AskRangeFault). (◌≡◌ {A = Result Asked AskRangeFault} (Ok asked) (Err why)) × (new ≡ old)) → 3 ≤ spare_entries old.history
    by_fault None none gives =
        let e : asked ≡ gives.0 = let is = gives.1 in cc is in
        let pieces : asked.pieces ≡ piece_count at count = ap (λ (a : Asked). a.pieces) e ∙ gives.2.pieces in
        let entries = (room_first old taken.lv at count on none).entries in
        omega (arith, some, pieces, entries)
    by_fault (Some why) none gives = absurd (let is = gives.0 in cc is)

module _ {S : Type 0} (device : S → Device) (first : S × Core) (posts : Vec Post) (bytes : Vec ℕ) (fits : IsFittingStage (serving first posts bytes)) (between : IsBetweenStage device (serving first posts bytes))
    (name : List ℕ) (at count word : ℕ) (mid : S × Core) (asked : Asked) (asks : AsksByName name (Some word) at count first.1 mid.1 (Ok asked)) (its : IsAskedFor (Some word) count first.1 mid.1 asked) where
  -- there is room for its post
  pub has_place : vec_len posts < vec_capacity posts
  has_place =
      let room = asks_room name (Some word) at count first.1 mid.1 asked between.session.power asks its.some in
      let need = posts_need first.1.history.run first.1.history.facts (Some first.1) posts.items between.session.sound.told.ordered between.session.sound.told.requests between.posted in
      let fit = fits.rooms.for_posts in
      let long = posts.ok.0 in
      omega (arith, room, need, fit, long)

  module _ (shelf : mid.0 ≡ first.0) (kept : KeepsPosts first.1 mid.1) (runs : RunsOn (state_of device first) (state_of device mid)) (sound : IsSound (state_of device mid)) (on : mid.1.power ≡ power.On)
      (posts1 : Vec Post) (items : posts1.items ≡ posts.items ++ post_of asked ∷ []) (more : vec_capacity posts ≤ vec_capacity posts1) (bytes1 : Vec ℕ) (room : 131072 ≤ vec_capacity bytes1)
      (stage : Stage S) (answer : Reply) (is : answer ≡ reply.Posted) (rooms_then : HaveRooms first.1.history.room posts1 bytes1 → HaveRooms first.1.history.room stage.posts stage.bytes)
      (carried : IsCarriedOn device mid posts1 bytes1 mid.1.power stage) where
    rooms : HaveRooms first.1.history.room posts1 bytes1
    rooms = record { for_posts = let fit = fits.rooms.for_posts in omega (arith, fit, more); for_bytes = room }

    taken : IsTaken name (Some word) at count first.1 mid.1 asked
    taken = taken_so name (Some word) at count first.1 mid.1 asked asks

    stage_is : stage ≡ serving mid posts1 bytes1
    stage_is = subst (λ (p : Power). IsCarriedOn device mid posts1 bytes1 p stage) on carried

    goes : (last : ℕ) → state_in device stage last ≡ record { moment = record { device = device first.0; facts = mid.1.history.facts }; session = Some mid.1; posts = posts.items ++ post_of asked ∷ []; last = last }
    goes last =
        ap (λ (s : Stage S). state_in device s last) stage_is
        ∙ ap (λ (s : S). record { moment = record { device = device s; facts = mid.1.history.facts }; session = Some mid.1; posts = posts1.items; last = last }) shelf
        ∙ ap (λ (ps : List Post). record { moment = record { device = device first.0; facts = mid.1.history.facts }; session = Some mid.1; posts = ps; last = last }) items

    posted : ArePosted mid.1.history.facts (Some mid.1) posts1.items
    posted = subst (λ (ps : List Post). ArePosted mid.1.history.facts (Some mid.1) ps) (sym items)
        (posted_behind mid.1 posts.items asked (kept posts.items between.posted) (asked_behind first.1 (Some word) count mid.1 asked posts.items between.session.sound.told.requests between.posted its) (Some word) count first.1 its)

    few : most_refusals answer + length posts1.items ≤ length posts.items + 1
    few =
        let none : most_refusals answer ≡ 0 = ap most_refusals is in
        let long = ap (λ (ps : List Post). length ps) items ∙ length-append posts.items (post_of asked ∷ []) in
        omega (arith, none, long)

    pub posted_ends : EndsUnasked device (λ log. PostDoes name at count word) ⊥ OfRequests (serving first posts bytes) stage answer
    posted_ends = carried_ends device first posts bytes fits between mid (runs_to device first mid runs sound) (λ log. PostDoes name at count word) posts1 bytes1 rooms stage answer few
        (λ last. There first.1 taken.lv refl taken.named (Posted (record {
          asked = asked;
          begun = mid.1;
          gives = taken.gives;
          runs = subst (λ (s : S). RunsOn (state_of device first) (state (device s) mid.1)) shelf runs;
          goes = goes last;
          says = is;
        }))) posted (rooms_then rooms) (λ power_is. (path_frames runs).copy between.session.copy) (unstuck device first posts bytes fits between mid (goes_any runs)) carried

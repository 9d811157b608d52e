-- The stage once all posts of a session have landed.
use Rattle.std.proofs.Common.{◌≡◌, ◌⊎◌, inl, inr, ◌<◌, ◌^◌, ℕ, true, List, Some, None, length, refl, sym, ◌∙◌, ap, subst}
use Rattle.std.specs.Global.{Vec}
use Rattle.std.proofs.lemmas.List.{length-map}
use Rattle.lvm_num.specs.declared.descriptor.Descriptor.{Descriptor}
use Rattle.lvm_num.specs.Votes.{total_votes}
use Rattle.lvm_disk.specs.Device.{Device}
use Rattle.lvm_vol.specs.Facts.{Fact}
use Rattle.lvm_vol.specs.Log.{Log}
use Rattle.lvm_session.specs.declared.open.Power.{Power}
use Rattle.lvm_session.specs.declared.open.Power.TheVariants as power
use Rattle.lvm_session.specs.Causes.{is_over}
use Rattle.lvm_session.specs.Sound.{IsSound}
use Rattle.lvm_session.specs.State.{Core, votes_there, state_of}
use Rattle.lvm_group_lines.specs.passed.Tie.{RunsOn}
use Rattle.lvm_posts.specs.declared.posts.Post.{Post}
use Rattle.lvm_posts.specs.Posts.{ended_with}
use Rattle.lvm_posts.proofs.PostsLemmas.{over_answered}
use Rattle.lvm_group_lines.specs.declared.reply.Reply.{Reply}
use Rattle.lvm_group_lines.specs.declared.stage.Stage.{Stage}
use Rattle.lvm_group_lines.specs.Stages.{HaveRooms, SessionIsClosed, IsFittingStage, history_in, posts_ended}
use Rattle.lvm_group_lines.specs.State.{ArePosted}
use Rattle.lvm_group_lines.proofs.StateLemmas.{end_posts}
use Rattle.lvm_group_lines.proofs.passed.Tie.{path_frames}
use Rattle.lvm_range_lines.specs.Leaving.{serving}
use Rattle.lvm_range_lines.specs.Taking.{SessionFollows, IsClosedBehind, LandedEnds}
use Rattle.lvm_range_lines.proofs.LeavingLemmas.Ending.{off_kind}

-- ---- whether it is over

pub over_by : (p : Power) → (p ≡ power.On → ⊥) → (p ≡ power.Stuck → ⊥) → is_over p ≡ true
over_by power.On off heard = absurd (off refl)
over_by power.Off off heard = refl
over_by power.Dark off heard = refl
over_by power.Stuck off heard = absurd (heard refl)

pub not_on : (p : Power) → (p ≡ power.Off) ⊎ ((p ≡ power.Dark) ⊎ (p ≡ power.Stuck)) → p ≡ power.On → ⊥
not_on p (inl is) on = let e = sym on ∙ is in cc e
not_on p (inr (inl is)) on = let e = sym on ∙ is in cc e
not_on p (inr (inr is)) on = let e = sym on ∙ is in cc e

module _ {S : Type 0} (device : S → Device) (driver : S × Core) (posts : Vec Post) (bytes : Vec ℕ) (fits : IsFittingStage (serving driver posts bytes)) where
  pub goes_landed : (p : Power) → p ≡ power.On → (stage : Stage S) (answer : Reply) → SessionFollows device driver stage answer posts.items → LandedEnds device driver posts bytes p stage answer
  goes_landed power.On on stage answer goes = goes
  goes_landed power.Off on stage answer goes = absurd (cc on)
  goes_landed power.Dark on stage answer goes = absurd (cc on)
  goes_landed power.Stuck on stage answer goes = absurd (cc on)

  pub closed_landed : (p : Power) → (p ≡ power.On → ⊥) → (stage : Stage S) (answer : Reply) → IsClosedBehind device driver posts.items stage answer → LandedEnds device driver posts bytes p stage answer
  closed_landed power.On off stage answer closed = absurd (off refl)
  closed_landed power.Off off stage answer closed = closed
  closed_landed power.Dark off stage answer closed = closed
  closed_landed power.Stuck off stage answer closed = closed

  -- ---- it goes on

  module _ (end : S × Core) (runs : RunsOn (state_of device driver) (state_of device end)) (none : Vec Post) (rooms : HaveRooms driver.1.history.room none bytes) where
    room_on : end.1.history.room ≡ driver.1.history.room
    room_on = ap (λ (log : Log). log.room) (path_frames runs).keeps.log

    pub fits_on : IsFittingStage (serving end none bytes)
    fits_on = record {
      kind = λ empty. fits.kind (sym (ap (λ (d : Descriptor). d.lvs) (path_frames runs).keeps.descriptor) ∙ empty);
      few = subst (λ n. n < 2 ^ 32) (sym room_on) fits.few;
      rooms = subst (λ n. HaveRooms n none bytes) (sym room_on) rooms;
    }

  -- ---- it has ended

  module _ (stage : Stage S) (ended : SessionIsClosed device driver posts.items stage) (rooms : HaveRooms driver.1.history.room stage.posts stage.bytes) where
    room_then : (history_in stage).room ≡ driver.1.history.room
    room_then = ap (λ (log : Log). log.room) ended.history

    pub fits_ended : IsFittingStage stage
    fits_ended = record {
      kind = off_kind stage.holder ended.session;
      few = subst (λ n. n < 2 ^ 32) (sym room_then) fits.few;
      rooms = subst (λ n. HaveRooms n stage.posts stage.bytes) (sym room_then) rooms;
    }

module _ {S : Type 0} (device : S → Device) (driver : S × Core) (posts : Vec Post) (stage : Stage S) (ended : SessionIsClosed device driver posts.items stage) where
  pub long_ended : length stage.posts.items ≡ length posts.items
  long_ended = ap (λ (ps : List Post). length ps) ended.posted ∙ length-map posts.items (ended_with (votes_there driver.1) (total_votes driver.1.descriptor))

  pub few_ended : length posts.items < 2 ^ 32 → length stage.posts.items < 2 ^ 32
  few_ended few = subst (λ n. n < 2 ^ 32) (sym long_ended) few

  pub posted_ended : IsSound (state_of device driver) → is_over driver.1.power ≡ true → ArePosted driver.1.history.facts (Some driver.1) posts.items → ArePosted (history_in stage).facts None stage.posts.items
  posted_ended sound over posted =
      let facts_are = ap (λ (log : Log). log.facts) ended.history in
      subst (λ (ps : List Post). ArePosted (history_in stage).facts None ps) (sym ended.posted) (subst (λ (fs : List Fact). ArePosted fs None (posts_ended (Some driver.1) posts.items)) (sym facts_are)
      (end_posts driver.1.history.facts driver.1.history.facts (λ range answered. answered) driver.1 (votes_there driver.1) (total_votes driver.1.descriptor)
      (λ range some held. over_answered (state_of device driver) range sound over held) posts.items posted))

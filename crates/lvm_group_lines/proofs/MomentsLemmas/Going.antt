-- How states go on: where nothing changes, and steps of the shelf.
use Rattle.std.proofs.Common.{◌≡◌, ◌+◌, ◌≤◌, ◌∷◌, [], ℕ, List, Option, Some, None, IfSome, IfNone, map, refl, sym, ◌∙◌, ap, subst, arith}
use Rattle.std.proofs.lemmas.List.{length-map}
use Rattle.lvm_num.specs.Buffer.{Buffer}
use Rattle.lvm_num.specs.Votes.{total_votes}
use Rattle.lvm_disk.specs.Device.{Device, MayLeave}
use Rattle.lvm_disk.specs.Images.{LeavesNoMore}
use Rattle.lvm_disk.specs.Paths.{DeviceStep, Path, Here, Then, Freed, Lit}
use Rattle.lvm_disk.proofs.PathsLemmas.{append-path}
use Rattle.lvm_vol.specs.Facts.{Fact}
use Rattle.lvm_vol.specs.Log.{is_open}
use Rattle.lvm_kept.specs.Moments.{Moment}
use Rattle.lvm_steps.specs.Behind.{IsAhead}
use Rattle.lvm_steps.proofs.LawsLemmas.Clock.{later_is_later_too}
use Rattle.lvm_session.specs.declared.open.Open.{Open}
use Rattle.lvm_session.specs.State.{Core, votes_there}
use Rattle.lvm_session.specs.Sound.{waits}
use Rattle.lvm_quiesce.specs.passed.Core.{HaveAllLanded}
use Rattle.lvm_tie_commands.specs.passed.Posts.{Post, ended_with}
use Rattle.lvm_quiesce.specs.Behind.{IsAheadEach}
use Rattle.lvm_quiesce.proofs.LawsLemmas.Behind.{each_is_behind, later_is_behind_each}
use Rattle.lvm_transfer.specs.Transfer.{Relights}
use Rattle.lvm_group_lines.specs.Asking.{IsAsked, EndsSession}
use Rattle.lvm_group_lines.specs.Moments.{LineGoesOn, HasBegunHeld, Role}
use Rattle.lvm_group_lines.specs.Replies.{most_refusals}
use Rattle.lvm_group_lines.specs.Stages.{posts_ended}
use Rattle.lvm_group_lines.specs.State.{ScriptState, ArePosted, IsBetween, IsOnBetween}
use Rattle.lvm_group_lines.specs.declared.reply.Reply.{Reply}
use Rattle.lvm_group_lines.proofs.StateLemmas.{end_posts, none_held}

-- ---- the clock

-- what is ahead of each crash image is ahead of the disks
pub each_is_ahead : (run moment : ℕ) (device : Device) (facts : List Fact) → IsAheadEach run moment device facts → IsAhead run moment device facts
each_is_ahead run moment device facts ahead = record { run_is = ahead.run_is; later = ahead.later; behind = each_is_behind moment device ahead.behind }

-- what was ahead is so of a later moment too
pub ahead_later : (run moment later : ℕ) (device : Device) (facts : List Fact) → moment ≤ later → IsAheadEach run moment device facts → IsAheadEach run later device facts
ahead_later run moment later device facts le ahead = record {
  run_is = let r = ahead.run_is in omega (arith, r, le);
  later = later_is_later_too moment later facts le ahead.later;
  behind = later_is_behind_each moment later device le ahead.behind;
}

-- a session's moment is up to each later one
pub session_later : (session : Option Core) (moment later : ℕ) → moment ≤ later → IfSome session (λ core. core.status.stamp.epoch ≤ moment) → IfSome session (λ core. core.status.stamp.epoch ≤ later)
session_later None moment later le up_to = tt
session_later (Some core) moment later le up_to = omega (arith, le, up_to)

-- ---- no session begins

-- that goes on,
pub same_session : (o : Option Core) (P : Core → Type 0) → IfNone o (IfSome o P)
same_session None P = tt
same_session (Some core) P = tt

-- that is on already,
pub was_session : (o : Option Core) (core : Core) (P : Type 0) → o ≡ Some core → IfNone o P
was_session o core P is = subst (λ (x : Option Core). IfNone x P) (sym is) tt

-- or where none is on afterwards
pub none_begins : (o : Option Core) → IfNone o (Unit {0})
none_begins None = tt
none_begins (Some core) = tt

-- ---- where nothing changes

pub still_goes : (run : ℕ) (role : Role) (answer : Reply) (s : ScriptState) → IsBetween s.moment s.session s.posts → most_refusals answer ≤ 1 → LineGoesOn run role answer s s
still_goes run role answer s between one = record {
  keeps = λ timely alone first span stands. (span, λ goes. stands);
  timely = λ goes timely. timely;
  left = λ timely. each_is_ahead run (s.last + 1) s.moment.device s.moment.facts timely.ahead;
  between = λ goes. between;
  rests = λ others goes rests. rests;
  begins = λ timely facts kept. same_session s.session (HasBegunHeld s.moment.device);
  power = between.lit.power;
  waits = omega arith;
  clock = omega arith;
  few = omega (arith, one);
}

pub same_goes : (run : ℕ) (role : Role) (answer : Reply) (old new : ScriptState) → IsBetween old.moment old.session old.posts → most_refusals answer ≤ 1 → new ≡ old → LineGoesOn run role answer old new
same_goes run role answer old new between one same = subst (λ (s : ScriptState). LineGoesOn run role answer old s) (sym same) (still_goes run role answer old between one)

-- the clock alone was asked
pub asked_goes : (run : ℕ) (role : Role) (answer : Reply) (old new : ScriptState) → IsBetween old.moment old.session old.posts → most_refusals answer ≤ 1 → IsAsked old new → LineGoesOn run role answer old new
asked_goes run role answer old new between one asked = subst (λ (s : ScriptState). LineGoesOn run role answer old s) (sym asked.same) (record {
  keeps = λ timely alone first span stands. (span, λ goes. stands);
  timely = λ goes timely. record { ahead = ahead timely.ahead; session = session_later old.session old.last new.last later timely.session };
  left = λ timely. each_is_ahead run (new.last + 1) old.moment.device old.moment.facts (ahead timely.ahead);
  between = λ goes. between;
  rests = λ others goes rests. record { ready = rests.ready; landed = rests.landed; session = rests.session; posts = rests.posts };
  begins = λ timely facts kept. same_session old.session (HasBegunHeld old.moment.device);
  power = between.lit.power;
  waits = omega arith;
  clock = later;
  few = omega (arith, one);
})
  where
    later : old.last ≤ new.last
    later = asked.asks.later

    ahead : IsAheadEach run (old.last + 1) old.moment.device old.moment.facts → IsAheadEach run (new.last + 1) old.moment.device old.moment.facts
    ahead = ahead_later run (old.last + 1) (new.last + 1) old.moment.device old.moment.facts (omega (arith, later))

-- ---- a session ends of which no request is open, and nothing else changes

pub ended_goes : (run : ℕ) (role : Role) (answer : Reply) (old new : ScriptState) (core : Core) → old.session ≡ Some core → core.history.facts ≡ old.moment.facts → core.requests ≡ [] → IsBetween old.moment old.session old.posts
    → most_refusals answer ≤ 1 → EndsSession old new → LineGoesOn run role answer old new
ended_goes run role answer old new core was facts none between one ends = subst (λ (s : ScriptState). LineGoesOn run role answer old s) (sym is) (record {
  keeps = λ timely alone first span stands. (span, λ goes past begins. tt);
  timely = λ goes timely. record { ahead = timely.ahead; session = tt };
  left = λ timely. each_is_ahead run (old.last + 1) old.moment.device old.moment.facts timely.ahead;
  between = λ goes. record { lit = between.lit; descriptors = between.descriptors; landed = landed; session = tt; posted = posted };
  rests = λ others goes rests. record { ready = rests.ready; landed = landed; session = tt; posts = ap (map (ended_with have total)) rests.posts };
  begins = λ timely facts kept. none_begins old.session;
  power = between.lit.power;
  waits = omega arith;
  clock = omega arith;
  few = let same = length-map old.posts (ended_with have total) in omega (arith, one, same);
})
  where
    have : ℕ
    have = votes_there core

    total : ℕ
    total = total_votes core.descriptor

    is : new ≡ record { moment = old.moment; session = None; posts = map (ended_with have total) old.posts; last = old.last }
    is =
        ap (λ (m : Moment). record { moment = m; session = new.session; posts = new.posts; last = new.last }) ends.same
        ∙ ap (λ (s : Option Core). record { moment = old.moment; session = s; posts = new.posts; last = new.last }) ends.after
        ∙ ap (λ (ps : List Post). record { moment = old.moment; session = None; posts = ps; last = new.last }) (ends.posts ∙ ap (λ (s : Option Core). posts_ended s old.posts) was)
        ∙ ap (λ (n : ℕ). record { moment = old.moment; session = None; posts = map (ended_with have total) old.posts; last = n }) ends.clock

    on : IsOnBetween old.moment.device core
    on = subst (λ (s : Option Core). IfSome s (IsOnBetween old.moment.device)) was between.session

    landed : HaveAllLanded old.moment.facts
    landed id = ap (λ (l : List Fact). is_open l id) (sym facts) ∙ on.sound.told.each id ∙ ap (λ (os : List Open). waits os id) none

    posted : ArePosted old.moment.facts None (map (ended_with have total) old.posts)
    posted = end_posts old.moment.facts old.moment.facts (λ range answered. answered) core have total (none_held core old.moment.facts none) old.posts (subst (λ (s : Option Core). ArePosted old.moment.facts s old.posts) was between.posted)

-- ---- the power is put on again

-- The buffers that a cut gave up are taken back one by one, and then the power is put on.
pub relit_path : (dark new : Device) → dark.flights ≡ [] → Relights dark new → Path DeviceStep (LeavesNoMore dark) dark new
relit_path dark new still lit = Then (giving_back dark.freed) (Lit still refl lit) (λ image may. subst (λ (d : Device). MayLeave d image) lit may)
  where
    giving_back : (freed : List Buffer) → Path DeviceStep (LeavesNoMore dark) (record dark { freed = freed }) (record dark { freed = [] })
    giving_back [] = Here (λ image may. may)
    giving_back (buf ∷ freed) = append-path (Then (Here (λ image may. may)) (Freed buf refl) (λ image may. may)) (giving_back freed)

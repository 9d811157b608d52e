use Rattle.std.proofs.Common.{◌≡◌, ◌+◌, ℕ, List, Option, Some, sym, ◌∙◌, ap, subst}
use Rattle.std.specs.Prelude.{unwrap_or}
use Rattle.std.specs.List.{list_any}
use Rattle.lvm_session.specs.declared.open.Open.{Open}
use Rattle.lvm_session.specs.Calls.{is_asked}
use Rattle.lvm_session.specs.Fields.{core_of}
use Rattle.lvm_session.specs.Sound.{IsSound}
use Rattle.lvm_session.specs.State.{Core, state, state_of}
use Rattle.lvm_group_lines.specs.passed.Tie.{RunsOn}
use Rattle.lvm_group_lines.specs.passed.Handover.{with_taken}
use Rattle.lvm_group_lines.specs.passed.Core.{IsSoundAtRest}
use Rattle.lvm_posts.specs.Deciding.{RangeEnds}
use Rattle.lvm_posts.specs.Posts.{AreAnswered}
use Rattle.lvm_group_lines.proofs.passed.Handover.{resting_with, stays_beside}
use Rattle.lvm_range_lines.specs.Taking.{LeavesOthers, StaysKept}
use Rattle.lvm_range_lines.specs.Waiting.{OfEarlier}
use Rattle.lvm_range_lines.proofs.TakingLemmas.Takings.{earlier_leaves, enters_taken, gone_rest}
use Rattle.lvm_range_lines.proofs.waiting.take_one_at_rest.Goals as goal

pub take_in-session-requires-clause-answered : goal.take_in-session-requires-clause-answered
take_in-session-requires-clause-answered g c =
    subst (λ (core : Core). AreAnswered core.history.facts c.args.post.now.asked) (sym c.into_parts-shelf.ensures.core) (gone_rest c.args.driver.1 c.args.post.now c.requires.none c.requires.posted).answered

pub from_parts-requires-clause-sound : goal.from_parts-requires-clause-sound
from_parts-requires-clause-sound g c =
    let parts = c.into_parts-shelf.ensures in
    let device = g.S.Shelf.device in
    let sound : IsSoundAtRest (state (device c.into_parts-shelf.result.0) (core_of c.into_parts-shelf.result.1)) =
    subst (λ (s : g.row.S.Denot). IsSoundAtRest (state (device s) (core_of c.into_parts-shelf.result.1))) (sym parts.shelf) (subst (λ (core : Core). IsSoundAtRest (state (device c.args.driver.0) core)) (sym parts.core) parts.sound) in
    subst (λ (core : Core). IsSoundAtRest (state (device c.into_parts-shelf.result.0) core)) (sym c.take_in-session.ensures.core)
    (resting_with (state (device c.into_parts-shelf.result.0) (core_of c.into_parts-shelf.result.1)) c.args.post.now.asked sound)

pub from_parts-requires-clause-rooms : goal.from_parts-requires-clause-rooms
from_parts-requires-clause-rooms g c = c.take_in-session.ensures.rooms c.into_parts-shelf.ensures.rooms

pub returns : goal.returns
returns g c =
    let device = g.S.Shelf.device in
    let core = c.args.driver.1 in
    let asked = c.args.post.now.asked in
    let parts = c.into_parts-shelf.ensures in
    let made = c.take_in-session.ensures in
    let end = c.from_parts.result in
    let gone = gone_rest core c.args.post.now c.requires.none c.requires.posted in
    let votes = c.unwrap_or-have.result in
    let votes_are = c.unwrap_or-have.ensures ∙ ap (λ (o : Option (ℕ × ℕ)). unwrap_or o (0, 0)) gone.ended in
    let beside = stays_beside (state_of device c.args.driver) asked c.requires.sound gone.answered (λ k less. ap (λ (os : List Open). list_any (is_asked 1 (asked.first + k)) os) c.requires.none) in
    let shelf_is : end.0 ≡ c.args.driver.0 = c.from_parts.ensures.shelf ∙ parts.shelf in
    let core_is : end.1 ≡ with_taken asked core = c.from_parts.ensures.core ∙ made.core ∙ ap (with_taken asked) parts.core in
    let same : state_of device end ≡ state (device c.args.driver.0) (with_taken asked core) =
    ap (λ (s : g.row.S.Denot). state (device s) end.1) shelf_is ∙ ap (λ (k : Core). state (device c.args.driver.0) k) core_is in
    let ends : RangeEnds end.1.history.facts asked votes.0 votes.1 c.take_in-session.result.1 = subst (λ (k : Core). RangeEnds k.history.facts asked votes.0 votes.1 c.take_in-session.result.1) (sym c.from_parts.ensures.core) made.ends in
    let kept : StaysKept core.history end.1.history =
    subst (λ (k : Core). StaysKept core.history k.history) (sym c.from_parts.ensures.core) (subst (λ (k : Core). StaysKept k.history (core_of c.take_in-session.result.0).history) parts.core made.keeps) in
    record {
      takes = OfEarlier votes.0 votes.1 (gone.ended ∙ ap (λ (v : ℕ × ℕ). Some v) (sym votes_are)) same ends;
      left = subst (λ (k : Core). LeavesOthers asked core k) (sym core_is) (earlier_leaves core asked gone.answered);
      runs = subst (RunsOn (state_of device c.args.driver)) (sym same) (beside.runs c.requires.on);
      sound = subst IsSound (sym same) beside.sound;
      on = ap (λ (k : Core). k.power) core_is ∙ c.requires.on;
      none = ap (λ (k : Core). k.requests) core_is ∙ c.requires.none;
      enters = enters_taken (state_of device c.args.driver) (state_of device end) asked same kept;
    }

-- Commands on the session that is on: how states go on over them.
use Rattle.std.proofs.Common.{◌≡◌, ◌≢◌, ◌⊎◌, inl, inr, ◌+◌, ◌≤◌, [], ℕ, List, Bool, true, false, Option, Some, None, IfSome, IfNone, length, get_or, refl, sym, ◌∙◌, ap, subst, arith}
use Rattle.std.specs.List.{list_any}
use Rattle.std.proofs.lemmas.List.{length-map}
use Rattle.lvm_num.specs.Buffer.{Buffer}
use Rattle.lvm_num.specs.Votes.{total_votes}
use Rattle.lvm_num.specs.declared.descriptor.Descriptor.{Descriptor}
use Rattle.lvm_num.proofs.Lists.{none_or_some}
use Rattle.lvm_disk.specs.Device.{Device, IsReady}
use Rattle.lvm_disk.specs.Images.{LeavesNoMore}
use Rattle.lvm_disk.specs.Paths.{DeviceStep, Path, Here}
use Rattle.lvm_disk.proofs.PathsLemmas.{last-path}
use Rattle.lvm_vol.specs.Facts.{Fact}
use Rattle.lvm_vol.specs.Legal.{IsLater}
use Rattle.lvm_vol.specs.Log.{Log}
use Rattle.lvm_kept.specs.Moments.{Moment}
use Rattle.lvm_steps.specs.Moments.{RunBegins, Keeps}
use Rattle.lvm_steps.specs.Requests.{at}
use Rattle.lvm_steps.proofs.MomentsLemmas.Spans.{keeps_steps}
use Rattle.lvm_steps.specs.Behind.{StampsAreEarlier}
use Rattle.lvm_steps.proofs.LawsLemmas.Shelves.{no_more_stays_behind}
use Rattle.lvm_transfer.specs.Transfer.{Relights}
use Rattle.lvm_status.specs.Members.{HasItsRows}
use Rattle.lvm_session.specs.Calls.{is_asked}
use Rattle.lvm_session.specs.declared.open.Open.{Open}
use Rattle.lvm_session.specs.declared.open.Power.TheVariants as power
use Rattle.lvm_session.specs.Sound.{IsSound, is_dark}
use Rattle.lvm_session.specs.State.{Core, State, state, votes_there}
use Rattle.lvm_core.specs.Committing.{moment_of, StaysBehind}
use Rattle.lvm_core.specs.Leaves.{EntersVolumes, KeepsHistory, Leaves, Scope}
use Rattle.lvm_core.specs.Settled.{IsSettled as IsSettledCore}
use Rattle.lvm_core.specs.Sound.{HaveAllLanded, IsSoundAtRest}
use Rattle.lvm_commit.specs.LawsOfVolumes.{IsOneFoundOn}
use Rattle.lvm_range_lines.proofs.passed.Quiesce.{each_is_behind, still_is_behind_each}
use Rattle.lvm_range_lines.specs.passed.Posts.{Post, AreAnswered, AreHeld, ended_with}
use Rattle.lvm_range_lines.specs.passed.Tie.{IsBefore, LeavesSession, IsStamped, IsGood, StaysGood}
use Rattle.lvm_range_lines.specs.passed.TieCommands.{IsAloneAtFirst, MayBeCommanded, StandsAfter, StandsSince}
use Rattle.lvm_range_lines.specs.passed.GroupLines.{LineGoesOn, HasBegunHeld, IsAlone, Role, IsStuck, most_refusals, posts_ended, ArePosted, IsBetween, IsOnBetween, IsTimely, StandsAlone, StandsBy, ScriptState, Reply}
use Rattle.lvm_range_lines.proofs.passed.GroupLines.{relit_path, was_session, ready_is_lit, still_leaves_descriptors, LeavesAnswers, end_posts, none_held, on_posts}
use Rattle.lvm_range_lines.proofs.passed.Tie.{going_leaves, is_stamped, path_shape, stays_stamped}

-- ---- what a command promises, whatever its answer

pub record Promised (old new : State) : Type 0 where
  pub orders : new.device.orders ≡ old.device.orders
  pub epoch : new.core.status.stamp.epoch ≡ old.core.status.stamp.epoch
  pub history : KeepsHistory old.core.history new.core.history
  pub behind : StaysBehind old new
  pub waits : old.device.counts.waits ≤ new.device.counts.waits

pub promised_by : (scope : Scope) (before after : ℕ) (old new : State) → Leaves scope before after old new → Promised old new
promised_by scope before after old new leaves = record {
  orders = leaves.writes.orders;
  epoch = leaves.numbers.epoch;
  history = leaves.history;
  behind = leaves.behind;
  waits = leaves.spends.waits.later;
}

-- ---- before it

-- a line of this role acts on the session that is on, which stands alone
abbrev pub Acts : Role → Type 0
Acts role = (old new : ScriptState) → IsAlone role old new → IfSome old.session (StandsAlone old.moment.device)

-- The session of the state has come to rest so.
pub record AtMid (old : ScriptState) (core : Core) (mid : State) : Type 0 where
  pub session : old.session ≡ Some core
  pub facts : old.moment.facts ≡ core.history.facts
  pub none : core.requests ≡ []
  pub between : IsBetween old.moment old.session old.posts
  pub leaves : LeavesSession (state old.moment.device core) mid
  pub empty : core.descriptor.lvs ≡ [] → mid ≡ state old.moment.device core
  pub sound : IsSound mid
  pub settled : IsSettledCore mid.core
  pub rest : IsSoundAtRest mid
  pub answers : LeavesAnswers core.history.facts mid.core.history.facts

module _ (old : ScriptState) (core : Core) (mid : State) (its : AtMid old core mid) where
  abbrev run : ℕ
  run = core.history.run

  abbrev first_session : State
  first_session = state old.moment.device core

  pub on_first : IsOnBetween old.moment.device core
  on_first = subst (λ (o : Option Core). IfSome o (IsOnBetween old.moment.device)) its.session its.between.session

  -- the theorem of what led to it
  stays_good : StaysGood first_session mid
  stays_good = (going_leaves first_session mid on_first.sound its.leaves).1

  moment_is : old.moment ≡ moment_of first_session
  moment_is = ap (λ (fs : List Fact). at old.moment.device fs) its.facts

  run_is : mid.core.history.run ≡ run
  run_is = ap (λ (l : Log). l.run) (path_shape its.leaves).log

  lit : mid.core.power ≡ power.Dark → ⊥
  lit dark = let e : power.On ≡ power.Dark = sym its.settled.power ∙ dark in cc e

  pub idle : mid.device.flights ≡ []
  idle = its.rest.quiet its.settled.quiet

  pub ready_mid : IsReady mid.device
  ready_mid = let is_lit = its.rest.lit (ap is_dark its.settled.power) in record { power = is_lit.power; flights = idle; freed = is_lit.freed }

  pub stamped_mid : IsStamped mid.core.status
  stamped_mid = stays_stamped first_session mid stays_good lit on_first.stamped

  pub rows_mid : HasItsRows mid.core.descriptor mid.core.origin.table
  rows_mid = subst (λ (d : Descriptor). HasItsRows d mid.core.origin.table) (sym (path_shape its.leaves).descriptor)
      (subst (λ o. HasItsRows core.descriptor o.table) (sym (path_shape its.leaves).origin) on_first.rows)

  -- ---- what stands

  module _ (role : Role) (acts : Acts role) (new : ScriptState) (alone : IsAlone role old new) (first : Moment) (span : Keeps run first old.moment) (stands : StandsBy run first old) where
    stands_first : StandsSince run first first_session
    stands_first past begins =
        subst (λ (o : Option Core). IfSome o (λ (c : Core). StandsAlone old.moment.device c → StandsAfter past old.moment.device c)) its.session (stands past begins)
        (subst (λ (o : Option Core). IfSome o (StandsAlone old.moment.device)) its.session (acts old new alone))

    module _ (some : core.descriptor.lvs ≢ []) where
      good_first : IsGood run first first_session
      good_first on past begins = (stands_first past begins).tied some

      stands_then : StandsSince run first mid
      stands_then past begins = record {
        empty = λ none. absurd (some (sym (ap (λ (d : Descriptor). d.lvs) (path_shape its.leaves).descriptor) ∙ none));
        tied = λ more. (stays_good.good first good_first).0 its.settled.power past begins;
        spares = λ more. (stays_good.descriptors its.between.descriptors).spares ((stands_first past begins).spares some);
      }

      keeps_then : Keeps run first (moment_of mid)
      keeps_then = (stays_good.good first good_first).1 (subst (Keeps run first) moment_is span)

    keeps_mid : Keeps run first (moment_of mid)
    keeps_mid = by (none_or_some core.descriptor.lvs)
      where
        by : (core.descriptor.lvs ≡ []) ⊎ (core.descriptor.lvs ≢ []) → Keeps run first (moment_of mid)
        by (inl none) = subst (λ (s : State). Keeps run first (moment_of s)) (sym (its.empty none)) (subst (Keeps run first) moment_is span)
        by (inr some) = keeps_then some

    stands_mid : StandsSince run first mid
    stands_mid = by (none_or_some core.descriptor.lvs)
      where
        by : (core.descriptor.lvs ≡ []) ⊎ (core.descriptor.lvs ≢ []) → StandsSince run first mid
        by (inl none) = subst (StandsSince run first) (sym (its.empty none)) stands_first
        by (inr some) = stands_then some

    pub may_mid : MayBeCommanded run first mid
    may_mid = record { sound = its.sound; run_is = run_is; stamped = stamped_mid; keeps = keeps_mid; stands = stands_mid }

    -- where the first volume is made, whatever any disks find is of one group
    pub alone_mid : (left : State) → new.moment.facts ≡ left.core.history.facts → IsAloneAtFirst mid left
    alone_mid left facts none enters =
        let same = its.empty (sym (ap (λ (d : Descriptor). d.lvs) (path_shape its.leaves).descriptor) ∙ none) in
        subst (λ (s : State). IsOneFoundOn s.device) (sym same)
        (alone.enters (subst (λ (fs : List Fact). EntersVolumes old.moment.facts fs) (sym facts)
        (subst (λ (fs : List Fact). EntersVolumes fs left.core.history.facts) (ap (λ (s : State). s.core.history.facts) same ∙ sym its.facts) enters)))

  -- ---- its moment

  module _ (timely : IsTimely run old) where
    before_mid : IsBefore (old.last + 1) mid
    before_mid = stays_good.before (old.last + 1) (record {
      leaves = timely.ahead.behind;
      session = λ on. (is_stamped core.status on_first.stamped, let e = subst (λ (o : Option Core). IfSome o (λ (c : Core). c.status.stamp.epoch ≤ old.last)) its.session timely.session in omega (arith, e));
    })

    later_mid : IsLater mid.core.history.facts (old.last + 1)
    later_mid = stays_good.later (old.last + 1) (subst (λ (fs : List Fact). IsLater fs (old.last + 1)) its.facts timely.ahead.later)

    module _ (left : State) (promised : Promised mid left) where
      pub later_left : IsLater left.core.history.facts (old.last + 1)
      later_left = promised.history.later (old.last + 1) later_mid

      pub behind_left : StampsAreEarlier (old.last + 1) left.device
      behind_left = promised.behind (old.last + 1) (before_mid.session lit).1 (each_is_behind (old.last + 1) mid.device before_mid.leaves)

      pub epoch_left : left.core.status.stamp.epoch ≤ old.last
      epoch_left = let low = (before_mid.session lit).1 in let same = promised.epoch in omega (arith, low, same)

-- ---- the posts

-- where no request is open each post has ended
none_posted : (facts : List Fact) (core : Core) (posts : List Post) → core.requests ≡ [] → ArePosted facts (Some core) posts → ArePosted facts None posts
none_posted facts core posts none its = record {
  each = λ k d less.
      let p = its.each k d less in
      record {
        laid = p.laid;
        some = p.some;
        held = λ kept. absurd (let held = p.held kept in let some = p.some in not_asked (get_or posts k d) some held);
        answered = p.answered;
        gone = all_so (get_or posts k d).ended;
      };
  rise = its.rise;
}
  where
    all_so : (o : Option (ℕ × ℕ)) → IfSome o (λ votes. Unit {0})
    all_so None = tt
    all_so (Some votes) = tt

    not_asked : (p : Post) → 1 ≤ p.asked.pieces → AreHeld core p.asked → ⊥
    not_asked p some held = let e : true ≡ false = sym (held 0 some) ∙ ap (λ (os : List Open). list_any (is_asked 1 (p.asked.first + 0)) os) none in cc e

-- ---- how a session is closed

-- by steps of the shelf that add no crash image, after which it is at rest, unless nothing was heard of a transfer
pub record ClosesWell (answer : Reply) (left new : Device) : Type 0 where
  pub path : Path DeviceStep (LeavesNoMore left) left new
  pub behind : (moment : ℕ) → StampsAreEarlier moment left → StampsAreEarlier moment new
  pub ready : (IsStuck answer → ⊥) → IsReady new
  pub power : new.power ≡ true
  pub orders : new.orders ≡ left.orders
  pub waits : new.counts.waits ≡ left.counts.waits

pub closes_dark : (answer : Reply) (left new : Device) → left.flights ≡ [] → Relights left new → ClosesWell answer left new
closes_dark answer left new none lit =
    let path = relit_path left new none lit in
    record {
      path = path;
      behind = λ moment behind. no_more_stays_behind moment left new none (last-path path) behind;
      ready = λ heard. record { power = ap (λ (d : Device). d.power) lit; flights = ap (λ (d : Device). d.flights) lit ∙ none; freed = ap (λ (d : Device). d.freed) lit };
      power = ap (λ (d : Device). d.power) lit;
      orders = ap (λ (d : Device). d.orders) lit;
      waits = ap (λ (d : Device). d.counts.waits) lit;
    }

pub closes_lit : (answer : Reply) (left new : Device) → left.power ≡ true → left.freed ≡ [] → ((IsStuck answer → ⊥) → IsReady left) → Relights left new → ClosesWell answer left new
closes_lit answer left new power freed ready lit = subst (ClosesWell answer left) (sym same) (record {
  path = Here (λ image may. may);
  behind = λ moment behind. behind;
  ready = ready;
  power = power;
  orders = refl;
  waits = refl;
})
  where
    same : new ≡ left
    same = lit ∙ ap (λ (f : List Buffer). record left { freed = f; power = true }) (sym freed) ∙ ap (λ (p : Bool). record left { power = p }) (sym power)

-- ---- after it

module _ (role : Role) (acts : Acts role) (old : ScriptState) (core : Core) (mid left : State) (its : AtMid old core mid) (promised : Promised mid left) (answers : LeavesAnswers mid.core.history.facts left.core.history.facts) (answer : Reply) (new : ScriptState)
    (facts : new.moment.facts ≡ left.core.history.facts) (clock : new.last ≡ old.last) (few : most_refusals answer ≤ 1)
    (spans : (first : Moment) → MayBeCommanded core.history.run first mid → IsAloneAtFirst mid left → Keeps core.history.run first (moment_of left)) where
  answers_left : LeavesAnswers old.moment.facts left.core.history.facts
  answers_left range was = answers range (its.answers range (subst (λ (fs : List Fact). AreAnswered fs range) its.facts was))

  posts_first : ArePosted old.moment.facts None old.posts
  posts_first = none_posted old.moment.facts core old.posts its.none (subst (λ (o : Option Core). ArePosted old.moment.facts o old.posts) its.session its.between.posted)

  spanned : IsAlone role old new → (first : Moment) → Keeps core.history.run first old.moment → StandsBy core.history.run first old → Keeps core.history.run first (moment_of left)
  spanned alone first span stands = spans first (may_mid old core mid its role acts new alone first span stands) (alone_mid old core mid its role acts new alone first span stands left facts)

  waits_left : old.moment.device.counts.waits ≤ left.device.counts.waits
  waits_left = let a = (path_shape its.leaves).counts.waits in let b = promised.waits in omega (arith, a, b)

  -- the session is over
  module _ (closed : ClosesWell answer left.device new.moment.device) (none : new.session ≡ None) (landed : HaveAllLanded left.core.history.facts) (posts : new.posts ≡ posts_ended (Some left.core) old.posts) where
    at_new : at new.moment.device left.core.history.facts ≡ new.moment
    at_new = sym (ap (λ (fs : List Fact). at new.moment.device fs) facts)

    ended : ArePosted new.moment.facts None new.posts
    ended = subst (λ (ps : List Post). ArePosted new.moment.facts None ps) (sym posts) (subst (λ (fs : List Fact). ArePosted fs None (posts_ended (Some left.core) old.posts)) (sym facts)
        (end_posts old.moment.facts left.core.history.facts answers_left core (votes_there left.core) (total_votes left.core.descriptor) (none_held core left.core.history.facts its.none) old.posts
        (subst (λ (o : Option Core). ArePosted old.moment.facts o old.posts) its.session its.between.posted)))

    behind_new : IsTimely core.history.run old → StampsAreEarlier (new.last + 1) new.moment.device
    behind_new timely = subst (λ (n : ℕ). StampsAreEarlier (n + 1) new.moment.device) (sym clock) (closed.behind (old.last + 1) (behind_left old core mid its timely left promised))

    later_new : IsTimely core.history.run old → IsLater new.moment.facts (new.last + 1)
    later_new timely = subst (λ (n : ℕ). IsLater new.moment.facts (n + 1)) (sym clock) (subst (λ (fs : List Fact). IsLater fs (old.last + 1)) (sym facts) (later_left old core mid its timely left promised))

    run_new : IsTimely core.history.run old → core.history.run ≤ new.last + 1
    run_new timely = let e = timely.ahead.run_is in let same = clock in omega (arith, e, same)

    pub goes_off : LineGoesOn core.history.run role answer old new
    goes_off = record {
      keeps = λ timely alone first span stands. (
        subst (Keeps core.history.run first) at_new (keeps_steps core.history.run first left.device new.moment.device left.core.history.facts (spanned alone first span stands) closed.path),
        λ heard past begins. subst (λ (o : Option Core). IfSome o (λ (c : Core). StandsAlone new.moment.device c → StandsAfter past new.moment.device c)) (sym none) tt,
      );
      timely = λ heard timely. record {
        ahead = record { run_is = run_new timely; later = later_new timely; behind = still_is_behind_each (new.last + 1) new.moment.device (closed.ready heard).flights (behind_new timely) };
        session = subst (λ (o : Option Core). IfSome o (λ (c : Core). c.status.stamp.epoch ≤ new.last)) (sym none) tt;
      };
      left = λ timely. record { run_is = run_new timely; later = later_new timely; behind = behind_new timely };
      between = λ heard. record {
        lit = ready_is_lit new.moment.device (closed.ready heard);
        descriptors = still_leaves_descriptors new.moment.device (closed.ready heard).flights;
        landed = subst (λ (o : Option Core). IfNone o (HaveAllLanded new.moment.facts)) (sym none) (subst HaveAllLanded (sym facts) landed);
        session = subst (λ (o : Option Core). IfSome o (IsOnBetween new.moment.device)) (sym none) tt;
        posted = subst (λ (o : Option Core). ArePosted new.moment.facts o new.posts) (sym none) ended;
      };
      rests = λ others heard rest. record {
        ready = closed.ready heard;
        landed = subst HaveAllLanded (sym facts) landed;
        session = subst (λ (o : Option Core). IfSome o IsSettledCore) (sym none) tt;
        posts = posts ∙ ap (posts_ended (Some left.core)) rest.posts;
      };
      begins = λ timely facts kept. was_session old.session core (IfSome new.session (HasBegunHeld new.moment.device)) its.session;
      power = closed.power;
      waits = let a = waits_left in let b = closed.waits in omega (arith, a, b);
      clock = let e = clock in omega (arith, e);
      few = let e = ap (λ (ps : List Post). length ps) posts ∙ length-map old.posts (ended_with (votes_there left.core) (total_votes left.core.descriptor)) in let one = few in omega (arith, e, one);
    }

  -- the session goes on
  module _ (now : Core) (is : now ≡ record left.core { origin = now.origin }) (session : new.session ≡ Some now) (device : new.moment.device ≡ left.device) (posts : new.posts ≡ old.posts)
      (ready : IsReady left.device) (settled : IsSettledCore left.core) (landed : HaveAllLanded left.core.history.facts) (sound : IsSound (state left.device now)) (rows : HasItsRows now.descriptor now.origin.table)
      (standing : (first : Moment) → MayBeCommanded core.history.run first mid → IsAloneAtFirst mid left → (past : List Fact) → RunBegins core.history.run past first → StandsAfter past left.device now) where
    abbrev next : ScriptState
    next = record { moment = moment_of left; session = Some now; posts = old.posts; last = old.last }

    next_is : new ≡ next
    next_is =
        ap (λ (d : Device). record { moment = record new.moment { device = d }; session = new.session; posts = new.posts; last = new.last }) device
        ∙ ap (λ (fs : List Fact). record { moment = record { device = left.device; facts = fs }; session = new.session; posts = new.posts; last = new.last }) facts
        ∙ ap (λ (o : Option Core). record { moment = moment_of left; session = o; posts = new.posts; last = new.last }) session
        ∙ ap (λ (ps : List Post). record { moment = moment_of left; session = Some now; posts = ps; last = new.last }) posts
        ∙ ap (λ (n : ℕ). record { moment = moment_of left; session = Some now; posts = old.posts; last = n }) clock

    settled_now : IsSettledCore now
    settled_now = subst IsSettledCore (sym is) (record {
      power = settled.power;
      quiet = record { requests = settled.quiet.requests; copy = settled.quiet.copy; status = settled.quiet.status; notes = settled.quiet.notes; buffers = settled.quiet.buffers };
      committed = settled.committed;
      epoch = settled.epoch;
      votes = settled.votes;
    })

    epoch_now : now.status.stamp.epoch ≡ left.core.status.stamp.epoch
    epoch_now = ap (λ (c : Core). c.status.stamp.epoch) is

    stamped_now : IsStamped now.status
    stamped_now = record {
      some_epoch = settled_now.epoch;
      epoch = let low = (stamped_mid old core mid its).epoch in let a = epoch_now in let b = promised.epoch in omega (arith, low, a, b);
      begun = λ u flies. absurd (let e : None ≡ Some u = sym settled_now.quiet.status ∙ flies in cc e);
    }

    pub goes_on : LineGoesOn core.history.run role answer old new
    goes_on = subst (LineGoesOn core.history.run role answer old) (sym next_is) (record {
      keeps = λ timely alone first span stands.
          let alone_new = subst (IsAlone role old) (sym next_is) alone in (
            spanned alone_new first span stands,
            λ heard past begins only. standing first (may_mid old core mid its role acts new alone_new first span stands) (alone_mid old core mid its role acts new alone_new first span stands left facts) past begins,
          );
      timely = λ heard timely. record {
        ahead = record {
          run_is = timely.ahead.run_is;
          later = later_left old core mid its timely left promised;
          behind = still_is_behind_each (old.last + 1) left.device ready.flights (behind_left old core mid its timely left promised);
        };
        session = let low = epoch_left old core mid its timely left promised in let same = epoch_now in omega (arith, low, same);
      };
      left = λ timely. record { run_is = timely.ahead.run_is; later = later_left old core mid its timely left promised; behind = behind_left old core mid its timely left promised };
      between = λ heard. record {
        lit = ready_is_lit left.device ready;
        descriptors = still_leaves_descriptors left.device ready.flights;
        landed = tt;
        session = record { power = settled_now.power; sound = sound; rows = rows; stamped = stamped_now; copy = settled_now.quiet.copy; empty = λ none. settled_now };
        posted = on_posts old.moment.facts left.core.history.facts answers_left now settled_now.quiet.requests old.posts posts_first;
      };
      rests = λ others heard rest. record { ready = ready; landed = landed; session = settled_now; posts = rest.posts };
      begins = λ timely facts kept. was_session old.session core (HasBegunHeld left.device now) its.session;
      power = ready.power;
      waits = waits_left;
      clock = omega arith;
      few = let one = few in omega (arith, one);
    })

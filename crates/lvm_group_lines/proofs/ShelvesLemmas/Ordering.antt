-- Orders to the shelf of a stage.
use Rattle.std.proofs.Common.{◌≡◌, ◌≤◌, ◌<◌, ◌+◌, ◌⊎◌, length, inl, inr, ℕ, List, true, false, Option, Some, None, IfSome, refl, sym, ◌∙◌, ap, subst, arith}
use Rattle.std.specs.Prelude.{◌^◌}
use Rattle.std.specs.Option.{option_map}
use Rattle.lvm_disk.specs.Device.{Device}
use Rattle.lvm_disk.specs.Images.{LeavesNoMore}
use Rattle.lvm_disk.specs.Paths.{DeviceStep, Path, Here, Then, Arranged}
use Rattle.lvm_disk.specs.Steps.{with_order, Arranges, ArrangeGives}
use Rattle.lvm_disk.specs.declared.shelf.Arrange.{Arrange}
use Rattle.lvm_disk.specs.declared.shelf.Arrange.TheVariants as arrange
use Rattle.lvm_disk.proofs.StepsLemmas.{arrange_leaves}
use Rattle.lvm_vol.specs.Facts.{Fact}
use Rattle.lvm_vol.specs.Log.{Log}
use Rattle.lvm_kept.specs.Moments.{Moment}
use Rattle.lvm_steps.specs.Moments.{RunBegins}
use Rattle.lvm_steps.proofs.MomentsLemmas.Spans.{keeps_steps}
use Rattle.lvm_session.specs.declared.open.Power.TheVariants as power
use Rattle.lvm_session.specs.Dark.{after_arrange}
use Rattle.lvm_session.specs.Sound.{IsSound}
use Rattle.lvm_session.specs.State.{Core, state}
use Rattle.lvm_session.specs.Turns.{ArrangesSession}
use Rattle.lvm_keeps.proofs.KeepsLemmas.Orders.{order_keeps}
use Rattle.lvm_group_lines.specs.passed.Tie.{StaysGood}
use Rattle.lvm_group_lines.proofs.passed.Tie.{going_leaves, order_leaves}
use Rattle.lvm_group_lines.specs.passed.TieCommands.{StandsAfter}
use Rattle.lvm_group_lines.specs.passed.Quiesce.{IsAheadEach}
use Rattle.lvm_group_lines.specs.Ends.{EndsUnasked}
use Rattle.lvm_group_lines.specs.Moments.{Aside, LineGoesOn}
use Rattle.lvm_group_lines.specs.Shelves.{ArrangeDoes, IsArranged, over}
use Rattle.lvm_group_lines.specs.Replies.{most_refusals}
use Rattle.lvm_group_lines.specs.Stages.{HaveRooms, IsBetweenStage, IsFittingStage, IsOfKind, IsOnIn, history_after, history_in, history_of, session_in, session_of, shelf_in, shelf_of, state_in}
use Rattle.lvm_group_lines.specs.State.{IsBetween, IsOnBetween, ScriptState, StandsAlone, without_facts}
use Rattle.lvm_group_lines.specs.declared.holder.Holder.{Holder}
use Rattle.lvm_group_lines.specs.declared.holder.Holder.TheVariants as holder
use Rattle.lvm_group_lines.specs.declared.reply.Reply.{Reply}
use Rattle.lvm_group_lines.specs.declared.reply.Reply.TheVariants as reply
use Rattle.lvm_group_lines.specs.declared.stage.Stage.{Stage}
use Rattle.lvm_group_lines.proofs.EndsLemmas.{unasked_as}
use Rattle.lvm_group_lines.proofs.MomentsLemmas.Going.{each_is_ahead, same_goes, same_session}

-- a session's history is its holder's
pub whose : {S : Type 0} (it : Holder S) (core : Core) → session_of it ≡ Some core → core.history ≡ history_of it
whose (holder.Off shelf history) core is = absurd (cc (is))
whose (holder.Empty driver) core is = let e : driver.1 ≡ core = cc (is) in ap (λ (c : Core). c.history) (sym e)
whose (holder.Serving driver) core is = let e : driver.1 ≡ core = cc (is) in ap (λ (c : Core). c.history) (sym e)

-- the session that a holder has is on, if one is between lines
pub is_on : {S : Type 0} (device : Device) (it : Holder S) → IfSome (session_of it) (IsOnBetween device) → IsOnIn it
is_on device (holder.Off shelf history) on = tt
is_on device (holder.Empty driver) on = tt
is_on device (holder.Serving driver) on = on.power

-- one that is on isn't stuck
pub unstuck_by : (core : Core) → core.power ≡ power.On → core.power ≡ power.Stuck → ⊥
unstuck_by core on stuck = let e : power.On ≡ power.Stuck = sym on ∙ stuck in cc e

-- ---- an order that cuts no power

abbrev pub IsOfDisk : ℕ → Arrange → Type 0
IsOfDisk disk what = (what ≡ arrange.Fail disk) ⊎ (what ≡ arrange.Heal disk)

-- it leaves the session and the history, and is all that changes of the shelf
core_left : (disk : ℕ) (what : Arrange) (core : Core) → IsOfDisk disk what → after_arrange what true core ≡ core
core_left disk what core (inl is) = ap (λ (w : Arrange). after_arrange w true core) is
core_left disk what core (inr is) = ap (λ (w : Arrange). after_arrange w true core) is

session_left : (disk : ℕ) (what : Arrange) (session : Option Core) → IsOfDisk disk what → option_map (after_arrange what true) session ≡ session
session_left disk what None of_disk = refl
session_left disk what (Some core) of_disk = ap (λ (c : Core). Some c) (core_left disk what core of_disk)

history_left : (disk : ℕ) (what : Arrange) (log : Log) (session : Option Core) → IsOfDisk disk what → ((core : Core) → session ≡ Some core → core.history ≡ log) → history_after what true log session ≡ log
history_left disk what log None of_disk its = refl
history_left disk what log (Some core) of_disk its = ap (λ (c : Core). c.history) (core_left disk what core of_disk) ∙ its core refl

order_is : (disk : ℕ) (what : Arrange) (old new : Device) → IsOfDisk disk what → Arranges old new what → new ≡ with_order old what
order_is disk what old new (inl is) arranges = subst (λ (w : Arrange). Arranges old new w) is arranges ∙ ap (with_order old) (sym is)
order_is disk what old new (inr is) arranges = subst (λ (w : Arrange). Arranges old new w) is arranges ∙ ap (with_order old) (sym is)

-- ---- the state then

module _ (s : ScriptState) (disk : ℕ) (what : Arrange) (of_disk : IsOfDisk disk what) (takes : s.moment.device.arranges ≡ true) (order : Arranges s.moment.device (with_order s.moment.device what) what) where
  abbrev device : Device
  device = s.moment.device

  abbrev ordered : Device
  ordered = with_order device what

  path : Path DeviceStep (LeavesNoMore device) device ordered
  path = Then (Here (λ image may. may)) (Arranged what order) (arrange_leaves device ordered what order)

  module _ (core : Core) (sound : IsSound (state device core)) where
    arranges : ArrangesSession (state device core) (state ordered core) what true
    arranges = record { device = (takes, order); is = sym (core_left disk what core of_disk) }

    sound_then : IsSound (state ordered core)
    sound_then = order_keeps (state device core) (state ordered core) what true sound arranges

    stays_good : (core.power ≡ power.Stuck → ⊥) → StaysGood (state device core) (state ordered core)
    stays_good unstuck = (going_leaves (state device core) (state ordered core) sound (order_leaves (state device core) (state ordered core) what true unstuck arranges)).1

  -- a session that is on is so on the shelf that took the order
  on_then : (core : Core) → IsOnBetween device core → IsOnBetween ordered core
  on_then core on = record { power = on.power; sound = sound_then core on.sound; stamped = on.stamped; rows = on.rows; copy = on.copy; empty = on.empty }

  if_on : (session : Option Core) → IfSome session (IsOnBetween device) → IfSome session (IsOnBetween ordered)
  if_on None on = tt
  if_on (Some core) on = on_then core on

  -- and the disks stand by it
  stands_then : (run : ℕ) (first : Moment) (session : Option Core) → (IfSome session (λ core. core.history.run ≡ run)) → IfSome session (IsOnBetween device) → IsBetween s.moment s.session s.posts
      → ((past : List Fact) → RunBegins run past first → IfSome session (λ core. StandsAlone device core → StandsAfter past device core))
      → (past : List Fact) → RunBegins run past first → IfSome session (λ core. StandsAlone ordered core → StandsAfter past ordered core)
  stands_then run first None runs on between stands past begins = tt
  stands_then run first (Some core) runs on between stands past begins = λ alone. record {
    empty = λ none. let e = (stands past begins alone).empty none in record { held = e.held; notes = e.notes };
    tied = λ some. ((stays_good core on.sound (unstuck_by core on.power)).good first (λ power earlier began. (stands earlier (subst (λ (n : ℕ). RunBegins n earlier first) runs began) alone).tied some)).0 on.power past (subst (λ (n : ℕ). RunBegins n past first) (sym runs) begins);
    spares = λ some. ((stays_good core on.sound (unstuck_by core on.power)).descriptors between.descriptors).spares ((stands past begins alone).spares some);
  }

  pub ordered_goes : (run : ℕ) (answer : Reply) → IfSome s.session (λ core. core.history.run ≡ run) → IsBetween s.moment s.session s.posts → most_refusals answer ≤ 1 → LineGoesOn run Aside answer s (over ordered s)
  ordered_goes run answer runs between one = record {
    keeps = λ timely alone first span stands. (keeps_steps run first device ordered s.moment.facts span path, λ goes. stands_then run first s.session runs between.session between stands);
    timely = λ goes timely. record { ahead = ahead timely.ahead; session = timely.session };
    left = λ timely. each_is_ahead run (s.last + 1) ordered s.moment.facts (ahead timely.ahead);
    between = λ goes. record {
      lit = record { power = between.lit.power; freed = between.lit.freed };
      descriptors = between.descriptors;
      landed = between.landed;
      session = if_on s.session between.session;
      posted = between.posted;
    };
    rests = λ others goes rests. record { ready = record { flights = rests.ready.flights; freed = rests.ready.freed; power = rests.ready.power }; landed = rests.landed; session = rests.session; posts = rests.posts };
    begins = λ timely facts kept. same_session s.session _;
    power = between.lit.power;
    waits = omega arith;
    clock = omega arith;
    few = omega (arith, one);
  }
    where
      ahead : IsAheadEach run (s.last + 1) device s.moment.facts → IsAheadEach run (s.last + 1) ordered s.moment.facts
      ahead it = record { run_is = it.run_is; later = it.later; behind = it.behind }

-- ---- the stage then

-- the stage with another holder
abbrev pub held_by : {S : Type 0} → Stage S → Holder S → Stage S
held_by stage by = record { holder = by; posts = stage.posts; bytes = stage.bytes }

fits_by : {S : Type 0} (old : Stage S) (by : Holder S) → IsFittingStage old → (IsOfKind old.holder → IsOfKind by) → without_facts (history_of by) ≡ without_facts (history_in old) → IsFittingStage (held_by old by)
fits_by old by fits kind same = record {
  kind = kind fits.kind;
  few = subst (λ (n : ℕ). n < 2 ^ 32) (sym room) fits.few;
  rooms = subst (λ (n : ℕ). HaveRooms n old.posts old.bytes) (sym room) fits.rooms;
}
  where
    room : (history_of by).room ≡ (history_in old).room
    room = ap (λ (l : Log). l.room) same

-- the run is that of the stage's history
runs_of : {S : Type 0} (it : Holder S) → IfSome (session_of it) (λ core. core.history.run ≡ (history_of it).run)
runs_of (holder.Off shelf history) = tt
runs_of (holder.Empty driver) = refl
runs_of (holder.Serving driver) = refl

module _ {S : Type 0} (device : S → Device) (old : Stage S) (by : Holder S) (disk : ℕ) (what : Arrange) (of_disk : IsOfDisk disk what)
    (shelf : ArrangeGives (device (shelf_in old)) (device (shelf_of by)) what true)
    (session : session_of by ≡ option_map (after_arrange what true) (session_in old))
    (history : history_of by ≡ history_after what true (history_in old) (session_in old))
    (kind : IsOfKind old.holder → IsOfKind by) where
  same_history : history_of by ≡ history_in old
  same_history = history ∙ history_left disk what (history_in old) (session_in old) of_disk (whose old.holder)

  abbrev after : Device
  after = with_order (device (shelf_in old)) what

  arranged_is : (last : ℕ) → state_in device (held_by old by) last ≡ over after (state_in device old last)
  arranged_is last =
      let d = order_is disk what (device (shelf_in old)) (device (shelf_of by)) of_disk shelf.1 in
      let s = session ∙ session_left disk what (session_in old) of_disk in
      ap (λ (x : Device). record { moment = record { device = x; facts = (history_of by).facts }; session = session_of by; posts = old.posts.items; last = last }) d
      ∙ ap (λ (x : Log). record { moment = record { device = after; facts = x.facts }; session = session_of by; posts = old.posts.items; last = last }) same_history
      ∙ ap (λ (x : Option Core). record { moment = record { device = after; facts = (history_in old).facts }; session = x; posts = old.posts.items; last = last }) s

  order : Arranges (device (shelf_in old)) after what
  order = subst (λ (d : Device). Arranges (device (shelf_in old)) d what) (order_is disk what (device (shelf_in old)) (device (shelf_of by)) of_disk shelf.1) shelf.1

  pub arranged_ends : (it : Stage S) (answer : Reply) → it ≡ held_by old by → answer ≡ reply.Ok → disk < length (device (shelf_in old)).sizes → IsFittingStage old → IsBetweenStage device old → EndsUnasked device (λ log. ArrangeDoes disk what) (Unit {0}) Aside old it answer
  arranged_ends it answer is says there fits between = unasked_as device (λ log. ArrangeDoes disk what) (Unit {0}) Aside old old it (held_by old by) answer answer refl is refl (λ last. record {
    does = IsArranged there shelf.0 says (arranged_is last);
    goes = subst (λ (s : ScriptState). LineGoesOn (history_in old).run Aside answer (state_in device old last) s) (sym (arranged_is last))
        (ordered_goes (state_in device old last) disk what of_disk shelf.0 order (history_in old).run answer (runs_of old.holder) between (subst (λ (a : Reply). most_refusals a ≤ 1) (sym says) (omega arith)));
    rooms = ap without_facts same_history;
    fits = fits_by old by fits kind (ap without_facts same_history);
    orders = λ none. absurd (none tt);
  })

-- ---- an order that isn't taken

nothing_happens : (what : Arrange) (session : Option Core) → option_map (after_arrange what false) session ≡ session
nothing_happens what None = refl
nothing_happens what (Some core) = refl

nothing_entered : (what : Arrange) (log : Log) (session : Option Core) → ((core : Core) → session ≡ Some core → core.history ≡ log) → history_after what false log session ≡ log
nothing_entered what log None its = refl
nothing_entered what log (Some core) its = its core refl

module _ {S : Type 0} (device : S → Device) (old : Stage S) (by : Holder S) (what : Arrange)
    (shelf : ArrangeGives (device (shelf_in old)) (device (shelf_of by)) what false)
    (session : session_of by ≡ option_map (after_arrange what false) (session_in old))
    (history : history_of by ≡ history_after what false (history_in old) (session_in old))
    (kind : IsOfKind old.holder → IsOfKind by) where
  kept_history : history_of by ≡ history_in old
  kept_history = history ∙ nothing_entered what (history_in old) (session_in old) (whose old.holder)

  unarranged : (last : ℕ) → state_in device (held_by old by) last ≡ state_in device old last
  unarranged last =
      ap (λ (x : Device). record { moment = record { device = x; facts = (history_of by).facts }; session = session_of by; posts = old.posts.items; last = last }) shelf.1
      ∙ ap (λ (x : Log). record { moment = record { device = device (shelf_in old); facts = x.facts }; session = session_of by; posts = old.posts.items; last = last }) kept_history
      ∙ ap (λ (x : Option Core). record { moment = record { device = device (shelf_in old); facts = (history_in old).facts }; session = x; posts = old.posts.items; last = last }) (session ∙ nothing_happens what (session_in old))

  pub unarranged_ends : (Does : Log → ScriptState → ScriptState → Reply → Type 0) (it : Stage S) (answer : Reply) → it ≡ held_by old by → IsFittingStage old → IsBetweenStage device old → most_refusals answer ≤ 1
      → ((last : ℕ) → state_in device (held_by old by) last ≡ state_in device old last → Does (without_facts (history_in old)) (state_in device old last) (state_in device (held_by old by) last) answer)
      → EndsUnasked device Does (Unit {0}) Aside old it answer
  unarranged_ends Does it answer is fits between one does = unasked_as device Does (Unit {0}) Aside old old it (held_by old by) answer answer refl is refl (λ last. record {
    does = does last (unarranged last);
    goes = same_goes (history_in old).run Aside answer (state_in device old last) (state_in device (held_by old by) last) between one (unarranged last);
    rooms = ap without_facts kept_history;
    fits = fits_by old by fits kind (ap without_facts kept_history);
    orders = λ none. absurd (none tt);
  })

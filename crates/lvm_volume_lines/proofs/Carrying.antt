-- A command that has been carried out on the session that has come to rest: how its line ends, whichever it is.
use Rattle.std.proofs.Common.{◌≡◌, ◌≢◌, ◌⊎◌, inl, inr, ◌<◌, ◌≤◌, ◌^◌, ◌+◌, ℕ, Bool, true, false, not, [], List, Option, Some, refl, sym, ◌∙◌, ap, subst}
use Rattle.std.specs.Prelude.{IfSome}
use Rattle.std.proofs.lemmas.List.{nil_from_length}
use Rattle.lvm_num.specs.declared.place.Pp.{Pp}
use Rattle.lvm_num.specs.declared.descriptor.Descriptor.{Descriptor}
use Rattle.lvm_num.proofs.Lists.{none_or_some}
use Rattle.lvm_disk.specs.Device.{Device, HasSectors, IsReady}
use Rattle.lvm_vol.specs.Facts.{Fact}
use Rattle.lvm_vol.specs.Log.{Log}
use Rattle.lvm_kept.specs.Moments.{Moment}
use Rattle.lvm_steps.specs.Moments.{Keeps}
use Rattle.lvm_status.specs.Members.{HasItsRows}
use Rattle.lvm_session.specs.State.{Core, State, state}
use Rattle.lvm_core.specs.Committing.{moment_of}
use Rattle.lvm_core.specs.Held.{StartsHeld}
use Rattle.lvm_core.specs.Leaves.{FindsOnly}
use Rattle.lvm_core.specs.Settled.{IsSettled as IsSettledCore}
use Rattle.lvm_core.specs.Sound.{HaveAllLanded}
use Rattle.lvm_core.specs.State.{state_of}
use Rattle.lvm_disk.proofs.PathsLemmas.{last-path}
use Rattle.lvm_range_lines.specs.passed.Tie.{LeavesSession}
use Rattle.lvm_range_lines.specs.passed.TieCommands.{IsAloneAtFirst, IsLeftStanding, IsLeftStandingSince, MayBeCommanded, StandsAfter}
use Rattle.lvm_range_lines.specs.passed.GroupLines.{CommandEnds, EndsUnasked, patience_of_line, LineGoesOn, Role, HaveRooms, IsBetweenStage, IsFittingStage, IsOfKind, history_of, most_refusals, open_in, session_in, session_of, shelf_in, history_in, state_in, IsAtRest, IsOnBetween, ScriptState, without_facts, Holder, Reply, Stage}
use Rattle.lvm_range_lines.specs.passed.HolderVariants as holder
use Rattle.lvm_range_lines.proofs.passed.GroupLines.{LeavesAnswers}
use Rattle.lvm_range_lines.proofs.passed.Tie.{goes_any, path_frames, path_shape}
use Rattle.lvm_volume_lines.specs.Commands.{HasRested, IsHeldAgain, IsLeftAs, IsLeftOff, IsLeftOn}
use Rattle.lvm_volume_lines.specs.Volumes.{Drains, IsLeftEither, StaysOn}
use Rattle.lvm_volume_lines.proofs.Commanding.{Acts, AtMid, ClosesWell, Promised, goes_off, goes_on, rows_mid}
use Rattle.lvm_volume_lines.proofs.Ending.{KeepsRows}
use Rattle.lvm_volume_lines.proofs.Resting.{IsStill, TurnsKeep, still_turns, turns_keep}

-- ---- a session that is held again

module _ {S : Type 0} (device : S → Device) (added : List Pp) (driver : S × Core) (by : Holder S) (held : IsHeldAgain device added driver by) where
  same_group : held.core.descriptor ≡ driver.1.descriptor
  same_group = ap (λ (c : Core). c.descriptor) held.is

  -- the status with which it began has the rows of the members
  pub rows_again : HasItsRows driver.1.descriptor driver.1.origin.table → HasItsRows held.core.descriptor held.core.origin.table
  rows_again rows = either (none_or_some driver.1.descriptor.lvs)
    where
      either : (driver.1.descriptor.lvs ≡ []) ⊎ (driver.1.descriptor.lvs ≢ []) → HasItsRows held.core.descriptor held.core.origin.table
      either (inl none) = subst (λ (c : Core). HasItsRows c.descriptor c.origin.table) (sym (held.empty none)) rows
      either (inr some) = subst (λ (d : Descriptor). HasItsRows d held.core.origin.table) (sym same_group) (λ disk. (held.served some).marks.rows disk ∙ rows disk)

  -- and what stood on its disks stands
  pub stands_again : (past : List Fact) → IsLeftStanding past (state_of device driver) → StandsAfter past (device driver.0) held.core
  stands_again past stands =
      let empty : held.core.descriptor.lvs ≡ [] → driver.1.descriptor.lvs ≡ [] = λ none. sym (ap (λ (d : Descriptor). d.lvs) same_group) ∙ none in
      let some : held.core.descriptor.lvs ≢ [] → driver.1.descriptor.lvs ≢ [] = λ more none. more (ap (λ (d : Descriptor). d.lvs) same_group ∙ none) in
      record {
        empty = λ none. subst (StartsHeld (device driver.0)) (sym (held.empty (empty none))) (stands.empty (empty none));
        tied = λ more. (stands.served added held.core (held.served (some more)) held.sound).tied more;
        spares = λ more. (stands.served added held.core (held.served (some more)) held.sound).spares more;
      }

-- What is known of a command that has left this of the session, and of its reply: how it is closed where it is over, that it is at rest where it isn't, and what stands.
pub record IsCarried (run : ℕ) (over : Bool) (reply : Reply) (shelf : Device) (mid left : State) : Type 0 where
  pub closed : over ≡ true → ClosesWell reply left.device shelf
  pub ready : over ≡ false → IsReady left.device
  pub settled : over ≡ false → IsSettledCore left.core
  pub few : most_refusals reply ≤ 1
  pub landed : HaveAllLanded left.core.history.facts
  pub answers : LeavesAnswers mid.core.history.facts left.core.history.facts
  pub rows : over ≡ false → KeepsRows mid left
  pub spans : (first : Moment) → MayBeCommanded run first mid → IsAloneAtFirst mid left → Keeps run first (moment_of left)
  pub stands : over ≡ false → (first : Moment) → MayBeCommanded run first mid → IsAloneAtFirst mid left → IsLeftStandingSince run first left

-- ---- the session that has come to rest

-- the history is its session's
history_is : {S : Type 0} (by : Holder S) (core : Core) → session_of by ≡ Some core → history_of by ≡ core.history
history_is (holder.Off shelf history) core its = absurd (cc (its))
history_is (holder.Empty driver) core its = let same : driver.1 ≡ core = cc (its) in ap (λ (c : Core). c.history) same
history_is (holder.Serving driver) core its = let same : driver.1 ≡ core = cc (its) in ap (λ (c : Core). c.history) same

-- the session of a stage, before any turn
abbrev pub first_at : {S : Type 0} → (S → Device) → Stage S → Core → State
first_at device stage core = state (device (shelf_in stage)) core

module _ {S : Type 0} (device : S → Device) (stage : Stage S) (fits : IsFittingStage stage) (between : IsBetweenStage device stage) (none : open_in (session_in stage) ≡ 0) where
  -- the session that is on
  module _ (core : Core) (its : session_in stage ≡ Some core) where
    pub no_requests : core.requests ≡ []
    no_requests = nil_from_length core.requests (sym (ap open_in its) ∙ none)

    pub was_on : IsOnBetween (device (shelf_in stage)) core
    was_on = subst (λ (o : Option Core). IfSome o (IsOnBetween (device (shelf_in stage)))) its between.session

    pub its_history : history_in stage ≡ core.history
    its_history = history_is stage.holder core its

    -- nothing of it is under way where the stage is at rest
    pub still_first : (last : ℕ) → IsAtRest (state_in device stage last) → IsStill (first_at device stage core)
    still_first last rest =
        let settled = subst (λ (o : Option Core). IfSome o IsSettledCore) its rest.session in
        record {
          sound = was_on.sound;
          on = settled.power;
          requests = no_requests;
          copy = settled.quiet.copy;
          in_flight = settled.quiet.status;
          committed = settled.committed;
          votes = ap not settled.votes;
          idle = rest.ready.flights;
        }

  -- ---- once it has come to rest

  module _ (patience : ℕ) (driver : S × Core) (rested : HasRested device stage.holder patience_of_line patience driver) where
    abbrev core : Core
    core = rested.turned.core

    abbrev mid : State
    mid = state_of device driver

    its : session_in stage ≡ Some core
    its = rested.turned.its

    abbrev leaves : LeavesSession (first_at device stage core) mid
    leaves = goes_any rested.turned.runs

    turned : TurnsKeep (first_at device stage core) mid
    turned = turns_keep (first_at device stage core) mid (was_on core its).sound rested.turned.turns

    pub at_mid : (last : ℕ) → AtMid (state_in device stage last) core mid
    at_mid last = record {
      session = its;
      facts = ap (λ (l : Log). l.facts) (its_history core its);
      none = no_requests core its;
      between = between;
      leaves = leaves;
      empty = rested.empty;
      sound = rested.turned.sound;
      settled = rested.settled;
      rest = rested.between;
      answers = λ range was k less. turned.table.answered 1 (range.first + k) (was k less);
    }

    pub drains : (last : ℕ) → Drains core (state_in device stage last) patience mid
    drains last = record {
      none = no_requests core its;
      turns = rested.turned.turns;
      runs = rested.turned.runs;
      still = λ rest. still_turns (first_at device stage core) mid (still_first core its last rest) rested.turned.turns rested.settled.power;
      empty = rested.empty;
      missing = turned.missing;
      sound = rested.turned.sound;
      settled = rested.settled;
      few = rested.turned.few;
      waited = rested.turned.waited;
    }

    -- ---- and a command has been carried out

    module _ (role : Role) (acts : Acts role) (over : Bool) (reply : Reply) (added : List Pp) (out : S × Core) (it : Stage S) (is : IsLeftAs device over added out stage.posts stage.bytes it) (promised : Promised mid (state_of device out))
        (sectors : (shelf : S) → HasSectors (device shelf)) (known : IsCarried core.history.run over reply (device (shelf_in it)) mid (state_of device out)) where
      abbrev left : State
      left = state_of device out

      abbrev run : ℕ
      run = core.history.run

      pub left_off : over ≡ true → IsLeftOff device out stage.posts stage.bytes it
      left_off ends = subst (λ (b : Bool). IsLeftAs device b added out stage.posts stage.bytes it) ends is

      pub left_on : over ≡ false → IsLeftOn device added out stage.posts stage.bytes it
      left_on lasts = subst (λ (b : Bool). IsLeftAs device b added out stage.posts stage.bytes it) lasts is

      -- ---- its history

      left_history : (b : Bool) → over ≡ b → history_in it ≡ left.core.history
      left_history true ends = (left_off ends).history
      left_history false lasts = ap (λ (s : Stage S). history_in s) (left_on lasts).is ∙ (left_on lasts).held.history

      rooms : without_facts (history_in it) ≡ without_facts (history_in stage)
      rooms = ap without_facts (left_history over refl) ∙ promised.history.room ∙ (path_shape leaves).log ∙ sym (ap without_facts (its_history core its))

      orders : (b : Bool) → over ≡ b → (device (shelf_in it)).orders ≡ (device (shelf_in stage)).orders
      orders true ends = (known.closed ends).orders ∙ promised.orders ∙ (path_frames rested.turned.runs).orders
      orders false lasts = ap (λ (s : Stage S). (device (shelf_in s)).orders) (left_on lasts).is ∙ ap (λ (s : S). (device s).orders) (left_on lasts).held.shelf ∙ promised.orders ∙ (path_frames rested.turned.runs).orders

      fits_then : (b : Bool) → over ≡ b → IsFittingStage it
      fits_then true ends = record {
        kind = (left_off ends).kind;
        few = subst (λ (l : Log). l.room < 2 ^ 32) (sym rooms) fits.few;
        rooms = subst (λ (l : Log). HaveRooms l.room it.posts it.bytes) (sym rooms) ((left_off ends).rooms (history_in stage).room fits.rooms);
      }
      fits_then false lasts =
          let on = left_on lasts in
          record {
            kind = subst (λ (s : Stage S). IsOfKind s.holder) (sym on.is) on.held.kind;
            few = subst (λ (l : Log). l.room < 2 ^ 32) (sym rooms) fits.few;
            rooms = subst (λ (l : Log). HaveRooms l.room it.posts it.bytes) (sym rooms) (subst (λ (s : Stage S). HaveRooms (history_in stage).room s.posts s.bytes) (sym on.is) fits.rooms);
          }

      -- ---- what is left of it

      abbrev stays_on : (lasts : over ≡ false) (last : ℕ) → StaysOn left (state_in device stage last) (state_in device it last)
      stays_on lasts last =
          let on = left_on lasts in
          record {
            core = on.held.core;
            is = on.held.is;
            session = ap (λ (s : Stage S). session_in s) on.is ∙ on.held.session;
            device = ap (λ (s : Stage S). device (shelf_in s)) on.is ∙ ap device on.held.shelf;
            facts = ap (λ (l : Log). l.facts) (left_history false lasts);
            posts = ap (λ (s : Stage S). s.posts.items) on.is;
          }

      pub left_either : (b : Bool) → over ≡ b → (last : ℕ) → IsLeftEither b left (state_in device stage last) (state_in device it last)
      left_either true ends last = let off = left_off ends in record { lit = off.lit; facts = ap (λ (l : Log). l.facts) off.history; session = off.session; posts = off.posted }
      left_either false lasts last = stays_on lasts last

      -- nothing more is found once it is closed
      pub finds_no_more : (N : Descriptor → Type 0) → FindsOnly N mid left → (last : ℕ) → FindsOnly N mid (state (state_in device it last).moment.device left.core)
      finds_no_more N finds last = by over refl
        where
          by : (b : Bool) → over ≡ b → FindsOnly N mid (state (device (shelf_in it)) left.core)
          by true ends = λ was id k may. finds was id k (may.0, last-path (known.closed ends).path may.0 may.1, may.2)
          by false lasts = subst (λ (d : Device). FindsOnly N mid (state d left.core)) (sym (stays_on lasts last).device) finds

      -- ---- what goes on

      goes : (b : Bool) → over ≡ b → (last : ℕ) → LineGoesOn run role reply (state_in device stage last) (state_in device it last)
      goes true ends last =
          let off = left_off ends in
          goes_off role acts (state_in device stage last) core mid left (at_mid last) promised known.answers reply (state_in device it last) (ap (λ (l : Log). l.facts) off.history) refl known.few
          known.spans (known.closed ends) off.session known.landed off.posted
      goes false lasts last =
          let on = left_on lasts in
          let stays = stays_on lasts last in
          goes_on role acts (state_in device stage last) core mid left (at_mid last) promised known.answers reply (state_in device it last) stays.facts refl known.few
          known.spans on.held.core on.held.is stays.session stays.device stays.posts (known.ready lasts) (known.settled lasts) known.landed on.held.sound
          (rows_again device added out on.by on.held (known.rows lasts (rows_mid (state_in device stage last) core mid (at_mid last))))
          (λ m may alone past begins. stands_again device added out on.by on.held past (known.stands lasts m may alone (sectors out.0) past begins))

      -- the line ends so, by what it does
      pub carried_ends : (Does : Log → ScriptState → ScriptState → Reply → Type 0) → ((last : ℕ) → Does (without_facts (history_in stage)) (state_in device stage last) (state_in device it last) reply) → (answer : Reply) → answer ≡ reply
          → EndsUnasked device Does ⊥ role stage it answer
      carried_ends Does does answer says = λ last. subst (λ (a : Reply). CommandEnds device Does ⊥ role stage it a last last) (sym says) (record {
        does = does last;
        goes = subst (λ (n : ℕ). LineGoesOn n role reply (state_in device stage last) (state_in device it last)) (sym (ap (λ (l : Log). l.run) (its_history core its))) (goes over refl last);
        rooms = rooms;
        fits = fits_then over refl;
        orders = λ nothing. orders over refl;
      })

-- What goes on beside copies that move: requests stay in the table, no order is given, and the patience goes with waits.
use Rattle.std.proofs.Common.{◌≡◌, ◌≤◌, ◌+◌, ◌-◌, ◌++◌, ℕ, Bool, true, false, ◌||◌, List, [], ◌∷◌, map, length, Option, Some, None, if◌then◌else◌, refl, sym, ap, subst, ◌∙◌, arith}
use Rattle.std.specs.Prelude.{Ok, Err, Result, MatchOption}
use Rattle.std.specs.List.{list_any}
use Rattle.std.proofs.lemmas.List.{length-map}
use Rattle.lvm_disk.specs.Counts.{Counts, NoneFalls, RoseBy}
use Rattle.lvm_disk.specs.Device.{Device}
use Rattle.lvm_disk.specs.Paths.{Here, Path, Then}
use Rattle.lvm_disk.proofs.CountingLemmas.{none_falls_at_once, none_falls_on, rose_by_none}
use Rattle.lvm_num.specs.DescriptorBytes.{descriptor_bytes}
use Rattle.lvm_num.specs.declared.place.Pp.{Pp}
use Rattle.lvm_num.specs.declared.descriptor.Descriptor.{Descriptor}
use Rattle.lvm_vol.specs.declared.entry.Outcome.{Outcome}
use Rattle.lvm_vol.specs.declared.entry.Outcome.TheVariants as outcome
use Rattle.lvm_vol.specs.Facts.{Cut, Fact}
use Rattle.lvm_vol.specs.Order.{Ordered}
use Rattle.lvm_vol.specs.Log.{Log, cut_log, is_answered, is_open, is_uncut, takes_id, with_fact}
use Rattle.lvm_commit.specs.declared.commit.CommitEnd.{CommitEnd}
use Rattle.lvm_commit.specs.declared.commit.CommitEnd.TheVariants as commit_end
use Rattle.lvm_core.specs.declared.fault.CommitFault.{CommitFault}
use Rattle.lvm_core.specs.Committing.{with_one_out}
use Rattle.lvm_core.proofs.CommittingLemmas.Spanning.{path_falls}
use Rattle.lvm_core.specs.declared.fault.CommitFault.TheVariants as fault
use Rattle.lvm_move.specs.Moving.{CommitsMove, Misses, MoveEnds, Writes}
use Rattle.lvm_session.specs.declared.open.Open.{Open}
use Rattle.lvm_path.specs.Next.{with_landing}
use Rattle.lvm_session.specs.Calls.{OpensMove, aged, closed, is_asked}
use Rattle.lvm_session.specs.Dark.{all_dark, all_off, ended_as, landings}
use Rattle.lvm_session.specs.Judging.{is_waiting}
use Rattle.lvm_session.specs.Sound.{IsSound}
use Rattle.lvm_session.specs.State.{Core, State, state}
use Rattle.lvm_session.specs.declared.answers.Turned.{Turned}
use Rattle.lvm_session.specs.Turns.{TurnMakes}
use Rattle.lvm_keeps_events.proofs.TurningLemmas.{turn_keeps}
use Rattle.lvm_going.specs.Going.{CommitsOpenMove, LeavesMoving, RunsOn, closed_after}
use Rattle.lvm_going.proofs.GoingLemmas.{path_frames}
use Rattle.lvm_going.proofs.JoinsLemmas.{goes_any, leaves_moving, leaves_none, moving_both}
use Rattle.lvm_driver.specs.Drains.{IsTurn}
use Rattle.lvm_ranges.specs.Keeping.{KeepsTable}
use Rattle.lvm_ranges.specs.Reading.{IsReadAt}
use Rattle.lvm_ranges.proofs.KeepingLemmas.Growing.{Grows, SameTakings, answered_on, grows_ended, grows_none, grows_quiet, grows_same, grows_then, keeps_requests, takings_ended, takings_push, takings_same}
use Rattle.lvm_ranges.proofs.KeepingLemmas.Tables.{table_same, table_then, turn_table}
use Rattle.lvm_migrate.specs.Migrating.{GoesBesideMoving}

-- ---- nothing, and one thing after another

rose_by_both : {m n a b c : ℕ} → RoseBy m a b → RoseBy n b c → RoseBy (m + n) a c
rose_by_both one two = record { later = omega (arith, one.later, two.later); risen = omega (arith, one.risen, two.risen, one.later, two.later) }

none_waits : (n a : ℕ) → RoseBy (n - n) a a
none_waits n a = let none : 0 ≡ n - n = omega arith in subst (λ k. RoseBy k a a) none (rose_by_none a)

pub beside_none : (s : State) (left : ℕ) → GoesBesideMoving s s left left
beside_none s left = record { leaves = leaves_moving (leaves_none s); table = table_same s.core; orders = refl; counts = none_falls_at_once s.device.counts; fewer = omega arith; waited = none_waits left s.device.counts.waits }

pub beside_both : (old mid new : State) (a b c : ℕ) → GoesBesideMoving old mid a b → GoesBesideMoving mid new b c → GoesBesideMoving old new a c
beside_both old mid new a b c one two =
    let high = one.fewer in
    let low = two.fewer in
    let both : a - b + (b - c) ≡ a - c = omega (arith, high, low) in
    record {
      leaves = moving_both old mid new one.leaves two.leaves;
      table = table_then old.core mid.core new.core one.table two.table;
      orders = two.orders ∙ one.orders;
      counts = none_falls_on one.counts two.counts;
      fewer = omega (arith, high, low);
      waited = subst (λ n. RoseBy n old.device.counts.waits new.device.counts.waits) both (rose_by_both one.waited two.waited);
    }

-- ---- a session whose table and history stay

same_table : (old new : Core) → ((client id : ℕ) → list_any (is_asked client id) new.requests ≡ list_any (is_asked client id) old.requests) → length new.requests ≡ length old.requests → new.history ≡ old.history → KeepsTable old new
same_table old new asked long history =
    let none = table_same old in
    record {
      asked = asked;
      long = long;
      answered = λ client id is. ap (λ (h : Log). is_answered h.facts client id) history ∙ is;
      requests = record {
        landed = λ id is. ap (λ (h : Log). is_open h.facts id) history ∙ is;
        reads = λ id place count is. subst (λ (h : Log). IsReadAt h.facts id place count) (sym history) (none.requests.reads id place count is);
      };
    }

-- ---- it is opened, and turns are made

any_aged : (client id : ℕ) (os : List Open) → list_any (is_asked client id) (map aged os) ≡ list_any (is_asked client id) os
any_aged client id [] = refl
any_aged client id (o ∷ os) = ap (λ b. is_asked client id o || b) (any_aged client id os)

pub opened_table : (counts : Counts) (old new : Core) (lv lp number : ℕ) (to : Pp) → OpensMove counts old new lv lp number to → KeepsTable old new
opened_table counts old new lv lp number to it =
    same_table old new
    (λ client id. ap (λ (c : Core). list_any (is_asked client id) c.requests) it.is ∙ any_aged client id old.requests)
    (ap (λ (c : Core). length c.requests) it.is ∙ length-map old.requests aged)
    (ap (λ (c : Core). c.history) it.is)

pub beside_opened : (old new : State) (left : ℕ) → new.device ≡ old.device → KeepsTable old.core new.core → LeavesMoving old new → GoesBesideMoving old new left left
beside_opened old new left device table leaves = record {
  leaves = leaves;
  table = table;
  orders = ap (λ (d : Device). d.orders) device;
  counts = subst (λ (d : Device). NoneFalls old.device.counts d.counts) (sym device) (none_falls_at_once old.device.counts);
  fewer = omega arith;
  waited = subst (λ (d : Device). RoseBy (left - left) old.device.counts.waits d.counts.waits) (sym device) (none_waits left old.device.counts.waits);
}

turns_keep : {P : State → Type 0} {first last : State} → IsSound first → Path IsTurn P first last → KeepsTable first.core last.core × IsSound last
turns_keep {first = first} sound (Here here) = (table_same first.core, sound)
turns_keep {first = first} {last = last} sound (Then {m = mid} path turn there) =
    let before = turns_keep sound path in
    (table_then first.core mid.core last.core before.0 (turn_table mid last turn.0 before.1 turn.1), turn_keeps mid last turn.0 before.1 turn.1)

pub turns_sound : {P : State → Type 0} {first last : State} → IsSound first → Path IsTurn P first last → IsSound last
turns_sound sound path = (turns_keep sound path).1

pub beside_turns : {P : State → Type 0} (old new : State) (before after : ℕ) → IsSound old → Path IsTurn P old new → RunsOn old new → after ≤ before → RoseBy (before - after) old.device.counts.waits new.device.counts.waits → GoesBesideMoving old new before after
beside_turns old new before after sound path runs fewer waited = record {
  leaves = leaves_moving (goes_any runs);
  table = (turns_keep sound path).0;
  orders = (path_frames runs).orders;
  counts = (path_frames runs).keeps.counts;
  fewer = fewer;
  waited = waited;
}

-- ---- it is closed

closed_table : (core : Core) → KeepsTable core (closed core)
closed_table core = same_table core (closed core) (λ client id. refl) refl refl

pub beside_closed : (old new : State) (left : ℕ) → new ≡ state old.device (closed old.core) → RunsOn old new → GoesBesideMoving old new left left
beside_closed old new left is runs =
    record {
      leaves = leaves_moving (goes_any runs);
      table = subst (λ (s : State). KeepsTable old.core s.core) (sym is) (closed_table old.core);
      orders = (path_frames runs).orders;
      counts = (path_frames runs).keeps.counts;
      fewer = omega arith;
      waited = subst (λ (s : State). RoseBy (left - left) old.device.counts.waits s.device.counts.waits) (sym is) (none_waits left old.device.counts.waits);
    }

-- ---- it is committed

-- all land
any_ended : (how : Outcome) (client id : ℕ) (os : List Open) → list_any (is_asked client id) (map (ended_as how) os) ≡ list_any (is_asked client id) os
any_ended how client id [] = refl
any_ended how client id (o ∷ os) = ap (λ b. b || list_any (is_asked client id) (map (ended_as how) os)) (by (is_waiting o)) ∙ ap (λ b. is_asked client id o || b) (any_ended how client id os)
  where
    by : (t : Bool) → is_asked client id (if t then record o { request = with_landing o.request; got = None; landed = Some how } else o) ≡ is_asked client id o
    by true = refl
    by false = refl

ended_table : (how : Outcome) (old new : Core) → Ordered old.history.run [] old.history.facts → new.requests ≡ map (ended_as how) old.requests → Grows old.history.facts new.history.facts → SameTakings old.history.facts new.history.facts → KeepsTable old new
ended_table how old new ordered all grows takings = record {
  asked = λ client id. ap (list_any (is_asked client id)) all ∙ any_ended how client id old.requests;
  long = ap length all ∙ length-map old.requests (ended_as how);
  answered = answered_on old.history.facts new.history.facts grows takings;
  requests = keeps_requests old new ordered grows;
}

cut_grows : (log : Log) → Grows log.facts (cut_log log).facts
cut_grows log = by (is_uncut log.facts)
  where
    by : (b : Bool) → Grows log.facts (if b then with_fact log Cut else log).facts
    by true = grows_quiet log.facts Cut refl (λ id. refl)
    by false = grows_none log.facts

cut_takings : (log : Log) → SameTakings log.facts (cut_log log).facts
cut_takings log = by (is_uncut log.facts)
  where
    by : (b : Bool) → SameTakings log.facts (if b then with_fact log Cut else log).facts
    by true = takings_push log.facts Cut (λ id. refl)
    by false = λ id. refl

never_dark : outcome.Dark ≡ outcome.Done → ⊥
never_dark e = absurd (cc e)

never_off : outcome.Off ≡ outcome.Done → ⊥
never_off e = absurd (cc e)

off_table : (old mid new : Core) → Ordered old.history.run [] old.history.facts → mid.history ≡ old.history → mid.requests ≡ old.requests → new ≡ all_off mid → KeepsTable old new
off_table old mid new ordered history requests is =
    let facts : new.history.facts ≡ old.history.facts ++ landings outcome.Off old.history.facts old.requests = ap (λ (c : Core). c.history.facts) is ∙ (λ t. (history t).facts ++ landings outcome.Off (history t).facts (requests t)) in
    ended_table outcome.Off old new ordered (ap (λ (c : Core). c.requests) is ∙ ap (map (ended_as outcome.Off)) requests)
    (subst (Grows old.history.facts) (sym facts) (grows_ended outcome.Off never_off old.history.facts old.requests))
    (subst (SameTakings old.history.facts) (sym facts) (takings_ended outcome.Off old.history.facts old.history.facts old.requests))

dark_table : (old mid new : Core) → Ordered old.history.run [] old.history.facts → mid.history ≡ old.history → mid.requests ≡ old.requests → new ≡ all_dark mid → KeepsTable old new
dark_table old mid new ordered history requests is =
    let cut : List Fact = (cut_log old.history).facts in
    let facts : new.history.facts ≡ cut ++ landings outcome.Dark cut old.requests = ap (λ (c : Core). c.history.facts) is ∙ (λ t. (cut_log (history t)).facts ++ landings outcome.Dark (cut_log (history t)).facts (requests t)) in
    ended_table outcome.Dark old new ordered (ap (λ (c : Core). c.requests) is ∙ ap (map (ended_as outcome.Dark)) requests)
    (subst (Grows old.history.facts) (sym facts) (grows_then old.history.facts cut (cut ++ landings outcome.Dark cut old.requests) (cut_grows old.history) (grows_ended outcome.Dark never_dark cut old.requests)))
    (λ id. ap (λ (l : List Fact). list_any (takes_id id) l) facts ∙ takings_ended outcome.Dark cut cut old.requests id ∙ cut_takings old.history id)

module _ (before after : ℕ) (old new : State) (answer : Result (Unit {0}) CommitFault) (sound : IsSound old) (it : CommitsOpenMove before after old new answer) where
  written_table : CommitsMove it.next (descriptor_bytes it.next) before after old it.written answer → KeepsTable old.core it.written.core
  written_table (Misses disk missing is same patience) = subst (λ (s : State). KeepsTable old.core s.core) (sym same) (table_same old.core)
  written_table (Writes there w) = by w.how w.goes
    where
      by : (how : CommitEnd) → MoveEnds it.next w.last w.homes old.core it.written.core how answer → KeepsTable old.core it.written.core
      by (commit_end.Done back) goes = same_table old.core it.written.core (λ client id. ap (λ (c : Core). list_any (is_asked client id) c.requests) goes.1.is) (ap (λ (c : Core). length c.requests) goes.1.is) (ap (λ (c : Core). c.history) goes.1.is)
      by (commit_end.WentOff have total back) goes = off_table old.core (record old.core { status = w.last; homes = w.homes }) it.written.core sound.told.ordered refl refl goes.1
      by commit_end.Dark goes = dark_table old.core (record old.core { pool = with_one_out old.core.pool; status = w.last; homes = w.homes }) it.written.core sound.told.ordered refl refl goes.1
      by commit_end.Stuck goes = same_table old.core it.written.core (λ client id. ap (λ (c : Core). list_any (is_asked client id) c.requests) goes.1) (ap (λ (c : Core). length c.requests) goes.1) (ap (λ (c : Core). c.history) goes.1)

  closes_table : (how : Result (Unit {0}) CommitFault) (core : Core) → KeepsTable core (closed_after how core)
  closes_table (Ok done) core = closed_table core
  closes_table (Err fault.Stuck) core = same_table core (closed_after (Err fault.Stuck) core) (λ client id. refl) refl refl
  closes_table (Err fault.Dark) core = closed_table core
  closes_table (Err (fault.WentOff have total)) core = closed_table core
  closes_table (Err (fault.DiskFailed disk)) core = closed_table core

  record SpendsSo (device : Device) : Type 0 where
    falls : after ≤ before
    waits : RoseBy (before - after) old.device.counts.waits device.counts.waits
    orders : device.orders ≡ old.device.orders
    counts : NoneFalls old.device.counts device.counts

  spends : CommitsMove it.next (descriptor_bytes it.next) before after old it.written answer → SpendsSo it.written.device
  spends (Misses disk missing is same patience) = record {
    falls = omega (arith, patience);
    waits = subst (λ (s : State). RoseBy (before - after) old.device.counts.waits s.device.counts.waits) (sym same) (subst (λ (n : ℕ). RoseBy (before - n) old.device.counts.waits old.device.counts.waits) (sym patience) (none_waits before old.device.counts.waits));
    orders = ap (λ (s : State). s.device.orders) same;
    counts = subst (λ (s : State). NoneFalls old.device.counts s.device.counts) (sym same) (none_falls_at_once old.device.counts);
  }
  spends (Writes there w) = record { falls = w.leaves.spends.falls; waits = w.leaves.spends.waits; orders = w.leaves.keeps.orders; counts = path_falls old.device it.written.device w.kept }

  pub beside_committed : LeavesMoving old new → GoesBesideMoving old new before after
  beside_committed leaves =
      let spent = spends it.commits in
      record {
        leaves = leaves;
        table = subst (λ (s : State). KeepsTable old.core s.core) (sym it.is) (table_then old.core it.written.core (closed_after answer it.written.core) (written_table it.commits) (closes_table answer it.written.core));
        orders = ap (λ (s : State). s.device.orders) it.is ∙ spent.orders;
        counts = subst (λ (s : State). NoneFalls old.device.counts s.device.counts) (sym it.is) spent.counts;
        fewer = spent.falls;
        waited = subst (λ (s : State). RoseBy (before - after) old.device.counts.waits s.device.counts.waits) (sym it.is) spent.waits;
      }

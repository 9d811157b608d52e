-- What a session needs before it writes the records of a turn, and how it goes on with them.
use Rattle.std.proofs.Common.{◌≡◌, ℕ, ◌<◌, ◌≤◌, ◌^◌, Bool, false, List, length, replicate, refl, sym, ◌∙◌, ap, subst, arith}
use Rattle.std.specs.Prelude.{IsTrue, Result, Err, slice_set}
use Rattle.lvm_num.specs.Buffer.{Buffer}
use Rattle.lvm_num.specs.declared.record.Kind.TheVariants as kind
use Rattle.lvm_num.specs.declared.record.Stamp.{Stamp}
use Rattle.lvm_num.specs.declared.descriptor.Descriptor.{Descriptor}
use Rattle.lvm_num.specs.Disks.{Disks, has}
use Rattle.lvm_num.specs.Descriptor.{IsValid}
use Rattle.lvm_num.specs.Record.{longest_content}
use Rattle.lvm_num.specs.Votes.{CanWrite}
use Rattle.lvm_disk.specs.Device.{Device}
use Rattle.lvm_status.specs.Update.{Stored, members_there}
use Rattle.lvm_rec.specs.declared.homes.Homes.{Homes}
use Rattle.lvm_write.specs.Written.{written_well}
use Rattle.lvm_commit.specs.declared.commit.CommitEnd.{CommitEnd}
use Rattle.lvm_commit.specs.declared.commit.CommitEnd.TheVariants as commit_end
use Rattle.lvm_commit.specs.Settling.{IfBack, MayCommit}
use Rattle.lvm_commit.proofs.RecordLemmas.{status_fits}
use Rattle.lvm_session_start.specs.passed.Pbuf.{IsOut}
use Rattle.lvm_session.specs.declared.session.Session.{Session}
use Rattle.lvm_session.specs.Fields.{core_of}
use Rattle.lvm_session.specs.State.{Core, State, state, is_there}
use Rattle.lvm_session.specs.declared.open.Power.TheVariants as power
use Rattle.lvm_core.specs.declared.fault.CommitFault.{CommitFault}
use Rattle.lvm_core.specs.declared.fault.CommitFault.TheVariants as fault
use Rattle.lvm_core.specs.Committing.{is_in, with_one_out}
use Rattle.lvm_core.proofs.RecordLemmas.{descriptor_fits}
use Rattle.lvm_core.proofs.CommittingLemmas.Buffers.{back_again}
use Rattle.lvm_change_laws.specs.Rule.{MayChange}
use Rattle.lvm_change.specs.declared.turn.Transition.{Transition}
use Rattle.lvm_change.specs.declared.turn.TransitionEnd.{TransitionEnd}
use Rattle.lvm_change.specs.declared.turn.TransitionEnd.TheVariants as turned
use Rattle.lvm_change.specs.Parting.{PartsWith}
use Rattle.lvm_change.specs.Transition.{MayMakeTransition, TransitionGives}
use Rattle.lvm_turnover.specs.declared.change.Change.{Change}
use Rattle.lvm_turnover.specs.Turning.{BeginsWith, IsTurnBy, MaySend, MayTurnSession, IsSent, IsSettledBy, TakesOver, GivesUp, GoesOnWith, TurnsSession, after_turn, core_after, disks_leaving, stamped_twice, unreached}
use Rattle.lvm_turnover.proofs.BeginningLemmas.{first_may}

-- the buffer that comes back is the one that is out
pub out_back : (how : CommitEnd) (pool : List Bool) → IsOut pool 0 → IfBack how (λ back. back.number ≡ 0) → IfBack how (λ back. IsOut pool back.number)
out_back (commit_end.Done buf) pool out number = subst (λ (n : ℕ). IsOut pool n) (sym number) out
out_back (commit_end.WentOff have total buf) pool out number = subst (λ (n : ℕ). IsOut pool n) (sym number) out
out_back commit_end.Dark pool out number = tt
out_back commit_end.Stuck pool out number = tt

-- ---- before the records

pub may_send : (c : Change) (there : Disks) (s : State) → MayTurnSession c s → there ≡ is_there s.core → MaySend c there s
may_send c there s may is = record { made = may.ready; there_is = is; leaves = is_in (disks_leaving c.leaving); change = may.change; commit = may.commit }

module _ (c : Change) (there : Disks) (s : State) (may : MaySend c there s) (turn : Transition) (by : IsTurnBy c s.core.descriptor turn) where
  pub may_turn : s.core.status.stamp.epoch < 2 ^ 64 → MayMakeTransition turn there s.core.status.stamp s.device
  may_turn bound = record {
    ready = may.commit.ready;
    records = record {
      told = by.valid;
      status = by.status;
      content = by.content;
      status_fits = subst (λ (l : List ℕ). length l ≤ longest_content kind.Status) (sym by.status) (status_fits turn.told.now by.valid);
      fits = subst (λ (l : List ℕ). length l ≤ longest_content kind.Descriptor) (sym by.content) (descriptor_fits turn.next.now (subst IsValid (sym by.next) may.change.valid_next));
    };
    leaves = may.leaves;
    change = subst (λ (g : Descriptor). MayChange may.leaves g turn.next.now there) (sym by.was_is)
        (subst (λ (g : Descriptor). MayChange may.leaves s.core.descriptor g there) (sym by.next) (subst (λ (set : Disks). MayChange may.leaves s.core.descriptor c.next set) (sym may.there_is) may.change));
    room = λ d is. may.commit.settle.room d (subst (λ (g : Descriptor). IsTrue (members_there g s.core.status.wanted d)) may.commit.settle.own (subst (λ (set : Disks). IsTrue (set d)) may.there_is is));
    epoch = may.commit.settle.epoch;
    bound = bound;
    numbers = (let left = may.commit.numbers in omega (arith, left));
  }

-- the session under the stamp of the second record, with the first buffer out
pub sent_core : (self taken : Session) (u : Stored) (homes : Homes) (last : Stamp) → taken ≡ record self { pool = with_one_out self.pool } → u ≡ record taken.updater { stamp = last } → last ≡ after_turn self.updater.stamp
    → core_of (record taken { updater = u; homes = homes }) ≡ record (core_of self) { pool = with_one_out self.pool; status = stamped_twice (core_of self); homes = homes }
sent_core self taken u homes last is next stamp =
    let status : u ≡ stamped_twice (core_of self) = next ∙ ap (λ (s : Session). record s.updater { stamp = last }) is ∙ ap (λ (x : Stamp). record self.updater { stamp = x }) stamp in
    ap (λ (s : Session). core_of (record s { updater = u; homes = homes })) is ∙ ap (λ (x : Stored). record (core_of self) { pool = with_one_out self.pool; status = x; homes = homes }) status

-- ---- behind them

module _ (c : Change) (before middle after : ℕ) (old new : State) (m : Device) (sent : Core) (there : Disks) (t : TransitionEnd) (answer : Result (Unit {0}) CommitFault) (there_is : there ≡ is_there old.core)
    (is_sent : IsSent c there before middle old (state m sent) t) where
  pub turns : GoesOnWith c sent.homes middle after m old new t answer → TurnsSession c before after old new answer
  turns goes = record {
    turn = is_sent.turn;
    by = is_sent.by;
    slots = sent.homes;
    middle = middle;
    device = m;
    turned = t;
    gives = subst (λ (set : Disks). TransitionGives is_sent.turn set old.core.status.stamp old.core.homes sent.homes 0 before middle old.device m t) there_is is_sent.gives;
    goes = goes;
  }

  pub takes_over : (written lost : ℕ) → has lost ≡ unreached c.next old.core written → (first : Stored) (over : Core) → over ≡ record (core_after c.leaving sent) { descriptor = c.next; status = first }
      → BeginsWith c (has lost) sent.status.stamp first → IsSettledBy middle after (state m over) new answer → TakesOver c written sent.homes middle after m old new answer
  takes_over written lost is first over core parts settles = record {
    first = first;
    parts = subst (λ (set : Disks). BeginsWith c set (after_turn old.core.status.stamp) first) is (subst (λ (x : Stamp). BeginsWith c (has lost) x first) (ap (λ (k : Core). k.status.stamp) is_sent.is) parts);
    settles = subst (λ (k : Core). IsSettledBy middle after (state m k) new answer) (core ∙ ap (λ (k : Core). record (core_after c.leaving k) { descriptor = c.next; status = first; homes = sent.homes }) is_sent.is) settles;
  }

-- ---- where both stand

module _ (c : Change) (before middle : ℕ) (old : State) (m : Device) (sent : Core) (there : Disks) (written : ℕ) (buf : Buffer) (there_is : there ≡ is_there old.core)
    (is_sent : IsSent c there before middle old (state m sent) (turned.Done written buf)) (may : MayTurnSession c old) where
  gives_done : TransitionGives is_sent.turn (is_there old.core) old.core.status.stamp old.core.homes sent.homes 0 before middle old.device m (turned.Done written buf)
  gives_done = subst (λ (set : Disks). TransitionGives is_sent.turn set old.core.status.stamp old.core.homes sent.homes 0 before middle old.device m (turned.Done written buf)) there_is is_sent.gives

  pub done_number : buf.number ≡ 0
  done_number = gives_done.ends.0.number_is

  pub over_may : (lost : ℕ) → has lost ≡ unreached c.next old.core written → (first : Stored) → BeginsWith c (has lost) sent.status.stamp first → MayCommit 1 c.next first m
  over_may lost is first parts =
      let its : BeginsWith c (unreached c.next old.core written) (after_turn old.core.status.stamp) first =
      subst (λ (set : Disks). BeginsWith c set (after_turn old.core.status.stamp) first) is (subst (λ (x : Stamp). BeginsWith c (has lost) x first) (ap (λ (k : Core). k.status.stamp) is_sent.is) parts)
      in
      first_may c old may its.begun its.begun_is written gives_done.ends.0.within first its.parts m gives_done.ends.0.ready gives_done.keeps.sizes (subst (λ (g : Descriptor). CanWrite g (has written)) is_sent.by.next gives_done.ends.1.enough_too)

-- ---- where the votes were too few

module _ (c : Change) (before middle : ℕ) (old : State) (m : Device) (sent : Core) (there : Disks) (have total written : ℕ) (buf : Buffer) (there_is : there ≡ is_there old.core)
    (is_sent : IsSent c there before middle old (state m sent) (turned.WentOff have total written buf)) where
  pub off_number : buf.number ≡ 0
  off_number = (subst (λ (set : Disks). TransitionGives is_sent.turn set old.core.status.stamp old.core.homes sent.homes 0 before middle old.device m (turned.WentOff have total written buf)) there_is is_sent.gives).ends.0.number_is

  pub gives_up : (all : old.core.pool ≡ replicate (length old.core.pool) false) (lost : ℕ) → has lost ≡ written_well there (has written) → (new : Core) → new ≡ record sent { pool = slice_set sent.pool buf.number false; status = new.status; power = power.Off }
      → PartsWith sent.descriptor (has lost) sent.status new.status → GivesUp have total written sent.homes old (state m new) (Err (fault.WentOff have total))
  gives_up all lost is new core parts = record {
    answer_is = refl;
    parts = subst (λ (set : Disks). PartsWith old.core.descriptor set (stamped_twice old.core) new.status) (is ∙ ap (λ (set : Disks). written_well set (has written)) there_is)
        (subst (λ (k : Core). PartsWith k.descriptor (has lost) k.status new.status) is_sent.is parts);
    is = core ∙ ap (λ (k : Core). record k { pool = slice_set k.pool buf.number false; status = new.status; homes = sent.homes; power = power.Off }) is_sent.is
        ∙ ap (λ (pool : List Bool). record old.core { pool = pool; status = new.status; homes = sent.homes; power = power.Off }) (back_again old.core.pool buf.number off_number all);
  }

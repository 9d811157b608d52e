-- A session that has just begun is sound with requests too.
use Rattle.std.proofs.Common.{◌≡◌, ℕ, ◌<◌, ◌≤◌, ◌^◌, ◌++◌, Bool, true, false, List, [], ◌∷◌, None, Some, length, refl, sym, ap, subst, ◌∙◌, arith}
use Rattle.std.specs.Prelude.{if◌then◌else◌, map, nat_lt}
use Rattle.lvm_num.specs.declared.descriptor.Descriptor.{Descriptor}
use Rattle.lvm_num.specs.declared.record.Stamp.{Stamp}
use Rattle.lvm_num.specs.declared.status.Status.{Status}
use Rattle.lvm_num.specs.Disks.{has}
use Rattle.lvm_num.specs.Votes.{CanWrite}
use Rattle.lvm_vol.specs.declared.entry.Vol.TheVariants.{Disk}
use Rattle.lvm_vol.specs.Facts.{Fact, On, Removed}
use Rattle.lvm_vol.specs.Log.{Log}
use Rattle.lvm_vol.specs.Order.{Ordered}
use Rattle.lvm_vol.proofs.FactsLemmas.Order.{ordered-push}
use Rattle.lvm_hold.specs.Waiting.{Waiting}
use Rattle.lvm_rec.specs.declared.homes.Homes.{Homes}
use Rattle.lvm_status.specs.Calls.{first_updates}
use Rattle.lvm_status.specs.Members.{HasItsRows}
use Rattle.lvm_status.specs.Runs.{SetStamp, IsSoundStatus}
use Rattle.lvm_status.specs.Update.{Updates, members_there, seen}
use Rattle.lvm_status.proofs.RunsLemmas.Sound.{first_is_sound, steps_stay_sound}
use Rattle.lvm_session.specs.declared.open.Open.{Open}
use Rattle.lvm_session.specs.State.{Core, State}
use Rattle.lvm_session.specs.Causes.{faults_at_first}
use Rattle.lvm_session.specs.Placed.{ArePlaced}
use Rattle.lvm_session.specs.Sound.{IsFitting, is_dark}
use Rattle.lvm_session_start.specs.declared.parts.Parts.{Parts}
use Rattle.lvm_session_start.specs.declared.parts.SessionRoom.{SessionRoom}
use Rattle.lvm_session_start.specs.Beginning.{first_core}
use Rattle.lvm_session_start.specs.Parts.{IsReserved}
use Rattle.lvm_keeps.specs.Begins.{SessionBegins, HasFirstStatus, IsUnused}
use Rattle.lvm_keeps.proofs.BeginsLemmas.{beginning_is_sound}
use Rattle.lvm_handover.specs.passed.Core.{session_room_of}
use Rattle.lvm_group.specs.NewGroup.{given_up, new_group, new_status}
use Rattle.lvm_handover.specs.passed.Going.{IsStamped}
use Rattle.lvm_handover.specs.Beginning.{HasJustBegun, IsHistory, MadeBegins, Serves, VariedOnBegins}
use Rattle.lvm_keeps.proofs.LeftLemmas.Updates.{few_updates}
use Rattle.lvm_varyon.specs.Second.{status_after, last_seq}
use Rattle.lvm_varyon.proofs.SecondLemmas.{last_seq_low}
use Rattle.lvm_handover.proofs.MarksLemmas.{not_entailed}

-- the stamp of the last record that was written
abbrev stamp_of : ℕ → ℕ → Stamp
stamp_of moment seq = record { epoch = moment; seq = seq }

-- What a call has begun with: parts in which nothing is in use.
pub record BeginsWith (log : Log) (moment : ℕ) (s : State) : Type 0 where
  pub parts : Parts
  pub homes : Homes
  pub reserved : IsReserved parts.descriptor parts.table parts.room parts
  pub seq : ℕ
  pub low : seq ≤ 3
  pub is : s.core ≡ first_core parts log (stamp_of moment seq) homes s.core.origin.faults

-- the parts in their own words
its_own : (d : Descriptor) (t : Status) (room : SessionRoom) (p : Parts) → IsReserved d t room p → IsReserved p.descriptor p.table p.room p
its_own d t room p its =
    subst (λ (x : Descriptor). IsReserved x p.table p.room p) (sym its.descriptor)
    (subst (λ (x : Status). IsReserved d x p.room p) (sym its.table) (subst (λ (x : SessionRoom). IsReserved d t x p) (sym its.room_is) its))

module _ (log : Log) (moment : ℕ) (s : State) (its_history : IsHistory log) (b : BeginsWith log moment s) (just : HasJustBegun s) (low : moment < 2 ^ 64) where
  abbrev p : Parts
  p = b.parts

  table : s.core.status.wanted ≡ s.core.origin.table
  table = ap (λ (c : Core). c.status.wanted) b.is ∙ ap (λ (u : Updates). u.wanted) b.reserved.status ∙ sym (ap (λ (c : Core). c.origin.table) b.is)

  ordered : Ordered s.core.history.run [] s.core.history.facts
  ordered = subst (λ (c : Core). Ordered c.history.run [] c.history.facts) (sym b.is) (ordered-push log.run [] log.facts (On moment) its_history.ordered tt)

  fitting : IsFitting s.core
  fitting = record {
    valid = just.sound.fitting.valid;
    id = just.sound.fitting.id;
    rows = just.sound.fitting.rows;
    group = just.sound.fitting.group;
    entries = just.sound.fitting.entries;
    notes = just.sound.fitting.notes;
    table = subst (λ (os : List Open). length os ≤ s.core.most) (sym just.settled.quiet.requests) (omega arith);
    most = just.sound.fitting.most;
    queue = just.sound.fitting.queue;
    a_buffer = just.sound.fitting.a_buffer;
    buffers = just.sound.fitting.buffers;
    last = just.sound.fitting.last;
    room = subst (λ (c : Core). c.history.room < 2 ^ 32) (sym b.is) its_history.few;
  }

  unused : IsUnused s.core
  unused = record {
    requests = just.settled.quiet.requests;
    rows = ap (λ (c : Core). c.queue.rows) b.is ∙ ap (λ (w : Waiting). w.rows) b.reserved.queue;
    copy = just.settled.quiet.copy;
    pool = just.settled.quiet.buffers;
    flying = ap (λ (c : Core). c.flying) b.is ∙ b.reserved.flying;
    entries = ap (λ (c : Core). c.cache.entries) b.is ∙ b.reserved.cache.entries;
    started = λ disk. ap (λ (c : Core). has c.status.writes.started disk) b.is ∙ ap (λ (u : Updates). u.started disk) b.reserved.status;
    notes = just.settled.quiet.notes;
  }

  calm : HasFirstStatus s.core
  calm = record {
    sound = subst (λ (c : Core). IsSoundStatus (seen c.status)) (sym b.is) (subst (λ (u : Updates). IsSoundStatus (record u { stamp = stamp_of moment b.seq })) (sym b.reserved.status)
        (steps_stay_sound (SetStamp (stamp_of moment b.seq)) (first_updates p.table p.descriptor) (record (first_updates p.table p.descriptor) { stamp = stamp_of moment b.seq }) (first_is_sound p.table p.descriptor) (refl, refl)));
    committed = just.settled.committed ∙ table;
    wanted = table;
    in_flight = just.settled.quiet.status;
  }

  few_faults : (disk : ℕ) → faults_at_first s.core disk ≤ s.device.counts.faults disk
  few_faults disk = subst (λ n. n ≤ s.device.counts.faults disk) (sym (just.faults.each disk)) (by_test (nat_lt disk (length s.device.sizes)))
    where
      by_test : (t : Bool) → (if t then s.device.counts.faults disk else 0) ≤ s.device.counts.faults disk
      by_test true = omega arith
      by_test false = omega arith

  beginning : SessionBegins s
  beginning = record {
    fitting = fitting;
    ordered = ordered;
    landed = just.sound.landed;
    unused = unused;
    calm = calm;
    power = just.settled.power;
    lit = just.sound.lit (ap is_dark just.settled.power);
    idle = just.sound.quiet just.settled.quiet;
    placed = subst (ArePlaced s.device.sizes s.core.descriptor) table just.sound.placed;
    faults = few_faults;
    votes = subst (λ (t : Status). CanWrite s.core.descriptor (members_there s.core.descriptor t)) table just.settled.votes;
    behind = λ pp. not_entailed s.core just.sound.fitting.valid just.sound.fitting.group just.settled.committed just.left pp;
    numbers =
        let few = few_updates s.core just.sound.fitting.valid just.settled.quiet.requests just.settled.quiet.copy in
        let its : s.core.status.stamp.seq ≡ b.seq = ap (λ (c : Core). c.status.stamp.seq) b.is in
        let most = b.low in
        omega (arith, few, its, most);
  }

  stamped : IsStamped s.core.status
  stamped = record {
    some_epoch = just.settled.epoch;
    epoch = subst (λ (c : Core). c.status.stamp.epoch < 2 ^ 64) (sym b.is) low;
    begun = λ u flies. absurd (let no : None ≡ Some u = sym just.settled.quiet.status ∙ flies in cc no);
  }

  pub serves : Serves s
  serves = record { sound = beginning_is_sound s beginning; rows = subst (HasItsRows s.core.descriptor) table just.sound.fitting.rows; stamped = stamped }

-- ---- by varyon

pub varied_on_begins : VariedOnBegins
varied_on_begins was name moment room old s history on just =
    let b : BeginsWith was moment s = record {
      parts = on.first.parts;
      homes = s.core.homes;
      reserved = its_own on.written.group (status_after on.written.next on.written.clean) (session_room_of room) on.first.parts on.first.reserved;
      seq = last_seq on.written.clean;
      low = last_seq_low on.written.clean;
      is = on.first.is;
    } in
    let early = on.written.chosen.early in
    serves was moment s history b just (omega (arith, early))

-- ---- by mkvg

-- entries by which contents are given up follow any others
given_up_follows : (run : ℕ) (past facts : List Fact) (disks : List ℕ) → Ordered run past facts → Ordered run past (facts ++ map (λ (disk : ℕ). Removed (Disk disk)) disks)
given_up_follows run past [] [] follows = tt
given_up_follows run past [] (disk ∷ disks) follows = (tt, given_up_follows run (past ++ Removed (Disk disk) ∷ []) [] disks tt)
given_up_follows run past (f ∷ facts) disks follows = (follows.0, given_up_follows run (past ++ f ∷ []) facts disks follows.1)

pub made_begins : MadeBegins
made_begins was w room old s history made just =
    let b : BeginsWith (given_up was w.disks) w.moment s = record {
      parts = made.reserved;
      homes = made.next;
      reserved = its_own (new_group old.sizes w) (new_status w) (session_room_of room) made.reserved made.parts;
      seq = 2;
      low = omega arith;
      is = made.core_is;
    } in
    let early = made.clear.moment in
    serves (given_up was w.disks) w.moment s (record { ordered = given_up_follows was.run [] was.facts w.disks history.ordered; few = history.few }) b just (omega (arith, early))

-- A session that has just begun is good.
use Rattle.std.proofs.Common.{◌≡◌, ℕ, ◌<◌, ◌≤◌, ◌^◌, ◌++◌, Bool, true, false, List, [], ◌∷◌, Some, length, refl, sym, ap, subst, ◌∙◌, arith}
use Rattle.std.specs.Prelude.{if◌then◌else◌, nat_lt}
use Rattle.lvm_num.specs.declared.descriptor.Descriptor.{Descriptor}
use Rattle.lvm_num.specs.declared.descriptor.LvRow.{LvRow}
use Rattle.lvm_num.specs.declared.record.Stamp.{Stamp}
use Rattle.lvm_num.specs.declared.status.Status.{Status}
use Rattle.lvm_num.specs.Disks.{Disks, has}
use Rattle.lvm_num.specs.Record.{Stamped}
use Rattle.lvm_num.specs.Votes.{CanWrite}
use Rattle.lvm_num.proofs.Lists.{of_told}
use Rattle.lvm_disk.specs.Device.{Device, Media, image_of}
use Rattle.lvm_disk.proofs.PathsLemmas.{last-path}
use Rattle.lvm_vol.specs.Facts.{Fact, On}
use Rattle.lvm_vol.specs.Log.{Log}
use Rattle.lvm_vol.specs.Order.{Ordered}
use Rattle.lvm_kept.specs.Group.{IsOneOf}
use Rattle.lvm_kept.specs.Moments.{Moment, StaysCalm}
use Rattle.lvm_steps.specs.Moments.{RunBegins as Earlier, ImagesKept, Keeps, Upholds}
use Rattle.lvm_steps.specs.Requests.{at}
use Rattle.lvm_steps.proofs.MomentsLemmas.Spans.{spans_join}
use Rattle.lvm_steps.specs.Behind.{ClockIsAhead}
use Rattle.lvm_status.specs.Members.{HasItsRows}
use Rattle.lvm_status.specs.Calls.{first_updates}
use Rattle.lvm_status.specs.Runs.{SetStamp, IsSoundStatus}
use Rattle.lvm_status.specs.Update.{Updates, members_there, seen}
use Rattle.lvm_status.proofs.RunsLemmas.Sound.{first_is_sound, steps_stay_sound}
use Rattle.lvm_hold.specs.Waiting.{Waiting}
use Rattle.lvm_session.specs.declared.open.Open.{Open}
use Rattle.lvm_rec.specs.declared.homes.Homes.{Homes}
use Rattle.lvm_commit.specs.Committed.{HoldsCommitted}
use Rattle.lvm_commit.specs.LawsOfVolumes.{IsOneFoundOn}
use Rattle.lvm_commit.specs.Settling.{NoneIsLeft}
use Rattle.lvm_session.specs.State.{Core, State, state, is_there}
use Rattle.lvm_session_start.specs.declared.parts.Parts.{Parts}
use Rattle.lvm_session_start.specs.declared.parts.SessionRoom.{SessionRoom}
use Rattle.lvm_session_start.specs.Beginning.{MayBeginSession, first_core}
use Rattle.lvm_session_start.specs.Parts.{IsReserved, IsSessionRoom}
use Rattle.lvm_keeps.specs.Begins.{SessionBegins as Beginning, HasFirstStatus, IsUnused}
use Rattle.lvm_keeps.proofs.BeginsLemmas.{beginning_is_sound}
use Rattle.lvm_keeps.proofs.SoundLemmas.Telling.{open_still}
use Rattle.lvm_session.specs.Placed.{ArePlaced}
use Rattle.lvm_session.specs.Causes.{faults_at_first}
use Rattle.lvm_session.specs.Sound.{IsFitting, IsSound, is_dark}
use Rattle.lvm_settled.specs.passed.Core.{Room, NotesAreHome, HaveAllLanded, IsFittingAtRest, IsRoom, session_room_of}
use Rattle.lvm_settled.proofs.passed.Core.{empty_names_none}
use Rattle.lvm_mwc.specs.Cache.{is_named as is_named_by}
use Rattle.lvm_kept.proofs.CommittedLemmas.Finding.{images_within}
use Rattle.lvm_varyon.specs.passed.Tidying.{DirtyAreOne}
use Rattle.lvm_varyon.proofs.passed.Tidying.{quiet_dirty_is_even}
use Rattle.lvm_varyon.specs.Second.{status_after, last_seq}
use Rattle.lvm_varyon.proofs.SecondLemmas.{last_seq_low}
use Rattle.lvm_group.specs.NewGroup.{given_up, new_group, new_status}
use Rattle.lvm_tie.specs.passed.Even.{MissingAreStale}
use Rattle.lvm_tie.specs.Tied.{IsGood, moment_of}
use Rattle.lvm_tie.proofs.passed.Even.{none_is_left_behind}
use Rattle.lvm_tie.specs.Begins.{BeginsSound, StandsAtRest, Start, begun, shown_to}
use Rattle.lvm_tie.proofs.BeginsLemmas.Beginning.{begins_good}
use Rattle.lvm_tie_commands.specs.Coming.{IsBegun, IsDriven, IsMadeEven, LeadsTo, MadeServes, VariedIsMadeEven, VariedOnServes}
use Rattle.lvm_keeps.proofs.LeftLemmas.Updates.{few_updates}
use Rattle.lvm_handover.proofs.MarksLemmas.{not_entailed}

ordered_before : (run : ℕ) (past facts : List Fact) (f : Fact) → Ordered run past (facts ++ f ∷ []) → Ordered run past facts
ordered_before run past [] f ordered = tt
ordered_before run past (g ∷ facts) f ordered = (ordered.0, ordered_before run (past ++ g ∷ []) facts f ordered.1)

-- the parts in their own words
its_own : (d : Descriptor) (t : Status) (room : SessionRoom) (p : Parts) → IsReserved d t room p → IsReserved p.descriptor p.table p.room p
its_own d t room p its =
    subst (λ (x : Descriptor). IsReserved x p.table p.room p) (sym its.descriptor)
    (subst (λ (x : Status). IsReserved d x p.room p) (sym its.table) (subst (λ (x : SessionRoom). IsReserved d t x p) (sym its.room_is) its))

in_room : (room : Room) → IsRoom room → IsSessionRoom (session_room_of room)
in_room room is = record { requests = is.requests; a_buffer = is.a_buffer; buffers = is.buffers }

-- the stamp of the last record that was written
abbrev stamp_of : ℕ → ℕ → Stamp
stamp_of moment seq = record { epoch = moment; seq = seq }

-- What a call has begun with.
pub record Begins (log : Log) (moment : ℕ) (s : State) : Type 0 where
  pub parts : Parts
  pub homes : Homes
  pub reserved : IsReserved parts.descriptor parts.table parts.room parts
  pub fits : IsSessionRoom parts.room
  pub seq : ℕ
  pub low : seq ≤ 3
  pub is : s.core ≡ first_core parts log (stamp_of moment seq) homes s.core.origin.faults

module _ (was log : Log) (moment : ℕ) (room : Room) (old : Device) (s : State) (media : Media) (same_run : log.run ≡ was.run) (b : Begins log moment s)
    (it : IsBegun was moment room old s) (low : moment < 2 ^ 64) (driven : IsDriven s media) where
  abbrev p : Parts
  p = b.parts

  abbrev first : Core
  first = first_core p log (stamp_of moment b.seq) b.homes s.core.origin.faults

  its : IsReserved p.descriptor p.table p.room p
  its = b.reserved

  as_first : (P : Core → Type 0) → P s.core → P first
  as_first P is = subst P b.is is

  wanted : p.updater.wanted ≡ p.table
  wanted = ap (λ (u : Updates). u.wanted) its.status

  fitting : IsFittingAtRest first
  fitting = as_first IsFittingAtRest it.sound.fitting

  may : MayBeginSession s.device log (stamp_of moment b.seq) b.homes p
  may = record {
    reserved = its;
    room = b.fits;
    valid = fitting.valid;
    group = record { id = subst (λ (t : Status). t.id ≡ p.descriptor.id) wanted fitting.id; rows = subst (λ (t : Status). HasItsRows p.descriptor t) wanted fitting.rows };
    ordered = ordered_before log.run [] log.facts (On moment) (as_first (λ (c : Core). Ordered c.history.run [] c.history.facts) driven.ordered);
    landed = λ id. sym (open_still log.facts (On moment) refl id refl) ∙ as_first (λ (c : Core). HaveAllLanded c.history.facts) it.sound.landed id;
    few = as_first (λ (c : Core). c.history.room < 2 ^ 32) driven.few;
    lit = it.sound.lit (ap is_dark it.started.settled.power);
    idle = it.sound.quiet it.started.settled.quiet;
    placed = subst (ArePlaced s.device.sizes p.descriptor) wanted (as_first (λ (c : Core). ArePlaced s.device.sizes c.descriptor c.status.wanted) it.sound.placed);
    votes = subst (λ (t : Status). CanWrite p.descriptor (members_there p.descriptor t)) wanted (as_first (λ (c : Core). CanWrite c.descriptor (is_there c)) it.started.settled.votes);
    behind = λ pp. not_entailed first fitting.valid fitting.group (as_first (λ (c : Core). c.status.committed ≡ c.status.wanted) it.started.settled.committed)
        (as_first (λ (c : Core). NoneIsLeft c.descriptor c.status) it.started.left) pp;
    numbers = let few = few_updates first fitting.valid its.requests refl in let most = b.low in omega (arith, few, most);
  }

  abbrev start : Start
  start = record { device = s.device; parts = p; history = log; stamp = stamp_of moment b.seq; homes = b.homes; faults = s.core.origin.faults }

  same : s ≡ begun start
  same = ap (λ (c : Core). state s.device c) b.is

  -- ---- it is sound with requests too

  table : s.core.status.wanted ≡ s.core.origin.table
  table = ap (λ (c : Core). c.status.wanted) b.is ∙ wanted ∙ sym (ap (λ (c : Core). c.origin.table) b.is)

  fits_table : IsFitting s.core
  fits_table = record {
    valid = it.sound.fitting.valid;
    id = it.sound.fitting.id;
    rows = it.sound.fitting.rows;
    group = it.sound.fitting.group;
    entries = it.sound.fitting.entries;
    notes = it.sound.fitting.notes;
    table = subst (λ (os : List Open). length os ≤ s.core.most) (sym it.started.settled.quiet.requests) (omega arith);
    most = it.sound.fitting.most;
    queue = it.sound.fitting.queue;
    a_buffer = it.sound.fitting.a_buffer;
    buffers = it.sound.fitting.buffers;
    last = it.sound.fitting.last;
    room = driven.few;
  }

  unused : IsUnused s.core
  unused = record {
    requests = it.started.settled.quiet.requests;
    rows = ap (λ (c : Core). c.queue.rows) b.is ∙ ap (λ (w : Waiting). w.rows) its.queue;
    copy = it.started.settled.quiet.copy;
    pool = it.started.settled.quiet.buffers;
    flying = ap (λ (c : Core). c.flying) b.is ∙ its.flying;
    entries = ap (λ (c : Core). c.cache.entries) b.is ∙ its.cache.entries;
    started = λ disk. ap (λ (c : Core). has c.status.writes.started disk) b.is ∙ ap (λ (u : Updates). u.started disk) its.status;
    notes = it.started.settled.quiet.notes;
  }

  calm_first : HasFirstStatus s.core
  calm_first = record {
    sound = subst (λ (c : Core). IsSoundStatus (seen c.status)) (sym b.is) (subst (λ (u : Updates). IsSoundStatus (record u { stamp = stamp_of moment b.seq })) (sym its.status)
        (steps_stay_sound (SetStamp (stamp_of moment b.seq)) (first_updates p.table p.descriptor) (record (first_updates p.table p.descriptor) { stamp = stamp_of moment b.seq }) (first_is_sound p.table p.descriptor) (refl, refl)));
    committed = it.started.settled.committed ∙ table;
    wanted = table;
    in_flight = it.started.settled.quiet.status;
  }

  few_faults : (disk : ℕ) → faults_at_first s.core disk ≤ s.device.counts.faults disk
  few_faults disk = subst (λ n. n ≤ s.device.counts.faults disk) (sym (it.faults.each disk)) (by_test (nat_lt disk (length s.device.sizes)))
    where
      by_test : (t : Bool) → (if t then s.device.counts.faults disk else 0) ≤ s.device.counts.faults disk
      by_test true = omega arith
      by_test false = omega arith

  beginning : Beginning s
  beginning = record {
    fitting = fits_table;
    ordered = driven.ordered;
    landed = it.sound.landed;
    unused = unused;
    calm = calm_first;
    power = it.started.settled.power;
    lit = it.sound.lit (ap is_dark it.started.settled.power);
    idle = it.sound.quiet it.started.settled.quiet;
    placed = subst (ArePlaced s.device.sizes s.core.descriptor) table it.sound.placed;
    faults = few_faults;
    votes = subst (λ (t : Status). CanWrite s.core.descriptor (members_there s.core.descriptor t)) table it.started.settled.votes;
    behind = λ pp. not_entailed s.core it.sound.fitting.valid it.sound.fitting.group it.started.settled.committed it.started.left pp;
    numbers =
        let few = few_updates s.core it.sound.fitting.valid it.started.settled.quiet.requests it.started.settled.quiet.copy in
        let seq_is : s.core.status.stamp.seq ≡ b.seq = ap (λ (c : Core). c.status.stamp.seq) b.is in
        let most = b.low in
        omega (arith, few, seq_is, most);
  }

  begins : BeginsSound start
  begins = record { may = may; sound = subst IsSound same (beginning_is_sound s beginning) }

  -- ---- what stands on the disks

  module _ (clock : ClockIsAhead was.run moment old was.facts) (facts : List Fact) (kept : ImagesKept old facts) (only : IsOneFoundOn s.device) (even : IsMadeEven s media) where
    abbrev Held : Media → Type 0
    Held m = HoldsCommitted (image_of s.device.sizes m) s.core.descriptor s.core.status.committed (is_there s.core) s.core.status.stamp s.core.homes

    held : Held media
    held = of_told Held s.device.media media driven.told (it.started.held facts clock kept).held

    behind : MissingAreStale (shown_to s media) s.core.descriptor (Some held.shows.stands) (is_there s.core)
    behind = subst (λ (set : Disks). MissingAreStale (shown_to s media) s.core.descriptor (Some held.shows.stands) set) (ap (λ (g : Descriptor). members_there g s.core.status.wanted) it.sound.fitting.group)
        (none_is_left_behind (shown_to s media) s.core.descriptor s.core.status held.shows.stands (held.shows.committed ∙ it.started.settled.committed) it.started.left)

    epoch : s.core.status.stamp.epoch ≡ moment
    epoch = ap (λ (c : Core). c.status.stamp.epoch) b.is

    stands : StandsAtRest s media
    stands = record {
      told = driven.told;
      sectors = driven.sectors;
      some_epoch = it.started.settled.epoch;
      epoch = subst (λ (n : ℕ). n < 2 ^ 64) (sym epoch) low;
      votes = it.started.settled.votes;
      held = held;
      only = only;
      notes = even.notes;
      even = even.even held.shows;
      behind = behind;
    }

    module _ (m : Moment) (leads : LeadsTo m was moment old) where
      keeps : Keeps was.run m (moment_of s)
      keeps = spans_join was.run m (at old was.facts) (moment_of s) leads.keeps leads.calm (it.leaves.keeps clock)

      calm : StaysCalm m (moment_of s)
      calm past none = it.leaves.calm past (leads.calm past none)

      pub serves : IsGood was.run m s
      serves = subst (λ (x : State). IsGood was.run m x) (sym same) (subst (λ (run : ℕ). IsGood run m (begun start)) same_run
          (begins_good m start media begins (subst (λ (x : State). StandsAtRest x media) same stands)
          (subst (λ (run : ℕ). Keeps run m (moment_of (begun start))) (sym same_run) (subst (λ (x : State). Keeps was.run m (moment_of x)) same keeps))
          (subst (λ (x : State). StaysCalm m (moment_of x)) same calm)))

-- ---- where there is nothing to recover

-- the notes are home, as the session begins
home : (was : Log) (moment : ℕ) (room : Room) (old : Device) (s : State) (media : Media) → IsBegun was moment room old s → ClockIsAhead was.run moment old was.facts → (facts : List Fact) → ImagesKept old facts → s.device.media ≡ Some media → NotesAreHome s.core (image_of s.device.sizes media)
home was moment room old s media it clock facts kept told = of_told (λ (m : Media). NotesAreHome s.core (image_of s.device.sizes m)) s.device.media media told (it.started.held facts clock kept).notes

pub varied_is_made_even : VariedIsMadeEven
varied_is_made_even past was name moment room old s media on it clock facts before told equal kept =
    let notes = home was moment room old s media it clock facts before told in
    record {
      notes = notes;
      even = λ shows. quiet_dirty_is_even (shown_to s media) s.core.descriptor s.core.status.committed (is_there s.core) past it.sound.fitting.valid (images_within (image_of s.device.sizes media)) it.started.settled.votes shows
          (of_told (λ (m : Media). (stands : Stamped Status) → stands.value ≡ s.core.status.committed → DirtyAreOne (shown_to s m) s.core.descriptor (Some stands) (is_there s.core)) s.device.media media told equal shows.stands shows.committed)
          (λ d lv group present. notes d lv group present ∙ ap (λ (c : Core). is_named_by c.cache d lv group) on.first.is ∙ empty_names_none on.written.group on.first.parts.cache on.first.reserved.cache d lv group) kept;
    }

-- ---- by varyon

-- what a span leads to keeps the history
kept_before : (was : Log) (old : Device) (first : Moment) → Keeps was.run first (at old was.facts) → (past : List Fact) → Earlier was.run past first → ImagesKept old (past ++ was.facts)
kept_before was old first keeps past begins = let upholds : Upholds was.run first (at old was.facts) = last-path keeps in (upholds past begins).kept

pub varied_on_serves : VariedOnServes
varied_on_serves m was name moment room old s media on it leads driven only even power past begins =
    let fits : IsSessionRoom on.first.parts.room = subst IsSessionRoom (sym on.first.reserved.room_is) (in_room room it.room_is) in
    let b : Begins was moment s = record {
      parts = on.first.parts;
      homes = s.core.homes;
      reserved = its_own on.written.group (status_after on.written.next on.written.clean) (session_room_of room) on.first.parts on.first.reserved;
      fits = fits;
      seq = last_seq on.written.clean;
      low = last_seq_low on.written.clean;
      is = on.first.is;
    } in
    let early = on.written.chosen.early in
    serves was was moment room old s media refl b it (omega (arith, early)) driven leads.clock (past ++ was.facts) (kept_before was old m leads.keeps past begins) only even m leads power past begins

-- ---- by mkvg

pub made_serves : MadeServes
made_serves m was w room old s media made it leads driven only power past begins =
    let fits : IsSessionRoom made.reserved.room = subst IsSessionRoom (sym made.parts.room_is) (in_room room it.room_is) in
    let b : Begins (given_up was w.disks) w.moment s = record {
      parts = made.reserved;
      homes = made.next;
      reserved = its_own (new_group old.sizes w) (new_status w) (session_room_of room) made.reserved made.parts;
      fits = fits;
      seq = 2;
      low = omega arith;
      is = made.core_is;
    } in
    let none : s.core.descriptor.lvs ≡ [] = ap (λ (c : Core). c.descriptor.lvs) made.core_is ∙ ap (λ (d : Descriptor). d.lvs) made.parts.descriptor in
    let early = made.clear.moment in
    let kept = kept_before was old m leads.keeps past begins in
    serves was (given_up was w.disks) w.moment room old s media refl b it (omega (arith, early)) driven leads.clock (past ++ was.facts) kept only
    (record {
      notes = home was w.moment room old s media it leads.clock (past ++ was.facts) kept driven.told;
      even = λ shows row lp b volume soft inside. absurd (subst (λ (rows : List LvRow). IsOneOf rows row) none volume);
    }) m leads power past begins

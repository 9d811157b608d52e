-- What a session and its shelf are after records were written: it is sound, and goes on as it says.
use Rattle.std.proofs.Common.{◌≡◌, inr, ℕ, ◌+◌, ◌≤◌, ◌<◌, ◌++◌, Bool, true, false, true≢false, ◌&&◌, not, List, [], refl, sym, ◌∙◌, ap, subst, arith}
use Rattle.std.specs.Prelude.{IsTrue, IsFalse, Ok, Result, Contains, count_by}
use Rattle.lvm_num.specs.declared.descriptor.PvRow.{PvRow}
use Rattle.lvm_num.specs.declared.descriptor.Descriptor.{Descriptor}
use Rattle.lvm_num.specs.declared.record.Stamp.{Stamp}
use Rattle.lvm_num.specs.Disks.{Disks}
use Rattle.lvm_num.specs.Buffer.{Sector}
use Rattle.lvm_num.specs.Descriptor.{IsValid, is_member}
use Rattle.lvm_num.specs.Status.{calls_missing}
use Rattle.lvm_num.specs.Votes.{votes_in, is_enough_to_write, CanWrite}
use Rattle.lvm_disk.specs.Device.{Device, IsReady, image_of}
use Rattle.lvm_disk.specs.Paths.{DeviceStep, Path, Here}
use Rattle.lvm_vol.specs.Facts.{Fact}
use Rattle.lvm_vol.specs.Log.{Log, cut_log}
use Rattle.lvm_kept.specs.Moments.{Moment, StaysCalm}
use Rattle.lvm_kept.specs.Plans.{Plan, ChangesBy}
use Rattle.lvm_kept.specs.Torn.{RecordWrite}
use Rattle.lvm_commit.specs.passed.Steps.{ImagesKept, RunBegins, HistoryHolds, Keeps, at, beginning_at, IsOtherOrEarlier}
use Rattle.lvm_commit.proofs.passed.Steps.{keeps_path, earlier_stays_behind, session_is_before_later}
use Rattle.lvm_status.specs.Table.{SameMissing}
use Rattle.lvm_status.specs.Update.{Stored, members_there}
use Rattle.lvm_write.proofs.WrittenLemmas.Writing.{both_map, changes_more}
use Rattle.lvm_commit.specs.declared.commit.CommitEnd.{CommitEnd}
use Rattle.lvm_commit.specs.declared.commit.CommitEnd.TheVariants as commit_end
use Rattle.lvm_commit.specs.Committed.{IsAlike}
use Rattle.lvm_commit.specs.Settling.{HasSameRows, IsForgotten, there, many_there, IsCommitted, HasLostQuorum, AreWell, SpendsNumbers, StaysCommitted, IsOfSession, SettleEnds}
use Rattle.lvm_commit.proofs.RoundsLemmas.Wanting.{row_stays}
use Rattle.lvm_commit.proofs.SettlingLemmas.Chaining.{stays_before}
use Rattle.lvm_core.specs.declared.fault.CommitFault.{CommitFault}
use Rattle.lvm_session.specs.declared.open.Power.TheVariants as power
use Rattle.lvm_session.specs.State.{Core, State, state, is_there}
use Rattle.lvm_session.specs.Dark.{all_dark}
use Rattle.lvm_session.specs.Placed.{IsPlaced, ArePlaced}
use Rattle.lvm_session.specs.Sound.{is_dark}
use Rattle.lvm_core.specs.Sound.{HasNoneOpen, IsFittingAtRest, IsSoundAtRest}
use Rattle.lvm_core.specs.Settled.{IsSettled}
use Rattle.lvm_core.specs.Committing.{with_one_out, RecordsEnd, FailsCommitted, moment_of, StaysBehind}
use Rattle.lvm_core.specs.Leaves.{KeepsHistory}
use Rattle.lvm_core.specs.Steps.{CoreEnds, Settles}
use Rattle.lvm_core.proofs.LeavesLemmas.{keeps_same, keeps_cut as history_keeps_cut}
use Rattle.lvm_core.proofs.SoundLemmas.Dark.{dark_is}
use Rattle.lvm_core.proofs.SoundLemmas.Own.{SameSizes, fits_with, fits_pool, one_out_long, sound_ready, sound_dark, sound_stuck}
use Rattle.lvm_core.proofs.CommittingLemmas.Spanning.{keeps_cut, calm_cut}

-- the members that aren't missing, by a session and by its status
pub there_is : (d : Descriptor) (u : Stored) → u.group ≡ record d { lvs = [] } → there u ≡ members_there d u.wanted
there_is d u is = λ t. members_there (is t) u.wanted

-- What is known of the status that was to be committed first: it is of the session, and nothing else is missing by it.
pub record IsBegun (old : Core) (first : Stored) : Type 0 where
  pub group : first.group ≡ old.status.group
  pub stamp : first.stamp ≡ old.status.stamp
  pub committed : first.committed ≡ old.status.committed
  pub rows : HasSameRows old.status.wanted first.wanted
  pub missing : SameMissing old.status.wanted first.wanted
  pub forgotten : IsForgotten old.status → IsForgotten first

module _ (Held Plain : Type 0) (next : Descriptor) (plan : Plan) (first : Stored) (before after : ℕ) (old new : State) (how : CommitEnd) (answer : Result (Unit {0}) CommitFault) (s : Settles Held Plain next plan first before after old new how answer)
    (begins : IsBegun old.core first) (settled_is : IsSettled old.core) (sound : IsSoundAtRest old) (valid : IsValid next) (alike : IsAlike next old.core.descriptor) where
  group_first : first.group ≡ record old.core.descriptor { lvs = [] }
  group_first = begins.group ∙ sound.fitting.group

  pub group_is : new.core.status.group ≡ record old.core.descriptor { lvs = [] }
  group_is = s.leaves.loses.group ∙ group_first

  pub there_first : there first ≡ is_there old.core
  there_first = λ t d. is_member (group_first t) d && not (begins.missing d t)

  -- ---- the session

  abbrev base : Descriptor → Core
  base d = record old.core { descriptor = d; status = new.core.status; homes = new.core.homes }

  fits : (d : Descriptor) → IsValid d → IsAlike d old.core.descriptor → IsFittingAtRest (base d)
  fits d its same = record {
    valid = its;
    id = s.leaves.loses.rows.id ∙ begins.rows.id ∙ sound.fitting.id ∙ sym (ap (λ (g : Descriptor). g.id) same);
    rows = λ disk.
        row_stays first.wanted new.core.status.wanted s.leaves.loses.rows disk ∙ row_stays old.core.status.wanted first.wanted begins.rows disk ∙ sound.fitting.rows disk
        ∙ ap (λ (g : Descriptor). is_member g disk) (sym same);
    group = group_is ∙ sym same;
    entries = sound.fitting.entries;
    notes = λ disk. sound.fitting.notes disk ∙ ap (λ (g : Descriptor). is_member g disk) (sym same);
    most = sound.fitting.most;
    queue = sound.fitting.queue;
    a_buffer = sound.fitting.a_buffer;
    buffers = sound.fitting.buffers;
    last = sound.fitting.last;
    forgotten = s.leaves.forgotten (begins.forgotten sound.fitting.forgotten);
  }

  none : (d : Descriptor) → HasNoneOpen (base d)
  none d = record { requests = settled_is.quiet.requests; copy = settled_is.quiet.copy }

  was_there : (d : ℕ) → calls_missing new.core.status.wanted d ≡ false → calls_missing old.core.status.wanted d ≡ false
  was_there d there = by_test (calls_missing old.core.status.wanted d) refl
    where
      by_test : (b : Bool) → calls_missing old.core.status.wanted d ≡ b → b ≡ false
      by_test true is = absurd (true≢false (sym (s.leaves.loses.stays d (begins.missing d ∙ is)) ∙ there))
      by_test false is = refl

  placed : (d : Descriptor) → IsAlike d old.core.descriptor → ArePlaced new.device.sizes d new.core.status.wanted
  placed d same row inside there =
      let its = sound.placed row (subst (λ (rows : List PvRow). Contains rows row) (ap (λ (g : Descriptor). g.pvs) same) inside) (was_there row.disk there) in
      subst (λ (sizes : List ℕ). IsPlaced sizes d.mib row) (sym s.leaves.keeps.sizes) (subst (λ (mib : ℕ). IsPlaced old.device.sizes mib row) (sym (ap (λ (g : Descriptor). g.mib) same)) its)

  lit : is_dark old.core.power ≡ false
  lit = ap is_dark settled_is.power

  not_stuck : old.core.power ≡ power.Stuck → ⊥
  not_stuck stuck = absurd (let e : power.On ≡ power.Stuck = sym settled_is.power ∙ stuck in cc)

  as_core : (core : Core) → new.core ≡ core → IsSoundAtRest (state new.device core) → IsSoundAtRest new
  as_core core is it = subst (λ (c : Core). IsSoundAtRest (state new.device c)) (sym is) it

  pub settles_sound : IsSoundAtRest new
  settles_sound = by_how how s.ends s.goes
    where
      own : IsAlike old.core.descriptor old.core.descriptor
      own = refl

      here : Core
      here = base old.core.descriptor

      out : Core
      out = record here { pool = with_one_out old.core.pool }

      fits_here : IsFittingAtRest here
      fits_here = fits old.core.descriptor sound.fitting.valid own

      fits_out : IsFittingAtRest out
      fits_out = fits_pool here (with_one_out old.core.pool) (one_out_long old.core.pool) fits_here

      by_how : (h : CommitEnd) → SettleEnds Held Plain 0 before first new.core.status old.device new.device h → CoreEnds next old.core new.core h answer → IsSoundAtRest new
      by_how (commit_end.Done back) ends goes = as_core (base next) goes.1 (sound_ready new.device (base next) (fits next valid alike) (none next) sound.landed (placed next alike) settled_is.quiet.buffers lit not_stuck ends.back.ready)
      by_how (commit_end.WentOff have total back) ends goes = as_core (record here { power = power.Off }) goes.1
          (sound_ready new.device (record here { power = power.Off }) (fits_with here here.history here.pool power.Off refl fits_here) (record { requests = settled_is.quiet.requests; copy = settled_is.quiet.copy }) sound.landed (placed old.core.descriptor own) settled_is.quiet.buffers refl
          (λ stuck. absurd (let e : power.Off ≡ power.Stuck = stuck in cc)) ends.back.ready)
      by_how commit_end.Dark ends goes = as_core (all_dark out) goes.1
          (sound_dark old.device new.device out old.core.pool fits_out (record { requests = settled_is.quiet.requests; copy = settled_is.quiet.copy }) sound.landed (placed old.core.descriptor own) refl settled_is.quiet.buffers sound.fitting.a_buffer ends.0)
      by_how commit_end.Stuck ends goes = as_core out goes.1
          (sound_stuck before old.device new.device out old.core.pool fits_out (record { requests = settled_is.quiet.requests; copy = settled_is.quiet.copy }) sound.landed (placed old.core.descriptor own) refl settled_is.quiet.buffers sound.fitting.a_buffer lit not_stuck ends.0)

  -- ---- how it ends

  settled_next : IsCommitted new.core.status → IsSettled (base next)
  settled_next done = record {
    power = settled_is.power;
    quiet = record { requests = settled_is.quiet.requests; copy = settled_is.quiet.copy; status = done.idle; notes = settled_is.quiet.notes; buffers = settled_is.quiet.buffers };
    committed = done.same;
    epoch = λ none. settled_is.epoch (sym (s.leaves.numbers.epoch ∙ ap (λ (t : Stamp). t.epoch) begins.stamp) ∙ none);
    votes = subst (λ (g : Descriptor). CanWrite g (members_there g new.core.status.wanted)) (group_is ∙ sym alike) done.votes;
  }

  lost_from : (have total : ℕ) → HasLostQuorum first new.core.status old.device new.device have total → HasLostQuorum old.core.status new.core.status old.device new.device have total
  lost_from have total lost = record {
    have_is = lost.have_is;
    total_is = lost.total_is;
    few = lost.few;
    disk = lost.disk;
    was = subst (λ (set : Disks). IsTrue (set lost.disk)) (there_first ∙ sym (there_is old.core.descriptor old.core.status sound.fitting.group)) lost.was;
    failed = lost.failed;
  }

  -- as many numbers are left after the marks as before
  many_first : many_there first ≡ many_there old.core.status
  many_first = ap (λ (g : Descriptor). count_by (λ (row : PvRow). not (calls_missing first.wanted row.disk)) g.pvs) begins.group
      ∙ ap (λ (set : ℕ → Bool). count_by (λ (row : PvRow). not (set row.disk)) old.core.status.group.pvs) (λ t d. begins.missing d t)

  pub settles_numbers : (more : ℕ) → SpendsNumbers more first new.core.status → SpendsNumbers more old.core.status new.core.status
  settles_numbers more spends = record {
    epoch = spends.epoch ∙ ap (λ (t : Stamp). t.epoch) begins.stamp;
    rises = subst (λ (t : Stamp). t.seq ≤ new.core.status.stamp.seq) begins.stamp spends.rises;
    most = subst (λ n. new.core.status.stamp.seq + many_there new.core.status ≤ old.core.status.stamp.seq + more + n) many_first
        (subst (λ (t : Stamp). new.core.status.stamp.seq + many_there new.core.status ≤ t.seq + more + many_there first) begins.stamp spends.most);
  }

  stays_from : StaysCommitted first new.core.status old.device new.device → StaysCommitted old.core.status new.core.status old.device new.device
  stays_from stays =
      let seq = ap (λ (t : Stamp). t.seq) begins.stamp in
      stays_before old.core.status first new.core.status old.device old.device new.device begins.committed (ap (λ (t : Stamp). t.epoch) begins.stamp) (omega (arith, seq)) begins.group (Here tt) stays

  pub records_end : (Done : Type 0) → (answer ≡ Ok tt → Held → Plain → IsSettled new.core → new.core ≡ base next → AreWell new.core.status old.device new.device → IsReady new.device → new.device.counts.cuts ≡ old.device.counts.cuts → Done)
      → RecordsEnd Done before old new answer
  records_end Done makes = by_how how s.ends s.goes
    where
      by_how : (h : CommitEnd) → SettleEnds Held Plain 0 before first new.core.status old.device new.device h → CoreEnds next old.core new.core h answer → RecordsEnd Done before old new answer
      by_how (commit_end.Done back) ends goes = subst (λ (a : Result (Unit {0}) CommitFault). RecordsEnd Done before old new a) (sym goes.0)
          (makes goes.0 ends.held ends.plain (subst IsSettled (sym goes.1) (settled_next ends.committed)) goes.1 ends.back.well ends.back.ready ends.back.cuts)
      by_how (commit_end.WentOff have total back) ends goes = subst (λ (a : Result (Unit {0}) CommitFault). RecordsEnd Done before old new a) (sym goes.0) (record {
        lost = lost_from have total ends.lost;
        spent = settles_numbers 0 ends.spent;
        is = goes.1;
        well = ends.back.well;
        ready = ends.back.ready;
        cuts = ends.back.cuts;
      })
      by_how commit_end.Dark ends goes = subst (λ (a : Result (Unit {0}) CommitFault). RecordsEnd Done before old new a) (sym goes.0) (record { cut = ends.0; is = goes.1 })
      by_how commit_end.Stuck ends goes = subst (λ (a : Result (Unit {0}) CommitFault). RecordsEnd Done before old new a) (sym goes.0) (record { out = ends.0; is = goes.1 })

  pub fails_committed : FailsCommitted old new answer
  fails_committed = by_how how s.ends s.goes
    where
      by_how : (h : CommitEnd) → SettleEnds Held Plain 0 before first new.core.status old.device new.device h → CoreEnds next old.core new.core h answer → FailsCommitted old new answer
      by_how (commit_end.Done back) ends goes = subst (FailsCommitted old new) (sym goes.0) tt
      by_how (commit_end.WentOff have total back) ends goes = subst (FailsCommitted old new) (sym goes.0) (stays_from ends.committed)
      by_how commit_end.Dark ends goes = subst (FailsCommitted old new) (sym goes.0) (stays_from ends.1)
      by_how commit_end.Stuck ends goes = subst (FailsCommitted old new) (sym goes.0) (stays_from ends.1)

  -- ---- the history

  -- where the power was cut nothing was open but the buffer
  out_none : HasNoneOpen (record old.core { pool = with_one_out old.core.pool; status = new.core.status; homes = new.core.homes })
  out_none = record { requests = settled_is.quiet.requests; copy = settled_is.quiet.copy }

  by_history : (P : Log → Type 0) → P old.core.history → P (cut_log old.core.history) → P new.core.history
  by_history P same dark = by_how how s.goes
    where
      by_how : (h : CommitEnd) → CoreEnds next old.core new.core h answer → P new.core.history
      by_how (commit_end.Done back) goes = subst (λ (c : Core). P c.history) (sym goes.1) same
      by_how (commit_end.WentOff have total back) goes = subst (λ (c : Core). P c.history) (sym goes.1) same
      by_how commit_end.Dark goes = subst (λ (c : Core). P c.history) (sym (goes.1 ∙ dark_is _ out_none)) dark
      by_how commit_end.Stuck goes = subst (λ (c : Core). P c.history) (sym goes.1) same

  pub settles_history : KeepsHistory old.core.history new.core.history
  settles_history = by_history (λ (log : Log). KeepsHistory old.core.history log) (keeps_same old.core.history old.core.history refl) (history_keeps_cut old.core.history)

  pub sizes_stay : SameSizes old.core new.core
  sizes_stay = by_how how s.goes
    where
      by_how : (h : CommitEnd) → CoreEnds next old.core new.core h answer → SameSizes old.core new.core
      by_how (commit_end.Done back) goes = subst (SameSizes old.core) (sym goes.1) (record { most = refl; buffers = refl })
      by_how (commit_end.WentOff have total back) goes = subst (SameSizes old.core) (sym goes.1) (record { most = refl; buffers = refl })
      by_how commit_end.Dark goes = subst (SameSizes old.core) (sym (goes.1 ∙ dark_is _ out_none)) (record { most = refl; buffers = one_out_long old.core.pool })
      by_how commit_end.Stuck goes = subst (SameSizes old.core) (sym goes.1) (record { most = refl; buffers = one_out_long old.core.pool })

  pub settles_keep : (P : Device → Type 0) → Path DeviceStep P old.device new.device → (run : ℕ) (at_first : Moment) → Keeps run at_first (moment_of old)
      → ((past : List Fact) → RunBegins run past at_first → HistoryHolds past (moment_of old) → (d : Device) → P d → ImagesKept d (past ++ old.core.history.facts)) → Keeps run at_first (moment_of new)
  settles_keep P path run at_first span kept =
      let goes = keeps_path P run at_first old.device new.device old.core.history.facts span kept path in
      by_history (λ (log : Log). Keeps run at_first (at new.device log.facts)) goes (keeps_cut new.device old.core.history run at_first goes)

  pub settles_calm : StaysCalm (moment_of old) (moment_of new)
  settles_calm =
      let same : StaysCalm (moment_of old) (at new.device old.core.history.facts) = λ past calm. calm in
      by_history (λ (log : Log). StaysCalm (moment_of old) (at new.device log.facts)) same (calm_cut new.device old.core.history (moment_of old) same)

  -- ---- the stamps

  pub settles_behind : ((d n : ℕ) (value : Sector) → plan d n value → (write : RecordWrite) × IsOfSession first new.core.status write d n value) → StaysBehind old new
  settles_behind own moment later behind = earlier_stays_behind moment old.device new.device
      (both_map old.device.media new.device.media (λ was is. ChangesBy plan (image_of old.device.sizes was) (image_of new.device.sizes is)) (λ was is. ChangesBy (IsOtherOrEarlier (beginning_at moment)) (image_of old.device.sizes was) (image_of new.device.sizes is)) s.leaves.keeps.media
      (λ m n was is by. changes_more plan (IsOtherOrEarlier (beginning_at moment)) (image_of old.device.sizes m) (image_of new.device.sizes n) (λ d k value it.
      let its = own d k value it in
      inr (record {
        write = its.0;
        frames = its.1.frames;
        earlier = session_is_before_later moment its.0.framed.stamp (subst (λ (e : ℕ). e < moment) (sym (its.1.epoch ∙ ap (λ (t : Stamp). t.epoch) begins.stamp)) later);
        its = its.1.its;
      })) by)) behind

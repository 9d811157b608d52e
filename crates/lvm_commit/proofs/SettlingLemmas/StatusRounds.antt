-- Records of a session's status, one after another.
use Rattle.std.proofs.Common.{◌≡◌, ◌⊎◌, inl, inr, ⊎_elim, ℕ, ◌+◌, ◌<◌, ◌^◌, not, [], None, IsTrue, refl, sym, ◌∙◌, ap, subst, arith}
use Rattle.lvm_num.specs.declared.record.Kind.TheVariants as kind
use Rattle.lvm_num.specs.declared.record.Stamp.{Stamp}
use Rattle.lvm_num.specs.declared.descriptor.Descriptor.{Descriptor}
use Rattle.lvm_num.specs.Buffer.{Buffer, Sector}
use Rattle.lvm_num.specs.Descriptor.{is_member}
use Rattle.lvm_num.specs.Status.{calls_missing, IsValidStatus}
use Rattle.lvm_num.specs.StatusBytes.{status_bytes}
use Rattle.lvm_num.specs.Record.{Frames}
use Rattle.lvm_num.specs.Votes.{votes_in, is_enough_to_write, CanWrite}
use Rattle.lvm_disk.specs.Device.{Device, IsReady, HasSectors, image_of}
use Rattle.lvm_disk.specs.Paths.{DeviceStep, Path, Here}
use Rattle.lvm_disk.proofs.PathsLemmas.{append-path, map-path, last-path}
use Rattle.lvm_disk.proofs.CountingLemmas.{none_falls_at_once}
use Rattle.lvm_kept.specs.Plans.{ChangesBy}
use Rattle.lvm_kept.specs.Contents.{contents_of}
use Rattle.lvm_status.specs.Update.{Stored, members_there}
use Rattle.lvm_status.specs.passed.Status.{SameMissing}
use Rattle.lvm_steps.specs.Moments.{StaysKept}
use Rattle.lvm_status.proofs.RunsLemmas.Sound.{and_left, not_false}
use Rattle.lvm_steps.proofs.RecordLemmas.{clash, second}
use Rattle.lvm_rec.specs.declared.homes.Homes.{Homes}
use Rattle.lvm_write.proofs.PartsLemmas.Transfers.{keeps_here, spends_none as none_waited}
use Rattle.lvm_write.proofs.WrittenLemmas.Writing.{if_told}
use Rattle.lvm_commit.specs.declared.commit.CommitEnd.{CommitEnd}
use Rattle.lvm_commit.specs.Committed.{next_stamp}
use Rattle.lvm_commit.specs.LawsOfFinding.{FindsNothingNew, FindsNothingNewOn}
use Rattle.lvm_commit.proofs.RoundsLemmas.Leaving.{wants_marks, round_left, left_same_as, left_then}
use Rattle.lvm_commit.specs.Settling.{there, IsForgotten, MarksLeft, MaySettle, HasNumbers, IsOf, HasLostQuorum, SpendsNumbers, WasCommitted, StaysCommitted, IsOfStatus, IsOneRecord, IsPlain, WantsMarks, SessionIsHeld, StatusStaysKept, StatusFindsNothingNew, ComesBack}
use Rattle.lvm_commit.specs.Rounds.{MarksRound, stamped, session_write, WasTried, HasFew, RecordGives}
use Rattle.lvm_commit.proofs.LawsOfFindingLemmas.NoMore.{data_finds_nothing_new, then_nothing_new}
use Rattle.lvm_commit.proofs.LawsOfDataLemmas.Still.{still_image}
use Rattle.lvm_commit.proofs.SettlingLemmas.Chaining.{Goes, goes_wider, goes_then, returns_then, loses_same, loses_less, lost_quorum_then, spends_numbers_then, there_then}
use Rattle.lvm_commit.proofs.SettlingLemmas.Round.{quorum_lost}
use Rattle.lvm_commit.proofs.SettlingLemmas.Ready.{may_settle_on, spends_one, spends_none}
use Rattle.lvm_commit.proofs.SettlingLemmas.StatusRound.{stamp_then, round_goes, round_kept, round_finds, round_returns, round_holds, round_loses, round_plain}

-- ---- before the first

-- a still shelf shows what its media does
still_finds : (old : Device) → old.flights ≡ [] → FindsNothingNewOn old old
still_finds old still image may = if_told old.media (λ media. FindsNothingNew (contents_of (image_of old.sizes media)) (contents_of image))
    (λ media told. data_finds_nothing_new (image_of old.sizes media) image (still_image old media told still image may))

-- some member that wasn't missing is
abbrev pub Lost : Stored → Stored → Type 0
Lost first now = (d : ℕ) × IsTrue (there first d) × IsTrue (calls_missing now.wanted d)

-- nothing was written yet
pub record IsFresh (first now : Stored) (slots next : Homes) (old mid : Device) : Type 0 where
  pub same : now ≡ first
  pub slots_are : next ≡ slots
  pub device : mid ≡ old

-- or the last record failed nowhere, or each lost a member
pub record IsOn (first now : Stored) (slots : Homes) (old mid : Device) : Type 0 where
  pub plain : IsPlain kind.Status (status_bytes first.wanted) first now slots old mid
  pub spare : (now.committed ≡ now.wanted) ⊎ (SpendsNumbers 0 first now × Lost first now)
  pub came : WasCommitted first now.committed (now.stamp.seq + 1) old mid

-- Some records were written, each of which failed on too few members for the votes to be lost.
pub record AreRounds (d : Descriptor) (number before left : ℕ) (first now : Stored) (slots next : Homes) (old mid : Device) (buf : Buffer) : Type 0 where
  pub may : MaySettle d now mid
  pub goes : Goes (IsOfStatus first now) before left first now old mid
  pub returns : ComesBack number now old mid buf
  pub numbers : SpendsNumbers 1 first now
  pub stage : IsFresh first now slots next old mid ⊎ IsOn first now slots old mid
  pub leaving : MarksLeft d first now
  pub forgotten : IsForgotten first → IsForgotten now
  pub marks : WantsMarks old d first → SessionIsHeld old d first slots → WantsMarks mid d now
  pub held : (group : Descriptor) → IsOf group first → SessionIsHeld old group first slots → SessionIsHeld mid group now next
  pub finds : StatusFindsNothingNew first slots old mid
  pub kept : StatusStaysKept d first slots old mid

spends_at : (more : ℕ) (u : Stored) → SpendsNumbers more u u
spends_at more u = record { epoch = refl; rises = omega arith; most = omega arith }

pub no_rounds : (d : Descriptor) (patience : ℕ) (first : Stored) (slots : Homes) (old : Device) (buf : Buffer) → MaySettle d first old → IsReady old → AreRounds d buf.number patience patience first first slots slots old old buf
no_rounds d patience first slots old buf may ready = record {
  may = may;
  goes = record { loses = loses_same first first old old refl refl; keeps = keeps_here (there first) (IsOfStatus first first) old; spends = none_waited patience old; rises = none_falls_at_once old.counts };
  returns = record { number_is = refl; ready = ready; cuts = refl; well = λ e is. refl };
  numbers = spends_at 1 first;
  stage = inl (record { same = refl; slots_are = refl; device = refl });
  leaving = left_same_as d first;
  forgotten = λ was. was;
  marks = λ marks held. marks;
  held = λ group own held. held;
  finds = λ group own held. still_finds old ready.flights;
  kept = Here (λ marks held facts kept. kept);
}

-- ---- while something is wanted

module _ (d : Descriptor) (number before left : ℕ) (first now : Stored) (slots next : Homes) (old mid : Device) (buf : Buffer) (rounds : AreRounds d number before left first now slots next old mid buf) (differs : now.committed ≡ now.wanted → ⊥) where
  pub none_spent : SpendsNumbers 0 first now
  none_spent = ⊎_elim (λ fresh. subst (λ (u : Stored). SpendsNumbers 0 first u) (sym fresh.same) (spends_at 0 first)) (λ on. ⊎_elim (λ same. absurd (differs same)) (λ more. more.0) on.spare) rounds.stage

  pub number_left : HasNumbers 1 first → now.stamp.seq + 1 < 2 ^ 32
  number_left has = let most = none_spent.most in omega (arith, has, most)

-- ---- one more

module _ (d : Descriptor) (number before left : ℕ) (first now : Stored) (slots next : Homes) (old mid : Device) (buf : Buffer) (rounds : AreRounds d number before left first now slots next old mid buf) (differs : now.committed ≡ now.wanted → ⊥)
    (sectors : HasSectors mid) (last : Stored) (then : Homes) (new : Device) (after : ℕ) (result : CommitEnd)
    (gives : RecordGives (session_write kind.Status (status_bytes now.wanted) (stamped now) next) buf.number left after (stamped now) last next then mid new result)
    (frames : Frames kind.Status (record { stamp = next_stamp now.stamp; content = status_bytes now.wanted })) (valid : IsValidStatus now.wanted) (round : MarksRound d now last) where
  first_own : IsOf d first
  first_own = rounds.may.own ∙ rounds.goes.loses.group

  spent : SpendsNumbers 0 first now
  spent = none_spent d number before left first now slots next old mid buf rounds differs

  stamp_is : last.stamp ≡ next_stamp now.stamp
  stamp_is = stamp_then d now last next then mid new sectors rounds.may buf.number left after result gives frames valid

  seq_is : last.stamp.seq ≡ now.stamp.seq + 1
  seq_is = ap (λ (s : Stamp). s.seq) stamp_is

  one : Goes (IsOfStatus now last) left after now last mid new
  one = round_goes d now last next then mid new sectors rounds.may buf.number left after result gives frames valid

  -- what was written before is of this session still, and so is what is written now
  earlier : (e s : ℕ) (value : Sector) → IsOfStatus first now e s value → IsOfStatus first last e s value
  earlier e s value (write, states, is) = (
    write,
    states,
    record { frames = is.frames; slots = is.slots; targets = is.targets; epoch = is.epoch; later = is.later; latest = (let most = is.latest in omega (arith, seq_is, most)); its = is.its },
  )

  later : (e s : ℕ) (value : Sector) → IsOfStatus now last e s value → IsOfStatus first last e s value
  later e s value (write, states, is) = (
    write,
    record { kind = states.kind; status = states.status; own = states.own ∙ ap (λ (g : Descriptor). g.id) rounds.goes.loses.group; content = states.content },
    record {
      frames = is.frames;
      slots = is.slots;
      targets = λ disk on. loses_less first now old mid rounds.goes.loses disk (is.targets disk on);
      epoch = is.epoch ∙ spent.epoch;
      later = (let rises = spent.rises in let next_one = is.later in omega (arith, rises, next_one));
      latest = is.latest;
      its = is.its;
    },
  )

  pub more_goes : Goes (IsOfStatus first last) before after first last old new
  more_goes = goes_then (IsOfStatus first last) before left after first now last old mid new (goes_wider (IsOfStatus first now) (IsOfStatus first last) before left first now old mid earlier rounds.goes)
      (goes_wider (IsOfStatus now last) (IsOfStatus first last) left after now last mid new later one)

  pub more_numbers : SpendsNumbers 1 first last
  more_numbers = spends_numbers_then 0 1 first now last spent (spends_one now last mid new one.loses stamp_is)

  pub more_kept : StatusStaysKept d first slots old new
  more_kept = append-path rounds.kept
      (map-path (λ (e : Device). WantsMarks old d first → SessionIsHeld old d first slots → StaysKept old e)
      (λ e goes marks held facts kept.
      goes (rounds.marks marks held) (rounds.held d first_own held) facts (last-path rounds.kept marks held facts kept))
      (round_kept d now last next then mid new sectors rounds.may buf.number left after result gives frames valid))

  pub more_forgotten : IsForgotten first → IsForgotten last
  more_forgotten was = round.forgotten (rounds.forgotten was)

  pub more_left : MarksLeft d first last
  more_left = left_then d first now last rounds.may.valid (loses_less first now old mid rounds.goes.loses) (loses_less now last mid new one.loses) rounds.leaving
      (round_left d now last rounds.may.valid round (loses_less now last mid new one.loses))

  pub more_finds : StatusFindsNothingNew first slots old new
  more_finds group own held =
      then_nothing_new old mid new (λ was is. ChangesBy (IsOfStatus first now) (image_of old.sizes was) (image_of mid.sizes is)) rounds.goes.keeps.media
      (round_finds d now last next then mid new sectors rounds.may buf.number left after result gives frames valid group (rounds.held group own held)) (rounds.finds group own held)

  abbrev Way : Device → Device → Type 0
  Way a b = Path DeviceStep (λ e. Unit {0}) a b

  gone_on : Way mid new
  gone_on = map-path (λ e. Unit {0}) (λ e is. tt) gives.leaves.moments

  -- what was committed before the record still is, if it wasn't committed by it
  pub more_committed : last.committed ≡ now.committed → StaysCommitted first last old new
  more_committed same = ⊎_elim
      (λ fresh. inl (same ∙ ap (λ (u : Stored). u.committed) fresh.same))
      (λ on. let came = on.came in inr (record {
        write = came.write;
        kind = came.kind;
        content = came.content ∙ ap status_bytes (sym same);
        epoch = came.epoch;
        later = came.later;
        earlier = (let e = came.earlier in omega (arith, e, seq_is));
        members = came.members;
        votes = came.votes;
        moment = came.moment;
        before = came.before;
        after = append-path came.after gone_on;
        stands = came.stands;
      }))
      rounds.stage

  -- no number was spent but for a member
  lost_more : Lost now last → SpendsNumbers 0 first last
  lost_more lost = spends_numbers_then 0 0 first now last spent (spends_none now last mid new one.loses stamp_is lost.0 lost.1 lost.2)

  module _ (back : Buffer) (tried : WasTried (session_write kind.Status (status_bytes now.wanted) (stamped now) next) buf.number (stamped now) last next then mid new back) where
    pub more_returns : ComesBack number last old new back
    more_returns = returns_then number now last old mid new buf back (loses_less now last mid new one.loses) rounds.returns
        (round_returns d now last next then mid new sectors rounds.may buf.number left after result gives frames valid back tried)

    -- the votes are lost
    pub more_lost : (have total : ℕ) → HasFew last have total → HasLostQuorum first last old new have total
    more_lost have total few =
        let lost = quorum_lost (session_write kind.Status (status_bytes now.wanted) (stamped now) next) buf.number (stamped now) last next then mid new refl back tried rounds.may.votes have total few in
        lost_quorum_then first now last old mid new have total rounds.goes.loses rounds.goes.rises
        (record { have_is = lost.have_is; total_is = lost.total_is; few = lost.few; disk = lost.disk; was = lost.was; failed = lost.failed })

    its_loss : (last.wanted ≡ now.wanted) ⊎ Lost now last
    its_loss = round_loses d now last next then mid new sectors rounds.may buf.number left after result gives frames valid back tried

    pub lost_spends : (have total : ℕ) → HasFew last have total → SpendsNumbers 0 first last
    lost_spends have total few = ⊎_elim
        (λ same.
        let there_same : there last ≡ there now = (λ t. members_there (one.loses.group t) (same t)) in
        absurd (clash (is_enough_to_write now.group (votes_in now.group (there now))) rounds.may.votes
        (sym (λ t. is_enough_to_write (one.loses.group t) (votes_in (one.loses.group t) (there_same t))) ∙ ap (is_enough_to_write last.group) (sym few.have_is) ∙ few.few)))
        (λ lost. lost_more lost)
        its_loss

    -- it is committed, and goes on
    module _ (idle : last.in_flight ≡ None) (same : last.committed ≡ now.wanted) (votes : CanWrite last.group (there last)) where
      more_spare : (last.committed ≡ last.wanted) ⊎ (SpendsNumbers 0 first last × Lost first last)
      more_spare = ⊎_elim (λ still. inl (same ∙ sym still)) (λ lost. inr (lost_more lost, (lost.0, loses_less first now old mid rounds.goes.loses lost.0 lost.1, lost.2))) its_loss

      -- where a member has become missing, not the same are
      not_same : Lost first last → SameMissing first.wanted last.wanted → ⊥
      not_same lost missing = clash (calls_missing first.wanted lost.0) (sym (missing lost.0) ∙ lost.2) (not_false (calls_missing first.wanted lost.0) (second (is_member first.group lost.0) (not (calls_missing first.wanted lost.0)) lost.1))

      first_plain : IsFresh first now slots next old mid → IsPlain kind.Status (status_bytes first.wanted) first last slots old new
      first_plain fresh missing =
          let still : last.wanted ≡ now.wanted = ⊎_elim (λ is. is) (λ lost. absurd (not_same (lost.0, loses_less first now old mid rounds.goes.loses lost.0 lost.1, lost.2) missing)) its_loss in
          subst (λ (u : Stored). IsOneRecord kind.Status (status_bytes u.wanted) u last slots old new) fresh.same
          (subst (λ (h : Homes). IsOneRecord kind.Status (status_bytes now.wanted) now last h old new) fresh.slots_are
          (subst (λ (e : Device). IsOneRecord kind.Status (status_bytes now.wanted) now last next e new) fresh.device
          (round_plain d now last next then mid new sectors rounds.may buf.number left after result gives frames valid back tried still)))

      more_plain : IsPlain kind.Status (status_bytes first.wanted) first last slots old new
      more_plain = ⊎_elim
          first_plain
          (λ on. ⊎_elim (λ done. absurd (differs done)) (λ more missing. absurd (not_same (more.1.0, more.1.1, one.loses.stays more.1.0 more.1.2) missing)) on.spare)
          rounds.stage

      -- it is by this record that it is committed
      more_came : WasCommitted first last.committed (last.stamp.seq + 1) old new
      more_came = record {
        write = session_write kind.Status (status_bytes now.wanted) (stamped now) next;
        kind = refl;
        content = ap status_bytes (sym same);
        epoch = spent.epoch;
        later = (let rises = spent.rises in omega (arith, rises));
        earlier = omega (arith, seq_is);
        members = there last;
        votes = subst (λ (g : Descriptor). CanWrite g (there last)) more_goes.loses.group votes;
        moment = new;
        before = append-path (map-path (λ e. Unit {0}) (λ e is. tt) rounds.kept) gone_on;
        after = Here tt;
        stands = λ d on.
            let two = sym (there_then (session_write kind.Status (status_bytes now.wanted) (stamped now) next) buf.number (stamped now) last next then mid new back refl tried d) ∙ on in
            (tried.each d).stands (and_left (there now d) (not (tried.failed d)) two) (not_false (tried.failed d) (second (there now d) (not (tried.failed d)) two));
      }

      pub more_rounds : AreRounds d number before after first last slots then old new back
      more_rounds = record {
        may = may_settle_on d now last mid new rounds.may one.loses idle (ap (λ (s : Stamp). s.epoch) stamp_is) one.keeps.sizes votes;
        goes = more_goes;
        returns = more_returns;
        numbers = more_numbers;
        stage = inr (record { plain = more_plain; spare = more_spare; came = more_came });
        leaving = more_left;
        forgotten = more_forgotten;
        marks = λ marks held. wants_marks d now last rounds.may.valid round now.wanted one.loses.stale one.loses.dirty refl same new then
            (round_holds d now last next then mid new sectors rounds.may buf.number left after result gives frames valid back tried same d rounds.may.own (rounds.held d first_own held));
        held = λ group own held. round_holds d now last next then mid new sectors rounds.may buf.number left after result gives frames valid back tried same group (own ∙ sym rounds.goes.loses.group) (rounds.held group own held);
        finds = more_finds;
        kept = more_kept;
      }

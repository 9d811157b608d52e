-- Counts of faults rise.
use Rattle.std.proofs.Common.{◌≡◌, ◌⊎◌, inl, inr, ◌≤◌, ℕ, true, List, Option, arith}
use Rattle.lvm_num.specs.declared.place.Pp.{Pp}
use Rattle.lvm_num.proofs.Lists.{all_weaker}
use Rattle.lvm_disk.specs.Counts.{Counts, Rose}
use Rattle.lvm_disk.specs.Device.{Media}
use Rattle.lvm_vol.specs.declared.entry.Outcome.{Outcome}
use Rattle.lvm_vol.specs.declared.entry.Outcome.TheVariants as outcome
use Rattle.lvm_path.specs.declared.target.Target.{Target}
use Rattle.lvm_path.specs.Targets.{is_failed}
use Rattle.lvm_session.specs.declared.bringing.OpenCopy.{OpenCopy}
use Rattle.lvm_session.specs.declared.open.Open.{Open}
use Rattle.lvm_session.specs.State.{Core, State, state}
use Rattle.lvm_session.specs.Judging.{copies_in}
use Rattle.lvm_session.specs.Causes.{AreCaused, AreCounted, FailedSince, TargetHasFailed, HaveSourcesFailed, IsAnswered, IsCaused, IsCausedAmong, IsCounted, IsLandedFor, IsTrueToOrigin, faults_at_first, faults_at_opening, OwnFailedSinceOpening, own_faults}
use Rattle.lvm_session.specs.Sound.{IsSound}
use Rattle.lvm_keeps.proofs.RequestsLemmas.{if_on}
use Rattle.lvm_keeps_events.specs.Ends.{CountsKeep}

-- what rose has risen still where more is counted
pub rose_on : (before now later : ℕ) → now ≤ later → Rose before now → Rose before later
rose_on before now later more rose = let a = rose.later in let b = rose.risen in record { later = omega (arith, a, more); risen = omega (arith, b, more) }

-- a count that rose has risen since any time before
pub rose_since : (earlier before now : ℕ) → earlier ≤ before → Rose before now → Rose earlier now
rose_since earlier before now less rose = let a = rose.later in let b = rose.risen in record { later = omega (arith, a, less); risen = omega (arith, b, less) }

module _ (s : State) (media : Option Media) (counts : Counts) (sound : IsSound s) (more : (disk : ℕ) → s.device.counts.faults disk ≤ counts.faults disk) where
  abbrev core : Core
  core = s.core

  abbrev now : State
  now = state (record s.device { media = media; counts = counts }) s.core

  failed_on : (t : Target) → TargetHasFailed s.device t → TargetHasFailed now.device t
  failed_on t rose = rose_on t.faults (s.device.counts.faults t.pp.disk) (counts.faults t.pp.disk) (more t.pp.disk) rose

  since_on : (disk : ℕ) → FailedSince s disk → FailedSince now disk
  since_on disk rose = rose_on (faults_at_first core disk) (s.device.counts.faults disk) (counts.faults disk) (more disk) rose

  landed_on : (o : Open) (how : Outcome) → IsLandedFor s o how → IsLandedFor now o how
  landed_on o outcome.Done why = why
  landed_on o outcome.Got why = why
  landed_on o outcome.Lost why = (why.0, all_weaker (λ (t : Target). t.usable ≡ true → TargetHasFailed s.device t) (λ (t : Target). t.usable ≡ true → TargetHasFailed now.device t) (λ t its can. failed_on t (its can)) o.request.targets.items why.1)
  landed_on o outcome.ReadFailed why = (why.0, all_weaker (λ (t : Target). (is_failed t.state ≡ true) × TargetHasFailed s.device t) (λ (t : Target). (is_failed t.state ≡ true) × TargetHasFailed now.device t) (λ t its. (its.0, failed_on t its.1)) o.request.targets.items why.1)
  landed_on o outcome.NoFresh (inl why) = inl (why.0, since_on why.0 why.1)
  landed_on o outcome.NoFresh (inr why) = inr why
  landed_on o outcome.Off why = why
  landed_on o outcome.Dark why = why

  counted_on : (t : Target) → IsCounted s t → IsCounted now t
  counted_on t its = let since = its.since in let rest = more t.pp.disk in record { began = its.began; since = omega (arith, since, rest) }

  copy_on : (copies : List Pp) (c : OpenCopy) → IsCausedAmong s copies c → IsCausedAmong now copies c
  copy_on copies c its = record {
    began = its.began;
    since = λ number p at. let since = its.since number p at in let rest = more p.disk in omega (arith, since, rest);
    tried = λ number p at tried. rose_on (faults_at_opening c number) (s.device.counts.faults p.disk) (counts.faults p.disk) (more p.disk) (its.tried number p at tried);
    own_began = its.own_began;
    own_since = let since = its.own_since in let rest = more c.pp.disk in omega (arith, since, rest);
    failed = λ e. of (its.failed e);
  }
    where
      sources : HaveSourcesFailed s copies c → HaveSourcesFailed now copies c
      sources all = record {
        each = λ number p at is. rose_on (faults_at_opening c number) (s.device.counts.faults p.disk) (counts.faults p.disk) (more p.disk) (all.each number p at is);
        number = all.number;
        source = all.source;
        source_is = all.source_is;
        other = all.other;
        one = rose_on (faults_at_opening c all.number) (s.device.counts.faults all.source.disk) (counts.faults all.source.disk) (more all.source.disk) all.one;
      }

      of : OwnFailedSinceOpening s.device c ⊎ HaveSourcesFailed s copies c → OwnFailedSinceOpening now.device c ⊎ HaveSourcesFailed now copies c
      of (inl own) = inl (rose_on (own_faults c) (s.device.counts.faults c.pp.disk) (counts.faults c.pp.disk) (more c.pp.disk) own)
      of (inr all) = inr (sources all)

  origin : IsTrueToOrigin now
  origin = let was = sound.origin in record {
    since = λ disk. let low = was.since disk in let rest = more disk in omega (arith, low, rest);
    votes = was.votes;
    rows = was.rows;
    still_missing = was.still_missing;
    missing = λ disk gone. of_missing disk (was.missing disk gone);
    stale = λ p is. of_stale p (was.stale p is);
  }
    where
      of_missing : (disk : ℕ) {a : Type 0} → a ⊎ FailedSince s disk → a ⊎ FailedSince now disk
      of_missing disk (inl x) = inl x
      of_missing disk (inr rose) = inr (since_on disk rose)

      of_stale : (p : Pp) {a b : Type 0} → a ⊎ b ⊎ FailedSince s p.disk → a ⊎ b ⊎ FailedSince now p.disk
      of_stale p (inl x) = inl x
      of_stale p (inr (inl x)) = inr (inl x)
      of_stale p (inr (inr rose)) = inr (inr (since_on p.disk rose))

  pub keeps : IsSound now
  keeps = record {
    fitting = sound.fitting;
    told = sound.told;
    placed = sound.placed;
    buffers = sound.buffers;
    none_lost = sound.none_lost;
    on = λ e. let was = sound.on e in record {
      going = was.going;
      rows = was.rows;
      caused = all_weaker (AreCaused s.device core) (AreCaused now.device core) (λ x all waiting. all_weaker (IsCaused s.device core) (IsCaused now.device core) (λ t why f. failed_on t (why f)) x.request.targets.items (all waiting)) core.requests was.caused;
      chosen = was.chosen;
    };
    lit = λ lit. let was = sound.lit lit in record { power = was.power; freed = was.freed };
    dark = λ e. let was = sound.dark e in record { power = was.power; flights = was.flights };
    off = sound.off;
    over = λ e. let was = sound.over e in record { landed = was.landed; copy = was.copy; flights = was.flights; flying = was.flying };
    stuck = sound.stuck;
    counted = all_weaker (AreCounted s) (AreCounted now) (λ x all. all_weaker (IsCounted s) (IsCounted now) counted_on x.request.targets.items all) core.requests sound.counted;
    answered = all_weaker (IsAnswered s) (IsAnswered now) (λ x why. if_on (IsLandedFor s x) (IsLandedFor now x) (landed_on x) x.landed why) core.requests sound.answered;
    copy = if_on (λ (c : OpenCopy). IsCausedAmong s (copies_in core.descriptor c.lv c.lp) c) (λ (c : OpenCopy). IsCausedAmong now (copies_in core.descriptor c.lv c.lp) c) (λ c. copy_on (copies_in core.descriptor c.lv c.lp) c) core.copy sound.copy;
    origin = origin;
  }

pub counts_keep : CountsKeep
counts_keep s media counts sound more = keeps s media counts sound more

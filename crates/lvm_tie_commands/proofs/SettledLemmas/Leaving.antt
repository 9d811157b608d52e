-- A tied session at rest is settled.
use Rattle.std.proofs.Common.{◌≡◌, ℕ, ◌+◌, Bool, true, false, ◌||◌, if◌then◌else◌, List, [], ◌∷◌, Option, Some, None, length, replicate, refl, sym, ap, subst, ◌∙◌}
use Rattle.std.specs.Prelude.{IfSome, count_by, slice_index_or}
use Rattle.lvm_num.specs.declared.descriptor.Descriptor.{Descriptor}
use Rattle.lvm_num.specs.declared.record.Kind.TheVariants as kind
use Rattle.lvm_num.specs.Buffer.{Buffer}
use Rattle.lvm_num.specs.DescriptorBytes.{descriptor_of}
use Rattle.lvm_num.specs.Record.{Stamped}
use Rattle.lvm_num.specs.Status.{calls_missing}
use Rattle.lvm_num.specs.Votes.{CanWrite}
use Rattle.lvm_num.proofs.Lists.{all_back}
use Rattle.lvm_vol.specs.Facts.{Fact}
use Rattle.lvm_vol.specs.Legal.{Legal}
use Rattle.lvm_rec.specs.Slots.{newest_on}
use Rattle.lvm_disk.specs.Device.{Flight, Image, Media, image_of}
use Rattle.lvm_kept.specs.Contents.{contents_of, descriptor_on, has_records}
use Rattle.lvm_kept.specs.Kept.{Kept}
use Rattle.lvm_steps.specs.Moments.{HistoryHolds}
use Rattle.lvm_commit.specs.Committed.{HoldsCommitted}
use Rattle.lvm_crash.proofs.LawsLemmas.Images.{images_kept}
use Rattle.lvm_session.specs.declared.bringing.OpenCopy.{OpenCopy}
use Rattle.lvm_session.specs.declared.flown.Flown.{Flown}
use Rattle.lvm_session.specs.declared.open.Open.{Open}
use Rattle.lvm_session.specs.declared.open.Power.TheVariants as power
use Rattle.lvm_session.specs.State.{Core, State, is_there}
use Rattle.lvm_session.specs.Judging.{is_missing}
use Rattle.lvm_session.specs.Dark.{hand_of_copy}
use Rattle.lvm_session.specs.Owners.{AreRows}
use Rattle.lvm_session.specs.Placed.{ArePlaced}
use Rattle.lvm_session.specs.Sound.{IsOn, IsSound, count_if, has_number, hands_with, is_dark, is_hand, out_with, waits}
use Rattle.lvm_settled.specs.passed.Core.{HaveAllLanded, IsFittingAtRest, HasNothingUnderWay, IsSoundAtRest, IsSettled}
use Rattle.lvm_settled.specs.Settled.{IsKnown}
use Rattle.lvm_tie.specs.Seen.{update_of}
use Rattle.lvm_tie.specs.Spares.{SparesOn}
use Rattle.lvm_tie.specs.Tied.{IsTied, moment_of}
use Rattle.lvm_tie.proofs.TiedLemmas.Tied.{tied_matches}
use Rattle.lvm_tie.specs.Begins.{IsRested, IsCoreAtRest, ShowsIts}
use Rattle.lvm_tie.proofs.BeginsLemmas.Rested.{tied_rests}
use Rattle.lvm_tie_commands.specs.Settled.{IsSettledAfter, MayBeLeft, MayServe, TiedHolds, TiedSettles}
use Rattle.lvm_tie_commands.proofs.CalmLemmas.{calm_since}

-- where no transfer is the session's, none is out
none_out : (core : Core) (rows : List Flown) (flights : List Flight) → AreRows core rows flights → rows ≡ [] → flights ≡ []
none_out core [] [] are none = refl
none_out core [] (f ∷ flights) are none = absurd are
none_out core (row ∷ rows) flights are none = absurd (cc none)

not_counted : (b : Bool) → 0 ≡ count_if b → b ≡ false
not_counted true is = absurd (cc is)
not_counted false is = refl

-- a disk that shows a descriptor is large enough for the records
large_enough : (image : Image) (d : ℕ) (r : Stamped Descriptor) → descriptor_on image d ≡ Some r → has_records image d ≡ true
unfolding descriptor_on
large_enough image d r shown = by (has_records image d) refl shown
  where
    by : (b : Bool) → has_records image d ≡ b → (if b then newest_on descriptor_of kind.Descriptor (image.sector d) else None) ≡ Some r → has_records image d ≡ true
    by true large shown = large
    by false small shown = absurd (cc shown)

-- ---- what its disks hold

module _ (past : List Fact) (s : State) (tied : IsTied past s) (resting : IsCoreAtRest s.core) (votes : CanWrite s.core.descriptor (is_there s.core)) (spares : SparesOn s.core tied.media) where
  left : (shows : ShowsIts s tied.media) × IsRested past s tied.media shows
  left = tied_rests past s tied resting votes

  pub its_disks_hold : HoldsCommitted (image_of s.device.sizes tied.media) s.core.descriptor s.core.status.committed (is_there s.core) s.core.status.stamp s.core.homes
  its_disks_hold = record {
    shows = left.0;
    stamps = tied.recorded.next.before;
    there = λ d there. large_enough (image_of s.device.sizes tied.media) d left.0.descriptor (left.0.described d there);
    homes = λ d there. record {
      descriptor = spares d there;
      status = tied.recorded.next.spare d there (let idle = (tied.orderly.sound.on tied.orderly.on).going.status.idle resting.in_flight d in λ t. idle.0 t || idle.1 t);
    };
  }

  pub its_rest : IsRested past s tied.media its_disks_hold.shows
  unfolding its_disks_hold
  its_rest = left.1

pub tied_holds : TiedHolds
tied_holds past s tied resting votes spares =
    let at : SparesOn s.core tied.media = subst (λ (o : Option Media). IfSome o (SparesOn s.core)) tied.setting.told spares in
    subst (λ (o : Option Media). IfSome o (λ media. HoldsCommitted (image_of s.device.sizes media) s.core.descriptor s.core.status.committed (is_there s.core) s.core.status.stamp s.core.homes)) (sym tied.setting.told)
    (its_disks_hold past s tied resting votes at)

-- ---- and what it carries

module _ (past : List Fact) (s : State) (tied : IsTied past s) (may : MayBeLeft past s tied.media) where
  abbrev core : Core
  core = s.core

  abbrev sound : IsSound s
  sound = tied.orderly.sound

  on : IsOn s
  on = sound.on tied.orderly.on

  lit : is_dark core.power ≡ false
  lit = ap is_dark tied.orderly.on

  no_flights : s.device.flights ≡ []
  no_flights = none_out core core.flying s.device.flights on.rows may.resting.flying

  -- ---- its buffers

  none_with : (n : ℕ) → 0 ≡ out_with s.device core n
  none_with n = sym (
      ap (λ (fs : List Flight). count_by (λ (f : Flight). has_number n f.buf) fs + count_by (has_number n) s.device.freed + hands_with core n) no_flights
      ∙ ap (λ (bs : List Buffer). 0 + count_by (has_number n) bs + hands_with core n) (sound.lit lit).freed
      ∙ ap (λ (os : List Open). 0 + 0 + (count_by (λ (o : Open). is_hand n o.got) os + count_if (is_hand n (hand_of_copy core.copy)))) may.resting.requests
      ∙ ap (λ (c : Option OpenCopy). 0 + 0 + (0 + count_if (is_hand n (hand_of_copy c)))) may.resting.copy)

  buffers : core.pool ≡ replicate (length core.pool) false
  buffers = all_back core.pool (λ n. not_counted (slice_index_or core.pool n false) (none_with n ∙ sound.none_lost lit n))

  quiet : HasNothingUnderWay core
  quiet = record { requests = may.resting.requests; copy = may.resting.copy; status = may.resting.in_flight; notes = may.resting.notes; buffers = buffers }

  -- ---- its requests, and its members

  landed : HaveAllLanded core.history.facts
  landed id = sound.told.each id ∙ ap (λ (os : List Open). waits os id) may.resting.requests

  placed : ArePlaced s.device.sizes core.descriptor core.status.wanted
  placed row among there = sound.placed row among (was_there row.disk there)
    where
      was_there : (disk : ℕ) → is_missing core disk ≡ false → calls_missing core.origin.table disk ≡ false
      was_there disk present = by (calls_missing core.origin.table disk) refl
        where
          by : (b : Bool) → calls_missing core.origin.table disk ≡ b → b ≡ false
          by true missing = absurd (let no : true ≡ false = sym (sound.origin.still_missing disk missing) ∙ present in cc no)
          by false any = refl

  fitting : IsFittingAtRest core
  fitting = record {
    valid = sound.fitting.valid;
    id = sound.fitting.id;
    rows = sound.fitting.rows;
    group = sound.fitting.group;
    entries = sound.fitting.entries;
    notes = sound.fitting.notes;
    most = sound.fitting.most;
    queue = sound.fitting.queue;
    a_buffer = sound.fitting.a_buffer;
    buffers = sound.fitting.buffers;
    last = sound.fitting.last;
    forgotten = on.going.status.idle;
  }

  between : IsSoundAtRest s
  between = record {
    fitting = fitting;
    none = record { requests = may.resting.requests; copy = may.resting.copy };
    landed = landed;
    placed = placed;
    buffers = sound.buffers;
    none_lost = sound.none_lost;
    quiet = λ none. no_flights;
    lit = sound.lit;
    dark = sound.dark;
    heard = λ stuck. let e : power.On ≡ power.Stuck = sym tied.orderly.on ∙ stuck in cc;
  }

  -- ---- what is known, and what it carries

  settled : IsSettled core
  settled = record { power = tied.orderly.on; quiet = quiet; committed = may.resting.committed; epoch = tied.recorded.next.some_epoch; votes = may.votes }

  holds : HistoryHolds past (moment_of s)
  holds = record {
    legal = subst Legal tied.sees.facts tied.good.told.legal;
    kept = λ image left. subst (Kept (contents_of image)) tied.sees.facts
        (images_kept tied.votes tied.view core.descriptor (update_of core.status) s.device tied.media image tied.setting.are_votes tied.good (tied_matches past s tied) left);
  }

  known : IsKnown past s tied.media
  known = record { told = tied.setting.told; sound = between; settled = settled; held = its_disks_hold past s tied may.resting may.votes may.spare; holds = holds; only = may.only }

  rested : IsRested past s tied.media (its_disks_hold past s tied may.resting may.votes may.spare).shows
  rested = its_rest past s tied may.resting may.votes may.spare

  pub settles : IsSettledAfter past s tied.media × MayServe s tied.media
  unfolding known
  settles = (
    record {
      known = known;
      carried = record { calm = calm_since core.history.run past core.history.facts holds.legal may.calm sound.told.ordered landed; even = rested.rest.even; behind = rested.rest.behind };
    },
    record { sound = sound; sectors = tied.recorded.next.whole; epoch = tied.recorded.next.epoch; notes = rested.notes; members = tied.recorded.members },
  )

pub tied_settles : TiedSettles
tied_settles past s tied may = settles past s tied may

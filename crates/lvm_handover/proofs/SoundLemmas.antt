-- A session of requests at which nothing is under way is sound between commands.
use Rattle.std.proofs.Common.{◌≡◌, ℕ, ◌+◌, Bool, true, false, List, [], ◌∷◌, Option, length, replicate, refl, sym, ap, ◌∙◌}
use Rattle.std.specs.Prelude.{count_by, slice_index_or}
use Rattle.lvm_num.specs.Buffer.{Buffer}
use Rattle.lvm_num.specs.Status.{calls_missing}
use Rattle.lvm_num.proofs.Lists.{all_back}
use Rattle.lvm_disk.specs.Device.{Flight}
use Rattle.lvm_session.specs.declared.bringing.OpenCopy.{OpenCopy}
use Rattle.lvm_session.specs.declared.flown.Flown.{Flown}
use Rattle.lvm_session.specs.declared.open.Open.{Open}
use Rattle.lvm_session.specs.declared.open.Power.TheVariants as power
use Rattle.lvm_session.specs.State.{Core, State}
use Rattle.lvm_session.specs.Judging.{is_missing}
use Rattle.lvm_session.specs.Dark.{hand_of_copy}
use Rattle.lvm_session.specs.Owners.{AreRows}
use Rattle.lvm_session.specs.Placed.{ArePlaced}
use Rattle.lvm_session.specs.Sound.{IsSound, count_if, has_number, hands_with, is_dark, is_hand, out_with, waits}
use Rattle.lvm_handover.specs.passed.Core.{HaveAllLanded, HasNoneOpen, IsFittingAtRest, IsSoundAtRest}

-- where no transfer is the session's, none is out
none_out : (core : Core) (rows : List Flown) (flights : List Flight) → AreRows core rows flights → rows ≡ [] → flights ≡ []
none_out core [] [] are none = refl
none_out core [] (f ∷ flights) are none = absurd are
none_out core (row ∷ rows) flights are none = absurd (cc none)

-- and where none is out, none is the session's
pub none_flown : (core : Core) (rows : List Flown) (flights : List Flight) → AreRows core rows flights → flights ≡ [] → rows ≡ []
none_flown core [] flights are none = refl
none_flown core (row ∷ rows) [] are none = absurd are
none_flown core (row ∷ rows) (f ∷ flights) are none = absurd (cc none)

not_counted : (b : Bool) → 0 ≡ count_if b → b ≡ false
not_counted true is = absurd (cc is)
not_counted false is = refl

module _ (s : State) (sound : IsSound s) (on : s.core.power ≡ power.On) (closed : HasNoneOpen s.core) (idle : s.device.flights ≡ []) where
  abbrev core : Core
  core = s.core

  lit : is_dark core.power ≡ false
  lit = ap is_dark on

  -- ---- its buffers

  none_with : (n : ℕ) → 0 ≡ out_with s.device core n
  none_with n = sym (
      ap (λ (fs : List Flight). count_by (λ (f : Flight). has_number n f.buf) fs + count_by (has_number n) s.device.freed + hands_with core n) idle
      ∙ ap (λ (bs : List Buffer). 0 + count_by (has_number n) bs + hands_with core n) (sound.lit lit).freed
      ∙ ap (λ (os : List Open). 0 + 0 + (count_by (λ (o : Open). is_hand n o.got) os + count_if (is_hand n (hand_of_copy core.copy)))) closed.requests
      ∙ ap (λ (c : Option OpenCopy). 0 + 0 + (0 + count_if (is_hand n (hand_of_copy c)))) closed.copy)

  pub buffers_back : core.pool ≡ replicate (length core.pool) false
  buffers_back = all_back core.pool (λ n. not_counted (slice_index_or core.pool n false) (none_with n ∙ sound.none_lost lit n))

  -- ---- its requests, and its members

  landed : HaveAllLanded core.history.facts
  landed id = sound.told.each id ∙ ap (λ (os : List Open). waits os id) closed.requests

  placed : ArePlaced s.device.sizes core.descriptor core.status.wanted
  placed row among there = sound.placed row among (was_there row.disk there)
    where
      was_there : (disk : ℕ) → is_missing core disk ≡ false → calls_missing core.origin.table disk ≡ false
      was_there disk present = by (calls_missing core.origin.table disk) refl
        where
          by : (b : Bool) → calls_missing core.origin.table disk ≡ b → b ≡ false
          by true missing = absurd (let no : true ≡ false = sym (sound.origin.still_missing disk missing) ∙ present in cc no)
          by false any = refl

  fitting : IsFittingAtRest core
  fitting = record {
    valid = sound.fitting.valid;
    id = sound.fitting.id;
    rows = sound.fitting.rows;
    group = sound.fitting.group;
    entries = sound.fitting.entries;
    notes = sound.fitting.notes;
    most = sound.fitting.most;
    queue = sound.fitting.queue;
    a_buffer = sound.fitting.a_buffer;
    buffers = sound.fitting.buffers;
    last = sound.fitting.last;
    forgotten = (sound.on on).going.status.idle;
  }

  pub sound_between : IsSoundAtRest s
  sound_between = record {
    fitting = fitting;
    none = closed;
    landed = landed;
    placed = placed;
    buffers = sound.buffers;
    none_lost = sound.none_lost;
    quiet = λ none. idle;
    lit = sound.lit;
    dark = sound.dark;
    heard = λ stuck. let e : power.On ≡ power.Stuck = sym on ∙ stuck in cc;
  }

-- Where no transfer is the session's, none is out.
pub rest_is_still : (s : State) → IsSound s → s.core.power ≡ power.On → s.core.flying ≡ [] → s.device.flights ≡ []
rest_is_still s sound on none = none_out s.core s.core.flying s.device.flights (sound.on on).rows none

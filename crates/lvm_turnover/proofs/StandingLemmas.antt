-- A session with a next descriptor of the same members, or fewer, and a status of it, is sound.
use Rattle.std.proofs.Common.{◌≡◌, ℕ, Bool, true, false, true≢false, List, [], None, refl, sym, ◌∙◌, ap, subst}
use Rattle.std.specs.Prelude.{Contains}
use Rattle.lvm_num.specs.declared.descriptor.PvRow.{PvRow}
use Rattle.lvm_num.specs.declared.descriptor.Descriptor.{Descriptor}
use Rattle.lvm_num.specs.Descriptor.{IsValid, is_member}
use Rattle.lvm_num.specs.Status.{calls_missing}
use Rattle.lvm_num.specs.Votes.{CanWrite}
use Rattle.lvm_disk.specs.Device.{Device, IsReady}
use Rattle.lvm_status.specs.Members.{HasItsRows}
use Rattle.lvm_status.specs.Update.{Stored, members_there}
use Rattle.lvm_rec.specs.declared.homes.Homes.{Homes}
use Rattle.lvm_mwc.specs.Cache.{Cached, has_disk, flight_on}
use Rattle.lvm_mwc.specs.Entries.{AreEntries}
use Rattle.lvm_write.specs.Written.{IsDarkened, IsGivenUp}
use Rattle.lvm_commit.specs.Settling.{IsForgotten, IsCommitted, OnlyLoses, there}
use Rattle.lvm_commit.proofs.RoundsLemmas.Wanting.{row_stays}
use Rattle.lvm_session.specs.declared.open.Power.TheVariants as power
use Rattle.lvm_session.specs.declared.origin.Origin.{Origin}
use Rattle.lvm_session.specs.State.{Core, State, state}
use Rattle.lvm_session.specs.Dark.{all_dark}
use Rattle.lvm_session.specs.Placed.{IsPlaced, ArePlaced}
use Rattle.lvm_session.specs.Sound.{is_dark}
use Rattle.lvm_core.specs.Sound.{IsFittingAtRest, IsSoundAtRest}
use Rattle.lvm_core.specs.Settled.{IsSettled}
use Rattle.lvm_core.specs.Committing.{with_one_out}
use Rattle.lvm_core.proofs.SoundLemmas.Own.{fits_with, fits_pool, one_out_long, sound_ready, sound_dark, sound_stuck}
use Rattle.lvm_turnover.proofs.OutLemmas.{HasAsMany, is_inside}
use Rattle.lvm_change_laws.proofs.UnsparedLemmas.{unspared_row}

-- The descriptor's members are of the session's, the status is one of it, by which no more of them are there, and the cache has the notes of just these.
pub record Fits (old : State) (d : Descriptor) (u : Stored) (cache : Cached) (sizes : List ℕ) : Type 0 where
  pub valid : IsValid d
  pub own : u.group ≡ record d { lvs = [] }
  pub id : u.wanted.id ≡ d.id
  pub rows : HasItsRows d u.wanted
  pub forgotten : IsForgotten u
  pub inside : (row : PvRow) → Contains d.pvs row → HasAsMany old.core.descriptor.pvs row
  pub mib : d.mib ≡ old.core.descriptor.mib
  pub fewer : (e : ℕ) → is_member d e ≡ true → calls_missing u.wanted e ≡ false → calls_missing old.core.status.wanted e ≡ false
  pub entries : AreEntries cache.entries
  pub notes : (disk : ℕ) → has_disk cache disk ≡ is_member d disk
  pub still : (disk : ℕ) → flight_on cache disk ≡ None
  pub same : sizes ≡ old.device.sizes

module _ (old : State) (d : Descriptor) (u : Stored) (homes : Homes) (cache : Cached) (origin : Origin) (new : Device) (fits : Fits old d u cache new.sizes) (settled_is : IsSettled old.core) (sound : IsSoundAtRest old) where
  abbrev pub base : Core
  base = record old.core { descriptor = d; status = u; homes = homes; cache = cache; origin = origin }

  abbrev pub out : Core
  out = record base { pool = with_one_out old.core.pool }

  fitting : IsFittingAtRest base
  fitting = record {
    valid = fits.valid;
    id = fits.id;
    rows = fits.rows;
    group = fits.own;
    entries = fits.entries;
    notes = fits.notes;
    most = sound.fitting.most;
    queue = sound.fitting.queue;
    a_buffer = sound.fitting.a_buffer;
    buffers = sound.fitting.buffers;
    last = sound.fitting.last;
    forgotten = fits.forgotten;
  }

  placed : ArePlaced new.sizes d u.wanted
  placed row inside there =
      let had = fits.inside row inside in
      let same_disk : had.was.disk ≡ row.disk = ap (λ (r : PvRow). r.disk) had.same in
      let its = same_placed had.was row had.same (sound.placed had.was had.inside (ap (calls_missing old.core.status.wanted) same_disk ∙ fits.fewer row.disk (is_inside d.pvs row inside) there)) in
      subst (λ (sizes : List ℕ). IsPlaced sizes d.mib row) (sym fits.same) (subst (λ (mib : ℕ). IsPlaced old.device.sizes mib row) (sym fits.mib) its)
    where
      -- it is placed whether it is a spare or not
      same_placed : (a b : PvRow) → unspared_row a ≡ unspared_row b → IsPlaced old.device.sizes old.core.descriptor.mib a → IsPlaced old.device.sizes old.core.descriptor.mib b
      same_placed a b same is =
          let row : IsPlaced old.device.sizes old.core.descriptor.mib (unspared_row b) = subst (IsPlaced old.device.sizes old.core.descriptor.mib) same (record { there = is.there; within = is.within }) in
          record { there = row.there; within = row.within }

  lit : is_dark old.core.power ≡ false
  lit = ap is_dark settled_is.power

  not_stuck : old.core.power ≡ power.Stuck → ⊥
  not_stuck stuck = absurd (let e : power.On ≡ power.Stuck = sym settled_is.power ∙ stuck in cc)

  fits_out : IsFittingAtRest out
  fits_out = fits_pool base (with_one_out old.core.pool) (one_out_long old.core.pool) fitting

  pub sound_on : IsReady new → IsSoundAtRest (state new base)
  sound_on ready = sound_ready new base fitting (record { requests = settled_is.quiet.requests; copy = settled_is.quiet.copy }) sound.landed placed settled_is.quiet.buffers lit not_stuck ready

  pub sound_off : IsReady new → IsSoundAtRest (state new (record base { power = power.Off }))
  sound_off ready = sound_ready new (record base { power = power.Off }) (fits_with base base.history base.pool power.Off refl fitting) (record { requests = settled_is.quiet.requests; copy = settled_is.quiet.copy }) sound.landed placed settled_is.quiet.buffers refl
      (λ stuck. absurd (let e : power.Off ≡ power.Stuck = stuck in cc)) ready

  pub sound_cut : (from : Device) → IsDarkened 0 from new → IsSoundAtRest (state new (all_dark out))
  sound_cut from cut = sound_dark from new out old.core.pool fits_out (record { requests = settled_is.quiet.requests; copy = settled_is.quiet.copy }) sound.landed placed refl settled_is.quiet.buffers sound.fitting.a_buffer cut

  pub sound_out : (patience : ℕ) (from : Device) → IsGivenUp 0 patience from new → IsSoundAtRest (state new out)
  sound_out patience from given = sound_stuck patience from new out old.core.pool fits_out (record { requests = settled_is.quiet.requests; copy = settled_is.quiet.copy }) sound.landed placed refl settled_is.quiet.buffers sound.fitting.a_buffer lit not_stuck given

  pub settled_on : IsCommitted u → u.stamp.epoch ≡ old.core.status.stamp.epoch → IsSettled base
  settled_on done epoch = record {
    power = settled_is.power;
    quiet = record { requests = settled_is.quiet.requests; copy = settled_is.quiet.copy; status = done.idle; notes = fits.still; buffers = settled_is.quiet.buffers };
    committed = done.same;
    epoch = λ none. settled_is.epoch (sym epoch ∙ none);
    votes = subst (λ (g : Descriptor). CanWrite g (members_there g u.wanted)) fits.own done.votes;
  }

-- a status that only lost members since one that fits, fits
pub fits_by :
    (old : State) (d : Descriptor) (first last : Stored) (cache : Cached) (from to : Device) → IsValid d → ((row : PvRow) → Contains d.pvs row → HasAsMany old.core.descriptor.pvs row) → d.mib ≡ old.core.descriptor.mib → first.group ≡ record d { lvs = [] }
    → first.wanted.id ≡ d.id → HasItsRows d first.wanted → ((e : ℕ) → is_member d e ≡ true → calls_missing old.core.status.wanted e ≡ true → calls_missing first.wanted e ≡ true) → IsForgotten last → OnlyLoses first last from to
    → AreEntries cache.entries → ((disk : ℕ) → has_disk cache disk ≡ is_member d disk) → ((disk : ℕ) → flight_on cache disk ≡ None) → (sizes : List ℕ) → sizes ≡ old.device.sizes → Fits old d last cache sizes
fits_by old d first last cache from to valid inside mib group id rows missing forgotten loses entries notes still sizes same = record {
  valid = valid;
  own = loses.group ∙ group;
  id = loses.rows.id ∙ id;
  rows = λ disk. row_stays first.wanted last.wanted loses.rows disk ∙ rows disk;
  forgotten = forgotten;
  inside = inside;
  mib = mib;
  fewer = λ e member isnt. by_test e member (calls_missing old.core.status.wanted e) refl isnt;
  entries = entries;
  notes = notes;
  still = still;
  same = same;
}
  where
    by_test : (e : ℕ) → is_member d e ≡ true → (b : Bool) → calls_missing old.core.status.wanted e ≡ b → calls_missing last.wanted e ≡ false → calls_missing old.core.status.wanted e ≡ false
    by_test e member true is isnt = absurd (true≢false (sym (loses.stays e (missing e member is)) ∙ isnt))
    by_test e member false is isnt = is

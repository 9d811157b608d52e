-- A session is sound after transfers of its own, whether its buffer is back or out.
use Rattle.std.proofs.Common.{◌≡◌, inl, inr, ℕ, zero, suc, ◌≤◌, ◌+◌, Bool, true, false, List, [], ◌∷◌, length, length-set, replicate, refl, sym, ◌∙◌, ap, subst, arith}
use Rattle.std.specs.Prelude.{count_by, slice_index_or, ◌==◌}
use Rattle.std.proofs.lemmas.Bool.Decides.{nat_tests}
use Rattle.lvm_num.specs.Buffer.{Buffer}
use Rattle.lvm_num.proofs.Lists.{none_out}
use Rattle.lvm_disk.specs.Device.{Device, Flight, IsReady}
use Rattle.lvm_vol.specs.Log.{Log}
use Rattle.lvm_write.specs.Written.{FreesAtMost, IsDarkened, IsGivenUp}
use Rattle.lvm_session.specs.declared.open.Power.{Power}
use Rattle.lvm_session.specs.declared.session.Session.{Session}
use Rattle.lvm_session.specs.Fields.{core_of}
use Rattle.lvm_session.specs.Rooms.{HasRooms, SameRooms}
use Rattle.lvm_session.specs.State.{Core, state}
use Rattle.lvm_session.specs.Dark.{all_dark}
use Rattle.lvm_session.specs.Placed.{ArePlaced}
use Rattle.lvm_session.specs.Sound.{count_if, has_number, is_dark, out_with}
use Rattle.lvm_session.specs.declared.open.Power.TheVariants as power
use Rattle.lvm_session.proofs.RoomsLemmas.{rooms_last}
use Rattle.lvm_core.specs.Sound.{HasNoneOpen, HaveAllLanded, IsFittingAtRest, IsSoundAtRest}
use Rattle.lvm_core.specs.Committing.{with_one_out}
use Rattle.lvm_core.proofs.SoundLemmas.Dark.{cut_core, cut_fits, fits_again, cut_landed, dark_is, on_shelf, out_is}

-- the parts fit with a pool of as many buffers, whatever was entered, and whether the session is on or off
pub fits_with : (core : Core) (log : Log) (pool : List Bool) (on : Power) → length pool ≡ length core.pool → IsFittingAtRest core → IsFittingAtRest (record core { history = log; pool = pool; power = on })
fits_with core log pool on long fits = fits_again core log core.requests core.copy core.flying pool on long fits

pub fits_pool : (core : Core) (pool : List Bool) → length pool ≡ length core.pool → IsFittingAtRest core → IsFittingAtRest (record core { pool = pool })
fits_pool core pool long fits = fits_with core core.history pool core.power long fits

pub one_out_long : (pool : List Bool) → length (with_one_out pool) ≡ length pool
one_out_long pool = length-set pool 0 true

-- ---- the rooms

-- the table has the room that it had, and the pool its buffers
pub record SameSizes (old new : Core) : Type 0 where
  pub most : new.most ≡ old.most
  pub buffers : length new.pool ≡ length old.pool

pub same_sizes : (core : Core) → SameSizes core core
same_sizes core = record { most = refl; buffers = refl }

pub rooms_stay : (old new : Session) → HasRooms old → SameRooms old new → SameSizes (core_of old) (core_of new) → HasRooms new
rooms_stay old new has same sizes = rooms_last old new has same sizes.most sizes.buffers

-- ---- the buffers

all_in : (pool : List Bool) (n : ℕ) → pool ≡ replicate (length pool) false → slice_index_or pool n false ≡ false
all_in pool n all = ap (λ (p : List Bool). slice_index_or p n false) all ∙ none_out (length pool) n

first_out : (pool : List Bool) → 1 ≤ length pool → slice_index_or (with_one_out pool) 0 false ≡ true
first_out [] some = absurd (omega (arith, some))
first_out (b ∷ rest) some = refl

others_in : (pool : List Bool) (n : ℕ) → slice_index_or (with_one_out pool) (suc n) false ≡ slice_index_or pool (suc n) false
others_in [] n = refl
others_in (b ∷ rest) n = refl

none_with : (device : Device) → device.flights ≡ [] → device.freed ≡ [] → (n : ℕ) → on_shelf device n ≡ 0
none_with device none nothing n =
    ap (λ fs. count_by (λ (f : Flight). has_number n f.buf) fs + count_by (has_number n) device.freed) none
    ∙ ap (λ bs. 0 + count_by (has_number n) bs) nothing

no_more : (k : ℕ) → 0 + (0 + k) ≡ k
no_more k = omega arith

no_less : (k : ℕ) → (0 + k) + 0 ≡ k
no_less k = omega arith

-- only one of number 0 may be out
one_counted : (buf : Buffer) (pool : List Bool) (n : ℕ) → buf.number ≡ 0 → 1 ≤ length pool → pool ≡ replicate (length pool) false
    → count_if (has_number n buf) ≡ count_if (slice_index_or (with_one_out pool) n false)
one_counted buf pool zero is some all = ap (λ (k : ℕ). count_if (k == 0)) is ∙ sym (ap count_if (first_out pool some))
one_counted buf pool (suc n) is some all =
    let differ : (0 == suc n) ≡ false = grind (arith, nat_tests) in
    ap (λ (k : ℕ). count_if (k == suc n)) is ∙ ap count_if differ ∙ sym (ap count_if (others_in pool n ∙ all_in pool (suc n) all))

-- ---- nothing is out

pub sound_ready :
    (device : Device) (core : Core) → IsFittingAtRest core → HasNoneOpen core → HaveAllLanded core.history.facts → ArePlaced device.sizes core.descriptor core.status.wanted → core.pool ≡ replicate (length core.pool) false
    → is_dark core.power ≡ false → (core.power ≡ power.Stuck → ⊥) → IsReady device → IsSoundAtRest (state device core)
sound_ready device core fits none landed placed all lit heard ready = record {
  fitting = fits;
  none = none;
  landed = landed;
  placed = placed;
  buffers = λ n. let e = none_with device ready.flights ready.freed n in let its = out_is device core n none in omega (arith, e, its);
  none_lost = λ is n. out_is device core n none ∙ none_with device ready.flights ready.freed n ∙ sym (ap count_if (all_in core.pool n all));
  quiet = λ quiet. ready.flights;
  lit = λ is. record { power = ready.power; freed = ready.freed };
  dark = λ is. absurd (cc (is, lit));
  heard = heard;
}

-- ---- the power was cut

pub sound_dark :
    (old device : Device) (core : Core) (pool : List Bool) → IsFittingAtRest core → HasNoneOpen core → HaveAllLanded core.history.facts → ArePlaced device.sizes core.descriptor core.status.wanted
    → core.pool ≡ with_one_out pool → pool ≡ replicate (length pool) false → 1 ≤ length pool → IsDarkened 0 old device → IsSoundAtRest (state device (all_dark core))
sound_dark old device core pool fits none landed placed is all some cut = subst (λ (c : Core). IsSoundAtRest (state device c)) (sym (dark_is core none)) (record {
  fitting = cut_fits core fits;
  none = record { requests = refl; copy = refl };
  landed = cut_landed core.history landed;
  placed = placed;
  buffers = λ n.
      let its = out_is device (cut_core core) n (record { requests = refl; copy = refl }) in
      let same = ap (λ (p : List Bool). count_if (slice_index_or p n false)) is in
      let most = few n cut.freed in
      omega (arith, its, same, most);
  none_lost = λ lit. absurd (let e : ◌≡◌ {A = Bool} true false = lit in cc);
  quiet = λ quiet. cut.flights;
  lit = λ lit. absurd (let e : ◌≡◌ {A = Bool} true false = lit in cc);
  dark = λ lit. record { power = cut.power; flights = cut.flights };
  heard = λ stuck. absurd (let e : power.Dark ≡ power.Stuck = stuck in cc);
})
  where
    few : (n : ℕ) → FreesAtMost 0 device → on_shelf device n ≤ count_if (slice_index_or (with_one_out pool) n false)
    few n (inl none) = let e = none_with device cut.flights none n in omega (arith, e)
    few n (inr (buf, one, number)) =
        let e : on_shelf device n ≡ count_if (slice_index_or (with_one_out pool) n false) =
        ap (λ fs. count_by (λ (f : Flight). has_number n f.buf) fs + count_by (has_number n) device.freed) cut.flights
        ∙ ap (λ bs. 0 + count_by (has_number n) bs) one
        ∙ no_more (count_if (has_number n buf))
        ∙ one_counted buf pool n number some all
        in
        omega (arith, e)

-- ---- a transfer is out

pub sound_stuck :
    (patience : ℕ) (old device : Device) (core : Core) (pool : List Bool) → IsFittingAtRest core → HasNoneOpen core → HaveAllLanded core.history.facts → ArePlaced device.sizes core.descriptor core.status.wanted
    → core.pool ≡ with_one_out pool → pool ≡ replicate (length pool) false → 1 ≤ length pool → is_dark core.power ≡ false
    → (core.power ≡ power.Stuck → ⊥) → IsGivenUp 0 patience old device → IsSoundAtRest (state device core)
sound_stuck patience old device core pool fits none landed placed is all some lit heard out = record {
  fitting = fits;
  none = none;
  landed = landed;
  placed = placed;
  buffers = λ n. let e = one n in omega (arith, e);
  none_lost = λ on n. one n;
  quiet = λ quiet. absurd (let inside = all_in core.pool 0 quiet.buffers in let gone = ap (λ (p : List Bool). slice_index_or p 0 false) is ∙ first_out pool some in cc (inside, gone));
  lit = λ on. record { power = out.power; freed = out.freed };
  dark = λ dark. absurd (cc (dark, lit));
  heard = heard;
}
  where
    one : (n : ℕ) → out_with device core n ≡ count_if (slice_index_or core.pool n false)
    one n =
        out_is device core n none
        ∙ ap (λ fs. count_by (λ (f : Flight). has_number n f.buf) fs + count_by (has_number n) device.freed) out.flights
        ∙ ap (λ bs. (0 + count_if (has_number n out.flight.buf)) + count_by (has_number n) bs) out.freed
        ∙ no_less (count_if (has_number n out.flight.buf))
        ∙ one_counted out.flight.buf pool n out.buffer some all
        ∙ ap (λ (p : List Bool). count_if (slice_index_or p n false)) (sym is)

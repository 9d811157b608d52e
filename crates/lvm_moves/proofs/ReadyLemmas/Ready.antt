-- What a sound session that is on is ready for.
use Rattle.std.proofs.Common.{◌≡◌, ◌⊎◌, inl, inr, ◌≤◌, ◌<◌, ◌+◌, ℕ, suc, Bool, true, false, ◌&&◌, List, [], ◌∷◌, Option, Some, None, length, map, is_some, if◌then◌else◌, refl, sym, ◌∙◌, ap, arith}
use Rattle.std.specs.Prelude.{count_by, slice_index_or}
use Rattle.std.specs.Option.{option_map_or}
use Rattle.std.proofs.lemmas.List.{length-map}
use Rattle.std.proofs.lemmas.List.Sums.{sum_by-cons}
use Rattle.lvm_num.specs.Buffer.{Buffer}
use Rattle.lvm_num.specs.Status.{calls_missing}
use Rattle.lvm_disk.specs.Device.{Flight}
use Rattle.lvm_session.specs.declared.bringing.OpenCopy.{OpenCopy}
use Rattle.lvm_session.specs.declared.event.Event.{Event}
use Rattle.lvm_session.specs.declared.event.Event.TheVariants as event
use Rattle.lvm_session.specs.declared.flown.Flown.{Flown}
use Rattle.lvm_session.specs.declared.open.Power.TheVariants as power
use Rattle.lvm_session.specs.State.{Core, State}
use Rattle.lvm_session.specs.Judging.{is_running}
use Rattle.lvm_session.specs.Bringing.{hand_of}
use Rattle.lvm_session.specs.Enabled.{copy_write, data_at, first_from, first_of, has_buffer, is_status_due, may_read, may_write, note_at, or_next, parts_to_start}
use Rattle.lvm_session.specs.Dark.{hand_of_copy}
use Rattle.lvm_session.specs.Owners.{AreRows}
use Rattle.lvm_session.specs.Placed.{ArePlaced}
use Rattle.lvm_session.specs.Sound.{IsGoing, IsSound, count_if, has_number, is_dark, is_hand}
use Rattle.lvm_moves.specs.Launching.{HasFlight}
use Rattle.lvm_moves.proofs.StartsLemmas.Firsts.{first_can}
use Rattle.lvm_moves.specs.Ready.{FirstStartCan, FirstStartHasFlight, SessionsMayChoose}
use Rattle.lvm_moves.proofs.ReadyLemmas.Buffers.{fits, most, some_in}

-- the list of a session is as long as that of the flights
rows_long : (core : Core) (rows : List Flown) (flights : List Flight) → AreRows core rows flights → length rows ≡ length flights
rows_long core [] [] all = refl
rows_long core [] (f ∷ flights) all = absurd all
rows_long core (row ∷ rows) [] all = absurd all
rows_long core (row ∷ rows) (f ∷ flights) all = ap suc (rows_long core rows flights all.1)

buffers_of : List Flight → List Buffer
buffers_of flights = map (λ (f : Flight). f.buf) flights

buffers_count : (n : ℕ) (flights : List Flight) → count_by (has_number n) (map (λ (f : Flight). f.buf) flights) ≡ count_by (λ (f : Flight). has_number n f.buf) flights
buffers_count n [] = refl
buffers_count n (f ∷ flights) =
    let one : count_by (has_number n) (f.buf ∷ map (λ (g : Flight). g.buf) flights) ≡ count_if (has_number n f.buf) + count_by (has_number n) (map (λ (g : Flight). g.buf) flights) = sum_by-cons (λ b. count_if (has_number n b)) f.buf (map (λ (g : Flight). g.buf) flights) in
    let same : count_by (λ (g : Flight). has_number n g.buf) (f ∷ flights) ≡ count_if (has_number n f.buf) + count_by (λ (g : Flight). has_number n g.buf) flights = sum_by-cons (λ (g : Flight). count_if (has_number n g.buf)) f flights in
    let rest = buffers_count n flights in
    omega (arith, one, same, rest)

-- a transfer that may be started takes a buffer of the pool, or the one that the copy has in hand
takes : (core : Core) (it : Event) → first_of parts_to_start core ≡ Some it → (has_buffer core ≡ true) ⊎ (option_map_or may_write core.copy false ≡ true)
takes core it is = by (has_buffer core) refl is
  where
    write : (b : Bool) → or_next (if b then Some event.WriteCopy else None) None ≡ Some it → b ≡ true
    write true e = refl
    write false e = absurd (cc e)

    by : (b : Bool) → has_buffer core ≡ b
        → or_next (if b then (if is_status_due core then Some event.StartStatus else None) else None)
        (or_next (if b then first_from (note_at core) 0 core.requests else None)
        (or_next (if b then first_from (data_at core) 0 core.requests else None)
        (or_next (if b then (if option_map_or (may_read core) core.copy false then Some event.ReadCopy else None) else None) (or_next (copy_write core) None)))) ≡ Some it
        → (has_buffer core ≡ true) ⊎ (option_map_or may_write core.copy false ≡ true)
    by true has e = inl has
    by false has e = inr (write (option_map_or may_write core.copy false) e)

-- the buffer that it writes
in_hand : (m : Option OpenCopy) → option_map_or may_write m false ≡ true → (buf : Buffer) × (hand_of_copy m ≡ Some buf)
in_hand None is = absurd (cc is)
in_hand (Some c) is = by (is_running c) (hand_of c.step) is
  where
    by : (a : Bool) (m : Option Buffer) → a && is_some m ≡ true → (buf : Buffer) × (m ≡ Some buf)
    by true (Some buf) e = (buf, refl)
    by true None e = absurd (cc e)
    by false m e = absurd (cc e)

module _ (s : State) (sound : IsSound s) (on : s.core.power ≡ power.On) where
  abbrev core : Core
  core = s.core

  going : IsGoing core
  going = (sound.on on).going

  abbrev buffers : List Buffer
  buffers = map (λ (f : Flight). f.buf) s.device.flights

  long : length core.flying ≡ length buffers
  long = rows_long core core.flying s.device.flights (sound.on on).rows ∙ sym (length-map s.device.flights (λ (f : Flight). f.buf))

  -- what is out with a transfer and what the copy has in hand are buffers of the pool
  counted : (n : ℕ) → count_by (has_number n) buffers + count_if (is_hand n (hand_of_copy core.copy)) ≤ count_if (slice_index_or core.pool n false)
  counted n =
      let all = sound.none_lost (ap is_dark on) n in
      let same = buffers_count n s.device.flights in
      omega (arith, all, same)

  fewer : (has_buffer core ≡ true) ⊎ (option_map_or may_write core.copy false ≡ true) → length core.flying < length core.pool
  fewer (inl has) =
      let low = fits buffers core.pool (λ n. let all = counted n in omega (arith, all)) in
      let less = some_in core.pool has in
      let same = long in
      omega (arith, low, less, same)
  fewer (inr writes) =
      let its = in_hand core.copy writes in
      let low = fits (its.0 ∷ buffers) core.pool (λ n.
      let all = counted n in
      let hand : count_if (is_hand n (hand_of_copy core.copy)) ≡ count_if (has_number n its.0) = ap (λ m. count_if (is_hand n m)) its.1 in
      let more : count_by (has_number n) (its.0 ∷ buffers) ≡ count_if (has_number n its.0) + count_by (has_number n) buffers = sum_by-cons (λ b. count_if (has_number n b)) its.0 buffers in
      omega (arith, all, hand, more)) in
      let less = most core.pool in
      let same = long in
      omega (arith, low, less, same)

  pub has_flight : (it : Event) → first_of parts_to_start core ≡ Some it → HasFlight s.device core
  has_flight it is =
      let less = fewer (takes core it is) in
      record {
        going = going;
        flights = let rows = rows_long core core.flying s.device.flights (sound.on on).rows in let few = sound.fitting.buffers in omega (arith, less, rows, few);
        flying = less;
      }

  not_more : length core.flying ≤ 1024
  not_more =
      let low = fits buffers core.pool (λ n. let all = counted n in omega (arith, all)) in
      let high = most core.pool in
      let same = long in
      let few = sound.fitting.buffers in
      omega (arith, low, high, same, few)

  -- members that aren't missing weren't when the session began
  placed : ArePlaced s.device.sizes core.descriptor core.status.wanted
  placed row among here = sound.placed row among (by (calls_missing core.origin.table row.disk) refl)
    where
      by : (b : Bool) → calls_missing core.origin.table row.disk ≡ b → b ≡ false
      by false is = refl
      by true is = absurd (let e : true ≡ false = sym (sound.origin.still_missing row.disk is) ∙ here in cc e)

pub first_start_has_flight : FirstStartHasFlight
first_start_has_flight s it sound on is = has_flight s sound on it is

pub first_start_can : FirstStartCan
first_start_can s it sound on votes is = first_can s.device s.core (record { flight = has_flight s sound on it is; votes = votes; placed = sound.placed; still = sound.origin.still_missing }) it is

pub sessions_may_choose : SessionsMayChoose
sessions_may_choose s sound on = record { going = going s sound on; placed = placed s sound on; few = not_more s sound on }

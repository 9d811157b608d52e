-- The start of a transfer, put together from its steps.
use Rattle.std.proofs.Common.{◌≡◌, ◌<◌, ◌≤◌, ◌+◌, ◌++◌, ◌∷◌, [], ℕ, arith, Bool, true, false, inl, if◌then◌else◌, List, Option, Some, None, length, slice_get, slice_set, refl, sym, ◌∙◌, ap, subst}
use Rattle.std.specs.Prelude.{find, is_some, unwrap_or}
use Rattle.std.specs.Option.{option_map, option_map_or}
use Rattle.lvm_num.specs.Buffer.{Buffer}
use Rattle.lvm_num.specs.Note.{note_bytes}
use Rattle.lvm_num.specs.declared.place.Pp.{Pp}
use Rattle.lvm_disk.specs.Device.{Device}
use Rattle.lvm_disk.specs.Steps.{GoesDark, Starts}
use Rattle.lvm_vol.specs.Facts.{Request as Asked}
use Rattle.lvm_vol.specs.Log.{blocks_begun, blocks_of, no_request, request_of}
use Rattle.lvm_vol.specs.Order.{Ordered}
use Rattle.lvm_pbuf.specs.Out.{IsOut, TakesLowest}
use Rattle.lvm_mwc.specs.declared.entries.CacheEntry.{CacheEntry}
use Rattle.lvm_mwc.specs.declared.notes.DiskNotes.{DiskNotes}
use Rattle.lvm_mwc.specs.Cache.{Cached, after_start, started}
use Rattle.lvm_mwc.specs.Entries.{note_of}
use Rattle.lvm_mwc.specs.Firsts.{with_first}
use Rattle.lvm_mwc.specs.Notes.{is_of_disk}
use Rattle.lvm_path.specs.Asks.{count_of, is_write}
use Rattle.lvm_session.specs.declared.bringing.OpenCopy.{OpenCopy}
use Rattle.lvm_session.specs.declared.open.Open.{Open}
use Rattle.lvm_session.specs.declared.bringing.Step.TheVariants as stage
use Rattle.lvm_session.specs.declared.flown.Owner.TheVariants as owner
use Rattle.lvm_session.specs.State.{Core, State, state}
use Rattle.lvm_session.specs.Bringing.{hand_of, next_source, with_back}
use Rattle.lvm_session.specs.Enabled.{may_read, may_write, note_due}
use Rattle.lvm_session.specs.Dark.{all_dark, hand_of_copy, with_hands}
use Rattle.lvm_session.specs.Events.{IsDueAt, ReadsCopy, StartsData, StartsNote, WritesCopy, begun_as, flown, step_sector}
use Rattle.lvm_session.specs.Turns.{Darkens}
use Rattle.lvm_session.specs.Hands.{AreInHand, IsOutIf, MayEnd}
use Rattle.lvm_session.specs.Sound.{IsAsked, IsGoing}
use Rattle.lvm_moves.proofs.SoundLemmas.{block_is, within}
use Rattle.lvm_moves.proofs.OutLemmas.{may_end, pool_same}

-- the power is found off, and nothing else has changed
pub dark_is : (old : State) (device : Device) (new : Core) → GoesDark old.device device → device.power ≡ false → new ≡ all_dark old.core → Darkens old (state device new)
dark_is old device new goes off is =
    subst (λ (c : Core). Darkens old (state device c)) (sym is)
    (record { device = goes; power = off; status = record { group = refl; committed = refl; wanted = refl; in_flight = inl refl; stamp = inl refl }; entries = refl; notes = λ disk. refl; is = refl })

-- so it is where a buffer was taken and comes back
pub dark_after : (old : State) (device : Device) (new : Core) (pool : List Bool) (n : ℕ) → TakesLowest old.core.pool pool n → GoesDark old.device device → device.power ≡ false
    → new ≡ all_dark (record old.core { pool = slice_set pool n false }) → Darkens old (state device new)
dark_after old device new pool n takes goes off is = dark_is old device new goes off (is ∙ ap (λ (p : List Bool). all_dark (record old.core { pool = p })) (pool_same old.core.pool pool n takes))

module _ (old : State) (device : Device) (c : OpenCopy) (is_open : old.core.copy ≡ Some c) where
  pub read_starts : (source : Pp) (first ticket : ℕ) (buf : Buffer) (pool : List Bool) (new : Core)
      → may_read old.core c ≡ true → next_source old.core c ≡ Some source → first ≡ step_sector old.core c source
      → length buf.sectors ≡ 256 → TakesLowest old.core.pool pool buf.number
      → Starts old.device device (record { ticket = ticket; disk = source.disk; first = first; count = 256; write = false; buf = buf })
      → new ≡ record old.core { pool = pool; flying = old.core.flying ++ flown ticket source.disk owner.Copy ∷ []; copy = Some (record c { step = stage.Reading source }) }
      → ReadsCopy old (state device new)
  read_starts source first ticket buf pool new may source_is at long takes starts is =
      subst (λ (x : Core). ReadsCopy old (state device x)) (sym is)
      (record {
        copy = c;
        is_open = is_open;
        may = may;
        source = source;
        source_is = source_is;
        flight = record { ticket = ticket; disk = source.disk; first = first; count = 256; write = false; buf = buf };
        reads = record { disk_is = refl; first = at; count = refl; write_is = refl };
        launches = record { long = long; taken = takes; starts = starts };
        is = refl;
      })

  pub write_starts : (first ticket : ℕ) (buf : Buffer) (new : Core)
      → may_write c ≡ true → c.step ≡ stage.Read buf → first ≡ step_sector old.core c c.pp
      → Starts old.device device (record { ticket = ticket; disk = c.pp.disk; first = first; count = 256; write = true; buf = buf })
      → new ≡ record old.core { flying = old.core.flying ++ flown ticket c.pp.disk owner.Copy ∷ []; copy = Some (record c { step = stage.Writing }) }
      → WritesCopy old (state device new)
  write_starts first ticket buf new may hand at starts is =
      subst (λ (x : Core). WritesCopy old (state device x)) (sym is)
      (record {
        copy = c;
        is_open = is_open;
        may = may;
        buf = buf;
        in_hand = hand;
        flight = record { ticket = ticket; disk = c.pp.disk; first = first; count = 256; write = true; buf = buf };
        writes = record { disk_is = refl; first = at; count = refl; write_is = refl };
        carries = refl;
        starts = starts;
        is = refl;
      })

-- ---- a note

notes_stay : (disk : ℕ) (entries : List CacheEntry) (d : ℕ) (rows : List DiskNotes) → is_some (find (is_of_disk d) (with_first (is_of_disk disk) (started entries) rows)) ≡ is_some (find (is_of_disk d) rows)
notes_stay disk entries d [] = refl
notes_stay disk entries d (row ∷ rows) = by_test (is_of_disk disk row) (notes_stay disk entries d rows)
  where
    here : (b : Bool) (new : DiskNotes) (rest : List DiskNotes) → is_some (find (is_of_disk d) rest) ≡ is_some (find (is_of_disk d) rows) → is_of_disk d new ≡ b → is_of_disk d row ≡ b
        → is_some (find (is_of_disk d) (new ∷ rest)) ≡ is_some (find (is_of_disk d) (row ∷ rows))
    here true new rest same one two = ap (λ (b : Bool). is_some (if b then Some new else find (is_of_disk d) rest)) one ∙ sym (ap (λ (b : Bool). is_some (if b then Some row else find (is_of_disk d) rows)) two)
    here false new rest same one two = ap (λ (b : Bool). is_some (if b then Some new else find (is_of_disk d) rest)) one ∙ same ∙ sym (ap (λ (b : Bool). is_some (if b then Some row else find (is_of_disk d) rows)) two)

    by_test : (b : Bool) → is_some (find (is_of_disk d) (with_first (is_of_disk disk) (started entries) rows)) ≡ is_some (find (is_of_disk d) rows)
        → is_some (find (is_of_disk d) (if b then started entries row ∷ rows else row ∷ with_first (is_of_disk disk) (started entries) rows)) ≡ is_some (find (is_of_disk d) (row ∷ rows))
    by_test true rest = here (is_of_disk d row) (started entries row) rows refl refl refl
    by_test false rest = here (is_of_disk d row) row (with_first (is_of_disk disk) (started entries) rows) rest refl refl

pub dark_note : (old : State) (device : Device) (new : Core) (disk : ℕ) (pool : List Bool) (n : ℕ) → TakesLowest old.core.pool pool n → GoesDark old.device device → device.power ≡ false
    → new ≡ all_dark (record old.core { pool = slice_set pool n false; cache = after_start old.core.cache disk }) → Darkens old (state device new)
dark_note old device new disk pool n takes goes off is =
    let back : new ≡ all_dark (record old.core { cache = after_start old.core.cache disk }) = is ∙ ap (λ (p : List Bool). all_dark (record old.core { pool = p; cache = after_start old.core.cache disk })) (pool_same old.core.pool pool n takes) in
    subst (λ (c : Core). Darkens old (state device c)) (sym back)
    (record { device = goes; power = off; status = record { group = refl; committed = refl; wanted = refl; in_flight = inl refl; stamp = inl refl }; entries = refl; notes = λ d. notes_stay disk old.core.cache.entries d old.core.cache.notes; is = refl })

pub note_starts : (old : State) (device : Device) (place disk ticket : ℕ) (o : Open) (buf : Buffer) (pool : List Bool) (new : Core)
    → slice_get old.core.requests place ≡ Some o → note_due old.core o ≡ Some disk
    → length buf.sectors ≡ 256 → TakesLowest old.core.pool pool buf.number
    → slice_get buf.sectors 0 ≡ Some (note_bytes (record { stamp = old.core.status.stamp.epoch; entries = note_of old.core.cache.entries }))
    → Starts old.device device (record { ticket = ticket; disk = disk; first = 8; count = 1; write = true; buf = buf })
    → new ≡ record old.core { pool = pool; cache = after_start old.core.cache disk; flying = old.core.flying ++ flown ticket disk (owner.Note disk) ∷ [] }
    → StartsNote old (state device new) place disk
note_starts old device place disk ticket o buf pool new there due long takes note starts is =
    subst (λ (x : Core). StartsNote old (state device x) place disk) (sym is)
    (record {
      request = o;
      there = there;
      due = due;
      flight = record { ticket = ticket; disk = disk; first = 8; count = 1; write = true; buf = buf };
      writes = record { disk_is = refl; first = refl; count = refl; write = refl; carries = note };
      launches = record { long = long; taken = takes; starts = starts };
      is = refl;
    })

-- ---- a target

pub data_starts : (old : State) (device : Device) (place target : ℕ) (due : IsDueAt old.core place target) (write : Bool) (count ticket : ℕ) (buf : Buffer) (pool : List Bool) (new : Core)
    → write ≡ is_write due.request.request.ask → count ≡ count_of due.request.request.ask → length buf.sectors ≡ 256 → TakesLowest old.core.pool pool buf.number
    → (is_write due.request.request.ask ≡ true → (k : ℕ) → k < count_of due.request.request.ask → slice_get buf.sectors k ≡ slice_get (request_of old.core.history.facts due.request.request.id).blocks k)
    → Starts old.device device (record { ticket = ticket; disk = due.aim.pp.disk; first = due.aim.sector; count = count; write = write; buf = buf })
    → new ≡ record old.core { pool = pool; flying = old.core.flying ++ flown ticket due.aim.pp.disk (owner.Data due.request.request.id target) ∷ []; requests = slice_set old.core.requests place (begun_as target due.request) }
    → StartsData old (state device new) place target
data_starts old device place target due write count ticket buf pool new writes counts long takes carries starts is =
    subst (λ (x : Core). StartsData old (state device x) place target) (sym is)
    (record {
      its = due;
      flight = record { ticket = ticket; disk = due.aim.pp.disk; first = due.aim.sector; count = count; write = write; buf = buf };
      moves = record {
        disk_is = refl;
        first = refl;
        count = counts;
        write = writes;
        carries = λ written k less. carries written k (subst (λ n. k < n) counts less);
      };
      launches = record { long = long; taken = takes; starts = starts };
      is = refl;
    })

-- the blocks that a write carries are its own
pub carries_own : (core : Core) (o : Open) (buf : Buffer) → Ordered core.history.run [] core.history.facts → (its : IsAsked core.history.facts o)
    → (is_write o.request.ask ≡ true → (k : ℕ) → k < count_of o.request.ask → slice_get buf.sectors k ≡ slice_get (blocks_of core.history.facts) (o.place + k))
    → is_write o.request.ask ≡ true → (k : ℕ) → k < count_of o.request.ask → slice_get buf.sectors k ≡ slice_get (request_of core.history.facts o.request.id).blocks k
carries_own core o buf ordered its loads written k less =
    loads written k less
    ∙ ap (λ n. slice_get (blocks_of core.history.facts) (n + k)) its.place
    ∙ block_is core.history.run core.history.facts ordered o.request.id its.request its.told k (its.write ∙ written) (subst (λ n. k < n) (sym its.count) less)
    ∙ ap (λ (r : Option Asked). slice_get (unwrap_or r no_request).blocks k) (sym its.told)

pub its_within : (core : Core) (o : Open) → Ordered core.history.run [] core.history.facts → (its : IsAsked core.history.facts o) → o.place + count_of o.request.ask ≤ blocks_begun core.history.facts
its_within core o ordered its =
    let among = within core.history.run core.history.facts ordered o.request.id its.request its.told in
    let place = its.place in
    let count = its.count in
    omega (arith, among, place, count)

-- ---- what is found, and what is in hand

-- the source that is found, and where the track group begins on it
pub next_is : (core : Core) (c : OpenCopy) (source : Pp) (first : ℕ) → ◌≡◌ {A = Option (Pp × ℕ)} (Some (source, first)) (option_map (λ (p : Pp). (p, step_sector core c p)) (next_source core c)) → (next_source core c ≡ Some source) × (first ≡ step_sector core c source)
next_is core c source first is = by_source (next_source core c) is
  where
    by_source : (o : Option Pp) → ◌≡◌ {A = Option (Pp × ℕ)} (Some (source, first)) (option_map (λ (p : Pp). (p, step_sector core c p)) o) → (o ≡ Some source) × (first ≡ step_sector core c source)
    by_source None is = absurd (cc is)
    by_source (Some p) is =
        let same : source ≡ p = ap (λ (o : Option (Pp × ℕ)). option_map_or (λ (q : Pp × ℕ). q.0) o source) is in
        let at : first ≡ step_sector core c p = ap (λ (o : Option (Pp × ℕ)). option_map_or (λ (q : Pp × ℕ). q.1) o first) is in
        (ap (λ (q : Pp). Some q) (sym same), at ∙ ap (step_sector core c) (sym same))

-- what the copy has in hand is out
its_hand : (core : Core) (c : OpenCopy) (buf : Buffer) → core.copy ≡ Some c → hand_of c.step ≡ Some buf → hand_of_copy core.copy ≡ Some buf
its_hand core c buf is_open hand = ap (λ (m : Option OpenCopy). hand_of_copy m) is_open ∙ hand

pub hand_out : (core : Core) (c : OpenCopy) → IsGoing core → core.copy ≡ Some c → (buf : Buffer) → hand_of c.step ≡ Some buf → IsOut core.pool buf.number
hand_out core c going is_open buf hand = subst (IsOutIf core.pool) (its_hand core c buf is_open hand) (may_end core going).copy

-- so the session can end while it is in no hand
pub may_end_written : (core : Core) (c : OpenCopy) (buf : Buffer) → IsGoing core → core.copy ≡ Some c → hand_of c.step ≡ Some buf
    → MayEnd (record core { pool = slice_set core.pool buf.number false; copy = Some (record c { step = stage.Writing }) })
may_end_written core c buf going is_open hand =
    let may = may_end core going in
    record { told = may.told; copy = tt; requests = subst (λ (h : Option Buffer). AreInHand (with_back core.pool h) core.requests) (its_hand core c buf is_open hand) may.requests }

pub dark_written : (core : Core) (c : OpenCopy) (buf : Buffer) → core.copy ≡ Some c → hand_of c.step ≡ Some buf
    → all_dark (record core { pool = slice_set core.pool buf.number false; copy = Some (record c { step = stage.Writing }) }) ≡ all_dark core
dark_written core c buf is_open hand =
    sym (ap (λ (h : Option Buffer). record (all_dark (record core { copy = Some c })) { pool = with_hands (with_back core.pool h) core.requests }) hand)
    ∙ sym (ap (λ (m : Option OpenCopy). all_dark (record core { copy = m })) is_open)

-- a session can end whatever its cache has
pub with_cache : (core : Core) (cache : Cached) (pool : List Bool) → pool ≡ core.pool → MayEnd core → MayEnd (record core { pool = pool; cache = cache })
with_cache core cache pool same may = subst (λ (p : List Bool). MayEnd (record core { pool = p; cache = cache })) (sym same) (record { told = may.told; copy = may.copy; requests = may.requests })

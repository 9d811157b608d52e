-- What a pin makes of a session.
use Rattle.std.proofs.Common.{◌≡◌, ◌==◌, ◌≤◌, ◌<◌, ◌+◌, ◌^◌, ◌&&◌, ℕ, Bool, true, false, not, if◌then◌else◌, Option, Some, None, length, length-set, slice_get, slice_set, refl, sym, ◌∙◌, ap, subst, arith}
use Rattle.std.proofs.lemmas.Bool.{eqb-true}
use Rattle.std.proofs.lemmas.List.Sums.{count_by-le-length}
use Rattle.lvm_num.specs.declared.descriptor.LvRow.{LvRow}
use Rattle.lvm_num.specs.declared.descriptor.Descriptor.{Descriptor}
use Rattle.lvm_num.specs.Descriptor.{IsValid, IsVolume, volume_of}
use Rattle.lvm_num.proofs.MarksLemmas.Maps.{find-Some}
use Rattle.lvm_disk.specs.Device.{Device}
use Rattle.lvm_mwc.specs.declared.cache.Pin.{Pin}
use Rattle.lvm_mwc.specs.declared.cache.Pin.TheVariants as answer
use Rattle.lvm_mwc.specs.Cache.{Cached, after_pin, pin_answer}
use Rattle.lvm_mwc.specs.Entries.{are_all_pinned, pins_of}
use Rattle.lvm_path.specs.Asks.{lv_of}
use Rattle.lvm_path.specs.Next.{with_pin}
use Rattle.lvm_path.specs.declared.facts.Next.{Next}
use Rattle.lvm_path.specs.declared.facts.Next.TheVariants as next
use Rattle.lvm_session.specs.declared.event.Event.{Event}
use Rattle.lvm_session.specs.declared.event.Event.TheVariants as event
use Rattle.lvm_session.specs.declared.open.Open.{Open}
use Rattle.lvm_session.specs.declared.session.Session.{Session}
use Rattle.lvm_session.specs.Rooms.{SameRooms}
use Rattle.lvm_session.specs.State.{Core, State, state}
use Rattle.lvm_session.specs.Judging.{group_of, next_for}
use Rattle.lvm_session.specs.Enabled.{can_pin, is_pin, may_pin, pinning, pinning_at}
use Rattle.lvm_session.specs.Events.{Pins}
use Rattle.lvm_session.specs.Sound.{IsGoing, pins}
use Rattle.lvm_session.specs.Worked.{faultless}
use Rattle.lvm_due.proofs.SpansLemmas.{first_due, narrowed, none_due}
use Rattle.lvm_due.specs.declared.due.Due.{Due}
use Rattle.lvm_due.specs.Due.{IsDue}
use Rattle.lvm_moves.specs.Pinning.{PinGives, PinsAt}

-- volumes are numbered from 1
pub numbered : (d : Descriptor) (lv : ℕ) (row : LvRow) → IsValid d → volume_of d lv ≡ Some row → 1 ≤ lv
numbered d lv row valid is =
    let found = find-Some (λ (r : LvRow). r.number == lv) d.lvs row is in
    let volume : IsVolume d.big row = subst (IsVolume d.big) (found.1.2 row) (valid.volumes.each found.1.0 row found.1.1) in
    let number : 1 ≤ row.number = volume.a_number in
    let same : row.number ≡ lv = eqb-true row.number lv found.0 in
    omega (arith, number, same)

-- a track group has fewer pins than there are requests
pub few_pins : (core : Core) → IsGoing core → (lv group : ℕ) → pins_of core.cache.entries lv group + 1 < 2 ^ 32
few_pins core going lv group =
    let same = going.pinned lv group in
    let few = count_by-le-length (pins lv group) core.requests in
    let table = going.fitting.table in
    let most = going.fitting.most in
    omega (arith, same, few, table, most)

module _ (core : Core) (place : ℕ) (o : Open) (there : slice_get core.requests place ≡ Some o) (waits : next_for core o ≡ next.Pin) (cache : Cached) (answered : Pin) (gives : answered ≡ pin_answer core.cache (lv_of o.request.ask) (group_of o.request.ask))
    (becomes : cache ≡ after_pin core.cache (lv_of o.request.ask) (group_of o.request.ask)) where
  not_full : answered ≡ answer.Pinned → are_all_pinned core.cache.entries (lv_of o.request.ask) (group_of o.request.ask) ≡ false
  not_full is = by_test (are_all_pinned core.cache.entries (lv_of o.request.ask) (group_of o.request.ask)) refl
    where
      by_test : (b : Bool) → are_all_pinned core.cache.entries (lv_of o.request.ask) (group_of o.request.ask) ≡ b → b ≡ false
      by_test false all = refl
      by_test true all = absurd (let e : answer.Pinned ≡ answer.AllPinned = sym is ∙ gives ∙ ap (λ b. if b then answer.AllPinned else answer.Pinned) all in cc)

  is_full : answered ≡ answer.AllPinned → are_all_pinned core.cache.entries (lv_of o.request.ask) (group_of o.request.ask) ≡ true
  is_full is = by_test (are_all_pinned core.cache.entries (lv_of o.request.ask) (group_of o.request.ask)) refl
    where
      by_test : (b : Bool) → are_all_pinned core.cache.entries (lv_of o.request.ask) (group_of o.request.ask) ≡ b → b ≡ true
      by_test true all = refl
      by_test false all = absurd (let e : answer.AllPinned ≡ answer.Pinned = sym is ∙ gives ∙ ap (λ b. if b then answer.AllPinned else answer.Pinned) all in cc)

  -- it has its pin
  pub pins_so : answered ≡ answer.Pinned → (pinned : Open) → pinned ≡ record o { request = with_pin o.request } → (device : Device)
      → Pins (state device core) (state device (record core { cache = cache; requests = slice_set core.requests place pinned })) place
  pins_so is pinned becomes_so device = record {
    request = o;
    there = there;
    pins = ap (λ n. is_pin n && can_pin core.cache o.request.ask) waits ∙ ap not (not_full is);
    is = ap (λ (c : Cached). state device (record core { cache = c; requests = slice_set core.requests place pinned })) becomes
        ∙ ap (λ (p : Open). state device (record core { cache = after_pin core.cache (lv_of o.request.ask) (group_of o.request.ask); requests = slice_set core.requests place p })) becomes_so;
  }

  -- or the cache has no place for it
  pub stays_so : answered ≡ answer.AllPinned → record core { cache = cache } ≡ core
  stays_so is = ap (λ (c : Cached). record core { cache = c }) (becomes ∙ ap (λ b. if b then core.cache else record core.cache { entries = Rattle.lvm_mwc.specs.Entries.with_pin core.cache.entries (lv_of o.request.ask) (group_of o.request.ask) }) (is_full is))

  pub may_not : answered ≡ answer.AllPinned → (other : Open) → slice_get core.requests place ≡ Some other → may_pin core other ≡ false
  may_not is other at =
      let same : o ≡ other = cc (there, at) in
      ap (may_pin core) (sym same) ∙ ap (λ n. is_pin n && can_pin core.cache o.request.ask) waits ∙ ap not (is_full is)

-- one that does something else may not
pub other_waits : (core : Core) (o : Open) (n : Next) → n ≡ next_for core o → is_pin n ≡ false → may_pin core o ≡ false
other_waits core o n is none = ap (λ m. is_pin m && can_pin core.cache o.request.ask) (sym is) ∙ ap (λ b. b && can_pin core.cache o.request.ask) none

-- ---- one request after the other

-- what the first request that may be asked makes
module _ (first core new : Core) (same : core ≡ first) (due : Due) (are_due : IsDue core due) (test : due.pinning.from < due.pinning.to) where
  abbrev place : ℕ
  place = due.pinning.from

  -- it has its pin, and is the first
  pub first_pins : PinsAt core new place true → PinGives first new true
  first_pins pins =
      let one = pins faultless in
      let made : (o : Open) → slice_get core.requests place ≡ Some o → ◌≡◌ {A = Option Event} (Some (event.Pin place)) (pinning_at core place o) = λ o there.
      let its : one.request ≡ o = cc (one.there, there) in
      sym (ap (λ (b : Bool). if b then Some (event.Pin place) else None) (ap (may_pin core) (sym its) ∙ one.pins)) in
      let it : pinning core ≡ Some (event.Pin place) = first_due (pinning_at core) core.requests due.pinning are_due.pinning test made (event.Pin place) refl in
      let P : Core → Type 0 = λ c. PinGives c new true in
      subst P same (place, it, pins)

  -- the place is one of the table
  pub is_destination : place < length core.requests
  is_destination = let within = are_due.pinning.within in omega (arith, test, within)

  -- or it has none, and the session is as it was
  pub none_pins : PinsAt core new place false → (new ≡ first) × IsDue new (record due { pinning = record due.pinning { from = place + 1 } })
  none_pins stays =
      let made : (o : Open) → slice_get core.requests place ≡ Some o → ◌≡◌ {A = Option Event} None (pinning_at core place o) = λ o there.
      sym (ap (λ (b : Bool). if b then Some (event.Pin place) else None) (stays.1 o there)) in
      let narrow : IsDue core (record due { pinning = record due.pinning { from = place + 1 } }) = record {
        landing = are_due.landing;
        admission = are_due.admission;
        pinning = narrowed (pinning_at core) core.requests due.pinning are_due.pinning test made refl;
        note = are_due.note;
        «data» = are_due.data;
        unfailing = are_due.unfailing;
      } in
      let P : Core → Type 0 = λ c. IsDue c (record due { pinning = record due.pinning { from = place + 1 } }) in
      (stays.0 ∙ same, subst P (sym stays.0) narrow)

-- none is left
pub none_left : (first core : Core) (due : Due) → core ≡ first → IsDue core due → due.pinning.to ≤ due.pinning.from → PinGives first core false
none_left first core due same are_due test =
    (ap pinning (sym same) ∙ none_due (pinning_at core) core.requests due.pinning are_due.pinning test, same)

-- the table is as long as it was
pub as_long : (core new : Core) (place : ℕ) → PinsAt core new place true → place < length core.requests → place < length new.requests
as_long core new place pins within =
    let it = pins faultless in
    let os = core.requests in
    let is : length new.requests ≡ length os = ap (λ (s : State). length s.core.requests) it.is ∙ length-set os place (record it.request { request = with_pin it.request.request }) in
    omega (arith, within, is)

pub rooms_on : (a b c : Session) → SameRooms a b → SameRooms b c → SameRooms a c
rooms_on a b c one two = record { requests = two.requests ∙ one.requests; flying = two.flying ∙ one.flying; bytes = two.bytes ∙ one.bytes }

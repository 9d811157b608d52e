-- What a landing needs of a session, and what it leaves.
use Rattle.std.proofs.Common.{◌≡◌, ◌≤◌, ◌*◌, ◌==◌, cond, length, ℕ, zero, suc, Bool, true, false, not, List, [], ◌∷◌, Option, Some, None, count_by, slice_get, slice_set, slice_index_or, if◌then◌else◌, refl, sym, ◌∙◌, ap, subst, arith}
use Rattle.std.specs.Prelude.{◌&&◌, is_some, unwrap_or, IfSome}
use Rattle.std.proofs.lemmas.List.Sums.{sum_by-cons}
use Rattle.lvm_num.specs.Buffer.{Buffer}
use Rattle.lvm_num.proofs.Booleans.{same_itself, three_hold}
use Rattle.lvm_disk.specs.Device.{Device}
use Rattle.lvm_vol.specs.declared.entry.Outcome.{Outcome}
use Rattle.lvm_vol.specs.Facts.{Landed, Request as Asked}
use Rattle.lvm_vol.specs.Log.{Log, is_got, is_open, no_request, request_of, with_fact}
use Rattle.lvm_pbuf.specs.Out.{IsOut}
use Rattle.lvm_hold.specs.Waiting.{Waiting, IsInside, without}
use Rattle.lvm_mwc.specs.Cache.{Cached, after_unpin}
use Rattle.lvm_mwc.specs.Entries.{pins_of}
use Rattle.lvm_path.specs.declared.facts.Next.TheVariants as next
use Rattle.lvm_path.specs.Asks.{count_of, is_write, lv_of}
use Rattle.lvm_path.specs.Targets.{is_begun}
use Rattle.lvm_session.specs.declared.open.Open.{Open}
use Rattle.lvm_session.specs.State.{Core, state}
use Rattle.lvm_session.specs.Judging.{facts_of, group_of, is_waiting, next_for, place_of}
use Rattle.lvm_session.specs.Bringing.{with_back}
use Rattle.lvm_session.specs.Events.{after_landing, got_blocks, landed_as}
use Rattle.lvm_session.specs.Hands.{IsOutIf}
use Rattle.lvm_session.specs.Requests.{IsRequest}
use Rattle.lvm_session.specs.Sound.{IsAsked, IsGoing, count_if, is_hand, pins}
use Rattle.lvm_moves.specs.Entered.{IsEntered}
use Rattle.lvm_due.proofs.Nexts.{landed_waits, one, queued}
use Rattle.lvm_due.proofs.AtPlaces.{at_place}
use Rattle.lvm_moves.proofs.LogLemmas.{done_begun, got_is, has_done, is_the_got}

counted : (f : Open → Bool) (os : List Open) (k : ℕ) (o : Open) → slice_get os k ≡ Some o → f o ≡ true → 1 ≤ count_by f os
counted f [] k o there is = absurd (cc there)
counted f (x ∷ os) zero o there is =
    let same : x ≡ o = cc there in
    let more = sum_by-cons (λ (y : Open). cond (f y) 1 0) x os in
    let one : ◌≡◌ {A = ℕ} (cond (f x) 1 0) 1 = ap (λ (b : Bool). cond b 1 0) (ap f same ∙ is) in
    omega (arith, more, one)
counted f (x ∷ os) (suc k) o there is =
    let more = sum_by-cons (λ (y : Open). cond (f y) 1 0) x os in
    let rest = counted f os k o there is in
    omega (arith, more, rest)

is_out : (pool : List Bool) (n : ℕ) → 1 ≤ count_if (slice_index_or pool n false) → IsOut pool n
is_out [] n some = absurd (omega (arith, some))
is_out (b ∷ pool) zero some = by_test b some
  where
    by_test : (b : Bool) → 1 ≤ count_if b → IsOut (b ∷ pool) zero
    by_test true some = refl
    by_test false some = absurd (omega (arith, some))
is_out (b ∷ pool) (suc n) some = is_out pool n some

module _ (core : Core) (going : IsGoing core) (place : ℕ) (o : Open) (there : slice_get core.requests place ≡ Some o) where
  -- a pin that it holds is one of the track group's
  pub has_pin : o.request.pinned ≡ true → 1 ≤ pins_of core.cache.entries (lv_of o.request.ask) (group_of o.request.ask)
  has_pin pinned =
      let some = counted (pins (lv_of o.request.ask) (group_of o.request.ask)) core.requests place o there
      (three_hold o.request.pinned (lv_of o.request.ask == lv_of o.request.ask) (group_of o.request.ask == group_of o.request.ask) pinned (same_itself (lv_of o.request.ask)) (same_itself (group_of o.request.ask))) in
      let same = going.pinned (lv_of o.request.ask) (group_of o.request.ask) in
      omega (arith, some, same)

  -- what it has in hand is out
  pub hand_out : (got : Option Buffer) → got ≡ o.got → IsOutIf core.pool got
  hand_out None is = tt
  hand_out (Some buf) is =
      let some = counted (λ (x : Open). is_hand buf.number x.got) core.requests place o there (ap (is_hand buf.number) (sym is) ∙ same_itself buf.number) in
      let hands = going.hands buf.number in
      is_out core.pool buf.number (omega (arith, some, hands))

  module _ (how : Outcome) (lands : next_for core o ≡ next.Land how) where
    pub waits : is_waiting o ≡ true
    waits = by_test (is_waiting o) refl
      where
        by_test : (b : Bool) → is_waiting o ≡ b → b ≡ true
        by_test true is = refl
        by_test false is = absurd (let e : next.Wait ≡ next.Land how = sym (landed_waits core going place o there is) ∙ lands in cc)

    pub its_open : is_open core.history.facts o.request.id ≡ true
    its_open = at_place (λ (x : Open). is_waiting x ≡ true → is_open core.history.facts x.request.id ≡ true) core.requests place o going.told.table.still there waits

    pub inside : IsInside core.queue.rows (2 * o.request.id)
    inside = record { row = record { id = place_of o.request.id; ask = Rattle.lvm_session.specs.Judging.held_of o.request.ask }; among = (queued core going place o there waits).among; its = refl }

    its : IsRequest core o
    its = (one core going place o there).waits waits

    got_so : is_got how ≡ is_some o.got
    got_so = got_is o (facts_of core o.request) (is_some o.got) its.shape.hand how its.shape.phase_is lands

    told : IsAsked core.history.facts o
    told = at_place (IsAsked core.history.facts) core.requests place o going.told.requests there

    its_request : request_of core.history.facts o.request.id ≡ told.request
    its_request = ap (λ (r : Option Asked). unwrap_or r no_request) told.told

    is_read : is_some o.got ≡ true → is_write o.request.ask ≡ false
    is_read some = front (is_write o.request.ask) (has_done o.request.targets.items) (sym its.shape.hand ∙ some)
      where
        front : (a b : Bool) → (not a && b) ≡ true → a ≡ false
        front true b is = absurd cc
        front false b is = refl

    is_done : is_some o.got ≡ true → has_done o.request.targets.items ≡ true
    is_done some = back (is_write o.request.ask) (has_done o.request.targets.items) (sym its.shape.hand ∙ some)
      where
        back : (a b : Bool) → (not a && b) ≡ true → b ≡ true
        back true b is = absurd cc
        back false b is = is

    pub entered : (got : Option Buffer) (started : Bool) (count : ℕ) → got ≡ o.got → started ≡ is_begun o.request.targets.items → count ≡ count_of o.request.ask → IsEntered core.history.facts o.request.id count how started got
    entered None started count is begun counts = got_so ∙ ap is_some (sym is)
    entered (Some buf) started count is begun counts =
        let some : is_some o.got ≡ true = ap is_some (sym is) in
        let in_group = (one core going place o there).laid.blocks.group in
        let room : length buf.sectors ≡ 256 = subst (λ (g : Option Buffer). IfSome g (λ (b : Buffer). length b.sectors ≡ 256)) (sym is) its.shape.room in
        let reads : told.request.write ≡ false = told.write ∙ is_read some in
        let counted : told.request.count ≡ count = told.count ∙ sym counts in (
          is_the_got how (got_so ∙ some),
          begun ∙ done_begun o.request.targets.items (is_done some),
          omega (arith, in_group, counts),
          omega (arith, room),
          ap (λ b. if b && not (request_of core.history.facts o.request.id).write then Some (request_of core.history.facts o.request.id).count else None) its_open
              ∙ ap (λ (r : Asked). if not r.write then Some r.count else None) its_request
              ∙ ap (λ b. if not b then Some told.request.count else None) reads
              ∙ ap Some counted,
        )

-- r is the request as it is read, w as it is written, and l as it has landed
module _ (device : Device) (core : Core) (place : ℕ) (how : Outcome) where
  pub landing_is : (o r w l : Open) (started : Bool) (count : ℕ) (got : Option Buffer) (history : Log) (queue : Waiting) (pool : List Bool) (cache : Cached)
      → r ≡ o → w ≡ o → started ≡ is_begun r.request.targets.items → count ≡ count_of r.request.ask → got ≡ w.got → l ≡ landed_as how w
      → history ≡ with_fact core.history (Landed (request_of core.history.facts r.request.id) how started (got_blocks count got))
      → queue ≡ record core.queue { rows = without (2 * r.request.id) core.queue.rows }
      → pool ≡ with_back core.pool got
      → cache ≡ (if r.request.pinned then after_unpin core.cache (lv_of r.request.ask) (group_of r.request.ask) else core.cache)
      → state device (record core { requests = slice_set core.requests place l; history = history; queue = queue; pool = pool; cache = cache }) ≡ state device (after_landing core place o how)
  landing_is o r w l started count got history queue pool cache read write begun counted hand landed entered left back unpinned =
      rw (entered, left, back, unpinned, landed, hand, begun, counted, read, write) refl

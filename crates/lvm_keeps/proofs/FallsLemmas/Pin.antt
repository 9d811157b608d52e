-- A request that pins its track group leaves less work.
use Rattle.std.proofs.Common.{◌≡◌, ◌<◌, ◌+◌, ◌*◌, ◌&&◌, ℕ, zero, suc, true, false, not, if◌then◌else◌, List, [], ◌∷◌, Some, length, slice_get, slice_set, refl, sym, ◌∙◌, ap, subst, arith}
use Rattle.std.specs.Prelude.{count_by}
use Rattle.std.specs.List.{sum_by}
use Rattle.std.specs.Option.{option_map_or}
use Rattle.std.proofs.lemmas.List.Sums.{sum_by-cons, count_by-le-length}
use Rattle.lvm_num.specs.declared.descriptor.PvRow.{PvRow}
use Rattle.lvm_mwc.specs.Cache.{Cached}
use Rattle.lvm_mwc.specs.Entries.{with_pin as with_entry}
use Rattle.lvm_path.specs.Next.{with_pin}
use Rattle.lvm_session.specs.declared.open.Open.{Open}
use Rattle.lvm_session.specs.declared.open.Power.TheVariants as power
use Rattle.lvm_session.specs.State.{Core, State, is_there, state}
use Rattle.lvm_session.specs.Judging.{copies_for, group_of, is_changed, is_waiting, destinations_for}
use Rattle.lvm_session.specs.Enabled.{is_lost, may_pin}
use Rattle.lvm_path.specs.Asks.{is_write, lv_of}
use Rattle.lvm_path.specs.Targets.{is_begun}
use Rattle.lvm_session.specs.Left.{begun_left, copy_left, if_so, is_held, lacks_dirty, lacks_note, left_of, phase_left, read_left, request_left, status_left, destination_turns, turns_of, unbegun_left, update_work, work_left, write_left}
use Rattle.lvm_session.specs.Sound.{IsSound}
use Rattle.lvm_keeps.specs.Falls.{PinFalls}
use Rattle.lvm_keeps.proofs.LeftLemmas.Leaving.{left_same, lit, grows}
use Rattle.lvm_keeps.proofs.KeepsLemmas.Pin.{entry, full_is, its, now, pinned, shape, waits}

-- ---- sums

module _ {A : Type 0} (f g : A → ℕ) (same : (z : A) → g z ≡ f z) where
  pub sum_same : (xs : List A) → sum_by g xs ≡ sum_by f xs
  sum_same [] = refl
  sum_same (x ∷ xs) = let a = sum_by-cons g x xs in let b = sum_by-cons f x xs in let c = same x in let rest = sum_same xs in omega (arith, a, b, c, rest)

  pub sum_less : (xs : List A) (k : ℕ) (x y : A) → slice_get xs k ≡ Some x → g y < f x → sum_by g (slice_set xs k y) < sum_by f xs
  sum_less [] k x y there less = absurd (cc there)
  sum_less (z ∷ xs) zero x y there less =
      let is : z ≡ x = cc there in
      let new = sum_by-cons g y xs in
      let old = sum_by-cons f z xs in
      let rest = sum_same xs in
      let at : f z ≡ f x = ap f is in
      omega (arith, new, old, rest, at, less)
  sum_less (z ∷ xs) (suc k) x y there less =
      let new = sum_by-cons g z (slice_set xs k y) in
      let old = sum_by-cons f z xs in
      let head = same z in
      let rest = sum_less xs k x y there less in
      omega (arith, new, old, head, rest)

module _ (s : State) (sound : IsSound s) (on : s.core.power ≡ power.On) (place : ℕ) (o : Open) (there : slice_get s.core.requests place ≡ Some o) (may : may_pin s.core o ≡ true) where
  abbrev core : Core
  core = s.core

  abbrev after : Core
  after = (now s sound on place o there may).core

  abbrev with_its_pin : Open
  with_its_pin = pinned s sound on place o there may

  -- the others have as much left
  others : (x : Open) → request_left after x ≡ request_left core x
  others = left_same core core.history (slice_set core.requests place with_its_pin) core.queue core.pool core.flying (with_entry core.cache.entries (lv_of o.request.ask) (group_of o.request.ask)) core.last

  -- what is left of it beside its phase
  abbrev beside : ℕ
  beside = update_work + sum_by (turns_of core) (copies_for core o.request.ask) + sum_by (destination_turns core) (destinations_for core o.request.ask) + if_so (lacks_dirty core o.request.ask) update_work + if_so (is_changed core o.request) 12

  abbrev notes : ℕ
  notes = count_by (lacks_note after with_its_pin.request) o.request.targets.items

  waiting : is_waiting o ≡ true
  waiting = waits s sound on place o there may

  write : is_write o.request.ask ≡ true
  write = (shape s sound on place o there may).2

  unbegun : is_begun o.request.targets.items ≡ false
  unbegun = (shape s sound on place o there may).0

  before : request_left core o ≡ beside + 18
  before =
      ap (λ b. if_so b (if is_write o.request.ask then write_left core o.request else read_left o.request.phase o.request)) waiting
      ∙ ap (λ b. if b then write_left core o.request else read_left o.request.phase o.request) write
      ∙ ap (λ b. if b then begun_left o.request else unbegun_left core o.request) unbegun
      ∙ ap (λ p. update_work + sum_by (turns_of core) (copies_for core o.request.ask) + sum_by (destination_turns core) (destinations_for core o.request.ask) + if_so (lacks_dirty core o.request.ask) update_work + if_so (not (is_held p) && is_changed core o.request) 12 + phase_left p core o.request) (entry s sound on place o there may)

  behind : request_left after with_its_pin ≡ beside + (9 + 2 * notes)
  behind =
      ap (λ b. if_so b (if is_write o.request.ask then write_left after with_its_pin.request else read_left with_its_pin.request.phase with_its_pin.request)) waiting
      ∙ ap (λ b. if b then write_left after with_its_pin.request else read_left with_its_pin.request.phase with_its_pin.request) write
      ∙ ap (λ b. if b then begun_left with_its_pin.request else unbegun_left after with_its_pin.request) unbegun

  falls_itself : request_left after with_its_pin < request_left core o
  falls_itself =
      let a = before in
      let b = behind in
      let most = (its s sound on place o there may).laid.most in
      let few = count_by-le-length (lacks_note after with_its_pin.request) o.request.targets.items in
      omega (arith, a, b, most, few)

  work_falls : work_left after < work_left core
  work_falls =
      grows (length core.flying) ((update_work + 1) * count_by (λ (row : PvRow). is_there core row.disk) core.descriptor.pvs) (status_left core) (option_map_or (copy_left core) core.copy 0)
      (sum_by (request_left after) after.requests) (sum_by (request_left core) core.requests)
      (sum_less (request_left core) (request_left after) others core.requests place o with_its_pin there falls_itself)

  pub falls : is_lost core ≡ false → left_of after < left_of core
  falls votes = subst (λ n. left_of after < n) (sym (lit core on votes)) (subst (λ n. n < work_left core) (sym (lit after on votes)) work_falls)

pub pin_falls : PinFalls
pin_falls place old new sound on votes event =
    subst (λ (s : State). left_of s.core < left_of old.core) (sym (event.is ∙ ap (λ (c : Cached). state old.device (record old.core { requests = slice_set old.core.requests place (record event.request { request = with_pin event.request.request }); cache = c })) (full_is old sound on place event.request event.there event.pins)))
    (falls old sound on place event.request event.there event.pins votes)

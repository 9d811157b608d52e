-- A request that lands leaves less work.
use Rattle.std.proofs.Common.{◌≡◌, ◌≤◌, ◌<◌, ◌+◌, ◌*◌, ℕ, Bool, true, false, if◌then◌else◌, Some, length, slice_get, slice_set, refl, sym, ◌∙◌, ap, subst, arith}
use Rattle.std.specs.Prelude.{count_by}
use Rattle.std.specs.List.{list_any, sum_by}
use Rattle.std.specs.Option.{option_map_or}
use Rattle.lvm_num.specs.declared.descriptor.PvRow.{PvRow}
use Rattle.lvm_num.proofs.Lists.{all_at}
use Rattle.lvm_vol.specs.declared.entry.Outcome.{Outcome}
use Rattle.lvm_mwc.specs.Cache.{Cached, after_unpin}
use Rattle.lvm_path.specs.declared.facts.Next.TheVariants as next
use Rattle.lvm_path.specs.declared.request.Phase.{Phase}
use Rattle.lvm_path.specs.declared.request.Phase.TheVariants as phase
use Rattle.lvm_path.specs.declared.request.Request.{Request}
use Rattle.lvm_path.specs.declared.target.Target.{Target}
use Rattle.lvm_path.specs.Asks.{is_write, lv_of}
use Rattle.lvm_path.specs.Next.{next_in}
use Rattle.lvm_path.specs.Targets.{is_begun, is_done}
use Rattle.lvm_session.specs.declared.open.Open.{Open}
use Rattle.lvm_session.specs.declared.open.Power.TheVariants as power
use Rattle.lvm_session.specs.State.{Core, State, is_there}
use Rattle.lvm_session.specs.Judging.{facts_of, group_of, is_waiting}
use Rattle.lvm_session.specs.Enabled.{is_lost}
use Rattle.lvm_session.specs.Events.{after_landing, landed_as, without_pin}
use Rattle.lvm_session.specs.Left.{begun_left, copy_left, if_so, left_by, left_of, read_left, request_left, status_left, unbegun_left, update_work, waiting_targets, work_left, write_left}
use Rattle.lvm_session.specs.Requests.{IsOpenOne}
use Rattle.lvm_session.specs.Sound.{count_if}
use Rattle.lvm_keeps.specs.Falls.{LandingFalls}
use Rattle.lvm_keeps.proofs.Lists.{count_set}
use Rattle.lvm_keeps.proofs.LeftLemmas.Leaving.{left_same, grows}
use Rattle.lvm_keeps.proofs.FallsLemmas.Pin.{sum_less}
use Rattle.lvm_keeps.proofs.RequestsLemmas.{changed}

-- ---- something is left of a request that hasn't landed

of_two : (b : Bool) (x y : ℕ) → 1 ≤ x → 1 ≤ y → 1 ≤ (if b then x else y)
of_two true x y left right = left
of_two false x y left right = right

read_some : (p : Phase) (r : Request) → 1 ≤ read_left p r
read_some phase.Held r = omega arith
read_some phase.WantEntry r = of_two (list_any (λ (t : Target). is_done t.state) r.targets.items) 1 (1 + 2 * waiting_targets r) (omega arith) (omega arith)
read_some phase.WantRecord r = of_two (list_any (λ (t : Target). is_done t.state) r.targets.items) 1 (1 + 2 * waiting_targets r) (omega arith) (omega arith)
read_some phase.Data r = of_two (list_any (λ (t : Target). is_done t.state) r.targets.items) 1 (1 + 2 * waiting_targets r) (omega arith) (omega arith)
read_some phase.WantStatus r = of_two (list_any (λ (t : Target). is_done t.state) r.targets.items) 1 (1 + 2 * waiting_targets r) (omega arith) (omega arith)
read_some phase.Landed r = of_two (list_any (λ (t : Target). is_done t.state) r.targets.items) 1 (1 + 2 * waiting_targets r) (omega arith) (omega arith)

pub left_some : (core : Core) (o : Open) → 1 ≤ (if is_write o.request.ask then write_left core o.request else read_left o.request.phase o.request)
left_some core o = of_two (is_write o.request.ask) (write_left core o.request) (read_left o.request.phase o.request) (of_two (is_begun o.request.targets.items) (begun_left o.request) (unbegun_left core o.request) (omega arith) (omega arith)) (read_some o.request.phase o.request)

some_left : (core : Core) (o : Open) → is_waiting o ≡ true → 1 ≤ request_left core o
some_left core o waits = subst (λ b. 1 ≤ if_so b (if is_write o.request.ask then write_left core o.request else read_left o.request.phase o.request)) (sym waits) (left_some core o)

-- ---- the landing

only_entries : (cache : Cached) (r : Request) → without_pin cache r ≡ record cache { entries = (without_pin cache r).entries }
only_entries cache r = by r.pinned
  where
    by : (b : Bool) → (if b then after_unpin cache (lv_of r.ask) (group_of r.ask) else cache) ≡ record cache { entries = (if b then after_unpin cache (lv_of r.ask) (group_of r.ask) else cache).entries }
    by true = refl
    by false = refl

module _ (core : Core) (place : ℕ) (o : Open) (how : Outcome) (on : core.power ≡ power.On) (there : slice_get core.requests place ≡ Some o) (waits : is_waiting o ≡ true) where
  abbrev made : Core
  made = after_landing core place o how

  abbrev after : Core
  after = changed core made.history (slice_set core.requests place (landed_as how o)) made.queue core.copy made.pool core.flying (without_pin core.cache o.request).entries core.last

  same : made ≡ after
  same = ap (λ (c : Cached). record core { history = made.history; requests = slice_set core.requests place (landed_as how o); queue = made.queue; pool = made.pool; cache = c }) (only_entries core.cache o.request)

  work_falls : work_left after < work_left core
  work_falls =
      grows (length core.flying) ((update_work + 1) * count_by (λ (row : PvRow). is_there core row.disk) core.descriptor.pvs) (status_left core) (option_map_or (copy_left core) core.copy 0)
      (sum_by (request_left after) after.requests) (sum_by (request_left core) core.requests)
      (sum_less (request_left core) (request_left after) (left_same core made.history (slice_set core.requests place (landed_as how o)) made.queue made.pool core.flying (without_pin core.cache o.request).entries core.last) core.requests place o (landed_as how o) there (some_left core o waits))

  fewer_wait : count_by is_waiting after.requests < count_by is_waiting core.requests
  fewer_wait =
      let all = count_set is_waiting core.requests place o (landed_as how o) there in
      let one : count_if (is_waiting o) ≡ 1 = ap count_if waits in
      omega (arith, all, one)

  falls_so : (b : Bool) → is_lost core ≡ b → left_of after < left_of core
  falls_so b is = subst (λ n. left_of after < n) (sym (is_so core on is)) (subst (λ n. n < (if b then length core.flying + count_by is_waiting core.requests else work_left core)) (sym (is_so after on is)) (by b))
    where
      is_so : (c : Core) → c.power ≡ power.On → is_lost c ≡ b → left_of c ≡ (if b then length c.flying + count_by is_waiting c.requests else work_left c)
      is_so c lit lost = ap (λ p. left_by p c) lit ∙ ap (λ t. if t then length c.flying + count_by is_waiting c.requests else work_left c) lost

      by : (t : Bool) → (if t then length after.flying + count_by is_waiting after.requests else work_left after) < (if t then length core.flying + count_by is_waiting core.requests else work_left core)
      by true = let fewer = fewer_wait in omega (arith, fewer)
      by false = work_falls

  pub falls : left_of made < left_of core
  falls = subst (λ (c : Core). left_of c < left_of core) (sym same) (falls_so (is_lost core) refl)

pub landing_falls : LandingFalls
landing_falls place how old new sound on event =
    subst (λ (s : State). left_of s.core < left_of old.core) (sym event.is) (falls old.core place event.request how on event.there (by (is_waiting event.request) refl))
  where
    its : IsOpenOne old.core event.request
    its = all_at (IsOpenOne old.core) old.core.requests place event.request (sound.on on).going.requests event.there

    by : (b : Bool) → is_waiting event.request ≡ b → b ≡ true
    by true is = refl
    by false is = absurd (let none : next.Wait ≡ next.Land how = sym (ap (λ (p : Phase). next_in p (facts_of old.core event.request.request) event.request.request) (its.over is).phase_is) ∙ event.lands in cc)

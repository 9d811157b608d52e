-- The start of a transfer of a request leaves less work.
use Rattle.std.proofs.Common.{◌≡◌, ◌⊎◌, inl, inr, ◌≤◌, ◌<◌, ◌+◌, ◌*◌, ◌&&◌, ℕ, zero, suc, Bool, true, false, not, List, [], ◌∷◌, ◌++◌, Some, length, length-append, slice_get, slice_set, if◌then◌else◌, refl, sym, ◌∙◌, ap, subst, arith}
use Rattle.std.specs.Prelude.{count_by}
use Rattle.std.specs.List.{list_any, sum_by}
use Rattle.std.specs.Option.{option_map_or}
use Rattle.std.proofs.lemmas.List.Sums.{count_by-le-length, sum_by-cons}
use Rattle.lvm_num.specs.declared.descriptor.PvRow.{PvRow}
use Rattle.lvm_num.proofs.Booleans.{not_so}
use Rattle.lvm_num.proofs.Lists.{all_at}
use Rattle.lvm_sched.specs.declared.writes.TargetState.TheVariants as stage
use Rattle.lvm_sched.specs.Writes.{is_waiting as is_unstarted}
use Rattle.lvm_path.specs.declared.request.Phase.{Phase}
use Rattle.lvm_path.specs.declared.request.Phase.TheVariants as phase
use Rattle.lvm_path.specs.declared.target.Target.{Target}
use Rattle.lvm_path.specs.Asks.{is_write}
use Rattle.lvm_path.specs.Targets.{are_over, is_begun, is_done}
use Rattle.lvm_session.specs.declared.flown.Flown.{Flown}
use Rattle.lvm_session.specs.declared.flown.Owner.TheVariants as owner
use Rattle.lvm_session.specs.declared.open.Open.{Open}
use Rattle.lvm_session.specs.declared.open.Power.TheVariants as power
use Rattle.lvm_session.specs.State.{Core, State, is_there}
use Rattle.lvm_session.specs.Judging.{copies_for, facts_of, is_changed, is_waiting}
use Rattle.lvm_session.specs.Enabled.{is_lost, target_due}
use Rattle.lvm_session.specs.Events.{begun_as, flown}
use Rattle.lvm_session.specs.Left.{begun_left, copy_left, if_so, is_held, lacks_dirty, left_of, phase_left, read_left, request_left, status_left, turns_of, unbegun_left, update_work, waiting_targets, work_left, write_left}
use Rattle.lvm_session.specs.Requests.{IsOpenOne, IsPhase, IsRequest}
use Rattle.lvm_session.specs.Sound.{IsSound, count_if}
use Rattle.lvm_keeps.proofs.LeftLemmas.Leaving.{left_same, lit}
use Rattle.lvm_keeps.proofs.Lists.{any_set, count_set}
use Rattle.lvm_keeps.proofs.FallsLemmas.Pin.{sum_same}
use Rattle.lvm_keeps_events.specs.Falls.{DataStartFalls}
use Rattle.lvm_keeps_events.proofs.TargetsLemmas.{any_here, at_state, set_state}
use Rattle.lvm_keeps_events.proofs.KeepsLemmas.DataStart.{unstarted}
use Rattle.lvm_keeps_events.proofs.WritesLemmas.{StartsAt, starts_at}

module _ {A : Type 0} (f g : A → ℕ) (same : (z : A) → g z ≡ f z) where
  sum_set : (xs : List A) (k : ℕ) (x y : A) → slice_get xs k ≡ Some x → sum_by g (slice_set xs k y) + f x ≡ sum_by f xs + g y
  sum_set [] k x y there = absurd (cc there)
  sum_set (z ∷ xs) zero x y there =
      let is : z ≡ x = cc there in
      let new = sum_by-cons g y xs in
      let old = sum_by-cons f z xs in
      let rest = sum_same f g same xs in
      let at : f z ≡ f x = ap f is in
      omega (arith, new, old, rest, at)
  sum_set (z ∷ xs) (suc k) x y there =
      let new = sum_by-cons g z (slice_set xs k y) in
      let old = sum_by-cons f z xs in
      let head = same z in
      let rest = sum_set xs k x y there in
      omega (arith, new, old, head, rest)

module _ (core : Core) (place target : ℕ) (o : Open) (there : slice_get core.requests place ≡ Some o) (waits : is_waiting o ≡ true) (its : IsRequest core o) (most : length o.request.targets.items ≤ 4)
    (aim : Target) (aim_is : slice_get o.request.targets.items target ≡ Some aim) (start : StartsAt o.request.phase (facts_of core o.request) o.request target) (row : Flown) (pool : List Bool) where
  abbrev targets : List Target
  targets = o.request.targets.items

  abbrev flying : Target
  flying = at_state aim stage.Flying

  abbrev begun : Open
  begun = record o { request = record o.request { phase = phase.Data; targets = record { items = slice_set targets target flying } } }

  abbrev after : Core
  after = record core { requests = slice_set core.requests place begun; flying = core.flying ++ row ∷ []; pool = pool }

  fewer_wait : waiting_targets begun.request + 1 ≡ waiting_targets o.request
  fewer_wait =
      let all = count_set (λ (t : Target). is_unstarted t.state) targets target aim flying aim_is in
      let one : count_if (is_unstarted aim.state) ≡ 1 = ap count_if (start.waits aim aim_is) in
      omega (arith, all, one)

  few_wait : waiting_targets o.request ≤ 4
  few_wait = let low = count_by-le-length (λ (t : Target). is_unstarted t.state) targets in omega (arith, low, most)

  begun_so : is_begun (slice_set targets target flying) ≡ true
  begun_so = any_here (λ (t : Target). not (is_unstarted t.state)) targets target aim flying aim_is refl

  at_most_update : (b : Bool) → if_so b update_work ≤ 256
  at_most_update true = omega arith
  at_most_update false = omega arith

  -- a write that has started is left with its other targets, and its end
  of_write : is_write o.request.ask ≡ true → request_left after begun + 2 ≤ request_left core o
  of_write write = by (is_begun targets) refl
    where
      is_left : (c : Core) → request_left c o ≡ write_left c o.request
      is_left c = ap (λ b. if_so b (if is_write o.request.ask then write_left c o.request else read_left o.request.phase o.request)) waits ∙ ap (λ b. if b then write_left c o.request else read_left o.request.phase o.request) write

      new : request_left after begun ≡ begun_left begun.request
      new = ap (λ b. if_so b (if is_write o.request.ask then write_left after begun.request else read_left phase.Data begun.request)) waits
          ∙ ap (λ b. if b then write_left after begun.request else read_left phase.Data begun.request) write ∙ ap (λ b. if b then begun_left begun.request else unbegun_left after begun.request) begun_so

      phase_some : (o.request.phase ≡ phase.WantRecord) ⊎ (o.request.phase ≡ phase.Data) → 9 ≤ phase_left o.request.phase core o.request
      phase_some (inl is) = subst (λ p. 9 ≤ phase_left p core o.request) (sym is) (omega arith)
      phase_some (inr is) = subst (λ p. 9 ≤ phase_left p core o.request) (sym is) (omega arith)

      -- it hadn't ended, or hadn't begun
      not_over : is_begun targets ≡ true → if_so (not (are_over targets)) update_work ≡ 256
      not_over goes = of_phase start.may
        where
          of_phase : (o.request.phase ≡ phase.WantRecord) ⊎ (o.request.phase ≡ phase.Data) → if_so (not (are_over targets)) update_work ≡ 256
          of_phase (inl is) = not_so (sym (subst (λ p. IsPhase p o) is its.shape.phase_is).0 ∙ goes)
          of_phase (inr is) = ap (λ b. if_so (not b) update_work) ((subst (λ p. IsPhase p o) is its.shape.phase_is).1 write)

      by : (b : Bool) → is_begun targets ≡ b → request_left after begun + 2 ≤ request_left core o
      by true is =
          let old = is_left core ∙ ap (λ b. if b then begun_left o.request else unbegun_left core o.request) is in
          let less = fewer_wait in
          let end = not_over is in
          let end_now = at_most_update (not (are_over (slice_set targets target flying))) in
          let now = new in
          omega (arith, old, less, end, end_now, now)
      by false is =
          let old = is_left core ∙ ap (λ b. if b then begun_left o.request else unbegun_left core o.request) is in
          let less = fewer_wait in
          let few = few_wait in
          let some = phase_some start.may in
          let end_now = at_most_update (not (are_over (slice_set targets target flying))) in
          let now = new in
          omega (arith, old, less, few, some, end_now, now)

  -- a read is left with its other copies
  of_read : is_write o.request.ask ≡ false → request_left after begun + 2 ≤ request_left core o
  of_read read = by start.may
    where
      by : (o.request.phase ≡ phase.WantRecord) ⊎ (o.request.phase ≡ phase.Data) → request_left after begun + 2 ≤ request_left core o
      by (inl is) = absurd (let no : true ≡ false = sym (subst (λ p. IsPhase p o) is its.shape.phase_is).1 ∙ read in cc)
      by (inr is) =
          let none = (start.alone is read).1 in
          let old : request_left core o ≡ 1 + 2 * waiting_targets o.request =
          ap (λ b. if_so b (if is_write o.request.ask then write_left core o.request else read_left o.request.phase o.request)) waits
          ∙ ap (λ b. if b then write_left core o.request else read_left o.request.phase o.request) read ∙ ap (λ p. read_left p o.request) is
          ∙ ap (λ b. if b then 1 else 1 + 2 * waiting_targets o.request) none in
          let new : request_left after begun ≡ 1 + 2 * waiting_targets begun.request =
          ap (λ b. if_so b (if is_write o.request.ask then write_left after begun.request else read_left phase.Data begun.request)) waits
          ∙ ap (λ b. if b then write_left after begun.request else read_left phase.Data begun.request) read
          ∙ ap (λ b. if b then 1 else 1 + 2 * waiting_targets begun.request)
          (any_set (λ (t : Target). is_done t.state) targets target aim flying aim_is (sym (ap is_done (unstarted aim.state (start.waits aim aim_is)))) ∙ none) in
          let less = fewer_wait in
          omega (arith, old, new, less)

  falls_itself : request_left after begun + 2 ≤ request_left core o
  falls_itself = by (is_write o.request.ask) refl
    where
      by : (b : Bool) → is_write o.request.ask ≡ b → request_left after begun + 2 ≤ request_left core o
      by true write = of_write write
      by false read = of_read read

  pub falls : work_left after < work_left core
  falls =
      let longer = length-append core.flying (row ∷ []) in
      let sums = sum_set (request_left core) (request_left after) (left_same core core.history (slice_set core.requests place begun) core.queue pool (core.flying ++ row ∷ []) core.cache.entries core.last) core.requests place o begun there in
      let less = falls_itself in
      grows (length core.flying) (length after.flying) ((update_work + 1) * count_by (λ (r : PvRow). is_there core r.disk) core.descriptor.pvs) (status_left core) (sum_by (request_left core) core.requests) (sum_by (request_left after) after.requests)
      (request_left core o) (request_left after begun) (option_map_or (copy_left core) core.copy 0) longer sums less
    where
      grows : (n m a b x y p q k : ℕ) → m ≡ n + 1 → y + p ≡ x + q → q + 2 ≤ p → m + a + b + y + k < n + a + b + x + k
      grows n m a b x y p q k longer sums less = omega (arith, longer, sums, less)

pub data_start_falls : DataStartFalls
data_start_falls place target old new sound on votes event =
    subst (λ (s : State). left_of s.core < left_of old.core) (sym (event.is ∙ ap (λ (items : List Target). record { device = new.device; core = made (record o { request = record o.request { phase = phase.Data; targets = record { items = items } } }) }) (set_state o.request.targets.items target event.its.aim stage.Flying event.its.aim_is)))
    (subst (λ n. left_of after_so < n) (sym (lit old.core on votes)) (subst (λ n. n < work_left old.core) (sym (lit after_so on votes)) work_falls))
  where
    o : Open
    o = event.its.request

    row : Flown
    row = flown event.flight.ticket event.flight.disk (owner.Data o.request.id target)

    made : Open → Core
    made x = record old.core { requests = slice_set old.core.requests place x; flying = old.core.flying ++ row ∷ []; pool = new.core.pool }

    after_so : Core
    after_so = made (record o { request = record o.request { phase = phase.Data; targets = record { items = slice_set o.request.targets.items target (at_state event.its.aim stage.Flying) } } })

    one : IsOpenOne old.core o
    one = all_at (IsOpenOne old.core) old.core.requests place o (sound.on on).going.requests event.its.there

    start : StartsAt o.request.phase (facts_of old.core o.request) o.request target
    start = starts_at o.request.phase (facts_of old.core o.request) o.request target event.its.due

    waits : is_waiting o ≡ true
    waits = by (is_waiting o) refl
      where
        landed : o.request.phase ≡ phase.Landed → (o.request.phase ≡ phase.WantRecord) ⊎ (o.request.phase ≡ phase.Data) → false ≡ true
        landed e (inl is) = absurd (let no : phase.Landed ≡ phase.WantRecord = sym e ∙ is in cc)
        landed e (inr is) = absurd (let no : phase.Landed ≡ phase.Data = sym e ∙ is in cc)

        by : (b : Bool) → is_waiting o ≡ b → b ≡ true
        by true is = refl
        by false is = landed (one.over is).phase_is start.may

    work_falls : work_left after_so < work_left old.core
    work_falls = falls old.core place target o event.its.there waits (one.waits waits) one.laid.most event.its.aim event.its.aim_is start row new.core.pool

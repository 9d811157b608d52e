-- An admission leaves less work.
use Rattle.std.proofs.Common.{◌≡◌, ◌++◌, ◌⊎◌, inl, inr, ◌==◌, ◌≤◌, ◌<◌, ◌+◌, ◌*◌, ◌&&◌, ◌||◌, ℕ, zero, suc, Bool, true, false, not, nat_le, List, [], ◌∷◌, Option, Some, None, length, map, slice_get, slice_set, if◌then◌else◌, refl, sym, ◌∙◌, ap, subst, arith}
use Rattle.std.specs.Prelude.{count_by}
use Rattle.std.specs.List.{sum_by, AllByRecursion}
use Rattle.std.specs.Option.{option_map_or}
use Rattle.std.proofs.lemmas.Bool.{eq-eqb}
use Rattle.std.proofs.lemmas.List.Sums.{count_by-le-length, sum_by-cons}
use Rattle.lvm_num.specs.declared.descriptor.Mode.{Mode}
use Rattle.lvm_num.specs.declared.descriptor.Mode.TheVariants as mode
use Rattle.lvm_num.specs.declared.descriptor.PvRow.{PvRow}
use Rattle.lvm_num.specs.declared.place.Pp.{Pp}
use Rattle.lvm_num.specs.declared.status.Status.{Status}
use Rattle.lvm_num.specs.Descriptor.{is_member}
use Rattle.lvm_num.specs.Disks.{has}
use Rattle.lvm_num.specs.Status.{calls_dirty}
use Rattle.lvm_num.specs.Votes.{is_enough_to_write, votes_of}
use Rattle.lvm_mwc.specs.declared.entries.CacheEntry.{CacheEntry}
use Rattle.lvm_mwc.specs.Cache.{Cached, flight_names, is_named}
use Rattle.lvm_sched.specs.declared.writes.TargetState.{TargetState}
use Rattle.lvm_sched.specs.declared.writes.TargetState.TheVariants as stage
use Rattle.lvm_sched.specs.Writes.{is_waiting as is_unstarted}
use Rattle.lvm_path.specs.declared.ask.Ask.{Ask}
use Rattle.lvm_path.specs.declared.request.Phase.{Phase}
use Rattle.lvm_path.specs.declared.request.Phase.TheVariants as phase
use Rattle.lvm_path.specs.declared.request.Request.{Request}
use Rattle.lvm_path.specs.declared.target.Target.{Target}
use Rattle.lvm_path.specs.Asks.{is_write, lv_of}
use Rattle.lvm_path.specs.Targets.{is_begun, is_done}
use Rattle.lvm_path.specs.Next.{first_phase}
use Rattle.lvm_status.specs.Update.{Stored}
use Rattle.lvm_session.specs.declared.open.Open.{Open}
use Rattle.lvm_session.specs.declared.open.Power.TheVariants as power
use Rattle.lvm_session.specs.State.{Core, State, is_there}
use Rattle.lvm_session.specs.Judging.{aims, copies_for, group_in, group_of, is_caught, is_changed, is_missing, is_settled, is_stale, is_usable, is_waiting, mode_of, next_for, policy_of, pps_of, same_pps, destination_aims, destinations_for}
use Rattle.lvm_session.specs.Enabled.{is_lost, same_status}
use Rattle.lvm_session.specs.Events.{Chooses, ChoosesBy, admitted_as, after_admission, last_after, makes_dirty, destination_target, target_at, without_pin}
use Rattle.lvm_num.specs.Modes.{is_passive}
use Rattle.lvm_num.proofs.Booleans.{not_so}
use Rattle.lvm_session.specs.Marks.{WantsDirty, WantsDirtyIf}
use Rattle.lvm_keeps.proofs.LeftLemmas.Updates.{open_at}
use Rattle.lvm_session.specs.Left.{begun_left, copy_left, if_so, is_brought_up, is_held, lacks_dirty, lacks_note, left_of, phase_left, read_left, request_left, status_left, destination_turns, turns_of, unbegun_left, update_work, waiting_targets, work_left, write_left}
use Rattle.lvm_session.specs.Requests.{IsPhase}
use Rattle.lvm_session.specs.Sound.{IsSound}
use Rattle.lvm_keeps.proofs.LeftLemmas.Leaving.{left_same, lit}
use Rattle.lvm_keeps.proofs.FallsLemmas.Pin.{sum_less, sum_same}
use Rattle.lvm_keeps.proofs.RequestsLemmas.{changed}
use Rattle.lvm_path.specs.declared.facts.Next.TheVariants as next
use Rattle.lvm_keeps_events.specs.MoveFalls.{AdmissionFalls}
use Rattle.lvm_keeps_events.proofs.KeepsLemmas.Admission.{any_fresh, choice, clean, mark, may, one_of, passive, passive_so, request_of, status_sound, unbegun_so, waits_so, writes}
use Rattle.lvm_keeps_events.proofs.JudgingLemmas.Chosen.{IsChosen}
use Rattle.lvm_keeps_events.proofs.KeepsLemmas.Landing.{only_entries}
use Rattle.lvm_keeps_events.proofs.Marking.{count_alike, dirty_on, filter_alike, missing_same}

-- ---- sums

module _ {A : Type 0} (f g : A → ℕ) (less : (z : A) → g z ≤ f z) where
  sum_most : (xs : List A) → sum_by g xs ≤ sum_by f xs
  sum_most [] = omega arith
  sum_most (x ∷ xs) = let a = sum_by-cons g x xs in let b = sum_by-cons f x xs in let one = less x in let rest = sum_most xs in omega (arith, a, b, one, rest)

  sum_drops : (n : ℕ) (xs : List A) (k : ℕ) (x : A) → slice_get xs k ≡ Some x → g x + n ≤ f x → sum_by g xs + n ≤ sum_by f xs
  sum_drops n [] k x there low = absurd (cc there)
  sum_drops n (z ∷ xs) zero x there low =
      let is : z ≡ x = cc there in
      let here : g z + n ≤ f z = subst (λ y. g y + n ≤ f y) (sym is) low in
      let a = sum_by-cons g z xs in let b = sum_by-cons f z xs in let rest = sum_most xs in omega (arith, a, b, here, rest)
  sum_drops n (z ∷ xs) (suc k) x there low = let a = sum_by-cons g z xs in let b = sum_by-cons f z xs in let one = less z in let rest = sum_drops n xs k x there low in omega (arith, a, b, one, rest)

-- ---- the admission itself

-- the partitions of places, as targets, are those
same_self : (ps : List Pp) (s : State) (ask : Ask) → same_pps (pps_of (map (destination_target s ask) ps)) ps ≡ true
same_self [] s ask = refl
same_self (p ∷ ps) s ask = ap (λ b. b && same_pps (pps_of (map (destination_target s ask) ps)) ps) (ap (λ b. b && p.pp == p.pp) (eq-eqb p.disk p.disk refl) ∙ eq-eqb p.pp p.pp refl) ∙ same_self ps s ask

-- so they are with those of the copies before them
same_both : (ps qs : List Pp) (s : State) (ask : Ask) → same_pps (pps_of (map (target_at s ask) ps ++ map (destination_target s ask) qs)) (ps ++ qs) ≡ true
same_both [] qs s ask = same_self qs s ask
same_both (p ∷ ps) qs s ask = ap (λ b. b && same_pps (pps_of (map (target_at s ask) ps ++ map (destination_target s ask) qs)) (ps ++ qs)) (ap (λ b. b && p.pp == p.pp) (eq-eqb p.disk p.disk refl) ∙ eq-eqb p.pp p.pp refl) ∙ same_both ps qs s ask

module _ (core : Core) (place : ℕ) (o : Open) (there : slice_get core.requests place ≡ Some o) (waits : is_waiting o ≡ true) (unbegun : is_begun o.request.targets.items ≡ false)
    (targets : List Target) (fresh : AllByRecursion (λ (t : Target). t.state ≡ stage.Waiting) targets) (few : is_write o.request.ask ≡ false → length targets ≤ 3) (aimed : is_write o.request.ask ≡ true → same_pps (pps_of targets) (aims core o.request.ask ++ destination_aims core o.request.ask) ≡ true)
    (again : (o.request.phase ≡ phase.Held) ⊎ ((is_write o.request.ask ≡ true) × (is_held o.request.phase ≡ false) × (is_changed core o.request ≡ true))) (entries : List CacheEntry) (last : List ℕ) where
  abbrev made : Open
  made = admitted_as (policy_of core o.request.ask) (mode_of core o.request.ask) targets o

  abbrev after : Core
  after = changed core core.history (slice_set core.requests place made) core.queue core.copy core.pool core.flying entries last

  unbegun_now : is_begun targets ≡ false
  unbegun_now = any_fresh (λ (t : Target). not (is_unstarted t.state)) (λ x e. ap (λ (st : TargetState). not (is_unstarted st)) e) targets fresh

  -- what is left of it beside its phase
  abbrev beside : ℕ
  beside = update_work + sum_by (turns_of core) (copies_for core o.request.ask) + sum_by (destination_turns core) (destinations_for core o.request.ask) + if_so (lacks_dirty core o.request.ask) update_work

  no_note : (ts : List Target) → count_by (lacks_note after made.request) ts ≡ 0
  no_note [] = refl
  no_note (t ∷ ts) = no_note ts

  first_low : (m : Mode) (write several : Bool) → phase_left (first_phase m write several) after made.request ≤ 18
  first_low m false several = omega arith
  first_low mode.Active true true = omega arith
  first_low mode.Active true false = omega arith
  first_low mode.Passive true true = let none = no_note targets in omega (arith, none)
  first_low mode.Passive true false = omega arith
  first_low mode.Off true several = omega arith

  phase_high : (p : Phase) → 9 ≤ phase_left p core o.request
  phase_high phase.Held = omega arith
  phase_high phase.WantEntry = omega arith
  phase_high phase.WantRecord = omega arith
  phase_high phase.Data = omega arith
  phase_high phase.WantStatus = omega arith
  phase_high phase.Landed = omega arith

  of_write : is_write o.request.ask ≡ true → request_left after made < request_left core o
  of_write write = by again
    where
      new_is : request_left after made ≡ beside + if_so (not (is_held made.request.phase) && is_changed after made.request) 12 + phase_left made.request.phase after made.request
      new_is = ap (λ b. if_so b (if is_write o.request.ask then write_left after made.request else read_left made.request.phase made.request)) waits
          ∙ ap (λ b. if b then write_left after made.request else read_left made.request.phase made.request) write ∙ ap (λ b. if b then begun_left made.request else unbegun_left after made.request) unbegun_now

      old_is : request_left core o ≡ beside + if_so (not (is_held o.request.phase) && is_changed core o.request) 12 + phase_left o.request.phase core o.request
      old_is = ap (λ b. if_so b (if is_write o.request.ask then write_left core o.request else read_left o.request.phase o.request)) waits
          ∙ ap (λ b. if b then write_left core o.request else read_left o.request.phase o.request) write ∙ ap (λ b. if b then begun_left o.request else unbegun_left core o.request) unbegun

      settled : if_so (not (is_held made.request.phase) && is_changed after made.request) 12 ≡ 0
      settled = ap (λ b. if_so (not (is_held made.request.phase) && (is_write o.request.ask && not b)) 12) (aimed write) ∙ none (not (is_held made.request.phase)) (is_write o.request.ask)
        where
          none : (a b : Bool) → if_so (a && (b && false)) 12 ≡ 0
          none true true = refl
          none true false = refl
          none false b = refl

      by : (o.request.phase ≡ phase.Held) ⊎ ((is_write o.request.ask ≡ true) × (is_held o.request.phase ≡ false) × (is_changed core o.request ≡ true)) → request_left after made < request_left core o
      by (inl held) =
          let new = new_is in
          let old = old_is in
          let zero_now = settled in
          let low = first_low (mode_of core o.request.ask) (is_write o.request.ask) (nat_le 2 (length targets)) in
          let high : phase_left o.request.phase core o.request ≡ 19 = ap (λ p. phase_left p core o.request) held in
          omega (arith, new, old, zero_now, low, high)
      by (inr re) =
          let new = new_is in
          let old = old_is in
          let zero_now = settled in
          let low = first_low (mode_of core o.request.ask) (is_write o.request.ask) (nat_le 2 (length targets)) in
          let high = phase_high o.request.phase in
          let twelve : if_so (not (is_held o.request.phase) && is_changed core o.request) 12 ≡ 12 = ap (λ b. if_so (not b && is_changed core o.request) 12) re.1 ∙ ap (λ b. if_so b 12) re.2 in
          omega (arith, new, old, zero_now, low, high, twelve)

  of_read : is_write o.request.ask ≡ false → request_left after made < request_left core o
  of_read read = by again
    where
      by : (o.request.phase ≡ phase.Held) ⊎ ((is_write o.request.ask ≡ true) × (is_held o.request.phase ≡ false) × (is_changed core o.request ≡ true)) → request_left after made < request_left core o
      by (inr re) = absurd (let no : true ≡ false = sym re.0 ∙ read in cc)
      by (inl held) =
          let old : request_left core o ≡ 8 =
          ap (λ b. if_so b (if is_write o.request.ask then write_left core o.request else read_left o.request.phase o.request)) waits
          ∙ ap (λ b. if b then write_left core o.request else read_left o.request.phase o.request) read ∙ ap (λ p. read_left p o.request) held in
          let new : request_left after made ≡ 1 + 2 * waiting_targets made.request =
          ap (λ b. if_so b (if is_write o.request.ask then write_left after made.request else read_left made.request.phase made.request)) waits
          ∙ ap (λ b. if b then write_left after made.request else read_left (first_phase (mode_of core o.request.ask) b (nat_le 2 (length targets))) made.request) read
          ∙ ap (λ b. if b then 1 else 1 + 2 * waiting_targets made.request) (any_fresh (λ (t : Target). is_done t.state) (λ x e. ap is_done e) targets fresh) in
          let low = count_by-le-length (λ (t : Target). is_unstarted t.state) targets in
          let short = few read in
          omega (arith, old, new, low, short)

  falls_itself : request_left after made < request_left core o
  falls_itself = by (is_write o.request.ask) refl
    where
      by : (b : Bool) → is_write o.request.ask ≡ b → request_left after made < request_left core o
      by true write = of_write write
      by false read = of_read read

  pub falls : work_left after < work_left core
  falls =
      grows (length core.flying) ((update_work + 1) * count_by (λ (row : PvRow). is_there core row.disk) core.descriptor.pvs) (status_left core) (option_map_or (copy_left core) core.copy 0)
      (sum_by (request_left after) after.requests) (sum_by (request_left core) core.requests)
      (sum_less (request_left core) (request_left after) (left_same core core.history (slice_set core.requests place made) core.queue core.pool core.flying entries last) core.requests place o made there falls_itself)
    where
      grows : (a b c d x y : ℕ) → x < y → a + b + c + x + d < a + b + c + y + d
      grows a b c d x y less = omega (arith, less)

-- ---- the mark

module _ (s : State) (sound : IsSound s) (on : s.core.power ≡ power.On) (place : ℕ) (o : Open) (there : slice_get s.core.requests place ≡ Some o) (admits : next_for s.core o ≡ next.Admit)
    (targets : List Target) (order : List ℕ) (chooses : Chooses s o.request.ask targets order) (status : Stored) (makes : makes_dirty s.core o.request.ask targets ≡ true) (wants : WantsDirty (lv_of o.request.ask) s.core.status status) where
  abbrev core : Core
  core = s.core

  abbrev between : Core
  between = record core { status = record core.status { wanted = status.wanted; writes = status.writes } }

  missing_so : (d : ℕ) → is_missing between d ≡ is_missing core d
  missing_so = missing_same s sound on (lv_of o.request.ask) status.wanted status.writes (mark s sound on place o there admits targets order chooses status makes wants).like (mark s sound on place o there admits targets order chooses status makes wants).started
      (status_sound s sound on place o there admits targets order chooses status makes wants) (one_of s sound on place o there admits).laid.within.row (one_of s sound on place o there admits).laid.within.volume (passive s sound on place o there admits targets order chooses status makes wants) (clean s sound on place o there admits targets order chooses status makes wants)
      (λ n. open_at s.core.requests place o n there)

  dirty_so : (number : ℕ) → calls_dirty core.status.wanted number ≡ true → calls_dirty status.wanted number ≡ true
  dirty_so = dirty_on s sound on (lv_of o.request.ask) status.wanted status.writes (mark s sound on place o there admits targets order chooses status makes wants).like (mark s sound on place o there admits targets order chooses status makes wants).started
      (status_sound s sound on place o there admits targets order chooses status makes wants) (one_of s sound on place o there admits).laid.within.row (one_of s sound on place o there admits).laid.within.volume (passive s sound on place o there admits targets order chooses status makes wants) (clean s sound on place o there admits targets order chooses status makes wants)
      (λ n. open_at s.core.requests place o n there)

  usable_so : (p : Pp) → is_usable between p ≡ is_usable core p
  usable_so p = ap (λ b. not (is_stale core p) && not b) (missing_so p.disk)

  there_so : (d : ℕ) → is_there between d ≡ is_there core d
  there_so d = ap (λ b. is_member core.descriptor d && not b) (missing_so d)

  turns_so : (p : Pp) → turns_of between p ≡ turns_of core p
  turns_so p =
      ap (λ (b : Bool). if b then 0 else if is_usable between p then (if is_brought_up core p then 34 else 22) else if is_brought_up core p then 46 else if is_settled core p then 0 else 34) (missing_so p.disk)
      ∙ ap (λ (b : Bool). if is_missing core p.disk then 0 else if b then (if is_brought_up core p then 34 else 22) else if is_brought_up core p then 46 else if is_settled core p then 0 else 34) (usable_so p)

  place_turns_so : (p : Pp) → destination_turns between p ≡ destination_turns core p
  place_turns_so p = ap (λ (b : Bool). if not b && is_brought_up core p then 46 else 0) (missing_so p.disk)

  pub aims_so : (ask : Ask) → aims between ask ≡ aims core ask
  aims_so ask = filter_alike (λ (p : Pp). is_usable between p || is_caught core (group_in core ask) p) (λ (p : Pp). is_usable core p || is_caught core (group_in core ask) p) (λ p. ap (λ b. b || is_caught core (group_in core ask) p) (usable_so p)) (copies_for core ask)

  pub changed_so : (r : Request) → is_changed between r ≡ is_changed core r
  changed_so r = ap (λ (ps : List Pp). is_write r.ask && not (same_pps (pps_of r.targets.items) (ps ++ destination_aims core r.ask))) (aims_so r.ask)

  phase_so : (p : Phase) (r : Request) → phase_left p between r ≡ phase_left p core r
  phase_so phase.Held r = refl
  phase_so phase.WantEntry r = refl
  phase_so phase.WantRecord r = ap (λ n. 9 + 2 * n) (count_alike (lacks_note between r) (lacks_note core r)
      (λ t. ap (λ b. r.pinned && not b && not (is_named core.cache t.pp.disk (lv_of r.ask) (group_of r.ask)) && not (flight_names core.cache t.pp.disk (lv_of r.ask) (group_of r.ask))) (missing_so t.pp.disk)) r.targets.items)
  phase_so phase.Data r = refl
  phase_so phase.WantStatus r = refl
  phase_so phase.Landed r = refl

  dirty_less : (ask : Ask) → if_so (lacks_dirty between ask) update_work ≤ if_so (lacks_dirty core ask) update_work
  dirty_less ask = by (is_passive (mode_of core ask)) (calls_dirty core.status.wanted (lv_of ask)) (calls_dirty status.wanted (lv_of ask)) refl refl
    where
      most : (b : Bool) → if_so b update_work ≤ 256
      most true = omega arith
      most false = omega arith

      by : (p a b : Bool) → calls_dirty core.status.wanted (lv_of ask) ≡ a → calls_dirty status.wanted (lv_of ask) ≡ b → if_so (p && not b) update_work ≤ if_so (p && not a) update_work
      by false a b e f = omega arith
      by true false b e f = most (not b)
      by true true true e f = omega arith
      by true true false e f = not_so (sym f ∙ dirty_so (lv_of ask) e)

  unbegun_less : (r : Request) → unbegun_left between r ≤ unbegun_left core r
  unbegun_less r =
      let turns = sum_same (turns_of core) (turns_of between) turns_so (copies_for core r.ask) in
      let place = sum_same (destination_turns core) (destination_turns between) place_turns_so (destinations_for core r.ask) in
      let dirty = dirty_less r.ask in
      let changed_now : if_so (not (is_held r.phase) && is_changed between r) 12 ≡ if_so (not (is_held r.phase) && is_changed core r) 12 = ap (λ b. if_so (not (is_held r.phase) && b) 12) (changed_so r) in
      let phases = phase_so r.phase r in
      omega (arith, turns, place, dirty, changed_now, phases)

  of_unbegun : (a b c : Bool) (n m p q : ℕ) → m ≤ n → if_so a (if b then (if c then p else m) else q) ≤ if_so a (if b then (if c then p else n) else q)
  of_unbegun false b c n m p q less = omega arith
  of_unbegun true false c n m p q less = omega arith
  of_unbegun true true true n m p q less = omega arith
  of_unbegun true true false n m p q less = less

  each_less : (x : Open) → request_left between x ≤ request_left core x
  each_less x = of_unbegun (is_waiting x) (is_write x.request.ask) (is_begun x.request.targets.items) (unbegun_left core x.request) (unbegun_left between x.request) (begun_left x.request) (read_left x.request.phase x.request) (unbegun_less x.request)

  -- the one that is admitted has one mark less to be wanted
  itself_less : request_left between o + 256 ≤ request_left core o
  itself_less =
      let new = is_left between in
      let old = is_left core in
      let turns = sum_same (turns_of core) (turns_of between) turns_so (copies_for core o.request.ask) in
      let place_so = sum_same (destination_turns core) (destination_turns between) place_turns_so (destinations_for core o.request.ask) in
      let changed_now : if_so (not (is_held o.request.phase) && is_changed between o.request) 12 ≡ if_so (not (is_held o.request.phase) && is_changed core o.request) 12 = ap (λ b. if_so (not (is_held o.request.phase) && b) 12) (changed_so o.request) in
      let phases = phase_so o.request.phase o.request in
      let was : if_so (lacks_dirty core o.request.ask) update_work ≡ 256 = ap (λ b. if_so (b && not (calls_dirty core.status.wanted (lv_of o.request.ask))) update_work) (passive_so s sound on place o there admits targets order chooses status makes wants) ∙ ap (λ b. if_so (not b) update_work) (clean s sound on place o there admits targets order chooses status makes wants) in
      let is_now : if_so (lacks_dirty between o.request.ask) update_work ≡ 0 = ap (λ b. if_so (is_passive (mode_of core o.request.ask) && not b) update_work) marked_so ∙ none (is_passive (mode_of core o.request.ask)) in
      omega (arith, new, old, turns, place_so, changed_now, phases, was, is_now)
    where
      none : (a : Bool) → if_so (a && false) update_work ≡ 0
      none true = refl
      none false = refl

      marked_so : calls_dirty status.wanted (lv_of o.request.ask) ≡ true
      marked_so = (mark s sound on place o there admits targets order chooses status makes wants).like.dirty (lv_of o.request.ask) ∙ ap (λ (b : Bool). if b then true else calls_dirty core.status.wanted (lv_of o.request.ask)) (eq-eqb (lv_of o.request.ask) (lv_of o.request.ask) refl)

      is_left : (c : Core) → request_left c o ≡ unbegun_left c o.request
      is_left c = ap (λ b. if_so b (if is_write o.request.ask then write_left c o.request else read_left o.request.phase o.request)) (waits_so s sound on place o there admits)
          ∙ ap (λ b. if b then write_left c o.request else read_left o.request.phase o.request) (writes s sound on place o there admits targets order chooses status makes wants)
          ∙ ap (λ b. if b then begun_left o.request else unbegun_left c o.request) (unbegun_so s sound on place o there admits)

  status_more : status_left between ≤ status_left core + 256
  status_more = by core.status.in_flight
    where
      most : (b : Bool) → if_so b update_work ≤ 256
      most true = omega arith
      most false = omega arith

      unstarted : count_by (λ (r : PvRow). has status.writes.unstarted r.disk) core.status.group.pvs ≡ count_by (λ (r : PvRow). has core.status.writes.unstarted r.disk) core.status.group.pvs
      unstarted = count_alike (λ (r : PvRow). has status.writes.unstarted r.disk) (λ (r : PvRow). has core.status.writes.unstarted r.disk) (λ r. (mark s sound on place o there admits targets order chooses status makes wants).unstarted r.disk) core.status.group.pvs

      by : (m : Option Status) → option_map_or (λ (u : Status). 2 * count_by (λ (r : PvRow). has status.writes.unstarted r.disk) core.status.group.pvs + if_so (not (same_status status.wanted u)) update_work) m (if_so (not (same_status status.wanted core.status.committed)) update_work)
          ≤ option_map_or (λ (u : Status). 2 * count_by (λ (r : PvRow). has core.status.writes.unstarted r.disk) core.status.group.pvs + if_so (not (same_status core.status.wanted u)) update_work) m (if_so (not (same_status core.status.wanted core.status.committed)) update_work) + 256
      by None = let high = most (not (same_status status.wanted core.status.committed)) in omega (arith, high)
      by (Some u) = let same = unstarted in let high = most (not (same_status status.wanted u)) in omega (arith, same, high)

  pub no_more : work_left between ≤ work_left core
  no_more =
      let members = count_alike (λ (r : PvRow). is_there between r.disk) (λ (r : PvRow). is_there core r.disk) (λ r. there_so r.disk) core.descriptor.pvs in
      let more = status_more in
      let drops = sum_drops (request_left core) (request_left between) each_less 256 core.requests place o there itself_less in
      omega (arith, members, more, drops)

  pub votes_so : is_lost between ≡ is_lost core
  votes_so = ap (λ n. not (is_enough_to_write core.descriptor n)) (sum_same (λ (r : PvRow). if is_there core r.disk then votes_of core.descriptor r.disk else 0) (λ (r : PvRow). if is_there between r.disk then votes_of core.descriptor r.disk else 0)
      (λ r. ap (λ (b : Bool). if b then votes_of core.descriptor r.disk else 0) (there_so r.disk)) core.descriptor.pvs)

-- ---- an admission

module _ (s : State) (sound : IsSound s) (on : s.core.power ≡ power.On) (votes : is_lost s.core ≡ false) (place : ℕ) (o : Open) (there : slice_get s.core.requests place ≡ Some o) (admits : next_for s.core o ≡ next.Admit)
    (targets : List Target) (order : List ℕ) (chooses : Chooses s o.request.ask targets order) where
  its : IsChosen s o targets
  its = choice s sound on place o there admits targets order chooses

  aimed_so : is_write o.request.ask ≡ true → same_pps (pps_of targets) (aims s.core o.request.ask ++ destination_aims s.core o.request.ask) ≡ true
  aimed_so write = by (subst (λ b. ChoosesBy b s o.request.ask targets order) write chooses)
    where
      by : ChoosesBy true s o.request.ask targets order → same_pps (pps_of targets) (aims s.core o.request.ask ++ destination_aims s.core o.request.ask) ≡ true
      by it = ap (λ (ts : List Target). same_pps (pps_of ts) (aims s.core o.request.ask ++ destination_aims s.core o.request.ask)) it.0 ∙ same_both (aims s.core o.request.ask) (destination_aims s.core o.request.ask) s o.request.ask

  again_so : (o.request.phase ≡ phase.Held) ⊎ ((is_write o.request.ask ≡ true) × (is_held o.request.phase ≡ false) × (is_changed s.core o.request ≡ true))
  again_so = by (may s sound on place o there admits).waits
    where
      other : (p : Phase) → o.request.phase ≡ p → (p ≡ phase.Held → ⊥) → is_changed s.core o.request ≡ true
      other p is none = (may s sound on place o there admits).again (λ e. none (sym is ∙ e))

      by : (o.request.phase ≡ phase.Held) ⊎ (o.request.phase ≡ phase.WantEntry) ⊎ (o.request.phase ≡ phase.WantRecord) ⊎ ((o.request.phase ≡ phase.Data) × (is_write o.request.ask ≡ true) × (is_begun o.request.targets.items ≡ false))
          → (o.request.phase ≡ phase.Held) ⊎ ((is_write o.request.ask ≡ true) × (is_held o.request.phase ≡ false) × (is_changed s.core o.request ≡ true))
      by (inl is) = inl is
      by (inr (inl is)) = inr ((subst (λ p. IsPhase p o) is (request_of s sound on place o there admits).shape.phase_is).2, ap is_held is, other phase.WantEntry is (λ e. cc e))
      by (inr (inr (inl is))) = inr ((subst (λ p. IsPhase p o) is (request_of s sound on place o there admits).shape.phase_is).1, ap is_held is, other phase.WantRecord is (λ e. cc e))
      by (inr (inr (inr is))) = inr (is.1, ap is_held is.0, other phase.Data is.0 (λ e. cc e))

  unmarked_falls : left_of (record (after_admission s.core place o targets order) { status = s.core.status }) < left_of s.core
  unmarked_falls =
      subst (λ (c : Cached). left_of (record (after_admission s.core place o targets order) { cache = c }) < left_of s.core) (sym (only_entries s.core.cache o.request))
      (subst (λ n. left_of after_so < n) (sym (lit s.core on votes)) (subst (λ n. n < work_left s.core) (sym (lit after_so on votes))
      (falls s.core place o there (waits_so s sound on place o there admits) (unbegun_so s sound on place o there admits) targets its.fresh its.few_to_read aimed_so again_so (without_pin s.core.cache o.request).entries (last_after s.core.last (lv_of o.request.ask) order))))
    where
      after_so : Core
      after_so = changed s.core s.core.history (slice_set s.core.requests place (admitted_as (policy_of s.core o.request.ask) (mode_of s.core o.request.ask) targets o)) s.core.queue s.core.copy s.core.pool s.core.flying (without_pin s.core.cache o.request).entries (last_after s.core.last (lv_of o.request.ask) order)

  marked_falls : (status : Stored) → makes_dirty s.core o.request.ask targets ≡ true → WantsDirty (lv_of o.request.ask) s.core.status status → left_of (record (after_admission s.core place o targets order) { status = status }) < left_of s.core
  marked_falls status makes wants =
      subst (λ (u : Stored). left_of (record (after_admission s.core place o targets order) { status = u }) < left_of s.core) (sym (mark s sound on place o there admits targets order chooses status makes wants).is)
      (subst (λ (c : Cached). left_of (record (after_admission s.core place o targets order) { status = record s.core.status { wanted = status.wanted; writes = status.writes }; cache = c }) < left_of s.core) (sym (only_entries s.core.cache o.request))
      (subst (λ n. left_of after_so < n) (sym (lit s.core on votes)) (subst (λ n. n < work_left s.core) (sym (lit after_so on lost)) all)))
    where
      between : Core
      between = record s.core { status = record s.core.status { wanted = status.wanted; writes = status.writes } }

      after_so : Core
      after_so = changed between s.core.history (slice_set s.core.requests place (admitted_as (policy_of s.core o.request.ask) (mode_of s.core o.request.ask) targets o)) s.core.queue s.core.copy s.core.pool s.core.flying (without_pin s.core.cache o.request).entries (last_after s.core.last (lv_of o.request.ask) order)

      lost : is_lost after_so ≡ false
      lost = votes_so s sound on place o there admits targets order chooses status makes wants ∙ votes

      aimed_between : is_write o.request.ask ≡ true → same_pps (pps_of targets) (aims between o.request.ask ++ destination_aims between o.request.ask) ≡ true
      aimed_between write = ap (λ (ps : List Pp). same_pps (pps_of targets) (ps ++ destination_aims s.core o.request.ask)) (aims_so s sound on place o there admits targets order chooses status makes wants o.request.ask) ∙ aimed_so write

      again_between : (o.request.phase ≡ phase.Held) ⊎ ((is_write o.request.ask ≡ true) × (is_held o.request.phase ≡ false) × (is_changed between o.request ≡ true))
      again_between = by again_so
        where
          by : (o.request.phase ≡ phase.Held) ⊎ ((is_write o.request.ask ≡ true) × (is_held o.request.phase ≡ false) × (is_changed s.core o.request ≡ true)) → (o.request.phase ≡ phase.Held) ⊎ ((is_write o.request.ask ≡ true) × (is_held o.request.phase ≡ false) × (is_changed between o.request ≡ true))
          by (inl is) = inl is
          by (inr is) = inr (is.0, is.1, changed_so s sound on place o there admits targets order chooses status makes wants o.request ∙ is.2)

      all : work_left after_so < work_left s.core
      all =
          let less = falls between place o there (waits_so s sound on place o there admits) (unbegun_so s sound on place o there admits) targets its.fresh its.few_to_read aimed_between again_between (without_pin s.core.cache o.request).entries (last_after s.core.last (lv_of o.request.ask) order) in
          let most = no_more s sound on place o there admits targets order chooses status makes wants in
          both (work_left after_so) (work_left between) (work_left s.core) less most
        where
          both : (a b c : ℕ) → a < b → b ≤ c → a < c
          both a b c less most = omega (arith, less, most)

pub admission_falls : AdmissionFalls
admission_falls place old new sound on votes event =
    subst (λ (s : State). left_of s.core < left_of old.core) (sym event.is) (by (makes_dirty old.core event.request.request.ask event.targets) refl event.dirty)
  where
    by : (b : Bool) → makes_dirty old.core event.request.request.ask event.targets ≡ b → WantsDirtyIf b (lv_of event.request.request.ask) old.core.status new.core.status
        → left_of (record (after_admission old.core place event.request event.targets event.order) { status = new.core.status }) < left_of old.core
    by false is same = subst (λ (u : Stored). left_of (record (after_admission old.core place event.request event.targets event.order) { status = u }) < left_of old.core) (sym same)
        (unmarked_falls old sound on votes place event.request event.there event.admits event.targets event.order event.chosen)
    by true is wants = marked_falls old sound on votes place event.request event.there event.admits event.targets event.order event.chosen new.core.status is wants

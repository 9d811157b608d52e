-- The copy that is open ends: the requests are left with no more.
use Rattle.std.proofs.Common.{◌&&◌, ◌*◌, ◌+◌, ◌++◌, ◌-◌, ◌⊎◌, inl, inr, [], ap, arith, Bool, false, filter, if◌then◌else◌, List, nat_lt, not, refl, Some, sym, true, ◌||◌, ℕ, ◌∙◌, ◌∷◌, ◌≡◌, ◌≤◌}
use Rattle.std.specs.List.{AllByRecursion, list_any}
use Rattle.std.specs.Option.{option_map_or}
use Rattle.std.specs.Prelude.{sum_by}
use Rattle.std.proofs.lemmas.List.Sums.{sum_by-cons}
use Rattle.lvm_num.specs.declared.place.Pp.{Pp}
use Rattle.lvm_hold.specs.Waiting.{Waiting}
use Rattle.lvm_num.specs.Descriptor.{is_pp}
use Rattle.lvm_num.proofs.Booleans.{not_so}
use Rattle.lvm_num.proofs.Lists.{all_weaker}
use Rattle.lvm_path.specs.Asks.{is_write}
use Rattle.lvm_path.specs.Targets.{is_begun}
use Rattle.lvm_path.specs.declared.ask.Ask.{Ask}
use Rattle.lvm_path.specs.declared.request.Request.{Request}
use Rattle.lvm_session.specs.Bringing.{groups_of, is_whole}
use Rattle.lvm_session.specs.Judging.{aims, copies_for, group_in, is_beside_copy, is_caught, is_changed, is_missing, is_running, is_settled, is_usable, is_waiting, destination_aims, destinations_for, destinations_if, pps_of, same_pps}
use Rattle.lvm_session.specs.State.{Core}
use Rattle.lvm_session.specs.declared.bringing.CopyEnd.{CopyEnd}
use Rattle.lvm_session.specs.declared.bringing.OpenCopy.{OpenCopy}
use Rattle.lvm_session.specs.declared.bringing.Step.{Step}
use Rattle.lvm_session.specs.declared.flown.Flown.{Flown}
use Rattle.lvm_session.specs.declared.open.Open.{Open}
use Rattle.lvm_session.specs.Left.{begun_left, copy_left, if_so, is_brought_up, is_held, destination_turns, read_left, request_left, step_left, tried_of, turns_of, unbegun_left, update_work}
use Rattle.lvm_keeps.proofs.KeepsLemmas.Landing.{or_parts}
use Rattle.lvm_keeps.proofs.LeftLemmas.Leaving.{phase_still}
use Rattle.lvm_keeps_events.proofs.JudgingLemmas.DuesMarks.{own_pp, pp_same}
use Rattle.lvm_keeps_events.proofs.Lists.{found_at}
use Rattle.lvm_keeps_events.proofs.EndFallsLemmas.Falling.{each_less, sum_drops, sum_most}

pub filter_same : (t u : Pp → Bool) (ps : List Pp) → AllByRecursion (λ (p : Pp). t p ≡ u p) ps → filter t ps ≡ filter u ps
filter_same t u [] same = refl
filter_same t u (p ∷ ps) same = ap (λ b. if b then p ∷ filter t ps else filter t ps) same.0 ∙ ap (λ (rest : List Pp). if u p then p ∷ rest else rest) (filter_same t u ps same.1)

-- none of a list passes where none is found
each_fails : (t : Pp → Bool) (ps : List Pp) → list_any t ps ≡ false → AllByRecursion (λ (p : Pp). t p ≡ false) ps
each_fails t [] none = tt
each_fails t (p ∷ ps) none = let parts = or_parts (t p) (list_any t ps) none in (parts.0, each_fails t ps parts.1)

module _ (core : Core) (c : OpenCopy) (is : core.copy ≡ Some c) (runs : is_running c ≡ true) (here : is_missing core c.pp.disk ≡ false) (queue : Waiting) (pool : List Bool) (flying : List Flown) (to : Step) (tried : ℕ) (how : CopyEnd) where
  abbrev pub ended : OpenCopy
  ended = record c { step = to; tried = tried; end = Some how }

  abbrev pub now : Core
  now = record core { queue = queue; copy = Some ended; pool = pool; flying = flying }

  brought : (p : Pp) → is_brought_up core p ≡ is_pp p c.pp
  brought p = ap (λ m. option_map_or (λ (k : OpenCopy). is_running k && is_pp p k.pp) m false) is ∙ ap (λ b. b && is_pp p c.pp) runs

  abbrev turns : Bool → Bool → Bool → Bool → ℕ
  turns m u b s = if m then 0 else if u then (if b then 34 else 22) else if b then 46 else if s then 0 else 34

  turns_were : (p : Pp) → turns_of core p ≡ turns (is_missing core p.disk) (is_usable core p) (is_pp p c.pp) (is_settled core p)
  turns_were p = ap (λ b. turns (is_missing core p.disk) (is_usable core p) b (is_settled core p)) (brought p)

  turns_less : (p : Pp) → turns_of now p ≤ turns_of core p
  turns_less p = let was = turns_were p in let low = by (is_missing core p.disk) (is_usable core p) (is_pp p c.pp) (is_settled core p) in omega (arith, was, low)
    where
      by : (m u b s : Bool) → turns m u false s ≤ turns m u b s
      by true u b s = omega arith
      by false true true s = omega arith
      by false true false s = omega arith
      by false false true true = omega arith
      by false false true false = omega arith
      by false false false s = omega arith

  turns_drop : (p : Pp) → is_pp p c.pp ≡ true → turns_of now p + 12 ≤ turns_of core p
  turns_drop p same = let was = turns_were p ∙ ap (λ b. turns (is_missing core p.disk) (is_usable core p) b (is_settled core p)) same in let low = by (is_missing core p.disk) (is_usable core p) (is_settled core p) there in omega (arith, was, low)
    where
      there : is_missing core p.disk ≡ false
      there = ap (λ (q : Pp). is_missing core q.disk) (pp_same p c.pp same) ∙ here

      by : (m u s : Bool) → m ≡ false → turns m u false s + 12 ≤ turns m u true s
      by true u s e = not_so (sym e)
      by false true s e = omega arith
      by false false true e = omega arith
      by false false false e = omega arith

  -- where it isn't among a request's copies the request has the same targets
  aims_same : (ask : Ask) → list_any (λ (p : Pp). is_pp p c.pp) (copies_for core ask) ≡ false → aims now ask ≡ aims core ask
  aims_same ask none = filter_same (λ (p : Pp). is_usable core p || false) (λ (p : Pp). is_usable core p || is_caught core (group_in core ask) p) (copies_for core ask)
      (all_weaker (λ (p : Pp). is_pp p c.pp ≡ false) (λ (p : Pp). is_usable core p || false ≡ is_usable core p || is_caught core (group_in core ask) p)
      (λ p e. sym (ap (λ b. is_usable core p || b) (ap (λ m. option_map_or (λ (k : OpenCopy). is_running k && is_pp p k.pp && nat_lt (group_in core ask) k.cursor) m false) is ∙ ap (λ b. is_running c && b && nat_lt (group_in core ask) c.cursor) e ∙ nothing (is_running c) (nat_lt (group_in core ask) c.cursor))))
      (copies_for core ask) (each_fails (λ (p : Pp). is_pp p c.pp) (copies_for core ask) none))
    where
      nothing : (a x : Bool) → a && false && x ≡ false
      nothing true x = refl
      nothing false x = refl

  -- the place to which it was to move has no turns any more, where there was one
  gone_place : (p : Pp) → destination_turns now p ≡ 0
  gone_place p = by (not (is_missing core p.disk))
    where
      by : (b : Bool) → ◌≡◌ {A = ℕ} (if b && false then 46 else 0) 0
      by true = refl
      by false = refl

  was_place : destination_turns core c.pp ≡ 46
  was_place = ap (λ (b : Bool). if not b && is_brought_up core c.pp then 46 else 0) here ∙ ap (λ (b : Bool). if b then 46 else 0) (brought c.pp ∙ own_pp c.pp)

  places_were : (ask : Ask) → destinations_for core ask ≡ destinations_if (c.moves && is_beside_copy core ask c) c
  places_were ask = ap (λ m. option_map_or (λ (k : OpenCopy). destinations_if (k.moves && is_beside_copy core ask k) k) m []) is

  places_drop : (ask : Ask) (b : Bool) → (c.moves && is_beside_copy core ask c) ≡ b
      → ((destination_aims now ask ≡ destination_aims core ask) × (sum_by (destination_turns now) (destinations_for now ask) ≤ sum_by (destination_turns core) (destinations_for core ask))) ⊎ (sum_by (destination_turns now) (destinations_for now ask) + 12 ≤ sum_by (destination_turns core) (destinations_for core ask))
  places_drop ask false e =
      let were : destinations_for core ask ≡ [] = places_were ask ∙ ap (λ b. destinations_if b c) e in
      let are : destinations_for now ask ≡ [] = ap (λ b. destinations_if b c) e in
      let none : sum_by (destination_turns now) (destinations_for now ask) ≡ 0 = ap (sum_by (destination_turns now)) are in
      inl (ap (filter (is_caught now (group_in core ask))) are ∙ sym (ap (filter (is_caught core (group_in core ask))) were), omega (arith, none))
  places_drop ask true e =
      let were : destinations_for core ask ≡ c.pp ∷ [] = places_were ask ∙ ap (λ b. destinations_if b c) e in
      let are : destinations_for now ask ≡ c.pp ∷ [] = ap (λ b. destinations_if b c) e in
      let old : sum_by (destination_turns core) (destinations_for core ask) ≡ sum_by (destination_turns core) (c.pp ∷ []) = ap (sum_by (destination_turns core)) were in
      let new : sum_by (destination_turns now) (destinations_for now ask) ≡ sum_by (destination_turns now) (c.pp ∷ []) = ap (sum_by (destination_turns now)) are in
      let old_one = sum_by-cons (destination_turns core) c.pp [] in
      let new_one = sum_by-cons (destination_turns now) c.pp [] in
      let high = was_place in
      let low = gone_place c.pp in
      inr (omega (arith, old, new, old_one, new_one, high, low))

  at_most : (a b : Bool) → if_so (a && b) 12 ≤ 12
  at_most true true = omega arith
  at_most true false = omega arith
  at_most false b = omega arith

  unbegun_less : (r : Request) → unbegun_left now r ≤ unbegun_left core r
  unbegun_less r = by (list_any (λ (p : Pp). is_pp p c.pp) (copies_for core r.ask)) refl (places_drop r.ask (c.moves && is_beside_copy core r.ask c) refl)
    where
      all_less : AllByRecursion (λ (p : Pp). turns_of now p ≤ turns_of core p) (copies_for core r.ask)
      all_less = each_less (turns_of core) (turns_of now) turns_less (copies_for core r.ask)

      by : (b : Bool) → list_any (λ (p : Pp). is_pp p c.pp) (copies_for core r.ask) ≡ b
          → ((destination_aims now r.ask ≡ destination_aims core r.ask) × (sum_by (destination_turns now) (destinations_for now r.ask) ≤ sum_by (destination_turns core) (destinations_for core r.ask))) ⊎ (sum_by (destination_turns now) (destinations_for now r.ask) + 12 ≤ sum_by (destination_turns core) (destinations_for core r.ask))
          → unbegun_left now r ≤ unbegun_left core r
      by true some (inl place) =
          let one = found_at (λ (p : Pp). is_pp p c.pp) (copies_for core r.ask) some in
          let drops = sum_drops (turns_of core) (turns_of now) 12 (copies_for core r.ask) one.0 one.1 one.2 (turns_drop one.1 one.3) all_less in
          let fewer = place.1 in
          let most = at_most (not (is_held r.phase)) (is_changed now r) in
          let phases = phase_still core now r refl r.phase in
          omega (arith, drops, fewer, most, phases)
      by true some (inr place) =
          let one = found_at (λ (p : Pp). is_pp p c.pp) (copies_for core r.ask) some in
          let drops = sum_drops (turns_of core) (turns_of now) 12 (copies_for core r.ask) one.0 one.1 one.2 (turns_drop one.1 one.3) all_less in
          let most = at_most (not (is_held r.phase)) (is_changed now r) in
          let phases = phase_still core now r refl r.phase in
          omega (arith, drops, place, most, phases)
      by false none (inr place) =
          let less = sum_most (turns_of core) (turns_of now) (copies_for core r.ask) all_less in
          let most = at_most (not (is_held r.phase)) (is_changed now r) in
          let phases = phase_still core now r refl r.phase in
          omega (arith, less, place, most, phases)
      by false none (inl place) =
          let less = sum_most (turns_of core) (turns_of now) (copies_for core r.ask) all_less in
          let same : if_so (not (is_held r.phase) && is_changed now r) 12 ≡ if_so (not (is_held r.phase) && is_changed core r) 12
          = ap (λ (ps : List Pp). if_so (not (is_held r.phase) && (is_write r.ask && not (same_pps (pps_of r.targets.items) (ps ++ destination_aims now r.ask)))) 12) (aims_same r.ask none)
          ∙ ap (λ (ps : List Pp). if_so (not (is_held r.phase) && (is_write r.ask && not (same_pps (pps_of r.targets.items) (aims core r.ask ++ ps)))) 12) place.0 in
          let fewer = place.1 in
          let phases = phase_still core now r refl r.phase in
          omega (arith, less, fewer, same, phases)

  of_unbegun : (a b d : Bool) (n m p q : ℕ) → m ≤ n → if_so a (if b then (if d then p else m) else q) ≤ if_so a (if b then (if d then p else n) else q)
  of_unbegun false b d n m p q less = omega arith
  of_unbegun true false d n m p q less = omega arith
  of_unbegun true true true n m p q less = omega arith
  of_unbegun true true false n m p q less = less

  pub request_less : (x : Open) → request_left now x ≤ request_left core x
  request_less x = of_unbegun (is_waiting x) (is_write x.request.ask) (is_begun x.request.targets.items) (unbegun_left core x.request) (unbegun_left now x.request) (begun_left x.request) (read_left x.request.phase x.request) (unbegun_less x.request)

  -- what was left of it pays for an update
  pub copy_pays : option_map_or (copy_left core) core.copy 0 ≡ (if is_whole core c then 2 * update_work else 3 * update_work + 16 * (groups_of core - c.cursor - 1) + 8 + step_left c.step (tried_of core c))
  copy_pays = ap (λ m. option_map_or (copy_left core) m 0) is ∙ ap (λ b. if not b then 0 else if is_whole core c then 2 * update_work else 3 * update_work + 16 * (groups_of core - c.cursor - 1) + 8 + step_left c.step (tried_of core c)) runs

  pub copy_high : 512 ≤ option_map_or (copy_left core) core.copy 0
  copy_high = let pays = copy_pays in by (is_whole core c) pays
    where
      by : (b : Bool) → option_map_or (copy_left core) core.copy 0 ≡ (if b then 2 * update_work else 3 * update_work + 16 * (groups_of core - c.cursor - 1) + 8 + step_left c.step (tried_of core c)) → 512 ≤ option_map_or (copy_left core) core.copy 0
      by true pays = omega (arith, pays)
      by false pays = omega (arith, pays)

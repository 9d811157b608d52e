-- How much work is left at most.
use Rattle.std.proofs.Common.{◌≡◌, ◌==◌, ◌≤◌, ◌+◌, ◌-◌, ◌*◌, ◌&&◌, ℕ, zero, suc, Bool, true, false, not, nat_lt, if◌then◌else◌, List, [], ◌∷◌, take, Option, Some, None, length, refl, sym, ◌∙◌, ap, subst, arith}
use Rattle.std.specs.Prelude.{count_by, drop}
use Rattle.std.specs.List.{sum_by, AllByRecursion}
use Rattle.std.specs.Option.{option_map_or}
use Rattle.std.proofs.lemmas.List.Sums.{sum_by-cons, count_by-le-length, sum_by-le-sum_by}
use Rattle.lvm_num.specs.declared.place.Pp.{Pp}
use Rattle.lvm_num.specs.declared.descriptor.LvRow.{LvRow}
use Rattle.lvm_num.specs.declared.descriptor.PvRow.{PvRow}
use Rattle.lvm_num.specs.declared.descriptor.Descriptor.{Descriptor}
use Rattle.lvm_num.specs.declared.status.Status.{Status}
use Rattle.lvm_num.specs.Descriptor.{IsValid, IsVolume, copies_of}
use Rattle.lvm_num.specs.Disks.{Disks, has}
use Rattle.lvm_num.specs.Votes.{is_enough_to_write, total_votes, votes_of}
use Rattle.lvm_num.proofs.MarksLemmas.Maps.{find-Some}
use Rattle.lvm_num.proofs.Booleans.{not_so}
use Rattle.lvm_session.specs.passed.Status.{members_there}
use Rattle.lvm_path.specs.declared.request.Phase.{Phase}
use Rattle.lvm_path.specs.declared.request.Phase.TheVariants as phase
use Rattle.lvm_path.specs.declared.request.Request.{Request}
use Rattle.lvm_path.specs.declared.target.Target.{Target}
use Rattle.lvm_path.specs.Asks.{is_write, lv_of}
use Rattle.lvm_path.specs.Targets.{are_over, is_begun}
use Rattle.lvm_path.specs.passed.Sched.{is_waiting as is_unstarted}
use Rattle.lvm_session.specs.declared.bringing.OpenCopy.{OpenCopy}
use Rattle.lvm_session.specs.declared.bringing.Step.{Step}
use Rattle.lvm_session.specs.declared.bringing.Step.TheVariants as step
use Rattle.lvm_session.specs.declared.open.Open.{Open}
use Rattle.lvm_session.specs.declared.open.Power.{Power}
use Rattle.lvm_session.specs.declared.open.Power.TheVariants as power
use Rattle.lvm_session.specs.State.{Core, is_there}
use Rattle.lvm_session.specs.Judging.{copies_for, is_beside_copy, is_changed, is_missing, is_running, is_settled, is_usable, is_waiting, lp_of, destinations_for, destinations_if}
use Rattle.lvm_session.specs.Bringing.{groups_of, is_whole}
use Rattle.lvm_session.specs.Enabled.{is_lost, same_status}
use Rattle.lvm_session.specs.Left.{begun_left, copy_left, if_so, is_brought_up, is_held, lacks_dirty, lacks_note, left_by, phase_left, destination_turns, read_left, request_left, status_left, step_left, tried_of, turns_of, unbegun_left, unstarted_writes, update_work, waiting_targets, work_left, write_left}
use Rattle.lvm_session.specs.Requests.{IsLaid, IsOpenOne}
use Rattle.lvm_session.specs.Sound.{IsGoing, count_if}
use Rattle.lvm_session.proofs.MovesLemmas.{places_by}
use Rattle.lvm_keeps.specs.Falls.{LeftIsBounded, most_left}

-- ---- what is small

at_most : (b : Bool) (n : ℕ) → if_so b n ≤ n
at_most true n = omega arith
at_most false n = omega arith

of_two : (b : Bool) (x y m : ℕ) → x ≤ m → y ≤ m → (if b then x else y) ≤ m
of_two true x y m left right = left
of_two false x y m left right = right

few_turns : (core : Core) (p : Pp) → turns_of core p ≤ 46
few_turns core p =
    of_two (is_missing core p.disk) 0 _ 46 (omega arith)
    (of_two (is_usable core p) (if is_brought_up core p then 34 else 22) _ 46 (of_two (is_brought_up core p) 34 22 46 (omega arith) (omega arith))
    (of_two (is_brought_up core p) 46 _ 46 (omega arith) (of_two (is_settled core p) 0 34 46 (omega arith) (omega arith))))

sum_few : {A : Type 0} (f : A → ℕ) (xs : List A) → ((x : A) → f x ≤ 46) → length xs ≤ 3 → sum_by f xs ≤ 138
sum_few f [] low few = omega arith
sum_few f (a ∷ []) low few = let s = sum_by-cons f a [] in let x = low a in omega (arith, s, x)
sum_few f (a ∷ b ∷ []) low few = let s = sum_by-cons f a (b ∷ []) in let t = sum_by-cons f b [] in let x = low a in let y = low b in omega (arith, s, t, x, y)
sum_few f (a ∷ b ∷ c ∷ []) low few = let s = sum_by-cons f a (b ∷ c ∷ []) in let t = sum_by-cons f b (c ∷ []) in let u = sum_by-cons f c [] in let x = low a in let y = low b in let z = low c in omega (arith, s, t, u, x, y, z)
sum_few f (a ∷ b ∷ c ∷ d ∷ rest) low few = absurd (omega (arith, few))

few_place_turns : (core : Core) (p : Pp) → destination_turns core p ≤ 46
few_place_turns core p = of_two (not (is_missing core p.disk) && is_brought_up core p) 46 0 46 (omega arith) (omega arith)

-- a copy moves to one place
few_places : (core : Core) (r : Request) → sum_by (destination_turns core) (destinations_for core r.ask) ≤ 46
few_places core r = by core.copy
  where
    by_test : (c : OpenCopy) (b : Bool) → sum_by (destination_turns core) (destinations_if b c) ≤ 46
    by_test c true = let one = sum_by-cons (destination_turns core) c.pp [] in let few = few_place_turns core c.pp in omega (arith, one, few)
    by_test c false = omega arith

    by : (m : Option OpenCopy) → sum_by (destination_turns core) (places_by core r.ask m) ≤ 46
    by None = omega arith
    by (Some c) = by_test c (c.moves && is_beside_copy core r.ask c)

sum_most : {A : Type 0} (f : A → ℕ) (xs : List A) → AllByRecursion (λ (x : A). f x ≤ 1024) xs → sum_by f xs ≤ 1024 * length xs
sum_most f [] all = omega arith
sum_most f (x ∷ xs) all = let s = sum_by-cons f x xs in let low = all.0 in let rest = sum_most f xs all.1 in omega (arith, s, low, rest)

pub take_few : {A : Type 0} (n : ℕ) (xs : List A) → length (take n xs) ≤ n
take_few zero xs = omega arith
take_few (suc n) [] = omega arith
take_few (suc n) (x ∷ xs) = let rest = take_few n xs in omega (arith, rest)

-- a logical partition has at most three copies
few_copies : (core : Core) (r : Request) → IsValid core.descriptor → IsLaid core r → length (copies_for core r.ask) ≤ 3
few_copies core r valid laid =
    let row = laid.within.row in
    let found = find-Some (λ (x : LvRow). x.number == lv_of r.ask) core.descriptor.lvs row laid.within.volume in
    let volume : IsVolume core.descriptor.big row = subst (IsVolume core.descriptor.big) (found.1.2 row) (valid.volumes.each found.1.0 row found.1.1) in
    let copies : row.copies ≤ 3 = volume.copies in
    let few = take_few row.copies (drop (lp_of core r.ask * row.copies) row.map) in
    let same : length (copies_for core r.ask) ≡ length (copies_of row (lp_of core r.ask)) = ap (λ m. length (option_map_or (λ (x : LvRow). copies_of x (lp_of core r.ask)) m [])) laid.within.volume in
    omega (arith, copies, few, same)

-- ---- a request

module _ (core : Core) (r : Request) (valid : IsValid core.descriptor) (laid : IsLaid core r) where
  few_waiting : waiting_targets r ≤ 4
  few_waiting = let few = count_by-le-length (λ (t : Target). is_unstarted t.state) r.targets.items in let most = laid.most in omega (arith, few, most)

  few_notes : count_by (lacks_note core r) r.targets.items ≤ 4
  few_notes = let few = count_by-le-length (lacks_note core r) r.targets.items in let most = laid.most in omega (arith, few, most)

  by_phase : (p : Phase) → phase_left p core r ≤ 19
  by_phase phase.Held = omega arith
  by_phase phase.WantEntry = omega arith
  by_phase phase.WantRecord = let few = few_notes in omega (arith, few)
  by_phase phase.Data = omega arith
  by_phase phase.WantStatus = omega arith
  by_phase phase.Landed = omega arith

  read_low : (p : Phase) → read_left p r ≤ 1024
  read_low phase.Held = omega arith
  read_low phase.WantEntry = of_two _ 1 (1 + 2 * waiting_targets r) 1024 (omega arith) (let few = few_waiting in omega (arith, few))
  read_low phase.WantRecord = of_two _ 1 (1 + 2 * waiting_targets r) 1024 (omega arith) (let few = few_waiting in omega (arith, few))
  read_low phase.Data = of_two _ 1 (1 + 2 * waiting_targets r) 1024 (omega arith) (let few = few_waiting in omega (arith, few))
  read_low phase.WantStatus = of_two _ 1 (1 + 2 * waiting_targets r) 1024 (omega arith) (let few = few_waiting in omega (arith, few))
  read_low phase.Landed = of_two _ 1 (1 + 2 * waiting_targets r) 1024 (omega arith) (let few = few_waiting in omega (arith, few))

  begun_low : begun_left r ≤ 1024
  begun_low = let few = few_waiting in let update = at_most (not (are_over r.targets.items)) update_work in omega (arith, few, update)

  unbegun_low : unbegun_left core r ≤ 1024
  unbegun_low =
      let turns = sum_few (turns_of core) (copies_for core r.ask) (few_turns core) (few_copies core r valid laid) in
      let places = few_places core r in
      let mark = at_most (lacks_dirty core r.ask) update_work in
      let again = at_most (not (is_held r.phase) && is_changed core r) 12 in
      let rest = by_phase r.phase in
      omega (arith, turns, places, mark, again, rest)

request_low : (core : Core) → IsValid core.descriptor → (o : Open) → IsOpenOne core o → request_left core o ≤ 1024
request_low core valid o it =
    let all = of_two (is_write o.request.ask) (write_left core o.request) (read_left o.request.phase o.request) 1024
    (of_two (is_begun o.request.targets.items) (begun_left o.request) (unbegun_left core o.request) 1024 (begun_low core o.request valid it.laid) (unbegun_low core o.request valid it.laid))
    (read_low core o.request valid it.laid o.request.phase) in
    let some = at_most (is_waiting o) (if is_write o.request.ask then write_left core o.request else read_left o.request.phase o.request) in
    omega (arith, all, some)

requests_low : (core : Core) → IsValid core.descriptor → (os : List Open) → AllByRecursion (IsOpenOne core) os → AllByRecursion (λ (o : Open). request_left core o ≤ 1024) os
requests_low core valid [] all = tt
requests_low core valid (o ∷ os) all = (request_low core valid o all.0, requests_low core valid os all.1)

-- ---- the copy

step_low : (at : Step) (tried : ℕ) → step_left at tried ≤ 8
step_low step.Idle tried = omega arith
step_low (step.Reading source) tried = omega arith
step_low (step.Read buf) tried = omega arith
step_low step.Writing tried = omega arith

copy_low : (core : Core) (c : OpenCopy) → copy_left core c ≤ 1024 + 16 * (groups_of core - c.cursor)
copy_low core c =
    let now = step_low c.step (tried_of core c) in
    of_two (not (is_running c)) 0 _ (1024 + 16 * (groups_of core - c.cursor)) (omega arith)
    (of_two (is_whole core c) (2 * update_work) (3 * update_work + 16 * (groups_of core - c.cursor - 1) + 8 + step_left c.step (tried_of core c)) (1024 + 16 * (groups_of core - c.cursor)) (omega arith) (omega (arith, now)))

opened_low : (core : Core) (m : Option OpenCopy) → option_map_or (copy_left core) m 0 ≤ option_map_or (λ (c : OpenCopy). 1024 + 16 * (groups_of core - c.cursor)) m 0
opened_low core None = omega arith
opened_low core (Some c) = copy_low core c

-- ---- the status

no_votes : (d : Descriptor) (set : Disks) (rows : List PvRow) → count_by (λ (row : PvRow). set row.disk) rows ≡ 0 → sum_by (λ (row : PvRow). if set row.disk then votes_of d row.disk else 0) rows ≡ 0
no_votes d set [] none = refl
no_votes d set (row ∷ rows) none = by (set row.disk) refl (λ e. no_votes d set rows e)
  where
    counted : count_by (λ (x : PvRow). set x.disk) (row ∷ rows) ≡ count_if (set row.disk) + count_by (λ (x : PvRow). set x.disk) rows
    counted = sum_by-cons (λ (x : PvRow). count_if (set x.disk)) row rows

    summed : sum_by (λ (x : PvRow). if set x.disk then votes_of d x.disk else 0) (row ∷ rows) ≡ (if set row.disk then votes_of d row.disk else 0) + sum_by (λ (x : PvRow). if set x.disk then votes_of d x.disk else 0) rows
    summed = sum_by-cons (λ (x : PvRow). if set x.disk then votes_of d x.disk else 0) row rows

    by : (b : Bool) → set row.disk ≡ b → (count_by (λ (x : PvRow). set x.disk) rows ≡ 0 → sum_by (λ (x : PvRow). if set x.disk then votes_of d x.disk else 0) rows ≡ 0)
        → sum_by (λ (x : PvRow). if set x.disk then votes_of d x.disk else 0) (row ∷ rows) ≡ 0
    by true is rest = let one : count_if (set row.disk) ≡ 1 = ap count_if is in let all = counted in absurd (omega (arith, one, all, none))
    by false is rest =
        let one : count_if (set row.disk) ≡ 0 = ap count_if is in
        let all = counted in
        let more = rest (omega (arith, one, all, none)) in
        let own : (if set row.disk then votes_of d row.disk else 0) ≡ 0 = ap (λ b. if b then votes_of d row.disk else 0) is in
        let total = summed in
        omega (arith, more, own, total)

enough_none : (d : Descriptor) → is_enough_to_write d 0 ≡ false
enough_none d = by d.quorum (below (total_votes d))
  where
    below : (n : ℕ) → nat_lt n (2 * 0) ≡ false
    below n = grind (arith)

    by : (b : Bool) → nat_lt (total_votes d) (2 * 0) ≡ false → (if b then nat_lt (total_votes d) (2 * 0) else nat_lt 0 0) ≡ false
    by true none = none
    by false none = refl

module _ (core : Core) (going : IsGoing core) (votes : is_lost core ≡ false) where
  abbrev there : ℕ
  there = count_by (λ (row : PvRow). is_there core row.disk) core.descriptor.pvs

  some_there : 1 ≤ there
  some_there = by there refl
    where
      by : (n : ℕ) → there ≡ n → 1 ≤ there
      by zero none = absurd (not_so (sym votes ∙ ap not (ap (is_enough_to_write core.descriptor) (no_votes core.descriptor (is_there core) core.descriptor.pvs none) ∙ enough_none core.descriptor)))
      by (suc n) some = omega (arith, some)

  few_unstarted : unstarted_writes core ≤ there
  few_unstarted =
      subst (λ (g : Descriptor). count_by (λ (row : PvRow). has core.status.writes.unstarted row.disk) g.pvs ≤ there) (sym going.fitting.group)
      (sum_by-le-sum_by (λ (row : PvRow). count_if (has core.status.writes.unstarted row.disk)) (λ (row : PvRow). count_if (is_there core row.disk)) core.descriptor.pvs one)
    where
      one : (row : PvRow) → count_if (has core.status.writes.unstarted row.disk) ≤ count_if (is_there core row.disk)
      one row = by (has core.status.writes.unstarted row.disk) refl
        where
          by : (b : Bool) → has core.status.writes.unstarted row.disk ≡ b → count_if (has core.status.writes.unstarted row.disk) ≤ count_if (is_there core row.disk)
          by true is =
              let member : count_if (is_there core row.disk) ≡ 1 = ap count_if (ap (λ (g : Descriptor). members_there g core.status.wanted row.disk) (sym going.fitting.group) ∙ (going.status.unstarted row.disk is).0) in
              let own : count_if (has core.status.writes.unstarted row.disk) ≡ 1 = ap count_if is in
              omega (arith, member, own)
          by false is = let own : count_if (has core.status.writes.unstarted row.disk) ≡ 0 = ap count_if is in omega (arith, own)

  status_low : status_left core ≤ 256 + 2 * there
  status_low = by core.status.in_flight
    where
      by : (m : Option Status) → option_map_or (λ (u : Status). 2 * unstarted_writes core + if_so (not (same_status core.status.wanted u)) update_work) m (if_so (not (same_status core.status.wanted core.status.committed)) update_work) ≤ 256 + 2 * there
      by None = let one = at_most (not (same_status core.status.wanted core.status.committed)) update_work in omega (arith, one)
      by (Some u) = let few = few_unstarted in let one = at_most (not (same_status core.status.wanted u)) update_work in omega (arith, few, one)

  work_low : work_left core ≤ most_left core
  work_low =
      let status = status_low in
      let some = some_there in
      let requests = sum_most (request_left core) core.requests (requests_low core going.fitting.valid core.requests going.requests) in
      let copy = opened_low core core.copy in
      omega (arith, status, some, requests, copy)

pub left_is_bounded : LeftIsBounded
left_is_bounded s sound = by s.core.power refl
  where
    by : (p : Power) → s.core.power ≡ p → left_by p s.core ≤ most_left s.core
    by power.On on = lit (is_lost s.core) refl
      where
        lit : (b : Bool) → is_lost s.core ≡ b → (if b then length s.core.flying + count_by is_waiting s.core.requests else work_left s.core) ≤ most_left s.core
        lit true lost = let few = count_by-le-length is_waiting s.core.requests in omega (arith, few)
        lit false votes = work_low s.core (sound.on on).going votes
    by power.Off off = omega arith
    by power.Dark dark = omega arith
    by power.Stuck stuck = omega arith

-- What a request that is admitted goes to.
use Rattle.std.proofs.Common.{◌≡◌, ◌≢◌, ◌⊎◌, inl, inr, ◌==◌, ◌≤◌, ◌<◌, ◌+◌, ◌++◌, ◌-◌, ◌*◌, ◌&&◌, ◌||◌, ℕ, zero, suc, Bool, true, false, not, nat_lt, filter, if◌then◌else◌, List, [], ◌∷◌, Option, Some, None, length, map, drop, slice_get, get_or, append-nil, refl, sym, ◌∙◌, ap, subst, arith}
use Rattle.std.specs.Prelude.{All, AllPairs, IfSome, position, slice_index_or, unwrap_or}
use Rattle.std.specs.List.{list_any, remove, AllByRecursion}
use Rattle.std.specs.Option.{option_map_or}
use Rattle.std.proofs.lemmas.Bool.{cases_lt, eq-eqb, eqb-true, ne_eqb}
use Rattle.std.proofs.lemmas.List.{length-append, length-map}
use Rattle.std.proofs.lemmas.List.Elements.{All-nil, All-cons}
use Rattle.std.proofs.lemmas.List.Kept.{AllPairs-cons, AllPairs-filter}
use Rattle.lvm_num.specs.declared.place.Pp.{Pp}
use Rattle.lvm_num.specs.declared.descriptor.LvRow.{LvRow}
use Rattle.lvm_num.specs.declared.descriptor.Policy.{Policy}
use Rattle.lvm_num.specs.Descriptor.{IsVolume, copies_of, is_pp}
use Rattle.lvm_num.specs.Status.{calls_missing, calls_stale}
use Rattle.lvm_num.proofs.MarksLemmas.Maps.{find-Some}
use Rattle.lvm_num.proofs.Booleans.{or_true, not_so}
use Rattle.lvm_num.proofs.Lists.{any_map, all_weaker, by_place, few_filter}
use Rattle.lvm_map.proofs.PlacesLemmas.{laid_out, lp_below, mib_positive}
use Rattle.lvm_vol.specs.declared.entry.Outcome.TheVariants as outcome
use Rattle.lvm_sched.specs.Reads.{AreCopiesAbove, IsReadOrder, others}
use Rattle.lvm_sched.specs.declared.writes.TargetState.TheVariants as stage
use Rattle.lvm_sched.proofs.ReadsLemmas.Copies.{copies_above}
use Rattle.lvm_sched.specs.declared.writes.TargetState.{TargetState}
use Rattle.lvm_sched.specs.Writes.{is_flying, is_waiting as is_unstarted, next_target}
use Rattle.lvm_path.specs.declared.ask.Ask.{Ask}
use Rattle.lvm_path.specs.declared.facts.Facts.{Facts}
use Rattle.lvm_path.specs.declared.facts.Next.{Next}
use Rattle.lvm_path.specs.declared.facts.Next.TheVariants as next
use Rattle.lvm_path.specs.declared.request.Phase.{Phase}
use Rattle.lvm_path.specs.declared.request.Phase.TheVariants as phase
use Rattle.lvm_path.specs.declared.request.Request.{Request}
use Rattle.lvm_path.specs.declared.target.Target.{Target}
use Rattle.lvm_path.specs.Asks.{at_of, is_write, lv_of}
use Rattle.lvm_path.specs.Targets.{is_begun, is_done, is_failed, states_of}
use Rattle.lvm_path.specs.Next.{next_chosen, next_data, next_in, next_read, next_write, start_or_wait}
use Rattle.lvm_session.specs.declared.bringing.CopyEnd.TheVariants as ending
use Rattle.lvm_session.specs.declared.bringing.OpenCopy.{OpenCopy}
use Rattle.lvm_session.specs.declared.open.Open.{Open}
use Rattle.lvm_session.specs.declared.open.Power.TheVariants as power
use Rattle.lvm_session.specs.State.{Core, State}
use Rattle.lvm_session.specs.Judging.{aims, counts_failed, copies_for, group_in, is_beside, is_beside_copy, is_caught, is_failing, is_held_by_move, is_missing, is_pending, is_running, is_settled, is_stale, is_usable, is_waiting, is_wanted_stale, lp_of, destination_aims, destinations_for, destinations_if, policy_of}
use Rattle.lvm_session.specs.Bringing.{end_by_sources, end_of, ends_if, is_cleared, is_whole}
use Rattle.lvm_session.specs.Events.{Chooses, ChoosesBy, copy_of, loads_of, destination_target, target_at, usable_from}
use Rattle.lvm_session.specs.Marks.{is_among}
use Rattle.lvm_session.specs.Requests.{IsAimed, IsLaid, IsOpenOne, IsTarget}
use Rattle.lvm_session.specs.Causes.{TargetHasFailed, IsCaused, fails_on, is_blamed, is_held_stale}
use Rattle.lvm_session.specs.Sound.{IsCopy, IsGoing, IsSound, is_clearing}
use Rattle.lvm_session.proofs.EventsLemmas.{copies_are, order_holds, usable_holds}
use Rattle.lvm_session.proofs.MovesLemmas.{IsOpenPlace, move_of, open_one, place_open, places_by, stale_of}
use Rattle.lvm_num.proofs.Pairs.{AllPairs-append}
use Rattle.lvm_keeps.proofs.CacheLemmas.{no_copy, no_place}
use Rattle.lvm_keeps.proofs.FallsLemmas.Bounding.{take_few}
use Rattle.lvm_keeps.proofs.Small.{both, is_false}
use Rattle.lvm_keeps.proofs.DarkLemmas.Tables.{apart as apart_ids}
use Rattle.lvm_keeps_events.proofs.OnePlace.{one_lp}
use Rattle.lvm_keeps_events.proofs.JudgingLemmas.DuesMarks.{among_get, own_pp, pp_same}

-- ---- one that is admitted next

-- nothing is pending and a copy can be used; nothing is in its way, or it is a write whose data hasn't started
pub record IsAdmissible (p : Phase) (k : Facts) (r : Request) : Type 0 where
  pub pending : k.pending ≡ false
  pub usable : k.usable ≡ true
  pub held : p ≡ phase.Held → k.blocked ≡ false
  pub again : (p ≡ phase.Held → ⊥) → k.changed ≡ true
  pub waits : (p ≡ phase.Held) ⊎ (p ≡ phase.WantEntry) ⊎ (p ≡ phase.WantRecord) ⊎ ((p ≡ phase.Data) × (is_write r.ask ≡ true) × (is_begun r.targets.items ≡ false))

no_admit : {X : Type 0} {n : Next} → n ≡ next.Admit → (n ≡ next.Admit → ⊥) → X
no_admit e none = absurd (none e)

write_no_admit : (r : Request) → next_write r.policy r.targets.items ≡ next.Admit → ⊥
write_no_admit r e = by (next_target r.policy (states_of r.targets.items)) e
  where
    by : (m : Option ℕ) → start_or_wait m ≡ next.Admit → ⊥
    by None f = cc f
    by (Some k) f = cc f

chosen_admits : (k : Facts) (on : Next) → (on ≡ next.Admit → ⊥) → next_chosen k on ≡ next.Admit → (k.pending ≡ false) × (k.usable ≡ true) × (k.changed ≡ true)
chosen_admits k on other admits = by k.pending k.usable k.changed refl refl refl admits
  where
    by : (a b c : Bool) → k.pending ≡ a → k.usable ≡ b → k.changed ≡ c → (if a then on else if not b then next.Land outcome.NoFresh else if c then next.Admit else on) ≡ next.Admit → (k.pending ≡ false) × (k.usable ≡ true) × (k.changed ≡ true)
    by true b c p q r e = absurd (other e)
    by false false c p q r e = absurd (cc e)
    by false true true p q r e = (p, q, r)
    by false true false p q r e = absurd (other e)

pub admissible : (p : Phase) (k : Facts) (r : Request) → next_in p k r ≡ next.Admit → IsAdmissible p k r
admissible phase.Held k r admits = by k.blocked k.pending k.usable refl refl refl admits
  where
    by : (a b c : Bool) → k.blocked ≡ a → k.pending ≡ b → k.usable ≡ c → (if a || b then next.Wait else if c then next.Admit else next.Land outcome.NoFresh) ≡ next.Admit → IsAdmissible phase.Held k r
    by true b c p q s e = absurd (cc e)
    by false true c p q s e = absurd (cc e)
    by false false false p q s e = absurd (cc e)
    by false false true p q s e = record { pending = q; usable = s; held = λ same. p; again = λ other. absurd (other refl); waits = inl refl }
admissible phase.WantEntry k r admits = let it = chosen_admits k (if k.pinned then next.Wait else next.Pin) (λ e. by k.pinned e) admits in
    record { pending = it.0; usable = it.1; held = λ same. absurd (let no : phase.WantEntry ≡ phase.Held = same in cc); again = λ other. it.2; waits = inr (inl refl) }
  where
    by : (b : Bool) → (if b then next.Wait else next.Pin) ≡ next.Admit → ⊥
    by true e = cc e
    by false e = cc e
admissible phase.WantRecord k r admits = let it = chosen_admits k (if k.named && k.dirty && not k.pending then next_write r.policy r.targets.items else next.Wait) (λ e. by (k.named && k.dirty && not k.pending) e) admits in
    record { pending = it.0; usable = it.1; held = λ same. absurd (let no : phase.WantRecord ≡ phase.Held = same in cc); again = λ other. it.2; waits = inr (inr (inl refl)) }
  where
    by : (b : Bool) → (if b then next_write r.policy r.targets.items else next.Wait) ≡ next.Admit → ⊥
    by true e = write_no_admit r e
    by false e = cc e
admissible phase.Data k r admits = by (is_write r.ask) refl admits
  where
    read_no_admit : next_read r.targets.items ≡ next.Admit → ⊥
    read_no_admit e = of (list_any (λ (t : Target). is_done t.state) r.targets.items) (list_any (λ (t : Target). is_flying t.state) r.targets.items) (position (λ (t : Target). is_unstarted t.state) r.targets.items) e
      where
        of : (a b : Bool) (m : Option ℕ) → (if a then next.Land outcome.Got else if b then next.Wait else option_map_or next.Start m (next.Land outcome.ReadFailed)) ≡ next.Admit → ⊥
        of true b m f = cc f
        of false true m f = cc f
        of false false None f = cc f
        of false false (Some k) f = cc f

    waiting : (b : Bool) → (if b then next.Wait else next_write r.policy r.targets.items) ≡ next.Admit → ⊥
    waiting true e = cc e
    waiting false e = write_no_admit r e

    of_write : is_write r.ask ≡ true → (b : Bool) → is_begun r.targets.items ≡ b
        → (if b then next_write r.policy r.targets.items else next_chosen k (if k.pending then next.Wait else next_write r.policy r.targets.items)) ≡ next.Admit → IsAdmissible phase.Data k r
    of_write write true begun e = absurd (write_no_admit r e)
    of_write write false begun e = let it = chosen_admits k (if k.pending then next.Wait else next_write r.policy r.targets.items) (λ f. waiting k.pending f) e in
        record { pending = it.0; usable = it.1; held = λ same. absurd (let no : phase.Data ≡ phase.Held = same in cc); again = λ other. it.2; waits = inr (inr (inr (refl, write, begun))) }

    by : (b : Bool) → is_write r.ask ≡ b → (if b then next_data k r else next_read r.targets.items) ≡ next.Admit → IsAdmissible phase.Data k r
    by true write e = of_write write (is_begun r.targets.items) refl e
    by false read e = absurd (read_no_admit e)
admissible phase.WantStatus k r admits = absurd (by k.marked k.kept admits)
  where
    by : (a b : Bool) → (if a then next.Land (if b then outcome.Done else outcome.Lost) else next.Wait) ≡ next.Admit → ⊥
    by true true e = cc e
    by true false e = cc e
    by false b e = cc e
admissible phase.Landed k r admits = absurd (cc admits)

-- ---- lists

all_into : {A B : Type 0} (P : A → Type 0) (Q : B → Type 0) (f : A → B) → ((x : A) → P x → Q (f x)) → (xs : List A) → AllByRecursion P xs → AllByRecursion Q (map f xs)
all_into P Q f on [] all = tt
all_into P Q f on (x ∷ xs) all = (on x all.0, all_into P Q f on xs all.1)

all_filter : {A : Type 0} (P : A → Type 0) (t : A → Bool) (xs : List A) → AllByRecursion P xs → AllByRecursion (λ (x : A). P x × (t x ≡ true)) (filter t xs)
all_filter P t [] all = tt
all_filter {A} P t (x ∷ xs) all = by (t x) refl (all_filter P t xs all.1)
  where
    by : (b : Bool) → t x ≡ b → AllByRecursion (λ (y : A). P y × (t y ≡ true)) (filter t xs) → AllByRecursion (λ (y : A). P y × (t y ≡ true)) (if b then x ∷ filter t xs else filter t xs)
    by true is rest = ((all.0, is), rest)
    by false is rest = rest

any_filter : {A : Type 0} (t u : A → Bool) → ((x : A) → u x ≡ true → t x ≡ true) → (xs : List A) → list_any u xs ≡ true → list_any u (filter t xs) ≡ true
any_filter t u on [] some = some
any_filter t u on (x ∷ xs) some = by (u x) (t x) refl refl (λ e. any_filter t u on xs e) some
  where
    by : (a b : Bool) → u x ≡ a → t x ≡ b → (list_any u xs ≡ true → list_any u (filter t xs) ≡ true) → a || list_any u xs ≡ true → list_any u (if b then x ∷ filter t xs else filter t xs) ≡ true
    by true true p q rest e = ap (λ c. c || list_any u (filter t xs)) p
    by true false p q rest e = not_so (sym q ∙ on x p)
    by false true p q rest e = ap (λ c. c || list_any u (filter t xs)) p ∙ rest e
    by false false p q rest e = rest e

all_among : (ps : List Pp) → AllByRecursion (λ (p : Pp). is_among ps p ≡ true) ps
all_among [] = tt
all_among (q ∷ ps) = (ap (λ b. b || is_among ps q) (ap (λ b. b && q.pp == q.pp) (eq-eqb q.disk q.disk refl) ∙ eq-eqb q.pp q.pp refl), all_weaker (λ (p : Pp). is_among ps p ≡ true) (λ (p : Pp). is_among (q ∷ ps) p ≡ true) (λ p is. ap (λ b. is_pp p q || b) is ∙ or_true (is_pp p q)) ps (all_among ps))

index_get : {A : Type 0} (xs : List A) (k : ℕ) (x d : A) → slice_get xs k ≡ Some x → (slice_index_or xs k d ≡ x) × (k < length xs)
index_get [] k x d there = absurd (cc there)
index_get (y ∷ xs) zero x d there = (cc there, omega arith)
index_get (y ∷ xs) (suc k) x d there = let rest = index_get xs k x d there in let low = rest.1 in (rest.0, omega (arith, low))

-- ---- numbers up to three that are all different are at most three

few_distinct : (ns : List ℕ) → AllPairs (λ (a b : ℕ). a ≢ b) ns → All (λ n. (1 ≤ n) × (n ≤ 3)) ns → length ns ≤ 3
few_distinct [] differ low = omega arith
few_distinct (a ∷ []) differ low = omega arith
few_distinct (a ∷ b ∷ []) differ low = omega arith
few_distinct (a ∷ b ∷ c ∷ []) differ low = omega arith
few_distinct (a ∷ b ∷ c ∷ d ∷ more) differ low =
    let pa = low 0 0 (omega arith) in let pb = low 1 0 (omega arith) in let pc = low 2 0 (omega arith) in let pd = low 3 0 (omega arith) in
    let ab : a ≢ b = differ 0 1 0 (omega arith) (omega arith) in
    let ac : a ≢ c = differ 0 2 0 (omega arith) (omega arith) in
    let ad : a ≢ d = differ 0 3 0 (omega arith) (omega arith) in
    let bc : b ≢ c = differ 1 2 0 (omega arith) (omega arith) in
    let bd : b ≢ d = differ 1 3 0 (omega arith) (omega arith) in
    let cd : c ≢ d = differ 2 3 0 (omega arith) (omega arith) in
    absurd (grind (arith, pa, pb, pc, pd, ab, ac, ad, bc, bd, cd))

-- ---- what it goes to

-- copies of its blocks, and for a write the place to which one moves, each once and new, of which one was usable; and nothing is held against one that is
pub record IsChosen (s : State) (o : Open) (targets : List Target) : Type 0 where
  pub aims : AllByRecursion (IsTarget s.core o.request.ask) targets
  pub fresh : AllByRecursion (λ (t : Target). t.state ≡ stage.Waiting) targets
  pub differ : AllPairs (λ (a b : Target). a.pp ≢ b.pp) targets
  pub few : length targets ≤ 4
  pub few_to_read : is_write o.request.ask ≡ false → length targets ≤ 3
  pub usable : list_any (λ (t : Target). t.usable) targets ≡ true
  pub faults : AllByRecursion (λ (t : Target). t.faults ≡ s.device.counts.faults t.pp.disk) targets
  pub caused : AllByRecursion (IsCaused s.device s.core) targets

module _ (s : State) (sound : IsSound s) (on : s.core.power ≡ power.On) (place : ℕ) (o : Open) (there : slice_get s.core.requests place ≡ Some o) (laid : IsLaid s.core o.request) (unbegun : is_begun o.request.targets.items ≡ false)
    (pending : is_pending s.core o.request ≡ false) (usable : list_any (is_usable s.core) (copies_for s.core o.request.ask) ≡ true) where
  abbrev core : Core
  core = s.core

  abbrev ask : Ask
  ask = o.request.ask

  abbrev copies : List Pp
  copies = copies_for core ask

  going : IsGoing core
  going = (sound.on on).going

  -- ---- its copies

  abbrev row : LvRow
  row = laid.within.row

  copies_is : copies ≡ copies_of row (lp_of core ask)
  copies_is = ap (λ m. option_map_or (λ (r : LvRow). copies_of r (lp_of core ask)) m []) laid.within.volume

  lp_low : lp_of core ask < row.lps
  lp_low = lp_below core.descriptor.mib row.lps (at_of ask) (mib_positive core.descriptor sound.fitting.valid) (let within = laid.within.within in let some = laid.within.some in omega (arith, within, some))

  apart : AllPairs (λ (a b : Pp). a ≢ b) copies
  apart i j d less high e = (laid_out core.descriptor (lv_of ask) row sound.fitting.valid laid.within.volume).strict (lp_of core ask) lp_low i j d less (subst (λ (ps : List Pp). j < length ps) copies_is high)
      (ap (λ (ps : List Pp). (slice_index_or ps i d).disk) (sym copies_is) ∙ ap (λ (p : Pp). p.disk) e ∙ ap (λ (ps : List Pp). (slice_index_or ps j d).disk) copies_is)

  few : length copies ≤ 3
  few =
      let found = find-Some (λ (r : LvRow). r.number == lv_of ask) core.descriptor.lvs row laid.within.volume in
      let volume : IsVolume core.descriptor.big row = subst (IsVolume core.descriptor.big) (found.1.2 row) (sound.fitting.valid.volumes.each found.1.0 row found.1.1) in
      let most : row.copies ≤ 3 = volume.copies in
      let low = take_few row.copies (drop (lp_of core ask * row.copies) row.map) in
      let same : length copies ≡ length (copies_of row (lp_of core ask)) = ap (λ (ps : List Pp). length ps) copies_is in
      omega (arith, most, low, same)

  -- ---- one that it goes to

  abbrev IsGood : Pp → Type 0
  IsGood p = (is_among copies p ≡ true) × (is_usable core p || is_caught core (group_in core ask) p ≡ true)

  -- the copy that is being brought up isn't missing
  caught_there : (p : Pp) → is_caught core (group_in core ask) p ≡ true → is_missing core p.disk ≡ false
  caught_there p is = by core.copy going.reviewed is
    where
      of_copy : (c : OpenCopy) → end_of core c ≡ None → is_running c && is_pp p c.pp && nat_lt (group_in core ask) c.cursor ≡ true → is_missing core p.disk ≡ false
      of_copy c none e =
          let parts = both (is_running c && is_pp p c.pp) (nat_lt (group_in core ask) c.cursor) e in
          let more = both (is_running c) (is_pp p c.pp) parts.0 in
          let same : p.disk ≡ c.pp.disk = eqb-true p.disk c.pp.disk (both (p.disk == c.pp.disk) (p.pp == c.pp.pp) more.1).0 in
          ap (is_missing core) same ∙ of_end (is_running c) (is_missing core c.pp.disk) more.0 none
        where
          of_end : (a b : Bool) → a ≡ true → (if not a then None else if b then Some ending.SyncFailed else if is_whole core c then ends_if (is_cleared core c) ending.Done else end_by_sources core c) ≡ None → b ≡ false
          of_end true true r f = absurd (cc f)
          of_end true false r f = refl
          of_end false b r f = not_so r

      by : (m : Option OpenCopy) → option_map_or (end_of core) m None ≡ None → option_map_or (λ (c : OpenCopy). is_running c && is_pp p c.pp && nat_lt (group_in core ask) c.cursor) m false ≡ true → is_missing core p.disk ≡ false
      by None none e = not_so e
      by (Some c) none e = of_copy c none e

  pub there_now : (p : Pp) → is_usable core p || is_caught core (group_in core ask) p ≡ true → is_missing core p.disk ≡ false
  there_now p is = by (is_usable core p) refl is
    where
      by : (b : Bool) → is_usable core p ≡ b → b || is_caught core (group_in core ask) p ≡ true → is_missing core p.disk ≡ false
      by true at e = is_false (is_missing core p.disk) (both (not (is_stale core p)) (not (is_missing core p.disk)) at).1
      by false at e = caught_there p e

  good_target : (p : Pp) → IsGood p → IsTarget core ask (target_at s ask p)
  good_target p good = record { copy = good.0; sector = refl; there = by (calls_missing core.origin.table p.disk) refl }
    where
      by : (b : Bool) → calls_missing core.origin.table p.disk ≡ b → b ≡ false
      by false is = refl
      by true is = not_so (sym (there_now p good.1) ∙ sound.origin.still_missing p.disk is)

  -- only it has its number
  own_all : AllByRecursion (λ (e : Open). e.request.id ≡ o.request.id → is_begun e.request.targets.items ≡ false) core.requests
  own_all = back (λ (e : Open). e.request.id ≡ o.request.id → is_begun e.request.targets.items ≡ false) core.requests place there (λ e. unbegun)
      (all_weaker (λ (e : Open). e.request.id ≡ o.request.id → ⊥) (λ (e : Open). e.request.id ≡ o.request.id → is_begun e.request.targets.items ≡ false) (λ e other f. absurd (other f)) (remove core.requests place) (apart_ids core.requests place o there sound.told.table.ascending))
    where
      back : (P : Open → Type 0) (xs : List Open) (k : ℕ) → slice_get xs k ≡ Some o → P o → AllByRecursion P (remove xs k) → AllByRecursion P xs
      back P [] k at its all = tt
      back P (x ∷ xs) zero at its all = let is : x ≡ o = cc at in (subst P (sym is) its, all)
      back P (x ∷ xs) (suc k) at its all = (all.0, back P xs k at its all.1)

  -- ---- nothing is held against a copy that can be used

  pending_parts : (list_any (λ (p : Pp). is_wanted_stale core p && not (is_settled core p)) copies ≡ false)
      × (list_any (λ (e : Open). not (e.request.id == o.request.id) && is_beside core e.request.ask ask && is_failing core e) core.requests ≡ false)
  pending_parts = or_parts (list_any (λ (p : Pp). is_wanted_stale core p && not (is_settled core p)) copies) _ (or_parts (is_held_by_move core ask) _ pending).1
    where
      or_parts : (a b : Bool) → a || b ≡ false → (a ≡ false) × (b ≡ false)
      or_parts true b e = not_so (sym e)
      or_parts false b e = (refl, e)

  module _ (p : Pp) (among : is_among copies p ≡ true) (can : is_usable core p ≡ true) where
    usable_parts : (is_stale core p ≡ false) × (is_missing core p.disk ≡ false)
    usable_parts = let it = both (not (is_stale core p)) (not (is_missing core p.disk)) can in (is_false (is_stale core p) it.0, is_false (is_missing core p.disk) it.1)

    not_wanted : is_wanted_stale core p ≡ false
    not_wanted = by (is_wanted_stale core p) refl (none_among (λ (q : Pp). is_wanted_stale core q && not (is_settled core q)) copies p pending_parts.0 among)
      where
        none_among : (t : Pp → Bool) (ps : List Pp) (q : Pp) → list_any t ps ≡ false → is_among ps q ≡ true → t q ≡ false
        none_among t [] q none is = not_so is
        none_among t (x ∷ ps) q none is = of (q.disk == x.disk) (q.pp == x.pp) (t x) refl refl refl (λ e f. none_among t ps q e f) none is
          where
            of : (a b c : Bool) → (q.disk == x.disk) ≡ a → (q.pp == x.pp) ≡ b → t x ≡ c → (list_any t ps ≡ false → is_among ps q ≡ true → t q ≡ false) → c || list_any t ps ≡ false → (a && b) || is_among ps q ≡ true → t q ≡ false
            of a b true i j k rest e f = not_so (sym e)
            of true true false i j k rest e f = ap (λ d. t (record { disk = d; pp = q.pp })) (eqb-true q.disk x.disk i) ∙ ap (λ n. t (record { disk = x.disk; pp = n })) (eqb-true q.pp x.pp j) ∙ k
            of true false false i j k rest e f = rest e f
            of false b false i j k rest e f = rest e f

        by : (b : Bool) → is_wanted_stale core p ≡ b → b && not (is_settled core p) ≡ false → b ≡ false
        by false is e = refl
        by true is e = not_so (sym e ∙ ap (λ c. not (c && calls_stale (unwrap_or core.status.in_flight core.status.committed) p)) usable_parts.0)

    not_held : is_held_stale core p ≡ false
    not_held = ap (λ b. b || calls_stale (unwrap_or core.status.in_flight core.status.committed) p) usable_parts.0 ∙ by (calls_stale (unwrap_or core.status.in_flight core.status.committed) p) refl
      where
        -- the copy that is to be cleared is stale
        cleared : is_clearing core p ≡ true → is_stale core p ≡ true
        cleared is = of core.copy going.copy is
          where
            of_copy : (c : OpenCopy) → IsCopy core c → is_running c && is_whole core c && is_pp p c.pp ≡ true → is_stale core p ≡ true
            of_copy c its e = of_kind c.moves refl
              where
                parts : (is_running c && is_whole core c ≡ true) × (is_pp p c.pp ≡ true)
                parts = both (is_running c && is_whole core c) (is_pp p c.pp) e

                more : (is_running c ≡ true) × (is_whole core c ≡ true)
                more = both (is_running c) (is_whole core c) parts.0

                same : p ≡ c.pp
                same = pp_same p c.pp parts.1

                of_kind : (b : Bool) → c.moves ≡ b → is_stale core p ≡ true
                of_kind false stays = ap (is_stale core) same ∙ ((stale_of core c its stays).clearing more.0 more.1).0
                of_kind true moves = not_so (sym (no_copy core.descriptor (lv_of ask) (lp_of core ask) c.pp (move_of core c its moves).free) ∙ ap (is_among copies) (sym same) ∙ among)

            of : (m : Option OpenCopy) → IfSome m (IsCopy core) → option_map_or (λ (c : OpenCopy). is_running c && is_whole core c && is_pp p c.pp) m false ≡ true → is_stale core p ≡ true
            of None its e = not_so e
            of (Some c) its e = of_copy c its e

        by : (b : Bool) → calls_stale (unwrap_or core.status.in_flight core.status.committed) p ≡ b → b ≡ false
        by false is = refl
        by true is = not_so (sym usable_parts.0 ∙ cleared (going.clearings p (ap (λ b. is_stale core p || b) is ∙ or_true (is_stale core p)) not_wanted))

    -- no write has failed on it: one that has, in another logical partition, has no copy here
    not_failed : list_any (fails_on p) core.requests ≡ false
    not_failed = none_of core.requests going.requests own_all pending_parts.1
      where
        begun_by_failure : (ts : List Target) → list_any (λ (t : Target). is_failed t.state && is_pp p t.pp) ts ≡ true → is_begun ts ≡ true
        begun_by_failure [] e = not_so e
        begun_by_failure (t ∷ ts) e = of t.state (λ f. begun_by_failure ts f) e
          where
            of : (st : TargetState) → (list_any (λ (u : Target). is_failed u.state && is_pp p u.pp) ts ≡ true → is_begun ts ≡ true)
                → (is_failed st && is_pp p t.pp) || list_any (λ (u : Target). is_failed u.state && is_pp p u.pp) ts ≡ true → not (is_unstarted st) || is_begun ts ≡ true
            of stage.Waiting rest f = rest f
            of stage.Flying rest f = refl
            of stage.Done rest f = refl
            of stage.Failed rest f = refl

        counts : (ts : List Target) → list_any (λ (t : Target). is_failed t.state && is_pp p t.pp) ts ≡ true → list_any (counts_failed core) ts ≡ true
        counts [] e = not_so e
        counts (t ∷ ts) e = of (is_failed t.state) (is_pp p t.pp) (λ f. counts ts f) e
          where
            of : (a b : Bool) → (list_any (λ (u : Target). is_failed u.state && is_pp p u.pp) ts ≡ true → list_any (counts_failed core) ts ≡ true)
                → (a && b) || list_any (λ (u : Target). is_failed u.state && is_pp p u.pp) ts ≡ true → (a || (t.usable && is_wanted_stale core t.pp)) || list_any (counts_failed core) ts ≡ true
            of true b rest f = refl
            of false b rest f = ap (λ c. (t.usable && is_wanted_stale core t.pp) || c) (rest f) ∙ or_true (t.usable && is_wanted_stale core t.pp)

        -- (a target here is no destination of a move)
        its_copy : (q : Ask) (ts : List Target) → AllByRecursion (IsTarget core q) ts → list_any (λ (t : Target). is_failed t.state && is_pp p t.pp) ts ≡ true → is_among (copies_for core q) p ≡ true
        its_copy q [] all e = not_so e
        its_copy q (t ∷ ts) all e = of (is_failed t.state) (is_pp p t.pp) refl (λ f. its_copy q ts all.1 f) e
          where
            of : (a b : Bool) → is_pp p t.pp ≡ b → (list_any (λ (u : Target). is_failed u.state && is_pp p u.pp) ts ≡ true → is_among (copies_for core q) p ≡ true)
                → (a && b) || list_any (λ (u : Target). is_failed u.state && is_pp p u.pp) ts ≡ true → is_among (copies_for core q) p ≡ true
            of true true i rest f =
                let same = pp_same p t.pp i in
                ap (is_among (copies_for core q)) same ∙ subst (λ (b : Bool). IsAimed b core q t) (no_place core going (lv_of ask) (lp_of core ask) p among q t all.0 same) all.0.copy
            of true false i rest f = rest f
            of false b i rest f = rest f

        one : (e : Open) → IsOpenOne core e → (e.request.id ≡ o.request.id → is_begun e.request.targets.items ≡ false) → not (e.request.id == o.request.id) && is_beside core e.request.ask ask && is_failing core e ≡ false → fails_on p e ≡ false
        one e it own none = of (is_waiting e) (is_write e.request.ask) (list_any (λ (t : Target). is_failed t.state && is_pp p t.pp) e.request.targets.items) refl refl refl
          where
            failed : is_waiting e ≡ true → is_write e.request.ask ≡ true → list_any (λ (t : Target). is_failed t.state && is_pp p t.pp) e.request.targets.items ≡ true → true ≡ false
            failed i j k = sym (ap (λ x. not x && is_beside core e.request.ask ask && is_failing core e) other ∙ ap (λ x. x && is_failing core e) beside ∙ failing) ∙ none
              where
                goes : is_begun e.request.targets.items ≡ true
                goes = begun_by_failure e.request.targets.items k

                same : (lv_of e.request.ask ≡ lv_of ask) × (lp_of core e.request.ask ≡ lp_of core ask)
                same = one_lp core.descriptor sound.fitting.valid (lv_of e.request.ask) (lp_of core e.request.ask) (lv_of ask) (lp_of core ask) p (its_copy e.request.ask e.request.targets.items (it.waits i).shape.targets k) among

                beside : is_beside core e.request.ask ask ≡ true
                beside = ap (λ x. x && lp_of core e.request.ask == lp_of core ask) (eq-eqb (lv_of e.request.ask) (lv_of ask) same.0) ∙ eq-eqb (lp_of core e.request.ask) (lp_of core ask) same.1

                failing : is_failing core e ≡ true
                failing = ap (λ x. x && is_write e.request.ask && is_begun e.request.targets.items && list_any (counts_failed core) e.request.targets.items) i
                    ∙ ap (λ x. x && is_begun e.request.targets.items && list_any (counts_failed core) e.request.targets.items) j
                    ∙ ap (λ x. x && list_any (counts_failed core) e.request.targets.items) goes ∙ counts e.request.targets.items k

                other : (e.request.id == o.request.id) ≡ false
                other = ne_eqb e.request.id o.request.id (λ f. not_so (sym (own f) ∙ goes))

            of : (a b c : Bool) → is_waiting e ≡ a → is_write e.request.ask ≡ b → list_any (λ (t : Target). is_failed t.state && is_pp p t.pp) e.request.targets.items ≡ c → a && b && c ≡ false
            of false b c i j k = refl
            of true false c i j k = refl
            of true true false i j k = refl
            of true true true i j k = failed i j k

        none_of : (es : List Open) → AllByRecursion (IsOpenOne core) es → AllByRecursion (λ (e : Open). e.request.id ≡ o.request.id → is_begun e.request.targets.items ≡ false) es
            → list_any (λ (e : Open). not (e.request.id == o.request.id) && is_beside core e.request.ask ask && is_failing core e) es ≡ false → list_any (fails_on p) es ≡ false
        none_of [] all own none = refl
        none_of (e ∷ es) all own none = of (not (e.request.id == o.request.id) && is_beside core e.request.ask ask && is_failing core e) refl (λ f. none_of es all.1 own.1 f) none
          where
            of : (b : Bool) → (not (e.request.id == o.request.id) && is_beside core e.request.ask ask && is_failing core e) ≡ b
                → (list_any (λ (x : Open). not (x.request.id == o.request.id) && is_beside core x.request.ask ask && is_failing core x) es ≡ false → list_any (fails_on p) es ≡ false)
                → b || list_any (λ (x : Open). not (x.request.id == o.request.id) && is_beside core x.request.ask ask && is_failing core x) es ≡ false → fails_on p e || list_any (fails_on p) es ≡ false
            of true is rest f = not_so (sym f)
            of false is rest f = ap (λ b. b || list_any (fails_on p) es) (one e all.0 own.0 is) ∙ rest f

    not_blamed : is_blamed core p ≡ false
    not_blamed = ap (λ b. b || is_wanted_stale core p || is_held_stale core p || list_any (fails_on p) core.requests) usable_parts.1 ∙ ap (λ b. b || is_held_stale core p || list_any (fails_on p) core.requests) not_wanted
        ∙ ap (λ b. b || list_any (fails_on p) core.requests) not_held ∙ not_failed

  good_caused : (p : Pp) → IsGood p → IsCaused s.device core (target_at s ask p)
  good_caused p good why = by (is_usable core p) refl why
    where
      by : (b : Bool) → is_usable core p ≡ b → b && is_blamed core p ≡ true → TargetHasFailed s.device (target_at s ask p)
      by true can e = not_so (sym (not_blamed p good.0 can) ∙ e)
      by false can e = not_so e

  -- ---- all that it goes to

  pps_at : (ps : List Pp) (i : ℕ) (d : Target) → (slice_index_or (map (target_at s ask) ps) i d).pp ≡ slice_index_or ps i d.pp
  pps_at [] i d = refl
  pps_at (p ∷ ps) zero d = refl
  pps_at (p ∷ ps) (suc i) d = pps_at ps i d

  chosen_of : (ps : List Pp) → AllByRecursion IsGood ps → AllPairs (λ (a b : Pp). a ≢ b) ps → length ps ≤ 3 → list_any (is_usable core) ps ≡ true → IsChosen s o (map (target_at s ask) ps)
  chosen_of ps good differ short can = record {
    aims = all_into IsGood (IsTarget core ask) (target_at s ask) good_target ps good;
    fresh = all_into IsGood (λ (t : Target). t.state ≡ stage.Waiting) (target_at s ask) (λ p g. refl) ps good;
    differ = λ i j d less high e. differ i j d.pp less (subst (λ n. j < n) (length-map ps (target_at s ask)) high) (sym (pps_at ps i d) ∙ e ∙ pps_at ps j d);
    few = let same = length-map ps (target_at s ask) in omega (arith, same, short);
    few_to_read = λ read. subst (λ n. n ≤ 3) (sym (length-map ps (target_at s ask))) short;
    usable = any_map (λ (t : Target). t.usable) (target_at s ask) ps ∙ can;
    faults = all_into IsGood (λ (t : Target). t.faults ≡ s.device.counts.faults t.pp.disk) (target_at s ask) (λ p g. refl) ps good;
    caused = all_into IsGood (IsCaused s.device core) (target_at s ask) good_caused ps good;
  }

  copies_chosen : IsChosen s o (map (target_at s ask) (aims core ask))
  copies_chosen = chosen_of (aims core ask) (all_filter (λ (p : Pp). is_among copies p ≡ true) (λ (p : Pp). is_usable core p || is_caught core (group_in core ask) p) copies (all_among copies))
      (AllPairs-filter (λ (a b : Pp). a ≢ b) (λ (p : Pp). is_usable core p || is_caught core (group_in core ask) p) copies apart)
      (let less = few_filter (λ (p : Pp). is_usable core p || is_caught core (group_in core ask) p) copies in let low = few in omega (arith, less, low))
      (any_filter (λ (p : Pp). is_usable core p || is_caught core (group_in core ask) p) (is_usable core) (λ p can. ap (λ b. b || is_caught core (group_in core ask) p) can) copies usable)

  -- ---- the destination of a move

  -- there is none that has passed the track group, or one
  abbrev IsOnePlace : List Pp → List Pp → Type 0
  IsOnePlace places goes = (goes ≡ []) ⊎ ((p : Pp) × (goes ≡ p ∷ []) × (is_among places p ≡ true) × (is_caught core (group_in core ask) p ≡ true))

  one_place : IsOnePlace (destinations_for core ask) (destination_aims core ask)
  one_place = by core.copy
    where
      of : (c : OpenCopy) (b k : Bool) → is_caught core (group_in core ask) c.pp ≡ k → IsOnePlace (destinations_if b c) (filter (is_caught core (group_in core ask)) (destinations_if b c))
      of c false k e = inl refl
      of c true false e = inl (ap (λ (x : Bool). if x then c.pp ∷ [] else []) e)
      of c true true e = inr (c.pp, ap (λ (x : Bool). if x then c.pp ∷ [] else []) e, ap (λ b. b || false) (own_pp c.pp), e)

      by : (m : Option OpenCopy) → IsOnePlace (places_by core ask m) (filter (is_caught core (group_in core ask)) (places_by core ask m))
      by None = inl refl
      by (Some c) = of c (c.moves && is_beside_copy core ask c) (is_caught core (group_in core ask) c.pp) refl

  module _ (write : is_write ask ≡ true) (p : Pp) (its_place : is_among (destinations_for core ask) p ≡ true) (caught : is_caught core (group_in core ask) p ≡ true) where
    abbrev front : List Target
    front = map (target_at s ask) (aims core ask)

    abbrev last : Target
    last = destination_target s ask p

    all_push : (P : Target → Type 0) → P last → (ts : List Target) → AllByRecursion P ts → AllByRecursion P (ts ++ last ∷ [])
    all_push P here [] all = (here, tt)
    all_push P here (t ∷ ts) all = (all.0, all_push P here ts all.1)

    any_push : (t : Target → Bool) (ts : List Target) → list_any t ts ≡ true → list_any t (ts ++ last ∷ []) ≡ true
    any_push t [] some = not_so some
    any_push t (x ∷ ts) some = by (t x) (λ e. any_push t ts e) some
      where
        by : (b : Bool) → (list_any t ts ≡ true → list_any t (ts ++ last ∷ []) ≡ true) → b || list_any t ts ≡ true → b || list_any t (ts ++ last ∷ []) ≡ true
        by true rest e = refl
        by false rest e = rest e

    -- it is no copy
    other_than : (q : Pp) → is_among copies q ≡ true → q ≢ p
    other_than q among same = by (place_open core ask p its_place)
      where
        by : IsOpenPlace core ask p → ⊥
        by at = not_so (sym (no_copy core.descriptor (lv_of ask) (lp_of core ask) at.copy.pp (move_of core at.copy (open_one core at.copy at.is_open going.copy) at.moves).free) ∙ ap (is_among copies) (sym (same ∙ at.is)) ∙ among)

    its_target : IsTarget core ask last
    its_target = record { copy = (its_place, write, refl); sector = refl; there = by (calls_missing core.origin.table p.disk) refl }
      where
        by : (b : Bool) → calls_missing core.origin.table p.disk ≡ b → b ≡ false
        by false is = refl
        by true is = not_so (sym (caught_there p caught) ∙ sound.origin.still_missing p.disk is)

    across : (ts : List Target) → AllByRecursion (λ (t : Target). t.pp ≢ p) ts → (i j : ℕ) (d : Target) → i < length ts → j < 1 → (get_or ts i d).pp ≢ (get_or (last ∷ []) j d).pp
    across [] all i j d low one = absurd (omega (arith, low))
    across (t ∷ ts) all zero zero d low one = all.0
    across (t ∷ ts) all (suc i) zero d low one = across ts all.1 i zero d (omega (arith, low)) one
    across (t ∷ ts) all i (suc j) d low one = absurd (omega (arith, one))

    all_other : (ps : List Pp) → AllByRecursion (λ (q : Pp). (is_among copies q ≡ true) × (is_usable core q || is_caught core (group_in core ask) q ≡ true)) ps → AllByRecursion (λ (t : Target). t.pp ≢ p) (map (target_at s ask) ps)
    all_other [] all = tt
    all_other (q ∷ ps) all = (other_than q all.0.0, all_other ps all.1)

    with_place : IsChosen s o (front ++ last ∷ [])
    with_place = let c = copies_chosen in record {
      aims = all_push (IsTarget core ask) its_target front c.aims;
      fresh = all_push (λ (t : Target). t.state ≡ stage.Waiting) refl front c.fresh;
      differ = AllPairs-append (λ (a b : Target). a.pp ≢ b.pp) front (last ∷ []) c.differ (λ i j d less high. absurd (omega (arith, less, high)))
          (across front (all_other (aims core ask) (all_filter (λ (q : Pp). is_among copies q ≡ true) (λ (q : Pp). is_usable core q || is_caught core (group_in core ask) q) copies (all_among copies))));
      few = let short = c.few in let less = few_filter (λ (q : Pp). is_usable core q || is_caught core (group_in core ask) q) copies in let low = few in let same = length-map (aims core ask) (target_at s ask) in let long = length-append front (last ∷ []) in omega (arith, less, low, same, long);
      few_to_read = λ read. not_so (sym read ∙ write);
      usable = any_push (λ (t : Target). t.usable) front c.usable;
      faults = all_push (λ (t : Target). t.faults ≡ s.device.counts.faults t.pp.disk) refl front c.faults;
      caused = all_push (IsCaused s.device core) (λ why. not_so why) front c.caused;
    }

  write_chosen : is_write ask ≡ true → IsChosen s o (map (target_at s ask) (aims core ask) ++ map (destination_target s ask) (destination_aims core ask))
  write_chosen write = by one_place
    where
      by : IsOnePlace (destinations_for core ask) (destination_aims core ask) → IsChosen s o (map (target_at s ask) (aims core ask) ++ map (destination_target s ask) (destination_aims core ask))
      by (inl none) = subst (λ (ps : List Pp). IsChosen s o (map (target_at s ask) (aims core ask) ++ map (destination_target s ask) ps)) (sym none) (subst (IsChosen s o) (sym (append-nil (map (target_at s ask) (aims core ask)))) copies_chosen)
      by (inr it) = subst (λ (ps : List Pp). IsChosen s o (map (target_at s ask) (aims core ask) ++ map (destination_target s ask) ps)) (sym it.1) (with_place write it.0 it.2 it.3)

  -- ---- a read, by the copies' numbers

  -- the number of a copy that can be used
  abbrev IsNumber : ℕ → Type 0
  IsNumber n = (1 ≤ n) × (n ≤ length copies) × (is_among copies (copy_of copies n) ≡ true) × (is_usable core (copy_of copies n) ≡ true)

  numbered : All IsNumber (usable_from core 1 copies)
  numbered = usable_holds core IsNumber 1 copies (λ k p at can.
      let it = index_get copies k p (record { disk = 0; pp = 0 }) at in
      let low = it.1 in
      let same : copy_of copies (1 + k) ≡ p = (let minus : 1 + k - 1 ≡ k = omega arith in ap (λ j. slice_index_or copies j (record { disk = 0; pp = 0 })) minus) ∙ it.0 in
      (omega arith, omega (arith, low), ap (is_among copies) same ∙ among_get copies k p at, ap (is_usable core) same ∙ can))

  numbers_differ : (n m : ℕ) → IsNumber n → IsNumber m → n ≢ m → copy_of copies n ≢ copy_of copies m
  numbers_differ n m one two other e = elim (cases_lt n m) [
    | inl less ↦ apart (n - 1) (m - 1) (record { disk = 0; pp = 0 }) (let a = one.0 in omega (arith, less, a)) (let a = two.0 in let b = two.1 in omega (arith, a, b)) e
    | inr more ↦ elim (cases_lt m n) [
      | inl less ↦ apart (m - 1) (n - 1) (record { disk = 0; pp = 0 }) (let a = two.0 in omega (arith, less, a)) (let a = one.0 in let b = one.1 in omega (arith, a, b)) (sym e)
      | inr same ↦ absurd (other (omega (arith, more, same)))
    ]
  ]

  rising_differ : (below : ℕ) (ns : List ℕ) → AreCopiesAbove below ns → AllPairs (λ (n m : ℕ). n ≢ m) ns
  rising_differ below [] are = λ i j d less high. absurd (omega (arith, less, high))
  rising_differ below (n ∷ ns) are = AllPairs-cons (λ (a b : ℕ). a ≢ b) n ns (λ k d high e. let low = (copies_above n ns are.2 k d high).0 in absurd (omega (arith, low, e))) (rising_differ n ns are.2)

  not_first : (first : ℕ) (ns : List ℕ) → All (λ m. first ≢ m) (others ns first)
  not_first first [] = All-nil (λ m. first ≢ m)
  not_first first (n ∷ ns) = by (n == first) refl (not_first first ns)
    where
      by : (b : Bool) → (n == first) ≡ b → All (λ m. first ≢ m) (others ns first) → All (λ m. first ≢ m) (if not b then n ∷ others ns first else others ns first)
      by true is rest = rest
      by false is rest = All-cons (λ m. first ≢ m) n (others ns first) (λ e. not_so (sym is ∙ eq-eqb n first (sym e))) rest

  order_differ : (how : Policy) (last : ℕ) (loads order : List ℕ) → IsReadOrder how (usable_from core 1 copies) last loads order → AllPairs (λ (n m : ℕ). n ≢ m) order
  order_differ how last loads [] is = λ i j d less high. absurd (omega (arith, less, high))
  order_differ how last loads (first ∷ rest) is = AllPairs-cons (λ (a b : ℕ). a ≢ b) first rest
      (subst (All (λ m. first ≢ m)) (sym is.then) (not_first first (usable_from core 1 copies)))
      (subst (AllPairs (λ (a b : ℕ). a ≢ b)) (sym is.then) (AllPairs-filter (λ (a b : ℕ). a ≢ b) (λ m. not (m == first)) (usable_from core 1 copies) (rising_differ 0 (usable_from core 1 copies) (copies_are core copies few))))

  read_chosen : (how : Policy) (last : ℕ) (loads order : List ℕ) → IsReadOrder how (usable_from core 1 copies) last loads order → IsChosen s o (map (λ n. target_at s ask (copy_of copies n)) order)
  read_chosen how last loads order is = subst (IsChosen s o) (map_twice order) (chosen_of (map (copy_of copies) order) good differ short can)
    where
      all : All IsNumber order
      all = order_holds IsNumber how (usable_from core 1 copies) last loads order numbered is

      map_twice : (ns : List ℕ) → map (target_at s ask) (map (copy_of copies) ns) ≡ map (λ n. target_at s ask (copy_of copies n)) ns
      map_twice [] = refl
      map_twice (n ∷ ns) = ap (λ (ts : List Target). target_at s ask (copy_of copies n) ∷ ts) (map_twice ns)

      good : AllByRecursion IsGood (map (copy_of copies) order)
      good = all_into IsNumber IsGood (copy_of copies) (λ n it. (it.2, ap (λ b. b || is_caught core (group_in core ask) (copy_of copies n)) it.3)) order (by_place IsNumber order all)

      at_copy : (ns : List ℕ) (i : ℕ) (d : Pp) → i < length ns → slice_index_or (map (copy_of copies) ns) i d ≡ copy_of copies (slice_index_or ns i 0)
      at_copy [] i d low = absurd (omega (arith, low))
      at_copy (n ∷ ns) zero d low = refl
      at_copy (n ∷ ns) (suc i) d low = at_copy ns i d (omega (arith, low))

      differ : AllPairs (λ (a b : Pp). a ≢ b) (map (copy_of copies) order)
      differ i j d less high e =
          let long : j < length order = subst (λ n. j < n) (length-map order (copy_of copies)) high in
          let first : i < length order = omega (arith, less, long) in
          numbers_differ (slice_index_or order i 0) (slice_index_or order j 0) (all i 0 first) (all j 0 long) (order_differ how last loads order is i j 0 less long) (sym (at_copy order i d first) ∙ e ∙ at_copy order j d long)

      short : length (map (copy_of copies) order) ≤ 3
      short = subst (λ n. n ≤ 3) (sym (length-map order (copy_of copies))) (by order is)
        where
          few_order : (first : ℕ) (rest : List ℕ) → IsReadOrder how (usable_from core 1 copies) last loads (first ∷ rest) → length (first ∷ rest) ≤ 3
          few_order first rest it =
              let few_numbers = few_distinct (first ∷ rest) (order_differ how last loads (first ∷ rest) it) (λ k d high. let it_is = order_holds IsNumber how (usable_from core 1 copies) last loads (first ∷ rest) numbered it k d high in let most = it_is.1 in let low = few in (it_is.0, omega (arith, most, low))) in
              few_numbers

          by : (ns : List ℕ) → IsReadOrder how (usable_from core 1 copies) last loads ns → length ns ≤ 3
          by [] it = omega arith
          by (first ∷ rest) it = few_order first rest it

      can : list_any (is_usable core) (map (copy_of copies) order) ≡ true
      can = by order is
        where
          some_number : (n : ℕ) (ps : List Pp) → list_any (is_usable core) ps ≡ true → usable_from core n ps ≡ [] → false ≡ true
          some_number n [] e none = e
          some_number n (p ∷ ps) e none = of (is_usable core p) (λ f g. some_number (n + 1) ps f g) e none
            where
              of : (b : Bool) → (list_any (is_usable core) ps ≡ true → usable_from core (n + 1) ps ≡ [] → false ≡ true) → b || list_any (is_usable core) ps ≡ true → (if b then n ∷ usable_from core (n + 1) ps else usable_from core (n + 1) ps) ≡ [] → false ≡ true
              of true rest f g = absurd (cc g)
              of false rest f g = rest f g

          by : (ns : List ℕ) → IsReadOrder how (usable_from core 1 copies) last loads ns → list_any (is_usable core) (map (copy_of copies) ns) ≡ true
          by [] it = some_number 1 copies usable it
          by (first ∷ rest) it = ap (λ b. b || list_any (is_usable core) (map (copy_of copies) rest)) (order_holds IsNumber how (usable_from core 1 copies) last loads (first ∷ rest) numbered it 0 0 (omega arith)).3

  pub chosen : (targets : List Target) (order : List ℕ) → Chooses s ask targets order → IsChosen s o targets
  chosen targets order = by (is_write ask) refl
    where
      by : (b : Bool) → is_write ask ≡ b → ChoosesBy b s ask targets order → IsChosen s o targets
      by true write it = subst (IsChosen s o) (sym it.0) (write_chosen write)
      by false read it = subst (IsChosen s o) (sym it.targets_are) (read_chosen (policy_of core ask) (slice_index_or core.last (lv_of ask) 0) (loads_of core copies) order it.order_is)

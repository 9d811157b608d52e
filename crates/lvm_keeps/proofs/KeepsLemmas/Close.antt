-- The copy that is open is closed.
use Rattle.std.proofs.Common.{◌≡◌, ◌⊎◌, inl, inr, ◌&&◌, ◌||◌, ℕ, Bool, true, false, not, if◌then◌else◌, List, [], ◌∷◌, Option, Some, None, refl, sym, ◌∙◌, ap, subst, arith}
use Rattle.std.specs.Prelude.{IfSome, is_none, is_some}
use Rattle.std.specs.List.{AllByRecursion, list_any}
use Rattle.std.specs.Option.{option_map_or}
use Rattle.lvm_session.specs.passed.Disk.{Flight}
use Rattle.std.proofs.lemmas.Bool.{or_parts}
use Rattle.lvm_num.specs.declared.place.Pp.{Pp}
use Rattle.lvm_num.specs.Descriptor.{is_pp}
use Rattle.lvm_num.proofs.Booleans.{not_so}
use Rattle.lvm_num.proofs.Lists.{all_weaker}
use Rattle.lvm_num.proofs.DescriptorLemmas.Partitions.{one_partition, same_partition}
use Rattle.lvm_path.specs.declared.ask.Ask.{Ask}
use Rattle.lvm_path.specs.declared.request.Phase.{Phase}
use Rattle.lvm_path.specs.declared.request.Phase.TheVariants as phase
use Rattle.lvm_path.specs.declared.target.Target.{Target}
use Rattle.lvm_session.specs.declared.bringing.CopyEnd.{CopyEnd}
use Rattle.lvm_session.specs.declared.bringing.OpenCopy.{OpenCopy}
use Rattle.lvm_session.specs.declared.bringing.Step.{Step}
use Rattle.lvm_session.specs.declared.bringing.Step.TheVariants as step
use Rattle.lvm_session.specs.declared.flown.Flown.{Flown}
use Rattle.lvm_session.specs.declared.flown.Owner.{Owner}
use Rattle.lvm_session.specs.declared.flown.Owner.TheVariants as owner
use Rattle.lvm_session.specs.declared.open.Open.{Open}
use Rattle.lvm_session.specs.declared.open.Power.{Power}
use Rattle.lvm_session.specs.declared.open.Power.TheVariants as power
use Rattle.lvm_session.specs.State.{Core, State, state}
use Rattle.lvm_session.specs.Judging.{is_beside_copy, stays_fresh, is_move_done, is_past_held, is_running, is_under_way, is_waiting, is_wanted_stale, destinations_for, pps_of}
use Rattle.lvm_session.specs.Bringing.{hand_of, has_row, is_idle, is_out, is_whole, step_row}
use Rattle.lvm_session.specs.Marks.{is_among}
use Rattle.lvm_session.specs.declared.answers.CopyState.{CopyState}
use Rattle.lvm_session.specs.declared.answers.CopyState.TheVariants as copy
use Rattle.lvm_session.specs.Calls.{Closes, closed, is_aimed_at, is_still_aimed, state_of_copy, state_at_end}
use Rattle.lvm_session.specs.Owners.{AreOwned, AreRows, IsStepOf, IsTransferOf}
use Rattle.lvm_session.specs.Requests.{IsAimed, IsOpenOne, IsPhase, IsTarget}
use Rattle.lvm_session.specs.Causes.{AreCaused, AreCounted, IsAnswered, IsCaused, IsCounted, IsLandedFor, is_held_stale, is_over}
use Rattle.lvm_session.specs.Sound.{IsCopy, IsFitting, IsGoing, IsOn, IsSound, IsTold, count_if, is_clearing, is_hand, waiting_rows, with_row, out_with}
use Rattle.lvm_keeps.specs.Keeps.{CloseKeeps}
use Rattle.lvm_keeps.proofs.RequestsLemmas.{moved, judged_on, laid_on, ready_on, landed_on, counted_on, origin_on, if_on}
use Rattle.lvm_keeps.proofs.Small.{both, is_false}
use Rattle.lvm_session.proofs.MovesLemmas.{place_open}
use Rattle.lvm_session.specs.Dark.{hand_of_copy}

-- no transfer of it is out, no request goes to the place of a move that has ended, and it has ended or is a move that is done
pub record IsStill (core : Core) (c : OpenCopy) : Type 0 where
  pub out : is_out c.step ≡ false
  pub unaimed : is_still_aimed core c ≡ false
  pub over : (is_running c ≡ false) ⊎ (is_move_done core c ≡ true)

-- so it is of one that isn't running
is_still : (core : Core) (c : OpenCopy) → ((cursor : ℕ) → state_of_copy core c ≡ copy.Running cursor → ⊥) → IsStill core c
is_still core c ended = by (is_out c.step) (is_still_aimed core c) (is_move_done core c) c.end refl refl refl refl
  where
    told : Bool → Bool → Bool → Option CopyEnd → CopyState
    told out aimed moved end = if out || aimed then copy.Running c.cursor else if moved then copy.Done else option_map_or (state_at_end c) end (copy.Running c.cursor)

    shown : (out aimed moved : Bool) (end : Option CopyEnd) → is_out c.step ≡ out → is_still_aimed core c ≡ aimed → is_move_done core c ≡ moved → c.end ≡ end → state_of_copy core c ≡ told out aimed moved end
    shown out aimed moved end a b d e =
        ap (λ x. told x (is_still_aimed core c) (is_move_done core c) c.end) a ∙ ap (λ x. told out x (is_move_done core c) c.end) b ∙ ap (λ x. told out aimed x c.end) d ∙ ap (told out aimed moved) e

    by : (out aimed moved : Bool) (end : Option CopyEnd) → is_out c.step ≡ out → is_still_aimed core c ≡ aimed → is_move_done core c ≡ moved → c.end ≡ end → IsStill core c
    by true aimed moved end a b d e = absurd (ended c.cursor (shown true aimed moved end a b d e))
    by false true moved end a b d e = absurd (ended c.cursor (shown false true moved end a b d e))
    by false false true end a b d e = record { out = a; unaimed = b; over = inr d }
    by false false false None a b d e = absurd (ended c.cursor (shown false false false None a b d e))
    by false false false (Some how) a b d e = record { out = a; unaimed = b; over = inl (ap is_none e) }

-- a move that is done runs, all of it is copied, its place is fresh, and nothing is under way on its logical partition
record IsDoneMove (core : Core) (c : OpenCopy) : Type 0 where
  pub running : is_running c ≡ true
  pub whole : is_whole core c ≡ true
  pub clear : stays_fresh core c.pp ≡ true
  pub unused : is_under_way core c ≡ false

done_move : (core : Core) (c : OpenCopy) → is_move_done core c ≡ true → IsDoneMove core c
done_move core c is =
    let all = both (c.moves && is_running c && is_whole core c && stays_fresh core c.pp) (not (is_under_way core c)) is in
    let most = both (c.moves && is_running c && is_whole core c) (stays_fresh core c.pp) all.0 in
    let some = both (c.moves && is_running c) (is_whole core c) most.0 in
    record { running = (both c.moves (is_running c) some.0).1; whole = some.1; clear = most.1; unused = is_false (is_under_way core c) all.1 }

idle_hand : (at : Step) → is_idle at ≡ true → hand_of at ≡ None
idle_hand step.Idle e = refl
idle_hand (step.Reading source) e = not_so e
idle_hand (step.Read buf) e = not_so e
idle_hand step.Writing e = not_so e

-- ---- no request that hasn't landed goes to its place

module _ (core : Core) (c : OpenCopy) (is : core.copy ≡ Some c) where
  -- none of the targets of a request that waits is a place
  abbrev IsFree : Open → Type 0
  IsFree x = is_waiting x ≡ true → AllByRecursion (λ (t : Target). t.moves ≡ false) x.request.targets.items

  -- a target that is a place is that of the copy
  its_place : (ask : Ask) (p : Pp) → is_among (destinations_for core ask) p ≡ true → (c.moves ≡ true) × (is_beside_copy core ask c ≡ true) × (p ≡ c.pp)
  its_place ask p among =
      let at = place_open core ask p among in
      let same : at.copy ≡ c = cc (sym at.is_open ∙ is) in
      (ap (λ (k : OpenCopy). k.moves) (sym same) ∙ at.moves, ap (is_beside_copy core ask) (sym same) ∙ at.beside, at.is ∙ ap (λ (k : OpenCopy). k.pp) same)

  module _ (ask : Ask) (none : (p : Pp) → is_among (destinations_for core ask) p ≡ true → ⊥) where
    none_moves : (ts : List Target) → AllByRecursion (IsTarget core ask) ts → AllByRecursion (λ (t : Target). t.moves ≡ false) ts
    none_moves [] aims = tt
    none_moves (t ∷ ts) aims = (by t.moves refl aims.0.copy, none_moves ts aims.1)
      where
        by : (b : Bool) → t.moves ≡ b → IsAimed b core ask t → t.moves ≡ false
        by false stays aimed = stays
        by true yes_so place = absurd (none t.pp place.0)

  -- where none has its partition among its targets
  unaimed_targets : (ask : Ask) (ts : List Target) → is_among (pps_of ts) c.pp ≡ false → AllByRecursion (IsTarget core ask) ts → AllByRecursion (λ (t : Target). t.moves ≡ false) ts
  unaimed_targets ask [] none aims = tt
  unaimed_targets ask (t ∷ ts) none aims = let parts = or_parts (is_pp c.pp t.pp) (is_among (pps_of ts) c.pp) none in (by t.moves refl aims.0.copy parts.0, unaimed_targets ask ts parts.1 aims.1)
    where
      by : (b : Bool) → t.moves ≡ b → IsAimed b core ask t → is_pp c.pp t.pp ≡ false → t.moves ≡ false
      by false stays aimed other = stays
      by true yes_so place other = absurd (not_so (sym other ∙ same_partition c.pp t.pp (sym (its_place ask t.pp place.0).2)))

  free_unaimed : (xs : List Open) → list_any (λ (o : Open). is_none o.landed && is_among (pps_of o.request.targets.items) c.pp) xs ≡ false → AllByRecursion (IsOpenOne core) xs → AllByRecursion IsFree xs
  free_unaimed [] none all = tt
  free_unaimed (x ∷ xs) none all =
      let parts = or_parts (is_none x.landed && is_among (pps_of x.request.targets.items) c.pp) (list_any (λ (o : Open). is_none o.landed && is_among (pps_of o.request.targets.items) c.pp) xs) none in
      (λ waits. unaimed_targets x.request.ask x.request.targets.items (sym (ap (λ b. b && is_among (pps_of x.request.targets.items) c.pp) waits) ∙ parts.0) (all.0.waits waits).shape.targets, free_unaimed xs parts.1 all.1)

  -- where none is under way on its logical partition
  free_unused : (xs : List Open) → list_any (λ (o : Open). is_waiting o && is_past_held o.request.phase && is_beside_copy core o.request.ask c) xs ≡ false → AllByRecursion (IsOpenOne core) xs → AllByRecursion IsFree xs
  free_unused [] none all = tt
  free_unused (x ∷ xs) none all =
      let parts = or_parts (is_waiting x && is_past_held x.request.phase && is_beside_copy core x.request.ask c) (list_any (λ (o : Open). is_waiting o && is_past_held o.request.phase && is_beside_copy core o.request.ask c) xs) none in
      (λ waits. of_phase x.request.phase refl waits parts.0 (all.0.waits waits).shape.phase_is (all.0.waits waits).shape.targets, free_unused xs parts.1 all.1)
    where
      beside_none : (p : Phase) → is_past_held p ≡ true → is_waiting x ≡ true → is_waiting x && is_past_held p && is_beside_copy core x.request.ask c ≡ false → (q : Pp) → is_among (destinations_for core x.request.ask) q ≡ true → ⊥
      beside_none p past waits unused q among =
          not_so (sym unused ∙ (ap (λ b. b && is_past_held p && is_beside_copy core x.request.ask c) waits ∙ ap (λ b. b && is_beside_copy core x.request.ask c) past ∙ (its_place x.request.ask q among).1))

      of_phase : (p : Phase) → x.request.phase ≡ p → is_waiting x ≡ true → is_waiting x && is_past_held x.request.phase && is_beside_copy core x.request.ask c ≡ false → IsPhase x.request.phase x → AllByRecursion (IsTarget core x.request.ask) x.request.targets.items
          → AllByRecursion (λ (t : Target). t.moves ≡ false) x.request.targets.items
      of_phase phase.Held at waits unused shape aims = subst (λ (ts : List Target). AllByRecursion (λ (t : Target). t.moves ≡ false) ts) (sym (subst (λ (p : Phase). IsPhase p x) at shape).0) tt
      of_phase phase.WantEntry at waits unused shape aims = none_moves x.request.ask (beside_none x.request.phase (ap is_past_held at) waits unused) x.request.targets.items aims
      of_phase phase.WantRecord at waits unused shape aims = none_moves x.request.ask (beside_none x.request.phase (ap is_past_held at) waits unused) x.request.targets.items aims
      of_phase phase.Data at waits unused shape aims = none_moves x.request.ask (beside_none x.request.phase (ap is_past_held at) waits unused) x.request.targets.items aims
      of_phase phase.WantStatus at waits unused shape aims = none_moves x.request.ask (beside_none x.request.phase (ap is_past_held at) waits unused) x.request.targets.items aims
      of_phase phase.Landed at waits unused shape aims = absurd (subst (λ (p : Phase). IsPhase p x) at shape)

  -- where a copy that isn't a move is closed
  free_still : c.moves ≡ false → (xs : List Open) → AllByRecursion (IsOpenOne core) xs → AllByRecursion IsFree xs
  free_still stays [] all = tt
  free_still stays (x ∷ xs) all = (λ waits. none_moves x.request.ask (λ q among. not_so (sym stays ∙ (its_place x.request.ask q among).0)) x.request.targets.items (all.0.waits waits).shape.targets, free_still stays xs all.1)

  free_ones : IsStill core c → AllByRecursion (IsOpenOne core) core.requests → AllByRecursion IsFree core.requests
  free_ones still all = by c.moves refl still.over
    where
      by : (b : Bool) → c.moves ≡ b → (is_running c ≡ false) ⊎ (is_move_done core c ≡ true) → AllByRecursion IsFree core.requests
      by false stays over = free_still stays core.requests all
      by true moves (inl ended) = free_unaimed core.requests (aimed c.end (sym (ap (λ b. b && is_some c.end && is_aimed_at core c.pp) moves) ∙ still.unaimed) ended) all
        where
          aimed : (end : Option CopyEnd) → is_some end && is_aimed_at core c.pp ≡ false → is_none end ≡ false → is_aimed_at core c.pp ≡ false
          aimed None none e = not_so (sym e)
          aimed (Some how) none e = none
      by true moves (inr done) = free_unused core.requests (done_move core c done).unused all

not_out : (at : Step) (core : Core) (c : OpenCopy) (f : Flight) {X : Type 0} → is_out at ≡ false → IsStepOf at core c f → X
not_out step.Idle core c f still its = absurd its
not_out (step.Reading source) core c f still its = absurd (not_so (sym still))
not_out (step.Read buf) core c f still its = absurd its
not_out step.Writing core c f still its = absurd (not_so (sym still))

module _ (s : State) (sound : IsSound s) (c : OpenCopy) (is : s.core.copy ≡ Some c) (still : IsStill s.core c) where
  abbrev core : Core
  core = s.core

  abbrev now : State
  now = moved s core.history core.requests core.queue None core.pool core.flying core.cache.entries core.last

  -- it stands for nothing
  of_copy : {A : Type 0} (t : OpenCopy → A) (none : A) → t c ≡ none → option_map_or t core.copy none ≡ none
  of_copy t none same = ap (λ m. option_map_or t m none) is ∙ same

  targets_on : (ask : Ask) (ts : List Target) → AllByRecursion (λ (t : Target). t.moves ≡ false) ts → AllByRecursion (IsTarget core ask) ts → AllByRecursion (IsTarget now.core ask) ts
  targets_on ask [] free aims = tt
  targets_on ask (t ∷ ts) free aims = (record { copy = aimed t.moves free.0 aims.0.copy; sector = aims.0.sector; there = aims.0.there }, targets_on ask ts free.1 aims.1)
    where
      aimed : (b : Bool) → b ≡ false → IsAimed b core ask t → IsAimed b now.core ask t
      aimed false stays among = among
      aimed true stays place = absurd (not_so (sym stays))

  one : (o : Open) → IsFree core c is o → IsOpenOne core o → IsOpenOne now.core o
  one o free it = record {
    laid = laid_on core core.history core.requests core.queue None core.pool core.flying core.cache.entries core.last o.request it.laid;
    waits = λ w. let r = it.waits w in let a = r.shape in record {
      shape = record { targets = targets_on o.request.ask o.request.targets.items (free w) a.targets; phase_is = a.phase_is; hand = a.hand; room = a.room; differ = a.differ; usable = a.usable; one = a.one };
      ready = ready_on core core.history core.requests core.queue None core.pool core.flying core.cache.entries core.last o (λ e. e) (λ p e. refl) r.ready;
      judged = λ write. judged_on core core.history core.requests core.queue None core.pool core.flying core.cache.entries core.last o (λ e. e) (λ p e. refl) (λ p among. not_so among) (r.judged write);
    };
    over = it.over;
    still = it.still;
  }

  ones : (os : List Open) → AllByRecursion (IsFree core c is) os → AllByRecursion (IsOpenOne core) os → AllByRecursion (IsOpenOne now.core) os
  ones [] free all = tt
  ones (o ∷ os) free all = (one o free.0 all.0, ones os free.1 all.1)

  fitting : IsFitting now.core
  fitting = let f = sound.fitting in record { valid = f.valid; id = f.id; rows = f.rows; group = f.group; entries = f.entries; notes = f.notes; table = f.table; most = f.most; queue = f.queue; a_buffer = f.a_buffer; buffers = f.buffers; last = f.last; room = f.room }

  told : IsTold now.core
  told = let t = sound.told in record { ordered = t.ordered; table = t.table; each = t.each; requests = t.requests }

  module _ (on : s.core.power ≡ power.On) where
    going : IsGoing core
    going = (sound.on on).going

    its : IsCopy core c
    its = subst (λ m. IfSome m (IsCopy core)) is going.copy

    owned : AreOwned now.core
    owned (owner.Data id target) = going.owned (owner.Data id target)
    owned (owner.Status disk) = going.owned (owner.Status disk)
    owned (owner.Note disk) = going.owned (owner.Note disk)
    owned owner.Copy = going.owned owner.Copy ∙ ap count_if (of_copy (λ (k : OpenCopy). is_out k.step) false still.out)

    no_row : has_row core c ≡ false
    no_row = ap (λ b. b || (is_running c && not (is_whole core c))) still.out ∙ by still.over
      where
        and_false : (a : Bool) → a && false ≡ false
        and_false true = refl
        and_false false = refl

        by : (is_running c ≡ false) ⊎ (is_move_done core c ≡ true) → is_running c && not (is_whole core c) ≡ false
        by (inl ended) = ap (λ b. b && not (is_whole core c)) ended
        by (inr done) = ap (λ b. is_running c && not b) (done_move core c done).whole ∙ and_false (is_running c)

    -- nothing is left to be cleared
    cleared : (p : Pp) → is_held_stale core p ≡ true → is_clearing core p ≡ true → ⊥
    cleared p held clearing = by still.over (sym (ap (λ m. option_map_or (λ (k : OpenCopy). is_running k && is_whole core k && is_pp p k.pp) m false) is) ∙ clearing)
      where
        by : (is_running c ≡ false) ⊎ (is_move_done core c ≡ true) → is_running c && is_whole core c && is_pp p c.pp ≡ true → ⊥
        by (inl ended) all = not_so (sym ended ∙ (both (is_running c) (is_whole core c) (both (is_running c && is_whole core c) (is_pp p c.pp) all).0).0)
        by (inr done) all =
            let clear = (done_move core c done).clear in
            let same = one_partition p c.pp (both (is_running c && is_whole core c) (is_pp p c.pp) all).1 in
            none (is_held_stale core c.pp) (is_wanted_stale core c.pp) clear (sym (ap (is_held_stale core) same) ∙ held)
          where
            none : (a w : Bool) → not a && not w ≡ true → a ≡ true → ⊥
            none true w clear held = not_so clear
            none false w clear held = not_so held

    keeps_going : IsGoing now.core
    keeps_going = record {
      fitting = fitting;
      told = told;
      status = going.status;
      owned = owned;
      tickets = going.tickets;
      queue = going.queue ∙ of_copy (λ (k : OpenCopy). if has_row core k then with_row (step_row core k) (waiting_rows core.requests) else waiting_rows core.requests) (waiting_rows core.requests)
          (ap (λ b. if b then with_row (step_row core c) (waiting_rows core.requests) else waiting_rows core.requests) no_row);
      pinned = going.pinned;
      requests = ones core.requests (free_ones core c is still going.requests) going.requests;
      copy = tt;
      hands = λ n. let was = going.hands n in omega (arith, was);
      behind = going.behind;
      reviewed = refl;
      fresh = going.fresh;
      clearings = λ p held clear. absurd (cleared p held (going.clearings p held clear));
      numbers = let was = going.numbers in omega (arith, was);
    }

    transfer_on : (who : Owner) (f : Flight) → IsTransferOf core who f → IsTransferOf now.core who f
    transfer_on (owner.Data id target) f of = let m = of.moves in record { place = of.place; request = of.request; there = of.there; own = of.own; aim = of.aim; aim_is = of.aim_is; moves = record { disk_is = m.disk_is; first = m.first; count = m.count; write = m.write; carries = m.carries } }
    transfer_on (owner.Status disk) f of = let w = of.writes in record { status = of.status; flies = of.flies; writes = record { disk_is = w.disk_is; first = w.first; count = w.count; write = w.write; carries = w.carries } }
    transfer_on (owner.Note disk) f of = record { note = of.note; flies = of.flies; disk_is = of.disk_is; first = of.first; count = of.count; write = of.write; carries = of.carries }
    transfer_on owner.Copy f of = absurd (not_out of.0.step core of.0 f (ap (λ (k : OpenCopy). is_out k.step) same ∙ still.out) of.2)
      where
        same : of.0 ≡ c
        same = cc (sym of.1 ∙ is)

    rows_on : (rows : List Flown) (flights : List Flight) → AreRows core rows flights → AreRows now.core rows flights
    rows_on [] [] all = all
    rows_on [] (f ∷ flights) all = all
    rows_on (row ∷ rows) [] all = all
    rows_on (row ∷ rows) (f ∷ flights) all = let first = all.0 in (record { ticket = first.ticket; long = first.long; disk = first.disk; own = transfer_on row.owner f first.own }, rows_on rows flights all.1)

    keeps_on : IsOn now
    keeps_on = let was = sound.on on in record {
      going = keeps_going;
      rows = rows_on core.flying s.device.flights was.rows;
      caused = all_weaker (AreCaused s.device core) (AreCaused s.device now.core) (λ x all waiting. all_weaker (IsCaused s.device core) (IsCaused s.device now.core) (λ t why. why) x.request.targets.items (all waiting)) core.requests was.caused;
      chosen = tt;
    }

  -- nothing was in hand
  module _ (none : hand_of c.step ≡ None) where
    out : (n : ℕ) → out_with s.device now.core n ≡ out_with s.device core n
    out n =
        let hand : count_if (is_hand n (hand_of_copy core.copy)) ≡ 0 = ap (λ h. count_if (is_hand n h)) (of_copy (λ (k : OpenCopy). hand_of k.step) None none) in
        omega (arith, hand)

    pub keeps : IsSound now
    keeps = record {
      fitting = fitting;
      told = told;
      placed = sound.placed;
      buffers = λ n. let same = out n in let was = sound.buffers n in omega (arith, same, was);
      none_lost = λ lit n. out n ∙ sound.none_lost lit n;
      on = keeps_on;
      lit = sound.lit;
      dark = sound.dark;
      off = sound.off;
      over = λ e. let was = sound.over e in record { landed = was.landed; copy = tt; flights = was.flights; flying = was.flying };
      stuck = λ e. let was = sound.stuck e in record { requests = was.requests; copy = tt };
      counted = all_weaker (AreCounted s) (AreCounted now) (λ x all. all_weaker (IsCounted s) (IsCounted now) (counted_on s core.history core.requests core.queue None core.pool core.flying core.cache.entries core.last) x.request.targets.items all) core.requests sound.counted;
      answered = all_weaker (IsAnswered s) (IsAnswered now) (λ x why. if_on (IsLandedFor s x) (IsLandedFor now x) (λ how. landed_on s core.history core.requests core.queue None core.pool core.flying core.cache.entries core.last x how) x.landed why) core.requests sound.answered;
      copy = tt;
      origin = origin_on s core.history core.requests core.queue None core.pool core.flying core.cache.entries core.last sound.origin;
    }

by_copy : (s : State) (sound : IsSound s) (m : Option OpenCopy) → s.core.copy ≡ m → Closes s.core (closed s.core) → IsSound (state s.device (closed s.core))
by_copy s sound None is event = subst IsSound (ap (λ m. state s.device (record s.core { copy = m })) is) sound
by_copy s sound (Some c) is event = keeps s sound c is still (none s.core.power refl)
  where
    still : IsStill s.core c
    still = is_still s.core c (λ cursor e. event.ended cursor (ap (λ m. option_map_or (state_of_copy s.core) m copy.Closed) is ∙ e))

    rests : IsCopy s.core c → (is_running c ≡ false) ⊎ (is_move_done s.core c ≡ true) → hand_of c.step ≡ None
    rests its (inl ended) = its.hand ended
    rests its (inr done) = idle_hand c.step (idle (is_idle c.step) refl)
      where
        idle : (b : Bool) → is_idle c.step ≡ b → is_idle c.step ≡ true
        idle true e = e
        idle false e = let d = done_move s.core c done in not_so (sym (its.under_way d.running e) ∙ d.whole)

    none : (p : Power) → s.core.power ≡ p → hand_of c.step ≡ None
    none power.On e = rests (subst (λ m. IfSome m (IsCopy s.core)) is (sound.on e).going.copy) still.over
    none power.Off e = ap hand_of (subst (λ m. IfSome m (λ (k : OpenCopy). (is_running k ≡ false) × (k.step ≡ step.Idle))) is (sound.over (ap is_over e)).copy).1
    none power.Dark e = ap hand_of (subst (λ m. IfSome m (λ (k : OpenCopy). (is_running k ≡ false) × (k.step ≡ step.Idle))) is (sound.over (ap is_over e)).copy).1
    none power.Stuck e = ap hand_of (subst (λ m. IfSome m (λ (k : OpenCopy). k.step ≡ step.Idle)) is (sound.stuck e).copy)

pub close_keeps : CloseKeeps
close_keeps s new sound event = subst (λ core. IsSound (state s.device core)) (sym event.is) (by_copy s sound s.core.copy refl (record { ended = event.ended; is = refl }))

-- A request is admitted, or admitted again.
use Rattle.std.proofs.Common.{◌≡◌, ◌⊎◌, inl, inr, ◌==◌, ◌≤◌, ◌&&◌, ◌||◌, ℕ, zero, suc, Bool, true, false, not, nat_le, if◌then◌else◌, List, [], ◌∷◌, Option, Some, None, length, slice_get, slice_set, refl, sym, ◌∙◌, ap, subst, arith}
use Rattle.std.specs.Prelude.{IfSome, count_by}
use Rattle.std.specs.List.{list_all, list_any, AllByRecursion}
use Rattle.std.specs.Option.{option_map_or}
use Rattle.std.proofs.lemmas.Bool.{eq-eqb, eqb-true, eqb-false, leb-true, ne_eqb}
use Rattle.lvm_num.specs.declared.descriptor.LvRow.{LvRow}
use Rattle.lvm_num.specs.declared.descriptor.Mode.{Mode}
use Rattle.lvm_num.specs.declared.descriptor.Mode.TheVariants as mode
use Rattle.lvm_num.specs.declared.place.Pp.{Pp}
use Rattle.lvm_num.specs.Status.{calls_dirty}
use Rattle.lvm_disk.specs.Device.{Flight}
use Rattle.lvm_vol.specs.Log.{is_open}
use Rattle.lvm_mwc.specs.declared.entries.CacheEntry.{CacheEntry}
use Rattle.lvm_mwc.specs.Cache.{Cached}
use Rattle.lvm_sched.specs.declared.writes.TargetState.{TargetState}
use Rattle.lvm_sched.specs.declared.writes.TargetState.TheVariants as stage
use Rattle.lvm_sched.specs.Writes.{is_flying, is_waiting as is_unstarted}
use Rattle.lvm_path.specs.declared.request.Phase.TheVariants as phase
use Rattle.lvm_path.specs.declared.target.Target.{Target}
use Rattle.lvm_path.specs.declared.facts.Next.TheVariants as next
use Rattle.lvm_path.specs.Asks.{is_write, lv_of}
use Rattle.lvm_path.specs.Targets.{are_over, is_begun, is_done, is_failed, is_over as is_ended}
use Rattle.lvm_path.specs.Next.{first_phase}
use Rattle.lvm_num.specs.Descriptor.{is_pp}
use Rattle.lvm_num.proofs.Booleans.{and_false, not_so}
use Rattle.lvm_status.specs.Update.{Stored, seen}
use Rattle.lvm_status.specs.Runs.{IsSoundStatus}
use Rattle.lvm_session.specs.declared.bringing.OpenCopy.{OpenCopy}
use Rattle.lvm_session.specs.declared.flown.Owner.TheVariants as owner
use Rattle.lvm_session.specs.declared.open.Open.{Open}
use Rattle.lvm_session.specs.declared.open.Power.TheVariants as power
use Rattle.lvm_session.specs.State.{Core, State, state}
use Rattle.lvm_session.specs.Judging.{copies_in, facts_of, group_in, has_dirty_mark, has_names, is_caught, is_held_back, is_missing, is_waiting, is_wanted_stale, mode_of, next_for, policy_of}
use Rattle.lvm_session.specs.Bringing.{has_row, step_row}
use Rattle.lvm_session.specs.Events.{Chooses, admitted_as, after_admission, last_after, makes_dirty, without_pin}
use Rattle.lvm_num.specs.Modes.{is_passive}
use Rattle.lvm_num.proofs.Lists.{all_weaker, all_at, length_set, set_beside}
use Rattle.lvm_session.specs.Marks.{WantsDirty, WantsDirtyIf}
use Rattle.lvm_session.specs.Left.{clean_volumes, if_open, marks_later}
use Rattle.lvm_keeps.proofs.LeftLemmas.Updates.{open_at, open_set}
use Rattle.lvm_session.specs.Owners.{AreOwned, IsDataOf, flies, target_flies}
use Rattle.lvm_session.specs.Requests.{IsOpenOne, IsPhase, IsRecorded, IsRequest, IsTarget, has_record, is_past_held, is_wanted_dirty, may_lack, mode_for, wants_status}
use Rattle.lvm_session.specs.Causes.{AreCaused, AreCounted, IsAnswered, IsCaused, IsChosenSince, IsCausedAmong, IsCounted, IsLandedFor, fails_on, faults_at_opening, is_held_stale, own_faults}
use Rattle.lvm_session.specs.Sound.{IsAsked, IsCopy, IsFitting, IsGoing, IsOn, IsSound, IsTold, count_if, is_dark, is_hand, out_with, pins, with_row}
use Rattle.lvm_keeps.specs.Keeps.{AdmissionKeeps}
use Rattle.lvm_keeps.proofs.CausesLemmas.{answered_still, copies_still, counted_still, origin_still}
use Rattle.lvm_keeps.proofs.Lists.{all_set, any_set, count_cons, count_same, count_set}
use Rattle.lvm_keeps.proofs.OwnersLemmas.Rows.{all_fly, rows_on}
use Rattle.lvm_keeps.proofs.Small.{same_blame}
use Rattle.lvm_keeps.proofs.RequestsLemmas.{bring_on, if_on, moved, no_cause, open_on, target_still}
use Rattle.lvm_keeps.proofs.DarkLemmas.Tables.{apart, ascending_set, rows_set}
use Rattle.lvm_keeps.proofs.SoundLemmas.Whole.{sound_when_on}
use Rattle.lvm_keeps_events.proofs.TargetsLemmas.{only_at}
use Rattle.lvm_keeps_events.proofs.JudgingLemmas.Chosen.{IsAdmissible, IsChosen, admissible, chosen}
use Rattle.lvm_keeps_events.proofs.KeepsLemmas.Landing.{entries_left, only_entries, pins_left}
use Rattle.lvm_keeps_events.proofs.Marking.{IsMarked, keeps as marked_keeps, marked, now as marked_now, target_caused as marked_caused}
use Rattle.lvm_keeps_events.proofs.SoundLemmas.Tables.{any_set_less}

-- ---- new targets

module _ (t : Target → Bool) (none : (x : Target) → x.state ≡ stage.Waiting → t x ≡ false) where
  pub any_fresh : (ts : List Target) → AllByRecursion (λ (x : Target). x.state ≡ stage.Waiting) ts → list_any t ts ≡ false
  any_fresh [] all = refl
  any_fresh (x ∷ ts) all = ap (λ b. b || list_any t ts) (none x all.0) ∙ any_fresh ts all.1

  count_fresh : (ts : List Target) → AllByRecursion (λ (x : Target). x.state ≡ stage.Waiting) ts → count_by t ts ≡ 0
  count_fresh [] all = refl
  count_fresh (x ∷ ts) all = let more = count_cons t x ts in let one : count_if (t x) ≡ 0 = ap count_if (none x all.0) in let rest = count_fresh ts all.1 in omega (arith, more, one, rest)

-- targets of which a transfer was started are no new ones, nor those that have ended
not_over : (ts : List Target) → 1 ≤ length ts → AllByRecursion (λ (x : Target). x.state ≡ stage.Waiting) ts → are_over ts ≡ false
not_over [] some all = absurd (omega (arith, some))
not_over (x ∷ ts) some all = ap (λ (st : TargetState). is_ended st && list_all (λ (t : Target). is_ended t.state) ts) all.0

unbegun_flies : (ts : List Target) (k : ℕ) → is_begun ts ≡ false → option_map_or (λ (t : Target). is_flying t.state) (slice_get ts k) false ≡ false
unbegun_flies [] k e = refl
unbegun_flies (t ∷ ts) zero e = by t.state e
  where
    by : (st : TargetState) → not (is_unstarted st) || is_begun ts ≡ false → is_flying st ≡ false
    by stage.Waiting f = refl
    by stage.Flying f = not_so (sym f)
    by stage.Done f = refl
    by stage.Failed f = refl
unbegun_flies (t ∷ ts) (suc k) e = unbegun_flies ts k (by (not (is_unstarted t.state)) e)
  where
    by : (b : Bool) → b || is_begun ts ≡ false → is_begun ts ≡ false
    by true f = not_so (sym f)
    by false f = f

unbegun_done : (ts : List Target) → is_begun ts ≡ false → list_any (λ (t : Target). is_done t.state) ts ≡ false
unbegun_done [] e = refl
unbegun_done (t ∷ ts) e = by t.state (λ f. unbegun_done ts f) e
  where
    by : (st : TargetState) → (is_begun ts ≡ false → list_any (λ (u : Target). is_done u.state) ts ≡ false) → not (is_unstarted st) || is_begun ts ≡ false → is_done st || list_any (λ (u : Target). is_done u.state) ts ≡ false
    by stage.Waiting rest f = rest f
    by stage.Flying rest f = not_so (sym f)
    by stage.Done rest f = not_so (sym f)
    by stage.Failed rest f = not_so (sym f)

pub some_long : {A : Type 0} (t : A → Bool) (xs : List A) → list_any t xs ≡ true → 1 ≤ length xs
some_long t [] e = not_so e
some_long t (x ∷ xs) e = omega arith

-- ---- where it begins

-- several targets are two or more
several_is : (n : ℕ) (b : Bool) → nat_le 2 n ≡ b → (b ≡ true → 2 ≤ n) × (b ≡ false → n ≤ 1)
several_is n true is = (λ e. leb-true 2 n is, λ e. not_so (sym e))
several_is n false is = (λ e. not_so e, λ e. grind (arith, is))

module _ (o : Open) (several : Bool) (some : 1 ≤ length o.request.targets.items) (many : several ≡ true → 2 ≤ length o.request.targets.items) (one : several ≡ false → length o.request.targets.items ≤ 1)
    (fresh : is_begun o.request.targets.items ≡ false) (open_still : are_over o.request.targets.items ≡ false) (unpinned : o.request.pinned ≡ false) where
  data_phase : IsPhase phase.Data o
  data_phase = (some, λ write. open_still)

  phase_by : (m : Mode) (write : Bool) → is_write o.request.ask ≡ write → (b : Bool) → several ≡ b → IsPhase (first_phase m write b) o
  phase_by m false is b e = data_phase
  phase_by mode.Active true is true e = (fresh, unpinned, is, many e)
  phase_by mode.Active true is false e = data_phase
  phase_by mode.Passive true is true e = (fresh, is, many e)
  phase_by mode.Passive true is false e = data_phase
  phase_by mode.Off true is b e = data_phase

  recorded_by : (m : Mode) (write b : Bool) → several ≡ b → IsRecorded (if write then m else mode.Off) (first_phase m write b) o.request
  recorded_by m false b e = (unpinned, refl, refl)
  recorded_by mode.Active true true e = tt
  recorded_by mode.Active true false e = inr (one e)
  recorded_by mode.Passive true true e = (unpinned, refl)
  recorded_by mode.Passive true false e = (unpinned, refl)
  recorded_by mode.Off true b e = (unpinned, refl, refl)

  names_by : (core : Core) (m : Mode) (write b : Bool) → several ≡ b → has_record (first_phase m write b) ≡ true → 2 ≤ length o.request.targets.items → has_names core (if write then m else mode.Off) o.request ≡ true
  names_by core m false b e has two = refl
  names_by core mode.Active true true e has two = not_so has
  names_by core mode.Active true false e has two = let few = one e in absurd (omega (arith, few, two))
  names_by core mode.Passive true b e has two = refl
  names_by core mode.Off true b e has two = refl

  marks_by : (core : Core) (m : Mode) (write b : Bool) → several ≡ b → has_record (first_phase m write b) ≡ true → 2 ≤ length o.request.targets.items → has_dirty_mark core (if write then m else mode.Off) o.request ≡ true
  marks_by core m false b e has two = refl
  marks_by core mode.Active true b e has two = refl
  marks_by core mode.Passive true true e has two = not_so has
  marks_by core mode.Passive true false e has two = let few = one e in absurd (omega (arith, few, two))
  marks_by core mode.Off true b e has two = refl

no_status : (m : Mode) (write b : Bool) → wants_status (first_phase m write b) ≡ false
no_status m false b = refl
no_status mode.Active true true = refl
no_status mode.Active true false = refl
no_status mode.Passive true true = refl
no_status mode.Passive true false = refl
no_status mode.Off true b = refl

last_long : (last : List ℕ) (lv : ℕ) (order : List ℕ) → length (last_after last lv order) ≡ length last
last_long last lv [] = refl
last_long last lv (first ∷ rest) = length_set last lv first

module _ (s : State) (sound : IsSound s) (on : s.core.power ≡ power.On) (place : ℕ) (o : Open) (there : slice_get s.core.requests place ≡ Some o) (waits : is_waiting o ≡ true)
    (unbegun : is_begun o.request.targets.items ≡ false) (free : is_held_back s.core o.request ≡ false) (targets : List Target) (order : List ℕ) (its_choice : IsChosen s o targets)
    (dirty : 2 ≤ length targets → is_wanted_dirty s.core (mode_for s.core o.request.ask) o.request.ask ≡ true) where
  abbrev core : Core
  core = s.core

  abbrev pub made : Open
  made = admitted_as (policy_of core o.request.ask) (mode_of core o.request.ask) targets o

  abbrev requests : List Open
  requests = slice_set core.requests place made

  abbrev entries : List CacheEntry
  entries = (without_pin core.cache o.request).entries

  abbrev last : List ℕ
  last = last_after core.last (lv_of o.request.ask) order

  abbrev now : State
  now = moved s core.history requests core.queue core.copy core.pool core.flying entries last

  going : IsGoing core
  going = (sound.on on).going

  its : IsOpenOne core o
  its = all_at (IsOpenOne core) core.requests place o going.requests there

  request : IsRequest core o
  request = its.waits waits

  some : 1 ≤ length targets
  some = some_long (λ (t : Target). t.usable) targets its_choice.usable

  fresh : is_begun targets ≡ false
  fresh = any_fresh (λ (t : Target). not (is_unstarted t.state)) (λ x e. ap (λ (st : TargetState). not (is_unstarted st)) e) targets its_choice.fresh

  none_done : list_any (λ (t : Target). is_done t.state) targets ≡ false
  none_done = any_fresh (λ (t : Target). is_done t.state) (λ x e. ap is_done e) targets its_choice.fresh

  abbrev several : Bool
  several = nat_le 2 (length targets)

  -- ---- the request

  one : IsOpenOne now.core made
  one =
      let few = its_choice.few in
      let many = several_is (length targets) several refl in
      let still = not_over targets some its_choice.fresh in
      let m = mode_of core o.request.ask in
      record {
        laid = let l = its.laid in record { within = l.within; blocks = l.blocks; most = omega (arith, few); id = l.id };
        waits = λ e. record {
          shape = record {
            targets = all_weaker (IsTarget core o.request.ask) (IsTarget now.core o.request.ask) (target_still core now.core refl (λ ask. refl) o.request.ask) targets its_choice.aims;
            phase_is = phase_by made several some many.0 many.1 fresh still refl m (is_write o.request.ask) refl several refl;
            hand = request.shape.hand ∙ ap (λ b. not (is_write o.request.ask) && b) (unbegun_done o.request.targets.items unbegun ∙ sym none_done);
            room = request.shape.room;
            differ = its_choice.differ;
            usable = λ past. its_choice.usable;
            one = λ read. let none = count_fresh (λ (t : Target). is_flying t.state || is_done t.state) (λ x e. ap (λ (st : TargetState). is_flying st || is_done st) e) targets its_choice.fresh in omega (arith, none);
          };
          ready = record {
            free = λ past. free;
            recorded = recorded_by made several some many.0 many.1 fresh still refl m (is_write o.request.ask) several refl;
            wanted = λ past two. wanted_on (mode_for core o.request.ask) (dirty two);
            named = λ has two. names_by made several some many.0 many.1 fresh still refl now.core m (is_write o.request.ask) several refl has two;
            dirty = λ has two. marks_by made several some many.0 many.1 fresh still refl now.core m (is_write o.request.ask) several refl has two;
          };
          judged = λ write. record {
            uncaught = all_weaker (λ (t : Target). t.state ≡ stage.Waiting) (λ (t : Target). may_lack made t && is_caught core (group_in core o.request.ask) t.pp ≡ false)
                (λ t e. ap (λ (st : TargetState). (is_failed st || false) && is_caught core (group_in core o.request.ask) t.pp) e) targets its_choice.fresh;
            due = λ status. not_so (sym (no_status m (is_write o.request.ask) several) ∙ status);
            missed = λ status. not_so (sym (no_status m (is_write o.request.ask) several) ∙ status);
            all = λ begun p among. not_so (sym fresh ∙ begun);
            place = λ begun p among. not_so (sym fresh ∙ begun);
          };
        };
        over = λ e. absurd (not_so (sym e ∙ waits));
        still = λ e. absurd (not_so (sym e ∙ waits));
      }
    where
      wanted_on : (k : Mode) → is_wanted_dirty core k o.request.ask ≡ true → is_wanted_dirty now.core k o.request.ask ≡ true
      wanted_on mode.Active e = refl
      wanted_on mode.Passive e = e
      wanted_on mode.Off e = refl

  still : (x : Open) → IsOpenOne core x → IsOpenOne now.core x
  still x it = open_on core core.history requests core.queue core.copy core.pool core.flying entries last x (λ e. e) (λ p e. e) (λ ask. refl) it

  fitting : IsFitting now.core
  fitting = let f = sound.fitting in record {
    valid = f.valid;
    id = f.id;
    rows = f.rows;
    group = f.group;
    entries = entries_left core going place o there;
    notes = f.notes;
    table = subst (λ n. n ≤ core.most) (sym (length_set core.requests place made)) f.table;
    most = f.most;
    queue = f.queue;
    a_buffer = f.a_buffer;
    buffers = f.buffers;
    last = last_long core.last (lv_of o.request.ask) order ∙ f.last;
    room = f.room;
  }

  told : IsTold now.core
  told = let t = sound.told in record {
    ordered = t.ordered;
    table = record {
      ascending = ascending_set o made refl core.requests place there t.table.ascending;
      still = all_set Still Still (λ x is. is) core.requests place made (all_at Still core.requests place o t.table.still there) t.table.still;
    };
    each = λ id. t.each id ∙ sym (any_set (λ (x : Open). is_waiting x && x.request.id == id) core.requests place o made there refl);
    requests = all_set (IsAsked core.history.facts) (IsAsked core.history.facts) (λ x is. is) core.requests place made asked t.requests;
  }
    where
      Still : Open → Type 0
      Still x = is_waiting x ≡ true → is_open core.history.facts x.request.id ≡ true

      asked : IsAsked core.history.facts made
      asked = let a = all_at (IsAsked core.history.facts) core.requests place o sound.told.requests there in
          record { request = a.request; told = a.told; client = a.client; vol = a.vol; at = a.at; count = a.count; write = a.write; length = a.length; place = a.place; outcome = a.outcome; answered = a.answered }

  -- ---- whose the transfers are

  none_out : (target : ℕ) → target_flies target o ≡ false
  none_out target = unbegun_flies o.request.targets.items target unbegun

  same_out : (target : ℕ) → target_flies target made ≡ target_flies target o
  same_out target = unbegun_flies targets target fresh ∙ sym (none_out target)

  owned : AreOwned now.core
  owned (owner.Data id target) = going.owned (owner.Data id target) ∙ ap count_if (sym (any_set (λ (x : Open). x.request.id == id && target_flies target x) core.requests place o made there (ap (λ b. o.request.id == id && b) (same_out target))))
  owned (owner.Status disk) = going.owned (owner.Status disk)
  owned (owner.Note disk) = going.owned (owner.Note disk)
  owned owner.Copy = going.owned owner.Copy

  not_flying : (target : ℕ) → flies core (owner.Data o.request.id target) ≡ false
  not_flying target = only_at (λ (x : Open). x.request.id == o.request.id && target_flies target x) core.requests place o there (apart core.requests place o there sound.told.table.ascending)
      (λ x other. ap (λ b. b && target_flies target x) (ne_eqb x.request.id o.request.id other)) ∙ ap (λ b. o.request.id == o.request.id && b) (none_out target) ∙ and_false (o.request.id == o.request.id)

  data_on : (id target : ℕ) (f : Flight) → flies core (owner.Data id target) ≡ true → IsDataOf core id target f → IsDataOf now.core id target f
  data_on id target f fly of = by (of.place == place) refl
    where
      by : (b : Bool) → (of.place == place) ≡ b → IsDataOf now.core id target f
      by true is =
          let same : o ≡ of.request = cc (sym there ∙ ap (slice_get core.requests) (sym (eqb-true of.place place is)) ∙ of.there) in
          let named : o.request.id ≡ id = ap (λ (x : Open). x.request.id) same ∙ of.own in
          not_so (sym (not_flying target) ∙ ap (λ i. flies core (owner.Data i target)) named ∙ fly)
      by false is = let m = of.moves in record { place = of.place; request = of.request; there = set_beside core.requests place of.place made (eqb-false of.place place is) ∙ of.there; own = of.own; aim = of.aim; aim_is = of.aim_is; moves = record { disk_is = m.disk_is; first = m.first; count = m.count; write = m.write; carries = m.carries } }

  -- ---- all of it, while it is on

  hands : (n : ℕ) → count_by (λ (x : Open). is_hand n x.got) requests ≡ count_by (λ (x : Open). is_hand n x.got) core.requests
  hands n = count_same (λ (x : Open). is_hand n x.got) core.requests place o made there refl

  marks_same : marks_later made ≡ marks_later o
  marks_same = ap (λ b. is_waiting o && is_write o.request.ask && not (b && are_over targets)) fresh ∙ sym (ap (λ b. is_waiting o && is_write o.request.ask && not (b && are_over o.request.targets.items)) unbegun)

  bring : (c : OpenCopy) → IsCopy core c → IsCopy now.core c
  bring c it = bring_on core core.history requests core.queue core.copy core.pool core.flying entries last c (omega arith) (λ e. e) it

  keeps_going : IsGoing now.core
  keeps_going = record {
    fitting = fitting;
    told = told;
    status = going.status;
    owned = owned;
    tickets = going.tickets;
    queue = going.queue ∙ ap (λ rows. option_map_or (λ (c : OpenCopy). if has_row core c then with_row (step_row core c) rows else rows) core.copy rows) (sym (rows_set core.requests place o made there refl));
    pinned = λ lv group.
        let was = going.pinned lv group in
        let less = pins_left core going place o there lv group in
        let counted = count_set (pins lv group) core.requests place o made there in
        omega (arith, was, less, counted);
    requests = all_set (IsOpenOne core) (IsOpenOne now.core) still core.requests place made one going.requests;
    copy = if_on (IsCopy core) (IsCopy now.core) bring core.copy going.copy;
    hands = λ n. let same = hands n in let was = going.hands n in omega (arith, same, was);
    behind = going.behind;
    reviewed = going.reviewed;
    fresh = going.fresh;
    clearings = going.clearings;
    numbers = let same = count_same marks_later core.requests place o made there marks_same in let still_open = open_set core.requests place made (clean_volumes core) in let was = going.numbers in omega (arith, same, still_open, was);
  }

  -- ---- causes

  none_failed : (p : Pp) → fails_on p made ≡ false
  none_failed p = ap (λ b. is_waiting o && is_write o.request.ask && b) (any_fresh (λ (t : Target). is_failed t.state && is_pp p t.pp) (λ x e. ap (λ (st : TargetState). is_failed st && is_pp p x.pp) e) targets its_choice.fresh) ∙ ends (is_waiting o) (is_write o.request.ask)
    where
      ends : (a b : Bool) → a && b && false ≡ false
      ends true true = refl
      ends true false = refl
      ends false b = refl

  target_caused : (t : Target) → IsCaused s.device core t → IsCaused s.device now.core t
  target_caused t why e = why (same_blame (is_failed t.state) t.usable (is_missing core t.pp.disk) (is_wanted_stale core t.pp) (is_held_stale core t.pp) (list_any (fails_on t.pp) core.requests) (list_any (fails_on t.pp) requests)
      (λ is. any_set_less (fails_on t.pp) core.requests place made (none_failed t.pp) is) e)

  caused : (x : Open) → AreCaused s.device core x → AreCaused s.device now.core x
  caused x all waiting = all_weaker (IsCaused s.device core) (IsCaused s.device now.core) target_caused x.request.targets.items (all waiting)

  -- its targets are new, and count the faults of now
  its_chosen : (c : OpenCopy) → IsCausedAmong s (copies_in core.descriptor c.lv c.lp) c → IsChosenSince now.core c made
  its_chosen c why waiting older number p at = all_weaker (λ (t : Target). t.faults ≡ s.device.counts.faults t.pp.disk) (λ (t : Target). (t.pp ≡ p → faults_at_opening c number ≤ t.faults) × (t.pp ≡ c.pp → own_faults c ≤ t.faults))
      (λ t now_is. (
        λ same. let low = why.since number p at in let here : s.device.counts.faults t.pp.disk ≡ s.device.counts.faults p.disk = ap (λ (q : Pp). s.device.counts.faults q.disk) same in omega (arith, now_is, low, here),
        λ same. let low = why.own_since in let here : s.device.counts.faults t.pp.disk ≡ s.device.counts.faults c.pp.disk = ap (λ (q : Pp). s.device.counts.faults q.disk) same in omega (arith, now_is, low, here),
      )) targets its_choice.faults

  chosen_on : (m : Option OpenCopy) → IfSome m (λ (c : OpenCopy). IsCausedAmong s (copies_in core.descriptor c.lv c.lp) c) → IfSome m (λ (c : OpenCopy). AllByRecursion (IsChosenSince core c) core.requests) → IfSome m (λ (c : OpenCopy). AllByRecursion (IsChosenSince now.core c) requests)
  chosen_on None why all = tt
  chosen_on (Some c) why all = all_set (IsChosenSince core c) (IsChosenSince now.core c) (λ x is. is) core.requests place made (its_chosen c why) all

  keeps_on : IsOn now
  keeps_on = let was = sound.on on in record {
    going = keeps_going;
    rows = rows_on core core.history requests core.queue core.pool core.flying entries last data_on core.flying s.device.flights (all_fly core going.owned) was.rows;
    caused = all_set (AreCaused s.device core) (AreCaused s.device now.core) caused core.requests place made (λ waiting. all_weaker (IsCaused s.device core) (IsCaused s.device now.core) target_caused targets its_choice.caused) was.caused;
    chosen = chosen_on core.copy sound.copy was.chosen;
  }

  -- ---- all of it

  out : (n : ℕ) → out_with s.device now.core n ≡ out_with s.device core n
  out n = let same = hands n in omega (arith, same)

  its_counted : AreCounted now made
  its_counted = all_weaker (λ (t : Target). t.faults ≡ s.device.counts.faults t.pp.disk) (IsCounted now) (λ t same. let began = sound.origin.since t.pp.disk in record { began = omega (arith, began, same); since = omega (arith, same) }) targets its_choice.faults

  pub keeps : IsSound now
  keeps = sound_when_on s now refl refl sound on fitting told keeps_on (λ n. out n ∙ sound.none_lost (ap is_dark on) n)
      (all_set (AreCounted s) (AreCounted now) (counted_still s now refl) core.requests place made its_counted sound.counted)
      (all_set (IsAnswered s) (IsAnswered now) (answered_still s now refl) core.requests place made (no_cause (IsLandedFor now made) o.landed waits) sound.answered) (copies_still s now refl core.copy sound.copy) (origin_still s now refl refl sound.origin)

-- ---- of a session that admits it next

module _ (s : State) (sound : IsSound s) (on : s.core.power ≡ power.On) (place : ℕ) (o : Open) (there : slice_get s.core.requests place ≡ Some o) (admits : next_for s.core o ≡ next.Admit) where
  base : Core
  base = s.core

  pub one_of : IsOpenOne s.core o
  one_of = all_at (IsOpenOne s.core) s.core.requests place o (sound.on on).going.requests there

  pub may : IsAdmissible o.request.phase (facts_of s.core o.request) o.request
  may = admissible o.request.phase (facts_of s.core o.request) o.request admits

  pub waits_so : is_waiting o ≡ true
  waits_so = by (is_waiting o) refl
    where
      landed : o.request.phase ≡ phase.Landed → (o.request.phase ≡ phase.Held) ⊎ (o.request.phase ≡ phase.WantEntry) ⊎ (o.request.phase ≡ phase.WantRecord) ⊎ ((o.request.phase ≡ phase.Data) × (is_write o.request.ask ≡ true) × (is_begun o.request.targets.items ≡ false)) → false ≡ true
      landed e (inl is) = absurd (let no : phase.Landed ≡ phase.Held = sym e ∙ is in cc)
      landed e (inr (inl is)) = absurd (let no : phase.Landed ≡ phase.WantEntry = sym e ∙ is in cc)
      landed e (inr (inr (inl is))) = absurd (let no : phase.Landed ≡ phase.WantRecord = sym e ∙ is in cc)
      landed e (inr (inr (inr is))) = absurd (let no : phase.Landed ≡ phase.Data = sym e ∙ is.0 in cc)

      by : (b : Bool) → is_waiting o ≡ b → b ≡ true
      by true is = refl
      by false is = landed (one_of.over is).phase_is may.waits

  pub request_of : IsRequest s.core o
  request_of = one_of.waits waits_so

  pub unbegun_so : is_begun o.request.targets.items ≡ false
  unbegun_so = by may.waits
    where
      by : (o.request.phase ≡ phase.Held) ⊎ (o.request.phase ≡ phase.WantEntry) ⊎ (o.request.phase ≡ phase.WantRecord) ⊎ ((o.request.phase ≡ phase.Data) × (is_write o.request.ask ≡ true) × (is_begun o.request.targets.items ≡ false)) → is_begun o.request.targets.items ≡ false
      by (inl is) = ap is_begun (subst (λ p. IsPhase p o) is request_of.shape.phase_is).0
      by (inr (inl is)) = (subst (λ p. IsPhase p o) is request_of.shape.phase_is).0
      by (inr (inr (inl is))) = (subst (λ p. IsPhase p o) is request_of.shape.phase_is).0
      by (inr (inr (inr is))) = is.2

  free_so : is_held_back s.core o.request ≡ false
  free_so = by may.waits
    where
      by : (o.request.phase ≡ phase.Held) ⊎ (o.request.phase ≡ phase.WantEntry) ⊎ (o.request.phase ≡ phase.WantRecord) ⊎ ((o.request.phase ≡ phase.Data) × (is_write o.request.ask ≡ true) × (is_begun o.request.targets.items ≡ false)) → is_held_back s.core o.request ≡ false
      by (inl is) = may.held is
      by (inr (inl is)) = request_of.ready.free (ap is_past_held is)
      by (inr (inr (inl is))) = request_of.ready.free (ap is_past_held is)
      by (inr (inr (inr is))) = request_of.ready.free (ap is_past_held is.0)

  module _ (targets : List Target) (order : List ℕ) (chooses : Chooses s o.request.ask targets order) where
    pub choice : IsChosen s o targets
    choice = chosen s sound on place o there one_of.laid unbegun_so may.pending may.usable targets order chooses

    -- nothing is marked, as it is already, or isn't to be
    dirty_so : makes_dirty s.core o.request.ask targets ≡ false → 2 ≤ length targets → is_wanted_dirty s.core (mode_for s.core o.request.ask) o.request.ask ≡ true
    dirty_so none two = by (is_write o.request.ask) (mode_of s.core o.request.ask) none
      where
        two_so : nat_le 2 (length targets) ≡ true
        two_so = grind (arith, two)

        by : (w : Bool) (m : Mode) → is_passive m && w && nat_le 2 (length targets) && not (calls_dirty s.core.status.wanted (lv_of o.request.ask)) ≡ false → is_wanted_dirty s.core (if w then m else mode.Off) o.request.ask ≡ true
        by false m e = refl
        by true mode.Active e = refl
        by true mode.Off e = refl
        by true mode.Passive e = marked_so (calls_dirty s.core.status.wanted (lv_of o.request.ask)) (sym (ap (λ b. b && not (calls_dirty s.core.status.wanted (lv_of o.request.ask))) two_so) ∙ e)
          where
            marked_so : (b : Bool) → not b ≡ false → b ≡ true
            marked_so true f = refl
            marked_so false f = not_so (sym f)

    unmarked : makes_dirty s.core o.request.ask targets ≡ false → IsSound (state s.device (record (after_admission s.core place o targets order) { status = s.core.status }))
    unmarked none = subst IsSound (sym (ap (λ (c : Cached). state s.device (record (after_admission s.core place o targets order) { cache = c })) (only_entries s.core.cache o.request)))
        (keeps s sound on place o there waits_so unbegun_so free_so targets order choice (dirty_so none))

    module _ (status : Stored) (makes : makes_dirty s.core o.request.ask targets ≡ true) (wants : WantsDirty (lv_of o.request.ask) s.core.status status) where
      abbrev pub row : LvRow
      row = one_of.laid.within.row

      parts : (is_passive (mode_of s.core o.request.ask) ≡ true) × (calls_dirty s.core.status.wanted (lv_of o.request.ask) ≡ false) × (is_write o.request.ask ≡ true)
      parts = by (is_passive (mode_of s.core o.request.ask)) (is_write o.request.ask) (nat_le 2 (length targets)) (calls_dirty s.core.status.wanted (lv_of o.request.ask)) makes
        where
          by : (a b c d : Bool) → a && b && c && not d ≡ true → (a ≡ true) × (d ≡ false) × (b ≡ true)
          by true true true false e = (refl, refl, refl)
          by true true true true e = not_so e
          by true true false d e = not_so e
          by true false c d e = not_so e
          by false b c d e = not_so e

      pub passive : is_passive row.mode ≡ true
      passive = sym (ap (λ m. is_passive (option_map_or (λ (r : LvRow). r.mode) m mode.Off)) one_of.laid.within.volume) ∙ parts.0

      pub clean : calls_dirty s.core.status.wanted (lv_of o.request.ask) ≡ false
      clean = parts.1

      pub writes : is_write o.request.ask ≡ true
      writes = parts.2

      pub passive_so : is_passive (mode_of s.core o.request.ask) ≡ true
      passive_so = parts.0

      pub mark : IsMarked s.core (lv_of o.request.ask) status
      mark = marked s.core (lv_of o.request.ask) status (sound.on on).going wants

      abbrev pub marked_status : Stored
      marked_status = record s.core.status { wanted = status.wanted; writes = status.writes }

      pub status_sound : IsSoundStatus (seen marked_status)
      status_sound = subst (λ (u : Stored). IsSoundStatus (seen u)) mark.is mark.sound

      some_open : (n : ℕ) → if_open s.core.requests n ≡ n
      some_open n = open_at s.core.requests place o n there

      abbrev between : State
      between = marked_now s sound on (lv_of o.request.ask) status.wanted status.writes mark.like mark.started status_sound row one_of.laid.within.volume passive clean some_open

      sound_between : IsSound between
      sound_between = marked_keeps s sound on (lv_of o.request.ask) status.wanted status.writes mark.like mark.started status_sound row one_of.laid.within.volume passive clean some_open

      choice_between : IsChosen between o targets
      choice_between = let c = choice in record {
        aims = all_weaker (IsTarget s.core o.request.ask) (IsTarget between.core o.request.ask) (target_still s.core between.core refl (λ ask. refl) o.request.ask) targets c.aims;
        fresh = c.fresh;
        differ = c.differ;
        few = c.few;
        few_to_read = c.few_to_read;
        usable = c.usable;
        faults = c.faults;
        caused = all_weaker (IsCaused s.device s.core) (IsCaused s.device between.core) (marked_caused s sound on (lv_of o.request.ask) status.wanted status.writes mark.like mark.started status_sound row one_of.laid.within.volume passive clean some_open) targets c.caused;
      }

      wanted_so : is_wanted_dirty between.core (mode_for between.core o.request.ask) o.request.ask ≡ true
      wanted_so = by (mode_for between.core o.request.ask)
        where
          by : (m : Mode) → is_wanted_dirty between.core m o.request.ask ≡ true
          by mode.Active = refl
          by mode.Off = refl
          by mode.Passive = mark.like.dirty (lv_of o.request.ask) ∙ ap (λ (b : Bool). if b then true else calls_dirty s.core.status.wanted (lv_of o.request.ask)) (eq-eqb (lv_of o.request.ask) (lv_of o.request.ask) refl)

      marks : IsSound (state s.device (record (after_admission s.core place o targets order) { status = status }))
      marks =
          subst IsSound (sym (ap (λ (u : Stored). state s.device (record (after_admission s.core place o targets order) { status = u })) mark.is ∙ ap (λ (c : Cached). state s.device (record (after_admission s.core place o targets order) { status = marked_status; cache = c })) (only_entries s.core.cache o.request)))
          (keeps between sound_between on place o there waits_so unbegun_so free_so targets order choice_between (λ two. wanted_so))

pub admission_keeps : AdmissionKeeps
admission_keeps place old new sound on event =
    subst IsSound (sym event.is) (by (makes_dirty old.core event.request.request.ask event.targets) refl event.dirty)
  where
    by : (b : Bool) → makes_dirty old.core event.request.request.ask event.targets ≡ b → WantsDirtyIf b (lv_of event.request.request.ask) old.core.status new.core.status
        → IsSound (state old.device (record (after_admission old.core place event.request event.targets event.order) { status = new.core.status }))
    by false is same = subst (λ (u : Stored). IsSound (state old.device (record (after_admission old.core place event.request event.targets event.order) { status = u }))) (sym same)
        (unmarked old sound on place event.request event.there event.admits event.targets event.order event.chosen is)
    by true is wants = marks old sound on place event.request event.there event.admits event.targets event.order event.chosen new.core.status is wants

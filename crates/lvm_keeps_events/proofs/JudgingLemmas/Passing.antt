-- The copy that is being brought up has passed a track group, and goes on with the next one, or is to be cleared.
use Rattle.std.proofs.Common.{◌%◌, ◌&&◌, ◌*◌, ◌++◌, ◌+◌, ◌-◌, ◌/◌, ◌<◌, ◌==◌, [], ◌^◌, ap, arith, Bool, false, filter, find, if◌then◌else◌, inl, inr, length, List, mul_comm, nat_le, nat_lt, None, not, Option, refl, slice_get, slice_set, Some, subst, suc, sym, true, zero, ◌||◌, ℕ, ◌∙◌, ◌∷◌, ◌≡◌, ◌≤◌, ◌⊎◌}
use Rattle.std.proofs.lemmas.Bool.{eq-eqb, eqb-true, le-ltb, lt-ltb, ltb-false, ltb-true}
use Rattle.std.proofs.lemmas.List.Folds.{list_any-append}
use Rattle.std.specs.List.{AllByRecursion, list_any, remove}
use Rattle.std.specs.Option.{option_map_or}
use Rattle.std.specs.Prelude.{count_by, IfSome, is_none, slice_index_or, unwrap_or}
use Rattle.std.proofs.lemmas.Map.Keys.{any_passes_from_place}
use Rattle.lvm_num.specs.Buffer.{Buffer}
use Rattle.lvm_num.specs.Descriptor.{copies_of, is_member, is_pp}
use Rattle.lvm_num.specs.Disks.{has}
use Rattle.lvm_num.specs.Geometry.{partition_blocks}
use Rattle.lvm_num.specs.Status.{calls_dirty, calls_stale}
use Rattle.lvm_num.specs.declared.descriptor.LvRow.{LvRow}
use Rattle.lvm_num.specs.declared.descriptor.Mode.{Mode}
use Rattle.lvm_num.specs.declared.descriptor.Mode.TheVariants as mode
use Rattle.lvm_num.specs.declared.descriptor.PvRow.{PvRow}
use Rattle.lvm_num.specs.declared.place.Pp.{Pp}
use Rattle.lvm_num.specs.declared.status.Status.{Status}
use Rattle.lvm_disk.specs.Device.{Device, Flight, Media}
use Rattle.lvm_vol.specs.Log.{next_id}
use Rattle.lvm_hold.specs.Conflicts.{conflicts, have_common_block}
use Rattle.lvm_hold.specs.Waiting.{is_blocked, Waiting, without}
use Rattle.lvm_hold.specs.declared.queue.Row.{Row}
use Rattle.lvm_status.specs.Table.{has_row as has_disk_row, SameMissing}
use Rattle.lvm_path.specs.Asks.{at_of, count_of, is_write, lv_of}
use Rattle.lvm_path.specs.Targets.{are_over, is_begun, is_done, is_failed}
use Rattle.lvm_path.specs.declared.ask.Ask.{Ask}
use Rattle.lvm_path.specs.declared.request.Phase.{Phase}
use Rattle.lvm_path.specs.declared.request.Phase.TheVariants as phase
use Rattle.lvm_path.specs.declared.request.Request.{Request}
use Rattle.lvm_path.specs.declared.target.Target.{Target}
use Rattle.lvm_status.specs.Runs.{IsSoundStatus}
use Rattle.lvm_status.specs.Update.{seen}
use Rattle.lvm_status.specs.declared.writes.Writes.{Writes}
use Rattle.lvm_session.specs.Bringing.{block_at, copy_ends, end_of, ends_if, groups_of, hand_of, has_row, is_cleared, is_idle, is_out, is_whole, next_source, sources_of, step_of, step_place, step_row}
use Rattle.lvm_session.specs.Enabled.{same_status}
use Rattle.lvm_session.specs.Judging.{copies_for, copies_in, group_in, has_dirty_mark, has_names, held_of, is_caught, is_held_back, is_kept, is_missing, is_beside_copy, stays_fresh, is_running, is_settled, is_stale, is_sure, is_sure_at, is_usable, is_waiting, is_wanted_stale, lp_of, destination_aims, place_of, destinations_for, destinations_if, pps_of}
use Rattle.lvm_session.specs.State.{Core, is_there, State, state}
use Rattle.lvm_session.specs.declared.bringing.CopyEnd.TheVariants as ending
use Rattle.lvm_session.specs.declared.bringing.OpenCopy.{OpenCopy}
use Rattle.lvm_session.specs.declared.bringing.Step.{Step}
use Rattle.lvm_session.specs.declared.bringing.Step.TheVariants as step
use Rattle.lvm_session.specs.declared.flown.Flown.{Flown}
use Rattle.lvm_session.specs.declared.flown.Owner.{Owner}
use Rattle.lvm_session.specs.declared.flown.Owner.TheVariants as owner
use Rattle.lvm_session.specs.declared.open.Open.{Open}
use Rattle.lvm_session.specs.declared.open.Power.TheVariants as power
use Rattle.lvm_session.specs.Dark.{hand_of_copy}
use Rattle.lvm_num.specs.Modes.{is_passive}
use Rattle.lvm_num.proofs.Booleans.{not_so}
use Rattle.lvm_num.proofs.Lists.{all_at, all_weaker, length_set, all_both}
use Rattle.lvm_session.specs.Marks.{can_replace, is_among, is_entailed}
use Rattle.lvm_session.specs.Causes.{AreCaused, AreCounted, fails_on, is_blamed, is_held_stale, IsAnswered, IsCaused, IsChosenSince, IsCausedAmong, IsTrueToOrigin, was_fresh}
use Rattle.lvm_session.specs.Left.{copy_updates, if_open, if_so, updates_left}
use Rattle.lvm_session.specs.Owners.{AreOwned, same_owner}
use Rattle.lvm_session.specs.Requests.{is_failed_and_sure, is_left_out, is_past_held, is_wanted_dirty, is_wanted_due, IsAimed, IsJudged, IsMarkedDestination, IsOpenOne, IsPhase, IsRequest, IsTarget, may_lack, mode_for, wants_status, will_be_kept}
use Rattle.lvm_session.specs.Sound.{count_if, is_clearing, is_hand, IsCopy, IsFitting, IsGoing, IsOfKind, IsOn, IsSound, IsTold, may_be_fresh, out_with, waiting_rows, with_row}
use Rattle.lvm_session.proofs.MovesLemmas.{IsOpenPlace, among_filter, among_filtered, move_of, place_open, stale_of}
use Rattle.lvm_calls.proofs.LogLemmas.{below_next}
use Rattle.lvm_keeps.proofs.CacheLemmas.{no_copy}
use Rattle.lvm_keeps.proofs.Lists.{count_cons}
use Rattle.lvm_keeps.proofs.CausesLemmas.{answered_when_on, counted_when_on}
use Rattle.lvm_keeps.proofs.OwnersLemmas.Rows.{rows_but_copy}
use Rattle.lvm_keeps.proofs.Small.{both, is_false}
use Rattle.lvm_keeps.proofs.RequestsLemmas.{changed, shape_still}
use Rattle.lvm_keeps.proofs.SoundLemmas.Whole.{sound_when_on}
use Rattle.lvm_keeps_events.proofs.Finding.{row_found}
use Rattle.lvm_keeps_events.proofs.JudgingLemmas.OpenLp.{target_lp}
use Rattle.lvm_keeps_events.proofs.JudgingLemmas.Review.{IsLeft, entailed_on, left_behind}
use Rattle.lvm_keeps_events.proofs.Marking.{count_alike, filter_alike}
use Rattle.lvm_keeps_events.proofs.OnePlace.{one_lp}
use Rattle.lvm_keeps_events.proofs.EndsLemmas.CopyReadFail.{by_place, by_sources, is_here}
use Rattle.lvm_keeps_events.proofs.SoundLemmas.Over.{even_rows, without_step, none_filter}
use Rattle.lvm_keeps_events.proofs.OwnersLemmas.Removal.{as_many, given_back, none_left, others as others_of, rows_left, tickets_left}
use Rattle.lvm_keeps_events.proofs.JudgingLemmas.DuesMarks.{among_get, own_pp, pp_same}
use Rattle.lvm_keeps_events.proofs.Groups.{group_low, some_size, whole_passes}
use Rattle.lvm_keeps_events.proofs.Lists.{all_and, all_there, any_on, found_at, or_true}
use Rattle.lvm_keeps_events.proofs.MissedLemmas.{ends_phase, missed_on, none_failed, not_failed}
use Rattle.lvm_keeps_events.proofs.UncaughtLemmas.{some_kept}
use Rattle.lvm_map.proofs.Parts.{whole}

-- ---- the hold queue

-- the row of a step stands among those that it entered, and they beside it
step_among : (t : Row → Bool) (step_at : Row) (rows : List Row) → t step_at ≡ true → list_any t (with_row step_at rows) ≡ true
step_among t step_at [] is = ap (λ b. b || false) is
step_among t step_at (row ∷ rows) is = by (nat_lt step_at.id row.id) (step_among t step_at rows is)
  where
    by : (b : Bool) → list_any t (with_row step_at rows) ≡ true → list_any t (if b then step_at ∷ row ∷ rows else row ∷ with_row step_at rows) ≡ true
    by true rest = ap (λ c. c || list_any t (row ∷ rows)) is
    by false rest = ap (λ c. t row || c) rest ∙ or_true (t row)

rest_among : (t : Row → Bool) (step_at : Row) (rows : List Row) → list_any t rows ≡ true → list_any t (with_row step_at rows) ≡ true
rest_among t step_at [] some = not_so some
rest_among t step_at (row ∷ rows) some = by (nat_lt step_at.id row.id) (t row) refl (λ e. rest_among t step_at rows e) some
  where
    by : (b a : Bool) → t row ≡ a → (list_any t rows ≡ true → list_any t (with_row step_at rows) ≡ true) → a || list_any t rows ≡ true → list_any t (if b then step_at ∷ row ∷ rows else row ∷ with_row step_at rows) ≡ true
    by true a is rest e = ap (λ c. t step_at || (c || list_any t rows)) is ∙ ap (λ c. t step_at || c) e ∙ or_true (t step_at)
    by false true is rest e = ap (λ c. c || list_any t (with_row step_at rows)) is
    by false false is rest e = ap (λ c. t row || c) (rest e) ∙ or_true (t row)

-- the row of a request that waits
abbrev row_of : Open → Row
row_of o = record { id = place_of o.request.id; ask = held_of o.request.ask }

its_row : (t : Row → Bool) (os : List Open) (k : ℕ) (o : Open) → slice_get os k ≡ Some o → is_waiting o ≡ true → t (row_of o) ≡ true → list_any t (waiting_rows os) ≡ true
its_row t [] k o there waits is = absurd (cc there)
its_row t (y ∷ os) zero o there waits is =
    let same : y ≡ o = cc there in
    ap (λ b. list_any t (if b then row_of y ∷ waiting_rows os else waiting_rows os)) (ap is_waiting same ∙ waits) ∙ ap (λ b. b || list_any t (waiting_rows os)) (ap (λ (z : Open). t (row_of z)) same ∙ is)
its_row t (y ∷ os) (suc k) o there waits is = by (is_waiting y) (its_row t os k o there waits is)
  where
    by : (b : Bool) → list_any t (waiting_rows os) ≡ true → list_any t (if b then row_of y ∷ waiting_rows os else waiting_rows os) ≡ true
    by true rest = ap (λ c. t (row_of y) || c) rest ∙ or_true (t (row_of y))
    by false rest = rest

-- rows of requests below a number stand before the place of a step behind them
rows_before : (n : ℕ) (os : List Open) → AllByRecursion (λ (o : Open). o.request.id < n) os → AllByRecursion (λ (r : Row). r.id < 2 * n - 1) (waiting_rows os)
rows_before n [] all = tt
rows_before n (o ∷ os) all = by (is_waiting o) (rows_before n os all.1)
  where
    by : (b : Bool) → AllByRecursion (λ (r : Row). r.id < 2 * n - 1) (waiting_rows os) → AllByRecursion (λ (r : Row). r.id < 2 * n - 1) (if b then row_of o ∷ waiting_rows os else waiting_rows os)
    by true rest = (let low = all.0 in omega (arith, low), rest)
    by false rest = rest

row_last : (step_at : Row) (rows : List Row) → AllByRecursion (λ (r : Row). r.id < step_at.id) rows → with_row step_at rows ≡ rows ++ step_at ∷ []
row_last step_at [] all = refl
row_last step_at (row ∷ rows) all = ap (λ b. if b then step_at ∷ row ∷ rows else row ∷ with_row step_at rows) (le-ltb step_at.id row.id (let less = all.0 in omega (arith, less))) ∙ ap (λ (rs : List Row). row ∷ rs) (row_last step_at rows all.1)

-- ---- sources

-- the first of those that pass is found where each may be
one_found : (t u : Pp → Bool) (ps : List Pp) → ((p : Pp) → t p ≡ true) → (length (filter u ps) == 0) ≡ false → is_none (find t (filter u ps)) ≡ false
one_found t u [] free e = absurd (let no : true ≡ false = e in cc no)
one_found t u (p ∷ ps) free e = by (u p) (λ f. one_found t u ps free f) e
  where
    by : (b : Bool) → ((length (filter u ps) == 0) ≡ false → is_none (find t (filter u ps)) ≡ false) → (length (if b then p ∷ filter u ps else filter u ps) == 0) ≡ false → is_none (find t (if b then p ∷ filter u ps else filter u ps)) ≡ false
    by true rest f = ap (λ b. is_none (if b then Some p else find t (filter u ps))) (free p)
    by false rest f = rest f

-- what two tests say of each that is among them, one of them is said alike
any_among : (t u : Pp → Bool) (ps : List Pp) → ((p : Pp) → is_among ps p ≡ true → t p ≡ u p) → list_any t ps ≡ list_any u ps
any_among t u [] same = refl
any_among t u (p ∷ ps) same =
    ap (λ b. b || list_any t ps) (same p (ap (λ b. b || is_among ps p) (own_pp p)))
    ∙ ap (λ b. u p || b) (any_among t u ps (λ q e. same q (ap (λ b. is_pp q p || b) e ∙ or_true (is_pp q p))))

-- so it is of targets
any_of_targets : (P : Target → Type 0) (t u : Target → Bool) → ((x : Target) → P x → t x ≡ u x) → (xs : List Target) → AllByRecursion P xs → list_any t xs ≡ list_any u xs
any_of_targets P t u same [] all = refl
any_of_targets P t u same (x ∷ xs) all = ap (λ b. b || list_any t xs) (same x all.0) ∙ ap (λ b. u x || b) (any_of_targets P t u same xs all.1)

count_of_targets : (P : Target → Type 0) (t u : Target → Bool) → ((x : Target) → P x → t x ≡ u x) → (xs : List Target) → AllByRecursion P xs → count_by t xs ≡ count_by u xs
count_of_targets P t u same [] all = refl
count_of_targets P t u same (x ∷ xs) all =
    let a = count_cons t x xs in
    let b = count_cons u x xs in
    let one : count_if (t x) ≡ count_if (u x) = ap count_if (same x all.0) in
    let rest = count_of_targets P t u same xs all.1 in
    omega (arith, a, b, one, rest)

-- ---- blocks

-- a block of the copy's logical partition in a track group lies in its step
in_step : (size lp cursor at many : ℕ) → 0 < size → at / size ≡ lp → at % size / 256 ≡ cursor → 1 ≤ many
    → (at < size * lp + 256 * cursor + 256) × (size * lp + 256 * cursor < at + many)
in_step size lp cursor at many some part group few =
    let all = whole size at some in
    let same : at / size * size ≡ size * lp = ap (λ n. n * size) part ∙ mul_comm lp size in
    let low : 256 * cursor ≤ at % size = omega (arith, group) in
    let high : at % size < 256 * cursor + 256 = omega (arith, group) in
    (omega (arith, all, same, high), omega (arith, all, same, low, few))

-- ---- a status of which one partition less is stale, where it is to be

pub record IsFresher (w : Bool) (p : Pp) (old new : Status) : Type 0 where
  pub id : new.id ≡ old.id
  pub rows : (disk : ℕ) → has_disk_row new disk ≡ has_disk_row old disk
  pub stale : (q : Pp) → calls_stale new q ≡ (calls_stale old q && not (w && is_pp q p))
  pub missing : SameMissing old new
  pub dirty : new.dirty ≡ old.dirty

-- ---- the copy has passed

module _ (s : State) (sound : IsSound s) (on : s.core.power ≡ power.On) (c : OpenCopy) (is : s.core.copy ≡ Some c) (runs : is_running c ≡ true) (writing : c.step ≡ step.Writing)
    (at : ℕ) (row : Flown) (there : slice_get s.core.flying at ≡ Some row) (own : row.owner ≡ owner.Copy) (f : Flight) (f_there : slice_get s.device.flights at ≡ Some f) (buf : Buffer) (number : buf.number ≡ f.buf.number) (media : Option Media)
    (tried : ℕ) (nothing : (d : ℕ) → has tried d ≡ false) where
  abbrev core : Core
  core = s.core

  abbrev pub next : OpenCopy
  next = record c { cursor = c.cursor + 1; step = step.Idle; tried = tried; place = step_place core }

  abbrev w : Bool
  w = is_whole core next

  abbrev kept_rows : List Row
  kept_rows = without c.place core.queue.rows

  abbrev pub queue : Waiting
  queue = if w then record core.queue { rows = kept_rows } else record core.queue { rows = kept_rows ++ step_row core next ∷ [] }

  abbrev pub pool : List Bool
  pool = slice_set core.pool buf.number false

  abbrev device : Device
  device = record s.device { media = media; flights = remove s.device.flights at }

  pub going : IsGoing core
  going = (sound.on on).going

  its : IsCopy core c
  its = subst (λ m. IfSome m (IsCopy core)) is going.copy

  of_copy : {A : Type 0} (t : OpenCopy → A) (none : A) → option_map_or t core.copy none ≡ t c
  of_copy t none = ap (λ m. option_map_or t m none) is

  busy : is_idle c.step ≡ false
  busy = ap is_idle writing

  pub short : is_whole core c ≡ false
  short = its.under_way runs busy

  low_cursor : c.cursor < groups_of core
  low_cursor = by (nat_lt c.cursor (groups_of core)) refl short
    where
      by : (b : Bool) → nat_lt c.cursor (groups_of core) ≡ b → not b ≡ false → c.cursor < groups_of core
      by true e passed = ltb-true c.cursor (groups_of core) e
      by false e passed = not_so (sym passed)

  -- one that is brought up is stale, by the committed status too
  settled : c.moves ≡ false → is_settled core c.pp ≡ true
  settled stays = ((stale_of core c its stays).stale runs short).0

  stale_so : c.moves ≡ false → is_stale core c.pp ≡ true
  stale_so stays = (both (is_stale core c.pp) (calls_stale (unwrap_or core.status.in_flight core.status.committed) c.pp) (settled stays)).0

  -- it is one of its logical partition
  its_among : c.moves ≡ false → is_among (copies_in core.descriptor c.lv c.lp) c.pp ≡ true
  its_among stays = among_get (copies_in core.descriptor c.lv c.lp) (c.copy - 1) c.pp (by_place (copies_in core.descriptor c.lv c.lp) c.copy c.pp (stale_of core c its stays).its)

  -- the place to which one moves is none
  apart : c.moves ≡ true → (lv lp : ℕ) (p : Pp) → is_among (copies_in core.descriptor lv lp) p ≡ true → is_pp p c.pp ≡ false
  apart moves lv lp p among = by (is_pp p c.pp) refl
    where
      by : (b : Bool) → is_pp p c.pp ≡ b → is_pp p c.pp ≡ false
      by false e = e
      by true e = not_so (sym (no_copy core.descriptor lv lp c.pp (move_of core c its moves).free) ∙ ap (is_among (copies_in core.descriptor lv lp)) (sym (pp_same p c.pp e)) ∙ among)

  below : AllByRecursion (λ (o : Open). o.request.id < next_id core.history) core.requests
  below = below_next core.history core.requests sound.told.ordered sound.told.requests

  -- ---- its place

  abbrev others : List Row
  others = waiting_rows core.requests

  rows_were : core.queue.rows ≡ with_row (step_row core c) others
  rows_were = going.queue ∙ of_copy (λ (k : OpenCopy). if has_row core k then with_row (step_row core k) others else others) others
      ∙ ap (λ (x : Step). if is_out x || (is_running c && not (is_whole core c)) then with_row (step_row core c) others else others) writing

  rows_left_are : kept_rows ≡ others
  rows_left_are = ap (without c.place) rows_were ∙ without_step (step_row core c) others (subst (λ n. AllByRecursion (λ (r : Row). r.id ≡ n → ⊥) others) (sym its.place.2) (even_rows its.place.0 core.requests))

  queue_by : (b : Bool) → (if b then record core.queue { rows = kept_rows } else record core.queue { rows = kept_rows ++ step_row core next ∷ [] }).rows ≡ (if false || (is_running c && not b) then with_row (step_row core next) others else others)
  queue_by true = rows_left_are ∙ sym (ap (λ x. if x && false then with_row (step_row core next) others else others) runs)
  queue_by false = ap (λ (rs : List Row). rs ++ step_row core next ∷ []) rows_left_are ∙ sym (row_last (step_row core next) others (rows_before (next_id core.history) core.requests below)) ∙ sym (ap (λ x. if x && true then with_row (step_row core next) others else others) runs)

  room_by : (b : Bool) → (if b then record core.queue { rows = kept_rows } else record core.queue { rows = kept_rows ++ step_row core next ∷ [] }).room ≡ core.queue.room
  room_by true = refl
  room_by false = refl

  -- no request is held back by the next step
  free_on : (o : Open) → o.request.id < next_id core.history → is_held_back core o.request ≡ false → is_blocked queue.rows (place_of o.request.id) (held_of o.request.ask) ≡ false
  free_on o low free = by w
    where
      blocks : Row → Bool
      blocks r = nat_lt r.id (place_of o.request.id) && conflicts r.ask (held_of o.request.ask)

      left_free : list_any blocks kept_rows ≡ false
      left_free = none_filter blocks (λ (r : Row). not (r.id == c.place)) core.queue.rows free

      behind : (n id : ℕ) → id < n → nat_lt (2 * n - 1) (2 * id) ≡ false
      behind n id less = le-ltb (2 * n - 1) (2 * id) (omega (arith, less))

      by : (b : Bool) → list_any blocks (if b then record core.queue { rows = kept_rows } else record core.queue { rows = kept_rows ++ step_row core next ∷ [] }).rows ≡ false
      by true = left_free
      by false = list_any-append blocks kept_rows (step_row core next ∷ []) ∙ ap (λ b. b || (blocks (step_row core next) || false)) left_free
          ∙ ap (λ b. (b && conflicts (step_of core next) (held_of o.request.ask)) || false) (behind (next_id core.history) o.request.id low)

  -- ---- a write under way lies in another track group

  module _ (k : ℕ) (o : Open) (o_there : slice_get core.requests k ≡ Some o) (it : IsOpenOne core o) (waits : is_waiting o ≡ true) (write : is_write o.request.ask ≡ true) (past : is_past_held o.request.phase ≡ true) where
    request : IsRequest core o
    request = it.waits waits

    not_here : lv_of o.request.ask ≡ c.lv → lp_of core o.request.ask ≡ c.lp → group_in core o.request.ask ≡ c.cursor → ⊥
    not_here same_lv same_lp same_group = by (nat_lt (place_of o.request.id) c.place) (nat_lt c.place (place_of o.request.id)) refl refl
      where
        within : (at_of o.request.ask < block_at core c + 256) × (block_at core c < at_of o.request.ask + count_of o.request.ask)
        within = in_step (partition_blocks core.descriptor.mib) c.lp c.cursor (at_of o.request.ask) (count_of o.request.ask)
            (some_size core o.request it.laid) same_lp same_group it.laid.within.some

        step_conflicts : conflicts (step_of core c) (held_of o.request.ask) ≡ true
        step_conflicts = all_and (have_common_block (step_of core c) (held_of o.request.ask)) (false || (is_write o.request.ask && true))
            (all_and (c.lv == lv_of o.request.ask && nat_lt (block_at core c) (at_of o.request.ask + count_of o.request.ask)) (nat_lt (at_of o.request.ask) (block_at core c + 256))
            (all_and (c.lv == lv_of o.request.ask) (nat_lt (block_at core c) (at_of o.request.ask + count_of o.request.ask)) (eq-eqb c.lv (lv_of o.request.ask) (sym same_lv)) (lt-ltb (block_at core c) (at_of o.request.ask + count_of o.request.ask) within.1))
            (lt-ltb (at_of o.request.ask) (block_at core c + 256) within.0)) (ap (λ b. b && true) write)

        its_conflicts : conflicts (held_of o.request.ask) (step_of core c) ≡ true
        its_conflicts = all_and (have_common_block (held_of o.request.ask) (step_of core c)) ((is_write o.request.ask && true) || false)
            (all_and (lv_of o.request.ask == c.lv && nat_lt (at_of o.request.ask) (block_at core c + 256)) (nat_lt (block_at core c) (at_of o.request.ask + count_of o.request.ask))
            (all_and (lv_of o.request.ask == c.lv) (nat_lt (at_of o.request.ask) (block_at core c + 256)) (eq-eqb (lv_of o.request.ask) c.lv same_lv) (lt-ltb (at_of o.request.ask) (block_at core c + 256) within.0))
            (lt-ltb (block_at core c) (at_of o.request.ask + count_of o.request.ask) within.1)) (ap (λ b. (b && true) || false) write)

        -- it stands before the step, or behind it
        before : nat_lt (place_of o.request.id) c.place ≡ true → ⊥
        before first = let no : true ≡ false = sym (ap (λ rows. list_any (λ (r : Row). nat_lt r.id c.place && conflicts r.ask (step_of core c)) rows) rows_were
            ∙ rest_among (λ (r : Row). nat_lt r.id c.place && conflicts r.ask (step_of core c)) (step_row core c) others (its_row (λ (r : Row). nat_lt r.id c.place && conflicts r.ask (step_of core c)) core.requests k o o_there waits (all_and (nat_lt (place_of o.request.id) c.place) (conflicts (held_of o.request.ask) (step_of core c)) first its_conflicts)))
            ∙ is_false (is_blocked core.queue.rows c.place (step_of core c)) (its.free busy) in cc no

        after_it : nat_lt c.place (place_of o.request.id) ≡ true → ⊥
        after_it later = let no : true ≡ false = sym (ap (λ rows. list_any (λ (r : Row). nat_lt r.id (place_of o.request.id) && conflicts r.ask (held_of o.request.ask)) rows) rows_were
            ∙ step_among (λ (r : Row). nat_lt r.id (place_of o.request.id) && conflicts r.ask (held_of o.request.ask)) (step_row core c) others (all_and (nat_lt c.place (place_of o.request.id)) (conflicts (step_of core c) (held_of o.request.ask)) later step_conflicts))
            ∙ request.ready.free past in cc no

        by : (a b : Bool) → nat_lt (place_of o.request.id) c.place ≡ a → nat_lt c.place (place_of o.request.id) ≡ b → ⊥
        by true b i j = before i
        by false true i j = after_it j
        by false false i j =
            let low = ltb-false (place_of o.request.id) c.place i in
            let high = ltb-false c.place (place_of o.request.id) j in
            let odd = its.place.2 in
            absurd (omega (arith, low, high, odd))

    -- so the copy has caught up with none more of what it goes to
    module _ (p : Pp) (at_its : p ≡ c.pp → (lv_of o.request.ask ≡ c.lv) × (lp_of core o.request.ask ≡ c.lp)) where
      caught_by : (is_running c && is_pp p c.pp && nat_lt (group_in core o.request.ask) (c.cursor + 1)) ≡ is_caught core (group_in core o.request.ask) p
      caught_by = by (is_pp p c.pp) refl ∙ sym (of_copy (λ (m : OpenCopy). is_running m && is_pp p m.pp && nat_lt (group_in core o.request.ask) m.cursor) false)
        where
          same_lt : (n m : ℕ) → (n ≡ m → ⊥) → nat_lt n (m + 1) ≡ nat_lt n m
          same_lt n m other = of (nat_lt n m) refl
            where
              of : (b : Bool) → nat_lt n m ≡ b → nat_lt n (m + 1) ≡ b
              of true e = lt-ltb n (m + 1) (let low = ltb-true n m e in omega (arith, low))
              of false e = le-ltb n (m + 1) (let high = ltb-false n m e in grind (arith, high, other))

          by : (b : Bool) → is_pp p c.pp ≡ b → (is_running c && is_pp p c.pp && nat_lt (group_in core o.request.ask) (c.cursor + 1)) ≡ (is_running c && is_pp p c.pp && nat_lt (group_in core o.request.ask) c.cursor)
          by false other = ap (λ b. is_running c && b && nat_lt (group_in core o.request.ask) (c.cursor + 1)) other ∙ none (is_running c) (nat_lt (group_in core o.request.ask) (c.cursor + 1)) (nat_lt (group_in core o.request.ask) c.cursor)
              ∙ sym (ap (λ b. is_running c && b && nat_lt (group_in core o.request.ask) c.cursor) other)
            where
              none : (a x y : Bool) → (a && false && x) ≡ (a && false && y)
              none true x y = refl
              none false x y = refl
          by true same =
              let one = at_its (pp_same p c.pp same) in
              ap (λ b. is_running c && is_pp p c.pp && b) (same_lt (group_in core o.request.ask) c.cursor (λ e. not_here one.0 one.1 e))

    -- its copies
    pub caught_same : (p : Pp) → is_among (copies_for core o.request.ask) p ≡ true → (is_running c && is_pp p c.pp && nat_lt (group_in core o.request.ask) (c.cursor + 1)) ≡ is_caught core (group_in core o.request.ask) p
    caught_same p among = caught_by p (λ at_pp. by c.moves refl at_pp)
      where
        by : (b : Bool) → c.moves ≡ b → p ≡ c.pp → (lv_of o.request.ask ≡ c.lv) × (lp_of core o.request.ask ≡ c.lp)
        by false stays at_pp = one_lp core.descriptor sound.fitting.valid (lv_of o.request.ask) (lp_of core o.request.ask) c.lv c.lp c.pp (ap (is_among (copies_for core o.request.ask)) (sym at_pp) ∙ among) (its_among stays)
        by true moves at_pp = not_so (sym (apart moves (lv_of o.request.ask) (lp_of core o.request.ask) p among) ∙ ap (is_pp p) (sym at_pp) ∙ own_pp p)

    -- its targets, and the place to which one of them moves
    caught_target : (t : Target) → IsTarget core o.request.ask t → (is_running c && is_pp t.pp c.pp && nat_lt (group_in core o.request.ask) (c.cursor + 1)) ≡ is_caught core (group_in core o.request.ask) t.pp
    caught_target t aimed = caught_by t.pp (λ same. target_lp core going c is o.request.ask t aimed same)

    pub caught_place : (p : Pp) → is_among (destinations_for core o.request.ask) p ≡ true → (is_running c && is_pp p c.pp && nat_lt (group_in core o.request.ask) (c.cursor + 1)) ≡ is_caught core (group_in core o.request.ask) p
    caught_place p among = caught_by p (λ same. (eqb-true (lv_of o.request.ask) c.lv beside_it.0, eqb-true (lp_of core o.request.ask) c.lp beside_it.1))
      where
        open_place : IsOpenPlace core o.request.ask p
        open_place = place_open core o.request.ask p among

        one_of : (x y : OpenCopy) → Some x ≡ Some y → x ≡ y
        one_of x y e = cc e

        beside_it : ((lv_of o.request.ask == c.lv) ≡ true) × ((lp_of core o.request.ask == c.lp) ≡ true)
        beside_it = both (lv_of o.request.ask == c.lv) (lp_of core o.request.ask == c.lp) (subst (λ (d : OpenCopy). is_beside_copy core o.request.ask d ≡ true) (one_of open_place.copy c (sym open_place.is_open ∙ is)) open_place.beside)

  module _ (wanted : Status) (status_writes : Writes) (like : IsFresher w c.pp core.status.wanted wanted) (started : (d : ℕ) → has status_writes.started d ≡ has core.status.writes.started d)
      (status_sound : IsSoundStatus (seen (record core.status { wanted = wanted; writes = status_writes }))) (still : w ≡ false → wanted ≡ core.status.wanted) where
    abbrev pub after : Core
    after = record (changed core core.history core.requests queue (Some next) pool (remove core.flying at) core.cache.entries core.last) { status = record core.status { wanted = wanted; writes = status_writes } }

    abbrev pub now : State
    now = state device after

    -- ---- what is judged stays

    and_true : (a : Bool) → a && true ≡ a
    and_true true = refl
    and_true false = refl

    -- of a copy that isn't stale, or that isn't its, the same is wanted
    same_where : (lv lp : ℕ) (p : Pp) → is_among (copies_in core.descriptor lv lp) p ≡ true
        → (Same : Bool → Bool → Type 0) → ((b : Bool) → Same b b) → (is_stale core p ≡ true → (a b : Bool) → Same a b) → Same (is_wanted_stale core p) (calls_stale wanted p)
    same_where lv lp p among Same own_same stale_same = by (w && is_pp p c.pp) refl
      where
        of_kind : (b : Bool) → c.moves ≡ b → is_pp p c.pp ≡ true → Same (is_wanted_stale core p) (calls_stale wanted p)
        of_kind false stays same = stale_same (ap (is_stale core) (pp_same p c.pp same) ∙ stale_so stays) (is_wanted_stale core p) (calls_stale wanted p)
        of_kind true moves same = not_so (sym (apart moves lv lp p among) ∙ same)

        by : (b : Bool) → (w && is_pp p c.pp) ≡ b → Same (is_wanted_stale core p) (calls_stale wanted p)
        by false e = subst (Same (is_wanted_stale core p)) (sym (like.stale p ∙ ap (λ b. is_wanted_stale core p && not b) e ∙ and_true (is_wanted_stale core p))) (own_same (is_wanted_stale core p))
        by true e = of_kind c.moves refl (both w (is_pp p c.pp) e).1

    -- nothing more is wanted stale
    wanted_before : (p : Pp) → is_wanted_stale after p ≡ true → is_wanted_stale core p ≡ true
    wanted_before p e = (both (is_wanted_stale core p) (not (w && is_pp p c.pp)) (sym (like.stale p) ∙ e)).0

    pub missing_same : (d : ℕ) → is_missing after d ≡ is_missing core d
    missing_same d = like.missing d

    pub there_same : (d : ℕ) → is_there after d ≡ is_there core d
    there_same d = ap (λ b. is_member core.descriptor d && not b) (missing_same d)

    pub usable_same : (p : Pp) → is_usable after p ≡ is_usable core p
    usable_same p = ap (λ b. not (is_stale core p) && not b) (missing_same p.disk)

    sure_same : (ask : Ask) (t : Target) → IsTarget core ask t → is_sure_at after t ≡ is_sure_at core t
    sure_same ask t aimed = by t.moves aimed.copy
      where
        by : (b : Bool) → IsAimed b core ask t → (not b && is_sure after t.pp) ≡ (not b && is_sure core t.pp)
        by true place = refl
        by false among = same_where (lv_of ask) (lp_of core ask) t.pp among (λ a b. (not (is_stale core t.pp) && not b) ≡ (not (is_stale core t.pp) && not a)) (λ b. refl)
            (λ stale a b. ap (λ x. not x && not b) stale ∙ sym (ap (λ x. not x && not a) stale))

    held_or_wanted : (p : Pp) → is_held_stale after p || is_wanted_stale after p ≡ true → is_held_stale core p || is_wanted_stale core p ≡ true
    held_or_wanted p e = by (is_held_stale core p) (is_wanted_stale after p) (is_wanted_stale core p) (wanted_before p) e
      where
        by : (h b a : Bool) → (b ≡ true → a ≡ true) → h || b ≡ true → h || a ≡ true
        by true b a on_so e = refl
        by false b a on_so e = on_so e

    stays_same : (lv lp : ℕ) (p : Pp) → is_among (copies_in core.descriptor lv lp) p ≡ true → stays_fresh after p ≡ stays_fresh core p
    stays_same lv lp p among = same_where lv lp p among (λ a b. (not (is_held_stale core p) && not b) ≡ (not (is_held_stale core p) && not a)) (λ b. refl)
        (λ stale a b. ap (λ x. not (x || calls_stale (unwrap_or core.status.in_flight core.status.committed) p) && not b) stale ∙ sym (ap (λ x. not (x || calls_stale (unwrap_or core.status.in_flight core.status.committed) p) && not a) stale))

    replace_same : (lv lp : ℕ) (p : Pp) → is_among (copies_in core.descriptor lv lp) p ≡ true → can_replace after p ≡ can_replace core p
    replace_same lv lp p among = ap (λ b. b && not (is_wanted_stale after p)) (usable_same p)
        ∙ same_where lv lp p among (λ a b. (is_usable core p && not b) ≡ (is_usable core p && not a)) (λ b. refl) (λ stale a b. ap (λ x. not x && not (is_missing core p.disk) && not b) stale ∙ sym (ap (λ x. not x && not (is_missing core p.disk) && not a) stale))

    kept_same : (r : Request) → AllByRecursion (IsTarget core r.ask) r.targets.items → is_kept after r ≡ is_kept core r
    kept_same r all = any_of_targets (IsTarget core r.ask) (λ (t : Target). is_done t.state && is_sure_at after t) (λ (t : Target). is_done t.state && is_sure_at core t) (λ t aimed. ap (λ b. is_done t.state && b) (sure_same r.ask t aimed)) r.targets.items all

    left_same : (r : Request) → AllByRecursion (IsTarget core r.ask) r.targets.items → count_by (is_failed_and_sure after) r.targets.items ≡ count_by (is_failed_and_sure core) r.targets.items
    left_same r all = count_of_targets (IsTarget core r.ask) (is_failed_and_sure after) (is_failed_and_sure core) (λ t aimed. ap (λ b. is_failed t.state && b) (sure_same r.ask t aimed)) r.targets.items all

    -- ---- requests

    places_same : (ask : Ask) → destinations_for core ask ≡ destinations_for after ask
    places_same ask = of_copy (λ (k : OpenCopy). destinations_if (k.moves && is_beside_copy core ask k) k) []

    pub dirty_same : (lv : ℕ) → calls_dirty wanted lv ≡ calls_dirty core.status.wanted lv
    dirty_same lv = ap (λ (ns : List ℕ). list_any (λ n. n == lv) ns) like.dirty

    mark_on : (m : Mode) (ask : Ask) → is_wanted_dirty core m ask ≡ true → is_wanted_dirty after m ask ≡ true
    mark_on mode.Active ask e = refl
    mark_on mode.Passive ask e = dirty_same (lv_of ask) ∙ e
    mark_on mode.Off ask e = refl

    names_on : (m : Mode) (r : Request) → has_names core m r ≡ true → has_names after m r ≡ true
    names_on mode.Active r e = e
    names_on mode.Passive r e = refl
    names_on mode.Off r e = refl

    settled_on : (m : Mode) (r : Request) → has_dirty_mark core m r ≡ true → has_dirty_mark after m r ≡ true
    settled_on mode.Active r e = refl
    settled_on mode.Passive r e = e
    settled_on mode.Off r e = refl

    past_status : (p : Phase) → wants_status p ≡ true → is_past_held p ≡ true
    past_status phase.Held e = not_so e
    past_status phase.WantEntry e = refl
    past_status phase.WantRecord e = refl
    past_status phase.Data e = refl
    past_status phase.WantStatus e = refl
    past_status phase.Landed e = not_so e

    module _ (k : ℕ) (o : Open) (o_there : slice_get core.requests k ≡ Some o) (it : IsOpenOne core o) (waits : is_waiting o ≡ true) (write : is_write o.request.ask ≡ true) where
      its_request : IsRequest core o
      its_request = it.waits waits

      -- one that isn't admitted has no targets
      pub past_or_none : (is_past_held o.request.phase ≡ true) ⊎ (o.request.targets.items ≡ [])
      past_or_none = by o.request.phase its_request.shape.phase_is
        where
          by : (p : Phase) → IsPhase p o → (is_past_held p ≡ true) ⊎ (o.request.targets.items ≡ [])
          by phase.Held e = inr e.0
          by phase.WantEntry e = inl refl
          by phase.WantRecord e = inl refl
          by phase.Data e = inl refl
          by phase.WantStatus e = inl refl
          by phase.Landed e = absurd e

      caught_so : is_past_held o.request.phase ≡ true → (p : Pp) → is_among (copies_for core o.request.ask) p ≡ true → is_caught after (group_in core o.request.ask) p ≡ is_caught core (group_in core o.request.ask) p
      caught_so past p among = caught_same k o o_there it waits write past p among

      uncaught_so : (is_past_held o.request.phase ≡ true) ⊎ (o.request.targets.items ≡ []) → AllByRecursion (λ (t : Target). may_lack o t && is_caught after (group_in core o.request.ask) t.pp ≡ false) o.request.targets.items
      uncaught_so (inr none) = subst (AllByRecursion (λ (t : Target). may_lack o t && is_caught after (group_in core o.request.ask) t.pp ≡ false)) (sym none) tt
      uncaught_so (inl past) = all_weaker (λ (t : Target). IsTarget core o.request.ask t × (may_lack o t && is_caught core (group_in core o.request.ask) t.pp ≡ false)) (λ (t : Target). may_lack o t && is_caught after (group_in core o.request.ask) t.pp ≡ false)
          (λ t e. ap (λ b. may_lack o t && b) (caught_target k o o_there it waits write past t e.0) ∙ e.1) o.request.targets.items
          (all_both (IsTarget core o.request.ask) (λ (t : Target). may_lack o t && is_caught core (group_in core o.request.ask) t.pp ≡ false) o.request.targets.items its_request.shape.targets (its_request.judged write).uncaught)

      carried_same : is_past_held o.request.phase ≡ true → will_be_kept after o.request ≡ will_be_kept core o.request
      carried_same past = by o.request.targets.items its_request.shape.targets
        where
          by : (ts : List Target) → AllByRecursion (IsTarget core o.request.ask) ts → list_any (λ (t : Target). is_done t.state && is_caught after (group_in core o.request.ask) t.pp) ts ≡ list_any (λ (t : Target). is_done t.state && is_caught core (group_in core o.request.ask) t.pp) ts
          by [] all = refl
          by (t ∷ ts) all = ap (λ b. (is_done t.state && b) || list_any (λ (u : Target). is_done u.state && is_caught after (group_in core o.request.ask) u.pp) ts) (caught_target k o o_there it waits write past t all.0)
              ∙ ap (λ b. (is_done t.state && is_caught core (group_in core o.request.ask) t.pp) || b) (by ts all.1)

      due_so : wants_status o.request.phase ≡ true → is_wanted_due after o.request ≡ true
      due_so status =
          ap (λ n. nat_le n (if is_kept after o.request || will_be_kept after o.request then 0 else 1)) (left_same o.request its_request.shape.targets)
          ∙ ap (λ (b : Bool). nat_le (count_by (is_failed_and_sure core) o.request.targets.items) (if b || will_be_kept after o.request then 0 else 1)) (kept_same o.request its_request.shape.targets)
          ∙ ap (λ (b : Bool). nat_le (count_by (is_failed_and_sure core) o.request.targets.items) (if is_kept core o.request || b then 0 else 1)) (carried_same (past_status o.request.phase status)) ∙ (its_request.judged write).due status

      -- what is cleared has been passed
      caught_now : (p : Pp) → (w && is_pp p c.pp) ≡ true → is_caught after (group_in core o.request.ask) p ≡ true
      caught_now p e = let its_parts = both w (is_pp p c.pp) e in
          all_and (is_running c && is_pp p c.pp) (nat_lt (group_in core o.request.ask) (c.cursor + 1)) (all_and (is_running c) (is_pp p c.pp) runs its_parts.1) (whole_passes (group_in core o.request.ask) (groups_of core) (c.cursor + 1) (group_low core o.request it.laid) its_parts.0)

      -- so nothing was missed of it
      missed_so : wants_status o.request.phase ≡ true → AllByRecursion (IsMarkedDestination after o.request) o.request.targets.items
      missed_so status = missed_on core after o.request fewer why (judged.missed status)
        where
          judged : IsJudged core o
          judged = its_request.judged write

          over : are_over o.request.targets.items ≡ true
          over = (subst (λ (p : Phase). IsPhase p o) (ends_phase o.request.phase status) its_request.shape.phase_is).1

          fewer : list_any (is_failed_and_sure after) o.request.targets.items ≡ true → list_any (is_failed_and_sure core) o.request.targets.items ≡ true
          fewer some = sym (any_of_targets (IsTarget core o.request.ask) (is_failed_and_sure after) (is_failed_and_sure core) (λ t aimed. ap (λ b. is_failed t.state && b) (sure_same o.request.ask t aimed)) o.request.targets.items its_request.shape.targets) ∙ some

          why : (n : ℕ) (t : Target) → slice_get o.request.targets.items n ≡ Some t → is_sure after t.pp ≡ true → (is_sure core t.pp ≡ true) ⊎ ((is_failed t.state ≡ false) × (list_any (is_failed_and_sure core) o.request.targets.items ≡ false))
          why n t there sure = by (w && is_pp t.pp c.pp) refl
            where
              by : (b : Bool) → (w && is_pp t.pp c.pp) ≡ b → (is_sure core t.pp ≡ true) ⊎ ((is_failed t.state ≡ false) × (list_any (is_failed_and_sure core) o.request.targets.items ≡ false))
              by false e = inl (sym (ap (λ b. not (is_stale core t.pp) && not b) (like.stale t.pp ∙ ap (λ b. is_wanted_stale core t.pp && not b) e ∙ and_true (is_wanted_stale core t.pp))) ∙ sure)
              by true e =
                  let aimed = all_at (IsTarget core o.request.ask) o.request.targets.items n t its_request.shape.targets there in
                  let caught_it = sym (caught_target k o o_there it waits write (past_status o.request.phase status) t aimed) ∙ caught_now t.pp e in
                  inr (not_failed core o judged status over n t there caught_it, none_failed core o judged status over n t there caught_it)

      -- a copy that is left out still is: one that is to be cleared wasn't
      left_so : is_past_held o.request.phase ≡ true → (p : Pp) → is_among (copies_for core o.request.ask) p ≡ true → is_left_out core o.request.ask p ≡ true → is_left_out after o.request.ask p ≡ true
      left_so past p among left_out = by (w && is_pp p c.pp) refl
        where
          parts : (is_settled core p && is_wanted_stale core p ≡ true) × (not (is_caught core (group_in core o.request.ask) p) ≡ true)
          parts = both (is_settled core p && is_wanted_stale core p) (not (is_caught core (group_in core o.request.ask) p)) left_out

          by : (b : Bool) → (w && is_pp p c.pp) ≡ b → is_left_out after o.request.ask p ≡ true
          by false e = ap (λ b. is_settled core p && b && not (is_caught after (group_in core o.request.ask) p)) (like.stale p ∙ ap (λ b. is_wanted_stale core p && not b) e ∙ and_true (is_wanted_stale core p))
              ∙ ap (λ b. is_settled core p && is_wanted_stale core p && not b) (caught_so past p among) ∙ left_out
          by true e = not_so (sym (ap not (sym (caught_so past p among) ∙ caught_now p e)) ∙ parts.1)

      judged_so : IsJudged after o
      judged_so = let j = its_request.judged write in record {
        uncaught = uncaught_so past_or_none;
        due = due_so;
        missed = missed_so;
        all = λ begun p among. all_by past_or_none begun p among (j.all begun p among);
        place = λ begun p among. place_by past_or_none begun p among;
      }
        where
          all_by : (is_past_held o.request.phase ≡ true) ⊎ (o.request.targets.items ≡ []) → is_begun o.request.targets.items ≡ true → (p : Pp) → is_among (copies_for core o.request.ask) p ≡ true
              → is_among (pps_of o.request.targets.items) p || is_left_out core o.request.ask p ≡ true → is_among (pps_of o.request.targets.items) p || is_left_out after o.request.ask p ≡ true
          all_by (inr none) begun p among e = not_so (sym (ap is_begun none) ∙ begun)
          all_by (inl past) begun p among e = by (is_among (pps_of o.request.targets.items) p) (is_left_out core o.request.ask p) (is_left_out after o.request.ask p) (λ g. left_so past p among g) e
            where
              by : (a b d : Bool) → (b ≡ true → d ≡ true) → a || b ≡ true → a || d ≡ true
              by true b d on_so g = refl
              by false b d on_so g = on_so g

          place_by : (is_past_held o.request.phase ≡ true) ⊎ (o.request.targets.items ≡ []) → is_begun o.request.targets.items ≡ true → (p : Pp) → is_among (destination_aims after o.request.ask) p ≡ true → is_among (pps_of o.request.targets.items) p ≡ true
          place_by (inr none) begun p among = not_so (sym (ap is_begun none) ∙ begun)
          place_by (inl past) begun p among =
              let both_so = among_filtered (is_caught after (group_in core o.request.ask)) (destinations_for after o.request.ask) p among in
              let there_so = ap (λ (ps : List Pp). is_among ps p) (places_same o.request.ask) ∙ both_so.0 in
              (its_request.judged write).place begun p (among_filter (is_caught core (group_in core o.request.ask)) (destinations_for core o.request.ask) p (sym (caught_place k o o_there it waits write past p there_so) ∙ both_so.1) there_so)

    one : (k : ℕ) (o : Open) → slice_get core.requests k ≡ Some o → IsOpenOne core o → o.request.id < next_id core.history → IsOpenOne after o
    one k o o_there it low = record {
      laid = let l = it.laid in record { within = l.within; blocks = l.blocks; most = l.most; id = l.id };
      waits = λ waits. let r = it.waits waits in let b = r.ready in record {
        shape = shape_still core after refl places_same o r.shape;
        ready = record {
          free = λ past. free_on o low (b.free past);
          recorded = b.recorded;
          wanted = λ past two. mark_on (mode_for core o.request.ask) o.request.ask (b.wanted past two);
          named = λ has_it two. names_on (mode_for core o.request.ask) o.request (b.named has_it two);
          dirty = λ has_it two. settled_on (mode_for core o.request.ask) o.request (b.dirty has_it two);
        };
        judged = λ write. judged_so k o o_there it waits write;
      };
      over = it.over;
      still = it.still;
    }

    all_ones : AllByRecursion (IsOpenOne after) core.requests
    all_ones = all_there (λ (o : Open). IsOpenOne core o × (o.request.id < next_id core.history)) (IsOpenOne after) core.requests (λ k o o_there e. one k o o_there e.0 e.1) (all_both (IsOpenOne core) (λ (o : Open). o.request.id < next_id core.history) core.requests going.requests below)

    -- ---- rooms, and the copy

    fitting : IsFitting after
    fitting = let g = sound.fitting in record {
      valid = g.valid;
      id = like.id ∙ g.id;
      rows = λ disk. like.rows disk ∙ g.rows disk;
      group = g.group;
      entries = g.entries;
      notes = g.notes;
      table = g.table;
      most = g.most;
      queue = room_by w ∙ g.queue;
      a_buffer = subst (λ n. 1 ≤ n) (sym (length_set core.pool buf.number false)) g.a_buffer;
      buffers = subst (λ n. n ≤ 1024) (sym (length_set core.pool buf.number false)) g.buffers;
      last = g.last;
      room = g.room;
    }

    told : IsTold after
    told = let t = sound.told in record { ordered = t.ordered; table = t.table; each = t.each; requests = t.requests }

    wanted_at : c.moves ≡ false → calls_stale wanted c.pp ≡ not w
    wanted_at stays = like.stale c.pp ∙ ap (λ b. b && not (w && is_pp c.pp c.pp)) ((stale_of core c its stays).stale runs short).1 ∙ ap (λ b. not (w && b)) (own_pp c.pp) ∙ by w
      where
        by : (b : Bool) → not (b && true) ≡ not b
        by true = refl
        by false = refl

    -- once all is copied its staleness isn't wanted
    clear_at : w ≡ true → calls_stale wanted c.pp ≡ false
    clear_at whole = like.stale c.pp ∙ ap (λ b. is_wanted_stale core c.pp && not (b && is_pp c.pp c.pp)) whole ∙ ap (λ b. is_wanted_stale core c.pp && not b) (own_pp c.pp) ∙ by (is_wanted_stale core c.pp)
      where
        by : (b : Bool) → b && false ≡ false
        by true = refl
        by false = refl

    -- what it is stays
    kind_next : (b : Bool) → c.moves ≡ b → IsOfKind b core c → IsOfKind b after next
    kind_next false stays k = record { its = k.its; stale = λ goes part. (settled stays, wanted_at stays ∙ ap not part); clearing = λ goes whole. (stale_so stays, wanted_at stays ∙ ap not whole) }
    kind_next true moves k = record {
      from = k.from;
      its = k.its;
      free = k.free;
      member = k.member;
      member_is = k.member_is;
      inside = k.inside;
      apart = k.apart;
      there = k.there;
      called = k.called;
      clear = λ goes whole. clear_at whole;
      fresh = any_among (stays_fresh after) (stays_fresh core) (copies_in core.descriptor c.lv c.lp) (stays_same c.lv c.lp) ∙ k.fresh;
      ends = k.ends;
    }

    bring : IsCopy after next
    bring = record {
      row = its.row;
      volume = its.volume;
      lp = its.lp;
      kind = kind_next c.moves refl its.kind;
      cursor = let low = low_cursor in omega (arith, low);
      faults = its.faults;
      place = before (next_id core.history) (omega arith);
      room = tt;
      free = λ e. not_so (sym e);
      hand = λ e. refl;
      tried = λ disk e. not_so (sym (nothing disk) ∙ e);
      source = tt;
      under_way = λ goes e. not_so (sym e);
    }
      where
        before : (n : ℕ) → 1 ≤ n → (id : ℕ) × (id < n) × (2 * n - 1 ≡ place_of id + 1)
        before n some = (n - 1, omega (arith, some), omega (arith, some))

    -- ---- it goes on

    was_none : end_of core c ≡ None
    was_none = sym (of_copy (end_of core) None) ∙ going.reviewed

    here : is_missing core c.pp.disk ≡ false
    here = is_here core c runs was_none

    some_source : (length (sources_of core c) == 0) ≡ false
    some_source = by (length (sources_of core c) == 0) refl (by_sources core c None runs here short was_none)
      where
        by : (b : Bool) → (length (sources_of core c) == 0) ≡ b → (if b then Some ending.NoFresh else ends_if (is_idle c.step && is_none (next_source core c)) ending.SyncFailed) ≡ None → b ≡ false
        by false e none = refl
        by true e none = absurd (cc none)

    sources_same : sources_of after next ≡ sources_of core c
    sources_same = filter_alike (λ (p : Pp). not (is_pp p c.pp) && is_usable after p) (λ (p : Pp). not (is_pp p c.pp) && is_usable core p) (λ p. ap (λ b. not (is_pp p c.pp) && b) (usable_same p)) (copies_in core.descriptor c.lv c.lp)

    -- one that is brought up is stale still
    uncleared : (b : Bool) → c.moves ≡ b → not b && stays_fresh after c.pp ≡ false
    uncleared true moves = refl
    uncleared false stays = ap (λ b. not (b || calls_stale (unwrap_or core.status.in_flight core.status.committed) c.pp) && not (calls_stale wanted c.pp)) (stale_so stays)

    reviewed : copy_ends after ≡ None
    reviewed = goes_on (is_running c) (is_missing after c.pp.disk) w (is_cleared after next) (length (sources_of after next) == 0) (is_none (next_source after next))
        (missing_same c.pp.disk ∙ here) (uncleared c.moves refl)
        (ap (λ (ps : List Pp). length ps == 0) sources_same ∙ some_source)
        (ap (λ (ps : List Pp). is_none (find (λ (p : Pp). not (has tried p.disk)) ps)) sources_same ∙ one_found (λ (p : Pp). not (has tried p.disk)) (λ (p : Pp). not (is_pp p c.pp) && is_usable core p) (copies_in core.descriptor c.lv c.lp) (λ p. ap not (nothing p.disk)) some_source)
      where
        goes_on : (r m x d z i : Bool) → m ≡ false → d ≡ false → z ≡ false → i ≡ false
            → (if not r then None else if m then Some ending.SyncFailed else if x then ends_if d ending.Done else if z then Some ending.NoFresh else ends_if (true && i) ending.SyncFailed) ≡ None
        goes_on false m x d z i a b e g = refl
        goes_on true true x d z i a b e g = not_so (sym a)
        goes_on true false true true z i a b e g = not_so (sym b)
        goes_on true false true false z i a b e g = refl
        goes_on true false false d true i a b e g = not_so (sym e)
        goes_on true false false d false true a b e g = not_so (sym g)
        goes_on true false false d false false a b e g = refl

    -- ---- what missing disks entail, and what is fresh

    entailed_before : (p : Pp) → is_entailed after p ≡ true → is_entailed core p ≡ true
    entailed_before p e = entailed_on after core p sound.fitting.valid refl (λ i. i) (λ gone. sym (missing_same p.disk) ∙ gone) (λ q copy can. sym (replace_same copy.lv copy.lp q copy.among) ∙ can) e

    behind : (p : Pp) → is_entailed after p ≡ true → is_wanted_stale after p ≡ true
    behind p e = same_where left.row.number left.lp p (ap (λ (ps : List Pp). is_among ps p) of_row ∙ left.among) (λ a b. a ≡ true → b ≡ true) (λ b g. g) (λ stale a b g. not_so (sym left.fresh ∙ stale)) (going.behind p (entailed_before p e))
      where
        left : IsLeft core p
        left = left_behind core p (entailed_before p e)

        of_row : copies_in core.descriptor left.row.number left.lp ≡ copies_of left.row left.lp
        of_row = ap (λ (m : Option LvRow). option_map_or (λ (row : LvRow). copies_of row left.lp) m []) (row_found core.descriptor.lvs left.place left.row sound.fitting.valid.volumes.numbers_rise left.there)

    fresh : (lv lp : ℕ) → list_any (may_be_fresh after) (copies_in core.descriptor lv lp) ≡ true → list_any (stays_fresh after) (copies_in core.descriptor lv lp) ≡ true
    fresh lv lp may = any_among (stays_fresh after) (stays_fresh core) (copies_in core.descriptor lv lp) (stays_same lv lp) ∙ going.fresh lv lp (by (found_at (may_be_fresh after) (copies_in core.descriptor lv lp) may))
      where
        may_source : (p : Pp) → not (is_pp p c.pp) && is_usable core p ≡ true → may_be_fresh core p ≡ true
        may_source p e =
            let usable = (both (not (is_pp p c.pp)) (is_usable core p) e).1 in
            let fresh_so = is_false (is_stale core p) (both (not (is_stale core p)) (not (is_missing core p.disk)) usable).0 in
            ap (λ b. was_fresh core p || not ((b && calls_stale (unwrap_or core.status.in_flight core.status.committed) p) && is_wanted_stale core p)) fresh_so ∙ or_true (was_fresh core p)

        by_source : c.moves ≡ false → is_among (copies_in core.descriptor lv lp) c.pp ≡ true → list_any (may_be_fresh core) (copies_in core.descriptor lv lp) ≡ true
        by_source stays among =
            let same = one_lp core.descriptor sound.fitting.valid lv lp c.lv c.lp c.pp among (its_among stays) in
            ap (λ n. list_any (may_be_fresh core) (copies_in core.descriptor n lp)) same.0 ∙ ap (λ n. list_any (may_be_fresh core) (copies_in core.descriptor c.lv n)) same.1
            ∙ any_on (λ (p : Pp). not (is_pp p c.pp) && is_usable core p) (may_be_fresh core) may_source (copies_in core.descriptor c.lv c.lp) (some_kept (λ (p : Pp). not (is_pp p c.pp) && is_usable core p) (copies_in core.descriptor c.lv c.lp) some_source)

        by : (k : ℕ) × (p : Pp) × (slice_get (copies_in core.descriptor lv lp) k ≡ Some p) × (may_be_fresh after p ≡ true) → list_any (may_be_fresh core) (copies_in core.descriptor lv lp) ≡ true
        by found = of (w && is_pp found.1 c.pp) refl
          where
            of : (b : Bool) → (w && is_pp found.1 c.pp) ≡ b → list_any (may_be_fresh core) (copies_in core.descriptor lv lp) ≡ true
            of true e = of_kind c.moves refl (both w (is_pp found.1 c.pp) e).1
              where
                of_kind : (b : Bool) → c.moves ≡ b → is_pp found.1 c.pp ≡ true → list_any (may_be_fresh core) (copies_in core.descriptor lv lp) ≡ true
                of_kind false stays same = by_source stays (ap (is_among (copies_in core.descriptor lv lp)) (sym (pp_same found.1 c.pp same)) ∙ among_get (copies_in core.descriptor lv lp) found.0 found.1 found.2)
                of_kind true moves same = not_so (sym (apart moves lv lp found.1 (among_get (copies_in core.descriptor lv lp) found.0 found.1 found.2)) ∙ same)
            of false e = any_passes_from_place (may_be_fresh core) (copies_in core.descriptor lv lp) found.0 found.1 found.2
                (sym (ap (λ b. was_fresh core found.1 || not (is_settled core found.1 && b)) (like.stale found.1 ∙ ap (λ b. is_wanted_stale core found.1 && not b) e ∙ and_true (is_wanted_stale core found.1))) ∙ found.3)

    clearings : (p : Pp) → is_held_stale core p ≡ true → calls_stale wanted p ≡ false → is_clearing after p ≡ true
    clearings p held clear = by (is_wanted_stale core p) refl
      where
        not_before : is_wanted_stale core p ≡ false → false ≡ true
        not_before e = sym (of_copy (λ (m : OpenCopy). is_running m && is_whole core m && is_pp p m.pp) false ∙ ap (λ b. is_running c && b && is_pp p c.pp) short ∙ none (is_running c) (is_pp p c.pp)) ∙ going.clearings p held e
          where
            none : (a x : Bool) → a && false && x ≡ false
            none true x = refl
            none false x = refl

        by : (b : Bool) → is_wanted_stale core p ≡ b → is_clearing after p ≡ true
        by false e = not_so (not_before e)
        by true e = cleared (w && is_pp p c.pp) refl (sym (like.stale p ∙ ap (λ b. b && not (w && is_pp p c.pp)) e) ∙ clear)
          where
            cleared : (b : Bool) → (w && is_pp p c.pp) ≡ b → not b ≡ false → is_clearing after p ≡ true
            cleared false g none = not_so (sym none)
            cleared true g none = let parts = both w (is_pp p c.pp) g in all_and (is_running c && w) (is_pp p c.pp) (all_and (is_running c) w runs parts.0) parts.1

    numbers : core.status.stamp.seq + updates_left after < 2 ^ 32
    numbers =
        let was = going.numbers in
        let clean = ap (if_open core.requests) (count_alike (λ (r : LvRow). is_passive r.mode && not (calls_dirty wanted r.number)) (λ (r : LvRow). is_passive r.mode && not (calls_dirty core.status.wanted r.number)) (λ r. ap (λ b. is_passive r.mode && not b) (dirty_same r.number)) core.descriptor.lvs) in
        let members = count_alike (λ (r : PvRow). is_there after r.disk) (λ (r : PvRow). is_there core r.disk) (λ r. there_same r.disk) core.descriptor.pvs in
        let pays = paid w refl in
        omega (arith, was, clean, members, pays)
      where
        at_most : (b : Bool) → if_so b 1 ≤ 1
        at_most true = omega arith
        at_most false = omega arith

        before : option_map_or (copy_updates core) core.copy 0 ≡ 2 + if_so c.moves 1
        before = of_copy (copy_updates core) 0 ∙ ap (λ b. if not b then 0 else (if is_whole core c then 1 else 2) + if_so c.moves 1) runs ∙ ap (λ b. (if b then 1 else 2) + if_so c.moves 1) short

        updates_now : (b : Bool) → w ≡ b → copy_updates after next ≡ (if b then 1 else 2) + if_so c.moves 1
        updates_now b e = ap (λ x. if not x then 0 else (if w then 1 else 2) + if_so c.moves 1) runs ∙ ap (λ x. (if x then 1 else 2) + if_so c.moves 1) e

        paid : (b : Bool) → w ≡ b → if_so (not (same_status wanted (unwrap_or core.status.in_flight core.status.committed))) 1 + copy_updates after next
            ≤ if_so (not (same_status core.status.wanted (unwrap_or core.status.in_flight core.status.committed))) 1 + option_map_or (copy_updates core) core.copy 0
        paid true e = let two = before in let one_so = updates_now true e in let most = at_most (not (same_status wanted (unwrap_or core.status.in_flight core.status.committed))) in omega (arith, two, one_so, most)
        paid false e =
            let two = before in
            let two_so = updates_now false e in
            let same : if_so (not (same_status wanted (unwrap_or core.status.in_flight core.status.committed))) 1 ≡ if_so (not (same_status core.status.wanted (unwrap_or core.status.in_flight core.status.committed))) 1
            = ap (λ (u : Status). if_so (not (same_status u (unwrap_or core.status.in_flight core.status.committed))) 1) (still e) in
            omega (arith, two, two_so, same)

    -- ---- whose the others are

    other_own : (who : Owner) → same_owner who owner.Copy ≡ false → same_owner who row.owner ≡ false
    other_own who other = ap (same_owner who) own ∙ other

    owned : AreOwned after
    owned (owner.Data id target) = as_many core going.owned at row there (owner.Data id target) (other_own (owner.Data id target) refl) ∙ going.owned (owner.Data id target)
    owned (owner.Status disk) = as_many core going.owned at row there (owner.Status disk) (other_own (owner.Status disk) refl) ∙ going.owned (owner.Status disk) ∙ ap count_if (sym (started disk))
    owned (owner.Note disk) = as_many core going.owned at row there (owner.Note disk) (other_own (owner.Note disk) refl) ∙ going.owned (owner.Note disk)
    owned owner.Copy = ap (λ who. count_by (λ (g : Flown). same_owner who g.owner) (remove core.flying at)) (sym own) ∙ none_left core going.owned at row there

    -- ---- its buffer comes back

    was_hand : (n : ℕ) → count_if (is_hand n (hand_of_copy core.copy)) ≡ 0
    was_hand n = ap (λ m. count_if (is_hand n (hand_of_copy m))) is ∙ ap (λ x. count_if (is_hand n (hand_of x))) writing

    out : (n : ℕ) → out_with device after n ≡ count_if (slice_index_or pool n false)
    out = given_back s sound on at f f_there buf number device.media after (λ n. let none = was_hand n in omega (arith, none))

    -- ---- all of it

    keeps_going : IsGoing after
    keeps_going = record {
      fitting = fitting;
      told = told;
      status = status_sound;
      owned = owned;
      tickets = tickets_left core.flying at going.tickets;
      queue = queue_by w;
      pinned = going.pinned;
      requests = all_ones;
      copy = bring;
      hands = λ n. let all = out n in omega (arith, all);
      behind = behind;
      reviewed = reviewed;
      fresh = fresh;
      clearings = clearings;
      numbers = numbers;
    }

    blamed_before : (p : Pp) → is_blamed after p ≡ true → is_blamed core p ≡ true
    blamed_before p e = of (is_missing core p.disk) (is_wanted_stale after p) (is_wanted_stale core p) (is_held_stale core p) (list_any (fails_on p) core.requests) (wanted_before p)
        (sym (ap (λ b. b || is_wanted_stale after p || is_held_stale core p || list_any (fails_on p) core.requests) (missing_same p.disk)) ∙ e)
      where
        of : (m b a h x : Bool) → (b ≡ true → a ≡ true) → m || b || h || x ≡ true → m || a || h || x ≡ true
        of true b a h x on_so e = refl
        of false true a h x on_so e = ap (λ y. y || h || x) (on_so refl)
        of false false true h x on_so e = refl
        of false false false h x on_so e = e

    caused_before : (t : Target) → is_failed t.state || (t.usable && is_blamed after t.pp) ≡ true → is_failed t.state || (t.usable && is_blamed core t.pp) ≡ true
    caused_before t e = of (is_failed t.state) t.usable (is_blamed after t.pp) (is_blamed core t.pp) (blamed_before t.pp) e
      where
        of : (f u x y : Bool) → (x ≡ true → y ≡ true) → f || (u && x) ≡ true → f || (u && y) ≡ true
        of true u x y on_so e = refl
        of false true x y on_so e = on_so e
        of false false x y on_so e = e

    keeps_on : IsOn now
    keeps_on = let was = sound.on on in record {
      going = keeps_going;
      rows = rows_but_copy core after refl (λ who. same_owner row.owner who ≡ false) (λ other. not_so (sym other ∙ ap (λ who. same_owner who owner.Copy) own)) (remove core.flying at) (remove s.device.flights at) (others_of core going.owned at row there)
          (rows_left core core.flying s.device.flights at was.rows);
      caused = all_weaker (AreCaused s.device core) (AreCaused device after) (λ x all waiting. all_weaker (IsCaused s.device core) (IsCaused device after) (λ t why e. why (caused_before t e)) x.request.targets.items (all waiting)) core.requests was.caused;
      chosen = all_weaker (IsChosenSince core c) (IsChosenSince after next) (λ x all. all) core.requests (subst (λ m. IfSome m (λ (k : OpenCopy). AllByRecursion (IsChosenSince core k) core.requests)) is was.chosen);
    }

    copy_caused : IsCausedAmong now (copies_in core.descriptor c.lv c.lp) next
    copy_caused = let was = subst (λ m. IfSome m (λ (k : OpenCopy). IsCausedAmong s (copies_in core.descriptor k.lv k.lp) k)) is sound.copy in
        record { began = was.began; since = was.since; tried = λ n p n_at e. not_so (sym (nothing p.disk) ∙ e); own_began = was.own_began; own_since = was.own_since; failed = λ e. not_so (sym (ap is_none e) ∙ runs) }

    origin : IsTrueToOrigin now
    origin = let was = sound.origin in record {
      since = was.since;
      votes = was.votes;
      rows = was.rows;
      still_missing = λ d e. missing_same d ∙ was.still_missing d e;
      missing = λ d e. was.missing d (sym (missing_same d) ∙ e);
      stale = λ p e. at_missing p (was.stale p (held_or_wanted p e));
    }
      where
        at_missing : (p : Pp) {a b : Type 0} → a ⊎ (is_missing core p.disk ≡ true) ⊎ b → a ⊎ (is_missing after p.disk ≡ true) ⊎ b
        at_missing p (inl x) = inl x
        at_missing p (inr (inl gone)) = inr (inl (missing_same p.disk ∙ gone))
        at_missing p (inr (inr x)) = inr (inr x)

    pub keeps : IsSound now
    keeps = sound_when_on s now refl refl sound on fitting told keeps_on out (all_weaker (AreCounted s) (AreCounted now) (counted_when_on s now refl) core.requests sound.counted)
        (all_weaker (IsAnswered s) (IsAnswered now) (answered_when_on s now refl on) core.requests sound.answered) copy_caused origin

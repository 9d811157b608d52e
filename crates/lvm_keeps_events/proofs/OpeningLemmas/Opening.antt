-- A copy is opened.
use Rattle.std.proofs.Common.{◌≡◌, ◌≤◌, ◌<◌, ◌+◌, ◌-◌, ◌*◌, ◌^◌, ◌==◌, ℕ, zero, suc, Bool, true, false, ◌&&◌, ◌||◌, not, nat_lt, if◌then◌else◌, List, [], ◌∷◌, ◌++◌, Option, Some, None, length, map, slice_get, slice_index_or, refl, sym, ◌∙◌, ap, subst, arith}
use Rattle.std.specs.Prelude.{All, Err, IsTrue, MatchOption, Ok, Result, count_by, filter, find, is_none, unwrap_or}
use Rattle.std.specs.List.{AllByRecursion, list_any}
use Rattle.std.specs.Option.{option_map_or}
use Rattle.std.proofs.lemmas.Bool.{ltb-true, and_right, true_from_ne_false}
use Rattle.std.proofs.lemmas.List.Folds.{list_any-append}
use Rattle.std.proofs.lemmas.List.Sums.{count_by-le-length}
use Rattle.lvm_num.specs.declared.descriptor.LvRow.{LvRow}
use Rattle.lvm_num.specs.declared.descriptor.PvRow.{PvRow}
use Rattle.lvm_num.specs.declared.place.Pp.{Pp}
use Rattle.lvm_num.specs.Descriptor.{copies_of, is_size, volume_of, is_pp}
use Rattle.lvm_num.specs.Disks.{has}
use Rattle.lvm_num.specs.Geometry.{partition_blocks, track_group_of}
use Rattle.lvm_num.specs.Status.{calls_dirty, calls_stale}
use Rattle.lvm_num.proofs.DescriptorLemmas.Bounds.{few_members, few_volumes}
use Rattle.lvm_num.proofs.Booleans.{first_holds, not_so, none_below, not_first}
use Rattle.lvm_disk.specs.Counts.{Counts}
use Rattle.lvm_disk.specs.Device.{Flight}
use Rattle.lvm_vol.specs.Log.{next_id}
use Rattle.lvm_hold.specs.declared.queue.Row.{Row}
use Rattle.lvm_hold.specs.Conflicts.{conflicts}
use Rattle.lvm_path.specs.declared.request.Phase.{Phase}
use Rattle.lvm_path.specs.declared.request.Phase.TheVariants as phase
use Rattle.lvm_path.specs.declared.ask.Ask.{Ask}
use Rattle.lvm_path.specs.declared.target.Target.{Target}
use Rattle.lvm_path.specs.Targets.{is_done, is_failed}
use Rattle.lvm_session.specs.declared.bringing.OpenCopy.{OpenCopy}
use Rattle.lvm_session.specs.declared.bringing.CopyEnd.{CopyEnd}
use Rattle.lvm_session.specs.declared.bringing.CopyEnd.TheVariants as ending
use Rattle.lvm_session.specs.declared.flown.Owner.{Owner}
use Rattle.lvm_session.specs.declared.flown.Owner.TheVariants as owner
use Rattle.lvm_session.specs.declared.open.Open.{Open}
use Rattle.lvm_session.specs.declared.open.Power.TheVariants as power
use Rattle.lvm_session.specs.State.{Core, State, is_there, state}
use Rattle.lvm_session.specs.Judging.{copies_in, group_in, held_of, is_caught, is_held_back, is_kept, is_missing, is_running, is_settled, is_stale, is_usable, is_waiting, is_wanted_stale, place_of, pps_of, is_beside_copy, destinations_for, destinations_if}
use Rattle.lvm_session.specs.Bringing.{copy_ends, ends_if, groups_of, is_cleared, is_out, is_whole, next_source, sources_of, step_place, step_row}
use Rattle.lvm_session.specs.Enabled.{same_status}
use Rattle.lvm_session.specs.declared.answers.CopyFault.{CopyFault}
use Rattle.lvm_session.specs.declared.answers.CopyFault.TheVariants as refusal
use Rattle.lvm_session.specs.Calls.{OpenGives, Opens, aged, copy_at, copy_fault, faults_of, has_numbers, opened, refusal_at}
use Rattle.lvm_session.specs.Dark.{hand_of_copy}
use Rattle.lvm_num.specs.Modes.{is_passive}
use Rattle.lvm_num.proofs.Lists.{all_weaker, all_both}
use Rattle.lvm_session.specs.Marks.{is_among}
use Rattle.lvm_session.specs.Asking.{IsAwake}
use Rattle.lvm_session.specs.Causes.{AreCaused, AreCounted, IsAnswered, IsCaused, IsChosenSince, IsCausedAmong, IsLandedFor, fails_on, faults_at_first, faults_at_opening, is_held_stale, own_faults}
use Rattle.lvm_session.specs.Left.{clean_volumes, copy_updates, if_so, marks_later, updates_left}
use Rattle.lvm_session.specs.Owners.{AreOwned, IsTransferOf, flies, target_flies}
use Rattle.lvm_session.specs.Requests.{IsAimed, IsOpenOne, IsPhase, IsTarget, IsRequest, is_failed_and_sure, is_left_out, may_lack, will_be_kept}
use Rattle.lvm_session.specs.Sound.{IsAsked, IsCopy, IsFitting, IsGoing, IsOfKind, IsOn, IsSound, IsStaleCopy, IsTold, count_if, is_dark, is_hand, out_with, pins, rows_of, waiting_rows, with_row}
use Rattle.lvm_session.proofs.MovesLemmas.{among_filtered}
use Rattle.lvm_calls.proofs.LogLemmas.{below_next}
use Rattle.lvm_calls.specs.Opening.{counts_seen, faults_seen}
use Rattle.lvm_calls.proofs.OpeningLemmas.{IsTaken, copies_are, taken}
use Rattle.lvm_calls.proofs.Tables.{queue_before, rows_are}
use Rattle.lvm_calls.proofs.passed.Due.{few_copies}
use Rattle.lvm_keeps.specs.Keeps.{OpenKeeps}
use Rattle.lvm_keeps.proofs.CausesLemmas.{counted_still, landed_still, origin_still}
use Rattle.lvm_keeps.proofs.SoundLemmas.Fitting.{still_fits}
use Rattle.lvm_keeps.proofs.Lists.{all_mapped}
use Rattle.lvm_keeps.proofs.OwnersLemmas.Rows.{all_fly, rows_by, status_still}
use Rattle.lvm_keeps.proofs.Small.{and_on, most_on, none_on}
use Rattle.lvm_keeps.proofs.RequestsLemmas.{if_on, kind_still, laid_on, moved, ready_on}
use Rattle.lvm_keeps.proofs.LeftLemmas.Updates.{one_if, open_most}
use Rattle.lvm_keeps.proofs.SoundLemmas.Whole.{sound_when_on}
use Rattle.lvm_keeps_events.specs.Opening.{SeenOpenKeeps}
use Rattle.lvm_keeps_events.proofs.OpeningLemmas.Aging.{any_aged, asked_aged, count_aged, get_aged, long_aged, row_last, rows_aged, told_aged}

-- ---- what a copy is that isn't refused

-- its disk is there, another copy can be read, and there are numbers enough
pub record IsReadable (core : Core) (copies : List Pp) (p : Pp) : Type 0 where
  pub there : is_missing core p.disk ≡ false
  pub other : list_any (λ (q : Pp). not (is_pp q p) && is_usable core q) copies ≡ true
  pub numbers : has_numbers core ≡ true

pub record IsFine (core : Core) (copies : List Pp) (p : Pp) : Type 0 where
  pub settled : is_settled core p ≡ true
  pub readable : IsReadable core copies p

fine_of : (core : Core) (copies : List Pp) (p : Pp) → refusal_at core copies p ≡ None → IsFine core copies p
fine_of core copies p is = by (is_settled core p) (is_missing core p.disk) (list_any (λ (q : Pp). not (is_pp q p) && is_usable core q) copies) (has_numbers core) refl refl refl refl is
  where
    by : (a b c d : Bool) → is_settled core p ≡ a → is_missing core p.disk ≡ b → list_any (λ (q : Pp). not (is_pp q p) && is_usable core q) copies ≡ c → has_numbers core ≡ d
        → (if not a then Some refusal.AlreadyFresh else if b then Some (refusal.Missing p.disk) else if not c then Some refusal.NoFresh else if d then None else Some refusal.HistoryFull) ≡ None → IsFine core copies p
    by true false true true s t o n e = record { settled = s; readable = record { there = t; other = o; numbers = n } }
    by true false true false s t o n e = absurd (cc e)
    by true false false d s t o n e = absurd (cc e)
    by true true c d s t o n e = absurd (cc e)
    by false b c d s t o n e = absurd (cc e)

-- ---- sources

some_source : (t u : Pp → Bool) (ps : List Pp) → ((p : Pp) → t p ≡ true) → list_any u ps ≡ true → (length (filter u ps) == 0 ≡ false) × (is_none (find t (filter u ps)) ≡ false)
some_source t u [] free is = not_so is
some_source t u (p ∷ ps) free is = by (u p) is (λ e. some_source t u ps free e)
  where
    by : (b : Bool) → b || list_any u ps ≡ true → (list_any u ps ≡ true → (length (filter u ps) == 0 ≡ false) × (is_none (find t (filter u ps)) ≡ false))
        → (length (if b then p ∷ filter u ps else filter u ps) == 0 ≡ false) × (is_none (find t (if b then p ∷ filter u ps else filter u ps)) ≡ false)
    by true e rest = (not_first (length (filter u ps)), ap (λ b. is_none (if b then Some p else find t (filter u ps))) (free p))
    by false e rest = rest e

-- ---- counts at the opening

pub at_place : (ps : List Pp) (number : ℕ) (p : Pp) → copy_at ps number ≡ Some p → slice_get ps (number - 1) ≡ Some p
at_place ps number p is = by (number == 0) is
  where
    by : (b : Bool) → (if b then None else slice_get ps (number - 1)) ≡ Some p → slice_get ps (number - 1) ≡ Some p
    by true e = absurd (cc e)
    by false e = e

pub counted_at : (counts : Counts) (ps : List Pp) (own : Pp) (k : ℕ) (p : Pp) → length ps ≤ 3 → slice_get ps k ≡ Some p → slice_index_or (faults_of counts ps own) k 0 ≡ counts.faults p.disk
counted_at counts [] own k p few is = absurd (cc is)
counted_at counts (a ∷ []) own zero p few is = let same : a ≡ p = cc is in ap (λ (x : Pp). counts.faults x.disk) same
counted_at counts (a ∷ []) own (suc k) p few is = absurd (cc is)
counted_at counts (a ∷ b ∷ []) own zero p few is = let same : a ≡ p = cc is in ap (λ (x : Pp). counts.faults x.disk) same
counted_at counts (a ∷ b ∷ []) own (suc zero) p few is = let same : b ≡ p = cc is in ap (λ (x : Pp). counts.faults x.disk) same
counted_at counts (a ∷ b ∷ []) own (suc (suc k)) p few is = absurd (cc is)
counted_at counts (a ∷ b ∷ c ∷ []) own zero p few is = let same : a ≡ p = cc is in ap (λ (x : Pp). counts.faults x.disk) same
counted_at counts (a ∷ b ∷ c ∷ []) own (suc zero) p few is = let same : b ≡ p = cc is in ap (λ (x : Pp). counts.faults x.disk) same
counted_at counts (a ∷ b ∷ c ∷ []) own (suc (suc zero)) p few is = let same : c ≡ p = cc is in ap (λ (x : Pp). counts.faults x.disk) same
counted_at counts (a ∷ b ∷ c ∷ []) own (suc (suc (suc k))) p few is = absurd (cc is)
counted_at counts (a ∷ b ∷ c ∷ d ∷ ps) own k p few is = absurd (omega (arith, few))

four : (counts : Counts) (ps : List Pp) (own : Pp) → length (faults_of counts ps own) ≡ 4
four counts [] own = refl
four counts (a ∷ []) own = refl
four counts (a ∷ b ∷ []) own = refl
four counts (a ∷ b ∷ c ∷ ps) own = refl

pub last_count : (counts : Counts) (ps : List Pp) (own : Pp) → slice_index_or (faults_of counts ps own) 3 0 ≡ counts.faults own.disk
last_count counts [] own = refl
last_count counts (a ∷ []) own = refl
last_count counts (a ∷ b ∷ []) own = refl
last_count counts (a ∷ b ∷ c ∷ ps) own = refl

-- ---- a request that is aged

phase_aged : (p : Phase) (o : Open) → IsPhase p o → IsPhase p (aged o)
phase_aged phase.Held o its = its
phase_aged phase.WantEntry o its = its
phase_aged phase.WantRecord o its = its
phase_aged phase.Data o its = its
phase_aged phase.WantStatus o its = its
phase_aged phase.Landed o its = its

-- ---- nothing of it is copied

-- a logical partition has a track group
pub not_whole : (core : Core) → IsFitting core → not (nat_lt 0 (groups_of core)) ≡ false
not_whole core fitting = ap not (less (groups_of core) some_groups)
  where
    some_groups : 1 ≤ groups_of core
    some_groups = let some = positive core.descriptor.mib fitting.valid.head.size in groups core.descriptor.mib some
      where
        positive : (mib : ℕ) → IsTrue (is_size mib) → 1 ≤ mib
        positive zero is = absurd (cc is)
        positive (suc mib) is = omega arith

        groups : (mib : ℕ) → 1 ≤ mib → 1 ≤ track_group_of (partition_blocks mib)
        groups mib some = omega (arith, some)

    less : (n : ℕ) → 1 ≤ n → nat_lt 0 n ≡ true
    less n some = grind (arith, some)

-- a stale copy as it is opened
stale_one : (core : Core) → IsGoing core → core.copy ≡ None → (lv lp number : ℕ) (row : LvRow) → volume_of core.descriptor lv ≡ Some row → (pp : Pp) → copy_at (copies_of row lp) number ≡ Some pp → is_settled core pp ≡ true
    → (tried : ℕ) (faults : List ℕ) (place : ℕ) → IsStaleCopy core (opened false pp lv lp number tried faults place)
stale_one core going none lv lp number row volume pp copy_is settled tried faults place = record {
  its = ap (λ ps. copy_at ps number) (copies_are core.descriptor lv lp row volume) ∙ copy_is;
  stale = λ runs e. (settled, wanted);
  clearing = λ runs e. not_so (sym (not_whole core going.fitting) ∙ e);
}
  where
    stale : is_stale core pp ≡ true
    stale = first_holds (is_stale core pp) _ settled

    wanted : is_wanted_stale core pp ≡ true
    wanted = true_from_ne_false (is_wanted_stale core pp) (λ clear. not_so (sym (ap (λ m. option_map_or (λ (k : OpenCopy). is_running k && is_whole core k && is_pp pp k.pp) m false) none)
        ∙ going.clearings pp (ap (λ b. b || calls_stale (unwrap_or core.status.in_flight core.status.committed) pp) stale) clear))

-- ---- the copy is opened, or begins to move

module _ (s : State) (sound : IsSound s) (on : s.core.power ≡ power.On) (none : s.core.copy ≡ None) (moves : Bool) (lv lp number : ℕ) (row : LvRow) (volume : volume_of s.core.descriptor lv ≡ Some row) (within : lp < row.lps)
    (pp : Pp) (readable : IsReadable s.core (copies_of row lp) pp) (tried : ℕ) (nothing : (d : ℕ) → has tried d ≡ false) (counts : Counts)
    (kind : IsOfKind moves s.core (opened moves pp lv lp number tried (faults_of counts (copies_of row lp) pp) (step_place s.core)))
    (low : (disk : ℕ) → faults_at_first s.core disk ≤ counts.faults disk) (high : (disk : ℕ) → counts.faults disk ≤ s.device.counts.faults disk) where
  abbrev core : Core
  core = s.core

  abbrev c : OpenCopy
  c = opened moves pp lv lp number tried (faults_of counts (copies_of row lp) pp) (step_place core)

  abbrev table : List Open
  table = map aged core.requests

  abbrev now : State
  now = moved s core.history table (record core.queue { rows = core.queue.rows ++ step_row core c ∷ [] }) (Some c) core.pool core.flying core.cache.entries core.last

  going : IsGoing core
  going = (sound.on on).going

  few : length (copies_of row lp) ≤ 3
  few = few_copies core.descriptor lv row sound.fitting.valid volume lp

  copies : copies_in core.descriptor lv lp ≡ copies_of row lp
  copies = copies_are core.descriptor lv lp row volume

  -- no copy was open
  of_none : {A : Type 0} (t : OpenCopy → A) (other : A) → option_map_or t core.copy other ≡ other
  of_none t other = ap (λ m. option_map_or t m other) none

  below : AllByRecursion (λ (o : Open). o.request.id < next_id core.history) core.requests
  below = below_next core.history core.requests sound.told.ordered sound.told.requests

  fitting : IsFitting now.core
  fitting = let f = sound.fitting in still_fits core now.core f refl f.entries (λ disk. refl) (subst (λ n. n ≤ core.most) (sym (long_aged core.requests)) f.table) refl f.room

  told : IsTold now.core
  told = let t = sound.told in record {
    ordered = t.ordered;
    table = told_aged core.history.facts core.requests t.table;
    each = λ id. t.each id ∙ sym (any_aged (λ (o : Open). is_waiting o && o.request.id == id) (λ o. refl) core.requests);
    requests = all_mapped (IsAsked core.history.facts) (IsAsked core.history.facts) aged (asked_aged core.history.facts) core.requests t.requests;
  }

  -- ---- it has passed nothing

  not_caught : (group : ℕ) (p : Pp) → is_caught now.core group p ≡ false
  not_caught group p = and_right (is_pp p pp) (nat_lt group 0) (none_below group)

  was_none : (group : ℕ) (p : Pp) → is_caught core group p ≡ false
  was_none group p = of_none (λ (k : OpenCopy). is_running k && is_pp p k.pp && nat_lt group k.cursor) false

  short : is_whole now.core c ≡ false
  short = not_whole core sound.fitting

  -- ---- requests

  not_held : (o : Open) → o.request.id < next_id core.history → is_held_back core o.request ≡ false → is_held_back now.core o.request ≡ false
  not_held o low free =
      list_any-append (λ (r : Row). nat_lt r.id (place_of o.request.id) && conflicts r.ask (held_of o.request.ask)) core.queue.rows (step_row core c ∷ [])
      ∙ ap (λ b. b || ((nat_lt c.place (place_of o.request.id) && conflicts (step_row core c).ask (held_of o.request.ask)) || false)) free
      ∙ ap (λ b. (b && conflicts (step_row core c).ask (held_of o.request.ask)) || false) (behind (next_id core.history) o.request.id low)
    where
      behind : (n id : ℕ) → id < n → nat_lt (2 * n - 1) (2 * id) ≡ false
      behind n id less = grind (arith, less)

  -- before there was no place to which a copy moves
  target_on : (ask : Ask) (t : Target) → IsTarget core ask t → IsTarget now.core ask t
  target_on ask t its = record { copy = aimed t.moves its.copy; sector = its.sector; there = its.there }
    where
      aimed : (b : Bool) → IsAimed b core ask t → IsAimed b now.core ask t
      aimed false among = among
      aimed true place = not_so (sym (ap (λ (ps : List Pp). is_among ps t.pp) (of_none (λ (k : OpenCopy). destinations_if (k.moves && is_beside_copy core ask k) k) [])) ∙ place.0)

  one : (o : Open) → IsOpenOne core o × (o.request.id < next_id core.history) → IsOpenOne now.core (aged o)
  one o both =
      let it = both.0 in
      let free = not_held o both.1 in
      let caught : (p : Pp) → is_caught core (group_in core o.request.ask) p ≡ false → is_caught now.core (group_in core o.request.ask) p ≡ false = λ p e. not_caught (group_in core o.request.ask) p in
      record {
        laid = laid_on core core.history table now.core.queue (Some c) core.pool core.flying core.cache.entries core.last o.request it.laid;
        waits = λ waiting. request_on (it.waits waiting) free caught;
        over = λ landed. let was = it.over landed in record { landed = was.landed; phase_is = was.phase_is; hand = was.hand; pinned = was.pinned };
        still = it.still;
      }
    where
      request_on : IsRequest core o → (is_held_back core o.request ≡ false → is_held_back now.core o.request ≡ false)
          → ((p : Pp) → is_caught core (group_in core o.request.ask) p ≡ false → is_caught now.core (group_in core o.request.ask) p ≡ false) → IsRequest now.core (aged o)
      request_on r free caught =
          let shape = r.shape in
          record {
            shape = record { targets = all_weaker (IsTarget core o.request.ask) (IsTarget now.core o.request.ask) (target_on o.request.ask) o.request.targets.items shape.targets; phase_is = phase_aged o.request.phase o shape.phase_is; hand = shape.hand; room = shape.room; differ = shape.differ; usable = shape.usable; one = shape.one };
            ready = ready_on core core.history table now.core.queue (Some c) core.pool core.flying core.cache.entries core.last o free caught r.ready;
            judged = λ write. let j = r.judged write in record {
              uncaught = all_none o.request.targets.items;
              due = λ status. most_on (count_by (is_failed_and_sure core) o.request.targets.items) (is_kept core o.request) (will_be_kept core o.request) (will_be_kept now.core o.request)
                  (none_on (λ (t : Target). is_done t.state && is_caught core (group_in core o.request.ask) t.pp) (λ (t : Target). is_done t.state && is_caught now.core (group_in core o.request.ask) t.pp)
                  (λ t. and_on (is_done t.state) (is_caught core (group_in core o.request.ask) t.pp) (is_caught now.core (group_in core o.request.ask) t.pp) (caught t.pp)) o.request.targets.items) (j.due status);
              missed = j.missed;
              all = λ begun p among. let was = j.all begun p among in left_same p was;
              place = λ begun p among. not_so (sym (not_caught (group_in core o.request.ask) p) ∙ (among_filtered (is_caught now.core (group_in core o.request.ask)) (destinations_for now.core o.request.ask) p among).1);
            };
          }
        where
          all_none : (ts : List Target) → AllByRecursion (λ (t : Target). may_lack (aged o) t && is_caught now.core (group_in core o.request.ask) t.pp ≡ false) ts
          all_none [] = tt
          all_none (t ∷ ts) = (and_right (may_lack (aged o) t) (is_caught now.core (group_in core o.request.ask) t.pp) (not_caught (group_in core o.request.ask) t.pp), all_none ts)

          left_same : (p : Pp) → is_among (pps_of o.request.targets.items) p || is_left_out core o.request.ask p ≡ true
              → is_among (pps_of o.request.targets.items) p || is_left_out now.core o.request.ask p ≡ true
          left_same p was = ap (λ b. is_among (pps_of o.request.targets.items) p || (is_settled core p && is_wanted_stale core p && not b)) (not_caught (group_in core o.request.ask) p ∙ sym (was_none (group_in core o.request.ask) p)) ∙ was

  -- ---- the copy

  bring : IsCopy now.core c
  bring = record {
    row = row;
    volume = volume;
    lp = within;
    kind = kind_still core now.core c c.step c.tried c.end refl refl refl refl moves kind;
    cursor = omega arith;
    faults = four counts (copies_of row lp) pp;
    place = before (next_id core.history) (omega arith);
    room = tt;
    free = λ e. not_so (sym e);
    hand = λ e. not_so (sym e);
    tried = λ disk e. not_so (sym (nothing disk) ∙ e);
    source = tt;
    under_way = λ runs e. not_so (sym e);
  }
    where
      before : (n : ℕ) → 1 ≤ n → (id : ℕ) × (id < n) × (2 * n - 1 ≡ place_of id + 1)
      before n some = (n - 1, omega (arith, some), omega (arith, some))

  -- ---- whose the transfers are

  owned : AreOwned now.core
  owned (owner.Data id target) = going.owned (owner.Data id target) ∙ ap count_if (sym (any_aged (λ (o : Open). o.request.id == id && target_flies target o) (λ o. refl) core.requests))
  owned (owner.Status disk) = going.owned (owner.Status disk)
  owned (owner.Note disk) = going.owned (owner.Note disk)
  owned owner.Copy = going.owned owner.Copy ∙ ap count_if (of_none (λ (k : OpenCopy). is_out k.step) false)

  transfer_on : (who : Owner) (f : Flight) → IsTransferOf core who f → IsTransferOf now.core who f
  transfer_on (owner.Data id target) f of = let m = of.moves in record {
    place = of.place;
    request = aged of.request;
    there = get_aged core.requests of.place of.request of.there;
    own = of.own;
    aim = of.aim;
    aim_is = of.aim_is;
    moves = record { disk_is = m.disk_is; first = m.first; count = m.count; write = m.write; carries = m.carries };
  }
  transfer_on (owner.Status disk) f of = status_still core now.core refl disk f of
  transfer_on (owner.Note disk) f of = record { note = of.note; flies = of.flies; disk_is = of.disk_is; first = of.first; count = of.count; write = of.write; carries = of.carries }
  transfer_on owner.Copy f of = absurd (let gone : None ≡ Some of.0 = sym none ∙ of.1 in cc gone)

  -- ---- its place, and that it goes on

  queue : now.core.queue.rows ≡ rows_of now.core
  queue =
      ap (λ (rows : List Row). rows ++ step_row core c ∷ []) (rows_are core going none)
      ∙ sym (row_last (step_row core c) (waiting_rows core.requests) (subst (All (λ (r : Row). r.id < step_place core)) (rows_are core going none) (queue_before core going none)))
      ∙ ap (with_row (step_row core c)) (sym (rows_aged core.requests))
      ∙ ap (λ b. if b then with_row (step_row core c) (waiting_rows table) else waiting_rows table) (sym (ap not short))

  reads_on : (length (sources_of core c) == 0 ≡ false) × (is_none (next_source core c) ≡ false)
  reads_on = some_source (λ (p : Pp). not (has tried p.disk)) (λ (p : Pp). not (is_pp p pp) && is_usable core p) (copies_in core.descriptor lv lp) (λ p. ap not (nothing p.disk))
      (subst (λ ps. list_any (λ (q : Pp). not (is_pp q pp) && is_usable core q) ps ≡ true) (sym copies) readable.other)

  goes_on : (m w z i : Bool) (d : Option CopyEnd) → m ≡ false → w ≡ false → z ≡ false → i ≡ false
      → (if m then Some ending.SyncFailed else if w then d else if z then Some ending.NoFresh else ends_if (true && i) ending.SyncFailed) ≡ None
  goes_on true w z i d there less some source = not_so (sym there)
  goes_on false true z i d there less some source = not_so (sym less)
  goes_on false false true i d there less some source = not_so (sym some)
  goes_on false false false true d there less some source = not_so (sym source)
  goes_on false false false false d there less some source = refl

  reviewed : copy_ends now.core ≡ None
  reviewed = goes_on (is_missing core pp.disk) (is_whole core c) (length (sources_of core c) == 0) (is_none (next_source core c)) (ends_if (is_cleared now.core c) ending.Done) readable.there short reads_on.0 reads_on.1

  -- ---- numbers

  numbers : now.core.status.stamp.seq + updates_left now.core < 2 ^ 32
  numbers =
      let later = count_by-le-length marks_later table in
      let long = long_aged core.requests in
      let held = sound.fitting.table in
      let limit = sound.fitting.most in
      let clean = count_by-le-length (λ (r : LvRow). is_passive r.mode && not (calls_dirty core.status.wanted r.number)) core.descriptor.lvs in
      let most_open = open_most table (clean_volumes core) in
      let volumes = sound.fitting.valid.head.volumes in
      let big = few_volumes core.descriptor.big in
      let members = count_by-le-length (λ (r : PvRow). is_there core r.disk) core.descriptor.pvs in
      let disks = sound.fitting.valid.head.members in
      let wide = few_members core.descriptor.big in
      let wants = one_if (not (same_status core.status.wanted (unwrap_or core.status.in_flight core.status.committed))) in
      let copy : copy_updates now.core c ≤ 3 = few_updates (is_whole now.core c) moves in
      let free = ltb-true (core.status.stamp.seq + 65536) (2 ^ 32) readable.numbers in
      omega (arith, later, long, held, limit, clean, most_open, volumes, big, members, disks, wide, wants, copy, free)
    where
      few_updates : (w b : Bool) → (if w then 1 else 2) + if_so b 1 ≤ 3
      few_updates true true = omega arith
      few_updates true false = omega arith
      few_updates false true = omega arith
      few_updates false false = omega arith

  -- ---- what goes on

  no_hand : (n : ℕ) → count_if (is_hand n (hand_of_copy core.copy)) ≡ 0
  no_hand n = ap (λ m. count_if (is_hand n (hand_of_copy m))) none

  hands_same : (n : ℕ) → count_by (λ (o : Open). is_hand n o.got) table ≡ count_by (λ (o : Open). is_hand n o.got) core.requests
  hands_same n = count_aged (λ (o : Open). is_hand n o.got) (λ o. refl) core.requests

  keeps_going : IsGoing now.core
  keeps_going = record {
    fitting = fitting;
    told = told;
    status = going.status;
    owned = owned;
    tickets = going.tickets;
    queue = queue;
    pinned = λ l g. going.pinned l g ∙ sym (count_aged (pins l g) (λ o. refl) core.requests);
    requests = all_mapped (λ (o : Open). IsOpenOne core o × (o.request.id < next_id core.history)) (IsOpenOne now.core) aged one core.requests
        (all_both (IsOpenOne core) (λ (o : Open). o.request.id < next_id core.history) core.requests going.requests below);
    copy = bring;
    hands = λ n. let was = going.hands n in let before = no_hand n in let same = hands_same n in omega (arith, was, before, same);
    behind = going.behind;
    reviewed = reviewed;
    fresh = going.fresh;
    clearings = λ p held clear. not_so (sym (of_none (λ (k : OpenCopy). is_running k && is_whole core k && is_pp p k.pp) false) ∙ going.clearings p held clear);
    numbers = numbers;
  }

  blamed_same : (t : Target) → IsCaused s.device core t → IsCaused s.device now.core t
  blamed_same t why is = why (ap (λ b. is_failed t.state || (t.usable && (is_missing core t.pp.disk || is_wanted_stale core t.pp || is_held_stale core t.pp || b))) (sym (any_aged (fails_on t.pp) (λ o. refl) core.requests)) ∙ is)

  all_aged : (os : List Open) → AllByRecursion (IsChosenSince now.core c) (map aged os)
  all_aged [] = tt
  all_aged (o ∷ os) = ((λ waiting young. not_so (sym young)), all_aged os)

  keeps_on : IsOn now
  keeps_on = let was = sound.on on in record {
    going = keeps_going;
    rows = rows_by core now.core (λ who. flies core who ≡ true) (λ who f is of. transfer_on who f of) core.flying s.device.flights (all_fly core going.owned) was.rows;
    caused = all_mapped (AreCaused s.device core) (AreCaused s.device now.core) aged (λ x all waiting. all_weaker (IsCaused s.device core) (IsCaused s.device now.core) blamed_same x.request.targets.items (all waiting)) core.requests was.caused;
    chosen = all_aged core.requests;
  }

  -- ---- all of it

  out : (n : ℕ) → out_with s.device now.core n ≡ out_with s.device core n
  out n = let before = no_hand n in let same = hands_same n in omega (arith, before, same)

  at_opening : (n : ℕ) (p : Pp) → copy_at (copies_in core.descriptor lv lp) n ≡ Some p → faults_at_opening c n ≡ counts.faults p.disk
  at_opening n p is = counted_at counts (copies_of row lp) pp (n - 1) p few (at_place (copies_of row lp) n p (ap (λ ps. copy_at ps n) (sym copies) ∙ is))

  -- on its own disk
  own_at_opening : own_faults c ≡ counts.faults pp.disk
  own_at_opening = last_count counts (copies_of row lp) pp

  caused : IsCausedAmong now (copies_in core.descriptor lv lp) c
  caused = record {
    began = λ n p is. let same = at_opening n p is in let least = low p.disk in omega (arith, same, least);
    since = λ n p is. let same = at_opening n p is in let most = high p.disk in omega (arith, same, most);
    tried = λ n p is e. not_so (sym (nothing p.disk) ∙ e);
    own_began = let same = own_at_opening in let least = low pp.disk in omega (arith, same, least);
    own_since = let same = own_at_opening in let most = high pp.disk in omega (arith, same, most);
    failed = λ e. absurd (cc e);
  }

  pub keeps : IsSound now
  keeps = sound_when_on s now refl refl sound on fitting told keeps_on (λ n. out n ∙ sound.none_lost (ap is_dark on) n) (all_mapped (AreCounted s) (AreCounted now) aged (counted_still s now refl) core.requests sound.counted)
      (all_mapped (IsAnswered s) (IsAnswered now) aged (λ x why. if_on (IsLandedFor s x) (IsLandedFor now (aged x)) (landed_still s now refl x (aged x) refl) x.landed why) core.requests sound.answered) caused (origin_still s now refl refl sound.origin)

-- ---- or refused

pub same_row : (core : Core) (lv : ℕ) (a b : LvRow) → volume_of core.descriptor lv ≡ Some a → volume_of core.descriptor lv ≡ Some b → a ≡ b
same_row core lv a b one two = cc (sym one ∙ two)

same_pp : (ps : List Pp) (number : ℕ) (a b : Pp) → copy_at ps number ≡ Some a → copy_at ps number ≡ Some b → a ≡ b
same_pp ps number a b one two = cc (sym one ∙ two)

opens_keeps : (s : State) (new : Core) (lv lp number : ℕ) (counts : Counts) → ((disk : ℕ) → faults_at_first s.core disk ≤ counts.faults disk) → ((disk : ℕ) → counts.faults disk ≤ s.device.counts.faults disk)
    → IsSound s → IsTaken s.core lv lp number → Opens counts s.core new lv lp number → IsSound (state s.device new)
opens_keeps s new lv lp number counts low high sound it event =
    subst (λ core. IsSound (state s.device core)) (sym event.is) (keeps s sound it.on it.none false lv lp number event.row event.volume within event.pp fine.readable event.tried event.nothing counts stale low high)
  where
    rows : it.its.row ≡ event.row
    rows = same_row s.core lv it.its.row event.row it.its.volume event.volume

    within : lp < event.row.lps
    within = subst (λ (r : LvRow). lp < r.lps) rows it.its.within

    pps : it.its.pp ≡ event.pp
    pps = same_pp (copies_of event.row lp) number it.its.pp event.pp (ap (λ (r : LvRow). copy_at (copies_of r lp) number) (sym rows) ∙ it.its.copy_is) event.copy_is

    fine : IsFine s.core (copies_of event.row lp) event.pp
    fine = subst (IsFine s.core (copies_of event.row lp)) pps (subst (λ (r : LvRow). IsFine s.core (copies_of r lp) it.its.pp) rows (fine_of s.core (copies_of it.its.row lp) it.its.pp it.fine))

    stale : IsStaleCopy s.core (opened false event.pp lv lp number event.tried (faults_of counts (copies_of event.row lp) event.pp) (step_place s.core))
    stale = stale_one s.core (sound.on it.on).going it.none lv lp number event.row event.volume event.pp event.copy_is fine.settled event.tried (faults_of counts (copies_of event.row lp) event.pp) (step_place s.core)

gives_keeps : (s : State) (new : Core) (lv lp number : ℕ) (answer : Result (Unit {0}) CopyFault) (counts : Counts) → ((disk : ℕ) → faults_at_first s.core disk ≤ counts.faults disk)
    → ((disk : ℕ) → counts.faults disk ≤ s.device.counts.faults disk) → IsSound s → IsAwake s.core → OpenGives counts s.core new lv lp number answer → IsSound (state s.device new)
gives_keeps s new lv lp number answer counts low high sound awake gives = by (copy_fault s.core lv lp number) refl gives
  where
    by : (f : Option CopyFault) → copy_fault s.core lv lp number ≡ f
        → MatchOption f ((answer ≡ Ok tt) × Opens counts s.core new lv lp number) (λ (why : CopyFault). (answer ≡ Err why) × (new ≡ s.core)) → IsSound (state s.device new)
    by None is event = opens_keeps s new lv lp number counts low high sound (taken s.core lv lp number awake (sym is)) event.1
    by (Some why) is same = subst (λ core. IsSound (state s.device core)) (sym same.1) sound

pub open_keeps : OpenKeeps
open_keeps s new lv lp number answer sound awake gives = gives_keeps s new lv lp number answer s.device.counts sound.origin.since (λ disk. omega arith) sound awake gives

-- ---- the faults that code sees

pub seen_low : (s : State) → IsSound s → (disk : ℕ) → faults_at_first s.core disk ≤ faults_seen s.device s.core disk
seen_low s sound disk = by (nat_lt disk (length s.device.sizes))
  where
    by : (b : Bool) → faults_at_first s.core disk ≤ (if b then s.device.counts.faults disk else faults_at_first s.core disk)
    by true = sound.origin.since disk
    by false = omega arith

pub seen_high : (s : State) → IsSound s → (disk : ℕ) → faults_seen s.device s.core disk ≤ s.device.counts.faults disk
seen_high s sound disk = by (nat_lt disk (length s.device.sizes))
  where
    by : (b : Bool) → (if b then s.device.counts.faults disk else faults_at_first s.core disk) ≤ s.device.counts.faults disk
    by true = omega arith
    by false = sound.origin.since disk

pub seen_open_keeps : SeenOpenKeeps
seen_open_keeps s new lv lp number answer sound awake gives = gives_keeps s new lv lp number answer (counts_seen s.device s.core) (seen_low s sound) (seen_high s sound) sound awake gives

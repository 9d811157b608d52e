-- A volume comes to be wanted dirty.
use Rattle.std.proofs.Common.{◌≡◌, ◌⊎◌, inl, inr, ◌==◌, ◌≤◌, ◌+◌, ◌&&◌, ◌||◌, ℕ, Bool, true, false, not, nat_le, filter, find, if◌then◌else◌, List, [], ◌∷◌, Option, Some, None, length, map, refl, sym, ◌∙◌, ap, arith}
use Rattle.std.specs.Prelude.{count_by, is_none, unwrap_or}
use Rattle.std.specs.List.{list_any, range_with_len}
use Rattle.std.specs.Option.{option_map_or}
use Rattle.std.proofs.lemmas.Bool.{eqb-true}
use Rattle.lvm_num.specs.declared.descriptor.Descriptor.{Descriptor}
use Rattle.lvm_num.specs.declared.descriptor.LvRow.{LvRow}
use Rattle.lvm_num.specs.declared.descriptor.Mode.{Mode}
use Rattle.lvm_num.specs.declared.descriptor.Mode.TheVariants as mode
use Rattle.lvm_num.specs.declared.descriptor.PvRow.{PvRow}
use Rattle.lvm_num.specs.declared.place.Pp.{Pp}
use Rattle.lvm_num.specs.declared.record.Stamp.{Stamp}
use Rattle.lvm_num.specs.declared.status.Status.{Status}
use Rattle.lvm_num.specs.declared.status.StatusRow.{StatusRow}
use Rattle.lvm_num.specs.Descriptor.{copies_of, is_member, volume_of, is_pp}
use Rattle.lvm_num.specs.Disks.{has}
use Rattle.lvm_num.specs.Status.{calls_dirty, calls_stale}
use Rattle.lvm_status.specs.Table.{SameMissing, SameStale, has_row}
use Rattle.lvm_path.specs.declared.ask.Ask.{Ask}
use Rattle.lvm_path.specs.declared.request.Request.{Request}
use Rattle.lvm_path.specs.declared.target.Target.{Target}
use Rattle.lvm_path.specs.Asks.{lv_of}
use Rattle.lvm_path.specs.Targets.{is_done, is_failed}
use Rattle.lvm_status.specs.declared.change.Change.TheVariants as change
use Rattle.lvm_status.specs.declared.writes.Writes.{Writes}
use Rattle.lvm_status.specs.Update.{Stored, Updates, is_held, is_owed, seen}
use Rattle.lvm_status.specs.Calls.{BecomesDirty, closed}
use Rattle.lvm_status.specs.Runs.{Want, IsSoundStatus}
use Rattle.lvm_status.proofs.RunsLemmas.Sound.{steps_stay_sound}
use Rattle.lvm_session.specs.declared.bringing.CopyEnd.TheVariants as ending
use Rattle.lvm_session.specs.declared.bringing.OpenCopy.{OpenCopy}
use Rattle.lvm_session.specs.declared.flown.Owner.TheVariants as owner
use Rattle.lvm_session.specs.declared.open.Open.{Open}
use Rattle.lvm_session.specs.declared.open.Power.TheVariants as power
use Rattle.lvm_session.specs.State.{Core, State, is_there, state}
use Rattle.lvm_session.specs.Judging.{copies_in, group_in, has_dirty_mark, has_names, is_caught, is_kept, is_missing, is_running, is_settled, is_stale, is_sure, is_usable, is_wanted_stale, pps_of, is_sure_at}
use Rattle.lvm_session.specs.Bringing.{copy_ends, end_by_sources, end_of, ends_if, is_cleared, is_idle, is_whole, sources_of}
use Rattle.lvm_session.specs.Enabled.{same_status}
use Rattle.lvm_num.specs.Modes.{is_passive}
use Rattle.lvm_num.proofs.Booleans.{not_so}
use Rattle.lvm_num.proofs.Lists.{all_weaker}
use Rattle.lvm_session.specs.Marks.{WantsDirty, can_replace, is_among, is_entailed, is_entailed_in, is_left_behind}
use Rattle.lvm_session.specs.Left.{clean_volumes, if_open, if_so}
use Rattle.lvm_session.specs.Owners.{AreOwned}
use Rattle.lvm_session.specs.Requests.{IsOpenOne, is_failed_and_sure, is_left_out, is_wanted_dirty, is_wanted_due, mode_for, will_be_kept}
use Rattle.lvm_session.specs.Causes.{AreCaused, AreCounted, HaveSourcesFailed, IsAnswered, IsCaused, IsCausedAmong, IsTrueToOrigin, fails_on, is_blamed, is_held_stale, was_fresh}
use Rattle.lvm_session.specs.Sound.{IsCopy, IsFitting, IsGoing, IsOn, IsSound, IsTold, count_if, is_dark, may_be_fresh, stays_fresh}
use Rattle.lvm_keeps.proofs.CausesLemmas.{answered_when_on, counted_when_on}
use Rattle.lvm_keeps.proofs.Lists.{count_cons}
use Rattle.lvm_keeps.proofs.OwnersLemmas.Rows.{rows_still}
use Rattle.lvm_keeps.proofs.RequestsLemmas.{if_on, shape_still, copy_marked, same_next, kind_by}
use Rattle.lvm_keeps.proofs.SoundLemmas.Whole.{sound_when_on}
use Rattle.lvm_keeps_events.proofs.MissedLemmas.{missed_less}

-- ---- tests that say the same of each

module _ {A : Type 0} (t u : A → Bool) (same : (x : A) → t x ≡ u x) where
  pub any_alike : (xs : List A) → list_any t xs ≡ list_any u xs
  any_alike [] = refl
  any_alike (x ∷ xs) = ap (λ b. b || list_any t xs) (same x) ∙ ap (λ b. u x || b) (any_alike xs)

  pub filter_alike : (xs : List A) → filter t xs ≡ filter u xs
  filter_alike [] = refl
  filter_alike (x ∷ xs) = ap (λ b. if b then x ∷ filter t xs else filter t xs) (same x) ∙ ap (λ (rest : List A). if u x then x ∷ rest else rest) (filter_alike xs)

  pub count_alike : (xs : List A) → count_by t xs ≡ count_by u xs
  count_alike [] = refl
  count_alike (x ∷ xs) = let a = count_cons t x xs in let b = count_cons u x xs in let one : count_if (t x) ≡ count_if (u x) = ap count_if (same x) in let rest = count_alike xs in omega (arith, a, b, one, rest)

-- ---- a status that says the same but for what is dirty

pub record IsAlike (lv : ℕ) (old new : Status) : Type 0 where
  pub stale : SameStale old new
  pub missing : SameMissing old new
  pub dirty : (number : ℕ) → calls_dirty new number ≡ (if number == lv then true else calls_dirty old number)
  pub id : new.id ≡ old.id
  pub rows : (disk : ℕ) → has_row new disk ≡ has_row old disk

module _ (s : State) (sound : IsSound s) (on : s.core.power ≡ power.On) (lv : ℕ) (wanted : Status) (writes : Writes) (like : IsAlike lv s.core.status.wanted wanted)
    (started : (d : ℕ) → has writes.started d ≡ has s.core.status.writes.started d) (status_sound : IsSoundStatus (seen (record s.core.status { wanted = wanted; writes = writes })))
    (row : LvRow) (volume : volume_of s.core.descriptor lv ≡ Some row) (passive : is_passive row.mode ≡ true) (clean : calls_dirty s.core.status.wanted lv ≡ false)
    (some_open : (n : ℕ) → if_open s.core.requests n ≡ n) where
  abbrev core : Core
  core = s.core

  abbrev pub now : State
  now = state s.device (record core { status = record core.status { wanted = wanted; writes = writes } })

  going : IsGoing core
  going = (sound.on on).going

  -- ---- what is judged stays

  pub wanted_same : (p : Pp) → is_wanted_stale now.core p ≡ is_wanted_stale core p
  wanted_same p = like.stale p

  pub missing_same : (d : ℕ) → is_missing now.core d ≡ is_missing core d
  missing_same d = like.missing d

  pub usable_same : (p : Pp) → is_usable now.core p ≡ is_usable core p
  usable_same p = ap (λ b. not (is_stale core p) && not b) (missing_same p.disk)

  sure_same : (p : Pp) → is_sure now.core p ≡ is_sure core p
  sure_same p = ap (λ b. not (is_stale core p) && not b) (wanted_same p)

  replace_same : (p : Pp) → can_replace now.core p ≡ can_replace core p
  replace_same p = ap (λ b. b && not (is_wanted_stale now.core p)) (usable_same p) ∙ ap (λ b. is_usable core p && not b) (wanted_same p)

  kept_same : (r : Request) → is_kept now.core r ≡ is_kept core r
  kept_same r = any_alike (λ (t : Target). is_done t.state && is_sure_at now.core t) (λ (t : Target). is_done t.state && is_sure_at core t) (λ t. ap (λ b. is_done t.state && (not t.moves && b)) (sure_same t.pp)) r.targets.items

  due_same : (r : Request) → is_wanted_due now.core r ≡ is_wanted_due core r
  due_same r =
      ap (λ n. nat_le n (if is_kept now.core r || will_be_kept core r then 0 else 1)) (count_alike (is_failed_and_sure now.core) (is_failed_and_sure core) (λ t. ap (λ b. is_failed t.state && (not t.moves && b)) (sure_same t.pp)) r.targets.items)
      ∙ ap (λ (b : Bool). nat_le (count_by (is_failed_and_sure core) r.targets.items) (if b || will_be_kept core r then 0 else 1)) (kept_same r)

  out_same : (ask : Ask) (p : Pp) → is_left_out now.core ask p ≡ is_left_out core ask p
  out_same ask p = ap (λ b. is_settled core p && b && not (is_caught core (group_in core ask) p)) (wanted_same p)

  -- ---- the requests

  pub dirty_on : (number : ℕ) → calls_dirty core.status.wanted number ≡ true → calls_dirty wanted number ≡ true
  dirty_on number e = like.dirty number ∙ by (number == lv)
    where
      by : (b : Bool) → (if b then true else calls_dirty core.status.wanted number) ≡ true
      by true = refl
      by false = e

  mark_on : (m : Mode) (ask : Ask) → is_wanted_dirty core m ask ≡ true → is_wanted_dirty now.core m ask ≡ true
  mark_on mode.Active ask e = refl
  mark_on mode.Passive ask e = dirty_on (lv_of ask) e
  mark_on mode.Off ask e = refl

  names_on : (m : Mode) (r : Request) → has_names core m r ≡ true → has_names now.core m r ≡ true
  names_on mode.Active r e = e
  names_on mode.Passive r e = refl
  names_on mode.Off r e = refl

  settled_on : (m : Mode) (r : Request) → has_dirty_mark core m r ≡ true → has_dirty_mark now.core m r ≡ true
  settled_on mode.Active r e = refl
  settled_on mode.Passive r e = e
  settled_on mode.Off r e = refl

  one : (x : Open) → IsOpenOne core x → IsOpenOne now.core x
  one x it = record {
    laid = let l = it.laid in record { within = l.within; blocks = l.blocks; most = l.most; id = l.id };
    waits = λ w. let r = it.waits w in let b = r.ready in record {
      shape = shape_still core now.core refl (λ ask. refl) x r.shape;
      ready = record {
        free = b.free;
        recorded = b.recorded;
        wanted = λ past two. mark_on (mode_for core x.request.ask) x.request.ask (b.wanted past two);
        named = λ has_it two. names_on (mode_for core x.request.ask) x.request (b.named has_it two);
        dirty = λ has_it two. settled_on (mode_for core x.request.ask) x.request (b.dirty has_it two);
      };
      judged = λ write. let j = r.judged write in record {
        uncaught = j.uncaught;
        due = λ status. due_same x.request ∙ j.due status;
        missed = λ status. missed_less core now.core x.request (λ p sure. sym (sure_same p) ∙ sure) (j.missed status);
        all = λ begun p among. ap (λ b. is_among (pps_of x.request.targets.items) p || b) (out_same x.request.ask p) ∙ j.all begun p among;
        place = j.place;
      };
    };
    over = it.over;
    still = it.still;
  }

  -- ---- the copy that is open

  bring : (c : OpenCopy) → IsCopy core c → IsCopy now.core c
  bring c k = copy_marked core now.core c refl (same_next core) k (λ free. free) (kind_by core now.core c c.step c.tried c.end refl refl
      (λ is. (λ runs short. let was = is.stale runs short in (was.0, wanted_same c.pp ∙ was.1), λ runs whole. let was = is.clearing runs whole in (was.0, wanted_same c.pp ∙ was.1)))
      (λ is. (
        λ runs whole. wanted_same c.pp ∙ is.clear runs whole,
        any_alike (stays_fresh now.core) (stays_fresh core) (λ p. ap (λ b. not (is_held_stale core p) && not b) (wanted_same p)) (copies_in core.descriptor c.lv c.lp) ∙ is.fresh,
      )) c.moves (λ moves move. move.ends) k.kind)

  sources_same : (c : OpenCopy) → sources_of now.core c ≡ sources_of core c
  sources_same c = filter_alike (λ (p : Pp). not (is_pp p c.pp) && is_usable now.core p) (λ (p : Pp). not (is_pp p c.pp) && is_usable core p) (λ p. ap (λ b. not (is_pp p c.pp) && b) (usable_same p)) (copies_in core.descriptor c.lv c.lp)

  end_same : (c : OpenCopy) → end_of now.core c ≡ end_of core c
  end_same c =
      ap (λ b. if not (is_running c) then None else if b then Some ending.SyncFailed else if is_whole core c then ends_if (is_cleared now.core c) ending.Done else end_by_sources now.core c) (missing_same c.pp.disk)
      ∙ ap (λ b. if not (is_running c) then None else if is_missing core c.pp.disk then Some ending.SyncFailed else if is_whole core c then ends_if (not c.moves && (not (is_held_stale core c.pp) && not b)) ending.Done else end_by_sources now.core c) (wanted_same c.pp)
      ∙ ap (λ (ps : List Pp). if not (is_running c) then None else if is_missing core c.pp.disk then Some ending.SyncFailed else if is_whole core c then ends_if (is_cleared core c) ending.Done
      else if length ps == 0 then Some ending.NoFresh else ends_if (is_idle c.step && is_none (find (λ (p : Pp). not (has c.tried p.disk)) ps)) ending.SyncFailed) (sources_same c)

  reviewed : copy_ends now.core ≡ None
  reviewed = by core.copy going.reviewed
    where
      by : (m : Option OpenCopy) → option_map_or (end_of core) m None ≡ None → option_map_or (end_of now.core) m None ≡ None
      by None e = refl
      by (Some c) e = end_same c ∙ e

  -- ---- what missing disks entail

  behind_same : (copies : List Pp) (p : Pp) → is_left_behind now.core copies p ≡ is_left_behind core copies p
  behind_same copies p =
      ap (λ b. is_among copies p && not (is_stale core p) && b && list_any (can_replace now.core) copies) (missing_same p.disk)
      ∙ ap (λ b. is_among copies p && not (is_stale core p) && is_missing core p.disk && b) (any_alike (can_replace now.core) (can_replace core) replace_same copies)

  entailed_same : (p : Pp) → is_entailed now.core p ≡ is_entailed core p
  entailed_same p = any_alike (λ (r : LvRow). is_entailed_in now.core r p) (λ (r : LvRow). is_entailed_in core r p)
      (λ r. any_alike (λ (lp : ℕ). is_left_behind now.core (copies_of r lp) p) (λ (lp : ℕ). is_left_behind core (copies_of r lp) p) (λ lp. behind_same (copies_of r lp) p) (range_with_len 0 r.lps)) core.descriptor.lvs

  -- ---- the numbers

  fewer_clean : clean_volumes now.core + 1 ≤ clean_volumes core
  fewer_clean = by_rows core.descriptor.lvs volume
    where
      t : LvRow → Bool
      t r = is_passive r.mode && not (calls_dirty core.status.wanted r.number)

      u : LvRow → Bool
      u r = is_passive r.mode && not (calls_dirty wanted r.number)

      less : (r : LvRow) → count_if (u r) ≤ count_if (t r)
      less r = of (calls_dirty core.status.wanted r.number) refl
        where
          zero_if : (a b : Bool) → b ≡ true → count_if (a && not b) ≤ 0
          zero_if a true e = none a
            where
              none : (c : Bool) → count_if (c && false) ≤ 0
              none true = omega arith
              none false = omega arith
          zero_if a false e = not_so e

          at_most : (a b : Bool) → count_if (a && b) ≤ count_if (a && true)
          at_most true true = omega arith
          at_most true false = omega arith
          at_most false b = omega arith

          of : (b : Bool) → calls_dirty core.status.wanted r.number ≡ b → count_if (u r) ≤ count_if (t r)
          of true e = let none = zero_if (is_passive r.mode) (calls_dirty wanted r.number) (dirty_on r.number e) in omega (arith, none)
          of false e = let low = at_most (is_passive r.mode) (not (calls_dirty wanted r.number)) in let same : count_if (t r) ≡ count_if (is_passive r.mode && true) = ap (λ b. count_if (is_passive r.mode && not b)) e in omega (arith, low, same)

      all_less : (rows : List LvRow) → count_by u rows ≤ count_by t rows
      all_less [] = omega arith
      all_less (r ∷ rows) = let a = count_cons u r rows in let b = count_cons t r rows in let one_less = less r in let rest = all_less rows in omega (arith, a, b, one_less, rest)

      by_rows : (rows : List LvRow) → find (λ (r : LvRow). r.number == lv) rows ≡ Some row → count_by u rows + 1 ≤ count_by t rows
      by_rows [] is = absurd (cc is)
      by_rows (r ∷ rows) is = of (r.number == lv) refl (λ e. by_rows rows e) is
        where
          of : (b : Bool) → (r.number == lv) ≡ b → (find (λ (x : LvRow). x.number == lv) rows ≡ Some row → count_by u rows + 1 ≤ count_by t rows)
              → (if b then Some r else find (λ (x : LvRow). x.number == lv) rows) ≡ Some row → count_by u (r ∷ rows) + 1 ≤ count_by t (r ∷ rows)
          of true same rest e =
              let number : r.number ≡ lv = eqb-true r.number lv same in
              let its : is_passive r.mode ≡ true = ap (λ (x : LvRow). is_passive x.mode) (let it : r ≡ row = cc e in it) ∙ passive in
              let was : count_if (t r) ≡ 1 = ap (λ b. count_if (b && not (calls_dirty core.status.wanted r.number))) its ∙ ap (λ n. count_if (not (calls_dirty core.status.wanted n))) number ∙ ap (λ b. count_if (not b)) clean in
              let marked : calls_dirty wanted r.number ≡ true = like.dirty r.number ∙ ap (λ (b : Bool). if b then true else calls_dirty core.status.wanted r.number) same in
              let is_now : count_if (u r) ≡ 0 = ap (λ b. count_if (b && not (calls_dirty wanted r.number))) its ∙ ap (λ b. count_if (not b)) marked in
              let a = count_cons u r rows in let b = count_cons t r rows in let all = all_less rows in omega (arith, was, is_now, a, b, all)
          of false same rest e = let a = count_cons u r rows in let b = count_cons t r rows in let one_less = less r in let more = rest e in omega (arith, a, b, one_less, more)

  pub there_same : (d : ℕ) → is_there now.core d ≡ is_there core d
  there_same d = ap (λ b. is_member core.descriptor d && not b) (missing_same d)

  at_most_one : (b : Bool) → if_so b 1 ≤ 1
  at_most_one true = omega arith
  at_most_one false = omega arith

  fitting : IsFitting now.core
  fitting = let f = sound.fitting in record {
    valid = f.valid;
    id = like.id ∙ f.id;
    rows = λ disk. like.rows disk ∙ f.rows disk;
    group = f.group;
    entries = f.entries;
    notes = f.notes;
    table = f.table;
    most = f.most;
    queue = f.queue;
    a_buffer = f.a_buffer;
    buffers = f.buffers;
    last = f.last;
    room = f.room;
  }

  told : IsTold now.core
  told = let t = sound.told in record { ordered = t.ordered; table = t.table; each = t.each; requests = t.requests }

  owned : AreOwned now.core
  owned (owner.Data id target) = going.owned (owner.Data id target)
  owned (owner.Note d) = going.owned (owner.Note d)
  owned owner.Copy = going.owned owner.Copy
  owned (owner.Status d) = going.owned (owner.Status d) ∙ ap count_if (sym (started d))

  held_or_wanted : (p : Pp) → is_held_stale now.core p || is_wanted_stale now.core p ≡ is_held_stale core p || is_wanted_stale core p
  held_or_wanted p = ap (λ b. is_held_stale core p || b) (wanted_same p)

  keeps_going : IsGoing now.core
  keeps_going = record {
    fitting = fitting;
    told = told;
    status = status_sound;
    owned = owned;
    tickets = going.tickets;
    queue = going.queue;
    pinned = going.pinned;
    requests = all_weaker (IsOpenOne core) (IsOpenOne now.core) one core.requests going.requests;
    copy = if_on (IsCopy core) (IsCopy now.core) bring core.copy going.copy;
    hands = going.hands;
    behind = λ p e. wanted_same p ∙ going.behind p (sym (entailed_same p) ∙ e);
    reviewed = reviewed;
    fresh = λ v lp may.
        any_alike (stays_fresh now.core) (stays_fresh core) (λ p. ap (λ b. not (is_held_stale core p) && not b) (wanted_same p)) (copies_in core.descriptor v lp)
        ∙ going.fresh v lp (sym (any_alike (may_be_fresh now.core) (may_be_fresh core) (λ p. ap (λ b. was_fresh core p || not (is_settled core p && b)) (wanted_same p)) (copies_in core.descriptor v lp)) ∙ may);
    clearings = λ p held clear. going.clearings p held (sym (wanted_same p) ∙ clear);
    numbers =
        let was = going.numbers in
        let fewer = fewer_clean in
        let open_then = some_open (clean_volumes core) in
        let open_now = some_open (clean_volumes now.core) in
        let same = count_alike (λ (r : PvRow). is_there now.core r.disk) (λ (r : PvRow). is_there core r.disk) (λ r. there_same r.disk) core.descriptor.pvs in
        let most = at_most_one (not (same_status wanted (unwrap_or core.status.in_flight core.status.committed))) in
        omega (arith, was, fewer, open_then, open_now, same, most);
  }

  -- ---- causes

  blamed_same : (p : Pp) → is_blamed now.core p ≡ is_blamed core p
  blamed_same p =
      ap (λ b. b || is_wanted_stale now.core p || is_held_stale core p || list_any (fails_on p) core.requests) (missing_same p.disk)
      ∙ ap (λ b. is_missing core p.disk || b || is_held_stale core p || list_any (fails_on p) core.requests) (wanted_same p)

  pub target_caused : (t : Target) → IsCaused s.device core t → IsCaused s.device now.core t
  target_caused t why e = why (sym (ap (λ b. is_failed t.state || (t.usable && b)) (blamed_same t.pp)) ∙ e)

  keeps_on : IsOn now
  keeps_on = let was = sound.on on in record {
    going = keeps_going;
    rows = rows_still core now.core refl refl refl going.owned s.device.flights was.rows;
    caused = all_weaker (AreCaused s.device core) (AreCaused s.device now.core) (λ x all waiting. all_weaker (IsCaused s.device core) (IsCaused s.device now.core) target_caused x.request.targets.items (all waiting)) core.requests was.caused;
    chosen = was.chosen;
  }

  copy_caused : (c : OpenCopy) → IsCausedAmong s (copies_in core.descriptor c.lv c.lp) c → IsCausedAmong now (copies_in core.descriptor c.lv c.lp) c
  copy_caused c its = record { began = its.began; since = its.since; tried = its.tried; own_began = its.own_began; own_since = its.own_since; failed = λ e. sources_on (its.failed e) }
    where
      sources_on : {own : Type 0} → own ⊎ HaveSourcesFailed s (copies_in core.descriptor c.lv c.lp) c → own ⊎ HaveSourcesFailed now (copies_in core.descriptor c.lv c.lp) c
      sources_on (inl own) = inl own
      sources_on (inr all) = inr (record {
        each = λ number p at is. all.each number p at (sym (ap (λ b. not (is_pp p c.pp) && b && not (is_missing now.core p.disk)) (sure_same p) ∙ ap (λ b. not (is_pp p c.pp) && is_sure core p && not b) (missing_same p.disk)) ∙ is);
        number = all.number;
        source = all.source;
        source_is = all.source_is;
        other = all.other;
        one = all.one;
      })

  origin : IsTrueToOrigin now
  origin = let old = sound.origin in record {
    since = old.since;
    votes = old.votes;
    rows = old.rows;
    still_missing = λ d e. missing_same d ∙ old.still_missing d e;
    missing = λ d e. old.missing d (sym (missing_same d) ∙ e);
    stale = λ p e. at_missing p (old.stale p (sym (held_or_wanted p) ∙ e));
  }
    where
      at_missing : (p : Pp) {a b : Type 0} → a ⊎ (is_missing core p.disk ≡ true) ⊎ b → a ⊎ (is_missing now.core p.disk ≡ true) ⊎ b
      at_missing p (inl x) = inl x
      at_missing p (inr (inl gone)) = inr (inl (missing_same p.disk ∙ gone))
      at_missing p (inr (inr x)) = inr (inr x)

  pub keeps : IsSound now
  keeps = sound_when_on s now refl refl sound on fitting told keeps_on (λ n. sound.none_lost (ap is_dark on) n) (all_weaker (AreCounted s) (AreCounted now) (counted_when_on s now refl) core.requests sound.counted)
      (all_weaker (IsAnswered s) (IsAnswered now) (answered_when_on s now refl on) core.requests sound.answered)
      (if_on (λ (c : OpenCopy). IsCausedAmong s (copies_in core.descriptor c.lv c.lp) c) (λ (c : OpenCopy). IsCausedAmong now (copies_in core.descriptor c.lv c.lp) c) copy_caused core.copy sound.copy) origin

-- ---- what is wanted so

-- an update in flight stays, since one of its writes is owed, or it isn't committed
not_closed : (u : Updates) (wanted : Status) → IsSoundStatus u → u.in_flight ≡ None ⊎ (is_held u && not (is_owed u) ≡ false) → closed (record u { wanted = wanted }) ≡ record u { wanted = wanted }
not_closed u wanted sound (inr open_still) = ap (λ (b : Bool). if b then record u { wanted = wanted; in_flight = None; unstarted = λ d. false; started = λ d. false; written = λ d. false; failed = λ d. false } else record u { wanted = wanted }) open_still
not_closed u wanted sound (inl none) = ap (λ (b : Bool). if b then record u { wanted = wanted; in_flight = None; unstarted = λ d. false; started = λ d. false; written = λ d. false; failed = λ d. false } else record u { wanted = wanted }) (by (is_held u) refl)
  where
    by : (b : Bool) → is_held u ≡ b → b && not (is_owed u) ≡ false
    by false is = refl
    by true is = absurd (let e : None ≡ Some u.committed = sym none ∙ sound.held is in cc)

pub stays_open : (u : Updates) → IsSoundStatus u → u.in_flight ≡ None ⊎ (is_held u && not (is_owed u) ≡ false)
stays_open u sound = by u.in_flight refl
  where
    of : (is_owed u ≡ true) ⊎ (is_held u ≡ false) → is_held u && not (is_owed u) ≡ false
    of (inl owed) = ap (λ b. is_held u && not b) owed ∙ and_false (is_held u)
      where
        and_false : (a : Bool) → a && false ≡ false
        and_false true = refl
        and_false false = refl
    of (inr none) = ap (λ b. b && not (is_owed u)) none

    by : (m : Option Status) → u.in_flight ≡ m → u.in_flight ≡ None ⊎ (is_held u && not (is_owed u) ≡ false)
    by None is = inl is
    by (Some t) is = inr (of (sound.open_still t is))

-- only what is wanted changes, and what is dirty of it
pub record IsMarked (core : Core) (lv : ℕ) (next : Stored) : Type 0 where
  pub like : IsAlike lv core.status.wanted next.wanted
  pub is : next ≡ record core.status { wanted = next.wanted; writes = next.writes }
  pub started : (d : ℕ) → has next.writes.started d ≡ has core.status.writes.started d
  pub unstarted : (d : ℕ) → has next.writes.unstarted d ≡ has core.status.writes.unstarted d
  pub sound : IsSoundStatus (seen next)

pub marked : (core : Core) (lv : ℕ) (next : Stored) → IsGoing core → WantsDirty lv core.status next → IsMarked core lv next
marked core lv next going wants = record {
  like = record { stale = b.stale; missing = b.missing; dirty = b.dirty; id = b.members.id; rows = rows };
  is = ap (λ (g : Descriptor). record next { group = g }) (ap (λ (u : Updates). u.group) all)
      ∙ ap (λ (c : Status). record next { group = core.status.group; committed = c }) (ap (λ (u : Updates). u.committed) all)
      ∙ ap (λ (m : Option Status). record next { group = core.status.group; committed = core.status.committed; in_flight = m }) (ap (λ (u : Updates). u.in_flight) all)
      ∙ ap (λ (x : Stamp). record next { group = core.status.group; committed = core.status.committed; in_flight = core.status.in_flight; stamp = x }) (ap (λ (u : Updates). u.stamp) all);
  started = λ d. ap (λ (u : Updates). u.started d) all;
  unstarted = λ d. ap (λ (u : Updates). u.unstarted d) all;
  sound = steps_stay_sound (Want (change.Dirty lv)) (seen core.status) (seen next) going.status (b, wants.rest);
}
  where
    b : BecomesDirty lv true core.status.wanted next.wanted
    b = wants.wants

    all : seen next ≡ record (seen core.status) { wanted = next.wanted }
    all = wants.rest ∙ not_closed (seen core.status) next.wanted going.status (stays_open (seen core.status) going.status)

    rows : (disk : ℕ) → has_row next.wanted disk ≡ has_row core.status.wanted disk
    rows disk = by_disks next.wanted.rows core.status.wanted.rows b.members.disks
      where
        by_disks : (xs ys : List StatusRow) → map (λ (r : StatusRow). r.disk) xs ≡ map (λ (r : StatusRow). r.disk) ys → list_any (λ (r : StatusRow). r.disk == disk) xs ≡ list_any (λ (r : StatusRow). r.disk == disk) ys
        by_disks xs ys same = sym (mapped xs) ∙ ap (λ (ns : List ℕ). list_any (λ n. n == disk) ns) same ∙ mapped ys
          where
            mapped : (zs : List StatusRow) → list_any (λ n. n == disk) (map (λ (r : StatusRow). r.disk) zs) ≡ list_any (λ (r : StatusRow). r.disk == disk) zs
            mapped [] = refl
            mapped (z ∷ zs) = ap (λ c. z.disk == disk || c) (mapped zs)

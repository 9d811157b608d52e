-- A write of the status is started.
use Rattle.std.proofs.Common.{◌≡◌, ◌<◌, ◌+◌, ◌^◌, ◌⊎◌, inl, inr, ◌==◌, ◌&&◌, ◌||◌, ℕ, Bool, true, false, not, if◌then◌else◌, List, [], ◌∷◌, ◌++◌, Option, Some, None, length, slice_get, slice_set, refl, sym, ◌∙◌, ap, subst, arith}
use Rattle.std.specs.Prelude.{bytes_eq, count_by, is_none, slice_index_or, unwrap_or}
use Rattle.std.specs.List.{list_any}
use Rattle.std.specs.Option.{option_map_or}
use Rattle.std.proofs.lemmas.Bool.{eq-eqb, eqb-true}
use Rattle.std.proofs.lemmas.Slice.Eq.{bytes_eq-Decides}
use Rattle.lvm_num.specs.declared.descriptor.Descriptor.{Descriptor}
use Rattle.lvm_num.specs.declared.descriptor.Mode.{Mode}
use Rattle.lvm_num.specs.declared.descriptor.Mode.TheVariants as mode
use Rattle.lvm_num.specs.declared.descriptor.PvRow.{PvRow}
use Rattle.lvm_num.specs.declared.place.Pp.{Pp}
use Rattle.lvm_num.specs.declared.record.Kind.TheVariants as kind
use Rattle.lvm_num.specs.declared.record.Stamp.{Stamp}
use Rattle.lvm_num.specs.declared.status.Status.{Status}
use Rattle.lvm_num.specs.declared.status.StatusRow.{StatusRow}
use Rattle.lvm_num.specs.Descriptor.{is_member}
use Rattle.lvm_num.specs.Disks.{has, IsLowest}
use Rattle.lvm_num.specs.Note.{note_bytes}
use Rattle.lvm_num.specs.Record.{frame, slot_start}
use Rattle.lvm_rec.specs.Homes.{next_slot}
use Rattle.lvm_num.specs.Status.{calls_dirty, calls_stale}
use Rattle.lvm_num.specs.StatusBytes.{status_bytes}
use Rattle.lvm_num.proofs.Booleans.{not_so, four_hold, if_itself, three_hold}
use Rattle.lvm_num.proofs.Lists.{any_as, all_weaker, length_set}
use Rattle.lvm_disk.specs.Device.{Device, Flight, Range}
use Rattle.lvm_disk.specs.Steps.{IsNewTicket, Starts}
use Rattle.lvm_path.specs.declared.request.Phase.{Phase}
use Rattle.lvm_path.specs.declared.request.Phase.TheVariants as phase
use Rattle.lvm_path.specs.declared.request.Request.{Request}
use Rattle.lvm_path.specs.declared.ask.Ask.{Ask}
use Rattle.lvm_path.specs.Asks.{lv_of}
use Rattle.lvm_path.specs.Targets.{is_failed}
use Rattle.lvm_status.specs.declared.writes.Writes.{Writes}
use Rattle.lvm_status.specs.Update.{Stored, Updates, members_there, seen}
use Rattle.lvm_status.specs.Calls.{with_update, with_start as with_write_start}
use Rattle.lvm_status.specs.Runs.{NextWrite, Start, IsSoundStatus}
use Rattle.lvm_status.proofs.RunsLemmas.Sound.{steps_stay_sound}
use Rattle.lvm_session.specs.declared.bringing.CopyEnd.TheVariants as ending
use Rattle.lvm_session.specs.declared.bringing.OpenCopy.{OpenCopy}
use Rattle.lvm_session.specs.declared.flown.Flown.{Flown}
use Rattle.lvm_session.specs.declared.flown.Owner.{Owner}
use Rattle.lvm_session.specs.declared.flown.Owner.TheVariants as owner
use Rattle.lvm_session.specs.declared.open.Open.{Open}
use Rattle.lvm_session.specs.declared.open.Power.TheVariants as power
use Rattle.lvm_session.specs.State.{Core, State, state}
use Rattle.lvm_session.specs.Judging.{copies_in, group_in, has_dirty_mark, has_names, is_caught, is_missing, is_running, is_settled, is_stale, is_wanted_stale, pps_of}
use Rattle.lvm_session.specs.Bringing.{copy_ends, end_by_sources, end_of, ends_if, is_whole}
use Rattle.lvm_session.specs.Enabled.{is_status_due, same_row, same_rows, same_status}
use Rattle.lvm_session.specs.Events.{PutsInFlight, IsStatusWrite, flown}
use Rattle.lvm_session.specs.Marks.{is_among}
use Rattle.lvm_session.specs.Left.{if_so, updates_left}
use Rattle.lvm_session.specs.Owners.{AreOwned, IsStatusOf, IsTransferOf, flies, same_owner}
use Rattle.lvm_session.specs.Requests.{IsJudged, IsOpenOne, MayBeServed, IsShaped, has_record, is_past_held, is_wanted_dirty, mode_for}
use Rattle.lvm_session.specs.Causes.{AreCaused, IsCaused, IsTrueToOrigin, fails_on, is_blamed, is_held_stale, was_fresh}
use Rattle.lvm_session.specs.Sound.{IsCopy, IsFitting, IsGoing, IsOn, IsSound, IsTold, count_if, has_number, is_dark, may_be_fresh, out_with, stays_fresh}
use Rattle.lvm_keeps.specs.Keeps.{StatusStartKeeps}
use Rattle.lvm_keeps.proofs.CausesLemmas.{copies_still}
use Rattle.lvm_keeps.proofs.SoundLemmas.Fitting.{still_fits}
use Rattle.lvm_keeps.proofs.OwnersLemmas.Launching.{flights_push, none_more, owners_push, rows_push, taken, tickets_push}
use Rattle.lvm_keeps.proofs.OwnersLemmas.Rows.{all_fly, data_still, rows_by, step_still}
use Rattle.lvm_keeps.proofs.Small.{both}
use Rattle.lvm_keeps.proofs.RequestsLemmas.{if_on, shape_still, copy_marked, same_next, kind_by}
use Rattle.lvm_keeps.proofs.SoundLemmas.Whole.{sound_still, told_still}
use Rattle.lvm_keeps_events.proofs.SoundLemmas.Frame.{launched}
use Rattle.lvm_keeps_events.proofs.Lists.{any_on}

-- ---- a status says the same as itself

bytes_own : (bytes : List ℕ) → bytes_eq bytes bytes ≡ true
bytes_own bytes = (bytes_eq-Decides bytes bytes).1 refl

row_own : (row : StatusRow) → same_row row row ≡ true
row_own row = three_hold (row.disk == row.disk) (if row.missing then row.missing else not row.missing) (bytes_eq row.stale row.stale) (eq-eqb row.disk row.disk refl) (if_itself row.missing) (bytes_own row.stale)

rows_own : (rows : List StatusRow) → same_rows rows rows ≡ true
rows_own [] = refl
rows_own (row ∷ rows) = ap (λ b. b && same_rows rows rows) (row_own row) ∙ rows_own rows

pub status_own : (x : Status) → same_status x x ≡ true
status_own x = four_hold (x.id == x.id) (if x.big then x.big else not x.big) (bytes_eq x.dirty x.dirty) (same_rows x.rows x.rows) (eq-eqb x.id x.id refl) (if_itself x.big) (bytes_own x.dirty) (rows_own x.rows)

-- ---- lists

-- ---- which status is in flight

-- it was in flight, under its stamp; or nothing was, and now what is wanted is, under the next one
abbrev pub Flies : Core → Status → Stamp → Type 0
Flies core status stamp = ((core.status.in_flight ≡ Some status) × (stamp ≡ core.status.stamp))
    ⊎ ((core.status.in_flight ≡ None) × (status ≡ core.status.wanted) × (stamp ≡ record core.status.stamp { seq = core.status.stamp.seq + 1 }) × (same_status core.status.wanted core.status.committed ≡ false))

module _ (s : State) (sound : IsSound s) (on : s.core.power ≡ power.On) (disk : ℕ) (status : Status) (writes : Writes) (stamp : Stamp) (was : Flies s.core status stamp)
    (started : (d : ℕ) → has writes.started d ≡ (has s.core.status.writes.started d || d == disk)) (none : has s.core.status.writes.started disk ≡ false)
    (status_sound : IsSoundStatus (seen (record s.core.status { in_flight = Some status; writes = writes; stamp = stamp })))
    (f : Flight) (long : length f.buf.sectors ≡ 256) (free : slice_get s.core.pool f.buf.number ≡ Some false) (fresh : IsNewTicket f.ticket s.device.flights) (starts : ℕ → ℕ) (wrote : Option (List Range)) where
  abbrev core : Core
  core = s.core

  abbrev row : Flown
  row = flown f.ticket f.disk (owner.Status disk)

  abbrev pool : List Bool
  pool = slice_set core.pool f.buf.number true

  abbrev device : Device
  device = launched s.device f starts wrote

  abbrev flown_status : Stored
  flown_status = record core.status { in_flight = Some status; writes = writes; stamp = stamp }

  abbrev now : State
  now = state device (record core { flying = core.flying ++ row ∷ []; pool = pool; status = flown_status })

  going : IsGoing core
  going = (sound.on on).going

  -- ---- what is stale

  abbrev was_in_flight : Status
  was_in_flight = unwrap_or core.status.in_flight core.status.committed

  -- the status in flight is the same, or what is committed was taken for it
  is_in_flight : ((was_in_flight ≡ status) ⊎ ((was_in_flight ≡ core.status.committed) × (status ≡ core.status.wanted)))
  is_in_flight = by was
    where
      by : Flies core status stamp → ((was_in_flight ≡ status) ⊎ ((was_in_flight ≡ core.status.committed) × (status ≡ core.status.wanted)))
      by (inl flew) = inl (ap (λ m. unwrap_or m core.status.committed) flew.0)
      by (inr new) = inr (ap (λ m. unwrap_or m core.status.committed) new.0, new.1)

  -- a test of it, in which it may be taken for what is wanted
  module _ (t : Status → Bool) (Same : Bool → Bool → Type 0) (same : (b : Bool) → Same b b) (taken_for : Same (t core.status.committed) (t core.status.wanted)) where
    like : Same (t was_in_flight) (t status)
    like = by is_in_flight
      where
        by : ((was_in_flight ≡ status) ⊎ ((was_in_flight ≡ core.status.committed) × (status ≡ core.status.wanted))) → Same (t was_in_flight) (t status)
        by (inl is) = subst (λ x. Same (t x) (t status)) (sym is) (same (t status))
        by (inr is) = subst (λ x. Same (t x) (t status)) (sym is.0) (subst (λ x. Same (t core.status.committed) (t x)) (sym is.1) taken_for)

  module _ (p : Pp) where
    settled_on : is_settled core p && is_wanted_stale core p ≡ is_settled now.core p && is_wanted_stale core p
    settled_on = like (λ x. calls_stale x p) (λ a b. (is_stale core p && a) && is_wanted_stale core p ≡ (is_stale core p && b) && is_wanted_stale core p) (λ b. refl) (by (is_stale core p) (is_wanted_stale core p))
      where
        by : (c w : Bool) → (c && c) && w ≡ (c && w) && w
        by true true = refl
        by true false = refl
        by false w = refl

    held_on : is_held_stale core p || is_wanted_stale core p ≡ is_held_stale now.core p || is_wanted_stale core p
    held_on = like (λ x. calls_stale x p) (λ a b. (is_stale core p || a) || is_wanted_stale core p ≡ (is_stale core p || b) || is_wanted_stale core p) (λ b. refl) (by (is_stale core p) (is_wanted_stale core p))
      where
        by : (c w : Bool) → (c || c) || w ≡ (c || w) || w
        by true w = refl
        by false true = refl
        by false false = refl

  -- ---- the requests

  dirty_on : (m : Mode) (r : Request) → is_wanted_dirty core m r.ask ≡ true → has_dirty_mark core m r ≡ true → has_dirty_mark now.core m r ≡ true
  dirty_on mode.Active r wanted mark = refl
  dirty_on mode.Passive r wanted mark =
      like (λ x. calls_dirty x (lv_of r.ask)) (λ a b. calls_dirty core.status.committed (lv_of r.ask) && a ≡ true → calls_dirty core.status.committed (lv_of r.ask) && b ≡ true) (λ b e. e)
      (λ e. by (calls_dirty core.status.committed (lv_of r.ask)) (calls_dirty core.status.wanted (lv_of r.ask)) wanted e) mark
    where
      by : (c w : Bool) → w ≡ true → c && c ≡ true → c && w ≡ true
      by true w is e = is
      by false w is e = not_so e
  dirty_on mode.Off r wanted mark = refl

  wanted_on : (m : Mode) (ask : Ask) → is_wanted_dirty core m ask ≡ true → is_wanted_dirty now.core m ask ≡ true
  wanted_on mode.Active ask e = refl
  wanted_on mode.Passive ask e = e
  wanted_on mode.Off ask e = refl

  names_on : (m : Mode) (r : Request) → has_names core m r ≡ true → has_names now.core m r ≡ true
  names_on mode.Active r e = e
  names_on mode.Passive r e = refl
  names_on mode.Off r e = refl

  past_held : (p : Phase) → has_record p ≡ true → is_past_held p ≡ true
  past_held phase.Held e = not_so e
  past_held phase.WantEntry e = refl
  past_held phase.WantRecord e = refl
  past_held phase.Data e = refl
  past_held phase.WantStatus e = refl
  past_held phase.Landed e = not_so e

  ready_on : (r : Request) → MayBeServed core r → MayBeServed now.core r
  ready_on r b = record {
    free = b.free;
    recorded = b.recorded;
    wanted = λ past two. wanted_on (mode_for core r.ask) r.ask (b.wanted past two);
    named = λ has_it two. names_on (mode_for core r.ask) r (b.named has_it two);
    dirty = λ has_it two. dirty_on (mode_for core r.ask) r (b.wanted (past_held r.phase has_it) two) (b.dirty has_it two);
  }

  shape_on : (x : Open) → IsShaped core x → IsShaped now.core x
  shape_on x a = shape_still core now.core refl (λ ask. refl) x a

  judged_on : (x : Open) → IsJudged core x → IsJudged now.core x
  judged_on x j = record {
    uncaught = j.uncaught;
    due = j.due;
    missed = j.missed;
    all = λ begun p among. sym (ap (λ b. is_among (pps_of x.request.targets.items) p || (b && not (is_caught core (group_in core x.request.ask) p))) (settled_on p)) ∙ j.all begun p among;
    place = j.place;
  }

  one : (x : Open) → IsOpenOne core x → IsOpenOne now.core x
  one x it = record {
    laid = let l = it.laid in record { within = l.within; blocks = l.blocks; most = l.most; id = l.id };
    waits = λ w. let r = it.waits w in record { shape = shape_on x r.shape; ready = ready_on x.request r.ready; judged = λ write. judged_on x (r.judged write) };
    over = it.over;
    still = it.still;
  }

  -- ---- the rest

  fitting : IsFitting now.core
  fitting = let was_fit = sound.fitting in still_fits core now.core was_fit refl was_fit.entries (λ d. refl) was_fit.table (length_set core.pool f.buf.number true) was_fit.room

  told : IsTold now.core
  told = told_still core now.core refl sound.told

  stays : (p : Pp) → stays_fresh core p ≡ stays_fresh now.core p
  stays p = by (is_held_stale core p) (is_held_stale now.core p) (is_wanted_stale core p) (held_on p)
    where
      by : (a b w : Bool) → a || w ≡ b || w → not a && not w ≡ not b && not w
      by true true w e = refl
      by false false w e = refl
      by true false true e = refl
      by true false false e = absurd cc
      by false true true e = refl
      by false true false e = absurd cc

  bring : (c : OpenCopy) → IsCopy core c → IsCopy now.core c
  bring c k = copy_marked core now.core c refl (same_next core) k (λ free. free) (kind_by core now.core c c.step c.tried c.end refl refl
      (λ is. (
        λ runs short.
            let both_stale = is.stale runs short in
            both (is_settled now.core c.pp) (is_wanted_stale core c.pp) (sym (settled_on c.pp) ∙ ap (λ b. b && is_wanted_stale core c.pp) both_stale.0 ∙ both_stale.1),
        is.clearing,
      ))
      (λ is. (is.clear, any_on (stays_fresh core) (stays_fresh now.core) (λ p e. sym (stays p) ∙ e) (copies_in core.descriptor c.lv c.lp) is.fresh)) c.moves (λ moves move. move.ends) k.kind)

  -- ---- whose it is

  owned : AreOwned now.core
  owned (owner.Data id target) = none_more (owner.Data id target) row core.flying refl ∙ going.owned (owner.Data id target)
  owned (owner.Note d) = none_more (owner.Note d) row core.flying refl ∙ going.owned (owner.Note d)
  owned owner.Copy = none_more owner.Copy row core.flying refl ∙ going.owned owner.Copy
  owned (owner.Status d) = by (d == disk) refl
    where
      or_false : (a : Bool) → a || false ≡ a
      or_false true = refl
      or_false false = refl

      or_true : (a : Bool) → a || true ≡ true
      or_true true = refl
      or_true false = refl

      by : (b : Bool) → (d == disk) ≡ b → count_by (λ (g : Flown). same_owner (owner.Status d) g.owner) now.core.flying ≡ count_if (has writes.started d)
      by false other = none_more (owner.Status d) row core.flying other ∙ going.owned (owner.Status d) ∙ ap count_if (sym (started d ∙ ap (λ b. has core.status.writes.started d || b) other ∙ or_false (has core.status.writes.started d)))
      by true is =
          let more = owners_push (owner.Status d) row core.flying in
          let mine : count_if (d == disk) ≡ 1 = ap count_if is in
          let zero : count_by (λ (g : Flown). same_owner (owner.Status d) g.owner) core.flying ≡ 0 = going.owned (owner.Status d) ∙ ap (λ e. count_if (has core.status.writes.started e)) (eqb-true d disk is) ∙ ap count_if none in
          let it : count_if (has writes.started d) ≡ 1 = ap count_if (started d ∙ ap (λ b. has core.status.writes.started d || b) is ∙ or_true (has core.status.writes.started d)) in
          omega (arith, more, mine, zero, it)

  same_epoch : stamp.epoch ≡ core.status.stamp.epoch
  same_epoch = by was
    where
      by : Flies core status stamp → stamp.epoch ≡ core.status.stamp.epoch
      by (inl flew) = ap (λ (x : Stamp). x.epoch) flew.1
      by (inr new) = ap (λ (x : Stamp). x.epoch) new.2

  status_on : (d : ℕ) (g : Flight) → has core.status.writes.started d ≡ true → IsStatusOf core d g → IsStatusOf now.core d g
  status_on d g fly of = by was
    where
      by : Flies core status stamp → IsStatusOf now.core d g
      by (inl flew) =
          let same : of.status ≡ status = (let e : Some of.status ≡ Some status = sym of.flies ∙ flew.0 in cc e) in
          let w = subst (λ x. IsStatusWrite core x d g) same of.writes in
          record {
            status = status;
            flies = refl;
            writes = record {
              disk_is = w.disk_is;
              first = w.first;
              count = w.count;
              write = w.write;
              carries = λ k low. w.carries k low ∙ ap (λ (x : Stamp). Some (frame kind.Status x (status_bytes status) k)) (sym flew.1);
            };
          }
      by (inr new) = not_so (sym (going.status.idle new.0 d).1 ∙ fly)

  transfer_on : (who : Owner) (g : Flight) → flies core who ≡ true → IsTransferOf core who g → IsTransferOf now.core who g
  transfer_on (owner.Data id target) g fly of = data_still core now.core refl id target g of
  transfer_on (owner.Status d) g fly of = status_on d g fly of
  transfer_on (owner.Note d) g fly of = record { note = of.note; flies = of.flies; disk_is = of.disk_is; first = of.first; count = of.count; write = of.write; carries = of.carries ∙ ap (λ e. Some (note_bytes (record { stamp = e; entries = of.note.items }))) (sym same_epoch) }
  transfer_on owner.Copy g fly of = (of.0, of.1, step_still core now.core refl of.0.step of.0 g of.2)

  -- ---- the copy and its end, and the numbers

  reviewed : copy_ends now.core ≡ None
  reviewed = by core.copy going.reviewed
    where
      by : (m : Option OpenCopy) → option_map_or (end_of core) m None ≡ None → option_map_or (end_of now.core) m None ≡ None
      by None e = refl
      by (Some c) e = sym (ap (λ b. if not (is_running c) then None else if is_missing core c.pp.disk then Some ending.SyncFailed else if is_whole core c then ends_if (not c.moves && b) ending.Done else end_by_sources core c) (stays c.pp)) ∙ e

  numbers : stamp.seq + updates_left now.core < 2 ^ 32
  numbers = by was
    where
      by : Flies core status stamp → stamp.seq + updates_left now.core < 2 ^ 32
      by (inl flew) =
          let low = going.numbers in
          let seq : stamp.seq ≡ core.status.stamp.seq = ap (λ (x : Stamp). x.seq) flew.1 in
          let same : if_so (not (same_status core.status.wanted status)) 1 ≡ if_so (not (same_status core.status.wanted was_in_flight)) 1 = ap (λ m. if_so (not (same_status core.status.wanted (unwrap_or m core.status.committed))) 1) (sym flew.0) in
          omega (arith, low, seq, same)
      by (inr new) =
          let low = going.numbers in
          let seq : stamp.seq ≡ core.status.stamp.seq + 1 = ap (λ (x : Stamp). x.seq) new.2 in
          let zero : if_so (not (same_status core.status.wanted status)) 1 ≡ 0 = ap (λ x. if_so (not (same_status core.status.wanted x)) 1) new.1 ∙ ap (λ b. if_so (not b) 1) (status_own core.status.wanted) in
          let one_more : if_so (not (same_status core.status.wanted was_in_flight)) 1 ≡ 1 = ap (λ m. if_so (not (same_status core.status.wanted (unwrap_or m core.status.committed))) 1) new.0 ∙ ap (λ b. if_so (not b) 1) new.3 in
          omega (arith, low, seq, zero, one_more)

  keeps_going : IsGoing now.core
  keeps_going = record {
    fitting = fitting;
    told = told;
    status = status_sound;
    owned = owned;
    tickets = tickets_push core row core.flying s.device.flights (sound.on on).rows fresh going.tickets;
    queue = going.queue;
    pinned = going.pinned;
    requests = all_weaker (IsOpenOne core) (IsOpenOne now.core) one core.requests going.requests;
    copy = if_on (IsCopy core) (IsCopy now.core) bring core.copy going.copy;
    hands = λ n. let low = going.hands n in let more = taken core.pool f.buf.number n free in omega (arith, low, more);
    behind = going.behind;
    reviewed = reviewed;
    fresh = λ lv lp may.
        sym (any_as (stays_fresh core) (stays_fresh now.core) stays (copies_in core.descriptor lv lp))
        ∙ going.fresh lv lp (any_as (may_be_fresh core) (may_be_fresh now.core) (λ p. ap (λ b. was_fresh core p || not b) (settled_on p)) (copies_in core.descriptor lv lp) ∙ may);
    clearings = λ p held clear. going.clearings p (by (is_held_stale core p) (is_held_stale now.core p) (is_wanted_stale core p) (held_on p) held clear) clear;
    numbers = numbers;
  }
    where
      by : (a b w : Bool) → a || w ≡ b || w → b ≡ true → w ≡ false → a ≡ true
      by true b w e held clear = refl
      by false b true e held clear = not_so (sym clear)
      by false true false e held clear = e
      by false false false e held clear = held

  -- ---- causes

  blamed : (p : Pp) → is_blamed core p ≡ is_blamed now.core p
  blamed p = by (is_missing core p.disk) (is_wanted_stale core p) (is_held_stale core p) (is_held_stale now.core p) (list_any (fails_on p) core.requests) (held_on p)
    where
      by : (m w a b x : Bool) → a || w ≡ b || w → (m || w || a || x) ≡ (m || w || b || x)
      by true w a b x e = refl
      by false true a b x e = refl
      by false false true true x e = refl
      by false false false false x e = refl
      by false false true false x e = absurd cc
      by false false false true x e = absurd cc

  keeps_on : (first : IsStatusOf now.core disk f) → IsOn now
  keeps_on its = let old = sound.on on in record {
    going = keeps_going;
    rows = rows_push now.core row f (record { ticket = refl; long = long; disk = refl; own = its }) core.flying s.device.flights (rows_by core now.core (λ who. flies core who ≡ true) transfer_on core.flying s.device.flights (all_fly core going.owned) old.rows);
    caused = all_weaker (AreCaused s.device core) (AreCaused device now.core) (λ x all waiting. all_weaker (IsCaused s.device core) (IsCaused device now.core) (λ t why e. why (ap (λ b. is_failed t.state || (t.usable && b)) (blamed t.pp) ∙ e)) x.request.targets.items (all waiting)) core.requests old.caused;
    chosen = old.chosen;
  }

  -- ---- all of it

  out : (n : ℕ) → out_with device now.core n ≡ count_if (slice_index_or pool n false)
  out n =
      let all = sound.none_lost (ap is_dark on) n in
      let more = taken core.pool f.buf.number n free in
      let one_more = flights_push (λ (g : Flight). has_number n g.buf) f s.device.flights in
      omega (arith, all, more, one_more)

  origin : IsTrueToOrigin now
  origin = let old = sound.origin in record { since = old.since; votes = old.votes; rows = old.rows; still_missing = old.still_missing; missing = old.missing; stale = λ p e. old.stale p (held_on p ∙ e) }

  pub keeps : IsStatusOf now.core disk f → IsSound now
  keeps its = sound_still s now refl refl sound on refl fitting told (keeps_on its) out (copies_still s now refl core.copy sound.copy) origin

-- ---- the update that is in flight

-- of what is committed and wanted nothing has changed
pub record IsUnderWay (core : Core) (next : Stored) (disk : ℕ) (status : Status) : Type 0 where
  pub group : next.group ≡ core.status.group
  pub committed : next.committed ≡ core.status.committed
  pub wanted : next.wanted ≡ core.status.wanted
  pub was : Flies core status next.stamp
  pub started : (d : ℕ) → has next.writes.started d ≡ (has core.status.writes.started d || d == disk)
  pub none : has core.status.writes.started disk ≡ false
  -- one write less is to be started, to a member
  pub member : is_member core.status.group disk ≡ true
  pub gone : has next.writes.unstarted disk ≡ false
  pub fewer : (core.status.in_flight ≡ None) ⊎ ((has core.status.writes.unstarted disk ≡ true) × ((d : ℕ) → has next.writes.unstarted d ≡ true → has core.status.writes.unstarted d ≡ true))
  pub sound : IsSoundStatus (seen next)

not_self : (a : Bool) (disk : ℕ) → a && not (disk == disk) ≡ false
not_self a disk = ap (λ b. a && not b) (eq-eqb disk disk refl) ∙ and_false a
  where
    and_false : (b : Bool) → b && false ≡ false
    and_false true = refl
    and_false false = refl

pub under_way : (core : Core) (next : Stored) (disk : ℕ) (status : Status) (begun : Stored) → IsGoing core → is_status_due core ≡ true → PutsInFlight core.status begun → IsLowest (seen begun).unstarted (Some disk)
    → seen next ≡ with_write_start (seen begun) (Some disk) → next.in_flight ≡ Some status → IsUnderWay core next disk status
under_way base next disk status begun sure due (inl flew) lowest started its_flight = record {
  group = ap (λ (u : Updates). u.group) all;
  committed = ap (λ (u : Updates). u.committed) all;
  wanted = ap (λ (u : Updates). u.wanted) all;
  was = inl (sym (ap (λ (u : Updates). u.in_flight) all) ∙ its_flight, ap (λ (u : Updates). u.stamp) all);
  started = λ d. ap (λ (u : Updates). u.started d) all;
  member = (both (is_member base.status.group disk) _ (sure.status.unstarted disk was_left).0).0;
  gone = ap (λ (u : Updates). u.unstarted disk) all ∙ not_self (has base.status.writes.unstarted disk) disk;
  fewer = inr (was_left, λ d is. (both (has base.status.writes.unstarted d) (not (d == disk)) (sym (ap (λ (u : Updates). u.unstarted d) all) ∙ is)).0);
  none = (sure.status.unstarted disk (subst (λ (x : Stored). has x.writes.unstarted disk ≡ true) flew.1 lowest.0)).1;
  sound = steps_stay_sound (NextWrite disk) (seen base.status) (seen next) sure.status (subst (λ (x : Stored). IsLowest (seen x).unstarted (Some disk)) flew.1 lowest, all);
}
  where
    was_left : has base.status.writes.unstarted disk ≡ true
    was_left = subst (λ (x : Stored). has x.writes.unstarted disk ≡ true) flew.1 lowest.0

    all : seen next ≡ with_write_start (seen base.status) (Some disk)
    all = started ∙ ap (λ (x : Stored). with_write_start (seen x) (Some disk)) flew.1
under_way base next disk status begun sure due (inr new) lowest started its_flight = record {
  group = ap (λ (u : Updates). u.group) all;
  committed = ap (λ (u : Updates). u.committed) all;
  wanted = ap (λ (u : Updates). u.wanted) all;
  was = inr (new.0.none, (let e : Some base.status.wanted ≡ Some status = sym (ap (λ (u : Updates). u.in_flight) all) ∙ its_flight in cc e), ap (λ (u : Updates). u.stamp) all, differs);
  started = λ d. ap (λ (u : Updates). u.started d) all ∙ ap (λ b. b || d == disk) (sym (sure.status.idle new.0.none d).1);
  none = (sure.status.idle new.0.none disk).1;
  member = (both (is_member base.status.group disk) _ (sym (ap (λ (u : Updates). u.unstarted disk) new.1) ∙ lowest.0)).0;
  gone = ap (λ (u : Updates). u.unstarted disk) all ∙ not_self (members_there base.status.group base.status.wanted disk) disk;
  fewer = inl new.0.none;
  sound = steps_stay_sound (NextWrite disk) (seen begun) (seen next) (steps_stay_sound Start (seen base.status) (seen begun) sure.status (new.0, new.1)) (lowest, started);
}
  where
    all : seen next ≡ with_write_start (with_update (seen base.status)) (Some disk)
    all = started ∙ ap (λ (u : Updates). with_write_start u (Some disk)) new.1

    differs : same_status base.status.wanted base.status.committed ≡ false
    differs = by (same_status base.status.wanted base.status.committed) (sym (ap (λ m. if is_none m then not (same_status base.status.wanted base.status.committed) else list_any (λ (r : PvRow). has base.status.writes.unstarted r.disk) base.status.group.pvs) new.0.none) ∙ due)
      where
        by : (b : Bool) → not b ≡ true → b ≡ false
        by false e = refl
        by true e = not_so e

pub next_is : (core : Core) (next : Stored) (status : Status) → next.group ≡ core.status.group → next.committed ≡ core.status.committed → next.wanted ≡ core.status.wanted → next.in_flight ≡ Some status
    → next ≡ record core.status { in_flight = Some status; writes = next.writes; stamp = next.stamp }
next_is core next status group committed wanted flies =
    ap (λ (g : Descriptor). record next { group = g }) group
    ∙ ap (λ (c : Status). record next { group = core.status.group; committed = c }) committed
    ∙ ap (λ (w : Status). record next { group = core.status.group; committed = core.status.committed; wanted = w }) wanted
    ∙ ap (λ (m : Option Status). record next { group = core.status.group; committed = core.status.committed; wanted = core.status.wanted; in_flight = m }) flies

pub status_start_keeps : StatusStartKeeps
status_start_keeps old new sound on event =
    subst IsSound (sym (event.is ∙ ap (λ (d : Device). state d (made new.core.status new.core.pool)) started.new_is ∙ ap (λ (p : List Bool). state device_so (made new.core.status p)) event.launches.taken.new_is ∙ ap (λ (u : Stored). state device_so (made u pool_so)) same))
    (keeps old sound on event.disk event.status new.core.status.writes new.core.status.stamp its.was its.started its.none (subst (λ (u : Stored). IsSoundStatus (seen u)) same its.sound)
    event.flight event.launches.long event.launches.taken.free started.fresh new.device.counts.starts new.device.wrote
    (record {
      status = event.status;
      flies = refl;
      writes = let w = event.writes in record {
        disk_is = w.disk_is;
        first = w.first ∙ ap (λ (t : State). slot_start kind.Status (next_slot kind.Status t.core.homes event.disk)) event.is;
        count = w.count;
        write = w.write;
        carries = w.carries;
      };
    }))
  where
    started : Starts old.device new.device event.flight
    started = event.launches.starts

    its : IsUnderWay old.core new.core.status event.disk event.status
    its = under_way old.core new.core.status event.disk event.status event.begun (sound.on on).going event.due event.begins event.lowest event.started event.flies

    same : new.core.status ≡ record old.core.status { in_flight = Some event.status; writes = new.core.status.writes; stamp = new.core.status.stamp }
    same = next_is old.core new.core.status event.status its.group its.committed its.wanted event.flies

    pool_so : List Bool
    pool_so = slice_set old.core.pool event.flight.buf.number true

    device_so : Device
    device_so = launched old.device event.flight new.device.counts.starts new.device.wrote

    made : Stored → List Bool → Core
    made u pool = record old.core { flying = old.core.flying ++ flown event.flight.ticket event.flight.disk (owner.Status event.disk) ∷ []; status = u; pool = pool }

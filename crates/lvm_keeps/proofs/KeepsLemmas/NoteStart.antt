-- The write of a note is started.
use Rattle.std.proofs.Common.{◌≡◌, ◌≤◌, inl, inr, ◌==◌, ◌&&◌, ℕ, Bool, true, false, not, if◌then◌else◌, List, [], ◌∷◌, ◌++◌, Option, Some, None, length, slice_get, slice_set, refl, sym, ◌∙◌, ap, subst, arith}
use Rattle.std.specs.Prelude.{count_by, find, is_none, is_some, slice_index_or}
use Rattle.std.specs.List.{AllByRecursion, list_all}
use Rattle.std.specs.Option.{option_map}
use Rattle.std.proofs.lemmas.Bool.{eq-eqb, eqb-true}
use Rattle.lvm_num.specs.declared.descriptor.Mode.{Mode}
use Rattle.lvm_num.specs.declared.descriptor.Mode.TheVariants as mode
use Rattle.lvm_num.specs.Descriptor.{is_member}
use Rattle.lvm_num.proofs.Booleans.{not_so}
use Rattle.lvm_num.proofs.Lists.{all_weaker, all_at, length_set}
use Rattle.lvm_session.specs.passed.Disk.{Device, Flight, Range, IsNewTicket, Starts}
use Rattle.lvm_mwc.specs.Cache.{after_start, flight_on, has_disk, is_named}
use Rattle.lvm_mwc.specs.Entries.{note_of, pins_of}
use Rattle.lvm_path.specs.declared.request.Phase.{Phase}
use Rattle.lvm_path.specs.declared.request.Phase.TheVariants as phase
use Rattle.lvm_path.specs.declared.request.Request.{Request}
use Rattle.lvm_path.specs.declared.target.Target.{Target}
use Rattle.lvm_path.specs.Asks.{lv_of}
use Rattle.lvm_session.specs.declared.bringing.OpenCopy.{OpenCopy}
use Rattle.lvm_session.specs.declared.flown.Flown.{Flown}
use Rattle.lvm_session.specs.declared.flown.Owner.{Owner}
use Rattle.lvm_session.specs.declared.flown.Owner.TheVariants as owner
use Rattle.lvm_session.specs.declared.open.Open.{Open}
use Rattle.lvm_session.specs.declared.open.Power.TheVariants as power
use Rattle.lvm_session.specs.State.{Core, State, state}
use Rattle.lvm_session.specs.Judging.{group_of, has_names, is_missing, is_waiting}
use Rattle.lvm_session.specs.Enabled.{is_unnamed, note_due, wants_record}
use Rattle.lvm_session.specs.Events.{IsNoteWrite, flown}
use Rattle.lvm_session.specs.Owners.{AreOwned, IsTransferOf, flies, same_owner}
use Rattle.lvm_session.specs.Requests.{IsOpenOne, IsPinned, IsRecorded, IsTarget, has_record, mode_for}
use Rattle.lvm_session.specs.Sound.{IsCopy, IsFitting, IsGoing, IsOn, IsSound, IsTold, count_if, has_number, is_dark, out_with, pins}
use Rattle.lvm_keeps.specs.Keeps.{NoteStartKeeps}
use Rattle.lvm_keeps.proofs.CausesLemmas.{copies_still, origin_still}
use Rattle.lvm_keeps.proofs.SoundLemmas.Fitting.{still_fits}
use Rattle.lvm_keeps.proofs.OwnersLemmas.Launching.{flights_push, none_more, owners_push, rows_push, taken, tickets_push}
use Rattle.lvm_keeps.proofs.Lists.{count_cons}
use Rattle.lvm_keeps.proofs.CacheLemmas.{flight_beside, flight_here, found_all, named_still, same_disks, target_on_member}
use Rattle.lvm_keeps.proofs.OwnersLemmas.Rows.{all_fly, data_still, rows_by, status_still, step_still}
use Rattle.lvm_keeps.proofs.Small.{both}
use Rattle.lvm_keeps.proofs.RequestsLemmas.{if_on, kind_still, shape_still}
use Rattle.lvm_keeps.proofs.SoundLemmas.Whole.{sound_still, told_still}

-- ---- what is pinned has a pin

pins_self : (o : Open) → o.request.pinned ≡ true → pins (lv_of o.request.ask) (group_of o.request.ask) o ≡ true
pins_self o is =
    ap (λ b. b && lv_of o.request.ask == lv_of o.request.ask && group_of o.request.ask == group_of o.request.ask) is
    ∙ ap (λ b. b && group_of o.request.ask == group_of o.request.ask) (eq-eqb (lv_of o.request.ask) (lv_of o.request.ask) refl) ∙ eq-eqb (group_of o.request.ask) (group_of o.request.ask) refl

abbrev pub IsCountedIn : List Open → Open → Type 0
IsCountedIn os o = o.request.pinned ≡ true → 1 ≤ count_by (pins (lv_of o.request.ask) (group_of o.request.ask)) os

pub each_counted : (os : List Open) → AllByRecursion (IsCountedIn os) os
each_counted [] = tt
each_counted (o ∷ os) = (
  λ e.
      let more = count_cons (pins (lv_of o.request.ask) (group_of o.request.ask)) o os in
      let one : count_if (pins (lv_of o.request.ask) (group_of o.request.ask) o) ≡ 1 = ap count_if (pins_self o e) in
      omega (arith, more, one),
  all_weaker (IsCountedIn os) (IsCountedIn (o ∷ os)) (λ x low e. let more = count_cons (pins (lv_of x.request.ask) (group_of x.request.ask)) o os in let was = low e in omega (arith, more, was)) os (each_counted os),
)

-- one that has its record with two targets or more holds its pin
pinned_by : (p : Phase) (r : Request) → has_record p ≡ true → IsPinned p r → 2 ≤ length r.targets.items → r.pinned ≡ true
pinned_by phase.Held r has its two = not_so has
pinned_by phase.WantEntry r has its two = not_so has
pinned_by phase.WantRecord r has its two = not_so has
pinned_by phase.Data r has (inl is) two = is
pinned_by phase.Data r has (inr few) two = absurd (omega (arith, few, two))
pinned_by phase.WantStatus r has (inl is) two = is
pinned_by phase.WantStatus r has (inr few) two = absurd (omega (arith, few, two))
pinned_by phase.Landed r has its two = not_so has

all_true : (t u : Target → Bool) → ((x : Target) → t x ≡ true → u x ≡ true) → (xs : List Target) → list_all t xs ≡ true → list_all u xs ≡ true
all_true t u on [] all = refl
all_true t u on (x ∷ xs) all = let parts = both (t x) (list_all t xs) all in ap (λ b. b && list_all u xs) (on x parts.0) ∙ all_true t u on xs parts.1

module _ (s : State) (sound : IsSound s) (on : s.core.power ≡ power.On) (place disk : ℕ) (o : Open) (there : slice_get s.core.requests place ≡ Some o) (due : note_due s.core o ≡ Some disk)
    (f : Flight) (writes : IsNoteWrite s.core disk f) (long : length f.buf.sectors ≡ 256) (free : slice_get s.core.pool f.buf.number ≡ Some false) (fresh : IsNewTicket f.ticket s.device.flights)
    (starts : ℕ → ℕ) (wrote : Option (List Range)) where
  abbrev core : Core
  core = s.core

  abbrev row : Flown
  row = flown f.ticket f.disk (owner.Note disk)

  abbrev pool : List Bool
  pool = slice_set core.pool f.buf.number true

  abbrev device : Device
  device = record s.device { flights = s.device.flights ++ f ∷ []; counts = record s.device.counts { starts = starts }; wrote = wrote }

  abbrev now : State
  now = state device (record core { flying = core.flying ++ row ∷ []; pool = pool; cache = after_start core.cache disk })

  going : IsGoing core
  going = (sound.on on).going

  pub its : IsOpenOne core o
  its = all_at (IsOpenOne core) core.requests place o going.requests there

  -- ---- its disk

  -- where a note is due the request waits
  pub record_due : wants_record o.request.phase ≡ true
  record_due = by (wants_record o.request.phase) o.request.pinned due
    where
      by : (a b : Bool) → (if a && b then option_map (λ (t : Target). t.pp.disk) (find (is_unnamed core o.request.ask) o.request.targets.items) else None) ≡ Some disk → a ≡ true
      by true b e = refl
      by false b e = absurd (cc e)

  pub aim : (t : Target) × (find (is_unnamed core o.request.ask) o.request.targets.items ≡ Some t) × (t.pp.disk ≡ disk)
  aim = by (wants_record o.request.phase && o.request.pinned) (find (is_unnamed core o.request.ask) o.request.targets.items) refl due
    where
      by : (b : Bool) (m : Option Target) → find (is_unnamed core o.request.ask) o.request.targets.items ≡ m → (if b then option_map (λ (t : Target). t.pp.disk) m else None) ≡ Some disk
          → (t : Target) × (find (is_unnamed core o.request.ask) o.request.targets.items ≡ Some t) × (t.pp.disk ≡ disk)
      by false m is e = absurd (cc e)
      by true None is e = absurd (cc e)
      by true (Some t) is e = (t, is, cc e)

  pub waiting : is_waiting o ≡ true
  waiting = by (is_waiting o) refl
    where
      by : (b : Bool) → is_waiting o ≡ b → b ≡ true
      by true is = refl
      by false is = not_so (sym (ap wants_record (its.over is).phase_is) ∙ record_due)

  pub found : (is_unnamed core o.request.ask aim.0 ≡ true) × IsTarget core o.request.ask aim.0
  found = found_all (IsTarget core o.request.ask) (is_unnamed core o.request.ask) o.request.targets.items aim.0 aim.1 (its.waits waiting).shape.targets

  pub no_flight : flight_on core.cache disk ≡ None
  no_flight = none (flight_on core.cache disk) (ap (λ d. is_none (flight_on core.cache d)) (sym aim.2) ∙ (both (not_missing) (is_none (flight_on core.cache aim.0.pp.disk)) (both (not_missing && is_none (flight_on core.cache aim.0.pp.disk)) _ found.0).0).1)
    where
      not_missing : Bool
      not_missing = not (is_missing core aim.0.pp.disk)

      none : {A : Type 0} (m : Option A) → is_none m ≡ true → m ≡ None
      none None e = refl
      none (Some x) e = absurd (cc e)

  has_it : has_disk core.cache disk ≡ true
  has_it = going.fitting.notes disk ∙ ap (is_member core.descriptor) (sym aim.2) ∙ target_on_member core o.request.ask aim.0 going found.1

  pub noted : flight_on now.core.cache disk ≡ Some (record { items = note_of core.cache.entries })
  noted = flight_here core.cache disk has_it

  -- ---- the requests

  abbrev pub IsKept : Open → Type 0
  IsKept x = x.request.pinned ≡ true → 1 ≤ pins_of core.cache.entries (lv_of x.request.ask) (group_of x.request.ask)

  pub kept : AllByRecursion IsKept core.requests
  kept = all_weaker (IsCountedIn core.requests) IsKept (λ x low e. let was = low e in let same = going.pinned (lv_of x.request.ask) (group_of x.request.ask) in omega (arith, was, same)) core.requests (each_counted core.requests)

  named_on : (x : Open) → IsKept x → (m : Mode) → IsRecorded m x.request.phase x.request → has_record x.request.phase ≡ true → 2 ≤ length x.request.targets.items → has_names core m x.request ≡ true → has_names now.core m x.request ≡ true
  named_on x keep mode.Active rec has two names = all_true (λ (t : Target). is_named core.cache t.pp.disk (lv_of x.request.ask) (group_of x.request.ask)) (λ (t : Target). is_named now.core.cache t.pp.disk (lv_of x.request.ask) (group_of x.request.ask))
      (λ t named. named_still core.cache disk t.pp.disk (lv_of x.request.ask) (group_of x.request.ask) (keep (pinned_by x.request.phase x.request has rec two)) named) x.request.targets.items names
  named_on x keep mode.Passive rec has two names = names
  named_on x keep mode.Off rec has two names = names

  one : (x : Open) → IsKept x → IsOpenOne core x → IsOpenOne now.core x
  one x keep it = record {
    laid = let l = it.laid in record { within = l.within; blocks = l.blocks; most = l.most; id = l.id };
    waits = λ w. let r = it.waits w in let b = r.ready in record {
      shape = shape_still core now.core refl (λ ask. refl) x r.shape;
      ready = record { free = b.free; recorded = b.recorded; wanted = b.wanted; named = λ has two. named_on x keep (mode_for core x.request.ask) b.recorded has two (b.named has two); dirty = b.dirty };
      judged = λ write. let j = r.judged write in record { uncaught = j.uncaught; due = j.due; missed = j.missed; all = j.all; place = j.place };
    };
    over = it.over;
    still = it.still;
  }

  both_on : (xs : List Open) → AllByRecursion IsKept xs → AllByRecursion (IsOpenOne core) xs → AllByRecursion (IsOpenOne now.core) xs
  both_on [] keep all = tt
  both_on (x ∷ xs) keep all = (one x keep.0 all.0, both_on xs keep.1 all.1)

  -- ---- the rest

  fitting : IsFitting now.core
  fitting = let was = sound.fitting in still_fits core now.core was refl was.entries (same_disks core.cache disk) was.table (length_set core.pool f.buf.number true) was.room

  told : IsTold now.core
  told = told_still core now.core refl sound.told

  bring : (c : OpenCopy) → IsCopy core c → IsCopy now.core c
  bring c k = record { row = k.row; volume = k.volume; lp = k.lp; kind = kind_still core now.core c c.step c.tried c.end refl refl refl refl c.moves k.kind; cursor = k.cursor; faults = k.faults; place = k.place; room = k.room; free = k.free; hand = k.hand; tried = k.tried; source = k.source; under_way = k.under_way }

  -- ---- whose it is

  owned : AreOwned now.core
  owned (owner.Data id target) = none_more (owner.Data id target) row core.flying refl ∙ going.owned (owner.Data id target)
  owned (owner.Status d) = none_more (owner.Status d) row core.flying refl ∙ going.owned (owner.Status d)
  owned owner.Copy = none_more owner.Copy row core.flying refl ∙ going.owned owner.Copy
  owned (owner.Note d) = by (d == disk) refl
    where
      by : (b : Bool) → (d == disk) ≡ b → count_by (λ (g : Flown). same_owner (owner.Note d) g.owner) now.core.flying ≡ count_if (is_some (flight_on now.core.cache d))
      by false other = none_more (owner.Note d) row core.flying other ∙ going.owned (owner.Note d) ∙ ap (λ m. count_if (is_some m)) (sym (flight_beside core.cache disk d other))
      by true is =
          let same = eqb-true d disk is in
          let more = owners_push (owner.Note d) row core.flying in
          let mine : count_if (d == disk) ≡ 1 = ap count_if is in
          let none : count_by (λ (g : Flown). same_owner (owner.Note d) g.owner) core.flying ≡ 0 = going.owned (owner.Note d) ∙ ap (λ e. count_if (is_some (flight_on core.cache e))) same ∙ ap (λ m. count_if (is_some m)) no_flight in
          let it : count_if (is_some (flight_on now.core.cache d)) ≡ 1 = ap (λ e. count_if (is_some (flight_on now.core.cache e))) same ∙ ap (λ m. count_if (is_some m)) noted in
          omega (arith, more, mine, none, it)

  transfer_on : (who : Owner) (g : Flight) → flies core who ≡ true → IsTransferOf core who g → IsTransferOf now.core who g
  transfer_on (owner.Data id target) g fly of = data_still core now.core refl id target g of
  transfer_on (owner.Status d) g fly of = status_still core now.core refl d g of
  transfer_on (owner.Note d) g fly of = record { note = of.note; flies = flight_beside core.cache disk d (other (d == disk) refl) ∙ of.flies; disk_is = of.disk_is; first = of.first; count = of.count; write = of.write; carries = of.carries }
    where
      other : (b : Bool) → (d == disk) ≡ b → b ≡ false
      other false e = refl
      other true e = not_so (sym (ap (λ n. is_some (flight_on core.cache n)) (eqb-true d disk e) ∙ ap (λ m. is_some m) no_flight) ∙ fly)
  transfer_on owner.Copy g fly of = (of.0, of.1, step_still core now.core refl of.0.step of.0 g of.2)

  keeps_going : IsGoing now.core
  keeps_going = record {
    fitting = fitting;
    told = told;
    status = going.status;
    owned = owned;
    tickets = tickets_push core row core.flying s.device.flights (sound.on on).rows fresh going.tickets;
    queue = going.queue;
    pinned = going.pinned;
    requests = both_on core.requests kept going.requests;
    copy = if_on (IsCopy core) (IsCopy now.core) bring core.copy going.copy;
    hands = λ n. let was = going.hands n in let more = taken core.pool f.buf.number n free in omega (arith, was, more);
    behind = going.behind;
    reviewed = going.reviewed;
    fresh = going.fresh;
    clearings = going.clearings;
    numbers = going.numbers;
  }

  keeps_on : IsOn now
  keeps_on = let was = sound.on on in record {
    going = keeps_going;
    rows = rows_push now.core row f (record { ticket = refl; long = long; disk = refl; own = record { note = record { items = note_of core.cache.entries }; flies = noted; disk_is = writes.disk_is; first = writes.first; count = writes.count; write = writes.write; carries = writes.carries } }) core.flying s.device.flights
        (rows_by core now.core (λ who. flies core who ≡ true) transfer_on core.flying s.device.flights (all_fly core going.owned) was.rows);
    caused = was.caused;
    chosen = was.chosen;
  }

  -- ---- all of it

  out : (n : ℕ) → out_with device now.core n ≡ count_if (slice_index_or pool n false)
  out n =
      let was = sound.none_lost (ap is_dark on) n in
      let more = taken core.pool f.buf.number n free in
      let one_more = flights_push (λ (g : Flight). has_number n g.buf) f s.device.flights in
      omega (arith, was, more, one_more)

  pub keeps : IsSound now
  keeps = sound_still s now refl refl sound on refl fitting told keeps_on out (copies_still s now refl core.copy sound.copy) (origin_still s now refl refl sound.origin)

pub note_start_keeps : NoteStartKeeps
note_start_keeps place disk old new sound on event =
    subst IsSound (sym (event.is ∙ ap (λ (d : Device). state d (record made { pool = new.core.pool })) started.new_is ∙ ap (λ (p : List Bool). state launched (record made { pool = p })) event.launches.taken.new_is))
    (keeps old sound on place disk event.request event.there event.due event.flight event.writes event.launches.long event.launches.taken.free started.fresh new.device.counts.starts new.device.wrote)
  where
    started : Starts old.device new.device event.flight
    started = event.launches.starts

    made : Core
    made = record old.core { flying = old.core.flying ++ flown event.flight.ticket event.flight.disk (owner.Note disk) ∷ []; cache = after_start old.core.cache disk }

    launched : Device
    launched = record old.device { flights = old.device.flights ++ event.flight ∷ []; counts = record old.device.counts { starts = new.device.counts.starts }; wrote = new.device.wrote }

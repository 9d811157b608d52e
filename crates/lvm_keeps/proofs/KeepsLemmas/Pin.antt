-- A request pins its track group.
use Rattle.std.proofs.Common.{◌≡◌, ◌==◌, ◌≤◌, ◌<◌, ◌+◌, ◌^◌, ◌&&◌, ◌||◌, ℕ, Bool, true, false, not, if◌then◌else◌, Some, slice_get, slice_set, refl, sym, ◌∙◌, ap, subst, arith}
use Rattle.std.specs.Prelude.{count_by}
use Rattle.std.specs.List.{list_any, AllByRecursion}
use Rattle.std.specs.Option.{option_map_or}
use Rattle.std.proofs.lemmas.Bool.{eqb-true, eqb-false}
use Rattle.std.proofs.lemmas.List.Sums.{count_by-le-length}
use Rattle.lvm_num.specs.declared.place.Pp.{Pp}
use Rattle.lvm_num.specs.declared.descriptor.Mode.{Mode}
use Rattle.lvm_num.specs.declared.descriptor.Mode.TheVariants as mode
use Rattle.lvm_num.proofs.Booleans.{not_so}
use Rattle.lvm_num.proofs.Lists.{all_weaker, all_at, length_set, set_beside}
use Rattle.lvm_session.specs.passed.Disk.{Flight}
use Rattle.lvm_mwc.specs.Cache.{Cached, after_pin}
use Rattle.lvm_mwc.specs.Entries.{AreEntries, are_all_pinned, pins_of, with_pin as with_entry}
use Rattle.lvm_mwc.specs.Runs.{IsAllowed, Pins as PinsGroup}
use Rattle.lvm_mwc.proofs.EntriesLemmas.Pins.{entries_after, pins_after}
use Rattle.lvm_path.specs.declared.request.Phase.TheVariants as phase
use Rattle.lvm_path.specs.declared.target.Target.{Target}
use Rattle.lvm_path.specs.Asks.{lv_of}
use Rattle.lvm_path.specs.Targets.{is_failed}
use Rattle.lvm_path.specs.Next.{with_pin}
use Rattle.lvm_session.specs.declared.bringing.OpenCopy.{OpenCopy}
use Rattle.lvm_session.specs.declared.flown.Owner.TheVariants as owner
use Rattle.lvm_session.specs.declared.open.Open.{Open}
use Rattle.lvm_session.specs.declared.open.Power.TheVariants as power
use Rattle.lvm_session.specs.State.{Core, State, state}
use Rattle.lvm_session.specs.Judging.{group_of, facts_of, is_waiting, is_missing, is_wanted_stale, next_for}
use Rattle.lvm_session.specs.Enabled.{can_pin, is_pin, may_pin}
use Rattle.lvm_session.specs.Events.{IsDataTransfer}
use Rattle.lvm_session.specs.Owners.{AreOwned, IsDataOf, flies, target_flies}
use Rattle.lvm_session.specs.Requests.{IsOpenOne, IsPhase, IsRequest, IsRecorded, mode_for, is_past_held}
use Rattle.lvm_session.specs.Causes.{AreCaused, AreCounted, IsAnswered, IsCaused, IsChosenSince, IsLandedFor, fails_on, is_held_stale}
use Rattle.lvm_session.specs.Sound.{IsAsked, IsCopy, IsFitting, IsGoing, IsOn, IsSound, IsTold, count_if, is_dark, is_hand, out_with, pins, with_row}
use Rattle.lvm_keeps.specs.Keeps.{PinKeeps}
use Rattle.lvm_keeps.proofs.CausesLemmas.{answered_still, copies_still, counted_still, origin_still}
use Rattle.lvm_keeps.proofs.SoundLemmas.Fitting.{still_fits}
use Rattle.lvm_keeps.proofs.Lists.{all_set, any_set, count_same, count_set, set_here}
use Rattle.lvm_keeps.proofs.DarkLemmas.Tables.{ascending_set, rows_set}
use Rattle.lvm_keeps.proofs.EnabledLemmas.{pins_entry}
use Rattle.lvm_keeps.proofs.KeepsLemmas.Numbers.{numbered}
use Rattle.lvm_keeps.proofs.OwnersLemmas.Rows.{all_fly, rows_on}
use Rattle.lvm_keeps.proofs.Small.{both, is_false}
use Rattle.lvm_keeps.proofs.RequestsLemmas.{moved, open_on, bring_on, if_on, no_cause}
use Rattle.lvm_vol.specs.Log.{is_open}
use Rattle.lvm_session.specs.Bringing.{has_row, step_row}
use Rattle.lvm_session.specs.Left.{clean_volumes, marks_later}
use Rattle.lvm_keeps.proofs.LeftLemmas.Updates.{open_set}
use Rattle.lvm_keeps.proofs.SoundLemmas.Whole.{sound_when_on}

module _ (s : State) (sound : IsSound s) (on : s.core.power ≡ power.On) (place : ℕ) (o : Open) (there : slice_get s.core.requests place ≡ Some o) (may : may_pin s.core o ≡ true) where
  abbrev core : Core
  core = s.core

  abbrev lv : ℕ
  lv = lv_of o.request.ask

  abbrev group : ℕ
  group = group_of o.request.ask

  abbrev pub pinned : Open
  pinned = record o { request = with_pin o.request }

  abbrev pub now : State
  now = moved s core.history (slice_set core.requests place pinned) core.queue core.copy core.pool core.flying (with_entry core.cache.entries lv group) core.last

  going : IsGoing core
  going = (sound.on on).going

  pub its : IsOpenOne core o
  its = all_at (IsOpenOne core) core.requests place o going.requests there

  may_both : (is_pin (next_for core o) ≡ true) × (can_pin core.cache o.request.ask ≡ true)
  may_both = both (is_pin (next_for core o)) (can_pin core.cache o.request.ask) may

  pub entry : o.request.phase ≡ phase.WantEntry
  entry = pins_entry o.request.phase (facts_of core o.request) o.request may_both.0

  not_full : are_all_pinned core.cache.entries lv group ≡ false
  not_full = is_false (are_all_pinned core.cache.entries lv group) may_both.1

  pub waits : is_waiting o ≡ true
  waits = by (is_waiting o) refl
    where
      by : (b : Bool) → is_waiting o ≡ b → b ≡ true
      by true is = refl
      by false is = absurd (let e : phase.WantEntry ≡ phase.Landed = sym entry ∙ (its.over is).phase_is in cc)

  request : IsRequest core o
  request = its.waits waits

  pub shape : IsPhase phase.WantEntry o
  shape = subst (λ p. IsPhase p o) entry request.shape.phase_is

  -- ---- its pin

  allowed : IsAllowed core.cache (PinsGroup lv group)
  allowed =
      let some : 1 ≤ lv = number.0 in
      let few : lv ≤ 511 = number.1 in
      let fits = its.laid.within.fits in
      (record { some_lv = λ none. absurd (omega (arith, some, none)); lv = omega (arith, few); group = omega (arith, fits) }, few_pins)
    where
      number : (1 ≤ lv) × (lv ≤ 511)
      number = numbered core.descriptor lv its.laid.within.row sound.fitting.valid its.laid.within.volume

      few_pins : pins_of core.cache.entries lv group + 1 < 2 ^ 32
      few_pins =
          let same = going.pinned lv group in
          let few = count_by-le-length (pins lv group) core.requests in
          let table = sound.fitting.table in
          let most = sound.fitting.most in
          omega (arith, same, few, table, most)

  pub full_is : after_pin core.cache lv group ≡ record core.cache { entries = with_entry core.cache.entries lv group }
  full_is = ap (λ b. if b then core.cache else record core.cache { entries = with_entry core.cache.entries lv group }) not_full

  entries : AreEntries now.core.cache.entries
  entries = subst (λ (c : Cached). AreEntries c.entries) full_is (entries_after core.cache (PinsGroup lv group) going.fitting.entries allowed)

  pins_now : (l g : ℕ) → pins_of now.core.cache.entries l g ≡ count_by (pins l g) now.core.requests
  pins_now l g =
      let moved_so : pins_of (after_pin core.cache lv group).entries l g + 0 ≡ pins_of core.cache.entries l g + count_if (lv == l && group == g && not (are_all_pinned core.cache.entries lv group)) = pins_after core.cache (PinsGroup lv group) l g going.fitting.entries allowed in
      let full : pins_of (after_pin core.cache lv group).entries l g ≡ pins_of now.core.cache.entries l g = ap (λ (c : Cached). pins_of c.entries l g) full_is in
      let one : count_if (lv == l && group == g && not (are_all_pinned core.cache.entries lv group)) ≡ count_if (pins l g pinned) = ap (λ b. count_if (lv == l && group == g && not b)) not_full ∙ ap count_if (and_true (lv == l && group == g)) in
      let none : count_if (pins l g o) ≡ 0 = ap (λ b. count_if (b && lv == l && group == g)) shape.1 in
      let counted = count_set (pins l g) core.requests place o pinned there in
      let was = going.pinned l g in
      omega (arith, moved_so, full, one, none, counted, was)
    where
      and_true : (a : Bool) → a && true ≡ a
      and_true true = refl
      and_true false = refl

  -- ---- the request

  recorded : (m : Mode) → IsRecorded m phase.WantEntry o.request → IsRecorded m phase.WantRecord pinned.request
  recorded mode.Active was = refl
  recorded mode.Passive was = absurd (not_so (sym was.1))
  recorded mode.Off was = absurd (not_so (sym was.1))

  one : IsOpenOne now.core pinned
  one =
      let same = open_on core core.history (slice_set core.requests place pinned) core.queue core.copy core.pool core.flying (with_entry core.cache.entries lv group) core.last o (λ e. e) (λ p e. e) (λ ask. refl) its in
      let r = same.waits waits in
      let a = r.shape in
      let b = r.ready in
      record {
        laid = record { within = same.laid.within; blocks = same.laid.blocks; most = same.laid.most; id = same.laid.id };
        waits = λ e. record {
          shape = record { targets = a.targets; phase_is = (shape.0, shape.2, shape.3); hand = a.hand; room = a.room; differ = a.differ; usable = λ past. a.usable (past_entry refl); one = a.one };
          ready = record {
            free = λ past. b.free (past_entry refl);
            recorded = recorded (mode_for core o.request.ask) (subst (λ p. IsRecorded (mode_for core o.request.ask) p o.request) entry b.recorded);
            wanted = λ past two. b.wanted (past_entry refl) two;
            named = λ has two. not_so has;
            dirty = λ has two. not_so has;
          };
          judged = λ write. let j = r.judged write in record { uncaught = j.uncaught; due = λ status. not_so status; missed = λ status. not_so status; all = j.all; place = j.place };
        };
        over = λ e. absurd (not_so (sym e ∙ waits));
        still = λ e. absurd (not_so (sym e ∙ waits));
      }
    where
      past_entry : true ≡ true → is_past_held o.request.phase ≡ true
      past_entry e = ap is_past_held entry

  -- ---- the table

  still : (x : Open) → IsOpenOne core x → IsOpenOne now.core x
  still x it = open_on core core.history (slice_set core.requests place pinned) core.queue core.copy core.pool core.flying (with_entry core.cache.entries lv group) core.last x (λ e. e) (λ p e. e) (λ ask. refl) it

  fitting : IsFitting now.core
  fitting = let f = sound.fitting in still_fits core now.core f refl entries (λ disk. refl) (subst (λ n. n ≤ core.most) (sym (length_set core.requests place pinned)) f.table) refl f.room

  told : IsTold now.core
  told = let t = sound.told in record {
    ordered = t.ordered;
    table = record {
      ascending = ascending_set o pinned refl core.requests place there t.table.ascending;
      still = all_set Still Still (λ x is. is) core.requests place pinned (all_at Still core.requests place o t.table.still there) t.table.still;
    };
    each = λ id. t.each id ∙ sym (any_set (λ (x : Open). is_waiting x && x.request.id == id) core.requests place o pinned there refl);
    requests = all_set (IsAsked core.history.facts) (IsAsked core.history.facts) (λ x is. is) core.requests place pinned asked t.requests;
  }
    where
      Still : Open → Type 0
      Still x = is_waiting x ≡ true → is_open core.history.facts x.request.id ≡ true

      asked : IsAsked core.history.facts pinned
      asked = let a = all_at (IsAsked core.history.facts) core.requests place o sound.told.requests there in
          record { request = a.request; told = a.told; client = a.client; vol = a.vol; at = a.at; count = a.count; write = a.write; length = a.length; place = a.place; outcome = a.outcome; answered = a.answered }

  owned : AreOwned now.core
  owned (owner.Data id target) = going.owned (owner.Data id target) ∙ ap count_if (sym (any_set (λ (x : Open). x.request.id == id && target_flies target x) core.requests place o pinned there refl))
  owned (owner.Status disk) = going.owned (owner.Status disk)
  owned (owner.Note disk) = going.owned (owner.Note disk)
  owned owner.Copy = going.owned owner.Copy

  hands : (n : ℕ) → count_by (λ (x : Open). is_hand n x.got) now.core.requests ≡ count_by (λ (x : Open). is_hand n x.got) core.requests
  hands n = count_same (λ (x : Open). is_hand n x.got) core.requests place o pinned there refl

  bring : (c : OpenCopy) → IsCopy core c → IsCopy now.core c
  bring c it = bring_on core core.history (slice_set core.requests place pinned) core.queue core.copy core.pool core.flying (with_entry core.cache.entries lv group) core.last c (omega arith) (λ e. e) it

  keeps_going : IsGoing now.core
  keeps_going = record {
    fitting = fitting;
    told = told;
    status = going.status;
    owned = owned;
    tickets = going.tickets;
    queue = going.queue ∙ ap (λ rows. option_map_or (λ (c : OpenCopy). if has_row core c then with_row (step_row core c) rows else rows) core.copy rows) (sym (rows_set core.requests place o pinned there refl));
    pinned = pins_now;
    requests = all_set (IsOpenOne core) (IsOpenOne now.core) still core.requests place pinned one going.requests;
    copy = if_on (IsCopy core) (IsCopy now.core) bring core.copy going.copy;
    hands = λ n. let same = hands n in let was = going.hands n in omega (arith, same, was);
    behind = going.behind;
    reviewed = going.reviewed;
    fresh = going.fresh;
    clearings = going.clearings;
    numbers = let same = count_same marks_later core.requests place o pinned there refl in let still_open = open_set core.requests place pinned (clean_volumes core) in let was = going.numbers in omega (arith, same, still_open, was);
  }

  -- ---- the shelf

  data_on : (id target : ℕ) (f : Flight) → flies core (owner.Data id target) ≡ true → IsDataOf core id target f → IsDataOf now.core id target f
  data_on id target f fly of = by (of.place == place) refl
    where
      by : (b : Bool) → (of.place == place) ≡ b → IsDataOf now.core id target f
      by true is = record { place = place; request = pinned; there = set_here core.requests place o pinned there; own = ap (λ (x : Open). x.request.id) same ∙ of.own; aim = of.aim; aim_is = ap (λ (x : Open). slice_get x.request.targets.items target) same ∙ of.aim_is; moves = its_move }
        where
          same : o ≡ of.request
          same = cc (sym there ∙ ap (slice_get core.requests) (sym (eqb-true of.place place is)) ∙ of.there)

          its_move : IsDataTransfer now.core pinned.request of.aim f
          its_move = let m = subst (λ (x : Open). IsDataTransfer core x.request of.aim f) (sym same) of.moves in record { disk_is = m.disk_is; first = m.first; count = m.count; write = m.write; carries = m.carries }
      by false is = record { place = of.place; request = of.request; there = set_beside core.requests place of.place pinned (eqb-false of.place place is) ∙ of.there; own = of.own; aim = of.aim; aim_is = of.aim_is; moves = let m = of.moves in record { disk_is = m.disk_is; first = m.first; count = m.count; write = m.write; carries = m.carries } }

  blamed : (p : Pp) → list_any (fails_on p) now.core.requests ≡ list_any (fails_on p) core.requests
  blamed p = any_set (fails_on p) core.requests place o pinned there refl

  caused : (x : Open) → AreCaused s.device core x → AreCaused s.device now.core x
  caused x all waiting = all_weaker (IsCaused s.device core) (IsCaused s.device now.core) target_caused x.request.targets.items (all waiting)
    where
      target_caused : (t : Target) → IsCaused s.device core t → IsCaused s.device now.core t
      target_caused t why e = why (sym (ap (λ b. is_failed t.state || (t.usable && (is_missing core t.pp.disk || is_wanted_stale core t.pp || is_held_stale core t.pp || b))) (blamed t.pp)) ∙ e)

  chosen : (c : OpenCopy) → AllByRecursion (IsChosenSince core c) core.requests → AllByRecursion (IsChosenSince now.core c) now.core.requests
  chosen c all = all_set (IsChosenSince core c) (IsChosenSince now.core c) (λ x is. is) core.requests place pinned (all_at (IsChosenSince core c) core.requests place o all there) all

  keeps_on : IsOn now
  keeps_on = let was = sound.on on in record {
    going = keeps_going;
    rows = rows_on core core.history (slice_set core.requests place pinned) core.queue core.pool core.flying (with_entry core.cache.entries lv group) core.last data_on core.flying s.device.flights (all_fly core going.owned) was.rows;
    caused = all_set (AreCaused s.device core) (AreCaused s.device now.core) caused core.requests place pinned (caused pinned (all_at (AreCaused s.device core) core.requests place o was.caused there)) was.caused;
    chosen = if_on (λ (c : OpenCopy). AllByRecursion (IsChosenSince core c) core.requests) (λ (c : OpenCopy). AllByRecursion (IsChosenSince now.core c) now.core.requests) chosen core.copy was.chosen;
  }

  out : (n : ℕ) → out_with s.device now.core n ≡ out_with s.device core n
  out n = let same = hands n in omega (arith, same)

  keeps : IsSound now
  keeps = sound_when_on s now refl refl sound on fitting told keeps_on (λ n. out n ∙ sound.none_lost (ap is_dark on) n)
      (all_set (AreCounted s) (AreCounted now) (counted_still s now refl) core.requests place pinned (counted_still s now refl o (all_at (AreCounted s) core.requests place o sound.counted there)) sound.counted)
      (all_set (IsAnswered s) (IsAnswered now) (answered_still s now refl) core.requests place pinned (no_cause (IsLandedFor now pinned) o.landed waits) sound.answered) (copies_still s now refl core.copy sound.copy) (origin_still s now refl refl sound.origin)

pub pin_keeps : PinKeeps
pin_keeps place old new sound on event =
    subst IsSound (sym (event.is ∙ ap (λ (c : Cached). state old.device (record old.core { requests = slice_set old.core.requests place (record event.request { request = with_pin event.request.request }); cache = c })) (full_is old sound on place event.request event.there event.pins))) (keeps old sound on place event.request event.there event.pins)

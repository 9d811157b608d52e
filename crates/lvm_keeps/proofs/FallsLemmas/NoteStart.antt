-- The start of a note leaves less work.
use Rattle.std.proofs.Common.{◌≡◌, ◌==◌, ◌≤◌, ◌<◌, ◌+◌, ◌*◌, ◌&&◌, ℕ, zero, suc, Bool, true, false, not, if◌then◌else◌, List, [], ◌∷◌, ◌++◌, Option, Some, None, length, length-append, slice_get, refl, sym, ◌∙◌, ap, subst, arith}
use Rattle.std.specs.Prelude.{count_by, find, is_none}
use Rattle.std.specs.List.{AllByRecursion, sum_by}
use Rattle.std.specs.Option.{option_map, option_map_or}
use Rattle.std.proofs.lemmas.Bool.{eqb-true}
use Rattle.std.proofs.lemmas.List.Sums.{sum_by-cons}
use Rattle.arrayvec.specs.ArrayVec.{ArrayVec}
use Rattle.lvm_num.specs.declared.record.NoteEntry.{NoteEntry}
use Rattle.lvm_num.specs.declared.descriptor.PvRow.{PvRow}
use Rattle.lvm_num.proofs.Booleans.{not_so}
use Rattle.lvm_num.proofs.Lists.{all_at}
use Rattle.lvm_mwc.specs.Cache.{after_start, flight_names, flight_on, is_named}
use Rattle.lvm_mwc.specs.Entries.{note_of, pins_of}
use Rattle.lvm_mwc.specs.Notes.{names_group}
use Rattle.lvm_mwc.proofs.EntriesLemmas.Pins.{note-names, pinned_is_there}
use Rattle.lvm_path.specs.declared.request.Phase.{Phase}
use Rattle.lvm_path.specs.declared.request.Phase.TheVariants as phase
use Rattle.lvm_path.specs.declared.request.Request.{Request}
use Rattle.lvm_path.specs.declared.target.Target.{Target}
use Rattle.lvm_path.specs.Asks.{is_write, lv_of}
use Rattle.lvm_path.specs.Targets.{is_begun}
use Rattle.lvm_session.specs.declared.flown.Flown.{Flown}
use Rattle.lvm_session.specs.declared.flown.Owner.TheVariants as owner
use Rattle.lvm_session.specs.declared.open.Open.{Open}
use Rattle.lvm_session.specs.State.{Core, State, is_there}
use Rattle.lvm_session.specs.Judging.{copies_for, group_of, is_changed, is_missing, is_waiting, destinations_for}
use Rattle.lvm_session.specs.Enabled.{is_unnamed, note_due, wants_record}
use Rattle.lvm_session.specs.Events.{flown}
use Rattle.lvm_session.specs.Left.{begun_left, copy_left, if_so, is_held, lacks_dirty, lacks_note, left_of, phase_left, read_left, request_left, status_left, destination_turns, turns_of, unbegun_left, update_work, work_left, write_left}
use Rattle.lvm_session.specs.Requests.{IsPhase}
use Rattle.lvm_session.specs.Sound.{count_if}
use Rattle.lvm_keeps.specs.Falls.{NoteStartFalls}
use Rattle.lvm_keeps.proofs.Lists.{count_cons}
use Rattle.lvm_keeps.proofs.CacheLemmas.{flight_beside, named_still}
use Rattle.lvm_keeps.proofs.KeepsLemmas.NoteStart.{aim, found, its, kept, no_flight, noted, record_due, waiting}
use Rattle.lvm_keeps.proofs.Small.{both, is_false}
use Rattle.lvm_keeps.proofs.LeftLemmas.Leaving.{lit}

-- ---- counts and sums

module _ {A : Type 0} (t u : A → Bool) (less : (x : A) → u x ≡ true → t x ≡ true) where
  pub one_less : (x : A) → count_if (u x) ≤ count_if (t x)
  one_less x = by (u x) refl
    where
      by : (b : Bool) → u x ≡ b → count_if b ≤ count_if (t x)
      by false e = omega arith
      by true e = let is : count_if (t x) ≡ 1 = ap count_if (less x e) in omega (arith, is)

  pub count_less : (xs : List A) → count_by u xs ≤ count_by t xs
  count_less [] = omega arith
  count_less (x ∷ xs) = let a = count_cons t x xs in let b = count_cons u x xs in let one = one_less x in let rest = count_less xs in omega (arith, a, b, one, rest)

  count_fewer : (p : A → Bool) (xs : List A) (x : A) → find p xs ≡ Some x → t x ≡ true → u x ≡ false → count_by u xs + 1 ≤ count_by t xs
  count_fewer p [] x is was now = absurd (cc is)
  count_fewer p (y ∷ xs) x is was now = by (λ e. count_fewer p xs x e was now) (p y) is
    where
      by : (find p xs ≡ Some x → count_by u xs + 1 ≤ count_by t xs) → (b : Bool) → (if b then Some y else find p xs) ≡ Some x → count_by u (y ∷ xs) + 1 ≤ count_by t (y ∷ xs)
      by rest true e =
          let same : y ≡ x = cc e in
          let a = count_cons t y xs in
          let b = count_cons u y xs in
          let one : count_if (t y) ≡ 1 = ap (λ z. count_if (t z)) same ∙ ap count_if was in
          let none : count_if (u y) ≡ 0 = ap (λ z. count_if (u z)) same ∙ ap count_if now in
          let all = count_less xs in
          omega (arith, a, b, one, none, all)
      by rest false e = let a = count_cons t y xs in let b = count_cons u y xs in let one = one_less y in let more = rest e in omega (arith, a, b, one, more)

module _ {A : Type 0} (f g : A → ℕ) where
  sum_less : (xs : List A) → AllByRecursion (λ (x : A). g x ≤ f x) xs → sum_by g xs ≤ sum_by f xs
  sum_less [] all = omega arith
  sum_less (x ∷ xs) all = let a = sum_by-cons g x xs in let b = sum_by-cons f x xs in let one = all.0 in let rest = sum_less xs all.1 in omega (arith, a, b, one, rest)

  sum_falls : (xs : List A) (k : ℕ) (x : A) → slice_get xs k ≡ Some x → g x + 2 ≤ f x → AllByRecursion (λ (y : A). g y ≤ f y) xs → sum_by g xs + 2 ≤ sum_by f xs
  sum_falls [] k x there less all = absurd (cc there)
  sum_falls (y ∷ xs) zero x there less all =
      let same : y ≡ x = cc there in
      let a = sum_by-cons g y xs in
      let b = sum_by-cons f y xs in
      let here : g y + 2 ≤ f y = subst (λ z. g z + 2 ≤ f z) (sym same) less in
      let rest = sum_less xs all.1 in
      omega (arith, a, b, here, rest)
  sum_falls (y ∷ xs) (suc k) x there less all =
      let a = sum_by-cons g y xs in let b = sum_by-cons f y xs in let one = all.0 in let rest = sum_falls xs k x there less all.1 in omega (arith, a, b, one, rest)

more_by : (k a b : ℕ) → a ≤ b → k + a ≤ k + b
more_by k a b less = omega (arith, less)

of_unbegun : (a b c : Bool) (n m p q : ℕ) → m ≤ n → if_so a (if b then (if c then p else m) else q) ≤ if_so a (if b then (if c then p else n) else q)
of_unbegun false b c n m p q less = omega arith
of_unbegun true false c n m p q less = omega arith
of_unbegun true true true n m p q less = omega arith
of_unbegun true true false n m p q less = less

-- ---- the requests

module _ (core : Core) (disk : ℕ) (row : Flown) (pool : List Bool) (none : flight_on core.cache disk ≡ None) (there : flight_on (after_start core.cache disk) disk ≡ Some (record { items = note_of core.cache.entries })) where
  abbrev after : Core
  after = record core { flying = core.flying ++ row ∷ []; pool = pool; cache = after_start core.cache disk }

  abbrev IsHeld : Request → Type 0
  IsHeld r = r.pinned ≡ true → 1 ≤ pins_of core.cache.entries (lv_of r.ask) (group_of r.ask)

  unflown : (r : Request) (d : ℕ) → (d == disk) ≡ true → flight_names core.cache d (lv_of r.ask) (group_of r.ask) ≡ false
  unflown r d same = ap (λ e. flight_names core.cache e (lv_of r.ask) (group_of r.ask)) (eqb-true d disk same) ∙ ap (λ (m : Option (ArrayVec NoteEntry)). option_map_or (λ (note : ArrayVec NoteEntry). names_group note.items (lv_of r.ask) (group_of r.ask)) m false) none

  lacks_less : (r : Request) → IsHeld r → (t : Target) → lacks_note after r t ≡ true → lacks_note core r t ≡ true
  lacks_less r held t is =
      ap (λ b. b && not (is_named core.cache d lv group) && not (flight_names core.cache d lv group)) second.0 ∙ ap (λ b. not b && not (flight_names core.cache d lv group)) unnamed ∙ ap not (unnoted (d == disk) refl)
    where
      d : ℕ
      d = t.pp.disk

      lv : ℕ
      lv = lv_of r.ask

      group : ℕ
      group = group_of r.ask

      first : (r.pinned && not (is_missing core d) && not (is_named after.cache d lv group) ≡ true) × (not (flight_names after.cache d lv group) ≡ true)
      first = both (r.pinned && not (is_missing core d) && not (is_named after.cache d lv group)) (not (flight_names after.cache d lv group)) is

      second : (r.pinned && not (is_missing core d) ≡ true) × (not (is_named after.cache d lv group) ≡ true)
      second = both (r.pinned && not (is_missing core d)) (not (is_named after.cache d lv group)) first.0

      unnamed : is_named core.cache d lv group ≡ false
      unnamed = by (is_named core.cache d lv group) refl
        where
          by : (b : Bool) → is_named core.cache d lv group ≡ b → b ≡ false
          by false e = refl
          by true e = not_so (sym (is_false (is_named after.cache d lv group) second.1) ∙ named_still core.cache disk d lv group (held (both r.pinned (not (is_missing core d)) second.0).0) e)

      unnoted : (b : Bool) → (d == disk) ≡ b → flight_names core.cache d lv group ≡ false
      unnoted true same = unflown r d same
      unnoted false other = sym (ap (λ (m : Option (ArrayVec NoteEntry)). option_map_or (λ (note : ArrayVec NoteEntry). names_group note.items lv group) m false) (flight_beside core.cache disk d other)) ∙ is_false (flight_names after.cache d lv group) first.1

  phase_less : (p : Phase) (r : Request) → IsHeld r → phase_left p after r ≤ phase_left p core r
  phase_less phase.Held r held = omega arith
  phase_less phase.WantEntry r held = omega arith
  phase_less phase.WantRecord r held = let fewer = count_less (lacks_note core r) (lacks_note after r) (lacks_less r held) r.targets.items in omega (arith, fewer)
  phase_less phase.Data r held = omega arith
  phase_less phase.WantStatus r held = omega arith
  phase_less phase.Landed r held = omega arith

  -- what is left of it beside its phase
  abbrev beside : Request → ℕ
  beside r = update_work + sum_by (turns_of core) (copies_for core r.ask) + sum_by (destination_turns core) (destinations_for core r.ask) + if_so (lacks_dirty core r.ask) update_work + if_so (not (is_held r.phase) && is_changed core r) 12

  unbegun_less : (r : Request) → IsHeld r → unbegun_left after r ≤ unbegun_left core r
  unbegun_less r held = more_by (beside r) (phase_left r.phase after r) (phase_left r.phase core r) (phase_less r.phase r held)

  each_less : (x : Open) → IsHeld x.request → request_left after x ≤ request_left core x
  each_less x held = of_unbegun (is_waiting x) (is_write x.request.ask) (is_begun x.request.targets.items) (unbegun_left core x.request) (unbegun_left after x.request) (begun_left x.request) (read_left x.request.phase x.request) (unbegun_less x.request held)

  all_less : (xs : List Open) → AllByRecursion (λ (x : Open). IsHeld x.request) xs → AllByRecursion (λ (x : Open). request_left after x ≤ request_left core x) xs
  all_less [] held = tt
  all_less (x ∷ xs) held = (each_less x held.0, all_less xs held.1)

  -- the one for which the note is due
  module _ (o : Open) (held : IsHeld o.request) (waits : is_waiting o ≡ true) (write : is_write o.request.ask ≡ true) (unbegun : is_begun o.request.targets.items ≡ false) (records : o.request.phase ≡ phase.WantRecord) (pinned : o.request.pinned ≡ true)
      (t : Target) (is : find (is_unnamed core o.request.ask) o.request.targets.items ≡ Some t) (on : t.pp.disk ≡ disk) (lacks : is_unnamed core o.request.ask t ≡ true) where
    abbrev left_in : Core → ℕ
    left_in c = unbegun_left c o.request

    is_left : (c : Core) → request_left c o ≡ left_in c
    is_left c =
        ap (λ b. if_so b (if is_write o.request.ask then write_left c o.request else read_left o.request.phase o.request)) waits
        ∙ ap (λ b. if b then write_left c o.request else read_left o.request.phase o.request) write ∙ ap (λ b. if b then begun_left o.request else unbegun_left c o.request) unbegun

    lacked : lacks_note core o.request t ≡ true
    lacked = ap (λ b. b && not (is_missing core t.pp.disk) && not (is_named core.cache t.pp.disk (lv_of o.request.ask) (group_of o.request.ask)) && not (flight_names core.cache t.pp.disk (lv_of o.request.ask) (group_of o.request.ask))) pinned
        ∙ ap (λ b. not (is_missing core t.pp.disk) && not (is_named core.cache t.pp.disk (lv_of o.request.ask) (group_of o.request.ask)) && not b) (ap (λ e. flight_names core.cache e (lv_of o.request.ask) (group_of o.request.ask)) on ∙ ap (λ (m : Option (ArrayVec NoteEntry)). option_map_or (λ (note : ArrayVec NoteEntry). names_group note.items (lv_of o.request.ask) (group_of o.request.ask)) m false) none)
        ∙ pick (not (is_missing core t.pp.disk)) (is_none (flight_on core.cache t.pp.disk)) (not (is_named core.cache t.pp.disk (lv_of o.request.ask) (group_of o.request.ask))) lacks
      where
        pick : (a b c : Bool) → a && b && c ≡ true → a && c && true ≡ true
        pick true true true e = refl
        pick true true false e = e
        pick true false c e = not_so e
        pick false b c e = not_so e

    has_it : lacks_note after o.request t ≡ false
    has_it = ap (λ b. o.request.pinned && not (is_missing core t.pp.disk) && not (is_named after.cache t.pp.disk (lv_of o.request.ask) (group_of o.request.ask)) && not b)
        (ap (λ e. flight_names after.cache e (lv_of o.request.ask) (group_of o.request.ask)) on
        ∙ ap (λ (m : Option (ArrayVec NoteEntry)). option_map_or (λ (note : ArrayVec NoteEntry). names_group note.items (lv_of o.request.ask) (group_of o.request.ask)) m false) there
        ∙ note-names core.cache.entries (lv_of o.request.ask) (group_of o.request.ask) ∙ pinned_is_there core.cache.entries (lv_of o.request.ask) (group_of o.request.ask) (held pinned))
        ∙ and_false (o.request.pinned && not (is_missing core t.pp.disk) && not (is_named after.cache t.pp.disk (lv_of o.request.ask) (group_of o.request.ask)))
      where
        and_false : (a : Bool) → a && false ≡ false
        and_false true = refl
        and_false false = refl

    itself_falls : request_left after o + 2 ≤ request_left core o
    itself_falls =
        let new = is_left after ∙ ap (λ p. beside o.request + phase_left p after o.request) records in
        let old = is_left core ∙ ap (λ p. beside o.request + phase_left p core o.request) records in
        let fewer = count_fewer (lacks_note core o.request) (lacks_note after o.request) (lacks_less o.request held) (is_unnamed core o.request.ask) o.request.targets.items t is lacked has_it in
        omega (arith, new, old, fewer)

    pub falls : (place : ℕ) → slice_get core.requests place ≡ Some o → AllByRecursion (λ (x : Open). IsHeld x.request) core.requests → work_left after < work_left core
    falls place at all =
        grows (length core.flying) (length after.flying) ((update_work + 1) * count_by (λ (r : PvRow). is_there core r.disk) core.descriptor.pvs) (status_left core) (sum_by (request_left core) core.requests) (sum_by (request_left after) core.requests)
        (option_map_or (copy_left core) core.copy 0) (length-append core.flying (row ∷ [])) (sum_falls (request_left core) (request_left after) core.requests place o at itself_falls (all_less core.requests all))
      where
        grows : (n m a b x y k : ℕ) → m ≡ n + 1 → y + 2 ≤ x → m + a + b + y + k < n + a + b + x + k
        grows n m a b x y k longer less = omega (arith, longer, less)

wants_it : (p : Phase) → wants_record p ≡ true → p ≡ phase.WantRecord
wants_it phase.Held e = not_so e
wants_it phase.WantEntry e = not_so e
wants_it phase.WantRecord e = refl
wants_it phase.Data e = not_so e
wants_it phase.WantStatus e = not_so e
wants_it phase.Landed e = not_so e

pinned_due : (core : Core) (o : Open) (disk : ℕ) → note_due core o ≡ Some disk → o.request.pinned ≡ true
pinned_due core o disk due = by (wants_record o.request.phase) o.request.pinned due
  where
    by : (a b : Bool) → (if a && b then option_map (λ (t : Target). t.pp.disk) (find (is_unnamed core o.request.ask) o.request.targets.items) else None) ≡ Some disk → b ≡ true
    by true true e = refl
    by true false e = absurd (cc e)
    by false b e = absurd (cc e)

pub note_start_falls : NoteStartFalls
note_start_falls place disk old new sound on votes event = subst (λ (s : State). left_of s.core < left_of old.core) (sym event.is) (subst (λ n. left_of made < n) (sym (lit old.core on votes)) (subst (λ n. n < work_left old.core) (sym (lit made on votes)) work_falls))
  where
    row : Flown
    row = flown event.flight.ticket event.flight.disk (owner.Note disk)

    made : Core
    made = record old.core { flying = old.core.flying ++ row ∷ []; pool = new.core.pool; cache = after_start old.core.cache disk }

    records : event.request.request.phase ≡ phase.WantRecord
    records = wants_it event.request.request.phase (record_due old sound on place disk event.request event.there event.due event.flight event.writes event.launches.long event.launches.taken.free event.launches.starts.fresh new.device.counts.starts new.device.wrote)

    shape : IsPhase phase.WantRecord event.request
    shape = subst (λ p. IsPhase p event.request) records ((its old sound on place disk event.request event.there event.due event.flight event.writes event.launches.long event.launches.taken.free event.launches.starts.fresh new.device.counts.starts new.device.wrote).waits (waiting old sound on place disk event.request event.there event.due event.flight event.writes event.launches.long event.launches.taken.free event.launches.starts.fresh new.device.counts.starts new.device.wrote)).shape.phase_is

    all_kept : AllByRecursion (λ (x : Open). x.request.pinned ≡ true → 1 ≤ pins_of old.core.cache.entries (lv_of x.request.ask) (group_of x.request.ask)) old.core.requests
    all_kept = kept old sound on place disk event.request event.there event.due event.flight event.writes event.launches.long event.launches.taken.free event.launches.starts.fresh new.device.counts.starts new.device.wrote

    work_falls : work_left made < work_left old.core
    work_falls = falls old.core disk row new.core.pool (no_flight old sound on place disk event.request event.there event.due event.flight event.writes event.launches.long event.launches.taken.free event.launches.starts.fresh new.device.counts.starts new.device.wrote) (noted old sound on place disk event.request event.there event.due event.flight event.writes event.launches.long event.launches.taken.free event.launches.starts.fresh new.device.counts.starts new.device.wrote) event.request
        (all_at (λ (x : Open). x.request.pinned ≡ true → 1 ≤ pins_of old.core.cache.entries (lv_of x.request.ask) (group_of x.request.ask)) old.core.requests place event.request all_kept event.there)
        (waiting old sound on place disk event.request event.there event.due event.flight event.writes event.launches.long event.launches.taken.free event.launches.starts.fresh new.device.counts.starts new.device.wrote) shape.1 shape.0 records (pinned_due old.core event.request disk event.due) (aim old sound on place disk event.request event.there event.due event.flight event.writes event.launches.long event.launches.taken.free event.launches.starts.fresh new.device.counts.starts new.device.wrote).0 (aim old sound on place disk event.request event.there event.due event.flight event.writes event.launches.long event.launches.taken.free event.launches.starts.fresh new.device.counts.starts new.device.wrote).1 (aim old sound on place disk event.request event.there event.due event.flight event.writes event.launches.long event.launches.taken.free event.launches.starts.fresh new.device.counts.starts new.device.wrote).2 (found old sound on place disk event.request event.there event.due event.flight event.writes event.launches.long event.launches.taken.free event.launches.starts.fresh new.device.counts.starts new.device.wrote).0 place event.there all_kept

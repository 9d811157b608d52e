-- A transfer of a copy has ended, and so has the copy.
use Rattle.std.proofs.Common.{◌≡◌, ◌==◌, ◌+◌, ℕ, Bool, true, false, ◌&&◌, ◌||◌, not, if◌then◌else◌, List, [], ◌∷◌, Option, Some, None, slice_get, refl, sym, ◌∙◌, ap, subst, arith}
use Rattle.std.specs.Prelude.{IfSome, filter, is_none, nat_lt, slice_set}
use Rattle.std.specs.List.{list_any, remove, AllByRecursion}
use Rattle.std.proofs.lemmas.Bool.{eq-eqb, ne_eqb}
use Rattle.lvm_hold.specs.Conflicts.{conflicts}
use Rattle.lvm_hold.specs.declared.queue.Held.{Held}
use Rattle.lvm_hold.specs.declared.queue.Row.{Row}
use Rattle.lvm_hold.specs.Waiting.{Waiting, is_blocked, without}
use Rattle.std.specs.Option.{option_map_or}
use Rattle.lvm_num.specs.Buffer.{Buffer}
use Rattle.lvm_num.specs.declared.place.Pp.{Pp}
use Rattle.lvm_num.specs.Disks.{has}
use Rattle.lvm_num.specs.Descriptor.{is_pp}
use Rattle.lvm_num.proofs.Booleans.{not_so}
use Rattle.lvm_num.proofs.Lists.{length_set}
use Rattle.lvm_disk.specs.Device.{Device, Flight}
use Rattle.lvm_session.specs.Dark.{hand_of_copy}
use Rattle.lvm_session.specs.declared.bringing.OpenCopy.{OpenCopy}
use Rattle.lvm_session.specs.declared.bringing.Step.{Step}
use Rattle.lvm_session.specs.declared.bringing.Step.TheVariants as step
use Rattle.lvm_session.specs.declared.flown.Flown.{Flown}
use Rattle.lvm_session.specs.declared.flown.Owner.TheVariants as owner
use Rattle.lvm_session.specs.declared.open.Open.{Open}
use Rattle.lvm_session.specs.declared.open.Power.TheVariants as power
use Rattle.lvm_session.specs.State.{Core, State, state}
use Rattle.lvm_session.specs.Judging.{copies_in, group_in, held_of, is_missing, is_running, is_waiting, place_of}
use Rattle.lvm_session.specs.declared.bringing.CopyEnd.TheVariants as ending
use Rattle.lvm_session.specs.declared.bringing.CopyEnd.{CopyEnd}
use Rattle.lvm_session.specs.Bringing.{copy_ends, hand_of, end_by_sources, ends_if, is_cleared, has_row, is_out, is_whole, step_row}
use Rattle.lvm_session.specs.Left.{copy_updates, if_so}
use Rattle.lvm_session.specs.Owners.{flies}
use Rattle.lvm_session.specs.Requests.{IsOpenOne}
use Rattle.lvm_session.specs.Causes.{IsCausedAmong}
use Rattle.lvm_session.specs.Sound.{IsCopy, IsGoing, IsMove, IsSound, count_if, is_clearing, is_hand, waiting_rows, with_row}
use Rattle.lvm_session.proofs.MovesLemmas.{places_by}
use Rattle.lvm_keeps.proofs.RequestsLemmas.{changed, open_on, copy_stepped, kind_over, same_next}
use Rattle.lvm_keeps_events.proofs.SoundLemmas.CopyEnded.{session_still}
use Rattle.lvm_keeps_events.proofs.OwnersLemmas.Removal.{given_back, others, was_out}

-- the step's row goes
pub without_step : (step : Row) (rows : List Row) → AllByRecursion (λ (row : Row). row.id ≡ step.id → ⊥) rows → without step.id (with_row step rows) ≡ rows
without_step step [] others = ap (λ b. if not b then step ∷ [] else []) (eq-eqb step.id step.id refl)
without_step step (row ∷ rows) others = by (nat_lt step.id row.id) (without_step step rows others.1)
  where
    kept : (r : Row) (rest : List Row) → (r.id ≡ step.id → ⊥) → without step.id (r ∷ rest) ≡ r ∷ without step.id rest
    kept r rest other = ap (λ b. if not b then r ∷ without step.id rest else without step.id rest) (ne_eqb r.id step.id other)

    all_kept : (rest : List Row) → AllByRecursion (λ (r : Row). r.id ≡ step.id → ⊥) rest → without step.id rest ≡ rest
    all_kept [] all = refl
    all_kept (r ∷ rest) all = kept r rest all.0 ∙ ap (λ (rs : List Row). r ∷ rs) (all_kept rest all.1)

    by : (b : Bool) → without step.id (with_row step rows) ≡ rows → without step.id (if b then step ∷ row ∷ rows else row ∷ with_row step rows) ≡ row ∷ rows
    by true more = ap (λ b. if not b then step ∷ without step.id (row ∷ rows) else without step.id (row ∷ rows)) (eq-eqb step.id step.id refl) ∙ all_kept (row ∷ rows) others
    by false more = kept row (with_row step rows) others.0 ∙ ap (λ (rs : List Row). row ∷ rs) more

-- requests have even places, and a step has an odd one
pub even_rows : (n : ℕ) (os : List Open) → AllByRecursion (λ (row : Row). row.id ≡ place_of n + 1 → ⊥) (waiting_rows os)
even_rows n [] = tt
even_rows n (o ∷ os) = by (is_waiting o) (even_rows n os)
  where
    by : (b : Bool) → AllByRecursion (λ (row : Row). row.id ≡ place_of n + 1 → ⊥) (waiting_rows os)
        → AllByRecursion (λ (row : Row). row.id ≡ place_of n + 1 → ⊥) (if b then record { id = place_of o.request.id; ask = held_of o.request.ask } ∷ waiting_rows os else waiting_rows os)
    by true more = (λ e. absurd (omega (arith, e)), more)
    by false more = more

pub none_filter : {A : Type 0} (t u : A → Bool) (xs : List A) → list_any t xs ≡ false → list_any t (filter u xs) ≡ false
none_filter t u [] none = refl
none_filter {A} t u (x ∷ xs) none = by (t x) (u x) refl (λ e. none_filter t u xs e) none
  where
    by : (a b : Bool) → t x ≡ a → (list_any t xs ≡ false → list_any t (filter u xs) ≡ false) → a || list_any t xs ≡ false → list_any t (if b then x ∷ filter u xs else filter u xs) ≡ false
    by true b is rest e = not_so (sym e)
    by false true is rest e = ap (λ c. c || list_any t (filter u xs)) is ∙ rest e
    by false false is rest e = rest e

-- a step that is out has nothing in hand
pub out_no_hand : (x : Step) → is_out x ≡ true → hand_of x ≡ None
out_no_hand step.Idle e = not_so e
out_no_hand (step.Reading source) e = refl
out_no_hand (step.Read buf) e = not_so e
out_no_hand step.Writing e = refl

-- The copy has ended with it, or had: these were tried for its track group, and so it ended; and it isn't to be cleared.
module _ (s : State) (sound : IsSound s) (on : s.core.power ≡ power.On) (c : OpenCopy) (is : s.core.copy ≡ Some c) (tried : ℕ) (end : Option CopyEnd) (over : is_none end ≡ false) (undone : c.moves ≡ true → IsMove s.core c → end ≡ Some ending.Done → ⊥) (clear : (p : Pp) → is_clearing s.core p ≡ false)
    (tries : (disk : ℕ) → has tried disk ≡ true → list_any (λ (p : Pp). not (is_pp p c.pp) && p.disk == disk) (copies_in s.core.descriptor c.lv c.lp) ≡ true)
    (why : IsCausedAmong s (copies_in s.core.descriptor c.lv c.lp) (record c { step = step.Idle; tried = tried; end = end }))
    (at : ℕ) (row : Flown) (there : slice_get s.core.flying at ≡ Some row) (own : row.owner ≡ owner.Copy) (f : Flight) (f_there : slice_get s.device.flights at ≡ Some f) (buf : Buffer) (number : buf.number ≡ f.buf.number) where
  abbrev core : Core
  core = s.core

  abbrev resting : OpenCopy
  resting = record c { step = step.Idle; tried = tried; end = end }

  abbrev queue : Waiting
  queue = record core.queue { rows = without c.place core.queue.rows }

  abbrev pool : List Bool
  pool = slice_set core.pool buf.number false

  abbrev device : Device
  device = record s.device { flights = remove s.device.flights at }

  abbrev now : State
  now = state device (changed core core.history core.requests queue (Some resting) pool (remove core.flying at) core.cache.entries core.last)

  going : IsGoing core
  going = (sound.on on).going

  its : IsCopy core c
  its = subst (λ m. IfSome m (IsCopy core)) is going.copy

  of_copy : {A : Type 0} (t : OpenCopy → A) (none : A) → option_map_or t core.copy none ≡ t c
  of_copy t none = ap (λ m. option_map_or t m none) is

  -- a transfer of it was out
  was_going : is_out c.step ≡ true
  was_going = sym (of_copy (λ (k : OpenCopy). is_out k.step) false) ∙ ap (flies core) (sym own) ∙ was_out core going.owned at row there

  free_on : (place : ℕ) (ask : Held) → is_blocked core.queue.rows place ask ≡ false → is_blocked queue.rows place ask ≡ false
  free_on place ask free = none_filter (λ (r : Row). nat_lt r.id place && conflicts r.ask ask) (λ (r : Row). not (r.id == c.place)) core.queue.rows free

  one : (o : Open) → IsOpenOne core o → IsOpenOne now.core o
  one o it = open_on core core.history core.requests queue (Some resting) pool (remove core.flying at) core.cache.entries core.last o (free_on (place_of o.request.id) (held_of o.request.ask))
      (λ p e. ap (λ b. b && is_pp p c.pp && nat_lt (group_in core o.request.ask) c.cursor) over) (λ ask. ap (places_by core ask) is) it

  bring : IsCopy now.core resting
  bring = copy_stepped core now.core c step.Idle tried end refl (same_next core) its tt (λ e. absurd (let no : true ≡ false = e in cc)) (λ e. refl)
      tries tt (λ goes busy. absurd (let no : true ≡ false = busy in cc)) (kind_over core now.core c step.Idle tried end refl refl over (λ e. e) c.moves undone its.kind)

  -- ---- its place and its end

  queue_is : queue.rows ≡ (if has_row now.core resting then with_row (step_row core c) (waiting_rows core.requests) else waiting_rows core.requests)
  queue_is = ap (without c.place) (going.queue ∙ of_copy (λ (k : OpenCopy). if has_row core k then with_row (step_row core k) (waiting_rows core.requests) else waiting_rows core.requests) (waiting_rows core.requests)
      ∙ ap (λ (b : Bool). if b || (is_running c && not (is_whole core c)) then with_row (step_row core c) (waiting_rows core.requests) else waiting_rows core.requests) was_going)
      ∙ without_step (step_row core c) (waiting_rows core.requests) (subst (λ n. AllByRecursion (λ (r : Row). r.id ≡ n → ⊥) (waiting_rows core.requests)) (sym its.place.2) (even_rows its.place.0 core.requests))
      ∙ sym (ap (λ (b : Bool). if b && not (is_whole core c) then with_row (step_row core c) (waiting_rows core.requests) else waiting_rows core.requests) over)

  reviewed : copy_ends now.core ≡ None
  reviewed = ap (λ (b : Bool). if not b then None else if is_missing core c.pp.disk then Some ending.SyncFailed else if is_whole core c then ends_if (is_cleared core c) ending.Done else end_by_sources core resting) over

  was_hand : (n : ℕ) → count_if (is_hand n (hand_of_copy core.copy)) ≡ 0
  was_hand n = ap (λ m. count_if (is_hand n (hand_of_copy m))) is ∙ ap (λ h. count_if (is_hand n h)) (out_no_hand c.step was_going)

  pub keeps : IsSound now
  keeps = session_still s sound on c is at row there own step.Idle tried end queue.rows pool s.device.media refl (length_set core.pool buf.number false) one bring queue_is reviewed
      (λ p held fresh_wanted. not_so (sym (clear p) ∙ going.clearings p held fresh_wanted))
      (let was = going.numbers in let same = of_copy (copy_updates core) 0 in let none : copy_updates now.core resting ≡ 0 = ap (λ (b : Bool). if not b then 0 else (if is_whole core c then 1 else 2) + if_so c.moves 1) over in omega (arith, was, same, none))
      (given_back s sound on at f f_there buf number s.device.media now.core (λ n. let none = was_hand n in omega (arith, none))) why

-- The write of the copy that is open is started.
use Rattle.std.proofs.Common.{◌≡◌, ℕ, true, false, ◌&&◌, ◌||◌, not, if◌then◌else◌, List, [], ◌∷◌, ◌++◌, Option, Some, None, length, refl, sym, ◌∙◌, ap, subst, arith}
use Rattle.std.specs.Prelude.{IfSome, count_by, is_some, nat_lt, slice_index_or}
use Rattle.std.specs.List.{AllByRecursion}
use Rattle.std.specs.Option.{option_map_or}
use Rattle.lvm_num.specs.Buffer.{Buffer}
use Rattle.lvm_num.specs.Descriptor.{is_pp}
use Rattle.lvm_num.proofs.Booleans.{not_so}
use Rattle.lvm_num.proofs.Lists.{all_weaker}
use Rattle.lvm_disk.specs.Device.{Device, Flight, Range}
use Rattle.lvm_disk.specs.Steps.{IsNewTicket}
use Rattle.lvm_session.specs.declared.bringing.OpenCopy.{OpenCopy}
use Rattle.lvm_session.specs.declared.bringing.Step.{Step}
use Rattle.lvm_session.specs.declared.bringing.Step.TheVariants as step
use Rattle.lvm_session.specs.declared.flown.Flown.{Flown}
use Rattle.lvm_session.specs.declared.flown.Owner.TheVariants as owner
use Rattle.lvm_session.specs.declared.open.Open.{Open}
use Rattle.lvm_session.specs.declared.open.Power.TheVariants as power
use Rattle.lvm_session.specs.State.{Core, State, state}
use Rattle.lvm_session.specs.Judging.{copies_in, group_in, is_running}
use Rattle.lvm_session.specs.Bringing.{copy_ends, end_of, has_row, hand_of, is_idle, is_out, is_whole, step_row}
use Rattle.lvm_session.specs.Enabled.{may_write}
use Rattle.lvm_session.specs.Dark.{hand_of_copy}
use Rattle.lvm_session.specs.Events.{IsCopyTransfer, flown}
use Rattle.lvm_session.specs.Left.{copy_updates}
use Rattle.lvm_session.specs.Owners.{AreOwned, flies, same_owner}
use Rattle.lvm_session.specs.Requests.{IsOpenOne}
use Rattle.lvm_session.specs.Causes.{AreCaused, IsCaused, IsChosenSince, IsCausedAmong}
use Rattle.lvm_session.specs.Sound.{IsCopy, IsGoing, IsOn, IsSound, IsTold, count_if, has_number, is_dark, is_hand, out_with, waiting_rows, with_row}
use Rattle.lvm_keeps.specs.Keeps.{CopyWriteKeeps}
use Rattle.lvm_keeps.proofs.CausesLemmas.{copy_still, origin_still}
use Rattle.lvm_keeps.proofs.OwnersLemmas.Launching.{flights_push, none_more, owners_push, rows_push, tickets_push}
use Rattle.lvm_keeps.proofs.OwnersLemmas.Rows.{all_fly, rows_but_copy}
use Rattle.lvm_keeps.proofs.Small.{both}
use Rattle.lvm_keeps.proofs.RequestsLemmas.{open_on, copy_stepped, same_next, kind_still}
use Rattle.lvm_keeps.proofs.SoundLemmas.Whole.{sound_still, told_still}
use Rattle.lvm_keeps_events.proofs.SoundLemmas.Frame.{after, fitting_on, launched}
use Rattle.lvm_session.proofs.MovesLemmas.{places_by}

module _ (s : State) (sound : IsSound s) (on : s.core.power ≡ power.On) (c : OpenCopy) (is : s.core.copy ≡ Some c) (may : may_write c ≡ true) (buf : Buffer) (in_hand : c.step ≡ step.Read buf)
    (f : Flight) (writes : IsCopyTransfer s.core c c.pp true f) (carries : f.buf ≡ buf) (fresh : IsNewTicket f.ticket s.device.flights) (starts : ℕ → ℕ) (wrote : Option (List Range)) where
  abbrev core : Core
  core = s.core

  abbrev writing : OpenCopy
  writing = record c { step = step.Writing }

  abbrev row : Flown
  row = flown f.ticket f.disk owner.Copy

  abbrev device : Device
  device = launched s.device f starts wrote

  abbrev now : State
  now = after s f starts wrote core.requests (Some writing) core.pool (core.flying ++ row ∷ [])

  going : IsGoing core
  going = (sound.on on).going

  its : IsCopy core c
  its = subst (λ m. IfSome m (IsCopy core)) is going.copy

  -- what is open is this copy
  of_copy : {A : Type 0} (t : OpenCopy → A) (none : A) → option_map_or t core.copy none ≡ t c
  of_copy t none = ap (λ m. option_map_or t m none) is

  runs : is_running c ≡ true
  runs = (both (is_running c) (is_some (hand_of c.step)) may).0

  short : is_whole core c ≡ false
  short = its.under_way runs (ap is_idle in_hand)

  long : length f.buf.sectors ≡ 256
  long = ap (λ (b : Buffer). length b.sectors) carries ∙ subst (λ (at : Step). IfSome (hand_of at) (λ (b : Buffer). length b.sectors ≡ 256)) in_hand its.room

  told : IsTold now.core
  told = told_still core now.core refl sound.told

  one : (o : Open) → IsOpenOne core o → IsOpenOne now.core o
  one o it = open_on core core.history core.requests core.queue (Some writing) core.pool (core.flying ++ row ∷ []) core.cache.entries core.last o (λ e. e)
      (λ p e. sym (of_copy (λ (k : OpenCopy). is_running k && is_pp p k.pp && nat_lt (group_in core o.request.ask) k.cursor) false) ∙ e) (λ ask. ap (places_by core ask) is) it

  bring : IsCopy now.core writing
  bring = copy_stepped core now.core c step.Writing c.tried c.end refl (same_next core) its tt (λ e. its.free (ap is_idle in_hand)) (λ e. refl)
      its.tried tt (λ goes busy. short) (kind_still core now.core c step.Writing c.tried c.end refl refl refl refl c.moves its.kind)

  -- ---- whose it is

  none_out : flies core owner.Copy ≡ false
  none_out = of_copy (λ (k : OpenCopy). is_out k.step) false ∙ ap is_out in_hand

  owned : AreOwned now.core
  owned (owner.Data id target) = none_more (owner.Data id target) row core.flying refl ∙ going.owned (owner.Data id target)
  owned (owner.Status disk) = none_more (owner.Status disk) row core.flying refl ∙ going.owned (owner.Status disk)
  owned (owner.Note disk) = none_more (owner.Note disk) row core.flying refl ∙ going.owned (owner.Note disk)
  owned owner.Copy =
      let more = owners_push owner.Copy row core.flying in
      let none : count_by (λ (g : Flown). same_owner owner.Copy g.owner) core.flying ≡ 0 = going.owned owner.Copy ∙ ap count_if none_out in
      omega (arith, more, none)

  -- ---- its place and its end

  stands : has_row core c ≡ true
  stands = ap (λ (at : Step). is_out at || (is_running c && not (is_whole core c))) in_hand ∙ ap (λ b. b && not (is_whole core c)) runs ∙ ap not short

  queue : core.queue.rows ≡ with_row (step_row core c) (waiting_rows core.requests)
  queue = going.queue ∙ of_copy (λ (k : OpenCopy). if has_row core k then with_row (step_row core k) (waiting_rows core.requests) else waiting_rows core.requests) (waiting_rows core.requests)
      ∙ ap (λ b. if b then with_row (step_row core c) (waiting_rows core.requests) else waiting_rows core.requests) stands

  reviewed : copy_ends now.core ≡ None
  reviewed = sym (ap (λ (at : Step). end_of core (record c { step = at })) in_hand) ∙ sym (of_copy (end_of core) None) ∙ going.reviewed

  -- the buffer in hand is with the transfer now
  hand : (n : ℕ) → count_if (is_hand n (hand_of_copy core.copy)) ≡ count_if (has_number n f.buf)
  hand n = ap (λ m. count_if (is_hand n (hand_of_copy m))) is ∙ ap (λ (at : Step). count_if (is_hand n (hand_of at))) in_hand ∙ ap (λ b. count_if (has_number n b)) (sym carries)

  keeps_going : IsGoing now.core
  keeps_going = record {
    fitting = fitting_on s f starts wrote core.requests (Some writing) core.pool (core.flying ++ row ∷ []) refl refl sound.fitting;
    told = told;
    status = going.status;
    owned = owned;
    tickets = tickets_push core row core.flying s.device.flights (sound.on on).rows fresh going.tickets;
    queue = queue;
    pinned = going.pinned;
    requests = all_weaker (IsOpenOne core) (IsOpenOne now.core) one core.requests going.requests;
    copy = bring;
    hands = λ n. let was = going.hands n in omega (arith, was);
    behind = going.behind;
    reviewed = reviewed;
    fresh = going.fresh;
    clearings = λ p held clear. sym (of_copy (λ (k : OpenCopy). is_running k && is_whole core k && is_pp p k.pp) false) ∙ going.clearings p held clear;
    numbers = let was = going.numbers in let same = of_copy (copy_updates core) 0 in omega (arith, was, same);
  }

  keeps_on : IsOn now
  keeps_on = let was = sound.on on in record {
    going = keeps_going;
    rows = rows_push now.core row f (record { ticket = refl; long = long; disk = refl; own = (writing, refl, record { disk_is = writes.disk_is; first = writes.first; count = writes.count; write_is = writes.write_is }) }) core.flying s.device.flights
        (rows_but_copy core now.core refl (λ who. flies core who ≡ true) (λ fly. not_so (sym none_out ∙ fly)) core.flying s.device.flights (all_fly core going.owned) was.rows);
    caused = all_weaker (AreCaused s.device core) (AreCaused device now.core) (λ x all waiting. all_weaker (IsCaused s.device core) (IsCaused device now.core) (λ t why. why) x.request.targets.items (all waiting)) core.requests was.caused;
    chosen = all_weaker (IsChosenSince core c) (IsChosenSince now.core writing) (λ x all. all) core.requests (subst (λ m. IfSome m (λ (k : OpenCopy). AllByRecursion (IsChosenSince core k) core.requests)) is was.chosen);
  }

  -- ---- all of it

  out : (n : ℕ) → out_with device now.core n ≡ count_if (slice_index_or core.pool n false)
  out n =
      let was = sound.none_lost (ap is_dark on) n in
      let given = hand n in
      let one_more = flights_push (λ (g : Flight). has_number n g.buf) f s.device.flights in
      omega (arith, was, given, one_more)

  copy_caused : IsCausedAmong now (copies_in core.descriptor c.lv c.lp) writing
  copy_caused = copy_still s now refl (copies_in core.descriptor c.lv c.lp) c step.Writing (subst (λ m. IfSome m (λ (k : OpenCopy). IsCausedAmong s (copies_in core.descriptor k.lv k.lp) k)) is sound.copy)

  pub keeps : IsSound now
  keeps = sound_still s now refl refl sound on refl keeps_going.fitting told keeps_on out copy_caused (origin_still s now refl refl sound.origin)

pub copy_write_keeps : CopyWriteKeeps
copy_write_keeps old new sound on event =
    subst IsSound (sym (event.is ∙ ap (λ (d : Device). state d made) event.starts.new_is))
    (keeps old sound on event.copy event.is_open event.may event.buf event.in_hand event.flight event.writes event.carries event.starts.fresh new.device.counts.starts new.device.wrote)
  where
    made : Core
    made = record old.core { flying = old.core.flying ++ flown event.flight.ticket event.flight.disk owner.Copy ∷ []; copy = Some (record event.copy { step = step.Writing }) }

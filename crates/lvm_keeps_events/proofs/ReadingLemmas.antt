-- Where a read gets its blocks.
use Rattle.std.proofs.Common.{◌≡◌, ◌⊎◌, inl, inr, ◌==◌, ℕ, zero, suc, Bool, true, false, not, List, [], ◌∷◌, map, Option, Some, None, slice_get, slice_set, refl, sym, ◌∙◌, ap, subst, if◌then◌else◌}
use Rattle.std.specs.Prelude.{IfSome, is_none, is_some}
use Rattle.std.specs.List.{remove}
use Rattle.std.proofs.lemmas.Bool.{eqb-true, eqb-false}
use Rattle.lvm_num.specs.Buffer.{Buffer}
use Rattle.lvm_num.proofs.Booleans.{not_so}
use Rattle.lvm_num.proofs.Lists.{all_at, set_beside}
use Rattle.lvm_disk.specs.Steps.{EndsDone}
use Rattle.lvm_vol.specs.declared.entry.Outcome.{Outcome}
use Rattle.lvm_vol.specs.declared.entry.Outcome.TheVariants as outcome
use Rattle.lvm_vol.specs.Facts.{Landed}
use Rattle.lvm_vol.specs.Log.{is_got, request_of, with_fact}
use Rattle.lvm_path.specs.declared.target.Target.{Target}
use Rattle.lvm_path.specs.Asks.{count_of, is_write}
use Rattle.lvm_path.specs.Targets.{is_begun}
use Rattle.lvm_session.specs.declared.event.Event.{Event}
use Rattle.lvm_session.specs.declared.event.Event.TheVariants as event
use Rattle.lvm_session.specs.declared.flown.Owner.{Owner}
use Rattle.lvm_session.specs.declared.flown.Owner.TheVariants as owner
use Rattle.lvm_session.specs.declared.open.Open.{Open}
use Rattle.lvm_session.specs.declared.open.Power.TheVariants as power
use Rattle.lvm_session.specs.Judging.{facts_of, is_waiting, mode_of, policy_of}
use Rattle.lvm_session.specs.State.{Core, State}
use Rattle.lvm_path.specs.Next.{with_pin}
use Rattle.lvm_session.specs.declared.answers.Turned.{Turned}
use Rattle.lvm_session.specs.declared.answers.Turned.TheVariants as turned
use Rattle.lvm_session.specs.Dark.{IsAscending, ended_as}
use Rattle.lvm_session.specs.Ends.{DataLearns, Ends, Learns, Returns, keeps_buffer, learned}
use Rattle.lvm_session.specs.Events.{IsDataTransfer, Lands, admitted_as, begun_as, got_blocks, landed_as}
use Rattle.lvm_session.specs.Turns.{FinishMakes, Finishes, Makes, Moves, NoStart, OnMakes, TurnMakes, WasDark, WasOff, WasOn}
use Rattle.lvm_session.specs.Owners.{IsDataOf, IsTransferOf}
use Rattle.lvm_session.specs.Requests.{IsOpenOne, IsRequest}
use Rattle.lvm_session.specs.Sound.{IsGoing, IsSound}
use Rattle.lvm_keeps.proofs.Lists.{get_removed, set_here}
use Rattle.lvm_keeps.proofs.DarkLemmas.Tables.{apart}
use Rattle.lvm_keeps_events.proofs.OwnersLemmas.Removal.{IsOut, taken_out}
use Rattle.lvm_keeps_events.proofs.NextLemmas.{gives}
use Rattle.lvm_session.specs.declared.flown.Flown.{Flown}
use Rattle.lvm_keeps_events.specs.Reading.{GetsItsBlocks, GetsItsBuffer, HasRead, IsItsBuffer}
use Rattle.lvm_keeps_events.proofs.TellingLemmas.Frames.{copy_stays, marked_stays, note_stays, status_stays}

-- requests of one number are one
one_named : (os : List Open) (k j : ℕ) (x y : Open) → IsAscending os → slice_get os k ≡ Some x → slice_get os j ≡ Some y → y.request.id ≡ x.request.id → y ≡ x
one_named os k j x y ascending there other same = by (j == k) refl
  where
    by : (b : Bool) → (j == k) ≡ b → y ≡ x
    by true is = cc (sym other ∙ ap (slice_get os) (eqb-true j k is) ∙ there)
    by false is = let left = get_removed os k j y (eqb-false j k is) other in absurd (all_at (λ (z : Open). z.request.id ≡ x.request.id → ⊥) (remove os k) left.0 y (apart os k x there ascending) left.1 same)

mapped : (f : Open → Open) (os : List Open) (k : ℕ) (o : Open) → slice_get os k ≡ Some o → slice_get (map f os) k ≡ Some (f o)
mapped f [] k o there = absurd (cc there)
mapped f (x ∷ os) zero o there = ap (λ (m : Option Open). by m) there
  where
    by : Option Open → Option Open
    by None = None
    by (Some y) = Some (f y)
mapped f (x ∷ os) (suc k) o there = mapped f os k o there

module _ (old new : State) where
  -- it keeps what it had in hand
  had : (o : Open) (got : Option Buffer) → got ≡ o.got → IfSome got (IsItsBuffer old new o)
  had o None e = tt
  had o (Some buf) e = inl (sym e)

  -- one that hasn't landed hasn't as Got
  not_landed : (o n : Open) → n.landed ≡ o.landed → is_waiting o ≡ true → n.landed ≡ Some outcome.Got → GetsItsBuffer old.core new.core o
  not_landed o n same waits got = not_so (ap is_none (sym got ∙ same) ∙ waits)

  -- ---- the requests stay, or one changes, or all land

  stay : new.core.requests ≡ old.core.requests → GetsItsBlocks old new
  stay same = record {
    hand = λ place o n was now. subst (λ (x : Open). IfSome x.got (IsItsBuffer old new o)) (is place o n was now) (had o o.got refl);
    lands = λ place o n was now. not_landed o n (ap (λ (x : Open). x.landed) (sym (is place o n was now)));
  }
    where
      is : (place : ℕ) (o n : Open) → slice_get old.core.requests place ≡ Some o → slice_get new.core.requests place ≡ Some n → o ≡ n
      is place o n was now = let e : Some o ≡ Some n = sym was ∙ sym (ap (λ (os : List Open). slice_get os place) same) ∙ now in cc e

  set_one : (k : ℕ) (x y : Open) → slice_get old.core.requests k ≡ Some x → new.core.requests ≡ slice_set old.core.requests k y
      → IfSome y.got (IsItsBuffer old new x) → (is_waiting x ≡ true → y.landed ≡ Some outcome.Got → GetsItsBuffer old.core new.core x) → GetsItsBlocks old new
  set_one k x y there set hand lands = record {
    hand = λ place o n was now. of_hand o n (found place o n was now);
    lands = λ place o n was now. of_landing o n (found place o n was now);
  }
    where
      found : (place : ℕ) (o n : Open) → slice_get old.core.requests place ≡ Some o → slice_get new.core.requests place ≡ Some n → ((x ≡ o) × (y ≡ n)) ⊎ (o ≡ n)
      found place o n was now = by (place == k) refl
        where
          by : (b : Bool) → (place == k) ≡ b → ((x ≡ o) × (y ≡ n)) ⊎ (o ≡ n)
          by true is =
              let at = eqb-true place k is in
              let one : Some x ≡ Some o = sym there ∙ sym (ap (slice_get old.core.requests) at) ∙ was in
              let other : Some y ≡ Some n = sym (set_here old.core.requests k x y there) ∙ sym (ap (slice_get (slice_set old.core.requests k y)) at) ∙ sym (ap (λ (os : List Open). slice_get os place) set) ∙ now in
              inl (cc one, cc other)
          by false is =
              let e : Some o ≡ Some n = sym was ∙ sym (set_beside old.core.requests k place y (eqb-false place k is)) ∙ sym (ap (λ (os : List Open). slice_get os place) set) ∙ now in
              inr (cc e)

      of_hand : (o n : Open) → ((x ≡ o) × (y ≡ n)) ⊎ (o ≡ n) → IfSome n.got (IsItsBuffer old new o)
      of_hand o n (inl e) = subst (λ (z : Open). IfSome n.got (IsItsBuffer old new z)) e.0 (subst (λ (z : Open). IfSome z.got (IsItsBuffer old new x)) e.1 hand)
      of_hand o n (inr e) = subst (λ (z : Open). IfSome z.got (IsItsBuffer old new o)) e (had o o.got refl)

      of_landing : (o n : Open) → ((x ≡ o) × (y ≡ n)) ⊎ (o ≡ n) → is_waiting o ≡ true → n.landed ≡ Some outcome.Got → GetsItsBuffer old.core new.core o
      of_landing o n (inl e) waits got =
          subst (λ (z : Open). GetsItsBuffer old.core new.core z) e.0 (lands (ap is_waiting e.0 ∙ waits) (ap (λ (z : Open). z.landed) e.1 ∙ got))
      of_landing o n (inr e) waits got = not_landed o n (ap (λ (z : Open). z.landed) (sym e)) waits got

  all_land : (how : Outcome) → is_got how ≡ false → new.core.requests ≡ map (ended_as how) old.core.requests → GetsItsBlocks old new
  all_land how other all = record {
    hand = λ place o n was now. subst (λ (z : Open). IfSome z.got (IsItsBuffer old new o)) (is place o n was now) (of_hand o (is_waiting o));
    lands = λ place o n was now waits got. of_landing o waits (ap (λ (z : Open). z.landed) (is place o n was now) ∙ got);
  }
    where
      is : (place : ℕ) (o n : Open) → slice_get old.core.requests place ≡ Some o → slice_get new.core.requests place ≡ Some n → ended_as how o ≡ n
      is place o n was now = let e : Some (ended_as how o) ≡ Some n = sym (mapped (ended_as how) old.core.requests place o was) ∙ sym (ap (λ (os : List Open). slice_get os place) all) ∙ now in cc e

      of_hand : (o : Open) (b : Bool) → IfSome (if b then landed_as how o else o).got (IsItsBuffer old new o)
      of_hand o true = tt
      of_hand o false = had o o.got refl

      of_landing : (o : Open) → is_waiting o ≡ true → (ended_as how o).landed ≡ Some outcome.Got → GetsItsBuffer old.core new.core o
      of_landing o waits got =
          let e : Some how ≡ Some outcome.Got = sym (ap (λ b. (if b then landed_as how o else o).landed) waits) ∙ got in
          let same : how ≡ outcome.Got = cc e in
          not_so (sym other ∙ ap is_got same)

  -- ---- it lands

  land : IsSound old → old.core.power ≡ power.On → (place : ℕ) (how : Outcome) → Lands old new place how → GetsItsBlocks old new
  land sound on place how it = set_one place it.request (landed_as how it.request) it.there (ap (λ (s : State). s.core.requests) it.is) tt (λ waits e. by waits (cc e) it.request.got refl)
    where
      o : Open
      o = it.request

      going : IsGoing old.core
      going = (sound.on on).going

      by : is_waiting o ≡ true → how ≡ outcome.Got → (got : Option Buffer) → o.got ≡ got → GetsItsBuffer old.core new.core o
      by waits is (Some buf) e = record {
        buf = buf;
        hand = e;
        told = ap (λ (s : State). s.core.history) it.is
            ∙ ap (λ (h : Outcome). with_fact old.core.history (Landed (request_of old.core.history.facts o.request.id) h (is_begun o.request.targets.items) (got_blocks (count_of o.request.ask) o.got))) is
            ∙ ap (λ (m : Option Buffer). with_fact old.core.history (Landed (request_of old.core.history.facts o.request.id) outcome.Got (is_begun o.request.targets.items) (got_blocks (count_of o.request.ask) m))) e;
      }
      by waits is None e =
          let request : IsRequest old.core o = (all_at (IsOpenOne old.core) old.core.requests place o going.requests it.there).waits waits in
          let ended = gives o (facts_of old.core o.request) request.shape.one o.request.phase request.shape.phase_is how it.lands in
          not_so (sym (ap is_some e) ∙ request.shape.hand ∙ sym ended.got ∙ ap is_got is)

  -- ---- a transfer of a request ends

  module _ (sound : IsSound old) (on : old.core.power ≡ power.On) (at id target : ℕ) (row : Flown) (buf : Buffer) (own : row.owner ≡ owner.Data id target) where
    read : Returns old new at row true buf → (place : ℕ) (o : Open) (aim : Target) → slice_get old.core.requests place ≡ Some o → slice_get o.request.targets.items target ≡ Some aim
        → o.request.id ≡ id → is_write o.request.ask ≡ false → HasRead old new o buf
    read returns place o aim there aim_is id_is reads = record {
      at = at;
      row = row;
      out = returns.there;
      target = target;
      own = own ∙ ap (λ i. owner.Data i target) (sym id_is);
      aim = aim;
      aim_is = aim_is;
      ends = returns.ends;
      moves = moves;
      read = moves.write ∙ reads;
    }
      where
        ends : EndsDone old.device new.device row.ticket buf
        ends = returns.ends

        is_out : IsOut old.core old.device.flights new.device.flights at row ends.flight
        is_out = taken_out old.core old.core.flying old.device.flights new.device.flights at row ends.flight (sound.on on).rows (sound.on on).going.tickets returns.there ends.flights ends.its

        its : IsDataOf old.core id target ends.flight
        its = subst (λ who. IsTransferOf old.core who ends.flight) own is_out.own.own

        same_request : its.request ≡ o
        same_request = one_named old.core.requests place its.place o its.request sound.told.table.ascending there its.there (its.own ∙ sym id_is)

        same_aim : its.aim ≡ aim
        same_aim = let e : Some its.aim ≡ Some aim = sym its.aim_is ∙ ap (λ (y : Open). slice_get y.request.targets.items target) same_request ∙ aim_is in cc e

        moves : IsDataTransfer old.core o.request aim ends.flight
        moves = subst (λ (t : Target). IsDataTransfer old.core o.request t ends.flight) same_aim (subst (λ (y : Open). IsDataTransfer old.core y.request its.aim ends.flight) same_request its.moves)

    data_end : (ok : Bool) → Returns old new at row ok buf → DataLearns old.core at id target ok buf new.core → GetsItsBlocks old new
    data_end ok returns it = set_one it.place it.its.request (learned it.its.request target ok buf) it.its.there (marked_stays _ new.core _ it.entails.is).requests (hand ok returns (keeps_buffer it.its.request ok) refl)
        (not_landed it.its.request (learned it.its.request target ok buf) refl)
      where
        hand : (ok : Bool) → Returns old new at row ok buf → (b : Bool) → keeps_buffer it.its.request ok ≡ b → IfSome (if b then Some buf else it.its.request.got) (IsItsBuffer old new it.its.request)
        hand ok returns false e = had it.its.request it.its.request.got refl
        hand false returns true e = not_so e
        hand true returns true e = inr (read returns it.place it.its.request it.its.aim it.its.there it.its.aim_is it.own (reads (is_write it.its.request.request.ask) e))
          where
            reads : (w : Bool) → not w ≡ true → w ≡ false
            reads true e = not_so e
            reads false e = refl

  ended : IsSound old → old.core.power ≡ power.On → (at : ℕ) → Ends old new at → GetsItsBlocks old new
  ended sound on at it = by it.row.owner refl it.learns
    where
      by : (who : Owner) → it.row.owner ≡ who → Learns who old.core at it.ok it.buf new.core → GetsItsBlocks old new
      by (owner.Data id target) own learns = data_end sound on at id target it.row it.buf own it.ok it.returns learns
      by (owner.Status disk) own learns = stay (status_stays old.core new.core at disk it.ok it.buf learns).requests
      by (owner.Note disk) own learns = stay (note_stays old.core new.core at disk it.ok it.buf learns).requests
      by owner.Copy own learns = stay (copy_stays _ it.ok old.core new.core at learns.copy it.buf learns.learns).requests

  -- ---- a turn

  moved : IsSound old → old.core.power ≡ power.On → (it : Event) → Makes it old new → GetsItsBlocks old new
  moved sound on (event.Land place how) made = land sound on place how made
  moved sound on (event.Admit place) made =
      let o = made.request in
      set_one place o (admitted_as (policy_of old.core o.request.ask) (mode_of old.core o.request.ask) made.targets o) made.there (ap (λ (s : State). s.core.requests) made.is) (had o o.got refl) (not_landed o (admitted_as (policy_of old.core o.request.ask) (mode_of old.core o.request.ask) made.targets o) refl)
  moved sound on (event.Pin place) made =
      let o = made.request in
      set_one place o (record o { request = with_pin o.request }) made.there (ap (λ (s : State). s.core.requests) made.is) (had o o.got refl) (not_landed o (record o { request = with_pin o.request }) refl)
  moved sound on event.StartStatus made = stay (ap (λ (s : State). s.core.requests) made.is)
  moved sound on (event.StartNote place disk) made = stay (ap (λ (s : State). s.core.requests) made.is)
  moved sound on (event.StartData place target) made =
      let o = made.its.request in
      set_one place o (begun_as target o) made.its.there (ap (λ (s : State). s.core.requests) made.is) (had o o.got refl) (not_landed o (begun_as target o) refl)
  moved sound on event.ReadCopy made = stay (ap (λ (s : State). s.core.requests) made.is)
  moved sound on event.WriteCopy made = stay (ap (λ (s : State). s.core.requests) made.is)

  finished : IsSound old → old.core.power ≡ power.On → (answer : Turned) → FinishMakes old new answer → GetsItsBlocks old new
  finished sound on turned.Moved made = ended sound on made.0 made.1
  finished sound on turned.Idle (inl finds) = stay (ap (λ (c : Core). c.requests) finds.is)
  finished sound on turned.Idle (inr nothing) = stay (ap (λ (s : State). s.core.requests) nothing.is)
  finished sound on turned.Dark made = all_land outcome.Dark refl (ap (λ (c : Core). c.requests) made.1.is)
  finished sound on turned.Off made = all_land outcome.Off refl (ap (λ (s : State). s.core.requests) made.is)

  made_on : IsSound old → old.core.power ≡ power.On → (answer : Turned) → OnMakes old new answer → GetsItsBlocks old new
  made_on sound on answer (Moves it first made is) = moved sound on it made
  made_on sound on answer (NoStart it first start dark is) = all_land outcome.Dark refl (ap (λ (c : Core). c.requests) dark.is)
  made_on sound on answer (Finishes none made) = finished sound on answer made

  pub turn_gets : IsSound old → (answer : Turned) → TurnMakes old new answer → GetsItsBlocks old new
  turn_gets sound answer (WasDark dark is same) = stay (ap (λ (s : State). s.core.requests) same)
  turn_gets sound answer (WasOff off is same) = stay (ap (λ (s : State). s.core.requests) same)
  turn_gets sound answer (WasOn on made) = made_on sound on answer made

-- Turns before a command: they keep the table, and at rest they change nothing.
use Rattle.std.proofs.Common.{◌≡◌, ◌⊎◌, inl, inr, ℕ, Bool, true, false, ◌&&◌, not, if◌then◌else◌, List, [], ◌∷◌, Option, Some, None, length, refl, sym, ◌∙◌, ap, subst, arith}
use Rattle.std.specs.Prelude.{bytes_eq, is_none, slice_get}
use Rattle.std.specs.Option.{option_map_or}
use Rattle.std.proofs.lemmas.Bool.{eq-eqb}
use Rattle.std.proofs.lemmas.Slice.Eq.{bytes_eq-Decides}
use Rattle.std.specs.List.{list_any}
use Rattle.lvm_num.specs.declared.descriptor.PvRow.{PvRow}
use Rattle.lvm_num.specs.declared.status.Status.{Status}
use Rattle.lvm_num.specs.declared.status.StatusRow.{StatusRow}
use Rattle.lvm_num.specs.Disks.{has}
use Rattle.lvm_disk.specs.Device.{Flight}
use Rattle.lvm_disk.specs.Counts.{NoneFalls}
use Rattle.lvm_disk.specs.Paths.{Path, Here, Then}
use Rattle.lvm_disk.proofs.CountingLemmas.{none_falls_at_once, none_falls_on}
use Rattle.lvm_session.specs.declared.answers.Turned.{Turned}
use Rattle.lvm_session.specs.declared.answers.Turned.TheVariants as turned
use Rattle.lvm_session.specs.declared.bringing.OpenCopy.{OpenCopy}
use Rattle.lvm_session.specs.declared.event.Event.{Event}
use Rattle.lvm_session.specs.declared.event.Event.TheVariants as event
use Rattle.lvm_session.specs.declared.flown.Flown.{Flown}
use Rattle.lvm_session.specs.declared.open.Open.{Open}
use Rattle.lvm_session.specs.declared.open.Power.TheVariants as power
use Rattle.lvm_session.specs.State.{Core, State}
use Rattle.lvm_session.specs.Enabled.{admission_at, data_at, first_event, first_from, first_of, has_buffer, is_lost, is_status_due, landing, landing_at, may_read, may_write, note_at, or_next, parts_to_settle, parts_to_start, pinning_at, same_rows, same_status}
use Rattle.lvm_session.specs.Judging.{is_missing}
use Rattle.lvm_session.specs.Sound.{IsSound}
use Rattle.lvm_session.specs.Turns.{FinishMakes, OnMakes, TurnMakes, WasDark, WasOff, WasOn, Moves, NoStart, Finishes}
use Rattle.lvm_range_lines.specs.passed.Driver.{IsAny, IsTurn}
use Rattle.lvm_range_lines.proofs.passed.KeepsEvents.{turn_counts, turn_keeps, turn_marks, loses_both, loses_none, turn_loses}
use Rattle.lvm_range_lines.specs.passed.KeepsEvents.{LosesByFaults}
use Rattle.lvm_range_lines.proofs.passed.Handover.{none_flown}
use Rattle.lvm_range_lines.specs.passed.Ranges.{KeepsTable}
use Rattle.lvm_range_lines.proofs.passed.Ranges.{table_same, table_then, turn_table}

-- ---- the table

-- turns leave it sound, with the same requests, and make disks missing by faults alone, whose counts never fall, and for good
pub record TurnsKeep (old new : State) : Type 0 where
  pub sound : IsSound new
  pub table : KeepsTable old.core new.core
  pub counts : NoneFalls old.device.counts new.device.counts
  pub loses : LosesByFaults old new
  pub missing : (disk : ℕ) → is_missing old.core disk ≡ true → is_missing new.core disk ≡ true

pub turns_keep : (old new : State) → IsSound old → Path IsTurn IsAny old new → TurnsKeep old new
turns_keep old _ sound (Here any) = record { sound = sound; table = table_same old.core; counts = none_falls_at_once old.device.counts; loses = loses_none old; missing = λ disk is. is }
turns_keep old new sound (Then {m = mid} path turn any) =
    let before = turns_keep old mid sound path in
    let counts = turn_counts mid new turn.0 turn.1 in
    record {
      sound = turn_keeps mid new turn.0 before.sound turn.1;
      table = table_then old.core mid.core new.core before.table (turn_table mid new turn.0 before.sound turn.1);
      counts = none_falls_on before.counts counts;
      loses = loses_both old mid new before.counts counts before.loses (turn_loses mid new turn.0 before.sound turn.1);
      missing = λ disk is. (turn_marks mid new before.sound turn.0 turn.1).missing disk (before.missing disk is);
    }

-- a table without requests stays so
pub none_stay : (old new : List Open) → old ≡ [] → length new ≡ length old → new ≡ []
none_stay old [] none long = refl
none_stay old (o ∷ os) none long = absurd (let e = long ∙ ap length none in cc e)

-- ---- at rest

rows_same : (rows : List StatusRow) → same_rows rows rows ≡ true
rows_same [] = refl
rows_same (row ∷ rows) =
    ap (λ (b : Bool). b && (if row.missing then row.missing else not row.missing) && bytes_eq row.stale row.stale && same_rows rows rows) (eq-eqb row.disk row.disk refl)
    ∙ ap (λ (b : Bool). b && bytes_eq row.stale row.stale && same_rows rows rows) (either row.missing)
    ∙ ap (λ (b : Bool). b && same_rows rows rows) ((bytes_eq-Decides row.stale row.stale).1 refl) ∙ rows_same rows
  where
    either : (b : Bool) → (if b then b else not b) ≡ true
    either true = refl
    either false = refl

status_same : (s : Status) → same_status s s ≡ true
status_same s =
    ap (λ (b : Bool). b && (if s.big then s.big else not s.big) && bytes_eq s.dirty s.dirty && same_rows s.rows s.rows) (eq-eqb s.id s.id refl)
    ∙ ap (λ (b : Bool). b && bytes_eq s.dirty s.dirty && same_rows s.rows s.rows) (either s.big)
    ∙ ap (λ (b : Bool). b && same_rows s.rows s.rows) ((bytes_eq-Decides s.dirty s.dirty).1 refl) ∙ rows_same s.rows
  where
    either : (b : Bool) → (if b then b else not b) ≡ true
    either true = refl
    either false = refl

-- Nothing is under way in a session that is on, and nothing is wanted that isn't committed.
pub record IsStill (s : State) : Type 0 where
  pub sound : IsSound s
  pub on : s.core.power ≡ power.On
  pub requests : s.core.requests ≡ []
  pub copy : s.core.copy ≡ None
  pub in_flight : s.core.status.in_flight ≡ None
  pub committed : s.core.status.committed ≡ s.core.status.wanted
  pub votes : is_lost s.core ≡ false
  pub idle : s.device.flights ≡ []

module _ (s : State) (still : IsStill s) where
  abbrev core : Core
  core = s.core

  no_status : is_status_due core ≡ false
  no_status = by core.status.in_flight still.in_flight
    where
      by : (o : Option Status) → o ≡ None → (if is_none o then not (same_status core.status.wanted core.status.committed) else list_any (λ (row : PvRow). has core.status.writes.unstarted row.disk) core.status.group.pvs) ≡ false
      by None none = ap (λ (t : Status). not (same_status core.status.wanted t)) still.committed ∙ ap not (status_same core.status.wanted)
      by (Some t) none = absurd (cc (none))

  settles : first_of parts_to_settle core ≡ None
  settles = ap (λ (os : List Open). or_next (first_from (landing_at core) 0 os) (or_next (first_from (admission_at core) 0 os) (or_next (first_from (pinning_at core) 0 os) None))) still.requests

  starts : first_of parts_to_start core ≡ None
  starts =
      ap (λ (due : Bool). parts due core.requests core.copy) no_status ∙ ap (λ (os : List Open). parts false os core.copy) still.requests ∙ ap (λ (c : Option OpenCopy). parts false [] c) still.copy
      ∙ by (has_buffer core)
    where
      with_buffer : Bool → Option Event → Option Event
      with_buffer buffer it = if buffer then it else None

      parts : Bool → List Open → Option OpenCopy → Option Event
      parts due os c =
          or_next (if has_buffer core then (if due then Some event.StartStatus else None) else None)
          (or_next (if has_buffer core then first_from (note_at core) 0 os else None)
          (or_next (if has_buffer core then first_from (data_at core) 0 os else None)
          (or_next (if has_buffer core then (if option_map_or (may_read core) c false then Some event.ReadCopy else None) else None)
          (or_next (if option_map_or may_write c false then Some event.WriteCopy else None) None))))

      by : (buffer : Bool)
          → or_next (if buffer then None else None) (or_next (if buffer then None else None) (or_next (if buffer then None else None) (or_next (if buffer then None else None) None))) ≡ None
      by true = refl
      by false = refl

  no_event : first_event core ≡ None
  no_event =
      ap (λ (b : Bool). if b then landing core else or_next (first_of parts_to_settle core) (first_of parts_to_start core)) still.votes
      ∙ ap (λ (o : Option Event). or_next o (first_of parts_to_start core)) settles ∙ starts

  no_some : {X : Type 0} (it : Event) → first_event core ≡ Some it → X
  no_some it is = absurd (let e : None ≡ Some it = sym no_event ∙ is in cc e)

  none_flies : core.flying ≡ []
  none_flies = none_flown core core.flying s.device.flights (still.sound.on still.on).rows still.idle

  -- a turn finds nothing, unless the power is cut
  finishes : (new : State) (answer : Turned) → FinishMakes s new answer → (new ≡ s) ⊎ (new.core.power ≡ power.Dark)
  finishes new turned.Moved ends = absurd (nobody ends.0 ends.1.row (ap (λ (rows : List Flown). slice_get rows ends.0) (sym none_flies) ∙ ends.1.returns.there))
    where
      nobody : (at : ℕ) (row : Flown) → slice_get [] at ≡ Some row → ⊥
      nobody at row is = cc (is)
  finishes new turned.Idle (inl finds) = absurd (let out = finds.waits.out in let none : length s.device.flights ≡ 0 = ap (λ (fs : List Flight). length fs) still.idle in omega (arith, out, none))
  finishes new turned.Idle (inr nothing) = inl nothing.is
  finishes new turned.Dark dark = inr (ap (λ (c : Core). c.power) dark.1.is)
  finishes new turned.Off off = absurd (let e : false ≡ true = sym still.votes ∙ off.lost in cc e)

  makes : (new : State) (answer : Turned) → OnMakes s new answer → (new ≡ s) ⊎ (new.core.power ≡ power.Dark)
  makes new answer (Moves it first made is) = no_some it first
  makes new answer (NoStart it first start dark is) = no_some it first
  makes new answer (Finishes none made) = finishes new answer made

  still_turn : (new : State) (answer : Turned) → TurnMakes s new answer → (new ≡ s) ⊎ (new.core.power ≡ power.Dark)
  still_turn new answer (WasDark dark is same) = inl same
  still_turn new answer (WasOff off is same) = inl same
  still_turn new answer (WasOn on made) = makes new answer made

-- what is on after a turn was on before it
on_before : (old new : State) (answer : Turned) → TurnMakes old new answer → new.core.power ≡ power.On → old.core.power ≡ power.On
on_before old new answer (WasDark dark is same) on = ap (λ (s : State). s.core.power) (sym same) ∙ on
on_before old new answer (WasOff off is same) on = ap (λ (s : State). s.core.power) (sym same) ∙ on
on_before old new answer (WasOn was made) on = was

-- so turns of such a session that is on after them have changed nothing
pub still_turns : (old new : State) → IsStill old → Path IsTurn IsAny old new → new.core.power ≡ power.On → new ≡ old
still_turns old _ still (Here any) on = refl
still_turns old new still (Then {m = mid} path turn any) on =
    let same = still_turns old mid still path (on_before mid new turn.0 turn.1 on) in
    by same (still_turn old still new turn.0 (subst (λ (s : State). TurnMakes s new turn.0) same turn.1))
  where
    by : mid ≡ old → (new ≡ old) ⊎ (new.core.power ≡ power.Dark) → new ≡ old
    by same (inl is) = is
    by same (inr dark) = absurd (let e : power.On ≡ power.Dark = sym on ∙ dark in cc e)

-- and else the power was cut
pub dark_or_still : (old new : State) → IsStill old → Path IsTurn IsAny old new → (new ≡ old) ⊎ (new.core.power ≡ power.Dark)
dark_or_still old _ still (Here any) = inl refl
dark_or_still old new still (Then {m = mid} path turn any) = by (dark_or_still old mid still path)
  where
    by : (mid ≡ old) ⊎ (mid.core.power ≡ power.Dark) → (new ≡ old) ⊎ (new.core.power ≡ power.Dark)
    by (inl same) = still_turn old still new turn.0 (subst (λ (s : State). TurnMakes s new turn.0) same turn.1)
    by (inr dark) = inr (stays turn.1)
      where
        stays : TurnMakes mid new turn.0 → new.core.power ≡ power.Dark
        stays (WasDark was is same) = ap (λ (s : State). s.core.power) same ∙ dark
        stays (WasOff off is same) = ap (λ (s : State). s.core.power) same ∙ dark
        stays (WasOn on made) = absurd (let e : power.On ≡ power.Dark = sym on ∙ dark in cc e)

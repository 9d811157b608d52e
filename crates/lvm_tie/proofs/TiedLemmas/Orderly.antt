-- What a sound session says of its requests and of what it has out, as the tie needs it.
use Rattle.std.proofs.Common.{◌≡◌, ℕ, zero, suc, ◌<◌, Bool, true, false, ◌&&◌, ◌||◌, ◌==◌, not, if◌then◌else◌, List, [], ◌∷◌, length, Option, Some, None, slice_get, refl, sym, ap, subst, ◌∙◌, arith}
use Rattle.std.specs.Prelude.{unwrap_or, AllPairs, IsTrue, nat_lt}
use Rattle.std.specs.Option.{option_map_or}
use Rattle.std.proofs.lemmas.Map.Keys.{any_passes_from_place}
use Rattle.std.proofs.lemmas.Bool.Decides.{nat_tests}
use Rattle.std.proofs.lemmas.Option.{get_or_from_slice_get, slice_get_within}
use Rattle.std.proofs.lemmas.Bool.{eq-eqb, eqb-true, and_parts}
use Rattle.lvm_keeps_events.proofs.Lists.{all_true_at, none_of_zero, found_at}
use Rattle.arrayvec.specs.ArrayVec.{ArrayVec}
use Rattle.lvm_num.specs.declared.record.NoteEntry.{NoteEntry}
use Rattle.lvm_num.specs.declared.record.Kind.{Kind}
use Rattle.lvm_num.specs.declared.record.Kind.TheVariants as kind
use Rattle.lvm_num.specs.declared.status.Status.{Status}
use Rattle.lvm_num.specs.Buffer.{Sector}
use Rattle.lvm_num.specs.Descriptor.{IsValid}
use Rattle.lvm_num.specs.Disks.{has}
use Rattle.lvm_num.specs.Geometry.{sector_of}
use Rattle.lvm_num.specs.Note.{Noted, note_bytes, note_in}
use Rattle.lvm_num.specs.Record.{frame, record_sectors, slot_start}
use Rattle.lvm_num.proofs.NoteLemmas.{written_is_read}
use Rattle.lvm_num.proofs.Booleans.{not_so}
use Rattle.lvm_num.proofs.Lists.{all_at}
use Rattle.lvm_vol.specs.Facts.{Request as Asked}
use Rattle.lvm_vol.specs.Log.{no_request, request_of}
use Rattle.lvm_disk.specs.Device.{Flight}
use Rattle.lvm_kept.specs.Contents.{note_sector}
use Rattle.lvm_kept.specs.Group.{names_if}
use Rattle.lvm_kept.specs.Torn.{RecordWrite}
use Rattle.lvm_mwc.specs.Notes.{names_group}
use Rattle.lvm_mwc.specs.Cache.{flight_on}
use Rattle.lvm_sched.specs.Writes.{is_flying, is_waiting as is_unstarted}
use Rattle.lvm_sched.specs.declared.writes.TargetState.{TargetState}
use Rattle.lvm_sched.specs.declared.writes.TargetState.TheVariants as target
use Rattle.lvm_path.specs.declared.request.Phase.{Phase}
use Rattle.lvm_path.specs.declared.request.Phase.TheVariants as phase
use Rattle.lvm_path.specs.declared.target.Target.{Target}
use Rattle.lvm_path.specs.Asks.{at_of, count_of, is_write}
use Rattle.lvm_path.specs.Targets.{is_begun, is_over}
use Rattle.lvm_status.specs.Update.{Stored}
use Rattle.lvm_rec.specs.declared.homes.Homes.{Homes}
use Rattle.lvm_session.specs.declared.open.Open.{Open}
use Rattle.lvm_session.specs.declared.bringing.OpenCopy.{OpenCopy}
use Rattle.lvm_session.specs.declared.bringing.Step.{Step}
use Rattle.lvm_session.specs.declared.bringing.Step.TheVariants as step
use Rattle.lvm_session.specs.declared.flown.Flown.{Flown}
use Rattle.lvm_session.specs.declared.flown.Owner.{Owner}
use Rattle.lvm_session.specs.declared.flown.Owner.TheVariants as owner
use Rattle.lvm_session.specs.State.{Core, State}
use Rattle.lvm_session.specs.Judging.{is_waiting}
use Rattle.lvm_session.specs.Dark.{IsAscending}
use Rattle.lvm_session.specs.Events.{IsDataTransfer, IsCopyTransfer}
use Rattle.lvm_session.specs.Owners.{AreRows, HaveTickets as DifferInTickets, IsDataOf, IsNoteOf, IsStatusOf, IsStepOf, IsTransferOf, flies, same_owner, target_flies}
use Rattle.lvm_session.specs.Requests.{IsOpenOne, IsPhase, IsRequest, IsTarget}
use Rattle.lvm_session.specs.Sound.{IsAsked, IsGoing, IsOn, IsSound}
use Rattle.lvm_tie.specs.Out.{AreNotes, IsWriteOf, is_owed_on}
use Rattle.lvm_tie.specs.Tied.{IsOrderly}

-- ---- lists

-- ---- the table

-- no two requests of the table have one number
abbrev pub HaveNumbers : Core → Type 0
HaveNumbers core = (j k : ℕ) (a b : Open) → slice_get core.requests j ≡ Some a → slice_get core.requests k ≡ Some b → a.request.id ≡ b.request.id → j ≡ k

apart : (os : List Open) (j k : ℕ) (a b : Open) → IsAscending os → slice_get os j ≡ Some a → slice_get os k ≡ Some b → a.request.id ≡ b.request.id → j ≡ k
apart [] j k a b rises at too same = absurd (cc at)
apart (o ∷ os) zero zero a b rises at too same = refl
apart (o ∷ os) zero (suc k) a b rises at too same = let first : o ≡ a = cc at in let less = all_at (λ (later : Open). o.request.id < later.request.id) os k b rises.0 too in let e : o.request.id ≡ a.request.id = ap (λ (x : Open). x.request.id) first in absurd (omega (arith, less, e, same))
apart (o ∷ os) (suc j) zero a b rises at too same = let first : o ≡ b = cc too in let less = all_at (λ (later : Open). o.request.id < later.request.id) os j a rises.0 at in let e : o.request.id ≡ b.request.id = ap (λ (x : Open). x.request.id) first in absurd (omega (arith, less, e, same))
apart (o ∷ os) (suc j) (suc k) a b rises at too same = ap (λ n. suc n) (apart os j k a b rises.1 at too same)

-- no two transfers have one ticket
abbrev pub HaveTickets : List Flown → Type 0
HaveTickets rows = (j k : ℕ) (a b : Flown) → slice_get rows j ≡ Some a → slice_get rows k ≡ Some b → a.ticket ≡ b.ticket → j ≡ k

tickets_differ : (rows : List Flown) → DifferInTickets rows → HaveTickets rows
tickets_differ [] differ j k a b at too same = absurd (cc at)
tickets_differ (r ∷ rows) differ zero zero a b at too same = refl
tickets_differ (r ∷ rows) differ zero (suc k) a b at too same =
    let first : r ≡ a = cc at in
    let is : (b.ticket == r.ticket) ≡ true = eq-eqb b.ticket r.ticket (sym same ∙ ap (λ (x : Flown). x.ticket) (sym first)) in
    absurd (let e : true ≡ false = sym (any_passes_from_place (λ (other : Flown). other.ticket == r.ticket) rows k b too is) ∙ differ.0 in cc)
tickets_differ (r ∷ rows) differ (suc j) zero a b at too same =
    let first : r ≡ b = cc too in
    let is : (a.ticket == r.ticket) ≡ true = eq-eqb a.ticket r.ticket (same ∙ ap (λ (x : Flown). x.ticket) (sym first)) in
    absurd (let e : true ≡ false = sym (any_passes_from_place (λ (other : Flown). other.ticket == r.ticket) rows j a at is) ∙ differ.0 in cc)
tickets_differ (r ∷ rows) differ (suc j) (suc k) a b at too same = ap (λ n. suc n) (tickets_differ rows differ.1 j k a b at too same)

-- partitions of targets differ
abbrev pub Differ : List Target → Type 0
Differ ts = (j k : ℕ) (t u : Target) → slice_get ts j ≡ Some t → slice_get ts k ≡ Some u → t.pp ≡ u.pp → j ≡ k

module _ (ts : List Target) (pairs : AllPairs (λ (a b : Target). a.pp ≡ b.pp → ⊥) ts) where
  clash_at : (j k : ℕ) (t u : Target) → slice_get ts j ≡ Some t → slice_get ts k ≡ Some u → j < k → t.pp ≡ u.pp → ⊥
  clash_at j k t u at too less same =
      pairs j k t less (slice_get_within ts k u too)
      (ap (λ (x : Target). x.pp) (get_or_from_slice_get ts j t t at) ∙ same ∙ ap (λ (x : Target). x.pp) (sym (get_or_from_slice_get ts k u t too)))

  pub targets_differ : Differ ts
  targets_differ j k t u at too same = by (nat_lt j k) (nat_lt k j) refl refl
    where
      by : (a b : Bool) → nat_lt j k ≡ a → nat_lt k j ≡ b → j ≡ k
      by true b is other = absurd (clash_at j k t u at too (grind (arith, nat_tests)) same)
      by false true is other = absurd (clash_at k j u t too at (grind (arith, nat_tests)) (sym same))
      by false false is other = grind (arith, nat_tests)

-- a request of the table that hasn't landed: each target has its sector, their partitions differ, and the history has its blocks
pub record HasTargets (core : Core) (o : Open) : Type 0 where
  pub sectors : (k : ℕ) (t : Target) → slice_get o.request.targets.items k ≡ Some t → t.sector ≡ sector_of core.descriptor.mib t.pp.pp (at_of o.request.ask)
  pub differ : Differ o.request.targets.items
  pub first : (request_of core.history.facts o.request.id).at ≡ at_of o.request.ask
  pub blocks : is_write o.request.ask ≡ true → length (request_of core.history.facts o.request.id).blocks ≡ count_of o.request.ask

pub begun_by : (ts : List Target) (number : ℕ) (t : Target) → slice_get ts number ≡ Some t → is_unstarted t.state ≡ false → is_begun ts ≡ true
begun_by ts number t there started = any_passes_from_place (λ (u : Target). not (is_unstarted u.state)) ts number t there (ap not started)

-- ---- what is out

-- The transfer of a request's target that is out.
pub record IsDataOut (core : Core) (f : Flight) (id number : ℕ) : Type 0 where
  pub place : ℕ
  pub request : Open
  pub there : slice_get core.requests place ≡ Some request
  pub own : request.request.id ≡ id
  pub waiting : is_waiting request ≡ true
  pub moving : request.request.phase ≡ phase.Data
  pub aim : Target
  pub aim_is : slice_get request.request.targets.items number ≡ Some aim
  pub flies : aim.state ≡ target.Flying
  pub moves : IsDataTransfer core request.request aim f

-- a write of the update
pub record IsStatusOut (core : Core) (w : RecordWrite) (f : Flight) (disk : ℕ) : Type 0 where
  pub disk_is : f.disk ≡ disk
  pub started : has core.status.writes.started disk ≡ true
  pub target : IsTrue (w.targets disk)
  pub write : f.write ≡ true
  pub first : f.first ≡ slot_start w.kind (w.slots disk)
  pub count : f.count ≡ record_sectors (length w.framed.content)
  pub carries : (k : ℕ) → k < f.count → slice_get f.buf.sectors k ≡ Some (frame w.kind w.framed.stamp w.framed.content k)

abbrev pub IsOfUpdateOut : Core → Option RecordWrite → Flight → ℕ → Type 0
IsOfUpdateOut core None f disk = ⊥
IsOfUpdateOut core (Some w) f disk = IsStatusOut core w f disk

-- a note
pub record IsNoteOut (core : Core) (f : Flight) (disk : ℕ) : Type 0 where
  pub disk_is : f.disk ≡ disk
  pub items : ArrayVec NoteEntry
  pub flies : flight_on core.cache disk ≡ Some items
  pub write : f.write ≡ true
  pub first : f.first ≡ note_sector
  pub count : f.count ≡ 1
  pub sector : Sector
  pub carries : slice_get f.buf.sectors 0 ≡ Some sector
  pub names : (lv g : ℕ) → names_if (note_in sector) lv g ≡ names_group items.items lv g

abbrev pub StepIsOut : Core → OpenCopy → Step → Flight → Type 0
StepIsOut core c step.Idle f = ⊥
StepIsOut core c (step.Reading source) f = IsCopyTransfer core c source false f
StepIsOut core c (step.Read buf) f = ⊥
StepIsOut core c step.Writing f = IsCopyTransfer core c c.pp true f

pub record IsCopyOut (core : Core) (f : Flight) : Type 0 where
  pub copy : OpenCopy
  pub is_open : core.copy ≡ Some copy
  pub out : StepIsOut core copy copy.step f

abbrev pub IsOut : Core → Option RecordWrite → Flight → Owner → Type 0
IsOut core w f (owner.Data id number) = IsDataOut core f id number
IsOut core w f (owner.Status disk) = IsOfUpdateOut core w f disk
IsOut core w f (owner.Note disk) = IsNoteOut core f disk
IsOut core w f owner.Copy = IsCopyOut core f

-- each transfer of the shelf is that of its owner, in the same order
abbrev pub AreOut : Core → Option RecordWrite → List Flight → List Flown → Type 0
AreOut core w [] [] = Unit {0}
AreOut core w (f ∷ fs) (row ∷ rows) = (f.ticket ≡ row.ticket) × IsOut core w f row.owner × AreOut core w fs rows
AreOut core w [] (row ∷ rows) = ⊥
AreOut core w (f ∷ fs) [] = ⊥

same_self : (who : Owner) → same_owner who who ≡ true
same_self (owner.Data id number) = ap (λ b. b && number == number) (eq-eqb id id refl) ∙ eq-eqb number number refl
same_self (owner.Status disk) = eq-eqb disk disk refl
same_self (owner.Note disk) = eq-eqb disk disk refl
same_self owner.Copy = refl

module _ (s : State) (w : Option RecordWrite) (orderly : IsOrderly s w) where
  abbrev core : Core
  core = s.core

  on : IsOn s
  on = orderly.sound.on orderly.on

  abbrev going : IsGoing core
  going = on.going

  pub valid_of : IsValid core.descriptor
  valid_of = orderly.sound.fitting.valid

  pub numbers_of : HaveNumbers core
  numbers_of j k a b at too same = apart core.requests j k a b going.told.table.ascending at too same

  pub tickets_of : HaveTickets core.flying
  tickets_of = tickets_differ core.flying going.tickets

  pub open_one : (k : ℕ) (o : Open) → slice_get core.requests k ≡ Some o → IsOpenOne core o
  open_one k o there = all_at (IsOpenOne core) core.requests k o going.requests there

  pub waiting_one : (k : ℕ) (o : Open) → slice_get core.requests k ≡ Some o → is_waiting o ≡ true → IsRequest core o
  waiting_one k o there waits = (open_one k o there).waits waits

  pub asked_one : (k : ℕ) (o : Open) → slice_get core.requests k ≡ Some o → IsAsked core.history.facts o
  asked_one k o there = all_at (IsAsked core.history.facts) core.requests k o going.told.requests there

  pub request_is : (k : ℕ) (o : Open) (there : slice_get core.requests k ≡ Some o) → request_of core.history.facts o.request.id ≡ (asked_one k o there).request
  request_is k o there = ap (λ (m : Option Asked). unwrap_or m no_request) (asked_one k o there).told

  pub targets_of : (k : ℕ) (o : Open) → slice_get core.requests k ≡ Some o → is_waiting o ≡ true → HasTargets core o
  targets_of k o there waits =
      let its = waiting_one k o there waits in
      let told = asked_one k o there in
      record {
        sectors = λ n t at. (all_at (IsTarget core o.request.ask) o.request.targets.items n t its.shape.targets at).sector;
        differ = targets_differ o.request.targets.items its.shape.differ;
        first = ap (λ (r : Asked). r.at) (request_is k o there) ∙ told.at;
        blocks = λ writes. ap (λ (r : Asked). length r.blocks) (request_is k o there) ∙ told.length (told.write ∙ writes) ∙ told.count;
      }

  -- ---- what is out

  flies_at : (k : ℕ) (row : Flown) → slice_get core.flying k ≡ Some row → flies core row.owner ≡ true
  flies_at k row there = by (flies core row.owner) refl
    where
      by : (b : Bool) → flies core row.owner ≡ b → b ≡ true
      by true is = refl
      by false is =
          let none = none_of_zero (λ (f : Flown). same_owner row.owner f.owner) core.flying (going.owned row.owner ∙ ap (λ b. if b then 1 else 0) is) in
          sym none ∙ any_passes_from_place (λ (f : Flown). same_owner row.owner f.owner) core.flying k row there (same_self row.owner)

  -- a request of which a transfer is out has not landed, and moves its data
  pub record IsMoving (o : Open) : Type 0 where
    pub waiting : is_waiting o ≡ true
    pub moving : o.request.phase ≡ phase.Data

  is_moving : (k : ℕ) (o : Open) (number : ℕ) (t : Target) → slice_get core.requests k ≡ Some o → slice_get o.request.targets.items number ≡ Some t → t.state ≡ target.Flying → IsMoving o
  is_moving k o number t there at flying = by (is_waiting o) refl
    where
      started : is_begun o.request.targets.items ≡ true
      started = begun_by o.request.targets.items number t at (ap is_unstarted flying)

      by_phase : (p : Phase) → o.request.phase ≡ p → IsPhase p o → p ≡ phase.Data
      by_phase phase.Held is its = absurd (let e : None ≡ Some t = ap (λ (ts : List Target). slice_get ts number) (sym its.0) ∙ at in cc)
      by_phase phase.WantEntry is its = absurd (let e : false ≡ true = sym its.0 ∙ started in cc)
      by_phase phase.WantRecord is its = absurd (let e : false ≡ true = sym its.0 ∙ started in cc)
      by_phase phase.Data is its = refl
      by_phase phase.WantStatus is its = absurd (let e : false ≡ true = sym (ap is_over flying) ∙ all_true_at (λ (u : Target). is_over u.state) o.request.targets.items number t its.1 at in cc)
      by_phase phase.Landed is its = absurd its

      by : (b : Bool) → is_waiting o ≡ b → IsMoving o
      by true waits = record { waiting = waits; moving = by_phase o.request.phase refl (waiting_one k o there waits).shape.phase_is }
      by false over = absurd (let e : false ≡ true = sym ((open_one k o there).still over) ∙ any_passes_from_place (λ (u : Target). is_flying u.state) o.request.targets.items number t at (ap is_flying flying) in cc)

  is_flying_state : (x : TargetState) → is_flying x ≡ true → x ≡ target.Flying
  is_flying_state target.Waiting is = not_so is
  is_flying_state target.Flying is = refl
  is_flying_state target.Done is = not_so is
  is_flying_state target.Failed is = not_so is

  data_out : (id number : ℕ) (f : Flight) → flies core (owner.Data id number) ≡ true → IsDataOf core id number f → IsDataOut core f id number
  data_out id number f out its =
      let found = found_at (λ (o : Open). o.request.id == id && target_flies number o) core.requests out in
      let parts = and_parts (found.1.request.id == id) (target_flies number found.1) found.3 in
      let same : found.0 ≡ its.place = numbers_of found.0 its.place found.1 its.request found.2 its.there (eqb-true found.1.request.id id parts.0 ∙ sym its.own) in
      let own : found.1 ≡ its.request = let e : Some found.1 ≡ Some its.request = sym found.2 ∙ ap (slice_get core.requests) same ∙ its.there in cc in
      let flying : is_flying its.aim.state ≡ true = sym (ap (λ (m : Option Target). option_map_or (λ (t : Target). is_flying t.state) m false) its.aim_is) ∙ ap (target_flies number) (sym own) ∙ parts.1 in
      let state : its.aim.state ≡ target.Flying = is_flying_state its.aim.state flying in
      let moves = is_moving its.place its.request number its.aim its.there its.aim_is state in
      record { place = its.place; request = its.request; there = its.there; own = its.own; waiting = moves.waiting; moving = moves.moving; aim = its.aim; aim_is = its.aim_is; flies = state; moves = its.moves }

  status_out : (disk : ℕ) (f : Flight) → has core.status.writes.started disk ≡ true → IsStatusOf core disk f → IsOfUpdateOut core w f disk
  status_out disk f started its = by core.status.in_flight w its.flies orderly.update
    where
      owed : is_owed_on core.status disk ≡ true
      owed = or_so (has core.status.writes.unstarted disk)
        where
          or_so : (b : Bool) → b || has core.status.writes.started disk ≡ true
          or_so true = refl
          or_so false = started

      by : (u : Option Status) (x : Option RecordWrite) → u ≡ Some its.status → IsWriteOf core.status core.homes u x → IsOfUpdateOut core x f disk
      by None x is update = absurd (cc is)
      by (Some u) None is update = absurd update
      by (Some u) (Some x) is update =
          let same : u ≡ its.status = cc is in
          let content = ap (λ (v : Status). Rattle.lvm_num.specs.StatusBytes.status_bytes v) (sym same) ∙ sym update.content in
          record {
            disk_is = its.writes.disk_is;
            started = started;
            target = update.targets disk owed;
            write = its.writes.write;
            first = its.writes.first ∙ ap (slot_start kind.Status) (sym (update.slots disk owed)) ∙ ap (λ (k : Kind). slot_start k (x.slots disk)) (sym update.is_status);
            count = its.writes.count ∙ ap (λ (c : List ℕ). record_sectors (length c)) content;
            carries = λ k less. its.writes.carries k less ∙ ap (λ (c : List ℕ). Some (frame kind.Status core.status.stamp c k)) content
                ∙ ap (λ st. Some (frame kind.Status st x.framed.content k)) (sym update.stamp) ∙ ap (λ (n : Kind). Some (frame n x.framed.stamp x.framed.content k)) (sym update.is_status);
          }

  note_out : (notes : AreNotes core) (disk : ℕ) (f : Flight) → IsNoteOf core disk f → IsNoteOut core f disk
  note_out notes disk f its =
      let note : Noted = record { stamp = core.status.stamp.epoch; entries = its.note.items } in
      record {
        disk_is = its.disk_is;
        items = its.note;
        flies = its.flies;
        write = its.write;
        first = its.first;
        count = its.count;
        sector = note_bytes note;
        carries = its.carries;
        names = λ lv g. ap (λ (m : Option Noted). names_if m lv g) (written_is_read note (notes disk its.note its.flies));
      }

  step_out : (st : Step) (c : OpenCopy) (f : Flight) → IsStepOf st core c f → StepIsOut core c st f
  step_out step.Idle c f its = its
  step_out (step.Reading source) c f its = its
  step_out (step.Read buf) c f its = its
  step_out step.Writing c f its = its

  one_out : (notes : AreNotes core) (who : Owner) (f : Flight) → flies core who ≡ true → IsTransferOf core who f → IsOut core w f who
  one_out notes (owner.Data id number) f out its = data_out id number f out its
  one_out notes (owner.Status disk) f out its = status_out disk f out its
  one_out notes (owner.Note disk) f out its = note_out notes disk f its
  one_out notes owner.Copy f out its = record { copy = its.0; is_open = its.1; out = step_out its.0.step its.0 f its.2 }

  all_out : (notes : AreNotes core) (fs : List Flight) (rows : List Flown) → ((k : ℕ) (row : Flown) → slice_get rows k ≡ Some row → flies core row.owner ≡ true) → AreRows core rows fs → AreOut core w fs rows
  all_out notes [] [] each its = tt
  all_out notes [] (row ∷ rows) each its = absurd its
  all_out notes (f ∷ fs) [] each its = absurd its
  all_out notes (f ∷ fs) (row ∷ rows) each its = (its.0.ticket, one_out notes row.owner f (each 0 row refl) its.0.own, all_out notes fs rows (λ k r at. each (suc k) r at) its.1)

  pub out_of : AreNotes core → AreOut core w s.device.flights core.flying
  out_of notes = all_out notes s.device.flights core.flying flies_at on.rows

-- where neither power nor status nor slots change
pub orderly_same : (old new : State) (w : Option RecordWrite) → IsOrderly old w → IsSound new → new.core.power ≡ old.core.power → new.core.status ≡ old.core.status → new.core.homes ≡ old.core.homes → IsOrderly new w
orderly_same old new w orderly sound power status homes = record {
  sound = sound;
  on = power ∙ orderly.on;
  update = subst (λ (h : Homes). IsWriteOf new.core.status h new.core.status.in_flight w) (sym homes) (subst (λ (s : Stored). IsWriteOf s old.core.homes s.in_flight w) (sym status) orderly.update);
}

-- A copy that is opened, tied.
use Rattle.std.proofs.Common.{◌≡◌, ℕ, ◌<◌, Bool, true, false, ◌&&◌, not, if◌then◌else◌, List, map, Option, Some, None, refl, sym, ap, subst, ◌∙◌, arith}
use Rattle.std.specs.Prelude.{MatchOption, Ok, Err, is_some, nat_lt}
use Rattle.std.specs.List.{list_any}
use Rattle.std.specs.Option.{option_map_or}
use Rattle.std.proofs.lemmas.Bool.{and_parts}
use Rattle.lvm_num.specs.declared.place.Pp.{Pp}
use Rattle.lvm_num.specs.declared.descriptor.LvRow.{LvRow}
use Rattle.lvm_num.specs.Descriptor.{copies_of, is_member, volume_of, is_pp}
use Rattle.lvm_vol.specs.Facts.{Fact}
use Rattle.lvm_disk.specs.Counts.{Counts}
use Rattle.lvm_map.proofs.PlacesLemmas.{mib_positive}
use Rattle.lvm_session.specs.declared.open.Power.{Power}
use Rattle.lvm_session.specs.declared.open.Power.TheVariants as power
use Rattle.lvm_session.specs.declared.bringing.OpenCopy.{OpenCopy}
use Rattle.lvm_session.specs.State.{Core, State, state}
use Rattle.lvm_session.specs.Judging.{is_missing, is_settled, is_stale, is_usable}
use Rattle.lvm_session.specs.Bringing.{groups_of, step_place}
use Rattle.lvm_session.specs.declared.answers.CopyFault.{CopyFault}
use Rattle.lvm_session.specs.declared.answers.CopyFault.TheVariants as refusal
use Rattle.lvm_session.specs.Calls.{Opens, aged, copy_at, copy_fault, faults_of, has_numbers, opened, refusal_at, refusal_when, refusal_in, refusal_on}
use Rattle.lvm_session.specs.Ends.{with_step}
use Rattle.lvm_session.specs.Sound.{IsSound}
use Rattle.lvm_invariant.specs.State.{ModelState}
use Rattle.lvm_tie.specs.Tied.{IsTied}
use Rattle.lvm_tie.proofs.StateLemmas.{IsOfItsPartition, its_partition, missing_seen, stale_there, there_first}
use Rattle.lvm_tie.proofs.SeenLemmas.Beside.{closed_beside}
use Rattle.lvm_tie.proofs.BringingLemmas.{one_is_copy_of, step_member, step_placed}
use Rattle.lvm_tie.proofs.CallsLemmas.Opening.{opening_ties, q}
use Rattle.lvm_tie.specs.Calls.{OpenTies}
use Rattle.lvm_places.specs.Places.{Marking}

-- ---- what isn't refused

-- no copy was open, and this one is settled as stale, on a disk that isn't missing
pub record IsOpened (core : Core) (lv lp number : ℕ) (pp : Pp) : Type 0 where
  pub none : core.copy ≡ None
  pub settled : is_settled core pp ≡ true
  pub there : is_missing core pp.disk ≡ false

none_there : (m : Option OpenCopy) → is_some m ≡ false → m ≡ None
none_there None h = refl
none_there (Some c) h = absurd (cc h)

at_pp : (core : Core) (copies : List Pp) (p : Pp) → refusal_at core copies p ≡ None → (is_settled core p ≡ true) × (is_missing core p.disk ≡ false)
at_pp core copies p none = by (is_settled core p) (is_missing core p.disk) refl refl none
  where
    by : (a b : Bool) → is_settled core p ≡ a → is_missing core p.disk ≡ b
        → (if not a then Some refusal.AlreadyFresh else if b then Some (refusal.Missing p.disk) else if not (list_any (λ (q : Pp). not (is_pp q p) && is_usable core q) copies) then Some refusal.NoFresh else if has_numbers core then None else Some refusal.HistoryFull) ≡ None
        → (is_settled core p ≡ true) × (is_missing core p.disk ≡ false)
    by false b sa sb h = absurd (cc h)
    by true true sa sb h = absurd (cc h)
    by true false sa sb h = (sa, sb)

is_opened : (core : Core) (lv lp number : ℕ) (row : LvRow) (pp : Pp) → core.power ≡ power.On → copy_fault core lv lp number ≡ None → volume_of core.descriptor lv ≡ Some row → copy_at (copies_of row lp) number ≡ Some pp → IsOpened core lv lp number pp
is_opened core lv lp number row pp on none volume its = by (is_some core.copy) refl (sym (ap (λ (p : Power). refusal_when p (refusal_on core lv lp number)) on) ∙ none)
  where
    in_row : refusal_in core row lp number ≡ None → (is_settled core pp ≡ true) × (is_missing core pp.disk ≡ false)
    in_row none2 = of (nat_lt lp row.lps) none2
      where
        of : (b : Bool) → (if b then option_map_or (refusal_at core (copies_of row lp)) (copy_at (copies_of row lp) number) (Some refusal.OutOfRange) else Some refusal.OutOfRange) ≡ None → (is_settled core pp ≡ true) × (is_missing core pp.disk ≡ false)
        of true h = at_pp core (copies_of row lp) pp (sym (ap (λ (m : Option Pp). option_map_or (refusal_at core (copies_of row lp)) m (Some refusal.OutOfRange)) its) ∙ h)
        of false h = absurd (cc h)

    by : (b : Bool) → is_some core.copy ≡ b → (if b then Some refusal.Busy else option_map_or (λ (r : LvRow). refusal_in core r lp number) (volume_of core.descriptor lv) (Some refusal.NoVolume)) ≡ None → IsOpened core lv lp number pp
    by true is h = absurd (cc h)
    by false is h =
        let its2 = in_row (sym (ap (λ (m : Option LvRow). option_map_or (λ (r : LvRow). refusal_in core r lp number) m (Some refusal.NoVolume)) volume) ∙ h) in
        record { none = none_there core.copy is; settled = its2.0; there = its2.1 }

-- ---- the opening

module _ (past : List Fact) (s : State) (new : Core) (counts : Counts) (lv lp number : ℕ) (tied : IsTied past s) (sound : IsSound (state s.device new)) (opens : Opens counts s.core new lv lp number)
    (may : IsOpened s.core lv lp number opens.pp) where
  abbrev core : Core
  core = s.core

  abbrev v : ModelState
  v = tied.view

  abbrev faults : List ℕ
  faults = faults_of counts (copies_of opens.row lp) opens.pp

  abbrev c : OpenCopy
  c = opened false opens.pp lv lp number opens.tried faults (step_place core)

  abbrev core2 : Core
  core2 = with_step (record core { requests = map aged core.requests }) c

  sound2 : IsSound (state s.device core2)
  sound2 = subst (λ (x : Core). IsSound (state s.device x)) opens.is sound

  -- the copy is a copy of its logical partition
  its : IsOfItsPartition core c
  its = let t = of_its_then in record { row = t.row; volume = t.volume; lp = t.lp; among = t.among; cursor = t.cursor }
    where
      of_its_then : IsOfItsPartition core2 c
      of_its_then = its_partition core2 c ((sound2.on tied.orderly.on).going.copy)

  some_groups : c.cursor < groups_of core
  some_groups = let e = mib_positive core.descriptor tied.orderly.sound.fitting.valid in omega (arith, e)

  stale_now : is_stale core opens.pp ≡ true
  stale_now = (and_parts (is_stale core opens.pp) _ may.settled).0

  member : is_member core.descriptor opens.pp.disk ≡ true
  member = step_member past s tied c its some_groups opens.pp (its.among refl)

  -- the state stays as it is
  abbrev marking : Marking
  marking = record { status = v.media.status; committed = v.committed; in_flight = v.in_flight; wanted = v.wanted }

  pub opened_ties : IsTied past (state s.device core2)
  opened_ties = opening_ties past s tied may.none core.origin false opens.pp lv lp number opens.tried faults sound2 v.is_copy v.media.block marking v.beside
      tied.good tied.describes tied.sees.status (tied.sees.beside ∙ closed_beside core may.none) (stale_there past s tied opens.pp stale_now) (missing_seen past s tied opens.pp.disk member ∙ may.there)
      (let p = step_placed past s tied c its some_groups (q past s tied may.none core.origin false opens.pp lv lp number opens.tried faults sound2 v.is_copy v.media.block marking v.beside) refl refl refl in record { place = p.place; inside = p.inside })
      (one_is_copy_of past s tied c its some_groups opens.pp (its.among refl) member (there_first past s tied opens.pp.disk may.there))
      tied.recorded

pub open_ties : OpenTies
open_ties past s new counts lv lp number answer tied sound gives = by (copy_fault s.core lv lp number) refl gives
  where
    by : (m : Option CopyFault) → copy_fault s.core lv lp number ≡ m → MatchOption m ((answer ≡ Ok tt) × Opens counts s.core new lv lp number) (λ (why : CopyFault). (answer ≡ Err why) × (new ≡ s.core)) → IsTied past (state s.device new)
    by None none done =
        let opens = done.1 in
        subst (λ (x : Core). IsTied past (state s.device x)) (sym opens.is)
        (opened_ties past s new counts lv lp number tied sound opens (is_opened s.core lv lp number opens.row opens.pp tied.orderly.on none opens.volume opens.copy_is))
    by (Some why) is done = subst (λ (x : Core). IsTied past (state s.device x)) (sym done.1) tied

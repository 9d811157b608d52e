-- A disk is missing since its note has failed: the status then, and what is out of the state that wants it.
use Rattle.std.proofs.Common.{◌≡◌, inl, inr, ⊎_elim, ℕ, Bool, true, false, ◌&&◌, ◌||◌, ◌==◌, not, eqb-true, List, [], ◌∷◌, Option, Some, None, refl, sym, ap, ◌∙◌}
use Rattle.std.specs.Prelude.{if◌then◌else◌}
use Rattle.std.specs.List.{list_any}
use Rattle.std.specs.Option.{option_map}
use Rattle.std.proofs.lemmas.Bool.{and_parts}
use Rattle.lvm_num.specs.declared.descriptor.Descriptor.{Descriptor}
use Rattle.lvm_num.specs.declared.descriptor.PvRow.{PvRow}
use Rattle.lvm_num.specs.declared.status.Status.{Status}
use Rattle.lvm_num.specs.Descriptor.{is_member}
use Rattle.lvm_num.specs.Disks.{has}
use Rattle.lvm_num.specs.Record.{Stamped}
use Rattle.lvm_num.specs.Status.{calls_missing}
use Rattle.lvm_disk.specs.Device.{Device, Media}
use Rattle.lvm_status.specs.Update.{Stored, Updates, is_held, is_owed, no_disks, seen, without_disk}
use Rattle.lvm_status.specs.Calls.{BecomesMissing}
use Rattle.lvm_status.specs.Runs.{IsSoundStatus}
use Rattle.lvm_session.specs.Ends.{LosesDisk}
use Rattle.lvm_invariant.specs.State.{Marks, Beside, ModelCopy, ModelState}
use Rattle.lvm_invariant.specs.Crash.{Brings, CopyBrings}
use Rattle.lvm_invariant.specs.Want.{after_wants}
use Rattle.lvm_crash.specs.Session.{is_beside, marks_of}
use Rattle.lvm_crash.specs.Flights.{HasOut, OnlyUpdateIsOut}
use Rattle.lvm_tie.proofs.AmongLemmas.{not_true, or_left}
use Rattle.lvm_tie.specs.Out.{is_owed_on}
use Rattle.lvm_tie.specs.Seen.{update_of}

-- a test that no row's disk passes isn't passed by that of a member
pub not_owed_by : (test : ℕ → Bool) (rows : List PvRow) (d : ℕ) → list_any (λ (row : PvRow). row.disk == d) rows ≡ true → list_any (λ (row : PvRow). test row.disk) rows ≡ false → test d ≡ false
not_owed_by test [] d member none = absurd (cc member)
not_owed_by test (r ∷ rows) d member none =
    let parts = or_left (test r.disk) (list_any (λ (row : PvRow). test row.disk) rows) none in
    by (r.disk == d) refl member parts.0 (λ there. not_owed_by test rows d there parts.1)
  where
    by : (b : Bool) → (r.disk == d) ≡ b → (b || list_any (λ (row : PvRow). row.disk == d) rows) ≡ true → test r.disk ≡ false → (list_any (λ (row : PvRow). row.disk == d) rows ≡ true → test d ≡ false) → test d ≡ false
    by true here h own rest = ap test (sym (eqb-true r.disk d here)) ∙ own
    by false there h own rest = rest h

-- no mark is another one where a disk is missing
pub same_marks : (beside : Option Beside) (disk : ℕ) (old new : Status) → BecomesMissing disk old new → marks_of beside new ≡ marks_of beside old
same_marks beside disk old new wants = λ t. record { stale = λ p. is_beside beside p || wants.stale p t; dirty = λ lv. list_any (λ n. n == lv) (wants.dirty t) }

-- ---- the status

module _ (old lost new : Stored) (disk : ℕ) (group : Descriptor) (group_is : old.group ≡ record group { lvs = [] }) (sound : IsSoundStatus (seen old)) (loses : LosesDisk disk old lost) (rest : seen new ≡ record (seen lost) { wanted = new.wanted }) where
  abbrev mid : Updates
  mid = record (seen old) { wanted = lost.wanted; unstarted = without_disk (has old.writes.unstarted) disk }

  -- the update that is in flight has ended by it
  abbrev pub over : Bool
  over = is_held mid && not (is_owed mid)

  abbrev then_by : Bool → Updates
  then_by b = let u : Updates = if b then record mid { in_flight = None; unstarted = no_disks; started = no_disks; written = no_disks; failed = no_disks } else mid in record u { wanted = new.wanted }

  is_then : seen new ≡ then_by over
  is_then = rest ∙ ap (λ (u : Updates). record u { wanted = new.wanted }) loses.rest

  pub committed_same : new.committed ≡ old.committed
  committed_same = ap (λ (u : Updates). u.committed) is_then ∙ by over
    where
      by : (b : Bool) → (then_by b).committed ≡ old.committed
      by true = refl
      by false = refl

  pub stamp_same : new.stamp ≡ old.stamp
  stamp_same = ap (λ (u : Updates). u.stamp) is_then ∙ by over
    where
      by : (b : Bool) → (then_by b).stamp ≡ old.stamp
      by true = refl
      by false = refl

  pub in_flight_is : new.in_flight ≡ (if over then None else old.in_flight)
  in_flight_is = ap (λ (u : Updates). u.in_flight) is_then ∙ by over
    where
      by : (b : Bool) → (then_by b).in_flight ≡ (if b then None else old.in_flight)
      by true = refl
      by false = refl

  pub update_is : update_of new ≡ (if over then None else update_of old)
  update_is = ap (λ (u : Updates). option_map (λ (t : Status). let r : Stamped Status = record { stamp = u.stamp; value = t } in r) u.in_flight) is_then ∙ by over
    where
      by : (b : Bool) → option_map (λ (t : Status). let r : Stamped Status = record { stamp = (then_by b).stamp; value = t } in r) (then_by b).in_flight ≡ (if b then None else update_of old)
      by true = refl
      by false = refl

  pub written_is : (d : ℕ) → has new.writes.written d ≡ (if over then false else has old.writes.written d)
  written_is d = ap (λ (u : Updates). u.written d) is_then ∙ by over
    where
      by : (b : Bool) → (then_by b).written d ≡ (if b then false else has old.writes.written d)
      by true = refl
      by false = refl

  started_is : (d : ℕ) → has new.writes.started d ≡ (if over then false else has old.writes.started d)
  started_is d = ap (λ (u : Updates). u.started d) is_then ∙ by over
    where
      by : (b : Bool) → (then_by b).started d ≡ (if b then false else has old.writes.started d)
      by true = refl
      by false = refl

  abbrev left_on : ℕ → Bool
  left_on d = (has old.writes.unstarted d && not (d == disk)) || has old.writes.started d

  owed_is : (d : ℕ) → is_owed_on new d ≡ (if over then false else left_on d)
  owed_is d = ap (λ (u : Updates). u.unstarted d || u.started d) is_then ∙ by over
    where
      by : (b : Bool) → ((then_by b).unstarted d || (then_by b).started d) ≡ (if b then false else left_on d)
      by true = refl
      by false = refl

  pub held_same : over ≡ false → is_held (seen new) ≡ is_held (seen old)
  held_same goes_on = ap is_held is_then ∙ ap (λ b. is_held (then_by b)) goes_on

  -- where it has ended, it was committed, and nothing of it is out
  pub flew : over ≡ true → (old.in_flight ≡ Some old.committed) × (is_held (seen old) ≡ true)
  flew ends = let held : is_held (seen old) ≡ true = (and_parts (is_held mid) (not (is_owed mid)) ends).0 in (sound.held held, held)

  none_left : over ≡ true → (d : ℕ) → is_member old.group d ≡ true → left_on d ≡ false
  none_left ends d member = not_owed_by left_on old.group.pvs d member (not_true (is_owed mid) (and_parts (is_held mid) (not (is_owed mid)) ends).1)

  pub none_started : over ≡ true → (d : ℕ) → has old.writes.started d ≡ false
  none_started ends d = by (has old.writes.started d) refl
    where
      by : (b : Bool) → has old.writes.started d ≡ b → has old.writes.started d ≡ false
      by false is = is
      by true is = (or_left (has old.writes.unstarted d && not (d == disk)) (has old.writes.started d) (none_left ends d (sound.started d is))).1

  -- each other member that was there has it
  pub all_written : over ≡ true → (d : ℕ) → is_member group d ≡ true → calls_missing old.wanted d ≡ false → (d == disk) ≡ false → has old.writes.written d ≡ true
  all_written ends d member present other =
      let inside : is_member old.group d ≡ true = ap (λ (g : Descriptor). is_member g d) group_is ∙ member in
      of (has old.writes.unstarted d) (has old.writes.started d) (has old.writes.written d)
      (sound.each old.committed (flew ends).0 d (λ t. inside t && not (present t)))
      (sym (ap (λ b. (has old.writes.unstarted d && not b) || has old.writes.started d) other) ∙ none_left ends d inside)
    where
      of : (u s w : Bool) → u || (s || w) ≡ true → (u && true) || s ≡ false → w ≡ true
      of true s w h k = absurd (cc k)
      of false true w h k = absurd (cc k)
      of false false w h k = h

  pub started_same : (d : ℕ) → has new.writes.started d ≡ has old.writes.started d
  started_same d = started_is d ∙ by over refl
    where
      by : (b : Bool) → over ≡ b → (if b then false else has old.writes.started d) ≡ has old.writes.started d
      by true ends = sym (none_started ends d)
      by false goes_on = refl

  -- what isn't owed then wasn't before, but on this disk
  pub owed_was : (d : ℕ) → is_member group d ≡ true → (d == disk) ≡ false → is_owed_on new d ≡ false → is_owed_on old d ≡ false
  owed_was d member other none = ap (λ b. b || has old.writes.started d) (sym (and_true (has old.writes.unstarted d)) ∙ ap (λ b. has old.writes.unstarted d && not b) (sym other)) ∙ by over refl (sym (owed_is d) ∙ none)
    where
      and_true : (b : Bool) → b && true ≡ b
      and_true true = refl
      and_true false = refl

      by : (b : Bool) → over ≡ b → (if b then false else left_on d) ≡ false → left_on d ≡ false
      by true ends h = none_left ends d (ap (λ (g : Descriptor). is_member g d) group_is ∙ member)
      by false goes_on h = h

  pub owed_still : (d : ℕ) → is_owed_on new d ≡ true → is_owed_on old d ≡ true
  owed_still d owed = by over (sym (owed_is d) ∙ owed)
    where
      either : (u x s : Bool) → (u && x) || s ≡ true → u || s ≡ true
      either true x s h = refl
      either false x s h = h

      by : (b : Bool) → (if b then false else left_on d) ≡ true → is_owed_on old d ≡ true
      by true h = absurd (cc h)
      by false h = either (has old.writes.unstarted d) (not (d == disk)) (has old.writes.started d) h

-- ---- what is out

-- what is out of a state is out of one that wants more
pub wanted_out : (s : ModelState) (wanted : Marks) (missing : ℕ → Bool) (open_copy : Option ModelCopy) (group : Descriptor) (in_flight : Option (Stamped Status)) (device : Device) (media : Media)
    → HasOut s group in_flight device media → HasOut (after_wants s wanted missing open_copy) group in_flight device media
wanted_out s wanted missing open_copy group in_flight device media out = record {
  blocks = λ lv b p value copy flies. ⊎_elim
      (λ (x : Brings s lv b p value). inl (record { id = x.id; req = x.req; started = record { there = x.started.there; write = x.started.write; going = x.started.going }; over = x.over; flies = x.flies; is = x.is }))
      (λ (x : CopyBrings s lv b p value). inr (record { step = x.step; flies = x.flies; target = x.target; id = x.id; place = x.place; req = x.req; values = x.values; there = x.there; read = x.read; past = x.past; got = x.got; over = x.over; is = x.is }))
      (out.blocks lv b p value copy flies);
  notes = out.notes;
  statuses = by in_flight out.statuses;
  descriptors = out.descriptors;
  raw = out.raw;
}
  where
    by : (u : Option (Stamped Status)) → OnlyUpdateIsOut s device u → OnlyUpdateIsOut (after_wants s wanted missing open_copy) device u
    by None its = its
    by (Some u) its = record { write = its.write; is_status = its.is_status; stamp = its.stamp; began = its.began; may = its.may; way = its.way; flying = its.flying }

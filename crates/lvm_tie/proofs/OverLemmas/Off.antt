-- The votes are lost: each landing as Off is a moment.
use Rattle.std.proofs.Common.{◌≡◌, ℕ, Bool, true, false, not, List, [], ◌++◌, Option, Some, None, is_some, slice_get, refl, sym, ap, subst, ◌∙◌, append_assoc}
use Rattle.std.specs.Prelude.{IsFalse}
use Rattle.std.specs.Option.{option_map_or}
use Rattle.std.proofs.Math.Bool.{not-not}
use Rattle.std.proofs.lemmas.Bool.{not-true}
use Rattle.arrayvec.specs.ArrayVec.{ArrayVec}
use Rattle.lvm_num.specs.declared.record.NoteEntry.{NoteEntry}
use Rattle.lvm_num.specs.Disks.{Disks}
use Rattle.lvm_num.specs.Votes.{is_enough_to_write, votes_in}
use Rattle.lvm_vol.specs.declared.entry.Outcome.TheVariants as outcome
use Rattle.lvm_vol.specs.Facts.{Fact}
use Rattle.lvm_vol.specs.Legal.{Legal}
use Rattle.lvm_kept.specs.Contents.{contents_of}
use Rattle.lvm_kept.specs.Kept.{Kept}
use Rattle.lvm_steps.specs.Moments.{HistoryHolds, Keeps}
use Rattle.lvm_steps.specs.Requests.{at}
use Rattle.lvm_mwc.specs.Cache.{flight_on}
use Rattle.lvm_path.specs.declared.request.Phase.TheVariants as phase
use Rattle.lvm_session.specs.declared.open.Open.{Open}
use Rattle.lvm_session.specs.declared.bringing.OpenCopy.{OpenCopy}
use Rattle.lvm_session.specs.declared.bringing.Step.{Step}
use Rattle.lvm_session.specs.declared.bringing.Step.TheVariants as step
use Rattle.lvm_session.specs.declared.flown.Owner.TheVariants as owner
use Rattle.lvm_session.specs.State.{Core, State, is_there}
use Rattle.lvm_session.specs.Judging.{is_waiting}
use Rattle.lvm_session.specs.Bringing.{is_out}
use Rattle.lvm_session.specs.Enabled.{is_lost}
use Rattle.lvm_session.specs.Dark.{IsAscending, landings as all_landings}
use Rattle.lvm_session.specs.Requests.{IsShaped}
use Rattle.lvm_invariant.specs.State.{Groups, ModelState}
use Rattle.lvm_invariant.specs.Over.{landings}
use Rattle.lvm_invariant.specs.Off.{GoesOff}
use Rattle.lvm_invariant.proofs.OverLemmas.{off_keeps}
use Rattle.lvm_crash.proofs.LawsLemmas.Ends.{off_kept}
use Rattle.lvm_tie.specs.Seen.{SeesNote, step_write_of, step_write_in, update_of}
use Rattle.lvm_tie.specs.Tied.{IsTied, moment_of}
use Rattle.lvm_tie.proofs.TiedLemmas.Orderly.{open_one, waiting_one}
use Rattle.lvm_tie.specs.Over.{OffGoesOn}
use Rattle.lvm_tie.proofs.OverLemmas.Waiting.{places, places_append, are_open, are_named, named_first, same_landings, started}
use Rattle.lvm_tie.proofs.SeenLemmas.Quiet.{Quieted, quieted, quiet_matches, flies_none, no_data}
use Rattle.lvm_tie.proofs.OverLemmas.Landings.{land_all}

-- what every tied session says of its table
module _ (past : List Fact) (s : State) (tied : IsTied past s) where
  pub rises_of : IsAscending s.core.requests
  rises_of = (tied.orderly.sound.on tied.orderly.on).going.told.table.ascending

  pub shaped_of : (k : ℕ) (o : Open) → slice_get s.core.requests k ≡ Some o → is_waiting o ≡ true → IsShaped s.core o
  shaped_of k o there waits = (waiting_one s tied.write tied.orderly k o there waits).shape

  pub over_of : (k : ℕ) (o : Open) → slice_get s.core.requests k ≡ Some o → is_waiting o ≡ false → o.request.phase ≡ phase.Landed
  over_of k o there over = ((open_one s tied.write tied.orderly k o there).over over).phase_is

module _ (past : List Fact) (s : State) (tied : IsTied past s) (lost : is_lost s.core ≡ true) (idle : s.device.flights ≡ []) where
  abbrev v : ModelState
  v = tied.view

  abbrev core : Core
  core = s.core

  quiet : Quieted past s tied
  quiet = quieted past s tied

  abbrev w : ModelState
  w = record v { queue = quiet.queue }

  abbrev has_started : ℕ → Bool
  has_started = started core w (rises_of past s tied) quiet.sees (λ i q at no. quiet.only i q at) (shaped_of past s tied) (over_of past s tied)

  few : IsFalse (tied.votes.writes (λ d. not (w.missing d)))
  few =
      let each : (d : ℕ) → not (v.missing d) ≡ is_there core d = λ d. ap not (tied.sees.status.missing d) ∙ not-not (is_there core d) in
      let same : (λ (d : ℕ). not (v.missing d)) ≡ is_there core = λ t d. each d t in
      tied.setting.are_votes.writes (λ d. not (v.missing d)) ∙ ap (λ (set : Disks). is_enough_to_write core.descriptor (votes_in core.descriptor set)) same
      ∙ not-true (is_enough_to_write core.descriptor (votes_in core.descriptor (is_there core))) lost

  no_note : (d : ℕ) → w.flying_note d ≡ None
  no_note d = by (v.flying_note d) (flight_on core.cache d) (flies_none past s tied idle (owner.Note d)) (tied.sees.notes.flying d)
    where
      by : (n : Option Groups) (m : Option (ArrayVec NoteEntry)) → is_some m ≡ false → SeesNote n m → n ≡ None
      by None m none sees = refl
      by (Some n) None none sees = absurd sees
      by (Some n) (Some m) none sees = absurd (cc none)

  no_copy : w.step_write ≡ None
  no_copy = tied.sees.step_write ∙ by core.copy (flies_none past s tied idle owner.Copy)
    where
      of : (c : OpenCopy) (st : Step) → is_out st ≡ false → step_write_of c st ≡ None
      of c step.Idle none = refl
      of c (step.Reading source) none = refl
      of c (step.Read buf) none = refl
      of c step.Writing none = absurd (cc none)

      by : (m : Option OpenCopy) → option_map_or (λ (c : OpenCopy). is_out c.step) m false ≡ false → step_write_in m ≡ None
      by None none = refl
      by (Some c) none = of c c.step none

  goes_off : GoesOff tied.votes w (places core.requests) has_started
  goes_off = record {
    lost = few;
    no_data = no_data past s tied idle quiet;
    no_status = λ d. tied.sees.status.started d ∙ flies_none past s tied idle (owner.Status d);
    no_note = no_note;
    no_copy = no_copy;
    requests = are_open core w (rises_of past s tied) quiet.sees (λ i q at no. quiet.only i q at) (shaped_of past s tied) (over_of past s tied);
  }

  -- when the first of them have landed
  pub off_holds : (xs ys : List Open) → core.requests ≡ xs ++ ys → HistoryHolds past (at s.device (core.history.facts ++ all_landings outcome.Off core.history.facts xs))
  off_holds xs ys split =
      let places_are : places core.requests ≡ places xs ++ places ys = ap places split ∙ places_append xs ys in
      let off : GoesOff tied.votes w (places xs ++ places ys) has_started = subst (λ (l : List ℕ). GoesOff tied.votes w l has_started) places_are goes_off in
      let named = are_named core w (rises_of past s tied) quiet.sees (λ i q at no. quiet.only i q at) (shaped_of past s tied) (over_of past s tied) core.history.facts tied.sees.queue.names in
      let same = same_landings outcome.Off refl core.history.facts w.name has_started xs
      (named_first core.history.facts w.name has_started xs ys (subst (λ (l : List Open). Rattle.lvm_tie.proofs.OverLemmas.Waiting.AreNamed core.history.facts w.name has_started l) split named)) in
      let now : w.facts ++ landings outcome.Off w.name has_started (places xs) ≡ past ++ (core.history.facts ++ all_landings outcome.Off core.history.facts xs) =
      ap (λ (l : List Fact). l ++ landings outcome.Off w.name has_started (places xs)) tied.sees.facts ∙ append_assoc past core.history.facts (landings outcome.Off w.name has_started (places xs))
      ∙ ap (λ (l : List Fact). past ++ (core.history.facts ++ l)) (sym same) in
      record {
        legal = subst Legal now (off_keeps tied.votes w (places xs) (places ys) has_started off quiet.good).legal;
        kept = λ image may. subst (Kept (contents_of image)) now
            (off_kept tied.votes w core.descriptor (update_of core.status) s.device tied.media image (places xs) (places ys) has_started tied.setting.are_votes quiet.good off (quiet_matches past s tied quiet.queue idle) may);
      }

pub off_goes_on : OffGoesOn
off_goes_on run first old new on good off span = subst (λ (n : State). Keeps run first (moment_of n)) (sym off.is)
    (land_all run first old.device old.core.history.facts old.core.history.facts outcome.Off old.core.requests
    (λ xs ys split past begins. off_holds past old (good on past begins) off.lost off.idle xs ys split) span)

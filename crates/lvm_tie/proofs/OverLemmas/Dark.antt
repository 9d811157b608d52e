-- The power is off: the cut in the history is a moment, and each landing as Dark.
use Rattle.std.proofs.Common.{◌≡◌, ◌⊎◌, inl, inr, ⊎_elim, ℕ, ◌+◌, ◌≤◌, Bool, true, false, ◌&&◌, ◌==◌, if◌then◌else◌, List, [], ◌∷◌, ◌++◌, Option, Some, None, is_some, slice_get, refl, sym, ap, subst, ◌∙◌, append_assoc, arith, eq-eqb}
use Rattle.std.specs.Prelude.{IsFalse, nat_le, nat_lt}
use Rattle.std.proofs.lemmas.Bool.Decides.{nat_tests}
use Rattle.lvm_disk.specs.Device.{Device, MayLeave}
use Rattle.lvm_disk.specs.Images.{LeavesNoMore}
use Rattle.lvm_disk.specs.Paths.{DeviceStep, WasCut, Here, Then}
use Rattle.lvm_disk.specs.Steps.{GoesDark}
use Rattle.lvm_disk.proofs.DeviceLemmas.{cut_leaves}
use Rattle.lvm_vol.specs.declared.entry.Vol.TheVariants.{Lv}
use Rattle.lvm_vol.specs.declared.entry.Outcome.TheVariants as outcome
use Rattle.lvm_vol.specs.Facts.{Request as Asked, Fact, Cut, IsInList}
use Rattle.lvm_vol.specs.Legal.{Legal}
use Rattle.lvm_vol.specs.Log.{Log, is_uncut, cut_log, with_fact, request_of}
use Rattle.lvm_vol.specs.May.{known}
use Rattle.lvm_vol.proofs.LogLemmas.{found_of}
use Rattle.lvm_kept.specs.Contents.{Contents, contents_of}
use Rattle.lvm_kept.specs.Kept.{Kept}
use Rattle.lvm_kept.specs.Moments.{Moment, Calm}
use Rattle.lvm_steps.specs.Moments.{HistoryHolds, Keeps}
use Rattle.lvm_steps.specs.Requests.{at}
use Rattle.lvm_steps.proofs.EnteringLemmas.{quiet_goes_on}
use Rattle.lvm_steps.proofs.MomentsLemmas.Spans.{keeps_steps}
use Rattle.lvm_path.specs.Asks.{count_of}
use Rattle.lvm_session.specs.declared.open.Open.{Open}
use Rattle.lvm_session.specs.declared.open.Power.TheVariants as power
use Rattle.lvm_session.specs.State.{Core, State}
use Rattle.lvm_session.specs.Judging.{is_waiting, place_of}
use Rattle.lvm_session.specs.Dark.{landings as all_landings}
use Rattle.lvm_invariant.specs.State.{Queued, ModelState, covers, write_in, told}
use Rattle.lvm_invariant.specs.Over.{AreOpen, landings}
use Rattle.lvm_invariant.proofs.OverLemmas.{cut_keeps}
use Rattle.lvm_crash.proofs.LawsLemmas.Ends.{cut_kept}
use Rattle.lvm_crash.proofs.LawsLemmas.Images.{images_kept}
use Rattle.lvm_tie.specs.Seen.{IsRequestAt, IsStepAt, update_of}
use Rattle.lvm_tie.specs.Tied.{IsTied, IsGood}
use Rattle.lvm_tie.proofs.SeenLemmas.Entered.{sees_entered}
use Rattle.lvm_tie.proofs.TiedLemmas.Orderly.{asked_one, open_one}
use Rattle.lvm_tie.proofs.TiedLemmas.Tied.{tied_matches}
use Rattle.lvm_tie.specs.Over.{DarkGoesOn}
use Rattle.lvm_tie.proofs.OverLemmas.Waiting.{places, places_append, waits_at, AreNamed, are_open, are_named, named_first, same_landings, started, unlanded_one}
use Rattle.lvm_tie.proofs.OverLemmas.Off.{rises_of, shaped_of, over_of}
use Rattle.lvm_tie.proofs.MomentsLemmas.{calm_if_uncut}
use Rattle.lvm_tie.proofs.OverLemmas.ReadLandings.{reads_land}
use Rattle.lvm_tie.proofs.OverLemmas.Landings.{land_all}

module _ (past : List Fact) (s : State) (tied : IsTied past s) where
  abbrev v : ModelState
  v = tied.view

  abbrev core : Core
  core = s.core

  abbrev facts : List Fact
  facts = s.core.history.facts

  only : (i : ℕ) (q : Queued) → v.queue i ≡ Some q → IsFalse q.step → IsRequestAt core i
  only i q there asked = ⊎_elim
      (λ (r : IsRequestAt core i). r)
      (λ (st : IsStepAt core i).
      let a = tied.sees.queue.a_step st.copy st.is_open st.row in
      let same : a.0 ≡ q = some_of a.0 q (sym a.1 ∙ ap v.queue st.its ∙ there) in
      let e : ◌≡◌ {A = Bool} true false = sym a.2.step ∙ ap (λ (x : Queued). x.step) same ∙ asked in absurd (cc e))
      (tied.sees.queue.only i q there)
    where
      some_of : (a b : Queued) → Some a ≡ Some b → a ≡ b
      some_of a b e = cc

  abbrev has_started : ℕ → Bool
  has_started = started core v (rises_of past s tied) tied.sees.queue.requests only (shaped_of past s tied) (over_of past s tied)

  now_open : AreOpen v (places core.requests) has_started
  now_open = are_open core v (rises_of past s tied) tied.sees.queue.requests only (shaped_of past s tied) (over_of past s tied)

  open_in : (xs ys : List Open) → core.requests ≡ xs ++ ys → AreOpen v (places xs ++ places ys) has_started
  open_in xs ys split = subst (λ (l : List ℕ). AreOpen v l has_started) (ap places split ∙ places_append xs ys) now_open

  named_in : (base : List Fact) → ((k : ℕ) (o : Open) → slice_get core.requests k ≡ Some o → v.name (place_of o.request.id) ≡ request_of base o.request.id)
      → (xs ys : List Open) → core.requests ≡ xs ++ ys → AreNamed base v.name has_started xs
  named_in base names xs ys split = named_first base v.name has_started xs ys (subst (λ (l : List Open). AreNamed base v.name has_started l) split
      (are_named core v (rises_of past s tied) tied.sees.queue.requests only (shaped_of past s tied) (over_of past s tied) base names))

  module _ (device : Device) (leaves : LeavesNoMore s.device device) where
    -- ---- with a cut

    -- when the first of them have landed behind the cut
    pub cut_holds : (xs ys : List Open) → core.requests ≡ xs ++ ys → HistoryHolds past (at device ((facts ++ Cut ∷ []) ++ all_landings outcome.Dark (facts ++ Cut ∷ []) xs))
    cut_holds xs ys split =
        let cut : List Fact = facts ++ Cut ∷ [] in
        let landed : List Fact = landings outcome.Dark v.name has_started (places xs) in
        let same = same_landings outcome.Dark refl (facts ++ Cut ∷ []) v.name has_started xs (named_in (facts ++ Cut ∷ []) (sees_entered past core v Cut refl tied.sees).queue.names xs ys split) in
        let now : (v.facts ++ Cut ∷ []) ++ landed ≡ past ++ (cut ++ all_landings outcome.Dark cut xs) =
        ap (λ (l : List Fact). (l ++ Cut ∷ []) ++ landed) tied.sees.facts ∙ ap (λ (l : List Fact). l ++ landed) (append_assoc past facts (Cut ∷ [])) ∙ append_assoc past cut landed
        ∙ ap (λ (l : List Fact). past ++ (cut ++ l)) (sym same) in
        record {
          legal = subst Legal now (cut_keeps tied.votes v (places xs) (places ys) has_started (open_in xs ys split) tied.good).legal;
          kept = λ image may. subst (Kept (contents_of image)) now
              (cut_kept tied.votes v core.descriptor (update_of core.status) s.device tied.media image (places xs) (places ys) has_started tied.setting.are_votes tied.good (open_in xs ys split) (tied_matches past s tied)
              (leaves image may));
        }

    -- ---- where there is nothing to cut

    module _ (uncut : is_uncut facts ≡ false) where
      -- then no write waits
      no_write : (k : ℕ) (o : Open) (there : slice_get core.requests k ≡ Some o) → is_waiting o ≡ true → (b : Bool) → (tied.sees.queue.requests k o there).0.write ≡ b → b ≡ false
      no_write k o there waits false is = refl
      no_write k o there waits true is =
          let r = tied.sees.queue.requests k o there in
          let q : Queued = r.0 in
          let asked = asked_one s tied.write tied.orderly k o there in
          let began = (found_of facts o.request.id (ap (λ (m : Option Asked). is_some m) asked.told)).began in
          let calm : Calm (past ++ facts) = calm_if_uncut device past facts (request_of facts o.request.id) began uncut in
          let none : (told v q.lv q.first).open_writes ≡ [] = ap (λ (l : List Fact). (known l (Lv q.lv) q.first).open_writes) tied.sees.facts ∙ calm (Lv q.lv) q.first in
          let own = tied.good.sound.tied.open_writes (place_of o.request.id) q r.1 is
          (unlanded_one core v (rises_of past s tied) tied.sees.queue.requests only (shaped_of past s tied) (over_of past s tied) k o there waits) q.lv q.first in
          let some : 1 ≤ count_of o.request.ask = (open_one s tied.write tied.orderly k o there).laid.within.some in
          let count : q.count ≡ count_of o.request.ask = r.2.count in
          let high : nat_lt q.first (q.first + q.count) ≡ true = above q.first q.count (subst (λ n. 1 ≤ n) (sym count) some) in
          let over : (q.write && covers q q.lv q.first) ≡ true = all_true q.write (q.lv == q.lv) (nat_le q.first q.first) (nat_lt q.first (q.first + q.count)) is (eq-eqb q.lv q.lv refl) (low q.first) high in
          let e : None ≡ Some (q.value q.first) = sym (ap (λ (ws : List Asked). write_in q.first ws (v.name (place_of o.request.id))) none) ∙ own ∙ ap (λ b. if b then Some (q.value q.first) else None) over in
          absurd (cc e)
        where
          above : (a n : ℕ) → 1 ≤ n → nat_lt a (a + n) ≡ true
          above a n some = grind (arith, nat_tests)

          low : (a : ℕ) → nat_le a a ≡ true
          low a = grind (arith, nat_tests)

          all_true : (a b c d : Bool) → a ≡ true → b ≡ true → c ≡ true → d ≡ true → (a && (b && c && d)) ≡ true
          all_true a b c d p q r t = λ i. p i && (q i && r i && t i)

      reads : (i : ℕ) → IsInList i (places core.requests) → (v.name i).write ≡ false
      reads i h =
          let r = waits_at core.requests i h in
          let s = tied.sees.queue.requests r.number r.request r.there in
          let no : s.0.write ≡ false = no_write r.number r.request r.there r.waiting s.0.write refl in
          subst (λ j. (v.name j).write ≡ false) r.its ((tied.good.told.same (place_of r.request.request.id) s.0 s.1 s.2.step).write ∙ no)

      held : (c : Contents) → Kept c v.facts → Kept c v.facts
      held c kept = kept

      -- when the first of them have landed
      pub reads_hold : (xs ys : List Open) → core.requests ≡ xs ++ ys → HistoryHolds past (at device (facts ++ all_landings outcome.Dark facts xs))
      reads_hold xs ys split =
          let landed : List Fact = landings outcome.Dark v.name has_started (places xs) in
          let is_open = open_in xs ys split in
          let same = same_landings outcome.Dark refl facts v.name has_started xs (named_in facts tied.sees.queue.names xs ys split) in
          let now : v.facts ++ landed ≡ past ++ (facts ++ all_landings outcome.Dark facts xs) =
          ap (λ (l : List Fact). l ++ landed) tied.sees.facts ∙ append_assoc past facts landed ∙ ap (λ (l : List Fact). past ++ (facts ++ l)) (sym same) in
          let way = reads_land v tied.good.told has_started (λ c. Kept c v.facts) (places xs) (places ys) v.facts is_open.once is_open.each
          (λ j there. reads j (subst (IsInList j) (sym (ap places split ∙ places_append xs ys)) there))
          (record {
            legal = tied.good.told.legal;
            kept = held;
            waits = λ i there. let u = is_open.each i there in (tied.good.told.began i u.req u.there u.request, tied.good.told.ended i u.req u.there u.request ∙ u.unlanded);
          }) in
          record {
            legal = subst Legal now way.legal;
            kept = λ image may. subst (Kept (contents_of image)) now
                (way.kept (contents_of image) (images_kept tied.votes v core.descriptor (update_of core.status) s.device tied.media image tied.setting.are_votes tied.good (tied_matches past s tied) (leaves image may)));
          }

-- ---- the span

-- a step of the shelf that adds no crash image goes on with each span
pub shelf_goes_on : (run : ℕ) (first : Moment) (old new : Device) (facts : List Fact) → LeavesNoMore old new → (new ≡ old) ⊎ DeviceStep old new → Keeps run first (at old facts) → Keeps run first (at new facts)
shelf_goes_on run first old new facts leaves step span = ⊎_elim
    (λ (same : new ≡ old). subst (λ (d : Device). Keeps run first (at d facts)) (sym same) span)
    (λ (moves : DeviceStep old new). keeps_steps run first old new facts span (Then (Here (λ image may. may)) moves leaves))
    step

-- the history with a cut, where there is one
abbrev cut_if : Bool → Log → Log
cut_if b log = if b then with_fact log Cut else log

-- after which the cut and the landings follow
pub darkness_goes_on : (run : ℕ) (first : Moment) (s : State) (device : Device) → s.core.power ≡ power.On → IsGood run first s → LeavesNoMore s.device device → Keeps run first (at device s.core.history.facts)
    → Keeps run first (at device ((cut_log s.core.history).facts ++ all_landings outcome.Dark (cut_log s.core.history).facts s.core.requests))
darkness_goes_on run first s device on good leaves span = by (is_uncut s.core.history.facts) refl
  where
    by : (b : Bool) → is_uncut s.core.history.facts ≡ b → Keeps run first (at device ((cut_if b s.core.history).facts ++ all_landings outcome.Dark (cut_if b s.core.history).facts s.core.requests))
    by true is = land_all run first device (s.core.history.facts ++ Cut ∷ []) (s.core.history.facts ++ Cut ∷ []) outcome.Dark s.core.requests
        (λ xs ys split past begins. cut_holds past s (good on past begins) device leaves xs ys split)
        (quiet_goes_on run first device s.core.history.facts Cut span tt (λ past begins holds. tt))
    by false is = land_all run first device s.core.history.facts s.core.history.facts outcome.Dark s.core.requests
        (λ xs ys split past begins. reads_hold past s (good on past begins) device leaves is xs ys split) span

pub dark_leaves : (old new : Device) → GoesDark old new → LeavesNoMore old new
dark_leaves old new dark = ⊎_elim (λ off. λ image may. subst (λ (d : Device). MayLeave d image) off.1 may) (λ cuts. cut_leaves old new cuts) dark

pub dark_goes_on : DarkGoesOn
dark_goes_on run first old new on good dark span =
    let leaves : LeavesNoMore old.device new.device = dark_leaves old.device new.device dark.device in
    let step : (new.device ≡ old.device) ⊎ DeviceStep old.device new.device = ⊎_elim (λ off. inl off.1) (λ cuts. inr (WasCut cuts)) dark.device in
    subst (λ (c : Core). Keeps run first (at new.device c.history.facts)) (sym dark.is)
    (darkness_goes_on run first old new.device on good leaves (shelf_goes_on run first old.device new.device old.core.history.facts leaves step span))

-- Each event keeps what is true of a session, and so does a list of them.
use Rattle.std.proofs.Common.{◌≡◌, ◌⊎◌, inl, inr, ⊎_elim, ℕ, Bool, true, false, [], ◌∷◌, ◌++◌, Some, refl, sym, ap, subst, ◌∙◌, eqb-true, arith, ◌<◌}
use Rattle.std.specs.Prelude.{IsTrue, IsFalse, ◌==◌, if◌then◌else◌}
use Rattle.std.proofs.lemmas.Bool.{cases_Bool}
use Rattle.lvm_num.proofs.Booleans.{clash_gives}
use Rattle.lvm_vol.specs.declared.entry.Outcome.TheVariants as outcome
use Rattle.lvm_vol.specs.Facts.{Landed as HasLanded, Begun, Taken}
use Rattle.lvm_invariant.proofs.StateLemmas.Entered.{write_asks, past_unlanded, done_effect, lost_effect, got_effect, got_may, quiet_effect, silent_effect, pin_alike, read_alike, begun_effect, entered_effect}
use Rattle.lvm_invariant.proofs.ToldLemmas.{told_change, told_landed, told_taken, told_earlier, told_left, told_begun, told_entered}
use Rattle.lvm_invariant.proofs.EventsLemmas.Others.{plain_keeps, admit_keeps as admit_core, early_not_landed}
use Rattle.lvm_invariant.proofs.UpdatesLemmas.Getting.{got_keeps as got_core, submit_keeps as submit_core}
use Rattle.lvm_invariant.proofs.StateLemmas.Writes.{first_keeps as first_core, restaging_keeps as restaging_core, done_keeps as done_core, lost_keeps as lost_core, land_alike}
use Rattle.lvm_invariant.proofs.EventsLemmas.Marking.{wants_keep as wants_core, begin_keeps as begin_core, commit_keeps as commit_core, update_end_keeps as update_end_core}
use Rattle.lvm_invariant.proofs.EventsLemmas.Noting.{start_note_keeps as start_note_core, end_note_keeps as end_note_core}
use Rattle.lvm_invariant.proofs.EventsLemmas.Copying.{copy_write_keeps as copy_write_core, open_keeps as open_core, clear_keeps as clear_core}
use Rattle.lvm_invariant.proofs.SoundLemmas.Whole.{moved_core, taken_core, told_core}
use Rattle.lvm_vol.proofs.LawsLemmas.Knowing.{known-push}
use Rattle.lvm_vol.specs.May.{known}
use Rattle.lvm_vol.specs.declared.entry.Vol.TheVariants.{Lv}
use Rattle.lvm_invariant.specs.EndNote.{EndNoteKeeps}
use Rattle.lvm_invariant.specs.CopyWrite.{CopyWriteKeeps}
use Rattle.lvm_invariant.specs.EnterStep.{EnterStepKeeps}
use Rattle.lvm_invariant.specs.LandDone.{done, LandDoneKeeps}
use Rattle.lvm_invariant.specs.StartWrite.{going, StartWriteKeeps}
use Rattle.lvm_invariant.specs.Commit.{CommitKeeps}
use Rattle.lvm_invariant.specs.Admit.{admitted, AdmitKeeps}
use Rattle.lvm_invariant.specs.Found.{Votes}
use Rattle.lvm_invariant.specs.Told.{Told}
use Rattle.lvm_invariant.specs.EndStep.{EndStepKeeps}
use Rattle.lvm_invariant.specs.LandReadFailed.{LandReadFailedKeeps}
use Rattle.lvm_invariant.specs.Transfer.{TransferKeeps}
use Rattle.lvm_invariant.specs.Take.{TakeKeeps}
use Rattle.lvm_invariant.specs.TakeEarlier.{TakeEarlierKeeps}
use Rattle.lvm_invariant.specs.Updates.{without, staged, land}
use Rattle.lvm_invariant.specs.EndUpdate.{EndUpdateKeeps}
use Rattle.lvm_invariant.specs.Read.{reading, ReadKeeps}
use Rattle.lvm_invariant.specs.Open.{OpenKeeps}
use Rattle.lvm_invariant.specs.LandGot.{LandGotKeeps}
use Rattle.lvm_invariant.specs.LandLost.{LandLostKeeps}
use Rattle.lvm_invariant.specs.Submit.{SubmitKeeps}
use Rattle.lvm_invariant.specs.State.{ModelPhase, Held, WantEntry, Ready, Going, Queued, ModelState, covers, has_landed, is_pinning}
use Rattle.lvm_invariant.specs.Pin.{PinKeeps}
use Rattle.lvm_invariant.specs.Good.{Good}
use Rattle.lvm_invariant.specs.MoveStatus.{MoveStatusKeeps}
use Rattle.lvm_invariant.specs.Events.{Submit, EnterStep, Admit, Pin, Read, StartWrite, Transfer, LandDone, LandLost, LandGot, LandReadFailed, LandNoFresh, EndStep, Take, TakeEarlier, Want, BeginUpdate, MoveStatus, CommitUpdate, EndUpdate, StartNote, EndNote, Open, CopyWrite, Clear, EachEventKeepsGood, Reached, EachMomentIsKept}
use Rattle.lvm_invariant.specs.Want.{WantKeeps}
use Rattle.lvm_invariant.specs.LandNoFresh.{LandNoFreshKeeps}
use Rattle.lvm_invariant.specs.StartNote.{StartNoteKeeps}
use Rattle.lvm_invariant.specs.BeginUpdate.{BeginUpdateKeeps}
use Rattle.lvm_invariant.specs.Clear.{ClearKeeps}
use Rattle.lvm_invariant.proofs.StateLemmas.Quieting.{nearly}
use Rattle.lvm_invariant.proofs.FoundLemmas.{status_end_keeps_found, begin_keeps_found, commit_keeps_found, update_end_keeps_found, keeping_found, found_same}
use Rattle.lvm_invariant.proofs.CrashLemmas.{core_kept}
use Rattle.lvm_invariant.specs.Sound.{Sound}

newest_place : (s : ModelState) (i : ℕ) → ((j : ℕ) (e : Queued) → s.queue j ≡ Some e → j < i) → (j : ℕ) (e : Queued) → s.queue j ≡ Some e → IsFalse (j == i)
newest_place s i newest j e at = ⊎_elim (λ (same : IsTrue (j == i)). absurd (not_itself (subst (λ (k : ℕ). k < i) (eqb-true _ _ same) (newest j e at)))) (λ (f : IsFalse (j == i)). f) (cases_Bool (j == i))
  where
    not_itself : {k : ℕ} → k < k → ⊥
    not_itself h = omega (arith, h)

-- an event that changes neither what quorums find nor what is told
good_of : {votes : Votes} (old new : ModelState) → record (keeping_found old new) { queue = old.queue; name = old.name; facts = old.facts } ≡ new → Sound new → Good votes old → Good votes new
good_of {votes} old new same sound good = record {
  sound = sound;
  found = found_same old new (subst (λ (s : ModelState). keeping_found old s ≡ s) same refl) good.found;
  told = subst (λ (s : ModelState). Told s.queue s.name s.facts) same good.told;
}

pub submit_keeps : SubmitKeeps
submit_keeps votes s i q r step good = record {
  sound = submit_core s i q r (s.facts ++ Begun q ∷ []) (begun_effect s i q r good.sound good.told step) good.sound;
  found = found_same _ _ refl good.found;
  told = told_begun s.queue s.name s.facts good.told i q r (newest_place s i step.newest) step.request step.same step.next (ap has_landed step.held);
}

pub enter_step_keeps : EnterStepKeeps
enter_step_keeps votes s i q r step good = record {
  sound = submit_core s i q r s.facts (entered_effect s i q r step) good.sound;
  found = found_same _ _ refl good.found;
  told = told_entered s.queue s.name s.facts good.told i q r (newest_place s i step.newest) step.step step.reads;
}

pub admit_keeps : AdmitKeeps
admit_keeps votes s i r phase several targets step good = record {
  sound = admit_core s i r phase several targets step good.sound;
  found = found_same _ _ refl good.found;
  told = told_change s.queue s.name s.facts good.told i r step.there (admitted r phase several targets) (record { lv = refl; over = λ lv b. refl; write = refl; value = λ b. refl; step = refl })
      (λ asked. ⊎_elim (λ (e : phase ≡ WantEntry). ap has_landed e) (λ (e : (phase ≡ Ready) × (IsTrue r.write → IsTrue (s.is_active r.lv) → IsTrue several → ⊥)). ap has_landed e.0) step.phase_now ∙ sym (early_not_landed r step.early));
}

not_phase : {X : Type 0} (p q : ModelPhase) → p ≡ q → IsFalse (has_landed q) → IsTrue (has_landed p) → X
not_phase p q e un h = clash_gives (has_landed p) h (ap has_landed e ∙ un)

wait_not_going : {X : Type 0} (p : ModelPhase) → p ≡ WantEntry → p ≡ Going → X
wait_not_going p a b = let e : ◌≡◌ {A = Bool} false true = ap is_pinning (sym a ∙ b) in absurd cc

pub pin_keeps : PinKeeps
pin_keeps votes s i r cache step good = record {
  sound = plain_keeps s i r (record r { phase = Ready }) s.facts cache
      (silent_effect s i r (record r { phase = Ready }) cache step.there (λ write e. wait_not_going r.phase step.waits e) (λ write e. ready_not_going Ready refl e) (λ value h. inl h)
      (λ write pins on several. inr step.has) step.keeps)
      (pin_alike r step.waits) good.sound;
  found = found_same _ _ refl good.found;
  told = told_change s.queue s.name s.facts good.told i r step.there (record r { phase = Ready }) (record { lv = refl; over = λ lv b. refl; write = refl; value = λ b. refl; step = refl }) (λ asked. sym (ap has_landed step.waits));
}
  where
    is_ready : ModelPhase → Bool
    is_ready Ready = true
    is_ready _ = false

    ready_not_going : {X : Type 0} (p : ModelPhase) → p ≡ Ready → p ≡ Going → X
    ready_not_going p a b = let e : ◌≡◌ {A = Bool} true false = ap is_ready (sym a ∙ b) in absurd cc

pub read_keeps : ReadKeeps
read_keeps votes s i r c stage got step good = record {
  sound = plain_keeps s i r (reading r c stage got) s.facts s.cache
      (silent_effect s i r (reading r c stage got) s.cache step.there (λ write e. clash_gives r.write write step.read) (λ write e. clash_gives r.write write step.read)
      (λ value h. ⊎_elim
      (λ (old : r.got ≡ Some value). inl old)
      (λ (new : (lv b : ℕ) → IsTrue (covers r lv b) → value b ≡ s.media.block lv b c). inr (λ lv b over. (c, step.was.0, step.was.1, new lv b over)))
      (step.gets value h))
      (λ write pins on several. clash_gives r.write write step.read) (λ j e at write pins on several cached. cached))
      (read_alike r c stage got step.past step.was) good.sound;
  found = found_same _ _ refl good.found;
  told = told_change s.queue s.name s.facts good.told i r step.there (reading r c stage got) (record { lv = refl; over = λ lv b. refl; write = refl; value = λ b. refl; step = refl }) (λ asked. sym (past_unlanded r.phase step.past));
}

pub start_write_keeps : StartWriteKeeps
start_write_keeps votes s i r c step good = record {
  sound = first_core s i r c step good.sound;
  found = found_same _ _ refl good.found;
  told = told_change s.queue s.name s.facts good.told i r step.there (going r c) (record { lv = refl; over = λ lv b. refl; write = refl; value = λ b. refl; step = refl }) (λ asked. sym (ap has_landed step.ready));
}

pub transfer_keeps : TransferKeeps
transfer_keeps votes s i r c stage block step good = record {
  sound = restaging_core s i r c stage block step good.sound;
  found = found_same _ _ refl good.found;
  told = told_change s.queue s.name s.facts good.told i r step.started.there (record r { targets = staged r.targets c stage }) (record { lv = refl; over = λ lv b. refl; write = refl; value = λ b. refl; step = refl }) (λ asked. refl);
}

pub land_done_keeps : LandDoneKeeps
land_done_keeps votes s i r step good =
    let start = step.started in
    let asked = write_asks s good.told i r start.there start.write in
    record {
      sound = done_core s i r (s.facts ++ HasLanded (s.name i) outcome.Done true [] ∷ []) (done_effect s i r good.sound good.told step) good.sound;
      found = found_same _ _ refl good.found;
      told = told_landed s.queue s.name s.facts good.told i r start.there asked (ap has_landed start.going) outcome.Done true [] ((good.told.same i r start.there asked).write ∙ start.write) tt;
    }

pub land_lost_keeps : LandLostKeeps
land_lost_keeps votes s i r step good =
    let start = step.started in
    let asked = write_asks s good.told i r start.there start.write in
    record {
      sound = lost_core s i r (s.facts ++ HasLanded (s.name i) outcome.Lost true [] ∷ []) (lost_effect s i r good.sound good.told step) good.sound;
      found = found_same _ _ refl good.found;
      told = told_landed s.queue s.name s.facts good.told i r start.there asked (ap has_landed start.going) outcome.Lost true [] ((good.told.same i r start.there asked).write ∙ start.write) tt;
    }

pub land_got_keeps : LandGotKeeps
land_got_keeps votes s i r got step good = record {
  sound = got_core s i r step.value (s.facts ++ HasLanded (s.name i) outcome.Got true got ∷ []) (got_effect s i r got good.sound good.told step) good.sound;
  found = found_same _ _ refl good.found;
  told = told_landed s.queue s.name s.facts good.told i r step.there step.request (past_unlanded r.phase step.past) outcome.Got true got ((good.told.same i r step.there step.request).write ∙ step.read) (got_may s i r got good.sound good.told step);
}

pub land_read_failed_keeps : LandReadFailedKeeps
land_read_failed_keeps votes s i r step good = record {
  sound = plain_keeps s i r (land r) (s.facts ++ HasLanded (s.name i) outcome.ReadFailed true [] ∷ []) s.cache
      (quiet_effect s i r outcome.ReadFailed true refl good.sound good.told step.there step.request (λ write e. clash_gives r.write write step.read))
      (land_alike r (past_unlanded r.phase step.past)) good.sound;
  found = found_same _ _ refl good.found;
  told = told_landed s.queue s.name s.facts good.told i r step.there step.request (past_unlanded r.phase step.past) outcome.ReadFailed true [] ((good.told.same i r step.there step.request).write ∙ step.read) tt;
}

pub land_no_fresh_keeps : LandNoFreshKeeps
land_no_fresh_keeps votes s i r step good = record {
  sound = plain_keeps s i r (land r) (s.facts ++ HasLanded (s.name i) outcome.NoFresh false [] ∷ []) s.cache
      (quiet_effect s i r outcome.NoFresh false refl good.sound good.told step.there step.request (λ write e. unstarted r.phase e step.early))
      (land_alike r unlanded) good.sound;
  found = found_same _ _ refl good.found;
  told = told_landed s.queue s.name s.facts good.told i r step.there step.request unlanded outcome.NoFresh false [] refl tt;
}
  where
    is_going : ModelPhase → Bool
    is_going Going = true
    is_going _ = false

    not_going : {X : Type 0} (p q : ModelPhase) → p ≡ Going → p ≡ q → IsFalse (is_going q) → X
    not_going p q e k f = clash_gives (is_going p) (ap is_going e) (ap is_going k ∙ f)

    unstarted : (p : ModelPhase) → p ≡ Going → (p ≡ Held) ⊎ (IsTrue r.write × ((p ≡ WantEntry) ⊎ (p ≡ Ready))) → ⊥
    unstarted p e (inl k) = not_going p Held e k refl
    unstarted p e (inr k) = ⊎_elim (λ (w : p ≡ WantEntry). not_going p WantEntry e w refl) (λ (w : p ≡ Ready). not_going p Ready e w refl) k.1

    unlanded : IsFalse (has_landed r.phase)
    unlanded = ⊎_elim (λ (k : r.phase ≡ Held). ap has_landed k) (λ (k : IsTrue r.write × ((r.phase ≡ WantEntry) ⊎ (r.phase ≡ Ready))). ⊎_elim (λ (w : r.phase ≡ WantEntry). ap has_landed w) (λ (w : r.phase ≡ Ready). ap has_landed w) k.1) step.early

pub end_step_keeps : EndStepKeeps
end_step_keeps votes s i r step good = record {
  sound = plain_keeps s i r (land r) s.facts s.cache
      (silent_effect s i r (land r) s.cache step.there (λ write e. clash_gives r.write write reads) (λ write e. clash_gives r.write write reads) (λ value h. inl h)
      (λ write pins on several. clash_gives r.write write reads) (λ j e at write pins on several cached. cached))
      (land_alike r step.unlanded) good.sound;
  found = found_same _ _ refl good.found;
  told = told_change s.queue s.name s.facts good.told i r step.there (land r) (record { lv = refl; over = λ lv b. refl; write = refl; value = λ b. refl; step = refl }) (λ asked. clash_gives r.step step.step asked);
}
  where
    reads : IsFalse r.write
    reads = good.told.steps_read i r step.there step.step

pub want_keeps : WantKeeps
want_keeps votes s wanted missing open_copy step good = good_of _ _ refl (wants_core s wanted missing open_copy step (nearly s good.sound)) good

pub begin_update_keeps : BeginUpdateKeeps
begin_update_keeps votes s u step good = record { sound = begin_core s u step.none step.value good.sound; found = begin_keeps_found votes s u step.none step.later good.found; told = good.told }

pub move_status_keeps : MoveStatusKeeps
move_status_keeps votes s u status flying step good = record { sound = moved_core s status flying good.sound; found = status_end_keeps_found votes s u status flying step.flies step.each good.found; told = good.told }

pub commit_keeps : CommitKeeps
commit_keeps votes s u has_it done wanted open_copy step good = record {
  sound = wants_core (record s { committed = u; open_copy = done }) wanted s.missing open_copy step.marks (commit_core s u done step.commits good.sound);
  found = let f = commit_keeps_found votes s u has_it step.commits.flies step.enough step.have good.found in record { set = f.set; enough = f.enough; have = f.have; only = f.only; newer = f.newer };
  told = good.told;
}

pub end_update_keeps : EndUpdateKeeps
end_update_keeps votes s step good = record { sound = update_end_core s step.committed good.sound; found = update_end_keeps_found votes s step.committed good.found; told = good.told }

pub start_note_keeps : StartNoteKeeps
start_note_keeps votes s flying step good = good_of _ _ refl (start_note_core s flying step good.sound) good

pub end_note_keeps : EndNoteKeeps
end_note_keeps votes s d names home flying step good = good_of _ _ refl (end_note_core s d names home flying step good.sound) good

pub open_keeps : OpenKeeps
open_keeps votes s o step good = good_of _ _ refl (open_core s o step good.sound) good

pub copy_write_keeps : CopyWriteKeeps
copy_write_keeps votes s i r value target open_copy step_write block step good = good_of _ _ refl (copy_write_core s i r value target open_copy step_write block step good.sound) good

pub clear_keeps : ClearKeeps
clear_keeps votes s wanted c step good = good_of _ _ refl (clear_core s wanted c step good.sound) good

pub take_keeps : TakeKeeps
take_keeps votes s i r step good = record {
  sound = taken_core s i r step good.sound (if r.step then s.facts else s.facts ++ Taken (s.name i) ∷ []) (λ lv b. by_test lv b r.step);
  found = found_same _ _ refl good.found;
  told = ⊎_elim
      (λ (is_step : IsTrue r.step). subst (λ (b : Bool). Told (without s.queue i) s.name (if b then s.facts else s.facts ++ Taken (s.name i) ∷ [])) (sym is_step) (told_left s.queue s.name s.facts good.told i r step.there))
      (λ (asked : IsFalse r.step). subst (λ (b : Bool). Told (without s.queue i) s.name (if b then s.facts else s.facts ++ Taken (s.name i) ∷ [])) (sym asked) (told_taken s.queue s.name s.facts good.told i r step.there asked step.landed))
      (cases_Bool r.step);
}
  where
    by_test : (lv b : ℕ) (t : Bool) → known (if t then s.facts else s.facts ++ Taken (s.name i) ∷ []) (Lv lv) b ≡ known s.facts (Lv lv) b
    by_test lv b true = refl
    by_test lv b false = known-push s.facts (Taken (s.name i)) (Lv lv) b

pub take_earlier_keeps : TakeEarlierKeeps
take_earlier_keeps votes s q step good = record {
  sound = told_core s good.sound (s.facts ++ Taken q ∷ []) (λ lv b. known-push s.facts (Taken q) (Lv lv) b);
  found = found_same _ _ refl good.found;
  told = told_earlier s.queue s.name s.facts good.told q step.once step.other;
}

pub each_keeps : EachEventKeepsGood
each_keeps votes (Submit i q r) s new step good = subst (Good votes) (sym step.1) (submit_keeps votes s i q r step.0 good)
each_keeps votes (EnterStep i q r) s new step good = subst (Good votes) (sym step.1) (enter_step_keeps votes s i q r step.0 good)
each_keeps votes (Admit i r phase several targets) s new step good = subst (Good votes) (sym step.1) (admit_keeps votes s i r phase several targets step.0 good)
each_keeps votes (Pin i r cache) s new step good = subst (Good votes) (sym step.1) (pin_keeps votes s i r cache step.0 good)
each_keeps votes (Read i r c stage got) s new step good = subst (Good votes) (sym step.1) (read_keeps votes s i r c stage got step.0 good)
each_keeps votes (StartWrite i r c) s new step good = subst (Good votes) (sym step.1) (start_write_keeps votes s i r c step.0 good)
each_keeps votes (Transfer i r c stage block) s new step good = subst (Good votes) (sym step.1) (transfer_keeps votes s i r c stage block step.0 good)
each_keeps votes (LandDone i r) s new step good = subst (Good votes) (sym step.1) (land_done_keeps votes s i r step.0 good)
each_keeps votes (LandLost i r) s new step good = subst (Good votes) (sym step.1) (land_lost_keeps votes s i r step.0 good)
each_keeps votes (LandGot i r got) s new step good = subst (Good votes) (sym step.1) (land_got_keeps votes s i r got step.0 good)
each_keeps votes (LandReadFailed i r) s new step good = subst (Good votes) (sym step.1) (land_read_failed_keeps votes s i r step.0 good)
each_keeps votes (LandNoFresh i r) s new step good = subst (Good votes) (sym step.1) (land_no_fresh_keeps votes s i r step.0 good)
each_keeps votes (EndStep i r) s new step good = subst (Good votes) (sym step.1) (end_step_keeps votes s i r step.0 good)
each_keeps votes (Take i r) s new step good = subst (Good votes) (sym step.1) (take_keeps votes s i r step.0 good)
each_keeps votes (TakeEarlier q) s new step good = subst (Good votes) (sym step.1) (take_earlier_keeps votes s q step.0 good)
each_keeps votes (Want wanted missing open_copy) s new step good = subst (Good votes) (sym step.1) (want_keeps votes s wanted missing open_copy step.0 good)
each_keeps votes (BeginUpdate u) s new step good = subst (Good votes) (sym step.1) (begin_update_keeps votes s u step.0 good)
each_keeps votes (MoveStatus u status flying) s new step good = subst (Good votes) (sym step.1) (move_status_keeps votes s u status flying step.0 good)
each_keeps votes (CommitUpdate u has_it done wanted open_copy) s new step good = subst (Good votes) (sym step.1) (commit_keeps votes s u has_it done wanted open_copy step.0 good)
each_keeps votes EndUpdate s new step good = subst (Good votes) (sym step.1) (end_update_keeps votes s step.0 good)
each_keeps votes (StartNote flying) s new step good = subst (Good votes) (sym step.1) (start_note_keeps votes s flying step.0 good)
each_keeps votes (EndNote d names home flying) s new step good = subst (Good votes) (sym step.1) (end_note_keeps votes s d names home flying step.0 good)
each_keeps votes (Open o) s new step good = subst (Good votes) (sym step.1) (open_keeps votes s o step.0 good)
each_keeps votes (CopyWrite i r value target open_copy step_write block) s new step good = subst (Good votes) (sym step.1) (copy_write_keeps votes s i r value target open_copy step_write block step.0 good)
each_keeps votes (Clear wanted c) s new step good = subst (Good votes) (sym step.1) (clear_keeps votes s wanted c step.0 good)

pub each_moment : EachMomentIsKept
each_moment votes [] old new good same = subst (Reached votes) (sym same) (record { good = good; kept = core_kept old good.sound; legal = good.told.legal })
each_moment votes (event ∷ events) old new good steps = each_moment votes events steps.0 new (each_keeps votes event old steps.0 steps.1 good) steps.2

-- How the posts of a session ended that is over behind a line.
use Rattle.std.proofs.Common.{◌≡◌, ◌⊎◌, inl, inr, ⊎_elim, ◌≤◌, ◌++◌, ◌==◌, ℕ, Bool, true, false, if◌then◌else◌, List, [], ◌∷◌, Option, Some, None, refl, sym, ◌∙◌, ap, subst, arith}
use Rattle.std.specs.Prelude.{IfSome, IsSomeAnd}
use Rattle.lvm_disk.specs.Counts.{Counts, Rose}
use Rattle.lvm_disk.specs.Device.{Device}
use Rattle.lvm_disk.specs.Steps.{Cuts, with_order}
use Rattle.lvm_disk.specs.declared.shelf.Arrange.TheVariants as arrange
use Rattle.lvm_vol.specs.declared.entry.Outcome.{Outcome}
use Rattle.lvm_vol.specs.declared.entry.Outcome.TheVariants as outcome
use Rattle.lvm_vol.specs.Facts.{Cut, Fact}
use Rattle.lvm_vol.specs.Log.{Log, cut_log, is_uncut, landed_fact, lands_id, request_of, with_fact}
use Rattle.lvm_session.specs.declared.open.Open.{Open}
use Rattle.lvm_session.specs.declared.open.Power.{Power}
use Rattle.lvm_session.specs.declared.open.Power.TheVariants as power
use Rattle.lvm_session.specs.Dark.{all_dark, landings}
use Rattle.lvm_session.specs.Judging.{is_waiting}
use Rattle.lvm_session.specs.Sound.{IsSound, outcome_by, outcome_in}
use Rattle.lvm_session.specs.State.{Core, State, state}
use Rattle.lvm_volume_lines.specs.passed.Tie.{LeavesSession}
use Rattle.lvm_volume_lines.specs.passed.GroupLines.{ArePosted, CutDoes, CutNotPlanned, IsBetween, IsOnBetween, PowerIsCut, Reply, ScriptState, history_after, log_with}
use Rattle.lvm_volume_lines.specs.passed.RangeLines.{CarriesBy, FailsIf, IsOverWith}
use Rattle.lvm_line.specs.Told.{OutcomeCause, PostsEndForCause}
use Rattle.lvm_line.proofs.CausesLemmas.Landing.{landing_cause}
use Rattle.lvm_line.proofs.CausesLemmas.Turns.{WentWithin, by_leaves, over_counts, went_dark}

same_outcome : {F G : List Fact} → F ≡ G → (id : ℕ) {how : Outcome} → outcome_in F id ≡ Some how → outcome_in G id ≡ Some how
same_outcome same id {how} told = subst (λ (fs : List Fact). outcome_in fs id ≡ Some how) same told

none_held : (o : Option Core) → o ≡ None → (P : Core → Type 0) → IsSomeAnd o P → ⊥
none_held None off P it = it
none_held (Some core) off P it = cc off

module _ (old new : ScriptState) (between : IsBetween old.moment old.session old.posts) where
  -- without a session none of its posts is there
  off_ends : old.session ≡ None → PostsEndForCause old new
  off_ends off none k d less own = absurd (none_held old.session off _ ((between.posted.each k d less).held own))

  -- nothing changes
  pub same_ends : new ≡ old → PostsEndForCause old new
  same_ends same none = off_ends (sym (ap (λ (s : ScriptState). s.session) same) ∙ none) none

  -- it was on, and has come to this
  module _ (core : Core) (on : old.session ≡ Some core) (end : State) (went : WentWithin old core end) (sound : IsSound end) where
    over_ends : IsOverWith end old.posts old.last new → PostsEndForCause old new
    over_ends over none k d less own j how low told =
        let counts = over_counts end old.posts old.last new over in
        landing_cause old new core on end sound went.faults (λ disk. let same = ap (λ (n : Counts). n.faults disk) counts in omega (arith, same))
        (went_dark old new core end between went sound counts)
        _ how ((over.stood.each k d less).held own j low) (same_outcome over.facts _ told)

    carried_ends : (p : Power) → CarriesBy p end old.posts old.last new → PostsEndForCause old new
    carried_ends power.On is = λ none. absurd (let e = sym (ap (λ (s : ScriptState). s.session) is) ∙ none in cc e)
    carried_ends power.Off over = over_ends over
    carried_ends power.Dark over = over_ends over
    carried_ends power.Stuck over = over_ends over

    pub went_fails : (b : Bool) → FailsIf b end old.posts old.last new → PostsEndForCause old new
    went_fails true over = over_ends over
    went_fails false it = carried_ends end.core.power it

  module _ (core : Core) (on : old.session ≡ Some core) (end : State) (leaves : LeavesSession (state old.moment.device core) end) (sound : IsSound end) where
    pub carries_ends : CarriesBy end.core.power end old.posts old.last new → PostsEndForCause old new
    carries_ends it = carried_ends core on end (by_leaves old core end leaves) sound end.core.power it

    pub fails_ends : (b : Bool) → FailsIf b end old.posts old.last new → PostsEndForCause old new
    fails_ends = went_fails core on end (by_leaves old core end leaves) sound

-- ---- a power cut that is ordered

-- what it enters lands as Dark
dark_lands : (F : List Fact) (os : List Open) (id : ℕ) (how : Outcome) → outcome_in (landings outcome.Dark F os) id ≡ Some how → how ≡ outcome.Dark
dark_lands F [] id how e = absurd (cc e)
dark_lands F (o ∷ os) id how e = by (is_waiting o) _ (dark_lands F os id how) e
  where
    rest : (b : Bool) → (outcome_in (landings outcome.Dark F os) id ≡ Some how → how ≡ outcome.Dark) → (if b then Some outcome.Dark else outcome_in (landings outcome.Dark F os) id) ≡ Some how → how ≡ outcome.Dark
    rest true more is = sym (cc is)
    rest false more is = more is

    by : (b started : Bool) → (outcome_in (landings outcome.Dark F os) id ≡ Some how → how ≡ outcome.Dark) → outcome_in (if b then landed_fact F o.request.id outcome.Dark started ∷ landings outcome.Dark F os else landings outcome.Dark F os) id ≡ Some how → how ≡ outcome.Dark
    by true started more is = rest ((request_of F o.request.id).id == id) more is
    by false started more is = more is

dark_behind : (facts F : List Fact) (os : List Open) (id : ℕ) (how : Outcome) → outcome_in (facts ++ landings outcome.Dark F os) id ≡ Some how → (outcome_in facts id ≡ Some how) ⊎ (how ≡ outcome.Dark)
dark_behind [] F os id how e = inr (dark_lands F os id how e)
dark_behind (f ∷ facts) F os id how e = by (lands_id id f) (dark_behind facts F os id how) e
  where
    by : (b : Bool) → (outcome_in (facts ++ landings outcome.Dark F os) id ≡ Some how → (outcome_in facts id ≡ Some how) ⊎ (how ≡ outcome.Dark)) → (if b then outcome_by f else outcome_in (facts ++ landings outcome.Dark F os) id) ≡ Some how → ((if b then outcome_by f else outcome_in facts id) ≡ Some how) ⊎ (how ≡ outcome.Dark)
    by true more is = inl is
    by false more is = more is

cut_behind : (facts : List Fact) (id : ℕ) → outcome_in (facts ++ Cut ∷ []) id ≡ outcome_in facts id
cut_behind [] id = refl
cut_behind (f ∷ facts) id = ap (λ (o : Option Outcome). if lands_id id f then outcome_by f else o) (cut_behind facts id)

cut_still : (log : Log) (id : ℕ) → outcome_in (cut_log log).facts id ≡ outcome_in log.facts id
cut_still log id = by (is_uncut log.facts)
  where
    by : (b : Bool) → outcome_in (if b then with_fact log Cut else log).facts id ≡ outcome_in log.facts id
    by true = cut_behind log.facts id
    by false = refl

all_dark_lands : (core : Core) (id : ℕ) (how : Outcome) → outcome_in (all_dark core).history.facts id ≡ Some how → (outcome_in core.history.facts id ≡ Some how) ⊎ (how ≡ outcome.Dark)
all_dark_lands core id how e =
    ⊎_elim (λ was. inl (sym (cut_still core.history id) ∙ was)) (λ dark. inr dark) (dark_behind (cut_log core.history).facts (cut_log core.history).facts core.requests id how e)

module _ (log : Log) (word : ℕ) (old new : ScriptState) (between : IsBetween old.moment old.session old.posts) where
  module _ (cuts : Rose old.moment.device.counts.cuts new.moment.device.counts.cuts) (later : (disk : ℕ) → old.moment.device.counts.faults disk ≤ new.moment.device.counts.faults disk) where
    cut_so : (on : Option Core) → old.session ≡ on → IfSome on (IsOnBetween old.moment.device) → ArePosted old.moment.facts on old.posts
        → new.moment.facts ≡ (history_after (arrange.Cut word) true (cut_log (log_with log old.moment.facts)) on).facts → PostsEndForCause old new
    cut_so None off session posted facts = off_ends old new between off
    cut_so (Some core) on session posted facts = λ none k d less own j how low told.
        ⊎_elim
        (λ was. landing_cause old new core on (state old.moment.device core) session.sound refl later (λ dark. absurd (let e : power.On ≡ power.Dark = sym session.power ∙ dark in cc e)) _ how ((posted.each k d less).held own j low) was)
        (λ dark. subst (OutcomeCause old new) (sym dark) cuts)
        (all_dark_lands core _ how (same_outcome facts _ told))

  pub cut_ends : (answer : Reply) → CutDoes log word old new answer → PostsEndForCause old new
  cut_ends answer (CutNotPlanned unplanned is) = same_ends old new between is.1
  cut_ends answer (PowerIsCut planned says cut) =
      let went : Cuts (with_order old.moment.device (arrange.Cut word)) cut.dark = ⊎_elim (λ off. absurd (let e = sym between.lit.power ∙ off.0 in cc e)) (λ cuts. cuts) cut.cut.1 in
      let counts = ap (λ (d : Device). d.counts) cut.lit in
      cut_so (subst (λ (n : Counts). Rose old.moment.device.counts.cuts n.cuts) (sym counts) went.cuts)
      (λ disk. let same = ap (λ (n : Counts). n.faults disk) counts in let stays = ap (λ (d : Device). d.counts.faults disk) went.new_is in omega (arith, same, stays))
      old.session refl between.session between.posted cut.facts

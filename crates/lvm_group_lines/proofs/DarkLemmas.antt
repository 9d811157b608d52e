-- A session whose power is cut: its history, and its requests.
use Rattle.std.proofs.Common.{◌≡◌, ◌∷◌, ◌++◌, ◌+◌, ◌||◌, [], ℕ, List, Bool, true, false, if◌then◌else◌, map, Some, None, refl, sym, ◌∙◌, ap, subst, append_assoc}
use Rattle.std.specs.List.{list_any}
use Rattle.std.proofs.lemmas.List.{append-nil}
use Rattle.lvm_vol.specs.declared.entry.Outcome.{Outcome}
use Rattle.lvm_vol.specs.declared.entry.Outcome.TheVariants as outcome
use Rattle.lvm_vol.specs.Facts.{Fact, Cut}
use Rattle.lvm_vol.specs.Log.{Log, cut_log, is_uncut, is_uncut_from, is_uncut_after, landed_fact, takes_id}
use Rattle.lvm_path.specs.Next.{with_landing}
use Rattle.lvm_path.specs.Targets.{is_begun}
use Rattle.lvm_session.specs.declared.open.Open.{Open}
use Rattle.lvm_session.specs.Calls.{is_asked}
use Rattle.lvm_session.specs.Dark.{all_dark, ended_as, landings}
use Rattle.lvm_session.specs.Judging.{is_waiting}
use Rattle.lvm_session.specs.State.{Core}
use Rattle.lvm_group_lines.specs.passed.Posts.{Asked, AreAnswered, AreHeld}
use Rattle.lvm_group_lines.specs.State.{log_with}
use Rattle.lvm_group_lines.proofs.FactsLemmas.{bears_cut}
use Rattle.lvm_group_lines.proofs.StateLemmas.{answered_bears, answered_on}

-- ---- its history

-- landings end nothing that a cut would
landings_uncut : (b : Bool) (how : Outcome) (facts : List Fact) (os : List Open) → is_uncut_from b (landings how facts os) ≡ b
landings_uncut b how facts [] = refl
landings_uncut b how facts (o ∷ os) = by (is_waiting o) (landings_uncut b how facts os)
  where
    by : (w : Bool) → is_uncut_from b (landings how facts os) ≡ b
        → is_uncut_from b (if w then landed_fact facts o.request.id how (is_begun o.request.targets.items) ∷ landings how facts os else landings how facts os) ≡ b
    by true rest = rest
    by false rest = rest

uncut_behind : (b : Bool) (facts more : List Fact) → ((c : Bool) → is_uncut_from c more ≡ c) → is_uncut_from b (facts ++ more) ≡ is_uncut_from b facts
uncut_behind b [] more still = still b
uncut_behind b (f ∷ facts) more still = uncut_behind (is_uncut_after b f) facts more still

ends_cut : (b : Bool) (facts : List Fact) → is_uncut_from b (facts ++ Cut ∷ []) ≡ false
ends_cut b [] = refl
ends_cut b (f ∷ facts) = ends_cut (is_uncut_after b f) facts

cut_ends : (log : Log) → is_uncut (cut_log log).facts ≡ false
cut_ends log = by (is_uncut log.facts) refl
  where
    by : (b : Bool) → is_uncut log.facts ≡ b → is_uncut (if b then record log { facts = log.facts ++ Cut ∷ [] } else log).facts ≡ false
    by true is = ends_cut false log.facts
    by false is = is

-- a session whose power was cut has entered it
pub dark_is_cut : (core : Core) → cut_log (all_dark core).history ≡ (all_dark core).history
dark_is_cut core = ap (λ (b : Bool). if b then record (all_dark core).history { facts = (all_dark core).history.facts ++ Cut ∷ [] } else (all_dark core).history)
    (uncut_behind false (cut_log core.history).facts (landings outcome.Dark (cut_log core.history).facts core.requests) (λ c. landings_uncut c outcome.Dark (cut_log core.history).facts core.requests) ∙ cut_ends core.history)

-- without requests nothing else is entered
pub dark_alone : (core : Core) → core.requests ≡ [] → (all_dark core).history ≡ cut_log core.history
dark_alone core none =
    ap (λ (os : List Open). log_with (cut_log core.history) ((cut_log core.history).facts ++ landings outcome.Dark (cut_log core.history).facts os)) none
    ∙ ap (λ (facts : List Fact). log_with (cut_log core.history) facts) (append-nil (cut_log core.history).facts)

-- ---- answers that aren't taken

-- landings take none
landed_on : (how : Outcome) (told facts : List Fact) (os : List Open) (range : Asked) → AreAnswered facts range → AreAnswered (facts ++ landings how told os) range
landed_on how told facts [] range answered = subst (λ (l : List Fact). AreAnswered l range) (sym (append-nil facts)) answered
landed_on how told facts (o ∷ os) range answered = by (is_waiting o) (landed_on how told facts os range answered) (λ f none. landed_on how told (facts ++ f ∷ []) os range (answered_on facts f range none answered))
  where
    by : (w : Bool) → AreAnswered (facts ++ landings how told os) range → ((f : Fact) → ((id : ℕ) → takes_id id f ≡ false) → AreAnswered ((facts ++ f ∷ []) ++ landings how told os) range)
        → AreAnswered (facts ++ (if w then landed_fact told o.request.id how (is_begun o.request.targets.items) ∷ landings how told os else landings how told os)) range
    by false rest more = rest
    by true rest more = subst (λ (l : List Fact). AreAnswered l range) (append_assoc facts (landed_fact told o.request.id how (is_begun o.request.targets.items) ∷ []) (landings how told os))
        (more (landed_fact told o.request.id how (is_begun o.request.targets.items)) (λ id. refl))

pub dark_leaves : (core : Core) (range : Asked) → AreAnswered core.history.facts range → AreAnswered (all_dark core).history.facts range
dark_leaves core range answered = landed_on outcome.Dark (cut_log core.history).facts (cut_log core.history).facts core.requests range (bears_cut (λ facts. AreAnswered facts range) (answered_bears range) core.history answered)

-- ---- its requests

-- they stay in the table
ended_asked : (how : Outcome) (os : List Open) (id : ℕ) → list_any (is_asked 1 id) (map (ended_as how) os) ≡ list_any (is_asked 1 id) os
ended_asked how [] id = refl
ended_asked how (o ∷ os) id = ap (λ (b : Bool). b || list_any (is_asked 1 id) (map (ended_as how) os)) (same (is_waiting o)) ∙ ap (λ (b : Bool). is_asked 1 id o || b) (ended_asked how os id)
  where
    same : (w : Bool) → is_asked 1 id (if w then record o { request = with_landing o.request; got = None; landed = Some how } else o) ≡ is_asked 1 id o
    same true = refl
    same false = refl

pub dark_held : (core : Core) (range : Asked) → AreHeld core range → AreHeld (all_dark core) range
dark_held core range held k less = ended_asked outcome.Dark core.requests (range.first + k) ∙ held k less

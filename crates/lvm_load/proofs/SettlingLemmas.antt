-- What follows the workers of a load, and its totals.
use Rattle.std.proofs.Common.{◌≡◌, ◌+◌, ℕ, Bool, true, false, not, cond, Option, Some, None, List, [], ◌∷◌, length, refl, sym, ap, ◌∙◌, arith}
use Rattle.std.specs.Prelude.{IfSome, count_by, is_some}
use Rattle.std.proofs.lemmas.List.Sums.{sum_by-cons}
use Rattle.lvm_vol.specs.Facts.{Fact, Making, Made, Split, Removing, Removed, Begun, Landed, Taken, Cut, On, begun}
use Rattle.lvm_session.specs.State.{State}
use Rattle.lvm_workers.specs.declared.work.Tally.{Tally}
use Rattle.lvm_load.specs.declared.load.Load.{Load}
use Rattle.lvm_load.specs.declared.serve.Synced.{Synced}
use Rattle.lvm_load.specs.declared.totals.Totals.{Totals}
use Rattle.lvm_load.specs.Lending.{IsServing}
use Rattle.lvm_load.specs.Loading.{HasLoaded, plan_of}
use Rattle.lvm_load.specs.Bringing.{EndsBehind}
use Rattle.lvm_load.specs.Serving.{IsLoadedBy}
use Rattle.lvm_load.specs.Settling.{Settles}
use Rattle.lvm_load.specs.Totals.{entries_since, totals_of}
use Rattle.lvm_load.proofs.BringingLemmas.{behind_gains}
use Rattle.lvm_load.proofs.FactsLemmas.{Gains, begins, begun_since, gains_then}
use Rattle.lvm_load.proofs.PathsLemmas.{path_gains}

-- the requests that began are counted
begins_count : (facts : List Fact) → count_by begins facts ≡ length (begun facts)
begins_count [] = refl
begins_count (f ∷ facts) =
    let rest = begins_count facts in
    let all : count_by begins (f ∷ facts) ≡ cond (begins f) 1 0 + count_by begins facts = sum_by-cons (λ (g : Fact). cond (begins g) 1 0) f facts in
    by f rest all
  where
    by : (g : Fact) → count_by begins facts ≡ length (begun facts) → count_by begins (g ∷ facts) ≡ cond (begins g) 1 0 + count_by begins facts → count_by begins (g ∷ facts) ≡ length (begun (g ∷ facts))
    by (Begun r) rest all = omega (arith, rest, all)
    by (Making lv blocks m) rest all = omega (arith, rest, all)
    by (Made lv) rest all = omega (arith, rest, all)
    by (Split from lv) rest all = omega (arith, rest, all)
    by (Removing vol) rest all = omega (arith, rest, all)
    by (Removed vol) rest all = omega (arith, rest, all)
    by (Landed r how started got) rest all = omega (arith, rest, all)
    by (Taken r) rest all = omega (arith, rest, all)
    by Cut rest all = omega (arith, rest, all)
    by (On moment) rest all = omega (arith, rest, all)

-- The workers leave last, turns behind them rests, and what is done for the copies end.
module _ (lv blocks : ℕ) (load : Load) (first last rests end : State) (tally : Tally) (serves : IsServing (plan_of first lv blocks load) last) (made : HasLoaded (plan_of first lv blocks load) load last tally)
    (waits : Bool) (settles : Settles last rests waits) (synced : Option Synced) (waiting : Bool) (behind : EndsBehind load.sync lv rests waits end synced waiting) where
  gained : Gains (tally.begun + 0 + 0) first.core.history.facts end.core.history.facts
  gained =
      gains_then (tally.begun + 0) 0 first.core.history.facts rests.core.history.facts end.core.history.facts
      (gains_then tally.begun 0 first.core.history.facts last.core.history.facts rests.core.history.facts
      (record { more = made.since; is = made.is; begun = begins_count made.since ∙ sym made.begun })
      (path_gains last rests settles.turns))
      (behind_gains load.sync lv rests waits end synced waiting behind)

  pub loaded_by : (totals : Totals) → totals ≡ totals_of load.requests (entries_since (length first.core.history.facts) end.core.history.facts)
      → IsLoadedBy lv blocks load first end (record { totals = totals; waiting = waiting }) synced
  loaded_by totals is =
      let count = begun_since (tally.begun + 0 + 0) first.core.history.facts end.core.history.facts gained in
      let counted = ap (λ (t : Totals). t.begun) is in
      let left = ap (λ (t : Totals). t.unbegun) is in
      let all = made.all in
      record {
        last = last;
        tally = tally;
        serves = serves;
        made = made;
        rests = rests;
        waits = waits;
        settles = settles;
        behind = behind;
        totals = is;
        begun = omega (arith, count, counted);
        unbegun = omega (arith, count, left, all);
      }

-- where memory was found for the workers
pub loaded_some :
    (lv blocks : ℕ) (load : Load) (first last rests end : State) (found : Option Tally) (none : Bool) → is_some found ≡ not none → none ≡ false → IsServing (plan_of first lv blocks load) last
    → IfSome found (HasLoaded (plan_of first lv blocks load) load last) → (waits : Bool) → Settles last rests waits → (synced : Option Synced) (waiting : Bool) → EndsBehind load.sync lv rests waits end synced waiting
    → (totals : Totals) → totals ≡ totals_of load.requests (entries_since (length first.core.history.facts) end.core.history.facts)
    → IsLoadedBy lv blocks load first end (record { totals = totals; waiting = waiting }) synced
loaded_some lv blocks load first last rests end (Some tally) none has found serves made waits settles synced waiting behind totals is =
    loaded_by lv blocks load first last rests end tally serves made waits settles synced waiting behind totals is
loaded_some lv blocks load first last rests end None none has found serves made waits settles synced waiting behind totals is = absurd (none_of none has found)
  where
    none_of : (b : Bool) → false ≡ not b → b ≡ false → ⊥
    none_of true has found = cc found
    none_of false has found = cc has

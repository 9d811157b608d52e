-- One run after another.
use Rattle.std.proofs.Common.{◌≡◌, ◌+◌, ◌++◌, ◌∷◌, [], ◌<◌, ◌≤◌, ℕ, List, Bool, true, false, Option, Some, None, cond, count_by, refl, sym, ap, ◌∙◌, arith}
use Rattle.std.specs.Prelude.{◌==◌, IfSome}
use Rattle.std.proofs.lemmas.Bool.{eqb-true}
use Rattle.std.proofs.lemmas.List.Sums.{sum_by-append, sum_by-cons}
use Rattle.lvm_disk.specs.Device.{Device}
use Rattle.lvm_io.specs.Count.{Rose}
use Rattle.lvm_vol.specs.Facts.{Fact, Making, Made, Split, Removing, Removed, Begun, Landed, Taken, Cut, On, joined}
use Rattle.lvm_vol.specs.Legal.{begins_in}
use Rattle.lvm_vol.specs.Log.{Log}
use Rattle.lvm_vol.specs.Order.{Ordered}
use Rattle.lvm_steps.specs.Moments.{IsEarlier}
use Rattle.lvm_steps.specs.Behind.{StampsAreEarlier, IsAhead}
use Rattle.lvm_steps.proofs.LawsLemmas.Clock.{later_is_later_too, joined_is_later}
use Rattle.lvm_steps.proofs.LawsLemmas.Stamps.{later_is_ahead_too}
use Rattle.lvm_top.specs.Run.{Run, Promises, RanAlone}
use Rattle.lvm_top.specs.Left.{IsLeftOf}
use Rattle.lvm_top.specs.declared.status.ExitStatus.TheVariants as ended
use Rattle.lvm_top.specs.Runs.{NextMayBegin, TwoRunsUphold}
use Rattle.lvm_top.proofs.LeftLemmas.{left_is_behind, next_after_cut}
use Rattle.lvm_top.specs.Clock.{Clocked}
use Rattle.lvm_top.specs.Script.{empty_log, facts_of}
use Rattle.lvm_top.proofs.MomentsLemmas.{told_earlier, told_behind}

-- ---- requests of one run are of no other

module _ (run next : ℕ) (other : run ≡ next → ⊥) where
  of_no_other : (past facts : List Fact) → Ordered run past facts → count_by (begins_in next) facts ≡ 0
  of_no_other past [] ordered = refl
  of_no_other past (Begun r ∷ facts) ordered = by_test (r.run == next) refl (of_no_other (past ++ Begun r ∷ []) facts ordered.1)
    where
      by_test : (t : Bool) → (r.run == next) ≡ t → count_by (begins_in next) facts ≡ 0 → count_by (begins_in next) (Begun r ∷ facts) ≡ 0
      by_test true is rest = absurd (other (sym ordered.0.0 ∙ eqb-true r.run next is))
      by_test false is rest =
          let sum : count_by (begins_in next) (Begun r ∷ facts) ≡ cond (r.run == next) 1 0 + count_by (begins_in next) facts = sum_by-cons (λ g. cond (begins_in next g) 1 0) (Begun r) facts in
          let none : ◌≡◌ {A = ℕ} (cond (r.run == next) 1 0) 0 = ap (λ (b : Bool). cond b 1 0) is in
          omega (arith, sum, none, rest)
  of_no_other past (Making lv blocks mode ∷ facts) ordered = of_no_other (past ++ Making lv blocks mode ∷ []) facts ordered.1
  of_no_other past (Made lv ∷ facts) ordered = of_no_other (past ++ Made lv ∷ []) facts ordered.1
  of_no_other past (Split from lv ∷ facts) ordered = of_no_other (past ++ Split from lv ∷ []) facts ordered.1
  of_no_other past (Removing vol ∷ facts) ordered = of_no_other (past ++ Removing vol ∷ []) facts ordered.1
  of_no_other past (Removed vol ∷ facts) ordered = of_no_other (past ++ Removed vol ∷ []) facts ordered.1
  of_no_other past (Landed r how started got ∷ facts) ordered = of_no_other (past ++ Landed r how started got ∷ []) facts ordered.1
  of_no_other past (Taken r ∷ facts) ordered = of_no_other (past ++ Taken r ∷ []) facts ordered.1
  of_no_other past (Cut ∷ facts) ordered = of_no_other (past ++ Cut ∷ []) facts ordered.1
  of_no_other past (On moment ∷ facts) ordered = of_no_other (past ++ On moment ∷ []) facts ordered.1

-- ---- what a run leaves

module _ (asked : Clocked) (next : ℕ) (r : Run) (exit : Device) (past : List Fact) (did : Promises asked r) (earlier : IsEarlier r.named r.entry past) (behind : StampsAreEarlier r.named r.entry) (heard : r.status ≡ ended.Stuck → ⊥)
    (own : count_by (begins_in next) past ≡ 0) (later : r.last < next) (alone : RanAlone did.does) (left : IsLeftOf r.exit exit) where
  abbrev facts : List Fact
  facts = facts_of r.history

  ahead : IsAhead r.named (r.last + 1) r.exit (facts_of r.history)
  ahead = did.ahead behind

  none_told : (o : Option Log) → IfSome o (λ log. Rose asked.last log.run × (log.run ≤ r.last)) → IfSome o (λ log. log ≡ record (empty_log r.named r.room) { facts = log.facts }) → Ordered r.named [] (facts_of o)
      → count_by (begins_in next) (facts_of o) ≡ 0
  none_told None clock is ordered = refl
  none_told (Some log) clock is ordered = of_no_other r.named next
      (λ same. let run : log.run ≡ r.named = ap (λ (l : Log). l.run) is in let le = clock.1 in absurd (omega (arith, run, le, same, later)))
      [] log.facts ordered

  none_joined : count_by (begins_in next) (joined past facts) ≡ 0
  none_joined =
      let sum : count_by (begins_in next) (past ++ Cut ∷ facts) ≡ count_by (begins_in next) past + count_by (begins_in next) (Cut ∷ facts) = sum_by-append (λ g. cond (begins_in next g) 1 0) past (Cut ∷ facts) in
      let mine : count_by (begins_in next) (Cut ∷ facts) ≡ 0 = none_told r.history did.clock did.does.history_is did.tells in
      omega (arith, sum, own, mine)

  pub next_begins : IsEarlier next exit (joined past facts) × StampsAreEarlier next exit
  next_begins =
      let le : r.named ≤ next = let a = ahead.run_is in omega (arith, a, later) in
      let end : r.last + 1 ≤ next = omega (arith, later) in (
        next_after_cut r.named next r.entry r.exit exit past facts earlier (did.upheld did.does alone behind) left none_joined
            (joined_is_later r.named next past facts le earlier.moments (later_is_later_too (r.last + 1) next facts end ahead.later)),
        later_is_ahead_too (r.last + 1) next exit end (left_is_behind (r.last + 1) r.exit exit (did.ahead_each behind heard) left),
      )

pub next_may_begin : NextMayBegin
next_may_begin asked next r exit past did earlier behind heard own later alone left = next_begins asked next r exit past did earlier behind heard own later alone left

pub two_runs_uphold : TwoRunsUphold
two_runs_uphold asked again first second did does blank heard left later alone alone_too =
    let facts : List Fact = facts_of first.history in
    let begins = next_may_begin asked second.named first second.entry [] did (told_earlier first.named first.entry blank) (told_behind first.named first.entry blank) heard refl later alone left in
    let upheld = does.upheld does.does alone_too begins.1 in
    (upheld.legal (joined [] facts) begins.0, upheld.kept (joined [] facts) begins.0)

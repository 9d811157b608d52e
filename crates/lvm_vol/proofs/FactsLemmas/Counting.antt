-- A run's requests are as many as its history begins.
use Rattle.std.proofs.Common.{◌≡◌, inl, inr, ◌+◌, ◌==◌, ℕ, Bool, true, cond, List, [], ◌∷◌, length, count_by, refl, ◌∙◌, ap, arith}
use Rattle.std.proofs.lemmas.Bool.Decides.{nat_tests}
use Rattle.std.proofs.lemmas.List.Sums.{sum_by-cons}
use Rattle.lvm_vol.specs.Facts.{Request, Fact, Making, Made, Split, Removing, Removed, Begun, Landed, Taken, Cut, On, IsInList, begun}
use Rattle.lvm_vol.specs.Legal.{begins_in}

pub count_begun : (run : ℕ) (facts : List Fact) → ((r : Request) → IsInList r (begun facts) → r.run ≡ run) → count_by (begins_in run) facts ≡ length (begun facts)
count_begun run [] runs = refl
count_begun run (f ∷ facts) runs = by_fact (λ fewer. count_begun run facts fewer) f runs
  where
    counts_one : (g : Fact) → count_by (begins_in run) (g ∷ facts) ≡ cond (begins_in run g) 1 0 + count_by (begins_in run) facts
    counts_one g = sum_by-cons (λ (x : Fact). cond (begins_in run x) 1 0) g facts

    by_fact : (((r : Request) → IsInList r (begun facts) → r.run ≡ run) → count_by (begins_in run) facts ≡ length (begun facts)) → (g : Fact)
        → ((r : Request) → IsInList r (begun (g ∷ facts)) → r.run ≡ run) → count_by (begins_in run) (g ∷ facts) ≡ length (begun (g ∷ facts))
    by_fact rest (Begun r) all =
        let one : ◌≡◌ {A = ℕ} (cond (r.run == run) 1 0) 1 = ap (λ (n : ℕ). cond (n == run) 1 0) (all r (inl refl)) ∙ (let e : (run == run) ≡ true = grind (arith, nat_tests) in ap (λ (t : Bool). cond t 1 0) e) in
        let more = rest (λ s there. all s (inr there)) in
        omega (arith, counts_one (Begun r), one, more)
    by_fact rest (Landed r how started got) all = counts_one (Landed r how started got) ∙ (let more = rest all in omega (arith, more))
    by_fact rest (Taken r) all = counts_one (Taken r) ∙ (let more = rest all in omega (arith, more))
    by_fact rest (Making lv blocks m) all = counts_one (Making lv blocks m) ∙ (let more = rest all in omega (arith, more))
    by_fact rest (Made lv) all = counts_one (Made lv) ∙ (let more = rest all in omega (arith, more))
    by_fact rest (Split from lv) all = counts_one (Split from lv) ∙ (let more = rest all in omega (arith, more))
    by_fact rest (Removing vol) all = counts_one (Removing vol) ∙ (let more = rest all in omega (arith, more))
    by_fact rest (Removed vol) all = counts_one (Removed vol) ∙ (let more = rest all in omega (arith, more))
    by_fact rest Cut all = counts_one Cut ∙ (let more = rest all in omega (arith, more))
    by_fact rest (On moment) all = counts_one (On moment) ∙ (let more = rest all in omega (arith, more))

-- What a pass knows, from one call to a later one.
use Rattle.std.proofs.Common.{◌≡◌, ◌≤◌, ◌<◌, ◌+◌, ◌⊎◌, ◌||◌, ℕ, zero, suc, Bool, true, false, Option, List, [], ◌∷◌, refl, sym, ap, ◌∙◌, subst, ⊎_elim, inl, inr, arith}
use Rattle.lvm_num.specs.Buffer.{Sector}
use Rattle.lvm_num.specs.Counting.{RoseBy}
use Rattle.lvm_vol.specs.Fronts.{Told, IsPrefixOf, NoneFell}
use Rattle.lvm_vol.proofs.FrontsLemmas.{begins_itself, begins_further, none_fell, none_fell_further}
use Rattle.lvm_turn.specs.Views.{Standing, View, greater, joined}
use Rattle.lvm_workers.specs.declared.service.Asked.{Asked}
use Rattle.lvm_workers.specs.declared.service.Asked.TheVariants as asked
use Rattle.lvm_workers.specs.declared.words.Draw.{Draw}
use Rattle.lvm_workers.specs.declared.work.Tally.{Tally}
use Rattle.lvm_workers.specs.Crews.{added}
use Rattle.lvm_workers.specs.Knowing.{TallyHasCause, Knows, MayEnd, Refused, RefusedAs, WasMade, WasUnheard}

pub knows_itself : (v : View) → Knows v v
knows_itself v = record { fixed = refl; front = begins_itself v.front; counts = none_fell v.counts }

pub knows_further : (u v w : View) → Knows u v → Knows v w → Knows u w
knows_further u v w a b = record {
  fixed = b.fixed ∙ a.fixed;
  front = begins_further u.front v.front w.front a.front b.front;
  counts = none_fell_further u.counts v.counts w.counts a.counts b.counts;
}

-- a count that rose so often has risen so often once it has risen more
pub rose_on : (n a b c : ℕ) → RoseBy n a b → b ≤ c → RoseBy n a c
rose_on n a b c rose later = record { later = let h = rose.later in omega arith; risen = let h = rose.risen in omega arith }

pub rose_before : (n a b c : ℕ) → a ≤ b → RoseBy n b c → RoseBy n a c
rose_before n a b c later rose = record { later = let h = rose.later in omega arith; risen = let h = rose.risen in omega arith }

pub rose_more : (n a b c : ℕ) → RoseBy n a b → RoseBy 1 b c → RoseBy (n + 1) a c
rose_more n a b c rose once = record { later = let h = rose.later in let k = once.later in omega arith; risen = let h = rose.risen in let k = once.risen in omega arith }

pub rose_none : (a : ℕ) → RoseBy 0 a a
rose_none a = record { later = omega arith; risen = omega arith }

module _ {V : Type 0} (tells : V → Told) (past : V → Option (List (List Sector))) (always : V → Type 0) (refuses : V → ℕ → ℕ → Draw → Asked → Type 0) where
  -- a refusal stays one
  pub refused_as_on : (said : Asked) (v w : View) → Knows v w → RefusedAs tells past always refuses said v → RefusedAs tells past always refuses said w
  refused_as_on said v w knows was = record {
    value = was.value;
    client = was.client;
    number = was.number;
    drawn = was.drawn;
    why = was.why;
    holds = was.holds;
    fixed = was.fixed ∙ sym knows.fixed;
    front = begins_further (tells was.value).entries v.front w.front was.front knows.front;
    counts = none_fell_further (tells was.value).counts v.counts w.counts was.counts knows.counts;
  }

  pub refused_on : (v w : View) → Knows v w → Refused tells past always refuses v → Refused tells past always refuses w
  refused_on v w knows was = (was.0, refused_as_on was.0 v w knows was.1)

module _ {V : Type 0} (tells : V → Told) (past : V → Option (List (List Sector))) (always : V → Type 0) (Makes : V → V → Type 0) where
  -- what was made once stays so, for what is known later, and since what was known before
  pub made_on : (first v w : View) → Knows v w → WasMade tells past always Makes first v → WasMade tells past always Makes first w
  made_on first v w knows was = record {
    from = was.from;
    to = was.to;
    makes = was.makes;
    holds = was.holds;
    fixed = was.fixed ∙ sym knows.fixed;
    since = was.since;
    risen = was.risen;
    until = begins_further (tells was.to).entries v.front w.front was.until knows.front;
    rises = none_fell_further (tells was.to).counts v.counts w.counts was.rises knows.counts;
  }

  pub made_since : (first start v : View) → IsPrefixOf first.front start.front → NoneFell first.counts start.counts → WasMade tells past always Makes start v → WasMade tells past always Makes first v
  made_since first start v front counts was = record {
    from = was.from;
    to = was.to;
    makes = was.makes;
    holds = was.holds;
    fixed = was.fixed;
    since = begins_further first.front start.front (tells was.from).entries front was.since;
    risen = none_fell_further first.counts start.counts (tells was.from).counts counts was.risen;
    until = was.until;
    rises = was.rises;
  }

module _ (WasRefused : View → Type 0) (stays : (v w : View) → Knows v w → WasRefused v → WasRefused w) (waits : List ℕ → ℕ) (grow : (old new : List ℕ) → NoneFell old new → waits old ≤ waits new) where
  pub unheard_on : (first v w : View) → Knows v w → WasUnheard waits first v → WasUnheard waits first w
  unheard_on first v w knows rose = rose_on 1000000 (waits first.counts) (waits v.counts) (waits w.counts) rose (grow v.counts w.counts knows.counts)

  pub unheard_before : (first v w : View) → Knows first v → WasUnheard waits v w → WasUnheard waits first w
  unheard_before first v w knows rose = rose_before 1000000 (waits first.counts) (waits v.counts) (waits w.counts) (grow first.counts v.counts knows.counts) rose

  -- a cause stays one
  pub cause_on : (first v w : View) (t : Tally) → Knows v w → TallyHasCause WasRefused waits first v t → TallyHasCause WasRefused waits first w t
  cause_on first v w t knows cause = record {
    unbegun = λ some_are. ⊎_elim (λ (r : WasRefused v). inl (stays v w knows r)) (λ (u : WasUnheard waits first v). inr (unheard_on first v w knows u)) (cause.unbegun some_are);
    unheard = λ is. unheard_on first v w knows (cause.unheard is);
  }

  -- the causes of two tallies are those of both
  pub cause_both : (first v : View) (t u : Tally) → TallyHasCause WasRefused waits first v t → TallyHasCause WasRefused waits first v u → TallyHasCause WasRefused waits first v (added t u)
  cause_both first v t u a b = record {
    unbegun = λ some_are. by t.unbegun refl some_are;
    unheard = λ is. either t.unheard refl is;
  }
    where
      by : (n : ℕ) → t.unbegun ≡ n → 0 < n + u.unbegun → WasRefused v ⊎ WasUnheard waits first v
      by zero is some_are = b.unbegun (omega (arith, some_are))
      by (suc n) is some_are = a.unbegun (omega (arith, is))

      either : (p : Bool) → t.unheard ≡ p → p || u.unheard ≡ true → WasUnheard waits first v
      either true is some_is = a.unheard is
      either false is some_is = b.unheard some_is

module _ (WasRefused : View → Type 0) (waits : List ℕ → ℕ) where
  -- where the counts at first are the same
  pub cause_since : (first start v : View) (t : Tally) → start.counts ≡ first.counts → TallyHasCause WasRefused waits start v t → TallyHasCause WasRefused waits first v t
  cause_since first start v t same cause = record {
    unbegun = λ some_are. ⊎_elim (λ (r : WasRefused v). inl r) (λ (u : WasUnheard waits start v). inr (moved u)) (cause.unbegun some_are);
    unheard = λ is. moved (cause.unheard is);
  }
    where
      moved : WasUnheard waits start v → WasUnheard waits first v
      moved rose = subst (λ (k : List ℕ). RoseBy 1000000 (waits k) (waits v.counts)) same rose

-- so it is with a reason to end early
module _ (WasRefused : Asked → View → Type 0) (stays : (said : Asked) (v w : View) → Knows v w → WasRefused said v → WasRefused said w) (waits : List ℕ → ℕ) where
  pub end_on : (first v w : View) → Knows v w → waits v.counts ≤ waits w.counts → MayEnd WasRefused waits first v → MayEnd WasRefused waits first w
  end_on first v w knows later = ⊎_elim
      (λ (r : WasRefused asked.Refused v). inl (stays asked.Refused v w knows r))
      (λ (u : WasUnheard waits first v). inr (rose_on 1000000 (waits first.counts) (waits v.counts) (waits w.counts) u later))

pub end_since : (WasRefused : Asked → View → Type 0) (waits : List ℕ → ℕ) (first start v : View) → start.counts ≡ first.counts → MayEnd WasRefused waits start v → MayEnd WasRefused waits first v
end_since WasRefused waits first start v same = ⊎_elim
    (λ (r : WasRefused asked.Refused v). inl r)
    (λ (u : WasUnheard waits start v). inr (subst (λ (k : List ℕ). RoseBy 1000000 (waits k) (waits v.counts)) same u))

none_above : (xs ys : List ℕ) → NoneFell xs (greater xs ys)
none_above [] ys = tt
none_above (x ∷ xs) [] = (omega arith, none_fell xs)
none_above (x ∷ xs) (y ∷ ys) = (omega arith, none_above xs ys)

none_above_other : (xs ys : List ℕ) → NoneFell ys (greater xs ys)
none_above_other [] ys = none_fell ys
none_above_other (x ∷ xs) [] = tt
none_above_other (x ∷ xs) (y ∷ ys) = (omega arith, none_above_other xs ys)

-- what a pass knows that has taken in another
pub met_knows : (p w q : Standing) → q ≡ record p { knows = joined p.knows w.knows } → IsPrefixOf p.knows.front q.knows.front → Knows p.knows q.knows
met_knows p w q is grows = record {
  fixed = ap (λ (s : Standing). s.knows.fixed) is;
  front = grows;
  counts = subst (λ k. NoneFell p.knows.counts k) (sym (ap (λ (s : Standing). s.knows.counts) is)) (none_above p.knows.counts w.knows.counts);
}

pub met_other : (p w q : Standing) → q ≡ record p { knows = joined p.knows w.knows } → IsPrefixOf w.knows.front q.knows.front → w.knows.fixed ≡ p.knows.fixed → Knows w.knows q.knows
met_other p w q is grows same = record {
  fixed = ap (λ (s : Standing). s.knows.fixed) is ∙ sym same;
  front = grows;
  counts = subst (λ k. NoneFell w.knows.counts k) (sym (ap (λ (s : Standing). s.knows.counts) is)) (none_above_other p.knows.counts w.knows.counts);
}

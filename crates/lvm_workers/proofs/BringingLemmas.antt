-- A crew beside which copies are brought up, with a pass of its own.
use Rattle.std.proofs.Common.{◌≡◌, ◌⊎◌, ◌≤◌, ◌<◌, ◌+◌, ℕ, suc, Bool, true, List, [], ◌∷◌, ◌++◌, false, refl, sym, ap, ◌∙◌, subst, ⊎_elim, inl, inr, arith}
use Rattle.std.specs.Prelude.{IfErr, IfOk, Option, Result, Ok, Err}
use mathlib.Core.Logic.{dite}
use native.Mathlib.Decide.{ℕ_discrete}
use Rattle.atomic_table.specs.Seated.{TableId}
use Rattle.lvm_num.specs.Buffer.{Sector}
use Rattle.lvm_num.specs.Counting.{RoseBy}
use Rattle.lvm_vol.specs.Facts.{Request, Fact, IsInList}
use Rattle.lvm_vol.specs.Fronts.{IsPrefixOf, NoneFell, Told}
use Rattle.lvm_vol.proofs.FrontsLemmas.{begins_itself, none_fell}
use Rattle.lvm_turn.specs.Calls.{IsIdlePass}
use Rattle.lvm_turn.specs.Views.{Client, HoldsAll, Standing, View, counted, joined, numbers, up_to, with_client_alone, without, without_client}
use Rattle.lvm_turn.proofs.CallsLemmas.Ends.{all_there}
use Rattle.lvm_turn.proofs.ViewsLemmas.Clients.{holds-numbers, numbers-append, numbers-holds}
use Rattle.lvm_workers.specs.declared.bring.Brought.{Brought}
use Rattle.lvm_workers.specs.declared.bring.Brought.TheVariants as brought_
use Rattle.lvm_workers.specs.declared.crew.Crew.{Crew}
use Rattle.lvm_workers.specs.declared.service.Asked.{Asked}
use Rattle.lvm_workers.specs.declared.work.Tally.{Tally}
use Rattle.lvm_workers.specs.declared.words.Draw.{Draw}
use Rattle.lvm_workers.specs.Bringing.{HasEnded, HasToured, KeepsOwn, MadeAt, WaitsBy}
use Rattle.lvm_workers.specs.Crews.{AllMade, HoldsAllClients, SeenAs, begun_over, job_of}
use Rattle.lvm_workers.specs.Knowing.{TallyHasCause, Knows, MayEnd, WasUnheard, first_own}
use Rattle.lvm_workers.specs.Making.{AllAnswered, HasMade, NoneServed}
use Rattle.lvm_workers.proofs.CrewsLemmas.{all_for, begun_both, fresh_pass, made_both, parted, taken_in, without_last}
use Rattle.lvm_workers.proofs.KnowingLemmas.{cause_since, end_on, end_since, knows_further, made_on, made_since, met_knows, met_other, rose_more, rose_on}

stands_left : (c : ℕ) (xs ys : List ℕ) → IsInList c xs → IsInList c (xs ++ ys)
stands_left c [] ys there = absurd there
stands_left c (x ∷ xs) ys there = ⊎_elim (λ (here : x ≡ c). inl here) (λ (rest : IsInList c xs). inr (stands_left c xs ys rest)) there

stands_right : (c : ℕ) (xs ys : List ℕ) → IsInList c ys → IsInList c (xs ++ ys)
stands_right c [] ys there = there
stands_right c (x ∷ xs) ys there = inr (stands_right c xs ys there)

-- which way it ended, by what was answered
pub ended_so : (Toured Unheard : Type 0) (answer : Bool) → (answer ≡ false → Toured) → (answer ≡ true → Unheard) → Toured ⊎ Unheard
ended_so Toured Unheard true toured unheard = inr (unheard refl)
ended_so Toured Unheard false toured unheard = inl (toured refl)

-- the looks at which nothing was heard, and the waits, behind a call in which something was, and behind one in which nothing was
pub waits_by_on : (before now waits was is : ℕ) → was ≤ is → WaitsBy before now waits was → WaitsBy before now waits is
waits_by_on before now waits was is later by = record { more = by.more; risen = λ first rose. rose_on now first was is (by.risen first rose) later }

pub waits_by_more : (before now waits was is : ℕ) → RoseBy 1 was is → WaitsBy before now waits was → WaitsBy before (now + 1) waits is
waits_by_more before now waits was is once by = record { more = let h = by.more in omega arith; risen = λ first rose. rose_more now first was is (by.risen first rose) once }

-- a client that asks for nothing has made what it is to make, where it may end early
none_made : (asks : ℕ → Draw → Request → Type 0) (Ended : Type 0) → Ended → (seed requests : ℕ) (own : List Fact) → own ≡ [] → HasMade asks Ended seed requests 0 own
none_made asks Ended ended seed requests own none = subst (HasMade asks Ended seed requests 0) (sym none) (record { drawn = 0; most = omega arith; whole = inr ended; made = AllAnswered NoneServed })

-- a cause stays one, where a pass knows more, and the waits haven't fallen
cause_later : (WasRefused : View → Type 0) (stays : (v u : View) → Knows v u → WasRefused v → WasRefused u) (waits : List ℕ → ℕ) (first v w : View) (t : Tally) → Knows v w → waits v.counts ≤ waits w.counts
    → TallyHasCause WasRefused waits first v t → TallyHasCause WasRefused waits first w t
cause_later WasRefused stays waits first v w t knows later cause = record {
  unbegun = λ some_are. ⊎_elim (λ (r : WasRefused v). inl (stays v w knows r)) (λ (u : WasUnheard waits first v). inr (on u)) (cause.unbegun some_are);
  unheard = λ is. on (cause.unheard is);
}
  where
    on : WasUnheard waits first v → WasUnheard waits first w
    on rose = rose_on 1000000 (waits first.counts) (waits v.counts) (waits w.counts) rose later

-- what holds of a result that is well holds of what it holds
pub ok_holds : {A B : Type 0} (P : A → Type 0) (r : Result A B) (a : A) → r ≡ Ok a → IfOk r P → P a
ok_holds {A} {B} P r a is holds = subst (λ (x : Result A B). IfOk x P) is holds

pub err_holds : {A B : Type 0} (P : B → Type 0) (r : Result A B) (b : B) → r ≡ Err b → IfErr r P → P b
err_holds {A} {B} P r b is holds = subst (λ (x : Result A B). IfErr x P) is holds

-- A pass p of the clients 1 to n + 1 gives the last of them, k, over to o, and is p1 then; and o is o1 once copies are brought up.
module _ (table : TableId) (n k : ℕ) (e : k ≡ suc n) (p p1 o o1 : Standing) (at : p.table ≡ table) (outside : p.knows.inside ≡ false) (held : p.knows.clients ≡ up_to (suc n))
    (kept : p1 ≡ record p { knows = without_client k p.knows }) (given : o ≡ record p { knows = with_client_alone k p.knows }) where
  pub rest_at : p1.table ≡ table
  rest_at = ap (λ (s : Standing). s.table) kept ∙ at

  pub rest_outside : p1.knows.inside ≡ false
  rest_outside = ap (λ (s : Standing). s.knows.inside) kept ∙ outside

  pub rest_holds : p1.knows.clients ≡ up_to n
  rest_holds = ap (λ (s : Standing). s.knows.clients) kept ∙ ap (without k) held ∙ without_last n k e

  pub other_idle : IsIdlePass table (k ∷ []) o
  other_idle = (fresh_pass table n k p o e at outside held given).0

  module _ (brought : KeepsOwn table k o o1) where
    other_own : first_own o1.knows.clients ≡ []
    other_own = brought.own ∙ (fresh_pass table n k p o e at outside held given).1

    -- The workers leave w, which takes in o1 and is q then.
    module _ (w q : Standing) (met : q ≡ record w { knows = joined w.knows o1.knows }) (front : IsPrefixOf w.knows.front q.knows.front) where
      abbrev clients_are : q.knows.clients ≡ w.knows.clients ++ o1.knows.clients
      clients_are = ap (λ (s : Standing). s.knows.clients) met

      pub whole_idle : IsIdlePass table (counted n) w → IsIdlePass table (counted k) q
      whole_idle idle = taken_in table k w o1 q n e idle brought.idle met

      pub whole_knows : Knows p1.knows w.knows → Knows p.knows q.knows
      whole_knows knows = knows_further p.knows p1.knows q.knows (parted k p p1 kept).0 (knows_further p1.knows w.knows q.knows knows (met_knows w o1 q met front))

      module _ (asks : ℕ → ℕ → Draw → Request → Type 0) (crew : Crew) where
        pub whole_made : crew.threads < k → (A B : Type 0) → (A → B) → AllMade asks A crew w.knows.clients → AllMade asks B crew q.knows.clients
        whole_made beyond A B to made = subst (λ (xs : List Client). AllMade asks B crew xs) (sym clients_are)
            (made_both asks crew B k 0 w.knows.clients o1.knows.clients (all_for asks crew A B to w.knows.clients made) brought.idle.holds (none_made (asks k) ((crew.threads < k) ⊎ B) (inl beyond) (job_of crew k).seed (job_of crew k).requests (first_own o1.knows.clients) other_own))

        pub whole_begun : (b : ℕ) → b ≡ begun_over w.knows.clients → b ≡ begun_over q.knows.clients
        whole_begun b is =
            let sum : b + 0 ≡ begun_over (w.knows.clients ++ o1.knows.clients) =
            begun_both asks crew (Unit {0}) k 0 b w.knows.clients o1.knows.clients is brought.idle.holds (none_made (asks k) (Unit {0}) tt (job_of crew k).seed (job_of crew k).requests (first_own o1.knows.clients) other_own) in
            let same : begun_over q.knows.clients ≡ begun_over (w.knows.clients ++ o1.knows.clients) = ap begun_over clients_are in
            omega (arith, sum, same)

      pub whole_cause : (WasRefused : View → Type 0) (stays : (v u : View) → Knows v u → WasRefused v → WasRefused u) (waits : List ℕ → ℕ) → waits w.knows.counts ≤ waits q.knows.counts → (t : Tally)
          → TallyHasCause WasRefused waits p1.knows w.knows t → TallyHasCause WasRefused waits p.knows q.knows t
      whole_cause WasRefused stays waits later t cause =
          cause_later WasRefused stays waits p.knows w.knows q.knows t (met_knows w o1 q met front) later
          (cause_since WasRefused waits p.knows p1.knows w.knows t (parted k p p1 kept).1.1 cause)

      -- whatever let a client end early still does
      pub whole_end : (WasRefused : Asked → View → Type 0) (stays : (said : Asked) (v u : View) → Knows v u → WasRefused said v → WasRefused said u) (waits : List ℕ → ℕ) → waits w.knows.counts ≤ waits q.knows.counts
          → MayEnd WasRefused waits p1.knows w.knows → MayEnd WasRefused waits p.knows q.knows
      whole_end WasRefused stays waits later ended =
          end_since WasRefused waits p.knows p1.knows q.knows (parted k p p1 kept).1.1 (end_on WasRefused stays waits p1.knows w.knows q.knows (met_knows w o1 q met front) later ended)

      -- and all places were gone through
      module _ {V : Type 0} (tells : V → Told) (past : V → Option (List (List Sector))) (always : V → Type 0) (brings : V → ℕ → Brought → V → Type 0) (waits : List ℕ → ℕ) (later : waits o1.knows.counts ≤ waits q.knows.counts)
          (knows : Knows p1.knows w.knows) (other_front : IsPrefixOf o1.knows.front q.knows.front) where
        fresh : IsIdlePass table (k ∷ []) o × (first_own o.knows.clients ≡ []) × SeenAs p.knows o.knows
        fresh = fresh_pass table n k p o e at outside held given

        other_knows : Knows o1.knows q.knows
        other_knows = met_other w o1 q met other_front (brought.knows.fixed ∙ fresh.2.0 ∙ sym (knows.fixed ∙ (parted k p p1 kept).0.fixed))

        made_whole : (at_place : ℕ) (said : Brought) → MadeAt tells past always brings o.knows o1.knows at_place said → MadeAt tells past always brings p.knows q.knows at_place said
        made_whole at_place said was =
            made_on tells past always (λ x y. brings x at_place said y) p.knows o1.knows q.knows other_knows
            (made_since tells past always (λ x y. brings x at_place said y) p.knows o.knows o1.knows
            (subst (λ (f : List Fact). IsPrefixOf p.knows.front f) (sym (ap (λ (s : Standing). s.knows.front) given)) (begins_itself p.knows.front))
            (subst (λ (l : List ℕ). NoneFell p.knows.counts l) (sym fresh.2.1) (none_fell p.knows.counts)) was)

        pub whole_ended : HasEnded tells past always brings waits o.knows o1.knows → HasEnded tells past always brings waits p.knows q.knows
        whole_ended = ⊎_elim
            (λ (toured : HasToured (MadeAt tells past always brings o.knows o1.knows)). inl (record {
              places = toured.places;
              passed = λ at_place low. made_whole at_place brought_.Next (toured.passed at_place low);
              over = ⊎_elim (λ (over : MadeAt tells past always brings o.knows o1.knows toured.places brought_.Over). inl (made_whole toured.places brought_.Over over)) (λ (all : toured.places ≡ 4294967295). inr all) toured.over;
            }))
            (λ (unheard : WasUnheard waits o.knows o1.knows). inr (rose_on 1000000 (waits p.knows.counts) (waits o1.knows.counts) (waits q.knows.counts)
            (subst (λ (l : List ℕ). RoseBy 1000000 (waits l) (waits o1.knows.counts)) fresh.2.1 unheard) later))

      -- where the workers' pass came back as it was, all clients are there again
      pub whole_back : w ≡ p1 → HoldsAllClients table k q
      whole_back same = record {
        at = ap (λ (s : Standing). s.table) met ∙ ap (λ (s : Standing). s.table) same ∙ rest_at;
        outside = ap (λ (s : Standing). s.knows.inside) met ∙ ap (λ (s : Standing). s.knows.inside) same ∙ rest_outside;
        all = λ c low high. numbers-holds q.knows.clients c (subst (IsInList c) (sym numbers_are) (stands c low high));
      }
        where
          numbers_are : numbers q.knows.clients ≡ numbers (up_to n) ++ k ∷ []
          numbers_are = ap numbers clients_are ∙ numbers-append w.knows.clients o1.knows.clients ∙ (λ i. numbers ((ap (λ (s : Standing). s.knows.clients) same ∙ rest_holds) i) ++ brought.idle.holds i)

          stands : (c : ℕ) → 0 < c → c ≤ k → IsInList c (numbers (up_to n) ++ k ∷ [])
          stands c low high = dite (ℕ_discrete k c)
              (λ (is : k ≡ c). stands_right c (numbers (up_to n)) (k ∷ []) (inl is))
              (λ apart. stands_left c (numbers (up_to n)) (k ∷ []) (holds-numbers (up_to n) c (all_there n c low (omega arith))))

-- a pass of the clients 1 to n holds each of them
pub whole_still : (table : TableId) (n : ℕ) (p q : Standing) → p.table ≡ table → p.knows.inside ≡ false → p.knows.clients ≡ up_to n → q ≡ p → HoldsAllClients table n q
whole_still table n p q at outside held same = record {
  at = ap (λ (s : Standing). s.table) same ∙ at;
  outside = ap (λ (s : Standing). s.knows.inside) same ∙ outside;
  all = subst (λ (xs : List Client). HoldsAll n xs) (sym (ap (λ (s : Standing). s.knows.clients) same ∙ held)) (all_there n);
}

-- so does one that came back as it was, for want of memory
pub back_whole : {A : Type 0} (table : TableId) (n : ℕ) (p : Standing) (r : Result A Standing) → p.table ≡ table → p.knows.inside ≡ false → p.knows.clients ≡ up_to n → IfErr r (λ (q : Standing). q ≡ p) → IfErr r (HoldsAllClients table n)
back_whole table n p (Ok a) at outside held same = tt
back_whole table n p (Err q) at outside held same = whole_still table n p q at outside held same

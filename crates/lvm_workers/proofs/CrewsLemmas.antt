-- Crews: their jobs, their passes, and what they have made.
use Rattle.std.proofs.Common.{◌≡◌, ◌≢◌, ◌⊎◌, ◌≤◌, ◌<◌, ◌+◌, ◌-◌, ◌*◌, ◌/◌, ◌%◌, ◌^◌, ℕ, zero, suc, Bool, true, false, not, cond, List, [], ◌∷◌, ◌++◌, length, length-append, get_or, refl, sym, ap, ◌∙◌, subst, ⊎_elim, inl, inr, arith, eq-eqb, ne_eqb}
use Rattle.std.specs.Prelude.{nat_le, min, slice_index_or}
use Rattle.std.proofs.lemmas.List.{get_or_append_left, get_or_push}
use Rattle.std.proofs.lemmas.Bool.{leb-true, leb-false}
use Rattle.std.proofs.lemmas.Nat.{div-add-mod', mod_below}
use Rattle.atomic_table.specs.Seated.{TableId}
use Rattle.crossbeam_utils.specs.Padded.{padded_value}
use Rattle.lvm_vol.specs.Facts.{Request, Fact, begun}
use Rattle.lvm_vol.proofs.FrontsLemmas.{begins_itself, none_fell}
use Rattle.lvm_turn.specs.Calls.{IsIdlePass}
use Rattle.lvm_turn.proofs.CallsLemmas.Idle.{idle_joined}
use Rattle.lvm_turn.specs.Views.{Client, HoldsClient, Owns, Standing, View, counted, joined, numbers, only, up_to, with_client_alone, without, without_client}
use Rattle.lvm_workers.specs.declared.crew.Crew.{Crew}
use Rattle.lvm_workers.specs.declared.crew.Worker.{Worker}
use Rattle.lvm_workers.specs.declared.work.Job.{Job}
use Rattle.lvm_workers.specs.declared.service.Asked.{Asked}
use Rattle.lvm_workers.specs.declared.words.Draw.{Draw}
use Rattle.lvm_workers.specs.Crews.{AllDone, AllIdle, AllMade, AllReady, AllWorked, IsDone, HasMadeNothing, SeenAs, begun_over, extra, job_of, shares}
use Rattle.lvm_workers.specs.Knowing.{Knows, MayEnd, first_own}
use Rattle.lvm_workers.specs.Making.{HasMade}
use Rattle.lvm_workers.proofs.KnowingLemmas.{cause_since, end_since}
use Rattle.lvm_workers.proofs.MakingLemmas.{has_begun, made_for}

-- ---- the clients 1 to n

abbrev idle_client : ℕ → Client
idle_client n = record { number = n; own = [] }

without_none : (n k : ℕ) → n < k → without k (up_to n) ≡ up_to n
without_none zero k h = refl
without_none (suc n) k h =
    let rec = without_none n k (omega arith) in
    let apart : suc n ≢ k = λ e. omega arith in
    ap (λ b. cond (not b) (idle_client (suc n) ∷ without k (up_to n)) (without k (up_to n))) (ne_eqb (suc n) k apart) ∙ ap (λ l. idle_client (suc n) ∷ l) rec

only_none : (n k : ℕ) → n < k → only k (up_to n) ≡ []
only_none zero k h = refl
only_none (suc n) k h =
    let rec = only_none n k (omega arith) in
    let apart : suc n ≢ k = λ e. omega arith in
    ap (λ b. cond b (idle_client (suc n) ∷ only k (up_to n)) (only k (up_to n))) (ne_eqb (suc n) k apart) ∙ rec

pub without_last : (n k : ℕ) → k ≡ suc n → without k (up_to (suc n)) ≡ up_to n
without_last n k e =
    ap (λ b. cond (not b) (idle_client (suc n) ∷ without k (up_to n)) (without k (up_to n))) (eq-eqb (suc n) k (sym e)) ∙ without_none n k (omega arith)

only_last : (n k : ℕ) → k ≡ suc n → only k (up_to (suc n)) ≡ idle_client (suc n) ∷ []
only_last n k e =
    ap (λ b. cond b (idle_client (suc n) ∷ only k (up_to n)) (only k (up_to n))) (eq-eqb (suc n) k (sym e)) ∙ ap (λ l. idle_client (suc n) ∷ l) (only_none n k (omega arith))

pub holds_last : (n k : ℕ) → k ≡ suc n → HoldsClient (up_to (suc n)) k
holds_last n k e = ([], inl (sym e, refl))

-- a pass that was split off for the last of n + 1 clients has made nothing
pub fresh_pass : (table : TableId) (n k : ℕ) (p r : Standing) → k ≡ suc n → p.table ≡ table → p.knows.inside ≡ false → p.knows.clients ≡ up_to (suc n)
    → r ≡ record p { knows = with_client_alone k p.knows } → IsIdlePass table (k ∷ []) r × (first_own r.knows.clients ≡ []) × SeenAs p.knows r.knows
fresh_pass table n k p r e at outside clients is =
    let own : r.knows.clients ≡ idle_client (suc n) ∷ [] = ap (λ (s : Standing). s.knows.clients) is ∙ ap (only k) clients ∙ only_last n k e in (
      record {
        at = ap (λ (s : Standing). s.table) is ∙ at;
        outside = ap (λ (s : Standing). s.knows.inside) is ∙ outside;
        holds = ap numbers own ∙ ap (λ m. m ∷ []) (sym e);
      },
      ap first_own own,
      (ap (λ (s : Standing). s.knows.fixed) is, ap (λ (s : Standing). s.knows.counts) is),
    )

-- ---- shares

extra_next : (crew : Crew) (n : ℕ) → min (suc n) (crew.requests % crew.threads) ≡ min n (crew.requests % crew.threads) + extra crew (suc n)
extra_next crew n = by (nat_le (suc n) (crew.requests % crew.threads)) refl
  where
    by : (b : Bool) → nat_le (suc n) (crew.requests % crew.threads) ≡ b → min (suc n) (crew.requests % crew.threads) ≡ min n (crew.requests % crew.threads) + cond b 1 0
    by true is = let h = leb-true _ _ is in omega (arith, h)
    by false is = let h = leb-false _ _ is in omega (arith, h)

shares_are : (crew : Crew) (n : ℕ) → shares crew n ≡ crew.requests / crew.threads * n + min n (crew.requests % crew.threads)
shares_are crew zero = omega arith
shares_are crew (suc n) = let so_far = shares_are crew n in let one = extra_next crew n in omega (arith, so_far, one)

-- all of them are what the crew makes
pub shares_all : (crew : Crew) → 1 ≤ crew.threads → shares crew crew.threads ≡ crew.requests
shares_all crew some = omega (arith, shares_are crew crew.threads, mod_below crew.requests crew.threads some, div-add-mod' crew.requests crew.threads)

shares_fewer : (crew : Crew) (n m : ℕ) → shares crew n ≤ shares crew (n + m)
shares_fewer crew n zero = let e : n ≡ n + 0 = omega arith in subst (λ k. shares crew n ≤ shares crew k) e (omega arith)
shares_fewer crew n (suc m) =
    let so_far = shares_fewer crew n m in
    let e : suc (n + m) ≡ n + suc m = omega arith in
    subst (λ k. shares crew n ≤ shares crew k) e (omega (arith, so_far))

-- so no part of them is more
pub shares_few : (crew : Crew) (n : ℕ) → 1 ≤ crew.threads → n ≤ crew.threads → shares crew n ≤ crew.requests
shares_few crew n some few =
    let e : n + (crew.threads - n) ≡ crew.threads = omega arith in
    subst (λ k. shares crew n ≤ k) (ap (shares crew) e ∙ shares_all crew some) (shares_fewer crew n (crew.threads - n))

-- ---- own entries

owns_either : (xs ys : List Client) (c : ℕ) (l : List Fact) → Owns (xs ++ ys) c l → Owns xs c l ⊎ Owns ys c l
owns_either [] ys c l h = inr h
owns_either (x ∷ xs) ys c l h = ⊎_elim
    (λ (t : (x.number ≡ c) × (x.own ≡ l)). inl (inl t))
    (λ (t : Owns (xs ++ ys) c l). ⊎_elim (λ (a : Owns xs c l). inl (inr a)) (λ (b : Owns ys c l). inr b) (owns_either xs ys c l t))
    h

nil_cons : (x : ℕ) (xs : List ℕ) → [] ≡ x ∷ xs → ⊥
nil_cons x xs e = cc

two_one : (x y z : ℕ) (xs : List ℕ) → x ∷ y ∷ xs ≡ z ∷ [] → ⊥
two_one x y z xs e = nil_cons y xs (sym (ap tail e))
  where
    tail : List ℕ → List ℕ
    tail [] = []
    tail (x ∷ xs) = xs

abbrev head_of : List ℕ → ℕ
head_of [] = 0
head_of (x ∷ xs) = x

-- a pass of one client owns what that client owns
owned_by_one : (k c : ℕ) (l : List Fact) (ys : List Client) → numbers ys ≡ k ∷ [] → Owns ys c l → (k ≡ c) × (first_own ys ≡ l)
owned_by_one k c l [] one owns = absurd owns
owned_by_one k c l (y ∷ []) one owns = ⊎_elim (λ (t : (y.number ≡ c) × (y.own ≡ l)). (sym (ap head_of one) ∙ t.0, t.1)) (λ (none : ⊥). absurd none) owns
owned_by_one k c l (x ∷ y ∷ ys) one owns = absurd (two_one x.number y.number k (numbers ys) one)

begun_one : (k : ℕ) (ys : List Client) → numbers ys ≡ k ∷ [] → begun_over ys ≡ length (begun (first_own ys))
begun_one k [] one = absurd (nil_cons k [] one)
begun_one k (y ∷ []) one = omega arith
begun_one k (x ∷ y ∷ ys) one = absurd (two_one x.number y.number k (numbers ys) one)

begun_over-append : (xs ys : List Client) → begun_over (xs ++ ys) ≡ begun_over xs + begun_over ys
begun_over-append [] ys = omega arith
begun_over-append (x ∷ xs) ys = let h = begun_over-append xs ys in omega (arith, h)

module _ (asks : ℕ → ℕ → Draw → Request → Type 0) (crew : Crew) where
  -- whatever lets clients end early that lets these
  pub all_for : (A B : Type 0) → (A → B) → (xs : List Client) → AllMade asks A crew xs → AllMade asks B crew xs
  all_for A B to xs all c l owns =
      made_for (asks c) ((crew.threads < c) ⊎ A) ((crew.threads < c) ⊎ B) (⊎_elim (λ (beyond : crew.threads < c). inl beyond) (λ (a : A). inr (to a))) (job_of crew c).seed (job_of crew c).requests (length (begun l)) l (all c l owns)

  -- where a pass has taken in one of a client that has made its share, all of them have
  pub made_both : (Ended : Type 0) (k b : ℕ) (xs ys : List Client) → AllMade asks Ended crew xs → numbers ys ≡ k ∷ [] → HasMade (asks k) ((crew.threads < k) ⊎ Ended) (job_of crew k).seed (job_of crew k).requests b (first_own ys)
      → AllMade asks Ended crew (xs ++ ys)
  made_both Ended k b xs ys all one made c l owns =
      ⊎_elim
      (λ (here : Owns xs c l). all c l here)
      (λ (there : Owns ys c l).
      let which = owned_by_one k c l ys one there in
      let count : b ≡ length (begun (first_own ys)) = sym (has_begun (asks k) ((crew.threads < k) ⊎ Ended) (job_of crew k).seed (job_of crew k).requests b (first_own ys) made) in
      let its : HasMade (asks k) ((crew.threads < k) ⊎ Ended) (job_of crew k).seed (job_of crew k).requests (length (begun (first_own ys))) (first_own ys) =
      subst (λ n. HasMade (asks k) ((crew.threads < k) ⊎ Ended) (job_of crew k).seed (job_of crew k).requests n (first_own ys)) count made in
      subst (λ n. HasMade (asks n) ((crew.threads < n) ⊎ Ended) (job_of crew n).seed (job_of crew n).requests (length (begun l)) l) which.0
      (subst (λ (m : List Fact). HasMade (asks k) ((crew.threads < k) ⊎ Ended) (job_of crew k).seed (job_of crew k).requests (length (begun m)) m) which.1 its))
      (owns_either xs ys c l owns)

  pub begun_both : (Ended : Type 0) (k b n : ℕ) (xs ys : List Client) → n ≡ begun_over xs → numbers ys ≡ k ∷ [] → HasMade (asks k) Ended (job_of crew k).seed (job_of crew k).requests b (first_own ys) → n + b ≡ begun_over (xs ++ ys)
  begun_both Ended k b n xs ys so_far one made =
      let count = has_begun (asks k) Ended (job_of crew k).seed (job_of crew k).requests b (first_own ys) made in
      let its = begun_one k ys one in
      let sum = begun_over-append xs ys in
      omega (arith, so_far, count, its, sum)

-- ---- workers

module _ (asks : ℕ → ℕ → Draw → Request → Type 0) (WasRefused : Asked → View → Type 0) (waits : List ℕ → ℕ) (table : TableId) (crew : Crew) where
  -- what ready workers have become
  pub all_done : (clients : ℕ) (first start : View) (vs ws : List Worker) → length ws ≡ length vs → SeenAs first start → AllReady table clients first crew vs → AllWorked asks WasRefused waits table vs ws
      → AllDone asks WasRefused waits table start crew ws
  all_done clients first start vs ws long seen ready worked i d below =
      let within : i < length vs = omega (arith, long, below) in
      let r = ready i d within in
      let w = worked i d within in
      let old : Worker = slice_index_or vs i d in
      let new : Worker = slice_index_or ws i d in (
        r.0,
        subst (λ (j : Job). IsDone asks WasRefused waits table start j new) r.2 record {
          idle = w.idle;
          fixed = w.knows.fixed ∙ r.3.0 ∙ sym seen.0;
          made = made_for (asks old.job.client) (MayEnd WasRefused waits old.pass.knows new.pass.knows) (MayEnd WasRefused waits start new.pass.knows) (end_since WasRefused waits start old.pass.knows new.pass.knows (r.3.1 ∙ sym seen.1))
              old.job.seed old.job.requests (padded_value new.tally).begun (first_own new.pass.knows.clients) w.made;
          all = w.all;
          cause = cause_since (λ u. (said : Asked) × WasRefused said u) waits start old.pass.knows new.pass.knows (padded_value new.tally) (r.3.1 ∙ sym seen.1) w.cause;
        },
      )

  pub all_idle : (clients : ℕ) (first : View) (vs : List Worker) → AllReady table clients first crew vs → AllIdle table clients vs
  all_idle clients first vs ready i d below = (ready i d below).1

  -- the last of these workers
  pub last_done : (first : View) (i : ℕ) (old new : List Worker) (w : Worker) → AllDone asks WasRefused waits table first crew old → old ≡ new ++ w ∷ [] → length new ≡ i
      → (i < crew.threads) × IsDone asks WasRefused waits table first (job_of crew (crew.threads - i)) w
  last_done first i old new w all items count =
      let longer : length old ≡ length new + 1 = ap length items ∙ length-append new (w ∷ []) in
      subst (λ v. (i < crew.threads) × IsDone asks WasRefused waits table first (job_of crew (crew.threads - i)) v)
      (ap (λ ws. get_or ws i w) items ∙ get_or_push new w w i count) (all i w (omega arith))

  pub others_done : (first : View) (old new : List Worker) (w : Worker) → AllDone asks WasRefused waits table first crew old → old ≡ new ++ w ∷ [] → AllDone asks WasRefused waits table first crew new
  others_done first old new w all items i d below =
      let longer : length old ≡ length new + 1 = ap length items ∙ length-append new (w ∷ []) in
      subst (λ v. (i < crew.threads) × IsDone asks WasRefused waits table first (job_of crew (crew.threads - i)) v)
      (ap (λ ws. get_or ws i d) items ∙ get_or_append_left new (w ∷ []) d i below) (all i d (omega arith))

-- ---- handing out

-- a pass that gave up a client knows what it knew
pub parted : (c : ℕ) (p q : Standing) → q ≡ record p { knows = without_client c p.knows } → Knows p.knows q.knows × SeenAs p.knows q.knows
parted c p q is = subst (λ (s : Standing). Knows p.knows s.knows × SeenAs p.knows s.knows) (sym is) (record { fixed = refl; front = begins_itself p.knows.front; counts = none_fell p.knows.counts }, (refl, refl))

pub seen_further : (u v w : View) → SeenAs u v → SeenAs v w → SeenAs u w
seen_further u v w a b = (b.0 ∙ a.0, b.1 ∙ a.1)

abbrev pub ReadyAt : TableId → ℕ → View → Crew → ℕ → Worker → Type 0
ReadyAt table clients first crew i w = (i < crew.threads) × HasMadeNothing table clients w × (w.job ≡ job_of crew (crew.threads - i)) × SeenAs first w.pass.knows

pub ready_one : (table : TableId) (clients : ℕ) (first : View) (crew : Crew) (i n : ℕ) (p : Standing) (w : Worker) → crew.threads - i ≡ suc n → i < crew.threads → crew.threads ≤ clients
    → w.job ≡ job_of crew (crew.threads - i) → p.table ≡ table → p.knows.inside ≡ false → p.knows.clients ≡ up_to (crew.threads - i) → SeenAs first p.knows
    → w.pass ≡ record p { knows = with_client_alone (crew.threads - i) p.knows } → ReadyAt table clients first crew i w
ready_one table clients first crew i n p w e low few job at outside held seen is =
    let k = crew.threads - i in
    let fresh = fresh_pass table n k p w.pass e at outside (held ∙ ap up_to e) is in
    let same : w.job.client ≡ k = ap (λ (j : Job). j.client) job in (
      low,
      record {
        idle = subst (λ m. IsIdlePass table (m ∷ []) w.pass) (sym same) fresh.0;
        client = (omega (arith, same, e), omega (arith, same, few));
        fresh = fresh.1;
      },
      job,
      (fresh.2.0 ∙ seen.0, fresh.2.1 ∙ seen.1),
    )

-- ---- taking in

module _ (table : TableId) (k : ℕ) (p w q : Standing) where
  -- the numbers of the clients, once a pass has taken in that of one client more
  pub taken_in : (j : ℕ) → k ≡ suc j → IsIdlePass table (counted j) p → IsIdlePass table (k ∷ []) w → q ≡ record p { knows = joined p.knows w.knows } → IsIdlePass table (counted k) q
  taken_in j e mine theirs is =
      let both : counted j ++ k ∷ [] ≡ counted k = ap (λ m. counted j ++ m ∷ []) e ∙ ap counted (sym e) in
      subst (λ ns. IsIdlePass table ns q) both (idle_joined table (counted j) p mine (k ∷ []) w q theirs is)

-- two tallies, neither of which passes what the crew makes, don't pass it together
pub room_for_both : (a b c d m n all : ℕ) → a + b ≡ m → c + d ≡ n → m + n ≤ all → all < 2 ^ 32 → (a + c < 2 ^ 32) × (b + d < 2 ^ 32)
room_for_both a b c d m n all one two few low = (omega (arith, one, two, few, low), omega (arith, one, two, few, low))

-- a pass without clients
pub none_made : (xs : List Client) → numbers xs ≡ [] → xs ≡ []
none_made [] is = refl
none_made (x ∷ xs) is = absurd (nil_cons x.number (numbers xs) (sym is))

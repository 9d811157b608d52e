-- How what the history says of the requests changes with an event.
use Rattle.std.proofs.Common.{◌≡◌, ⊎_elim, ℕ, ◌+◌, ◌<◌, Bool, true, false, ◌||◌, List, [], ◌∷◌, ◌++◌, Option, Some, None, refl, sym, ap, subst, ◌∙◌, eq-eqb, arith, count_by}
use Rattle.std.specs.Prelude.{IsTrue, IsFalse, ◌==◌, if◌then◌else◌}
use Rattle.std.specs.List.{list_any}
use Rattle.lvm_num.proofs.Booleans.{or_false, or_true, clash_gives}
use Rattle.lvm_vol.specs.declared.entry.Vol.TheVariants.{Lv}
use Rattle.lvm_vol.specs.declared.entry.Outcome.{Outcome}
use Rattle.lvm_vol.specs.Facts.{Request, Fact, Begun, Landed, Taken, IsInList, same_request}
use Rattle.lvm_vol.specs.Legal.{begins_in, lands, takes, TakenOnce, Legal, IsOutcomeOf, GotMay}
use Rattle.lvm_vol.proofs.LawsLemmas.Legality.{legal_push, unlanded, untaken, same_self}
use Rattle.lvm_vol.proofs.FactsLemmas.Order.{any-push, stands_left, stands_last}
use Rattle.lvm_invariant.specs.State.{Queued, covers, has_landed}
use Rattle.lvm_invariant.specs.Updates.{put, without, with_name, land}
use Rattle.lvm_invariant.specs.Told.{IsRequestOf, Told}
use Rattle.lvm_invariant.proofs.UpdatesLemmas.Requests.{put_cases}
use Rattle.lvm_invariant.proofs.UpdatesLemmas.Getting.{named_at, named_other}
use Rattle.lvm_invariant.proofs.MayLemmas.{later_apart, apart_back}

-- the two ask for the same
pub record AsksSame (r n : Queued) : Type 0 where
  pub lv : n.lv ≡ r.lv
  pub over : (lv b : ℕ) → covers n lv b ≡ covers r lv b
  pub write : n.write ≡ r.write
  pub value : (b : ℕ) → n.value b ≡ r.value b
  pub step : n.step ≡ r.step

pub asks_itself : (r : Queued) → AsksSame r r
asks_itself r = record { lv = refl; over = λ lv b. refl; write = refl; value = λ b. refl; step = refl }

request_of_same : (q : Request) (r n : Queued) → AsksSame r n → IsRequestOf q r → IsRequestOf q n
request_of_same q r n same is = record {
  vol = is.vol ∙ ap (λ (v : ℕ). Lv v) (sym same.lv);
  over = λ lv b. is.over lv b ∙ sym (same.over lv b);
  write = is.write ∙ sym same.write;
  value = λ lv b write over. is.value lv b (sym same.write ∙ write) (sym (same.over lv b) ∙ over) ∙ sym (same.value b);
}

-- each request was there before and asks for the same
abbrev pub ComesFrom : (ℕ → Option Queued) → (ℕ → Option Queued) → Type 0
ComesFrom queue new = (j : ℕ) (m : Queued) → new j ≡ Some m → (e : Queued) × (queue j ≡ Some e) × AsksSame e m

module _ (queue : ℕ → Option Queued) (name : ℕ → Request) (facts : List Fact) (t : Told queue name facts) where
  -- requests go on, and the history with them
  pub told_more : (new : ℕ → Option Queued) (f : Fact) → ComesFrom queue new → Legal (facts ++ f ∷ [])
      → ((j : ℕ) (m : Queued) → new j ≡ Some m → IsFalse m.step → (list_any (lands (name j)) facts || lands (name j) f) ≡ has_landed m.phase)
      → ((j : ℕ) (m : Queued) → new j ≡ Some m → IsFalse m.step → takes (name j) f ≡ false) → Told new name (facts ++ f ∷ [])
  told_more new f from legal ends takes_not = record {
    legal = legal;
    same = λ j m h asked. let e = from j m h in request_of_same (name j) e.0 m e.2 (t.same j e.0 e.1 (sym e.2.step ∙ asked));
    began = λ j m h asked. let e = from j m h in stands_left facts (f ∷ []) (Begun (name j)) (t.began j e.0 e.1 (sym e.2.step ∙ asked));
    ended = λ j m h asked. any-push (lands (name j)) facts f ∙ ends j m h asked;
    untaken = λ j m h asked. let e = from j m h in any-push (takes (name j)) facts f ∙ ap (λ (b : Bool). b || takes (name j) f) (t.untaken j e.0 e.1 (sym e.2.step ∙ asked)) ∙ takes_not j m h asked;
    apart = λ p k m n at_p at_k asked_p asked_k other. let e = from p m at_p in let g = from k n at_k in t.apart p k e.0 g.0 e.1 g.1 (sym e.2.step ∙ asked_p) (sym g.2.step ∙ asked_k) other;
    steps_read = λ j m h step. let e = from j m h in e.2.write ∙ t.steps_read j e.0 e.1 (sym e.2.step ∙ step);
  }

  -- requests go on
  pub told_from : (new : ℕ → Option Queued) → ComesFrom queue new
      → ((j : ℕ) (m e : Queued) → new j ≡ Some m → queue j ≡ Some e → IsFalse m.step → has_landed m.phase ≡ has_landed e.phase) → Told new name facts
  told_from new from ends = record {
    legal = t.legal;
    same = λ j m h asked. let e = from j m h in request_of_same (name j) e.0 m e.2 (t.same j e.0 e.1 (sym e.2.step ∙ asked));
    began = λ j m h asked. let e = from j m h in t.began j e.0 e.1 (sym e.2.step ∙ asked);
    ended = λ j m h asked. let e = from j m h in t.ended j e.0 e.1 (sym e.2.step ∙ asked) ∙ sym (ends j m e.0 h e.1 asked);
    untaken = λ j m h asked. let e = from j m h in t.untaken j e.0 e.1 (sym e.2.step ∙ asked);
    apart = λ p k m n at_p at_k asked_p asked_k other. let e = from p m at_p in let g = from k n at_k in t.apart p k e.0 g.0 e.1 g.1 (sym e.2.step ∙ asked_p) (sym g.2.step ∙ asked_k) other;
    steps_read = λ j m h step. let e = from j m h in e.2.write ∙ t.steps_read j e.0 e.1 (sym e.2.step ∙ step);
  }

  -- the answer of a request is taken that isn't there
  pub told_earlier : (q : Request) → TakenOnce facts q → ((j : ℕ) (m : Queued) → queue j ≡ Some m → IsFalse m.step → IsFalse (same_request (name j) q)) → Told queue name (facts ++ Taken q ∷ [])
  told_earlier q once other = told_more queue (Taken q)
      (λ j m h. (m, h, asks_itself m))
      ((legal_push facts (Taken q)).1 (t.legal, once))
      (λ j m h asked. or_false (list_any (lands (name j)) facts) ∙ t.ended j m h asked)
      other

  module _ (i : ℕ) (r : Queued) (there : queue i ≡ Some r) where
    from_one : (n : Queued) → AsksSame r n → ComesFrom queue (put queue i n)
    from_one n same j m h = ⊎_elim
        (λ (is : (j ≡ i) × (n ≡ m)). (r, ap queue is.0 ∙ there, subst (AsksSame r) is.1 same))
        (λ (other : IsFalse (j == i) × (queue j ≡ Some m)). (m, other.1, asks_itself m))
        (put_cases queue i j n m h)

    one_of : (e m : Queued) → Some e ≡ Some m → e ≡ m
    one_of e m is = cc

    -- one request goes on
    pub told_change : (n : Queued) → AsksSame r n → (IsFalse n.step → has_landed n.phase ≡ has_landed r.phase) → Told (put queue i n) name facts
    told_change n same ends = told_from (put queue i n) (from_one n same)
        (λ j m e h was asked. ⊎_elim
        (λ (is : (j ≡ i) × (n ≡ m)). ap (λ (x : Queued). has_landed x.phase) (sym is.1) ∙ ends (ap (λ (x : Queued). x.step) is.1 ∙ asked) ∙ ap (λ (x : Queued). has_landed x.phase) (one_of r e (sym there ∙ ap queue (sym is.0) ∙ was)))
        (λ (other : IsFalse (j == i) × (queue j ≡ Some m)). ap (λ (x : Queued). has_landed x.phase) (one_of m e (sym other.1 ∙ was)))
        (put_cases queue i j n m h))

    -- it lands
    pub told_landed : IsFalse r.step → IsFalse (has_landed r.phase) → (how : Outcome) (started : Bool) (got : List (List ℕ)) → IsOutcomeOf how (name i) started → GotMay facts (name i) how got
        → Told (put queue i (land r)) name (facts ++ Landed (name i) how started got ∷ [])
    told_landed asked unfinished how started got kind reads = told_more (put queue i (land r)) (Landed (name i) how started got)
        (from_one (land r) (record { lv = refl; over = λ lv b. refl; write = refl; value = λ b. refl; step = refl }))
        ((legal_push facts (Landed (name i) how started got)).1 (t.legal, record { began = t.began i r there asked; first = t.ended i r there asked ∙ unfinished; kind = kind; reads = reads }))
        (λ j m h still. ⊎_elim
        (λ (is : (j ≡ i) × (land r ≡ m)). ap (λ (b : Bool). list_any (lands (name j)) facts || b) (ap (λ (k : ℕ). same_request (name k) (name i)) is.0 ∙ same_self (name i)) ∙ or_true (list_any (lands (name j)) facts) ∙ ap (λ (x : Queued). has_landed x.phase) is.1)
        (λ (other : IsFalse (j == i) × (queue j ≡ Some m)). ap (λ (b : Bool). list_any (lands (name j)) facts || b) (t.apart i j r m there other.1 asked still other.0) ∙ or_false (list_any (lands (name j)) facts) ∙ t.ended j m other.1 still)
        (put_cases queue i j (land r) m h))
        (λ j m h still. refl)

    still_there : (j : ℕ) (m : Queued) → without queue i j ≡ Some m → IsFalse (j == i) × (queue j ≡ Some m)
    still_there j m h = by_test (j == i) refl h
      where
        by_test : (b : Bool) → (j == i) ≡ b → (if b then None else queue j) ≡ Some m → IsFalse (j == i) × (queue j ≡ Some m)
        by_test true is k = absurd cc
        by_test false is k = (is, k)

    -- its answer is taken
    pub told_taken : IsFalse r.step → IsTrue (has_landed r.phase) → Told (without queue i) name (facts ++ Taken (name i) ∷ [])
    told_taken asked ended = told_more (without queue i) (Taken (name i))
        (λ j m h. (m, (still_there j m h).1, asks_itself m))
        ((legal_push facts (Taken (name i))).1 (t.legal, record { began = t.began i r there asked; answered = t.ended i r there asked ∙ ended; first = t.untaken i r there asked }))
        (λ j m h still. let k = still_there j m h in or_false (list_any (lands (name j)) facts) ∙ t.ended j m k.1 still)
        (λ j m h still. let k = still_there j m h in t.apart i j r m there k.1 asked still k.0)

    pub told_left : Told (without queue i) name facts
    told_left = told_from (without queue i) (λ j m h. (m, (still_there j m h).1, asks_itself m)) (λ j m e h was asked. let k = still_there j m h in ap (λ (x : Queued). has_landed x.phase) (one_of m e (sym k.1 ∙ was)))

  module _ (i : ℕ) (q : Request) (r : Queued) (new_place : (j : ℕ) (e : Queued) → queue j ≡ Some e → IsFalse (j == i)) where
    -- what is so of the new request and of the others is so of all
    by_place : (P : Request → Queued → Type 0) → P q r → ((j : ℕ) (m : Queued) → queue j ≡ Some m → P (name j) m) → (j : ℕ) (m : Queued) → put queue i r j ≡ Some m → P (with_name name i q j) m
    by_place P here others j m h = ⊎_elim
        (λ (is : (j ≡ i) × (r ≡ m)). subst (λ (x : Queued). P (with_name name i q j) x) is.1 (subst (λ (x : Request). P x r) (sym (named_at name i j q is.0)) here))
        (λ (other : IsFalse (j == i) × (queue j ≡ Some m)). subst (λ (x : Request). P x m) (sym (named_other name i j q other.0)) (others j m other.1))
        (put_cases queue i j r m h)

    not_same : (p k : ℕ) → p ≡ i → k ≡ i → IsFalse (k == p) → ⊥
    not_same p k is_p is_k other = clash_gives (k == p) (eq-eqb k p (is_k ∙ sym is_p)) other

    apart_now : (IsFalse r.step → (j : ℕ) (e : Queued) → queue j ≡ Some e → IsFalse e.step → IsFalse (same_request q (name j)))
        → (p k : ℕ) (m n : Queued) → put queue i r p ≡ Some m → put queue i r k ≡ Some n → IsFalse m.step → IsFalse n.step → IsFalse (k == p) → IsFalse (same_request (with_name name i q k) (with_name name i q p))
    apart_now fresh p k m n at_p at_k asked_p asked_k other = ⊎_elim
        (λ (is_p : (p ≡ i) × (r ≡ m)). ⊎_elim
        (λ (is_k : (k ≡ i) × (r ≡ n)). absurd (not_same p k is_p.0 is_k.0 other))
        (λ (old_k : IsFalse (k == i) × (queue k ≡ Some n)). ap (λ (x : Request). same_request x (with_name name i q p)) (named_other name i k q old_k.0) ∙ ap (same_request (name k)) (named_at name i p q is_p.0)
        ∙ apart_back q (name k) (fresh (ap (λ (x : Queued). x.step) is_p.1 ∙ asked_p) k n old_k.1 asked_k))
        (put_cases queue i k r n at_k))
        (λ (old_p : IsFalse (p == i) × (queue p ≡ Some m)). ⊎_elim
        (λ (is_k : (k ≡ i) × (r ≡ n)). ap (λ (x : Request). same_request x (with_name name i q p)) (named_at name i k q is_k.0) ∙ ap (same_request q) (named_other name i p q old_p.0)
        ∙ fresh (ap (λ (x : Queued). x.step) is_k.1 ∙ asked_k) p m old_p.1 asked_p)
        (λ (old_k : IsFalse (k == i) × (queue k ≡ Some n)). ap (λ (x : Request). same_request x (with_name name i q p)) (named_other name i k q old_k.0) ∙ ap (same_request (name k)) (named_other name i p q old_p.0)
        ∙ t.apart p k m n old_p.1 old_k.1 asked_p asked_k other)
        (put_cases queue i k r n at_k))
        (put_cases queue i p r m at_p)

    -- a request begins
    pub told_begun : IsFalse r.step → IsRequestOf q r → q.id ≡ count_by (begins_in q.run) facts + 1 → IsFalse (has_landed r.phase) → Told (put queue i r) (with_name name i q) (facts ++ Begun q ∷ [])
    told_begun asked is next unfinished =
        let above : count_by (begins_in q.run) facts < q.id = omega (arith, next) in
        let none = unlanded facts q t.legal above in
        record {
          legal = (legal_push facts (Begun q)).1 (t.legal, next);
          same = by_place (λ (x : Request) (m : Queued). IsFalse m.step → IsRequestOf x m) (λ a. is) t.same;
          began = by_place (λ (x : Request) (m : Queued). IsFalse m.step → IsInList (Begun x) (facts ++ Begun q ∷ [])) (λ a. stands_last facts (Begun q)) (λ j m h a. stands_left facts (Begun q ∷ []) (Begun (name j)) (t.began j m h a));
          ended = by_place (λ (x : Request) (m : Queued). IsFalse m.step → list_any (lands x) (facts ++ Begun q ∷ []) ≡ has_landed m.phase)
              (λ a. any-push (lands q) facts (Begun q) ∙ or_false (list_any (lands q) facts) ∙ none ∙ sym unfinished)
              (λ j m h a. any-push (lands (name j)) facts (Begun q) ∙ or_false (list_any (lands (name j)) facts) ∙ t.ended j m h a);
          untaken = by_place (λ (x : Request) (m : Queued). IsFalse m.step → list_any (takes x) (facts ++ Begun q ∷ []) ≡ false)
              (λ a. any-push (takes q) facts (Begun q) ∙ or_false (list_any (takes q) facts) ∙ untaken facts q t.legal none)
              (λ j m h a. any-push (takes (name j)) facts (Begun q) ∙ or_false (list_any (takes (name j)) facts) ∙ t.untaken j m h a);
          apart = apart_now (λ a j e h b. later_apart facts q (name j) t.legal above (t.began j e h b));
          steps_read = by_place (λ (x : Request) (m : Queued). IsTrue m.step → IsFalse m.write) (λ step. clash_gives r.step step asked) t.steps_read;
        }

    -- a step of a copy enters
    pub told_entered : IsTrue r.step → IsFalse r.write → Told (put queue i r) (with_name name i q) facts
    told_entered step reads = record {
      legal = t.legal;
      same = by_place (λ (x : Request) (m : Queued). IsFalse m.step → IsRequestOf x m) (λ a. clash_gives r.step step a) t.same;
      began = by_place (λ (x : Request) (m : Queued). IsFalse m.step → IsInList (Begun x) facts) (λ a. clash_gives r.step step a) t.began;
      ended = by_place (λ (x : Request) (m : Queued). IsFalse m.step → list_any (lands x) facts ≡ has_landed m.phase) (λ a. clash_gives r.step step a) t.ended;
      untaken = by_place (λ (x : Request) (m : Queued). IsFalse m.step → list_any (takes x) facts ≡ false) (λ a. clash_gives r.step step a) t.untaken;
      apart = apart_now (λ a. clash_gives r.step step a);
      steps_read = by_place (λ (x : Request) (m : Queued). IsTrue m.step → IsFalse m.write) (λ s. reads) t.steps_read;
    }

-- none is in the queue
pub told_of_none : (queue : ℕ → Option Queued) (name : ℕ → Request) (facts : List Fact) → ((i : ℕ) (r : Queued) → queue i ≡ Some r → ⊥) → Legal facts → Told queue name facts
told_of_none queue name facts none legal = record {
  legal = legal;
  same = λ i r there asked. absurd (none i r there);
  began = λ i r there asked. absurd (none i r there);
  ended = λ i r there asked. absurd (none i r there);
  untaken = λ i r there asked. absurd (none i r there);
  apart = λ i j r e there at a b other. absurd (none i r there);
  steps_read = λ i r there step. absurd (none i r there);
}

-- What is kept of facts gives the facts again.
use Rattle.std.proofs.Common.{◌≡◌, ◌≢◌, ◌⊎◌, inl, inr, ⊎_elim, ℕ, zero, suc, ◌+◌, ◌-◌, ◌<◌, ◌&&◌, ◌==◌, Bool, true, false, cond, List, [], ◌∷◌, ◌++◌, length, take, drop, get_or, map, replicate, Option, Some, None, refl, sym, ◌∙◌, ap, subst, arith, append_assoc, length-append, zero-add}
use Rattle.std.specs.List.{list_any, filter_map, flat_map, sum_by, cons_option}
use Rattle.std.specs.Bool.{MatchBool}
use Rattle.std.proofs.lemmas.List.{append-nil, length-replicate, take_at, drop_at, drop-drop}
use Rattle.std.proofs.lemmas.List.Sums.{sum_by-cons}
use Rattle.std.proofs.Math.Seq.{take-append-add}
use Rattle.std.proofs.lemmas.Grind.{flat_map-append}
use Rattle.std.proofs.lemmas.Bool.Decides.{nat_tests}
use Rattle.std.proofs.lemmas.Bool.{eqb-true}
use Rattle.lvm_history.specs.passed.Vol.{zero_sector, Outcome, Request, Fact, Making, Made, Split, Removing, Removed, Begun, Landed, Taken, Cut, On, IsInList, begun, begun_by, lands_id, is_got, got_by, held, blocks_of, blocks_begun_with, got_without_bytes, Follows, HasItsData, IsGotOf}
use Rattle.lvm_allowed.specs.declared.row.Ask.{Ask}
use Rattle.lvm_allowed.specs.declared.row.Row.{Row}
use Rattle.lvm_allowed.specs.Rows.{no_ask, ask_of, blocks_at, request_from, request_in, fact_of, facts_of}
use Rattle.lvm_history.specs.Keeping.{ask_at, asks_from, row_of, IsKept}
use Rattle.lvm_history.proofs.passed.Vol.{IdsFrom, stands-at, stands_begun, IsNumbered, IsAnswer, numbered, begun-push, got_nothing, got_same, got-push}

-- how many blocks the requests have
abbrev pub counts : List Request → ℕ
counts rs = sum_by (λ r. r.count) rs

asks-get : (p : ℕ) (rs : List Request) (k : ℕ) (d : Request) → k < length rs → get_or (asks_from p rs) k no_ask ≡ ask_at (p + counts (take k rs)) (get_or rs k d)
asks-get p [] k d in_range = absurd (omega arith)
asks-get p (r ∷ rs) zero d in_range = ap (λ (q : ℕ). ask_at q r) (omega arith)
asks-get p (r ∷ rs) (suc k) d in_range =
    let rest = asks-get (p + r.count) rs k d (omega arith) in
    let more = sum_by-cons (λ (s : Request). s.count) r (take k rs) in
    rest ∙ ap (λ (q : ℕ). ask_at q (get_or rs k d)) (omega (arith, more))

pub asks-push : (p : ℕ) (rs : List Request) (r : Request) → asks_from p (rs ++ r ∷ []) ≡ asks_from p rs ++ ask_at (p + counts rs) r ∷ []
asks-push p [] r = ap (λ (q : ℕ). ask_at q r ∷ []) (omega arith)
asks-push p (s ∷ rs) r =
    let more = sum_by-cons (λ (t : Request). t.count) s rs in
    ap (λ (l : List Ask). ask_at p s ∷ l) (asks-push (p + s.count) rs r ∙ ap (λ (q : ℕ). asks_from (p + s.count) rs ++ ask_at q r ∷ []) (omega (arith, more)))

pub length-asks : (p : ℕ) (rs : List Request) → length (asks_from p rs) ≡ length rs
length-asks p [] = refl
length-asks p (r ∷ rs) = ap suc (length-asks (p + r.count) rs)

pub flat_same : (h k : Request → List (List ℕ)) (rs : List Request) → ((r : Request) → IsInList r rs → h r ≡ k r) → flat_map h rs ≡ flat_map k rs
flat_same h k [] same = refl
flat_same h k (r ∷ rs) same =
    ap (λ (l : List (List ℕ)). l ++ flat_map h rs) (same r (inl refl)) ∙ ap (λ (l : List (List ℕ)). k r ++ l) (flat_same h k rs (λ s there. same s (inr there)))

module _ (h : Request → List (List ℕ)) where
  -- each request has as many blocks as it asked for
  abbrev pub AllFull : List Request → Type 0
  AllFull rs = (r : Request) → IsInList r rs → length (h r) ≡ r.count

  pub length-flat : (rs : List Request) → AllFull rs → length (flat_map h rs) ≡ counts rs
  length-flat [] full = refl
  length-flat (r ∷ rs) full =
      let one = full r (inl refl) in
      let rest = length-flat rs (λ s there. full s (inr there)) in
      let more = sum_by-cons (λ (t : Request). t.count) r rs in
      length-append (h r) (flat_map h rs) ∙ omega (arith, one, rest, more)

  drop_front : (r : Request) (rs : List Request) (n : ℕ) → length (h r) ≡ r.count → drop (r.count + n) (h r ++ flat_map h rs) ≡ drop n (flat_map h rs)
  drop_front r rs n full = sym (drop-drop n r.count (h r ++ flat_map h rs)) ∙ ap (λ (l : List (List ℕ)). drop n l) (drop_at (h r) (flat_map h rs) r.count full)

  flat-at : (rs : List Request) (k : ℕ) (d : Request) → AllFull rs → k < length rs → take (get_or rs k d).count (drop (counts (take k rs)) (flat_map h rs)) ≡ h (get_or rs k d)
  flat-at [] k d full in_range = absurd (omega arith)
  flat-at (r ∷ rs) zero d full in_range = take_at (h r) (flat_map h rs) r.count (full r (inl refl))
  flat-at (r ∷ rs) (suc k) d full in_range =
      let more : counts (r ∷ take k rs) ≡ r.count + counts (take k rs) = sum_by-cons (λ (t : Request). t.count) r (take k rs) in
      ap (λ (n : ℕ). take (get_or rs k d).count (drop n (h r ++ flat_map h rs))) more
      ∙ ap (λ (l : List (List ℕ)). take (get_or rs k d).count l) (drop_front r rs (counts (take k rs)) (full r (inl refl)))
      ∙ flat-at rs k d (λ s there. full s (inr there)) (omega arith)

-- Whether a read got something is seen at the entry that landed it.
pub record HasGot (id : ℕ) (facts : List Fact) : Type 0 where
  pub r : Request
  pub how : Outcome
  pub started : Bool
  pub got : List (List ℕ)
  pub stands : IsInList (Landed r how started got) facts
  pub is_read : is_got how ≡ true
  pub own : r.id ≡ id

pub got-cases : (id : ℕ) (facts : List Fact) → (filter_map (got_by id) facts ≡ []) ⊎ HasGot id facts
got-cases id [] = inl refl
got-cases id (f ∷ facts) = ⊎_elim
    (λ none. ⊎_elim (λ nothing. inl (ap (λ (o : Option (List (List ℕ))). cons_option o (filter_map (got_by id) facts)) none ∙ nothing)) (λ some. inr (later some)) (got-cases id facts))
    (λ one. inr one) (here f)
  where
    later : HasGot id facts → HasGot id (f ∷ facts)
    later some = record { r = some.r; how = some.how; started = some.started; got = some.got; stands = inr some.stands; is_read = some.is_read; own = some.own }

    here_landed : (r : Request) (how : Outcome) (started : Bool) (got : List (List ℕ)) (a b : Bool) → is_got how ≡ a → (r.id == id) ≡ b → (got_by id (Landed r how started got) ≡ None) ⊎ HasGot id (Landed r how started got ∷ facts)
    here_landed r how started got true true a b = inr (record { r = r; how = how; started = started; got = got; stands = inl refl; is_read = a; own = eqb-true r.id id b })
    here_landed r how started got true false a b = inl (ap (λ (t : Bool). cond (t && (r.id == id)) (Some got) None) a ∙ ap (λ (t : Bool). cond t (Some got) None) b)
    here_landed r how started got false t a b = inl (ap (λ (u : Bool). cond (u && (r.id == id)) (Some got) None) a)

    here : (g : Fact) → (got_by id g ≡ None) ⊎ HasGot id (g ∷ facts)
    here (Landed r how started got) = here_landed r how started got (is_got how) (r.id == id) refl refl
    here _ = inl refl

module _ (run : ℕ) where
  -- requests of one number are one request
  pub same_number : (facts : List Fact) (r s : Request) → IsNumbered run facts → IsInList r (begun facts) → IsInList s (begun facts) → s.id ≡ r.id → s ≡ r
  same_number facts r s q r_there s_there same =
      let a = stands-at 1 (begun facts) r q.ids r_there in
      let b = stands-at 1 (begun facts) s q.ids s_there in
      sym (b.here s) ∙ ap (λ (n : ℕ). get_or (begun facts) (n - 1) s) same ∙ a.here s

  held_write : (facts : List Fact) (r : Request) → r.write ≡ true → held facts r ≡ r.blocks
  held_write facts r is = ap (λ (t : Bool). cond t r.blocks (get_or (filter_map (got_by r.id) facts) 0 (replicate r.count zero_sector))) is

  pub held_read : (facts : List Fact) (r : Request) (l : List (List (List ℕ))) → r.write ≡ false → filter_map (got_by r.id) facts ≡ l → held facts r ≡ get_or l 0 (replicate r.count zero_sector)
  held_read facts r l is are = ap (λ (t : Bool). cond t r.blocks (get_or (filter_map (got_by r.id) facts) 0 (replicate r.count zero_sector))) is ∙ ap (λ (m : List (List (List ℕ))). get_or m 0 (replicate r.count zero_sector)) are

  data_whole : (r : Request) → HasItsData r → r.write ≡ true → length r.blocks ≡ r.count
  data_whole r whole is = subst (λ (t : Bool). MatchBool t (length r.blocks ≡ r.count) (r.blocks ≡ [])) is whole.0

  no_data : (r : Request) → HasItsData r → r.write ≡ false → r.blocks ≡ []
  no_data r whole is = subst (λ (t : Bool). MatchBool t (length r.blocks ≡ r.count) (r.blocks ≡ [])) is whole.0

  got_whole : (r : Request) (how : Outcome) (got : List (List ℕ)) → IsGotOf r how got → is_got how ≡ true → (length got ≡ r.count) × (r.write ≡ true → got ≡ r.blocks)
  got_whole r how got own is = subst (λ (t : Bool). MatchBool t ((length got ≡ r.count) × (r.write ≡ true → got ≡ r.blocks)) (got ≡ [])) is own

  got_none_of : (r : Request) (how : Outcome) (got : List (List ℕ)) → IsGotOf r how got → is_got how ≡ false → got ≡ []
  got_none_of r how got own is = subst (λ (t : Bool). MatchBool t ((length got ≡ r.count) × (r.write ≡ true → got ≡ r.blocks)) (got ≡ [])) is own

  pub length-held : (facts : List Fact) → IsNumbered run facts → AllFull (held facts) (begun facts)
  length-held facts q r there = by_kind r.write refl
    where
      read_got : r.write ≡ false → HasGot r.id facts → length (held facts r) ≡ r.count
      read_got is some =
          let answer = q.landed some.r some.how some.started some.got some.stands in
          let same : some.r ≡ r = same_number facts r some.r q there answer.began some.own in
          let its = got_whole some.r some.how some.got answer.its_got some.is_read in
          let only : filter_map (got_by r.id) facts ≡ some.got ∷ [] = ap (λ (n : ℕ). filter_map (got_by n) facts) (sym some.own) ∙ answer.only some.is_read in
          ap length (held_read facts r (some.got ∷ []) is only) ∙ its.0 ∙ ap (λ (x : Request). x.count) same

      by_kind : (w : Bool) → r.write ≡ w → length (held facts r) ≡ r.count
      by_kind true is = ap length (held_write facts r is) ∙ data_whole r (q.whole r there) is
      by_kind false is = ⊎_elim
          (λ nothing. ap length (held_read facts r [] is nothing) ∙ length-replicate r.count zero_sector)
          (λ some. read_got is some)
          (got-cases r.id facts)

  -- where a request's blocks begin
  abbrev pub place_of : List Fact → Request → ℕ
  place_of facts r = counts (take (r.id - 1) (begun facts))

  pub ask-back : (facts : List Fact) (r : Request) → IsNumbered run facts → IsInList r (begun facts) → ask_of (asks_from 0 (begun facts)) r.id ≡ ask_at (place_of facts r) r
  ask-back facts r q there =
      let at = stands-at 1 (begun facts) r q.ids there in
      let low = at.low in let high = at.high in
      asks-get 0 (begun facts) (r.id - 1) r (omega arith)
      ∙ ap (λ (x : Request). ask_at (0 + place_of facts r) x) (at.here r)
      ∙ ap (λ (p : ℕ). ask_at p r) (zero-add (place_of facts r))

  pub blocks-back : (facts : List Fact) (r : Request) → IsNumbered run facts → IsInList r (begun facts) → take r.count (drop (place_of facts r) (blocks_of facts)) ≡ held facts r
  blocks-back facts r q there =
      let at = stands-at 1 (begun facts) r q.ids there in
      let low = at.low in let high = at.high in
      subst (λ (x : Request). take x.count (drop (place_of facts r) (blocks_of facts)) ≡ held facts x) (at.here r)
      (flat-at (held facts) (begun facts) (r.id - 1) r (length-held facts q) (omega arith))

  own_blocks : (facts : List Fact) (r : Request) → HasItsData r → cond r.write (held facts r) [] ≡ r.blocks
  own_blocks facts r whole = by_kind r.write refl
    where
      by_kind : (w : Bool) → r.write ≡ w → cond w (held facts r) [] ≡ r.blocks
      by_kind true is = held_write facts r is
      by_kind false is = sym (no_data r whole is)

  request-back : (facts : List Fact) (r : Request) → IsNumbered run facts → IsInList r (begun facts) → request_in run (asks_from 0 (begun facts)) (blocks_of facts) r.id ≡ r
  request-back facts r q there =
      ap (λ (a : Ask). request_from run r.id a (blocks_at (blocks_of facts) a)) (ask-back facts r q there)
      ∙ ap (λ (l : List (List ℕ)). request_from run r.id (ask_at (place_of facts r) r) l) (blocks-back facts r q there)
      ∙ ap (λ (n : ℕ). request_from n r.id (ask_at (place_of facts r) r) (held facts r)) (sym (q.runs r there))
      ∙ ap (λ (l : List (List ℕ)). record r { blocks = l }) (own_blocks facts r (q.whole r there))

  got-back : (facts : List Fact) (r : Request) (how : Outcome) (got : List (List ℕ)) → IsNumbered run facts → IsAnswer facts r how got → cond (is_got how) (blocks_at (blocks_of facts) (ask_of (asks_from 0 (begun facts)) r.id)) [] ≡ got
  got-back facts r how got q answer = by_how (is_got how) refl
    where
      by_write : (w : Bool) → r.write ≡ w → is_got how ≡ true → held facts r ≡ got
      by_write true is read = let its = got_whole r how got answer.its_got read in held_write facts r is ∙ sym (its.1 is)
      by_write false is read = held_read facts r (got ∷ []) is (answer.only read)

      by_how : (t : Bool) → is_got how ≡ t → cond t (blocks_at (blocks_of facts) (ask_of (asks_from 0 (begun facts)) r.id)) [] ≡ got
      by_how true is = ap (λ (a : Ask). blocks_at (blocks_of facts) a) (ask-back facts r q answer.began) ∙ blocks-back facts r q answer.began ∙ by_write r.write refl is
      by_how false is = sym (got_none_of r how got answer.its_got is)

  fact-back : (facts : List Fact) (f : Fact) → IsNumbered run facts → IsInList f facts → fact_of run (asks_from 0 (begun facts)) (blocks_of facts) (row_of f) ≡ f
  fact-back facts (Begun r) q there = ap (λ (x : Request). Begun x) (request-back facts r q (stands_begun facts r there))
  fact-back facts (Landed r how started got) q there =
      let answer = q.landed r how started got there in
      ap (λ (x : Request). Landed x how started (cond (is_got how) (blocks_at (blocks_of facts) (ask_of (asks_from 0 (begun facts)) r.id)) [])) (request-back facts r q answer.began)
      ∙ ap (λ (l : List (List ℕ)). Landed r how started l) (got-back facts r how got q answer)
  fact-back facts (Taken r) q there = ap (λ (x : Request). Taken (record x { client = r.client })) (request-back facts r q (q.taken r there))
  fact-back facts (Making lv blocks m) q there = refl
  fact-back facts (Made lv) q there = refl
  fact-back facts (Split from lv) q there = refl
  fact-back facts (Removing vol) q there = refl
  fact-back facts (Removed vol) q there = refl
  fact-back facts Cut q there = refl
  fact-back facts (On moment) q there = refl

map-back : (g : Row → Fact) (facts : List Fact) → ((f : Fact) → IsInList f facts → g (row_of f) ≡ f) → map g (map row_of facts) ≡ facts
map-back g [] back = refl
map-back g (f ∷ facts) back = ap (λ (x : Fact). x ∷ map g (map row_of facts)) (back f (inl refl)) ∙ ap (λ (l : List Fact). f ∷ l) (map-back g facts (λ h there. back h (inr there)))

-- the facts are those that they were kept of
pub facts-back : (run : ℕ) (facts : List Fact) (rows : List Row) (asks : List Ask) (blocks : List (List ℕ)) → IsKept run facts rows asks blocks → facts_of run asks blocks rows ≡ facts
facts-back run facts rows asks blocks kept =
    ap (λ (l : List Ask). facts_of run l blocks rows) kept.its_asks
    ∙ ap (λ (l : List (List ℕ)). facts_of run (asks_from 0 (begun facts)) l rows) kept.its_blocks
    ∙ ap (λ (l : List Row). facts_of run (asks_from 0 (begun facts)) (blocks_of facts) l) kept.its_rows
    ∙ map-back (fact_of run (asks_from 0 (begun facts)) (blocks_of facts)) facts (λ f there. fact-back run facts f (numbered run facts kept.ordered) there)

pub held_same : (facts : List Fact) (f : Fact) (r : Request) → got_by r.id f ≡ None → held (facts ++ f ∷ []) r ≡ held facts r
held_same facts f r none = ap (λ (l : List (List (List ℕ))). cond r.write r.blocks (get_or l 0 (replicate r.count zero_sector))) (got_same r.id facts f none)

module _ (run : ℕ) where
  -- a fact that begins nothing and gets nothing leaves the blocks
  pub blocks_aside : (facts : List Fact) (f : Fact) → begun_by f ≡ None → ((r : Request) → IsInList r (begun facts) → held (facts ++ f ∷ []) r ≡ held facts r) → blocks_of (facts ++ f ∷ []) ≡ blocks_of facts
  blocks_aside facts f none same =
      let b : begun (facts ++ f ∷ []) ≡ begun facts = begun-push facts f ∙ ap (λ (o : Option Request). begun facts ++ cons_option o []) none ∙ append-nil (begun facts) in
      ap (λ (rs : List Request). flat_map (held (facts ++ f ∷ [])) rs) b ∙ flat_same (held (facts ++ f ∷ [])) (held facts) (begun facts) same

  pub unlanded_id : (facts : List Fact) (id : ℕ) → IsNumbered run facts → length (begun facts) < id → list_any (lands_id id) facts ≡ false
  unlanded_id facts id q above = by_answer (list_any (lands_id id) facts) refl
    where
      by_answer : (t : Bool) → list_any (lands_id id) facts ≡ t → t ≡ false
      by_answer false is = refl
      by_answer true is = let its = q.lands id is in let high = its.1 in absurd (omega (arith, high, above))

  pub blocks-begun : (facts : List Fact) (r : Request) → IsNumbered run facts → Follows run facts (Begun r) → blocks_of (facts ++ Begun r ∷ []) ≡ blocks_of facts ++ blocks_begun_with r
  blocks-begun facts r q follows =
      let next : r.id ≡ length (begun facts) + 1 = follows.1 in
      let nothing = got_nothing r.id facts (unlanded_id facts r.id q (omega arith)) in
      ap (λ (rs : List Request). flat_map (held (facts ++ Begun r ∷ [])) rs) (begun-push facts (Begun r))
      ∙ flat_map-append (held (facts ++ Begun r ∷ [])) (begun facts) (r ∷ [])
      ∙ ap (λ (l : List (List ℕ)). l ++ flat_map (held (facts ++ Begun r ∷ [])) (r ∷ [])) (flat_same (held (facts ++ Begun r ∷ [])) (held facts) (begun facts) (λ s there. held_same facts (Begun r) s refl))
      ∙ ap (λ (l : List (List ℕ)). blocks_of facts ++ l) (append-nil (held (facts ++ Begun r ∷ []) r) ∙ held_same facts (Begun r) r refl
      ∙ ap (λ (l : List (List (List ℕ))). cond r.write r.blocks (get_or l 0 (replicate r.count zero_sector))) nothing)

  -- what lands without bytes leaves the blocks
  pub blocks-landed : (facts : List Fact) (r : Request) (how : Outcome) (started : Bool) → IsNumbered run facts → IsInList (Begun r) facts → list_any (lands_id r.id) facts ≡ false
      → blocks_of (facts ++ Landed r how started (got_without_bytes r how) ∷ []) ≡ blocks_of facts
  blocks-landed facts r how started q began open_still = blocks_aside facts (Landed r how started (got_without_bytes r how)) refl (λ s there. by_how s there (is_got how) refl)
    where
      f : Fact
      f = Landed r how started (got_without_bytes r how)

      own : (s : Request) → s ≡ r → is_got how ≡ true → (w : Bool) → s.write ≡ w → held (facts ++ Landed r how started (got_without_bytes r how) ∷ []) s ≡ held facts s
      own s same read true is = held_write run (facts ++ Landed r how started (got_without_bytes r how) ∷ []) s is ∙ sym (held_write run facts s is)
      own s same read false is =
          let id_same : (r.id == s.id) ≡ true = ap (λ (x : Request). r.id == x.id) same ∙ (let e : (r.id == r.id) ≡ true = grind (arith, nat_tests) in e) in
          let nothing : filter_map (got_by s.id) facts ≡ [] = got_nothing s.id facts (ap (λ (x : Request). list_any (lands_id x.id) facts) same ∙ open_still) in
          let got_is : got_without_bytes r how ≡ replicate s.count zero_sector =
          ap (λ (t : Bool). cond t (blocks_begun_with r) []) read ∙ ap (λ (t : Bool). cond t r.blocks (replicate r.count zero_sector)) (ap (λ (x : Request). x.write) (sym same) ∙ is) ∙ ap (λ (x : Request). replicate x.count zero_sector) (sym same) in
          let e : got_by s.id (Landed r how started (got_without_bytes r how)) ≡ Some (got_without_bytes r how) =
          ap (λ (t : Bool). cond (t && (r.id == s.id)) (Some (got_without_bytes r how)) None) read ∙ ap (λ (t : Bool). cond t (Some (got_without_bytes r how)) None) id_same in
          let all : filter_map (got_by s.id) (facts ++ Landed r how started (got_without_bytes r how) ∷ []) ≡ got_without_bytes r how ∷ [] =
          got-push s.id facts (Landed r how started (got_without_bytes r how)) ∙ ap (λ (o : Option (List (List ℕ))). filter_map (got_by s.id) facts ++ cons_option o []) e ∙ ap (λ (l : List (List (List ℕ))). l ++ got_without_bytes r how ∷ []) nothing in
          held_read run (facts ++ Landed r how started (got_without_bytes r how) ∷ []) s (got_without_bytes r how ∷ []) is all ∙ got_is ∙ sym (held_read run facts s [] is nothing)

      by_id : (s : Request) → IsInList s (begun facts) → is_got how ≡ true → (t : Bool) → (r.id == s.id) ≡ t → held (facts ++ Landed r how started (got_without_bytes r how) ∷ []) s ≡ held facts s
      by_id s there read true is = own s (same_number run facts r s q (stands_begun facts r began) there (sym (eqb-true r.id s.id is))) read s.write refl
      by_id s there read false is = held_same facts (Landed r how started (got_without_bytes r how)) s
          (ap (λ (t : Bool). cond (t && (r.id == s.id)) (Some (got_without_bytes r how)) None) read ∙ ap (λ (t : Bool). cond t (Some (got_without_bytes r how)) None) is)

      by_how : (s : Request) → IsInList s (begun facts) → (t : Bool) → is_got how ≡ t → held (facts ++ Landed r how started (got_without_bytes r how) ∷ []) s ≡ held facts s
      by_how s there true read = by_id s there read (r.id == s.id) refl
      by_how s there false is = held_same facts (Landed r how started (got_without_bytes r how)) s (ap (λ (t : Bool). cond (t && (r.id == s.id)) (Some (got_without_bytes r how)) None) is)

take_front : {X : Type 0} → (xs ys : List X) (n c : ℕ) → length xs ≡ n → take (n + c) (xs ++ ys) ≡ xs ++ take c ys
take_front xs ys n c is = ap (λ (k : ℕ). take (k + c) (xs ++ ys)) (sym is) ∙ take-append-add xs ys c

-- one request gets other blocks, as many as before
flat-put : (h k : Request → List (List ℕ)) (n j : ℕ) (rs : List Request) (r : Request) → IdsFrom n rs → IsInList r rs → r.id ≡ n + j → AllFull h rs
    → ((s : Request) → IsInList s rs → s.id ≢ r.id → k s ≡ h s)
    → flat_map k rs ≡ take (counts (take j rs)) (flat_map h rs) ++ k r ++ drop (counts (take j rs) + r.count) (flat_map h rs)
flat-put h k n j [] r ids none at full same = absurd none
flat-put h k n zero (s ∷ rs) r ids (inl is) at full same =
    let rest : flat_map k rs ≡ flat_map h rs = flat_same k h rs (λ t there. let a = stands-at (n + 1) rs t ids.1 there in let low = a.low in same t (inr there) (omega arith)) in
    let size : length (h s) ≡ r.count = full s (inl refl) ∙ ap (λ (x : Request). x.count) is in
    ap (λ (x : Request). k x ++ flat_map k rs) is
    ∙ ap (λ (l : List (List ℕ)). k r ++ l) (rest ∙ sym (drop_at (h s) (flat_map h rs) r.count size) ∙ ap (λ (m : ℕ). drop m (h s ++ flat_map h rs)) (sym (zero-add r.count)))
flat-put h k n zero (s ∷ rs) r ids (inr there) at full same = let a = stands-at (n + 1) rs r ids.1 there in let low = a.low in absurd (omega arith)
flat-put h k n (suc j) (s ∷ rs) r ids (inl is) at full same = let own : r.id ≡ n = ap (λ (x : Request). x.id) (sym is) ∙ ids.0 in absurd (omega arith)
flat-put h k n (suc j) (s ∷ rs) r ids (inr there) at full same =
    let rest = flat-put h k (n + 1) j rs r ids.1 there (omega arith) (λ t t_there. full t (inr t_there)) (λ t t_there other. same t (inr t_there) other) in
    let size : length (h s) ≡ s.count = full s (inl refl) in
    let s_id = ids.0 in
    let c : ℕ = counts (take j rs) in
    let more : counts (s ∷ take j rs) ≡ s.count + counts (take j rs) = sum_by-cons (λ (t : Request). t.count) s (take j rs) in
    let front : take (counts (s ∷ take j rs)) (h s ++ flat_map h rs) ≡ h s ++ take (counts (take j rs)) (flat_map h rs) =
    ap (λ (m : ℕ). take m (h s ++ flat_map h rs)) more ∙ take_front (h s) (flat_map h rs) s.count (counts (take j rs)) size in
    let behind : drop (counts (s ∷ take j rs) + r.count) (h s ++ flat_map h rs) ≡ drop (counts (take j rs) + r.count) (flat_map h rs) =
    ap (λ (m : ℕ). drop m (h s ++ flat_map h rs)) (let e : counts (s ∷ take j rs) + r.count ≡ s.count + (counts (take j rs) + r.count) = omega (arith, more) in e) ∙ drop_front h s rs (counts (take j rs) + r.count) size in
    ap (λ (l : List (List ℕ)). l ++ flat_map k rs) (same s (inl refl) (omega arith))
    ∙ ap (λ (l : List (List ℕ)). h s ++ l) rest
    ∙ sym (append_assoc (h s) (take (counts (take j rs)) (flat_map h rs) ++ k r) (drop (counts (take j rs) + r.count) (flat_map h rs)))
    ∙ ap (λ (l : List (List ℕ)). l ++ drop (counts (take j rs) + r.count) (flat_map h rs)) (sym (append_assoc (h s) (take (counts (take j rs)) (flat_map h rs)) (k r)))
    ∙ ap (λ (l : List (List ℕ)). l ++ k r ++ drop (counts (take j rs) + r.count) (flat_map h rs)) (sym front)
    ∙ ap (λ (l : List (List ℕ)). take (counts (s ∷ take j rs)) (h s ++ flat_map h rs) ++ k r ++ l) (sym behind)

-- a read that lands with bytes has them at its place
pub blocks-read : (run : ℕ) (facts : List Fact) (r : Request) (how : Outcome) (started : Bool) (got : List (List ℕ)) → IsNumbered run facts → IsInList (Begun r) facts → list_any (lands_id r.id) facts ≡ false → is_got how ≡ true → r.write ≡ false
    → blocks_of (facts ++ Landed r how started got ∷ []) ≡ take (place_of run facts r) (blocks_of facts) ++ got ++ drop (place_of run facts r + r.count) (blocks_of facts)
blocks-read run facts r how started got q began open_still read is_read =
    let f : Fact = Landed r how started got in
    let there = stands_begun facts r began in
    let at = stands-at 1 (begun facts) r q.ids there in
    let low = at.low in
    let b : begun (facts ++ f ∷ []) ≡ begun facts = begun-push facts f ∙ append-nil (begun facts) in
    let id_same : (r.id == r.id) ≡ true = grind (arith, nat_tests) in
    let e : got_by r.id f ≡ Some got = ap (λ (t : Bool). cond (t && (r.id == r.id)) (Some got) None) read ∙ ap (λ (t : Bool). cond t (Some got) None) id_same in
    let all : filter_map (got_by r.id) (facts ++ f ∷ []) ≡ got ∷ [] =
    got-push r.id facts f ∙ ap (λ (o : Option (List (List ℕ))). filter_map (got_by r.id) facts ++ cons_option o []) e ∙ ap (λ (l : List (List (List ℕ))). l ++ got ∷ []) (got_nothing r.id facts open_still) in
    let own : held (facts ++ f ∷ []) r ≡ got = held_read run (facts ++ f ∷ []) r (got ∷ []) is_read all in
    ap (λ (rs : List Request). flat_map (held (facts ++ f ∷ [])) rs) b
    ∙ flat-put (held facts) (held (facts ++ f ∷ [])) 1 (r.id - 1) (begun facts) r q.ids there (omega arith) (length-held run facts q) (λ s s_there other. held_same facts f s (other_got s other))
    ∙ ap (λ (l : List (List ℕ)). take (place_of run facts r) (blocks_of facts) ++ l ++ drop (place_of run facts r + r.count) (blocks_of facts)) own
  where
    other_got : (s : Request) → s.id ≢ r.id → got_by s.id (Landed r how started got) ≡ None
    other_got s other =
        let e : (r.id == s.id) ≡ false = grind (arith, nat_tests) in
        ap (λ (t : Bool). cond (t && (r.id == s.id)) (Some got) None) read ∙ ap (λ (t : Bool). cond t (Some got) None) e

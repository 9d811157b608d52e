-- Links and heads, and a walk along a chain.
use Rattle.std.proofs.Common.{◌≡◌, ◌==◌, ◌≢◌, ◌+◌, ◌-◌, ◌<◌, ◌≤◌, ◌++◌, [], ◌∷◌, ℕ, zero, suc, List, Bool, true, false, cond, refl, sym, ◌∙◌, ap, subst, arith, length, map, get_or, inl, inr, length-append, replicate}
use Rattle.std.specs.Prelude.{slice_set}
use Rattle.std.proofs.lemmas.List.{length-set, length-map, map-append, get_or-map, get_or_append_left, get_or-set_same, get_or-set_other, get_or-replicate, length-replicate}
use Rattle.std.proofs.Math.Seq.{get_or-append_seam}
use Rattle.std.proofs.lemmas.Bool.{eqb-true, eq-eqb, ne_eqb, cases_lt, cases_eq}
use Rattle.lvm_chains.specs.declared.index.Link.{Link}
use Rattle.lvm_chains.specs.Places.{newest}
use Rattle.lvm_chains.specs.Linked.{AreLinked, chains_of, no_link}
use Rattle.lvm_chains.proofs.NewestLemmas.{newest_le, newest_at, newest_fewer, newest_append, newest_push}

is_on : ℕ → ℕ → Bool
is_on chain c = c == chain

pub no_links : (heads : List ℕ) → heads ≡ replicate 4098 0 → AreLinked [] heads
no_links heads is = record {
  count = ap length is ∙ length-replicate {A = ℕ} 4098 0;
  links_are = λ k less. absurd (omega arith);
  heads_are = λ chain less. ap (λ (l : List ℕ). get_or l chain 0) is ∙ get_or-replicate 4098 chain 0 0 less;
}

-- a link more, from the head of its chain
pub linked_more : (links : List Link) (heads : List ℕ) (chain before : ℕ) → AreLinked links heads → chain < 4098 → before ≡ get_or heads chain 0
    → AreLinked (links ++ record { chain = chain; before = before } ∷ []) (slice_set heads chain (suc (length links)))
linked_more links heads chain before linked within is = record { count = length-set heads chain (suc (length links)) ∙ linked.count; links_are = links_are; heads_are = heads_are }
  where
    link : Link
    link = record { chain = chain; before = before }

    chains_more : chains_of (links ++ record { chain = chain; before = before } ∷ []) ≡ chains_of links ++ chain ∷ []
    chains_more = map-append (λ (l : Link). l.chain) links (record { chain = chain; before = before } ∷ [])

    size : length (chains_of links) ≡ length links
    size = length-map links (λ (l : Link). l.chain)

    among : (c k : ℕ) → k ≤ length links → newest c (chains_of (links ++ record { chain = chain; before = before } ∷ [])) k ≡ newest c (chains_of links) k
    among c k le =
        ap (λ (l : List ℕ). newest c l k) chains_more ∙ newest_append (λ (n : ℕ). n == c) 0 (chains_of links) (chain ∷ []) k (omega (arith, size))

    links_are : (k : ℕ) → k < length (links ++ record { chain = chain; before = before } ∷ [])
        → (get_or (links ++ record { chain = chain; before = before } ∷ []) k no_link).before
        ≡ newest (get_or (links ++ record { chain = chain; before = before } ∷ []) k no_link).chain (chains_of (links ++ record { chain = chain; before = before } ∷ [])) k
    links_are k less = elim (cases_eq k (length links)) [
      | inl same ↦
          let here : get_or (links ++ record { chain = chain; before = before } ∷ []) k no_link ≡ record { chain = chain; before = before } =
          ap (λ (n : ℕ). get_or (links ++ record { chain = chain; before = before } ∷ []) n no_link) same ∙ get_or-append_seam links (record { chain = chain; before = before }) [] no_link in
          ap (λ (l : Link). l.before) here ∙ is ∙ linked.heads_are chain within
          ∙ ap (λ (n : ℕ). newest chain (chains_of links) n) (sym same)
          ∙ sym (among chain k (omega arith))
          ∙ ap (λ (l : Link). newest l.chain (chains_of (links ++ record { chain = chain; before = before } ∷ [])) k) (sym here)
      | inr other ↦
          let few : k < length links = let n = length-append links (record { chain = chain; before = before } ∷ []) in omega (arith, n) in
          let here : get_or (links ++ record { chain = chain; before = before } ∷ []) k no_link ≡ get_or links k no_link = get_or_append_left links (record { chain = chain; before = before } ∷ []) no_link k few in
          ap (λ (l : Link). l.before) here ∙ linked.links_are k few
          ∙ sym (among (get_or links k no_link).chain k (omega arith))
          ∙ ap (λ (l : Link). newest l.chain (chains_of (links ++ record { chain = chain; before = before } ∷ [])) k) (sym here)
    ]

    total : length (links ++ record { chain = chain; before = before } ∷ []) ≡ suc (length links)
    total = let n = length-append links (record { chain = chain; before = before } ∷ []) in omega (arith, n)

    last : (c : ℕ) → newest c (chains_of (links ++ record { chain = chain; before = before } ∷ [])) (length (links ++ record { chain = chain; before = before } ∷ []))
        ≡ cond (chain == c) (suc (length links)) (newest c (chains_of links) (length links))
    last c =
        ap (λ (n : ℕ). newest c (chains_of (links ++ record { chain = chain; before = before } ∷ [])) n) (total ∙ ap suc (sym size))
        ∙ ap (λ (l : List ℕ). newest c l (suc (length (chains_of links)))) chains_more
        ∙ newest_push (λ (n : ℕ). n == c) 0 (chains_of links) chain
        ∙ ap (λ (n : ℕ). cond (chain == c) (suc n) (newest c (chains_of links) n)) size

    heads_are : (c : ℕ) → c < 4098 → get_or (slice_set heads chain (suc (length links))) c 0
        ≡ newest c (chains_of (links ++ record { chain = chain; before = before } ∷ [])) (length (links ++ record { chain = chain; before = before } ∷ []))
    heads_are c less = elim (cases_eq c chain) [
      | inl same ↦
          ap (λ (n : ℕ). get_or (slice_set heads chain (suc (length links))) n 0) same
          ∙ get_or-set_same heads chain (suc (length links)) 0 (let n = linked.count in omega (arith, n))
          ∙ sym (last c ∙ ap (λ (t : Bool). cond t (suc (length links)) (newest c (chains_of links) (length links))) (eq-eqb chain c (sym same)))
      | inr other ↦
          get_or-set_other heads chain c (suc (length links)) 0 other ∙ linked.heads_are c less
          ∙ sym (last c ∙ ap (λ (t : Bool). cond t (suc (length links)) (newest c (chains_of links) (length links))) (ne_eqb chain c (λ e. absurd (other (sym e)))))
    ]

-- ---- a walk back along a chain

-- a place is the newest of the chain among so many, from some number of rows on
pub record IsReached (chains : List ℕ) (chain among place : ℕ) : Type 0 where
  pub from : ℕ
  pub within : from ≤ length chains
  pub behind : among ≤ from
  pub newest_is : place ≡ newest chain chains from

pub begins_at_head : (links : List Link) (heads : List ℕ) (chain among place : ℕ) → AreLinked links heads → chain < 4098 → among ≤ length links → place ≡ get_or heads chain 0 → IsReached (chains_of links) chain among place
begins_at_head links heads chain among place linked within less is =
    let size = length-map links (λ (l : Link). l.chain) in
    record { from = length links; within = omega (arith, size); behind = less; newest_is = is ∙ linked.heads_are chain within }

pub ends_there : (chains : List ℕ) (chain among place : ℕ) → IsReached chains chain among place → place ≤ among → place ≡ newest chain chains among
ends_there chains chain among place reached le =
    let low = reached.newest_is in
    reached.newest_is ∙ sym (newest_fewer (λ (n : ℕ). n == chain) 0 chains among reached.from reached.behind (omega (arith, low)))

pub place_few : (chains : List ℕ) (chain among place : ℕ) → IsReached chains chain among place → place ≤ length chains
place_few chains chain among place reached =
    let le = newest_le (λ (n : ℕ). n == chain) 0 chains reached.from in let is = reached.newest_is in let within = reached.within in
    omega (arith, le, is, within)

-- the link of the newest leads to the newest before it
pub link_back : (links : List Link) (heads : List ℕ) (chain k n : ℕ) (l : Link) → AreLinked links heads → n ≤ length links → suc k ≡ newest chain (chains_of links) n → l ≡ get_or links k no_link
    → (k < n) × (l.before ≡ newest chain (chains_of links) k)
link_back links heads chain k n l linked le is at =
    let le_n = newest_le (λ (m : ℕ). m == chain) 0 (chains_of links) n in
    let less : k < n = omega (arith, le_n, is) in
    let on = eqb-true (get_or (chains_of links) k 0) chain (newest_at (λ (m : ℕ). m == chain) 0 (chains_of links) n k (sym is)) in
    let its : (get_or links k no_link).chain ≡ chain = sym (get_or-map (λ (q : Link). q.chain) links k no_link 0 (omega arith)) ∙ on in
    (less, ap (λ (q : Link). q.before) at ∙ linked.links_are k (omega arith) ∙ ap (λ (c : ℕ). newest c (chains_of links) k) its)

pub goes_back : (links : List Link) (heads : List ℕ) (chain among place : ℕ) (l : Link) → AreLinked links heads → IsReached (chains_of links) chain among place → among < place → l ≡ get_or links (place - 1) no_link
    → IsReached (chains_of links) chain among l.before × (l.before < place)
goes_back links heads chain among place l linked reached more at =
    let size = length-map links (λ (q : Link). q.chain) in let within = reached.within in
    let one : suc (place - 1) ≡ place = omega arith in
    let back = link_back links heads chain (place - 1) reached.from l linked (omega (arith, size, within)) (one ∙ reached.newest_is) at in
    let less = back.0 in
    let le = newest_le (λ (m : ℕ). m == chain) 0 (chains_of links) (place - 1) in
    let is = back.1 in
    (record { from = place - 1; within = omega (arith, less, within); behind = omega arith; newest_is = back.1 }, omega (arith, le, is))

-- the newest before a row, from the newest up to it
pub older_there : (links : List Link) (heads : List ℕ) (chain among place : ℕ) (l : Link) → AreLinked links heads → among < length links → place ≡ newest chain (chains_of links) (among + 1) → among < place → l ≡ get_or links among no_link
    → l.before ≡ newest chain (chains_of links) among
older_there links heads chain among place l linked less is more at =
    let le = newest_le (λ (m : ℕ). m == chain) 0 (chains_of links) (among + 1) in
    let own : suc among ≡ newest chain (chains_of links) (among + 1) = omega (arith, le, is) in
    (link_back links heads chain among (among + 1) l linked (omega arith) own at).1

pub older_same : (chains : List ℕ) (chain among place : ℕ) → place ≡ newest chain chains (among + 1) → place ≤ among → place ≡ newest chain chains among
older_same chains chain among place is le =
    is ∙ sym (newest_fewer (λ (m : ℕ). m == chain) 0 chains among (among + 1) (omega arith) (omega (arith, is)))

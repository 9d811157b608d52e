-- What stays of a request while more is entered, how much room is left, and where its blocks stand.
use Rattle.std.proofs.Common.{◌≡◌, inl, inr, ℕ, ◌+◌, ◌-◌, ◌*◌, ◌&&◌, ◌||◌, ◌==◌, not, Bool, true, false, List, [], ◌∷◌, ◌++◌, length, take, drop, slice_get, Option, Some, None, is_some, unwrap_or, refl, sym, ◌∙◌, ap, subst, arith, append_assoc}
use Rattle.std.specs.List.{list_any, flat_map, find, cons_option}
use Rattle.std.specs.Option.{option_or}
use Rattle.std.specs.Simd.{first_chunks}
use Rattle.std.proofs.lemmas.List.{append-nil, take_at, drop_at}
use Rattle.std.proofs.lemmas.List.Sums.{sum_by-cons, sum_by_push}
use Rattle.std.proofs.lemmas.List.Folds.{find-append}
use Rattle.std.proofs.lemmas.List.Elements.{filter_map-append}
use Rattle.lvm_history.specs.passed.Vol.{Outcome, Request, Fact, Begun, Landed, IsInList, begun, begun_by, Log, has_id, asked, no_request, request_of, lands_id, takes_id, is_open, is_answered, is_got, need, needed, spare_entries, blocks_begun, spare_bytes, held, blocks_of, place_after, entries_from, entries_of, Follows, Ordered}
use Rattle.lvm_history.specs.passed.VolEntryEntry as entry
use Rattle.lvm_history.proofs.passed.Vol.{begun-push, any-push, stands_begun, IsNumbered, numbered, and_left, and_right, open_of, found_of}
use Rattle.lvm_history.proofs.LogLemmas.Keeping.{counts, blocks-back, held_read}

-- a request that was found is found later
pub asked_stays : (facts more : List Fact) (id : ℕ) (r : Request) → asked facts id ≡ Some r → asked (facts ++ more) id ≡ Some r
asked_stays facts more id r is =
    ap (λ (rs : List Request). find (has_id id) rs) (filter_map-append begun_by facts more)
    ∙ find-append (has_id id) (begun facts) (begun more)
    ∙ ap (λ (o : Option Request). option_or o (find (has_id id) (begun more))) is

pub request_stays : (facts more : List Fact) (id : ℕ) (r : Request) → asked facts id ≡ Some r → request_of (facts ++ more) id ≡ r
request_stays facts more id r is = ap (λ (o : Option Request). unwrap_or o no_request) (asked_stays facts more id r is)

-- an open request stays open until it lands
pub open_stays : (facts : List Fact) (f : Fact) (id : ℕ) → is_open facts id ≡ true → lands_id id f ≡ false → is_open (facts ++ f ∷ []) id ≡ true
open_stays facts f id still other =
    let its = open_of facts id still in
    ap (λ (o : Option Request). is_some o && not (list_any (lands_id id) (facts ++ f ∷ []))) (asked_stays facts (f ∷ []) id (request_of facts id) its.its.found)
    ∙ ap not (any-push (lands_id id) facts f ∙ ap (λ (b : Bool). b || lands_id id f) its.unlanded ∙ other)

-- an answer stays to be taken until it is taken
pub answered_stays : (facts : List Fact) (f : Fact) (client id : ℕ) → is_answered facts client id ≡ true → takes_id id f ≡ false → is_answered (facts ++ f ∷ []) client id ≡ true
answered_stays facts f client id answered other =
    let front = and_left (is_some (asked facts id) && (request_of facts id).client == client && list_any (lands_id id) facts) (not (list_any (takes_id id) facts)) answered in
    let front2 = and_left (is_some (asked facts id) && (request_of facts id).client == client) (list_any (lands_id id) facts) front in
    let some = and_left (is_some (asked facts id)) ((request_of facts id).client == client) front2 in
    let own = and_right (is_some (asked facts id)) ((request_of facts id).client == client) front2 in
    let landed = and_right (is_some (asked facts id) && (request_of facts id).client == client) (list_any (lands_id id) facts) front in
    let untaken = and_right (is_some (asked facts id) && (request_of facts id).client == client && list_any (lands_id id) facts) (not (list_any (takes_id id) facts)) answered in
    let its = found_of facts id some in
    let later = asked_stays facts (f ∷ []) id (request_of facts id) its.found in
    let same = request_stays facts (f ∷ []) id (request_of facts id) its.found in
    ap (λ (o : Option Request). is_some o && (request_of (facts ++ f ∷ []) id).client == client && list_any (lands_id id) (facts ++ f ∷ []) && not (list_any (takes_id id) (facts ++ f ∷ []))) later
    ∙ ap (λ (r : Request). r.client == client && list_any (lands_id id) (facts ++ f ∷ []) && not (list_any (takes_id id) (facts ++ f ∷ []))) same
    ∙ ap (λ (b : Bool). b && list_any (lands_id id) (facts ++ f ∷ []) && not (list_any (takes_id id) (facts ++ f ∷ []))) own
    ∙ ap (λ (b : Bool). b && not (list_any (takes_id id) (facts ++ f ∷ []))) (any-push (lands_id id) facts f ∙ ap (λ (b : Bool). b || lands_id id f) landed)
    ∙ ap not (any-push (takes_id id) facts f ∙ or_false (list_any (takes_id id) facts) (takes_id id f) other) ∙ untaken
  where
    or_false : (a b : Bool) → b ≡ false → (a || b) ≡ a
    or_false true b is = refl
    or_false false b is = is

-- the room that an entry takes
pub spare_entries-push : (log : Log) (f : Fact) → spare_entries (record log { facts = log.facts ++ f ∷ [] }) ≡ spare_entries log - need f
spare_entries-push log f = let all : needed (log.facts ++ f ∷ []) ≡ needed log.facts + need f = sum_by_push need log.facts f in omega (arith, all)

pub blocks_begun-push : (facts : List Fact) (r : Request) → blocks_begun (facts ++ Begun r ∷ []) ≡ blocks_begun facts + r.count
blocks_begun-push facts r = ap counts (begun-push facts (Begun r)) ∙ sum_by_push (λ (s : Request). s.count) (begun facts) r

pub blocks_begun_same : (facts : List Fact) (f : Fact) → begun_by f ≡ None → blocks_begun (facts ++ f ∷ []) ≡ blocks_begun facts
blocks_begun_same facts f none = ap counts (begun-push facts f ∙ ap (λ (o : Option Request). begun facts ++ cons_option o []) none ∙ append-nil (begun facts))

pub spare_bytes-push : (log : Log) (r : Request) → spare_bytes (record log { facts = log.facts ++ Begun r ∷ [] }) ≡ spare_bytes log - 512 * r.count
spare_bytes-push log r = let all = blocks_begun-push log.facts r in omega (arith, all)

-- what a read got stands at its place
pub held_got : (run : ℕ) (facts : List Fact) (r : Request) (how : Outcome) (started : Bool) (got : List (List ℕ)) → IsNumbered run facts → IsInList (Landed r how started got) facts → is_got how ≡ true → r.write ≡ false → held facts r ≡ got
held_got run facts r how started got q there is is_read = let answer = q.landed r how started got there in held_read run facts r (got ∷ []) is_read (answer.only is)

entries_behind : (place : ℕ) (past rest : List Fact) → slice_get (entries_from place (past ++ rest)) (length past) ≡ slice_get (entries_from (place + counts (begun past)) rest) 0
entries_behind place [] rest = ap (λ (p : ℕ). slice_get (entries_from p rest) 0) (omega arith)
entries_behind place (f ∷ past) rest = entries_behind (place_after place f) past rest ∙ ap (λ (p : ℕ). slice_get (entries_from p rest) 0) (by_fact f)
  where
    by_fact : (g : Fact) → place_after place g + counts (begun past) ≡ place + counts (begun (g ∷ past))
    by_fact (Begun r) = let more = sum_by-cons (λ (s : Request). s.count) r (begun past) in omega (arith, more)
    by_fact _ = refl

-- the entry that begins a request tells its place
pub entry_begun : (past rest : List Fact) (r : Request) → slice_get (entries_of (past ++ Begun r ∷ rest)) (length past) ≡ Some (entry.Begun r.client r.id r.vol r.at r.count r.write (blocks_begun past))
entry_begun past rest r = entries_behind 0 past (Begun r ∷ rest) ∙ ap (λ (p : ℕ). Some (entry.Begun r.client r.id r.vol r.at r.count r.write p)) (omega arith)

follows_at : (run : ℕ) (before past rest : List Fact) (f : Fact) → Ordered run before (past ++ f ∷ rest) → Follows run (before ++ past) f
follows_at run before [] rest f ordered = subst (λ (l : List Fact). Follows run l f) (sym (append-nil before)) ordered.0
follows_at run before (g ∷ past) rest f ordered = subst (λ (l : List Fact). Follows run l f) (append_assoc before (g ∷ []) past) (follows_at run (before ++ g ∷ []) past rest f ordered.1)

-- and there its blocks stand
pub blocks_at_place : (run : ℕ) (past rest : List Fact) (r : Request) → Ordered run [] (past ++ Begun r ∷ rest)
    → take r.count (drop (blocks_begun past) (blocks_of (past ++ Begun r ∷ rest))) ≡ held (past ++ Begun r ∷ rest) r
blocks_at_place run past rest r ordered =
    let facts : List Fact = past ++ Begun r ∷ rest in
    let q = numbered run (past ++ Begun r ∷ rest) ordered in
    let follows = follows_at run [] past rest (Begun r) ordered in
    let next = follows.1 in
    let all : begun (past ++ Begun r ∷ rest) ≡ begun past ++ r ∷ begun rest = filter_map-append begun_by past (Begun r ∷ rest) in
    let at : take (r.id - 1) (begun (past ++ Begun r ∷ rest)) ≡ begun past = ap (λ (rs : List Request). take (r.id - 1) rs) all ∙ take_at (begun past) (r ∷ begun rest) (r.id - 1) (omega (arith, next)) in
    ap (λ (rs : List Request). take r.count (drop (counts rs) (blocks_of (past ++ Begun r ∷ rest)))) (sym at)
    ∙ blocks-back run (past ++ Begun r ∷ rest) r q (stands_begun (past ++ Begun r ∷ rest) r (stands_right past (Begun r ∷ rest) (Begun r) (inl refl)))
  where
    stands_right : (xs ys : List Fact) (f : Fact) → IsInList f ys → IsInList f (xs ++ ys)
    stands_right [] ys f there = there
    stands_right (x ∷ xs) ys f there = inr (stands_right xs ys f there)

-- blocks that were laid end to end come apart again
pub chunks_flat : (bs : List (List ℕ)) → ((b : List ℕ) → IsInList b bs → length b ≡ 512) → first_chunks 512 (length bs) (flat_map (λ b. b) bs) ≡ bs
chunks_flat [] each = refl
chunks_flat (b ∷ bs) each =
    ap (λ (l : List ℕ). l ∷ first_chunks 512 (length bs) (drop 512 (b ++ flat_map (λ c. c) bs))) (take_at b (flat_map (λ c. c) bs) 512 (each b (inl refl)))
    ∙ ap (λ (l : List ℕ). b ∷ first_chunks 512 (length bs) l) (drop_at b (flat_map (λ c. c) bs) 512 (each b (inl refl)))
    ∙ ap (λ (l : List (List ℕ)). b ∷ l) (chunks_flat bs (λ c there. each c (inr there)))

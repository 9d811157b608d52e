-- The blocks of a range stand in the history, from its place on.
use Rattle.std.proofs.Common.{◌≡◌, ◌==◌, ◌≤◌, ◌<◌, ◌+◌, ℕ, zero, suc, Bool, true, false, ◌&&◌, List, [], ◌∷◌, ◌++◌, Some, None, take, drop, slice_get, inl, inr, refl, sym, ◌∙◌, ap, subst, arith, below_more, if◌then◌else◌}
use Rattle.std.specs.Prelude.{replicate, slice_index_or, Ok}
use Rattle.std.specs.List.{filter_map, cons_option, sum_by}
use Rattle.std.proofs.lemmas.Bool.{eqb-true}
use Rattle.std.proofs.lemmas.List.Elements.{filter_map-append}
use Rattle.std.proofs.lemmas.List.Sums.{sum_by-append, sum_by-cons}
use Rattle.std.proofs.Math.Seq.{take-add}
use Rattle.lvm_num.specs.Buffer.{Sector, zero_sector}
use Rattle.lvm_vol.specs.declared.entry.Outcome.{Outcome}
use Rattle.lvm_vol.specs.declared.entry.Outcome.TheVariants as outcome
use Rattle.lvm_vol.specs.Facts.{Begun, Cut, Fact, Landed, Made, Making, On, Removed, Removing, Request, Split, IsInList, Taken, begun, begun_by}
use Rattle.lvm_vol.specs.Log.{blocks_begun, blocks_of, got_by, held, is_got}
use Rattle.lvm_vol.specs.Order.{Ordered}
use Rattle.lvm_history.proofs.LogLemmas.Staying.{blocks_at_place}
use Rattle.lvm_session.specs.Sound.{outcome_in}
use Rattle.lvm_posts.specs.declared.asked.Asked.{Asked}
use Rattle.lvm_posts.specs.Deciding.{AllWell, EndsWith, FirstFails, RangeEnds, fault_by}
use Rattle.lvm_posts.specs.Pieces.{piece_lp}
use Rattle.lvm_ranges.specs.Reading.{AreGot, AreReads, HasEndedWell, IsRead, IsReadAt, NoneGot, NoRead, OneGot, OneRead}

-- ---- what a read got

-- an entry by which the request of this number has landed as Got, whose blocks are those that the history finds for it
record HasGot (facts : List Fact) (id : ℕ) : Type 0 where
  pub request : Request
  pub started : Bool
  pub got : List Sector
  pub own : request.id ≡ id
  pub stands : IsInList (Landed request outcome.Got started got) facts
  pub first : (none : List Sector) → slice_index_or (filter_map (got_by id) facts) 0 none ≡ got

-- behind an entry that isn't its landing
has_later : (f : Fact) (facts : List Fact) (id : ℕ) → got_by id f ≡ None → HasGot facts id → HasGot (f ∷ facts) id
has_later f facts id none has = record {
  request = has.request;
  started = has.started;
  got = has.got;
  own = has.own;
  stands = inr has.stands;
  first = λ default. ap (λ m. slice_index_or (cons_option m (filter_map (got_by id) facts)) 0 default) none ∙ has.first default;
}

has_got : (facts : List Fact) (id : ℕ) → outcome_in facts id ≡ Some outcome.Got → HasGot facts id
has_got [] id is = absurd (cc is)
has_got (Landed r how started got ∷ facts) id is = by (r.id == id) refl (has_got facts id) is
  where
    and_false : (a : Bool) → a && false ≡ false
    and_false true = refl
    and_false false = refl

    here : r.id == id ≡ true → how ≡ outcome.Got → HasGot (Landed r how started got ∷ facts) id
    here same is_got_so =
        let found : got_by id (Landed r how started got) ≡ Some got = ap (λ (h : Outcome). if is_got h && (r.id == id) then Some got else None) is_got_so ∙ ap (λ b. if b then Some got else None) same in
        record {
          request = r;
          started = started;
          got = got;
          own = eqb-true r.id id same;
          stands = inl (ap (λ (h : Outcome). Landed r h started got) is_got_so);
          first = λ default. ap (λ m. slice_index_or (cons_option m (filter_map (got_by id) facts)) 0 default) found;
        }

    by : (b : Bool) → r.id == id ≡ b → (outcome_in facts id ≡ Some outcome.Got → HasGot facts id) → (if b then Some how else outcome_in facts id) ≡ Some outcome.Got → HasGot (Landed r how started got ∷ facts) id
    by true same rest e = here same (cc e)
    by false other rest e =
        has_later (Landed r how started got) facts id (ap (λ b. if is_got how && b then Some got else None) other ∙ ap (λ b. if b then Some got else None) (and_false (is_got how))) (rest e)
has_got (Making lv blocks m ∷ facts) id is = has_later (Making lv blocks m) facts id refl (has_got facts id is)
has_got (Made lv ∷ facts) id is = has_later (Made lv) facts id refl (has_got facts id is)
has_got (Split from lv ∷ facts) id is = has_later (Split from lv) facts id refl (has_got facts id is)
has_got (Removing vol ∷ facts) id is = has_later (Removing vol) facts id refl (has_got facts id is)
has_got (Removed vol ∷ facts) id is = has_later (Removed vol) facts id refl (has_got facts id is)
has_got (Begun r ∷ facts) id is = has_later (Begun r) facts id refl (has_got facts id is)
has_got (Taken r ∷ facts) id is = has_later (Taken r) facts id refl (has_got facts id is)
has_got (Cut ∷ facts) id is = has_later Cut facts id refl (has_got facts id is)
has_got (On moment ∷ facts) id is = has_later (On moment) facts id refl (has_got facts id is)

-- ---- where it stands

-- what the read of a piece got stands at its place
got_there : (run : ℕ) (facts : List Fact) → Ordered run [] facts → (id place count : ℕ) → IsReadAt facts id place count → (has : HasGot facts id) → take count (drop place (blocks_of facts)) ≡ has.got
got_there run facts ordered id place count read has =
    ap (λ n. take n (drop place (blocks_of facts))) (sym read.long)
    ∙ ap (λ p. take r.count (drop p (blocks_of facts))) read.begins
    ∙ there
    ∙ ap (λ (b : Bool). if b then r.blocks else slice_index_or (filter_map (got_by r.id) facts) 0 (replicate r.count zero_sector)) read.read
    ∙ ap (λ n. slice_index_or (filter_map (got_by n) facts) 0 (replicate r.count zero_sector)) read.own
    ∙ has.first (replicate r.count zero_sector)
  where
    r : Request
    r = read.request

    there : take r.count (drop (blocks_begun read.past) (blocks_of facts)) ≡ held facts r
    there = subst (λ (l : List Fact). take r.count (drop (blocks_begun read.past) (blocks_of l)) ≡ held l r) (sym read.is)
        (blocks_at_place run read.past read.rest r (subst (λ (l : List Fact). Ordered run [] l) read.is ordered))

drop_on : {X : Type 0} (xs : List X) (a b : ℕ) → drop b (drop a xs) ≡ drop (a + b) xs
drop_on xs zero b = let same : b ≡ 0 + b = omega arith in ap (λ n. drop n xs) same
drop_on [] (suc a) b = nothing b ∙ (let same : suc (a + b) ≡ suc a + b = omega arith in ap (λ n. drop n []) same)
  where
    nothing : {Y : Type 0} (n : ℕ) → ◌≡◌ {A = List Y} (drop n []) []
    nothing zero = refl
    nothing (suc n) = refl
drop_on (x ∷ xs) (suc a) b = drop_on xs a b ∙ (let same : suc (a + b) ≡ suc a + b = omega arith in ap (λ n. drop n (x ∷ xs)) same)

-- one behind the other
are_got : (run : ℕ) (facts : List Fact) → Ordered run [] facts → (first place : ℕ) {n long : ℕ} → AreReads facts first place n long → ((k : ℕ) → k < n → outcome_in facts (first + k) ≡ Some outcome.Got)
    → AreGot facts first n (take long (drop place (blocks_of facts)))
are_got run facts ordered first place NoRead well = subst (λ (l : List Sector). AreGot facts first 0 l) (sym (nothing (drop place (blocks_of facts)))) NoneGot
  where
    nothing : {X : Type 0} (xs : List X) → ◌≡◌ {A = List X} (take 0 xs) []
    nothing [] = refl
    nothing (x ∷ xs) = refl
are_got run facts ordered first place (OneRead {n} {long} {count} before read) well =
    let has = has_got facts (first + n) (well n (omega arith)) in
    let here : take count (drop long (drop place (blocks_of facts))) ≡ has.got = ap (take count) (drop_on (blocks_of facts) place long) ∙ got_there run facts ordered (first + n) (place + long) count read has in
    let all : take (long + count) (drop place (blocks_of facts)) ≡ take long (drop place (blocks_of facts)) ++ has.got = take-add long count (drop place (blocks_of facts)) ∙ ap (λ (l : List Sector). take long (drop place (blocks_of facts)) ++ l) here in
    subst (λ (l : List Sector). AreGot facts first (n + 1) l) (sym all) (OneGot (are_got run facts ordered first place before (λ k less. well k (omega (arith, less)))) has.request has.started has.got has.own has.stands)

-- ---- a range that was answered

-- each of its pieces has landed well
lands_well : (facts : List Fact) (asked : Asked) → HasEndedWell facts asked → (k : ℕ) → k < asked.pieces → (have : ℕ) × (total : ℕ) × EndsWith facts asked have total k None
lands_well facts asked well k less = (well.0, well.1, by well.2)
  where
    by : RangeEnds facts asked well.0 well.1 (Ok tt) → EndsWith facts asked well.0 well.1 k None
    by (AllWell each is) = each k less
    by (FirstFails at why within before fails is) = absurd (cc is)

-- which of a read is as Got
lands_got : (facts : List Fact) (id : ℕ) (how : Outcome) (lp have total : ℕ) → outcome_in facts id ≡ Some how → fault_by lp have total how ≡ None → (outcome_in facts id ≡ Some outcome.Done → ⊥) → outcome_in facts id ≡ Some outcome.Got
lands_got facts id outcome.Done lp have total is well other = absurd (other is)
lands_got facts id outcome.Got lp have total is well other = is
lands_got facts id outcome.Lost lp have total is well other = absurd (cc well)
lands_got facts id outcome.ReadFailed lp have total is well other = absurd (cc well)
lands_got facts id outcome.NoFresh lp have total is well other = absurd (cc well)
lands_got facts id outcome.Off lp have total is well other = absurd (cc well)
lands_got facts id outcome.Dark lp have total is well other = absurd (cc well)

reads_end : (facts : List Fact) (first place : ℕ) {n long : ℕ} → AreReads facts first place n long → (k : ℕ) → k < n → outcome_in facts (first + k) ≡ Some outcome.Done → ⊥
reads_end facts first place NoRead k less = absurd (omega (arith, less))
reads_end facts first place (OneRead {n} {long} {count} before read) k less = below_more (λ i. outcome_in facts (first + i) ≡ Some outcome.Done → ⊥) n (reads_end facts first place before) read.ends k less

pub read_well : (run : ℕ) (facts : List Fact) (asked : Asked) (count : ℕ) → Ordered run [] facts → IsRead facts asked count → HasEndedWell facts asked → AreGot facts asked.first asked.pieces (take count (drop asked.place (blocks_of facts)))
read_well run facts asked count ordered reads well = are_got run facts ordered asked.first asked.place reads (λ k less.
    let it = lands_well facts asked well k less in
    lands_got facts (asked.first + k) it.2.how (piece_lp asked k) it.0 it.1 it.2.landed it.2.fault (reads_end facts asked.first asked.place reads k less))

-- ---- the places

begun_within : (past rest : List Fact) (r : Request) → blocks_begun past + r.count ≤ blocks_begun (past ++ Begun r ∷ rest)
begun_within past rest r =
    let all : blocks_begun (past ++ Begun r ∷ rest) ≡ sum_by (λ (s : Request). s.count) (begun past ++ r ∷ begun rest) = ap (sum_by (λ (s : Request). s.count)) (filter_map-append begun_by past (Begun r ∷ rest)) in
    let parts : sum_by (λ (s : Request). s.count) (begun past ++ r ∷ begun rest) ≡ blocks_begun past + sum_by (λ (s : Request). s.count) (r ∷ begun rest) = sum_by-append (λ (s : Request). s.count) (begun past) (r ∷ begun rest) in
    let last : sum_by (λ (s : Request). s.count) (r ∷ begun rest) ≡ r.count + blocks_begun rest = sum_by-cons (λ (s : Request). s.count) r (begun rest) in
    omega (arith, all, parts, last)

-- the range ends where the history has blocks
pub reads_within : (facts : List Fact) (first place : ℕ) {n long : ℕ} → AreReads facts first place n long → 1 ≤ long → place + long ≤ blocks_begun facts
reads_within facts first place NoRead some = absurd (omega (arith, some))
reads_within facts first place (OneRead {n} {long} {count} before read) some =
    let within : blocks_begun read.past + read.request.count ≤ blocks_begun facts = subst (λ (l : List Fact). blocks_begun read.past + read.request.count ≤ blocks_begun l) (sym read.is) (begun_within read.past read.rest read.request) in
    let begins = read.begins in
    let size = read.long in
    omega (arith, within, begins, size)

-- ---- one block after the other

-- the next block is behind those before it
pub take_next : {X : Type 0} (xs : List X) (place k : ℕ) (x : X) → slice_get xs (place + k) ≡ Some x → take (k + 1) (drop place xs) ≡ take k (drop place xs) ++ x ∷ []
take_next xs zero k x there = in_front xs k x (let same : 0 + k ≡ k = omega arith in ap (slice_get xs) (sym same) ∙ there)
  where
    in_front : {X : Type 0} (xs : List X) (k : ℕ) (x : X) → slice_get xs k ≡ Some x → take (k + 1) xs ≡ take k xs ++ x ∷ []
    in_front [] k x there = absurd (cc there)
    in_front (y ∷ ys) zero x there = let same : y ≡ x = cc there in ap (λ z. z ∷ take 0 ys) same ∙ ap (λ l. x ∷ l) (nothing ys)
      where
        nothing : {Y : Type 0} (xs : List Y) → ◌≡◌ {A = List Y} (take 0 xs) []
        nothing [] = refl
        nothing (x ∷ xs) = refl
    in_front (y ∷ ys) (suc k) x there = (let same : suc k + 1 ≡ suc (k + 1) = omega arith in ap (λ n. take n (y ∷ ys)) same) ∙ ap (λ l. y ∷ l) (in_front ys k x there)
take_next [] (suc place) k x there = absurd (none (suc place + k) there)
  where
    none : {Y : Type 0} {y : Y} (n : ℕ) → slice_get [] n ≡ Some y → ⊥
    none zero e = absurd (cc e)
    none (suc n) e = absurd (cc e)
take_next (y ∷ ys) (suc place) k x there = take_next ys place k x (let same : suc (place + k) ≡ suc place + k = omega arith in ap (slice_get (y ∷ ys)) same ∙ there)

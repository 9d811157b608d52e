-- The index after one row more.
use Rattle.std.proofs.Common.{◌≡◌, ◌==◌, ◌≢◌, ◌+◌, ◌-◌, ◌*◌, ◌/◌, ◌%◌, ◌<◌, ◌≤◌, ◌++◌, ◌||◌, ◌&&◌, [], ◌∷◌, ℕ, zero, suc, List, Bool, true, false, cond, not, refl, sym, ◌∙◌, ap, subst, arith, length, map, get_or, inl, inr, length-append, nat_lt, Option, Some, None, is_some, slice_get}
use Rattle.std.specs.List.{list_any}
use Rattle.std.proofs.lemmas.List.{length-set, map-append, get_or_append_left, get_or-set_same, get_or-set_other}
use Rattle.std.proofs.Math.Seq.{get_or-append_seam}
use Rattle.std.proofs.lemmas.Bool.{eq-eqb, ne_eqb, lt-ltb, cases_eq}
use Rattle.std.proofs.lemmas.Bool.Decides.{nat_tests}
use Rattle.std.proofs.lemmas.List.Folds.{list_any-append}
use Rattle.lvm_vol.specs.declared.entry.Outcome.{Outcome}
use Rattle.lvm_vol.proofs.passed.Num.{or_false}
use Rattle.lvm_history.specs.passed.Vol.{Log, Fact, Entry, plain_fact, is_open, awaited, is_answered, asked, request_of, lands_id, takes_id}
use Rattle.lvm_history.proofs.passed.Vol.{and_left}
use Rattle.lvm_history.specs.passed.VolEntryEntry as entry
use Rattle.lvm_allowed.specs.declared.row.Ask.{Ask}
use Rattle.lvm_allowed.specs.declared.row.Row.{Row}
use Rattle.lvm_allowed.specs.declared.row.Row.TheVariants as row
use Rattle.lvm_chains.specs.declared.index.Step.{Step}
use Rattle.lvm_allowed.specs.Rows.{ask_of, no_ask, is_landing, is_taking}
use Rattle.lvm_history.specs.Keeping.{Holdings, IsSound, row_of, log_of, ask_found, is_open_by, awaited_by, is_answered_by}
use Rattle.lvm_chains.specs.Places.{Indexed, IsIndexOf, IsOneOf, AreOf, AreInGroups, chain_in, chain_of, plain_chain, newest_by, no_step, step_of, with_landing, with_taking, landed_index, has_landed_in, has_taken_in, empty_index}
use Rattle.lvm_chains.proofs.NewestLemmas.{newest_push, any_newest}
use Rattle.lvm_history.proofs.KeepingLemmas.{is_open_kept, awaited_kept, is_answered_kept}

-- the holdings as if their room for rows and requests were no more than is asked for
abbrev pub tight : Holdings → Holdings
tight k = record k { rows_room = k.room; asks_room = k.room / 3 }

pub tight_sound : (k : Holdings) → IsSound k → IsSound (tight k)
tight_sound k sound = record {
  its_own = sound.its_own;
  roomy = sound.roomy;
  few = sound.few;
  bytes_fit = sound.bytes_fit;
  rows_fit = omega arith;
  asks_fit = omega arith;
  blocks_fit = sound.blocks_fit;
}

-- ---- one row more

-- how far a row brings a request
abbrev pub step_after : ℕ → Row → ℕ → Step → Step
step_after id r n s = record { landed = cond (is_landing id r) (suc n) s.landed; taken = s.taken || (is_taking id r || false) }

step_more : (rows : List Row) (r : Row) (id : ℕ) → step_of (rows ++ r ∷ []) id ≡ step_after id r (length rows) (step_of rows id)
step_more rows r id =
    let size : length (rows ++ r ∷ []) ≡ suc (length rows) = let n = length-append rows (r ∷ []) in omega (arith, n) in
    ap (λ (n : ℕ). record { landed = newest_by (is_landing id) row.Cut (rows ++ r ∷ []) n; taken = list_any (is_taking id) (rows ++ r ∷ []) }) size
    ∙ ap (λ (n : ℕ). record { landed = n; taken = list_any (is_taking id) (rows ++ r ∷ []) }) (newest_push (is_landing id) row.Cut rows r)
    ∙ ap (λ (t : Bool). record { landed = cond (is_landing id r) (suc (length rows)) (newest_by (is_landing id) row.Cut rows (length rows)); taken = t }) (list_any-append (is_taking id) rows (r ∷ []))

named_more : (n : ℕ) (rows : List Row) (r : Row) → AreOf n rows → IsOneOf n r → AreOf n (rows ++ r ∷ [])
named_more n [] r named one = (one, tt)
named_more n (q ∷ rows) r named one = (named.0, named_more n rows r named.1 one)

-- what a row does to the index
record Enters (old new : Indexed) (asks : List Ask) (rows : List Row) (r : Row) : Type 0 where
  its_chains : new.chains ≡ old.chains ++ chain_in asks r ∷ []
  count : length new.steps ≡ length old.steps
  its_steps : (n : ℕ) → n < length asks → get_or new.steps n no_step ≡ step_after (n + 1) r (length rows) (get_or old.steps n no_step)
  one : IsOneOf (length asks) r

enters : (old new : Indexed) (asks : List Ask) (rows : List Row) (r : Row) → IsIndexOf old asks rows → Enters old new asks rows r → IsIndexOf new asks (rows ++ r ∷ [])
enters old new asks rows r was entered = record {
  its_chains = entered.its_chains ∙ ap (λ (l : List ℕ). l ++ chain_in asks r ∷ []) was.its_chains ∙ sym (map-append (chain_in asks) rows (r ∷ []));
  count = entered.count ∙ was.count;
  its_steps = λ n less. entered.its_steps n less ∙ ap (λ (s : Step). step_after (n + 1) r (length rows) s) (was.its_steps n less) ∙ sym (step_more rows r (n + 1));
  named = named_more (length asks) rows r was.named entered.one;
  groups = was.groups;
}

step_stays : (s : Step) → s ≡ record { landed = s.landed; taken = s.taken || false }
step_stays s = ap (λ (t : Bool). record { landed = s.landed; taken = t }) (sym (or_false s.taken))

-- a row that is about no request
pub record IsAside (asks : List Ask) (r : Row) : Type 0 where
  pub chain : chain_in asks r ≡ plain_chain r
  pub one : IsOneOf (length asks) r
  pub lands : (id : ℕ) → is_landing id r ≡ false
  pub takes : (id : ℕ) → is_taking id r ≡ false

aside_step : (r : Row) (id n : ℕ) (s : Step) → is_landing id r ≡ false → is_taking id r ≡ false → s ≡ step_after id r n s
aside_step r id n s lands takes =
    step_stays s
    ∙ ap (λ (t : Bool). record { landed = cond t (suc n) s.landed; taken = s.taken || false }) (sym lands)
    ∙ ap (λ (t : Bool). record { landed = cond (is_landing id r) (suc n) s.landed; taken = s.taken || (t || false) }) (sym takes)

pub aside_indexed : (old : Indexed) (asks : List Ask) (rows : List Row) (r : Row) → IsAside asks r → IsIndexOf old asks rows → IsIndexOf (record old { chains = old.chains ++ plain_chain r ∷ [] }) asks (rows ++ r ∷ [])
aside_indexed old asks rows r aside was =
    enters old (record old { chains = old.chains ++ plain_chain r ∷ [] }) asks rows r was
    (record {
      its_chains = ap (λ (n : ℕ). old.chains ++ n ∷ []) (sym aside.chain);
      count = refl;
      its_steps = λ n less. aside_step r (n + 1) (length rows) (get_or old.steps n no_step) (aside.lands (n + 1)) (aside.takes (n + 1));
      one = aside.one;
    })

pub plain_aside : (asks : List Ask) (e : Entry) → IsAside asks (row_of (plain_fact e))
plain_aside asks (entry.Making lv blocks mode) = record { chain = refl; one = tt; lands = λ id. refl; takes = λ id. refl }
plain_aside asks (entry.Made lv) = record { chain = refl; one = tt; lands = λ id. refl; takes = λ id. refl }
plain_aside asks (entry.Split from lv) = record { chain = refl; one = tt; lands = λ id. refl; takes = λ id. refl }
plain_aside asks (entry.Removing vol) = record { chain = refl; one = tt; lands = λ id. refl; takes = λ id. refl }
plain_aside asks (entry.Removed vol) = record { chain = refl; one = tt; lands = λ id. refl; takes = λ id. refl }
plain_aside asks (entry.On moment) = record { chain = refl; one = tt; lands = λ id. refl; takes = λ id. refl }
plain_aside asks (entry.Begun client id vol at count write place) = record { chain = refl; one = tt; lands = λ n. refl; takes = λ n. refl }
plain_aside asks (entry.Landed id how started) = record { chain = refl; one = tt; lands = λ n. refl; takes = λ n. refl }
plain_aside asks (entry.Taken client id) = record { chain = refl; one = tt; lands = λ n. refl; takes = λ n. refl }
plain_aside asks entry.Cut = record { chain = refl; one = tt; lands = λ id. refl; takes = λ id. refl }

pub cut_aside : (asks : List Ask) → IsAside asks row.Cut
cut_aside asks = record { chain = refl; one = tt; lands = λ id. refl; takes = λ id. refl }

-- ---- a request lands, and its answer is taken

own_number : (id n : ℕ) → 1 ≤ id → n ≡ id - 1 → (id == n + 1) ≡ true
own_number id n low is = eq-eqb id (n + 1) (omega arith)

other_number : (id n : ℕ) → 1 ≤ id → n ≢ id - 1 → (id == n + 1) ≡ false
other_number id n low other = ne_eqb id (n + 1) (λ e. absurd (other (omega arith)))

pub landed_indexed : (old : Indexed) (asks : List Ask) (rows : List Row) (id : ℕ) (how : Outcome) (started : Bool) → 1 ≤ id → id - 1 < length asks → length old.chains ≡ length rows
    → IsIndexOf old asks rows → IsIndexOf (landed_index old asks id) asks (rows ++ row.Landed id how started ∷ [])
landed_indexed old asks rows id how started low high size was =
    enters old (landed_index old asks id) asks rows (row.Landed id how started) was
    (record {
      its_chains = refl;
      count = length-set old.steps (id - 1) (record (get_or old.steps (id - 1) no_step) { landed = length old.chains + 1 });
      its_steps = steps;
      one = high;
    })
  where
    steps : (n : ℕ) → n < length asks → get_or (with_landing old.steps (id - 1) (length old.chains + 1)) n no_step ≡ step_after (n + 1) (row.Landed id how started) (length rows) (get_or old.steps n no_step)
    steps n less = elim (cases_eq n (id - 1)) [
      | inl same ↦
          let s : Step = get_or old.steps (id - 1) no_step in
          ap (λ (k : ℕ). get_or (with_landing old.steps (id - 1) (length old.chains + 1)) k no_step) same
          ∙ get_or-set_same old.steps (id - 1) (record (get_or old.steps (id - 1) no_step) { landed = length old.chains + 1 }) no_step (let n = was.count in omega (arith, n, high))
          ∙ ap (λ (k : ℕ). record (get_or old.steps (id - 1) no_step) { landed = k }) (let e : length old.chains + 1 ≡ suc (length rows) = omega (arith, size) in e)
          ∙ ap (λ (t : Bool). record { landed = suc (length rows); taken = t }) (sym (or_false (get_or old.steps (id - 1) no_step).taken))
          ∙ ap (λ (k : ℕ). record { landed = suc (length rows); taken = (get_or old.steps k no_step).taken || false }) (sym same)
          ∙ ap (λ (t : Bool). record { landed = cond t (suc (length rows)) (get_or old.steps n no_step).landed; taken = (get_or old.steps n no_step).taken || false }) (sym (own_number id n low same))
      | inr other ↦
          get_or-set_other old.steps (id - 1) n (record (get_or old.steps (id - 1) no_step) { landed = length old.chains + 1 }) no_step other
          ∙ step_stays (get_or old.steps n no_step)
          ∙ ap (λ (t : Bool). record { landed = cond t (suc (length rows)) (get_or old.steps n no_step).landed; taken = (get_or old.steps n no_step).taken || false }) (sym (other_number id n low other))
    ]

pub taken_indexed : (old : Indexed) (asks : List Ask) (rows : List Row) (client id : ℕ) → 1 ≤ id → id - 1 < length asks → IsIndexOf old asks rows
    → IsIndexOf (record old { chains = old.chains ++ 4097 ∷ []; steps = with_taking old.steps (id - 1) }) asks (rows ++ row.Taken client id ∷ [])
taken_indexed old asks rows client id low high was =
    enters old (record old { chains = old.chains ++ 4097 ∷ []; steps = with_taking old.steps (id - 1) }) asks rows (row.Taken client id) was
    (record {
      its_chains = refl;
      count = length-set old.steps (id - 1) (record (get_or old.steps (id - 1) no_step) { taken = true });
      its_steps = steps;
      one = high;
    })
  where
    with_true : (a : Bool) → true ≡ (a || (true || false))
    with_true true = refl
    with_true false = refl

    steps : (n : ℕ) → n < length asks → get_or (with_taking old.steps (id - 1)) n no_step ≡ step_after (n + 1) (row.Taken client id) (length rows) (get_or old.steps n no_step)
    steps n less = elim (cases_eq n (id - 1)) [
      | inl same ↦
          ap (λ (k : ℕ). get_or (with_taking old.steps (id - 1)) k no_step) same
          ∙ get_or-set_same old.steps (id - 1) (record (get_or old.steps (id - 1) no_step) { taken = true }) no_step (let n = was.count in omega (arith, n, high))
          ∙ ap (λ (t : Bool). record { landed = (get_or old.steps (id - 1) no_step).landed; taken = t }) (with_true (get_or old.steps (id - 1) no_step).taken)
          ∙ ap (λ (k : ℕ). record { landed = (get_or old.steps k no_step).landed; taken = (get_or old.steps k no_step).taken || (true || false) }) (sym same)
          ∙ ap (λ (t : Bool). record { landed = (get_or old.steps n no_step).landed; taken = (get_or old.steps n no_step).taken || (t || false) }) (sym (own_number id n low same))
      | inr other ↦
          get_or-set_other old.steps (id - 1) n (record (get_or old.steps (id - 1) no_step) { taken = true }) no_step other
          ∙ step_stays (get_or old.steps n no_step)
          ∙ ap (λ (t : Bool). record { landed = (get_or old.steps n no_step).landed; taken = (get_or old.steps n no_step).taken || (t || false) }) (sym (other_number id n low other))
    ]

-- ---- a request begins

ask_stays : (asks : List Ask) (a : Ask) (id : ℕ) → id - 1 < length asks → ask_of (asks ++ a ∷ []) id ≡ ask_of asks id
ask_stays asks a id less = get_or_append_left asks (a ∷ []) no_ask (id - 1) less

row_chain_stays : (asks : List Ask) (a : Ask) (r : Row) → IsOneOf (length asks) r → chain_in (asks ++ a ∷ []) r ≡ chain_in asks r
row_chain_stays asks a (row.Begun id) one = ap (λ (q : Ask). chain_of q.vol (q.at / 256)) (ask_stays asks a id one)
row_chain_stays asks a (row.Landed id how started) one = ap (λ (q : Ask). chain_of q.vol (q.at / 256)) (ask_stays asks a id one)
row_chain_stays asks a (row.Making lv size mode) one = refl
row_chain_stays asks a (row.Made lv) one = refl
row_chain_stays asks a (row.Split from lv) one = refl
row_chain_stays asks a (row.Removing vol) one = refl
row_chain_stays asks a (row.Removed vol) one = refl
row_chain_stays asks a (row.Taken client id) one = refl
row_chain_stays asks a row.Cut one = refl
row_chain_stays asks a (row.On moment) one = refl

chains_stay : (asks : List Ask) (a : Ask) (rows : List Row) → AreOf (length asks) rows → map (chain_in (asks ++ a ∷ [])) rows ≡ map (chain_in asks) rows
chains_stay asks a [] named = refl
chains_stay asks a (r ∷ rows) named =
    ap (λ (n : ℕ). n ∷ map (chain_in (asks ++ a ∷ [])) rows) (row_chain_stays asks a r named.0)
    ∙ ap (λ (l : List ℕ). chain_in asks r ∷ l) (chains_stay asks a rows named.1)

wider : (n m : ℕ) (r : Row) → n ≤ m → IsOneOf n r → IsOneOf m r
wider n m (row.Begun id) le one = omega (arith, le, one)
wider n m (row.Landed id how started) le one = omega (arith, le, one)
wider n m (row.Taken client id) le one = omega (arith, le, one)
wider n m (row.Making lv size mode) le one = tt
wider n m (row.Made lv) le one = tt
wider n m (row.Split from lv) le one = tt
wider n m (row.Removing vol) le one = tt
wider n m (row.Removed vol) le one = tt
wider n m row.Cut le one = tt
wider n m (row.On moment) le one = tt

all_wider : (n m : ℕ) (rows : List Row) → n ≤ m → AreOf n rows → AreOf m rows
all_wider n m [] le named = tt
all_wider n m (r ∷ rows) le named = (wider n m r le named.0, all_wider n m rows le named.1)

-- no row is about a request that is yet to begin
lands_not : (n : ℕ) (r : Row) → IsOneOf n r → is_landing (n + 1) r ≡ false
lands_not n (row.Landed id how started) one = ne_eqb id (n + 1) (λ e. absurd (omega (arith, e, one)))
lands_not n (row.Begun id) one = refl
lands_not n (row.Taken client id) one = refl
lands_not n (row.Making lv size mode) one = refl
lands_not n (row.Made lv) one = refl
lands_not n (row.Split from lv) one = refl
lands_not n (row.Removing vol) one = refl
lands_not n (row.Removed vol) one = refl
lands_not n row.Cut one = refl
lands_not n (row.On moment) one = refl

takes_not : (n : ℕ) (r : Row) → IsOneOf n r → is_taking (n + 1) r ≡ false
takes_not n (row.Taken client id) one = ne_eqb id (n + 1) (λ e. absurd (omega (arith, e, one)))
takes_not n (row.Begun id) one = refl
takes_not n (row.Landed id how started) one = refl
takes_not n (row.Making lv size mode) one = refl
takes_not n (row.Made lv) one = refl
takes_not n (row.Split from lv) one = refl
takes_not n (row.Removing vol) one = refl
takes_not n (row.Removed vol) one = refl
takes_not n row.Cut one = refl
takes_not n (row.On moment) one = refl

none_lands : (n : ℕ) (rows : List Row) → AreOf n rows → list_any (is_landing (n + 1)) rows ≡ false
none_lands n [] named = refl
none_lands n (r ∷ rows) named = ap (λ (t : Bool). t || list_any (is_landing (n + 1)) rows) (lands_not n r named.0) ∙ none_lands n rows named.1

none_takes : (n : ℕ) (rows : List Row) → AreOf n rows → list_any (is_taking (n + 1)) rows ≡ false
none_takes n [] named = refl
none_takes n (r ∷ rows) named = ap (λ (t : Bool). t || list_any (is_taking (n + 1)) rows) (takes_not n r named.0) ∙ none_takes n rows named.1

not_positive : (n : ℕ) → nat_lt 0 n ≡ false → n ≡ 0
not_positive zero is = refl
not_positive (suc n) is = let e = lt-ltb 0 (suc n) (omega arith) in absurd (cc)

yet_to_come : (n : ℕ) (rows : List Row) → AreOf n rows → no_step ≡ step_of rows (n + 1)
yet_to_come n rows named =
    let landed : newest_by (is_landing (n + 1)) row.Cut rows (length rows) ≡ 0 =
    not_positive (newest_by (is_landing (n + 1)) row.Cut rows (length rows)) (sym (any_newest (is_landing (n + 1)) row.Cut rows) ∙ none_lands n rows named) in
    ap (λ (k : ℕ). record { landed = k; taken = false }) (sym landed)
    ∙ ap (λ (t : Bool). record { landed = newest_by (is_landing (n + 1)) row.Cut rows (length rows); taken = t }) (sym (none_takes n rows named))

groups_more : (asks : List Ask) (a : Ask) → AreInGroups asks → a.at % 256 + a.count ≤ 256 → AreInGroups (asks ++ a ∷ [])
groups_more asks a groups fits id = by_place (asks) (id - 1) (λ n. groups (n + 1))
  where
    by_place : (l : List Ask) (n : ℕ) → ((k : ℕ) → (get_or l (k + 1 - 1) no_ask).at % 256 + (get_or l (k + 1 - 1) no_ask).count ≤ 256) → (get_or (l ++ a ∷ []) n no_ask).at % 256 + (get_or (l ++ a ∷ []) n no_ask).count ≤ 256
    by_place [] zero all = fits
    by_place [] (suc n) all = let same : n + 1 - 1 ≡ n = omega arith in subst (λ (k : ℕ). (get_or [] k no_ask).at % 256 + (get_or [] k no_ask).count ≤ 256) same (all n)
    by_place (q ∷ l) zero all = all 0
    by_place (q ∷ l) (suc n) all = by_place l n (λ k. let same : suc k + 1 - 1 ≡ suc (k + 1 - 1) = omega arith in subst (λ (m : ℕ). (get_or (q ∷ l) m no_ask).at % 256 + (get_or (q ∷ l) m no_ask).count ≤ 256) same (all (suc k)))

pub begun_indexed : (old : Indexed) (asks : List Ask) (rows : List Row) (a : Ask) → a.at % 256 + a.count ≤ 256 → IsIndexOf old asks rows
    → IsIndexOf (record old { chains = old.chains ++ chain_of a.vol (a.at / 256) ∷ []; steps = old.steps ++ no_step ∷ [] }) (asks ++ a ∷ []) (rows ++ row.Begun (length asks + 1) ∷ [])
begun_indexed old asks rows a fits was =
    enters (record old { steps = old.steps ++ no_step ∷ [] }) (record old { chains = old.chains ++ chain_of a.vol (a.at / 256) ∷ []; steps = old.steps ++ no_step ∷ [] }) (asks ++ a ∷ []) rows (row.Begun (length asks + 1))
    (record {
      its_chains = was.its_chains ∙ sym (chains_stay asks a rows was.named);
      count = length-append old.steps (no_step ∷ []) ∙ ap (λ (n : ℕ). n + 1) was.count ∙ sym (length-append asks (a ∷ []));
      its_steps = steps;
      named = all_wider (length asks) (length (asks ++ a ∷ [])) rows (let n = length-append asks (a ∷ []) in omega (arith, n)) was.named;
      groups = groups_more asks a was.groups fits;
    })
    (record {
      its_chains = ap (λ (q : Ask). old.chains ++ chain_of q.vol (q.at / 256) ∷ []) (sym own);
      count = refl;
      its_steps = λ n less. step_stays (get_or (old.steps ++ no_step ∷ []) n no_step);
      one = let n = length-append asks (a ∷ []) in omega (arith, n);
    })
  where
    own : ask_of (asks ++ a ∷ []) (length asks + 1) ≡ a
    own = ap (λ (n : ℕ). get_or (asks ++ a ∷ []) n no_ask) (let e : length asks + 1 - 1 ≡ length asks = omega arith in e) ∙ get_or-append_seam asks a [] no_ask

    steps : (n : ℕ) → n < length (asks ++ a ∷ []) → get_or (old.steps ++ no_step ∷ []) n no_step ≡ step_of rows (n + 1)
    steps n less = elim (cases_eq n (length asks)) [
      | inl same ↦
          ap (λ (k : ℕ). get_or (old.steps ++ no_step ∷ []) k no_step) (same ∙ sym was.count) ∙ get_or-append_seam old.steps no_step [] no_step
          ∙ yet_to_come (length asks) rows was.named ∙ ap (λ (k : ℕ). step_of rows (k + 1)) (sym same)
      | inr other ↦
          let few : n < length asks = let m = length-append asks (a ∷ []) in omega (arith, m) in
          get_or_append_left old.steps (no_step ∷ []) no_step n (let m = was.count in omega (arith, m, few)) ∙ was.its_steps n few
    ]

pub none_indexed : (room : ℕ) → IsIndexOf (empty_index room) [] []
none_indexed room = record { its_chains = refl; count = refl; its_steps = λ n less. absurd (omega arith); named = tt; groups = λ id. nothing (id - 1) }
  where
    nothing : (n : ℕ) → (get_or [] n no_ask).at % 256 + (get_or [] n no_ask).count ≤ 256
    nothing zero = omega arith
    nothing (suc n) = omega arith

-- ---- what is looked up by a number

found_low : (asks : List Ask) (id : ℕ) (a : Ask) → ask_found asks id ≡ Some a → (1 ≤ id) × (id - 1 < length asks)
found_low asks id a is = by_test (id == 0) refl
  where
    has_place : (l : List Ask) (n : ℕ) → slice_get l n ≡ Some a → n < length l
    has_place [] n is = cc
    has_place (q ∷ l) zero is = omega arith
    has_place (q ∷ l) (suc n) is = let less = has_place l n is in omega (arith, less)

    by_test : (t : Bool) → (id == 0) ≡ t → (1 ≤ id) × (id - 1 < length asks)
    by_test true test = let e : None ≡ Some a = sym (ap (λ (t : Bool). cond t None (slice_get asks (id - 1))) test) ∙ is in cc
    by_test false test = (grind (arith, nat_tests, test), has_place asks (id - 1) (sym (ap (λ (t : Bool). cond t None (slice_get asks (id - 1))) test) ∙ is))

module _ (index : Indexed) (asks : List Ask) (rows : List Row) (was : IsIndexOf index asks rows) (id : ℕ) where
  landed_is : (a : Ask) → ask_found asks id ≡ Some a → has_landed_in index id ≡ list_any (is_landing id) rows
  landed_is a is =
      let at = found_low asks id a is in let low = at.0 in
      ap (λ (s : Step). nat_lt 0 s.landed) (was.its_steps (id - 1) at.1)
      ∙ ap (λ (n : ℕ). nat_lt 0 (newest_by (is_landing n) row.Cut rows (length rows))) (let e : id - 1 + 1 ≡ id = omega (arith, low) in e)
      ∙ sym (any_newest (is_landing id) row.Cut rows)

  taken_is : (a : Ask) → ask_found asks id ≡ Some a → has_taken_in index id ≡ list_any (is_taking id) rows
  taken_is a is =
      let at = found_low asks id a is in let low = at.0 in
      ap (λ (s : Step). s.taken) (was.its_steps (id - 1) at.1)
      ∙ ap (λ (n : ℕ). list_any (is_taking n) rows) (let e : id - 1 + 1 ≡ id = omega (arith, low) in e)

  open_by_index : is_open_by (ask_found asks id) (has_landed_in index id) ≡ is_open_by (ask_found asks id) (list_any (is_landing id) rows)
  open_by_index = by_option (ask_found asks id) refl
    where
      by_option : (o : Option Ask) → ask_found asks id ≡ o → is_open_by o (has_landed_in index id) ≡ is_open_by o (list_any (is_landing id) rows)
      by_option None is = refl
      by_option (Some a) is = ap not (landed_is a is)

  awaited_by_index : awaited_by (ask_found asks id) (has_landed_in index id) ≡ awaited_by (ask_found asks id) (list_any (is_landing id) rows)
  awaited_by_index = by_option (ask_found asks id) refl
    where
      by_option : (o : Option Ask) → ask_found asks id ≡ o → awaited_by o (has_landed_in index id) ≡ awaited_by o (list_any (is_landing id) rows)
      by_option None is = refl
      by_option (Some a) is = ap (λ (t : Bool). cond (not t && not a.write) (Some a.count) None) (landed_is a is)

  answered_by_index : (client : ℕ) → is_answered_by (ask_found asks id) client (has_landed_in index id) (has_taken_in index id) ≡ is_answered_by (ask_found asks id) client (list_any (is_landing id) rows) (list_any (is_taking id) rows)
  answered_by_index client = by_option (ask_found asks id) refl
    where
      by_option : (o : Option Ask) → ask_found asks id ≡ o → is_answered_by o client (has_landed_in index id) (has_taken_in index id) ≡ is_answered_by o client (list_any (is_landing id) rows) (list_any (is_taking id) rows)
      by_option None is = refl
      by_option (Some a) is =
          ap (λ (t : Bool). a.client == client && t && not (has_taken_in index id)) (landed_is a is)
          ∙ ap (λ (t : Bool). a.client == client && list_any (is_landing id) rows && not t) (taken_is a is)

-- and is told of the log
pub open_told : (index : Indexed) (k : Holdings) (log : Log) (id : ℕ) → IsIndexOf index k.asks k.rows → IsSound k → log_of k ≡ log → is_open_by (ask_found k.asks id) (has_landed_in index id) ≡ is_open log.facts id
open_told index k log id was sound shows = open_by_index index k.asks k.rows was id ∙ is_open_kept k log id sound shows

pub awaited_told : (index : Indexed) (k : Holdings) (log : Log) (id : ℕ) → IsIndexOf index k.asks k.rows → IsSound k → log_of k ≡ log → awaited_by (ask_found k.asks id) (has_landed_in index id) ≡ awaited log.facts id
awaited_told index k log id was sound shows = awaited_by_index index k.asks k.rows was id ∙ awaited_kept k log id sound shows

pub answered_told : (index : Indexed) (k : Holdings) (log : Log) (client id : ℕ) → IsIndexOf index k.asks k.rows → IsSound k → log_of k ≡ log
    → is_answered_by (ask_found k.asks id) client (has_landed_in index id) (has_taken_in index id) ≡ is_answered log.facts client id
answered_told index k log client id was sound shows = answered_by_index index k.asks k.rows was id client ∙ is_answered_kept k log client id sound shows

pub answered_some : (facts : List Fact) (client id : ℕ) → is_answered facts client id ≡ true → is_some (asked facts id) ≡ true
answered_some facts client id answered =
    and_left (is_some (asked facts id)) ((request_of facts id).client == client)
    (and_left (is_some (asked facts id) && (request_of facts id).client == client) (list_any (lands_id id) facts)
    (and_left (is_some (asked facts id) && (request_of facts id).client == client && list_any (lands_id id) facts) (not (list_any (takes_id id) facts)) answered))

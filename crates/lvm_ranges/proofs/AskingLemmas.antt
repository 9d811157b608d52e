-- What else is so of a range that was asked for.
use Rattle.std.proofs.Common.{◌≡◌, ◌≤◌, ◌<◌, ◌+◌, ◌-◌, ◌||◌, ◌&&◌, ◌==◌, not, ℕ, Bool, true, false, List, [], ◌∷◌, ◌++◌, Option, Some, None, length, refl, sym, ◌∙◌, ap, subst, append_assoc, arith, if◌then◌else◌}
use Rattle.std.specs.Prelude.{find, is_some, unwrap_or}
use Rattle.std.specs.List.{list_any}
use Rattle.std.proofs.lemmas.Bool.{ne_eqb}
use Rattle.std.proofs.lemmas.List.{length-append}
use Rattle.std.proofs.lemmas.List.Folds.{list_any-append}
use Rattle.lvm_num.proofs.Booleans.{not_so}
use Rattle.lvm_vol.specs.declared.entry.Outcome.{Outcome}
use Rattle.lvm_vol.specs.declared.entry.Outcome.TheVariants as outcome
use Rattle.lvm_vol.specs.declared.entry.Vol.TheVariants.{Lv}
use Rattle.lvm_vol.specs.Facts.{Begun, Fact, Request, begun}
use Rattle.lvm_vol.specs.Log.{Log, asked as told, blocks_begun, has_id, is_answered, lands_id, next_id, next_request, no_request, takes_id}
use Rattle.lvm_vol.specs.Order.{Ordered}
use Rattle.lvm_vol.proofs.LogLemmas.{find_stands}
use Rattle.lvm_vol.proofs.FactsLemmas.Order.{any-push, begun-push, numbered, stands-at}
use Rattle.lvm_history.proofs.LogLemmas.Staying.{blocks_begun-push}
use Rattle.lvm_path.specs.Asks.{at_of, count_of, lv_of}
use Rattle.lvm_posts.specs.passed.Raw.{piece_end}
use Rattle.lvm_session.specs.declared.open.Open.{Open}
use Rattle.lvm_session.specs.Calls.{is_asked, new_open}
use Rattle.lvm_session.specs.Sound.{outcome_by, outcome_in}
use Rattle.lvm_session.specs.State.{Core}
use Rattle.lvm_keeps.proofs.SoundLemmas.Telling.{outcome_still}
use Rattle.lvm_driver.proofs.passed.KeepsEvents.{next_is}
use Rattle.lvm_posts.specs.declared.asked.Asked.{Asked}
use Rattle.lvm_posts.specs.Pieces.{IsLaidOut}
use Rattle.lvm_ranges.specs.Asking.{Asks, IsAskedFor}
use Rattle.lvm_ranges.specs.Keeping.{KeepsEarlier}
use Rattle.lvm_ranges.specs.Pieces.{NoPiece, OnePiece, Submits, piece_ask, piece_bytes, with_piece}
use Rattle.lvm_ranges.specs.Reading.{AreReads, IsRead, IsReadAt, NoRead, OneRead}
use Rattle.lvm_ranges.proofs.PiecesLemmas.{all_held, count_so, next_ids, table_keeps}

-- ---- what was asked for before

next_so : (log : Log) → Ordered log.run [] log.facts → next_id log ≡ length (begun log.facts) + 1
next_so log ordered = next_is log ordered (record no_request { id = next_id log }) refl

-- each request that the history tells of has an earlier number
pub earlier : (log : Log) → Ordered log.run [] log.facts → (id : ℕ) → is_some (told log.facts id) ≡ true → id < next_id log
earlier log ordered id is = by (told log.facts id) refl is
  where
    by : (m : Option Request) → told log.facts id ≡ m → is_some m ≡ true → id < next_id log
    by None none some = not_so some
    by (Some r) its some =
        let found = find_stands id (begun log.facts) r its in
        let high = (stands-at 1 (begun log.facts) r (numbered log.run log.facts ordered).ids found.0).high in
        let same = found.1 in
        let next = next_so log ordered in
        omega (arith, high, same, next)

-- and none of a later one has landed
none_above : (log : Log) → Ordered log.run [] log.facts → (id : ℕ) → next_id log ≤ id → list_any (lands_id id) log.facts ≡ false
none_above log ordered id above = by (list_any (lands_id id) log.facts) refl
  where
    by : (b : Bool) → list_any (lands_id id) log.facts ≡ b → b ≡ false
    by false is = refl
    by true is = let high = ((numbered log.run log.facts ordered).lands id is).1 in let next = next_so log ordered in absurd (omega (arith, high, next, above))

-- ---- as the pieces are submitted

-- nothing lands
unlanded : {write : Option ℕ} {lv at end : ℕ} {first : Core} {from n : ℕ} {core : Core} → Submits write lv at end first from n core → (id : ℕ) → list_any (lands_id id) first.history.facts ≡ false → list_any (lands_id id) core.history.facts ≡ false
unlanded NoPiece id none = none
unlanded (OnePiece {core = core} before less) id none = any-push (lands_id id) core.history.facts _ ∙ ap (λ b. b || false) (unlanded before id none)

not_landed : (facts : List Fact) (id : ℕ) (how : Outcome) → list_any (lands_id id) facts ≡ false → outcome_in facts id ≡ Some how → ⊥
not_landed [] id how none is = absurd (cc is)
not_landed (f ∷ facts) id how none is = by (lands_id id f) (not_landed facts id how) none is
  where
    by : (b : Bool) → (list_any (lands_id id) facts ≡ false → outcome_in facts id ≡ Some how → ⊥) → b || list_any (lands_id id) facts ≡ false → (if b then outcome_by f else outcome_in facts id) ≡ Some how → ⊥
    by true rest e h = not_so (sym e)
    by false rest e h = rest e h

-- each has its entry in the table
longer : {write : Option ℕ} {lv at end : ℕ} {first : Core} {from n : ℕ} {core : Core} → Submits write lv at end first from n core → length core.requests ≡ length first.requests + n
longer NoPiece = omega arith
longer {write} {lv} {at} {end} {first} (OnePiece {from = from} {n = n} {core = core} before less) =
    let was = longer before in
    let more = length-append core.requests (new_open (next_id core.history) 1 (piece_ask write lv from (piece_end from end - from)) (blocks_begun core.history.facts) ∷ []) in
    omega (arith, was, more)

behind_first : {write : Option ℕ} {lv at end : ℕ} {first : Core} {from n : ℕ} {core : Core} → Submits write lv at end first from n core → at ≤ from
behind_first NoPiece = omega arith
behind_first {write} {lv} {at} {end} (OnePiece {from = from} before less) = let was = behind_first before in let grows : from < piece_end from end = omega (arith, less) in omega (arith, was, grows)

-- and its blocks in the history
begun_on : {write : Option ℕ} {lv at end : ℕ} {first : Core} {from n : ℕ} {core : Core} → Submits write lv at end first from n core → blocks_begun core.history.facts + at ≡ blocks_begun first.history.facts + from
begun_on NoPiece = refl
begun_on {write} {lv} {at} {end} {first} (OnePiece {from = from} {n = n} {core = core} before less) =
    let size = piece_end from end - from in
    let ask = piece_ask write lv from size in
    let was = begun_on before in
    let more = blocks_begun-push core.history.facts (next_request core.history 1 (Lv (lv_of ask)) (at_of ask) (count_of ask) (piece_bytes write at from size)) in
    let so = count_so write lv from size in
    let grows : from < piece_end from end = omega (arith, less) in
    omega (arith, was, more, so, grows)

-- ---- reads

-- a read stays one as another request begins
read_push : (facts : List Fact) (r : Request) (id place count : ℕ) → IsReadAt facts id place count → IsReadAt (facts ++ Begun r ∷ []) id place count
read_push facts r id place count read = record {
  past = read.past;
  rest = read.rest ++ Begun r ∷ [];
  request = read.request;
  is = ap (λ (l : List Fact). l ++ Begun r ∷ []) read.is ∙ append_assoc read.past (Begun read.request ∷ read.rest) (Begun r ∷ []);
  own = read.own;
  read = read.read;
  long = read.long;
  begins = read.begins;
  ends = λ e. read.ends (sym (outcome_still facts (Begun r) id refl) ∙ e);
}

reads_push : (facts : List Fact) (r : Request) (first place : ℕ) {n long : ℕ} → AreReads facts first place n long → AreReads (facts ++ Begun r ∷ []) first place n long
reads_push facts r first place NoRead = NoRead
reads_push facts r first place (OneRead {n} {long} {count} before read) = OneRead (reads_push facts r first place before) (read_push facts r (first + n) (place + long) count read)

-- the pieces without a word are reads
are_reads : {lv at end : ℕ} {first : Core} {from n : ℕ} {core : Core} → Ordered first.history.run [] first.history.facts → Submits None lv at end first from n core
    → AreReads core.history.facts (next_id first.history) (blocks_begun first.history.facts) n (from - at)
are_reads {at = at} {first = first} ordered NoPiece =
    let none : 0 ≡ at - at = omega arith in
    subst (λ l. AreReads first.history.facts (next_id first.history) (blocks_begun first.history.facts) 0 l) none NoRead
are_reads {lv} {at} {end} {first} ordered (OnePiece {from = from} {n = n} {core = core} before less) =
    let facts : List Fact = core.history.facts in
    let id = next_id first.history in
    let place = blocks_begun first.history.facts in
    let size = piece_end from end - from in
    let r : Request = next_request core.history 1 (Lv lv) from size None in
    let low = behind_first before in
    let was = begun_on before in
    let grows : from < piece_end from end = omega (arith, less) in
    let long : from - at + size ≡ piece_end from end - at = omega (arith, low, grows) in
    let begins : place + (from - at) ≡ blocks_begun facts = omega (arith, low, was) in
    let more : Submits None lv at end first (piece_end from end) (n + 1) (with_piece None lv at from size core) = OnePiece before less in
    let none : list_any (lands_id (id + n)) (facts ++ Begun r ∷ []) ≡ false = unlanded more (id + n) (none_above first.history ordered (id + n) (omega arith)) in
    subst (λ l. AreReads (facts ++ Begun r ∷ []) id place (n + 1) l) long (OneRead (reads_push facts r id place (are_reads ordered before)) (record {
      past = facts;
      rest = [];
      request = r;
      is = refl;
      own = next_ids before;
      read = refl;
      long = refl;
      begins = begins;
      ends = not_landed (facts ++ Begun r ∷ []) (id + n) outcome.Done none;
    }))

-- ---- what was asked for before stays

-- one that is found is found among more
found_still : (t : Request → Bool) (rs more : List Request) (r : Request) → find t rs ≡ Some r → find t (rs ++ more) ≡ Some r
found_still t [] more r is = absurd (cc is)
found_still t (s ∷ rs) more r is = by (t s) (found_still t rs more r) is
  where
    by : (b : Bool) → (find t rs ≡ Some r → find t (rs ++ more) ≡ Some r) → (if b then Some s else find t rs) ≡ Some r → (if b then Some s else find t (rs ++ more)) ≡ Some r
    by true rest e = e
    by false rest e = rest e

told_push : (facts : List Fact) (r : Request) (id : ℕ) → is_some (told facts id) ≡ true → told (facts ++ Begun r ∷ []) id ≡ told facts id
told_push facts r id is = by (told facts id) refl is
  where
    by : (m : Option Request) → told facts id ≡ m → is_some m ≡ true → told (facts ++ Begun r ∷ []) id ≡ m
    by None none some = not_so some
    by (Some q) its some = ap (find (has_id id)) (begun-push facts (Begun r)) ∙ found_still (has_id id) (begun facts) (r ∷ []) q its

answered_told : (facts : List Fact) (client id : ℕ) → is_answered facts client id ≡ true → is_some (told facts id) ≡ true
answered_told facts client id is = by (is_some (told facts id)) is
  where
    by : (b : Bool) → b && (unwrap_or (told facts id) no_request).client == client && list_any (lands_id id) facts && not (list_any (takes_id id) facts) ≡ true → b ≡ true
    by true e = refl
    by false e = e

answered_push : (facts : List Fact) (r : Request) (client id : ℕ) → is_answered facts client id ≡ true → is_answered (facts ++ Begun r ∷ []) client id ≡ true
answered_push facts r client id is =
    ap (λ (m : Option Request). is_some m && (unwrap_or m no_request).client == client && list_any (lands_id id) (facts ++ Begun r ∷ []) && not (list_any (takes_id id) (facts ++ Begun r ∷ []))) (told_push facts r id (answered_told facts client id is))
    ∙ ap (λ b. is_some (told facts id) && (unwrap_or (told facts id) no_request).client == client && b && not (list_any (takes_id id) (facts ++ Begun r ∷ []))) (same (lands_id id) refl)
    ∙ ap (λ b. is_some (told facts id) && (unwrap_or (told facts id) no_request).client == client && list_any (lands_id id) facts && not b) (same (takes_id id) refl)
    ∙ is
  where
    or_false : (a : Bool) → a || false ≡ a
    or_false true = refl
    or_false false = refl

    same : (t : Fact → Bool) → t (Begun r) ≡ false → list_any t (facts ++ Begun r ∷ []) ≡ list_any t facts
    same t none = any-push t facts (Begun r) ∙ ap (λ b. list_any t facts || b) none ∙ or_false (list_any t facts)

answered_still : {write : Option ℕ} {lv at end : ℕ} {first : Core} {from n : ℕ} {core : Core} → Submits write lv at end first from n core → (client id : ℕ) → is_answered first.history.facts client id ≡ true
    → is_answered core.history.facts client id ≡ true
answered_still NoPiece client id is = is
answered_still (OnePiece {core = core} before less) client id is = answered_push core.history.facts _ client id (answered_still before client id is)

-- the table has no further request of an earlier number
table_earlier : {write : Option ℕ} {lv at end : ℕ} {first : Core} {from n : ℕ} {core : Core} → Submits write lv at end first from n core → (client id : ℕ) → id < next_id first.history
    → list_any (is_asked client id) core.requests ≡ list_any (is_asked client id) first.requests
table_earlier NoPiece client id low = refl
table_earlier {write} {lv} {at} {end} {first} (OnePiece {from = from} {n = n} {core = core} before less) client id low =
    let o : Open = new_open (next_id core.history) 1 (piece_ask write lv from (piece_end from end - from)) (blocks_begun core.history.facts) in
    let next = next_ids before in
    let other : (next_id core.history == id) ≡ false = ne_eqb (next_id core.history) id (λ e. absurd (omega (arith, e, next, low))) in
    list_any-append (is_asked client id) core.requests (o ∷ [])
    ∙ ap (λ b. list_any (is_asked client id) core.requests || (((1 == client) && b) || false)) other
    ∙ none (list_any (is_asked client id) core.requests) (1 == client)
    ∙ table_earlier before client id low
  where
    none : (a b : Bool) → a || ((b && false) || false) ≡ a
    none true b = refl
    none false true = refl
    none false false = refl

pub earlier_stay : (write : Option ℕ) (lv at count : ℕ) (old new : Core) (asked : Asked) → Ordered old.history.run [] old.history.facts → Asks write lv at count old new asked → KeepsEarlier old new
earlier_stay write lv at count old new asked ordered asks = record {
  held = table_keeps asks;
  asked = λ client id is. table_earlier asks.submits client id (earlier old.history ordered id is);
  answered = answered_still asks.submits;
}

-- ---- all of it

pub asked_for : (write : Option ℕ) (lv at count : ℕ) (old new : Core) (asked : Asked) → Ordered old.history.run [] old.history.facts → Asks write lv at count old new asked → IsLaidOut asked → IsAskedFor write count old new asked
asked_for write lv at count old new asked ordered asks laid = record {
  held = all_held asked asks;
  laid = laid;
  some = let pieces = asks.pieces in omega (arith, pieces);
  more = longer asks.submits;
  behind = λ id is. subst (λ n. id < n) (sym asks.first) (earlier old.history ordered id is);
  read = read;
}
  where
    read : write ≡ None → IsRead new.history.facts asked count
    read none =
        let submits : Submits None lv at (at + count) old (at + count) asked.pieces new = subst (λ w. Submits w lv at (at + count) old (at + count) asked.pieces new) none asks.submits in
        let all : AreReads new.history.facts (next_id old.history) (blocks_begun old.history.facts) asked.pieces (at + count - at) = are_reads ordered submits in
        let size : at + count - at ≡ count = omega arith in
        subst (λ n. AreReads new.history.facts asked.first asked.place asked.pieces n) size
        (subst (λ p. AreReads new.history.facts asked.first p asked.pieces (at + count - at)) (sym asks.place)
        (subst (λ i. AreReads new.history.facts i (blocks_begun old.history.facts) asked.pieces (at + count - at)) (sym asks.first) all))

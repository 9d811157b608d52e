-- What is kept after one entry more.
use Rattle.std.proofs.Common.{◌≡◌, inl, inr, ℕ, zero, suc, ◌+◌, ◌-◌, ◌*◌, ◌/◌, ◌^◌, ◌≤◌, ◌<◌, ◌&&◌, ◌||◌, ◌==◌, not, Bool, true, false, cond, List, [], ◌∷◌, ◌++◌, length, take, drop, get_or, map, replicate, Option, Some, None, is_some, IsSome, option_map, slice_get, unwrap_or, refl, sym, ◌∙◌, ap, subst, arith, zero-add, length-append, nat_lt}
use Rattle.std.specs.List.{list_all, list_any, find, cons_option}
use Rattle.std.specs.Bool.{MatchBool}
use Rattle.std.specs.Simd.{first_chunks}
use Rattle.std.proofs.lemmas.List.{append-nil, length-replicate, map-append, length-map, length-take, length-drop, get_or-map}
use Rattle.std.proofs.lemmas.List.Sums.{sum_by_more_le, sum_by_push, sum_by-cons}
use Rattle.std.proofs.lemmas.Bool.Decides.{nat_tests}
use Rattle.std.proofs.lemmas.Bool.{eqb-true}
use Rattle.lvm_history.specs.passed.Vol.{zero_sector, Vol, Outcome, Entry, Request, Fact, Making, Made, Split, Removing, Removed, Begun, Landed, Taken, Cut, On, IsInList, begun, begun_by, Log, open_count, landed_count, plain_fact, cut_log, spare_entries, spare_bytes, awaited, blocks_begun, entries_of, entries_from, next_id, blocks_given, next_request, has_id, asked, no_request, request_of, lands_id, takes_id, is_open, is_answered, is_got, got_by, held, blocks_of, blocks_begun_with, got_without_bytes, need, is_uncut_after, is_uncut_from, is_uncut, Follows, Ordered, HasItsData, IsGotOf}
use Rattle.lvm_history.specs.passed.VolEntryVol.{Disk}
use Rattle.lvm_history.specs.passed.VolEntryOutcome as outcome
use Rattle.lvm_history.specs.passed.VolEntryEntry as entry
use Rattle.lvm_allowed.specs.declared.row.Ask.{Ask}
use Rattle.lvm_allowed.specs.declared.row.Row.{Row}
use Rattle.lvm_allowed.specs.declared.row.Row.TheVariants as row
use Rattle.lvm_allowed.specs.Fitting.{is_bounded}
use Rattle.lvm_allowed.specs.Rows.{facts_of, no_ask, ask_of, is_landing, is_taking}
use Rattle.lvm_history.specs.Keeping.{ask_at, ask_found, is_open_by, awaited_by, is_answered_by, entry_kept, IsOneOfAsks, asks_from, row_of, IsKept, IsRoomy, if_uncut, blocks_first, Holdings, log_of, IsSound}
use Rattle.lvm_history.proofs.passed.Vol.{IdsFrom, stands_last, stands-at, stands_begun, numbered, begun-push, any-push, ordered-push, found_of, and_left, open_of, follows_taken, count_begun, four_hold}
use Rattle.lvm_history.proofs.LogLemmas.Keeping.{counts, ask-back, length-asks, length-flat, length-held, asks-push, facts-back, blocks_aside, blocks-begun, blocks-landed, blocks-read, held_same, unlanded_id, place_of}
use Rattle.lvm_history.proofs.LogLemmas.Counting.{stands_get, find_at, find_below, counted, three_needed, no_taking_yet, landing_same, taking_same, needed-push, length-push}

uncut-push : (b : Bool) (facts : List Fact) (f : Fact) → is_uncut_from b (facts ++ f ∷ []) ≡ is_uncut_after (is_uncut_from b facts) f
uncut-push b [] f = refl
uncut-push b (g ∷ facts) f = uncut-push (is_uncut_after b g) facts f

-- one fact more is kept
pub record Enters (k new : Holdings) (f : Fact) : Type 0 where
  pub sound : IsSound new
  pub log : log_of new ≡ record (log_of k) { facts = (log_of k).facts ++ f ∷ [] }

pub enters : (k new : Holdings) (f : Fact) → IsSound k → Follows k.run (log_of k).facts f
    → new.run ≡ k.run → new.room ≡ k.room → new.bytes ≡ k.bytes
    → new.rows ≡ k.rows ++ row_of f ∷ [] → new.asks ≡ asks_from 0 (begun ((log_of k).facts ++ f ∷ [])) → new.blocks ≡ blocks_of ((log_of k).facts ++ f ∷ [])
    → new.need_now ≡ k.need_now + need f → new.uncut ≡ is_uncut_after k.uncut f → new.need_now + if_uncut new.uncut ≤ new.room → 512 * length new.blocks ≤ new.bytes
    → k.rows_room ≤ new.rows_room → k.asks_room ≤ new.asks_room → k.blocks_room ≤ new.blocks_room
    → Enters k new f
enters k new f sound follows run room bytes rows asks blocks needs uncut fits bytes_fit more_rows more_asks more_blocks =
    record {
      sound = record {
        its_own = subst (λ (l : List Fact). IsKept new.run l new.rows new.asks new.blocks) (sym is) kept;
        roomy = subst (λ (l : List Fact). IsRoomy l new.room new.need_now new.uncut) (sym is) roomy;
        few = let a = sound.few in omega (arith, a, room);
        bytes_fit = bytes_fit;
        rows_fit = let a = sound.rows_fit in omega (arith, a, room, more_rows);
        asks_fit = subst (λ (n : ℕ). n / 3 ≤ new.asks_room) (sym room) (let a = sound.asks_fit in omega (arith, a, more_asks));
        blocks_fit = subst (λ (n : ℕ). n / 512 ≤ new.blocks_room) (sym bytes) (let a = sound.blocks_fit in omega (arith, a, more_blocks));
      };
      log = ap (λ (l : List Fact). record { run = new.run; facts = l; room = new.room; bytes = new.bytes }) is
          ∙ ap (λ (n : ℕ). record { run = n; facts = facts ++ f ∷ []; room = new.room; bytes = new.bytes }) run
          ∙ ap (λ (n : ℕ). record { run = k.run; facts = facts ++ f ∷ []; room = n; bytes = new.bytes }) room
          ∙ ap (λ (n : ℕ). record { run = k.run; facts = facts ++ f ∷ []; room = k.room; bytes = n }) bytes;
    }
  where
    facts : List Fact
    facts = (log_of k).facts

    kept : IsKept new.run ((log_of k).facts ++ f ∷ []) new.rows new.asks new.blocks
    kept = record {
      ordered = subst (λ (n : ℕ). Ordered n [] ((log_of k).facts ++ f ∷ [])) (sym run) (ordered-push k.run [] (log_of k).facts f sound.its_own.ordered follows);
      its_rows = rows ∙ ap (λ (l : List Row). l ++ row_of f ∷ []) sound.its_own.its_rows ∙ sym (map-append row_of (log_of k).facts (f ∷ []));
      its_asks = asks;
      its_blocks = blocks;
    }

    is : (log_of new).facts ≡ (log_of k).facts ++ f ∷ []
    is = facts-back new.run ((log_of k).facts ++ f ∷ []) new.rows new.asks new.blocks kept

    roomy : IsRoomy ((log_of k).facts ++ f ∷ []) new.room new.need_now new.uncut
    roomy = record {
      counted = needs ∙ ap (λ (n : ℕ). n + need f) sound.roomy.counted ∙ sym (sum_by_push need (log_of k).facts f);
      cuts = uncut ∙ ap (λ (b : Bool). is_uncut_after b f) sound.roomy.cuts ∙ sym (uncut-push false (log_of k).facts f);
      fits = fits;
    }

-- a fact that begins nothing and gets nothing changes neither requests nor blocks
pub record IsQuiet (f : Fact) : Type 0 where
  pub begins : begun_by f ≡ None
  pub gets : (id : ℕ) → got_by id f ≡ None

asks_quiet : (k : Holdings) (f : Fact) → IsSound k → begun_by f ≡ None → k.asks ≡ asks_from 0 (begun ((log_of k).facts ++ f ∷ []))
asks_quiet k f sound none = sound.its_own.its_asks
    ∙ ap (λ (rs : List Request). asks_from 0 rs) (sym (begun-push (log_of k).facts f ∙ ap (λ (o : Option Request). begun (log_of k).facts ++ cons_option o []) none ∙ append-nil (begun (log_of k).facts)))

pub asks_same : (k : Holdings) (f : Fact) → IsSound k → begun_by f ≡ None → k.asks ≡ asks_from 0 (begun ((log_of k).facts ++ f ∷ []))
asks_same k f sound none = asks_quiet k f sound none

pub blocks_same : (k : Holdings) (f : Fact) → IsSound k → IsQuiet f → k.blocks ≡ blocks_of ((log_of k).facts ++ f ∷ [])
blocks_same k f sound quiet = sound.its_own.its_blocks ∙ sym (blocks_aside k.run (log_of k).facts f quiet.begins (λ r there. held_same (log_of k).facts f r (quiet.gets r.id)))

-- the data of a landing without bytes is of its kind
got_without : (r : Request) (how : Outcome) → HasItsData r → IsGotOf r how (got_without_bytes r how)
got_without r how whole = by_how (is_got how) refl
  where
    size : (w : Bool) → r.write ≡ w → length (blocks_begun_with r) ≡ r.count
    size true is = ap (λ (t : Bool). length (cond t r.blocks (replicate r.count zero_sector))) is ∙ subst (λ (t : Bool). MatchBool t (length r.blocks ≡ r.count) (r.blocks ≡ [])) is whole.0
    size false is = ap (λ (t : Bool). length (cond t r.blocks (replicate r.count zero_sector))) is ∙ length-replicate r.count zero_sector

    by_how : (t : Bool) → is_got how ≡ t → IsGotOf r how (got_without_bytes r how)
    by_how true is =
        let e : got_without_bytes r how ≡ blocks_begun_with r = ap (λ (t : Bool). cond t (blocks_begun_with r) []) is in
        subst (λ (t : Bool). MatchBool t ((length (got_without_bytes r how) ≡ r.count) × (r.write ≡ true → got_without_bytes r how ≡ r.blocks)) (got_without_bytes r how ≡ [])) (sym is)
        (ap length e ∙ size r.write refl, λ w. e ∙ ap (λ (t : Bool). cond t r.blocks (replicate r.count zero_sector)) w)
    by_how false is =
        subst (λ (t : Bool). MatchBool t ((length (got_without_bytes r how) ≡ r.count) × (r.write ≡ true → got_without_bytes r how ≡ r.blocks)) (got_without_bytes r how ≡ [])) (sym is)
        (ap (λ (t : Bool). cond t (blocks_begun_with r) []) is)

pub follows_landed : (run : ℕ) (facts : List Fact) (id : ℕ) (how : Outcome) (started : Bool) → Ordered run [] facts → is_open facts id ≡ true
    → Follows run facts (Landed (request_of facts id) how started (got_without_bytes (request_of facts id) how))
follows_landed run facts id how started ordered is =
    let still = open_of facts id is in
    let q = numbered run facts ordered in
    (still.its.began, ap (λ (n : ℕ). list_any (lands_id n) facts) still.its.own ∙ still.unlanded, got_without (request_of facts id) how (q.whole (request_of facts id) (stands_begun facts (request_of facts id) still.its.began)))

-- one fact more is shown and kept
pub record Adds (log : Log) (new : Holdings) (f : Fact) : Type 0 where
  pub sound : IsSound new
  pub shown : log_of new ≡ record log { facts = log.facts ++ f ∷ [] }

-- a row is added where there is room for it, and nothing else changes
pub record AddsRow (k new : Holdings) (r : Row) : Type 0 where
  pub its_rows : new.rows ≡ k.rows ++ r ∷ []
  pub rest : new ≡ record k { rows = new.rows; rows_room = new.rows_room }
  pub more : k.rows_room ≤ new.rows_room

landed_enters : (k new : Holdings) (id : ℕ) (how : Outcome) (started : Bool) → IsSound k → is_open (log_of k).facts id ≡ true → AddsRow k new (row.Landed id how started)
    → Enters k new (Landed (request_of (log_of k).facts id) how started (got_without_bytes (request_of (log_of k).facts id) how))
landed_enters k new id how started sound still adds =
    let facts : List Fact = (log_of k).facts in
    let r : Request = request_of facts id in
    let f : Fact = Landed r how started (got_without_bytes r how) in
    let its = open_of facts id still in
    let q = numbered k.run facts sound.its_own.ordered in
    let need_is : new.need_now ≡ k.need_now = ap (λ (x : Holdings). x.need_now) adds.rest in
    let uncut_is : new.uncut ≡ k.uncut = ap (λ (x : Holdings). x.uncut) adds.rest in
    let room_is : new.room ≡ k.room = ap (λ (x : Holdings). x.room) adds.rest in
    let fits = sound.roomy.fits in
    enters k new f sound (follows_landed k.run facts id how started sound.its_own.ordered still)
    (ap (λ (x : Holdings). x.run) adds.rest) room_is (ap (λ (x : Holdings). x.bytes) adds.rest)
    (adds.its_rows ∙ ap (λ (n : ℕ). k.rows ++ row.Landed n how started ∷ []) (sym its.its.own))
    (ap (λ (x : Holdings). x.asks) adds.rest ∙ asks_same k f sound refl)
    (ap (λ (x : Holdings). x.blocks) adds.rest ∙ sound.its_own.its_blocks ∙ sym (blocks-landed k.run facts r how started q its.its.began (ap (λ (n : ℕ). list_any (lands_id n) facts) its.its.own ∙ its.unlanded)))
    (need_is ∙ (let e : k.need_now ≡ k.need_now + 0 = omega arith in e))
    uncut_is
    (subst (λ (b : Bool). new.need_now + if_uncut b ≤ new.room) (sym uncut_is) (omega (arith, need_is, room_is, fits)))
    (subst (λ (x : Holdings). 512 * length x.blocks ≤ x.bytes) (sym adds.rest) sound.bytes_fit)
    adds.more
    (let e : new.asks_room ≡ k.asks_room = ap (λ (x : Holdings). x.asks_room) adds.rest in omega (arith, e))
    (let e : new.blocks_room ≡ k.blocks_room = ap (λ (x : Holdings). x.blocks_room) adds.rest in omega (arith, e))

adds_of : (k new : Holdings) (log : Log) (f : Fact) → log_of k ≡ log → Enters k new f → Adds log new f
adds_of k new log f shows enters = record { sound = enters.sound; shown = enters.log ∙ ap (λ (x : Log). record x { facts = x.facts ++ f ∷ [] }) shows }

pub landed_adds : (k new : Holdings) (log : Log) (id : ℕ) (how : Outcome) (started : Bool) → IsSound k → log_of k ≡ log → is_open log.facts id ≡ true → AddsRow k new (row.Landed id how started)
    → Adds log new (Landed (request_of log.facts id) how started (got_without_bytes (request_of log.facts id) how))
landed_adds k new log id how started sound shows still adds =
    subst (λ (x : Log). is_open x.facts id ≡ true → Adds x new (Landed (request_of x.facts id) how started (got_without_bytes (request_of x.facts id) how))) shows
    (λ still. adds_of k new (log_of k) _ refl (landed_enters k new id how started sound still adds)) still

-- there is room for a row that the count has room for
pub row_room : (k : Holdings) (f : Fact) → IsSound k → Follows k.run (log_of k).facts f → k.need_now + need f ≤ k.room → length k.rows < k.rows_room
row_room k f sound follows fits =
    let facts : List Fact = (log_of k).facts in
    let all = counted k.run (facts ++ f ∷ []) (ordered-push k.run [] facts f sound.its_own.ordered follows) in
    let total = all.total in
    let rows : length k.rows ≡ length facts = ap length sound.its_own.its_rows ∙ length-map facts row_of in
    let is = sound.roomy.counted in let room = sound.rows_fit in
    omega (arith, total, needed-push k.run facts f, length-push k.run facts f, rows, is, room, fits)

-- what has landed can be taken
answered_landed : (run : ℕ) (facts : List Fact) (id : ℕ) (how : Outcome) (started : Bool) (got : List (List ℕ)) → Ordered run [] facts → is_open facts id ≡ true
    → is_answered (facts ++ Landed (request_of facts id) how started got ∷ []) (request_of facts id).client id ≡ true
answered_landed run facts id how started got ordered still =
    let r : Request = request_of facts id in
    let f : Fact = Landed r how started got in
    let its = open_of facts id still in
    let q = numbered run facts ordered in
    let b : begun (facts ++ f ∷ []) ≡ begun facts = begun-push facts f ∙ append-nil (begun facts) in
    let e : asked (facts ++ f ∷ []) id ≡ Some r = ap (λ (rs : List Request). find (has_id id) rs) b ∙ its.its.found in
    let same : request_of (facts ++ f ∷ []) id ≡ r = ap (λ (o : Option Request). unwrap_or o no_request) e in
    let own_id : (r.id == id) ≡ true = ap (λ (n : ℕ). n == id) its.its.own ∙ equal id in
    four_hold (is_some (asked (facts ++ f ∷ []) id)) ((request_of (facts ++ f ∷ []) id).client == r.client) (list_any (lands_id id) (facts ++ f ∷ [])) (not (list_any (takes_id id) (facts ++ f ∷ [])))
    (ap (λ (o : Option Request). is_some o) e)
    (ap (λ (x : Request). x.client == r.client) same ∙ equal r.client)
    (any-push (lands_id id) facts f ∙ ap (λ (t : Bool). list_any (lands_id id) facts || t) own_id ∙ or_true (list_any (lands_id id) facts))
    (ap not (taking_same run facts f id refl ∙ no_taking_yet run facts id q its.unlanded))
  where
    equal : (n : ℕ) → (n == n) ≡ true
    equal n = grind (arith, nat_tests)

    or_true : (a : Bool) → (a || true) ≡ true
    or_true true = refl
    or_true false = refl

pub landed_answered : (k new : Holdings) (log : Log) (id : ℕ) (how : Outcome) (started : Bool) (got : List (List ℕ)) → IsSound k → log_of k ≡ log → is_open log.facts id ≡ true
    → Adds log new (Landed (request_of log.facts id) how started got) → is_answered (log_of new).facts (request_of log.facts id).client id ≡ true
landed_answered k new log id how started got sound shows still adds =
    ap (λ (x : Log). is_answered x.facts (request_of log.facts id).client id) adds.shown
    ∙ answered_landed log.run log.facts id how started got (subst (λ (x : Log). Ordered x.run [] x.facts) shows sound.its_own.ordered) still

pub landed_room : (k : Holdings) (log : Log) (id : ℕ) (how : Outcome) (started : Bool) → IsSound k → log_of k ≡ log → is_open log.facts id ≡ true → length k.rows < k.rows_room
landed_room k log id how started sound shows still =
    let fits = sound.roomy.fits in
    let here : is_open (log_of k).facts id ≡ true = subst (λ (x : Log). is_open x.facts id ≡ true) (sym shows) still in
    row_room k (Landed (request_of (log_of k).facts id) how started (got_without_bytes (request_of (log_of k).facts id) how)) sound (follows_landed k.run (log_of k).facts id how started sound.its_own.ordered here) (omega (arith, fits))

pub length_rows : (k : Holdings) (log : Log) → IsSound k → log_of k ≡ log → length k.rows ≡ length log.facts
length_rows k log sound shows = ap length sound.its_own.its_rows ∙ length-map (log_of k).facts row_of ∙ ap (λ (x : Log). length x.facts) shows

pub rows_few : (k : Holdings) → IsSound k → length k.rows < 2 ^ 32
rows_few k sound =
    let all = counted k.run (log_of k).facts sound.its_own.ordered in
    let total = all.total in
    let rows : length k.rows ≡ length (log_of k).facts = ap length sound.its_own.its_rows ∙ length-map (log_of k).facts row_of in
    let is = sound.roomy.counted in let fits = sound.roomy.fits in let few = sound.few in
    omega (arith, total, rows, is, fits, few)

-- a row that is neither about a beginning nor a Got is added
quiet_enters : (k new : Holdings) (f : Fact) → IsSound k → Follows k.run (log_of k).facts f → IsQuiet f → new.rows ≡ k.rows ++ row_of f ∷ []
    → new ≡ record k { rows = new.rows; rows_room = new.rows_room; need_now = new.need_now; uncut = new.uncut } → k.rows_room ≤ new.rows_room
    → new.need_now ≡ k.need_now + need f → new.uncut ≡ is_uncut_after k.uncut f → new.need_now + if_uncut new.uncut ≤ k.room → Enters k new f
quiet_enters k new f sound follows quiet rows rest more needs uncut fits =
    let room_is : new.room ≡ k.room = ap (λ (x : Holdings). x.room) rest in
    enters k new f sound follows
    (ap (λ (x : Holdings). x.run) rest) room_is (ap (λ (x : Holdings). x.bytes) rest) rows
    (ap (λ (x : Holdings). x.asks) rest ∙ asks_same k f sound quiet.begins)
    (ap (λ (x : Holdings). x.blocks) rest ∙ blocks_same k f sound quiet)
    needs uncut
    (subst (λ (n : ℕ). new.need_now + if_uncut new.uncut ≤ n) (sym room_is) fits)
    (subst (λ (x : Holdings). 512 * length x.blocks ≤ x.bytes) (sym rest) sound.bytes_fit)
    more
    (let e : new.asks_room ≡ k.asks_room = ap (λ (x : Holdings). x.asks_room) rest in omega (arith, e))
    (let e : new.blocks_room ≡ k.blocks_room = ap (λ (x : Holdings). x.blocks_room) rest in omega (arith, e))

pub taken_adds : (k new : Holdings) (log : Log) (client id : ℕ) → IsSound k → log_of k ≡ log → is_answered log.facts client id ≡ true → AddsRow k new (row.Taken client id) → Adds log new (Taken (request_of log.facts id))
taken_adds k new log client id sound shows answered adds =
    subst (λ (x : Log). is_answered x.facts client id ≡ true → Adds x new (Taken (request_of x.facts id))) shows
    (λ now. adds_of k new (log_of k) _ refl (by_row now)) answered
  where
    by_row : is_answered (log_of k).facts client id ≡ true → Enters k new (Taken (request_of (log_of k).facts id))
    by_row now =
        let its = follows_taken (log_of k).facts k.run client id now in
        let r : Request = request_of (log_of k).facts id in
        let need_is : new.need_now ≡ k.need_now = ap (λ (x : Holdings). x.need_now) adds.rest in
        let uncut_is : new.uncut ≡ k.uncut = ap (λ (x : Holdings). x.uncut) adds.rest in
        let fits = sound.roomy.fits in
        quiet_enters k new (Taken r) sound its.0 (record { begins = refl; gets = λ n. refl })
        (adds.its_rows ∙ ap (λ (n : ℕ). k.rows ++ row.Taken n id ∷ []) (sym its.1) ∙ ap (λ (n : ℕ). k.rows ++ row.Taken r.client n ∷ []) (sym its.2))
        (adds.rest ∙ ap (λ (n : ℕ). record k { rows = new.rows; rows_room = new.rows_room; need_now = n }) (sym need_is) ∙ ap (λ (b : Bool). record k { rows = new.rows; rows_room = new.rows_room; need_now = new.need_now; uncut = b }) (sym uncut_is))
        adds.more
        (need_is ∙ (let e : k.need_now ≡ k.need_now + 0 = omega arith in e)) uncut_is
        (subst (λ (b : Bool). new.need_now + if_uncut b ≤ k.room) (sym uncut_is) (omega (arith, need_is, fits)))

pub taken_room : (k : Holdings) (log : Log) (client id : ℕ) → IsSound k → log_of k ≡ log → is_answered log.facts client id ≡ true → length k.rows < k.rows_room
taken_room k log client id sound shows answered =
    let fits = sound.roomy.fits in
    let its = follows_taken (log_of k).facts k.run client id (subst (λ (x : Log). is_answered x.facts client id ≡ true) (sym shows) answered) in
    row_room k (Taken (request_of (log_of k).facts id)) sound its.0 (omega (arith, fits))

-- an entry that is pushed, and a Cut
plain_follows : (e : Entry) (run : ℕ) (past : List Fact) → Follows run past (plain_fact e)
plain_follows (entry.Making lv blocks mode) run past = tt
plain_follows _ run past = tt

plain_quiet : (e : Entry) → IsQuiet (plain_fact e)
plain_quiet (entry.Making lv blocks mode) = record { begins = refl; gets = λ n. refl }
plain_quiet _ = record { begins = refl; gets = λ n. refl }

plain_need : (e : Entry) → need (plain_fact e) ≡ 1
plain_need (entry.Making lv blocks mode) = refl
plain_need _ = refl

if_uncut_le : (b : Bool) → if_uncut b ≤ 1
if_uncut_le true = omega arith
if_uncut_le false = omega arith

pub record PushesRow (k new : Holdings) (r : Row) : Type 0 where
  pub its_rows : new.rows ≡ k.rows ++ r ∷ []
  pub rest : new ≡ record k { rows = new.rows; rows_room = new.rows_room; need_now = k.need_now + 1; uncut = new.uncut }
  pub more : k.rows_room ≤ new.rows_room

pub pushed_adds : (k new : Holdings) (log : Log) (e : Entry) → IsSound k → log_of k ≡ log → 1 ≤ spare_entries log → PushesRow k new (row_of (plain_fact e)) → new.uncut ≡ is_uncut_after k.uncut (plain_fact e) → Adds log new (plain_fact e)
pushed_adds k new log e sound shows spare pushes uncut =
    let is = sound.roomy.counted in
    let here : 1 ≤ spare_entries (log_of k) = subst (λ (x : Log). 1 ≤ spare_entries x) (sym shows) spare in
    let need_is : new.need_now ≡ k.need_now + 1 = ap (λ (x : Holdings). x.need_now) pushes.rest in
    let last = if_uncut_le new.uncut in
    adds_of k new log (plain_fact e) shows
    (quiet_enters k new (plain_fact e) sound (plain_follows e k.run (log_of k).facts) (plain_quiet e) pushes.its_rows
    (pushes.rest ∙ ap (λ (n : ℕ). record k { rows = new.rows; rows_room = new.rows_room; need_now = n; uncut = new.uncut }) (sym need_is))
    pushes.more (need_is ∙ ap (λ (n : ℕ). k.need_now + n) (sym (plain_need e))) uncut (omega (arith, need_is, here, is, last)))

pub pushed_room : (k : Holdings) (log : Log) (e : Entry) → IsSound k → log_of k ≡ log → 1 ≤ spare_entries log → length k.rows < k.rows_room
pushed_room k log e sound shows spare =
    let is = sound.roomy.counted in
    let here : 1 ≤ spare_entries (log_of k) = subst (λ (x : Log). 1 ≤ spare_entries x) (sym shows) spare in
    row_room k (plain_fact e) sound (plain_follows e k.run (log_of k).facts) (let one = plain_need e in omega (arith, here, is, one))

pub needed_few : (k : Holdings) (log : Log) → IsSound k → log_of k ≡ log → 1 ≤ spare_entries log → k.need_now + 1 < 2 ^ 32
needed_few k log sound shows spare =
    let is = sound.roomy.counted in let few = sound.few in
    let here : 1 ≤ spare_entries (log_of k) = subst (λ (x : Log). 1 ≤ spare_entries x) (sym shows) spare in
    omega (arith, here, is, few)

pub cut_adds : (k new : Holdings) (log : Log) → IsSound k → log_of k ≡ log → k.uncut ≡ true → PushesRow k new row.Cut → new.uncut ≡ false → IsSound new × (log_of new ≡ cut_log log)
cut_adds k new log sound shows opened pushes uncut =
    let need_is : new.need_now ≡ k.need_now + 1 = ap (λ (x : Holdings). x.need_now) pushes.rest in
    let fits : k.need_now + 1 ≤ k.room = subst (λ (b : Bool). k.need_now + if_uncut b ≤ k.room) opened sound.roomy.fits in
    let all = adds_of k new log Cut shows
    (quiet_enters k new Cut sound tt (record { begins = refl; gets = λ n. refl }) pushes.its_rows
    (pushes.rest ∙ ap (λ (n : ℕ). record k { rows = new.rows; rows_room = new.rows_room; need_now = n; uncut = new.uncut }) (sym need_is))
    pushes.more need_is uncut (subst (λ (b : Bool). new.need_now + if_uncut b ≤ k.room) (sym uncut) (omega (arith, need_is, fits)))) in
    let was : is_uncut log.facts ≡ true = ap (λ (x : Log). is_uncut x.facts) (sym shows) ∙ sym sound.roomy.cuts ∙ opened in
    (all.sound, all.shown ∙ sym (ap (λ (b : Bool). cond b (record log { facts = log.facts ++ Cut ∷ [] }) log) was))

pub cut_same : (k : Holdings) (log : Log) → IsSound k → log_of k ≡ log → k.uncut ≡ false → log ≡ cut_log log
cut_same k log sound shows closed =
    let was : is_uncut log.facts ≡ false = ap (λ (x : Log). is_uncut x.facts) (sym shows) ∙ sym sound.roomy.cuts ∙ closed in
    sym (ap (λ (b : Bool). cond b (record log { facts = log.facts ++ Cut ∷ [] }) log) was)

pub cut_room : (k : Holdings) → IsSound k → k.uncut ≡ true → (length k.rows < k.rows_room) × (k.need_now + 1 < 2 ^ 32)
cut_room k sound opened =
    let fits : k.need_now + 1 ≤ k.room = subst (λ (b : Bool). k.need_now + if_uncut b ≤ k.room) opened sound.roomy.fits in
    let few = sound.few in
    (row_room k Cut sound tt (omega (arith, fits)), omega (arith, fits, few))

-- a beginning

length-first_chunks : (n k : ℕ) (xs : List ℕ) → length (first_chunks n k xs) ≡ k
length-first_chunks n zero xs = refl
length-first_chunks n (suc k) xs = ap suc (length-first_chunks n k (drop n xs))

pub next_is : (k : Holdings) → IsSound k → next_id (log_of k) ≡ length (begun (log_of k).facts) + 1
next_is k sound =
    let q = numbered k.run (log_of k).facts sound.its_own.ordered in
    ap (λ (n : ℕ). n + 1) (count_begun k.run (log_of k).facts q.runs)

length_asks : (k : Holdings) → IsSound k → length k.asks ≡ length (begun (log_of k).facts)
length_asks k sound = ap length sound.its_own.its_asks ∙ length-asks 0 (begun (log_of k).facts)

length_blocks : (k : Holdings) → IsSound k → length k.blocks ≡ counts (begun (log_of k).facts)
length_blocks k sound =
    let q = numbered k.run (log_of k).facts sound.its_own.ordered in
    ap length sound.its_own.its_blocks ∙ length-flat (held (log_of k).facts) (begun (log_of k).facts) (length-held k.run (log_of k).facts q)

module _ (k : Holdings) (sound : IsSound k) (client : ℕ) (vol : Vol) (at count : ℕ) (given : Option (List ℕ)) where
  the_next : Request
  the_next = next_request (log_of k) client vol at count given

  follows_begun : at + count < 2 ^ 64 → Follows k.run (log_of k).facts (Begun (next_request (log_of k) client vol at count given))
  follows_begun last = (refl, next_is k sound, (whole given, last))
    where
      whole : (o : Option (List ℕ)) → MatchBool (is_some o) (length (blocks_given count o) ≡ count) (blocks_given count o ≡ [])
      whole None = refl
      whole (Some bytes) = length-first_chunks 512 count bytes

  first_blocks : blocks_begun_with (next_request (log_of k) client vol at count given) ≡ blocks_first count given
  first_blocks = by_given given
    where
      by_given : (o : Option (List ℕ)) → cond (is_some o) (blocks_given count o) (replicate count zero_sector) ≡ blocks_first count o
      by_given None = refl
      by_given (Some bytes) = refl

pub length_first : (count : ℕ) (given : Option (List ℕ)) → length (blocks_first count given) ≡ count
length_first count None = length-replicate count zero_sector
length_first count (Some bytes) = length-first_chunks 512 count bytes

-- a row, a request and its blocks are added where there is room for them
pub record BeginsRow (k new : Holdings) (a : Ask) (first : List (List ℕ)) : Type 0 where
  pub its_rows : new.rows ≡ k.rows ++ row.Begun (length k.asks + 1) ∷ []
  pub its_asks : new.asks ≡ k.asks ++ a ∷ []
  pub its_blocks : new.blocks ≡ k.blocks ++ first
  pub rest : new ≡ record k { rows = new.rows; asks = new.asks; blocks = new.blocks; rows_room = new.rows_room; asks_room = new.asks_room; blocks_room = new.blocks_room; need_now = k.need_now + 3; uncut = true }
  pub more_rows : k.rows_room ≤ new.rows_room
  pub more_asks : k.asks_room ≤ new.asks_room
  pub more_blocks : k.blocks_room ≤ new.blocks_room

begun_enters : (k new : Holdings) (client : ℕ) (vol : Vol) (at count : ℕ) (given : Option (List ℕ)) → IsSound k → 3 ≤ spare_entries (log_of k) → 512 * count ≤ spare_bytes (log_of k) → 1 ≤ count → at + count < 2 ^ 64
    → BeginsRow k new (record { client = client; vol = vol; at = at; count = count; write = is_some given; place = length k.blocks }) (blocks_first count given)
    → Enters k new (Begun (next_request (log_of k) client vol at count given))
begun_enters k new client vol at count given sound spare bytes some last begins =
    let facts : List Fact = (log_of k).facts in
    let r : Request = next_request (log_of k) client vol at count given in
    let q = numbered k.run facts sound.its_own.ordered in
    let follows = follows_begun k sound client vol at count given last in
    let is = sound.roomy.counted in
    let room_is : new.room ≡ k.room = ap (λ (x : Holdings). x.room) begins.rest in
    let bytes_is : new.bytes ≡ k.bytes = ap (λ (x : Holdings). x.bytes) begins.rest in
    let need_is : new.need_now ≡ k.need_now + 3 = ap (λ (x : Holdings). x.need_now) begins.rest in
    let uncut_is : new.uncut ≡ true = ap (λ (x : Holdings). x.uncut) begins.rest in
    let place : length k.blocks ≡ 0 + counts (begun facts) = length_blocks k sound ∙ sym (zero-add (counts (begun facts))) in
    let size : length new.blocks ≡ length k.blocks + count = ap length begins.its_blocks ∙ length-append k.blocks (blocks_first count given) ∙ ap (λ (n : ℕ). length k.blocks + n) (length_first count given) in
    let begun_size = length_blocks k sound in
    enters k new (Begun r) sound follows
    (ap (λ (x : Holdings). x.run) begins.rest) room_is bytes_is
    (begins.its_rows ∙ ap (λ (n : ℕ). k.rows ++ row.Begun (n + 1) ∷ []) (length_asks k sound) ∙ ap (λ (n : ℕ). k.rows ++ row.Begun n ∷ []) (sym (next_is k sound)))
    (begins.its_asks ∙ ap (λ (l : List Ask). l ++ record { client = client; vol = vol; at = at; count = count; write = is_some given; place = length k.blocks } ∷ []) sound.its_own.its_asks
    ∙ ap (λ (n : ℕ). asks_from 0 (begun facts) ++ record { client = client; vol = vol; at = at; count = count; write = is_some given; place = n } ∷ []) place
    ∙ sym (asks-push 0 (begun facts) r) ∙ ap (λ (rs : List Request). asks_from 0 rs) (sym (begun-push facts (Begun r))))
    (begins.its_blocks ∙ ap (λ (l : List (List ℕ)). l ++ blocks_first count given) sound.its_own.its_blocks
    ∙ ap (λ (l : List (List ℕ)). blocks_of facts ++ l) (sym (first_blocks k sound client vol at count given))
    ∙ sym (blocks-begun k.run facts r q follows))
    need_is uncut_is
    (subst (λ (b : Bool). new.need_now + if_uncut b ≤ new.room) (sym uncut_is) (omega (arith, need_is, room_is, spare, is)))
    (omega (arith, size, bytes_is, bytes, begun_size, some))
    begins.more_rows begins.more_asks begins.more_blocks

pub begun_adds : (k new : Holdings) (log : Log) (client : ℕ) (vol : Vol) (at count : ℕ) (given : Option (List ℕ)) → IsSound k → log_of k ≡ log → 3 ≤ spare_entries log → 512 * count ≤ spare_bytes log → 1 ≤ count → at + count < 2 ^ 64
    → BeginsRow k new (record { client = client; vol = vol; at = at; count = count; write = is_some given; place = length k.blocks }) (blocks_first count given)
    → Adds log new (Begun (next_request log client vol at count given))
begun_adds k new log client vol at count given sound shows spare bytes some last begins =
    subst (λ (x : Log). 3 ≤ spare_entries x → 512 * count ≤ spare_bytes x → Adds x new (Begun (next_request x client vol at count given))) shows
    (λ s b. adds_of k new (log_of k) _ refl (begun_enters k new client vol at count given sound s b some last begins)) spare bytes

-- there is room for a request that fits
pub record HasRoomToBegin (k : Holdings) (count : ℕ) : Type 0 where
  pub for_row : length k.rows < k.rows_room
  pub for_ask : length k.asks < k.asks_room
  pub for_blocks : length k.blocks + count ≤ k.blocks_room
  pub small : k.need_now + 3 < 2 ^ 32

pub room_to_begin : (k : Holdings) (log : Log) (count : ℕ) → IsSound k → log_of k ≡ log → 3 ≤ spare_entries log → 512 * count ≤ spare_bytes log → 1 ≤ count → HasRoomToBegin k count
room_to_begin k log count sound shows spare bytes some =
    let is = sound.roomy.counted in let few = sound.few in
    let here : 3 ≤ spare_entries (log_of k) = subst (λ (x : Log). 3 ≤ spare_entries x) (sym shows) spare in
    let there : 512 * count ≤ spare_bytes (log_of k) = subst (λ (x : Log). 512 * count ≤ spare_bytes x) (sym shows) bytes in
    let three = three_needed (log_of k).facts in
    let asks = length_asks k sound in let blocks = length_blocks k sound in
    let asks_fit = sound.asks_fit in let blocks_fit = sound.blocks_fit in
    record {
      for_row = row_room k (Begun (next_request (log_of k) 0 (Disk 0) 0 0 None)) sound (follows_begun k sound 0 (Disk 0) 0 0 None (omega arith)) (omega (arith, here, is));
      for_ask = omega (arith, here, is, three, asks, asks_fit);
      for_blocks = omega (arith, there, blocks, blocks_fit, some);
      small = omega (arith, here, is, few);
    }

-- the request that began is open, by its number
pub begun_found : (k new : Holdings) (log : Log) (client : ℕ) (vol : Vol) (at count : ℕ) (given : Option (List ℕ)) → IsSound k → log_of k ≡ log → at + count < 2 ^ 64
    → Adds log new (Begun (next_request log client vol at count given))
    → (is_open (log_of new).facts (next_id log) ≡ true) × (asked (log_of new).facts (next_id log) ≡ Some (next_request log client vol at count given))
begun_found k new log client vol at count given sound shows last adds =
    subst (λ (x : Log). Adds x new (Begun (next_request x client vol at count given)) → (is_open (log_of new).facts (next_id x) ≡ true) × (asked (log_of new).facts (next_id x) ≡ Some (next_request x client vol at count given))) shows
    by_kept adds
  where
    by_kept : Adds (log_of k) new (Begun (next_request (log_of k) client vol at count given)) → (is_open (log_of new).facts (next_id (log_of k)) ≡ true) × (asked (log_of new).facts (next_id (log_of k)) ≡ Some (next_request (log_of k) client vol at count given))
    by_kept adds =
        let facts : List Fact = (log_of k).facts in
        let r : Request = next_request (log_of k) client vol at count given in
        let q = numbered k.run facts sound.its_own.ordered in
        let follows = follows_begun k sound client vol at count given last in
        let all = numbered k.run (facts ++ Begun r ∷ []) (ordered-push k.run [] facts (Begun r) sound.its_own.ordered follows) in
        let next = next_is k sound in
        let found : asked (facts ++ Begun r ∷ []) (next_id (log_of k)) ≡ Some r = find_at 1 (begun (facts ++ Begun r ∷ [])) r all.ids (stands_begun (facts ++ Begun r ∷ []) r (stands_last facts (Begun r))) in
        let none : list_any (lands_id (next_id (log_of k))) (facts ++ Begun r ∷ []) ≡ false = landing_same k.run facts (Begun r) (next_id (log_of k)) refl ∙ unlanded_id k.run facts (next_id (log_of k)) q (omega (arith, next)) in
        let is : (log_of new).facts ≡ facts ++ Begun r ∷ [] = ap (λ (x : Log). x.facts) adds.shown in (
          ap (λ (l : List Fact). is_open l (next_id (log_of k))) is ∙ ap (λ (o : Option Request). is_some o && not (list_any (lands_id (next_id (log_of k))) (facts ++ Begun r ∷ []))) found ∙ ap not none,
          ap (λ (l : List Fact). asked l (next_id (log_of k))) is ∙ found,
        )

-- the next number is one more than the requests kept
pub next_number : (k : Holdings) (log : Log) → IsSound k → log_of k ≡ log → next_id log ≡ length k.asks + 1
next_number k log sound shows = ap next_id (sym shows) ∙ next_is k sound ∙ ap (λ (n : ℕ). n + 1) (sym (length_asks k sound))

-- a read that lands with its bytes

pub record IsAwaited (facts : List Fact) (id : ℕ) : Type 0 where
  pub still : is_open facts id ≡ true
  pub is_read : (request_of facts id).write ≡ false
  pub size : awaited facts id ≡ Some (request_of facts id).count

pub awaited_of : (facts : List Fact) (id : ℕ) → IsSome (awaited facts id) → IsAwaited facts id
awaited_of facts id some = by_tests (is_open facts id) (request_of facts id).write refl refl
  where
    by_tests : (a b : Bool) → is_open facts id ≡ a → (request_of facts id).write ≡ b → IsAwaited facts id
    by_tests true false still is_read = record {
      still = still;
      is_read = is_read;
      size = ap (λ (t : Bool). cond (t && not (request_of facts id).write) (Some (request_of facts id).count) None) still ∙ ap (λ (t : Bool). cond (not t) (Some (request_of facts id).count) None) is_read;
    }
    by_tests true true still is_write =
        let e : awaited facts id ≡ None = ap (λ (t : Bool). cond (t && not (request_of facts id).write) (Some (request_of facts id).count) None) still ∙ ap (λ (t : Bool). cond (not t) (Some (request_of facts id).count) None) is_write in
        let none : ◌≡◌ {A = Bool} false true = subst (λ (o : Option ℕ). IsSome o) e some in
        absurd (cc)
    by_tests false b closed kind =
        let e : awaited facts id ≡ None = ap (λ (t : Bool). cond (t && not (request_of facts id).write) (Some (request_of facts id).count) None) closed in
        let none : ◌≡◌ {A = Bool} false true = subst (λ (o : Option ℕ). IsSome o) e some in
        absurd (cc)

-- what is kept of a request that is open
pub record IsKeptAsk (k : Holdings) (facts : List Fact) (id : ℕ) : Type 0 where
  pub low : 1 ≤ id
  pub high : id - 1 < length k.asks
  pub its_ask : ask_of k.asks id ≡ ask_at (ask_of k.asks id).place (request_of facts id)
  pub its_place : (ask_of k.asks id).place ≡ place_of k.run facts (request_of facts id)
  pub within : (ask_of k.asks id).place + (request_of facts id).count ≤ length k.blocks

pub kept_ask : (k : Holdings) (id : ℕ) → IsSound k → is_some (asked (log_of k).facts id) ≡ true → IsKeptAsk k (log_of k).facts id
kept_ask k id sound some =
    let facts : List Fact = (log_of k).facts in
    let r : Request = request_of facts id in
    let q = numbered k.run facts sound.its_own.ordered in
    let its = found_of facts id some in
    let there = stands_begun facts r its.began in
    let at = stands-at 1 (begun facts) r q.ids there in
    let low = at.low in let high = at.high in let own = its.own in
    let asks = length_asks k sound in
    let back : ask_of k.asks id ≡ ask_at (place_of k.run facts r) r =
    ap (λ (l : List Ask). ask_of l id) sound.its_own.its_asks ∙ ap (λ (n : ℕ). ask_of (asks_from 0 (begun facts)) n) (sym own) ∙ ask-back k.run facts r q there in
    let place : (ask_of k.asks id).place ≡ place_of k.run facts r = ap (λ (a : Ask). a.place) back in
    let part = sum_by_more_le (λ (s : Request). s.count) (begun facts) (r.id - 1) r (omega arith) in
    let here : ◌≡◌ {A = ℕ} (get_or (begun facts) (r.id - 1) r).count r.count = ap (λ (s : Request). s.count) (at.here r) in
    let size = length_blocks k sound in
    record {
      low = omega (arith, low, own);
      high = omega (arith, low, high, own, asks);
      its_ask = back ∙ ap (λ (n : ℕ). ask_at n r) (sym place);
      its_place = place;
      within = omega (arith, place, part, here, size);
    }

pub record ReadsRow (k new : Holdings) (id : ℕ) (got : List (List ℕ)) : Type 0 where
  pub its_rows : new.rows ≡ k.rows ++ row.Landed id outcome.Got true ∷ []
  pub its_blocks : new.blocks ≡ take (ask_of k.asks id).place k.blocks ++ got ++ drop ((ask_of k.asks id).place + length got) k.blocks
  pub rest : new ≡ record k { rows = new.rows; blocks = new.blocks; rows_room = new.rows_room; blocks_room = new.blocks_room }
  pub more_rows : k.rows_room ≤ new.rows_room
  pub more_blocks : k.blocks_room ≤ new.blocks_room

read_enters : (k new : Holdings) (id : ℕ) (got : List (List ℕ)) → IsSound k → IsSome (awaited (log_of k).facts id) → length got ≡ (request_of (log_of k).facts id).count → ReadsRow k new id got
    → Enters k new (Landed (request_of (log_of k).facts id) outcome.Got true got)
read_enters k new id got sound some size reads =
    let facts : List Fact = (log_of k).facts in
    let r : Request = request_of facts id in
    let f : Fact = Landed r outcome.Got true got in
    let q = numbered k.run facts sound.its_own.ordered in
    let waits = awaited_of facts id some in
    let its = open_of facts id waits.still in
    let unlanded : list_any (lands_id r.id) facts ≡ false = ap (λ (n : ℕ). list_any (lands_id n) facts) its.its.own ∙ its.unlanded in
    let kept = kept_ask k id sound (and_left (is_some (asked facts id)) (not (list_any (lands_id id) facts)) waits.still) in
    let need_is : new.need_now ≡ k.need_now = ap (λ (x : Holdings). x.need_now) reads.rest in
    let uncut_is : new.uncut ≡ k.uncut = ap (λ (x : Holdings). x.uncut) reads.rest in
    let room_is : new.room ≡ k.room = ap (λ (x : Holdings). x.room) reads.rest in
    let bytes_is : new.bytes ≡ k.bytes = ap (λ (x : Holdings). x.bytes) reads.rest in
    let fits = sound.roomy.fits in
    let within = kept.within in
    let bytes_fit = sound.bytes_fit in
    let p : ℕ = (ask_of k.asks id).place in
    let new_size : length new.blocks ≡ length k.blocks =
    ap length reads.its_blocks ∙ length-append (take (ask_of k.asks id).place k.blocks ++ got) (drop ((ask_of k.asks id).place + length got) k.blocks)
    ∙ (let a = length-append (take (ask_of k.asks id).place k.blocks) got in let b = length-take (ask_of k.asks id).place k.blocks in let d = length-drop ((ask_of k.asks id).place + length got) k.blocks in omega (arith, a, b, d, within, size)) in
    enters k new f sound
    (its.its.began, unlanded, (size, λ w. absurd (let e : ◌≡◌ {A = Bool} true false = sym w ∙ waits.is_read in cc)))
    (ap (λ (x : Holdings). x.run) reads.rest) room_is bytes_is
    (reads.its_rows ∙ ap (λ (n : ℕ). k.rows ++ row.Landed n outcome.Got true ∷ []) (sym its.its.own))
    (ap (λ (x : Holdings). x.asks) reads.rest ∙ asks_same k f sound refl)
    (reads.its_blocks
    ∙ ap (λ (n : ℕ). take n k.blocks ++ got ++ drop (n + length got) k.blocks) kept.its_place
    ∙ ap (λ (n : ℕ). take (place_of k.run facts r) k.blocks ++ got ++ drop (place_of k.run facts r + n) k.blocks) size
    ∙ ap (λ (l : List (List ℕ)). take (place_of k.run facts r) l ++ got ++ drop (place_of k.run facts r + r.count) l) sound.its_own.its_blocks
    ∙ sym (blocks-read k.run facts r outcome.Got true got q its.its.began unlanded refl waits.is_read))
    (need_is ∙ (let e : k.need_now ≡ k.need_now + 0 = omega arith in e))
    uncut_is
    (subst (λ (b : Bool). new.need_now + if_uncut b ≤ new.room) (sym uncut_is) (omega (arith, need_is, room_is, fits)))
    (omega (arith, new_size, bytes_is, bytes_fit))
    reads.more_rows
    (let e : new.asks_room ≡ k.asks_room = ap (λ (x : Holdings). x.asks_room) reads.rest in omega (arith, e))
    reads.more_blocks

pub read_adds : (k new : Holdings) (log : Log) (id : ℕ) (got : List (List ℕ)) → IsSound k → log_of k ≡ log → IsSome (awaited log.facts id) → length got ≡ (request_of log.facts id).count → ReadsRow k new id got
    → Adds log new (Landed (request_of log.facts id) outcome.Got true got)
read_adds k new log id got sound shows some size reads =
    subst (λ (x : Log). IsSome (awaited x.facts id) → length got ≡ (request_of x.facts id).count → Adds x new (Landed (request_of x.facts id) outcome.Got true got)) shows
    (λ s n. adds_of k new (log_of k) _ refl (read_enters k new id got sound s n reads)) some size

pub log_ask : (k : Holdings) (log : Log) (id : ℕ) → IsSound k → log_of k ≡ log → is_some (asked log.facts id) ≡ true → IsKeptAsk k log.facts id
log_ask k log id sound shows some = subst (λ (x : Log). is_some (asked x.facts id) ≡ true → IsKeptAsk k x.facts id) shows (λ s. kept_ask k id sound s) some

-- what is looked up of a request

pub find-get : (n id : ℕ) (rs : List Request) → IdsFrom n rs → n ≤ id → find (has_id id) rs ≡ slice_get rs (id - n)
find-get n id [] ids above = refl
find-get n id (s ∷ rs) ids above = by_test (λ more. find-get (n + 1) id rs ids.1 more) (s.id == id) refl
  where
    by_test : (n + 1 ≤ id → find (has_id id) rs ≡ slice_get rs (id - (n + 1))) → (t : Bool) → (s.id == id) ≡ t → find (has_id id) (s ∷ rs) ≡ slice_get (s ∷ rs) (id - n)
    by_test rest true same =
        let s_id = ids.0 in let own = eqb-true s.id id same in
        let at : id - n ≡ 0 = omega (arith, s_id, own) in
        ap (λ (t : Bool). cond t (Some s) (find (has_id id) rs)) same ∙ sym (ap (λ (k : ℕ). slice_get (s ∷ rs) k) at)
    by_test rest false differ =
        let s_id = ids.0 in
        let apart : (s.id ≡ id → ⊥) = λ same. absurd (let e : (s.id == id) ≡ true = ap (λ (k : ℕ). k == id) same ∙ (let i : (id == id) ≡ true = grind (arith, nat_tests) in i) in cc) in
        let at : id - n ≡ suc (id - (n + 1)) = omega (arith, s_id, apart) in
        ap (λ (t : Bool). cond t (Some s) (find (has_id id) rs)) differ ∙ rest (omega (arith, s_id, apart)) ∙ sym (ap (λ (k : ℕ). slice_get (s ∷ rs) k) at)

asks-slice_get : (p : ℕ) (rs : List Request) (k : ℕ) → slice_get (asks_from p rs) k ≡ option_map (λ r. ask_at (p + counts (take k rs)) r) (slice_get rs k)
asks-slice_get p [] k = refl
asks-slice_get p (r ∷ rs) zero = ap (λ (n : ℕ). Some (ask_at n r)) (omega arith)
asks-slice_get p (r ∷ rs) (suc k) =
    let more = sum_by-cons (λ (s : Request). s.count) r (take k rs) in
    asks-slice_get (p + r.count) rs k ∙ ap (λ (n : ℕ). option_map (λ r. ask_at n r) (slice_get rs k)) (omega (arith, more))

-- where the blocks of the request of this number begin
the_place : List Fact → ℕ → ℕ
the_place facts id = counts (take (id - 1) (begun facts))

ask_found-asked : (k : Holdings) (id : ℕ) → IsSound k → (p : ℕ) × (ask_found k.asks id ≡ option_map (λ r. ask_at p r) (asked (log_of k).facts id))
ask_found-asked k id sound = (0 + counts (take (id - 1) (begun (log_of k).facts)), by_test (id == 0) refl)
  where
    by_test : (t : Bool) → (id == 0) ≡ t → ask_found k.asks id ≡ option_map (λ r. ask_at (0 + counts (take (id - 1) (begun (log_of k).facts))) r) (asked (log_of k).facts id)
    by_test true is =
        let q = numbered k.run (log_of k).facts sound.its_own.ordered in
        let own = eqb-true id 0 is in
        ap (λ (t : Bool). cond t None (slice_get k.asks (id - 1))) is
        ∙ sym (ap (λ (o : Option Request). option_map (λ r. ask_at (0 + counts (take (id - 1) (begun (log_of k).facts))) r) o) (find_below 1 (begun (log_of k).facts) id q.ids (omega (arith, own))))
    by_test false is =
        let q = numbered k.run (log_of k).facts sound.its_own.ordered in
        let above : 1 ≤ id = grind (arith, nat_tests, is) in
        ap (λ (t : Bool). cond t None (slice_get k.asks (id - 1))) is
        ∙ ap (λ (l : List Ask). slice_get l (id - 1)) sound.its_own.its_asks
        ∙ asks-slice_get 0 (begun (log_of k).facts) (id - 1)
        ∙ sym (ap (λ (o : Option Request). option_map (λ r. ask_at (0 + counts (take (id - 1) (begun (log_of k).facts))) r) o) (find-get 1 id (begun (log_of k).facts) q.ids above))

rows_any : (p : Row → Bool) (q : Fact → Bool) → ((g : Fact) → p (row_of g) ≡ q g) → (facts : List Fact) → list_any p (map row_of facts) ≡ list_any q facts
rows_any p q one [] = refl
rows_any p q one (f ∷ facts) = ap (λ (t : Bool). t || list_any p (map row_of facts)) (one f) ∙ ap (λ (t : Bool). q f || t) (rows_any p q one facts)

row_landing : (id : ℕ) (facts : List Fact) → list_any (is_landing id) (map row_of facts) ≡ list_any (lands_id id) facts
row_landing id = rows_any (is_landing id) (lands_id id) one
  where
    one : (g : Fact) → is_landing id (row_of g) ≡ lands_id id g
    one (Landed r how started got) = refl
    one _ = refl

row_taking : (id : ℕ) (facts : List Fact) → list_any (is_taking id) (map row_of facts) ≡ list_any (takes_id id) facts
row_taking id = rows_any (is_taking id) (takes_id id) one
  where
    one : (g : Fact) → is_taking id (row_of g) ≡ takes_id id g
    one (Taken r) = refl
    one _ = refl

pub landing_kept : (k : Holdings) (log : Log) (id : ℕ) → IsSound k → log_of k ≡ log → list_any (is_landing id) k.rows ≡ list_any (lands_id id) log.facts
landing_kept k log id sound shows = ap (λ (l : List Row). list_any (is_landing id) l) sound.its_own.its_rows ∙ row_landing id (log_of k).facts ∙ ap (λ (x : Log). list_any (lands_id id) x.facts) shows

pub taking_kept : (k : Holdings) (log : Log) (id : ℕ) → IsSound k → log_of k ≡ log → list_any (is_taking id) k.rows ≡ list_any (takes_id id) log.facts
taking_kept k log id sound shows = ap (λ (l : List Row). list_any (is_taking id) l) sound.its_own.its_rows ∙ row_taking id (log_of k).facts ∙ ap (λ (x : Log). list_any (takes_id id) x.facts) shows

ask_of_log : (k : Holdings) (log : Log) (id : ℕ) → IsSound k → log_of k ≡ log → (p : ℕ) × (ask_found k.asks id ≡ option_map (λ r. ask_at p r) (asked log.facts id))
ask_of_log k log id sound shows = let its = ask_found-asked k id sound in (its.0, its.1 ∙ ap (λ (x : Log). option_map (λ r. ask_at its.0 r) (asked x.facts id)) shows)

-- what is told of a request by how it was asked, and by whether it has landed
by_ask : {X : Type 0} (f : Option Ask → Bool → X) (k : Holdings) (log : Log) (id : ℕ) → IsSound k → log_of k ≡ log
    → (p : ℕ) × (f (ask_found k.asks id) (list_any (is_landing id) k.rows) ≡ f (option_map (λ r. ask_at p r) (asked log.facts id)) (list_any (lands_id id) log.facts))
by_ask f k log id sound shows =
    let its = ask_of_log k log id sound shows in
    (its.0, ap (λ (t : Bool). f (ask_found k.asks id) t) (landing_kept k log id sound shows) ∙ ap (λ (o : Option Ask). f o (list_any (lands_id id) log.facts)) its.1)

pub is_open_kept : (k : Holdings) (log : Log) (id : ℕ) → IsSound k → log_of k ≡ log → is_open_by (ask_found k.asks id) (list_any (is_landing id) k.rows) ≡ is_open log.facts id
is_open_kept k log id sound shows = let at = by_ask is_open_by k log id sound shows in at.1 ∙ by_option at.0 (asked log.facts id)
  where
    by_option : (p : ℕ) (o : Option Request) → is_open_by (option_map (λ r. ask_at p r) o) (list_any (lands_id id) log.facts) ≡ (is_some o && not (list_any (lands_id id) log.facts))
    by_option p None = refl
    by_option p (Some r) = refl

pub awaited_kept : (k : Holdings) (log : Log) (id : ℕ) → IsSound k → log_of k ≡ log → awaited_by (ask_found k.asks id) (list_any (is_landing id) k.rows) ≡ awaited log.facts id
awaited_kept k log id sound shows = let at = by_ask awaited_by k log id sound shows in at.1 ∙ by_option at.0 (asked log.facts id)
  where
    by_option : (p : ℕ) (o : Option Request) → awaited_by (option_map (λ r. ask_at p r) o) (list_any (lands_id id) log.facts)
        ≡ cond (is_some o && not (list_any (lands_id id) log.facts) && not (unwrap_or o no_request).write) (Some (unwrap_or o no_request).count) None
    by_option p None = refl
    by_option p (Some r) = refl

-- lists that are read out of a history are those that it holds
pub asked_alike : {X : Type 0} (f : Option Ask → Bool → X) (id : ℕ) {asks asks1 : List Ask} {rows rows1 : List Row} → asks1 ≡ asks → rows1 ≡ rows
    → f (ask_found asks1 id) (list_any (is_landing id) rows1) ≡ f (ask_found asks id) (list_any (is_landing id) rows)
asked_alike f id {asks} {asks1} {rows} {rows1} same alike =
    ap (λ (l : List Ask). f (ask_found l id) (list_any (is_landing id) rows1)) same ∙ ap (λ (l : List Row). f (ask_found asks id) (list_any (is_landing id) l)) alike

pub facts_alike : (run : ℕ) {asks asks1 : List Ask} {blocks blocks1 : List (List ℕ)} {rows rows1 : List Row} → asks1 ≡ asks → blocks1 ≡ blocks → rows1 ≡ rows → facts_of run asks1 blocks1 rows1 ≡ facts_of run asks blocks rows
facts_alike run {asks} {asks1} {blocks} {blocks1} {rows} {rows1} same alike equal =
    ap (λ (l : List Row). facts_of run asks1 blocks1 l) equal ∙ ap (λ (l : List Ask). facts_of run l blocks1 rows) same ∙ ap (λ (l : List (List ℕ)). facts_of run asks l rows) alike

pub is_answered_kept : (k : Holdings) (log : Log) (client id : ℕ) → IsSound k → log_of k ≡ log
    → is_answered_by (ask_found k.asks id) client (list_any (is_landing id) k.rows) (list_any (is_taking id) k.rows) ≡ is_answered log.facts client id
is_answered_kept k log client id sound shows =
    let its = ask_of_log k log id sound shows in
    ap (λ (t : Bool). is_answered_by (ask_found k.asks id) client t (list_any (is_taking id) k.rows)) (landing_kept k log id sound shows)
    ∙ ap (λ (t : Bool). is_answered_by (ask_found k.asks id) client (list_any (lands_id id) log.facts) t) (taking_kept k log id sound shows)
    ∙ ap (λ (o : Option Ask). is_answered_by o client (list_any (lands_id id) log.facts) (list_any (takes_id id) log.facts)) its.1
    ∙ by_option its.0 (asked log.facts id)
  where
    by_option : (p : ℕ) (o : Option Request) → is_answered_by (option_map (λ r. ask_at p r) o) client (list_any (lands_id id) log.facts) (list_any (takes_id id) log.facts)
        ≡ (is_some o && (unwrap_or o no_request).client == client && list_any (lands_id id) log.facts && not (list_any (takes_id id) log.facts))
    by_option p None = refl
    by_option p (Some r) = refl

pub blocks_kept : (k : Holdings) (log : Log) → IsSound k → log_of k ≡ log → k.blocks ≡ blocks_of log.facts
blocks_kept k log sound shows = sound.its_own.its_blocks ∙ ap (λ (x : Log). blocks_of x.facts) shows

pub blocks_count : (k : Holdings) (log : Log) → IsSound k → log_of k ≡ log → length k.blocks ≡ blocks_begun log.facts
blocks_count k log sound shows = length_blocks k sound ∙ ap (λ (x : Log). blocks_begun x.facts) shows

-- the entries as they are listed

entries-kept : (asks : List Ask) (n p : ℕ) (rest : List Fact) → IdsFrom (n + 1) (begun rest)
    → ((j : ℕ) → j < length (begun rest) → get_or asks (n + j) no_ask ≡ get_or (asks_from p (begun rest)) j no_ask)
    → map (entry_kept asks) (map row_of rest) ≡ entries_from p rest
entries-kept asks n p [] ids same = refl
entries-kept asks n p (f ∷ rest) ids same = by_fact f ids same (λ m q more its. entries-kept asks m q rest more its)
  where
    by_fact : (g : Fact) → IdsFrom (n + 1) (begun (g ∷ rest)) → ((j : ℕ) → j < length (begun (g ∷ rest)) → get_or asks (n + j) no_ask ≡ get_or (asks_from p (begun (g ∷ rest))) j no_ask)
        → ((m q : ℕ) → IdsFrom (m + 1) (begun rest) → ((j : ℕ) → j < length (begun rest) → get_or asks (m + j) no_ask ≡ get_or (asks_from q (begun rest)) j no_ask) → map (entry_kept asks) (map row_of rest) ≡ entries_from q rest)
        → map (entry_kept asks) (map row_of (g ∷ rest)) ≡ entries_from p (g ∷ rest)
    by_fact (Begun r) ids same later =
        let own = ids.0 in
        let at : n + 0 ≡ r.id - 1 = omega (arith, own) in
        let its : ask_of asks r.id ≡ ask_at p r = ap (λ (k : ℕ). get_or asks k no_ask) (sym at) ∙ same 0 (omega arith) in
        ap (λ (a : Ask). entry.Begun a.client r.id a.vol a.at a.count a.write a.place ∷ map (entry_kept asks) (map row_of rest)) its
        ∙ ap (λ (l : List Entry). entry.Begun r.client r.id r.vol r.at r.count r.write p ∷ l)
        (later (n + 1) (p + r.count) ids.1 (λ j less. ap (λ (k : ℕ). get_or asks k no_ask) (let e : n + 1 + j ≡ n + suc j = omega arith in e) ∙ same (suc j) (omega (arith, less))))
    by_fact (Landed r how started got) ids same later = ap (λ (l : List Entry). entry.Landed r.id how started ∷ l) (later n p ids same)
    by_fact (Taken r) ids same later = ap (λ (l : List Entry). entry.Taken r.client r.id ∷ l) (later n p ids same)
    by_fact (Making lv blocks m) ids same later = ap (λ (l : List Entry). entry.Making lv blocks m ∷ l) (later n p ids same)
    by_fact (Made lv) ids same later = ap (λ (l : List Entry). entry.Made lv ∷ l) (later n p ids same)
    by_fact (Split from lv) ids same later = ap (λ (l : List Entry). entry.Split from lv ∷ l) (later n p ids same)
    by_fact (Removing vol) ids same later = ap (λ (l : List Entry). entry.Removing vol ∷ l) (later n p ids same)
    by_fact (Removed vol) ids same later = ap (λ (l : List Entry). entry.Removed vol ∷ l) (later n p ids same)
    by_fact Cut ids same later = ap (λ (l : List Entry). entry.Cut ∷ l) (later n p ids same)
    by_fact (On moment) ids same later = ap (λ (l : List Entry). entry.On moment ∷ l) (later n p ids same)

pub entries_kept : (k : Holdings) (log : Log) → IsSound k → log_of k ≡ log → map (entry_kept k.asks) k.rows ≡ entries_of log.facts
entries_kept k log sound shows =
    let facts : List Fact = (log_of k).facts in
    let q = numbered k.run facts sound.its_own.ordered in
    ap (λ (l : List Row). map (entry_kept k.asks) l) sound.its_own.its_rows
    ∙ ap (λ (l : List Ask). map (entry_kept l) (map row_of facts)) sound.its_own.its_asks
    ∙ entries-kept (asks_from 0 (begun facts)) 0 0 facts q.ids (λ j less. ap (λ (n : ℕ). get_or (asks_from 0 (begun facts)) n no_ask) (zero-add j))
    ∙ ap (λ (x : Log). entries_of x.facts) shows

-- each row that begins a request names one that is kept
pub row_names : (k : Holdings) (n : ℕ) (d : Row) → IsSound k → n < length k.rows → IsOneOfAsks (get_or k.rows n d) (length k.asks)
row_names k n d sound less =
    let facts : List Fact = (log_of k).facts in
    let rows : length k.rows ≡ length facts = ap length sound.its_own.its_rows ∙ length-map facts row_of in
    let is : get_or k.rows n d ≡ row_of (get_or facts n Cut) = ap (λ (l : List Row). get_or l n d) sound.its_own.its_rows ∙ get_or-map row_of facts n Cut d (omega (arith, rows, less)) in
    subst (λ (r : Row). IsOneOfAsks r (length k.asks)) (sym is) (by_fact (get_or facts n Cut) (stands_get facts n Cut (omega (arith, rows, less))))
  where
    by_fact : (g : Fact) → IsInList g (log_of k).facts → IsOneOfAsks (row_of g) (length k.asks)
    by_fact (Begun r) there =
        let q = numbered k.run (log_of k).facts sound.its_own.ordered in
        let at = stands-at 1 (begun (log_of k).facts) r q.ids (stands_begun (log_of k).facts r there) in
        let low = at.low in let high = at.high in let asks = length_asks k sound in
        (low, omega (arith, high, asks))
    by_fact (Landed r how started got) there = tt
    by_fact (Taken r) there = tt
    by_fact (Making lv blocks m) there = tt
    by_fact (Made lv) there = tt
    by_fact (Split from lv) there = tt
    by_fact (Removing vol) there = tt
    by_fact (Removed vol) there = tt
    by_fact Cut there = tt
    by_fact (On moment) there = tt

pub open_some : (facts : List Fact) (id : ℕ) → is_open facts id ≡ true → is_some (asked facts id) ≡ true
open_some facts id is = and_left (is_some (asked facts id)) (not (list_any (lands_id id) facts)) is

pub chunks_count : (n count : ℕ) → n ≡ 512 * count → n / 512 ≡ count
chunks_count n count is = omega (arith, is)

pub length-first_chunks_of : (n k : ℕ) (xs : List ℕ) → length (first_chunks n k xs) ≡ k
length-first_chunks_of n k xs = length-first_chunks n k xs

pub needed_counted : (k : Holdings) (log : Log) → IsSound k → log_of k ≡ log → (k.room ≡ log.room) × (k.need_now ≡ length log.facts + 2 * open_count log.facts + landed_count log.facts)
needed_counted k log sound shows =
    let all = counted k.run (log_of k).facts sound.its_own.ordered in
    (ap (λ (x : Log). x.room) shows, sound.roomy.counted ∙ all.total ∙ ap (λ (x : Log). length x.facts + 2 * open_count x.facts + landed_count x.facts) shows)

-- the requests kept have blocks with numbers of 64 bits
asks_bounded : (p : ℕ) (rs : List Request) → ((r : Request) → IsInList r rs → r.at + r.count < 2 ^ 64) → list_all is_bounded (asks_from p rs) ≡ true
asks_bounded p [] each = refl
asks_bounded p (r ∷ rs) each =
    let first = each r (inl refl) in
    let test : nat_lt (r.at + r.count) (2 ^ 64) ≡ true = passes (r.at + r.count) first in
    ap (λ (t : Bool). t && list_all is_bounded (asks_from (p + r.count) rs)) test ∙ asks_bounded (p + r.count) rs (λ s there. each s (inr there))
  where
    passes : (n : ℕ) → n < 2 ^ 64 → nat_lt n (2 ^ 64) ≡ true
    passes n less = grind (arith, nat_tests)

pub all_bounded : (k : Holdings) → IsSound k → list_all is_bounded k.asks ≡ true
all_bounded k sound =
    let q = numbered k.run (log_of k).facts sound.its_own.ordered in
    ap (λ (l : List Ask). list_all is_bounded l) sound.its_own.its_asks ∙ asks_bounded 0 (begun (log_of k).facts) (λ r there. (q.whole r there).1)

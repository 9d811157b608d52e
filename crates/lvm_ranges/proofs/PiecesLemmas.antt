-- The pieces of a range are submitted one after the other.
use Rattle.std.proofs.Common.{◌≡◌, ◌≤◌, ◌<◌, ◌+◌, ◌-◌, ◌*◌, ◌^◌, ◌==◌, ◌&&◌, ◌||◌, ℕ, Bool, true, false, List, [], ◌∷◌, ◌++◌, Option, Some, None, length, refl, sym, ◌∙◌, ap, subst, arith, below_more, if◌then◌else◌}
use Rattle.std.specs.Prelude.{MatchOption, Result, Ok, Err, count_by, nat_le, nat_lt}
use Rattle.std.specs.List.{list_any, AllByRecursion}
use Rattle.std.specs.Option.{option_map_or}
use Rattle.std.proofs.lemmas.Bool.{eq-eqb, eqb-true, leb-true, le-leb, ltb-true}
use Rattle.std.proofs.lemmas.Bool.Decides.{nat_tests}
use Rattle.std.proofs.lemmas.List.{length-append}
use Rattle.std.proofs.lemmas.List.Folds.{list_any-append}
use Rattle.std.proofs.lemmas.List.Sums.{sum_by_push}
use Rattle.lvm_num.specs.declared.descriptor.LvRow.{LvRow}
use Rattle.lvm_num.specs.declared.descriptor.Descriptor.{Descriptor}
use Rattle.lvm_num.specs.Descriptor.{IsValid, volume_of}
use Rattle.lvm_num.specs.Geometry.{volume_blocks}
use Rattle.lvm_num.proofs.Booleans.{not_so}
use Rattle.lvm_vol.specs.declared.entry.Vol.TheVariants.{Lv}
use Rattle.lvm_vol.specs.Facts.{Begun, Fact}
use Rattle.lvm_vol.specs.Legal.{begins_in}
use Rattle.lvm_vol.specs.Log.{blocks_begun, next_id, next_request, spare_bytes, spare_entries}
use Rattle.lvm_history.proofs.LogLemmas.Staying.{spare_bytes-push, spare_entries-push}
use Rattle.lvm_path.specs.declared.ask.Ask.{Ask}
use Rattle.lvm_path.specs.declared.ask.Ask.TheVariants.{Read, Write}
use Rattle.lvm_path.specs.Asks.{at_of, count_of, lv_of}
use Rattle.lvm_posts.specs.passed.Raw.{piece_count, piece_end}
use Rattle.lvm_posts.proofs.passed.Raw.{fewer_pieces}
use Rattle.lvm_session.specs.declared.answers.AskFault.{AskFault}
use Rattle.lvm_session.specs.declared.answers.AskFault.TheVariants as refusal
use Rattle.lvm_session.specs.declared.open.Open.{Open}
use Rattle.lvm_session.specs.declared.open.Power.{Power}
use Rattle.lvm_session.specs.declared.open.Power.TheVariants as power
use Rattle.lvm_session.specs.Calls.{SubmitGives, ask_fault, fault_by, fault_in as ask_fault_in, fault_on, has_history, has_numbers, is_asked, new_open, submitted}
use Rattle.lvm_session.specs.Sound.{count_if}
use Rattle.lvm_session.specs.State.{Core}
use Rattle.lvm_driver.proofs.passed.KeepsEvents.{blocks_fit}
use Rattle.lvm_posts.specs.declared.asked.Asked.{Asked}
use Rattle.lvm_ranges.specs.declared.refusal.AskRangeFault.{AskRangeFault}
use Rattle.lvm_ranges.specs.declared.refusal.AskRangeFault.TheVariants as fault
use Rattle.lvm_posts.specs.Pieces.{IsLaidOut}
use Rattle.lvm_posts.specs.Posts.{AreHeld}
use Rattle.lvm_ranges.specs.Asking.{AskRangeGives, Asks, fault_in, range_fault}
use Rattle.lvm_ranges.specs.Pieces.{NoPiece, OnePiece, Submits, piece_ask, piece_bytes, with_piece}

-- ---- what is left to be submitted has room

-- so many blocks from this one on, in so many pieces, lie in the volume, and have room in the table and in the history
pub record HasRoomFor (core : Core) (lv from count pieces : ℕ) : Type 0 where
  pub on : core.power ≡ power.On
  pub row : LvRow
  pub volume : volume_of core.descriptor lv ≡ Some row
  pub within : from + count ≤ volume_blocks core.descriptor.mib row.lps
  pub table : length core.requests + pieces ≤ core.most
  pub entries : 3 * pieces ≤ spare_entries core.history
  pub bytes : 512 * count ≤ spare_bytes core.history
  pub numbers : has_numbers core ≡ true

-- nothing is against a range that isn't refused
pub room_first : (core : Core) (lv at count : ℕ) → core.power ≡ power.On → range_fault core lv at count ≡ None → HasRoomFor core lv at count (piece_count at count)
room_first core lv at count on none = by_row (volume_of core.descriptor lv) refl none
  where
    by_row : (m : Option LvRow) → volume_of core.descriptor lv ≡ m → option_map_or (λ (row : LvRow). fault_in core at count (volume_blocks core.descriptor.mib row.lps)) m (Some fault.NoVolume) ≡ None → HasRoomFor core lv at count (piece_count at count)
    by_row None is none = absurd (cc none)
    by_row (Some row) is none = by (nat_lt blocks (at + count)) (nat_lt core.most (length core.requests + piece_count at count)) (nat_le (3 * piece_count at count) (spare_entries core.history)) (nat_le (512 * count) (spare_bytes core.history)) (has_numbers core) refl refl refl refl refl none
      where
        blocks : ℕ
        blocks = volume_blocks core.descriptor.mib row.lps

        by : (a b c d e : Bool) → nat_lt blocks (at + count) ≡ a → nat_lt core.most (length core.requests + piece_count at count) ≡ b → nat_le (3 * piece_count at count) (spare_entries core.history) ≡ c → nat_le (512 * count) (spare_bytes core.history) ≡ d → has_numbers core ≡ e
            → (if a then Some (fault.OutOfRange blocks) else if b then Some (fault.TableFull (length core.requests)) else if c && d && e then None else Some fault.HistoryFull) ≡ None → HasRoomFor core lv at count (piece_count at count)
        by true b c d e ia ib ic id ie none = absurd (cc none)
        by false true c d e ia ib ic id ie none = absurd (cc none)
        by false false false d e ia ib ic id ie none = absurd (cc none)
        by false false true false e ia ib ic id ie none = absurd (cc none)
        by false false true true false ia ib ic id ie none = absurd (cc none)
        by false false true true true ia ib ic id ie none = record {
          on = on;
          row = row;
          volume = is;
          within = grind (arith, nat_tests, ia);
          table = grind (arith, nat_tests, ib);
          entries = leb-true (3 * piece_count at count) (spare_entries core.history) ic;
          bytes = leb-true (512 * count) (spare_bytes core.history) id;
          numbers = ie;
        }

-- ---- the next piece is taken

module _ (core : Core) (ask : Ask) (rest pieces : ℕ) (room : HasRoomFor core (lv_of ask) (at_of ask) rest pieces) (some : 1 ≤ pieces) (fits : count_of ask ≤ rest) where
  history_true : has_history core ask ≡ true
  history_true =
      let entries = room.entries in
      let bytes = room.bytes in
      let a : nat_le 3 (spare_entries core.history) ≡ true = le-leb 3 (spare_entries core.history) (omega (arith, entries, some)) in
      let b : nat_le (512 * count_of ask) (spare_bytes core.history) ≡ true = le-leb (512 * count_of ask) (spare_bytes core.history) (omega (arith, bytes, fits)) in
      ap (λ x. x && nat_le (512 * count_of ask) (spare_bytes core.history) && has_numbers core) a ∙ ap (λ x. x && has_numbers core) b ∙ room.numbers

  in_volume : ask_fault_in core ask (volume_blocks core.descriptor.mib room.row.lps) ≡ None
  in_volume =
      let within = room.within in
      let table = room.table in
      let blocks = volume_blocks core.descriptor.mib room.row.lps in
      let a : nat_lt blocks (at_of ask + count_of ask) ≡ false = grind (arith, nat_tests, within, fits) in
      let b : nat_le core.most (length core.requests) ≡ false = grind (arith, nat_tests, table, some) in
      ap (λ x. if x then Some (refusal.OutOfRange blocks) else if nat_le core.most (length core.requests) then Some (refusal.TableFull (length core.requests)) else if has_history core ask then None else Some refusal.HistoryFull) a
      ∙ ap (λ x. if x then Some (refusal.TableFull (length core.requests)) else if has_history core ask then None else Some refusal.HistoryFull) b
      ∙ ap (λ x. if x then None else Some refusal.HistoryFull) history_true

  pub ask_may : ask_fault core ask ≡ None
  ask_may =
      ap (λ (p : Power). fault_by p (fault_on core ask)) room.on
      ∙ ap (λ (m : Option LvRow). option_map_or (λ (row : LvRow). ask_fault_in core ask (volume_blocks core.descriptor.mib row.lps)) m (Some refusal.NoVolume)) room.volume
      ∙ in_volume

pub piece_may : (core : Core) (write : Option ℕ) (lv from rest pieces count : ℕ) → HasRoomFor core lv from rest pieces → 1 ≤ pieces → count ≤ rest → ask_fault core (piece_ask write lv from count) ≡ None
piece_may core None lv from rest pieces count room some fits = ask_may core (Read lv from count) rest pieces room some fits
piece_may core (Some word) lv from rest pieces count room some fits = ask_may core (Write lv from count) rest pieces room some fits

-- ---- what it leaves

pub count_so : (write : Option ℕ) (lv from count : ℕ) → count_of (piece_ask write lv from count) ≡ count
count_so None lv from count = refl
count_so (Some word) lv from count = refl

module _ (core : Core) (write : Option ℕ) (lv at from count : ℕ) where
  abbrev begins : Fact
  begins = Begun (next_request core.history 1 (Lv (lv_of (piece_ask write lv from count))) (at_of (piece_ask write lv from count)) (count_of (piece_ask write lv from count)) (piece_bytes write at from count))

  abbrev grown : Core
  grown = with_piece write lv at from count core

  pub next_more : next_id grown.history ≡ next_id core.history + 1
  next_more =
      let more : count_by (begins_in core.history.run) (core.history.facts ++ begins ∷ []) ≡ count_by (begins_in core.history.run) core.history.facts + count_if (begins_in core.history.run begins) = sum_by_push (λ g. count_if (begins_in core.history.run g)) core.history.facts begins in
      let one : count_if (begins_in core.history.run begins) ≡ 1 = ap count_if (eq-eqb core.history.run core.history.run refl) in
      omega (arith, more, one)

  pub room_after : (rest pieces : ℕ) → HasRoomFor core lv from rest pieces → 1 ≤ pieces → count ≤ rest → HasRoomFor grown lv (from + count) (rest - count) (pieces - 1)
  room_after rest pieces room some fits = record {
    on = room.on;
    row = room.row;
    volume = room.volume;
    within = let within = room.within in omega (arith, within, fits);
    table = let table = room.table in let more = length-append core.requests (new_open (next_id core.history) 1 (piece_ask write lv from count) (blocks_begun core.history.facts) ∷ []) in omega (arith, table, more, some);
    entries = let was = room.entries in let less = spare_entries-push core.history begins in omega (arith, was, less, some);
    bytes =
        let was = room.bytes in
        let less = spare_bytes-push core.history (next_request core.history 1 (Lv (lv_of (piece_ask write lv from count))) (at_of (piece_ask write lv from count)) (count_of (piece_ask write lv from count)) (piece_bytes write at from count)) in
        let so = count_so write lv from count in
        omega (arith, was, less, so, fits);
    numbers = room.numbers;
  }

-- ---- so far

-- The pieces up to here are submitted, so many; the rest has room, and the last number is this one.
pub record AskedSoFar (write : Option ℕ) (lv at end : ℕ) (first now : Core) (from last : ℕ) : Type 0 where
  pub pieces : ℕ
  pub submits : Submits write lv at end first from pieces now
  pub low : at ≤ from
  pub high : from ≤ end
  pub on : now.power ≡ power.On
  pub room : from < end → HasRoomFor now lv from (end - from) (piece_count from (end - from))
  pub more : from < end → pieces + piece_count from (end - from) ≡ piece_count at (end - at)
  pub whole : end ≤ from → pieces ≡ piece_count at (end - at)
  pub id : 1 ≤ pieces → last + 1 ≡ next_id first.history + pieces

asks_whole : (write : Option ℕ) (lv at count : ℕ) (core : Core) → core.power ≡ power.On → 1 ≤ count → range_fault core lv at count ≡ None → AskedSoFar write lv at (at + count) core core at 0
asks_whole write lv at count core on some none =
    let same : at + count - at ≡ count = omega arith in
    record {
      pieces = 0;
      submits = NoPiece;
      low = omega arith;
      high = omega arith;
      on = on;
      room = λ less. subst (λ n. HasRoomFor core lv at n (piece_count at n)) (sym same) (room_first core lv at count on none);
      more = λ less. omega arith;
      whole = λ over. absurd (omega (arith, over, some));
      id = λ one. absurd (omega (arith, one));
    }

pub asks_first : (write : Option ℕ) (lv at count end : ℕ) (core : Core) → end ≡ at + count → core.power ≡ power.On → 1 ≤ count → range_fault core lv at count ≡ None → AskedSoFar write lv at end core core at 0
asks_first write lv at count end core is on some none = subst (λ e. AskedSoFar write lv at e core core at 0) (sym is) (asks_whole write lv at count core on some none)

last_piece : (from end : ℕ) → from < end → end ≤ piece_end from end → piece_count from (end - from) ≡ 1
last_piece from end less over = omega arith

pub next_ids : {write : Option ℕ} {lv at end : ℕ} {first : Core} {from n : ℕ} {core : Core} → Submits write lv at end first from n core → next_id core.history ≡ next_id first.history + n
next_ids NoPiece = omega arith
next_ids {write} {lv} {at} {end} {first} (OnePiece {from = from} {n = n} {core = core} before less) =
    let was = next_ids before in
    let more = next_more core write lv at from (piece_end from end - from) in
    omega (arith, was, more)

asks_more : (write : Option ℕ) (lv at end : ℕ) (first now new : Core) (from last id : ℕ) → AskedSoFar write lv at end first now from last → from < end → id ≡ next_id now.history
    → new ≡ with_piece write lv at from (piece_end from end - from) now → AskedSoFar write lv at end first new (piece_end from end) id
asks_more write lv at end first now new from last id so_far less id_is is = subst (λ (c : Core). AskedSoFar write lv at end first c (piece_end from end) id) (sym is) by
  where
    to : ℕ
    to = piece_end from end

    grows : from < to
    grows = omega (arith, less)

    ends : to ≤ end
    ends = omega arith

    by : AskedSoFar write lv at end first (with_piece write lv at from (to - from) now) to id
    by = record {
      pieces = so_far.pieces + 1;
      submits = OnePiece so_far.submits less;
      low = let low = so_far.low in omega (arith, low, grows);
      high = ends;
      on = so_far.on;
      room = λ further.
          let fewer = fewer_pieces from end less further in
          let after = room_after now write lv at from (to - from) (end - from) (piece_count from (end - from)) (so_far.room less) (omega (arith, fewer)) (omega (arith, ends)) in
          let there : from + (to - from) ≡ to = omega (arith, grows) in
          let rest : end - from - (to - from) ≡ end - to = omega (arith, grows, ends) in
          let one : piece_count from (end - from) - 1 ≡ piece_count to (end - to) = omega (arith, fewer) in
          let at_to = subst (λ f. HasRoomFor (with_piece write lv at from (to - from) now) lv f (end - from - (to - from)) (piece_count from (end - from) - 1)) there after in
          let with_rest = subst (λ n. HasRoomFor (with_piece write lv at from (to - from) now) lv to n (piece_count from (end - from) - 1)) rest at_to in
          subst (λ n. HasRoomFor (with_piece write lv at from (to - from) now) lv to (end - to) n) one with_rest;
      more = λ further. let fewer = fewer_pieces from end less further in let was = so_far.more less in omega (arith, fewer, was);
      whole = λ over. let one = last_piece from end less over in let was = so_far.more less in omega (arith, one, was);
      id = λ some. let all = next_ids so_far.submits in omega (arith, all, id_is);
    }

pub asks_next : (write : Option ℕ) (lv at end : ℕ) (first now new : Core) (from last id to : ℕ) → AskedSoFar write lv at end first now from last → from < end → id ≡ next_id now.history
    → to ≡ piece_end from end → new ≡ with_piece write lv at from (to - from) now → AskedSoFar write lv at end first new to id
asks_next write lv at end first now new from last id to so_far less id_is to_is is =
    subst (λ t. (new ≡ with_piece write lv at from (t - from) now) → AskedSoFar write lv at end first new t id) (sym to_is) (asks_more write lv at end first now new from last id so_far less id_is) is

-- all of them are submitted
pub record AllAsked (write : Option ℕ) (lv at count : ℕ) (first now : Core) (last : ℕ) : Type 0 where
  pub submits : Submits write lv at (at + count) first (at + count) (piece_count at count) now
  pub id : last + 1 ≡ next_id first.history + piece_count at count

pub all_asked : (write : Option ℕ) (lv at count end : ℕ) (first now : Core) (from last : ℕ) → end ≡ at + count → AskedSoFar write lv at end first now from last → end ≤ from → AllAsked write lv at count first now last
all_asked write lv at count end first now from last is so_far over =
    let here : from ≡ end = let high = so_far.high in omega (arith, high, over) in
    let rest : end - at ≡ count = omega (arith, is) in
    let pieces : so_far.pieces ≡ piece_count at count = so_far.whole over ∙ ap (piece_count at) rest in
    let to_end : Submits write lv at end first end so_far.pieces now = subst (λ f. Submits write lv at end first f so_far.pieces now) here so_far.submits in
    let whole : Submits write lv at (at + count) first (at + count) so_far.pieces now = subst (λ e. Submits write lv at e first e so_far.pieces now) is to_end in
    record {
      submits = subst (λ n. Submits write lv at (at + count) first (at + count) n now) pieces whole;
      id = let own = so_far.id (omega (arith, pieces)) in omega (arith, own, pieces);
    }

pub may_next : (write : Option ℕ) (lv at end : ℕ) (first now : Core) (from last to : ℕ) → AskedSoFar write lv at end first now from last → from < end → to ≡ piece_end from end → ask_fault now (piece_ask write lv from (to - from)) ≡ None
may_next write lv at end first now from last to so_far less is =
    piece_may now write lv from (end - from) (piece_count from (end - from)) (to - from) (so_far.room less) (omega arith) (let low : piece_end from end ≤ end = omega arith in omega (arith, low, is))

-- ---- what is in the table

any_left : (t : Open → Bool) (os more : List Open) → list_any t os ≡ true → list_any t (os ++ more) ≡ true
any_left t os more is = list_any-append t os more ∙ ap (λ b. b || list_any t more) is

any_last : (t : Open → Bool) (os : List Open) (o : Open) → t o ≡ true → list_any t (os ++ o ∷ []) ≡ true
any_last t os o is = list_any-append t os (o ∷ []) ∙ ap (λ b. list_any t os || (b || false)) is ∙ or_true (list_any t os)
  where
    or_true : (a : Bool) → a || true ≡ true
    or_true true = refl
    or_true false = refl

pub table_grows : {write : Option ℕ} {lv at end : ℕ} {first : Core} {from n : ℕ} {core : Core} → Submits write lv at end first from n core → (client id : ℕ) → list_any (is_asked client id) first.requests ≡ true → list_any (is_asked client id) core.requests ≡ true
table_grows NoPiece client id is = is
table_grows (OnePiece {core = core} before less) client id is = any_left (is_asked client id) core.requests _ (table_grows before client id is)

pub pieces_held : {write : Option ℕ} {lv at end : ℕ} {first : Core} {from n : ℕ} {core : Core} → Submits write lv at end first from n core → (k : ℕ) → k < n → list_any (is_asked 1 (next_id first.history + k)) core.requests ≡ true
pieces_held NoPiece k less = absurd (omega (arith, less))
pieces_held {write} {lv} {at} {end} {first} (OnePiece {from = from} {n = n} {core = core} before within) k less =
    below_more (λ i. list_any (is_asked 1 (next_id first.history + i)) (with_piece write lv at from (piece_end from end - from) core).requests ≡ true) n
    (λ i low. any_left (is_asked 1 (next_id first.history + i)) core.requests _ (pieces_held before i low)) (any_last (is_asked 1 (next_id first.history + n)) core.requests _ own) k less
  where
    own : next_id core.history == next_id first.history + n ≡ true
    own = eq-eqb (next_id core.history) (next_id first.history + n) (next_ids before)

-- ---- the whole range

-- what asking for a range gives where the fault is this one
abbrev AskedBy : Option ℕ → ℕ → ℕ → ℕ → Core → Core → Result Asked AskRangeFault → Option AskRangeFault → Type 0
AskedBy write lv at count old new answer fault = MatchOption fault ((asked : Asked) × (answer ≡ Ok asked) × Asks write lv at count old new asked) (λ (why : AskRangeFault). (answer ≡ Err why) × (new ≡ old))

pub table_keeps : {write : Option ℕ} {lv at count : ℕ} {old new : Core} {asked : Asked} → Asks write lv at count old new asked → (other : Asked) → AreHeld old other → AreHeld new other
table_keeps asks other has k less = table_grows asks.submits 1 (other.first + k) (has k less)

pub all_held : {write : Option ℕ} {lv at count : ℕ} {old new : Core} (asked : Asked) → Asks write lv at count old new asked → AreHeld new asked
all_held {old = old} {new = new} asked asks k less = subst (λ i. list_any (is_asked 1 (i + k)) new.requests ≡ true) (sym asks.first) (pieces_held asks.submits k less)

pub gives_asked : (write : Option ℕ) (lv at count : ℕ) (old new : Core) (asked : Asked) → range_fault old lv at count ≡ None → Asks write lv at count old new asked → AskRangeGives write lv at count old new (Ok asked)
gives_asked write lv at count old new asked none asks = subst (AskedBy write lv at count old new (Ok asked)) (sym none) (asked, refl, asks)

pub gives_fault : (write : Option ℕ) (lv at count : ℕ) (old : Core) (why : AskRangeFault) → range_fault old lv at count ≡ Some why → AskRangeGives write lv at count old old (Err why)
gives_fault write lv at count old why is = subst (AskedBy write lv at count old old (Err why)) (sym is) (refl, refl)

-- ---- where it lies

pub range_fits : (core : Core) (lv at count : ℕ) → IsValid core.descriptor → core.power ≡ power.On → range_fault core lv at count ≡ None → at + count < 2 ^ 40
range_fits core lv at count valid on none =
    let room = room_first core lv at count on none in
    let few = blocks_fit core.descriptor lv room.row valid room.volume in
    let within = room.within in
    omega (arith, few, within)

some_size : (mib : ℕ) (sizes : List ℕ) → AllByRecursion (λ size. 1 ≤ size) sizes → list_any (λ size. size == mib) sizes ≡ true → 1 ≤ mib
some_size mib [] some is = not_so is
some_size mib (size ∷ sizes) some is = by (size == mib) refl (some_size mib sizes some.1) is
  where
    by : (b : Bool) → (size == mib) ≡ b → (list_any (λ x. x == mib) sizes ≡ true → 1 ≤ mib) → b || list_any (λ x. x == mib) sizes ≡ true → 1 ≤ mib
    by true same rest e = let is_it = eqb-true size mib same in let low = some.0 in omega (arith, is_it, low)
    by false same rest e = rest e

mib_some : (d : Descriptor) → IsValid d → 1 ≤ d.mib
mib_some d valid = some_size d.mib (1 ∷ 2 ∷ 4 ∷ 8 ∷ 16 ∷ 32 ∷ 64 ∷ 128 ∷ 256 ∷ 512 ∷ 1024 ∷ [])
    (omega arith, (omega arith, (omega arith, (omega arith, (omega arith, (omega arith, (omega arith, (omega arith, (omega arith, (omega arith, (omega arith, tt))))))))))) valid.head.size

-- what is answered of a range whose pieces are all submitted, the last under this number
pub asks_all : (write : Option ℕ) (lv at count : ℕ) (old new : Core) (asked : Asked) (last : ℕ) → asked.pieces ≡ piece_count at count → asked.first ≡ last - (asked.pieces - 1) → last + 1 ≡ next_id old.history + piece_count at count
    → asked.at ≡ at → asked.mib ≡ old.descriptor.mib → asked.place ≡ blocks_begun old.history.facts → Submits write lv at (at + count) old (at + count) (piece_count at count) new → Asks write lv at count old new asked
asks_all write lv at count old new asked last pieces first id at_is mib place submits = record {
  first = omega (arith, pieces, first, id);
  pieces = pieces;
  at_is = at_is;
  mib_is = mib;
  place = place;
  submits = subst (λ n. Submits write lv at (at + count) old (at + count) n new) (sym pieces) submits;
}

pub is_laid_out : (at count : ℕ) (core : Core) (d : Descriptor) (asked : Asked) (last : ℕ) → asked.pieces ≡ piece_count at count → asked.first ≡ last - (asked.pieces - 1) → last + 1 ≡ next_id core.history + piece_count at count
    → asked.at ≡ at → asked.mib ≡ d.mib → IsValid d → 1 ≤ count → count ≤ 4096 → at + count < 2 ^ 40 → last < 2 ^ 64 → IsLaidOut asked
is_laid_out at count core d asked last pieces first id at_is mib valid some most fits few = record {
  mib = let size = mib_some d valid in omega (arith, size, mib);
  pieces = omega (arith, pieces, most);
  fits = omega (arith, at_is, fits);
  last = omega (arith, pieces, first, id, few);
}

-- ---- the tests of the code

pub numbers_so : (left seq : ℕ) → left + seq + 1 ≡ 2 ^ 32 → nat_le 65536 left ≡ nat_lt (seq + 65536) (2 ^ 32)
numbers_so left seq all = by (nat_lt (seq + 65536) (2 ^ 32)) refl
  where
    by : (b : Bool) → nat_lt (seq + 65536) (2 ^ 32) ≡ b → nat_le 65536 left ≡ b
    by true is = let low = ltb-true (seq + 65536) (2 ^ 32) is in le-leb 65536 left (omega (arith, low, all))
    by false is = grind (arith, nat_tests, is, all)

-- ---- one request

-- what a submission gives where the fault is this one
abbrev SubmittedBy : Core → Core → Ask → Option (List ℕ) → Result ℕ AskFault → Option AskFault → Type 0
SubmittedBy old new ask bytes answer fault = MatchOption fault ((answer ≡ Ok (next_id old.history)) × (new ≡ submitted old 1 ask bytes)) (λ (why : AskFault). (answer ≡ Err why) × (new ≡ old))

pub never_refused : {X : Type 0} (old new : Core) (ask : Ask) (bytes : Option (List ℕ)) (why : AskFault) → ask_fault old ask ≡ None → SubmitGives old new 1 ask bytes (Err why) → X
never_refused old new ask bytes why may gives = let it = subst (SubmittedBy old new ask bytes (Err why)) may gives in absurd (cc it.0)

pub taken_so : (old new : Core) (ask : Ask) (bytes : Option (List ℕ)) (id : ℕ) → ask_fault old ask ≡ None → SubmitGives old new 1 ask bytes (Ok id) → (id ≡ next_id old.history) × (new ≡ submitted old 1 ask bytes)
taken_so old new ask bytes id may gives = let it = subst (SubmittedBy old new ask bytes (Ok id)) may gives in (cc it.0, it.1)

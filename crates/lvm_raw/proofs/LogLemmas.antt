-- What further entries leave of what a history says of a request, and of its room.
use Rattle.std.proofs.Common.{◌≡◌, ◌≤◌, ◌+◌, ◌*◌, ◌∷◌, ◌++◌, [], ℕ, List, Bool, Option, Some, None, true, false, not, is_some, ◌&&◌, ◌||◌, ◌==◌, unwrap_or, take, if◌then◌else◌, arith, refl, sym, ◌∙◌, ap, subst}
use Rattle.std.specs.List.{find, filter_map, list_any, cons_option, sum_by}
use Rattle.std.proofs.lemmas.List.Elements.{filter_map-append}
use Rattle.std.proofs.lemmas.List.{append-nil}
use Rattle.std.proofs.lemmas.List.Sums.{sum_by-append}
use Rattle.std.proofs.lemmas.List.Folds.{list_any-append, find-append}
use Rattle.std.specs.Option.{option_or}
use Rattle.lvm_steps.proofs.MomentsLemmas.Spans.{later_append}
use Rattle.lvm_raw.specs.OnePieceAsking.{TakesRoom}
use Rattle.lvm_raw.specs.OnePieceKeeping.{HaveAllLanded, NoneComesOn}
use Rattle.lvm_num.specs.Buffer.{Sector}
use Rattle.lvm_vol.specs.declared.entry.Outcome.{Outcome}
use Rattle.lvm_vol.specs.Facts.{Request, Fact, Begun, Landed, Taken, Cut, begun, begun_by}
use Rattle.lvm_vol.specs.declared.entry.Vol.TheVariants.{Disk}
use Rattle.lvm_kept.specs.Raw.{next_write}
use Rattle.lvm_steps.specs.Requests.{next_read}
use Rattle.std.specs.Simd.{first_chunks}
use Rattle.lvm_history.proofs.LogLemmas.Staying.{blocks_begun-push, blocks_begun_same}
use Rattle.lvm_num.proofs.Booleans.{or_false as or_none}
use Rattle.lvm_vol.specs.Log.{with_fact, next_request, asked, request_of, has_id, lands_id, is_open, is_uncut, is_uncut_from, is_uncut_after, Log, cut_log, no_request, awaited, need, needed, spare_entries, spare_bytes}
use Rattle.lvm_vol.specs.declared.entry.Outcome.TheVariants as outcome
use Rattle.lvm_transfer.specs.declared.moves.Moved.{Moved}
use Rattle.lvm_transfer.specs.declared.moves.Moved.TheVariants as moved
use Rattle.lvm_raw.specs.Requests.{landing_ends, cut_ends, write_ends, read_ends, WasAnswered, IsHeard}

-- an entry that begins no request leaves those that began
pub begun_more : (facts : List Fact) (f : Fact) → begun_by f ≡ None → begun (facts ++ f ∷ []) ≡ begun facts
begun_more facts f none = filter_map-append begun_by facts (f ∷ []) ∙ ap (λ (l : List Request). begun facts ++ l) (alone f none) ∙ append-nil (begun facts)
  where
    alone : (f : Fact) → begun_by f ≡ None → filter_map begun_by (f ∷ []) ≡ []
    alone f none = ap (λ (o : Option Request). cons_option o []) none

pub asked_more : (facts : List Fact) (f : Fact) (id : ℕ) → begun_by f ≡ None → asked (facts ++ f ∷ []) id ≡ asked facts id
asked_more facts f id none = ap (find (has_id id)) (begun_more facts f none)

pub request_more : (facts : List Fact) (f : Fact) (id : ℕ) → begun_by f ≡ None → request_of (facts ++ f ∷ []) id ≡ request_of facts id
request_more facts f id none = ap (λ (o : Option Request). unwrap_or o Rattle.lvm_vol.specs.Log.no_request) (asked_more facts f id none)

-- a cut lands nothing
pub open_cut : (facts : List Fact) (id : ℕ) → is_open (facts ++ Cut ∷ []) id ≡ is_open facts id
open_cut facts id =
    let lands : list_any (lands_id id) (facts ++ Cut ∷ []) ≡ list_any (lands_id id) facts = list_any-append (lands_id id) facts (Cut ∷ []) ∙ or_false (list_any (lands_id id) facts) in
    ap (λ (o : Option Request). is_some o && not (list_any (lands_id id) (facts ++ Cut ∷ []))) (asked_more facts Cut id refl) ∙ ap (λ (b : Bool). is_some (asked facts id) && not b) lands
  where
    or_false : (b : Bool) → (b || false) ≡ b
    or_false true = refl
    or_false false = refl

-- after a request began there is something that a cut ends
pub uncut_begun : (facts : List Fact) (r : Request) → is_uncut (facts ++ Begun r ∷ []) ≡ true
uncut_begun facts r = go false facts
  where
    go : (b : Bool) (facts : List Fact) → is_uncut_from b (facts ++ Begun r ∷ []) ≡ true
    go b [] = refl
    go b (f ∷ facts) = go (is_uncut_after b f) facts

pub cut_is : (log : Log) → is_uncut log.facts ≡ true → cut_log log ≡ record log { facts = log.facts ++ Cut ∷ [] }
cut_is log uncut = ap (λ (b : Bool). if b then record log { facts = log.facts ++ Cut ∷ [] } else log) uncut

-- a request landed, and its answer was taken
pub took : (log landed last : Log) (id : ℕ) (f : Fact) → begun_by f ≡ None → landed ≡ record log { facts = log.facts ++ f ∷ [] } → last ≡ record landed { facts = landed.facts ++ Taken (request_of landed.facts id) ∷ [] } → last ≡ record log { facts = (log.facts ++ f ∷ []) ++ Taken (request_of log.facts id) ∷ [] }
took log landed last id f none is after =
    after ∙ ap (λ (l : Log). record l { facts = l.facts ++ Taken (request_of l.facts id) ∷ [] }) is
    ∙ ap (λ (r : Request). record log { facts = (log.facts ++ f ∷ []) ++ Taken r ∷ [] }) (request_more log.facts f id none)

-- a request began, and ended so
pub ended_by :
    (h begun last : Log) (id : ℕ) (r : Request) (ends : List Fact → Request → List Fact) → begun ≡ record h { facts = h.facts ++ Begun r ∷ [] } → asked begun.facts id ≡ Some r
    → last ≡ record begun { facts = ends begun.facts (request_of begun.facts id) } → last ≡ record h { facts = ends (h.facts ++ Begun r ∷ []) r }
ended_by h begun last id r ends is named after =
    after ∙ ap (λ (s : Request). record begun { facts = ends begun.facts s }) (ap (λ (o : Option Request). unwrap_or o no_request) named)
    ∙ ap (λ (l : Log). record l { facts = ends l.facts r }) is

-- a read waits for as many blocks as its request has
pub count_is : (facts : List Fact) (id count : ℕ) → awaited facts id ≡ Some count → (request_of facts id).count ≡ count
count_is facts id count waits = go (is_open facts id && not (request_of facts id).write) waits
  where
    go : (t : Bool) → (if t then Some (request_of facts id).count else None) ≡ Some count → (request_of facts id).count ≡ count
    go true is = cc
    go false is = absurd (cc (is))

-- ---- the room that is left

needed_more : (facts : List Fact) (f : Fact) → needed (facts ++ f ∷ []) ≡ needed facts + need f
needed_more facts f = sum_by-append need facts (f ∷ []) ∙ ap (λ (n : ℕ). needed facts + n) (last f)
  where
    last : (f : Fact) → sum_by need (f ∷ []) ≡ need f
    last f = omega arith

-- with these entries the history has three less to spare, and the bytes of so many blocks
abbrev HasRoomAfter : Log → ℕ → List Fact → Type 0
HasRoomAfter log count facts = (spare_entries (record log { facts = facts }) + 3 ≡ spare_entries log) × (spare_bytes (record log { facts = facts }) + 512 * count ≡ spare_bytes log)

-- a request that began, landed and was taken has used three entries, and the bytes of its blocks
module _ (log : Log) (r : Request) (how : Outcome) (got : List Sector) where
  abbrev after : Log
  after = record log { facts = landing_ends (log.facts ++ Begun r ∷ []) r (Landed r how true got) }

  entries_after : 3 ≤ spare_entries log → spare_entries after + 3 ≡ spare_entries log
  entries_after spare =
      let one = needed_more log.facts (Begun r) in
      let two = needed_more (log.facts ++ Begun r ∷ []) (Landed r how true got) in
      let three = needed_more ((log.facts ++ Begun r ∷ []) ++ Landed r how true got ∷ []) (Taken r) in
      omega (arith, one, two, three, spare)

  bytes_after : 512 * r.count ≤ spare_bytes log → spare_bytes after + 512 * r.count ≡ spare_bytes log
  bytes_after spare =
      let one = blocks_begun-push log.facts r in
      let two = blocks_begun_same (log.facts ++ Begun r ∷ []) (Landed r how true got) refl in
      let three = blocks_begun_same ((log.facts ++ Begun r ∷ []) ++ Landed r how true got ∷ []) (Taken r) refl in
      omega (arith, one, two, three, spare)

module _ (log last : Log) (r : Request) (how : Moved) (entries : 3 ≤ spare_entries log) (bytes : 512 * r.count ≤ spare_bytes log) where
  takes : (facts : List Fact) → last ≡ record log { facts = facts } → (WasAnswered how → HasRoomAfter log r.count facts) → TakesRoom r.count log last how
  takes facts is room = record {
    rooms = is ∙ ap (λ (l : Log). record log { facts = l.facts }) (sym is);
    entries = λ ended. subst (λ (l : Log). spare_entries l + 3 ≡ spare_entries log) (sym is) (room ended).0;
    bytes = λ ended. subst (λ (l : Log). spare_bytes l + 512 * r.count ≡ spare_bytes log) (sym is) (room ended).1;
  }

-- a write that ended so has taken the room of a piece
write_room : (log : Log) (r : Request) (how : Moved) → 3 ≤ spare_entries log → 512 * r.count ≤ spare_bytes log → WasAnswered how
    → HasRoomAfter log r.count (write_ends (log.facts ++ Begun r ∷ []) r how)
write_room log r (moved.Done back) entries bytes ended = (entries_after log r outcome.Done [] entries, bytes_after log r outcome.Done [] bytes)
write_room log r (moved.Failed back) entries bytes ended = (entries_after log r outcome.Lost [] entries, bytes_after log r outcome.Lost [] bytes)
write_room log r (moved.Dark started) entries bytes ended = absurd ended
write_room log r moved.Stuck entries bytes ended = absurd ended

pub write_takes : (log last : Log) (r : Request) (how : Moved) → 3 ≤ spare_entries log → 512 * r.count ≤ spare_bytes log → last ≡ record log { facts = write_ends (log.facts ++ Begun r ∷ []) r how } → TakesRoom r.count log last how
write_takes log last r how entries bytes is = takes log last r how entries bytes (write_ends (log.facts ++ Begun r ∷ []) r how) is (write_room log r how entries bytes)

-- and a read
read_room : (log : Log) (r : Request) (how : Moved) → 3 ≤ spare_entries log → 512 * r.count ≤ spare_bytes log → WasAnswered how
    → HasRoomAfter log r.count (read_ends (log.facts ++ Begun r ∷ []) r how)
read_room log r (moved.Done back) entries bytes ended = (entries_after log r outcome.Got (take r.count back.sectors) entries, bytes_after log r outcome.Got (take r.count back.sectors) bytes)
read_room log r (moved.Failed back) entries bytes ended = (entries_after log r outcome.ReadFailed [] entries, bytes_after log r outcome.ReadFailed [] bytes)
read_room log r (moved.Dark started) entries bytes ended = absurd ended
read_room log r moved.Stuck entries bytes ended = absurd ended

pub read_takes : (log last : Log) (r : Request) (how : Moved) → 3 ≤ spare_entries log → 512 * r.count ≤ spare_bytes log → last ≡ record log { facts = read_ends (log.facts ++ Begun r ∷ []) r how } → TakesRoom r.count log last how
read_takes log last r how entries bytes is = takes log last r how entries bytes (read_ends (log.facts ++ Begun r ∷ []) r how) is (read_room log r how entries bytes)

-- ---- a request from its beginning to its end

-- a write that began with these bytes ended so
pub write_ended :
    (h started last : Log) (id disk from count : ℕ) (bytes : List ℕ) (blocks : List Sector) (how : Moved) → started ≡ with_fact h (Begun (next_request h 1 (Disk disk) from count (Some bytes)))
    → asked started.facts id ≡ Some (next_request h 1 (Disk disk) from count (Some bytes)) → first_chunks 512 count bytes ≡ blocks → last ≡ record started { facts = write_ends started.facts (request_of started.facts id) how }
    → last ≡ record h { facts = write_ends (h.facts ++ Begun (next_write h.run h.facts disk from count blocks) ∷ []) (next_write h.run h.facts disk from count blocks) how }
write_ended h started last id disk from count bytes blocks how is named its after =
    let request = λ (l : List Sector). next_write h.run h.facts disk from count l in
    ended_by h started last id (request blocks) (λ (facts : List Fact) (r : Request). write_ends facts r how)
    (is ∙ ap (λ (l : List Sector). record h { facts = h.facts ++ Begun (request l) ∷ [] }) its)
    (named ∙ ap (λ (l : List Sector). Some (request l)) its)
    after

-- a read did
pub read_ended :
    (h started last : Log) (id disk from count : ℕ) (how : Moved) → started ≡ with_fact h (Begun (next_request h 1 (Disk disk) from count None))
    → asked started.facts id ≡ Some (next_request h 1 (Disk disk) from count None) → last ≡ record started { facts = read_ends started.facts (request_of started.facts id) how }
    → last ≡ record h { facts = read_ends (h.facts ++ Begun (next_read h.run h.facts disk from count) ∷ []) (next_read h.run h.facts disk from count) how }
read_ended h started last id disk from count how is named after = ended_by h started last id (next_read h.run h.facts disk from count) (λ (facts : List Fact) (r : Request). read_ends facts r how) is named after

-- ---- what stays so

some_or : {X : Type 0} (a b : Option X) → is_some (option_or a b) ≡ (is_some a || is_some b)
some_or None b = refl
some_or (Some x) b = refl

landed_more : (facts : List Fact) (f : Fact) (id : ℕ) → list_any (lands_id id) (facts ++ f ∷ []) ≡ (list_any (lands_id id) facts || lands_id id f)
landed_more facts f id = list_any-append (lands_id id) facts (f ∷ []) ∙ ap (λ (b : Bool). list_any (lands_id id) facts || b) (or_none (lands_id id f))

asked_begun : (facts : List Fact) (r : Request) (id : ℕ) → is_some (asked (facts ++ Begun r ∷ []) id) ≡ (is_some (asked facts id) || (r.id == id))
asked_begun facts r id =
    ap (λ (l : List Request). is_some (find (has_id id) l)) (filter_map-append begun_by facts (Begun r ∷ [])) ∙ ap is_some (find-append (has_id id) (begun facts) (r ∷ []))
    ∙ some_or (asked facts id) (find (has_id id) (r ∷ [])) ∙ ap (λ (b : Bool). is_some (asked facts id) || b) (one (r.id == id))
  where
    one : (b : Bool) → is_some (if b then Some r else None) ≡ b
    one true = refl
    one false = refl

-- a request that began has landed; what had landed before still has
landing_closes : (facts began : List Fact) (r : Request) (how : Outcome) (started : Bool) (got : List Sector) (id : ℕ) → is_some (asked began id) ≡ (is_some (asked facts id) || (r.id == id)) → list_any (lands_id id) began ≡ list_any (lands_id id) facts
    → is_open facts id ≡ false → is_open (landing_ends began r (Landed r how started got)) id ≡ false
landing_closes facts began r how started got id ask land closed =
    let landed = began ++ Landed r how started got ∷ [] in
    let asks : is_some (asked (landed ++ Taken r ∷ []) id) ≡ (is_some (asked facts id) || (r.id == id)) = ap is_some (asked_more landed (Taken r) id refl ∙ asked_more began (Landed r how started got) id refl) ∙ ask in
    let lands : list_any (lands_id id) (landed ++ Taken r ∷ []) ≡ (list_any (lands_id id) facts || (r.id == id)) =
    landed_more landed (Taken r) id ∙ or_none (list_any (lands_id id) landed) ∙ landed_more began (Landed r how started got) id ∙ ap (λ (b : Bool). b || (r.id == id)) land in
    ap (λ (b : Bool). b && not (list_any (lands_id id) (landed ++ Taken r ∷ []))) asks ∙ ap (λ (b : Bool). (is_some (asked facts id) || (r.id == id)) && not b) lands
    ∙ either (is_some (asked facts id)) (list_any (lands_id id) facts) (r.id == id) closed
  where
    either : (a l b : Bool) → (a && not l) ≡ false → ((a || b) && not (l || b)) ≡ false
    either true true b is = refl
    either true false b is = absurd (cc (is))
    either false true true is = refl
    either false true false is = refl
    either false false true is = refl
    either false false false is = refl

answered_closes : (facts : List Fact) (r : Request) (how : Outcome) (got : List Sector) → HaveAllLanded facts → HaveAllLanded (landing_ends (facts ++ Begun r ∷ []) r (Landed r how true got))
answered_closes facts r how got closed id = landing_closes facts (facts ++ Begun r ∷ []) r how true got id (asked_begun facts r id) (landed_more facts (Begun r) id ∙ or_none (list_any (lands_id id) facts)) (closed id)

darkened_closes : (facts : List Fact) (r : Request) (started : Bool) → HaveAllLanded facts → HaveAllLanded (cut_ends (facts ++ Begun r ∷ []) r started)
darkened_closes facts r started closed id =
    let began = facts ++ Begun r ∷ [] in
    landing_closes facts (began ++ Cut ∷ []) r outcome.Dark started [] id (ap is_some (asked_more began Cut id refl) ∙ asked_begun facts r id)
    (landed_more began Cut id ∙ or_none (list_any (lands_id id) began) ∙ landed_more facts (Begun r) id ∙ or_none (list_any (lands_id id) facts)) (closed id)

pub write_lands : (facts : List Fact) (r : Request) (how : Moved) → IsHeard how → HaveAllLanded facts → HaveAllLanded (write_ends (facts ++ Begun r ∷ []) r how)
write_lands facts r (moved.Done back) heard = answered_closes facts r outcome.Done []
write_lands facts r (moved.Failed back) heard = answered_closes facts r outcome.Lost []
write_lands facts r (moved.Dark started) heard = darkened_closes facts r started
write_lands facts r moved.Stuck heard = absurd heard

pub read_lands : (facts : List Fact) (r : Request) (how : Moved) → IsHeard how → HaveAllLanded facts → HaveAllLanded (read_ends (facts ++ Begun r ∷ []) r how)
read_lands facts r (moved.Done back) heard = answered_closes facts r outcome.Got (take r.count back.sectors)
read_lands facts r (moved.Failed back) heard = answered_closes facts r outcome.ReadFailed []
read_lands facts r (moved.Dark started) heard = darkened_closes facts r started
read_lands facts r moved.Stuck heard = absurd heard

pub cut_lands : (facts : List Fact) → HaveAllLanded facts → HaveAllLanded (facts ++ Cut ∷ [])
cut_lands facts closed id = open_cut facts id ∙ closed id

-- no group comes on in a request
landing_later : (began : List Fact) (r : Request) (how : Outcome) (started : Bool) (got : List Sector) → NoneComesOn began (landing_ends began r (Landed r how started got))
landing_later began r how started got m later = later_append (began ++ Landed r how started got ∷ []) (Taken r ∷ []) m (later_append began (Landed r how started got ∷ []) m later tt) tt

cut_later : (facts : List Fact) (r : Request) (started : Bool) → NoneComesOn facts (cut_ends facts r started)
cut_later facts r started m later = landing_later (facts ++ Cut ∷ []) r outcome.Dark started [] m (later_append facts (Cut ∷ []) m later tt)

pub write_later : (facts : List Fact) (r : Request) (how : Moved) → NoneComesOn facts (write_ends (facts ++ Begun r ∷ []) r how)
write_later facts r (moved.Done back) m later = landing_later (facts ++ Begun r ∷ []) r outcome.Done true [] m (later_append facts (Begun r ∷ []) m later tt)
write_later facts r (moved.Failed back) m later = landing_later (facts ++ Begun r ∷ []) r outcome.Lost true [] m (later_append facts (Begun r ∷ []) m later tt)
write_later facts r (moved.Dark started) m later = cut_later (facts ++ Begun r ∷ []) r started m (later_append facts (Begun r ∷ []) m later tt)
write_later facts r moved.Stuck m later = later_append facts (Begun r ∷ []) m later tt

pub read_later : (facts : List Fact) (r : Request) (how : Moved) → NoneComesOn facts (read_ends (facts ++ Begun r ∷ []) r how)
read_later facts r (moved.Done back) m later = landing_later (facts ++ Begun r ∷ []) r outcome.Got true (take r.count back.sectors) m (later_append facts (Begun r ∷ []) m later tt)
read_later facts r (moved.Failed back) m later = landing_later (facts ++ Begun r ∷ []) r outcome.ReadFailed true [] m (later_append facts (Begun r ∷ []) m later tt)
read_later facts r (moved.Dark started) m later = cut_later (facts ++ Begun r ∷ []) r started m (later_append facts (Begun r ∷ []) m later tt)
read_later facts r moved.Stuck m later = later_append facts (Begun r ∷ []) m later tt

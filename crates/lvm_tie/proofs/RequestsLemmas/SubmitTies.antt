-- A request that is submitted, tied.
use Rattle.std.proofs.Common.{◌≡◌, ◌⊎◌, inl, inr, ⊎_elim, ℕ, zero, suc, ◌+◌, ◌-◌, ◌*◌, ◌/◌, ◌%◌, ◌<◌, ◌≤◌, Bool, true, false, ◌&&◌, ◌||◌, ◌==◌, not, List, [], ◌∷◌, ◌++◌, length, Option, Some, None, refl, sym, ap, subst, ◌∙◌, arith}
use Rattle.std.specs.Prelude.{IsTrue, MatchOption, Ok, Err, find, count_by, is_some, unwrap_or, if◌then◌else◌, slice_get}
use Rattle.std.proofs.lemmas.Bool.{cases_eq}
use Rattle.std.proofs.lemmas.Bool.Decides.{nat_tests}
use Rattle.std.proofs.lemmas.List.{append_assoc}
use Rattle.std.proofs.lemmas.Option.{same_Some}
use Rattle.lvm_num.specs.declared.place.Pp.{Pp}
use Rattle.lvm_num.specs.declared.descriptor.LvRow.{LvRow}
use Rattle.lvm_num.specs.declared.descriptor.Descriptor.{Descriptor}
use Rattle.lvm_num.specs.Geometry.{partition_blocks, partition_of, track_group_of, volume_blocks}
use Rattle.lvm_num.proofs.Lists.{all_at}
use Rattle.lvm_vol.specs.declared.entry.Vol.TheVariants.{Lv}
use Rattle.lvm_vol.specs.Facts.{Request as Asked, Fact, Begun, begun, block_of}
use Rattle.lvm_vol.specs.Legal.{begins_in}
use Rattle.lvm_vol.specs.Log.{asked, blocks_begun, has_id, next_id, next_request, no_request, request_of}
use Rattle.lvm_vol.proofs.LogLemmas.{find_stands}
use Rattle.lvm_vol.proofs.FactsLemmas.Order.{begun-push, numbered, stands-at}
use Rattle.lvm_vol.proofs.FactsLemmas.Counting.{count_begun}
use Rattle.lvm_history.proofs.LogLemmas.Staying.{request_stays}
use Rattle.lvm_disk.specs.Device.{Flight, image_of}
use Rattle.lvm_kept.specs.Contents.{contents_of}
use Rattle.lvm_kept.specs.Group.{IsBlockOf, IsOneOf}
use Rattle.lvm_kept.proofs.ChangesLemmas.Entries.{volume_is_row}
use Rattle.lvm_kept.proofs.MomentsLemmas.Spans.{next_joined}
use Rattle.lvm_map.proofs.Parts.{parts, whole}
use Rattle.lvm_map.proofs.PlacesLemmas.{mib_positive, volume_at, lp_below}
use Rattle.lvm_path.specs.declared.ask.Ask.{Ask}
use Rattle.lvm_path.specs.Asks.{lv_of, at_of, count_of, is_write}
use Rattle.lvm_session.specs.declared.open.Open.{Open}
use Rattle.lvm_session.specs.declared.bringing.OpenCopy.{OpenCopy}
use Rattle.lvm_session.specs.declared.flown.Owner.{Owner}
use Rattle.lvm_session.specs.declared.flown.Owner.TheVariants as owner
use Rattle.lvm_session.specs.State.{Core, State, state}
use Rattle.lvm_session.specs.Judging.{is_running, place_of, IsWithinVolume}
use Rattle.lvm_session.specs.Bringing.{has_row, is_out, is_whole}
use Rattle.lvm_session.specs.declared.bringing.Step.{Step}
use Rattle.lvm_session.specs.declared.answers.AskFault.{AskFault}
use Rattle.lvm_session.specs.Calls.{ask_fault, new_open, submitted}
use Rattle.lvm_session.specs.Asking.{IsAsking}
use Rattle.lvm_session.specs.Sound.{IsSound}
use Rattle.lvm_keeps_events.proofs.passed.Calls.{below_next}
use Rattle.lvm_invariant.specs.State.{Held, Queued, ModelState, covers}
use Rattle.lvm_invariant.specs.Submit.{IsPlaced, Submits, submitted as sees_submitted}
use Rattle.lvm_invariant.specs.Events.{Event, Submit}
use Rattle.lvm_invariant.proofs.EventsLemmas.Each.{each_keeps}
use Rattle.lvm_crash.proofs.OwnedLemmas.{covered}
use Rattle.lvm_crash.proofs.RecordsLemmas.Quiet.{quiet_lasts}
use Rattle.lvm_tie.proofs.OutLemmas.Ties.{carry_on}
use Rattle.lvm_tie.proofs.StateLemmas.{copy_is}
use Rattle.lvm_tie.proofs.TiedLemmas.Orderly.{asked_one, open_one, valid_of}
use Rattle.lvm_tie.specs.Out.{CarriesStep}
use Rattle.lvm_tie.specs.Seen.{update_of, SeesRequest, IsRequestAt, IsStepAt, Sees}
use Rattle.lvm_tie.specs.Tied.{IsOrderly, IsTied}
use Rattle.lvm_tie.specs.Requests.{SubmitTies}
use Rattle.lvm_tie.proofs.SeenLemmas.Beside.{beside_alike, copy_seen, same_copies}

-- what is asked of a request that is submitted
pub record MaySubmit (past : List Fact) (core : Core) (ask : Ask) (bytes : Option (List ℕ)) : Type 0 where
  pub inside : IsWithinVolume core.descriptor ask
  pub group : at_of ask % 256 + count_of ask ≤ 256
  pub given : is_some bytes ≡ is_write ask
  -- earlier histories have nothing of this run
  pub own : count_by (begins_in core.history.run) past ≡ 0
  -- the numbers of the table are the history's, and the next one isn't there yet
  pub next : asked core.history.facts (next_id core.history) ≡ None
  pub table : (place : ℕ) (o : Open) → slice_get core.requests place ≡ Some o → (o.request.id < next_id core.history) × (is_some (asked core.history.facts o.request.id) ≡ true)
  pub step : (c : OpenCopy) → core.copy ≡ Some c → has_row core c ≡ true → c.place < place_of (next_id core.history)

-- ---- a list with one more

one_more : {X : Type 0} (xs : List X) (y x : X) (k : ℕ) → slice_get (xs ++ y ∷ []) k ≡ Some x → (slice_get xs k ≡ Some x) ⊎ ((k ≡ length xs) × (x ≡ y))
one_more [] y x zero h = inr (refl, sym (same_Some y x h))
one_more [] y x (suc k) h = absurd cc
one_more (z ∷ zs) y x zero h = inl h
one_more (z ∷ zs) y x (suc k) h = ⊎_elim (λ is. inl is) (λ is. inr (let e : k ≡ length zs = is.0 in omega arith, is.1)) (one_more zs y x k h)

still_there : {X : Type 0} (xs : List X) (y x : X) (k : ℕ) → slice_get xs k ≡ Some x → slice_get (xs ++ y ∷ []) k ≡ Some x
still_there [] y x k h = absurd cc
still_there (z ∷ zs) y x zero h = h
still_there (z ∷ zs) y x (suc k) h = still_there zs y x k h

last_there : {X : Type 0} (xs : List X) (y : X) → slice_get (xs ++ y ∷ []) (length xs) ≡ Some y
last_there [] y = refl
last_there (z ∷ zs) y = last_there zs y

find_last : (test : Asked → Bool) (xs : List Asked) (y : Asked) → find test xs ≡ None → test y ≡ true → find test (xs ++ y ∷ []) ≡ Some y
find_last test [] y none is = ap (λ b. if b then Some y else None) is
find_last test (x ∷ xs) y none is = by (test x) refl none (find_last test xs y)
  where
    by : (b : Bool) → test x ≡ b → (if b then Some x else find test xs) ≡ None → (find test xs ≡ None → test y ≡ true → find test (xs ++ y ∷ []) ≡ Some y) → (if test x then Some x else find test (xs ++ y ∷ [])) ≡ Some y
    by true its h rest = absurd cc
    by false its h rest = ap (λ b. if b then Some x else find test (xs ++ y ∷ [])) its ∙ rest h is

-- blocks of one track group are of one logical partition
same_partition : (mib b k : ℕ) → 1 ≤ mib → track_group_of (b + k) ≡ track_group_of b → partition_of mib (b + k) ≡ partition_of mib b
same_partition mib b k some same =
    let size = partition_blocks mib in
    let rest : b % size < size = omega arith in
    let all : b / size * size + b % size ≡ b = whole size b (omega arith) in
    let fits : b % size + k < size = omega (arith, all, same) in
    (parts size (b + k) (b / size) (b % size + k) fits (omega (arith, all))).0

module _ (past : List Fact) (old : State) (client : ℕ) (ask : Ask) (bytes : Option (List ℕ)) (tied : IsTied past old) (may : MaySubmit past old.core ask bytes) where
  abbrev v : ModelState
  v = tied.view

  abbrev core : Core
  core = old.core

  abbrev group : Descriptor
  group = core.descriptor

  abbrev id : ℕ
  id = next_id core.history

  abbrev i : ℕ
  i = place_of id

  abbrev asks : Asked
  asks = next_request core.history client (Lv (lv_of ask)) (at_of ask) (count_of ask) bytes

  abbrev o : Open
  o = new_open id client ask (blocks_begun core.history.facts)

  abbrev q : Queued
  q = record { lv = lv_of ask; first = at_of ask; count = count_of ask; write = is_write ask; step = false; value = block_of asks.blocks (at_of ask); phase = Held; several = false; targets = λ c. None; got = None }

  abbrev new : Core
  new = submitted core client ask bytes

  abbrev w : ModelState
  w = sees_submitted v i asks q

  abbrev row : LvRow
  row = may.inside.row

  abbrev lp : ℕ
  lp = partition_of group.mib (at_of ask)

  some : 1 ≤ group.mib
  some = mib_positive group (valid_of old tied.write tied.orderly)

  row_one : IsOneOf group.lvs row
  row_one = volume_is_row group (lv_of ask) row may.inside.volume

  row_number : row.number ≡ lv_of ask
  row_number = (volume_at group (lv_of ask) row may.inside.volume).its

  lp_inside : lp < row.lps
  lp_inside = lp_below group.mib row.lps (at_of ask) some (let a : at_of ask + count_of ask ≤ volume_blocks group.mib row.lps = may.inside.within in let b : 1 ≤ count_of ask = may.inside.some in omega arith)

  one_group : (k : ℕ) → k < count_of ask → track_group_of (at_of ask + k) ≡ track_group_of (at_of ask)
  one_group k lt = let g : at_of ask % 256 + count_of ask ≤ 256 = may.group in omega (arith, g)

  block : (k : ℕ) → k < count_of ask → IsBlockOf group.mib row lp (at_of ask + k)
  block k lt = record { inside = lp_inside; partition = same_partition group.mib (at_of ask) k some (one_group k lt) }

  copies : (k : ℕ) → k < count_of ask → (p : Pp) → v.is_copy (lv_of ask) (at_of ask + k) p ≡ v.is_copy (lv_of ask) (at_of ask) p
  copies k lt p = subst (λ n. v.is_copy n (at_of ask + k) p ≡ v.is_copy n (at_of ask) p) row_number
      (same_copies tied.describes.volumes row lp (at_of ask + k) (at_of ask) p row_one (block k lt) (record { inside = lp_inside; partition = refl })
      (beside_alike core v.beside tied.sees.beside row.number (at_of ask + k) (at_of ask) (block k lt).partition))

  -- a block that it covers is one of its own
  pub record Behind (lv b : ℕ) : Type 0 where
    pub volume : lv_of ask ≡ lv
    pub way : ℕ
    pub less : way < count_of ask
    pub is : at_of ask + way ≡ b

  behind : (lv b : ℕ) → IsTrue (covers q lv b) → Behind lv b
  behind lv b over =
      let c = covered q lv b over in
      let low : at_of ask ≤ b = c.1 in
      let high : b < at_of ask + count_of ask = c.2 in
      record { volume = c.0; way = b - at_of ask; less = omega arith; is = omega arith }

  placed : IsPlaced v q
  placed = record {
    place = λ lv b over. let at = behind lv b over in
        (sym at.volume, ap track_group_of (sym at.is) ∙ one_group at.way at.less, ap (λ n. v.is_copy (lv_of ask) n) (sym at.is) ∙ (λ t p. copies at.way at.less p t));
    inside = λ lv b over. let at = behind lv b over in
        let there = tied.describes.volumes.some row lp row_one lp_inside in
        let is = copy_seen tied.describes.volumes row lp (at_of ask + at.way) there.0 row_one (block at.way at.less) there.1 there.2 in
        (there.0, subst (λ n. IsTrue (v.is_copy n b there.0)) (row_number ∙ at.volume) (subst (λ n. IsTrue (v.is_copy row.number n there.0)) at.is is));
  }

  newest : (j : ℕ) (e : Queued) → v.queue j ≡ Some e → j < i
  newest j e at = ⊎_elim
      (λ (r : IsRequestAt core j). let less : r.request.request.id < id = (may.table r.place r.request r.there).0 in let its : 2 * r.request.request.id ≡ j = r.its in omega arith)
      (λ (r : IsStepAt core j). let less : r.copy.place < i = may.step r.copy r.is_open r.row in let its : r.copy.place ≡ j = r.its in omega arith)
      (tied.sees.queue.only j e at)

  counted : asks.id ≡ count_by (begins_in core.history.run) v.facts + 1
  counted = next_joined core.history.run past core.history.facts may.own ∙ sym (ap (λ (fs : List Fact). count_by (begins_in core.history.run) fs + 1) tied.sees.facts)

  submits : Submits v i asks q
  submits = record {
    held = refl;
    newest = newest;
    placed = placed;
    request = refl;
    same = record { vol = refl; over = λ lv b. refl; write = may.given; value = λ lv b writes over. refl };
    next = counted;
  }

  abbrev event : Event
  event = Submit i asks q

  put_here : (j : ℕ) → j ≡ i → w.queue j ≡ Some q
  put_here j e = let test : (j == i) ≡ true = grind (arith, nat_tests) in ap (λ b. if b then Some q else v.queue j) test

  put_there : (j : ℕ) → j < i → w.queue j ≡ v.queue j
  put_there j lt = let test : (j == i) ≡ false = grind (arith, nat_tests) in ap (λ b. if b then Some q else v.queue j) test

  earlier : (place : ℕ) (p : Open) → slice_get core.requests place ≡ Some p → place_of p.request.id < i
  earlier place p there = let less : p.request.id < id = (may.table place p there).0 in omega arith

  name_there : (place : ℕ) (p : Open) → slice_get core.requests place ≡ Some p → w.name (place_of p.request.id) ≡ request_of new.history.facts p.request.id
  name_there place p there =
      let lt = earlier place p there in
      let test : (place_of p.request.id == i) ≡ false = grind (arith, nat_tests) in
      ap (λ b. if b then asks else v.name (place_of p.request.id)) test ∙ tied.sees.queue.names place p there ∙ by (asked core.history.facts p.request.id) refl ((may.table place p there).1)
    where
      by : (x : Option Asked) → asked core.history.facts p.request.id ≡ x → is_some (asked core.history.facts p.request.id) ≡ true → request_of core.history.facts p.request.id ≡ request_of (core.history.facts ++ Begun asks ∷ []) p.request.id
      by None is some2 = absurd (let e : false ≡ true = sym (ap (λ (y : Option Asked). is_some y) is) ∙ some2 in cc)
      by (Some x) is some2 = ap (λ (y : Option Asked). unwrap_or y no_request) is ∙ sym (request_stays core.history.facts (Begun asks ∷ []) p.request.id x is)

  name_here : w.name i ≡ request_of new.history.facts id
  name_here =
      let test : (i == i) ≡ true = grind (arith, nat_tests) in
      let own : has_id id asks ≡ true = grind (arith, nat_tests) in
      ap (λ b. if b then asks else v.name i) test
      ∙ sym (ap (λ (rs : List Asked). unwrap_or (find (has_id id) rs) no_request) (begun-push core.history.facts (Begun asks)) ∙ ap (λ (y : Option Asked). unwrap_or y no_request) (find_last (has_id id) (begun core.history.facts) asks may.next own))

  sees : Sees past new w
  sees = record {
    queue = record {
      requests = λ k p at. ⊎_elim
          (λ was. let s = tied.sees.queue.requests k p was in (s.0, put_there (place_of p.request.id) (earlier k p was) ∙ s.1, s.2))
          (λ is. (
            q,
            put_here (place_of p.request.id) (ap (λ (x : Open). place_of x.request.id) is.1),
            subst (λ (x : Open). SeesRequest x q) (sym is.1) (record { lv = refl; first = refl; count = refl; write = refl; step = refl; phase = refl; several = refl; targets = λ c. refl; got = λ buf none. absurd cc }),
          ))
          (one_more core.requests o p k at);
      a_step = λ c is has. let s = tied.sees.queue.a_step c is has in (s.0, put_there c.place (may.step c is has) ∙ s.1, s.2);
      only = λ j e at. elim (cases_eq j i) [
        | inl is ↦ inl (record { place = length core.requests; request = o; there = last_there core.requests o; its = sym is })
        | inr ne ↦ let test : (j == i) ≡ false = grind (arith, nat_tests) in ⊎_elim
            (λ (r : IsRequestAt core j). inl (record { place = r.place; request = r.request; there = still_there core.requests o r.request r.place r.there; its = r.its }))
            (λ (r : IsStepAt core j). inr r)
            (tied.sees.queue.only j e (sym (ap (λ b. if b then Some q else v.queue j) test) ∙ at))
      ];
      names = λ k p at. ⊎_elim
          (λ was. name_there k p was)
          (λ is. subst (λ (x : Open). w.name (place_of x.request.id) ≡ request_of new.history.facts x.request.id) (sym is.1) name_here)
          (one_more core.requests o p k at);
    };
    facts = ap (λ (fs : List Fact). fs ++ Begun asks ∷ []) tied.sees.facts ∙ append_assoc past core.history.facts (Begun asks ∷ []);
    status = tied.sees.status;
    notes = tied.sees.notes;
    open_copy = tied.sees.open_copy;
    step_write = tied.sees.step_write;
    beside = tied.sees.beside;
  }

  carries : (g : Flight) (who : Owner) → CarriesStep core v g who → CarriesStep new w g who
  carries g (owner.Data n t) its = tt
  carries g (owner.Status disk) its = tt
  carries g (owner.Note disk) its = tt
  carries g owner.Copy its = λ c p is writing here.
      its c p is writing (sym (put_there c.place (may.step c is (ap (λ (st : Step). is_out st || (is_running c && not (is_whole core c))) writing))) ∙ here)

  pub tied_after : IsOrderly (state old.device new) tied.write → IsTied past (state old.device new)
  tied_after orderly = record {
    votes = tied.votes;
    media = tied.media;
    setting = tied.setting;
    view = w;
    sees = sees;
    good = each_keeps tied.votes event v w (submits, refl) tied.good;
    describes = quiet_lasts tied.votes event v w group (update_of core.status) (contents_of (image_of old.device.sizes tied.media)) (submits, refl) tied.good
        (ap (λ (x : Option LvRow). is_some x) may.inside.volume) tied.describes refl refl refl;
    write = tied.write;
    since = tied.since;
    recorded = tied.recorded;
    orderly = orderly;
    copy_aimed = tied.copy_aimed;
    carry = carry_on core new v w old.device.flights core.flying carries tied.carry;
    notes = tied.notes;
  }

-- ---- of a sound session

module _ (past : List Fact) (s : State) (client : ℕ) (ask : Ask) (bytes : Option (List ℕ)) (tied : IsTied past s) (asking : IsAsking ask bytes) (sound : IsSound (state s.device (submitted s.core client ask bytes))) where
  abbrev next : ℕ
  next = next_id s.core.history

  abbrev after : State
  after = state s.device (submitted s.core client ask bytes)

  orderly_then : IsOrderly after tied.write
  orderly_then = record { sound = sound; on = tied.orderly.on; update = tied.orderly.update }

  low : (k : ℕ) (o : Open) → slice_get s.core.requests k ≡ Some o → o.request.id < next
  low k o there =
      all_at (λ (x : Open). x.request.id < next) s.core.requests k o (below_next s.core.history s.core.requests tied.orderly.sound.told.ordered tied.orderly.sound.told.requests) there

  -- the next number is none's yet
  none_yet : asked s.core.history.facts next ≡ None
  none_yet = by (asked s.core.history.facts next) refl
    where
      by : (m : Option Asked) → asked s.core.history.facts next ≡ m → m ≡ None
      by None is = refl
      by (Some r) is =
          let q = numbered s.core.history.run s.core.history.facts tied.orderly.sound.told.ordered in
          let found = find_stands next (begun s.core.history.facts) r is in
          let high = (stands-at 1 (begun s.core.history.facts) r q.ids found.0).high in
          let own = found.1 in
          let count = count_begun s.core.history.run s.core.history.facts q.runs in
          absurd (omega (arith, high, own, count))

  within : IsWithinVolume s.core.descriptor ask
  within =
      let its = (open_one after tied.write orderly_then (length s.core.requests) (new_open next client ask (blocks_begun s.core.history.facts)) (last_there s.core.requests (new_open next client ask (blocks_begun s.core.history.facts)))).laid.within in
      record { row = its.row; volume = its.volume; within = its.within; some = its.some; fits = its.fits }

  may_submit : MaySubmit past s.core ask bytes
  may_submit = record {
    inside = within;
    group = asking.group.group;
    given = asking.write;
    own = tied.setting.own;
    next = none_yet;
    table = λ k o there. (low k o there, ap (λ (m : Option Asked). is_some m) (asked_one s tied.write tied.orderly k o there).told);
    step = λ c is row. let its = (copy_is past s tied c is).place in let less : its.0 < next = its.1 in let e : c.place ≡ 2 * its.0 + 1 = its.2 in omega arith;
  }

  pub submitted_ties : IsTied past after
  submitted_ties = tied_after past s client ask bytes tied may_submit orderly_then

pub submit_ties : SubmitTies
submit_ties past s new client ask bytes answer tied sound asking gives = by (ask_fault s.core ask) sound gives
  where
    by : (m : Option AskFault) → IsSound (state s.device new)
        → MatchOption m ((answer ≡ Ok (next_id s.core.history)) × (new ≡ submitted s.core client ask bytes)) (λ (why : AskFault). (answer ≡ Err why) × (new ≡ s.core)) → IsTied past (state s.device new)
    by None sound done = subst (λ (c : Core). IsTied past (state s.device c)) (sym done.1) (submitted_ties past s client ask bytes tied asking (subst (λ (c : Core). IsSound (state s.device c)) done.1 sound))
    by (Some why) sound done = subst (λ (c : Core). IsTied past (state s.device c)) (sym done.1) tied

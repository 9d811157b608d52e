-- All requests that wait land at once, as a session ends.
use Rattle.std.proofs.Common.{◌≡◌, ◌==◌, ◌≤◌, ◌<◌, ◌+◌, ℕ, Bool, true, false, ◌&&◌, ◌||◌, not, List, [], ◌∷◌, ◌++◌, Option, Some, None, length, map, refl, sym, ◌∙◌, ap, subst, arith, append_assoc, if◌then◌else◌}
use Rattle.std.specs.Prelude.{IfSome, count_by, filter, is_none, is_some, nat_lt, slice_index_or, slice_set, unwrap_or}
use Rattle.std.specs.List.{AllByRecursion, find, list_any, sum_by}
use Rattle.std.specs.Option.{option_map}
use Rattle.std.proofs.lemmas.Bool.{eq-eqb, eqb-true, eqb-false, ne_eqb}
use Rattle.std.proofs.lemmas.List.{append-nil}
use Rattle.std.proofs.lemmas.List.Elements.{filter_map-append}
use Rattle.std.proofs.lemmas.List.Folds.{list_any-append}
use Rattle.lvm_num.specs.Buffer.{Buffer}
use Rattle.lvm_num.proofs.Booleans.{or_false, not_so}
use Rattle.lvm_num.proofs.Lists.{at_set, beside_set, length_set}
use Rattle.lvm_vol.specs.declared.entry.Outcome.{Outcome}
use Rattle.lvm_vol.specs.Facts.{Fact, Request, Landed, begun, begun_by}
use Rattle.lvm_vol.specs.Log.{asked, got_without_bytes, has_id, is_answered, is_open, landed_fact, lands_id, no_request, request_of, takes_id}
use Rattle.lvm_vol.specs.Order.{Follows, IsGotOf, Ordered}
use Rattle.lvm_vol.proofs.LogLemmas.{IsOpen, and_right, open_of}
use Rattle.lvm_vol.proofs.FactsLemmas.Order.{numbered, ordered-push}
use Rattle.lvm_path.specs.Next.{with_landing}
use Rattle.lvm_path.specs.Targets.{is_begun}
use Rattle.lvm_session.specs.declared.bringing.CopyEnd.{CopyEnd}
use Rattle.lvm_session.specs.declared.bringing.CopyEnd.TheVariants as ending
use Rattle.lvm_session.specs.declared.bringing.OpenCopy.{OpenCopy}
use Rattle.lvm_session.specs.declared.bringing.Step.TheVariants as step
use Rattle.lvm_session.specs.declared.open.Open.{Open}
use Rattle.lvm_session.specs.State.{Core}
use Rattle.lvm_session.specs.Bringing.{with_back}
use Rattle.lvm_session.specs.Judging.{is_running, is_waiting}
use Rattle.lvm_session.specs.Dark.{AreOpen, AreTold, IsAscending, ended_as, ended_copy, hand_of_copy, landings, with_hands}
use Rattle.lvm_session.specs.Requests.{IsLanded}
use Rattle.lvm_session.specs.Sound.{IsAsked, count_if, hands_with, is_hand, outcome_by, outcome_in, place_in, waits}
use Rattle.lvm_keeps.proofs.Lists.{count_cons}
use Rattle.lvm_keeps.proofs.Small.{both, is_false}
use Rattle.lvm_keeps.proofs.SoundLemmas.Telling.{asked_still, open_still}

-- each is made into another, of which two things hold
pub mapped_two : {A : Type 0} (P Q R : A → Type 0) (f : A → A) → ((x : A) → P x → Q x → R (f x)) → (xs : List A) → AllByRecursion P xs → AllByRecursion Q xs → AllByRecursion R (map f xs)
mapped_two P Q R f on [] all more = tt
mapped_two P Q R f on (x ∷ xs) all more = (on x all.0 more.0, mapped_two P Q R f on xs all.1 more.1)

-- ---- what the entries tell

module _ (how : Outcome) where
  none_begun : (facts : List Fact) (os : List Open) → begun (landings how facts os) ≡ []
  none_begun facts [] = refl
  none_begun facts (o ∷ os) = by (is_waiting o) (none_begun facts os)
    where
      by : (b : Bool) → begun (landings how facts os) ≡ [] → begun (if b then landed_fact facts o.request.id how (is_begun o.request.targets.items) ∷ landings how facts os else landings how facts os) ≡ []
      by true rest = rest
      by false rest = rest

  begun_same : (facts : List Fact) (os : List Open) → begun (facts ++ landings how facts os) ≡ begun facts
  begun_same facts os = filter_map-append begun_by facts (landings how facts os) ∙ ap (λ (rs : List Request). begun facts ++ rs) (none_begun facts os) ∙ append-nil (begun facts)

  pub asked_same : (facts : List Fact) (os : List Open) (id : ℕ) → asked (facts ++ landings how facts os) id ≡ asked facts id
  asked_same facts os id = ap (find (has_id id)) (begun_same facts os)

  pub place_same : (facts : List Fact) (os : List Open) (id : ℕ) → place_in (facts ++ landings how facts os) id ≡ place_in facts id
  place_same facts os id = ap (λ (rs : List Request). sum_by (λ (r : Request). r.count) (filter (λ (r : Request). nat_lt r.id id) rs)) (begun_same facts os)

  none_taken : (facts : List Fact) (os : List Open) (id : ℕ) → list_any (takes_id id) (landings how facts os) ≡ false
  none_taken facts [] id = refl
  none_taken facts (o ∷ os) id = by (is_waiting o) (none_taken facts os id)
    where
      by : (b : Bool) → list_any (takes_id id) (landings how facts os) ≡ false
          → list_any (takes_id id) (if b then landed_fact facts o.request.id how (is_begun o.request.targets.items) ∷ landings how facts os else landings how facts os) ≡ false
      by true rest = rest
      by false rest = rest

  -- the request of an open number has this number
  own_id : (facts : List Fact) (id : ℕ) → is_open facts id ≡ true → (request_of facts id).id ≡ id
  own_id facts id is = (open_of facts id is).its.own

  all_landed : (facts : List Fact) (os : List Open) (id : ℕ) → AreOpen facts os → list_any (lands_id id) (landings how facts os) ≡ waits os id
  all_landed facts [] id still = refl
  all_landed facts (o ∷ os) id still = by (is_waiting o) (λ w. own_id facts o.request.id (still.0 w)) (all_landed facts os id still.1)
    where
      by : (b : Bool) → (b ≡ true → (request_of facts o.request.id).id ≡ o.request.id) → list_any (lands_id id) (landings how facts os) ≡ waits os id
          → list_any (lands_id id) (if b then landed_fact facts o.request.id how (is_begun o.request.targets.items) ∷ landings how facts os else landings how facts os) ≡ ((b && o.request.id == id) || waits os id)
      by true own rest = ap (λ n. n == id || list_any (lands_id id) (landings how facts os)) (own refl) ∙ ap (λ b. o.request.id == id || b) rest
      by false own rest = rest

  -- so it landed, or not at all
  abbrev so_if : Bool → Option Outcome
  so_if b = if b then Some how else None

  all_so : (facts : List Fact) (os : List Open) (id : ℕ) → AreOpen facts os → outcome_in (landings how facts os) id ≡ so_if (waits os id)
  all_so facts [] id still = refl
  all_so facts (o ∷ os) id still = by (is_waiting o) (λ w. own_id facts o.request.id (still.0 w)) (all_so facts os id still.1)
    where
      pick : (c w : Bool) → (if c then Some how else so_if w) ≡ so_if (c || w)
      pick true w = refl
      pick false w = refl

      by : (b : Bool) → (b ≡ true → (request_of facts o.request.id).id ≡ o.request.id) → outcome_in (landings how facts os) id ≡ so_if (waits os id)
          → outcome_in (if b then landed_fact facts o.request.id how (is_begun o.request.targets.items) ∷ landings how facts os else landings how facts os) id ≡ so_if ((b && o.request.id == id) || waits os id)
      by true own rest = ap (λ n. if n == id then Some how else outcome_in (landings how facts os) id) (own refl) ∙ ap (λ m. if o.request.id == id then Some how else m) rest ∙ pick (o.request.id == id) (waits os id)
      by false own rest = rest

  outcome_first : (facts more : List Fact) (id : ℕ) → outcome_in (facts ++ more) id ≡ (if list_any (lands_id id) facts then outcome_in facts id else outcome_in more id)
  outcome_first [] more id = refl
  outcome_first (f ∷ facts) more id = by (lands_id id f) (outcome_first facts more id)
    where
      by : (b : Bool) → outcome_in (facts ++ more) id ≡ (if list_any (lands_id id) facts then outcome_in facts id else outcome_in more id)
          → (if b then outcome_by f else outcome_in (facts ++ more) id) ≡ (if b || list_any (lands_id id) facts then (if b then outcome_by f else outcome_in facts id) else outcome_in more id)
      by true rest = refl
      by false rest = rest

  -- ---- the table

  ended_id : (o : Open) → (ended_as how o).request.id ≡ o.request.id
  ended_id o = by (is_waiting o)
    where
      by : (b : Bool) → (if b then record o { request = with_landing o.request; got = None; landed = Some how } else o).request.id ≡ o.request.id
      by true = refl
      by false = refl

  pub ended_waits : (o : Open) → is_waiting (ended_as how o) ≡ false
  ended_waits o = by (is_waiting o) refl
    where
      by : (b : Bool) → is_waiting o ≡ b → is_waiting (if b then record o { request = with_landing o.request; got = None; landed = Some how } else o) ≡ false
      by true is = refl
      by false is = is

  none_waits : (os : List Open) (id : ℕ) → waits (map (ended_as how) os) id ≡ false
  none_waits [] id = refl
  none_waits (o ∷ os) id = ap (λ b. b && (ended_as how o).request.id == id || waits (map (ended_as how) os) id) (ended_waits o) ∙ none_waits os id

  below_ended : (n : ℕ) (os : List Open) → AllByRecursion (λ (later : Open). n < later.request.id) os → AllByRecursion (λ (later : Open). n < later.request.id) (map (ended_as how) os)
  below_ended n [] all = tt
  below_ended n (o ∷ os) all = (subst (λ i. n < i) (sym (ended_id o)) all.0, below_ended n os all.1)

  ascending_ended : (os : List Open) → IsAscending os → IsAscending (map (ended_as how) os)
  ascending_ended [] all = tt
  ascending_ended (o ∷ os) all = (subst (λ i. AllByRecursion (λ (later : Open). i < later.request.id) (map (ended_as how) os)) (sym (ended_id o)) (below_ended o.request.id os all.0), ascending_ended os all.1)

  still_ended : (facts : List Fact) (os : List Open) → AreOpen facts (map (ended_as how) os)
  still_ended facts [] = tt
  still_ended facts (o ∷ os) = (λ waiting. not_so (sym (ended_waits o) ∙ waiting), still_ended facts os)

  pub landed_ended : (os : List Open) → AllByRecursion (λ (o : Open). is_waiting o ≡ false → IsLanded o) os → AllByRecursion IsLanded (map (ended_as how) os)
  landed_ended [] all = tt
  landed_ended (o ∷ os) all = (by (is_waiting o) refl all.0, landed_ended os all.1)
    where
      by : (b : Bool) → is_waiting o ≡ b → (is_waiting o ≡ false → IsLanded o) → IsLanded (if b then record o { request = with_landing o.request; got = None; landed = Some how } else o)
      by true is over = record { landed = refl; phase_is = refl; hand = refl; pinned = refl }
      by false is over = over is

  -- ---- each entry follows those before it

  module _ (run : ℕ) (got_none : (r : Request) → IsGotOf r how (got_without_bytes r how)) where
    others_open : (now : List Fact) (f : Fact) (n : ℕ) → begun_by f ≡ None → ((id : ℕ) → lands_id id f ≡ (n == id)) → (os : List Open)
        → AllByRecursion (λ (later : Open). n < later.request.id) os → AreOpen now os → AreOpen (now ++ f ∷ []) os
    others_open now f n begins its [] below still = tt
    others_open now f n begins its (later ∷ os) below still = (
      λ waiting. open_still now f begins later.request.id (its later.request.id ∙ ne_eqb n later.request.id (λ e. let less = below.0 in absurd (omega (arith, e, less)))) ∙ still.0 waiting,
      others_open now f n begins its os below.1 still.1,
    )

    follow : (facts now : List Fact) (os : List Open) → Ordered run [] now → ((id : ℕ) → asked now id ≡ asked facts id) → AreTold now os → Ordered run [] (now ++ landings how facts os)
    follow facts now [] ordered known told = subst (Ordered run []) (sym (append-nil now)) ordered
    follow facts now (o ∷ os) ordered known told = by (is_waiting o) refl (λ more. follow facts (now ++ landed_fact facts o.request.id how (is_begun o.request.targets.items) ∷ []) os more) (follow facts now os ordered known (record { ascending = told.ascending.1; still = told.still.1 }))
      where
        fact : Fact
        fact = landed_fact facts o.request.id how (is_begun o.request.targets.items)

        same : request_of now o.request.id ≡ request_of facts o.request.id
        same = ap (λ r. unwrap_or r no_request) (known o.request.id)

        by : (b : Bool) → is_waiting o ≡ b
            → (Ordered run [] (now ++ fact ∷ []) → ((id : ℕ) → asked (now ++ fact ∷ []) id ≡ asked facts id) → AreTold (now ++ fact ∷ []) os → Ordered run [] ((now ++ fact ∷ []) ++ landings how facts os))
            → Ordered run [] (now ++ landings how facts os) → Ordered run [] (now ++ (if b then fact ∷ landings how facts os else landings how facts os))
        by false is lands passes = passes
        by true is lands passes = subst (Ordered run []) (append_assoc now (fact ∷ []) (landings how facts os)) (lands
            (ordered-push run [] now fact ordered follows)
            (λ id. asked_still now fact refl id ∙ known id)
            (record { ascending = told.ascending.1; still = others_open now fact o.request.id refl (λ id. ap (λ n. n == id) own) os told.ascending.0 told.still.1 }))
          where
            its : IsOpen now o.request.id
            its = open_of now o.request.id (told.still.0 is)

            own : (request_of facts o.request.id).id ≡ o.request.id
            own = ap (λ (r : Request). r.id) (sym same) ∙ its.its.own

            follows : Follows run now fact
            follows = subst (λ (r : Request). Follows run now (landed_by r)) same (its.its.began, ap (λ n. list_any (lands_id n) now) its.its.own ∙ its.unlanded, got_none (request_of now o.request.id))
              where
                landed_by : Request → Fact
                landed_by r = Landed r how (is_begun o.request.targets.items) (got_without_bytes r how)

    -- ---- all of it

    module _ (facts : List Fact) (os : List Open) (ordered : Ordered run [] facts) (table : AreTold facts os) (each : (id : ℕ) → is_open facts id ≡ waits os id) (requests : AllByRecursion (IsAsked facts) os) where
      abbrev pub after : List Fact
      after = facts ++ landings how facts os

      pub ordered_after : Ordered run [] after
      ordered_after = follow facts facts os ordered (λ id. refl) table

      pub table_after : AreTold after (map (ended_as how) os)
      table_after = record { ascending = ascending_ended os table.ascending; still = still_ended after os }

      lands_after : (id : ℕ) → list_any (lands_id id) after ≡ list_any (lands_id id) facts || waits os id
      lands_after id = list_any-append (lands_id id) facts (landings how facts os) ∙ ap (λ b. list_any (lands_id id) facts || b) (all_landed facts os id table.still)

      takes_after : (id : ℕ) → list_any (takes_id id) after ≡ list_any (takes_id id) facts
      takes_after id = list_any-append (takes_id id) facts (landings how facts os) ∙ ap (λ b. list_any (takes_id id) facts || b) (none_taken facts os id) ∙ or_false (list_any (takes_id id) facts)

      outcome_after : (id : ℕ) → outcome_in after id ≡ (if list_any (lands_id id) facts then outcome_in facts id else so_if (waits os id))
      outcome_after id = outcome_first facts (landings how facts os) id ∙ ap (λ m. if list_any (lands_id id) facts then outcome_in facts id else m) (all_so facts os id table.still)

      pub each_after : (id : ℕ) → is_open after id ≡ waits (map (ended_as how) os) id
      each_after id =
          ap (λ m. is_some m && not (list_any (lands_id id) after)) (asked_same facts os id) ∙ ap (λ b. is_some (asked facts id) && not b) (lands_after id)
          ∙ by (is_some (asked facts id)) (list_any (lands_id id) facts) (waits os id) (each id) ∙ sym (none_waits os id)
        where
          by : (a l w : Bool) → a && not l ≡ w → a && not (l || w) ≡ false
          by false l w is = refl
          by true true w is = refl
          by true false w is = ap not (sym is)

      answered_after : (client id : ℕ) → list_any (lands_id id) after ≡ true → is_some (asked facts id) && (request_of facts id).client == client ≡ true → list_any (takes_id id) facts ≡ false → is_answered after client id ≡ true
      answered_after client id landed own untaken =
          ap (λ m. is_some m && (unwrap_or m no_request).client == client && list_any (lands_id id) after && not (list_any (takes_id id) after)) (asked_same facts os id)
          ∙ ap (λ b. b && list_any (lands_id id) after && not (list_any (takes_id id) after)) own
          ∙ ap (λ b. b && not (list_any (takes_id id) after)) landed
          ∙ ap not (takes_after id ∙ untaken)

      asked_after : (o : Open) → IsAsked facts o → (is_waiting o ≡ true → is_open facts o.request.id ≡ true) → IsAsked after (ended_as how o)
      asked_after o a begun_so = by (is_waiting o) refl
        where
          id : ℕ
          id = o.request.id

          own : is_some (asked facts id) && (request_of facts id).client == o.request.client ≡ true
          own = ap (λ m. is_some m && (unwrap_or m no_request).client == o.request.client) a.told ∙ ap (λ n. n == o.request.client) a.client ∙ eq-eqb o.request.client o.request.client refl

          untaken : list_any (lands_id id) facts ≡ false → list_any (takes_id id) facts ≡ false
          untaken unlanded = from (list_any (takes_id id) facts) refl
            where
              from : (b : Bool) → list_any (takes_id id) facts ≡ b → b ≡ false
              from false is = refl
              from true is = not_so (sym unlanded ∙ (numbered run facts ordered).takes id is)

          by : (b : Bool) → is_waiting o ≡ b → IsAsked after (if b then record o { request = with_landing o.request; got = None; landed = Some how } else o)
          by true is = record {
            request = a.request;
            told = asked_same facts os id ∙ a.told;
            client = a.client;
            vol = a.vol;
            at = a.at;
            count = a.count;
            write = a.write;
            length = a.length;
            place = a.place ∙ sym (place_same facts os id);
            outcome = sym (outcome_after id ∙ ap (λ b. if b then outcome_in facts id else so_if (waits os id)) unlanded ∙ ap so_if waits_so);
            answered = λ e. answered_after o.request.client id (lands_after id ∙ ap (λ b. b || waits os id) unlanded ∙ waits_so) own (untaken unlanded);
          }
            where
              unlanded : list_any (lands_id id) facts ≡ false
              unlanded = (open_of facts id (begun_so is)).unlanded

              waits_so : waits os id ≡ true
              waits_so = sym (each id) ∙ begun_so is
          by false is = record {
            request = a.request;
            told = asked_same facts os id ∙ a.told;
            client = a.client;
            vol = a.vol;
            at = a.at;
            count = a.count;
            write = a.write;
            length = a.length;
            place = a.place ∙ sym (place_same facts os id);
            outcome = a.outcome ∙ sym (outcome_after id ∙ ap (λ b. if b then outcome_in facts id else so_if (waits os id)) landed);
            answered = λ e. answered_after o.request.client id (lands_after id ∙ ap (λ b. b || waits os id) landed) own (is_false (list_any (takes_id id) facts) parts.1);
          }
            where
              parts : (is_some (asked facts id) && (request_of facts id).client == o.request.client && list_any (lands_id id) facts ≡ true) × (not (list_any (takes_id id) facts) ≡ true)
              parts = both (is_some (asked facts id) && (request_of facts id).client == o.request.client && list_any (lands_id id) facts) (not (list_any (takes_id id) facts)) (a.answered is)

              landed : list_any (lands_id id) facts ≡ true
              landed = and_right (is_some (asked facts id) && (request_of facts id).client == o.request.client) (list_any (lands_id id) facts) parts.0

      pub requests_after : AllByRecursion (IsAsked after) (map (ended_as how) os)
      requests_after = mapped_two (IsAsked facts) (λ (o : Open). is_waiting o ≡ true → is_open facts o.request.id ≡ true) (IsAsked after) (ended_as how) asked_after os requests table.still

-- ---- what was in hand comes back

at_most_one : (b : Bool) → count_if b ≤ 1
at_most_one true = omega arith
at_most_one false = omega arith

pub back : (pool : List Bool) (got : Option Buffer) (n : ℕ) → count_if (is_hand n got) ≤ count_if (slice_index_or pool n false) → count_if (slice_index_or (with_back pool got) n false) + count_if (is_hand n got) ≡ count_if (slice_index_or pool n false)
back pool None n low = omega arith
back pool (Some buf) n low = by (buf.number == n) refl
  where
    by : (b : Bool) → (buf.number == n) ≡ b → count_if (slice_index_or (slice_set pool buf.number false) n false) + count_if (buf.number == n) ≡ count_if (slice_index_or pool n false)
    by true is =
        let here : count_if (slice_index_or (slice_set pool buf.number false) n false) ≡ 0 = ap (λ k. count_if (slice_index_or (slice_set pool k false) n false)) (eqb-true buf.number n is) ∙ ap count_if (at_set pool n) in
        let one : count_if (buf.number == n) ≡ 1 = ap count_if is in
        let most = at_most_one (slice_index_or pool n false) in
        omega (arith, here, one, most, low)
    by false is =
        let same : count_if (slice_index_or (slice_set pool buf.number false) n false) ≡ count_if (slice_index_or pool n false) = ap count_if (beside_set pool buf.number n (λ e. eqb-false buf.number n is (sym e))) in
        let none : count_if (buf.number == n) ≡ 0 = ap count_if is in
        omega (arith, same, none)

pub hands_back : (os : List Open) (pool : List Bool) (n : ℕ) → count_by (λ (o : Open). is_hand n o.got) os ≤ count_if (slice_index_or pool n false)
    → count_if (slice_index_or (with_hands pool os) n false) + count_by (λ (o : Open). is_hand n o.got) os ≡ count_if (slice_index_or pool n false)
hands_back [] pool n low = omega arith
hands_back (o ∷ os) pool n low =
    let all = count_cons (λ (x : Open). is_hand n x.got) o os in
    let one = back pool o.got n (omega (arith, low, all)) in
    let rest = hands_back os (with_back pool o.got) n (omega (arith, low, all, one)) in
    omega (arith, all, one, rest)

pub none_in_hand : (os : List Open) (n : ℕ) → AllByRecursion IsLanded os → count_by (λ (o : Open). is_hand n o.got) os ≡ 0
none_in_hand [] n all = refl
none_in_hand (o ∷ os) n all =
    let cons = count_cons (λ (x : Open). is_hand n x.got) o os in
    let one : count_if (is_hand n o.got) ≡ 0 = ap (λ h. count_if (is_hand n h)) all.0.hand in
    let rest = none_in_hand os n all.1 in
    omega (arith, cons, one, rest)

-- the pool keeps its length
pub back_long : (pool : List Bool) (got : Option Buffer) → length (with_back pool got) ≡ length pool
back_long pool None = refl
back_long pool (Some buf) = length_set pool buf.number false

pub hands_long : (os : List Open) (pool : List Bool) → length (with_hands pool os) ≡ length pool
hands_long [] pool = refl
hands_long (o ∷ os) pool = hands_long os (with_back pool o.got) ∙ back_long pool o.got

-- so do all of them, with the copy's
pub pool_after : (core : Core) (n : ℕ) → hands_with core n ≤ count_if (slice_index_or core.pool n false)
    → count_if (slice_index_or (with_hands (with_back core.pool (hand_of_copy core.copy)) core.requests) n false) + hands_with core n ≡ count_if (slice_index_or core.pool n false)
pool_after core n low =
    let one = back core.pool (hand_of_copy core.copy) n (omega (arith, low)) in
    let rest = hands_back core.requests (with_back core.pool (hand_of_copy core.copy)) n (omega (arith, low, one)) in
    omega (arith, one, rest)

-- ---- the copy

pub no_copy_hand : (m : Option OpenCopy) → hand_of_copy (option_map ended_copy m) ≡ None
no_copy_hand None = refl
no_copy_hand (Some c) = refl

end_after : (m : Option CopyEnd) → is_none (if is_some m then m else Some ending.Ended) ≡ false
end_after None = refl
end_after (Some how) = refl

pub copy_over : (m : Option OpenCopy) → IfSome (option_map ended_copy m) (λ (c : OpenCopy). (is_running c ≡ false) × (c.step ≡ step.Idle))
copy_over None = tt
copy_over (Some c) = (end_after c.end, refl)

-- one that failed by the end of the session had failed before
pub failed_before : (m : Option CopyEnd) → (if is_some m then m else Some ending.Ended) ≡ Some ending.SyncFailed → m ≡ Some ending.SyncFailed
failed_before None e = absurd (let same : ending.Ended ≡ ending.SyncFailed = cc e in cc)
failed_before (Some how) e = e

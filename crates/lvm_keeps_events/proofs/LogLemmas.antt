-- What the history tells as a request lands.
use Rattle.std.proofs.Common.{◌≡◌, ◌==◌, ◌≤◌, ℕ, zero, suc, Bool, true, false, ◌&&◌, ◌||◌, not, List, [], ◌∷◌, ◌++◌, Option, Some, None, length, slice_get, slice_set, refl, sym, ◌∙◌, ap, subst, arith, if◌then◌else◌}
use Rattle.std.specs.Prelude.{MatchBool, is_some, take, unwrap_or}
use Rattle.std.specs.List.{list_any, remove, AllByRecursion}
use Rattle.std.proofs.lemmas.Bool.{eq-eqb, eqb-true, ne_eqb}
use Rattle.lvm_num.specs.Buffer.{Buffer, Sector}
use Rattle.lvm_num.proofs.Booleans.{or_true, or_false, not_so}
use Rattle.lvm_num.proofs.Lists.{all_at}
use Rattle.lvm_vol.specs.declared.entry.Outcome.{Outcome}
use Rattle.lvm_vol.specs.Facts.{Fact, Request as Asked, Landed}
use Rattle.lvm_vol.specs.Log.{asked, is_got, is_open, lands_id, no_request, request_of, takes_id}
use Rattle.lvm_vol.specs.Order.{IsGotOf, Ordered}
use Rattle.lvm_vol.proofs.LogLemmas.{IsOpen, open_of}
use Rattle.lvm_vol.proofs.FactsLemmas.Order.{any-push, numbered, ordered-push}
use Rattle.lvm_session.specs.declared.open.Open.{Open}
use Rattle.lvm_session.specs.Judging.{is_waiting}
use Rattle.lvm_session.specs.Dark.{AreTold}
use Rattle.lvm_session.specs.Events.{got_blocks, landed_as}
use Rattle.lvm_session.specs.Sound.{IsAsked, outcome_by, outcome_in, waits}
use Rattle.lvm_keeps.proofs.Lists.{any_set}
use Rattle.lvm_keeps.proofs.DarkLemmas.Tables.{apart, ascending_set}
use Rattle.lvm_keeps.proofs.SoundLemmas.Telling.{asked_still, open_still, place_still, told_more}
use Rattle.lvm_keeps_events.proofs.SoundLemmas.Tables.{all_set_beside, only_set}

-- ---- what it has got

take_long : {A : Type 0} (n : ℕ) (xs : List A) → n ≤ length xs → length (take n xs) ≡ n
take_long zero xs low = refl
take_long (suc n) [] low = absurd (omega (arith, low))
take_long (suc n) (x ∷ xs) low = ap suc (take_long n xs (omega (arith, low)))

-- nothing, or as many blocks as it asked for
pub got_is : (r : Asked) (how : Outcome) (write : Bool) (count : ℕ) (got : Option Buffer) → r.count ≡ count → r.write ≡ write → is_got how ≡ is_some got → (write ≡ true → is_some got ≡ false)
    → ((buf : Buffer) → got ≡ Some buf → count ≤ length buf.sectors) → IsGotOf r how (got_blocks count got)
got_is r how write count None same_count same_write is read long = subst (λ b. MatchBool b ((length (got_blocks count None) ≡ r.count) × (r.write ≡ true → got_blocks count None ≡ r.blocks)) (got_blocks count None ≡ [])) (sym is) refl
got_is r how write count (Some buf) same_count same_write is read long =
    subst (λ b. MatchBool b ((length (take count buf.sectors) ≡ r.count) × (r.write ≡ true → take count buf.sectors ≡ r.blocks)) (take count buf.sectors ≡ [])) (sym is)
    (take_long count buf.sectors (long buf refl) ∙ sym same_count, λ e. not_so (sym (read (sym same_write ∙ e))))

outcome_now : (facts : List Fact) (f : Fact) (id : ℕ) → list_any (lands_id id) facts ≡ false → lands_id id f ≡ true → outcome_in (facts ++ f ∷ []) id ≡ outcome_by f
outcome_now [] f id none lands = ap (λ b. if b then outcome_by f else None) lands
outcome_now (g ∷ facts) f id none lands = by (lands_id id g) (λ e. outcome_now facts f id e lands) none
  where
    by : (b : Bool) → (list_any (lands_id id) facts ≡ false → outcome_in (facts ++ f ∷ []) id ≡ outcome_by f) → b || list_any (lands_id id) facts ≡ false → (if b then outcome_by g else outcome_in (facts ++ f ∷ []) id) ≡ outcome_by f
    by true rest e = not_so (sym e)
    by false rest e = rest e

-- ---- the entry

module _ (run : ℕ) (facts : List Fact) (os : List Open) (ordered : Ordered run [] facts) (table : AreTold facts os) (each : (id : ℕ) → is_open facts id ≡ waits os id) (requests : AllByRecursion (IsAsked facts) os)
    (place : ℕ) (o : Open) (there : slice_get os place ≡ Some o) (waiting : is_waiting o ≡ true) (how : Outcome) (started : Bool) (got : List Sector) (its_got : IsGotOf (request_of facts o.request.id) how got) where
  abbrev id : ℕ
  id = o.request.id

  abbrev fact : Fact
  fact = Landed (request_of facts id) how started got

  abbrev pub after : List Fact
  after = facts ++ fact ∷ []

  abbrev left : List Open
  left = slice_set os place (landed_as how o)

  still : is_open facts id ≡ true
  still = all_at (λ (x : Open). is_waiting x ≡ true → is_open facts x.request.id ≡ true) os place o table.still there waiting

  its : IsOpen facts id
  its = open_of facts id still

  own : (n : ℕ) → lands_id n fact ≡ (id == n)
  own n = ap (λ i. i == n) its.its.own

  others : AllByRecursion (λ (x : Open). x.request.id ≡ id → ⊥) (remove os place)
  others = apart os place o there table.ascending

  other_lands : (x : Open) → (x.request.id ≡ id → ⊥) → lands_id x.request.id fact ≡ false
  other_lands x other = own x.request.id ∙ ne_eqb id x.request.id (λ e. other (sym e))

  pub ordered_after : Ordered run [] after
  ordered_after = ordered-push run [] facts fact ordered (its.its.began, ap (λ n. list_any (lands_id n) facts) its.its.own ∙ its.unlanded, its_got)

  pub table_after : AreTold after left
  table_after = record {
    ascending = ascending_set o (landed_as how o) refl os place there table.ascending;
    still = all_set_beside Still (λ (x : Open). x.request.id ≡ id → ⊥) StillNow (λ x other is w. open_still facts fact refl x.request.id (other_lands x other) ∙ is w) os place (landed_as how o) (λ w. not_so w) others table.still;
  }
    where
      Still : Open → Type 0
      Still x = is_waiting x ≡ true → is_open facts x.request.id ≡ true

      StillNow : Open → Type 0
      StillNow x = is_waiting x ≡ true → is_open after x.request.id ≡ true

  landed_now : list_any (lands_id id) after ≡ true
  landed_now = any-push (lands_id id) facts fact ∙ ap (λ b. list_any (lands_id id) facts || b) (own id ∙ eq-eqb id id refl) ∙ or_true (list_any (lands_id id) facts)

  pub each_after : (n : ℕ) → is_open after n ≡ waits left n
  each_after n = by (id == n) refl
    where
      and_false : (a : Bool) → a && false ≡ false
      and_false true = refl
      and_false false = refl

      by : (b : Bool) → (id == n) ≡ b → is_open after n ≡ waits left n
      by false other = open_still facts fact refl n (own n ∙ other) ∙ each n ∙ sym (any_set (λ (x : Open). is_waiting x && x.request.id == n) os place o (landed_as how o) there (sym (ap (λ b. is_waiting o && b) other ∙ and_false (is_waiting o))))
      by true same =
          ap (λ b. is_some (asked after n) && not b) (ap (λ i. list_any (lands_id i) after) (sym (eqb-true id n same)) ∙ landed_now) ∙ and_false (is_some (asked after n))
          ∙ sym (only_set (λ (x : Open). is_waiting x && x.request.id == n) os place o (landed_as how o) there others
          (λ x other. ap (λ b. is_waiting x && b) (ne_eqb x.request.id n (λ e. other (e ∙ sym (eqb-true id n same)))) ∙ and_false (is_waiting x)))

  -- ---- the others, and itself

  asked_on : (x : Open) → (x.request.id ≡ id → ⊥) → IsAsked facts x → IsAsked after x
  asked_on x other a = told_more facts fact refl x (other_lands x other) refl a

  untaken : list_any (takes_id id) after ≡ false
  untaken = any-push (takes_id id) facts fact ∙ or_false (list_any (takes_id id) facts) ∙ by (list_any (takes_id id) facts) refl
    where
      by : (b : Bool) → list_any (takes_id id) facts ≡ b → b ≡ false
      by false is = refl
      by true is = not_so (sym its.unlanded ∙ (numbered run facts ordered).takes id is)

  its_asked : IsAsked facts o → IsAsked after (landed_as how o)
  its_asked a = record {
    request = a.request;
    told = asked_still facts fact refl id ∙ a.told;
    client = a.client;
    vol = a.vol;
    at = a.at;
    count = a.count;
    write = a.write;
    length = a.length;
    place = a.place ∙ sym (place_still facts fact refl id);
    outcome = sym (outcome_now facts fact id its.unlanded (own id ∙ eq-eqb id id refl));
    answered = λ e.
        ap (λ m. is_some m && (unwrap_or m no_request).client == o.request.client && list_any (lands_id id) after && not (list_any (takes_id id) after)) (asked_still facts fact refl id ∙ a.told)
        ∙ ap (λ b. b && list_any (lands_id id) after && not (list_any (takes_id id) after)) (eq-eqb a.request.client o.request.client a.client)
        ∙ ap (λ b. b && not (list_any (takes_id id) after)) landed_now ∙ ap not untaken;
  }

  pub requests_after : AllByRecursion (IsAsked after) left
  requests_after = all_set_beside (IsAsked facts) (λ (x : Open). x.request.id ≡ id → ⊥) (IsAsked after) asked_on os place (landed_as how o) (its_asked (all_at (IsAsked facts) os place o requests there)) others requests

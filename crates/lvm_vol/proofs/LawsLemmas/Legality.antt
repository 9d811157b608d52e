-- How a legal history grows.
use Rattle.std.proofs.Common.{◌≡◌, ◌⊎◌, inl, inr, ⊎_elim, ℕ, ◌+◌, ◌≤◌, ◌<◌, ◌&&◌, ◌||◌, ◌==◌, Bool, true, false, cond, List, [], ◌∷◌, ◌++◌, count_by, Option, refl, sym, ◌∙◌, ap, subst, arith, append_assoc}
use Rattle.std.specs.List.{list_any}
use Rattle.std.proofs.lemmas.List.{append-nil}
use Rattle.std.proofs.lemmas.List.Sums.{sum_by-append, sum_by-cons, sum_by_push}
use Rattle.std.proofs.lemmas.List.Folds.{list_any-append}
use Rattle.std.proofs.lemmas.Bool.Decides.{nat_tests}
use Rattle.std.proofs.lemmas.Bool.{eqb-true, or_parts, or_cases, and_parts, or_left}
use Rattle.lvm_vol.specs.declared.entry.Outcome.{Outcome}
use Rattle.lvm_vol.specs.declared.entry.Vol.{Vol}
use Rattle.lvm_vol.specs.Facts.{Request, Fact, Making, Made, Split, Removing, Removed, Begun, Landed, Taken, Cut, On, IsInList, same_request, joined}
use Rattle.lvm_vol.specs.Legal.{begins_in, lands, takes, IsOutcomeOf, GotMay, Fits, LegalFrom, Legal}
use Rattle.lvm_vol.specs.Laws.{LegalPrefix, LegalPush, LegalThrough}
use Rattle.lvm_vol.specs.Log.{Log, next_request, request_of, lands_id, takes_id, is_open, is_answered}
use Rattle.lvm_vol.specs.Order.{Ordered}
use Rattle.lvm_vol.proofs.FactsLemmas.Order.{stands-push, stands_last, stands_left, stands_begun, any-push, IsNumbered, numbered}
use Rattle.lvm_vol.proofs.LogLemmas.{open_of, follows_taken}

legal_more : (past facts : List Fact) (f : Fact) → LegalFrom past facts → Fits (past ++ facts) f → LegalFrom past (facts ++ f ∷ [])
legal_more past [] f legal fits = (subst (λ (l : List Fact). Fits l f) (append-nil past) fits, tt)
legal_more past (g ∷ facts) f legal fits =
    (legal.0, legal_more (past ++ g ∷ []) facts f legal.1 (subst (λ (l : List Fact). Fits l f) (sym (append_assoc past (g ∷ []) facts)) fits))

legal_less : (past facts : List Fact) (f : Fact) → LegalFrom past (facts ++ f ∷ []) → LegalFrom past facts × Fits (past ++ facts) f
legal_less past [] f legal = (tt, subst (λ (l : List Fact). Fits l f) (sym (append-nil past)) legal.0)
legal_less past (g ∷ facts) f legal =
    let rest = legal_less (past ++ g ∷ []) facts f legal.1 in
    ((legal.0, rest.0), subst (λ (l : List Fact). Fits l f) (append_assoc past (g ∷ []) facts) rest.1)

pub legal_push : LegalPush
legal_push facts f = (legal_less [] facts f, λ both. legal_more [] facts f both.0 both.1)

prefix_from : (before past facts : List Fact) → LegalFrom before (past ++ facts) → LegalFrom before past
prefix_from before [] facts legal = tt
prefix_from before (f ∷ past) facts legal = (legal.0, prefix_from (before ++ f ∷ []) past facts legal.1)

pub legal_prefix : LegalPrefix
legal_prefix past facts legal = prefix_from [] past facts legal

-- what each entry that fits keeps holds of a legal history
pub grow_legal : (Q : List Fact → Type 0) → ((past : List Fact) (f : Fact) → Q past → Fits past f → Q (past ++ f ∷ [])) → (past facts : List Fact) → Q past → LegalFrom past facts → Q (past ++ facts)
grow_legal Q step past [] q legal = subst Q (sym (append-nil past)) q
grow_legal Q step past (f ∷ facts) q legal = subst Q (append_assoc past (f ∷ []) facts) (grow_legal Q step (past ++ f ∷ []) facts (step past f q legal.0) legal.1)

-- each request has a number up to the count of those of its run, and lands before it is taken
pub record IsCountedWell (past : List Fact) : Type 0 where
  pub begun_low : (r : Request) → IsInList (Begun r) past → (1 ≤ r.id) × (r.id ≤ count_by (begins_in r.run) past)
  pub landed_low : (r : Request) → list_any (lands r) past ≡ true → (1 ≤ r.id) × (r.id ≤ count_by (begins_in r.run) past)
  pub taken_landed : (r : Request) → list_any (takes r) past ≡ true → list_any (lands r) past ≡ true

count-push : (run : ℕ) (past : List Fact) (f : Fact) → count_by (begins_in run) (past ++ f ∷ []) ≡ count_by (begins_in run) past + cond (begins_in run f) 1 0
count-push run past f = sum_by_push (λ (g : Fact). cond (begins_in run g) 1 0) past f

-- requests of one name have one run and one number
same_name : (r s : Request) → same_request r s ≡ true → (r.run ≡ s.run) × (r.id ≡ s.id)
same_name r s same = let both = and_parts (r.run == s.run) (r.id == s.id) same in (eqb-true r.run s.run both.0, eqb-true r.id s.id both.1)

landing_counted : (past : List Fact) (f : Fact) (r : Request) → IsCountedWell past → Fits past f → lands r f ≡ true → (1 ≤ r.id) × (r.id ≤ count_by (begins_in r.run) past)
landing_counted past (Landed s how started got) r q fits is =
    let names = same_name r s is in
    let its = q.begun_low s fits.began in
    let low = its.0 in let high = its.1 in let id_same = names.1 in
    let c : count_by (begins_in r.run) past ≡ count_by (begins_in s.run) past = ap (λ (n : ℕ). count_by (begins_in n) past) names.0 in
    (omega (arith, low, id_same), omega (arith, high, id_same, c))
landing_counted past (Making lv blocks m) r q fits is = absurd (let e : ◌≡◌ {A = Bool} false true = is in cc)
landing_counted past (Made lv) r q fits is = absurd (let e : ◌≡◌ {A = Bool} false true = is in cc)
landing_counted past (Split from lv) r q fits is = absurd (let e : ◌≡◌ {A = Bool} false true = is in cc)
landing_counted past (Removing vol) r q fits is = absurd (let e : ◌≡◌ {A = Bool} false true = is in cc)
landing_counted past (Removed vol) r q fits is = absurd (let e : ◌≡◌ {A = Bool} false true = is in cc)
landing_counted past (Begun s) r q fits is = absurd (let e : ◌≡◌ {A = Bool} false true = is in cc)
landing_counted past (Taken s) r q fits is = absurd (let e : ◌≡◌ {A = Bool} false true = is in cc)
landing_counted past Cut r q fits is = absurd (let e : ◌≡◌ {A = Bool} false true = is in cc)
landing_counted past (On moment) r q fits is = absurd (let e : ◌≡◌ {A = Bool} false true = is in cc)

taking_landed : (past : List Fact) (f : Fact) (r : Request) → Fits past f → takes r f ≡ true → list_any (lands r) past ≡ true
taking_landed past (Taken s) r fits is = by_name (same_name r s is)
  where
    by_name : (r.run ≡ s.run) × (r.id ≡ s.id) → list_any (lands r) past ≡ true
    by_name names = alike past ∙ fits.answered
      where
        alike : (l : List Fact) → list_any (lands r) l ≡ list_any (lands s) l
        alike l = ap (λ (n : ℕ). list_any (lands (record r { run = n })) l) names.0 ∙ ap (λ (n : ℕ). list_any (lands (record r { run = s.run; id = n })) l) names.1
taking_landed past _ r fits is = absurd (let e : ◌≡◌ {A = Bool} false true = is in cc)

counted_step : (past : List Fact) (f : Fact) → IsCountedWell past → Fits past f → IsCountedWell (past ++ f ∷ [])
counted_step past f q fits = record {
  begun_low = λ r there. ⊎_elim
      (λ old. let its = q.begun_low r old in let low = its.0 in let high = its.1 in (low, omega (arith, high, count-push r.run past f)))
      (λ new. newest r new)
      (stands-push past f (Begun r) there);
  landed_low = λ r is. ⊎_elim
      (λ old. let its = q.landed_low r old in let low = its.0 in let high = its.1 in (low, omega (arith, high, count-push r.run past f)))
      (λ new. let its = landing_counted past f r q fits new in let low = its.0 in let high = its.1 in (low, omega (arith, high, count-push r.run past f)))
      (or_cases (list_any (lands r) past) (lands r f) (sym (any-push (lands r) past f) ∙ is));
  taken_landed = λ r is. any-push (lands r) past f ∙ or_left (list_any (lands r) past) (lands r f) (⊎_elim
      (λ old. q.taken_landed r old)
      (λ new. taking_landed past f r fits new)
      (or_cases (list_any (takes r) past) (takes r f) (sym (any-push (takes r) past f) ∙ is)));
}
  where
    newest : (r : Request) → f ≡ Begun r → (1 ≤ r.id) × (r.id ≤ count_by (begins_in r.run) (past ++ f ∷ []))
    newest r is =
        let next : r.id ≡ count_by (begins_in r.run) past + 1 = subst (λ (g : Fact). Fits past g) is fits in
        let one : ◌≡◌ {A = ℕ} (cond (begins_in r.run f) 1 0) 1 = ap (λ (g : Fact). cond (begins_in r.run g) 1 0) is ∙ (let e : (r.run == r.run) ≡ true = grind (arith, nat_tests) in ap (λ (t : Bool). cond t 1 0) e) in
        let c = count-push r.run past f in
        (omega (arith, next), omega (arith, next, one, c))

pub counted_well : (facts : List Fact) → Legal facts → IsCountedWell facts
counted_well facts legal = grow_legal IsCountedWell counted_step [] facts
    (record { begun_low = λ r none. absurd none; landed_low = λ r none. absurd (let e : ◌≡◌ {A = Bool} false true = none in cc); taken_landed = λ r none. absurd (let e : ◌≡◌ {A = Bool} false true = none in cc) }) legal

-- a request whose number is above those that began has neither landed nor been taken
pub unlanded : (facts : List Fact) (r : Request) → Legal facts → count_by (begins_in r.run) facts < r.id → list_any (lands r) facts ≡ false
unlanded facts r legal above = by_answer (list_any (lands r) facts) refl
  where
    by_answer : (t : Bool) → list_any (lands r) facts ≡ t → t ≡ false
    by_answer false is = refl
    by_answer true is = let q = counted_well facts legal in let its = q.landed_low r is in let high = its.1 in absurd (omega (arith, high, above))

pub untaken : (facts : List Fact) (r : Request) → Legal facts → list_any (lands r) facts ≡ false → list_any (takes r) facts ≡ false
untaken facts r legal none = by_answer (list_any (takes r) facts) refl
  where
    by_answer : (t : Bool) → list_any (takes r) facts ≡ t → t ≡ false
    by_answer false is = refl
    by_answer true is = let q = counted_well facts legal in let e = q.taken_landed r is in absurd (cc)

any_no : (t : Fact → Bool) (past : List Fact) (f : Fact) → list_any t past ≡ false → t f ≡ false → list_any t (past ++ f ∷ []) ≡ false
any_no t past f none last = any-push t past f ∙ ap (λ (b : Bool). b || t f) none ∙ last

any_last : (t : Fact → Bool) (past : List Fact) (f : Fact) → t f ≡ true → list_any t (past ++ f ∷ []) ≡ true
any_last t past f is = any-push t past f ∙ ap (λ (b : Bool). list_any t past || b) is ∙ or_true (list_any t past)
  where
    or_true : (a : Bool) → (a || true) ≡ true
    or_true true = refl
    or_true false = refl

pub same_self : (r : Request) → same_request r r ≡ true
same_self r =
    let a : (r.run == r.run) ≡ true = grind (arith, nat_tests) in
    let b : (r.id == r.id) ≡ true = grind (arith, nat_tests) in
    ap (λ (t : Bool). t && (r.id == r.id)) a ∙ b

pub legal_begun : (facts : List Fact) (r : Request) → Legal facts → r.id ≡ count_by (begins_in r.run) facts + 1 → Legal (facts ++ Begun r ∷ [])
legal_begun facts r legal next = (legal_push facts (Begun r)).1 (legal, next)

pub legal_through : LegalThrough
legal_through facts r how started got legal next kind may =
    let none = unlanded facts r legal (omega arith) in
    let not_taken = untaken facts r legal none in
    let f : Fact = Begun r in let g : Fact = Landed r how started got in
    let begun_legal = legal_begun facts r legal next in
    let landed_legal = (legal_push (facts ++ f ∷ []) g).1 (begun_legal, record { began = stands_last facts (Begun r); first = any_no (lands r) facts f none refl; kind = kind; reads = may }) in
    (legal_push (facts ++ f ∷ [] ++ g ∷ []) (Taken r)).1 (
      landed_legal,
      record {
        began = stands_left (facts ++ f ∷ []) (g ∷ []) (Begun r) (stands_last facts (Begun r));
        answered = any_last (lands r) (facts ++ f ∷ []) g (same_self r);
        first = any_no (takes r) (facts ++ f ∷ []) g (any_no (takes r) facts f not_taken refl) refl;
      },
    )

-- histories of several runs

pub joined-push : (past facts : List Fact) (f : Fact) → joined past (facts ++ f ∷ []) ≡ joined past facts ++ f ∷ []
joined-push past facts f = sym (append_assoc past (Cut ∷ facts) (f ∷ []))

pub legal_joined_none : (past : List Fact) → Legal past → Legal (joined past [])
legal_joined_none past legal = (legal_push past Cut).1 (legal, tt)

pub legal_joined_push : (past facts : List Fact) (f : Fact) → Legal (joined past facts) → Fits (joined past facts) f → Legal (joined past (facts ++ f ∷ []))
legal_joined_push past facts f legal fits = subst Legal (sym (joined-push past facts f)) ((legal_push (joined past facts) f).1 (legal, fits))

-- where no request of the run stands in the earlier history, its requests are counted by its own
pub count-joined : (run : ℕ) (past facts : List Fact) → count_by (begins_in run) past ≡ 0 → count_by (begins_in run) (joined past facts) ≡ count_by (begins_in run) facts
count-joined run past facts none =
    let a : count_by (begins_in run) (joined past facts) ≡ count_by (begins_in run) past + count_by (begins_in run) (Cut ∷ facts) = sum_by-append (λ (g : Fact). cond (begins_in run g) 1 0) past (Cut ∷ facts) in
    let b : count_by (begins_in run) (Cut ∷ facts) ≡ 0 + count_by (begins_in run) facts = sum_by-cons (λ (g : Fact). cond (begins_in run g) 1 0) Cut facts in
    omega (arith, a, b, none)

pub any-joined : (t : Fact → Bool) (past facts : List Fact) → t Cut ≡ false → list_any t (joined past facts) ≡ (list_any t past || list_any t facts)
any-joined t past facts cut = list_any-append t past (Cut ∷ facts) ∙ ap (λ (b : Bool). list_any t past || (b || list_any t facts)) cut

pub stands_joined : (past facts : List Fact) (f : Fact) → IsInList f facts → IsInList f (joined past facts)
stands_joined [] facts f there = inr there
stands_joined (g ∷ past) facts f there = inr (stands_joined past facts f there)

-- nor has a request of that run landed or been taken there
pub none_landed : (past : List Fact) (r : Request) → Legal past → count_by (begins_in r.run) past ≡ 0 → list_any (lands r) past ≡ false
none_landed past r legal none = by_answer (list_any (lands r) past) refl
  where
    by_answer : (t : Bool) → list_any (lands r) past ≡ t → t ≡ false
    by_answer false is = refl
    by_answer true is = let q = counted_well past legal in let its = q.landed_low r is in let low = its.0 in let high = its.1 in absurd (omega (arith, low, high, none))

pub none_taken : (past : List Fact) (r : Request) → Legal past → count_by (begins_in r.run) past ≡ 0 → list_any (takes r) past ≡ false
none_taken past r legal none = untaken past r legal (none_landed past r legal none)

-- The next request of a run may begin, whatever stood before the run.
pub fits_begun : (past : List Fact) (log : Log) (client : ℕ) (vol : Vol) (at count : ℕ) (given : Option (List ℕ)) → count_by (begins_in log.run) past ≡ 0
    → Fits (joined past log.facts) (Begun (next_request log client vol at count given))
fits_begun past log client vol at count given none = ap (λ (n : ℕ). n + 1) (sym (count-joined log.run past log.facts none))

any_fewer : (t u : Fact → Bool) (facts : List Fact) → ((f : Fact) → t f ≡ true → u f ≡ true) → list_any u facts ≡ false → list_any t facts ≡ false
any_fewer t u [] implies none = refl
any_fewer t u (f ∷ facts) implies none = by_test (t f) refl (any_fewer t u facts implies (or_parts (u f) (list_any u facts) none).1)
  where
    by_test : (b : Bool) → t f ≡ b → list_any t facts ≡ false → list_any t (f ∷ facts) ≡ false
    by_test false is rest = ap (λ (c : Bool). c || list_any t facts) is ∙ rest
    by_test true is rest = let e = implies f is in let d = (or_parts (u f) (list_any u facts) none).0 in absurd (cc)

any_more : (t u : Fact → Bool) (facts : List Fact) → ((f : Fact) → IsInList f facts → u f ≡ true → t f ≡ true) → list_any u facts ≡ true → list_any t facts ≡ true
any_more t u [] implies some = some
any_more t u (f ∷ facts) implies some = ⊎_elim
    (λ here. ap (λ (c : Bool). c || list_any t facts) (implies f (inl refl) here))
    (λ later. or_true (t f) (list_any t facts) (any_more t u facts (λ g there is. implies g (inr there) is) later))
    (or_cases (u f) (list_any u facts) some)
  where
    or_true : (a b : Bool) → b ≡ true → (a || b) ≡ true
    or_true true b is = refl
    or_true false b is = is

by_number : (r : Request) (f : Fact) → lands r f ≡ true → lands_id r.id f ≡ true
by_number r (Landed s how started got) is = let names = same_name r s is in ap (λ (n : ℕ). s.id == n) names.1 ∙ equal s.id
  where
    equal : (n : ℕ) → (n == n) ≡ true
    equal n = grind (arith, nat_tests)
by_number r _ is = is

taken_by_number : (r : Request) (f : Fact) → takes r f ≡ true → takes_id r.id f ≡ true
taken_by_number r (Taken s) is = let names = same_name r s is in ap (λ (n : ℕ). s.id == n) names.1 ∙ equal s.id
  where
    equal : (n : ℕ) → (n == n) ≡ true
    equal n = grind (arith, nat_tests)
taken_by_number r _ is = is

by_name : (run : ℕ) (facts : List Fact) (r : Request) → IsNumbered run facts → r.run ≡ run → (f : Fact) → IsInList f facts → lands_id r.id f ≡ true → lands r f ≡ true
by_name run facts r q own (Landed s how started got) there is =
    let answer = q.landed s how started got there in
    let s_run = q.runs s answer.began in
    let same_id = eqb-true s.id r.id is in
    let a : (r.run == s.run) ≡ true = ap (λ (n : ℕ). r.run == n) (s_run ∙ sym own) ∙ equal r.run in
    let b : (r.id == s.id) ≡ true = ap (λ (n : ℕ). r.id == n) same_id ∙ equal r.id in
    ap (λ (t : Bool). t && (r.id == s.id)) a ∙ b
  where
    equal : (n : ℕ) → (n == n) ≡ true
    equal n = grind (arith, nat_tests)
by_name run facts r q own (Making lv blocks m) there is = is
by_name run facts r q own (Made lv) there is = is
by_name run facts r q own (Split from lv) there is = is
by_name run facts r q own (Removing vol) there is = is
by_name run facts r q own (Removed vol) there is = is
by_name run facts r q own (Begun s) there is = is
by_name run facts r q own (Taken s) there is = is
by_name run facts r q own Cut there is = is
by_name run facts r q own (On moment) there is = is

-- An open request may land as one of its kind may, whatever stood before the run.
pub fits_landed : (past : List Fact) (log : Log) (id : ℕ) (how : Outcome) (started : Bool) (got : List (List ℕ)) → Legal past → count_by (begins_in log.run) past ≡ 0 → Ordered log.run [] log.facts
    → is_open log.facts id ≡ true → IsOutcomeOf how (request_of log.facts id) started → GotMay (joined past log.facts) (request_of log.facts id) how got
    → Fits (joined past log.facts) (Landed (request_of log.facts id) how started got)
fits_landed past log id how started got legal none ordered still kind may =
    let r : Request = request_of log.facts id in
    let its = open_of log.facts id still in
    let q = numbered log.run log.facts ordered in
    let own : r.run ≡ log.run = q.runs r (stands_begun log.facts r its.its.began) in
    let past_none : list_any (lands r) past ≡ false = none_landed past r legal (ap (λ (n : ℕ). count_by (begins_in n) past) own ∙ none) in
    let facts_none : list_any (lands r) log.facts ≡ false = any_fewer (lands r) (lands_id r.id) log.facts (by_number r) (ap (λ (n : ℕ). list_any (lands_id n) log.facts) its.its.own ∙ its.unlanded) in
    record {
      began = stands_joined past log.facts (Begun r) its.its.began;
      first = any-joined (lands r) past log.facts refl ∙ ap (λ (b : Bool). b || list_any (lands r) log.facts) past_none ∙ facts_none;
      kind = kind;
      reads = may;
    }

-- A request that has landed may be taken, whatever stood before the run.
pub fits_taken : (past : List Fact) (log : Log) (client id : ℕ) → Legal past → count_by (begins_in log.run) past ≡ 0 → Ordered log.run [] log.facts
    → is_answered log.facts client id ≡ true → Fits (joined past log.facts) (Taken (request_of log.facts id))
fits_taken past log client id legal none ordered answered =
    let r : Request = request_of log.facts id in
    let its = follows_taken log.facts log.run client id answered in
    let follows = its.0 in
    let q = numbered log.run log.facts ordered in
    let own : r.run ≡ log.run = q.runs r (stands_begun log.facts r follows.0) in
    let past_none : list_any (takes r) past ≡ false = none_taken past r legal (ap (λ (n : ℕ). count_by (begins_in n) past) own ∙ none) in
    let facts_none : list_any (takes r) log.facts ≡ false = any_fewer (takes r) (takes_id r.id) log.facts (taken_by_number r) follows.2 in
    let landed_here : list_any (lands r) log.facts ≡ true = any_more (lands r) (lands_id r.id) log.facts (by_name log.run log.facts r q own) follows.1 in
    record {
      began = stands_joined past log.facts (Begun r) follows.0;
      answered = any-joined (lands r) past log.facts refl ∙ ap (λ (b : Bool). list_any (lands r) past || b) landed_here ∙ or_yes (list_any (lands r) past);
      first = any-joined (takes r) past log.facts refl ∙ ap (λ (b : Bool). b || list_any (takes r) log.facts) past_none ∙ facts_none;
    }
  where
    or_yes : (a : Bool) → (a || true) ≡ true
    or_yes true = refl
    or_yes false = refl

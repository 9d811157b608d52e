-- Reads stay reads, and what has landed has, as the history grows.
use Rattle.std.proofs.Common.{◌≡◌, ◌⊎◌, inl, inr, ◌==◌, ◌+◌, ℕ, Bool, true, false, ◌&&◌, ◌||◌, not, List, [], ◌∷◌, ◌++◌, Option, Some, None, find, refl, sym, ◌∙◌, ap, subst, append_assoc, if◌then◌else◌}
use Rattle.std.specs.Prelude.{is_some, unwrap_or}
use Rattle.std.specs.List.{list_any}
use Rattle.std.proofs.lemmas.List.{append-nil}
use Rattle.std.proofs.lemmas.List.Folds.{list_any-append}
use Rattle.lvm_num.proofs.Booleans.{or_false, not_so}
use Rattle.lvm_vol.specs.declared.entry.Outcome.{Outcome}
use Rattle.lvm_vol.specs.declared.entry.Outcome.TheVariants as outcome
use Rattle.lvm_vol.specs.Facts.{Fact, Request, Begun, IsInList, begun, begun_by}
use Rattle.lvm_vol.specs.Log.{asked, has_id, is_answered, is_open, lands_id, landed_fact, no_request, request_of, takes_id}
use Rattle.lvm_vol.specs.Order.{Ordered}
use Rattle.lvm_vol.proofs.FactsLemmas.Order.{any-push, numbered, stands_begun}
use Rattle.lvm_history.proofs.LogLemmas.Counting.{find_at}
use Rattle.lvm_path.specs.Targets.{is_begun}
use Rattle.lvm_session.specs.declared.open.Open.{Open}
use Rattle.lvm_session.specs.Dark.{landings}
use Rattle.lvm_session.specs.Judging.{is_waiting}
use Rattle.lvm_session.specs.Sound.{outcome_by, outcome_in}
use Rattle.lvm_session.specs.State.{Core}
use Rattle.lvm_keeps.proofs.DarkLemmas.Ending.{asked_same}
use Rattle.lvm_keeps.proofs.SoundLemmas.Telling.{asked_still, outcome_still}
use Rattle.lvm_ranges.specs.Keeping.{KeepsRequests}
use Rattle.lvm_ranges.specs.Reading.{AreReads, IsReadAt, NoRead, OneRead}

-- ---- how a request has landed

-- so it has landed before, or by the last entry
pub outcome_last : (facts : List Fact) (f : Fact) (id : ℕ) (how : Outcome) → outcome_in (facts ++ f ∷ []) id ≡ Some how → (outcome_in facts id ≡ Some how) ⊎ ((lands_id id f ≡ true) × (outcome_by f ≡ Some how))
outcome_last [] f id how is = by (lands_id id f) refl is
  where
    by : (b : Bool) → lands_id id f ≡ b → (if b then outcome_by f else None) ≡ Some how → (◌≡◌ {A = Option Outcome} None (Some how)) ⊎ ((lands_id id f ≡ true) × (outcome_by f ≡ Some how))
    by true lands e = inr (lands, e)
    by false lands e = inl e
outcome_last (g ∷ facts) f id how is = by (lands_id id g) (outcome_last facts f id how) is
  where
    by : (b : Bool) → (outcome_in (facts ++ f ∷ []) id ≡ Some how → (outcome_in facts id ≡ Some how) ⊎ ((lands_id id f ≡ true) × (outcome_by f ≡ Some how)))
        → (if b then outcome_by g else outcome_in (facts ++ f ∷ []) id) ≡ Some how → ((if b then outcome_by g else outcome_in facts id) ≡ Some how) ⊎ ((lands_id id f ≡ true) × (outcome_by f ≡ Some how))
    by true rest e = inl e
    by false rest e = rest e

-- and before, where none of more entries tells it
outcome_more : (facts more : List Fact) (id : ℕ) (how : Outcome) → (outcome_in more id ≡ Some how → ⊥) → outcome_in (facts ++ more) id ≡ Some how → outcome_in facts id ≡ Some how
outcome_more [] more id how none is = absurd (none is)
outcome_more (g ∷ facts) more id how none is = by (lands_id id g) (outcome_more facts more id how none) is
  where
    by : (b : Bool) → (outcome_in (facts ++ more) id ≡ Some how → outcome_in facts id ≡ Some how) → (if b then outcome_by g else outcome_in (facts ++ more) id) ≡ Some how → (if b then outcome_by g else outcome_in facts id) ≡ Some how
    by true rest e = e
    by false rest e = rest e

-- as a session ends nothing lands as Done
none_done : (how : Outcome) → (how ≡ outcome.Done → ⊥) → (facts : List Fact) (os : List Open) (id : ℕ) → outcome_in (landings how facts os) id ≡ Some outcome.Done → ⊥
none_done how other facts [] id is = absurd (cc is)
none_done how other facts (o ∷ os) id is = by (is_waiting o) (none_done how other facts os id) is
  where
    pick : (c : Bool) → (outcome_in (landings how facts os) id ≡ Some outcome.Done → ⊥) → (if c then Some how else outcome_in (landings how facts os) id) ≡ Some outcome.Done → ⊥
    pick true rest e = other (cc e)
    pick false rest e = rest e

    by : (b : Bool) → (outcome_in (landings how facts os) id ≡ Some outcome.Done → ⊥)
        → outcome_in (if b then landed_fact facts o.request.id how (is_begun o.request.targets.items) ∷ landings how facts os else landings how facts os) id ≡ Some outcome.Done → ⊥
    by true rest e = pick ((request_of facts o.request.id).id == id) rest e
    by false rest e = rest e

-- ---- how the history grows

-- no request begins, and no read lands as a write does
pub record Grows (old new : List Fact) : Type 0 where
  pub more : List Fact
  pub is : new ≡ old ++ more
  pub told : (id : ℕ) → asked new id ≡ asked old id
  pub done : (id : ℕ) (r : Request) → asked old id ≡ Some r → r.write ≡ false → outcome_in new id ≡ Some outcome.Done → outcome_in old id ≡ Some outcome.Done

pub grows_none : (facts : List Fact) → Grows facts facts
grows_none facts = record { more = []; is = sym (append-nil facts); told = λ id. refl; done = λ id r told read e. e }

pub grows_same : (old new : List Fact) → new ≡ old → Grows old new
grows_same old new same = subst (λ l. Grows old l) (sym same) (grows_none old)

pub grows_then : (old mid new : List Fact) → Grows old mid → Grows mid new → Grows old new
grows_then old mid new one two = record {
  more = one.more ++ two.more;
  is = two.is ∙ ap (λ (l : List Fact). l ++ two.more) one.is ∙ append_assoc old one.more two.more;
  told = λ id. two.told id ∙ one.told id;
  done = λ id r told read e. one.done id r told read (two.done id r (one.told id ∙ told) read e);
}

-- by an entry that is neither a beginning nor a landing
pub grows_quiet : (facts : List Fact) (f : Fact) → begun_by f ≡ None → ((id : ℕ) → lands_id id f ≡ false) → Grows facts (facts ++ f ∷ [])
grows_quiet facts f begins lands = record {
  more = f ∷ [];
  is = refl;
  told = asked_still facts f begins;
  done = λ id r told read e. sym (outcome_still facts f id (lands id)) ∙ e;
}

-- by all that land as the session ends
pub grows_ended : (how : Outcome) → (how ≡ outcome.Done → ⊥) → (facts : List Fact) (os : List Open) → Grows facts (facts ++ landings how facts os)
grows_ended how other facts os = record {
  more = landings how facts os;
  is = refl;
  told = asked_same how facts os;
  done = λ id r told read e. outcome_more facts (landings how facts os) id outcome.Done (none_done how other facts os id) e;
}

-- ---- the answers that are taken

-- none more is
abbrev pub SameTakings : List Fact → List Fact → Type 0
SameTakings old new = (id : ℕ) → list_any (takes_id id) new ≡ list_any (takes_id id) old

pub takings_same : (old new : List Fact) → new ≡ old → SameTakings old new
takings_same old new same id = ap (list_any (takes_id id)) same

pub takings_push : (facts : List Fact) (f : Fact) → ((id : ℕ) → takes_id id f ≡ false) → SameTakings facts (facts ++ f ∷ [])
takings_push facts f none id = any-push (takes_id id) facts f ∙ ap (λ b. list_any (takes_id id) facts || b) (none id) ∙ or_false (list_any (takes_id id) facts)

pub takings_ended : (how : Outcome) (before facts : List Fact) (os : List Open) → SameTakings before (before ++ landings how facts os)
takings_ended how before facts os id = list_any-append (takes_id id) before (landings how facts os) ∙ ap (λ b. list_any (takes_id id) before || b) (none_taken os) ∙ or_false (list_any (takes_id id) before)
  where
    none_taken : (os : List Open) → list_any (takes_id id) (landings how facts os) ≡ false
    none_taken [] = refl
    none_taken (o ∷ os) = by (is_waiting o) (none_taken os)
      where
        by : (b : Bool) → list_any (takes_id id) (landings how facts os) ≡ false
            → list_any (takes_id id) (if b then landed_fact facts o.request.id how (is_begun o.request.targets.items) ∷ landings how facts os else landings how facts os) ≡ false
        by true rest = rest
        by false rest = rest

-- so what is answered stays so
pub answered_on : (old new : List Fact) → Grows old new → SameTakings old new → (client id : ℕ) → is_answered old client id ≡ true → is_answered new client id ≡ true
answered_on old new grows takings client id is =
    ap (λ (m : Option Request). is_some m && (unwrap_or m no_request).client == client && list_any (lands_id id) new && not (list_any (takes_id id) new)) (grows.told id)
    ∙ ap (λ b. is_some (asked old id) && (unwrap_or (asked old id) no_request).client == client && list_any (lands_id id) new && not b) (takings id)
    ∙ ap (λ (l : List Fact). is_some (asked old id) && (unwrap_or (asked old id) no_request).client == client && list_any (lands_id id) l && not (list_any (takes_id id) old)) grows.is
    ∙ ap (λ b. is_some (asked old id) && (unwrap_or (asked old id) no_request).client == client && b && not (list_any (takes_id id) old)) (list_any-append (lands_id id) old grows.more)
    ∙ by (is_some (asked old id)) ((unwrap_or (asked old id) no_request).client == client) (list_any (lands_id id) old) (list_any (lands_id id) grows.more) (not (list_any (takes_id id) old)) is
  where
    by : (a b c d e : Bool) → a && b && c && e ≡ true → a && b && (c || d) && e ≡ true
    by false b c d e t = t
    by true false c d e t = t
    by true true false d e t = not_so t
    by true true true d e t = t

-- ---- what it leaves

open_stays : (old new : List Fact) → Grows old new → (id : ℕ) → is_open old id ≡ false → is_open new id ≡ false
open_stays old new grows id closed =
    ap (λ m. is_some m && not (list_any (lands_id id) new)) (grows.told id)
    ∙ ap (λ (l : List Fact). is_some (asked old id) && not (list_any (lands_id id) l)) grows.is
    ∙ ap (λ b. is_some (asked old id) && not b) (list_any-append (lands_id id) old grows.more)
    ∙ by (is_some (asked old id)) (list_any (lands_id id) old) (list_any (lands_id id) grows.more) closed
  where
    by : (a b c : Bool) → a && not b ≡ false → a && not (b || c) ≡ false
    by false b c e = refl
    by true true c e = refl
    by true false c e = not_so (sym e)

stands_in : (past rest : List Fact) (f : Fact) → IsInList f (past ++ f ∷ rest)
stands_in [] rest f = inl refl
stands_in (g ∷ past) rest f = inr (stands_in past rest f)

-- the history tells of a read that stands in it
is_told : (run : ℕ) (facts : List Fact) → Ordered run [] facts → (id place count : ℕ) (read : IsReadAt facts id place count) → asked facts id ≡ Some read.request
is_told run facts ordered id place count read =
    ap (λ n. find (has_id n) (begun facts)) (sym read.own)
    ∙ find_at 1 (begun facts) read.request (numbered run facts ordered).ids (stands_begun facts read.request (subst (λ (l : List Fact). IsInList (Begun read.request) l) (sym read.is) (stands_in read.past read.rest (Begun read.request))))

read_stays : (run : ℕ) (old new : List Fact) → Ordered run [] old → Grows old new → (id place count : ℕ) → IsReadAt old id place count → IsReadAt new id place count
read_stays run old new ordered grows id place count read = record {
  past = read.past;
  rest = read.rest ++ grows.more;
  request = read.request;
  is = grows.is ∙ ap (λ (l : List Fact). l ++ grows.more) read.is ∙ append_assoc read.past (Begun read.request ∷ read.rest) grows.more;
  own = read.own;
  read = read.read;
  long = read.long;
  begins = read.begins;
  ends = λ e. read.ends (grows.done id read.request (is_told run old ordered id place count read) read.read e);
}

pub keeps_requests : (old new : Core) → Ordered old.history.run [] old.history.facts → Grows old.history.facts new.history.facts → KeepsRequests old new
keeps_requests old new ordered grows = record {
  landed = open_stays old.history.facts new.history.facts grows;
  reads = read_stays old.history.run old.history.facts new.history.facts ordered grows;
}

pub keeps_none : (core : Core) → KeepsRequests core core
keeps_none core = record { landed = λ id closed. closed; reads = λ id place count read. read }

pub keeps_both : (old mid new : Core) → KeepsRequests old mid → KeepsRequests mid new → KeepsRequests old new
keeps_both old mid new one two = record {
  landed = λ id closed. two.landed id (one.landed id closed);
  reads = λ id place count read. two.reads id place count (one.reads id place count read);
}

-- all reads of a range stay
pub reads_on : (old new : Core) (first place : ℕ) {n count : ℕ} → AreReads old.history.facts first place n count → KeepsRequests old new → AreReads new.history.facts first place n count
reads_on old new first place NoRead keeps = NoRead
reads_on old new first place (OneRead {n} {long} {count} before read) keeps = OneRead (reads_on old new first place before keeps) (keeps.reads (first + n) (place + long) count read)

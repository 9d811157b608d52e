-- What a load leaves, by what its workers know and the value that the lock gives back.
use Rattle.std.proofs.Common.{◌≡◌, ◌⊎◌, ◌≤◌, ◌<◌, ◌+◌, ℕ, zero, suc, Bool, true, false, Option, List, [], ◌∷◌, ◌++◌, length, refl, sym, ap, ◌∙◌, subst, ⊎_elim, inl, inr, arith}
use Rattle.std.proofs.lemmas.List.{append-nil}
use Rattle.atomic_table.specs.Seated.{TableId}
use Rattle.lvm_num.specs.Buffer.{Sector}
use Rattle.lvm_num.specs.Counting.{RoseBy}
use Rattle.lvm_vol.specs.Facts.{Fact, Request, Making, Made, Split, Removing, Removed, Begun, Landed, Taken, Cut, On, begun}
use Rattle.lvm_vol.specs.Fronts.{IsPrefixOf, own}
use Rattle.lvm_vol.proofs.FrontsLemmas.{begins_further, own-append}
use Rattle.lvm_turn.specs.Calls.{Continues, IsIdlePass}
use Rattle.lvm_turn.specs.Views.{Client, Standing, View, counted, renewed, up_to}
use Rattle.lvm_turn.proofs.CallsLemmas.Idle.{idle_all}
use Rattle.lvm_session.specs.declared.open.Power.TheVariants as power
use Rattle.lvm_driver.specs.passed.Going.{is_moving}
use Rattle.lvm_session.specs.Sound.{IsSound}
use Rattle.lvm_session.specs.State.{State}
use Rattle.lvm_workers.specs.declared.bring.Brought.{Brought}
use Rattle.lvm_workers.specs.declared.bring.Brought.TheVariants as brought
use Rattle.lvm_workers.specs.declared.crew.Crew.{Crew}
use Rattle.lvm_workers.specs.declared.service.Asked.{Asked}
use Rattle.lvm_workers.specs.declared.service.Asked.TheVariants as asked
use Rattle.lvm_workers.specs.declared.words.Draw.{Draw}
use Rattle.lvm_workers.specs.declared.work.Tally.{Tally}
use Rattle.lvm_workers.specs.Bringing.{HasEnded, HasToured, MadeAt}
use Rattle.lvm_workers.specs.Counting.{AreOfClients, IsOfClients, begun_of}
use Rattle.lvm_workers.specs.Crews.{AllMade, begun_over, job_of, seats, share}
use Rattle.lvm_workers.specs.Knowing.{TallyHasCause, MayEnd, Refused, RefusedAs, WasUnheard}
use Rattle.lvm_workers.specs.Making.{HasMade}
use Rattle.lvm_workers.proofs.CountingLemmas.{begun_by_client, begun_over_all, sum_same}
use Rattle.lvm_workers.proofs.KnowingLemmas.{rose_on}
use Rattle.lvm_workers.proofs.MakingLemmas.{made_for}
use Rattle.lvm_load.specs.declared.load.Load.{Load}
use Rattle.lvm_load.specs.Bringing.{BringsIf}
use Rattle.lvm_load.specs.Lending.{IsDrawnAs, IsNotTaken, IsServing, Plan, counts_in, told_in}
use Rattle.lvm_load.specs.Waits.{waits_grow, waits_in}
use Rattle.lvm_load.proofs.LendingLemmas.Keeping.{keeps_none}
use Rattle.lvm_load.specs.Loading.{HasLoaded, NoneHasBegun, MayEndBy, WasBrought, WasNotTakenAs, WasUnheardOf, WereBrought, crew_of, plan_of}

-- ---- the beginning

ends_so : (before : List Fact) (f : Fact) → before ++ f ∷ [] ≡ [] → ⊥
ends_so [] f e = cc e
ends_so (g ∷ before) f e = cc e

-- a sound session without a request serves, from itself
pub serves_first : (s : State) (lv blocks : ℕ) (load : Load) → IsSound s → (s.core.power ≡ power.Stuck → ⊥) → is_moving s.core ≡ false → NoneHasBegun s.core.history.facts → IsServing (plan_of s lv blocks load) s
serves_first s lv blocks load sound unstuck unmoved fresh = record {
  sound = sound;
  keeps = keeps_none load.sync s;
  unstuck = unstuck;
  unmoved = unmoved;
  since = [];
  is = sym (append-nil s.core.history.facts);
  clients = tt;
  holds = λ client before r ends. absurd (ends_so before (Begun r) (sym ends ∙ fresh client));
}

-- ---- how many clients there are

pub seats_more : (brings : Bool) (n : ℕ) → n ≤ seats brings n
seats_more true n = omega arith
seats_more false n = omega arith

pub seats_some : (brings : Bool) (n : ℕ) → 1 ≤ n → 0 < seats brings n
seats_some true n some = omega (arith, some)
seats_some false n some = some

-- what is of the clients 1 to n is of the clients 1 to m
of_more : (n m : ℕ) → n ≤ m → (facts : List Fact) → AreOfClients n facts → AreOfClients m facts
of_more n m more [] all = tt
of_more n m more (f ∷ facts) all = (one f all.0, of_more n m more facts all.1)
  where
    one : (g : Fact) → IsOfClients n g → IsOfClients m g
    one (Begun r) its = (its.0, let high = its.1 in omega (arith, high, more))
    one (Taken r) its = tt
    one (Making lv blocks mode) its = tt
    one (Made lv) its = tt
    one (Split from lv) its = tt
    one (Removing vol) its = tt
    one (Removed vol) its = tt
    one (Landed r how started got) its = tt
    one Cut its = tt
    one (On moment) its = tt

-- clients without entries stay as they are
pub renewed_fresh : (facts : List Fact) (n : ℕ) → NoneHasBegun facts → renewed facts (up_to n) ≡ up_to n
renewed_fresh facts zero fresh = refl
renewed_fresh facts (suc n) fresh = λ i. record { number = suc n; own = fresh (suc n) i } ∷ renewed_fresh facts n fresh i

-- the same crew has made the same
pub crew_same : (asks : ℕ → ℕ → Draw → Request → Type 0) (Ended : Type 0) (k crew : Crew) (xs : List Client) → k ≡ crew → AllMade asks Ended k xs → AllMade asks Ended crew xs
crew_same asks Ended k crew xs same made = subst (λ (it : Crew). AllMade asks Ended it xs) same made

-- ---- the end

module _ {V : Type 0} (plan : Plan) (load : Load) (s_of : V → State) (past : V → Option (List (List Sector))) (always : V → Type 0) (serves : (y : V) → always y → IsServing plan (s_of y))
    (table : TableId) (p : Standing) (y : V) (continues : Continues (λ v. told_in (s_of v)) past always p.knows y) where
  abbrev last : State
  last = s_of y

  abbrev its : IsServing plan last
  its = serves y continues.always_holds

  -- the pass holds the clients that ask for requests, and perhaps more
  module _ (seats : ℕ) (few : load.threads ≤ seats) (clients : plan.clients ≡ load.threads) (fresh : NoneHasBegun plan.first.core.history.facts) (idle : IsIdlePass table (counted seats) p) where
    own_since : (c : ℕ) → own c last.core.history.facts ≡ own c its.since
    own_since c = ap (own c) its.is ∙ own-append c plan.first.core.history.facts its.since ∙ ap (λ (l : List Fact). l ++ own c its.since) (fresh c)

    pub all_made : (Ended : Type 0) → (Ended → MayEndBy plan last) → AllMade (λ c number d r. IsDrawnAs plan c number d r) Ended (crew_of load) p.knows.clients
        → (c : ℕ) → 0 < c → c ≤ load.threads → HasMade (λ number d r. IsDrawnAs plan c number d r) (MayEndBy plan last) (job_of (crew_of load) c).seed (share (crew_of load) c) (begun_of its.since c) (own c its.since)
    all_made Ended to made c low high =
        let held = idle_all table (counted seats) p idle seats seats refl refl c low (omega (arith, high, few)) in
        let same : held.0 ≡ own c its.since = sym (continues.own_entries c held.0 held.1) ∙ own_since c in
        subst (λ (l : List Fact). HasMade (λ number d r. IsDrawnAs plan c number d r) (MayEndBy plan last) (job_of (crew_of load) c).seed (share (crew_of load) c) (length (begun l)) l) same
        (made_for (λ number d r. IsDrawnAs plan c number d r) ((load.threads < c) ⊎ Ended) (MayEndBy plan last)
        (⊎_elim (λ (beyond : load.threads < c). absurd (omega (arith, beyond, high))) (λ (a : Ended). to a))
        (job_of (crew_of load) c).seed (share (crew_of load) c) (length (begun held.0)) held.0 (made c held.0 held.1))

    pub all_begun : (t : Tally) → t.begun ≡ begun_over p.knows.clients → t.begun ≡ length (begun its.since)
    all_begun t is =
        is ∙ begun_over_all seats last.core.history.facts p.knows.clients idle.holds continues.own_entries
        ∙ sum_same (begun_of last.core.history.facts) (begun_of its.since) (λ c. ap (λ (l : List Fact). length (begun l)) (own_since c)) seats
        ∙ sym (begun_by_client seats its.since (of_more plan.clients seats (subst (λ n. n ≤ seats) (sym clients) few) its.since its.clients))

    abbrev NotTakenAs : Asked → View → Type 0
    NotTakenAs = RefusedAs (λ v. told_in (s_of v)) past always (λ v client number d said. IsNotTaken plan (s_of v) client d said)

    module _ (first : View) (t : Tally) (begins : first.counts ≡ counts_in plan.first) (begins_at : first.front ≡ plan.first.core.history.facts)
        (cause : TallyHasCause (Refused (λ v. told_in (s_of v)) past always (λ v client number d said. IsNotTaken plan (s_of v) client d said)) waits_in first p.knows t) where
      unheard_of : WasUnheard waits_in first p.knows → WasUnheardOf plan.first last
      unheard_of rose =
          rose_on 1000000 plan.first.device.counts.waits (waits_in p.knows.counts) last.device.counts.waits
          (subst (λ (k : List ℕ). RoseBy 1000000 (waits_in k) (waits_in p.knows.counts)) begins rose)
          (waits_grow p.knows.counts (counts_in last) continues.none_fell)

      not_taken : (said : Asked) → NotTakenAs said p.knows → WasNotTakenAs plan last said
      not_taken said was = record {
        at = s_of was.value;
        serves = serves was.value was.holds;
        client = was.client;
        drawn = was.drawn;
        why = was.why;
        before = begins_further (s_of was.value).core.history.facts p.knows.front last.core.history.facts was.front continues.front;
      }

      may_end : MayEnd NotTakenAs waits_in first p.knows → MayEndBy plan last
      may_end = ⊎_elim (λ (r : NotTakenAs asked.Refused p.knows). inl (not_taken asked.Refused r)) (λ (u : WasUnheard waits_in first p.knows). inr (unheard_of u))

      abbrev Brings : V → ℕ → Brought → V → Type 0
      Brings x at said y = BringsIf plan.sync plan.lv at (s_of x) (s_of y) said

      was_brought : (at : ℕ) (said : Brought) → MadeAt (λ v. told_in (s_of v)) past always Brings first p.knows at said → WasBrought plan last at said
      was_brought at said was = record {
        from = s_of was.from;
        to = s_of was.to;
        serves = serves was.from was.holds;
        brings = was.makes;
        since = subst (λ (l : List Fact). IsPrefixOf l (s_of was.from).core.history.facts) begins_at was.since;
        until = begins_further (s_of was.to).core.history.facts p.knows.front last.core.history.facts was.until continues.front;
      }

      were_brought : HasEnded (λ v. told_in (s_of v)) past always Brings waits_in first p.knows → WereBrought plan last
      were_brought = ⊎_elim
          (λ (toured : HasToured (MadeAt (λ v. told_in (s_of v)) past always Brings first p.knows)). inl (record {
            places = toured.places;
            passed = λ at low. was_brought at brought.Next (toured.passed at low);
            over = ⊎_elim (λ (over : MadeAt (λ v. told_in (s_of v)) past always Brings first p.knows toured.places brought.Over). inl (was_brought toured.places brought.Over over)) (λ (all : toured.places ≡ 4294967295). inr all) toured.over;
          }))
          (λ (u : WasUnheard waits_in first p.knows). inr (unheard_of u))

      pub has_loaded : AllMade (λ c number d r. IsDrawnAs plan c number d r) (MayEnd NotTakenAs waits_in first p.knows) (crew_of load) p.knows.clients → t.begun ≡ begun_over p.knows.clients → t.begun + t.unbegun ≡ load.requests
          → (plan.sync ≡ true → HasEnded (λ v. told_in (s_of v)) past always Brings waits_in first p.knows) → HasLoaded plan load last t
      has_loaded made begun_is all ended = record {
        since = its.since;
        is = its.is;
        made = all_made (MayEnd NotTakenAs waits_in first p.knows) may_end made;
        begun = all_begun t begun_is;
        all = all;
        unbegun = λ some_are. ⊎_elim
            (λ (r : (said : Asked) × NotTakenAs said p.knows). inl (r.0, not_taken r.0 r.1))
            (λ (u : WasUnheard waits_in first p.knows). inr (unheard_of u))
            (cause.unbegun some_are);
        unheard = λ is. unheard_of (cause.unheard is);
        brought = λ on. were_brought (ended on);
      }

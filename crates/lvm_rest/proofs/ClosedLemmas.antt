-- No write is open: at a run's entry, and where each request has landed.
use Rattle.std.proofs.Common.{◌≡◌, ◌⊎◌, inl, inr, ⊎_elim, ℕ, ◌+◌, Bool, true, false, ◌&&◌, ◌||◌, not, List, [], ◌∷◌, ◌++◌, refl, sym, ap, subst, ◌∙◌, arith, count_by}
use Rattle.std.specs.Prelude.{IsTrue, IsFalse, if◌then◌else◌, filter}
use Rattle.std.specs.List.{list_any}
use Rattle.std.proofs.lemmas.Bool.{not-true, cases_Bool}
use Rattle.lvm_num.proofs.Booleans.{clash_gives}
use Rattle.lvm_vol.specs.declared.entry.Vol.{Vol}
use Rattle.lvm_vol.specs.declared.entry.Vol.TheVariants.{Lv}
use Rattle.lvm_vol.specs.Facts.{Request, Fact, Making, Made, Split, Removing, Removed, Begun, Landed, Taken, Cut, On, IsInList, same_vol, same_request, is_over, block_of}
use Rattle.lvm_vol.specs.May.{Known, Knowledge, is_open_in, ended, read, landed, change, source, after_fact, after, known}
use Rattle.lvm_vol.specs.Legal.{begins_in, lands, Fits, Legal}
use Rattle.lvm_vol.proofs.LawsLemmas.Knowing.{known-push, known-append, ended_open, read_open}
use Rattle.lvm_vol.proofs.LawsLemmas.Legality.{grow_legal, legal_push, unlanded, same_self}
use Rattle.lvm_vol.proofs.FactsLemmas.Order.{any-push}
use Rattle.lvm_invariant.proofs.MayLemmas.{apart_back, filtered, changed, open_began, later_apart}
use Rattle.lvm_invariant.proofs.Small.{left_of as and_left, right_of as and_right}
use Rattle.lvm_kept.proofs.RawLemmas.Keeping.{cut_calm}
use Rattle.lvm_rest.specs.Closed.{EntryIsCalm, LandedAreClosed, CalmIsClosed}

-- what stands in a list that grew by one stood there, or is that one
last_or_before : {X : Type 0} (x y : X) (xs : List X) → IsInList x (xs ++ y ∷ []) → IsInList x xs ⊎ (y ≡ x)
last_or_before x y [] (inl is) = inr is
last_or_before x y [] (inr none) = absurd none
last_or_before x y (z ∷ zs) (inl is) = inl (inl is)
last_or_before x y (z ∷ zs) (inr there) = ⊎_elim (λ old. inl (inr old)) (λ new. inr new) (last_or_before x y zs there)

begun_same : (r s : Request) → Begun r ≡ Begun s → r ≡ s
begun_same r s e = cc

-- ---- one request of each name

record IsOnce (facts : List Fact) : Type 0 where
  legal : Legal facts
  one : (r s : Request) → IsInList (Begun r) facts → IsInList (Begun s) facts → IsTrue (same_request r s) → s ≡ r

once_step : (past : List Fact) (f : Fact) → IsOnce past → Fits past f → IsOnce (past ++ f ∷ [])
once_step past f q fits = record {
  legal = (legal_push past f).1 (q.legal, fits);
  one = λ r s is also same. ⊎_elim
      (λ (old : IsInList (Begun r) past). ⊎_elim
      (λ (old_s : IsInList (Begun s) past). q.one r s old old_s same)
      (λ (new_s : f ≡ Begun s). clash_gives (same_request s r) (back r s same) (next s new_s r old))
      (last_or_before (Begun s) f past also))
      (λ (new : f ≡ Begun r). ⊎_elim
      (λ (old_s : IsInList (Begun s) past). clash_gives (same_request r s) same (next r new s old_s))
      (λ (new_s : f ≡ Begun s). begun_same s r (sym new_s ∙ new))
      (last_or_before (Begun s) f past also))
      (last_or_before (Begun r) f past is);
}
  where
    back : (r s : Request) → IsTrue (same_request r s) → IsTrue (same_request s r)
    back r s same = ⊎_elim (λ is. is) (λ apart. clash_gives (same_request r s) same (apart_back s r apart)) (cases_Bool (same_request s r))

    -- a request that begins next has another name than those before
    next : (r : Request) → f ≡ Begun r → (s : Request) → IsInList (Begun s) past → IsFalse (same_request r s)
    next r is s stood = let number : r.id ≡ count_by (begins_in r.run) past + 1 = subst (λ (g : Fact). Fits past g) is fits in later_apart past r s q.legal (omega (arith, number)) stood

once : (facts : List Fact) → Legal facts → IsOnce facts
once facts legal = grow_legal IsOnce once_step [] facts (record { legal = tt; one = λ r s none. absurd none }) legal

-- ---- an open write hasn't landed

record IsPending (facts : List Fact) (vol : Vol) (b : ℕ) (w : Request) : Type 0 where
  over : IsTrue (is_over w vol b)
  write : IsTrue w.write
  unlanded_yet : list_any (lands w) facts ≡ false

record ArePending (facts : List Fact) : Type 0 where
  legal : Legal facts
  each : (vol : Vol) (b : ℕ) (w : Request) → IsInList w (known facts vol b).open_writes → IsPending facts vol b w

-- of those that pass a test each does
passed : (test : Request → Bool) (ws : List Request) (w : Request) → IsInList w (filter test ws) → IsTrue (test w)
passed test [] w h = absurd h
passed test (v ∷ ws) w h = by_test (test v) refl (passed test ws w) h
  where
    by_test : (t : Bool) → test v ≡ t → (IsInList w (filter test ws) → IsTrue (test w)) → IsInList w (if t then v ∷ filter test ws else filter test ws) → IsTrue (test w)
    by_test true is later (inl here) = ap test (sym here) ∙ is
    by_test true is later (inr there) = later there
    by_test false is later k = later k

module _ (past : List Fact) (q : ArePending past) where
  still : (f : Fact) (vol : Vol) (b : ℕ) (w : Request) → IsPending past vol b w → lands w f ≡ false → IsPending (past ++ f ∷ []) vol b w
  still f vol b w was none = record { over = was.over; write = was.write; unlanded_yet = any-push (lands w) past f ∙ ap (λ (t : Bool). t || lands w f) was.unlanded_yet ∙ none }

  pending_step : (f : Fact) → Fits past f → (vol : Vol) (b : ℕ) (w : Request) → IsInList w (change f vol b (known past (source f vol) b)).open_writes → IsPending (past ++ f ∷ []) vol b w
  pending_step (Begun r) fits vol b w h = by (r.write && is_over r vol b) refl h
    where
      by : (t : Bool) → (r.write && is_over r vol b) ≡ t → IsInList w (if t then record (known past vol b) { open_writes = r ∷ (known past vol b).open_writes } else known past vol b).open_writes → IsPending (past ++ Begun r ∷ []) vol b w
      by true is (inl here) = subst (IsPending (past ++ Begun r ∷ []) vol b) here (record {
        over = and_right r.write (is_over r vol b) is;
        write = and_left r.write (is_over r vol b) is;
        unlanded_yet = any-push (lands r) past (Begun r) ∙ ap (λ (t : Bool). t || false) (unlanded past r q.legal (let number : r.id ≡ count_by (begins_in r.run) past + 1 = fits in omega (arith, number)));
      })
      by true is (inr there) = still (Begun r) vol b w (q.each vol b w there) refl
      by false is h = still (Begun r) vol b w (q.each vol b w h) refl
  pending_step (Landed r how started got) fits vol b w h = by (is_over r vol b) refl h
    where
      k : Known
      k = known past vol b

      -- it isn't this one
      other : IsPending past vol b w → IsInList w (known past vol b).open_writes → (IsTrue (same_request w r) → ⊥) → IsPending (past ++ Landed r how started got ∷ []) vol b w
      other was there apart = still (Landed r how started got) vol b w was (⊎_elim (λ is. absurd (apart is)) (λ isnt. isnt) (cases_Bool (same_request w r)))

      -- a request of the name is this one
      is_this : IsInList w (known past vol b).open_writes → IsTrue (same_request w r) → r ≡ w
      is_this there same = (once past q.legal).one w r (open_began past q.legal vol b w there) fits.began same

      by : (t : Bool) → is_over r vol b ≡ t → IsInList w (if t then landed r how started (block_of r.blocks r.at b) (block_of got r.at b) (known past vol b) else known past vol b).open_writes → IsPending (past ++ Landed r how started got ∷ []) vol b w
      by false off there = let was = q.each vol b w there in other was there (λ same. clash_gives (is_over w vol b) was.over (subst (λ (x : Request). IsFalse (is_over x vol b)) (is_this there same) off))
      by true over there = by_write r.write refl there
        where
          by_write : (t : Bool) → r.write ≡ t
              → IsInList w (if t then (if is_open_in r (known past vol b).open_writes then ended r how started (block_of r.blocks r.at b) (known past vol b) else known past vol b) else read how (block_of got r.at b) (known past vol b)).open_writes
              → IsPending (past ++ Landed r how started got ∷ []) vol b w
          by_write false reads there =
              let stood = subst (IsInList w) (read_open how (block_of got r.at b) (known past vol b)) there in
              let was = q.each vol b w stood in other was stood (λ same. clash_gives w.write was.write (subst (λ (x : Request). IsFalse x.write) (is_this stood same) reads))
          by_write true writes there = by_open (is_open_in r (known past vol b).open_writes) refl there
            where
              by_open : (t : Bool) → is_open_in r (known past vol b).open_writes ≡ t → IsInList w (if t then ended r how started (block_of r.blocks r.at b) (known past vol b) else known past vol b).open_writes → IsPending (past ++ Landed r how started got ∷ []) vol b w
              by_open true is there =
                  let left = subst (IsInList w) (ended_open r how started (block_of r.blocks r.at b) (known past vol b)) there in
                  let stood = filtered (λ (x : Request). not (same_request r x)) (known past vol b).open_writes w left in
                  let apart = not-true (same_request r w) (passed (λ (x : Request). not (same_request r x)) (known past vol b).open_writes w left) in
                  other (q.each vol b w stood) stood (λ same. clash_gives (same_request w r) same (apart_back r w apart))
              by_open false is stood = other (q.each vol b w stood) stood (λ same. clash_gives (is_open_in r (known past vol b).open_writes) (opened (known past vol b).open_writes stood (is_this stood same)) is)
                where
                  opened : (ws : List Request) → IsInList w ws → r ≡ w → IsTrue (is_open_in r ws)
                  opened [] h e = absurd h
                  opened (v ∷ ws) (inl here) e = ap (λ (t : Bool). t || is_open_in r ws) (ap (same_request r) (here ∙ sym e) ∙ same_self r)
                  opened (v ∷ ws) (inr there) e = or_right (same_request r v) (is_open_in r ws) (opened ws there e)
                    where
                      or_right : (a b : Bool) → IsTrue b → IsTrue (a || b)
                      or_right true b h = refl
                      or_right false b h = h
  pending_step Cut fits vol b w h = absurd h
  pending_step (Making lv blocks m) fits vol b w h = ⊎_elim (λ old. still (Making lv blocks m) vol b w (q.each vol b w old) refl) (λ new. absurd cc) (changed (Making lv blocks m) vol b (known past vol b) w h)
  pending_step (Split from lv) fits vol b w h = by (same_vol (Lv lv) vol) h
    where
      by : (t : Bool) → IsInList w (if t then record (known past (if t then Lv from else vol) b) { open_writes = [] } else known past (if t then Lv from else vol) b).open_writes → IsPending (past ++ Split from lv ∷ []) vol b w
      by true h = absurd h
      by false h = still (Split from lv) vol b w (q.each vol b w h) refl
  pending_step (Removed gone) fits vol b w h = ⊎_elim (λ old. still (Removed gone) vol b w (q.each vol b w old) refl) (λ new. absurd cc) (changed (Removed gone) vol b (known past vol b) w h)
  pending_step (Made lv) fits vol b w h = still (Made lv) vol b w (q.each vol b w h) refl
  pending_step (Removing gone) fits vol b w h = still (Removing gone) vol b w (q.each vol b w h) refl
  pending_step (Taken r) fits vol b w h = still (Taken r) vol b w (q.each vol b w h) refl
  pending_step (On moment) fits vol b w h = still (On moment) vol b w (q.each vol b w h) refl

are_pending : (facts : List Fact) → Legal facts → ArePending facts
are_pending facts legal = grow_legal ArePending (λ past f q fits. record {
  legal = (legal_push past f).1 (q.legal, fits);
  each = λ vol b w h. pending_step past q f fits vol b w (subst (λ (k : Known). IsInList w k.open_writes) (known-push past f vol b) h);
}) [] facts (record { legal = tt; each = λ vol b w none. absurd none }) legal

-- ---- since no write was open

open_since : (facts : List Fact) (k : Knowledge) (vol : Vol) (b : ℕ) (w : Request) → IsInList w (after k facts vol b).open_writes → ((v : Vol) × IsInList w (k v b).open_writes) ⊎ IsInList (Begun w) facts
open_since [] k vol b w h = inl (vol, h)
open_since (f ∷ facts) k vol b w h = ⊎_elim
    (λ (old : (v : Vol) × IsInList w (after_fact f k v b).open_writes). ⊎_elim
    (λ (was : IsInList w (k (source f old.0) b).open_writes). inl (source f old.0, was))
    (λ (new : Begun w ≡ f). inr (inl (sym new)))
    (changed f old.0 b (k (source f old.0) b) w old.1))
    (λ later. inr (inr later))
    (open_since facts (after_fact f k) vol b w h)

any_back : (t : Fact → Bool) (past facts : List Fact) → IsTrue (list_any t facts) → IsTrue (list_any t (past ++ facts))
any_back t [] facts is = is
any_back t (f ∷ past) facts is = or_right (t f) (list_any t (past ++ facts)) (any_back t past facts is)
  where
    or_right : (a b : Bool) → IsTrue b → IsTrue (a || b)
    or_right true b h = refl
    or_right false b h = h

none_in : (ws : List Request) → ((w : Request) → IsInList w ws → ⊥) → ws ≡ []
none_in [] none = refl
none_in (w ∷ ws) none = absurd (none w (inl refl))

pub entry_is_calm : EntryIsCalm
entry_is_calm past = cut_calm past

pub calm_is_closed : CalmIsClosed
calm_is_closed facts group calm row lp b one inside = calm (Lv row.number) b

pub landed_are_closed : LandedAreClosed
landed_are_closed past facts legal closed all_land vol b = none_in (known (past ++ facts) vol b).open_writes (λ w h. ⊎_elim
    (λ (old : (v : Vol) × IsInList w (known past v b).open_writes). subst (IsInList w) (closed old.0 b) old.1)
    (λ (begun : IsInList (Begun w) facts).
    clash_gives (list_any (lands w) (past ++ facts)) (any_back (lands w) past facts (all_land w begun)) ((are_pending (past ++ facts) legal).each vol b w h).unlanded_yet)
    (open_since facts (known past) vol b w (subst (λ (k : Knowledge). IsInList w (k vol b).open_writes) (known-append past facts) h)))

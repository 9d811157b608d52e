-- What an entry changes of what is known of a block, seen by the requests that are open there.
use Rattle.std.proofs.Common.{◌≡◌, ◌⊎◌, inl, inr, ⊎_elim, ℕ, ◌<◌, Bool, true, false, ◌&&◌, ◌||◌, not, List, [], ◌∷◌, ◌++◌, Option, Some, None, refl, sym, ap, subst, ◌∙◌, eqb-true, eq-eqb, arith, count_by}
use Rattle.std.specs.Prelude.{IsTrue, IsFalse, ◌==◌, if◌then◌else◌, option_map, filter, nat_lt}
use Rattle.std.specs.List.{find}
use Rattle.lvm_num.specs.Buffer.{Sector, zero_sector}
use Rattle.lvm_num.proofs.Booleans.{clash_gives}
use Rattle.lvm_vol.specs.declared.entry.Vol.{Vol}
use Rattle.lvm_vol.specs.declared.entry.Vol.TheVariants.{Lv}
use Rattle.lvm_vol.specs.declared.entry.Outcome.{Outcome}
use Rattle.lvm_vol.specs.declared.entry.Outcome.TheVariants as outcome
use Rattle.lvm_vol.specs.Facts.{Request, Fact, Making, Split, Removed, Begun, Landed, Cut, IsInList, same_vol, same_request, is_over, block_of}
use Rattle.lvm_vol.specs.May.{Known, is_open_in, without, ended, read, landed, change, source, known}
use Rattle.lvm_vol.specs.Legal.{begins_in, Fits, Legal}
use Rattle.lvm_vol.proofs.LawsLemmas.Knowing.{known-push, ended_open, read_open}
use Rattle.lvm_vol.proofs.LawsLemmas.Legality.{grow_legal, counted_well, same_self}
use Rattle.lvm_vol.proofs.FactsLemmas.Order.{stands_left, stands_last}
use Rattle.lvm_invariant.specs.State.{write_in, write_of}
use Rattle.lvm_invariant.proofs.Small.{left_of as and_left, right_of as and_right, both_of as both}

-- ---- names

pub same_run : (r s : Request) → IsTrue (same_request r s) → r.run ≡ s.run
same_run r s h = eqb-true _ _ (and_left (r.run == s.run) (r.id == s.id) h)

pub same_id : (r s : Request) → IsTrue (same_request r s) → r.id ≡ s.id
same_id r s h = eqb-true _ _ (and_right (r.run == s.run) (r.id == s.id) h)

pub same_by : (r s : Request) → r.run ≡ s.run → r.id ≡ s.id → IsTrue (same_request r s)
same_by r s run id = both (r.run == s.run) (r.id == s.id) (eq-eqb r.run s.run run) (eq-eqb r.id s.id id)

same_both : (r s other : Request) → IsTrue (same_request r s) → IsTrue (same_request other s) → IsTrue (same_request other r)
same_both r s other a b = same_by other r (same_run other s b ∙ sym (same_run r s a)) (same_id other s b ∙ sym (same_id r s a))

pub apart_back : (r s : Request) → IsFalse (same_request r s) → IsFalse (same_request s r)
apart_back r s h = by_test (same_request s r) refl
  where
    by_test : (t : Bool) → same_request s r ≡ t → IsFalse t
    by_test true is = clash_gives (same_request r s) (same_by r s (sym (same_run s r is)) (sym (same_id s r is))) h
    by_test false is = refl

-- ---- the open writes without one

found_step : (request other s : Request) (ws : List Request) (a c : Bool) → same_request request s ≡ a → same_request other s ≡ c → IsFalse (same_request other request)
    → find (same_request other) (filter (λ (x : Request). not (same_request request x)) ws) ≡ find (same_request other) ws
    → find (same_request other) (if not a then s ∷ filter (λ (x : Request). not (same_request request x)) ws else filter (λ (x : Request). not (same_request request x)) ws) ≡ (if c then Some s else find (same_request other) ws)
found_step request other s ws true true is_a is_c apart later = clash_gives (same_request other request) (same_both request s other is_a is_c) apart
found_step request other s ws true false is_a is_c apart later = later
found_step request other s ws false true is_a is_c apart later = ap (λ (t : Bool). if t then Some s else find (same_request other) (filter (λ (x : Request). not (same_request request x)) ws)) is_c
found_step request other s ws false false is_a is_c apart later = ap (λ (t : Bool). if t then Some s else find (same_request other) (filter (λ (x : Request). not (same_request request x)) ws)) is_c ∙ later

found_among : (request other : Request) → IsFalse (same_request other request) → (ws : List Request) → find (same_request other) (without request ws) ≡ find (same_request other) ws
found_among request other apart [] = refl
found_among request other apart (s ∷ ws) = found_step request other s ws (same_request request s) (same_request other s) refl refl apart (found_among request other apart ws)

pub others_stay : (b : ℕ) (request other : Request) (ws : List Request) → IsFalse (same_request other request) → write_in b (without request ws) other ≡ write_in b ws other
others_stay b request other ws apart = ap (option_map (λ (w : Request). block_of w.blocks w.at b)) (found_among request other apart ws)

-- a write that is found is open
pub is_open_if : (b : ℕ) (request : Request) (x : Sector) (ws : List Request) → write_in b ws request ≡ Some x → is_open_in request ws ≡ true
is_open_if b request x [] is = absurd cc
is_open_if b request x (w ∷ ws) is = by_test (same_request request w) (is_open_if b request x ws) is
  where
    by_test : (t : Bool) → (write_in b ws request ≡ Some x → is_open_in request ws ≡ true) → option_map (λ (s : Request). block_of s.blocks s.at b) (if t then Some w else find (same_request request) ws) ≡ Some x → (t || is_open_in request ws) ≡ true
    by_test true later h = refl
    by_test false later h = later h

none_if : (b : ℕ) (request : Request) (ws : List Request) → is_open_in request ws ≡ false → write_in b ws request ≡ None
none_if b request [] is = refl
none_if b request (w ∷ ws) is = by_test (same_request request w) (none_if b request ws) is
  where
    by_test : (t : Bool) → (is_open_in request ws ≡ false → write_in b ws request ≡ None) → (t || is_open_in request ws) ≡ false → option_map (λ (s : Request). block_of s.blocks s.at b) (if t then Some w else find (same_request request) ws) ≡ None
    by_test true later h = absurd cc
    by_test false later h = later h

-- ---- how a request that lands changes what is known

pub ended_mode : (r : Request) (how : Outcome) (started : Bool) (x : Sector) (k : Known) → (ended r how started x k).mode ≡ k.mode
ended_mode r outcome.Off true x k = refl
ended_mode r outcome.Off false x k = refl
ended_mode r outcome.Dark true x k = refl
ended_mode r outcome.Dark false x k = refl
ended_mode r _ started x k = refl

-- the power is on, and the group is
abbrev pub is_calm : Outcome → Bool
is_calm outcome.Off = false
is_calm outcome.Dark = false
is_calm _ = true

ended_tight : (r : Request) (how : Outcome) (started : Bool) (x : Sector) (k : Known) → IsTrue (is_calm how) → IsFalse k.loose → IsFalse (ended r how started x k).loose
ended_tight r outcome.Done started x k calm tight = refl
ended_tight r outcome.Off started x k calm tight = absurd cc
ended_tight r outcome.Dark started x k calm tight = absurd cc
ended_tight r _ started x k calm tight = tight

-- a read changes at most the values
read_still : {X : Type 0} (part : Known → X) → ((values : Option (List Sector)) (k : Known) → part (record k { values = values }) ≡ part k) → (how : Outcome) (x : Sector) (k : Known) → part (read how x k) ≡ part k
read_still part same outcome.Got x k = by_loose k.loose
  where
    by_loose : (t : Bool) → part (if t then k else record k { values = Some (x ∷ []) }) ≡ part k
    by_loose true = refl
    by_loose false = same (Some (x ∷ [])) k
read_still part same _ x k = refl

read_mode : (how : Outcome) (x : Sector) (k : Known) → (read how x k).mode ≡ k.mode
read_mode how x k = read_still (λ (k : Known). k.mode) (λ values k. refl) how x k

read_loose : (how : Outcome) (x : Sector) (k : Known) → (read how x k).loose ≡ k.loose
read_loose how x k = read_still (λ (k : Known). k.loose) (λ values k. refl) how x k

-- what is so however the request ends is so after it has
pub by_landing : (P : Known → Type 0) (r : Request) (how : Outcome) (started over write still : Bool) (x y : Sector) (k : Known)
    → P k → (IsTrue over → IsTrue write → IsTrue still → P (ended r how started x k)) → (IsTrue over → IsFalse write → P (read how y k))
    → P (if over then (if write then (if still then ended r how started x k else k) else read how y k) else k)
by_landing P r how started false write still x y k same e g = same
by_landing P r how started true true true x y k same e g = e refl refl refl
by_landing P r how started true true false x y k same e g = same
by_landing P r how started true false still x y k same e g = g refl refl

-- the mode of a block stays, however a request lands there
pub landed_mode : (r : Request) (how : Outcome) (started over : Bool) (x y : Sector) (k : Known) → (if over then landed r how started x y k else k).mode ≡ k.mode
landed_mode r how started over x y k = by_landing (λ (m : Known). m.mode ≡ k.mode) r how started over r.write (is_open_in r k.open_writes) x y k refl
    (λ is write still. ended_mode r how started x k) (λ is is_read. read_mode how y k)

module _ (facts : List Fact) (r : Request) (how : Outcome) (started : Bool) (got : List (List ℕ)) (lv b : ℕ) where
  abbrev was : Known
  was = known facts (Lv lv) b

  abbrev now : Known
  now = known (facts ++ Landed r how started got ∷ []) (Lv lv) b

  pub after_landing : (P : Known → Type 0) → P was
      → (IsTrue (is_over r (Lv lv) b) → IsTrue r.write → IsTrue (is_open_in r was.open_writes) → P (ended r how started (block_of r.blocks r.at b) was))
      → (IsTrue (is_over r (Lv lv) b) → IsFalse r.write → P (read how (block_of got r.at b) was)) → P now
  after_landing P same e g = subst P (sym (known-push facts (Landed r how started got) (Lv lv) b))
      (by_landing P r how started (is_over r (Lv lv) b) r.write (is_open_in r was.open_writes) (block_of r.blocks r.at b) (block_of got r.at b) was same e g)

  pub landing_mode : now.mode ≡ was.mode
  landing_mode = after_landing (λ (k : Known). k.mode ≡ was.mode) refl (λ over write still. ended_mode r how started (block_of r.blocks r.at b) was) (λ over is_read. read_mode how (block_of got r.at b) was)

  pub landing_tight : IsTrue (is_calm how) → IsFalse was.loose → IsFalse now.loose
  landing_tight calm tight = after_landing (λ (k : Known). IsFalse k.loose) tight (λ over write still. ended_tight r how started (block_of r.blocks r.at b) was calm tight) (λ over is_read. read_loose how (block_of got r.at b) was ∙ tight)

  pub landing_others : (other : Request) → IsFalse (same_request other r) → write_of b now other ≡ write_of b was other
  landing_others other apart = after_landing (λ (k : Known). write_of b k other ≡ write_of b was other) refl
      (λ over write still. ap (λ (ws : List Request). write_in b ws other) (ended_open r how started (block_of r.blocks r.at b) was) ∙ others_stay b r other was.open_writes apart)
      (λ over is_read. ap (λ (ws : List Request). write_in b ws other) (read_open how (block_of got r.at b) was))

  pub landing_outside : IsFalse (is_over r (Lv lv) b) → now ≡ was
  landing_outside off = known-push facts (Landed r how started got) (Lv lv) b ∙ ap (λ (t : Bool). if t then landed r how started (block_of r.blocks r.at b) (block_of got r.at b) was else was) off

  -- a write that was open
  pub landing_ended : IsTrue (is_over r (Lv lv) b) → IsTrue r.write → IsTrue (is_open_in r was.open_writes) → now ≡ ended r how started (block_of r.blocks r.at b) was
  landing_ended over write still = known-push facts (Landed r how started got) (Lv lv) b
      ∙ ap (λ (t : Bool). if t then landed r how started (block_of r.blocks r.at b) (block_of got r.at b) was else was) over
      ∙ ap (λ (t : Bool). if t then (if is_open_in r was.open_writes then ended r how started (block_of r.blocks r.at b) was else was) else read how (block_of got r.at b) was) write
      ∙ ap (λ (t : Bool). if t then ended r how started (block_of r.blocks r.at b) was else was) still

  -- a read
  pub landing_read : IsTrue (is_over r (Lv lv) b) → IsFalse r.write → now ≡ read how (block_of got r.at b) was
  landing_read over is_read = known-push facts (Landed r how started got) (Lv lv) b
      ∙ ap (λ (t : Bool). if t then landed r how started (block_of r.blocks r.at b) (block_of got r.at b) was else was) over
      ∙ ap (λ (t : Bool). if t then (if is_open_in r was.open_writes then ended r how started (block_of r.blocks r.at b) was else was) else read how (block_of got r.at b) was) is_read

-- ---- a request begins

module _ (facts : List Fact) (r : Request) (lv b : ℕ) where
  abbrev before : Known
  before = known facts (Lv lv) b

  abbrev begun_now : Known
  begun_now = known (facts ++ Begun r ∷ []) (Lv lv) b

  pub after_beginning : (P : Known → Type 0) → P before → (IsTrue (r.write && is_over r (Lv lv) b) → P (record before { open_writes = r ∷ before.open_writes })) → P begun_now
  after_beginning P same more = subst P (sym (known-push facts (Begun r) (Lv lv) b)) (by_test (r.write && is_over r (Lv lv) b) more)
    where
      by_test : (t : Bool) → (IsTrue t → P (record before { open_writes = r ∷ before.open_writes })) → P (if t then record before { open_writes = r ∷ before.open_writes } else before)
      by_test true h = h refl
      by_test false h = same

  pub beginning_values : begun_now.values ≡ before.values
  beginning_values = after_beginning (λ (k : Known). k.values ≡ before.values) refl (λ h. refl)

  pub beginning_loose : begun_now.loose ≡ before.loose
  beginning_loose = after_beginning (λ (k : Known). k.loose ≡ before.loose) refl (λ h. refl)

  pub beginning_mode : begun_now.mode ≡ before.mode
  beginning_mode = after_beginning (λ (k : Known). k.mode ≡ before.mode) refl (λ h. refl)

  pub beginning_others : (other : Request) → IsFalse (same_request other r) → write_of b begun_now other ≡ write_of b before other
  beginning_others other apart = after_beginning (λ (k : Known). write_of b k other ≡ write_of b before other) refl
      (λ h. ap (λ (t : Bool). option_map (λ (s : Request). block_of s.blocks s.at b) (if t then Some r else find (same_request other) before.open_writes)) apart)

  pub beginning_own : IsTrue r.write → IsTrue (is_over r (Lv lv) b) → write_of b begun_now r ≡ Some (block_of r.blocks r.at b)
  beginning_own write over = ap (λ (k : Known). write_of b k r) (known-push facts (Begun r) (Lv lv) b)
      ∙ ap (λ (t : Bool). write_of b (if t then record before { open_writes = r ∷ before.open_writes } else before) r) (both r.write (is_over r (Lv lv) b) write over)
      ∙ ap (λ (t : Bool). option_map (λ (s : Request). block_of s.blocks s.at b) (if t then Some r else find (same_request r) before.open_writes)) (same_self r)

  pub beginning_outside : IsFalse (is_over r (Lv lv) b) → is_open_in r before.open_writes ≡ false → write_of b begun_now r ≡ None
  beginning_outside off none = after_beginning (λ (k : Known). write_of b k r ≡ None) (none_if b r before.open_writes none) (λ h. clash_gives (is_over r (Lv lv) b) (and_right r.write (is_over r (Lv lv) b) h) off)

-- ---- an open write began

pub filtered : (test : Request → Bool) (ws : List Request) (s : Request) → IsInList s (filter test ws) → IsInList s ws
filtered test [] s h = h
filtered test (w ∷ ws) s h = by_test (test w) (filtered test ws s) h
  where
    by_test : (t : Bool) → (IsInList s (filter test ws) → IsInList s ws) → IsInList s (if t then w ∷ filter test ws else filter test ws) → IsInList s (w ∷ ws)
    by_test true later (inl here) = inl here
    by_test true later (inr there) = inr (later there)
    by_test false later k = inr (later k)

pub changed : (f : Fact) (vol : Vol) (b : ℕ) (k : Known) (s : Request) → IsInList s (change f vol b k).open_writes → IsInList s k.open_writes ⊎ (Begun s ≡ f)
changed (Making lv blocks m) vol b k s h = by_test (same_vol (Lv lv) vol && nat_lt b blocks) h
  where
    by_test : (t : Bool) → IsInList s (if t then record { values = Some (zero_sector ∷ []); open_writes = []; loose = false; mode = m } else k).open_writes → IsInList s k.open_writes ⊎ (Begun s ≡ Making lv blocks m)
    by_test true h = absurd h
    by_test false h = inl h
changed (Split from lv) vol b k s h = by_test (same_vol (Lv lv) vol) h
  where
    by_test : (t : Bool) → IsInList s (if t then record k { open_writes = [] } else k).open_writes → IsInList s k.open_writes ⊎ (Begun s ≡ Split from lv)
    by_test true h = absurd h
    by_test false h = inl h
changed (Removed gone) vol b k s h = by_test (same_vol gone vol) h
  where
    by_test : (t : Bool) → IsInList s (if t then record k { values = None; open_writes = []; loose = false } else k).open_writes → IsInList s k.open_writes ⊎ (Begun s ≡ Removed gone)
    by_test true h = absurd h
    by_test false h = inl h
changed (Begun r) vol b k s h = by_test (r.write && is_over r vol b) h
  where
    by_test : (t : Bool) → IsInList s (if t then record k { open_writes = r ∷ k.open_writes } else k).open_writes → IsInList s k.open_writes ⊎ (Begun s ≡ Begun r)
    by_test true (inl here) = inr (ap (λ (x : Request). Begun x) (sym here))
    by_test true (inr there) = inl there
    by_test false h = inl h
changed (Landed r how started got) vol b k s h = inl (by_landing (λ (new : Known). IsInList s new.open_writes → IsInList s k.open_writes) r how started (is_over r vol b) r.write (is_open_in r k.open_writes) (block_of r.blocks r.at b) (block_of got r.at b) k
    (λ still. still)
    (λ over write there still. filtered (λ (x : Request). not (same_request r x)) k.open_writes s (subst (IsInList s) (ended_open r how started (block_of r.blocks r.at b) k) still))
    (λ over is_read still. subst (IsInList s) (read_open how (block_of got r.at b) k) still) h)
changed Cut vol b k s h = absurd h
changed _ vol b k s h = inl h

abbrev pub OpenBegan : List Fact → Type 0
OpenBegan facts = (vol : Vol) (b : ℕ) (s : Request) → IsInList s (known facts vol b).open_writes → IsInList (Begun s) facts

pub open_began : (facts : List Fact) → Legal facts → OpenBegan facts
open_began facts legal = grow_legal OpenBegan grow [] facts (λ vol b s none. none) legal
  where
    grow : (past : List Fact) (f : Fact) → OpenBegan past → Fits past f → OpenBegan (past ++ f ∷ [])
    grow past f q fits vol b s h = ⊎_elim
        (λ (old : IsInList s (known past (source f vol) b).open_writes). stands_left past (f ∷ []) (Begun s) (q (source f vol) b s old))
        (λ (new : Begun s ≡ f). subst (λ (g : Fact). IsInList (Begun s) (past ++ g ∷ [])) new (stands_last past (Begun s)))
        (changed f vol b (known past (source f vol) b) s (subst (λ (k : Known). IsInList s k.open_writes) (known-push past f vol b) h))

-- so one with a further number isn't open
pub later_apart : (facts : List Fact) (r s : Request) → Legal facts → count_by (begins_in r.run) facts < r.id → IsInList (Begun s) facts → IsFalse (same_request r s)
later_apart facts r s legal above stands = by_test (same_request r s) refl
  where
    by_test : (t : Bool) → same_request r s ≡ t → IsFalse t
    by_test false is = refl
    by_test true is =
        let well = counted_well facts legal in
        let high = (well.begun_low s stands).1 in
        let one_run : count_by (begins_in s.run) facts ≡ count_by (begins_in r.run) facts = ap (λ (n : ℕ). count_by (begins_in n) facts) (sym (same_run r s is)) in
        let one_id = same_id r s is in
        absurd (omega (arith, high, above, one_run, one_id))

pub not_open : (facts : List Fact) (r : Request) (vol : Vol) (b : ℕ) → Legal facts → count_by (begins_in r.run) facts < r.id → is_open_in r (known facts vol b).open_writes ≡ false
not_open facts r vol b legal above = by_list (known facts vol b).open_writes (λ s h. open_began facts legal vol b s h)
  where
    by_list : (ws : List Request) → ((s : Request) → IsInList s ws → IsInList (Begun s) facts) → is_open_in r ws ≡ false
    by_list [] all = refl
    by_list (w ∷ ws) all = ap (λ (t : Bool). t || is_open_in r ws) (later_apart facts r w legal above (all w (inl refl))) ∙ by_list ws (λ s h. all s (inr h))

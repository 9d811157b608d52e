-- How what is known of a block grows with a history.
use Rattle.std.proofs.Common.{◌≡◌, ℕ, ◌&&◌, ◌||◌, not, nat_lt, Bool, true, false, cond, List, [], ◌∷◌, ◌++◌, Option, Some, None, IfSome, map, refl, sym, ◌∙◌, ap, subst}
use Rattle.lvm_num.specs.Buffer.{Sector, zero_sector}
use Rattle.lvm_vol.specs.declared.entry.Vol.{Vol}
use Rattle.lvm_vol.specs.declared.entry.Vol.TheVariants.{Disk, Lv}
use Rattle.lvm_vol.specs.declared.entry.Outcome.{Outcome}
use Rattle.lvm_vol.specs.declared.entry.Outcome.TheVariants as outcome
use Rattle.lvm_vol.specs.Facts.{Request, Fact, Making, Made, Split, Removing, Removed, Begun, Landed, Taken, Cut, On, IsInList, same_vol, is_over, block_of}
use Rattle.lvm_vol.specs.May.{Known, Knowledge, nothing_known, is_open_in, without, is_off, is_some_open, also, ended, read, landed, cut, source, change, after_fact, after, known, May}
use Rattle.lvm_vol.specs.Laws.{KnownPush, OthersStay, DoneCloses, GotFixes, LandedCloses, DisksAreTight, CutEndsAll, MayGrows, is_about, is_settling, is_fixing}
use Rattle.lvm_vol.proofs.FactsLemmas.Order.{stands_left}
use Rattle.lvm_vol.proofs.LawsLemmas.Legality.{same_self}

pub after-append : (k : Knowledge) (facts more : List Fact) → after k (facts ++ more) ≡ after (after k facts) more
after-append k [] more = refl
after-append k (f ∷ facts) more = after-append (after_fact f k) facts more

pub known-append : (facts more : List Fact) → known (facts ++ more) ≡ after (known facts) more
known-append facts more = after-append nothing_known facts more

pub known-push : KnownPush
known-push facts f vol b = ap (λ (k : Knowledge). k vol b) (known-append facts (f ∷ []))

-- but for a split into the volume, a block is its own source
not_split : (f : Fact) (vol : Vol) (b : ℕ) → is_about f vol b ≡ false → source f vol ≡ vol
not_split (Split from lv) vol b other = ap (λ (t : Bool). cond t (Lv from) vol) other
not_split _ vol b other = refl

unchanged : (f : Fact) (vol : Vol) (b : ℕ) (k : Known) → is_about f vol b ≡ false → change f vol b k ≡ k
unchanged (Making lv blocks m) vol b k other = ap (λ (t : Bool). cond t (record { values = Some (zero_sector ∷ []); open_writes = []; loose = false; mode = m }) k) other
unchanged (Split from lv) vol b k other = ap (λ (t : Bool). cond t (record k { open_writes = [] }) k) other
unchanged (Removed gone) vol b k other = ap (λ (t : Bool). cond t (record k { values = None; open_writes = []; loose = false }) k) other
unchanged (Begun r) vol b k other = ap (λ (t : Bool). cond t (record k { open_writes = r ∷ k.open_writes }) k) other
unchanged (Landed r how started got) vol b k other = ap (λ (t : Bool). cond t (landed r how started (block_of r.blocks r.at b) (block_of got r.at b) k) k) other
unchanged Cut vol b k other = absurd (let e : ◌≡◌ {A = Bool} true false = other in cc)
unchanged _ vol b k other = refl

pub others_stay : OthersStay
others_stay facts f vol b other =
    known-push facts f vol b ∙ ap (λ (v : Vol). change f vol b (known facts v b)) (not_split f vol b other) ∙ unchanged f vol b (known facts vol b) other

pub done_closes : DoneCloses
done_closes facts r started got vol b over write still =
    ap (λ (k : Known). k.values) (known-push facts (Landed r outcome.Done started got) vol b)
    ∙ ap (λ (t : Bool). (cond t (landed r outcome.Done started (block_of r.blocks r.at b) (block_of got r.at b) (known facts vol b)) (known facts vol b)).values) over
    ∙ ap (λ (t : Bool). (cond t (cond (is_open_in r (known facts vol b).open_writes) (ended r outcome.Done started (block_of r.blocks r.at b) (known facts vol b)) (known facts vol b)) (known facts vol b)).values) write
    ∙ ap (λ (t : Bool). (cond t (ended r outcome.Done started (block_of r.blocks r.at b) (known facts vol b)) (known facts vol b)).values) still

pub cut_ends_all : CutEndsAll
cut_ends_all facts vol b = ap (λ (k : Known). k.open_writes) (known-push facts Cut vol b)

-- what may be there may still be there
abbrev pub Grows : Known → Known → Type 0
Grows k new = (x : Sector) → May k x → May new x

by_values : (k new : Known) → new.values ≡ k.values → Grows k new
by_values k new same x may = subst (λ (o : Option (List (List ℕ))). IfSome o (λ values. IsInList x values)) (sym same) may

by_more : (k new : Known) (more : List (List ℕ)) → new.values ≡ also more k.values → Grows k new
by_more k new more are x may = subst (λ (o : Option (List (List ℕ))). IfSome o (λ values. IsInList x values)) (sym are) (by_option k.values may)
  where
    by_option : (o : Option (List (List ℕ))) → IfSome o (λ values. IsInList x values) → IfSome (also more o) (λ values. IsInList x values)
    by_option None may = tt
    by_option (Some values) may = stands_left values more x may

by_none : (k new : Known) → new.values ≡ None → Grows k new
by_none k new none x may = subst (λ (o : Option (List (List ℕ))). IfSome o (λ values. IsInList x values)) (sym none) tt

-- a choice that changes no values, or grows where it is made
by_choice : (k new : Known) (t : Bool) → (t ≡ true → Grows k new) → Grows k (cond t new k)
by_choice k new true grows = grows refl
by_choice k new false grows = λ x may. may

ended_grows : (r : Request) (how : Outcome) (started : Bool) (x : Sector) (k : Known) → (how ≡ outcome.Done → ⊥) → Grows k (ended r how started x k)
ended_grows r outcome.Done started x k other = absurd (other refl)
ended_grows r outcome.Lost started x k other = by_more k (ended r outcome.Lost started x k) (x ∷ []) refl
ended_grows r outcome.Off true x k other = by_more k (ended r outcome.Off true x k) (x ∷ []) refl
ended_grows r outcome.Dark true x k other = by_more k (ended r outcome.Dark true x k) (x ∷ []) refl
ended_grows r outcome.Off false x k other = by_values k (ended r outcome.Off false x k) refl
ended_grows r outcome.Dark false x k other = by_values k (ended r outcome.Dark false x k) refl
ended_grows r outcome.Got started x k other = by_values k (ended r outcome.Got started x k) refl
ended_grows r outcome.ReadFailed started x k other = by_values k (ended r outcome.ReadFailed started x k) refl
ended_grows r outcome.NoFresh started x k other = by_values k (ended r outcome.NoFresh started x k) refl

read_grows : (how : Outcome) (x : Sector) (k : Known) → (how ≡ outcome.Got → k.loose ≡ true) → Grows k (read how x k)
read_grows outcome.Got x k loose = by_values k (read outcome.Got x k) (ap (λ (t : Bool). (cond t k (record k { values = Some (x ∷ []) })).values) (loose refl))
read_grows _ x k loose = λ y may. may

landed_grows : (r : Request) (how : Outcome) (started : Bool) (x y : Sector) (k : Known) → is_settling r how k ≡ false → Grows k (landed r how started x y k)
landed_grows r how started x y k unsettled = by_write r.write (is_open_in r k.open_writes) refl refl
  where
    not_done : r.write ≡ true → is_open_in r k.open_writes ≡ true → how ≡ outcome.Done → ⊥
    not_done write still is =
        let e : is_settling r outcome.Done k ≡ true = ap (λ (t : Bool). t && is_open_in r k.open_writes) write ∙ still in
        let f : is_settling r outcome.Done k ≡ false = ap (λ (h : Outcome). is_settling r h k) (sym is) ∙ unsettled in
        absurd (cc)

    is_loose : (t : Bool) → k.loose ≡ t → r.write ≡ false → how ≡ outcome.Got → t ≡ true
    is_loose true loose is_read is = refl
    is_loose false tight is_read is =
        let e : is_settling r outcome.Got k ≡ true = ap (λ (t : Bool). not t && not k.loose) is_read ∙ ap not tight in
        let f : is_settling r outcome.Got k ≡ false = ap (λ (h : Outcome). is_settling r h k) (sym is) ∙ unsettled in
        absurd (cc)

    by_write : (a b : Bool) → r.write ≡ a → is_open_in r k.open_writes ≡ b → Grows k (landed r how started x y k)
    by_write true true write still =
        subst (λ (new : Known). Grows k new)
        (sym (ap (λ (t : Bool). cond t (cond (is_open_in r k.open_writes) (ended r how started x k) k) (read how y k)) write ∙ ap (λ (t : Bool). cond t (ended r how started x k) k) still))
        (ended_grows r how started x k (not_done write still))
    by_write true false write closed =
        subst (λ (new : Known). Grows k new)
        (sym (ap (λ (t : Bool). cond t (cond (is_open_in r k.open_writes) (ended r how started x k) k) (read how y k)) write ∙ ap (λ (t : Bool). cond t (ended r how started x k) k) closed))
        (λ z may. may)
    by_write false b is_read still =
        subst (λ (new : Known). Grows k new)
        (sym (ap (λ (t : Bool). cond t (cond (is_open_in r k.open_writes) (ended r how started x k) k) (read how y k)) is_read))
        (read_grows how y k (λ is. is_loose k.loose refl is_read is))

change_grows : (f : Fact) (vol : Vol) (b : ℕ) (k : Known) → is_fixing f vol b k ≡ false → Grows k (change f vol b k)
change_grows (Making lv blocks m) vol b k unfixed = by_choice k _ (same_vol (Lv lv) vol && nat_lt b blocks) (λ is. absurd (let e : ◌≡◌ {A = Bool} true false = sym is ∙ unfixed in cc))
change_grows (Split from lv) vol b k unfixed = by_choice k _ (same_vol (Lv lv) vol) (λ is. by_values k (record k { open_writes = [] }) refl)
change_grows (Begun r) vol b k unfixed = by_choice k _ (r.write && is_over r vol b) (λ is. by_values k (record k { open_writes = r ∷ k.open_writes }) refl)
change_grows (Landed r how started got) vol b k unfixed =
    by_choice k _ (is_over r vol b) (λ is. landed_grows r how started (block_of r.blocks r.at b) (block_of got r.at b) k (sym (ap (λ (t : Bool). t && is_settling r how k) is) ∙ unfixed))
change_grows Cut vol b k unfixed = by_more k (cut b k) (map (λ r. block_of r.blocks r.at b) k.open_writes) refl
change_grows (Removed gone) vol b k unfixed = by_choice k _ (same_vol gone vol) (λ is. by_none k (record k { values = None; open_writes = []; loose = false }) refl)
change_grows (Made lv) vol b k unfixed = λ x may. may
change_grows (Removing gone) vol b k unfixed = λ x may. may
change_grows (Taken r) vol b k unfixed = λ x may. may
change_grows (On moment) vol b k unfixed = λ x may. may

own_source : (f : Fact) (vol : Vol) (b : ℕ) (k : Known) → is_fixing f vol b k ≡ false → source f vol ≡ vol
own_source (Split from lv) vol b k unfixed = ap (λ (t : Bool). cond t (Lv from) vol) unfixed
own_source _ vol b k unfixed = refl

pub may_grows : MayGrows
may_grows facts f vol b x unfixed may =
    subst (λ (k : Known). May k x)
    (sym (known-push facts f vol b ∙ ap (λ (v : Vol). change f vol b (known facts v b)) (own_source f vol b (known facts vol b) unfixed)))
    (change_grows f vol b (known facts vol b) unfixed x may)

pub got_fixes : GotFixes
got_fixes facts r started got vol b over is_read tight =
    ap (λ (k : Known). k.values) (known-push facts (Landed r outcome.Got started got) vol b)
    ∙ ap (λ (t : Bool). (cond t (landed r outcome.Got started (block_of r.blocks r.at b) (block_of got r.at b) (known facts vol b)) (known facts vol b)).values) over
    ∙ ap (λ (t : Bool). (cond t (cond (is_open_in r (known facts vol b).open_writes) (ended r outcome.Got started (block_of r.blocks r.at b) (known facts vol b)) (known facts vol b)) (read outcome.Got (block_of got r.at b) (known facts vol b))).values) is_read
    ∙ ap (λ (t : Bool). (cond t (known facts vol b) (record (known facts vol b) { values = Some (block_of got r.at b ∷ []) })).values) tight

-- an ended write is no longer among the open ones
pub ended_open : (r : Request) (how : Outcome) (started : Bool) (x : Sector) (k : Known) → (ended r how started x k).open_writes ≡ without r k.open_writes
ended_open r outcome.Off true x k = refl
ended_open r outcome.Off false x k = refl
ended_open r outcome.Dark true x k = refl
ended_open r outcome.Dark false x k = refl
ended_open r _ started x k = refl

pub read_open : (how : Outcome) (x : Sector) (k : Known) → (read how x k).open_writes ≡ k.open_writes
read_open outcome.Got x k = by_loose k.loose
  where
    by_loose : (t : Bool) → (cond t k (record k { values = Some (x ∷ []) })).open_writes ≡ k.open_writes
    by_loose true = refl
    by_loose false = refl
read_open _ x k = refl

-- a write alone is open before it lands, and none after
landed_alone : (r : Request) (how : Outcome) (started : Bool) (x y : Sector) (k : Known) → r.write ≡ true → k.open_writes ≡ r ∷ [] → (landed r how started x y k).open_writes ≡ []
landed_alone r how started x y k write alone =
    let still : is_open_in r k.open_writes ≡ true = ap (λ (l : List Request). is_open_in r l) alone ∙ ap (λ (t : Bool). t || false) (same_self r) in
    ap (λ (t : Bool). (cond t (cond (is_open_in r k.open_writes) (ended r how started x k) k) (read how y k)).open_writes) write
    ∙ ap (λ (t : Bool). (cond t (ended r how started x k) k).open_writes) still
    ∙ ended_open r how started x k
    ∙ ap (λ (l : List Request). without r l) alone
    ∙ ap (λ (t : Bool). cond (not t) (r ∷ []) []) (same_self r)

landed_none : (r : Request) (how : Outcome) (started : Bool) (x y : Sector) (k : Known) → k.open_writes ≡ [] → (landed r how started x y k).open_writes ≡ []
landed_none r how started x y k none =
    let closed : is_open_in r k.open_writes ≡ false = ap (λ (l : List Request). is_open_in r l) none in
    by_write r.write closed
  where
    by_write : (w : Bool) → is_open_in r k.open_writes ≡ false → (cond w (cond (is_open_in r k.open_writes) (ended r how started x k) k) (read how y k)).open_writes ≡ []
    by_write true closed = ap (λ (t : Bool). (cond t (ended r how started x k) k).open_writes) closed ∙ none
    by_write false closed = read_open how y k ∙ none

pub landed_closes : LandedCloses
landed_closes facts r how started got vol b none =
    ap (λ (k : Known). k.open_writes) (known-push (facts ++ Begun r ∷ []) (Landed r how started got) vol b ∙ ap (λ (k : Known). change (Landed r how started got) vol b k) (known-push facts (Begun r) vol b))
    ∙ by_tests (is_over r vol b) r.write refl
  where
    by_tests : (o w : Bool) → r.write ≡ w
        → (cond o (landed r how started (block_of r.blocks r.at b) (block_of got r.at b) (cond (r.write && o) (record (known facts vol b) { open_writes = r ∷ (known facts vol b).open_writes }) (known facts vol b)))
        (cond (r.write && o) (record (known facts vol b) { open_writes = r ∷ (known facts vol b).open_writes }) (known facts vol b))).open_writes ≡ []
    by_tests true true write =
        ap (λ (t : Bool). (landed r how started (block_of r.blocks r.at b) (block_of got r.at b) (cond (t && true) (record (known facts vol b) { open_writes = r ∷ (known facts vol b).open_writes }) (known facts vol b))).open_writes) write
        ∙ landed_alone r how started (block_of r.blocks r.at b) (block_of got r.at b) (record (known facts vol b) { open_writes = r ∷ (known facts vol b).open_writes }) write (ap (λ (l : List Request). r ∷ l) none)
    by_tests true false is_read =
        ap (λ (t : Bool). (landed r how started (block_of r.blocks r.at b) (block_of got r.at b) (cond (t && true) (record (known facts vol b) { open_writes = r ∷ (known facts vol b).open_writes }) (known facts vol b))).open_writes) is_read
        ∙ landed_none r how started (block_of r.blocks r.at b) (block_of got r.at b) (known facts vol b) none
    by_tests false w is = ap (λ (t : Bool). (cond t (record (known facts vol b) { open_writes = r ∷ (known facts vol b).open_writes }) (known facts vol b)).open_writes) (and_no r.write) ∙ none
      where
        and_no : (a : Bool) → (a && false) ≡ false
        and_no true = refl
        and_no false = refl

-- a disk's blocks are tight, as its mode isn't Off
pub record IsTight (k : Known) : Type 0 where
  pub on_mode : is_off k.mode ≡ false
  pub tight : k.loose ≡ false

tight_ended : (r : Request) (how : Outcome) (started : Bool) (x : Sector) (k : Known) → IsTight k → IsTight (ended r how started x k)
tight_ended r outcome.Done started x k t = record { on_mode = t.on_mode; tight = refl }
tight_ended r outcome.Off true x k t = record { on_mode = t.on_mode; tight = ap (λ (b : Bool). b || is_off k.mode) t.tight ∙ t.on_mode }
tight_ended r outcome.Dark true x k t = record { on_mode = t.on_mode; tight = ap (λ (b : Bool). b || is_off k.mode) t.tight ∙ t.on_mode }
tight_ended r outcome.Off false x k t = record { on_mode = t.on_mode; tight = t.tight }
tight_ended r outcome.Dark false x k t = record { on_mode = t.on_mode; tight = t.tight }
tight_ended r _ started x k t = record { on_mode = t.on_mode; tight = t.tight }

tight_choice : (t : Bool) (a b : Known) → IsTight a → IsTight b → IsTight (cond t a b)
tight_choice true a b ta tb = ta
tight_choice false a b ta tb = tb

tight_read : (how : Outcome) (x : Sector) (k : Known) → IsTight k → IsTight (read how x k)
tight_read outcome.Got x k t = tight_choice k.loose k (record k { values = Some (x ∷ []) }) t (record { on_mode = t.on_mode; tight = t.tight })
tight_read _ x k t = t

tight_change : (f : Fact) (d b : ℕ) (k : Known) → IsTight k → IsTight (change f (Disk d) b k)
tight_change (Making lv blocks m) d b k t = t
tight_change (Split from lv) d b k t = t
tight_change (Begun r) d b k t = tight_choice (r.write && is_over r (Disk d) b) _ k (record { on_mode = t.on_mode; tight = t.tight }) t
tight_change (Landed r how started got) d b k t =
    tight_choice (is_over r (Disk d) b) _ k
    (tight_choice r.write _ (read how (block_of got r.at b) k)
    (tight_choice (is_open_in r k.open_writes) _ k (tight_ended r how started (block_of r.blocks r.at b) k t) t)
    (tight_read how (block_of got r.at b) k t))
    t
tight_change Cut d b k t = record { on_mode = t.on_mode; tight = ap (λ (c : Bool). c || (is_off k.mode && is_some_open k.open_writes)) t.tight ∙ ap (λ (c : Bool). c && is_some_open k.open_writes) t.on_mode }
tight_change (Removed gone) d b k t = tight_choice (same_vol gone (Disk d)) _ k (record { on_mode = t.on_mode; tight = refl }) t
tight_change (Made lv) d b k t = t
tight_change (Removing gone) d b k t = t
tight_change (Taken r) d b k t = t
tight_change (On moment) d b k t = t

disk_source : (f : Fact) (d : ℕ) → source f (Disk d) ≡ Disk d
disk_source (Making lv blocks m) d = refl
disk_source _ d = refl

tight_after : (k : Knowledge) (facts : List Fact) → ((d b : ℕ) → IsTight (k (Disk d) b)) → (d b : ℕ) → IsTight (after k facts (Disk d) b)
tight_after k [] tight d b = tight d b
tight_after k (f ∷ facts) tight d b = tight_after (after_fact f k) facts
    (λ e c. subst (λ (v : Vol). IsTight (change f (Disk e) c (k v c))) (sym (disk_source f e)) (tight_change f e c (k (Disk e) c) (tight e c))) d b

pub disks_are_tight : DisksAreTight
disks_are_tight facts d b = let its = tight_after nothing_known facts (λ e c. record { on_mode = refl; tight = refl }) d b in its.tight

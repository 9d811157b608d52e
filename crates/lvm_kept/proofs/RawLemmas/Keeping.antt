-- Crash images stay kept while a write of a raw disk goes through.
use Rattle.std.proofs.Common.{◌≡◌, ◌⊎◌, inl, inr, ⊎_elim, ◌≤◌, ◌<◌, ◌∷◌, ◌++◌, [], ℕ, List, Bool, Option, Some, None, true, false, if◌then◌else◌, unwrap_or, refl, sym, ◌∙◌, ap, subst}
use Rattle.lvm_disk.specs.passed.Num.{Sector, data_start}
use Rattle.lvm_disk.specs.Device.{Image, Flight, SameDisks, written}
use Rattle.lvm_disk.specs.Images.{DiffersBy}
use Rattle.lvm_disk.specs.Steps.{Puts, PutsSome}
use Rattle.lvm_vol.specs.declared.entry.Vol.{Vol}
use Rattle.lvm_vol.specs.declared.entry.Vol.TheVariants.{Disk}
use Rattle.lvm_vol.specs.declared.entry.Outcome.{Outcome}
use Rattle.lvm_vol.specs.declared.entry.Outcome.TheVariants as outcome
use Rattle.lvm_vol.specs.Facts.{Request, Fact, Begun, Landed, Taken, Cut, is_over, block_of}
use Rattle.lvm_vol.specs.May.{Known, known, change, source, May, ended, landed, is_open_in, cut}
use Rattle.lvm_vol.proofs.LawsLemmas.Knowing.{ended_open}
use Rattle.lvm_kept.specs.Raw.{RawKept, raw_request, CarriesRequest}
use Rattle.lvm_kept.specs.Moments.{Calm}
use Rattle.lvm_kept.proofs.MayLemmas.{Among, after_cut, cut_adds_none, cut_adds_more, cut_adds_it, also_adds, also_is, known_more, open_now, closes}
pub use Rattle.std.proofs.lemmas.Bool.{cases_Bool as either}

-- what a history makes of each block after a cut, seen as one more entry
pub of_kept : (image : Image) (facts : List Fact) → RawKept image facts → (d b : ℕ) → d < image.disks → data_start ≤ b → b < image.size d → May (cut b (known facts (Disk d) b)) (image.sector d b)
of_kept image facts kept d b there low high = subst (λ (k : Known). May k (image.sector d b)) (known_more facts Cut (Disk d) b) (kept.raw d b there low high)

pub to_kept : (image : Image) (facts : List Fact) → ((d b : ℕ) → d < image.disks → data_start ≤ b → b < image.size d → May (cut b (known facts (Disk d) b)) (image.sector d b)) → RawKept image facts
to_kept image facts may = record { raw = λ d b there low high. subst (λ (k : Known). May k (image.sector d b)) (sym (known_more facts Cut (Disk d) b)) (may d b there low high) }

-- one entry more, seen block by block
pub kept_more :
    (image : Image) (facts : List Fact) (f : Fact)
    → ((d b : ℕ) → d < image.disks → data_start ≤ b → b < image.size d → May (cut b (change f (Disk d) b (known facts (source f (Disk d)) b))) (image.sector d b))
    → RawKept image (facts ++ f ∷ [])
kept_more image facts f may = to_kept image (facts ++ f ∷ []) (λ d b there low high.
    subst (λ (k : Known). May (cut b k) (image.sector d b)) (sym (known_more facts f (Disk d) b)) (may d b there low high))

pub kept_taken : (image : Image) (facts : List Fact) (r : Request) → RawKept image facts → RawKept image (facts ++ Taken r ∷ [])
kept_taken image facts r kept = kept_more image facts (Taken r) (of_kept image facts kept)

-- after a cut another one adds nothing
cut_again : (k : Known) (b : ℕ) (x : Sector) → May (cut b k) x → May (cut b (cut b k)) x
cut_again k b x may = also_adds [] (after_cut k.open_writes b k.values) x may

pub kept_cut : (image : Image) (facts : List Fact) → RawKept image facts → RawKept image (facts ++ Cut ∷ [])
kept_cut image facts kept = kept_more image facts Cut (λ d b there low high. cut_again (known facts (Disk d) b) b (image.sector d b) (of_kept image facts kept d b there low high))

-- a write that isn't open lands, and nothing changes
landed_closed : (r : Request) (how : Outcome) (started : Bool) (got : List Sector) (vol : Vol) (b : ℕ) (k : Known) → r.write ≡ true → k.open_writes ≡ [] → change (Landed r how started got) vol b k ≡ k
landed_closed r how started got vol b k write none =
    let closed : is_open_in r k.open_writes ≡ false = ap (is_open_in r) none in
    go (is_over r vol b) _ (open_first r.write (is_open_in r k.open_writes) write closed (ended r how started (block_of r.blocks r.at b) k) (Rattle.lvm_vol.specs.May.read how (block_of got r.at b) k))
  where
    go : (t : Bool) (x : Known) → x ≡ k → (if t then x else k) ≡ k
    go true x is = is
    go false x is = refl

    open_first : (w o : Bool) → w ≡ true → o ≡ false → (x y : Known) → (if w then (if o then x else k) else y) ≡ k
    open_first w o p q x y = cc

-- a write that a cut has closed lands
pub kept_closed : (image : Image) (facts : List Fact) (r : Request) (how : Outcome) (started : Bool) → r.write ≡ true → Calm facts → RawKept image facts → RawKept image (facts ++ Landed r how started [] ∷ [])
kept_closed image facts r how started write calm kept = kept_more image facts (Landed r how started []) (λ d b there low high.
    subst (λ (k : Known). May (cut b k) (image.sector d b)) (sym (landed_closed r how started [] (Disk d) b (known facts (Disk d) b) write (calm (Disk d) b))) (of_kept image facts kept d b there low high))

module _ (run id disk at count : ℕ) (blocks : List Sector) (f : Flight) (carries : CarriesRequest (raw_request run id disk at count true blocks) f) where
  abbrev it : Request
  it = raw_request run id disk at count true blocks

  -- where the flight may have written, and what
  from_flight : (d s : ℕ) (x y : Sector) → (x ≡ y) ⊎ (written f d s ≡ Some x) → (x ≡ y) ⊎ ((is_over it (Disk d) s ≡ true) × (x ≡ block_of blocks at s))
  from_flight d s x y (inl same) = inl same
  from_flight d s x y (inr put) = ⊎_elim
      (λ over. inr (over, let e : Some x ≡ Some (block_of blocks at s) = sym put ∙ carries.there d s over in cc))
      (λ other. absurd (let e : None ≡ Some x = sym (carries.elsewhere d s other) ∙ put in cc))
      (either (is_over it (Disk d) s))

  begun_at : (b : ℕ) (t : Bool) (x before : Sector) (k : Known) → May (cut b k) before → (x ≡ before) ⊎ ((t ≡ true) × (x ≡ block_of blocks at b)) → May (cut b (if t then record k { open_writes = it ∷ k.open_writes } else k)) x
  begun_at b true x before k may (inl same) = cut_adds_more k.values it k.open_writes b x (subst (λ (y : Sector). May (cut b k) y) (sym same) may)
  begun_at b true x before k may (inr put) = cut_adds_it k.values it k.open_writes b x put.1
  begun_at b false x before k may (inl same) = subst (λ (y : Sector). May (cut b k) y) (sym same) may
  begun_at b false x before k may (inr put) = absurd (cc (put.0))

  -- the write has begun, and may be on its way
  pub begun_kept : (facts : List Fact) (before image : Image) → RawKept before facts → DiffersBy f before image → RawKept image (facts ++ Begun it ∷ [])
  begun_kept facts before image kept differs = kept_more image facts (Begun it) (λ d b there low high.
      let was : May (cut b (known facts (Disk d) b)) (before.sector d b) = of_kept before facts kept d b (subst (λ (n : ℕ). d < n) differs.same.disks there) low (subst (λ (n : ℕ). b < n) (differs.same.size d) high) in
      begun_at b (is_over it (Disk d) b) (image.sector d b) (before.sector d b) (known facts (Disk d) b) was (from_flight d b (image.sector d b) (before.sector d b) (differs.each d b)))

  -- what the landing of the write makes of a block
  landed_at : (how : Outcome) (started : Bool) (b : ℕ) (k : Known) (x : Sector) (t : Bool)
      → (t ≡ true → May (cut b (ended it how started (block_of blocks at b) (record k { open_writes = it ∷ k.open_writes }))) x)
      → (t ≡ false → May (cut b k) x)
      → May (cut b (if t then landed it how started (block_of blocks at b) (block_of [] at b) (if t then record k { open_writes = it ∷ k.open_writes } else k) else (if t then record k { open_writes = it ∷ k.open_writes } else k))) x
  landed_at how started b k x true here elsewhere =
      let now = record k { open_writes = it ∷ k.open_writes } in
      subst (λ (o : Bool). May (cut b (if o then ended it how started (block_of blocks at b) now else now)) x) (sym (open_now it k.open_writes)) (here refl)
  landed_at how started b k x false here elsewhere = elsewhere refl

  landed_kept : (how : Outcome) (started : Bool) (facts : List Fact) (image : Image)
      → ((d b : ℕ) → d < image.disks → data_start ≤ b → b < image.size d → is_over it (Disk d) b ≡ true → May (cut b (ended it how started (block_of blocks at b) (record (known facts (Disk d) b) { open_writes = it ∷ (known facts (Disk d) b).open_writes }))) (image.sector d b))
      → ((d b : ℕ) → d < image.disks → data_start ≤ b → b < image.size d → is_over it (Disk d) b ≡ false → May (cut b (known facts (Disk d) b)) (image.sector d b))
      → RawKept image ((facts ++ Begun it ∷ []) ++ Landed it how started [] ∷ [])
  landed_kept how started facts image here elsewhere = kept_more image (facts ++ Begun it ∷ []) (Landed it how started []) (λ d b there low high.
      subst (λ (k : Known). May (cut b (change (Landed it how started []) (Disk d) b k)) (image.sector d b)) (sym (known_more facts (Begun it) (Disk d) b))
      (landed_at how started b (known facts (Disk d) b) (image.sector d b) (is_over it (Disk d) b) (here d b there low high) (elsewhere d b there low high)))

  -- All of the write stands on the media.
  pub done_kept : (facts : List Fact) (before image : Image) → RawKept before facts → SameDisks before image → Puts f before.sector image.sector → RawKept image ((facts ++ Begun it ∷ []) ++ Landed it outcome.Done true [] ∷ [])
  done_kept facts before image kept same puts = landed_kept outcome.Done true facts image
      (λ d b there low high over. inl (sym (puts d b ∙ ap (λ (o : Option Sector). unwrap_or o (before.sector d b)) (carries.there d b over))))
      (λ d b there low high other. let e : image.sector d b ≡ before.sector d b = puts d b ∙ ap (λ (o : Option Sector). unwrap_or o (before.sector d b)) (carries.elsewhere d b other) in
      subst (λ (x : Sector). May (cut b (known facts (Disk d) b)) x) (sym e)
      (of_kept before facts kept d b (subst (λ (n : ℕ). d < n) same.disks there) low (subst (λ (n : ℕ). b < n) (same.size d) high)))

  -- Any of it does.
  pub lost_kept : (facts : List Fact) (before image : Image) → Calm facts → RawKept before facts → SameDisks before image → PutsSome f before.sector image.sector → RawKept image ((facts ++ Begun it ∷ []) ++ Landed it outcome.Lost true [] ∷ [])
  lost_kept facts before image calm kept same puts = landed_kept outcome.Lost true facts image
      (λ d b there low high over.
      let values = (known facts (Disk d) b).values in
      let v = block_of blocks at b in
      let was : May (cut b (known facts (Disk d) b)) (before.sector d b) = of_kept before facts kept d b (subst (λ (n : ℕ). d < n) same.disks there) low (subst (λ (n : ℕ). b < n) (same.size d) high) in
      let may : Among values (before.sector d b) = cut_adds_none values b (before.sector d b) (subst (λ (l : List Request). Among (after_cut l b values) (before.sector d b)) (calm (Disk d) b) was) in
      still b (known facts (Disk d) b) (image.sector d b) (⊎_elim
      (λ as_was. subst (λ (x : Sector). Among (Rattle.lvm_vol.specs.May.also (v ∷ []) values) x) (sym as_was) (also_adds (v ∷ []) values (before.sector d b) may))
      (λ put. also_is v (image.sector d b) values (let e : Some (image.sector d b) ≡ Some v = sym put ∙ carries.there d b over in cc))
      (puts d b)))
      (λ d b there low high other. let was : May (cut b (known facts (Disk d) b)) (before.sector d b) = of_kept before facts kept d b (subst (λ (n : ℕ). d < n) same.disks there) low (subst (λ (n : ℕ). b < n) (same.size d) high) in
      ⊎_elim
      (λ as_was. subst (λ (x : Sector). May (cut b (known facts (Disk d) b)) x) (sym as_was) was)
      (λ put. absurd (let e : None ≡ Some (image.sector d b) = sym (carries.elsewhere d b other) ∙ put in cc))
      (puts d b))
    where
      still : (b : ℕ) (k : Known) (x : Sector) → Among (Rattle.lvm_vol.specs.May.also (block_of blocks at b ∷ []) k.values) x → May (cut b (ended it outcome.Lost true (block_of blocks at b) (record k { open_writes = it ∷ k.open_writes }))) x
      still b k x may = also_adds _ (Rattle.lvm_vol.specs.May.also (block_of blocks at b ∷ []) k.values) x may

  landed_open : (how : Outcome) (started : Bool) (b : ℕ) (k : Known) (t : Bool) → k.open_writes ≡ []
      → (if t then landed it how started (block_of blocks at b) (block_of [] at b) (if t then record k { open_writes = it ∷ k.open_writes } else k) else (if t then record k { open_writes = it ∷ k.open_writes } else k)).open_writes ≡ []
  landed_open how started b k true none =
      let now = record k { open_writes = it ∷ k.open_writes } in
      ap (λ (o : Bool). (if o then ended it how started (block_of blocks at b) now else now).open_writes) (open_now it k.open_writes)
      ∙ ended_open it how started (block_of blocks at b) now ∙ closes it k.open_writes none
  landed_open how started b k false none = none

  pub landed_calm : (how : Outcome) (started : Bool) (facts : List Fact) → Calm facts → Calm ((facts ++ Begun it ∷ []) ++ Landed it how started [] ∷ [])
  landed_calm how started facts calm vol b =
      ap (λ (k : Known). k.open_writes) (known_more (facts ++ Begun it ∷ []) (Landed it how started []) vol b ∙ ap (change (Landed it how started []) vol b) (known_more facts (Begun it) vol b))
      ∙ landed_open how started b (known facts vol b) (is_over it vol b) (calm vol b)

-- a cut closes all
pub cut_calm : (facts : List Fact) → Calm (facts ++ Cut ∷ [])
cut_calm facts vol b = ap (λ (k : Known). k.open_writes) (known_more facts Cut vol b)

pub taken_calm : (facts : List Fact) (r : Request) → Calm facts → Calm (facts ++ Taken r ∷ [])
taken_calm facts r calm vol b = ap (λ (k : Known). k.open_writes) (known_more facts (Taken r) vol b) ∙ calm vol b

-- a write that was closed by the cut lands
pub closed_calm : (facts : List Fact) (r : Request) (how : Outcome) (started : Bool) → r.write ≡ true → Calm facts → Calm (facts ++ Landed r how started [] ∷ [])
closed_calm facts r how started write calm vol b =
    ap (λ (k : Known). k.open_writes) (known_more facts (Landed r how started []) vol b ∙ landed_closed r how started [] vol b (known facts vol b) write (calm vol b)) ∙ calm vol b

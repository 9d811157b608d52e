-- What one block may have while a request goes through.
use Rattle.std.proofs.Common.{◌≡◌, inl, inr, ◌||◌, ◌∷◌, ◌++◌, [], ℕ, List, Bool, Option, Some, None, true, not, cond, sym, ◌∙◌, ap, map, IfSome}
use Rattle.lvm_disk.specs.passed.Num.{Sector}
use Rattle.lvm_vol.specs.declared.entry.Vol.{Vol}
use Rattle.lvm_vol.specs.Facts.{Request, Fact, IsInList, block_of}
use Rattle.lvm_vol.specs.May.{Knowledge, known, nothing_known, change, source, also, is_open_in, without}
use Rattle.lvm_vol.proofs.LawsLemmas.Legality.{same_self}
use Rattle.lvm_vol.proofs.LawsLemmas.Knowing.{after-append}

pub one_left_of : (x : Sector) (ys zs : List Sector) → IsInList x ys → IsInList x (ys ++ zs)
one_left_of x [] zs is = absurd is
one_left_of x (y ∷ ys) zs (inl here) = inl here
one_left_of x (y ∷ ys) zs (inr there) = inr (one_left_of x ys zs there)

pub one_right_of : (x : Sector) (ys zs : List Sector) → IsInList x zs → IsInList x (ys ++ zs)
one_right_of x [] zs is = is
one_right_of x (y ∷ ys) zs is = inr (one_right_of x ys zs is)

one_of_all : (x : Sector) (ys : List Sector) → IsInList x (ys ++ []) → IsInList x ys
one_of_all x [] is = is
one_of_all x (y ∷ ys) (inl here) = inl here
one_of_all x (y ∷ ys) (inr there) = inr (one_of_all x ys there)

-- among values that are known, or anything where none are
abbrev pub Among : Option (List Sector) → Sector → Type 0
Among values x = IfSome values (λ vs. IsInList x vs)

-- the values after a power cut: those of the open writes are added
abbrev pub after_cut : List Request → ℕ → Option (List Sector) → Option (List Sector)
after_cut writes b values = also (map (λ r. block_of r.blocks r.at b) writes) values

pub also_adds : (more : List Sector) (values : Option (List Sector)) (x : Sector) → Among values x → Among (also more values) x
also_adds more None x may = may
also_adds more (Some vs) x may = one_left_of x vs more may

pub also_is : (y x : Sector) (values : Option (List Sector)) → x ≡ y → Among (also (y ∷ []) values) x
also_is y x None is = tt
also_is y x (Some vs) is = one_right_of x vs (y ∷ []) (inl (sym is))

pub cut_adds_none : (values : Option (List Sector)) (b : ℕ) (x : Sector) → Among (after_cut [] b values) x → Among values x
cut_adds_none None b x may = may
cut_adds_none (Some vs) b x may = one_of_all x vs may

pub one_more : (x : Sector) (vs ys : List Sector) (y : Sector) → IsInList x (vs ++ ys) → IsInList x (vs ++ y ∷ ys)
one_more x [] ys y is = inr is
one_more x (v ∷ vs) ys y (inl here) = inl here
one_more x (v ∷ vs) ys y (inr there) = inr (one_more x vs ys y there)

pub cut_adds_more : (values : Option (List Sector)) (r : Request) (writes : List Request) (b : ℕ) (x : Sector) → Among (after_cut writes b values) x → Among (after_cut (r ∷ writes) b values) x
cut_adds_more None r writes b x may = may
cut_adds_more (Some vs) r writes b x may = one_more x vs (map (λ r. block_of r.blocks r.at b) writes) (block_of r.blocks r.at b) may

-- the value of the newest open write
pub cut_adds_it : (values : Option (List Sector)) (r : Request) (writes : List Request) (b : ℕ) (x : Sector) → x ≡ block_of r.blocks r.at b → Among (after_cut (r ∷ writes) b values) x
cut_adds_it None r writes b x is = tt
cut_adds_it (Some vs) r writes b x is = one_right_of x vs (block_of r.blocks r.at b ∷ map (λ r. block_of r.blocks r.at b) writes) (inl (sym is))

-- ---- one entry more

pub known_more : (facts : List Fact) (f : Fact) (vol : Vol) (b : ℕ) → known (facts ++ f ∷ []) vol b ≡ change f vol b (known facts (source f vol) b)
known_more facts f vol b = ap (λ (k : Knowledge). k vol b) (after-append nothing_known facts (f ∷ []))

pub open_now : (r : Request) (writes : List Request) → is_open_in r (r ∷ writes) ≡ true
open_now r writes = ap (λ (b : Bool). b || is_open_in r writes) (same_self r)

pub closes : (r : Request) (writes : List Request) → writes ≡ [] → without r (r ∷ writes) ≡ []
closes r writes none = ap (λ (b : Bool). cond (not b) (r ∷ without r writes) (without r writes)) (same_self r) ∙ ap (λ (l : List Request). without r l) none

-- A cut changes nothing of a block of which no write is open.
use Rattle.std.proofs.Common.{◌≡◌, inl, inr, ℕ, Bool, true, false, ◌&&◌, ◌||◌, List, [], ◌∷◌, ◌++◌, Option, Some, None, map, refl, subst}
use Rattle.std.specs.Prelude.{IsTrue}
use Rattle.lvm_num.specs.Buffer.{Sector}
use Rattle.lvm_vol.specs.declared.entry.Vol.{Vol}
use Rattle.lvm_vol.specs.Facts.{Request, Fact, Cut, IsInList, block_of}
use Rattle.lvm_vol.specs.May.{Known, known, cut, also, is_off, is_some_open, IsValue}
use Rattle.lvm_vol.proofs.LawsLemmas.Knowing.{known-push}

stands_alone : (x : Sector) (xs : List Sector) → IsInList x (xs ++ []) → IsInList x xs
stands_alone x [] h = h
stands_alone x (y ∷ ys) (inl is) = inl is
stands_alone x (y ∷ ys) (inr there) = inr (stands_alone x ys there)

none_added : (k : Known) (x : Sector) → (writes : List Request) → writes ≡ [] → (b : ℕ) → IsValue (record k { values = also (map (λ (r : Request). block_of r.blocks r.at b) writes) k.values }) x → IsValue k x
none_added k x [] none b h = by k.values h
  where
    by : (values : Option (List (List ℕ))) → IsValue (record k { values = also [] values }) x → IsValue (record k { values = values }) x
    by None h = h
    by (Some vs) h = stands_alone x vs h
none_added k x (r ∷ rs) none b h = absurd cc

pub value_uncut : (b : ℕ) (k : Known) (x : Sector) → k.open_writes ≡ [] → IsValue (cut b k) x → IsValue k x
value_uncut b k x none h = none_added k x k.open_writes none b h

neither : (a b : Bool) → IsTrue (a || (b && false)) → IsTrue a
neither true b h = refl
neither false true h = h
neither false false h = h

pub loose_uncut : (b : ℕ) (k : Known) → k.open_writes ≡ [] → IsTrue (cut b k).loose → IsTrue k.loose
loose_uncut b k none h = neither k.loose (is_off k.mode) (subst (λ (rs : List Request). IsTrue (k.loose || (is_off k.mode && is_some_open rs))) none h)

pub known_cut : (facts : List Fact) (vol : Vol) (b : ℕ) → known (facts ++ Cut ∷ []) vol b ≡ cut b (known facts vol b)
known_cut facts vol b = known-push facts Cut vol b

-- Sectors in pieces, of which only the front is kept.
use Rattle.std.proofs.Common.{◌≡◌, ◌+◌, ◌*◌, ◌-◌, ◌<◌, ◌≤◌, ◌^◌, ◌++◌, [], ◌∷◌, ℕ, zero, suc, List, slice_index_or, slice_set, length, replicate, refl, sym, ◌∙◌, ap, subst, arith, length-append, length-set}
use Rattle.std.proofs.lemmas.List.{append-nil, append_assoc, length-replicate, replicate-append-replicate, set_at}
use Rattle.lvm_num.specs.Buffer.{Sector, zero_sector}
use Rattle.lvm_memory.specs.Media.{sizes_of, AllSectors}
use Rattle.lvm_memory.proofs.PiecesLemmas.Putting.{zeros_are_sectors}
use Rattle.lvm_memory.specs.Pieces.{filled_up, joined, AreSizes, IsCut}

index_left : (l m : List Sector) (i : ℕ) → i < length l → slice_index_or (l ++ m) i [] ≡ slice_index_or l i []
index_left [] m i below = absurd (omega arith)
index_left (x ∷ l) m zero below = refl
index_left (x ∷ l) m (suc i) below = index_left l m i (omega arith)

index_right : (l m : List Sector) (i j : ℕ) → i ≡ length l + j → slice_index_or (l ++ m) i [] ≡ slice_index_or m j []
index_right [] m i j is = ap (λ (k : ℕ). slice_index_or m k []) (omega (arith, is))
index_right (x ∷ l) m zero j is = absurd (omega (arith, is))
index_right (x ∷ l) m (suc i) j is = index_right l m i j (omega (arith, is))

set_left : (l m : List Sector) (i : ℕ) (x : Sector) → i < length l → slice_set (l ++ m) i x ≡ slice_set l i x ++ m
set_left [] m i x below = absurd (omega arith)
set_left (y ∷ l) m zero x below = refl
set_left (y ∷ l) m (suc i) x below = ap (λ (k : List Sector). y ∷ k) (set_left l m i x (omega arith))

set_right : (l m : List Sector) (i j : ℕ) (x : Sector) → i ≡ length l + j → slice_set (l ++ m) i x ≡ l ++ slice_set m j x
set_right [] m i j x is = ap (λ (k : ℕ). slice_set m k x) (omega (arith, is))
set_right (y ∷ l) m zero j x is = absurd (omega (arith, is))
set_right (y ∷ l) m (suc i) j x is = ap (λ (k : List Sector). y ∷ k) (set_right l m i j x (omega (arith, is)))

-- sector s of the whole is sector r of piece q
pub record LiesIn (pieces : List (List Sector)) (q r s : ℕ) : Type 0 where
  pub there : q < length pieces
  pub inside : r < length (slice_index_or pieces q [])
  pub found : slice_index_or (joined pieces) s [] ≡ slice_index_or (slice_index_or pieces q []) r []
  pub set : (x : Sector) → slice_set (joined pieces) s x ≡ joined (slice_set pieces q (slice_set (slice_index_or pieces q []) r x))

in_first : (n r : ℕ) (p : List Sector) (ps : List (List Sector)) → AreSizes n (sizes_of (p ∷ ps)) → r < n → r < length (joined (p ∷ ps)) → r < length p
in_first n r p [] sizes less below = omega (arith, length-append p [], below)
in_first n r p (q ∷ ps) sizes less below = let full = sizes.full 0 (omega arith) in omega (arith, full, less)

rest_sizes : (n s : ℕ) (sizes : List ℕ) → AreSizes n (s ∷ sizes) → AreSizes n sizes
rest_sizes n s sizes all = record { most = λ k. all.most (suc k); full = λ k more. all.full (suc k) (omega arith) }

pub lies_in :
    (n : ℕ) (pieces : List (List Sector)) (q r s : ℕ) → AreSizes n (sizes_of pieces) → r < n → s ≡ q * n + r → s < length (joined pieces) → LiesIn pieces q r s
lies_in n [] q r s sizes less is below = absurd (omega arith)
lies_in n (p ∷ ps) zero r s sizes less is below =
    let inside = in_first n r p ps sizes less (omega (arith, is, below)) in
    let same : s ≡ r = omega (arith, is) in
    record {
      there = omega arith;
      inside = inside;
      found = ap (λ (k : ℕ). slice_index_or (joined (p ∷ ps)) k []) same ∙ index_left p (joined ps) r inside;
      set = λ x. ap (λ (k : ℕ). slice_set (joined (p ∷ ps)) k x) same ∙ set_left p (joined ps) r x inside;
    }
lies_in n (p ∷ []) (suc q) r s sizes less is below =
    let most = sizes.most 0 in absurd (omega (arith, most, is, below, length-append p []))
lies_in n (p ∷ o ∷ ps) (suc q) r s sizes less is below =
    let full = sizes.full 0 (omega arith) in
    let later : s ≡ length p + (q * n + r) = omega (arith, full, is) in
    let rest = lies_in n (o ∷ ps) q r (q * n + r) (rest_sizes n (length p) (sizes_of (o ∷ ps)) sizes) less refl (omega (arith, later, below, length-append p (joined (o ∷ ps)))) in
    record {
      there = let it = rest.there in omega (arith, it);
      inside = rest.inside;
      found = index_right p (joined (o ∷ ps)) s (q * n + r) later ∙ rest.found;
      set = λ x. set_right p (joined (o ∷ ps)) s (q * n + r) x later ∙ ap (λ (k : List Sector). p ++ k) (rest.set x);
    }

-- pieces of zeros are zeros
pub joined_zeros : (n k r : ℕ) → joined (replicate k (replicate n zero_sector) ++ replicate r zero_sector ∷ []) ≡ replicate (k * n + r) zero_sector
joined_zeros n zero r = append-nil (replicate r zero_sector) ∙ ap (λ (m : ℕ). replicate m zero_sector) (omega arith)
joined_zeros n (suc k) r =
    ap (λ (l : List Sector). replicate n zero_sector ++ l) (joined_zeros n k r) ∙ replicate-append-replicate n (k * n + r) zero_sector
    ∙ ap (λ (m : ℕ). replicate m zero_sector) (omega arith)

one_most : (n r : ℕ) → r < n → (k : ℕ) → slice_index_or (sizes_of (replicate r zero_sector ∷ [])) k 0 ≤ n
one_most n r less zero = omega (arith, length-replicate r zero_sector, less)
one_most n r less (suc k) = omega arith

more_most : (n : ℕ) (ps : List (List Sector)) → AreSizes n (sizes_of ps) → (k : ℕ) → slice_index_or (sizes_of (replicate n zero_sector ∷ ps)) k 0 ≤ n
more_most n ps rest zero = omega (arith, length-replicate n zero_sector)
more_most n ps rest (suc k) = rest.most k

more_full :
    (n : ℕ) (ps : List (List Sector)) → AreSizes n (sizes_of ps) → (k : ℕ) → k + 1 < length (sizes_of (replicate n zero_sector ∷ ps))
    → slice_index_or (sizes_of (replicate n zero_sector ∷ ps)) k 0 ≡ n
more_full n ps rest zero more = length-replicate n zero_sector
more_full n ps rest (suc k) more = rest.full k (omega (arith, more))

-- and they are cut so
pub zeros_sizes : (n k r : ℕ) → r < n → AreSizes n (sizes_of (replicate k (replicate n zero_sector) ++ replicate r zero_sector ∷ []))
zeros_sizes n zero r less = record { most = one_most n r less; full = λ k more. absurd (omega (arith, more)) }
zeros_sizes n (suc k) r less =
    let ps = replicate k (replicate n zero_sector) ++ replicate r zero_sector ∷ [] in
    let rest = zeros_sizes n k r less in
    record { most = more_most n ps rest; full = more_full n ps rest }

-- a sector is put into a piece, once it is kept so far
pub set_filled :
    (count at : ℕ) (front : List Sector) (x : Sector) → at < count → length front ≤ count
    → filled_up count (slice_set (front ++ replicate (at + 1 - length front) zero_sector) at x) ≡ slice_set (filled_up count front) at x
set_filled count at front x below within =
    let a = at + 1 - length front in
    let kept = front ++ replicate a zero_sector in
    let long : length kept ≡ length front + a = length-append front (replicate a zero_sector) ∙ ap (λ (n : ℕ). length front + n) (length-replicate a zero_sector) in
    let b = count - length (slice_set kept at x) in
    let both : a + b ≡ count - length front = omega (arith, length-set kept at x, long, below, within) in
    sym (set_left kept (replicate b zero_sector) at x (omega (arith, long)))
    ∙ ap (λ (l : List Sector). slice_set l at x)
    (append_assoc front (replicate a zero_sector) (replicate b zero_sector)
    ∙ ap (λ (l : List Sector). front ++ l) (replicate-append-replicate a b zero_sector ∙ ap (λ (n : ℕ). replicate n zero_sector) both))

-- one is put behind those that are kept
pub pushed : (front : List Sector) (at : ℕ) (x : Sector) → at ≡ length front → front ++ x ∷ [] ≡ slice_set (front ++ replicate (at + 1 - length front) zero_sector) at x
pushed front at x is =
    let one : at + 1 - length front ≡ 1 = omega (arith, is) in
    sym (ap (λ (n : ℕ). slice_set (front ++ replicate n zero_sector) at x) one ∙ set_at front zero_sector [] x at (sym is))

-- a disk of zeros, cut into pieces
pub zeros_cut :
    (n k r count : ℕ) (pieces : List (List Sector)) → count < 2 ^ 64 → r < n → count ≡ k * n + r → pieces ≡ replicate k (replicate n zero_sector) ++ replicate r zero_sector ∷ []
    → IsCut n count pieces
zeros_cut n k r count pieces few less is are =
    let zeros : joined pieces ≡ replicate (k * n + r) zero_sector = ap joined are ∙ joined_zeros n k r in
    record {
      counted = few;
      long = ap length zeros ∙ length-replicate (k * n + r) zero_sector ∙ sym is;
      sizes = subst (λ (p : List (List Sector)). AreSizes n (sizes_of p)) (sym are) (zeros_sizes n k r less);
      sectors = subst AllSectors (sym zeros) (zeros_are_sectors (k * n + r));
    }

pub filled_long : (count : ℕ) (front : List Sector) → length front ≤ count → length (filled_up count front) ≡ count
filled_long count front within =
    let zeros = length-replicate (count - length front) zero_sector in
    let all = length-append front (replicate (count - length front) zero_sector) in
    omega (arith, zeros, all, within)

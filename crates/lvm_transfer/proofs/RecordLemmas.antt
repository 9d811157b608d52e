-- Bytes of sectors that follow each other.
use Rattle.std.proofs.Common.{◌≡◌, ◌+◌, ◌<◌, ◌++◌, [], ◌∷◌, ℕ, zero, suc, List, Option, Some, None, IfSome, take, slice_get, slice_index_or, min, ◌-◌, inl, inr, append-nil, append_assoc, refl, sym, ◌∙◌, ap, arith}
use Rattle.std.specs.List.{flat_map}
use Rattle.std.proofs.lemmas.Bool.{cases_lt}
use Rattle.lvm_disk.specs.passed.Num.{Sector, joined}
use Rattle.lvm_kept.proofs.passed.Rec.{joined-more, joined-none}

-- a run is as another whose pieces are the same
pub joined-shifted : (f g : ℕ → List ℕ) (i j n : ℕ) → ((k : ℕ) → k < n → f (i + k) ≡ g (j + k)) → joined f i n ≡ joined g j n
joined-shifted f g i j zero same = joined-none f i ∙ sym (joined-none g j)
joined-shifted f g i j (suc n) same =
    let more : suc n ≡ n + 1 = omega arith in
    let rest : joined f i n ≡ joined g j n = joined-shifted f g i j n (λ k lt. same k (omega arith)) in
    let last : f (i + n) ≡ g (j + n) = same n (omega arith) in
    ap (joined f i) more ∙ joined-more f i n ∙ ap (λ (l : List ℕ). l ++ f (i + n)) rest ∙ ap (λ (l : List ℕ). joined g j n ++ l) last ∙ sym (joined-more g j n) ∙ ap (joined g j) (sym more)

-- two runs that follow each other are one
pub joined-add : (f : ℕ → List ℕ) (i m n : ℕ) → joined f i (m + n) ≡ joined f i m ++ joined f (i + m) n
joined-add f i m zero =
    let none : m + 0 ≡ m = omega arith in
    ap (joined f i) none ∙ sym (append-nil (joined f i m)) ∙ ap (λ (l : List ℕ). joined f i m ++ l) (sym (joined-none f (i + m)))
joined-add f i m (suc n) =
    let more : m + suc n ≡ m + n + 1 = omega arith in
    let next : n + 1 ≡ suc n = omega arith in
    let place : i + (m + n) ≡ i + m + n = omega arith in
    ap (joined f i) more
    ∙ joined-more f i (m + n)
    ∙ ap (λ (l : List ℕ). l ++ f (i + (m + n))) (joined-add f i m n)
    ∙ append_assoc (joined f i m) (joined f (i + m) n) (f (i + (m + n)))
    ∙ ap (λ k. joined f i m ++ (joined f (i + m) n ++ f k)) place
    ∙ ap (λ (l : List ℕ). joined f i m ++ l) (sym (joined-more f (i + m) n) ∙ ap (joined f (i + m)) next)

-- the element that a list has at a place
pub or_got : {X : Type 0} (xs : List X) (i : ℕ) (default x : X) → slice_get xs i ≡ Some x → slice_index_or xs i default ≡ x
or_got [] i default x is = absurd (cc (is))
or_got (y ∷ xs) zero default x is = cc
or_got (y ∷ xs) (suc i) default x is = or_got xs i default x is

-- the front of a buffer that has what stands on a disk
pub joined-read : (xs : List Sector) (f : ℕ → Sector) (first n : ℕ) → ((i : ℕ) → i < n → slice_get xs i ≡ Some (f (first + i))) → joined (λ i. slice_index_or xs i []) 0 n ≡ joined f first n
joined-read xs f first n has = joined-shifted (λ i. slice_index_or xs i []) f 0 first n (λ k lt.
    let place : 0 + k ≡ k = omega arith in
    ap (λ j. slice_index_or xs j []) place ∙ or_got xs k [] (f (first + k)) (has k lt)
    )

-- pieces without bytes
joined-nothing : (f : ℕ → List ℕ) (i n : ℕ) → ((k : ℕ) → f k ≡ []) → joined f i n ≡ []
unfolding joined
joined-nothing f i zero none = refl
joined-nothing f i (suc n) none = ap (λ (l : List ℕ). l ++ joined f (suc i) n) (none i) ∙ joined-nothing f (suc i) n none

-- the sectors that a list begins with
pub joined-front : (xs : List Sector) (n : ℕ) → flat_map (λ (x : Sector). x) (take n xs) ≡ joined (λ i. slice_index_or xs i []) 0 n
unfolding joined
joined-front xs zero = refl
joined-front [] (suc n) = sym (joined-nothing (λ i. slice_index_or {A = Sector} [] i []) 0 (suc n) (λ k. refl))
joined-front (x ∷ xs) (suc n) =
    ap (λ (l : List ℕ). x ++ l) (joined-front xs n ∙ joined-shifted (λ i. slice_index_or xs i []) (λ i. slice_index_or (x ∷ xs) i []) 0 1 n (λ k lt.
    let here : 0 + k ≡ k = omega arith in
    let next : suc k ≡ 1 + k = omega arith in
    ap (λ j. slice_index_or xs j []) here ∙ ap (λ j. slice_index_or (x ∷ xs) j []) next
    ))

-- behind other bytes stand sectors so far, and then one piece more
joined-so-far : (f : ℕ → List ℕ) (first done piece : ℕ) (start bytes more : List ℕ) → bytes ≡ start ++ joined f first done → more ≡ bytes ++ joined f (first + done) piece → more ≡ start ++ joined f first (done + piece)
joined-so-far f first done piece start bytes more is next =
    next ∙ ap (λ (l : List ℕ). l ++ joined f (first + done) piece) is ∙ append_assoc start (joined f first done) (joined f (first + done) piece) ∙ ap (λ (l : List ℕ). start ++ l) (sym (joined-add f first done piece))

-- the first of them are kept, so many
pub kept-so-far : (f : ℕ → List ℕ) (first done piece keep part : ℕ) (start bytes more : List ℕ) → part ≡ min piece (keep - done)
    → bytes ≡ start ++ joined f first (min done keep) → more ≡ bytes ++ joined f (first + done) part → more ≡ start ++ joined f first (min (done + piece) keep)
kept-so-far f first done piece keep part start bytes more cut is next = elim (cases_lt keep done) [
  | inl high ↦
      let was : min done keep ≡ min (done + piece) keep = omega (arith, high) in
      let none : part ≡ 0 = omega (arith, high, cut) in
      next ∙ ap (λ k. bytes ++ joined f (first + done) k) none ∙ ap (λ (l : List ℕ). bytes ++ l) (joined-none f (first + done)) ∙ append-nil bytes ∙ is ∙ ap (λ k. start ++ joined f first k) was
  | inr low ↦
      let was : min done keep ≡ done = omega (arith, low) in
      let now : done + part ≡ min (done + piece) keep = omega (arith, low, cut) in
      joined-so-far f first done part start bytes more (is ∙ ap (λ k. start ++ joined f first k) was) next ∙ ap (λ k. start ++ joined f first k) now
]

-- the same is appended
pub append-same : (start more some other : List ℕ) → more ≡ start ++ some → some ≡ other → more ≡ start ++ other
append-same start more some other is same = is ∙ ap (λ (l : List ℕ). start ++ l) same

pub joined-one : (f : ℕ → List ℕ) (i : ℕ) → joined f i 1 ≡ f i
unfolding joined
joined-one f i = append-nil (f i)

-- ---- what holds of a media where it is told

pub told-more : {X : Type 0} (P Q : X → Type 0) (o : Option X) → ((x : X) → P x → Q x) → IfSome o P → IfSome o Q
told-more P Q None more told = tt
told-more P Q (Some x) more told = more x told

pub told-both : {X : Type 0} (P Q R : X → Type 0) (o : Option X) → ((x : X) → P x → Q x → R x) → IfSome o P → IfSome o Q → IfSome o R
told-both P Q R None both p q = tt
told-both P Q R (Some x) both p q = both x p q

pub told-always : {X : Type 0} (P : X → Type 0) (o : Option X) → ((x : X) → P x) → IfSome o P
told-always P None always = tt
told-always P (Some x) always = always x

-- ---- places in lists

-- What is told through two calls, one after the other.
use Rattle.std.proofs.Common.{ℕ, List, Option, Some, None}
use Rattle.lvm_io.specs.Stream.{WhereTold}

pub told_on : (old mid new : Option (List ℕ)) (P Q R : List ℕ → List ℕ → Type 0) → ((a b c : List ℕ) → P a b → Q b c → R a c) → WhereTold old mid P → WhereTold mid new Q → WhereTold old new R
told_on None None None P Q R f p q = tt
told_on (Some a) (Some b) (Some c) P Q R f p q = f a b c p q
told_on None None (Some c) P Q R f p q = absurd q
told_on None (Some b) new P Q R f p q = absurd p
told_on (Some a) None new P Q R f p q = absurd p
told_on (Some a) (Some b) None P Q R f p q = absurd q

pub told_same : (old : Option (List ℕ)) (R : List ℕ → List ℕ → Type 0) → ((a : List ℕ) → R a a) → WhereTold old old R
told_same None R f = tt
told_same (Some a) R f = f a

pub told_more : (old new : Option (List ℕ)) (P R : List ℕ → List ℕ → Type 0) → ((a b : List ℕ) → P a b → R a b) → WhereTold old new P → WhereTold old new R
told_more None None P R f p = tt
told_more (Some a) (Some b) P R f p = f a b p
told_more None (Some b) P R f p = absurd p
told_more (Some a) None P R f p = absurd p

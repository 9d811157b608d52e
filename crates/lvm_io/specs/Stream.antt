-- What is read and written, where it is told.
use Rattle.std.specs.Prelude.{◌≡◌, ◌<◌, ◌≤◌, ◌++◌, [], ℕ, List, Option, Some, None, length, take}
use Rattle.lvm_io.specs.declared.stream.Got.{Got}
use Rattle.lvm_io.specs.declared.stream.Got.TheVariants as got
use Rattle.lvm_io.specs.declared.stream.Put.{Put}
use Rattle.lvm_io.specs.declared.stream.Put.TheVariants as put

-- between what was told and what is told: what is told goes on being told, and what isn't never is
abbrev pub WhereTold : Option (List ℕ) → Option (List ℕ) → (List ℕ → List ℕ → Type 0) → Type 0
WhereTold None None R = Unit {0}
WhereTold (Some old) (Some new) R = R old new
WhereTold None (Some new) R = ⊥
WhereTold (Some old) None R = ⊥

-- a read gives the next bytes of what is left, at least one; it ends exactly where none is left, and takes none where it fails
abbrev pub ReadGives : Option (List ℕ) → Option (List ℕ) → List ℕ → Got → Type 0
ReadGives old new into (got.Bytes n) = (1 ≤ n) × (n ≤ length into) × WhereTold old new (λ a b. a ≡ take n into ++ b)
ReadGives old new into got.End = WhereTold old new (λ a b. (a ≡ []) × (b ≡ []))
ReadGives old new into got.Failed = WhereTold old new (λ a b. b ≡ a)

-- a write appends a front of the bytes, at least one, or none where it fails
abbrev pub WriteGives : Option (List ℕ) → Option (List ℕ) → List ℕ → Put → Type 0
WriteGives old new from (put.Took n) = (1 ≤ n) × (n ≤ length from) × WhereTold old new (λ a b. b ≡ a ++ take n from)
WriteGives old new from put.Failed = WhereTold old new (λ a b. b ≡ a)

-- a front of the text was written, and not all of it
pub record WritesFront (text before after : List ℕ) : Type 0 where
  pub front : List ℕ
  pub rest : List ℕ
  pub split : text ≡ front ++ rest
  pub written : after ≡ before ++ front
  pub short : 0 < length rest

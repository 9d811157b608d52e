-- Each block of a volume has the mode with which the volume was made.
use Rattle.std.proofs.Common.{◌≡◌, ℕ, ◌<◌, Bool, true, false, ◌&&◌, nat_lt, List, [], ◌∷◌, Some, None, refl, sym, ap, subst, ◌∙◌, arith}
use Rattle.std.specs.Prelude.{◌==◌, if◌then◌else◌}
use Rattle.std.proofs.lemmas.Bool.Decides.{nat_tests}
use Rattle.lvm_num.specs.Buffer.{zero_sector}
use Rattle.lvm_num.specs.declared.descriptor.Mode.{Mode}
use Rattle.lvm_vol.specs.declared.entry.Vol.{Vol}
use Rattle.lvm_vol.specs.declared.entry.Vol.TheVariants.{Disk, Lv}
use Rattle.lvm_vol.specs.Facts.{Fact, Making, Made, Split, Removing, Removed, Begun, Landed, Taken, Cut, On, same_vol, is_over, block_of}
use Rattle.lvm_vol.specs.May.{Known, Knowledge, nothing_known, after_fact, after, known}
use Rattle.lvm_vol.specs.Standing.{Standing, Open, Settled, Absent, Shape, Volume, no_volumes, put, volumes_after_fact, volumes_after, volumes_in}
use Rattle.lvm_invariant.proofs.MayLemmas.{landed_mode}

abbrev IsShaped : Knowledge → (ℕ → Volume) → Type 0
IsShaped k volumes = (lv b : ℕ) (shape : Shape) → (volumes lv).shape ≡ Some shape → b < shape.blocks → (k (Lv lv) b).mode ≡ shape.mode

some_shape : (a b : Shape) → Some a ≡ Some b → a ≡ b
some_shape a b e = cc

no_shape : {X : Type 0} (a : Shape) → None ≡ Some a → X
no_shape a e = absurd cc

-- ---- what leaves the mode

if_mode : (t : Bool) (x y : Known) (m : Mode) → x.mode ≡ m → y.mode ≡ m → (if t then x else y).mode ≡ m
if_mode true x y m h k = h
if_mode false x y m h k = k

-- a volume that stands otherwise has the shape that it had
put_shape : (vol : Vol) (standing : Standing) (volumes : ℕ → Volume) (lv : ℕ) → (put vol standing volumes lv).shape ≡ (volumes lv).shape
put_shape (Lv n) standing volumes lv = by (n == lv)
  where
    by : (t : Bool) → (if t then record (volumes lv) { standing = standing } else volumes lv).shape ≡ (volumes lv).shape
    by true = refl
    by false = refl
put_shape (Disk n) standing volumes lv = refl

-- ---- each entry

module _ (k : Knowledge) (volumes : ℕ → Volume) (was : IsShaped k volumes) where
  making : (n blocks : ℕ) (m : Mode) → IsShaped (after_fact (Making n blocks m) k) (volumes_after_fact (Making n blocks m) volumes)
  making n blocks m lv b shape is low = by (n == lv) is
    where
      within : (t : Bool) → b < blocks → nat_lt b blocks ≡ t → (if t then record { values = Some (zero_sector ∷ []); open_writes = []; loose = false; mode = m } else k (Lv lv) b).mode ≡ m
      within true low is = refl
      within false low is = absurd (grind (arith, nat_tests))

      by : (t : Bool) → (if t then record { standing = Open; shape = Some (record { blocks = blocks; mode = m }) } else volumes lv).shape ≡ Some shape
          → (if t && nat_lt b blocks then record { values = Some (zero_sector ∷ []); open_writes = []; loose = false; mode = m } else k (Lv lv) b).mode ≡ shape.mode
      by true is =
          let same : record { blocks = blocks; mode = m } ≡ shape = some_shape (record { blocks = blocks; mode = m }) shape is in
          within (nat_lt b blocks) (subst (λ (n : ℕ). b < n) (sym (ap (λ (s : Shape). s.blocks) same)) low) refl ∙ ap (λ (s : Shape). s.mode) same
      by false is = was lv b shape is low

  split : (from n : ℕ) → IsShaped (after_fact (Split from n) k) (volumes_after_fact (Split from n) volumes)
  split from n lv b shape is low = by (n == lv) is
    where
      by : (t : Bool) → (if t then record { standing = Open; shape = (volumes from).shape } else volumes lv).shape ≡ Some shape
          → (if t then record (k (if t then Lv from else Lv lv) b) { open_writes = [] } else k (if t then Lv from else Lv lv) b).mode ≡ shape.mode
      by true is = was from b shape is low
      by false is = was lv b shape is low

  step : (f : Fact) → IsShaped (after_fact f k) (volumes_after_fact f volumes)
  step (Making n blocks m) lv b shape is low = making n blocks m lv b shape is low
  step (Split from n) lv b shape is low = split from n lv b shape is low
  step (Made n) lv b shape is low = was lv b shape (sym (put_shape (Lv n) Settled volumes lv) ∙ is) low
  step (Removing vol) lv b shape is low = was lv b shape (sym (put_shape vol Open volumes lv) ∙ is) low
  step (Removed vol) lv b shape is low = if_mode (same_vol vol (Lv lv)) (record (k (Lv lv) b) { values = None; open_writes = []; loose = false }) (k (Lv lv) b) (k (Lv lv) b).mode refl refl
      ∙ was lv b shape (sym (put_shape vol Absent volumes lv) ∙ is) low
  step (Begun r) lv b shape is low = if_mode (r.write && is_over r (Lv lv) b) (record (k (Lv lv) b) { open_writes = r ∷ (k (Lv lv) b).open_writes }) (k (Lv lv) b) (k (Lv lv) b).mode refl refl
      ∙ was lv b shape (sym (put_shape r.vol Settled volumes lv) ∙ is) low
  step (Landed r how started got) lv b shape is low = landed_mode r how started (is_over r (Lv lv) b) (block_of r.blocks r.at b) (block_of got r.at b) (k (Lv lv) b) ∙ was lv b shape is low
  step (Taken r) lv b shape is low = was lv b shape is low
  step Cut lv b shape is low = was lv b shape is low
  step (On moment) lv b shape is low = was lv b shape is low

all_steps : (facts : List Fact) (k : Knowledge) (volumes : ℕ → Volume) → IsShaped k volumes → IsShaped (after k facts) (volumes_after volumes facts)
all_steps [] k volumes was = was
all_steps (f ∷ facts) k volumes was = all_steps facts (after_fact f k) (volumes_after_fact f volumes) (step k volumes was f)

-- so after each history
pub shape_mode : (facts : List Fact) (lv b : ℕ) (shape : Shape) → (volumes_in facts lv).shape ≡ Some shape → b < shape.blocks → (known facts (Lv lv) b).mode ≡ shape.mode
shape_mode facts = all_steps facts nothing_known no_volumes (λ lv b shape is low. no_shape shape is)

-- A request on one volume leaves what is known of another.
use Rattle.std.proofs.Common.{◌≡◌, ◌&&◌, ◌==◌, ◌+◌, ℕ, Bool, true, false, List, refl, ◌∙◌, ap}
use Rattle.std.proofs.lemmas.Bool.{eqb-true}
use Rattle.std.specs.Prelude.{nat_le, nat_lt}
use Rattle.lvm_vol.specs.declared.entry.Vol.{Vol}
use Rattle.lvm_vol.specs.declared.entry.Vol.TheVariants.{Lv}
use Rattle.lvm_vol.specs.Facts.{Begun, Fact, Landed, Making, Made, On, Removed, Removing, Request, Split, Taken, Cut, is_over, same_vol}
use Rattle.lvm_vol.specs.Laws.{is_about}
use Rattle.lvm_vol.proofs.LawsLemmas.Knowing.{others_stay}
use Rattle.lvm_top.specs.Sharing.{IsAskedOf, StayApart}

differ : (lv other : ℕ) → (lv ≡ other → ⊥) → (lv == other) ≡ false
differ lv other apart = by (lv == other) refl
  where
    by : (t : Bool) → (lv == other) ≡ t → t ≡ false
    by true is = absurd (apart (eqb-true lv other is))
    by false is = refl

never : (t : Bool) → t && false ≡ false
never true = refl
never false = refl

-- it is over no block of the other
not_over : (r : Request) (lv other b : ℕ) → r.vol ≡ Lv lv → (lv ≡ other → ⊥) → is_over r (Lv other) b ≡ false
not_over r lv other b on apart =
    ap (λ (v : Vol). same_vol v (Lv other) && nat_le r.at b && nat_lt b (r.at + r.count)) on
    ∙ ap (λ (t : Bool). t && nat_le r.at b && nat_lt b (r.at + r.count)) (differ lv other apart)

not_about : (f : Fact) (lv other b : ℕ) → IsAskedOf f lv → (lv ≡ other → ⊥) → is_about f (Lv other) b ≡ false
not_about (Begun r) lv other b on apart = ap (λ (t : Bool). r.write && t) (not_over r lv other b on apart) ∙ never r.write
not_about (Landed r how started got) lv other b on apart = not_over r lv other b on apart
not_about (Making n blocks mode) lv other b on apart = absurd on
not_about (Made n) lv other b on apart = absurd on
not_about (Split from n) lv other b on apart = absurd on
not_about (Removing gone) lv other b on apart = absurd on
not_about (Removed gone) lv other b on apart = absurd on
not_about (Taken r) lv other b on apart = absurd on
not_about Cut lv other b on apart = absurd on
not_about (On moment) lv other b on apart = absurd on

pub stay_apart : (history : List Fact) → StayApart history
stay_apart history before rest f lv other b is on apart = others_stay before f (Lv other) b (not_about f lv other b on apart)

-- What holds of the destination of a move.
use Rattle.std.proofs.Common.{◌≡◌, ◌||◌, Bool, true, false, List, [], ◌∷◌, Option, Some, None, refl, sym, ◌∙◌, ap, subst, if◌then◌else◌}
use Rattle.std.specs.Prelude.{◌&&◌, IfSome, filter}
use Rattle.std.specs.Option.{option_map_or}
use Rattle.lvm_num.specs.declared.place.Pp.{Pp}
use Rattle.lvm_num.specs.Descriptor.{IsPartitionOf, is_pp}
use Rattle.lvm_num.proofs.DescriptorLemmas.Partitions.{one_partition}
use Rattle.lvm_path.specs.declared.ask.Ask.{Ask}
use Rattle.lvm_session.specs.declared.bringing.OpenCopy.{OpenCopy}
use Rattle.lvm_session.specs.State.{Core}
use Rattle.lvm_session.specs.Judging.{is_beside_copy, is_moving, destinations_for, destinations_if}
use Rattle.lvm_session.specs.Marks.{is_among}
use Rattle.lvm_session.specs.Sound.{IsCopy, IsMove, IsOfKind, IsStaleCopy}

-- ---- what a copy is that is open

pub stale_of : (core : Core) (c : OpenCopy) → IsCopy core c → c.moves ≡ false → IsStaleCopy core c
stale_of core c its stays = subst (λ (b : Bool). IsOfKind b core c) stays its.kind

pub move_of : (core : Core) (c : OpenCopy) → IsCopy core c → c.moves ≡ true → IsMove core c
move_of core c its moves = subst (λ (b : Bool). IsOfKind b core c) moves its.kind

pub move_partition : (core : Core) (c : OpenCopy) → IsMove core c → IsPartitionOf core.descriptor c.pp
move_partition core c its = (its.member, its.member_is, its.inside)

pub open_one : (core : Core) (c : OpenCopy) → core.copy ≡ Some c → IfSome core.copy (IsCopy core) → IsCopy core c
open_one core c is its = subst (λ (m : Option OpenCopy). IfSome m (IsCopy core)) is its

-- where none moves the one that is open doesn't
pub unmoving : (core : Core) (c : OpenCopy) → core.copy ≡ Some c → is_moving core ≡ false → c.moves ≡ false
unmoving core c is none = sym (ap (λ (m : Option OpenCopy). option_map_or (λ (d : OpenCopy). d.moves) m false) is) ∙ none

-- ---- partitions of a list that pass a test

pub among_filter : (t : Pp → Bool) (xs : List Pp) (p : Pp) → t p ≡ true → is_among xs p ≡ true → is_among (filter t xs) p ≡ true
among_filter t [] p passes among = among
among_filter t (x ∷ xs) p passes among = by (is_pp p x) (t x) refl refl (λ e. among_filter t xs p passes e)
  where
    by : (a b : Bool) → is_pp p x ≡ a → t x ≡ b → (is_among xs p ≡ true → is_among (filter t xs) p ≡ true) → is_among (if b then x ∷ filter t xs else filter t xs) p ≡ true
    by true true is tx rest = ap (λ b. b || is_among (filter t xs) p) is
    by true false is tx rest = absurd (let e : false ≡ true = sym tx ∙ ap t (sym (one_partition p x is)) ∙ passes in cc e)
    by false true is tx rest = ap (λ b. b || is_among (filter t xs) p) is ∙ rest (sym (ap (λ b. b || is_among xs p) is) ∙ among)
    by false false is tx rest = rest (sym (ap (λ b. b || is_among xs p) is) ∙ among)

pub among_filtered : (t : Pp → Bool) (xs : List Pp) (p : Pp) → is_among (filter t xs) p ≡ true → (is_among xs p ≡ true) × (t p ≡ true)
among_filtered t [] p among = absurd (cc among)
among_filtered t (x ∷ xs) p among = by (t x) refl among (λ e. among_filtered t xs p e)
  where
    later : (is_among xs p ≡ true) × (t p ≡ true) → (is_among (x ∷ xs) p ≡ true) × (t p ≡ true)
    later its = (or_so (is_pp p x) its.0, its.1)
      where
        or_so : (a : Bool) {b : Bool} → b ≡ true → a || b ≡ true
        or_so true e = refl
        or_so false e = e

    by : (b : Bool) → t x ≡ b → is_among (if b then x ∷ filter t xs else filter t xs) p ≡ true → (is_among (filter t xs) p ≡ true → (is_among xs p ≡ true) × (t p ≡ true)) → (is_among (x ∷ xs) p ≡ true) × (t p ≡ true)
    by false tx e rest = later (rest e)
    by true tx e rest = first (is_pp p x) refl e
      where
        first : (a : Bool) → is_pp p x ≡ a → a || is_among (filter t xs) p ≡ true → (is_among (x ∷ xs) p ≡ true) × (t p ≡ true)
        first true is e = (ap (λ b. b || is_among xs p) is, ap t (one_partition p x is) ∙ tx)
        first false is e = later (rest e)

-- ---- which place it is

-- the places of a request, by the copy that is open
abbrev pub places_by : Core → Ask → Option OpenCopy → List Pp
places_by core ask copy = option_map_or (λ (c : OpenCopy). destinations_if (c.moves && is_beside_copy core ask c) c) copy []

-- It is the place of the copy that is open, which moves in the logical partition of the request.
pub record IsOpenPlace (core : Core) (ask : Ask) (p : Pp) : Type 0 where
  pub copy : OpenCopy
  pub is_open : core.copy ≡ Some copy
  pub moves : copy.moves ≡ true
  pub beside : is_beside_copy core ask copy ≡ true
  pub is : p ≡ copy.pp

pub place_open : (core : Core) (ask : Ask) (p : Pp) → is_among (destinations_for core ask) p ≡ true → IsOpenPlace core ask p
place_open core ask p among = by_copy core.copy refl among
  where
    by_copy : (m : Option OpenCopy) → core.copy ≡ m → is_among (option_map_or (λ (c : OpenCopy). destinations_if (c.moves && is_beside_copy core ask c) c) m []) p ≡ true → IsOpenPlace core ask p
    by_copy None at e = absurd (cc e)
    by_copy (Some c) at e = by_tests c.moves (is_beside_copy core ask c) refl refl e
      where
        found : is_pp p c.pp || false ≡ true → is_pp p c.pp ≡ true
        found e = by (is_pp p c.pp) e
          where
            by : (b : Bool) → b || false ≡ true → b ≡ true
            by true e = refl
            by false e = e

        by_tests : (m b : Bool) → c.moves ≡ m → is_beside_copy core ask c ≡ b → is_among (destinations_if (m && b) c) p ≡ true → IsOpenPlace core ask p
        by_tests true true moves beside e = record { copy = c; is_open = at; moves = moves; beside = beside; is = one_partition p c.pp (found e) }
        by_tests true false moves beside e = absurd (cc e)
        by_tests false b moves beside e = absurd (cc e)

-- Which flight is next, and which ticket is free.
use Rattle.std.proofs.Common.{◌≡◌, ◌+◌, ◌-◌, ◌*◌, ◌%◌, ◌^◌, ◌≤◌, ◌<◌, ◌==◌, ◌||◌, [], ◌∷◌, ℕ, zero, suc, List, Bool, true, false, cond, not, Some, None, nat_le, nat_lt, slice_set, get_or, length, map, refl, sym, ◌∙◌, ap, subst, arith, below_more, take, drop, ◌++◌}
use Rattle.std.specs.Prelude.{bit_or}
use Rattle.std.specs.Int.{w64, bit_at, trailing_ones}
use Rattle.std.specs.List.{list_any, position, prefix_len, remove}
use Rattle.std.proofs.lemmas.Bool.{eqb-false, eqb-true, ne_eqb, or_right}
use Rattle.std.proofs.lemmas.Bool.Decides.{nat_tests}
use Rattle.std.proofs.lemmas.Nat.Bits.{bit_at-zero, bit_at_ones, bit_at_set_same, bit_at_set_other, bit_at-trailing_ones}
use Rattle.std.proofs.lemmas.List.{map-set}
use Rattle.std.proofs.lemmas.List.Folds.{list_any_more}
use Rattle.std.proofs.lemmas.Grind.{common_steps}
use Rattle.std.proofs.Math.Seq.{map-set_same}
use Rattle.lvm_num.proofs.Booleans.{or_false}
use Rattle.lvm_memory.specs.Tickets.{has_ticket, IsLeastFree, AreBitsOf, AllTaken}
use Rattle.lvm_memory.specs.Flights.{flight_of, flights_of, delays_of, passed, NoDelays}
use Rattle.lvm_memory.specs.declared.flying.Flying.{Flying}

-- ---- delays

-- the first i are lower by one
abbrev pub lowered : ℕ → List ℕ → List ℕ
lowered zero l = l
lowered (suc i) [] = []
lowered (suc i) (x ∷ l) = (x - 1) ∷ lowered i l

pub all_lowered : (l : List ℕ) → lowered (length l) l ≡ map (λ n. n - 1) l
all_lowered [] = refl
all_lowered (x ∷ l) = ap (λ (m : List ℕ). (x - 1) ∷ m) (all_lowered l)

pub one_lowered : (l : List ℕ) (i n : ℕ) → i < length l → n ≡ get_or (lowered i l) i 0 - 1 → slice_set (lowered i l) i n ≡ lowered (suc i) l
one_lowered [] i n within is = absurd (omega arith)
one_lowered (x ∷ l) zero n within is = ap (λ (k : ℕ). k ∷ l) is
one_lowered (x ∷ l) (suc i) n within is = ap (λ (m : List ℕ). (x - 1) ∷ m) (one_lowered l i n (omega arith) is)

pub length-delays : (l : List Flying) → length (delays_of l) ≡ length l
length-delays [] = refl
length-delays (f ∷ l) = ap suc (length-delays l)

pub none_passed : (delays : List ℕ) → NoDelays delays → NoDelays (passed delays)
none_passed [] none = tt
none_passed (n ∷ delays) none = (let e = none.0 in omega arith, none_passed delays none.1)

pub passed_none : (delays : List ℕ) → NoDelays delays → passed delays ≡ delays
passed_none [] none = refl
passed_none (n ∷ delays) none =
    let zero_is = none.0 in
    let same : n - 1 ≡ n = omega arith in
    ap (λ (l : List ℕ). (n - 1) ∷ l) (passed_none delays none.1) ∙ ap (λ (k : ℕ). k ∷ delays) same

pub none_removed : (delays : List ℕ) (i : ℕ) → NoDelays delays → NoDelays (remove delays i)
none_removed [] zero none = tt
none_removed [] (suc i) none = tt
none_removed (n ∷ delays) zero none = none.1
none_removed (n ∷ delays) (suc i) none = (none.0, none_removed delays i none.1)

pub none_more : (delays : List ℕ) (n : ℕ) → NoDelays delays → n ≡ 0 → NoDelays (delays ++ n ∷ [])
none_more [] n none is = (is, tt)
none_more (m ∷ delays) n none is = (none.0, none_more delays n none.1 is)

-- ---- the first that is due

pub due-prefix : (l : List Flying) → prefix_len (λ (f : Flying). not (f.delay == 0)) l ≡ prefix_len (λ (n : ℕ). not (n == 0)) (delays_of l)
due-prefix [] = refl
due-prefix (f ∷ l) = ap (λ (n : ℕ). cond (not (f.delay == 0)) (1 + n) 0) (due-prefix l)

pub due-position : (l : List Flying) → position (λ (f : Flying). f.delay == 0) l ≡ position (λ (n : ℕ). n == 0) (delays_of l)
due-position l = ap (λ (n : ℕ). cond (nat_lt n (length l)) (Some n) None) (due-prefix l) ∙ ap (λ (n : ℕ). cond (nat_lt (prefix_len (λ (k : ℕ). not (k == 0)) (delays_of l)) n) (Some (prefix_len (λ (k : ℕ). not (k == 0)) (delays_of l))) None) (sym (length-delays l))

-- the first i were passed over once more
pub record PassedSoFar (old now : List Flying) (i : ℕ) : Type 0 where
  pub flights : flights_of now ≡ flights_of old
  pub delays : delays_of now ≡ lowered i (delays_of old)

-- ---- tickets

-- how many flights have this ticket or a later one
abbrev pub from_on : ℕ → List Flying → ℕ
from_on t [] = 0
from_on t (f ∷ l) = cond (nat_le t f.ticket) 1 0 + from_on t l

-- each ticket below this one is taken, each by a flight of its own
pub record TakenBelow (flights : List Flying) (ticket : ℕ) : Type 0 where
  pub below : (t : ℕ) → t < ticket → has_ticket t (flights_of flights) ≡ true
  pub apart : ticket + from_on ticket flights ≤ length flights

taken-list : (l : List Flying) (t : ℕ) → list_any (λ (f : Flying). f.ticket == t) l ≡ has_ticket t (flights_of l)
taken-list [] t = refl
taken-list (f ∷ l) t = ap (λ (b : Bool). (f.ticket == t) || b) (taken-list l t)

step_le : (t n a b : ℕ) → a ≤ b → cond (nat_le (t + 1) n) 1 0 + a ≤ cond (nat_le t n) 1 0 + b
step_le t n a b le = grind (arith, nat_tests)

step_here : (t n a b : ℕ) → (n == t) ≡ true → a ≤ b → cond (nat_le (t + 1) n) 1 0 + a < cond (nat_le t n) 1 0 + b
step_here t n a b is le = grind (arith, nat_tests)

step_lt : (t n a b : ℕ) → a < b → cond (nat_le (t + 1) n) 1 0 + a < cond (nat_le t n) 1 0 + b
step_lt t n a b lt = grind (arith, nat_tests)

no_more : (l : List Flying) (t : ℕ) → from_on (t + 1) l ≤ from_on t l
no_more [] t = omega arith
no_more (f ∷ l) t = step_le t f.ticket (from_on (t + 1) l) (from_on t l) (no_more l t)

one_fewer : (f : Flying) (l : List Flying) (t : ℕ) → (list_any (λ (g : Flying). g.ticket == t) l ≡ true → from_on (t + 1) l < from_on t l) → (b : Bool) → (f.ticket == t) ≡ b
    → (b || list_any (λ (g : Flying). g.ticket == t) l) ≡ true → from_on (t + 1) (f ∷ l) < from_on t (f ∷ l)
one_fewer f l t later true is some = step_here t f.ticket (from_on (t + 1) l) (from_on t l) is (no_more l t)
one_fewer f l t later false is some = step_lt t f.ticket (from_on (t + 1) l) (from_on t l) (later some)

-- where one has the ticket, fewer have a later one
pub fewer : (l : List Flying) (t : ℕ) → list_any (λ (f : Flying). f.ticket == t) l ≡ true → from_on (t + 1) l < from_on t l
fewer [] t some = absurd (cc)
fewer (f ∷ l) t some = one_fewer f l t (fewer l t) (f.ticket == t) refl some

pub taken_more : (l : List Flying) (t : ℕ) → TakenBelow l t → list_any (λ (f : Flying). f.ticket == t) l ≡ true → TakenBelow l (t + 1)
taken_more l t taken some = record {
  below = below_more (λ (u : ℕ). has_ticket u (flights_of l) ≡ true) t taken.below (sym (taken-list l t) ∙ some);
  apart = omega (arith, taken.apart, fewer l t some);
}

pub least_free : (l : List Flying) (t : ℕ) → TakenBelow l t → list_any (λ (f : Flying). f.ticket == t) l ≡ false → IsLeastFree t (flights_of l)
least_free l t taken none = record { free = sym (taken-list l t) ∙ none; least = taken.below }

-- ---- the bits of tickets

any_more : (l : List Flying) (i t : ℕ) (f : Flying) → i < length l → f ≡ get_or l i f → list_any (λ (g : Flying). g.ticket == t) (take (i + 1) l) ≡ (list_any (λ (g : Flying). g.ticket == t) (take i l) || (f.ticket == t))
any_more l i t f within is = list_any_more (λ (g : Flying). g.ticket == t) l i f within ∙ ap (λ (g : Flying). list_any (λ (h : Flying). h.ticket == t) (take i l) || (g.ticket == t)) (sym is)

told_by : (b : Bool) (word t u : ℕ) (some : Bool) → (u == t) ≡ b → u < 64 → some ≡ (bit_at word t == 1) → (some || b) ≡ (bit_at (bit_or word (1 * 2 ^ u % 2 ^ 64)) t == 1)
told_by true word t u some is there was =
    or_right some true refl ∙ sym (ap (λ (k : ℕ). bit_at (bit_or word (1 * 2 ^ u % 2 ^ 64)) k == 1) (sym (eqb-true u t is)) ∙ ap (λ (n : ℕ). n == 1) (bit_at_set_same w64 word u there))
told_by false word t u some is there was = or_false some ∙ was ∙ ap (λ (n : ℕ). n == 1) (sym (bit_at_set_other w64 word u there t (λ e. eqb-false u t is (sym e))))

-- one flight more is told of
pub one_told : (l : List Flying) (word i : ℕ) (f : Flying) → AreBitsOf (take i l) word → i < length l → f ≡ get_or l i f → f.ticket < 64 → AreBitsOf (take (i + 1) l) (bit_or word (1 * 2 ^ f.ticket % 2 ^ 64))
one_told l word i f told within is there t below =
    any_more l i t f within is ∙ told_by (f.ticket == t) word t f.ticket (list_any (λ (g : Flying). g.ticket == t) (take i l)) refl there (told t below)

-- one that has a later ticket tells nothing
pub none_told : (l : List Flying) (word i : ℕ) (f : Flying) → AreBitsOf (take i l) word → i < length l → f ≡ get_or l i f → 64 ≤ f.ticket → AreBitsOf (take (i + 1) l) word
none_told l word i f told within is past t below =
    any_more l i t f within is ∙ ap (λ (b : Bool). list_any (λ (g : Flying). g.ticket == t) (take i l) || b) (ne_eqb f.ticket t (λ e. absurd (omega arith))) ∙ or_false (list_any (λ (g : Flying). g.ticket == t) (take i l))
    ∙ told t below

-- no bit of a word of zeros tells of a flight
pub zeros_tell : AreBitsOf [] 0
zeros_tell t below = sym (ap (λ (n : ℕ). n == 1) (bit_at-zero t))

-- where all bits are set, all tickets below 64 are taken
pub all_by_ones : (l : List Flying) (word : ℕ) → AreBitsOf l word → word ≡ 2 ^ 64 - 1 → AllTaken 64 l
all_by_ones l word told ones t below = told t below ∙ ap (λ (w : ℕ). bit_at w t == 1) ones ∙ ap (λ (n : ℕ). n == 1) (bit_at_ones 64 t below)

-- one is passed over once more
pub one_passed :
    (old now : List Flying) (i : ℕ) (x f : Flying) → PassedSoFar old now i → i < length now → flight_of f ≡ flight_of (get_or now i x) → f.delay ≡ (get_or now i x).delay - 1
    → PassedSoFar old (slice_set now i f) (i + 1)
one_passed old now i x f so_far within same lower = record {
  flights = map-set_same flight_of now i f x same ∙ so_far.flights;
  delays =
      map-set (λ (g : Flying). g.delay) now i f ∙ ap (λ (l : List ℕ). slice_set l i f.delay) so_far.delays
      ∙ one_lowered (delays_of old) i f.delay (omega (arith, length-delays now, same_length (delays_of old) i, ap (λ (l : List ℕ). length l) so_far.delays)) (lower ∙ ap (λ (n : ℕ). n - 1) (delay_at now i x within ∙ ap (λ (l : List ℕ). get_or l i 0) so_far.delays))
      ∙ ap (λ (n : ℕ). lowered n (delays_of old)) {x = suc i} (omega arith);
}
  where
    delay_at : (l : List Flying) (i : ℕ) (f : Flying) → i < length l → (get_or l i f).delay ≡ get_or (delays_of l) i 0
    delay_at [] i f within = absurd (omega arith)
    delay_at (g ∷ l) zero f within = refl
    delay_at (g ∷ l) (suc i) f within = delay_at l i f (omega arith)

    same_length : (l : List ℕ) (i : ℕ) → length (lowered i l) ≡ length l
    same_length l zero = refl
    same_length [] (suc i) = refl
    same_length (x ∷ l) (suc i) = ap suc (same_length l i)

one_at_most : (b : Bool) (a n : ℕ) → a ≤ n → cond b 1 0 + a ≤ suc n
one_at_most true a n le = omega arith
one_at_most false a n le = omega arith

at_most : (l : List Flying) (t : ℕ) → from_on t l ≤ length l
at_most [] t = omega arith
at_most (f ∷ l) t = one_at_most (nat_le t f.ticket) (from_on t l) (length l) (at_most l t)

pub none_taken : (l : List Flying) → TakenBelow l 0
none_taken l = record { below = λ t less. absurd (omega arith); apart = omega (arith, at_most l 0) }

pub taken_all : (l : List Flying) (n : ℕ) → AllTaken n l → TakenBelow l n
taken_all l zero all = none_taken l
taken_all l (suc n) all =
    let more : n + 1 ≡ suc n = omega arith in
    subst (TakenBelow l) more (taken_more l n (taken_all l n (λ t less. all t (omega arith))) (all n (omega arith)))

-- the place of the lowest bit that isn't set is the least free ticket
module _ (l : List Flying) (word : ℕ) (told : AreBitsOf l word) (some : word + 1 < 2 ^ 64) where
  place : (trailing_ones w64 word < 64) × (bit_at word (trailing_ones w64 word) ≡ 0) × ((i : ℕ) → i < trailing_ones w64 word → bit_at word i ≡ 1)
  place = bit_at-trailing_ones w64 word some

  below : TakenBelow l (trailing_ones w64 word)
  below = taken_all l (trailing_ones w64 word) (λ t less. told t (omega (arith, less, place.0)) ∙ ap (λ (n : ℕ). n == 1) (place.2 t less))

  pub least_by_word : IsLeastFree (trailing_ones w64 word) (flights_of l)
  least_by_word = least_free l (trailing_ones w64 word) below (told (trailing_ones w64 word) place.0 ∙ ap (λ (n : ℕ). n == 1) place.1)

  pub few_by_word : trailing_ones w64 word ≤ length l
  few_by_word = let apart = below.apart in omega arith

-- ---- taking out

-- a list that was written over as a whole
pub written_over : (n : ℕ) (new old : List Flying) → n ≡ length old → length new ≡ length old → take n (new ++ drop (length new) old) ≡ new
written_over n new old is same = grind (arith, common_steps)

pub remove-map : {A B : Type 0} (f : A → B) (l : List A) (n : ℕ) → map f (remove l n) ≡ remove (map f l) n
remove-map f [] zero = refl
remove-map f [] (suc n) = refl
remove-map f (x ∷ l) zero = refl
remove-map f (x ∷ l) (suc n) = ap (λ m. f x ∷ m) (remove-map f l n)

-- Numbers that `clap` and std read, and those of the language.
use Rattle.std.proofs.Common.{◌≡◌, ◌∙◌, ◌≤◌, ◌<◌, ◌+◌, ◌-◌, ◌*◌, ◌^◌, ◌==◌, ◌&&◌, ◌||◌, not, nat_le, nat_lt, length, drop, ℕ, Bool, true, false, cond, [], ◌∷◌, Option, Some, None, Result, Ok, Err, refl, sym, ap, arith, option_and_then}
use Rattle.std.specs.List.{list_all}
use Rattle.std.proofs.lemmas.Bool.{ne_eqb, le-leb, lt-ltb, leb-true}
use Rattle.std.proofs.lemmas.Bool.Decides.{nat_tests}
use Rattle.std.proofs.lemmas.Str.Parse.{IsDigitsTest, FoldsDigits, IsNumeralModel, numerals_by_fold}
use Rattle.std.specs.Str.Parse.{IsNumeral, ParsesUnsigned, digits_value, without_leading_plus}
use Rattle.clap.specs.Matches.{ReadsOne}
use Rattle.clap.specs.ValueTests.{accepts}
use Rattle.clap.specs.Words.{Text}
use Rattle.clap.specs.declared.builder.value_parser.ValueParser.TheVariants as parser
use Rattle.clap.proofs.ValueTestLemmas.{accepts-Accepts, Accepts-accepts}
use Rattle.lvm_parse.specs.Words.{number_in, decimal_from, is_digit}
use Rattle.lvm_words.specs.CommandLine.{is_plain, is_signed}
use Rattle.lvm_words.specs.Matched.{unsigned_in}
pub use Rattle.std.proofs.lemmas.Bool.{and_parts as both_true}

-- what std reads is the number in the text
module _ (E : Type 0) (G : Text → Result ℕ E → Type 0) (bits : ℕ) (some : 1 ≤ 2 ^ bits) (fits : 2 ^ bits ≤ 2 ^ 64) (only : (u : Text) (x : Result ℕ E) → G u x → ParsesUnsigned bits 10 u x) where
  pub reads_unsigned : (t : Text) (r : Option ℕ) → ReadsOne G t r → r ≡ unsigned_in bits t
  reads_unsigned t (Some v) reads =
      let parsed = only t (Ok v) reads in
      let small = parsed.0.1 in
      let accepted = Accepts-accepts false (parser.Unsigned 0 (2 ^ bits - 1)) t (parsed.0.0, omega (arith, fits, small), omega arith, omega (arith, small)) in
      ap Some parsed.1 ∙ ap (λ (b : Bool). cond b (Some (digits_value 10 (without_leading_plus t))) None) (sym accepted)
  reads_unsigned t None reads = go (accepts false (parser.Unsigned 0 (2 ^ bits - 1)) t) refl
    where
      go : (b : Bool) → accepts false (parser.Unsigned 0 (2 ^ bits - 1)) t ≡ b → None ≡ unsigned_in bits t
      go false is = ap (λ (b : Bool). cond b (Some (digits_value 10 (without_leading_plus t))) None) (sym is)
      go true is =
          let ok = accepts-Accepts false (parser.Unsigned 0 (2 ^ bits - 1)) t is in
          absurd (only t (Err reads.0) reads.1 (ok.0, omega (arith, some, ok.3)))

  pub reads_at : (o : Option Text) (r : Option ℕ) → (o ≡ None → r ≡ None) → ((t : Text) → o ≡ Some t → ReadsOne G t r) → r ≡ option_and_then (unsigned_in bits) o
  reads_at None r none some = none refl
  reads_at (Some t) r none some = reads_unsigned t r (some t refl)

-- ---- a plain word

abbrev IsTold : Text → Type 0
IsTold word = list_all is_digit word ≡ true

tells : IsDigitsTest IsTold
tells = record {
  empty = refl;
  parts = λ c cs is. let ends = both_true (is_digit c) (list_all is_digit cs) is in let range = both_true (nat_le 48 c) (nat_le c 57) ends.0 in ((leb-true 48 c range.0, leb-true c 57 range.1), ends.1);
  more = λ c cs range is. rw (le-leb 48 c range.0, le-leb c 57 range.1) is;
}

folds : FoldsDigits decimal_from
folds = record {
  empty = λ n. refl;
  more = λ n c cs range. ap (λ (m : ℕ). decimal_from m cs) (swap n (c - 48));
}
  where
    swap : (n v : ℕ) → 10 * n + v ≡ n * 10 + v
    swap n v = omega arith

own : IsNumeralModel IsTold (decimal_from 0)
own = numerals_by_fold IsTold tells decimal_from folds

pub plain_parts : (word : Text) → is_plain word ≡ true → (is_signed word ≡ false) × (length word ≤ 20)
plain_parts word is = let ends = both_true (not (is_signed word)) (nat_le (length word) 20) is in (off (is_signed word) ends.0, leb-true (length word) 20 ends.1)
  where
    off : (b : Bool) → not b ≡ true → b ≡ false
    off false is = refl
    off true is = absurd (cc)

no_plus : (word : Text) → is_signed word ≡ false → without_leading_plus word ≡ word
no_plus [] is = refl
no_plus (b ∷ word) is = ap (λ (t : Bool). drop (cond t 1 0) (b ∷ word)) (first (b == 43) (b == 45) is)
  where
    first : (p q : Bool) → (p || q) ≡ false → p ≡ false
    first false q e = refl
    first true q e = absurd (cc)

-- what a number is made of
pub record Number (word : Text) (n : ℕ) : Type 0 where
  pub some : 1 ≤ length word
  pub few : length word ≤ 20
  pub digits : IsTold word
  pub value : n ≡ decimal_from 0 word
  pub small : n < 2 ^ 64

pub number_parts : (word : Text) (n : ℕ) → number_in word ≡ Some n → Number word n
number_parts word n is = go (nat_le 1 (length word) && nat_le (length word) 20 && list_all is_digit word && nat_lt (decimal_from 0 word) (2 ^ 64)) refl is
  where
    go : (t : Bool) → (nat_le 1 (length word) && nat_le (length word) 20 && list_all is_digit word && nat_lt (decimal_from 0 word) (2 ^ 64)) ≡ t → cond t (Some (decimal_from 0 word)) None ≡ Some n → Number word n
    go false test none = absurd (cc)
    go true test one =
        let is_n : decimal_from 0 word ≡ n = cc in
        let some : 1 ≤ length word = grind (arith, nat_tests) in
        let few : length word ≤ 20 = grind (arith, nat_tests) in
        let digits : list_all is_digit word ≡ true = grind (arith, nat_tests) in
        let small : decimal_from 0 word < 2 ^ 64 = grind (arith, nat_tests) in
        record { some = some; few = few; digits = digits; value = sym is_n; small = omega (arith, is_n, small) }

pub number_made : (word : Text) → 1 ≤ length word → length word ≤ 20 → IsTold word → decimal_from 0 word < 2 ^ 64 → number_in word ≡ Some (decimal_from 0 word)
number_made word some few digits small = rw (le-leb 1 (length word) some, le-leb (length word) 20 few, digits, lt-ltb (decimal_from 0 word) (2 ^ 64) small) refl

-- a number within bounds is what `clap` accepts, and reads
pub number_accepted : (word : Text) (low high n : ℕ) → is_plain word ≡ true → number_in word ≡ Some n → low ≤ n → n ≤ high → accepts false (parser.Unsigned low high) word ≡ true
number_accepted word low high n plain is above below =
    let number = number_parts word n is in
    let same = no_plus word (plain_parts word plain).0 in
    let digits = own.to word number.digits in
    let value : digits_value 10 (without_leading_plus word) ≡ n = ap (digits_value 10) same ∙ sym (own.same word digits) ∙ sym number.value in
    Accepts-accepts false (parser.Unsigned low high) word (rw same (omega (arith, number.some), digits), omega (arith, value, number.small), omega (arith, value, above), omega (arith, value, below))

pub number_read : (word : Text) (bits n : ℕ) → is_plain word ≡ true → number_in word ≡ Some n → n < 2 ^ bits → unsigned_in bits word ≡ Some n
number_read word bits n plain is small =
    let number = number_parts word n is in
    let same = no_plus word (plain_parts word plain).0 in
    let digits = own.to word number.digits in
    let value : digits_value 10 (without_leading_plus word) ≡ n = ap (digits_value 10) same ∙ sym (own.same word digits) ∙ sym number.value in
    ap (λ (t : Bool). cond t (Some (digits_value 10 (without_leading_plus word))) None) (number_accepted word 0 (2 ^ bits - 1) n plain is (omega arith) (omega (arith, small))) ∙ ap Some value

-- what `clap` accepts of plain words is a number within the bounds
pub accepted_number : (word : Text) (low high : ℕ) → is_plain word ≡ true → accepts false (parser.Unsigned low high) word ≡ true → (n : ℕ) × (number_in word ≡ Some n) × (low ≤ n) × (n ≤ high)
accepted_number word low high plain is =
    let parts = plain_parts word plain in
    let same = no_plus word parts.0 in
    let ok = accepts-Accepts false (parser.Unsigned low high) word is in
    let numeral : IsNumeral 10 word = rw same at ok.0 in
    let told = own.from word numeral.1 in
    let value : digits_value 10 (without_leading_plus word) ≡ decimal_from 0 word = ap (digits_value 10) same ∙ sym (own.same word numeral.1) in
    (decimal_from 0 word, number_made word (omega (arith, numeral.0)) parts.1 told (omega (arith, value, ok.1)), omega (arith, value, ok.2), omega (arith, value, ok.3))

-- a number is plain
pub number_is_plain : (word : Text) (n : ℕ) → number_in word ≡ Some n → is_plain word ≡ true
number_is_plain word n is = let number = number_parts word n is in go word number.digits number.few
  where
    go : (word : Text) → IsTold word → length word ≤ 20 → is_plain word ≡ true
    go [] digits few = refl
    go (b ∷ word) digits few =
        let range = (tells.parts b word digits).0 in
        let no_plus : (b == 43) ≡ false = ne_eqb b 43 (λ is. omega (arith, range.0, is)) in
        let no_minus : (b == 45) ≡ false = ne_eqb b 45 (λ is. omega (arith, range.0, is)) in
        rw (no_plus, no_minus, le-leb (length (b ∷ word)) 20 few) refl

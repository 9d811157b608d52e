-- How the words of a line are found from the left.
use Rattle.std.proofs.Common.{◌≡◌, ◌≢◌, ℕ, ◌+◌, ◌-◌, ◌<◌, ◌==◌, Bool, false, cond, List, [], ◌∷◌, ◌++◌, length, get_or, take, drop, refl, sym, ◌∙◌, ap, arith}
use Rattle.std.proofs.lemmas.List.{drop_more, take_more}
use Rattle.std.proofs.lemmas.Bool.Decides.{nat_tests}
use Rattle.lvm_parse.specs.Line.{WordAt, finished, words_from, left_at}

-- a blank at the front is no part of a word
pub blank_first : (column b : ℕ) (rest : List ℕ) → b ≡ 32 → words_from column [] (b ∷ rest) ≡ words_from (column + 1) [] rest
blank_first column b rest is = ap (λ (c : ℕ). words_from column [] (c ∷ rest)) is

-- any other byte belongs to the word that has begun
pub word_goes_on : (column : ℕ) (word : List ℕ) (b : ℕ) (rest : List ℕ) → b ≢ 32 → words_from column word (b ∷ rest) ≡ words_from (column + 1) (word ++ b ∷ []) rest
word_goes_on column word b rest other =
    let test : (b == 32) ≡ false = grind (arith, nat_tests) in
    ap (λ (t : Bool). cond t (finished column word (words_from (column + 1) [] rest)) (words_from (column + 1) (word ++ b ∷ []) rest)) test

-- a blank ends the word that has begun
pub word_ends : (column : ℕ) (word : List ℕ) (b : ℕ) (rest : List ℕ) → 0 < length word → b ≡ 32 → words_from column word (b ∷ rest) ≡ record { column = column - length word; bytes = word } ∷ words_from column [] (b ∷ rest)
word_ends column [] b rest some is = absurd (omega (arith, some))
word_ends column (c ∷ word) b rest some is =
    ap (λ (a : ℕ). words_from column (c ∷ word) (a ∷ rest)) is ∙ ap (λ (ws : List WordAt). record { column = column - length (c ∷ word); bytes = c ∷ word } ∷ ws) (sym (blank_first column b rest is))

pub last_word : (column : ℕ) (word : List ℕ) → 0 < length word → finished column word [] ≡ record { column = column - length word; bytes = word } ∷ []
last_word column [] some = absurd (omega (arith, some))
last_word column (c ∷ word) some = refl

-- one blank further on
pub skips : (column : ℕ) (line : List ℕ) (i : ℕ) → i < length line → get_or line i 0 ≡ 32 → words_from (column + i) [] (drop i line) ≡ words_from column [] line → words_from (column + (i + 1)) [] (drop (i + 1) line) ≡ words_from column [] line
skips column line i within blank so_far =
    let next : column + i + 1 ≡ column + (i + 1) = omega arith in
    ap (λ (c : ℕ). words_from c [] (drop (i + 1) line)) (sym next)
    ∙ sym (ap (words_from (column + i) []) (drop_more line i 0 within) ∙ blank_first (column + i) (get_or line i 0) (drop (i + 1) line) blank) ∙ so_far

-- one byte of the word further on
pub goes_on : (column : ℕ) (line : List ℕ) (i : ℕ) → i < length line → get_or line i 0 ≢ 32 → words_from (column + i) (take i line) (drop i line) ≡ words_from column [] line → words_from (column + (i + 1)) (take (i + 1) line) (drop (i + 1) line) ≡ words_from column [] line
goes_on column line i within other so_far =
    let next : column + i + 1 ≡ column + (i + 1) = omega arith in
    ap (λ (c : ℕ). words_from c (take (i + 1) line) (drop (i + 1) line)) (sym next)
    ∙ ap (λ (w : List ℕ). words_from (column + i + 1) w (drop (i + 1) line)) (take_more line i 0 within)
    ∙ sym (word_goes_on (column + i) (take i line) (get_or line i 0) (drop (i + 1) line) other)
    ∙ ap (λ (r : List ℕ). words_from (column + i) (take i line) r) (sym (drop_more line i 0 within)) ∙ so_far

-- the word ends here
pub splits : (column : ℕ) (line : List ℕ) (i : ℕ) → i < length line → 0 < i → length (take i line) ≡ i → get_or line i 0 ≡ 32 → words_from (column + i) (take i line) (drop i line) ≡ words_from column [] line → words_from column [] line ≡ record { column = column; bytes = take i line } ∷ words_from (column + i) [] (drop i line)
splits column line i within some long blank so_far =
    let begins : column + i - length (take i line) ≡ column = omega arith in
    let begun : 0 < length (take i line) = omega arith in
    sym so_far ∙ ap (λ (r : List ℕ). words_from (column + i) (take i line) r) (drop_more line i 0 within)
    ∙ word_ends (column + i) (take i line) (get_or line i 0) (drop (i + 1) line) begun blank
    ∙ ap (λ (r : List ℕ). record { column = column + i - length (take i line); bytes = take i line } ∷ words_from (column + i) [] r) (sym (drop_more line i 0 within))
    ∙ ap (λ (c : ℕ). record { column = c; bytes = take i line } ∷ words_from (column + i) [] (drop i line)) begins

-- the word ends with the line
pub splits_last : (column : ℕ) (line : List ℕ) (i : ℕ) → 0 < i → length (take i line) ≡ i → drop i line ≡ [] → words_from (column + i) (take i line) (drop i line) ≡ words_from column [] line → words_from column [] line ≡ record { column = column; bytes = take i line } ∷ words_from (column + i) [] (drop i line)
splits_last column line i some long behind so_far =
    let begins : column + i - length (take i line) ≡ column = omega arith in
    let begun : 0 < length (take i line) = omega arith in
    sym so_far ∙ ap (λ (r : List ℕ). words_from (column + i) (take i line) r) behind
    ∙ last_word (column + i) (take i line) begun
    ∙ ap (λ (c : ℕ). record { column = c; bytes = take i line } ∷ []) begins
    ∙ ap (λ (r : List ℕ). record { column = column; bytes = take i line } ∷ words_from (column + i) [] r) (sym behind)

-- the same words up to the same column
pub same_left : (c d : ℕ) (a b : List ℕ) → words_from c [] a ≡ words_from d [] b → c + length a ≡ d + length b → left_at c a ≡ left_at d b
same_left c d a b words end = cc

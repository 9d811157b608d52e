-- What options in any order and a row of disks are where the next word is known.
use Rattle.std.proofs.Common.{◌≡◌, ℕ, ◌+◌, ◌<◌, List, [], ◌∷◌, ◌++◌, length, Option, Some, None, Result, Ok, Err, refl, sym, ◌∙◌, ap, arith}
use Rattle.std.specs.Option.{option_map}
use Rattle.lvm_parse.specs.declared.rest.Misfit.{Misfit}
use Rattle.lvm_parse.specs.Line.{WordAt, Left}
use Rattle.lvm_parse.specs.Reading.{misfit, then_, or_misfit, operand_of, operand, Choice, NoOption, Alone, Valued, options_of, options, further_disk, one_or_more, disks_of, disks}
use Rattle.lvm_parse.specs.Rests.{with_word}

-- ---- options

-- no word is left
pub options_lack : {O : Type 0} (choice : O → List ℕ → Choice O) (o : O) (l : Left) → l.words ≡ [] → options choice o l ≡ Ok (o, l)
unfolding options
options_lack {O} choice o l none = ap (λ (ws : List WordAt). options_of choice o ws l.end) none ∙ ap (λ (ws : List WordAt). Ok (o, record { words = ws; end = l.end })) (sym none)

-- the next word is no option
pub options_end : {O : Type 0} (choice : O → List ℕ → Choice O) (o : O) (l : Left) (w : WordAt) (rest : Left) → l ≡ with_word w rest → choice o w.bytes ≡ NoOption → options choice o l ≡ Ok (o, l)
unfolding options
options_end {O} choice o l w rest is other =
    ap (λ (k : Left). options_of choice o k.words k.end) is ∙ at rest.words ∙ ap (λ (k : Left). Ok (o, k)) (sym is)
  where
    at : (ws : List WordAt) → options_of choice o (w ∷ ws) rest.end ≡ Ok (o, record { words = w ∷ ws; end = rest.end })
    at [] = rw (other, options_of) refl
    at (v ∷ ws) = rw (other, options_of) refl

-- the next word is an option without a value
pub options_alone : {O : Type 0} (choice : O → List ℕ → Choice O) (o with : O) (l : Left) (w : WordAt) (rest : Left) → l ≡ with_word w rest → choice o w.bytes ≡ Alone with → options choice o l ≡ options choice with rest
unfolding options
options_alone {O} choice o with l w rest is alone =
    ap (λ (k : Left). options_of choice o k.words k.end) is ∙ at rest.words
  where
    at : (ws : List WordAt) → options_of choice o (w ∷ ws) rest.end ≡ options_of choice with ws rest.end
    at [] = rw (alone, options_of) refl
    at (v ∷ ws) = rw (alone, options_of) refl

-- the next word is an option with a value
pub options_valued : {O : Type 0} (choice : O → List ℕ → Choice O) (o : O) (read : List ℕ → Option O) (l : Left) (w : WordAt) (rest : Left) → l ≡ with_word w rest → choice o w.bytes ≡ Valued read → options choice o l ≡ then_ (operand read rest) (λ r. options choice r.0 r.1)
unfolding options operand
options_valued {O} choice o read l w rest is valued =
    ap (λ (k : Left). options_of choice o k.words k.end) is ∙ at rest.words
  where
    behind : (ws : List WordAt) (v : WordAt) (r : Option O) → then_ (or_misfit r v.column) (λ with. options_of choice with ws rest.end) ≡ then_ {A = O × Left} (then_ (or_misfit r v.column) (λ value. Ok (value, record { words = ws; end = rest.end }))) (λ r. options_of choice r.0 r.1.words r.1.end)
    behind ws v None = refl
    behind ws v (Some with) = refl

    at : (ws : List WordAt) → options_of choice o (w ∷ ws) rest.end ≡ then_ (operand_of read ws rest.end) (λ r. options_of choice r.0 r.1.words r.1.end)
    at [] = rw (valued, options_of) refl
    at (v ∷ ws) = rw (valued, options_of) (behind ws v (read v.bytes))

-- a value that is read by its meaning
operand_map : {T O : Type 0} (f : T → O) (meaning : List ℕ → Option T) (l : Left) → operand (λ value. option_map f (meaning value)) l ≡ then_ (operand meaning l) (λ r. Ok (f r.0, r.1))
unfolding operand
operand_map {T} {O} f meaning l = at l.words
  where
    behind : (ws : List WordAt) (v : WordAt) (r : Option T) → then_ {B = O × Left} (or_misfit (option_map f r) v.column) (λ value. Ok (value, record { words = ws; end = l.end })) ≡ then_ {A = T × Left} {B = O × Left} (then_ (or_misfit r v.column) (λ value. Ok (value, record { words = ws; end = l.end }))) (λ r. Ok (f r.0, r.1))
    behind ws v None = refl
    behind ws v (Some value) = refl

    at : (ws : List WordAt) → operand_of (λ value. option_map f (meaning value)) ws l.end ≡ then_ (operand_of meaning ws l.end) (λ r. Ok (f r.0, r.1))
    at [] = refl
    at (v ∷ ws) = behind ws v (meaning v.bytes)

-- the value fits
pub value_fits : {T O : Type 0} (choice : O → List ℕ → Choice O) (o : O) (f : T → O) (meaning : List ℕ → Option T) (l : Left) (w : WordAt) (rest : Left) (value : T) (behind : Left) → l ≡ with_word w rest → choice o w.bytes ≡ Valued (λ word. option_map f (meaning word)) → operand meaning rest ≡ Ok (value, behind) → options choice o l ≡ options choice (f value) behind
value_fits {T} {O} choice o f meaning l w rest value behind is valued fits =
    options_valued choice o (λ word. option_map f (meaning word)) l w rest is valued
    ∙ ap (λ (r : Result (O × Left) Misfit). then_ r (λ r. options choice r.0 r.1)) (operand_map f meaning rest ∙ ap (λ (r : Result (T × Left) Misfit). then_ r (λ r. Ok (f r.0, r.1))) fits)

-- the value doesn't fit
pub value_misfits : {T O : Type 0} (choice : O → List ℕ → Choice O) (o : O) (f : T → O) (meaning : List ℕ → Option T) (l : Left) (w : WordAt) (rest : Left) (fault : Misfit) → l ≡ with_word w rest → choice o w.bytes ≡ Valued (λ word. option_map f (meaning word)) → operand meaning rest ≡ Err fault → options choice o l ≡ Err fault
value_misfits {T} {O} choice o f meaning l w rest fault is valued misfits =
    options_valued choice o (λ word. option_map f (meaning word)) l w rest is valued
    ∙ ap (λ (r : Result (O × Left) Misfit). then_ r (λ r. options choice r.0 r.1)) (operand_map f meaning rest ∙ ap (λ (r : Result (T × Left) Misfit). then_ r (λ r. Ok (f r.0, r.1))) misfits)

-- an operand takes its word
pub operand_shortens : {T : Type 0} (meaning : List ℕ → Option T) (l : Left) (value : T) (rest : Left) → operand meaning l ≡ Ok (value, rest) → length rest.words < length l.words
unfolding operand
operand_shortens {T} meaning l value rest fits = at l.words fits
  where
    within : (ws : List WordAt) (column : ℕ) (r : Option T) → then_ {B = T × Left} (or_misfit r column) (λ v. Ok (v, record { words = ws; end = l.end })) ≡ Ok (value, rest) → length rest.words < length ws + 1
    within ws column None is = absurd (cc)
    within ws column (Some v) is =
        let same : ◌≡◌ {A = T × Left} (v, record { words = ws; end = l.end }) (value, rest) = cc in
        let long : length ws ≡ length rest.words = ap (λ (k : T × Left). length k.1.words) same in
        omega arith

    at : (ws : List WordAt) → operand_of meaning ws l.end ≡ Ok (value, rest) → length rest.words < length ws
    at [] is = absurd (cc)
    at (w ∷ ws) is = omega (arith, within ws w.column (meaning w.bytes) is)

-- a word is one word less
pub word_shortens : (l : Left) (w : WordAt) (rest : Left) → l ≡ with_word w rest → length rest.words < length l.words
word_shortens l w rest is = let long : length l.words ≡ length (w ∷ rest.words) = ap (λ (k : Left). length k.words) is in omega arith

-- an option without a value is read
pub alone_is_read : {O : Type 0} (choice : O → List ℕ → Choice O) (o with : O) (l : Left) (w : WordAt) (rest : Left) → l ≡ with_word w rest → choice o w.bytes ≡ Alone with → (options choice o l ≡ options choice with rest) × (length rest.words < length l.words)
alone_is_read {O} choice o with l w rest is alone = (options_alone choice o with l w rest is alone, word_shortens l w rest is)

-- an option is read with its value
pub value_is_read : {T O : Type 0} (choice : O → List ℕ → Choice O) (o : O) (f : T → O) (meaning : List ℕ → Option T) (l : Left) (w : WordAt) (rest : Left) (value : T) (behind : Left) → l ≡ with_word w rest → choice o w.bytes ≡ Valued (λ word. option_map f (meaning word)) → operand meaning rest ≡ Ok (value, behind) → (options choice o l ≡ options choice (f value) behind) × (length behind.words < length l.words)
value_is_read {T} {O} choice o f meaning l w rest value behind is valued fits =
    let once = word_shortens l w rest is in
    let twice = operand_shortens meaning rest value behind fits in
    let short : length behind.words < length l.words = omega arith in
    (value_fits choice o f meaning l w rest value behind is valued fits, short)

-- ---- disks

-- the line ends
pub disks_end : (before : List ℕ) (l : Left) → l.words ≡ [] → disks before l ≡ one_or_more before l.end
unfolding disks
disks_end before l none = ap (λ (ws : List WordAt). disks_of before ws l.end) none

-- the next word is no further disk
pub disks_misfit : (before : List ℕ) (l : Left) (w : WordAt) (rest : Left) → l ≡ with_word w rest → further_disk before w.bytes ≡ None → disks before l ≡ misfit w.column
unfolding disks
disks_misfit before l w rest is none =
    ap (λ (k : Left). disks_of before k.words k.end) is
    ∙ ap (λ (o : Option ℕ). then_ (or_misfit o w.column) (λ disk. disks_of (before ++ disk ∷ []) rest.words rest.end)) none

-- the next word is a further disk
pub disks_go_on : (before : List ℕ) (disk : ℕ) (l : Left) (w : WordAt) (rest : Left) → l ≡ with_word w rest → further_disk before w.bytes ≡ Some disk → disks before l ≡ disks (before ++ disk ∷ []) rest
unfolding disks
disks_go_on before disk l w rest is some =
    ap (λ (k : Left). disks_of before k.words k.end) is
    ∙ ap (λ (o : Option ℕ). then_ (or_misfit o w.column) (λ disk. disks_of (before ++ disk ∷ []) rest.words rest.end)) some

-- there is one
pub one_or_more_some : (before : List ℕ) (end : ℕ) → 0 < length before → one_or_more before end ≡ Ok before
one_or_more_some [] end some = absurd (omega (arith, some))
one_or_more_some (d ∷ before) end some = refl

pub one_or_more_none : (before : List ℕ) (end : ℕ) → length before ≡ 0 → one_or_more before end ≡ misfit end
one_or_more_none [] end none = refl
one_or_more_none (d ∷ before) end none = absurd (omega (arith, none))

-- What an operand, an option and the end of a line are where the next word is known.
use Rattle.std.proofs.Common.{◌≡◌, ℕ, Bool, true, false, cond, List, [], Option, Some, None, Ok, sym, ◌∙◌, ap}
use Rattle.std.specs.Prelude.{bytes_eq}
use Rattle.lvm_parse.specs.Line.{WordAt, Left}
use Rattle.lvm_parse.specs.Reading.{misfit, then_, or_misfit, operand_of, operand, option_of, option, ends_of, ends}
use Rattle.lvm_parse.specs.declared.rest.Rest.{Rest}
use Rattle.lvm_parse.specs.Rests.{left, with_word, fitted, ReadsAlike}

-- no word is left
pub operand_lacks : {T : Type 0} (meaning : List ℕ → Option T) (l : Left) → l.words ≡ [] → operand meaning l ≡ misfit l.end
unfolding operand
operand_lacks meaning l none = ap (λ (ws : List WordAt). operand_of meaning ws l.end) none

-- the next word fits
pub operand_fits : {T : Type 0} (meaning : List ℕ → Option T) (l : Left) (w : WordAt) (rest : Left) (value : T) → l ≡ with_word w rest → meaning w.bytes ≡ Some value → operand meaning l ≡ Ok (value, rest)
unfolding operand
operand_fits {T} meaning l w rest value is fits =
    ap (λ (k : Left). operand_of meaning k.words k.end) is
    ∙ ap (λ (o : Option T). then_ (or_misfit o w.column) (λ v. Ok (v, rest))) fits

-- the next word doesn't fit
pub operand_misfits : {T : Type 0} (meaning : List ℕ → Option T) (l : Left) (w : WordAt) (rest : Left) → l ≡ with_word w rest → meaning w.bytes ≡ None → operand meaning l ≡ misfit w.column
unfolding operand
operand_misfits {T} meaning l w rest is misfits =
    ap (λ (k : Left). operand_of meaning k.words k.end) is
    ∙ ap (λ (o : Option T). then_ (or_misfit o w.column) (λ v. Ok (v, rest))) misfits

-- the next word is read as what it means
pub operand_is : {T : Type 0} (meaning : List ℕ → Option T) (l : Left) (w : WordAt) (rest : Rest) (value : Option T) → l ≡ with_word w (left rest) → value ≡ meaning w.bytes → ReadsAlike (operand meaning l) (fitted value w.column rest)
operand_is meaning l w rest (Some value) is means = operand_fits meaning l w (left rest) value is (sym means)
operand_is meaning l w rest None is means = operand_misfits meaning l w (left rest) is (sym means)

-- no word is left
pub ends_here : {T : Type 0} (l : Left) (value : T) → l.words ≡ [] → ends l value ≡ Ok value
unfolding ends
ends_here l value none = ap (λ (ws : List WordAt). ends_of ws value) none

-- a word is left
pub ends_later : {T : Type 0} (l : Left) (w : WordAt) (rest : Left) (value : T) → l ≡ with_word w rest → ends l value ≡ misfit w.column
unfolding ends
ends_later l w rest value is = ap (λ (k : Left). ends_of k.words value) is

-- no word is left
pub option_lacks : (name : List ℕ) (l : Left) → l.words ≡ [] → option name l ≡ (false, l)
unfolding option
option_lacks name l none = ap (λ (ws : List WordAt). option_of name ws l.end) none ∙ ap (λ (ws : List WordAt). (false, record { words = ws; end = l.end })) (sym none)

-- the next word is the option
pub option_stands : (name : List ℕ) (l : Left) (w : WordAt) (rest : Left) → l ≡ with_word w rest → bytes_eq w.bytes name ≡ true → option name l ≡ (true, rest)
unfolding option
option_stands name l w rest is same =
    ap (λ (k : Left). option_of name k.words k.end) is
    ∙ ap (λ (b : Bool). cond b (true, rest) (false, with_word w rest)) same

-- the next word is another
pub option_missing : (name : List ℕ) (l : Left) (w : WordAt) (rest : Left) → l ≡ with_word w rest → bytes_eq w.bytes name ≡ false → option name l ≡ (false, l)
unfolding option
option_missing name l w rest is other =
    ap (λ (k : Left). option_of name k.words k.end) is
    ∙ ap (λ (b : Bool). cond b (true, rest) (false, with_word w rest)) other
    ∙ ap (λ (k : Left). (false, k)) (sym is)

-- The lines of posts, one after the other.
use Rattle.std.proofs.Common.{◌≡◌, ◌≤◌, ◌+◌, ◌++◌, ℕ, List, [], ◌∷◌, length, sym, ◌∙◌, ap, append_assoc, arith}
use Rattle.std.specs.Prelude.{Ok, Err}
use Rattle.std.proofs.lemmas.List.{append-nil}
use Rattle.lvm_range_lines.specs.Refusals.{Ending, answer_text, answers_text, refusal_in, refusals_in}

pub answers_push : (endings : List Ending) (answer : Ending) → answers_text (endings ++ answer ∷ []) ≡ answers_text endings ++ answer_text answer
answers_push [] answer = append-nil (answer_text answer)
answers_push (e ∷ es) answer = ap (λ (text : List ℕ). answer_text e ++ text) (answers_push es answer) ∙ sym (append_assoc (answer_text e) (answers_text es) (answer_text answer))

pub refusals_push : (endings : List Ending) (answer : Ending) → refusals_in (endings ++ answer ∷ []) ≡ refusals_in endings + refusal_in answer
refusals_push [] answer = omega arith
refusals_push (e ∷ es) answer = let rest = refusals_push es answer in omega (arith, rest)

one_at_most : (answer : Ending) → refusal_in answer ≤ 1
one_at_most (Ok done) = omega arith
one_at_most (Err why) = omega arith

pub refusals_most : (endings : List Ending) → refusals_in endings ≤ length endings
refusals_most [] = omega arith
refusals_most (e ∷ es) = let first = one_at_most e in let rest = refusals_most es in omega (arith, first, rest)

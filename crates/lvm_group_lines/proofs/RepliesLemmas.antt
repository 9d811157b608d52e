-- The text that is written without memory.
use Rattle.std.proofs.Common.{◌≡◌, ℕ, lit<, lit≤, List, [], ◌∷◌, ◌++◌, sym, ap, ◌∙◌}
use Rattle.std.specs.Prelude.{codes}
use Rattle.std.specs.Fmt.{decimal}
use Rattle.std.proofs.lemmas.Fmt.{decimal_digit, decimal_step}
use Rattle.lvm_group_lines.specs.Replies.{reply_text}
use Rattle.lvm_group_lines.specs.declared.reply.Refusal.TheVariants as refusal
use Rattle.lvm_group_lines.specs.declared.reply.Reply.TheVariants as reply

number : decimal 29 ≡ 50 ∷ 57 ∷ []
number = decimal_step 29 (lit≤ tt) (lit< tt) ∙ ap (λ (front : List ℕ). front ++ 57 ∷ []) (decimal_digit 2 (lit< tt))

pub memory_is : codes "refused 29 Memory\n" ≡ reply_text (reply.Refused refusal.Memory)
memory_is = ap (λ (digits : List ℕ). codes "refused " ++ digits ++ codes " " ++ codes "Memory" ++ [] ++ codes "\n") (sym number)

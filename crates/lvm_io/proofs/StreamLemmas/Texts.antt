-- A text that is being written.
use Rattle.std.proofs.Common.{◌≡◌, ◌++◌, ℕ, List, Option, take, drop, sym, ◌∙◌, ap, append_assoc, take-append-drop}
use Rattle.lvm_io.specs.Stream.{WhereTold}
use Rattle.lvm_io.proofs.StreamLemmas.Told.{told_on}

-- a front of the text is written
pub record TextSoFar (old now : Option (List ℕ)) (text rest : List ℕ) (before later : ℕ) : Type 0 where
  pub front : List ℕ
  pub split : text ≡ front ++ rest
  pub written : WhereTold old now (λ a b. b ≡ a ++ front)
  pub faults : later ≡ before

pub text_goes_on : (old now new : Option (List ℕ)) (text rest left : List ℕ) (before later last n : ℕ) → TextSoFar old now text rest before later → WhereTold now new (λ a b. b ≡ a ++ take n rest) → left ≡ drop n rest → last ≡ later → TextSoFar old new text left before last
text_goes_on old now new text rest left before later last n so_far told is stays = record {
  front = so_far.front ++ take n rest;
  split = so_far.split ∙ ap (λ (l : List ℕ). so_far.front ++ l) (sym (take-append-drop n rest) ∙ ap (λ (l : List ℕ). take n rest ++ l) (sym is)) ∙ sym (append_assoc so_far.front (take n rest) left);
  written = told_on old now new (λ a b. b ≡ a ++ so_far.front) (λ a b. b ≡ a ++ take n rest) (λ a b. b ≡ a ++ (so_far.front ++ take n rest))
      (λ a b c p q. q ∙ ap (λ (l : List ℕ). l ++ take n rest) p ∙ append_assoc a so_far.front (take n rest)) so_far.written told;
  faults = stays ∙ so_far.faults;
}

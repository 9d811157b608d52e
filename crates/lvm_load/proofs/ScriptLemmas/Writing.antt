-- A text that is gathered and written.
use Rattle.std.proofs.Common.{◌≡◌, ℕ, ◌<◌, List, [], ◌++◌, Option, length, refl, sym, ap, ◌∙◌, arith, append_assoc, length-append}
use Rattle.std.proofs.lemmas.List.{append-nil}
use Rattle.lvm_io.specs.Stream.{WhereTold, WritesFront}
use Rattle.lvm_io.proofs.StreamLemmas.Told.{told_on, told_same, told_more}
use Rattle.lvm_load.specs.Script.{WritesUpTo, IsWrittenUpTo}

-- nothing of the text was written
pub gathered : (text : List ℕ) (told : Option (List ℕ)) → IsWrittenUpTo text text told told
gathered text told = told_same told (WritesUpTo text text) (λ a. record { written = []; behind = sym (append-nil a); all = refl })

-- all of it was
pub flushed : (text : List ℕ) (old new : Option (List ℕ)) → WhereTold old new (λ a b. b ≡ a ++ text) → IsWrittenUpTo text [] old new
flushed text old new whole = told_more old new (λ a b. b ≡ a ++ text) (WritesUpTo text []) (λ a b p. record { written = text; behind = p; all = sym (append-nil text) }) whole

-- nothing is left of it
pub none_left : (text : List ℕ) (old new : Option (List ℕ)) → IsWrittenUpTo text [] old new → WhereTold old new (λ a b. b ≡ a ++ text)
none_left text old new so_far = told_more old new (WritesUpTo text []) (λ a b. b ≡ a ++ text) (λ a b p. p.behind ∙ ap (λ (l : List ℕ). a ++ l) (sym (p.all ∙ append-nil p.written))) so_far

-- more is gathered of a longer text
pub added : (text rest more : List ℕ) (old new : Option (List ℕ)) → IsWrittenUpTo text rest old new → IsWrittenUpTo (text ++ more) (rest ++ more) old new
added text rest more old new so_far = told_more old new (WritesUpTo text rest) (WritesUpTo (text ++ more) (rest ++ more))
    (λ a b p. record { written = p.written; behind = p.behind; all = ap (λ (l : List ℕ). l ++ more) p.all ∙ append_assoc p.written rest more }) so_far

-- more of what was gathered is written
pub onward : (text rest next : List ℕ) (old mid new : Option (List ℕ)) → IsWrittenUpTo text rest old mid → IsWrittenUpTo rest next mid new → IsWrittenUpTo text next old new
onward text rest next old mid new so_far more = told_on old mid new (WritesUpTo text rest) (WritesUpTo rest next) (WritesUpTo text next) both so_far more
  where
    both : (a b c : List ℕ) → WritesUpTo text rest a b → WritesUpTo rest next b c → WritesUpTo text next a c
    both a b c p q = record {
      written = p.written ++ q.written;
      behind = q.behind ∙ ap (λ (l : List ℕ). l ++ q.written) p.behind ∙ append_assoc a p.written q.written;
      all = p.all ∙ ap (λ (l : List ℕ). p.written ++ l) q.all ∙ sym (append_assoc p.written q.written next);
    }

-- a front of what was gathered is written
pub front_onward : (text rest : List ℕ) (old mid new : Option (List ℕ)) → IsWrittenUpTo text rest old mid → WhereTold mid new (λ a b. WritesFront rest a b) → WhereTold old new (λ a b. WritesFront text a b)
front_onward text rest old mid new so_far front = told_on old mid new (WritesUpTo text rest) (λ a b. WritesFront rest a b) (λ a b. WritesFront text a b) both so_far front
  where
    both : (a b c : List ℕ) → WritesUpTo text rest a b → WritesFront rest b c → WritesFront text a c
    both a b c p q = record {
      front = p.written ++ q.front;
      rest = q.rest;
      split = p.all ∙ ap (λ (l : List ℕ). p.written ++ l) q.split ∙ sym (append_assoc p.written q.front q.rest);
      written = q.written ∙ ap (λ (l : List ℕ). l ++ q.front) p.behind ∙ append_assoc a p.written q.front;
      short = q.short;
    }

-- some of it isn't written
pub unwritten : (text rest : List ℕ) (old new : Option (List ℕ)) → IsWrittenUpTo text rest old new → 0 < length rest → WhereTold old new (λ a b. WritesFront text a b)
unwritten text rest old new so_far some = told_more old new (WritesUpTo text rest) (λ a b. WritesFront text a b)
    (λ a b p. record { front = p.written; rest = rest; split = p.all; written = p.behind; short = some }) so_far

-- a front of a text is one of a longer text
pub front_of_longer : (text more : List ℕ) (old new : Option (List ℕ)) → WhereTold old new (λ a b. WritesFront text a b) → WhereTold old new (λ a b. WritesFront (text ++ more) a b)
front_of_longer text more old new front = told_more old new (λ a b. WritesFront text a b) (λ a b. WritesFront (text ++ more) a b) longer front
  where
    longer : (a b : List ℕ) → WritesFront text a b → WritesFront (text ++ more) a b
    longer a b p = record {
      front = p.front;
      rest = p.rest ++ more;
      split = ap (λ (l : List ℕ). l ++ more) p.split ∙ append_assoc p.front p.rest more;
      written = p.written;
      short = omega (arith, p.short, length-append p.rest more);
    }

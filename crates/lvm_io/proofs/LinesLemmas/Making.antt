-- The lines of a text make up the text.
use Rattle.std.proofs.Common.{◌≡◌, ◌∷◌, ◌++◌, [], ℕ, List, Bool, true, false, if◌then◌else◌, refl, sym, ◌∙◌, ap, subst, inl, inr, arith, append_assoc}
use Rattle.std.proofs.lemmas.List.{append-nil}
use Rattle.std.proofs.lemmas.List.Elements.{All-nil, All-cons}
use Rattle.std.proofs.lemmas.Bool.{eqb-true}
use Rattle.lvm_io.specs.Lines.{is_feed, has_feed, last_line, lines_from, lines_of, joined, AreLinesOf, LinesLaw}
use Rattle.lvm_io.proofs.LinesLemmas.Feeds.{no_feed}

at_end : (front : List ℕ) → has_feed front ≡ false → AreLinesOf front (last_line front)
at_end [] clean = record { clean = All-nil (λ line. has_feed line ≡ false); whole = inl refl }
at_end (byte ∷ front) clean = record {
  clean = All-cons (λ line. has_feed line ≡ false) (byte ∷ front) [] clean (All-nil (λ line. has_feed line ≡ false));
  whole = inr (record { ended = []; last = byte ∷ front; are = refl; is = refl; some = omega arith });
}

after_feed : (front rest : List ℕ) (lines : List (List ℕ)) → has_feed front ≡ false → AreLinesOf rest lines → AreLinesOf (front ++ 10 ∷ rest) (front ∷ lines)
after_feed front rest lines clean it = record {
  clean = All-cons (λ line. has_feed line ≡ false) front lines clean it.clean;
  whole = elim it.whole [
    | inl whole ↦ inl (ap (λ (l : List ℕ). front ++ 10 ∷ l) whole)
    | inr lacks ↦ inr (record {
      ended = front ∷ lacks.ended;
      last = lacks.last;
      are = ap (λ (l : List (List ℕ)). front ∷ l) lacks.are;
      is = ap (λ (l : List ℕ). front ++ 10 ∷ l) lacks.is ∙ sym (append_assoc front (10 ∷ joined lacks.ended) lacks.last);
      some = lacks.some;
    })
  ];
}

-- a byte more of the text
by_byte : (t : Bool) (front : List ℕ) (byte : ℕ) (rest : List ℕ) → is_feed byte ≡ t → has_feed front ≡ false → AreLinesOf rest (lines_of rest) → (is_feed byte ≡ false → AreLinesOf ((front ++ byte ∷ []) ++ rest) (lines_from (front ++ byte ∷ []) rest))
    → AreLinesOf (front ++ byte ∷ rest) (if t then front ∷ lines_of rest else lines_from (front ++ byte ∷ []) rest)
by_byte true front byte rest is clean more same =
    let feed : 10 ≡ byte = sym (eqb-true byte 10 is) in
    subst (λ (b : ℕ). AreLinesOf (front ++ b ∷ rest) (front ∷ lines_of rest)) feed (after_feed front rest (lines_of rest) clean more)
by_byte false front byte rest is clean more same =
    subst (λ (text : List ℕ). AreLinesOf text (lines_from (front ++ byte ∷ []) rest)) (append_assoc front (byte ∷ []) rest) (same is)

pub lines_from_make : (front bytes : List ℕ) → has_feed front ≡ false → AreLinesOf (front ++ bytes) (lines_from front bytes)
lines_from_make front [] clean = subst (λ (text : List ℕ). AreLinesOf text (last_line front)) (sym (append-nil front)) (at_end front clean)
lines_from_make front (byte ∷ bytes) clean =
    by_byte (is_feed byte) front byte bytes refl clean (lines_from_make [] bytes refl)
    (λ other. lines_from_make (front ++ byte ∷ []) bytes (no_feed front (byte ∷ []) clean (rw other refl)))

pub lines_make : LinesLaw
lines_make text = lines_from_make [] text refl

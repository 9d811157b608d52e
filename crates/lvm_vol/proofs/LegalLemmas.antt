-- What fits the joined history fits it without the cut between an earlier history and the run's own.
use Rattle.std.proofs.Common.{◌≡◌, inl, inr, Bool, false, ◌||◌, List, [], ◌∷◌, ◌++◌, refl, sym, ap, ◌∙◌}
use Rattle.std.specs.List.{list_any}
use Rattle.std.proofs.lemmas.List.Folds.{list_any-append}
use Rattle.lvm_vol.specs.Facts.{Request, Fact, Begun, Taken, Cut, IsInList, joined}
use Rattle.lvm_vol.specs.Legal.{Fits, lands, takes}

stands_unjoined : (past facts : List Fact) (r : Request) → IsInList (Begun r) (joined past facts) → IsInList (Begun r) (past ++ facts)
stands_unjoined [] facts r (inl here) = absurd (cc here)
stands_unjoined [] facts r (inr there) = there
stands_unjoined (f ∷ past) facts r (inl here) = inl here
stands_unjoined (f ∷ past) facts r (inr there) = inr (stands_unjoined past facts r there)

any_unjoined : (t : Fact → Bool) (past facts : List Fact) → t Cut ≡ false → list_any t (past ++ facts) ≡ list_any t (joined past facts)
any_unjoined t past facts none = list_any-append t past facts ∙ sym (list_any-append t past (Cut ∷ facts) ∙ ap (λ b. list_any t past || (b || list_any t facts)) none)

pub unjoined : (past facts : List Fact) (r : Request) → Fits (joined past facts) (Taken r) → Fits (past ++ facts) (Taken r)
unjoined past facts r fits = record {
  began = stands_unjoined past facts r fits.began;
  answered = any_unjoined (lands r) past facts refl ∙ fits.answered;
  first = any_unjoined (takes r) past facts refl ∙ fits.first;
}

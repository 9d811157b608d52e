-- A state goes on describing the disks with a longer history: with a cut, and with landings of what was open.
use Rattle.std.proofs.Common.{inl, inr, ℕ, Bool, List, [], ◌∷◌, ◌++◌, Option, Some, None, refl, sym, ap, subst, ◌∙◌, append_assoc, append-nil}
use Rattle.lvm_num.specs.declared.descriptor.Descriptor.{Descriptor}
use Rattle.lvm_num.specs.declared.status.Status.{Status}
use Rattle.lvm_num.specs.Record.{Stamped}
use Rattle.lvm_num.specs.Descriptor.{volume_of}
use Rattle.lvm_num.specs.Buffer.{Sector}
use Rattle.lvm_vol.specs.declared.entry.Vol.TheVariants.{Disk, Lv}
use Rattle.lvm_vol.specs.declared.entry.Outcome.{Outcome}
use Rattle.lvm_vol.specs.Facts.{Fact, Landed as HasLanded, Cut, IsInList}
use Rattle.lvm_vol.specs.May.{Known, known, cut, also, May}
use Rattle.lvm_vol.specs.Standing.{Volume, no_volumes}
use Rattle.lvm_vol.proofs.LawsLemmas.Knowing.{known-push}
use Rattle.lvm_kept.specs.Contents.{Contents}
use Rattle.lvm_kept.specs.Kept.{StandsAs}
use Rattle.lvm_invariant.specs.State.{ModelState}
use Rattle.lvm_invariant.specs.Found.{Votes}
use Rattle.lvm_invariant.specs.Good.{Good}
use Rattle.lvm_invariant.specs.Over.{IsUnlanded, landings}
use Rattle.lvm_crash.specs.Session.{Describes}
use Rattle.lvm_crash.proofs.LastingLemmas.Lasting.{volumes-append, on_volume}
use Rattle.lvm_crash.proofs.LawsLemmas.Ends.{entry_more}

-- what is allowed after a cut is allowed after another
cut_again : (b : ℕ) (k : Known) (x : Sector) → May (cut b k) x → May (cut b (cut b k)) x
cut_again b k x may = by_values (cut b k).values may
  where
    by_values : (values : Option (List Sector)) → May (record k { values = values }) x → May (record k { values = also [] values }) x
    by_values None h = h
    by_values (Some vs) h = subst (IsInList x) (sym (append-nil vs)) h

module _ (s : ModelState) (group : Descriptor) (in_flight : Option (Stamped Status)) (c : Contents) where
  pub cut_more : (facts : List Fact) → Describes s facts group in_flight c → Describes s (facts ++ Cut ∷ []) group in_flight c
  cut_more facts old = record {
    stands = old.stands;
    volumes = let v = old.volumes in record {
      copies = v.copies;
      free = v.free;
      inside = v.inside;
      some = v.some;
      notes = v.notes;
      mark = v.mark;
      modes = λ row lp b one inside. ap (λ (k : Known). k.mode) (known-push facts Cut (Lv row.number) b) ∙ v.modes row lp b one inside;
      history = λ lv. subst (λ (w : Volume). StandsAs group.mib w.standing w.shape (volume_of group lv)) (sym (ap (λ (w : ℕ → Volume). w lv) (volumes-append no_volumes facts (Cut ∷ [])))) (v.history lv);
    };
    shown = old.shown;
    raw = λ d b low none from to. subst (λ (k : Known). May k (c.block d b)) (sym (known-push (facts ++ Cut ∷ []) Cut (Disk d) b ∙ ap (cut b) (known-push facts Cut (Disk d) b)))
        (cut_again b (known facts (Disk d) b) (c.block d b) (subst (λ (k : Known). May k (c.block d b)) (known-push facts Cut (Disk d) b) (old.raw d b low none from to)));
  }

  pub landings_more : (votes : Votes) (how : Outcome) (started : ℕ → Bool) → Good votes s → (places : List ℕ) → ((i : ℕ) → IsInList i places → IsUnlanded s i) → (facts : List Fact)
      → Describes s facts group in_flight c → Describes s (facts ++ landings how s.name started places) group in_flight c
  landings_more votes how started good [] each facts old = subst (λ l. Describes s l group in_flight c) (sym (append-nil facts)) old
  landings_more votes how started good (i ∷ places) each facts old =
      let mine = each i (inl refl) in
      subst (λ l. Describes s l group in_flight c) (append_assoc facts (HasLanded (s.name i) how (started i) [] ∷ []) (landings how s.name started places))
      (landings_more votes how started good places (λ j there. each j (inr there)) (facts ++ HasLanded (s.name i) how (started i) [] ∷ [])
      (entry_more s group in_flight c facts (HasLanded (s.name i) how (started i) []) (on_volume votes group s good i mine.req mine.there mine.request) old))

-- one of the first is one of all
pub among : (first rest : List ℕ) (i : ℕ) → IsInList i first → IsInList i (first ++ rest)
among [] rest i h = absurd h
among (j ∷ first) rest i (inl here) = inl here
among (j ∷ first) rest i (inr there) = inr (among first rest i there)

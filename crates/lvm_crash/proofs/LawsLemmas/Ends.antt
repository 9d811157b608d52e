-- At each moment of the end of a session its state goes on describing the disks.
use Rattle.std.proofs.Common.{◌≡◌, inl, inr, ℕ, Bool, List, [], ◌∷◌, ◌++◌, Option, Some, None, refl, sym, ap, subst, ◌∙◌, append_assoc, append-nil}
use Rattle.lvm_num.specs.declared.descriptor.Descriptor.{Descriptor}
use Rattle.lvm_num.specs.declared.status.Status.{Status}
use Rattle.lvm_num.specs.Record.{Stamped}
use Rattle.lvm_num.specs.Descriptor.{volume_of}
use Rattle.lvm_num.specs.Buffer.{Sector}
use Rattle.lvm_vol.specs.declared.entry.Vol.TheVariants.{Disk, Lv}
use Rattle.lvm_vol.specs.declared.entry.Outcome.{Outcome}
use Rattle.lvm_vol.specs.declared.entry.Outcome.TheVariants as outcome
use Rattle.lvm_vol.specs.Facts.{Fact, Landed as HasLanded, Cut, IsInList}
use Rattle.lvm_vol.specs.May.{Known, known, cut, also, May}
use Rattle.lvm_vol.specs.Standing.{Volume, no_volumes, volumes_in}
use Rattle.lvm_vol.proofs.LawsLemmas.Knowing.{known-push}
use Rattle.lvm_kept.specs.Contents.{Contents}
use Rattle.lvm_kept.specs.Kept.{StandsAs}
use Rattle.lvm_invariant.specs.State.{ModelState}
use Rattle.lvm_invariant.specs.Found.{Votes}
use Rattle.lvm_invariant.specs.Good.{Good}
use Rattle.lvm_invariant.specs.Over.{IsUnlanded, landings}
use Rattle.lvm_invariant.proofs.OverLemmas.{off_keeps, cut_keeps}
use Rattle.lvm_crash.specs.Session.{Describes}
use Rattle.lvm_crash.specs.Laws.{CutIsKept, OffIsKept}
use Rattle.lvm_crash.proofs.LastingLemmas.Lasting.{IsOfSession, volumes-append, volumes_stand, modes_stay, raw_stays, on_volume}
use Rattle.lvm_crash.proofs.LawsLemmas.Images.{last_images_kept}

-- what is allowed after a cut is allowed after another
cut_again : (b : ℕ) (k : Known) (x : Sector) → May (cut b k) x → May (cut b (cut b k)) x
cut_again b k x may = by_values (cut b k).values may
  where
    by_values : (values : Option (List Sector)) → May (record k { values = values }) x → May (record k { values = also [] values }) x
    by_values None h = h
    by_values (Some vs) h = subst (IsInList x) (sym (append-nil vs)) h

module _ (s : ModelState) (group : Descriptor) (in_flight : Option (Stamped Status)) (c : Contents) where
  -- with a longer history, by which the modes stay, the volumes stand as they did, and disks in no group may show what they show
  longer : (facts more : List Fact) → ((lv b : ℕ) → (known more (Lv lv) b).mode ≡ (known facts (Lv lv) b).mode)
      → ((lv : ℕ) → StandsAs group.mib (volumes_in facts lv).standing (volumes_in facts lv).shape (volume_of group lv) → StandsAs group.mib (volumes_in more lv).standing (volumes_in more lv).shape (volume_of group lv))
      → ((d b : ℕ) (x : Sector) → May (known (facts ++ Cut ∷ []) (Disk d) b) x → May (known (more ++ Cut ∷ []) (Disk d) b) x) → Describes s facts group in_flight c → Describes s more group in_flight c
  longer facts more modes stand may old = record {
    stands = old.stands;
    volumes = let v = old.volumes in record {
      copies = v.copies;
      free = v.free;
      inside = v.inside;
      some = v.some;
      notes = v.notes;
      mark = v.mark;
      modes = λ row lp b one inside. modes row.number b ∙ v.modes row lp b one inside;
      history = λ lv. stand lv (v.history lv);
    };
    shown = old.shown;
    raw = λ d b low none from to. may d b (c.block d b) (old.raw d b low none from to);
  }

  -- with an entry of a session more
  pub entry_more : (facts : List Fact) (f : Fact) → IsOfSession group f → Describes s facts group in_flight c → Describes s (facts ++ f ∷ []) group in_flight c
  entry_more facts f of = longer facts (facts ++ f ∷ []) (λ lv b. modes_stay group facts f of (Lv lv) b) (volumes_stand group facts f of)
      (λ d b x may. subst (λ (k : Known). May k x) (sym (raw_stays group facts f of d b)) may)

  -- with a cut more
  cut_more : (facts : List Fact) → Describes s facts group in_flight c → Describes s (facts ++ Cut ∷ []) group in_flight c
  cut_more facts = longer facts (facts ++ Cut ∷ []) (λ lv b. ap (λ (k : Known). k.mode) (known-push facts Cut (Lv lv) b))
      (λ lv stands. subst (λ (v : Volume). StandsAs group.mib v.standing v.shape (volume_of group lv)) (sym (ap (λ (v : ℕ → Volume). v lv) (volumes-append no_volumes facts (Cut ∷ [])))) stands)
      (λ d b x may. subst (λ (k : Known). May k x) (sym (known-push (facts ++ Cut ∷ []) Cut (Disk d) b ∙ ap (cut b) (known-push facts Cut (Disk d) b)))
      (cut_again b (known facts (Disk d) b) x (subst (λ (k : Known). May k x) (known-push facts Cut (Disk d) b) may)))

  -- with landings of what was open
  landings_more : (votes : Votes) (how : Outcome) (started : ℕ → Bool) → Good votes s → (places : List ℕ) → ((i : ℕ) → IsInList i places → IsUnlanded s i) → (facts : List Fact)
      → Describes s facts group in_flight c → Describes s (facts ++ landings how s.name started places) group in_flight c
  landings_more votes how started good [] each facts old = subst (λ l. Describes s l group in_flight c) (sym (append-nil facts)) old
  landings_more votes how started good (i ∷ places) each facts old =
      let mine = each i (inl refl) in
      subst (λ l. Describes s l group in_flight c) (append_assoc facts (HasLanded (s.name i) how (started i) [] ∷ []) (landings how s.name started places))
      (landings_more votes how started good places (λ j there. each j (inr there)) (facts ++ HasLanded (s.name i) how (started i) [] ∷ [])
      (entry_more facts (HasLanded (s.name i) how (started i) []) (on_volume votes group s good i mine.req mine.there mine.request) old))

-- one of the first is one of all
among : (first rest : List ℕ) (i : ℕ) → IsInList i first → IsInList i (first ++ rest)
among [] rest i h = absurd h
among (j ∷ first) rest i (inl here) = inl here
among (j ∷ first) rest i (inr there) = inr (among first rest i there)

pub cut_kept : CutIsKept
cut_kept votes s group in_flight device media image first rest started are good open_now matches left =
    last_images_kept votes s ((s.facts ++ Cut ∷ []) ++ landings outcome.Dark s.name started first) group in_flight device media image are good (cut_keeps votes s first rest started open_now good)
    (record {
      told = matches.told;
      describes = landings_more s group in_flight _ votes outcome.Dark started good first (λ i there. open_now.each i (among first rest i there)) (s.facts ++ Cut ∷ []) (cut_more s group in_flight _ s.facts matches.describes);
      out = matches.out;
    }) left

pub off_kept : OffIsKept
off_kept votes s group in_flight device media image first rest started are good off matches left =
    last_images_kept votes s (s.facts ++ landings outcome.Off s.name started first) group in_flight device media image are good (off_keeps votes s first rest started off good)
    (record {
      told = matches.told;
      describes = landings_more s group in_flight _ votes outcome.Off started good first (λ i there. off.requests.each i (among first rest i there)) s.facts matches.describes;
      out = matches.out;
    }) left

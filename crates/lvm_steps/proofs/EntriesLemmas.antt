-- Entries that speak of no volume keep what the disks show.
use Rattle.std.proofs.Common.{◌≡◌, inl, ◌&&◌, ◌||◌, ℕ, List, [], ◌∷◌, ◌++◌, Bool, true, false, Option, Some, None, refl, sym, ap, subst, ◌∙◌}
use Rattle.std.specs.Prelude.{IsTrue, IsSomeAnd, nat_le, nat_lt, ◌+◌, if◌then◌else◌}
use Rattle.std.proofs.lemmas.Bool.{and_right}
use Rattle.lvm_num.specs.Buffer.{Sector}
use Rattle.lvm_num.specs.declared.descriptor.Mode.{Mode}
use Rattle.lvm_num.specs.declared.descriptor.Descriptor.{Descriptor}
use Rattle.lvm_num.specs.declared.status.Status.{Status}
use Rattle.lvm_num.specs.Disks.{Disks}
use Rattle.lvm_num.specs.Record.{Stamped}
use Rattle.lvm_vol.specs.declared.entry.Vol.{Vol}
use Rattle.lvm_vol.specs.declared.entry.Vol.TheVariants.{Disk, Lv}
use Rattle.lvm_vol.specs.Facts.{Request, Fact, Removing, Removed, Begun, Landed, Taken, Cut, On, IsInList, same_vol, is_over}
use Rattle.lvm_vol.specs.May.{Known, known, change, source, May, IsValue, cut, also, is_off}
use Rattle.lvm_vol.specs.Laws.{is_about}
use Rattle.lvm_vol.specs.Standing.{Standing, Settled, Absent, Open, Volume, no_volumes, volumes_after, volumes_after_fact, volumes_in, put}
use Rattle.lvm_vol.proofs.LawsLemmas.Knowing.{known-push, others_stay}
use Rattle.lvm_kept.specs.Contents.{Contents}
use Rattle.lvm_kept.specs.Group.{fresh_on}
use Rattle.lvm_kept.specs.Kept.{MayDiffer, IsBlockKept, BlocksKept, RawAgrees, Kept}
use Rattle.lvm_kept.specs.Changes.{OnlyAllowsMore}
use Rattle.lvm_kept.proofs.MayLemmas.{one_left_of, also_adds}
use Rattle.lvm_kept.proofs.ChangesLemmas.Entries.{entry_keeps, more_is_kept, beginning_more}
use Rattle.lvm_steps.specs.Entries.{IsDisk, IsOfDisks, DiskEntryKeeps, QuietEntryKeeps}

-- ---- volumes stand as they did

pub volumes-append : (volumes : ℕ → Volume) (facts more : List Fact) → volumes_after volumes (facts ++ more) ≡ volumes_after (volumes_after volumes facts) more
volumes-append volumes [] more = refl
volumes-append volumes (g ∷ facts) more = volumes-append (volumes_after_fact g volumes) facts more

put_disk : (vol : Vol) (standing : Standing) (volumes : ℕ → Volume) (lv : ℕ) → IsDisk vol → put vol standing volumes lv ≡ volumes lv
put_disk (Disk d) standing volumes lv is = refl
put_disk (Lv n) standing volumes lv is = absurd is

after_disks : (f : Fact) (volumes : ℕ → Volume) (lv : ℕ) → IsOfDisks f → volumes_after_fact f volumes lv ≡ volumes lv
after_disks (Begun r) volumes lv is = put_disk r.vol Settled volumes lv is
after_disks (Landed r how started got) volumes lv is = refl
after_disks (Removing vol) volumes lv is = put_disk vol Open volumes lv is
after_disks (Removed vol) volumes lv is = put_disk vol Absent volumes lv is
after_disks (Taken r) volumes lv is = refl
after_disks (On moment) volumes lv is = refl
after_disks Cut volumes lv is = refl
after_disks _ volumes lv is = absurd is

pub volumes_same : (facts : List Fact) (f : Fact) (lv : ℕ) → IsOfDisks f → volumes_in (facts ++ f ∷ []) lv ≡ volumes_in facts lv
volumes_same facts f lv is = ap (λ (v : ℕ → Volume). v lv) (volumes-append no_volumes facts (f ∷ [])) ∙ after_disks f (volumes_in facts) lv is

-- ---- blocks of volumes are known as before

apart : (vol : Vol) (lv : ℕ) → IsDisk vol → same_vol vol (Lv lv) ≡ false
apart (Disk d) lv is = refl
apart (Lv n) lv is = absurd is

not_over : (r : Request) (lv b : ℕ) → IsDisk r.vol → is_over r (Lv lv) b ≡ false
not_over r lv b is = ap (λ (t : Bool). t && nat_le r.at b && nat_lt b (r.at + r.count)) (apart r.vol lv is)

not_about : (f : Fact) (lv b : ℕ) → IsOfDisks f → is_about f (Lv lv) b ≡ false
not_about (Begun r) lv b is = and_right r.write (is_over r (Lv lv) b) (not_over r lv b is)
not_about (Landed r how started got) lv b is = not_over r lv b is
not_about (Removing vol) lv b is = refl
not_about (Removed vol) lv b is = apart vol lv is
not_about (Taken r) lv b is = refl
not_about (On moment) lv b is = refl
not_about _ lv b is = absurd is

known_same : (facts : List Fact) (f : Fact) (lv b : ℕ) → IsOfDisks f → known ((facts ++ f ∷ []) ++ Cut ∷ []) (Lv lv) b ≡ known (facts ++ Cut ∷ []) (Lv lv) b
known_same facts f lv b is =
    known-push (facts ++ f ∷ []) Cut (Lv lv) b ∙ ap (cut b) (others_stay facts f (Lv lv) b (not_about f lv b is)) ∙ sym (known-push facts Cut (Lv lv) b)

module _ (c : Contents) (facts : List Fact) (f : Fact) (is : IsOfDisks f) where
  differ : (status : Option (Stamped Status)) (lv : ℕ) (mode : Mode) (copies : _) (b : ℕ) → MayDiffer c status lv mode copies (known (facts ++ Cut ∷ []) (Lv lv) b) b
      → MayDiffer c status lv mode copies (known ((facts ++ f ∷ []) ++ Cut ∷ []) (Lv lv) b) b
  differ status lv mode copies b m = subst (λ (k : Known). MayDiffer c status lv mode copies k b) (sym (known_same facts f lv b is)) m

  same_blocks : (group : Descriptor) (disks : Disks) (status : Option (Stamped Status)) → BlocksKept c facts group disks status → BlocksKept c (facts ++ f ∷ []) group disks status
  same_blocks group disks status blocks row lp b one inside =
      subst (λ (k : Known). IsBlockKept c group.mib status row (fresh_on disks status row lp) k b) (sym (known_same facts f row.number b is)) (blocks row lp b one inside)

  pub of_disks : RawAgrees c (facts ++ f ∷ []) → Kept c facts → Kept c (facts ++ f ∷ [])
  of_disks raw kept = entry_keeps c facts f
      (record {
        copies = λ disks id group found. same_blocks group _ _ (kept.agrees.copies disks id group found);
        across = λ b id h k r found. same_blocks k _ _ (kept.lasting.across b id h k r found);
        raw = raw;
      })
      (λ lv. inl (volumes_same facts f lv is)) kept

pub disk_entry_keeps : DiskEntryKeeps
disk_entry_keeps c facts f is raw kept = of_disks c facts f is raw kept

-- ---- entries that take nothing away

-- a block of a disk may have what it might
raw_more : (c : Contents) (facts : List Fact) (f : Fact) → ((k : Known) (d b : ℕ) (x : Sector) → May (cut b k) x → May (cut b (change f (Disk d) b k)) x) → ((d : ℕ) → source f (Disk d) ≡ Disk d)
    → RawAgrees c facts → RawAgrees c (facts ++ f ∷ [])
raw_more c facts f more own raw d b there none low high =
    let was : May (cut b (known facts (Disk d) b)) (c.block d b) = subst (λ (k : Known). May k (c.block d b)) (known-push facts Cut (Disk d) b) (raw d b there none low high) in
    let is : known (facts ++ f ∷ []) (Disk d) b ≡ change f (Disk d) b (known facts (Disk d) b) = known-push facts f (Disk d) b ∙ ap (λ (v : Vol). change f (Disk d) b (known facts v b)) (own d) in
    subst (λ (k : Known). May k (c.block d b)) (sym (known-push (facts ++ f ∷ []) Cut (Disk d) b ∙ ap (cut b) is)) (more (known facts (Disk d) b) d b (c.block d b) was)

unknown_after : (t : Bool) (k : Known) (b : ℕ) (x : Sector) → May (cut b k) x → May (cut b (if t then record k { values = None; open_writes = []; loose = false } else k)) x
unknown_after true k b x may = tt
unknown_after false k b x may = may

again : (k : Known) (b : ℕ) (x : Sector) → IsValue (cut b k) x → IsValue (cut b (cut b k)) x
again k b x is = by_values (cut b k).values is
  where
    by_values : (values : Option (List Sector)) → IsSomeAnd values (λ vs. IsInList x vs) → IsSomeAnd (also [] values) (λ vs. IsInList x vs)
    by_values None is = is
    by_values (Some vs) is = one_left_of x vs [] is

again_may : (k : Known) (b : ℕ) (x : Sector) → May (cut b k) x → May (cut b (cut b k)) x
again_may k b x is = also_adds [] (cut b k).values x is

again_loose : (l o : Bool) → IsTrue l → IsTrue (l || (o && false))
again_loose true o is = refl
again_loose false o is = absurd cc

twice : (facts : List Fact) (vol : Vol) (b : ℕ) → known ((facts ++ Cut ∷ []) ++ Cut ∷ []) vol b ≡ cut b (cut b (known facts vol b))
twice facts vol b = known-push (facts ++ Cut ∷ []) Cut vol b ∙ ap (cut b) (known-push facts Cut vol b)

cut_more : (facts : List Fact) → OnlyAllowsMore facts Cut
cut_more facts = record {
  may = λ lv b value is. subst (λ (k : Known). IsValue k value) (sym (twice facts (Lv lv) b)) (again (known facts (Lv lv) b) b value (subst (λ (k : Known). IsValue k value) (known-push facts Cut (Lv lv) b) is));
  raw = λ d b value is. subst (λ (k : Known). May k value) (sym (twice facts (Disk d) b)) (again_may (known facts (Disk d) b) b value (subst (λ (k : Known). May k value) (known-push facts Cut (Disk d) b) is));
  loose = λ lv b is. subst (λ (k : Known). IsTrue k.loose) (sym (twice facts (Lv lv) b))
      (again_loose (cut b (known facts (Lv lv) b)).loose (is_off (known facts (Lv lv) b).mode) (subst (λ (k : Known). IsTrue k.loose) (known-push facts Cut (Lv lv) b) is));
}

pub cut_keeps : (c : Contents) (facts : List Fact) → Kept c facts → Kept c (facts ++ Cut ∷ [])
cut_keeps c facts kept = entry_keeps c facts Cut (more_is_kept c facts Cut (cut_more facts) kept) (λ lv. inl (ap (λ (v : ℕ → Volume). v lv) (volumes-append no_volumes facts (Cut ∷ [])))) kept

pub quiet_entry_keeps : QuietEntryKeeps
quiet_entry_keeps c facts (Begun r) is kept = of_disks c facts (Begun r) is (more_is_kept c facts (Begun r) (beginning_more facts r) kept).raw kept
quiet_entry_keeps c facts (Removing vol) is kept = of_disks c facts (Removing vol) is (raw_more c facts (Removing vol) (λ k d b x may. may) (λ d. refl) kept.agrees.raw) kept
quiet_entry_keeps c facts (Removed vol) is kept = of_disks c facts (Removed vol) is (raw_more c facts (Removed vol) (λ k d b x may. unknown_after (same_vol vol (Disk d)) k b x may) (λ d. refl) kept.agrees.raw) kept
quiet_entry_keeps c facts (Taken r) is kept = of_disks c facts (Taken r) is (raw_more c facts (Taken r) (λ k d b x may. may) (λ d. refl) kept.agrees.raw) kept
quiet_entry_keeps c facts (On moment) is kept = of_disks c facts (On moment) is (raw_more c facts (On moment) (λ k d b x may. may) (λ d. refl) kept.agrees.raw) kept
quiet_entry_keeps c facts Cut is kept = cut_keeps c facts kept
quiet_entry_keeps c facts _ is kept = absurd is

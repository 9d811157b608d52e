-- What an entry changes of the agreement.
use Rattle.std.proofs.Common.{◌≡◌, ◌⊎◌, inl, inr, ⊎_elim, ℕ, Bool, true, false, ◌&&◌, ◌||◌, List, [], ◌∷◌, ◌++◌, map, Option, Some, None, refl, sym, ap, subst, ◌∙◌}
use Rattle.std.specs.Prelude.{IsTrue, if◌then◌else◌, ◌==◌, IsSomeAnd, is_some, find}
use Rattle.std.proofs.lemmas.Option.{same_Some}
use Rattle.std.proofs.lemmas.Bool.{eqb-true}
use Rattle.lvm_disk.specs.passed.Num.{Pp, Mode, LvRow, Descriptor, Status, Sector, Disks, volume_of, Stamped, all_disks}
use Rattle.lvm_disk.specs.passed.NumDescriptorMode.{Active, Passive, Off}
use Rattle.lvm_disk.proofs.passed.Num.{all_weaker}
use Rattle.lvm_vol.specs.declared.entry.Vol.{Vol}
use Rattle.lvm_vol.specs.declared.entry.Vol.TheVariants.{Disk, Lv}
use Rattle.lvm_vol.specs.Facts.{Request, Fact, Begun, Cut, IsInList, is_over, block_of}
use Rattle.lvm_vol.specs.May.{Known, known, May, IsValue, also, cut, is_off, is_some_open}
use Rattle.lvm_vol.specs.Standing.{Standing, Absent, Open, Settled, Shape, Volume, no_volumes, volumes_after, volumes_after_fact, volumes_in, put}
use Rattle.lvm_vol.proofs.LawsLemmas.Knowing.{known-push}
use Rattle.lvm_kept.specs.Contents.{Contents}
use Rattle.lvm_kept.specs.Group.{status_among, Finds, members_in, ReadsBy, block_at, fresh_on, IsOneOf, IsSome}
use Rattle.lvm_kept.specs.Kept.{StandsAs, MayDiffer, IsBlockKept, BlocksKept, VolumesAgree, IsSettledIn, IsAvailable, Kept}
use Rattle.lvm_kept.specs.Changes.{OnlyAllowsMore, BlocksStayKept, MoreIsKept, IsFoundByAll, VolumeMayStand, EntryKeeps, BeginningAllowsMore, MayBeginRequest, BeginningStands}
use Rattle.lvm_kept.proofs.MayLemmas.{cut_adds_more, one_more}
use Rattle.lvm_kept.proofs.CommittedLemmas.Finding.{finding_reads}

module _ (c : Contents) (facts : List Fact) (f : Fact) (more : OnlyAllowsMore facts f) where
  abbrev earlier : ℕ → ℕ → Known
  earlier lv b = known (facts ++ Cut ∷ []) (Lv lv) b

  abbrev now : ℕ → ℕ → Known
  now lv b = known ((facts ++ f ∷ []) ++ Cut ∷ []) (Lv lv) b

  differ_more : (status : Option (Stamped Status)) (lv : ℕ) (mode : Mode) (copies : List Pp) (b : ℕ) → MayDiffer c status lv mode copies (earlier lv b) b → MayDiffer c status lv mode copies (now lv b) b
  differ_more status lv Active copies b m = m
  differ_more status lv Passive copies b m = m
  differ_more status lv Off copies b m = more.loose lv b m

  block_more : (mib : ℕ) (status : Option (Stamped Status)) (row : LvRow) (copies : List Pp) (b : ℕ) → IsBlockKept c mib status row copies (earlier row.number b) b → IsBlockKept c mib status row copies (now row.number b) b
  block_more mib status row copies b kept = record {
    allowed = all_weaker (λ p. IsValue (earlier row.number b) (block_at c mib p b)) (λ p. IsValue (now row.number b) (block_at c mib p b)) (λ p v. more.may row.number b (block_at c mib p b) v) copies kept.allowed;
    equal = ⊎_elim (λ one. inl one) (λ (m : MayDiffer c status row.number row.mode copies (earlier row.number b) b). inr (differ_more status row.number row.mode copies b m)) kept.equal;
  }

  blocks_more : (group : Descriptor) (disks : Disks) (status : Option (Stamped Status)) → BlocksKept c facts group disks status → BlocksKept c (facts ++ f ∷ []) group disks status
  blocks_more group disks status blocks row lp b is inside = block_more group.mib status row (fresh_on disks status row lp) b (blocks row lp b is inside)

pub more_is_kept : MoreIsKept
more_is_kept c facts f more kept = record {
  copies = λ disks id group g. blocks_more c facts f more group _ _ (kept.agrees.copies disks id group g);
  across = λ b id h k r is. blocks_more c facts f more k _ _ (kept.lasting.across b id h k r is);
  raw = λ d b there none low high. more.raw d b (c.block d b) (kept.agrees.raw d b there none low high);
}

-- ---- volumes

-- a volume that is found is one of the rows
found_is_row : (p : LvRow → Bool) (rows : List LvRow) (row : LvRow) → find p rows ≡ Some row → IsOneOf rows row
found_is_row p [] row e = absurd cc
found_is_row p (r ∷ rows) row e = by_test (p r) (found_is_row p rows row) e
  where
    by_test : (t : Bool) → (find p rows ≡ Some row → IsOneOf rows row) → (if t then Some r else find p rows) ≡ Some row → IsOneOf (r ∷ rows) row
    by_test true rest is = inl (sym (same_Some r row is))
    by_test false rest is = inr (rest is)

pub volume_is_row : (group : Descriptor) (lv : ℕ) (row : LvRow) → volume_of group lv ≡ Some row → IsOneOf group.lvs row
volume_is_row group lv row e = found_is_row (λ (x : LvRow). x.number == lv) group.lvs row e

-- an open volume that is there is a settled one
stands_settled : (mib : ℕ) (shape : Option Shape) (o : Option LvRow) → IsTrue (is_some o) → StandsAs mib Open shape o → StandsAs mib Settled shape o
stands_settled mib shape None some stands = absurd cc
stands_settled mib shape (Some row) some stands = stands

-- a volume may be open, however it stood
stands_open : (mib : ℕ) (standing : Standing) (shape : Option Shape) (o : Option LvRow) → StandsAs mib standing shape o → StandsAs mib Open shape o
stands_open mib Settled shape (Some row) stands = stands
stands_open mib Settled shape None stands = tt
stands_open mib Open shape (Some row) stands = stands
stands_open mib Open shape None stands = tt
stands_open mib Absent shape (Some row) stands = absurd stands
stands_open mib Absent shape None stands = tt

-- one that is found nowhere may stand in any way but settled
pub stands_unfound : (mib : ℕ) (standing : Standing) (shape : Option Shape) (o : Option LvRow) → o ≡ None → (standing ≡ Settled → ⊥) → StandsAs mib standing shape o
stands_unfound mib Settled shape o none not = absurd (not refl)
stands_unfound mib Open shape None none not = tt
stands_unfound mib Open shape (Some row) none not = absurd cc
stands_unfound mib Absent shape None none not = tt
stands_unfound mib Absent shape (Some row) none not = absurd cc

module _ (c : Contents) (facts : List Fact) (f : Fact) (stays : BlocksStayKept c facts f) (stand : (lv : ℕ) → VolumeMayStand c lv (volumes_in facts lv) (volumes_in (facts ++ f ∷ []) lv)) (kept : Kept c facts) where
  volumes_agree : VolumesAgree c (facts ++ f ∷ [])
  volumes_agree disks id group g lv =
      let was : StandsAs group.mib (volumes_in facts lv).standing (volumes_in facts lv).shape (volume_of group lv) = kept.agrees.volumes disks id group g lv in
      let as_stands : (v : Volume) → volumes_in (facts ++ f ∷ []) lv ≡ v → StandsAs group.mib v.standing v.shape (volume_of group lv)
      → StandsAs group.mib (volumes_in (facts ++ f ∷ []) lv).standing (volumes_in (facts ++ f ∷ []) lv).shape (volume_of group lv) =
      λ v is stands. subst (λ (w : Volume). StandsAs group.mib w.standing w.shape (volume_of group lv)) (sym is) stands in
      ⊎_elim
      (λ same. as_stands (volumes_in facts lv) same was)
      (⊎_elim
      (λ settles. as_stands (record (volumes_in facts lv) { standing = Settled }) settles.1 (stands_settled group.mib (volumes_in facts lv).shape (volume_of group lv) (settles.2.there id group (disks, g))
      (subst (λ (s : Standing). StandsAs group.mib s (volumes_in facts lv).shape (volume_of group lv)) settles.0 was)))
      (⊎_elim
      (λ opens. as_stands (record (volumes_in facts lv) { standing = Open }) opens (stands_open group.mib (volumes_in facts lv).standing (volumes_in facts lv).shape (volume_of group lv) was))
      (λ unfound. stands_unfound group.mib (volumes_in (facts ++ f ∷ []) lv).standing (volumes_in (facts ++ f ∷ []) lv).shape (volume_of group lv) (unfound.1 id group (disks, g)) unfound.0)))
      (stand lv)

  -- each group that all disks find has a fresh copy of each logical partition
  found_available : (id : ℕ) (group : Descriptor) → Finds c all_disks id group → IsAvailable c (facts ++ f ∷ [])
  found_available id group found =
      let reads : ReadsBy c all_disks id group = finding_reads c all_disks id group found in
      record {
        id = id;
        group = group;
        found = found;
        copies = λ l lp row settled is inside.
            subst (λ (v : Disks). IsSome (fresh_on v (status_among c all_disks id) row lp)) (sym reads.voters)
            (subst (λ (s : Option (Stamped Status)). IsSome (fresh_on (members_in c all_disks id group) s row lp)) (sym reads.status)
            (kept.lasting.some all_disks id group group reads.reads (all_disks, found) row lp (volume_is_row group l row is) inside));
      }

  still_available : (lv : ℕ) → IsSettledIn (facts ++ f ∷ []) lv → IsAvailable c (facts ++ f ∷ [])
  still_available lv settled = ⊎_elim
      (λ same. let a : IsAvailable c facts = kept.agrees.available lv (ap (λ (v : Volume). v.standing) (sym same) ∙ settled) in found_available a.id a.group a.found)
      (⊎_elim
      (λ settles. found_available settles.2.id settles.2.group settles.2.found)
      (⊎_elim
      (λ opens. absurd (not_settled (ap (λ (v : Volume). v.standing) (sym opens) ∙ settled)))
      (λ unfound. absurd (unfound.0 settled))))
      (stand lv)
    where
      not_settled : Open ≡ Settled → ⊥
      not_settled e = absurd cc

  pub kept_by : Kept c (facts ++ f ∷ [])
  kept_by = record {
    agrees = record {
      volumes = volumes_agree;
      status = kept.agrees.status;
      copies = stays.copies;
      raw = stays.raw;
      available = still_available;
    };
    lasting = record {
      common = kept.lasting.common;
      status = kept.lasting.status;
      across = stays.across;
      some = kept.lasting.some;
      size = kept.lasting.size;
      partitions = kept.lasting.partitions;
      descriptors = kept.lasting.descriptors;
      statuses = kept.lasting.statuses;
    };
  }

pub entry_keeps : EntryKeeps
entry_keeps c facts f stays stand kept = kept_by c facts f stays stand kept

-- ---- a request begins

abbrev begun : Request → Bool → Known → Known
begun r t k = if t then record k { open_writes = r ∷ k.open_writes } else k

may_more : (r : Request) (b : ℕ) (t : Bool) (k : Known) (x : Sector) → May (cut b k) x → May (cut b (begun r t k)) x
may_more r b true k x may = cut_adds_more k.values r k.open_writes b x may
may_more r b false k x may = may

also_more : (values : Option (List Sector)) (ys : List Sector) (y x : Sector) → IsSomeAnd (also ys values) (λ vs. IsInList x vs) → IsSomeAnd (also (y ∷ ys) values) (λ vs. IsInList x vs)
also_more None ys y x is = is
also_more (Some vs) ys y x is = one_more x vs ys y is

value_more : (r : Request) (b : ℕ) (t : Bool) (k : Known) (x : Sector) → IsValue (cut b k) x → IsValue (cut b (begun r t k)) x
value_more r b true k x is = also_more k.values (map (λ (s : Request). block_of s.blocks s.at b) k.open_writes) (block_of r.blocks r.at b) x is
value_more r b false k x is = is

loose_more : (r : Request) (b : ℕ) (t : Bool) (k : Known) → IsTrue (cut b k).loose → IsTrue (cut b (begun r t k)).loose
loose_more r b false k is = is
loose_more r b true k is = by_cases k.loose (is_off k.mode) k.open_writes is
  where
    by_cases : (l o : Bool) (rs : List Request) → l || (o && is_some_open rs) ≡ true → l || (o && true) ≡ true
    by_cases true o rs e = refl
    by_cases false true rs e = refl
    by_cases false false rs e = absurd cc

volumes-append : (volumes : ℕ → Volume) (facts more : List Fact) → volumes_after volumes (facts ++ more) ≡ volumes_after (volumes_after volumes facts) more
volumes-append volumes [] more = refl
volumes-append volumes (g ∷ facts) more = volumes-append (volumes_after_fact g volumes) facts more

after : (facts : List Fact) (r : Request) (vol : Vol) (b : ℕ) → known ((facts ++ Begun r ∷ []) ++ Cut ∷ []) vol b ≡ cut b (begun r (r.write && is_over r vol b) (known facts vol b))
after facts r vol b = known-push (facts ++ Begun r ∷ []) Cut vol b ∙ ap (cut b) (known-push facts (Begun r) vol b)

pub beginning_more : BeginningAllowsMore
beginning_more facts r = record {
  may = λ lv b value is. subst (λ (k : Known). IsValue k value) (sym (after facts r (Lv lv) b)) (value_more r b _ (known facts (Lv lv) b) value (subst (λ (k : Known). IsValue k value) (known-push facts Cut (Lv lv) b) is));
  raw = λ d b value is. subst (λ (k : Known). May k value) (sym (after facts r (Disk d) b)) (may_more r b _ (known facts (Disk d) b) value (subst (λ (k : Known). May k value) (known-push facts Cut (Disk d) b) is));
  loose = λ lv b is. subst (λ (k : Known). IsTrue k.loose) (sym (after facts r (Lv lv) b)) (loose_more r b _ (known facts (Lv lv) b) (subst (λ (k : Known). IsTrue k.loose) (known-push facts Cut (Lv lv) b) is));
}

volumes_now : (facts : List Fact) (r : Request) (lv : ℕ) → volumes_in (facts ++ Begun r ∷ []) lv ≡ put r.vol Settled (volumes_in facts) lv
volumes_now facts r lv = ap (λ (v : ℕ → Volume). v lv) (volumes-append no_volumes facts (Begun r ∷ []))

pub put_settled : (c : Contents) (vol : Vol) (volumes : ℕ → Volume) (lv : ℕ) → ((n : ℕ) → vol ≡ Lv n → ((volumes n).standing ≡ Settled) ⊎ (((volumes n).standing ≡ Open) × IsFoundByAll c n)) → VolumeMayStand c lv (volumes lv) (put vol Settled volumes lv)
put_settled c (Disk n) volumes lv may = inl refl
put_settled c (Lv n) volumes lv may = by_test (n == lv) refl
  where
    by_test : (t : Bool) → (n == lv) ≡ t → VolumeMayStand c lv (volumes lv) (if t then record (volumes lv) { standing = Settled } else volumes lv)
    by_test false is = inl refl
    by_test true is =
        let same : n ≡ lv = eqb-true n lv is in
        ⊎_elim
        (λ (settled : (volumes lv).standing ≡ Settled). inl (λ i. record (volumes lv) { standing = sym settled i }))
        (λ (is_open : ((volumes lv).standing ≡ Open) × IsFoundByAll c lv). inr (inl (is_open.0, refl, is_open.1)))
        (subst (λ (m : ℕ). ((volumes m).standing ≡ Settled) ⊎ (((volumes m).standing ≡ Open) × IsFoundByAll c m)) same (may n refl))

pub beginning_stands : BeginningStands
beginning_stands c facts r may lv = subst (λ (v : Volume). VolumeMayStand c lv (volumes_in facts lv) v) (sym (volumes_now facts r lv)) (put_settled c r.vol (volumes_in facts) lv (on r.vol may))
  where
    on : (vol : Vol) → MayBeginRequest c facts vol → (n : ℕ) → vol ≡ Lv n → ((volumes_in facts n).standing ≡ Settled) ⊎ (((volumes_in facts n).standing ≡ Open) × IsFoundByAll c n)
    on (Disk d) is n same = absurd cc
    on (Lv m) is n same = let e : m ≡ n = cc in subst (λ (l : ℕ). ((volumes_in facts l).standing ≡ Settled) ⊎ (((volumes_in facts l).standing ≡ Open) × IsFoundByAll c l)) e is

-- Entries of volumes keep what the disks show, and zeros serve.
use Rattle.std.proofs.Common.{◌≡◌, inl, inr, ℕ, Bool, true, false, ◌&&◌, List, [], ◌∷◌, ◌++◌, Option, Some, None, refl, sym, ap, subst, ◌∙◌, eq-eqb}
use Rattle.std.specs.Prelude.{IsTrue, ◌==◌, not, nat_lt, if◌then◌else◌, filter, find, is_some}
use Rattle.std.specs.List.{AllByRecursion}
use Rattle.std.proofs.lemmas.Bool.{eqb-true}
use Rattle.lvm_num.specs.declared.place.Pp.{Pp}
use Rattle.lvm_num.specs.declared.descriptor.LvRow.{LvRow}
use Rattle.lvm_num.specs.declared.descriptor.Descriptor.{Descriptor}
use Rattle.lvm_num.specs.declared.status.Status.{Status}
use Rattle.lvm_num.specs.Buffer.{Sector, zero_sector}
use Rattle.lvm_num.specs.Disks.{Disks}
use Rattle.lvm_num.specs.Descriptor.{copies_of}
use Rattle.lvm_num.specs.Votes.{all_disks}
use Rattle.lvm_num.specs.Record.{Stamped}
use Rattle.lvm_num.specs.Status.{calls_stale}
use Rattle.lvm_num.proofs.Booleans.{first_alone}
use Rattle.lvm_vol.specs.declared.entry.Vol.{Vol}
use Rattle.lvm_vol.specs.declared.entry.Vol.TheVariants.{Disk, Lv}
use Rattle.lvm_vol.specs.Facts.{Fact, Making, Made, Removing, Removed, Cut}
use Rattle.lvm_vol.specs.May.{Known, known, May, IsValue, cut}
use Rattle.lvm_vol.specs.Laws.{is_about}
use Rattle.lvm_vol.specs.Standing.{Absent, Open, Settled, Volume, no_volumes, volumes_after_fact, volumes_in, put}
use Rattle.lvm_vol.proofs.LawsLemmas.Knowing.{known-push, others_stay}
use Rattle.lvm_kept.specs.Contents.{Contents}
use Rattle.lvm_kept.specs.Group.{IsFound, members_in, status_by, is_stale_by, fresh_on, block_at, IsOneOf, IsSome}
use Rattle.lvm_kept.specs.Kept.{IsBlockKept, BlocksKept, Kept}
use Rattle.lvm_kept.specs.Changes.{OnlyAllowsMore, IsFoundByAll, IsFoundByNone, VolumeMayStand}
use Rattle.lvm_kept.proofs.ChangesLemmas.Entries.{entry_keeps, more_is_kept, put_settled}
use Rattle.lvm_steps.specs.VolumeEntries.{VolumeBegins, VolumeIsMade, VolumeGoes, VolumeIsGone, ZerosServe}
use Rattle.lvm_steps.proofs.EntriesLemmas.{volumes-append}
use Rattle.lvm_steps.proofs.VaryingOnLemmas.VaryingOn.{goes_in}
use Rattle.lvm_steps.proofs.RecordLemmas.{clash}

-- how volumes stand after one entry more
stands_after : (facts : List Fact) (f : Fact) (lv : ℕ) → volumes_in (facts ++ f ∷ []) lv ≡ volumes_after_fact f (volumes_in facts) lv
stands_after facts f lv = ap (λ (v : ℕ → Volume). v lv) (volumes-append no_volumes facts (f ∷ []))

-- what is known of a block that an entry isn't about
stays : (facts : List Fact) (f : Fact) (vol : Vol) (b : ℕ) → is_about f vol b ≡ false → known ((facts ++ f ∷ []) ++ Cut ∷ []) vol b ≡ known (facts ++ Cut ∷ []) vol b
stays facts f vol b apart = known-push (facts ++ f ∷ []) Cut vol b ∙ ap (cut b) (others_stay facts f vol b apart) ∙ sym (known-push facts Cut vol b)

-- an entry about no block
about_none : (facts : List Fact) (f : Fact) → ((vol : Vol) (b : ℕ) → is_about f vol b ≡ false) → OnlyAllowsMore facts f
about_none facts f apart = record {
  may = λ lv b value is. subst (λ (k : Known). IsValue k value) (sym (stays facts f (Lv lv) b (apart (Lv lv) b))) is;
  raw = λ d b value is. subst (λ (k : Known). May k value) (sym (stays facts f (Disk d) b (apart (Disk d) b))) is;
  loose = λ lv b is. subst (λ (k : Known). IsTrue k.loose) (sym (stays facts f (Lv lv) b (apart (Lv lv) b))) is;
}

pub volume_is_made : VolumeIsMade
volume_is_made c facts lv is_open by_all kept = entry_keeps c facts (Made lv) (more_is_kept c facts (Made lv) (about_none facts (Made lv) (λ vol b. refl)) kept)
    (λ n. subst (λ (v : Volume). VolumeMayStand c n (volumes_in facts n) v) (sym (stands_after facts (Made lv) n)) (put_settled c (Lv lv) (volumes_in facts) n (λ m same. let e : lv ≡ m = cc in
    inr (subst (λ (k : ℕ). (volumes_in facts k).standing ≡ Open) e is_open, subst (λ (k : ℕ). IsFoundByAll c k) e by_all))))
    kept

put_open : (c : Contents) (lv : ℕ) (volumes : ℕ → Volume) (n : ℕ) → VolumeMayStand c n (volumes n) (put (Lv lv) Open volumes n)
put_open c lv volumes n = by_test (lv == n)
  where
    by_test : (t : Bool) → VolumeMayStand c n (volumes n) (if t then record (volumes n) { standing = Open } else volumes n)
    by_test true = inr (inr (inl refl))
    by_test false = inl refl

pub volume_goes : VolumeGoes
volume_goes c facts lv kept = entry_keeps c facts (Removing (Lv lv)) (more_is_kept c facts (Removing (Lv lv)) (about_none facts (Removing (Lv lv)) (λ vol b. refl)) kept)
    (λ n. subst (λ (v : Volume). VolumeMayStand c n (volumes_in facts n) v) (sym (stands_after facts (Removing (Lv lv)) n)) (put_open c lv (volumes_in facts) n))
    kept

-- ---- a volume that no quorum finds

not_there : (rows : List LvRow) (row : LvRow) (lv : ℕ) → IsOneOf rows row → row.number ≡ lv → find (λ (r : LvRow). r.number == lv) rows ≡ None → ⊥
not_there [] row lv one its none = one
not_there (r ∷ rows) row lv one its none = by_test (r.number == lv) refl (not_there rows row lv) none one
  where
    by_test : (t : Bool) → (r.number == lv) ≡ t → (IsOneOf rows row → row.number ≡ lv → find (λ (x : LvRow). x.number == lv) rows ≡ None → ⊥)
        → (if t then Some r else find (λ (x : LvRow). x.number == lv) rows) ≡ None → IsOneOf (r ∷ rows) row → ⊥
    by_test true is rest none one = absurd cc
    by_test false isnt rest none (inl here) = clash (r.number == lv) (eq-eqb r.number lv (ap (λ (x : LvRow). x.number) (sym here) ∙ its)) isnt
    by_test false isnt rest none (inr there) = rest there its none

module _ (c : Contents) (facts : List Fact) (f : Fact) (lv : ℕ) (none : IsFoundByNone c lv) (kept : Kept c facts)
    (about : (number b : ℕ) → (number ≡ lv → ⊥) → is_about f (Lv number) b ≡ false) (about_disk : (d b : ℕ) → is_about f (Disk d) b ≡ false)
    (stand : (n : ℕ) → VolumeMayStand c n (volumes_in facts n) (volumes_after_fact f (volumes_in facts) n)) where
  same_blocks : (id : ℕ) (group : Descriptor) → IsFound c id group → (disks : Disks) (status : Option (Stamped Status)) → BlocksKept c facts group disks status → BlocksKept c (facts ++ f ∷ []) group disks status
  same_blocks id group is disks status blocks row lp b one inside =
      subst (λ (k : Known). IsBlockKept c group.mib status row (fresh_on disks status row lp) k b)
      (sym (stays facts f (Lv row.number) b (about row.number b (λ its. not_there group.lvs row lv one its (none id group is))))) (blocks row lp b one inside)

  pub of_unfound : Kept c (facts ++ f ∷ [])
  of_unfound = entry_keeps c facts f
      (record {
        copies = λ disks id group found. same_blocks id group (disks, found) _ _ (kept.agrees.copies disks id group found);
        across = λ b id h k r is. same_blocks id k is _ _ (kept.lasting.across b id h k r is);
        raw = λ d b there shows low high. subst (λ (k : Known). May k (c.block d b)) (sym (stays facts f (Disk d) b (about_disk d b))) (kept.agrees.raw d b there shows low high);
      })
      (λ n. subst (λ (v : Volume). VolumeMayStand c n (volumes_in facts n) v) (sym (stands_after facts f n)) (stand n))
      kept

other_number : (lv number : ℕ) → (number ≡ lv → ⊥) → (lv == number) ≡ false
other_number lv number differ = by_test (lv == number) refl
  where
    by_test : (t : Bool) → (lv == number) ≡ t → t ≡ false
    by_test true is = absurd (differ (sym (eqb-true lv number is)))
    by_test false is = refl

open_isnt : Open ≡ Settled → ⊥
open_isnt e = absurd cc

absent_isnt : Absent ≡ Settled → ⊥
absent_isnt e = absurd cc

pub volume_begins : VolumeBegins
volume_begins c facts lv blocks mode none kept = of_unfound c facts (Making lv blocks mode) lv none kept
    (λ number b differ. ap (λ (t : Bool). t && nat_lt b blocks) (other_number lv number differ)) (λ d b. refl) stand
  where
    stand : (n : ℕ) → VolumeMayStand c n (volumes_in facts n) (volumes_after_fact (Making lv blocks mode) (volumes_in facts) n)
    stand n = by_test (lv == n) refl
      where
        by_test : (t : Bool) → (lv == n) ≡ t → VolumeMayStand c n (volumes_in facts n) (if t then record { standing = Open; shape = Some (record { blocks = blocks; mode = mode }) } else volumes_in facts n)
        by_test true is = inr (inr (inr (open_isnt, subst (λ (m : ℕ). IsFoundByNone c m) (eqb-true lv n is) none)))
        by_test false is = inl refl

pub volume_is_gone : VolumeIsGone
volume_is_gone c facts lv none kept = of_unfound c facts (Removed (Lv lv)) lv none kept (λ number b differ. other_number lv number differ) (λ d b. refl) stand
  where
    stand : (n : ℕ) → VolumeMayStand c n (volumes_in facts n) (volumes_after_fact (Removed (Lv lv)) (volumes_in facts) n)
    stand n = by_test (lv == n) refl
      where
        by_test : (t : Bool) → (lv == n) ≡ t → VolumeMayStand c n (volumes_in facts n) (if t then record (volumes_in facts n) { standing = Absent } else volumes_in facts n)
        by_test true is = inr (inr (inr (absent_isnt, subst (λ (m : ℕ). IsFoundByNone c m) (eqb-true lv n is) none)))
        by_test false is = inl refl

-- ---- zeros

each_passing : {X : Type 0} (P : X → Type 0) (q : X → Bool) (xs : List X) → ((x : X) → IsOneOf xs x → P x) → AllByRecursion P (filter q xs)
each_passing P q [] each = tt
each_passing P q (x ∷ xs) each = by_test (q x) (each_passing P q xs (λ y is. each y (inr is)))
  where
    by_test : (t : Bool) → AllByRecursion P (filter q xs) → AllByRecursion P (if t then x ∷ filter q xs else filter q xs)
    by_test true rest = (each x (inl refl), rest)
    by_test false rest = rest

pub zeros_serve : ZerosServe
zeros_serve c facts group row are = record {
  status = λ b k reads. ap is_some (are.found b k reads).1;
  blocks = λ b k reads lp n inside.
      let s : Option (Stamped Status) = status_by c b group.id k in
      let test : Pp → Bool = λ p. members_in c all_disks group.id group p.disk && not (is_stale_by s p) in
      record {
        allowed = each_passing (λ (p : Pp). IsValue (known (facts ++ Cut ∷ []) (Lv row.number) n) (block_at c group.mib p n)) test (copies_of row lp)
            (λ p one. subst (λ (x : Sector). IsValue (known (facts ++ Cut ∷ []) (Lv row.number) n) x) (sym (are.zeros lp n p one inside)) (are.allowed lp n inside));
        equal = inl (zero_sector, each_passing (λ (p : Pp). block_at c group.mib p n ≡ zero_sector) test (copies_of row lp) (λ p one. are.zeros lp n p one inside));
      };
  some = λ b k reads lp inside.
      let found = are.found b k reads in
      let one = found.2 lp inside in
      subst (λ (s : Option (Stamped Status)). IsSome (fresh_on (members_in c all_disks group.id group) s row lp)) (sym found.1)
      (goes_in (λ (p : Pp). members_in c all_disks group.id group p.disk && not (calls_stale found.0.value p)) (copies_of row lp) one.0 one.1
      (first_alone (members_in c all_disks group.id group one.0.disk) (calls_stale found.0.value one.0) one.2 one.3));
}

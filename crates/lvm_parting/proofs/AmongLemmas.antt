-- A descriptor that differs in some volumes keeps the history.
use Rattle.std.proofs.Common.{◌≡◌, ◌⊎◌, inl, inr, ⊎_elim, ℕ, ◌<◌, true, ◌&&◌, List, [], ◌∷◌, ◌++◌, Option, Some, None, refl, sym, ap, subst, ◌∙◌, eq-eqb}
use Rattle.std.specs.Prelude.{IsTrue, IsFalse, Bool, ◌==◌, is_some}
use Rattle.std.proofs.lemmas.Option.{same_Some}
use Rattle.std.proofs.lemmas.Bool.{cases_Bool, eqb-true}
use Rattle.lvm_num.specs.declared.record.Stamp.{Stamp}
use Rattle.lvm_num.specs.declared.descriptor.PvRow.{PvRow}
use Rattle.lvm_num.specs.declared.descriptor.LvRow.{LvRow}
use Rattle.lvm_num.specs.declared.descriptor.Descriptor.{Descriptor}
use Rattle.lvm_num.specs.declared.status.Status.{Status}
use Rattle.lvm_num.specs.Disks.{Disks}
use Rattle.lvm_num.specs.Descriptor.{member_of, volume_of}
use Rattle.lvm_num.specs.Votes.{all_disks}
use Rattle.lvm_num.specs.Record.{Stamped, stamp_lt}
use Rattle.lvm_vol.specs.declared.entry.Vol.TheVariants.{Lv}
use Rattle.lvm_vol.specs.Facts.{Fact, Cut}
use Rattle.lvm_vol.specs.May.{Known, known}
use Rattle.lvm_vol.specs.Standing.{volumes_in}
use Rattle.lvm_kept.specs.Contents.{Contents}
use Rattle.lvm_kept.specs.Group.{passes, is_of, has_room, is_voter, status_among, Finds, IsFound, members_in, status_by, ReadsGroup, ReadsBy, fresh_on, IsBlockOf, IsOneOf, IsSome}
use Rattle.lvm_kept.specs.Committed.{IsWithinDisks}
use Rattle.lvm_kept.specs.Kept.{StandsAs, HasStatus, IsBlockKept, BlocksKept, IsSettledIn, IsAvailable, Kept}
use Rattle.lvm_kept.proofs.CommittedLemmas.Finding.{finding_reads}
use Rattle.lvm_kept.proofs.ChangesLemmas.Restamping.{fewer_blocks}
use Rattle.lvm_kept.proofs.ChangesLemmas.Entries.{volume_is_row}
use Rattle.lvm_kept.proofs.KeptLemmas.{same_block}
use Rattle.lvm_steps.specs.Committing.{VolumeIsServed}
use Rattle.lvm_parting.specs.Among.{CommitAmongKeeps, OneIsAmong}
use Rattle.lvm_steps.proofs.GroupLemmas.Revaluing.{new, h, mid, mid_kept, mid_reads, mid_status, mid_members, Behind, behind, members_same, status_same, reads_behind, still_found}
use Rattle.lvm_steps.proofs.RecordLemmas.{split, join, not-itself, clash}

-- where one row needs a status, there is one
one_needs : (rows : List LvRow) (s : Option (Stamped Status)) (row : LvRow) → IsOneOf rows row → HasStatus rows s → IsTrue (is_some s)
one_needs [] s row one has = absurd one
one_needs (r ∷ rows) s row one has = has

each_has : (rows : List LvRow) (s : Option (Stamped Status)) → ((row : LvRow) → IsOneOf rows row → IsTrue (is_some s)) → HasStatus rows s
each_has [] s each = tt
each_has (r ∷ rows) s each = each r (inl refl)

module _ (old : Contents) (shown : ℕ → Option (Stamped Descriptor)) (g : Descriptor) (n : Stamp) (rows : List LvRow)
    (own : (d : ℕ) → (shown d ≡ old.descriptor d) ⊎ ((shown d ≡ Some (record { stamp = n; value = record g { lvs = rows } })) × IsTrue (passes (is_of g.id) (old.descriptor d))))
    (later : (d : ℕ) (r : Stamped Descriptor) → old.descriptor d ≡ Some r → r.value.id ≡ g.id → stamp_lt r.stamp n ≡ true)
    (found : IsFound old g.id g) (within : IsWithinDisks old)
    (facts : List Fact) (kept : Kept old facts) (among : ℕ → Bool)
    (others : (row : LvRow) → IsOneOf rows row → IsFalse (among row.number) → IsOneOf g.lvs row)
    (volumes : (number : ℕ) → IsFalse (among number) → volume_of (record g { lvs = rows }) number ≡ volume_of g number)
    (stands : (lv : ℕ) → IsTrue (among lv) → StandsAs g.mib (volumes_in facts lv).standing (volumes_in facts lv).shape (volume_of (record g { lvs = rows }) lv))
    (served : (row : LvRow) → IsOneOf rows row → IsTrue (among row.number) → VolumeIsServed old facts g row) where
  abbrev now : Contents
  now = new old shown g n rows own later found within

  abbrev between : Contents
  between = mid old shown g n rows own later found within

  abbrev next : Descriptor
  next = h old shown g n rows own later found within

  abbrev Was : Disks → ℕ → Descriptor → Type 0
  Was b id k = Behind old shown g n rows own later found within b id k

  kept_between : Kept between facts
  kept_between = mid_kept old shown g n rows own later found within facts kept

  was : (b : Disks) (id : ℕ) (k : Descriptor) → Finds now b id k → Was b id k
  was b id k f = behind old shown g n rows own later found within b id k f

  members : (set : Disks) (id : ℕ) (k : Descriptor) (b : Disks) (it : Was b id k) → members_in now set id k ≡ members_in between set id it.was
  members set id k b it = members_same old shown g n rows own later found within set id k it.was it.others it.alike

  status : (set : Disks) (id : ℕ) (k : Descriptor) (b : Disks) (it : Was b id k) → status_by now set id k ≡ status_by between set id it.was
  status set id k b it = status_same old shown g n rows own later found within set id k it.was it.others it.alike

  reads : (b : Disks) (id : ℕ) (k : Descriptor) (r : ReadsGroup now b id k) (it : Was r.found.0 id k) → ReadsGroup between b id it.was
  reads b id k r it = reads_behind old shown g n rows own later found within b id k r it

  -- a row that is found was there, or it is the volume's
  row_was : (b : Disks) (id : ℕ) (k : Descriptor) (it : Was b id k) (row : LvRow) → IsOneOf k.lvs row → IsOneOf it.was.lvs row ⊎ (IsTrue (among row.number) × IsOneOf rows row × (it.was ≡ g) × (id ≡ g.id))
  row_was b id k it row one = ⊎_elim
      (λ (same : k ≡ it.was). inl (subst (λ (x : Descriptor). IsOneOf x.lvs row) same one))
      (λ (is : (k ≡ next) × (it.was ≡ g) × (id ≡ g.id)).
      let named : IsOneOf rows row = subst (λ (x : Descriptor). IsOneOf x.lvs row) is.0 one in
      ⊎_elim
      (λ (its : IsTrue (among row.number)). inr (its, named, is.1, is.2))
      (λ (isnt : IsFalse (among row.number)). inl (subst (λ (x : Descriptor). IsOneOf x.lvs row) (sym is.1) (others row named isnt)))
      (cases_Bool (among row.number)))
      it.how

  -- ---- by any quorum's status

  -- what is asked of a status and of the copies on the members by a descriptor, over what stood
  module _ (b : Disks) (id : ℕ) (x k : Descriptor) (r : ReadsGroup now b id x) (is : IsFound now id k) where
    x_was : Was r.found.0 id x
    x_was = was r.found.0 id x r.found.1

    k_was : Was is.0 id k
    k_was = was is.0 id k is.1

    r_was : ReadsGroup between b id x_was.was
    r_was = reads b id x r x_was

    f_was : IsFound between id k_was.was
    f_was = (is.0, k_was.finds)

    -- of another volume it holds as it held; of this one by what serves it
    by_row : (P : Disks → Option (Stamped Status) → Type 0) (row : LvRow) → IsOneOf k.lvs row
        → (IsOneOf k_was.was.lvs row → P (members_in between all_disks id k_was.was) (status_by between b id x_was.was))
        → ((y : Descriptor) → ReadsGroup old b g.id y → k_was.was ≡ g → VolumeIsServed old facts g row → P (members_in old all_disks g.id g) (status_by old b g.id y))
        → P (members_in now all_disks id k) (status_by now b id x)
    by_row P row one stood serves =
        subst (λ (s : Option (Stamped Status)). P (members_in now all_disks id k) s) (sym (status b id x r.found.0 x_was))
        (subst (λ (v : Disks). P v (status_by between b id x_was.was)) (sym (members all_disks id k is.0 k_was)) (⊎_elim
        stood
        (λ (its : IsTrue (among row.number) × IsOneOf rows row × (k_was.was ≡ g) × (id ≡ g.id)).
        let reads_between : ReadsGroup between b g.id x_was.was = subst (λ (m : ℕ). ReadsGroup between b m x_was.was) its.3 r_was in
        let reads_old : ReadsGroup old b g.id x_was.was = mid_reads old shown g n rows own later found within b g.id x_was.was reads_between in
        let p : P (members_in old all_disks g.id g) (status_by old b g.id x_was.was) = serves x_was.was reads_old its.2 (served row its.1 its.0) in
        let p_status : P (members_in old all_disks g.id g) (status_by between b g.id x_was.was) =
        subst (λ (s : Option (Stamped Status)). P (members_in old all_disks g.id g) s) (sym (mid_status old shown g n rows own later found within b g.id x_was.was)) p in
        let p_members : P (members_in between all_disks g.id g) (status_by between b g.id x_was.was) =
        subst (λ (v : Disks). P v (status_by between b g.id x_was.was)) (sym (mid_members old shown g n rows own later found within all_disks g.id g)) p_status in
        subst (λ (m : ℕ). P (members_in between all_disks m k_was.was) (status_by between b m x_was.was)) (sym its.3)
        (subst (λ (y : Descriptor). P (members_in between all_disks g.id y) (status_by between b g.id x_was.was)) (sym its.2) p_members))
        (row_was is.0 id k k_was row one)))

    has_status : HasStatus k.lvs (status_by now b id x)
    has_status = each_has k.lvs (status_by now b id x) (λ row one. by_row (λ v s. IsTrue (is_some s)) row one
        (λ stood. one_needs k_was.was.lvs (status_by between b id x_was.was) row stood (kept_between.lasting.status b id x_was.was k_was.was r_was f_was))
        (λ y reads_old is_g serves. serves.status b y reads_old))

    some : (row : LvRow) (lp : ℕ) → IsOneOf k.lvs row → lp < row.lps → IsSome (fresh_on (members_in now all_disks id k) (status_by now b id x) row lp)
    some row lp one inside = by_row (λ v s. IsSome (fresh_on v s row lp)) row one
        (λ stood. kept_between.lasting.some b id x_was.was k_was.was r_was f_was row lp stood inside)
        (λ y reads_old is_g serves. serves.some b y reads_old lp inside)

    mib_was : k.mib ≡ k_was.was.mib
    mib_was = ap (λ (y : Descriptor). y.mib) k_was.alike

    across : BlocksKept now facts k (members_in now all_disks id k) (status_by now b id x)
    across row lp m one inside =
        let k_now : Known = known (facts ++ Cut ∷ []) (Lv row.number) m in
        let inside_was : IsBlockOf k_was.was.mib row lp m = subst (λ (mib : ℕ). IsBlockOf mib row lp m) mib_was inside in
        subst (λ (mib : ℕ). IsBlockKept now mib (status_by now b id x) row (fresh_on (members_in now all_disks id k) (status_by now b id x) row lp) k_now m) (sym mib_was)
        (by_row (λ v s. IsBlockKept now k_was.was.mib s row (fresh_on v s row lp) k_now m) row one
        (λ stood. same_block between shown old.status k_was.was.mib _ row _ k_now m (kept_between.lasting.across b id x_was.was k_was.was r_was f_was row lp m stood inside_was))
        (λ y reads_old is_g serves.
        subst (λ (z : Descriptor). IsBlockKept now z.mib (status_by old b g.id y) row (fresh_on (members_in old all_disks g.id g) (status_by old b g.id y) row lp) k_now m) (sym is_g)
        (same_block old shown old.status g.mib _ row _ k_now m (serves.blocks b y reads_old lp m (subst (λ (z : Descriptor). IsBlockOf z.mib row lp m) is_g inside_was)))))

  -- ---- by the set that finds it

  finding : (b : Disks) (id : ℕ) (k : Descriptor) → Finds now b id k → (P : Disks → Option (Stamped Status) → Type 0) → P (members_in now b id k) (status_by now b id k) → P (is_voter now b id) (status_among now b id)
  finding b id k f P p =
      let r : ReadsBy now b id k = finding_reads now b id k f in
      subst (λ (s : Option (Stamped Status)). P (is_voter now b id) s) (sym r.status) (subst (λ (v : Disks). P v (status_by now b id k)) (sym r.voters) p)

  among_all : (set : Disks) (id : ℕ) (k : Descriptor) (d : ℕ) → IsTrue (members_in now set id k d) → IsTrue (members_in now all_disks id k d)
  among_all set id k d is =
      let two = split (set d && passes (is_of id) (shown d)) (has_room now d k) is in
      join (passes (is_of id) (shown d)) (has_room now d k) (split (set d) (passes (is_of id) (shown d)) two.0).1 two.1

  copies : (b : Disks) (id : ℕ) (k : Descriptor) → Finds now b id k → BlocksKept now facts k (is_voter now b id) (status_among now b id)
  copies b id k f = finding b id k f (λ v s. BlocksKept now facts k v s)
      (fewer_blocks now (members_in now b id k) (members_in now all_disks id k) (among_all b id k) facts k (status_by now b id k) (across b id k k (finding_reads now b id k f).reads (b, f)))

  volumes_agree : (b : Disks) (id : ℕ) (k : Descriptor) → Finds now b id k → (number : ℕ) → StandsAs k.mib (volumes_in facts number).standing (volumes_in facts number).shape (volume_of k number)
  volumes_agree b id k f number =
      let it : Was b id k = was b id k f in
      let stood : StandsAs it.was.mib (volumes_in facts number).standing (volumes_in facts number).shape (volume_of it.was number) = kept_between.agrees.volumes b id it.was it.finds number in
      ⊎_elim
      (λ (same : k ≡ it.was). subst (λ (x : Descriptor). StandsAs x.mib (volumes_in facts number).standing (volumes_in facts number).shape (volume_of x number)) (sym same) stood)
      (λ (is : (k ≡ next) × (it.was ≡ g) × (id ≡ g.id)). subst (λ (x : Descriptor). StandsAs x.mib (volumes_in facts number).standing (volumes_in facts number).shape (volume_of x number)) (sym is.0) (⊎_elim
      (λ (its : IsTrue (among number)). stands number its)
      (λ (isnt : IsFalse (among number)). subst (λ (o : Option LvRow). StandsAs g.mib (volumes_in facts number).standing (volumes_in facts number).shape o) (sym (volumes number isnt))
      (subst (λ (x : Descriptor). StandsAs x.mib (volumes_in facts number).standing (volumes_in facts number).shape (volume_of x number)) is.1 stood))
      (cases_Bool (among number))))
      it.how

  available : (number : ℕ) → IsSettledIn facts number → IsAvailable now facts
  available number settled =
      let a : IsAvailable between facts = kept_between.agrees.available number settled in
      let f = still_found old shown g n rows own later found within all_disks a.id a.group a.found in
      record {
        id = a.id;
        group = f.0;
        found = f.1;
        copies = λ l lp row is_settled is inside. finding all_disks a.id f.0 f.1 (λ v s. IsSome (fresh_on v s row lp))
            (some all_disks a.id f.0 f.0 (finding_reads now all_disks a.id f.0 f.1).reads (all_disks, f.1) row lp (volume_is_row f.0 l row is) inside);
      }

  was_found : (id : ℕ) (k : Descriptor) (is : IsFound now id k) → Was is.0 id k
  was_found id k is = was is.0 id k is.1

  common : (a b : Disks) (id : ℕ) (x y : Descriptor) → ReadsGroup now a id x → ReadsGroup now b id y → (d : ℕ) × IsTrue (members_in now a id x d) × IsTrue (members_in now b id y d)
  common a b id x y r s =
      let x_was = was_found id x r.found in
      let y_was = was_found id y s.found in
      let one = kept_between.lasting.common a b id x_was.was y_was.was (reads a id x r x_was) (reads b id y s y_was) in
      (one.0, subst (λ (v : Disks). IsTrue (v one.0)) (sym (members a id x r.found.0 x_was)) one.1, subst (λ (v : Disks). IsTrue (v one.0)) (sym (members b id y s.found.0 y_was)) one.2)

  size : (id : ℕ) (x y : Descriptor) → IsFound now id x → IsFound now id y → x.mib ≡ y.mib
  size id x y is also =
      let x_was = was_found id x is in
      let y_was = was_found id y also in
      ap (λ (z : Descriptor). z.mib) x_was.alike ∙ kept_between.lasting.size id x_was.was y_was.was (is.0, x_was.finds) (also.0, y_was.finds) ∙ sym (ap (λ (z : Descriptor). z.mib) y_was.alike)

  partitions : (id : ℕ) (x y : Descriptor) → IsFound now id x → IsFound now id y → (d : ℕ) (p q : PvRow) → member_of x d ≡ Some p → member_of y d ≡ Some q → p.pps ≡ q.pps
  partitions id x y is also d p q is_p is_q =
      let x_was = was_found id x is in
      let y_was = was_found id y also in
      kept_between.lasting.partitions id x_was.was y_was.was (is.0, x_was.finds) (also.0, y_was.finds) d p q (sym (ap (λ (z : Descriptor). member_of z d) x_was.alike) ∙ is_p) (sym (ap (λ (z : Descriptor). member_of z d) y_was.alike) ∙ is_q)

  -- no record that stood has the new stamp
  other_stamp : (d : ℕ) (r : Stamped Descriptor) → old.descriptor d ≡ Some r → r.value.id ≡ g.id → r.stamp ≡ n → ⊥
  other_stamp d r stood ids stamps = not-itself n (ap (λ (x : Stamp). stamp_lt x n) (sym stamps) ∙ later d r stood ids)

  one_of : (d e : ℕ) (r s : Stamped Descriptor) → shown d ≡ Some r → shown e ≡ Some s → r.value.id ≡ s.value.id → r.stamp ≡ s.stamp → r ≡ s
  one_of d e r s shows also ids stamps = ⊎_elim
      (λ (old_r : shown d ≡ old.descriptor d). ⊎_elim
      (λ (old_s : shown e ≡ old.descriptor e). kept.lasting.descriptors d e r s (sym old_r ∙ shows) (sym old_s ∙ also) ids stamps)
      (λ (new_s : (shown e ≡ Some (record { stamp = n; value = next })) × IsTrue (passes (is_of g.id) (old.descriptor e))).
      let same : s ≡ record { stamp = n; value = next } = same_Some s (record { stamp = n; value = next }) (sym also ∙ new_s.0) in
      absurd (other_stamp d r (sym old_r ∙ shows) (ids ∙ ap (λ (x : Stamped Descriptor). x.value.id) same) (stamps ∙ ap (λ (x : Stamped Descriptor). x.stamp) same)))
      (own e))
      (λ (new_r : (shown d ≡ Some (record { stamp = n; value = next })) × IsTrue (passes (is_of g.id) (old.descriptor d))).
      let same : r ≡ record { stamp = n; value = next } = same_Some r (record { stamp = n; value = next }) (sym shows ∙ new_r.0) in ⊎_elim
      (λ (old_s : shown e ≡ old.descriptor e). absurd (other_stamp e s (sym old_s ∙ also) (sym ids ∙ ap (λ (x : Stamped Descriptor). x.value.id) same) (sym stamps ∙ ap (λ (x : Stamped Descriptor). x.stamp) same)))
      (λ (new_s : (shown e ≡ Some (record { stamp = n; value = next })) × IsTrue (passes (is_of g.id) (old.descriptor e))). same ∙ sym (same_Some s (record { stamp = n; value = next }) (sym also ∙ new_s.0)))
      (own e))
      (own d)

  abbrev written : Stamped Descriptor
  written = record { stamp = n; value = next }

  still_none : (d : ℕ) → shown d ≡ None → old.descriptor d ≡ None
  still_none d none = ⊎_elim (λ (same : shown d ≡ old.descriptor d). sym same ∙ none)
      (λ (put : (shown d ≡ Some (record { stamp = n; value = next })) × IsTrue (passes (is_of g.id) (old.descriptor d))). absurd (let e : Some written ≡ None = sym put.0 ∙ none in cc (e))) (own d)

  pub committed : Kept now facts
  committed = record {
    agrees = record {
      volumes = volumes_agree;
      status = λ b id k f. finding b id k f (λ v s. HasStatus k.lvs s) (has_status b id k k (finding_reads now b id k f).reads (b, f));
      copies = copies;
      raw = λ d b there none low high. kept.agrees.raw d b there (still_none d none) low high;
      available = available;
    };
    lasting = record {
      common = common;
      status = λ b id x k r is. has_status b id x k r is;
      across = λ b id x k r is. across b id x k r is;
      some = λ b id x k r is row lp one inside. some b id x k r is row lp one inside;
      size = size;
      partitions = partitions;
      descriptors = one_of;
      statuses = kept.lasting.statuses;
    };
  }

pub commit_among_keeps : CommitAmongKeeps
commit_among_keeps group among targets next old new facts within may change kept =
    let rows : List LvRow = next.value.lvs in
    let alone : next.value ≡ record group { lvs = rows } = may.differs.alone in
    let next_is : next ≡ record { stamp = next.stamp; value = record group { lvs = rows } } = ap (λ (v : Descriptor). record { stamp = next.stamp; value = v }) alone in
    subst (λ (c : Contents). Kept c facts) (sym change.rest)
    (committed old new.descriptor group next.stamp rows
    (λ d. ⊎_elim (λ same. inl same) (λ (is : IsTrue (targets d) × (new.descriptor d ≡ Some next)). inr (is.1 ∙ ap (λ (r : Stamped Descriptor). Some r) next_is, may.showing d is.0)) (change.own d))
    may.later may.found within facts kept among may.differs.rows
    (λ number isnt. ap (λ (v : Descriptor). volume_of v number) (sym alone) ∙ may.differs.volumes number isnt)
    (λ lv is. subst (λ (v : Descriptor). StandsAs group.mib (volumes_in facts lv).standing (volumes_in facts lv).shape (volume_of v lv)) alone (may.stands lv is))
    may.served)

isnt_of : (n lv : ℕ) → IsFalse (n == lv) → n ≡ lv → ⊥
isnt_of n lv out same = clash (n == lv) (eq-eqb n lv same) out

pub one_is_among : OneIsAmong
one_is_among c facts group lv targets next may = record {
  found = may.found;
  differs = record {
    alone = may.differs.alone;
    rows = λ row one out. may.differs.rows row one (isnt_of row.number lv out);
    volumes = λ number out. may.differs.volumes number (isnt_of number lv out);
  };
  stands = λ n is. subst (λ (m : ℕ). StandsAs group.mib (volumes_in facts m).standing (volumes_in facts m).shape (volume_of next.value m)) (sym (eqb-true n lv is)) may.stands;
  served = λ row one is. may.served row one (eqb-true row.number lv is);
  showing = may.showing;
  later = may.later;
}

-- A status is written while a group turns.
use Rattle.std.proofs.Common.{◌≡◌, ◌⊎◌, inl, inr, ⊎_elim, ℕ, ◌<◌, Bool, true, false, ◌&&◌, List, [], ◌∷◌, ◌++◌, Option, Some, None, refl, sym, ap, subst, ◌∙◌, arith}
use Rattle.std.specs.Prelude.{IsTrue, ◌==◌, not, if◌then◌else◌}
use Rattle.std.proofs.lemmas.Option.{same_Some}
use Rattle.std.proofs.lemmas.Bool.{eqb-true, cases_eq}
use Rattle.std.proofs.lemmas.Bool.Decides.{nat_tests}
use Rattle.lvm_disk.specs.passed.Num.{Stamp, Pp, LvRow, Descriptor, Status, Disks, copies_of, all_disks, CanRead, Stamped, stamp_lt, newest_below}
use Rattle.lvm_disk.proofs.passed.Num.{without_first}
use Rattle.lvm_vol.specs.declared.entry.Vol.TheVariants.{Lv}
use Rattle.lvm_vol.specs.Facts.{Fact, Cut}
use Rattle.lvm_vol.specs.May.{Known, known}
use Rattle.lvm_kept.specs.Contents.{Contents}
use Rattle.lvm_kept.specs.Group.{IsOneOf, if_passes, passes, is_of, is_status_of, has_room, is_voter, status_among, Finds, IsFound, members_in, status_by, ReadsGroup, ReadsBy, is_stale_by, fresh_on, IsBlockOf, IsSome}
use Rattle.lvm_kept.specs.Kept.{HasStatus, IsBlockKept, BlocksKept, IsSettledIn, IsAvailable, Kept}
use Rattle.lvm_kept.proofs.CommittedLemmas.Finding.{finding_reads}
use Rattle.lvm_kept.proofs.ChangesLemmas.Entries.{volume_is_row}
use Rattle.lvm_kept.proofs.ChangesLemmas.Restamping.{fewer_blocks}
use Rattle.lvm_kept.proofs.GroupLemmas.{still_finds, finds_before}
use Rattle.lvm_kept.proofs.KeptLemmas.{same_block}
use Rattle.lvm_change_laws.specs.Turning.{AreTwo, FindsTwo, ReadsTwo, DoesFor, Served, StateTurnKeeps}
use Rattle.lvm_change_laws.proofs.Words.{filter_same}

not-itself : (a : Stamp) → stamp_lt a a ≡ true → ⊥
not-itself a e = grind (arith, nat_tests)

module _ (old : Contents) (status : ℕ → Option (Stamped Status)) (facts : List Fact) (g h : Descriptor) (targets : Disks) (was is : Stamped Status)
    (two : AreTwo g h) (own : (d : ℕ) → (status d ≡ old.status d) ⊎ (IsTrue (targets d) × (status d ≡ Some is)))
    (showing : (d : ℕ) → IsTrue (targets d) → IsTrue (passes (is_of g.id) (old.descriptor d)) ⊎ (old.descriptor d ≡ None))
    (its_id : is.value.id ≡ g.id) (later : (d : ℕ) (r : Stamped Status) → old.status d ≡ Some r → r.value.id ≡ g.id → (stamp_lt r.stamp is.stamp ≡ true) ⊎ (r ≡ is))
    (finds : FindsTwo old g h) (after : ReadsTwo (record old { status = status }) g h was is) (served : Served old facts g was is) (kept : Kept old facts) where
  abbrev new : Contents
  new = record old { status = status }

  abbrev id : ℕ
  id = g.id

  before : (b : Disks) (i : ℕ) (k : Descriptor) → Finds new b i k → Finds old b i k
  before b i k f = finds_before old status old.note old.block b i k f

  behind : (b : Disks) (i : ℕ) (k : Descriptor) → Finds old b i k → Finds new b i k
  behind b i k f = still_finds old status old.note old.block b i k f

  found_before : (i : ℕ) (k : Descriptor) → IsFound new i k → IsFound old i k
  found_before i k f = (f.0, before f.0 i k f.1)

  reads_before : (b : Disks) (i : ℕ) (k : Descriptor) → ReadsGroup new b i k → ReadsGroup old b i k
  reads_before b i k r = record { found = found_before i k r.found; enough = r.enough }

  -- a target is no member of another group
  no_other : (b : Disks) (i : ℕ) (k : Descriptor) (d : ℕ) → (i ≡ id → ⊥) → IsTrue (targets d) → members_in old b i k d ≡ false
  no_other b i k d apart target = ⊎_elim
      (λ (its : IsTrue (passes (is_of id) (old.descriptor d))). fails (passes (is_of i) (old.descriptor d)) (of_other (old.descriptor d) its))
      (λ (none : old.descriptor d ≡ None). fails (passes (is_of i) (old.descriptor d)) (ap (passes (is_of i)) none))
      (showing d target)
    where
      by_tests : (p q r : Bool) → q ≡ false → (p && q && r) ≡ false
      by_tests true true r e = absurd cc
      by_tests true false r e = refl
      by_tests false q r e = refl

      fails : (q : Bool) → q ≡ false → (b d && q && has_room old d k) ≡ false
      fails q e = by_tests (b d) q (has_room old d k) e

      by_id : (r : Stamped Descriptor) (t : Bool) → (r.value.id == i) ≡ t → r.value.id ≡ id → t ≡ false
      by_id r true e its = absurd (apart (sym (eqb-true r.value.id i e) ∙ its))
      by_id r false e its = refl

      of_other : (o : Option (Stamped Descriptor)) → IsTrue (passes (is_of id) o) → passes (is_of i) o ≡ false
      of_other None its = refl
      of_other (Some r) its = by_id r (r.value.id == i) refl (eqb-true r.value.id id its)

  other_status : (b : Disks) (i : ℕ) (k : Descriptor) → (i ≡ id → ⊥) → status_by new b i k ≡ status_by old b i k
  other_status b i k apart t = newest_below (λ d. each d t) old.disks
    where
      each : (d : ℕ) → (if members_in old b i k d then if_passes (is_status_of i) (status d) else None) ≡ (if members_in old b i k d then if_passes (is_status_of i) (old.status d) else None)
      each d = ⊎_elim
          (λ (same : status d ≡ old.status d). ap (λ (o : Option (Stamped Status)). if members_in old b i k d then if_passes (is_status_of i) o else None) same)
          (λ (put : IsTrue (targets d) × (status d ≡ Some is)).
          ap (λ (m : Bool). if m then if_passes (is_status_of i) (status d) else None) (no_other b i k d apart put.0) ∙ sym (ap (λ (m : Bool). if m then if_passes (is_status_of i) (old.status d) else None) (no_other b i k d apart put.0)))
          (own d)

  abbrev IsEither : Descriptor → Type 0
  IsEither k = (k ≡ g) ⊎ (k ≡ h)

  abbrev members : Descriptor → Disks
  members k = members_in old all_disks id k

  member_copy : (k : Descriptor) → IsEither k → (row : LvRow) (lp : ℕ) (p : Pp) → IsOneOf g.lvs row → IsOneOf (copies_of row lp) p → members k p.disk ≡ members g p.disk
  member_copy k (inl e) row lp p one copy = ap (λ (x : Descriptor). members x p.disk) e
  member_copy k (inr e) row lp p one copy =
      let at = two.places row lp p one copy in
      ap (λ (x : Descriptor). members x p.disk) e ∙ ap (λ (t : Bool). passes (is_of id) (old.descriptor p.disk) && t) (sym (two.room old p.disk at.0 at.1 at.2 at.3))

  fresh_same : (k : Descriptor) → IsEither k → (s : Option (Stamped Status)) (row : LvRow) (lp : ℕ) → IsOneOf g.lvs row → fresh_on (members k) s row lp ≡ fresh_on (members g) s row lp
  fresh_same k either s row lp one = filter_same (λ (p : Pp). members k p.disk && not (is_stale_by s p)) (λ (p : Pp). members g p.disk && not (is_stale_by s p)) (copies_of row lp)
      (λ p copy. ap (λ (t : Bool). t && not (is_stale_by s p)) (member_copy k either row lp p one copy))

  lvs_of : (k : Descriptor) → IsEither k → k.lvs ≡ g.lvs
  lvs_of k (inl e) = ap (λ (x : Descriptor). x.lvs) e
  lvs_of k (inr e) = ap (λ (x : Descriptor). x.lvs) e ∙ sym two.volumes

  mib_of : (k : Descriptor) → IsEither k → k.mib ≡ g.mib
  mib_of k (inl e) = ap (λ (x : Descriptor). x.mib) e
  mib_of k (inr e) = ap (λ (x : Descriptor). x.mib) e ∙ sym two.size

  status_read : (b : Disks) (k : Descriptor) → IsEither k → CanRead k (members_in old b id k) → (status_by new b id k ≡ Some was) ⊎ (status_by new b id k ≡ Some is)
  status_read b k (inl e) can = subst (λ (x : Descriptor). (status_by new b id x ≡ Some was) ⊎ (status_by new b id x ≡ Some is)) (sym e) (after.by_one b (subst (λ (x : Descriptor). CanRead x (members_in old b id x)) e can))
  status_read b k (inr e) can = subst (λ (x : Descriptor). (status_by new b id x ≡ Some was) ⊎ (status_by new b id x ≡ Some is)) (sym e) (after.by_other b (subst (λ (x : Descriptor). CanRead x (members_in old b id x)) e can))

  by_status : (P : Option (Stamped Status) → Type 0) → P (Some was) → P (Some is) → (b : Disks) (k : Descriptor) → IsEither k → CanRead k (members_in old b id k) → P (status_by new b id k)
  by_status P first second b k either can = ⊎_elim
      (λ (e : status_by new b id k ≡ Some was). subst P (sym e) first)
      (λ (e : status_by new b id k ≡ Some is). subst P (sym e) second)
      (status_read b k either can)

  blocks_by : (s : Stamped Status) → DoesFor old facts g s → (k : Descriptor) → IsEither k → BlocksKept new facts k (members k) (Some s)
  blocks_by s does k either row lp b one inside =
      let in_g : IsOneOf g.lvs row = subst (λ (rows : List LvRow). IsOneOf rows row) (lvs_of k either) one in
      let at : Known = known (facts ++ Cut ∷ []) (Lv row.number) b in
      let stood : IsBlockKept old g.mib (Some s) row (fresh_on (members g) (Some s) row lp) at b = does.blocks row lp b in_g (subst (λ (m : ℕ). IsBlockOf m row lp b) (mib_of k either) inside) in
      subst (λ (m : ℕ). IsBlockKept new m (Some s) row (fresh_on (members k) (Some s) row lp) at b) (sym (mib_of k either))
      (subst (λ (ps : List Pp). IsBlockKept new g.mib (Some s) row ps at b) (sym (fresh_same k either (Some s) row lp in_g))
      (same_block old old.descriptor status g.mib (Some s) row (fresh_on (members g) (Some s) row lp) at b stood))

  some_by : (s : Stamped Status) → DoesFor old facts g s → (k : Descriptor) → IsEither k → (row : LvRow) (lp : ℕ) → IsOneOf k.lvs row → lp < row.lps → IsSome (fresh_on (members k) (Some s) row lp)
  some_by s does k either row lp one inside =
      let in_g : IsOneOf g.lvs row = subst (λ (rows : List LvRow). IsOneOf rows row) (lvs_of k either) one in
      subst (λ (ps : List Pp). IsSome ps) (sym (fresh_same k either (Some s) row lp in_g)) (does.some row lp in_g inside)

  has_one : (rows : List LvRow) (s : Stamped Status) → HasStatus rows (Some s)
  has_one [] s = tt
  has_one (row ∷ rows) s = refl

  either_of : (k : Descriptor) → IsFound new id k → IsEither k
  either_of k f = finds f.0 k (before f.0 id k f.1)

  any_read : (P : Disks → Option (Stamped Status) → Type 0) (b : Disks) (i : ℕ) (x k : Descriptor) → ReadsGroup new b i x → IsFound new i k
      → ((i ≡ id → ⊥) → P (members_in old all_disks i k) (status_by old b i x)) → (IsEither x → IsEither k → CanRead x (members_in old b id x) → P (members_in old all_disks id k) (status_by new b id x))
      → P (members_in old all_disks i k) (status_by new b i x)
  any_read P b i x k r is_found other its = ⊎_elim
      (λ (e : i ≡ id). subst (λ (n : ℕ). P (members_in old all_disks n k) (status_by new b n x)) (sym e)
      (its (either_of x (subst (λ (n : ℕ). IsFound new n x) e r.found)) (either_of k (subst (λ (n : ℕ). IsFound new n k) e is_found)) (subst (λ (n : ℕ). CanRead x (members_in old b n x)) e r.enough)))
      (λ (apart : i ≡ id → ⊥). subst (λ (s : Option (Stamped Status)). P (members_in old all_disks i k) s) (sym (other_status b i x apart)) (other apart))
      (cases_eq i id)

  status_there : (b : Disks) (i : ℕ) (x k : Descriptor) → ReadsGroup new b i x → IsFound new i k → HasStatus k.lvs (status_by new b i x)
  status_there b i x k r is_found = any_read (λ v s. HasStatus k.lvs s) b i x k r is_found
      (λ apart. kept.lasting.status b i x k (reads_before b i x r) (found_before i k is_found))
      (λ ex ek can. by_status (λ s. HasStatus k.lvs s) (has_one k.lvs was) (has_one k.lvs is) b x ex can)

  across : (b : Disks) (i : ℕ) (x k : Descriptor) → ReadsGroup new b i x → IsFound new i k → BlocksKept new facts k (members_in new all_disks i k) (status_by new b i x)
  across b i x k r is_found = any_read (λ v s. BlocksKept new facts k v s) b i x k r is_found
      (λ apart row lp n one inside. same_block old old.descriptor status k.mib (status_by old b i x) row (fresh_on (members_in old all_disks i k) (status_by old b i x) row lp) (known (facts ++ Cut ∷ []) (Lv row.number) n) n
      (kept.lasting.across b i x k (reads_before b i x r) (found_before i k is_found) row lp n one inside))
      (λ ex ek can. by_status (λ s. BlocksKept new facts k (members k) s) (blocks_by was served.by_was k ek) (blocks_by is served.by_is k ek) b x ex can)

  some : (b : Disks) (i : ℕ) (x k : Descriptor) → ReadsGroup new b i x → IsFound new i k → (row : LvRow) (lp : ℕ) → IsOneOf k.lvs row → lp < row.lps → IsSome (fresh_on (members_in new all_disks i k) (status_by new b i x) row lp)
  some b i x k r is_found row lp one inside = any_read (λ v s. IsSome (fresh_on v s row lp)) b i x k r is_found
      (λ apart. kept.lasting.some b i x k (reads_before b i x r) (found_before i k is_found) row lp one inside)
      (λ ex ek can. by_status (λ s. IsSome (fresh_on (members k) s row lp)) (some_by was served.by_was k ek row lp one inside) (some_by is served.by_is k ek row lp one inside) b x ex can)

  finding : (b : Disks) (i : ℕ) (k : Descriptor) → Finds new b i k → (P : Disks → Option (Stamped Status) → Type 0) → P (members_in new b i k) (status_by new b i k) → P (is_voter new b i) (status_among new b i)
  finding b i k f P p =
      let r : ReadsBy new b i k = finding_reads new b i k f in
      subst (λ (s : Option (Stamped Status)). P (is_voter new b i) s) (sym r.status) (subst (λ (v : Disks). P v (status_by new b i k)) (sym r.voters) p)

  copies : (b : Disks) (i : ℕ) (k : Descriptor) → Finds new b i k → BlocksKept new facts k (is_voter new b i) (status_among new b i)
  copies b i k f = finding b i k f (λ v s. BlocksKept new facts k v s)
      (fewer_blocks new (members_in new b i k) (members_in new all_disks i k) (λ d in_set. without_first (b d) (passes (is_of i) (old.descriptor d)) (has_room old d k) in_set) facts k (status_by new b i k)
      (across b i k k (finding_reads new b i k f).reads (b, f)))

  is_next : (d : ℕ) (r : Stamped Status) → old.status d ≡ Some r → r.value.id ≡ is.value.id → r.stamp ≡ is.stamp → r ≡ is
  is_next d r stood ids stamps = ⊎_elim
      (λ (low : stamp_lt r.stamp is.stamp ≡ true). absurd (not-itself is.stamp (ap (λ (x : Stamp). stamp_lt x is.stamp) (sym stamps) ∙ low)))
      (λ (e : r ≡ is). e)
      (later d r stood (ids ∙ its_id))

  one_of : (d e : ℕ) (r s : Stamped Status) → status d ≡ Some r → status e ≡ Some s → r.value.id ≡ s.value.id → r.stamp ≡ s.stamp → r ≡ s
  one_of d e r s shows also ids stamps = ⊎_elim
      (λ (old_r : status d ≡ old.status d). ⊎_elim
      (λ (old_s : status e ≡ old.status e). kept.lasting.statuses d e r s (sym old_r ∙ shows) (sym old_s ∙ also) ids stamps)
      (λ (put : IsTrue (targets e) × (status e ≡ Some is)).
      let same : s ≡ is = same_Some s is (sym also ∙ put.1) in
      is_next d r (sym old_r ∙ shows) (ids ∙ ap (λ (x : Stamped Status). x.value.id) same) (stamps ∙ ap (λ (x : Stamped Status). x.stamp) same) ∙ sym same)
      (own e))
      (λ (put : IsTrue (targets d) × (status d ≡ Some is)).
      let same : r ≡ is = same_Some r is (sym shows ∙ put.1) in ⊎_elim
      (λ (old_s : status e ≡ old.status e). same ∙ sym (is_next e s (sym old_s ∙ also) (sym ids ∙ ap (λ (x : Stamped Status). x.value.id) same) (sym stamps ∙ ap (λ (x : Stamped Status). x.stamp) same)))
      (λ (also_put : IsTrue (targets e) × (status e ≡ Some is)). same ∙ sym (same_Some s is (sym also ∙ also_put.1)))
      (own e))
      (own d)

  available : (lv : ℕ) → IsSettledIn facts lv → IsAvailable new facts
  available lv settled =
      let a : IsAvailable old facts = kept.agrees.available lv settled in
      let f : Finds new all_disks a.id a.group = behind all_disks a.id a.group a.found in
      record {
        id = a.id;
        group = a.group;
        found = f;
        copies = λ l lp row is_settled is_row inside. finding all_disks a.id a.group f (λ v s. IsSome (fresh_on v s row lp))
            (some all_disks a.id a.group a.group (finding_reads new all_disks a.id a.group f).reads (all_disks, f) row lp (volume_is_row a.group l row is_row) inside);
      }

  pub stated_keeps : Kept new facts
  stated_keeps = record {
    agrees = record {
      volumes = λ b i k f. kept.agrees.volumes b i k (before b i k f);
      status = λ b i k f. finding b i k f (λ v s. HasStatus k.lvs s) (status_there b i k k (finding_reads new b i k f).reads (b, f));
      copies = copies;
      raw = kept.agrees.raw;
      available = available;
    };
    lasting = record {
      common = λ a b i x y r s. kept.lasting.common a b i x y (reads_before a i x r) (reads_before b i y s);
      status = status_there;
      across = across;
      some = some;
      size = λ i x y p q. kept.lasting.size i x y (found_before i x p) (found_before i y q);
      partitions = λ i x y p q. kept.lasting.partitions i x y (found_before i x p) (found_before i y q);
      descriptors = kept.lasting.descriptors;
      statuses = one_of;
    };
  }

pub state_turn_keeps : StateTurnKeeps
state_turn_keeps old new facts g h targets was is may kept =
    let same : new ≡ record old { status = new.status } = may.rest in (
      subst (λ (c : Contents). Kept c facts) (sym same)
          (stated_keeps old new.status facts g h targets was is may.two may.own may.showing may.id may.later may.finds (subst (λ (c : Contents). ReadsTwo c g h was is) same may.after) may.served kept),
      subst (λ (c : Contents). FindsTwo c g h) (sym same) (λ b k f. may.finds b k (finds_before old new.status old.note old.block b g.id k f)),
      λ other k apart is_found. let f : IsFound (record old { status = new.status }) other k = subst (λ (c : Contents). IsFound c other k) same is_found in (f.0, finds_before old new.status old.note old.block f.0 other k f.1),
    )

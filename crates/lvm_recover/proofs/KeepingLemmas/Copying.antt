-- What the copying keeps.
use Rattle.std.proofs.Common.{◌≡◌, ◌⊎◌, inl, inr, ⊎_elim, ℕ, Bool, true, false, ◌&&◌, not, List, [], ◌∷◌, ◌++◌, Option, Some, refl, sym, ap, subst, ◌∙◌}
use Rattle.std.specs.Prelude.{IsTrue, filter, if◌then◌else◌}
use Rattle.std.proofs.lemmas.Option.{none-some}
use Rattle.lvm_num.specs.declared.place.Pp.{Pp}
use Rattle.lvm_num.specs.declared.descriptor.Mode.{Mode}
use Rattle.lvm_num.specs.declared.descriptor.Mode.TheVariants.{Active, Passive, Off}
use Rattle.lvm_num.specs.declared.descriptor.LvRow.{LvRow}
use Rattle.lvm_num.specs.declared.descriptor.Descriptor.{Descriptor}
use Rattle.lvm_num.specs.declared.status.Status.{Status}
use Rattle.lvm_num.specs.Disks.{Disks}
use Rattle.lvm_num.specs.Descriptor.{IsValid, copies_of}
use Rattle.lvm_num.specs.Geometry.{track_group_of, sector_of}
use Rattle.lvm_num.specs.Record.{Stamped}
use Rattle.lvm_num.specs.Votes.{all_disks, CanWrite}
use Rattle.lvm_vol.specs.declared.entry.Vol.TheVariants.{Lv}
use Rattle.lvm_vol.specs.Facts.{Fact, Cut}
use Rattle.lvm_vol.specs.May.{Known, known, IsValue}
use Rattle.lvm_kept.specs.Contents.{Contents}
use Rattle.lvm_kept.specs.Group.{passes, is_of, status_among, IsFound, members_in, ReadsBy, ReadsGroup, status_by, is_stale_by, fresh_on, block_at, IsBlockOf, is_named, IsOneOf}
use Rattle.lvm_kept.specs.Kept.{MayDiffer, BlocksKept, Kept}
use Rattle.lvm_kept.specs.Committed.{IsWithinDisks}
use Rattle.lvm_kept.specs.Changes.{Unchanged, Excused, BlocksChange}
use Rattle.lvm_kept.proofs.ChangesLemmas.Changing.{data_keeps}
use Rattle.lvm_kept.proofs.CommittedLemmas.Finding.{finding_reads}
use Rattle.lvm_even.specs.passed.Commit.{ShowsCommitted}
use Rattle.lvm_even.proofs.passed.Commit.{shows_group, only_found, status_read}
use Rattle.lvm_steps.proofs.GroupLemmas.Members.{one_group, parts_of, member_of_parts}
use Rattle.lvm_even.specs.Members.{members_showing}
use Rattle.lvm_even.proofs.Lists.{by_id, left_of, right_of, both_of, of_passing}
use Rattle.lvm_even.specs.Even.{MissingAreStale}
use Rattle.lvm_even.proofs.Rows.{at_passing}
use Rattle.lvm_recover.specs.Recopied.{IsToEqual, IsFromFirst, IsRecopied}
use Rattle.lvm_recover.specs.Keeping.{RecopyKeeps, RecopyGoesOn, EqualStays}
use Rattle.lvm_recover.proofs.GeometryLemmas.{one_block}

-- one that is left is one of the list, and passes
pub left_passes : {X : Type 0} (test : X → Bool) (xs ys : List X) → filter test xs ≡ ys → (x : X) → IsOneOf ys x → IsOneOf xs x × IsTrue (test x)
left_passes test xs ys is x one = search_in test xs x (subst (λ zs. IsOneOf zs x) (sym is) one)
  where
    search_in : {X : Type 0} (test : X → Bool) (xs : List X) (x : X) → IsOneOf (filter test xs) x → IsOneOf xs x × IsTrue (test x)
    search_in test [] x one = absurd one
    search_in test (y ∷ ys) x one = by_test test y ys x (test y) refl (λ there. search_in test ys x there) one
      where
        by_test : {X : Type 0} (test : X → Bool) (y : X) (ys : List X) (x : X) (t : Bool) → test y ≡ t → (IsOneOf (filter test ys) x → IsOneOf ys x × IsTrue (test x)) → IsOneOf (if t then y ∷ filter test ys else filter test ys) x
            → IsOneOf (y ∷ ys) x × IsTrue (test x)
        by_test test y ys x true is further (inl here) = (inl here, ap test here ∙ is)
        by_test test y ys x true is further (inr there) = let rest = further there in (inr rest.0, rest.1)
        by_test test y ys x false is further there = let rest = further there in (inr rest.0, rest.1)

pub cons_same : {X : Type 0} (x y : X) (xs ys : List X) → x ∷ xs ≡ y ∷ ys → x ≡ y
cons_same x y xs ys e = cc

-- ---- the first copy

module _ (group : Descriptor) (status : Option (Stamped Status)) (there : Disks) (old : Contents) (valid : IsValid group) (row : LvRow) (lp b : ℕ) (one : IsOneOf group.lvs row) (inside : IsBlockOf group.mib row lp b) where
  abbrev usable : Pp → Bool
  usable p = there p.disk && not (is_stale_by status p)

  -- what comes to a block of a copy is what the first usable copy held there
  pub from_own : (p : Pp) (value : List ℕ) → IsOneOf (copies_of row lp) p → IsFromFirst old group status there p.disk (sector_of group.mib p.pp b) value
      → (row.mode ≡ Off → ⊥) × (first : Pp) × (others : List Pp) × (fresh_on there status row lp ≡ first ∷ others) × (value ≡ block_at old group.mib first b)
  from_own p value copy from =
      let of = left_passes usable_there (copies_of from.row from.lp) (from.first ∷ from.others) from.usable from.copy (inr from.one) in
      let same = one_block group row from.row lp from.lp b from.block p from.copy valid one from.volume inside from.inside copy of.0 from.disk from.sector in (
        λ off. subst (λ (m : Mode). IsToEqual old status there m from.row.number from.block) (sym (ap (λ (r : LvRow). r.mode) same.row_is) ∙ off) from.made,
        from.first,
        from.others,
        (λ t. fresh_on there status (same.row_is t) (same.lp_is t)) ∙ from.usable,
        from.value_is ∙ ap (block_at old group.mib from.first) (sym same.block_is),
      )
    where
      usable_there : Pp → Bool
      usable_there p = there p.disk && not (is_stale_by status p)

  pub stays_first : (new : Contents) (mid : Contents) → ((d s : ℕ) → (new.block d s ≡ mid.block d s) ⊎ IsFromFirst old group status there d s (new.block d s)) → (first p : Pp) (others : List Pp) → fresh_on there status row lp ≡ first ∷ others
      → IsOneOf (first ∷ others) p → block_at mid group.mib p b ≡ block_at old group.mib first b → block_at new group.mib p b ≡ block_at old group.mib first b
  stays_first new mid each first p others is copy was = ⊎_elim
      (λ same. same ∙ was)
      (λ from. let of = left_passes usable (copies_of row lp) (first ∷ others) is p copy in let own = from_own p (block_at new group.mib p b) of.0 from in
      own.4 ∙ ap (λ (q : Pp). block_at old group.mib q b) (cons_same own.1 first own.2 others (sym own.3 ∙ is)))
      (each p.disk (sector_of group.mib p.pp b))

pub equal_stays : EqualStays
equal_stays group status there old mid new row lp b first p others valid each one inside is copy was = stays_first group status there old valid row lp b one inside new mid each first p others is copy was

pub recopy_goes_on : RecopyGoesOn
recopy_goes_on group status there old mid new before rest each = record {
  rest = rest ∙ ap (λ (c : Contents). record c { block = new.block }) before.rest;
  each = λ d s. elim (each d s) [
    | inl same ↦ elim (before.each d s) [
      | inl was ↦ inl (same ∙ was)
      | inr from ↦ inr (subst (IsFromFirst old group status there d s) (sym same) from)
    ]
    | inr from ↦ inr from
  ];
}

-- ---- what is kept

module _ (group : Descriptor) (status : Status) (there : Disks) (old new : Contents) (facts : List Fact) (valid : IsValid group) (within : IsWithinDisks old) (enough : CanWrite group there)
    (shows : ShowsCommitted old group status there) (none_behind : MissingAreStale old group (Some shows.stands) there) (change : IsRecopied old group (Some shows.stands) there new) (kept : Kept old facts) where
  abbrev stands : Option (Stamped Status)
  stands = Some shows.stands

  abbrev members : Disks
  members = members_showing old group

  abbrev usable_on : Disks → Pp → Bool
  usable_on set p = set p.disk && not (is_stale_by stands p)

  is_member : (d : ℕ) → IsTrue (there d) → IsTrue (members d)
  is_member d is = member_of_parts old all_disks group.id group d refl (shows_group old group status there shows d is) (shows.room d is)

  by_all : ReadsBy old all_disks group.id group
  by_all = finding_reads old all_disks group.id group shows.found

  -- what is kept of the copies on all members
  kept_of : BlocksKept old facts group members stands
  kept_of = subst (λ (o : Option (Stamped Status)). BlocksKept old facts group members o) (status_read old group status there shows facts within enough kept all_disks group by_all.reads)
      (kept.lasting.across all_disks group.id group group by_all.reads (all_disks, shows.found))

  module _ (row : LvRow) (lp b : ℕ) (one : IsOneOf group.lvs row) (inside : IsBlockOf group.mib row lp b) (set : Disks) (in_members : (d : ℕ) → IsTrue (set d) → IsTrue (members d)) where
    abbrev copies : List Pp
    copies = fresh_on set stands row lp

    abbrev k : Known
    k = known (facts ++ Cut ∷ []) (Lv row.number) b

    wider : (p : Pp) → IsTrue (usable_on set p) → IsTrue (usable_on members p)
    wider p is = both_of (members p.disk) (not (is_stale_by stands p)) (in_members p.disk (left_of (set p.disk) (not (is_stale_by stands p)) is)) (right_of (set p.disk) (not (is_stale_by stands p)) is)

    of_there : (p : Pp) → IsTrue (usable_on there p) → IsTrue (usable_on members p)
    of_there p is = both_of (members p.disk) (not (is_stale_by stands p)) (is_member p.disk (left_of (there p.disk) (not (is_stale_by stands p)) is)) (right_of (there p.disk) (not (is_stale_by stands p)) is)

    -- each copy holds what it held, or what the first usable one held
    holds : (p : Pp) → IsOneOf (copies_of row lp) p → (block_at new group.mib p b ≡ block_at old group.mib p b)
        ⊎ ((row.mode ≡ Off → ⊥) × (first : Pp) × (others : List Pp) × (fresh_on there stands row lp ≡ first ∷ others) × (block_at new group.mib p b ≡ block_at old group.mib first b))
    holds p copy = ⊎_elim (λ same. inl same) (λ from. inr (from_own group stands there old valid row lp b one inside p (block_at new group.mib p b) copy from)) (change.each p.disk (sector_of group.mib p.pp b))

    first_is : (first : Pp) (others : List Pp) → fresh_on there stands row lp ≡ first ∷ others → IsOneOf (copies_of row lp) first × IsTrue (usable_on members first)
    first_is first others is = let of = left_passes (usable_on there) (copies_of row lp) (first ∷ others) is first (inl refl) in (of.0, of_there first of.1)

    fewer : (mode : Mode) → MayDiffer old stands row.number mode (fresh_on members stands row lp) k b → MayDiffer old stands row.number mode copies k b
    fewer Active named = of_passing (λ p. IsTrue (is_named old p.disk row.number (track_group_of b))) (usable_on set) (copies_of row lp)
        (λ p copy is. at_passing (λ p. IsTrue (is_named old p.disk row.number (track_group_of b))) (usable_on members) (copies_of row lp) named p copy (wider p is))
    fewer Passive dirty = dirty
    fewer Off loose = loose

    changed : Unchanged old new group.mib copies b ⊎ Excused old new group.mib stands row copies k b
    changed = elim (kept_of row lp b one inside).equal [
      | inl hold ↦ inl (of_passing (λ p. block_at new group.mib p b ≡ block_at old group.mib p b) (usable_on set) (copies_of row lp) (λ p copy is. ⊎_elim
          (λ same. same)
          (λ from. let first = first_is from.1 from.2 from.3 in
          from.4 ∙ at_passing (λ q. block_at old group.mib q b ≡ hold.0) (usable_on members) (copies_of row lp) hold.1 from.1 first.0 first.1
          ∙ sym (at_passing (λ q. block_at old group.mib q b ≡ hold.0) (usable_on members) (copies_of row lp) hold.1 p copy (wider p is)))
          (holds p copy)))
      | inr differ ↦ inr (record {
        allowed = of_passing (λ p. IsValue k (block_at new group.mib p b)) (usable_on set) (copies_of row lp) (λ p copy is.
            let old_allowed = λ (q : Pp) (copy : IsOneOf (copies_of row lp) q) (is : IsTrue (usable_on members q)).
            at_passing (λ q. IsValue k (block_at old group.mib q b)) (usable_on members) (copies_of row lp) (kept_of row lp b one inside).allowed q copy is in
            ⊎_elim
            (λ (same : block_at new group.mib p b ≡ block_at old group.mib p b). subst (IsValue k) (sym same) (old_allowed p copy (wider p is)))
            (λ from. let first = first_is from.1 from.2 from.3 in subst (IsValue k) (sym from.4) (old_allowed from.1 first.0 first.1))
            (holds p copy));
        differ = inr (fewer row.mode differ);
      })
    ]

  -- copies of other groups stand on other disks
  elsewhere : (id : ℕ) (g : Descriptor) (set : Disks) (s : Option (Stamped Status)) → (id ≡ group.id → ⊥) → ((d : ℕ) → IsTrue (set d) → passes (is_of id) (old.descriptor d) ≡ true) → BlocksChange old new facts g set s
  elsewhere id g set s apart show row lp b volume inside = inl (of_passing (λ p. block_at new g.mib p b ≡ block_at old g.mib p b) (λ p. set p.disk && not (is_stale_by s p)) (copies_of row lp) (λ p copy is. ⊎_elim
      (λ same. same)
      (λ (from : IsFromFirst old group stands there p.disk (sector_of g.mib p.pp b) (block_at new g.mib p b)). absurd (apart
      (let of = left_passes (usable_on there) (copies_of from.row from.lp) (from.first ∷ from.others) from.usable from.copy (inr from.one) in
      one_group (old.descriptor p.disk) id group.id (show p.disk (left_of (set p.disk) (not (is_stale_by s p)) is))
      (ap (λ (d : ℕ). passes (is_of group.id) (old.descriptor d)) (sym from.disk) ∙ shows_group old group status there shows from.copy.disk (left_of (there from.copy.disk) (not (is_stale_by stands from.copy)) of.1)))))
      (change.each p.disk (sector_of g.mib p.pp b))))

  of_reads : (id : ℕ) (b : Disks) (h k : Descriptor) (set : Disks) → ((d : ℕ) → IsTrue (set d) → IsTrue (members_in old all_disks id k d)) → ReadsGroup old b id h → IsFound old id k → BlocksChange old new facts k set (status_by old b id h)
  of_reads id b h k set in_set reads found = by_id id group.id
      (λ same.
      let is : k ≡ group = only_found old group status there shows facts within enough kept k (subst (λ (n : ℕ). IsFound old n k) same found) in
      let read : status_by old b id h ≡ stands = ap (λ (n : ℕ). status_by old b n h) same ∙ status_read old group status there shows facts within enough kept b h (subst (λ (n : ℕ). ReadsGroup old b n h) same reads) in
      subst (λ (o : Option (Stamped Status)). BlocksChange old new facts k set o) (sym read)
      (subst (λ (g : Descriptor). BlocksChange old new facts g set stands) (sym is)
      (λ row lp n one inside. changed row lp n one inside set (λ d in_d. subst (λ (i : ℕ). IsTrue (members_in old all_disks i group d)) same (subst (λ (g : Descriptor). IsTrue (members_in old all_disks id g d)) is (in_set d in_d))))))
      (λ apart. elsewhere id k set (status_by old b id h) apart (λ d in_d. (parts_of old all_disks id k d (in_set d in_d)).1))

  pub recopied : Kept new facts
  recopied = data_keeps old new facts (record {
    rest = change.rest;
    copies = λ disks id g f.
        let reads = finding_reads old disks id g f in
        subst (λ (v : Disks). BlocksChange old new facts g v (status_among old disks id)) (sym reads.voters)
        (subst (λ (o : Option (Stamped Status)). BlocksChange old new facts g (members_in old disks id g) o) (sym reads.status)
        (of_reads id disks g g (members_in old disks id g) (λ d is. let parts = parts_of old disks id g d is in member_of_parts old all_disks id g d refl parts.1 parts.2) reads.reads (disks, f)));
    across = λ b id h k reads found. of_reads id b h k (members_in old all_disks id k) (λ d is. is) reads found;
    raw = λ d b lt none low high. ⊎_elim
        (λ same. inl same)
        (λ (from : IsFromFirst old group stands there d b (new.block d b)). absurd (
        let of = left_passes (usable_on there) (copies_of from.row from.lp) (from.first ∷ from.others) from.usable from.copy (inr from.one) in
        none-some shows.descriptor (sym none ∙ ap old.descriptor (sym from.disk) ∙ shows.described from.copy.disk (left_of (there from.copy.disk) (not (is_stale_by stands from.copy)) of.1))))
        (change.each d b);
  }) kept

pub recopy_keeps : RecopyKeeps
recopy_keeps group status there old new facts valid within enough shows none_behind change kept = recopied group status there old new facts valid within enough shows none_behind change kept

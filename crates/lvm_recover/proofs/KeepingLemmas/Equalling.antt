-- What the copying leaves, and that the notes may go then.
use Rattle.std.proofs.Common.{◌≡◌, ◌⊎◌, inl, inr, ⊎_elim, ℕ, Bool, true, ◌&&◌, not, List, [], ◌∷◌, ◌++◌, Option, Some, refl, sym, ap, subst, ◌∙◌}
use Rattle.std.specs.Prelude.{IsTrue, IsFalse}
use Rattle.std.specs.List.{AllByRecursion}
use Rattle.std.proofs.lemmas.Bool.{cases_Bool}
use Rattle.lvm_num.specs.declared.place.Pp.{Pp}
use Rattle.lvm_num.specs.declared.descriptor.Mode.{Mode}
use Rattle.lvm_num.specs.declared.descriptor.Mode.TheVariants.{Active, Passive, Off}
use Rattle.lvm_num.specs.declared.descriptor.LvRow.{LvRow}
use Rattle.lvm_num.specs.declared.descriptor.Descriptor.{Descriptor}
use Rattle.lvm_num.specs.declared.status.Status.{Status}
use Rattle.lvm_num.specs.Disks.{Disks}
use Rattle.lvm_num.specs.Descriptor.{IsValid, copies_of}
use Rattle.lvm_num.specs.Geometry.{track_group_of, sector_of}
use Rattle.lvm_num.specs.Note.{Noted}
use Rattle.lvm_num.specs.Record.{Stamped}
use Rattle.lvm_num.specs.Votes.{all_disks, CanWrite}
use Rattle.lvm_vol.specs.declared.entry.Vol.TheVariants.{Lv}
use Rattle.lvm_vol.specs.Facts.{Fact, Cut}
use Rattle.lvm_vol.specs.May.{Known, known}
use Rattle.lvm_kept.specs.Contents.{Contents}
use Rattle.lvm_kept.specs.Group.{passes, is_of, status_among, IsFound, members_in, ReadsBy, ReadsGroup, status_by, is_stale_by, fresh_on, block_at, IsBlockOf, names_if, is_named, IsOneOf, HoldOne}
use Rattle.lvm_kept.specs.Kept.{MayDiffer, BlocksKept, Kept}
use Rattle.lvm_kept.specs.Committed.{IsWithinDisks}
use Rattle.lvm_kept.specs.Changes.{StayExcused}
use Rattle.lvm_kept.proofs.ChangesLemmas.Changing.{notes_keep}
use Rattle.lvm_kept.proofs.CommittedLemmas.Finding.{finding_reads}
use Rattle.lvm_even.specs.passed.Commit.{ShowsCommitted}
use Rattle.lvm_even.proofs.passed.Commit.{shows_group, only_found, status_read}
use Rattle.lvm_steps.proofs.GroupLemmas.Members.{one_group, parts_of, member_of_parts}
use Rattle.lvm_even.specs.Members.{members_showing}
use Rattle.lvm_even.proofs.Lists.{by_id, left_of, right_of, both_of, not_so, of_passing}
use Rattle.lvm_even.specs.Even.{MissingAreStale}
use Rattle.lvm_even.proofs.Rows.{at_passing, none_passing, passes_none}
use Rattle.lvm_recover.specs.Recopied.{IsRecopied, HoldFirst, IsToEqual, AreActiveEven, OnlyNotesOf}
use Rattle.lvm_recover.specs.Keeping.{EqualledIsEven, NotesMayGo}
use Rattle.lvm_recover.proofs.KeepingLemmas.Copying.{left_passes, from_own}

module _ (group : Descriptor) (status : Status) (there : Disks) (old : Contents) (facts : List Fact) (within : IsWithinDisks old) (enough : CanWrite group there)
    (shows : ShowsCommitted old group status there) (kept : Kept old facts) where
  abbrev stands : Option (Stamped Status)
  stands = Some shows.stands

  abbrev members : Disks
  members = members_showing old group

  abbrev usable_on : Disks → Pp → Bool
  usable_on set p = set p.disk && not (is_stale_by stands p)

  is_member : (d : ℕ) → IsTrue (there d) → IsTrue (members d)
  is_member d is = member_of_parts old all_disks group.id group d refl (shows_group old group status there shows d is) (shows.room d is)

  wider : (set : Disks) → ((d : ℕ) → IsTrue (set d) → IsTrue (members d)) → (p : Pp) → IsTrue (usable_on set p) → IsTrue (usable_on members p)
  wider set in_members p is = both_of (members p.disk) (not (is_stale_by stands p)) (in_members p.disk (left_of (set p.disk) (not (is_stale_by stands p)) is)) (right_of (set p.disk) (not (is_stale_by stands p)) is)

  by_all : ReadsBy old all_disks group.id group
  by_all = finding_reads old all_disks group.id group shows.found

  kept_of : BlocksKept old facts group members stands
  kept_of = subst (λ (o : Option (Stamped Status)). BlocksKept old facts group members o) (status_read old group status there shows facts within enough kept all_disks group by_all.reads)
      (kept.lasting.across all_disks group.id group group by_all.reads (all_disks, shows.found))

  -- ---- even

  module _ (new : Contents) (valid : IsValid group) (change : IsRecopied old group stands there new) (row : LvRow) (lp b : ℕ) (one : IsOneOf group.lvs row)
      (equalled : IsToEqual old stands there row.mode row.number b → HoldFirst old new group.mib (fresh_on there stands row lp) b) (on : row.mode ≡ Off → ⊥) (inside : IsBlockOf group.mib row lp b) where
    -- a usable copy holds what it held, or what the first one held
    one_value : (v : List ℕ) → AllByRecursion (λ p. block_at old group.mib p b ≡ v) (fresh_on members stands row lp) → HoldOne new group.mib (fresh_on there stands row lp) b
    one_value v all = (
      v,
      of_passing (λ p. block_at new group.mib p b ≡ v) (usable_on there) (copies_of row lp) (λ p copy is. ⊎_elim
          (λ (same : block_at new group.mib p b ≡ block_at old group.mib p b). same ∙ held p copy (wider there is_member p is))
          (λ from.
          let own = from_own group stands there old valid row lp b one inside p (block_at new group.mib p b) copy from in
          let of = left_passes (usable_on there) (copies_of row lp) (own.1 ∷ own.2) own.3 own.1 (inl refl) in
          own.4 ∙ held own.1 of.0 (wider there is_member own.1 of.1))
          (change.each p.disk (sector_of group.mib p.pp b))),
    )
      where
        held : (p : Pp) → IsOneOf (copies_of row lp) p → IsTrue (usable_on members p) → block_at old group.mib p b ≡ v
        held p copy is = at_passing (λ q. block_at old group.mib q b ≡ v) (usable_on members) (copies_of row lp) all p copy is

    of_first : (copies : List Pp) → HoldFirst old new group.mib copies b → HoldOne new group.mib copies b
    of_first [] hold = ([], tt)
    of_first (first ∷ others) hold = (block_at old group.mib first b, hold)

    by_named : (mode : Mode) → row.mode ≡ mode → (copies : List Pp) → fresh_on there stands row lp ≡ copies → MayDiffer old stands row.number mode (fresh_on members stands row lp) (known (facts ++ Cut ∷ []) (Lv row.number) b) b
        → HoldOne new group.mib copies b
    by_named mode is [] list differ = ([], tt)
    by_named Active is (first ∷ others) list named =
        let of = left_passes (usable_on there) (copies_of row lp) (first ∷ others) list first (inl refl) in
        let at = at_passing (λ p. IsTrue (is_named old p.disk row.number (track_group_of b))) (usable_on members) (copies_of row lp) named first of.0 (wider there is_member first of.1) in
        of_first (first ∷ others) (subst (λ (ps : List Pp). HoldFirst old new group.mib ps b) list
        (equalled (subst (λ (m : Mode). IsToEqual old stands there m row.number b) (sym is) (first.disk, left_of (there first.disk) (not (is_stale_by stands first)) of.1, at))))
    by_named Passive is (first ∷ others) list dirty = of_first (first ∷ others) (subst (λ (ps : List Pp). HoldFirst old new group.mib ps b) list
        (equalled (subst (λ (m : Mode). IsToEqual old stands there m row.number b) (sym is) dirty)))
    by_named Off is (first ∷ others) list loose = absurd (on is)

    pub even_there : HoldOne new group.mib (fresh_on there stands row lp) b
    even_there = elim (kept_of row lp b one inside).equal [
      | inl hold ↦ one_value hold.0 hold.1
      | inr differ ↦ by_named row.mode refl (fresh_on there stands row lp) refl differ
    ]

  -- ---- the notes go

  module _ (new : Contents) (none_behind : MissingAreStale old group stands there) (even : AreActiveEven old group stands there) (change : OnlyNotesOf there old new) where
    same_names : (d lv g : ℕ) → IsFalse (there d) → is_named new d lv g ≡ is_named old d lv g
    same_names d lv g isnt = ap (λ (n : Option Noted). names_if n lv g) (change.others d isnt)

    -- where all disks of a set aren't there, its notes are as they were
    still_differ : (s : Option (Stamped Status)) (g : Descriptor) (row : LvRow) (lp b : ℕ) (set : Disks) (k : Known) → ((p : Pp) → IsOneOf (copies_of row lp) p → IsTrue (set p.disk && not (is_stale_by s p)) → IsFalse (there p.disk))
        → (mode : Mode) → MayDiffer old s row.number mode (fresh_on set s row lp) k b → MayDiffer new s row.number mode (fresh_on set s row lp) k b
    still_differ s g row lp b set k gone Active named = of_passing (λ p. IsTrue (is_named new p.disk row.number (track_group_of b))) (λ p. set p.disk && not (is_stale_by s p)) (copies_of row lp)
        (λ p copy is. same_names p.disk row.number (track_group_of b) (gone p copy is)
        ∙ at_passing (λ p. IsTrue (is_named old p.disk row.number (track_group_of b))) (λ p. set p.disk && not (is_stale_by s p)) (copies_of row lp) named p copy is)
    still_differ s g row lp b set k gone Passive dirty = dirty
    still_differ s g row lp b set k gone Off loose = loose

    -- of the group
    own_stay : (set : Disks) → ((d : ℕ) → IsTrue (set d) → IsTrue (members d)) → BlocksKept old facts group set stands → StayExcused old new facts group set stands
    own_stay set in_members held row lp b one inside = elim (held row lp b one inside).equal [
      | inl hold ↦ inl hold
      | inr differ ↦ by row.mode refl differ
    ]
      where
        k : Known
        k = known (facts ++ Cut ∷ []) (Lv row.number) b

        by : (mode : Mode) → row.mode ≡ mode → MayDiffer old stands row.number mode (fresh_on set stands row lp) k b
            → HoldOne old group.mib (fresh_on set stands row lp) b ⊎ MayDiffer new stands row.number mode (fresh_on set stands row lp) k b
        by Passive is dirty = inr dirty
        by Off is loose = inr loose
        by Active is named = elim (none_passing (usable_on there) (copies_of row lp)) [
          | inl none ↦ inr (still_differ stands group row lp b set k (λ p copy use_. ⊎_elim
              (λ (in_there : IsTrue (there p.disk)). absurd (passes_none (usable_on there) (copies_of row lp) p none copy (both_of (there p.disk) (not (is_stale_by stands p)) in_there (right_of (set p.disk) (not (is_stale_by stands p)) use_))))
              (λ isnt. isnt)
              (cases_Bool (there p.disk))) Active named)
          | inr some ↦ inl (
              let hold = even row lp b one is inside in (
                hold.0,
                of_passing (λ p. block_at old group.mib p b ≡ hold.0) (usable_on set) (copies_of row lp) (λ p copy use_. ⊎_elim
                    (λ (in_there : IsTrue (there p.disk)).
                    at_passing (λ p. block_at old group.mib p b ≡ hold.0) (usable_on there) (copies_of row lp) hold.1 p copy
                    (both_of (there p.disk) (not (is_stale_by stands p)) in_there (right_of (set p.disk) (not (is_stale_by stands p)) use_)))
                    (λ (isnt : IsFalse (there p.disk)). absurd (passes_none (usable_on there) (copies_of row lp) some.0
                    (none_behind row lp p one inside.inside copy (in_members p.disk (left_of (set p.disk) (not (is_stale_by stands p)) use_)) isnt (not_so (is_stale_by stands p) (right_of (set p.disk) (not (is_stale_by stands p)) use_)))
                    some.1 some.2))
                    (cases_Bool (there p.disk))),
              ))
        ]

    -- of other groups
    others_stay : (id : ℕ) (g : Descriptor) (set : Disks) (s : Option (Stamped Status)) → (id ≡ group.id → ⊥) → ((d : ℕ) → IsTrue (set d) → passes (is_of id) (old.descriptor d) ≡ true) → BlocksKept old facts g set s → StayExcused old new facts g set s
    others_stay id g set s apart show held row lp b one inside = elim (held row lp b one inside).equal [
      | inl hold ↦ inl hold
      | inr differ ↦ inr (still_differ s g row lp b set (known (facts ++ Cut ∷ []) (Lv row.number) b) (λ p copy use_. ⊎_elim
          (λ (in_there : IsTrue (there p.disk)). absurd (apart (one_group (old.descriptor p.disk) id group.id (show p.disk (left_of (set p.disk) (not (is_stale_by s p)) use_)) (shows_group old group status there shows p.disk in_there))))
          (λ isnt. isnt)
          (cases_Bool (there p.disk))) row.mode differ)
    ]

    of_reads : (id : ℕ) (b : Disks) (h k : Descriptor) (set : Disks) → ((d : ℕ) → IsTrue (set d) → IsTrue (members_in old all_disks id k d)) → ReadsGroup old b id h → IsFound old id k
        → BlocksKept old facts k set (status_by old b id h) → StayExcused old new facts k set (status_by old b id h)
    of_reads id b h k set in_set reads found held = by_id id group.id
        (λ same.
        let is : k ≡ group = only_found old group status there shows facts within enough kept k (subst (λ (n : ℕ). IsFound old n k) same found) in
        let read : status_by old b id h ≡ stands = ap (λ (n : ℕ). status_by old b n h) same ∙ status_read old group status there shows facts within enough kept b h (subst (λ (n : ℕ). ReadsGroup old b n h) same reads) in
        subst (λ (o : Option (Stamped Status)). StayExcused old new facts k set o) (sym read)
        (subst (λ (g : Descriptor). StayExcused old new facts g set stands) (sym is)
        (own_stay set (λ d in_d. subst (λ (i : ℕ). IsTrue (members_in old all_disks i group d)) same (subst (λ (g : Descriptor). IsTrue (members_in old all_disks id g d)) is (in_set d in_d)))
        (subst (λ (g : Descriptor). BlocksKept old facts g set stands) is (subst (λ (o : Option (Stamped Status)). BlocksKept old facts k set o) read held)))))
        (λ apart. others_stay id k set (status_by old b id h) apart (λ d in_d. (parts_of old all_disks id k d (in_set d in_d)).1) held)

    pub notes_gone : Kept new facts
    notes_gone = notes_keep old new facts (record {
      rest = change.rest;
      copies = λ disks id g f.
          let reads = finding_reads old disks id g f in
          subst (λ (v : Disks). StayExcused old new facts g v (status_among old disks id)) (sym reads.voters)
          (subst (λ (o : Option (Stamped Status)). StayExcused old new facts g (members_in old disks id g) o) (sym reads.status)
          (of_reads id disks g g (members_in old disks id g) (λ d is. let parts = parts_of old disks id g d is in member_of_parts old all_disks id g d refl parts.1 parts.2) reads.reads (disks, f)
          (subst (λ (o : Option (Stamped Status)). BlocksKept old facts g (members_in old disks id g) o) reads.status
          (subst (λ (v : Disks). BlocksKept old facts g v (status_among old disks id)) reads.voters (kept.agrees.copies disks id g f)))));
      across = λ b id h k reads found. of_reads id b h k (members_in old all_disks id k) (λ d is. is) reads found (kept.lasting.across b id h k reads found);
    }) kept

pub equalled_is_even : EqualledIsEven
equalled_is_even group status there old new facts valid within enough shows change equalled kept row lp b one on inside = even_there group status there old facts within enough shows kept new valid change row lp b one (equalled row lp b one inside) on inside

pub notes_may_go : NotesMayGo
notes_may_go group status there old new facts within enough shows none_behind even change kept = notes_gone group status there old facts within enough shows kept new none_behind even change

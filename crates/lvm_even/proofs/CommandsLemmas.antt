-- What group commands leave at rest.
use Rattle.std.proofs.Common.{◌≡◌, inl, inr, ⊎_elim, ℕ, ◌<◌, Bool, true, ◌&&◌, not, List, [], ◌∷◌, ◌++◌, Option, Some, refl, sym, ap, subst, ◌∙◌}
use Rattle.std.specs.Prelude.{IsTrue, IsFalse, is_some}
use Rattle.std.proofs.lemmas.Bool.{cases_Bool, not_from_false}
use Rattle.lvm_num.specs.declared.place.Pp.{Pp}
use Rattle.lvm_num.specs.declared.descriptor.Mode.{Mode}
use Rattle.lvm_num.specs.declared.descriptor.Mode.TheVariants.{Active, Passive, Off}
use Rattle.lvm_num.specs.declared.descriptor.LvRow.{LvRow}
use Rattle.lvm_num.specs.declared.descriptor.Descriptor.{Descriptor}
use Rattle.lvm_num.specs.declared.status.Status.{Status}
use Rattle.lvm_num.specs.Disks.{Disks}
use Rattle.lvm_num.specs.Descriptor.{copies_of}
use Rattle.lvm_num.specs.Geometry.{track_group_of, sector_of}
use Rattle.lvm_num.specs.Record.{Stamped}
use Rattle.lvm_num.specs.Status.{calls_stale, calls_dirty}
use Rattle.lvm_num.specs.Votes.{all_disks, CanWrite}
use Rattle.lvm_vol.specs.declared.entry.Vol.TheVariants.{Lv}
use Rattle.lvm_vol.specs.Facts.{Fact, Cut}
use Rattle.lvm_vol.specs.May.{known, IsValue}
use Rattle.lvm_kept.specs.Contents.{Contents}
use Rattle.lvm_kept.specs.Group.{passes, is_of, IsFound, members_in, ReadsBy, ReadsGroup, status_by, is_stale_by, fresh_on, block_at, IsBlockOf, is_named, IsOneOf, IsSome, HoldOne}
use Rattle.lvm_kept.specs.Kept.{MayDiffer, IsBlockKept, BlocksKept, Kept}
use Rattle.lvm_kept.specs.Committed.{IsWithinDisks}
use Rattle.lvm_kept.specs.Changes.{Serves}
use Rattle.lvm_kept.specs.Torn.{StatusesChange}
use Rattle.lvm_kept.proofs.CommittedLemmas.Finding.{finding_reads}
use Rattle.lvm_commit.proofs.passed.Steps.{clash, serving, put_keeps, member_of_parts}
use Rattle.lvm_commit.specs.passed.Steps.{VolumeIsServed}
use Rattle.lvm_commit.specs.Committed.{ShowsCommitted}
use Rattle.lvm_commit.specs.Laws.{IsLaterStatus}
use Rattle.lvm_commit.proofs.LawsOfDataLemmas.Free.{none_stands}
use Rattle.lvm_commit.proofs.LawsLemmas.Found.{shows_group, only_found, status_read}
use Rattle.lvm_even.proofs.Lists.{left_of, right_of, both_of, not_so, of_passing, one_passes}
use Rattle.lvm_even.specs.Even.{IsEven, MissingAreStale}
use Rattle.lvm_even.specs.Commands.{IsUsable, KeepsCopies, IsUniform, EvenStays, FreeKeepsEven, BehindStays, HasCopiesOf, CopiesServe, MayClean, CleaningFollows}
use Rattle.lvm_even.proofs.Rows.{at_passing, some_passing, none_passing, passes_none}

abbrev passing : Option (Stamped Status) → Disks → Pp → Bool
passing status set p = set p.disk && not (is_stale_by status p)

usable_of : (status : Option (Stamped Status)) (set : Disks) (p : Pp) → IsTrue (passing status set p) → IsUsable status set p
usable_of status set p is = record { in_there = left_of (set p.disk) (not (is_stale_by status p)) is; fresh = not_so (is_stale_by status p) (right_of (set p.disk) (not (is_stale_by status p)) is) }

passing_of : (status : Option (Stamped Status)) (set : Disks) (p : Pp) → IsUsable status set p → IsTrue (passing status set p)
passing_of status set p is = both_of (set p.disk) (not (is_stale_by status p)) is.in_there (not_from_false (is_stale_by status p) is.fresh)

-- ---- even

pub even_stays : EvenStays
even_stays old new group next was is before after size each even row lp b one on inside = ⊎_elim
    (λ (carried : KeepsCopies old new group was is before after row).
    let at : IsBlockOf group.mib carried.from lp b = record { inside = subst (λ (n : ℕ). lp < n) carried.lps here.inside; partition = here.partition } in
    let hold = even carried.from lp b carried.volume (λ off. on (sym carried.mode ∙ off)) at in
    subst (λ (m : ℕ). HoldOne new m (fresh_on after is row lp) b) (sym size) (
      hold.0,
      of_passing (λ p. block_at new group.mib p b ≡ hold.0) (passing is after) (copies_of row lp) (λ p copy use_.
          let usable = usable_of is after p use_ in
          let from = carried.copies lp p copy usable in
          carried.held lp b p here copy usable
          ∙ at_passing (λ p. block_at old group.mib p b ≡ hold.0) (passing was before) (copies_of carried.from lp) hold.1 p from.0 (passing_of was before p from.1)),
    ))
    (λ (uniform : IsUniform new group.mib is after row). subst (λ (m : ℕ). HoldOne new m (fresh_on after is row lp) b) (sym size) (uniform lp b here))
    (each row one on)
  where
    here : IsBlockOf group.mib row lp b
    here = subst (λ (m : ℕ). IsBlockOf m row lp b) size inside

pub free_keeps_even : FreeKeepsEven
free_keeps_even old new group was is before after fewer change even = even_stays old new group group was is before after refl
    (λ row one on. inl (record {
      from = row;
      volume = one;
      mode = refl;
      lps = refl;
      copies = λ lp p copy usable. (copy, fewer row lp p one copy usable);
      held = λ lp b p inside copy usable. ⊎_elim
          (λ same. same)
          (λ free. absurd (none_stands group free.0 row lp b p free.1 one copy free.2))
          (change p.disk (sector_of group.mib p.pp b));
    })) even

pub behind_stays : BehindStays
behind_stays old new group was is before after members fewer marks lost none row lp p one low copy member gone fresh = ⊎_elim
    (λ (there : IsTrue (before p.disk)). lost row lp p one low copy there gone fresh)
    (λ (away : IsFalse (before p.disk)). none_left row lp one (none row lp p one low copy (sym (members p.disk) ∙ member) away (marks row lp p one copy fresh)))
    (cases_Bool (before p.disk))
  where
    none_left : (row : LvRow) (lp : ℕ) → IsOneOf group.lvs row → fresh_on before was row lp ≡ [] → fresh_on after is row lp ≡ []
    none_left row lp one none = elim (none_passing (passing is after) (copies_of row lp)) [
      | inl empty ↦ empty
      | inr some ↦
          let usable = usable_of is after some.0 some.2 in
          absurd (passes_none (passing was before) (copies_of row lp) some.0 none some.1
          (passing_of was before some.0 (record { in_there = fewer some.0.disk usable.in_there; fresh = marks row lp some.0 one some.1 usable.fresh })))
    ]

-- ---- other copies of a volume

module _ (c : Contents) (group : Descriptor) (status : Status) (there : Disks) (facts : List Fact) (within : IsWithinDisks c) (enough : CanWrite group there) (shows : ShowsCommitted c group status there) (kept : Kept c facts) where
  abbrev stands : Option (Stamped Status)
  stands = Some shows.stands

  abbrev members : Disks
  members = members_in c all_disks group.id group

  is_member : (d : ℕ) → IsTrue (there d) → IsTrue (members d)
  is_member d is = member_of_parts c all_disks group.id group d refl (shows_group c group status there shows d is) (shows.room d is)

  by_all : ReadsBy c all_disks group.id group
  by_all = finding_reads c all_disks group.id group shows.found

  read_by : (b : Disks) (k : Descriptor) → ReadsGroup c b group.id k → status_by c b group.id k ≡ stands
  read_by b k reads = status_read c group status there shows facts within enough kept b k reads

  blocks_of : BlocksKept c facts group members stands
  blocks_of = subst (λ (o : Option (Stamped Status)). BlocksKept c facts group members o) (read_by all_disks group by_all.reads) (kept.lasting.across all_disks group.id group group by_all.reads (all_disks, shows.found))

  some_of : (row : LvRow) (lp : ℕ) → IsOneOf group.lvs row → lp < row.lps → IsSome (fresh_on members stands row lp)
  some_of row lp one low = subst (λ (o : Option (Stamped Status)). IsSome (fresh_on members o row lp)) (read_by all_disks group by_all.reads)
      (kept.lasting.some all_disks group.id group group by_all.reads (all_disks, shows.found) row lp one low)

  committed_stale : (p : Pp) → calls_stale shows.stands.value p ≡ calls_stale status p
  committed_stale p = ap (λ (s : Status). calls_stale s p) shows.committed

  -- ---- with further marks, or other copies: each copy that is left is one that was there
  fewer_kept : (row from : LvRow) (lp b : ℕ) (next : Option (Stamped Status)) → IsOneOf group.lvs from → IsBlockOf group.mib from lp b → row.number ≡ from.number → row.mode ≡ from.mode
      → ((p : Pp) → IsOneOf (copies_of row lp) p → IsTrue (passing next members p) → IsOneOf (copies_of from lp) p × IsTrue (passing stands members p))
      → (row.mode ≡ Passive → MayDiffer c stands from.number Passive [] (known (facts ++ Cut ∷ []) (Lv row.number) b) b → MayDiffer c next row.number Passive [] (known (facts ++ Cut ∷ []) (Lv row.number) b) b)
      → IsBlockKept c group.mib next row (fresh_on members next row lp) (known (facts ++ Cut ∷ []) (Lv row.number) b) b
  fewer_kept row from lp b next one inside number mode was dirty =
      let kept_from = subst (λ (n : ℕ). IsBlockKept c group.mib stands (record from { number = n }) (fresh_on members stands from lp) (known (facts ++ Cut ∷ []) (Lv n) b) b) (sym number) (blocks_of from lp b one inside) in
      record {
        allowed = of_passing (λ p. IsValue (known (facts ++ Cut ∷ []) (Lv row.number) b) (block_at c group.mib p b)) (passing next members) (copies_of row lp) (λ p copy use_. let w = was p copy use_ in
            at_passing (λ p. IsValue (known (facts ++ Cut ∷ []) (Lv row.number) b) (block_at c group.mib p b)) (passing stands members) (copies_of from lp) kept_from.allowed p w.0 w.1);
        equal = ⊎_elim
            (λ (hold : HoldOne c group.mib (fresh_on members stands from lp) b). inl (
              hold.0,
              of_passing (λ p. block_at c group.mib p b ≡ hold.0) (passing next members) (copies_of row lp) (λ p copy use_. let w = was p copy use_ in
                  at_passing (λ p. block_at c group.mib p b ≡ hold.0) (passing stands members) (copies_of from lp) hold.1 p w.0 w.1),
            ))
            (λ differ. inr (by row.mode refl (subst (λ (m : Mode). MayDiffer c stands row.number m (fresh_on members stands from lp) (known (facts ++ Cut ∷ []) (Lv row.number) b) b) (sym mode) differ)))
            kept_from.equal;
      }
    where
      by : (m : Mode) → row.mode ≡ m → MayDiffer c stands row.number m (fresh_on members stands from lp) (known (facts ++ Cut ∷ []) (Lv row.number) b) b
          → MayDiffer c next row.number m (fresh_on members next row lp) (known (facts ++ Cut ∷ []) (Lv row.number) b) b
      by Active is named = of_passing (λ p. IsTrue (is_named c p.disk row.number (track_group_of b))) (passing next members) (copies_of row lp) (λ p copy use_. let w = was p copy use_ in
          at_passing (λ p. IsTrue (is_named c p.disk row.number (track_group_of b))) (passing stands members) (copies_of from lp) named p w.0 w.1)
      by Passive is d = dirty is (subst (λ (n : ℕ). MayDiffer c stands n Passive [] (known (facts ++ Cut ∷ []) (Lv row.number) b) b) number d)
      by Off is loose = loose

  module _ (row : LvRow) (has : HasCopiesOf c group status row) where
    served_here : (lp b : ℕ) → IsBlockOf group.mib row lp b → IsBlockKept c group.mib stands row (fresh_on members stands row lp) (known (facts ++ Cut ∷ []) (Lv row.number) b) b
    served_here lp b inside = fewer_kept row has.from lp b stands has.volume (record { inside = subst (λ (n : ℕ). lp < n) has.lps inside.inside; partition = inside.partition }) has.number has.mode
        (λ p copy use_. (has.copies lp p copy (sym (committed_stale p) ∙ (usable_of stands members p use_).fresh), use_))
        (λ is d. subst (λ (n : ℕ). MayDiffer c stands n Passive [] (known (facts ++ Cut ∷ []) (Lv row.number) b) b) (sym has.number) d)

    pub served : VolumeIsServed c facts group row
    served = record {
      status = λ b k reads. ap is_some (read_by b k reads);
      blocks = λ b k reads lp n inside. subst (λ (o : Option (Stamped Status)). IsBlockKept c group.mib o row (fresh_on members o row lp) (known (facts ++ Cut ∷ []) (Lv row.number) n) n) (sym (read_by b k reads)) (served_here lp n inside);
      some = λ b k reads lp low. subst (λ (o : Option (Stamped Status)). IsSome (fresh_on members o row lp)) (sym (read_by b k reads))
          (let p = has.some lp low in one_passes (passing stands members) (copies_of row lp) p.0 p.1 (passing_of stands members p.0 (record { in_there = p.3; fresh = committed_stale p.0 ∙ p.2 })));
    }

  -- ---- the next status

  module _ (targets : Disks) (next : Stamped Status) (new : Contents) (in_there : (d : ℕ) → IsTrue (targets d) → IsTrue (there d)) (own : next.value.id ≡ group.id)
      (later : IsLaterStatus c group next) (change : StatusesChange targets next c new)
      (next_blocks : BlocksKept c facts group members (Some next)) (next_some : (row : LvRow) (lp : ℕ) → IsOneOf group.lvs row → lp < row.lps → IsSome (fresh_on members (Some next) row lp)) where
    abbrev id : ℕ
    id = group.id

    same_group : (k : Descriptor) → IsFound c id k → k ≡ group
    same_group k is = only_found c group status there shows facts within enough kept k is

    next_across : (k : Descriptor) → IsFound c id k → BlocksKept c facts k (members_in c all_disks id k) (Some next)
    next_across k is = subst (λ (g : Descriptor). BlocksKept c facts g (members_in c all_disks id g) (Some next)) (sym (same_group k is)) next_blocks

    serves : Serves c facts id next
    serves = serving c id next facts group same_group next_across next_some

    showing : (d : ℕ) → IsTrue (targets d) → passes (is_of id) (c.descriptor d) ≡ true
    showing d target = shows_group c group status there shows d (in_there d target)

    pub followed : Kept new facts
    followed = put_keeps c id next facts targets new change own showing later serves kept

  module _ (next : Stamped Status) (may : MayClean group shows.stands there next.value) (even : IsEven c group stands there) (none_behind : MissingAreStale c group stands there) where
    same_usable : (row : LvRow) (lp : ℕ) (p : Pp) → IsOneOf group.lvs row → IsOneOf (copies_of row lp) p → IsTrue (passing (Some next) members p) → IsTrue (passing stands members p)
    same_usable row lp p one copy use_ = let u = usable_of (Some next) members p use_ in passing_of stands members p (record { in_there = u.in_there; fresh = sym (may.stale row lp p one copy) ∙ u.fresh })

    -- where each logical partition has a usable copy, all fresh ones are
    all_usable : (row : LvRow) (lp : ℕ) (p : Pp) → IsOneOf group.lvs row → lp < row.lps → IsSome (fresh_on there stands row lp) → IsOneOf (copies_of row lp) p → IsTrue (passing stands members p) → IsTrue (passing stands there p)
    all_usable row lp p one low some copy use_ =
        let u = usable_of stands members p use_ in
        ⊎_elim
        (λ (is : IsTrue (there p.disk)). passing_of stands there p (record { in_there = is; fresh = u.fresh }))
        (λ (isnt : IsFalse (there p.disk)). absurd (subst IsSome (none_behind row lp p one low copy u.in_there isnt u.fresh) some))
        (cases_Bool (there p.disk))

    pub clean_blocks : BlocksKept c facts group members (Some next)
    clean_blocks row lp b one inside = by row.mode refl
      where
        still : (row.mode ≡ Passive → MayDiffer c stands row.number Passive [] (known (facts ++ Cut ∷ []) (Lv row.number) b) b → MayDiffer c (Some next) row.number Passive [] (known (facts ++ Cut ∷ []) (Lv row.number) b) b)
            → IsBlockKept c group.mib (Some next) row (fresh_on members (Some next) row lp) (known (facts ++ Cut ∷ []) (Lv row.number) b) b
        still dirty = fewer_kept row row lp b (Some next) one inside refl refl (λ p copy use_. (copy, same_usable row lp p one copy use_)) dirty

        -- the usable copies hold one value
        cleaned : row.mode ≡ Passive → IsSome (fresh_on there stands row lp) → IsBlockKept c group.mib (Some next) row (fresh_on members (Some next) row lp) (known (facts ++ Cut ∷ []) (Lv row.number) b) b
        cleaned is some =
            let hold = even row lp b one (λ off. not_passive (sym is ∙ off)) inside in
            record {
              allowed = of_passing (λ p. IsValue (known (facts ++ Cut ∷ []) (Lv row.number) b) (block_at c group.mib p b)) (passing (Some next) members) (copies_of row lp) (λ p copy use_.
                  at_passing (λ p. IsValue (known (facts ++ Cut ∷ []) (Lv row.number) b) (block_at c group.mib p b)) (passing stands members) (copies_of row lp) (blocks_of row lp b one inside).allowed p copy (same_usable row lp p one copy use_));
              equal = inl (
                hold.0,
                of_passing (λ p. block_at c group.mib p b ≡ hold.0) (passing (Some next) members) (copies_of row lp) (λ p copy use_.
                    at_passing (λ p. block_at c group.mib p b ≡ hold.0) (passing stands there) (copies_of row lp) hold.1 p copy (all_usable row lp p one inside.inside some copy (same_usable row lp p one copy use_))),
              );
            }
          where
            not_passive : Passive ≡ Off → ⊥
            not_passive e = absurd cc

        by : (m : Mode) → row.mode ≡ m → IsBlockKept c group.mib (Some next) row (fresh_on members (Some next) row lp) (known (facts ++ Cut ∷ []) (Lv row.number) b) b
        by Active is = still (λ soft d. absurd (let e = sym is ∙ soft in active_passive e))
          where
            active_passive : Active ≡ Passive → ⊥
            active_passive e = absurd cc
        by Off is = still (λ soft d. absurd (let e = sym is ∙ soft in off_passive e))
          where
            off_passive : Off ≡ Passive → ⊥
            off_passive e = absurd cc
        by Passive is = ⊎_elim
            (λ (dirty : IsTrue (calls_dirty shows.stands.value row.number)). ⊎_elim
            (λ (stays : IsTrue (calls_dirty next.value row.number)). still (λ soft d. stays))
            (λ some. cleaned is (some lp inside.inside))
            (may.dirty row one is dirty))
            (λ (tidy : IsFalse (calls_dirty shows.stands.value row.number)). still (λ soft d. absurd (clash (calls_dirty shows.stands.value row.number) d tidy)))
            (cases_Bool (calls_dirty shows.stands.value row.number))

    pub clean_some : (row : LvRow) (lp : ℕ) → IsOneOf group.lvs row → lp < row.lps → IsSome (fresh_on members (Some next) row lp)
    clean_some row lp one low =
        let p = some_passing (passing stands members) (copies_of row lp) (some_of row lp one low) in
        let u = usable_of stands members p.0 p.2 in
        one_passes (passing (Some next) members) (copies_of row lp) p.0 p.1 (passing_of (Some next) members p.0 (record { in_there = u.in_there; fresh = may.stale row lp p.0 one p.1 ∙ u.fresh }))

pub copies_serve : CopiesServe
copies_serve c group status there facts row within enough shows has kept = served c group status there facts within enough shows kept row has

pub cleaning_follows : CleaningFollows
cleaning_follows group status there targets next old new facts within enough shows in_there own may even none_behind later change kept =
    followed old group status there facts within enough shows kept targets next new in_there own later change
    (clean_blocks old group status there facts within enough shows kept next may even none_behind) (clean_some old group status there facts within enough shows kept next may even none_behind)

-- A volume of which some copies become a volume of their own.
use Rattle.std.proofs.Common.{◌≡◌, ◌⊎◌, inl, inr, ⊎_elim, ℕ, ◌<◌, Bool, true, false, ◌&&◌, ◌||◌, ◌==◌, not, List, [], ◌∷◌, ◌++◌, Option, Some, refl, sym, ap, subst, ◌∙◌, eq-eqb}
use Rattle.std.specs.Prelude.{IsTrue, IsFalse, is_some}
use Rattle.std.proofs.lemmas.Bool.{cases_Bool, not_from_false, eqb-true}
use Rattle.lvm_num.specs.declared.place.Pp.{Pp}
use Rattle.lvm_num.specs.declared.descriptor.Mode.{Mode}
use Rattle.lvm_num.specs.declared.descriptor.Mode.TheVariants.{Active, Passive, Off}
use Rattle.lvm_num.specs.declared.descriptor.LvRow.{LvRow}
use Rattle.lvm_num.specs.declared.descriptor.Descriptor.{Descriptor}
use Rattle.lvm_num.specs.declared.status.Status.{Status}
use Rattle.lvm_num.specs.Disks.{Disks}
use Rattle.lvm_num.specs.Geometry.{volume_blocks}
use Rattle.lvm_num.specs.Descriptor.{copies_of, volume_of}
use Rattle.lvm_num.specs.Record.{Stamped}
use Rattle.lvm_num.specs.Status.{calls_stale}
use Rattle.lvm_num.specs.Votes.{all_disks}
use Rattle.lvm_vol.specs.declared.entry.Vol.TheVariants.{Lv}
use Rattle.lvm_vol.specs.Facts.{Fact, Cut}
use Rattle.lvm_vol.specs.May.{Known, known, IsValue}
use Rattle.lvm_vol.specs.Standing.{Standing, Absent, Open, Settled, Shape, Volume, volumes_in}
use Rattle.lvm_kept.specs.Contents.{Contents}
use Rattle.lvm_kept.specs.Group.{ReadsBy, ReadsGroup, members_in, status_by, is_stale_by, fresh_on, block_at, IsBlockOf, IsOneOf, IsSome, HoldOne}
use Rattle.lvm_kept.specs.Kept.{HasShape, StandsAs, MayDiffer, IsBlockKept, BlocksKept, Kept}
use Rattle.lvm_kept.proofs.CommittedLemmas.Finding.{finding_reads}
use Rattle.lvm_steps.specs.Committing.{VolumeIsServed}
use Rattle.lvm_steps.proofs.GroupLemmas.Members.{member_of_parts}
use Rattle.lvm_commit.proofs.passed.Steps.{clash}
use Rattle.lvm_commit.proofs.LawsLemmas.Found.{shows_group, status_read}
use Rattle.lvm_even.proofs.Lists.{left_of, right_of, both_of, of_passing, one_passes}
use Rattle.lvm_even.specs.Commands.{KeepsCopies}
use Rattle.lvm_even.proofs.CommandsLemmas.{copies_serve, even_stays}
use Rattle.lvm_even.proofs.Rows.{at_passing}
use Rattle.lvm_parting.specs.Entry.{SameKnown}
use Rattle.lvm_parting.proofs.EntryLemmas.{known_after_split, stands_after_split}
use Rattle.lvm_parted.specs.Parted.{HasPartOf, MaySplit, IsAtSplit, SplitServes, SplitMayBeCommitted, SplitStaysEven, SplitLeavesNone, split_in}

part_of_block : (mib : ℕ) (from row : LvRow) (lp b : ℕ) → HasPartOf from row → IsBlockOf mib row lp b → IsBlockOf mib from lp b
part_of_block mib from row lp b part inside = record { inside = subst (λ (n : ℕ). lp < n) part.lps inside.inside; partition = inside.partition }

-- ---- the blocks are served

module _ (c : Contents) (group : Descriptor) (status : Status) (there : Disks) (facts : List Fact) (from stays new : LvRow) (is : IsAtSplit c group status there facts from stays new) where
  abbrev may : MaySplit group status there from stays new
  may = is.may

  abbrev stands : Option (Stamped Status)
  stands = Some is.shows.stands

  abbrev after : List Fact
  after = split_in facts from new

  abbrev members : Disks
  members = members_in c all_disks group.id group

  abbrev passing : Disks → Pp → Bool
  passing set p = set p.disk && not (is_stale_by stands p)

  on_member : (d : ℕ) → IsTrue (there d) → IsTrue (members d)
  on_member d here = member_of_parts c all_disks group.id group d refl (shows_group c group status there is.shows d here) (is.shows.room d here)

  stale_is : (p : Pp) → is_stale_by stands p ≡ calls_stale status p
  stale_is p = ap (λ (s : Status). calls_stale s p) is.shows.committed

  -- a fresh copy of what stays is on a member that is there, as another copy is usable
  stays_some : (lp : ℕ) → lp < stays.lps → (p : Pp) × IsOneOf (copies_of stays lp) p × IsFalse (calls_stale status p) × IsTrue (members p.disk)
  stays_some lp low =
      let p = may.fresh lp low in
      let low_from : lp < from.lps = subst (λ (n : ℕ). lp < n) may.stays_part.lps low in
      let q = may.some lp (subst (λ (n : ℕ). lp < n) (sym may.new_part.lps) low_from) in
      let usable = may.usable lp q.0 q.1 in (
        p.0,
        p.1,
        p.2,
        on_member p.0.disk (⊎_elim
            (λ (here : IsTrue (there p.0.disk)). here)
            (λ (gone : IsFalse (there p.0.disk)). absurd (clash (calls_stale status p.0)
            (is.left from lp p.0 q.0 may.volume low_from (may.stays_part.copies lp p.0 p.1) gone (may.new_part.copies lp q.0 q.1) usable.0 usable.1) p.2))
            (cases_Bool (there p.0.disk))),
      )

  pub stays_served : VolumeIsServed c after group stays
  stays_served = copies_serve c group status there after stays is.within is.enough is.shows (record {
    from = from;
    volume = may.volume;
    number = may.number;
    mode = may.stays_part.mode;
    lps = may.stays_part.lps;
    copies = λ lp p copy fresh. may.stays_part.copies lp p copy;
    some = stays_some;
  }) is.kept

  -- ---- the new one

  by_all : ReadsBy c all_disks group.id group
  by_all = finding_reads c all_disks group.id group is.shows.found

  read_by : (b : Disks) (k : Descriptor) → ReadsGroup c b group.id k → status_by c b group.id k ≡ stands
  read_by b k reads = status_read c group status there is.shows facts is.within is.enough is.before b k reads

  blocks_of : BlocksKept c facts group members stands
  blocks_of = subst (λ (o : Option (Stamped Status)). BlocksKept c facts group members o) (read_by all_disks group by_all.reads) (is.before.lasting.across all_disks group.id group group by_all.reads (all_disks, is.shows.found))

  -- the copies of the new one are usable ones of the other
  from_usable : (set : Disks) (lp : ℕ) (p : Pp) → IsOneOf (copies_of new lp) p → IsTrue (passing set p) → IsOneOf (copies_of from lp) p × IsTrue (passing set p)
  from_usable set lp p copy passes = (may.new_part.copies lp p copy, passes)

  is_usable : (lp : ℕ) (p : Pp) → IsOneOf (copies_of new lp) p → IsTrue (passing there p)
  is_usable lp p copy = let u = may.usable lp p copy in both_of (there p.disk) (not (is_stale_by stands p)) u.0 (not_from_false (is_stale_by stands p) (stale_is p ∙ u.1))

  abbrev was : ℕ → Known
  was b = known (facts ++ Cut ∷ []) (Lv from.number) b

  abbrev now : ℕ → Known
  now b = known (after ++ Cut ∷ []) (Lv new.number) b

  same : (b : ℕ) → now b ≡ was b
  same b = let it : SameKnown facts from.number new.number b = known_after_split facts from.number new.number b may.apart (is.closed b) in it.new

  new_block : (lp b : ℕ) → IsBlockOf group.mib new lp b → IsBlockKept c group.mib stands new (fresh_on members stands new lp) (was b) b
  new_block lp b inside =
      let kept = blocks_of from lp b may.volume (part_of_block group.mib from new lp b may.new_part inside) in
      record {
        allowed = of_passing (λ p. IsValue (was b) (block_at c group.mib p b)) (passing members) (copies_of new lp) (λ p copy passes.
            at_passing (λ p. IsValue (was b) (block_at c group.mib p b)) (passing members) (copies_of from lp) kept.allowed p (may.new_part.copies lp p copy) passes);
        equal = by from.mode refl kept.equal;
      }
    where
      one_of : HoldOne c group.mib (fresh_on there stands from lp) b → HoldOne c group.mib (fresh_on members stands new lp) b
      one_of hold = (
        hold.0,
        of_passing (λ p. block_at c group.mib p b ≡ hold.0) (passing members) (copies_of new lp) (λ p copy passes.
            at_passing (λ p. block_at c group.mib p b ≡ hold.0) (passing there) (copies_of from lp) hold.1 p (may.new_part.copies lp p copy) (is_usable lp p copy)),
      )

      fewer : HoldOne c group.mib (fresh_on members stands from lp) b → HoldOne c group.mib (fresh_on members stands new lp) b
      fewer hold = (
        hold.0,
        of_passing (λ p. block_at c group.mib p b ≡ hold.0) (passing members) (copies_of new lp) (λ p copy passes.
            at_passing (λ p. block_at c group.mib p b ≡ hold.0) (passing members) (copies_of from lp) hold.1 p (may.new_part.copies lp p copy) passes),
      )

      evened : (from.mode ≡ Off → ⊥) → HoldOne c group.mib (fresh_on members stands new lp) b
      evened on = one_of (is.even from lp b may.volume on (part_of_block group.mib from new lp b may.new_part inside))

      by : (m : Mode) → from.mode ≡ m → HoldOne c group.mib (fresh_on members stands from lp) b ⊎ MayDiffer c stands from.number from.mode (fresh_on members stands from lp) (was b) b
          → HoldOne c group.mib (fresh_on members stands new lp) b ⊎ MayDiffer c stands new.number new.mode (fresh_on members stands new lp) (was b) b
      by Active mode equal = inl (evened (λ off. active_on (sym mode ∙ off)))
        where
          active_on : Active ≡ Off → ⊥
          active_on e = absurd cc
      by Passive mode equal = inl (evened (λ off. passive_on (sym mode ∙ off)))
        where
          passive_on : Passive ≡ Off → ⊥
          passive_on e = absurd cc
      by Off mode equal = ⊎_elim
          (λ (hold : HoldOne c group.mib (fresh_on members stands from lp) b). inl (fewer hold))
          (λ differ. inr (subst (λ (m : Mode). MayDiffer c stands new.number m (fresh_on members stands new lp) (was b) b) (sym (may.new_part.mode ∙ mode))
          (subst (λ (m : Mode). MayDiffer c stands from.number m (fresh_on members stands from lp) (was b) b) mode differ)))
          equal

  pub new_served : VolumeIsServed c after group new
  new_served = record {
    status = λ b k reads. ap is_some (read_by b k reads);
    blocks = λ b k reads lp n inside. subst (λ (o : Option (Stamped Status)). IsBlockKept c group.mib o new (fresh_on members o new lp) (now n) n) (sym (read_by b k reads))
        (subst (λ (k : Known). IsBlockKept c group.mib stands new (fresh_on members stands new lp) k n) (sym (same n)) (new_block lp n inside));
    some = λ b k reads lp low. subst (λ (o : Option (Stamped Status)). IsSome (fresh_on members o new lp)) (sym (read_by b k reads))
        (let p = may.some lp low in
        let u = is_usable lp p.0 p.1 in
        one_passes (passing members) (copies_of new lp) p.0 p.1
        (both_of (members p.0.disk) (not (is_stale_by stands p.0)) (on_member p.0.disk (left_of (there p.0.disk) (not (is_stale_by stands p.0)) u)) (right_of (there p.0.disk) (not (is_stale_by stands p.0)) u)));
  }

pub split_serves : SplitServes
split_serves c group status there facts from stays new is = (stays_served c group status there facts from stays new is, new_served c group status there facts from stays new is)

-- ---- the descriptor

-- a volume that is there has its shape
shape_of : (mib : ℕ) (standing : Standing) (shape : Option Shape) (row : LvRow) → StandsAs mib standing shape (Some row) → HasShape mib shape row
shape_of mib Settled shape row stands = stands
shape_of mib Open shape row stands = stands
shape_of mib Absent shape row stands = absurd stands

stands_like : (mib : ℕ) (standing : Standing) (shape : Option Shape) (from row : LvRow) → HasPartOf from row → StandsAs mib standing shape (Some from) → StandsAs mib standing shape (Some row)
stands_like mib Settled shape from row part stands = like mib shape from row part stands
  where
    like : (mib : ℕ) (shape : Option Shape) (from row : LvRow) → HasPartOf from row → HasShape mib shape from → HasShape mib shape row
    like mib shape from row part has = has ∙ (λ t. Some (record { blocks = volume_blocks mib (sym part.lps t); mode = sym part.mode t }))
stands_like mib Open shape from row part stands = like mib shape from row part stands
  where
    like : (mib : ℕ) (shape : Option Shape) (from row : LvRow) → HasPartOf from row → HasShape mib shape from → HasShape mib shape row
    like mib shape from row part has = has ∙ (λ t. Some (record { blocks = volume_blocks mib (sym part.lps t); mode = sym part.mode t }))
stands_like mib Absent shape from row part stands = absurd stands

either_of : (a b : Bool) → IsTrue (a || b) → IsTrue a ⊎ IsTrue b
either_of true b is = inl refl
either_of false b is = inr is

neither_of : (a b : Bool) → IsFalse (a || b) → IsFalse a × IsFalse b
neither_of true b is = absurd cc
neither_of false b is = (refl, is)

isnt_of : (n lv : ℕ) → IsFalse (n == lv) → n ≡ lv → ⊥
isnt_of n lv out same = clash (n == lv) (eq-eqb n lv same) out

pub split_may_be_committed : SplitMayBeCommitted
split_may_be_committed c group next status there facts from stays new is split = record {
  differs = record {
    alone = split.alone;
    rows = λ row one out. let two = neither_of (row.number == from.number) (row.number == new.number) out in ⊎_elim
        (λ (was : IsOneOf group.lvs row × ((row.number ≡ from.number → ⊥) × (row.number ≡ new.number → ⊥))). was.0)
        (⊎_elim
        (λ (it : row ≡ stays). absurd (isnt_of row.number from.number two.0 (ap (λ (r : LvRow). r.number) it ∙ is.may.number)))
        (λ (it : row ≡ new). absurd (isnt_of row.number new.number two.1 (ap (λ (r : LvRow). r.number) it))))
        (split.rows row one);
    volumes = λ n out. let two = neither_of (n == from.number) (n == new.number) out in split.volumes n (isnt_of n from.number two.0) (isnt_of n new.number two.1);
  };
  stands = λ n among. ⊎_elim
      (λ (its : IsTrue (n == from.number)). subst (λ (m : ℕ). StandsAs group.mib (volumes_in after m).standing (volumes_in after m).shape (volume_of next m)) (sym (eqb-true n from.number its)) from_stands)
      (λ (its : IsTrue (n == new.number)). subst (λ (m : ℕ). StandsAs group.mib (volumes_in after m).standing (volumes_in after m).shape (volume_of next m)) (sym (eqb-true n new.number its)) new_stands)
      (either_of (n == from.number) (n == new.number) among);
  served = λ row one among. ⊎_elim
      (λ (was : IsOneOf group.lvs row × ((row.number ≡ from.number → ⊥) × (row.number ≡ new.number → ⊥))). absurd (⊎_elim
      (λ its. was.1.0 (eqb-true row.number from.number its))
      (λ its. was.1.1 (eqb-true row.number new.number its))
      (either_of (row.number == from.number) (row.number == new.number) among)))
      (⊎_elim
      (λ (it : row ≡ stays). subst (λ (r : LvRow). VolumeIsServed c after group r) (sym it) (stays_served c group status there facts from stays new is))
      (λ (it : row ≡ new). subst (λ (r : LvRow). VolumeIsServed c after group r) (sym it) (new_served c group status there facts from stays new is)))
      (split.rows row one);
}
  where
    after : List Fact
    after = split_in facts from new

    stood : (l : List Fact) → Kept c l → StandsAs group.mib (volumes_in l from.number).standing (volumes_in l from.number).shape (Some from)
    stood l kept = subst (λ (o : Option LvRow). StandsAs group.mib (volumes_in l from.number).standing (volumes_in l from.number).shape o) split.was (kept.agrees.volumes all_disks group.id group is.shows.found from.number)

    from_stands : StandsAs group.mib (volumes_in after from.number).standing (volumes_in after from.number).shape (volume_of next from.number)
    from_stands = subst (λ (o : Option LvRow). StandsAs group.mib (volumes_in after from.number).standing (volumes_in after from.number).shape o) (sym split.is)
        (stands_like group.mib (volumes_in after from.number).standing (volumes_in after from.number).shape from stays is.may.stays_part (stood after is.kept))

    new_stands : StandsAs group.mib (volumes_in after new.number).standing (volumes_in after new.number).shape (volume_of next new.number)
    new_stands = subst (λ (o : Option LvRow). StandsAs group.mib (volumes_in after new.number).standing (volumes_in after new.number).shape o) (sym split.more)
        (subst (λ (v : Volume). StandsAs group.mib v.standing v.shape (Some new)) (sym (stands_after_split facts from.number new.number).new)
        (stands_like group.mib Open (volumes_in facts from.number).shape from new is.may.new_part
        (shape_of group.mib (volumes_in facts from.number).standing (volumes_in facts from.number).shape from (stood facts is.before))))

-- ---- what is left

pub split_stays_even : SplitStaysEven
split_stays_even c group next status there from stays new volume stays_part new_part split even = even_stays c c group next status status there there (ap (λ (d : Descriptor). d.mib) split.alone)
    (λ row one on. inl (⊎_elim
    (λ (was : IsOneOf group.lvs row × ((row.number ≡ from.number → ⊥) × (row.number ≡ new.number → ⊥))). itself row was.0)
    (⊎_elim
    (λ (it : row ≡ stays). subst (λ (r : LvRow). KeepsCopies c c group status status there there r) (sym it) (part stays stays_part))
    (λ (it : row ≡ new). subst (λ (r : LvRow). KeepsCopies c c group status status there there r) (sym it) (part new new_part)))
    (split.rows row one)))
    even
  where
    itself : (row : LvRow) → IsOneOf group.lvs row → KeepsCopies c c group status status there there row
    itself row one = record { from = row; volume = one; mode = refl; lps = refl; copies = λ lp p copy use_. (copy, use_); held = λ lp b p inside copy use_. refl }

    part : (row : LvRow) → HasPartOf from row → KeepsCopies c c group status status there there row
    part row has = record { from = from; volume = volume; mode = sym has.mode; lps = has.lps; copies = λ lp p copy use_. (has.copies lp p copy, use_); held = λ lp b p inside copy use_. refl }

pub split_leaves_none : SplitLeavesNone
split_leaves_none group next status there from stays new may split left row lp p q one low copy gone other here fresh = ⊎_elim
    (λ (was : IsOneOf group.lvs row × ((row.number ≡ from.number → ⊥) × (row.number ≡ new.number → ⊥))). left row lp p q was.0 low copy gone other here fresh)
    (⊎_elim
    (λ (it : row ≡ stays). of_part stays may.stays_part it)
    (λ (it : row ≡ new). of_part new may.new_part it))
    (split.rows row one)
  where
    of_part : (r : LvRow) → HasPartOf from r → row ≡ r → IsTrue (calls_stale status p)
    of_part r has it = left from lp p q may.volume (subst (λ (n : ℕ). lp < n) (ap (λ (x : LvRow). x.lps) it ∙ has.lps) low)
        (has.copies lp p (subst (λ (x : LvRow). IsOneOf (copies_of x lp) p) it copy)) gone (has.copies lp q (subst (λ (x : LvRow). IsOneOf (copies_of x lp) q) it other)) here fresh

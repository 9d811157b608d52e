-- The two disks that are worked by hand keep their history.
use Rattle.std.proofs.Common.{◌≡◌, inl, inr, ⊎_elim, ℕ, ◌<◌, ◌/◌, Bool, true, false, ◌&&◌, List, [], ◌∷◌, ◌++◌, Option, Some, None, refl, sym, ap, subst, ◌∙◌, arith}
use Rattle.std.specs.Prelude.{IsTrue, ◌==◌, nat_lt, if◌then◌else◌, is_some}
use Rattle.std.proofs.lemmas.Option.{same_Some}
use Rattle.std.proofs.lemmas.Bool.Decides.{nat_tests}
use Rattle.lvm_num.specs.declared.place.Pp.{Pp}
use Rattle.lvm_num.specs.declared.descriptor.Mode.{Mode}
use Rattle.lvm_num.specs.declared.descriptor.Mode.TheVariants.{Active, Passive, Off}
use Rattle.lvm_num.specs.declared.descriptor.LvRow.{LvRow}
use Rattle.lvm_num.specs.declared.descriptor.Descriptor.{Descriptor}
use Rattle.lvm_num.specs.declared.status.Status.{Status}
use Rattle.lvm_num.specs.Bits.{has_bit}
use Rattle.lvm_num.specs.Disks.{Disks}
use Rattle.lvm_num.specs.declared.descriptor.PvRow.{PvRow}
use Rattle.lvm_num.specs.Descriptor.{member_of, volume_of}
use Rattle.lvm_num.specs.Record.{Stamped, newest_below}
use Rattle.lvm_num.specs.Votes.{all_disks, votes_by, CanRead}
use Rattle.lvm_num.proofs.VotesLemmas.{read_meets_read}
use Rattle.lvm_num.proofs.Booleans.{some_if as behind}
use Rattle.lvm_vol.specs.Facts.{Fact, Cut}
use Rattle.lvm_vol.specs.May.{Known, known}
use Rattle.lvm_vol.specs.declared.entry.Vol.TheVariants.{Lv}
use Rattle.lvm_vol.specs.Standing.{volumes_in}
use Rattle.lvm_kept.specs.Contents.{Contents}
use Rattle.lvm_kept.specs.Examples.{stamped, mirror, two, either_of}
use Rattle.lvm_kept.specs.Group.{descriptor_among, is_voter, has_quorum, status_among, Finds, IsFound, ReadsGroup, ReadsBy, members_in, status_by, fresh_on, fresh, IsOneOf, IsSome, HoldOne}
use Rattle.lvm_kept.specs.Kept.{StandsAs, HasStatus, MayDiffer, IsBlockKept, BlocksKept, Kept}
use Rattle.lvm_kept.proofs.CommittedLemmas.Finding.{finding_reads}
use Rattle.lvm_kept.proofs.ChangesLemmas.Restamping.{fewer_blocks}
use Rattle.lvm_even.proofs.MembersLemmas.{shown}
use Rattle.lvm_even.proofs.Lists.{right_of}
use Rattle.lvm_even.specs.Examples.{Pair, status_of, shown_by}
use Rattle.lvm_even.proofs.ExamplesLemmas.Slots.{first_partition}

-- a block of it lies below 2,048
pub block_low : (b : ℕ) → b / 2048 ≡ 0 → IsTrue (nat_lt b 2048)
block_low b is = grind (arith, nat_tests)

abbrev pub both_copies : List Pp
both_copies = record { disk = 0; pp = 0 } ∷ record { disk = 1; pp = 0 } ∷ []

module _ (x : Pair) where
  abbrev c : Contents
  c = shown_by x

  abbrev group : Descriptor
  group = two x.mode

  abbrev st : Stamped Status
  st = status_of x

  pub the_descriptor : (d : ℕ) (r : Stamped Descriptor) → c.descriptor d ≡ Some r → r ≡ stamped 2 group
  the_descriptor d r e = behind (either_of 0 1 d) (stamped 2 group) r e

  pub the_status : (d : ℕ) (r : Stamped Status) → c.status d ≡ Some r → r ≡ st
  the_status d r e = behind (either_of 0 1 d) st r e

  pub id_is : (id : ℕ) (g : Descriptor) → IsFound c id g → id ≡ 50
  id_is id g is = let s = shown c is.0 id g is.1 in sym s.of ∙ ap (λ (r : Stamped Descriptor). r.value.id) (the_descriptor s.disk s.newest s.there)

  pub group_is : (id : ℕ) (g : Descriptor) → IsFound c id g → g ≡ group
  group_is id g is = let s = shown c is.0 id g is.1 in sym s.is ∙ ap (λ (r : Stamped Descriptor). r.value) (the_descriptor s.disk s.newest s.there)

  pub found_by_all : Finds c all_disks 50 group
  unfolding has_quorum is_voter descriptor_among newest_below votes_by
  found_by_all = record { quorum = refl; newest = stamped 2 group; found = refl; is = refl }

  -- of any two disks: the first or both can read, and read the status
  abbrev pick : Bool → Bool → Disks
  pick s t d = if d == 0 then s else t

  of_two_disks : (s t : Bool) → CanRead group (members_in c (pick s t) 50 group) → status_by c (pick s t) 50 group ≡ Some st
  unfolding newest_below votes_by
  of_two_disks true true enough = refl
  of_two_disks true false enough = refl
  of_two_disks false true enough = absurd cc
  of_two_disks false false enough = absurd cc

  status_at : (b : Disks) → CanRead group (members_in c b 50 group) → status_by c b 50 group ≡ Some st
  unfolding newest_below votes_by
  status_at b enough = of_two_disks (b 0) (b 1) enough

  pub status_read : (b : Disks) (id : ℕ) (h : Descriptor) → ReadsGroup c b id h → status_by c b id h ≡ Some st
  status_read b id h reads =
      let i = id_is id h reads.found in
      let g = group_is id h reads.found in
      subst (λ (n : ℕ). status_by c b n h ≡ Some st) (sym i)
      (subst (λ (k : Descriptor). status_by c b 50 k ≡ Some st) (sym g)
      (status_at b (subst (λ (k : Descriptor). CanRead k (members_in c b 50 k)) g (subst (λ (n : ℕ). CanRead h (members_in c b n h)) i reads.enough))))

  -- ---- the volume

  pub the_row : (row : LvRow) → IsOneOf group.lvs row → row ≡ mirror x.mode
  the_row row (inl is) = is
  the_row row (inr none) = absurd none

  -- its fresh copies are both, or the first where the second is stale
  fresh_if : (t : Bool) → fresh_on (members_in c all_disks 50 group) (Some (status_of (record x { lost = t }))) (mirror x.mode) 0 ≡ (if t then record { disk = 0; pp = 0 } ∷ [] else both_copies)
  unfolding has_bit
  fresh_if true = refl
  fresh_if false = refl

  fresh_copies : fresh_on (members_in c all_disks 50 group) (Some st) (mirror x.mode) 0 ≡ (if x.lost then record { disk = 0; pp = 0 } ∷ [] else both_copies)
  fresh_copies = fresh_if x.lost

  some_if : (lost : Bool) → IsSome (if lost then record { disk = 0; pp = 0 } ∷ [] else both_copies)
  some_if true = tt
  some_if false = tt

  all_some : (row : LvRow) (lp : ℕ) → IsOneOf group.lvs row → lp < row.lps → IsSome (fresh_on (members_in c all_disks 50 group) (Some st) row lp)
  all_some row lp one low =
      let is = the_row row one in
      let none = first_partition lp (subst (λ (r : LvRow). lp < r.lps) is low) in
      subst (λ (r : LvRow). IsSome (fresh_on (members_in c all_disks 50 group) (Some st) r lp)) (sym is)
      (subst (λ (n : ℕ). IsSome (fresh_on (members_in c all_disks 50 group) (Some st) (mirror x.mode) n)) (sym none)
      (subst IsSome (sym fresh_copies) (some_if x.lost)))

  -- two sets that can read share a member
  common : (a b : Disks) (id : ℕ) (g h : Descriptor) → ReadsGroup c a id g → ReadsGroup c b id h → (d : ℕ) × IsTrue (members_in c a id g d) × IsTrue (members_in c b id h d)
  common a b id g h r s =
      let one : g ≡ group = group_is id g r.found in
      let other : h ≡ group = group_is id h s.found in
      subst (λ (k : Descriptor). (d : ℕ) × IsTrue (members_in c a id k d) × IsTrue (members_in c b id h d)) (sym one)
      (subst (λ (k : Descriptor). (d : ℕ) × IsTrue (members_in c a id group d) × IsTrue (members_in c b id k d)) (sym other)
      (let both = read_meets_read group (members_in c a id group) (members_in c b id group) (omega arith)
      (subst (λ (k : Descriptor). CanRead k (members_in c a id k)) one r.enough) (subst (λ (k : Descriptor). CanRead k (members_in c b id k)) other s.enough) in
      (both.0, both.2, both.3)))

  -- both disks show a descriptor
  none_without : (d : ℕ) → d < 2 → c.descriptor d ≡ None → ⊥
  none_without d low none = by (d == 0) (d == 1) refl refl none
    where
      by : (s t : Bool) → (d == 0) ≡ s → (d == 1) ≡ t → (if (if s then true else t) then Some (stamped 2 group) else None) ≡ None → ⊥
      by true t e f none = absurd cc
      by false true e f none = absurd cc
      by false false e f none = grind (arith, nat_tests)

  by_all : ReadsBy c all_disks 50 group
  by_all = finding_reads c all_disks 50 group found_by_all

  available : (row : LvRow) (lp : ℕ) → row ≡ mirror x.mode → lp < row.lps → IsSome (fresh c all_disks 50 row lp)
  available row lp is low =
      subst (λ (v : Disks). IsSome (fresh_on v (status_among c all_disks 50) row lp)) (sym by_all.voters)
      (subst (λ (o : Option (Stamped Status)). IsSome (fresh_on (members_in c all_disks 50 group) o row lp)) (sym (by_all.status ∙ status_read all_disks 50 group by_all.reads))
      (all_some row lp (inl is) low))

  module _ (facts : List Fact) where
    abbrev k : ℕ → Known
    k b = known (facts ++ Cut ∷ []) (Lv 1) b

    of_first : (b : ℕ) → IsBlockKept c 1 (Some st) (mirror x.mode) both_copies (k b) b → IsBlockKept c 1 (Some st) (mirror x.mode) (record { disk = 0; pp = 0 } ∷ []) (k b) b
    of_first b kept = record { allowed = (kept.allowed.0, tt); equal = ⊎_elim (λ (hold : HoldOne c 1 both_copies b). inl (hold.0, (hold.1.0, tt))) (λ differ. inr (by x.mode differ)) kept.equal }
      where
        by : (m : Mode) → MayDiffer c (Some st) 1 m both_copies (k b) b → MayDiffer c (Some st) 1 m (record { disk = 0; pp = 0 } ∷ []) (k b) b
        by Active named = (named.0, tt)
        by Passive dirty = dirty
        by Off loose = loose

    if_lost : (lost : Bool) (b : ℕ) → IsBlockKept c 1 (Some st) (mirror x.mode) both_copies (k b) b → IsBlockKept c 1 (Some st) (mirror x.mode) (if lost then record { disk = 0; pp = 0 } ∷ [] else both_copies) (k b) b
    if_lost true b kept = of_first b kept
    if_lost false b kept = kept

    module _ (each : (b : ℕ) → IsTrue (nat_lt b 2048) → IsBlockKept c 1 (Some st) (mirror x.mode) both_copies (k b) b) where
      on_all : (b : ℕ) → IsTrue (nat_lt b 2048) → IsBlockKept c 1 (Some st) (mirror x.mode) (fresh_on (members_in c all_disks 50 group) (Some st) (mirror x.mode) 0) (k b) b
      on_all b low = subst (λ (ps : List Pp). IsBlockKept c 1 (Some st) (mirror x.mode) ps (k b) b) (sym fresh_copies) (if_lost x.lost b (each b low))

      all_blocks : BlocksKept c facts group (members_in c all_disks 50 group) (Some st)
      all_blocks row lp b one inside =
          let is = the_row row one in
          let none = first_partition lp (subst (λ (r : LvRow). lp < r.lps) is inside.inside) in
          subst (λ (r : LvRow). IsBlockKept c 1 (Some st) r (fresh_on (members_in c all_disks 50 group) (Some st) r lp) (known (facts ++ Cut ∷ []) (Lv r.number) b) b) (sym is)
          (subst (λ (n : ℕ). IsBlockKept c 1 (Some st) (mirror x.mode) (fresh_on (members_in c all_disks 50 group) (Some st) (mirror x.mode) n) (k b) b) (sym none)
          (on_all b (block_low b (inside.partition ∙ none))))

      blocks_by : (set : Disks) → ((d : ℕ) → IsTrue (set d) → IsTrue (members_in c all_disks 50 group d)) → BlocksKept c facts group set (Some st)
      blocks_by set within = fewer_blocks c set (members_in c all_disks 50 group) within facts group (Some st) all_blocks

      within_all : (disks : Disks) (d : ℕ) → IsTrue (members_in c disks 50 group d) → IsTrue (members_in c all_disks 50 group d)
      within_all disks d is = right_of (disks d) (members_in c all_disks 50 group d) (moved (disks d) _ _ is)
        where
          moved : (p q r : Bool) → IsTrue (p && q && r) → IsTrue (p && (true && q && r))
          moved true q r h = h
          moved false q r h = h

      copies_agree : (disks : Disks) (id : ℕ) (g : Descriptor) → Finds c disks id g → BlocksKept c facts g (is_voter c disks id) (status_among c disks id)
      copies_agree disks id g f =
          let reads : ReadsBy c disks id g = finding_reads c disks id g f in
          let i = id_is id g (disks, f) in
          let same = group_is id g (disks, f) in
          subst (λ (v : Disks). BlocksKept c facts g v (status_among c disks id)) (sym reads.voters)
          (subst (λ (o : Option (Stamped Status)). BlocksKept c facts g (members_in c disks id g) o) (sym (reads.status ∙ status_read disks id g reads.reads))
          (subst (λ (n : ℕ). BlocksKept c facts g (members_in c disks n g) (Some st)) (sym i)
          (subst (λ (h : Descriptor). BlocksKept c facts h (members_in c disks 50 h) (Some st)) (sym same)
          (blocks_by (members_in c disks 50 group) (within_all disks)))))

      across : (b : Disks) (id : ℕ) (h g : Descriptor) → ReadsGroup c b id h → IsFound c id g → BlocksKept c facts g (members_in c all_disks id g) (status_by c b id h)
      across b id h g reads found =
          subst (λ (o : Option (Stamped Status)). BlocksKept c facts g (members_in c all_disks id g) o) (sym (status_read b id h reads))
          (subst (λ (n : ℕ). BlocksKept c facts g (members_in c all_disks n g) (Some st)) (sym (id_is id g found))
          (subst (λ (k : Descriptor). BlocksKept c facts k (members_in c all_disks 50 k) (Some st)) (sym (group_is id g found)) all_blocks))

      some : (b : Disks) (id : ℕ) (h g : Descriptor) → ReadsGroup c b id h → IsFound c id g → (row : LvRow) (lp : ℕ) → IsOneOf g.lvs row → lp < row.lps → IsSome (fresh_on (members_in c all_disks id g) (status_by c b id h) row lp)
      some b id h g reads found row lp =
          subst (λ (o : Option (Stamped Status)). IsOneOf g.lvs row → lp < row.lps → IsSome (fresh_on (members_in c all_disks id g) o row lp)) (sym (status_read b id h reads))
          (subst (λ (n : ℕ). IsOneOf g.lvs row → lp < row.lps → IsSome (fresh_on (members_in c all_disks n g) (Some st) row lp)) (sym (id_is id g found))
          (subst (λ (k : Descriptor). IsOneOf k.lvs row → lp < row.lps → IsSome (fresh_on (members_in c all_disks 50 k) (Some st) row lp)) (sym (group_is id g found)) (all_some row lp)))

      pub kept : ((lv : ℕ) → StandsAs 1 (volumes_in facts lv).standing (volumes_in facts lv).shape (volume_of group lv)) → Kept c facts
      kept volumes = record {
        agrees = record {
          volumes = λ disks id g f lv. subst (λ (h : Descriptor). StandsAs h.mib (volumes_in facts lv).standing (volumes_in facts lv).shape (volume_of h lv)) (sym (group_is id g (disks, f))) (volumes lv);
          status = λ disks id g f.
              let reads : ReadsBy c disks id g = finding_reads c disks id g f in
              subst (λ (h : Descriptor). HasStatus h.lvs (status_among c disks id)) (sym (group_is id g (disks, f))) (ap is_some (reads.status ∙ status_read disks id g reads.reads));
          copies = copies_agree;
          raw = λ d b low none from to. absurd (none_without d low none);
          available = λ lv settled. record {
            id = 50;
            group = group;
            found = found_by_all;
            copies = λ lv lp row settled is low. available row lp (behind (1 == lv) (mirror x.mode) row is) low;
          };
        };
        lasting = record {
          common = common;
          status = λ b id h g reads found. subst (λ (k : Descriptor). HasStatus k.lvs (status_by c b id h)) (sym (group_is id g found)) (ap is_some (status_read b id h reads));
          across = across;
          some = some;
          size = λ id g h is also. ap (λ (k : Descriptor). k.mib) (group_is id g is ∙ sym (group_is id h also));
          partitions = λ id g h is also d p q one other. ap (λ (r : PvRow). r.pps)
              (same_Some p q (sym one ∙ ap (λ (k : Descriptor). member_of k d) (group_is id g is ∙ sym (group_is id h also)) ∙ other));
          descriptors = λ d e r s is also ids stamps. the_descriptor d r is ∙ sym (the_descriptor e s also);
          statuses = λ d e r s is also ids stamps. the_status d r is ∙ sym (the_status e s also);
        };
      }

-- Members become missing, and the copies that they leave behind stale.
use Rattle.std.proofs.Common.{◌≡◌, inl, inr, ⊎_elim, ℕ, Bool, true, false, ◌&&◌, ◌||◌, not, List, [], ◌∷◌, get_or, map, Some, None, refl, sym, ◌∙◌, ap, subst, arith}
use Rattle.std.specs.Prelude.{IsTrue, IsFalse, All, ◌==◌, if◌then◌else◌, find}
use Rattle.std.specs.List.{list_any}
use Rattle.std.proofs.lemmas.Bool.{false≢true, eqb-true, eq-eqb}
use Rattle.std.proofs.lemmas.List.Elements.{All-tail}
use Rattle.lvm_num.specs.declared.place.Pp.{Pp}
use Rattle.lvm_num.specs.declared.descriptor.PvRow.{PvRow}
use Rattle.lvm_num.specs.declared.descriptor.LvRow.{LvRow}
use Rattle.lvm_num.specs.declared.descriptor.Descriptor.{Descriptor}
use Rattle.lvm_num.specs.declared.status.StatusRow.{StatusRow}
use Rattle.lvm_num.specs.declared.status.Status.{Status}
use Rattle.lvm_num.specs.Disks.{Disks}
use Rattle.lvm_num.specs.Descriptor.{IsValid, IsMember, IsPartitionOf, is_member, copies_of, partitions_in}
use Rattle.lvm_num.specs.Status.{calls_stale, calls_missing, calls_dirty}
use Rattle.lvm_num.specs.Buffer.{Buffer}
use Rattle.lvm_num.specs.Votes.{all_disks, votes_in, is_enough_to_write, CanWrite}
use Rattle.lvm_num.proofs.AmongLemmas.{any_one}
use Rattle.lvm_disk.specs.Device.{Device, image_of}
use Rattle.lvm_kept.specs.Contents.{Contents, contents_of}
use Rattle.lvm_kept.specs.Group.{passes, is_of, members_in, IsOneOf}
use Rattle.lvm_status.specs.passed.Status.{IsLostCopy, IsLeftIn, MarksLost, HasMark}
use Rattle.lvm_status.proofs.passed.Status.{left_same, left_again}
use Rattle.lvm_status.specs.Members.{HasItsRows}
use Rattle.lvm_status.specs.Update.{Stored, members_there}
use Rattle.lvm_status.proofs.Disks.{member-below}
use Rattle.lvm_status.proofs.RunsLemmas.Sound.{and_left, not_false}
use Rattle.lvm_steps.proofs.RecordLemmas.{either, clash, second}
use Rattle.lvm_rec.specs.declared.homes.Homes.{Homes}
use Rattle.lvm_write.proofs.WrittenLemmas.Writing.{if_told, told_at}
use Rattle.lvm_commit.specs.Committed.{MayMark, HoldsCommitted}
use Rattle.lvm_commit.specs.Settling.{there, IsForgotten, IsOf, SessionIsHeld, WantsMarks, IsPassedOver, MarksLeft}
use Rattle.lvm_commit.specs.Rounds.{Misses, LosesMembers, HasMarked, MarksRound, CommitsRound, IsByVotes}
use Rattle.lvm_commit.specs.declared.commit.CommitEnd.{CommitEnd}
use Rattle.lvm_commit.specs.declared.commit.CommitEnd.TheVariants as commit_end
use Rattle.lvm_commit.proofs.AmongLemmas.{one_place}
use Rattle.lvm_steps.proofs.GroupLemmas.Members.{member_of_parts}

-- ---- lists

none_any : (p : PvRow → Bool) (rows : List PvRow) → ((row : PvRow) → p row ≡ false) → list_any p rows ≡ false
none_any p [] none = refl
none_any p (row ∷ rows) none = ap (λ b. b || list_any p rows) (none row) ∙ none_any p rows none

any_of : (failed : Disks) (rows : List PvRow) (d : ℕ) → list_any (λ (row : PvRow). row.disk == d) rows ≡ true → failed d ≡ true → list_any (λ (row : PvRow). failed row.disk) rows ≡ true
any_of failed [] d among fails = among
any_of failed (row ∷ rows) d among fails = by_test (row.disk == d) refl among (any_of failed rows d)
  where
    front : (a b : Bool) → a ≡ true → a || b ≡ true
    front true b is = refl
    front false b is = absurd (false≢true is)

    behind : (a b : Bool) → b ≡ true → a || b ≡ true
    behind true b is = refl
    behind false b is = is

    by_test : (t : Bool) → (row.disk == d) ≡ t → t || list_any (λ (r : PvRow). r.disk == d) rows ≡ true → (list_any (λ (r : PvRow). r.disk == d) rows ≡ true → failed d ≡ true → list_any (λ (r : PvRow). failed r.disk) rows ≡ true)
        → failed row.disk || list_any (λ (r : PvRow). failed r.disk) rows ≡ true
    by_test true is among rest = front (failed row.disk) (list_any (λ (r : PvRow). failed r.disk) rows) (ap failed (eqb-true row.disk d is) ∙ fails)
    by_test false is among rest = behind (failed row.disk) (list_any (λ (r : PvRow). failed r.disk) rows) (rest among fails)

-- ---- what may be marked

found_row : (rows : List PvRow) (disk : ℕ) (row : PvRow) → find (λ (r : PvRow). r.disk == disk) rows ≡ Some row → All IsMember rows → (list_any (λ (r : PvRow). r.disk == disk) rows ≡ true) × IsMember row
found_row [] disk row e all = absurd cc
found_row (r ∷ rs) disk row e all = by_test (r.disk == disk) e (λ is. found_row rs disk row is (All-tail IsMember r rs all))
  where
    by_test : (t : Bool) → (if t then Some r else find (λ (x : PvRow). x.disk == disk) rs) ≡ Some row
        → (find (λ (x : PvRow). x.disk == disk) rs ≡ Some row → (list_any (λ (x : PvRow). x.disk == disk) rs ≡ true) × IsMember row)
        → (t || list_any (λ (x : PvRow). x.disk == disk) rs ≡ true) × IsMember row
    by_test true is rest = let same : r ≡ row = cc in (refl, subst IsMember same (all 0 r (omega arith)))
    by_test false is rest = rest is

pub all_markable : (d : Descriptor) (u : Stored) → IsValid d → IsOf d u → HasItsRows u.group u.wanted → All (HasMark u.wanted) (partitions_in d.lvs)
all_markable d u valid own rows k e lt = markable (get_or (partitions_in d.lvs) k e) (valid.maps.places k e lt)
  where
    markable : (p : Pp) → IsPartitionOf d p → HasMark u.wanted p
    markable p of =
        let row = found_row d.pvs p.disk of.0 of.1 valid.members.each in
        record {
          disk = member-below d valid p.disk row.0;
          partition = (let most = row.1.partitions in let less = of.2 in omega (arith, most, less));
          row = rows p.disk ∙ ap (λ (g : Descriptor). is_member g p.disk) (sym own) ∙ row.0;
        }

-- ---- one record

leaves_of : (failed : Disks) (a b c : Status) → Misses failed a b → c ≡ b → LosesMembers failed a c
leaves_of failed a b c misses is = record {
  rows = record { id = ap (λ (s : Status). s.id) is ∙ misses.rows.id; big = ap (λ (s : Status). s.big) is ∙ misses.rows.big; disks = ap (λ (s : Status). map (λ (row : StatusRow). row.disk) s.rows) is ∙ misses.rows.disks };
  stale = λ p stale. ap (λ (s : Status). calls_stale s p) is ∙ misses.stale p ∙ stale;
  dirty = ap (λ (s : Status). s.dirty) is ∙ misses.dirty;
  missing = λ d. ap (λ (s : Status). calls_missing s d) is ∙ misses.missing d;
  same = λ none. is ∙ misses.same none;
}

-- nothing was wanted
pub round_same : (d : Descriptor) (first last : Stored) → last.group ≡ first.group → last.wanted ≡ first.wanted → (IsForgotten first → IsForgotten last) → MarksRound d first last
round_same d first last group same forgotten =
    let there_same : there last ≡ there first = (λ i. members_there (group i) (same i)) in
    record {
      none = λ was p left. ap (λ (s : Status). calls_stale s p) same ∙ was p (subst (λ (set : Disks). IsLeftIn set first.wanted d.lvs p) there_same (subst (λ (s : Status). IsLeftIn (there last) s d.lvs p) same left));
      only = λ p stale. inl (sym (ap (λ (s : Status). calls_stale s p) same) ∙ stale);
      forgotten = forgotten;
    }

-- what was wanted first, the group then, what is wanted once members are missing and once it is marked
module _ (d : Descriptor) (first mid last : Stored) (failed : Disks) (misses : Misses failed first.wanted mid.wanted) (marked : HasMarked d failed mid last) where
  abbrev any : Bool
  any = list_any (λ (row : PvRow). failed row.disk) d.pvs

  pub leaves : LosesMembers failed first.wanted last.wanted
  leaves = ⊎_elim
      (λ (some : any ≡ true). let marks = marked.marked some in record {
        rows = record { id = marks.members.id ∙ misses.rows.id; big = marks.members.big ∙ misses.rows.big; disks = marks.members.disks ∙ misses.rows.disks };
        stale = λ p stale. marks.kept p (misses.stale p ∙ stale);
        dirty = marks.dirty ∙ misses.dirty;
        missing = λ e. marks.missing e ∙ misses.missing e;
        same = λ none. absurd (clash any some (none_any (λ (row : PvRow). failed row.disk) d.pvs (λ row. none row.disk)));
      })
      (λ (none : any ≡ false). leaves_of failed first.wanted mid.wanted last.wanted misses (marked.unmarked none))
      (either any)

  group_same : last.group ≡ mid.group
  group_same = ap (λ (u : Stored). u.group) marked.rest

  module _ (group : mid.group ≡ first.group) (members : (e : ℕ) → failed e ≡ true → is_member d e ≡ true) (forgotten : IsForgotten first → IsForgotten mid) where
    still : any ≡ false → last.wanted ≡ first.wanted
    still none = marked.unmarked none ∙ misses.same (λ e. ⊎_elim (λ fails. absurd (clash any (any_of failed d.pvs e (members e fails) fails) none)) (λ well. well) (either (failed e)))

    module _ (marks : MarksLost (there mid) (IsLeftIn (there mid) mid.wanted d.lvs) mid.wanted last.wanted) where
      there_same : there last ≡ there mid
      there_same = λ i e. is_member (group_same i) e && not (marks.missing e i)

      -- a copy that is left behind under the one table is so under the other, if each logical partition's are
      left_so : (old now : Status) → ((row : LvRow) (lp : ℕ) (p : Pp) → IsLostCopy (there mid) old (copies_of row lp) p → IsLostCopy (there mid) now (copies_of row lp) p) → (p : Pp) → IsLeftIn (there mid) old d.lvs p
          → IsLeftIn (there mid) now d.lvs p
      left_so old now keeps p is = record { row = is.row; volume = is.volume; left = record { lp = is.left.lp; below = is.left.below; left = keeps is.row is.left.lp p is.left.left } }

      on_last : (p : Pp) → IsLeftIn (there mid) mid.wanted d.lvs p → IsLeftIn (there last) last.wanted d.lvs p
      on_last p left = subst (λ (set : Disks). IsLeftIn set last.wanted d.lvs p) (sym there_same)
          (left_so mid.wanted last.wanted (λ row lp p is. left_again (there mid) (IsLeftIn (there mid) mid.wanted d.lvs) mid.wanted last.wanted (copies_of row lp) marks p is) p left)

      on_mid : (p : Pp) → IsLeftIn (there last) last.wanted d.lvs p → IsLeftIn (there mid) mid.wanted d.lvs p
      on_mid p is =
          left_so last.wanted mid.wanted (λ row lp p left. left_same (there mid) (IsLeftIn (there mid) mid.wanted d.lvs) mid.wanted last.wanted (copies_of row lp) marks p left) p
          (subst (λ (set : Disks). IsLeftIn set last.wanted d.lvs p) there_same is)

    last_forgotten : IsForgotten first → IsForgotten last
    last_forgotten was = subst IsForgotten (sym marked.rest) (forgotten was)

    pub marks_round : MarksRound d first last
    marks_round = ⊎_elim
        (λ (some : any ≡ true). let marks = marked.marked some in record {
          none = λ was p left. marks.marked p (on_mid marks p left);
          only = λ p stale. ⊎_elim (λ (before : IsTrue (calls_stale mid.wanted p)). inl (sym (misses.stale p) ∙ before)) (λ left. inr (on_last marks p left)) (marks.only p stale);
          forgotten = last_forgotten;
        })
        (λ (none : any ≡ false). round_same d first last (group_same ∙ group) (still none) last_forgotten)
        (either any)

-- what is committed stays so
pub round_committed :
    (d : Descriptor) (failed : Disks) (first mid last : Stored) (want : Status) → HasMarked d failed mid last → (CanWrite mid.group (there mid) → (mid.in_flight ≡ None) × (mid.committed ≡ want))
    → (IsFalse (is_enough_to_write mid.group (votes_in mid.group (there mid))) → mid.committed ≡ first.committed) → (buf : Buffer) (r : CommitEnd) → IsByVotes last buf r → CommitsRound want first last r
round_committed d failed first mid last want marked committed short buf r votes = by_end r votes
  where
    group_is : last.group ≡ mid.group
    group_is = ap (λ (u : Stored). u.group) marked.rest

    missing : (e : ℕ) → calls_missing last.wanted e ≡ calls_missing mid.wanted e
    missing e = ⊎_elim (λ some. (marked.marked some).missing e) (λ none. ap (λ (s : Status). calls_missing s e) (marked.unmarked none)) (either (list_any (λ (row : PvRow). failed row.disk) d.pvs))

    there_is : there last ≡ there mid
    there_is = λ i e. is_member (group_is i) e && not (missing e i)

    votes_are : is_enough_to_write last.group (votes_in last.group (there last)) ≡ is_enough_to_write mid.group (votes_in mid.group (there mid))
    votes_are = λ i. is_enough_to_write (group_is i) (votes_in (group_is i) (there_is i))

    by_end : (r : CommitEnd) → IsByVotes last buf r → CommitsRound want first last r
    by_end (commit_end.Done back) its = let is = committed (sym votes_are ∙ its.1) in (ap (λ (u : Stored). u.in_flight) marked.rest ∙ is.0, ap (λ (u : Stored). u.committed) marked.rest ∙ is.1)
    by_end (commit_end.WentOff have total back) its =
        let few = its.1 in
        ap (λ (u : Stored). u.committed) marked.rest ∙ short (sym votes_are ∙ ap (is_enough_to_write last.group) (sym few.have_is) ∙ few.few)
    by_end commit_end.Dark its = absurd its
    by_end commit_end.Stuck its = absurd its

-- where it is none of what is committed that is written
pub kept_committed : (first last : Stored) → last.in_flight ≡ None → last.committed ≡ first.committed → (r : CommitEnd) → CommitsRound first.committed first last r
kept_committed first last idle same (commit_end.Done back) = (idle, same)
kept_committed first last idle same (commit_end.WentOff have total back) = same
kept_committed first last idle same commit_end.Dark = same
kept_committed first last idle same commit_end.Stuck = same

-- ---- what may follow

module _ (d : Descriptor) (first last : Stored) (valid : IsValid d) (round : MarksRound d first last) where
  -- the copy that makes another one left behind
  pub other_of : (p : Pp) (left : IsLeftIn (there last) last.wanted d.lvs p) → (row : LvRow) (lp : ℕ) → IsOneOf d.lvs row → IsOneOf (copies_of row lp) p
      → (q : Pp) × IsOneOf (copies_of row lp) q × IsFalse (calls_stale last.wanted q) × IsTrue (there last q.disk)
  other_of p left row lp volume copy =
      let place = one_place d row left.row lp left.left.lp p valid volume left.volume copy left.left.left.one in
      let q = any_one (λ (r : Pp). there last r.disk && not (calls_stale last.wanted r)) (copies_of left.row left.left.lp) left.left.left.served in (
        q.0,
        subst (λ (r : LvRow). IsOneOf (copies_of r lp) q.0) (sym place.row_is) (subst (λ (n : ℕ). IsOneOf (copies_of left.row n) q.0) (sym place.lp_is) q.1),
        not_false (calls_stale last.wanted q.0) (second (there last q.0.disk) (not (calls_stale last.wanted q.0)) q.2),
        and_left (there last q.0.disk) (not (calls_stale last.wanted q.0)) q.2,
      )

  module _ (was : Status) (stays : (p : Pp) → IsTrue (calls_stale first.wanted p) → IsTrue (calls_stale last.wanted p)) (dirty : last.wanted.dirty ≡ first.wanted.dirty) (committed : was ≡ first.wanted) where
    pub may_mark : (c : Contents) → ((e : ℕ) → IsTrue (there last e) → IsTrue (members_in c all_disks d.id d e)) → MayMark c d was last.wanted
    may_mark c shows = record {
      stale = λ row lp p volume copy is. stays p (sym (ap (λ (s : Status). calls_stale s p) committed) ∙ is);
      added = λ row lp p volume low copy is. ⊎_elim
          (λ before. inl (ap (λ (s : Status). calls_stale s p) committed ∙ before))
          (λ left. let q = other_of p left row lp volume copy in inr (q.0, q.1, q.2, shows q.0.disk q.3))
          (round.only p is);
      dirty = λ row volume soft is. inl (ap (λ (numbers : List ℕ). list_any (λ n. n == row.number) numbers) dirty ∙ sym (ap (λ (s : Status). calls_dirty s row.number) committed) ∙ is);
    }

    pub wants_marks : last.committed ≡ was → (e : Device) (homes : Homes) → SessionIsHeld e d last homes → WantsMarks e d last
    wants_marks is e homes held = if_told e.media (λ media. MayMark (contents_of (image_of e.sizes media)) d last.committed last.wanted) (λ media told.
        let shows = (told_at e.media (λ m. HoldsCommitted (image_of e.sizes m) d last.committed (there last) last.stamp homes) media told held).shows in
        subst (λ (s : Status). MayMark (contents_of (image_of e.sizes media)) d s last.wanted) (sym is)
        (may_mark (contents_of (image_of e.sizes media)) (λ disk on. member_of_parts (contents_of (image_of e.sizes media)) all_disks d.id d disk refl
        (ap (passes (is_of d.id)) (shows.described disk on) ∙ eq-eqb shows.descriptor.value.id d.id (ap (λ (g : Descriptor). g.id) shows.value)) (shows.room disk on))))

  -- ---- over several records

  pub round_left : ((e : ℕ) → IsTrue (there last e) → IsTrue (there first e)) → MarksLeft d first last
  round_left less = record {
    none = round.none;
    only = λ p stale. ⊎_elim
        (λ before. inl before)
        (λ left. let q = other_of p left left.row left.left.lp left.volume left.left.left.one in inr (record {
          its = record { row = left.row; lp = left.left.lp; volume = left.volume; inside = left.left.below; one = left.left.left.one; other = q.0; among = q.1 };
          absent = left.left.left.absent;
          fresh = q.2;
          was_there = less q.0.disk q.3;
        }))
        (round.only p stale);
  }

-- none was written
pub left_same_as : (d : Descriptor) (u : Stored) → MarksLeft d u u
left_same_as d u = record { none = λ none. none; only = λ p stale. inl stale }

-- a copy passed over since later was so since earlier too, where what was there later was there earlier
pub passed_before : (d : Descriptor) (first mid last : Stored) (p : Pp) → ((e : ℕ) → IsTrue (there mid e) → IsTrue (there first e)) → IsPassedOver d mid last p → IsPassedOver d first last p
passed_before d first mid last p less is = record { its = is.its; absent = is.absent; fresh = is.fresh; was_there = less is.its.other.disk is.was_there }

pub left_then : (d : Descriptor) (first mid last : Stored) → IsValid d → ((e : ℕ) → IsTrue (there mid e) → IsTrue (there first e)) → ((e : ℕ) → IsTrue (there last e) → IsTrue (there mid e)) → MarksLeft d first mid → MarksLeft d mid last → MarksLeft d first last
left_then d first mid last valid less fewer one two = record {
  none = λ none. two.none (one.none none);
  only = λ p stale. ⊎_elim (λ before. ⊎_elim (λ first_so. inl first_so) (λ (is : IsPassedOver d first mid p). inr (passed_still p is)) (one.only p before)) (λ (is : IsPassedOver d mid last p). inr (passed_before d first mid last p less is)) (two.only p stale);
}
  where
    gone_still : (p : Pp) → IsFalse (there mid p.disk) → IsFalse (there last p.disk)
    gone_still p gone = ⊎_elim (λ on. absurd (clash (there mid p.disk) (fewer p.disk on) gone)) (λ off. off) (either (there last p.disk))

    -- its other copy serves still, or is left behind too, and so has another one
    passed_still : (p : Pp) → IsPassedOver d first mid p → IsPassedOver d first last p
    passed_still p is = ⊎_elim
        (λ (stale : calls_stale last.wanted is.its.other ≡ true). ⊎_elim
        (λ before. absurd (clash (calls_stale mid.wanted is.its.other) before is.fresh))
        (λ (next : IsPassedOver d mid last is.its.other).
        let its = is.its in
        let more = next.its in
        let place = one_place d its.row more.row its.lp more.lp its.other valid its.volume more.volume its.among more.one in
        record {
          its = record its {
            other = more.other;
            among = subst (λ (r : LvRow). IsOneOf (copies_of r its.lp) more.other) (sym place.row_is) (subst (λ (n : ℕ). IsOneOf (copies_of more.row n) more.other) (sym place.lp_is) more.among);
          };
          absent = gone_still p is.absent;
          fresh = next.fresh;
          was_there = less more.other.disk next.was_there;
        })
        (two.only is.its.other stale))
        (λ (fresh : calls_stale last.wanted is.its.other ≡ false). record { its = is.its; absent = gone_still p is.absent; fresh = fresh; was_there = is.was_there })
        (either (calls_stale last.wanted is.its.other))

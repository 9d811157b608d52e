-- The commit of a session's next descriptor: its record, and then the status of those that it lost.
use Rattle.std.proofs.Common.{◌≡◌, ◌⊎◌, inl, inr, ⊎_elim, ℕ, ◌+◌, ◌<◌, ◌≤◌, Bool, true, false, not, ◌&&◌, List, IfSome, Ok, IsTrue, IsFalse, refl, sym, ◌∙◌, ap, subst, arith, eq-eqb, length}
use Rattle.std.specs.Prelude.{is_some, [], Result}
use Rattle.lvm_num.specs.declared.record.Kind.TheVariants as kind
use Rattle.lvm_num.specs.declared.record.Stamp.{Stamp}
use Rattle.lvm_num.specs.declared.descriptor.Descriptor.{Descriptor}
use Rattle.lvm_num.specs.Buffer.{Buffer, Sector}
use Rattle.lvm_num.specs.Descriptor.{IsValid, is_member}
use Rattle.lvm_num.specs.DescriptorBytes.{descriptor_of}
use Rattle.lvm_num.specs.declared.record.Kind.{Kind}
use Rattle.lvm_num.specs.Record.{Frames, longest_content, record_sectors, slot_size, slot_start}
use Rattle.lvm_num.proofs.TornLemmas.Torn.{sectors-fit}
use Rattle.lvm_num.specs.Status.{calls_missing}
use Rattle.lvm_vol.specs.Facts.{Fact}
use Rattle.lvm_disk.specs.Device.{Image, Media, Device, image_of, HasSectors}
use Rattle.lvm_disk.specs.Steps.{BothTold}
use Rattle.lvm_disk.proofs.PathsLemmas.{map-path, append-path, last-path}
use Rattle.lvm_kept.specs.Contents.{contents_of, descriptor_on}
use Rattle.lvm_kept.specs.Group.{is_of, passes}
use Rattle.lvm_kept.proofs.PlacesLemmas.{at-same, newest-same}
use Rattle.lvm_kept.specs.Plans.{ChangesBy}
use Rattle.lvm_kept.specs.Torn.{RecordWrite, IsOfRecord}
use Rattle.lvm_status.specs.passed.Status.{SameMissing}
use Rattle.lvm_status.specs.Update.{Stored}
use Rattle.lvm_steps.specs.Moments.{ImagesKept, StaysKept}
use Rattle.lvm_steps.proofs.RecordLemmas.{clash}
use Rattle.lvm_steps.proofs.MakingLemmas.Making.{media_may}
use Rattle.lvm_rec.specs.declared.homes.Homes.{Homes}
use Rattle.lvm_write.specs.Written.{KeepsShelf, IsDarkened, IsGivenUp}
use Rattle.lvm_write.specs.Parts.{Spends}
use Rattle.lvm_write.proofs.PartsLemmas.Transfers.{keeps_then, spends_then, darkened_then, given_up_then}
use Rattle.lvm_write.proofs.WrittenLemmas.Writing.{told_at, both_map, both_then}
use Rattle.lvm_commit.specs.declared.commit.CommitEnd.{CommitEnd}
use Rattle.lvm_commit.specs.declared.commit.CommitEnd.TheVariants as commit_end
use Rattle.lvm_commit.specs.Committed.{next_stamp, IsAlike}
use Rattle.lvm_commit.specs.LawsOfVolumes.{VolumesServe, LeavesOthers}
use Rattle.lvm_commit.specs.LawsOfFinding.{FindsNoMore, FindsNoMoreOn}
use Rattle.lvm_commit.proofs.RoundsLemmas.Leaving.{wants_marks, round_left, left_then}
use Rattle.lvm_commit.specs.Settling.{EndsAtOnce, IsForgotten, StaysCommitted, MarksLeft, there, IsOf, SessionIsHeld, WantsMarks, OthersAreLeft, OnlyLoses, HasLostQuorum, SpendsNumbers, IsOfStatus, IsOfCommit, IsOneRecord, MembersAreLeft, StatusStaysKept, DescriptorStaysKept, StatusFindsNothingNew, StaysHeld, CommitLeaves, ComesBack, StatusEnds, DescriptorEnds}
use Rattle.lvm_commit.specs.Rounds.{MarksRound, stamped, session_write, WasTried, RecordGives}
use Rattle.lvm_commit.proofs.SettlingLemmas.Chaining.{Goes, path_counts, keeps_wider, loses_less, loses_then, not_there, record_returns, returns_then, lost_quorum_then, spends_numbers_then, stays_before}
use Rattle.lvm_commit.proofs.SettlingLemmas.Round.{none_or_some, failed_is_missing, was_there_on}
use Rattle.lvm_commit.proofs.SettlingLemmas.Ready.{spends_one, spends_none}
use Rattle.lvm_commit.proofs.LawsOfFindingLemmas.NoMore.{then_no_more}
use Rattle.lvm_commit.proofs.LawsOfWritesLemmas.Holding.{told_with, told_before, with_told, whole, held_at, later}
use Rattle.lvm_commit.proofs.LawsOfWritesLemmas.Writes.{descriptors_change}
use Rattle.lvm_commit.proofs.LawsOfFindingLemmas.HoldingDescriptor.{descriptor_holds}
use Rattle.lvm_commit.proofs.SettlingLemmas.Describing.{describes, stamp_is, is_of_commit, descriptor_finds, descriptor_kept}

-- it ended at once, and all is as it was
at_once : (r : CommitEnd) (Same : Type 0) → EndsAtOnce r Same → Same
at_once (commit_end.Done buf) Same is = is
at_once (commit_end.WentOff have total buf) Same is = absurd is
at_once commit_end.Dark Same is = absurd is
at_once commit_end.Stuck Same is = absurd is

pub ends_map : (r : CommitEnd) (Same Other : Type 0) → (Same → Other) → EndsAtOnce r Same → EndsAtOnce r Other
ends_map (commit_end.Done buf) Same Other more is = more is
ends_map (commit_end.WentOff have total buf) Same Other more is = is
ends_map commit_end.Dark Same Other more is = is
ends_map commit_end.Stuck Same Other more is = is

-- a result is of one value
same_ok : {E : Type 0} (a b : Descriptor) (r : Result Descriptor E) → r ≡ Ok a → r ≡ Ok b → a ≡ b
same_ok a b r is also = cc

-- where nothing more is found but the descriptor of the group, others are left as they were
pub leaves_others_on : (id : ℕ) (next : Descriptor) (old new : Device) (R : Media → Media → Type 0) → next.id ≡ id → BothTold old.media new.media R → FindsNoMoreOn next old new → OthersAreLeft id old new
leaves_others_on id next old new R own both finds =
    both_map old.media new.media R (λ was is. LeavesOthers (contents_of (image_of old.sizes was)) (contents_of (image_of new.sizes is)) id) both (λ was is told_was told_is rel other k apart found. ⊎_elim
    (λ before. before)
    (λ (it : (other ≡ next.id) × (k ≡ next)). absurd (apart (it.0 ∙ own)))
    (told_at old.media (λ media. FindsNoMore next (contents_of (image_of old.sizes media)) (contents_of (image_of new.sizes is))) was told_was (finds (image_of new.sizes is) (media_may new is told_is)) other k found))

-- statuses leave the descriptors
status_leaves : (mid last : Stored) (old new : Image) → ChangesBy (IsOfStatus mid last) old new → (e : ℕ) → descriptor_on new e ≡ descriptor_on old e
unfolding descriptor_on
status_leaves mid last old new changes e = at-same descriptor_of kind.Descriptor old new e changes.same (newest-same descriptor_of kind.Descriptor (old.sector e) (new.sector e) (λ slot s two from to. ⊎_elim
    (λ same. same)
    (λ is. absurd (apart is.0.kind (is.0.slots e) is.2.its.its.part s is.1.kind (is.2.slots e) (below is.0.kind is.0.framed.content is.2.its.its.part is.2.frames.content is.2.its.its.inside) is.2.its.its.place (omega (arith, from))))
    (changes.each e s)))
  where
    below : (w : Kind) (content : List ℕ) (part : ℕ) → length content ≤ longest_content w → part < record_sectors (length content) → part < slot_size w
    below w content part fits inside = let fit = sectors-fit w (length content) fits in omega (arith, fit, inside)

    apart : (w : Kind) (slot part s : ℕ) → w ≡ kind.Status → slot < 2 → part < slot_size w → s ≡ slot_start w slot + part → slot_start kind.Descriptor 0 ≤ s → ⊥
    apart kind.Descriptor slot part s is two low at from = absurd (cc is)
    apart kind.Status slot part s is two low at from = absurd (omega (arith, two, low, at, from))

-- A descriptor was written, and then what was wanted of the status was committed.
pub record Described (d : Descriptor) (first mid last : Stored) (homes after final : Homes) (old m new : Device) (content : List ℕ) (number p q : ℕ) (buf : Buffer) (r : CommitEnd) : Type 0 where
  pub sectors : HasSectors old
  pub frames : Frames kind.Descriptor (record { stamp = next_stamp first.stamp; content = content })
  pub gives : RecordGives (session_write kind.Descriptor content (stamped first) homes) number p q (stamped first) mid homes after old m (commit_end.Done buf)
  pub was_settled : first.committed ≡ first.wanted
  pub committed : mid.committed ≡ first.committed
  pub loses : OnlyLoses mid last m new
  pub keeps : KeepsShelf (there mid) (IsOfStatus mid last) m new
  pub kept : StatusStaysKept d mid after m new
  pub valid : IsValid d
  pub describes : descriptor_of content ≡ Ok d
  pub round : MarksRound d first mid
  pub left : MarksLeft d mid last
  pub forgotten : IsForgotten mid → IsForgotten last
  pub unwritten : mid.wanted ≡ mid.committed → EndsAtOnce r ((new ≡ m) × (last ≡ mid))

module _ (d : Descriptor) (first mid last : Stored) (homes after final : Homes) (old m new : Device) (content : List ℕ) (number p q : ℕ) (buf : Buffer) (r : CommitEnd) (k : Described d first mid last homes after final old m new content number p q buf r) where
  abbrev w : RecordWrite
  w = session_write kind.Descriptor content (stamped first) homes

  abbrev tried : WasTried w number (stamped first) mid homes after old m buf
  tried = k.gives.how.0

  one : Goes (IsOfRecord w) p q first mid old m
  one = describes first mid homes after old m content number p q (commit_end.Done buf) k.gives

  stamp : mid.stamp ≡ next_stamp first.stamp
  stamp = stamp_is first mid homes after old m content number p q (commit_end.Done buf) k.gives

  -- ---- who is missing

  -- it failed on none, and then no status was written
  ends_or_loses : (EndsAtOnce r ((new ≡ m) × (last ≡ mid)) × (mid.wanted ≡ first.wanted)) ⊎ ((d : ℕ) × IsTrue (there first d) × IsTrue (calls_missing mid.wanted d))
  ends_or_loses = ⊎_elim
      (λ (none : (d : ℕ) → IsFalse (tried.failed d)). let same = tried.wanted.same none in inl (k.unwritten (same ∙ sym k.was_settled ∙ sym k.committed), same))
      (λ (some : (d : ℕ) × IsTrue (tried.failed d)). inr (some.0, was_there_on w number (stamped first) mid homes after old m refl buf tried some.0 some.1, failed_is_missing w number (stamped first) mid homes after old m refl buf tried some.0 some.1))
      (none_or_some w number (stamped first) mid homes after old m refl buf tried)

  commit_loses : OnlyLoses first last old new
  commit_loses = loses_then first mid last old m new one.rises (path_counts k.kept) one.loses k.loses

  commit_left : MarksLeft d first last
  commit_left = left_then d first mid last k.valid (loses_less first mid old m one.loses) (loses_less mid last m new k.loses) (round_left d first mid k.valid k.round (loses_less first mid old m one.loses)) k.left

  returns : ComesBack number mid old m buf
  returns = record_returns w number (stamped first) mid homes after old m buf refl tried

  commit_dark : IsDarkened buf.number m new → IsDarkened number old new
  commit_dark dark = darkened_then number buf.number old m new returns.number_is returns.cuts dark

  commit_stuck : IsGivenUp buf.number q m new → IsGivenUp number p old new
  commit_stuck stuck = given_up_then number buf.number p q old m new returns.number_is returns.cuts k.gives.leaves.spends stuck

  commit_off : (have total : ℕ) → HasLostQuorum mid last m new have total → HasLostQuorum first last old new have total
  commit_off have total lost = lost_quorum_then first mid last old m new have total one.loses one.rises lost

  commit_committed : StaysCommitted mid last m new → StaysCommitted first last old new
  commit_committed stays =
      let seq = ap (λ (s : Stamp). s.seq) stamp in
      stays_before first mid last old m new k.committed (ap (λ (s : Stamp). s.epoch) stamp) (omega (arith, seq)) one.loses.group (map-path (λ d. Unit {0}) (λ d is. tt) k.gives.leaves.moments) stays

  commit_numbers : SpendsNumbers 1 mid last → SpendsNumbers 1 first last
  commit_numbers spends = ⊎_elim
      (λ (none : EndsAtOnce r ((new ≡ m) × (last ≡ mid)) × (mid.wanted ≡ first.wanted)). subst (λ (u : Stored). SpendsNumbers 1 first u) (sym (at_once r ((new ≡ m) × (last ≡ mid)) none.0).1) (spends_one first mid old m one.loses stamp))
      (λ (some : (d : ℕ) × IsTrue (there first d) × IsTrue (calls_missing mid.wanted d)). spends_numbers_then 0 1 first mid last (spends_none first mid old m one.loses stamp some.0 some.1 some.2) spends)
      ends_or_loses

  commit_plain : SameMissing first.wanted last.wanted → IsOneRecord kind.Descriptor content first last homes old new
  commit_plain same = ⊎_elim
      (λ (none : EndsAtOnce r ((new ≡ m) × (last ≡ mid)) × (mid.wanted ≡ first.wanted)).
      let as_before = at_once r ((new ≡ m) × (last ≡ mid)) none.0 in
      record {
        wanted = ap (λ (u : Stored). u.wanted) as_before.1 ∙ none.1;
        stamp = ap (λ (u : Stored). u.stamp) as_before.1 ∙ stamp;
        writes = subst (λ (d : Device). KeepsShelf (there first) (IsOfRecord w) old d) (sym as_before.0) one.keeps;
      })
      (λ (some : (d : ℕ) × IsTrue (there first d) × IsTrue (calls_missing mid.wanted d)).
      absurd (clash (there first some.0) some.1 (ap (λ b. is_member first.group some.0 && not b) (sym (same some.0) ∙ k.loses.stays some.0 some.2) ∙ never (is_member first.group some.0))))
      ends_or_loses
    where
      never : (b : Bool) → b && false ≡ false
      never true = refl
      never false = refl

  -- ---- what is written

  of_status : (first.stamp.seq < mid.stamp.seq) → (d s : ℕ) (value : Sector) → IsOfStatus mid last d s value → IsOfCommit content first last d s value
  of_status later d s value (write, states, its) = (
    write,
    inr (record { kind = states.kind; status = states.status; own = states.own ∙ ap (λ (g : Descriptor). g.id) one.loses.group; content = states.content }),
    record {
      frames = its.frames;
      slots = its.slots;
      targets = λ disk is. loses_less first mid old m one.loses disk (its.targets disk is);
      epoch = its.epoch ∙ ap (λ (s : Stamp). s.epoch) stamp;
      later = (let l = its.later in omega (arith, l, later));
      latest = its.latest;
      its = its.its;
    },
  )

  commit_keeps : mid.stamp.seq ≤ last.stamp.seq → KeepsShelf (there first) (IsOfCommit content first last) old new
  commit_keeps rises =
      let seq : mid.stamp.seq ≡ first.stamp.seq + 1 = ap (λ (s : Stamp). s.seq) stamp in
      keeps_then (there first) (IsOfCommit content first last) old m new
      (keeps_wider (there first) (there first) (IsOfRecord w) (IsOfCommit content first last) old m (λ d off. off) (is_of_commit first mid homes after old m content number p q (commit_end.Done buf) k.gives k.sectors k.frames last rises) one.keeps)
      (keeps_wider (there mid) (there first) (IsOfStatus mid last) (IsOfCommit content first last) m new (not_there first mid (loses_less first mid old m one.loses)) (of_status (omega (arith, seq))) k.keeps)

  both : BothTold old.media new.media (λ was is. Unit {0})
  both = both_then old.media m.media new.media
      (λ was is. ChangesBy (IsOfRecord w) (image_of old.sizes was) (image_of m.sizes is))
      (λ was is. ChangesBy (IsOfStatus mid last) (image_of m.sizes was) (image_of new.sizes is))
      (λ was is. Unit {0}) (λ a b c p q. tt) one.keeps.media k.keeps.media

  -- ---- what is held between the two

  module _ (group next : Descriptor) (reads : descriptor_of content ≡ Ok next) (own : IsOf group first) (alike : IsAlike next group) (held : SessionIsHeld old group first homes) where
    is_next : next ≡ d
    is_next = same_ok next d (descriptor_of content) reads k.describes

    next_is_of : IsOf next mid
    next_is_of = alike ∙ own ∙ sym tried.group

    next_held : SessionIsHeld m next mid after
    next_held = descriptor_holds first homes old k.sectors content next k.frames reads mid after m number one.keeps buf tried k.committed k.gives.how.1 group own alike held

    next_marks : WantsMarks m next mid
    next_marks = subst (λ (g : Descriptor). WantsMarks m g mid) (sym is_next)
        (wants_marks d first mid k.valid k.round mid.committed tried.wanted.stale tried.wanted.dirty (k.committed ∙ k.was_settled) refl m after (subst (λ (g : Descriptor). SessionIsHeld m g mid after) is_next next_held))

    pub commit_finds : StatusFindsNothingNew mid after m new → FindsNoMoreOn next old new
    commit_finds finds = then_no_more old m new (λ was is. ChangesBy (IsOfRecord w) (image_of old.sizes was) (image_of m.sizes is)) one.keeps.media (finds next next_is_of next_held) next
        (descriptor_finds first mid homes after old m content number p q (commit_end.Done buf) k.gives k.sectors k.frames group next reads held)

    -- a disk shows the descriptor that it showed, or the next one; and that stays as statuses are written
    abbrev Passes : ℕ → Device → Device → Media → Media → Type 0
    Passes id a b was is = (e : ℕ) → passes (is_of id) ((contents_of (image_of a.sizes was)).descriptor e) ≡ true → passes (is_of id) ((contents_of (image_of b.sizes is)).descriptor e) ≡ true

    record_leaves : BothTold old.media m.media (Passes group.id old m)
    record_leaves = both_map old.media m.media (λ was is. ChangesBy (IsOfRecord w) (image_of old.sizes was) (image_of m.sizes is)) (Passes group.id old m) one.keeps.media (λ was is told_was told_is changes e shows. ⊎_elim
        (λ same. ap (passes (is_of group.id)) same ∙ shows)
        (λ own_now. ap (passes (is_of group.id)) own_now.1 ∙ eq-eqb next.id group.id (ap (λ (g : Descriptor). g.id) alike))
        ((descriptors_change group next first.committed (there first) first.stamp homes w.framed (image_of old.sizes was) (whole first homes old k.sectors kind.Descriptor content was told_was)
        (held_at first homes old k.sectors kind.Descriptor content group was told_was held) k.frames reads (later first homes old k.sectors kind.Descriptor content) (image_of m.sizes is) changes).own e))

    statuses_leave : BothTold m.media new.media (Passes group.id m new)
    statuses_leave = both_map m.media new.media (λ was is. ChangesBy (IsOfStatus mid last) (image_of m.sizes was) (image_of new.sizes is)) (Passes group.id m new) k.keeps.media
        (λ was is told_was told_is changes e shows. ap (passes (is_of group.id)) (status_leaves mid last (image_of m.sizes was) (image_of new.sizes is) changes e) ∙ shows)

    commit_held : StatusFindsNothingNew mid after m new → StaysHeld mid last after final m new → SessionIsHeld new next last final × OthersAreLeft group.id old new × MembersAreLeft group.id old new
    commit_held finds stays = (
      (stays next next_is_of next_held).0,
      leaves_others_on group.id next old new (λ was is. Unit {0}) (ap (λ (g : Descriptor). g.id) alike) both (commit_finds finds),
      both_then old.media m.media new.media (Passes group.id old m) (Passes group.id m new) (Passes group.id old new) (λ a b c p q e shows. q e (p e shows)) record_leaves statuses_leave,
    )

  -- ---- how it ended

  pub commit_leaves : (s : ℕ) → Spends q s m new → SpendsNumbers 1 mid last → CommitLeaves d (IsOfCommit content first last) p s first last old new
  commit_leaves s spends numbers = record {
    loses = commit_loses;
    left = commit_left;
    forgotten = λ was. k.forgotten (k.round.forgotten was);
    numbers = commit_numbers numbers;
    keeps = commit_keeps numbers.rises;
    spends = spends_then p q s old m new k.gives.leaves.spends spends;
  }

  pub commit_ends : StatusFindsNothingNew mid after m new → StatusEnds buf.number q mid last after final m new r → DescriptorEnds content number p first last homes final old new r
  commit_ends finds ends = by_end r ends_or_loses ends
    where
      by_end : (r : CommitEnd) → (EndsAtOnce r ((new ≡ m) × (last ≡ mid)) × (mid.wanted ≡ first.wanted)) ⊎ ((d : ℕ) × IsTrue (there first d) × IsTrue (calls_missing mid.wanted d)) → StatusEnds buf.number q mid last after final m new r
          → DescriptorEnds content number p first last homes final old new r
      by_end (commit_end.Done back) either is = record {
        back = returns_then number mid last old m new buf back (loses_less mid last m new k.loses) returns is.back;
        committed = is.committed;
        held = λ group next reads own alike held. commit_held group next reads own alike held finds is.held;
        plain = commit_plain;
      }
      by_end (commit_end.WentOff have total back) (inl none) is = absurd none.0
      by_end (commit_end.WentOff have total back) (inr some) is = record {
        back = returns_then number mid last old m new buf back (loses_less mid last m new k.loses) returns is.back;
        lost = commit_off have total is.lost;
        spent = spends_numbers_then 0 0 first mid last (spends_none first mid old m one.loses stamp some.0 some.1 some.2) is.spent;
        committed = commit_committed is.committed;
      }
      by_end commit_end.Dark either is = (commit_dark is.0, commit_committed is.1)
      by_end commit_end.Stuck either is = (commit_stuck is.0, commit_committed is.1)

  -- ---- each moment

  abbrev CommitStays : Device → Type 0
  CommitStays d = (group next : Descriptor) (among : ℕ → Bool) (facts : List Fact) → descriptor_of content ≡ Ok next → IsOf group first → SessionIsHeld old group first homes
      → IfSome old.media (λ media. VolumesServe (contents_of (image_of old.sizes media)) facts group among next) → ImagesKept old facts → ImagesKept d facts

  described_kept : DescriptorStaysKept content first homes old m
  described_kept = descriptor_kept first mid homes after old m content number p q (commit_end.Done buf) k.gives k.sectors k.frames

  then_kept : (e : Device) → (WantsMarks m d mid → SessionIsHeld m d mid after → StaysKept m e) × (is_some e.media ≡ is_some m.media) → CommitStays e
  then_kept e is group next among facts reads own held serves was image may =
      let media = told_before old e image (is.1 ∙ told_with k.gives.leaves.moments) may in
      let served = told_at old.media (λ x. VolumesServe (contents_of (image_of old.sizes x)) facts group among next) media.0 media.1 serves in
      let alike : IsAlike next group = ap (λ (g : Descriptor). record g { lvs = [] }) served.differs.alone in
      is.0 (subst (λ (g : Descriptor). WantsMarks m g mid) (is_next group next reads own alike held) (next_marks group next reads own alike held))
      (subst (λ (g : Descriptor). SessionIsHeld m g mid after) (is_next group next reads own alike held) (next_held group next reads own alike held)) facts
      (last-path described_kept group next among facts reads own held serves was) image may

  pub commit_kept : DescriptorStaysKept content first homes old new
  commit_kept = append-path described_kept (map-path CommitStays then_kept (with_told k.kept))

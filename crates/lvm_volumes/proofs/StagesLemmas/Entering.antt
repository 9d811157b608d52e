-- The entries of a volume in a session, and the commit between them.
use Rattle.std.proofs.Common.{◌==◌, ◌≡◌, inl, ℕ, ◌≤◌, [], ◌∷◌, Option, Some, None, Result, refl, sym, ap, subst, ◌∙◌, arith}
use Rattle.std.specs.Prelude.{IfSome, not, length}
use Rattle.std.proofs.lemmas.List.Sums.{sum_by-append, count_by-le-length}
use Rattle.lvm_num.specs.declared.place.Pp.{Pp}
use Rattle.lvm_num.specs.declared.descriptor.Descriptor.{Descriptor}
use Rattle.lvm_num.specs.declared.descriptor.PvRow.{PvRow}
use Rattle.lvm_num.specs.Descriptor.{IsValid, is_member}
use Rattle.lvm_num.specs.Status.{calls_missing}
use Rattle.lvm_num.proofs.DescriptorLemmas.Bounds.{few_members}
use Rattle.lvm_disk.specs.Device.{Media, Image, IsReady, image_of, MayLeave}
use Rattle.lvm_vol.specs.declared.entry.Entry.{Entry}
use Rattle.lvm_vol.specs.declared.entry.Entry.TheVariants as entry
use Rattle.lvm_vol.specs.Facts.{Fact}
use Rattle.lvm_vol.specs.Legal.{IsLater}
use Rattle.lvm_vol.specs.Log.{Log, with_fact, plain_fact, need, spare_entries}
use Rattle.lvm_kept.specs.Contents.{contents_of}
use Rattle.lvm_kept.specs.Moments.{Moment}
use Rattle.lvm_steps.specs.Entering.{OpensNone}
use Rattle.lvm_steps.proofs.EnteringLemmas.{calm_goes_on}
use Rattle.lvm_volume_plan.proofs.passed.Write.{keeps_here, spends_none}
use Rattle.lvm_volume_plan.proofs.passed.Commit.{still_holds_committed}
use Rattle.lvm_volume_plan.proofs.passed.Core.{keeps_fact, same_status}
use Rattle.lvm_volume_plan.specs.passed.Commit.{HoldsCommitted, ShowsCommitted, IsOnlyGroupSince, LeavesCommitted, many_there, NoneIsLeft, MarksLeft}
use Rattle.lvm_volume_plan.specs.passed.Core.{IsHeld, IsSettled, HasSpareNumbers, moment_of, LetsCommit, HasStated, CommitEnds, CommitFault, NoPartition, NoVolume, IsHeldSince, IsOfCommand, Leaves, committing, IsEntryOfCommand}
use Rattle.lvm_session.specs.State.{Core, State, is_there}
use Rattle.lvm_steps.specs.Moments.{SpanGoesOn}
use Rattle.lvm_volumes.specs.Endings.{StillHeld, IfAlone, commanding}
use Rattle.lvm_volumes.specs.Stages.{with_entry, ClosesBy, CommitsBetween}
use Rattle.lvm_volumes.proofs.EndingsLemmas.Holding.{still_by}
use Rattle.lvm_volumes.proofs.Leaving.{falls_none, leaves_wider}
use Rattle.lvm_volume_plan.specs.PlannedVolume.{AreOfOneGroup}
use Rattle.lvm_volume_plan.specs.Faults.{HasSpareRoom}
use Rattle.lvm_core.proofs.CommittingLemmas.Committing.{lets_one}

pub spare_more : (log : Log) (f : Fact) → need f ≡ 1 → 2 ≤ spare_entries log → 1 ≤ spare_entries (with_fact log f)
spare_more log f one two = let sum = sum_by-append need log.facts (f ∷ []) in omega (arith, sum, one, two)

-- each entry of a command needs its own room alone
pub needs_one : (e : Entry) → IsEntryOfCommand e → need (plain_fact e) ≡ 1
needs_one (entry.Making lv blocks mode) is = refl
needs_one (entry.Made lv) is = refl
needs_one (entry.Split from lv) is = refl
needs_one (entry.Removing vol) is = refl
needs_one (entry.Removed vol) is = refl
needs_one _ is = absurd is

pub settled_entered : (s : State) (f : Fact) → IsSettled s.core → IsSettled (with_entry s f).core
settled_entered s f settled = record {
  power = settled.power;
  quiet = record { requests = settled.quiet.requests; copy = settled.quiet.copy; status = settled.quiet.status; notes = settled.quiet.notes; buffers = settled.quiet.buffers };
  committed = settled.committed;
  epoch = settled.epoch;
  votes = settled.votes;
}

module _ (N : Descriptor → Type 0) (Z : Pp → Type 0) where
  -- an entry that is no varyon and opens no write
  pub entry_leaves : (p : ℕ) (s : State) (f : Fact) → ((moment : ℕ) → IsLater (f ∷ []) moment) → OpensNone f
      → ((run : ℕ) (first : Moment) → IsHeldSince run first s → IfAlone s (with_entry s f) run first → SpanGoesOn run first (moment_of s) (moment_of (with_entry s f))) → Leaves (commanding N Z 0) p p s (with_entry s f)
  entry_leaves p s f later opens spans = record {
    writes = keeps_here (is_there s.core) (IsOfCommand N Z s (with_entry s f)) s.device;
    status = same_status N NoPartition Z NoVolume s (with_entry s f) refl;
    numbers = record { epoch = refl; rises = omega arith; most = omega arith };
    history = keeps_fact s.core.history f later;
    spans = spans;
    finds = λ held id k is. inl is;
    calm = calm_goes_on (moment_of s) s.device s.core.history.facts f (λ past calm. calm) opens;
    behind = λ moment lt is. is;
    falls = falls_none s.device;
    spends = spends_none p s.device;
  }

pub entry_still : (s : State) (f : Fact) → StillHeld s (with_entry s f)
entry_still s f = record { held = λ held. held; notes = λ home. home; only = λ held only. only; left = λ none. none }

-- ---- what a held session's crash images show

pub shows_committed : (s : State) → IsReady s.device → IsHeld s.device s.core → (image : Image) → MayLeave s.device image → ShowsCommitted (contents_of image) s.core.descriptor s.core.status.committed (is_there s.core)
shows_committed s ready held image may = by_media s.device.media refl held
  where
    by_media : (o : Option Media) → s.device.media ≡ o → IfSome o (λ media. HoldsCommitted (image_of s.device.sizes media) s.core.descriptor s.core.status.committed (is_there s.core) s.core.status.stamp s.core.homes)
        → ShowsCommitted (contents_of image) s.core.descriptor s.core.status.committed (is_there s.core)
    by_media None told held = absurd (subst (λ (o : Option Media). MayLeave (record s.device { media = o }) image) told may)
    by_media (Some m) told held = (still_holds_committed s.core.descriptor s.core.status.committed (is_there s.core) s.core.status.stamp s.core.homes s.device m told ready.flights held image may).shows

pub leaves_committed : (s : State) → IsReady s.device → (run : ℕ) (first : Moment) → IsHeldSince run first s → IsOnlyGroupSince run first s.device s.core.descriptor.id
    → LeavesCommitted run first s.device s.core.descriptor s.core.status.committed (is_there s.core)
leaves_committed s ready run first held only = record { shows = λ past begins. shows_committed s ready (held past begins); only = only }

-- ---- the commit

module _ (N : Descriptor → Type 0) (Z : Pp → Type 0) (next : Descriptor) (its : N next) (p q : ℕ) (a b : State) (leaves : Leaves (committing next) p q a b) where
  -- it is one of the command, where the history lets it be
  pub commit_among : (lv : ℕ) → ((run : ℕ) (first : Moment) → IsHeldSince run first a → LetsCommit lv next run first a) → Leaves (commanding N Z 1) p q a b
  commit_among lv lets = leaves_wider (committing next) (commanding N Z 1) (λ d is. subst N (sym is) its) (λ pp none. absurd none) (λ pp none. none) (λ pp none. absurd none) (λ lv none. none) (omega arith) p q a b
      (λ run first held only. ((λ n. n == lv), lets_one lv next run first a (lets run first held))) leaves

pub commit_still : (next : Descriptor) (p q : ℕ) (a b : State) → Leaves (committing next) p q a b → MarksLeft next a.core.status b.core.status → HasStated next a b → next.id ≡ a.core.descriptor.id
    → ((d : ℕ) → is_member next d ≡ is_member a.core.descriptor d) → (NoneIsLeft a.core.descriptor a.core.status → NoneIsLeft next a.core.status) → StillHeld a b
commit_still next p q a b leaves left done id members none_next =
    let same : b.core.descriptor ≡ next = ap (λ (c : Core). c.descriptor) done.is in
    still_by (committing next) p q a b leaves (λ k is. ap (λ (d : Descriptor). d.id) is ∙ id) (ap (λ (d : Descriptor). d.id) same ∙ id) (λ d. ap (λ (g : Descriptor). is_member g d) same ∙ members d) (ap (λ (c : Core). c.cache) done.is)
    done.held (λ none. subst (λ (d : Descriptor). NoneIsLeft d b.core.status) (sym same) (left.none (none_next none)))

-- ---- sequence numbers

pub many_bound : (core : Core) → IsValid core.descriptor → core.status.group ≡ record core.descriptor { lvs = [] } → many_there core.status ≤ 128
many_bound core valid group =
    let all = count_by-le-length (λ (row : PvRow). not (calls_missing core.status.wanted row.disk)) core.status.group.pvs in
    let same : length core.status.group.pvs ≡ length core.descriptor.pvs = ap (λ (d : Descriptor). length d.pvs) group in
    omega (arith, all, same, valid.head.members, few_members core.descriptor.big)

pub has_numbers : (core : Core) → AreOfOneGroup core → HasSpareRoom core → HasSpareNumbers core
has_numbers core group room = let many = many_bound core group.valid group.status in omega (arith, many, room.numbers)

-- what is committed behind the first entry, and the last entry behind that
pub commits_between :
    (first last : Fact) (next : Descriptor) (p q : ℕ) (old entered mid new : State) (answer : Result (Unit {0}) CommitFault) → entered ≡ with_entry old first → Leaves (committing next) p q entered mid
    → MarksLeft next entered.core.status mid.core.status → CommitEnds next p entered mid answer → ClosesBy last mid new answer → CommitsBetween first last next p q old new answer
commits_between first last next p q old entered mid new answer same leaves left ends closes = record {
  mid = mid;
  leaves = subst (λ (x : State). Leaves (committing next) p q x mid) same leaves;
  left = subst (λ (x : State). MarksLeft next x.core.status mid.core.status) same left;
  ends = subst (λ (x : State). CommitEnds next p x mid answer) same ends;
  closes = closes;
}

-- The moments of a varyon, and what each of its writes finds.
use Rattle.std.proofs.Common.{◌≡◌, ◌⊎◌, inl, inr, ⊎_elim, ℕ, ◌<◌, ◌≤◌, true, ◌&&◌, length, Option, Some, None, refl, sym, ap, subst, ◌∙◌, eq-eqb}
use Rattle.std.specs.Prelude.{IsTrue}
use Rattle.std.proofs.lemmas.Option.{same_Some}
use Rattle.std.proofs.lemmas.Bool.{eqb-true}
use Rattle.lvm_num.specs.declared.descriptor.Descriptor.{Descriptor}
use Rattle.lvm_num.specs.declared.status.Status.{Status}
use Rattle.lvm_num.specs.Disks.{Disks}
use Rattle.lvm_num.specs.Note.{Noted}
use Rattle.lvm_num.specs.Votes.{CanRead}
use Rattle.lvm_num.specs.Record.{Stamped, stamp_lt}
use Rattle.lvm_num.proofs.RecordLemmas.Newest.{is_one, is_last}
use Rattle.lvm_num.proofs.VotesLemmas.{read_meets_read}
use Rattle.lvm_kept.specs.passed.Disk.{Image, image_of}
use Rattle.lvm_kept.proofs.passed.Disk.{map-path}
use Rattle.lvm_kept.specs.Contents.{Contents, contents_of}
use Rattle.lvm_kept.specs.Group.{passes, is_of, has_room, descriptor_among, is_voter, Finds, members_in, ReadsBy}
use Rattle.lvm_kept.specs.Committed.{IsWithinDisks}
use Rattle.lvm_kept.specs.Torn.{written as as_read, DescriptorsChange, Alone, Note}
use Rattle.lvm_kept.proofs.CommittedLemmas.Finding.{offered, is_offered, offers, finding_reads, finds_from, images_within}
use Rattle.lvm_kept.proofs.TornLemmas.Records.{descriptor_shows, status_shows}
use Rattle.lvm_kept.proofs.TornLemmas.Standing.{note_shows}
use Rattle.lvm_steps.specs.Moments.{ImagesKept}
use Rattle.lvm_steps.specs.VaryingOn.{MayRestamp, HasNewest, RestampIsNewest, NewestStaysNewest, DescriptorVariesOn, StatusVariesOn, NotesVaryOn, GroupIsVariedOn}
use Rattle.lvm_steps.specs.Committing.{CommitGoesOn}
use Rattle.lvm_steps.proofs.CommittingLemmas.{commit_keeps}
use Rattle.lvm_steps.proofs.VaryingOnLemmas.VaryingOn.{restamp_keeps, restate_keeps, forgetting_keeps}
use Rattle.lvm_steps.proofs.MakingLemmas.Making.{stays_by, media_may}
use Rattle.lvm_steps.proofs.MomentsLemmas.Spans.{steps_go_on, group_goes_on}
use Rattle.lvm_steps.proofs.RecordLemmas.{clash, first}
use Rattle.lvm_kept.proofs.GroupLemmas.{still_finds}

-- ---- the newest

module _ (group : Descriptor) (disks targets : Disks) (next : Stamped Descriptor) (old new : Contents) (within : IsWithinDisks old) (some : 1 ≤ length group.pvs) (found : Finds old disks group.id group)
    (may : MayRestamp old group targets next) (change : DescriptorsChange targets next old new) (whole : (d : ℕ) → IsTrue (is_voter old disks group.id d) → new.descriptor d ≡ Some next) where
  abbrev id : ℕ
  id = group.id

  id_is : next.value.id ≡ id
  id_is = ap (λ (g : Descriptor). g.id) may.value

  -- disks show descriptors of the group that did
  shows_same : (d : ℕ) → passes (is_of id) (new.descriptor d) ≡ passes (is_of id) (old.descriptor d)
  shows_same d = ⊎_elim
      (λ same. ap (passes (is_of id)) same)
      (λ (is : IsTrue (targets d) × (new.descriptor d ≡ Some next)). ap (passes (is_of id)) is.1 ∙ eq-eqb next.value.id id id_is ∙ sym (may.showing d is.0))
      (change.own d)

  members_same : members_in new disks id group ≡ members_in old disks id group
  members_same = let room : (d : ℕ) → has_room new d group ≡ has_room old d group = λ d. ap (λ (c : Contents). has_room c d group) change.rest in λ t d. disks d && shows_same d t && room d t

  reads : ReadsBy old disks id group
  reads = finding_reads old disks id group found

  have : (d : ℕ) → IsTrue (members_in new disks id group d) → new.descriptor d ≡ Some next
  have d is = whole d (ap (λ (v : Disks). v d) (reads.voters ∙ sym members_same) ∙ is)

  last : (d : ℕ) (r : Stamped Descriptor) → new.descriptor d ≡ Some r → r.value.id ≡ id → (stamp_lt r.stamp next.stamp ≡ true) ⊎ (r ≡ next)
  last d r shows its = ⊎_elim
      (λ (same : new.descriptor d ≡ old.descriptor d). inl (may.later d r (sym same ∙ shows) its))
      (λ (is : IsTrue (targets d) × (new.descriptor d ≡ Some next)). inr (same_Some r next (sym shows ∙ is.1)))
      (change.own d)

  can_read : CanRead group (members_in new disks id group)
  can_read = subst (λ (set : Disks). CanRead group set) (sym members_same) reads.reads.enough

  newest : descriptor_among new disks id ≡ Some next
  unfolding descriptor_among
  newest =
      let one = read_meets_read group (members_in new disks id group) (members_in new disks id group) some can_read can_read in
      let d : ℕ = one.0 in
      let member : IsTrue (members_in new disks id group d) = one.2 in
      let shows : new.descriptor d ≡ Some next = have d member in
      let in_set : disks d ≡ true = first (disks d) (passes (is_of id) (new.descriptor d)) (first (disks d && passes (is_of id) (new.descriptor d)) (has_room new d group) member) in
      let was : IsTrue (passes (is_of id) (old.descriptor d)) = sym (shows_same d) ∙ ap (passes (is_of id)) shows ∙ eq-eqb next.value.id id id_is in
      let n = is_last Descriptor (offered (is_of id) new.descriptor disks) new.disks d next (subst (λ (c : Contents). d < c.disks) (sym change.rest) (there d (old.descriptor d) refl was))
      (offers (is_of id) new.descriptor disks d next in_set shows (eq-eqb next.value.id id id_is)) in
      let from_one = is_one Descriptor (offered (is_of id) new.descriptor disks) new.disks n.0 n.1 in
      let from = is_offered (is_of id) new.descriptor disks from_one.0 n.0 from_one.2 in
      ⊎_elim
      (λ (low : stamp_lt n.0.stamp next.stamp ≡ true). absurd (clash (stamp_lt n.0.stamp next.stamp) low n.2))
      (λ (it : n.0 ≡ next). n.1 ∙ ap (λ (r : Stamped Descriptor). Some r) it)
      (last from_one.0 n.0 from.0 (eqb-true n.0.value.id id from.1))
    where
      there : (d : ℕ) (o : Option (Stamped Descriptor)) → old.descriptor d ≡ o → IsTrue (passes (is_of id) o) → d < old.disks
      there d None is passed = absurd cc
      there d (Some r) is passed = within.descriptors d r is

  pub newest_now : HasNewest new group disks next
  newest_now = record {
    found = subst (λ (g : Descriptor). Finds new disks id g) may.value (finds_from new disks id next newest (subst (λ (g : Descriptor). CanRead g (members_in new disks id g)) (sym may.value) can_read));
    value = may.value;
    have = have;
    last = last;
  }

pub restamp_is_newest : RestampIsNewest
restamp_is_newest group disks targets next old new within some found may change whole = newest_now group disks targets next old new within some found may change whole

-- other statuses and notes
module _ (c : Contents) (status : ℕ → Option (Stamped Status)) (note : ℕ → Option Noted) where
  abbrev with : Contents
  with = record c { status = status; note = note }

  stays_newest : (group : Descriptor) (disks : Disks) (newest : Stamped Descriptor) → HasNewest c group disks newest → HasNewest with group disks newest
  stays_newest group disks last_one has = record {
    found = still_finds c status note c.block disks group.id group has.found;
    value = has.value;
    have = has.have;
    last = has.last;
  }

pub newest_stays_newest : NewestStaysNewest
newest_stays_newest group disks newest old new rest has = subst (λ (c : Contents). HasNewest c group disks newest) (sym rest) (stays_newest old new.status new.note group disks newest has)

-- ---- the moments

pub descriptor_varies_on : DescriptorVariesOn
descriptor_varies_on group w old new written is_kind may_write may =
    let start : Image = image_of old.sizes written.media in
    stays_by (Alone w) old new written (λ image by facts kept. restamp_keeps group w.targets (as_read w group) (contents_of start) (contents_of image) facts (images_within start) may (descriptor_shows w group start image is_kind may_write by) kept)

pub status_varies_on : StatusVariesOn
status_varies_on group disks newest was w status old new written is_kind may_write may =
    let start : Image = image_of old.sizes written.media in
    stays_by (Alone w) old new written (λ image by facts kept. restate_keeps group disks w.targets newest was (as_read w status) (contents_of start) (contents_of image) facts (images_within start) may (status_shows w status start image is_kind may_write by) kept)

pub notes_vary_on : NotesVaryOn
notes_vary_on group disks newest targets sector old new written has quiet showing =
    let start : Image = image_of old.sizes written.media in
    stays_by (Note targets sector) old new written (λ image by facts kept.
    let shows = note_shows targets sector start image by in
    forgetting_keeps group disks targets newest (contents_of start) (contents_of image) facts (images_within start) has quiet showing
    (record { own = λ d. ⊎_elim (λ same. inl same) (λ is. inr is.0) (shows.own d); rest = shows.rest }) kept)

pub group_is_varied_on : GroupIsVariedOn
group_is_varied_on run start facts moment group disks was old new span v le later =
    group_goes_on run start new facts moment
    (steps_go_on run start v.stated new facts
    (steps_go_on run start v.described v.stated facts
    (steps_go_on run start old v.described facts span (descriptor_varies_on group v.group_write old v.described v.describes v.own_kind v.may_describe v.restamp))
    (status_varies_on group disks (as_read v.group_write group) was v.status_write v.status v.described v.stated v.states v.its_kind v.may_state v.restate))
    (notes_vary_on group disks (as_read v.group_write group) v.targets v.sector v.stated new v.forgets v.newest v.quiet v.showing))
    le later

pub commit_goes_on : CommitGoesOn
commit_goes_on group lv w next old new facts written is_kind may_write may kept =
    let start : Image = image_of old.sizes written.media in
    map-path (λ d. ImagesKept d facts) (λ d way image left. commit_keeps group lv w.targets (as_read w next) (contents_of start) (contents_of image) facts (images_within start) may (descriptor_shows w next start image is_kind may_write (way image left))
    (kept start (media_may old written.media written.told))) written.path

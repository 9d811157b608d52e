-- Where nothing of the status changes but what is wanted, and not what is missing.
use Rattle.std.proofs.Common.{◌≡◌, ◌⊎◌, inl, inr, ℕ, ◌<◌, ◌^◌, Bool, true, false, ◌&&◌, ◌||◌, not, if◌then◌else◌, List, Option, Some, None, refl, sym, ap, subst, ◌∙◌}
use Rattle.std.specs.Prelude.{◌≢◌}
use Rattle.std.specs.Option.{option_map}
use Rattle.lvm_num.specs.declared.descriptor.Descriptor.{Descriptor}
use Rattle.lvm_num.specs.declared.status.Status.{Status}
use Rattle.lvm_num.specs.Descriptor.{is_member}
use Rattle.lvm_num.specs.Disks.{has}
use Rattle.lvm_num.specs.declared.record.Stamp.{Stamp}
use Rattle.lvm_num.specs.Record.{Stamped}
use Rattle.lvm_vol.specs.Facts.{Fact}
use Rattle.lvm_disk.specs.Device.{Image}
use Rattle.lvm_kept.specs.Contents.{Contents}
use Rattle.lvm_kept.specs.Torn.{RecordWrite}
use Rattle.lvm_steps.specs.Behind.{StampsBefore}
use Rattle.lvm_status.specs.Table.{SameMissing}
use Rattle.lvm_status.specs.Runs.{IsSoundStatus}
use Rattle.lvm_status.specs.Update.{Stored, Updates, is_held, is_owed, no_disks, seen}
use Rattle.lvm_commit.specs.Committed.{next_stamp}
use Rattle.lvm_rec.specs.declared.homes.Homes.{Homes}
use Rattle.lvm_session.specs.State.{Core, is_there}
use Rattle.lvm_session.specs.Marks.{WantsDirty}
use Rattle.lvm_invariant.specs.State.{ModelState}
use Rattle.lvm_crash.specs.Session.{as_marks, marks_of}
use Rattle.lvm_tie.specs.Seen.{Sees, update_of}
use Rattle.lvm_tie.specs.Out.{IsWriteOf, MayUpdate, is_owed_on}
use Rattle.lvm_tie.specs.Tied.{CommittedIsOne, ShowsRecords}
use Rattle.lvm_tie.proofs.TiedLemmas.Recorded.{NoMoreThere, one_remains, records_last, status_lasts}

module _ (old new : Stored) (rest : seen new ≡ record (seen old) { wanted = new.wanted }) (missing : SameMissing old.wanted new.wanted) where
  pub committed_same : new.committed ≡ old.committed
  committed_same = ap (λ (u : Updates). u.committed) rest

  pub in_flight_same : new.in_flight ≡ old.in_flight
  in_flight_same = ap (λ (u : Updates). u.in_flight) rest

  pub stamp_same : new.stamp ≡ old.stamp
  stamp_same = ap (λ (u : Updates). u.stamp) rest

  pub update_same : update_of new ≡ update_of old
  update_same = ap (λ (u : Updates). option_map (λ (t : Status). let r : Stamped Status = record { stamp = u.stamp; value = t } in r) u.in_flight) rest

  owed_same : (d : ℕ) → is_owed_on new d ≡ is_owed_on old d
  owed_same d = ap (λ (u : Updates). u.unstarted d || u.started d) rest

  held_same : is_held (seen new) ≡ is_held (seen old)
  held_same = ap is_held rest

  there_same : (core : Core) (d : ℕ) → is_there (record core { status = new }) d ≡ is_there (record core { status = old }) d
  there_same core d = ap (λ b. is_member core.descriptor d && not b) (missing d)

  pub next_same : (group : Descriptor) (homes : Homes) (image : Image) → MayUpdate group old homes image → MayUpdate group new homes image
  next_same group homes image may = record {
    some_epoch = subst (λ st. st.epoch ≢ 0) (sym stamp_same) may.some_epoch;
    epoch = subst (λ st. st.epoch < 2 ^ 64) (sym stamp_same) may.epoch;
    whole = may.whole;
    before = subst (λ st. StampsBefore (next_stamp st) image) (sym stamp_same) may.before;
    spare = λ d there owed. may.spare d (sym (ap (λ b. is_member group d && not b) (missing d)) ∙ there) (sym (owed_same d) ∙ owed);
  }

  pub write_same : (homes : Homes) (w : Option RecordWrite) → IsWriteOf old homes old.in_flight w → IsWriteOf new homes new.in_flight w
  write_same homes w is = subst (λ (u : Option Status). IsWriteOf new homes u w) (sym in_flight_same) (by old.in_flight w is)
    where
      by : (u : Option Status) (x : Option RecordWrite) → IsWriteOf old homes u x → IsWriteOf new homes u x
      by None None its = tt
      by None (Some x) its = its
      by (Some u) None its = its
      by (Some u) (Some x) its = record {
        is_status = its.is_status;
        stamp = its.stamp ∙ sym stamp_same;
        content = its.content;
        targets = λ d owed. its.targets d (sym (owed_same d) ∙ owed);
        slots = λ d owed. its.slots d (sym (owed_same d) ∙ owed);
      }

  pub sees_wanted : (past : List Fact) (core : Core) (v : ModelState) → core.status ≡ old → Sees past core v → Sees past (record core { status = new }) (record v { wanted = marks_of v.beside new.wanted })
  sees_wanted past core v its sees = record {
    queue = sees.queue;
    facts = sees.facts;
    status = record {
      committed = sees.status.committed ∙ ap (λ (s : Stored). marks_of v.beside s.committed) its ∙ ap (marks_of v.beside) (sym committed_same);
      in_flight = sees.status.in_flight ∙ ap (λ (s : Stored). option_map (as_marks v.beside) (update_of s)) its ∙ ap (option_map (as_marks v.beside)) (sym update_same);
      wanted = refl;
      started = λ d. sees.status.started d ∙ ap (λ (s : Stored). has s.writes.started d) its ∙ sym (ap (λ (u : Updates). u.started d) rest);
      written = λ d had. sees.status.written d (ap (λ (s : Stored). has s.writes.written d) its ∙ sym (ap (λ (u : Updates). u.written d) rest) ∙ had);
      held = λ u is enough. sees.status.held u (ap update_of its ∙ sym update_same ∙ is) (ap (λ (s : Stored). is_held (seen s)) its ∙ sym held_same ∙ enough);
      missing = λ d. sees.status.missing d ∙ ap (λ (s : Stored). not (is_there (record core { status = s }) d)) its ∙ ap not (sym (there_same core d));
    };
    notes = record {
      cache = sees.notes.cache;
      home = λ d lv g n there. sees.notes.home d lv g n (ap (λ (s : Stored). is_there (record core { status = s }) d) its ∙ sym (there_same core d) ∙ there);
      flying = sees.notes.flying;
    };
    open_copy = sees.open_copy;
    step_write = sees.step_write;
    beside = sees.beside;
  }

  -- what the members show lasts
  pub records_wanted : (group : Descriptor) (c : Contents) → ShowsRecords group old c → ShowsRecords group new c
  records_wanted group c shows = records_last group old new c c shows fewer (λ d. refl) (λ none. status_lasts group old new c c (shows.settled (sym in_flight_same ∙ none)) fewer committed_same (λ d. refl))
    where
      fewer : NoMoreThere group old new
      fewer d there = sym (ap (λ b. is_member group d && not b) (missing d)) ∙ there

  pub one_wanted : {stamp : Stamp} {group : Descriptor} {c : Contents} → CommittedIsOne stamp group old c → CommittedIsOne stamp group new c
  one_wanted one = one_remains one committed_same (λ u flies. sym update_same ∙ flies) (λ d. inl refl)

-- an update in flight of a sound status isn't over
pub stays_open : (u : Updates) → IsSoundStatus u → is_held u && not (is_owed u) ≡ false
stays_open u sound = by u.in_flight refl
  where
    none_held : (b : Bool) → is_held u ≡ b → u.in_flight ≡ None → b && not (is_owed u) ≡ false
    none_held true held none = absurd (let e : None ≡ Some u.committed = sym none ∙ sound.held held in cc)
    none_held false held none = refl

    either : (a b : Bool) → (b ≡ true) ⊎ (a ≡ false) → a && not b ≡ false
    either true true which = refl
    either true false (inl e) = absurd (cc e)
    either true false (inr e) = absurd (cc e)
    either false b which = refl

    by : (m : Option Status) → u.in_flight ≡ m → is_held u && not (is_owed u) ≡ false
    by None none = none_held (is_held u) refl none
    by (Some t) flies = either (is_held u) (is_owed u) (sound.open_still t flies)

-- so that where a volume becomes dirty nothing but what is wanted changes
pub dirty_rest : (lv : ℕ) (old new : Stored) → IsSoundStatus (seen old) → WantsDirty lv old new → seen new ≡ record (seen old) { wanted = new.wanted }
dirty_rest lv old new sound wants =
    wants.rest ∙ ap (λ b. if b then record (seen old) { wanted = new.wanted; in_flight = None; unstarted = no_disks; started = no_disks; written = no_disks; failed = no_disks } else record (seen old) { wanted = new.wanted }) (stays_open (seen old) sound)

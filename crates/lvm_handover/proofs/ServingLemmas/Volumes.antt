-- A session is sound with requests after a volume was made or removed.
use Rattle.std.proofs.Common.{◌≡◌, ◌==◌, ◌⊎◌, inl, inr, ⊎_elim, ℕ, ◌-◌, ◌≤◌, ◌^◌, Bool, true, false, ◌&&◌, ◌||◌, not, List, [], ◌∷◌, Option, Some, None, if◌then◌else◌, refl, sym, ◌∙◌, ap, subst, arith}
use Rattle.std.specs.Prelude.{IsTrue, IsFalse, Ok, Err, find, slice_set}
use Rattle.std.specs.List.{list_any}
use Rattle.std.specs.Option.{option_map_or}
use Rattle.std.proofs.lemmas.List.Elements.{All-contains}
use Rattle.std.proofs.lemmas.Bool.{eqb-true}
use Rattle.lvm_num.specs.declared.descriptor.Descriptor.{Descriptor}
use Rattle.lvm_num.specs.declared.descriptor.LvRow.{LvRow}
use Rattle.lvm_num.specs.declared.place.Pp.{Pp}
use Rattle.lvm_num.specs.Descriptor.{IsPartitionOf, IsValid, copies_of, is_member, volume_of}
use Rattle.lvm_num.specs.Geometry.{volume_blocks}
use Rattle.lvm_num.specs.Status.{calls_stale}
use Rattle.lvm_num.proofs.Booleans.{second_with_first}
use Rattle.lvm_num.proofs.AmongLemmas.{one_any}
use Rattle.lvm_disk.specs.Counts.{NoneFalls}
use Rattle.lvm_disk.proofs.CountingLemmas.{none_falls_at_once}
use Rattle.lvm_vol.specs.declared.entry.Vol.TheVariants.{Lv}
use Rattle.lvm_vol.specs.Facts.{Made, Making, Removed, Removing}
use Rattle.lvm_vol.specs.Log.{Log, with_fact}
use Rattle.lvm_vol.specs.Order.{Ordered}
use Rattle.lvm_vol.proofs.FactsLemmas.Order.{ordered-push}
use Rattle.lvm_kept.specs.Group.{IsAlike, IsOneOf}
use Rattle.lvm_status.specs.Update.{members_there}
use Rattle.lvm_commit.specs.Settling.{NoneIsLeft, SpendsNumbers}
use Rattle.lvm_commit.proofs.AmongLemmas.{contains, of_map}
use Rattle.lvm_volumes.proofs.passed.Even.{row_is_volume}
use Rattle.lvm_write.proofs.NextLemmas.{copy_is_placed, is_member_of}
use Rattle.lvm_session.specs.State.{Core, State, is_there}
use Rattle.lvm_session.specs.Judging.{copies_in, is_missing, is_settled, is_wanted_stale}
use Rattle.lvm_session.specs.Causes.{is_held_stale}
use Rattle.lvm_session.specs.Left.{updates_left}
use Rattle.lvm_session.specs.Marks.{is_among}
use Rattle.lvm_session.specs.Sound.{IsGoing, IsSound, may_be_fresh, stays_fresh}
use Rattle.lvm_handover.specs.passed.Core.{KeepsStatus, Leaves, NoPartition, NoVolume, WasLeftBehind, IsSettled}
use Rattle.std.proofs.lemmas.Bool.{or_left, or_right}
use Rattle.lvm_volumes.specs.passed.VolumePlanFaultGroupFault as fault
use Rattle.lvm_volumes.specs.passed.VolumePlan.{NewVolume, HasSpareRoom, row_for, with_volume, without_volume}
use Rattle.lvm_volumes.proofs.passed.VolumePlan.{one_filter, one_insert}
use Rattle.lvm_volumes.specs.Endings.{HasFresh, KeepsFresh, StillHeld}
use Rattle.lvm_volumes.specs.Volumes.{IsChosen, IsVolumeMade, IsVolumeRemoved, IsWith, MakingFails, making, removing, to_make, to_remove}
use Rattle.lvm_volumes.proofs.StagesLemmas.Entering.{many_bound}
use Rattle.lvm_volumes.proofs.DescriptorLemmas.{places_of}
use Rattle.lvm_handover.specs.Serving.{GoesOnWith, MayServe, MklvServes, RmlvServes, StaysSound}
use Rattle.lvm_keeps.proofs.LeftLemmas.Updates.{few_updates}
use Rattle.lvm_handover.proofs.NoneLeftLemmas.{none_left}
use Rattle.lvm_handover.proofs.ServingLemmas.Serving.{commands_serve}

-- ---- rows

-- what is found is there, and is what was looked for
pub found : (test : LvRow → Bool) (rows : List LvRow) (row : LvRow) → find test rows ≡ Some row → IsOneOf rows row × (test row ≡ true)
found test [] row is = absurd (cc is)
found test (r ∷ rows) row is = by (test r) refl is (found test rows row)
  where
    by : (b : Bool) → test r ≡ b → (if b then Some r else find test rows) ≡ Some row → (find test rows ≡ Some row → IsOneOf rows row × (test row ≡ true)) → IsOneOf (r ∷ rows) row × (test row ≡ true)
    by true here is rest = let same : r ≡ row = cc is in (inl (sym same), ap test (sym same) ∙ here)
    by false not_here is rest = let later = rest is in (inr later.0, later.1)

-- a copy is one of a volume of that number
pub record IsCopyOf (d : Descriptor) (lv lp : ℕ) (p : Pp) : Type 0 where
  pub row : LvRow
  pub volume : volume_of d lv ≡ Some row
  pub one : IsOneOf (copies_of row lp) p

pub its_row : (d : Descriptor) (lv lp : ℕ) (p : Pp) → IsOneOf (copies_in d lv lp) p → IsCopyOf d lv lp p
its_row d lv lp p is = by (volume_of d lv) refl is
  where
    by : (o : Option LvRow) → volume_of d lv ≡ o → IsOneOf (option_map_or (λ (row : LvRow). copies_of row lp) o []) p → IsCopyOf d lv lp p
    by None at one = absurd one
    by (Some row) at one = record { row = row; volume = at; one = one }

pub copies_at : (d : Descriptor) (lv lp : ℕ) (row : LvRow) → volume_of d lv ≡ Some row → copies_in d lv lp ≡ copies_of row lp
copies_at d lv lp row at = ap (λ (o : Option LvRow). option_map_or (λ (row : LvRow). copies_of row lp) o []) at

-- ---- what a command leaves, by its contract

module _ (old : State) (sound : IsSound old) (began : IsSettled old.core) where
  going : IsGoing old.core
  going = (sound.on began.power).going

  pub none_before : NoneIsLeft old.core.descriptor old.core.status
  none_before = none_left old.core sound.fitting.valid sound.fitting.group began.committed going.behind

  -- a copy that was fresh when it began has a fresh one beside it
  pub had_fresh : (lv lp : ℕ) (p : Pp) → IsOneOf (copies_in old.core.descriptor lv lp) p → IsFalse (calls_stale old.core.origin.table p) → HasFresh old.core lv lp
  had_fresh lv lp p one fresh =
      let some = going.fresh lv lp (one_any (may_be_fresh old.core) (copies_in old.core.descriptor lv lp) p one (ap (λ (b : Bool). not b || not (is_settled old.core p && is_wanted_stale old.core p)) fresh)) in
      weaker (copies_in old.core.descriptor lv lp) some
    where
      second : (a b : Bool) → not a && not b ≡ true → not b ≡ true
      second true b is = absurd (cc is)
      second false b is = is

      weaker : (ps : List Pp) → list_any (stays_fresh old.core) ps ≡ true → list_any (λ (q : Pp). not (is_wanted_stale old.core q)) ps ≡ true
      weaker [] is = is
      weaker (q ∷ ps) is = by (stays_fresh old.core q) refl is (weaker ps)
        where
          by : (b : Bool) → stays_fresh old.core q ≡ b → b || list_any (stays_fresh old.core) ps ≡ true → (list_any (stays_fresh old.core) ps ≡ true → list_any (λ (r : Pp). not (is_wanted_stale old.core r)) ps ≡ true)
              → not (is_wanted_stale old.core q) || list_any (λ (r : Pp). not (is_wanted_stale old.core r)) ps ≡ true
          by true here is rest = or_left (not (is_wanted_stale old.core q)) (list_any (λ (r : Pp). not (is_wanted_stale old.core r)) ps) (second (is_held_stale old.core q) (is_wanted_stale old.core q) here)
          by false here is rest = or_right (not (is_wanted_stale old.core q)) (list_any (λ (r : Pp). not (is_wanted_stale old.core r)) ps) (rest is)

  module _ (new : State) (after : IsSettled new.core) (still : StillHeld old new) (added : List Pp) (d : Descriptor) (log : Log) (N : Descriptor → Type 0) (S F : Pp → Type 0) (D : ℕ → Type 0) (more : ℕ)
      (last : List ℕ) (is : new.core ≡ record old.core { descriptor = d; history = log; last = last; status = new.core.status; homes = new.core.homes }) (alike : IsAlike d old.core.descriptor)
      (ordered : Ordered log.run [] log.facts) (room : log.room ≡ old.core.history.room) (status : KeepsStatus N S F D old new) (are : (p : Pp) → S p → IsTrue (is_among added p)) (falls : NoneFalls old.device.counts new.device.counts)
      (sizes : new.device.sizes ≡ old.device.sizes) (numbers : SpendsNumbers more old.core.status new.core.status) (few : more ≤ 2) (spare : HasSpareRoom old.core)
      (members : (g : Descriptor) → N g → (row : LvRow) (lp : ℕ) (p : Pp) → IsOneOf g.lvs row → IsOneOf (copies_of row lp) p → IsTrue (is_member old.core.descriptor p.disk))
      (fresh : (lv lp : ℕ) (p : Pp) → IsOneOf (copies_in d lv lp) p → IsFalse (calls_stale old.core.origin.table p) → IsFalse (is_among added p) → HasFresh new.core lv lp) where
    descriptor_is : new.core.descriptor ≡ d
    descriptor_is = ap (λ (c : Core). c.descriptor) is

    history_is : new.core.history ≡ log
    history_is = ap (λ (c : Core). c.history) is

    behind_is_missing : (p : Pp) → WasLeftBehind N F old new p → IsTrue (is_missing new.core p.disk)
    behind_is_missing p left =
        let member : is_member old.core.descriptor p.disk ≡ true = ⊎_elim
        (λ (same : left.group ≡ old.core.descriptor). is_member_of old.core.descriptor p (copy_is_placed old.core.descriptor sound.fitting.valid left.its.row left.its.lp p (subst (λ (g : Descriptor). IsOneOf g.lvs left.its.row) same left.its.volume) left.its.one))
        (λ (next : N left.group). members left.group next left.its.row left.its.lp p left.its.volume left.its.one)
        left.known in
        second_with_first (is_member old.core.descriptor p.disk) (is_missing new.core p.disk) member
        (subst (λ (g : Descriptor). IsFalse (members_there g new.core.status.wanted p.disk)) (status.group ∙ sound.fitting.group) left.absent)

    pub goes_on : IsValid new.core.descriptor → GoesOnWith added old new
    goes_on valid = record {
      is = is ∙ ap (λ (c : Core). record old.core { descriptor = c.descriptor; history = c.history; last = c.last; status = new.core.status; homes = new.core.homes }) (sym is);
      members = ap (λ (g : Descriptor). g.pvs) descriptor_is ∙ ap (λ (g : Descriptor). g.pvs) alike;
      partitions = ap (λ (g : Descriptor). g.mib) descriptor_is ∙ ap (λ (g : Descriptor). g.mib) alike;
      sizes = sizes;
      falls = falls;
      ordered = subst (λ (l : Log). Ordered l.run [] l.facts) (sym history_is) ordered;
      room = ap (λ (l : Log). l.room) history_is ∙ room;
      numbers =
          let many = many_bound old.core sound.fitting.valid sound.fitting.group in
          let most = numbers.most in
          let left : 65536 ≤ 2 ^ 32 - 1 - old.core.status.stamp.seq = spare.numbers in
          let updates : updates_left new.core ≤ 129 = few_updates new.core valid after.quiet.requests after.quiet.copy in
          omega (arith, many, most, left, few, updates);
      left = still.left none_before;
      stays = status.stays;
      lost = λ disk gone was. (status.lost disk gone was).1;
      further = λ p now. ⊎_elim (λ (was : IsTrue (calls_stale old.core.status.wanted p)). inl was)
          (λ (rest : S p ⊎ WasLeftBehind N F old new p). ⊎_elim (λ (one : S p). inr (inl (are p one))) (λ (left : WasLeftBehind N F old new p). inr (inr (behind_is_missing p left))) rest) (status.further p now);
      fresh = λ lv lp p one was apart. fresh lv lp p (subst (λ (g : Descriptor). IsOneOf (copies_in g lv lp) p) descriptor_is one) was apart;
    }

    pub may_serve : MayServe added new × (added ≡ [] → StaysSound new)
    may_serve = (λ between. (commands_serve added old new sound began after (goes_on between.fitting.valid)).0 between, λ none between. (commands_serve added old new sound began after (goes_on between.fitting.valid)).1 none between)

-- where nothing was added
nothing_added : (new : State) → MayServe [] new × (◌≡◌ {A = List Pp} [] [] → StaysSound new) → MayServe [] new × StaysSound new
nothing_added new both = (both.0, both.1 refl)

-- where nothing has happened
pub refused_serves : (old new : State) → IsSound old → IsSettled old.core → new ≡ old → MayServe [] new × StaysSound new
refused_serves old new sound began same =
    let both = commands_serve [] old old sound began began nothing in
    subst (λ (s : State). MayServe [] s × StaysSound s) (sym same) (both.0, both.1 refl)
  where
    nothing : GoesOnWith [] old old
    nothing = record {
      is = refl;
      members = refl;
      partitions = refl;
      sizes = refl;
      falls = none_falls_at_once old.device.counts;
      ordered = sound.told.ordered;
      room = refl;
      numbers = (going old sound began).numbers;
      left = none_before old sound began;
      stays = λ disk gone. gone;
      lost = λ disk gone there. absurd (let no : true ≡ false = sym gone ∙ there in cc no);
      further = λ p now. inl now;
      fresh = λ lv lp p one was apart. had_fresh old sound began lv lp p one was;
    }

-- ---- by the contract of mklv

module _ (v : NewVolume) (before after : ℕ) (old new : State) (sound : IsSound old) where
  -- the new volume's partitions are of members
  of_members : (g : Descriptor) → IsWith v old.core g → (row : LvRow) (lp : ℕ) (p : Pp) → IsOneOf g.lvs row → IsOneOf (copies_of row lp) p → IsTrue (is_member old.core.descriptor p.disk)
  of_members g next row lp p volume one =
      let map = next.0 in
      let number = next.2.0 in
      let rows = subst (λ (x : Descriptor). IsOneOf x.lvs row) next.2.2 volume in
      ⊎_elim
      (λ (new_row : row ≡ row_for v number map).
      let places = places_of old.core.descriptor (is_there old.core) v.lps v.copies map sound.fitting.valid next.1.placed in
      let inside : IsOneOf map p = subst (λ (r : LvRow). IsOneOf r.map p) new_row (of_map row lp p one) in
      is_member_of old.core.descriptor p (All-contains (IsPartitionOf old.core.descriptor) map p places (contains map p inside)))
      (λ (was : IsOneOf old.core.descriptor.lvs row). is_member_of old.core.descriptor p (copy_is_placed old.core.descriptor sound.fitting.valid row lp p was one))
      (one_insert old.core.descriptor.lvs (number - 1) (row_for v number map) row rows)

  module _ (began : IsSettled old.core) (leaves : Leaves (to_make v old.core) before after old new) (is_after : IsSettled new.core) (still : StillHeld old new) (keeps : KeepsFresh old new) where
    made : (lv : ℕ) → IsVolumeMade v lv old new → MayServe [] new × StaysSound new
    made lv it = nothing_added new (may_serve old sound began new is_after still [] (with_volume old.core.descriptor (row_for v lv it.map)) (with_fact (making v lv old) (Made lv)) (IsWith v old.core) NoPartition (IsChosen v old.core) NoVolume 2 (slice_set old.core.last lv 0) it.is refl
        (ordered-push old.core.history.run [] (making v lv old).facts (Made lv) (ordered-push old.core.history.run [] old.core.history.facts (Making lv (volume_blocks old.core.descriptor.mib v.lps) v.mode) sound.told.ordered tt) tt)
        refl leaves.status (λ p none. absurd none) leaves.falls leaves.writes.sizes leaves.numbers (omega arith) it.may.room of_members (λ n lp p one was apart. fresh n lp p one was))
      where
        next : Descriptor
        next = with_volume old.core.descriptor (row_for v lv it.map)

        next_is : new.core.descriptor ≡ next
        next_is = ap (λ (c : Core). c.descriptor) it.is

        fresh : (n lp : ℕ) (p : Pp) → IsOneOf (copies_in next n lp) p → IsFalse (calls_stale old.core.origin.table p) → HasFresh new.core n lp
        fresh n lp p one was =
            let its = its_row next n lp p one in
            let at = found (λ (r : LvRow). r.number == n) next.lvs its.row its.volume in
            let here : IsOneOf (copies_in new.core.descriptor n lp) p = subst (λ (g : Descriptor). IsOneOf (copies_in g n lp) p) (sym next_is) one in
            ⊎_elim
            (λ (new_row : its.row ≡ row_for v lv it.map).
            let number : lv ≡ n = sym (ap (λ (r : LvRow). r.number) new_row) ∙ eqb-true its.row.number n at.1 in
            keeps n lp p here (inl (subst (λ (m : ℕ). volume_of old.core.descriptor m ≡ None) number it.lowest.free)))
            (λ (old_row : IsOneOf old.core.descriptor.lvs its.row).
            let number : its.row.number ≡ n = eqb-true its.row.number n at.1 in
            let volume : volume_of old.core.descriptor n ≡ Some its.row = subst (λ (m : ℕ). volume_of old.core.descriptor m ≡ Some its.row) number (row_is_volume old.core.descriptor its.row sound.fitting.valid old_row) in
            keeps n lp p here (inr (had_fresh old sound began n lp p (subst (λ (ps : List Pp). IsOneOf ps p) (sym (copies_at old.core.descriptor n lp its.row volume)) its.one) was)))
            (one_insert old.core.descriptor.lvs (lv - 1) (row_for v lv it.map) its.row at.0)

    failed : (disk : ℕ) → MakingFails v disk old new → MayServe [] new × StaysSound new
    failed disk it = nothing_added new (may_serve old sound began new is_after still [] old.core.descriptor old.core.history (IsWith v old.core) NoPartition (IsChosen v old.core) NoVolume 2 old.core.last it.ends.is refl sound.told.ordered refl leaves.status (λ p none. absurd none) leaves.falls leaves.writes.sizes
        leaves.numbers (omega arith) it.may.room of_members
        (λ n lp p one was apart. keeps n lp p (subst (λ (g : Descriptor). IsOneOf (copies_in g n lp) p) (sym (ap (λ (c : Core). c.descriptor) it.ends.is)) one) (inr (had_fresh old sound began n lp p one was))))

pub mklv_serves : MklvServes
mklv_serves v before after old new (Ok lv) sound c gives = made v before after old new sound c.began c.leaves c.on c.still c.fresh lv gives
mklv_serves v before after old new (Err fault.Dark) sound c gives = tt
mklv_serves v before after old new (Err (fault.WentOff have total)) sound c gives = tt
mklv_serves v before after old new (Err fault.Stuck) sound c gives = tt
mklv_serves v before after old new (Err (fault.DiskFailed disk)) sound c gives = failed v before after old new sound c.began c.leaves c.on c.still c.fresh disk gives
mklv_serves v before after old new (Err fault.Busy) sound c gives = refused_serves old new sound c.began gives.0
mklv_serves v before after old new (Err fault.NoVolume) sound c gives = absurd gives
mklv_serves v before after old new (Err fault.VolumeExists) sound c gives = refused_serves old new sound c.began gives.0
mklv_serves v before after old new (Err (fault.CopyLimit now)) sound c gives = refused_serves old new sound c.began gives.0
mklv_serves v before after old new (Err (fault.StaleCopy lp)) sound c gives = absurd gives
mklv_serves v before after old new (Err (fault.LastFresh lp)) sound c gives = absurd gives
mklv_serves v before after old new (Err (fault.TooMany limit)) sound c gives = refused_serves old new sound c.began gives.0
mklv_serves v before after old new (Err (fault.NoRoom free)) sound c gives = refused_serves old new sound c.began gives.0
mklv_serves v before after old new (Err fault.HistoryFull) sound c gives = refused_serves old new sound c.began gives.0
mklv_serves v before after old new (Err fault.Memory) sound c gives = refused_serves old new sound c.began gives.0

-- ---- by that of rmlv

module _ (lv before after : ℕ) (old new : State) (sound : IsSound old) (began : IsSettled old.core) (leaves : Leaves (to_remove lv old.core) before after old new) (is_after : IsSettled new.core) (still : StillHeld old new) (keeps : KeepsFresh old new) where
  removed : IsVolumeRemoved lv old new → MayServe [] new × StaysSound new
  removed it = nothing_added new (may_serve old sound began new is_after still [] (without_volume old.core.descriptor lv) (with_fact (removing lv old) (Removed (Lv lv))) (λ (next : Descriptor). next ≡ without_volume old.core.descriptor lv) NoPartition NoPartition (λ n. n ≡ lv) 2 old.core.last it.is refl
      (ordered-push old.core.history.run [] (removing lv old).facts (Removed (Lv lv)) (ordered-push old.core.history.run [] old.core.history.facts (Removing (Lv lv)) sound.told.ordered tt) tt)
      refl leaves.status (λ p none. absurd none) leaves.falls leaves.writes.sizes leaves.numbers (omega arith) it.may.room
      (λ g next row lp p volume one. is_member_of old.core.descriptor p (copy_is_placed old.core.descriptor sound.fitting.valid row lp p (was_volume row (subst (λ (x : Descriptor). IsOneOf x.lvs row) next volume)) one)) (λ n lp p one was apart. fresh n lp p one was))
    where
      was_volume : (row : LvRow) → IsOneOf (without_volume old.core.descriptor lv).lvs row → IsOneOf old.core.descriptor.lvs row
      was_volume row one = one_filter (λ (r : LvRow). not (r.number == lv)) old.core.descriptor.lvs row one

      fresh : (n lp : ℕ) (p : Pp) → IsOneOf (copies_in (without_volume old.core.descriptor lv) n lp) p → IsFalse (calls_stale old.core.origin.table p) → HasFresh new.core n lp
      fresh n lp p one was =
          let its = its_row (without_volume old.core.descriptor lv) n lp p one in
          let at = found (λ (r : LvRow). r.number == n) (without_volume old.core.descriptor lv).lvs its.row its.volume in
          let number : its.row.number ≡ n = eqb-true its.row.number n at.1 in
          let volume : volume_of old.core.descriptor n ≡ Some its.row = subst (λ (m : ℕ). volume_of old.core.descriptor m ≡ Some its.row) number (row_is_volume old.core.descriptor its.row sound.fitting.valid (was_volume its.row at.0)) in
          keeps n lp p (subst (λ (g : Descriptor). IsOneOf (copies_in g n lp) p) (sym (ap (λ (c : Core). c.descriptor) it.is)) one)
          (inr (had_fresh old sound began n lp p (subst (λ (ps : List Pp). IsOneOf ps p) (sym (copies_at old.core.descriptor n lp its.row volume)) its.one) was))

pub rmlv_serves : RmlvServes
rmlv_serves lv before after old new (Ok done) sound c gives = removed lv before after old new sound c.began c.leaves c.on c.still c.fresh gives
rmlv_serves lv before after old new (Err fault.Dark) sound c gives = tt
rmlv_serves lv before after old new (Err (fault.WentOff have total)) sound c gives = tt
rmlv_serves lv before after old new (Err fault.Stuck) sound c gives = tt
rmlv_serves lv before after old new (Err (fault.DiskFailed disk)) sound c gives = absurd gives
rmlv_serves lv before after old new (Err fault.Busy) sound c gives = refused_serves old new sound c.began gives.0
rmlv_serves lv before after old new (Err fault.NoVolume) sound c gives = refused_serves old new sound c.began gives.0
rmlv_serves lv before after old new (Err fault.VolumeExists) sound c gives = absurd gives
rmlv_serves lv before after old new (Err (fault.CopyLimit now)) sound c gives = absurd gives
rmlv_serves lv before after old new (Err (fault.StaleCopy lp)) sound c gives = absurd gives
rmlv_serves lv before after old new (Err (fault.LastFresh lp)) sound c gives = absurd gives
rmlv_serves lv before after old new (Err (fault.TooMany limit)) sound c gives = absurd gives
rmlv_serves lv before after old new (Err (fault.NoRoom free)) sound c gives = absurd gives
rmlv_serves lv before after old new (Err fault.HistoryFull) sound c gives = refused_serves old new sound c.began gives.0
rmlv_serves lv before after old new (Err fault.Memory) sound c gives = refused_serves old new sound c.began gives.0

-- What a line leaves that has brought up copies in a session that is on.
use Rattle.std.proofs.Common.{◌≡◌, ◌≤◌, ◌+◌, ℕ, inl, inr, Bool, true, false, List, Option, Some, None, Result, Ok, Err, if◌then◌else◌, length, refl, sym, ap, subst, ◌∙◌, arith}
use Rattle.std.specs.Prelude.{IfErr, IfSome, is_some}
use Rattle.std.specs.Option.{option_map_or}
use Rattle.std.specs.Global.{Vec}
use Rattle.lvm_num.specs.declared.descriptor.LvRow.{LvRow}
use Rattle.lvm_num.specs.Descriptor.{volume_of}
use Rattle.lvm_disk.specs.Device.{Device}
use Rattle.lvm_vol.specs.Log.{Log}
use Rattle.lvm_session.specs.declared.bringing.OpenCopy.{OpenCopy}
use Rattle.lvm_session.specs.declared.open.Power.{Power}
use Rattle.lvm_session.specs.declared.open.Power.TheVariants as power
use Rattle.lvm_session.specs.Calls.{has_numbers}
use Rattle.lvm_session.specs.Causes.{is_over}
use Rattle.lvm_session.specs.Sound.{IsSound}
use Rattle.lvm_session.specs.State.{Core, State, state_of}
use Rattle.lvm_volume_lines.specs.passed.Posts.{Post}
use Rattle.lvm_ranges.specs.declared.copies.Passed.TheVariants as passed
use Rattle.lvm_ranges.specs.declared.fault.SyncFault.{SyncFault}
use Rattle.lvm_ranges.specs.declared.fault.SyncFault.TheVariants as fault
use Rattle.lvm_ranges.specs.declared.tally.Tally.{Tally}
use Rattle.lvm_ranges.specs.Passing.{Copy, PassesCopy}
use Rattle.lvm_ranges.specs.Syncing.{NonePassed, OnePassed, PassesCopies, SyncGives, fault_by, fault_on, group_fault, no_tally, numbers_fault, or_first, volume_fault}
use Rattle.lvm_ranges.specs.Turning.{GoesBeside, StopsFor}
use Rattle.lvm_volume_lines.specs.passed.RangeLines.{FailsIf, serving}
use Rattle.lvm_volume_lines.specs.passed.HolderVariants as holder
use Rattle.lvm_volume_lines.specs.passed.GroupLines.{ArePosted, ComesTo, EndsUnasked, HaveRooms, IsBetweenStage, IsCarriedOn, SessionIsClosed, IsFittingStage, OfRequests, Reply, Stage, ScriptState, is_unheard, most_refusals, patience_of_line, state_in, without_facts}
use Rattle.lvm_volume_lines.specs.passed.RefusalVariants as refusal
use Rattle.lvm_volume_lines.specs.passed.ReplyVariants as reply
use Rattle.lvm_volume_lines.proofs.passed.RangeLines.{RunsTo, carried_ends, carried_leaves, ended_is_over, leave_to, over_ends, stuck_ends, table_posts, unstuck}
use Rattle.lvm_volume_lines.specs.Resyncing.{MayCome, numbers_reply, sync_reply}

-- ---- what may be answered

abbrev pub MayBe : Option SyncFault → Type 0
MayBe None = Unit {0}
MayBe (Some why) = MayCome why

passed_may : (c : Copy) (patience left : ℕ) (old new : State) (why : SyncFault) → PassesCopy c patience left old new (passed.Failed why) → MayCome why
passed_may c patience left old new fault.Dark it = tt
passed_may c patience left old new fault.Off it = tt
passed_may c patience left old new fault.Stuck it = tt
passed_may c patience left old new fault.Busy (inl none) = absurd none
passed_may c patience left old new fault.Busy (inr none) = absurd none
passed_may c patience left old new fault.NoVolume it = tt
passed_may c patience left old new fault.OutOfRange (inl none) = absurd none
passed_may c patience left old new fault.OutOfRange (inr none) = absurd none
passed_may c patience left old new fault.HistoryFull it = tt
passed_may c patience left old new (fault.SyncFailed disk) it = tt
passed_may c patience left old new (fault.NoFresh lp) it = tt
passed_may c patience left old new (fault.Missing disk) it = tt

passes_may : (first : State) {patience left : ℕ} (copies : List Copy) (now : State) (tally : Tally) → PassesCopies first no_tally patience copies now tally left → MayBe tally.fault
passes_may first all now total NonePassed = tt
passes_may first all now total (OnePassed {copies} {old} {new} {tally} c passed.Fresh rest it) = passes_may first copies old tally rest
passes_may first all now total (OnePassed {copies} {old} {new} {tally} c passed.Made rest it) = passes_may first copies old tally rest
passes_may first all now total (OnePassed {copies} {old} {new} {tally} {before} {left} c (passed.Failed why) rest it) = by tally.fault (passes_may first copies old tally rest)
  where
    by : (m : Option SyncFault) → MayBe m → MayBe (or_first m why)
    by None so_far = passed_may c before left old new why it
    by (Some first_one) so_far = so_far

stops_may : (left : ℕ) (core : Core) (why : SyncFault) → StopsFor left core why → MayCome why
stops_may left core fault.Dark stops = tt
stops_may left core fault.Off stops = tt
stops_may left core fault.Stuck stops = tt
stops_may left core fault.Busy stops = stops
stops_may left core fault.NoVolume stops = tt
stops_may left core fault.OutOfRange stops = stops
stops_may left core fault.HistoryFull stops = tt
stops_may left core (fault.SyncFailed disk) stops = tt
stops_may left core (fault.NoFresh lp) stops = tt
stops_may left core (fault.Missing disk) stops = tt

pub may_come : (refused : Option SyncFault) (copies : List Copy) (patience left : ℕ) (old new : State) (result : Result ℕ SyncFault) → MayBe refused → SyncGives refused copies patience left old new result → IfErr result MayCome
may_come (Some why) copies patience left old new result may gives = subst (λ (r : Result ℕ SyncFault). IfErr r MayCome) (sym gives.0) may
may_come None copies patience left old new (Ok made) may gives = tt
may_come None copies patience left old new (Err why) may (inl syncs) = passes_may old copies new (record { made = syncs.0; fault = Some why }) syncs.1.passes
may_come None copies patience left old new (Err why) may (inr stops) = stops_may left new.core why stops.stops.0

numbers_may : (core : Core) → MayBe (numbers_fault core)
numbers_may core = by (has_numbers core)
  where
    by : (b : Bool) → MayBe (if b then None else Some fault.HistoryFull)
    by true = tt
    by false = tt

fault_may : (core : Core) (further : Option SyncFault) → core.copy ≡ None → MayBe further → MayBe (fault_by core.power (fault_on core further))
fault_may core further none may = by core.power
  where
    on : MayBe (fault_on core further)
    on = subst (λ (m : Option OpenCopy). MayBe (if is_some m then Some fault.Busy else further)) (sym none) may

    by : (p : Power) → MayBe (fault_by p (fault_on core further))
    by power.Dark = tt
    by power.Off = tt
    by power.On = on
    by power.Stuck = on

pub volume_may : (core : Core) (lv : ℕ) → core.copy ≡ None → MayBe (volume_fault core lv)
volume_may core lv none = fault_may core (option_map_or (λ (row : LvRow). numbers_fault core) (volume_of core.descriptor lv) (Some fault.NoVolume)) none (by (volume_of core.descriptor lv))
  where
    by : (m : Option LvRow) → MayBe (option_map_or (λ (row : LvRow). numbers_fault core) m (Some fault.NoVolume))
    by None = tt
    by (Some row) = numbers_may core

pub group_may : (core : Core) → core.copy ≡ None → MayBe (group_fault core)
group_may core none = fault_may core (numbers_fault core) none (numbers_may core)

-- the group that is on has the name
pub name_on : (name : List ℕ) (session : Option Core) (core : Core) → session ≡ Some core → IfSome session (λ (k : Core). k.descriptor.name ≡ name) → core.descriptor.name ≡ name
name_on name session core is on = subst (λ (m : Option Core). IfSome m (λ (k : Core). k.descriptor.name ≡ name)) is on

-- ---- no copy is left open where the session goes on

stopped_shut : (left : ℕ) (core : Core) (why : SyncFault) → StopsFor left core why → is_unheard (sync_reply core (Err why)) ≡ false → core.power ≡ power.On → core.copy ≡ None
stopped_shut left core fault.Dark stops heard on = absurd (let e : power.Dark ≡ power.On = sym stops ∙ on in cc e)
stopped_shut left core fault.Off stops heard on = absurd (let e : power.Off ≡ power.On = sym stops ∙ on in cc e)
stopped_shut left core fault.Stuck stops heard on = absurd (cc heard)
stopped_shut left core fault.Busy stops heard on = absurd stops
stopped_shut left core fault.NoVolume stops heard on = absurd stops
stopped_shut left core fault.OutOfRange stops heard on = absurd stops
stopped_shut left core fault.HistoryFull stops heard on = stops.1
stopped_shut left core (fault.SyncFailed disk) stops heard on = absurd stops
stopped_shut left core (fault.NoFresh lp) stops heard on = absurd stops
stopped_shut left core (fault.Missing disk) stops heard on = absurd stops

pub synced_shut : (refused : Option SyncFault) (copies : List Copy) (patience left : ℕ) (old new : State) (result : Result ℕ SyncFault) → SyncGives refused copies patience left old new result → old.core.copy ≡ None
    → is_unheard (sync_reply new.core result) ≡ false → new.core.power ≡ power.On → new.core.copy ≡ None
synced_shut (Some why) copies patience left old new result gives none heard on = ap (λ (s : State). s.core.copy) gives.1 ∙ none
synced_shut None copies patience left old new (Ok made) gives none heard on = gives.0.none
synced_shut None copies patience left old new (Err why) (inl syncs) none heard on = syncs.1.none
synced_shut None copies patience left old new (Err why) (inr stops) none heard on = stopped_shut left new.core why stops.stops.0 heard on

-- ---- the reply

pub sync_few : (core : Core) (result : Result ℕ SyncFault) → most_refusals (sync_reply core result) ≤ 1
sync_few core (Ok made) = omega arith
sync_few core (Err why) = omega arith

-- so it does in a group without volumes
pub numbers_few : (core : Core) → most_refusals (numbers_reply core) ≤ 1
numbers_few core = by (has_numbers core)
  where
    by : (b : Bool) → most_refusals (if b then reply.Synced 0 else reply.Refused refusal.HistoryFull) ≤ 1
    by true = omega arith
    by false = omega arith

-- and something was heard of it
pub numbers_heard : (core : Core) → is_unheard (numbers_reply core) ≡ false
numbers_heard core = by (has_numbers core)
  where
    by : (b : Bool) → is_unheard (if b then reply.Synced 0 else reply.Refused refusal.HistoryFull) ≡ false
    by true = refl
    by false = refl

stuck_says : (core : Core) (result : Result ℕ SyncFault) → is_unheard (sync_reply core result) ≡ true → sync_reply core result ≡ reply.Refused refusal.Stuck
stuck_says core (Ok made) e = absurd (cc e)
stuck_says core (Err fault.Stuck) e = refl
stuck_says core (Err fault.Dark) e = absurd (cc e)
stuck_says core (Err fault.Off) e = absurd (cc e)
stuck_says core (Err fault.Busy) e = absurd (cc e)
stuck_says core (Err fault.NoVolume) e = absurd (cc e)
stuck_says core (Err fault.OutOfRange) e = absurd (cc e)
stuck_says core (Err fault.HistoryFull) e = absurd (cc e)
stuck_says core (Err (fault.SyncFailed disk)) e = absurd (cc e)
stuck_says core (Err (fault.NoFresh lp)) e = absurd (cc e)
stuck_says core (Err (fault.Missing disk)) e = absurd (cc e)

-- ---- the states

pub fails_if : {S : Type 0} (device : S → Device) (end : S × Core) (posts : Vec Post) (bytes : Vec ℕ) (stage : Stage S) (last : ℕ) (b : Bool) → ArePosted end.1.history.facts (Some end.1) posts.items → ComesTo device b (holder.Serving end) posts bytes stage
    → FailsIf b (state_of device end) posts.items last (state_in device stage last)
fails_if device end posts bytes stage last false stood carried = carried_leaves device end posts bytes stage last stood carried
fails_if device end posts bytes stage last true stood ended = ended_is_over device end posts.items stage last stood ended

-- ---- the line

module _ {S : Type 0} (device : S → Device) (first : S × Core) (posts : Vec Post) (bytes : Vec ℕ) (fits : IsFittingStage (serving first posts bytes)) (between : IsBetweenStage device (serving first posts bytes))
    (end : S × Core) (left : ℕ) (beside : GoesBeside (state_of device first) (state_of device end) patience_of_line left) (sound : IsSound (state_of device end))
    (Does : Log → ScriptState → ScriptState → Reply → Type 0) (stage : Stage S) (answer : Reply) (few : most_refusals answer ≤ 1) (rooms : HaveRooms first.1.history.room stage.posts stage.bytes)
    (does : (last : ℕ) → Does (without_facts first.1.history) (state_in device (serving first posts bytes) last) (state_in device stage last) answer) where
  abbrev Ends : Type 0
  Ends = EndsUnasked device Does ⊥ OfRequests (serving first posts bytes) stage answer

  to : RunsTo device first end
  to = record { went = leave_to device first end beside.leaves; orders = beside.orders; sound = sound }

  posted : ArePosted end.1.history.facts (Some end.1) posts.items
  posted = table_posts first.1 end.1 beside.table posts.items between.posted

  few_then : most_refusals answer + length posts.items ≤ length posts.items + 1
  few_then = omega (arith, few)

  goes : (end.1.power ≡ power.On → end.1.copy ≡ None) → IsCarriedOn device end posts bytes end.1.power stage → Ends
  goes shut carried = carried_ends device first posts bytes fits between end to Does posts bytes fits.rooms stage answer few_then does posted rooms shut (unstuck device first posts bytes fits between end beside.leaves) carried

  closes : answer ≡ reply.Refused refusal.Stuck → SessionIsClosed device end posts.items stage → Ends
  closes says ended = by end.1.power refl
    where
      by : (p : Power) → end.1.power ≡ p → Ends
      by power.On is = stuck_ends device first posts bytes fits between end to Does posts bytes fits.rooms stage answer few_then does ended rooms is says
      by power.Off is = over_ends device first posts bytes fits between end to Does posts bytes fits.rooms stage answer few_then does ended rooms (ap is_over is) posted
      by power.Dark is = over_ends device first posts bytes fits between end to Does posts bytes fits.rooms stage answer few_then does ended rooms (ap is_over is) posted
      by power.Stuck is = absurd (unstuck device first posts bytes fits between end beside.leaves is)

  pub synced_ends : (result : Result ℕ SyncFault) → (is_unheard answer ≡ false → end.1.power ≡ power.On → end.1.copy ≡ None) → answer ≡ sync_reply end.1 result → ComesTo device (is_unheard answer) (holder.Serving end) posts bytes stage → Ends
  synced_ends result shut says it = by (is_unheard answer) refl it
    where
      by : (b : Bool) → is_unheard answer ≡ b → ComesTo device b (holder.Serving end) posts bytes stage → Ends
      by false heard carried = goes (shut heard) carried
      by true stuck ended = closes (says ∙ stuck_says end.1 result (sym (ap is_unheard says) ∙ stuck)) ended

-- A range of a volume that is refused for want of a source.
use Rattle.std.proofs.Common.{◌≡◌, ◌⊎◌, inl, inr, ℕ, false, List, Option, Some, None, Err, refl, sym, subst}
use Rattle.std.specs.List.{list_any}
use Rattle.std.specs.Prelude.{slice_index_or}
use Rattle.lvm_disk.specs.Counts.{Counts, Rose}
use Rattle.lvm_core.specs.Looking.{IsNumberOf}
use Rattle.lvm_session.specs.Causes.{AnyFailedSince, was_usable}
use Rattle.lvm_session.specs.Judging.{copies_in}
use Rattle.lvm_session.specs.State.{Core, State, state}
use Rattle.lvm_posts.specs.declared.asked.Asked.{Asked}
use Rattle.lvm_posts.specs.declared.fault.RangeFault.{RangeFault}
use Rattle.lvm_posts.specs.declared.fault.RangeFault.TheVariants as fault
use Rattle.lvm_volume_lines.specs.passed.Ranges.{AskRangeFault, RangeCause}
use Rattle.lvm_volume_lines.specs.passed.AskRangeFaultVariants as ask
use Rattle.lvm_volume_lines.specs.passed.RangeLines.{EndsWell, Fails, FailsBy, Finishes, IsFinished, NoMemory, NotBegun, NotThere, OnVolume, RdDoes, ShowsBlocks, ShowsThem, There, WhileOff, WrDoes, ask_refusal, range_refusal, session_over}
use Rattle.lvm_volume_lines.specs.passed.GroupLines.{InFull, Refusal, Reply, Shows, ScriptState, WithoutMemory}
use Rattle.lvm_volume_lines.specs.passed.RefusalVariants as refusal
use Rattle.lvm_volume_lines.specs.passed.ReplyVariants as reply
use Rattle.lvm_line.specs.Causes.{LackedSource, RangeLineCause, TurnCause}
use Rattle.lvm_line.proofs.CausesLemmas.Turns.{leaves_counts}

-- a range that isn't asked for has another cause
never_asked : (why : AskRangeFault) (lp : ℕ) → ask_refusal why ≡ refusal.NoFresh lp → ⊥
never_asked ask.NoVolume lp e = cc e
never_asked _ lp e = cc e

as_refused : (why other : Refusal) (lp : ℕ) → reply.Refused why ≡ reply.Refused other → why ≡ refusal.NoFresh lp → other ≡ refusal.NoFresh lp
as_refused why other lp says is = cc (says, is)

module _ (old new : ScriptState) (name : List ℕ) (lp : ℕ) where
  module _ (write : Option ℕ) (Says : State → Asked → Reply → Type 0) (why : Refusal) (is_so : why ≡ refusal.NoFresh lp) (never : (end : State) (asked : Asked) → Says end asked (reply.Refused why) → ⊥) (at count : ℕ) where
    lacked : (core : Core) (lv : ℕ) → old.session ≡ Some core → IsNumberOf core.descriptor.lvs name lv → (end : State) (asked : Asked) (failed : RangeFault) → IsFinished write lv at count core old new end asked (Err failed)
        → range_refusal failed ≡ refusal.NoFresh lp → LackedSource name lp old new
    lacked core lv some named end asked failed its is = by failed its.caused its.ends is
      where
        at_end : (n : ℕ) → new.moment.device.counts ≡ end.device.counts → AnyFailedSince (state end.device core) ⊎ (list_any (was_usable core) (copies_in core.descriptor lv n) ≡ false) → n ≡ lp → LackedSource name lp old new
        at_end n counts lacks same = record { core = core; on = some; lv = lv; named = named; lacks = subst (λ (k : ℕ). AnyFailedSince (state new.moment.device core) ⊎ (list_any (was_usable core) (copies_in core.descriptor lv k) ≡ false)) same (then_ lacks) }
          where
            then_ : AnyFailedSince (state end.device core) ⊎ (list_any (was_usable core) (copies_in core.descriptor lv n) ≡ false) → AnyFailedSince (state new.moment.device core) ⊎ (list_any (was_usable core) (copies_in core.descriptor lv n) ≡ false)
            then_ (inl rose) = inl (rose.0, subst (λ (c : Counts). Rose (slice_index_or core.origin.faults rose.0 0) (c.faults rose.0)) (sym counts) rose.1)
            then_ (inr none) = inr none

        by : (w : RangeFault) → RangeCause lv its.left (session_over old core) end w → FailsBy w end old.posts old.last new → range_refusal w ≡ refusal.NoFresh lp → LackedSource name lp old new
        by (fault.NoFresh n) lacks left e = at_end n (leaves_counts end old.posts old.last new left) lacks (cc e)
        by _ cause left e = absurd (cc e)

    finished_lacks : (core : Core) (lv : ℕ) → old.session ≡ Some core → IsNumberOf core.descriptor.lvs name lv → Finishes write Says lv at count core old new (reply.Refused why) → LackedSource name lp old new
    finished_lacks core lv some named (NotBegun none) = absurd (never_asked none.why lp (as_refused why (ask_refusal none.why) lp none.refused.0 is_so))
    finished_lacks core lv some named (EndsWell end asked done says) = absurd (never end asked says)
    finished_lacks core lv some named (Fails end asked failed its says) = lacked core lv some named end asked failed its (as_refused why (range_refusal failed) lp says is_so)

    volume_lacks : OnVolume name (λ core lv. Finishes write Says lv at count core old new (reply.Refused why)) old new (reply.Refused why) → LackedSource name lp old new
    volume_lacks (WhileOff off says) = absurd (let e = as_refused why refusal.NoGroup lp says.0 is_so in cc e)
    volume_lacks (NotThere core some none says) = absurd (let e = as_refused why refusal.NoVolume lp says.0 is_so in cc e)
    volume_lacks (There core lv some named done) = finished_lacks core lv some named done

  never_blocks : (at : ℕ) (why : Refusal) → why ≡ refusal.NoFresh lp → (end : State) (asked : Asked) → ShowsBlocks at end asked (reply.Refused why) → ⊥
  never_blocks at why is_so end asked (NoMemory says) = let e = as_refused why refusal.Memory lp says is_so in cc e
  never_blocks at why is_so end asked (ShowsThem got) = by got.shows
    where
      by : {text : List ℕ} → Shows text (reply.Refused why) → ⊥
      by (InFull says) = cc says
      by (WithoutMemory says) = let e = as_refused why refusal.Memory lp says is_so in cc e

  pub rd_lacks : (at count : ℕ) (why : Refusal) → why ≡ refusal.NoFresh lp → RdDoes name at count old new (reply.Refused why) → LackedSource name lp old new
  rd_lacks at count why is_so does = volume_lacks None (ShowsBlocks at) why is_so (never_blocks at why is_so) at count does

  pub wr_lacks : (at count word : ℕ) (why : Refusal) → why ≡ refusal.NoFresh lp → WrDoes name at count word old new (reply.Refused why) → LackedSource name lp old new
  wr_lacks at count word why is_so does = volume_lacks (Some word) (λ end asked says. says ≡ reply.Ok) why is_so (λ end asked e. cc e) at count does

-- what a line of a range is refused for, where that is no want of a source, and what is lacking where it is
pub range_line_cause : (name : List ℕ) (old new : ScriptState) (why : Refusal) → TurnCause why old new → ((lp : ℕ) → why ≡ refusal.NoFresh lp → LackedSource name lp old new) → RangeLineCause name why old new
range_line_cause name old new (refusal.NoFresh lp) cause lacks = lacks lp refl
range_line_cause name old new why cause lacks = cause

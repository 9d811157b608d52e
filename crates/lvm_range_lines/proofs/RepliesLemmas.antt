-- Of which lines of ranges something was heard.
use Rattle.std.proofs.Common.{◌≡◌, ℕ, Bool, true, false, List, Option, refl, sym, ◌∙◌, ap, subst}
use Rattle.std.specs.Prelude.{Result, Ok, Err, IfOk}
use Rattle.std.specs.Global.{Vec}
use Rattle.lvm_disk.specs.Device.{Device}
use Rattle.lvm_session.specs.State.{Core, State}
use Rattle.lvm_posts.specs.declared.asked.Asked.{Asked}
use Rattle.lvm_posts.specs.declared.fault.RangeFault.{RangeFault}
use Rattle.lvm_posts.specs.declared.fault.RangeFault.TheVariants as fault
use Rattle.lvm_posts.specs.declared.posts.Post.{Post}
use Rattle.lvm_group_lines.specs.passed.Ranges.{AskRangeFault}
use Rattle.lvm_group_lines.specs.passed.AskRangeFaultVariants as ask
use Rattle.lvm_group_lines.specs.Stages.{ComesTo, IsCarriedOn}
use Rattle.lvm_group_lines.specs.Replies.{InFull, Shows, WithoutMemory, is_unheard}
use Rattle.lvm_group_lines.specs.declared.reply.Refusal.{Refusal}
use Rattle.lvm_group_lines.specs.declared.reply.Reply.{Reply}
use Rattle.lvm_group_lines.specs.declared.stage.Stage.{Stage}
use Rattle.lvm_group_lines.specs.declared.holder.Holder.TheVariants as holder
use Rattle.lvm_group_lines.specs.declared.reply.Refusal.TheVariants as refusal
use Rattle.lvm_group_lines.specs.declared.reply.Reply.TheVariants as reply
use Rattle.lvm_range_lines.specs.Refusals.{ask_refusal, is_stuck, range_refusal}
use Rattle.lvm_range_lines.specs.Requests.{AsksByName, HasNone, NoMemory, Refuses, ShowsBlocks, ShowsThem, Takes}

-- a range that failed, as its reply
pub unheard_fault : (why : RangeFault) → is_unheard (reply.Refused (range_refusal why)) ≡ is_stuck why
unheard_fault fault.Dark = refl
unheard_fault fault.Stuck = refl
unheard_fault (fault.WentOff have total) = refl
unheard_fault fault.Lost = refl
unheard_fault fault.ReadFailed = refl
unheard_fault (fault.NoFresh lp) = refl

ask_heard : (why : AskRangeFault) → is_unheard (reply.Refused (ask_refusal why)) ≡ false
ask_heard ask.NoVolume = refl
ask_heard (ask.OutOfRange blocks) = refl
ask_heard (ask.TableFull held) = refl
ask_heard ask.HistoryFull = refl

-- one that isn't asked for
pub not_asked_heard : (name : List ℕ) (write : Option ℕ) (at count : ℕ) (old new : Core) (why : Refusal) → AsksByName name write at count old new (Err why) → is_unheard (reply.Refused why) ≡ false
not_asked_heard name write at count old new why (HasNone none same says) = let e : why ≡ refusal.NoVolume = cc says in ap (λ (w : Refusal). is_unheard (reply.Refused w)) e
not_asked_heard name write at count old new why (Refuses lv fault named gives same says) = let e : why ≡ ask_refusal fault = cc says in ap (λ (w : Refusal). is_unheard (reply.Refused w)) e ∙ ask_heard fault
not_asked_heard name write at count old new why (Takes lv asked named gives says) = absurd (cc says)

-- the lines of blocks
pub blocks_heard : (at : ℕ) (end : State) (asked : Asked) (answer : Reply) → ShowsBlocks at end asked answer → is_unheard answer ≡ false
blocks_heard at end asked answer (NoMemory is) = ap is_unheard is
blocks_heard at end asked answer (ShowsThem shows) = by shows.shows
  where
    by : {text : List ℕ} → Shows text answer → is_unheard answer ≡ false
    by (InFull is) = ap is_unheard is
    by (WithoutMemory is) = ap is_unheard is

-- a session behind an answer from which something was heard
pub carried_by : {S : Type 0} (device : S → Device) (driver : S × Core) (posts : Vec Post) (bytes : Vec ℕ) (answer says : Reply) (stage : Stage S) → answer ≡ says → is_unheard says ≡ false
    → ComesTo device (is_unheard answer) (holder.Serving driver) posts bytes stage → IsCarriedOn device driver posts bytes driver.1.power stage
carried_by device driver posts bytes answer says stage is heard comes = subst (λ (b : Bool). ComesTo device b (holder.Serving driver) posts bytes stage) (ap is_unheard is ∙ heard) comes

-- What `fail`, `heal` and `cut` do.
use Rattle.std.specs.Prelude.{◌≡◌, ◌≤◌, ◌<◌, ℕ, List, None, true, false, length}
use Rattle.lvm_disk.specs.Device.{Device}
use Rattle.lvm_disk.specs.Steps.{with_order, Arranges}
use Rattle.lvm_disk.specs.declared.shelf.Arrange.{Arrange}
use Rattle.lvm_disk.specs.declared.shelf.Arrange.TheVariants as arrange
use Rattle.lvm_vol.specs.Facts.{Fact}
use Rattle.lvm_vol.specs.Log.{Log, cut_log}
use Rattle.lvm_transfer.specs.Transfer.{Relights}
use Rattle.lvm_group_lines.specs.Stages.{history_after, posts_ended}
use Rattle.lvm_group_lines.specs.State.{ScriptState, log_with}
use Rattle.lvm_group_lines.specs.Replies.{IsRefused}
use Rattle.lvm_group_lines.specs.declared.reply.Refusal.TheVariants as refusal
use Rattle.lvm_group_lines.specs.declared.reply.Reply.{Reply}
use Rattle.lvm_group_lines.specs.declared.reply.Reply.TheVariants as reply

-- a state over another device
abbrev pub over : Device → ScriptState → ScriptState
over device s = record s { moment = record s.moment { device = device } }

-- A disk of the shelf is made to fail or to heal, and nothing else changes.
pub data ArrangeDoes (disk : ℕ) (what : Arrange) (old new : ScriptState) (answer : Reply) : Type 0 where
  NotThere : length old.moment.device.sizes ≤ disk → IsRefused (refusal.NoDisk disk) answer old new → ArrangeDoes disk what old new answer
  NotPlanned : disk < length old.moment.device.sizes → old.moment.device.arranges ≡ false → IsRefused refusal.NoPlan answer old new → ArrangeDoes disk what old new answer
  IsArranged : disk < length old.moment.device.sizes → old.moment.device.arranges ≡ true → answer ≡ reply.Ok → new ≡ over (with_order old.moment.device what) old → ArrangeDoes disk what old new answer

-- the entries after a cut: that of the cut where it ends something, and the landings of a session's open requests as Dark
abbrev pub cut_facts : Log → ScriptState → ℕ → List Fact
cut_facts log s word = (history_after (arrange.Cut word) true (cut_log (log_with log s.moment.facts)) s.session).facts

-- The power is cut, which ends the session and its posts; a cut is entered where that ends something; and the power is put on again.
pub record IsCut (log : Log) (word : ℕ) (old new : ScriptState) : Type 0 where
  pub dark : Device
  pub cut : Arranges old.moment.device dark (arrange.Cut word)
  pub lit : Relights dark new.moment.device
  pub facts : new.moment.facts ≡ cut_facts log old word
  pub session : new.session ≡ None
  pub posts : new.posts ≡ posts_ended old.session old.posts
  pub clock : new.last ≡ old.last

pub data CutDoes (log : Log) (word : ℕ) (old new : ScriptState) (answer : Reply) : Type 0 where
  CutNotPlanned : old.moment.device.arranges ≡ false → IsRefused refusal.NoPlan answer old new → CutDoes log word old new answer
  PowerIsCut : old.moment.device.arranges ≡ true → answer ≡ reply.Ok → IsCut log word old new → CutDoes log word old new answer

-- Lines that are done where the stage stays.
use Rattle.std.proofs.Common.{◌≡◌, ◌≤◌, ℕ, List, false, Option, Some, Result, Ok, refl, sym, subst}
use Rattle.lvm_disk.specs.Device.{Device, HasSectors}
use Rattle.lvm_vol.specs.Log.{Log}
use Rattle.lvm_core.specs.declared.parts.Room.{Room}
use Rattle.lvm_parse.specs.declared.command.Command.{Command}
use Rattle.lvm_parse.specs.declared.rest.Misfit.{Misfit}
use Rattle.lvm_parse.specs.Grammar.{line_of}
use Rattle.lvm_volume_lines.specs.passed.GroupLines.{CommandEnds, IsBetweenStage, IsFittingStage, IsLeftBy, IsStuck, Reply, Stage, history_in, is_unheard, most_refusals, shelf_in, state_in, without_facts}
use Rattle.lvm_volume_lines.proofs.passed.GroupLines.{left_still}
use Rattle.lvm_line.specs.Lines.{CommandDoes, CommandInPlace, DoesInPlace, IsFinished, IsOrder, LineDoes, LineEnds, StandsBehind, asked_after, role_of}
use Rattle.lvm_line.specs.declared.line.InPlace.{InPlace}
use Rattle.lvm_line.specs.declared.line.InPlace.TheVariants as in_place
use Rattle.lvm_line.proofs.LinesLemmas.Lining.{line_read, line_still, listed_by, stage_named}

module _ {S : Type 0} (device : S → Device) (old : Stage S) (fits : IsFittingStage old) (between : IsBetweenStage device old) where
  -- a listing, behind which all is as it was
  pub lists_in_place : (c other : Command) (answer : Reply) → c ≡ other → most_refusals answer ≤ 1 → is_unheard answer ≡ false → 0 ≡ asked_after (Ok (Some other)) 0
      → ((log : Log) (room : Room) (new : Stage S) (last : ℕ) → state_in device new last ≡ state_in device old last → CommandDoes log room other (state_in device old last) (state_in device new last) answer)
      → CommandInPlace device c old old (Some answer)
  lists_in_place c other answer is one heard count does = λ left its room last.
      (listed_by device room c other old left answer last 0 is fits between (left_still device old answer heard between left its) one (λ log same. does log room left last same) count).ends

  module _ (line : List ℕ) (whole : HasSectors (device (shelf_in old))) where
    -- a line that changes nothing
    pub still_in_place : (read : Result (Option Command) Misfit) (answer : Reply) → line_of line ≡ read → ((log : Log) (room : Room) (s : ℕ) → LineDoes log room read (state_in device old s) (state_in device old s) answer) → most_refusals answer ≤ 1
        → (room : Room) → LineEnds device room line old old answer
    still_in_place read answer is does one room = λ last. record {
      is_line = line_still (without_facts (history_in old)) room line read answer (state_in device old last) (state_in device old last) is (does (without_facts (history_in old)) room last) one refl
          (record { whole = whole; between = between; named = stage_named old });
      rooms = refl;
      fits = fits;
    }

    -- a command of which it is known how it ends
    command_line : (c : Command) (new : Stage S) (answer : Reply) (room : Room) → line_of line ≡ Ok (Some c)
        → ((last : ℕ) → CommandEnds device (λ log. CommandDoes log room c) (IsOrder (Ok (Some c))) (role_of (Ok (Some c))) old new answer last last) → LineEnds device room line old new answer
    command_line c new answer room is ends = λ last. record {
      is_line = line_read (without_facts (history_in old)) room line (Ok (Some c)) answer (state_in device old last) (state_in device new last) is (ends last).does (ends last).goes (ends last).orders
          (record { whole = whole; between = between; named = stage_named old });
      rooms = (ends last).rooms;
      fits = (ends last).fits;
    }

    -- it is done in place
    pub done_in_place : (c : Command) (kept : Stage S) (answer : Reply) (it : InPlace) → line_of line ≡ Ok (Some c) → CommandInPlace device c old kept (Some answer) → StandsBehind device kept answer it → DoesInPlace device line old kept it
    done_in_place c kept answer (in_place.Done says) is ends behind =
        subst (λ (a : Reply). ((room : Room) → LineEnds device room line old kept a) × (IsStuck a → ⊥)) (sym behind.0) (λ room. command_line c kept answer room is (ends kept behind.1 room), behind.2)
    done_in_place c kept answer (in_place.Over says) is ends behind =
        subst (λ (a : Reply). (left : Stage S) → IsLeftBy device kept a left → (room : Room) → LineEnds device room line old left a) (sym behind) (λ left its room. command_line c left answer room is (ends left its room))
    done_in_place c kept answer in_place.Left is ends behind = absurd behind

-- it is done so
pub placed_as : {S : Type 0} (device : S → Device) (c : Command) (old kept is : Stage S) (answer says : Option Reply) → kept ≡ is → answer ≡ says → CommandInPlace device c old is says → CommandInPlace device c old kept answer
placed_as device c old kept is answer says kept_is answer_is does =
    subst (λ (s : Stage _). CommandInPlace device c old s answer) (sym kept_is) (subst (λ (o : Option Reply). CommandInPlace device c old is o) (sym answer_is) does)

-- it is finished so
pub finished_as : {S : Type 0} (device : S → Device) (room : Room) (line : List ℕ) (old new is : Stage S) (answer says : Reply) (last : ℕ) → new ≡ is → answer ≡ says → IsFinished device room line old is says last last → IsFinished device room line old new answer last last
finished_as device room line old new is answer says last new_is answer_is ends =
    subst (λ (s : Stage _). IsFinished device room line old s answer last last) (sym new_is) (subst (λ (a : Reply). IsFinished device room line old is a last last) (sym answer_is) ends)

-- the stage before a line that is left to do
pub finished_from : {S : Type 0} (device : S → Device) (room : Room) (line : List ℕ) (old kept new : Stage S) (answer : Reply) (before after : ℕ) → kept ≡ old → IsFinished device room line kept new answer before after → IsFinished device room line old new answer before after
finished_from device room line old kept new answer before after same ends = subst (λ (s : Stage _). IsFinished device room line s new answer before after) same ends

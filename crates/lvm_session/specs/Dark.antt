-- The end of a session: by a power cut, or because the votes are lost.
use Rattle.std.specs.Prelude.{◌≡◌, ◌<◌, ◌&&◌, ◌++◌, Bool, true, false, List, [], ◌∷◌, Option, Some, None, map, is_some, if◌then◌else◌}
use Rattle.std.specs.List.{AllByRecursion}
use Rattle.std.specs.Option.{option_map, option_map_or}
use Rattle.lvm_num.specs.Buffer.{Buffer}
use Rattle.lvm_kept.specs.passed.Disk.{Arrange}
use Rattle.lvm_kept.specs.passed.Vol.{Outcome, Fact, Log, cut_log, is_open, landed_fact}
use Rattle.lvm_kept.specs.passed.DiskShelfArrange as arrange
use Rattle.lvm_kept.specs.passed.VolEntryOutcome as outcome
use Rattle.lvm_path.specs.Targets.{is_begun}
use Rattle.lvm_path.specs.Next.{with_landing}
use Rattle.lvm_session.specs.declared.open.Open.{Open}
use Rattle.lvm_session.specs.declared.open.Power.TheVariants as power
use Rattle.lvm_session.specs.declared.bringing.OpenCopy.{OpenCopy}
use Rattle.lvm_session.specs.declared.bringing.Step.TheVariants as step
use Rattle.lvm_session.specs.declared.bringing.CopyEnd.TheVariants as ending
use Rattle.lvm_session.specs.State.{Core}
use Rattle.lvm_session.specs.Judging.{is_waiting}
use Rattle.lvm_session.specs.Bringing.{hand_of, with_back}

-- it lands so, unless it has landed
abbrev pub ended_as : Outcome → Open → Open
ended_as how o = if is_waiting o then record o { request = with_landing o.request; got = None; landed = Some how } else o

-- the entries by which those of the requests land that haven't landed
abbrev pub landings : Outcome → List Fact → List Open → List Fact
landings how facts [] = []
landings how facts (o ∷ os) = if is_waiting o then landed_fact facts o.request.id how (is_begun o.request.targets.items) ∷ landings how facts os else landings how facts os

-- the buffers that requests have in hand come back
abbrev pub with_hands : List Bool → List Open → List Bool
with_hands pool [] = pool
with_hands pool (o ∷ os) = with_hands (with_back pool o.got) os

-- The session is over for the copy: no transfer of it is out, and it has ended, unless it had.
abbrev pub ended_copy : OpenCopy → OpenCopy
ended_copy c = record c { step = step.Idle; end = if is_some c.end then c.end else Some ending.Ended }

-- the buffer that the copy has in hand
abbrev pub hand_of_copy : Option OpenCopy → Option Buffer
hand_of_copy copy = option_map_or (λ (c : OpenCopy). hand_of c.step) copy None

-- the history with the landings of what was open
abbrev pub with_landings : Outcome → Log → List Open → Log
with_landings how log os = record log { facts = log.facts ++ landings how log.facts os }

-- each request that hasn't landed lands so, the copy has ended, and what was in hand comes back
abbrev pub all_ended : Outcome → Core → Core
all_ended how core = record core {
  history = with_landings how core.history core.requests;
  requests = map (ended_as how) core.requests;
  copy = option_map ended_copy core.copy;
  pool = with_hands (with_back core.pool (hand_of_copy core.copy)) core.requests;
}

-- The power is off: a cut is entered, all that waited has landed as Dark, and nothing is out any more.
abbrev pub all_dark : Core → Core
all_dark core = record (all_ended outcome.Dark (record core { history = cut_log core.history })) { flying = []; power = power.Dark }

-- The votes are lost and nothing is out: all that waited has landed as Off.
abbrev pub all_off : Core → Core
all_off core = record (all_ended outcome.Off core) { power = power.Off }

abbrev pub is_cut : Arrange → Bool
is_cut (arrange.Fail disk) = false
is_cut (arrange.Heal disk) = false
is_cut (arrange.Cut word) = true

-- a power cut that is arranged ends the session, and no other order changes it
abbrev pub after_arrange : Arrange → Bool → Core → Core
after_arrange what done core = if done && is_cut what then all_dark core else core

-- each id is below the later ones
abbrev pub IsAscending : List Open → Type 0
IsAscending [] = Unit {0}
IsAscending (o ∷ os) = AllByRecursion (λ (later : Open). o.request.id < later.request.id) os × IsAscending os

-- the history tells of each request that hasn't landed that it has begun and not landed
abbrev pub AreOpen : List Fact → List Open → Type 0
AreOpen facts os = AllByRecursion (λ (o : Open). is_waiting o ≡ true → is_open facts o.request.id ≡ true) os

-- open requests by rising numbers, as the history tells of them
pub record AreTold (facts : List Fact) (os : List Open) : Type 0 where
  pub ascending : IsAscending os
  pub still : AreOpen facts os

-- What is left of a request stays where these parts of a session change.
use Rattle.std.proofs.Common.{◌≡◌, ◌+◌, ◌*◌, ◌&&◌, ◌∙◌, ℕ, Bool, not, if◌then◌else◌, List, refl, ap, false, length, ◌<◌, arith}
use Rattle.std.specs.List.{sum_by}
use Rattle.std.specs.Prelude.{count_by}
use Rattle.lvm_vol.specs.Log.{Log}
use Rattle.lvm_session.specs.passed.Hold.{Waiting}
use Rattle.lvm_mwc.specs.declared.entries.CacheEntry.{CacheEntry}
use Rattle.lvm_path.specs.declared.request.Phase.{Phase}
use Rattle.lvm_path.specs.declared.request.Phase.TheVariants as phase
use Rattle.lvm_path.specs.declared.request.Request.{Request}
use Rattle.lvm_path.specs.Asks.{is_write}
use Rattle.lvm_path.specs.Targets.{is_begun}
use Rattle.lvm_path.specs.declared.target.Target.{Target}
use Rattle.lvm_session.specs.declared.flown.Flown.{Flown}
use Rattle.lvm_session.specs.declared.open.Open.{Open}
use Rattle.lvm_session.specs.declared.open.Power.TheVariants as power
use Rattle.lvm_session.specs.State.{Core}
use Rattle.lvm_session.specs.Judging.{copies_for, is_changed, is_waiting, destinations_for}
use Rattle.lvm_session.specs.Left.{begun_left, if_so, is_held, lacks_dirty, phase_left, read_left, request_left, destination_turns, turns_of, update_work, lacks_note, left_by, left_of, work_left}
use Rattle.lvm_session.specs.Enabled.{is_lost}
use Rattle.lvm_keeps.proofs.RequestsLemmas.{changed}

-- all that is left is work, while the group is on and has its votes
pub lit : (c : Core) → c.power ≡ power.On → is_lost c ≡ false → left_of c ≡ work_left c
lit c is none = ap (λ p. left_by p c) is ∙ ap (λ b. if b then length c.flying + count_by is_waiting c.requests else work_left c) none

pub grows : (a b c d x y : ℕ) → x < y → a + b + c + x + d < a + b + c + y + d
grows a b c d x y less = omega (arith, less)

-- as much is left of its phase, where as many notes are lacking
pub phase_still : (core now : Core) (r : Request) → lacks_note now r ≡ lacks_note core r → (p : Phase) → phase_left p now r ≡ phase_left p core r
phase_still core now r lacks phase.Held = refl
phase_still core now r lacks phase.WantEntry = refl
phase_still core now r lacks phase.WantRecord = ap (λ (is : Target → Bool). 9 + 2 * count_by is r.targets.items) lacks
phase_still core now r lacks phase.Data = refl
phase_still core now r lacks phase.WantStatus = refl
phase_still core now r lacks phase.Landed = refl

-- what a write that hasn't started its data has left beside its phase
abbrev pub left_beside : Core → Request → ℕ
left_beside core r = update_work + sum_by (turns_of core) (copies_for core r.ask) + sum_by (destination_turns core) (destinations_for core r.ask) + if_so (lacks_dirty core r.ask) update_work + if_so (not (is_held r.phase) && is_changed core r) 12

-- a request has as much left where both are the same
pub request_still : (core now : Core) (x : Open) → left_beside now x.request ≡ left_beside core x.request → lacks_note now x.request ≡ lacks_note core x.request → request_left now x ≡ request_left core x
request_still core now x beside lacks =
    ap (λ n. if_so (is_waiting x) (if is_write x.request.ask then (if is_begun x.request.targets.items then begun_left x.request else n) else read_left x.request.phase x.request))
    (ap (λ n. n + phase_left x.request.phase now x.request) beside ∙ ap (λ n. left_beside core x.request + n) (phase_still core now x.request lacks x.request.phase))

module _ (core : Core) (history : Log) (requests : List Open) (queue : Waiting) (pool : List Bool) (flying : List Flown) (entries : List CacheEntry) (last : List ℕ) where
  abbrev now : Core
  now = changed core history requests queue core.copy pool flying entries last

  pub left_same : (x : Open) → request_left now x ≡ request_left core x
  left_same x = request_still core now x refl refl

-- What a shelf in memory does beyond what every shelf does.
use Rattle.std.specs.Prelude.{◌≡◌, ◌⊎◌, ℕ, ◌==◌, ◌++◌, Bool, true, false, List, [], ◌∷◌, length, replicate, Option, Some, None, MatchOption, if◌then◌else◌, slice_get, slice_set}
use Rattle.std.specs.List.{position, remove, AllByRecursion}
use Rattle.lvm_num.specs.Buffer.{Sector}
use Rattle.lvm_disk.specs.Device.{Flight, Range, Ordered, Device}
use Rattle.lvm_disk.specs.Steps.{BothTold, Cuts, ordered_by}
use Rattle.lvm_memory.specs.Media.{media_of, sizes_of, cut_by, written_by}
use Rattle.lvm_memory.specs.Flights.{passed}
use Rattle.lvm_memory.specs.Tally.{counts_of}
use Rattle.lvm_memory.specs.Tickets.{IsLeastFree}
use Rattle.lvm_memory.specs.Log.{logged}
use Rattle.lvm_memory.specs.Injection.{Injection, begun, cut_planned, fails}
use Rattle.lvm_memory.specs.declared.injector.Act.{Act}
use Rattle.lvm_memory.specs.declared.injector.Act.TheVariants.{Delay}
use Rattle.lvm_memory.specs.declared.injector.Planned.{Planned}
use Rattle.lvm_disk.specs.declared.shelf.Arrange.{Arrange}
use Rattle.lvm_disk.specs.declared.shelf.Arrange.TheVariants as arrange
use Rattle.lvm_disk.specs.declared.shelf.Started.{Started}
use Rattle.lvm_disk.specs.declared.shelf.Started.TheVariants as started
use Rattle.lvm_disk.specs.declared.shelf.Reaped.{Reaped}
use Rattle.lvm_disk.specs.declared.shelf.Reaped.TheVariants as reaped

-- A shelf in memory at one moment: the device, what is injected into it, how many reaps still pass over each flight, and the room of its log.
pub record Bench : Type 0 where
  pub device : Device
  pub injection : Injection
  pub delays : List ℕ
  pub room : ℕ

-- what orders made of it, where it heeds them alone
abbrev pub ordered_of : Bool → ℕ → ℕ → List Bool → Option Ordered
ordered_of heeds cuts fails failing = if heeds then Some (record { cuts = cuts; fails = fails; failing = failing }) else None

-- a shelf that was just made; without a plan it heeds orders alone
abbrev pub fresh_bench : List (List Sector) → List Planned → ℕ → Bench
fresh_bench disks plan room = record {
  device = record {
    sizes = sizes_of disks;
    media = Some (media_of disks);
    flights = [];
    freed = [];
    power = true;
    counts = counts_of (record { starts = replicate (length disks) 0; misses = replicate (length disks) 0; faults = replicate (length disks) 0; cuts = 0; waits = 0 });
    arranges = true;
    orders = record { made = 0; last = None; alone = ordered_of (length plan == 0) 0 0 (replicate (length disks) false) };
    wrote = Some [];
  };
  injection = record { plan = plan; calls = 0; failing = replicate (length disks) false; pick = 0; delay = 0 };
  delays = [];
  room = room;
}

-- from now on the shelf doesn't heed orders alone
abbrev pub heeding_no_more : Bench → Bench
heeding_no_more bench = record bench { device = record bench.device { orders = record bench.device.orders { alone = None } } }

-- another plan for the calls to come; from now on the shelf doesn't heed orders alone
abbrev pub with_plan : Bench → List Planned → Bench
with_plan bench plan = record (heeding_no_more bench) { injection = record bench.injection { plan = plan } }

-- ---- power cuts

-- The power was cut, and of the sectors that were under way those became new that the word picks.
pub record CutBy (word : ℕ) (old new : Device) : Type 0 where
  pub cuts : Cuts old new
  pub picked : BothTold old.media new.media (λ m n. (d s : ℕ) → n d s ≡ cut_by word 0 old.flights m d s)

-- a device that is about to be cut; where it heeds orders alone, it was ordered
abbrev pub let_cut : ℕ → Device → Device
let_cut word device = record device { orders = record device.orders { alone = ordered_by device.power (arrange.Cut word) device.orders.alone } }

-- the power was off already and nothing happens, or it is cut by the word
abbrev pub DarkensBy : ℕ → Device → Device → Type 0
DarkensBy word old new = ((old.power ≡ false) × (new ≡ old)) ⊎ CutBy word old new

-- A call has begun: the acts that are planned for it are done, and nothing else.
pub record CallBegins (old new : Bench) : Type 0 where
  pub injection : new.injection ≡ begun old.injection
  pub device : MatchOption (cut_planned old.injection) (new.device ≡ old.device) (λ word. (new.device.power ≡ false) × DarkensBy word old.device new.device)
  pub delays : MatchOption (cut_planned old.injection) (new.delays ≡ old.delays) (λ _. new.delays ≡ [])
  pub room : new.room ≡ old.room

-- where the plan doesn't cut the power before the call, no cut is counted
abbrev pub CutsAsPlanned : Bench → Bench → Type 0
CutsAsPlanned old new = cut_planned old.injection ≡ None → new.device.counts.cuts ≡ old.device.counts.cuts

-- ---- starts

-- A flight started with the least ticket, and is passed over by as many reaps as were planned.
pub record Departs (old new : Bench) (range : Range) (write : Bool) (ticket : ℕ) : Type 0 where
  pub power : old.device.power ≡ true
  pub ticket_is : IsLeastFree ticket old.device.flights
  pub injection : new.injection ≡ record old.injection { delay = 0 }
  pub delays : new.delays ≡ old.delays ++ old.injection.delay ∷ []
  pub wrote : new.device.wrote ≡ (if write then logged old.room old.device.wrote range else old.device.wrote)
  pub room : new.room ≡ old.room

-- what a start does once the call has begun
abbrev pub StartsThen : Bench → Bench → Range → Bool → Started → Type 0
StartsThen old new range write (started.Ticket ticket) = Departs old new range write ticket
StartsThen old new range write (started.Dark back) = (old.device.power ≡ false) × (new ≡ old)

-- what is planned before a start is done first
abbrev pub StartsAsPlanned : Bench → Bench → Range → Bool → Started → Type 0
StartsAsPlanned old new range write answer = (begun : Bench) × CallBegins old begun × StartsThen begun new range write answer

-- ---- reaps

-- The oldest flight that isn't passed over has ended. It failed exactly where its disk fails, and of a failed write those sectors are written that the word picks.
pub record Arrives (old new : Bench) (ticket : ℕ) (failed : Bool) : Type 0 where
  pub place : ℕ
  pub flight : Flight
  pub power : old.device.power ≡ true
  pub first : position (λ n. n == 0) old.delays ≡ Some place
  pub there : slice_get old.device.flights place ≡ Some flight
  pub its : flight.ticket ≡ ticket
  pub failed_is : fails old.injection flight.disk ≡ failed
  pub picked : failed ≡ true → BothTold old.device.media new.device.media (λ m n. (d s : ℕ) → n d s ≡ written_by old.injection.pick 0 flight m d s)
  pub flights : new.device.flights ≡ remove old.device.flights place
  pub delays : new.delays ≡ passed (remove old.delays place)
  pub injection : new.injection ≡ old.injection
  pub room : new.room ≡ old.room

-- all flights were passed over
pub record PassesFlightsOver (old new : Bench) : Type 0 where
  pub power : old.device.power ≡ true
  pub none : position (λ n. n == 0) old.delays ≡ None
  pub delays : new.delays ≡ passed old.delays
  pub injection : new.injection ≡ old.injection
  pub room : new.room ≡ old.room

-- what a reap does once the call has begun
abbrev pub ReapsThen : Bench → Bench → Reaped → Type 0
ReapsThen old new reaped.Empty = PassesFlightsOver old new
ReapsThen old new (reaped.Done ticket buf) = Arrives old new ticket false
ReapsThen old new (reaped.Failed ticket buf) = Arrives old new ticket true
ReapsThen old new (reaped.Dark freed) = (old.device.power ≡ false) × (new ≡ old)

-- what is planned before a reap is done first
abbrev pub ReapsAsPlanned : Bench → Bench → Reaped → Type 0
ReapsAsPlanned old new answer = (begun : Bench) × CallBegins old begun × ReapsThen begun new answer

-- ---- arrangements

-- what an arrangement does beside the order that it is
abbrev pub ArrangesAsTold : Bench → Bench → Arrange → Type 0
ArrangesAsTold old new (arrange.Fail disk) = new ≡ record old { device = new.device; injection = record old.injection { failing = slice_set old.injection.failing disk true } }
ArrangesAsTold old new (arrange.Heal disk) = new ≡ record old { device = new.device; injection = record old.injection { failing = slice_set old.injection.failing disk false } }
ArrangesAsTold old new (arrange.Cut word) =
    (new ≡ record old { device = new.device; delays = [] })
    × (old.device.power ≡ true → BothTold old.device.media new.device.media (λ m n. (d s : ℕ) → n d s ≡ cut_by word 0 old.device.flights m d s))

-- ---- shelves that don't delay

-- the act delays nothing
abbrev pub IsPromptAct : Act → Type 0
IsPromptAct (Delay reaps) = reaps ≡ 0
IsPromptAct _ = Unit {0}

-- no flight is passed over, and the plan delays none
pub record IsPrompt (bench : Bench) : Type 0 where
  pub plan : AllByRecursion (λ p. IsPromptAct p.act) bench.injection.plan
  pub next : bench.injection.delay ≡ 0
  pub out : AllByRecursion (λ n. n ≡ 0) bench.delays

-- the answer is not Empty
abbrev pub IsNoWait : Reaped → Type 0
IsNoWait reaped.Empty = ⊥
IsNoWait (reaped.Done ticket buf) = Unit {0}
IsNoWait (reaped.Failed ticket buf) = Unit {0}
IsNoWait (reaped.Dark freed) = Unit {0}

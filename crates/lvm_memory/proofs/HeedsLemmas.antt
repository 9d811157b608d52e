-- Shelves in memory that do nothing but what they are ordered.
use Rattle.std.proofs.Common.{◌≡◌, ◌++◌, [], ◌∷◌, ℕ, List, Bool, true, false, Option, Some, None, MatchOption, inl, inr, cond, length, slice_index_or, IfSome, refl, sym, ◌∙◌, ap, subst, arith}
use Rattle.lvm_num.specs.Buffer.{Buffer}
use Rattle.lvm_disk.specs.Counts.{next_count}
use Rattle.lvm_disk.specs.Device.{Device, Ordered}
use Rattle.lvm_disk.specs.Steps.{StartGives, GoesDark, ReapGives, FreedGives, ArrangeGives, ordered_by, with_order}
use Rattle.lvm_disk.specs.declared.shelf.Arrange.{Arrange}
use Rattle.lvm_disk.specs.declared.shelf.Arrange.TheVariants as arrange
use Rattle.lvm_disk.specs.declared.shelf.Started.{Started}
use Rattle.lvm_disk.specs.declared.shelf.Started.TheVariants as started
use Rattle.lvm_disk.specs.declared.shelf.Reaped.{Reaped}
use Rattle.lvm_disk.specs.declared.shelf.Reaped.TheVariants as reaped
use Rattle.lvm_memory.specs.Injection.{Injection, due, after_acts, cut_planned, next_call, begun}
use Rattle.lvm_memory.specs.Flights.{NoDelays}
use Rattle.lvm_memory.specs.Sound.{IsUnplanned}
use Rattle.lvm_memory.specs.Bench.{Bench, CallBegins, DarkensBy, ordered_of}
use Rattle.lvm_memory.specs.declared.injector.Planned.{Planned}
use Rattle.lvm_memory.proofs.TicketsLemmas.{none_more}

-- ---- what is told

pub same_ordered :
    (heeds : Bool) (cuts cuts1 count : ℕ) (failing failing1 : List Bool) → cuts1 ≡ cuts → (heeds ≡ true → failing1 ≡ failing) → ordered_of heeds cuts1 count failing1 ≡ ordered_of heeds cuts count failing
same_ordered true cuts cuts1 count failing failing1 same fails = let still = fails refl in λ i. ordered_of true (same i) count (still i)
same_ordered false cuts cuts1 count failing failing1 same fails = refl

-- a cut that was ordered
pub cut_ordered :
    (heeds : Bool) (cuts cuts1 count : ℕ) (failing : List Bool) (power : Bool) (word : ℕ) → power ≡ true → cuts1 ≡ next_count cuts
    → ordered_of heeds cuts1 count failing ≡ ordered_by power (arrange.Cut word) (ordered_of heeds cuts count failing)
cut_ordered true cuts cuts1 count failing power word on once = ap (λ (n : ℕ). ordered_of true n count failing) (once ∙ ap (λ (b : Bool). cond b (next_count cuts) cuts) (sym on))
cut_ordered false cuts cuts1 count failing power word on once = refl

pub cuts_as_ordered :
    (heeds : Bool) (cuts cuts1 count : ℕ) (failing : List Bool) (power : Bool) (word : ℕ) → power ≡ true → cuts1 ≡ next_count cuts
    → IfSome (ordered_by power (arrange.Cut word) (ordered_of heeds cuts count failing)) (λ (ordered : Ordered). cuts1 ≡ ordered.cuts)
cuts_as_ordered true cuts cuts1 count failing power word on once = once ∙ ap (λ (b : Bool). cond b (next_count cuts) cuts) (sym on)
cuts_as_ordered false cuts cuts1 count failing power word on once = tt

pub fails_as_ordered :
    (heeds : Bool) (cuts count : ℕ) (failing : List Bool) (disk : ℕ) → slice_index_or failing disk false ≡ true → IfSome (ordered_of heeds cuts count failing) (λ (ordered : Ordered). slice_index_or ordered.failing disk false ≡ true)
fails_as_ordered true cuts count failing disk fails = fails
fails_as_ordered false cuts count failing disk fails = tt

-- ---- of a shelf that doesn't heed orders alone nothing is told

some_none : (o : Ordered) → Some o ≡ None → ⊥
some_none o e = cc e

pub heeds_not : (heeds : Bool) (cuts count : ℕ) (failing : List Bool) → ordered_of heeds cuts count failing ≡ None → heeds ≡ true → ⊥
heeds_not true cuts count failing none heeds = some_none _ none
heeds_not false cuts count failing none heeds = cc heeds

-- any disk may fail
pub fails_unheeding : (alone : Option Ordered) (disk : ℕ) → alone ≡ None → IfSome alone (λ (ordered : Ordered). slice_index_or ordered.failing disk false ≡ true)
fails_unheeding alone disk none = subst (λ (o : Option Ordered). IfSome o (λ (ordered : Ordered). slice_index_or ordered.failing disk false ≡ true)) (sym none) tt

-- no step of such a shelf makes it one that does
abbrev Alone : Device → Option Ordered
Alone device = device.orders.alone

dark_unheeding : (old new : Device) → Alone old ≡ None → GoesDark old new → Alone new ≡ None
dark_unheeding old new none (inl (off, same)) = ap Alone same ∙ none
dark_unheeding old new none (inr cuts) = ap Alone cuts.new_is ∙ none

begun_dark : (o : Option ℕ) (old new : Device) → Alone old ≡ None → MatchOption o (new ≡ old) (λ word. (new.power ≡ false) × DarkensBy word old new) → Alone new ≡ None
begun_dark None old new none same = ap Alone same ∙ none
begun_dark (Some word) old new none (off, inl (was, same)) = ap Alone same ∙ none
begun_dark (Some word) old new none (off, inr cut) = ap Alone cut.cuts.new_is ∙ none

pub begun_unheeding : (old new : Bench) → Alone old.device ≡ None → CallBegins old new → Alone new.device ≡ None
begun_unheeding old new none begins = begun_dark (cut_planned old.injection) old.device new.device none begins.device

pub started_unheeding : (old new : Device) (disk first count : ℕ) (write : Bool) (buf : Buffer) (answer : Started) → Alone old ≡ None → StartGives old new disk first count write buf answer → Alone new ≡ None
started_unheeding old new disk first count write buf (started.Ticket ticket) none gives = ap Alone gives.new_is ∙ none
started_unheeding old new disk first count write buf (started.Dark back) none (same, off, dark) = dark_unheeding old new none dark

pub reaped_unheeding : (old new : Device) (answer : Reaped) → Alone old ≡ None → ReapGives old new answer → Alone new ≡ None
reaped_unheeding old new reaped.Empty none gives = ap Alone gives.new_is ∙ none
reaped_unheeding old new (reaped.Done ticket buf) none gives = ap Alone gives.new_is ∙ none
reaped_unheeding old new (reaped.Failed ticket buf) none gives = ap Alone gives.new_is ∙ none
reaped_unheeding old new (reaped.Dark freed) none (dark, off, count) = dark_unheeding old new none dark

pub freed_unheeding : (old new : Device) (back : Option Buffer) → Alone old ≡ None → FreedGives old new back → Alone new ≡ None
freed_unheeding old new None none (empty, same) = ap Alone same ∙ none
freed_unheeding old new (Some buf) none is = sym (ap Alone is) ∙ none

pub arranged_unheeding : (old new : Device) (what : Arrange) (answer : Bool) → Alone old ≡ None → ArrangeGives old new what answer → Alone new ≡ None
arranged_unheeding old new what false none (never, same) = ap Alone same ∙ none
arranged_unheeding old new (arrange.Fail disk) true none (can, is) = ap Alone is ∙ ap (ordered_by old.power (arrange.Fail disk)) none
arranged_unheeding old new (arrange.Heal disk) true none (can, is) = ap Alone is ∙ ap (ordered_by old.power (arrange.Heal disk)) none
arranged_unheeding old new (arrange.Cut word) true none (can, gives) = dark_unheeding (with_order old (arrange.Cut word)) new (ap (ordered_by old.power (arrange.Cut word)) none) gives.1

-- ---- no plan

none_planned : (plan : List Planned) → length plan ≡ 0 → plan ≡ []
none_planned [] none = refl
none_planned (p ∷ plan) none = absurd (omega (arith, none))

pub begun_unplanned : (old new : Injection) (delays : List ℕ) → new ≡ begun old → IsUnplanned old delays → IsUnplanned new delays
begun_unplanned old new delays is unplanned = record {
  plan =
      ap (λ (i : Injection). length i.plan) is ∙ ap (λ (plan : List Planned). length (after_acts (due (next_call old) plan) (record old { calls = next_call old })).plan) (none_planned old.plan unplanned.plan)
      ∙ unplanned.plan;
  next =
      ap (λ (i : Injection). i.delay) is ∙ ap (λ (plan : List Planned). (after_acts (due (next_call old) plan) (record old { calls = next_call old })).delay) (none_planned old.plan unplanned.plan)
      ∙ unplanned.next;
  out = unplanned.out;
}

pub departed_unplanned :
    (old new : Injection) (delays more : List ℕ) (delay : ℕ) → IsUnplanned old delays → delay ≡ old.delay → new ≡ record old { delay = 0 } → more ≡ delays ++ delay ∷ [] → IsUnplanned new more
departed_unplanned old new delays more delay unplanned taken same is = record {
  plan = ap (λ (i : Injection). length i.plan) same ∙ unplanned.plan;
  next = ap (λ (i : Injection). i.delay) same;
  out = subst NoDelays (sym is) (none_more delays delay unplanned.out (taken ∙ unplanned.next));
}

-- other delays, of which there are none
pub still_unplanned : (i : Injection) (delays more : List ℕ) → IsUnplanned i delays → NoDelays more → IsUnplanned i more
still_unplanned i delays more unplanned none = record { plan = unplanned.plan; next = unplanned.next; out = none }

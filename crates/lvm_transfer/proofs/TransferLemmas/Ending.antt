-- How the one flight that is out ends.
use Rattle.std.proofs.Common.{◌≡◌, ◌+◌, inl, inr, ⊎_elim, ◌∷◌, ◌++◌, [], ℕ, List, Bool, true, false, refl, sym, ◌∙◌, ap, subst, arith}
use Rattle.lvm_disk.specs.passed.Num.{Buffer}
use Rattle.lvm_disk.specs.Counts.{Counts}
use Rattle.lvm_disk.specs.Device.{Flight, Device, MayLeave, IsReady}
use Rattle.lvm_disk.specs.Steps.{Removes, Cuts, GoesDark, Starts, EndsDone, EndsFailed, CountsFailure}
use Rattle.lvm_disk.specs.Images.{LeavesNoMore}
use Rattle.lvm_disk.specs.Paths.{DeviceStep, Started, Ended, Broke, WasCut, Path, Here, Then}
use Rattle.lvm_disk.proofs.PathsLemmas.{append-path, map-path}
use Rattle.lvm_disk.proofs.DeviceLemmas.{start_leaves, done_leaves, failed_leaves, cut_leaves}
use Rattle.lvm_kept.specs.Raw.{OnlyAdds}
use Rattle.lvm_transfer.specs.Transfer.{FinishGives, TransferGives, Costs, StepsWhile, OneStep, NoStep, flight_of}
use Rattle.lvm_transfer.specs.declared.moves.Moved.{Moved}
use Rattle.lvm_transfer.specs.declared.moves.Moved.TheVariants as moved
use Rattle.lvm_transfer.proofs.TransferLemmas.Waiting.{WaitsSoFar, Borne, borne_costs, costs_then, steps_more}

never : (before after : List Flight) (g : Flight) → [] ≡ before ++ g ∷ after → ⊥
never [] after g e = cc
never (x ∷ before) after g e = cc

alone : (before after : List Flight) (f g : Flight) → f ∷ [] ≡ before ++ g ∷ after → (g ≡ f) × (before ++ after ≡ [])
alone [] after f g e = (cc, cc)
alone (x ∷ before) after f g e = absurd (never before after g (cc))

-- only the one flight can have ended
pub one_left : (f : Flight) (old new : List Flight) (g : Flight) → old ≡ f ∷ [] → Removes g old new → (g ≡ f) × (new ≡ [])
one_left f old new g one removes =
    let it = alone removes.before removes.after f g (sym one ∙ removes.was) in (it.0, removes.is ∙ it.1)

-- a shelf whose power was on has been cut
pub was_cut : (old new : Device) → old.power ≡ true → GoesDark old new → Cuts old new
was_cut old new on (inl off) = absurd (cc (on, off.0))
was_cut old new on (inr cuts) = cuts

module _ (old now new : Device) (n : ℕ) (so_far : WaitsSoFar old now n) where
  -- each crash image is one from before, over the waiting too
  from_first : LeavesNoMore now new → LeavesNoMore old new
  from_first leaves image may = subst (λ (d : Device). MayLeave d image) so_far.only.now_is (leaves image may)

  pub done_moments : (ticket : ℕ) (buf : Buffer) → EndsDone now new ticket buf → Path DeviceStep (LeavesNoMore old) old new
  done_moments ticket buf ends = Then so_far.moments (Ended ticket buf ends) (from_first (done_leaves now new ticket buf ends))

  pub failed_moments : (ticket : ℕ) (buf : Buffer) → EndsFailed now new ticket buf → Path DeviceStep (LeavesNoMore old) old new
  failed_moments ticket buf ends = Then so_far.moments (Broke ticket buf ends) (from_first (failed_leaves now new ticket buf ends))

  pub cut_moments : Cuts now new → Path DeviceStep (LeavesNoMore old) old new
  cut_moments cuts = Then so_far.moments (WasCut cuts) (from_first (cut_leaves now new cuts))

  pub dark_cuts : old.power ≡ true → GoesDark now new → Cuts now new
  dark_cuts on dark = was_cut now new (ap (λ (d : Device). d.power) so_far.only.now_is ∙ on) dark

  flights_same : now.flights ≡ old.flights
  flights_same = ap (λ (d : Device). d.flights) so_far.only.now_is

  pub done_gives : (patience : ℕ) → (f : Flight) → old.flights ≡ f ∷ [] → (ticket : ℕ) (buf : Buffer) → EndsDone now new ticket buf → FinishGives patience old new f (moved.Done buf)
  done_gives patience f one ticket buf ends =
      let it = one_left f now.flights new.flights ends.flight (flights_same ∙ one) ends.flights in
      (now, so_far.only, subst (λ (t : ℕ). EndsDone now new t buf) (sym ends.its ∙ ap (λ (g : Flight). g.ticket) it.0) ends)

  pub failed_gives : (patience : ℕ) → (f : Flight) → old.flights ≡ f ∷ [] → (ticket : ℕ) (buf : Buffer) → EndsFailed now new ticket buf → FinishGives patience old new f (moved.Failed buf)
  failed_gives patience f one ticket buf ends =
      let it = one_left f now.flights new.flights ends.flight (flights_same ∙ one) ends.flights in
      (now, so_far.only, subst (λ (t : ℕ). EndsFailed now new t buf) (sym ends.its ∙ ap (λ (g : Flight). g.ticket) it.0) ends)

  pub cut_gives : (patience : ℕ) → (f : Flight) → Cuts now new → FinishGives patience old new f (moved.Dark true)
  cut_gives patience f cuts = (refl, (now, so_far.only, cuts))

  module _ (freed : old.freed ≡ []) (power : old.power ≡ true) (f : Flight) (one : old.flights ≡ f ∷ []) where
    pub done_rests : (ticket : ℕ) (buf : Buffer) → EndsDone now new ticket buf → IsReady new
    done_rests ticket buf ends = record {
      flights = (one_left f now.flights new.flights ends.flight (flights_same ∙ one) ends.flights).1;
      freed = ap (λ (d : Device). d.freed) ends.new_is ∙ ap (λ (d : Device). d.freed) so_far.only.now_is ∙ freed;
      power = ap (λ (d : Device). d.power) ends.new_is ∙ ap (λ (d : Device). d.power) so_far.only.now_is ∙ power;
    }

    pub failed_rests : (ticket : ℕ) (buf : Buffer) → EndsFailed now new ticket buf → IsReady new
    failed_rests ticket buf ends = record {
      flights = (one_left f now.flights new.flights ends.flight (flights_same ∙ one) ends.flights).1;
      freed = ap (λ (d : Device). d.freed) ends.new_is ∙ ap (λ (d : Device). d.freed) so_far.only.now_is ∙ freed;
      power = ap (λ (d : Device). d.power) ends.new_is ∙ ap (λ (d : Device). d.power) so_far.only.now_is ∙ power;
    }

pub cut_rests : (old new : Device) → Cuts old new → (new.flights ≡ []) × (new.power ≡ false)
cut_rests old new cuts = (ap (λ (d : Device). d.flights) cuts.new_is, ap (λ (d : Device). d.power) cuts.new_is)

-- ---- what it costs

failed_waits : (f : Flight) (old new : Counts) → CountsFailure f old new → new.waits ≡ old.waits
failed_waits f old new counts = ⊎_elim (λ miss. ap (λ (c : Counts). c.waits) miss.1.new_is) (λ fault. ap (λ (c : Counts). c.waits) fault.1.new_is) counts

module _ (old now new : Device) (first left n : ℕ) (borne : Borne old now first left n) where
  pub done_costs : (ticket : ℕ) (buf : Buffer) → EndsDone now new ticket buf → Costs first left old new
  done_costs ticket buf ends = costs_then first left old now new (borne_costs old now first left n borne) (Ended ticket buf ends) refl (ap (λ (d : Device). d.counts.waits) ends.new_is)

  pub failed_costs : (ticket : ℕ) (buf : Buffer) → EndsFailed now new ticket buf → Costs first left old new
  failed_costs ticket buf ends = costs_then first left old now new (borne_costs old now first left n borne) (Broke ticket buf ends) refl (failed_waits ends.flight now.counts new.counts ends.counts)

  pub cut_costs : Cuts now new → Costs first left old new
  cut_costs cuts = costs_then first left old now new (borne_costs old now first left n borne) (WasCut cuts) refl (ap (λ (d : Device). d.counts.waits) cuts.new_is)

-- ---- a whole transfer

-- the start costs nothing
pub started_costs : (before left : ℕ) (f : Flight) (old mid new : Device) → Starts old mid f → Costs before left mid new → StepsWhile before old left new
started_costs before left f old mid new starts costs = steps_more (OneStep NoStep (Started f starts) (let e : before ≡ before + 0 = omega arith in e)) costs.steps

-- nor does a cut
pub dark_costs : (patience : ℕ) (old mid : Device) → Cuts old mid → StepsWhile patience old patience mid
dark_costs patience old mid cuts = OneStep NoStep (WasCut cuts) (let e : patience ≡ patience + 0 = omega arith in e)

nothing_yet : (f : Flight) (old : Device) → OnlyAdds f old old
nothing_yet f old image may = (image, may, record { same = record { disks = refl; size = λ d. refl }; each = λ d s. inl refl })

-- a flight was started, and what follows adds no images
pub started_moments : (f : Flight) (old mid new : Device) → Starts old mid f → Path DeviceStep (LeavesNoMore mid) mid new → Path DeviceStep (OnlyAdds f old) old new
started_moments f old mid new starts rest =
    append-path (Then (Here (nothing_yet f old)) (Started f starts) (start_leaves old mid f starts))
    (map-path (OnlyAdds f old) (λ d leaves image may. start_leaves old mid f starts image (leaves image may)) rest)

-- the power was cut at the start
pub dark_moments : (f : Flight) (old mid : Device) → Cuts old mid → Path DeviceStep (OnlyAdds f old) old mid
dark_moments f old mid cuts = Then (Here (nothing_yet f old)) (WasCut cuts) (λ image may. nothing_yet f old image (cut_leaves old mid cuts image may))

-- crash images don't know tickets
pub any_ticket : (ticket : ℕ) (write : Bool) (disk first count : ℕ) (buf : Buffer) (old new : Device) → Path DeviceStep (OnlyAdds (flight_of ticket write disk first count buf) old) old new → Path DeviceStep (OnlyAdds (flight_of 0 write disk first count buf) old) old new
any_ticket ticket write disk first count buf old new path = map-path (OnlyAdds (flight_of 0 write disk first count buf) old) (λ d adds image may. let from = adds image may in (from.0, from.1, record { same = from.2.same; each = from.2.each })) path

-- a start that was waited for
pub from_finish : (patience : ℕ) (f : Flight) (old mid new : Device) (how : Moved) → Starts old mid f → FinishGives patience mid new f how → TransferGives patience old new f how
from_finish patience f old mid new (moved.Done back) starts ends = (ends.0, record { begun = mid; starts = starts; waits = ends.1 }, ends.2)
from_finish patience f old mid new (moved.Failed back) starts ends = (ends.0, record { begun = mid; starts = starts; waits = ends.1 }, ends.2)
from_finish patience f old mid new (moved.Dark true) starts ends = (ends.1.0, record { begun = mid; starts = starts; waits = ends.1.1 }, ends.1.2)
from_finish patience f old mid new (moved.Dark false) starts ends = absurd (let e = ends.0 in cc)
from_finish patience f old mid new moved.Stuck starts ends = (
  record { begun = mid; starts = starts; waits = ends.0 },
  subst (λ (d : Device). Rattle.lvm_disk.specs.Counts.RoseBy patience d.counts.waits new.counts.waits) (starts.new_is) ends.1,
)

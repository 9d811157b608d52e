-- The transfers that are out stay their owners'.
use Rattle.std.proofs.Common.{◌≡◌, ◌==◌, ◌≤◌, ℕ, Bool, true, false, ◌&&◌, List, [], ◌∷◌, Option, refl, sym, ◌∙◌, ap, subst, arith}
use Rattle.std.specs.Prelude.{count_by}
use Rattle.std.specs.List.{AllByRecursion}
use Rattle.std.proofs.lemmas.Bool.{eq-eqb}
use Rattle.lvm_num.specs.declared.descriptor.Descriptor.{Descriptor}
use Rattle.lvm_session.specs.passed.Disk.{Flight}
use Rattle.lvm_session.specs.passed.Hold.{Waiting}
use Rattle.lvm_session.specs.passed.Rec.{Homes}
use Rattle.lvm_vol.specs.Log.{Log}
use Rattle.lvm_mwc.specs.declared.entries.CacheEntry.{CacheEntry}
use Rattle.lvm_mwc.specs.Cache.{Cached}
use Rattle.lvm_num.specs.declared.status.Status.{Status}
use Rattle.lvm_num.specs.declared.record.Stamp.{Stamp}
use Rattle.lvm_num.proofs.Booleans.{not_either}
use Rattle.lvm_num.proofs.Lists.{all_weaker}
use Rattle.lvm_session.specs.declared.bringing.OpenCopy.{OpenCopy}
use Rattle.lvm_session.specs.declared.bringing.Step.{Step}
use Rattle.lvm_session.specs.declared.bringing.Step.TheVariants as step
use Rattle.lvm_session.specs.declared.flown.Flown.{Flown}
use Rattle.lvm_session.specs.declared.flown.Owner.{Owner}
use Rattle.lvm_session.specs.declared.flown.Owner.TheVariants as owner
use Rattle.lvm_session.specs.declared.open.Open.{Open}
use Rattle.lvm_session.specs.State.{Core}
use Rattle.lvm_session.specs.Owners.{AreOwned, AreRows, IsDataOf, IsStatusOf, IsStepOf, IsTransferOf, flies, same_owner}
use Rattle.lvm_session.specs.Sound.{count_if}
use Rattle.lvm_keeps.proofs.Lists.{count_cons}
use Rattle.lvm_keeps.proofs.RequestsLemmas.{changed}
use Rattle.lvm_keeps.proofs.SoundLemmas.Whole.{Told, told_by}

-- ---- each row's owner has a transfer out

same_self : (who : Owner) → same_owner who who ≡ true
same_self (owner.Data id target) = ap (λ b. b && target == target) (eq-eqb id id refl) ∙ eq-eqb target target refl
same_self (owner.Status disk) = eq-eqb disk disk refl
same_self (owner.Note disk) = eq-eqb disk disk refl
same_self owner.Copy = refl

abbrev counted_in : List Flown → Flown → ℕ
counted_in rows row = count_by (λ (f : Flown). same_owner row.owner f.owner) rows

each_counts : (rows : List Flown) → AllByRecursion (λ (row : Flown). 1 ≤ counted_in rows row) rows
each_counts [] = tt
each_counts (row ∷ rows) = (
  let more = count_cons (λ (f : Flown). same_owner row.owner f.owner) row rows in
      let one : count_if (same_owner row.owner row.owner) ≡ 1 = ap count_if (same_self row.owner) in
      omega (arith, more, one),
  all_weaker (λ (r : Flown). 1 ≤ counted_in rows r) (λ (r : Flown). 1 ≤ counted_in (row ∷ rows) r) (λ r low. let more = count_cons (λ (f : Flown). same_owner r.owner f.owner) row rows in omega (arith, low, more)) rows (each_counts rows),
)

pub all_fly : (core : Core) → AreOwned core → AllByRecursion (λ (row : Flown). flies core row.owner ≡ true) core.flying
all_fly core owned = all_weaker (λ (row : Flown). 1 ≤ counted_in core.flying row) (λ (row : Flown). flies core row.owner ≡ true) (λ row low. by row low (flies core row.owner) refl) core.flying (each_counts core.flying)
  where
    by : (row : Flown) → 1 ≤ counted_in core.flying row → (b : Bool) → flies core row.owner ≡ b → b ≡ true
    by row low true is = refl
    by row low false is = let none = owned row.owner ∙ ap count_if is in absurd (omega (arith, low, none))

-- ---- they stay

-- rows whose transfers stay their owners' are still those of their flights
pub rows_by : (core now : Core) (Is : Owner → Type 0) → ((who : Owner) (f : Flight) → Is who → IsTransferOf core who f → IsTransferOf now who f) → (rows : List Flown) (flights : List Flight)
    → AllByRecursion (λ (row : Flown). Is row.owner) rows → AreRows core rows flights → AreRows now rows flights
rows_by core now Is on [] [] are all = all
rows_by core now Is on [] (f ∷ flights) are all = all
rows_by core now Is on (row ∷ rows) [] are all = all
rows_by core now Is on (row ∷ rows) (f ∷ flights) are all = let one = all.0 in (record { ticket = one.ticket; long = one.long; disk = one.disk; own = on row.owner f are.0 one.own }, rows_by core now Is on rows flights are.1 all.1)

pub step_still : (core now : Core) → core.descriptor ≡ now.descriptor → (at : Step) (c : OpenCopy) (f : Flight) → IsStepOf at core c f → IsStepOf at now c f
step_still core now same at c f its = subst (λ (d : Descriptor). IsStepOf at (record now { descriptor = d }) c f) same (by at its)
  where
    by : (x : Step) → IsStepOf x core c f → IsStepOf x (record now { descriptor = core.descriptor }) c f
    by step.Idle of = of
    by (step.Reading source) of = record { disk_is = of.disk_is; first = of.first; count = of.count; write_is = of.write_is }
    by (step.Read buf) of = of
    by step.Writing of = record { disk_is = of.disk_is; first = of.first; count = of.count; write_is = of.write_is }

pub data_still : (core now : Core) → told_by core ≡ told_by now → (id target : ℕ) (f : Flight) → IsDataOf core id target f → IsDataOf now id target f
data_still core now same id target f its = let m = its.moves in
    subst (λ (p : Told). IsDataOf (record now { history = p.0; requests = p.1 }) id target f) same
    (record { place = its.place; request = its.request; there = its.there; own = its.own; aim = its.aim; aim_is = its.aim_is; moves = record { disk_is = m.disk_is; first = m.first; count = m.count; write = m.write; carries = m.carries } })

-- the update in flight, under its stamp, and where its writes go
abbrev pub Update : Type 0
Update = Option Status × Stamp × Homes

abbrev pub update_of : Core → Update
update_of core = (core.status.in_flight, core.status.stamp, core.homes)

abbrev with_update : Core → Update → Core
with_update core p = record core { status = record core.status { in_flight = p.0; stamp = p.1 }; homes = p.2 }

pub status_still : (core now : Core) → update_of core ≡ update_of now → (disk : ℕ) (f : Flight) → IsStatusOf core disk f → IsStatusOf now disk f
status_still core now same disk f its = let w = its.writes in
    subst (λ (p : Update). IsStatusOf (with_update now p) disk f) same
    (record { status = its.status; flies = its.flies; writes = record { disk_is = w.disk_is; first = w.first; count = w.count; write = w.write; carries = w.carries } })

-- what the transfers that are out were made of, but for the copy's
abbrev pub Carried : Type 0
Carried = Log × List Open × Cached × Update

abbrev pub carried : Core → Carried
carried core = (core.history, core.requests, core.cache, update_of core)

module _ (core now : Core) (same : carried core ≡ carried now) where
  -- those of another owner than the copy stay
  transfer_but_copy : (Is : Owner → Type 0) → (Is owner.Copy → ⊥) → (who : Owner) (f : Flight) → Is who → IsTransferOf core who f → IsTransferOf now who f
  transfer_but_copy Is none who f is its = subst (λ (p : Carried). IsTransferOf (of p) who f) same (by who is its)
    where
      of : Carried → Core
      of p = record (with_update now p.3) { history = p.0; requests = p.1; cache = p.2 }

      by : (x : Owner) → Is x → IsTransferOf core x f → IsTransferOf (of (carried core)) x f
      by (owner.Data id target) is d = data_still core (of (carried core)) refl id target f d
      by (owner.Status disk) is u = status_still core (of (carried core)) refl disk f u
      by (owner.Note disk) is n = record { note = n.note; flies = n.flies; disk_is = n.disk_is; first = n.first; count = n.count; write = n.write; carries = n.carries }
      by owner.Copy is c = absurd (none is)

  pub rows_but_copy : (Is : Owner → Type 0) → (Is owner.Copy → ⊥) → (rows : List Flown) (flights : List Flight) → AllByRecursion (λ (row : Flown). Is row.owner) rows → AreRows core rows flights → AreRows now rows flights
  rows_but_copy Is none rows flights are all = rows_by core now Is (transfer_but_copy Is none) rows flights are all

  -- and with the copy all do
  pub rows_still : core.descriptor ≡ now.descriptor → core.copy ≡ now.copy → AreOwned core → (flights : List Flight) → AreRows core core.flying flights → AreRows now core.flying flights
  rows_still group copy owned flights all = rows_by core now (λ who. flies core who ≡ true) on core.flying flights (all_fly core owned) all
    where
      Other : Owner → Type 0
      Other who = same_owner owner.Copy who ≡ false

      on : (who : Owner) (f : Flight) → flies core who ≡ true → IsTransferOf core who f → IsTransferOf now who f
      on (owner.Data id target) f is its = transfer_but_copy Other not_either (owner.Data id target) f refl its
      on (owner.Status disk) f is its = transfer_but_copy Other not_either (owner.Status disk) f refl its
      on (owner.Note disk) f is its = transfer_but_copy Other not_either (owner.Note disk) f refl its
      on owner.Copy f is its = (its.0, sym copy ∙ its.1, step_still core now group its.0.step its.0 f its.2)

module _ (core : Core) (history : Log) (requests : List Open) (queue : Waiting) (pool : List Bool) (flying : List Flown) (entries : List CacheEntry) (last : List ℕ) where
  abbrev now : Core
  now = changed core history requests queue core.copy pool flying entries last

  module _ (data_on : (id target : ℕ) (f : Flight) → flies core (owner.Data id target) ≡ true → IsDataOf core id target f → IsDataOf now id target f) where
    transfer_on : (who : Owner) (f : Flight) → flies core who ≡ true → IsTransferOf core who f → IsTransferOf now who f
    transfer_on (owner.Data id target) f is its = data_on id target f is its
    transfer_on (owner.Status disk) f is its = status_still core now refl disk f its
    transfer_on (owner.Note disk) f is its = record { note = its.note; flies = its.flies; disk_is = its.disk_is; first = its.first; count = its.count; write = its.write; carries = its.carries }
    transfer_on owner.Copy f is its = (its.0, its.1, step_still core now refl its.0.step its.0 f its.2)

    pub rows_on : (rows : List Flown) (flights : List Flight) → AllByRecursion (λ (row : Flown). flies core row.owner ≡ true) rows → AreRows core rows flights → AreRows now rows flights
    rows_on rows flights fly all = rows_by core now (λ who. flies core who ≡ true) transfer_on rows flights fly all

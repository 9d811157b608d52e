-- What a request does next by the facts that it reads.
use Rattle.std.proofs.Common.{◌≡◌, Bool, true, false, ◌&&◌, ◌||◌, not, if◌then◌else◌, refl, sym, ◌∙◌, ap}
use Rattle.lvm_path.specs.passed.VolEntryOutcome as outcome
use Rattle.lvm_path.specs.declared.facts.Facts.{Facts}
use Rattle.lvm_path.specs.declared.facts.Next.{Next}
use Rattle.lvm_path.specs.declared.facts.Next.TheVariants as next
use Rattle.lvm_path.specs.declared.request.Phase.{Phase}
use Rattle.lvm_path.specs.declared.request.Phase.TheVariants as phase
use Rattle.lvm_path.specs.declared.request.Request.{Request}
use Rattle.lvm_path.specs.Asks.{is_write}
use Rattle.lvm_path.specs.Next.{next_chosen, next_in, next_of, next_read, next_write}
use Rattle.lvm_path.specs.Targets.{is_begun}

-- one that isn't admitted waits for what is pending as for what is in its way
pub held_same : (blocked pending usable : Bool) → (if (blocked || pending) || false then next.Wait else if usable then next.Admit else next.Land outcome.NoFresh) ≡ (if blocked || pending then next.Wait else if usable then next.Admit else next.Land outcome.NoFresh)
held_same blocked pending usable = ap (λ (b : Bool). if b then next.Wait else if usable then next.Admit else next.Land outcome.NoFresh) (no_more (blocked || pending))
  where
    no_more : (b : Bool) → (b || false) ≡ b
    no_more true = refl
    no_more false = refl

-- a read, and a write that has started its data, read none
pub data_same : (r : Request) (k l : Facts) → (is_write r.ask && not (is_begun r.targets.items)) ≡ false → next_in phase.Data k r ≡ next_in phase.Data l r
data_same r k l not_so = by (is_write r.ask) (is_begun r.targets.items) (next_chosen k (if k.pending then next.Wait else goes)) (next_chosen l (if l.pending then next.Wait else goes)) not_so
  where
    goes : Next
    goes = next_write r.policy r.targets.items

    by : (write begun : Bool) (x y : Next) → (write && not begun) ≡ false → (if write then (if begun then goes else x) else next_read r.targets.items) ≡ (if write then (if begun then goes else y) else next_read r.targets.items)
    by true true x y is = refl
    by true false x y is = absurd (cc is)
    by false begun x y is = refl

-- in its phase
pub by_phase : (r : Request) (k l : Facts) (p : Phase) → r.phase ≡ p → next_in p k r ≡ next_in p l r → next_of r k ≡ next_of r l
by_phase r k l p is same = ap (λ (q : Phase). next_in q k r) is ∙ same ∙ sym (ap (λ (q : Phase). next_in q l r) is)

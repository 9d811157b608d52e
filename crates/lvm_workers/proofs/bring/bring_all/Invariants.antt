use Rattle.std.proofs.Common.{◌≡◌, ℕ, ◌<◌, ◌∷◌, []}
use Rattle.lvm_num.specs.Counting.{RoseBy}
use Rattle.lvm_turn.specs.Calls.{IsIdlePass}
use Rattle.lvm_workers.specs.declared.bring.Brought.TheVariants as brought
use Rattle.lvm_workers.specs.Bringing.{MadeAt}
use Rattle.lvm_workers.specs.Knowing.{Knows}
use Rattle.lvm_workers.specs.Working.{own_of}
use Rattle.lvm_workers.proofs.bring.bring_all.Given as goal

abbrev pub invariant-loop-at : goal.invariant-loop-at
invariant-loop-at g l =
    IsIdlePass l.turn.table (l.client ∷ []) l.pass × Knows l.initial.pass.knows l.pass.knows × (own_of l.pass.knows ≡ own_of l.initial.pass.knows)
    × (l.idle < 1000000) × RoseBy l.idle (g.E.Service.waits l.initial.pass.knows.counts) (g.E.Service.waits l.pass.knows.counts)
    × ((at : ℕ) → at < l.at → MadeAt g.E.Shown.tells g.E.Past.past g.E.Shown.always g.E.Brings.brings l.initial.pass.knows l.pass.knows at brought.Next)

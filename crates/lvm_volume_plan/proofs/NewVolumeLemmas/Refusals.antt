-- What stands against a volume.
use Rattle.std.proofs.Common.{◌≡◌, ℕ, false, Option, Some, None}
use Rattle.std.specs.Prelude.{is_some, IfNone}

pub if_none : (o : Option ℕ) (P : Type 0) → IfNone o P → false ≡ is_some o → P
if_none None P holds is = holds
if_none (Some x) P holds is = absurd cc

-- The seat of a pass at its turn.
use Rattle.std.specs.Prelude.{◌≡◌}
use Rattle.atomic_table.specs.Seated.{TableId}
use Rattle.atomic_table.specs.declared.shared.Seat.{Seat}

-- the seat is at this table, which has the two words and the slot of a turn
abbrev pub AtTurn : {S V : Type 0} → TableId → Seat S V → Type 0
AtTurn id s = (s.table_id ≡ id) × (id.words ≡ 2) × (id.slots ≡ 1)

-- the same seat of the same table
abbrev pub Stays : {S V : Type 0} → Seat S V → Seat S V → Type 0
Stays s t = (t.table_id ≡ s.table_id) × (t.id ≡ s.id)

use Rattle.std.proofs.Common.{◌≡◌, ◌≤◌, ◌<◌, ◌↔◌, ℕ, List, [], inl, inr, ⊎_elim, refl, length, ap, arith}
use Rattle.std.proofs.lemmas.Bool.{cases_lt}
use Rattle.lvm_io.specs.Reading.{to_come}
use Rattle.lvm_io.proofs.StreamLemmas.Told.{told_more}
use Rattle.lvm_io.specs.declared.lines.NextLine.TheVariants as next
use Rattle.lvm_top.proofs.script.read_line.Goals as goal

-- the limit isn't passed where a line is given out
within : (line : List ℕ) (given : ℕ) → (next.Line line ≡ next.TooLong) ↔ (16777216 < given) → given ≤ 16777216
within line given too_long = elim (cases_lt 16777216 given) [ inl over ↦ absurd (let e = too_long.1 over in cc (e)) | inr fits ↦ fits ]

none_few : (block : List ℕ) → block ≡ [] → length block ≤ 0
none_few block none = let e : length block ≡ 0 = ap (λ (l : List ℕ). length l) none in omega (arith, e)

pub returns-in-Line-clause-line : goal.returns-in-Line-clause-line
returns-in-Line-clause-line g c = record {
  line_is = c.in-Line.ensures.line;
  fewer = c.in-Line.ensures.fewer;
  given = c.in-Line.ensures.given;
  within = within c.in-Line.line c.next_line.new.self.given c.in-Line.ensures.too_long;
  well = c.in-Line.ensures.well (λ is. cc (is));
}

pub returns-in-End-clause-none : goal.returns-in-End-clause-none
returns-in-End-clause-none g c = record {
  given = c.in-End.ensures.given;
  long = (λ is. absurd (cc (is)), λ over. absurd (let no = c.in-End.ensures.too_long.1 over in cc (no)));
  unwritten = λ is. cc (is);
  unstuck = λ is. cc (is);
  ends = λ is. c.in-End.ensures.line;
  wanting = λ is. absurd (cc (is));
  behind = λ is. absurd (cc (is));
  beyond = λ cause. absurd (⊎_elim (λ is. cc (is)) (λ is. cc (is)) cause);
  failed = λ is. absurd (cc (is));
  well = λ no. c.in-End.ensures.well (λ is. cc (is));
}

pub returns-in-Failed-clause-none : goal.returns-in-Failed-clause-none
returns-in-Failed-clause-none g c = record {
  given = c.in-Failed.ensures.given;
  long = (λ is. absurd (cc (is)), λ over. absurd (let no = c.in-Failed.ensures.too_long.1 over in cc (no)));
  unwritten = λ is. cc (is);
  unstuck = λ is. cc (is);
  ends = λ is. absurd (cc (is));
  wanting = λ is. absurd (cc (is));
  behind = λ is. record { same = c.in-Failed.ensures.line; clean = c.in-Failed.ensures.front.0; few = none_few c.next_line.new.self.block c.in-Failed.ensures.front.1 };
  beyond = λ cause. absurd (⊎_elim (λ is. cc (is)) (λ is. cc (is)) cause);
  failed = λ is. c.in-Failed.ensures.cause refl;
  well = λ no. absurd (no refl);
}

pub returns-in-TooLong-clause-none : goal.returns-in-TooLong-clause-none
returns-in-TooLong-clause-none g c = record {
  given = c.in-TooLong.ensures.given;
  long = (λ is. c.in-TooLong.ensures.too_long.0 refl, λ over. refl);
  unwritten = λ is. cc (is);
  unstuck = λ is. cc (is);
  ends = λ is. absurd (cc (is));
  wanting = λ is. absurd (cc (is));
  behind = λ is. absurd (cc (is));
  beyond = λ cause. record { same = c.in-TooLong.ensures.line; clean = c.in-TooLong.ensures.front.0; few = c.in-TooLong.ensures.front.1 };
  failed = λ is. absurd (cc (is));
  well = λ no. c.in-TooLong.ensures.well (λ is. cc (is));
}

pub returns-in-Memory-clause-none : goal.returns-in-Memory-clause-none
returns-in-Memory-clause-none g c = record {
  given = c.in-Memory.ensures.given;
  long = (λ is. absurd (cc (is)), λ over. absurd (let no = c.in-Memory.ensures.too_long.1 over in cc (no)));
  unwritten = λ is. cc (is);
  unstuck = λ is. cc (is);
  ends = λ is. absurd (cc (is));
  wanting = λ is. c.in-Memory.ensures.line;
  behind = λ is. absurd (cc (is));
  beyond = λ cause. record { same = told_more (to_come c.args.lines.now (g.I.Source.left c.args.input.now)) (to_come c.next_line.new.self (g.I.Source.left c.next_line.new.input)) (λ a b. (b ≡ a) × (a ≡ [] → ⊥)) (λ a b. b ≡ a) (λ a b left. left.0) c.in-Memory.ensures.line; clean = c.in-Memory.ensures.front.0; few = c.in-Memory.ensures.front.1 };
  failed = λ is. absurd (cc (is));
  well = λ no. c.in-Memory.ensures.well (λ is. cc (is));
}

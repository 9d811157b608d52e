use Rattle.std.proofs.Common.{◌≡◌, ◌<◌, ◌≤◌, ◌∙◌, ℕ, List, Option, None, sym, ap, arith, length, take}
use Rattle.std.specs.Option.{IfSome}
use Rattle.std.proofs.lemmas.Option.{IfSome_then}
use Rattle.std.proofs.lemmas.Option.{get_or_from_slice_get}
use Rattle.lvm_hold.specs.declared.queue.Row.{Row}
use Rattle.lvm_hold.specs.Waiting.{Waiting, IsInside}
use Rattle.lvm_hold.specs.Chains.{place_in, head_of, last_of}
use Rattle.lvm_hold.specs.Tails.{Items}
use Rattle.lvm_hold.proofs.PlaceLemmas.{inside_has_place}
use Rattle.lvm_hold.proofs.QueueLemmas.{left, left_rows, Leaves, length-nexts_of, length_put_next}
use Rattle.lvm_hold.proofs.queue.Queue.leave.Goals as goal

pub returns-in_default : goal.returns-in_default
returns-in_default c =
    let inside : IsInside c.self.inside.rows.items c.args.id = rw (ap (λ (w : Waiting). w.rows) c.self.view_is) c.requires in
    let none : place_in c.args.id c.self.inside.rows.items ≡ None = ap (place_in c.args.id) (sym c.as_slice.ensures) ∙ sym c.place_of.ensures.place ∙ c.in_default.is in
    absurd (inside_has_place c.self.inside.rows.items c.args.id c.self.invariant.2.ascending inside none)

pub at-row-requires : goal.at-row-requires
at-row-requires c = let lt : c.in-Some.place < length c.as_slice.result.now = c.in-Some.ensures.within in omega (arith, lt, ap length c.as_slice.ensures)

pub at-next-requires : goal.at-next-requires
at-next-requires c =
    let lt : c.in-Some.place < length c.as_slice.result.now = c.in-Some.ensures.within in
    omega (arith, lt, ap length c.as_slice.ensures, ap length c.self.invariant.2.nexts_are, length-nexts_of c.self.inside.rows.items)

within_more : (o : Option ℕ) (n m : ℕ) → IfSome o (λ p. p < n) → n ≤ m → IfSome o (λ p. p < m)
within_more o n m within le = IfSome_then o within (λ p lt. omega arith)

pub link-requires-clause-within : goal.link-requires-clause-within
link-requires-clause-within c =
    let lt : c.in-Some.place < length c.as_slice.result.now = c.in-Some.ensures.within in
    within_more c.last_before-before.result _ (length c.self.inside.nexts.items) c.last_before-before.ensures.within
    (omega (arith, lt, ap length c.as_slice.ensures, ap length c.self.invariant.2.nexts_are, length-nexts_of c.self.inside.rows.items))

pub remove-requires-in-Some : goal.remove-requires-in-Some
remove-requires-in-Some c =
    let lt : c.in-Some.place < length c.as_slice.result.now = c.in-Some.ensures.within in
    omega (arith, lt, ap (λ (t : Items (Option ℕ)). length t.items) c.link.ensures.nexts, length_put_next c.last_before-before.result c.at-next.result c.self.inside.nexts.items, ap length c.as_slice.ensures, ap length c.self.invariant.2.nexts_are, length-nexts_of c.self.inside.rows.items)

its_leave : (c : goal.After-remove-in-Some) → Leaves c.self.inside.rows.items c.self.inside.nexts.items c.args.id c.in-Some.place c.head_of-head.result c.last_before-before.result c.at-next.result
its_leave c =
    record {
      place_is = ap (place_in c.args.id) (sym c.as_slice.ensures) ∙ sym c.place_of.ensures.place ∙ c.in-Some.is;
      head_is = λ d. c.head_of-head.ensures.head ∙ ap (λ (r : Row). head_of r.ask) (sym (get_or_from_slice_get c.self.inside.rows.items c.in-Some.place c.at-row.result d c.at-row.ensures));
      within = c.head_of-head.ensures.within;
      before_is = c.last_before-before.ensures.place ∙ ap (λ (w : Waiting). last_of c.head_of-head.result (take c.in-Some.place w.rows)) (sym c.self.view_is);
      next_is = sym (get_or_from_slice_get c.self.inside.nexts.items c.in-Some.place c.at-next.result None c.at-next.ensures);
    }

pub invariant_of-self : goal.invariant_of-self
invariant_of-self c = (
  ap (λ (t : Items Row). t.room) c.remove.ensures ∙ c.self.invariant.0,
  ap (λ (t : Items (Option ℕ)). t.room) c.remove-in-Some.ensures ∙ ap (λ (t : Items (Option ℕ)). t.room) c.link.ensures.nexts ∙ c.self.invariant.1,
  rw (c.remove.ensures, c.remove-in-Some.ensures, c.link.ensures.nexts, c.link.ensures.heads)
      (left c.self.inside.rows.items c.self.inside.nexts.items c.self.inside.heads.items c.args.id c.in-Some.place c.head_of-head.result c.last_before-before.result c.at-next.result c.self.invariant.2 (its_leave c)),
)

pub returns-in-Some : goal.returns-in-Some
returns-in-Some c =
    let rows_are = left_rows c.self.inside.rows.items c.self.inside.nexts.items c.self.inside.heads.items c.args.id c.in-Some.place c.head_of-head.result c.last_before-before.result c.at-next.result c.self.invariant.2 (its_leave c) in
    rw (← c.self.view_is) (ap (λ (rs : List Row). let w : Waiting = record { room = c.self.inside.room; rows = rs } in w) (ap (λ (t : Items Row). t.items) c.remove.ensures ∙ sym rows_are))

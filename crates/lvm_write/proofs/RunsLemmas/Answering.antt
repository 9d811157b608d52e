-- The answer of one write.
use Rattle.std.proofs.Common.{◌≡◌, inl, inr, ℕ, Bool, true, false, IsTrue, IsFalse, refl, ◌∙◌, ap, subst}
use Rattle.std.specs.Prelude.{◌&&◌, not, if◌then◌else◌}
use Rattle.lvm_num.specs.declared.record.Kind.{Kind}
use Rattle.lvm_num.specs.Buffer.{Buffer}
use Rattle.lvm_num.specs.Disks.{Disks, has}
use Rattle.lvm_disk.specs.Device.{Device}
use Rattle.lvm_kept.specs.Torn.{RecordWrite, IsOfRecord}
use Rattle.lvm_num.specs.declared.record.Framed.{Framed}
use Rattle.lvm_rec.specs.declared.homes.Homes.{Homes}
use Rattle.lvm_write.specs.declared.write.Wrote.{Wrote}
use Rattle.lvm_write.specs.declared.write.Wrote.TheVariants as wrote
use Rattle.lvm_rec.specs.Homes.{second_slots, next_slot, Flips}
use Rattle.lvm_write.specs.Written.{write_of, StandsTold}
use Rattle.lvm_write.specs.Writes.{DiskWritesEnd, RecordWritesEnd}
use Rattle.lvm_write.specs.declared.begin.Begun.{Begun}
use Rattle.lvm_write.specs.declared.begin.Begun.TheVariants as begun
use Rattle.lvm_write.specs.Ends.{IfBegun}
use Rattle.lvm_write.specs.Runs.{IsAnswer, HowOne, OneGives}

-- where the write ended so, the answer says how all did
pub how_one :
    (targets : Disks) (Stands : Device → ℕ → Type 0) (Next : Disks → Type 0) (number before : ℕ) (old new : Device) (w : Wrote) (result : Begun) → IsAnswer w result → DiskWritesEnd targets Stands Next number before old new w
    → HowOne targets Stands number before old new result
how_one targets Stands Next number before old new (wrote.Ended failed buf) (begun.Ended back) answer ends = record {
  back = record { ready = ends.back.ready; cuts = ends.back.cuts; number_is = ap (λ (b : Buffer). b.number) answer.0 ∙ ends.back.number_is };
  well = λ d. (ends.each d).well (answer.1 d);
  stands = λ d target. (ends.each d).stands target (answer.1 d);
}
how_one targets Stands Next number before old new (wrote.Ended failed buf) (begun.DiskFailed disk back) answer ends = record {
  back = record { ready = ends.back.ready; cuts = ends.back.cuts; number_is = ap (λ (b : Buffer). b.number) answer.0 ∙ ends.back.number_is };
  first = record { target = (ends.each disk).target answer.1; rose = (ends.each disk).badly answer.1; lowest = λ d less. (ends.each d).well (answer.2 d less) };
  tried = λ d target. either (has failed d) (λ bad. inr ((ends.each d).badly bad)) (λ well. inl ((ends.each d).stands target well));
}
  where
    either : {A : Type 0} (b : Bool) → (IsTrue b → A) → (IsFalse b → A) → A
    either true f g = f refl
    either false f g = g refl
how_one targets Stands Next number before old new (wrote.Ended failed buf) begun.Dark answer ends = absurd answer
how_one targets Stands Next number before old new (wrote.Ended failed buf) begun.Stuck answer ends = absurd answer
how_one targets Stands Next number before old new wrote.Dark (begun.Ended back) answer ends = absurd answer
how_one targets Stands Next number before old new wrote.Dark (begun.DiskFailed disk back) answer ends = absurd answer
how_one targets Stands Next number before old new wrote.Dark begun.Dark answer ends = ends.0
how_one targets Stands Next number before old new wrote.Dark begun.Stuck answer ends = absurd answer
how_one targets Stands Next number before old new wrote.Stuck (begun.Ended back) answer ends = absurd answer
how_one targets Stands Next number before old new wrote.Stuck (begun.DiskFailed disk back) answer ends = absurd answer
how_one targets Stands Next number before old new wrote.Stuck begun.Dark answer ends = absurd answer
how_one targets Stands Next number before old new wrote.Stuck begun.Stuck answer ends = ends.0

-- ---- which slots come next

-- where none failed, all targets' slots are the other ones
pub all_flip :
    (w : RecordWrite) (first next : Homes) (number before : ℕ) (old new : Device) (how : Wrote) (result : Begun) → IsAnswer how result → RecordWritesEnd w first next number before old new how
    → IfBegun result (λ back. Flips w.kind w.targets first next)
all_flip w first next number before old new (wrote.Ended failed buf) (begun.Ended back) answer ends = record {
  own = λ d. ends.next.own d ∙ ap (λ (b : Bool). if b then not (second_slots w.kind first d) else second_slots w.kind first d) (ap (λ (b : Bool). w.targets d && not b) (answer.1 d) ∙ and_true (w.targets d));
  other = ends.next.other;
}
  where
    and_true : (b : Bool) → (b && true) ≡ b
    and_true true = refl
    and_true false = refl
all_flip w first next number before old new (wrote.Ended failed buf) (begun.DiskFailed disk back) answer ends = tt
all_flip w first next number before old new (wrote.Ended failed buf) begun.Dark answer ends = tt
all_flip w first next number before old new (wrote.Ended failed buf) begun.Stuck answer ends = tt
all_flip w first next number before old new wrote.Dark (begun.Ended back) answer ends = absurd answer
all_flip w first next number before old new wrote.Dark (begun.DiskFailed disk back) answer ends = tt
all_flip w first next number before old new wrote.Dark begun.Dark answer ends = tt
all_flip w first next number before old new wrote.Dark begun.Stuck answer ends = tt
all_flip w first next number before old new wrote.Stuck (begun.Ended back) answer ends = absurd answer
all_flip w first next number before old new wrote.Stuck (begun.DiskFailed disk back) answer ends = tt
all_flip w first next number before old new wrote.Stuck begun.Dark answer ends = tt
all_flip w first next number before old new wrote.Stuck begun.Stuck answer ends = tt

-- a write of another kind leaves the slots of this one
pub same_gives :
    (k kind : Kind) (p : Disks) (first next : Homes) (framed : Framed) (targets : Disks) (number before after : ℕ) (old new : Device) (result : Begun) → (k ≡ kind → ⊥) → Flips kind p first next
    → OneGives targets (IsOfRecord (write_of k framed targets next)) (StandsTold (write_of k framed targets next)) number before after old new result
    → OneGives targets (IsOfRecord (write_of k framed targets first)) (StandsTold (write_of k framed targets first)) number before after old new result
same_gives k kind p first next framed targets number before after old new result differ flips gives =
    let same : next_slot k next ≡ next_slot k first = λ t d. if flips.other k differ d t then 1 else 0 in
    subst (λ (slots : ℕ → ℕ). OneGives targets (IsOfRecord (record { kind = k; framed = framed; targets = targets; slots = slots })) (StandsTold (record { kind = k; framed = framed; targets = targets; slots = slots })) number before after old new result) same gives

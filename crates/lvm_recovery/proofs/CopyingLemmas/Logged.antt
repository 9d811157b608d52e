-- Ranges that are told, one transfer after another.
use Rattle.std.proofs.Common.{◌≡◌, ◌+◌, ◌-◌, Bool, true, false, List, [], ◌++◌, Option, Some, None, sym, ap, subst, ◌∙◌, append_assoc, arith, All}
use Rattle.std.proofs.lemmas.List.{append_cancel_left, append-nil}
use Rattle.std.specs.Bool.{MatchBool}
use Rattle.std.proofs.lemmas.List.Elements.{All-nil, All-weaker, All-append}
use Rattle.lvm_num.specs.declared.place.Place.{Place}
use Rattle.lvm_num.specs.Buffer.{Buffer}
use Rattle.lvm_disk.specs.Device.{Range}
use Rattle.lvm_disk.specs.Steps.{Logs}
use Rattle.lvm_kept.specs.Plans.{Plan}
use Rattle.lvm_write.specs.Written.{IsInPlan, LogsPlan}
use Rattle.lvm_recovery.specs.Copying.{IsInRun, IsOfStep, LogsJust, LogsOnly, run_at, step_ranges}

-- what a step may bring is told as a part of its run, and of a read nothing is
pub in_run : (write : Bool) (place : Place) (buf : Buffer) (range : Range) → IsInPlan (IsOfStep write place buf) range → (write ≡ true) × IsInRun place range
in_run write place buf range inside =
    let some = inside.0 in
    let first = inside.1 range.first (omega arith) (omega (arith, some)) in
    let last = inside.1 (range.first + range.count - 1) (omega (arith, some)) (omega (arith, some)) in
    let at_first = first.1.at.sector in
    let at_last = last.1.at.sector in
    let below = last.1.at.inside in
    (first.1.writes, record { disk = first.1.at.disk; low = omega (arith, at_first); some = some; high = omega (arith, at_last, below, some) })

pub only_planned : (P : Plan) (Q : Range → Type 0) (a b : Option (List Range)) → ((range : Range) → IsInPlan P range → Q range) → LogsPlan P a b → LogsOnly Q a b
only_planned P Q None None more one = tt
only_planned P Q None (Some b) more one = absurd one
only_planned P Q (Some a) None more one = tt
only_planned P Q (Some a) (Some b) more one = (one.0, one.1, All-weaker (IsInPlan P) Q more one.0 one.2)

pub only_wider : (P Q : Range → Type 0) (a b : Option (List Range)) → ((range : Range) → P range → Q range) → LogsOnly P a b → LogsOnly Q a b
only_wider P Q None None more one = tt
only_wider P Q None (Some b) more one = absurd one
only_wider P Q (Some a) None more one = tt
only_wider P Q (Some a) (Some b) more one = (one.0, one.1, All-weaker P Q more one.0 one.2)

pub only_none : (Q : Range → Type 0) (a : Option (List Range)) → LogsOnly Q a a
only_none Q None = tt
only_none Q (Some a) = ([], sym (append-nil a), All-nil Q)

pub only_then : (Q : Range → Type 0) (a b c : Option (List Range)) → LogsOnly Q a b → LogsOnly Q b c → LogsOnly Q a c
only_then Q None None None one two = tt
only_then Q None None (Some c) one two = absurd two
only_then Q None (Some b) c one two = absurd one
only_then Q (Some a) None None one two = tt
only_then Q (Some a) None (Some c) one two = absurd two
only_then Q (Some a) (Some b) None one two = tt
only_then Q (Some a) (Some b) (Some c) one two = (one.0 ++ two.0, two.1 ∙ ap (λ (l : List Range). l ++ two.0) one.1 ∙ append_assoc a one.0 two.0, All-append Q one.0 two.0 one.2 two.2)

-- those that are told between two lists that are told
pub only_told : (Q : Range → Type 0) (a b : Option (List Range)) (first more : List Range) → a ≡ Some first → b ≡ Some (first ++ more) → LogsOnly Q a b → All Q more
only_told Q None b first more e f logs = absurd cc
only_told Q (Some x) None first more e f logs = absurd cc
only_told Q (Some x) (Some y) first more e f logs =
    let same : x ≡ first = cc in
    let all : y ≡ first ++ more = cc in
    let it : logs.0 ≡ more = append_cancel_left first logs.0 more (ap (λ (z : List Range). z ++ logs.0) (sym same) ∙ sym logs.1 ∙ all) in
    subst (All Q) it logs.2

-- ---- just these ranges

pub just_none : (a b : Option (List Range)) → b ≡ a → LogsJust [] a b
just_none None None same = tt
just_none None (Some b) same = absurd cc
just_none (Some a) None same = tt
just_none (Some a) (Some b) same = let e : b ≡ a = cc in e ∙ sym (append-nil a)

pub just_step : (write : Bool) (place : Place) (a b : Option (List Range)) → MatchBool write (Logs a (run_at place) b) (b ≡ a) → LogsJust (step_ranges write place) a b
just_step true place None None one = tt
just_step true place None (Some b) one = absurd one
just_step true place (Some a) None one = tt
just_step true place (Some a) (Some b) one = one
just_step false place a b one = just_none a b one

pub just_then : (x y : List Range) (a b c : Option (List Range)) → LogsJust x a b → LogsJust y b c → LogsJust (x ++ y) a c
just_then x y None None None one two = tt
just_then x y None None (Some c) one two = absurd two
just_then x y None (Some b) c one two = absurd one
just_then x y (Some a) None None one two = tt
just_then x y (Some a) None (Some c) one two = absurd two
just_then x y (Some a) (Some b) None one two = tt
just_then x y (Some a) (Some b) (Some c) one two = two ∙ ap (λ (l : List Range). l ++ y) one ∙ append_assoc a x y

-- behind nothing
pub just_first : (y : List Range) (a b c : Option (List Range)) → LogsJust [] a b → LogsJust y b c → LogsJust y a c
just_first y a b c one two = just_then [] y a b c one two

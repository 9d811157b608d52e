-- How the lines of a run follow each other.
use Rattle.std.proofs.Common.{◌≡◌, ◌↔◌, inl, inr, ◌++◌, ℕ, List, [], Option, Some, None, Bool, true, false, IfSome, Result, Ok, Err, is_err, OnOk, OnErr, refl, sym, subst}
use Rattle.std.proofs.lemmas.List.{append-nil}
use Rattle.lvm_io.specs.Count.{Rose}
use Rattle.lvm_io.specs.Stream.{WhereTold, WritesFront}
use Rattle.lvm_vol.specs.Log.{Log}
use Rattle.lvm_core.specs.declared.parts.Room.{Room}
use Rattle.lvm_parse.specs.Grammar.{line_of}
use Rattle.lvm_line.specs.Lines.{IsLine, asked_after}
use Rattle.lvm_line.specs.passed.GroupLines.{IsStuck, ScriptState, Reply}
use Rattle.lvm_line.specs.passed.RefusalVariants as refusal
use Rattle.lvm_line.specs.passed.ReplyVariants as reply
use Rattle.std.specs.Prelude.{IsTrue, is_some}
use Rattle.lvm_line.proofs.CausesLemmas.Causing.{stuck_off}
use Rattle.lvm_top.specs.declared.script.Stop.{Stop}
use Rattle.lvm_top.specs.declared.script.Stop.TheVariants as stop
use Rattle.lvm_top.specs.Script.{Passage, stream}
use Rattle.lvm_top.specs.Turn.{Wrote, EndsFor, stop_after}

-- where a line answers that nothing was heard, no group is on
pub stuck_is_off : (log : Log) (room : Room) (line : List ℕ) (old new : ScriptState) (answer : Reply) → IsLine log room line answer old new → IsStuck answer → new.session ≡ None
stuck_is_off log room line old new answer it stuck = let same : IsLine log room line (reply.Refused refusal.Stuck) old new = subst (λ (a : Reply). IsLine log room line a old new) stuck it in stuck_off log room _ old new same.between same.does

-- a line of one history is one of another with the same rooms
pub renamed : (h k : Log) (room : Room) (line line' : List ℕ) (answer : Reply) (old new : ScriptState) → h ≡ k → line ≡ line' → IsLine h room line answer old new → IsLine k room line' answer old new
renamed h k room line line' answer old new same is it = subst (λ (l : List ℕ). IsLine k room l answer old new) is (subst (λ (l : Log). IsLine l room line answer old new) same it)

pub asked_renamed : (line line' : List ℕ) (asked before : ℕ) → line ≡ line' → asked ≡ asked_after (line_of line) before → asked ≡ asked_after (line_of line') before
asked_renamed line line' asked before is it = subst (λ (l : List ℕ). asked ≡ asked_after (line_of l) before) is it

wrote_part : (text : List ℕ) (before after : Option (List ℕ)) (faults later : ℕ) → WhereTold before after (λ a b. WritesFront text a b) → Rose faults later → Wrote text (record { before = stream before faults; after = stream after later })
wrote_part text None None faults later told rose = record { front = []; rest = text; split = refl; written = tt; in_full = inr rose }
wrote_part text (Some a) (Some b) faults later told rose = record { front = told.front; rest = told.rest; split = told.split; written = told.written; in_full = inr rose }
wrote_part text None (Some b) faults later told rose = absurd told
wrote_part text (Some a) None faults later told rose = absurd told

pub wrote : {E : Type 0} (r : Result (Unit {0}) E) (text : List ℕ) (before after : Option (List ℕ)) (faults later : ℕ)
    → OnOk r (WhereTold before after (λ a b. b ≡ a ++ text)) → OnErr r (WhereTold before after (λ a b. WritesFront text a b)) → OnErr r (Rose faults later) → Wrote text (record { before = stream before faults; after = stream after later })
wrote (Ok u) text before after faults later whole part cause = record { front = text; rest = []; split = sym (append-nil text); written = whole; in_full = inl refl }
wrote (Err e) text before after faults later whole part cause = wrote_part text before after faults later part cause

-- the sink took it all
pub took_all : {E : Type 0} (r : Result (Unit {0}) E) (P : Type 0) → is_err r ≡ false → OnOk r P → P
took_all (Ok u) P is p = p
took_all (Err e) P is p = absurd (cc (is))

-- the sink failed
pub failed : {E : Type 0} (r : Result (Unit {0}) E) (P : Type 0) → is_err r ≡ true → OnErr r P → P
failed (Ok u) P is p = absurd (cc (is))
failed (Err e) P is p = p

-- ---- why the run ends with a line

-- nothing was heard just where that is why,
pub stops_stuck : (stuck fails : Bool) (why : Option Stop) (Unheard : Type 0) → IsTrue stuck ↔ Unheard → why ≡ stop_after stuck fails → (why ≡ Some stop.Stuck) ↔ Unheard
stops_stuck true fails why Unheard both is = (λ stuck. both.0 refl, λ unheard. is)
stops_stuck false true why Unheard both is = (λ stuck. absurd (let its : why ≡ Some stop.SinkFault = is in cc (stuck, its)), λ unheard. absurd (let no = both.1 unheard in cc (no)))
stops_stuck false false why Unheard both is = (λ stuck. absurd (let its : why ≡ None = is in cc (stuck, its)), λ unheard. absurd (let no = both.1 unheard in cc (no)))

-- it goes on only where the sink took it all,
pub goes_only : (stuck fails : Bool) (why : Option Stop) → why ≡ stop_after stuck fails → why ≡ None → fails ≡ false
goes_only true fails why is none = absurd (let its : why ≡ Some stop.Stuck = is in cc (its, none))
goes_only false true why is none = absurd (let its : why ≡ Some stop.SinkFault = is in cc (its, none))
goes_only false false why is none = refl

-- and ends for no third reason
pub ends_for : (stuck fails : Bool) (why : Option Stop) (output : Passage) → why ≡ stop_after stuck fails → (fails ≡ true → Rose output.before.faults output.after.faults) → IfSome why (EndsFor output)
ends_for true fails why output is rose = subst (λ (w : Option Stop). IfSome w (EndsFor output)) (sym is) (inl refl)
ends_for false true why output is rose = subst (λ (w : Option Stop). IfSome w (EndsFor output)) (sym is) (inr (refl, rose refl))
ends_for false false why output is rose = subst (λ (w : Option Stop). IfSome w (EndsFor output)) (sym is) tt

-- the run goes on
pub ended_not : (why : Option Stop) → is_some why ≡ false → why ≡ None
ended_not None none = refl
ended_not (Some w) none = absurd (cc (none))

pub no_end : (why : Option Stop) → is_some why ≡ false → why ≡ Some stop.Stuck → ⊥
no_end None none is = cc (is)
no_end (Some w) none is = cc (none)

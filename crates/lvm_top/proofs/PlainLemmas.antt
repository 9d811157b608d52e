-- What a run upholds by the bytes of its script and the disks at entry.
use Rattle.std.proofs.Common.{◌≡◌, inl, ⊎_elim, ℕ, List, [], ◌∷◌, ◌++◌, Bool, true, false, if◌then◌else◌, Some, refl, sym, subst, ap}
use Rattle.std.specs.Prelude.{codes}
use Rattle.std.proofs.lemmas.List.{append_assoc}
use Rattle.lvm_num.specs.Among.{IsOneOf}
use Rattle.lvm_num.proofs.AmongLemmas.{one_of_left, one_of_right}
use Rattle.lvm_io.specs.Lines.{is_feed, last_line, lines_from, lines_of}
use Rattle.lvm_vol.specs.Log.{Log}
use Rattle.lvm_steps.specs.Moments.{IsUpheld}
use Rattle.lvm_core.specs.declared.parts.Room.{Room}
use Rattle.lvm_parse.specs.Forced.{HasNowhere}
use Rattle.lvm_parse.proofs.ForcedLemmas.{Stands, force_is_spelled, stands_behind, stands_within}
use Rattle.lvm_line.specs.passed.GroupLines.{Reply, ScriptState}
use Rattle.lvm_top.specs.OneGroup.{AreUnforced, EndsUnforced, IsUnforced, RanUnforced}
use Rattle.lvm_top.specs.Plain.{UpholdsPlainly, BlankHoldsOneGroup}
use Rattle.lvm_top.specs.Run.{Run, IsRun}
use Rattle.lvm_top.specs.Script.{AtLine, Ends, InLine, NextLine, NoLine, Script, facts_of}
use Rattle.lvm_top.proofs.MomentsLemmas.{told_behind, told_earlier}
use Rattle.lvm_top.proofs.OneGroupLemmas.{blank_finds_one, unforced_runs_alone}
use Rattle.lvm_top.proofs.ScriptLemmas.Concluding.{run_upheld}

-- ---- the lines stand in the bytes

last_stands : (front line : List ℕ) → IsOneOf (last_line front) line → Stands line (front ++ [])
last_stands [] line one = absurd one
last_stands (b ∷ front) line one = ⊎_elim (λ (same : line ≡ b ∷ front). ([], ([], ap (λ (l : List ℕ). l ++ []) (sym same)))) (λ none. absurd none) one

line_stands : (front bytes line : List ℕ) → IsOneOf (lines_from front bytes) line → Stands line (front ++ bytes)
line_stands front [] line one = last_stands front line one
line_stands front (byte ∷ bytes) line one = by_feed (is_feed byte) (line_stands [] bytes line) (line_stands (front ++ byte ∷ []) bytes line) one
  where
    by_feed : (t : Bool) → (IsOneOf (lines_from [] bytes) line → Stands line bytes) → (IsOneOf (lines_from (front ++ byte ∷ []) bytes) line → Stands line ((front ++ byte ∷ []) ++ bytes))
        → IsOneOf (if t then front ∷ lines_from [] bytes else lines_from (front ++ byte ∷ []) bytes) line → Stands line (front ++ byte ∷ bytes)
    by_feed true next same at = ⊎_elim
        (λ (here : line ≡ front). ([], (byte ∷ bytes, ap (λ (l : List ℕ). l ++ byte ∷ bytes) (sym here))))
        (λ (there : IsOneOf (lines_from [] bytes) line). stands_behind front line (byte ∷ bytes) (stands_behind (byte ∷ []) line bytes (next there)))
        at
    by_feed false next same at = subst (λ (l : List ℕ). Stands line l) (append_assoc front (byte ∷ []) bytes) (same at)

-- so none is a `mkvg -f`, where the bytes have no `-f`
line_unforced : (bytes line : List ℕ) → HasNowhere (codes "-f") bytes → IsOneOf (lines_of bytes) line → IsUnforced line
line_unforced bytes line nowhere one = force_is_spelled line (λ before after is. let it = stands_within (codes "-f") line bytes (before, (after, is)) (line_stands [] bytes line one) in nowhere it.0 it.1.0 it.1.1)

-- ---- the lines of a run

script_unforced : {log : Log} {room : Room} {first : ScriptState} {lines : List (List ℕ)} {replies : List Reply} {last : ScriptState} (script : Script log room first lines replies last) → ((line : List ℕ) → IsOneOf lines line → IsUnforced line) → AreUnforced script
script_unforced NoLine each = tt
script_unforced (NextLine {lines = lines} line answer said heard says before it) each =
    (script_unforced before (λ l one. each l (one_of_left lines (line ∷ []) l one)), each line (one_of_right lines (line ∷ []) line (inl refl)))

ends_unforced : {log : Log} {room : Room} {mid last : ScriptState} {done : List (List ℕ)} {said : List Reply} {front : List ℕ} (ends : Ends log room mid last done said front) → ((line : List ℕ) → IsOneOf done line → IsUnforced line) → EndsUnforced ends
ends_unforced (AtLine same) each = tt
ends_unforced (InLine line answer said front rest says split it) each = each line (inl refl)

-- each is one of the script's
line_of_run : (r : Run) (ran : IsRun r) (bytes : List ℕ) → r.input.before.content ≡ Some bytes → HasNowhere (codes "-f") bytes → (line : List ℕ) → IsOneOf (ran.lines.lines ++ ran.lines.done) line → IsUnforced line
line_of_run r ran bytes told nowhere line one =
    let read = ran.lines.read bytes told in
    line_unforced bytes line nowhere (subst (λ (ls : List (List ℕ)). IsOneOf ls line) (sym read.1) (one_of_left (ran.lines.lines ++ ran.lines.done) read.0 line one))

pub ran_unforced : (r : Run) (ran : IsRun r) (bytes : List ℕ) → r.input.before.content ≡ Some bytes → HasNowhere (codes "-f") bytes → RanUnforced ran
ran_unforced r ran bytes told nowhere = (
  script_unforced ran.lines.script (λ line one. line_of_run r ran bytes told nowhere line (one_of_left ran.lines.lines ran.lines.done line one)),
  ends_unforced ran.lines.ends (λ line one. line_of_run r ran bytes told nowhere line (one_of_right ran.lines.lines ran.lines.done line one)),
)

-- what it upholds
pub plainly : (r : Run) → IsRun r → UpholdsPlainly r.input.before.content r.named r.entry r.exit (facts_of r.history)
plainly r ran bytes told nowhere holds past earlier =
    let alone = unforced_runs_alone r ran past holds.few ran.ready holds.before earlier holds.one (ran_unforced r ran bytes told nowhere) in
    let upheld : IsUpheld r.named r.entry r.exit (facts_of r.history) = run_upheld r ran alone holds.before in
    (upheld.legal past earlier, upheld.kept past earlier)

pub blank_holds_one_group : BlankHoldsOneGroup
blank_holds_one_group run entry few blank =
    (record { few = few; one = blank_finds_one entry blank; before = told_behind run entry blank }, told_earlier run entry blank)

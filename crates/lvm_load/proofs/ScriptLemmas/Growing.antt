-- The script request by request.
use Rattle.std.proofs.Common.{◌≡◌, ℕ, zero, suc, ◌+◌, ◌-◌, ◌<◌, Bool, true, false, cond, List, [], ◌++◌, Option, length, refl, sym, ap, subst, ◌∙◌, arith, append_assoc, length-append, add-one}
use Rattle.std.proofs.lemmas.List.{append-nil}
use Rattle.std.specs.Prelude.{codes, Result, Ok, Err, OnOk, OnErr, is_err}
use Rattle.rand_pcg.specs.Lcg.{Lcg}
use Rattle.lvm_io.specs.Stream.{WhereTold, WritesFront}
use Rattle.lvm_workers.specs.declared.words.Draw.{Draw}
use Rattle.lvm_workers.specs.Draws.{after_draw, after_draws, draw_at, is_write, seeded}
use Rattle.lvm_load.specs.Script.{IsWrittenUpTo, head_text, hex_word, line_text, range_text, script_text}
use Rattle.lvm_load.proofs.ScriptLemmas.Writing.{added, front_of_longer, front_onward, gathered, none_left, onward, unwritten}

-- the line of the request behind so many
abbrev pub line_behind : ℕ → ℕ → List ℕ
line_behind seed k = line_text (k + 1) (draw_at (after_draws k (seeded seed)))

pub script-zero : (seed : ℕ) → script_text seed 0 ≡ head_text
unfolding script_text
script-zero seed = refl

pub script-more : (seed k : ℕ) → script_text seed (k + 1) ≡ script_text seed k ++ line_behind seed k
unfolding script_text
script-more seed k = ap (script_text seed) (add-one k)

-- a longer script goes on where a shorter one ends
pub script_goes_on : (seed k n more : ℕ) → n ≡ k + more → (behind : List ℕ) × (script_text seed n ≡ script_text seed k ++ behind)
script_goes_on seed k n zero is = let e : n ≡ k = omega (arith, is) in ([], ap (script_text seed) e ∙ sym (append-nil (script_text seed k)))
script_goes_on seed k n (suc more) is =
    let before = script_goes_on seed k (k + more) more refl in
    let e : n ≡ k + more + 1 = omega (arith, is) in (
      before.0 ++ line_behind seed (k + more),
      ap (script_text seed) e ∙ script-more seed (k + more) ∙ ap (λ (l : List ℕ). l ++ line_behind seed (k + more)) before.1 ∙ append_assoc (script_text seed k) before.0 (line_behind seed (k + more)),
    )

-- each line has a byte
some_bytes : (write : Bool) (text tail : List ℕ) → 0 < length (cond write (codes "wr genlv " ++ text) (codes "rd genlv " ++ tail))
some_bytes true text tail = omega (arith, length-append (codes "wr genlv ") text)
some_bytes false text tail = omega (arith, length-append (codes "rd genlv ") tail)

pub line_is_long : (number : ℕ) (d : Draw) → 0 < length (line_text number d)
line_is_long number d = some_bytes (is_write d) (range_text d ++ codes " " ++ hex_word number ++ codes "\n") (range_text d ++ codes "\n")

-- ---- what stands between two requests

-- so many were drawn and their lines gathered, and some of the script was written, without a fault
pub record HasScript (seed k : ℕ) (rest : List ℕ) (rng : Lcg) (old new : Option (List ℕ)) (faults faults1 : ℕ) : Type 0 where
  pub drawn : rng ≡ after_draws k (seeded seed)
  pub lines : IsWrittenUpTo (script_text seed k) rest old new
  pub well : faults1 ≡ faults

pub begins : (seed : ℕ) (text : List ℕ) (rng : Lcg) (told : Option (List ℕ)) (faults : ℕ) → text ≡ head_text → rng ≡ seeded seed → HasScript seed 0 text rng told told faults faults
begins seed text rng told faults head seeds = record {
  drawn = seeds;
  lines = subst (λ (l : List ℕ). IsWrittenUpTo l text told told) (head ∙ sym (script-zero seed)) (gathered text told);
  well = refl;
}

module _ (seed k : ℕ) (rest line : List ℕ) (rng : Lcg) (old mid : Option (List ℕ)) (faults faults1 : ℕ) (so_far : HasScript seed k rest rng old mid faults faults1) where
  -- the line of the next request
  its_line : line ≡ line_text (k + 1) (draw_at rng) → line ≡ line_behind seed k
  its_line is = is ∙ ap (λ (g : Lcg). line_text (k + 1) (draw_at g)) so_far.drawn

  -- it is gathered too
  with_line : line ≡ line_text (k + 1) (draw_at rng) → IsWrittenUpTo (script_text seed (k + 1)) (rest ++ line) old mid
  with_line is = subst (λ (l : List ℕ). IsWrittenUpTo l (rest ++ line) old mid) (ap (λ (l : List ℕ). script_text seed k ++ l) (its_line is) ∙ sym (script-more seed k)) (added (script_text seed k) rest line old mid so_far.lines)

  pub one_more : (text next : List ℕ) (after : Lcg) (new : Option (List ℕ)) (faults2 : ℕ) → text ≡ rest ++ line → line ≡ line_text (k + 1) (draw_at rng) → after ≡ after_draw rng
      → IsWrittenUpTo text next mid new → faults2 ≡ faults1 → HasScript seed (k + 1) next after old new faults faults2
  one_more text next after new faults2 is its moved writes well = record {
    drawn = moved ∙ ap after_draw so_far.drawn ∙ sym (ap (λ n. after_draws n (seeded seed)) (add-one k));
    lines = onward (script_text seed (k + 1)) text next old mid new (subst (λ (l : List ℕ). IsWrittenUpTo (script_text seed (k + 1)) l old mid) (sym is) (with_line its)) writes;
    well = well ∙ so_far.well;
  }

  -- a front of the script was written, where the sink failed behind the next line
  pub front_at_fault : (n : ℕ) (text : List ℕ) (new : Option (List ℕ)) → k < n → text ≡ rest ++ line → line ≡ line_text (k + 1) (draw_at rng) → WhereTold mid new (λ a b. WritesFront text a b)
      → WhereTold old new (λ a b. WritesFront (script_text seed n) a b)
  front_at_fault n text new less is its front =
      let behind = script_goes_on seed (k + 1) n (n - (k + 1)) (omega arith) in
      subst (λ (l : List ℕ). WhereTold old new (λ a b. WritesFront l a b)) (sym behind.1)
      (front_of_longer (script_text seed (k + 1)) behind.0 old new
      (front_onward (script_text seed (k + 1)) text old mid new (subst (λ (l : List ℕ). IsWrittenUpTo (script_text seed (k + 1)) l old mid) (sym is) (with_line its)) front))

-- a front of the script was written, where no memory was found for the next line
pub front_at_want : (seed k n : ℕ) (rest : List ℕ) (rng : Lcg) (old new : Option (List ℕ)) (faults faults1 : ℕ) → HasScript seed k rest rng old new faults faults1 → k < n
    → WhereTold old new (λ a b. WritesFront (script_text seed n) a b)
front_at_want seed k n rest rng old new faults faults1 so_far less =
    let behind = script_goes_on seed (k + 1) n (n - (k + 1)) (omega arith) in
    let line = line_behind seed k in
    let lines : IsWrittenUpTo (script_text seed (k + 1)) (rest ++ line) old new =
    subst (λ (l : List ℕ). IsWrittenUpTo l (rest ++ line) old new) (sym (script-more seed k)) (added (script_text seed k) rest line old new so_far.lines) in
    let long = line_is_long (k + 1) (draw_at (after_draws k (seeded seed))) in
    subst (λ (l : List ℕ). WhereTold old new (λ a b. WritesFront l a b)) (sym behind.1)
    (front_of_longer (script_text seed (k + 1)) behind.0 old new
    (unwritten (script_text seed (k + 1)) (rest ++ line) old new lines (omega (arith, length-append rest line, long))))

-- all of it was written
pub ends : (seed n k : ℕ) (rest next : List ℕ) (rng : Lcg) (old mid new : Option (List ℕ)) (faults faults1 : ℕ) → HasScript seed k rest rng old mid faults faults1 → k ≡ n → next ≡ [] → IsWrittenUpTo rest next mid new
    → WhereTold old new (λ a b. b ≡ a ++ script_text seed n)
ends seed n k rest next rng old mid new faults faults1 so_far is none writes =
    none_left (script_text seed n) old new (subst (λ (l : List ℕ). IsWrittenUpTo (script_text seed n) l old new) none
    (onward (script_text seed n) rest next old mid new (subst (λ (m : ℕ). IsWrittenUpTo (script_text seed m) rest old mid) is so_far.lines) writes))

pub front_at_end : (seed n k : ℕ) (rest : List ℕ) (rng : Lcg) (old mid new : Option (List ℕ)) (faults faults1 : ℕ) → HasScript seed k rest rng old mid faults faults1 → k ≡ n → WhereTold mid new (λ a b. WritesFront rest a b)
    → WhereTold old new (λ a b. WritesFront (script_text seed n) a b)
front_at_end seed n k rest rng old mid new faults faults1 so_far is front =
    front_onward (script_text seed n) rest old mid new (subst (λ (m : ℕ). IsWrittenUpTo (script_text seed m) rest old mid) is so_far.lines) front

-- ---- at the beginning

head_is_long : (tail : List ℕ) → 0 < length (head_text ++ tail)
head_is_long tail = omega (arith, length-append head_text tail)

script_is_long : (seed n : ℕ) → 0 < length (script_text seed n)
script_is_long seed n =
    let behind = script_goes_on seed 0 n n (omega arith) in
    subst (λ (l : List ℕ). 0 < length l) (sym (behind.1 ∙ ap (λ (l : List ℕ). l ++ behind.0) (script-zero seed))) (head_is_long behind.0)

-- nothing of it was written
pub front_at_first : (seed n : ℕ) (told : Option (List ℕ)) → WhereTold told told (λ a b. WritesFront (script_text seed n) a b)
front_at_first seed n told = unwritten (script_text seed n) (script_text seed n) told told (gathered (script_text seed n) told) (script_is_long seed n)

-- ---- what a result says

pub ok_of : {E : Type 0} (r : Result (Unit {0}) E) (P : Type 0) → is_err r ≡ false → OnOk r P → P
ok_of (Ok done) P is p = p
ok_of (Err why) P is p = absurd (cc is)

pub err_of : {E : Type 0} (r : Result (Unit {0}) E) (P : Type 0) → is_err r ≡ true → OnErr r P → P
err_of (Ok done) P is p = absurd (cc is)
err_of (Err why) P is p = p

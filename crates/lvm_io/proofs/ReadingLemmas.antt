-- Lines that are being read.
use Rattle.std.proofs.Common.{◌≡◌, inl, inr, ◌≤◌, ◌++◌, ◌∷◌, [], ℕ, List, Option, Some, None, Ok, Err, false, length, refl, sym, ◌∙◌, ap, subst, append_assoc}
use Rattle.lvm_num.specs.declared.Memory.{Memory}
use Rattle.std.proofs.lemmas.List.{append-nil}
use Rattle.lvm_io.specs.Stream.{WhereTold}
use Rattle.lvm_io.specs.Lines.{TakesFirst, has_feed}
use Rattle.lvm_io.specs.Reading.{Reading, to_come, lines_left, CountsGiven, LeavesFront, TakesLine, TakesLast, NextGives}
use Rattle.lvm_io.specs.declared.lines.NextLine.{NextLine}
use Rattle.lvm_io.specs.declared.lines.NextLine.TheVariants as next

-- nothing was given out yet
pub record LinesSoFar (old now : Reading) (before left : Option (List ℕ)) (faults later : ℕ) : Type 0 where
  pub same : WhereTold (to_come old before) (to_come now left) (λ a b. b ≡ a)
  pub given : CountsGiven old now before left
  pub faults_stay : later ≡ faults
  pub fewer : lines_left now ≤ lines_left old

pub same_reading : (front block front' block' : List ℕ) (given given' : ℕ) → front ≡ front' → block ≡ block' → given ≡ given' → let made : List ℕ → List ℕ → ℕ → Reading = λ f b g. record { front = f; block = b; given = g } in made front block given ≡ made front' block' given'
same_reading front block front' block' given given' f b g = cc

-- the bytes that a reading gives out as its next line
split_line : (line front tail block rest left : List ℕ) → block ≡ tail ++ 10 ∷ rest → line ≡ front ++ tail → front ++ (block ++ left) ≡ line ++ 10 ∷ (rest ++ left)
split_line line front tail block rest left split is = rw (split, is) (simp append_assoc)

pub line_given : (first old new : Reading) (before left : Option (List ℕ)) (line : List ℕ) → WhereTold (to_come first before) (to_come old left) (λ a b. b ≡ a) → TakesLine old new (Ok (Some line)) → WhereTold (to_come first before) (to_come new left) (TakesFirst line)
line_given first old new None None line same takes = tt
line_given first old new (Some before) (Some left) line same (tail, split, is, clean, after) =
    (clean, inl (sym same ∙ split_line line old.front tail old.block new.block left split is ∙ ap (λ (l : List ℕ). line ++ 10 ∷ (l ++ (new.block ++ left))) (sym (ap (λ (r : Reading). r.front) after))))
line_given first old new None (Some left) line same takes = absurd same
line_given first old new (Some before) None line same takes = absurd same

-- no line feed and no other byte stands in the block of a reading of which nothing is to come
block_of_none : (front block left : List ℕ) → front ++ (block ++ left) ≡ [] → block ≡ []
block_of_none [] [] left is = refl
block_of_none [] (byte ∷ block) left is = absurd (cc (is))
block_of_none (byte ∷ front) block left is = absurd (cc (is))

-- memory was wanting for a line that has begun
pub line_wanted : (first old new : Reading) (before left : Option (List ℕ)) (want : Memory) → WhereTold (to_come first before) (to_come old left) (λ a b. b ≡ a) → TakesLine old new (Err want) → NextGives (to_come first before) (to_come new left) next.Memory
line_wanted first old new None None want same takes = tt
line_wanted first old new (Some before) (Some left) want same (stays, some) =
    (ap (λ (r : Reading). r.front ++ (r.block ++ left)) stays ∙ same, λ none. some (block_of_none old.front old.block left (same ∙ none)))
line_wanted first old new None (Some left) want same takes = absurd same
line_wanted first old new (Some before) None want same takes = absurd same

-- what is left at the end of the source
none_left : (front block left whole : List ℕ) → left ≡ [] → whole ≡ front ++ block → front ++ (block ++ left) ≡ whole
none_left front block left whole none is = rw (none, append-nil) (sym is)

nothing : (front block left : List ℕ) → front ≡ [] → block ≡ [] → left ≡ [] → front ++ (block ++ left) ≡ []
nothing front block left f b l = rw (f, b, l)

pub last_given : (first old mid now new : Reading) (before left after : Option (List ℕ)) (answer : NextLine) → WhereTold (to_come first before) (to_come old left) (λ a b. b ≡ a) → TakesLine old mid (Ok None) → now ≡ mid → WhereTold left after (λ a b. (a ≡ []) × (b ≡ [])) → TakesLast now new answer → NextGives (to_come first before) (to_come new after) answer
last_given first old mid now new None None None (next.Line line) same takes stays ends last = tt
last_given first old mid now new None None None next.End same takes stays ends last = tt
last_given first old mid now new (Some before) (Some left) (Some after) (next.Line line) same takes stays ends last =
    let front_is : now.front ≡ old.front ++ old.block = cc in
    let block_is : now.block ≡ [] = cc in
    let clean : has_feed line ≡ false = rw (last.0, stays) takes.0 in
    let all : old.front ++ (old.block ++ left) ≡ line = none_left old.front old.block left line ends.0 (last.0 ∙ front_is) in
    let rest : new.front ++ (new.block ++ after) ≡ [] = nothing new.front new.block after (cc) (cc) ends.1 in
    (clean, inr (sym same ∙ all, rest, last.1))
last_given first old mid now new (Some before) (Some left) (Some after) next.End same takes stays ends last =
    let front_is : now.front ≡ old.front ++ old.block = cc in
    (sym same ∙ none_left old.front old.block left [] ends.0 (sym last.0 ∙ front_is), nothing new.front new.block after (cc) (cc) ends.1)
last_given first old mid now new None (Some left) after answer same takes stays ends last = absurd same
last_given first old mid now new (Some before) None after answer same takes stays ends last = absurd same
last_given first old mid now new None None (Some after) answer same takes stays ends last = absurd ends
last_given first old mid now new (Some before) (Some left) None answer same takes stays ends last = absurd ends
last_given first old mid now new before left after next.Failed same takes stays ends last = absurd last
last_given first old mid now new before left after next.TooLong same takes stays ends last = absurd last
last_given first old mid now new before left after next.Memory same takes stays ends last = absurd last

-- nothing is left of what was read but the front of a line
pub front_left : (old mid now : Reading) → TakesLine old mid (Ok None) → now ≡ mid → LeavesFront now next.Failed
front_left old mid now (clean, is) stays = subst (λ (r : Reading). LeavesFront r next.Failed) (sym stays) (clean, ap (λ (r : Reading). r.block) is)

-- that and the block, where nothing was taken
pub front_stays : (old new : Reading) (want : Memory) → TakesLine old new (Err want) → has_feed old.front ≡ false → length old.block ≤ 65536 → LeavesFront new next.Memory
front_stays old new want (stays, some) clean few = subst (λ (r : Reading). LeavesFront r next.Memory) (sym stays) (clean, few)

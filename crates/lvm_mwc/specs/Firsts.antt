-- Lists of which one element is taken out or changed: the first that passes a test.
use Rattle.std.specs.Prelude.{Bool, List, [], ◌∷◌, if◌then◌else◌}

-- all but the first that passes
abbrev pub without_first : {X : Type 0} → (X → Bool) → List X → List X
without_first test [] = []
without_first test (x ∷ xs) = if test x then xs else x ∷ without_first test xs

-- the first that passes is changed
abbrev pub with_first : {X : Type 0} → (X → Bool) → (X → X) → List X → List X
with_first test change [] = []
with_first test change (x ∷ xs) = if test x then change x ∷ xs else x ∷ with_first test change xs

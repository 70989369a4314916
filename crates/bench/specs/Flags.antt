-- What places are filled with. Assumes nothing.
use Rattle.std.specs.Prelude.{Bool, true, not, ◌&&◌, List, [], ◌∷◌, is_some, Option}

-- no place is filled
abbrev pub none : {X : Type 0} → List (Option X) → Bool
none [] = true
none (x ∷ xs) = not (is_some x) && none xs

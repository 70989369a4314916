-- The built-in elements, by their offsets.
use Rattle.std.specs.Prelude.{ℕ, Bool, false, cond, List, [], ◌∷◌, ◌++◌, replicate, ℤ, pos, negsuc, Some, None, Option, ◌==◌, slice_index_or}
use Rattle.elements.specs.declared.element.built_in.BuiltIn.{BuiltIn}
use Rattle.elements.specs.declared.element.built_in.BuiltIn.TheVariants.{Cross, Square, Pair, Triple}

-- (0, 0) and its four side neighbours.
abbrev pub cross : List (ℤ × ℤ)
cross = (pos 0, negsuc 0) ∷ (negsuc 0, pos 0) ∷ (pos 0, pos 0) ∷ (pos 1, pos 0) ∷ (pos 0, pos 1) ∷ []

-- The 3 × 3 square about (0, 0).
abbrev pub square : List (ℤ × ℤ)
square =
    (negsuc 0, negsuc 0) ∷ (pos 0, negsuc 0) ∷ (pos 1, negsuc 0)
    ∷ (negsuc 0, pos 0) ∷ (pos 0, pos 0) ∷ (pos 1, pos 0)
    ∷ (negsuc 0, pos 1) ∷ (pos 0, pos 1) ∷ (pos 1, pos 1) ∷ []

-- (0, 0) and (1, 0).
abbrev pub pair : List (ℤ × ℤ)
pair = (pos 0, pos 0) ∷ (pos 1, pos 0) ∷ []

-- (−1, 0), (0, 0) and (1, 0).
abbrev pub triple : List (ℤ × ℤ)
triple = (negsuc 0, pos 0) ∷ (pos 0, pos 0) ∷ (pos 1, pos 0) ∷ []

-- The offsets (column, row) of a built-in element, in reading order.
abbrev pub built_in_offsets : BuiltIn → List (ℤ × ℤ)
built_in_offsets Cross = cross
built_in_offsets Square = square
built_in_offsets Pair = pair
built_in_offsets Triple = triple

-- The offsets (column, row) of the built-in element of a number, in reading order; only 1 to 4 have one.
abbrev pub built_in : ℕ → Option (List (ℤ × ℤ))
built_in n =
    cond (n == 1) (Some cross)
    (cond (n == 2) (Some square)
    (cond (n == 3) (Some pair)
    (cond (n == 4) (Some triple) None)))

-- The first three of a row of flags.
abbrev pub three : List Bool → List Bool
three row = slice_index_or row 0 false ∷ slice_index_or row 1 false ∷ slice_index_or row 2 false ∷ []

-- The flags of a 3 × 3 picture about (0, 0), given by its rows.
abbrev pub about_centre : List Bool → List Bool → List Bool → List Bool
about_centre above middle below =
    replicate 16 false ++ three above ++ replicate 4 false ++ three middle ++ replicate 4 false ++ three below ++ replicate 16 false

-- The flags of a 3 × 3 picture about (0, 0), given by the list of its rows.
abbrev pub pictured_flags : List (List Bool) → List Bool
pictured_flags rows = about_centre (slice_index_or rows 0 []) (slice_index_or rows 1 []) (slice_index_or rows 2 [])

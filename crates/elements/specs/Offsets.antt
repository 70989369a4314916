-- Offsets of the 7 × 7 square about (0, 0), as flags in reading order.
use Rattle.std.specs.Prelude.{◌≡◌, count_by, ℕ, ◌+◌, ◌*◌, ◌/◌, ◌%◌, Bool, cond, ◌⊎◌, List, [], ◌∷◌, ℤ, pos, negsuc, ◌+ℤ◌, ◌-ℤ◌, ◌≤ℤ◌, unsigned_abs}

-- A column or a row is −3 to 3.
abbrev pub Near : ℤ → Type 0
Near z = (negsuc 2 ≤ℤ z) × (z ≤ℤ pos 3)

-- The offset (column, row) at place k of the square, in reading order.
abbrev pub offset_at : ℕ → ℤ × ℤ
offset_at k = (pos (k % 7) -ℤ pos 3, pos (k / 7) -ℤ pos 3)

-- The place of an offset that lies within the square.
abbrev pub place_of : ℤ → ℤ → ℕ
place_of column row = unsigned_abs (row +ℤ pos 3) * 7 + unsigned_abs (column +ℤ pos 3)

-- How many flags are set.
abbrev pub count : List Bool → ℕ
count = count_by (λ b. b)

-- The offsets whose flags are set, from place k of the square on.
abbrev pub flagged : ℕ → List Bool → List (ℤ × ℤ)
flagged k [] = []
flagged k (b ∷ bs) = cond b (offset_at k ∷ flagged (k + 1) bs) (flagged (k + 1) bs)

-- Something is one of a list.
infix 50 ◌∈◌
abbrev pub ◌∈◌ : {X : Type 0} → X → List X → Type 0
x ∈ [] = ⊥
x ∈ (y ∷ ys) = (x ≡ y) ⊎ (x ∈ ys)

-- No two of a list are the same.
abbrev pub Different : {X : Type 0} → List X → Type 0
Different [] = Unit {0}
Different (x ∷ xs) = (x ∈ xs → ⊥) × Different xs

-- The same ones stand in two lists.
abbrev pub SameMembers : {X : Type 0} → List X → List X → Type 0
SameMembers {X} xs ys = (x : X) → (x ∈ xs → x ∈ ys) × (x ∈ ys → x ∈ xs)

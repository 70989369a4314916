-- Where a text first departs from the lawful ones.
use Rattle.std.specs.Prelude.{◌≡◌, ℕ, ◌+◌, ◌<◌, ◌⊎◌, List, ◌++◌, length, take}

-- some lawful text starts with these bytes
abbrev pub Begins : (List ℕ → Type 0) → List ℕ → Type 0
Begins Lawful front = (rest : List ℕ) × Lawful (front ++ rest)

-- the text is not lawful; up to this place it is as some lawful text, and there it ends too early or has a byte that no
-- lawful text has after what stands before it
pub record FirstMisfit (Lawful : List ℕ → Type 0) (bytes : List ℕ) (place : ℕ) : Type 0 where
  pub unlawful : Lawful bytes → ⊥
  pub begins : Begins Lawful (take place bytes)
  pub misfit : (place ≡ length bytes) ⊎ ((place < length bytes) × (Begins Lawful (take (place + 1) bytes) → ⊥))

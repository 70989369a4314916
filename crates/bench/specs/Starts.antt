-- Where parts of memory lie. Assumes nothing.
use Rattle.std.specs.Prelude.{◌≡◌, ℕ, ◌+◌, ◌≤◌, ◌⊎◌}

-- so many cells from a start on lie in the memory, and are the same as those from another start or lie apart from them
pub record SourceOf (start to cells long : ℕ) : Type 0 where
  pub within : start + cells ≤ long
  pub apart : (start ≡ to) ⊎ ((start + cells ≤ to) ⊎ (to + cells ≤ start))

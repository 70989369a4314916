-- What an element holds, and the laws of its offsets.
use Rattle.std.specs.Prelude.{◌≡◌, ◌≤◌, List, length, ℤ, pos}
use Rattle.elements.specs.declared.element.Element.{Element}
use Rattle.elements.specs.Offsets.{◌∈◌, Different, Near, SameMembers, flagged}

-- The offsets of an element, in reading order.
abbrev pub offsets : Element → List (ℤ × ℤ)
offsets e = flagged 0 e.flags

-- An element has 2 to 49 different offsets of the square, and (0, 0) is one of them.
pub record OffsetsLaw (e : Element) : Type 0 where
  pub different : Different (offsets e)
  pub square : (o : ℤ × ℤ) → o ∈ offsets e → Near o.0 × Near o.1
  pub centre : (pos 0, pos 0) ∈ offsets e
  pub several : 2 ≤ length (offsets e)
  pub few : length (offsets e) ≤ 49

-- Elements with the same offsets are the same value.
abbrev pub SameOffsetsSameFlags : Element → Type 0
SameOffsetsSameFlags e = (f : Element) → SameMembers (offsets e) (offsets f) → e.flags ≡ f.flags

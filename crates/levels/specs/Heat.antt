-- The count that a heat level of some height stands for. Assumes nothing.
use Rattle.std.specs.Prelude.{ℕ, zero, suc, ℤ, pos, ◌-ℤ◌, Some, None, Option}

-- height 0 is blank, and has no count; any other height is the count plus 32,769
abbrev pub heat_count : ℕ → Option ℤ
heat_count zero = None
heat_count (suc n) = Some (pos (suc n) -ℤ pos 32769)

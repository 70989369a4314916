-- The limits on sides, places, memory, sizes, flats and factors. Assumes nothing.
use Rattle.std.specs.Prelude.{ℕ, ◌+◌, ◌*◌, Bool, not, ◌&&◌, None, Option, ℤ, ◌==◌, nat_le, unsigned_abs}
use Rattle.limits.specs.declared.fault.Fault.{Fault}
use Rattle.limits.specs.declared.fault.Fault.TheVariants.{Side, Places, Memory, SizeOrDepth, FactorOrHeight}
use Rattle.limits.specs.Faults.{first}

-- a side is 1 to 1,024
abbrev pub lawful_side : ℕ → Bool
lawful_side side = nat_le 1 side && nat_le side 1024

-- a size of an opening or a closing, or the depth of a skeleton or a spectrum, is 1 to 64
abbrev pub lawful_size : ℕ → Bool
lawful_size k = nat_le 1 k && nat_le k 64

-- a flat's number is 1 to 9,999
abbrev pub lawful_flat : ℕ → Bool
lawful_flat flat = nat_le 1 flat && nat_le flat 9999

-- a factor is −100 to 100
abbrev pub lawful_factor : ℤ → Bool
lawful_factor factor = nat_le (unsigned_abs factor) 100

-- Sizes: sides 1 to 1,024, then 1 to 12 places, then memory of exactly (places + working) × w × h cells, where `working` counts
-- the working planes, two for a rack and none for a slate.
abbrev pub sizes_refusal : ℕ → ℕ → ℕ → ℕ → ℕ → Option Fault
sizes_refusal working w h places len =
    first (not (lawful_side w && lawful_side h)) Side
    (first (not (nat_le 1 places && nat_le places 12)) Places
    (first (not (len == (places + working) * (w * h))) Memory None))

-- a size or a depth, and a factor
abbrev pub size_refusal : ℕ → Option Fault
size_refusal k = first (not (lawful_size k)) SizeOrDepth None

abbrev pub factor_refusal : ℤ → Option Fault
factor_refusal factor = first (not (lawful_factor factor)) FactorOrHeight None

-- The heat level that a reading stands for, and the reading by which a level is told. Assumes nothing.
use Rattle.std.specs.Prelude.{◌≡◌, ℕ, zero, suc, ◌*◌, Bool, true, false, cond, ℤ, pos, negsuc, ◌+ℤ◌, ◌-ℤ◌, ◌*ℤ◌, neg_ℤ, ◌≤ℤ◌, Float}
use Rattle.std.specs.Float.{nan, inf, fin, binary32}
use Rattle.std.specs.Float.Ieee.{up, down, round}
use Rattle.readings.specs.declared.reading.Reading.{Reading}
use Rattle.readings.specs.declared.reading.Reading.TheVariants.{Dead, Degrees, Beyond}

-- n, or −n where the sign is true
abbrev pub signed : Bool → ℕ → ℤ
signed s n = cond s (neg_ℤ (pos n)) (pos n)

-- The number x is c ÷ 16. A finite x, fin s m e, is m × 2^e, negative where s is true, and 2^e is the fraction up e / down e.
abbrev pub IsSixteenths : Float → ℤ → Type 0
IsSixteenths nan c = ⊥
IsSixteenths (inf s) c = ⊥
IsSixteenths (fin s m e) c = signed s (m * up e * 16) ≡ c *ℤ pos (down e)

-- a count of sixteenths is −32,768 to 32,767
abbrev pub IsCount : ℤ → Type 0
IsCount c = (negsuc 32767 ≤ℤ c) × (c ≤ℤ pos 32767)

-- the number x is c ÷ 16 for a count c
abbrev pub IsCountOf : Float → ℤ → Type 0
IsCountOf x c = IsCount c × IsSixteenths x c

-- the degrees x stand for the level of this height, which is that of a count
abbrev pub ReadsDegrees : Float → ℕ → Type 0
ReadsDegrees x h = (c : ℤ) × IsCountOf x c × (pos h ≡ c +ℤ pos 32769)

-- the reading stands for the level of this height: a dead one for blank, any other for a count
abbrev pub Reads : Reading → ℕ → Type 0
Reads Dead h = h ≡ 0
Reads (Degrees x) h = ReadsDegrees x h
Reads (Beyond x) h = ReadsDegrees x h

-- the reading stands for a level
abbrev pub IsReadable : Reading → Type 0
IsReadable r = (h : ℕ) × Reads r h

-- the f32 that is nearest to c ÷ 16
abbrev pub sixteenth : ℤ → Float
sixteenth (pos n) = round binary32 false n 16
sixteenth (negsuc n) = round binary32 true (suc n) 16

-- it is c ÷ 16 without error
abbrev pub SixteenthsAreExact : Type 0
SixteenthsAreExact = (c : ℤ) → IsCount c → IsSixteenths (sixteenth c) c

-- the reading by which the level of this height is told: blank as dead, a count as its degrees
abbrev pub told_as : ℕ → Reading
told_as zero = Dead
told_as (suc n) = Degrees (sixteenth (pos (suc n) -ℤ pos 32769))

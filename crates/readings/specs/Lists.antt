-- Lists of readings, and the lists of heights that they stand for. Assumes nothing.
use Rattle.std.specs.Prelude.{◌≡◌, ℕ, ◌<◌, ◌≤◌, List, map, length, take, slice_index_or}
use Rattle.std.specs.List.{AllByRecursion, AllZip}
use Rattle.levels.specs.declared.heat.Heat.{Heat}
use Rattle.readings.specs.declared.fault.ReadingFault.{ReadingFault}
use Rattle.readings.specs.declared.fault.ReadingFault.TheVariants.{Lengths, Unreadable}
use Rattle.readings.specs.declared.reading.Reading.{Reading}
use Rattle.readings.specs.declared.reading.Reading.TheVariants.{Dead}
use Rattle.readings.specs.Readings.{IsReadable, Reads, told_as}

-- the height of a heat level
abbrev pub heat_height : Heat → ℕ
heat_height h = h.height

-- as many readings as heights, and each reading stands for the level of its height
abbrev pub ReadsAll : List Reading → List ℕ → Type 0
ReadsAll = AllZip Reads

-- readings are accepted for n levels where there are as many, and each reading stands for a level
abbrev pub Accepted : List Reading → ℕ → Type 0
Accepted rs n = (length rs ≡ n) × AllByRecursion IsReadable rs

-- they are refused where there are not as many levels, and else at k, the first reading that stands for none
abbrev pub Refused : List Reading → ℕ → ReadingFault → Type 0
Refused rs n Lengths = length rs ≡ n → ⊥
Refused rs n (Unreadable k) = (length rs ≡ n) × (k < n) × AllByRecursion IsReadable (take k rs) × (IsReadable (slice_index_or rs k Dead) → ⊥)

-- levels of any heights, told as readings and read again, are the levels of the same heights, and of no other
abbrev pub ReadsBack : Type 0
ReadsBack = (hs : List ℕ) → AllByRecursion (λ h. h ≤ 65536) hs →
    ReadsAll (map told_as hs) hs × ((ks : List ℕ) → ReadsAll (map told_as hs) ks → ks ≡ hs)

-- The heights of the two mask levels. Assumes nothing.
use Rattle.std.specs.Prelude.{ℕ}
use Rattle.levels.specs.declared.mask.Mask.{Mask}
use Rattle.levels.specs.declared.mask.Mask.TheVariants.{No, Yes}

-- no is 0 and yes is 1
abbrev pub mask_height : Mask → ℕ
mask_height No = 0
mask_height Yes = 1

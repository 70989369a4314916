-- The slip at hand is that of the visit on a rack and its slate. Assumes nothing.
use Rattle.std.specs.Prelude.{◌≡◌, true, is_some, Option}
use Rattle.bench.specs.declared.slip.Slip.{Slip}
use Rattle.bench.specs.Model.{Outline, slip_visit}

-- rack and slate have the visit of the slip, or none without a slip, and with one the same sides
pub record SlipOfVisit (slip : Option Slip) (rack slate : Outline) : Type 0 where
  pub on_rack : rack.visit ≡ slip_visit slip
  pub on_slate : slate.visit ≡ slip_visit slip
  pub same_sides : is_some slip ≡ true → (rack.w ≡ slate.w) × (rack.h ≡ slate.h)

-- A round by a map that swells: under the upper sheet it raises the area, or leaves the sheet as it was. Assumes nothing.
use Rattle.std.proofs.Common.{◌≡◌, ℕ, ◌<◌, List, length, sym, subst, inl, inr}
use Rattle.std.proofs.lemmas.Bool.{cases_lt}
use Rattle.laws.specs.Maps.{Below}
use Rattle.laws.proofs.Cells.{same_from_area, same_from_below}
use Rattle.laws.proofs.Maps.{below_same}
use Rattle.laws.proofs.Reconstruction.{met_above}
use Rattle.morphology.specs.Cells.{met}
use Rattle.morphology.specs.Sheets.{area}

-- the next sheet is the meet of the swollen sheet and the upper one
module _ (now swollen upper next : List ℕ) (long : length now ≡ length next) (same : length swollen ≡ length upper) (above : Below now swollen) (under : Below now upper) (is : next ≡ met swollen upper) where
  next_above : Below now next
  next_above = subst (Below now) (sym is) (met_above now swollen upper same above under)

  pub next_same : Below next now → now ≡ next
  next_same back = same_from_below now next long next_above back

  pub next_more : ¬ (Below next now) → area now < area next
  next_more risen = elim (cases_lt (area now) (area next)) [
    | inl more ↦ more
    | inr none ↦ absurd (risen (subst (λ (f : List ℕ). Below f now) (same_from_area now next long next_above none) (below_same now)))
  ]

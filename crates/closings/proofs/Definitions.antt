-- What a sweep that skips what falls outside comes to is the definition of that erosion. Assumes nothing.
use Rattle.std.proofs.Common.{◌≡◌, ℕ, ◌*◌, ◌/◌, ◌%◌, ◌<◌, List, [], ◌∷◌, map, length, get_or, ℤ, pos, ◌+ℤ◌, fold, ◌∙◌, arith}
use Rattle.std.proofs.lemmas.Int.{ints}
use Rattle.std.proofs.lemmas.List.FromFn.{fill_by_all}
use Rattle.elements.specs.Offsets.{◌∈◌}
use Rattle.morphology.specs.declared.extremum.Extremum.TheVariants.{Minimum}
use Rattle.morphology.specs.declared.operation.Operation.TheVariants.{Erosion}
use Rattle.morphology.specs.Erosion.{least}
use Rattle.morphology.specs.Passes.{extreme, read_at}
use Rattle.morphology.specs.Sheets.{at_place}
use Rattle.morphology.proofs.Extremes.{fold_from_both}
use Rattle.operators.specs.Closings.{eroded_inside, erosion_inside_at, on_sheet}
use Rattle.laws.proofs.Extremes.{least_at_most, member_filter}
use Rattle.laws.proofs.Reading.{Stands, height_on, on_at}
use Rattle.closings.specs.Passes.{swept_inside}

-- the fold from a height that is among the others is their least
fold_from_member : {X : Type 0} (v : X → ℕ) (a : ℕ) (xs : List X) (x : X) → x ∈ xs → v x ≡ a → fold (extreme Minimum) a (map v xs) ≡ least (map v xs)
fold_from_member v a [] x m same = absurd m
fold_from_member v a (y ∷ ys) x m same =
    let low = least_at_most v (y ∷ ys) x m in
    fold_from_both Minimum a (v y) (map v ys) ∙ omega arith

module _ (w h : ℕ) (f : List ℕ) (offsets : List (ℤ × ℤ)) (centre : (pos 0, pos 0) ∈ offsets) where
  swept_inside_at : (p : ℕ) → p < w * h → swept_inside w h f offsets p ≡ at_place w (erosion_inside_at w h offsets f) p
  swept_inside_at p within =
      let here : Stands w h p (pos (p % w) +ℤ pos 0) (pos (p / w) +ℤ pos 0) =
      record { within = within; column = omega (arith, ints); row = omega (arith, ints) } in
      fold_from_member (read_at Erosion w h f (p % w) (p / w)) (get_or f p 0) _ (pos 0, pos 0)
      (member_filter (λ o. on_sheet w h (pos (p % w) +ℤ o.0) (pos (p / w) +ℤ o.1)) offsets (pos 0, pos 0) centre (on_at w h p _ _ here)) (height_on w h p _ _ here f)

  -- a list of w × h heights, each of them swept, is the eroded sheet
  pub swept-eroded_inside : (xs : List ℕ) → length xs ≡ w * h → ((p : ℕ) → p < w * h → get_or xs p 0 ≡ swept_inside w h f offsets p) → xs ≡ eroded_inside w h offsets f
  swept-eroded_inside xs long at = fill_by_all (at_place w (erosion_inside_at w h offsets f)) xs (w * h) 0 long (λ p within. at p within ∙ swept_inside_at p within)

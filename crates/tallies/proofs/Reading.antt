-- What is read on a rack after a sheet was made in its first working plane. Assumes nothing.
use Rattle.std.proofs.Common.{◌≡◌, ℕ, ◌*◌, List, [], map, length, Ok, Some, Result, sym, ap, ◌∙◌, unwrap_or}
use Rattle.std.proofs.lemmas.Result.{MatchResult-at_ok}
use Rattle.limits.specs.declared.fault.Fault.{Fault}
use Rattle.bench.specs.declared.rack.Rack.{Rack}
use Rattle.bench.specs.Model.{plane_of, places_of, rack_outline, rack_state, sheet_of}
use Rattle.bench.specs.Calls.{MakesInPlane, Making, OfTwo, made_of}
use Rattle.bench.proofs.Memory.{heights_of_cells}
use Rattle.operators.specs.Tallies.{differed}
use Rattle.weights.specs.Weights.{difference}
use Rattle.tallies.specs.declared.order.Order.{Order}
use Rattle.tallies.specs.declared.order.Order.TheVariants.{SheetFirst, MadeFirst}
use Rattle.tallies.specs.Differences.{difference_with}

-- Of a rack on which a sheet was made in the first working plane: the sheet in a place that it was made of, and the plane.
pub record Read {L : Type 0} (height : L → ℕ) (made : Making) (was : Rack L) (from : ℕ) (sheet plane : List L) : Type 0 where
  pub sheet_is : map height sheet ≡ sheet_of (rack_state height was) from
  pub plane_is : map height plane ≡ made_of made (rack_state height was) from from
  pub sheet_long : length sheet ≡ (rack_outline was).w * (rack_outline was).h
  pub plane_long : length plane ≡ (rack_outline was).w * (rack_outline was).h

pub read_after : {L T : Type 0} {report : OfTwo T} {answer : Result T Fault} (height : L → ℕ) (made : Making) (was is : Rack L) (from : ℕ) (sheet plane : List L) (told : T)
    → answer ≡ Ok told → MakesInPlane height made report was is from from answer
    → (rack_state height is).content from ≡ Some (map height sheet) → length sheet ≡ (rack_outline is).w * (rack_outline is).h
    → plane ≡ plane_of is.marks is.memory.now → length plane ≡ (rack_outline is).w * (rack_outline is).h → Read height made was from sheet plane
read_after height made was is from sheet plane told accepted makes content sheet_long value plane_long =
    let same = ap (λ s. s.outline.w * s.outline.h) makes.steps in
    record {
      sheet_is = sym (ap (λ o. unwrap_or o []) content) ∙ ap (λ s. sheet_of s from) makes.steps;
      plane_is = ap (map height) value ∙ heights_of_cells height (is.marks.places * (is.marks.w * is.marks.h)) (is.marks.w * is.marks.h) is.memory.now
          ∙ (MatchResult-at_ok (λ _. (places_of was.marks (map height is.memory.now) ≡ places_of was.marks (map height was.memory.now)) × (plane_of is.marks (map height is.memory.now) ≡ made_of made (rack_state height was) from from)) _ _ accepted makes.memory).1;
      sheet_long = sheet_long ∙ same;
      plane_long = plane_long ∙ same;
    }

-- the difference of the two, in either order, is the tally to be made
module _ {L : Type 0} (height : L → ℕ) (made : Making) (was : Rack L) (from : ℕ) (sheet plane : List L) (read : Read height made was from sheet plane) (order : Order) where
  pub sheet_first : order ≡ SheetFirst → difference (differed (map height sheet) (map height plane)) ≡ made_of (difference_with order made) (rack_state height was) from from
  sheet_first is = (λ i. difference (differed (read.sheet_is i) (read.plane_is i))) ∙ (λ i. made_of (difference_with (sym is i) made) (rack_state height was) from from)

  pub made_first : order ≡ MadeFirst → difference (differed (map height plane) (map height sheet)) ≡ made_of (difference_with order made) (rack_state height was) from from
  made_first is = (λ i. difference (differed (read.plane_is i) (read.sheet_is i))) ∙ (λ i. made_of (difference_with (sym is i) made) (rack_state height was) from from)

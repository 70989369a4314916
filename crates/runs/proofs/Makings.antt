-- What the calls make of two sheets commutes with cutting, and keeps the top. Assumes nothing.
use Rattle.std.proofs.Common.{◌≡◌, ℕ, suc, ◌+◌, ◌*◌, ◌≤◌, max, min, List, length, sym, refl, ◌∙◌, arith}
use Rattle.elements.specs.declared.element.Element.{Element}
use Rattle.elements.specs.Elements.{offsets}
use Rattle.morphology.specs.declared.operation.Operation.{Operation}
use Rattle.morphology.specs.declared.operation.Operation.TheVariants.{Erosion, Dilation}
use Rattle.morphology.specs.Cells.{cut, joined, met}
use Rattle.morphology.specs.Erosion.{dilated, eroded}
use Rattle.bench.specs.Calls.{Making}
use Rattle.calls.specs.Made.{by_element}
use Rattle.operators.specs.Closings.{eroded_inside}
use Rattle.laws.specs.Closings.{ClosingLaws}
use Rattle.laws.specs.Maps.{FlatOperator}
use Rattle.operators.specs.Openings.{opening}
use Rattle.laws.specs.Reconstruction.{ReconstructionLaws}
use Rattle.laws.specs.Sums.{HeightsAtMost}
use Rattle.laws.proofs.Cells.{cut-joined, cut-met}
use Rattle.morphology.proofs.TakenTogether.{length-cell_by_cell}
use Rattle.laws.proofs.Closings.{pairs_close}
use Rattle.laws.proofs.Cuts.{cuts_alike, sheet_topped}
use Rattle.laws.proofs.ElementLaws.{dilation_and_erosion_inside_close, erosion_and_dilation_are_pair}
use Rattle.laws.proofs.Maps.{flat_same}
use Rattle.laws.proofs.Openings.{pairs_open}
use Rattle.laws.proofs.Reconstruction.{pairs_reconstruct}
use Rattle.calls.specs.ByElement.{opening_by, reconstruction_by, shrink, swell}
use Rattle.closings.specs.ByElement.{close, closing_by}
use Rattle.runs.proofs.Parts.{the_first, the_second}

-- sheets of any sides make sheets of these sides, and cuts make the cut
pub record CutMaking (made : Making) : Type 0 where
  pub sheet : (w h : ℕ) (f g : List ℕ) → length f ≡ w * h → length g ≡ w * h → length (made w h f g) ≡ w * h
  pub cuts : (w h a : ℕ) (f g : List ℕ) → 1 ≤ a → length f ≡ w * h → length g ≡ w * h → made w h (cut a f) (cut a g) ≡ cut a (made w h f g)

pub made_topped : (made : Making) → CutMaking made → (top w h : ℕ) (f g : List ℕ) → length f ≡ w * h → length g ≡ w * h → HeightsAtMost top f → HeightsAtMost top g → HeightsAtMost top (made w h f g)
made_topped made M top w h f g one other s t = sheet_topped top (made w h f g) (λ j.
    sym (M.cuts w h (suc top) f g (omega arith) one other)
    ∙ (λ i. made w h (cuts_alike top f s j i) (cuts_alike top g t j i))
    ∙ M.cuts w h (suc top + j) f g (omega arith) one other)

-- a flat operator for all sides
flat_making : (made : ℕ → ℕ → List ℕ → List ℕ) → ((w h : ℕ) → FlatOperator (w * h) (made w h)) → CutMaking (λ w h f g. made w h f)
flat_making made flat = record {
  sheet = λ w h f g one other. (flat w h).sheet f one;
  cuts = λ w h a f g low one other. (flat w h).cuts a f low one;
}

pub element_making : (op : Operation) (e : Element) → CutMaking (by_element op (offsets e))
element_making Erosion e = flat_making (λ w h. eroded w h (offsets e)) (λ w h. (erosion_and_dilation_are_pair e w h).shrinks)
element_making Dilation e = flat_making (λ w h. dilated w h (offsets e)) (λ w h. (erosion_and_dilation_are_pair e w h).swells)

pub opening_making : (e : Element) (size : ℕ) → CutMaking (opening_by e size)
opening_making e size = flat_making (λ w h. opening (shrink e w h) (swell e w h) size) (λ w h. (pairs_open (w * h) (shrink e w h) (swell e w h) (erosion_and_dilation_are_pair e w h)).flat size)

pub closings_of : (e : Element) (w h : ℕ) → ClosingLaws (w * h) (close e w h)
closings_of e w h = pairs_close (w * h) (dilated w h (offsets e)) (eroded_inside w h (offsets e)) (dilation_and_erosion_inside_close e w h)

pub closing_making : (e : Element) (size : ℕ) → CutMaking (closing_by e size)
closing_making e size = flat_making (λ w h. close e w h size) (λ w h. (closings_of e w h).flat size)

pub meet_making : CutMaking (λ w h. met)
meet_making = record {
  sheet = λ w h f g one other. length-cell_by_cell min f g (one ∙ sym other) ∙ one;
  cuts = λ w h a f g low one other. sym (cut-met a f g);
}

pub join_making : CutMaking (λ w h. joined)
join_making = record {
  sheet = λ w h f g one other. length-cell_by_cell max f g (one ∙ sym other) ∙ one;
  cuts = λ w h a f g low one other. sym (cut-joined a f g);
}

pub regrow_laws : (e : Element) (w h : ℕ) → ReconstructionLaws (w * h) (swell e w h)
regrow_laws e w h = pairs_reconstruct (w * h) (shrink e w h) (swell e w h) (erosion_and_dilation_are_pair e w h)

pub regrow_making : (e : Element) → CutMaking (reconstruction_by e)
regrow_making e = record {
  sheet = λ w h f g one other. (regrow_laws e w h).sheet f g one other;
  cuts = λ w h a f g low one other. (regrow_laws e w h).cuts a f g low one other;
}

pub first_making : CutMaking the_first
first_making = flat_making (λ w h f. f) (λ w h. flat_same (w * h))

pub second_making : CutMaking the_second
second_making = record { sheet = λ w h f g one other. other; cuts = λ w h a f g low one other. refl }

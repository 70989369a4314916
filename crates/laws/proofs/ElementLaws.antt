-- Erosion, dilation and the erosion of closings by an element keep the laws of their pairs. Assumes nothing.
use Rattle.std.proofs.Common.{◌≡◌, ℕ, ◌*◌, ◌/◌, ◌%◌, ◌<◌, ◌≤◌, false, List, map, get_or, ℤ, pos, ◌+ℤ◌, ◌-ℤ◌, filter, sym, ap, ◌∙◌, inl, inr, arith}
use Rattle.std.proofs.lemmas.Bool.{both_ways}
use Rattle.std.proofs.lemmas.Int.{ints}
use Rattle.std.proofs.lemmas.List.FromFn.{length-map-range_with_len}
use Rattle.std.proofs.lemmas.Simd.{map-map}
use Rattle.std.specs.List.{range_with_len}
use Rattle.elements.specs.declared.element.Element.{Element}
use Rattle.elements.specs.Elements.{offsets}
use Rattle.elements.specs.Offsets.{◌∈◌}
use Rattle.elements.proofs.Elements.{offsets_law}
use Rattle.morphology.specs.Cells.{extreme_of}
use Rattle.morphology.specs.Erosion.{eroded, dilated, erosion_at}
use Rattle.morphology.specs.Sheets.{height_at, by_cells, at_place}
use Rattle.morphology.specs.declared.extremum.Extremum.{Extremum}
use Rattle.morphology.specs.declared.extremum.Extremum.TheVariants.{Minimum, Maximum}
use Rattle.operators.specs.Closings.{eroded_inside, on_sheet}
use Rattle.laws.specs.Closings.{DilationAndErosionInsideClose, ClosingPairLaws}
use Rattle.laws.specs.Maps.{FlatOperator}
use Rattle.laws.specs.Pairs.{ErosionAndDilationArePair, PairLaws}
use Rattle.laws.proofs.Cuts.{cut_height}
use Rattle.laws.proofs.Extremes.{filter_member, member_filter, least_at_most, at_most_least, greatest_at_least, greatest_at_most, extreme_order, extreme_cut}
use Rattle.laws.proofs.Reading.{Stands, on_at, height_on, height_off, place_cases, height_order, height_cut, cell_at, below_on_sheet}

-- At each cell, the extreme of the heights at a column and a row for each of some offsets.
module _ (which : Extremum) (w h : ℕ) (column row : ℕ → ℤ × ℤ → ℤ) (some : ℕ → ℕ → List (ℤ × ℤ)) where
  abbrev extreme_cell : (ℤ → ℤ → ℕ) → ℕ → ℕ → ℕ
  extreme_cell height m n = extreme_of which (map (λ o. height (column m o) (row n o)) (some m n))

  pub extremes_flat : FlatOperator (w * h) (λ f. by_cells w h (extreme_cell (height_at w h f)))
  extremes_flat = record {
    sheet = λ f long. length-map-range_with_len _ 0 (w * h);
    order = λ f g long same below. below_on_sheet (w * h) (by_cells w h (extreme_cell (height_at w h f))) _ (length-map-range_with_len _ 0 (w * h)) (λ p within.
        rw (cell_at w h (extreme_cell (height_at w h f)) p within, cell_at) (extreme_order which _ _ (λ o. height_order w h f g below (column (p % w) o) (row (p / w) o)) (some (p % w) (p / w))));
    cuts = λ a f positive long.
        ap (λ height. by_cells w h (extreme_cell height)) (λ i x y. height_cut w h a f positive x y i)
        ∙ ap (λ cell. map cell (range_with_len 0 (w * h))) (λ i p. extreme_cut a positive (λ o. height_at w h f (column (p % w) o) (row (p / w) o)) which (some (p % w) (p / w)) i)
        ∙ sym (map-map (cut_height a) (at_place w (extreme_cell (height_at w h f))) (range_with_len 0 (w * h)));
  }

module _ (w h : ℕ) (os : List (ℤ × ℤ)) where
  -- the heights at an offset ahead of place p, and behind it
  abbrev ahead : List ℕ → ℕ → ℤ × ℤ → ℕ
  ahead f p o = height_at w h f (pos (p % w) +ℤ o.0) (pos (p / w) +ℤ o.1)

  abbrev behind : List ℕ → ℕ → ℤ × ℤ → ℕ
  behind f p o = height_at w h f (pos (p % w) -ℤ o.0) (pos (p / w) -ℤ o.1)

  -- place q lies at the offset o ahead of place p, and so p behind q
  abbrev Leads : ℕ → ℤ × ℤ → ℕ → Type 0
  Leads p o q = (p < w * h) × Stands w h q (pos (p % w) +ℤ o.0) (pos (p / w) +ℤ o.1)

  leads_back : (p : ℕ) (o : ℤ × ℤ) (q : ℕ) → Leads p o q → Stands w h p (pos (q % w) -ℤ o.0) (pos (q / w) -ℤ o.1)
  leads_back p o q (within, s) = record { within = within; column = omega (arith, ints); row = omega (arith, ints) }

  leads_from : (p : ℕ) (o : ℤ × ℤ) (q : ℕ) → q < w * h → Stands w h p (pos (q % w) -ℤ o.0) (pos (q / w) -ℤ o.1) → Leads p o q
  leads_from p o q within s = (s.within, record { within = within; column = omega (arith, ints); row = omega (arith, ints) })

  leads_here : (p : ℕ) → p < w * h → Leads p (pos 0, pos 0) p
  leads_here p within = leads_from p (pos 0, pos 0) p within (record { within = within; column = omega (arith, ints); row = omega (arith, ints) })

  -- a height is no less than the eroded one behind it, and no more than the dilated one ahead
  eroded_at_most : (f : List ℕ) (p : ℕ) (o : ℤ × ℤ) (q : ℕ) → o ∈ os → Leads p o q → get_or (eroded w h os f) p 0 ≤ get_or f q 0
  eroded_at_most f p o q m (within, s) = rw (cell_at, ← height_on w h q _ _ s f) (least_at_most (ahead f p) os o m)

  dilated_at_least : (f : List ℕ) (p : ℕ) (o : ℤ × ℤ) (q : ℕ) → o ∈ os → Leads p o q → get_or f p 0 ≤ get_or (dilated w h os f) q 0
  dilated_at_least f p o q m l = let within = l.1.within in rw (cell_at, ← height_on w h p _ _ (leads_back p o q l) f) (greatest_at_least (behind f q) os o m)

  -- the same where what lies ahead may be off the sheet, if the height is then the lowest
  dilated_ahead : (f : List ℕ) (p : ℕ) (o : ℤ × ℤ) → p < w * h → o ∈ os → (on_sheet w h (pos (p % w) +ℤ o.0) (pos (p / w) +ℤ o.1) ≡ false → get_or f p 0 ≤ 0) → get_or f p 0 ≤ ahead (dilated w h os f) p o
  dilated_ahead f p o within m lowest = elim (place_cases w h (pos (p % w) +ℤ o.0) (pos (p / w) +ℤ o.1)) [
    | inl on ↦ rw (height_on w h on.0 _ _ on.1 (dilated w h os f)) (dilated_at_least f p o on.0 m (within, on.1))
    | inr off ↦ omega (arith, lowest off)
  ]

  module _ (centre : (pos 0, pos 0) ∈ os) where
    pair_laws : PairLaws (w * h) (eroded w h os) (dilated w h os)
    pair_laws = record {
      shrinks = extremes_flat Minimum w h (λ m o. pos m +ℤ o.0) (λ n o. pos n +ℤ o.1) (λ m n. os);
      swells = extremes_flat Maximum w h (λ m o. pos m -ℤ o.0) (λ n o. pos n -ℤ o.1) (λ m n. os);
      above = λ f long. below_on_sheet (w * h) _ _ long (λ p within. dilated_at_least f p (pos 0, pos 0) p centre (leads_here p within));
      within = λ f long. below_on_sheet (w * h) (dilated w h os (eroded w h os f)) _ (length-map-range_with_len _ 0 (w * h)) (λ p within.
          rw cell_at (greatest_at_most (behind (eroded w h os f) p) (get_or f p 0) os (λ o m. elim (place_cases w h (pos (p % w) -ℤ o.0) (pos (p / w) -ℤ o.1)) [
            | inl on ↦ rw (height_on w h on.0 _ _ on.1 (eroded w h os f)) (eroded_at_most f on.0 o p m (leads_from on.0 o p within on.1))
            | inr off ↦ omega (arith, height_off w h _ _ off (eroded w h os f))
          ])));
      returns = λ f g long same below. below_on_sheet (w * h) _ _ long (λ p within.
          rw cell_at (at_most_least (ahead (dilated w h os f) p) (get_or f p 0) os (pos 0, pos 0) centre (λ o m. dilated_ahead f p o within m (λ off.
          let least = least_at_most (ahead g p) os o m in
          omega (arith, below p, cell_at w h (erosion_at w h os g) p within, height_off w h _ _ off g)))));
    }

    closing_pair_laws : ClosingPairLaws (w * h) (dilated w h os) (eroded_inside w h os)
    closing_pair_laws = record {
      swells = pair_laws.swells;
      shrinks = extremes_flat Minimum w h (λ m o. pos m +ℤ o.0) (λ n o. pos n +ℤ o.1) (λ m n. filter (λ o. on_sheet w h (pos m +ℤ o.0) (pos n +ℤ o.1)) os);
      above = λ f long. below_on_sheet (w * h) _ _ long (λ p within.
          let stays = λ (o : ℤ × ℤ). on_sheet w h (pos (p % w) +ℤ o.0) (pos (p / w) +ℤ o.1) in
          let kept = member_filter stays os (pos 0, pos 0) centre (on_at w h p _ _ (leads_here p within).1) in
          rw cell_at (at_most_least (ahead (dilated w h os f) p) (get_or f p 0) (filter stays os) (pos 0, pos 0) kept (λ o m.
          let passes = filter_member stays os o m in
          dilated_ahead f p o within passes.0 (λ off. absurd (both_ways _ off passes.1)))));
    }

-- the laws of an element's own offsets, where (0, 0) is one
pub erosion_and_dilation_are_pair : (e : Element) → ErosionAndDilationArePair e
erosion_and_dilation_are_pair e w h = pair_laws w h (offsets e) (offsets_law e).centre

pub dilation_and_erosion_inside_close : (e : Element) → DilationAndErosionInsideClose e
dilation_and_erosion_inside_close e w h = closing_pair_laws w h (offsets e) (offsets_law e).centre

-- Each call on a bench and on those of the masks: it is refused alike, and leaves and tells what is made up of what they leave and tell.
-- Assumes nothing.
use Rattle.std.proofs.Common.{List, length, [], ◌≡◌, ℕ, ◌+◌, ◌*◌, ◌≤◌, max, cond, leb, true, map, length, is_some, None, ℤ, pos, ◌+ℤ◌, ◌*ℤ◌, sym, refl, ap, ◌∙◌}
use Rattle.std.proofs.Math.IntN.{*ℤ-zero}
use Rattle.std.specs.Prelude.{unsigned_abs}
use Rattle.std.proofs.lemmas.List.{length-map}
use Rattle.elements.specs.declared.element.Element.{Element}
use Rattle.limits.specs.Faults.{told}
use Rattle.morphology.specs.declared.extremum.Extremum.{Extremum}
use Rattle.morphology.specs.declared.extremum.Extremum.TheVariants.{Minimum, Maximum}
use Rattle.morphology.specs.declared.operation.Operation.TheVariants.{Erosion, Dilation}
use Rattle.morphology.specs.Cells.{cut, extreme_of, joined, met}
use Rattle.morphology.specs.Sheets.{area}
use Rattle.bench.specs.Model.{sheet_of, tally_of}
use Rattle.bench.specs.Calls.{Making, begin_refusal, end_refusal, load_refusal, made_of, make_refusal, sheet_refusal}
use Rattle.calls.specs.Made.{by_element}
use Rattle.bench.proofs.Refusals.{load_accepted}
use Rattle.calls.specs.Queries.{show_sheet_refusal}
use Rattle.elements.specs.Elements.{offsets}
use Rattle.laws.specs.Sums.{ListSum, greatest_to, sum_to}
use Rattle.laws.proofs.ElementLaws.{erosion_and_dilation_are_pair}
use Rattle.laws.proofs.Skeletons.{pairs_restore}
use Rattle.laws.proofs.Spectra.{spectra_of_both}
use Rattle.laws.specs.Skeletons.{SkeletonLaws}
use Rattle.laws.specs.Spectra.{SpectrumLaws}
use Rattle.laws.specs.Sums.{HeightsAtMost}
use Rattle.laws.proofs.Sums.{list_fold_added, list_fold_kept, list_fold_same, over_same}
use Rattle.laws.proofs.SumsOfCuts.{area_over_cuts, extreme_over_cuts, swap_int_sums}
use Rattle.model.specs.Calls.{Call, Begin, End, Load, Erode, Dilate, Open, Close, Meet, Join, Regrow, Edge, Peak, Valley, Differ, Add, Scale, Area, Span, Spectrum, Skeleton, ShowSheet, ShowTally, SheetTold}
use Rattle.model.specs.ListCalls.{skeleton_refusal, spectrum_refusal}
use Rattle.model.specs.Steps.{Bench}
use Rattle.bench.specs.TallyCalls.{combine_refusal, difference_refusal}
use Rattle.calls.specs.ByElement.{opening_by, reconstruction_by, rounds_by, shrink, skeleton_by, swell}
use Rattle.calls.specs.OfSize.{of_size_refusal}
use Rattle.closings.specs.ByElement.{close, closing_by, spectrum_by}
use Rattle.tallies.specs.Scaling.{scale_refusal}
use Rattle.tallies.specs.Showing.{show_tally_refusal}
use Rattle.weights.specs.Weights.{Tally, WithinWeight, multiple, sum_of_tallies}
use Rattle.runs.proofs.Parts.{extreme_of_sheet, list_of, rounds_of, difference_of, leaves, refusal, the_first, the_second, told_by, with_sheet, with_tally}
use Rattle.runs.specs.Sums.{BenchSum, TallySum, ToldSum}
use Rattle.runs.specs.Theorems.{cut_at, in_heights}
use Rattle.runs.proofs.Accepted.{Sources, add_light, difference_sources, depth_listed, make_sources, scale_light, of_size_sources}
use Rattle.runs.proofs.Makings.{CutMaking, closing_making, closings_of, element_making, first_making, join_making, meet_making, opening_making, regrow_laws, regrow_making, second_making}
use Rattle.runs.proofs.Multiples.{multiple_of_sum}
use Rattle.runs.proofs.Reached.{Reached, begin_reached, end_reached, picture_topped, sheet_reached, tally_reached}
use Rattle.runs.proofs.Stored.{begin_sum, difference_sum, end_sum, made_cut, made_of_topped, made_sized, sheet_sum, tally_sum}
use Rattle.runs.proofs.Weights.{difference_within, multiple_within, sum_within}

-- a bench that a run reaches, and those that the same run reaches from the masks
pub record Goes (top : ℕ) (start b : Bench) (bs : ℕ → Bench) : Type 0 where
  pub sum : BenchSum top b bs
  pub reached : Reached top start b

-- the sum of two tallies, and a multiple of one, beside those of the masks
sum_of_tallies_sum : (top : ℕ) (t u : Tally) (ts us : ℕ → Tally) → TallySum top t ts → TallySum top u us → TallySum top (sum_of_tallies t u) (λ a. sum_of_tallies (ts a) (us a))
sum_of_tallies_sum top t u ts us one other = record {
  weight = λ a low. (λ i. one.weight a low i + other.weight a low i);
  cells = list_fold_added ◌+ℤ◌ (pos 0) refl swap_int_sums top t.cells u.cells (λ a. (ts a).cells) (λ a. (us a).cells) one.cells other.cells;
}

multiple_sum : (top : ℕ) (factor : ℤ) (t : Tally) (ts : ℕ → Tally) → TallySum top t ts → TallySum top (multiple factor t) (λ a. multiple factor (ts a))
multiple_sum top factor t ts one = record {
  weight = λ a low. ap (λ n. unsigned_abs factor * n) (one.weight a low);
  cells = list_fold_kept ◌+ℤ◌ (pos 0) (λ x. factor *ℤ x) (*ℤ-zero factor) (multiple_of_sum factor) top t.cells (λ a. (ts a).cells) one.cells;
}

-- the laws of the skeletons and the spectra by an element
pub skeletons_of : (e : Element) (w h : ℕ) → SkeletonLaws (w * h) (shrink e w h) (swell e w h)
skeletons_of e w h = pairs_restore (w * h) (shrink e w h) (swell e w h) (erosion_and_dilation_are_pair e w h)

pub spectra_of : (e : Element) (w h : ℕ) → SpectrumLaws (w * h) (close e w h) (shrink e w h) (swell e w h)
spectra_of e w h = spectra_of_both (w * h) (close e w h) (shrink e w h) (swell e w h) (closings_of e w h) (erosion_and_dilation_are_pair e w h)

module _ {X : Type 0} (height : X → ℕ) (top : ℕ) (bounded : (x : X) → height x ≤ top) (start b : Bench) (bs : ℕ → Bench) (g : Goes top start b bs) where
  -- every call is refused alike
  pub refused_alike : (c : Call X) (a : ℕ) → 1 ≤ a → refusal (bs a) (cut_at height a c) ≡ refusal b (in_heights height c)
  refused_alike (Begin flat) a low = λ i. begin_refusal (g.sum.rack a low i) (g.sum.slate a low i) flat
  refused_alike (End flat) a low = λ i. end_refusal (g.sum.rack a low i) (g.sum.slate a low i) flat
  refused_alike (Load place picture) a low = λ i. load_refusal (g.sum.rack a low i) place (length-map {B = ℕ} (map height picture) (λ x. cond (leb a x) 1 0) i)
  refused_alike (Erode e from to) a low = ap (λ o. make_refusal o from from to) (g.sum.rack a low)
  refused_alike (Dilate e from to) a low = ap (λ o. make_refusal o from from to) (g.sum.rack a low)
  refused_alike (Open e size from to) a low = ap (λ o. of_size_refusal o size from to) (g.sum.rack a low)
  refused_alike (Close e size from to) a low = ap (λ o. of_size_refusal o size from to) (g.sum.rack a low)
  refused_alike (Meet one other to) a low = ap (λ o. make_refusal o one other to) (g.sum.rack a low)
  refused_alike (Join one other to) a low = ap (λ o. make_refusal o one other to) (g.sum.rack a low)
  refused_alike (Regrow e marker upper to) a low = ap (λ o. make_refusal o marker upper to) (g.sum.rack a low)
  refused_alike (Edge e from to) a low = λ i. difference_refusal (g.sum.rack a low i) (g.sum.slate a low i) from from to
  refused_alike (Peak e from to) a low = λ i. difference_refusal (g.sum.rack a low i) (g.sum.slate a low i) from from to
  refused_alike (Valley e from to) a low = λ i. difference_refusal (g.sum.rack a low i) (g.sum.slate a low i) from from to
  refused_alike (Differ one other to) a low = λ i. difference_refusal (g.sum.rack a low i) (g.sum.slate a low i) one other to
  refused_alike (Add one other to) a low = λ i. combine_refusal (g.sum.slate a low i) (record { cells = []; weight = (g.sum.tallies one).weight a low i + (g.sum.tallies other).weight a low i }) one other to
  refused_alike (Scale factor from to) a low = λ i. scale_refusal (g.sum.slate a low i) (record { cells = []; weight = unsigned_abs factor * (g.sum.tallies from).weight a low i }) factor from to
  refused_alike (Area place) a low = ap (λ o. sheet_refusal o place) (g.sum.rack a low)
  refused_alike (Span place) a low = ap (λ o. sheet_refusal o place) (g.sum.rack a low)
  refused_alike (Spectrum e depth place len) a low = ap (λ o. spectrum_refusal o depth place len) (g.sum.rack a low)
  refused_alike (Skeleton e depth place len) a low = ap (λ o. skeleton_refusal o depth place len) (g.sum.rack a low)
  refused_alike (ShowSheet place len) a low = ap (λ o. show_sheet_refusal o place len) (g.sum.rack a low)
  refused_alike (ShowTally place len) a low = ap (λ o. show_tally_refusal o place len) (g.sum.slate a low)

  -- a sheet made of two places, and a tally made of two sheets so made, where a visit is open and the sources are filled
  made_goes : (made : Making) → CutMaking made → (one other to : ℕ) → Sources b.rack.outline one other → Goes top start (with_sheet b to (made_of made b.rack one other)) (λ a. with_sheet (bs a) to (made_of made (bs a).rack one other))
  made_goes made M one other to src = record {
    sum = sheet_sum top b bs g.sum to (made_of made b.rack one other) (λ a. made_of made (bs a).rack one other) (made_cut top b bs g.sum g.reached.held one other src.one_filled src.other_filled made M);
    reached = sheet_reached top start b g.reached to (made_of made b.rack one other) src.visit
        (made_sized top b bs g.sum g.reached.held one other src.one_filled src.other_filled made M) (made_of_topped top b bs g.sum g.reached.held one other src.one_filled src.other_filled made M);
  }

  tally_goes : (to : ℕ) (t : Tally) (ts : ℕ → Tally) → TallySum top t ts → is_some b.slate.outline.visit ≡ true → WithinWeight top t → Goes top start (with_tally b to t) (λ a. with_tally (bs a) to (ts a))
  tally_goes to t ts sums visit within = record { sum = tally_sum top b bs g.sum to t ts sums; reached = tally_reached top start b g.reached to t visit within }

  difference_goes : (more less : Making) → CutMaking more → CutMaking less → (one other to : ℕ) → Sources b.rack.outline one other × (is_some b.slate.outline.visit ≡ true)
      → Goes top start (with_tally b to (difference_of more less b one other)) (λ a. with_tally (bs a) to (difference_of more less (bs a) one other))
  difference_goes more less M L one other to (src, visit) =
      tally_goes to (difference_of more less b one other) (λ a. difference_of more less (bs a) one other)
      (difference_sum top b bs g.sum g.reached.held one other src.one_filled src.other_filled more less M L) visit
      (difference_within top (made_of more b.rack one other) (made_of less b.rack one other)
      (made_of_topped top b bs g.sum g.reached.held one other src.one_filled src.other_filled more M) (made_of_topped top b bs g.sum g.reached.held one other src.one_filled src.other_filled less L))

  -- what every accepted call leaves
  pub leaves_goes : (c : Call X) → refusal b (in_heights height c) ≡ None → Goes top start (leaves b (in_heights height c)) (λ a. leaves (bs a) (cut_at height a c))
  leaves_goes (Begin flat) h = record { sum = begin_sum top b bs g.sum flat; reached = begin_reached top start b g.reached flat }
  leaves_goes (End flat) h = record { sum = end_sum top b bs g.sum; reached = end_reached top start b g.reached }
  leaves_goes (Load place picture) h =
      let accepted = load_accepted b.rack.outline place (length (map height picture)) (sym (ap told h)) in
      record {
        sum = sheet_sum top b bs g.sum place (map height picture) (λ a. cut a (map height picture)) (λ a low. refl);
        reached = sheet_reached top start b g.reached place (map height picture) accepted.2 accepted.0 (picture_topped height top bounded picture);
      }
  leaves_goes (Erode e from to) h = made_goes (by_element Erosion (offsets e)) (element_making Erosion e) from from to (make_sources b.rack.outline from from to h)
  leaves_goes (Dilate e from to) h = made_goes (by_element Dilation (offsets e)) (element_making Dilation e) from from to (make_sources b.rack.outline from from to h)
  leaves_goes (Open e size from to) h = made_goes (opening_by e size) (opening_making e size) from from to (of_size_sources b.rack.outline size from to h)
  leaves_goes (Close e size from to) h = made_goes (closing_by e size) (closing_making e size) from from to (of_size_sources b.rack.outline size from to h)
  leaves_goes (Meet one other to) h = made_goes (λ w h. met) meet_making one other to (make_sources b.rack.outline one other to h)
  leaves_goes (Join one other to) h = made_goes (λ w h. joined) join_making one other to (make_sources b.rack.outline one other to h)
  leaves_goes (Regrow e marker upper to) h = made_goes (reconstruction_by e) (regrow_making e) marker upper to (make_sources b.rack.outline marker upper to h)
  leaves_goes (Edge e from to) h = difference_goes the_first (by_element Erosion (offsets e)) first_making (element_making Erosion e) from from to (difference_sources b.rack.outline b.slate.outline from from to h)
  leaves_goes (Peak e from to) h = difference_goes the_first (opening_by e 1) first_making (opening_making e 1) from from to (difference_sources b.rack.outline b.slate.outline from from to h)
  leaves_goes (Valley e from to) h = difference_goes (closing_by e 1) the_first (closing_making e 1) first_making from from to (difference_sources b.rack.outline b.slate.outline from from to h)
  leaves_goes (Differ one other to) h = difference_goes the_first the_second first_making second_making one other to (difference_sources b.rack.outline b.slate.outline one other to h)
  leaves_goes (Add one other to) h =
      let light = add_light b.slate.outline (sum_of_tallies (tally_of b.slate one) (tally_of b.slate other)) one other to h in
      tally_goes to (sum_of_tallies (tally_of b.slate one) (tally_of b.slate other)) (λ a. sum_of_tallies (tally_of (bs a).slate one) (tally_of (bs a).slate other))
      (sum_of_tallies_sum top (tally_of b.slate one) (tally_of b.slate other) (λ a. tally_of (bs a).slate one) (λ a. tally_of (bs a).slate other) (g.sum.tallies one) (g.sum.tallies other))
      light.0 (sum_within top (tally_of b.slate one) (tally_of b.slate other) (g.reached.tallies one) (g.reached.tallies other) light.1)
  leaves_goes (Scale factor from to) h =
      let light = scale_light b.slate.outline (multiple factor (tally_of b.slate from)) factor from to h in
      tally_goes to (multiple factor (tally_of b.slate from)) (λ a. multiple factor (tally_of (bs a).slate from))
      (multiple_sum top factor (tally_of b.slate from) (λ a. tally_of (bs a).slate from) (g.sum.tallies from))
      light.0 (multiple_within top factor (tally_of b.slate from) (g.reached.tallies from) light.1)
  leaves_goes (Area place) h = g
  leaves_goes (Span place) h = g
  leaves_goes (Spectrum e depth place len) h = g
  leaves_goes (Skeleton e depth place len) h = g
  leaves_goes (ShowSheet place len) h = g
  leaves_goes (ShowTally place len) h = g

  -- what is told of the sheets in filled places
  abbrev w : ℕ
  w = b.rack.outline.w

  abbrev tall : ℕ
  tall = b.rack.outline.h

  rounds_told : (e : Element) (marker upper : ℕ) → Sources b.rack.outline marker upper → rounds_of e b marker upper ≡ greatest_to top (λ a. rounds_of e (bs a) marker upper)
  rounds_told e marker upper src =
      (regrow_laws e w tall).most_rounds top (sheet_of b.rack marker) (sheet_of b.rack upper)
      (g.reached.held.sized marker src.one_filled) (g.reached.held.sized upper src.other_filled) (g.reached.held.topped upper)
      ∙ over_same max 0 top _ _ (λ a low. sym (λ i. rounds_by e (g.sum.rack a low i).w (g.sum.rack a low i).h (g.sum.sheets a marker low i) (g.sum.sheets a upper low i)))

  -- a list that is told of a sheet, where it is the sum of those of the cuts
  list_told : (made : ℕ → ℕ → List ℕ → List ℕ)
      → ((f : List ℕ) → length f ≡ w * tall → HeightsAtMost top f → ListSum top (made w tall f) (λ a. made w tall (cut a f)))
      → (place : ℕ) → b.rack.outline.filled place ≡ true → ListSum top (list_of made b place) (λ a. list_of made (bs a) place)
  list_told made sums place filled = list_fold_same ◌+◌ 0 top _ _ _
      (λ a low. sym (λ i. made (g.sum.rack a low i).w (g.sum.rack a low i).h (g.sum.sheets a place low i)))
      (sums (sheet_of b.rack place) (g.reached.held.sized place filled) (g.reached.held.topped place))

  extreme_told : (which : Extremum) (place : ℕ) → extreme_of which (sheet_of b.rack place) ≡ sum_to top (λ a. extreme_of which (sheet_of (bs a).rack place))
  extreme_told which place = extreme_over_cuts which top (sheet_of b.rack place) (g.reached.held.topped place) ∙ over_same ◌+◌ 0 top _ _ (λ a low. ap (extreme_of which) (sym (g.sum.sheets a place low)))

  -- what every accepted call tells
  pub told_sum : (c : Call X) → refusal b (in_heights height c) ≡ None → ToldSum top (told_by b (in_heights height c)) (λ a. told_by (bs a) (cut_at height a c))
  told_sum (Begin flat) h = λ a low. refl
  told_sum (End flat) h = λ a low. refl
  told_sum (Load place picture) h = λ a low. refl
  told_sum (Erode e from to) h = λ a low. refl
  told_sum (Dilate e from to) h = λ a low. refl
  told_sum (Open e size from to) h = λ a low. refl
  told_sum (Close e size from to) h = λ a low. refl
  told_sum (Meet one other to) h = λ a low. refl
  told_sum (Join one other to) h = λ a low. refl
  told_sum (Regrow e marker upper to) h =
      ((λ a. rounds_of e (bs a) marker upper), (λ a low. refl), rounds_told e marker upper (make_sources b.rack.outline marker upper to h))
  told_sum (Edge e from to) h = λ a low. refl
  told_sum (Peak e from to) h = λ a low. refl
  told_sum (Valley e from to) h = λ a low. refl
  told_sum (Differ one other to) h = λ a low. refl
  told_sum (Add one other to) h = λ a low. refl
  told_sum (Scale factor from to) h = λ a low. refl
  told_sum (Area place) h = (
    (λ a. area (sheet_of (bs a).rack place)),
    (λ a low. refl),
    area_over_cuts top (sheet_of b.rack place) (g.reached.held.topped place) ∙ over_same ◌+◌ 0 top _ _ (λ a low. ap area (sym (g.sum.sheets a place low))),
  )
  told_sum (Span place) h =
      ((λ a. extreme_of_sheet Minimum (bs a) place), (λ a. extreme_of_sheet Maximum (bs a) place), (λ a low. refl), extreme_told Minimum place, extreme_told Maximum place)
  told_sum (Spectrum e depth place len) h = (
    (λ a. list_of (spectrum_by e depth) (bs a) place),
    (λ a low. refl),
    list_told (spectrum_by e depth) ((spectra_of e w tall).sums top depth) place (depth_listed b.rack.outline depth place len _ h).filled,
  )
  told_sum (Skeleton e depth place len) h = (
    (λ a. list_of (skeleton_by e depth) (bs a) place),
    (λ a low. refl),
    list_told (skeleton_by e depth) ((skeletons_of e w tall).sums top depth) place (depth_listed b.rack.outline depth place len _ h).filled,
  )
  told_sum (ShowSheet place len) h = λ a low. ap SheetTold (g.sum.sheets a place low)
  told_sum (ShowTally place len) h = ((λ a. tally_of (bs a).slate place), (λ a low. refl), g.sum.tallies place)

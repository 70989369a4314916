-- The laws of pattern spectra, from those of openings and closings. Assumes nothing.
use Rattle.std.proofs.Common.{◌≡◌, ℕ, zero, suc, ◌+◌, ◌-◌, ◌≤◌, List, [], ◌∷◌, map, length, take, sym, refl, ap, ◌∙◌, add-one, add-zero, zero-add, arith}
use Rattle.std.specs.Prelude.{sum}
use Rattle.std.specs.List.{range_with_len}
use Rattle.std.proofs.lemmas.List.Sums.{fold_push}
use Rattle.std.proofs.lemmas.List.{take-append-le, drop_at, length-append}
use Rattle.std.proofs.lemmas.List.FromFn.{length-map-range_with_len}
use Rattle.morphology.specs.Cells.{cut}
use Rattle.morphology.specs.Sheets.{area}
use Rattle.operators.specs.Closings.{closing_entries}
use Rattle.operators.specs.Openings.{opening}
use Rattle.operators.specs.Spectra.{opening_entry, opening_spectrum}
use Rattle.laws.specs.Openings.{OpeningLaws}
use Rattle.laws.specs.Pairs.{PairLaws}
use Rattle.laws.specs.Spectra.{PairsHaveSpectra, SpectraOfBoth}
use Rattle.laws.specs.Sums.{ListSum, HeightsAtMost}
use Rattle.laws.proofs.Cells.{area-cons}
use Rattle.laws.proofs.ClosingEntries.{closings_have_entries}
use Rattle.laws.proofs.Entries.{entry_over_cuts, less_area, made_area_over_cuts}
use Rattle.laws.proofs.Openings.{pairs_open}
use Rattle.laws.proofs.Sums.{list_fold_append, list_fold_map, list_fold_one}

-- differences of numbers that fall, one after the other, up to the last of these numbers
telescope : (area_at : ℕ → ℕ) → ((n : ℕ) → area_at (n + 1) ≤ area_at n) → (from n : ℕ)
    → sum (map (λ k. area_at k - area_at (k + 1)) (range_with_len from n)) + area_at (from + n) ≡ area_at from
telescope area_at falls from zero = rw (add-zero, zero-add) refl
telescope area_at falls from (suc n) =
    let one = falls from in
    let place : (from + 1) + n ≡ from + suc n = omega arith in
    let rest = telescope area_at falls (from + 1) n in
    let more = area-cons (area_at from - area_at (from + 1)) (map (λ k. area_at k - area_at (k + 1)) (range_with_len (from + 1) n)) in
    let last = ap area_at place in
    omega arith

take-range : {X : Type 0} (f : ℕ → X) (from n most : ℕ) → n ≤ most → take n (map f (range_with_len from most)) ≡ map f (range_with_len from n)
take-range f from zero most few = refl
take-range f from (suc n) zero few = absurd (omega arith)
take-range f from (suc n) (suc most) few = ap (λ xs. f from ∷ xs) (take-range f (from + 1) n most (omega arith))

module _ (cells : ℕ) (shrink swell : List ℕ → List ℕ) (pair : PairLaws cells shrink swell) where
  openings : OpeningLaws cells shrink swell
  openings = pairs_open cells shrink swell pair

  falling : (n : ℕ) (f : List ℕ) → length f ≡ cells → area (opening shrink swell (n + 1) f) ≤ area (opening shrink swell n f)
  falling n = rw add-one (less_area cells (opening shrink swell n) (opening shrink swell (suc n)) (openings.flat n) (openings.flat (suc n)) (openings.fall n))

  module _ (depth : ℕ) (f : List ℕ) (long : length f ≡ cells) where
    abbrev entries : ℕ → List ℕ
    entries n = map (opening_entry shrink swell f) (range_with_len 0 n)

    -- the entries from size 0 to below n, and the area of the opening of size n
    entries_below : (n : ℕ) → sum (entries n) + area (opening shrink swell n f) ≡ area f
    entries_below n =
        ap (λ k. sum (entries n) + area (opening shrink swell k f)) (sym (zero-add n))
        ∙ telescope (λ k. area (opening shrink swell k f)) (λ k. falling k f long) 0 n

    removed : (n : ℕ) → n ≤ depth → sum (take n (opening_spectrum shrink swell depth f)) + area (opening shrink swell n f) ≡ area f
    removed n few =
        let within : n ≤ length (entries depth) = rw length-map-range_with_len few in
        ap (λ xs. sum xs + area (opening shrink swell n f))
        (take-append-le n (entries depth) (area (opening shrink swell depth f) ∷ []) within ∙ take-range (opening_entry shrink swell f) 0 n depth few)
        ∙ entries_below n

    total : sum (opening_spectrum shrink swell depth f) ≡ area f
    total = fold_push ◌+◌ 0 (entries depth) (area (opening shrink swell depth f)) ∙ entries_below depth

    over_cuts : (top : ℕ) → HeightsAtMost top f → ListSum top (opening_spectrum shrink swell depth f) (λ a. opening_spectrum shrink swell depth (cut a f))
    over_cuts top t =
        list_fold_append ◌+◌ 0 top (entries depth) (area (opening shrink swell depth f) ∷ []) _ _
        (list_fold_map ◌+◌ 0 refl top (range_with_len 0 depth) (opening_entry shrink swell f) (λ a. opening_entry shrink swell (cut a f))
        (λ n. entry_over_cuts cells (opening shrink swell n) (opening shrink swell (n + 1)) (openings.flat n) (openings.flat (n + 1)) (falling n) top f long t))
        (list_fold_one ◌+◌ 0 refl top (area (opening shrink swell depth f)) (λ a. area (opening shrink swell depth (cut a f)))
        (made_area_over_cuts cells (opening shrink swell depth) (openings.flat depth) top f long t))

pub pairs_have_spectra : PairsHaveSpectra
pairs_have_spectra cells shrink swell pair = record {
  falling = falling cells shrink swell pair;
  long = λ depth f long. simp (length-append, length-map-range_with_len);
  removed = λ depth n f long few. removed cells shrink swell pair depth f long n few;
  total = total cells shrink swell pair;
  sums = λ top depth f long t. over_cuts cells shrink swell pair depth f long top t;
}

pub spectra_of_both : SpectraOfBoth
spectra_of_both cells close shrink swell closings pair =
    let negative = closings_have_entries cells close closings in
    let positive = pairs_have_spectra cells shrink swell pair in
    let behind = λ (depth : ℕ) (f : List ℕ) (long : length f ≡ cells). drop_at (closing_entries close depth f) (opening_spectrum shrink swell depth f) depth (negative.long depth f long) in
    record {
      long = λ depth f long. length-append (closing_entries close depth f) (opening_spectrum shrink swell depth f) ∙ omega (arith, negative.long depth f long, positive.long depth f long);
      openings = behind;
      total = λ depth f long. ap sum (behind depth f long) ∙ positive.total depth f long;
      sums = λ top depth f long t. list_fold_append ◌+◌ 0 top (closing_entries close depth f) (opening_spectrum shrink swell depth f) _ _
          (negative.sums top depth f long t) (positive.sums top depth f long t);
    }

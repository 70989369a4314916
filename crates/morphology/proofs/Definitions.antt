-- What a sweep by an element with (0, 0) comes to is the definition of erosion and of dilation. Assumes nothing.
use Rattle.std.proofs.Common.{◌≡◌, ℕ, zero, suc, ◌+◌, ◌*◌, ◌/◌, ◌%◌, ◌<◌, ◌≤◌, Bool, true, false, List, [], ◌∷◌, map, length, get_or, ℤ, pos, fold, refl, ◌∙◌, add-zero, mul_comm, arith}
use Rattle.std.proofs.lemmas.Nat.{div-add-mod', div_below, mod_below}
use Rattle.std.proofs.lemmas.List.FromFn.{fill_by_all}
use Rattle.std.proofs.lemmas.Bool.{lt-ltb, false≢true}
use Rattle.elements.specs.Offsets.{flagged, offset_at}
use Rattle.morphology.specs.declared.extremum.Extremum.{Extremum}
use Rattle.morphology.specs.declared.operation.Operation.{Operation}
use Rattle.morphology.specs.declared.operation.Operation.TheVariants.{Erosion, Dilation}
use Rattle.morphology.specs.declared.extremum.Extremum.TheVariants.{Minimum, Maximum}
use Rattle.morphology.specs.Sheets.{height_at, at_place}
use Rattle.morphology.specs.Erosion.{erosion_at, dilation_at}
use Rattle.morphology.specs.Erosion.{operated}
use Rattle.morphology.specs.Passes.{extreme, read_at, swept}
use Rattle.morphology.proofs.Extremes.{absorbs_right, absorbs_start, fold_is_least, fold_is_greatest}

-- what is read at (0, 0) is the cell's own height
own_height : (op : Operation) (w h : ℕ) (f : List ℕ) (p : ℕ) → 1 ≤ w → p < w * h → read_at op w h f (p % w) (p / w) (offset_at 24) ≡ get_or f p 0
own_height op w h f p wide on = at_origin op ∙ rw (add-zero, add-zero, lt-ltb _ _ (mod_below p w wide), lt-ltb _ _ row, div-add-mod') refl
  where
    row : p / w < h
    row = div_below p w h wide (rw mul_comm on)

    at_origin : (op : Operation) → read_at op w h f (p % w) (p / w) (offset_at 24) ≡ height_at w h f (pos (p % w + 0)) (pos (p / w + 0))
    at_origin Erosion = refl
    at_origin Dilation = refl

-- a fold over the offsets absorbs what is read at each of them
absorbs_flag : (which : Extremum) (v : ℤ × ℤ → ℕ) (a k i : ℕ) (bs : List Bool) → get_or bs i false ≡ true → extreme which (fold (extreme which) a (map v (flagged k bs))) (v (offset_at (k + i))) ≡ fold (extreme which) a (map v (flagged k bs))
absorbs_flag which v a k zero [] held = absurd (false≢true held)
absorbs_flag which v a k (suc i) [] held = absurd (false≢true held)
absorbs_flag which v a k zero (true ∷ bs) held =
    rw add-zero (absorbs_right which _ a (v (offset_at k)) (absorbs_start which (extreme which a (v (offset_at k))) (map v (flagged (k + 1) bs))))
absorbs_flag which v a k zero (false ∷ bs) held = absurd (false≢true held)
absorbs_flag which v a k (suc i) (b ∷ bs) held =
    let place : (k + 1) + i ≡ k + suc i = omega arith in
    elim b as (λ t. extreme which (fold (extreme which) a (map v (flagged k (t ∷ bs)))) (v (offset_at (k + suc i))) ≡ fold (extreme which) a (map v (flagged k (t ∷ bs)))) [
      | true ↦ rw (← place) (absorbs_flag which v (extreme which a (v (offset_at k))) (k + 1) i bs held)
      | false ↦ rw (← place) (absorbs_flag which v a (k + 1) i bs held)
    ]

module _ (w h : ℕ) (f : List ℕ) (flags : List Bool) (wide : 1 ≤ w) (centre : get_or flags 24 false ≡ true) where
  swept_erosion : (p : ℕ) → p < w * h → swept Erosion w h f (flagged 0 flags) p ≡ at_place w (erosion_at w h (flagged 0 flags) f) p
  swept_erosion p on =
      let own = own_height Erosion w h f p wide on in
      let reach = read_at Erosion w h f (p % w) (p / w) in
      let low = absorbs_flag Minimum reach (suc (get_or f p 0)) 0 24 flags centre in
      fold_is_least (get_or f p 0) (map reach (flagged 0 flags)) (omega arith)

  swept_dilation : (p : ℕ) → p < w * h → swept Dilation w h f (flagged 0 flags) p ≡ at_place w (dilation_at w h (flagged 0 flags) f) p
  swept_dilation p on =
      let own = own_height Dilation w h f p wide on in
      let reach = read_at Dilation w h f (p % w) (p / w) in
      let high = absorbs_flag Maximum reach 0 0 24 flags centre in
      fold_is_greatest (get_or f p 0) (map reach (flagged 0 flags)) (omega arith)

  -- a list of w × h heights, each of them swept, is what the operation makes of the sheet
  pub swept-operated : (op : Operation) (xs : List ℕ) → length xs ≡ w * h → ((p : ℕ) → p < w * h → get_or xs p 0 ≡ swept op w h f (flagged 0 flags) p) → xs ≡ operated op w h (flagged 0 flags) f
  swept-operated Erosion xs long at = fill_by_all (at_place w (erosion_at w h (flagged 0 flags) f)) xs (w * h) 0 long (λ p on. at p on ∙ swept_erosion p on)
  swept-operated Dilation xs long at = fill_by_all (at_place w (dilation_at w h (flagged 0 flags) f)) xs (w * h) 0 long (λ p on. at p on ∙ swept_dilation p on)

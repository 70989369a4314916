-- A sweep over an element's square, one flag more at a time, and what it comes to at the end. Assumes nothing.
use Rattle.std.proofs.Common.{◌≡◌, ℕ, zero, suc, ◌+◌, ◌/◌, ◌%◌, ◌<◌, Bool, true, false, cond, List, [], ◌∷◌, ◌++◌, map, get_or, take, ℤ, fold, sym, refl, ap, ◌∙◌, add-zero, zero-add, add-one, arith}
use Rattle.std.proofs.lemmas.List.{append-nil, map_push}
use Rattle.std.proofs.lemmas.List.Sums.{fold_push}
use Rattle.elements.specs.Offsets.{flagged, offset_at}
use Rattle.morphology.specs.declared.operation.Operation.{Operation}
use Rattle.morphology.specs.Sheets.{at_place}
use Rattle.morphology.specs.Passes.{extreme, kept_by, neighbour, read_at, swept, turned}
use Rattle.morphology.proofs.ReadAt.{neighbour-read_at}

-- the offsets of one flag more
flagged_more : (k i : ℕ) (bs : List Bool) → flagged k (take (suc i) bs) ≡ flagged k (take i bs) ++ cond (get_or bs i false) (offset_at (k + i) ∷ []) []
flagged_more k zero [] = refl
flagged_more k (suc i) [] = refl
flagged_more k zero (true ∷ bs) = rw add-zero refl
flagged_more k zero (false ∷ bs) = refl
flagged_more k (suc i) (b ∷ bs) =
    let place : (k + 1) + i ≡ k + suc i = omega arith in
    let rest = flagged_more (k + 1) i bs ∙ ap (λ n. flagged (k + 1) (take i bs) ++ cond (get_or bs i false) (offset_at n ∷ []) []) place in
    elim b as (λ v. flagged k (v ∷ take (suc i) bs) ≡ flagged k (v ∷ take i bs) ++ cond (get_or bs i false) (offset_at (k + suc i) ∷ []) []) [
      | true ↦ ap (λ xs. offset_at k ∷ xs) rest
      | false ↦ rest
    ]

module _ (flags : List Bool) (i : ℕ) where
  pub flagged_set : get_or flags i false ≡ true → flagged 0 (take (i + 1) flags) ≡ flagged 0 (take i flags) ++ offset_at i ∷ []
  flagged_set held = rw add-one (flagged_more 0 i flags ∙ rw (held, zero-add) refl)

  pub flagged_clear : get_or flags i false ≡ false → flagged 0 (take (i + 1) flags) ≡ flagged 0 (take i flags)
  flagged_clear missing = rw add-one (flagged_more 0 i flags ∙ rw missing (append-nil _))

module _ (op : Operation) (w h : ℕ) (f : List ℕ) (p : ℕ) where
  pub swept-push : (offsets : List (ℤ × ℤ)) (o : ℤ × ℤ) → swept op w h f (offsets ++ o ∷ []) p ≡ extreme (kept_by op) (swept op w h f offsets p) (read_at op w h f (p % w) (p / w) o)
  swept-push offsets o =
      let reach = read_at op w h f (p % w) (p / w) in
      ap (fold (extreme (kept_by op)) (get_or f p 0)) (map_push reach offsets o) ∙ fold_push (extreme (kept_by op)) (get_or f p 0) (map reach offsets) (reach o)

  -- one turn of the sweep, at a flag that is set and at one that is not: x is the cell before it, and y after
  pub sweep_set : (flags : List Bool) (i x y : ℕ) → i < 49 → get_or flags i false ≡ true → x ≡ swept op w h f (flagged 0 (take i flags)) p → y ≡ extreme (kept_by op) x (at_place w (neighbour w h f (turned op (i % 7)) (turned op (i / 7))) p) → y ≡ swept op w h f (flagged 0 (take (i + 1) flags)) p
  sweep_set flags i x y on held was is =
      is ∙ ap (λ z. extreme (kept_by op) z (at_place w (neighbour w h f (turned op (i % 7)) (turned op (i / 7))) p)) was
      ∙ ap (extreme (kept_by op) _) (neighbour-read_at op w h f i (p % w) (p / w) on)
      ∙ sym (ap (λ os. swept op w h f os p) (flagged_set flags i held) ∙ swept-push (flagged 0 (take i flags)) (offset_at i))

  pub sweep_clear : (flags : List Bool) (i x : ℕ) → get_or flags i false ≡ false → x ≡ swept op w h f (flagged 0 (take i flags)) p → x ≡ swept op w h f (flagged 0 (take (i + 1) flags)) p
  sweep_clear flags i x missing was = was ∙ sym (ap (λ os. swept op w h f os p) (flagged_clear flags i missing))

-- Sums of heights, cell by cell, and cells that are too high. Assumes nothing.
use Rattle.std.proofs.Common.{◌≡◌, ℕ, zero, suc, ◌+◌, ◌-◌, ◌*◌, ◌<◌, ◌≤◌, true, false, List, [], ◌∷◌, map, length, get_or, set, replicate, refl, sym, ap, ◌∙◌, inl, inr, nat_lt, zero-add, add-zero, add-one, arith}
use Rattle.std.proofs.lemmas.Bool.{cases_lt, le-ltb, lt-ltb}
use Rattle.std.proofs.lemmas.List.{get_or-set_same, get_or-set_other, length-map, map-set}
use Rattle.std.proofs.lemmas.List.Folds.{list_any_at}
use Rattle.std.specs.List.{list_any}
use Rattle.levels.specs.declared.number.Number.{Number}
use Rattle.morphology.proofs.TakenTogether.{get_or-cell_by_cell, length-cell_by_cell}
use Rattle.operators.specs.Restoring.{piece_of, plus, rebuilt}
use Rattle.laws.specs.Maps.{Below}
use Rattle.laws.proofs.Skeletons.{piece_long, rebuilt_long, rebuilt_rises}
use Rattle.restoring.specs.Numbers.{heights_of}

-- the heights before place k are sums, and so is the one that is then written there
pub sums_more : {X : Type 0} (height : X → ℕ) (sums : List X) (f g : List ℕ) (k : ℕ) (x : X) → k < length sums → height x ≡ get_or f k 0 + get_or g k 0
    → ((j : ℕ) → j < k → get_or (map height sums) j 0 ≡ get_or f j 0 + get_or g j 0)
    → (j : ℕ) → j < k + 1 → get_or (map height (set sums k x)) j 0 ≡ get_or f j 0 + get_or g j 0
sums_more height sums f g k x within here before j low = rw map-set (elim (cases_lt j k) [
  | inl earlier ↦ get_or-set_other (map height sums) k j (height x) 0 (omega arith) ∙ before j earlier
  | inr last ↦
      let same : j ≡ k = omega arith in
      rw same (get_or-set_same (map height sums) k (height x) 0 (rw length-map within) ∙ here)
])

-- a sum that is too high
pub sum_too_high : (f g : List ℕ) (k : ℕ) → length f ≡ length g → k < length f → 65536 < get_or f k 0 + get_or g k 0
    → list_any (nat_lt 65536) (plus f g) ≡ true
sum_too_high f g k same within high =
    list_any_at (nat_lt 65536) (plus f g) k 0 (rw (length-cell_by_cell ◌+◌ f g same) within)
    (rw (get_or-cell_by_cell ◌+◌ f g k 0 0 same refl) (lt-ltb 65536 (get_or f k 0 + get_or g k 0) high))

-- a list of one number, of height 0
pub heights_of_none : (n : ℕ) (none : Number) → none.value ≡ 0 → heights_of (replicate n none) ≡ replicate n 0
heights_of_none zero none low = refl
heights_of_none (suc n) none low = λ i. low i ∷ heights_of_none n none low i

-- no number is too high
pub none_too_high : (numbers : List Number) → list_any (nat_lt 65536) (heights_of numbers) ≡ false
none_too_high [] = refl
none_too_high (n ∷ numbers) = rw (le-ltb 65536 n.value n.fits) (none_too_high numbers)

-- a piece added to a sheet of zeros
pub added_to_none : (n : ℕ) (g : List ℕ) → length g ≡ n → plus (replicate n 0) g ≡ g
added_to_none zero [] long = refl
added_to_none zero (y ∷ g) long = absurd (omega arith)
added_to_none (suc n) [] long = absurd (omega arith)
added_to_none (suc n) (y ∷ g) long = λ i. zero-add y i ∷ added_to_none n g (omega arith) i

-- where a sheet is too high, so is one that is nowhere below it
high_above : (f g : List ℕ) → length f ≡ length g → Below f g → list_any (nat_lt 65536) f ≡ true → list_any (nat_lt 65536) g ≡ true
high_above [] [] same below high = high
high_above [] (y ∷ g) same below high = absurd (omega arith)
high_above (x ∷ f) [] same below high = absurd (omega arith)
high_above (x ∷ f) (y ∷ g) same below high =
    let first : x ≤ y = below 0 in
    elim (cases_lt 65536 y) [
      | inl over ↦ rw (lt-ltb 65536 y over) refl
      | inr low ↦ rw (le-ltb 65536 y low) (high_above f g (omega arith) (λ p. below (suc p)) (rw (le-ltb 65536 x (omega arith)) at high))
    ]

-- what is rebuilt of any list of pieces by a map that swells: where it is too high it stays so
module _ (cells : ℕ) (swell : List ℕ → List ℕ) (keeps : (f : List ℕ) → length f ≡ cells → length (swell f) ≡ cells) (above : (f : List ℕ) → length f ≡ cells → Below f (swell f))
    (depth : ℕ) (pieces : List ℕ) (long : length pieces ≡ (depth + 1) * cells) where
  high_later : (n d : ℕ) → n + d ≤ depth → list_any (nat_lt 65536) (rebuilt swell cells depth pieces n) ≡ true
      → list_any (nat_lt 65536) (rebuilt swell cells depth pieces (n + d)) ≡ true
  high_later n zero within high = rw add-zero high
  high_later n (suc d) within high =
      let next : n + suc d ≡ n + d + 1 = omega arith in
      rw next (high_above (rebuilt swell cells depth pieces (n + d)) (rebuilt swell cells depth pieces (n + d + 1))
      (rebuilt_long cells swell keeps above depth pieces long (n + d) (omega arith)
      ∙ sym (rebuilt_long cells swell keeps above depth pieces long (n + d + 1) (omega arith)))
      (rebuilt_rises cells swell keeps above depth pieces long (n + d) (omega arith)) (high_later n d (omega arith) high))

  -- the last piece, added to zeros; and one more piece
  pub first_rebuilt : (blank piece : List ℕ) → blank ≡ replicate cells 0 → piece ≡ piece_of cells pieces depth
      → plus blank piece ≡ rebuilt swell cells depth pieces 0
  first_rebuilt blank piece none is =
      (λ i. plus (none i) (is i)) ∙ added_to_none cells (piece_of cells pieces depth) (piece_long cells swell keeps above depth pieces long depth (omega arith))

  pub next_rebuilt : (n : ℕ) (now swollen piece : List ℕ) → now ≡ rebuilt swell cells depth pieces n → swollen ≡ swell now
      → piece ≡ piece_of cells pieces (depth - n - 1) → plus swollen piece ≡ rebuilt swell cells depth pieces (n + 1)
  next_rebuilt n now swollen piece so_far grown is =
      let place : depth - n - 1 ≡ depth - suc n = omega arith in
      (λ i. plus ((grown ∙ ap swell so_far) i) ((is ∙ ap (piece_of cells pieces) place) i)) ∙ ap (rebuilt swell cells depth pieces) (sym (add-one n))

  -- a sum on the way that is too high makes the last one so
  pub stays_high : (n m : ℕ) (sum : List ℕ) → sum ≡ rebuilt swell cells depth pieces n → n ≤ m → m ≤ depth → list_any (nat_lt 65536) sum ≡ true
      → list_any (nat_lt 65536) (rebuilt swell cells depth pieces m) ≡ true
  stays_high n m sum is earlier within high =
      let all : n + (m - n) ≡ m = omega arith in
      ap (λ k. list_any (nat_lt 65536) (rebuilt swell cells depth pieces k)) (sym all)
      ∙ high_later n (m - n) (omega arith) (ap (list_any (nat_lt 65536)) (sym is) ∙ high)

-- The laws of skeletons, from those of a pair. Assumes nothing.
use Rattle.std.proofs.Common.{add-one, get_or, ◌≡◌, ℕ, zero, suc, ◌+◌, ◌-◌, ◌*◌, ◌<◌, ◌≤◌, List, [], ◌∷◌, ◌++◌, length, take, sym, refl, ap, ◌∙◌, inl, inr, append_assoc, add-mul, one-mul, arith}
use Rattle.std.proofs.Math.Nat.{suc-mul}
use Rattle.std.proofs.lemmas.Nat.{mul-le}
use Rattle.std.proofs.lemmas.Bool.{cases_lt}
use Rattle.std.proofs.lemmas.List.{length-drop, length-take, append-nil, drop_at, length-append, take_at}
use Rattle.morphology.specs.Cells.{cut}
use Rattle.operators.specs.Maps.{times}
use Rattle.laws.specs.Maps.{Below}
use Rattle.operators.specs.Openings.{opening}
use Rattle.laws.specs.Pairs.{PairLaws}
use Rattle.operators.specs.Restoring.{piece_of, plus, rebuilt}
use Rattle.operators.specs.Skeletons.{concatenated, minus, skeleton, skeleton_piece}
use Rattle.laws.specs.Skeletons.{PairsRestore}
use Rattle.laws.specs.Sums.{ListSum, HeightsAtMost}
use Rattle.morphology.proofs.TakenTogether.{get_or-cell_by_cell, length-cell_by_cell}
use Rattle.laws.proofs.Maps.{flat_topped}
use Rattle.laws.proofs.Openings.{opening_flat, shrunk}
use Rattle.laws.proofs.Sums.{list_fold_append, list_fold_none, list_fold_same}
use Rattle.laws.proofs.SumsOfCuts.{minus_over_cuts, sheets_are_sums_of_cuts}

-- what was taken from a sheet and given back
plus-minus : (f g : List ℕ) → length g ≡ length f → Below g f → plus g (minus f g) ≡ f
plus-minus [] [] same below = refl
plus-minus [] (y ∷ g) same below = absurd (omega arith)
plus-minus (x ∷ f) [] same below = absurd (omega arith)
plus-minus (x ∷ f) (y ∷ g) same below =
    let first : y ≤ x = below 0 in
    let height : y + (x - y) ≡ x = omega arith in
    λ i. height i ∷ plus-minus f g (omega arith) (λ p. below (suc p)) i

module _ (cells : ℕ) (p : ℕ → List ℕ) (sized : (n : ℕ) → length (p n) ≡ cells) where
  length-concatenated : (n : ℕ) → length (concatenated p n) ≡ n * cells
  length-concatenated zero = omega arith
  length-concatenated (suc n) = length-append (concatenated p n) (p n) ∙ (λ i. length-concatenated n i + sized n i) ∙ sym (suc-mul n cells)

  -- the list behind some pieces, and a piece
  piece_behind : (n : ℕ) (x rest : List ℕ) → length x ≡ cells → piece_of cells (concatenated p n ++ (x ++ rest)) n ≡ x
  piece_behind n x rest long =
      ap (take cells) (drop_at (concatenated p n) (x ++ rest) (n * cells) (length-concatenated n)) ∙ take_at x rest cells long

  piece_within : (depth n : ℕ) (rest : List ℕ) → n < depth → piece_of cells (concatenated p depth ++ rest) n ≡ p n
  piece_within zero n rest low = absurd (omega arith)
  piece_within (suc depth) n rest low = ap (λ xs. piece_of cells xs n) (append_assoc (concatenated p depth) (p depth) rest) ∙ elim (cases_lt n depth) [
    | inl within ↦ piece_within depth n (p depth ++ rest) within
    | inr last ↦
        let same : depth ≡ n = omega arith in
        ap (λ d. piece_of cells (concatenated p d ++ (p d ++ rest)) n) same ∙ piece_behind n (p n) rest (sized n)
  ]

-- rows of pieces are sums where the pieces are
rows_over_cuts : (top : ℕ) (p : ℕ → List ℕ) (q : ℕ → ℕ → List ℕ) → ((n : ℕ) → ListSum top (p n) (λ a. q a n)) → (n : ℕ) → ListSum top (concatenated p n) (λ a. concatenated (q a) n)
rows_over_cuts top p q each zero = list_fold_none ◌+◌ 0 refl top
rows_over_cuts top p q each (suc n) =
    list_fold_append ◌+◌ 0 top (concatenated p n) (p n) (λ a. concatenated (q a) n) (λ a. q a n) (rows_over_cuts top p q each n) (each n)

module _ (cells : ℕ) (shrink swell : List ℕ → List ℕ) (laws : PairLaws cells shrink swell) (depth : ℕ) (f : List ℕ) (long : length f ≡ cells) where
  abbrev e : ℕ → List ℕ
  e n = times n shrink f

  sized : (n : ℕ) → length (e n) ≡ cells
  sized n = (shrunk cells shrink swell laws n).sheet f long

  opened_sized : (n : ℕ) → length (opening shrink swell 1 (e n)) ≡ length (e n)
  opened_sized n = (opening_flat cells shrink swell laws 1).sheet (e n) (sized n) ∙ sym (sized n)

  piece_sized : (n : ℕ) → length (skeleton_piece shrink swell f n) ≡ cells
  piece_sized n = length-cell_by_cell ◌-◌ (e n) (opening shrink swell 1 (e n)) (sym (opened_sized n)) ∙ sized n

  abbrev pieces : List ℕ
  pieces = skeleton shrink swell depth f

  pub skeleton_long : length pieces ≡ (depth + 1) * cells
  skeleton_long =
      length-append (concatenated (skeleton_piece shrink swell f) depth) (e depth)
      ∙ (λ i. length-concatenated cells (skeleton_piece shrink swell f) piece_sized depth i + sized depth i)
      ∙ omega (arith, add-mul depth 1 cells, one-mul cells)

  last_piece : piece_of cells pieces depth ≡ e depth
  last_piece =
      ap (λ xs. piece_of cells (concatenated (skeleton_piece shrink swell f) depth ++ xs) depth) (sym (append-nil (e depth)))
      ∙ piece_behind cells (skeleton_piece shrink swell f) piece_sized depth (e depth) [] (sized depth)

  -- after so many pieces it is the sheet eroded as many times fewer
  rebuilt_so_far : (n : ℕ) → n ≤ depth → rebuilt swell cells depth pieces n ≡ e (depth - n)
  rebuilt_so_far zero low = last_piece ∙ ap e (omega arith)
  rebuilt_so_far (suc n) low =
      let k = depth - suc n in
      let next : depth - n ≡ suc k = omega arith in
      (λ i. plus (swell ((rebuilt_so_far n (omega arith) ∙ ap e next) i)) (piece_within cells (skeleton_piece shrink swell f) piece_sized depth k (e depth) (omega arith) i))
      ∙ plus-minus (e k) (opening shrink swell 1 (e k)) (opened_sized k) (laws.within (e k) (sized k))

  pub skeleton_rebuilds : (k : ℕ) → k ≤ depth → rebuilt swell cells depth pieces (depth - k) ≡ e k
  skeleton_rebuilds k low = rebuilt_so_far (depth - k) (omega arith) ∙ ap e (omega arith)

  pub skeleton_over_cuts : (top : ℕ) → HeightsAtMost top f → ListSum top pieces (λ a. skeleton shrink swell depth (cut a f))
  skeleton_over_cuts top t =
      list_fold_append ◌+◌ 0 top (concatenated (skeleton_piece shrink swell f) depth) (e depth)
      (λ a. concatenated (skeleton_piece shrink swell (cut a f)) depth) (λ a. times depth shrink (cut a f))
      (rows_over_cuts top (skeleton_piece shrink swell f) (λ a. skeleton_piece shrink swell (cut a f)) piece_over_cuts depth)
      (list_fold_same ◌+◌ 0 top (e depth) (λ a. cut a (e depth)) (λ a. times depth shrink (cut a f)) (λ a low. sym (e_cut a low depth))
      (sheets_are_sums_of_cuts top (e depth) (e_topped depth)))
    where
      e_cut : (a : ℕ) → 1 ≤ a → (n : ℕ) → times n shrink (cut a f) ≡ cut a (e n)
      e_cut a low n = (shrunk cells shrink swell laws n).cuts a f low long

      e_topped : (n : ℕ) → HeightsAtMost top (e n)
      e_topped n = flat_topped cells (times n shrink) (shrunk cells shrink swell laws n) top f long t

      piece_over_cuts : (n : ℕ) → ListSum top (skeleton_piece shrink swell f n) (λ a. skeleton_piece shrink swell (cut a f) n)
      piece_over_cuts n =
          let flat = opening_flat cells shrink swell laws 1 in
          list_fold_same ◌+◌ 0 top (skeleton_piece shrink swell f n) (λ a. minus (cut a (e n)) (cut a (opening shrink swell 1 (e n)))) (λ a. skeleton_piece shrink swell (cut a f) n)
          (λ a low. (λ i. minus (sym (e_cut a low n) i) (sym (ap (opening shrink swell 1) (e_cut a low n) ∙ flat.cuts a (e n) low (sized n)) i)))
          (minus_over_cuts top (e n) (opening shrink swell 1 (e n)) (e_topped n) (flat_topped cells (opening shrink swell 1) flat top (e n) (sized n) (e_topped n)))

-- what is rebuilt of any list of pieces, by a map that keeps the number of cells and is nowhere below its sheet: sheets, of which none is
-- above the next
module _ (cells : ℕ) (swell : List ℕ → List ℕ) (sheet : (f : List ℕ) → length f ≡ cells → length (swell f) ≡ cells) (above : (f : List ℕ) → length f ≡ cells → Below f (swell f))
    (depth : ℕ) (pieces : List ℕ) (long : length pieces ≡ (depth + 1) * cells) where
  pub piece_long : (k : ℕ) → k ≤ depth → length (piece_of cells pieces k) ≡ cells
  piece_long k few = simp (length-take, length-drop, long) (omega (arith, mul-le (k + 1) cells (depth + 1) cells (omega arith) (omega arith), add-mul k 1 cells, one-mul cells))

  pub rebuilt_long : (n : ℕ) → n ≤ depth → length (rebuilt swell cells depth pieces n) ≡ cells
  rebuilt_long zero few = piece_long depth (omega arith)
  rebuilt_long (suc n) few =
      let swollen = sheet (rebuilt swell cells depth pieces n) (rebuilt_long n (omega arith)) in
      length-cell_by_cell ◌+◌ (swell (rebuilt swell cells depth pieces n)) (piece_of cells pieces (depth - suc n)) (swollen ∙ sym (piece_long (depth - suc n) (omega arith))) ∙ swollen

  pub rebuilt_rises : (n : ℕ) → n < depth → Below (rebuilt swell cells depth pieces n) (rebuilt swell cells depth pieces (n + 1))
  rebuilt_rises n few = rw add-one (λ p.
      let before = rebuilt swell cells depth pieces n in
      let sized = rebuilt_long n (omega arith) in
      let piece = piece_of cells pieces (depth - suc n) in
      let grown : get_or before p 0 ≤ get_or (swell before) p 0 = above before sized p in
      let sum = get_or-cell_by_cell ◌+◌ (swell before) piece p 0 0 (sheet before sized ∙ sym (piece_long (depth - suc n) (omega arith))) refl in
      omega arith)

pub pairs_restore : PairsRestore
pairs_restore cells shrink swell laws = record {
  long = λ depth f long. skeleton_long cells shrink swell laws depth f long;
  rebuilds = λ depth k f long low. skeleton_rebuilds cells shrink swell laws depth f long k low;
  restores = λ depth k f long low. ap (times k swell) (skeleton_rebuilds cells shrink swell laws depth f long k low);
  rises = λ depth n pieces long few. rebuilt_rises cells swell laws.swells.sheet laws.above depth pieces long n few;
  sums = λ top depth f long t. skeleton_over_cuts cells shrink swell laws depth f long top t;
}

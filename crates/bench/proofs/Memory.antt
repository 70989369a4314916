-- Cells written into memory, as the code writes them and by their heights. Assumes nothing.
use Rattle.std.proofs.Common.{◌≡◌, ℕ, ◌+◌, ◌*◌, ◌≤◌, true, ◌&&◌, List, [], ◌∷◌, ◌++◌, map, length, take, drop, replicate, None, subst, sym, refl, ap, ◌∙◌, arith}
use Rattle.std.specs.List.{FoldsTo}
use Rattle.std.proofs.lemmas.List.{drop-map, length-append, length-drop, length-map, length-take-le, map-append, take-map}
use Rattle.std.proofs.lemmas.Bool.{le-leb, eq-eqb}
use Rattle.limits.specs.Sizes.{lawful_side}
use Rattle.morphology.specs.Measuring.{measure_refusal, numbers_refusal}
use Rattle.morphology.specs.Sheets.{lists_refusal}
use Rattle.bench.specs.Model.{overwritten}

-- the heights of memory that was written to
pub map-overwritten : {X Y : Type 0} (f : X → Y) (start : ℕ) (cells memory : List X) → map f (overwritten start cells memory) ≡ overwritten start (map f cells) (map f memory)
map-overwritten f start cells memory =
    map-append f (take start memory) _
    ∙ ap (λ front. front ++ map f (cells ++ drop (start + length cells) memory)) (sym (take-map f start memory))
    ∙ ap (λ back. take start (map f memory) ++ back)
    (map-append f cells _ ∙ ap (λ rest. map f cells ++ rest) (sym (drop-map f (start + length cells) memory) ∙ ap (λ n. drop (start + n) (map f memory)) (sym (length-map cells f))))

-- memory that was written to is as long
pub length-overwritten : {X : Type 0} (start : ℕ) (cells memory : List X) → start + length cells ≤ length memory → length (overwritten start cells memory) ≡ length memory
length-overwritten start cells memory room =
    simp (length-append, length-drop) (let front = length-take-le start memory (omega arith) in omega arith)

-- lists of the right length with lawful sides are accepted: four for a transformation, and for a measurement three beside one for its numbers
module _ (w h : ℕ) (wide : (1 ≤ w) × (w ≤ 1024)) (high : (1 ≤ h) × (h ≤ 1024)) (one other to : ℕ) (first : one ≡ w * h) (second : other ≡ w * h) (third : to ≡ w * h) where
  lawful_sides : (lawful_side w && lawful_side h) ≡ true
  lawful_sides = rw (le-leb 1 w wide.0, le-leb w 1024 wide.1, le-leb 1 h high.0, le-leb h 1024 high.1) refl

  pub lists_accepted : (spare : ℕ) → spare ≡ w * h → lists_refusal w h (one ∷ other ∷ to ∷ spare ∷ []) ≡ None
  lists_accepted spare fourth = rw (lawful_sides, eq-eqb one (w * h) first, eq-eqb other (w * h) second, eq-eqb to (w * h) third, eq-eqb spare (w * h) fourth) refl

  pub measure_accepted : (depth wanted len : ℕ) → numbers_refusal depth wanted len ≡ None → measure_refusal w h (one ∷ other ∷ to ∷ []) depth wanted len ≡ None
  measure_accepted depth wanted len numbers = rw (lawful_sides, eq-eqb one (w * h) first, eq-eqb other (w * h) second, eq-eqb to (w * h) third) numbers

-- the heights of a part of memory
pub heights_of_cells : {X : Type 0} (height : X → ℕ) (start n : ℕ) (memory : List X) → map height (take n (drop start memory)) ≡ take n (drop start (map height memory))
heights_of_cells height start n memory = sym (take-map height n (drop start memory)) ∙ ap (take n) (sym (drop-map height start memory))

-- the heights of memory that each call of a function that gives one height filled
pub heights_of_filled : {P X : Type 0} (R : P → X → P → Type 0) (height : X → ℕ) (a : ℕ) (start : P) → ((x : X) (q : P) → R start x q → (height x ≡ a) × (q ≡ start)) → (xs : List X) (q : P) → FoldsTo R start xs q → map height xs ≡ replicate (length xs) a
heights_of_filled R height a start one [] q done = refl
heights_of_filled R height a start one (x ∷ xs) q (j, step, rest) =
    let first = one x j step in
    let others = heights_of_filled R height a start one xs q (subst (λ p. FoldsTo R p xs q) first.1 rest) in
    λ i. first.0 i ∷ others i

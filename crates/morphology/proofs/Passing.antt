-- Heights that were read, and passes over the first cells of a list, part by part. Assumes nothing.
use Rattle.std.proofs.Common.{rules, refl, ◌≡◌, ℕ, ◌+◌, ◌-◌, ◌<◌, ◌≤◌, List, ◌++◌, map, length, get_or, take, drop, replicate, sym, ap, ◌∙◌, inl, inr, arith}
use Rattle.std.proofs.lemmas.List.{places, get_or-drop, get_or-map, get_or-replicate, get_or-take, length-append, length-drop, length-map, length-replicate, length-take, length-take-le, map-append, take-map, drop-map}
use Rattle.std.proofs.lemmas.Bool.{cases_lt}
use Rattle.morphology.specs.declared.extremum.Extremum.{Extremum}
use Rattle.morphology.specs.Cells.{combined}
use Rattle.morphology.specs.Passes.{extreme}
use Rattle.morphology.proofs.Combining.{get_or-combined}

-- the height of the level that a read gave
pub height_read : {X : Type 0} (height : X → ℕ) (xs : List X) (i : ℕ) (x : X) → i < length xs → x ≡ get_or xs i x → get_or (map height xs) i 0 ≡ height x
height_read height xs i x within read = get_or-map height xs i x 0 within ∙ ap height (sym read)

-- the heights of a part of a list
pub heights_of_part : {X : Type 0} (height : X → ℕ) (n b : ℕ) (xs : List X) → map height (take n (drop b xs)) ≡ take n (drop b (map height xs))
heights_of_part height n b xs = sym (take-map height n (drop b xs)) ∙ ap (take n) (sym (drop-map height b xs))

-- each place p before b now has the extreme of its height and v p, and all others are as they were
pub record Passed (which : Extremum) (v : ℕ → ℕ) (was is : List ℕ) (b : ℕ) : Type 0 where
  pub before : (p : ℕ) → p < b → get_or is p 0 ≡ extreme which (get_or was p 0) (v p)
  pub after : (p : ℕ) → b ≤ p → get_or is p 0 ≡ get_or was p 0

pub passed_none : (which : Extremum) (v : ℕ → ℕ) (was : List ℕ) → Passed which v was was 0
passed_none which v was = record { before = λ p h. absurd (omega arith); after = λ p h. refl }

-- the n cells of a list from b on, written as ys
abbrev pub rewritten : {X : Type 0} → ℕ → ℕ → List X → List X → List X
rewritten b n xs ys = take b xs ++ (ys ++ drop n (drop b xs))

pub length-rewritten : {X : Type 0} (b n : ℕ) (xs ys : List X) → b + n ≤ length xs → length ys ≡ n → length (rewritten b n xs ys) ≡ length xs
length-rewritten b n xs ys within long = simp (length-append, length-take, length-drop, long) (omega (arith, within))

rewritten_before : (b n : ℕ) (f z : List ℕ) (p : ℕ) → b ≤ length f → p < b → get_or (rewritten b n f z) p 0 ≡ get_or f p 0
rewritten_before b n f z p within h = search (rules, places)

rewritten_at : (b n : ℕ) (f z : List ℕ) (p : ℕ) → b ≤ length f → length z ≡ n → b ≤ p → p < b + n → get_or (rewritten b n f z) p 0 ≡ get_or z (p - b) 0
rewritten_at b n f z p within long low high = search (rules, places)

rewritten_after : (b n : ℕ) (f z : List ℕ) (p : ℕ) → b ≤ length f → length z ≡ n → b + n ≤ p → get_or (rewritten b n f z) p 0 ≡ get_or f p 0
rewritten_after b n f z p within long past = search (rules, places)

map-rewritten : {X : Type 0} (height : X → ℕ) (b n : ℕ) (xs ys : List X) → map height (rewritten b n xs ys) ≡ rewritten b n (map height xs) (map height ys)
map-rewritten height b n xs ys = rw (map-append, map-append, take-map, drop-map, drop-map) refl

module _ {X : Type 0} (height : X → ℕ) (which : Extremum) (v : ℕ → ℕ) (was : List ℕ) (b n e : ℕ) (xs ys : List X) (end : b + n ≡ e) (within : e ≤ length xs) (long : length ys ≡ n) (passed : Passed which v was (map height xs) b) where
  -- the next n cells are still as they were
  pub part_was : (m : ℕ) → m < n → get_or (map height (take n (drop b xs))) m 0 ≡ get_or was (b + m) 0
  part_was m h =
      ap (λ zs. get_or zs m 0) (heights_of_part height n b xs)
      ∙ get_or-take n _ m 0 h ∙ get_or-drop b _ m 0 ∙ passed.after (b + m) (omega arith)

  -- the next n cells rewritten, each as the extreme of its height and v at its place
  pub passed_more : ((m : ℕ) → m < n → get_or (map height ys) m 0 ≡ extreme which (get_or (map height (take n (drop b xs))) m 0) (v (b + m))) → Passed which v was (map height (rewritten b n xs ys)) e
  passed_more part = rw map-rewritten record {
    before = λ p h. elim (cases_lt p b) [
      | inl l ↦ rewritten_before b n (map height xs) (map height ys) p (rw length-map (omega arith)) l ∙ passed.before p l
      | inr g ↦
          let place : b + (p - b) ≡ p = omega arith in
          rewritten_at b n (map height xs) (map height ys) p (rw length-map (omega arith)) (rw length-map long) g (omega arith)
          ∙ part (p - b) (omega arith) ∙ ap (λ z. extreme which z (v (b + (p - b)))) (part_was (p - b) (omega arith)) ∙ ap (λ k. extreme which (get_or was k 0) (v k)) place
    ];
    after = λ p h. rewritten_after b n (map height xs) (map height ys) p (rw length-map (omega arith)) (rw length-map long) (omega arith) ∙ passed.after p (omega arith);
  }

  -- the next n cells combined with the heights os
  pub passed_combined : (os : List ℕ) → length os ≡ n → ((m : ℕ) → m < n → get_or os m 0 ≡ v (b + m)) → map height ys ≡ combined which (map height (take n (drop b xs))) os → Passed which v was (map height (rewritten b n xs ys)) e
  passed_combined os same reads combined_with = passed_more (λ m h.
      let count : length (take n (drop b xs)) ≡ n = length-take-le n (drop b xs) (rw length-drop (omega arith)) in
      ap (λ zs. get_or zs m 0) combined_with ∙ get_or-combined which _ os m (rw (length-map, count) h) (rw same h) ∙ ap (extreme which _) (reads m h))

  -- the next n cells combined with what lies outside
  pub passed_outside : ((p : ℕ) → b ≤ p → p < e → v p ≡ 0) → map height ys ≡ combined which (map height (take n (drop b xs))) (replicate (length (take n (drop b xs))) 0) → Passed which v was (map height (rewritten b n xs ys)) e
  passed_outside lowest combined_with =
      let count : length (take n (drop b xs)) ≡ n = length-take-le n (drop b xs) (rw length-drop (omega arith)) in
      passed_combined (replicate n 0) (length-replicate n 0) (λ m h. get_or-replicate n m 0 0 h ∙ sym (lowest (b + m) (omega arith) (omega arith)))
      (combined_with ∙ ap (λ k. combined which (map height (take n (drop b xs))) (replicate k 0)) count)

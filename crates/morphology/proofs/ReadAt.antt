-- What a pass reads at a place of the element's square is what the operation reads at that offset. Assumes nothing.
use Rattle.std.proofs.Common.{◌≡◌, ℕ, ◌+◌, ◌-◌, ◌/◌, ◌%◌, ◌<◌, ◌≤◌, List, pos, negsuc, ◌+ℤ◌, ◌-ℤ◌, sym, ap, ◌∙◌, inl, inr, arith}
use Rattle.std.proofs.lemmas.Nat.{div_below, mod_below}
use Rattle.std.proofs.lemmas.Int.{ints}
use Rattle.std.proofs.lemmas.Bool.{cases_lt}
use Rattle.std.proofs.lemmas.Bool.Decides.{nat_tests}
use Rattle.elements.specs.Offsets.{offset_at}
use Rattle.morphology.specs.declared.operation.Operation.{Operation}
use Rattle.morphology.specs.declared.operation.Operation.TheVariants.{Erosion, Dilation}
use Rattle.morphology.specs.Sheets.{height_at}
use Rattle.morphology.specs.Passes.{neighbour, read_at, turned}

-- c − 3 cells on from x, where that is no less than 0, and where it is
pub on_from : (x c : ℕ) → 3 ≤ x + c → pos x +ℤ (pos c -ℤ pos 3) ≡ pos (x + c - 3)
on_from x c far = omega (arith, ints)

pub back_from : (x c : ℕ) → x + c < 3 → pos x +ℤ (pos c -ℤ pos 3) ≡ negsuc (2 - (x + c))
back_from x c near = omega (arith, ints)

-- back by an offset is on by the opposite one
opposite : (x c : ℕ) → c ≤ 6 → pos x -ℤ (pos c -ℤ pos 3) ≡ pos x +ℤ (pos (6 - c) -ℤ pos 3)
opposite x c small = omega (arith, ints)

height_neighbour : (w h : ℕ) (f : List ℕ) (c r m n : ℕ) → height_at w h f (pos m +ℤ (pos c -ℤ pos 3)) (pos n +ℤ (pos r -ℤ pos 3)) ≡ neighbour w h f c r m n
height_neighbour w h f c r m n = elim (cases_lt (m + c) 3) [
  | inl near ↦ ap (λ x. height_at w h f x (pos n +ℤ (pos r -ℤ pos 3))) (back_from m c near) ∙ grind (arith, nat_tests)
  | inr far ↦ elim (cases_lt (n + r) 3) [
    | inl above ↦ ap (λ x. height_at w h f x (pos n +ℤ (pos r -ℤ pos 3))) (on_from m c far) ∙ ap (height_at w h f (pos (m + c - 3))) (back_from n r above) ∙ grind (arith, nat_tests)
    | inr below ↦ ap (λ x. height_at w h f x (pos n +ℤ (pos r -ℤ pos 3))) (on_from m c far) ∙ ap (height_at w h f (pos (m + c - 3))) (on_from n r below) ∙ grind (arith, nat_tests)
  ]
]

at_offset : (op : Operation) (w h : ℕ) (f : List ℕ) (c r m n : ℕ) → c ≤ 6 → r ≤ 6 → neighbour w h f (turned op c) (turned op r) m n ≡ read_at op w h f m n (pos c -ℤ pos 3, pos r -ℤ pos 3)
at_offset Erosion w h f c r m n _ _ = sym (height_neighbour w h f c r m n)
at_offset Dilation w h f c r m n small short =
    sym (ap (λ x. height_at w h f x (pos n -ℤ (pos r -ℤ pos 3))) (opposite m c small)
    ∙ ap (height_at w h f (pos m +ℤ (pos (6 - c) -ℤ pos 3))) (opposite n r short)
    ∙ height_neighbour w h f (6 - c) (6 - r) m n)

-- at place k of the square
pub neighbour-read_at : (op : Operation) (w h : ℕ) (f : List ℕ) (k m n : ℕ) → k < 49 → neighbour w h f (turned op (k % 7)) (turned op (k / 7)) m n ≡ read_at op w h f m n (offset_at k)
neighbour-read_at op w h f k m n on = at_offset op w h f (k % 7) (k / 7) m n (omega (arith, mod_below k 7 (omega arith))) (omega (arith, div_below k 7 7 (omega arith) on))

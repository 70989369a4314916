-- What the cells of a row and the rows of a sheet read. Assumes nothing.
use Rattle.std.proofs.Common.{◌≡◌, ℕ, ◌+◌, ◌-◌, ◌*◌, ◌/◌, ◌%◌, ◌<◌, ◌≤◌, min, Bool, ◌&&◌, true, false, cond, List, get_or, take, drop, sym, refl, ap, ◌∙◌, mul_comm, add-mul, one-mul, arith}
use Rattle.std.proofs.lemmas.List.{get_or-take, get_or-drop}
use Rattle.std.proofs.lemmas.Nat.{div_below, div-mul-add, le-div, mod-mul-add, mul-le}
use Rattle.std.proofs.lemmas.Bool.Decides.{nat_tests}
use Rattle.morphology.specs.Sheets.{at_place}
use Rattle.morphology.specs.Passes.{on_side, in_row, neighbour}

-- which places of a side have their neighbours on it
pub on_its_side : (side x c : ℕ) → min (3 - c) side ≤ x → x < side - min (c - 3) side → on_side side x c ≡ true
on_its_side side x c low high = grind (arith, nat_tests)

pub off_start : (side x c : ℕ) → x < side → x < min (3 - c) side → on_side side x c ≡ false
off_start side x c on low = grind (arith, nat_tests)

pub off_end : (side x c : ℕ) → x < side → side - min (c - 3) side ≤ x → on_side side x c ≡ false
off_end side x c on high = grind (arith, nat_tests)

-- the heights that the cells of a row between its margins read from the row f
pub row_read : (w c : ℕ) (f : List ℕ) (left right n m : ℕ) → left ≡ min (3 - c) w → right ≡ min (c - 3) w → n ≡ w - left - right → m < n → get_or (take n (drop right f)) m 0 ≡ in_row w f c (left + m)
row_read w c f left right n m start end between within =
    let place : right + m ≡ left + m + c - 3 = omega arith in
    get_or-take n (drop right f) m 0 within
    ∙ get_or-drop right f m 0
    ∙ ap (λ p. get_or f p 0) place
    ∙ sym (ap (λ b. cond b (get_or f (left + m + c - 3) 0) 0) (on_its_side w (left + m) c (omega arith) (omega arith)))

-- and the others read outside
pub start_outside : (w c : ℕ) (f : List ℕ) (m : ℕ) → m < w → m < min (3 - c) w → in_row w f c m ≡ 0
start_outside w c f m on low = ap (λ b. cond b (get_or f (m + c - 3) 0) 0) (off_start w m c on low)

pub end_outside : (w c : ℕ) (f : List ℕ) (m : ℕ) → m < w → w - min (c - 3) w ≤ m → in_row w f c m ≡ 0
end_outside w c f m on high = ap (λ b. cond b (get_or f (m + c - 3) 0) 0) (off_end w m c on high)

-- place row × w + m is column m of that row
at_place_is : (w : ℕ) (cell : ℕ → ℕ → ℕ) (row m : ℕ) → m < w → at_place w cell (row * w + m) ≡ cell m row
at_place_is w cell row m within = rw (div-mul-add row w m within, mod-mul-add row w m within) refl

-- a row whose neighbours lie on the sheet reads the row of its neighbours
pub in_row-neighbour : (w h : ℕ) (f : List ℕ) (c r row k m : ℕ) → k ≡ w → m < w → on_side h row r ≡ true → in_row w (take k (drop ((row + r - 3) * w) f)) c m ≡ at_place w (neighbour w h f c r) (row * w + m)
in_row-neighbour w h f c r row k m whole within on =
    let source = (row + r - 3) * w in
    part (on_side w m c) refl
    ∙ sym (ap (λ b. cond (b && on_side w m c) (get_or f (source + (m + c - 3)) 0) 0) on)
    ∙ sym (at_place_is w (neighbour w h f c r) row m within)
  where
    part : (b : Bool) → b ≡ on_side w m c → cond (on_side w m c) (get_or (take k (drop ((row + r - 3) * w) f)) (m + c - 3) 0) 0 ≡ cond (on_side w m c) (get_or f ((row + r - 3) * w + (m + c - 3)) 0) 0
    part true is =
        let inside : m + c - 3 < k = grind (arith, nat_tests) in
        ap (λ x. cond (on_side w m c) x 0) (get_or-take k _ (m + c - 3) 0 inside ∙ get_or-drop _ f (m + c - 3) 0)
    part false is = rw (← is) refl

-- the first rows of a sheet have no rows further up that lie on it, and the last rows none further down
pub above_off : (w h r p : ℕ) → 1 ≤ w → p < w * h → p < min (3 - r) h * w → on_side h (p / w) r ≡ false
above_off w h r p wide on low = off_start h (p / w) r (div_below p w h wide (rw mul_comm on)) (div_below p w (min (3 - r) h) wide low)

pub below_off : (w h r p : ℕ) → 1 ≤ w → p < w * h → (h - min (r - 3) h) * w ≤ p → on_side h (p / w) r ≡ false
below_off w h r p wide on high = off_end h (p / w) r (div_below p w h wide (rw mul_comm on)) (le-div (h - min (r - 3) h) p w wide high)

-- and so they read outside there
pub row_outside : (w h : ℕ) (f : List ℕ) (c r p : ℕ) → on_side h (p / w) r ≡ false → at_place w (neighbour w h f c r) p ≡ 0
row_outside w h f c r p off = ap (λ b. cond (b && on_side w (p % w) c) (get_or f ((p / w + r - 3) * w + (p % w + c - 3)) 0) 0) off

-- the first rows of a sheet lie within it
pub rows_within : (w h rows : ℕ) → rows ≤ h → rows * w ≤ w * h
rows_within w h rows few = omega (arith, mul-le rows w h w few (omega arith), mul_comm w h)

-- where the row after a row begins
pub next_row : (row w : ℕ) → row * w + w ≡ (row + 1) * w
next_row row w = sym (add-mul row 1 w ∙ ap (λ n. row * w + n) (one-mul w))

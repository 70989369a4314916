-- What a cut makes of a height and of a sheet. Assumes nothing.
use Rattle.std.proofs.Common.{List, [], ap, arith, cond, get_or, leb, length, refl, replicate, suc, sym, zero, ℕ, ◌+◌, ◌<◌, ◌∙◌, ◌∷◌, ◌≡◌, ◌≤◌}
use Rattle.std.proofs.lemmas.Bool.Decides.{nat_tests}
use Rattle.morphology.specs.Cells.{cut}
use Rattle.laws.specs.Sums.{HeightsAtMost}

-- a height cut at a
abbrev pub cut_height : ℕ → ℕ → ℕ
cut_height a x = cond (leb a x) 1 0

-- cut above 0, the lowest stays the lowest
pub cut_lowest : (a : ℕ) → 1 ≤ a → cut_height a 0 ≡ 0
cut_lowest a low = grind (arith, nat_tests)

-- a sheet that is cut, at each place
pub get_or-cut : (a : ℕ) (f : List ℕ) (p : ℕ) → 1 ≤ a → get_or (cut a f) p 0 ≡ cut_height a (get_or f p 0)
get_or-cut a [] p low = sym (cut_lowest a low)
get_or-cut a (x ∷ f) zero low = refl
get_or-cut a (x ∷ f) (suc p) low = get_or-cut a f p low

-- a sheet without its first cell keeps its top
pub topped_rest : (top x : ℕ) (f : List ℕ) → HeightsAtMost top (x ∷ f) → HeightsAtMost top f
topped_rest top x f t p = t (suc p)

-- cut above its top, a sheet is all lowest
pub cut_above : (top a : ℕ) (f : List ℕ) → HeightsAtMost top f → top < a → cut a f ≡ replicate (length f) 0
cut_above top a [] t high = refl
cut_above top a (x ∷ f) t high =
    let below : x ≤ top = t 0 in
    let none : cut_height a x ≡ 0 = grind (arith, nat_tests) in
    (λ i. none i ∷ cut a f) ∙ ap (λ g. 0 ∷ g) (cut_above top a f (topped_rest top x f t) high)

-- a height whose cuts above the top are all alike is not above it, and so with a sheet
pub height_topped : (top x : ℕ) → ((j : ℕ) → cut_height (suc top) x ≡ cut_height (suc top + j) x) → x ≤ top
height_topped top x alike = let same = alike x in grind (arith, nat_tests)

pub sheet_topped : (top : ℕ) (f : List ℕ) → ((j : ℕ) → cut (suc top) f ≡ cut (suc top + j) f) → HeightsAtMost top f
sheet_topped top f alike p = height_topped top (get_or f p 0) (λ j.
    sym (get_or-cut (suc top) f p (omega arith)) ∙ ap (λ g. get_or g p 0) (alike j) ∙ get_or-cut (suc top + j) f p (omega arith))

pub cuts_alike : (top : ℕ) (f : List ℕ) → HeightsAtMost top f → (j : ℕ) → cut (suc top) f ≡ cut (suc top + j) f
cuts_alike top f t j = cut_above top (suc top) f t (omega arith) ∙ sym (cut_above top (suc top + j) f t (omega arith))

-- Flat operators: their iterates, their products, and what they keep. Assumes nothing.
use Rattle.std.proofs.Common.{◌≡◌, ℕ, zero, suc, ◌+◌, ◌≤◌, List, length, get_or, sym, refl, ap, ◌∙◌, arith}
use Rattle.operators.specs.Maps.{times}
use Rattle.laws.specs.Maps.{Below, FlatOperator}
use Rattle.laws.specs.Sums.{HeightsAtMost}
use Rattle.laws.proofs.Cuts.{cuts_alike, sheet_topped}

pub below_same : (f : List ℕ) → Below f f
below_same f p = omega arith

pub below_after : (f g h : List ℕ) → Below f g → Below g h → Below f h
below_after f g h one two p =
    let first : get_or f p 0 ≤ get_or g p 0 = one p in
    let second : get_or g p 0 ≤ get_or h p 0 = two p in
    omega arith

-- one time more before is one time more after
pub times_first : (k : ℕ) (map : List ℕ → List ℕ) (f : List ℕ) → times k map (map f) ≡ map (times k map f)
times_first zero map f = refl
times_first (suc k) map f = ap map (times_first k map f)

module _ (cells : ℕ) where
  pub flat_same : FlatOperator cells (λ f. f)
  flat_same = record {
    sheet = λ f long. long;
    order = λ f g one two below. below;
    cuts = λ a f low long. refl;
  }

  pub flat_after : (first second : List ℕ → List ℕ) → FlatOperator cells first → FlatOperator cells second → FlatOperator cells (λ f. second (first f))
  flat_after first second F S = record {
    sheet = λ f long. S.sheet (first f) (F.sheet f long);
    order = λ f g one two below. S.order (first f) (first g) (F.sheet f one) (F.sheet g two) (F.order f g one two below);
    cuts = λ a f low long. ap second (F.cuts a f low long) ∙ S.cuts a (first f) low (F.sheet f long);
  }

  pub flat_times : (map : List ℕ → List ℕ) → FlatOperator cells map → (k : ℕ) → FlatOperator cells (times k map)
  flat_times map F zero = flat_same
  flat_times map F (suc k) = flat_after (times k map) map (flat_times map F k) F

  -- a flat operator keeps the top, since above it all cuts are alike
  pub flat_topped : (map : List ℕ → List ℕ) → FlatOperator cells map → (top : ℕ) (f : List ℕ) → length f ≡ cells → HeightsAtMost top f → HeightsAtMost top (map f)
  flat_topped map F top f long t = sheet_topped top (map f) (λ j.
      sym (F.cuts (suc top) f (omega arith) long) ∙ ap map (cuts_alike top f t j) ∙ F.cuts (suc top + j) f (omega arith) long)

-- The cells of the tallies that calls make, against their weights. Assumes nothing.
use Rattle.std.proofs.Common.{ℕ, ◌+◌, ◌*◌, ◌≤◌, min, List, length, get_or, ℤ, pos, ◌+ℤ◌, ◌*ℤ◌, inl, inr, one-mul, arith}
use Rattle.std.specs.Prelude.{unsigned_abs}
use Rattle.std.proofs.Math.IntN.{*ℤ-zero}
use Rattle.std.proofs.lemmas.Bool.{cases_lt}
use Rattle.std.proofs.lemmas.List.{get_or_past}
use Rattle.laws.specs.Sums.{HeightsAtMost}
use Rattle.morphology.proofs.TakenTogether.{get_or-shorter, length-shorter}
use Rattle.laws.proofs.Sums.{get_or-kept}
use Rattle.operators.specs.Tallies.{added, differed}
use Rattle.weights.specs.Weights.{Tally, WithinWeight, difference, multiple, sum_of_tallies}
use Rattle.weights.proofs.Within.{differed_within, size_of_multiple, size_of_sum}

pub difference_within : (top : ℕ) (f g : List ℕ) → HeightsAtMost top f → HeightsAtMost top g → WithinWeight top (difference (differed f g))
difference_within top f g s t = record { weight = omega arith; cells = λ k. rw one-mul (differed_within top f g s t k) }

pub sum_within : (top : ℕ) (t u : Tally) → WithinWeight top t → WithinWeight top u → t.weight + u.weight ≤ 1000 → WithinWeight top (sum_of_tallies t u)
sum_within top t u one other light = record {
  weight = light;
  cells = λ k. elim (cases_lt k (min (length t.cells) (length u.cells))) [
    | inl within ↦
        rw (get_or-shorter ◌+ℤ◌ t.cells u.cells k (pos 0) (pos 0) within)
        (size_of_sum top t.weight u.weight (get_or t.cells k (pos 0)) (get_or u.cells k (pos 0)) (one.cells k) (other.cells k))
    | inr past ↦ rw (get_or_past (added t.cells u.cells) k (pos 0) (rw (length-shorter ◌+ℤ◌ t.cells u.cells) past)) (omega arith)
  ];
}

pub multiple_within : (top : ℕ) (factor : ℤ) (t : Tally) → WithinWeight top t → unsigned_abs factor * t.weight ≤ 1000 → WithinWeight top (multiple factor t)
multiple_within top factor t one light = record {
  weight = light;
  cells = λ k. rw (get_or-kept (λ x. factor *ℤ x) (pos 0) (*ℤ-zero factor) t.cells k) (size_of_multiple top t.weight factor (get_or t.cells k (pos 0)) (one.cells k));
}

-- Passes over the first cells of a list that skip the cells whose neighbours lie outside. Assumes nothing.
use Rattle.std.proofs.Common.{◌≡◌, ℕ, ◌<◌, ◌≤◌, Bool, false, cond, List, get_or, ◌∙◌, inl, inr, arith}
use Rattle.std.proofs.lemmas.Bool.{cases_lt}
use Rattle.morphology.specs.declared.extremum.Extremum.TheVariants.{Minimum}
use Rattle.morphology.proofs.Passing.{Passed}

-- v where that is inside, and elsewhere a place's own height
abbrev pub inside_or_own : (ℕ → Bool) → (ℕ → ℕ) → List ℕ → ℕ → ℕ
inside_or_own inside v was p = cond (inside p) (v p) (get_or was p 0)

-- cells whose neighbours lie outside need no pass
pub passed_outside_kept : (inside : ℕ → Bool) (v : ℕ → ℕ) (was is : List ℕ) (b e : ℕ) → b ≤ e → ((p : ℕ) → b ≤ p → p < e → inside p ≡ false) → Passed Minimum (inside_or_own inside v was) was is b → Passed Minimum (inside_or_own inside v was) was is e
passed_outside_kept inside v was is b e further outside passed = record {
  before = λ p h. elim (cases_lt p b) [
    | inl l ↦ passed.before p l
    | inr g ↦ passed.after p g ∙ rw (outside p g h) (omega arith)
  ];
  after = λ p h. passed.after p (omega arith);
}

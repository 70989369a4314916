-- The rounds that changed a sheet, counted while they raise its area; and how large an area can be. Assumes nothing.
use Rattle.std.proofs.Common.{◌≡◌, ℕ, suc, ◌+◌, ◌-◌, ◌*◌, ◌≤◌, ◌<◌, List, [], ◌∷◌, map, length, refl, sym, ap, ◌∙◌, inl, inr, add-one, arith}
use Rattle.laws.proofs.Cells.{area-cons}
use Rattle.laws.proofs.Rounds.{changes_at_most, count_changing}
use Rattle.morphology.specs.Sheets.{area}
use Rattle.operators.specs.Maps.{times}
use Rattle.operators.specs.Reconstruction.{changing_times}

-- what a map made of a sheet, the number of times that it was applied, and how many of those that change it are still to come of at most so many
pub record Counted (most : ℕ) (turn : List ℕ → List ℕ) (start : List ℕ) (t : ℕ) (now : List ℕ) : Type 0 where
  pub sheet : now ≡ times t turn start
  pub area_more : t ≤ area now
  pub count : changing_times most turn start ≡ t + changing_times (most - t) turn now

module _ (most : ℕ) (turn : List ℕ → List ℕ) (start : List ℕ) where
  pub counted_none : Counted most turn start 0 start
  counted_none =
      let all : most ≡ most - 0 = omega arith in
      record { sheet = refl; area_more = omega arith; count = omega (arith, ap (λ n. changing_times n turn start) all) }

  module _ (t : ℕ) (now : List ℕ) (counted : Counted most turn start t now) where
    pub counted_more : (next : List ℕ) → next ≡ turn now → area now < area next → area next ≤ most → Counted most turn start (t + 1) next
    counted_more next is more within =
        let rest : most - t ≡ suc (most - (t + 1)) = omega (arith, counted.area_more) in
        record {
          sheet = is ∙ ap turn counted.sheet ∙ ap (λ n. times n turn start) (sym (add-one t));
          area_more = omega (arith, counted.area_more);
          count = elim (count_changing (most - (t + 1)) turn now) [
            | inl none ↦ absurd (omega (arith, ap area (is ∙ none.0)))
            | inr some ↦ omega (arith, counted.count, ap (λ n. changing_times n turn now) rest, some.1, ap (changing_times (most - (t + 1)) turn) is)
          ];
        }

    pub counted_all : turn now ≡ now → t ≡ changing_times most turn start
    counted_all settled = omega (arith, counted.count, changes_at_most (most - t) 0 turn now settled)

pub area_at_most : {X : Type 0} (height : X → ℕ) (top : ℕ) → ((x : X) → height x ≤ top) → (xs : List X) → area (map height xs) ≤ length xs * top
area_at_most height top each [] = omega arith
area_at_most height top each (x ∷ xs) = grind (arith, area-cons (height x) (map height xs), each x, area_at_most height top each xs)

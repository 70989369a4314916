-- A list whose front has some pieces, with one more written behind them. Assumes nothing.
use Rattle.std.proofs.Common.{◌≡◌, ℕ, ◌+◌, ◌*◌, ◌≤◌, List, ◌++◌, length, take, sym, ap, ◌∙◌, append_assoc, add-one, add-mul, one-mul, arith}
use Rattle.std.proofs.lemmas.List.{length-append, length-take-le, take_at}
use Rattle.operators.specs.Skeletons.{concatenated}

module _ (p : ℕ → List ℕ) (n cells start : ℕ) (front : start ≡ n * cells) (xs : List ℕ) (within : start ≤ length xs) (had : take (n * cells) xs ≡ concatenated p n) where
  pub pieces_more : (piece rest : List ℕ) → piece ≡ p n → length piece ≡ cells → take ((n + 1) * cells) (take start xs ++ (piece ++ rest)) ≡ concatenated p (n + 1)
  pieces_more piece rest is long =
      let end : length (take start xs ++ piece) ≡ (n + 1) * cells =
      length-append (take start xs) piece ∙ omega (arith, length-take-le start xs within, front, add-mul n 1 cells, one-mul cells) in
      ap (take ((n + 1) * cells)) (sym (append_assoc (take start xs) piece rest))
      ∙ take_at (take start xs ++ piece) rest ((n + 1) * cells) end
      ∙ (λ i. (ap (λ k. take k xs) front ∙ had) i ++ is i)
      ∙ ap (concatenated p) (sym (add-one n))

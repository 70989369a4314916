-- The entries of marks past their places, which nothing is kept for. Assumes nothing.
use Rattle.std.proofs.Common.{◌≡◌, ℕ, zero, suc, ◌-◌, true, drop, replicate, None, Option, refl, ap, ◌∙◌}
use Rattle.std.proofs.lemmas.List.{drop-replicate}
use Rattle.bench.specs.Flags.{none}

-- of an empty row none is filled
none_replicate : (T : Type 0) (n : ℕ) → none (replicate {A = Option T} n None) ≡ true
none_replicate T zero = refl
none_replicate T (suc n) = none_replicate T n

pub none_past : (T : Type 0) (places : ℕ) → none (drop places (replicate {A = Option T} 12 None)) ≡ true
none_past T places = ap none (drop-replicate places 12 None) ∙ none_replicate T (12 - places)

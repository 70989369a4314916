-- The laws of closings, from those of a pair to close with. Assumes nothing.
use Rattle.std.proofs.Common.{◌≡◌, ℕ, zero, suc, List, length, refl, subst}
use Rattle.operators.specs.Closings.{closing}
use Rattle.laws.specs.Closings.{ClosingPairLaws, PairsClose}
use Rattle.operators.specs.Maps.{times}
use Rattle.laws.specs.Maps.{Below, FlatOperator}
use Rattle.laws.proofs.Maps.{below_after, below_same, flat_after, flat_times, times_first}

module _ (cells : ℕ) (swell shrink_inside : List ℕ → List ℕ) (laws : ClosingPairLaws cells swell shrink_inside) where
  pub closing_flat : (k : ℕ) → FlatOperator cells (closing swell shrink_inside k)
  closing_flat k = flat_after cells (times k swell) (times k shrink_inside) (flat_times cells swell laws.swells k) (flat_times cells shrink_inside laws.shrinks k)

  closing_grows : (k : ℕ) (f : List ℕ) → length f ≡ cells → Below (closing swell shrink_inside k f) (closing swell shrink_inside (suc k) f)
  closing_grows k f long =
      let d = times k swell f in
      let sized = (flat_times cells swell laws.swells k).sheet f long in
      let inner = laws.shrinks.sheet (swell d) (laws.swells.sheet d sized) in
      subst (λ g. Below (closing swell shrink_inside k f) g) (times_first k shrink_inside (swell d))
      ((flat_times cells shrink_inside laws.shrinks k).order d (shrink_inside (swell d)) sized inner (laws.above d sized))

  closing_above : (k : ℕ) (f : List ℕ) → length f ≡ cells → Below f (closing swell shrink_inside k f)
  closing_above zero f long = below_same f
  closing_above (suc k) f long =
      below_after f (closing swell shrink_inside k f) (closing swell shrink_inside (suc k) f) (closing_above k f long) (closing_grows k f long)

pub pairs_close : PairsClose
pairs_close cells swell shrink_inside laws = record {
  flat = closing_flat cells swell shrink_inside laws;
  above = closing_above cells swell shrink_inside laws;
  grow = closing_grows cells swell shrink_inside laws;
  none = λ f long. refl;
}

-- The laws of openings, from those of a pair. Assumes nothing.
use Rattle.std.proofs.Common.{◌≡◌, ℕ, zero, suc, List, length, subst}
use Rattle.operators.specs.Maps.{times}
use Rattle.laws.specs.Maps.{Below, FlatOperator}
use Rattle.operators.specs.Openings.{opening}
use Rattle.laws.specs.Openings.{PairsOpen}
use Rattle.laws.specs.Pairs.{PairLaws}
use Rattle.laws.proofs.Maps.{below_after, below_same, flat_after, flat_times, times_first}

module _ (cells : ℕ) (shrink swell : List ℕ → List ℕ) (laws : PairLaws cells shrink swell) where
  pub shrunk : (k : ℕ) → FlatOperator cells (times k shrink)
  shrunk = flat_times cells shrink laws.shrinks

  pub opening_flat : (k : ℕ) → FlatOperator cells (opening shrink swell k)
  opening_flat k = flat_after cells (times k shrink) (times k swell) (shrunk k) (flat_times cells swell laws.swells k)

  opening_falls : (k : ℕ) (f : List ℕ) → length f ≡ cells → Below (opening shrink swell (suc k) f) (opening shrink swell k f)
  opening_falls k f long =
      let e = times k shrink f in
      let sized = (shrunk k).sheet f long in
      let inner = laws.swells.sheet (shrink e) (laws.shrinks.sheet e sized) in
      subst (λ g. Below g (opening shrink swell k f)) (times_first k swell (shrink e))
      ((flat_times cells swell laws.swells k).order (swell (shrink e)) e inner sized (laws.within e sized))

  opening_below : (k : ℕ) (f : List ℕ) → length f ≡ cells → Below (opening shrink swell k f) f
  opening_below zero f long = below_same f
  opening_below (suc k) f long =
      below_after (opening shrink swell (suc k) f) (opening shrink swell k f) f (opening_falls k f long) (opening_below k f long)

pub pairs_open : PairsOpen
pairs_open cells shrink swell laws = record {
  flat = opening_flat cells shrink swell laws;
  below = opening_below cells shrink swell laws;
  fall = opening_falls cells shrink swell laws;
}

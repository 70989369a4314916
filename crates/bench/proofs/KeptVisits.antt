-- What the calls that fill a place keep of a visit, of sides and of places. Assumes nothing.
use Rattle.std.proofs.Common.{◌≡◌, ℕ, List, Some, None, Option, Result, ap}
use Rattle.limits.specs.declared.fault.Fault.{Fault}
use Rattle.limits.specs.Faults.{unless}
use Rattle.bench.specs.declared.rack.Rack.{Rack}
use Rattle.bench.specs.declared.slate.Slate.{Slate}
use Rattle.bench.specs.Model.{State, rack_outline, rack_state, shared, slate_outline, slate_state}
use Rattle.bench.specs.Calls.{Making, MakesUnless, OfTwo, stored}
use Rattle.bench.specs.TallyCalls.{MakesTally}
use Rattle.weights.specs.Weights.{Tally}

-- a call that fills a place, or is refused, keeps the visit and the sides
pub stored_shared : {C : Type 0} (o : Option Fault) (s after : State C) (k : ℕ) (made : C) → after ≡ unless o (stored s k made) s → shared after.outline ≡ shared s.outline
stored_shared None s after k made is = ap (λ t. shared t.outline) is
stored_shared (Some f) s after k made is = ap (λ t. shared t.outline) is

-- and the number of places
pub stored_places : (o : Option Fault) (s after : State (List ℕ)) (k : ℕ) (cells : List ℕ) → after ≡ unless o (stored s k cells) s → after.outline.places ≡ s.outline.places
stored_places None s after k cells is = ap (λ t. t.outline.places) is
stored_places (Some f) s after k cells is = ap (λ t. t.outline.places) is

module _ {L T : Type 0} {refusal : Option Fault} (height : L → ℕ) (made : Making) (report : OfTwo T) (was is : Rack L) (one other to : ℕ) (answer : Result T Fault)
    (makes : MakesUnless height refusal made report was is one other to answer) where
  pub made_shared : shared (rack_outline is) ≡ shared (rack_outline was)
  made_shared = stored_shared _ (rack_state height was) (rack_state height is) to _ makes.steps

  pub made_places : (rack_outline is).places ≡ (rack_outline was).places
  made_places = stored_places _ (rack_state height was) (rack_state height is) to _ makes.steps

pub tallied_shared : (refusal : Option Fault) (made : Tally) (was is : Slate) (to : ℕ) (answer : Result (Unit {0}) Fault) → MakesTally refusal made was is to answer
    → shared (slate_outline is) ≡ shared (slate_outline was)
tallied_shared refusal made was is to answer makes = stored_shared refusal (slate_state was) (slate_state is) to made makes.steps

-- Restoring from the skeleton of a sheet: it is accepted, and gives the opening. Assumes nothing.
use Rattle.std.proofs.Common.{◌≡◌, ℕ, ◌*◌, ◌≤◌, ◌+◌, true, false, ◌&&◌, suc, List, [], ◌∷◌, length, eqb, leb, ltb, None, refl, arith}
use Rattle.std.specs.List.{list_any}
use Rattle.std.proofs.lemmas.Bool.{eq-eqb, le-leb, le-ltb}
use Rattle.elements.specs.declared.element.Element.{Element}
use Rattle.limits.specs.Sizes.{lawful_side, lawful_size}
use Rattle.operators.specs.Maps.{times}
use Rattle.operators.specs.Openings.{opening}
use Rattle.operators.specs.Restoring.{restored, restore_refusal}
use Rattle.operators.specs.Skeletons.{skeleton}
use Rattle.laws.specs.Sums.{HeightsAtMost}
use Rattle.laws.proofs.ElementLaws.{erosion_and_dilation_are_pair}
use Rattle.laws.proofs.Maps.{flat_times, flat_topped}
use Rattle.calls.specs.ByElement.{shrink, swell}
use Rattle.runs.proofs.Accepted.{none_refused}
use Rattle.runs.proofs.Calls.{skeletons_of}

-- no cell of a sheet that keeps the top is above a number that is not below it
none_above : (top : ℕ) (f : List ℕ) → HeightsAtMost top f → top ≤ 65536 → list_any (ltb 65536) f ≡ false
none_above top [] t low = refl
none_above top (x ∷ f) t low =
    let first : x ≤ top = t 0 in
    rw (le-ltb 65536 x (omega arith)) (none_above top f (λ p. t (suc p)) low)

module _ (e : Element) (w h depth size : ℕ) (f : List ℕ) (long : length f ≡ w * h) (within : size ≤ depth) where
  abbrev pieces : List ℕ
  pieces = skeleton (shrink e w h) (swell e w h) depth f

  pub restore_accepted : (top answer_len work_len : ℕ) → HeightsAtMost top f → top ≤ 65536 → (lawful_side w && lawful_side h) ≡ true → lawful_size depth ≡ true
      → answer_len ≡ w * h → work_len ≡ w * h → restore_refusal (swell e w h) w h depth size pieces answer_len work_len ≡ None
  restore_accepted top answer_len work_len topped low sides lawful answer_long work_long =
      let laws = skeletons_of e w h in
      let eroded = flat_topped (w * h) (times size (shrink e w h)) (flat_times (w * h) (shrink e w h) (erosion_and_dilation_are_pair e w h).shrinks size) top f long topped in
      none_refused (lawful_side w && lawful_side h) _ _ sides
      (none_refused (eqb answer_len (w * h) && eqb work_len (w * h)) _ _ (rw (eq-eqb _ _ answer_long, eq-eqb _ _ work_long) refl)
      (none_refused (lawful_size depth && leb size depth) _ _ (rw (lawful, le-leb size depth within) refl)
      (none_refused (eqb (length pieces) ((depth + 1) * (w * h))) _ _ (eq-eqb _ _ (laws.long depth f long))
      (rw (laws.rebuilds depth size f long within, none_above top (times size (shrink e w h) f) eroded low) refl))))

  pub restored_opening : restored (swell e w h) (w * h) depth size pieces ≡ opening (shrink e w h) (swell e w h) size f
  restored_opening = (skeletons_of e w h).restores depth size f long within

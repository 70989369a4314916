-- What holds where a call that makes a tally is not refused. Assumes nothing.
use Rattle.std.proofs.Common.{◌≡◌, ℕ, ◌*◌, Bool, true, false, not, ◌&&◌, ℤ, is_some, Some, None, Ok, Err, Option, Result, sym, refl, ◌∙◌, subst, arith}
use Rattle.std.proofs.lemmas.Bool.{and_parts, eq-eqb, eqb-true, false≢true, not-false}
use Rattle.limits.specs.declared.fault.Fault.{Fault}
use Rattle.limits.specs.declared.fault.Fault.TheVariants.{FactorOrHeight}
use Rattle.limits.specs.Faults.{first, told}
use Rattle.limits.specs.Sizes.{factor_refusal, lawful_factor}
use Rattle.bench.specs.declared.slate.Slate.{Slate}
use Rattle.bench.specs.declared.visit.Visit.{Visit}
use Rattle.bench.specs.Model.{Outline, flat_of, is_place}
use Rattle.bench.specs.Calls.{same_flat, sheet_refusal, sources_refusal}
use Rattle.bench.specs.TallyCalls.{MakesTally, combine_refusal, difference_refusal, store_refusal}
use Rattle.bench.proofs.Refusals.{passed_first, refused_leaves}
use Rattle.weights.specs.Weights.{Tally}
use Rattle.tallies.specs.Scaling.{scale_refusal}

-- the same tally is made where refusal and tally are the same
pub makes_same : (refusal wanted : Option Fault) (made tally : Tally) (was is : Slate) (to : ℕ) (answer : Result (Unit {0}) Fault) → refusal ≡ wanted → made ≡ tally
    → MakesTally refusal made was is to answer → MakesTally wanted tally was is to answer
makes_same refusal wanted made tally was is to answer same_refusal same_tally makes =
    subst (λ (o : Option Fault). MakesTally o tally was is to answer) same_refusal (subst (λ (t : Tally). MakesTally refusal t was is to answer) same_tally makes)

-- a refused call makes none
pub refused_makes : (refusal : Option Fault) (made : Tally) (slate : Slate) (to : ℕ) (answer : Result (Unit {0}) Fault) (e : Fault) → Err e ≡ told refusal → answer ≡ Err e
    → MakesTally refusal made slate slate to answer
refused_makes refusal made slate to answer e refused is = record {
  answers = is ∙ refused;
  steps = refused_leaves refusal e tt _ _ refused;
  memory = rw is refl;
  lent = record { reference = refl; long = refl };
}

-- what a test alone refuses it refuses before all else
refused_first : (test : Bool) (fault : Fault) (rest : Option Fault) (e : Fault) → Err e ≡ told (first test fault None) → Err e ≡ told (first test fault rest)
refused_first true fault rest e h = h
refused_first false fault rest e h = absurd (let z : ◌≡◌ {A = ℕ} 0 1 = cc in omega arith)

-- nothing is refused that is not
pub not_both : (o : Option Fault) (e : Fault) → o ≡ None → o ≡ Some e → ⊥
not_both o e none some = let never : ◌≡◌ {A = Option Fault} None (Some e) = sym none ∙ some in let z : ◌≡◌ {A = ℕ} 0 1 = cc in omega arith

-- a visit on the rack to the flat of the slate's is one on the slate
visit_on_slate : (rack slate : Option Visit) → same_flat (flat_of rack) (flat_of slate) ≡ true → is_some rack ≡ true → is_some slate ≡ true
visit_on_slate None slate same on_rack = absurd (false≢true on_rack)
visit_on_slate (Some visit) None same on_rack = absurd (false≢true same)
visit_on_slate (Some visit) (Some other) same on_rack = refl

accepted_none : (o : Option Fault) → Ok tt ≡ told o → o ≡ None
accepted_none None h = refl
accepted_none (Some fault) h = absurd (let z : ◌≡◌ {A = ℕ} 0 1 = cc in omega arith)

-- A difference that is not refused: nothing that it stands on is.
pub record Accepted (r s : Outline) (one other to : ℕ) : Type 0 where
  pub difference : difference_refusal r s one other to ≡ None
  pub sources : sources_refusal r one other ≡ None
  pub first : sheet_refusal r one ≡ None
  pub second : sheet_refusal r other ≡ None
  pub store : (m n : ℕ) → m ≡ r.w * r.h → n ≡ r.w * r.h → store_refusal s to m n ≡ None

pub accepted : (r s : Outline) (one other to : ℕ) → Ok tt ≡ told (difference_refusal r s one other to) → Accepted r s one other to
accepted r s one other to h =
    let first = passed_first _ _ _ h in
    let second = passed_first _ _ _ first.1 in
    let third = passed_first _ _ _ second.1 in
    let fourth = passed_first _ _ _ third.1 in
    let fifth = passed_first _ _ _ fourth.1 in
    let places : (is_place r.places one ≡ true) × (is_place r.places other ≡ true) = and_parts _ _ (not-false _ first.0) in
    let target : is_place s.places to ≡ true = not-false _ second.0 in
    let visit : is_some r.visit ≡ true = not-false _ third.0 in
    let filled : (r.filled one ≡ true) × (r.filled other ≡ true) = and_parts _ _ (not-false _ fourth.0) in
    let equal = and_parts _ _ (not-false _ fifth.0) in
    let sides = and_parts _ _ equal.0 in
    let width = eqb-true _ _ sides.0 in
    let height = eqb-true _ _ sides.1 in
    let on_slate = visit_on_slate r.visit s.visit equal.1 visit in
    record {
      difference = accepted_none _ h;
      sources = rw (places.0, places.1, visit, filled.0, filled.1) refl;
      first = rw (places.0, visit, filled.0) refl;
      second = rw (places.1, visit, filled.1) refl;
      store = λ m n one_long other_long.
          let cells : r.w * r.h ≡ s.w * s.h = λ i. width i * height i in
          rw (eq-eqb m _ (one_long ∙ cells), eq-eqb n _ (other_long ∙ cells), target, on_slate) refl;
    }

twice : (b : Bool) → (b && b) ≡ b
twice true = refl
twice false = refl

-- a multiple by a lawful factor, of places that there are, is refused as what is made of tallies
pub scale_refusal_is : (o : Outline) (made : Tally) (factor : ℤ) (from to : ℕ) → (is_place o.places from && is_place o.places to) ≡ true → Ok tt ≡ told (factor_refusal factor)
    → combine_refusal o made from from to ≡ scale_refusal o made factor from to
scale_refusal_is o made factor from to places h =
    let lawful : lawful_factor factor ≡ true = not-false _ (passed_first _ _ _ h).0 in
    let both : (is_place o.places from ≡ true) × (is_place o.places to ≡ true) = and_parts _ _ places in
    rw (both.0, both.1, lawful, twice (o.filled from)) refl

-- and one by another factor as the factor is
pub scale_refused : (o : Outline) (made : Tally) (factor : ℤ) (from to : ℕ) → (is_place o.places from && is_place o.places to) ≡ true → (e : Fault) → Err e ≡ told (factor_refusal factor)
    → Err e ≡ told (scale_refusal o made factor from to)
scale_refused o made factor from to places e h = rw places (refused_first (not (lawful_factor factor)) FactorOrHeight _ e h)

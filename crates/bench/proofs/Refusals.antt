-- What a call leaves where it is refused and where it is not. Assumes nothing.
use Rattle.std.proofs.Common.{◌≡◌, ℕ, ◌*◌, Bool, true, false, not, ◌&&◌, ◌==◌, is_some, Some, None, Ok, Err, Option, sym, refl, ap, ◌∙◌, arith}
use Rattle.std.proofs.Math.Bool.{and-true}
use Rattle.std.proofs.lemmas.Bool.{not-false, eqb-true, and_parts}
use Rattle.limits.specs.declared.fault.Fault.{Fault}
use Rattle.limits.specs.Faults.{first}
use Rattle.limits.specs.Sizes.{lawful_size}
use Rattle.morphology.specs.Measuring.{numbers_refusal}
use Rattle.bench.specs.Model.{Outline, is_place}
use Rattle.bench.specs.Calls.{depth_refusal, load_refusal, make_refusal, sheet_refusal, source_refusal, sources_refusal}
use Rattle.bench.specs.TallyCalls.{combine_refusal, store_refusal}
use Rattle.weights.specs.Weights.{Tally}
use Rattle.limits.specs.Faults.{tells, told, unless}

pub refused_leaves : {S X : Type 0} (o : Option Fault) (e : Fault) (x : X) (new old : S) → Err e ≡ tells o x → old ≡ unless o new old
refused_leaves None e x new old h = absurd (let z : ◌≡◌ {A = ℕ} 0 1 = cc in omega arith)
refused_leaves (Some f) e x new old h = refl

pub accepted_leaves : {S X : Type 0} (o : Option Fault) (x y : X) (new old : S) → Ok x ≡ tells o y → new ≡ unless o new old
accepted_leaves None x y new old h = refl
accepted_leaves (Some f) x y new old h = absurd (let z : ◌≡◌ {A = ℕ} 0 1 = cc in omega arith)

-- and what a call tells
pub refused_tells : {X : Type 0} (o : Option Fault) (e : Fault) (x : X) → Err e ≡ told o → Err e ≡ tells o x
refused_tells None e x h = absurd (let z : ◌≡◌ {A = ℕ} 0 1 = cc in omega arith)
refused_tells (Some f) e x h = cc

pub accepted_tells : {X : Type 0} (o : Option Fault) (x : X) → Ok tt ≡ told o → Ok x ≡ tells o x
accepted_tells None x h = refl
accepted_tells (Some f) x h = absurd (let z : ◌≡◌ {A = ℕ} 0 1 = cc in omega arith)

-- a table that refuses nothing has passed its first test
pub passed_first : (test : Bool) (fault : Fault) (rest : Option Fault) → Ok tt ≡ told (first test fault rest) → (test ≡ false) × (Ok tt ≡ told rest)
passed_first true fault rest h = absurd (let z : ◌≡◌ {A = ℕ} 0 1 = cc in omega arith)
passed_first false fault rest h = (refl, h)

-- what holds where a call is accepted
pub load_accepted : (o : Outline) (k len : ℕ) → Ok tt ≡ told (load_refusal o k len) → (len ≡ o.w * o.h) × (is_place o.places k ≡ true) × (is_some o.visit ≡ true)
load_accepted o k len h =
    let one = passed_first _ _ _ h in
    let two = passed_first _ _ _ one.1 in
    let three = passed_first _ _ _ two.1 in
    (eqb-true _ _ (not-false _ one.0), not-false _ two.0, not-false _ three.0)

pub store_accepted : (o : Outline) (to one other : ℕ) → Ok tt ≡ told (store_refusal o to one other)
    → (one ≡ o.w * o.h) × (other ≡ o.w * o.h) × (is_place o.places to ≡ true) × (is_some o.visit ≡ true)
store_accepted o to one other h =
    let first = passed_first _ _ _ h in
    let second = passed_first _ _ _ first.1 in
    let third = passed_first _ _ _ second.1 in
    let lens = and_parts _ _ (not-false _ first.0) in
    (eqb-true _ _ lens.0, eqb-true _ _ lens.1, not-false _ second.0, not-false _ third.0)

pub source_accepted : (no_place empty : Fault) (o : Outline) (k : ℕ) → source_refusal no_place empty o k ≡ None → (is_place o.places k ≡ true) × (o.filled k ≡ true)
source_accepted no_place empty o k h =
    let one = passed_first _ _ _ (sym (ap told h)) in
    let two = passed_first _ _ _ one.1 in
    let three = passed_first _ _ _ two.1 in
    (not-false _ one.0, not-false _ three.0)

-- the sheets that something is made of
pub record MadeFrom (o : Outline) (one other : ℕ) : Type 0 where
  pub one_place : is_place o.places one ≡ true
  pub other_place : is_place o.places other ≡ true
  pub visit : is_some o.visit ≡ true
  pub one_filled : o.filled one ≡ true
  pub other_filled : o.filled other ≡ true

pub sources_accepted : (o : Outline) (one other : ℕ) → Ok tt ≡ told (sources_refusal o one other) → MadeFrom o one other
sources_accepted o one other h =
    let first = passed_first _ _ _ h in
    let second = passed_first _ _ _ first.1 in
    let third = passed_first _ _ _ second.1 in
    let places = and_parts _ _ (not-false _ first.0) in
    let filled = and_parts _ _ (not-false _ third.0) in
    record {
      one_place = places.0;
      other_place = places.1;
      visit = not-false _ second.0;
      one_filled = filled.0;
      other_filled = filled.1;
    }

-- numbers told of a sheet are refused as their depth and their list, and as what reads the sheet
pub sheet_accepted : (o : Outline) (k : ℕ) → sheet_refusal o k ≡ None → MadeFrom o k k
sheet_accepted o k h =
    let first = passed_first _ _ _ (sym (ap told h)) in
    let second = passed_first _ _ _ first.1 in
    let third = passed_first _ _ _ second.1 in
    let place = not-false _ first.0 in
    let filled = not-false _ third.0 in
    record { one_place = place; other_place = place; visit = not-false _ second.0; one_filled = filled; other_filled = filled }

pub depth_accepted : (o : Outline) (depth k len wanted : ℕ) → Ok tt ≡ told (numbers_refusal depth wanted len) → sheet_refusal o k ≡ None → Ok tt ≡ told (depth_refusal o depth k len wanted)
depth_accepted o depth k len wanted numbers sheet =
    let first = passed_first _ _ _ numbers in
    let lawful : not (lawful_size depth) ≡ false = first.0 in
    let long : not (len == wanted) ≡ false = (passed_first _ _ _ first.1).0 in
    let from = sheet_accepted o k sheet in
    rw (from.one_place, lawful, long, from.visit, from.one_filled) refl

-- a sheet made into a place is refused as its sources are
pub make_refusal_at : (o : Outline) (one other to : ℕ) → is_place o.places to ≡ true → make_refusal o one other to ≡ sources_refusal o one other
make_refusal_at o one other to place = rw (place, and-true (is_place o.places one && is_place o.places other)) refl

pub make_accepted : (o : Outline) (one other to : ℕ) → Ok tt ≡ told (make_refusal o one other to) → MadeFrom o one other
make_accepted o one other to h =
    let place = (and_parts _ _ (not-false _ (passed_first _ _ _ h).0)).1 in
    sources_accepted o one other (h ∙ ap told (make_refusal_at o one other to place))

pub combine_accepted : (o : Outline) (made : Tally) (one other to : ℕ) → combine_refusal o made one other to ≡ None → MadeFrom o one other × (is_place o.places to ≡ true)
combine_accepted o made one other to h =
    let first = passed_first _ _ _ (sym (ap told h)) in
    let second = passed_first _ _ _ first.1 in
    let third = passed_first _ _ _ second.1 in
    let places = and_parts _ _ (not-false _ first.0) in
    let sources = and_parts _ _ places.0 in
    let filled = and_parts _ _ (not-false _ third.0) in
    (record { one_place = sources.0; other_place = sources.1; visit = not-false _ second.0; one_filled = filled.0; other_filled = filled.1 }, places.1)

-- Whole runs on a bench and on those of the masks, from benches opened alike. Assumes nothing.
use Rattle.std.proofs.Common.{◌≡◌, ℕ, ◌≤◌, true, ◌&&◌, List, [], ◌∷◌, map, Some, None, Option, sym, refl, ap, ◌∙◌, subst, leb, arith, Result, is_some}
use Rattle.std.proofs.lemmas.Bool.{and_parts, leb-true}
use Rattle.limits.specs.declared.fault.Fault.{Fault}
use Rattle.limits.specs.Faults.{tells, unless}
use Rattle.limits.specs.Sizes.{lawful_side, sizes_refusal}
use Rattle.bench.specs.Model.{State, is_place, tally_of}
use Rattle.weights.specs.Weights.{Tally, WithinWeight}
use Rattle.bench.specs.Calls.{opened}
use Rattle.model.specs.Calls.{Call, Told}
use Rattle.model.specs.Steps.{Bench, BenchSizes, after, answer, bench_opened, step}
use Rattle.runs.proofs.Parts.{answer_parts, step_parts, leaves, refusal, told_by}
use Rattle.runs.specs.Sums.{AnswerSum, BenchSum, ToldSum}
use Rattle.runs.specs.Theorems.{OpenedAlike, cut_at, in_heights, bench_after, sizes_of}
use Rattle.runs.proofs.Accepted.{passed}
use Rattle.runs.proofs.Calls.{Goes, leaves_goes, refused_alike, told_sum}
use Rattle.runs.proofs.Reached.{AsOpened, Reached, none_within}
use Rattle.runs.proofs.Stored.{SheetsHeld, bench_sum_same, fresh_sum, opened_held}

-- what holds where a call is accepted holds of its step and its answer, where the masks refuse alike
module _ (top : ℕ) (start b after_b : Bench) (bs after_bs : ℕ → Bench) (g : Goes top start b bs) where
  step_kept : (o : Option Fault) (os : ℕ → Option Fault) → ((a : ℕ) → 1 ≤ a → os a ≡ o) → (o ≡ None → Goes top start after_b after_bs) → Goes top start (unless o after_b b) (λ a. unless (os a) (after_bs a) (bs a))
  step_kept None os same go = record {
    sum = bench_sum_same top after_b after_bs (λ a. unless (os a) (after_bs a) (bs a)) (λ a low. ap (λ o. unless o (after_bs a) (bs a)) (sym (same a low))) (go refl).sum;
    reached = (go refl).reached;
  }
  step_kept (Some fault) os same go = record {
    sum = bench_sum_same top b bs (λ a. unless (os a) (after_bs a) (bs a)) (λ a low. ap (λ o. unless o (after_bs a) (bs a)) (sym (same a low))) g.sum;
    reached = g.reached;
  }

answer_kept : (top : ℕ) (t : Told) (ts : ℕ → Told) (o : Option Fault) (os : ℕ → Option Fault) → ((a : ℕ) → 1 ≤ a → os a ≡ o) → (o ≡ None → ToldSum top t ts) → AnswerSum top (tells o t) (λ a. tells (os a) (ts a))
answer_kept top t ts None os same go = (ts, (λ a low. ap (λ o. tells o (ts a)) (same a low)), go refl)
answer_kept top t ts (Some fault) os same go = λ a low. ap (λ o. tells o (ts a)) (same a low)

module _ {X : Type 0} (height : X → ℕ) (top : ℕ) (bounded : (x : X) → height x ≤ top) (start : Bench) where
  step_goes : (c : Call X) (b : Bench) (bs : ℕ → Bench) → Goes top start b bs → Goes top start (step b (in_heights height c)) (λ a. step (bs a) (cut_at height a c))
  step_goes c b bs g =
      subst (λ (x : Bench × (ℕ → Bench)). Goes top start x.0 x.1) (λ i. (sym (step_parts b (in_heights height c)) i, λ a. sym (step_parts (bs a) (cut_at height a c)) i))
      (step_kept top start b (leaves b (in_heights height c)) bs (λ a. leaves (bs a) (cut_at height a c)) g
      (refusal b (in_heights height c)) (λ a. refusal (bs a) (cut_at height a c))
      (refused_alike height top bounded start b bs g c) (leaves_goes height top bounded start b bs g c))

  pub run_goes : (calls : List (Call X)) (b : Bench) (bs : ℕ → Bench) → Goes top start b bs → Goes top start (after b (map (in_heights height) calls)) (λ a. after (bs a) (map (cut_at height a) calls))
  run_goes [] b bs g = g
  run_goes (c ∷ calls) b bs g = run_goes calls (step b (in_heights height c)) (λ a. step (bs a) (cut_at height a c)) (step_goes c b bs g)

  pub answers_go : (c : Call X) (b : Bench) (bs : ℕ → Bench) → Goes top start b bs → AnswerSum top (answer b (in_heights height c)) (λ a. answer (bs a) (cut_at height a c))
  answers_go c b bs g =
      subst (λ (x : Result Told Fault × (ℕ → Result Told Fault)). AnswerSum top x.0 x.1) (λ i. (sym (answer_parts b (in_heights height c)) i, λ a. sym (answer_parts (bs a) (cut_at height a c)) i))
      (answer_kept top (told_by b (in_heights height c)) (λ a. told_by (bs a) (cut_at height a c))
      (refusal b (in_heights height c)) (λ a. refusal (bs a) (cut_at height a c))
      (refused_alike height top bounded start b bs g c) (told_sum height top bounded start b bs g c))

-- a rack or a slate opened with any sizes is as it opened
opened_as : {C : Type 0} (o : Option Fault) (w h places : ℕ) → AsOpened {C = C} (unless o (opened w h places) (opened 0 0 0))
opened_as None w h places = refl
opened_as (Some fault) w h places = refl

pub rack_as_opened : (o : BenchSizes) → AsOpened (bench_opened o).rack
rack_as_opened o = opened_as (sizes_refusal 2 o.rack.w o.rack.h o.rack.places o.rack.memory) o.rack.w o.rack.h o.rack.places

pub slate_as_opened : (o : BenchSizes) → AsOpened (bench_opened o).slate
slate_as_opened o = opened_as (sizes_refusal 0 o.slate.w o.slate.h o.slate.places o.slate.memory) o.slate.w o.slate.h o.slate.places

-- two of the same sizes that are as they opened are the same
pub as_opened_same : {C : Type 0} (s t : State C) → AsOpened s → AsOpened t → sizes_of s.outline ≡ sizes_of t.outline → s ≡ t
as_opened_same s t one other sizes = one ∙ (λ i. opened (sizes i).0 (sizes i).1 (sizes i).2) ∙ sym other

pub alike_same : (o p : BenchSizes) → OpenedAlike o p → bench_opened o ≡ bench_opened p
alike_same o p alike = λ i. record {
  rack = as_opened_same (bench_opened o).rack (bench_opened p).rack (rack_as_opened o) (rack_as_opened p) alike.rack i;
  slate = as_opened_same (bench_opened o).slate (bench_opened p).slate (slate_as_opened o) (slate_as_opened p) alike.slate i;
}

-- at the start of a run
pub start_goes : (top : ℕ) (o : BenchSizes) (masks : ℕ → BenchSizes) → ((a : ℕ) → 1 ≤ a → OpenedAlike (masks a) o) → Goes top (bench_opened o) (bench_opened o) (λ a. bench_opened (masks a))
start_goes top o masks alike = record {
  sum = bench_sum_same top (bench_opened o) (λ a. bench_opened o) (λ a. bench_opened (masks a)) (λ a low. sym (alike_same (masks a) o (alike a low)))
      (subst (λ b. BenchSum top b (λ a. b)) (λ i. record { rack = sym (rack_as_opened o) i; slate = sym (slate_as_opened o) i }) (fresh_sum top _ _ _ _ _ _));
  reached = record {
    rack_sizes = refl;
    slate_sizes = refl;
    rack_closed = λ closed. rack_as_opened o;
    slate_closed = λ closed. slate_as_opened o;
    held = subst (SheetsHeld top) (sym (rack_as_opened o)) (opened_held top _ _ _);
    tallies = λ k. subst (λ s. WithinWeight top (tally_of s k)) (sym (slate_as_opened o)) (none_within top);
    rack_filled = λ k. subst (λ (s : State (List ℕ)). s.outline.filled k ≡ is_some (s.content k)) (sym (rack_as_opened o)) refl;
    slate_filled = λ k. subst (λ (s : State Tally). s.outline.filled k ≡ is_some (s.content k)) (sym (slate_as_opened o)) refl;
  };
}

-- a bench that a run reaches
pub run_reached : {X : Type 0} (height : X → ℕ) (top : ℕ) → ((x : X) → height x ≤ top) → (o : BenchSizes) (calls : List (Call X)) → Reached top (bench_opened o) (bench_after height o calls)
run_reached height top bounded o calls =
    (run_goes height top bounded (bench_opened o) calls (bench_opened o) (λ a. bench_opened o) (start_goes top o (λ a. o) (λ a low. record { rack = refl; slate = refl }))).reached

-- a rack with a place has lawful sides
pub sides_lawful : (o : BenchSizes) (k : ℕ) → is_place (bench_opened o).rack.outline.places k ≡ true → (lawful_side (bench_opened o).rack.outline.w && lawful_side (bench_opened o).rack.outline.h) ≡ true
sides_lawful o k = lawful (sizes_refusal 2 o.rack.w o.rack.h o.rack.places o.rack.memory) (λ none. (passed (lawful_side o.rack.w && lawful_side o.rack.h) _ _ none).0)
  where
    lawful : (r : Option Fault) → (r ≡ None → (lawful_side o.rack.w && lawful_side o.rack.h) ≡ true) →
        let s : State (List ℕ) = unless r (opened o.rack.w o.rack.h o.rack.places) (opened 0 0 0) in
        is_place s.outline.places k ≡ true → (lawful_side s.outline.w && lawful_side s.outline.h) ≡ true
    lawful None sides place = sides refl
    lawful (Some fault) sides place =
        let both = and_parts (leb 1 k) (leb k 0) place in
        let low : 1 ≤ k = leb-true 1 k both.0 in
        let high : k ≤ 0 = leb-true k 0 both.1 in
        absurd (omega arith)

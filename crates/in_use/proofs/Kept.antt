-- A bench in use after a call: it was reached by one call more, and the slip at hand stays that of the visit. Assumes nothing.
use Rattle.std.proofs.Common.{◌≡◌, ℕ, List, [], ◌∷◌, ◌++◌, map, ◌*◌, unwrap_or, Some, None, Ok, Err, Option, Result, refl, ap, ◌∙◌, sym, subst, arith}
use mathlib.Core.Logic.{∥∥₁_map}
use Rattle.std.specs.Result.{OnErr}
use Rattle.std.proofs.lemmas.Bool.{eq-eqb}
use Rattle.limits.specs.declared.fault.Fault.{Fault}
use Rattle.limits.specs.Faults.{tells}
use Rattle.bench.specs.declared.rack.Rack.{Rack}
use Rattle.bench.specs.declared.slate.Slate.{Slate}
use Rattle.bench.specs.Model.{State, overwritten, place_start, places_of, rack_state, shared, slate_state}
use Rattle.bench.specs.Calls.{Making, MakesUnless, OfTwo, stored_unless}
use Rattle.bench.specs.TallyCalls.{MakesTally}
use Rattle.bench.proofs.KeptVisits.{stored_shared}
use Rattle.model.specs.Calls.{Begin, Call, Told}
use Rattle.model.specs.Steps.{Bench, BenchSizes, after, answer, bench_opened, step, telling, with_rack, with_tally_unless}
use Rattle.runs.specs.Sums.{AnswerSum, BenchSum}
use Rattle.runs.specs.Theorems.{MaskSums, cut_at, in_heights, mask_bench_after}
use Rattle.in_use.specs.declared.bench_in_use.BenchInUse.{BenchInUse}
use Rattle.in_use.specs.InUse.{bench_of}
use Rattle.in_use.specs.Memory.{SheetWritten, TallyWritten}
use Rattle.in_use.specs.Reached.{ReachedByCalls}
use Rattle.in_use.specs.Sums.{SumsOfMasks}
use Rattle.in_use.specs.Slips.{SlipOfVisit}
use Rattle.weights.specs.Weights.{Tally, no_tally}

-- a run of one call more
pub one_more : {X : Type 0} (taken : Call X → Call ℕ) (b : Bench) (calls : List (Call X)) (next : Call X) → step (after b (map taken calls)) (taken next) ≡ after b (map taken (calls ++ (next ∷ [])))
one_more taken b [] next = refl
one_more taken b (call ∷ calls) next = one_more taken (step b (taken call)) calls next

-- no call is made yet
pub reached_none : {L : Type 0} (height : L → ℕ) (o : BenchSizes) (b : Bench) → b ≡ bench_opened o → ∥ ReachedByCalls height b ∥₁
reached_none height o b opened = ∣ record { sizes = o; calls = []; is = opened } ∣₁

-- or one more
pub reached_more : {L : Type 0} (height : L → ℕ) (b c : Bench) (call : Call L) → c ≡ step b (in_heights height call) → ∥ ReachedByCalls height b ∥₁ → ∥ ReachedByCalls height c ∥₁
reached_more height b c call steps reached = ∥∥₁_map reached (λ r. record {
  sizes = r.sizes;
  calls = r.calls ++ (call ∷ []);
  is = steps ∙ ap (λ x. step x (in_heights height call)) r.is ∙ one_more (in_heights height) (bench_opened r.sizes) r.calls call;
})

-- so it is made up of the masks
pub sums_of_masks : {L : Type 0} (height : L → ℕ) (top : ℕ) (b : Bench) → MaskSums height top → ∥ ReachedByCalls height b ∥₁ → SumsOfMasks height top b
sums_of_masks height top b sums reached = ∥∥₁_map reached (λ r. record {
  sizes = r.sizes;
  calls = r.calls;
  reached = r.is;
  sums = λ masks alike. (
    subst (λ x. BenchSum top x (λ a. mask_bench_after height a (masks a) r.calls)) (sym r.is) (sums r.sizes masks alike r.calls (Begin 0)).0,
    λ call. subst (λ x. AnswerSum top (answer x (in_heights height call)) (λ a. answer (mask_bench_after height a (masks a) r.calls) (cut_at height a call))) (sym r.is) (sums r.sizes masks alike r.calls call).1,
  );
})

module _ {L : Type 0} {kind : _} (self : BenchInUse L kind) (call : Call L) where
  -- the bench as it was
  abbrev was : Bench
  was = bench_of kind.height self

  -- what it knows of itself after the call
  pub record InOrder (b : Bench) : Type 0 where
    pub own_slip : SlipOfVisit self.slip b.rack.outline b.slate.outline
    pub reached : ∥ ReachedByCalls kind.height b ∥₁

  -- as where that keeps visits and sides
  kept : (b : Bench) → b ≡ step was (in_heights kind.height call) → shared b.rack.outline ≡ shared was.rack.outline → shared b.slate.outline ≡ shared was.slate.outline → InOrder b
  kept b steps rack slate = record {
    own_slip = record {
      on_rack = ap (λ s. s.0) rack ∙ self.own_slip.on_rack;
      on_slate = ap (λ s. s.0) slate ∙ self.own_slip.on_slate;
      same_sides = λ some.
          let same = self.own_slip.same_sides some in
          (ap (λ s. s.1) rack ∙ same.0 ∙ sym (ap (λ s. s.1) slate), ap (λ s. s.2) rack ∙ same.1 ∙ sym (ap (λ s. s.2) slate));
    };
    reached = reached_more kind.height was b call steps self.reached;
  }

  -- where it fills a place of the rack
  pub sheet_stored : (rack : State (List ℕ)) (refusal : Option Fault) (k : ℕ) (cells : List ℕ) → rack ≡ stored_unless refusal was.rack k cells
      → step was (in_heights kind.height call) ≡ with_rack was (stored_unless refusal was.rack k cells) → InOrder (with_rack was rack)
  sheet_stored rack refusal k cells stores steps =
      kept (with_rack was rack) (ap (with_rack was) stores ∙ sym steps) (stored_shared refusal was.rack rack k cells stores) refl

  -- or one of the slate, and keeps the sheets
  pub tally_stored : (rack : State (List ℕ)) (slate : State Tally) (refusal : Option Fault) (k : ℕ) (tally : Tally) → rack ≡ was.rack
      → slate ≡ stored_unless refusal was.slate k tally → step was (in_heights kind.height call) ≡ with_tally_unless was refusal tally k → InOrder (record { rack = rack; slate = slate })
  tally_stored rack slate refusal k tally keeps stores steps =
      kept (record { rack = rack; slate = slate }) ((λ i. record { rack = keeps i; slate = stores i }) ∙ sym steps) (ap (λ s. shared s.outline) keeps)
      (stored_shared refusal was.slate slate k tally stores)

  -- or keeps all
  pub all_kept : (rack : State (List ℕ)) → rack ≡ was.rack → step was (in_heights kind.height call) ≡ was → InOrder (with_rack was rack)
  all_kept rack keeps steps = kept (with_rack was rack) (ap (with_rack was) keeps ∙ sym steps) (ap (λ s. shared s.outline) keeps) refl

-- a refused call tells its refusal
pub refused_told : {X T : Type 0} (tell : X → Told) (answered : Result X Fault) (fault : Fault) (refusal : Option Fault) (reports : T) (told : Told)
    → answered ≡ Err fault → Err fault ≡ tells refusal reports → telling tell answered ≡ tells refusal told
refused_told tell answered fault None reports told is refused = absurd (let z : ◌≡◌ {A = ℕ} 0 1 = cc in omega arith)
refused_told tell answered fault (Some f) reports told is refused = ap (telling tell) (is ∙ (let same : fault ≡ f = cc (refused) in ap Err same))

-- and an accepted one what it has found
pub accepted_told : {X T : Type 0} (tell : X → Told) (refusal : Option Fault) (reports told : T) (found x : X) → Ok told ≡ tells refusal reports → found ≡ x
    → Ok (tell found) ≡ tells refusal (tell x)
accepted_told tell None reports told found x accepted is = ap (λ y. Ok (tell y)) is
accepted_told tell (Some f) reports told found x accepted is = absurd (let z : ◌≡◌ {A = ℕ} 0 1 = cc in omega arith)

-- what is told of an answer is the answer that tells it
telling_tells : {X : Type 0} (tell : X → Told) (refusal : Option Fault) (x : X) → telling tell (tells refusal x) ≡ tells refusal (tell x)
telling_tells tell None x = refl
telling_tells tell (Some f) x = refl

-- so it is of a measurement, refused or accepted
pub refused_measure : {X Y T : Type 0} (tell : X → Told) (measured : Y → Told) (answered : Result X Fault) (fault : Fault) (refusal : Option Fault) (reports : T) (y : Y)
    → answered ≡ Err fault → Err fault ≡ tells refusal reports → telling tell answered ≡ telling measured (tells refusal y)
refused_measure tell measured answered fault refusal reports y is refused =
    refused_told tell answered fault refusal reports (measured y) is refused ∙ sym (telling_tells measured refusal y)

pub accepted_measure : {Y T : Type 0} (measured : Y → Told) (refusal : Option Fault) (reports told : T) (found y : Y) → Ok told ≡ tells refusal reports → found ≡ y
    → Ok (measured found) ≡ telling measured (tells refusal y)
accepted_measure measured refusal reports told found y accepted is =
    accepted_told measured refusal reports told found y accepted is ∙ sym (telling_tells measured refusal y)

-- a fact of a refused call
pub on_err : {T E : Type 0} {P : Type 0} (r : Result T E) → P → OnErr r P
on_err (Ok x) p = tt
on_err (Err e) p = p

-- what an accepted call stores in a place is there
stored_there : {C T : Type 0} (was is : State C) (refusal : Option Fault) (reports told : T) (k : ℕ) (c : C) → Ok told ≡ tells refusal reports
    → is ≡ stored_unless refusal was k c → is.content k ≡ Some c
stored_there was is None reports told k c accepted stores = ap (λ s. s.content k) stores ∙ rw (eq-eqb k k refl) refl
stored_there was is (Some f) reports told k c accepted stores = absurd (let z : ◌≡◌ {A = ℕ} 0 1 = cc in omega arith)

-- so just its target's cells change
pub sheet_written : {L T : Type 0} (height : L → ℕ) {refusal : Option Fault} {made : Making} {report : OfTwo T} {was is : Rack L} {one other to : ℕ} {told : T}
    → MakesUnless height refusal made report was is one other to (Ok told) → SheetWritten height was is to
sheet_written height {refusal} {made} {report} {was} {is} {one} {other} {to} makes =
    let there = ap (λ held. unwrap_or held []) (stored_there (rack_state height was) (rack_state height is) refusal _ _ to _ makes.answers makes.steps) in
    makes.memory ∙ ap (λ cells. overwritten (place_start (was.marks.w * was.marks.h) to) cells (places_of was.marks (map height was.memory.now))) (sym there)

pub tally_written : {refusal : Option Fault} {made : Tally} {was is : Slate} {to : ℕ} {told : Unit {0}} → MakesTally refusal made was is to (Ok told) → TallyWritten was is to
tally_written {refusal} {made} {was} {is} {to} makes =
    let there = ap (λ held. unwrap_or held no_tally) (stored_there (slate_state was) (slate_state is) refusal _ _ to made makes.answers makes.steps) in
    makes.memory ∙ ap (λ tally. overwritten (place_start (was.marks.w * was.marks.h) to) tally.cells was.memory.now) (sym there)

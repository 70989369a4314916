-- The theorems about whole runs. Assumes nothing.
use Rattle.std.proofs.Common.{◌≡◌, ℕ, ◌*◌, ◌≤◌, true, ◌&&◌, List, ◌∷◌, map, replicate, length, leb, None, Ok, sym, ap, ◌∙◌, subst, arith}
use Rattle.std.specs.Prelude.{drop, sum}
use Rattle.std.proofs.lemmas.List.{length-replicate}
use Rattle.limits.specs.Sizes.{lawful_side}
use Rattle.bench.specs.Model.{sheet_of}
use Rattle.bench.specs.Calls.{begin_refusal}
use Rattle.operators.specs.Restoring.{answer_list, restored, restore_refusal, left_in_list}
use Rattle.operators.specs.Skeletons.{skeleton}
use Rattle.operators.specs.Spectra.{spectrum}
use Rattle.runs.proofs.Calls.{spectra_of}
use Rattle.runs.proofs.Restored.{restore_accepted, restored_opening}
use Rattle.model.specs.Calls.{Begin, Call, Skeleton, SkeletonTold, SlipTold, Spectrum, SpectrumTold}
use Rattle.calls.specs.ByElement.{shrink, swell}
use Rattle.closings.specs.ByElement.{close}
use Rattle.model.specs.Steps.{Bench, BenchSizes, after, answer, bench_opened}
use Rattle.runs.proofs.Parts.{answer_parts, refusal, told_by}
use Rattle.runs.specs.Theorems.{Forgetting, MaskSums, OpenedAlike, Restoring, RunLaws, SkeletonsTellSheets, SpectraTellAreas, in_heights, bench_after, TalliesWithinWeights, FilledPlaces}
use Rattle.runs.proofs.Accepted.{begin_closed, depth_listed, tells_ok}
use Rattle.runs.proofs.Reached.{Reached}
use Rattle.runs.proofs.Runs.{answers_go, as_opened_same, run_goes, run_reached, sides_lawful, start_goes}

-- a list of as many zeros as a sheet of a bench has cells
abbrev blank : Bench → List ℕ
blank b = replicate (b.rack.outline.w * b.rack.outline.h) 0

blank_long : (b : Bench) → length (blank b) ≡ b.rack.outline.w * b.rack.outline.h
blank_long b = length-replicate (b.rack.outline.w * b.rack.outline.h) 0

module _ {X : Type 0} (height : X → ℕ) (top : ℕ) (bounded : (x : X) → height x ≤ top) where
  pub mask_sums : MaskSums height top
  mask_sums o masks alike calls next =
      let b = bench_after height o calls in
      let g = run_goes height top bounded (bench_opened o) calls (bench_opened o) (λ a. bench_opened (masks a)) (start_goes top o masks alike) in
      (g.sum, answers_go height top bounded (bench_opened o) next b _ g)

  pub restoring : top ≤ 65536 → Restoring height
  restoring low o calls e depth place len pieces told size answer_was work_was within answer_long work_long =
      let b = bench_after height o calls in
      let r = run_reached height top bounded o calls in
      let w = b.rack.outline.w in
      let h = b.rack.outline.h in
      let f = sheet_of b.rack place in
      let ok = tells_ok (refusal b (Skeleton e depth place len)) (told_by b (Skeleton e depth place len)) (SkeletonTold pieces) (sym (answer_parts b (Skeleton e depth place len)) ∙ told) in
      let listed = depth_listed b.rack.outline depth place len _ ok.0 in
      let long = r.held.sized place listed.filled in
      let same : skeleton (shrink e w h) (swell e w h) depth f ≡ pieces = cc (ok.1) in
      let sides : (lawful_side w && lawful_side h) ≡ true = subst (λ s. (lawful_side s.0 && lawful_side s.1) ≡ true) (sym r.rack_sizes)
      (sides_lawful o place (ap (λ s. leb 1 place && leb place s.2) (sym r.rack_sizes) ∙ listed.there)) in
      let accepted = restore_accepted e w h depth size f long within top (length answer_was) (length work_was) (r.held.topped place) low sides listed.lawful answer_long work_long in
      let none = ap (λ xs. restore_refusal (swell e w h) w h depth size xs (length answer_was) (length work_was)) (sym same) ∙ accepted in (
        none,
        ap (λ r. left_in_list r (restored (swell e w h) (w * h) depth size pieces) answer_was) none
            ∙ ap (restored (swell e w h) (w * h) depth size) (sym same)
            ∙ restored_opening e w h depth size f long within,
      )

  pub skeletons_tell : top ≤ 65536 → SkeletonsTellSheets height
  skeletons_tell low o p calls others e depth place other len pieces wide tall one two =
      let b = bench_after height o calls in
      let c = bench_after height p others in
      let first = restoring low o calls e depth place len pieces one 0 (blank b) (blank b) (omega arith) (blank_long b) (blank_long b) in
      let second = restoring low p others e depth other len pieces two 0 (blank c) (blank c) (omega arith) (blank_long c) (blank_long c) in
      sym first.1
      ∙ (λ i. answer_list (swell e (wide i) (tall i)) (wide i) (tall i) depth 0 pieces (replicate (wide i * tall i) 0) (replicate (wide i * tall i) 0))
      ∙ second.1

  pub spectra_tell : SpectraTellAreas height
  spectra_tell o calls e depth place len entries told =
      let b = bench_after height o calls in
      let r = run_reached height top bounded o calls in
      let w = b.rack.outline.w in
      let h = b.rack.outline.h in
      let f = sheet_of b.rack place in
      let ok = tells_ok (refusal b (Spectrum e depth place len)) (told_by b (Spectrum e depth place len)) (SpectrumTold entries) (sym (answer_parts b (Spectrum e depth place len)) ∙ told) in
      let listed = depth_listed b.rack.outline depth place len _ ok.0 in
      let same : spectrum (close e w h) (shrink e w h) (swell e w h) depth f ≡ entries = cc (ok.1) in
      ap (λ xs. sum (drop depth xs)) (sym same) ∙ (spectra_of e w h).total depth f (r.held.sized place listed.filled)

  -- where no visit is open the bench is as it opened
  closed_same : (o p : BenchSizes) → OpenedAlike o p → (b c : Bench) → Reached top (bench_opened o) b → Reached top (bench_opened p) c →
      b.rack.outline.visit ≡ None → b.slate.outline.visit ≡ None → c.rack.outline.visit ≡ None → c.slate.outline.visit ≡ None → b ≡ c
  closed_same o p alike b c r s br bs cr cs = λ i. record {
    rack = as_opened_same b.rack c.rack (r.rack_closed br) (s.rack_closed cr) (r.rack_sizes ∙ alike.rack ∙ sym s.rack_sizes) i;
    slate = as_opened_same b.slate c.slate (r.slate_closed bs) (s.slate_closed cs) (r.slate_sizes ∙ alike.slate ∙ sym s.slate_sizes) i;
  }

  -- benches opened alike on which both a begin is accepted are the same
  pub begun_same : (o p : BenchSizes) → OpenedAlike o p → (before others : List (Call X)) (flat : ℕ) →
      let b = bench_after height o before in
      let c = bench_after height p others in
      answer b (Begin flat) ≡ Ok (SlipTold flat) → answer c (Begin flat) ≡ Ok (SlipTold flat) → b ≡ c
  begun_same o p alike before others flat one two =
      let b = bench_after height o before in
      let c = bench_after height p others in
      let first = tells_ok (begin_refusal b.rack.outline b.slate.outline flat) (SlipTold flat) (SlipTold flat) one in
      let second = tells_ok (begin_refusal c.rack.outline c.slate.outline flat) (SlipTold flat) (SlipTold flat) two in
      let open_none = begin_closed b.rack.outline b.slate.outline flat first.0 in
      let other_none = begin_closed c.rack.outline c.slate.outline flat second.0 in
      closed_same o p alike b c (run_reached height top bounded o before) (run_reached height top bounded p others) open_none.0 open_none.1 other_none.0 other_none.1

  pub forgetting : Forgetting height
  forgetting o p alike before others flat one two calls next =
      ap (λ x. answer (after x (map (in_heights height) (Begin flat ∷ calls))) (in_heights height next)) (begun_same o p alike before others flat one two)

  pub tallies_within : TalliesWithinWeights height top
  tallies_within o calls place = (run_reached height top bounded o calls).tallies place

  pub filled_places : FilledPlaces height
  filled_places o calls place = let r = run_reached height top bounded o calls in (r.rack_filled place, r.slate_filled place)

pub run_laws : {X : Type 0} (height : X → ℕ) (top : ℕ) → ((x : X) → height x ≤ top) → top ≤ 65536 → RunLaws height top
run_laws height top bounded low = record {
  sums = mask_sums height top bounded;
  restoring = restoring height top bounded low;
  skeletons = skeletons_tell height top bounded low;
  spectra = spectra_tell height top bounded;
  weights = tallies_within height top bounded;
  places = filled_places height top bounded;
  forgetting = forgetting height top bounded;
}

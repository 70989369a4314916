-- A tally written to a place of a slate. Assumes nothing.
use Rattle.std.proofs.Common.{◌≡◌, ℕ, zero, suc, ◌+◌, ◌-◌, ◌*◌, ◌≤◌, true, is_some, eqb, cond, List, [], ◌∷◌, ◌++◌, length, map, get_or, take, drop, set, ℤ, Ok, Some, None, Option, option_map, unwrap_or, subst, sym, refl, ap, ◌∙◌, inl, inr, arith}
use Rattle.std.proofs.lemmas.Bool.{cases_eq, eq-eqb, false≢true, ne_eqb}
use Rattle.std.proofs.lemmas.List.{drop-drop, length-drop, length-take}
use Rattle.limits.specs.declared.fault.Fault.{Fault}
use Rattle.limits.specs.Faults.{told}
use Rattle.weights.specs.declared.weight.Weight.{Weight}
use Rattle.weights.specs.Weights.{AllWithin, Tally, weighed}
use Rattle.bench.specs.declared.marks.Marks.{Marks}
use Rattle.bench.specs.declared.slate.Slate.{Slate}
use Rattle.bench.specs.Calls.{stored}
use Rattle.bench.specs.Model.{SameSizes, overwritten, slate_state, state_of}
use Rattle.bench.specs.Places.{CellsWithin, cells_of, is_place, kept, place_start}
use Rattle.bench.specs.TallyCalls.{MakesTally}
use Rattle.bench.proofs.Memory.{length-overwritten}
use Rattle.bench.proofs.Places.{content_kept, place_in_memory, slate_room, some_places}
use Rattle.bench.proofs.Refusals.{accepted_leaves}
use Rattle.bench.proofs.Stored.{place_within, stored_state}

-- the heights of levels are at most the greatest top
pub heights_within : {X : Type 0} (height : X → ℕ) (top : ℕ) → ((x : X) → height x ≤ top) → top ≤ 65536 → (xs : List X) (k : ℕ) → get_or (map height xs) k 0 ≤ 65536
heights_within height top within bounded [] k = omega arith
heights_within height top within bounded (x ∷ xs) zero = let one = within x in omega arith
heights_within height top within bounded (x ∷ xs) (suc k) = heights_within height top within bounded xs k

-- the cells of a place of a slate, written as others
pub place_written : (s : Slate) (k n : ℕ) (cells : List ℤ) → is_place s.marks.places k ≡ true → n ≡ s.marks.w * s.marks.h
    → length cells ≡ length (take ((k - 1) * n + n - (k - 1) * n) (drop ((k - 1) * n) s.memory.now))
    → (length cells ≡ s.marks.w * s.marks.h)
    × (take ((k - 1) * n) s.memory.now ++ (cells ++ drop ((k - 1) * n + n - (k - 1) * n) (drop ((k - 1) * n) s.memory.now)) ≡ overwritten (place_start (s.marks.w * s.marks.h) k) cells s.memory.now)
place_written s k n cells place count same =
    let start = (k - 1) * n in
    let fits : start + n ≤ length s.memory.now = rw count (place_in_memory s.marks k place s.memory.now (slate_room s k place)) in
    let long : length cells ≡ n = same ∙ simp (length-take, length-drop) (omega arith) in
    let last : start + (start + n - start) ≡ start + length cells = omega arith in (
      long ∙ count,
      ap (λ rest. take start s.memory.now ++ (cells ++ rest)) (drop-drop (start + n - start) start s.memory.now ∙ ap (λ p. drop p s.memory.now) last)
          ∙ ap (λ m. overwritten ((k - 1) * m) cells s.memory.now) count,
    )

abbrev held : Weight → List ℤ → Weight × List ℤ
held w cells = (w, cells)

-- in a place where nothing exceeds what is kept for it
within_content : (o : Option Weight) (xs : List ℤ) (c : Weight × List ℤ) → ((v : Weight) → o ≡ Some v → AllWithin v xs) → Some c ≡ option_map (λ v. held v xs) o → AllWithin c.0 c.1
within_content None xs c each is = absurd (false≢true (sym (ap is_some is)))
within_content (Some v) xs c each is = subst (λ (d : Weight × List ℤ). AllWithin d.0 d.1) (sym (ap (λ o. unwrap_or o c) is)) (each v refl)

module _ (was : Slate) (k : ℕ) (w : Weight) (cells : List ℤ) (place : is_place was.marks.places k ≡ true) (long : length cells ≡ was.marks.w * was.marks.h)
    (after : Marks Weight) (sizes : SameSizes was.marks after) (visit : after.visit ≡ was.marks.visit) (filled : after.filled ≡ set was.marks.filled (k - 1) (Some w)) where
  abbrev written : List ℤ
  written = overwritten (place_start (was.marks.w * was.marks.h) k) cells was.memory.now

  room : was.marks.places * (was.marks.w * was.marks.h) ≤ length was.memory.now
  room = slate_room was k place

  same_length : length written ≡ length was.memory.now
  same_length = length-overwritten (place_start (was.marks.w * was.marks.h) k) cells was.memory.now (omega (arith, place_within (was.marks.w * was.marks.h) was.marks.places k place, room))

  pub sized_after : 1 ≤ after.places → length written ≡ after.places * (after.w * after.h)
  sized_after some = same_length ∙ was.sized (some_places was.marks k place) ∙ sym (λ i. sizes.places i * (sizes.w i * sizes.h i))

  -- no cell exceeds what is kept for its place, if none did before and none does of the new ones
  pub within_after : AllWithin w cells → CellsWithin after written
  within_after all j u is =
      let content = ap (λ s. s.content j) (stored_state held was.marks k w cells was.memory.now place long room after sizes.w sizes.h sizes.places visit filled) in
      let here : Some (held u (cells_of (after.w * after.h) j written)) ≡ cond (eqb j k) (Some (held w cells)) (option_map (λ v. held v (cells_of (was.marks.w * was.marks.h) j was.memory.now)) (kept was.marks j)) =
      sym (content_kept held after written j u (cells_of (after.w * after.h) j written) is refl) ∙ content in
      elim (cases_eq j k) [
        | inl same ↦ within_content (Some w) cells _ (λ v own. subst (λ x. AllWithin x cells) (ap (λ o. unwrap_or o w) own) all) (rw (eq-eqb j k same) at here)
        | inr other ↦ within_content (kept was.marks j) (cells_of (was.marks.w * was.marks.h) j was.memory.now) _ (λ v own. was.within j v own) (rw (ne_eqb j k other) at here)
      ]

  -- an accepted call that writes so makes the tally
  pub makes_tally : (is : Slate) (refusal : Option Fault) (made : Tally) → Ok tt ≡ told refusal → weighed w cells ≡ made → is.marks ≡ after → is.memory.now ≡ written
      → is.memory.ghost_name ≡ was.memory.ghost_name → MakesTally refusal made was is k (Ok tt)
  makes_tally is refusal made passed tally marks memory reference = record {
    answers = passed;
    steps = (λ i. state_of weighed (marks i) (memory i))
        ∙ stored_state weighed was.marks k w cells was.memory.now place long room after sizes.w sizes.h sizes.places visit filled
        ∙ ap (stored (slate_state was) k) tally ∙ accepted_leaves refusal tt tt _ _ passed;
    memory = memory ∙ ap (λ t. overwritten (place_start (was.marks.w * was.marks.h) k) t.cells was.memory.now) tally;
    lent = record { reference = reference; long = ap length memory ∙ same_length };
  }

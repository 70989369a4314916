-- A tally that is made of those in two places of a slate. Assumes nothing.
use Rattle.std.proofs.Common.{◌≡◌, ℕ, ◌+◌, ◌*◌, ◌<◌, true, List, length, get_or, ℤ, pos, Some, None, option_map, unwrap_or, FitsSigned, w32, sym, refl, ap, ◌∙◌, inl, inr}
use Rattle.std.proofs.lemmas.Bool.{cases_eq}
use Rattle.weights.specs.declared.combination.Combination.{Combination}
use Rattle.weights.specs.declared.weight.Weight.{Weight}
use Rattle.weights.specs.Weights.{AcceptedWeight, AllWithin, Tally, combined_cell, combined_cells, combined_tally, no_tally, weighed}
use Rattle.weights.proofs.Cells.{length-combined_cells}
use Rattle.weights.proofs.Within.{cell_fits, combined_all_within, combined_within}
use Rattle.bench.specs.declared.slate.Slate.{Slate}
use Rattle.bench.specs.Model.{slate_outline, slate_state, tally_of}
use Rattle.bench.specs.Places.{cells_of, is_place, kept, place_start}
use Rattle.bench.specs.Starts.{SourceOf}
use Rattle.bench.specs.TallyCalls.{combine_refusal, weight_refusal}
use Rattle.bench.proofs.Combining.{part_at}
use Rattle.bench.proofs.Places.{from_one, length-cells_of, place_in_memory, slate_room}
use Rattle.bench.proofs.Refusals.{MadeFrom, combine_accepted}
use Rattle.bench.proofs.Stored.{places_apart}

-- the cells of a place are those of another, or lie apart from them
pub source_of : (s : Slate) (one to : ℕ) → is_place s.marks.places one ≡ true → is_place s.marks.places to ≡ true
    → SourceOf (place_start (s.marks.w * s.marks.h) one) (place_start (s.marks.w * s.marks.h) to) (s.marks.w * s.marks.h) (length s.memory.now)
source_of s one to source target = record {
  within = place_in_memory s.marks one source s.memory.now (slate_room s one source);
  apart = elim (cases_eq one to) [
    | inl same ↦ inl (ap (place_start (s.marks.w * s.marks.h)) same)
    | inr other ↦
        inr (places_apart (s.marks.w * s.marks.h) one to (from_one s.marks.places one source) (from_one s.marks.places to target) other)
  ];
}

-- What an accepted call knows: what is kept of the two sources, the weight of the tally to be made, and that only this weight could
-- be refused.
pub record CombinedFrom (was : Slate) (how : Combination) (one other to : ℕ) (first second weight : Weight) : Type 0 where
  pub one_kept : kept was.marks one ≡ Some first
  pub other_kept : kept was.marks other ≡ Some second
  pub refusal : (made : Tally) → combine_refusal (slate_outline was) made one other to ≡ weight_refusal made
  pub accepted : AcceptedWeight how first second weight

pub combined_from : (was : Slate) (how : Combination) (one other to : ℕ) (first second weight : Weight)
    → (kept was.marks one ≡ Some first) × (kept was.marks other ≡ Some second) × ((made : Tally) → combine_refusal (slate_outline was) made one other to ≡ weight_refusal made)
    → AcceptedWeight how first second weight → CombinedFrom was how one other to first second weight
combined_from was how one other to first second weight both accepted = record { one_kept = both.0; other_kept = both.1; refusal = both.2; accepted = accepted }

module _ {was : Slate} {how : Combination} {one other to : ℕ} {first second weight : Weight} (from : CombinedFrom was how one other to first second weight) where
  abbrev count : ℕ
  count = was.marks.w * was.marks.h

  abbrev xs : List ℤ
  xs = cells_of count one was.memory.now

  abbrev ys : List ℤ
  ys = cells_of count other was.memory.now

  abbrev pub made_cells : List ℤ
  made_cells = combined_cells how xs ys

  abbrev pub made_tally : Tally
  made_tally = combined_tally how (tally_of (slate_state was) one) (tally_of (slate_state was) other)

  held : (k : ℕ) (w : Weight) → kept was.marks k ≡ Some w → tally_of (slate_state was) k ≡ weighed w (cells_of count k was.memory.now)
  held k w is = ap (λ o. unwrap_or (option_map (λ t. weighed t (cells_of count k was.memory.now)) o) no_tally) is

  of_weighed : made_tally ≡ combined_tally how (weighed first xs) (weighed second ys)
  of_weighed = λ i. combined_tally how (held one first from.one_kept i) (held other second from.other_kept i)

  -- the tally that is made
  pub tally_made : weighed weight made_cells ≡ made_tally
  tally_made = sym (of_weighed ∙ from.accepted.tally xs ys)

  -- it is not refused
  pub not_refused : combine_refusal (slate_outline was) made_tally one other to ≡ None
  not_refused = from.refusal made_tally ∙ ap weight_refusal of_weighed ∙ rw (from.accepted.lawful xs ys) refl

  pub sources : MadeFrom (slate_outline was) one other
  sources = (combine_accepted (slate_outline was) made_tally one other to not_refused).0

  pub target : is_place was.marks.places to ≡ true
  target = (combine_accepted (slate_outline was) made_tally one other to not_refused).1

  -- each of its cells is an i32
  pub cells_fit : (k : ℕ) → k < count → FitsSigned w32
      (combined_cell how (get_or was.memory.now (place_start count one + k) (pos 0)) (get_or was.memory.now (place_start count other + k) (pos 0)))
  cells_fit k inside = rw (← part_at (place_start count one) count k was.memory.now inside, ← part_at (place_start count other) count k was.memory.now inside)
      (cell_fits weight _ (combined_within how first second weight from.accepted _ _ (was.within one first from.one_kept k) (was.within other second from.other_kept k)))

  one_long : length xs ≡ count
  one_long = length-cells_of was.marks one sources.one_place was.memory.now (slate_room was one sources.one_place)

  same : length ys ≡ length xs
  same = length-cells_of was.marks other sources.other_place was.memory.now (slate_room was other sources.other_place) ∙ sym one_long

  pub made_long : length made_cells ≡ count
  made_long = length-combined_cells how xs ys same ∙ one_long

  pub made_within : AllWithin weight made_cells
  made_within = combined_all_within how first second weight from.accepted xs ys same (was.within one first from.one_kept) (was.within other second from.other_kept)

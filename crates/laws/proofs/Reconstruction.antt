-- Reconstruction by a map that swells: its rounds settle, and do so for its cuts. Assumes nothing.
use Rattle.std.proofs.Common.{◌≡◌, ℕ, zero, suc, ◌-◌, ◌≤◌, min, List, length, get_or, sym, refl, ap, ◌∙◌, inl, inr, arith}
use Rattle.std.proofs.lemmas.Bool.{cases_lt}
use Rattle.std.proofs.lemmas.List.{length-map}
use Rattle.morphology.specs.Cells.{cut, met}
use Rattle.morphology.specs.Sheets.{area}
use Rattle.operators.specs.Maps.{times}
use Rattle.laws.specs.Maps.{Below, FlatOperator}
use Rattle.laws.specs.Sums.{HeightsAtMost, greatest_to}
use Rattle.operators.specs.Reconstruction.{round, rounds, reconstructed}
use Rattle.laws.specs.Reconstruction.{PairsReconstruct, ReconstructionLaws}
use Rattle.laws.proofs.Cells.{cut-met, same_from_below, below_from_cuts, area_order, same_from_area}
use Rattle.morphology.proofs.TakenTogether.{length-cell_by_cell, get_or-cell_by_cell}
use Rattle.laws.proofs.Rounds.{Settled, settled_from, changes_before, changes_at_most, Fills, settles}

-- the greatest of some numbers is at least each of them, and at most what each of them is
at_most_greatest : (top : ℕ) (f : ℕ → ℕ) (a : ℕ) → 1 ≤ a → a ≤ top → f a ≤ greatest_to top f
at_most_greatest zero f a high within = absurd (omega arith)
at_most_greatest (suc top) f a high within = elim (cases_lt top a) [
  | inl last ↦ let same : a ≡ suc top = omega arith in omega (arith, ap f same)
  | inr earlier ↦ omega (arith, at_most_greatest top f a high earlier)
]

greatest_at_most : (top : ℕ) (f : ℕ → ℕ) (n : ℕ) → ((a : ℕ) → 1 ≤ a → a ≤ top → f a ≤ n) → greatest_to top f ≤ n
greatest_at_most zero f n each = omega arith
greatest_at_most (suc top) f n each = omega (arith, each (suc top) (omega arith) (omega arith), greatest_at_most top f n (λ a high within. each a high (omega arith)))

-- a sheet of so many cells, nowhere above the upper sheet, as every meet with that one is
pub record Under (cells : ℕ) (g f : List ℕ) : Type 0 where
  pub sheet : length f ≡ cells
  pub below : Below f g

pub met_under : (cells : ℕ) (f g : List ℕ) → length f ≡ cells → length g ≡ cells → Under cells g (met f g)
met_under cells f g marker upper = record {
  sheet = length-cell_by_cell min f g (marker ∙ sym upper) ∙ marker;
  below = λ p. omega (arith, get_or-cell_by_cell min f g p 0 0 (marker ∙ sym upper) refl);
}

-- what is nowhere above two sheets is nowhere above their meet
pub met_above : (f a g : List ℕ) → length a ≡ length g → Below f a → Below f g → Below f (met a g)
met_above f a g same one two p = omega (arith, get_or-cell_by_cell min a g p 0 0 same refl, one p, two p)

-- the sheet after so many rounds
abbrev after : (List ℕ → List ℕ) → List ℕ → List ℕ → ℕ → List ℕ
after swell f g t = times t (round swell g) (met f g)

module _ (cells : ℕ) (swell : List ℕ → List ℕ) (flat : FlatOperator cells swell) (above : (f : List ℕ) → length f ≡ cells → Below f (swell f)) where
  module _ (g : List ℕ) (upper : length g ≡ cells) where
    -- a round keeps a sheet under the upper one and lowers no height, so it leaves less room there or changes nothing
    round_under : (f : List ℕ) → Under cells g f → Under cells g (round swell g f)
    round_under f under = met_under cells (swell f) g (flat.sheet f under.sheet) upper

    round_above : (f : List ℕ) → Under cells g f → Below f (round swell g f)
    round_above f under = met_above f (swell f) g (flat.sheet f under.sheet ∙ sym upper) (above f under.sheet) under.below

    round_fills : Fills (round swell g) (Under cells g) (λ f. area g - area f)
    round_fills = record {
      held = round_under;
      less = λ f under changed.
          let next = round_under f under in
          elim (cases_lt (area f) (area (round swell g f))) [
            | inl more ↦ omega (arith, area_order (round swell g f) g (next.sheet ∙ sym upper) next.below)
            | inr same ↦ absurd (changed (sym (same_from_area f (round swell g f) (under.sheet ∙ sym next.sheet) (round_above f under) same)))
          ];
    }

    -- after any rounds the sheet is under the upper one, and the told rounds settle it
    after_under : (f : List ℕ) (t : ℕ) → length f ≡ cells → Under cells g (after swell f g t)
    after_under f zero marker = met_under cells f g marker upper
    after_under f (suc t) marker = round_under (after swell f g t) (after_under f t marker)

    rounds_settle : (f : List ℕ) → length f ≡ cells → Settled (round swell g) (met f g) (rounds swell f g)
    rounds_settle f marker = settles (round swell g) (Under cells g) (λ x. area g - area x) round_fills (area g) (met f g) (met_under cells f g marker upper) (omega arith)

  module _ (f g : List ℕ) (marker : length f ≡ cells) (upper : length g ≡ cells) where
    module _ (a : ℕ) (high : 1 ≤ a) where
      -- rounds commute with cutting
      cut_after : (t : ℕ) → cut a (after swell f g t) ≡ after swell (cut a f) (cut a g) t
      cut_after zero = cut-met a f g
      cut_after (suc t) =
          cut-met a (swell (after swell f g t)) g
          ∙ ap (λ x. met x (cut a g)) (sym (flat.cuts a (after swell f g t) high (after_under g upper f t marker).sheet))
          ∙ ap (round swell (cut a g)) (cut_after t)

      -- so a cut takes no more rounds
      cut_rounds : rounds swell (cut a f) (cut a g) ≤ rounds swell f g
      cut_rounds =
          let told = rounds swell f g in
          changes_at_most (area (cut a g)) told (round swell (cut a g)) (met (cut a f) (cut a g)) (sym (cut_after (suc told)) ∙ ap (cut a) (rounds_settle g upper f marker) ∙ cut_after told)

      -- and from these on it is reconstructed
      cut_reconstructed : (t : ℕ) → rounds swell (cut a f) (cut a g) ≤ t → cut a (after swell f g t) ≡ reconstructed swell (cut a f) (cut a g)
      cut_reconstructed t enough =
          let settled = rounds_settle (cut a g) (length-map g _ ∙ upper) (cut a f) (length-map f _ ∙ marker) in
          cut_after t ∙ settled_from (round swell (cut a g)) (met (cut a f) (cut a g)) (rounds swell (cut a f) (cut a g)) t enough settled

    -- rounds that are enough for each cut are enough
    enough_for_cuts : (top t : ℕ) → HeightsAtMost top g → ((a : ℕ) → 1 ≤ a → a ≤ top → rounds swell (cut a f) (cut a g) ≤ t) → Settled (round swell g) (met f g) t
    enough_for_cuts top t topped enough =
        let now = after_under g upper f t marker in
        let next = after_under g upper f (suc t) marker in
        let same = λ (a : ℕ) (high : 1 ≤ a) (within : a ≤ top). cut_reconstructed a high (suc t) (omega (arith, enough a high within)) ∙ sym (cut_reconstructed a high t (enough a high within)) in
        let back = below_from_cuts top (after swell f g (suc t)) (after swell f g t) (λ p. omega (arith, next.below p, topped p)) (λ a high within p. omega (arith, ap (λ x. get_or x p 0) (same a high within))) in
        sym (same_from_below (after swell f g t) (after swell f g (suc t)) (now.sheet ∙ sym next.sheet) (round_above g upper (after swell f g t) now) back)

    -- so the rounds are the greatest of those of the cuts
    rounds_greatest : (top : ℕ) → HeightsAtMost top g → rounds swell f g ≡ greatest_to top (λ a. rounds swell (cut a f) (cut a g))
    rounds_greatest top topped =
        let each = λ (a : ℕ). rounds swell (cut a f) (cut a g) in
        omega (
          arith,
          greatest_at_most top each (rounds swell f g) (λ a high within. cut_rounds a high),
          changes_at_most (area g) (greatest_to top each) (round swell g) (met f g) (enough_for_cuts top (greatest_to top each) topped (at_most_greatest top each)),
        )

  -- the laws for any map that swells, and so for that of a pair
  swelling_reconstructs : ReconstructionLaws cells swell
  swelling_reconstructs = record {
    sheet = λ f g marker upper. (after_under g upper f (rounds swell f g) marker).sheet;
    below = λ f g marker upper. (after_under g upper f (rounds swell f g) marker).below;
    settled = λ f g marker upper. rounds_settle g upper f marker;
    changing = λ f g marker upper t before. changes_before (area g) t (round swell g) (met f g) before;
    cuts = λ a f g high marker upper. sym (cut_reconstructed f g marker upper a high (rounds swell f g) (cut_rounds f g marker upper a high));
    most_rounds = λ top f g marker upper topped. rounds_greatest f g marker upper top topped;
  }

pub pairs_reconstruct : PairsReconstruct
pairs_reconstruct cells shrink swell pair = swelling_reconstructs cells swell pair.swells pair.above

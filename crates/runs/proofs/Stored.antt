-- Benches beside those of the masks: as they open, with something else in a place, and at begin and end. Assumes nothing.
use Rattle.std.proofs.Common.{◌≡◌, ℕ, ◌*◌, ◌≤◌, Bool, true, false, cond, eqb, List, [], length, Some, None, pos, ◌+ℤ◌, unwrap_or, sym, refl, ap, ◌∙◌, arith}
use Rattle.std.proofs.lemmas.Bool.{false≢true}
use Rattle.morphology.specs.Cells.{cut}
use Rattle.bench.specs.Model.{State, sheet_of, tally_of}
use Rattle.weights.specs.Weights.{Tally, no_tally}
use Rattle.bench.specs.Calls.{Making, ended, made_of, opened, stored, with_visit}
use Rattle.laws.specs.Sums.{HeightsAtMost}
use Rattle.operators.specs.Tallies.{differed}
use Rattle.laws.proofs.Sums.{list_fold_none, list_fold_same}
use Rattle.laws.proofs.SumsOfCuts.{differed_over_cuts}
use Rattle.model.specs.Steps.{Bench}
use Rattle.runs.proofs.Parts.{difference_of, with_sheet, with_tally}
use Rattle.runs.specs.Sums.{BenchSum, TallySum}
use Rattle.runs.proofs.Makings.{CutMaking, made_topped}

-- each filled place of a rack holds a sheet of its sides, and no place one that rises above the top
pub record SheetsHeld (top : ℕ) (s : State (List ℕ)) : Type 0 where
  pub sized : (k : ℕ) → s.outline.filled k ≡ true → length (sheet_of s k) ≡ s.outline.w * s.outline.h
  pub topped : (k : ℕ) → HeightsAtMost top (sheet_of s k)

pub stored_held : (top : ℕ) (s : State (List ℕ)) (k : ℕ) (f : List ℕ) → SheetsHeld top s → length f ≡ s.outline.w * s.outline.h → HeightsAtMost top f → SheetsHeld top (stored s k f)
stored_held top s k f held long t = record { sized = λ j filled. sized_at (eqb j k) j filled; topped = λ j. topped_at (eqb j k) j }
  where
    sized_at : (here : Bool) (j : ℕ) → cond here true (s.outline.filled j) ≡ true → length (unwrap_or (cond here (Some f) (s.content j)) []) ≡ s.outline.w * s.outline.h
    sized_at true j filled = long
    sized_at false j filled = held.sized j filled

    topped_at : (here : Bool) (j : ℕ) → HeightsAtMost top (unwrap_or (cond here (Some f) (s.content j)) [])
    topped_at true j = t
    topped_at false j = held.topped j

pub opened_held : (top w h places : ℕ) → SheetsHeld top (opened w h places)
opened_held top w h places = record { sized = λ k filled. absurd (false≢true filled); topped = λ k p. omega arith }

-- the tally of no cells, beside those of the masks
no_tally_sum : (top : ℕ) → TallySum top no_tally (λ a. no_tally)
no_tally_sum top = record { weight = λ a low. refl; cells = list_fold_none ◌+ℤ◌ (pos 0) refl top }

tally_sum_same : (top : ℕ) (t : Tally) (ts us : ℕ → Tally) → ((a : ℕ) → 1 ≤ a → ts a ≡ us a) → TallySum top t ts → TallySum top t us
tally_sum_same top t ts us same s = record {
  weight = λ a low. ap (λ u. u.weight) (sym (same a low)) ∙ s.weight a low;
  cells = list_fold_same ◌+ℤ◌ (pos 0) top t.cells (λ a. (ts a).cells) (λ a. (us a).cells) (λ a low. ap (λ u. u.cells) (same a low)) s.cells;
}

-- only the masks from height 1 on matter
pub bench_sum_same : (top : ℕ) (b : Bench) (bs cs : ℕ → Bench) → ((a : ℕ) → 1 ≤ a → bs a ≡ cs a) → BenchSum top b bs → BenchSum top b cs
bench_sum_same top b bs cs same s = record {
  rack = λ a low. ap (λ c. c.rack.outline) (sym (same a low)) ∙ s.rack a low;
  slate = λ a low. ap (λ c. c.slate.outline) (sym (same a low)) ∙ s.slate a low;
  sheets = λ a k low. ap (λ c. sheet_of c.rack k) (sym (same a low)) ∙ s.sheets a k low;
  tallies = λ k. tally_sum_same top (tally_of b.slate k) (λ a. tally_of (bs a).slate k) (λ a. tally_of (cs a).slate k) (λ a low. ap (λ c. tally_of c.slate k) (same a low)) (s.tallies k);
}

abbrev fresh : ℕ → ℕ → ℕ → ℕ → ℕ → ℕ → Bench
fresh w h places sw sh splaces = record { rack = opened w h places; slate = opened sw sh splaces }

pub fresh_sum : (top w h places sw sh splaces : ℕ) → BenchSum top (fresh w h places sw sh splaces) (λ a. fresh w h places sw sh splaces)
fresh_sum top w h places sw sh splaces = record {
  rack = λ a low. refl;
  slate = λ a low. refl;
  sheets = λ a k low. refl;
  tallies = λ k. no_tally_sum top;
}

module _ (top : ℕ) (b : Bench) (bs : ℕ → Bench) (s : BenchSum top b bs) where
  pub sheet_sum : (k : ℕ) (f : List ℕ) (fs : ℕ → List ℕ) → ((a : ℕ) → 1 ≤ a → fs a ≡ cut a f) → BenchSum top (with_sheet b k f) (λ a. with_sheet (bs a) k (fs a))
  sheet_sum k f fs cuts = record {
    rack = λ a low. ap (λ o. (stored {C = List ℕ} (record { outline = o; content = λ j. None }) k f).outline) (s.rack a low);
    slate = s.slate;
    sheets = λ a j low. at (eqb j k) a j low;
    tallies = s.tallies;
  }
    where
      at : (here : Bool) (a j : ℕ) → 1 ≤ a → unwrap_or (cond here (Some (fs a)) ((bs a).rack.content j)) [] ≡ cut a (unwrap_or (cond here (Some f) (b.rack.content j)) [])
      at true a j low = cuts a low
      at false a j low = s.sheets a j low

  pub tally_sum : (k : ℕ) (t : Tally) (ts : ℕ → Tally) → TallySum top t ts → BenchSum top (with_tally b k t) (λ a. with_tally (bs a) k (ts a))
  tally_sum k t ts sums = record {
    rack = s.rack;
    slate = λ a low. ap (λ o. (stored {C = Tally} (record { outline = o; content = λ j. None }) k t).outline) (s.slate a low);
    sheets = s.sheets;
    tallies = λ j. at (eqb j k) j;
  }
    where
      at : (here : Bool) (j : ℕ) → TallySum top (unwrap_or (cond here (Some t) (b.slate.content j)) no_tally) (λ a. unwrap_or (cond here (Some (ts a)) ((bs a).slate.content j)) no_tally)
      at true j = sums
      at false j = s.tallies j

  pub begin_sum : (flat : ℕ) → BenchSum top (record { rack = with_visit b.rack flat; slate = with_visit b.slate flat }) (λ a. record { rack = with_visit (bs a).rack flat; slate = with_visit (bs a).slate flat })
  begin_sum flat = record {
    rack = λ a low. ap (λ o. (with_visit {C = List ℕ} (record { outline = o; content = λ j. None }) flat).outline) (s.rack a low);
    slate = λ a low. ap (λ o. (with_visit {C = Tally} (record { outline = o; content = λ j. None }) flat).outline) (s.slate a low);
    sheets = s.sheets;
    tallies = s.tallies;
  }

  pub end_sum : BenchSum top (record { rack = ended b.rack; slate = ended b.slate }) (λ a. record { rack = ended (bs a).rack; slate = ended (bs a).slate })
  end_sum = record {
    rack = λ a low. ap (λ o. (opened {C = List ℕ} o.w o.h o.places).outline) (s.rack a low);
    slate = λ a low. ap (λ o. (opened {C = Tally} o.w o.h o.places).outline) (s.slate a low);
    sheets = λ a k low. refl;
    tallies = λ k. no_tally_sum top;
  }

  module _ (held : SheetsHeld top b.rack) (one other : ℕ) (one_filled : b.rack.outline.filled one ≡ true) (other_filled : b.rack.outline.filled other ≡ true) where
    -- what is made of two filled places
    module _ (made : Making) (M : CutMaking made) where
      pub made_sized : length (made_of made b.rack one other) ≡ b.rack.outline.w * b.rack.outline.h
      made_sized = M.sheet b.rack.outline.w b.rack.outline.h (sheet_of b.rack one) (sheet_of b.rack other) (held.sized one one_filled) (held.sized other other_filled)

      pub made_of_topped : HeightsAtMost top (made_of made b.rack one other)
      made_of_topped = made_topped made M top b.rack.outline.w b.rack.outline.h (sheet_of b.rack one) (sheet_of b.rack other) (held.sized one one_filled) (held.sized other other_filled) (held.topped one) (held.topped other)

      pub made_cut : (a : ℕ) → 1 ≤ a → made_of made (bs a).rack one other ≡ cut a (made_of made b.rack one other)
      made_cut a low =
          (λ i. made (s.rack a low i).w (s.rack a low i).h (s.sheets a one low i) (s.sheets a other low i))
          ∙ M.cuts b.rack.outline.w b.rack.outline.h a (sheet_of b.rack one) (sheet_of b.rack other) low (held.sized one one_filled) (held.sized other other_filled)

    -- the difference of two sheets so made
    pub difference_sum : (more less : Making) → CutMaking more → CutMaking less → TallySum top (difference_of more less b one other) (λ a. difference_of more less (bs a) one other)
    difference_sum more less M L = record {
      weight = λ a low. refl;
      cells = list_fold_same ◌+ℤ◌ (pos 0) top _ _ _
          (λ a low. (λ i. differed (sym (made_cut more M a low) i) (sym (made_cut less L a low) i)))
          (differed_over_cuts top (made_of more b.rack one other) (made_of less b.rack one other) (made_of_topped more M) (made_of_topped less L));
    }

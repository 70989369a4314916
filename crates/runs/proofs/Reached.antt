-- What holds of every bench that a run reaches: the sizes it opened with, sheets of its sides and below the top, tallies within their
-- weights, and, where no visit is open, the state that it opened with. Assumes nothing.
use Rattle.std.proofs.Common.{Bool, false, cond, eqb, unwrap_or, ◌≡◌, ℕ, ◌*◌, ◌≤◌, true, List, [], ◌∷◌, zero, suc, map, length, is_some, Some, None, Option, sym, refl, ap, arith}
use Rattle.std.proofs.lemmas.Bool.{false≢true}
use Rattle.bench.specs.Model.{State, tally_of, visit_to}
use Rattle.weights.specs.Weights.{Tally, WithinWeight}
use Rattle.bench.specs.declared.visit.Visit.{Visit}
use Rattle.bench.specs.Calls.{ended, opened, stored, with_visit}
use Rattle.laws.specs.Sums.{HeightsAtMost}
use Rattle.model.specs.Steps.{Bench}
use Rattle.runs.proofs.Parts.{with_sheet, with_tally}
use Rattle.runs.specs.Theorems.{sizes_of}
use Rattle.runs.proofs.Stored.{SheetsHeld, opened_held, stored_held}

-- a rack or a slate is as it opened
abbrev pub AsOpened : {C : Type 0} → State C → Type 0
AsOpened s = s ≡ opened s.outline.w s.outline.h s.outline.places

pub record Reached (top : ℕ) (start b : Bench) : Type 0 where
  pub rack_sizes : sizes_of b.rack.outline ≡ sizes_of start.rack.outline
  pub slate_sizes : sizes_of b.slate.outline ≡ sizes_of start.slate.outline
  pub rack_closed : b.rack.outline.visit ≡ None → AsOpened b.rack
  pub slate_closed : b.slate.outline.visit ≡ None → AsOpened b.slate
  pub held : SheetsHeld top b.rack
  pub tallies : (k : ℕ) → WithinWeight top (tally_of b.slate k)
  pub rack_filled : (k : ℕ) → b.rack.outline.filled k ≡ is_some (b.rack.content k)
  pub slate_filled : (k : ℕ) → b.slate.outline.filled k ≡ is_some (b.slate.content k)

-- what is stored in a place fills it, and no other
stored_filled : {C : Type 0} (s : State C) (k : ℕ) (c : C) → ((j : ℕ) → s.outline.filled j ≡ is_some (s.content j)) → (j : ℕ) → (stored s k c).outline.filled j ≡ is_some ((stored s k c).content j)
stored_filled s k c filled j = at (eqb j k)
  where
    at : (here : Bool) → cond here true (s.outline.filled j) ≡ is_some (cond here (Some c) (s.content j))
    at true = refl
    at false = filled j

-- an empty place has a tally of no cells
pub none_within : (top : ℕ) → WithinWeight top (record { cells = []; weight = 0 })
none_within top = record { weight = omega arith; cells = λ k. omega arith }

closed_open : {T : Type 0} (visit : Option Visit) → is_some visit ≡ true → visit ≡ None → T
closed_open None some closed = absurd (false≢true some)
closed_open (Some flat) some closed = absurd (false≢true (sym (ap is_some closed)))

module _ (top : ℕ) (start b : Bench) (r : Reached top start b) where
  pub sheet_reached : (k : ℕ) (f : List ℕ) → is_some b.rack.outline.visit ≡ true → length f ≡ b.rack.outline.w * b.rack.outline.h → HeightsAtMost top f → Reached top start (with_sheet b k f)
  sheet_reached k f visit long t = record {
    rack_sizes = r.rack_sizes;
    slate_sizes = r.slate_sizes;
    rack_closed = λ closed. closed_open b.rack.outline.visit visit closed;
    slate_closed = r.slate_closed;
    held = stored_held top b.rack k f r.held long t;
    tallies = r.tallies;
    rack_filled = stored_filled b.rack k f r.rack_filled;
    slate_filled = r.slate_filled;
  }

  pub tally_reached : (k : ℕ) (t : Tally) → is_some b.slate.outline.visit ≡ true → WithinWeight top t → Reached top start (with_tally b k t)
  tally_reached k t visit within = record {
    rack_sizes = r.rack_sizes;
    slate_sizes = r.slate_sizes;
    rack_closed = r.rack_closed;
    slate_closed = λ closed. closed_open b.slate.outline.visit visit closed;
    held = r.held;
    tallies = λ j. at (eqb j k) j;
    rack_filled = r.rack_filled;
    slate_filled = stored_filled b.slate k t r.slate_filled;
  }
    where
      at : (here : Bool) (j : ℕ) → WithinWeight top (unwrap_or (cond here (Some t) (b.slate.content j)) (record { cells = []; weight = 0 }))
      at true j = within
      at false j = r.tallies j

  pub begin_reached : (flat : ℕ) → Reached top start (record { rack = with_visit b.rack flat; slate = with_visit b.slate flat })
  begin_reached flat = record {
    rack_sizes = r.rack_sizes;
    slate_sizes = r.slate_sizes;
    rack_closed = λ closed. closed_open (Some (visit_to flat)) refl closed;
    slate_closed = λ closed. closed_open (Some (visit_to flat)) refl closed;
    held = record { sized = r.held.sized; topped = r.held.topped };
    tallies = r.tallies;
    rack_filled = r.rack_filled;
    slate_filled = r.slate_filled;
  }

  pub end_reached : Reached top start (record { rack = ended b.rack; slate = ended b.slate })
  end_reached = record {
    rack_sizes = r.rack_sizes;
    slate_sizes = r.slate_sizes;
    rack_closed = λ closed. refl;
    slate_closed = λ closed. refl;
    held = opened_held top b.rack.outline.w b.rack.outline.h b.rack.outline.places;
    tallies = λ k. none_within top;
    rack_filled = λ k. refl;
    slate_filled = λ k. refl;
  }

-- the heights of a picture of levels below the top
pub picture_topped : {X : Type 0} (height : X → ℕ) (top : ℕ) → ((x : X) → height x ≤ top) → (picture : List X) → HeightsAtMost top (map height picture)
picture_topped height top bounded [] p = omega arith
picture_topped height top bounded (x ∷ picture) zero = bounded x
picture_topped height top bounded (x ∷ picture) (suc p) = picture_topped height top bounded picture p

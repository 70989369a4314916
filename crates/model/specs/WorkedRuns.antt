-- Worked runs: calls in a row, each with the answer that it has to get, so that each table of refusals is met in its order.
-- Assumes nothing.
use Rattle.std.specs.Prelude.{◌≡◌, ℕ, Bool, true, false, ◌&&◌, List, [], ◌∷◌, ◌++◌, map, replicate, ℤ, pos, neg_ℤ, Some, Ok, Err, Result, ◌==◌, refl}
use Rattle.model.specs.Steps.{Bench, BenchSizes, answer, bench_opened, step}
use Rattle.std.specs.Ordering.{int_eq}
use lib.Pointwise.{pointwise}
use Rattle.elements.specs.declared.element.Element.{Element}
use Rattle.elements.specs.BuiltIns.{about_centre}
use Rattle.std.proofs.Common.{lit≤}
use Rattle.limits.specs.declared.fault.Fault.{Fault}
use Rattle.limits.specs.Faults.{fault_number, refusal_number}
use Rattle.bench.specs.Calls.{begin_refusal, end_refusal}
use Rattle.bench.specs.Model.{Outline, visit_to}
use Rattle.model.specs.Calls.{Call, Begin, End, Load, Erode, Dilate, Open, Close, Meet, Join, Regrow, Edge, Peak, Valley, Differ, Add, Scale, Area, Span, Spectrum, Skeleton, ShowSheet, ShowTally, Told, NothingTold, SlipTold, RoundsTold, AreaTold, SpanTold, SpectrumTold, SkeletonTold, SheetTold, TallyTold}
use Rattle.bench.specs.TallyCalls.{difference_refusal}

-- what is told, as a list of numbers; a refusal as its number, negative
abbrev told_numbers : Told → List ℤ
told_numbers NothingTold = []
told_numbers (SlipTold flat) = pos flat ∷ []
told_numbers (RoundsTold n) = pos n ∷ []
told_numbers (AreaTold n) = pos n ∷ []
told_numbers (SpanTold l g) = pos l.0 ∷ pos l.1 ∷ pos l.2 ∷ pos g.0 ∷ pos g.1 ∷ pos g.2 ∷ []
told_numbers (SpectrumTold ns) = map pos ns
told_numbers (SkeletonTold ns) = map pos ns
told_numbers (SheetTold f) = map pos f
told_numbers (TallyTold t) = pos t.weight ∷ t.cells

abbrev answer_numbers : Result Told Fault → List ℤ
answer_numbers (Ok told) = told_numbers told
answer_numbers (Err fault) = neg_ℤ (pos (fault_number fault)) ∷ []

abbrev refused : ℕ → List ℤ
refused n = neg_ℤ (pos n) ∷ []

-- whether each call of a run gets its answer
abbrev all_right : Bench → List (Call ℕ × List ℤ) → Bool
all_right b [] = true
all_right b (turn ∷ turns) = pointwise int_eq (answer_numbers (answer b turn.0)) turn.1 && all_right (step b turn.0) turns

-- The element of the two offsets (0, 0) and (1, 0), by its flags.
abbrev two_cells : Element
two_cells = record {
  flags = about_centre (false ∷ false ∷ false ∷ []) (false ∷ true ∷ true ∷ []) (false ∷ false ∷ false ∷ []);
  square = refl;
  centre = refl;
  several = lit≤ tt;
}

-- a bench of 2 × 1 cells with three sheet places and two tally places, and one of 5 × 1 cells
abbrev small : BenchSizes
small = record {
  rack = record { w = 2; h = 1; places = 3; memory = 10 };
  slate = record { w = 2; h = 1; places = 2; memory = 4 };
}

abbrev longer : BenchSizes
longer = record {
  rack = record { w = 5; h = 1; places = 3; memory = 25 };
  slate = record { w = 5; h = 1; places = 2; memory = 10 };
}

-- On the small bench with no visit open: each table of refusals, in the order of its numbers.
abbrev without_visit : List (Call ℕ × List ℤ)
without_visit =
    (Load 4 (1 ∷ []), refused 4) ∷ (Load 4 (1 ∷ 2 ∷ []), refused 5) ∷ (Load 1 (1 ∷ 2 ∷ []), refused 31)
    ∷ (Erode two_cells 4 1, refused 5) ∷ (Erode two_cells 1 0, refused 5) ∷ (Erode two_cells 1 2, refused 31)
    ∷ (Dilate two_cells 4 1, refused 5) ∷ (Dilate two_cells 1 0, refused 5) ∷ (Dilate two_cells 1 2, refused 31)
    ∷ (Open two_cells 65 4 1, refused 5) ∷ (Open two_cells 65 1 4, refused 5) ∷ (Open two_cells 65 1 2, refused 7)
    ∷ (Open two_cells 0 1 2, refused 7) ∷ (Open two_cells 64 1 2, refused 31)
    ∷ (Close two_cells 65 4 1, refused 5) ∷ (Close two_cells 65 1 4, refused 5) ∷ (Close two_cells 65 1 2, refused 7)
    ∷ (Close two_cells 0 1 2, refused 7) ∷ (Close two_cells 64 1 2, refused 31)
    ∷ (Meet 4 1 2, refused 5) ∷ (Meet 1 4 2, refused 5) ∷ (Meet 1 2 4, refused 5) ∷ (Meet 1 2 3, refused 31)
    ∷ (Join 4 1 2, refused 5) ∷ (Join 1 4 2, refused 5) ∷ (Join 1 2 4, refused 5) ∷ (Join 1 2 3, refused 31)
    ∷ (Regrow two_cells 4 1 2, refused 5) ∷ (Regrow two_cells 1 4 2, refused 5) ∷ (Regrow two_cells 1 2 4, refused 5)
    ∷ (Regrow two_cells 1 2 3, refused 31)
    ∷ (Edge two_cells 4 3, refused 5) ∷ (Edge two_cells 1 3, refused 6) ∷ (Edge two_cells 1 2, refused 31)
    ∷ (Peak two_cells 4 3, refused 5) ∷ (Peak two_cells 1 3, refused 6) ∷ (Peak two_cells 1 2, refused 31)
    ∷ (Valley two_cells 4 3, refused 5) ∷ (Valley two_cells 1 3, refused 6) ∷ (Valley two_cells 1 2, refused 31)
    ∷ (Differ 4 1 3, refused 5) ∷ (Differ 1 4 3, refused 5) ∷ (Differ 1 2 3, refused 6) ∷ (Differ 1 2 1, refused 31)
    ∷ (Add 3 1 1, refused 6) ∷ (Add 1 3 1, refused 6) ∷ (Add 1 2 3, refused 6) ∷ (Add 1 2 1, refused 31)
    ∷ (Scale (pos 101) 3 1, refused 6) ∷ (Scale (pos 101) 1 3, refused 6) ∷ (Scale (pos 101) 1 2, refused 9)
    ∷ (Scale (neg_ℤ (pos 101)) 1 2, refused 9) ∷ (Scale (neg_ℤ (pos 100)) 1 2, refused 31)
    ∷ (Area 4, refused 5) ∷ (Area 1, refused 31) ∷ (Span 4, refused 5) ∷ (Span 1, refused 31)
    ∷ (Spectrum two_cells 65 4 0, refused 5) ∷ (Spectrum two_cells 65 1 0, refused 7) ∷ (Spectrum two_cells 64 1 128, refused 8)
    ∷ (Spectrum two_cells 64 1 129, refused 31)
    ∷ (Skeleton two_cells 0 4 0, refused 5) ∷ (Skeleton two_cells 0 1 0, refused 7) ∷ (Skeleton two_cells 65 1 132, refused 7) ∷ (Skeleton two_cells 2 1 5, refused 8)
    ∷ (Skeleton two_cells 64 1 130, refused 31)
    ∷ (ShowSheet 4 1, refused 4) ∷ (ShowSheet 4 2, refused 5) ∷ (ShowSheet 1 2, refused 31)
    ∷ (ShowTally 3 1, refused 4) ∷ (ShowTally 3 2, refused 6) ∷ (ShowTally 1 2, refused 31)
    ∷ (End 7, refused 31) ∷ (Begin 0, refused 11) ∷ (Begin 10000, refused 11) ∷ []

-- Then in a visit, with every place empty, or all but one.
abbrev empty_places : List (Call ℕ × List ℤ)
empty_places =
    (Begin 7, pos 7 ∷ []) ∷ (Begin 0, refused 11) ∷ (Begin 8, refused 32) ∷ (End 8, refused 33)
    ∷ (Erode two_cells 1 2, refused 34) ∷ (Dilate two_cells 1 2, refused 34) ∷ (Open two_cells 1 1 2, refused 34)
    ∷ (Close two_cells 1 1 2, refused 34) ∷ (Edge two_cells 1 1, refused 34) ∷ (Peak two_cells 1 1, refused 34)
    ∷ (Valley two_cells 1 1, refused 34)
    ∷ (Area 1, refused 34) ∷ (Span 1, refused 34) ∷ (Spectrum two_cells 1 1 3, refused 34)
    ∷ (Skeleton two_cells 1 1 4, refused 34) ∷ (ShowSheet 1 2, refused 34) ∷ (ShowTally 1 2, refused 35)
    ∷ (Scale (pos 0) 1 2, refused 35) ∷ (Add 1 2 1, refused 35)
    ∷ (Load 1 (3 ∷ 5 ∷ []), [])
    ∷ (Meet 1 3 2, refused 34) ∷ (Meet 3 1 2, refused 34) ∷ (Join 1 3 2, refused 34) ∷ (Join 3 1 2, refused 34)
    ∷ (Regrow two_cells 1 3 2, refused 34) ∷ (Regrow two_cells 3 1 2, refused 34)
    ∷ (Differ 1 3 1, refused 34) ∷ (Differ 3 1 1, refused 34) ∷ (Differ 1 1 1, []) ∷ (Add 1 2 1, refused 35)
    ∷ (Add 2 1 1, refused 35) ∷ (Scale (pos 1) 2 1, refused 35) ∷ []

-- Then calls are accepted, with weights up to their limit, until the end empties the bench.
abbrev accepted : List (Call ℕ × List ℤ)
accepted =
    (Spectrum two_cells 64 1 129, replicate 64 (pos 0) ++ (pos 2 ∷ pos 6 ∷ replicate 63 (pos 0)))
    ∷ (Load 2 (4 ∷ 1 ∷ []), []) ∷ (Meet 1 2 3, []) ∷ (ShowSheet 3 2, pos 3 ∷ pos 1 ∷ []) ∷ (Join 1 2 3, [])
    ∷ (ShowSheet 3 2, pos 4 ∷ pos 5 ∷ [])
    ∷ (Area 3, pos 9 ∷ []) ∷ (Span 3, pos 0 ∷ pos 0 ∷ pos 4 ∷ pos 1 ∷ pos 0 ∷ pos 5 ∷ [])
    ∷ (Differ 1 2 1, []) ∷ (ShowTally 1 2, pos 1 ∷ neg_ℤ (pos 1) ∷ pos 4 ∷ []) ∷ (Add 1 1 2, [])
    ∷ (ShowTally 2 2, pos 2 ∷ neg_ℤ (pos 2) ∷ pos 8 ∷ [])
    ∷ (Add 1 2 2, []) ∷ (ShowTally 2 2, pos 3 ∷ neg_ℤ (pos 3) ∷ pos 12 ∷ [])
    ∷ (Scale (neg_ℤ (pos 100)) 1 2, []) ∷ (ShowTally 2 2, pos 100 ∷ pos 100 ∷ neg_ℤ (pos 400) ∷ [])
    ∷ (Scale (pos 10) 2 2, []) ∷ (ShowTally 2 2, pos 1000 ∷ pos 1000 ∷ neg_ℤ (pos 4000) ∷ [])
    ∷ (Add 2 1 1, refused 36) ∷ (Add 1 2 1, refused 36) ∷ (Scale (neg_ℤ (pos 2)) 2 1, refused 36)
    ∷ (ShowTally 1 2, pos 1 ∷ neg_ℤ (pos 1) ∷ pos 4 ∷ [])
    ∷ (End 7, []) ∷ (ShowSheet 1 2, refused 31) ∷ (Begin 8, pos 8 ∷ []) ∷ (ShowSheet 1 2, refused 34)
    ∷ (ShowTally 2 2, refused 35) ∷ []

-- The worked figures of a line of five cells, as calls on the longer bench.
abbrev on_a_line : List (Call ℕ × List ℤ)
on_a_line =
    (Begin 9999, pos 9999 ∷ []) ∷ (Load 1 (0 ∷ 2 ∷ 1 ∷ 2 ∷ 0 ∷ []), []) ∷ (Load 3 (1 ∷ 1 ∷ 0 ∷ 0 ∷ 0 ∷ []), [])
    ∷ (Erode two_cells 1 2, []) ∷ (ShowSheet 2 5, pos 0 ∷ pos 1 ∷ pos 1 ∷ pos 0 ∷ pos 0 ∷ [])
    ∷ (ShowSheet 1 5, pos 0 ∷ pos 2 ∷ pos 1 ∷ pos 2 ∷ pos 0 ∷ [])
    ∷ (Dilate two_cells 1 2, []) ∷ (ShowSheet 2 5, pos 0 ∷ pos 2 ∷ pos 2 ∷ pos 2 ∷ pos 2 ∷ [])
    ∷ (Open two_cells 1 1 2, []) ∷ (ShowSheet 2 5, pos 0 ∷ pos 1 ∷ pos 1 ∷ pos 1 ∷ pos 0 ∷ []) ∷ (Close two_cells 1 1 2, [])
    ∷ (ShowSheet 2 5, pos 0 ∷ pos 2 ∷ pos 2 ∷ pos 2 ∷ pos 2 ∷ [])
    ∷ (Open two_cells 2 3 2, []) ∷ (ShowSheet 2 5, pos 0 ∷ pos 0 ∷ pos 0 ∷ pos 0 ∷ pos 0 ∷ []) ∷ (Close two_cells 2 3 2, [])
    ∷ (ShowSheet 2 5, pos 1 ∷ pos 1 ∷ pos 0 ∷ pos 0 ∷ pos 0 ∷ [])
    ∷ (Edge two_cells 1 1, []) ∷ (ShowTally 1 5, pos 1 ∷ pos 0 ∷ pos 1 ∷ pos 0 ∷ pos 2 ∷ pos 0 ∷ [])
    ∷ (Peak two_cells 1 1, []) ∷ (ShowTally 1 5, pos 1 ∷ pos 0 ∷ pos 1 ∷ pos 0 ∷ pos 1 ∷ pos 0 ∷ [])
    ∷ (Peak two_cells 3 2, []) ∷ (ShowTally 2 5, pos 1 ∷ pos 0 ∷ pos 0 ∷ pos 0 ∷ pos 0 ∷ pos 0 ∷ [])
    ∷ (Valley two_cells 1 2, []) ∷ (ShowTally 2 5, pos 1 ∷ pos 0 ∷ pos 0 ∷ pos 1 ∷ pos 0 ∷ pos 2 ∷ [])
    ∷ (Load 3 (0 ∷ 2 ∷ 0 ∷ 0 ∷ 0 ∷ []), []) ∷ (Regrow two_cells 3 1 2, pos 2 ∷ [])
    ∷ (ShowSheet 2 5, pos 0 ∷ pos 2 ∷ pos 1 ∷ pos 1 ∷ pos 0 ∷ []) ∷ (Regrow two_cells 1 3 2, pos 0 ∷ [])
    ∷ (ShowSheet 2 5, pos 0 ∷ pos 2 ∷ pos 0 ∷ pos 0 ∷ pos 0 ∷ [])
    ∷ (Spectrum two_cells 2 1 5, pos 0 ∷ pos 3 ∷ pos 2 ∷ pos 0 ∷ pos 3 ∷ [])
    ∷ (Skeleton two_cells 2 1 15, pos 0 ∷ pos 1 ∷ pos 0 ∷ pos 1 ∷ pos 0 ∷ pos 0 ∷ pos 0 ∷ pos 0 ∷ pos 0 ∷ pos 0 ∷ pos 0 ∷ pos 1 ∷ pos 0 ∷ pos 0 ∷ pos 0 ∷ [])
    ∷ (Area 1, pos 5 ∷ []) ∷ (Span 1, pos 0 ∷ pos 0 ∷ pos 0 ∷ pos 1 ∷ pos 0 ∷ pos 2 ∷ []) ∷ (End 9999, [])
    ∷ (Area 1, refused 31) ∷ []

-- a bench whose rack and slate have unequal sides
abbrev unequal : BenchSizes
unequal = record {
  rack = record { w = 2; h = 1; places = 3; memory = 10 };
  slate = record { w = 1; h = 2; places = 2; memory = 4 };
}

-- a bench that opened with wrong sizes
abbrev wrong : BenchSizes
wrong = record {
  rack = record { w = 2; h = 1; places = 3; memory = 9 };
  slate = record { w = 2; h = 1; places = 13; memory = 26 };
}

-- outlines of a rack and a slate of 2 × 1 cells in a visit to a flat, with one place, filled or not
abbrev in_visit : ℕ → Bool → Outline
in_visit flat filled = record { w = 2; h = 1; places = 1; visit = Some (visit_to flat); filled = λ k. filled }

-- All calls get their answers. Last what no run of one bench meets: a rack and a slate in different visits or of different sides, at a
-- tally of a sheet, at end and at begin.
abbrev pub RunsAreRight : Type 0
RunsAreRight =
    (all_right (bench_opened small) (without_visit ++ (empty_places ++ accepted))
    && all_right (bench_opened longer) on_a_line
    && all_right (bench_opened unequal) ((Begin 0, refused 11) ∷ (Begin 7, refused 37) ∷ [])
    && all_right (bench_opened wrong) ((Begin 7, pos 7 ∷ []) ∷ (Load 1 [], refused 5) ∷ (ShowTally 1 0, refused 6) ∷ (End 7, []) ∷ [])
    && refusal_number (difference_refusal (in_visit 7 false) (in_visit 8 false) 1 1 1) == 34
    && refusal_number (difference_refusal (in_visit 7 true) (in_visit 8 false) 1 1 1) == 37
    && refusal_number (difference_refusal (in_visit 7 true) (in_visit 7 false) 1 1 1) == 0
    && refusal_number (end_refusal (in_visit 7 false) (in_visit 8 false) 8) == 33
    && refusal_number (end_refusal (in_visit 7 false) (in_visit 8 false) 7) == 37
    && refusal_number (begin_refusal (in_visit 7 false) (bench_opened unequal).slate.outline 9) == 32
    && refusal_number (begin_refusal (bench_opened small).rack.outline (in_visit 7 false) 9) == 32) ≡ true

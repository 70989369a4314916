-- Worked figures of the operators, each beside what it has to be, of lines of cells and by the element `pair`, (0, 0) and (1, 0).
-- Assumes nothing.
use Rattle.std.specs.Prelude.{◌≡◌, ℕ, Bool, true, ◌&&◌, List, [], ◌∷◌, map, replicate, ℤ, pos, negsuc, ◌==◌}
use Rattle.std.specs.List.{list_all}
use Rattle.std.specs.Ordering.{int_eq}
use lib.Pointwise.{pointwise}
use Rattle.elements.specs.BuiltIns.{pair}
use Rattle.limits.specs.Faults.{refusal_number}
use Rattle.morphology.specs.Cells.{cut}
use Rattle.morphology.specs.Erosion.{eroded, dilated}
use Rattle.operators.specs.Closings.{closed_by}
use Rattle.operators.specs.Openings.{opening}
use Rattle.operators.specs.Reconstruction.{reconstructed, rounds}
use Rattle.operators.specs.Restoring.{answer_list, restore_refusal, restored, work_list}
use Rattle.operators.specs.Skeletons.{skeleton}
use Rattle.operators.specs.Spectra.{opening_spectrum, spectrum}
use Rattle.operators.specs.Tallies.{added, differed, edge, peak, scaled}
use Rattle.operators.specs.Valleys.{valley}

-- The line of five cells that most figures are of, and its skeleton.
abbrev line : List ℕ
line = 0 ∷ 2 ∷ 1 ∷ 2 ∷ 0 ∷ []

abbrev line_skeleton : List ℕ
line_skeleton = skeleton (eroded 5 1 pair) (dilated 5 1 pair) 2 line

abbrev longer_line : List ℕ
longer_line = 0 ∷ 2 ∷ 1 ∷ 2 ∷ 3 ∷ 4 ∷ 0 ∷ 4 ∷ 4 ∷ 1 ∷ 2 ∷ 3 ∷ 2 ∷ 1 ∷ 0 ∷ []

-- What the definitions give, and what it has to be.
abbrev pub figures : List (List ℤ × List ℤ)
figures =
    -- erosion, dilation, opening and closing of size 1
    (map pos (eroded 5 1 pair line), pos 0 ∷ pos 1 ∷ pos 1 ∷ pos 0 ∷ pos 0 ∷ [])
    ∷ (map pos (dilated 5 1 pair line), pos 0 ∷ pos 2 ∷ pos 2 ∷ pos 2 ∷ pos 2 ∷ [])
    ∷ (map pos (opening (eroded 5 1 pair) (dilated 5 1 pair) 1 line), pos 0 ∷ pos 1 ∷ pos 1 ∷ pos 1 ∷ pos 0 ∷ [])
    ∷ (map pos (closed_by 5 1 pair 1 line), pos 0 ∷ pos 2 ∷ pos 2 ∷ pos 2 ∷ pos 2 ∷ [])
    -- peak
    ∷ (peak (eroded 5 1 pair) (dilated 5 1 pair) line, pos 0 ∷ pos 1 ∷ pos 0 ∷ pos 1 ∷ pos 0 ∷ [])
    -- the spectrum to depth 2
    ∷ (map pos (spectrum (closed_by 5 1 pair) (eroded 5 1 pair) (dilated 5 1 pair) 2 line), pos 0 ∷ pos 3 ∷ pos 2 ∷ pos 0 ∷ pos 3 ∷ [])
    -- the skeleton to depth 2, and what is restored from it to sizes 1 and 0: the opening of size 1, and the line
    ∷ (
      map pos line_skeleton,
      pos 0 ∷ pos 1 ∷ pos 0 ∷ pos 1 ∷ pos 0
          ∷ pos 0 ∷ pos 0 ∷ pos 0 ∷ pos 0 ∷ pos 0
          ∷ pos 0 ∷ pos 1 ∷ pos 0 ∷ pos 0 ∷ pos 0 ∷ [],
    )
    ∷ (map pos (restored (dilated 5 1 pair) 5 2 1 line_skeleton), pos 0 ∷ pos 1 ∷ pos 1 ∷ pos 1 ∷ pos 0 ∷ [])
    ∷ (map pos (restored (dilated 5 1 pair) 5 2 0 line_skeleton), map pos line)
    -- reconstruction from a marker, and its changing rounds
    ∷ (map pos (reconstructed (dilated 5 1 pair) (0 ∷ 2 ∷ 0 ∷ 0 ∷ 0 ∷ []) line), pos 0 ∷ pos 2 ∷ pos 1 ∷ pos 1 ∷ pos 0 ∷ [])
    ∷ (pos (rounds (dilated 5 1 pair) (0 ∷ 2 ∷ 0 ∷ 0 ∷ 0 ∷ []) line) ∷ [], pos 2 ∷ [])
    -- the spectrum to depth 1 of one cell of 5
    ∷ (map pos (spectrum (closed_by 1 1 pair) (eroded 1 1 pair) (dilated 1 1 pair) 1 (5 ∷ [])), pos 0 ∷ pos 5 ∷ pos 0 ∷ [])
    ∷ []

-- Further figures, of what the ones above leave open.
abbrev pub further_figures : List (List ℤ × List ℤ)
further_figures =
    -- a cut
    (map pos (cut 1 line), pos 0 ∷ pos 1 ∷ pos 1 ∷ pos 1 ∷ pos 0 ∷ [])
    -- of two cells the opening of size 2, which one of size 1 keeps, and the peak, which has nothing of it
    ∷ (map pos (opening (eroded 3 1 pair) (dilated 3 1 pair) 2 (1 ∷ 1 ∷ 0 ∷ [])), pos 0 ∷ pos 0 ∷ pos 0 ∷ [])
    ∷ (peak (eroded 3 1 pair) (dilated 3 1 pair) (1 ∷ 1 ∷ 0 ∷ []), pos 0 ∷ pos 0 ∷ pos 0 ∷ [])
    -- the spectrum from size 0 to 6 of a line of fifteen cells, as it was published, and the rest
    ∷ (map pos (opening_spectrum (eroded 15 1 pair) (dilated 15 1 pair) 7 longer_line), pos 3 ∷ pos 8 ∷ pos 6 ∷ pos 0 ∷ pos 5 ∷ pos 0 ∷ pos 7 ∷ pos 0 ∷ [])
    -- edge and valley; a sum and a multiple of differences
    ∷ (edge (eroded 5 1 pair) line, pos 0 ∷ pos 1 ∷ pos 0 ∷ pos 2 ∷ pos 0 ∷ [])
    ∷ (valley (closed_by 5 1 pair) line, pos 0 ∷ pos 0 ∷ pos 1 ∷ pos 0 ∷ pos 2 ∷ [])
    ∷ (added (differed (1 ∷ 4 ∷ []) (3 ∷ 1 ∷ [])) (pos 1 ∷ pos 1 ∷ []), negsuc 0 ∷ pos 4 ∷ [])
    ∷ (scaled (negsuc 1) (differed (1 ∷ 4 ∷ []) (3 ∷ 1 ∷ [])), pos 4 ∷ negsuc 5 ∷ [])
    -- reconstruction from a marker that is above the upper sheet in one cell
    ∷ (map pos (reconstructed (dilated 5 1 pair) (5 ∷ 0 ∷ 0 ∷ 5 ∷ 0 ∷ []) line), pos 0 ∷ pos 0 ∷ pos 0 ∷ pos 2 ∷ pos 0 ∷ [])
    ∷ (pos (rounds (dilated 5 1 pair) (5 ∷ 0 ∷ 0 ∷ 5 ∷ 0 ∷ []) line) ∷ [], pos 0 ∷ [])
    ∷ []

-- The refusals of restore on lines of two cells, in their order; the last two are accepted.
abbrev pub refusal_figures : List (ℕ × ℕ)
refusal_figures =
    (refusal_number (restore_refusal (dilated 2 1 pair) 0 1 65 66 [] 1 2), 1)
    ∷ (refusal_number (restore_refusal (dilated 2 1 pair) 2 1025 65 66 [] 1 2), 1)
    ∷ (refusal_number (restore_refusal (dilated 2 1 pair) 2 1 65 66 [] 1 2), 4)
    ∷ (refusal_number (restore_refusal (dilated 2 1 pair) 2 1 65 66 [] 2 3), 4)
    ∷ (refusal_number (restore_refusal (dilated 2 1 pair) 2 1 65 66 [] 2 2), 7)
    ∷ (refusal_number (restore_refusal (dilated 2 1 pair) 2 1 0 0 [] 2 2), 7)
    ∷ (refusal_number (restore_refusal (dilated 2 1 pair) 2 1 1 2 [] 2 2), 7)
    ∷ (refusal_number (restore_refusal (dilated 2 1 pair) 2 1 1 1 (0 ∷ 0 ∷ 65537 ∷ []) 2 2), 8)
    ∷ (refusal_number (restore_refusal (dilated 2 1 pair) 2 1 1 1 (0 ∷ 0 ∷ 65537 ∷ 0 ∷ []) 2 2), 21)
    ∷ (refusal_number (restore_refusal (dilated 2 1 pair) 2 1 1 0 (0 ∷ 1 ∷ 65536 ∷ 0 ∷ []) 2 2), 21)
    ∷ (refusal_number (restore_refusal (dilated 2 1 pair) 2 1 1 1 (0 ∷ 1 ∷ 65536 ∷ 0 ∷ []) 2 2), 0)
    ∷ (refusal_number (restore_refusal (dilated 2 1 pair) 2 1 64 64 (replicate 130 0) 2 2), 0)
    ∷ []

-- what a restore leaves in its two lists, accepted, refused for a cell, and refused for a length
abbrev pub restore_figures : List (List ℤ × List ℤ)
restore_figures =
    (map pos (answer_list (dilated 2 1 pair) 2 1 1 1 (0 ∷ 1 ∷ 3 ∷ 0 ∷ []) (8 ∷ 9 ∷ []) (6 ∷ 7 ∷ [])), pos 3 ∷ pos 3 ∷ [])
    ∷ (map pos (work_list (dilated 2 1 pair) 2 1 1 1 (0 ∷ 1 ∷ 3 ∷ 0 ∷ []) (8 ∷ 9 ∷ []) (6 ∷ 7 ∷ [])), pos 0 ∷ pos 0 ∷ [])
    ∷ (map pos (answer_list (dilated 2 1 pair) 2 1 1 1 (0 ∷ 1 ∷ 65537 ∷ 0 ∷ []) (8 ∷ 9 ∷ []) (6 ∷ 7 ∷ [])), pos 0 ∷ pos 0 ∷ [])
    ∷ (map pos (work_list (dilated 2 1 pair) 2 1 1 1 (0 ∷ 1 ∷ 65537 ∷ 0 ∷ []) (8 ∷ 9 ∷ []) (6 ∷ 7 ∷ [])), pos 0 ∷ pos 0 ∷ [])
    ∷ (map pos (answer_list (dilated 2 1 pair) 2 1 1 1 (0 ∷ 1 ∷ 3 ∷ []) (8 ∷ 9 ∷ []) (6 ∷ 7 ∷ [])), pos 8 ∷ pos 9 ∷ [])
    ∷ (map pos (work_list (dilated 2 1 pair) 2 1 1 1 (0 ∷ 1 ∷ 3 ∷ []) (8 ∷ 9 ∷ []) (6 ∷ 7 ∷ [])), pos 6 ∷ pos 7 ∷ [])
    ∷ []

-- whether a figure is what it has to be
abbrev pub is_right : List ℤ × List ℤ → Bool
is_right figure = pointwise int_eq figure.0 figure.1

-- all figures are right
abbrev pub FiguresAreRight : Type 0
FiguresAreRight = list_all is_right figures ≡ true

abbrev pub FurtherFiguresAreRight : Type 0
FurtherFiguresAreRight = list_all is_right further_figures ≡ true

abbrev pub RestoreFiguresAreRight : Type 0
RestoreFiguresAreRight = (list_all (λ turn. turn.0 == turn.1) refusal_figures && list_all is_right restore_figures) ≡ true

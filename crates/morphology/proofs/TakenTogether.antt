-- Two lists taken together, cell by cell: how many cells there are, and what stands at each place. Assumes nothing.
use Rattle.std.proofs.Common.{◌≡◌, ℕ, zero, suc, ◌<◌, min, List, [], ◌∷◌, length, get_or, refl, ap, sym, arith}
use Rattle.morphology.specs.Cells.{cell_by_cell}

-- two lists of one length taken together: as long, and at each place what the operation makes of the two cells there
pub length-cell_by_cell : {X Y : Type 0} (op : X → X → Y) (f g : List X) → length f ≡ length g → length (cell_by_cell op f g) ≡ length f
length-cell_by_cell op [] g same = refl
length-cell_by_cell op (x ∷ f) [] same = absurd (omega arith)
length-cell_by_cell op (x ∷ f) (y ∷ g) same = ap suc (length-cell_by_cell op f g (omega arith))

pub get_or-cell_by_cell : {X Y : Type 0} (op : X → X → Y) (f g : List X) (p : ℕ) (d : X) (e : Y) → length f ≡ length g → op d d ≡ e → get_or (cell_by_cell op f g) p e ≡ op (get_or f p d) (get_or g p d)
get_or-cell_by_cell op [] [] p d e same past = sym past
get_or-cell_by_cell op [] (y ∷ g) p d e same past = absurd (omega arith)
get_or-cell_by_cell op (x ∷ f) [] p d e same past = absurd (omega arith)
get_or-cell_by_cell op (x ∷ f) (y ∷ g) zero d e same past = refl
get_or-cell_by_cell op (x ∷ f) (y ∷ g) (suc p) d e same past = get_or-cell_by_cell op f g p d e (omega arith) past

-- two lists of any lengths taken together: as long as the shorter
pub length-shorter : {X Y : Type 0} (op : X → X → Y) (f g : List X) → length (cell_by_cell op f g) ≡ min (length f) (length g)
length-shorter op [] g = omega arith
length-shorter op (x ∷ f) [] = omega arith
length-shorter op (x ∷ f) (y ∷ g) = omega (arith, length-shorter op f g)

pub get_or-shorter : {X Y : Type 0} (op : X → X → Y) (f g : List X) (p : ℕ) (d : X) (e : Y) → p < min (length f) (length g) → get_or (cell_by_cell op f g) p e ≡ op (get_or f p d) (get_or g p d)
get_or-shorter op [] g p d e within = absurd (omega arith)
get_or-shorter op (x ∷ f) [] p d e within = absurd (omega arith)
get_or-shorter op (x ∷ f) (y ∷ g) zero d e within = refl
get_or-shorter op (x ∷ f) (y ∷ g) (suc p) d e within = get_or-shorter op f g p d e (omega arith)

-- a list that has at each place what an operation makes of the cells of two others there
pub from_cells : {X Y : Type 0} (op : X → X → Y) (f g : List X) (d : X) (e : Y) (made : List Y) → length f ≡ length made → length g ≡ length made
    → ((k : ℕ) → k < length made → get_or made k e ≡ op (get_or f k d) (get_or g k d)) → made ≡ cell_by_cell op f g
from_cells op [] g d e [] one other each = refl
from_cells op [] g d e (z ∷ made) one other each = absurd (omega arith)
from_cells op (x ∷ f) g d e [] one other each = absurd (omega arith)
from_cells op (x ∷ f) [] d e (z ∷ made) one other each = absurd (omega arith)
from_cells op (x ∷ f) (y ∷ g) d e (z ∷ made) one other each =
    λ i. each 0 (omega arith) i ∷ from_cells op f g d e made (omega arith) (omega arith) (λ k within. each (suc k) (omega arith)) i

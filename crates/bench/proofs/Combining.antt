-- Cells of one memory combined, one after the other. Assumes nothing.
use Rattle.std.proofs.Common.{rules, ◌≡◌, ℕ, ◌+◌, ◌-◌, ◌<◌, ◌≤◌, ◌⊎◌, List, length, get_or, set, drop, ℤ, pos, sym, ap, ◌∙◌, inl, inr, arith}
use Rattle.std.proofs.lemmas.Bool.{cases_eq, cases_lt}
use Rattle.std.proofs.lemmas.List.{ext_get_or, get_or-drop, get_or-set_other, get_or-set_same, get_or-take, length-drop, length-take, places}
use Rattle.weights.specs.declared.combination.Combination.{Combination}
use Rattle.weights.specs.Weights.{combined_cell, combined_cells}
use Rattle.weights.proofs.Cells.{get_or-combined_cells, length-combined_cells}
use Rattle.bench.specs.Model.{overwritten}
use Rattle.bench.specs.Places.{cells_from}
use Rattle.bench.specs.Starts.{SourceOf}
use Rattle.bench.proofs.Memory.{length-overwritten}

-- the first k cells of the target are what is made of the sources, and all others are as they were
pub record CombinedBelow (how : Combination) (one other to k : ℕ) (was is : List ℤ) : Type 0 where
  pub before : (j : ℕ) → j < k → get_or is (to + j) (pos 0) ≡ combined_cell how (get_or was (one + j) (pos 0)) (get_or was (other + j) (pos 0))
  pub rest : (j : ℕ) → (j < to) ⊎ (to + k ≤ j) → get_or is j (pos 0) ≡ get_or was j (pos 0)

-- a cell of a part of memory
pub part_at : (start cells k : ℕ) (memory : List ℤ) → k < cells → get_or (cells_from start cells memory) k (pos 0) ≡ get_or memory (start + k) (pos 0)
part_at start cells k memory within = get_or-take cells (drop start memory) k (pos 0) within ∙ get_or-drop start memory k (pos 0)

-- cell k of a source is not yet overwritten
unread : (start to cells long k : ℕ) → SourceOf start to cells long → k < cells → (start + k < to) ⊎ (to + k ≤ start + k)
unread start to cells long k source within = elim source.apart [
  | inl same ↦ inr (omega arith)
  | inr apart ↦ elim apart [ inl below ↦ inl (omega arith) | inr above ↦ inr (omega arith) ]
]

module _ (how : Combination) (one other to cells : ℕ) (was : List ℤ) (target : to + cells ≤ length was) (first : SourceOf one to cells (length was)) (second : SourceOf other to cells (length was)) where
  -- one cell more
  pub combined_next : (k : ℕ) (is : List ℤ) (v : ℤ) → length is ≡ length was → k < cells → CombinedBelow how one other to k was is
      → v ≡ combined_cell how (get_or is (one + k) (pos 0)) (get_or is (other + k) (pos 0)) → CombinedBelow how one other to (k + 1) was (set is (to + k) v)
  combined_next k is v long within below value = record {
    before = λ j h. elim (cases_eq j k) [
      | inl same ↦
          ap (λ n. get_or (set is (to + k) v) (to + n) (pos 0)) same
          ∙ get_or-set_same is (to + k) v (pos 0) (omega arith) ∙ value
          ∙ (λ i. combined_cell how (below.rest (one + k) (unread one to cells (length was) k first within) i) (below.rest (other + k) (unread other to cells (length was) k second within) i))
          ∙ ap (λ n. combined_cell how (get_or was (one + n) (pos 0)) (get_or was (other + n) (pos 0))) (sym same)
      | inr apart ↦ get_or-set_other is (to + k) (to + j) v (pos 0) (omega arith) ∙ below.before j (omega arith)
    ];
    rest = λ j h. get_or-set_other is (to + k) j v (pos 0) (elim h [ inl low ↦ omega arith | inr high ↦ omega arith ])
        ∙ below.rest j (elim h [ inl low ↦ inl low | inr high ↦ inr (omega arith) ]);
  }

  abbrev xs : List ℤ
  xs = cells_from one cells was

  abbrev ys : List ℤ
  ys = cells_from other cells was

  long_part : (start : ℕ) → SourceOf start to cells (length was) → length (cells_from start cells was) ≡ cells
  long_part start source = let within = source.within in simp (length-take, length-drop) (omega arith)

  overwritten_before : (zs : List ℤ) (k : ℕ) → k < to → get_or (overwritten to zs was) k (pos 0) ≡ get_or was k (pos 0)
  overwritten_before zs k low = let room = target in search (rules, places)

  overwritten_at : (zs : List ℤ) (k : ℕ) → to ≤ k → k < to + length zs → get_or (overwritten to zs was) k (pos 0) ≡ get_or zs (k - to) (pos 0)
  overwritten_at zs k low high = let room = target in search (rules, places)

  overwritten_after : (zs : List ℤ) (k : ℕ) → to + length zs ≤ k → get_or (overwritten to zs was) k (pos 0) ≡ get_or was k (pos 0)
  overwritten_after zs k past = let room = target in search (rules, places)

  abbrev made : List ℤ
  made = combined_cells how xs ys

  -- all cells
  pub combined_all : (is : List ℤ) → length is ≡ length was → CombinedBelow how one other to cells was is
      → is ≡ overwritten to (combined_cells how (cells_from one cells was) (cells_from other cells was)) was
  combined_all is long below = ext_get_or (pos 0) _ _ (long ∙ sym (length-overwritten to made was (omega (arith, made_long)))) (λ k h. elim (cases_lt k to) [
    | inl low ↦ below.rest k (inl low) ∙ sym (overwritten_before made k low)
    | inr high ↦ elim (cases_lt k (to + cells)) [
      | inl within ↦
          let place : to + (k - to) ≡ k = omega arith in
          let inside : k - to < cells = omega arith in
          ap (λ n. get_or is n (pos 0)) (sym place) ∙ below.before (k - to) inside
          ∙ sym (λ i. combined_cell how (part_at one cells (k - to) was inside i) (part_at other cells (k - to) was inside i))
          ∙ sym (get_or-combined_cells how xs ys (k - to) (pos 0) same (omega (arith, one_long)))
          ∙ sym (overwritten_at made k high (omega (arith, made_long)))
      | inr past ↦ below.rest k (inr past) ∙ sym (overwritten_after made k (omega (arith, made_long)))
    ]
  ])
    where
      one_long : length xs ≡ cells
      one_long = long_part one first

      same : length ys ≡ length xs
      same = long_part other second ∙ sym one_long

      made_long : length made ≡ cells
      made_long = length-combined_cells how xs ys same ∙ one_long

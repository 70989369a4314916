-- Sums over the heights from 1 to a top, of numbers and of lists. Assumes nothing.
use Rattle.std.proofs.Common.{min, ◌≡◌, ℕ, zero, suc, ◌+◌, ◌-◌, ◌≤◌, List, [], ◌∷◌, ◌++◌, map, length, get_or, sym, refl, ap, ◌∙◌, inl, inr, arith}
use Rattle.std.proofs.lemmas.Bool.{cases_lt}
use Rattle.std.proofs.Math.ListN.{get_or-append}
use Rattle.std.proofs.lemmas.List.{get_or-append_right, length-append}
use Rattle.morphology.specs.Cells.{cell_by_cell, cut}
use Rattle.laws.specs.Sums.{ListFold, HeightsAtMost, fold_heights}
use Rattle.std.proofs.lemmas.List.{get_or_past, length-map}
use Rattle.morphology.proofs.TakenTogether.{get_or-shorter, length-shorter}
use Rattle.laws.proofs.Cuts.{cut_height, topped_rest}

-- a list whose numbers each become another, at each place
pub get_or-kept : {X : Type 0} (keep : X → X) (start : X) → keep start ≡ start → (ys : List X) (k : ℕ) → get_or (map keep ys) k start ≡ keep (get_or ys k start)
get_or-kept keep start idle [] k = sym idle
get_or-kept keep start idle (y ∷ ys) zero = refl
get_or-kept keep start idle (y ∷ ys) (suc k) = get_or-kept keep start idle ys k

module _ {X : Type 0} (op : X → X → X) (start : X) where
  -- only the heights from 1 on matter
  pub over_same : (top : ℕ) (f g : ℕ → X) → ((a : ℕ) → 1 ≤ a → f a ≡ g a) → fold_heights op start top f ≡ fold_heights op start top g
  over_same zero f g same = refl
  over_same (suc a) f g same =
      ap (λ x. op x (f (suc a))) (over_same a f g same) ∙ ap (op (fold_heights op start a g)) (same (suc a) (omega arith))

  pub over_start : op start start ≡ start → (top : ℕ) → fold_heights op start top (λ a. start) ≡ start
  over_start idle zero = refl
  over_start idle (suc a) = ap (λ x. op x start) (over_start idle a) ∙ idle

  -- the operation of two such results
  pub over_both : op start start ≡ start → ((w x y z : X) → op (op w x) (op y z) ≡ op (op w y) (op x z)) → (top : ℕ) (f g : ℕ → X)
      → fold_heights op start top (λ a. op (f a) (g a)) ≡ op (fold_heights op start top f) (fold_heights op start top g)
  over_both idle swap zero f g = sym idle
  over_both idle swap (suc a) f g =
      ap (λ x. op x (op (f (suc a)) (g (suc a)))) (over_both idle swap a f g)
      ∙ swap (fold_heights op start a f) (fold_heights op start a g) (f (suc a)) (g (suc a))

  -- what keeps the operation keeps its results
  pub over_kept : (keep : X → X) → keep start ≡ start → ((x y : X) → keep (op x y) ≡ op (keep x) (keep y)) → (top : ℕ) (f : ℕ → X)
      → keep (fold_heights op start top f) ≡ fold_heights op start top (λ a. keep (f a))
  over_kept keep idle kept zero f = idle
  over_kept keep idle kept (suc a) f =
      kept (fold_heights op start a f) (f (suc a)) ∙ ap (λ x. op x (keep (f (suc a)))) (over_kept keep idle kept a f)

  pub list_fold_same : (top : ℕ) (xs : List X) (f g : ℕ → List X) → ((a : ℕ) → 1 ≤ a → f a ≡ g a) → ListFold op start top xs f → ListFold op start top xs g
  list_fold_same top xs f g same s = record {
    as_long = λ a low. ap length (sym (same a low)) ∙ s.as_long a low;
    number = λ k. s.number k ∙ over_same top _ _ (λ a low. ap (λ ys. get_or ys k start) (same a low));
  }

  pub list_fold_none : op start start ≡ start → (top : ℕ) → ListFold op start top [] (λ a. [])
  list_fold_none idle top = record { as_long = λ a low. refl; number = λ k. sym (over_start idle top) }

  pub list_fold_append : (top : ℕ) (xs ys : List X) (f g : ℕ → List X) → ListFold op start top xs f → ListFold op start top ys g → ListFold op start top (xs ++ ys) (λ a. f a ++ g a)
  list_fold_append top xs ys f g s t = record {
    as_long = λ a low. length-append (f a) (g a) ∙ (λ i. s.as_long a low i + t.as_long a low i) ∙ sym (length-append xs ys);
    number = λ k. elim (cases_lt k (length xs)) [
      | inl within ↦
          get_or-append xs ys start k within ∙ s.number k
          ∙ over_same top _ _ (λ a low. sym (get_or-append (f a) (g a) start k (rw (s.as_long a low) within)))
      | inr past ↦
          get_or-append_right xs ys (length xs) k start refl past ∙ t.number (k - length xs)
          ∙ over_same top _ _ (λ a low. sym (get_or-append_right (f a) (g a) (length xs) k start (s.as_long a low) past))
    ];
  }

  pub list_fold_one : op start start ≡ start → (top : ℕ) (x : X) (y : ℕ → X) → x ≡ fold_heights op start top y → ListFold op start top (x ∷ []) (λ a. y a ∷ [])
  list_fold_one idle top x y is = record { as_long = λ a low. refl; number = at }
    where
      at : (k : ℕ) → get_or (x ∷ []) k start ≡ fold_heights op start top (λ a. get_or (y a ∷ []) k start)
      at zero = is
      at (suc k) = sym (over_start idle top)

  -- a list of one result for each of some numbers
  pub list_fold_map : op start start ≡ start → {N : Type 0} → (top : ℕ) (ns : List N) (u : N → X) (v : ℕ → N → X) → ((n : N) → u n ≡ fold_heights op start top (λ a. v a n))
      → ListFold op start top (map u ns) (λ a. map (v a) ns)
  list_fold_map idle top [] u v each = list_fold_none idle top
  list_fold_map idle top (n ∷ ns) u v each =
      list_fold_append top (u n ∷ []) (map u ns) (λ a. v a n ∷ []) (λ a. map (v a) ns)
      (list_fold_one idle top (u n) (λ a. v a n) (each n)) (list_fold_map idle top ns u v each)

  -- of two sheets, what an operation makes of them cell by cell is over what it makes of their cuts, where that holds of two heights
  pub cells_over_cuts : op start start ≡ start → (top : ℕ) (make : ℕ → ℕ → X) → ((x y : ℕ) → x ≤ top → y ≤ top → make x y ≡ fold_heights op start top (λ a. make (cut_height a x) (cut_height a y)))
      → (f g : List ℕ) → HeightsAtMost top f → HeightsAtMost top g → ListFold op start top (cell_by_cell make f g) (λ a. cell_by_cell make (cut a f) (cut a g))
  cells_over_cuts idle top make each [] g s t = list_fold_none idle top
  cells_over_cuts idle top make each (x ∷ f) [] s t = list_fold_none idle top
  cells_over_cuts idle top make each (x ∷ f) (y ∷ g) s t =
      list_fold_append top (make x y ∷ []) (cell_by_cell make f g) (λ a. make (cut_height a x) (cut_height a y) ∷ []) (λ a. cell_by_cell make (cut a f) (cut a g))
      (list_fold_one idle top (make x y) (λ a. make (cut_height a x) (cut_height a y)) (each x y (s 0) (t 0)))
      (cells_over_cuts idle top make each f g (topped_rest top x f s) (topped_rest top y g t))

  -- two lists taken together by the operation, and a list whose numbers each become what keeps the operation
  pub list_fold_added : op start start ≡ start → ((w x y z : X) → op (op w x) (op y z) ≡ op (op w y) (op x z)) → (top : ℕ) (xs ys : List X) (f g : ℕ → List X)
      → ListFold op start top xs f → ListFold op start top ys g → ListFold op start top (cell_by_cell op xs ys) (λ a. cell_by_cell op (f a) (g a))
  list_fold_added idle swap top xs ys f g s t = record {
    as_long = λ a low. length-shorter op (f a) (g a) ∙ (λ i. min (s.as_long a low i) (t.as_long a low i)) ∙ sym (length-shorter op xs ys);
    number = λ k. elim (cases_lt k (min (length xs) (length ys))) [
      | inl within ↦
          get_or-shorter op xs ys k start start within ∙ (λ i. op (s.number k i) (t.number k i)) ∙ sym (over_both idle swap top (λ a. get_or (f a) k start) (λ a. get_or (g a) k start))
          ∙ over_same top _ _ (λ a low. sym (get_or-shorter op (f a) (g a) k start start (rw (s.as_long a low, t.as_long a low) within)))
      | inr past ↦
          get_or_past (cell_by_cell op xs ys) k start (rw (length-shorter op xs ys) past) ∙ sym (over_start idle top)
          ∙ over_same top _ _ (λ a low. sym (get_or_past (cell_by_cell op (f a) (g a)) k start (rw (length-shorter op (f a) (g a), s.as_long a low, t.as_long a low) past)))
    ];
  }

  pub list_fold_kept : (keep : X → X) → keep start ≡ start → ((x y : X) → keep (op x y) ≡ op (keep x) (keep y)) → (top : ℕ) (xs : List X) (f : ℕ → List X)
      → ListFold op start top xs f → ListFold op start top (map keep xs) (λ a. map keep (f a))
  list_fold_kept keep idle kept top xs f s = record {
    as_long = λ a low. length-map (f a) keep ∙ s.as_long a low ∙ sym (length-map xs keep);
    number = λ k. get_or-kept keep start idle xs k ∙ ap keep (s.number k) ∙ over_kept keep idle kept top (λ a. get_or (f a) k start)
        ∙ over_same top _ _ (λ a low. sym (get_or-kept keep start idle (f a) k));
  }

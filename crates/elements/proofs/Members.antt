-- Lists that grow at their end: who is in them, and that their members stay different.
use Rattle.std.proofs.Common.{◌≡◌, ◌⊎◌, List, [], ◌∷◌, ◌++◌, sym, refl, inl, inr}
use Rattle.elements.specs.Offsets.{◌∈◌, Different}

module _ {X : Type 0} where
  pub member_push : (xs : List X) (y x : X) → x ∈ xs ++ y ∷ [] → (x ∈ xs) ⊎ (x ≡ y)
  member_push [] y x (inl e) = inr e
  member_push [] y x (inr m) = absurd m
  member_push (z ∷ xs) y x (inl e) = inl (inl e)
  member_push (z ∷ xs) y x (inr m) = elim (member_push xs y x m) [ inl k ↦ inl (inr k) | inr e ↦ inr e ]

  pub push_member : (xs : List X) (y x : X) → (x ∈ xs) ⊎ (x ≡ y) → x ∈ xs ++ y ∷ []
  push_member [] y x (inl m) = absurd m
  push_member [] y x (inr e) = inl e
  push_member (z ∷ xs) y x (inl (inl e)) = inl e
  push_member (z ∷ xs) y x (inl (inr m)) = inr (push_member xs y x (inl m))
  push_member (z ∷ xs) y x (inr e) = inr (push_member xs y x (inr e))

  pub different_push : (xs : List X) (y : X) → Different xs → (y ∈ xs → ⊥) → Different (xs ++ y ∷ [])
  different_push [] y d new = (λ m. m, tt)
  different_push (x ∷ xs) y d new = (
    λ m. elim (member_push xs y x m) [ inl k ↦ d.0 k | inr e ↦ new (inl (sym e)) ],
    different_push xs y d.1 (λ k. new (inr k)),
  )

  middle_member : (xs : List X) (y : X) (ys : List X) → y ∈ xs ++ y ∷ ys
  middle_member [] y ys = inl refl
  middle_member (x ∷ xs) y ys = inr (middle_member xs y ys)

  -- One of a list of different things is none of those before it.
  pub different_before : (xs : List X) (y : X) (ys : List X) → Different (xs ++ y ∷ ys) → y ∈ xs → ⊥
  different_before [] y ys d m = absurd m
  different_before (x ∷ xs) y ys d (inl e) = d.0 (rw (sym e) (middle_member xs y ys))
  different_before (x ∷ xs) y ys d (inr m) = different_before xs y ys d.1 m

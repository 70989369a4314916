-- How often a map is applied until it changes nothing more, at most so many times. Assumes nothing.
use Rattle.std.proofs.Common.{◌≡◌, ℕ, zero, suc, ◌≤◌, ◌<◌, ◌≢◌, ◌⊎◌, bytes_eq, List, sym, ap, ◌∙◌, subst, inl, inr, arith}
use Rattle.std.proofs.lemmas.Bool.{cases_Bool, cases_lt, cond-true, cond-false, false≢true}
use Rattle.std.proofs.lemmas.Slice.Eq.{bytes_eq-Decides}
use Rattle.operators.specs.Maps.{times}
use Rattle.operators.specs.Reconstruction.{changing_times}
use Rattle.laws.proofs.Maps.{times_first}

-- after so many times the map changes nothing
abbrev pub Settled : (List ℕ → List ℕ) → List ℕ → ℕ → Type 0
Settled map f t = map (times t map f) ≡ times t map f

-- what is settled stays as it is
pub settled_from : (map : List ℕ → List ℕ) (f : List ℕ) (t u : ℕ) → t ≤ u → Settled map f t → times u map f ≡ times t map f
settled_from map f t zero later settled = let same : 0 ≡ t = omega arith in ap (λ n. times n map f) same
settled_from map f t (suc u) later settled = elim (cases_lt u t) [
  | inl last ↦ let same : suc u ≡ t = omega arith in ap (λ n. times n map f) same
  | inr earlier ↦ ap map (settled_from map f t u earlier settled) ∙ settled
]

-- the changing times are none, or one and those of the changed list
pub count_changing : (most : ℕ) (map : List ℕ → List ℕ) (f : List ℕ) → ((map f ≡ f) × (changing_times (suc most) map f ≡ 0)) ⊎ ((map f ≢ f) × (changing_times (suc most) map f ≡ suc (changing_times most map (map f))))
count_changing most map f =
    let test = bytes_eq-Decides (map f) f in
    elim (cases_Bool (bytes_eq (map f) f)) [
      | inl e ↦ inl (test.0 e, cond-true (bytes_eq (map f) f) 0 (suc (changing_times most map (map f))) e)
      | inr e ↦ inr (λ same. false≢true (sym e ∙ test.1 same), cond-false (bytes_eq (map f) f) 0 (suc (changing_times most map (map f))) e)
    ]

-- each of the changing times changes the list, so there are at most as many as settle it
pub changes_before : (most t : ℕ) (map : List ℕ → List ℕ) (f : List ℕ) → t < changing_times most map f → map (times t map f) ≢ times t map f
changes_before zero t map f before = absurd (omega arith)
changes_before (suc most) zero map f before = elim (count_changing most map f) [
  | inl none ↦ absurd (omega (arith, none.1))
  | inr some ↦ some.0
]
changes_before (suc most) (suc t) map f before = elim (count_changing most map f) [
  | inl none ↦ absurd (omega (arith, none.1))
  | inr some ↦ subst (λ x. map x ≢ x) (times_first t map f) (changes_before most t map (map f) (omega (arith, some.1)))
]

pub changes_at_most : (most t : ℕ) (map : List ℕ → List ℕ) (f : List ℕ) → Settled map f t → changing_times most map f ≤ t
changes_at_most most t map f settled = elim (cases_lt t (changing_times most map f)) [
  | inl before ↦ absurd (changes_before most t map f before settled)
  | inr enough ↦ enough
]

-- lists for which a map leaves less room each time that it changes one
pub record Fills (map : List ℕ → List ℕ) (Held : List ℕ → Type 0) (room : List ℕ → ℕ) : Type 0 where
  pub held : (f : List ℕ) → Held f → Held (map f)
  pub less : (f : List ℕ) → Held f → map f ≢ f → room (map f) < room f

-- then the changing times settle it, where there is no more room than times
pub settles : (map : List ℕ → List ℕ) (Held : List ℕ → Type 0) (room : List ℕ → ℕ) → Fills map Held room → (most : ℕ) (f : List ℕ) → Held f → room f ≤ most → Settled map f (changing_times most map f)
settles map Held room fills zero f held enough = elim (count_changing zero map f) [
  | inl none ↦ none.0
  | inr some ↦ absurd (omega (arith, fills.less f held some.0))
]
settles map Held room fills (suc most) f held enough = elim (count_changing most map f) [
  | inl none ↦ subst (Settled map f) (sym none.1) none.0
  | inr some ↦ subst (Settled map f) (sym some.1) (subst (λ x. map x ≡ x) (times_first (changing_times most map (map f)) map f) (settles map Held room fills most (map f) (fills.held f held) (omega (arith, fills.less f held some.0))))
]

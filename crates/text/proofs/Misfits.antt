-- How the first misfit of a text is found: at its first byte, or after a front that all lawful texts in question share.
use Rattle.std.proofs.Common.{◌≡◌, ℕ, ◌+◌, ◌<◌, List, [], ◌∷◌, ◌++◌, length, take, sym, refl, ap, ◌∙◌, subst, inl, inr, append_assoc, add_assoc, add-one, arith}
use Rattle.std.proofs.Math.Seq.{take-append-add}
use Rattle.std.proofs.lemmas.List.{length-append}
use Rattle.text.specs.Misfits.{FirstMisfit}

-- no lawful text starts as this one does
pub misfit_at_once : (Lawful : List ℕ → Type 0) (some : List ℕ) → Lawful some → (text : List ℕ)
    → ((other : List ℕ) → Lawful other → take 1 other ≡ take 1 text → ⊥) → FirstMisfit Lawful text 0
misfit_at_once Lawful some lawful [] apart =
    record { unlawful = λ h. apart [] h refl; begins = (some, lawful); misfit = inl refl }
misfit_at_once Lawful some lawful (c ∷ text) apart =
    record {
      unlawful = λ h. apart (c ∷ text) h refl;
      begins = (some, lawful);
      misfit = inr (omega arith, λ b. apart (c ∷ b.0) b.1 refl);
    }

-- the front of a text, up to its first misfit and more, starts as the text does
same_start : (text more : List ℕ) (k : ℕ) → k < length text → take 1 (take (k + 1) text ++ more) ≡ take 1 text
same_start [] more k h = absurd (omega arith)
same_start (c ∷ text) more k h = rw add-one

-- lawful texts with this front are those of an inner law after it, for texts that start as the rest does
pub misfit_after : (Inner Outer : List ℕ → Type 0) (front rest : List ℕ) (k : ℕ)
    → ((text : List ℕ) → Inner text → Outer (front ++ text))
    → ((text : List ℕ) → take 1 text ≡ take 1 rest → Outer (front ++ text) → Inner text)
    → FirstMisfit Inner rest k → FirstMisfit Outer (front ++ rest) (length front + k)
misfit_after Inner Outer front rest k into back found =
    record {
      unlawful = λ h. found.unlawful (back rest refl h);
      begins = (found.begins.0, rw (take-append-add front rest k, append_assoc) (into _ found.begins.1));
      misfit =
          elim found.misfit [
            | inl e ↦ inl (ap (λ (i : ℕ). length front + i) e ∙ sym (length-append front rest))
            | inr m ↦
                inr (
                  omega (arith, length-append front rest, m.0),
                  λ b. m.1 (b.0, back _ (same_start rest b.0 k m.0) (subst Outer (further b.0) b.1)),
                )
          ];
    }
  where
    further : (more : List ℕ) → take (length front + k + 1) (front ++ rest) ++ more ≡ front ++ (take (k + 1) rest ++ more)
    further more = rw (add_assoc, take-append-add front rest (k + 1), append_assoc)

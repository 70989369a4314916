-- Flags of the square: how many are set, which offsets they stand for, and what setting one more adds.
use Rattle.std.proofs.Common.{◌≡◌, ℕ, zero, suc, ◌+◌, ◌-◌, ◌<◌, ◌≤◌, Bool, true, false, cond, ◌⊎◌, List, [], ◌∷◌, length, get_or, drop, set, ℤ, sym, refl, ap, ◌∙◌, subst, inl, inr, arith}
use Rattle.std.proofs.lemmas.List.{at_drop_more, ext_get_or, get_or_past, get_or-set_same, get_or-set_other}
use Rattle.std.proofs.lemmas.List.Sums.{sum_by-cons, sum_by-take-drop}
use Rattle.std.proofs.lemmas.Bool.{cases_eq, cases_lt, true≢false}
use Rattle.elements.specs.Offsets.{◌∈◌, Different, SameMembers, count, flagged, offset_at}
use Rattle.elements.proofs.Squares.{offset_at_injective}

-- As many offsets as flags that are set.
pub length-flagged : (from : ℕ) (flags : List Bool) → length (flagged from flags) ≡ count flags
length-flagged from [] = refl
length-flagged from (true ∷ flags) = let h = length-flagged (from + 1) flags in omega (arith, sum_by-cons (λ b. cond b 1 0) true flags)
length-flagged from (false ∷ flags) = let h = length-flagged (from + 1) flags in omega (arith, sum_by-cons (λ b. cond b 1 0) false flags)

-- The offsets from place k on are some of all.
pub fewer_flagged : (k : ℕ) (flags : List Bool) → length (flagged k (drop k flags)) ≤ length (flagged 0 flags)
fewer_flagged k flags = omega (arith, length-flagged k (drop k flags), length-flagged 0 flags, sum_by-take-drop (λ b. cond b 1 0) flags k)

-- The flag before place k tells whether its offset joins those from place k on.
pub flagged-before : (flags : List Bool) (k : ℕ) → 0 < k → k ≤ length flags
    → flagged (k - 1) (drop (k - 1) flags)
    ≡ cond (get_or flags (k - 1) false) (offset_at (k - 1) ∷ flagged k (drop k flags)) (flagged k (drop k flags))
flagged-before flags k more within =
    let next : k - 1 + 1 ≡ k = omega arith in
    at_drop_more (flagged (k - 1)) flags (k - 1) false (omega arith)
    ∙ ap (λ n. cond (get_or flags (k - 1) false) (offset_at (k - 1) ∷ flagged n (drop n flags)) (flagged n (drop n flags))) next

-- The offset of a flag that is set is one of the offsets, and each of them is the offset of such a flag.
flagged_from : (from : ℕ) (flags : List Bool) (k : ℕ) → get_or flags k false ≡ true → offset_at (from + k) ∈ flagged from flags
flagged_from from [] k e = absurd (true≢false (sym e))
flagged_from from (true ∷ flags) zero e = inl (ap offset_at (omega arith))
flagged_from from (false ∷ flags) zero e = absurd (true≢false (sym e))
flagged_from from (true ∷ flags) (suc k) e =
    let next : from + 1 + k ≡ from + suc k = omega arith in
    inr (subst (λ j. offset_at j ∈ flagged (from + 1) flags) next (flagged_from (from + 1) flags k e))
flagged_from from (false ∷ flags) (suc k) e =
    let next : from + 1 + k ≡ from + suc k = omega arith in
    subst (λ j. offset_at j ∈ flagged (from + 1) flags) next (flagged_from (from + 1) flags k e)

abbrev FlagOf : ℕ → List Bool → ℤ × ℤ → Type 0
FlagOf from flags o = (k : ℕ) × (get_or flags k false ≡ true) × (o ≡ offset_at (from + k))

one_on : (from : ℕ) (b : Bool) (flags : List Bool) (o : ℤ × ℤ) → FlagOf (from + 1) flags o → FlagOf from (b ∷ flags) o
one_on from b flags o (k, e, p) =
    let next : from + 1 + k ≡ from + suc k = omega arith in (suc k, e, p ∙ ap offset_at next)

from_flagged : (from : ℕ) (flags : List Bool) (o : ℤ × ℤ) → o ∈ flagged from flags → FlagOf from flags o
from_flagged from [] o m = absurd m
from_flagged from (true ∷ flags) o (inl e) = (0, refl, e ∙ ap offset_at (omega arith))
from_flagged from (true ∷ flags) o (inr m) = one_on from true flags o (from_flagged (from + 1) flags o m)
from_flagged from (false ∷ flags) o m = one_on from false flags o (from_flagged (from + 1) flags o m)

-- The offset at place k is one of the offsets exactly when flag k is set.
pub flag_member : (flags : List Bool) (k : ℕ) → get_or flags k false ≡ true → offset_at k ∈ flagged 0 flags
flag_member flags k e = subst (λ j. offset_at j ∈ flagged 0 flags) (omega arith) (flagged_from 0 flags k e)

pub member_flag : (flags : List Bool) (k : ℕ) → offset_at k ∈ flagged 0 flags → get_or flags k false ≡ true
member_flag flags k m =
    let p = from_flagged 0 flags (offset_at k) m in
    let same : k ≡ 0 + p.0 = offset_at_injective k (0 + p.0) p.2 in
    let at_k : p.0 ≡ k = omega arith in
    subst (λ j. get_or flags j false ≡ true) at_k p.1

-- Setting flag k adds the offset at place k, and no other.
module _ (flags : List Bool) (k : ℕ) (within : k < length flags) where
  pub member_set : (o : ℤ × ℤ) → o ∈ flagged 0 (set flags k true) → (o ∈ flagged 0 flags) ⊎ (o ≡ offset_at k)
  member_set o m =
      let p = from_flagged 0 (set flags k true) o m in
      let j = p.0 in
      let o_is : o ≡ offset_at j = p.2 ∙ ap offset_at (omega arith) in
      elim (cases_eq j k) [
        | inl same ↦ inr (o_is ∙ ap offset_at same)
        | inr other ↦ inl (subst (λ q. q ∈ flagged 0 flags) (sym o_is)
            (flag_member flags j (sym (get_or-set_other flags k j true false other) ∙ p.1)))
      ]

  pub set_member : (o : ℤ × ℤ) → (o ∈ flagged 0 flags) ⊎ (o ≡ offset_at k) → o ∈ flagged 0 (set flags k true)
  set_member o (inr e) =
      subst (λ q. q ∈ flagged 0 (set flags k true)) (sym e) (flag_member (set flags k true) k (get_or-set_same flags k true false within))
  set_member o (inl m) =
      let p = from_flagged 0 flags o m in
      let j = p.0 in
      let o_is : o ≡ offset_at j = p.2 ∙ ap offset_at (omega arith) in
      subst (λ q. q ∈ flagged 0 (set flags k true)) (sym o_is)
      (flag_member (set flags k true) j
      (elim (cases_eq j k) [
        | inl same ↦ ap (λ i. get_or (set flags k true) i false) same ∙ get_or-set_same flags k true false within
        | inr other ↦ get_or-set_other flags k j true false other ∙ p.1
      ]))

-- The flags of a square stand for different offsets.
pub flagged_different : (from : ℕ) (flags : List Bool) → Different (flagged from flags)
flagged_different from [] = tt
flagged_different from (true ∷ flags) = (later from flags, flagged_different (from + 1) flags)
  where
    later : (from : ℕ) (flags : List Bool) → offset_at from ∈ flagged (from + 1) flags → ⊥
    later from flags m =
        let p = from_flagged (from + 1) flags (offset_at from) m in
        let same = offset_at_injective from (from + 1 + p.0) p.2 in
        omega arith
flagged_different from (false ∷ flags) = flagged_different (from + 1) flags

-- Each of the offsets is that of a place within the flags.
pub flagged_within : (flags : List Bool) (o : ℤ × ℤ) → o ∈ flagged 0 flags → (k : ℕ) × (k < length flags) × (o ≡ offset_at k)
flagged_within flags o m =
    let p = from_flagged 0 flags o m in
    elim (cases_lt p.0 (length flags)) [
      | inl l ↦ (p.0, l, p.2 ∙ ap offset_at (omega arith))
      | inr past ↦ absurd (true≢false (sym p.1 ∙ get_or_past flags p.0 false past))
    ]

-- Flags of as many places that stand for the same offsets are the same.
pub same_flags : (flags others : List Bool) → length flags ≡ length others → SameMembers (flagged 0 flags) (flagged 0 others)
    → flags ≡ others
same_flags flags others long same = ext_get_or false flags others long (λ k h. at_place k (get_or flags k false) (get_or others k false) refl refl)
  where
    at_place : (k : ℕ) (b c : Bool) → get_or flags k false ≡ b → get_or others k false ≡ c → get_or flags k false ≡ get_or others k false
    at_place k true c e g = e ∙ sym (member_flag others k ((same (offset_at k)).0 (flag_member flags k e)))
    at_place k false true e g = member_flag flags k ((same (offset_at k)).1 (flag_member others k g)) ∙ sym g
    at_place k false false e g = e ∙ sym g

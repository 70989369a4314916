-- How a reading comes out: with a fault of the record that it has come to, with a fault of the chain as a whole, or with an element.
use Rattle.std.proofs.Common.{◌≡◌, ℕ, ◌+◌, ◌≤◌, Bool, true, false, not, ltb, List, [], ◌∷◌, ◌++◌, length, get_or, ℤ, pos, Some, None, Ok, Err, sym, refl, ap, ◌∙◌, subst, inl, inr, arith}
use Rattle.std.proofs.lemmas.List.{length_push, nil_from_length}
use Rattle.std.proofs.lemmas.Bool.Decides.{nat_tests}
use Rattle.std.proofs.lemmas.Bool.{cond-true, eq-eqb, ltb-false, ltb-true, not-false, not-true, true≢false}
use Rattle.elements.specs.declared.cards.CardFault.{CardFault}
use Rattle.elements.specs.Offsets.{◌∈◌, Near, SameMembers, count, flagged}
use Rattle.elements.specs.Cards.{card_flags, column_of, end_fault, far, next_of, record_byte, record_fault, record_place, records, row_of, refused_or}
use Rattle.elements.specs.Chains.{Chain, Ends, Leads, CardRefused, offset_of, visited}
use Rattle.elements.proofs.Squares.{near_if_not_far, not_far_if_near}
use Rattle.elements.proofs.Flags.{flag_member, length-flagged, member_flag}
use Rattle.elements.proofs.Records.{found_by, tests_passed}
use Rattle.elements.proofs.CardReadings.{CardReading, at_others, counted_n, different_n, leads_n, new_n, onward, same_n, sound_n, there, turn, with_before, with_n}
use Rattle.elements.proofs.Walks.{no_fault_on_chain}

-- A card with a fault has no chain that tells an element.
pub refused_for_good : (card : List ℕ) (f : CardFault) → CardRefused card f → CardRefused card f × ((ns : List ℕ) → Chain card ns → ⊥)
refused_for_good card f r = (r, λ ns chain. no_fault_on_chain card ns chain f r)

-- A chain visits exactly the offsets of these flags.
abbrev pub Visits : List ℕ → List Bool → Type 0
Visits card flags =
    (ns : List ℕ) × Chain card ns × SameMembers (flagged 0 flags) (visited card ns) × (length (flagged 0 flags) ≡ length ns)

module _ (card : List ℕ) (n : ℕ) (met : List Bool) (reading : CardReading card n met) where
  pub record_refused_flags : (f : CardFault) → record_fault card n met ≡ Some f → card_flags card ≡ Err f
  record_refused_flags f e = turn card n met reading ∙ ap (λ found. refused_or found (onward card n met reading)) e

  pub record_refused : (f : CardFault) → record_fault card n met ≡ Some f → CardRefused card f
  record_refused f e =
      elim (found_by (far (column_of card n)) _ f _ e) [
        | inl p ↦ subst (CardRefused card) p.1 (reading.before, n, reading.comes, inl (refl, not_near (column_of card n) p.0))
        | inr p ↦ elim (found_by (far (row_of card n)) _ f _ p.1) [
          | inl q ↦ subst (CardRefused card) q.1
              (reading.before, n, reading.comes, inr (refl, near_if_not_far (column_of card n) p.0, not_near (row_of card n) q.0))
          | inr q ↦ elim (found_by (ltb (records card) (next_of card n)) _ f _ q.1) [
            | inl r ↦ subst (CardRefused card) r.1
                (reading.before, n, reading.comes, sound_n card n met reading p.0 q.0, refl, ltb-true _ _ r.0)
            | inr r ↦ elim (found_by (get_or met (record_place card n) false) _ f _ r.1) [
              | inl s ↦ subst (CardRefused card) s.1 (
                reading.before,
                n,
                reading.comes,
                sound_n card n met reading p.0 q.0,
                ltb-false _ _ r.0,
                refl,
                (reading.same (offset_of card n)).0
                    (subst (λ o. o ∈ flagged 0 met) (there card n met reading p.0 q.0) (flag_member met (record_place card n) s.0)),
              )
              | inr s ↦ absurd (grind arith)
            ]
          ]
        ]
      ]
    where
      not_near : (z : ℤ) → far z ≡ true → Near z → ⊥
      not_near z e near = true≢false (sym e ∙ not_far_if_near z near)

  module _ (faultless : record_fault card n met ≡ None) (end : next_of card n ≡ 0) where
    ends : Ends card reading.before n
    ends =
        let passed = tests_passed card n met faultless in
        record {
          comes = reading.comes;
          sound = sound_n card n met reading passed.0 passed.1;
          new = new_n card n met reading faultless;
          end = end;
        }

    -- The chain has (0, 0) exactly when its flag is set.
    centre_visited : get_or (with_n card n met reading) 24 false ≡ true → (pos 0, pos 0) ∈ visited card (with_before card n met reading faultless)
    centre_visited e = (same_n card n met reading faultless (pos 0, pos 0)).0 (flag_member (with_n card n met reading) 24 e)

    visited_centre : (pos 0, pos 0) ∈ visited card (with_before card n met reading faultless) → get_or (with_n card n met reading) 24 false ≡ true
    visited_centre m = member_flag (with_n card n met reading) 24 ((same_n card n met reading faultless (pos 0, pos 0)).1 m)

    pub end_refused : (f : CardFault) → end_fault (record_byte n + 2) (with_n card n met reading) ≡ Some f → CardRefused card f
    end_refused f e =
        elim (found_by (not (get_or (with_n card n met reading) 24 false)) _ f _ e) [
          | inl p ↦ subst (CardRefused card) p.1
              (reading.before, n, ends, refl, λ m. true≢false (sym (visited_centre m) ∙ not-true _ p.0))
          | inr p ↦ elim (found_by (ltb (count (with_n card n met reading)) 2) _ f _ p.1) [
            | inl q ↦
                let none_before = nil_from_length reading.before
                (omega (arith, ltb-true _ _ q.0, counted_n card n met reading faultless, length_push reading.before n)) in
                subst (CardRefused card) q.1
                (reading.before, n, ends, refl, none_before, alone reading.before none_before (centre_visited (not-false _ p.0)))
            | inr q ↦ absurd (grind arith)
          ]
        ]
      where
        alone : (ns : List ℕ) → ns ≡ [] → (pos 0, pos 0) ∈ visited card (ns ++ n ∷ []) → offset_of card n ≡ (pos 0, pos 0)
        alone ns e m = elim (subst (λ ks. (pos 0, pos 0) ∈ visited card (ks ++ n ∷ [])) e m) [ inl p ↦ sym p | inr none ↦ absurd none ]

    pub accepted : end_fault (record_byte n + 2) (with_n card n met reading) ≡ None → Visits card (with_n card n met reading)
    accepted e =
        let with_centre : get_or (with_n card n met reading) 24 false ≡ true = grind (arith, nat_tests) in
        let enough : 2 ≤ count (with_n card n met reading) = grind (arith, nat_tests) in
        let ns = with_before card n met reading faultless in (
          ns,
          record {
            size = reading.comes.size;
            ends = subst (Leads card 1 ns) end (leads_n card n met reading faultless);
            different = different_n card n met reading faultless;
            centre = centre_visited with_centre;
            several = omega (arith, counted_n card n met reading faultless);
          },
          same_n card n met reading faultless,
          length-flagged 0 (with_n card n met reading) ∙ counted_n card n met reading faultless,
        )

    -- `last` and `flags` are the chain's last byte and the flags of its offsets.
    module _ (last : ℕ) (flags : List Bool) (at_last : last ≡ record_byte n + 2) (all_met : flags ≡ with_n card n met reading) where
      ended_flags : card_flags card ≡ refused_or (end_fault last flags) (Ok flags)
      ended_flags =
          turn card n met reading ∙ ap (λ found. refused_or found (onward card n met reading)) faultless
          ∙ cond-true _ _ (at_others card n met reading) (eq-eqb _ _ end)
          ∙ sym (ap (λ byte. refused_or (end_fault byte flags) (Ok flags)) at_last
          ∙ ap (λ fs. refused_or (end_fault (record_byte n + 2) fs) (Ok fs)) all_met)

      pub accepted_flags : end_fault last flags ≡ None → card_flags card ≡ Ok flags
      accepted_flags e = ended_flags ∙ ap (λ found. refused_or found (Ok flags)) e

      pub end_refused_flags : (f : CardFault) → end_fault last flags ≡ Some f → card_flags card ≡ Err f
      end_refused_flags f e = ended_flags ∙ ap (λ found. refused_or found (Ok flags)) e

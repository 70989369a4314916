-- A reading of a card that has come to some record, and how it goes on from there.
use Rattle.std.proofs.Common.{◌≡◌, ℕ, suc, ◌+◌, ◌-◌, ◌*◌, ◌<◌, ◌≤◌, Bool, true, false, cond, ◌&&◌, eqb, leb, List, [], ◌∷◌, ◌++◌, length, set, replicate, None, Ok, Result, sym, refl, ap, ◌∙◌, subst, inl, inr, arith}
use Rattle.std.proofs.lemmas.List.{length_push, length-set, map-append}
use Rattle.std.proofs.lemmas.List.Sums.{count_by-le-length, sum_by-set}
use Rattle.std.proofs.lemmas.Bool.{and_parts, cond-true, cond-false, ne_eqb, eqb-true, leb-true, true≢false}
use Rattle.elements.specs.declared.cards.CardFault.{CardFault}
use Rattle.elements.specs.Offsets.{◌∈◌, Different, SameMembers, count, flagged, offset_at}
use Rattle.elements.specs.Cards.{card_flags, chain_flags, column_of, end_fault, far, next_of, record_byte, record_fault, record_place, records, row_of, has_right_length, refused_or}
use Rattle.elements.specs.Chains.{Comes, Leads, Sound, offset_of, visited}
use Rattle.elements.proofs.Squares.{near_if_not_far, offset_at_place, place_within}
use Rattle.elements.proofs.Flags.{member_flag, member_set, set_member}
use Rattle.elements.proofs.Members.{different_push, member_push, push_member}
use Rattle.elements.proofs.Records.{Passed, tests_passed}
use Rattle.elements.proofs.Walks.{leads_push}

-- The reading has come to record n, having met the offsets of `met`.
pub record CardReading (card : List ℕ) (n : ℕ) (met : List Bool) : Type 0 where
  pub long : length card ≡ 1 + 3 * records card
  pub few : records card ≤ 49
  pub before : List ℕ
  pub comes : Comes card before n
  pub square : length met ≡ 49
  pub same : SameMembers (flagged 0 met) (visited card before)
  pub counted : count met ≡ length before
  pub comes_to : chain_flags (50 - count met) card n met ≡ card_flags card

pub reading_starts : (card : List ℕ) → has_right_length card ≡ true → CardReading card 1 (replicate 49 false)
reading_starts card e =
    let p = and_parts (leb 1 (records card) && leb (records card) 49) (eqb (length card) (1 + 3 * records card)) e in
    let q = and_parts (leb 1 (records card)) (leb (records card) 49) p.0 in
    record {
      long = eqb-true _ _ p.1;
      few = leb-true _ _ q.1;
      before = [];
      comes = record { size = e; leads = refl; different = tt; on_card = (omega arith, leb-true _ _ q.0) };
      square = refl;
      same = λ o. (λ m. m, λ m. m);
      counted = refl;
      comes_to = sym (cond-true _ _ _ e);
    }

module _ (card : List ℕ) (n : ℕ) (met : List Bool) (reading : CardReading card n met) where
  -- The flags once record n is visited.
  abbrev pub with_n : List Bool
  with_n = set met (record_place card n) true

  -- What the card comes to if record n has no fault: by the chain's end, or by its other records.
  abbrev pub at_end : Result (List Bool) CardFault
  at_end = refused_or (end_fault (record_byte n + 2) with_n) (Ok with_n)

  abbrev pub at_others : Result (List Bool) CardFault
  at_others = chain_flags (49 - count met) card (next_of card n) with_n

  abbrev pub onward : Result (List Bool) CardFault
  onward = cond (eqb (next_of card n) 0) at_end at_others

  -- One turn of the chain: of 50 turns there is always one left, since at most 49 flags are set.
  pub turn : card_flags card ≡ refused_or (record_fault card n met) onward
  unfolding chain_flags
  turn =
      let below : count met ≤ 49 = omega (arith, count_by-le-length (λ b. b) met, reading.square) in
      let more : 50 - count met ≡ suc (49 - count met) = omega arith in
      sym reading.comes_to ∙ ap (λ turns. chain_flags turns card n met) more

  -- The offset of record n stands at its place.
  module _ (near_column : far (column_of card n) ≡ false) (near_row : far (row_of card n) ≡ false) where
    pub sound_n : Sound card n
    sound_n = record {
      on_card = reading.comes.on_card;
      column = near_if_not_far (column_of card n) near_column;
      row = near_if_not_far (row_of card n) near_row;
    }

    pub there : offset_at (record_place card n) ≡ offset_of card n
    there = offset_at_place (column_of card n) (row_of card n) near_column near_row

    pub within : record_place card n < length met
    within = omega (arith, reading.square, place_within (column_of card n) (row_of card n) near_column near_row)

  module _ (faultless : record_fault card n met ≡ None) where
    passed : Passed card n met
    passed = tests_passed card n met faultless

    one_more : count with_n ≡ suc (count met)
    one_more =
        let e = rw passed.3 at (sum_by-set (λ b. cond b 1 0) met (record_place card n) true false (within passed.0 passed.1)) in
        omega arith

    pub unset_fall : 49 - count with_n < 49 - count met
    unset_fall =
        omega (arith, one_more, count_by-le-length (λ b. b) with_n, length-set met (record_place card n) true, reading.square)

    -- The records visited, with record n.
    abbrev pub with_before : List ℕ
    with_before = reading.before ++ n ∷ []

    pub new_n : offset_of card n ∈ visited card reading.before → ⊥
    new_n m =
        let o_is = there passed.0 passed.1 in
        let set_before = member_flag met (record_place card n)
        (subst (λ o. o ∈ flagged 0 met) (sym o_is) ((reading.same (offset_of card n)).1 m)) in
        true≢false (sym set_before ∙ passed.3)

    visited-push : visited card with_before ≡ visited card reading.before ++ offset_of card n ∷ []
    visited-push = map-append (offset_of card) reading.before (n ∷ [])

    pub different_n : Different (visited card with_before)
    different_n = rw visited-push (different_push (visited card reading.before) (offset_of card n) reading.comes.different new_n)

    pub same_n : SameMembers (flagged 0 with_n) (visited card with_before)
    same_n o =
        let o_is = there passed.0 passed.1 in
        let in_square = within passed.0 passed.1 in
        rw visited-push (
          λ m. push_member (visited card reading.before) (offset_of card n) o
              (elim (member_set met (record_place card n) in_square o m) [
                | inl k ↦ inl ((reading.same o).0 k)
                | inr e ↦ inr (e ∙ o_is)
              ]),
          λ m. set_member met (record_place card n) in_square o
              (elim (member_push (visited card reading.before) (offset_of card n) o m) [
                | inl k ↦ inl ((reading.same o).1 k)
                | inr e ↦ inr (e ∙ sym o_is)
              ]),
        )

    pub counted_n : count with_n ≡ length with_before
    counted_n = omega (arith, one_more, reading.counted, length_push reading.before n)

    pub leads_n : Leads card 1 with_before (next_of card n)
    leads_n = leads_push card 1 reading.before n reading.comes.leads (sound_n passed.0 passed.1)

    pub reading_goes_on : 0 < next_of card n → CardReading card (next_of card n) with_n
    reading_goes_on h = record {
      long = reading.long;
      few = reading.few;
      before = with_before;
      comes = record { size = reading.comes.size; leads = leads_n; different = different_n; on_card = (omega arith, passed.2) };
      square = length-set met (record_place card n) true ∙ reading.square;
      same = same_n;
      counted = counted_n;
      comes_to =
          let more : 50 - count with_n ≡ 49 - count met = omega (arith, one_more, count_by-le-length (λ b. b) with_n) in
          let going_on : eqb (next_of card n) 0 ≡ false = ne_eqb (next_of card n) 0 (λ e. omega arith) in
          ap (λ turns. chain_flags turns card (next_of card n) with_n) more
          ∙ sym (turn ∙ ap (λ found. refused_or found onward) faultless ∙ cond-false _ at_end at_others going_on);
    }

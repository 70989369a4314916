-- The writing of a card from its last record to its first: the records that stand already make the end of its chain.
use Rattle.std.proofs.Common.{◌≡◌, ℕ, ◌+◌, ◌-◌, ◌*◌, ◌<◌, ◌≤◌, true, false, cond, ◌⊎◌, List, [], ◌∷◌, length, get_or, drop, ℤ, pos, sym, refl, ap, ◌∙◌, subst, inl, inr, arith, w8, to_z}
use Rattle.std.proofs.lemmas.List.{at_drop_all, length-map}
use Rattle.std.proofs.lemmas.Bool.{cond-true}
use Rattle.std.proofs.lemmas.Bool.Decides.{nat_tests}
use Rattle.elements.specs.declared.element.Element.{Element}
use Rattle.elements.specs.Offsets.{◌∈◌, Different, Near, flagged, offset_at}
use Rattle.elements.specs.Elements.{offsets}
use Rattle.elements.specs.Cards.{column_of, next_of, record_byte, records, row_of, has_right_length}
use Rattle.elements.specs.Chains.{Leads, Sound, offset_of, visited}
use Rattle.elements.specs.Written.{CardOf}
use Rattle.elements.proofs.Elements.{offsets_law}
use Rattle.elements.proofs.Flags.{fewer_flagged, flagged-before}
use Rattle.elements.proofs.Squares.{near_offset_at}

-- The records after record `number` are written: from `next` they make a chain to the end, which visits the offsets `os`.
pub record Writing (e : Element) (card : List ℕ) (number next : ℕ) (os : List (ℤ × ℤ)) : Type 0 where
  pub one_each : records card ≡ length (offsets e)
  pub long : length card ≡ 1 + 3 * length (offsets e)
  pub left : number + length os ≡ length (offsets e)
  pub goes_on : number < length (offsets e) → next ≡ number + 1
  pub order : List ℕ
  pub leads : Leads card next order 0
  pub visits : visited card order ≡ os
  pub after : (n : ℕ) → n ∈ order → number < n

-- The offsets of an element from place i of the square on.
abbrev pub offsets_from : Element → ℕ → List (ℤ × ℤ)
offsets_from e i = flagged i (drop i e.flags)

pub writing_starts : (e : Element) (card : List ℕ) (size : ℕ) → size ≡ length (offsets e) → records card ≡ size → length card ≡ 1 + 3 * size
    → Writing e card size 0 (offsets_from e 49)
writing_starts e card size size_is counted long =
    let none : offsets_from e 49 ≡ [] = at_drop_all (flagged 49) e.flags 49 (omega (arith, e.square)) in
    record {
      one_each = counted ∙ size_is;
      long = omega arith;
      left = omega (arith, ap length none);
      goes_on = λ h. absurd (omega arith);
      order = [];
      leads = refl;
      visits = sym none;
      after = λ n m. absurd m;
    }

-- Record `number` is written into the card: its other bytes stay.
module _ (card changed : List ℕ) (number : ℕ) (first : 1 ≤ number)
    (others : (k : ℕ) → (k < record_byte number) ⊎ (record_byte number + 2 < k) → get_or changed k 0 ≡ get_or card k 0) where
  same_records : records changed ≡ records card
  same_records = others 0 (inl (omega arith))

  module _ (n : ℕ) (after : number < n) where
    same_column : column_of changed n ≡ column_of card n
    same_column = ap (to_z w8) (others (record_byte n) (inr (omega arith)))

    same_row : row_of changed n ≡ row_of card n
    same_row = ap (to_z w8) (others (record_byte n + 1) (inr (omega arith)))

    same_next : next_of changed n ≡ next_of card n
    same_next = others (record_byte n + 2) (inr (omega arith))

    same_offset : offset_of changed n ≡ offset_of card n
    same_offset = let column = same_column in let row = same_row in cc

    still_sound : Sound card n → Sound changed n
    still_sound s = record {
      on_card = (s.on_card.0, omega (arith, s.on_card.1, same_records));
      column = subst Near (sym same_column) s.column;
      row = subst Near (sym same_row) s.row;
    }

  still_leads : (a : ℕ) (ns : List ℕ) → ((n : ℕ) → n ∈ ns → number < n) → Leads card a ns 0 → Leads changed a ns 0
  still_leads a [] after e = e
  still_leads a (k ∷ ns) after (p, s, l) =
      let here : number < a = subst (λ n. number < n) p (after k (inl refl)) in (
        p,
        still_sound a here s,
        subst (λ m. Leads changed m ns 0) (sym (same_next a here)) (still_leads (next_of card a) ns (λ n m. after n (inr m)) l),
      )

  still_visits : (ns : List ℕ) → ((n : ℕ) → n ∈ ns → number < n) → visited changed ns ≡ visited card ns
  still_visits [] after = refl
  still_visits (k ∷ ns) after =
      let here = same_offset k (after k (inl refl)) in let rest = still_visits ns (λ n m. after n (inr m)) in cc

  -- The record joins the chain at its front.
  record_joins : {e : Element} {next : ℕ} {os : List (ℤ × ℤ)} → Writing e card number next os → (o : ℤ × ℤ) → Near o.0 × Near o.1
      → length changed ≡ length card → offset_of changed number ≡ o → next_of changed number ≡ next
      → Writing e changed (number - 1) number (o ∷ os)
  record_joins {next = next} w o near same_length o_is next_is = record {
    one_each = same_records ∙ w.one_each;
    long = same_length ∙ w.long;
    left = omega (arith, w.left);
    goes_on = λ h. omega arith;
    order = number ∷ w.order;
    leads = (
      refl,
      record {
        on_card = (first, omega (arith, w.left, w.one_each, same_records));
        column = subst (λ p. Near p.0) (sym o_is) near.0;
        row = subst (λ p. Near p.1) (sym o_is) near.1;
      },
      subst (λ m. Leads changed m w.order 0) (sym next_is) (still_leads next w.order w.after w.leads),
    );
    visits = ap (λ p. p ∷ visited changed w.order) o_is ∙ ap (λ ps. o ∷ ps) (still_visits w.order w.after ∙ w.visits);
    after = λ n m. elim m [ inl e ↦ omega arith | inr k ↦ omega (arith, w.after n k) ];
  }

-- The turn of the flag before place i: where it is set, its record is written.
module _ {e : Element} {card : List ℕ} {number next : ℕ} (i : ℕ) (w : Writing e card number next (offsets_from e i)) (more : 0 < i) (within : i ≤ 49) where
  offsets_before : offsets_from e (i - 1) ≡ cond (get_or e.flags (i - 1) false) (offset_at (i - 1) ∷ offsets_from e i) (offsets_from e i)
  offsets_before = flagged-before e.flags i more (omega (arith, e.square))

  module _ (is_set : get_or e.flags (i - 1) false ≡ true) where
    offset_before : offsets_from e (i - 1) ≡ offset_at (i - 1) ∷ offsets_from e i
    offset_before = offsets_before ∙ cond-true _ _ _ is_set

    pub some_left : 1 ≤ number
    some_left = omega (arith, w.left, ap length offset_before, fewer_flagged (i - 1) e.flags)

    pub writing_goes_on : (changed : List ℕ) → length changed ≡ length card
        → offset_of changed number ≡ offset_at (i - 1) → next_of changed number ≡ next
        → ((k : ℕ) → (k < record_byte number) ⊎ (record_byte number + 2 < k) → get_or changed k 0 ≡ get_or card k 0)
        → Writing e changed (number - 1) number (offsets_from e (i - 1))
    writing_goes_on changed same_length o_is next_is others =
        rw offset_before
        (record_joins card changed number some_left others w (offset_at (i - 1)) (near_offset_at (i - 1) (omega arith)) same_length o_is next_is)

has_right_length-true : (card : List ℕ) → 1 ≤ records card → records card ≤ 49 → length card ≡ 1 + 3 * records card → has_right_length card ≡ true
has_right_length-true card some few long = grind (arith, nat_tests)

-- With the records of all flags written, the card is one of the element.
pub all_written : {e : Element} {card : List ℕ} {number next : ℕ} → Writing e card number next (offsets e) → CardOf e card
all_written {e} {card} {number} {next} w =
    let law = offsets_law e in
    let none_spare : length w.order ≡ length (offsets e) = sym (length-map w.order (offset_of card)) ∙ ap length w.visits in
    let start : next ≡ 1 = omega (arith, w.left, w.goes_on (omega (arith, w.left, law.several))) in
    record {
      one_each = w.one_each;
      long = w.long;
      order = w.order;
      chain = record {
        size = has_right_length-true card (omega (arith, w.one_each, law.several)) (omega (arith, w.one_each, law.few)) (omega (arith, w.one_each, w.long));
        ends = subst (λ n. Leads card n w.order 0) start w.leads;
        different = subst Different (sym w.visits) law.different;
        centre = subst (λ os. (pos 0, pos 0) ∈ os) (sym w.visits) law.centre;
        several = omega (arith, none_spare, law.several);
      };
      same = λ o. (subst (λ os. o ∈ os) (sym w.visits), subst (λ os. o ∈ os) w.visits);
      none_spare = none_spare;
    }

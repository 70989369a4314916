-- What the first fault of a record is, by the tests that it passed.
use Rattle.std.proofs.Common.{◌≡◌, ℕ, ◌≤◌, Bool, true, false, ◌⊎◌, List, get_or, Some, None, Option, refl, inl, inr, arith}
use Rattle.std.proofs.lemmas.Bool.Decides.{nat_tests}
use Rattle.elements.specs.declared.cards.CardFault.{CardFault}
use Rattle.limits.specs.Faults.{first}
use Rattle.elements.specs.Cards.{column_of, far, next_of, record_fault, record_place, records, row_of}

-- A test that finds a fault tells that one, and else what the rest finds.
pub found_by : (test : Bool) (fault f : CardFault) (rest : Option CardFault) → first test fault rest ≡ Some f
    → ((test ≡ true) × (fault ≡ f)) ⊎ ((test ≡ false) × (rest ≡ Some f))
found_by true fault f rest e = inl (refl, cc)
found_by false fault f rest e = inr (refl, e)

module _ (card : List ℕ) (n : ℕ) (met : List Bool) where
  -- A record without a fault passed every test.
  abbrev pub Passed : Type 0
  Passed =
      (far (column_of card n) ≡ false) × (far (row_of card n) ≡ false) × (next_of card n ≤ records card)
      × (get_or met (record_place card n) false ≡ false)

  pub tests_passed : record_fault card n met ≡ None → Passed
  tests_passed e = (grind (arith, nat_tests), grind (arith, nat_tests), grind (arith, nat_tests), grind (arith, nat_tests))

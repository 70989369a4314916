-- The element of a card is the one with the flags that the card tells, and what is prepared of it. Assumes nothing.
use Rattle.std.proofs.Common.{◌≡◌, ℕ, ◌≤◌, Bool, true, false, ◌&&◌, leb, List, length, get_or, Ok, Err, Result, sym, ap, ◌∙◌, arith}
use Rattle.std.proofs.lemmas.Bool.{cond-true}
use Rattle.std.proofs.lemmas.Bool.Decides.{nat_tests}
use Rattle.std.proofs.Props.{props}
use mathlib.Core.HLevel.{is_prop→PathP}
use Rattle.elements.specs.Offsets.{count}
use Rattle.elements.specs.declared.cards.CardFault.{CardFault}
use Rattle.elements.specs.declared.element.Element.{Element}
use Rattle.elements.specs.Cards.{card_flags}
use Rattle.elements.proofs.CardFlags.{ElementFlags, card_tells}
use Rattle.pictures.specs.declared.Picture.{Picture}
use Rattle.pictures.specs.Reading.{read}
use Rattle.jobs.specs.Cards.{card_element, of_flags}
use Rattle.jobs.specs.Runs.{after_card, prepared}

-- elements of the same flags are the same
same_element : (e f : Element) → e.flags ≡ f.flags → e ≡ f
same_element e f same = λ i. record {
  flags = same i;
  square = is_prop→PathP (λ j. length (same j) ≡ 49) (λ j. hlevel props) e.square f.square i;
  centre = is_prop→PathP (λ j. get_or (same j) 24 false ≡ true) (λ j. hlevel props) e.centre f.centre i;
  several = is_prop→PathP (λ j. 2 ≤ count (same j)) (λ j. hlevel props) e.several f.several i;
}

of_element : (r : Result (List Bool) CardFault) (are : (flags : List Bool) → r ≡ Ok flags → ElementFlags flags) (element : Element) → r ≡ Ok element.flags → of_flags r are ≡ Ok element
of_element (Ok flags) are element h = ap Ok (same_element _ element (let same : flags ≡ element.flags = cc (h) in same))
of_element (Err fault) are element h = absurd (let z : ◌≡◌ {A = ℕ} 0 1 = cc in omega arith)

card_of_element : (card : List ℕ) (element : Element) → card_flags card ≡ Ok element.flags → card_element card ≡ Ok element
card_of_element card element told = of_element (card_flags card) (card_tells card) element told

-- what a card and a picture that are read, and sides that are low enough, prepare
pub prepared_as : (card file : List ℕ) (element : Element) (p : Picture) (w h : ℕ) → card_flags card ≡ Ok element.flags → Ok p ≡ read file
    → w ≡ p.width → h ≡ p.height → w ≤ 96 → h ≤ 96 → prepared card file ≡ Ok (element, record { width = w; height = h; start = p.start })
prepared_as card file element p w h told is wide tall narrow low =
    let fits : (leb p.width 96 && leb p.height 96) ≡ true = grind (arith, nat_tests) in
    (λ i. after_card (card_of_element card element told i) (sym is i)) ∙ cond-true _ _ _ fits
    ∙ (λ i. Ok (element, record { width = sym wide i; height = sym tall i; start = p.start }))

-- The chain of a card: how it grows by a record, that it is one alone, and that a card with a fault on it has no good chain.
use Rattle.std.proofs.Common.{◌≡◌, ℕ, ◌≤◌, List, [], ◌∷◌, ◌++◌, length, pos, sym, refl, ap, ◌∙◌, subst, inl, inr, arith}
use Rattle.std.proofs.lemmas.List.{map-append}
use Rattle.std.proofs.lemmas.Bool.{true≢false}
use Rattle.elements.specs.declared.cards.CardFault.{CardFault}
use Rattle.elements.specs.declared.cards.CardFault.TheVariants.{Length, Offset, Next, Repeated, NoCentre, OnlyCentre}
use Rattle.elements.specs.Offsets.{◌∈◌, Different}
use Rattle.elements.specs.Cards.{next_of}
use Rattle.elements.specs.Chains.{Chain, Comes, Ends, Leads, CardRefused, Sound, offset_of, visited}
use Rattle.elements.proofs.Members.{different_before}

module _ (card : List ℕ) where
  pub leads_push : (a : ℕ) (ns : List ℕ) (n : ℕ) → Leads card a ns n → Sound card n → Leads card a (ns ++ n ∷ []) (next_of card n)
  leads_push a [] n e s = (sym e, subst (Sound card) (sym e) s, ap (next_of card) e)
  leads_push a (k ∷ ns) n (p, s, l) t = (p, s, leads_push (next_of card a) ns n l t)

  -- The chain from a record to its end is one alone.
  pub leads_once : (a : ℕ) (ns ms : List ℕ) → Leads card a ns 0 → Leads card a ms 0 → ns ≡ ms
  leads_once a [] [] e f = refl
  leads_once a [] (m ∷ ms) e (q, t, r) = absurd (omega (arith, t.on_card.0))
  leads_once a (n ∷ ns) [] (p, s, l) f = absurd (omega (arith, s.on_card.0))
  leads_once a (n ∷ ns) (m ∷ ms) (p, s, l) (q, t, r) =
      ap (λ k. k ∷ ns) (p ∙ sym q) ∙ ap (λ ks. m ∷ ks) (leads_once (next_of card a) ns ms l r)

  -- A chain that runs to its end goes through each record to which it comes.
  abbrev Through : List ℕ → ℕ → List ℕ → Type 0
  Through ns n all = (rest : List ℕ) × (all ≡ ns ++ n ∷ rest) × Sound card n × Leads card (next_of card n) rest 0

  through : (a : ℕ) (ns : List ℕ) (n : ℕ) → Leads card a ns n → 1 ≤ n → (all : List ℕ) → Leads card a all 0 → Through ns n all
  through a [] n e h [] z = absurd (omega arith)
  through a [] n e h (k ∷ all) (p, s, l) =
      (all, ap (λ m. m ∷ all) (p ∙ e), subst (Sound card) e s, subst (λ m. Leads card (next_of card m) all 0) e l)
  through a (k ∷ ns) n (p, s, l) h [] z = absurd (omega (arith, s.on_card.0))
  through a (k ∷ ns) n (p, s, l) h (m ∷ all) (q, t, r) =
      let u = through (next_of card a) ns n l h all r in
      (u.0, ap (λ i. i ∷ all) (q ∙ sym p) ∙ ap (λ is. k ∷ is) u.1, u.2, u.3)

  module _ (all : List ℕ) (chain : Chain card all) where
    past : (ns : List ℕ) (n : ℕ) → Comes card ns n → Through ns n all
    past ns n comes = through 1 ns n comes.leads comes.on_card.0 all chain.ends

    -- The chain ends with a record whose next is 0.
    to_end : (ns : List ℕ) (n : ℕ) → Ends card ns n → all ≡ ns ++ n ∷ []
    to_end ns n ends =
        leads_once 1 all (ns ++ n ∷ []) chain.ends
        (subst (Leads card 1 (ns ++ n ∷ [])) ends.end (leads_push 1 ns n ends.comes.leads ends.sound))

    pub no_fault_on_chain : (f : CardFault) → CardRefused card f → ⊥
    no_fault_on_chain Length e = true≢false (sym chain.size ∙ e)
    no_fault_on_chain (Offset byte) (ns, n, comes, inl p) = p.1 (past ns n comes).2.column
    no_fault_on_chain (Offset byte) (ns, n, comes, inr p) = p.2 (past ns n comes).2.row
    no_fault_on_chain (Next byte) (ns, n, comes, s, p, h) = past_the_last (past ns n comes)
      where
        past_the_last : Through ns n all → ⊥
        past_the_last ([], e, t, l) = omega arith
        past_the_last (k ∷ rest, e, t, l) = omega (arith, l.1.on_card.1)
    no_fault_on_chain (Repeated byte) (ns, n, comes, s, p, q, m) =
        let t = past ns n comes in
        different_before (visited card ns) (offset_of card n) (visited card t.0)
        (subst Different (ap (visited card) t.1 ∙ map-append (offset_of card) ns (n ∷ t.0)) chain.different) m
    no_fault_on_chain (NoCentre byte) (ns, n, ends, p, none) =
        none (subst (λ ks. (pos 0, pos 0) ∈ visited card ks) (to_end ns n ends) chain.centre)
    no_fault_on_chain (OnlyCentre byte) (ns, n, ends, p, alone, q) =
        let e = ap length (to_end ns n ends ∙ ap (λ ks. ks ++ n ∷ []) alone) in omega (arith, chain.several)

use Rattle.std.proofs.Common.{◌≡◌, ◌≤◌, ◌*◌, ℕ, Bool, not, List, None, refl, eqb, rules, tests}
use Rattle.std.proofs.lemmas.Bool.{le-leb}
use Rattle.std.proofs.lemmas.Iterator.{YieldsList-from_slice}
use Rattle.std.proofs.lemmas.Iterator.Search.{all_from_yields_List}
use Rattle.std.specs.List.{list_all}
use Rattle.limits.specs.declared.fault.Fault.TheVariants.{Length}
use Rattle.limits.specs.Faults.{first}
use Rattle.morphology.specs.Sheets.{lists_refusal}
use Rattle.morphology.proofs.sheets.check_sheets.Goals as goal

-- with lawful sides the lengths alone decide
lengths_decide : (w h : ℕ) (lens : List ℕ) (all : Bool) → 1 ≤ w → w ≤ 1024 → 1 ≤ h → h ≤ 1024 → all ≡ list_all (λ len. eqb len (w * h)) lens → lists_refusal w h lens ≡ first (not all) Length None
lengths_decide w h lens all a b c d e = rw (le-leb 1 w a, le-leb w 1024 b, le-leb 1 h c, le-leb h 1024 d, e) refl

pub returns : goal.returns
returns c =
    let sides = c.in_ok-sides.sides in
    let s = c.in_ok-sides.ensures in
    let every : c.all.result ≡ list_all (λ len. eqb len (sides.w * sides.h)) c.args.lens.now =
    rw (← c.cells-cells.ensures) (all_from_yields_List (λ len. eqb len c.cells-cells.result) _ _ _ c.all.ensures.ran (YieldsList-from_slice c.args.lens.now c.iter.ensures.rest) (λ x b q k. search (rules, tests))) in
    (s.0, s.1, rw (← s.0, ← s.1, lengths_decide sides.w sides.h c.args.lens.now c.all.result sides.some_column sides.wide sides.some_row sides.high every, c.if-not-all.false) refl)

-- The wanted bytes that stand next decide.
use Rattle.std.proofs.Common.{◌≡◌, ℕ, ◌+◌, ◌<◌, ◌≤◌, List, length, Ok, Result, sym, ◌∙◌, subst}
use Rattle.std.proofs.lemmas.Bool.{cond-true, cond-false, lt-ltb, le-ltb}
use Rattle.text.specs.declared.Misfit.{Misfit}
use Rattle.text.specs.Forms.{TellsFixed}
use Rattle.text.specs.Pieces.{fixed_at, refused_at}
use Rattle.text.proofs.Pieces.{matching, fixed_at-matching}
use Rattle.text.proofs.Forms.{tells_fixed}
use Rattle.text.proofs.Scanner.fixed.Goals as goal

-- the answer of `fixed_at` tells where the bytes stand or first do not
answer_tells_fixed : (wanted bytes : List ℕ) (at : ℕ) (r : Result ℕ Misfit) → r ≡ fixed_at wanted bytes at → at ≤ length bytes
    → TellsFixed wanted bytes at r
answer_tells_fixed wanted bytes at r answer within = subst (TellsFixed wanted bytes at) (sym answer) (tells_fixed wanted bytes at within)

-- fewer matching bytes than are wanted are refused after the last of them
misfit_is_refused : (wanted bytes : List ℕ) (at count : ℕ) → count ≡ matching wanted bytes at → count < length wanted
    → refused_at (at + count) ≡ fixed_at wanted bytes at
misfit_is_refused wanted bytes at count all short = sym (fixed_at-matching wanted bytes at ∙ rw (← all) (cond-true _ _ _ (lt-ltb _ _ short)))

-- where all of them match, the place after them is told
all_standing_is_read : (wanted bytes : List ℕ) (at count : ℕ) → count ≡ matching wanted bytes at → length wanted ≤ count
    → ◌≡◌ {A = Result ℕ Misfit} (Ok (at + count)) (fixed_at wanted bytes at)
all_standing_is_read wanted bytes at count all long = sym (fixed_at-matching wanted bytes at ∙ rw (← all) (cond-false _ _ _ (le-ltb _ _ long)))

pub returns-then-matching-wanted-clause-answers : goal.returns-then-matching-wanted-clause-answers
returns-then-matching-wanted-clause-answers c =
    misfit_is_refused c.args.wanted.now c.args.self.now.bytes.now c.args.self.now.at _ (rw (← c.rest.ensures) c.count_matching-matching.ensures.value) c.if-matching-wanted.true

pub returns-then-matching-wanted-clause-tells : goal.returns-then-matching-wanted-clause-tells
returns-then-matching-wanted-clause-tells c = answer_tells_fixed _ _ _ _ (returns-then-matching-wanted-clause-answers c)

pub returns-clause-answers : goal.returns-clause-answers
returns-clause-answers c =
    all_standing_is_read c.args.wanted.now c.args.self.now.bytes.now c.args.self.now.at _ (rw (← c.rest.ensures) c.count_matching-matching.ensures.value) c.if-matching-wanted.false

pub returns-clause-tells : goal.returns-clause-tells
returns-clause-tells c = answer_tells_fixed _ _ _ _ (returns-clause-answers c)

use Rattle.std.proofs.Common.{rules, ◌≡◌, ◌+◌, FitsSigned, get_or, pos, ◌∙◌, arith, to_z-of_z, w32}
use Rattle.weights.specs.Weights.{combined_cell}
use Rattle.bench.proofs.Combining.{combined_all, combined_next}
use Rattle.bench.proofs.numbers.combine_cells.Goals as goal

pub loop-k-preserved : goal.loop-k-preserved
loop-k-preserved c =
    let k = c.loop-k.k in
    let memory = c.loop-k.memory in
    let fits : FitsSigned w32 c.combined.result = search rules in
    let one_fits : FitsSigned w32 (get_or memory (c.args.one + k) (pos 0)) = search rules in
    let other_fits : FitsSigned w32 (get_or memory (c.args.other + k) (pos 0)) = search rules in
    let value = c.combined.ensures ∙ (λ i. combined_cell c.args.how (to_z-of_z one_fits i) (to_z-of_z other_fits i)) in
    rw (to_z-of_z fits) (combined_next c.args.how c.args.one c.args.other c.args.to c.args.cells c.args.memory.now
    c.requires.target c.requires.one c.requires.other k memory c.combined.result c.loop-k.auto.memory c.loop-k-test.true c.loop-k.invariant value)

pub returns : goal.returns
returns c =
    let all : c.loop-k.k ≡ c.args.cells = omega arith in
    combined_all c.args.how c.args.one c.args.other c.args.to c.args.cells c.args.memory.now c.requires.target c.requires.one c.requires.other
    c.loop-k.memory c.loop-k.auto.memory (rw (← all) c.loop-k.invariant)

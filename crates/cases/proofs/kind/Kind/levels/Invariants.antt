use Rattle.std.proofs.Common.{◌≡◌, map, take}
use Rattle.cases.proofs.kind.Kind.levels.Given as goal

abbrev pub invariant-loop-height : goal.invariant-loop-height
invariant-loop-height g l = map g.Self.Level.Level.height l.levels.items ≡ map (g.Self.Kind.stands l.self) (take l.height-index l.heights)

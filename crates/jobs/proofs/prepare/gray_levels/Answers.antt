use Rattle.std.proofs.Common.{◌≡◌, map, rules, ◌∙◌}
use Rattle.std.proofs.lemmas.List.{map-id}
use Rattle.std.proofs.lemmas.Result.{IfOk-weaker}
use Rattle.std.proofs.lemmas.Iterator.{YieldsList-from_slice, YieldsList-from_map_by}
use Rattle.std.proofs.lemmas.Iterator.Consumers.{map_from_collect}
use Rattle.levels.specs.Gray.{gray_height}
use Rattle.jobs.proofs.prepare.gray_levels.Goals as goal

pub returns : goal.returns
returns c =
    IfOk-weaker c.collect.result _ (λ v. map gray_height v.items ≡ c.args.bytes.now) (λ v is. is ∙ map-id c.args.bytes.now)
    (map_from_collect _ c.collect.ensures.ran (YieldsList-from_map_by _ gray_height (λ x. x) (YieldsList-from_slice c.args.bytes.now cc) c.map.ensures.closure (λ x r q k. search rules)))

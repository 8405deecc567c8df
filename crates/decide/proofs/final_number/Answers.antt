-- `decide::final_number` meets its contract: the largest of what the nodes proposed, or 0 where there is no node.
-- Assumes nothing.
use Rattle.std.proofs.Common.{rules, arith, ap, ◌∙◌}
use Rattle.std.specs.Prelude.{ℕ, Option}
use Rattle.std.specs.Option.{unwrap_or}
use Rattle.std.proofs.lemmas.Iterator.{YieldsList-from_range, YieldsList-from_map}
use Rattle.std.proofs.lemmas.Iterator.Consumers.{reduce_from_yields_List}
use Rattle.tables.proofs.Ranges.{largest_list}
use Rattle.decide.specs.Decide.{proposed, final}
use Rattle.decide.proofs.final_number.Goals as goal

pub returns : goal.returns
unfolding final
returns c = let a = c.args in
    let f = λ (n : ℕ). proposed a.tables.now.flight a.t n in
    let e = reduce_from_yields_List _ _ _ c.max.ensures.ran
    (YieldsList-from_map _ f (YieldsList-from_range 0 a.nodes a.nodes (cc) (omega arith)) c.map.ensures.closure (λ x r q k. search rules)) in
    c.unwrap_or.ensures ∙ ap (λ (o : Option ℕ). unwrap_or o 0) e ∙ largest_list f a.nodes

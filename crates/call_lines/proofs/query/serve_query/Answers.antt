-- `serve_query` meets its contract.
use Rattle.call_lines.proofs.Searches.{query_stopped, query_visits}
use Rattle.call_lines.proofs.query.serve_query.Goals as goal

pub returns-clause-called : goal.returns-clause-called
returns-clause-called c = λ t.
    let s = c.query-ruled.ensures.serves in
    record {
      turned = c.query_turn-turn.ensures.turned c.args.cells.now c.args.literals.now c.args.asked.ceiling c.args.asked.on.now c.args.asked.off.now c.query-ruled.new.cells c.query-ruled.new.literals s t;
      stopped = query_stopped c.query-ruled.result.ruling c.query-ruled.result.visits s c.is_stop-stopped.ensures;
      visits = query_visits c.query-ruled.result.ruling c.query-ruled.result.visits s;
    }

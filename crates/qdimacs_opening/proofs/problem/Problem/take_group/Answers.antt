-- `take_group`: the order, then the numbers up to the header's count as a block of our own.
use Rattle.std.proofs.lemmas.Result.{err_from_is_err_and}
use Rattle.qdimacs_opening.specs.declared.head.Part.TheVariants.{Groups}
use Rattle.qdimacs_opening.proofs.Counting.{counted_part}
use Rattle.qdimacs_opening.proofs.Taking.{block_standing, group_refused, group_above, group_taken}
use Rattle.qdimacs_opening.proofs.Turns.{same_part}
use Rattle.qdimacs_opening.proofs.problem.Problem.take_group.Goals as goal

pub slice_bounds-take_block-end : goal.slice_bounds-take_block-end
slice_bounds-take_block-end c = counted_part c.args.self.layout.numbers c.args.self.head.variables c.args.lits.now c.within-n.ensures

pub returns-in_err-take_block : goal.returns-in_err-take_block
returns-in_err-take_block c = λ literals s. let p = err_from_is_err_and c.from_residual.result c.from_residual.ensures.1 in rw (p.1, p.2) (group_refused c.args.self s c.args.kind c.args.lits.now (same_part c.args.self.head.part Groups c.ne.ensures c.if-ne.false) c.requires.0 c.within-n.ensures c.take_block.result (c.take_block.ensures literals (block_standing c.args.self s (same_part c.args.self.head.part Groups c.ne.ensures c.if-ne.false))) c.in_err-take_block.was)

pub returns-then-n-lits : goal.returns-then-n-lits
returns-then-n-lits c = λ literals s. group_above c.args.self s c.args.kind c.args.lits.now (same_part c.args.self.head.part Groups c.ne.ensures c.if-ne.false) c.requires.0 c.within-n.ensures c.take_block.result (c.take_block.ensures literals (block_standing c.args.self s (same_part c.args.self.head.part Groups c.ne.ensures c.if-ne.false))) c.in_ok-take_block.field-0 c.in_ok-take_block.was c.if-n-lits.true

pub returns : goal.returns
returns c = λ literals s. group_taken c.args.self s c.args.kind c.args.lits.now (same_part c.args.self.head.part Groups c.ne.ensures c.if-ne.false) c.requires.0 c.within-n.ensures c.take_block.result (c.take_block.ensures literals (block_standing c.args.self s (same_part c.args.self.head.part Groups c.ne.ensures c.if-ne.false))) c.in_ok-take_block.field-0 c.in_ok-take_block.was c.if-n-lits.false

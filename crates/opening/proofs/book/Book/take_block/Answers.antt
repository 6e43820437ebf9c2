-- `take_block`: the order, then each variable from the left.
use mathlib.Core.Path.{ap}
use Rattle.state_parts.specs.Layout.{limits_in}
use Rattle.opening.specs.Stages.{rank_of}
use Rattle.opening.proofs.Taking.{block_growable, block_taken}
use Rattle.opening.proofs.book.Book.take_block.Goals as goal

pub declare_all-requires : goal.declare_all-requires
declare_all-requires c = block_growable c.requires.2 c.args.kind c.of_block.ensures c.in_ok-place.ensures c.requires.0

pub returns : goal.returns
returns c literals s = block_taken s c.args.kind c.of_block.ensures c.in_ok-place.ensures c.declare_all.ensures c.in_ok-declare_all.was c.at.result (ap limits_in c.at.ensures.1) (ap rank_of c.at.ensures.0)

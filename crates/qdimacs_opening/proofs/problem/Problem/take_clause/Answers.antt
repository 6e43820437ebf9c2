-- `take_clause`: a clause on the whole formula.
use Rattle.std.proofs.lemmas.Result.{err_from_is_err_and}
use Rattle.qdimacs_opening.specs.declared.head.Part.TheVariants.{Start}
use Rattle.qdimacs_opening.proofs.Taking.{clause_standing, clause_refused, clause_taken}
use Rattle.qdimacs_opening.proofs.Turns.{not_part}
use Rattle.qdimacs_opening.proofs.problem.Problem.take_clause.Goals as goal

pub take_rule-requires : goal.take_rule-requires
take_rule-requires c = clause_standing (not_part c.args.self.head.part Start c.eq.ensures c.if-eq.false) (c.whole-whole.ensures c.args.literals.now c.requires (not_part c.args.self.head.part Start c.eq.ensures c.if-eq.false)) c.args.lits.now

pub returns-in_err-take_rule : goal.returns-in_err-take_rule
returns-in_err-take_rule c = let p = err_from_is_err_and c.from_residual.result c.from_residual.ensures.1 in rw (p.1, p.2) (clause_refused (not_part c.args.self.head.part Start c.eq.ensures c.if-eq.false) (c.whole-whole.ensures c.args.literals.now c.requires (not_part c.args.self.head.part Start c.eq.ensures c.if-eq.false)) c.args.lits.now c.take_rule.result c.take_rule.ensures c.in_err-take_rule.was)

pub returns : goal.returns
returns c = clause_taken (not_part c.args.self.head.part Start c.eq.ensures c.if-eq.false) (c.whole-whole.ensures c.args.literals.now c.requires (not_part c.args.self.head.part Start c.eq.ensures c.if-eq.false)) c.args.lits.now c.take_rule.result c.take_rule.ensures c.in_ok-take_rule.was

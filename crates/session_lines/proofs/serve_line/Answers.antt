-- `serve_line` meets its contract: with the highest share a request is a session's.
use native.Mathlib.Omega.{arith}
use borrow.Author.Rules.{rules}
use mathlib.Core.Path.{subst}
use mathlib.Core.Option.{none}
use Rattle.layout.specs.Words.{Bytes}
use Rattle.sessions.specs.Session.{request_of}
use Rattle.session_lines.specs.Line.{ServesLineAt}
use Rattle.session_lines.proofs.Turns.{asked_call, line_answered}
use Rattle.session_lines.proofs.serve_line.Goals as goal

pub returns-in_default : goal.returns-in_default
returns-in_default c =
    let cells = c.args.cells.now in
    let literals = c.args.literals.now in
    subst (λ (d : Bytes). ServesLineAt cells literals c.args.line.now c.args.at.number c.args.at.shown c.args.cards.now c.args.out.now c.answered.result cells literals c.args.cards.now d) (search rules)
    (line_answered c.args.cards.now c.args.out.now (omega (arith, c.if-out-lt-ANSWER.false)) c.answered.ensures (asked_call (request_of c.args.line.now) none c.in_default.ensures (c.no_call.ensures.turned cells literals c.args.cards.now)))

pub returns : goal.returns
returns c =
    let cells = c.args.cells.now in
    let literals = c.args.literals.now in
    subst (λ (d : Bytes). ServesLineAt cells literals c.args.line.now c.args.at.number c.args.at.shown c.args.cards.now c.args.out.now c.answered-2.result c.serve_request.new.cells c.serve_request.new.literals c.serve_request.new.cards d) (search rules)
    (line_answered c.args.cards.now c.args.out.now (omega (arith, c.if-out-lt-ANSWER.false)) c.answered-2.ensures (c.serve_request.ensures.alone (omega arith)))

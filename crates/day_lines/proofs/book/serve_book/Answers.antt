-- `serve_book` meets its contract.
use borrow.Author.Rules.{rules}
use Rattle.sessions.specs.Session.{request_of}
use Rattle.day_lines.proofs.Books.{book_served}
use Rattle.day_lines.proofs.book.serve_book.Goals as goal

pub returns : goal.returns
returns c =
    book_served c.args.kept.now c.args.cells.now c.args.literals.now c.args.cards.now c.args.request.place c.args.request.number c.args.share (request_of c.args.request.asked.bytes.now) c.requires.0 c.requires.1
    (search rules) (search rules) c.cells_at-of_cells.result c.literals_at-of_literals.result c.cells_at-of_cells.ensures c.literals_at-of_literals.ensures
    c.serve_request-served.new.cells c.serve_request-served.new.literals c.serve_request-served.auto.cells c.serve_request-served.auto.literals
    _ c.serve_request-served.result c.serve_request-served.new.cards c.serve_request-served.new.out.bytes.now c.charge.new.self c.charge.ensures c.serve_request-served.ensures.shared (search rules)

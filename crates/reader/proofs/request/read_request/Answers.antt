-- `read_request` meets its contract: the length, the brackets, then what stands between them.
use native.Mathlib.Omega.{arith}
use Rattle.reader.proofs.Requests.{line_long, line_out, line_in_lem}
use Rattle.reader.proofs.request.read_request.Goals as goal

pub returns-then-l-gt-TEXT : goal.returns-then-l-gt-TEXT
returns-then-l-gt-TEXT c = line_long c.args.l.now (omega arith)

pub returns-in_err-inside : goal.returns-in_err-inside
returns-in_err-inside c = rw c.from_residual.ensures (line_out c.args.l.now (omega arith) c.in_err-inside.ensures)

pub returns : goal.returns
returns c = line_in_lem c.args.l.now (omega arith) c.request_words.result c.in_ok-inside.ensures c.request_words.ensures

-- What a line of a session asks for, as it was read.
use Rattle.std.specs.Prelude.{◌≡◌, List, ℤ, Option as Answer, Some, None}
use Rattle.std.proofs.Math.Option.{none}
use Rattle.layout.specs.Forms.{then}
use Rattle.sessions.specs.Session.{call_request}
use Rattle.reader.specs.Requests.{Asked, RequestIs}
use Rattle.reader.specs.Calls.{CallUnder}
use Rattle.session_lines.specs.declared.asked.SessionLine.{SessionLine}
use Rattle.session_lines.specs.declared.asked.SessionLine.TheVariants as line

-- the book's text or a page; or a call, whose literals are those
abbrev pub LineIs : Asked → SessionLine → List ℤ → Type 0
LineIs a (line.Reads l) lits = RequestIs a l
LineIs a (line.Makes z) lits = (a.request ≡ then a.called call_request) × CallUnder z.ceiling a.called z.line lits

abbrev pub LineRead : Asked → Answer SessionLine → List ℤ → Type 0
LineRead a None lits = a.request ≡ none
LineRead a (Some l) lits = LineIs a l lits

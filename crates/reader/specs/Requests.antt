-- What a line that may ask for the book's text or for a page says.
use Rattle.std.specs.Prelude.{Option as Answer, Some, None, ◌≤◌, ◌≡◌, false, List}
use Rattle.std.proofs.Math.Option.{Option, none, some}
use Rattle.qbf.specs.Formula.{Literal}
use Rattle.qbf.specs.Calls.{Call}
use Rattle.layout.specs.Words.{Bytes}
use Rattle.layout.specs.Forms.{then, items}
use Rattle.layout.specs.Program.{table_bytes}
use Rattle.layout.specs.Session.{ceiled_call, call_of}
use Rattle.sessions.specs.Session.{Request, write, page, call_request, request_from, request_of}
use Rattle.reader.specs.declared.request.RequestLine.{RequestLine}
use Rattle.reader.specs.declared.request.RequestLine.TheVariants as line

-- the request of some words or of a line, and the call that they are
pub record Asked : Type 0 where
  pub request : Option Request
  pub called : Option Call

abbrev pub from_words : List Bytes → Asked
from_words ws = record { request = request_from ws; called = ceiled_call ws }

abbrev pub from_line : Bytes → Asked
from_line l = record { request = request_of l; called = call_of l }

-- the items after a word that no call has
abbrev pub from_items : (List Literal → Option Request) → List Bytes → Asked
from_items asks ws = record { request = then (items false ws) asks; called = none }

-- what a line asks for; where it asks for neither, the request is the call
abbrev pub RequestIs : Asked → RequestLine → Type 0
RequestIs a line.Whole = a.request ≡ some (write none)
RequestIs a (line.Into n) = (a.request ≡ some (write (some n))) × (n ≤ table_bytes)
RequestIs a (line.Page n) = a.request ≡ some (page n)

abbrev pub RequestRead : Asked → Answer RequestLine → Type 0
RequestRead a None = a.request ≡ then a.called call_request
RequestRead a (Some l) = RequestIs a l

-- What the line at a place asks for, as the code tells it.
use Rattle.std.specs.Prelude.{◌≡◌}
use Rattle.std.proofs.Math.Option.{Option, some}
use Rattle.qbf.specs.Calls.{Call, rule, query, card, forget, withdraw, keep_card, one, closest}
use Rattle.sessions.specs.Session.{Request, call, write, page}
use Rattle.reader.specs.declared.call.CallLine.{CallLine}
use Rattle.reader.specs.declared.call.CallLine.TheVariants as line
use Rattle.session_lines.specs.declared.asked.SessionLine.{SessionLine}
use Rattle.session_lines.specs.declared.asked.SessionLine.TheVariants as read
use Rattle.day_lines.specs.declared.asked.Kind.{Kind}
use Rattle.day_lines.specs.declared.asked.Kind.TheVariants as kind

-- the calls whose lines are a card: where one is refused, no card was answered last
abbrev pub kind_call : Call → Kind
kind_call (rule ls) = kind.Calls
kind_call (query n on off) = kind.Calls
kind_call (card n size) = kind.Lists
kind_call forget = kind.Calls
kind_call withdraw = kind.Calls
kind_call (keep_card n size) = kind.Lists
kind_call (one ls) = kind.Calls
kind_call (closest n size on off) = kind.Lists

abbrev pub kind_request : Request → Kind
kind_request (call c) = kind_call c
kind_request (write size) = kind.Reads
kind_request (page k) = kind.Reads

-- .. by the line that was read
abbrev pub kind_in : CallLine → Kind
kind_in (line.Rule n) = kind.Calls
kind_in (line.Query n) = kind.Calls
kind_in (line.Card size) = kind.Lists
kind_in (line.KeepCard size) = kind.Lists
kind_in line.Forget = kind.Calls
kind_in line.Withdraw = kind.Calls
kind_in (line.One n) = kind.Calls
kind_in (line.Closest n size) = kind.Lists

abbrev pub kind_read : SessionLine → Kind
kind_read (read.Reads l) = kind.Reads
kind_read (read.Makes z) = kind_in z.line

abbrev pub AskedIs : Option Request → Kind → Type 0
AskedIs q k = (r : Request) × (q ≡ some r) × (k ≡ kind_request r)

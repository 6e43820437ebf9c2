-- What the line at a place asks for, by what its readers say.
use Prim.Native.Nat.{ℕ}
use mathlib.Core.Path.{◌≡◌, refl, ap, ◌∙◌}
use mathlib.Core.Bool.{true, false}
use mathlib.Core.List.{List}
use mathlib.Core.Option.{Option, none, some}
use lib.IntN.{ℤ}
use Rattle.qbf.specs.Calls.{Call}
use Rattle.qbf.specs.Calls as calls
use Rattle.layout.specs.Forms.{then}
use Rattle.layout.specs.Session.{named}
use Rattle.sessions.specs.Session.{call, write, page, call_request}
use Rattle.reader.specs.Requests.{Asked, RequestIs}
use Rattle.reader.specs.Calls.{CallUnder}
use Rattle.reader.specs.declared.request.RequestLine.{RequestLine}
use Rattle.reader.specs.declared.request.RequestLine.TheVariants as request
use Rattle.reader.specs.declared.call.CallLine.{CallLine}
use Rattle.reader.specs.declared.call.CallLine.TheVariants as line
use Rattle.session_lines.specs.declared.asked.SessionLine.{SessionLine}
use Rattle.session_lines.specs.declared.asked.SessionLine.TheVariants as read
use Rattle.session_lines.specs.Asked.{LineIs}
use Rattle.day_lines.specs.declared.asked.Kind.TheVariants as kind
use Rattle.day_lines.specs.Asked.{AskedIs, kind_in, kind_read}

reads : (a : Asked) (l : RequestLine) → RequestIs a l → AskedIs a.request kind.Reads
reads a request.Whole e = (write none, e, refl)
reads a (request.Into n) (e, h) = (write (some n), e, refl)
reads a (request.Page n) e = (page n, e, refl)

module _ (a : Asked) (e : a.request ≡ then a.called call_request) where
  is_call : (c : Call) → a.called ≡ some c → a.request ≡ some (call c)
  is_call c q = e ∙ ap (λ (o : Option Call). then o call_request) q

  calls_for : (n : ℕ) (l : CallLine) (out : List ℤ) → CallUnder n a.called l out → AskedIs a.request (kind_in l)
  calls_for n (line.Rule m) out (ls, q, k) = (call (calls.rule ls), is_call (calls.rule ls) q, refl)
  calls_for n (line.Query m) out (ls, q, k) = (call (calls.query n (named true ls) (named false ls)), is_call _ q, refl)
  calls_for n (line.Card size) out q = (call (calls.card n size), is_call (calls.card n size) q, refl)
  calls_for n (line.KeepCard size) out q = (call (calls.keep_card n size), is_call (calls.keep_card n size) q, refl)
  calls_for n line.Forget out q = (call calls.forget, is_call calls.forget q, refl)
  calls_for n line.Withdraw out q = (call calls.withdraw, is_call calls.withdraw q, refl)
  calls_for n (line.One m) out (ls, q, k) = (call (calls.one ls), is_call (calls.one ls) q, refl)
  calls_for n (line.Closest m size) out (ls, q, k) = (call (calls.closest n size (named true ls) (named false ls)), is_call _ q, refl)

pub asks : (a : Asked) (l : SessionLine) (lits : List ℤ) → LineIs a l lits → AskedIs a.request (kind_read l)
asks a (read.Reads l) lits e = reads a l e
asks a (read.Makes z) lits (e, h) = calls_for a e z.ceiling z.line lits h

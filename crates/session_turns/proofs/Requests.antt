-- A line that is no request.
use mathlib.Core.Path.{◌≡◌, refl}
use mathlib.Core.List.{[]}
use mathlib.Core.Option.{none}
use Rattle.layout.specs.Words.{inside}
use Rattle.sessions.specs.Session.{request_of}

pub no_request : request_of [] ≡ none
unfolding request_of inside
no_request = refl

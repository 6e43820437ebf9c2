-- What a line asks for, by the answers of its readers: the shares, a request at a place, or nothing.
use mathlib.Core.Path.{◌≡◌, refl, sym, ap, ◌∙◌}
use mathlib.Core.Bool.{true, false}
use mathlib.Core.Option.{Option, none, some}
use Rattle.std.specs.Prelude.{Some, None}
use Rattle.layout.specs.Words.{Bytes, same}
use Rattle.layout.specs.Forms.{then}
use Rattle.sessions.specs.Session.{request_of}
use Rattle.day_text.specs.Lines.{At, at_of, shares_line, at, shares, asked_at, asked_of}
use Rattle.day_reader.specs.declared.at.AtLine.{AtLine}
use Rattle.day_reader.specs.Read.{at_is}

module _ (l : Bytes) where
  -- `is_shares`
  pub asked_shares : same l shares_line ≡ true → asked_of l ≡ some shares
  unfolding asked_of
  asked_shares e = rw e refl

  module _ (e : same l shares_line ≡ false) where
    placed_only : asked_of l ≡ then (at_of l) asked_at
    unfolding asked_of
    placed_only = rw e refl

    -- `read_at` without an answer
    pub asked_nothing : at_is None ≡ at_of l → asked_of l ≡ none
    asked_nothing h = placed_only ∙ ap (λ (o : Option At). then o asked_at) (sym h)

    -- .. and with one: the request of the line that it hands out, at its place
    pub asked_placed : (a : AtLine) → at_is (Some a) ≡ at_of l → asked_of l ≡ then (request_of a.call.now) (λ q. some (at a.place q))
    asked_placed a h = placed_only ∙ ap (λ (o : Option At). then o asked_at) (sym h)

-- What the answers of a day's lines say.
use Rattle.std.specs.Prelude.{Option as Answer, Some, None}
use Rattle.std.proofs.Math.Option.{Option, none, some}
use Rattle.qbf.specs.Formula.{capped}
use Rattle.day_text.specs.Lines.{Place, At}
use Rattle.day_reader.specs.declared.place.PlaceLine.{PlaceLine}
use Rattle.day_reader.specs.declared.at.AtLine.{AtLine}

-- a place, and its limits as opening takes them
abbrev pub place_is : Answer PlaceLine → Option Place
place_is None = none
place_is (Some p) = some (record { place = p.place; limits = capped p.limits.numbers p.limits.clauses })

-- a place, and the bytes of a call's line
abbrev pub at_is : Answer AtLine → Option At
at_is None = none
at_is (Some a) = some (record { place = a.place; call = a.call.now })

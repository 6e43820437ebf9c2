-- The part of a call's line at a place behind its word.
use Rattle.std.proofs.Math.Option.{Option}
use Rattle.layout.specs.Words.{Bytes}
use Rattle.layout.specs.Forms.{then}
use Rattle.day_text.specs.Lines.{At, cut_of, at_place}

abbrev pub at_items : Bytes → Option At
at_items s = then (cut_of s) at_place

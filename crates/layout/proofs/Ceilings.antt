-- The ceiling of a call's line, by computation. Paper 02, wish 8.
use Prim.Native.String.{String}
use mathlib.Core.Path.{◌≡◌, refl}
use mathlib.Core.List.{List, [], ◌∷◌}
use mathlib.Core.Option.{Option, none, some}
use lib.IntN.{pos}
use Rattle.qbf.specs.Calls.{Call, query, card, keep_card, forget}
use Rattle.layout.specs.Words.{ascii, split, same, digits, number, closed, inside}
use Rattle.layout.specs.Forms.{items, consed}
use Rattle.layout.specs.Endings.{number_up_to, ended}
use Rattle.layout.specs.Session.{call_from, sized_call, ceiled_call, call_of}

record Row : Type 0 where
  line : String
  call : Option Call

abbrev row : String → Option Call → Row
row l c = record { line = l; call = c }

abbrev read : List Row → List (Option Call)
read [] = []
read (r ∷ rs) = call_of (ascii r.line) ∷ read rs

abbrev expected : List Row → List (Option Call)
expected [] = []
expected (r ∷ rs) = r.call ∷ expected rs

abbrev rows : List Row
rows =
    -- "Without it the ceiling is the highest"; 0 is legal
    row "(card)" (some (card 4294967295 65536))
    ∷ row "(card 4 (ceiling 0))" (some (card 0 4))
    ∷ row "(keep-card (ceiling 7))" (some (keep_card 7 65536))
    ∷ row "(query 1 2 (ceiling 4294967295))" (some (query 4294967295 (pos 1 ∷ pos 2 ∷ []) []))
    ∷ row "(query (ceiling 12))" (some (query 12 [] []))
    -- "a larger N, as anything outside the form, is 1"
    ∷ row "(card (ceiling 4294967296))" none
    ∷ row "(card (ceiling 42949672950))" none
    ∷ row "(card (ceiling 00))" none
    ∷ row "(card (ceiling))" none
    ∷ row "(card (ceiling ))" none
    ∷ row "(card (ceiling 5) )" none
    ∷ row "(card (ceiling 5 6))" none
    ∷ row "(card ceiling 5)" none
    -- it is the last item, and stands once
    ∷ row "(card (ceiling 5) 4)" none
    ∷ row "(card (ceiling 5) (ceiling 5))" none
    -- calls that search nothing take none
    ∷ row "(forget)" (some forget)
    ∷ row "(forget (ceiling 5))" none
    ∷ row "(rule 1 (ceiling 5))" none
    ∷ row "(ceiling 5)" none
    ∷ []

ceiling_rows : read rows ≡ expected rows
unfolding split same digits number items consed closed inside number_up_to ended call_from sized_call ceiled_call call_of
ceiling_rows = refl

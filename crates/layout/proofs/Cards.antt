-- What the program `card` prints, by computation: the cards of the bench table, a card too large, refusals, long numbers.
use Prim.Native.Nat.{ℕ}
use Prim.Native.String.{String}
use mathlib.Core.Path.{◌≡◌, refl}
use mathlib.Core.List.{List, [], ◌∷◌}
use Rattle.qbf.specs.Formula.{paper, place_of}
use Rattle.layout.specs.Words.{Bytes, ascii, split, same, digits, number, closed, inside}
use Rattle.layout.specs.Forms.{items, consed, form_from, form_of}
use Rattle.layout.specs.Opening.{read_lines, open_text}
use Rattle.layout.specs.Output.{last_digits, decimal, literal_text, items_text, line_text, lines_text, visits_text, card_text, refusal_text}
use Rattle.layout.specs.Program.{table_bytes, card_program}

-- an input, the size of the card table, and the output
record Row : Type 0 where
  input : String
  size : ℕ
  output : String

abbrev row : String → String → Row
row i o = record { input = i; size = table_bytes; output = o }

abbrev printed : List Row → List Bytes
printed [] = []
printed (r ∷ rs) = card_program paper r.size (ascii r.input) ∷ printed rs

abbrev expected : List Row → List Bytes
expected [] = []
expected (r ∷ rs) = ascii r.output ∷ expected rs

abbrev bench : List Row
bench =
    row "(book 1)\n(flags 1 2)\n(exists 3)\n(forall 4)\n(rule 3 4 (no 1))\n(rule (no 3) (no 4) 2)\n(rule 1 2)\n(end)\n" "(card 1)\n(line (no 1) 2)\n(line 1 2)\n(visits 11)\n(end)\n"
    ∷ row "(book 1)\n(flags 2 1)\n(exists 3)\n(forall 4)\n(rule 3 4 (no 1))\n(rule (no 3) (no 4) 2)\n(rule 1 2)\n(end)\n" "(card 1)\n(line 2)\n(visits 11)\n(end)\n"
    ∷ row "(book 1)\n(flags 1)\n(exists 2)\n(rule 2)\n(rule (no 2))\n(end)\n" "(card 1)\n(visits 4)\n(end)\n"
    ∷ row "(book 1)\n(flags 1 2)\n(exists 3)\n(forall 4)\n(rule 3 4 1)\n(rule (no 3) (no 4) 2)\n(end)\n" "(card 1)\n(line (no 1) 2)\n(line 1)\n(visits 11)\n(end)\n"
    ∷ row "(book 1)\n(flags 1 2)\n(end)\n" "(card 1)\n(line)\n(visits 1)\n(end)\n"
    ∷ row "(book 1)\n(flags)\n(forall 1)\n(rule 1)\n(end)\n" "(card 1)\n(visits 1)\n(end)\n"
    ∷ row "(book 1)\n(flags)\n(forall 1)\n(exists 2)\n(rule 1 2)\n(rule (no 1) (no 2))\n(end)\n" "(card 1)\n(line)\n(visits 6)\n(end)\n"
    ∷ row "(book 1)\n(flags)\n(exists 1)\n(forall 2)\n(rule 1 2)\n(rule (no 1) (no 2))\n(end)\n" "(card 1)\n(visits 3)\n(end)\n"
    ∷ []

-- a refusal ends with byte 10 too; the last two have tables of 4 and 3 bytes
abbrev others : List Row
others =
    row "" "(refused 1 1)\n"
    ∷ row "(book 1)\n(flags 1 2 40)\n(rule 40)\n(rule 41)\n(end)\n" "(refused 3 4)\n"
    ∷ row "(book 1)\n(flags 40)\n(rule (no 40))\n(end)\n" "(card 1)\n(line (no 40))\n(visits 3)\n(end)\n"
    ∷ record {
      input = "(book 1)\n(flags 1 2)\n(exists 3)\n(forall 4)\n(rule 3 4 (no 1))\n(rule (no 3) (no 4) 2)\n(rule 1 2)\n(end)\n";
      size = 4;
      output = "(card 1)\n(line (no 1) 2)\n(line 1 2)\n(visits 11)\n(end)\n";
    }
    ∷ record { input = "(book 1)\n(flags 1 2)\n(exists 3)\n(forall 4)\n(rule 3 4 (no 1))\n(rule (no 3) (no 4) 2)\n(rule 1 2)\n(end)\n"; size = 3; output = "(refused 21 0)\n" }
    ∷ []

bench_cards : printed bench ≡ expected bench
unfolding split same digits number items consed closed inside form_from form_of read_lines open_text place_of last_digits decimal literal_text items_text line_text lines_text visits_text card_text refusal_text card_program
bench_cards = refl

other_cards : printed others ≡ expected others
unfolding split same digits number items consed closed inside form_from form_of read_lines open_text place_of last_digits decimal literal_text items_text line_text lines_text visits_text card_text refusal_text card_program
other_cards = refl

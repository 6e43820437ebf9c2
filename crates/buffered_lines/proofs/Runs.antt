-- Whatever the pieces are that are read, what a program prints by its turns, put together, is what its definition by steps prints for its whole input.
use Prim.Native.Nat.{ℕ, suc, ◌+◌, ◌≤◌, ◌<◌}
use mathlib.Core.Path.{◌≡◌, refl, sym, ap, subst, ◌∙◌}
use mathlib.Core.Bool.{Bool, true, false, ◌&&◌}
use mathlib.Core.List.{List, [], ◌∷◌, ◌++◌, append_assoc, append-nil}
use native.Mathlib.Omega.{arith}
use borrow.Author.Tests.{eqb-true}
use lib.Dec.{eqb}
use lib.ListN.{length, take, drop, length-append, length-take}
use lib.Seq.{take-add, drop-append-le}
use Rattle.layout.specs.Words.{Bytes, joined}
use Rattle.layout.specs.Opening.{text_bytes}
use Rattle.feeding.specs.Lines.{Step, after, fed}
use Rattle.feeding.proofs.Lines.{fed_append}
use Rattle.line_buffer.specs.Numbers.{last_number}
use Rattle.buffered_lines.specs.Turns.{View, unused, has_ended, Ready, whole, Went, Finished}
use Rattle.buffered_lines.specs.Runs.{Reading, Program, Round, Ran}

pub true_false : true ≡ false → ⊥
true_false e = subst truth e tt
  where
    truth : Bool → Type 0
    truth true = Unit {0}
    truth false = ⊥

both : (t u : Bool) → (t && u) ≡ true → (t ≡ true) × (u ≡ true)
both true u e = (refl, e)
both false u e = absurd (true_false (sym e))

-- ---- what was read stands behind what was held
module _ (v : View) (text input : Bytes) (got : ℕ) (text' input' : Bytes) (at : v.at ≤ v.held) (held : v.held ≤ length text) (r : Reading v text input got text' input') where
  bare : v.held + 0 ≡ v.held
  bare = omega arith

  behind_held : unused v got text' ≡ unused v 0 text ++ take got (drop v.held text')
  behind_held =
      ap (drop v.at) (take-add v.held got text')
      ∙ drop-append-le v.at (take v.held text') (take got (drop v.held text')) (omega (arith, at, held, r.size, length-take v.held text'))
      ∙ ap (λ (u : Bytes). drop v.at u ++ take got (drop v.held text')) (r.kept ∙ sym (ap (λ (k : ℕ). take k text) bare))

  pub all_read : unused v got text' ++ input' ≡ unused v 0 text ++ input
  all_read = by v.waits refl
    where
      by : (t : Bool) → v.waits ≡ t → unused v got text' ++ input' ≡ unused v 0 text ++ input
      by true e = ap (λ (u : Bytes). u ++ input') behind_held ∙ append_assoc (unused v 0 text) (take got (drop v.held text')) input' ∙ ap (λ (u : Bytes). unused v 0 text ++ u) (sym (r.more e).0)
      by false e = λ i. drop v.at (take (v.held + (r.none e).0 i) ((r.none e).1 i)) ++ (r.none e).2 i

-- ---- round by round
pub record Fine (v : View) (text : Bytes) : Type 0 where
  pub at : v.at ≤ v.held
  pub held : v.held ≤ length text
  pub room : length text ≡ suc text_bytes

-- what is over prints nothing more
abbrev pub Silent : {S M H : Type 0} → Program S M H → Type 0
Silent {S} {M} {H} p = (s : S) (m : M) (h : H) → (p.view s).over ≡ true → p.Shows s m h → (q : Bytes) → whole p.at_end (fed p.on h q) ≡ []

module _ {S M H : Type 0} (p : Program S M H) (silent : Silent p) where
  -- one step and then the rest
  steps : (h : H) (q out : Bytes) (next : H) (u rest : Bytes) → fed p.on h q ≡ after out (fed p.on next u) → whole p.at_end (fed p.on h (q ++ rest)) ≡ out ++ whole p.at_end (fed p.on next (u ++ rest))
  steps h q out next u rest e =
      ap (whole p.at_end) (fed_append p.on h q rest)
      ∙ ap (λ (x : Step H). whole p.at_end (after x.text (fed p.on x.held rest))) e
      ∙ ap (λ (t : Bytes). t ++ p.at_end (fed p.on (fed p.on next u).held rest).held) (append_assoc out (fed p.on next u).text (fed p.on (fed p.on next u).held rest).text)
      ∙ append_assoc out ((fed p.on next u).text ++ (fed p.on (fed p.on next u).held rest).text) (p.at_end (fed p.on (fed p.on next u).held rest).held)
      ∙ ap (λ (x : Step H). out ++ whole p.at_end x) (sym (fed_append p.on next u rest))

  abbrev Claim : S → Bytes → M → Bytes → List Bytes → Type 0
  Claim s text m input outs =
      (h : H) → p.Shows s m h → ((p.view s).waits ≡ true → p.Quiet h (unused (p.view s) 0 text)) → (p.view s).number + length (unused (p.view s) 0 text) + length input ≤ last_number
      → joined outs ≡ whole p.at_end (fed p.on h (unused (p.view s) 0 text ++ input))

  module _ (s : S) (text : Bytes) (m : M) (input out : Bytes) (f : Fine (p.view s) text) (x : Round p s text m input out) (outs : List Bytes)
      (go : Fine (p.view x.next) x.text' → Claim x.next x.text' x.tables x.rest outs) (h : H) (w : p.Shows s m h) (q : (p.view s).waits ≡ true → p.Quiet h (unused (p.view s) 0 text))
      (few : (p.view s).number + length (unused (p.view s) 0 text) + length input ≤ last_number) where
    abbrev v : View
    v = p.view s

    ready : Ready (p.view s) x.got x.read p.answer_bytes x.lent
    ready = record { at = f.at; held = x.reading.room; room = x.reading.size ∙ f.room; answer = x.room }

    read : unused (p.view s) x.got x.read ++ x.rest ≡ unused (p.view s) 0 text ++ input
    read = all_read v text input x.got x.read x.rest f.at f.held x.reading

    size : length (unused (p.view s) x.got x.read) + length x.rest ≡ length (unused (p.view s) 0 text) + length input
    size = sym (length-append (unused v x.got x.read) x.rest) ∙ ap length read ∙ length-append (unused v 0 text) input

    goes_on : has_ended (p.view s) x.got ≡ false → joined (out ∷ outs) ≡ whole p.at_end (fed p.on h (unused (p.view s) 0 text ++ input))
    goes_on e =
        (λ i. x.printed i ++ go fine g.next g.shows g.quiet (omega (arith, few, size, g.left.few)) i)
        ∙ sym (steps h (unused v x.got x.read) (take (p.view x.next).length x.answer) g.next (unused (p.view x.next) 0 x.text') x.rest g.fed)
        ∙ ap (λ (u : Bytes). whole p.at_end (fed p.on h u)) read
      where
        g : Went p.on (p.Shows x.next x.tables) p.Quiet (p.view s).number (unused (p.view s) x.got x.read) x.read h (p.view x.next) x.text' x.answer
        g = x.turned.goes e ready h w (omega (arith, few, size))

        fine : Fine (p.view x.next) x.text'
        fine = record { at = g.left.at; held = g.left.held; room = g.left.room ∙ x.reading.size ∙ f.room }

    ends : has_ended (p.view s) x.got ≡ true → joined (out ∷ outs) ≡ whole p.at_end (fed p.on h (unused (p.view s) 0 text ++ input))
    ends e =
        (λ i. (x.printed ∙ g.printed) i ++ go fine g.next g.shows waits_not (omega (arith, few, size, g.left.few)) i)
        ∙ ap (λ (t : Bytes). whole p.at_end (fed p.on h (unused v x.got x.read)) ++ t) (silent x.next x.tables g.next g.over g.shows (unused (p.view x.next) 0 x.text' ++ x.rest))
        ∙ append-nil (whole p.at_end (fed p.on h (unused v x.got x.read)))
        ∙ ap (λ (u : Bytes). whole p.at_end (fed p.on h u)) (sym (append-nil (unused v x.got x.read)) ∙ ap (λ (u : Bytes). unused v x.got x.read ++ u) (sym nothing) ∙ read)
      where
        waiting : (p.view s).waits ≡ true
        waiting = (both v.waits (eqb x.got 0) e).0

        zero : x.got ≡ 0
        zero = eqb-true x.got 0 (both v.waits (eqb x.got 0) e).1

        none : input ≡ []
        none = (x.reading.more waiting).1 zero

        nothing : x.rest ≡ []
        nothing = sym ((x.reading.more waiting).0 ∙ ap (λ (k : ℕ). take k (drop v.held x.read) ++ x.rest) zero) ∙ none

        same : unused (p.view s) 0 text ≡ unused (p.view s) x.got x.read
        same = sym (append-nil (unused v 0 text)) ∙ ap (λ (u : Bytes). unused v 0 text ++ u) (sym none) ∙ sym read ∙ ap (λ (u : Bytes). unused v x.got x.read ++ u) nothing ∙ append-nil (unused v x.got x.read)

        quiet : p.Quiet h (unused (p.view s) x.got x.read)
        quiet = subst (p.Quiet h) same (q waiting)

        g : Finished p.on p.at_end (p.Shows x.next x.tables) (p.view s).number (unused (p.view s) x.got x.read) x.read h (p.view x.next) x.text' x.answer
        g = x.turned.ends e ready h w quiet

        fine : Fine (p.view x.next) x.text'
        fine = record { at = g.left.at; held = g.left.held; room = g.left.room ∙ x.reading.size ∙ f.room }

        waits_not : (p.view x.next).waits ≡ true → p.Quiet g.next (unused (p.view x.next) 0 x.text')
        waits_not z = absurd (true_false (sym z ∙ g.waits))

    one_round : joined (out ∷ outs) ≡ whole p.at_end (fed p.on h (unused (p.view s) 0 text ++ input))
    one_round = by (has_ended v x.got) refl
      where
        by : (t : Bool) → has_ended (p.view s) x.got ≡ t → joined (out ∷ outs) ≡ whole p.at_end (fed p.on h (unused (p.view s) 0 text ++ input))
        by true e = ends e
        by false e = goes_on e

  rounds : (outs : List Bytes) (s : S) (text : Bytes) (m : M) (input : Bytes) → Ran p s text m input outs → Fine (p.view s) text → Claim s text m input outs
  rounds [] s text m input e f h w q few = sym (silent s m h e w (unused (p.view s) 0 text ++ input))
  rounds (out ∷ outs) s text m input (x, more) f h w q few = one_round s text m input out f x outs (rounds outs x.next x.text' x.tables x.rest more) h w q few

  -- ---- the theorem
  -- Before anything is read, with a buffer of 65,537 bytes and an input of fewer than 2 ^ 64 - 1, in whatever pieces that is read: what was printed when the
  -- program is over is what its definition by steps prints.
  pub printed : (s : S) (text : Bytes) (m : M) (input : Bytes) (outs : List Bytes) (h : H) → (p.view s).at ≡ 0 → (p.view s).held ≡ 0 → (p.view s).number ≡ 1 → p.Shows s m h → p.Quiet h [] → length text ≡ suc text_bytes → length input < last_number
      → Ran p s text m input outs → joined outs ≡ whole p.at_end (fed p.on h input)
  printed s text m input outs h at held number w q room few ran =
      rounds outs s text m input ran (record { at = omega (arith, at); held = omega (arith, held); room = room }) h w
      (λ e. subst (p.Quiet h) (sym empty) q) (omega (arith, few, number, ap length empty))
      ∙ ap (λ (u : Bytes). whole p.at_end (fed p.on h (u ++ input))) empty
    where
      empty : unused (p.view s) 0 text ≡ []
      empty = let e : (p.view s).held + 0 ≡ 0 = omega (arith, held) in λ i. drop (at i) (take (e i) text)

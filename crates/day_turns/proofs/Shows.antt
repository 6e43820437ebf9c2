-- A day's turn by what it leaves.
use Prim.Native.Nat.{ℕ, suc, ◌+◌, ◌≤◌}
use mathlib.Core.Path.{◌≡◌, refl, sym, ap, subst, ◌∙◌}
use mathlib.Core.Bool.{Bool, true, false, cond}
use mathlib.Core.List.{List, [], ◌∷◌, ◌++◌, append-nil}
use native.Mathlib.Omega.{arith}
use lib.Dec.{eqb}
use lib.ListN.{length, take, drop, length-take, length-drop}
use Rattle.layout.specs.Words.{Bytes, newline}
use Rattle.writer.specs.Wrote.{Wrote}
use Rattle.feeding.specs.Lines.{Step, after, fed, Part, begun, grown, line_of, Serving, Service, at_line, on_line_byte}
use Rattle.day_text.specs.Program.{Phase, over, day_end}
use Rattle.day_feeding.specs.Steps.{Held, on_byte, at_end}
use Rattle.buffered_lines.specs.declared.Place.{Place}
use Rattle.buffered_lines.specs.Turns.{View, unused, Kept, whole, Went, Finished}
use Rattle.day_turns.specs.declared.Stage.{Stage}
use Rattle.day_turns.specs.declared.Stage.TheVariants as stage
use Rattle.day_turns.specs.declared.Day.{Day}
use Rattle.day_turns.specs.Turns.{no_place, Printed, Ends}
use Rattle.day_turns.specs.Lent.{Shown}
use Rattle.day_turns.specs.Turned.{view_as, view_of, ShowsIn, ShowsAs, Quiet}

-- ---- behind the end nothing is printed
fed_over_from : (n : ℕ) (p : Part) (q : Bytes)
    → ((fed on_byte (record { number = n; part = p; left = over }) q).text ≡ []) × ((fed on_byte (record { number = n; part = p; left = over }) q).held.left ≡ over)
unfolding fed
fed_over_from n p [] = (refl, refl)
fed_over_from n p (b ∷ q) = by (eqb b newline) (fed_over_from (suc n) (begun []) q) (fed_over_from n (grown p b) q)
  where
    next : Bool → Step Held
    next t = cond t (record { text = []; held = at_line (suc n) over }) (record { text = []; held = record { number = n; part = grown p b; left = over } })

    by : (t : Bool) → ((fed on_byte (at_line (suc n) over) q).text ≡ []) × ((fed on_byte (at_line (suc n) over) q).held.left ≡ over)
        → ((fed on_byte (record { number = n; part = grown p b; left = over }) q).text ≡ []) × ((fed on_byte (record { number = n; part = grown p b; left = over }) q).held.left ≡ over)
        → ((after (next t).text (fed on_byte (next t).held q)).text ≡ []) × ((after (next t).text (fed on_byte (next t).held q)).held.left ≡ over)
    by true f g = f
    by false f g = g

pub fed_over : (h : Held) (q : Bytes) → h.left ≡ over → ((fed on_byte h q).text ≡ []) × ((fed on_byte h q).held.left ≡ over)
fed_over h q e =
    subst (λ (x : Phase). ((fed on_byte (record { number = h.number; part = h.part; left = x }) q).text ≡ []) × ((fed on_byte (record { number = h.number; part = h.part; left = x }) q).held.left ≡ over)) (sym e)
    (fed_over_from h.number h.part q)

pub silent_over : (h : Held) (q : Bytes) → h.left ≡ over → whole at_end (fed on_byte h q) ≡ []
silent_over h q e =
    let f = fed_over h q e in
    (λ i. f.0 i ++ day_end (fed on_byte h q).held.number (f.1 i) (fed on_byte h q).held.part)

pub none_used : (text : Bytes) → drop 0 (take (0 + 0) text) ≡ []
none_used [] = refl
none_used (b ∷ text) = refl

pub none_fed : (h : Held) → record { text = []; held = h } ≡ after [] (fed on_byte h [])
unfolding fed
none_fed h = refl

-- ---- the line that is being read is the same whatever serves the lines
pub same_part : {X : Type 0} (serve : Service X) (q : Bytes) (h g : Serving X) → h.part ≡ g.part → (fed (on_line_byte serve) h q).held.part ≡ (fed (on_line_byte serve) g q).held.part
unfolding fed
same_part {X = X} serve [] h g e = e
same_part {X = X} serve (b ∷ q) h g e = by (eqb b newline) (λ x y f. same_part serve q x y f)
  where
    next : Serving X → Bool → Step (Serving X)
    next x t = cond t (record { text = (serve x.number x.left (line_of x.part)).text; held = at_line (suc x.number) (serve x.number x.left (line_of x.part)).left }) (record { text = []; held = record { number = x.number; part = grown x.part b; left = x.left } })

    by : (t : Bool) → ((x y : Serving X) → x.part ≡ y.part → (fed (on_line_byte serve) x q).held.part ≡ (fed (on_line_byte serve) y q).held.part)
        → (fed (on_line_byte serve) (next h t).held q).held.part ≡ (fed (on_line_byte serve) (next g t).held q).held.part
    by true go = go (next h true).held (next g true).held refl
    by false go = go (next h false).held (next g false).held (ap (λ (p : Part). grown p b) e)

module _ {M : Type 0} (T : Shown M) (n : ℕ) (q text : Bytes) (h : Held) (r : Day) (m : M) (text' d : Bytes) where
  -- ---- by its stage
  abbrev pub WentIn : Stage → Place → List Bool → Type 0
  WentIn g p b = Went on_byte (λ (k : Held). ShowsIn T g p b m k) Quiet n q text h (view_as g p r.length) text' d

  pub went_by : (g : Stage) (p : Place) (b : List Bool) → r.stage ≡ g → r.place ≡ p → r.given ≡ b → WentIn g p b → Went on_byte (ShowsAs T r m) Quiet n q text h (view_of r) text' d
  went_by g p b x y z w =
      subst (λ (g : Stage). WentIn g r.place r.given) (sym x) (subst (λ (p : Place). WentIn g p r.given) (sym y) (subst (λ (b : List Bool). WentIn g p b) (sym z) w))

  abbrev pub FinishedIn : Stage → Place → Type 0
  FinishedIn g p = Finished on_byte at_end (λ (k : Held). ShowsIn T g p r.given m k) n q text h (view_as g p r.length) text' d

  -- ---- the last answer
  module _ (same : text' ≡ text) (o : r.stage ≡ stage.Over) (e : r.place ≡ no_place) (within : r.length ≤ length d) where
    kept_over : Kept n q text (view_as stage.Over no_place r.length) text' d
    kept_over = record { at = omega arith; held = omega arith; room = ap length same; within = within; few = omega (arith, ap length (none_used text')) }

    -- what follows is read by what is over
    pub went_over : (t : Bytes) (x : Held) (rest : Bytes) → take r.length d ≡ t → x.left ≡ over → fed on_byte h q ≡ after t (fed on_byte x rest) → Went on_byte (ShowsAs T r m) Quiet n q text h (view_of r) text' d
    unfolding fed
    went_over t x rest p l f =
        went_by stage.Over no_place r.given o e refl
        (record {
          left = kept_over;
          next = (fed on_byte x rest).held;
          shows = (fed_over x rest l).1;
          fed =
              f
              ∙ (λ i. after (sym p i) (record { text = (fed_over x rest l).0 i; held = (fed on_byte x rest).held }))
              ∙ (λ i. after (take r.length d) (fed on_byte (fed on_byte x rest).held (sym (none_used text') i)));
          quiet = λ w. by w;
        })
      where
        by : false ≡ true → Quiet (fed on_byte x rest).held (unused (view_as stage.Over no_place r.length) 0 text')
        by w = subst (λ (y : Phase). Quiet (record { number = (fed on_byte x rest).held.number; part = (fed on_byte x rest).held.part; left = y }) (unused (view_as stage.Over no_place r.length) 0 text')) (sym (fed_over x rest l).1) tt

    pub finished_over : take r.length d ≡ whole at_end (fed on_byte h q) → Finished on_byte at_end (ShowsAs T r m) n q text h (view_of r) text' d
    finished_over p =
        subst (λ (g : Stage). FinishedIn g r.place) (sym o) (subst (λ (k : Place). FinishedIn stage.Over k) (sym e)
        (record { left = kept_over; over = refl; waits = refl; next = at_line 0 over; shows = refl; printed = p }))

-- a text that was written from the table's start on
pub written : (t d₀ d : Bytes) (n : ℕ) → Wrote d₀ 0 t d n → Printed t n d
written t d₀ d n w = (omega (arith, w.next, ap length w.is, length-take n d), w.is)

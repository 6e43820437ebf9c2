-- What a request of the book at a place owes: a session's answer under the share, and its visits, its state and its card at that place.
use Rattle.std.specs.Prelude.{ℕ, ◌-◌, ◌≤◌, ◌≡◌, List, ℤ, length, take, set}
use Rattle.std.proofs.Math.Option.{Option, some}
use Rattle.layout.specs.Words.{Bytes}
use Rattle.sessions.specs.Session.{Request, Card}
use Rattle.day_text.specs.Program.{Served, shown_at}
use Rattle.shares.specs.Shares.{settled}
use Rattle.state_parts.specs.Parts.{read_at}
use Rattle.serving_days.specs.Serves.{state_in}
use Rattle.session_lines.specs.Sharing.{RequestSharedServedAt}
use Rattle.places.specs.Rooms.{part_at}
use Rattle.day_lines.specs.declared.Kept.{Kept}
use Rattle.day_lines.specs.Served.{served_in}

-- with so many visits charged to place k, and another state and card there
abbrev pub changed_at : Served → ℕ → ℕ → List ℕ → List ℤ → Option Card → Served
changed_at z k v cells literals c =
    record {
      day = record { total = z.day.total; used = settled z.day.total z.day.used k v; places = set z.day.places (k - 1) (some (state_in (read_at cells literals))) };
      shown = set z.shown (k - 1) c;
    }

pub record BookServed (k n m : ℕ) (q : Option Request) (s : Kept) (cells : List ℕ) (literals : List ℤ) (cards : List Bytes) (s' : Kept) (cells' : List ℕ) (literals' : List ℤ) (cards' : List Bytes) (r : ℕ) (d : Bytes) : Type 0 where
  -- its tables, its card and its visits
  pub own : List ℕ
  pub lits : List ℤ
  pub card : Option Card
  pub visits : ℕ
  pub within : r ≤ length d
  pub served : RequestSharedServedAt m (part_at s.rooms.cells k cells) (part_at s.rooms.literals k literals) (shown_at (served_in s cells literals cards) k) q n (take r d) own lits card visits
  pub left : served_in s' cells' literals' cards' ≡ changed_at (served_in s cells literals cards) k visits own lits card

-- A card, keep card or closest reading that was read from a line asks for no more bytes than the table has.
use Rattle.std.specs.Prelude.{◌≤◌}
use Rattle.layout.specs.Program.{table_bytes}
use Rattle.reader.specs.declared.call.CallLine.{CallLine}
use Rattle.reader.specs.declared.call.CallLine.TheVariants.{Rule, Query, Card, KeepCard, Forget, Withdraw, One, Closest}

abbrev pub Small : CallLine → Type 0
Small (Rule n) = Unit {0}
Small (Query n) = Unit {0}
Small (Card size) = size ≤ table_bytes
Small (KeepCard size) = size ≤ table_bytes
Small Forget = Unit {0}
Small Withdraw = Unit {0}
Small (One n) = Unit {0}
Small (Closest n size) = size ≤ table_bytes

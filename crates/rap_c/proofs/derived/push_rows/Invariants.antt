use Rattle.std.proofs.Common.{◌≡◌, ◌++◌, map, take}
use Rattle.rap_c.specs.Derived.{place_row}
use Rattle.rap_c.proofs.derived.push_rows.Given as goal

abbrev pub invariant-places : goal.invariant-places
invariant-places l = l.rows.items ≡ l.fn.rows.items ++ map (place_row l.fn.is_token) (take l.place-index l.fn.places)

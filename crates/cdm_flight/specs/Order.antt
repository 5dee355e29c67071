-- The order of sequence: smaller priority number, then earlier TOBT, then smaller name by bytes.
use Rattle.std.specs.Prelude.{Bool}
use Rattle.std.specs.declared.cmp.Ordering.{Ordering}
use Rattle.std.specs.Ordering.{nat_cmp, ordering_then, is_lt}
use Rattle.cdm_flight.specs.declared.key.Key.{Key}
use Rattle.cdm_flight.specs.Names.{name_cmp}

-- how two flights compare: by priority, then by TOBT, then by name
abbrev pub key_cmp : Key → Key → Ordering
key_cmp a b = ordering_then (nat_cmp a.priority b.priority) (ordering_then (nat_cmp a.tobt b.tobt) (name_cmp a.name b.name))

-- the first flight comes before the second
unfoldable pub is_before : Key → Key → Bool
is_before a b = is_lt (key_cmp a b)

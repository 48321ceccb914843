-- The leaf that a descent came to, or why it came to none: rules R5 and R8.
use Rattle.std.specs.Prelude.{Result, Ok, Err}
use Rattle.records.specs.declared.NodeIndex.{NodeIndex}
use Rattle.records.specs.declared.Node.{Node}
use Rattle.records.specs.declared.Refusal.{Refusal}
use Rattle.records.specs.declared.Refusal.TheVariants as no
use Rattle.descent.specs.declared.Stop.{Stop}
use Rattle.descent.specs.declared.Stop.TheVariants as stop

unfoldable pub stop_leaf : Stop → Result (NodeIndex × Node) Refusal
stop_leaf (stop.Leaf i x) = Ok (i, x)
stop_leaf (stop.Parted i x shared) = Err no.Absent
stop_leaf stop.Empty = Err no.Absent
stop_leaf stop.Damaged = Err no.Damaged

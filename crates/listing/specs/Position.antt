-- Making a position: rule L5. It tests shape and header only; in an empty map it succeeds with empty stacks. A refused making gives a position of zeros.
use Rattle.std.specs.Prelude.{List, false, cond, ℕ, replicate, set, eqb, Err, Ok, Result}
use Rattle.records.specs.declared.Refusal.{Refusal}
use Rattle.records.specs.declared.Header.{Header}
use Rattle.records.specs.declared.NodeIndex.{NodeIndex}
use Rattle.inspection.specs.Opening.{open_of}
use Rattle.listing.specs.declared.Stack.{Stack}
use Rattle.listing.specs.declared.Position.{Position}
use Rattle.listing.specs.declared.Made.{Made}

-- a stack has places for the longest path
abbrev pub most_places : ℕ
most_places = 129

abbrev pub no_nodes : List NodeIndex
no_nodes = replicate most_places (record { 0 = 0 })

abbrev pub empty_stack : Stack
empty_stack = record { places = no_nodes; count = 0; last = record { 0 = 0 } }

-- the root alone
abbrev pub root_stack : NodeIndex → Stack
root_stack root = record { places = set no_nodes 0 root; count = 1; last = record { 0 = 0 } }

abbrev pub both_ends : Stack → Position
both_ends s = record { front = s; back = s; ended = false }

unfoldable pub opened_made : Result Header Refusal → Made
opened_made (Ok h) = record { answer = Ok tt; position = both_ends (cond (eqb h.values.size 0) empty_stack (root_stack h.root)) }
opened_made (Err r) = record { answer = Err r; position = both_ends empty_stack }

unfoldable pub made_of : ℕ → ℕ → List ℕ → Made
made_of m n ws = opened_made (open_of m n ws)

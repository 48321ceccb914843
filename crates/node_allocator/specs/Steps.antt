-- What each call of the arena answers and what every word is afterwards, in the order of the Rust's steps (`node_allocator.rs`).
use Rattle.std.specs.Prelude.{ℕ, ◌+◌, ◌%◌, ◌^◌, Bool, cond, not, ◌&&◌, List, ◌==◌, nat_le, slice_index, slice_set}
use Rattle.words.specs.Wide.{wide_at, set_wide}
use Rattle.words.specs.Zeros.{zeros_at}
use Rattle.node_allocator.specs.declared.Arena.{Arena}
use Rattle.node_allocator.specs.declared.Counts.{Counts}
use Rattle.node_allocator.specs.declared.Register.{Register}
use Rattle.node_allocator.specs.declared.Register.TheVariants.{Left}
use Rattle.node_allocator.specs.Layout.{header_at, record_at, width_of, register_of, inside}

-- ---- the header

-- the four words from place k on
abbrev pub counts_at : List ℕ → ℕ → Counts
counts_at ws k = record { size = wide_at ws k; bump = slice_index ws (k + 2); head = slice_index ws (k + 3) }

unfoldable pub counts_of : Arena → List ℕ → Counts
counts_of a ws = counts_at ws (header_at a)

unfoldable pub set_counts : Arena → List ℕ → Counts → List ℕ
set_counts a ws c = slice_set (slice_set (set_wide ws (header_at a) c.size) (header_at a + 2) c.bump) (header_at a + 3) c.head

-- an empty arena: nothing was ever used
unfoldable pub initialized : Arena → List ℕ → List ℕ
initialized a ws = set_counts a ws (record { size = 0; bump = 1; head = 1 })

-- ---- registers: those of no record read 0, and nothing is stored to them

unfoldable pub get_register : Arena → List ℕ → ℕ → Register → ℕ
get_register a ws i f = cond (inside a i) (slice_index ws (record_at a i + register_of f)) 0

unfoldable pub set_register : Arena → List ℕ → ℕ → ℕ → Register → List ℕ
set_register a ws i v f = cond (inside a i) (slice_set ws (record_at a i + register_of f) v) ws

abbrev pub clear_register : Arena → List ℕ → ℕ → Register → List ℕ
clear_register a ws i f = set_register a ws i 0 f

unfoldable pub connected : Arena → List ℕ → ℕ → ℕ → Register → Register → List ℕ
connected a ws i j f g = set_register a (set_register a ws i j f) j i g

unfoldable pub disconnected : Arena → List ℕ → ℕ → ℕ → Register → Register → List ℕ
disconnected a ws i j f g = clear_register a (clear_register a ws i f) j g

-- ---- tests of a record that are the arena's

-- every word of a record that was never used is 0
unfoldable pub never_used : Arena → List ℕ → ℕ → Bool
never_used a ws i = zeros_at ws (record_at a i) (width_of a)

-- a free record's link: in 1..bump and not itself
abbrev pub link_ok : ℕ → ℕ → ℕ → Bool
link_ok bump i next = nat_le 1 next && nat_le next bump && not (next == i)

-- ---- add_node, with the header c that the caller knows

-- the head's record is taken, whose register 0 names next: at the bump, bump and head move on by one; else the head is what it named
unfoldable pub taken : Counts → ℕ → Counts
taken c next =
    record {
      size = (c.size + 1) % 2 ^ 64;
      bump = cond (c.head == c.bump) ((c.head + 1) % 2 ^ 32) c.bump;
      head = cond (c.head == c.bump) ((c.head + 1) % 2 ^ 32) next;
    }

-- none where the head names none: a full buffer, where the Rust panics
unfoldable pub add_counts : Arena → List ℕ → Counts → Counts
add_counts a ws c = cond (inside a c.head) (taken c (get_register a ws c.head Left)) c

-- the record names none, and the header follows
unfoldable pub add_image : Arena → List ℕ → Counts → List ℕ
add_image a ws c =
    cond (inside a c.head) (set_counts a (clear_register a ws c.head Left) (taken c (get_register a ws c.head Left))) ws

-- ---- remove_node

-- record i goes to the front of the chain; a size of 0 wraps, where the Rust panics
unfoldable pub freed : Counts → ℕ → Counts
freed c i = record { size = (c.size + 18446744073709551615) % 2 ^ 64; bump = c.bump; head = i }

unfoldable pub remove_counts : Arena → Counts → ℕ → Counts
remove_counts a c i = cond (inside a i) (freed c i) c

unfoldable pub remove_image : Arena → List ℕ → ℕ → Counts → List ℕ
remove_image a ws i c = cond (inside a i) (set_counts a (set_register a ws i c.head Left) (freed c i)) ws

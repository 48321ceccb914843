-- The image that a lent buffer holds: rules I1 to I9. Where its arenas stand is in `node_allocator`'s Layout.
use Rattle.std.specs.Prelude.{List, [], cond, ℕ, ◌+◌, ◌*◌, ◌%◌, length, eqb}
use Rattle.words.specs.Words.{words}

-- M is at most this, and so is N
abbrev pub most_values : ℕ
most_values = 4096

abbrev pub most_nodes : ℕ
most_nodes = 8192

-- how many words an image of capacity m over n nodes has
abbrev pub image_length : ℕ → ℕ → ℕ
image_length m n = 12 + 12 * n + 8 * m

-- the image's words; a buffer that is no whole number of words holds none
unfoldable pub image_of : List ℕ → List ℕ
image_of bytes = cond (eqb (length bytes % 4) 0) (words bytes) []

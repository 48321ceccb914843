-- The laws of the arena's steps, for whoever stands above: what each leaves of the header, of a register and of every other word. Both arenas have them by one proof.
use Rattle.std.specs.Prelude.{◌≡◌, ◌≢◌, ◌⊎◌, Bool, cond}
use Rattle.std.proofs.Math.Path.{refl}
use Rattle.std.proofs.Common.{◌∙◌, arith}
use mathlib.Core.List.{List}
use Rattle.std.proofs.Math.Logic.{⊎_elim}
use Rattle.std.proofs.Math.Bool.{true, false}
use Prim.Native.Nat.{ℕ, ◌+◌, ◌≤◌, ◌<◌}
use Rattle.std.proofs.Math.ListN.{length, get_or, set, length-set}
use Rattle.std.proofs.Math.Seq.{get_or-set_same, get_or-set_other}
use Rattle.words.specs.Wide.{wide_at, set_wide, wide_stored, set_wide_length, set_wide_others}
use Rattle.node_allocator.specs.declared.Arena.{Arena}
use Rattle.node_allocator.specs.declared.Counts.{Counts}
use Rattle.node_allocator.specs.declared.Register.{Register}
use Rattle.node_allocator.specs.Layout.{header_at, record_at, register_of, inside}
use Rattle.node_allocator.specs.Steps.{counts_of, set_counts, get_register, set_register}
use Rattle.arena_laws.specs.Places.{Inside, inside_is, Lies, register_small, width_some, past_header, within}

-- a word that no step of an arena changes, but for register 0 of the record that it takes or frees
abbrev pub Outside : Arena → ℕ → Type 0
Outside a k = (k < header_at a) ⊎ (header_at a + 4 ≤ k)

-- ---- registers

module _ (a : Arena) (ws : List ℕ) (i v : ℕ) (f : Register) where
  pub register_length : length (set_register a ws i v f) ≡ length ws
  unfolding set_register
  register_length = go (inside a i)
    where
      go : (b : Bool) → length (cond b (set ws (record_at a i + register_of f) v) ws) ≡ length ws
      go true = length-set ws (record_at a i + register_of f) v
      go false = refl

  -- no word but the register's own
  pub register_others : (k : ℕ) → k ≢ record_at a i + register_of f → get_or (set_register a ws i v f) k 0 ≡ get_or ws k 0
  unfolding set_register
  register_others k n = go (inside a i)
    where
      go : (b : Bool) → get_or (cond b (set ws (record_at a i + register_of f) v) ws) k 0 ≡ get_or ws k 0
      go true = get_or-set_other ws (record_at a i + register_of f) k v 0 n
      go false = refl

  -- a register that was set is read back
  pub register_stored : Lies a (length ws) → Inside a i → get_register a (set_register a ws i v f) i f ≡ v
  unfolding set_register get_register
  register_stored l h =
      let place : record_at a i + register_of f < length ws = within (register_of f) l h (omega (arith, register_small f, width_some a)) in
      rw (inside_is h) (get_or-set_same ws (record_at a i + register_of f) v 0 place)

-- a register is what its word is
pub register_word : {a : Arena} (ws : List ℕ) {i : ℕ} (f : Register) → Inside a i → get_register a ws i f ≡ get_or ws (record_at a i + register_of f) 0
unfolding get_register
register_word ws f h = rw (inside_is h)

-- ---- the header after a store

pub counts_same : (a : Arena) (ws vs : List ℕ) → ((k : ℕ) → header_at a ≤ k → k < header_at a + 4 → get_or vs k 0 ≡ get_or ws k 0) → counts_of a vs ≡ counts_of a ws
unfolding counts_of wide_at
counts_same a ws vs f =
    let zero : get_or vs (header_at a) 0 ≡ get_or ws (header_at a) 0 = f (header_at a) (omega arith) (omega arith) in
    let one : get_or vs (header_at a + 1) 0 ≡ get_or ws (header_at a + 1) 0 = f (header_at a + 1) (omega arith) (omega arith) in
    let two : get_or vs (header_at a + 2) 0 ≡ get_or ws (header_at a + 2) 0 = f (header_at a + 2) (omega arith) (omega arith) in
    let three : get_or vs (header_at a + 3) 0 ≡ get_or ws (header_at a + 3) 0 = f (header_at a + 3) (omega arith) (omega arith) in
    simp (zero, one, two, three)

-- a register's store keeps it
pub counts_register : (a : Arena) (ws : List ℕ) (i v : ℕ) (f : Register) → 1 ≤ i → counts_of a (set_register a ws i v f) ≡ counts_of a ws
counts_register a ws i v f h =
    counts_same a ws (set_register a ws i v f) (λ k l m. register_others a ws i v f k (λ e. omega (arith, past_header a i h)))

-- a store to another word does
pub counts_set : (a : Arena) (ws : List ℕ) (p v : ℕ) → Outside a p → counts_of a (set ws p v) ≡ counts_of a ws
counts_set a ws p v o =
    counts_same a ws (set ws p v)
    (λ k l m. get_or-set_other ws p k v 0 (λ e. ⊎_elim (λ (x : p < header_at a). omega arith) (λ (x : header_at a + 4 ≤ p). omega arith) o))

-- ---- the header is stored

wide_kept : (vs : List ℕ) (p v k : ℕ) → k ≢ p → k + 1 ≢ p → wide_at (set vs p v) k ≡ wide_at vs k
unfolding wide_at
wide_kept vs p v k d e = rw (get_or-set_other vs p k v 0 d, get_or-set_other vs p (k + 1) v 0 e)

module _ (a : Arena) (ws : List ℕ) (c : Counts) where
  pub counts_length : length (set_counts a ws c) ≡ length ws
  unfolding set_counts
  counts_length = simp (length-set, set_wide_length)

  -- no word outside the header
  pub counts_others : (k : ℕ) → Outside a k → get_or (set_counts a ws c) k 0 ≡ get_or ws k 0
  unfolding set_counts
  counts_others k o =
      get_or-set_other (set (set_wide ws (header_at a) c.size) (header_at a + 2) c.bump) (header_at a + 3) k c.head 0 (off 3 (omega arith))
      ∙ get_or-set_other (set_wide ws (header_at a) c.size) (header_at a + 2) k c.bump 0 (off 2 (omega arith))
      ∙ set_wide_others ws (header_at a) c.size k (λ e. off 0 (omega arith) (omega arith)) (off 1 (omega arith))
    where
      off : (r : ℕ) → r < 4 → k ≢ header_at a + r
      off r s e = ⊎_elim (λ (x : k < header_at a). omega arith) (λ (x : header_at a + 4 ≤ k). omega arith) o

  -- it is read back
  pub counts_stored : header_at a + 4 ≤ length ws → counts_of a (set_counts a ws c) ≡ c
  unfolding counts_of set_counts
  counts_stored room =
      let vs : List ℕ = set_wide ws (header_at a) c.size in
      let us : List ℕ = set vs (header_at a + 2) c.bump in
      let long : length vs ≡ length ws = set_wide_length ws (header_at a) c.size in
      let long' : length us ≡ length ws = length-set vs (header_at a + 2) c.bump ∙ long in
      let size : wide_at (set us (header_at a + 3) c.head) (header_at a) ≡ c.size =
      wide_kept us (header_at a + 3) c.head (header_at a) (λ e. omega arith) (λ e. omega arith)
      ∙ wide_kept vs (header_at a + 2) c.bump (header_at a) (λ e. omega arith) (λ e. omega arith)
      ∙ wide_stored ws (header_at a) c.size (omega arith) in
      let bump : get_or (set us (header_at a + 3) c.head) (header_at a + 2) 0 ≡ c.bump =
      get_or-set_other us (header_at a + 3) (header_at a + 2) c.head 0 (λ e. omega arith) ∙ get_or-set_same vs (header_at a + 2) c.bump 0 (omega (arith, long)) in
      let head : get_or (set us (header_at a + 3) c.head) (header_at a + 3) 0 ≡ c.head = get_or-set_same us (header_at a + 3) c.head 0 (omega (arith, long')) in
      λ ι. record { size = size ι; bump = bump ι; head = head ι }

-- What adding and removing a record leaves, with the header c that the caller knows: the header afterwards, register 0 of that record, and every other word.
use Rattle.std.specs.Prelude.{◌≡◌, List, ◌≢◌, false, ℕ, ◌+◌, ◌%◌, ◌^◌, ◌<◌}
use Rattle.std.proofs.Math.Path.{refl}
use Rattle.std.proofs.Common.{sym, ap, ◌∙◌, inr}
use native.Mathlib.Omega.{arith}
use Rattle.std.proofs.Math.ListN.{length, get_or}
use borrow.Author.Tests.{eq-eqb, ne_eqb}
use Rattle.words.specs.Tests.{either_way}
use Rattle.node_allocator.specs.declared.Arena.{Arena}
use Rattle.node_allocator.specs.declared.Counts.{Counts}
use Rattle.node_allocator.specs.declared.Register.TheVariants.{Left}
use Rattle.node_allocator.specs.Layout.{record_at, inside}
use Rattle.node_allocator.specs.Steps.{counts_of, set_counts, get_register, set_register, taken, add_counts, add_image, freed, remove_counts, remove_image}
use Rattle.arena_laws.specs.Places.{Inside, inside_is, Lies, past_header, header_within}
use Rattle.arena_laws.specs.Laws.{Outside, register_length, register_others, register_stored, register_word, counts_length, counts_others, counts_stored}

-- both steps: register 0 of record i, then the header
module _ (a : Arena) (ws : List ℕ) (i v : ℕ) (c : Counts) where
  abbrev both : List ℕ
  both = set_counts a (set_register a ws i v Left) c

  both_length : length both ≡ length ws
  both_length = counts_length a (set_register a ws i v Left) c ∙ register_length a ws i v Left

  both_others : (k : ℕ) → Outside a k → k ≢ record_at a i → get_or both k 0 ≡ get_or ws k 0
  both_others k o d = counts_others a (set_register a ws i v Left) c k o ∙ register_others a ws i v Left k (λ e. d (omega arith))

  both_counts : Lies a (length ws) → counts_of a both ≡ c
  both_counts lies = counts_stored a (set_register a ws i v Left) c (rw (register_length a ws i v Left) (header_within lies))

  both_link : Lies a (length ws) → Inside a i → get_register a both i Left ≡ v
  both_link lies named =
      register_word both Left named
      ∙ counts_others a (set_register a ws i v Left) c (record_at a i + 0) (inr (omega (arith, past_header a i named.low)))
      ∙ sym (register_word (set_register a ws i v Left) Left named)
      ∙ register_stored a ws i v Left lies named

-- ---- adding

module _ (a : Arena) (ws : List ℕ) (c : Counts) where
  abbrev after : Counts
  after = taken c (get_register a ws c.head Left)

  pub add_length : length (add_image a ws c) ≡ length ws
  unfolding add_image
  add_length = either_way (λ vs. length vs ≡ length ws) (inside a c.head) _ ws (both_length a ws c.head 0 after) refl

  -- no word outside the header but register 0 of the record that is added
  pub add_others : (k : ℕ) → Outside a k → k ≢ record_at a c.head → get_or (add_image a ws c) k 0 ≡ get_or ws k 0
  unfolding add_image
  add_others k o d = either_way (λ vs. get_or vs k 0 ≡ get_or ws k 0) (inside a c.head) _ ws (both_others a ws c.head 0 after k o d) refl

  -- a full buffer, and any head that names no record: none is added, and nothing changes
  pub add_none : inside a c.head ≡ false → (add_counts a ws c ≡ c) × (add_image a ws c ≡ ws)
  unfolding add_counts add_image
  add_none e = (rw e, rw e)

  module _ (lies : Lies a (length ws)) (named : Inside a c.head) where
    -- the header is the one that is answered
    pub add_counts_lem : counts_of a (add_image a ws c) ≡ add_counts a ws c
    unfolding add_image add_counts
    add_counts_lem = rw (inside_is named) (both_counts a ws c.head 0 after lies)

    -- the record names none
    pub add_link : get_register a (add_image a ws c) c.head Left ≡ 0
    unfolding add_image
    add_link = rw (inside_is named) (both_link a ws c.head 0 after lies named)

  module _ (named : Inside a c.head) where
    -- a record that was never used: bump and head move on
    pub add_fresh : c.head ≡ c.bump → c.head + 1 < 2 ^ 32 → add_counts a ws c ≡ record { size = (c.size + 1) % 2 ^ 64; bump = c.head + 1; head = c.head + 1 }
    unfolding add_counts taken
    add_fresh e small =
        let whole : (c.head + 1) % 2 ^ 32 ≡ c.head + 1 = omega arith in
        simp (inside_is named, eq-eqb c.head c.bump e, whole)

    -- a freed one: the head is what it named
    pub add_freed : c.head ≢ c.bump → add_counts a ws c ≡ record { size = (c.size + 1) % 2 ^ 64; bump = c.bump; head = get_register a ws c.head Left }
    unfolding add_counts taken
    add_freed d = simp (inside_is named, ne_eqb c.head c.bump d)

-- ---- removing

module _ (a : Arena) (ws : List ℕ) (i : ℕ) (c : Counts) where
  pub remove_length : length (remove_image a ws i c) ≡ length ws
  unfolding remove_image
  remove_length = either_way (λ vs. length vs ≡ length ws) (inside a i) _ ws (both_length a ws i c.head (freed c i)) refl

  -- no word outside the header but register 0 of the record
  pub remove_others : (k : ℕ) → Outside a k → k ≢ record_at a i → get_or (remove_image a ws i c) k 0 ≡ get_or ws k 0
  unfolding remove_image
  remove_others k o d = either_way (λ vs. get_or vs k 0 ≡ get_or ws k 0) (inside a i) _ ws (both_others a ws i c.head (freed c i) k o d) refl

  module _ (named : Inside a i) where
    pub remove_is : remove_counts a c i ≡ record { size = (c.size + 18446744073709551615) % 2 ^ 64; bump = c.bump; head = i }
    unfolding remove_counts freed
    remove_is = simp (inside_is named)

    -- a removed record is the next one added: it stands at the head
    pub remove_add : (remove_counts a c i).head ≡ i
    remove_add = ap (λ (x : Counts). x.head) remove_is

    module _ (lies : Lies a (length ws)) where
      -- the header is the one that is answered
      pub remove_counts_lem : counts_of a (remove_image a ws i c) ≡ remove_counts a c i
      unfolding remove_image remove_counts
      remove_counts_lem = rw (inside_is named) (both_counts a ws i c.head (freed c i) lies)

      -- and the record names what was the head
      pub remove_left : get_register a (remove_image a ws i c) i Left ≡ c.head
      unfolding remove_image
      remove_left = rw (inside_is named) (both_link a ws i c.head (freed c i) lies named)

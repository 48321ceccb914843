-- Every word stays a 32-bit word: what is stored fits, or is cut to fit. What a record of such words holds fits too.
use Rattle.std.specs.Prelude.{◌≡◌, length, get_or, set, eqb}
use mathlib.Core.List.{List}
use Prim.Native.Nat.{ℕ, ◌+◌, ◌/◌, ◌%◌, ◌^◌, ◌≤◌, ◌<◌}
use native.Mathlib.Omega.{arith}
use Rattle.std.proofs.Math.Decide.{ℕ_discrete, dec_le}
use Rattle.std.proofs.Common.{lt_of_not-le, get_or-set_same, get_or-set_other}
use Rattle.std.proofs.Math.Seq.{set_out}
use Rattle.words.specs.Tests.{either_way}
use Rattle.words.specs.Wide.{wide_at, set_wide}
use Rattle.keys.specs.Number.{Fits}
use Rattle.node_allocator.specs.declared.Arena.{Arena}
use Rattle.node_allocator.specs.declared.Counts.{Counts}
use Rattle.node_allocator.specs.declared.Register.{Register}
use Rattle.node_allocator.specs.declared.Register.TheVariants.{Left}
use Rattle.node_allocator.specs.Layout.{header_at, record_at, register_of, inside}
use Rattle.node_allocator.specs.Steps.{counts_of, set_counts, initialized, get_register, set_register, taken, add_image, freed, remove_image}
use Rattle.records.specs.declared.Node.{Node}
use Rattle.records.specs.declared.Value.{Value}
use Rattle.records.specs.declared.ValueRecord.{ValueRecord}
use Rattle.records.specs.Records.{node_of}
use Rattle.records.specs.Writes.{registers_set, key_set, node_set, set_node, value_set, live_record, set_value}
use Rattle.lists.specs.Machine.{FitsValue}

abbrev pub Small : List ℕ → Type 0
Small ws = (k : ℕ) → get_or ws k 0 < 2 ^ 32

-- ---- records whose words fit

pub record FitsNode (x : Node) : Type 0 where
  pub left_fits : x.left.0 < 2 ^ 32
  pub right_fits : x.right.0 < 2 ^ 32
  pub parent_fits : x.parent.0 < 2 ^ 32
  pub value_fits : x.value.0 < 2 ^ 32
  pub key_fits : Fits x.key
  pub prefix_fits : x.prefix < 2 ^ 64

pub record FitsRecord (r : ValueRecord) : Type 0 where
  pub fits0 : r.register0 < 2 ^ 32
  pub fits1 : r.register1 < 2 ^ 32
  pub fits2 : r.register2 < 2 ^ 32
  pub fits3 : r.register3 < 2 ^ 32
  pub value_fits : FitsValue r.value

pub live_fits : {v : Value} (leaf : ℕ) → FitsValue v → FitsRecord (live_record leaf v)
unfolding live_record
live_fits leaf f = record { fits0 = omega arith; fits1 = omega arith; fits2 = omega arith; fits3 = omega arith; value_fits = f }

pub record FitsCounts (c : Counts) : Type 0 where
  pub bump_fits : c.bump < 2 ^ 32
  pub head_fits : c.head < 2 ^ 32

wide_fits : (ws : List ℕ) (k : ℕ) → Small ws → wide_at ws k < 2 ^ 64
unfolding wide_at
wide_fits ws k s = omega (arith, s k, s (k + 1))

pub node_fits : (ws : List ℕ) (i : ℕ) → Small ws → FitsNode (node_of ws i)
unfolding node_of
node_fits ws i s =
    record {
      left_fits = s _;
      right_fits = s _;
      parent_fits = s _;
      value_fits = s _;
      key_fits = record { high_fits = wide_fits ws _ s; low_fits = wide_fits ws _ s };
      prefix_fits = wide_fits ws _ s;
    }

pub counts_fit : (a : Arena) (ws : List ℕ) → Small ws → FitsCounts (counts_of a ws)
unfolding counts_of
counts_fit a ws s = record { bump_fits = s (header_at a + 2); head_fits = s (header_at a + 3) }

-- ---- stores

pub small_set : (ws : List ℕ) (p v : ℕ) → v < 2 ^ 32 → Small ws → Small (set ws p v)
small_set ws p v h s k = go (ℕ_discrete k p) (dec_le (length ws) p)
  where
    go : Dec (k ≡ p) → Dec (length ws ≤ p) → get_or (set ws p v) k 0 < 2 ^ 32
    go (no d) l = rw (get_or-set_other ws p k v 0 d) (s k)
    go (yes e) (yes l) = rw (set_out ws p v l) (s k)
    go (yes e) (no l) = rw (e, get_or-set_same ws p v 0 (lt_of_not-le l)) h

small_wide : (ws : List ℕ) (p v : ℕ) → v < 2 ^ 64 → Small ws → Small (set_wide ws p v)
unfolding set_wide
small_wide ws p v h s =
    small_set (set ws p (v % 4294967296)) (p + 1) (v / 4294967296) (omega arith) (small_set ws p (v % 4294967296) (omega arith) s)

small_registers : (ws : List ℕ) (k a b c d : ℕ) → a < 2 ^ 32 → b < 2 ^ 32 → c < 2 ^ 32 → d < 2 ^ 32 → Small ws → Small (registers_set ws k a b c d)
unfolding registers_set
small_registers ws k a b c d e f g h s =
    small_set (set (set (set ws k a) (k + 1) b) (k + 2) c) (k + 3) d h
    (small_set (set (set ws k a) (k + 1) b) (k + 2) c g (small_set (set ws k a) (k + 1) b f (small_set ws k a e s)))

pub small_register : (a : Arena) (ws : List ℕ) (i v : ℕ) (f : Register) → v < 2 ^ 32 → Small ws → Small (set_register a ws i v f)
unfolding set_register
small_register a ws i v f h s = either_way Small (inside a i) _ ws (small_set ws (record_at a i + register_of f) v h s) s

pub small_node : (n : ℕ) (ws : List ℕ) (i : ℕ) (x : Node) → FitsNode x → Small ws → Small (set_node n ws i x)
unfolding set_node node_set key_set
small_node n ws i x f s =
    either_way Small (inside _ i) _ ws
    (small_wide _ _ x.prefix f.prefix_fits
    (small_wide _ _ x.key.high f.key_fits.high_fits
    (small_wide _ _ x.key.low f.key_fits.low_fits
    (small_registers ws _ _ _ _ _ f.left_fits f.right_fits f.parent_fits f.value_fits s))))
    s

pub small_value : (m n : ℕ) (ws : List ℕ) (j : ℕ) (r : ValueRecord) → FitsRecord r → Small ws → Small (set_value m n ws j r)
unfolding set_value value_set
small_value m n ws j r f s =
    either_way Small (inside _ j) _ ws
    (small_wide _ _ r.value.second f.value_fits.second_fits
    (small_wide _ _ r.value.first f.value_fits.first_fits
    (small_registers ws _ _ _ _ _ f.fits0 f.fits1 f.fits2 f.fits3 s)))
    s

-- ---- steps of an arena, with the header c

module _ (a : Arena) (ws : List ℕ) where
  small_counts : (c : Counts) → c.size < 2 ^ 64 → FitsCounts c → Small ws → Small (set_counts a ws c)
  unfolding set_counts
  small_counts c h f s =
      let us : List ℕ = set_wide ws (header_at a) c.size in
      small_set (set us (header_at a + 2) c.bump) (header_at a + 3) c.head f.head_fits
      (small_set us (header_at a + 2) c.bump f.bump_fits (small_wide ws (header_at a) c.size h s))

  register_fits : (i : ℕ) (f : Register) → Small ws → get_register a ws i f < 2 ^ 32
  unfolding get_register
  register_fits i f s = either_way (λ x. x < 2 ^ 32) (inside a i) (get_or ws (record_at a i + register_of f) 0) 0 (s _) (omega arith)

  pub small_initialized : Small ws → Small (initialized a ws)
  unfolding initialized
  small_initialized = small_counts (record { size = 0; bump = 1; head = 1 }) (omega arith) (record { bump_fits = omega arith; head_fits = omega arith })

module _ (a : Arena) (ws : List ℕ) where
  pub small_added : (c : Counts) → FitsCounts c → Small ws → Small (add_image a ws c)
  unfolding add_image taken
  small_added c f s =
      either_way Small (inside a c.head) _ ws
      (small_counts a _ (taken c (get_register a ws c.head Left)) (omega arith)
      (record {
        bump_fits = either_way (λ x. x < 2 ^ 32) (eqb c.head c.bump) ((c.head + 1) % 2 ^ 32) c.bump (omega arith) f.bump_fits;
        head_fits = either_way (λ x. x < 2 ^ 32) (eqb c.head c.bump) ((c.head + 1) % 2 ^ 32) _ (omega arith) (register_fits a ws c.head Left s);
      })
      (small_register a ws c.head 0 Left (omega arith) s))
      s

  pub small_removed : (i : ℕ) (c : Counts) → i < 2 ^ 32 → FitsCounts c → Small ws → Small (remove_image a ws i c)
  unfolding remove_image freed
  small_removed i c h f s =
      either_way Small (inside a i) _ ws
      (small_counts a _ (freed c i) (omega arith) (record { bump_fits = f.bump_fits; head_fits = h }) (small_register a ws i c.head Left f.head_fits s))
      s

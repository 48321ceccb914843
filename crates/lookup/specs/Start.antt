-- Start, length and capacity: rules R1, R3, R9 and B3.
use Rattle.std.specs.Prelude.{List, Bool, true, false, cond, ◌≡◌, refl, ℕ, length, Err, Ok, Result}
use Rattle.std.proofs.Common.{arith}
use Rattle.records.specs.declared.Refusal.{Refusal}
use Rattle.records.specs.declared.Header.{Header}
use Rattle.words.specs.Zeros.{zeros_at}
use Rattle.node_allocator.specs.declared.Arena.TheVariants.{Nodes, Values}
use Rattle.node_allocator.specs.Steps.{initialized}
use Rattle.records.specs.declared.Refusal.TheVariants as no
use Rattle.records.specs.Numbers.{done}
use Rattle.inspection.specs.Tests.{shape_ok}
use Rattle.inspection.specs.Opening.{open_of, blank_of}

-- both arenas are empty: bumps and heads are 1
unfoldable pub started : ℕ → ℕ → List ℕ → List ℕ
started m n ws = initialized (Values n m) (initialized (Nodes n) ws)

-- the shape, then blank memory
abbrev pub start_of : ℕ → ℕ → List ℕ → Result Unit Refusal
start_of m n ws = blank_of m n ws

-- memory that may be started has the right shape
pub started_shaped : (m n : ℕ) (ws : List ℕ) → start_of m n ws ≡ done → shape_ok m n (length ws) ≡ true
unfolding blank_of
started_shaped m n ws e = go (shape_ok m n (length ws)) e
  where
    go : (b : Bool) → cond b (cond (zeros_at ws 0 (length ws)) done (Err no.NotBlank)) (Err no.Shape) ≡ done → b ≡ true
    go true t = refl
    go false t = let z : ◌≡◌ {A = ℕ} 0 1 = cc in absurd (omega arith)

unfoldable pub done_image : List ℕ → List ℕ → Result Unit Refusal → List ℕ
done_image before after (Ok tt) = after
done_image before after (Err r) = before

unfoldable pub start_image : ℕ → ℕ → List ℕ → List ℕ
start_image m n ws = done_image ws (started m n ws) (start_of m n ws)

-- the number of entries stands in the header
unfoldable pub opened_length : Result Header Refusal → Result ℕ Refusal
opened_length (Ok h) = Ok h.values.size
opened_length (Err r) = Err r

unfoldable pub length_of : ℕ → ℕ → List ℕ → Result ℕ Refusal
length_of m n ws = opened_length (open_of m n ws)

unfoldable pub opened_capacity : ℕ → Result Header Refusal → Result ℕ Refusal
opened_capacity m (Ok h) = Ok m
opened_capacity m (Err r) = Err r

unfoldable pub capacity_reply : ℕ → ℕ → List ℕ → Result ℕ Refusal
capacity_reply m n ws = opened_capacity m (open_of m n ws)

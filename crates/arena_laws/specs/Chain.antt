-- The chain of freed records, from the head through register 0 of each to the bump: rule T15. Adding a record takes the chain's
-- first, or the one at the bump where the chain is empty, and removing a record puts it in front.
use Rattle.std.specs.Prelude.{◌≡◌, refl, ◌≢◌, ℕ, ◌+◌, ◌^◌, ◌≤◌, ◌<◌, length}
use Rattle.std.proofs.Common.{sym, subst, ◌∙◌, inr, arith}
use Rattle.std.proofs.Math.Path.{ap}
use mathlib.Core.List.{List, [], ◌∷◌}
use Rattle.std.proofs.Math.ListN.{get_or}
use Rattle.node_allocator.specs.declared.Arena.{Arena}
use Rattle.node_allocator.specs.declared.Counts.{Counts}
use Rattle.node_allocator.specs.declared.Register.TheVariants.{Left}
use Rattle.node_allocator.specs.Layout.{record_at}
use Rattle.node_allocator.specs.Steps.{get_register, add_counts, add_image, remove_counts, remove_image}
use Rattle.arena_laws.specs.Places.{Inside, Lies, past_header, apart, width_some}
use Rattle.arena_laws.specs.Laws.{Outside, register_word}
use Rattle.arena_laws.specs.Taken.{add_freed, add_fresh, add_others, remove_is, remove_others, remove_left}

-- from i the chain goes through these records, each named by the one before it, and ends at `end`
unfoldable pub Chain : Arena → List ℕ → ℕ → ℕ → List ℕ → Type 0
Chain a ws end i [] = i ≡ end
Chain a ws end i (j ∷ js) =
    record { here : i ≡ j; named : Inside a j; inner : j ≢ end; rest : Chain a ws end (get_register a ws j Left) js }

-- P of each index of a list
abbrev pub Each : (ℕ → Type 0) → List ℕ → Type 0
Each P [] = Unit {0}
Each P (j ∷ js) = P j × Each P js

-- i is none of them
abbrev pub Without : ℕ → List ℕ → Type 0
Without i js = Each (λ j. j ≢ i) js

-- ---- what a chain goes by is register 0 of its records

pub chain_agree : (a : Arena) (ws vs : List ℕ) (end i : ℕ) (js : List ℕ)
    → Each (λ j. get_register a vs j Left ≡ get_register a ws j Left) js → Chain a ws end i js → Chain a vs end i js
unfolding Chain
chain_agree a ws vs end i [] f c = c
chain_agree a ws vs end i (j ∷ js) f c =
    record { here = c.here; named = c.named; inner = c.inner; rest = rw f.0 (chain_agree a ws vs end (get_register a ws j Left) js f.1 c.rest) }

-- a step that touches the header and register 0 of one record keeps every other link
module _ (a : Arena) (ws vs : List ℕ) (i : ℕ) (low : 1 ≤ i)
    (same : (k : ℕ) → Outside a k → k ≢ record_at a i → get_or vs k 0 ≡ get_or ws k 0) where
  link_kept : (j : ℕ) → Inside a j → j ≢ i → get_register a vs j Left ≡ get_register a ws j Left
  link_kept j h n =
      let off : record_at a j + 0 ≢ record_at a i + 0 = apart a j i 0 0 h.low low n (omega (arith, width_some a)) (omega (arith, width_some a)) in
      register_word vs Left h
      ∙ same (record_at a j + 0) (inr (omega (arith, past_header a j h.low))) (λ e. off (omega arith))
      ∙ sym (register_word ws Left h)

  pub chain_kept : (end k : ℕ) (js : List ℕ) → Without i js → Chain a ws end k js → Chain a vs end k js
  unfolding Chain
  chain_kept end k [] n c = c
  chain_kept end k (j ∷ js) n c =
      record {
        here = c.here;
        named = c.named;
        inner = c.inner;
        rest = rw (link_kept j c.named n.0) (chain_kept end (get_register a ws j Left) js n.1 c.rest);
      }

-- ---- adding and removing, with the header c

module _ (a : Arena) (ws : List ℕ) (c : Counts) where
  -- the chain loses its first, which is the record that is added
  pub chain_add : (j : ℕ) (js : List ℕ) → Without j js → Chain a ws c.bump c.head (j ∷ js)
      → (c.head ≡ j) × Chain a (add_image a ws c) (add_counts a ws c).bump (add_counts a ws c).head js
  unfolding Chain
  chain_add j js n k =
      let h : c.head ≡ j = k.here in
      let named : Inside a c.head = rw h k.named in
      let same : (p : ℕ) → Outside a p → p ≢ record_at a j → get_or (add_image a ws c) p 0 ≡ get_or ws p 0 =
      λ p o d. add_others a ws c p o (λ e. d (e ∙ ap (record_at a) h)) in
      let kept : Chain a (add_image a ws c) c.bump (get_register a ws j Left) js =
      chain_kept a ws (add_image a ws c) j k.named.low same c.bump (get_register a ws j Left) js n k.rest in
      (h, rw (add_freed a ws c named (λ e. k.inner (sym h ∙ e))) (subst (λ (x : ℕ). Chain a (add_image a ws c) c.bump (get_register a ws x Left) js) (sym h) kept))

  -- an empty chain: the record at the bump is added, and the chain is empty again
  pub chain_fresh : Inside a c.head → c.head + 1 < 2 ^ 32 → Chain a ws c.bump c.head []
      → (c.head ≡ c.bump) × Chain a (add_image a ws c) (add_counts a ws c).bump (add_counts a ws c).head []
  unfolding Chain
  chain_fresh named small k = (k, rw (add_fresh a ws c named k small) refl)

  -- a removed record stands in front
  pub chain_remove : Lies a (length ws) → (i : ℕ) (js : List ℕ) → Inside a i → i ≢ c.bump → Without i js → Chain a ws c.bump c.head js
      → Chain a (remove_image a ws i c) (remove_counts a c i).bump (remove_counts a c i).head (i ∷ js)
  unfolding Chain
  chain_remove lies i js named d n k =
      let kept : Chain a (remove_image a ws i c) c.bump c.head js =
      chain_kept a ws (remove_image a ws i c) i named.low (remove_others a ws i c) c.bump c.head js n k in
      let front : Chain a (remove_image a ws i c) c.bump i (i ∷ js) =
      record { here = refl; named = named; inner = d; rest = rw (remove_left a ws i c named lies) kept } in
      subst (λ (x : Counts). Chain a (remove_image a ws i c) x.bump x.head (i ∷ js)) (sym (remove_is a ws i c named)) front

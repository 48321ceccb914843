-- An inner node that an image holds, seen from the child on one side: `near` on that side, `far` on the other.
use Rattle.std.specs.Prelude.{◌≡◌, refl, List, ◌≢◌, Bool, true, false, cond, ℕ, ◌+◌, ◌≤◌, ◌<◌}
use Rattle.std.proofs.Common.{sym, ap, ◌∙◌, inl, inr, arith}
use Rattle.keys.specs.declared.Key.{Key}
use Rattle.records.specs.declared.Header.{Header}
use Rattle.records.specs.declared.Node.{Node}
use Rattle.records.specs.Records.{node_of, inner_node}
use Rattle.trees.specs.Tree.{Tree, inner, fork, top}
use Rattle.trees.specs.Nodes.{In}
use Rattle.accepted.specs.Rules.{Holds}
use Rattle.accepted.specs.Held.{once}
use Rattle.accepted.specs.Frame.{holds_kept}

-- its record
abbrev pub sided_node : ℕ → Key → ℕ → Bool → ℕ → ℕ → Node
sided_node parent key p side near far = inner_node parent key p (cond side far near) (cond side near far)

-- what an image that holds it holds
pub record Fork (h : Header) (ws : List ℕ) (parent low i : ℕ) (key : Key) (p : ℕ) (side : Bool) (near far : Tree) : Type 0 where
  pub index_some : 1 ≤ i
  pub index_used : i < h.nodes.bump
  pub here : node_of ws i ≡ sided_node parent key p side (top near) (top far)
  pub rises : low ≤ p
  pub short : p < 128
  pub two : top near ≢ top far
  pub on_near : Holds h ws i (p + 1) near
  pub on_far : Holds h ws i (p + 1) far

pub fork_held : (h : Header) (ws : List ℕ) (parent low i : ℕ) (key : Key) (p : ℕ) (side : Bool) (near far : Tree)
    → Holds h ws parent low (fork i key p side near far) → Fork h ws parent low i key p side near far
unfolding Holds
fork_held h ws parent low i key p true near far k =
    record { index_some = k.index_some; index_used = k.index_used; here = k.here; rises = k.rises; short = k.short; two = λ e. k.two (sym e); on_near = k.on_right; on_far = k.on_left }
fork_held h ws parent low i key p false near far k =
    record { index_some = k.index_some; index_used = k.index_used; here = k.here; rises = k.rises; short = k.short; two = k.two; on_near = k.on_left; on_far = k.on_right }

pub held_fork : (h : Header) (ws : List ℕ) (parent low i : ℕ) (key : Key) (p : ℕ) (side : Bool) (near far : Tree)
    → Fork h ws parent low i key p side near far → Holds h ws parent low (fork i key p side near far)
unfolding Holds
held_fork h ws parent low i key p true near far k =
    record { index_some = k.index_some; index_used = k.index_used; here = k.here; rises = k.rises; short = k.short; two = λ e. k.two (sym e); on_left = k.on_far; on_right = k.on_near }
held_fork h ws parent low i key p false near far k =
    record { index_some = k.index_some; index_used = k.index_used; here = k.here; rises = k.rises; short = k.short; two = k.two; on_left = k.on_near; on_right = k.on_far }

module _ (i : ℕ) (key : Key) (p : ℕ) where
  pub in_node : (side : Bool) (near far : Tree) → In i (fork i key p side near far)
  in_node true near far = inl refl
  in_node false near far = inl refl

  pub in_near : (side : Bool) (near far : Tree) (y : ℕ) → In y near → In y (fork i key p side near far)
  in_near true near far y q = inr (inr q)
  in_near false near far y q = inr (inl q)

  pub in_far : (side : Bool) (near far : Tree) (y : ℕ) → In y far → In y (fork i key p side near far)
  in_far true near far y q = inr (inl q)
  in_far false near far y q = inr (inr q)

  -- no node stands twice
  pub fork_once : (h : Header) (ws : List ℕ) (parent low : ℕ) (side : Bool) (near far : Tree) → Holds h ws parent low (fork i key p side near far)
      → (In i near → ⊥) × (In i far → ⊥) × ((y : ℕ) → In y near → In y far → ⊥)
  fork_once h ws parent low true near far k = let o = once h ws parent low (inner i key p far near) k in (o.1, o.0, λ y q z. o.2 y z q)
  fork_once h ws parent low false near far k = let o = once h ws parent low (inner i key p near far) k in (o.0, o.1, o.2)

-- it is held where another tree takes the near one's place, and neither it nor the far one changes
pub fork_rebuilt : (h g : Header) (ws vs : List ℕ) → h.nodes.bump ≤ g.nodes.bump → h.values.bump ≤ g.values.bump
    → (parent low i : ℕ) (key : Key) (p : ℕ) (side : Bool) (near near' far : Tree) → Holds h ws parent low (fork i key p side near far) → top near' ≡ top near
    → node_of vs i ≡ node_of ws i → ((y : ℕ) → In y far → node_of vs y ≡ node_of ws y) → Holds g vs i (p + 1) near' → Holds g vs parent low (fork i key p side near' far)
fork_rebuilt h g ws vs b c parent low i key p side near near' far k e here kept under =
    let f = fork_held h ws parent low i key p side near far k in
    held_fork g vs parent low i key p side near' far (record {
      index_some = f.index_some;
      index_used = omega (arith, f.index_used);
      here = here ∙ f.here ∙ ap (λ (y : ℕ). sided_node parent key p side y (top far)) (sym e);
      rises = f.rises;
      short = f.short;
      two = λ z. f.two (sym e ∙ z);
      on_near = under;
      on_far = holds_kept h g ws vs b c i (p + 1) far kept f.on_far;
    })

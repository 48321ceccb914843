-- Opening nodes from a popped one until a leaf comes, on an image that holds the popped tree: the leaf, the places and the count are those that the pop of the tree leaves.
use Rattle.std.specs.Prelude.{◌≡◌, List, ◌∷◌, Bool, length, set}
use Rattle.std.proofs.Math.Path.{refl}
use Rattle.std.proofs.Math.Bool.{true, false}
use Prim.Native.Nat.{ℕ, zero, suc, ◌+◌, ◌≤◌, ◌<◌}
use Rattle.std.proofs.Common.{arith, length-set}
use Rattle.std.proofs.Math.Numerals.{add-one}
use borrow.Author.Tests.{le-leb, lt-ltb, ne_eqb}
use Rattle.keys.specs.declared.Key.{Key}
use Rattle.records.specs.declared.Header.{Header}
use Rattle.records.specs.declared.Node.{Node}
use Rattle.records.specs.declared.NodeIndex.{NodeIndex}
use Rattle.records.specs.Records.{node_of, leaf_node, inner_node}
use Rattle.inspection.specs.declared.Visited.{Visited}
use Rattle.inspection.specs.declared.Visited.TheVariants as visited
use Rattle.inspection.specs.Visit.{visit_of, kind_of}
use Rattle.listing.specs.declared.Reached.{Reached}
use Rattle.listing.specs.Step.{near_of, far_of, open_turn, open_to}
use Rattle.lists.specs.Lists.{All}
use Rattle.trees.specs.Tree.{Tree, leaf, inner, top}
use Rattle.trees.specs.Paths.{depth}
use Rattle.trees.specs.Values.{Entry}
use Rattle.trees.specs.Walk.{popped}
use Rattle.trees.specs.Stacks.{passed, Small}
use Rattle.accepted.specs.Rules.{Holds}
use Rattle.accepted.specs.Held.{Clean, node_passes}
use Rattle.accepted_lookup.specs.Descents.{at}
use Rattle.accepted_listing.specs.Parts.{Named, named_pushed}

-- what is reached when a pop gives x: the leaf of its entry, and the stack that it leaves
pub record Reaches (x : Entry × List Tree) (o : Reached) : Type 0 where
  pub above : ℕ
  pub came : o.came ≡ visited.Leaf (leaf_node above x.0.0 x.0.1)
  pub room : length o.places ≡ 129
  pub counted : o.count ≡ length x.1
  pub named : Named o.places x.1

module _ (h : Header) (ws : List ℕ) (clean : Clean h ws) where
  -- what a visit finds at a held tree's top
  abbrev there : Tree → Visited
  there t = kind_of (node_of ws (top t))

  visit_held : (parent low : ℕ) (t : Tree) → Holds h ws parent low t → visit_of h ws (top t) parent low ≡ there t
  unfolding visit_of
  visit_held parent low t k = rw (node_passes h ws clean parent low t k)

  -- one opening: an inner node's far child is put on the stack, and its near child is opened next
  opened_inner : (back : Bool) (fuel : ℕ) (places : List NodeIndex) (s : List Tree) (i : ℕ) (x : Node) (near far : Tree)
      → near_of back x ≡ at (top near) → far_of back x ≡ at (top far) → length s + 2 ≤ 129 → x.prefix < 128
      → Holds h ws i (x.prefix + 1) near → Holds h ws i (x.prefix + 1) far
      → open_to (suc fuel) back h ws places (length s) (at i) (visited.Inner x)
      ≡ open_to fuel back h ws (set (set places (length s) (at (top far))) (length s + 1) (at (top near))) (length (far ∷ s)) (at (top near)) (there near)
  unfolding open_to open_turn
  opened_inner back fuel places s i x near far n f l p k q =
      rw (
        n,
        f,
        le-leb (length s + 2) 129 l,
        lt-ltb x.prefix 128 p,
        node_passes h ws clean i (x.prefix + 1) far q,
        visit_held i (x.prefix + 1) near k,
        add-one,
      )

  opened_leaf : (back : Bool) (fuel : ℕ) (places : List NodeIndex) (s : List Tree) (parent low i : ℕ) (key : Key) (v : ℕ) → Holds h ws parent low (leaf i key v)
      → open_to (suc fuel) back h ws places (length s) (at i) (there (leaf i key v))
      ≡ record { came = visited.Leaf (leaf_node parent key v); places = places; count = length s; leaf = at i }
  unfolding open_to open_turn Holds
  opened_leaf back fuel places s parent low i key v k = rw (k.here, ne_eqb v 0 (λ e. omega (arith, k.value_some)))

  -- the near child's opening is the node's
  through : (back : Bool) (fuel : ℕ) (places : List NodeIndex) (s : List Tree) (i : ℕ) (x : Node) (near far : Tree)
      → kind_of (node_of ws i) ≡ visited.Inner x → near_of back x ≡ at (top near) → far_of back x ≡ at (top far) → length (near ∷ far ∷ s) ≤ 129 → x.prefix < 128
      → Holds h ws i (x.prefix + 1) near → Holds h ws i (x.prefix + 1) far → length places ≡ 129 → Named places s
      → ((put : List NodeIndex) → length put ≡ 129 → Named put (far ∷ s)
      → Reaches (popped back near (far ∷ s)) (open_to fuel back h ws put (length (far ∷ s)) (at (top near)) (there near)))
      → Reaches (popped back near (far ∷ s)) (open_to (suc fuel) back h ws places (length s) (at i) (kind_of (node_of ws i)))
  through back fuel places s i x near far e n f l p k q r named go =
      rw (e, opened_inner back fuel places s i x near far n f (omega arith) p k q)
      (go (set (set places (length s) (at (top far))) (length s + 1) (at (top near))) (simp length-set r) (named_pushed places far (at (top near)) s (omega arith) named))

  pub opens : (back : Bool) (fuel : ℕ) (places : List NodeIndex) (s : List Tree) (t : Tree) (parent low : ℕ) → length places ≡ 129 → Named places s → All Small (passed back t s)
      → depth t ≤ fuel → Holds h ws parent low t → Reaches (popped back t s) (open_to fuel back h ws places (length s) (at (top t)) (kind_of (node_of ws (top t))))
  unfolding Holds
  opens back zero places s (leaf i key v) parent low r q b d k = absurd (omega arith)
  opens back zero places s (inner i key p l y) parent low r q b d k = absurd (omega arith)
  opens back (suc fuel) places s (leaf i key v) parent low r q b d k =
      rw (opened_leaf back fuel places s parent low i key v k) (record { above = parent; came = refl; room = r; counted = refl; named = q })
  opens false (suc fuel) places s (inner i key p l y) parent low r q b d k =
      through false fuel places s i (inner_node parent key p (top l) (top y)) l y (rw k.here) refl refl b.0 k.short k.on_left k.on_right r q
      (λ put r' q'. opens false fuel put (y ∷ s) l i (p + 1) r' q' b.1 (omega arith) k.on_left)
  opens true (suc fuel) places s (inner i key p l y) parent low r q b d k =
      through true fuel places s i (inner_node parent key p (top l) (top y)) y l (rw k.here) refl refl b.0 k.short k.on_right k.on_left r q
      (λ put r' q'. opens true fuel put (l ∷ s) y i (p + 1) r' q' b.1 (omega arith) k.on_right)

-- Where a remove takes place: the key's leaf hangs below a node of the tree, and its sibling beside it. The tests before
-- any write pass there, and the plan is to cut.
use Rattle.std.proofs.Math.Path.{◌≡◌, refl}
use Rattle.std.proofs.Common.{ap, subst, arith}
use Rattle.std.specs.Prelude.{List, Bool, ℕ, ◌+◌, ◌≤◌, Some, Ok}
use Rattle.std.proofs.Math.Bool.{true, false, cond}
use Rattle.std.proofs.Math.Option.{Option, none, some}
use borrow.Author.Tests.{ne_eqb, le-leb, lt-ltb}
use Rattle.keys.specs.declared.Key.{Key}
use Rattle.records.specs.declared.Header.{Header}
use Rattle.records.specs.declared.Node.{Node}
use Rattle.records.specs.declared.Value.{Value}
use Rattle.records.specs.Records.{node_of, leaf_node}
use Rattle.remove.specs.declared.Plan.TheVariants.{Cut}
use Rattle.remove.specs.Plan.{sibling_of, sibling_ok, cut_plan, leaf_plan}
use Rattle.lists.specs.Entries.{same}
use Rattle.trees.specs.Keys.{bit, unequal}
use Rattle.trees.specs.Tree.{Tree, leaf, inner, fork, top, relabel}
use Rattle.trees.specs.Nodes.{In}
use Rattle.trees.specs.Lookup.{reach}
use Rattle.trees.specs.Remove.{hit, close, remove}
use Rattle.trees.specs.Changes.{spot, in_spot, top_remove}
use Rattle.accepted.specs.Rules.{Holds}
use Rattle.accepted.specs.Held.{Clean, node_passes, kids_pass}
use Rattle.accepted_lookup.specs.Descents.{at}
use Rattle.accepted.specs.Forks.{sided_node, Fork, fork_held, in_node, in_near, in_far, fork_once, fork_rebuilt}

-- the subtree t is the parent of the leaf i of the key, which names value record j
pub record Spot (h : Header) (ws : List ℕ) (key : Key) (i j : ℕ) (t : Tree) : Type 0 where
  pub parent : ℕ
  pub low : ℕ
  pub p : ℕ
  pub label : Key
  pub prefix : ℕ
  pub side : Bool
  pub own : Key
  pub far : Tree
  pub is : t ≡ fork p label prefix side (leaf i own j) far
  pub whole : Holds h ws parent low (fork p label prefix side (leaf i own j) far)
  pub held : Fork h ws parent low p label prefix side (leaf i own j) far
  pub turns : bit key prefix ≡ side
  pub ours : same key own ≡ true

-- On the way from t down to the spot u only nodes above it are passed: where no other node changes and the sibling holds
-- the parent's place, the image holds the tree t' without the key.
pub record Trail (h : Header) (ws : List ℕ) (key : Key) (i j parent low : ℕ) (t u t' : Tree) : Type 0 where
  pub at : Spot h ws key i j u
  pub rebuilt : (g : Header) (vs : List ℕ) → h.nodes.bump ≤ g.nodes.bump → h.values.bump ≤ g.values.bump
      → ((y : ℕ) → In y t → (In y u → ⊥) → node_of vs y ≡ node_of ws y)
      → Holds g vs at.parent at.low (relabel at.p at.far) → Holds g vs parent low t'

abbrev inside : Option (ℕ × ℕ) → ℕ × ℕ
inside none = (0, 0)
inside (some e) = e

pub hit_leaf : (key : Key) (t : Tree) (i j : ℕ) → hit key t ≡ true → reach key t ≡ some (i, j) → (own : Key) × (t ≡ leaf i own j) × (same key own ≡ true)
hit_leaf key (inner x a q l r) i j g e = absurd (unequal false g refl)
hit_leaf key (leaf x a v) i j g e =
    let found : ◌≡◌ {A = Option (ℕ × ℕ)} (some (x, v)) (some (i, j)) = rw g at e in
    let index : x ≡ i = ap (λ (o : Option (ℕ × ℕ)). (inside o).0) found in
    let value : v ≡ j = ap (λ (o : Option (ℕ × ℕ)). (inside o).1) found in
    (a, (λ ι. leaf (index ι) a (value ι)), g)

module _ (h : Header) (ws : List ℕ) (key : Key) (i j : ℕ) where
  at_fork : (parent low x : ℕ) (a : Key) (q : ℕ) (side : Bool) (near far : Tree) → Holds h ws parent low (fork x a q side near far) → bit key q ≡ side
      → hit key near ≡ true → reach key near ≡ some (i, j) → Trail h ws key i j parent low (fork x a q side near far) (fork x a q side near far) (relabel x far)
  at_fork parent low x a q side near far k e g f =
      let z = hit_leaf key near i j g f in
      let here : fork x a q side near far ≡ fork x a q side (leaf i z.0 j) far = ap (λ (t : Tree). fork x a q side t far) z.1 in
      let whole : Holds h ws parent low (fork x a q side (leaf i z.0 j) far) = subst (λ (t : Tree). Holds h ws parent low t) here k in
      record {
        at = record {
          parent = parent;
          low = low;
          p = x;
          label = a;
          prefix = q;
          side = side;
          own = z.0;
          far = far;
          is = here;
          whole = whole;
          held = fork_held h ws parent low x a q side (leaf i z.0 j) far whole;
          turns = e;
          ours = z.2;
        };
        rebuilt = λ g vs b c kept holds. holds;
      }

  through_fork : (parent low x : ℕ) (a : Key) (q : ℕ) (side : Bool) (near far u near' : Tree) → Holds h ws parent low (fork x a q side near far) → top near' ≡ top near
      → ((y : ℕ) → In y u → In y near) → Trail h ws key i j x (q + 1) near u near' → Trail h ws key i j parent low (fork x a q side near far) u (fork x a q side near' far)
  through_fork parent low x a q side near far u near' k e within way =
      let o = fork_once x a q h ws parent low side near far k in
      record {
        at = way.at;
        rebuilt = λ g vs b c kept holds. fork_rebuilt h g ws vs b c parent low x a q side near near' far k e
            (kept x (in_node x a q side near far) (λ z. o.0 (within x z)))
            (λ y z. kept y (in_far x a q side near far y z) (λ d. o.2 y (within y d) z))
            (way.rebuilt g vs b c (λ y z d. kept y (in_near x a q side near far y z) d) holds);
      }

  -- a key that is reached, and is not the lone leaf's, has its leaf below a node
  pub below : (parent low : ℕ) (t : Tree) → Holds h ws parent low t → hit key t ≡ false → reach key t ≡ some (i, j) → Trail h ws key i j parent low t (spot key t) (remove key t)
  unfolding Holds
  below parent low (leaf x a v) k g e = let z : ◌≡◌ {A = Option (ℕ × ℕ)} none (some (i, j)) = rw g at e in let y : ◌≡◌ {A = ℕ} 0 1 = cc in absurd (omega arith)
  below parent low (inner x a q l r) k g e =
      go (bit key q) (hit key l) (hit key r) refl refl refl e (below x (q + 1) l k.on_left) (below x (q + 1) r k.on_right)
    where
      go : (b u w : Bool) → bit key q ≡ b → hit key l ≡ u → hit key r ≡ w → cond b (reach key r) (reach key l) ≡ some (i, j)
          → (hit key l ≡ false → reach key l ≡ some (i, j) → Trail h ws key i j x (q + 1) l (spot key l) (remove key l))
          → (hit key r ≡ false → reach key r ≡ some (i, j) → Trail h ws key i j x (q + 1) r (spot key r) (remove key r))
          → Trail h ws key i j parent low (inner x a q l r) (cond b (cond w (inner x a q l r) (spot key r)) (cond u (inner x a q l r) (spot key l)))
          (cond b (close x a q true w (remove key r) l) (close x a q false u (remove key l) r))
      go true u true b f g e left right = at_fork parent low x a q true r l k b g e
      go true u false b f g e left right = through_fork parent low x a q true r l (spot key r) (remove key r) k (top_remove key r) (in_spot key r) (right g e)
      go false true w b f g e left right = at_fork parent low x a q false l r k b f e
      go false false w b f g e left right = through_fork parent low x a q false l r (spot key l) (remove key l) k (top_remove key l) (in_spot key l) (left f e)

-- ---- the tests before any write

module _ {h : Header} {ws : List ℕ} {key : Key} {i j : ℕ} {t : Tree} (s : Spot h ws key i j t) where
  -- the records of the leaf and of the node above
  abbrev pub leaf_there : Node
  leaf_there = leaf_node s.p s.own j

  abbrev pub fork_there : Node
  fork_there = sided_node s.parent s.label s.prefix s.side i (top s.far)

  pub leaf_here : node_of ws i ≡ leaf_there
  unfolding Holds
  leaf_here = s.held.on_near.here

  sibling_is : sibling_of key fork_there ≡ at (top s.far)
  unfolding sibling_of
  sibling_is = rw s.turns (go s.side)
    where
      go : (b : Bool) → cond b (at (cond b (top s.far) i)) (at (cond b i (top s.far))) ≡ at (top s.far)
      go true = refl
      go false = refl

  pub cut_planned : Clean h ws → (v : Value)
      → leaf_plan h ws key (at i) (node_of ws i) (Some v) ≡ Ok (Cut h (at i) leaf_there fork_there (at (top s.far)) (node_of ws (top s.far)) v)
  unfolding leaf_plan cut_plan sibling_ok
  cut_planned clean v =
      simp (
        leaf_here,
        s.held.here,
        sibling_is,
        ne_eqb s.p 0 (λ z. omega (arith, s.held.index_some)),
        le-leb 1 s.p s.held.index_some,
        lt-ltb s.p h.nodes.bump s.held.index_used,
        lt-ltb s.prefix 128 s.held.short,
        node_passes h ws clean s.p (s.prefix + 1) s.far s.held.on_far,
        kids_pass h ws clean s.p (s.prefix + 1) s.far s.held.on_far,
      )

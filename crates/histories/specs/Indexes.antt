-- The law of the node index, which the list does not have: it names the leaf that holds the key. Address gives one exactly if the key is held, and after an insert it gives the one that the insert gave.
use Rattle.std.proofs.Math.Path.{◌≡◌, ap}
use Rattle.std.specs.Prelude.{refl, List, ◌↔◌, Bool, true, false, cond, length, leb, Err, Ok, Result}
use Rattle.std.proofs.Common.{sym, ◌∙◌, arith, eqb-true}
use Rattle.std.proofs.Math.Option.{Option, none, some, some-injective}
use Prim.Native.Nat.{ℕ, ◌+◌}
use Rattle.std.proofs.Math.Decide.{ℕ_discrete}
use Rattle.records.specs.declared.Refusal.{Refusal}
use Rattle.keys.specs.declared.Key.{Key}
use Rattle.keys.specs.Number.{Fits, number_of, number_equal}
use Rattle.records.specs.declared.NodeIndex.{NodeIndex}
use Rattle.records.specs.declared.Header.{Header}
use Rattle.records.specs.declared.Value.{Value}
use Rattle.records.specs.declared.Refusal.TheVariants as no
use Rattle.records.specs.Records.{header_of, node_of, leaf_node}
use Rattle.lookup.specs.Get.{addr_of}
use Rattle.insert.specs.Steps.{insert_of, insert_image}
use Rattle.lists.specs.Entries.{same, held}
use Rattle.lists.specs.Answers.{Answer, place_is, indexless, somewhere}
use Rattle.lists.specs.Machine.{FitsValue, ask, address}
use Rattle.trees.specs.Keys.{bit, shared}
use Rattle.trees.specs.Tree.{Tree, leaf, inner, Ordered}
use Rattle.trees.specs.Lookup.{lookup}
use Rattle.trees.specs.Map.{Map, lookup_in, OrderedMap}
use Rattle.accepted.specs.Rules.{Holds}
use Rattle.accepted.specs.Accepted.{Accepted, HoldsMap}
use Rattle.accepted_lookup.specs.Answers.{listed, place_from, addr_agrees}
use Rattle.accepted_insert.specs.Call.{insert_agrees}
use Rattle.histories.specs.Agrees.{call_agrees}

-- the leaf that a lookup finds is the key's
leaf_named : (h : Header) (ws : List ℕ) (key : Key) → Fits key → (parent low : ℕ) (t : Tree) → Holds h ws parent low t → Ordered t → (i v : ℕ) → lookup key t ≡ some (i, v)
    → (up : ℕ) × (node_of ws i ≡ leaf_node up key v)
unfolding Holds
leaf_named h ws key f parent low (leaf j b w) k o i v e = go (same key b) refl e
  where
    go : (q : Bool) → same key b ≡ q → cond {A = Option (ℕ × ℕ)} q (some (j, w)) none ≡ some (i, v) → (up : ℕ) × (node_of ws i ≡ leaf_node up key v)
    go true q z =
        let equal : b ≡ key = sym (number_equal f o (eqb-true (number_of key) (number_of b) q)) in
        let pair : ◌≡◌ {A = ℕ × ℕ} (j, w) (i, v) = some-injective (j, w) (i, v) z in
        let index : j ≡ i = ap (λ (x : ℕ × ℕ). x.0) pair in
        let cell : w ≡ v = ap (λ (x : ℕ × ℕ). x.1) pair in
        (parent, rw (sym index, k.here) (λ ι. leaf_node parent (equal ι) (cell ι)))
    go false q z = let z : ◌≡◌ {A = ℕ} 0 1 = cc in absurd (omega arith)
leaf_named h ws key f parent low (inner j b p l r) k o i v e =
    go (leb p (shared key b)) (bit key p) e (leaf_named h ws key f j (p + 1) l k.on_left o.on_left i v) (leaf_named h ws key f j (p + 1) r k.on_right o.on_right i v)
  where
    go : (q c : Bool) → cond q (cond c (lookup key r) (lookup key l)) none ≡ some (i, v)
        → (lookup key l ≡ some (i, v) → (up : ℕ) × (node_of ws i ≡ leaf_node up key v)) → (lookup key r ≡ some (i, v) → (up : ℕ) × (node_of ws i ≡ leaf_node up key v))
        → (up : ℕ) × (node_of ws i ≡ leaf_node up key v)
    go true true z x y = y z
    go true false z x y = x z
    go false c z x y = let z : ◌≡◌ {A = ℕ} 0 1 = cc in absurd (omega arith)

module _ {m n : ℕ} {ws : List ℕ} (a : Accepted m n ws) (key : Key) where
  -- address refuses exactly a key that is not held, as absent
  pub address_absent : (addr_of m n ws key ≡ Err no.Absent) ↔ (held key (listed a) ≡ false)
  address_absent = (λ e. only (held key (listed a)) refl (sym (ap (λ (p : Result NodeIndex Refusal). indexless (place_is p)) e) ∙ asked), λ e. when (addr_of m n ws key) (asked ∙ ap answer e))
    where
      answer : Bool → Answer
      answer b = cond b somewhere (place_is (Err no.Absent))

      asked : indexless (place_is (addr_of m n ws key)) ≡ answer (held key (listed a))
      asked = (call_agrees a (ask (address key)) tt).0

      only : (b : Bool) → held key (listed a) ≡ b → place_is (Err no.Absent) ≡ answer b → b ≡ false
      only true q z = let z : ◌≡◌ {A = ℕ} 0 1 = cc in absurd (omega arith)
      only false q z = refl

      when : (p : Result NodeIndex Refusal) → indexless (place_is p) ≡ place_is (Err no.Absent) → p ≡ Err no.Absent
      when (Ok i) z = let z : ◌≡◌ {A = ℕ} 0 1 = cc in absurd (omega arith)
      when (Err r) z = cc

  -- the index of a held key is that of its leaf: node i holds the key
  pub address_names : Fits key → (i : NodeIndex) → addr_of m n ws key ≡ Ok i → (up v : ℕ) × (node_of ws i.0 ≡ leaf_node up key v)
  unfolding HoldsMap
  address_names f i e = on_map a.tree a.holds a.ordered (sym (addr_agrees a key) ∙ e)
    where
      given : (r : Option (ℕ × ℕ)) → place_from r ≡ Ok i → (v : ℕ) × (r ≡ some (i.0, v))
      given none z = let z : ◌≡◌ {A = ℕ} 0 1 = cc in absurd (omega arith)
      given (some x) z = let index : x.0 ≡ i.0 = ap index_in z in (x.1, λ ι. some (index ι, x.1))
        where
          index_in : Result NodeIndex Refusal → ℕ
          index_in (Ok j) = j.0
          index_in (Err r) = 0

      on_map : (t : Map) → HoldsMap (header_of n ws) ws t → OrderedMap t → place_from (lookup_in key t) ≡ Ok i → (up v : ℕ) × (node_of ws i.0 ≡ leaf_node up key v)
      on_map none k o z = let z : ◌≡◌ {A = ℕ} 0 1 = cc in absurd (omega arith)
      on_map (some t) k o z =
          let there = given (lookup key t) z in
          let named = leaf_named (header_of n ws) ws key f 0 0 t k.held o i.0 there.0 there.1 in
          (named.0, there.0, named.1)

  -- an insert that is not refused gives the index at which the key then stands
  pub insert_addressed : Fits key → (v : Value) → FitsValue v → (i : NodeIndex) → insert_of m n ws key ≡ Ok i → addr_of m n (insert_image m n ws key v) key ≡ Ok i
  insert_addressed f v g i e = go (ℕ_discrete (length (listed a)) m)
    where
      go : Dec (length (listed a) ≡ m) → addr_of m n (insert_image m n ws key v) key ≡ Ok i
      go (yes q) =
          let r = (insert_agrees a key f v g).0 q in
          let z : Err no.Full ≡ Ok i = sym r.0 ∙ e in
          let z : ◌≡◌ {A = ℕ} 0 1 = cc in
          absurd (omega arith)
      go (no d) = let r = (insert_agrees a key f v g).1 d in r.2.2 ∙ sym r.1 ∙ e

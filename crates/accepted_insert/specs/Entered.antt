-- The list's insert in the two cases of the tree's, and the entries and counts of the tree's: an equal key gets the
-- value, a new key its place in the ascending order.
use Rattle.std.proofs.Math.Path.{◌≡◌}
use Rattle.std.specs.Prelude.{refl, List, [], ◌∷◌, ◌≢◌, Bool, ℕ, ◌+◌, ◌≤◌, leb, ltb}
use Rattle.std.proofs.Common.{sym, ap, pos_of_ne-zero}
use Rattle.std.proofs.Math.Bool.{true, false, cond}
use Rattle.std.proofs.Math.Option.{Option, none, some}
use native.Mathlib.Omega.{arith}
use Rattle.keys.specs.declared.Key.{Key}
use Rattle.keys.specs.Number.{number_of}
use Rattle.records.specs.declared.Value.{Value}
use Rattle.records.specs.Records.{value_record_of}
use Rattle.lists.specs.Lists.{All, all_both}
use Rattle.lists.specs.Entries.{same, Rising, held, update, enter, enter_held}
use Rattle.trees.specs.Keys.{shared, bit, unequal}
use Rattle.trees.specs.Tree.{Tree, leaf, inner, fork, top, key_of, relabel}
use Rattle.trees.specs.Lookup.{lookup}
use Rattle.trees.specs.Insert.{split, insert, put}
use Rattle.accepted.specs.Accepted.{nodes_in, value_at_record}
use Rattle.accepted_lookup.specs.Answers.{valued, valued_kept}

-- ---- a key that is held, and one that is not

-- a new key is put at its place; a held one is `enter_held` (crate `lists`, Entries)
pub enter_new : {A : Type 0} (key : Key) (v : A) (es : List (Key × A)) → held key es ≡ false
    → enter key v es ≡ put key v es
enter_new key v [] e = refl
enter_new key v (x ∷ es) e = go (same key x.0) (ltb (number_of key) (number_of x.0)) e (enter_new key v es)
  where
    go : (q l : Bool) → cond q true (held key es) ≡ false → (held key es ≡ false → enter key v es ≡ put key v es)
        → cond q ((x.0, v) ∷ es) (cond l ((key, v) ∷ x ∷ es) (x ∷ enter key v es)) ≡ cond q (x ∷ es)
        (cond l ((key, v) ∷ x ∷ es) (x ∷ put key v es))
    go true l d f = absurd (unequal true refl d)
    go false true d f = refl
    go false false d f = ap (λ l. x ∷ l) (f d)

-- so is every insert into an ascending list
pub enter_either : {A : Type 0} (key : Key) (v : A) (es : List (Key × A)) → Rising es
    → enter key v es ≡ cond (held key es) (update key v es) (put key v es)
enter_either key v es s = go (held key es) refl
  where
    go : (q : Bool) → held key es ≡ q → enter key v es ≡ cond q (update key v es) (put key v es)
    go true e = enter_held key v es s e
    go false e = enter_new key v es e

-- ---- the values of the entries after an insert

-- the new key's record j holds v, and every other record what it held
module _ (n : ℕ) (ws vs : List ℕ) (key : Key) (v : Value) (j : ℕ) (stored : (value_record_of n vs j).value ≡ v)
    (kept : (y : ℕ) → 1 ≤ y → y ≢ j → value_record_of n vs y ≡ value_record_of n ws y) where
  records_kept : (es : List (Key × ℕ)) → All (λ e. e.1 ≢ 0) es → All (λ e. j ≢ e.1) es
      → All (λ e. value_record_of n vs e.1 ≡ value_record_of n ws e.1) es
  records_kept = all_both (λ e z d. kept e.1 (pos_of_ne-zero z) (λ q. d (sym q)))

  pub valued_put : (es : List (Key × ℕ)) → All (λ e. e.1 ≢ 0) es → All (λ e. j ≢ e.1) es
      → valued n vs (put key j es) ≡ put key v (valued n ws es)
  valued_put [] z d = λ ι. (key, stored ι) ∷ []
  valued_put (e ∷ es) z d =
      go (same key e.0) (ltb (number_of key) (number_of e.0))
      (valued_kept n ws vs (e ∷ es) (records_kept (e ∷ es) z d)) (valued_put es z.1 d.1)
    where
      here : value_record_of n vs e.1 ≡ value_record_of n ws e.1
      here = (records_kept (e ∷ es) z d).0

      go : (q l : Bool) → valued n vs (e ∷ es) ≡ valued n ws (e ∷ es)
          → valued n vs (put key j es) ≡ put key v (valued n ws es)
          → valued n vs (cond q (e ∷ es) (cond l ((key, j) ∷ e ∷ es) (e ∷ put key j es)))
          ≡ cond q ((e.0, value_at_record n ws e.1) ∷ valued n ws es)
          (cond l ((key, v) ∷ (e.0, value_at_record n ws e.1) ∷ valued n ws es)
          ((e.0, value_at_record n ws e.1) ∷ put key v (valued n ws es)))
      go true l x y = x
      go false true x y = λ ι. (key, stored ι) ∷ x ι
      go false false x y = λ ι. (e.0, (here ι).value) ∷ y ι

-- ---- a new key makes two nodes more

nodes_fork : (i : ℕ) (key : Key) (c : ℕ) (b : Bool) (near far : Tree)
    → nodes_in (fork i key c b near far) ≡ nodes_in near + nodes_in far + 1
unfolding nodes_in
nodes_fork i key c true near far = omega arith
nodes_fork i key c false near far = refl

nodes_relabel : (j : ℕ) (t : Tree) → nodes_in (relabel j t) ≡ nodes_in t
unfolding nodes_in
nodes_relabel j (leaf i key v) = refl
nodes_relabel j (inner i key p l r) = refl

module _ (key : Key) (cell new copy : ℕ) where
  nodes_split : (x : Tree) → nodes_in (split key cell new copy x) ≡ nodes_in x + 2
  unfolding nodes_in
  nodes_split x =
      omega (
        arith,
        nodes_fork (top x) key (shared key (key_of x)) (bit key (shared key (key_of x))) (leaf new key cell)
            (relabel copy x),
        nodes_relabel copy x,
      )

  pub nodes_insert : (t : Tree) → lookup key t ≡ none → nodes_in (insert key cell new copy t) ≡ nodes_in t + 2
  unfolding nodes_in
  nodes_insert (leaf i a w) e = go (same key a) e
    where
      go : (q : Bool) → cond {A = Option (ℕ × ℕ)} q (some (i, w)) none ≡ none
          → nodes_in (cond q (leaf i a w) (split key cell new copy (leaf i a w))) ≡ 3
      go true d = let z : ◌≡◌ {A = ℕ} 0 1 = cc in absurd (omega arith)
      go false d = nodes_split (leaf i a w)
  nodes_insert (inner i a p l r) e = go (leb p (shared key a)) (bit key p) e (nodes_insert l) (nodes_insert r)
    where
      go : (q b : Bool) → cond q (cond b (lookup key r) (lookup key l)) none ≡ none
          → (lookup key l ≡ none → nodes_in (insert key cell new copy l) ≡ nodes_in l + 2)
          → (lookup key r ≡ none → nodes_in (insert key cell new copy r) ≡ nodes_in r + 2)
          → nodes_in
          (cond q (cond b (inner i a p l (insert key cell new copy r)) (inner i a p (insert key cell new copy l) r))
          (split key cell new copy (inner i a p l r))) ≡ nodes_in l + nodes_in r + 1 + 2
      go true true d f g = omega (arith, g d)
      go true false d f g = omega (arith, f d)
      go false b d f g = nodes_split (inner i a p l r)

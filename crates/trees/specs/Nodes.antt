-- The nodes of a tree: their indexes, and what each one's record holds, "Left, Right, Parent, Value, key .., prefix length" (the rules I).
-- Two trees that differ only below a node differ only in the records there.
use Rattle.std.specs.Prelude.{◌≡◌, refl, ◌⊎◌, Bool, true, false, ℕ}
use Rattle.std.proofs.Common.{ap, sym, subst, ◌∙◌, inl, inr}
use Rattle.keys.specs.declared.Key.{Key}
use Rattle.trees.specs.Tree.{Tree, leaf, inner, fork, top, relabel}

-- ---- indexes

abbrev pub In : ℕ → Tree → Type 0
In x (leaf i k v) = x ≡ i
In x (inner i k p l r) = (x ≡ i) ⊎ (In x l ⊎ In x r)

-- the children of the top
abbrev pub Child : ℕ → Tree → Type 0
Child x (leaf i k v) = ⊥
Child x (inner i k p l r) = (x ≡ top l) ⊎ (x ≡ top r)

pub in_top : (t : Tree) → In (top t) t
in_top (leaf i k v) = refl
in_top (inner i k p l r) = inl refl

pub is_top : (t : Tree) {x : ℕ} → x ≡ top t → In x t
is_top t e = subst (λ y. In y t) (sym e) (in_top t)

pub in_child : (x : ℕ) (t : Tree) → Child x t → In x t
in_child x (leaf i k v) q = absurd q
in_child x (inner i k p l r) (inl q) = inr (inl (is_top l q))
in_child x (inner i k p l r) (inr q) = inr (inr (is_top r q))

pub top_relabel : (j : ℕ) (t : Tree) → top (relabel j t) ≡ j
top_relabel j (leaf i k v) = refl
top_relabel j (inner i k p l r) = refl

pub top_fork : (i : ℕ) (k : Key) (p : ℕ) (b : Bool) (near far : Tree) → top (fork i k p b near far) ≡ i
top_fork i k p false near far = refl
top_fork i k p true near far = refl

-- ---- records

pub record Row : Type 0 where
  pub left : ℕ
  pub right : ℕ
  pub parent : ℕ
  pub value : ℕ
  pub key : Key
  pub prefix : ℕ

abbrev pub leaf_row : ℕ → Key → ℕ → Row
leaf_row parent k v = record { left = 0; right = 0; parent = parent; value = v; key = k; prefix = 128 }

abbrev pub inner_row : ℕ → Key → ℕ → ℕ → ℕ → Row
inner_row parent k p left right = record { left = left; right = right; parent = parent; value = 0; key = k; prefix = p }

-- t hangs below the node parent, and its node x holds n
abbrev pub Says : ℕ → Row → ℕ → Tree → Type 0
Says x n parent (leaf i k v) = (x ≡ i) × (n ≡ leaf_row parent k v)
Says x n parent (inner i k p l r) = ((x ≡ i) × (n ≡ inner_row parent k p (top l) (top r))) ⊎ (Says x n i l ⊎ Says x n i r)

-- the same over the side: near hangs on the side b
abbrev pub fork_row : ℕ → Key → ℕ → Bool → ℕ → ℕ → Row
fork_row parent k p false near far = inner_row parent k p near far
fork_row parent k p true near far = inner_row parent k p far near

abbrev pub SaysFork : ℕ → Row → ℕ → ℕ → Key → ℕ → Bool → Tree → Tree → Type 0
SaysFork x n parent i k p b near far = ((x ≡ i) × (n ≡ fork_row parent k p b (top near) (top far))) ⊎ (Says x n i near ⊎ Says x n i far)

pub fork_says : (x : ℕ) (n : Row) (parent i : ℕ) (k : Key) (p : ℕ) (b : Bool) (near far : Tree)
    → Says x n parent (fork i k p b near far) → SaysFork x n parent i k p b near far
fork_says x n parent i k p false near far q = q
fork_says x n parent i k p true near far (inl q) = inl q
fork_says x n parent i k p true near far (inr (inl q)) = inr (inr q)
fork_says x n parent i k p true near far (inr (inr q)) = inr (inl q)

pub says_fork : (x : ℕ) (n : Row) (parent i : ℕ) (k : Key) (p : ℕ) (b : Bool) (near far : Tree)
    → SaysFork x n parent i k p b near far → Says x n parent (fork i k p b near far)
says_fork x n parent i k p false near far q = q
says_fork x n parent i k p true near far (inl q) = inl q
says_fork x n parent i k p true near far (inr (inl q)) = inr (inr q)
says_fork x n parent i k p true near far (inr (inr q)) = inr (inl q)

-- below another node only the top holds something else
says_below : (x : ℕ) (n : Row) (i j : ℕ) (t : Tree) → Says x n i t → (x ≡ top t) ⊎ Says x n j t
says_below x n i j (leaf h k v) q = inl q.0
says_below x n i j (inner h k p l r) (inl q) = inl q.0
says_below x n i j (inner h k p l r) (inr q) = inr (inr q)

-- t's content stands in the node i, below one node, and then in the node j, below another: beyond the top only its children hold something else
pub says_moved : (x : ℕ) (n : Row) (parent parent' i j : ℕ) (t : Tree) → Says x n parent (relabel i t) → (x ≡ i) ⊎ (Child x t ⊎ Says x n parent' (relabel j t))
says_moved x n parent parent' i j (leaf h k v) q = inl q.0
says_moved x n parent parent' i j (inner h k p l r) (inl q) = inl q.0
says_moved x n parent parent' i j (inner h k p l r) (inr (inl q)) = inr (elim (says_below x n i j l q) [ inl e ↦ inl (inl e) | inr z ↦ inr (inr (inl z)) ])
says_moved x n parent parent' i j (inner h k p l r) (inr (inr q)) = inr (elim (says_below x n i j r q) [ inl e ↦ inl (inr e) | inr z ↦ inr (inr (inr z)) ])

pub relabel_top : (t : Tree) → relabel (top t) t ≡ t
relabel_top (leaf i k v) = refl
relabel_top (inner i k p l r) = refl

-- ---- the same records except at some nodes

-- t and u, which hang below the node parent, have the same nodes and hold the same in them, except in those of S
pub record Except (S : ℕ → Type 0) (parent : ℕ) (t u : Tree) : Type 0 where
  pub stays : (x : ℕ) (n : Row) → Says x n parent t → S x ⊎ Says x n parent u
  pub comes : (x : ℕ) (n : Row) → Says x n parent u → S x ⊎ Says x n parent t

pub except_same : (S : ℕ → Type 0) (parent : ℕ) (t : Tree) → Except S parent t t
except_same S parent t = record { stays = λ x n q. inr q; comes = λ x n q. inr q }

-- A change below an inner node, on either side, is a change of the whole.
pub except_below : (S : ℕ → Type 0) (parent i : ℕ) (k : Key) (p : ℕ) (b : Bool) (near near' far : Tree) → top near ≡ top near' → Except S i near near'
    → Except S parent (fork i k p b near far) (fork i k p b near' far)
except_below S parent i k p b near near' far e h = record {
  stays = λ x n q. go x n near near' e (h.stays x n) q;
  comes = λ x n q. go x n near' near (sym e) (h.comes x n) q;
}
  where
    go : (x : ℕ) (n : Row) (t u : Tree) → top t ≡ top u → (Says x n i t → S x ⊎ Says x n i u)
        → Says x n parent (fork i k p b t far) → S x ⊎ Says x n parent (fork i k p b u far)
    go x n t u e f q = one (fork_says x n parent i k p b t far q)
      where
        two : S x ⊎ Says x n i u → S x ⊎ Says x n parent (fork i k p b u far)
        two (inl s) = inl s
        two (inr z) = inr (says_fork x n parent i k p b u far (inr (inl z)))

        one : SaysFork x n parent i k p b t far → S x ⊎ Says x n parent (fork i k p b u far)
        one (inl z) = inr (says_fork x n parent i k p b u far (inl (z.0, z.1 ∙ ap (λ j. fork_row parent k p b j (top far)) e)))
        one (inr (inl z)) = two (f z)
        one (inr (inr z)) = inr (says_fork x n parent i k p b u far (inr (inr z)))

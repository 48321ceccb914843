-- The header after a store, and the words of padding: what each is made of, and what leaves it.
use Rattle.std.specs.Prelude.{◌≡◌, refl, List, ℕ, ◌+◌, ◌≤◌, ◌<◌, get_or}
use Rattle.std.proofs.Common.{sym, ap, ◌∙◌, inl, inr, arith}
use Rattle.node_allocator.specs.declared.Arena.TheVariants.{Nodes, Values}
use Rattle.node_allocator.specs.declared.Counts.{Counts}
use Rattle.node_allocator.specs.Layout.{node_at, values_at, header_at, record_at, capacity_of}
use Rattle.node_allocator.specs.Steps.{counts_of}
use Rattle.arena_laws.specs.Laws.{counts_same}
use Rattle.records.specs.declared.Header.{Header}
use Rattle.records.specs.Records.{header_of, front_of, padding_of}
use Rattle.record_views.specs.Words.{Alike, wide_same}
use Rattle.record_views.specs.Kept.{data_of, Off, Keeps, Spares, Elsewhere}
use Rattle.record_views.specs.Small.{Small, FitsCounts, counts_fit}

-- ---- the header by its parts

pub nodes_are : (n : ℕ) (ws : List ℕ) → (header_of n ws).nodes ≡ counts_of (Nodes n) ws
unfolding header_of counts_of header_at
nodes_are n ws = refl

pub values_are : (m n : ℕ) (ws : List ℕ) → (header_of n ws).values ≡ counts_of (Values n m) ws
unfolding header_of counts_of header_at
values_are m n ws = refl

pub header_is : (m n : ℕ) (ws : List ℕ) {r : ℕ} {p q : Counts} → get_or ws 2 0 ≡ r → counts_of (Nodes n) ws ≡ p → counts_of (Values n m) ws ≡ q
    → header_of n ws ≡ record { root = record { 0 = r }; nodes = p; values = q }
unfolding header_of counts_of header_at
header_is m n ws e f g = λ ι. record { root = record { 0 = e ι }; nodes = f ι; values = g ι }

-- its counts fit where every word does
pub nodes_fit : (n : ℕ) (ws : List ℕ) → Small ws → FitsCounts (header_of n ws).nodes
nodes_fit n ws s = rw (nodes_are n ws) (counts_fit (Nodes n) ws s)

pub values_fit : (n : ℕ) (ws : List ℕ) → Small ws → FitsCounts (header_of n ws).values
values_fit n ws s = rw (values_are 0 n ws) (counts_fit (Values n 0) ws s)

-- ---- what leaves it

-- a word of the header: the root, and the counts of both arenas
pub data Heading (n k : ℕ) : Type 0 where
  root : k ≡ 2 → Heading n k
  nodes : 4 ≤ k → k < 8 → Heading n k
  values : values_at n ≤ k → k < values_at n + 4 → Heading n k

-- none of them is data of a record
pub node_apart : {n i : ℕ} → Spares (Heading n) (Nodes n) i
unfolding record_at data_of capacity_of
node_apart {n} {i} = record { off = go }
  where
    go : (k : ℕ) → Heading n k → Off (Nodes n) i k
    go k (root e) named = inl (omega (arith, named.low))
    go k (nodes l h) named = inl (omega (arith, named.low))
    go k (values l h) named = inr (omega (arith, named.low, named.high))

pub value_apart : {m n j : ℕ} → Spares (Heading n) (Values n m) j
unfolding record_at
value_apart {m} {n} {j} = record { off = go }
  where
    go : (k : ℕ) → Heading n k → Off (Values n m) j k
    go k (root e) named = inl (omega arith)
    go k (nodes l h) named = inl (omega (arith, named.low))
    go k (values l h) named = inl (omega (arith, named.low))

pub header_kept : {n : ℕ} {ws vs : List ℕ} → Keeps (Heading n) ws vs → header_of n vs ≡ header_of n ws
unfolding header_at
header_kept {n} {ws} {vs} t =
    header_is 0 n vs (t.word 2 (root refl))
    (counts_same (Nodes n) ws vs (λ k l h. t.word k (nodes l h)))
    (counts_same (Values n 0) ws vs (λ k l h. t.word k (values l h)))
    ∙ sym (header_is 0 n ws refl refl refl)

-- a step of one arena leaves the root and the other's counts
pub nodes_header : {n i : ℕ} {ws vs : List ℕ} (c : Counts) → Keeps (Elsewhere (Nodes n) i) ws vs → counts_of (Nodes n) vs ≡ c
    → header_of n vs ≡ record { root = (header_of n ws).root; nodes = c; values = (header_of n ws).values }
unfolding header_at record_at data_of capacity_of
nodes_header {n} {i} {ws} {vs} c t e =
    let root = t.word 2 (record { outside = inl (omega arith); off = λ named. inl (omega (arith, named.low)) }) in
    let values = counts_same (Values n 0) ws vs (λ k l h. t.word k (record { outside = inr (omega arith); off = λ named. inr (omega (arith, named.low, named.high)) })) in
    header_is 0 n vs root e values ∙ ap (λ (h : Header). record { root = h.root; nodes = c; values = h.values }) (sym (header_is 0 n ws refl refl refl))

pub values_header : {m n j : ℕ} {ws vs : List ℕ} (c : Counts) → Keeps (Elsewhere (Values n m) j) ws vs → counts_of (Values n m) vs ≡ c
    → header_of n vs ≡ record { root = (header_of n ws).root; nodes = (header_of n ws).nodes; values = c }
unfolding header_at record_at
values_header {m} {n} {j} {ws} {vs} c t e =
    let before : (k : ℕ) → k < values_at n → get_or vs k 0 ≡ get_or ws k 0 =
    λ k l. t.word k (record { outside = inl l; off = λ named. inl (omega (arith, named.low)) }) in
    let nodes = counts_same (Nodes n) ws vs (λ k l h. before k (omega arith)) in
    header_is m n vs (before 2 (omega arith)) nodes e
    ∙ ap (λ (h : Header). record { root = h.root; nodes = h.nodes; values = c }) (sym (header_is m n ws refl refl refl))

-- ---- padding

pub front_kept : (ws vs : List ℕ) → Alike vs ws 0 2 → front_of vs ≡ front_of ws
unfolding front_of
front_kept ws vs f = wide_same vs ws 0 f

pub padding_kept : (ws vs : List ℕ) (i : ℕ) → Alike vs ws (node_at i + 10) (node_at i + 12) → padding_of vs i ≡ padding_of ws i
unfolding padding_of
padding_kept ws vs i f = wide_same vs ws (node_at i + 10) (λ k l h. f k l (omega arith))

-- Start on blank memory leaves an accepted image with the empty list: rules R9 and B3.
use Rattle.std.specs.Prelude.{◌≡◌, List, [], ℕ, ◌+◌, length, get_or, Ok}
use Rattle.std.proofs.Math.Path.{refl, ap}
use Rattle.std.proofs.Common.{◌∙◌, inl, inr, arith}
use Rattle.std.proofs.Math.Bool.{true}
use Rattle.std.proofs.Math.Option.{none}
use Rattle.words.specs.Wide.{wide_at}
use Rattle.words.specs.Zeros.{zeros_at, zeros_exact}
use Rattle.node_allocator.specs.declared.Arena.TheVariants.{Nodes, Values}
use Rattle.node_allocator.specs.declared.Counts.{Counts}
use Rattle.node_allocator.specs.Layout.{node_at, header_at}
use Rattle.node_allocator.specs.Steps.{initialized}
use Rattle.arena_laws.specs.Laws.{Outside, counts_stored}
use Rattle.records.specs.declared.Header.{Header}
use Rattle.records.specs.Records.{header_of, front_of, spare_of, padding_of}
use Rattle.inspection.specs.Opening.{blank_of}
use Rattle.inspection.specs.Room.{Shaped}
use Rattle.lookup.specs.Start.{started, start_of, done_image, start_image}
use Rattle.record_views.specs.Kept.{Keeps, unchanged, Elsewhere, elsewhere_clears, fresh_kept}
use Rattle.record_views.specs.Header.{nodes_header, values_header}
use Rattle.record_views.specs.Small.{small_initialized}
use Rattle.record_views.specs.Stored.{with_values}
use Rattle.accepted.specs.Rules.{ArenaRules, HeaderRules, Chain}
use Rattle.accepted.specs.Accepted.{Accepted, HoldsMap}
use Rattle.accepted.specs.Tests.{shape_passes}
use Rattle.accepted_lookup.specs.Answers.{listed}

-- every word is 0
abbrev pub Blank : List ℕ → Type 0
Blank ws = (k : ℕ) → get_or ws k 0 ≡ 0

module _ (m n : ℕ) (ws : List ℕ) (shape : Shaped m n (length ws)) (blank : Blank ws) where
  -- ---- the words after start

  abbrev first : List ℕ
  first = initialized (Nodes n) ws

  nodes_kept : Keeps (Elsewhere (Nodes n) 0) ws first
  nodes_kept = fresh_kept (Nodes n) elsewhere_clears unchanged

  values_kept : Keeps (Elsewhere (Values n m) 0) first (started m n ws)
  unfolding started
  values_kept = fresh_kept (Values n m) elsewhere_clears unchanged

  -- no word outside the headers is stored
  other : (k : ℕ) → Outside (Nodes n) k → Outside (Values n m) k → get_or (started m n ws) k 0 ≡ 0
  other k o p =
      values_kept.word k (record { outside = p; off = λ named. absurd (omega (arith, named.low)) })
      ∙ nodes_kept.word k (record { outside = o; off = λ named. absurd (omega (arith, named.low)) })
      ∙ blank k

  -- ---- the header

  abbrev empty : Counts
  empty = record { size = 0; bump = 1; head = 1 }

  abbrev fresh : Header
  fresh = record { root = record { 0 = 0 }; nodes = empty; values = empty }

  no_root : (header_of n ws).root.0 ≡ 0
  unfolding header_of
  no_root = blank 2

  header : header_of n (started m n ws) ≡ fresh
  unfolding started initialized header_at
  header =
      values_header empty values_kept (counts_stored (Values n m) first empty (omega (arith, nodes_kept.as_many, shape.words)))
      ∙ ap (with_values empty) (nodes_header empty nodes_kept (counts_stored (Nodes n) ws empty (omega (arith, shape.words))))
      ∙ λ ι. record { root = record { 0 = no_root ι }; nodes = empty; values = empty }

  -- ---- every rule

  arena : (limit : ℕ) → ArenaRules empty limit
  arena limit =
      record { bump_some = omega arith; bump_most = omega arith; head_some = omega arith; head_most = omega arith; size_most = omega arith; chain_empty = ((λ e. refl), λ e. refl) }

  rules : HeaderRules m n fresh
  rules =
      record {
        size_most = omega arith;
        node_size = refl;
        root_none = λ e. refl;
        root_one = λ e. absurd (e refl);
        empty_head = λ e. refl;
        nodes = arena n;
        values = arena m;
      }

  pub started_accepted : Accepted m n (started m n ws)
  unfolding HoldsMap Chain started header_at front_of spare_of padding_of wide_at
  started_accepted =
      record {
        shape = rw (values_kept.as_many ∙ nodes_kept.as_many) shape;
        words = small_initialized (Values n m) first (small_initialized (Nodes n) ws (λ k. rw (blank k) (omega arith)));
        front = rw (other 0 (inl (omega arith)) (inl (omega arith)), other 1 (inl (omega arith)) (inl (omega arith)));
        spare = other 3 (inl (omega arith)) (inl (omega arith));
        padding = λ i low high. rw (other (node_at i + 10) (inr (omega arith)) (inl (omega arith)), other (node_at i + 10 + 1) (inr (omega arith)) (inl (omega arith)));
        header = rw header rules;
        tree = none;
        holds = rw header refl;
        ordered = tt;
        different = record { nonzero = tt; different = tt };
        live = tt;
        free_nodes = [];
        node_chain = rw header refl;
        node_count = rw header refl;
        free_values = [];
        value_chain = rw header refl;
        value_count = rw header refl;
        nodes_unused = rw header (λ k l h. other k (inr (omega arith)) (inl (omega arith)));
        values_unused = rw header (λ k l h. other k (inr (omega arith)) (inr (omega arith)));
      }

  -- the list is empty
  pub started_listed : listed started_accepted ≡ []
  unfolding started_accepted
  started_listed = refl

  -- start answers yes, and its image is that one
  pub start_agrees : (start_of m n ws ≡ Ok tt) × (start_image m n ws ≡ started m n ws)
  unfolding start_image done_image blank_of
  start_agrees =
      let zeros : zeros_at ws 0 (length ws) ≡ true = (zeros_exact ws 0 (length ws)).1 (λ k a b. blank k) in
      (rw (shape_passes shape, zeros), rw (shape_passes shape, zeros))

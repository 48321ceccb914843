-- The words of an accepted image determine its tree, and so its list: two proofs that it is accepted cannot speak of two lists, and no image is in two states.
use Rattle.std.specs.Prelude.{◌≡◌, List, ℕ}
use Rattle.std.proofs.Math.Path.{refl, sym, ap}
use Rattle.std.proofs.Common.{◌∙◌, arith}
use Rattle.std.proofs.Math.Option.{none, some}
use Rattle.records.specs.Records.{header_of}
use Rattle.lists.specs.Machine.{Entries, State, blank, holding}
use Rattle.trees.specs.Tree.{Tree}
use Rattle.trees.specs.Map.{Map, list_of}
use Rattle.accepted.specs.Accepted.{Accepted, HoldsMap}
use Rattle.accepted.specs.Held.{some_nodes, unique}
use Rattle.accepted_lookup.specs.Answers.{valued, listed}
use Rattle.histories.specs.Blank.{never_blank}
use Rattle.histories.specs.Agrees.{Is}

module _ {m n : ℕ} {ws : List ℕ} (a b : Accepted m n ws) where
  maps_equal : (t u : Map) → HoldsMap (header_of n ws) ws t → HoldsMap (header_of n ws) ws u → t ≡ u
  unfolding HoldsMap
  maps_equal none none k g = refl
  maps_equal none (some u) k g = absurd (omega (arith, g.counted, some_nodes u, a.header.node_size))
  maps_equal (some t) none k g = absurd (omega (arith, k.counted, some_nodes t, a.header.node_size))
  maps_equal (some t) (some u) k g = ap (λ (x : Tree). some x) (unique (header_of n ws) ws 0 0 t u (k.at_root ∙ sym g.at_root) k.held g.held)

  pub one_tree : a.tree ≡ b.tree
  one_tree = maps_equal a.tree b.tree a.holds b.holds

  pub one_list : listed a ≡ listed b
  one_list = ap (λ (t : Map). valued n ws (list_of t)) one_tree

-- blank memory is not accepted, and an accepted image has one list
pub one_state : (m n : ℕ) (ws : List ℕ) (s t : State) → Is m n ws s → Is m n ws t → s ≡ t
one_state m n ws blank blank i j = refl
one_state m n ws blank (holding ds) i j = absurd (never_blank j.0 i.1)
one_state m n ws (holding es) blank i j = absurd (never_blank i.0 j.1)
one_state m n ws (holding es) (holding ds) i j = ap (λ (l : Entries). holding l) (sym i.1 ∙ one_list i.0 j.0 ∙ j.1)
